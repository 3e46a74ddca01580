use Rattle.std.proofs.Common.{◌≡◌, ap, sym, ◌∙◌, true, false, cond, take}
use Rattle.std.specs.Cmp.Lexicographic.{slice_cmp}
use Rattle.std.specs.List.{list_any}
use Rattle.std.specs.Ordering.{nat_cmp, is_eq, ordering_then}
use Rattle.std.proofs.lemmas.Bool.{not-true, not-false}
use Rattle.xml_names.specs.Tag.{same_expanded}
use Rattle.xml_names.proofs.Alike.{is_expanded, any-same, taken, twins-found, twins-none, expanded-alike, expanded-more}
use Rattle.xml_names.proofs.twins.has_repeated_names.Goals as goal

pub returns-then-not-branch : goal.returns-then-not-branch
returns-then-not-branch c =
    let attrs = c.args.attrs.now in
    let i = c.loop-attr.attr-index in
    let a = c.attr-item.result in
    let uri = c.as_str.result in
    let local = c.as_str-in-loop-attr.result in
    let held : list_any (is_expanded uri.now local.now) (take i attrs) ≡ true = sym (c.loop-attr.invariant.1 (uri, local)) ∙ not-false _ (sym c.in_ok-insert.ensures.added ∙ c.if-not-branch.true) in
    sym (twins-found same_expanded attrs i a c.loop-attr-test.true c.attr-item.is c.loop-attr.invariant.0
    (sym (any-same (is_expanded uri.now local.now) (λ b. same_expanded b a) (expanded-alike a uri.now local.now c.as_str.ensures.bytes c.as_str-in-loop-attr.ensures.bytes) (take i attrs)) ∙ held))

pub loop-attr-preserved : goal.loop-attr-preserved
loop-attr-preserved c =
    let attrs = c.args.attrs.now in
    let i = c.loop-attr.attr-index in
    let a = c.attr-item.result in
    let uri = c.as_str.result in
    let local = c.as_str-in-loop-attr.result in
    let has = c.loop-attr.invariant.1 in
    let old : list_any (is_expanded uri.now local.now) (take i attrs) ≡ false = sym (has (uri, local)) ∙ not-true _ (sym c.in_ok-insert.ensures.added ∙ c.if-not-branch.false) in
    let new = sym (any-same (is_expanded uri.now local.now) (λ b. same_expanded b a) (expanded-alike a uri.now local.now c.as_str.ensures.bytes c.as_str-in-loop-attr.ensures.bytes) (take i attrs)) ∙ old in (
      twins-none same_expanded attrs i a c.loop-attr-test.true c.attr-item.is c.loop-attr.invariant.0 new,
      λ q. c.in_ok-insert.ensures.updates.0 q
          ∙ ap (cond (is_eq (ordering_then (slice_cmp nat_cmp uri.now q.0.now) (slice_cmp nat_cmp local.now q.1.now))) true) (has q)
          ∙ expanded-more (take i attrs) a uri.now local.now q.0.now q.1.now c.as_str.ensures.bytes c.as_str-in-loop-attr.ensures.bytes
          ∙ ap (list_any (is_expanded q.0.now q.1.now)) (sym (taken same_expanded attrs i a c.loop-attr-test.true c.attr-item.is c.loop-attr.invariant.0)),
    )
