use Rattle.std.proofs.Common.{◌≡◌, ap, sym, ◌∙◌, true, false, cond, take}
use Rattle.std.specs.Cmp.Lexicographic.{slice_cmp}
use Rattle.std.specs.List.{list_any}
use Rattle.std.specs.Ordering.{nat_cmp, is_eq}
use Rattle.std.proofs.lemmas.Bool.{not-true, not-false}
use Rattle.xml_names.specs.Tag.{same_written}
use Rattle.xml_names.proofs.Alike.{is_written, any-same, taken, twins-found, twins-none, written-alike, written-more}
use Rattle.xml_names.proofs.twins.has_repeated.Goals as goal

pub returns-then-not-branch : goal.returns-then-not-branch
returns-then-not-branch c =
    let attrs = c.args.attrs.now in
    let i = c.loop-attr.attr-index in
    let a = c.attr-item.result in
    let key = c.as_str.result in
    let held : list_any (is_written key.now) (take i attrs) ≡ true = sym (c.loop-attr.invariant.1 key) ∙ not-false _ (sym c.in_ok-insert.ensures.added ∙ c.if-not-branch.true) in
    sym (twins-found same_written attrs i a c.loop-attr-test.true c.attr-item.is c.loop-attr.invariant.0
    (sym (any-same (is_written key.now) (λ b. same_written b a) (written-alike a key.now c.as_str.ensures.bytes) (take i attrs)) ∙ held))

pub loop-attr-preserved : goal.loop-attr-preserved
loop-attr-preserved c =
    let attrs = c.args.attrs.now in
    let i = c.loop-attr.attr-index in
    let a = c.attr-item.result in
    let key = c.as_str.result in
    let bytes = c.as_str.ensures.bytes in
    let has = c.loop-attr.invariant.1 in
    let old : list_any (is_written key.now) (take i attrs) ≡ false = sym (has key) ∙ not-true _ (sym c.in_ok-insert.ensures.added ∙ c.if-not-branch.false) in
    let new = sym (any-same (is_written key.now) (λ b. same_written b a) (written-alike a key.now bytes) (take i attrs)) ∙ old in (
      twins-none same_written attrs i a c.loop-attr-test.true c.attr-item.is c.loop-attr.invariant.0 new,
      λ q. c.in_ok-insert.ensures.updates.0 q
          ∙ ap (cond (is_eq (slice_cmp nat_cmp key.now q.now)) true) (has q)
          ∙ written-more (take i attrs) a key.now q.now bytes
          ∙ ap (list_any (is_written q.now)) (sym (taken same_written attrs i a c.loop-attr-test.true c.attr-item.is c.loop-attr.invariant.0)),
    )
