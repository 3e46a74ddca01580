use Rattle.std.proofs.Common.{ap, sym, ◌∙◌, true, false, cond, take}
use Rattle.std.specs.Cmp.Lexicographic.{slice_cmp}
use Rattle.std.specs.List.{list_any}
use Rattle.std.specs.Ordering.{nat_cmp, is_eq}
use Rattle.std.proofs.lemmas.Bool.{not-true, not-false}
use Rattle.command_words.proofs.Twice.{is_named, named-more, taken, twice-found, twice-none}
use Rattle.command_words.proofs.param.has_twice.Goals as goal

pub returns-then-not-branch : goal.returns-then-not-branch
returns-then-not-branch c =
    let params = c.args.params.now in
    let i = c.loop-param.param-index in
    let a = c.param-item.result in
    let key = c.as_str.result in
    sym (twice-found params i a key.now c.loop-param-test.true c.param-item.is c.as_str.ensures.bytes c.loop-param.invariant.0
    (sym (c.loop-param.invariant.1 key) ∙ not-false _ (sym c.in_ok-insert.ensures.added ∙ c.if-not-branch.true)))

pub loop-param-preserved : goal.loop-param-preserved
loop-param-preserved c =
    let params = c.args.params.now in
    let i = c.loop-param.param-index in
    let a = c.param-item.result in
    let key = c.as_str.result in
    let bytes = c.as_str.ensures.bytes in
    let less = c.loop-param-test.true in
    let none = c.loop-param.invariant.0 in
    let has = c.loop-param.invariant.1 in (
      twice-none params i a key.now less c.param-item.is bytes none (sym (has key) ∙ not-true _ (sym c.in_ok-insert.ensures.added ∙ c.if-not-branch.false)),
      λ q. c.in_ok-insert.ensures.updates.0 q
          ∙ ap (cond (is_eq (slice_cmp nat_cmp key.now q.now)) true) (has q)
          ∙ named-more (take i params) a key.now q.now bytes
          ∙ ap (list_any (is_named q.now)) (sym (taken params i a key.now less c.param-item.is bytes none)),
    )
