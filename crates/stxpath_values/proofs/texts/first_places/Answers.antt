use Rattle.std.proofs.Common.{ℕ, ◌==◌, take, cond, None, Some, sym, ap, ◌∙◌, arith, length, ◌<◌, position}
use Rattle.std.specs.Option.{option_or}
use Rattle.stxpath_values.proofs.PlacesLemmas.{position_step}
use Rattle.stxpath_values.proofs.texts.first_places.Goals as goal

pub loop-i-preserved : goal.loop-i-preserved
loop-i-preserved c = λ q.
    let xs = c.args.chars.now in
    let i = c.loop-i.i in
    let within : i < length xs = omega arith in
    let d = c.index-chars-i.result in
    let e = c.in_ok-keep_first.ensures in
    c.in_ok-keep_first.ensures q ∙ ap (λ o. option_or o (cond (d == q) (Some i) None)) (c.loop-i.invariant q)
    ∙ ap (λ (x : ℕ). option_or (position (λ d. d == q) (take i xs)) (cond (x == q) (Some i) None)) c.index-chars-i.is
    ∙ sym (position_step (λ d. d == q) xs i d within)
