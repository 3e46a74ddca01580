use Rattle.std.proofs.Common.{◌≡◌, ◌-◌, take, sym, ap, ◌∙◌, arith}
use Rattle.std.specs.Str.{chars}
use Rattle.std.proofs.lemmas.Str.{chars-nil}
use Rattle.stxpath_values.proofs.OccurrenceLemmas.{splits, lacks}
use Rattle.stxpath_values.proofs.places.before.Goals as goal

pub returns-in-Some : goal.returns-in-Some
returns-in-Some c =
    let m = c.in-Some.ensures.cases in
    let s = splits c.args.text.now c.args.word.now _ m.0 c.utf8.text c.utf8.word m.1 m.3 m.4 in
    let n : c.in-Some.i - 0 ≡ c.in-Some.i = omega arith in
    ap chars (c.range.ensures.value ∙ ap (λ k. take k c.args.text.now) n) ∙ sym s.before

pub returns-in-None : goal.returns-in-None
returns-in-None c = rw (lacks c.args.text.now c.args.word.now c.utf8.text c.utf8.word c.in-None.ensures.cases) chars-nil
