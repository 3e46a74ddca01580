use Rattle.std.proofs.Common.{drop, sym, ap, ◌∙◌}
use Rattle.std.specs.Str.{chars}
use Rattle.std.proofs.lemmas.Str.{chars-nil}
use Rattle.stxpath_values.proofs.OccurrenceLemmas.{splits, lacks}
use Rattle.stxpath_values.proofs.places.after.Goals as goal

pub returns-in-Some : goal.returns-in-Some
returns-in-Some c =
    let m = c.in-Some.ensures.cases in
    let s = splits c.args.text.now c.args.word.now _ m.0 c.utf8.text c.utf8.word m.1 m.3 m.4 in
    ap chars (c.range_from.ensures.value ∙ ap (λ k. drop k c.args.text.now) (sym m.1.1.ends)) ∙ sym s.after

pub returns-in-None : goal.returns-in-None
returns-in-None c = rw (lacks c.args.text.now c.args.word.now c.utf8.text c.utf8.word c.in-None.ensures.cases) chars-nil
