use Rattle.std.proofs.Common.{Some, sym, ap, ◌∙◌}
use Rattle.std.specs.Ordering.{nat_cmp}
use Rattle.std.specs.Cmp.Lexicographic.{slice_cmp}
use Rattle.std.specs.Str.{chars}
use Rattle.stxpath_values.specs.Comparison.{admits}
use Rattle.stxpath_values.proofs.EqualTextLemmas.{same_texts, other_texts}
use Rattle.stxpath_values.proofs.comparison.texts_hold.Goals as goal

pub returns-in-Eq : goal.returns-in-Eq
returns-in-Eq c =
    c.eq.ensures ∙ same_texts c.args.left.now c.args.right.now c.utf8.left c.utf8.right
    ∙ ap (λ cmp. admits cmp (Some (slice_cmp nat_cmp (chars c.args.left.now) (chars c.args.right.now)))) (sym c.in-Eq.is)

pub returns-in-Ne : goal.returns-in-Ne
returns-in-Ne c =
    c.ne.ensures ∙ other_texts c.args.left.now c.args.right.now c.utf8.left c.utf8.right
    ∙ ap (λ cmp. admits cmp (Some (slice_cmp nat_cmp (chars c.args.left.now) (chars c.args.right.now)))) (sym c.in-Ne.is)
