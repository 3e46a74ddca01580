-- What is spelled is read.
use Rattle.std.proofs.Common.{◌≡◌, ◌∙◌, ◌++◌, refl, sym, ap, ◌∷◌, codes}
use Rattle.std.specs.Prelude.{Some, None}
use Rattle.command_words.specs.Laws.{ReadsApart, ReadsSpelled, spelled}
use Rattle.command_words.specs.Said.{Numbered, fuel, lexeme, instances, sample, free, check, number, Word, awaits, has, kind, name_of, put, said_by, said_from}
use Rattle.command_words.proofs.law.spelling.Goals as goal

valued : (o : Numbered) (value : Word) → kind (spelled (number o value)) ≡ has o value
valued fuel value = refl
valued lexeme value = refl
valued instances value = refl
valued sample value = refl

bare : (o : Numbered) → kind (codes "--" ++ name_of o) ≡ awaits o
bare fuel = refl
bare lexeme = refl
bare instances = refl
bare sample = refl

reads_spelled : ReadsSpelled
reads_spelled (free word) words said p e =
    ap (λ k. said_by None k word words (λ next. said_from next words)) p ∙ ap (put (free word)) e
reads_spelled check words said p e = ap (put check) e
reads_spelled (number o value) words said p e =
    ap (λ k. said_by None k (spelled (number o value)) words (λ next. said_from next words)) (valued o value) ∙ ap (put (number o value)) e

reads_apart : ReadsApart
reads_apart o value words p =
    ap (λ k. said_by None k (codes "--" ++ name_of o) (value ∷ words) (λ next. said_from next (value ∷ words))) (bare o)
    ∙ ap (λ k. said_by (Some o) k value words (λ next. said_from next words)) p
    ∙ sym (ap (λ k. said_by None k (spelled (number o value)) words (λ next. said_from next words)) (valued o value))

pub returns-clause-spelled : goal.returns-clause-spelled
returns-clause-spelled c = reads_spelled

pub returns-clause-apart : goal.returns-clause-apart
returns-clause-apart c = reads_apart

pub returns-clause-rest : goal.returns-clause-rest
returns-clause-rest c = λ words. refl
