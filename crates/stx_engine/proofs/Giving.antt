-- Parameters are taken one after another.
use Rattle.std.proofs.Common.{◌≡◌, List, [], ◌∷◌, ◌++◌, length, map, refl, sym, ap, ◌∙◌, append_assoc, arith}
use Rattle.std.proofs.lemmas.List.{append-nil}
use Rattle.command_words.specs.declared.param.Param as given
use Rattle.template_machine.specs.declared.turn.Param.{Param}
use Rattle.stx_engine.specs.Answer.{param_of}

pub one-more : (before after : List Param) (g : given.Param) (left all rest : List given.Param) (p : Param) → p ≡ param_of g → left ≡ g ∷ rest → after ≡ before ++ p ∷ [] → before ++ map param_of left ≡ map param_of all
    → after ++ map param_of rest ≡ map param_of all
one-more before after g left all rest p is next pushed so_far =
    ap (λ l. l ++ map param_of rest) pushed ∙ append_assoc before (p ∷ []) (map param_of rest) ∙ ap (λ q. before ++ q ∷ map param_of rest) is
    ∙ ap (λ l. before ++ map param_of l) (sym next) ∙ so_far

empty-of : (left : List given.Param) → length left ≡ 0 → left ≡ []
empty-of [] h = refl
empty-of (g ∷ left) h = absurd (omega arith)

pub all-taken : (taken : List Param) (left all : List given.Param) → length left ≡ 0 → taken ++ map param_of left ≡ map param_of all → taken ≡ map param_of all
all-taken taken left all none so_far = sym (append-nil taken) ∙ ap (λ l. taken ++ map param_of l) (sym (empty-of left none)) ∙ so_far
