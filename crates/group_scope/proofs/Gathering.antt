-- Entries one by one.
use Rattle.std.proofs.Common.{◌≡◌, ℕ, ◌+◌, ◌<◌, List, [], ◌∷◌, ◌++◌, length, get_or, take, map, ap, sym, ◌∙◌, arith}
use Rattle.std.proofs.lemmas.List.{take_more}
use Rattle.stxpath_syntax.specs.declared.expr.Alternative.{Alternative}
use Rattle.sheet_model.specs.declared.sheet.Template.{Template}
use Rattle.group_scope.specs.Choice.{all_from, alternatives_from, seen_by}
use Rattle.group_scope.specs.Filling.{as_own, entries_from, entries_of, entry_at, entry_of}
use Rattle.group_scope.specs.declared.rank.Category.TheVariants.{Own}
use Rattle.group_scope.proofs.Turns.{alternatives-more, candidate, length_of_take, map-append, visible-more}

pub entry_more : (number : ℕ) (t : Template) (as_ : List Alternative) (i : ℕ) (a : Alternative) → i < length as_ → a ≡ get_or as_ i a
    → map entry_of (alternatives_from number t Own 0 (take (i + 1) as_)) ≡ map entry_of (alternatives_from number t Own 0 (take i as_)) ++ entry_at number t i a ∷ []
entry_more number t as_ i a h at =
    let n : 0 + length (take i as_) ≡ i = omega (arith, length_of_take as_ i (omega arith)) in
    ap (λ l. map entry_of (alternatives_from number t Own 0 l)) (take_more as_ i a h ∙ ap (λ y. take i as_ ++ y ∷ []) (sym at))
    ∙ ap (map entry_of) (alternatives-more number t Own 0 (take i as_) a)
    ∙ map-append entry_of (alternatives_from number t Own 0 (take i as_)) (candidate number t Own (0 + length (take i as_)) a ∷ [])
    ∙ ap (λ k. map entry_of (alternatives_from number t Own 0 (take i as_)) ++ entry_at number t k a ∷ []) n

pub template_more : (ts : List Template) (i : ℕ) (t : Template) → i < length ts → t ≡ get_or ts i t
    → entries_from 0 (take (i + 1) ts) ≡ entries_from 0 (take i ts) ++ entries_of i t
template_more ts i t h at =
    let n : 0 + length (take i ts) ≡ i = omega (arith, length_of_take ts i (omega arith)) in
    ap (entries_from 0) (take_more ts i t h ∙ ap (λ y. take i ts ++ y ∷ []) (sym at))
    ∙ ap (map entry_of) (visible-more as_own 0 (take i ts) t)
    ∙ map-append entry_of (all_from as_own 0 (take i ts)) (seen_by (0 + length (take i ts)) t (as_own t))
    ∙ ap (λ k. entries_from 0 (take i ts) ++ entries_of k t) n
