-- Options and other words are told apart wherever they stand.
use Rattle.std.proofs.Common.{◌≡◌, ◌∙◌, ◌++◌, ℕ, suc, cond, refl, ap, ap₂, List, [], ◌∷◌}
use Rattle.std.specs.Prelude.{Option, option_and_then, option_map}
use Rattle.std.specs.Str.{bytes_eq}
use Rattle.command_words.specs.Laws.{IsFree, MovesOptions}
use Rattle.command_words.specs.Said.{Numbered, fuel, lexeme, instances, sample, Said, free, check, number, Word, name_of}
use Rattle.command_words.specs.Words.{checks_in, command_by, free_in, mode_by, number_in, operands_of, values_of, with_limits}
use Rattle.command_words.specs.declared.command.Command.{Command}
use Rattle.command_words.proofs.law.places.Goals as goal

abbrev with_free_first : List Said → List Said → Word → Said → List Said
with_free_first front back word option = front ++ free word ∷ option ∷ back

abbrev with_free_last : List Said → List Said → Word → Said → List Said
with_free_last front back word option = front ++ option ∷ free word ∷ back

same_values : (o : Numbered) (front back : List Said) (word : Word) (option : Said) → (IsFree option → ⊥)
    → values_of o (with_free_first front back word option) ≡ values_of o (with_free_last front back word option)
same_values o [] back word (free other) h = absurd (h tt)
same_values o [] back word check h = refl
same_values o [] back word (number p value) h = refl
same_values o (free other ∷ front) back word option h = same_values o front back word option h
same_values o (check ∷ front) back word option h = same_values o front back word option h
same_values o (number p value ∷ front) back word option h =
    ap (λ l. cond (bytes_eq (name_of p) (name_of o)) (value ∷ l) l) (same_values o front back word option h)

same_checks : (front back : List Said) (word : Word) (option : Said) → (IsFree option → ⊥)
    → checks_in (with_free_first front back word option) ≡ checks_in (with_free_last front back word option)
same_checks [] back word (free other) h = absurd (h tt)
same_checks [] back word check h = refl
same_checks [] back word (number p value) h = refl
same_checks (free other ∷ front) back word option h = same_checks front back word option h
same_checks (check ∷ front) back word option h = ap suc (same_checks front back word option h)
same_checks (number p value ∷ front) back word option h = same_checks front back word option h

same_free : (front back : List Said) (word : Word) (option : Said) → (IsFree option → ⊥)
    → free_in (with_free_first front back word option) ≡ free_in (with_free_last front back word option)
same_free [] back word (free other) h = absurd (h tt)
same_free [] back word check h = refl
same_free [] back word (number p value) h = refl
same_free (free other ∷ front) back word option h = ap (λ l. other ∷ l) (same_free front back word option h)
same_free (check ∷ front) back word option h = same_free front back word option h
same_free (number p value ∷ front) back word option h = same_free front back word option h

-- what is asked for, by its parts
abbrev by_parts : (f l i s : List Word) → (checks : ℕ) → (words : List Word) → Option Command
by_parts f l i s checks words =
    option_and_then (λ limits. option_and_then (λ mode. option_map (command_by limits mode) (operands_of words))
    (option_and_then (mode_by checks) (number_in 1 1000000 s)))
    (option_and_then (λ x. option_and_then (λ y. option_map (λ z. with_limits x y z) (number_in 1 65536 i)) (number_in 16 67108864 l))
    (number_in 1 1000000000000 f))

moves : MovesOptions
moves front back word option h =
    let a : List Said = with_free_first front back word option in let b : List Said = with_free_last front back word option in
    let moved = λ (o : Numbered). same_values o front back word option h in
    ap₂ (λ f l. by_parts f l (values_of instances a) (values_of sample a) (checks_in a) (free_in a)) (moved fuel) (moved lexeme)
    ∙ ap₂ (λ i s. by_parts (values_of fuel b) (values_of lexeme b) i s (checks_in a) (free_in a)) (moved instances) (moved sample)
    ∙ ap₂ (λ n w. by_parts (values_of fuel b) (values_of lexeme b) (values_of instances b) (values_of sample b) n w)
    (same_checks front back word option h) (same_free front back word option h)

pub returns : goal.returns
returns c = moves
