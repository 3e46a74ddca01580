-- The uses of each argument, by what is said.
use Rattle.std.proofs.Common.{◌≡◌, ◌∙◌, ◌++◌, suc, Bool, true, false, cond, refl, ap, codes, List, [], ◌∷◌, length}
use Rattle.std.specs.Borrow.{Bor}
use Rattle.std.specs.Prelude.{Option, Some, None, map, option_map, unwrap_or}
use Rattle.std.specs.Str.{bytes_eq}
use Rattle.clap.specs.Matches.{matched_of, raw_values}
use Rattle.clap.specs.Walk.{rows_of}
use Rattle.clap.specs.declared.parser.matches.Found.{Found}
use Rattle.clap.proofs.WalkLemmas.{raw_values-rows}
use Rattle.command_words.specs.Finding.{Tells, given, words_in}
use Rattle.command_words.specs.Said.{Numbered, fuel, lexeme, instances, sample, Said, free, check, number, Word, name_of}
use Rattle.command_words.specs.Words.{checks_in, free_in, values_of}

-- a value more, or none
one_or_none : (b : Bool) (value : Word) (mine more : List Word) → mine ≡ more → cond b (value ∷ []) [] ++ mine ≡ cond b (value ∷ more) more
one_or_none true value mine more e = ap (λ l. value ∷ l) e
one_or_none false value mine more e = e

pub given_number : (o : Numbered) (said : List Said) → given (name_of o) said ≡ values_of o said
given_number o [] = refl
given_number o (number p value ∷ said) = one_or_none (bytes_eq (name_of p) (name_of o)) value _ _ (given_number o said)
given_number fuel (free word ∷ said) = given_number fuel said
given_number lexeme (free word ∷ said) = given_number lexeme said
given_number instances (free word ∷ said) = given_number instances said
given_number sample (free word ∷ said) = given_number sample said
given_number fuel (check ∷ said) = given_number fuel said
given_number lexeme (check ∷ said) = given_number lexeme said
given_number instances (check ∷ said) = given_number instances said
given_number sample (check ∷ said) = given_number sample said

pub given_free : (said : List Said) → given (codes "operands") said ≡ free_in said
given_free [] = refl
given_free (free word ∷ said) = ap (λ l. word ∷ l) (given_free said)
given_free (check ∷ said) = given_free said
given_free (number fuel value ∷ said) = given_free said
given_free (number lexeme value ∷ said) = given_free said
given_free (number instances value ∷ said) = given_free said
given_free (number sample value ∷ said) = given_free said

pub given_checks : (said : List Said) → length (given (codes "check") said) ≡ checks_in said
given_checks [] = refl
given_checks (free word ∷ said) = given_checks said
given_checks (check ∷ said) = ap suc (given_checks said)
given_checks (number fuel value ∷ said) = given_checks said
given_checks (number lexeme value ∷ said) = given_checks said
given_checks (number instances value ∷ said) = given_checks said
given_checks (number sample value ∷ said) = given_checks said

-- the uses that are lent are those of what is said
pub lent_uses : (f : Found) (said : List Said) (id : Word) (lent : Option (Bor (List (Bor Word)))) → Tells (rows_of f) said
    → option_map (λ s. map (λ v. v.now) s.now) lent ≡ option_map raw_values (matched_of f id) → words_in lent ≡ given id said
lent_uses f said id lent tells e = go lent ∙ ap (λ o. unwrap_or o []) (e ∙ raw_values-rows f id) ∙ tells id
  where
    go : (o : Option (Bor (List (Bor Word)))) → words_in o ≡ unwrap_or (option_map (λ s. map (λ v. v.now) s.now) o) []
    go None = refl
    go (Some uses) = refl

pub lent_number : (f : Found) (said : List Said) (o : Numbered) (lent : Option (Bor (List (Bor Word)))) → Tells (rows_of f) said
    → option_map (λ s. map (λ v. v.now) s.now) lent ≡ option_map raw_values (matched_of f (name_of o)) → words_in lent ≡ values_of o said
lent_number f said o lent tells e = lent_uses f said (name_of o) lent tells e ∙ given_number o said

pub lent_checks : (f : Found) (said : List Said) (lent : Option (Bor (List (Bor Word)))) → Tells (rows_of f) said
    → option_map (λ s. map (λ v. v.now) s.now) lent ≡ option_map raw_values (matched_of f (codes "check")) → length (words_in lent) ≡ checks_in said
lent_checks f said lent tells e = ap (λ l. length l) (lent_uses f said (codes "check") lent tells e) ∙ given_checks said
