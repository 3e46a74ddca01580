-- What is asked for, part by part.
use Rattle.std.proofs.Common.{◌≡◌, ◌∙◌, ℕ, ◌<◌, zero, suc, ap, refl, sym, subst, arith, List, Result, Ok, Err, IsErrAnd}
use Rattle.std.specs.Prelude.{Option, Some, None, option_and_then, option_map}
use Rattle.stx_base.specs.declared.limits.Limits.{Limits}
use Rattle.command_words.specs.Said.{Said, Word, fuel, lexeme, instances, sample, said_from}
use Rattle.command_words.specs.Words.{Reads, checks_in, command_by, command_in, command_of, free_in, limits_in, mode_by, mode_in, number_in, operands_of, values_of, with_limits}
use Rattle.command_words.specs.declared.command.Command.{Command}
use Rattle.command_words.specs.declared.command.Mode.{Mode}
use Rattle.command_words.specs.Finding.{Finds}
use Rattle.command_words.specs.declared.fault.WordsFault.{WordsFault}
use Rattle.command_words.specs.declared.fault.WordsFault.TheVariants.{Usage, Memory}
use Rattle.command_words.specs.declared.param.Param.{Param}

-- ---- the limits

abbrev pub fuel_in : List Said → Option (Option ℕ)
fuel_in said = number_in 1 1000000000000 (values_of fuel said)

abbrev pub lexeme_in : List Said → Option (Option ℕ)
lexeme_in said = number_in 16 67108864 (values_of lexeme said)

abbrev pub instances_in : List Said → Option (Option ℕ)
instances_in said = number_in 1 65536 (values_of instances said)

abbrev three : Option (Option ℕ) → Option (Option ℕ) → Option (Option ℕ) → Option Limits
three a b c = option_and_then (λ f. option_and_then (λ l. option_map (λ i. with_limits f l i) c) b) a

pub no_fuel : (said : List Said) → fuel_in said ≡ None → limits_in said ≡ None
no_fuel said e = ap (λ a. three a (lexeme_in said) (instances_in said)) e

pub no_lexeme : (said : List Said) (f : Option ℕ) → fuel_in said ≡ Some f → lexeme_in said ≡ None → limits_in said ≡ None
no_lexeme said f e1 e2 = ap (λ a. three a (lexeme_in said) (instances_in said)) e1 ∙ ap (λ b. three (Some f) b (instances_in said)) e2

pub no_instances : (said : List Said) (f l : Option ℕ) → fuel_in said ≡ Some f → lexeme_in said ≡ Some l → instances_in said ≡ None
    → limits_in said ≡ None
no_instances said f l e1 e2 e3 =
    ap (λ a. three a (lexeme_in said) (instances_in said)) e1 ∙ ap (λ b. three (Some f) b (instances_in said)) e2
    ∙ ap (λ c. three (Some f) (Some l) c) e3

pub all_limits : (said : List Said) (f l i : Option ℕ) → fuel_in said ≡ Some f → lexeme_in said ≡ Some l → instances_in said ≡ Some i
    → limits_in said ≡ Some (with_limits f l i)
all_limits said f l i e1 e2 e3 =
    ap (λ a. three a (lexeme_in said) (instances_in said)) e1 ∙ ap (λ b. three (Some f) b (instances_in said)) e2
    ∙ ap (λ c. three (Some f) (Some l) c) e3

-- ---- the mode

abbrev pub sample_in : List Said → Option (Option ℕ)
sample_in said = number_in 1 1000000 (values_of sample said)

pub no_sample : (said : List Said) → sample_in said ≡ None → mode_in said ≡ None
no_sample said e = ap (λ o. option_and_then (mode_by (checks_in said)) o) e

pub mode_is : (said : List Said) (checks : ℕ) (records : Option ℕ) → checks ≡ checks_in said → sample_in said ≡ Some records
    → mode_by checks records ≡ mode_in said
mode_is said checks records e1 e2 = ap (λ n. mode_by n records) e1 ∙ ap (λ o. option_and_then (mode_by (checks_in said)) o) (sym e2)

-- ---- all

abbrev joined : Option Limits → Option Mode → Option (List ℕ × List Param) → Option Command
joined limits mode operands = option_and_then (λ l. option_and_then (λ m. option_map (command_by l m) operands) mode) limits

abbrev of_said : Option (List Said) → Option Command
of_said = option_and_then command_in

module _ (words : List Word) where
  pub unread : said_from None words ≡ None → command_of words ≡ None
  unread e = ap of_said e

  module _ (said : List Said) (is : said_from None words ≡ Some said) where
    pub no_limits : limits_in said ≡ None → command_of words ≡ None
    no_limits e = ap of_said is ∙ ap (λ l. joined l (mode_in said) (operands_of (free_in said))) e

    pub no_mode : (l : Limits) → limits_in said ≡ Some l → mode_in said ≡ None → command_of words ≡ None
    no_mode l e1 e2 =
        ap of_said is ∙ ap (λ o. joined o (mode_in said) (operands_of (free_in said))) e1 ∙ ap (λ o. joined (Some l) o (operands_of (free_in said))) e2

    pub no_operands : (l : Limits) (m : Mode) → limits_in said ≡ Some l → mode_in said ≡ Some m → operands_of (free_in said) ≡ None
        → command_of words ≡ None
    no_operands l m e1 e2 e3 =
        ap of_said is ∙ ap (λ o. joined o (mode_in said) (operands_of (free_in said))) e1 ∙ ap (λ o. joined (Some l) o (operands_of (free_in said))) e2
        ∙ ap (λ o. joined (Some l) (Some m) o) e3

    pub whole : (l : Limits) (m : Mode) (o : List ℕ × List Param) → limits_in said ≡ Some l → mode_in said ≡ Some m
        → operands_of (free_in said) ≡ Some o → command_of words ≡ Some (command_by l m o)
    whole l m o e1 e2 e3 =
        ap of_said is ∙ ap (λ x. joined x (mode_in said) (operands_of (free_in said))) e1 ∙ ap (λ x. joined (Some l) x (operands_of (free_in said))) e2
        ∙ ap (λ x. joined (Some l) (Some m) x) e3

-- ---- a refusal of a part is one of the whole

pub refused : {T U : Type 0} (part : Option T) (all : Option U) (f : WordsFault) → (part ≡ None → all ≡ None) → Reads part (Err f) → Reads all (Err f)
refused part all Usage k h = k h
refused part all Memory k h = tt

pub unread_refused : (words : List Word) (f : WordsFault) → Finds words (Err f) → Reads (command_of words) (Err f)
unread_refused words Usage h = unread words h
unread_refused words Memory h = tt

-- an error that is passed up as it is
pub refused_up : {T U : Type 0} (part : Option T) (all : Option U) (f : WordsFault) (r : Result U WordsFault) → IsErrAnd r (λ e. e ≡ f)
    → (part ≡ None → all ≡ None) → Reads part (Err f) → Reads all r
refused_up part all f (Ok x) is k h = absurd is
refused_up part all f (Err e) is k h = subst (λ x. Reads all (Err x)) (sym is) (refused part all f k h)

-- more than one `--check`
pub many_checks : (checks : ℕ) (records : Option ℕ) → 1 < checks → mode_by checks records ≡ None
many_checks zero records h = absurd (omega arith)
many_checks (suc zero) records h = absurd (omega arith)
many_checks (suc (suc n)) None h = refl
many_checks (suc (suc n)) (Some records) h = refl
