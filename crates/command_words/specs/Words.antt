-- Which words are accepted, and what they ask for.
use Rattle.std.specs.Prelude.{◌≡◌, ℕ, zero, suc, Bool, false, ◌&&◌, ◌||◌, nat_lt, nat_le, if◌then◌else◌, List, [], ◌∷◌, length, Option, Some, None, option_map, option_and_then, unwrap_or, Ok, Err}
use Rattle.std.specs.Global.{Vec}
use Rattle.std.specs.List.{list_all, list_any}
use Rattle.std.specs.Str.{bytes_eq, chars}
use Rattle.std.specs.Str.Parse.{digits_value}
use Rattle.std.specs.Char.{is_ascii_digit}
use Rattle.std.specs.declared.result.Result.{Result}
use Rattle.stx_base.specs.Character.{is_ncname}
use Rattle.stx_base.specs.StandardLimits.{standard_limits}
use Rattle.stx_base.specs.declared.limits.Limits.{Limits}
use Rattle.command_words.specs.Said.{Numbered, fuel, lexeme, instances, sample, Said, free, check, number, Word, name_of, has_equals, before_equals, after_equals, said_from}
use Rattle.command_words.specs.declared.command.Command.{Command}
use Rattle.command_words.specs.declared.command.Mode.{Mode}
use Rattle.command_words.specs.declared.command.Mode.TheVariants.{Run, Check, Sample}
use Rattle.command_words.specs.declared.fault.WordsFault.{WordsFault}
use Rattle.command_words.specs.declared.fault.WordsFault.TheVariants.{Usage, Memory}
use Rattle.command_words.specs.declared.param.Param.{Param}

-- the values that are given to an option, in order
abbrev pub values_of : Numbered → List Said → List Word
values_of o [] = []
values_of o (number p value ∷ said) = if bytes_eq (name_of p) (name_of o) then value ∷ values_of o said else values_of o said
values_of o (thing ∷ said) = values_of o said

-- how often `--check` is said
abbrev pub checks_in : List Said → ℕ
checks_in [] = zero
checks_in (check ∷ said) = suc (checks_in said)
checks_in (thing ∷ said) = checks_in said

-- the words that are no options
abbrev pub free_in : List Said → List Word
free_in [] = []
free_in (free word ∷ said) = word ∷ free_in said
free_in (thing ∷ said) = free_in said

-- one to nineteen ASCII digits
abbrev pub is_digits : Word → Bool
is_digits word = (nat_lt 0 (length word) && nat_le (length word) 19) && list_all is_ascii_digit word

-- one to nineteen ASCII digits with a value from `least` to `most`
abbrev pub is_numeral : (least most : ℕ) → Word → Bool
is_numeral least most word =
    is_digits word
    && (nat_le least (digits_value 10 word) && nat_le (digits_value 10 word) most)

-- the number of an option: it is given once, as a numeral in its range, or not at all
abbrev pub number_in : (least most : ℕ) → List Word → Option (Option ℕ)
number_in least most [] = Some None
number_in least most (word ∷ []) = if is_numeral least most word then Some (Some (digits_value 10 word)) else None
number_in least most (word ∷ other ∷ others) = None

-- the standard limits, but for those that are given
abbrev pub with_limits : (f l i : Option ℕ) → Limits
with_limits f l i = record standard_limits {
  fuel = unwrap_or f standard_limits.fuel;
  lexeme = unwrap_or l standard_limits.lexeme;
  instances = unwrap_or i standard_limits.instances;
}

abbrev pub limits_in : List Said → Option Limits
limits_in said =
    option_and_then (λ f. option_and_then (λ l. option_map (λ i. with_limits f l i)
    (number_in 1 65536 (values_of instances said)))
    (number_in 16 67108864 (values_of lexeme said)))
    (number_in 1 1000000000000 (values_of fuel said))

-- `--check` at most once, and not with `--sample`
abbrev pub mode_by : (checks : ℕ) → (records : Option ℕ) → Option Mode
mode_by zero None = Some Run
mode_by zero (Some n) = Some (Sample n)
mode_by (suc zero) None = Some Check
mode_by checks records = None

abbrev pub mode_in : List Said → Option Mode
mode_in said = option_and_then (mode_by (checks_in said)) (number_in 1 1000000 (values_of sample said))

-- NAME=VALUE, where NAME is a name without colon
abbrev pub param_of : Word → Option Param
param_of word =
    if has_equals word && is_ncname (chars (before_equals word))
    then Some (record { name = chars (before_equals word); value = chars (after_equals word) })
    else None

-- each of the words is such
abbrev pub each_param : List Word → Option (List Param)
each_param [] = Some []
each_param (word ∷ words) = option_and_then (λ p. option_map (λ ps. p ∷ ps) (each_param words)) (param_of word)

-- two have one name
abbrev pub has_twice : List Param → Bool
has_twice [] = false
has_twice (p ∷ ps) = list_any (λ q. bytes_eq q.name p.name) ps || has_twice ps

abbrev pub params_of : List Word → Option (List Param)
params_of words = option_and_then (λ ps. if has_twice ps then None else Some ps) (each_param words)

-- the sheet and the parameters
abbrev pub operands_of : List Word → Option (List ℕ × List Param)
operands_of [] = None
operands_of (sheet ∷ words) = option_map (λ ps. (chars sheet, ps)) (params_of words)

abbrev pub command_by : Limits → Mode → List ℕ × List Param → Command
command_by limits mode operands =
    record { sheet = operands.0; params = operands.1; limits = limits; mode = mode }

-- what is asked for by all that is said
abbrev pub command_in : List Said → Option Command
command_in said =
    option_and_then (λ limits. option_and_then (λ mode. option_map (command_by limits mode)
    (operands_of (free_in said)))
    (mode_in said))
    (limits_in said)

-- what the words ask for, if they are accepted
abbrev pub command_of : List Word → Option Command
command_of words = option_and_then command_in (said_from None words)

-- the value, if there is one, and a refusal where there is none
abbrev pub Reads : {T : Type 0} → Option T → Result T WordsFault → Type 0
Reads wanted (Ok value) = wanted ≡ Some value
Reads wanted (Err Usage) = wanted ≡ None
Reads wanted (Err Memory) = Unit {0}

-- the same of a list in a `Vec`
abbrev pub ReadsItems : {T : Type 0} → Option (List T) → Result (Vec T) WordsFault → Type 0
ReadsItems wanted (Ok items) = wanted ≡ Some items.items
ReadsItems wanted (Err Usage) = wanted ≡ None
ReadsItems wanted (Err Memory) = Unit {0}
