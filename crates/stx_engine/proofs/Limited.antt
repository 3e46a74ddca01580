-- The limits that words give are the standard ones but for those of fuel, lexemes and instances.
use Rattle.std.proofs.Common.{◌≡◌, ℕ, List, Option, Some, None, arith, sym, ap, subst}
use Rattle.std.specs.Option.{option_and_then, option_map}
use Rattle.std.proofs.lemmas.Option.{none-some, option_and_then_some, same_Some}
use Rattle.stx_base.specs.declared.limits.Limits.{Limits}
use Rattle.command_words.specs.Said.{Said, Word, fuel, instances, lexeme, said_from}
use Rattle.command_words.specs.Words.{command_by, command_in, command_of, free_in, limits_in, mode_in, number_in, operands_of, values_of, with_limits}
use Rattle.command_words.specs.declared.command.Command.{Command}
use Rattle.command_words.specs.declared.command.Mode.{Mode}
use Rattle.command_words.specs.declared.param.Param.{Param}
use Rattle.stx_engine.specs.Doing.{AreUsual}

usual-with : (f l i : Option ℕ) → AreUsual (with_limits f l i)
usual-with f l i = record { below = omega arith; depth = omega arith; elements = omega arith; input = omega arith }

usual-map : (f l : Option ℕ) (o : Option (Option ℕ)) (limits : Limits) → option_map (λ i. with_limits f l i) o ≡ Some limits → AreUsual limits
usual-map f l None limits e = absurd (none-some limits e)
usual-map f l (Some i) limits e = subst AreUsual (same_Some (with_limits f l i) limits e) (usual-with f l i)

usual-limits : (said : List Said) (limits : Limits) → limits_in said ≡ Some limits → AreUsual limits
usual-limits said limits e =
    let i : Option (Option ℕ) = number_in 1 65536 (values_of instances said) in
    let by_lexeme : Option ℕ → Option ℕ → Option Limits = λ f l. option_map (λ i. with_limits f l i) i in
    let l : Option (Option ℕ) = number_in 16 67108864 (values_of lexeme said) in
    let by_fuel : Option ℕ → Option Limits = λ f. option_and_then (by_lexeme f) l in
    option_and_then_some by_fuel (number_in 1 1000000000000 (values_of fuel said)) limits e
    (λ f f_is then. option_and_then_some (by_lexeme f) l limits then (λ l l_is last. usual-map f l i limits last))

limits-by : (limits : Limits) (mode : Option Mode) (operands : Option (List ℕ × List Param)) (c : Command)
    → option_and_then (λ mode. option_map (command_by limits mode) operands) mode ≡ Some c → c.limits ≡ limits
limits-by limits None operands c e = absurd (none-some c e)
limits-by limits (Some mode) None c e = absurd (none-some c e)
limits-by limits (Some mode) (Some operands) c e = ap (λ c. c.limits) (sym (same_Some (command_by limits mode operands) c e))

usual-said : (said : List Said) (c : Command) → command_in said ≡ Some c → AreUsual c.limits
usual-said said c e =
    option_and_then_some (λ limits. option_and_then (λ mode. option_map (command_by limits mode) (operands_of (free_in said))) (mode_in said)) (limits_in said) c e
    (λ limits is then. subst AreUsual (sym (limits-by limits (mode_in said) (operands_of (free_in said)) c then)) (usual-limits said limits is))

pub usual : (words : List Word) (c : Command) → command_of words ≡ Some c → AreUsual c.limits
usual words c e = option_and_then_some command_in (said_from None words) c e (λ said is then. usual-said said c then)
