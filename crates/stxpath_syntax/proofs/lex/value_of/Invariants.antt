use Rattle.std.proofs.Common.{◌≡◌, ◌^◌, ◌-◌, nat_lt, false, take}
use Rattle.std.specs.Str.Parse.{digits_value}
use Rattle.stxpath_syntax.proofs.lex.value_of.Given as goal

abbrev pub invariant-loop-digit : goal.invariant-loop-digit
invariant-loop-digit l = (l.value ≡ digits_value 10 (take l.digit-index l.digits)) × (nat_lt (2 ^ 63 - 1) l.value ≡ false)
