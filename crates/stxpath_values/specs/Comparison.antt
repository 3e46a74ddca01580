-- When lists of atoms compare.
use Rattle.std.specs.Prelude.{ℕ, ℤ, Bool, true, false, List, Option, Some, Result, Ok, option_map}
use Rattle.std.specs.Option.{option_map_or}
use Rattle.std.specs.declared.cmp.Ordering.{Ordering}
use Rattle.std.specs.Ordering.{ordering_reverse, is_eq, is_ne, is_lt, is_gt, is_le, is_ge, nat_cmp, int_cmp, bool_cmp}
use Rattle.std.specs.Cmp.Lexicographic.{slice_cmp}
use Rattle.stx_base.specs.declared.expression.Cmp.{Cmp}
use Rattle.stx_base.specs.declared.expression.Cmp.TheVariants.{Eq, Ne, Lt, Le, Gt, Ge}
use Rattle.stxpath_values.specs.Outcome.{and_then, some_holds}
use Rattle.stxpath_values.specs.Numeral.{text_number}
use Rattle.stxpath_values.specs.Conversion.{atom_truth}
use Rattle.stxpath_values.specs.declared.value.Atom.{Atom}
use Rattle.stxpath_values.specs.declared.value.Atom.TheVariants.{Whole, Chars, Truth}
use Rattle.stxpath_values.specs.declared.fault.EvalFault.{EvalFault}

-- how a number stands to a text, `None` where that is no numeral
abbrev pub order_of_number : ℤ → List ℕ → Result (Option Ordering) EvalFault
order_of_number a cs = and_then (text_number cs) (λ b. Ok (option_map (int_cmp a) b))

-- how two atoms stand to each other, `None` where they are unequal and neither is less: a truth value with the other's
-- truth, false before true; a number with a number or a numeral; texts by the numbers of their characters
abbrev pub order : Atom → Atom → Result (Option Ordering) EvalFault
order (Truth a) y = Ok (Some (bool_cmp a (atom_truth y)))
order (Whole a) (Truth b) = Ok (Some (bool_cmp (atom_truth (Whole a)) b))
order (Whole a) (Whole b) = Ok (Some (int_cmp a b))
order (Whole a) (Chars ds) = order_of_number a ds
order (Chars cs) (Truth b) = Ok (Some (bool_cmp (atom_truth (Chars cs)) b))
order (Chars cs) (Whole b) = and_then (order_of_number b cs) (λ o. Ok (option_map ordering_reverse o))
order (Chars cs) (Chars ds) = Ok (Some (slice_cmp nat_cmp cs ds))

-- which comparisons hold of two that stand so
abbrev pub admits : Cmp → Option Ordering → Bool
admits Eq o = option_map_or is_eq o false
admits Ne o = option_map_or is_ne o true
admits Lt o = option_map_or is_lt o false
admits Le o = option_map_or is_le o false
admits Gt o = option_map_or is_gt o false
admits Ge o = option_map_or is_ge o false

-- whether a comparison holds of two atoms
abbrev pub pair_holds : Cmp → Atom → Atom → Result Bool EvalFault
pair_holds cmp x y = and_then (order x y) (λ o. Ok (admits cmp o))

-- whether it holds of some pair of items. The pairs are tried in order, the left item outermost
abbrev pub comparison : Cmp → List Atom → List Atom → Result Bool EvalFault
comparison cmp left right = some_holds (λ x. some_holds (pair_holds cmp x) right) left
