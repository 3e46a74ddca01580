-- Atoms and lists of them as texts, whole numbers and truth values.
use Rattle.std.specs.Prelude.{ℕ, ℤ, pos, Bool, true, false, not, List, [], ◌∷◌, Result, Ok, Err, codes, ok_or, if◌then◌else◌}
use Rattle.std.specs.Ordering.{int_eq}
use Rattle.std.specs.Fmt.{signed_decimal}
use Rattle.stxpath_values.specs.Outcome.{and_then}
use Rattle.stxpath_values.specs.Numeral.{text_number}
use Rattle.stxpath_values.specs.declared.value.Atom.{Atom}
use Rattle.stxpath_values.specs.declared.value.Atom.TheVariants.{Whole, Chars, Truth}
use Rattle.stxpath_values.specs.declared.value.Item.{Item}
use Rattle.stxpath_values.specs.declared.value.Item.TheVariants as item
use Rattle.stxpath_values.specs.declared.fault.EvalFault.{EvalFault}
use Rattle.stxpath_values.specs.declared.fault.EvalFault.TheVariants.{NotOne, NotWhole}

-- whether a list has no item
abbrev pub is_empty : {A : Type 0} → List A → Bool
is_empty [] = true
is_empty (x ∷ xs) = false

-- a whole number in decimal, `true` or `false`, a text itself
abbrev pub atom_text : Atom → List ℕ
atom_text (Whole z) = signed_decimal z
atom_text (Chars cs) = cs
atom_text (Truth b) = if b then codes "true" else codes "false"

-- a whole number itself, the number of a numeral, 1 for true and 0 for false
abbrev pub atom_whole : Atom → Result ℤ EvalFault
atom_whole (Whole z) = Ok z
atom_whole (Chars cs) = and_then (text_number cs) (λ z. ok_or z NotWhole)
atom_whole (Truth b) = Ok (if b then pos 1 else pos 0)

-- a number other than 0, a text that isn't empty, a truth value itself
abbrev pub atom_truth : Atom → Bool
atom_truth (Whole z) = not (int_eq z (pos 0))
atom_truth (Chars cs) = not (is_empty cs)
atom_truth (Truth b) = b

-- a list as a text: that of its one item, the empty text of none
abbrev pub as_text : List Atom → Result (List ℕ) EvalFault
as_text [] = Ok []
as_text (x ∷ []) = Ok (atom_text x)
as_text (x ∷ y ∷ more) = Err NotOne

-- the one item of a list
abbrev pub as_one : List Atom → Result Atom EvalFault
as_one [] = Err NotOne
as_one (x ∷ []) = Ok x
as_one (x ∷ y ∷ more) = Err NotOne

-- a list as a whole number: that of its one item
abbrev pub as_whole : List Atom → Result ℤ EvalFault
as_whole xs = and_then (as_one xs) atom_whole

-- a list as a truth value: false where it is empty, true where a node is first, and else that of its one item
abbrev pub as_truth : List Item → Result Bool EvalFault
as_truth [] = Ok false
as_truth (item.Node n ∷ more) = Ok true
as_truth (item.Atom x ∷ []) = Ok (atom_truth x)
as_truth (item.Atom x ∷ y ∷ more) = Err NotOne
