-- The functions that see no node.
use Rattle.std.specs.Prelude.{ℕ, ℤ, pos, ◌+ℤ◌, Bool, true, false, not, ◌&&◌, ◌==◌, nat_lt, nat_le, nat_eq, is_some, List, [], ◌∷◌, length, map, slice_get, Option, Some, None, unwrap_or, Result, Ok, Err, if◌then◌else◌}
use Rattle.std.specs.List.{concat, starts_with, ends_with}
use Rattle.std.specs.Ordering.{int_eq}
use Rattle.stx_base.specs.declared.limits.Limits.{Limits}
use Rattle.stx_base.specs.declared.expression.Cmp.TheVariants.{Eq}
use Rattle.stx_base.specs.declared.expression.Fun.{Fun}
use Rattle.stx_base.specs.declared.expression.Fun.TheVariants as fun
use Rattle.stxpath_values.specs.Outcome.{and_then, each}
use Rattle.stxpath_values.specs.Numeral.{whole}
use Rattle.stxpath_values.specs.Conversion.{is_empty, atom_text, atom_whole, as_text, as_one, as_whole}
use Rattle.stxpath_values.specs.Comparison.{pair_holds}
use Rattle.stxpath_values.specs.Places.{at_places, is_within, places_of, first_occurrence, before_word, after_word}
use Rattle.stxpath_values.specs.Words.{joined, normalized, translation}
use Rattle.stxpath_values.specs.declared.value.Atom.{Atom}
use Rattle.stxpath_values.specs.declared.value.Atom.TheVariants.{Whole, Chars, Truth}
use Rattle.stxpath_values.specs.declared.fault.EvalFault.{EvalFault}
use Rattle.stxpath_values.specs.declared.fault.EvalFault.TheVariants.{TextTooLong, SequenceTooLong}

-- how many arguments a function takes here: where one that is left out means the current node, it is handed in
abbrev pub takes : Fun → ℕ → Bool
takes fun.Str n = n == 1
takes fun.Integer n = n == 1
takes fun.True n = n == 0
takes fun.False n = n == 0
takes fun.Concat n = nat_le 2 n
takes fun.StringJoin n = n == 2
takes fun.StringLength n = n == 1
takes fun.Substring n = nat_le 2 n && nat_le n 3
takes fun.SubstringBefore n = n == 2
takes fun.SubstringAfter n = n == 2
takes fun.Contains n = n == 2
takes fun.StartsWith n = n == 2
takes fun.EndsWith n = n == 2
takes fun.NormalizeSpace n = n == 1
takes fun.Translate n = n == 3
takes fun.Count n = n == 1
takes fun.Empty n = n == 1
takes fun.Exists n = n == 1
takes fun.Sum n = n == 1
takes fun.ItemAt n = n == 2
takes fun.IndexOf n = n == 2
takes fun.Subsequence n = nat_le 2 n && nat_le n 3
takes other n = false

-- the argument at a place, from 0
abbrev pub argument : List (List Atom) → ℕ → List Atom
argument args i = unwrap_or (slice_get args i) []

-- what follows from arguments as texts and as whole numbers
abbrev pub with_text : {A : Type 0} → List Atom → (List ℕ → Result A EvalFault) → Result A EvalFault
with_text xs next = and_then (as_text xs) next

abbrev pub with_whole : {A : Type 0} → List Atom → (ℤ → Result A EvalFault) → Result A EvalFault
with_whole xs next = and_then (as_whole xs) next

-- the same of an argument that may be left out
abbrev pub with_whole_or_none : {A : Type 0} → Option (List Atom) → (Option ℤ → Result A EvalFault) → Result A EvalFault
with_whole_or_none None next = next None
with_whole_or_none (Some xs) next = and_then (as_whole xs) (λ z. next (Some z))

-- values of one item
abbrev pub text_value : List ℕ → Result (List Atom) EvalFault
text_value cs = Ok (Chars cs ∷ [])

abbrev pub truth_value : Bool → Result (List Atom) EvalFault
truth_value b = Ok (Truth b ∷ [])

abbrev pub whole_value : ℤ → Result (List Atom) EvalFault
whole_value z = and_then (whole z) (λ n. Ok (Whole n ∷ []))

-- a text that is made of several, within the limit
abbrev pub limited_text : Limits → List ℕ → Result (List ℕ) EvalFault
limited_text limits cs = if nat_lt limits.text (length cs) then Err TextTooLong else Ok cs

abbrev pub made_text : Limits → List ℕ → Result (List Atom) EvalFault
made_text limits cs = and_then (limited_text limits cs) text_value

-- the texts of atoms in a row, with one between each two, within the limit
abbrev pub joined_text : Limits → (separator : List ℕ) → List Atom → Result (List ℕ) EvalFault
joined_text limits separator atoms = limited_text limits (joined separator (map atom_text atoms))

-- atoms as one text: only where there are several is one made of them, within the limit
abbrev pub whole_text : Limits → (separator : List ℕ) → List Atom → Result (List ℕ) EvalFault
whole_text limits separator [] = Ok []
whole_text limits separator (x ∷ []) = Ok (atom_text x)
whole_text limits separator (x ∷ y ∷ xs) = joined_text limits separator (x ∷ y ∷ xs)

-- a list of several items, within the limit
abbrev pub limited_list : {A : Type 0} → Limits → List A → Result (List A) EvalFault
limited_list limits xs = if nat_lt limits.sequence (length xs) then Err SequenceTooLong else Ok xs

-- the sum of numbers
abbrev pub total : List ℤ → ℤ
total [] = pos 0
total (z ∷ zs) = z +ℤ total zs

-- the value of each function: its arguments are converted from left to right, and then computed with
abbrev pub called : Limits → Fun → List (List Atom) → Result (List Atom) EvalFault
called limits fun.Str args = with_text (argument args 0) text_value
called limits fun.Integer args = with_whole (argument args 0) whole_value
called limits fun.True args = truth_value true
called limits fun.False args = truth_value false
called limits fun.Concat args = and_then (each as_text args) (λ texts. made_text limits (concat texts))
called limits fun.StringJoin args =
    with_text (argument args 1) (λ separator. made_text limits (joined separator (map atom_text (argument args 0))))
called limits fun.StringLength args = with_text (argument args 0) (λ cs. whole_value (pos (length cs)))
called limits fun.Substring args =
    with_text (argument args 0) (λ cs. with_whole (argument args 1) (λ start. with_whole_or_none (slice_get args 2) (λ len.
    text_value (at_places (is_within start len) cs))))
called limits fun.SubstringBefore args =
    with_text (argument args 0) (λ cs. with_text (argument args 1) (λ word. text_value (before_word word cs)))
called limits fun.SubstringAfter args =
    with_text (argument args 0) (λ cs. with_text (argument args 1) (λ word. text_value (after_word word cs)))
called limits fun.Contains args =
    with_text (argument args 0) (λ cs. with_text (argument args 1) (λ word. truth_value (is_some (first_occurrence word cs))))
called limits fun.StartsWith args =
    with_text (argument args 0) (λ cs. with_text (argument args 1) (λ word. truth_value (starts_with nat_eq cs word)))
called limits fun.EndsWith args =
    with_text (argument args 0) (λ cs. with_text (argument args 1) (λ word. truth_value (ends_with nat_eq cs word)))
called limits fun.NormalizeSpace args = with_text (argument args 0) (λ cs. text_value (normalized cs))
called limits fun.Translate args =
    with_text (argument args 0) (λ cs. with_text (argument args 1) (λ from. with_text (argument args 2) (λ to.
    text_value (translation from to cs))))
called limits fun.Count args = whole_value (pos (length (argument args 0)))
called limits fun.Empty args = truth_value (is_empty (argument args 0))
called limits fun.Exists args = truth_value (not (is_empty (argument args 0)))
called limits fun.Sum args = and_then (each atom_whole (argument args 0)) (λ zs. whole_value (total zs))
called limits fun.ItemAt args = with_whole (argument args 1) (λ n. Ok (at_places (int_eq n) (argument args 0)))
called limits fun.IndexOf args =
    and_then (as_one (argument args 1)) (λ x. and_then (each (λ y. pair_holds Eq y x) (argument args 0)) (λ holds.
    limited_list limits (map (λ p. Whole (pos p)) (places_of holds))))
called limits fun.Subsequence args =
    with_whole (argument args 1) (λ start. with_whole_or_none (slice_get args 2) (λ len.
    limited_list limits (at_places (is_within start len) (argument args 0))))
called limits other args = Ok []
