-- What atoms that are lent, and sequences, mean.
use Rattle.std.specs.Prelude.{List, [], ◌∷◌, Result}
use Rattle.std.specs.Result.{result_map_both}
use Rattle.stxpath_values.specs.declared.lent.AtomRef.{AtomRef}
use Rattle.stxpath_values.specs.declared.lent.AtomRef.TheVariants as lent
use Rattle.stxpath_values.specs.declared.lent.Atoms.{Atoms}
use Rattle.stxpath_values.specs.declared.lent.Atoms.TheVariants as atoms
use Rattle.stxpath_values.specs.declared.lent.Sequence.{Sequence}
use Rattle.stxpath_values.specs.declared.lent.Sequence.TheVariants as sequence
use Rattle.stxpath_values.specs.declared.fault.EvalFault.{EvalFault}
use Rattle.stxpath_values.specs.declared.fault.EvalStop.{EvalStop}
use Rattle.stxpath_values.specs.declared.value.Atom.{Atom}
use Rattle.stxpath_values.specs.declared.value.Atom.TheVariants.{Whole, Chars, Truth}
use Rattle.stxpath_values.specs.Outcome.{IsAnswer}

abbrev pub atom_of : AtomRef → Atom
atom_of (lent.Whole z) = Whole z
atom_of (lent.Chars text) = Chars text.now
atom_of (lent.Truth b) = Truth b

abbrev pub atoms_of : Atoms → List Atom
atoms_of (atoms.One a) = atom_of a ∷ []
atoms_of (atoms.List xs) = xs.now

abbrev pub sequence_of : Sequence → List Atom
sequence_of (sequence.Lent xs) = atoms_of xs
sequence_of (sequence.Text text) = Chars text ∷ []
sequence_of (sequence.List xs) = xs

-- a call answers with the sequence, or with its fault, or memory was wanting
abbrev pub IsSequence : Result Sequence EvalStop → Result (List Atom) EvalFault → Type 0
IsSequence answer value = IsAnswer (result_map_both sequence_of (λ e. e) answer) value
