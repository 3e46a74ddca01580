-- What values inside an evaluation mean.
use Rattle.std.specs.Prelude.{List, [], ◌∷◌, Result}
use Rattle.std.specs.Result.{result_map_both}
use Rattle.stxpath_eval.specs.Value.{atom_items}
use Rattle.stxpath_eval.specs.declared.held.Held.{Held}
use Rattle.stxpath_eval.specs.declared.held.Held.TheVariants as held
use Rattle.stxpath_values.specs.Lent.{sequence_of}
use Rattle.stxpath_values.specs.Outcome.{IsAnswer}
use Rattle.stxpath_values.specs.declared.fault.EvalFault.{EvalFault}
use Rattle.stxpath_values.specs.declared.fault.EvalStop.{EvalStop}
use Rattle.stxpath_values.specs.declared.value.Item.{Item}
use Rattle.stxpath_values.specs.declared.value.Item.TheVariants as item

abbrev pub held_items : Held → List Item
held_items (held.Atoms xs) = atom_items (sequence_of xs)
held_items (held.Node r) = item.Node r ∷ []
held_items (held.Items xs) = xs

-- an answer's items
abbrev pub held_answer : Result Held EvalStop → Result (List Item) EvalStop
held_answer answer = result_map_both held_items (λ e. e) answer

-- a call answers with the value's items, or with its fault, or memory was wanting
abbrev pub IsHeld : Result Held EvalStop → Result (List Item) EvalFault → Type 0
IsHeld answer value = IsAnswer (held_answer answer) value
