-- What the output of a run has of what it was told.
use Rattle.std.specs.Prelude.{◌≡◌, ℕ, List, [], ◌∷◌, ◌++◌, encode_utf8_all}
use Rattle.result_writer.specs.Target.{Left, Target, next, settles}
use Rattle.template_machine.specs.Ending.{Note, Open, Put, Said}
use Rattle.template_machine.specs.Sinks.{behind_all}
use Rattle.template_machine.specs.declared.output.Output.{Output}

-- the bytes that the parts settle, behind what was left
abbrev pub settled_by : Left → List Said → List ℕ
settled_by l [] = []
settled_by l (Put p ∷ said) = settles l p ++ settled_by (next l p) said
settled_by l (Note text ∷ said) = settled_by l said
settled_by l (Open name ∷ said) = settled_by l said

-- the messages, each with a line feed
abbrev pub lines_of : List Said → List ℕ
lines_of [] = []
lines_of (Put p ∷ said) = lines_of said
lines_of (Note text ∷ said) = encode_utf8_all text ++ 10 ∷ lines_of said
lines_of (Open name ∷ said) = lines_of said

-- what the parts that were put leave of an output, and what it has settled of them, and of messages, that wasn't taken yet
abbrev pub target_of : Output → Target
target_of out = out.writer

abbrev pub bytes_of : Output → List ℕ
bytes_of out = out.bytes.items

abbrev pub notes_of : Output → List ℕ
notes_of out = out.notes.items

-- an output as it becomes by this
pub record Wrote (old new : Output) (said : List Said) : Type 0 where
  pub writer : new.writer ≡ behind_all old.writer said
  pub bytes : new.bytes.items ≡ old.bytes.items ++ settled_by old.writer.left said
  pub notes : new.notes.items ≡ old.notes.items ++ lines_of said
