-- Pieces of code: what instructions become, wherever they are put.
use Rattle.std.specs.Prelude.{ℕ, zero, suc, ◌+◌, List, [], ◌∷◌, ◌++◌}
use Rattle.instr_code.specs.declared.code.Op.{Op}
use Rattle.instr_code.specs.declared.code.Op.TheVariants as op

-- how many instructions there are, with those inside; how many operations they become, and how many locals they leave; and the
-- operations, by the number of the first instruction and the place of the first operation
pub record Piece : Type 0 where
  pub numbers : ℕ
  pub size : ℕ
  pub locals : ℕ
  pub ops : (number place : ℕ) → List Op

abbrev pub nothing : Piece
nothing = record { numbers = 0; size = 0; locals = 0; ops = λ n p. [] }

-- an operation that is no instruction of its own
abbrev pub alone : Op → Piece
alone o = record { numbers = 0; size = 1; locals = 0; ops = λ n p. o ∷ [] }

-- one piece behind another
abbrev pub behind : Piece → Piece → Piece
behind a b = record {
  numbers = a.numbers + b.numbers;
  size = a.size + b.size;
  locals = a.locals + b.locals;
  ops = λ n p. a.ops n p ++ b.ops (n + a.numbers) (p + a.size);
}

abbrev pub in_order : List Piece → Piece
in_order [] = nothing
in_order (x ∷ xs) = behind x (in_order xs)

-- takes locals off, if there are some
abbrev pub dropped : (locals : ℕ) → Piece
dropped zero = nothing
dropped (suc n) = alone (op.Drop (suc n))

-- a list inside an instruction: its end takes off the locals that it leaves, and so many that its instruction made for it
abbrev pub inside : (own : ℕ) → List Piece → Piece
inside own pieces = behind (in_order pieces) (dropped ((in_order pieces).locals + own))

-- an instruction of which these are the operations, by its own number and the place where it begins
abbrev pub instruction : (locals : ℕ) → ((number place : ℕ) → Piece) → Piece
instruction locals f = record {
  numbers = (f 0 0).numbers + 1;
  size = (f 0 0).size;
  locals = locals;
  ops = λ n p. (f n p).ops (n + 1) p;
}
