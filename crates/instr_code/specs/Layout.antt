-- Which operations each instruction becomes.
use Rattle.std.specs.Prelude.{ℕ, suc, ◌+◌, List, [], ◌∷◌, map}
use Rattle.instr_code.specs.declared.code.Op.TheVariants as op
use Rattle.instr_code.specs.Piece.{Piece, alone, behind, in_order, inside, instruction, nothing}
use Rattle.sheet_model.specs.declared.instr.Instr.{Instr}
use Rattle.sheet_model.specs.declared.instr.Instr.TheFolds.{fold-Instr}
use Rattle.sheet_model.specs.declared.instr.Instr.TheOpen.{Instr-F, When-F}

-- Of an instruction by its number and the place where it begins.

-- one without lists inside
abbrev pub single_ops : (instr place : ℕ) → Piece
single_ops n p = alone (op.Do n)

-- one round a list
abbrev pub round_ops : Piece → (instr place : ℕ) → Piece
round_ops body n p = behind (alone (op.Open n (p + body.size + 2))) (behind body (alone (op.Close n)))

-- where the test fails, the other list is run
abbrev pub choice_ops : Piece → Piece → (instr place : ℕ) → Piece
choice_ops body other n p =
    behind (alone (op.Test n 0 (p + body.size + 2))) (behind body (behind (alone (op.Jump (p + body.size + 2 + other.size))) other))

-- branches one behind another from a place on: where the test of one fails the next is asked, and each one goes to `out`
abbrev pub branches : (instr arm out place : ℕ) → List Piece → Piece
branches n arm out p [] = nothing
branches n arm out p (b ∷ bs) =
    behind (alone (op.Test n arm (p + b.size + 2))) (behind b (behind (alone (op.Jump out)) (branches n (suc arm) out (p + b.size + 2) bs)))

-- all branches leave by one jump, which stands before them
abbrev pub choices_ops : List Piece → Piece → (instr place : ℕ) → Piece
choices_ops whens other n p =
    let all = branches n 0 (p + 2) (p + 3) whens in
    behind (alone (op.Begin n)) (behind (alone (op.Jump (p + 3)))
    (behind (alone (op.Jump (p + 3 + all.size + other.size))) (behind all other)))

-- the test is asked anew behind each turn
abbrev pub while_ops : Piece → (instr place : ℕ) → Piece
while_ops body n p =
    behind (alone (op.Begin n)) (behind (alone (op.Test n 0 (p + body.size + 3))) (behind body (alone (op.Jump (p + 1)))))

-- the next turn is taken behind each one
abbrev pub for_each_ops : Piece → (instr place : ℕ) → Piece
for_each_ops body n p =
    behind (alone (op.Begin n)) (behind (alone (op.Turn n (p + body.size + 3))) (behind body (alone (op.Jump (p + 1)))))

-- The piece of an instruction by those of what stands inside; a turn of a for-each-item has a local of its own.

abbrev pub layer : Instr-F Piece Piece → Piece
layer (Instr-F.Copy attributes body at) = instruction 0 (round_ops (inside 0 body))
layer (Instr-F.Element name namespace scope body at) = instruction 0 (round_ops (inside 0 body))
layer (Instr-F.ResultBuffer name clear body at) = instruction 0 (round_ops (inside 0 body))
layer (Instr-F.Literal name attrs body at) = instruction 0 (round_ops (inside 0 body))
layer (Instr-F.If test body other at) = instruction 0 (choice_ops (inside 0 body) (inside 0 other))
layer (Instr-F.Choose whens other at) = instruction 0 (choices_ops whens (inside 0 other))
layer (Instr-F.While test body at) = instruction 0 (while_ops (inside 0 body))
layer (Instr-F.ForEachItem name select body at) = instruction 0 (for_each_ops (inside 1 body))
layer (Instr-F.Local name select at) = instruction 1 single_ops
layer x = instruction 0 single_ops

abbrev pub branch : When-F Piece Piece → Piece
branch w = inside 0 w.body

-- what an instruction becomes
unfoldable pub piece_of : Instr → Piece
piece_of = fold-Instr Piece Piece layer branch

abbrev pub pieces : List Instr → List Piece
pieces body = map piece_of body

-- a list inside an instruction
abbrev pub list_piece : (own : ℕ) → List Instr → Piece
list_piece own list = inside own (pieces list)

-- a body, with its end
abbrev pub body_piece : List Instr → Piece
body_piece body = behind (in_order (pieces body)) (alone op.Return)
