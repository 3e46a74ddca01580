-- What putting a piece does.
use Rattle.std.specs.Prelude.{◌≡◌, ℕ, ◌+◌, ◌^◌, ◌<◌, List, [], ◌++◌, length, map, slice_set}
use Rattle.std.specs.List.{flat_map}
use Rattle.instr_code.specs.Bare.{bare}
use Rattle.instr_code.specs.Layout.{choice_ops, choices_ops, for_each_ops, list_piece, round_ops, single_ops, while_ops}
use Rattle.instr_code.specs.Piece.{Piece}
use Rattle.instr_code.specs.declared.code.Op.{Op}
use Rattle.instr_code.specs.declared.emit.Emitter.{Emitter}
use Rattle.instr_code.specs.declared.inner.Inner.{Inner}
use Rattle.instr_code.specs.declared.inner.Inner.TheVariants as inner
use Rattle.sheet_model.specs.declared.instr.Instr.{Instr}
use Rattle.sheet_model.specs.declared.instr.Instr.TheOpen.{Instr-F}
use Rattle.sheet_model.specs.declared.instr.Instr.TheViews.{out-Instr}
use Rattle.sheet_model.specs.declared.instr.When.{When}

-- the operations of the piece, and these instructions, stand behind those from before
pub record Puts (piece : Piece) (list : List Instr) (old new : Emitter) : Type 0 where
  pub ops : new.ops ≡ old.ops ++ piece.ops (length old.instrs) (length old.ops)
  pub place : length new.ops ≡ length old.ops + piece.size
  pub instrs : new.instrs ≡ old.instrs ++ map bare list
  pub number : length list ≡ piece.numbers

-- its numbers and places fit 32 bits
pub record HasRoom (piece : Piece) (e : Emitter) : Type 0 where
  pub places : length e.ops + piece.size < 2 ^ 32
  pub numbers : length e.instrs + piece.numbers < 2 ^ 32

-- one operation has another in its place
pub record Fills (place : ℕ) (op : Op) (old new : Emitter) : Type 0 where
  pub ops : new.ops ≡ slice_set old.ops place op
  pub instrs : new.instrs ≡ old.instrs

-- what stands inside an instruction

abbrev pub inner_layer : Instr-F Instr When → Inner
inner_layer (Instr-F.Copy attributes body at) = inner.Round body
inner_layer (Instr-F.Element name namespace scope body at) = inner.Round body
inner_layer (Instr-F.ResultBuffer name clear body at) = inner.Round body
inner_layer (Instr-F.Literal name attrs body at) = inner.Round body
inner_layer (Instr-F.If test body other at) = inner.Choice body other
inner_layer (Instr-F.Choose whens other at) = inner.Choices (map (λ (w : When). w.body) whens) other
inner_layer (Instr-F.While test body at) = inner.While body
inner_layer (Instr-F.ForEachItem name select body at) = inner.ForEach body
inner_layer (Instr-F.Local name select at) = inner.Local
inner_layer x = inner.Nothing

abbrev pub inner_of : Instr → Inner
inner_of i = inner_layer (out-Instr i)

abbrev pub listed : Inner → List Instr
listed inner.Nothing = []
listed inner.Local = []
listed (inner.Round body) = body
listed (inner.Choice body other) = body ++ other
listed (inner.Choices bodies other) = flat_map (λ b. b) bodies ++ other
listed (inner.While body) = body
listed (inner.ForEach body) = body

abbrev pub inner_locals : Inner → ℕ
inner_locals inner.Local = 1
inner_locals x = 0

-- the operations of an instruction by what stands inside
abbrev pub inner_ops : Inner → (instr place : ℕ) → Piece
inner_ops inner.Nothing = single_ops
inner_ops inner.Local = single_ops
inner_ops (inner.Round body) = round_ops (list_piece 0 body)
inner_ops (inner.Choice body other) = choice_ops (list_piece 0 body) (list_piece 0 other)
inner_ops (inner.Choices bodies other) = choices_ops (map (list_piece 0) bodies) (list_piece 0 other)
inner_ops (inner.While body) = while_ops (list_piece 0 body)
inner_ops (inner.ForEach body) = for_each_ops (list_piece 1 body)
