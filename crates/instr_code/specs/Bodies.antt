-- What putting whole bodies does.
use Rattle.std.specs.Prelude.{◌≡◌, List, ◌++◌, length, map}
use Rattle.std.specs.List.{flat_map}
use Rattle.instr_code.specs.Code.{starts}
use Rattle.instr_code.specs.Emitting.{HasRoom, Puts}
use Rattle.instr_code.specs.Layout.{body_piece}
use Rattle.instr_code.specs.Piece.{Piece, in_order}
use Rattle.instr_code.specs.declared.bodies.Bodies.{Bodies}
use Rattle.sheet_model.specs.Body.{all_of}
use Rattle.sheet_model.specs.declared.instr.Instr.{Instr}

abbrev pub body_pieces : List (List Instr) → List Piece
body_pieces bodies = map body_piece bodies

abbrev pub joined : List (List Instr) → List Instr
joined bodies = flat_map (λ b. b) bodies

-- their code stands behind that from before, and their beginnings are noted
pub record PutsBodies (bodies : List (List Instr)) (old new : Bodies) : Type 0 where
  pub starts : new.starts ≡ old.starts ++ starts (length old.emitter.ops) (body_pieces bodies)
  pub code : Puts (in_order (body_pieces bodies)) (all_of (joined bodies)) old.emitter new.emitter

abbrev pub HaveRoom : List (List Instr) → Bodies → Type 0
HaveRoom bodies old = HasRoom (in_order (body_pieces bodies)) old.emitter
