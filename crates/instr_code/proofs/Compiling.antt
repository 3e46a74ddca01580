-- The bodies of a sheet, all put.
use Rattle.std.proofs.Common.{◌≡◌, List, [], ◌++◌, length, map, ap, ◌∙◌, arith}
use Rattle.instr_code.specs.Bare.{bare, procedure_without_body, template_without_body}
use Rattle.instr_code.specs.Bodies.{HaveRoom, PutsBodies, body_pieces, joined}
use Rattle.instr_code.specs.Code.{code_of, compiled_of, sheet_bodies, starts}
use Rattle.instr_code.specs.Piece.{in_order}
use Rattle.instr_code.specs.declared.bodies.Bodies.{Bodies}
use Rattle.instr_code.specs.declared.code.Code.{Code}
use Rattle.instr_code.specs.declared.code.Compiled.{Compiled}
use Rattle.instr_code.proofs.Bounds.{all_bodies, numbers_fit, places_fit}
use Rattle.instr_code.proofs.PuttingBodies.{bodies_joined}
use Rattle.sheet_model.specs.Body.{all_of}
use Rattle.sheet_model.specs.Sound.{IsSmall}
use Rattle.sheet_model.specs.declared.instr.Instr.{Instr}
use Rattle.sheet_model.specs.declared.sheet.Procedure.{Procedure}
use Rattle.sheet_model.specs.declared.sheet.Sheet.{Sheet}
use Rattle.sheet_model.specs.declared.sheet.Template.{Template}

abbrev pub of_templates : Sheet → List (List Instr)
of_templates s = map (λ (t : Template). t.body) s.templates

abbrev pub of_procedures : Sheet → List (List Instr)
of_procedures s = map (λ (p : Procedure). p.body) s.procedures

-- nothing was put yet
pub record IsNew (b : Bodies) : Type 0 where
  pub starts : b.starts ≡ []
  pub ops : b.emitter.ops ≡ []
  pub instrs : b.emitter.instrs ≡ []

pub sheet_room : (s : Sheet) (b : Bodies) → IsSmall s → IsNew b → HaveRoom (sheet_bodies s) b
sheet_room s b small new = record {
  places = omega (arith, places_fit s small, ap length new.ops);
  numbers = omega (arith, numbers_fit s small, ap length new.instrs);
}

pub whole_code : (s : Sheet) (b t u : Bodies) (c : Code) → IsNew b → PutsBodies (of_templates s) b t → PutsBodies (of_procedures s) t u
    → c.ops ≡ u.emitter.ops → c.starts ≡ u.starts → c.instrs ≡ u.emitter.instrs → c ≡ code_of s
whole_code s b t u c new p q ops noted instrs =
    let all = bodies_joined (of_templates s) (of_procedures s) b t u p q in
    let pieces = body_pieces (sheet_bodies s) in
    let ops_are : c.ops ≡ (in_order pieces).ops 0 0 =
    ops ∙ all.code.ops
    ∙ ap (λ l. l ++ (in_order pieces).ops (length b.emitter.instrs) (length b.emitter.ops)) new.ops
    ∙ ap (λ l. (in_order pieces).ops (length l) (length b.emitter.ops)) new.instrs
    ∙ ap (λ l. (in_order pieces).ops 0 (length l)) new.ops in
    let starts_are : c.starts ≡ starts 0 pieces =
    noted ∙ all.starts ∙ ap (λ l. l ++ starts (length b.emitter.ops) pieces) new.starts ∙ ap (λ l. starts (length l) pieces) new.ops in
    let instrs_are : c.instrs ≡ (code_of s).instrs =
    instrs ∙ all.code.instrs ∙ ap (λ l. l ++ map bare (all_of (joined (sheet_bodies s)))) new.instrs ∙ ap (λ l. map bare (all_of l)) (all_bodies s) in
    ap (λ o. record { ops = o; starts = c.starts; instrs = c.instrs }) ops_are
    ∙ ap (λ p. record { ops = (in_order pieces).ops 0 0; starts = p; instrs = c.instrs }) starts_are
    ∙ ap (λ i. record { ops = (in_order pieces).ops 0 0; starts = starts 0 pieces; instrs = i }) instrs_are

abbrev compiled : Sheet → List Template → List Procedure → Code → Compiled
compiled s ts ps c = record { sheet = record s { templates = ts; procedures = ps }; code = c }

pub compiled_is : (s : Sheet) (ts : List Template) (ps : List Procedure) (c : Code) → ts ≡ map template_without_body s.templates
    → ps ≡ map procedure_without_body s.procedures → c ≡ code_of s
    → compiled s ts ps c ≡ compiled_of s
compiled_is s ts ps c templates procedures code =
    ap (λ l. compiled s l ps c) templates ∙ ap (λ l. compiled s (map template_without_body s.templates) l c) procedures
    ∙ ap (compiled s (map template_without_body s.templates) (map procedure_without_body s.procedures)) code
