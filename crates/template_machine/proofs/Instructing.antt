-- The operation of a body, and the instruction that it does.
use Rattle.std.proofs.Common.{◌≡◌, ℕ, ◌<◌, false, true, List, [], length, All, reverse, Option, Some, IsSome, refl, ap, sym, subst, ◌∙◌, arith}
use Rattle.std.specs.List.{slice_get}
use Rattle.std.proofs.lemmas.List.Elements.{All-head}
use Rattle.std.proofs.lemmas.Option.{slice_get_within}
use Rattle.instr_code.specs.declared.code.Op.{Op}
use Rattle.instr_code.specs.declared.code.Op.TheVariants as op
use Rattle.sheet_model.specs.Parts.{buffer_named, handed, procedure_named, templates}
use Rattle.sheet_model.specs.declared.instr.Instr.{Instr}
use Rattle.sheet_model.specs.declared.instr.Instr.TheOpen.{Instr-F}
use Rattle.sheet_model.specs.declared.instr.Instr.TheVariants as instr
use Rattle.sheet_model.specs.declared.instr.Instr.TheViews.{out-Instr, out-roll-Instr, rolls-Assign, rolls-CallProcedure, rolls-Local, rolls-ProcessAttributes, rolls-ProcessBuffer, rolls-ProcessChildren, rolls-ProcessDocument, rolls-ProcessSelf, rolls-ProcessSiblings}
use Rattle.sheet_model.specs.declared.instr.When.{When}
use Rattle.sheet_model.specs.declared.instr.WithParam.{WithParam}
use Rattle.stx_base.specs.declared.fault.Place.{Place}
use Rattle.stx_base.specs.declared.name.Name.{Name}
use Rattle.stxpath_syntax.specs.Shape.{CanBeEvaluated}
use Rattle.stxpath_syntax.specs.declared.expr.Avt.{Avt}
use Rattle.stxpath_syntax.specs.declared.expr.Expr.{Expr}
use Rattle.stxpath_syntax.specs.declared.expr.Pattern.{Pattern}
use Rattle.template_machine.specs.Bodies.{body_in, pc_in}
use Rattle.template_machine.specs.Contexts.{HasForm, IsSingle, Single, form}
use Rattle.template_machine.specs.Evaluating.{TemplateCanBeEvaluated}
use Rattle.template_machine.specs.Standing.{standing_of}
use Rattle.template_machine.specs.Moments.{IsAtOp}
use Rattle.template_machine.specs.Well.{IsWell}
use Rattle.template_machine.specs.Working.{HasBuffer, HasProcedure, StaysHere, puts}
use Rattle.template_machine.specs.declared.program.Program.{Program}
use Rattle.template_machine.specs.declared.run.Doing.TheVariants as doing
use Rattle.template_machine.specs.declared.run.Run.{Run}
use Rattle.template_machine.specs.declared.run.Running.{Running}
use Rattle.template_machine.proofs.Branching.{one_form}
use Rattle.template_machine.proofs.Evaluable.{can_run}
use Rattle.template_machine.proofs.Formed.{done, form_at, handed_runs, rolled}
use Rattle.template_machine.proofs.Moving.{body_is, goes_at}
use Rattle.template_machine.proofs.Named.{named_buffer, named_procedure}
use Rattle.template_machine.proofs.Operating.{body_goes, some_pc}

-- the operation of a body

pub pc_there : (p : Program) (r : Run) → IsWell p r → r.doing ≡ doing.Body → IsSome (pc_in (reverse r.frames.frames))
pc_there p r w doing = some_pc (reverse r.frames.frames) (body_goes p r w doing).body

pub op_within : (p : Program) (r : Run) (pc : ℕ) → IsWell p r → r.doing ≡ doing.Body → pc_in (reverse r.frames.frames) ≡ Some pc → pc < length p.code.ops
op_within p r pc w doing at =
    let fs = reverse r.frames.frames in
    let b = body_goes p r w doing in
    let x = body_is p w.stations 0 false fs (standing_of r) b.body b.well in
    let g = goes_at p w.stations 0 false fs x.0 (standing_of r) pc at x.1 in
    omega (arith, slice_get_within w.stations pc _ g.1, w.stand.each)

pub at_op : (p : Program) (r : Run) (running : Running) (o x : Op) → IsWell p r → r.doing ≡ doing.Body → body_in (reverse r.frames.frames) ≡ Some running.body
    → pc_in (reverse r.frames.frames) ≡ Some running.pc → slice_get p.code.ops running.pc ≡ Some o → o ≡ x → IsAtOp p r running x
at_op p r running o x w doing body pc is same = record { well = w; doing = doing; body = body; pc = pc; is = is ∙ ap (λ y. Some y) same }

-- an instruction that is done, by what it isn't

single_by : (i : Instr) (x : Instr-F Instr When) → out-Instr i ≡ x → IsSingle (form x)
    → ((name : Name) (select : Option Expr) (at : Place) → i ≡ instr.Local name select at → ⊥) → form x ≡ Single
single_by i (Instr-F.Local name select at) out single local = absurd (local name select at (rolled i _ _ (rolls-Local name select at) out))
single_by i (Instr-F.Copy attributes body at) out single local = absurd single
single_by i (Instr-F.Literal name attrs body at) out single local = absurd single
single_by i (Instr-F.Element name namespace scope body at) out single local = absurd single
single_by i (Instr-F.ResultBuffer name clear body at) out single local = absurd single
single_by i (Instr-F.If test body other at) out single local = absurd single
single_by i (Instr-F.Choose whens other at) out single local = absurd single
single_by i (Instr-F.While test body at) out single local = absurd single
single_by i (Instr-F.ForEachItem name select body at) out single local = absurd single
single_by i x out single local = refl

done_single : (p : Program) (r : Run) (running : Running) (n : ℕ) (i : Instr) → IsAtOp p r running (op.Do n) → slice_get p.code.instrs n ≡ Some i → IsSingle (form (out-Instr i))
done_single p r running n i at is =
    let d = done p r running n at in
    let same : d.0 ≡ form (out-Instr i) = one_form _ _ _ d.1.0 (form_at p.code n i (out-Instr i) is refl) in
    subst (λ f. IsSingle f) same d.1.1

pub single_at : (p : Program) (r : Run) (running : Running) (n : ℕ) (i : Instr) → IsAtOp p r running (op.Do n) → slice_get p.code.instrs n ≡ Some i
    → ((name : Name) (select : Option Expr) (at : Place) → i ≡ instr.Local name select at → ⊥) → HasForm p.code n Single
single_at p r running n i at is local =
    form_at p.code n i (out-Instr i) is refl ∙ ap (λ f. Some f) (single_by i (out-Instr i) refl (done_single p r running n i at is) local)

puts_by : (i : Instr) (x : Instr-F Instr When) → out-Instr i ≡ x → IsSingle (form x) → StaysHere x
    → ((name : Name) (select : Option Expr) (at : Place) → i ≡ instr.Local name select at → ⊥)
    → ((name : Name) (select : Expr) (at : Place) → i ≡ instr.Assign name select at → ⊥) → puts x ≡ true
puts_by i (Instr-F.Local name select at) out single stays local assign = absurd (local name select at (rolled i _ _ (rolls-Local name select at) out))
puts_by i (Instr-F.Assign name select at) out single stays local assign = absurd (assign name select at (rolled i _ _ (rolls-Assign name select at) out))
puts_by i (Instr-F.ValueOf select separator at) out single stays local assign = refl
puts_by i (Instr-F.Chars text at) out single stays local assign = refl
puts_by i (Instr-F.StartElement name namespace scope at) out single stays local assign = refl
puts_by i (Instr-F.EndElement name namespace scope at) out single stays local assign = refl
puts_by i (Instr-F.Attribute name namespace scope content at) out single stays local assign = refl
puts_by i (Instr-F.Comment content at) out single stays local assign = refl
puts_by i (Instr-F.Pi name scope content at) out single stays local assign = refl
puts_by i (Instr-F.Message content at) out single stays local assign = refl
puts_by i (Instr-F.LiteralChars text at) out single stays local assign = refl
puts_by i (Instr-F.Copy attributes body at) out single stays local assign = absurd single
puts_by i (Instr-F.Literal name attrs body at) out single stays local assign = absurd single
puts_by i (Instr-F.Element name namespace scope body at) out single stays local assign = absurd single
puts_by i (Instr-F.ResultBuffer name clear body at) out single stays local assign = absurd single
puts_by i (Instr-F.If test body other at) out single stays local assign = absurd single
puts_by i (Instr-F.Choose whens other at) out single stays local assign = absurd single
puts_by i (Instr-F.While test body at) out single stays local assign = absurd single
puts_by i (Instr-F.ForEachItem name select body at) out single stays local assign = absurd single
puts_by i x out single stays local assign = absurd stays

pub puts_at : (p : Program) (r : Run) (running : Running) (n : ℕ) (i : Instr) → IsAtOp p r running (op.Do n) → slice_get p.code.instrs n ≡ Some i → StaysHere (out-Instr i)
    → ((name : Name) (select : Option Expr) (at : Place) → i ≡ instr.Local name select at → ⊥)
    → ((name : Name) (select : Expr) (at : Place) → i ≡ instr.Assign name select at → ⊥) → puts (out-Instr i) ≡ true
puts_at p r running n i at is stays local assign = puts_by i (out-Instr i) refl (done_single p r running n i at is) stays local assign

-- an instruction that stays at the current node, by what it is not

stays_by : (i : Instr) (x : Instr-F Instr When) → out-Instr i ≡ x
    → ((name : Name) (params : List WithParam) (at : Place) → i ≡ instr.CallProcedure name params at → ⊥)
    → ((group : Option Name) (params : List WithParam) (at : Place) → i ≡ instr.ProcessChildren group params at → ⊥)
    → ((group : Option Name) (params : List WithParam) (at : Place) → i ≡ instr.ProcessAttributes group params at → ⊥)
    → ((group : Option Name) (params : List WithParam) (at : Place) → i ≡ instr.ProcessSelf group params at → ⊥)
    → ((going until : Option Pattern) (group : Option Name) (params : List WithParam) (at : Place) → i ≡ instr.ProcessSiblings going until group params at → ⊥)
    → ((name : Name) (group : Option Name) (params : List WithParam) (at : Place) → i ≡ instr.ProcessBuffer name group params at → ⊥)
    → ((href : Avt) (group : Option Name) (params : List WithParam) (at : Place) → i ≡ instr.ProcessDocument href group params at → ⊥)
    → StaysHere x
stays_by i (Instr-F.CallProcedure name params at) out call no_children no_attributes no_itself no_siblings no_buffer no_document = call name params at (rolled i _ _ (rolls-CallProcedure name params at) out)
stays_by i (Instr-F.ProcessChildren group params at) out no_call children no_attributes no_itself no_siblings no_buffer no_document = children group params at (rolled i _ _ (rolls-ProcessChildren group params at) out)
stays_by i (Instr-F.ProcessAttributes group params at) out no_call no_children attributes no_itself no_siblings no_buffer no_document = attributes group params at (rolled i _ _ (rolls-ProcessAttributes group params at) out)
stays_by i (Instr-F.ProcessSelf group params at) out no_call no_children no_attributes itself no_siblings no_buffer no_document = itself group params at (rolled i _ _ (rolls-ProcessSelf group params at) out)
stays_by i (Instr-F.ProcessSiblings going until group params at) out no_call no_children no_attributes no_itself siblings no_buffer no_document = siblings going until group params at (rolled i _ _ (rolls-ProcessSiblings going until group params at) out)
stays_by i (Instr-F.ProcessBuffer name group params at) out no_call no_children no_attributes no_itself no_siblings buffer no_document = buffer name group params at (rolled i _ _ (rolls-ProcessBuffer name group params at) out)
stays_by i (Instr-F.ProcessDocument href group params at) out no_call no_children no_attributes no_itself no_siblings no_buffer document = document href group params at (rolled i _ _ (rolls-ProcessDocument href group params at) out)
stays_by i x out call children attributes itself siblings buffer document = tt

pub stays_here : (i : Instr)
    → ((name : Name) (params : List WithParam) (at : Place) → i ≡ instr.CallProcedure name params at → ⊥)
    → ((group : Option Name) (params : List WithParam) (at : Place) → i ≡ instr.ProcessChildren group params at → ⊥)
    → ((group : Option Name) (params : List WithParam) (at : Place) → i ≡ instr.ProcessAttributes group params at → ⊥)
    → ((group : Option Name) (params : List WithParam) (at : Place) → i ≡ instr.ProcessSelf group params at → ⊥)
    → ((going until : Option Pattern) (group : Option Name) (params : List WithParam) (at : Place) → i ≡ instr.ProcessSiblings going until group params at → ⊥)
    → ((name : Name) (group : Option Name) (params : List WithParam) (at : Place) → i ≡ instr.ProcessBuffer name group params at → ⊥)
    → ((href : Avt) (group : Option Name) (params : List WithParam) (at : Place) → i ≡ instr.ProcessDocument href group params at → ⊥)
    → StaysHere (out-Instr i)
stays_here i call children attributes itself siblings buffer document = stays_by i (out-Instr i) refl call children attributes itself siblings buffer document

-- its form, and what it hands, by what it is

pub call_single : (p : Program) (n : ℕ) (i : Instr) (name : Name) (params : List WithParam) (at : Place) → slice_get p.code.instrs n ≡ Some i → i ≡ instr.CallProcedure name params at → HasForm p.code n Single
call_single p n i name params at is e =
    form_at p.code n i (Instr-F.CallProcedure name params at) is (ap out-Instr e ∙ ap out-Instr (sym (rolls-CallProcedure name params at)) ∙ out-roll-Instr (Instr-F.CallProcedure name params at))

pub children_single : (p : Program) (n : ℕ) (i : Instr) (group : Option Name) (params : List WithParam) (at : Place) → slice_get p.code.instrs n ≡ Some i → i ≡ instr.ProcessChildren group params at → HasForm p.code n Single
children_single p n i group params at is e =
    form_at p.code n i (Instr-F.ProcessChildren group params at) is (ap out-Instr e ∙ ap out-Instr (sym (rolls-ProcessChildren group params at)) ∙ out-roll-Instr (Instr-F.ProcessChildren group params at))

pub attributes_single : (p : Program) (n : ℕ) (i : Instr) (group : Option Name) (params : List WithParam) (at : Place) → slice_get p.code.instrs n ≡ Some i → i ≡ instr.ProcessAttributes group params at → HasForm p.code n Single
attributes_single p n i group params at is e =
    form_at p.code n i (Instr-F.ProcessAttributes group params at) is (ap out-Instr e ∙ ap out-Instr (sym (rolls-ProcessAttributes group params at)) ∙ out-roll-Instr (Instr-F.ProcessAttributes group params at))

pub itself_single : (p : Program) (n : ℕ) (i : Instr) (group : Option Name) (params : List WithParam) (at : Place) → slice_get p.code.instrs n ≡ Some i → i ≡ instr.ProcessSelf group params at → HasForm p.code n Single
itself_single p n i group params at is e =
    form_at p.code n i (Instr-F.ProcessSelf group params at) is (ap out-Instr e ∙ ap out-Instr (sym (rolls-ProcessSelf group params at)) ∙ out-roll-Instr (Instr-F.ProcessSelf group params at))

pub siblings_single : (p : Program) (n : ℕ) (i : Instr) (going until : Option Pattern) (group : Option Name) (params : List WithParam) (at : Place) → slice_get p.code.instrs n ≡ Some i → i ≡ instr.ProcessSiblings going until group params at → HasForm p.code n Single
siblings_single p n i going until group params at is e =
    form_at p.code n i (Instr-F.ProcessSiblings going until group params at) is (ap out-Instr e ∙ ap out-Instr (sym (rolls-ProcessSiblings going until group params at)) ∙ out-roll-Instr (Instr-F.ProcessSiblings going until group params at))

pub buffer_single : (p : Program) (n : ℕ) (i : Instr) (name : Name) (group : Option Name) (params : List WithParam) (at : Place) → slice_get p.code.instrs n ≡ Some i → i ≡ instr.ProcessBuffer name group params at → HasForm p.code n Single
buffer_single p n i name group params at is e =
    form_at p.code n i (Instr-F.ProcessBuffer name group params at) is (ap out-Instr e ∙ ap out-Instr (sym (rolls-ProcessBuffer name group params at)) ∙ out-roll-Instr (Instr-F.ProcessBuffer name group params at))

pub document_single : (p : Program) (n : ℕ) (i : Instr) (href : Avt) (group : Option Name) (params : List WithParam) (at : Place) → slice_get p.code.instrs n ≡ Some i → i ≡ instr.ProcessDocument href group params at → HasForm p.code n Single
document_single p n i href group params at is e =
    form_at p.code n i (Instr-F.ProcessDocument href group params at) is (ap out-Instr e ∙ ap out-Instr (sym (rolls-ProcessDocument href group params at)) ∙ out-roll-Instr (Instr-F.ProcessDocument href group params at))

-- what a call and the nodes of a buffer or of a document ask for

out_called : (i : Instr) (name : Name) (params : List WithParam) (at : Place) → i ≡ instr.CallProcedure name params at → out-Instr i ≡ Instr-F.CallProcedure name params at
out_called i name params at e = ap out-Instr e ∙ ap out-Instr (sym (rolls-CallProcedure name params at)) ∙ out-roll-Instr (Instr-F.CallProcedure name params at)

out_buffered : (i : Instr) (name : Name) (group : Option Name) (params : List WithParam) (at : Place) → i ≡ instr.ProcessBuffer name group params at
    → out-Instr i ≡ Instr-F.ProcessBuffer name group params at
out_buffered i name group params at e =
    ap out-Instr e ∙ ap out-Instr (sym (rolls-ProcessBuffer name group params at)) ∙ out-roll-Instr (Instr-F.ProcessBuffer name group params at)

out_document : (i : Instr) (href : Avt) (group : Option Name) (params : List WithParam) (at : Place) → i ≡ instr.ProcessDocument href group params at
    → out-Instr i ≡ Instr-F.ProcessDocument href group params at
out_document i href group params at e =
    ap out-Instr e ∙ ap out-Instr (sym (rolls-ProcessDocument href group params at)) ∙ out-roll-Instr (Instr-F.ProcessDocument href group params at)

module _ (p : Program) (r : Run) (running : Running) (n : ℕ) (i : Instr) (here : IsAtOp p r running (op.Do n)) (is : slice_get p.code.instrs n ≡ Some i) where
  pub called_procedure : (name : Name) (params : List WithParam) (at : Place) → i ≡ instr.CallProcedure name params at → HasProcedure p n
  called_procedure name params at e =
      named_procedure p r here.well.steady running.pc n (op.Do n) i name here.is refl is (ap procedure_named (out_called i name params at e))

  pub called_params : (name : Name) (params : List WithParam) (at : Place) → i ≡ instr.CallProcedure name params at → All (λ (w : WithParam). CanBeEvaluated w.select) params
  called_params name params at e =
      subst (All (λ (w : WithParam). CanBeEvaluated w.select)) (ap handed (out_called i name params at e)) (handed_runs i (can_run p r here.well.steady n i is))

  pub buffer_there : (name : Name) (group : Option Name) (params : List WithParam) (at : Place) → i ≡ instr.ProcessBuffer name group params at → HasBuffer p n
  buffer_there name group params at e =
      named_buffer p r here.well.steady running.pc n (op.Do n) i name here.is refl is (ap buffer_named (out_buffered i name group params at e))

  pub href_runs : (href : Avt) (group : Option Name) (params : List WithParam) (at : Place) → i ≡ instr.ProcessDocument href group params at → TemplateCanBeEvaluated href
  href_runs href group params at e =
      All-head TemplateCanBeEvaluated href [] (subst (All TemplateCanBeEvaluated) (ap templates (out_document i href group params at e)) (can_run p r here.well.steady n i is).templates)

pub assign_single : (p : Program) (n : ℕ) (i : Instr) (name : Name) (select : Expr) (at : Place) → slice_get p.code.instrs n ≡ Some i
    → i ≡ instr.Assign name select at → HasForm p.code n Single
assign_single p n i name select at is e =
    form_at p.code n i (Instr-F.Assign name select at) is (ap out-Instr e ∙ ap out-Instr (sym (rolls-Assign name select at)) ∙ out-roll-Instr (Instr-F.Assign name select at))
