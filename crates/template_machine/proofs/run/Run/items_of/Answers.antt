use Rattle.std.proofs.Common.{◌≡◌, ◌-◌, ◌∷◌, ◌∙◌, Some, IsSome, length, map, ap, subst, sym, arith}
use Rattle.std.specs.List.{slice_get}
use Rattle.std.specs.Option.{option_and_then, option_map}
use Rattle.std.proofs.lemmas.Option.{slice_get-map}
use Rattle.frame_stack.specs.Change.{locals_of}
use Rattle.frame_stack.specs.declared.frame.Frame.TheVariants.{Loop}
use Rattle.frame_stack.specs.declared.locals.Local.{Local}
use Rattle.template_machine.specs.Bodies.{turn_of}
use Rattle.instr_code.specs.declared.code.Op.TheVariants as op
use Rattle.template_machine.proofs.Aside.{last_apart}
use Rattle.template_machine.proofs.Looping.{has_items, has_turn, level_at_body, open_walk}
use Rattle.template_machine.proofs.Operating.{at_place}
use Rattle.template_machine.proofs.Placing.{top_at}
use Rattle.template_machine.proofs.run.Run.items_of.Goals as goal

pub locals_at-locals-requires : goal.locals_at-locals-requires
locals_at-locals-requires c = level_at_body c.args.program.now c.args.self.now c.args.running (op.Turn c.args.number c.args.to) c.requires.op

pub turn_at-requires : goal.turn_at-requires
turn_at-requires c =
    subst (λ n. IsSome (option_and_then turn_of (slice_get c.args.self.now.frames.frames (n - 1)))) (sym c.count.ensures)
    (has_turn c.args.program.now c.args.self.now c.args.running c.args.number c.args.to c.requires.op c.requires.form).0

pub overflow_sub-len : goal.overflow_sub-len
overflow_sub-len c =
    omega (
      arith,
      c.len.ensures,
      has_items c.args.program.now c.args.self.now c.args.running c.args.number c.args.to c.requires.op c.requires.form c.locals_at-locals.result.now c.locals_at-locals.ensures,
    )

pub value-requires : goal.value-requires
value-requires c =
    omega (
      arith,
      c.len.ensures,
      has_items c.args.program.now c.args.self.now c.args.running c.args.number c.args.to c.requires.op c.requires.form c.locals_at-locals.result.now c.locals_at-locals.ensures,
    )

pub returns : goal.returns
returns c =
    let p = c.args.program.now in
    let r = c.args.self.now in
    let o = op.Turn c.args.number c.args.to in
    let at = c.requires.op in
    let l = open_walk p r c.args.running c.args.number c.args.to at c.requires.form in
    let a = at_place p r c.args.running o at in
    let locals = c.locals_at-locals.result.now in
    let same : locals_of a.0 ≡ locals = one (sym (ap (option_map locals_of) a.1.1) ∙ c.locals_at-locals.ensures) in
    let some = has_items p r c.args.running c.args.number c.args.to at c.requires.form locals c.locals_at-locals.ensures in
    let last = last_apart locals some in
    let top = top_at r.frames.frames (Loop l.0) l.1.0 l.1.1 in
    let turn : l.0 ≡ c.turn_at.result = one (sym (ap (option_and_then turn_of) top.0) ∙ ap (λ n. option_and_then turn_of (slice_get r.frames.frames (n - 1))) (sym c.count.ensures) ∙ c.turn_at.ensures) in
    let value : last.1.0.value ≡ c.value.result.now =
    one (sym (ap (option_map (λ (x : Local). x.value)) last.1.1.1) ∙ sym (slice_get-map (λ (x : Local). x.value) locals (length locals - 1)) ∙ ap (λ n. slice_get (map (λ (x : Local). x.value) locals) (n - 1)) (sym c.len.ensures) ∙ c.value.ensures) in
    record {
      others = l.1.0;
      top = l.1.1 ∙ ap (λ n. Loop n ∷ l.1.0) turn;
      body = a.0;
      there = a.1.0;
      before = last.0;
      waiting = last.1.0;
      locals = same ∙ last.1.1.0;
      value = value;
    }
  where
    one : {A : Type 0} {x y : A} → Some x ≡ Some y → x ≡ y
    one e = cc
