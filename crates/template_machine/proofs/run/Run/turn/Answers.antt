use Rattle.std.proofs.Common.{◌≡◌, ◌+◌, ◌++◌, ◌∷◌, ◌∙◌, [], Err, List, Some, None, get_or, reverse, slice_get, refl, ap, sym, subst, arith, take}
use Rattle.std.proofs.lemmas.Option.{slice_get_past, slice_get_read}
use Rattle.instr_code.specs.declared.code.Op.TheVariants as op
use Rattle.sheet_model.specs.declared.instr.Instr.TheOpen.{Instr-F}
use Rattle.sheet_model.specs.declared.instr.Instr.TheViews.{rolls-ForEachItem}
use Rattle.stxpath_values.specs.declared.value.Atom.{Atom}
use Rattle.template_machine.specs.Contexts.{HasForm, Walks}
use Rattle.template_machine.specs.Saying.{Carries}
use Rattle.template_machine.specs.Shifting.{BindsItem}
use Rattle.template_machine.specs.declared.run.Run.{Run}
use Rattle.template_machine.specs.declared.stop.Stop.TheVariants as stop
use Rattle.template_machine.proofs.Arms.{walk_is, walks}
use Rattle.template_machine.proofs.Formed.{has_number, turn_is, turned}
use Rattle.template_machine.proofs.Fueled.{at_spent}
use Rattle.template_machine.proofs.Falling.{spent_falls}
use Rattle.template_machine.proofs.Itemized.{item_carries, turn_spent, walk_carries}
use Rattle.template_machine.proofs.Rounding.{memory_stops}
use Rattle.template_machine.proofs.Saying.{stops_with}
use Rattle.template_machine.proofs.Spelled.{out_is}
use Rattle.template_machine.proofs.Naming.{names_spelled}
use Rattle.template_machine.proofs.run.Run.turn.Goals as goal
use Rattle.template_machine.proofs.Operated.{binds_stays, rest_there, stays_out_of_loop}
use Rattle.template_machine.proofs.Walking.{moves_back}
use Rattle.frame_stack.specs.Change.{with_locals, with_pc}

pub instr-requires : goal.instr-requires
instr-requires c =
    let t = turned c.args.program.now c.args.self.now c.args.running c.args.number c.args.to c.requires in
    has_number c.args.program.now.code c.args.number t.0 t.1.0

pub unreachable-requires : goal.unreachable-requires
unreachable-requires c =
    turn_is c.args.program.now c.args.self.now c.args.running c.args.number c.args.to c.instr.result.now ⊥ c.requires c.instr.ensures
    (λ name select body at e. c.in_default.not-ForEachItem name select body at e)

pub items_of-turn-requires-clause-form : goal.items_of-turn-requires-clause-form
items_of-turn-requires-clause-form c = walks c.args.program.now.code c.args.number c.instr.result.now _ _ _ _ c.instr.ensures c.in-ForEachItem.is

pub end_walk-requires-clause-form : goal.end_walk-requires-clause-form
end_walk-requires-clause-form c = walks c.args.program.now.code c.args.number c.instr.result.now _ _ _ _ c.instr.ensures c.in-ForEachItem.is

pub bind_item-requires-clause-op : goal.bind_item-requires-clause-op
bind_item-requires-clause-op c = at_spent c.args.program.now c.args.self.now c.spend.new.self c.args.running (op.Turn c.args.number c.args.to) c.spend.ensures.same c.requires

pub bind_item-requires-clause-form : goal.bind_item-requires-clause-form
bind_item-requires-clause-form c =
    subst (λ n. HasForm c.args.program.now.code c.args.number (Walks n)) (sym c.in_ok-name.ensures)
    (walk_is c.args.program.now.code c.args.number c.instr.result.now _ _ _ _ c.instr.ensures c.in-ForEachItem.is)

pub returns-clause-works : goal.returns-clause-works
returns-clause-works c =
    spent_falls c.args.program.now c.args.self.now c.spend.new.self c.bind_item.new.self 0 c.requires.well.steady.places c.spend.ensures.same c.in_ok-spend.ensures.ok (omega arith) c.in_ok-bind_item.ensures.works

-- What is done.

pub returns-then-turn-len-clause-goes : goal.returns-then-turn-len-clause-goes
returns-then-turn-len-clause-goes c =
    let it = c.instr.result.now in
    let p = c.args.program.now in
    let r = c.args.self.now in
    let turn = c.items_of-turn.result.0 in
    let items = c.items_of-turn.result.1.now in
    let out = out_is it _ (Instr-F.ForEachItem c.in-ForEachItem.name c.in-ForEachItem.select _ _) (rolls-ForEachItem _ _ _ _) c.in-ForEachItem.is in
    walk_carries p r c.end_walk.new.self c.args.running c.args.number c.args.to turn it c.in-ForEachItem.name c.in-ForEachItem.select _ _ items _ c.requires c.instr.ensures out c.items_of-turn.ensures
    (slice_get_past items turn (omega (arith, c.if-turn-len.true, c.len.ensures.value))) c.end_walk.ensures.behind c.end_walk.ensures.rest

pub returns-in_err-item-clause-goes : goal.returns-in_err-item-clause-goes
returns-in_err-item-clause-goes c =
    subst (λ x. Carries c.args.program.now x c.args.self.now c.args.self.now) (sym (stops_with c.from_residual.result stop.Memory c.from_residual.ensures.1)) (memory_stops c.args.program.now c.args.self.now c.args.self.now)

pub returns-in_err-spend-clause-goes : goal.returns-in_err-spend-clause-goes
returns-in_err-spend-clause-goes c =
    let it = c.instr.result.now in
    let p = c.args.program.now in
    let r = c.args.self.now in
    let turn = c.items_of-turn.result.0 in
    let items = c.items_of-turn.result.1.now in
    let x = c.index-as_slice-turn.result in
    let there : x ≡ get_or items turn x = c.index-as_slice-turn.is ∙ ap (λ l. get_or l turn x) c.as_slice.ensures in
    let next : slice_get items turn ≡ Some x = slice_get_read items c.len.result turn x c.len.ensures.value (omega (arith, c.if-turn-len.false)) there in
    let out = out_is it _ (Instr-F.ForEachItem c.in-ForEachItem.name c.in-ForEachItem.select _ _) (rolls-ForEachItem _ _ _ _) c.in-ForEachItem.is in
    let e = c.in_err-spend.field-0.0 in
    subst (λ y. Carries p y r c.spend.new.self) (sym (stops_with c.from_residual-in_err-spend.result e c.from_residual-in_err-spend.ensures.1 ∙ ap Err c.in_err-spend.ensures.spent))
    (turn_spent p r c.spend.new.self c.args.running c.args.number c.args.to turn it c.in-ForEachItem.name c.in-ForEachItem.select _ _ items x c.requires c.instr.ensures out c.items_of-turn.ensures next
    c.in_err-spend.ensures.err c.spend.ensures.same)

pub returns-in_err-push-clause-goes : goal.returns-in_err-push-clause-goes
returns-in_err-push-clause-goes c =
    subst (λ x. Carries c.args.program.now x c.args.self.now c.spend.new.self) (sym (stops_with c.from_residual-in_err-push.result stop.Memory c.from_residual-in_err-push.ensures.1)) (memory_stops c.args.program.now c.args.self.now c.spend.new.self)

pub returns-in_err-name-clause-goes : goal.returns-in_err-name-clause-goes
returns-in_err-name-clause-goes c =
    subst (λ x. Carries c.args.program.now x c.args.self.now c.spend.new.self) (sym (stops_with c.from_residual-in_err-name.result stop.Memory c.from_residual-in_err-name.ensures.1)) (memory_stops c.args.program.now c.args.self.now c.spend.new.self)

pub returns-in_err-bind_item-clause-goes : goal.returns-in_err-bind_item-clause-goes
returns-in_err-bind_item-clause-goes c =
    subst (λ x. Carries c.args.program.now x c.args.self.now c.bind_item.new.self) (sym (stops_with c.from_residual-in_err-bind_item.result stop.Memory c.from_residual-in_err-bind_item.ensures.1)) (memory_stops c.args.program.now c.args.self.now c.bind_item.new.self)

pub returns-clause-goes : goal.returns-clause-goes
returns-clause-goes c =
    let it = c.instr.result.now in
    let p = c.args.program.now in
    let r = c.args.self.now in
    let turn = c.items_of-turn.result.0 in
    let items = c.items_of-turn.result.1.now in
    let x = c.index-as_slice-turn.result in
    let there : x ≡ get_or items turn x = c.index-as_slice-turn.is ∙ ap (λ l. get_or l turn x) c.as_slice.ensures in
    let next : slice_get items turn ≡ Some x = slice_get_read items c.len.result turn x c.len.ensures.value (omega (arith, c.if-turn-len.false)) there in
    let out = out_is it _ (Instr-F.ForEachItem c.in-ForEachItem.name c.in-ForEachItem.select _ _) (rolls-ForEachItem _ _ _ _) c.in-ForEachItem.is in
    let s = c.spend.new.self in
    let new = c.bind_item.new.self in
    let go = c.args.running.pc + 1 in
    let name = c.in-ForEachItem.name in
    let value = c.in_ok-push.ensures.ok ∙ ap (λ (l : List Atom). l ++ c.in_ok-item.item ∷ []) c.new-value.ensures ∙ ap (λ (y : Atom). y ∷ []) c.in_ok-item.ensures in
    let bound : BindsItem (turn + 1) name (x ∷ []) go s new =
    subst (λ n. BindsItem (turn + 1) n (x ∷ []) go s new) c.in_ok-name.ensures (subst (λ v. BindsItem (turn + 1) c.in_ok-name.name v go s new) value c.in_ok-bind_item.ensures.behind) in
    item_carries p r new c.args.running c.args.number c.args.to turn (turn + 1) s.fuel it name c.in-ForEachItem.select _ _ items x _ (names_spelled p r c.requires.well.steady) c.requires c.instr.ensures out c.items_of-turn.ensures next refl c.in_ok-spend.ensures.ok
    (record {
      before = bound.before;
      others = bound.others;
      top = sym (ap (λ (y : Run). reverse y.frames.frames) c.spend.ensures.same) ∙ bound.top;
      behind = bound.behind;
    })
    (c.bind_item.ensures.rest ∙ ap (λ (y : Run). record y { frames = new.frames }) c.spend.ensures.same)

-- What stays as it was.

pub returns-then-turn-len-clause-keeps : goal.returns-then-turn-len-clause-keeps
returns-then-turn-len-clause-keeps c =
    let r = c.args.self.now in
    let new = c.end_walk.new.self in
    let l = c.end_walk.ensures.behind in
    let to = c.args.to in (
      refl,
      stays_out_of_loop r new (λ f. with_pc to (with_locals (take l.left) f)) (λ o. to) (take l.left) (moves_back to (take l.left))
          (rest_there r new (record r { frames = new.frames }) c.end_walk.ensures.rest refl) c.args.running.pc l.turn l.others c.requires.pc l.top l.behind,
    )

pub returns-clause-keeps : goal.returns-clause-keeps
returns-clause-keeps c =
    let r = c.args.self.now in
    (refl, binds_stays r c.spend.new.self c.bind_item.new.self c.args.running.pc c.requires.pc c.spend.ensures.same c.in_ok-bind_item.ensures.behind c.bind_item.ensures.rest)
