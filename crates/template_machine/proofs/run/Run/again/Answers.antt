use Rattle.std.proofs.Common.{◌≡◌, ◌≢◌, ◌∷◌, ◌++◌, [], Err, Ok, None, Some, false}
use Rattle.std.specs.Option.{option_map_or}
use Rattle.node_stack.specs.Path.{can_have_children, current}
use Rattle.node_stack.specs.Stack.{path}
use Rattle.frame_stack.specs.Stack.{with_frames}
use Rattle.template_machine.specs.Asking.{base_by, place_by}
use Rattle.template_machine.specs.Behind.{StepsFrom, asked_again}
use Rattle.template_machine.specs.Bodies.{active_in, level_in, spent_in}
use Rattle.template_machine.specs.Entering.{Enters, again_opened}
use Rattle.template_machine.specs.Scopes.{in_force}
use Rattle.template_machine.specs.Stops.{fault}
use Rattle.stx_base.specs.declared.fault.RunCode.TheVariants.{ChildrenTwice}
use Rattle.template_machine.specs.declared.program.Link.{Link}
use Rattle.template_machine.specs.declared.run.Asker.TheVariants as asker
use Rattle.template_machine.specs.declared.run.Doing.TheVariants as doing
use Rattle.template_machine.specs.declared.run.Run.{Run}
use Rattle.template_machine.specs.declared.source.Ahead.TheVariants as ahead
use Rattle.template_machine.specs.declared.stop.Stop.TheVariants as stop
use Rattle.template_machine.proofs.AskedAgain.{again_entered, again_stopped}
use Rattle.template_machine.proofs.Beside.{level_found}
use Rattle.template_machine.proofs.Finished.{base_there, current_there, frame_wants_memory}
use Rattle.template_machine.proofs.HeadTaken.{takes_memory}
use Rattle.template_machine.proofs.PassedAgain.{again_moves, again_opens, again_over, again_twice, again_unput, chosen_again, untouched_put, waits_unknown}
use Rattle.template_machine.proofs.PassedThrough.{alone_put, pass_memory, scope_there}
use Rattle.template_machine.proofs.Saying.{none_there, stops_with}
use Rattle.template_machine.proofs.Tops.{top_pushed}
use Rattle.std.proofs.Common.{◌∙◌, IsSome, inr, refl, reverse, sym, subst, true, ◌^◌, ap, arith}
use Rattle.std.specs.Prelude.{IfSome}
use Rattle.group_scope.specs.declared.rank.Chosen.{Chosen}
use Rattle.template_machine.specs.Working.{IsChosen}
use Rattle.template_machine.specs.Standing.{standing_of}
use Rattle.template_machine.specs.Well.{IsWell}
use Rattle.template_machine.proofs.Again.{again_asks, again_base, again_based, again_passes, waiting_put}
use Rattle.template_machine.proofs.Beside.{level_waits}
use Rattle.template_machine.proofs.Handing.{spent_there}
use Rattle.template_machine.proofs.Overs.{goes_or_waits}
use Rattle.frame_stack.specs.declared.frame.Frame.TheVariants.{Pass}
use Rattle.template_machine.specs.Work.{Begins, load, means_of}
use Rattle.template_machine.proofs.Beginning.{begins_passed, begins_put}
use Rattle.template_machine.proofs.Falling.{begins_within}
use Rattle.template_machine.proofs.run.Run.again.Goals as goal
use Rattle.template_machine.proofs.Alone.{body_untouched}

pub link_asked-base-requires : goal.link_asked-base-requires
link_asked-base-requires g c =
    let b = again_based c.args.program.now c.args.self.now c.args.asked c.args.spot.body c.requires in
    subst (λ o. IsSome o) (sym b.1.0) refl

pub level_at-level-requires : goal.level_at-level-requires
level_at-level-requires g c = level_waits c.args.program.now c.args.self.now c.args.asked c.args.spot.body c.requires

pub is_spent-spent-requires : goal.is_spent-spent-requires
is_spent-spent-requires g c =
    let p = c.args.program.now in
    let r = c.args.self.now in
    let w = c.requires.waits in
    spent_there p w.stations 0 true (reverse r.frames.frames) (standing_of r) w.waits.body w.waits.well

pub chosen-requires : goal.chosen-requires
chosen-requires g c = c.requires.waits.steady

pub enter-requires-clause-node : goal.enter-requires-clause-node
enter-requires-clause-node g c = inr (c.requires.waits, c.is_spent-spent.ensures)

pub enter-requires-clause-asker : goal.enter-requires-clause-asker
enter-requires-clause-asker g c = again_asks c.args.program.now c.args.self.now c.args.asked c.args.spot.body c.requires

pub pass-requires-clause-base : goal.pass-requires-clause-base
pass-requires-clause-base g c =
    again_base c.args.program.now c.args.self.now c.args.asked c.args.spot.body c.link_asked-base.result c.requires c.link_asked-base.ensures

pub pass-requires-clause-puts : goal.pass-requires-clause-puts
pass-requires-clause-puts g c = c.requires.waits.steady.written

pub pass-requires-clause-source : goal.pass-requires-clause-source
pass-requires-clause-source g c = c.requires.waits.steady.source

pub end_process-requires : goal.end_process-requires
end_process-requires g c =
    let m = c.pass.new.self in waiting_put c.args.program.now c.args.self.now m m.putting c.pass.ensures.run c.pass.ensures.puts c.requires.waits

pub group-requires : goal.group-requires
group-requires g c =
    again_base c.args.program.now c.args.self.now c.args.asked c.args.spot.body c.link_asked-base.result c.requires c.link_asked-base.ensures

pub returns-clause-stands : goal.returns-clause-stands
returns-clause-stands g c =
    let p = c.args.program.now in
    let r = c.args.self.now in
    let m = c.pass.new.self in
    let h = c.requires in
    goes_or_waits p c.list_goes_on.result c.push.new.self c.list_goes_on.new.self c.list_goes_on.ensures.run c.list_goes_on.ensures.step
    (subst (IsWell p) (sym c.list_goes_on.ensures.run)
    (again_passes p r m c.push.new.self c.args.asked c.args.spot.body c.link_asked-base.result.base c.level_at-level.result c.is_spent-spent.result c.spend_children.new.frames h
    (waiting_put p r m m.putting c.pass.ensures.run c.pass.ensures.puts h.waits) c.pass.ensures.run c.level_at-level.ensures c.is_spent-spent.ensures c.if-spent.false
    (sym c.has_list.ensures ∙ c.if-not-has_list.false) (again_base p r c.args.asked c.args.spot.body c.link_asked-base.result h c.link_asked-base.ensures)
    c.spend_children.ensures c.in_ok-push.ensures.ok))

pub enter-requires-clause-chosen : goal.enter-requires-clause-chosen
enter-requires-clause-chosen g c =
    subst (λ o. IfSome o (λ (x : Chosen). IsChosen c.args.program.now c.args.self.now x.template x.alternative)) c.in-Some.is c.in_ok-chosen.ensures.fits

pub returns-in-Some-clause-works : goal.returns-in-Some-clause-works
returns-in-Some-clause-works g c =
    begins_within 5 (2 ^ 68) c.args.self.now c.enter.new.self (omega arith) c.in_ok-enter.ensures.works

pub returns-then-not-has_list-clause-works : goal.returns-then-not-has_list-clause-works
returns-then-not-has_list-clause-works g c =
    begins_put 0 (2 ^ 68) c.args.self.now c.pass.new.self c.end_process.new.self c.pass.new.self.putting c.pass.ensures.run c.end_process.ensures.works (omega arith)

pub returns-clause-works : goal.returns-clause-works
returns-clause-works g c =
    let r = c.args.self.now in
    let m = c.pass.new.self in
    begins_within 4 (2 ^ 68) r c.list_goes_on.new.self (omega arith)
    (subst (Begins 4 r) (sym c.list_goes_on.ensures.run)
    (begins_passed c.level_at-level.result (Pass c.link_asked-base.result.base c.level_at-level.result true) r m c.push.new.self c.spend_children.new.frames
    (ap load c.pass.ensures.run) (ap means_of c.pass.ensures.run) c.spend_children.ensures c.in_ok-push.ensures.ok (omega arith)))

pub returns-in_err-active-clause-steps : goal.returns-in_err-active-clause-steps
returns-in_err-active-clause-steps g c = λ alone placed.
    let p = c.args.program.now in
    let r = c.args.self.now in
    let asked = c.args.asked in
    let body = c.args.spot.body in
    let x = asker.Instr asked body in
    subst (λ y. StepsFrom g.S.Sink.output g.S.Sink.told p (λ given left f. asked_again given p asked r left f) y r c.args.out.now c.args.out.now) (sym (stops_with c.from_residual.result stop.Memory c.from_residual.ensures.1))
    (takes_memory g.S.Sink.output g.S.Sink.told g.met.S.Sink.nothing p (λ given left f. asked_again given p asked r left f) stop.Memory r c.args.out.now refl)

pub returns-in_err-chosen-clause-steps : goal.returns-in_err-chosen-clause-steps
returns-in_err-chosen-clause-steps g c = λ alone placed.
    let p = c.args.program.now in
    let r = c.args.self.now in
    let asked = c.args.asked in
    let body = c.args.spot.body in
    let x = asker.Instr asked body in
    let e = c.in_err-chosen.field-0.0 in
    subst (λ y. StepsFrom g.S.Sink.output g.S.Sink.told p (λ given left f. asked_again given p asked r left f) y r c.args.out.now c.args.out.now) (sym (stops_with c.from_residual-in_err-chosen.result e c.from_residual-in_err-chosen.ensures.1))
    (takes_memory g.S.Sink.output g.S.Sink.told g.met.S.Sink.nothing p (λ given left f. asked_again given p asked r left f) e r c.args.out.now c.in_err-chosen.ensures.memory)

pub returns-in-Some-clause-steps : goal.returns-in-Some-clause-steps
returns-in-Some-clause-steps g c = λ alone placed.
    let p = c.args.program.now in
    let r = c.args.self.now in
    let asked = c.args.asked in
    let body = c.args.spot.body in
    let x = asker.Instr asked body in
    let h = c.requires in
    let level = c.level_at-level.result in
    let own = level_found p r asked body level h c.level_at-level.ensures in
    let spent = c.is_spent-spent.result in
    let n = c.enter.new.self in
    let ch = c.in-Some.chosen in
    let chosen = subst (λ o. IfSome o (λ (y : Chosen). IsChosen p r y.template y.alternative)) c.in-Some.is c.in_ok-chosen.ensures.fits in
    let based : c.link_asked-base.result.base ≡ base_by p x = sym (ap (λ o. option_map_or (λ (l : Link). l.base) o 0) c.link_asked-base.ensures) in
    let chooses = chosen_again p r c.link_asked-base.result.base (base_by p x) _ (active_in level (reverse r.frames.frames)) _ (Some ch) based c.in_ok-active.ensures c.in-Some.is c.in_ok-chosen.ensures.chooses in
    again_entered p r n asked body level spent h own c.is_spent-spent.ensures alone ch chosen chooses g.S.Sink.output g.S.Sink.told g.met.S.Sink.nothing c.args.out.now
    (subst (λ y. Enters p ch.template ch.alternative x spent y (Ok tt) r n) placed c.in_ok-enter.ensures.enters)

pub returns-in_err-enter-clause-steps : goal.returns-in_err-enter-clause-steps
returns-in_err-enter-clause-steps g c = λ alone placed.
    let p = c.args.program.now in
    let r = c.args.self.now in
    let asked = c.args.asked in
    let body = c.args.spot.body in
    let x = asker.Instr asked body in
    let h = c.requires in
    let level = c.level_at-level.result in
    let own = level_found p r asked body level h c.level_at-level.ensures in
    let spent = c.is_spent-spent.result in
    let n = c.enter.new.self in
    let ch = c.in-Some.chosen in
    let chosen = subst (λ o. IfSome o (λ (y : Chosen). IsChosen p r y.template y.alternative)) c.in-Some.is c.in_ok-chosen.ensures.fits in
    let based : c.link_asked-base.result.base ≡ base_by p x = sym (ap (λ o. option_map_or (λ (l : Link). l.base) o 0) c.link_asked-base.ensures) in
    let chooses = chosen_again p r c.link_asked-base.result.base (base_by p x) _ (active_in level (reverse r.frames.frames)) _ (Some ch) based c.in_ok-active.ensures c.in-Some.is c.in_ok-chosen.ensures.chooses in
    let e = c.in_err-enter.field-0.0 in
    subst (λ y. StepsFrom g.S.Sink.output g.S.Sink.told p (λ given left f. asked_again given p asked r left f) y n c.args.out.now c.args.out.now) (sym (stops_with c.from_residual-in_err-enter.result e c.from_residual-in_err-enter.ensures.1))
    (again_stopped p r n asked body level spent h own c.is_spent-spent.ensures alone ch chosen chooses g.S.Sink.output g.S.Sink.told g.met.S.Sink.nothing c.args.out.now e
    (subst (λ y. Enters p ch.template ch.alternative x spent y (Err e) r n) placed c.in_err-enter.ensures.enters))

pub returns-in_err-pass-clause-steps : goal.returns-in_err-pass-clause-steps
returns-in_err-pass-clause-steps g c = λ alone placed.
    let p = c.args.program.now in
    let r = c.args.self.now in
    let asked = c.args.asked in
    let body = c.args.spot.body in
    let x = asker.Instr asked body in
    let m = c.pass.new.self in
    let h = c.requires in
    let level = c.level_at-level.result in
    let own = level_found p r asked body level h c.level_at-level.ensures in
    let base = c.link_asked-base.result.base in
    let spent = c.is_spent-spent.result in
    let gone = c.is_spent-spent.ensures in
    let based : base ≡ base_by p x = sym (ap (λ o. option_map_or (λ (l : Link). l.base) o 0) c.link_asked-base.ensures) in
    let group = base_there p.sheet.groups base (again_base p r asked body c.link_asked-base.result h c.link_asked-base.ensures) in
    let t = current_there r in
    let scope = in_force r.source.bindings in
    let bound = scope_there r h.waits.steady.source in
    let chooses = chosen_again p r base base _ (active_in level (reverse r.frames.frames)) _ None refl c.in_ok-active.ensures (none_there _ (λ y e. c.in_default.not-Some y e)) c.in_ok-chosen.ensures.chooses in
    let rest = c.pass.ensures.run in
    let e = c.in_err-pass.field-0.0 in
    subst (λ y. StepsFrom g.S.Sink.output g.S.Sink.told p (λ given left f. asked_again given p asked r left f) y m c.args.out.now c.pass.new.out) (sym (stops_with c.from_residual-in_err-pass.result e c.from_residual-in_err-pass.ensures.1))
    (again_unput p r m asked body level base spent h own gone based group.0 group.1 t.0 t.1 scope bound chooses rest g.S.Sink.output g.S.Sink.told c.args.out.now c.pass.new.out e (c.in_err-pass.ensures.parts group.0 group.1 t.0 t.1))

pub returns-then-not-has_list-clause-steps : goal.returns-then-not-has_list-clause-steps
returns-then-not-has_list-clause-steps g c = λ alone placed.
    let p = c.args.program.now in
    let r = c.args.self.now in
    let asked = c.args.asked in
    let body = c.args.spot.body in
    let x = asker.Instr asked body in
    let m = c.pass.new.self in
    let h = c.requires in
    let level = c.level_at-level.result in
    let own = level_found p r asked body level h c.level_at-level.ensures in
    let base = c.link_asked-base.result.base in
    let spent = c.is_spent-spent.result in
    let gone = c.is_spent-spent.ensures in
    let based : base ≡ base_by p x = sym (ap (λ o. option_map_or (λ (l : Link). l.base) o 0) c.link_asked-base.ensures) in
    let group = base_there p.sheet.groups base (again_base p r asked body c.link_asked-base.result h c.link_asked-base.ensures) in
    let t = current_there r in
    let scope = in_force r.source.bindings in
    let bound = scope_there r h.waits.steady.source in
    let chooses = chosen_again p r base base _ (active_in level (reverse r.frames.frames)) _ None refl c.in_ok-active.ensures (none_there _ (λ y e. c.in_default.not-Some y e)) c.in_ok-chosen.ensures.chooses in
    let rest = c.pass.ensures.run in
    let leaf : can_have_children (Some t.0) ≡ false =
    sym (ap can_have_children t.1) ∙ sym (ap (λ (y : Run). can_have_children (current (path y.source.stack))) rest) ∙ sym c.has_list.ensures ∙ c.if-not-has_list.true in
    again_over p r m asked body level base spent h own gone based group.0 group.1 t.0 t.1 scope bound chooses rest g.S.Sink.output g.S.Sink.told c.args.out.now c.pass.new.out leaf _ c.end_process.new.self (c.in_ok-pass.ensures.parts group.0 group.1 t.0 t.1) (c.end_process.ensures.moves (alone_put p r m rest alone))

pub returns-then-spent-clause-steps : goal.returns-then-spent-clause-steps
returns-then-spent-clause-steps g c = λ alone placed.
    let p = c.args.program.now in
    let r = c.args.self.now in
    let asked = c.args.asked in
    let body = c.args.spot.body in
    let x = asker.Instr asked body in
    let m = c.pass.new.self in
    let h = c.requires in
    let level = c.level_at-level.result in
    let own = level_found p r asked body level h c.level_at-level.ensures in
    let base = c.link_asked-base.result.base in
    let spent = c.is_spent-spent.result in
    let gone = c.is_spent-spent.ensures in
    let based : base ≡ base_by p x = sym (ap (λ o. option_map_or (λ (l : Link). l.base) o 0) c.link_asked-base.ensures) in
    let group = base_there p.sheet.groups base (again_base p r asked body c.link_asked-base.result h c.link_asked-base.ensures) in
    let t = current_there r in
    let scope = in_force r.source.bindings in
    let bound = scope_there r h.waits.steady.source in
    let chooses = chosen_again p r base base _ (active_in level (reverse r.frames.frames)) _ None refl c.in_ok-active.ensures (none_there _ (λ y e. c.in_default.not-Some y e)) c.in_ok-chosen.ensures.chooses in
    let rest = c.pass.ensures.run in
    let list : can_have_children (Some t.0) ≡ true =
    sym (ap can_have_children t.1) ∙ sym (ap (λ (y : Run). can_have_children (current (path y.source.stack))) rest) ∙ sym c.has_list.ensures ∙ c.if-not-has_list.false in
    again_twice p r m asked body level base spent h own gone based group.0 group.1 t.0 t.1 scope bound chooses rest g.S.Sink.output g.S.Sink.told c.args.out.now c.pass.new.out list c.if-spent.true c.fault.result (c.fault.ensures ∙ ap (fault ChildrenTwice) placed) (c.in_ok-pass.ensures.parts group.0 group.1 t.0 t.1)

pub returns-in_err-push-clause-steps : goal.returns-in_err-push-clause-steps
returns-in_err-push-clause-steps g c = λ alone placed.
    let p = c.args.program.now in
    let r = c.args.self.now in
    let asked = c.args.asked in
    let body = c.args.spot.body in
    let x = asker.Instr asked body in
    let m = c.pass.new.self in
    let h = c.requires in
    let level = c.level_at-level.result in
    let own = level_found p r asked body level h c.level_at-level.ensures in
    let base = c.link_asked-base.result.base in
    let spent = c.is_spent-spent.result in
    let gone = c.is_spent-spent.ensures in
    let based : base ≡ base_by p x = sym (ap (λ o. option_map_or (λ (l : Link). l.base) o 0) c.link_asked-base.ensures) in
    let group = base_there p.sheet.groups base (again_base p r asked body c.link_asked-base.result h c.link_asked-base.ensures) in
    let t = current_there r in
    let scope = in_force r.source.bindings in
    let bound = scope_there r h.waits.steady.source in
    let chooses = chosen_again p r base base _ (active_in level (reverse r.frames.frames)) _ None refl c.in_ok-active.ensures (none_there _ (λ y e. c.in_default.not-Some y e)) c.in_ok-chosen.ensures.chooses in
    let rest = c.pass.ensures.run in
    let list : can_have_children (Some t.0) ≡ true =
    sym (ap can_have_children t.1) ∙ sym (ap (λ (y : Run). can_have_children (current (path y.source.stack))) rest) ∙ sym c.has_list.ensures ∙ c.if-not-has_list.false in
    let e = c.in_err-push.field-0.0 in
    let s = c.push.new.self in
    subst (λ y. StepsFrom g.S.Sink.output g.S.Sink.told p (λ given left f. asked_again given p asked r left f) y s c.args.out.now c.pass.new.out) (sym (stops_with c.from_residual-in_err-push.result e c.from_residual-in_err-push.ensures.1))
    (again_opens p r m asked body level base spent h own gone based group.0 group.1 t.0 t.1 scope bound chooses rest g.S.Sink.output g.S.Sink.told c.args.out.now c.pass.new.out list (Err e) s (c.in_ok-pass.ensures.parts group.0 group.1 t.0 t.1)
    (frame_wants_memory p (λ given left f. again_opened given p (place_by p x) base m left f) s e (pass_memory _ p.limits.instances base level true c.spend_children.new.frames.frames e c.in_err-push.ensures.full)))

pub returns-clause-steps : goal.returns-clause-steps
returns-clause-steps g c = λ alone placed.
    let p = c.args.program.now in
    let r = c.args.self.now in
    let asked = c.args.asked in
    let body = c.args.spot.body in
    let x = asker.Instr asked body in
    let m = c.pass.new.self in
    let h = c.requires in
    let level = c.level_at-level.result in
    let own = level_found p r asked body level h c.level_at-level.ensures in
    let base = c.link_asked-base.result.base in
    let spent = c.is_spent-spent.result in
    let gone = c.is_spent-spent.ensures in
    let based : base ≡ base_by p x = sym (ap (λ o. option_map_or (λ (l : Link). l.base) o 0) c.link_asked-base.ensures) in
    let group = base_there p.sheet.groups base (again_base p r asked body c.link_asked-base.result h c.link_asked-base.ensures) in
    let t = current_there r in
    let scope = in_force r.source.bindings in
    let bound = scope_there r h.waits.steady.source in
    let chooses = chosen_again p r base base _ (active_in level (reverse r.frames.frames)) _ None refl c.in_ok-active.ensures (none_there _ (λ y e. c.in_default.not-Some y e)) c.in_ok-chosen.ensures.chooses in
    let rest = c.pass.ensures.run in
    let list_m : can_have_children (current (path m.source.stack)) ≡ true = sym c.has_list.ensures ∙ c.if-not-has_list.false in
    let list_r : can_have_children (current (path r.source.stack)) ≡ true = sym (ap (λ (y : Run). can_have_children (current (path y.source.stack))) rest) ∙ list_m in
    let list : can_have_children (Some t.0) ≡ true = sym (ap can_have_children t.1) ∙ list_r in
    let unspent : spent_in (reverse r.frames.frames) ≡ Some false = gone ∙ ap Some c.if-spent.false in
    let ahead_same = ap (λ (y : Run). y.source.ahead) rest in
    let more = c.spend_children.new.frames in
    let frame = Pass base level true in
    let n = c.list_goes_on.new.self in
    let opened = record m { frames = with_frames (more.frames ++ frame ∷ []) more; doing = doing.List } in
    let run : n ≡ opened = c.list_goes_on.ensures.run ∙ ap (λ (y : Run). record y { doing = doing.List }) c.in_ok-push.ensures.ok in
    again_opens p r m asked body level base spent h own gone based group.0 group.1 t.0 t.1 scope bound chooses rest g.S.Sink.output g.S.Sink.told c.args.out.now c.pass.new.out list (Ok c.list_goes_on.result) n (c.in_ok-pass.ensures.parts group.0 group.1 t.0 t.1)
    (again_moves p m n c.push.new.self base level (place_by p x) c.list_goes_on.result (alone_put p r m rest alone) list_m
    (ap (λ (y : Run). spent_in (reverse y.frames.frames)) rest ∙ unspent) (untouched_put r m rest (body_untouched p r h.waits alone)) (λ e. h.waits.apart (sym ahead_same ∙ e))
    (ahead_same ∙ waits_unknown p r asked body h alone unspent list_r) (ap (λ (y : Run). level_in (reverse y.frames.frames)) rest ∙ own)
    (ap (λ (y : Run). reverse y.frames.frames) run ∙ top_pushed more.frames frame ∙ ap (λ l. frame ∷ l) c.spend_children.ensures)
    (run ∙ sym (ap (λ (y : Run). record m { frames = y.frames; doing = doing.List }) run)) c.list_goes_on.ensures.step)
