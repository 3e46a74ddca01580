use Rattle.template_machine.proofs.Finished.{instr_moves, own_by}
use Rattle.std.proofs.Common.{◌≡◌, ◌+◌, ◌-◌, ◌∙◌, IsSome, length, reverse, take, refl, ap, sym, subst, arith}
use Rattle.std.specs.Option.{option_and_then, option_map}
use Rattle.frame_stack.specs.Change.{locals_of, with_locals}
use Rattle.frame_stack.specs.Stack.{FrameStack}
use Rattle.template_machine.specs.Bodies.{level_of}
use Rattle.template_machine.proofs.Operating.{asked_at, resumed_by, waiting_count, waiting_locals, waiting_pc, waits_at}
use Rattle.template_machine.proofs.Placing.{changed_reversed, placed_in}
use Rattle.template_machine.proofs.Falling.{begins_body, locals_set}
use Rattle.template_machine.specs.Work.{ahead_work, load, outer_work}
use Rattle.template_machine.specs.declared.run.Doing.TheVariants as doing
use Rattle.template_machine.proofs.run.Run.end_process.Goals as goal

pub running-body-requires : goal.running-body-requires
running-body-requires c = waiting_pc c.args.program.now c.args.self.now c.requires

pub overflow_sub-pc : goal.overflow_sub-pc
overflow_sub-pc c = (asked_at c.args.program.now c.args.self.now c.running-body.result.pc c.requires c.running-body.ensures.pc).0

pub instr_asked-requires : goal.instr_asked-requires
instr_asked-requires c = (asked_at c.args.program.now c.args.self.now c.running-body.result.pc c.requires c.running-body.ensures.pc).2

pub locals_at-requires : goal.locals_at-requires
locals_at-requires c =
    let x = placed_in c.args.self.now.frames.frames c.running-body.result.body c.running-body.ensures.body in
    subst (λ o. IsSome (option_and_then level_of o)) (x.1.0 ∙ sym x.1.1) c.requires.waits.body

pub overflow_sub-len : goal.overflow_sub-len
overflow_sub-len c =
    let p = c.args.program.now in
    let r = c.args.self.now in
    let w = c.requires in
    let pc = c.running-body.result.pc in
    let at = c.running-body.ensures.pc in
    let x = placed_in r.frames.frames c.running-body.result.body c.running-body.ensures.body in
    let count = length c.handed-count.result.now in
    let many = waiting_count p r pc c.instr_asked.result.now count w at c.instr_asked.ensures (ap length c.handed-count.ensures) in
    let are = sym (ap (option_map locals_of) x.1.1) ∙ c.locals_at.ensures in
    let b = waits_at p r w in
    omega (arith, c.len.ensures, waiting_locals p r pc x.0 c.locals_at.result.now count w at x.1.0 are many b.0 b.1)

pub cut_locals-requires-clause-place : goal.cut_locals-requires-clause-place
cut_locals-requires-clause-place c = (placed_in c.args.self.now.frames.frames c.running-body.result.body c.running-body.ensures.body).1.2

pub returns-clause-stands : goal.returns-clause-stands
returns-clause-stands c =
    let p = c.args.program.now in
    let r = c.args.self.now in
    let w = c.requires in
    let pc = c.running-body.result.pc in
    let at = c.running-body.ensures.pc in
    let x = placed_in r.frames.frames c.running-body.result.body c.running-body.ensures.body in
    let count = length c.handed-count.result.now in
    let many = waiting_count p r pc c.instr_asked.result.now count w at c.instr_asked.ensures (ap length c.handed-count.ensures) in
    let are = sym (ap (option_map locals_of) x.1.1) ∙ c.locals_at.ensures in
    let len = c.len.result - count in
    resumed_by p r w pc len c.cut_locals.new.self at
    (ap (λ (y : FrameStack). reverse y.frames) c.cut_locals.ensures ∙ changed_reversed (with_locals (take len)) r.frames.frames c.running-body.result.body c.running-body.ensures.body)
    (λ y b. omega (arith, c.len.ensures, waiting_locals p r pc x.0 c.locals_at.result.now count w at x.1.0 are many y b))

pub returns-clause-works : goal.returns-clause-works
returns-clause-works c =
    let r = c.args.self.now in
    let len = c.len.result - length c.handed-count.result.now in
    let n = record r { frames = c.cut_locals.new.self; doing = doing.Body } in
    let weigh = locals_set (take len) c.running-body.result.body r.frames c.cut_locals.new.self c.cut_locals.ensures in
    let same : load n ≡ load r = ap (λ w. w + ahead_work r.source.ahead + outer_work r.outer.items) weigh in
    begins_body 0 r n refl refl (omega (arith, same))

pub returns-clause-back : goal.returns-clause-back
returns-clause-back c =
    let p = c.args.program.now in
    let r = c.args.self.now in
    let w = c.requires in
    let pc = c.running-body.result.pc in
    let at = c.running-body.ensures.pc in
    let x = placed_in r.frames.frames c.running-body.result.body c.running-body.ensures.body in
    let count = length c.handed-count.result.now in
    let many = waiting_count p r pc c.instr_asked.result.now count w at c.instr_asked.ensures (ap length c.handed-count.ensures) in
    let are = sym (ap (option_map locals_of) x.1.1) ∙ c.locals_at.ensures in
    let same : locals_of x.0 ≡ c.locals_at.result.now = cc in
    let b = waits_at p r w in
    let len = c.len.result - count in
    record {
      pc = pc;
      instr = c.instr_asked.result.now;
      body = x.0;
      at = at;
      is = c.instr_asked.ensures;
      there = x.1.0;
      left = len;
      long = omega (arith, c.len.ensures, ap length same, ap length c.handed-count.ensures, waiting_locals p r pc x.0 c.locals_at.result.now count w at x.1.0 are many b.0 b.1);
      behind =
          ap (λ (y : FrameStack). reverse y.frames) c.cut_locals.ensures
          ∙ changed_reversed (with_locals (take len)) r.frames.frames c.running-body.result.body c.running-body.ensures.body;
      rest = refl;
    }

pub returns-clause-moves : goal.returns-clause-moves
returns-clause-moves c = λ alone.
    let p = c.args.program.now in
    let r = c.args.self.now in
    let pc = c.running-body.result.pc in
    let at = c.running-body.ensures.pc in
    let x = placed_in r.frames.frames c.running-body.result.body c.running-body.ensures.body in
    let are = sym (ap (option_map locals_of) x.1.1) ∙ c.locals_at.ensures in
    let count = length c.handed-count.result.now in
    let len = c.len.result - count in
    let long : c.len.result ≡ length c.locals_at.result.now = omega (arith, c.len.ensures) in
    instr_moves p r (record r { frames = c.cut_locals.new.self; doing = doing.Body }) len pc alone at
    (own_by p len pc c.instr_asked.result.now c.locals_at.result.now (reverse r.frames.frames) at (ap (option_map locals_of) x.1.0 ∙ are) c.instr_asked.ensures
    (ap (λ k. k - count) long ∙ ap (λ l. length c.locals_at.result.now - length l) c.handed-count.ensures))
    (ap (λ (y : FrameStack). reverse y.frames) c.cut_locals.ensures ∙ changed_reversed (with_locals (take len)) r.frames.frames c.running-body.result.body c.running-body.ensures.body)
    refl
