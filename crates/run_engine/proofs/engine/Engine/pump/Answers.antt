use Rattle.run_engine.specs.Asks.{AsksFewer, asks_handed}
use Rattle.std.proofs.Common.{◌≡◌, ◌++◌, ap, refl, subst, sym, ◌∙◌}
use Rattle.stx_base.specs.Course.{Begins}
use Rattle.template_machine.specs.Written.{target_of}
use Rattle.run_engine.specs.Does.{Does, InOrder}
use Rattle.run_engine.specs.Run.{Absents, HasHead, MayCome, Run}
use Rattle.run_engine.specs.Taking.{Takes, handed}
use Rattle.run_engine.specs.inside.Cores.{IsKept, IsSame, opens_of, run_of, stage_of, asks_of}
use Rattle.run_engine.specs.inside.Gives.{AreEmptyAt}
use Rattle.run_engine.proofs.Pumping.{does-all, does-some, emptied-at, kept-but, was-emptied}
use Rattle.run_engine.specs.declared.engine.Engine.TheInside.{Inside}
use Rattle.run_engine.specs.declared.run.Core.{Core}
use Rattle.run_engine.proofs.Asking.{absents-memory, grows, heads, lacks, same-run, same-then}
use Rattle.run_engine.proofs.Standing.{kept-out}
use Rattle.run_engine.proofs.engine.Engine.pump.Goals as goal

pub step-pumped-requires : goal.step-pumped-requires
step-pumped-requires c = record { sound = c.self.invariant.0; may = subst (λ (r : Run). MayCome r.stage c.args.piece) (sym c.self.view_is) c.requires }

pub invariant_of-self : goal.invariant_of-self
invariant_of-self c =
    let old = c.self.inside in
    let mid : Core = c.step-pumped.new.self in
    let was = was-emptied old.core.stage old c.args.piece (subst (λ (r : Run). MayCome r.stage c.args.piece) (sym c.self.view_is) c.requires) c.self.invariant.1 in (
      kept-out mid c.exchange.new.self c.step-pumped.ensures.sound,
      emptied-at mid.stage _ (c.in-Ok.ensures.no_bytes, c.in-Ok.ensures.no_notes, c.exchange.ensures.own_bytes ∙ was.0, c.exchange.ensures.own_notes ∙ was.1),
    )

pub returns-in-Ok-clause-stands : goal.returns-in-Ok-clause-stands
returns-in-Ok-clause-stands c = c.step-pumped.ensures.sound.stands

pub returns-in-Ok-clause-same : goal.returns-in-Ok-clause-same
returns-in-Ok-clause-same c =
    let same = c.step-pumped.ensures.same in
    same-run c.self.inside.core (record c.step-pumped.new.self { out = c.exchange.new.self }) c.args.self.now c.self.view_is (record { files = same.files; limits = same.limits; strip = same.strip; cdata = same.cdata })

pub returns-in-Ok-clause-took : goal.returns-in-Ok-clause-took
returns-in-Ok-clause-took c =
    subst (λ (r : Run). Takes (stage_of c.step-pumped.new.self.stage) (handed r c.args.piece) (opens_of c.step-pumped.new.self)) c.self.view_is c.step-pumped.ensures.took

pub returns-in-Ok-clause-out : goal.returns-in-Ok-clause-out
returns-in-Ok-clause-out c =
    grows c.args.piece c.args.out.now.items c.step-pumped.new.out.items c.append_both.new.bytes.items (stage_of c.step-pumped.new.self.stage) c.step-pumped.ensures.out c.append_both.ensures.bytes

pub returns-in-Ok-clause-head : goal.returns-in-Ok-clause-head
returns-in-Ok-clause-head c =
    heads c.args.piece c.args.out.now.items c.step-pumped.new.out.items c.append_both.new.bytes.items (stage_of c.step-pumped.new.self.stage) c.step-pumped.ensures.out c.append_both.ensures.bytes

pub invariant_of-self-in-Err : goal.invariant_of-self-in-Err
invariant_of-self-in-Err c =
    let inside : Inside = record { core = c.lack.new.self; bytes = c.append_both.new.more; notes = c.append_both.new.others } in
    (subst IsKept (sym c.lack.ensures.over) (record { sound = tt; stands = tt }), subst (λ (x : Core). AreEmptyAt x.stage inside) (sym c.lack.ensures.over) tt)

pub returns-in-Err-clause-says : goal.returns-in-Err-clause-says
returns-in-Err-clause-says c =
    let mid : Core = record c.step-pumped.new.self { out = c.exchange.new.self } in
    (lacks mid c.lack.new.self c.lack.result c.lack.ensures.answer c.lack.ensures.over).says

pub returns-in-Err-clause-stands : goal.returns-in-Err-clause-stands
returns-in-Err-clause-stands c =
    let mid : Core = record c.step-pumped.new.self { out = c.exchange.new.self } in
    (lacks mid c.lack.new.self c.lack.result c.lack.ensures.answer c.lack.ensures.over).sound.stands

pub returns-in-Err-clause-same : goal.returns-in-Err-clause-same
returns-in-Err-clause-same c =
    same-run c.self.inside.core c.lack.new.self c.args.self.now c.self.view_is
    (same-then c.self.inside.core c.step-pumped.new.self c.lack.new.self c.step-pumped.ensures.same
    (subst (IsSame c.step-pumped.new.self) (sym c.lack.ensures.over) (record { files = refl; limits = refl; strip = refl; cdata = refl })))

pub returns-in-Err-clause-took : goal.returns-in-Err-clause-took
returns-in-Err-clause-took c = subst (λ (x : Core). Takes (stage_of x.stage) (handed c.args.self.now c.args.piece) (opens_of x)) (sym c.lack.ensures.over) tt

pub returns-in-Err-clause-absent : goal.returns-in-Err-clause-absent
returns-in-Err-clause-absent c = subst (λ (x : Core). Absents c.args.piece (stage_of x.stage)) (sym c.lack.ensures.over) (absents-memory c.args.piece)

pub returns-in-Err-clause-out : goal.returns-in-Err-clause-out
returns-in-Err-clause-out c =
    grows c.args.piece c.args.out.now.items c.step-pumped.new.out.items c.append_both.new.bytes.items (stage_of c.step-pumped.new.self.stage) c.step-pumped.ensures.out c.append_both.ensures.bytes

pub returns-in-Err-clause-head : goal.returns-in-Err-clause-head
returns-in-Err-clause-head c =
    subst (λ (x : Core). HasHead c.args.piece c.args.out.now.items (stage_of x.stage) c.append_both.new.bytes.items) (sym c.lack.ensures.over) tt

pub returns-in-Ok-clause-asks : goal.returns-in-Ok-clause-asks
returns-in-Ok-clause-asks c =
    subst (λ (r : Run). AsksFewer (stage_of c.step-pumped.new.self.stage) (asks_handed r c.args.piece) (asks_of c.step-pumped.new.self)) c.self.view_is c.step-pumped.ensures.asks

pub returns-in-Err-clause-asks : goal.returns-in-Err-clause-asks
returns-in-Err-clause-asks c = subst (λ (x : Core). AsksFewer (stage_of x.stage) (asks_handed c.args.self.now c.args.piece) (asks_of x)) (sym c.lack.ensures.over) tt

pub returns-in-Ok-clause-does : goal.returns-in-Ok-clause-does
returns-in-Ok-clause-does c = λ order.
    let old = c.self.inside in
    let mid : Core = c.step-pumped.new.self in
    let new : Core = record mid { out = c.exchange.new.self } in
    let may = subst (λ (r : Run). MayCome r.stage c.args.piece) (sym c.self.view_is) c.requires in
    let was = was-emptied old.core.stage old c.args.piece may c.self.invariant.1 in
    let gives = c.step-pumped.ensures.gives (subst InOrder (sym c.self.view_is) order) in
    subst (λ r. Does c.args.piece r (run_of new) c.args.out.now.items c.append_both.new.bytes.items c.args.notes.now.items c.append_both.new.notes.items) c.self.view_is
    (does-all c.args.piece old.core mid new gives c.step-pumped.ensures.same.files refl c.exchange.ensures.target was.2 was.3 c.args.out.now.items c.step-pumped.new.out.items c.append_both.new.bytes.items c.args.notes.now.items
    c.append_both.new.notes.items refl c.waiting.ensures (kept-out mid c.exchange.new.self c.step-pumped.ensures.sound) c.step-pumped.ensures.out c.step-pumped.ensures.begun
    (c.in-Ok.ensures.all_bytes ∙ ap (λ xs. c.step-pumped.new.out.items ++ xs) c.exchange.ensures.bytes) (c.in-Ok.ensures.all_notes ∙ ap (λ xs. c.args.notes.now.items ++ xs) c.exchange.ensures.notes))

pub returns-in-Err-clause-does : goal.returns-in-Err-clause-does
returns-in-Err-clause-does c = λ order.
    let old = c.self.inside in
    let mid : Core = c.step-pumped.new.self in
    let new : Core = c.lack.new.self in
    let may = subst (λ (r : Run). MayCome r.stage c.args.piece) (sym c.self.view_is) c.requires in
    let was = was-emptied old.core.stage old c.args.piece may c.self.invariant.1 in
    let gives = c.step-pumped.ensures.gives (subst InOrder (sym c.self.view_is) order) in
    let becomes = c.lack.ensures.over in
    subst (λ r. Does c.args.piece r (run_of new) c.args.out.now.items c.append_both.new.bytes.items c.args.notes.now.items c.append_both.new.notes.items) c.self.view_is
    (does-some c.args.piece old.core mid new gives c.step-pumped.ensures.same.files (kept-but mid new c.exchange.new.self _ becomes) (ap (λ (x : Core). target_of x.out) becomes ∙ c.exchange.ensures.target) was.2 was.3
    c.args.out.now.items c.step-pumped.new.out.items c.append_both.new.bytes.items c.args.notes.now.items c.append_both.new.notes.items (ap (λ (x : Core). x.stage) becomes) c.step-pumped.ensures.begun
    (subst (λ xs. Begins c.append_both.new.bytes.items (c.step-pumped.new.out.items ++ xs)) c.exchange.ensures.bytes c.in-Err.ensures.some_bytes)
    (subst (λ xs. Begins c.append_both.new.notes.items (c.args.notes.now.items ++ xs)) c.exchange.ensures.notes c.in-Err.ensures.some_notes))
