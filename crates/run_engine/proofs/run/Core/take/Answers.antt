use Rattle.run_engine.specs.declared.piece.Piece.TheVariants as piece
use Rattle.run_engine.proofs.Counting.{asks-handed, burned, fewer-then}
use Rattle.run_engine.specs.Asks.{AsksFewer, asks_handed, main_events}
use Rattle.std.proofs.Common.{refl, sym, ap, subst, arith}
use Rattle.template_machine.specs.Between.{IsAskingForDocument, fuel_of}
use Rattle.run_engine.specs.Run.{Absents}
use Rattle.run_engine.specs.Taking.{Takes, handed}
use Rattle.run_engine.specs.inside.Cores.{MayTake, opens_of, run_of, stage_of, asks_of, most_at}
use Rattle.run_engine.specs.declared.run.Core.{Core}
use Rattle.run_engine.proofs.Asking.{lacks, same-then}
use Rattle.run_engine.proofs.Feeding.{opened-turned, started}
use Rattle.run_engine.specs.Does.{InOrderAt}
use Rattle.run_engine.specs.inside.Gives.{GivesPiece}
use Rattle.run_engine.proofs.Reading.{bytes-give, end-gives, never-absent, never-opened, new-at, piece-lacks, start-gives}
use Rattle.run_engine.proofs.Standing.{fresh-at, reads-by, reads-by-end, unended-by, unended-by-end, waits-absent, waits-by, wanting}
use Rattle.run_engine.proofs.run.Core.take.Goals as goal

pub start-turn-requires : goal.start-turn-requires
start-turn-requires c =
    let s = c.args.self.now in
    let m = subst (MayTake s) c.in-Start.is c.requires in
    (fresh-at s s.stage m.may m.sound.sound).machine

pub go_from-requires : goal.go_from-requires
go_from-requires c =
    let s = c.args.self.now in
    let m = subst (MayTake s) c.in-Start.is c.requires in
    started s (record s { machine = c.start-turn.new.self; out = c.start-turn.new.out }) (fresh-at s s.stage m.may m.sound.sound) refl refl refl c.start-turn.ensures.depth c.start-turn.ensures.fuel_limit c.start-turn.result c.start-turn.ensures.more c.start-turn.ensures.want c.start-turn.ensures.ended c.start-turn.ensures.documents c.start-turn.ensures.mains

pub feed-requires-clause-reads : goal.feed-requires-clause-reads
feed-requires-clause-reads c =
    let s = c.args.self.now in
    let m = subst (MayTake s) c.in-Bytes.is c.requires in
    reads-by s s.stage c.in-Bytes.bytes m.may m.sound.sound

pub feed-requires-clause-unended : goal.feed-requires-clause-unended
feed-requires-clause-unended c =
    let s = c.args.self.now in
    let m = subst (MayTake s) c.in-Bytes.is c.requires in
    unended-by s s.stage c.in-Bytes.bytes m.may (reads-by s s.stage c.in-Bytes.bytes m.may m.sound.sound) m.sound.stands

pub finish-requires-clause-reads : goal.finish-requires-clause-reads
finish-requires-clause-reads c =
    let s = c.args.self.now in
    let m = subst (MayTake s) c.in-End.is c.requires in
    reads-by-end s s.stage m.may m.sound.sound

pub finish-requires-clause-unended : goal.finish-requires-clause-unended
finish-requires-clause-unended c =
    let s = c.args.self.now in
    let m = subst (MayTake s) c.in-End.is c.requires in
    unended-by-end s s.stage m.may (reads-by-end s s.stage m.may m.sound.sound) m.sound.stands

pub open-requires-clause-wants : goal.open-requires-clause-wants
open-requires-clause-wants c =
    let s = c.args.self.now in
    let m = subst (MayTake s) c.in-Opened.is c.requires in
    wanting s s.stage refl m.may

pub open-requires-clause-bare : goal.open-requires-clause-bare
open-requires-clause-bare c =
    let s = c.args.self.now in
    let m = subst (MayTake s) c.in-Opened.is c.requires in
    (waits-by s s.stage m.may m.sound.sound).steady.bare

pub miss-requires : goal.miss-requires
miss-requires c =
    let s = c.args.self.now in
    let m = subst (MayTake s) c.in-Absent.is c.requires in
    waits-absent s s.stage m.may m.sound.sound

pub go_on-requires : goal.go_on-requires
go_on-requires c = c.in-Ok.ensures.reads

pub go_on-requires-in-End : goal.go_on-requires-in-End
go_on-requires-in-End c = c.finish.ensures.reads

pub document_opened-turn-requires : goal.document_opened-turn-requires
document_opened-turn-requires c =
    let s = c.args.self.now in
    let m = subst (MayTake s) c.in-Opened.is c.requires in
    subst IsAskingForDocument (sym (ap (λ (x : Core). x.machine) c.in-Ok-open.ensures.opens.others)) (waits-by s s.stage m.may m.sound.sound).asking

pub go_from-requires-in-Ok-open : goal.go_from-requires-in-Ok-open
go_from-requires-in-Ok-open c =
    let s = c.args.self.now in
    let m = subst (MayTake s) c.in-Opened.is c.requires in
    let w : Core = c.open.new.self in
    opened-turned s w (record w { machine = c.document_opened-turn.new.self; out = c.document_opened-turn.new.out }) (waits-by s s.stage m.may m.sound.sound) c.in-Ok-open.ensures.opens refl refl refl
    c.document_opened-turn.ensures.depth c.document_opened-turn.ensures.fuel_limit c.document_opened-turn.result c.document_opened-turn.ensures.more c.document_opened-turn.ensures.want c.document_opened-turn.ensures.ended c.document_opened-turn.ensures.documents c.document_opened-turn.ensures.mains

pub returns-in-Start-clause-absent : goal.returns-in-Start-clause-absent
returns-in-Start-clause-absent c = subst (λ p. Absents p (stage_of c.go_from.new.self.stage)) (sym c.in-Start.is) tt

pub returns-in-Start-clause-took : goal.returns-in-Start-clause-took
returns-in-Start-clause-took c =
    let t = c.go_from.new.self in
    subst (λ p. Takes (stage_of t.stage) (handed (run_of c.args.self.now) p) (opens_of t)) (sym c.in-Start.is) c.go_from.ensures.answers.took

pub returns-in-Ok-clause-same : goal.returns-in-Ok-clause-same
returns-in-Ok-clause-same c = same-then c.args.self.now c.feed.new.self c.go_on.new.self c.feed.ensures.same c.go_on.ensures.answers.same

pub returns-in-Ok-clause-absent : goal.returns-in-Ok-clause-absent
returns-in-Ok-clause-absent c = subst (λ p. Absents p (stage_of c.go_on.new.self.stage)) (sym c.in-Bytes.is) tt

pub returns-in-Ok-clause-took : goal.returns-in-Ok-clause-took
returns-in-Ok-clause-took c =
    let t = c.go_on.new.self in
    subst (λ p. Takes (stage_of t.stage) (handed (run_of c.args.self.now) p) (opens_of t)) (sym c.in-Bytes.is) (subst (λ ds. Takes (stage_of t.stage) ds (opens_of t)) c.in-Ok.ensures.given c.go_on.ensures.answers.took)

pub returns-in-Err-clause-same : goal.returns-in-Err-clause-same
returns-in-Err-clause-same c =
    let t = c.lack.new.self in
    same-then c.args.self.now c.feed.new.self t c.feed.ensures.same (lacks c.feed.new.self t c.lack.result c.lack.ensures.answer c.lack.ensures.over).same

pub returns-in-Err-clause-took : goal.returns-in-Err-clause-took
returns-in-Err-clause-took c = subst (λ (x : Core). Takes (stage_of x.stage) (handed (run_of c.args.self.now) c.args.piece) (opens_of x)) (sym c.lack.ensures.over) tt

pub returns-in-Err-clause-absent : goal.returns-in-Err-clause-absent
returns-in-Err-clause-absent c = subst (λ p. Absents p (stage_of c.lack.new.self.stage)) (sym c.in-Bytes.is) tt

pub returns-in-End-clause-same : goal.returns-in-End-clause-same
returns-in-End-clause-same c = same-then c.args.self.now c.finish.new.self c.go_on-in-End.new.self c.finish.ensures.same c.go_on-in-End.ensures.answers.same

pub returns-in-End-clause-absent : goal.returns-in-End-clause-absent
returns-in-End-clause-absent c = subst (λ p. Absents p (stage_of c.go_on-in-End.new.self.stage)) (sym c.in-End.is) tt

pub returns-in-End-clause-took : goal.returns-in-End-clause-took
returns-in-End-clause-took c =
    let t = c.go_on-in-End.new.self in
    subst (λ p. Takes (stage_of t.stage) (handed (run_of c.args.self.now) p) (opens_of t)) (sym c.in-End.is) (subst (λ ds. Takes (stage_of t.stage) ds (opens_of t)) c.finish.ensures.given c.go_on-in-End.ensures.answers.took)

pub returns-in-Ok-open-clause-same : goal.returns-in-Ok-open-clause-same
returns-in-Ok-open-clause-same c =
    let w : Core = c.open.new.self in
    let on = c.go_from-in-Ok-open.ensures.answers.same in
    same-then c.args.self.now w c.go_from-in-Ok-open.new.self c.open.ensures.same (record { files = on.files; limits = on.limits; strip = on.strip; cdata = on.cdata })

pub returns-in-Ok-open-clause-absent : goal.returns-in-Ok-open-clause-absent
returns-in-Ok-open-clause-absent c = subst (λ p. Absents p (stage_of c.go_from-in-Ok-open.new.self.stage)) (sym c.in-Opened.is) tt

pub returns-in-Ok-open-clause-took : goal.returns-in-Ok-open-clause-took
returns-in-Ok-open-clause-took c =
    let t = c.go_from-in-Ok-open.new.self in
    subst (λ p. Takes (stage_of t.stage) (handed (run_of c.args.self.now) p) (opens_of t)) (sym c.in-Opened.is) (subst (λ ds. Takes (stage_of t.stage) ds (opens_of t)) c.in-Ok-open.ensures.opens.given c.go_from-in-Ok-open.ensures.answers.took)

pub returns-in-Err-open-clause-same : goal.returns-in-Err-open-clause-same
returns-in-Err-open-clause-same c =
    let t = c.lack-in-Err-open.new.self in
    same-then c.args.self.now c.open.new.self t c.open.ensures.same (lacks c.open.new.self t c.lack-in-Err-open.result c.lack-in-Err-open.ensures.answer c.lack-in-Err-open.ensures.over).same

pub returns-in-Err-open-clause-took : goal.returns-in-Err-open-clause-took
returns-in-Err-open-clause-took c = subst (λ (x : Core). Takes (stage_of x.stage) (handed (run_of c.args.self.now) c.args.piece) (opens_of x)) (sym c.lack-in-Err-open.ensures.over) tt

pub returns-in-Err-open-clause-absent : goal.returns-in-Err-open-clause-absent
returns-in-Err-open-clause-absent c = subst (λ p. Absents p (stage_of c.lack-in-Err-open.new.self.stage)) (sym c.in-Opened.is) tt

pub returns-in-Absent-clause-took : goal.returns-in-Absent-clause-took
returns-in-Absent-clause-took c =
    let t = c.miss.new.self in
    subst (λ p. Takes (stage_of t.stage) (handed (run_of c.args.self.now) p) (opens_of t)) (sym c.in-Absent.is) c.miss.ensures.answers.took

pub returns-in-Absent-clause-absent : goal.returns-in-Absent-clause-absent
returns-in-Absent-clause-absent c = subst (λ p. Absents p (stage_of c.miss.new.self.stage)) (sym c.in-Absent.is) c.miss.ensures.code

pub returns-in-Start-clause-asks : goal.returns-in-Start-clause-asks
returns-in-Start-clause-asks c =
    let s = c.args.self.now in
    let w : Core = record s { machine = c.start-turn.new.self; out = c.start-turn.new.out } in
    let t = c.go_from.new.self in
    subst (λ p. AsksFewer (stage_of t.stage) (asks_handed (run_of s) p) (asks_of t)) (sym c.in-Start.is)
    (fewer-then (stage_of t.stage) (most_at c.start-turn.result (asks_of w)) (asks_of s) (asks_of t)
    (burned c.start-turn.result (main_events (opens_of s)) (main_events (opens_of s)) s.limits.fuel (fuel_of s.machine) (fuel_of w.machine) (omega arith) c.start-turn.ensures.fuel) c.go_from.ensures.answers.asks)

pub returns-in-Ok-clause-asks : goal.returns-in-Ok-clause-asks
returns-in-Ok-clause-asks c =
    let s = c.args.self.now in
    let t = c.go_on.new.self in
    subst (λ p. AsksFewer (stage_of t.stage) (asks_handed (run_of s) p) (asks_of t)) (sym c.in-Bytes.is)
    (subst (λ n. AsksFewer (stage_of t.stage) n (asks_of t)) (asks-handed s c.feed.new.self (handed (run_of s) (piece.Bytes c.in-Bytes.bytes)) c.in-Ok.ensures.given c.feed.ensures.same.limits (ap fuel_of c.feed.ensures.machine)) c.go_on.ensures.answers.asks)

pub returns-in-Err-clause-asks : goal.returns-in-Err-clause-asks
returns-in-Err-clause-asks c = subst (λ (x : Core). AsksFewer (stage_of x.stage) (asks_handed (run_of c.args.self.now) c.args.piece) (asks_of x)) (sym c.lack.ensures.over) tt

pub returns-in-End-clause-asks : goal.returns-in-End-clause-asks
returns-in-End-clause-asks c =
    let s = c.args.self.now in
    let t = c.go_on-in-End.new.self in
    subst (λ p. AsksFewer (stage_of t.stage) (asks_handed (run_of s) p) (asks_of t)) (sym c.in-End.is)
    (subst (λ n. AsksFewer (stage_of t.stage) n (asks_of t)) (asks-handed s c.finish.new.self (handed (run_of s) piece.End) c.finish.ensures.given c.finish.ensures.same.limits (ap fuel_of c.finish.ensures.machine)) c.go_on-in-End.ensures.answers.asks)

pub returns-in-Ok-open-clause-asks : goal.returns-in-Ok-open-clause-asks
returns-in-Ok-open-clause-asks c =
    let s = c.args.self.now in
    let o : Core = c.open.new.self in
    let w : Core = record o { machine = c.document_opened-turn.new.self; out = c.document_opened-turn.new.out } in
    let t = c.go_from-in-Ok-open.new.self in
    let same = c.in-Ok-open.ensures.opens.others in
    subst (λ p. AsksFewer (stage_of t.stage) (asks_handed (run_of s) p) (asks_of t)) (sym c.in-Opened.is)
    (subst (λ n. AsksFewer (stage_of t.stage) n (asks_of t))
    (asks-handed s o (handed (run_of s) piece.Opened) c.in-Ok-open.ensures.opens.given c.open.ensures.same.limits (ap (λ (x : Core). fuel_of x.machine) same))
    (fewer-then (stage_of t.stage) (most_at c.document_opened-turn.result (asks_of w)) (asks_of o) (asks_of t)
    (burned c.document_opened-turn.result (main_events (opens_of o)) (main_events (opens_of o)) o.limits.fuel (fuel_of o.machine) (fuel_of w.machine) (omega arith) c.document_opened-turn.ensures.fuel)
    c.go_from-in-Ok-open.ensures.answers.asks))

pub returns-in-Err-open-clause-asks : goal.returns-in-Err-open-clause-asks
returns-in-Err-open-clause-asks c =
    subst (λ (x : Core). AsksFewer (stage_of x.stage) (asks_handed (run_of c.args.self.now) c.args.piece) (asks_of x)) (sym c.lack-in-Err-open.ensures.over) tt

pub returns-in-Absent-clause-asks : goal.returns-in-Absent-clause-asks
returns-in-Absent-clause-asks c =
    let t = c.miss.new.self in
    fewer-then (stage_of t.stage) 0 (asks_handed (run_of c.args.self.now) c.args.piece) (asks_of t) (omega arith) c.miss.ensures.answers.asks

pub returns-in-Start-clause-gives : goal.returns-in-Start-clause-gives
returns-in-Start-clause-gives c = λ order.
    let s = c.args.self.now in
    let w : Core = record s { machine = c.start-turn.new.self; out = c.start-turn.new.out } in
    let t = c.go_from.new.self in
    let m = subst (MayTake s) c.in-Start.is c.requires in
    let is-new = new-at s.stage m.may in
    let ordinary = subst (λ x. InOrderAt x s.machine (opens_of s)) is-new order in
    subst (λ p. GivesPiece p (stage_of t.stage) s t) (sym c.in-Start.is)
    (start-gives s w t c.start-turn.result is-new (fresh-at s s.stage m.may m.sound.sound) (c.start-turn.ensures.gives ordinary) (c.start-turn.ensures.alone ordinary) c.start-turn.ensures.of c.start-turn.ensures.params refl (stage_of t.stage) c.go_from.ensures.gives)

pub returns-in-Ok-clause-gives : goal.returns-in-Ok-clause-gives
returns-in-Ok-clause-gives c = λ order.
    let s = c.args.self.now in
    let t = c.go_on.new.self in
    let m = subst (MayTake s) c.in-Bytes.is c.requires in
    subst (λ p. GivesPiece p (stage_of t.stage) s t) (sym c.in-Bytes.is)
    (bytes-give c.in-Bytes.bytes s c.feed.new.self t m.may m.sound order c.feed.ensures.machine c.feed.ensures.out c.feed.ensures.same.files c.in-Ok.ensures.given (stage_of t.stage) c.go_on.ensures.gives)

pub returns-in-Err-clause-gives : goal.returns-in-Err-clause-gives
returns-in-Err-clause-gives c = λ order. piece-lacks c.args.piece c.args.self.now c.feed.new.self c.lack.new.self c.feed.ensures.machine c.feed.ensures.out c.lack.ensures.over

pub returns-in-End-clause-gives : goal.returns-in-End-clause-gives
returns-in-End-clause-gives c = λ order.
    let s = c.args.self.now in
    let t = c.go_on-in-End.new.self in
    let m = subst (MayTake s) c.in-End.is c.requires in
    subst (λ p. GivesPiece p (stage_of t.stage) s t) (sym c.in-End.is)
    (end-gives s c.finish.new.self t m.may m.sound order c.finish.ensures.machine c.finish.ensures.out c.finish.ensures.same.files c.finish.ensures.given (stage_of t.stage) c.go_on-in-End.ensures.gives)

pub returns-in-Ok-open-clause-gives : goal.returns-in-Ok-open-clause-gives
returns-in-Ok-open-clause-gives c = λ order. never-opened c.args.self.now (subst (MayTake c.args.self.now) c.in-Opened.is c.requires).may order

pub returns-in-Err-open-clause-gives : goal.returns-in-Err-open-clause-gives
returns-in-Err-open-clause-gives c = λ order. never-opened c.args.self.now (subst (MayTake c.args.self.now) c.in-Opened.is c.requires).may order

pub returns-in-Absent-clause-gives : goal.returns-in-Absent-clause-gives
returns-in-Absent-clause-gives c = λ order. never-absent c.args.self.now (subst (MayTake c.args.self.now) c.in-Absent.is c.requires).may order
