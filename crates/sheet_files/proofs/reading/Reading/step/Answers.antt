use Rattle.std.proofs.Common.{◌≡◌, ◌-◌, ◌<◌, [], ◌∷◌, ◌++◌, List, is_some, length, ap, sym, refl, arith, ◌∙◌}
use Rattle.std.proofs.lemmas.Bool.{false≢true}
use Rattle.std.specs.Vec.{vec_len, with_item}
use Rattle.sheet_files.specs.Held.{kept_most, turns_of}
use Rattle.sheet_files.specs.declared.going.Going.{Going}
use Rattle.sheet_files.specs.declared.reading.Reading.{Reading}
use Rattle.sheet_files.proofs.Halting.{first_told}
use Rattle.sheet_files.proofs.Lasting.{StandsLast, bad_swapped, end_less, end_steps, held_swapped, last_limits, lessens_from, lessens_need, need_swapped, need_wants, now_is, front, turns_event, turns_need, was_is, within_swapped}
use Rattle.sheet_files.proofs.Staying.{stays_none, stays_then}
use Rattle.sheet_files.proofs.Stepping.{over_wants_none, steps_from}
use Rattle.sheet_files.proofs.Telling.{short_halts}
use Rattle.sheet_files.proofs.Turning.{some_going}
use Rattle.sheet_files.proofs.reading.Reading.step.Goals as goal

some_of : (xs : List Going) → (xs ≡ [] → ⊥) → 0 < length xs
some_of [] h = absurd (h refl)
some_of (x ∷ xs) h = omega arith

pub unreachable-requires : goal.unreachable-requires
unreachable-requires g c =
    let self = c.args.self.now in
    let read = c.requires.read in
    let some = some_of self.going.items (some_going self.limits read.0 self.going.items self.files.items self.loader self.left read.1 c.requires.on) in
    false≢true (sym (ap is_some c.in_default.is) ∙ c.last_mut.ensures.item.2 some)

pub take-requires-clause-held : goal.take-requires-clause-held
take-requires-clause-held g c =
    let self = c.args.self.now in
    let was = c.in-Some.going.now in
    let is : Going = record was { reader = c.next.new.self } in
    let last : StandsLast self.going.items (vec_len self.going) was = record { counted = self.going.ok.0; some = c.in-Some.ensures.item.3.0; here = c.in-Some.ensures.item.1 } in
    held_swapped self was last is (g.H.Host.outside c.args.host.now) (g.H.Host.outside c.args.host.now) c.requires.held refl refl c.in-Event.ensures.lexer_limits refl

pub take-requires-clause-told : goal.take-requires-clause-told
take-requires-clause-told g c =
    let self = c.args.self.now in
    let was = c.in-Some.going.now in
    let is : Going = record was { reader = c.next.new.self } in
    let last : StandsLast self.going.items (vec_len self.going) was = record { counted = self.going.ok.0; some = c.in-Some.ensures.item.3.0; here = c.in-Some.ensures.item.1 } in (
      c.requires.read.0,
      self,
      record {
        front = front self was last;
        was = was;
        is = is;
        old = was_is self was last;
        new = now_is self was last is;
        files = refl;
        loader = refl;
        left = refl;
        limits = refl;
        others = (refl, refl, refl, refl);
        on = c.requires.on;
        none = c.requires.none;
        answer = c.in-Event.ensures.answer;
        leaves = c.in-Event.ensures.leaves;
        repeats = c.in-Event.ensures.repeats;
        goes = c.in-Event.ensures.goes;
        lists = c.in-Event.ensures.lists;
        whole = c.in-Event.ensures.whole;
        ended = c.in-Event.ensures.ended;
      },
      c.requires.read.1,
    )

pub go_on-requires-clause-held : goal.go_on-requires-clause-held
go_on-requires-clause-held g c =
    let self = c.args.self.now in
    let was = c.in-Some.going.now in
    let is : Going = record was { reader = c.next.new.self } in
    let last : StandsLast self.going.items (vec_len self.going) was = record { counted = self.going.ok.0; some = c.in-Some.ensures.item.3.0; here = c.in-Some.ensures.item.1 } in
    held_swapped self was last is (g.H.Host.outside c.args.host.now) (g.H.Host.outside c.args.host.now) c.requires.held refl refl c.in-Need.ensures.lexer_limits refl

pub go_on-requires-clause-read : goal.go_on-requires-clause-read
go_on-requires-clause-read g c =
    let self = c.args.self.now in
    let was = c.in-Some.going.now in
    let is : Going = record was { reader = c.next.new.self } in
    let last : StandsLast self.going.items (vec_len self.going) was = record { counted = self.going.ok.0; some = c.in-Some.ensures.item.3.0; here = c.in-Some.ensures.item.1 } in
    let read = c.requires.read in
    (read.0, need_swapped self was last is read.0 read.1 c.requires.on c.requires.none refl refl refl c.in-Need.ensures.answer c.in-Need.ensures.leaves c.in-Need.ensures.goes c.in-Need.ensures.ended)

pub go_on-requires-clause-wants : goal.go_on-requires-clause-wants
go_on-requires-clause-wants g c =
    let self = c.args.self.now in
    let was = c.in-Some.going.now in
    let is : Going = record was { reader = c.next.new.self } in
    let last : StandsLast self.going.items (vec_len self.going) was = record { counted = self.going.ok.0; some = c.in-Some.ensures.item.3.0; here = c.in-Some.ensures.item.1 } in
    need_wants self was last is c.in-Need.ensures.answer c.in-Need.ensures.leaves c.in-Need.ensures.goes c.in-Need.ensures.ended

pub leave-requires-clause-held : goal.leave-requires-clause-held
leave-requires-clause-held g c =
    let self = c.args.self.now in
    let was = c.in-Some.going.now in
    let is : Going = record was { reader = c.next.new.self } in
    let last : StandsLast self.going.items (vec_len self.going) was = record { counted = self.going.ok.0; some = c.in-Some.ensures.item.3.0; here = c.in-Some.ensures.item.1 } in
    held_swapped self was last is (g.H.Host.outside c.args.host.now) (g.H.Host.outside c.args.host.now) c.requires.held refl refl c.in-End.ensures.lexer_limits refl

pub returns-in-Event-clause-steps : goal.returns-in-Event-clause-steps
returns-in-Event-clause-steps g c name read =
    let self = c.args.self.now in
    let o = g.H.Host.outside c.args.host.now in
    let was = c.in-Some.going.now in
    let is : Going = record was { reader = c.next.new.self } in
    let last : StandsLast self.going.items (vec_len self.going) was = record { counted = self.going.ok.0; some = c.in-Some.ensures.item.3.0; here = c.in-Some.ensures.item.1 } in
    let mid : Reading = record self { going = with_item self.going (vec_len self.going - 1) is; spare = c.next.new.spare } in
    steps_from name o (g.H.Host.outside c.take.new.host) self mid c.take.new.self c.take.result refl
    (λ start acts within. (acts ++ [], within_swapped self was last is start o acts c.requires.held refl refl refl c.in-Event.ensures.ended within, stays_none self.limits name start acts))
    (c.take.ensures.steps name self
    (record {
      front = front self was last;
      was = was;
      is = is;
      old = was_is self was last;
      new = now_is self was last is;
      files = refl;
      loader = refl;
      left = refl;
      limits = refl;
      others = (refl, refl, refl, refl);
      on = c.requires.on;
      none = c.requires.none;
      answer = c.in-Event.ensures.answer;
      leaves = c.in-Event.ensures.leaves;
      repeats = c.in-Event.ensures.repeats;
      goes = c.in-Event.ensures.goes;
      lists = c.in-Event.ensures.lists;
      whole = c.in-Event.ensures.whole;
      ended = c.in-Event.ensures.ended;
    })
    read)

pub returns-in-Event-clause-fewer : goal.returns-in-Event-clause-fewer
returns-in-Event-clause-fewer g c =
    let self = c.args.self.now in
    let was = c.in-Some.going.now in
    let is : Going = record was { reader = c.next.new.self } in
    let last : StandsLast self.going.items (vec_len self.going) was = record { counted = self.going.ok.0; some = c.in-Some.ensures.item.3.0; here = c.in-Some.ensures.item.1 } in
    let mid : Reading = record self { going = with_item self.going (vec_len self.going - 1) is; spare = c.next.new.spare } in
    lessens_from self mid c.take.new.self _ (turns_of self) c.take.result refl (turns_event self was last is c.in-Event.ensures.shrinks c.in-Event.ensures.ended) c.take.ensures.fewer

pub returns-in-Need-clause-steps : goal.returns-in-Need-clause-steps
returns-in-Need-clause-steps g c name read =
    let self = c.args.self.now in
    let o = g.H.Host.outside c.args.host.now in
    let was = c.in-Some.going.now in
    let is : Going = record was { reader = c.next.new.self } in
    let last : StandsLast self.going.items (vec_len self.going) was = record { counted = self.going.ok.0; some = c.in-Some.ensures.item.3.0; here = c.in-Some.ensures.item.1 } in
    let mid : Reading = record self { going = with_item self.going (vec_len self.going - 1) is; spare = c.next.new.spare } in
    steps_from name o (g.H.Host.outside c.go_on.new.host) self mid c.go_on.new.self c.go_on.result refl
    (λ start acts within. (acts ++ [], within_swapped self was last is start o acts c.requires.held refl refl refl c.in-Need.ensures.ended within, stays_none self.limits name start acts))
    (c.go_on.ensures.steps name (need_swapped self was last is name read c.requires.on c.requires.none refl refl refl c.in-Need.ensures.answer c.in-Need.ensures.leaves c.in-Need.ensures.goes c.in-Need.ensures.ended))

pub returns-in-Need-clause-fewer : goal.returns-in-Need-clause-fewer
returns-in-Need-clause-fewer g c =
    let self = c.args.self.now in
    let was = c.in-Some.going.now in
    let is : Going = record was { reader = c.next.new.self } in
    let last : StandsLast self.going.items (vec_len self.going) was = record { counted = self.going.ok.0; some = c.in-Some.ensures.item.3.0; here = c.in-Some.ensures.item.1 } in
    let mid : Reading = record self { going = with_item self.going (vec_len self.going - 1) is; spare = c.next.new.spare } in
    let held = held_swapped self was last is (g.H.Host.outside c.args.host.now) (g.H.Host.outside c.args.host.now) c.requires.held refl refl c.in-Need.ensures.lexer_limits refl in
    lessens_need self mid c.go_on.new.self (kept_most self.limits) c.go_on.result refl refl
    (turns_need self was last is (c.in-Need.ensures.keeps refl) c.in-Need.ensures.goes.0 (last_limits self was last is (g.H.Host.outside c.args.host.now) held) c.in-Need.ensures.ended) c.go_on.ensures.fewer c.go_on.ensures.limits

pub returns-in-End-clause-steps : goal.returns-in-End-clause-steps
returns-in-End-clause-steps g c name read =
    let self = c.args.self.now in
    let was = c.in-Some.going.now in
    let is : Going = record was { reader = c.next.new.self } in
    let last : StandsLast self.going.items (vec_len self.going) was = record { counted = self.going.ok.0; some = c.in-Some.ensures.item.3.0; here = c.in-Some.ensures.item.1 } in
    let mid : Reading = record self { going = with_item self.going (vec_len self.going - 1) is; spare = c.next.new.spare } in
    end_steps self was last name (g.H.Host.outside c.args.host.now) (g.H.Host.outside c.leave.new.host) is mid c.leave.new.self c.requires.held refl refl refl refl refl c.leave.ensures.leaves refl refl refl c.in-End.ensures.ended c.in-End.ensures.lexer_limits
    read c.requires.on c.requires.none c.in-End.ensures.answer c.in-End.ensures.goes

pub returns-in-End-clause-fewer : goal.returns-in-End-clause-fewer
returns-in-End-clause-fewer g c =
    let self = c.args.self.now in
    let was = c.in-Some.going.now in
    let is : Going = record was { reader = c.next.new.self } in
    let last : StandsLast self.going.items (vec_len self.going) was = record { counted = self.going.ok.0; some = c.in-Some.ensures.item.3.0; here = c.in-Some.ensures.item.1 } in
    let mid : Reading = record self { going = with_item self.going (vec_len self.going - 1) is; spare = c.next.new.spare } in (
      c.leave.ensures.leaves.others.2,
      λ on.
          end_less self was last c.requires.read.0 (g.H.Host.outside c.args.host.now) (g.H.Host.outside c.leave.new.host) is mid c.leave.new.self c.requires.held refl refl refl refl refl c.leave.ensures.leaves refl refl refl c.in-End.ensures.ended c.in-End.ensures.lexer_limits,
    )

pub returns-in-Bad-clause-held : goal.returns-in-Bad-clause-held
returns-in-Bad-clause-held g c =
    let self = c.args.self.now in
    let was = c.in-Some.going.now in
    let is : Going = record was { reader = c.next.new.self } in
    let last : StandsLast self.going.items (vec_len self.going) was = record { counted = self.going.ok.0; some = c.in-Some.ensures.item.3.0; here = c.in-Some.ensures.item.1 } in
    held_swapped self was last is (g.H.Host.outside c.args.host.now) (g.H.Host.outside c.args.host.now) c.requires.held refl refl c.in-Bad.ensures.lexer_limits refl

pub returns-in-Bad-clause-steps : goal.returns-in-Bad-clause-steps
returns-in-Bad-clause-steps g c name read =
    let self = c.args.self.now in
    let o = g.H.Host.outside c.args.host.now in
    let was = c.in-Some.going.now in
    let is : Going = record was { reader = c.next.new.self } in
    let last : StandsLast self.going.items (vec_len self.going) was = record { counted = self.going.ok.0; some = c.in-Some.ensures.item.3.0; here = c.in-Some.ensures.item.1 } in
    let over = c.bad.ensures.over c.requires.none in (
      [],
      bad_swapped self was last is name c.bad.new.self c.in-Bad.fault read c.requires.on c.requires.none refl refl refl c.in-Bad.ensures.answer c.in-Bad.ensures.leaves c.in-Bad.ensures.goes c.in-Bad.ensures.ended c.bad.ensures.ends c.bad.ensures.names over,
      over_wants_none c.bad.new.self.progress over,
      λ start acts within. (acts ++ [], within_swapped self was last is start o acts c.requires.held refl refl refl c.in-Bad.ensures.ended within, stays_none self.limits name start acts),
      refl,
    )

pub returns-in-Memory-clause-held : goal.returns-in-Memory-clause-held
returns-in-Memory-clause-held g c =
    let self = c.args.self.now in
    let was = c.in-Some.going.now in
    let is : Going = record was { reader = c.next.new.self } in
    let last : StandsLast self.going.items (vec_len self.going) was = record { counted = self.going.ok.0; some = c.in-Some.ensures.item.3.0; here = c.in-Some.ensures.item.1 } in
    held_swapped self was last is (g.H.Host.outside c.args.host.now) (g.H.Host.outside c.args.host.now) c.requires.held refl refl c.in-Memory.ensures.lexer_limits refl

pub returns-in-Memory-clause-steps : goal.returns-in-Memory-clause-steps
returns-in-Memory-clause-steps g c name read start acts within =
    let self = c.args.self.now in
    let o = g.H.Host.outside c.args.host.now in
    let was = c.in-Some.going.now in
    let is : Going = record was { reader = c.next.new.self } in
    let last : StandsLast self.going.items (vec_len self.going) was = record { counted = self.going.ok.0; some = c.in-Some.ensures.item.3.0; here = c.in-Some.ensures.item.1 } in
    let mid : Reading = record self { going = with_item self.going (vec_len self.going - 1) is; spare = c.next.new.spare } in
    let halts = short_halts name start o mid mid (acts ++ []) refl (first_told start o self.limits name self.going.items self.files.items self.loader self.left [] acts read within) (within_swapped self was last is start o acts c.requires.held refl refl refl c.in-Memory.ensures.ended within) in
    (halts.0, stays_then self.limits name start acts (acts ++ []) halts.0.acts (stays_none self.limits name start acts) halts.1)
