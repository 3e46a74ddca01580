-- How what a core says is joined.
use Rattle.std.proofs.Common.{◌≡◌, ℕ, Bool, true, false, List, [], ◌∷◌, ◌++◌, Option, Some, None, refl, sym, ap, subst, ◌∙◌}
use Rattle.stx_base.specs.Course.{Halt, Same, says}
use Rattle.stx_base.proofs.Course.{same_equal, same_says, same_then, says_says}
use Rattle.result_writer.specs.Target.{Target, behind}
use Rattle.fault_report.specs.declared.outcome.Outcome.{Outcome}
use Rattle.fault_report.specs.declared.outcome.Outcome.TheVariants as ended
use Rattle.sheet_model.specs.declared.sheet.Sheet.{Sheet}
use Rattle.stx_base.specs.declared.limits.Limits.{Limits}
use Rattle.template_machine.specs.Between.{IsOf}
use Rattle.template_machine.specs.Ending.{Done, Ending, Faulted, Note, Open, Put, Said, Spent}
use Rattle.template_machine.specs.Giving.{AsksForNone, Turned, params_of}
use Rattle.template_machine.specs.Job.{Given}
use Rattle.template_machine.specs.Sinks.{behind_all}
use Rattle.template_machine.specs.Stepwise.{Flat_does, flat_code}
use Rattle.template_machine.specs.Written.{Wrote, target_of}
use Rattle.template_machine.specs.WrittenOn.{wrote_further, wrote_nothing}
use Rattle.template_machine.specs.declared.output.Output.{Output}
use Rattle.template_machine.specs.declared.turn.Turn.{Turn}
use Rattle.template_machine.specs.declared.turn.Turn.TheVariants as turn
use Rattle.run_engine.specs.Does.{EndsAs, told_as}
use Rattle.run_engine.specs.More.{Coming}
use Rattle.run_engine.specs.Run.{Document, Main, New, Over, Stage, Wants}
use Rattle.run_engine.specs.declared.run.Core.{Core}
use Rattle.run_engine.specs.declared.run.Stage as own
use Rattle.run_engine.specs.declared.run.Stage.TheVariants as stage
use Rattle.run_engine.specs.inside.Cores.{stage_of}
use Rattle.run_engine.specs.inside.Gives.{Gives, GivesAfter, GivesFrom, OrderAt, ReadsInOrder, Runs, TellsEnd, TellsTurn, gives}

limit-stays : (said : List Said) (t : Target) → (behind_all t said).limit ≡ t.limit
limit-stays [] t = refl
limit-stays (Put part ∷ said) t = limit-stays said (behind t part)
limit-stays (Note text ∷ said) t = limit-stays said t
limit-stays (Open name ∷ said) t = limit-stays said t

pub limit-kept : (a b : Output) (said : List Said) (n : ℕ) → Wrote a b said → (target_of a).limit ≡ n → (target_of b).limit ≡ n
limit-kept a b said n wrote limit = ap (λ (t : Target). t.limit) wrote.writer ∙ limit-stays said (target_of a) ∙ limit

-- a core of the same run, which has put more
pub runs-on :
    (given : Given) (a b : Core) (said : List Said) → ((sheet : Sheet) (limits : Limits) → IsOf sheet limits a.machine → IsOf sheet limits b.machine) → params_of b.machine ≡ params_of a.machine
    → Wrote a.out b.out said → Runs given a → Runs given b
runs-on given a b said of params wrote runs = record {
  documents = runs.documents;
  of = of given.sheet given.limits runs.of;
  params = runs.params ∙ sym params;
  limit = limit-kept a.out b.out said given.limits.elements wrote runs.limit;
}

module _ (given : Given) where
  pub same-behind : (x y z : Flat_does) (said more : List Said) → Same (flat_code given) x (says said y) → Same (flat_code given) y (says more z) → Same (flat_code given) x (says (said ++ more) z)
  same-behind x y z said more first goes = same_then first (same_then (same_says said goes) (same_equal (flat_code given) (sym (says_says said more z))))

  module _ (files : List (List ℕ)) where
    over-then : (o : Outcome) (x y follows : Flat_does) (said more : List Said) → Same (flat_code given) x (says said y)
        → EndsAs given files (Over o) y more follows → EndsAs given files (Over o) x (said ++ more) follows
    over-then ended.Done x y follows said more first h = (h.0, (h.1.0, same-behind x y (Halt h.0) said more first h.1.1))
    over-then (ended.Run file code offset) x y follows said more first h = (h.0, (h.1.0, same-behind x y (Halt h.0) said more first h.1.1))
    over-then ended.Usage x y follows said more first h = (h.0, (h.1.0, same-behind x y (Halt h.0) said more first h.1.1))
    over-then (ended.Sheet fault) x y follows said more first h = (h.0, (h.1.0, same-behind x y (Halt h.0) said more first h.1.1))
    over-then (ended.Xml file fault) x y follows said more first h = (h.0, (h.1.0, same-behind x y (Halt h.0) said more first h.1.1))
    over-then (ended.Host file fault offset) x y follows said more first h = (h.0, (h.1.0, same-behind x y (Halt h.0) said more first h.1.1))
    over-then (ended.Fuel file offset) x y follows said more first h = (h.0, (h.1.0, same-behind x y (Halt h.0) said more first h.1.1))
    over-then ended.Memory x y follows said more first h = (h.0, same-behind x y h.0 said more first h.1)

    pub ends-then : (s : Stage) (x y follows : Flat_does) (said more : List Said) → Same (flat_code given) x (says said y)
        → EndsAs given files s y more follows → EndsAs given files s x (said ++ more) follows
    ends-then New x y follows said more first h = absurd h
    ends-then Main x y follows said more first h = same-behind x y follows said more first h
    ends-then Document x y follows said more first h = absurd h
    ends-then (Wants name) x y follows said more first h = absurd h
    ends-then (Over o) x y follows said more first h = over-then o x y follows said more first h

    -- an end that is told
    over-told : (o : Outcome) (e : Ending) (x follows : Flat_does) (said : List Said) → TellsEnd files e (Over o) → Same (flat_code given) x (says said (Halt e))
        → EndsAs given files (Over o) x said follows
    over-told ended.Done e x follows said tells same = (e, (tells, same))
    over-told (ended.Run file code offset) e x follows said tells same = (e, (tells, same))
    over-told ended.Usage e x follows said tells same = (e, (tells, same))
    over-told (ended.Sheet fault) e x follows said tells same = (e, (tells, same))
    over-told (ended.Xml file fault) e x follows said tells same = (e, (tells, same))
    over-told (ended.Host file fault offset) e x follows said tells same = (e, (tells, same))
    over-told (ended.Fuel file offset) e x follows said tells same = (e, (tells, same))
    over-told ended.Memory e x follows said tells same = (Halt e, same)

    pub told-ends : (s : Stage) (e : Ending) (x follows : Flat_does) (said : List Said) → TellsEnd files e s → Same (flat_code given) x (says said (Halt e))
        → EndsAs given files s x said follows
    told-ends New e x follows said tells same = absurd tells
    told-ends Main e x follows said tells same = absurd tells
    told-ends Document e x follows said tells same = absurd tells
    told-ends (Wants name) e x follows said tells same = absurd tells
    told-ends (Over o) e x follows said tells same = over-told o e x follows said tells same

    -- an answer of a machine that is told
    pub turn-ends : (t : Turn) (s : Stage) (x y follows : Flat_does) (said : List Said) → AsksForNone t → TellsTurn files t s → Turned given t x said y
        → EndsAs given files s x said follows
    turn-ends turn.More s x y follows said alone tells goes = absurd tells
    turn-ends turn.Ended s x y follows said alone tells goes = told-ends s Done x follows said tells goes
    turn-ends (turn.Stopped fault) s x y follows said alone tells goes = told-ends s (Faulted fault) x follows said tells goes
    turn-ends (turn.Spent at) s x y follows said alone tells goes = told-ends s (Spent at) x follows said tells goes
    turn-ends (turn.WantDocument name) s x y follows said alone tells goes = absurd alone
    turn-ends turn.Memory s x y follows said alone tells goes = subst (λ s. EndsAs given files s x said follows) (sym tells) goes

-- what a stage alone changes
pub stays-but : (old new : Core) (s : own.Stage) → new ≡ record old { stage = s } → new ≡ record old { stage = new.stage }
stays-but old new s e = e ∙ ap (λ x. record old { stage = x }) (sym (ap (λ (c : Core). c.stage) e))

pub not-both : {P : Type 0} (b : Bool) → b ≡ true → b ≡ false → P
not-both true h k = absurd cc
not-both false h k = absurd cc

tells-at : (files : List (List ℕ)) (e : Ending) (o : Outcome) → o ≡ told_as files e → TellsEnd files e (Over o)
tells-at files e ended.Done h = h
tells-at files e (ended.Run file code offset) h = h
tells-at files e ended.Usage h = h
tells-at files e (ended.Sheet fault) h = h
tells-at files e (ended.Xml file fault) h = h
tells-at files e (ended.Host file fault offset) h = h
tells-at files e (ended.Fuel file offset) h = h
tells-at files e ended.Memory h = tt

pub over-tells : (old new : Core) (files : List (List ℕ)) (e : Ending) (o : Outcome) → new ≡ record old { stage = stage.Over o } → o ≡ told_as files e → TellsEnd files e (stage_of new.stage)
over-tells old new files e o becomes h = subst (λ (c : Core). TellsEnd files e (stage_of c.stage)) (sym becomes) (tells-at files e o h)

pub lack-tells : (old new : Core) (files : List (List ℕ)) (e : Ending) → new ≡ record old { stage = stage.Over ended.Memory } → TellsEnd files e (stage_of new.stage)
lack-tells old new files e becomes = subst (λ (c : Core). TellsEnd files e (stage_of c.stage)) (sym becomes) tt

-- an answer that was told
pub after-told : (t : Turn) (s : Stage) (old new : Core) → TellsTurn old.files t s → new.machine ≡ old.machine → new.out ≡ old.out → GivesAfter t s old new
after-told turn.More s old new h m o = absurd h
after-told turn.Ended s old new h m o = (h, m, o)
after-told (turn.Stopped fault) s old new h m o = (h, m, o)
after-told (turn.Spent at) s old new h m o = (h, m, o)
after-told (turn.WantDocument name) s old new h m o = (h, m, o)
after-told turn.Memory s old new h m o = (h, m, o)

-- an end that is told leaves nothing to read
pub order-told : (files : List (List ℕ)) (e : Ending) (s : Stage) (c : Core) → TellsEnd files e s → OrderAt s c
order-told files e New c h = absurd h
order-told files e Main c h = absurd h
order-told files e Document c h = absurd h
order-told files e (Wants name) c h = absurd h
order-told files e (Over o) c h = tt

pub order-turned : (files : List (List ℕ)) (t : Turn) (s : Stage) (c : Core) → AsksForNone t → TellsTurn files t s → OrderAt s c
order-turned files turn.More s c alone h = absurd h
order-turned files turn.Ended s c alone h = order-told files Done s c h
order-turned files (turn.Stopped fault) s c alone h = order-told files (Faulted fault) s c h
order-turned files (turn.Spent at) s c alone h = order-told files (Spent at) s c h
order-turned files (turn.WantDocument name) s c alone h = absurd alone
order-turned files turn.Memory s c alone h = subst (λ s. OrderAt s c) (sym h) tt

-- what was said, and then what is said
pub gives-then :
    (May : Given → Type 0) (was : Given → Coming → Flat_does) (s : Stage) (old mid new : Core) → mid.files ≡ old.files → GivesFrom May was Main old mid → Gives s mid new
    → GivesFrom May was s old new
gives-then May was s old mid new files a b = record {
  said = a.said ++ b.said;
  wrote = wrote_further old.out mid.out new.out a.said b.said a.wrote b.wrote;
  order = b.order;
  runs = λ given may. b.runs given (a.runs given may);
  does = λ given may x.
      ends-then given old.files s (was given x) (gives mid given x) (gives new given x) a.said b.said (a.does given may x)
      (subst (λ f. EndsAs given f s (gives mid given x) b.said (gives new given x)) files (b.does given (a.runs given may) x));
}

-- nothing was said yet
pub gives-first : (c : Core) → ReadsInOrder c → Gives Main c c
gives-first c order = record {
  said = [];
  wrote = wrote_nothing c.out;
  order = order;
  runs = λ given may. may;
  does = λ given may x. same_equal (flat_code given) refl;
}

-- memory is wanting
pub gives-none :
    (May : Given → Type 0) (was : Given → Coming → Flat_does) (old new : Core) → ((given : Given) → May given → Runs given old)
    → ((sheet : Sheet) (limits : Limits) → IsOf sheet limits old.machine → IsOf sheet limits new.machine) → params_of new.machine ≡ params_of old.machine → new.out ≡ old.out
    → GivesFrom May was (Over ended.Memory) old new
gives-none May was old new may-run of params out =
    let wrote : Wrote old.out new.out [] = subst (λ o. Wrote old.out o []) (sym out) (wrote_nothing old.out) in
    record {
      said = [];
      wrote = wrote;
      order = tt;
      runs = λ given may. runs-on given old new [] of params wrote (may-run given may);
      does = λ given may x. (was given x, same_equal (flat_code given) refl);
    }
