-- Instructions that ask for the current node again.
use Rattle.std.proofs.Common.{◌≡◌, ℕ, List, reverse, Some, Result, Ok, Err, ap, sym, ◌∙◌, Option}
use Rattle.std.specs.Prelude.{slice_get}
use Rattle.std.specs.Option.{option_and_then, option_map_or}
use Rattle.stx_base.proofs.Course.{funext, same_equal}
use Rattle.stx_base.specs.declared.fault.Place.{Place}
use Rattle.stx_base.specs.declared.name.Name.{Name}
use Rattle.instr_code.specs.declared.code.Op.TheVariants as op
use Rattle.result_writer.specs.Target.{Left, Target}
use Rattle.sheet_model.specs.Parts.{base_named, handed, place}
use Rattle.sheet_model.specs.declared.instr.Instr.{Instr}
use Rattle.sheet_model.specs.declared.instr.Instr.TheOpen.{Instr-F}
use Rattle.sheet_model.specs.declared.instr.Instr.TheViews.{out-Instr}
use Rattle.sheet_model.specs.declared.instr.When.{When}
use Rattle.sheet_model.specs.declared.instr.WithParam.{WithParam}
use Rattle.var_store.specs.declared.bound.Bound.{Bound}
use Rattle.template_machine.specs.Acting.{act, acts, asked_within}
use Rattle.template_machine.specs.Asking.{place_by}
use Rattle.template_machine.specs.Behind.{MovesFrom, StepsFrom, asked_again, asks_at, instr_acts, scene_now, whose_in}
use Rattle.template_machine.specs.Declaring.{hands}
use Rattle.template_machine.specs.Ending.{Said}
use Rattle.template_machine.specs.Finding.{base_of}
use Rattle.template_machine.specs.Job.{Asked, Does, Given, Here, Self}
use Rattle.template_machine.specs.Moments.{IsAtOp}
use Rattle.template_machine.specs.Passing.{again}
use Rattle.template_machine.specs.Programs.{IsProgramOf, done_by, instr_at}
use Rattle.template_machine.specs.Reached.{AsksForItself}
use Rattle.template_machine.specs.Shifting.{Hands}
use Rattle.template_machine.specs.Still as still
use Rattle.template_machine.specs.Stepwise.{Flat_does, flat_code}
use Rattle.template_machine.specs.declared.program.Program.{Program}
use Rattle.template_machine.specs.declared.run.Asker.TheVariants as asker
use Rattle.template_machine.specs.declared.run.Run.{Run}
use Rattle.template_machine.specs.declared.run.Running.{Running}
use Rattle.template_machine.specs.declared.run.Step.{Step}
use Rattle.template_machine.specs.declared.stop.Stop.{Stop}
use Rattle.template_machine.proofs.Composed.{steps_by}
use Rattle.template_machine.proofs.Instructed.{hands_ok, hands_stop}
use Rattle.template_machine.proofs.Localized.{again_leaves}
use Rattle.template_machine.proofs.Processed.{asks_within}
use Rattle.xml_events.specs.Tree.{Future}

-- the group and the values of an instruction that asks for it
record ForItself (at : Place) (x : Instr-F Instr When) : Type 0 where
  group : Option Name
  params : List WithParam
  is : x ≡ Instr-F.ProcessSelf group params at

for_itself : (at : Place) (x : Instr-F Instr When) → AsksForItself at x → ForItself at x
for_itself at (Instr-F.ProcessSelf group params own) same = record { group = group; params = params; is = ap (Instr-F.ProcessSelf group params) same }
for_itself at x asks = absurd asks

-- what is done with it
abbrev pub takes_itself : Given → Asked → Self → Here → Does
takes_itself given q = again given q.at q.base q.params

module _ (p : Program) (r m : Run) (running : Running) (n : ℕ) (i : Instr) (spot : Place) (at : IsAtOp p r running (op.Do n)) (is : slice_get p.code.instrs n ≡ Some i)
    (asks : AsksForItself spot (out-Instr i)) where
  -- it hands its values first
  itself_first : (given : Given) → IsProgramOf given.sheet given.limits p → (a : Here)
      → act given i (whose_in given p (reverse r.frames.frames) (scene_now given p r)) a
      ≡ hands given spot (handed (out-Instr i)) (whose_in given p (reverse r.frames.frames) (scene_now given p r)) a
      (λ bs. takes_itself given (record (asks_at given p running.pc (reverse m.frames.frames) (scene_now given p r)) { params = bs }) (whose_in given p (reverse r.frames.frames) (scene_now given p r)) a)
  itself_first given of_sheet a =
      let self = whose_in given p (reverse r.frames.frames) (scene_now given p r) in
      let q = asks_at given p running.pc (reverse m.frames.frames) (scene_now given p r) in
      let x = for_itself spot (out-Instr i) asks in
      let here : place (out-Instr i) ≡ spot = ap place x.is in
      let base : base_of given.sheet (base_named (out-Instr i)) self.group ≡ base_of given.sheet x.group self.group = ap (λ y. base_of given.sheet (base_named y) self.group) x.is in
      ap (λ y. acts given y self a) x.is
      ∙ ap (hands given spot x.params self a)
      (funext (λ (bs : List Bound).
      sym
      (ap (λ (k : Asked). takes_itself given k self a)
      (asks_within given p r running n i at is of_sheet (reverse m.frames.frames) bs
      ∙ ap (λ at. asked_within given at (base_of given.sheet (base_named (out-Instr i)) self.group) bs self) here
      ∙ ap (λ b. asked_within given spot b bs self) base))))
      ∙ ap (λ y. hands given spot (handed y) self a (λ bs. takes_itself given (record q { params = bs }) self a)) (sym x.is)

  abbrev was : Given → Left → Future → Flat_does
  was given left f = instr_acts given p i running.pc r left f

  -- the place of what asks
  pub itself_place : (body : ℕ) → spot ≡ place_by p (asker.Instr running.pc body)
  itself_place body =
      sym
      (ap (λ o. option_map_or (λ (j : Instr). place (out-Instr j)) o (record { file = 0; offset = 0 })) (instr_at_there is)
      ∙ ap place (for_itself spot (out-Instr i) asks).is)
    where
      instr_at_there : slice_get p.code.instrs n ≡ Some i → instr_at p.code running.pc ≡ Some i
      instr_at_there there = ap (λ o. option_and_then (λ k. slice_get p.code.instrs k) (option_and_then done_by o)) at.is ∙ there

  -- and goes on as it does where it is asked for again
  pub itself_steps : {A : Type 0} (done : A) → Hands p i spot running.pc (Ok done) r m → {S : Type 0} (output : S → Target) (told : S → S → List Said → Type 0) (result : Result Step Stop) (s : Run) (out mid : S)
      → StepsFrom output told p (λ given left f. asked_again given p running.pc m left f) result s out mid → StepsFrom output told p was result s out mid
  itself_steps done h output told result s out mid steps =
      steps_by output told p was (λ given left f. asked_again given p running.pc m left f) result s out mid
      (λ given program left f.
      same_equal (flat_code given)
      (hands_ok given p r m running n i spot at program is (takes_itself given) done h (λ a. itself_first given program a)
      (λ a.
      let q = asks_at given p running.pc (reverse m.frames.frames) (scene_now given p r) in
      again_leaves given q.at q.base q.params (whose_in given p (reverse r.frames.frames) (scene_now given p r)) a)
      left f)) steps

  -- values that aren't given stop it
  pub itself_stop : {A : Type 0} (e : Stop) (s : Run) → Hands {A = A} p i spot running.pc (Err e) r m → MovesFrom p was (Err e) s
  itself_stop e s h = record {
    alone = tt;
    over = λ o. absurd (cc);
    does = λ given new program left f.
        hands_stop given p r m running n i spot at program is (takes_itself given) Step e (λ a. itself_first given program a) h.gave left f (still.still given p s left f);
  }
