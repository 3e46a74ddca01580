-- Passing over nodes says nothing.
use Rattle.std.proofs.Common.{◌≡◌, ◌⊎◌, inl, inr, ℕ, zero, suc, Bool, true, false, refl, ◌∙◌}
use Rattle.stx_base.specs.Course.{Halt}
use Rattle.xml_events.specs.Tree.{Mark, Fresh, Told, Begun, Stage, Waiting, Ready, Entered, Forest, End, Cut, Single, Nested}
use Rattle.template_machine.specs.Ending.{Ending, Spent}
use Rattle.template_machine.specs.Fuel.{begin, ended, is_begun, is_entered, skip, unready, when_ready}
use Rattle.template_machine.specs.Job.{Does, Given, Main, Opened, Source, State}
use Rattle.template_machine.specs.Laws.{SkipsSilently}

module _ (given : Given) where
  -- it ends, or goes on with other fuel
  abbrev pub Silent : State → ((State → Does) → Does) → Type 0
  Silent st f = ((e : Ending) × ((go : State → Does) → f go ≡ Halt e)) ⊎ ((fuel : ℕ) × ((go : State → Does) → f go ≡ go (record st { fuel = fuel })))

  begin_silent : (source : Source) (before : Bool) (st : State) → Silent st (begin given source before st)
  begin_silent source true st = inr (st.fuel, λ go. refl)
  begin_silent Main false st = inr (given.limits.fuel, λ go. refl)
  begin_silent (Opened d at n) false st = of_fuel st.fuel where
    of_fuel : (k : ℕ) → Silent st (λ go. elim k [ zero ↦ Halt (Spent at) | suc j ↦ go (record st { fuel = j }) ])
    of_fuel zero = inl (Spent at, λ go. refl)
    of_fuel (suc j) = inr (j, λ go. refl)

  ended_silent : (source : Source) (b : Mark) (st : State) → Silent st (λ go. go (ended given source b st))
  ended_silent Main Begun st = inr (st.fuel, λ go. refl)
  ended_silent Main Fresh st = inr (given.limits.fuel, λ go. refl)
  ended_silent Main Told st = inr (given.limits.fuel, λ go. refl)
  ended_silent (Opened d at n) Begun st = inr (st.fuel, λ go. refl)
  ended_silent (Opened d at n) Fresh st = inr (st.fuel, λ go. refl)
  ended_silent (Opened d at n) Told st = inr (st.fuel, λ go. refl)

  -- one after the other
  silent_then : (st : State) (f : (State → Does) → Does) (g : State → (State → Does) → Does) → Silent st f → ((fuel : ℕ) → Silent st (g (record st { fuel = fuel }))) → Silent st (λ go. f (λ t. g t go))
  silent_then st f g (inl h) k = inl (h.0, λ go. h.1 (λ t. g t go))
  silent_then st f g (inr h) k = both (k h.0) where
    both : Silent st (g (record st { fuel = h.0 })) → Silent st (λ go. f (λ t. g t go))
    both (inl e) = inl (e.0, λ go. h.1 (λ t. g t go) ∙ e.1 go)
    both (inr e) = inr (e.0, λ go. h.1 (λ t. g t go) ∙ e.1 go)

  ready_silent : (source : Source) (stage : Stage) (kids : Forest) (st : State) (f : (State → Does) → Does) → Silent st f → Silent st (λ go. when_ready source stage kids (f go))
  ready_silent source (Ready first) kids st f h = h
  ready_silent source (Entered first) kids st f h = h
  ready_silent source Waiting (Cut why) st f h = inl (unready source why, λ go. refl)
  ready_silent source Waiting (End m offset) st f h = h
  ready_silent source Waiting (Single m leaf next) st f h = h
  ready_silent source Waiting (Nested stage e kids next) st f h = h

  pub skip_silent : (source : Source) (list : Forest) (st : State) → Silent st (skip given source list st)
  skip_silent source (End m offset) st = ended_silent source m st
  skip_silent source (Cut why) st = inl (unready source why, λ go. refl)
  skip_silent source (Single m leaf next) st =
      silent_then st (begin given source (is_begun m) st) (skip given source next) (begin_silent source (is_begun m) st) (λ f. skip_silent source next (record st { fuel = f }))
  skip_silent source (Nested stage e kids next) st =
      ready_silent source stage kids st (λ go. begin given source (is_entered stage) st (λ t. skip given source kids t (λ u. skip given source next u go)))
      (silent_then st (begin given source (is_entered stage) st) (λ t go. skip given source kids t (λ u. skip given source next u go)) (begin_silent source (is_entered stage) st)
      (λ f. silent_then (record st { fuel = f }) (skip given source kids (record st { fuel = f })) (skip given source next) (skip_silent source kids (record st { fuel = f })) (λ g. skip_silent source next (record st { fuel = g }))))

pub skips_silently : SkipsSilently
skips_silently given source list st = skip_silent given source list st
