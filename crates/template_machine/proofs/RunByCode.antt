-- Bodies run by their code as they do by their instructions.
use Rattle.std.proofs.Common.{◌≡◌, ℕ, zero, suc, ◌≤◌, List, [], Some, length, refl, sym, ap, ◌∙◌, subst, arith}
use Rattle.std.specs.Prelude.{slice_get}
use Rattle.std.specs.Option.{option_map_or}
use Rattle.stx_base.specs.Course.{Answer, Given as Comes, Over, Unknown, Ask, Ret, Ends, Gives, Same, run, value}
use Rattle.stx_base.specs.Refinement.{Refines}
use Rattle.stx_base.proofs.Course.{and_then_ret, given_below}
use Rattle.stx_base.proofs.Refinement.{ends_too as refined_ends}
use Rattle.stx_base.proofs.Termination.{Known, comes_to}
use Rattle.instr_code.specs.Acts.{Plain, acts}
use Rattle.instr_code.specs.Code.{code_of, sheet_bodies}
use Rattle.instr_code.specs.Running.{At, Flat, as_flat, body_of, left_at, start_of}
use Rattle.instr_code.specs.Running as running
use Rattle.instr_code.specs.Steps.{renamed}
use Rattle.instr_code.specs.Steps as call
use Rattle.instr_code.proofs.Forward.{body_runs}
use Rattle.instr_code.proofs.Wholes.{starting, stepping}
use Rattle.sheet_model.specs.Body.{body_nesting}
use Rattle.sheet_model.specs.declared.instr.Instr.{Instr}
use Rattle.template_machine.specs.Acting.{cut_to}
use Rattle.template_machine.specs.Ending.{Ending, Said}
use Rattle.template_machine.specs.Job.{Body, Given, Here, Job, Self}
use Rattle.template_machine.specs.Laws.{BodiesRunByCode, GoesOnByCode}
use Rattle.template_machine.specs.Meaning.{code, list}
use Rattle.template_machine.specs.Outcome.{AreNew}
use Rattle.template_machine.specs.Stepwise.{Flat_does, Working, begun, by_given, flat_code, steps_of}
use Rattle.template_machine.proofs.Ending.{code_ok}
use Rattle.template_machine.proofs.Executed.{all_bodies}
use Rattle.template_machine.proofs.Simulating.{at_none, by_call, by_other_call, by_ret, by_then, ends_too, gives_too, same_given, same_over}
use Rattle.template_machine.proofs.Stepping.{Sim, back, carrier, copied, lifted_is, nest}
use Rattle.template_machine.proofs.Weighing.{Post, Pre, weight}

module _ (given : Given) where
  abbrev start : (body : ℕ) → Working → Flat Job Working
  start = start_of (steps_of given) given.sheet

  abbrev as_code : call.Call Job Working → Flat Job Working
  as_code = as_flat (steps_of given) start

pub goes_on : GoesOnByCode
goes_on given x os e =
    let same = lifted_is given x (carrier given) in (
      λ h. subst (λ y. Ends (flat_code given) y os e) (sym same) (ends_too (λ n. copied given (as_code given) (flat_code given) (λ q. refl) n x (carrier given)) h),
      λ h. ends_too (λ n. back given (as_code given) (flat_code given) (λ q. refl) n x (carrier given)) (subst (λ y. Ends (flat_code given) y os e) same h),
    )

module _ (given : Given) (new : AreNew given) (b place : ℕ) (body : List Instr) (self : Self) (a : Here) (is : slice_get (sheet_bodies given.sheet) b ≡ Some body) (begins : slice_get (code_of given.sheet).starts b ≡ Some place) (fuel : a.state.fuel ≤ given.limits.fuel) where
  abbrev Came : Here → Working → Type 0
  Came r v = r ≡ cut_to a.locals v.here

  abbrev called : Flat_does
  called = Ask (At place (begun self a)) Ret

  -- by its instructions, and by what its operations mean
  whole_at : (n : ℕ) → Sim given Came n (list given body self a) (body_of (steps_of given) given.sheet b (begun self a))
  whole_at n =
      let w = begun self a in
      let does = (acts (steps_of given) body).does w in
      subst (λ o. Sim given Came n (list given body self a) (option_map_or (λ l. (acts (steps_of given) l).does w) o (Ret w))) (sym is)
      (subst (λ y. Sim given Came n (list given body self a) y) (and_then_ret does)
      (by_then (λ c. Ret (cut_to a.locals c)) (λ v. Ret v) (all_bodies given n (body_nesting body) body self [] [] a (omega arith))
      (λ c v q. by_ret n (cut_to a.locals c) v (ap (λ (z : Working). cut_to a.locals z.here) (sym q)))))

  called_at : (n : ℕ) → Sim given Came n (Ask (Body body self a) Ret) (Ask (Plain (call.Body b (begun self a))) Ret)
  called_at zero = at_none (Body body self a) Ret (Ask (Plain (call.Body b (begun self a))) Ret)
  called_at (suc d) =
      by_other_call (Plain (call.Body b (begun self a))) (λ v. Ret v)
      (by_call (Body body self a) Ret (body_of (steps_of given) given.sheet b (begun self a)) (λ v. Ret v) (whole_at d) (λ r v q. by_ret (suc d) r v q))

  refined : (n : ℕ) → Refines (nest given) (flat_code given) n (Ask (Plain (call.Body b (begun self a))) Ret) called
  refined n =
      let steps = steps_of given in
      let code_is = code_of given.sheet in
      subst (λ o. Refines (nest given) (flat_code given) n (Ask (Plain (call.Body b (begun self a))) Ret) (Ask (option_map_or (λ p. At p (begun self a)) o (At (length code_is.ops) (begun self a))) Ret)) begins
      (body_runs steps code_is.instrs code_is.ops (body_of steps given.sheet) (left_at steps given.sheet) (start_of steps given.sheet) (stepping steps given.sheet) (starting steps given.sheet) b n (begun self a))

  refined_gives : (os : List Said) (v : Working) → Gives (nest given) (Ask (Plain (call.Body b (begun self a))) Ret) os v → Gives (flat_code given) called os v
  refined_gives os v g = let r = refined g.depth in record { depth = r.depth; comes = given_below _ _ os v r.below g.comes }

  module _ (go : Here → Flat_does) where
    abbrev asked : Flat_does
    asked = renamed (as_code given) (by_given (carrier given) (Ask (Body body self a) Ret))

    abbrev Alike : Type 0
    Alike = Same (flat_code given) (Ask (running.Given (Body body self a)) (λ w. go w.here)) (Ask (At place (begun self a)) (λ w. go (cut_to a.locals w.here)))

    by_answer : (n : ℕ) (v : Answer Here Said Ending) → value (run (code given) n) (Ask (Body body self a) Ret) ≡ v
        → Known (weight given) (Pre given) (Post given) (λ r. Unit {0}) v → Alike
    by_answer n (Comes os r) e known =
        let gives : Gives (code given) (Ask (Body body self a) Ret) os r = record { depth = n; comes = e } in
        let here_so = gives_too (λ k. copied given (as_code given) (flat_code given) (λ q. refl) k (Ask (Body body self a) Ret) (carrier given)) gives in
        let there = gives_too called_at gives in
        same_given {x = asked} {y = called} (λ w. go w.here) (λ w. go (cut_to a.locals w.here)) here_so.1 (refined_gives os there.0 there.1)
        (ap go (ap (λ (z : Working). z.here) here_so.2 ∙ there.2))
    by_answer n (Over os f) e known =
        let ends : Ends (code given) (Ask (Body body self a) Ret) os f = record { depth = n; comes = e } in
        same_over {x = asked} {y = called} (λ w. go w.here) (λ w. go (cut_to a.locals w.here))
        (ends_too (λ k. copied given (as_code given) (flat_code given) (λ q. refl) k (Ask (Body body self a) Ret) (carrier given)) ends)
        (refined_ends refined (ends_too called_at ends))
    by_answer n (Unknown os) e known = absurd known

    runs : Alike
    runs =
        let n = suc (weight given (Body body self a)) in
        by_answer n (value (run (code given) n) (Ask (Body body self a) Ret)) refl
        (comes_to (weight given) (Pre given) (Post given) (code given) (code_ok given new) n (λ r. Unit {0}) (Ask (Body body self a) Ret) (fuel, omega arith, λ r p. tt))

pub bodies_run : BodiesRunByCode
bodies_run given new b place body self a go is begins fuel = runs given new b place body self a is begins fuel go
