-- Tokens one after another.
use Rattle.std.proofs.Common.{◌≡◌, List, [], ◌∷◌, ◌++◌, Some, None, Option, ◌∙◌, refl, ap}
use Rattle.std.specs.Option.{option_map, option_and_then}
use Rattle.stx_base.specs.declared.name.Binding.{Binding}
use Rattle.stxpath_syntax.specs.declared.dialect.Dialect.{Dialect}
use Rattle.stxpath_syntax.specs.declared.state.Frame.{Frame}
use Rattle.stxpath_syntax.specs.declared.state.Mode.{Mode}
use Rattle.stxpath_syntax.specs.declared.state.State.{State}
use Rattle.stxpath_syntax.specs.declared.token.Placed.{Placed}
use Rattle.stxpath_syntax.specs.Machine.{turn, step, run, state_of}

abbrev pub in_state : List Frame → Mode → State
in_state frames mode = record { stack = frames; mode = mode }

module _ (dialect : Dialect) (scope : List Binding) where
  -- the tokens lead from one state to another
  pub record Leads (ts : List Placed) (s u : State) : Type 0 where
    pub leads : run dialect scope ts s ≡ Some u

  pub stays : (s : State) → Leads [] s s
  unfolding run
  stays s = record { leads = refl }

  then_go : (ts us : List Placed) (o : Option State) (u : State)
      → ((s : State) → run dialect scope ts s ≡ Some u → run dialect scope (ts ++ us) s ≡ run dialect scope us u)
      → option_and_then (run dialect scope ts) o ≡ Some u → option_and_then (run dialect scope (ts ++ us)) o ≡ run dialect scope us u
  then_go ts us None u ih e = cc
  then_go ts us (Some s) u ih e = ih s e

  pub run_append : (ts us : List Placed) (s u : State) → run dialect scope ts s ≡ Some u → run dialect scope (ts ++ us) s ≡ run dialect scope us u
  unfolding run
  run_append [] us s u e = let same : s ≡ u = cc in ap (run dialect scope us) same
  run_append (t ∷ ts) us s u e = then_go ts us (step dialect scope s t) u (λ s e. run_append ts us s u e) e

  pub then : {ts us : List Placed} {s u v : State} → Leads ts s u → Leads us u v → Leads (ts ++ us) s v
  then {ts} {us} {s} {u} {v} a b = record { leads = run_append ts us s u a.leads ∙ b.leads }

  -- one token, and then others
  pub begins_with : (t : Placed) {ts : List Placed} {frames : List Frame} {mode : Mode} {next : List Frame × Mode} {u : State}
      → turn dialect scope frames mode t.at t.token ≡ Some next → Leads ts (in_state next.0 next.1) u → Leads (t ∷ ts) (in_state frames mode) u
  unfolding run step
  begins_with t {ts} {frames} {mode} {next} {u} e b =
      record { leads = ap (λ o. option_and_then (run dialect scope ts) (option_map state_of o)) e ∙ b.leads }

  pub one : (t : Placed) {frames : List Frame} {mode : Mode} {next : List Frame × Mode}
      → turn dialect scope frames mode t.at t.token ≡ Some next → Leads (t ∷ []) (in_state frames mode) (in_state next.0 next.1)
  one t {frames} {mode} {next} e = begins_with t e (stays (in_state next.0 next.1))

  pub run_more : (front : List Placed) (t : Placed) (s u v : State) → run dialect scope front s ≡ Some u → step dialect scope u t ≡ Some v → run dialect scope (front ++ t ∷ []) s ≡ Some v
  unfolding run
  run_more front t s u v e f = run_append front (t ∷ []) s u e ∙ ap (λ o. option_and_then (run dialect scope []) o) f
