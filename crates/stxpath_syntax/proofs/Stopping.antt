-- Where the machine stops is where no reading goes on.
use Rattle.std.proofs.Common.{◌≡◌, ℕ, List, [], ◌∷◌, ◌++◌, Some, None, Option, sym, ◌∙◌, refl, ap, append_assoc}
use Rattle.std.specs.Option.{option_and_then}
use Rattle.std.proofs.lemmas.List.{append-nil}
use Rattle.stx_base.specs.declared.name.Binding.{Binding}
use Rattle.stxpath_syntax.specs.declared.dialect.Dialect.{Dialect}
use Rattle.stxpath_syntax.specs.declared.meant.Meant.{Meant}
use Rattle.stxpath_syntax.specs.declared.meant.Meant.TheVariants.{Fine, High, Bad}
use Rattle.stxpath_syntax.specs.declared.state.Frame.TheVariants.{Alternatives}
use Rattle.stxpath_syntax.specs.declared.state.Mode.TheVariants.{Operand, Alternative as AlternativeBegins}
use Rattle.stxpath_syntax.specs.declared.state.State.{State}
use Rattle.stxpath_syntax.specs.declared.token.Placed.{Placed}
use Rattle.stxpath_syntax.specs.Grammar as g
use Rattle.stxpath_syntax.specs.Machine.{run, step, end_of_expression, end_of_pattern}
use Rattle.stxpath_syntax.specs.Meaning.{none}
use Rattle.stxpath_syntax.specs.Reading.{Readings, GoesOn, Stops, Gives}
use Rattle.stxpath_syntax.specs.Running.{Sticks}
use Rattle.stxpath_syntax.specs.Template.{finished}
use Rattle.stxpath_syntax.specs.Tokens.{Tokens}
use Rattle.stxpath_syntax.proofs.Completing.{complete_expression, complete_pattern}
use Rattle.stxpath_syntax.proofs.Running.{in_state, run_append}
use Rattle.stxpath_syntax.proofs.Sounding.{run_sound, goes_on, expression_sound, pattern_sound, expression_begins, pattern_begins}

abbrev pub expression_begun : State
expression_begun = in_state [] Operand

abbrev pub pattern_begun : State
pattern_begun = in_state (Alternatives none ∷ []) AlternativeBegins

module _ (dialect : Dialect) (scope : List Binding) where
  -- what the machine says of a reading relation: its tokens run through, and what runs through has a reading
  pub record Decided {A : Type 0} (Means : Readings A) (begun : State) (end : State → Option (Meant A)) : Type 0 where
    pub complete : (ts : List Placed) (m : Meant A) → Means ts m → (s : State) × (run dialect scope ts begun ≡ Some s) × (end s ≡ Some m)
    pub sound : (ts : List Placed) (s : State) (m : Meant A) → run dialect scope ts begun ≡ Some s → end s ≡ Some m → Means ts m
    pub viable : (ts : List Placed) (s : State) → run dialect scope ts begun ≡ Some s → GoesOn Means ts

  pub expressions : Decided (g.Spells dialect scope 1) expression_begun (end_of_expression scope)
  expressions = record {
    complete = λ ts m d. let c = complete_expression dialect scope d in (c.0, c.1.leads, c.2);
    sound = λ ts s m e f. expression_sound dialect scope s (run_sound dialect scope ts (expression_begins dialect scope) s e) m f;
    viable = λ ts s e. goes_on dialect scope (run_sound dialect scope ts (expression_begins dialect scope) s e);
  }

  pub patterns : Decided (g.Pattern dialect scope) pattern_begun (end_of_pattern scope)
  patterns = record {
    complete = λ ts m d. let c = complete_pattern dialect scope d in (c.0, c.1.leads, c.2);
    sound = λ ts s m e f. pattern_sound dialect scope s (run_sound dialect scope ts (pattern_begins dialect scope) s e) m f;
    viable = λ ts s e. goes_on dialect scope (run_sound dialect scope ts (pattern_begins dialect scope) s e);
  }

  stuck_run : (rest : List Placed) (s : State) (t : Placed) → step dialect scope s t ≡ None → run dialect scope (t ∷ rest) s ≡ None
  unfolding run
  stuck_run rest s t e = ap (λ o. option_and_then (run dialect scope rest) o) e

  -- no reading goes on with a token that no state follows
  pub sticks : {A : Type 0} (Means : Readings A) (begun : State) (end : State → Option (Meant A)) → Decided Means begun end
      → (ends : ℕ) (ts : List Placed) (t : Placed) → Sticks dialect scope begun ts t → Stops Means ends ts t.at
  sticks {A} Means begun end d ends ts t h =
      (h.front, t ∷ h.rest, h.are, d.viable h.front h.state h.leads, (λ (rest, m, r). no_reading rest m r, refl))
    where
      no_reading : (rest : List Placed) (m : Meant A) → Means ((h.front ++ t ∷ []) ++ rest) m → ⊥
      no_reading rest m r =
          let c = d.complete _ m r in
          let through : run dialect scope (h.front ++ t ∷ rest) begun ≡ Some c.0
          = ap (λ ts. run dialect scope ts begun) (sym (append_assoc h.front (t ∷ []) rest)) ∙ c.1 in
          let none : run dialect scope (h.front ++ t ∷ rest) begun ≡ None
          = run_append dialect scope h.front (t ∷ rest) begun h.state h.leads ∙ stuck_run rest h.state t h.is_stuck in
          cc

  -- tokens whose last state is no end have no reading
  pub ends_early : {A : Type 0} (Means : Readings A) (begun : State) (end : State → Option (Meant A)) → Decided Means begun end
      → (ends : ℕ) (ts : List Placed) (s : State) → run dialect scope ts begun ≡ Some s → end s ≡ None → Stops Means ends ts ends
  ends_early {A} Means begun end d ends ts s e f =
      (ts, [], sym (append-nil ts), d.viable ts s e, (no_reading, refl))
    where
      no_reading : (m : Meant A) → Means ts m → ⊥
      no_reading m r =
          let c = d.complete ts m r in
          let same : Some c.0 ≡ Some s = sym c.1 ∙ e in
          let here : c.0 ≡ s = cc in
          let through : end s ≡ Some m = ap end (sym here) ∙ c.2 in
          cc

  -- what a text is read as whose tokens run through
  pub gives : {A : Type 0} (Means : Readings A) (begun : State) (end : State → Option (Meant A)) → Decided Means begun end
      → (at : ℕ) (text : List ℕ) (ts : List Placed) (s : State) (m : Meant A) → Tokens at text ts None → run dialect scope ts begun ≡ Some s → end s ≡ Some m
      → Gives Means at text (finished m)
  gives Means begun end d at text ts s (Fine a height) l e f = Gives.read ts a height l (d.sound ts s _ e f)
  gives Means begun end d at text ts s High l e f = Gives.too_high ts l (d.sound ts s _ e f)
  gives Means begun end d at text ts s (Bad fault) l e f = Gives.no_meaning ts fault l (d.sound ts s _ e f)
