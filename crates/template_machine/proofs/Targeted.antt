-- What is done of an instruction that gives a processing instruction, and what it leaves out.
use Rattle.std.proofs.Common.{◌≡◌, Bool, true, false, ◌&&◌, if◌then◌else◌, List, ℕ, [], ◌∷◌, ◌++◌, Result, Ok, Err, refl, ap, sym, subst, ◌∙◌, append-nil, append_assoc}
use Rattle.stx_base.specs.Character.{is_space}
use Rattle.stx_base.specs.Course.{Ret}
use Rattle.stx_base.specs.declared.fault.Place.{Place}
use Rattle.stx_base.specs.declared.name.Binding.{Binding}
use Rattle.stx_base.specs.declared.part.Part.TheVariants as part
use Rattle.result_writer.specs.Target.{Target}
use Rattle.sheet_model.specs.Parts.{place}
use Rattle.sheet_model.specs.declared.instr.Content.{Content}
use Rattle.sheet_model.specs.declared.instr.Instr.{Instr}
use Rattle.sheet_model.specs.declared.instr.Instr.TheOpen.{Instr-F}
use Rattle.sheet_model.specs.declared.instr.Instr.TheVariants as instr
use Rattle.sheet_model.specs.declared.instr.Instr.TheViews.{out-Instr, rolls-Pi}
use Rattle.sheet_model.specs.declared.instr.When.{When}
use Rattle.stxpath_syntax.specs.declared.expr.Avt.{Avt}
use Rattle.template_machine.specs.Acting.{acts, put_parts, without_space}
use Rattle.template_machine.specs.Ending.{Said}
use Rattle.template_machine.specs.Job.{Does, Given, Here, Self, with_state}
use Rattle.template_machine.specs.Saying.{Acts, Gave, Puts, SeesAs, Yields, pi_at, sight}
use Rattle.template_machine.specs.Still.{state_of}
use Rattle.template_machine.specs.Values.{content_text, got, setting, template_text}
use Rattle.template_machine.specs.declared.program.Program.{Program}
use Rattle.template_machine.specs.declared.putting.Putting.{Putting}
use Rattle.template_machine.specs.declared.run.Run.{Run}
use Rattle.template_machine.specs.declared.stop.Stop.{Stop}
use Rattle.template_machine.proofs.Saying.{acts_by_puts, content_seen, got_yields, template_seen, yields_by, yields_stops}
use Rattle.template_machine.proofs.Spelled.{out_is}

-- The white space at the beginning.

-- what is still to be written behind what was made
abbrev pub still_written : (made more : List ℕ) → List ℕ
still_written [] more = without_space more
still_written (c ∷ cs) more = more

-- a character that is left out
pub leaves_out : (made : List ℕ) (c : ℕ) (more : List ℕ) → made ≡ [] → is_space c ≡ true → made ++ still_written made (c ∷ more) ≡ made ++ still_written made more
leaves_out made c more none space =
    subst (λ m. m ++ still_written m (c ∷ more) ≡ m ++ still_written m more) (sym none) (ap (λ b. if b then without_space more else c ∷ more) space)

-- one that is written
pub writes_on : (made : List ℕ) (c : ℕ) (more : List ℕ) (is_empty : Bool) → (made ≡ [] → is_empty ≡ true) → (is_empty && is_space c) ≡ false
    → made ++ still_written made (c ∷ more) ≡ (made ++ c ∷ []) ++ still_written (made ++ c ∷ []) more
writes_on [] c more true empty goes_on = ap (λ b. if b then without_space more else c ∷ more) goes_on
writes_on [] c more false empty goes_on = absurd (no (empty refl))
  where
    no : false ≡ true → ⊥
    no e = absurd (cc)
writes_on (d ∷ made) c more is_empty empty goes_on = sym (append_assoc (d ∷ made) (c ∷ []) more)

-- behind the end nothing is left to be written
pub nothing_left : (made : List ℕ) → made ++ still_written made [] ≡ made
nothing_left [] = refl
nothing_left (c ∷ made) = append-nil (c ∷ made)

module _ {S : Type 0} (output : S → Target) (told : S → S → List Said → Type 0) where
  -- an instruction that stops before it has put anything
  pub stops_before : (A B : Type 0) → ((s : S) → told s s []) → (p : Program) (x : Instr-F Instr When) (e : Stop) (old : Run) (out : S) (go : Here → B → Does)
      → ((given : Given) (self : Self) (a : Here) → SeesAs given p old self a → Yields {A = B} (Err e) (acts given x self a) (go a)) → Acts {A = A} output told p x (Err e) old old out out
  stops_before A B nothing p x e old out go h = record {
    said = [];
    tells = nothing out;
    does = λ given limit self a sees here. yields_stops A e (acts given x self a) (Ret (with_state a (state_of given p old (output out).left))) (go a) (h given self a sees);
  }

  module _ (p : Program) (name : Avt) (scope : List Binding) (c : Content) (at : Place) (old : Run) where
    abbrev pub put_pi : Given → Here → (target text : List ℕ) → Does
    put_pi given a target text = put_parts given at (part.Pi target (without_space text) ∷ []) a

    behind_target : (given : Given) (self : Self) (a : Here) (target : List ℕ) → SeesAs given p old self a → template_text name (sight p old) ≡ Ok target
        → acts given (pi_at name scope c at) self a ≡ got at (content_text c (setting given self a)) (put_pi given a target)
    behind_target given self a target sees gave =
        ap (λ v. got at v (λ t. got at (content_text c (setting given self a)) (put_pi given a t))) (template_seen given p old self a name sees ∙ gave)

    pub pi_stops_target : (A : Type 0) → ((s : S) → told s s []) → (e : Stop) (out : S) → Gave {A = List ℕ} at (Err e) (template_text name (sight p old))
        → Acts {A = A} output told p (pi_at name scope c at) (Err e) old old out out
    pi_stops_target A nothing e out gave =
        stops_before A (List ℕ) nothing p (pi_at name scope c at) e old out (λ a t. Ret a)
        (λ given self a sees.
        got_yields (List ℕ) e at (template_text name (setting given self a)) (template_text name (sight p old)) _ (λ t. Ret a) (template_seen given p old self a name sees) gave)

    pub pi_stops_content : (A : Type 0) → ((s : S) → told s s []) → (target : List ℕ) (e : Stop) (out : S) → template_text name (sight p old) ≡ Ok target
        → Gave {A = List ℕ} at (Err e) (content_text c (sight p old)) → Acts {A = A} output told p (pi_at name scope c at) (Err e) old old out out
    pi_stops_content A nothing target e out first gave =
        stops_before A (List ℕ) nothing p (pi_at name scope c at) e old out (λ a t. Ret a)
        (λ given self a sees.
        yields_by (Err e) _ _ (λ t. Ret a) (behind_target given self a target sees first)
        (got_yields (List ℕ) e at (content_text c (setting given self a)) (content_text c (sight p old)) _ (λ t. Ret a) (content_seen given p old self a c sees) gave))

    pub pi_acts : {A : Type 0} (target text written : List ℕ) (r : Result A Stop) (now : Putting) (out out_now : S) → template_text name (sight p old) ≡ Ok target
        → content_text c (sight p old) ≡ Ok text → written ≡ without_space text → Puts output told at (part.Pi target written ∷ []) r old.putting now out out_now
        → Acts output told p (pi_at name scope c at) r old (record old { putting = now }) out out_now
    pi_acts target text written r now out out_now first second is q =
        acts_by_puts output told p (pi_at name scope c at) at (part.Pi target written ∷ []) r old (record old { putting = now }) out out_now
        (λ given self a sees.
        behind_target given self a target sees first ∙ ap (λ v. got at v (put_pi given a target)) (content_seen given p old self a c sees ∙ second)
        ∙ ap (λ t. put_parts given at (part.Pi target t ∷ []) a) (sym is)) refl q

  pub instructions : {A : Type 0} (p : Program) (i : Instr) (name : Avt) (scope : List Binding) (c : Content) (at where_now : Place) (r : Result A Stop) (old new : Run) (out out_now : S)
      → i ≡ instr.Pi name scope c at → where_now ≡ place (out-Instr i) → Acts output told p (pi_at name scope c where_now) r old new out out_now
      → Acts output told p (out-Instr i) r old new out out_now
  instructions p i name scope c at where_now r old new out out_now is here q =
      let same : out-Instr i ≡ Instr-F.Pi name scope c at = out_is i _ (Instr-F.Pi name scope c at) (rolls-Pi name scope c at) is in
      subst (λ y. Acts output told p y r old new out out_now) (sym same)
      (subst (λ k. Acts output told p (pi_at name scope c k) r old new out out_now) (here ∙ ap place same) q)
