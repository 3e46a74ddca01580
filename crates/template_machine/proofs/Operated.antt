-- Operations of ordinary code: a run stays in order behind each of them.
use Rattle.std.proofs.Common.{◌≡◌, ◌≤◌, ℕ, ◌+◌, Bool, true, false, List, [], ◌∷◌, ◌++◌, reverse, Option, Some, None, IsSome, Result, Ok, refl, ap, sym, subst, ◌∙◌, arith, zero, suc, Err, ◌⊎◌, inl, inr}
use Rattle.std.specs.Prelude.{slice_get, OnOk, option_map, IfOk}
use Rattle.frame_stack.specs.declared.frame.Frame.{Frame}
use Rattle.frame_stack.specs.declared.frame.Frame.TheVariants.{Body, Call, Loop}
use Rattle.frame_stack.specs.Change.{with_locals, with_pc}
use Rattle.frame_stack.specs.declared.locals.Local.{Local}
use Rattle.instr_code.specs.declared.code.Op.TheVariants as op
use Rattle.sheet_model.specs.declared.instr.Instr.{Instr}
use Rattle.sheet_model.specs.declared.instr.Instr.TheOpen.{Instr-F}
use Rattle.sheet_model.specs.declared.instr.Instr.TheViews.{out-Instr, roll-Instr}
use Rattle.sheet_model.specs.declared.instr.When.{When}
use Rattle.sheet_model.specs.Parts.{place}
use Rattle.template_machine.specs.Bodies.{level_in, on_body, pc_in, skipped_in}
use Rattle.template_machine.specs.Moments.{IsAtOp}
use Rattle.template_machine.specs.Ordinary.{HeadIsCounted, InOrder, IsAlone, IsOrdinary, StaysBehind, StaysInOrder, StaysThere, spent_of}
use Rattle.template_machine.specs.Shifting.{BindsItem, Sets, with_more}
use Rattle.template_machine.specs.Sources.{held_node}
use Rattle.template_machine.specs.Still.{nodes_of}
use Rattle.template_machine.specs.Working.{StaysHere}
use Rattle.template_machine.specs.declared.program.Program.{Program}
use Rattle.template_machine.specs.declared.run.Run.{Run}
use Rattle.template_machine.specs.declared.run.Running.{Running}
use Rattle.template_machine.specs.declared.run.Step.{Step}
use Rattle.template_machine.specs.declared.run.Step.TheVariants as step
use Rattle.template_machine.specs.Ending.{Said}
use Rattle.template_machine.specs.Onward.{StepsOn}
use Rattle.template_machine.specs.Saying.{ClosesShown, GivesText, GivesValue, OpensShown, Passes, Steps}
use Rattle.template_machine.specs.Steps.{one_less}
use Rattle.template_machine.proofs.Moving.{Moves, moves_locals, moves_pc}
use Rattle.template_machine.proofs.Untouched.{own_spent, spent_moved, untouched_from, untouched_to}
use Rattle.template_machine.proofs.Evaluable.{all_at}
use Rattle.template_machine.proofs.Formed.{done}
use Rattle.template_machine.proofs.Spelled.{closed_round, opened_round, out_is}
use Rattle.result_writer.specs.Target.{Target}
use Rattle.template_machine.specs.declared.stop.Stop.{Stop}
use Rattle.template_machine.specs.Work.{Begins, Falls, Means}
use Rattle.template_machine.specs.Contexts.{Form, IsRound, IsSingle, form, form_of}
use Rattle.stx_base.specs.declared.name.Name.{Name}
use Rattle.stxpath_values.specs.declared.value.Atom.{Atom}
use Rattle.stx_base.specs.declared.fault.Place.{Place}

-- A body goes on elsewhere.

moved_unskipped : (g : Frame → Frame) (to : ℕ → ℕ) (h : List Local → List Local) → Moves g to h → (fs : List Frame) (pc : ℕ) → pc_in fs ≡ Some pc → skipped_in (on_body g fs) ≡ None
moved_unskipped g to h m [] pc at = absurd (cc)
moved_unskipped g to h m (Loop turn ∷ fs) pc at = refl
moved_unskipped g to h m (Body template alternative old locals level spent ∷ fs) pc at = ap (λ x. skipped_in (x ∷ fs)) (m.template template alternative old locals level spent)
moved_unskipped g to h m (Call procedure old locals level ∷ fs) pc at = ap (λ x. skipped_in (x ∷ fs)) (m.procedure procedure old locals level)
moved_unskipped g to h m (f ∷ fs) pc at = absurd (cc)

pc_level : (fs : List Frame) (pc : ℕ) → pc_in fs ≡ Some pc → IsSome (level_in fs)
pc_level [] pc at = absurd (cc)
pc_level (Loop turn ∷ fs) pc at = pc_level fs pc at
pc_level (Body template alternative old locals level spent ∷ fs) pc at = refl
pc_level (Call procedure old locals level ∷ fs) pc at = refl
pc_level (f ∷ fs) pc at = absurd (cc)

-- a loop over a body
loop_spent : (a : Bool) (turn : ℕ) (fs : List Frame) (pc : ℕ) → pc_in fs ≡ Some pc → spent_of a (Loop turn ∷ fs) ≡ spent_of a fs
loop_spent true turn fs pc at = refl
loop_spent false turn fs pc at = sym (own_spent fs (pc_level fs pc at))

moved_pc : (g : Frame → Frame) (to : ℕ → ℕ) (h : List Local → List Local) → Moves g to h → (fs : List Frame) (pc : ℕ) → pc_in fs ≡ Some pc → pc_in (on_body g fs) ≡ Some (to pc)
moved_pc g to h m [] pc at = absurd (cc)
moved_pc g to h m (Loop turn ∷ fs) pc at = moved_pc g to h m fs pc at
moved_pc g to h m (Body template alternative old locals level spent ∷ fs) pc at =
    ap (λ x. pc_in (x ∷ fs)) (m.template template alternative old locals level spent) ∙ ap (λ o. option_map to o) at
moved_pc g to h m (Call procedure old locals level ∷ fs) pc at = ap (λ x. pc_in (x ∷ fs)) (m.procedure procedure old locals level) ∙ ap (λ o. option_map to o) at
moved_pc g to h m (f ∷ fs) pc at = absurd (cc)

module _ (r new : Run) (g : Frame → Frame) (to : ℕ → ℕ) (h : List Local → List Local) (m : Moves g to h)
    (rest : new ≡ record r { frames = new.frames; store = new.store; putting = new.putting; fuel = new.fuel }) where
  -- behind an operation
  pub stays_moved : (pc : ℕ) → pc_in (reverse r.frames.frames) ≡ Some pc → reverse new.frames.frames ≡ on_body g (reverse r.frames.frames) → StaysThere r new
  stays_moved pc at frames =
      let fs = reverse r.frames.frames in
      record {
        rest = rest;
        unskipped = ap skipped_in frames ∙ moved_unskipped g to h m fs pc at;
        spent = λ a. ap (spent_of a) frames ∙ spent_moved g to h m a fs pc at;
      }

  -- a loop begins
  pub stays_in_loop : (pc turn : ℕ) → pc_in (reverse r.frames.frames) ≡ Some pc → reverse new.frames.frames ≡ Loop turn ∷ on_body g (reverse r.frames.frames) → StaysThere r new
  stays_in_loop pc turn at frames =
      let fs = reverse r.frames.frames in
      record {
        rest = rest;
        unskipped = ap skipped_in frames;
        spent = λ a. ap (spent_of a) frames ∙ loop_spent a turn (on_body g fs) (to pc) (moved_pc g to h m fs pc at) ∙ spent_moved g to h m a fs pc at;
      }

  -- it is over, or goes round once more
  pub stays_out_of_loop : (pc turn : ℕ) (others : List Frame) → pc_in (reverse r.frames.frames) ≡ Some pc → reverse r.frames.frames ≡ Loop turn ∷ others → reverse new.frames.frames ≡ on_body g others
      → StaysThere r new
  stays_out_of_loop pc turn others at top frames =
      let below : pc_in others ≡ Some pc = sym (ap pc_in top) ∙ at in
      record {
        rest = rest;
        unskipped = ap skipped_in frames ∙ moved_unskipped g to h m others pc below;
        spent = λ a. ap (spent_of a) frames ∙ spent_moved g to h m a others pc below ∙ sym (loop_spent a turn others pc below) ∙ sym (ap (spent_of a) top);
      }

  pub stays_round : (pc turn next : ℕ) (others : List Frame) → pc_in (reverse r.frames.frames) ≡ Some pc → reverse r.frames.frames ≡ Loop turn ∷ others
      → reverse new.frames.frames ≡ Loop next ∷ on_body g others → StaysThere r new
  stays_round pc turn next others at top frames =
      let below : pc_in others ≡ Some pc = sym (ap pc_in top) ∙ at in
      record {
        rest = rest;
        unskipped = ap skipped_in frames;
        spent = λ a.
            ap (spent_of a) frames ∙ loop_spent a next (on_body g others) (to pc) (moved_pc g to h m others pc below) ∙ spent_moved g to h m a others pc below
            ∙ sym (loop_spent a turn others pc below) ∙ sym (ap (spent_of a) top);
      }

-- So it stays in order.
pub stays_alone : (p : Program) (r new : Run) → StaysThere r new → new.fuel ≤ r.fuel → IsAlone p r → IsAlone p new
stays_alone p r new stays less alone = record {
  origin = ap (λ (x : Run). x.source.origin) stays.rest ∙ alone.origin;
  outer = ap (λ (x : Run). x.outer.items) stays.rest ∙ alone.outer;
  aside = ap (λ (x : Run). x.aside.items) stays.rest ∙ alone.aside;
  held = ap (λ (x : Run). held_node x.source) stays.rest ∙ alone.held;
  counted = λ e. subst HeadIsCounted (sym (ap (λ (x : Run). nodes_of x.source) stays.rest)) (alone.counted (sym (ap (λ (x : Run). x.source.ahead) stays.rest) ∙ e));
  whole = λ e depth skipped. absurd (let no : None ≡ Some depth = sym stays.unskipped ∙ skipped in cc);
  untouched =
      untouched_to (reverse new.frames.frames) (reverse new.frames.frames) (nodes_of r.source) (nodes_of new.source) refl (sym (ap (λ (x : Run). nodes_of x.source) stays.rest))
      (untouched_from (reverse r.frames.frames) (reverse new.frames.frames) (nodes_of r.source) (λ a e. sym (stays.spent a) ∙ e) alone.untouched);
  fuel = omega (arith, less, alone.fuel);
}

-- a unit was spent
pub spent_alone : (p : Program) (r s : Run) → s ≡ record r { fuel = s.fuel } → s.fuel ≤ r.fuel → IsAlone p r → IsAlone p s
spent_alone p r s same less alone = record {
  origin = ap (λ (x : Run). x.source.origin) same ∙ alone.origin;
  outer = ap (λ (x : Run). x.outer.items) same ∙ alone.outer;
  aside = ap (λ (x : Run). x.aside.items) same ∙ alone.aside;
  held = ap (λ (x : Run). held_node x.source) same ∙ alone.held;
  counted = λ e. subst HeadIsCounted (sym (ap (λ (x : Run). nodes_of x.source) same)) (alone.counted (sym (ap (λ (x : Run). x.source.ahead) same) ∙ e));
  whole = λ e depth skipped.
      alone.whole (sym (ap (λ (x : Run). x.source.ahead) same) ∙ e) depth (sym (ap (λ (x : Run). skipped_in (reverse x.frames.frames)) same) ∙ skipped);
  untouched =
      untouched_to (reverse r.frames.frames) (reverse s.frames.frames) (nodes_of r.source) (nodes_of s.source) (sym (ap (λ (x : Run). reverse x.frames.frames) same))
      (sym (ap (λ (x : Run). nodes_of x.source) same)) alone.untouched;
  fuel = omega (arith, less, alone.fuel);
}

pub one_fewer : (n m : ℕ) → one_less n ≡ Some m → m ≤ n
one_fewer zero m e = absurd (cc)
one_fewer (suc n) m e = let same : n ≡ m = cc in omega (arith, same)

-- A step of an operation, of which it is said what it does.
pub shown_steps : {S : Type 0} (output : S → Target) (told : S → S → List Said → Type 0) (p : Program) (r new : Run) (result : Result Step Stop) (out mid : S) → Steps output told p result r new out mid
    → OnOk result (IsAlone p new) → (result ≡ Ok step.Over → reverse new.frames.frames ≡ []) → StepsOn output told p result r new out mid
shown_steps output told p r new result out mid steps alone over = record {
  said = steps.said;
  tells = steps.tells;
  alone = alone;
  over = over;
  does = λ given new program params limit f. steps.does given program limit f;
}

falls_less : (p : Program) (r new : Run) (t : Step) → Falls p r t new → new.fuel ≤ r.fuel
falls_less p r new step.More h = h.spared
falls_less p r new step.Wait h = h.spared
falls_less p r new step.Want h = omega (arith, h.spent)
falls_less p r new step.Over h = h.spared

pub of_ok : {x y : Step} (result : Result Step Stop) → result ≡ Ok x → result ≡ Ok y → x ≡ y
of_ok result is too = cc

-- of an operation that says nothing, and of one that puts
pub carries_steps : {S : Type 0} (output : S → Target) (told : S → S → List Said → Type 0) (p : Program) (r new : Run) (result : Result Step Stop) (out mid : S) → Steps output told p result r new out mid
    → StaysBehind result r new → IfOk result (λ t. Falls p r t new) → IsAlone p r → StepsOn output told p result r new out mid
carries_steps output told p r new (Ok t) out mid steps stays falls alone =
    shown_steps output told p r new (Ok t) out mid steps (stays_alone p r new stays.1 (falls_less p r new t falls) alone)
    (λ e. absurd (let no : step.More ≡ step.Over = sym stays.0 ∙ of_ok (Ok t) refl e in cc))
carries_steps output told p r new (Err e) out mid steps stays falls alone = shown_steps output told p r new (Err e) out mid steps tt (λ o. absurd (cc))

pub put_steps : {S : Type 0} (output : S → Target) (told : S → S → List Said → Type 0) (p : Program) (r new : Run) (out mid : S) → Steps {A = Step} output told p (Ok step.More) r new out mid
    → StaysThere r new → new.fuel ≤ r.fuel → IsAlone p r → StepsOn output told p (Ok step.More) r new out mid
put_steps output told p r new out mid steps stays less alone =
    shown_steps output told p r new (Ok step.More) out mid steps (stays_alone p r new stays less alone) (λ e. absurd (let no : step.More ≡ step.Over = of_ok (Ok step.More) refl e in cc))

pub stopped_steps : {S : Type 0} (output : S → Target) (told : S → S → List Said → Type 0) (p : Program) (r new : Run) (e : Stop) (out mid : S) → Steps {A = Step} output told p (Err e) r new out mid
    → StepsOn output told p (Err e) r new out mid
stopped_steps output told p r new e out mid steps = shown_steps output told p r new (Err e) out mid steps tt (λ o. absurd (cc))

-- the rest of a run is as it was
pub rest_there : (r new x : Run) → new ≡ x → x ≡ record r { frames = new.frames; store = x.store; putting = x.putting; fuel = x.fuel }
    → new ≡ record r { frames = new.frames; store = new.store; putting = new.putting; fuel = new.fuel }
rest_there r new x e same = e ∙ same ∙ sym (ap (λ (y : Run). record r { frames = new.frames; store = y.store; putting = y.putting; fuel = y.fuel }) e)

-- a loop over items goes round once more, for a unit
pub binds_stays : (r s new : Run) (pc : ℕ) → pc_in (reverse r.frames.frames) ≡ Some pc → s ≡ record r { fuel = s.fuel } → {turn next : ℕ} {name : Name} {value : List Atom} → BindsItem turn name value next s new
    → new ≡ record s { frames = new.frames } → StaysThere r new
binds_stays r s new pc at same {turn} {next} {name} {value} b rest =
    let x : Local = record { name = name; value = value } in
    stays_round r new (with_more x next) (λ o. next) (λ ls. ls ++ x ∷ []) (moves_locals next (λ ls. ls ++ x ∷ []))
    (rest_there r new (record r { frames = new.frames; fuel = s.fuel }) (rest ∙ ap (λ (y : Run). record y { frames = new.frames }) same) refl)
    pc b.before turn b.others at (sym (ap (λ (y : Run). reverse y.frames.frames) same) ∙ b.top) b.behind

-- What an instruction asks for.

in_order : (p : Program) (n : ℕ) (i : Instr) → IsOrdinary p.code → slice_get p.code.instrs n ≡ Some i → StaysInOrder (out-Instr i)
in_order p n i ordinary is = all_at InOrder p.code.instrs n i ordinary is

pub in_place : (i j : Instr) (x : Instr-F Instr When) (spot : Place) → roll-Instr x ≡ j → i ≡ j → spot ≡ place (out-Instr i) → place x ≡ spot
in_place i j x spot rolls is at = sym (at ∙ ap place (out_is i j x rolls is))

pub not_ordinary : {P : Type 0} (p : Program) (n : ℕ) (i j : Instr) (x : Instr-F Instr When) → roll-Instr x ≡ j → i ≡ j → (StaysInOrder x → ⊥) → IsOrdinary p.code → slice_get p.code.instrs n ≡ Some i → P
not_ordinary p n i j x rolls is none ordinary there = absurd (none (subst StaysInOrder (out_is i j x rolls is) (in_order p n i ordinary there)))

-- An instruction that gives a text, or a variable a value.
text_stays : (r new : Run) (pc : ℕ) (result : Result Step Stop) → pc_in (reverse r.frames.frames) ≡ Some pc → Passes pc result r new → IfOk result (λ t. t ≡ step.More) → StaysBehind result r new
text_stays r new pc (Ok t) at passes more = (more, stays_moved r new (with_pc (pc + 1)) (λ o. pc + 1) (λ l. l) (moves_pc (pc + 1)) passes.rest pc at passes.behind)
text_stays r new pc (Err e) at passes more = tt

value_stays : (p : Program) (x : Instr-F Instr When) (r new : Run) (pc : ℕ) (result : Result Step Stop) → pc_in (reverse r.frames.frames) ≡ Some pc → Sets p x (with_pc (pc + 1)) result r new
    → IfOk result (λ t. t ≡ step.More) → StaysBehind result r new
value_stays p x r new pc (Ok t) at sets more =
    (more, stays_moved r new (λ f. with_locals sets.locals (with_pc (pc + 1) f)) (λ o. pc + 1) sets.locals (moves_locals (pc + 1) sets.locals) sets.rest pc at sets.behind)
value_stays p x r new pc (Err e) at sets more = tt

pub gives_stays : (p : Program) (x : Instr-F Instr When) (r new : Run) (pc : ℕ) (result : Result Step Stop) → pc_in (reverse r.frames.frames) ≡ Some pc
    → (GivesText x → Passes pc result r new) → (GivesValue x → Sets p x (with_pc (pc + 1)) result r new) → IfOk result (λ t. t ≡ step.More) → GivesText x ⊎ GivesValue x → StaysBehind result r new
gives_stays p x r new pc result at passes sets more (inl gives) = text_stays r new pc result at (passes gives) more
gives_stays p x r new pc result at passes sets more (inr gives) = value_stays p x r new pc result at (sets gives) more

-- once its unit was spent
pub did_steps : {S : Type 0} (output : S → Target) (told : S → S → List Said → Type 0) (p : Program) (most : ℕ) (r s new : Run) (result : Result Step Stop) (out mid : S)
    → Steps output told p result r new out mid → StaysBehind result s new → OnOk result (Begins most s new) → IsAlone p s → StepsOn output told p result r new out mid
did_steps output told p most r s new (Ok t) out mid steps stays begins alone =
    let same : new.fuel ≡ s.fuel = ap (λ (m : Means). m.fuel) begins.means in
    shown_steps output told p r new (Ok t) out mid steps (stays_alone p s new stays.1 (omega (arith, same)) alone) (λ e. absurd (let no : step.More ≡ step.Over = sym stays.0 ∙ of_ok (Ok t) refl e in cc))
did_steps output told p most r s new (Err e) out mid steps stays begins alone = shown_steps output told p r new (Err e) out mid steps tt (λ o. absurd (cc))

-- Of ordinary code it is said what each operation does.

does_shown : (x : Instr-F Instr When) → IsSingle (form x) → StaysHere x → GivesText x ⊎ GivesValue x
does_shown (Instr-F.ValueOf select separator at) single stays = inl tt
does_shown (Instr-F.Chars text at) single stays = inl tt
does_shown (Instr-F.StartElement name namespace scope at) single stays = inl tt
does_shown (Instr-F.EndElement name namespace scope at) single stays = inl tt
does_shown (Instr-F.Attribute name namespace scope content at) single stays = inl tt
does_shown (Instr-F.Comment content at) single stays = inl tt
does_shown (Instr-F.Pi name scope content at) single stays = inl tt
does_shown (Instr-F.Message content at) single stays = inl tt
does_shown (Instr-F.LiteralChars text at) single stays = inl tt
does_shown (Instr-F.Local name select at) single stays = inr tt
does_shown (Instr-F.Assign name select at) single stays = inr tt
does_shown (Instr-F.Copy attributes body at) single stays = absurd single
does_shown (Instr-F.Literal name attrs body at) single stays = absurd single
does_shown (Instr-F.Element name namespace scope body at) single stays = absurd single
does_shown (Instr-F.ResultBuffer name clear body at) single stays = absurd single
does_shown (Instr-F.If test body other at) single stays = absurd single
does_shown (Instr-F.Choose whens other at) single stays = absurd single
does_shown (Instr-F.While test body at) single stays = absurd single
does_shown (Instr-F.ForEachItem name select body at) single stays = absurd single
does_shown x single stays = absurd stays

same_form : {o : Option Form} {f g : Form} → o ≡ Some f → o ≡ Some g → f ≡ g
same_form a b = cc

pub shown_do : (p : Program) (r : Run) (running : Running) (n : ℕ) (i : Instr) → IsAtOp p r running (op.Do n) → slice_get p.code.instrs n ≡ Some i → StaysHere (out-Instr i)
    → GivesText (out-Instr i) ⊎ GivesValue (out-Instr i)
shown_do p r running n i at is stays =
    let d = done p r running n at in
    let same : d.0 ≡ form (out-Instr i) = same_form d.1.0 (ap (option_map form_of) is) in
    does_shown (out-Instr i) (subst (λ f. IsSingle f) same d.1.1) stays

opens_shown : (x : Instr-F Instr When) → IsRound (form x) → StaysInOrder x → OpensShown x
opens_shown (Instr-F.Literal name attrs body at) round order = tt
opens_shown (Instr-F.Copy attributes body at) round order = tt
opens_shown (Instr-F.Element name namespace scope body at) round order = tt
opens_shown (Instr-F.ResultBuffer name clear body at) round order = absurd order
opens_shown (Instr-F.If test body other at) round order = absurd round
opens_shown (Instr-F.Choose whens other at) round order = absurd round
opens_shown (Instr-F.While test body at) round order = absurd round
opens_shown (Instr-F.ForEachItem name select body at) round order = absurd round
opens_shown (Instr-F.Local name select at) round order = absurd round
opens_shown x round order = absurd round

closes_shown : (x : Instr-F Instr When) → OpensShown x → ClosesShown x
closes_shown (Instr-F.Literal name attrs body at) shown = tt
closes_shown (Instr-F.Copy attributes body at) shown = tt
closes_shown (Instr-F.Element name namespace scope body at) shown = tt
closes_shown x shown = absurd shown

pub shown_open : (p : Program) (r : Run) (running : Running) (n to : ℕ) → IsAtOp p r running (op.Open n to) → IsOrdinary p.code → (i : Instr) → slice_get p.code.instrs n ≡ Some i → OpensShown (out-Instr i)
shown_open p r running n to at ordinary i is =
    let d = opened_round p r running n to at in
    let same : d.0 ≡ form (out-Instr i) = same_form d.1.0 (ap (option_map form_of) is) in
    opens_shown (out-Instr i) (subst (λ f. IsRound f) same d.1.1) (in_order p n i ordinary is)

pub shown_close : (p : Program) (r : Run) (running : Running) (n : ℕ) → IsAtOp p r running (op.Close n) → IsOrdinary p.code → (i : Instr) → slice_get p.code.instrs n ≡ Some i → ClosesShown (out-Instr i)
shown_close p r running n at ordinary i is =
    let d = closed_round p r running n at in
    let same : d.0 ≡ form (out-Instr i) = same_form d.1.0 (ap (option_map form_of) is) in
    closes_shown (out-Instr i) (opens_shown (out-Instr i) (subst (λ f. IsRound f) same d.1.1) (in_order p n i ordinary is))
