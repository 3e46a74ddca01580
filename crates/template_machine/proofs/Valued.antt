-- Variables of a body that are declared, and variables that are set.
use Rattle.std.proofs.Common.{◌≡◌, ◌≢◌, ℕ, zero, suc, ◌+◌, ◌<◌, Bool, true, false, cond, not, if◌then◌else◌, List, [], ◌∷◌, ◌++◌, length, Option, Some, None, ◌⊎◌, inl, inr, Result, Ok, Err, reverse, is_some, refl, ap, sym, subst, ◌∙◌, arith}
use Rattle.std.specs.Prelude.{IsSome, OnOk, OnErr, slice_get, unwrap_or}
use Rattle.std.specs.List.{position_or_len}
use Rattle.std.specs.Option.{option_and_then, option_map, option_map_or, option_or}
use Rattle.std.proofs.lemmas.Bool.{false≢true}
use Rattle.std.proofs.lemmas.List.{length-map}
use Rattle.std.proofs.lemmas.Option.{slice_get-map}
use Rattle.stx_base.specs.Course.{Halt, Ret, says}
use Rattle.stx_base.specs.declared.fault.Place.{Place}
use Rattle.stx_base.specs.declared.name.Name.{Name}
use Rattle.frame_stack.specs.Change.{locals_of, with_locals, with_pc}
use Rattle.frame_stack.specs.Locals as locals
use Rattle.frame_stack.specs.declared.frame.Frame.{Frame}
use Rattle.frame_stack.specs.declared.frame.Frame.TheVariants.{Attributes, Body, Call, Loop, Pass, Region, Skip, Source}
use Rattle.frame_stack.specs.declared.locals.Local.{Local}
use Rattle.result_writer.specs.Allowed.{is_empty}
use Rattle.result_writer.specs.Target.{Target}
use Rattle.instr_code.specs.Running.{go_on}
use Rattle.instr_code.specs.declared.code.Code.{Code}
use Rattle.instr_code.specs.declared.code.Op.TheVariants as op
use Rattle.sheet_model.specs.Groups.{around}
use Rattle.sheet_model.specs.Parts.{place}
use Rattle.sheet_model.specs.declared.instr.Instr.{Instr}
use Rattle.sheet_model.specs.declared.instr.Instr.TheOpen.{Instr-F}
use Rattle.sheet_model.specs.declared.instr.Instr.TheViews.{out-Instr}
use Rattle.sheet_model.specs.declared.instr.When.{When}
use Rattle.sheet_model.specs.declared.sheet.Sheet.{Sheet}
use Rattle.stxpath_syntax.specs.declared.expr.Expr.{Expr}
use Rattle.stxpath_values.specs.declared.fault.EvalFault.{EvalFault}
use Rattle.stxpath_values.specs.declared.value.Atom.{Atom}
use Rattle.var_store.specs.Copies.{Stored, on_group, on_newest}
use Rattle.var_store.specs.Variables.{bound, is_called, slot_of, value_of, with_value}
use Rattle.var_store.specs.declared.bound.Bound.{Bound}
use Rattle.var_store.proofs.Finding.{at_slot, found_at, found_nowhere, slot_leads_to_value}
use Rattle.template_machine.specs.Acting.{act, acts, assigned, with_local}
use Rattle.template_machine.specs.Bodies.{body_in, frame_in, level_in, on_body, pc_of}
use Rattle.template_machine.specs.Called.{HasName}
use Rattle.template_machine.specs.Ending.{Faulted, Said}
use Rattle.template_machine.specs.Fuel.{spend}
use Rattle.template_machine.specs.Job.{Does, Given, Here, Self, State, with_state}
use Rattle.template_machine.specs.Moments.{IsAtOp}
use Rattle.template_machine.specs.Saying.{Acts, Carries, Gave, GivesText, GivesValue, GoesAs, Passes, SeesAs, Steps, sight}
use Rattle.template_machine.specs.Seen.{bounds_of, local_of, named_of, place_of}
use Rattle.template_machine.specs.Shifting.{HasLocals, Sets, StandsAt, assign_at, local_at, with_more}
use Rattle.template_machine.specs.Steps.{group_of, one_less}
use Rattle.template_machine.specs.Still as still
use Rattle.template_machine.specs.Still.{Scene, aside_of}
use Rattle.template_machine.specs.Stepwise.{Flat_does, Working, stands_at, steps_of}
use Rattle.template_machine.specs.Values.{atoms_of, got, selected, setting}
use Rattle.template_machine.specs.Working as working
use Rattle.template_machine.specs.Variables.{assigned_in, holder_in, newest}
use Rattle.template_machine.specs.declared.program.Program.{Program}
use Rattle.template_machine.specs.declared.run.Run.{Run}
use Rattle.template_machine.specs.declared.run.Running.{Running}
use Rattle.template_machine.specs.declared.stop.Stop.{Stop}
use Rattle.template_machine.specs.declared.stop.Stop.TheVariants as stop
use Rattle.template_machine.proofs.Aside.{aside_kept, aside_more, named_more, named_one, named_pushed, none_aside, none_named}
use Rattle.template_machine.proofs.Assigned.{got_within}
use Rattle.template_machine.proofs.Deciding.{all_rest, carried, stopped}
use Rattle.template_machine.proofs.Itemized.{atoms_seen}
use Rattle.template_machine.proofs.Moving.{moves_pc, on_twice}
use Rattle.template_machine.proofs.Placing.{placed_in}
use Rattle.template_machine.proofs.Proceeding.{below, done_in, goes_in, on_ok_by, text_steps, unit_spent}
use Rattle.template_machine.proofs.Shifting.{has_locals, leaves_on, left_with, own_aside, own_frame, own_locals}
use Rattle.template_machine.proofs.Sighting.{sees_behind}
use Rattle.template_machine.proofs.Sighted.{texts_see_nodes}
use Rattle.template_machine.proofs.Unseen.{named_seen, seen_nowhere, uncalled}
use Rattle.template_machine.proofs.Unseen as unseen

-- Locals that are set.

named_cons : (x : Local) (xs : List Local) → x.name.local ≢ [] → named_of (x ∷ xs) ≡ bound x.name x.value ∷ named_of xs
named_cons x xs some = named_more (x ∷ []) xs ∙ ap (λ l. l ++ named_of xs) (named_one x some)

nameless_cons : (x : Local) (xs : List Local) → x.name.local ≡ [] → named_of (x ∷ xs) ≡ named_of xs
nameless_cons x xs none = named_more (x ∷ []) xs ∙ ap (λ l. l ++ named_of xs) (none_named x none)

-- one that is called by a name has one
called_some : (name : Name) (x : Local) → is_empty name.local ≡ false → is_called name (bound x.name x.value) ≡ true → x.name.local ≢ []
called_some name x some called = λ none. absurd (false≢true (sym (uncalled name x (ap is_empty none) some) ∙ called))

-- the local where a name stands has another value, and what waits is as it was
set_by : (name : Name) (value : List Atom) → is_empty name.local ≡ false → (own : List Local) (i : ℕ) → position_or_len (is_called name) (bounds_of own) ≡ i → i < length own
    → (named_of (locals.with_value i value own) ≡ with_value name value (named_of own)) × (aside_of (locals.with_value i value own) ≡ aside_of own)
set_by name value some [] i at less = absurd (omega (arith, less))
set_by name value some (x ∷ xs) i at less = by (is_called name (bound x.name x.value)) refl i at less (set_by name value some xs) where
  by : (c : Bool) → is_called name (bound x.name x.value) ≡ c → (i : ℕ) → cond (not c) (1 + position_or_len (is_called name) (bounds_of xs)) 0 ≡ i → i < length (x ∷ xs)
      → ((j : ℕ) → position_or_len (is_called name) (bounds_of xs) ≡ j → j < length xs
      → (named_of (locals.with_value j value xs) ≡ with_value name value (named_of xs)) × (aside_of (locals.with_value j value xs) ≡ aside_of xs))
      → (named_of (locals.with_value i value (x ∷ xs)) ≡ with_value name value (named_of (x ∷ xs))) × (aside_of (locals.with_value i value (x ∷ xs)) ≡ aside_of (x ∷ xs))
  by true called zero at less rest =
      let there = called_some name x some called in
      let y : Local = record x { value = value } in (
        named_cons y xs there ∙ ap (λ b. if b then bound x.name value ∷ named_of xs else bound x.name x.value ∷ with_value name value (named_of xs)) (sym called)
            ∙ ap (with_value name value) (sym (named_cons x xs there)),
        aside_more (y ∷ []) xs ∙ ap (λ l. aside_of xs ++ l) (none_aside y there ∙ sym (none_aside x there)) ∙ sym (aside_more (x ∷ []) xs),
      )
  by true called (suc i) at less rest = absurd (omega (arith, at))
  by false called zero at less rest = absurd (omega (arith, at))
  by false called (suc i) at less rest =
      let h = rest i (omega (arith, at)) (omega (arith, less)) in (
        of_name x.name.local refl h.0,
        aside_more (x ∷ []) (locals.with_value i value xs) ∙ ap (λ l. l ++ aside_of (x ∷ [])) h.1 ∙ sym (aside_more (x ∷ []) xs),
      )
    where
      of_name : (l : List ℕ) → x.name.local ≡ l → named_of (locals.with_value i value xs) ≡ with_value name value (named_of xs)
          → named_of (x ∷ locals.with_value i value xs) ≡ with_value name value (named_of (x ∷ xs))
      of_name [] none h = nameless_cons x (locals.with_value i value xs) none ∙ h ∙ ap (with_value name value) (sym (nameless_cons x xs none))
      of_name (c ∷ cs) is h =
          let there : x.name.local ≢ [] = λ none. absurd (let e : c ∷ cs ≡ [] = sym is ∙ none in cc) in
          named_cons x (locals.with_value i value xs) there ∙ ap (λ l. bound x.name x.value ∷ l) h
          ∙ ap (λ b. if b then bound x.name value ∷ named_of xs else bound x.name x.value ∷ with_value name value (named_of xs)) (sym called)
          ∙ ap (with_value name value) (sym (named_cons x xs there))

pub local_set : (name : Name) (value : List Atom) (own : List Local) (i : ℕ) → place_of name own ≡ Some i
    → (named_of (locals.with_value i value own) ≡ with_value name value (named_of own)) × (aside_of (locals.with_value i value own) ≡ aside_of own)
local_set name value own i is =
    let at = unseen.stands_at name own i is in
    let slot = at_slot name (bounds_of own) i at.1 in
    set_by name value at.0 own i slot.0 (omega (arith, slot.1, length-map own (λ (l : Local). bound l.name l.value)))

-- a name that stands among the locals has a value
some_there : {A : Type 0} (xs : List A) (i : ℕ) → i < length xs → is_some (slice_get xs i) ≡ true
some_there [] i less = absurd (omega (arith, less))
some_there (x ∷ xs) zero less = refl
some_there (x ∷ xs) (suc i) less = some_there xs i (omega (arith, less))

some_mapped : {A B : Type 0} (f : A → B) (o : Option A) → is_some o ≡ true → is_some (option_map f o) ≡ true
some_mapped f None e = e
some_mapped f (Some x) e = refl

pub has_value : (name : Name) (own : List Local) (i : ℕ) → place_of name own ≡ Some i → is_some (value_of name (named_of own)) ≡ true
has_value name own i is =
    let at = unseen.stands_at name own i is in
    ap (λ (o : Option (List Atom)). is_some o) (named_seen name own at.0 ∙ sym (ap (option_map (λ (b : Bound). b.value)) (found_at name (bounds_of own) i at.1)))
    ∙ some_mapped (λ (b : Bound). b.value) (slice_get (bounds_of own) i) (some_there (bounds_of own) i (at_slot name (bounds_of own) i at.1).1)

-- where it stands among a frame's
pub placed_of : (name : Name) (own : List Local) (found : Option ℕ) (o : Option Frame) → option_map locals_of o ≡ Some own → found ≡ place_of name own
    → option_map (λ f. place_of name (locals_of f)) o ≡ Some found
placed_of name own found None are is = absurd (cc)
placed_of name own found (Some f) are is = let same : locals_of f ≡ own = cc in ap (λ l. Some (place_of name l)) same ∙ ap (λ o. Some o) (sym is)

pub place_in : (r : Run) (body : ℕ) (name : Name) (found : Option ℕ) → body_in (reverse r.frames.frames) ≡ Some body
    → option_map (λ f. place_of name (locals_of f)) (slice_get r.frames.frames body) ≡ Some found → (own : List Local) → HasLocals r own → place_of name own ≡ found
place_in r body name found at is own has =
    let x = placed_in r.frames.frames body at in
    let same : locals_of x.0 ≡ own = one (sym (ap (option_map locals_of) x.1.0) ∙ has) in
    ap (place_of name) (sym same) ∙ one (sym (ap (option_map (λ f. place_of name (locals_of f))) x.1.1) ∙ is)
  where
    one : {A : Type 0} {x y : A} → Some x ≡ Some y → x ≡ y
    one e = cc

-- Variables of groups.

-- where none of the groups has the name nothing is set
pub none_holds : (name : Name) (value : List Atom) (store : Stored) (gs : List ℕ) → holder_in gs store name ≡ None → assigned_in gs store name value ≡ store
none_holds name value store [] none = refl
none_holds name value store (g ∷ gs) none = by (slot_of name (newest store g)) refl none (none_holds name value store gs) where
  by : (o : Option ℕ) → slot_of name (newest store g) ≡ o → option_or (if is_some o then Some g else None) (holder_in gs store name) ≡ None
      → (holder_in gs store name ≡ None → assigned_in gs store name value ≡ store)
      → option_map_or (λ old. on_group (on_newest (with_value name value)) g store) (value_of name (newest store g)) (assigned_in gs store name value) ≡ store
  by None at none rest =
      ap (λ o. option_map_or (λ old. on_group (on_newest (with_value name value)) g store) o (assigned_in gs store name value))
      (ap (option_map (λ (b : Bound). b.value)) (found_nowhere name (newest store g) at))
      ∙ rest none
  by (Some i) at none rest = absurd (cc)

-- the first one that has it is
pub one_holds : (name : Name) (value : List Atom) (store : Stored) (gs : List ℕ) (number : ℕ) → holder_in gs store name ≡ Some number
    → assigned_in gs store name value ≡ on_group (on_newest (with_value name value)) number store
one_holds name value store [] number is = absurd (cc)
one_holds name value store (g ∷ gs) number is = by (slot_of name (newest store g)) refl is (one_holds name value store gs number) where
  by : (o : Option ℕ) → slot_of name (newest store g) ≡ o → option_or (if is_some o then Some g else None) (holder_in gs store name) ≡ Some number
      → (holder_in gs store name ≡ Some number → assigned_in gs store name value ≡ on_group (on_newest (with_value name value)) number store)
      → option_map_or (λ old. on_group (on_newest (with_value name value)) g store) (value_of name (newest store g)) (assigned_in gs store name value)
      ≡ on_group (on_newest (with_value name value)) number store
  by None at is rest =
      ap (λ o. option_map_or (λ old. on_group (on_newest (with_value name value)) g store) o (assigned_in gs store name value))
      (ap (option_map (λ (b : Bound). b.value)) (found_nowhere name (newest store g) at))
      ∙ rest is
  by (Some i) at is rest =
      let same : g ≡ number = cc in
      let v = value_there i at in
      ap (λ o. option_map_or (λ old. on_group (on_newest (with_value name value)) g store) o (assigned_in gs store name value)) v.1
      ∙ ap (λ n. on_group (on_newest (with_value name value)) n store) same
    where
      value_there : (i : ℕ) → slot_of name (newest store g) ≡ Some i → (v : List Atom) × (value_of name (newest store g) ≡ Some v)
      value_there i at =
          let bs = newest store g in
          let x = got_within bs i (at_slot name bs i at).1 in
          (x.0.value, sym (slot_leads_to_value name bs i at) ∙ slice_get-map (λ (b : Bound). b.value) bs i ∙ ap (option_map (λ (b : Bound). b.value)) x.1)

some_holds : (name : Name) (store : Stored) (gs : List ℕ) (number : ℕ) → holder_in gs store name ≡ Some number → is_some (slot_of name (newest store number)) ≡ true
some_holds name store [] number is = absurd (cc)
some_holds name store (g ∷ gs) number is = by (is_some (slot_of name (newest store g))) refl is (some_holds name store gs number) where
  by : (b : Bool) → is_some (slot_of name (newest store g)) ≡ b → option_or (if b then Some g else None) (holder_in gs store name) ≡ Some number
      → (holder_in gs store name ≡ Some number → is_some (slot_of name (newest store number)) ≡ true) → is_some (slot_of name (newest store number)) ≡ true
  by true at is rest = let same : g ≡ number = cc in ap (λ n. is_some (slot_of name (newest store n))) (sym same) ∙ at
  by false at is rest = rest is

-- what is assigned where the name is, is assigned
pub assigned_there : {B E : Type 0} (result : Result B E) (new : Stored) (name : Name) (value : List Atom) (store : Stored) (gs : List ℕ) (number : ℕ) → holder_in gs store name ≡ Some number
    → OnOk result (new ≡ on_group (on_newest (with_value name value)) number store) → OnErr result (slot_of name (newest store number) ≡ None)
    → new ≡ assigned_in gs store name value
assigned_there (Ok done) new name value store gs number is ok absent = ok ∙ sym (one_holds name value store gs number is)
assigned_there (Err e) new name value store gs number is ok absent =
    absurd (false≢true (sym (ap (λ (o : Option ℕ). is_some o) absent) ∙ some_holds name store gs number is))

-- Instructions that give a variable a value.

selected_seen : (given : Given) (p : Program) (r : Run) (self : Self) (a : Here) (e : Option Expr) → SeesAs given p r self a
    → selected e (setting given self a) ≡ selected e (sight p r)
selected_seen given p r self a e sees = ap (selected e) sees.is ∙ sym (texts_see_nodes.selects e (sight p r) sees.way sees.alike)

got_stops : (A : Type 0) {B : Type 0} (e : Stop) (at : Place) (v w : Result B EvalFault) (go : B → Does) (y : Does) → v ≡ w → Gave {A = B} at (Err e) w → GoesAs {A = A} (Err e) (got at v go) [] y
got_stops A (stop.Fault fault) at v w go y same gave = ap (λ x. got at x go) (same ∙ gave.1.0) ∙ ap (λ x. Halt (Faulted x)) (sym gave.1.1)
got_stops A (stop.Spent where_now) at v w go y same gave = absurd gave
got_stops A stop.Memory at v w go y same gave = (got at v go, refl)

kept_frames : (fs : List Frame) → on_body (λ f. with_locals (λ l. l) f) fs ≡ fs
kept_frames [] = refl
kept_frames (Loop turn ∷ fs) = ap (λ l. Loop turn ∷ l) (kept_frames fs)
kept_frames (Body template alternative pc own level spent ∷ fs) = refl
kept_frames (Call procedure pc own level ∷ fs) = refl
kept_frames (f ∷ fs) = refl

module _ {A : Type 0} (p : Program) (old new : Run) where
  -- a local is set
  pub local_sets : (name : Name) (select : Expr) (at : Place) (value : List Atom) (index : ℕ) (done : A) → atoms_of select (sight p old) ≡ Ok value
      → ((own : List Local) → HasLocals old own → place_of name own ≡ Some index)
      → reverse new.frames.frames ≡ on_body (with_locals (locals.with_value index value)) (reverse old.frames.frames) → new ≡ record old { frames = new.frames }
      → Sets p (assign_at name select at) (λ f. f) (Ok done) old new
  local_sets name select at value index done gave place behind rest = record {
    locals = locals.with_value index value;
    behind = behind;
    rest = all_rest old new old.fuel rest;
    waits = λ own has. (local_set name value own index (place own has)).1;
    does = λ given of_sheet left w st sees q.
        let own : List Local = locals_of st.body in
        let there = place own (has_locals given p old w st) in
        let gs = around given.sheet.groups w.self.group in
        ap (λ v. got at v (λ items. Ret (assigned gs name items w.here))) (atoms_seen given p old w.self w.here select sees ∙ gave)
        ∙ ap (λ b. Ret (if b then record w.here { locals = with_value name value w.here.locals } else with_state w.here (record w.here.state { variables = assigned_in gs w.here.state.variables name value })))
        (ap (λ l. is_some (value_of name l)) (own_locals given p old w st) ∙ has_value name own index there)
        ∙ ap (λ l. Ret (record w.here { locals = l })) (ap (with_value name value) (own_locals given p old w st) ∙ sym (local_set name value own index there).0)
        ∙ ap (λ s. Ret (record w.here { locals = named_of (locals.with_value index value own); state = s })) (q ∙ sym (ap (λ n. still.state_of given p n left) rest));
  }

  -- or else the variable of the nearest group
  pub groups_set : (name : Name) (select : Expr) (at : Place) (value : List Atom) (group : ℕ) (done : A) → atoms_of select (sight p old) ≡ Ok value
      → ((own : List Local) → HasLocals old own → place_of name own ≡ None) → option_and_then (group_of p.sheet) (frame_in (reverse old.frames.frames)) ≡ Some group
      → new ≡ record old { store = assigned_in (around p.sheet.groups group) old.store name value }
      → Sets p (assign_at name select at) (λ f. f) (Ok done) old new
  groups_set name select at value group done gave place in_group rest = record {
    locals = λ l. l;
    behind = ap (λ (n : Run). reverse n.frames.frames) rest ∙ sym (kept_frames (reverse old.frames.frames));
    rest = rest ∙ sym (ap (λ (n : Run). record old { frames = n.frames; store = n.store; putting = n.putting; fuel = n.fuel }) rest);
    waits = λ own has. refl;
    does = λ given of_sheet left w st sees q.
        let own : List Local = locals_of st.body in
        let none : local_of name own ≡ None = seen_nowhere name own (place own (has_locals given p old w st)) in
        let gs = around given.sheet.groups w.self.group in
        let group_is : w.self.group ≡ group =
        ap (λ (v : Working). v.self.group) st.is
        ∙ ap (λ o. unwrap_or o 0) (sym (ap (option_and_then (group_of p.sheet)) (own_frame given p old w st)) ∙ in_group) in
        let groups_are : given.sheet.groups ≡ p.sheet.groups = sym (ap (λ (s : Sheet). s.groups) of_sheet.sheet_is) in
        let same : gs ≡ around p.sheet.groups group = ap (λ g. around g w.self.group) groups_are ∙ ap (around p.sheet.groups) group_is in
        ap (λ v. got at v (λ items. Ret (assigned gs name items w.here))) (atoms_seen given p old w.self w.here select sees ∙ gave)
        ∙ ap (λ b. Ret (if b then record w.here { locals = with_value name value w.here.locals } else with_state w.here (record w.here.state { variables = assigned_in gs w.here.state.variables name value })))
        (ap (λ l. is_some (value_of name l)) (own_locals given p old w st) ∙ ap (λ (o : Option (List Atom)). is_some o) none)
        ∙ ap (λ l. Ret (with_state w.here (record w.here.state { variables = assigned_in l w.here.state.variables name value }))) same
        ∙ ap (λ (s : State). Ret (with_state w.here (record s { variables = assigned_in (around p.sheet.groups group) s.variables name value }))) q
        ∙ ap (λ s. Ret (with_state w.here s)) (sym (ap (λ n. still.state_of given p n left) rest))
        ∙ ap (λ l. Ret (record w.here { locals = l; state = still.state_of given p new left })) (own_locals given p old w st);
  }

  -- a variable is declared
  pub declare_sets : (name : Name) (select : Option Expr) (at : Place) (value : List Atom) (to : ℕ) (done : A) → HasName name → selected select (sight p old) ≡ Ok value
      → reverse new.frames.frames ≡ on_body (with_more (record { name = name; value = value }) to) (reverse old.frames.frames) → new ≡ record old { frames = new.frames }
      → Sets p (local_at name select at) (with_pc to) (Ok done) old new
  declare_sets name select at value to done some gave behind rest =
      let x : Local = record { name = name; value = value } in
      record {
        locals = λ ls. ls ++ x ∷ [];
        behind = behind;
        rest = all_rest old new old.fuel rest;
        waits = λ own has. aside_kept own x some;
        does = λ given of_sheet left w st sees q.
            let own : List Local = locals_of st.body in
            ap (λ v. got at v (λ items. Ret (with_local name items w.here))) (selected_seen given p old w.self w.here select sees ∙ gave)
            ∙ ap (λ l. Ret (record w.here { locals = l })) (ap (λ l. l ++ bound name value ∷ []) (own_locals given p old w st) ∙ sym (named_pushed own x some))
            ∙ ap (λ s. Ret (record w.here { locals = named_of (own ++ x ∷ []); state = s })) (q ∙ sym (ap (λ n. still.state_of given p n left) rest));
      }

  -- where no value is given, nothing is
  pub assign_stops : (name : Name) (select : Expr) (at : Place) (e : Stop) (move : Frame → Frame) → Gave {A = List Atom} at (Err e) (atoms_of select (sight p old))
      → new ≡ record old { frames = new.frames; store = new.store; putting = new.putting; fuel = new.fuel } → Sets p (assign_at name select at) move (stopped A e) old new
  assign_stops name select at e move gave rest = record {
    locals = λ l. l;
    behind = tt;
    rest = rest;
    waits = λ own has. tt;
    does = λ given of_sheet left w st sees q. got_stops A e at (atoms_of select (setting given w.self w.here)) (atoms_of select (sight p old)) _ _ (atoms_seen given p old w.self w.here select sees) gave;
  }

  pub declare_stops : (name : Name) (select : Option Expr) (at : Place) (e : Stop) (move : Frame → Frame) → Gave {A = List Atom} at (Err e) (selected select (sight p old))
      → new ≡ record old { frames = new.frames; store = new.store; putting = new.putting; fuel = new.fuel } → Sets p (local_at name select at) move (stopped A e) old new
  declare_stops name select at e move gave rest = record {
    locals = λ l. l;
    behind = tt;
    rest = rest;
    waits = λ own has. tt;
    does = λ given of_sheet left w st sees q. got_stops A e at (selected select (setting given w.self w.here)) (selected select (sight p old)) _ _ (selected_seen given p old w.self w.here select sees) gave;
  }

  pub memory_sets : (instr : Instr-F Instr When) (move : Frame → Frame) → new ≡ record old { frames = new.frames; store = new.store; putting = new.putting; fuel = new.fuel }
      → Sets p instr move (stopped A stop.Memory) old new
  memory_sets instr move rest = record {
    locals = λ l. l;
    behind = tt;
    rest = rest;
    waits = λ own has. tt;
    does = λ given of_sheet left w st sees q. (acts given instr w.self w.here, refl);
  }

-- Behind another operation.

moved_working : (given : Given) (p : Program) (turns : List ℕ) (b : Frame) (fs : List Frame) (c : Scene) (a : Here) (pc to : ℕ) → pc_of b ≡ Some pc
    → still.working_in given p turns b fs c a ≡ still.working_in given p turns (with_pc to b) fs c a
moved_working given p turns (Body template alternative q own level spent) fs c a pc to at = refl
moved_working given p turns (Call procedure q own level) fs c a pc to at = refl
moved_working given p turns b fs c a pc to at = absurd (cc)

moved_pc : (b : Frame) (pc to : ℕ) → pc_of b ≡ Some pc → pc_of (with_pc to b) ≡ Some to
moved_pc (Body template alternative q own level spent) pc to at = refl
moved_pc (Call procedure q own level) pc to at = refl
moved_pc b pc to at = absurd (cc)

locals_there : (to : ℕ) (b : Frame) → locals_of (with_pc to b) ≡ locals_of b
locals_there to (Body template alternative q own level spent) = refl
locals_there to (Call procedure q own level) = refl
locals_there to b = refl

pub stands_behind : (given : Given) (p : Program) (old mid : Run) (to : ℕ) (w : Working) → reverse mid.frames.frames ≡ on_body (with_pc to) (reverse old.frames.frames)
    → mid ≡ record old { frames = mid.frames } → StandsAt given p old w → StandsAt given p mid w
stands_behind given p old mid to w behind rest st = record {
  body = with_pc to st.body;
  turns = st.turns;
  below = st.below;
  frames = behind ∙ ap (on_body (with_pc to)) st.frames ∙ below (with_pc to) st.turns st.body st.below st.pc st.at;
  pc = to;
  at = moved_pc st.body st.pc to st.at;
  here = st.here;
  is =
      st.is ∙ moved_working given p st.turns st.body st.below (still.scene_by given p old.source.ahead old) st.here st.pc to st.at
      ∙ sym (ap (λ (n : Run). still.working_in given p st.turns (with_pc to st.body) st.below (still.scene_by given p n.source.ahead n) st.here) rest);
}

locals_in_mid : (old mid : Run) (to : ℕ) (own : List Local) → reverse mid.frames.frames ≡ on_body (with_pc to) (reverse old.frames.frames) → HasLocals old own → HasLocals mid own
locals_in_mid old mid to own behind has = ap (λ l. option_map locals_of (frame_in l)) behind ∙ same (reverse old.frames.frames) ∙ has where
  same : (fs : List Frame) → option_map locals_of (frame_in (on_body (with_pc to) fs)) ≡ option_map locals_of (frame_in fs)
  same [] = refl
  same (Loop turn ∷ fs) = same fs
  same (Body template alternative pc own level spent ∷ fs) = refl
  same (Call procedure pc own level ∷ fs) = refl
  same (Region asked level ∷ fs) = refl
  same (Attributes next asked ∷ fs) = refl
  same (Source buffer next asked ∷ fs) = refl
  same (Skip depth ∷ fs) = refl
  same (Pass base level spent ∷ fs) = refl

pub sets_behind : {A : Type 0} (p : Program) (instr : Instr-F Instr When) (result : Result A Stop) (old mid new : Run) (to : ℕ) → IsSome (level_in (reverse old.frames.frames))
    → reverse mid.frames.frames ≡ on_body (with_pc to) (reverse old.frames.frames) → mid ≡ record old { frames = mid.frames }
    → Sets p instr (λ f. f) result mid new → Sets p instr (with_pc to) result old new
unfolding stands_behind
sets_behind p instr result old mid new to some behind rest s = record {
  locals = s.locals;
  behind =
      on_ok_by result s.behind
      (λ e. e ∙ ap (on_body (λ f. with_locals s.locals f)) behind ∙ on_twice (with_pc to) (with_locals s.locals) (λ o. to) (λ l. l) (moves_pc to) (reverse old.frames.frames) some);
  rest = s.rest ∙ ap (λ (n : Run). record n { frames = new.frames; store = new.store; putting = new.putting; fuel = new.fuel }) rest;
  waits = λ own has. s.waits own (locals_in_mid old mid to own behind has);
  does = λ given of_sheet left w st sees q.
      subst (λ l. GoesAs result (acts given instr w.self w.here) [] (Ret (record w.here { locals = named_of (s.locals l); state = still.state_of given p new left })))
      (locals_there to st.body)
      (s.does given of_sheet left w (stands_behind given p old mid to w behind rest st) (sees_behind given p old mid to w.self w.here behind rest sees)
      (q ∙ sym (ap (λ n. still.state_of given p n left) rest)));
}

-- A run's step, for a unit.

goes_on_as : {A : Type 0} (r : Result A Stop) (x y z : Flat_does) (said : List Said) → GoesAs r x said y → OnOk r (y ≡ z) → GoesAs r x said z
goes_on_as (Ok done) x y z said h e = h ∙ ap (says said) e
goes_on_as (Err (stop.Fault fault)) x y z said h e = h
goes_on_as (Err (stop.Spent at)) x y z said h e = h
goes_on_as (Err stop.Memory) x y z said h e = h

pub sets_carry : {A : Type 0} (p : Program) (result : Result A Stop) (r new : Run) (running : Running) (n units : ℕ) (i : Instr) → IsAtOp p r running (op.Do n)
    → slice_get p.code.instrs n ≡ Some i → one_less r.fuel ≡ Some units → Sets p (out-Instr i) (with_pc (running.pc + 1)) result (record r { fuel = units }) new
    → Carries p result r new
sets_carry p result r new running n units i at is less s = record {
  does = λ given of_sheet left f.
      let to = running.pc + 1 in
      let go : Working → Flat_does = go_on (steps_of given) to in
      leaves_on given p s.locals result r new running (op.Do n) to left left [] at of_sheet s.behind s.rest
      (λ w st sees q.
      let own : List Local = locals_of st.body in
      let now : State = record w.here.state { fuel = units } in
      let v : Working = stands_at w (with_state w.here now) in
      let a : Here = record w.here { locals = named_of (s.locals own); state = still.state_of given p new left } in
      let spent : StandsAt given p (record r { fuel = units }) v = record {
        body = st.body;
        turns = st.turns;
        below = st.below;
        frames = st.frames;
        pc = st.pc;
        at = st.at;
        here = record st.here { state = record st.here.state { fuel = units } };
        is = ap (λ (u : Working). stands_at u (with_state u.here (record u.here.state { fuel = units }))) st.is;
      } in
      let done : GoesAs result (act given i w.self v.here) [] (Ret a) =
      s.does given of_sheet left v spent (record { way = sees.way; alike = sees.alike; is = sees.is }) (ap (λ (x : State). record x { fuel = units }) q) in
      let single : still.operates given p (op.Do n) running.pc w ≡ done_in given p w (act given i w.self v.here) go =
      ap (λ o. option_map_or (λ x. done_in given p w (spend (place (out-Instr x)) w.here.state (λ st. act given x w.self (with_state w.here st))) go) o (go w))
      (ap (λ (code : Code). slice_get code.instrs n) (sym of_sheet.code_is) ∙ is)
      ∙ ap (λ x. done_in given p w x go) (unit_spent given p (place (out-Instr i)) w.here.state units (λ st. act given i w.self (with_state w.here st)) (ap (λ (x : State). one_less x.fuel) q ∙ less)) in
      subst (λ x. GoesAs result x [] (go (left_with w (s.locals own) w.turns (still.state_of given p new left)))) (sym single)
      (goes_on_as result (done_in given p w (act given i w.self v.here) go) (go (stands_at w a)) (go (left_with w (s.locals own) w.turns (still.state_of given p new left))) []
      (goes_in given p result w (act given i w.self v.here) [] a go done)
      (on_ok_by result (s.waits own (has_locals given p r w st)) (λ e. ap (λ l. go (record (stands_at w a) { aside = l })) (own_aside given p r w st ∙ sym e)))))
      f;
}

-- An instruction that stays in its body.

pub sets_of : {A : Type 0} {p : Program} {move : Frame → Frame} {result : Result A Stop} {old new : Run} (i : Instr) (x : Instr-F Instr When) → out-Instr i ≡ x
    → Sets p x move result old new → Sets p (out-Instr i) move result old new
sets_of {A} {p} {move} {result} {old} {new} i x out s = subst (λ y. Sets p y move result old new) (sym out) s

pub local_placed : {A : Type 0} {p : Program} {move : Frame → Frame} {result : Result A Stop} {old new : Run} (name : Name) (select : Option Expr) (at there : Place) → at ≡ there
    → Sets p (local_at name select at) move result old new → Sets p (Instr-F.Local name select there) move result old new
local_placed {A} {p} {move} {result} {old} {new} name select at there same s = subst (λ a. Sets p (local_at name select a) move result old new) same s

pub assign_placed : {A : Type 0} {p : Program} {move : Frame → Frame} {result : Result A Stop} {old new : Run} (name : Name) (select : Expr) (at there : Place) → at ≡ there
    → Sets p (assign_at name select at) move result old new → Sets p (Instr-F.Assign name select there) move result old new
assign_placed {A} {p} {move} {result} {old} {new} name select at there same s = subst (λ a. Sets p (assign_at name select a) move result old new) same s

-- the same with another answer, and where it stops
pub sets_answered : {A B : Type 0} {p : Program} {x : Instr-F Instr When} {move : Frame → Frame} {done : A} {old new : Run} → Sets p x move (Ok done) old new → (answer : B)
    → Sets p x move (Ok answer) old new
sets_answered s answer = record { locals = s.locals; behind = s.behind; rest = s.rest; waits = s.waits; does = λ given of_sheet left w st sees q. s.does given of_sheet left w st sees q }

pub sets_stopped : {A B : Type 0} {p : Program} {x : Instr-F Instr When} {move : Frame → Frame} {e : Stop} {old new : Run} → Sets p x move (stopped A e) old new → Sets p x move (stopped B e) old new
sets_stopped {A} {B} {p} {x} {move} {e} {old} {new} s = record {
  locals = s.locals;
  behind = tt;
  rest = s.rest;
  waits = λ own has. tt;
  does = λ given of_sheet left w st sees q. stopped_so e _ _ _ (s.does given of_sheet left w st sees q);
} where
  stopped_so : (e : Stop) (x y z : Does) → GoesAs {A = A} (Err e) x [] y → GoesAs {A = B} (Err e) x [] z
  stopped_so (stop.Fault fault) x y z h = h
  stopped_so (stop.Spent at) x y z h = h
  stopped_so stop.Memory x y z h = h

pub no_value : {P : Type 0} (x : Instr-F Instr When) → working.puts x ≡ true → GivesValue x → P
no_value (Instr-F.Assign name select at) puts value = absurd (false≢true puts)
no_value (Instr-F.Local name select at) puts value = absurd (false≢true puts)
no_value x puts value = absurd value

module _ {S : Type 0} (output : S → Target) (told : S → S → List Said → Type 0) (nothing : (s : S) → told s s []) (p : Program) where
  -- a unit is spent, and then a text or a value is given
  pub act_steps : {A : Type 0} (result : Result A Stop) (r s new : Run) (running : Running) (n : ℕ) (i : Instr) (out out_now : S) → IsAtOp p r running (op.Do n)
      → slice_get p.code.instrs n ≡ Some i → s ≡ record r { fuel = s.fuel } → one_less r.fuel ≡ Some s.fuel
      → (GivesText (out-Instr i) → Acts output told p (out-Instr i) result s new out out_now) → (GivesText (out-Instr i) → Passes running.pc result s new)
      → (GivesValue (out-Instr i) → Sets p (out-Instr i) (with_pc (running.pc + 1)) result s new) → (GivesValue (out-Instr i) → out_now ≡ out)
      → GivesText (out-Instr i) ⊎ GivesValue (out-Instr i) → Steps output told p result r new out out_now
  act_steps result r s new running n i out out_now at is rest less acts_so passes sets same (inl gives) =
      text_steps output told p result r s new running n i out out_now at is rest less acts_so passes gives
  act_steps result r s new running n i out out_now at is rest less acts_so passes sets same (inr gives) =
      subst (λ x. Steps output told p result r new out x) (sym (same gives))
      (carried output told nothing p result r new out
      (sets_carry p result r new running n s.fuel i at is less (subst (λ x. Sets p (out-Instr i) (with_pc (running.pc + 1)) result x new) rest (sets gives))))
