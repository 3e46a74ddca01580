-- Loops over items begin, take their turns and end.
use Rattle.std.proofs.Common.{◌≡◌, ◌≢◌, ℕ, zero, suc, ◌+◌, ◌-◌, ◌≤◌, List, [], ◌∷◌, ◌++◌, length, take, false, Option, Some, None, Result, Ok, Err, reverse, inr, refl, ap, sym, subst, ◌∙◌, arith, length-append}
use Rattle.std.specs.Prelude.{slice_get}
use Rattle.std.specs.Option.{option_and_then, option_map, option_map_or}
use Rattle.stx_base.specs.Course.{Halt, and_then}
use Rattle.stx_base.specs.declared.fault.Place.{Place}
use Rattle.stx_base.specs.declared.name.Name.{Name}
use Rattle.frame_stack.specs.Change.{locals_of, with_locals, with_pc}
use Rattle.frame_stack.specs.declared.frame.Frame.{Frame}
use Rattle.frame_stack.specs.declared.frame.Frame.TheVariants.{Body, Call, Loop}
use Rattle.frame_stack.specs.declared.locals.Local.{Local}
use Rattle.instr_code.specs.Code.{code_of}
use Rattle.instr_code.specs.Running.{as_flat, go_on, start_of}
use Rattle.instr_code.specs.Steps.{Holds, decided, renamed}
use Rattle.instr_code.specs.declared.code.Code.{Code}
use Rattle.instr_code.specs.declared.code.Op.{Op}
use Rattle.instr_code.specs.declared.code.Op.TheVariants as op
use Rattle.sheet_model.specs.declared.instr.Instr.{Instr}
use Rattle.sheet_model.specs.declared.instr.Instr.TheOpen.{Instr-F}
use Rattle.sheet_model.specs.declared.instr.Instr.TheViews.{out-Instr}
use Rattle.stxpath_syntax.specs.declared.expr.Expr.{Expr}
use Rattle.stxpath_values.specs.declared.value.Atom.{Atom}
use Rattle.var_store.specs.Variables.{bound}
use Rattle.template_machine.specs.Acting.{with_local}
use Rattle.template_machine.specs.Bodies.{frame_in, on_body, pc_of}
use Rattle.template_machine.specs.Called.{DeclaresNames, HasName}
use Rattle.template_machine.specs.Contexts.{Context, HasForm, Items, Kind, Walks, form}
use Rattle.template_machine.specs.Ending.{Faulted, Spent}
use Rattle.template_machine.specs.Job.{Given, Here, Self, State, with_state}
use Rattle.template_machine.specs.Lists.{rest_of}
use Rattle.template_machine.specs.Moments.{IsAtOp}
use Rattle.template_machine.specs.Saying.{Carries, Gave, GoesAs, SeesAs, sight}
use Rattle.template_machine.specs.Seen.{named_of}
use Rattle.template_machine.specs.Shifting.{BindsItem, HasItems, LosesWalk, OpensWalk, StandsAt, with_more}
use Rattle.template_machine.specs.Standing.{standing_of}
use Rattle.template_machine.specs.Steps.{one_less}
use Rattle.template_machine.specs.Still as still
use Rattle.template_machine.specs.Still.{aside_of, below_loops}
use Rattle.template_machine.specs.Stepwise.{Flat_does, Outcome, Working, begins_by, last_aside, stands_at, steps_of, turn_by, turn_now, turn_over, walks}
use Rattle.template_machine.specs.Values.{atoms_of, setting}
use Rattle.template_machine.specs.Well.{AreOf}
use Rattle.template_machine.specs.declared.program.Program.{Program}
use Rattle.template_machine.specs.declared.run.Run.{Run}
use Rattle.template_machine.specs.declared.run.Running.{Running}
use Rattle.template_machine.specs.declared.stop.Stop.{Stop}
use Rattle.template_machine.specs.declared.stop.Stop.TheVariants as stop
use Rattle.template_machine.proofs.Aside.{LastItems, aside_kept, aside_pushed, last_items, named_kept, named_pushed}
use Rattle.template_machine.proofs.Deciding.{all_rest, fuel_alone, none_left, state_behind, stopped, unit_spent}
use Rattle.template_machine.proofs.Moving.{goes_at}
use Rattle.template_machine.proofs.Operating.{some_context}
use Rattle.template_machine.proofs.Proceeding.{below, moves_on}
use Rattle.template_machine.proofs.Rounding.{begun_so}
use Rattle.template_machine.proofs.Shifting.{kinds_at, leaves, left_so, own_aside, own_frame, own_locals, own_turns}
use Rattle.template_machine.proofs.Sighted.{texts_see_nodes}
use Rattle.template_machine.proofs.Walking.{turns_at}

pub atoms_seen : (given : Given) (p : Program) (r : Run) (self : Self) (a : Here) (e : Expr) → SeesAs given p r self a
    → atoms_of e (setting given self a) ≡ atoms_of e (sight p r)
atoms_seen given p r self a e sees = ap (atoms_of e) sees.is ∙ sym (texts_see_nodes.kept e (sight p r) sees.way sees.alike)

-- The loops of a body.

one_more_loop : (change : Frame → Frame) (r : Run) (n pc : ℕ) (fs_now : List Frame) → fs_now ≡ Loop n ∷ on_body change (reverse r.frames.frames)
    → (turns : List ℕ) (b : Frame) (fs : List Frame) → reverse r.frames.frames ≡ below_loops turns (b ∷ fs) → pc_of b ≡ Some pc → fs_now ≡ below_loops (n ∷ turns) (change b ∷ fs)
one_more_loop change r n pc fs_now is turns b fs before at =
    is ∙ ap (λ l. Loop n ∷ on_body change l) before ∙ ap (λ l. Loop n ∷ l) (below change turns b fs pc at)

-- the innermost one
top_turn : (n : ℕ) (gs : List Frame) (turns : List ℕ) (b : Frame) (fs : List Frame) (pc : ℕ) → Loop n ∷ gs ≡ below_loops turns (b ∷ fs) → pc_of b ≡ Some pc
    → (turn_now turns ≡ n) × (gs ≡ below_loops (rest_of turns) (b ∷ fs))
top_turn n gs [] (Body template alternative q locals level spent) fs pc is at = absurd (cc)
top_turn n gs [] (Call procedure q locals level) fs pc is at = absurd (cc)
top_turn n gs [] b fs pc is at = absurd (cc)
top_turn n gs (t ∷ turns) b fs pc is at = (cc, cc)

loop_changed : (change : Frame → Frame) (n m pc : ℕ) (gs fs_now : List Frame) → fs_now ≡ Loop m ∷ on_body change gs
    → (turns : List ℕ) (b : Frame) (fs : List Frame) → Loop n ∷ gs ≡ below_loops turns (b ∷ fs) → pc_of b ≡ Some pc → fs_now ≡ below_loops (m ∷ rest_of turns) (change b ∷ fs)
loop_changed change n m pc gs fs_now is turns b fs before at =
    is ∙ ap (λ l. Loop m ∷ on_body change l) (top_turn n gs turns b fs pc before at).1 ∙ ap (λ l. Loop m ∷ l) (below change (rest_of turns) b fs pc at)

loop_lost : (change : Frame → Frame) (n pc : ℕ) (gs fs_now : List Frame) → fs_now ≡ on_body change gs
    → (turns : List ℕ) (b : Frame) (fs : List Frame) → Loop n ∷ gs ≡ below_loops turns (b ∷ fs) → pc_of b ≡ Some pc → fs_now ≡ below_loops (rest_of turns) (change b ∷ fs)
loop_lost change n pc gs fs_now is turns b fs before at =
    is ∙ ap (on_body change) (top_turn n gs turns b fs pc before at).1 ∙ below change (rest_of turns) b fs pc at

either_way : (h : List Local → List Local) (to : ℕ) (b : Frame) → with_pc to (with_locals h b) ≡ with_locals h (with_pc to b)
either_way h to (Body template alternative q locals level spent) = refl
either_way h to (Call procedure q locals level) = refl
either_way h to b = refl

-- A loop begins.

pub walk_opens : {A : Type 0} (p : Program) (r new : Run) (running : Running) (n units : ℕ) (i : Instr) (name : Name) (select : Expr) (body : List Instr) (at_place : Place) (items : List Atom) (done : A)
    → IsAtOp p r running (op.Begin n) → slice_get p.code.instrs n ≡ Some i → out-Instr i ≡ Instr-F.ForEachItem name select body at_place → one_less r.fuel ≡ Some units
    → atoms_of select (sight p r) ≡ Ok items → OpensWalk items (running.pc + 1) r new → new ≡ record r { frames = new.frames; fuel = units } → Carries p (Ok done) r new
walk_opens p r new running n units i name select body at_place items done at is out less gave o rest = record {
  does = λ given of_sheet left f.
      let x : Local = o.waiting in
      let to = running.pc + 1 in
      let more : List Local → List Local = λ ls. ls ++ x ∷ [] in
      leaves given p (λ l. 0 ∷ l) more (Ok done) r new running (op.Begin n) to left left [] at of_sheet
      (one_more_loop (with_more x to) r 0 running.pc (reverse new.frames.frames) o.behind) (all_rest r new units rest)
      (λ w st sees q.
      let v : Working = stands_at w (with_state w.here (record w.here.state { fuel = units })) in
      let own : List Local = locals_of st.body in
      begun_so given p n running.pc units i w (ap (λ (code : Code). slice_get code.instrs n) (sym of_sheet.code_is) ∙ is) (ap (λ (s : State). one_less s.fuel) q ∙ less)
      ∙ ap (λ y. and_then (renamed (as_flat (steps_of given) (start_of (steps_of given) given.sheet)) (begins_by given y v)) (go_on (steps_of given) to)) out
      ∙ ap (λ g. and_then (renamed (as_flat (steps_of given) (start_of (steps_of given) given.sheet)) (walks at_place g v)) (go_on (steps_of given) to))
      (atoms_seen given p r w.self w.here select sees ∙ gave)
      ∙ left_so given to w (more own) w.here.locals (items ∷ w.aside) (0 ∷ w.turns) (0 ∷ w.turns) (record w.here.state { fuel = units }) (still.state_of given p new left)
      (own_locals given p r w st ∙ sym (named_kept own x o.nameless))
      (ap (λ v. v ∷ w.aside) (sym o.value) ∙ ap (λ l. x.value ∷ l) (own_aside given p r w st) ∙ sym (aside_pushed own x o.nameless))
      refl (state_behind given p r new units left w.here.state rest q))
      f;
}

-- and stops where the items can't be made
unwalked : (A : Type 0) (given : Given) (p : Program) (e : Stop) (at : Place) (select : Expr) (v : Working) (r : Run) (k : Working → Flat_does) (y : Flat_does) → SeesAs given p r v.self v.here
    → Gave {A = List Atom} at (Err e) (atoms_of select (sight p r))
    → GoesAs {A = A} (Err e) (and_then (renamed (as_flat (steps_of given) (start_of (steps_of given) given.sheet)) (walks at (atoms_of select (setting given v.self v.here)) v)) k) [] y
unwalked A given p (stop.Fault fault) at select v r k y sees gave =
    ap (λ g. and_then (renamed (as_flat (steps_of given) (start_of (steps_of given) given.sheet)) (walks at g v)) k) (atoms_seen given p r v.self v.here select sees ∙ gave.1.0)
    ∙ ap (λ x. Halt (Faulted x)) (sym gave.1.1)
unwalked A given p (stop.Spent where_now) at select v r k y sees gave = absurd gave
unwalked A given p stop.Memory at select v r k y sees gave =
    (and_then (renamed (as_flat (steps_of given) (start_of (steps_of given) given.sheet)) (walks at (atoms_of select (setting given v.self v.here)) v)) k, refl)

pub walk_stops : {A : Type 0} (p : Program) (r new : Run) (running : Running) (n units : ℕ) (i : Instr) (name : Name) (select : Expr) (body : List Instr) (at_place : Place) (e : Stop)
    → IsAtOp p r running (op.Begin n) → slice_get p.code.instrs n ≡ Some i → out-Instr i ≡ Instr-F.ForEachItem name select body at_place → one_less r.fuel ≡ Some units
    → Gave {A = List Atom} at_place (Err e) (atoms_of select (sight p r)) → new ≡ record r { frames = new.frames; fuel = units } → Carries {A = A} p (Err e) r new
walk_stops {A} p r new running n units i name select body at_place e at is out less gave rest = record {
  does = λ given of_sheet left f.
      let to = running.pc + 1 in
      moves_on given p (stopped A e) r new running (op.Begin n) to left left [] at of_sheet tt (all_rest r new units rest)
      (λ w sees q.
      let v : Working = stands_at w (with_state w.here (record w.here.state { fuel = units })) in
      let is_so =
      begun_so given p n running.pc units i w (ap (λ (code : Code). slice_get code.instrs n) (sym of_sheet.code_is) ∙ is) (ap (λ (s : State). one_less s.fuel) q ∙ less)
      ∙ ap (λ y. and_then (renamed (as_flat (steps_of given) (start_of (steps_of given) given.sheet)) (begins_by given y v)) (go_on (steps_of given) to)) out in
      subst (λ y. GoesAs {A = A} (Err e) y [] (go_on (steps_of given) to (stands_at w (with_state w.here (still.state_of given p new left))))) (sym is_so)
      (unwalked A given p e at_place select v r (go_on (steps_of given) to) _ (record { way = sees.way; alike = sees.alike; is = sees.is }) gave))
      f;
}

-- Turns.

turn_is : (given : Given) (p : Program) (n to pc : ℕ) (i : Instr) (w : Working) → slice_get (code_of given.sheet).instrs n ≡ Some i
    → still.operates given p (op.Turn n to) pc w ≡ decided (turn_by (out-Instr i) w) (go_on (steps_of given) (pc + 1)) (go_on (steps_of given) to)
turn_is given p n to pc i w is =
    ap (λ o. option_map_or (λ x. decided (turn_by (out-Instr x) w) (go_on (steps_of given) (pc + 1)) (go_on (steps_of given) to)) o (go_on (steps_of given) (pc + 1) w)) is

-- the items are the last local that waits
items_are : (given : Given) (p : Program) (r : Run) (running : Running) (n to turn : ℕ) (name : Name) (items : List Atom) (w : Working) → (at : IsAtOp p r running (op.Turn n to)) → HasForm p.code n (Walks name)
    → (st : StandsAt given p r w) → HasItems r turn items → (ks : List Kind) × ((l : LastItems (locals_of st.body) ks) × ((l.last.value ≡ items) × (length (locals_of st.body) ≡ length ks + 1)))
items_are given p r running n to turn name items w at has st h =
    let x = some_context p r running (op.Turn n to) at in
    let c : Context = x.0 in
    let a = turns_at p at.well.stations c running.pc n to name at.well.stand at.is has (goes_at p at.well.stations 0 false (reverse r.frames.frames) c (standing_of r) running.pc at.pc x.1) in
    let ks : List Kind = a.0.locals in
    let own : List Local = locals_of st.body in
    let kinds : c.locals ≡ ks ++ Items ∷ [] = ap (λ (y : Context). y.locals) a.1.0 in
    let are : AreOf own (ks ++ Items ∷ []) = subst (AreOf own) kinds (kinds_at given p r running (op.Turn n to) w at st c x.1) in
    let l : LastItems own ks = last_items own ks are in
    let same : h.body ≡ st.body = one_alone (sym h.there ∙ own_frame given p r w st) in
    let whole : own ≡ h.before ++ h.waiting ∷ [] = sym (ap locals_of same) ∙ h.locals in
    let long : length own ≡ length ks + 1 = l.long in
    let before : length h.before ≡ length ks = omega (arith, ap length whole, length-append h.before (h.waiting ∷ []), long) in
    let last : l.last ≡ h.waiting = one_alone (sym l.there ∙ ap (λ m. slice_get m (length ks)) whole ∙ at_end h.before h.waiting (length ks) before) in
    (ks, (l, (ap (λ (y : Local). y.value) last ∙ h.value, long)))
  where
    one_alone : {A : Type 0} {x y : A} → Some x ≡ Some y → x ≡ y
    one_alone e = cc

    at_end : (xs : List Local) (x : Local) (n : ℕ) → length xs ≡ n → slice_get (xs ++ x ∷ []) n ≡ Some x
    at_end [] x zero e = refl
    at_end [] x (suc n) e = absurd (omega (arith, e))
    at_end (y ∷ xs) x zero e = absurd (omega (arith, e))
    at_end (y ∷ xs) x (suc n) e = at_end xs x n (omega (arith, e))

has_walk : (p : Program) (n : ℕ) (i : Instr) (name : Name) (select : Expr) (body : List Instr) (at_place : Place) → slice_get p.code.instrs n ≡ Some i
    → out-Instr i ≡ Instr-F.ForEachItem name select body at_place → HasForm p.code n (Walks name)
has_walk p n i name select body at_place is out = ap (option_map (λ (j : Instr). form (out-Instr j))) is ∙ ap (λ x. Some (form x)) out

-- its body is at the operation
pc_there : (given : Given) (p : Program) (r : Run) (running : Running) (o : Op) (w : Working) → IsAtOp p r running o → (st : StandsAt given p r w) → pc_of st.body ≡ Some running.pc
pc_there given p r running o w at st = sym (ap (option_and_then pc_of) (own_frame given p r w st)) ∙ at.pc

-- the innermost loop's turn
turn_there : (given : Given) (p : Program) (r : Run) (running : Running) (o : Op) (turn : ℕ) (others : List Frame) (w : Working) → IsAtOp p r running o → (st : StandsAt given p r w)
    → reverse r.frames.frames ≡ Loop turn ∷ others → turn_now w.turns ≡ turn
turn_there given p r running o turn others w at st top =
    ap turn_now (own_turns given p r w st)
    ∙ (top_turn turn others st.turns st.body st.below running.pc (sym top ∙ st.frames) (pc_there given p r running o w at st)).0

-- which item is next
next_item : (given : Given) (p : Program) (r : Run) (running : Running) (n to turn : ℕ) (name : Name) (items : List Atom) (w : Working) → (at : IsAtOp p r running (op.Turn n to)) → HasForm p.code n (Walks name)
    → (st : StandsAt given p r w) → HasItems r turn items → slice_get (last_aside w.aside) (turn_now w.turns) ≡ slice_get items turn
next_item given p r running n to turn name items w at has st h =
    let l = items_are given p r running n to turn name items w at has st h in
    let aside : last_aside w.aside ≡ items = ap last_aside (own_aside given p r w st ∙ l.1.0.aside) ∙ l.1.1.0 in
    ap (λ x. slice_get x (turn_now w.turns)) aside ∙ ap (slice_get items) (turn_there given p r running (op.Turn n to) turn h.others w at st h.top)

turn_so : (given : Given) (p : Program) (r : Run) (running : Running) (n to turn : ℕ) (i : Instr) (name : Name) (select : Expr) (body : List Instr) (at_place : Place) (items : List Atom) (w : Working)
    → slice_get (code_of given.sheet).instrs n ≡ Some i → slice_get p.code.instrs n ≡ Some i → out-Instr i ≡ Instr-F.ForEachItem name select body at_place
    → (at : IsAtOp p r running (op.Turn n to)) → (st : StandsAt given p r w) → HasItems r turn items
    → still.operates given p (op.Turn n to) running.pc w ≡ decided (turn_over at_place name (slice_get items turn) w) (go_on (steps_of given) (running.pc + 1)) (go_on (steps_of given) to)
turn_so given p r running n to turn i name select body at_place items w is is_too out at st h =
    turn_is given p n to running.pc i w is
    ∙ ap (λ x. decided (turn_by x w) (go_on (steps_of given) (running.pc + 1)) (go_on (steps_of given) to)) out
    ∙ ap (λ x. decided (turn_over at_place name x w) (go_on (steps_of given) (running.pc + 1)) (go_on (steps_of given) to))
    (next_item given p r running n to turn name items w at (has_walk p n i name select body at_place is_too out) st h)

-- The next item is bound, for a unit.
pub item_carries : {A : Type 0} (p : Program) (r new : Run) (running : Running) (n to turn bound_now units : ℕ) (i : Instr) (name : Name) (select : Expr) (body : List Instr) (at_place : Place) (items : List Atom) (x : Atom) (done : A)
    → DeclaresNames p → IsAtOp p r running (op.Turn n to) → slice_get p.code.instrs n ≡ Some i → out-Instr i ≡ Instr-F.ForEachItem name select body at_place
    → HasItems r turn items → slice_get items turn ≡ Some x → bound_now ≡ turn + 1 → one_less r.fuel ≡ Some units
    → BindsItem bound_now name (x ∷ []) (running.pc + 1) r new → new ≡ record r { frames = new.frames; fuel = units } → Carries p (Ok done) r new
item_carries p r new running n to turn bound_now units i name select body at_place items x done names at is out h next counted less b rest = record {
  does = λ given of_sheet left f.
      let y : Local = record { name = name; value = x ∷ [] } in
      let go = running.pc + 1 in
      let more : List Local → List Local = λ ls. ls ++ y ∷ [] in
      let some : HasName name = names.variables name (n, inr (has_walk p n i name select body at_place is out)) in
      leaves given p (λ l. bound_now ∷ rest_of l) more (Ok done) r new running (op.Turn n to) go left left [] at of_sheet
      (λ turns g fs before at_pc.
      loop_changed (with_more y go) b.before bound_now running.pc b.others (reverse new.frames.frames) b.behind turns g fs (sym b.top ∙ before) at_pc) (all_rest r new units rest)
      (λ w st sees q.
      let own : List Local = locals_of st.body in
      let now : Here = with_state w.here (record w.here.state { fuel = units }) in
      turn_so given p r running n to turn i name select body at_place items w (ap (λ (code : Code). slice_get code.instrs n) (sym of_sheet.code_is) ∙ is) is out at st h
      ∙ ap (λ o. decided (turn_over at_place name o w) (go_on (steps_of given) go) (go_on (steps_of given) to)) next
      ∙ ap (λ o. decided o (go_on (steps_of given) go) (go_on (steps_of given) to))
      (unit_spent at_place w.here units (λ a. Holds [] (record w { here = with_local name (x ∷ []) a; turns = suc (turn_now w.turns) ∷ rest_of w.turns })) (ap (λ (s : State). one_less s.fuel) q ∙ less))
      ∙ left_so given go w (more own) (w.here.locals ++ bound name (x ∷ []) ∷ []) w.aside (suc (turn_now w.turns) ∷ rest_of w.turns) (bound_now ∷ rest_of w.turns) (record w.here.state { fuel = units }) (still.state_of given p new left)
      (ap (λ l. l ++ bound name (x ∷ []) ∷ []) (own_locals given p r w st) ∙ sym (named_pushed own y some))
      (own_aside given p r w st ∙ sym (aside_kept own y some))
      (ap (λ k. k ∷ rest_of w.turns) (omega (arith, turn_there given p r running (op.Turn n to) turn h.others w at st h.top, counted)))
      (state_behind given p r new units left w.here.state rest q))
      f;
}

-- The loop is over where none is left.
pub walk_carries : {A : Type 0} (p : Program) (r new : Run) (running : Running) (n to turn : ℕ) (i : Instr) (name : Name) (select : Expr) (body : List Instr) (at_place : Place) (items : List Atom) (done : A)
    → IsAtOp p r running (op.Turn n to) → slice_get p.code.instrs n ≡ Some i → out-Instr i ≡ Instr-F.ForEachItem name select body at_place
    → HasItems r turn items → slice_get items turn ≡ None → LosesWalk to r new → new ≡ record r { frames = new.frames } → Carries p (Ok done) r new
walk_carries p r new running n to turn i name select body at_place items done at is out h none l rest = record {
  does = λ given of_sheet left f.
      let has : HasForm p.code n (Walks name) = has_walk p n i name select body at_place is out in
      leaves given p rest_of (take l.left) (Ok done) r new running (op.Turn n to) to left left [] at of_sheet
      (λ turns g fs before at_pc.
      loop_lost (λ f. with_pc to (with_locals (take l.left) f)) l.turn running.pc l.others (reverse new.frames.frames) l.behind turns g fs (sym l.top ∙ before) at_pc
      ∙ ap (λ k. below_loops (rest_of turns) (k ∷ fs)) (either_way (take l.left) to g)) (all_rest r new r.fuel rest)
      (λ w st sees q.
      let own : List Local = locals_of st.body in
      let x = items_are given p r running n to turn name items w at has st h in
      let ks : List Kind = x.0 in
      let same : length ks ≡ l.left = omega (arith, x.1.1.1, l.long st.body (own_frame given p r w st)) in
      turn_so given p r running n to turn i name select body at_place items w (ap (λ (code : Code). slice_get code.instrs n) (sym of_sheet.code_is) ∙ is) is out at st h
      ∙ ap (λ o. decided (turn_over at_place name o w) (go_on (steps_of given) (running.pc + 1)) (go_on (steps_of given) to)) none
      ∙ left_so given to w (take l.left own) w.here.locals (rest_of w.aside) (rest_of w.turns) (rest_of w.turns) w.here.state (still.state_of given p new left)
      (own_locals given p r w st ∙ sym x.1.0.named ∙ ap (λ k. named_of (take k own)) same)
      (ap rest_of (own_aside given p r w st ∙ x.1.0.aside) ∙ ap (λ k. aside_of (take k own)) same)
      refl (q ∙ sym (ap (λ m. still.state_of given p m left) rest)))
      f;
}

-- It stops where no unit is left.
pub turn_spent : {A : Type 0} (p : Program) (r new : Run) (running : Running) (n to turn : ℕ) (i : Instr) (name : Name) (select : Expr) (body : List Instr) (at_place : Place) (items : List Atom) (x : Atom)
    → IsAtOp p r running (op.Turn n to) → slice_get p.code.instrs n ≡ Some i → out-Instr i ≡ Instr-F.ForEachItem name select body at_place
    → HasItems r turn items → slice_get items turn ≡ Some x → r.fuel ≡ 0 → new ≡ record r { fuel = new.fuel } → Carries {A = A} p (Err (stop.Spent at_place)) r new
turn_spent {A} p r new running n to turn i name select body at_place items x at is out h next none rest = record {
  does = λ given of_sheet left f.
      leaves given p (λ l. l) (λ l. l) (stopped A (stop.Spent at_place)) r new running (op.Turn n to) to left left [] at of_sheet
      (λ turns g fs before at_pc. tt) (all_rest r new new.fuel (fuel_alone r new rest))
      (λ w st sees q.
      turn_so given p r running n to turn i name select body at_place items w (ap (λ (code : Code). slice_get code.instrs n) (sym of_sheet.code_is) ∙ is) is out at st h
      ∙ ap (λ o. decided (turn_over at_place name o w) (go_on (steps_of given) (running.pc + 1)) (go_on (steps_of given) to)) next
      ∙ ap (λ o. decided o (go_on (steps_of given) (running.pc + 1)) (go_on (steps_of given) to))
      (none_left at_place w.here (λ a. Holds [] (record w { here = with_local name (x ∷ []) a; turns = suc (turn_now w.turns) ∷ rest_of w.turns })) (ap (λ (s : State). s.fuel) q ∙ none)))
      f;
}
