-- Literal elements and copies begin.
use Rattle.std.proofs.Common.{◌≡◌, ℕ, ◌+◌, Bool, true, false, if◌then◌else◌, List, [], ◌∷◌, Option, Some, Result, Ok, Err, map, reverse, refl, ap, sym, subst, ◌∙◌}
use Rattle.std.specs.Prelude.{OnOk, slice_get}
use Rattle.stx_base.specs.Course.{Halt, Ret}
use Rattle.stx_base.specs.declared.fault.Place.{Place}
use Rattle.stx_base.specs.declared.name.Attr.{Attr}
use Rattle.stx_base.specs.declared.name.Binding.{Binding}
use Rattle.stx_base.specs.declared.name.Name.{Name}
use Rattle.stx_base.specs.declared.part.Part.{Part}
use Rattle.stx_base.specs.declared.part.Part.TheVariants as part
use Rattle.frame_stack.specs.Change.{with_pc}
use Rattle.instr_code.specs.Code.{code_of}
use Rattle.instr_code.specs.Running.{go_on}
use Rattle.instr_code.specs.Steps.{Holds, decided}
use Rattle.instr_code.specs.declared.code.Code.{Code}
use Rattle.instr_code.specs.declared.code.Op.{Op}
use Rattle.instr_code.specs.declared.code.Op.TheVariants as op
use Rattle.node_stack.specs.Path as paths
use Rattle.node_stack.specs.Path.{Node, PathNode, Element, current}
use Rattle.node_stack.specs.Stack.{path}
use Rattle.result_writer.specs.Target.{Left, Target}
use Rattle.sheet_model.specs.Parts.{place}
use Rattle.sheet_model.specs.declared.instr.Instr.{Instr}
use Rattle.sheet_model.specs.declared.instr.Instr.TheOpen.{Instr-F}
use Rattle.sheet_model.specs.declared.instr.Instr.TheVariants as instr
use Rattle.sheet_model.specs.declared.instr.Instr.TheViews.{out-Instr, rolls-Copy, rolls-Literal}
use Rattle.sheet_model.specs.declared.instr.LiteralAttr.{LiteralAttr}
use Rattle.stxpath_eval.specs.Setting.{Setting}
use Rattle.stxpath_syntax.specs.declared.expr.Pattern.{Pattern}
use Rattle.stxpath_values.specs.Outcome.{and_then, each}
use Rattle.stxpath_values.specs.declared.fault.EvalFault.{EvalFault}
use Rattle.template_machine.specs.Acting.{attribute_of, has_list, put_parts}
use Rattle.template_machine.specs.Bodies.{on_body}
use Rattle.template_machine.specs.Ending.{Faulted, Said}
use Rattle.template_machine.specs.Finding.{passing}
use Rattle.template_machine.specs.Job.{Does, Given, Here, Self, State, with_state}
use Rattle.template_machine.specs.Moments.{IsAtOp}
use Rattle.template_machine.specs.Opening.{Opens, literal_at}
use Rattle.template_machine.specs.Putting.{attribute_part}
use Rattle.template_machine.specs.Saying.{Gave, GoesAs, Puts, SeesAs, Steps, sight}
use Rattle.template_machine.specs.Scopes.{Scopes, in_force}
use Rattle.template_machine.specs.Shifting.{StandsAt}
use Rattle.template_machine.specs.Sources.{scopes_on, within_node}
use Rattle.template_machine.specs.Starts.{copy_start, start_in}
use Rattle.template_machine.specs.Steps.{one_less}
use Rattle.template_machine.specs.Still as still
use Rattle.template_machine.specs.Stepwise.{Flat_does, Outcome, Working, copy_opens, decides, opens_by, outcome_of, stands_at, steps_of, valued}
use Rattle.template_machine.specs.Trail as trail
use Rattle.template_machine.specs.Values.{setting}
use Rattle.template_machine.specs.Ways.{stood}
use Rattle.template_machine.specs.declared.program.Program.{Program}
use Rattle.template_machine.specs.declared.putting.Putting.{Putting}
use Rattle.template_machine.specs.declared.run.Run.{Run}
use Rattle.template_machine.specs.declared.run.Running.{Running}
use Rattle.template_machine.specs.declared.stop.Stop.{Stop}
use Rattle.template_machine.specs.declared.stop.Stop.TheVariants as stop
use Rattle.template_machine.proofs.Closes.{node_there, nodes_there, puts_go, putting_alone, reverse_map, stays_on}
use Rattle.template_machine.proofs.Copied.{puts_copied}
use Rattle.template_machine.proofs.Deciding.{unit_spent}
use Rattle.template_machine.proofs.Opened.{only_those, opens_is, verdict_goes}
use Rattle.template_machine.proofs.Saying.{template_seen}
use Rattle.template_machine.proofs.Spelled.{out_is}

-- The attributes of a literal element.

-- with the text of its value
abbrev pub with_text : LiteralAttr → List ℕ → Result Attr EvalFault
with_text x text = Ok (record { name = x.name; value = text })

attrs_seen : (given : Given) (p : Program) (r : Run) (self : Self) (a : Here) (attrs : List LiteralAttr) → SeesAs given p r self a
    → each (attribute_of (setting given self a)) attrs ≡ each (attribute_of (sight p r)) attrs
attrs_seen given p r self a [] sees = refl
attrs_seen given p r self a (x ∷ attrs) sees =
    let there = each (attribute_of (setting given self a)) attrs in
    ap (λ t. and_then (and_then t (with_text x)) (λ y. and_then there (λ ys. Ok (y ∷ ys)))) (template_seen given p r self a x.value sees)
    ∙ ap (λ s. and_then (attribute_of (sight p r) x) (λ y. and_then s (λ ys. Ok (y ∷ ys)))) (attrs_seen given p r self a attrs sees)

pub gave_then : {A B : Type 0} (at : Place) (e : Stop) (v : Result A EvalFault) (k : A → Result B EvalFault) → Gave {A = A} at (Err e) v → Gave {A = B} at (Err e) (and_then v k)
gave_then at (stop.Fault fault) v k gave = (gave.0, (ap (λ r. and_then r k) gave.1.0, gave.1.1))
gave_then at (stop.Spent where_now) v k gave = absurd gave
gave_then at stop.Memory v k gave = tt

valued_stops : {A : Type 0} (B : Type 0) (e : Stop) (at : Place) (v : Result A EvalFault) (go : A → Outcome) (held failed : Working → Flat_does) (y : Flat_does) → Gave at (Err e) v
    → GoesAs {A = B} (Err e) (decided (valued at v go) held failed) [] y
valued_stops B (stop.Fault fault) at v go held failed y gave = ap (λ x. decided (valued at x go) held failed) gave.1.0 ∙ ap (λ x. Halt (Faulted x)) (sym gave.1.1)
valued_stops B (stop.Spent where_now) at v go held failed y gave = absurd gave
valued_stops B stop.Memory at v go held failed y gave = (decided (valued at v go) held failed, refl)

module _ {S : Type 0} (output : S → Target) (told : S → S → List Said → Type 0) (p : Program) where
  -- a literal element stops before it has put anything
  pub literal_stops : (A : Type 0) → ((s : S) → told s s []) → (name : Name) (attrs : List LiteralAttr) (body : List Instr) (at : Place) (e : Stop) (old mid : Run) (out : S)
      → Gave {A = List Attr} at (Err e) (each (attribute_of (sight p old)) attrs) → Opens {A = A} output told p (literal_at name attrs body at) (λ w. Holds [] w) (Err e) old mid out out
  literal_stops A nothing name attrs body at e old mid out gave = record {
    said = [];
    tells = nothing out;
    does = λ given limit w a sees here held failed.
        valued_stops A e at (each (attribute_of (setting given w.self a)) attrs) (λ as_. outcome_of (put_parts given at (part.Start name [] ∷ map attribute_part as_) a) (λ b. Holds [] (stands_at w b)))
        held failed (decided (Holds [] (stands_at w (with_state a (still.state_of given p mid (output out).left)))) held failed)
        (subst (Gave {A = List Attr} at (Err e)) (sym (attrs_seen given p old w.self a attrs sees)) gave);
  }

  -- or begins
  pub literal_begins : {A : Type 0} (name : Name) (attrs : List LiteralAttr) (body : List Instr) (at : Place) (as_ : List Attr) (r : Result A Stop) (old : Run) (now : Putting) (out out_now : S)
      → each (attribute_of (sight p old)) attrs ≡ Ok as_ → Puts output told at (part.Start name [] ∷ map attribute_part as_) r old.putting now out out_now
      → Opens output told p (literal_at name attrs body at) (λ w. Holds [] w) r old (record old { putting = now }) out out_now
  literal_begins name attrs body at as_ r old now out out_now gave q = record {
    said = q.said;
    tells = q.tells;
    does = λ given limit w a sees here held failed.
        let parts : List Part = part.Start name [] ∷ map attribute_part as_ in
        let new : Run = record old { putting = now } in
        let b : Here = with_state a (still.state_of given p new (output out_now).left) in
        let go : Here → Outcome = λ b. Holds [] (stands_at w b) in
        subst (λ v. GoesAs r (decided (valued at v (λ as_. outcome_of (put_parts given at (part.Start name [] ∷ map attribute_part as_) a) go)) held failed) q.said (decided (go b) held failed))
        (sym (attrs_seen given p old w.self a attrs sees ∙ gave))
        (verdict_goes r (put_parts given at parts a) q.said b go held failed (puts_go output told p given at parts r old new out out_now a limit refl q here));
  }

  -- behind copies of its attributes
  pub literal_goes : {A : Type 0} (name : Name) (attrs : List LiteralAttr) (body : List Instr) (at : Place) (as_ : List Attr) (r : Result A Stop) (old mid new : Run) (out out_now : S)
      → each (attribute_of (sight p old)) attrs ≡ Ok as_ → mid ≡ record old { putting = record old.putting { spare = mid.putting.spare } } → new ≡ record mid { putting = new.putting }
      → Puts output told at (part.Start name [] ∷ map attribute_part as_) r mid.putting new.putting out out_now
      → Opens output told p (literal_at name attrs body at) (λ w. Holds [] w) r old new out out_now
  literal_goes name attrs body at as_ r old mid new out out_now gave copies puts_only q =
      subst (λ n. Opens output told p (literal_at name attrs body at) (λ w. Holds [] w) r old n out out_now) (sym (puts_only ∙ ap (λ (m : Run). record m { putting = new.putting }) copies))
      (literal_begins name attrs body at as_ r old new.putting out out_now gave
      (puts_copied output told at (part.Start name [] ∷ map attribute_part as_) r old.putting mid.putting new.putting out out_now (ap (λ (m : Run). m.putting) copies) q))

  -- by the instruction that is found
  pub literal_for : {A : Type 0} (i : Instr) (name : Name) (attrs : List LiteralAttr) (body : List Instr) (at where_now : Place) (result : Result A Stop) (r s mid : Run) (out out_now : S)
      → i ≡ instr.Literal name attrs body at → where_now ≡ place (out-Instr i) → s ≡ r
      → Opens output told p (literal_at name attrs body where_now) (λ w. Holds [] w) result s mid out out_now → Opens output told p (out-Instr i) (λ w. Holds [] w) result r mid out out_now
  literal_for i name attrs body at where_now result r s mid out out_now is here before q =
      let same : out-Instr i ≡ Instr-F.Literal name attrs body at = out_is i _ (Instr-F.Literal name attrs body at) (rolls-Literal name attrs body at) is in
      subst (λ n. Opens output told p (out-Instr i) (λ w. Holds [] w) result n mid out out_now) before
      (subst (λ x. Opens output told p x (λ w. Holds [] w) result s mid out out_now) (sym same)
      (subst (λ k. Opens output told p (literal_at name attrs body k) (λ w. Holds [] w) result s mid out out_now) (here ∙ ap place same) q))

-- The scope of the current node.

within_scope : (n : Node) (scopes : Scopes) → in_force (within_node n scopes) ≡ trail.scope_at n (in_force scopes)
within_scope (Element name attrs decls first) scopes = refl
within_scope paths.Document scopes = refl
within_scope (paths.Chars text) scopes = refl
within_scope (paths.CData text) scopes = refl
within_scope (paths.Comment text) scopes = refl
within_scope (paths.Pi target text) scopes = refl
within_scope (paths.Attribute a) scopes = refl

pub scope_of_way : (l : List PathNode) → in_force (scopes_on (map stood l)) ≡ trail.scope_of (still.trail_of l)
scope_of_way [] = refl
scope_of_way (x ∷ xs) = within_scope x.node (scopes_on (map stood xs)) ∙ ap (trail.scope_at x.node) (scope_of_way xs)

pub scope_there : (given : Given) (p : Program) (r : Run) (running : Running) (o : Op) (w : Working) → IsAtOp p r running o → StandsAt given p r w
    → in_force r.source.bindings ≡ trail.scope_of w.self.trail
scope_there given p r running o w at st =
    let nodes = (path r.source.stack).nodes in
    ap in_force at.well.steady.source.scopes ∙ ap (λ l. in_force (scopes_on l)) (reverse_map nodes stood) ∙ scope_of_way (reverse nodes)
    ∙ sym (ap trail.scope_of (nodes_there given p r running o w at st))

-- A copy of it begins.

copy_opens_is : (given : Given) (at : Place) (attributes : Option Pattern) (w : Working) (a : Here) (n : Node) (scope : List Binding) → scope ≡ trail.scope_of w.self.trail
    → copy_opens given at attributes w a n ≡ outcome_of (put_parts given at (copy_start scope attributes n) a) (λ b. decides (has_list n) (stands_at w b))
copy_opens_is given at attributes w a (Element name attrs decls first) scope is =
    ap (λ s. outcome_of (put_parts given at (start_in s name (passing attributes attrs)) a) (λ b. Holds [] (stands_at w b))) (sym is)
copy_opens_is given at attributes w a paths.Document scope is = refl
copy_opens_is given at attributes w a (paths.Chars text) scope is = refl
copy_opens_is given at attributes w a (paths.CData text) scope is = refl
copy_opens_is given at attributes w a (paths.Comment text) scope is = refl
copy_opens_is given at attributes w a (paths.Pi target text) scope is = refl
copy_opens_is given at attributes w a (paths.Attribute x) scope is = refl

leads : (given : Given) (inside : Bool) (pc to : ℕ) (v : Working)
    → decided (decides inside v) (go_on (steps_of given) (pc + 1)) (go_on (steps_of given) to) ≡ go_on (steps_of given) (if inside then pc + 1 else to) v
leads given true pc to v = refl
leads given false pc to v = refl

module _ {S : Type 0} (output : S → Target) (told : S → S → List Said → Type 0) (p : Program) where
  pub copy_on : {A : Type 0} (result : Result A Stop) (r mid new : Run) (running : Running) (n to units : ℕ) (i : Instr) (attributes : Option Pattern) (body : List Instr) (at where_now : Place) (node : Node) (out out_now : S)
      → IsAtOp p r running (op.Open n to) → slice_get p.code.instrs n ≡ Some i → one_less r.fuel ≡ Some units → i ≡ instr.Copy attributes body at → where_now ≡ place (out-Instr i)
      → current (path r.source.stack) ≡ Some node → Puts output told where_now (copy_start (in_force r.source.bindings) attributes node) result r.putting mid.putting out out_now
      → OnOk result (reverse new.frames.frames ≡ on_body (with_pc (if has_list node then running.pc + 1 else to)) (reverse r.frames.frames))
      → new ≡ record mid { frames = new.frames } → mid ≡ record r { putting = mid.putting; fuel = units } → Steps output told p result r new out out_now
  copy_on result r mid new running n to units i attributes body at where_now node out out_now at_op is less so here there q behind frames_alone puts_alone = record {
    said = q.said;
    tells = q.tells;
    does = λ given of_sheet limit f.
        let left_now : Left = (output out_now).left in
        let rest : new ≡ record r { frames = new.frames; store = new.store; putting = new.putting; fuel = new.fuel } = only_those r mid new units frames_alone puts_alone in
        let scope : List Binding = in_force r.source.bindings in
        let parts : List Part = copy_start scope attributes node in
        let same : out-Instr i ≡ Instr-F.Copy attributes body at = out_is i _ (Instr-F.Copy attributes body at) (rolls-Copy attributes body at) so in
        let at_is : where_now ≡ at = here ∙ ap place same in
        let dest : ℕ = if has_list node then running.pc + 1 else to in
        stays_on given p result r new running (op.Open n to) dest (output out).left left_now q.said at_op of_sheet behind rest
        (λ w st sees now.
        let held : Working → Flat_does = go_on (steps_of given) (running.pc + 1) in
        let failed : Working → Flat_does = go_on (steps_of given) to in
        let a : Here = with_state w.here (record w.here.state { fuel = units }) in
        let go : Here → Outcome = λ b. decides (has_list node) (stands_at w b) in
        let b : Here = with_state a (still.state_of given p mid left_now) in
        let code_is : slice_get (code_of given.sheet).instrs n ≡ Some i = ap (λ (code : Code). slice_get code.instrs n) (sym of_sheet.code_is) ∙ is in
        let opened : opens_by given (out-Instr i) w a ≡ outcome_of (put_parts given where_now parts a) go =
        ap (λ x. opens_by given x w a) same ∙ ap (copy_opens given at attributes w a) (node_there given p r running (op.Open n to) w node at_op st there)
        ∙ copy_opens_is given at attributes w a node scope (scope_there given p r running (op.Open n to) w at_op st)
        ∙ ap (λ k. outcome_of (put_parts given k parts a) go) (sym at_is) in
        let does_so : still.operates given p (op.Open n to) running.pc w ≡ decided (outcome_of (put_parts given where_now parts a) go) held failed =
        opens_is output told p given n to running.pc i w code_is
        ∙ ap (λ v. decided v held failed) (unit_spent (place (out-Instr i)) w.here units (λ a. opens_by given (out-Instr i) w a) (ap (λ (s : State). one_less s.fuel) now ∙ less) ∙ opened) in
        let put : GoesAs result (put_parts given where_now parts a) q.said (Ret b) =
        puts_go output told p given where_now parts result (record r { fuel = units }) mid out out_now a limit (putting_alone (record r { fuel = units }) mid puts_alone) q (ap (λ (s : State). record s { fuel = units }) now) in
        let state_is : still.state_of given p mid left_now ≡ still.state_of given p new left_now = sym (ap (λ (n : Run). still.state_of given p n left_now) frames_alone) in
        subst (λ y. GoesAs result y q.said (go_on (steps_of given) dest (stands_at w (with_state w.here (still.state_of given p new left_now))))) (sym does_so)
        (subst (λ (s : State). GoesAs result (decided (outcome_of (put_parts given where_now parts a) go) held failed) q.said (go_on (steps_of given) dest (stands_at w (with_state w.here s)))) state_is
        (subst (GoesAs result (decided (outcome_of (put_parts given where_now parts a) go) held failed) q.said) (leads given (has_list node) running.pc to (stands_at w b))
        (verdict_goes result (put_parts given where_now parts a) q.said b go held failed put))))
        f;
  }
