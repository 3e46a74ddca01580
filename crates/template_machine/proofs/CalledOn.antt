-- Whose the body of a procedure is that is called, and what follows it.
use Rattle.std.proofs.Common.{◌≡◌, ◌≤◌, ℕ, ◌+◌, ◌-◌, ◌==◌, ◌&&◌, nat_lt, Bool, true, cond, not, List, [], ◌∷◌, ◌++◌, length, map, take, Option, Some, None, refl, ap, sym, subst, ◌∙◌, arith, eq-eqb}
use Rattle.std.specs.Prelude.{if◌then◌else◌, position, slice_get, unwrap_or}
use Rattle.std.specs.List.{position_or_len}
use Rattle.std.specs.Option.{option_map}
use Rattle.std.proofs.lemmas.List.{length-map}
use Rattle.std.proofs.lemmas.Option.{slice_get-map}
use Rattle.stx_base.specs.Course.{Ask, Ret, Same}
use Rattle.stx_base.proofs.Course.{funext, same_equal, same_then}
use Rattle.stx_base.specs.declared.name.Name.{Name}
use Rattle.frame_stack.specs.Change.{with_pc}
use Rattle.frame_stack.specs.Level.{instances}
use Rattle.frame_stack.specs.declared.frame.Frame.{Frame}
use Rattle.frame_stack.specs.declared.frame.Frame.TheVariants.{Attributes, Body, Call, Loop, Pass, Region, Skip, Source}
use Rattle.frame_stack.specs.declared.locals.Local.{Local}
use Rattle.instr_code.specs.Bare.{procedure_without_body, without_bodies}
use Rattle.instr_code.specs.Code.{code_of, sheet_bodies}
use Rattle.instr_code.specs.Running as running
use Rattle.instr_code.specs.Running.{At}
use Rattle.node_stack.specs.Test.{same_name}
use Rattle.sheet_model.specs.Groups.{around}
use Rattle.sheet_model.specs.declared.instr.Instr.{Instr}
use Rattle.sheet_model.specs.declared.sheet.Procedure.{Procedure}
use Rattle.sheet_model.specs.declared.sheet.Sheet.{Sheet}
use Rattle.sheet_model.specs.declared.sheet.Template.{Template}
use Rattle.stx_base.specs.declared.node.NodeTest.TheVariants as test
use Rattle.var_store.specs.declared.bound.Bound.{Bound}
use Rattle.xml_events.specs.Tree.{Future}
use Rattle.template_machine.specs.Acting.{act}
use Rattle.template_machine.specs.Behind.{acts_in, body_behind, code_behind, whose_in}
use Rattle.template_machine.specs.Bodies.{active_by, active_in, level_in, on_body, pc_in}
use Rattle.template_machine.specs.Finding.{procedure_seen}
use Rattle.template_machine.specs.Job as job
use Rattle.template_machine.specs.Job.{Given, Here, Level, Self}
use Rattle.template_machine.specs.Outcome.{AreNew}
use Rattle.template_machine.specs.Passing.{back, instance}
use Rattle.template_machine.specs.Programs.{IsProgramOf}
use Rattle.template_machine.specs.Seen.{named_of}
use Rattle.template_machine.specs.Steps.{group_of, test_in}
use Rattle.template_machine.specs.Still as still
use Rattle.template_machine.specs.Still.{Runs, Scene, aside_of, trail_of}
use Rattle.template_machine.specs.Stepwise.{Flat_does, Working, begun, flat_code}
use Rattle.template_machine.specs.Variables.{first_some}
use Rattle.template_machine.specs.declared.bodies.Seen.TheVariants.{Outside, Within}
use Rattle.template_machine.specs.declared.program.Program.{Program}
use Rattle.template_machine.proofs.Processed.{right_of}
use Rattle.template_machine.proofs.RunByCode.{bodies_run}

pub some_same : {A : Type 0} {x y : A} → Some x ≡ Some y → x ≡ y
some_same e = cc

-- Procedures of a sheet without its bodies.

place_same : {A B : Type 0} (t : B → Bool) (f : A → B) (xs : List A) → position_or_len t (map f xs) ≡ position_or_len (λ x. t (f x)) xs
place_same t f [] = refl
place_same t f (x ∷ xs) = ap (λ n. cond (not (t (f x))) (1 + n) 0) (place_same t f xs)

position_same : {A B : Type 0} (t : B → Bool) (f : A → B) (xs : List A) → position t (map f xs) ≡ position (λ x. t (f x)) xs
position_same t f xs =
    ap (λ n. cond (nat_lt n (length (map f xs))) (Some n) None) (place_same t f xs)
    ∙ ap (λ m. cond (nat_lt (position_or_len (λ x. t (f x)) xs) m) (Some (position_or_len (λ x. t (f x)) xs)) None) (length-map xs f)

pub seen_bare : (s : Sheet) (group : ℕ) (name : Name) → procedure_seen (without_bodies s) group name ≡ procedure_seen s group name
seen_bare s group name =
    ap (λ (f : ℕ → Option ℕ). first_some f (around s.groups group))
    (funext (λ (g : ℕ). position_same (λ (q : Procedure). q.group == g && same_name q.name name) procedure_without_body s.procedures))

-- the procedure as the sheet has it
pub record OfSheet (s : Sheet) (k : ℕ) (q : Procedure) : Type 0 where
  pub whole : Procedure
  pub there : slice_get s.procedures k ≡ Some whole
  pub same : q ≡ procedure_without_body whole

pub of_sheet_is : (given : Given) (p : Program) → IsProgramOf given.sheet given.limits p → (k : ℕ) (q : Procedure) → slice_get p.sheet.procedures k ≡ Some q → OfSheet given.sheet k q
of_sheet_is given p program k q is =
    by (slice_get given.sheet.procedures k) refl (sym (slice_get-map procedure_without_body given.sheet.procedures k) ∙ sym (ap (λ (s : Sheet). slice_get s.procedures k) program.sheet_is) ∙ is)
  where
    by : (o : Option Procedure) → slice_get given.sheet.procedures k ≡ o → option_map procedure_without_body (slice_get given.sheet.procedures k) ≡ Some q → OfSheet given.sheet k q
    by None e h = absurd (let no : None ≡ Some q = sym (ap (option_map procedure_without_body) e) ∙ h in cc)
    by (Some w) e h = record { whole = w; there = e; same = some_same (sym h ∙ ap (option_map procedure_without_body) e) }

pub body_code : (s : Sheet) (k : ℕ) (w : Procedure) → slice_get s.procedures k ≡ Some w → slice_get (sheet_bodies s) (length s.templates + k) ≡ Some w.body
body_code s k w is =
    ap (λ n. slice_get (sheet_bodies s) (n + k)) (sym (length-map s.templates (λ (t : Template). t.body)))
    ∙ right_of (map (λ (t : Template). t.body) s.templates) (map (λ (q : Procedure). q.body) s.procedures) k w.body
    (slice_get-map (λ (q : Procedure). q.body) s.procedures k ∙ ap (option_map (λ (q : Procedure). q.body)) is)

module _ (given : Given) (p : Program) where
  abbrev one_more : Level → Level
  one_more l = record l { instances = l.instances + 1 }

  -- Whose body begins.

  -- a body of a level and of a group, on these frames
  abbrev on_them : (group level : ℕ) → List Frame → Scene → Self
  on_them group level gs c = record {
    group = group;
    test = unwrap_or (test_in p.sheet gs) test.Document;
    active = active_in level gs;
    level = record { conditions = still.conditions_of given p level gs; instances = still.instances_in given p level gs; source = c.source };
    trail = trail_of c.nodes;
  }

  pub on_same : (group level pc to : ℕ) (fs : List Frame) (c : Scene) → pc_in fs ≡ Some pc → level_in (on_body (with_pc to) fs) ≡ Some level
      → on_them group level (on_body (with_pc to) fs) c ≡ record (whose_in given p fs c) { group = group }
  on_same group level pc to [] c at own = absurd (cc)
  on_same group level pc to (Loop turn ∷ fs) c at own = on_same group level pc to fs c at own
  on_same group level pc to (Body template alternative old locals k spent ∷ fs) c at own =
      let same : k ≡ level = some_same own in
      subst (λ n. on_them group n (Body template alternative to locals k spent ∷ fs) c ≡ record (whose_in given p (Body template alternative old locals k spent ∷ fs) c) { group = group }) same refl
  on_same group level pc to (Call procedure old locals k ∷ fs) c at own =
      let same : k ≡ level = some_same own in
      subst (λ n. on_them group n (Call procedure to locals k ∷ fs) c ≡ record (whose_in given p (Call procedure old locals k ∷ fs) c) { group = group }) same refl
  on_same group level pc to (Region asked k ∷ fs) c at own = absurd (cc)
  on_same group level pc to (Attributes next asked ∷ fs) c at own = absurd (cc)
  on_same group level pc to (Source buffer next asked ∷ fs) c at own = absurd (cc)
  on_same group level pc to (Skip depth ∷ fs) c at own = absurd (cc)
  on_same group level pc to (Pass base k spent ∷ fs) c at own = absurd (cc)

  -- the body of a procedure is one instance more
  call_whose : (k start level : ℕ) (gs : List Frame) (c : Scene)
      → still.self_of given p level (Call k start [] level) gs c
      ≡ record (on_them (unwrap_or (group_of p.sheet (Call k start [] level)) 0) level gs c) { level = one_more (on_them (unwrap_or (group_of p.sheet (Call k start [] level)) 0) level gs c).level }
  call_whose k start level gs c =
      let group = unwrap_or (group_of p.sheet (Call k start [] level)) 0 in
      let made : Bool → ℕ → Self = λ b m. record {
        group = group;
        test = unwrap_or (test_in p.sheet gs) test.Document;
        active = active_by (if b then Within else Outside) (active_in level gs);
        level = record { conditions = still.conditions_of given p level gs; instances = m; source = c.source };
        trail = trail_of c.nodes;
      } in
      let here : (level == level) ≡ true = eq-eqb level level refl in
      let more : 1 + still.instances_in given p level gs ≡ still.instances_in given p level gs + 1 = omega arith in
      ap (λ b. made b ((if b then 1 else 0) + still.instances_in given p level gs)) here
      ∙ ap (made true) more

  pub callee_is : (k start level pc to : ℕ) (fs : List Frame) (c : Scene) → pc_in fs ≡ Some pc → level_in (on_body (with_pc to) fs) ≡ Some level
      → still.self_of given p level (Call k start [] level) (on_body (with_pc to) fs) c
      ≡ record (whose_in given p fs c) { group = unwrap_or (group_of p.sheet (Call k start [] level)) 0; level = one_more (whose_in given p fs c).level }
  callee_is k start level pc to fs c at own =
      call_whose k start level (on_body (with_pc to) fs) c
      ∙ ap (λ (s : Self). record s { level = one_more s.level }) (on_same (unwrap_or (group_of p.sheet (Call k start [] level)) 0) level pc to fs c at own)

  -- What follows the body.

  runs_bare : (turns : List ℕ) (to : ℕ) (fs : List Frame) (c : Scene) (f : Future) (a : Here) (own : List Bound) (pc : ℕ) → pc_in fs ≡ Some pc
      → still.rest given p Runs turns (on_body (with_pc to) fs) c f (record a { locals = own }) ≡ still.rest given p Runs turns (on_body (with_pc to) fs) c f a
  runs_bare turns to [] c f a own pc at = absurd (cc)
  runs_bare turns to (Loop turn ∷ fs) c f a own pc at = runs_bare (turns ++ turn ∷ []) to fs c f a own pc at
  runs_bare turns to (Body template alternative old locals level spent ∷ fs) c f a own pc at = refl
  runs_bare turns to (Call procedure old locals level ∷ fs) c f a own pc at = refl
  runs_bare turns to (Region asked level ∷ fs) c f a own pc at = absurd (cc)
  runs_bare turns to (Attributes next asked ∷ fs) c f a own pc at = absurd (cc)
  runs_bare turns to (Source buffer next asked ∷ fs) c f a own pc at = absurd (cc)
  runs_bare turns to (Skip depth ∷ fs) c f a own pc at = absurd (cc)
  runs_bare turns to (Pass base level spent ∷ fs) c f a own pc at = absurd (cc)

  abbrev with_own : List Frame → Here → Here
  with_own fs a = record a { locals = named_of (still.locals_in given p fs) }

  -- an instruction that has another body run goes on behind it
  pub behind_call : (i : Instr) (pc : ℕ) (turns : List ℕ) (fs : List Frame) (c : Scene) (f : Future) (a : Here) (asks : job.Job) → pc_in fs ≡ Some pc
      → act given i (whose_in given p fs c) (with_own fs a) ≡ Ask asks (λ b. Ret (back (with_own fs a) b.state b))
      → acts_in given p i pc turns fs c f a ≡ Ask (running.Given asks) (λ (v : Working). still.rest given p Runs turns (on_body (with_pc (pc + 1)) fs) c f v.here)
  behind_call i pc turns [] c f a asks at does = absurd (cc)
  behind_call i pc turns (Loop turn ∷ fs) c f a asks at does = behind_call i pc (turns ++ turn ∷ []) fs c f a asks at does
  behind_call i pc turns (Body template alternative old locals level spent ∷ fs) c f a asks at does =
      let b = Body template alternative old locals level spent in
      ap (λ y. code_behind given p pc (still.working_in given p turns b fs c a) y (body_behind given p b fs c f)) does
  behind_call i pc turns (Call procedure old locals level ∷ fs) c f a asks at does =
      let b = Call procedure old locals level in
      ap (λ y. code_behind given p pc (still.working_in given p turns b fs c a) y (body_behind given p b fs c f)) does
  behind_call i pc turns (Region asked level ∷ fs) c f a asks at does = absurd (cc)
  behind_call i pc turns (Attributes next asked ∷ fs) c f a asks at does = absurd (cc)
  behind_call i pc turns (Source buffer next asked ∷ fs) c f a asks at does = absurd (cc)
  behind_call i pc turns (Skip depth ∷ fs) c f a asks at does = absurd (cc)
  behind_call i pc turns (Pass base level spent ∷ fs) c f a asks at does = absurd (cc)

  -- that runs by its code
  pub call_enters : (new : AreNew given) (number k start level pc : ℕ) (body : List Instr) (locals : List Local) (fs : List Frame) (c : Scene) (f : Future) (self : Self) (a : Here) → pc_in fs ≡ Some pc
      → slice_get (sheet_bodies given.sheet) number ≡ Some body → slice_get (code_of given.sheet).starts number ≡ Some start → a.state.fuel ≤ given.limits.fuel → aside_of locals ≡ []
      → self ≡ still.self_of given p level (Call k start [] level) (on_body (with_pc (pc + 1)) fs) c
      → Same (flat_code given) (Ask (running.Given (job.Body body self (record a { locals = named_of locals }))) (λ (v : Working). still.rest given p Runs [] (on_body (with_pc (pc + 1)) fs) c f v.here))
      (still.rest given p Runs [] (Call k start locals level ∷ on_body (with_pc (pc + 1)) fs) c f a)
  call_enters new number k start level pc body locals fs c f self a at there starts fuel none who =
      let gs = on_body (with_pc (pc + 1)) fs in
      let b : Here = record a { locals = named_of locals } in
      let go : Here → Flat_does = λ h. still.rest given p Runs [] gs c f h in
      same_then (bodies_run given new number start body self b go there starts fuel)
      (same_equal (flat_code given)
      (ap (λ (x : Here → Flat_does). Ask (At start (begun self b)) (λ (v : Working). x v.here)) (funext (λ (h : Here). runs_bare [] (pc + 1) fs c f h (take (length b.locals) h.locals) pc at))
      ∙ ap (λ s. Ask (At start (begun s b)) (λ (v : Working). go v.here)) who
      ∙ ap (λ x. Ask (At start (record { self = still.self_of given p level (Call k start [] level) gs c; here = b; aside = x; turns = [] })) (λ (v : Working). go v.here)) (sym none)))
