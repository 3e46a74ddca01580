-- Where the children of a node are gone for its bodies, its bodies go on as they would otherwise.
use Rattle.std.proofs.Common.{◌≡◌, ℕ, ◌+◌, ◌-◌, Bool, true, false, List, [], ◌∷◌, ◌++◌, refl, ap, ◌∙◌}
use Rattle.std.specs.Prelude.{◌==◌, if◌then◌else◌, unwrap_or}
use Rattle.std.specs.Option.{option_map_or}
use Rattle.stx_base.specs.Course.{Ask}
use Rattle.stx_base.proofs.Course.{funext}
use Rattle.stx_base.specs.declared.node.NodeTest.{NodeTest as Tests}
use Rattle.stx_base.specs.declared.node.NodeTest.TheVariants as test
use Rattle.frame_stack.specs.declared.frame.Frame.{Frame}
use Rattle.frame_stack.specs.declared.frame.Frame.TheVariants.{Attributes, Body, Call, Loop, Pass, Region, Skip, Source}
use Rattle.frame_stack.specs.declared.locals.Local.{Local}
use Rattle.instr_code.specs.Running.{At}
use Rattle.instr_code.specs.Running as running
use Rattle.xml_events.specs.Document.{outer}
use Rattle.xml_events.specs.Tree.{Future}
use Rattle.template_machine.specs.Bodies.{active_by, active_in, all_spent, level_in, spent_by}
use Rattle.template_machine.specs.declared.bodies.Seen.TheVariants.{Template as Own, Within, Outside}
use Rattle.template_machine.specs.Job as job
use Rattle.template_machine.specs.Job.{Condition, Given, Here, Nodes, Self}
use Rattle.template_machine.specs.Lists.{rest_of}
use Rattle.template_machine.specs.Passing.{finish}
use Rattle.template_machine.specs.Programs.{instr_at}
use Rattle.template_machine.specs.Seen.{named_of}
use Rattle.template_machine.specs.Steps.{group_of, test_in}
use Rattle.template_machine.specs.Still as still
use Rattle.template_machine.specs.Still.{Lists, Mode, Returns, Runs, Scene, aside_of, node_over, trail_of}
use Rattle.template_machine.specs.Stepwise.{Flat_does, Working, lifted}
use Rattle.template_machine.specs.Well.{is_again}
use Rattle.template_machine.specs.declared.program.Program.{Program}

-- frames that do as others
record DoAlike (given : Given) (p : Program) (gs fs : List Frame) : Type 0 where
  level : level_in gs ≡ level_in fs
  test : test_in p.sheet gs ≡ test_in p.sheet fs
  active : (n : ℕ) → active_in n gs ≡ active_in n fs
  conditions : (n : ℕ) → still.conditions_of given p n gs ≡ still.conditions_of given p n fs
  instances : (n : ℕ) → still.instances_in given p n gs ≡ still.instances_in given p n fs
  rest : (mode : Mode) (turns : List ℕ) (c : Scene) (f : Future) (a : Here) → still.rest given p mode turns gs c f a ≡ still.rest given p mode turns fs c f a

module _ (given : Given) (p : Program) where
  alike_same : (fs : List Frame) → DoAlike given p fs fs
  alike_same fs = record {
    level = refl;
    test = refl;
    active = λ n. refl;
    conditions = λ n. refl;
    instances = λ n. refl;
    rest = λ mode turns c f a. refl;
  }

  alike_loop : (turn : ℕ) (fs gs : List Frame) → DoAlike given p gs fs → DoAlike given p (Loop turn ∷ gs) (Loop turn ∷ fs)
  alike_loop turn fs gs e = record {
    level = e.level;
    test = e.test;
    active = λ n. e.active n;
    conditions = λ n. e.conditions n;
    instances = λ n. e.instances n;
    rest = by;
  }
    where
      by : (mode : Mode) (turns : List ℕ) (c : Scene) (f : Future) (a : Here) → still.rest given p mode turns (Loop turn ∷ gs) c f a ≡ still.rest given p mode turns (Loop turn ∷ fs) c f a
      by Runs turns c f a = e.rest Runs (turns ++ turn ∷ []) c f a
      by Lists turns c f a = e.rest Lists (turns ++ turn ∷ []) c f a
      by Returns turns c f a = e.rest Returns (turns ++ turn ∷ []) c f a

  again_alike : (fs gs : List Frame) (n : ℕ) → DoAlike given p gs fs → is_again n gs ≡ is_again n fs
  again_alike fs gs n e = ap (λ o. option_map_or (λ l. l == n) o false) e.level

  module _ (template alternative pc : ℕ) (locals : List Local) (own : ℕ) (spent : Bool) (fs gs : List Frame) (e : DoAlike given p gs fs) where
    abbrev x : Frame
    x = Body template alternative pc locals own true

    abbrev y : Frame
    y = Body template alternative pc locals own spent

    abbrev made : Scene → (active : List ℕ) → List Condition → (instances : ℕ) → Self
    made c active conditions instances = record {
      group = unwrap_or (group_of p.sheet y) 0;
      test = unwrap_or (test_in p.sheet (y ∷ fs)) test.Document;
      active = active;
      level = record { conditions = conditions; instances = instances; source = c.source };
      trail = trail_of c.nodes;
    }

    active_body : (n : ℕ) → active_in n (x ∷ gs) ≡ active_in n (y ∷ fs)
    active_body n = ap (active_by (if own == n then Own template else Outside)) (e.active n)

    instances_body : (n : ℕ) → still.instances_in given p n (x ∷ gs) ≡ still.instances_in given p n (y ∷ fs)
    instances_body n = ap (λ k. (if own == n then 1 else 0) + k) (e.instances n)

    self_body : (c : Scene) → still.self_of given p own x gs c ≡ still.self_of given p own y fs c
    self_body c =
        ap (λ l. made c l (still.conditions_of given p own gs) (still.instances_in given p own (x ∷ gs))) (active_body own)
        ∙ ap (λ l. made c (active_in own (y ∷ fs)) l (still.instances_in given p own (x ∷ gs))) (e.conditions own)
        ∙ ap (λ n. made c (active_in own (y ∷ fs)) (still.conditions_of given p own fs) n) (instances_body own)

    abbrev over_by : Bool → List Frame → Scene → Future → Here → Flat_does
    over_by again ls c f h = still.template_over given p template again c (still.rest given p Returns [] ls c f) (still.rest given p Lists [] ls (node_over c) f) h

    over_same : (c : Scene) (f : Future) (h : Here) → over_by (is_again own gs) gs c f h ≡ over_by (is_again own fs) fs c f h
    over_same c f h = ap (λ b. over_by b gs c f h) (again_alike fs gs own e) ∙ by (is_again own fs)
      where
        behind : Here
        behind = record h { locals = []; state = still.scope_ends given p (still.template_of given p template) h.state }

        by : (b : Bool) → over_by b gs c f h ≡ over_by b fs c f h
        by true = e.rest Returns [] c f behind
        by false = ap (λ k. lifted (finish given c.source behind) k) (funext (λ (b : Here). e.rest Lists [] (node_over c) f b))

    abbrev goes_by : (turns : List ℕ) → List Local → Self → (Here → Flat_does) → Here → Flat_does
    goes_by turns ls self k a = Ask (At pc (record { self = self; here = record a { locals = named_of ls }; aside = aside_of ls; turns = turns })) (λ (w : Working). k w.here)

    goes_same : (turns : List ℕ) (ls : List Local) (c : Scene) (f : Future) (a : Here)
        → goes_by turns ls (still.self_of given p own x gs c) (over_by (is_again own gs) gs c f) a ≡ goes_by turns ls (still.self_of given p own y fs c) (over_by (is_again own fs) fs c f) a
    goes_same turns ls c f a =
        ap (λ s. goes_by turns ls s (over_by (is_again own gs) gs c f) a) (self_body c)
        ∙ ap (λ k. goes_by turns ls (still.self_of given p own y fs c) k a) (funext (λ (h : Here). over_same c f h))

    alike_body : DoAlike given p (x ∷ gs) (y ∷ fs)
    alike_body = record {
      level = refl;
      test = refl;
      active = active_body;
      conditions = λ n. e.conditions n;
      instances = instances_body;
      rest = by;
    }
      where
        by : (mode : Mode) (turns : List ℕ) (c : Scene) (f : Future) (a : Here) → still.rest given p mode turns (x ∷ gs) c f a ≡ still.rest given p mode turns (y ∷ fs) c f a
        by Runs turns c f a = goes_same turns locals c f a
        by Returns turns c f a = goes_same turns (still.without_handed given p (instr_at p.code (pc - 1)) locals) c f a
        by Lists turns c f a =
            ap (λ k. Ask (running.Given (Nodes a.left (still.asked_by given p (pc - 1) locals (job.fresh c.source) (trail_of c.nodes)) a.state)) k)
            (funext (λ (w : Working).
            goes_same turns (still.without_handed given p (instr_at p.code (pc - 1)) locals) c (outer f) (still.siblings_of given p (rest_of c.nodes) f w.here.state)))

  module _ (procedure pc : ℕ) (locals : List Local) (own : ℕ) (fs gs : List Frame) (e : DoAlike given p gs fs) where
    abbrev z : Frame
    z = Call procedure pc locals own

    abbrev made_call : Scene → (test : Tests) → (active : List ℕ) → List Condition → (instances : ℕ) → Self
    made_call c tested active conditions instances = record {
      group = unwrap_or (group_of p.sheet z) 0;
      test = tested;
      active = active;
      level = record { conditions = conditions; instances = instances; source = c.source };
      trail = trail_of c.nodes;
    }

    active_call : (n : ℕ) → active_in n (z ∷ gs) ≡ active_in n (z ∷ fs)
    active_call n = ap (active_by (if own == n then Within else Outside)) (e.active n)

    instances_call : (n : ℕ) → still.instances_in given p n (z ∷ gs) ≡ still.instances_in given p n (z ∷ fs)
    instances_call n = ap (λ k. (if own == n then 1 else 0) + k) (e.instances n)

    self_call : (c : Scene) → still.self_of given p own z gs c ≡ still.self_of given p own z fs c
    self_call c =
        ap (λ o. made_call c (unwrap_or o test.Document) (active_in own (z ∷ gs)) (still.conditions_of given p own gs) (still.instances_in given p own (z ∷ gs))) e.test
        ∙ ap (λ l. made_call c (unwrap_or (test_in p.sheet fs) test.Document) l (still.conditions_of given p own gs) (still.instances_in given p own (z ∷ gs))) (active_call own)
        ∙ ap (λ l. made_call c (unwrap_or (test_in p.sheet fs) test.Document) (active_in own (z ∷ fs)) l (still.instances_in given p own (z ∷ gs))) (e.conditions own)
        ∙ ap (λ n. made_call c (unwrap_or (test_in p.sheet fs) test.Document) (active_in own (z ∷ fs)) (still.conditions_of given p own fs) n) (instances_call own)

    abbrev calls_by : (turns : List ℕ) → List Local → Self → (Here → Flat_does) → Here → Flat_does
    calls_by turns ls self k a = Ask (At pc (record { self = self; here = record a { locals = named_of ls }; aside = aside_of ls; turns = turns })) (λ (w : Working). k w.here)

    calls_same : (turns : List ℕ) (ls : List Local) (c : Scene) (f : Future) (a : Here)
        → calls_by turns ls (still.self_of given p own z gs c) (still.rest given p Runs [] gs c f) a ≡ calls_by turns ls (still.self_of given p own z fs c) (still.rest given p Runs [] fs c f) a
    calls_same turns ls c f a =
        ap (λ s. calls_by turns ls s (still.rest given p Runs [] gs c f) a) (self_call c)
        ∙ ap (λ k. calls_by turns ls (still.self_of given p own z fs c) k a) (funext (λ (h : Here). e.rest Runs [] c f h))

    alike_call : DoAlike given p (z ∷ gs) (z ∷ fs)
    alike_call = record {
      level = refl;
      test = e.test;
      active = active_call;
      conditions = λ n. e.conditions n;
      instances = instances_call;
      rest = by;
    }
      where
        by : (mode : Mode) (turns : List ℕ) (c : Scene) (f : Future) (a : Here) → still.rest given p mode turns (z ∷ gs) c f a ≡ still.rest given p mode turns (z ∷ fs) c f a
        by Runs turns c f a = calls_same turns locals c f a
        by Returns turns c f a = calls_same turns (still.without_handed given p (instr_at p.code (pc - 1)) locals) c f a
        by Lists turns c f a =
            ap (λ k. Ask (running.Given (Nodes a.left (still.asked_by given p (pc - 1) locals (job.fresh c.source) (trail_of c.nodes)) a.state)) k)
            (funext (λ (w : Working).
            calls_same turns (still.without_handed given p (instr_at p.code (pc - 1)) locals) c (outer f) (still.siblings_of given p (rest_of c.nodes) f w.here.state)))

  module _ (level : ℕ) where
    spent_alike : (fs : List Frame) → DoAlike given p (all_spent level fs) fs
    spent_alike [] = alike_same []
    spent_alike (Loop turn ∷ fs) = alike_loop turn fs (all_spent level fs) (spent_alike fs)
    spent_alike (Body template alternative pc locals own spent ∷ fs) = by (own == level) (spent_alike fs)
      where
        by : (b : Bool) → DoAlike given p (all_spent level fs) fs → DoAlike given p (spent_by (if b then Own template else Outside) (Body template alternative pc locals own spent) fs (all_spent level fs)) (Body template alternative pc locals own spent ∷ fs)
        by true below = alike_body template alternative pc locals own spent fs (all_spent level fs) below
        by false below = alike_same (Body template alternative pc locals own spent ∷ fs)
    spent_alike (Call procedure pc locals own ∷ fs) = by (own == level) (spent_alike fs)
      where
        by : (b : Bool) → DoAlike given p (all_spent level fs) fs → DoAlike given p (spent_by (if b then Within else Outside) (Call procedure pc locals own) fs (all_spent level fs)) (Call procedure pc locals own ∷ fs)
        by true below = alike_call procedure pc locals own fs (all_spent level fs) below
        by false below = alike_same (Call procedure pc locals own ∷ fs)
    spent_alike (Region asked own ∷ fs) = alike_same (Region asked own ∷ fs)
    spent_alike (Attributes next asked ∷ fs) = alike_same (Attributes next asked ∷ fs)
    spent_alike (Source buffer next asked ∷ fs) = alike_same (Source buffer next asked ∷ fs)
    spent_alike (Skip depth ∷ fs) = alike_same (Skip depth ∷ fs)
    spent_alike (Pass base own spent ∷ fs) = alike_same (Pass base own spent ∷ fs)

    -- what is left to do is the same, and so is what a body of the level goes on with
    pub rest_spent : (fs : List Frame) (mode : Mode) (turns : List ℕ) (c : Scene) (f : Future) (a : Here)
        → still.rest given p mode turns (all_spent level fs) c f a ≡ still.rest given p mode turns fs c f a
    rest_spent fs mode turns c f a = (spent_alike fs).rest mode turns c f a

    pub again_spent : (fs : List Frame) (n : ℕ) → is_again n (all_spent level fs) ≡ is_again n fs
    again_spent fs n = again_alike fs (all_spent level fs) n (spent_alike fs)
