-- What the expressions of a run's innermost body see, by the way to its node.
use Rattle.std.proofs.Common.{◌≡◌, ◌≢◌, ℕ, zero, suc, ◌-◌, true, false, List, [], ◌∷◌, length, map, reverse, Option, Some, None, IsSome, refl, ap, sym, subst, ◌∙◌, arith}
use Rattle.std.specs.Prelude.{option_map, slice_get, unwrap_or}
use Rattle.std.specs.Option.{option_and_then, option_map_or, option_or}
use Rattle.std.proofs.lemmas.List.{length-map, length-reverse}
use Rattle.stx_base.specs.declared.limits.Limits.{Limits}
use Rattle.stx_base.specs.declared.node.NodeTest.{NodeTest}
use Rattle.stx_base.specs.declared.node.NodeTest.TheVariants as test
use Rattle.frame_stack.specs.Change.{locals_of, with_pc}
use Rattle.frame_stack.specs.declared.frame.Frame.{Frame}
use Rattle.frame_stack.specs.declared.frame.Frame.TheVariants.{Body, Call, Loop, Region, Attributes, Source, Skip, Pass}
use Rattle.frame_stack.specs.declared.locals.Local.{Local}
use Rattle.instr_code.specs.declared.code.Op.{Op}
use Rattle.node_stack.specs.Path.{Path, PathNode, kind_of, last_of}
use Rattle.node_stack.specs.Stack.{path}
use Rattle.node_stack.specs.Test.{passes}
use Rattle.sheet_model.specs.Groups.{around}
use Rattle.sheet_model.specs.declared.sheet.Group.{Group}
use Rattle.sheet_model.specs.declared.sheet.Sheet.{Sheet}
use Rattle.stxpath_eval.specs.Setting.{Setting}
use Rattle.var_store.specs.Copies.{Stored}
use Rattle.template_machine.specs.Alike.{LooksLike, along_path}
use Rattle.template_machine.specs.Bodies.{below, body_in, frame_in, level_in, level_of, on_body, pc_of}
use Rattle.template_machine.specs.Job.{Given, Here, Self}
use Rattle.template_machine.specs.Moments.{IsAtOp}
use Rattle.template_machine.specs.Programs.{IsProgramOf}
use Rattle.template_machine.specs.Saying.{SeesAs, sight}
use Rattle.template_machine.specs.Seen.{local_of, named_of}
use Rattle.template_machine.specs.Standing.{standing_of}
use Rattle.template_machine.specs.Steps.{group_of, test_in}
use Rattle.template_machine.specs.Still as still
use Rattle.template_machine.specs.Still.{below_loops}
use Rattle.template_machine.specs.Trail.{path_of, stand}
use Rattle.template_machine.specs.Values.{setting}
use Rattle.template_machine.specs.Variables.{seen_in}
use Rattle.template_machine.specs.Ways.{here, way_of}
use Rattle.template_machine.specs.declared.program.Program.{Program}
use Rattle.template_machine.specs.declared.run.Run.{Run}
use Rattle.template_machine.specs.declared.run.Running.{Running}
use Rattle.template_machine.specs.declared.source.Ahead.{Ahead}
use Rattle.template_machine.specs.declared.source.Ahead.TheVariants as ahead
use Rattle.template_machine.proofs.Operating.{body_goes}
use Rattle.template_machine.proofs.Placing.{placed_in}
use Rattle.template_machine.proofs.Seeing.{test_below, test_there}
use Rattle.template_machine.proofs.Sighted.{trails_look_alike}
use Rattle.template_machine.proofs.Ways.{way_here}

-- A body that is at another place sees the same.

locals_move : (n : ℕ) (fs : List Frame) → option_map_or locals_of (frame_in (on_body (with_pc n) fs)) [] ≡ option_map_or locals_of (frame_in fs) []
locals_move n [] = refl
locals_move n (Loop turn ∷ fs) = locals_move n fs
locals_move n (Body template alternative pc locals level spent ∷ fs) = refl
locals_move n (Call procedure pc locals level ∷ fs) = refl
locals_move n (Region asked level ∷ fs) = refl
locals_move n (Attributes next asked ∷ fs) = refl
locals_move n (Source buffer next asked ∷ fs) = refl
locals_move n (Skip depth ∷ fs) = refl
locals_move n (Pass base level spent ∷ fs) = refl

group_moves : (s : Sheet) (n : ℕ) (fs : List Frame) → option_and_then (group_of s) (frame_in (on_body (with_pc n) fs)) ≡ option_and_then (group_of s) (frame_in fs)
group_moves s n [] = refl
group_moves s n (Loop turn ∷ fs) = group_moves s n fs
group_moves s n (Body template alternative pc locals level spent ∷ fs) = refl
group_moves s n (Call procedure pc locals level ∷ fs) = refl
group_moves s n (Region asked level ∷ fs) = refl
group_moves s n (Attributes next asked ∷ fs) = refl
group_moves s n (Source buffer next asked ∷ fs) = refl
group_moves s n (Skip depth ∷ fs) = refl
group_moves s n (Pass base level spent ∷ fs) = refl

pub test_moves : (s : Sheet) (n : ℕ) (fs : List Frame) → test_in s (on_body (with_pc n) fs) ≡ test_in s fs
test_moves s n [] = refl
test_moves s n (Loop turn ∷ fs) = test_moves s n fs
test_moves s n (Body template alternative pc locals level spent ∷ fs) = refl
test_moves s n (Call procedure pc locals level ∷ fs) = refl
test_moves s n (Region asked level ∷ fs) = refl
test_moves s n (Attributes next asked ∷ fs) = refl
test_moves s n (Source buffer next asked ∷ fs) = refl
test_moves s n (Skip depth ∷ fs) = refl
test_moves s n (Pass base level spent ∷ fs) = refl

-- by the frames, the innermost first
abbrev sight_by : Program → Run → List Frame → Setting
sight_by p r fs = record {
  vars = λ name.
      option_or (local_of name (option_map_or locals_of (frame_in fs) []))
      (seen_in (around p.sheet.groups (unwrap_or (option_and_then (group_of p.sheet) (frame_in fs)) 0)) r.store name);
  limits = p.limits;
  path = path r.source.stack;
  place = length (path r.source.stack).nodes - 1;
  test = unwrap_or (test_in p.sheet fs) test.Document;
}

sight_on : (p : Program) (r : Run) (n : ℕ) (fs : List Frame) → sight_by p r (on_body (with_pc n) fs) ≡ sight_by p r fs
sight_on p r n fs =
    ap (λ l. record (sight_by p r (on_body (with_pc n) fs)) { vars = λ name. option_or (local_of name l) (seen_in (around p.sheet.groups (unwrap_or (option_and_then (group_of p.sheet) (frame_in (on_body (with_pc n) fs))) 0)) r.store name) }) (locals_move n fs)
    ∙ ap (λ o. record (sight_by p r (on_body (with_pc n) fs)) { vars = λ name. option_or (local_of name (option_map_or locals_of (frame_in fs) [])) (seen_in (around p.sheet.groups (unwrap_or o 0)) r.store name) }) (group_moves p.sheet n fs)
    ∙ ap (λ (o : Option NodeTest). record (sight_by p r fs) { test = unwrap_or o test.Document }) (test_moves p.sheet n fs)

pub sight_moves : (p : Program) (old mid : Run) (n : ℕ) → reverse mid.frames.frames ≡ on_body (with_pc n) (reverse old.frames.frames) → mid ≡ record old { frames = mid.frames }
    → sight p old ≡ sight p mid
sight_moves p old mid n behind rest =
    sym (sight_on p old n (reverse old.frames.frames)) ∙ ap (sight_by p old) (sym behind)
    ∙ sym (ap (λ (r : Run). sight_by p r (reverse mid.frames.frames)) rest)

pub sees_behind : (given : Given) (p : Program) (old mid : Run) (n : ℕ) (self : Self) (a : Here) → reverse mid.frames.frames ≡ on_body (with_pc n) (reverse old.frames.frames)
    → mid ≡ record old { frames = mid.frames } → SeesAs given p old self a → SeesAs given p mid self a
sees_behind given p old mid n self a behind rest s =
    let same : sight p old ≡ sight p mid = sight_moves p old mid n behind rest in record {
      way = s.way;
      alike = subst (λ g. LooksLike g s.way) same s.alike;
      is = s.is ∙ ap (along_path s.way) same;
    }

-- The innermost body at an operation.

frame_below : (turns : List ℕ) (b : Frame) (fs : List Frame) (pc : ℕ) → pc_of b ≡ Some pc → frame_in (below_loops turns (b ∷ fs)) ≡ Some b
frame_below [] (Body template alternative q locals level spent) fs pc at = refl
frame_below [] (Call procedure q locals level) fs pc at = refl
frame_below [] b fs pc at = absurd (cc)
frame_below (n ∷ turns) b fs pc at = frame_below turns b fs pc at

test_below_loops : (s : Sheet) (turns : List ℕ) (b : Frame) (fs : List Frame) → test_in s (below_loops turns (b ∷ fs)) ≡ test_in s (b ∷ fs)
test_below_loops s [] b fs = refl
test_below_loops s (n ∷ turns) b fs = test_below_loops s turns b fs

level_below : (turns : List ℕ) (b : Frame) (fs : List Frame) (pc : ℕ) → pc_of b ≡ Some pc → IsSome (level_in (below_loops turns (b ∷ fs)))
level_below [] (Body template alternative q locals level spent) fs pc at = refl
level_below [] (Call procedure q locals level) fs pc at = refl
level_below [] b fs pc at = absurd (cc)
level_below (n ∷ turns) b fs pc at = level_below turns b fs pc at

-- the last node is the current one
last_by : (xs : List PathNode) (m : ℕ) (x : PathNode) → suc m ≡ length xs → slice_get xs m ≡ Some x → option_map (λ (y : PathNode). y.node) (last_of xs) ≡ Some x.node
last_by [] m x e is = absurd (omega (arith, e))
last_by (y ∷ []) zero x e is = ap (option_map (λ (z : PathNode). z.node)) is
last_by (y ∷ []) (suc m) x e is = absurd (omega (arith, e))
last_by (y ∷ z ∷ xs) zero x e is = absurd (omega (arith, e))
last_by (y ∷ z ∷ xs) (suc m) x e is = last_by (z ∷ xs) m x (omega (arith, e)) is

pub last_there : (xs : List PathNode) (x : PathNode) → slice_get xs (length xs - 1) ≡ Some x → option_map (λ (y : PathNode). y.node) (last_of xs) ≡ Some x.node
last_there [] x is = absurd (cc)
last_there (y ∷ xs) x is = last_by (y ∷ xs) (length (y ∷ xs) - 1) x (omega arith) is

pub front : (h : Ahead) (nodes : List PathNode) (given : Given) (p : Program) → h ≢ ahead.Here → still.path_before given p h nodes ≡ nodes
front ahead.Nothing nodes given p e = refl
front ahead.Here nodes given p e = absurd (e refl)
front ahead.Held nodes given p e = refl
front ahead.Ended nodes given p e = refl

abbrev trailed : List PathNode → Path
trailed xs = path_of (map (λ (x : PathNode). stand x.node x.earlier) (reverse xs))

module _ (given : Given) (p : Program) (r : Run)
    (fits : (x : PathNode) → slice_get (path r.source.stack).nodes (length (path r.source.stack).nodes - 1) ≡ Some x
    → passes (unwrap_or (test_in p.sheet (reverse r.frames.frames)) test.Document) (kind_of x.node) ≡ true)
    (apart : r.source.ahead ≢ ahead.Here) (of_sheet : IsProgramOf given.sheet given.limits p) (turns : List ℕ) (b : Frame) (fs : List Frame) (pc : ℕ) (before : reverse r.frames.frames ≡ below_loops turns (b ∷ fs)) (at_pc : pc_of b ≡ Some pc) (a : Here) (store : a.state.variables ≡ r.store) where
  abbrev body_self : Self
  body_self = still.self_of given p (unwrap_or (level_of b) 0) b fs (still.scene_by given p r.source.ahead r)

  abbrev nodes : List PathNode
  nodes = (path r.source.stack).nodes

  abbrev made : List Group → (group : ℕ) → Stored → Limits → Path → (place : ℕ) → NodeTest → Setting
  made groups group st limits way place t = record {
    vars = λ name. option_or (local_of name (locals_of b)) (seen_in (around groups group) st name);
    limits = limits;
    path = way;
    place = place;
    test = t;
  }

  long : length (map (λ (x : PathNode). stand x.node x.earlier) (reverse nodes)) ≡ length nodes
  long = length-map (reverse nodes) (λ (x : PathNode). stand x.node x.earlier) ∙ length-reverse nodes

  groups_are : given.sheet.groups ≡ p.sheet.groups
  groups_are = sym (ap (λ (s : Sheet). s.groups) of_sheet.sheet_is)

  group_is : unwrap_or (group_of p.sheet b) 0 ≡ unwrap_or (option_and_then (group_of p.sheet) (frame_in (reverse r.frames.frames))) 0
  group_is = sym (ap (λ l. unwrap_or (option_and_then (group_of p.sheet) (frame_in l)) 0) before ∙ ap (λ x. unwrap_or (option_and_then (group_of p.sheet) x) 0) (frame_below turns b fs pc at_pc))

  test_is : unwrap_or (test_in p.sheet (b ∷ fs)) test.Document ≡ unwrap_or (test_in p.sheet (reverse r.frames.frames)) test.Document
  test_is = ap (λ (x : Option NodeTest). unwrap_or x test.Document) (sym (test_below_loops p.sheet turns b fs) ∙ ap (test_in p.sheet) (sym before))

  locals_are : locals_of b ≡ option_map_or locals_of (frame_in (reverse r.frames.frames)) []
  locals_are = sym (ap (λ l. option_map_or locals_of (frame_in l) []) before ∙ ap (λ x. option_map_or locals_of x []) (frame_below turns b fs pc at_pc))

  nodes_are : still.path_before given p r.source.ahead (still.nodes_of r.source) ≡ reverse nodes
  nodes_are = front r.source.ahead (reverse nodes) given p apart

  setting_is : setting given body_self (record a { locals = named_of (locals_of b) }) ≡ along_path (trailed nodes) (sight p r)
  setting_is =
      ap (λ l. made given.sheet.groups (unwrap_or (group_of p.sheet b) 0) a.state.variables given.limits (path_of (map (λ (x : PathNode). stand x.node x.earlier) l)) (length (map (λ (x : PathNode). stand x.node x.earlier) l) - 1) (unwrap_or (test_in p.sheet (b ∷ fs)) test.Document)) nodes_are
      ∙ ap (λ n. made given.sheet.groups (unwrap_or (group_of p.sheet b) 0) a.state.variables given.limits (trailed nodes) (n - 1) (unwrap_or (test_in p.sheet (b ∷ fs)) test.Document)) long
      ∙ ap (λ gs. made gs (unwrap_or (group_of p.sheet b) 0) a.state.variables given.limits (trailed nodes) (length nodes - 1) (unwrap_or (test_in p.sheet (b ∷ fs)) test.Document)) groups_are
      ∙ ap (λ n. made p.sheet.groups n a.state.variables given.limits (trailed nodes) (length nodes - 1) (unwrap_or (test_in p.sheet (b ∷ fs)) test.Document)) group_is
      ∙ ap (λ st. made p.sheet.groups (unwrap_or (option_and_then (group_of p.sheet) (frame_in (reverse r.frames.frames))) 0) st given.limits (trailed nodes) (length nodes - 1) (unwrap_or (test_in p.sheet (b ∷ fs)) test.Document)) store
      ∙ ap (λ l. made p.sheet.groups (unwrap_or (option_and_then (group_of p.sheet) (frame_in (reverse r.frames.frames))) 0) r.store l (trailed nodes) (length nodes - 1) (unwrap_or (test_in p.sheet (b ∷ fs)) test.Document)) (sym of_sheet.limits_are)
      ∙ ap (λ t. made p.sheet.groups (unwrap_or (option_and_then (group_of p.sheet) (frame_in (reverse r.frames.frames))) 0) r.store p.limits (trailed nodes) (length nodes - 1) t) test_is
      ∙ ap (λ ls. record (along_path (trailed nodes) (sight p r)) { vars = λ name. option_or (local_of name ls) (seen_in (around p.sheet.groups (unwrap_or (option_and_then (group_of p.sheet) (frame_in (reverse r.frames.frames))) 0)) r.store name) }) locals_are

  pub sees_so : SeesAs given p r body_self (record a { locals = named_of (locals_of b) })
  sees_so = record { way = trailed nodes; alike = trails_look_alike (sight p r) fits; is = setting_is }

-- the current node passes the test by which positions count
pub fits_there : (p : Program) (r : Run) (running : Running) (o : Op) → IsAtOp p r running o → (x : PathNode) → slice_get (path r.source.stack).nodes (length (path r.source.stack).nodes - 1) ≡ Some x
    → passes (unwrap_or (test_in p.sheet (reverse r.frames.frames)) test.Document) (kind_of x.node) ≡ true
fits_there p r running o at x is =
    let b = body_goes p r at.well at.doing in
    let t = test_there p at.well.stations 0 false (reverse r.frames.frames) (standing_of r) b.body b.well in
    let now : here (way_of (path r.source.stack)) ≡ Some x.node = way_here (path r.source.stack) ∙ last_there (path r.source.stack).nodes x is in
    ap (λ (u : Option NodeTest). passes (unwrap_or u test.Document) (kind_of x.node)) t.1.0 ∙ t.1.1 x.node now

module _ (given : Given) (p : Program) (r : Run) (running : Running) (o : Op) (at : IsAtOp p r running o) where
  pub sees_as : (of_sheet : IsProgramOf given.sheet given.limits p) (turns : List ℕ) (b : Frame) (fs : List Frame) (pc : ℕ) → reverse r.frames.frames ≡ below_loops turns (b ∷ fs) → pc_of b ≡ Some pc → (a : Here) → a.state.variables ≡ r.store
      → SeesAs given p r (still.self_of given p (unwrap_or (level_of b) 0) b fs (still.scene_by given p r.source.ahead r)) (record a { locals = named_of (locals_of b) })
  sees_as of_sheet turns b fs pc before at_pc a store = sees_so given p r (fits_there p r running o at) (at.well.apart at.doing) of_sheet turns b fs pc before at_pc a store

-- the setting of a body, by its place among the frames
pub sight_is : (p : Program) (r : Run) (body : ℕ) (locals : List Local) (group : ℕ) (t : NodeTest) → body_in (reverse r.frames.frames) ≡ Some body
    → option_map locals_of (slice_get r.frames.frames body) ≡ Some locals → option_and_then (group_of p.sheet) (slice_get r.frames.frames body) ≡ Some group
    → test_in p.sheet (below (suc body) r.frames.frames) ≡ Some t
    → (record (sight p r) { vars = λ name. option_or (local_of name locals) (seen_in (around p.sheet.groups group) r.store name); test = t }) ≡ sight p r
sight_is p r body locals group t at has_locals has_group has_test =
    let b = placed_in r.frames.frames body at in
    let there : frame_in (reverse r.frames.frames) ≡ slice_get r.frames.frames body = b.1.0 ∙ sym b.1.1 in
    let ls : locals ≡ option_map_or locals_of (frame_in (reverse r.frames.frames)) [] = map_or (slice_get r.frames.frames body) locals has_locals ∙ ap (λ o. option_map_or locals_of o []) (sym there) in
    let g : group ≡ unwrap_or (option_and_then (group_of p.sheet) (frame_in (reverse r.frames.frames))) 0 =
    sym (ap (λ o. unwrap_or (option_and_then (group_of p.sheet) o) 0) there ∙ ap (λ o. unwrap_or o 0) has_group) in
    let u : t ≡ unwrap_or (test_in p.sheet (reverse r.frames.frames)) test.Document =
    sym (ap (λ (o : Option NodeTest). unwrap_or o test.Document) (sym (test_below p.sheet r.frames.frames body at) ∙ has_test)) in
    ap (λ x. record (sight p r) { vars = λ name. option_or (local_of name x) (seen_in (around p.sheet.groups group) r.store name); test = t }) ls
    ∙ ap (λ x. record (sight p r) { vars = λ name. option_or (local_of name (option_map_or locals_of (frame_in (reverse r.frames.frames)) [])) (seen_in (around p.sheet.groups x) r.store name); test = t }) g
    ∙ ap (λ x. record (sight p r) { test = x }) u
  where
    map_or : (o : Option Frame) (locals : List Local) → option_map locals_of o ≡ Some locals → locals ≡ option_map_or locals_of o []
    map_or None locals e = absurd (cc)
    map_or (Some x) locals e = let same : locals_of x ≡ locals = cc in sym same
