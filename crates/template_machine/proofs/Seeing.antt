-- What the expressions of a body see is there.
use Rattle.std.proofs.Common.{◌≡◌, ℕ, suc, ◌<◌, ◌≤◌, Bool, true, false, List, [], ◌∷◌, ◌++◌, length, reverse, Option, Some, None, IsSome, refl, ap, sym, subst, ◌∙◌, arith}
use Rattle.std.specs.List.{slice_get}
use Rattle.std.specs.Option.{option_and_then, option_map, option_map_or}
use Rattle.std.proofs.lemmas.Bool.{false≢true}
use Rattle.std.proofs.lemmas.List.{length-reverse, reverse-append, reverse-reverse, take-append-le}
use Rattle.frame_stack.specs.declared.frame.Frame.{Frame}
use Rattle.frame_stack.specs.declared.frame.Frame.TheVariants.{Body, Call, Loop}
use Rattle.match_patterns.specs.Fits.{test_of}
use Rattle.node_stack.specs.Path.{Node, kind_of}
use Rattle.node_stack.specs.Stack.{path}
use Rattle.node_stack.specs.Test.{passes}
use Rattle.sheet_model.specs.declared.sheet.Procedure.{Procedure}
use Rattle.sheet_model.specs.declared.sheet.Sheet.{Sheet}
use Rattle.sheet_model.specs.declared.sheet.Template.{Template}
use Rattle.stx_base.specs.declared.node.NodeTest.{NodeTest}
use Rattle.stxpath_syntax.specs.declared.expr.Alternative.{Alternative}
use Rattle.template_machine.specs.Bodies.{below, body_in, frame_in, level_in, level_of}
use Rattle.template_machine.specs.Contexts.{Station}
use Rattle.template_machine.specs.Seen.{ParentsStandBefore}
use Rattle.template_machine.specs.Standing.{Standing, standing_of, writing_over}
use Rattle.template_machine.specs.Steps.{Sees, group_of, test_in}
use Rattle.template_machine.specs.Ways.{IsWay, first_in, here, way_of}
use Rattle.template_machine.specs.Well.{AreWell, IsSteady, PassesBy, buffers_of}
use Rattle.template_machine.specs.Working.{Runs}
use Rattle.template_machine.specs.declared.program.Program.{Program}
use Rattle.template_machine.specs.declared.run.Run.{Run}
use Rattle.template_machine.proofs.Around.{tree_parents}
use Rattle.template_machine.proofs.Below.{below_all}
use Rattle.template_machine.proofs.Nodes.{is_way}
use Rattle.template_machine.proofs.Operating.{body_goes}
use Rattle.template_machine.proofs.Placing.{placed_in}
use Rattle.template_machine.proofs.Regions.{writing_way}
use Rattle.template_machine.proofs.Ways.{way_here, way_told}

-- a node is the current one
pub node_there : (nodes : List Node) → IsWay nodes → (n : Node) × (first_in nodes ≡ Some n)
node_there [] h = absurd h
node_there (x ∷ xs) h = (x, refl)

-- what there is
pub some_there : {A : Type 0} (o : Option A) → IsSome o → (x : A) × (o ≡ Some x)
some_there None h = absurd (false≢true h)
some_there (Some x) h = (x, refl)

-- what something is found in
pub and_then_from : {A B : Type 0} (f : A → Option B) (o : Option A) (y : B) → option_and_then f o ≡ Some y → (x : A) × (o ≡ Some x)
and_then_from f None y e = absurd (cc)
and_then_from f (Some x) y e = (x, refl)

pub passes_by : (p : Program) (t : Template) (alternative : ℕ) (o : Option Node) → PassesBy p t alternative o
    → (a : Alternative) × ((slice_get t.pattern.alternatives alternative ≡ Some a) × ((n : Node) → o ≡ Some n → passes (test_of a) (kind_of n) ≡ true))
passes_by p t alternative None h = absurd h
passes_by p t alternative (Some m) h =
    (h.0, (h.1.0, λ n e. let same : m ≡ n = cc in subst (λ k. passes (test_of h.0) (kind_of k) ≡ true) same h.1.1))

module _ (p : Program) (stations : List Station) where
  -- a body stands in a group
  group_there : (loops : ℕ) (waits : Bool) (fs : List Frame) (s : Standing) (x : Frame) → IsSome (level_in fs) → AreWell p stations loops waits fs s → frame_in fs ≡ Some x
      → (g : ℕ) × (group_of p.sheet x ≡ Some g)
  group_there loops waits [] s x some w is = absurd (false≢true some)
  group_there loops waits (Loop turn ∷ fs) s x some w is = group_there (suc loops) waits fs s x some w is
  group_there loops waits (Body template alternative pc locals level spent ∷ fs) s x some w is =
      let same : Body template alternative pc locals level spent ≡ x = cc in
      (w.1.0.group, ap (group_of p.sheet) (sym same) ∙ ap (option_map (λ (t : Template). t.group)) w.1.1.1.template_is)
  group_there loops waits (Call procedure pc locals level ∷ fs) s x some w is =
      let same : Call procedure pc locals level ≡ x = cc in
      (w.1.0.group, ap (group_of p.sheet) (sym same) ∙ ap (option_map (λ (q : Procedure). q.group)) w.1.1.1)
  group_there loops waits (f ∷ fs) s x some w is = absurd (false≢true some)

  -- the current node passes the test by which positions count
  pub test_there : (loops : ℕ) (waits : Bool) (fs : List Frame) (s : Standing) → IsSome (level_in fs) → AreWell p stations loops waits fs s
      → (t : NodeTest) × ((test_in p.sheet fs ≡ Some t) × ((n : Node) → here s.source.way ≡ Some n → passes t (kind_of n) ≡ true))
  test_there loops waits [] s some w = absurd (false≢true some)
  test_there loops waits (Loop turn ∷ fs) s some w = test_there (suc loops) waits fs s some w
  test_there loops waits (Body template alternative pc locals level spent ∷ fs) s some w =
      let inner = writing_over (buffers_of p w.0.writing) s in
      let a = passes_by p w.1.0 alternative (here inner.source.way) w.1.1.1.passes_by in (
        test_of a.0,
        (
          ap (λ o. option_map test_of (slice_get (option_map_or (λ (t : Template). t.pattern.alternatives) o []) alternative)) w.1.1.1.template_is
              ∙ ap (option_map test_of) a.1.0,
          λ n e. a.1.1 n (ap here (writing_way (buffers_of p w.0.writing) s) ∙ e),
        ),
      )
  test_there loops waits (Call procedure pc locals level ∷ fs) s some w =
      let inner = writing_over (buffers_of p w.0.writing) s in
      let t = test_there 0 false fs inner (subst (λ o. IsSome o) (sym w.1.1.2) refl) w.1.1.3 in
      (t.0, (t.1.0, λ n e. t.1.1 n (ap here (writing_way (buffers_of p w.0.writing) s) ∙ e)))
  test_there loops waits (f ∷ fs) s some w = absurd (false≢true some)

-- the frames below the innermost body, with it

below_before : (n : ℕ) (xs zs : List Frame) → n ≤ length xs → below n (xs ++ zs) ≡ below n xs
below_before n xs zs h = ap reverse (take-append-le n xs zs h)

below_whole : (n : ℕ) (xs : List Frame) → n ≡ length xs → below n xs ≡ reverse xs
below_whole n xs e = ap (λ k. below k xs) e ∙ below_all xs

test_placed : (sheet : Sheet) (ys : List Frame) (n : ℕ) → body_in ys ≡ Some n → (n < length ys) × (test_in sheet (below (suc n) (reverse ys)) ≡ test_in sheet ys)
test_placed sheet [] n at = absurd (cc)
test_placed sheet (Loop turn ∷ ys) n at =
    let t = test_placed sheet ys n at in (
      omega (arith, t.0),
      ap (λ l. test_in sheet (below (suc n) l)) (reverse-append (Loop turn ∷ []) ys)
          ∙ ap (test_in sheet) (below_before (suc n) (reverse ys) (Loop turn ∷ []) (omega (arith, t.0, length-reverse ys))) ∙ t.1,
    )
test_placed sheet (Body template alternative pc locals level spent ∷ ys) n at =
    let long : length ys ≡ n = cc in
    let zs = Body template alternative pc locals level spent ∷ ys in
    (omega (arith, long), ap (test_in sheet) (below_whole (suc n) (reverse zs) (omega (arith, long, length-reverse zs)) ∙ reverse-reverse zs))
test_placed sheet (Call procedure pc locals level ∷ ys) n at =
    let long : length ys ≡ n = cc in
    let zs = Call procedure pc locals level ∷ ys in
    (omega (arith, long), ap (test_in sheet) (below_whole (suc n) (reverse zs) (omega (arith, long, length-reverse zs)) ∙ reverse-reverse zs))
test_placed sheet (f ∷ ys) n at = absurd (cc)

pub test_below : (sheet : Sheet) (xs : List Frame) (n : ℕ) → body_in (reverse xs) ≡ Some n → test_in sheet (below (suc n) xs) ≡ test_in sheet (reverse xs)
test_below sheet xs n at = ap (λ l. test_in sheet (below (suc n) l)) (sym (reverse-reverse xs)) ∙ (test_placed sheet (reverse xs) n at).1

-- the body of a run, whose frames stand on what the run stands on
pub sees_by : (p : Program) (r : Run) (body : ℕ) (stations : List Station) (loops : ℕ) (waits : Bool) → IsSteady p r → IsSome (level_in (reverse r.frames.frames))
    → AreWell p stations loops waits (reverse r.frames.frames) (standing_of r) → body_in (reverse r.frames.frames) ≡ Some body → Sees p r body
sees_by p r body stations loops waits s some w at =
    let fs = reverse r.frames.frames in
    let a = placed_in r.frames.frames body at in
    let there : slice_get r.frames.frames body ≡ frame_in fs = a.1.1 ∙ sym a.1.0 in
    let l = some_there (level_in fs) some in
    let g = group_there p stations loops waits fs (standing_of r) a.0 some w a.1.0 in
    let t = test_there p stations loops waits fs (standing_of r) some w in
    let n = node_there (way_of (path r.source.stack)).nodes (is_way r.source.stack) in
    record {
      level = l.0;
      level_is = ap (option_and_then level_of) there ∙ l.1;
      group = g.0;
      group_is = ap (option_and_then (group_of p.sheet)) a.1.1 ∙ g.1;
      test = t.0;
      test_is = test_below p.sheet r.frames.frames body at ∙ t.1.0;
      told = way_told (path r.source.stack) n.0 t.0 (sym (way_here (path r.source.stack)) ∙ n.1) (t.1.1 n.0 n.1);
      parents = subst (λ (x : Sheet). ParentsStandBefore x.groups) (sym s.program.sheet_is) (tree_parents s.sheet.groups s.sound.groups);
      sized = s.groups;
      root = s.program.root_is;
    }

-- a body that goes on
pub sees : (p : Program) (r : Run) (body : ℕ) → Runs p r body → Sees p r body
sees p r body h =
    let b = body_goes p r h.well h.doing in sees_by p r body h.well.stations 0 false h.well.steady b.body b.well h.place
