-- How a run begins: all variables are made, and then the document node is taken.
use Rattle.std.proofs.Common.{◌≡◌, ◌≤◌, ◌-◌, ℕ, zero, suc, Bool, true, false, List, [], ◌∷◌, drop, length, map, reverse, take, Option, Some, None, Result, Ok, Err, refl, ap, sym, subst, ◌∙◌, arith}
use Rattle.std.specs.Prelude.{if◌then◌else◌, option_map, replicate, slice_get}
use Rattle.stx_base.specs.Course.{Halt, Ret, Same, and_then}
use Rattle.stx_base.specs.declared.limits.Limits.{Limits}
use Rattle.stx_base.specs.declared.node.NodeTest.{NodeTest}
use Rattle.stx_base.specs.declared.node.NodeTest.TheVariants as test
use Rattle.stx_base.proofs.Course.{funext, same_equal}
use Rattle.event_buffers.specs.Buffers.{Buffers}
use Rattle.event_buffers.specs.Declaring.{declared_by}
use Rattle.frame_stack.specs.declared.frame.Frame.{Frame}
use Rattle.node_stack.specs.Path.{Document, Path, PathNode, document_alone, first_node, kind_of}
use Rattle.node_stack.specs.Stack.{path, path_node}
use Rattle.node_stack.specs.Test.{passes}
use Rattle.result_writer.specs.Target.{Left, Target, nothing}
use Rattle.sheet_model.specs.declared.sheet.Group.{Group}
use Rattle.sheet_model.specs.declared.sheet.Sheet.{Sheet}
use Rattle.var_store.specs.Copies.{Stored}
use Rattle.var_store.specs.declared.bound.Bound.{Bound}
use Rattle.sheet_model.specs.declared.sheet.Variable.{Variable}
use Rattle.xml_events.specs.Tree.{Forest}
use Rattle.template_machine.specs.Behind.{StepsFrom, head_taken}
use Rattle.template_machine.specs.Declaring.{at_start, makes, makes_all}
use Rattle.template_machine.specs.Ending.{Said}
use Rattle.template_machine.specs.Entering.{IsUncounted}
use Rattle.template_machine.specs.Giving.{document_of, params_of, whole}
use Rattle.template_machine.specs.Job.{Does, Given, Here, State, single}
use Rattle.template_machine.specs.Made.{OnlyStores}
use Rattle.template_machine.specs.Meaning.{asked_first, at_document, ending_of, first_here}
use Rattle.template_machine.specs.Onward.{StartsWith}
use Rattle.template_machine.specs.Ordinary.{IsAlone}
use Rattle.template_machine.specs.Passing.{node}
use Rattle.template_machine.specs.Programs.{IsProgramOf}
use Rattle.template_machine.specs.Starting.{IsFresh, IsReady}
use Rattle.template_machine.specs.Still as still
use Rattle.template_machine.specs.Still.{nodes_of}
use Rattle.template_machine.specs.Stepwise.{Flat_does, begun, flat_code, lifted}
use Rattle.template_machine.specs.Trail.{document, stand}
use Rattle.template_machine.specs.Varying.{Declares, HasMade, Makes, PassesTest, with_store}
use Rattle.template_machine.specs.declared.machine.Machine.{Machine}
use Rattle.template_machine.specs.declared.program.Program.{Program}
use Rattle.template_machine.specs.declared.run.Run.{Run}
use Rattle.template_machine.specs.declared.run.Step.{Step}
use Rattle.template_machine.specs.declared.source.Ahead.{Ahead}
use Rattle.template_machine.specs.declared.source.Ahead.TheVariants as ahead
use Rattle.template_machine.specs.declared.stop.Stop.{Stop}
use Rattle.template_machine.proofs.Attributed.{all_dropped, aside_there, lifted_then, taken_at}
use Rattle.template_machine.proofs.Composed.{proceeds_by}
use Rattle.template_machine.proofs.PassedOn.{stops_first}
use Rattle.template_machine.proofs.Saying.{yields_stops}
use Rattle.template_machine.proofs.Untouched.{untouched_to}

-- The state at the start.

-- one copy of a group's variables, in which there is none
abbrev bare_copy : List (List Bound)
bare_copy = [] ∷ []

bare_copies : (gs : List Group) → replicate (length gs) bare_copy ≡ map (λ (g : Group). bare_copy) gs
bare_copies [] = refl
bare_copies (g ∷ gs) = ap (λ (l : Stored). bare_copy ∷ l) (bare_copies gs)

-- the buffers of a sheet, with their declared content
abbrev declared_in : Limits → Sheet → Buffers
declared_in l s = record { limit = l.buffer; elements = l.elements; buffers = map declared_by s.buffers }

module _ (given : Given) (p : Program) (program : IsProgramOf given.sheet given.limits p) where
  abbrev made : (fuel : ℕ) → Stored → Buffers → Left → List ℕ → State
  made fuel store buffers left targets = record { fuel = fuel; variables = store; buffers = buffers; result = left; targets = reverse targets }

  pub starts_at : (r : Run) (left : Left) → IsFresh p r → left ≡ nothing → still.state_of given p r left ≡ at_start given
  starts_at r left fresh bare =
      ap (λ n. made n r.store r.putting.buffers left r.putting.targets) (fresh.fuel ∙ ap (λ (l : Limits). l.fuel) program.limits_are)
      ∙ ap (λ (s : Stored). made given.limits.fuel s r.putting.buffers left r.putting.targets) (fresh.store ∙ bare_copies p.sheet.groups ∙ ap (λ (s : Sheet). map (λ (g : Group). bare_copy) s.groups) program.sheet_is)
      ∙ ap (λ bs. made given.limits.fuel (map (λ (g : Group). bare_copy) given.sheet.groups) bs left r.putting.targets)
      (fresh.buffers ∙ ap (λ (l : Limits). declared_in l p.sheet) program.limits_are ∙ ap (λ (s : Sheet). declared_in given.limits s) program.sheet_is)
      ∙ ap (λ l. made given.limits.fuel (map (λ (g : Group). bare_copy) given.sheet.groups) (declared_in given.limits given.sheet) l r.putting.targets) bare
      ∙ ap (λ ts. made given.limits.fuel (map (λ (g : Group). bare_copy) given.sheet.groups) (declared_in given.limits given.sheet) nothing ts) fresh.targets

-- All variables are made.

taken_whole : {A : Type 0} (xs : List A) (n : ℕ) → length xs ≤ n → take n xs ≡ take (length xs) xs
taken_whole [] zero long = refl
taken_whole [] (suc n) long = refl
taken_whole (x ∷ xs) zero long = absurd (omega (arith, long))
taken_whole (x ∷ xs) (suc n) long = ap (λ l. x ∷ l) (taken_whole xs n (omega (arith, long)))

pub made_whole : (p : Program) (is : Variable → Bool) (t : NodeTest) (old now : Run) (n : ℕ) → length p.sheet.variables ≤ n → HasMade p is n t old now → HasMade p is (length p.sheet.variables) t old now
made_whole p is t old now n long made = record {
  rest = made.rest;
  does = λ given program params self sees st same go.
      let vs = p.sheet.variables in
      made.does given program params self sees st same go
      ∙ ap (λ l. makes given is l (drop n vs) self (with_store now st) go) (taken_whole vs n long)
      ∙ ap (λ l. makes given is (take (length vs) vs) l self (with_store now st) go) (all_dropped vs n long ∙ sym (all_dropped vs (length vs) (omega arith)));
}

-- The document node alone.

pub document_stands : (earlier : NodeTest → ℕ) → ((t : NodeTest) → earlier t ≡ 0) → stand Document earlier ≡ document
document_stands earlier none = ap (λ e. record { node = Document; earlier = e }) (funext (λ t. by t (passes t (kind_of Document))))
  where
    by : (t : NodeTest) (b : Bool) → (if b then earlier t else 0) ≡ 0
    by t true = none t
    by t false = refl

module _ (given : Given) (p : Program) where
  -- what follows the run's variables
  abbrev first_node_taken : Forest → State → Does
  first_node_taken tree st = and_then (node given (asked_first given) (document ∷ []) (first_here given tree st)) (λ a. Halt (ending_of given a.state.result))

  abbrev last_of_all : Here → Flat_does
  last_of_all a = Ret (begun (at_document given) a)

  pub document_taken : (m : Run) (limit : ℕ) (left : Left) (tree : Forest) → m.source.ahead ≡ ahead.Nothing → reverse m.frames.frames ≡ [] → path m.source.stack ≡ document_alone limit
      → lifted (first_node_taken tree (still.state_of given p m left)) last_of_all ≡ head_taken given p m left (document_of tree)
  document_taken m limit left tree unknown none alone =
      let st = still.state_of given p m left in
      let held = still.held_of given p m in
      let aside = aside_there given p m in
      let f = document_of tree in
      let ends : Here → Flat_does = λ a. Halt (ending_of given a.state.result) in
      lifted_then (node given (asked_first given) (document ∷ []) (first_here given tree st)) (λ a. Halt (ending_of given a.state.result)) last_of_all
      ∙ ap (λ s. lifted (node given (asked_first given) (s ∷ []) (first_here given tree st)) ends) (sym (document_stands (λ t. 0) (λ t. refl)))
      ∙ sym (ap (λ (q : Path). taken_at given p [] ahead.Nothing (reverse q.nodes) held aside st f) alone)
      ∙ sym (ap (λ h. taken_at given p [] h (nodes_of m.source) held aside st f) unknown)
      ∙ sym (ap (λ fs. taken_at given p fs m.source.ahead (nodes_of m.source) held aside st f) none)

  -- what a run of the sheet does, by what making the variables leaves
  pub whole_made : (r m : Run) (limit : ℕ) (left : Left) (tree : Forest) → IsProgramOf given.sheet given.limits p → IsFresh p r → left ≡ nothing
      → makes_all given (at_document given) (still.state_of given p r left) (first_node_taken tree) ≡ first_node_taken tree (still.state_of given p m left)
      → m.source.ahead ≡ ahead.Nothing → reverse m.frames.frames ≡ [] → path m.source.stack ≡ document_alone limit
      → whole given tree ≡ head_taken given p m left (document_of tree)
  whole_made r m limit left tree program fresh bare makes unknown none alone =
      ap (λ st. lifted (makes_all given (at_document given) st (first_node_taken tree)) last_of_all) (sym (starts_at given p program r left fresh bare))
      ∙ ap (λ x. lifted x last_of_all) makes
      ∙ document_taken m limit left tree unknown none alone

-- The document node stands for the declarations.

document_passes : (limit : ℕ) (q : Path) (t : NodeTest) → q ≡ document_alone limit → t ≡ test.Document → (x : PathNode) → slice_get q.nodes (length q.nodes - 1) ≡ Some x → passes t (kind_of x.node) ≡ true
document_passes limit q t alone same x is =
    let first : Some (first_node Document) ≡ Some x = sym (ap (λ (q : Path). slice_get q.nodes (length q.nodes - 1)) alone) ∙ is in
    let node : first_node Document ≡ x = cc in
    ap (λ u. passes u (kind_of x.node)) same ∙ ap (λ (y : PathNode). passes test.Document (kind_of y.node)) (sym node)

pub document_root : (p : Program) → IsReady p → p.test_of_root ≡ test.Document
document_root p ready = ready.program.root_is

pub fresh_passes : (p : Program) (r : Run) (t : NodeTest) → IsFresh p r → t ≡ test.Document → PassesTest t r
fresh_passes p r t fresh same = document_passes p.limits.depth (path r.source.stack) t fresh.source.path_is same

pub fresh_declares : (given : Given) (p : Program) (r : Run) (t : NodeTest) → IsFresh p r → t ≡ test.Document → Declares t r (at_document given)
fresh_declares given p r t fresh same = record {
  test = sym same;
  trail = ap (λ s. s ∷ []) (sym (document_stands (λ t. 0) (λ t. refl))) ∙ sym (ap (λ (q : Path). still.trail_of (reverse q.nodes)) fresh.source.path_is);
}

pub fresh_alone : (p : Program) (r : Run) → IsFresh p r → IsAlone p r
fresh_alone p r fresh = record {
  origin = fresh.source.origin_is;
  outer = fresh.outer;
  aside = fresh.aside;
  held = fresh.source.held_is;
  counted = λ e. absurd (let no : ahead.Nothing ≡ ahead.Here = sym fresh.source.ahead_is ∙ e in cc);
  whole = λ e. absurd (let no : ahead.Nothing ≡ ahead.Ended = sym fresh.source.ahead_is ∙ e in cc);
  untouched = untouched_to [] (reverse r.frames.frames) (nodes_of r.source) (nodes_of r.source) (sym (ap reverse fresh.frames)) refl (λ e. absurd (cc));
  fuel = omega (arith, fresh.fuel);
}

-- no child of the document node is counted yet
pub stores_uncounted : (p : Program) (r m : Run) → IsFresh p r → OnlyStores r m → IsUncounted m
stores_uncounted p r m fresh only x xs e =
    let nodes : nodes_of m.source ≡ first_node Document ∷ [] = ap (λ (y : Run). nodes_of y.source) only.rest ∙ ap (λ (q : Path). reverse q.nodes) fresh.source.path_is in
    let same : first_node Document ≡ x = first_same (sym nodes ∙ e) in
    ap (λ (y : PathNode). y.children.passing) (sym same)
  where
    first_same : {y z : PathNode} {ys zs : List PathNode} → y ∷ ys ≡ z ∷ zs → y ≡ z
    first_same e = cc

pub stores_alone : (p : Program) (r m : Run) → OnlyStores r m → IsAlone p r → IsAlone p m
stores_alone p r m only alone =
    subst (IsAlone p) (sym only.rest)
    (record { origin = alone.origin; outer = alone.outer; aside = alone.aside; held = alone.held; counted = alone.counted; whole = alone.whole; untouched = alone.untouched; fuel = alone.fuel })

module _ {S : Type 0} (output : S → Target) (told : S → S → List Said → Type 0) (w : Machine) (fresh : IsFresh w.program w.run) (document_first : w.program.test_of_root ≡ test.Document) (m : Run) where
  abbrev made_from : Given → (earlier coming : List Variable) → State → (State → Does) → Does
  made_from given earlier coming st go = makes given (λ (v : Variable). true) earlier coming (at_document given) (record st { variables = m.store }) go

  made_so : (given : Given) → IsProgramOf given.sheet given.limits w.program → given.params ≡ params_of w → Makes w.program (λ (v : Variable). true) w.program.test_of_root (Ok tt) w.run m → OnlyStores w.run m
      → (left : Left) (go : State → Does)
      → makes_all given (at_document given) (still.state_of given w.program w.run left) go ≡ go (still.state_of given w.program m left)
  made_so given program params makes only left go =
      let p = w.program in
      let st = still.state_of given p w.run left in
      makes.does given program params (at_document given) (fresh_declares given p w.run p.test_of_root fresh document_first) st refl go
      ∙ ap (λ vs. made_from given (take (length p.sheet.variables) p.sheet.variables) vs st go) (all_dropped p.sheet.variables (length p.sheet.variables) (omega arith))
      ∙ sym (ap (λ (x : Run). go (record st { variables = m.store; fuel = x.fuel; buffers = x.putting.buffers; targets = reverse x.putting.targets })) only.rest)

  pub begins_made : (result : Result Step Stop) (s : Run) (out now : S) → Makes w.program (λ (v : Variable). true) w.program.test_of_root (Ok tt) w.run m → OnlyStores w.run m
      → StepsFrom output told w.program (λ given left f. head_taken given w.program m left f) result s out now → StartsWith output told w result s out now
  begins_made result s out now makes only steps = record {
    said = steps.said;
    tells = steps.tells;
    alone = steps.alone;
    over = steps.over;
    does = λ given docs program params limit bare tree.
        let left = (output out).left in
        proceeds_by given w.program result (whole given tree) (head_taken given w.program m left (document_of tree)) steps.said (still.still given w.program s (output now).left (document_of tree))
        (same_equal (flat_code given)
        (whole_made given w.program w.run m w.program.limits.depth left tree program fresh bare (made_so given program params makes only left (first_node_taken given w.program tree))
        (ap (λ (x : Run). x.source.ahead) only.rest ∙ fresh.source.ahead_is) (ap (λ (x : Run). reverse x.frames.frames) only.rest ∙ ap reverse fresh.frames)
        (ap (λ (x : Run). path x.source.stack) only.rest ∙ fresh.source.path_is)))
        (steps.does given docs program params limit (document_of tree));
  }

  -- or not
  pub begins_not : ((s : S) → told s s []) → (e : Stop) (out : S) → Makes w.program (λ (v : Variable). true) w.program.test_of_root (Err e) w.run m → StartsWith output told w (Err e) m out out
  begins_not quiet e out makes = record {
    said = [];
    tells = quiet out;
    alone = tt;
    over = λ x. absurd (cc);
    does = λ given docs program params limit bare tree.
        let p = w.program in
        let left = (output out).left in
        let st = still.state_of given p w.run left in
        let go : State → Does = first_node_taken given p tree in
        stops_first given p e (whole given tree) (makes_all given (at_document given) st go) (go st) (last_of_all given p) [] (still.still given p m left (document_of tree))
        (same_equal (flat_code given) (ap (λ x. lifted (makes_all given (at_document given) x go) (last_of_all given p)) (sym (starts_at given p program w.run left fresh bare))))
        (yields_stops (Unit {0}) e (makes_all given (at_document given) st go) (go st) (λ (done : Unit {0}). go st)
        (makes given program params (at_document given) (fresh_declares given p w.run p.test_of_root fresh document_first) st refl go));
  }
