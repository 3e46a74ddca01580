-- A list of attributes goes on.
use Rattle.std.proofs.Common.{◌≡◌, ◌≢◌, ◌≤◌, ℕ, zero, suc, ◌+◌, Bool, true, false, List, [], ◌∷◌, ◌++◌, drop, length, map, reverse, take, Option, Some, None, Result, Ok, Err, refl, ap, sym, subst, ◌∙◌, add-one, arith}
use Rattle.std.specs.Prelude.{option_map, slice_get, unwrap_or}
use Rattle.std.proofs.lemmas.List.{reverse-append}
use Rattle.stx_base.specs.Course.{Ask, Halt, Ret, Same, Say, and_then}
use Rattle.stx_base.specs.declared.name.Attr.{Attr}
use Rattle.stx_base.proofs.Course.{funext, same_equal}
use Rattle.frame_stack.specs.Stack.{FrameStack}
use Rattle.frame_stack.specs.declared.frame.Frame.{Frame}
use Rattle.frame_stack.specs.declared.frame.Frame.TheVariants.{Attributes, Body, Call, Loop, Pass, Region, Skip, Source}
use Rattle.instr_code.specs.Running as running
use Rattle.node_stack.specs.Counts.{none}
use Rattle.node_stack.specs.Path as paths
use Rattle.node_stack.specs.Path.{Attribute, Node, PathNode, current, is_attribute}
use Rattle.node_stack.specs.Stack.{path, path_node}
use Rattle.result_writer.specs.Target.{Left}
use Rattle.xml_events.specs.Tree.{Begun, End, Future}
use Rattle.template_machine.specs.Behind.{MovesFrom, asks_in, head_taken, instr_done}
use Rattle.template_machine.specs.Bodies.{skipped_in, spent_in}
use Rattle.template_machine.specs.Entering.{IsUncounted}
use Rattle.template_machine.specs.Job.{Asked, Does, Given, Here, Main, State, fresh, single}
use Rattle.template_machine.specs.Lists.{rest_of}
use Rattle.template_machine.specs.Ordinary.{AreUntouched, IsAlone, is_on_attribute, spent_of}
use Rattle.template_machine.specs.Passing.{attributes, node}
use Rattle.template_machine.specs.Programs.{IsProgramOf}
use Rattle.template_machine.specs.Sources.{held_node}
use Rattle.template_machine.specs.Still as still
use Rattle.template_machine.specs.Still.{Lists, Returns, Scene, first_node, nodes_of, trail_of}
use Rattle.template_machine.specs.Stepwise.{Flat_does, Working, flat_code, lifted}
use Rattle.template_machine.specs.Trail.{passing_among, stands}
use Rattle.template_machine.specs.Well.{AsksBefore}
use Rattle.template_machine.specs.declared.program.Program.{Program}
use Rattle.template_machine.specs.declared.run.Doing.TheVariants as doing
use Rattle.template_machine.specs.declared.run.Run.{Run}
use Rattle.template_machine.specs.declared.run.Step.{Step}
use Rattle.template_machine.specs.declared.source.Ahead.{Ahead}
use Rattle.template_machine.specs.declared.source.Ahead.TheVariants as ahead
use Rattle.template_machine.specs.declared.source.Source as sources
use Rattle.template_machine.specs.declared.stop.Stop.{Stop}
use Rattle.template_machine.specs.Ways.{here, way_of}
use Rattle.template_machine.proofs.Finished.{attribute_now, current_there, first_now, moves_by}
use Rattle.template_machine.proofs.Untouched.{own_spent, untouched_to}
use Rattle.template_machine.proofs.Untaken.{around_node}
use Rattle.template_machine.proofs.Looking.{asks_level}

-- what is done, and then what follows
pub lifted_then : (x : Does) (k : Here → Does) (j : Here → Flat_does) → lifted (and_then x k) j ≡ lifted x (λ b. lifted (k b) j)
lifted_then (Ret a) k j = refl
lifted_then (Halt e) k j = refl
lifted_then (Say o x) k j = ap (Say o) (lifted_then x k j)
lifted_then (Ask q h) k j = ap (λ g. Ask (running.Given q) g) (funext (λ (w : Working). lifted_then (h w.here) k j))

-- a list, by what stands at a place of it
pub split_at : {A : Type 0} (xs : List A) (n : ℕ) (a : A) → slice_get xs n ≡ Some a → (drop n xs ≡ a ∷ drop (suc n) xs) × (take (suc n) xs ≡ take n xs ++ a ∷ [])
split_at [] n a is = absurd (let no : None ≡ Some a = is in cc)
split_at (x ∷ xs) zero a is = let same : x ≡ a = one is in (ap (λ y. y ∷ xs) same, ap (λ y. y ∷ []) same)
  where
    one : {A : Type 0} {x y : A} → Some x ≡ Some y → x ≡ y
    one e = cc
split_at (x ∷ xs) (suc n) a is = let s = split_at xs n a is in (s.0, ap (λ l. x ∷ l) s.1)

pub all_dropped : {A : Type 0} (xs : List A) (n : ℕ) → length xs ≤ n → drop n xs ≡ []
all_dropped [] zero long = refl
all_dropped [] (suc n) long = refl
all_dropped (x ∷ xs) zero long = absurd (omega (arith, long))
all_dropped (x ∷ xs) (suc n) long = all_dropped xs n (omega (arith, long))

module _ (given : Given) (p : Program) where
  -- behind the attributes
  abbrev behind : List Frame → Scene → Future → State → Flat_does
  behind gs c f st = still.goes_on_at given p (unwrap_or (spent_in gs) true) (first_node c.nodes) (rest_of c.nodes) f (λ f. still.rest given p Returns [] gs c f) st

  -- those that are still to come, and what follows
  abbrev goes : (earlier coming : List Attr) → Asked → List Frame → Scene → Future → State → Flat_does
  goes earlier coming asked gs c f st = lifted (attributes given earlier coming asked st (λ st. Ret (single st))) (λ b. behind gs c f b.state)

  abbrev asks : (asked : ℕ) → List Frame → Scene → Asked
  asks asked gs c = still.asked_by given p asked (still.locals_in given p gs) (fresh Main) (trail_of c.nodes)

  next_goes : (attrs : List Attr) (next : ℕ) (a : Attr) (asked : Asked) (gs : List Frame) (c : Scene) (f : Future) (st : State) → slice_get attrs next ≡ Some a
      → goes (take next attrs) (drop next attrs) asked gs c f st
      ≡ lifted (node given asked (stands (Attribute a) (passing_among (take next attrs)) asked.within) (single st)) (λ b. goes (take (suc next) attrs) (drop (suc next) attrs) asked gs c f b.state)
  next_goes attrs next a asked gs c f st is =
      let s = split_at attrs next a is in
      let x = node given asked (stands (Attribute a) (passing_among (take next attrs)) asked.within) (single st) in
      ap (λ l. goes (take next attrs) l asked gs c f st) s.0
      ∙ lifted_then x (λ b. attributes given (take next attrs ++ a ∷ []) (drop (suc next) attrs) asked b.state (λ st. Ret (single st))) (λ b. behind gs c f b.state)
      ∙ ap (λ l. lifted x (λ b. goes l (drop (suc next) attrs) asked gs c f b.state)) (sym s.1)

  -- A run of which the innermost list is of attributes, by what is known of the nodes around them.

  abbrev scene_in : List PathNode → List (Option PathNode) → Scene
  scene_in ns aside = record { nodes = ns; source = Main; around = []; aside = aside }

  abbrev pub aside_there : Run → List (Option PathNode)
  aside_there r = map (option_map path_node) (reverse r.aside.items)

  abbrev goes_at : (next asked : ℕ) → List Frame → Ahead → List PathNode → (held : Option PathNode) → List (Option PathNode) → State → Future → Flat_does
  goes_at next asked gs h ns held aside st f =
      let c = scene_in (still.path_before given p h ns) aside in
      let attrs = paths.attributes (Some (first_node c.nodes)) in
      goes (take next attrs) (drop next attrs) (asks asked gs c) gs c (still.known_before given p h ns held f) st

  attributes_still : (r : Run) (next asked : ℕ) (gs : List Frame) (left : Left) (f : Future) → r.doing ≡ doing.List → reverse r.frames.frames ≡ Attributes next asked ∷ gs
      → still.still given p r left f ≡ goes_at next asked gs r.source.ahead (nodes_of r.source) (still.held_of given p r) (aside_there r) (still.state_of given p r left) f
  attributes_still r next asked gs left f list before =
      ap (λ d. still.doing_now given p d r.source.ahead (reverse r.frames.frames) r left f) list ∙ ap (λ fs. still.doing_now given p doing.List r.source.ahead fs r left f) before

  abbrev pub taken_at : List Frame → Ahead → List PathNode → (held : Option PathNode) → List (Option PathNode) → State → Future → Flat_does
  taken_at fs h ns held aside st f =
      let c = scene_in (still.path_before given p h ns) aside in
      still.goes_on_at given p false (first_node c.nodes) (rest_of c.nodes) (still.known_before given p h ns held f)
      (λ g a. lifted (node given (asks_in given p fs (still.node_over c)) (trail_of c.nodes) a) (still.rest given p Lists [] fs (still.node_over c) g)) st

  abbrev attribute_node : (attrs : List Attr) → (next : ℕ) → Attr → PathNode
  attribute_node attrs next a = record { node = Attribute a; earlier = passing_among (take next attrs); children = none; waited = false }

  attribute_at : (h : Ahead) (ns : List PathNode) (held : Option PathNode) (aside : List (Option PathNode)) (next asked : ℕ) (gs : List Frame) (a : Attr) (st : State) (f : Future) → h ≢ ahead.Here
      → slice_get (paths.attributes (Some (first_node ns))) next ≡ Some a
      → goes_at next asked gs h ns held aside st f
      ≡ taken_at (Attributes (suc next) asked ∷ gs) h (attribute_node (paths.attributes (Some (first_node ns))) next a ∷ ns) held aside st f
  attribute_at ahead.Nothing ns held aside next asked gs a st f apart is =
      next_goes (paths.attributes (Some (first_node ns))) next a (asks asked gs (scene_in ns aside)) gs (scene_in ns aside) f st is
  attribute_at ahead.Here ns held aside next asked gs a st f apart is = absurd (apart refl)
  attribute_at ahead.Held ns held aside next asked gs a st f apart is =
      next_goes (paths.attributes (Some (first_node ns))) next a (asks asked gs (scene_in ns aside)) gs (scene_in ns aside) (still.held_in_front given p held f) st is
  attribute_at ahead.Ended ns held aside next asked gs a st f apart is =
      next_goes (paths.attributes (Some (first_node ns))) next a (asks asked gs (scene_in ns aside)) gs (scene_in ns aside) (End Begun 0 ∷ f) st is

  -- the next attribute is the current node
  pub attribute_comes : (r m : Run) (next asked : ℕ) (gs : List Frame) (a : Attr) (left : Left) (f : Future) → r.doing ≡ doing.List → r.source.ahead ≢ ahead.Here
      → reverse r.frames.frames ≡ Attributes next asked ∷ gs → reverse m.frames.frames ≡ Attributes (suc next) asked ∷ gs
      → slice_get (paths.attributes (Some (first_node (nodes_of r.source)))) next ≡ Some a
      → nodes_of m.source ≡ attribute_node (paths.attributes (Some (first_node (nodes_of r.source)))) next a ∷ nodes_of r.source
      → m ≡ record r { frames = m.frames; source = record r.source { stack = m.source.stack } }
      → still.still given p r left f ≡ head_taken given p m left f
  attribute_comes r m next asked gs a left f list apart before after is entered rest =
      attributes_still r next asked gs left f list before
      ∙ attribute_at r.source.ahead (nodes_of r.source) (still.held_of given p r) (aside_there r) next asked gs a (still.state_of given p r left) f apart is
      ∙ ap (λ ns. taken_at (Attributes (suc next) asked ∷ gs) r.source.ahead ns (still.held_of given p r) (aside_there r) (still.state_of given p r left) f) (sym entered)
      ∙ ap (λ fs. taken_at fs r.source.ahead (nodes_of m.source) (still.held_of given p r) (aside_there r) (still.state_of given p r left) f) (sym after)
      ∙ sym (ap (λ (x : Run). taken_at (reverse m.frames.frames) x.source.ahead (nodes_of m.source) (still.held_of given p x) (aside_there x) (still.state_of given p x left) f) rest)

  -- no attribute is left
  pub attributes_done : (r m : Run) (next asked : ℕ) (gs : List Frame) (left : Left) (f : Future) → r.doing ≡ doing.List → r.source.ahead ≢ ahead.Here
      → reverse r.frames.frames ≡ Attributes next asked ∷ gs → reverse m.frames.frames ≡ gs → length (paths.attributes (Some (first_node (nodes_of r.source)))) ≤ next
      → m ≡ record r { frames = m.frames } → still.still given p r left f ≡ instr_done given p m left f
  attributes_done r m next asked gs left f list apart before after long rest =
      attributes_still r next asked gs left f list before
      ∙ by r.source.ahead apart
      ∙ ap (λ fs. behind fs (still.scene_by given p r.source.ahead r) (still.lists_ahead given p r.source.ahead r f) (still.state_of given p r left)) (sym after)
      ∙ sym (ap (λ (x : Run). behind (reverse m.frames.frames) (still.scene_by given p x.source.ahead x) (still.lists_ahead given p x.source.ahead x f) (still.state_of given p x left)) rest)
    where
      none_left : (ns : List PathNode) (c : Scene) (g : Future) (st : State) → length (paths.attributes (Some (first_node ns))) ≤ next
          → goes (take next (paths.attributes (Some (first_node ns)))) (drop next (paths.attributes (Some (first_node ns)))) (asks asked gs c) gs c g st ≡ behind gs c g st
      none_left ns c g st long =
          ap (λ l. goes (take next (paths.attributes (Some (first_node ns)))) l (asks asked gs c) gs c g st) (all_dropped (paths.attributes (Some (first_node ns))) next long)

      by : (h : Ahead) → h ≢ ahead.Here
          → goes_at next asked gs h (nodes_of r.source) (still.held_of given p r) (aside_there r) (still.state_of given p r left) f
          ≡ behind gs (still.scene_by given p h r) (still.lists_ahead given p h r f) (still.state_of given p r left)
      by ahead.Nothing e = none_left (nodes_of r.source) (still.scene_by given p ahead.Nothing r) f (still.state_of given p r left) long
      by ahead.Here e = absurd (e refl)
      by ahead.Held e = none_left (nodes_of r.source) (still.scene_by given p ahead.Held r) (still.lists_ahead given p ahead.Held r f) (still.state_of given p r left) long
      by ahead.Ended e = none_left (nodes_of r.source) (still.scene_by given p ahead.Ended r) (still.lists_ahead given p ahead.Ended r f) (still.state_of given p r left) long

-- the attributes of the current node
pub attributes_now : (r : Run) → paths.attributes (Some (first_node (nodes_of r.source))) ≡ paths.attributes (current (path r.source.stack))
attributes_now r = let t = current_there r in ap (λ n. paths.attributes (Some n)) (first_now r t.0 t.1) ∙ sym (ap paths.attributes t.1)

asks_unskipped : (fs : List Frame) (asked : ℕ) → AsksBefore fs asked → skipped_in fs ≡ None
asks_unskipped [] asked a = refl
asks_unskipped (Loop turn ∷ fs) asked a = refl
asks_unskipped (Body template alternative pc locals level spent ∷ fs) asked a = refl
asks_unskipped (Call procedure pc locals level ∷ fs) asked a = refl
asks_unskipped (f ∷ fs) asked a = absurd a

-- what such a run still does, once the next attribute is the current node
pub attribute_found : (p : Program) (r m : Run) (next asked : ℕ) (gs : List Frame) → r.doing ≡ doing.List → r.source.ahead ≢ ahead.Here → reverse r.frames.frames ≡ Attributes next asked ∷ gs
    → reverse m.frames.frames ≡ Attributes (next + 1) asked ∷ gs → (a : Attr) → slice_get (paths.attributes (current (path r.source.stack))) next ≡ Some a
    → path m.source.stack ≡ paths.at_attribute next (path r.source.stack) → m ≡ record r { frames = m.frames; source = record r.source { stack = m.source.stack } }
    → (given : Given) → IsProgramOf given.sheet given.limits p → (left : Left) (f : Future) → Same (flat_code given) (still.still given p r left f) (head_taken given p m left f)
attribute_found p r m next asked gs list apart before after a is entered rest given program left f =
    let attrs = paths.attributes (current (path r.source.stack)) in
    let now : slice_get (paths.attributes (Some (first_node (nodes_of r.source)))) next ≡ Some a = ap (λ l. slice_get l next) (attributes_now r) ∙ is in
    let nodes : nodes_of m.source ≡ attribute_node given p attrs next a ∷ nodes_of r.source =
    ap (λ (q : paths.Path). reverse q.nodes) entered ∙ ap (λ o. reverse ((path r.source.stack).nodes ++ paths.attribute_at attrs next o)) is
    ∙ reverse-append (path r.source.stack).nodes (attribute_node given p attrs next a ∷ []) in
    same_equal (flat_code given)
    (attribute_comes given p r m next asked gs a left f list apart before (after ∙ ap (λ k. Attributes k asked ∷ gs) (add-one next)) now
    (nodes ∙ ap (λ l. attribute_node given p l next a ∷ nodes_of r.source) (sym (attributes_now r))) rest)

-- of an attribute no child is counted
pub attribute_uncounted : (r m : Run) (next : ℕ) (a : Attr) → slice_get (paths.attributes (current (path r.source.stack))) next ≡ Some a
    → path m.source.stack ≡ paths.at_attribute next (path r.source.stack) → IsUncounted m
attribute_uncounted r m next a is entered x xs e =
    let n : PathNode = record { node = Attribute a; earlier = passing_among (take next (paths.attributes (current (path r.source.stack)))); children = none; waited = false } in
    let nodes : nodes_of m.source ≡ n ∷ nodes_of r.source =
    ap (λ (q : paths.Path). reverse q.nodes) entered ∙ ap (λ o. reverse ((path r.source.stack).nodes ++ paths.attribute_at (paths.attributes (current (path r.source.stack))) next o)) is
    ∙ reverse-append (path r.source.stack).nodes (n ∷ []) in
    let same : n ≡ x = first_same (sym nodes ∙ e) in
    ap (λ (y : PathNode). y.children.passing) (sym same)
  where
    first_same : {y z : PathNode} {ys zs : List PathNode} → y ∷ ys ≡ z ∷ zs → y ≡ z
    first_same e = cc

-- No child is counted of its element, unless they are gone for the body below.
pub entered_untouched : (p : Program) (r m : Run) (next asked : ℕ) (gs : List Frame) (a : Attr) → slice_get (paths.attributes (current (path r.source.stack))) next ≡ Some a
    → path m.source.stack ≡ paths.at_attribute next (path r.source.stack) → reverse r.frames.frames ≡ Attributes next asked ∷ gs → reverse m.frames.frames ≡ Attributes (next + 1) asked ∷ gs
    → is_attribute (here (way_of (path r.source.stack))) ≡ false → IsAlone p r → AreUntouched (reverse m.frames.frames) (nodes_of m.source)
entered_untouched p r m next asked gs a is entered before after node alone =
    let x : PathNode = record { node = Attribute a; earlier = passing_among (take next (paths.attributes (current (path r.source.stack)))); children = none; waited = false } in
    let ns = nodes_of r.source in
    let nodes : nodes_of m.source ≡ x ∷ ns =
    ap (λ (q : paths.Path). reverse q.nodes) entered ∙ ap (λ o. reverse ((path r.source.stack).nodes ++ paths.attribute_at (paths.attributes (current (path r.source.stack))) next o)) is
    ∙ reverse-append (path r.source.stack).nodes (x ∷ []) in
    let same : is_on_attribute ns ≡ false = attribute_now r ∙ node in
    untouched_to (Attributes (next + 1) asked ∷ gs) (reverse m.frames.frames) (x ∷ ns) (nodes_of m.source) (sym after) (sym nodes)
    (λ e z zs around kids. alone.untouched (ap (spent_of (is_on_attribute ns)) before ∙ e) z zs (around_node ns same ∙ around) kids)

-- or they are over
pub attributes_untouched : (p : Program) (r m : Run) (next asked : ℕ) (gs : List Frame) → reverse r.frames.frames ≡ Attributes next asked ∷ gs → reverse m.frames.frames ≡ gs
    → is_attribute (here (way_of (path r.source.stack))) ≡ false → AsksBefore gs asked → IsAlone p r → AreUntouched (reverse m.frames.frames) (nodes_of r.source)
attributes_untouched p r m next asked gs before after node asks alone =
    let ns = nodes_of r.source in
    let same : is_on_attribute ns ≡ false = attribute_now r ∙ node in
    untouched_to gs (reverse m.frames.frames) ns ns (sym after) refl
    (λ e. alone.untouched (ap (spent_of (is_on_attribute ns)) before ∙ sym (own_spent gs (asks_level gs asked asks)) ∙ sym (ap (λ a. spent_of a gs) same) ∙ e))

pub alone_entered : (p : Program) (r m : Run) (next asked : ℕ) (gs : List Frame) → r.source.ahead ≢ ahead.Here → reverse m.frames.frames ≡ Attributes next asked ∷ gs
    → m ≡ record r { frames = m.frames; source = record r.source { stack = m.source.stack } }
    → AreUntouched (reverse m.frames.frames) (nodes_of m.source) → IsAlone p r → IsAlone p m
alone_entered p r m next asked gs apart after rest untouched alone = record {
  origin = ap (λ (x : Run). x.source.origin) rest ∙ alone.origin;
  outer = ap (λ (x : Run). x.outer.items) rest ∙ alone.outer;
  aside = ap (λ (x : Run). x.aside.items) rest ∙ alone.aside;
  held = ap (λ (x : Run). held_node x.source) rest ∙ alone.held;
  counted = λ e. absurd (apart (sym (ap (λ (x : Run). x.source.ahead) rest) ∙ e));
  whole = λ e depth skipped. absurd (let no : None ≡ Some depth = sym (ap skipped_in after) ∙ skipped in cc);
  untouched = untouched;
  fuel = subst (λ u. u ≤ p.limits.fuel) (sym (ap (λ (x : Run). x.fuel) rest)) alone.fuel;
}

-- or none is left
pub attributes_move : (p : Program) (r m s : Run) (next asked : ℕ) (gs : List Frame) (result : Result Step Stop) → r.doing ≡ doing.List → r.source.ahead ≢ ahead.Here
    → reverse r.frames.frames ≡ Attributes next asked ∷ gs → reverse m.frames.frames ≡ gs → length (paths.attributes (current (path r.source.stack))) ≤ next → m ≡ record r { frames = m.frames }
    → MovesFrom p (λ given left f. instr_done given p m left f) result s → MovesFrom p (λ given left f. still.still given p r left f) result s
attributes_move p r m s next asked gs result list apart before after long rest moves =
    moves_by p (λ given left f. still.still given p r left f) (λ given left f. instr_done given p m left f) result s
    (λ given program left f.
    same_equal (flat_code given)
    (attributes_done given p r m next asked gs left f list apart before after (subst (λ l. length l ≤ next) (sym (attributes_now r)) long) rest)) moves

pub unskipped_asking : (fs gs : List Frame) (asked : ℕ) → fs ≡ gs → AsksBefore gs asked → skipped_in fs ≡ None
unskipped_asking fs gs asked same a = ap skipped_in same ∙ asks_unskipped gs asked a
