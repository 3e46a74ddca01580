-- A head is taken from a list.
use Rattle.std.specs.Prelude.{if◌then◌else◌, option_map}
use Rattle.std.proofs.Common.{◌≡◌, ℕ, ◌-◌, Bool, true, false, List, [], ◌∷◌, ◌++◌, map, reverse, Option, Some, None, refl, ap, sym, subst, ◌∙◌}
use Rattle.stx_base.specs.Course.{Ask, Halt, Ret, Same, Say, and_then}
use Rattle.stx_base.specs.declared.node.NodeTest.{NodeTest}
use Rattle.stx_base.proofs.Course.{funext, same_equal, same_then, unfolds}
use Rattle.frame_stack.specs.declared.frame.Frame.{Frame}
use Rattle.frame_stack.specs.declared.frame.Frame.TheVariants.{Attributes, Body, Call, Loop, Pass, Region, Skip, Source}
use Rattle.instr_code.specs.Running as running
use Rattle.instr_code.specs.Running.{as_flat, start_of}
use Rattle.instr_code.specs.Steps.{renamed}
use Rattle.node_stack.specs.Counts.{raised}
use Rattle.node_stack.specs.Path.{Attribute, CData, Chars, Comment, Document, Element, Node, PathNode, Pi, can_end, current, kind_of}
use Rattle.node_stack.specs.Stack.{path, path_node}
use Rattle.node_stack.specs.Test.{passes}
use Rattle.result_writer.specs.Target.{Left}
use Rattle.xml_events.specs.Document.{inner, outer}
use Rattle.xml_events.specs.Tree as tree
use Rattle.xml_events.specs.Tree.{Forest, Future}
use Rattle.template_machine.specs.Behind.{asks_in, head_taken}
use Rattle.template_machine.specs.Declaring.{at_start}
use Rattle.template_machine.specs.Job.{Asked, Does, Given, Here, Main, Nodes, State, remains, single}
use Rattle.template_machine.specs.Listed.{AreInOrder, TakesList}
use Rattle.template_machine.specs.Lists.{rest_of}
use Rattle.template_machine.specs.Meaning.{at_document, ends_some, head, nodes, siblings, taken}
use Rattle.template_machine.specs.Ordinary.{HeadIsCounted}
use Rattle.template_machine.specs.Passing as passing
use Rattle.template_machine.specs.Passing.{node}
use Rattle.template_machine.specs.Programs.{instr_at}
use Rattle.template_machine.specs.Putting.{puts}
use Rattle.template_machine.specs.Still as still
use Rattle.template_machine.specs.Still.{Lists, Returns, Runs, Scene, nodes_of, trail_of}
use Rattle.template_machine.specs.Stepwise.{Flat_does, Working, begun, by_given, flat_code, lifted, steps_of}
use Rattle.template_machine.specs.Trail.{leaf_node, one_more, stand, without_place}
use Rattle.template_machine.specs.Well.{is_again}
use Rattle.template_machine.specs.declared.program.Program.{Program}
use Rattle.template_machine.specs.declared.run.Doing.TheVariants as doing
use Rattle.template_machine.specs.declared.run.Run.{Run}
use Rattle.template_machine.specs.declared.source.Ahead.TheVariants as ahead
use Rattle.template_machine.proofs.Finished.{current_there, first_now}
use Rattle.template_machine.proofs.Hearing.{still_lists, takes_of}

module _ (given : Given) (p : Program) where
  abbrev code_of_run : Does → Flat_does
  code_of_run x = renamed (as_flat (steps_of given) (start_of (steps_of given) given.sheet)) (by_given (begun (at_document given) (single (at_start given))) x)

  -- what is done with a head, and then its siblings
  flattened : (x : Does) (asked : Asked) (k : Here → Flat_does)
      → and_then (code_of_run (and_then x (siblings asked))) (λ (w : Working). k w.here) ≡ lifted x (λ b. Ask (running.Given (Nodes b.left asked b.state)) (λ (w : Working). k w.here))
  flattened (Ret b) asked k = refl
  flattened (Halt e) asked k = refl
  flattened (Say o x) asked k = ap (Say o) (flattened x asked k)
  flattened (Ask q h) asked k = ap (λ g. Ask (running.Given q) g) (funext (λ (w : Working). flattened (h w.here) asked k))

  module _ (n : Node) (kids : Option Forest) (list again next : Forest) (earlier : NodeTest → ℕ) (st : State)
      (is : (asked : Asked) → nodes given earlier list asked st ≡ head given n kids again next earlier asked st) where
    takes : (asked : Asked) (k : Here → Flat_does) → asked.level.conditions ≡ []
        → Same (flat_code given) (Ask (running.Given (Nodes (record { earlier = earlier; coming = list }) asked st)) (λ (w : Working). k w.here))
        (lifted (node given asked (stand n earlier ∷ asked.within) (taken n kids next earlier st)) (λ b. Ask (running.Given (Nodes b.left asked b.state)) (λ (w : Working). k w.here)))
    takes asked k free =
        unfolds (flat_code given) (running.Given (Nodes (record { earlier = earlier; coming = list }) asked st)) (λ (w : Working). k w.here)
        (ap (λ x. and_then (code_of_run x) (λ (w : Working). k w.here)) (is asked ∙ goes_free asked free)
        ∙ flattened (node given asked (stand n earlier ∷ asked.within) (taken n kids next earlier st)) asked k)
      where
        goes_free : (asked : Asked) → asked.level.conditions ≡ []
            → head given n kids again next earlier asked st ≡ and_then (node given asked (stand n earlier ∷ asked.within) (taken n kids next earlier st)) (siblings asked)
        goes_free asked free =
            ap (λ cs. if ends_some given cs (stand n earlier ∷ asked.within) st
            then Ret (remains (record { earlier = earlier; coming = again }) st)
            else and_then (node given asked (stand n earlier ∷ asked.within) (taken n kids next earlier st)) (siblings asked)) free

    pub list_takes : (turns : List ℕ) (fs : List Frame) (c : Scene) (f : Future) → TakesList fs → AreInOrder fs
        → Same (flat_code given) (still.rest given p Lists turns fs c f (remains (record { earlier = earlier; coming = list }) st))
        (lifted (node given (asks_in given p fs c) (stand n earlier ∷ trail_of c.nodes) (taken n kids next earlier st)) (still.rest given p Lists turns fs c f))
    list_takes turns [] c f list_so order = absurd list_so
    list_takes turns (Loop turn ∷ fs) c f list_so order = list_takes (turns ++ turn ∷ []) fs c f list_so order
    list_takes turns (Attributes next_one asked ∷ fs) c f list_so order = absurd list_so
    list_takes turns (Skip depth ∷ fs) c f list_so order = absurd list_so
    list_takes turns (Region asked level ∷ fs) c f list_so order = absurd order
    list_takes turns (Source buffer next_one asked ∷ fs) c f list_so order = absurd order
    list_takes turns (Body template alternative pc locals level spent ∷ fs) c f list_so order =
        takes (asks_in given p (Body template alternative pc locals level spent ∷ fs) c)
        (λ b.
        still.body_goes given p turns (Body template alternative pc locals level spent) pc (still.without_handed given p (instr_at p.code (pc - 1)) locals) level fs c
        (still.template_over given p template (is_again level fs) c (still.rest given p Returns [] fs c (outer f)) (still.rest given p Lists [] fs (still.node_over c) (outer f)))
        (still.siblings_of given p (rest_of c.nodes) f b.state)) refl
    list_takes turns (Call procedure pc locals level ∷ fs) c f list_so order =
        takes (asks_in given p (Call procedure pc locals level ∷ fs) c)
        (λ b.
        still.body_goes given p turns (Call procedure pc locals level) pc (still.without_handed given p (instr_at p.code (pc - 1)) locals) level fs c (still.rest given p Runs [] fs c (outer f))
        (still.siblings_of given p (rest_of c.nodes) f b.state)) refl
    list_takes turns (Pass base level spent ∷ fs) c f list_so order =
        takes (asks_in given p (Pass base level spent ∷ fs) c)
        (λ a.
        lifted (puts given (passing.group_at given base) (passing.parts_behind (passing.kinds_in given base) (still.first_node c.nodes)) a.state (λ st. Ret (single st))) (λ b.
        if is_again level fs
        then still.rest given p Returns [] fs c (outer f) (still.siblings_of given p (rest_of c.nodes) f b.state)
        else still.rest given p Lists [] fs (still.node_over c) (outer f) (still.siblings_of given p (rest_of c.nodes) f b.state))) refl

  -- What is before a head that is the current node, as its path tells.

  trail_same : (n : PathNode) (counts : NodeTest → ℕ) → stand n.node (still.before_head given p n counts) ≡ stand n.node n.earlier
  trail_same n counts =
      ap (λ e. record { node = n.node; earlier = e }) (funext (λ t. by (passes t (kind_of n.node)) (n.earlier t) (counts t)))
    where
      by : (b : Bool) (m k : ℕ) → (if b then (if b then m else k) else 0) ≡ (if b then m else 0)
      by true m k = refl
      by false m k = refl

  counts_same : (n x : PathNode) (xs : List PathNode) → HeadIsCounted (n ∷ x ∷ xs) → one_more n.node (still.before_head given p n x.children.passing) ≡ x.children.passing
  counts_same n x xs counted = funext (λ t. by t (passes t (kind_of n.node)) refl)
    where
      by : (t : NodeTest) (b : Bool) → passes t (kind_of n.node) ≡ b → one_more n.node (still.before_head given p n x.children.passing) t ≡ x.children.passing t
      by t true e =
          ap (λ b. if b then raised (if b then n.earlier t else x.children.passing t) else (if b then n.earlier t else x.children.passing t)) e ∙ sym (counted.0 t e)
      by t false e =
          ap (λ b. if b then raised (if b then n.earlier t else x.children.passing t) else (if b then n.earlier t else x.children.passing t)) e

  module _ (fs : List Frame) (n x : PathNode) (xs : List PathNode) (aside : List (Option PathNode)) (list_so : TakesList fs) (order : AreInOrder fs) (counted : HeadIsCounted (n ∷ x ∷ xs)) where
    abbrev below : Scene
    below = record { nodes = x ∷ xs; source = Main; around = []; aside = aside }

    abbrev before : NodeTest → ℕ
    before = still.before_head given p n x.children.passing

    abbrev taken_at : (kids : Option Forest) → (next : Forest) → (earlier : NodeTest → ℕ) → State → Here
    taken_at kids next earlier st = record { kids = kids; left = record { earlier = earlier; coming = next }; locals = []; state = st }

    -- where it stands
    stands_so : (kids : Option Forest) (next : Forest) (f : Future) (st : State)
        → lifted (node given (asks_in given p fs below) (stand n.node before ∷ trail_of (x ∷ xs)) (taken n.node kids next before st)) (still.rest given p Lists [] fs below f)
        ≡ lifted (node given (asks_in given p fs below) (trail_of (n ∷ x ∷ xs)) (taken_at kids next x.children.passing st)) (still.rest given p Lists [] fs below f)
    stands_so kids next f st =
        ap (λ s. lifted (node given (asks_in given p fs below) (s ∷ trail_of (x ∷ xs)) (taken n.node kids next before st)) (still.rest given p Lists [] fs below f)) (trail_same n x.children.passing)
        ∙ ap (λ e. lifted (node given (asks_in given p fs below) (trail_of (n ∷ x ∷ xs)) (taken_at kids next e st)) (still.rest given p Lists [] fs below f)) (counts_same n x xs counted)

    head_lists : (kids : Option Forest) (list again next : Forest) (f : Future) (st : State) → ((asked : Asked) → nodes given before list asked st ≡ head given n.node kids again next before asked st)
        → Same (flat_code given) (still.rest given p Lists [] fs below f (remains (record { earlier = before; coming = list }) st))
        (lifted (node given (asks_in given p fs below) (trail_of (n ∷ x ∷ xs)) (taken_at kids next x.children.passing st)) (still.rest given p Lists [] fs below f))
    head_lists kids list again next f st is =
        same_then (list_takes n.node kids list again next before st is [] fs below f list_so order) (same_equal (flat_code given) (stands_so kids next f st))

    -- what the head does that is taken, by what is to come
    abbrev head_at : Node → Future → State → Flat_does
    head_at m f st =
        still.goes_on_at given p false m (x ∷ xs) f
        (λ g a. lifted (node given (asks_in given p fs below) (trail_of (n ∷ x ∷ xs)) a) (still.rest given p Lists [] fs below g)) st

    abbrev list_at : Node → Future → State → Flat_does
    list_at m f st =
        still.rest given p Lists [] fs below (outer (still.in_front given p m f)) (remains (record { earlier = before; coming = inner (still.in_front given p m f) }) st)

    pub head_here : (f : Future) (st : State) → can_end (Some n.node) ≡ true → Same (flat_code given) (list_at n.node f st) (head_at n.node f st)
    head_here f st end = by n.node refl
      where
        front : (leaf : tree.Leaf) → without_place leaf ≡ leaf
            → list_at (leaf_node leaf) f st ≡ still.rest given p Lists [] fs below (outer f) (remains (record { earlier = before; coming = tree.Single tree.Begun leaf (inner f) }) st)
        front (tree.Chars offset text) bare = ap (λ l. still.rest given p Lists [] fs below (outer f) (remains (record { earlier = before; coming = tree.Single tree.Begun l (inner f) }) st)) bare
        front (tree.CData offset text) bare = ap (λ l. still.rest given p Lists [] fs below (outer f) (remains (record { earlier = before; coming = tree.Single tree.Begun l (inner f) }) st)) bare
        front (tree.Comment offset text) bare = ap (λ l. still.rest given p Lists [] fs below (outer f) (remains (record { earlier = before; coming = tree.Single tree.Begun l (inner f) }) st)) bare
        front (tree.Pi offset target text) bare = ap (λ l. still.rest given p Lists [] fs below (outer f) (remains (record { earlier = before; coming = tree.Single tree.Begun l (inner f) }) st)) bare

        alone : (leaf : tree.Leaf)
            → head_at (leaf_node leaf) f st
            ≡ lifted (node given (asks_in given p fs below) (trail_of (n ∷ x ∷ xs)) (taken_at None (inner f) x.children.passing st)) (still.rest given p Lists [] fs below (outer f))
        alone (tree.Chars offset text) = refl
        alone (tree.CData offset text) = refl
        alone (tree.Comment offset text) = refl
        alone (tree.Pi offset target text) = refl

        by_leaf : (leaf : tree.Leaf) → n.node ≡ leaf_node leaf → without_place leaf ≡ leaf → Same (flat_code given) (list_at n.node f st) (head_at n.node f st)
        by_leaf leaf e bare =
            let list = tree.Single tree.Begun leaf (inner f) in
            same_then (same_equal (flat_code given) (ap (λ m. list_at m f st) e ∙ front leaf bare))
            (same_then
            (head_lists None list list (inner f) (outer f) st
            (λ asked.
            ap (λ l. head given (leaf_node leaf) None (tree.Single tree.Begun l (inner f)) (inner f) before asked st) bare ∙ ap (λ m. head given m None list (inner f) before asked st) (sym e)))
            (same_equal (flat_code given) (sym (ap (λ m. head_at m f st) e ∙ alone leaf))))

        by : (m : Node) → n.node ≡ m → Same (flat_code given) (list_at n.node f st) (head_at n.node f st)
        by Document e = absurd (let no : can_end (Some Document) ≡ true = ap (λ k. can_end (Some k)) (sym e) ∙ end in cc)
        by (Attribute a) e = absurd (let no : can_end (Some (Attribute a)) ≡ true = ap (λ k. can_end (Some k)) (sym e) ∙ end in cc)
        by (Element name attrs decls first) e =
            let told : tree.Element = record { offset = 0; name = name; attrs = attrs; decls = decls } in
            let list = tree.Nested (tree.Entered first) told (inner f) (inner (outer f)) in
            same_then (same_equal (flat_code given) (ap (λ m. list_at m f st) e))
            (same_then
            (head_lists (Some (inner f)) list list (inner (outer f)) (outer (outer f)) st
            (λ asked. ap (λ m. head given m (Some (inner f)) list (inner (outer f)) before asked st) (sym e)))
            (same_equal (flat_code given) (sym (ap (λ m. head_at m f st) e))))
        by (Chars text) e = by_leaf (tree.Chars 0 text) e refl
        by (CData text) e = by_leaf (tree.CData 0 text) e refl
        by (Comment text) e = by_leaf (tree.Comment 0 text) e refl
        by (Pi target text) e = by_leaf (tree.Pi 0 target text) e refl

-- A run whose innermost list has a head as the current node takes that.

module _ (given : Given) (p : Program) (r : Run) (listing : r.doing ≡ doing.List) (here : r.source.ahead ≡ ahead.Here) (list_so : TakesList (reverse r.frames.frames)) (order : AreInOrder (reverse r.frames.frames)) where
  abbrev found : Run
  found = record r { source = record r.source { ahead = ahead.Nothing } }

  abbrev aside_there : List (Option PathNode)
  aside_there = map (option_map path_node) (reverse r.aside.items)

  -- by the nodes of its path
  abbrev taken_of : List PathNode → Future → State → Flat_does
  taken_of ns f st =
      let c : Scene = record { nodes = ns; source = Main; around = []; aside = aside_there } in
      still.goes_on_at given p false (still.first_node ns) (rest_of ns) f
      (λ g a. lifted (node given (asks_in given p (reverse r.frames.frames) (still.node_over c)) (trail_of ns) a) (still.rest given p Lists [] (reverse r.frames.frames) (still.node_over c) g)) st

  pub head_comes : (left : Left) (f : Future) → HeadIsCounted (nodes_of r.source) → can_end (current (path r.source.stack)) ≡ true
      → Same (flat_code given) (still.still given p r left f) (head_taken given p found left f)
  head_comes left f counted end = by (nodes_of r.source) refl
    where
      by : (ns : List PathNode) → nodes_of r.source ≡ ns → Same (flat_code given) (still.still given p r left f) (head_taken given p found left f)
      by [] e = absurd (subst HeadIsCounted e counted)
      by (n ∷ []) e = absurd (subst HeadIsCounted e counted)
      by (n ∷ x ∷ xs) e =
          let st = still.state_of given p r left in
          let t = current_there r in
          let first : n.node ≡ t.0 = sym (ap still.first_node e) ∙ first_now r t.0 t.1 in
          same_then
          (same_equal (flat_code given) (still_lists given p r ahead.Here (n ∷ x ∷ xs) (reverse r.frames.frames) left f listing here e refl (takes_of given p (reverse r.frames.frames) list_so)))
          (same_then
          (head_here given p (reverse r.frames.frames) n x xs aside_there list_so order (subst HeadIsCounted e counted) f st (ap (λ k. can_end (Some k)) first ∙ sym (ap can_end t.1) ∙ end))
          (same_equal (flat_code given) (sym (ap (λ ns. taken_of ns f st) e))))
