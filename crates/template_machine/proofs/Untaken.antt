-- No child is counted of a node whose children aren't gone, behind a node that is over, a list, or a body.
use Rattle.std.proofs.Common.{◌≡◌, ℕ, Bool, true, false, List, [], ◌∷◌, map, reverse, Option, Some, None, refl, ap, sym, subst, ◌∙◌}
use Rattle.std.specs.Prelude.{if◌then◌else◌}
use Rattle.frame_stack.specs.declared.frame.Frame.{Frame}
use Rattle.frame_stack.specs.declared.frame.Frame.TheVariants.{Body}
use Rattle.frame_stack.specs.declared.locals.Local.{Local}
use Rattle.node_stack.specs.Path as paths
use Rattle.node_stack.specs.Path.{Document, Node, PathNode, can_end, can_have_children, current, is_attribute}
use Rattle.node_stack.specs.Stack.{path}
use Rattle.template_machine.specs.Behind.{IsInList}
use Rattle.template_machine.specs.Bodies.{spent_in, takes_events}
use Rattle.template_machine.specs.Entering.{IsUncounted}
use Rattle.template_machine.specs.Lists.{rest_of}
use Rattle.template_machine.specs.Moments.{NodeIsOver}
use Rattle.template_machine.specs.Ordinary.{AreUntouched, IsAlone, around_attribute, is_on_attribute, spent_of}
use Rattle.template_machine.specs.Standing.{standing_of}
use Rattle.template_machine.specs.Still.{nodes_of}
use Rattle.template_machine.specs.Ways.{IsWay, here, stood, way_of}
use Rattle.template_machine.specs.Well.{CanTake, is_again}
use Rattle.template_machine.specs.declared.program.Program.{Program}
use Rattle.template_machine.specs.declared.run.Run.{Run}
use Rattle.template_machine.proofs.Children.{no_attribute}
use Rattle.template_machine.proofs.Closes.{reverse_map}
use Rattle.template_machine.proofs.Finished.{attribute_now}
use Rattle.template_machine.proofs.Nodes.{is_way}
use Rattle.template_machine.proofs.Untouched.{listed_gone, listed_same, own_frame, own_spent, spent_level, taken_gone, takes_ended, untouched_from, untouched_here}
use Rattle.template_machine.proofs.Ways.{way_here}

ends_no_attribute : (o : Option Node) → can_end o ≡ true → is_attribute o ≡ false
ends_no_attribute None e = refl
ends_no_attribute (Some (paths.Attribute a)) e = absurd (cc)
ends_no_attribute (Some n) e = refl

-- what may be taken is in its list
pub in_list : (r : Run) → CanTake (reverse r.frames.frames) (standing_of r).source.way → IsInList r
in_list r take_it ends =
    takes_ended (reverse r.frames.frames) (standing_of r).source.way take_it (ap is_attribute (way_here (path r.source.stack)) ∙ ends_no_attribute (current (path r.source.stack)) ends)

-- The current node is over.

parent_node : (ns : List PathNode) → IsWay (map stood ns) → is_on_attribute (rest_of ns) ≡ false
parent_node [] way = refl
parent_node (x ∷ []) way = refl
parent_node (x ∷ y ∷ ys) way = no_attribute (Some y.node) way.1

parent_now : (r : Run) → is_on_attribute (rest_of (nodes_of r.source)) ≡ false
parent_now r = parent_node (nodes_of r.source) (subst IsWay (reverse_map (path r.source.stack).nodes stood) (is_way r.source.stack))

pub closes_untouched : (p : Program) (r : Run) → NodeIsOver p r → can_end (current (path r.source.stack)) ≡ true → takes_events (reverse r.frames.frames) ≡ true
    → AreUntouched (reverse r.frames.frames) (rest_of (nodes_of r.source))
closes_untouched p r over ends takes =
    let inner : here (way_of (path r.source.stack)) ≡ Some Document → ⊥ = λ is.
    let no : false ≡ true = sym (ap can_end is) ∙ ap can_end (way_here (path r.source.stack)) ∙ ends in cc in
    untouched_here (reverse r.frames.frames) (rest_of (nodes_of r.source)) (parent_now r) (listed_gone (reverse r.frames.frames) _ _ _ (over.list inner).fits takes)

pub around_node : (ns : List PathNode) → is_on_attribute ns ≡ false → around_attribute ns ≡ ns
around_node [] node = refl
around_node (x ∷ xs) node = ap (λ (b : Bool). if b then xs else x ∷ xs) node

around_over : (fs : List Frame) (ns : List PathNode) → is_on_attribute ns ≡ true → is_on_attribute (rest_of ns) ≡ false → (spent_of false fs ≡ Some false → spent_of true fs ≡ Some false)
    → AreUntouched fs ns → AreUntouched fs (rest_of ns)
around_over fs [] on off to h = absurd (cc)
around_over fs (x ∷ ys) on off to h = λ e z zs is kids.
    h (ap (λ a. spent_of a fs) on ∙ to (sym (ap (λ a. spent_of a fs) off) ∙ e)) z zs (ap (λ (b : Bool). if b then ys else x ∷ ys) on ∙ sym (around_node ys off) ∙ is) kids

pub attribute_untouched : (p : Program) (r : Run) → NodeIsOver p r → is_attribute (current (path r.source.stack)) ≡ true → IsAlone p r
    → AreUntouched (reverse r.frames.frames) (rest_of (nodes_of r.source))
attribute_untouched p r over attribute alone =
    let on : is_attribute (here (way_of (path r.source.stack))) ≡ true = ap is_attribute (way_here (path r.source.stack)) ∙ attribute in
    let inner : here (way_of (path r.source.stack)) ≡ Some Document → ⊥ = λ is. let no : false ≡ true = sym (ap is_attribute is) ∙ on in cc in
    around_over (reverse r.frames.frames) (nodes_of r.source) (attribute_now r ∙ on) (parent_now r) (listed_same (reverse r.frames.frames) _ _ _ (over.list inner).fits) alone.untouched

-- A list of nodes is over.

pub below_untouched : (r : Run) (gs : List Frame) → CanTake gs (way_of (path r.source.stack)) → can_have_children (here (way_of (path r.source.stack))) ≡ true → AreUntouched gs (nodes_of r.source)
below_untouched r gs take_it kids =
    let node = no_attribute (here (way_of (path r.source.stack))) kids in
    untouched_here gs (nodes_of r.source) (attribute_now r ∙ node) (taken_gone gs (way_of (path r.source.stack)) take_it node)

pub again_untouched : (r : Run) (gs : List Frame) → spent_in gs ≡ Some true → can_have_children (here (way_of (path r.source.stack))) ≡ true → AreUntouched gs (nodes_of r.source)
again_untouched r gs gone kids =
    untouched_here gs (nodes_of r.source) (attribute_now r ∙ no_attribute (here (way_of (path r.source.stack))) kids)
    (λ e. let no : Some true ≡ Some false = sym gone ∙ sym (own_spent gs (spent_level gs true gone)) ∙ e in cc)

-- A body is over, whose node goes on with the body below, or is left.
pub left_untouched : (r : Run) (template alternative pc level : ℕ) (spent : Bool) (locals : List Local) (gs : List Frame)
    → (is_again level gs ≡ false → CanTake gs (way_of (path r.source.stack))) → (is_again level gs ≡ true → spent_in gs ≡ Some spent)
    → AreUntouched (Body template alternative pc locals level spent ∷ gs) (nodes_of r.source) → AreUntouched gs (nodes_of r.source)
left_untouched r template alternative pc level spent locals gs take_it same h =
    let x = Body template alternative pc locals level spent in
    let ns = nodes_of r.source in
    λ e. h (by (is_on_attribute ns) (is_again level gs) refl refl e)
  where
    by : (a b : Bool) → is_on_attribute (nodes_of r.source) ≡ a → is_again level gs ≡ b → spent_of a gs ≡ Some false → spent_of a (Body template alternative pc locals level spent ∷ gs) ≡ Some false
    by true b on again e = e
    by false true on again e = own_frame false template alternative pc level spent locals gs (same again) ∙ e
    by false false on again e = absurd (taken_gone gs (way_of (path r.source.stack)) (take_it again) (sym (attribute_now r) ∙ on) e)

-- A body begins.

pub head_untouched : (r : Run) (template alternative pc level : ℕ) (locals : List Local) (gs : List Frame) → IsUncounted r → AreUntouched gs (nodes_of r.source)
    → AreUntouched (Body template alternative pc locals level false ∷ gs) (nodes_of r.source)
head_untouched r template alternative pc level locals gs uncounted h = by (nodes_of r.source) refl h
  where
    first_same : {y z : PathNode} {ys zs : List PathNode} → y ∷ ys ≡ z ∷ zs → y ≡ z
    first_same e = cc

    below : (a : Bool) → a ≡ true → spent_of a (Body template alternative pc locals level false ∷ gs) ≡ Some false → spent_of a gs ≡ Some false
    below true on e = e
    below false on e = absurd (cc)

    on_node : (b : Bool) (x : PathNode) (xs : List PathNode) → is_attribute (Some x.node) ≡ b → nodes_of r.source ≡ x ∷ xs → AreUntouched gs (x ∷ xs)
        → AreUntouched (Body template alternative pc locals level false ∷ gs) (x ∷ xs)
    on_node true x xs on is h = λ e. h (below (is_attribute (Some x.node)) on e)
    on_node false x xs on is h = λ e z zs around kids.
        let same : x ≡ z = first_same (sym (ap (λ (b : Bool). if b then xs else x ∷ xs) on) ∙ around) in
        ap (λ (y : PathNode). y.children.passing) (sym same) ∙ uncounted x xs is

    by : (ns : List PathNode) → nodes_of r.source ≡ ns → AreUntouched gs ns → AreUntouched (Body template alternative pc locals level false ∷ gs) ns
    by [] is h = λ e z zs around kids. absurd (cc)
    by (x ∷ xs) is h = on_node (is_attribute (Some x.node)) x xs refl is h

pub same_untouched : (r : Run) (template alternative pc level : ℕ) (spent : Bool) (locals : List Local) (gs : List Frame) → spent_in gs ≡ Some spent → AreUntouched gs (nodes_of r.source)
    → AreUntouched (Body template alternative pc locals level spent ∷ gs) (nodes_of r.source)
same_untouched r template alternative pc level spent locals gs same =
    untouched_from gs (Body template alternative pc locals level spent ∷ gs) (nodes_of r.source) (λ a e. sym (own_frame a template alternative pc level spent locals gs same) ∙ e)
