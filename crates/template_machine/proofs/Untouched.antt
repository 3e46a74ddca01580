-- No child is counted of a node whose children aren't gone.
use Rattle.std.proofs.Common.{◌≡◌, ℕ, Bool, true, false, List, [], ◌∷◌, Some, IsSome, refl, ap, sym, subst, ◌∙◌, reverse}
use Rattle.frame_stack.specs.declared.frame.Frame.{Frame}
use Rattle.frame_stack.specs.declared.frame.Frame.TheVariants.{Attributes, Body, Call, Loop, Pass, Skip}
use Rattle.frame_stack.specs.declared.locals.Local.{Local}
use Rattle.node_stack.specs.Path.{PathNode, can_have_children, is_attribute}
use Rattle.template_machine.specs.Bodies.{level_in, on_body, pc_in, spent_in, takes_events}
use Rattle.template_machine.specs.Ordinary.{AreUntouched, is_on_attribute, spent_of}
use Rattle.template_machine.specs.Standing.{Front}
use Rattle.template_machine.specs.Still.{first_node, nodes_of}
use Rattle.template_machine.specs.Ways.{Way, here}
use Rattle.template_machine.specs.Well.{AreGone, CanTake, ListFits}
use Rattle.template_machine.proofs.Moving.{Moves}
use Rattle.template_machine.specs.declared.run.Run.{Run}

-- so of the node of the innermost body
abbrev pub IsUntouched : Run → Type 0
IsUntouched r =
    spent_in (reverse r.frames.frames) ≡ Some false → (x : PathNode) (xs : List PathNode) → nodes_of r.source ≡ x ∷ xs → can_have_children (Some x.node) ≡ true
    → x.children.passing ≡ (λ t. 0)

-- of the same frames and nodes
pub untouched_to : (fs gs : List Frame) (ns ms : List PathNode) → fs ≡ gs → ns ≡ ms → AreUntouched fs ns → AreUntouched gs ms
untouched_to fs gs ns ms same nodes h = subst (λ l. AreUntouched l ms) same (subst (AreUntouched fs) nodes h)

-- of frames of which no more bodies have children to come
pub untouched_from : (fs gs : List Frame) (ns : List PathNode) → ((a : Bool) → spent_of a gs ≡ Some false → spent_of a fs ≡ Some false) → AreUntouched fs ns → AreUntouched gs ns
untouched_from fs gs ns f h e = h (f (is_on_attribute ns) e)

-- of frames of which none has
pub untouched_none : (gs : List Frame) (ns : List PathNode) → (spent_of (is_on_attribute ns) gs ≡ Some false → ⊥) → AreUntouched gs ns
untouched_none gs ns none e x xs is kids = absurd (none e)

-- of a node that is no attribute
pub untouched_here : (gs : List Frame) (ns : List PathNode) → is_on_attribute ns ≡ false → (spent_of false gs ≡ Some false → ⊥) → AreUntouched gs ns
untouched_here gs ns node none = untouched_none gs ns (λ e. none (sym (ap (λ a. spent_of a gs) node) ∙ e))

pub on_first : (ns : List PathNode) → is_on_attribute ns ≡ is_attribute (Some (first_node ns))
on_first [] = refl
on_first (x ∷ xs) = refl

-- A body that goes on elsewhere.

pub spent_in_moved : (g : Frame → Frame) (to : ℕ → ℕ) (h : List Local → List Local) → Moves g to h → (fs : List Frame) (pc : ℕ) → pc_in fs ≡ Some pc → spent_in (on_body g fs) ≡ spent_in fs
spent_in_moved g to h m [] pc at = absurd (cc)
spent_in_moved g to h m (Loop turn ∷ fs) pc at = spent_in_moved g to h m fs pc at
spent_in_moved g to h m (Body template alternative old locals level spent ∷ fs) pc at = ap (λ x. spent_in (x ∷ fs)) (m.template template alternative old locals level spent)
spent_in_moved g to h m (Call procedure old locals level ∷ fs) pc at = ap (λ x. spent_in (x ∷ fs)) (m.procedure procedure old locals level)
spent_in_moved g to h m (f ∷ fs) pc at = absurd (cc)

pub spent_moved : (g : Frame → Frame) (to : ℕ → ℕ) (h : List Local → List Local) → Moves g to h → (a : Bool) (fs : List Frame) (pc : ℕ) → pc_in fs ≡ Some pc
    → spent_of a (on_body g fs) ≡ spent_of a fs
spent_moved g to h m a [] pc at = absurd (cc)
spent_moved g to h m true (Loop turn ∷ fs) pc at = spent_moved g to h m true fs pc at
spent_moved g to h m false (Loop turn ∷ fs) pc at = spent_in_moved g to h m fs pc at
spent_moved g to h m true (Body template alternative old locals level spent ∷ fs) pc at = ap (λ x. spent_of true (x ∷ fs)) (m.template template alternative old locals level spent)
spent_moved g to h m false (Body template alternative old locals level spent ∷ fs) pc at = ap (λ x. spent_of false (x ∷ fs)) (m.template template alternative old locals level spent)
spent_moved g to h m true (Call procedure old locals level ∷ fs) pc at = ap (λ x. spent_of true (x ∷ fs)) (m.procedure procedure old locals level)
spent_moved g to h m false (Call procedure old locals level ∷ fs) pc at = ap (λ x. spent_of false (x ∷ fs)) (m.procedure procedure old locals level)
spent_moved g to h m a (f ∷ fs) pc at = absurd (cc)

pub untouched_moved : (g : Frame → Frame) (to : ℕ → ℕ) (h : List Local → List Local) → Moves g to h → (fs : List Frame) (ns : List PathNode) (pc : ℕ) → pc_in fs ≡ Some pc
    → AreUntouched fs ns → AreUntouched (on_body g fs) ns
untouched_moved g to h m fs ns pc at = untouched_from fs (on_body g fs) ns (λ a e. sym (spent_moved g to h m a fs pc at) ∙ e)

-- Whose children are gone.

-- on top of a body's frames no list of attributes is open
pub own_spent : (fs : List Frame) → IsSome (level_in fs) → spent_of false fs ≡ spent_in fs
own_spent [] some = refl
own_spent (Attributes next asked ∷ fs) some = absurd (cc)
own_spent (f ∷ fs) some = refl

pub spent_level : (fs : List Frame) (spent : Bool) → spent_in fs ≡ Some spent → IsSome (level_in fs)
spent_level [] spent e = absurd (cc)
spent_level (Loop turn ∷ fs) spent e = spent_level fs spent e
spent_level (Body template alternative pc locals level own ∷ fs) spent e = refl
spent_level (Call procedure pc locals level ∷ fs) spent e = refl
spent_level (f ∷ fs) spent e = absurd (cc)

pub gone_not : (fs : List Frame) → AreGone fs → spent_in fs ≡ Some false → ⊥
gone_not fs gone e = let no : Some false ≡ Some true = sym e ∙ gone (spent_level fs false e) in cc

pub taken_gone : (fs : List Frame) (w : Way) → CanTake fs w → is_attribute (here w) ≡ false → spent_of false fs ≡ Some false → ⊥
taken_gone [] w take_it node e = cc
taken_gone (Attributes next asked ∷ fs) w take_it node e = let no : true ≡ false = sym take_it ∙ node in cc
taken_gone (Skip depth ∷ fs) w take_it node e = take_it
taken_gone (f ∷ fs) w take_it node e = gone_not (f ∷ fs) take_it.1 e

pub listed_gone : (fs : List Frame) (w : Way) (n : ℕ) (front : Front) → ListFits fs w n front → takes_events fs ≡ true → spent_of false fs ≡ Some false → ⊥
listed_gone [] w n front fits takes e = fits
listed_gone (Attributes next asked ∷ fs) w n front fits takes e = cc
listed_gone (Skip depth ∷ fs) w n front fits takes e = cc
listed_gone (f ∷ fs) w n front fits takes e = gone_not (f ∷ fs) fits.1 e

-- an attribute that is over leaves the list of its element's
pub listed_same : (fs : List Frame) (w : Way) (n : ℕ) (front : Front) → ListFits fs w n front → spent_of false fs ≡ Some false → spent_of true fs ≡ Some false
listed_same [] w n front fits e = absurd fits
listed_same (Attributes next asked ∷ fs) w n front fits e = e
listed_same (Skip depth ∷ fs) w n front fits e = absurd (cc)
listed_same (f ∷ fs) w n front fits e = absurd (gone_not (f ∷ fs) fits.1 e)

-- an element or a leaf is taken from a list of such nodes
pub takes_ended : (fs : List Frame) (w : Way) → CanTake fs w → is_attribute (here w) ≡ false → takes_events fs ≡ true
takes_ended [] w take_it node = refl
takes_ended (Attributes next asked ∷ fs) w take_it node = absurd (let no : true ≡ false = sym take_it ∙ node in cc)
takes_ended (f ∷ fs) w take_it node = refl

-- A body's frame is put on others, or taken off.

-- of the same node
pub own_frame : (a : Bool) (template alternative pc level : ℕ) (spent : Bool) (locals : List Local) (fs : List Frame) → spent_in fs ≡ Some spent
    → spent_of a (Body template alternative pc locals level spent ∷ fs) ≡ spent_of a fs
own_frame true template alternative pc level spent locals fs same = refl
own_frame false template alternative pc level spent locals fs same = sym same ∙ sym (own_spent fs (spent_level fs spent same))

pub call_frame : (a : Bool) (procedure pc level : ℕ) (locals : List Local) (fs : List Frame) → IsSome (level_in fs) → spent_of a (Call procedure pc locals level ∷ fs) ≡ spent_of a fs
call_frame true procedure pc level locals fs some = refl
call_frame false procedure pc level locals fs some = sym (own_spent fs some)

-- in a list of nodes no body has children to come
pub pass_frame : (a : Bool) (base level : ℕ) (spent : Bool) (fs : List Frame) → spent_of a (Pass base level spent ∷ fs) ≡ Some false → spent_of a fs ≡ Some false
pass_frame true base level spent fs e = e
pass_frame false base level spent fs e = absurd (cc)

pub pass_none : (base level : ℕ) (spent : Bool) (fs : List Frame) → spent_of false (Pass base level spent ∷ fs) ≡ Some false → ⊥
pass_none base level spent fs e = cc

pub skip_frame : (a : Bool) (depth : ℕ) (fs : List Frame) → spent_of a (Skip depth ∷ fs) ≡ Some false → spent_of a fs ≡ Some false
skip_frame true depth fs e = e
skip_frame false depth fs e = absurd (cc)

-- however deep it is passed over
pub skip_deeper : (a : Bool) (depth other : ℕ) (fs : List Frame) → spent_of a (Skip depth ∷ fs) ≡ spent_of a (Skip other ∷ fs)
skip_deeper true depth other fs = refl
skip_deeper false depth other fs = refl
