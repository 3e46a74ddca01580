-- A run whose innermost body asks for children, attributes or siblings.
use Rattle.std.proofs.Common.{◌≡◌, ℕ, suc, Bool, true, false, List, [], ◌∷◌, ◌++◌, map, reverse, Option, Some, None, IsSome, refl, ap, sym, subst, ◌∙◌, arith}
use Rattle.std.specs.Prelude.{◌==◌, ◌&&◌, if◌then◌else◌, not, All}
use Rattle.std.specs.List.{slice_get}
use Rattle.std.specs.Option.{option_and_then, option_map, option_map_or}
use Rattle.std.proofs.lemmas.Bool.{false≢true}
use Rattle.std.proofs.lemmas.List.{reverse-append}
use Rattle.frame_stack.specs.Stack.{FrameStack, with_frames}
use Rattle.frame_stack.specs.declared.frame.Frame.{Frame}
use Rattle.frame_stack.specs.declared.frame.Frame.TheVariants.{Attributes, Body, Call, Loop, Region, Skip}
use Rattle.frame_stack.specs.declared.locals.Local.{Local}
use Rattle.node_stack.specs.Path.{Attribute, Node, can_end, can_have_children, current, is_attribute, is_element}
use Rattle.node_stack.specs.Stack.{path, path_node}
use Rattle.node_stack.specs.declared.parked.Parked.{Parked}
use Rattle.template_machine.specs.Bodies.{all_spent, level_in, level_of, pc_in, spent_by, spent_in}
use Rattle.template_machine.specs.Lists.{rest_of}
use Rattle.template_machine.specs.Sources.{is_in_element}
use Rattle.template_machine.specs.Standing.{Standing, Unknown, known_now, rooms_of, standing_of, waits_from_here}
use Rattle.template_machine.specs.Ways.{first_in, here, way_of}
use Rattle.template_machine.specs.Moments.{PutsAside}
use Rattle.template_machine.specs.Well.{IsSteady, IsWell, ListGoesOn, SkipFront, TellWithin}
use Rattle.template_machine.specs.Working.{Awaits, CanBeSkipped}
use Rattle.template_machine.specs.declared.bodies.Seen.TheVariants.{Outside, Template, Within}
use Rattle.template_machine.specs.declared.program.Program.{Program}
use Rattle.template_machine.specs.declared.run.Doing.TheVariants as doing
use Rattle.template_machine.specs.declared.run.Run.{Run}
use Rattle.template_machine.proofs.Children.{attributes_open, children_open, is_open}
use Rattle.template_machine.proofs.Going.{steady_on, well_list_at}
use Rattle.template_machine.proofs.Handing.{lists_on, tell_spent}
use Rattle.template_machine.proofs.Nodes.{is_way}
use Rattle.template_machine.proofs.Placing.{placed_in}
use Rattle.template_machine.proofs.Seeing.{node_there}
use Rattle.template_machine.proofs.Siblings.{region_well, siblings_open}
use Rattle.template_machine.proofs.Spending.{level_stays, says_so, spent_well}
use Rattle.template_machine.proofs.Ways.{way_here}
use Rattle.template_machine.specs.Sections.{WaitsWell}
use Rattle.template_machine.proofs.Holds.{holds_same}
use Rattle.std.proofs.lemmas.List.Elements.{All-cons}

-- the body that waits has a level
pub level_waits : (p : Program) (r : Run) (asked body : ℕ) → Awaits p r asked body → IsSome (option_and_then level_of (slice_get r.frames.frames body))
level_waits p r asked body h =
    let x = placed_in r.frames.frames body h.place in subst (λ o. IsSome (option_and_then level_of o)) (x.1.0 ∙ sym x.1.1) h.waits.waits.body

-- the level that is found there
pub level_found : (p : Program) (r : Run) (asked body level : ℕ) → Awaits p r asked body → option_and_then level_of (slice_get r.frames.frames body) ≡ Some level
    → level_in (reverse r.frames.frames) ≡ Some level
level_found p r asked body level h is =
    let x = placed_in r.frames.frames body h.place in ap (option_and_then level_of) (x.1.0 ∙ sym x.1.1) ∙ is

-- the current node by its way
pub list_by : (r : Run) → can_have_children (current (path r.source.stack)) ≡ true → can_have_children (here (way_of (path r.source.stack))) ≡ true
list_by r e = ap can_have_children (way_here (path r.source.stack)) ∙ e

pub end_by : (r : Run) → can_end (current (path r.source.stack)) ≡ true → can_end (here (way_of (path r.source.stack))) ≡ true
end_by r e = ap can_end (way_here (path r.source.stack)) ∙ e

-- the children of its node are processed
pub children_on : (p : Program) (r : Run) (asked body level : ℕ) (frames : FrameStack) → Awaits p r asked body → can_have_children (current (path r.source.stack)) ≡ true
    → spent_in (reverse r.frames.frames) ≡ Some false → level_in (reverse r.frames.frames) ≡ Some level → reverse frames.frames ≡ all_spent level (reverse r.frames.frames)
    → IsWell p (record r { frames = frames; doing = doing.List })
children_on p r asked body level frames h has unspent own same =
    let w = h.waits in
    let fs = reverse r.frames.frames in
    lists_on p r w frames (all_spent level fs) same
    (children_open p w.stations fs (standing_of r) level (known_now r) w.waits own (list_by r has) unspent)
    (tell_spent level fs (rooms_of r) (standing_of r).shelves w.steady.within)

pub element_node : (o : Option Node) → option_map_or is_element o false ≡ true → is_attribute o ≡ false
element_node None element = refl
element_node (Some (Attribute a)) element = absurd (cc)
element_node (Some x) element = refl

-- its attributes are processed
pub attributes_on : (p : Program) (r : Run) (asked body : ℕ) (frames : FrameStack) → Awaits p r asked body → reverse frames.frames ≡ Attributes 0 asked ∷ reverse r.frames.frames
    → is_in_element (path r.source.stack) ≡ true → IsWell p (record r { frames = frames; doing = doing.List })
attributes_on p r asked body frames h same element =
    let w = h.waits in
    let fs = reverse r.frames.frames in
    lists_on p r w frames (Attributes 0 asked ∷ fs) same (attributes_open p w.stations fs (standing_of r) asked (known_now r) w.waits h.pc (ap is_attribute (way_here (path r.source.stack)) ∙ element_node (current (path r.source.stack)) element))
    w.steady.within

-- Siblings.

-- one place more for a node that waits
pub asides_more : (items more : List (Option Parked)) → more ≡ items ++ None ∷ []
    → map (option_map (λ p. (path_node p).node)) (reverse more) ≡ None ∷ map (option_map (λ p. (path_node p).node)) (reverse items)
asides_more items more is = ap (λ l. map (option_map (λ p. (path_node p).node)) (reverse l)) is ∙ ap (map (option_map (λ p. (path_node p).node))) (reverse-append items (None ∷ []))

-- a body's node waits from here on: nothing of it is left to do
pub puts_aside : (p : Program) (r t : Run) (asked body level : ℕ) → Awaits p r asked body → level_in (reverse r.frames.frames) ≡ Some level
    → can_end (current (path r.source.stack)) ≡ true → (can_have_children (current (path r.source.stack)) ≡ true → spent_in (reverse r.frames.frames) ≡ Some true)
    → t ≡ record r { frames = t.frames; aside = t.aside } → reverse t.frames.frames ≡ Region asked level ∷ reverse r.frames.frames → t.aside.items ≡ r.aside.items ++ None ∷ []
    → PutsAside p t
puts_aside p r t asked body level h own end gone is frames more =
    let w = h.waits in
    let fs = reverse r.frames.frames in
    let s = standing_of r in
    let n = node_there (way_of (path r.source.stack)).nodes (is_way r.source.stack) in
    let ends : can_end (Some n.0) ≡ true = ap can_end (sym n.1) ∙ end_by r end in
    let list = siblings_open p w.stations fs s asked level n.0 (known_now r) w.waits h.pc own n.1 ends (is_way r.source.stack) w.steady.source.room
    (λ e. gone (sym (ap can_have_children (way_here (path r.source.stack))) ∙ ap can_have_children n.1 ∙ e)) in
    let aside = asides_more r.aside.items t.aside.items more in
    let u = record r { frames = t.frames; aside = t.aside } in
    let steady : IsSteady p u =
    steady_on p r u w.steady refl refl refl w.steady.source w.steady.outer
    (subst (λ l. TellWithin l (rooms_of r) s.shelves) (sym frames) w.steady.within) (holds_same r.putting.buffers)
    (subst (All WaitsWell) (sym aside) (All-cons WaitsWell None s.aside tt w.steady.aside)) in
    let whole : ListGoesOn p w.stations (reverse t.frames.frames) (waits_from_here s.source.way.nodes (rest_of (standing_of u).aside) (standing_of u)) (known_now u) =
    subst (λ l. ListGoesOn p w.stations l (waits_from_here s.source.way.nodes (rest_of (standing_of u).aside) (standing_of u)) (known_now u)) (sym frames)
    (subst (λ a. ListGoesOn p w.stations (Region asked level ∷ fs) (waits_from_here s.source.way.nodes (rest_of a) (record s { aside = a })) (known_now r)) (sym aside) list) in
    subst (PutsAside p) (sym is)
    (record {
      steady = steady;
      stations = w.stations;
      stand = w.stand;
      apart = w.apart;
      slot = ap first_in aside;
      end = end_by r end;
      list = whole;
    })

-- the next operation stays where children are gone

pc_by_body : (b : Bool) (template alternative pc : ℕ) (locals : List Local) (own : ℕ) (spent : Bool) (fs gs : List Frame)
    → pc_in (spent_by (if b then Template template else Outside) (Body template alternative pc locals own spent) fs gs) ≡ Some pc
pc_by_body true template alternative pc locals own spent fs gs = refl
pc_by_body false template alternative pc locals own spent fs gs = refl

pc_by_call : (b : Bool) (procedure pc : ℕ) (locals : List Local) (own : ℕ) (fs gs : List Frame)
    → pc_in (spent_by (if b then Within else Outside) (Call procedure pc locals own) fs gs) ≡ Some pc
pc_by_call true procedure pc locals own fs gs = refl
pc_by_call false procedure pc locals own fs gs = refl

pc_stays : (level : ℕ) (fs : List Frame) → pc_in (all_spent level fs) ≡ pc_in fs
pc_stays level [] = refl
pc_stays level (Loop turn ∷ fs) = pc_stays level fs
pc_stays level (Body template alternative pc locals own spent ∷ fs) = pc_by_body (own == level) template alternative pc locals own spent fs (all_spent level fs)
pc_stays level (Call procedure pc locals own ∷ fs) = pc_by_call (own == level) procedure pc locals own fs (all_spent level fs)
pc_stays level (f ∷ fs) = refl

-- a body's node waits once its children are skipped
pub skips_first : (p : Program) (r t : Run) (asked body level : ℕ) → Awaits p r asked body → level_in (reverse r.frames.frames) ≡ Some level → CanBeSkipped r
    → t ≡ record r { frames = t.frames; aside = t.aside; doing = doing.List }
    → reverse t.frames.frames ≡ Skip 0 ∷ Region asked level ∷ all_spent level (reverse r.frames.frames) → t.aside.items ≡ r.aside.items ++ None ∷ [] → IsWell p t
skips_first p r t asked body level h own can is frames more =
    let w = h.waits in
    let fs = reverse r.frames.frames in
    let gs = all_spent level fs in
    let s = standing_of r in
    let skipped : Standing = record s { aside = None ∷ s.aside } in
    let n = node_there (way_of (path r.source.stack)).nodes (is_way r.source.stack) in
    let ends : can_end (Some n.0) ≡ true = ap can_end (sym n.1) ∙ can.end in
    let pc : pc_in gs ≡ Some (suc asked) = pc_stays level fs ∙ h.pc in
    let level_is : level_in gs ≡ Some level = level_stays level fs ∙ own in
    let region = region_well p w.stations gs skipped asked level n.0 s.aside (spent_well p w.stations level 0 true fs s w.waits.well) pc level_is n.1 ends (is_way r.source.stack)
    w.steady.source.room (λ e. says_so p w.stations level 0 true fs s w.waits.well own) in
    let o = is_open p w.stations fs s (known_now r) w.waits can.list can.unspent in
    let fits : SkipFront 0 s.source.way (known_now r).begun Unknown = omega (arith, o.1) in
    let list : ListGoesOn p w.stations (Skip 0 ∷ Region asked level ∷ gs) skipped (known_now r) = record {
      well = (refl, can.list, (λ e. (can.end, tt)), (λ e. absurd (e refl)), region.0);
      fits = subst (SkipFront 0 s.source.way (known_now r).begun) (sym o.0) fits;
    } in
    let u = record r { frames = t.frames; aside = t.aside; doing = doing.List } in
    let steady : IsSteady p u =
    steady_on p r u w.steady refl refl refl w.steady.source w.steady.outer
    (subst (λ l. TellWithin l (rooms_of r) s.shelves) (sym frames) (tell_spent level fs (rooms_of r) s.shelves w.steady.within)) (holds_same r.putting.buffers)
    (subst (All WaitsWell) (sym (asides_more r.aside.items t.aside.items more)) (All-cons WaitsWell None s.aside tt w.steady.aside)) in
    let stands : standing_of u ≡ skipped = ap (λ a. record s { aside = a }) (asides_more r.aside.items t.aside.items more) in
    subst (IsWell p) (sym is)
    (well_list_at p u w.stations (Skip 0 ∷ Region asked level ∷ gs) skipped (known_now r) w.stand steady refl w.apart frames stands refl list)

-- children that aren't gone, and that are

open_by : (has spent : Bool) → (has && not spent) ≡ true → (has ≡ true) × (spent ≡ false)
open_by true true e = absurd (false≢true e)
open_by true false e = (refl, refl)
open_by false spent e = absurd (false≢true e)

gone_by : (has spent : Bool) → (has && not spent) ≡ false → has ≡ true → spent ≡ true
gone_by true true e has = refl
gone_by true false e has = absurd (false≢true (sym e))
gone_by false spent e has = absurd (false≢true has)

pub can_skip : (r : Run) (ends held spent : Bool) → ends ≡ can_end (current (path r.source.stack)) → ends ≡ true → spent_in (reverse r.frames.frames) ≡ Some spent
    → held ≡ (can_have_children (current (path r.source.stack)) && not spent) → held ≡ true → CanBeSkipped r
can_skip r ends held spent ends_is can left held_is is =
    let o = open_by (can_have_children (current (path r.source.stack))) spent (sym held_is ∙ is) in
    record { end = end_by r (sym ends_is ∙ can); list = list_by r o.0; unspent = left ∙ ap (λ b. Some b) o.1 }

pub is_gone : (r : Run) (held spent : Bool) → spent_in (reverse r.frames.frames) ≡ Some spent
    → held ≡ (can_have_children (current (path r.source.stack)) && not spent) → held ≡ false → can_have_children (current (path r.source.stack)) ≡ true
    → spent_in (reverse r.frames.frames) ≡ Some true
is_gone r held spent left held_is is has =
    left ∙ ap (λ b. Some b) (gone_by (can_have_children (current (path r.source.stack))) spent (sym held_is ∙ is) has)

-- so behind the calls that push its frames

pub skips_on : (p : Program) (r s v u : Run) (asked body level : ℕ) (frames : FrameStack) → Awaits p r asked body
    → option_and_then level_of (slice_get r.frames.frames body) ≡ Some level → CanBeSkipped r → reverse frames.frames ≡ all_spent level (reverse r.frames.frames)
    → s ≡ record r { frames = with_frames (frames.frames ++ Region asked level ∷ []) frames } → v ≡ record s { aside = v.aside } → v.aside.items ≡ r.aside.items ++ None ∷ []
    → u ≡ record v { frames = with_frames (v.frames.frames ++ Skip 0 ∷ []) v.frames } → IsWell p (record u { doing = doing.List })
skips_on p r s v u asked body level frames h at can spent first aside added second =
    let one = with_frames (frames.frames ++ Region asked level ∷ []) frames in
    let two = with_frames (one.frames ++ Skip 0 ∷ []) one in
    let then_aside : v ≡ record r { aside = v.aside; frames = one } = aside ∙ ap (λ (y : Run). record y { aside = v.aside }) first in
    let all : u ≡ record r { aside = v.aside; frames = two } =
    second ∙ ap (λ (y : Run). record y { frames = with_frames (y.frames.frames ++ Skip 0 ∷ []) y.frames }) then_aside in
    let top : reverse two.frames ≡ Skip 0 ∷ Region asked level ∷ all_spent level (reverse r.frames.frames) =
    reverse-append (frames.frames ++ Region asked level ∷ []) (Skip 0 ∷ [])
    ∙ ap (λ l. Skip 0 ∷ l) (reverse-append frames.frames (Region asked level ∷ []) ∙ ap (λ l. Region asked level ∷ l) spent) in
    subst (λ (y : Run). IsWell p (record y { doing = doing.List })) (sym all)
    (skips_first p r (record r { aside = v.aside; frames = two; doing = doing.List }) asked body level h (level_found p r asked body level h at) can refl top added)

pub puts_on : (p : Program) (r s v : Run) (asked body level : ℕ) → Awaits p r asked body → option_and_then level_of (slice_get r.frames.frames body) ≡ Some level
    → can_end (current (path r.source.stack)) ≡ true → (can_have_children (current (path r.source.stack)) ≡ true → spent_in (reverse r.frames.frames) ≡ Some true)
    → s ≡ record r { frames = with_frames (r.frames.frames ++ Region asked level ∷ []) r.frames } → v ≡ record s { aside = v.aside }
    → v.aside.items ≡ r.aside.items ++ None ∷ [] → PutsAside p v
puts_on p r s v asked body level h at end gone first aside added =
    let one = with_frames (r.frames.frames ++ Region asked level ∷ []) r.frames in
    let all : v ≡ record r { aside = v.aside; frames = one } = aside ∙ ap (λ (y : Run). record y { aside = v.aside }) first in
    let t = record r { aside = v.aside; frames = one } in
    subst (PutsAside p) (sym all)
    (puts_aside p r t asked body level h (level_found p r asked body level h at) end gone refl (reverse-append r.frames.frames (Region asked level ∷ [])) added)

-- the children of its node are processed, behind the calls that make them spent
pub children_then : (p : Program) (r : Run) (asked body level : ℕ) (frames : FrameStack) (has spent : Bool) → Awaits p r asked body
    → has ≡ can_have_children (current (path r.source.stack)) → has ≡ true → spent_in (reverse r.frames.frames) ≡ Some spent → spent ≡ false
    → option_and_then level_of (slice_get r.frames.frames body) ≡ Some level → reverse frames.frames ≡ all_spent level (reverse r.frames.frames)
    → IsWell p (record r { frames = frames; doing = doing.List })
children_then p r asked body level frames has spent h is has_list left unspent at same =
    children_on p r asked body level frames h (sym is ∙ has_list) (left ∙ ap (λ b. Some b) unspent) (level_found p r asked body level h at) same

pub attributes_then : (p : Program) (r s : Run) (asked body : ℕ) → Awaits p r asked body
    → s ≡ record r { frames = with_frames (r.frames.frames ++ Attributes 0 asked ∷ []) r.frames } → is_in_element (path r.source.stack) ≡ true
    → IsWell p (record s { doing = doing.List })
attributes_then p r s asked body h is element =
    subst (λ (y : Run). IsWell p (record y { doing = doing.List })) (sym is)
    (attributes_on p r asked body (with_frames (r.frames.frames ++ Attributes 0 asked ∷ []) r.frames) h (reverse-append r.frames.frames (Attributes 0 asked ∷ [])) element)
