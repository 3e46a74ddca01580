-- Frames of a run that has taken the nodes of the main document alone.
use Rattle.std.proofs.Common.{◌≡◌, ℕ, zero, suc, Bool, true, false, List, [], ◌∷◌, map, reverse, Option, Some, None, refl, ap, subst, sym, ◌∙◌}
use Rattle.std.specs.Prelude.{if◌then◌else◌, option_map}
use Rattle.frame_stack.specs.declared.frame.Frame.{Frame}
use Rattle.frame_stack.specs.declared.frame.Frame.TheVariants.{Attributes, Body, Call, Loop, Pass, Region, Skip, Source}
use Rattle.node_stack.specs.Path.{Document, Node, can_have_children, current}
use Rattle.node_stack.specs.Stack.{path, path_node}
use Rattle.node_stack.specs.declared.parked.Parked.{Parked}
use Rattle.xml_events.specs.declared.event.Event.{Event}
use Rattle.template_machine.specs.Bodies.{level_in, skipped_in, takes_events}
use Rattle.template_machine.specs.Contexts.{Station}
use Rattle.template_machine.specs.Heard.{Listens}
use Rattle.template_machine.specs.Listed.{AreInOrder, TakesList}
use Rattle.template_machine.specs.Lists.{rest_of}
use Rattle.template_machine.specs.Moments.{HasTold}
use Rattle.template_machine.specs.Ordinary.{IsAlone}
use Rattle.template_machine.specs.Standing.{Front, Outer, Standing, node_over, outer_of, scope_over, skip_over, skipped_by, standing_of, writing_over}
use Rattle.template_machine.specs.Standing as standing
use Rattle.template_machine.specs.Ways.{IsWay, Way, first_in, here, way_of}
use Rattle.template_machine.specs.Well.{AreWell, AsksBefore, ListFits, OnFirst, OnOuter, PassesBy, buffers_of, is_again, over}
use Rattle.template_machine.specs.declared.program.Program.{Program}
use Rattle.template_machine.specs.declared.run.Run.{Run}
use Rattle.template_machine.specs.declared.source.Source as sources
use Rattle.template_machine.proofs.Nodes.{is_way}
use Rattle.template_machine.proofs.Regions.{writing_way}
use Rattle.template_machine.proofs.Ways.{way_here}
use Rattle.template_machine.proofs.Headed.{list_parts}

-- no source around the innermost, and no node beside its path
abbrev pub NoOther : Standing → Type 0
NoOther s = (s.aside ≡ []) × (s.around ≡ [])

pub writing_keeps : (ids : List ℕ) (s : Standing) → NoOther s → NoOther (writing_over ids s)
writing_keeps [] s h = h
writing_keeps (id ∷ ids) s h = writing_keeps ids _ h

pub scope_keeps : (new_scope : Bool) (group : ℕ) (s : Standing) → NoOther s → NoOther (scope_over new_scope group s)
scope_keeps false group s h = h
scope_keeps true group s h = h

pub over_keeps : (level : ℕ) (fs : List Frame) (s : Standing) → NoOther s → NoOther (over level fs s)
over_keeps level fs s h = by (is_again level fs)
  where
    by : (b : Bool) → NoOther (if b then s else node_over s)
    by true = h
    by false = h

pub skip_keeps : (l : List (Option Node)) (s : Standing) → l ≡ [] → NoOther s → NoOther (skipped_by l s)
skip_keeps [] s e h = h
skip_keeps (x ∷ l) s e h = absurd (cc)

module _ (p : Program) (stations : List Station) where
  pub in_order : (loops : ℕ) (waits : Bool) (fs : List Frame) (s : Standing) → AreWell p stations loops waits fs s → NoOther s → AreInOrder fs
  in_order loops waits [] s w h = tt
  in_order loops waits (Loop turn ∷ fs) s w h = in_order (suc loops) waits fs s w h
  in_order loops waits (Body template alternative pc locals level spent ∷ fs) s w h =
      in_order 0 true fs _ w.1.1.4 (over_keeps level fs _ (scope_keeps w.1.0.new_scope w.1.0.group _ (writing_keeps (buffers_of p w.0.writing) s h)))
  in_order loops waits (Call procedure pc locals level ∷ fs) s w h = in_order 0 false fs _ w.1.1.3 (writing_keeps (buffers_of p w.0.writing) s h)
  in_order loops waits (Region asked level ∷ fs) s w h = by _ s.aside h.0 w.3
    where
      by : (P : Node → List (Option Node) → Type 0) (l : List (Option Node)) → l ≡ [] → OnFirst l P → ⊥
      by P [] e first = first
      by P (x ∷ l) e first = absurd (cc)
  in_order loops waits (Attributes next asked ∷ fs) s w h = in_order 0 true fs s w.3 h
  in_order loops waits (Source buffer next asked ∷ fs) s w h = by _ s.around h.1 w.5
    where
      by : (P : Outer → List Outer → Type 0) (l : List Outer) → l ≡ [] → OnOuter l P → ⊥
      by P [] e first = first
      by P (x ∷ l) e first = absurd (cc)
  in_order loops waits (Skip depth ∷ fs) s w h = in_order 0 true fs _ w.4 (skip_keeps s.aside s h.0 h)
  in_order loops waits (Pass base level spent ∷ fs) s w h = in_order 0 true fs _ w.6 (over_keeps level fs s h)

  pub below_takes : (loops : ℕ) (fs : List Frame) (s : Standing) → AreWell p stations (suc loops) true fs s → TakesList fs
  below_takes loops [] s w = absurd (let no : suc loops ≡ 0 = w.0 in cc)
  below_takes loops (Loop turn ∷ fs) s w = below_takes (suc loops) fs s w
  below_takes loops (Attributes next asked ∷ fs) s w = absurd (let no : suc loops ≡ 0 = w.0 in cc)
  below_takes loops (Skip depth ∷ fs) s w = absurd (let no : suc loops ≡ 0 = w.0 in cc)
  below_takes loops (Body template alternative pc locals level spent ∷ fs) s w = tt
  below_takes loops (Call procedure pc locals level ∷ fs) s w = tt
  below_takes loops (Region asked level ∷ fs) s w = tt
  below_takes loops (Source buffer next asked ∷ fs) s w = tt
  below_takes loops (Pass base level spent ∷ fs) s w = tt

  pub takes_list_of : (fs : List Frame) (s : Standing) (w : Way) (n : ℕ) (front : Front) → AreWell p stations 0 true fs s → takes_events fs ≡ true → skipped_in fs ≡ None → ListFits fs w n front
      → TakesList fs
  takes_list_of [] s w n front well takes unskipped fits = fits
  takes_list_of (Loop turn ∷ fs) s w n front well takes unskipped fits = below_takes 0 fs s well
  takes_list_of (Attributes next asked ∷ fs) s w n front well takes unskipped fits = absurd (cc)
  takes_list_of (Skip depth ∷ fs) s w n front well takes unskipped fits = absurd (cc)
  takes_list_of (Body template alternative pc locals level spent ∷ fs) s w n front well takes unskipped fits = tt
  takes_list_of (Call procedure pc locals level ∷ fs) s w n front well takes unskipped fits = tt
  takes_list_of (Region asked level ∷ fs) s w n front well takes unskipped fits = tt
  takes_list_of (Source buffer next asked ∷ fs) s w n front well takes unskipped fits = tt
  takes_list_of (Pass base level spent ∷ fs) s w n front well takes unskipped fits = tt

  -- below the document node nothing waits
  pub nothing_below : (loops : ℕ) (waits : Bool) (fs : List Frame) (s : Standing) → AreWell p stations loops waits fs s → s.source.way.nodes ≡ [] → NoOther s → fs ≡ []
  nothing_below loops waits [] s w none h = refl
  nothing_below loops waits (Loop turn ∷ fs) s w none h =
      let e : fs ≡ [] = nothing_below (suc loops) waits fs s w none h in
      let last = subst (λ l. AreWell p stations (suc loops) waits l s) e w in
      absurd (let no : suc loops ≡ 0 = last.0 in cc)
  nothing_below loops waits (Body template alternative pc locals level spent ∷ fs) s w none h =
      absurd (subst (PassesBy p w.1.0 alternative) (ap here (writing_way (buffers_of p w.0.writing) s) ∙ ap first_in none) w.1.1.1.passes_by)
  nothing_below loops waits (Call procedure pc locals level ∷ fs) s w none h =
      let inner = writing_over (buffers_of p w.0.writing) s in
      let e : fs ≡ [] = nothing_below 0 false fs inner w.1.1.3 (ap (λ (v : Way). v.nodes) (writing_way (buffers_of p w.0.writing) s) ∙ none) (writing_keeps (buffers_of p w.0.writing) s h) in
      absurd (let no : None ≡ Some level = sym (ap level_in e) ∙ w.1.1.2 in cc)
  nothing_below loops waits (Region asked level ∷ fs) s w none h = absurd (in_order loops waits (Region asked level ∷ fs) s w h)
  nothing_below loops waits (Source buffer next asked ∷ fs) s w none h = absurd (in_order loops waits (Source buffer next asked ∷ fs) s w h)
  nothing_below loops waits (Attributes next asked ∷ fs) s w none h = absurd (subst (λ l. AsksBefore l asked) (nothing_below 0 true fs s w.3 none h) w.1)
  nothing_below loops waits (Skip depth ∷ fs) s w none h = absurd (let no : can_have_children None ≡ true = sym (ap (λ l. can_have_children (first_in l)) none) ∙ w.1 in cc)
  nothing_below loops waits (Pass base level spent ∷ fs) s w none h = absurd (let no : can_have_children None ≡ true = sym (ap (λ l. can_have_children (first_in l)) none) ∙ w.3 in cc)

pub alone_there : (p : Program) (r : Run) → IsAlone p r → NoOther (standing_of r)
alone_there p r alone = (
  ap (λ (l : List (Option Parked)). map (option_map (λ x. (path_node x).node)) (reverse l)) alone.aside,
  ap (λ (l : List sources.Source). map outer_of (reverse l)) alone.outer,
)

document_ends : (nodes : List Node) → first_in nodes ≡ Some Document → IsWay nodes → rest_of nodes ≡ []
document_ends [] is way = absurd way
document_ends (x ∷ []) is way = refl
document_ends (x ∷ y ∷ ys) is way = absurd (way.0 (some_node is))
  where
    some_node : {a b : Node} → Some a ≡ Some b → a ≡ b
    some_node e = cc

-- behind a node that is over
pub document_last : (p : Program) (stations : List Station) (r : Run) (fs : List Frame) → AreWell p stations 0 true fs (node_over (standing_of r)) → IsAlone p r
    → current (path r.source.stack) ≡ Some Document → fs ≡ []
document_last p stations r fs well alone is =
    let none : rest_of (way_of (path r.source.stack)).nodes ≡ [] =
    document_ends (way_of (path r.source.stack)).nodes (way_here (path r.source.stack) ∙ is) (is_way r.source.stack) in
    nothing_below p stations 0 true fs (node_over (standing_of r)) well none (alone_there p r alone)

pub listens_told : (p : Program) (e : Event) (r : Run) → HasTold p e r → IsAlone p r → skipped_in (reverse r.frames.frames) ≡ None → Listens p r
listens_told p e r told alone unskipped = record {
  alone = alone;
  doing = told.doing;
  ahead = told.ahead;
  takes = takes_list_of p told.stations (reverse r.frames.frames) (standing_of r) (standing_of r).source.way told.before standing.Unknown told.well told.list unskipped told.fits;
  order = in_order p told.stations 0 true (reverse r.frames.frames) (standing_of r) told.well (alone_there p r alone);
  gone = (list_parts (reverse r.frames.frames) (standing_of r).source.way told.before standing.Unknown told.list unskipped told.fits).1;
}
