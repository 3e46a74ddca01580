-- Where the document node of a run is over, no document is open.
use Rattle.std.proofs.Common.{◌≡◌, ℕ, suc, Bool, true, false, List, [], ◌∷◌, length, map, reverse, Some, None, refl, ap, sym, subst, ◌∙◌, Option}
use Rattle.std.specs.Prelude.{filter}
use Rattle.std.proofs.lemmas.Bool.{false≢true}
use Rattle.frame_stack.specs.declared.frame.Frame.{Frame}
use Rattle.frame_stack.specs.declared.frame.Frame.TheVariants.{Body, Call, Attributes, Loop, Region, Source, Skip, Pass}
use Rattle.node_stack.specs.Path.{Document, can_have_children}
use Rattle.node_stack.specs.Stack.{path}
use Rattle.template_machine.specs.Contexts.{Station}
use Rattle.template_machine.specs.Documents.{documents, open_before, open_in}
use Rattle.template_machine.specs.Lists.{rest_of}
use Rattle.template_machine.specs.Standing.{Front, Over, Standing, Unknown, Waits, node_over, outer_of, standing_of, writing_over}
use Rattle.template_machine.specs.Ways.{Way, first_in, has_list, here, left, way_of}
use Rattle.template_machine.specs.Well.{AreWell, HasList, IsFrontFor, PassesBy, buffers_of, ListFits}
use Rattle.template_machine.specs.declared.program.Program.{Program}
use Rattle.template_machine.specs.declared.run.Run.{Run}
use Rattle.template_machine.specs.declared.source.Origin.TheVariants as origin
use Rattle.template_machine.specs.declared.source.Source as sources
use Rattle.template_machine.proofs.Documents.{bare, closes, none_left}
use Rattle.template_machine.proofs.Nodes.{is_way}
use Rattle.template_machine.proofs.Regions.{writing_way}
use Rattle.template_machine.proofs.Streaming.{first_on, writing_origin}
use Rattle.template_machine.specs.Moments.{ListIsOver}

-- a way without nodes has no list
listless : (w : Way) → w.nodes ≡ [] → HasList w → ⊥
listless w e h = false≢true (sym (ap (λ l. can_have_children (first_in l)) e) ∙ h)

writing_around : (ids : List ℕ) (s : Standing) → (writing_over ids s).around ≡ s.around
writing_around [] s = refl
writing_around (id ∷ ids) s = writing_around ids _

-- where no node is, no frame waits for one, and no source for another
module _ (p : Program) (stations : List Station) where
  bottom : (loops : ℕ) (waits : Bool) (fs : List Frame) (s : Standing) → AreWell p stations loops waits fs s → s.source.way.nodes ≡ []
      → (s.around ≡ []) × (s.source.origin ≡ origin.Main)
  bottom loops waits [] s w e = (w.2, w.5)
  bottom loops waits (Loop turn ∷ fs) s w e = bottom (suc loops) waits fs s w e
  bottom loops waits (Body template alternative pc locals level spent ∷ fs) s w e =
      let ids = buffers_of p w.0.writing in
      let none : here (writing_over ids s).source.way ≡ None = ap here (writing_way ids s) ∙ ap first_in e in
      absurd (subst (PassesBy p w.1.0 alternative) none w.1.1.1.passes_by)
  bottom loops waits (Call procedure pc locals level ∷ fs) s w e =
      let ids = buffers_of p w.0.writing in
      let inner = bottom 0 false fs (writing_over ids s) w.1.1.3 (ap (λ (v : Way). v.nodes) (writing_way ids s) ∙ e) in
      (sym (writing_around ids s) ∙ inner.0, sym (writing_origin ids s) ∙ inner.1)
  bottom loops waits (Region asked level ∷ fs) s w e =
      first_on s.aside _ ((s.around ≡ []) × (s.source.origin ≡ origin.Main)) w.3 (λ x others k. absurd (listless s.source.way e k.0.children))
  bottom loops waits (Attributes next asked ∷ fs) s w e = bottom 0 true fs s w.3 e
  bottom loops waits (Source buffer next asked ∷ fs) s w e =
      let none : here s.source.way ≡ None = ap first_in e in let both : Some Document ≡ None = sym w.4 ∙ none in absurd (cc)
  bottom loops waits (Skip depth ∷ fs) s w e = absurd (listless s.source.way e w.1)
  bottom loops waits (Pass base level spent ∷ fs) s w e = absurd (listless s.source.way e w.3)

-- a source ends with its list
pub source_ended : (p : Program) (r : Run) → ListIsOver p r → (buffer : Option ℕ) (next asked : ℕ) (fs : List Frame)
    → reverse r.frames.frames ≡ Source buffer next asked ∷ fs → r.source.begun ≡ 0
source_ended p r h buffer next asked fs is =
    let s = standing_of r in
    let w : AreWell p h.stations 0 true (Source buffer next asked ∷ fs) s = subst (λ l. AreWell p h.stations 0 true l s) is h.well in
    let fits : ListFits (Source buffer next asked ∷ fs) s.source.way r.source.begun Over = subst (λ l. ListFits l s.source.way r.source.begun Over) is h.fits in
    sym fits.2 ∙ none_left s.source.way (is_way r.source.stack) w.4

-- nothing has begun around the document node
front_none : (w : Way) → w.nodes ≡ [] → (front : Front) (n : ℕ) → IsFrontFor w n front → n ≡ 0
front_none w e Unknown n h = sym h ∙ ap (λ l. length (filter has_list l)) e
front_none w e Over n h = sym h ∙ ap (λ l. length (filter has_list (rest_of l))) e
front_none w e (Waits x) n h = absurd (listless w e h.0.children)

no_outer : (ss : List sources.Source) → map outer_of ss ≡ [] → ss ≡ []
no_outer [] e = refl
no_outer (s ∷ ss) e = absurd (cc)

pub none_open : (p : Program) (stations : List Station) (r : Run) (fs : List Frame) (front : Front) → AreWell p stations 0 true fs (node_over (standing_of r))
    → IsFrontFor (left (standing_of r).source.way) r.source.begun front → here (way_of (path r.source.stack)) ≡ Some Document → documents r ≡ []
none_open p stations r fs front well fits is =
    let w = way_of (path r.source.stack) in
    let empty : (left w).nodes ≡ [] = bare w.nodes (is_way r.source.stack) is in
    let b = bottom p stations 0 true fs (node_over (standing_of r)) well empty in
    let begun : r.source.begun ≡ 0 = front_none (left w) empty front r.source.begun fits in
    let none : reverse r.outer.items ≡ [] = no_outer (reverse r.outer.items) b.0 in
    ap (λ n. open_before r.source.origin (path r.source.stack).limit n (open_in (reverse r.outer.items))) begun
    ∙ closes r.source.origin (path r.source.stack).limit (open_in (reverse r.outer.items))
    ∙ ap open_in none
