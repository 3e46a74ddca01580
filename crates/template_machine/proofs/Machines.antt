-- What the calls of a machine do to its documents.
use Rattle.std.proofs.Common.{◌≡◌, ℕ, suc, ◌+◌, ◌-◌, ◌≤◌, true, List, [], ◌∷◌, map, reverse, refl, ap, sym, subst, ◌∙◌, arith, Bool, false}
use Rattle.std.specs.Prelude.{All}
use Rattle.std.proofs.lemmas.List.Elements.{All-cons, All-head, All-nil}
use Rattle.event_buffers.specs.Sections.{tells_text}
use Rattle.node_stack.specs.Path.{Path}
use Rattle.node_stack.specs.Stack.{path}
use Rattle.template_machine.specs.Between.{Continues, EndsInnermost, HasDepth, HasRoom, IsAsking, TellsText, behind, depth_of, documents_of, lists_in, fuel_at, fuel_limit_of, fuel_of, main_in, mains_behind, mains_of}
use Rattle.template_machine.specs.Documents.{Open, documents, open_before, open_in, is_main}
use Rattle.template_machine.specs.Laws.{AskingIsOpen}
use Rattle.template_machine.specs.Moments.{IsDocument, StandsAsBefore}
use Rattle.template_machine.specs.Starting.{IsFresh}
use Rattle.template_machine.specs.Well.{begun_behind}
use Rattle.template_machine.specs.declared.machine.Machine.{Machine}
use Rattle.template_machine.specs.declared.program.Program.{Program}
use Rattle.template_machine.specs.declared.putting.Putting.{Putting}
use Rattle.template_machine.specs.declared.run.Run.{Run}
use Rattle.template_machine.specs.declared.source.Origin.{Origin}
use Rattle.template_machine.specs.declared.source.Origin.TheVariants as origin
use Rattle.template_machine.specs.declared.source.Source.{Source}
use Rattle.template_machine.proofs.Documents.{closes, limits_hold, opens}
use Rattle.template_machine.proofs.Eventful.{wants_begun}
use Rattle.template_machine.proofs.Going.{well_put}
use Rattle.xml_events.specs.declared.event.Event.{Event}
use Rattle.xml_events.specs.declared.event.Event.TheVariants as event
use Rattle.template_machine.specs.Steps.{fuel_ended}

-- The start.

fresh_documents : (p : Program) (r : Run) → IsFresh p r → documents r ≡ record { main = true; limit = p.limits.depth; lists = 1 } ∷ []
fresh_documents p r f =
    ap (λ o. open_before o (path r.source.stack).limit r.source.begun (open_in (reverse r.outer.items))) f.source.origin_is
    ∙ ap (λ (q : Path). open_before origin.Main q.limit r.source.begun (open_in (reverse r.outer.items))) f.source.path_is
    ∙ ap (λ b. open_before origin.Main p.limits.depth b (open_in (reverse r.outer.items))) f.begun
    ∙ ap (λ l. open_before origin.Main p.limits.depth 1 (open_in (reverse l))) f.outer

pub fresh_lists : (p : Program) (r n : Run) → IsFresh p r → documents n ≡ documents r → map lists_in (documents n) ≡ 1 ∷ []
fresh_lists p r n f same = ap (map lists_in) (same ∙ fresh_documents p r f)

pub fresh_mains : (p : Program) (r n : Run) → IsFresh p r → documents n ≡ documents r → map main_in (documents n) ≡ true ∷ []
fresh_mains p r n f same = ap (map main_in) (same ∙ fresh_documents p r f)

-- a document more
pub more_depths : (depth : ℕ) (n r : Run) → documents n ≡ record { main = false; limit = depth; lists = 1 } ∷ documents r → All (HasDepth depth) (documents r) → All (HasDepth depth) (documents n)
more_depths depth n r more all =
    subst (All (HasDepth depth)) (sym more) (All-cons (HasDepth depth) (record { main = false; limit = depth; lists = 1 }) (documents r) refl all)

pub fresh_depths : (p q : Program) (r n : Run) → IsFresh p r → q ≡ p → documents n ≡ documents r → All (HasDepth q.limits.depth) (documents n)
fresh_depths p q r n f program same =
    let one : List Open = record { main = true; limit = p.limits.depth; lists = 1 } ∷ [] in
    let all : All (HasDepth p.limits.depth) one =
    All-cons (HasDepth p.limits.depth) (record { main = true; limit = p.limits.depth; lists = 1 }) [] refl (All-nil (HasDepth p.limits.depth)) in
    subst (λ (x : Program). All (HasDepth x.limits.depth) (documents n)) (sym program) (subst (All (HasDepth p.limits.depth)) (sym (same ∙ fresh_documents p r f)) all)

-- An event.

pub text_told : (e : Event) → TellsText e → tells_text e ≡ true
text_told (event.CData offset text) h = h
text_told e h = refl

told_lists : (e : Event) (o : Origin) (limit n : ℕ) (others : List Open) → IsDocument o → 1 ≤ n → EndsInnermost e (n ∷ map lists_in others)
    → map lists_in (open_before o limit (begun_behind e n) others) ≡ behind e (n ∷ map lists_in others)
told_lists (event.Start offset name attrs decls first) o limit n others is some ends =
    let more : n + 1 ≡ suc n = omega arith in
    ap (map lists_in) (opens o limit (n + 1) others is (omega arith)) ∙ ap (λ k. k ∷ map lists_in others) more
told_lists (event.End offset) o limit n others is some ends = ap (map lists_in) (opens o limit (n - 1) others is (omega (arith, ends)))
told_lists (event.DocumentEnd offset) o limit n others is some ends =
    let none : n - 1 ≡ 0 = omega (arith, ends) in
    ap (λ k. map lists_in (open_before o limit k others)) none ∙ ap (map lists_in) (closes o limit others)
told_lists e o limit n others is some ends = ap (map lists_in) (opens o limit n others is some)

told_room : (e : Event) (depth n : ℕ) (ns : List ℕ) → HasRoom depth (behind e (n ∷ ns)) → EndsInnermost e (n ∷ ns) → begun_behind e n ≤ depth + 1
told_room (event.Start offset name attrs decls first) depth n ns room ends = omega (arith, room)
told_room (event.End offset) depth n ns room ends = room
told_room (event.DocumentEnd offset) depth n ns room ends = omega (arith, ends)
told_room e depth n ns room ends = room

-- the newest document, and those around it
newest : (m : Machine) → IsAsking m → documents m.run ≡ record { main = is_main m.run.source.origin; limit = (path m.run.source.stack).limit; lists = m.run.source.begun } ∷ open_in (reverse m.run.outer.items)
newest m a =
    opens m.run.source.origin (path m.run.source.stack).limit m.run.source.begun (open_in (reverse m.run.outer.items)) a.wants.document (wants_begun m.program m.run a.wants)

ends_there : (m : Machine) (e : Event) → IsAsking m → Continues m e → EndsInnermost e (m.run.source.begun ∷ map lists_in (open_in (reverse m.run.outer.items)))
ends_there m e a c = subst (EndsInnermost e) (ap (map lists_in) (newest m a)) c.ends

-- there is room for what it begins
pub event_fits : (m : Machine) (e : Event) → IsAsking m → Continues m e → begun_behind e m.run.source.begun ≤ (path m.run.source.stack).limit + 1
event_fits m e a c =
    let others = open_in (reverse m.run.outer.items) in
    let room : HasRoom (depth_of m) (behind e (m.run.source.begun ∷ map lists_in others)) =
    subst (λ l. HasRoom (depth_of m) (behind e l)) (ap (map lists_in) (newest m a)) c.room in
    let limit : (path m.run.source.stack).limit ≡ depth_of m =
    All-head (HasDepth (depth_of m)) _ others (subst (All (HasDepth (depth_of m))) (newest m a) a.depths) in
    subst (λ k. begun_behind e m.run.source.begun ≤ k + 1) (sym limit) (told_room e (depth_of m) m.run.source.begun (map lists_in others) room (ends_there m e a c))

-- the documents behind it
pub event_lists : (m : Machine) (e : Event) (s : Source) → IsAsking m → Continues m e → s ≡ record m.run.source { begun = begun_behind e m.run.source.begun }
    → map lists_in (documents (record m.run { source = s })) ≡ behind e (documents_of m)
event_lists m e s a c is =
    let others = open_in (reverse m.run.outer.items) in
    ap (λ (x : Source). map lists_in (documents (record m.run { source = x }))) is
    ∙ told_lists e m.run.source.origin (path m.run.source.stack).limit m.run.source.begun others a.wants.document (wants_begun m.program m.run a.wants) (ends_there m e a c)
    ∙ sym (ap (λ l. behind e (map lists_in l)) (newest m a))

pub event_depths : (m : Machine) (e : Event) (s : Source) → IsAsking m → s ≡ record m.run.source { begun = begun_behind e m.run.source.begun }
    → All (HasDepth (depth_of m)) (documents (record m.run { source = s }))
event_depths m e s a is =
    subst (λ (x : Source). All (HasDepth (depth_of m)) (documents (record m.run { source = x }))) (sym is)
    (limits_hold (HasDepth (depth_of m)) m.run.source.origin (path m.run.source.stack).limit m.run.source.begun (begun_behind e m.run.source.begun)
    (open_in (reverse m.run.outer.items)) (λ k h. h) a.wants.document (wants_begun m.program m.run a.wants) a.depths)

-- which of them is the main one
told_mains : (e : Event) (o : Origin) (limit n : ℕ) (others : List Open) → IsDocument o → 1 ≤ n → EndsInnermost e (n ∷ map lists_in others)
    → map main_in (open_before o limit (begun_behind e n) others) ≡ mains_behind e (is_main o ∷ map main_in others)
told_mains (event.Start offset name attrs decls first) o limit n others is some ends = ap (map main_in) (opens o limit (n + 1) others is (omega arith))
told_mains (event.End offset) o limit n others is some ends = ap (map main_in) (opens o limit (n - 1) others is (omega (arith, ends)))
told_mains (event.DocumentEnd offset) o limit n others is some ends =
    let none : n - 1 ≡ 0 = omega (arith, ends) in
    ap (λ k. map main_in (open_before o limit k others)) none ∙ ap (map main_in) (closes o limit others)
told_mains e o limit n others is some ends = ap (map main_in) (opens o limit n others is some)

pub event_mains : (m : Machine) (e : Event) (s : Source) → IsAsking m → Continues m e → s ≡ record m.run.source { begun = begun_behind e m.run.source.begun }
    → map main_in (documents (record m.run { source = s })) ≡ mains_behind e (mains_of m)
event_mains m e s a c is =
    let others = open_in (reverse m.run.outer.items) in
    ap (λ (x : Source). map main_in (documents (record m.run { source = x }))) is
    ∙ told_mains e m.run.source.origin (path m.run.source.stack).limit m.run.source.begun others a.wants.document (wants_begun m.program m.run a.wants) (ends_there m e a c)
    ∙ sym (ap (λ l. mains_behind e (map main_in l)) (newest m a))

-- what fuel may be left behind it
fuel_newest : (o : Origin) (ms : List Bool) (whole fuel : ℕ) → fuel_ended whole fuel o ≡ fuel_at (is_main o ∷ ms) whole fuel
fuel_newest origin.Main ms whole fuel = refl
fuel_newest (origin.Buffer id at) ms whole fuel = refl
fuel_newest (origin.Document at) ms whole fuel = refl

pub event_fuel : (m : Machine) → IsAsking m → fuel_ended (fuel_limit_of m) (fuel_of m) m.run.source.origin ≡ fuel_at (mains_of m) (fuel_limit_of m) (fuel_of m)
event_fuel m a =
    fuel_newest m.run.source.origin (map main_in (open_in (reverse m.run.outer.items))) (fuel_limit_of m) (fuel_of m)
    ∙ sym (ap (λ l. fuel_at (map main_in l) (fuel_limit_of m) (fuel_of m)) (newest m a))

-- as long as it asks, a document is open
pub asking_is_open : AskingIsOpen
asking_is_open m a none =
    let both : m.run.source.begun ∷ map lists_in (open_in (reverse m.run.outer.items)) ≡ [] = sym (ap (map lists_in) (newest m a)) ∙ none in cc

-- Other texts are at hand.
pub put_asks : (m : Machine) (new : Putting) → StandsAsBefore m.run.putting new → IsAsking m → IsAsking (record m { run = record m.run { putting = new } })
put_asks m new same a = record {
  wants =
      record {
        well = well_put m.program m.run new same a.wants.well;
        doing = a.wants.doing;
        ahead = a.wants.ahead;
        list = a.wants.list;
        document = a.wants.document;
      };
  depths = a.depths;
}
