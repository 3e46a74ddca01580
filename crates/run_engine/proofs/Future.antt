-- Where what is still to come goes no further.
use Rattle.std.proofs.Common.{◌≡◌, ℕ, Bool, true, false, List, [], ◌∷◌, ◌++◌, map, refl, sym, ap, subst, ◌∙◌}
use Rattle.stx_base.specs.declared.node.First.TheVariants as child
use Rattle.xml_events.specs.Document.{finished, inner, lists_of, readied, stage_by, stripped, with_items}
use Rattle.xml_events.specs.Source.{Source, future, left}
use Rattle.xml_events.specs.Telling.{event_of, first_of, no_event, pulled, start_of, start_pulled, told}
use Rattle.xml_events.specs.Tree.{Bad, Cut, Element, End, Forest, Future, Need, Nested, Single, Why}
use Rattle.xml_events.specs.declared.event.Event.{Event}
use Rattle.xml_events.specs.declared.event.Event.TheVariants as event
use Rattle.xml_events.specs.declared.event.Pull.TheVariants as pull
use Rattle.template_machine.specs.Giving.{StopsAt}

-- no event is no event
event-none : {P : Type 0} (e : Event) (why : Why) → pull.Event e ≡ no_event why → P
event-none e Need h = absurd cc
event-none e (Bad fault) h = absurd cc

end-none : {P : Type 0} (why : Why) → pull.End ≡ no_event why → P
end-none Need h = absurd cc
end-none (Bad fault) h = absurd cc

same-why : (v w : Why) → no_event v ≡ no_event w → v ≡ w
same-why Need Need h = refl
same-why Need (Bad f) h = absurd cc
same-why (Bad f) Need h = absurd cc
same-why (Bad f) (Bad g) h = cc

-- a list that is ready in no part: its first element, if it has one, isn't ready
nested-stops : (why : Why) (e : Element) (kids next : Forest) → start_pulled e kids ≡ no_event why → StopsAt why (Nested (stage_by kids) e kids next)
nested-stops why e (Cut w) next h = same-why w why h
nested-stops why e (End mark offset) next h = event-none (start_of e child.Nothing) why h
nested-stops why e (Single mark leaf kids) next h = event-none (start_of e (first_of (Single mark leaf kids))) why h
nested-stops why e (Nested stage element inside kids) next h = event-none (start_of e child.Other) why h

readied-stops : (why : Why) (list : Forest) (lists : Future) → pulled (readied list ∷ lists) ≡ no_event why → StopsAt why (readied list)
readied-stops why (End mark offset) [] h = event-none (event.DocumentEnd offset) why h
readied-stops why (End mark offset) (l ∷ lists) h = event-none (event.End offset) why h
readied-stops why (Cut w) lists h = same-why w why h
readied-stops why (Single mark leaf next) lists h = event-none (event_of leaf) why h
readied-stops why (Nested stage e kids next) lists h = nested-stops why e (readied kids) (readied next) h

finished-stops : (why : Why) (strip : Bool) (lists others : Future) → pulled (map (finished strip) lists) ≡ no_event why → StopsAt why (inner (map (finished strip) lists ++ others))
finished-stops why strip [] others h = end-none why h
finished-stops why true (list ∷ lists) others h = readied-stops why (stripped list) (map (finished true) lists) h
finished-stops why false (list ∷ lists) others h = readied-stops why list (map (finished false) lists) h

-- where all events that are known were given, and none is ready, the future goes no further
pub stops : (why : Why) (s : Source) (more : List ℕ) (last : Bool) (others : Future) → s.known ≡ [] → pulled (future s more last) ≡ no_event why → StopsAt why (inner (future s more last ++ others))
stops why s more last others none h =
    let lists = with_items s.front (lists_of (left s more last)) in
    let is : future s more last ≡ map (finished s.strip) lists = ap (λ (es : List Event). told es (map (finished s.strip) lists)) none in
    subst (λ f. StopsAt why (inner (f ++ others))) (sym is) (finished-stops why s.strip lists others (sym (ap pulled is) ∙ h))
