-- The events of a document up to its end or its fault.
use Rattle.std.proofs.Common.{◌≡◌, ℕ, Bool, true, false, List, [], ◌∷◌, ◌++◌, Option, Some, None, refl, sym, ap, ◌∙◌, subst, append-nil}
use Rattle.std.specs.Prelude.{◌&&◌, if◌then◌else◌}
use Rattle.std.specs.List.{list_all}
use Rattle.std.specs.Option.{option_or}
use Rattle.stx_base.specs.Character.{is_space}
use Rattle.stx_base.specs.declared.limits.Limits.{Limits}
use Rattle.xml_tokens.specs.Reader.{fed}
use Rattle.xml_tokens.specs.declared.lexeme.Ending.{Ending}
use Rattle.xml_tokens.specs.declared.lexeme.Ending.TheVariants as ending
use Rattle.xml_events.specs.declared.event.Event.{Event}
use Rattle.xml_events.specs.declared.event.Event.TheVariants as event
use Rattle.xml_events.specs.Before.{starting}
use Rattle.xml_events.specs.Answering.{answer_of}
use Rattle.xml_events.specs.Document.{reading_from, lists_of, inner, finished, readied, stripped, doc_for}
use Rattle.xml_events.specs.Flatten.{is_closed, IsCut, IsProper, cut_by}
use Rattle.xml_events.specs.Lexed.{lexed_from, unread}
use Rattle.xml_events.specs.Run.{Tells, AreCalled, stop_of}
use Rattle.xml_events.specs.Telling.{told, followed, pulled, events_in, events_of, stop_in}
use Rattle.xml_events.specs.Tree.{Why, Need, Bad, Mark, Chars, CData, Comment, Pi, Forest, End, Cut, Single, Nested, Future}
use Rattle.xml_events.proofs.Over.{NoneNeeds, all_events, called_events, told_events, doc-none}
use Rattle.xml_events.proofs.Treeing.{is-cut-tree, and_false}

-- an open element is the last node of its list, which is cut behind it
abbrev IsTidy : Forest → Type 0
IsTidy (End m o) = Unit {0}
IsTidy (Cut why) = Unit {0}
IsTidy (Single m leaf next) = IsTidy next
IsTidy (Nested m e kids next) = IsTidy kids × IsTidy next × (is_closed kids ≡ false → IsCut next)

proper_tidy : (why : Option Why) (x : Forest) → IsProper why x → IsTidy x
proper_tidy why (End m o) p = tt
proper_tidy why (Cut w) p = tt
proper_tidy why (Single m (Chars o t) next) p = proper_tidy why next p.3
proper_tidy why (Single m (CData o t) next) p = proper_tidy why next p.1
proper_tidy why (Single m (Comment o t) next) p = proper_tidy why next p.1
proper_tidy why (Single m (Pi o g t) next) p = proper_tidy why next p.1
proper_tidy why (Nested m e kids next) p = (proper_tidy why kids p.1, proper_tidy why next p.2, p.3)

stripped_cut : (x : Forest) → IsCut x → IsCut (stripped x)
stripped_cut (End m o) c = absurd c
stripped_cut (Cut why) c = tt
stripped_cut (Single m leaf next) c = absurd c
stripped_cut (Nested m e kids next) c = absurd c

and_same : (a b s t : Bool) → a ≡ s → b ≡ t → (a && b) ≡ (s && t)
and_same a b s t e f = ap (λ x. x && b) e ∙ ap (λ y. s && y) f

blank_closed : (b : Bool) (o : ℕ) (t : List ℕ) (m : Mark) (x next : Forest) → is_closed x ≡ is_closed next → is_closed (if b then x else Single m (Chars o t) x) ≡ is_closed next
blank_closed true o t m x next e = e
blank_closed false o t m x next e = e

stripped_closed : (x : Forest) → is_closed (stripped x) ≡ is_closed x
stripped_closed (End m o) = refl
stripped_closed (Cut why) = refl
stripped_closed (Single m (Chars o t) next) = blank_closed (list_all is_space t) o t m (stripped next) next (stripped_closed next)
stripped_closed (Single m (CData o t) next) = stripped_closed next
stripped_closed (Single m (Comment o t) next) = stripped_closed next
stripped_closed (Single m (Pi o g t) next) = stripped_closed next
stripped_closed (Nested m e kids next) = and_same (is_closed (stripped kids)) (is_closed (stripped next)) (is_closed kids) (is_closed next) (stripped_closed kids) (stripped_closed next)

blank_tidy : (b : Bool) (o : ℕ) (t : List ℕ) (m : Mark) (x : Forest) → IsTidy x → IsTidy (if b then x else Single m (Chars o t) x)
blank_tidy true o t m x h = h
blank_tidy false o t m x h = h

stripped_tidy : (x : Forest) → IsTidy x → IsTidy (stripped x)
stripped_tidy (End m o) h = tt
stripped_tidy (Cut why) h = tt
stripped_tidy (Single m (Chars o t) next) h = blank_tidy (list_all is_space t) o t m (stripped next) (stripped_tidy next h)
stripped_tidy (Single m (CData o t) next) h = stripped_tidy next h
stripped_tidy (Single m (Comment o t) next) h = stripped_tidy next h
stripped_tidy (Single m (Pi o g t) next) h = stripped_tidy next h
stripped_tidy (Nested m e kids next) h = (stripped_tidy kids h.0, stripped_tidy next h.1, λ c. stripped_cut next (h.2 (sym (stripped_closed kids) ∙ c)))

readied_closed : (x : Forest) → is_closed (readied x) ≡ is_closed x
readied_closed (End m o) = refl
readied_closed (Cut why) = refl
readied_closed (Single m leaf next) = readied_closed next
readied_closed (Nested m e kids next) = and_same (is_closed (readied kids)) (is_closed (readied next)) (is_closed kids) (is_closed next) (readied_closed kids) (readied_closed next)

readied_cut : (x : Forest) → IsCut x → IsCut (readied x)
readied_cut (End m o) c = absurd c
readied_cut (Cut why) c = tt
readied_cut (Single m leaf next) c = absurd c
readied_cut (Nested m e kids next) c = absurd c

readied_tidy : (x : Forest) → IsTidy x → IsTidy (readied x)
readied_tidy (End m o) h = tt
readied_tidy (Cut why) h = tt
readied_tidy (Single m leaf next) h = readied_tidy next h
readied_tidy (Nested m e kids next) h = (readied_tidy kids h.0, readied_tidy next h.1, λ c. readied_cut next (h.2 (sym (readied_closed kids) ∙ c)))

finished_tidy : (s : Bool) (x : Forest) → IsTidy x → IsTidy (finished s x)
finished_tidy true x h = readied_tidy (stripped x) (stripped_tidy x h)
finished_tidy false x h = readied_tidy x h

doc_tidy : (limits : Limits) (strip cdata : Bool) (bytes : List ℕ) (ended : Bool) → IsTidy (doc_for limits strip cdata bytes ended)
doc_tidy limits strip cdata bytes ended =
    let r = unread limits bytes ended in
    let t = is-cut-tree limits cdata (fed r) (lexed_from r).last (lexed_from r).lexemes in
    finished_tidy strip (inner (lists_of (reading_from limits (starting cdata) r))) (proper_tidy (cut_by (reading_from limits (starting cdata) r).rest) (inner (lists_of (reading_from limits (starting cdata) r))) t.0)

-- behind an open list all are cut
abbrev AreCut : Future → Type 0
AreCut [] = Unit {0}
AreCut (list ∷ lists) = IsCut list × AreCut lists

abbrev AreTidy : Future → Type 0
AreTidy [] = Unit {0}
AreTidy (x ∷ f) = IsTidy x × (is_closed x ≡ false → AreCut f) × AreTidy f

closed_first : (s t : Bool) → s ≡ false → (s && t) ≡ false
closed_first false t e = refl
closed_first true t e = absurd cc

-- what follows an event is tidy
behind_tidy : (e : Event) (f : Future) → NoneNeeds (followed e f) → AreTidy (followed e f) → AreTidy f
behind_tidy (event.Start o name attrs decls first) [] n h = absurd n.0.0
behind_tidy (event.Start o name attrs decls first) (k ∷ []) n h = absurd n.0.1
behind_tidy (event.Start o name attrs decls first) (k ∷ x ∷ f) n h = (
  h.0.0,
  λ c. (h.0.2 c, h.1 (closed_first (is_closed k) (is_closed x) c)),
  (h.0.1, λ c. h.1 (and_false (is_closed k) (is_closed x) c), h.2),
)
behind_tidy (event.End o) f n h = h.2
behind_tidy (event.DocumentEnd o) f n h = h.2
behind_tidy (event.Chars o text) [] n h = tt
behind_tidy (event.Chars o text) (k ∷ f) n h = h
behind_tidy (event.CData o text) [] n h = tt
behind_tidy (event.Comment o text) [] n h = tt
behind_tidy (event.CData o text) (k ∷ f) n h = h
behind_tidy (event.Comment o text) (k ∷ f) n h = h
behind_tidy (event.Pi o target text) [] n h = tt
behind_tidy (event.Pi o target text) (k ∷ f) n h = h

rest_tidy : (es : List Event) (rest : Future) → AreCalled es rest → NoneNeeds (told es rest) → AreTidy (told es rest) → AreTidy rest
rest_tidy [] rest c n h = h
rest_tidy (e ∷ es) rest c n h = rest_tidy es rest c.1 (called_events e (told es rest) c.0 n).1 (behind_tidy e (told es rest) n h)

-- cut lists have no events
cut_events : (f : Future) → AreCut f → all_events f ≡ []
cut_events [] h = refl
cut_events (End m o ∷ f) h = absurd h.0
cut_events (Cut why ∷ []) h = refl
cut_events (Cut why ∷ x ∷ f) h = cut_events (x ∷ f) h.1
cut_events (Single m leaf next ∷ f) h = absurd h.0
cut_events (Nested m e kids next ∷ f) h = absurd h.0

-- what isn't ready has none
unready_events : (x : Forest) (f : Future) → events_in event.DocumentEnd x ≡ [] → events_in event.End x ≡ [] → AreCut f → all_events (x ∷ f) ≡ []
unready_events x [] a b c = a
unready_events x (y ∷ f) a b c = ap (λ l. l ++ all_events (y ∷ f)) b ∙ cut_events (y ∷ f) c

over_events : (f : Future) (over : Ending) → pulled f ≡ answer_of over → AreTidy f → all_events f ≡ []
over_events [] over p h = refl
over_events (End m o ∷ f) ending.End p h = absurd cc
over_events (End m o ∷ f) (ending.Bad fault) p h = absurd cc
over_events (End m o ∷ f) ending.Memory p h = absurd cc
over_events (Cut why ∷ f) over p h = unready_events (Cut why) f refl refl (h.1 refl)
over_events (Single m leaf next ∷ f) ending.End p h = absurd cc
over_events (Single m leaf next ∷ f) (ending.Bad fault) p h = absurd cc
over_events (Single m leaf next ∷ f) ending.Memory p h = absurd cc
over_events (Nested m e (Cut why) next ∷ f) over p h = unready_events (Nested m e (Cut why) next) f refl refl (h.1 refl)
over_events (Nested m e (End k o) next ∷ f) ending.End p h = absurd cc
over_events (Nested m e (End k o) next ∷ f) (ending.Bad fault) p h = absurd cc
over_events (Nested m e (End k o) next ∷ f) ending.Memory p h = absurd cc
over_events (Nested m e (Single k leaf more) next ∷ f) ending.End p h = absurd cc
over_events (Nested m e (Single k leaf more) next ∷ f) (ending.Bad fault) p h = absurd cc
over_events (Nested m e (Single k leaf more) next ∷ f) ending.Memory p h = absurd cc
over_events (Nested m e (Nested k d kids more) next ∷ f) ending.End p h = absurd cc
over_events (Nested m e (Nested k d kids more) next ∷ f) (ending.Bad fault) p h = absurd cc
over_events (Nested m e (Nested k d kids more) next ∷ f) ending.Memory p h = absurd cc

module _ (limits : Limits) (strip cdata : Bool) (bytes : List ℕ) (events : List Event) (over : Ending) (t : Tells (doc_for limits strip cdata bytes true ∷ []) events over) where
  none : NoneNeeds (told events t.rest)
  none = subst NoneNeeds t.tell (doc-none limits strip cdata bytes)

  tidy : AreTidy (told events t.rest)
  tidy = subst AreTidy t.tell (doc_tidy limits strip cdata bytes true, λ c. tt, tt)

  pub events-are : events ≡ events_of (doc_for limits strip cdata bytes true)
  events-are =
      sym (ap all_events t.tell ∙ told_events events t.rest t.called none
      ∙ ap (λ l. events ++ l) (over_events t.rest over t.ends (rest_tidy events t.rest t.called none tidy)) ∙ append-nil events)

-- why lists go no further
abbrev stop_all : Future → Option Why
stop_all [] = None
stop_all (list ∷ lists) = option_or (stop_in list) (stop_all lists)

or_assoc : (a b c : Option Why) → option_or (option_or a b) c ≡ option_or a (option_or b c)
or_assoc None b c = refl
or_assoc (Some w) b c = refl

or_none : (a : Option Why) → option_or a None ≡ a
or_none None = refl
or_none (Some w) = refl

behind_stop : (e : Event) (f : Future) → NoneNeeds (followed e f) → stop_all (followed e f) ≡ stop_all f
behind_stop (event.Start o name attrs decls first) [] n = absurd n.0.0
behind_stop (event.Start o name attrs decls first) (k ∷ []) n = absurd n.0.1
behind_stop (event.Start o name attrs decls first) (k ∷ x ∷ f) n = or_assoc (stop_in k) (stop_in x) (stop_all f)
behind_stop (event.End o) f n = refl
behind_stop (event.DocumentEnd o) f n = refl
behind_stop (event.Chars o text) [] n = absurd n.0
behind_stop (event.Chars o text) (k ∷ f) n = refl
behind_stop (event.CData o text) [] n = absurd n.0
behind_stop (event.Comment o text) [] n = absurd n.0
behind_stop (event.CData o text) (k ∷ f) n = refl
behind_stop (event.Comment o text) (k ∷ f) n = refl
behind_stop (event.Pi o target text) [] n = absurd n.0
behind_stop (event.Pi o target text) (k ∷ f) n = refl

rest_stop : (es : List Event) (rest : Future) → AreCalled es rest → NoneNeeds (told es rest) → stop_all (told es rest) ≡ stop_all rest
rest_stop [] rest c n = refl
rest_stop (e ∷ es) rest c n = behind_stop e (told es rest) n ∙ rest_stop es rest c.1 (called_events e (told es rest) c.0 n).1

over_stop : (f : Future) (over : Ending) → pulled f ≡ answer_of over → stop_all f ≡ stop_of over
over_stop [] ending.End p = refl
over_stop [] (ending.Bad fault) p = absurd cc
over_stop [] ending.Memory p = absurd cc
over_stop (End m o ∷ f) ending.End p = absurd cc
over_stop (End m o ∷ f) (ending.Bad fault) p = absurd cc
over_stop (End m o ∷ f) ending.Memory p = absurd cc
over_stop (Cut Need ∷ f) ending.End p = absurd cc
over_stop (Cut Need ∷ f) (ending.Bad fault) p = absurd cc
over_stop (Cut Need ∷ f) ending.Memory p = absurd cc
over_stop (Cut (Bad g) ∷ f) ending.End p = absurd cc
over_stop (Cut (Bad g) ∷ f) (ending.Bad fault) p = let e : g ≡ fault = cc in ap (λ x. Some (Bad x)) e
over_stop (Cut (Bad g) ∷ f) ending.Memory p = absurd cc
over_stop (Single m leaf next ∷ f) ending.End p = absurd cc
over_stop (Single m leaf next ∷ f) (ending.Bad fault) p = absurd cc
over_stop (Single m leaf next ∷ f) ending.Memory p = absurd cc
over_stop (Nested m e (Cut Need) next ∷ f) ending.End p = absurd cc
over_stop (Nested m e (Cut Need) next ∷ f) (ending.Bad fault) p = absurd cc
over_stop (Nested m e (Cut Need) next ∷ f) ending.Memory p = absurd cc
over_stop (Nested m e (Cut (Bad g)) next ∷ f) ending.End p = absurd cc
over_stop (Nested m e (Cut (Bad g)) next ∷ f) (ending.Bad fault) p = let i : g ≡ fault = cc in ap (λ x. Some (Bad x)) i
over_stop (Nested m e (Cut (Bad g)) next ∷ f) ending.Memory p = absurd cc
over_stop (Nested m e (End k o) next ∷ f) ending.End p = absurd cc
over_stop (Nested m e (End k o) next ∷ f) (ending.Bad fault) p = absurd cc
over_stop (Nested m e (End k o) next ∷ f) ending.Memory p = absurd cc
over_stop (Nested m e (Single k leaf more) next ∷ f) ending.End p = absurd cc
over_stop (Nested m e (Single k leaf more) next ∷ f) (ending.Bad fault) p = absurd cc
over_stop (Nested m e (Single k leaf more) next ∷ f) ending.Memory p = absurd cc
over_stop (Nested m e (Nested k d kids more) next ∷ f) ending.End p = absurd cc
over_stop (Nested m e (Nested k d kids more) next ∷ f) (ending.Bad fault) p = absurd cc
over_stop (Nested m e (Nested k d kids more) next ∷ f) ending.Memory p = absurd cc

pub ending-is : (limits : Limits) (strip cdata : Bool) (bytes : List ℕ) (events : List Event) (over : Ending) → Tells (doc_for limits strip cdata bytes true ∷ []) events over → stop_in (doc_for limits strip cdata bytes true) ≡ stop_of over
ending-is limits strip cdata bytes events over t =
    sym (or_none (stop_in (doc_for limits strip cdata bytes true)))
    ∙ ap stop_all t.tell
    ∙ rest_stop events t.rest t.called (subst NoneNeeds t.tell (doc-none limits strip cdata bytes))
    ∙ over_stop t.rest over t.ends
