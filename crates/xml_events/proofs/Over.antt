-- A whole document needs no more bytes.
use Rattle.std.proofs.Common.{◌≡◌, ◌≢◌, ◌<◌, ◌+◌, ℕ, zero, suc, Bool, true, false, cond, List, [], ◌∷◌, ◌++◌, Option, Some, None, Result, Ok, Err, map, length, refl, sym, ap, ◌∙◌, subst, arith, append_assoc}
use Rattle.std.specs.Prelude.{if◌then◌else◌, not, ◌&&◌, ◌==◌, nat_lt, take}
use Rattle.std.specs.List.{list_all}
use Rattle.stx_base.specs.Character.{is_space}
use Rattle.stx_base.specs.declared.fault.XmlFault.{XmlFault}
use Rattle.stx_base.specs.declared.fault.XmlKind.{XmlKind}
use Rattle.stx_base.specs.declared.fault.XmlKind.TheVariants.{LexemeTooLong, InputTooLong, Truncated}
use Rattle.stx_base.specs.declared.limits.Limits.{Limits}
use Rattle.xml_tokens.specs.Judged.{judged as judged_bytes}
use Rattle.xml_tokens.specs.Reader.{Reader, bad, is_cut, is_last, is_open, coming, place, due, after, fed, at_shape_or_rest, lexeme_or_fault, step_or_need}
use Rattle.xml_tokens.specs.Run.{Taken}
use Rattle.xml_tokens.specs.Shape.{shape_len}
use Rattle.xml_tokens.specs.declared.lexeme.Body.{Body}
use Rattle.xml_tokens.specs.declared.lexeme.Body.TheVariants as body
use Rattle.xml_tokens.specs.declared.lexeme.Lexeme.{Lexeme}
use Rattle.xml_tokens.specs.declared.lexeme.Step.{Step}
use Rattle.xml_tokens.specs.declared.lexeme.Step.TheVariants as step
use Rattle.xml_tokens.proofs.ReaderLemmas.{ending_at}
use Rattle.xml_tokens.proofs.RunLemmas.{due-fresh, taken-fresh, taken-ended, need-going, after-shorter, after-fresh}
use Rattle.xml_events.specs.declared.event.Event.{Event}
use Rattle.xml_events.specs.declared.event.Event.TheVariants as event
use Rattle.xml_events.specs.declared.event.Pull.TheVariants as pull
use Rattle.xml_events.specs.Before.{Before, starting, fault_of, before_next, is_complete, is_inside, without_text, behind_text}
use Rattle.xml_events.specs.Document.{Says, Reading, items_of, stops, completes, cuts, at_end, judged, reading, reading_from, lists_of, with_items, text_before, finished, readied, stripped, doc_for, Stands, text_items}
use Rattle.xml_events.specs.Lexed.{Lexed, answered, lexed_within, lexed_from, lexed, unread}
use Rattle.xml_events.specs.Run.{AreCalled}
use Rattle.xml_events.specs.Telling.{told, followed, pulled, start_pulled, start_of, first_of, events_in}
use Rattle.xml_events.specs.Tree.{Need, Bad, Chars, CData, Comment, Pi, Element, Forest, End, Cut, Single, Nested, Future, Stage, Ready}
use Rattle.xml_events.proofs.Counting.{Open, reading-open, has-document}
use Rattle.xml_events.proofs.Reading.{judged-lists}

-- a reader after all lexemes that come
pub record Left (r : Reader) (x : Lexed) : Type 0 where
  pub rest : Reader
  pub taken : Taken r x.lexemes rest
  pub last : due rest ≡ x.last
  pub no_lexeme : (l : Lexeme) → x.last ≢ step.Lexeme l

-- what comes after an answer is asked of fewer bytes
left_by : (n : ℕ) (r : Reader) (s : Step) → r.over ≡ None → length r.unread < suc n → due r ≡ s →
    ((q : Reader) → q.over ≡ None → length q.unread < n → Left q (lexed_within n q)) → Left r (answered s (λ l. lexed_within n (after r (step.Lexeme l))))
left_by n r (step.Lexeme l) fresh short e again =
    let shorter = after-shorter r l fresh e in
    let h = again (after r (step.Lexeme l)) (after-fresh r l fresh) (omega arith) in
    record { rest = h.rest; taken = (e, h.taken); last = h.last; no_lexeme = h.no_lexeme }
left_by n r step.Need fresh short e again = record { rest = r; taken = refl; last = e; no_lexeme = λ l c. cc }
left_by n r step.End fresh short e again = record { rest = r; taken = refl; last = e; no_lexeme = λ l c. cc }
left_by n r (step.Bad fault) fresh short e again = record { rest = r; taken = refl; last = e; no_lexeme = λ l c. cc }
left_by n r step.Memory fresh short e again = record { rest = r; taken = refl; last = e; no_lexeme = λ l c. cc }

pub left : (n : ℕ) (r : Reader) → r.over ≡ None → length r.unread < n → Left r (lexed_within n r)
left zero r fresh short = absurd (omega arith)
left (suc n) r fresh short = left_by n r (due r) fresh short refl (left n)

no_memory_judged : (o : Result Body XmlKind) (at : ℕ) → lexeme_or_fault o at ≢ step.Memory
no_memory_judged (Err kind) at h = cc
no_memory_judged (Ok body) at h = cc

no_memory_shape : (long : Bool) (o : Result Body XmlKind) (at : ℕ) → cond long (step.Bad (record { kind = LexemeTooLong; offset = at })) (lexeme_or_fault o at) ≢ step.Memory
no_memory_shape true o at h = cc
no_memory_shape false o at h = no_memory_judged o at h

no_memory_rest : (long cut ended none : Bool) (a b k : ℕ) → step_or_need (ending_at long cut ended none (Some (bad LexemeTooLong a)) (Some (bad InputTooLong b)) k) ≢ step.Memory
no_memory_rest true cut ended none a b k h = cc
no_memory_rest false true ended none a b k h = cc
no_memory_rest false false true true a b k h = cc
no_memory_rest false false true false a b k h = cc
no_memory_rest false false false none a b k h = cc

-- memory is never due
no-memory : (r : Reader) → r.over ≡ None → due r ≢ step.Memory
no-memory r fresh h = by_shape (shape_len (is_last r) (coming r)) (sym (due-fresh r fresh) ∙ h) where
  by_shape : (o : Option ℕ) → at_shape_or_rest r o ≡ step.Memory → ⊥
  by_shape (Some len) k = no_memory_shape (nat_lt r.limits.lexeme (length (take len (coming r)))) (judged_bytes (r.offset == 0) (take len (coming r))) (place r) k
  by_shape None k =
      no_memory_rest (not (is_open r) && nat_lt r.limits.lexeme (length (coming r))) (is_cut r) r.ended (length (coming r) == 0)
      (place r) r.limits.input (r.offset + length r.unread) k

-- what comes after the lexemes of a whole document
abbrev IsOver : Step → Type 0
IsOver step.End = Unit {0}
IsOver (step.Bad fault) = Unit {0}
IsOver other = ⊥

is_over : (s : Step) → ((l : Lexeme) → s ≢ step.Lexeme l) → s ≢ step.Need → s ≢ step.Memory → IsOver s
is_over (step.Lexeme l) a b c = a l refl
is_over step.Need a b c = b refl
is_over step.End a b c = tt
is_over (step.Bad fault) a b c = tt
is_over step.Memory a b c = c refl

lexed-over : (limits : Limits) (bytes : List ℕ) → IsOver (lexed limits bytes true).last
lexed-over limits bytes =
    let start = unread limits bytes true in
    let x = lexed limits bytes true in
    let l = left (suc (length bytes)) start refl (omega arith) in
    let fresh = taken-fresh start l.rest x.lexemes l.taken refl in
    let ended = taken-ended start l.rest x.lexemes l.taken in
    is_over x.last l.no_lexeme
    (λ n. let going = need-going l.rest fresh (l.last ∙ n) in let c = sym ended ∙ going in cc)
    (λ m. no-memory l.rest fresh (l.last ∙ m))

-- no list of the tree needs more
abbrev pub NoNeed : Forest → Type 0
NoNeed (End m o) = Unit {0}
NoNeed (Cut Need) = ⊥
NoNeed (Cut (Bad fault)) = Unit {0}
NoNeed (Single m leaf next) = NoNeed next
NoNeed (Nested m e kids next) = NoNeed kids × NoNeed next

-- neither does a list of these
abbrev pub NoneNeeds : Future → Type 0
NoneNeeds [] = Unit {0}
NoneNeeds (list ∷ lists) = NoNeed list × NoneNeeds lists

text_no_need : (o : ℕ) (t : List ℕ) (x : Forest) → NoNeed x → NoNeed (text_before o t x)
text_no_need o t (Single m (Chars k l) next) h = h
text_no_need o [] (End m k) h = h
text_no_need o (c ∷ cs) (End m k) h = tt
text_no_need o [] (Cut why) h = h
text_no_need o (c ∷ cs) (Cut why) h = h
text_no_need o [] (Single m (CData k l) next) h = h
text_no_need o [] (Single m (Comment k l) next) h = h
text_no_need o (c ∷ cs) (Single m (CData k l) next) h = h
text_no_need o (c ∷ cs) (Single m (Comment k l) next) h = h
text_no_need o [] (Single m (Pi k g l) next) h = h
text_no_need o (c ∷ cs) (Single m (Pi k g l) next) h = h
text_no_need o [] (Nested m e kids next) h = h
text_no_need o (c ∷ cs) (Nested m e kids next) h = h

stripped_no_need : (x : Forest) → NoNeed x → NoNeed (stripped x)
stripped_no_need (End m o) h = tt
stripped_no_need (Cut Need) h = h
stripped_no_need (Cut (Bad fault)) h = tt
stripped_no_need (Single m (Chars o t) next) h = by_blank (list_all is_space t) (stripped_no_need next h) where
  by_blank : (b : Bool) → NoNeed (stripped next) → NoNeed (if b then stripped next else Single m (Chars o t) (stripped next))
  by_blank true k = k
  by_blank false k = k
stripped_no_need (Single m (CData o t) next) h = stripped_no_need next h
stripped_no_need (Single m (Comment o t) next) h = stripped_no_need next h
stripped_no_need (Single m (Pi o g t) next) h = stripped_no_need next h
stripped_no_need (Nested m e kids next) h = (stripped_no_need kids h.0, stripped_no_need next h.1)

readied_no_need : (x : Forest) → NoNeed x → NoNeed (readied x)
readied_no_need (End m o) h = tt
readied_no_need (Cut Need) h = h
readied_no_need (Cut (Bad fault)) h = tt
readied_no_need (Single m leaf next) h = readied_no_need next h
readied_no_need (Nested m e kids next) h = (readied_no_need kids h.0, readied_no_need next h.1)

finished_no_need : (s : Bool) (x : Forest) → NoNeed x → NoNeed (finished s x)
finished_no_need true x h = readied_no_need (stripped x) (stripped_no_need x h)
finished_no_need false x h = readied_no_need x h

finished_none : (s : Bool) (f : Future) → NoneNeeds f → NoneNeeds (map (finished s) f)
finished_none s [] h = tt
finished_none s (list ∷ lists) h = (finished_no_need s list h.0, finished_none s lists h.1)

-- an item before lists that are as many as are open behind it
module _ (limits : Limits) (b : Before) (offset : ℕ) where
  text_item : (text : List ℕ) (t : Bool) → is_inside b.names ≡ t → (f : Future) → Open (if t then record b { chars = b.chars + length text } else b).names f → NoneNeeds f →
      NoneNeeds (with_items (if t then Says offset text ∷ [] else []) f)
  text_item text true i [] o h = absurd (omega arith)
  text_item text true i (list ∷ lists) o h = (text_no_need offset text list h.0, h.1)
  text_item text false i f o h = h

  cdata_item : (text : List ℕ) (c : Bool) → (f : Future) → Open (if c then without_text b else behind_text b text).names f → NoneNeeds f →
      NoneNeeds (with_items (if c then Stands (CData offset text) ∷ [] else text_items b offset text) f)
  cdata_item text true [] o h = absurd (omega arith)
  cdata_item text true (list ∷ lists) o h = h
  cdata_item text false f o h = text_item text (is_inside b.names) refl f o h

  some_item : (x : Body) (f : Future) → fault_of limits b x ≡ None → Open (before_next b x).names f → NoneNeeds f → NoneNeeds (with_items (items_of b offset x) f)
  some_item (body.Chars text blank) f s o h = text_item text (is_inside b.names) refl f o h
  some_item (body.CData text) f s o h = cdata_item text b.cdata f o h
  some_item (body.Start name attrs true) [] s o h = absurd (omega arith)
  some_item (body.Start name attrs true) (list ∷ lists) s o h = ((tt, h.0), h.1)
  some_item (body.Start name attrs false) [] s o h = absurd (omega arith)
  some_item (body.Start name attrs false) (list ∷ []) s o h = absurd (omega arith)
  some_item (body.Start name attrs false) (list ∷ other ∷ lists) s o h = ((h.0, h.1.0), h.1.1)
  some_item (body.End name) f s o h = (tt, h)
  some_item (body.Comment text) [] s o h = absurd (omega arith)
  some_item (body.Comment text) (list ∷ lists) s o h = h
  some_item (body.Pi target text) [] s o h = absurd (omega arith)
  some_item (body.Pi target text) (list ∷ lists) s o h = h
  some_item body.Doctype f s o h = h
  some_item body.Declaration f s o h = h

cuts_none : (fault : XmlFault) (names : List (List ℕ)) → NoneNeeds (cuts (Bad fault) names)
cuts_none fault names = (tt, by_names names) where
  by_names : (names : List (List ℕ)) → NoneNeeds (map (λ name. Cut (Bad fault)) names)
  by_names [] = tt
  by_names (name ∷ names) = (tt, by_names names)

end_none : (b : Before) (n : ℕ) (s : Step) → IsOver s → NoneNeeds (lists_of (at_end b n s))
end_none b n (step.Lexeme l) o = absurd o
end_none b n step.Need o = absurd o
end_none b n step.End o = by_test (is_complete b) where
  by_test : (t : Bool) → NoneNeeds (lists_of (if t then completes n else stops b (Bad (record { kind = Truncated; offset = n }))))
  by_test true = (tt, tt)
  by_test false = cuts_none (record { kind = Truncated; offset = n }) b.names
end_none b n (step.Bad fault) o = cuts_none fault b.names
end_none b n step.Memory o = absurd o

judged_none : (limits : Limits) (b : Before) (l : Lexeme) (r : Reading) (f : Option XmlKind) → fault_of limits b l.body ≡ f → Open (before_next b l.body).names (lists_of r) → NoneNeeds (lists_of r) → NoneNeeds (lists_of (judged f b l r))
judged_none limits b l r (Some kind) e o h = cuts_none (record { kind = kind; offset = l.offset }) b.names
judged_none limits b l r None e o h = subst NoneNeeds (sym (judged-lists None b l r refl)) (some_item limits b l.offset l.body (lists_of r) e o h)

reading_none : (limits : Limits) (n : ℕ) (last : Step) → IsOver last → (b : Before) (ls : List Lexeme) → NoneNeeds (lists_of (reading limits n last b ls))
reading_none limits n last o b [] = end_none b n last o
reading_none limits n last o b (l ∷ ls) =
    judged_none limits b l (reading limits n last (before_next b l.body) ls) (fault_of limits b l.body) refl
    (reading-open limits n last (before_next b l.body) ls) (reading_none limits n last o (before_next b l.body) ls)

-- the tree of a whole document
pub doc-none : (limits : Limits) (strip cdata : Bool) (bytes : List ℕ) → NoneNeeds (doc_for limits strip cdata bytes true ∷ [])
doc-none limits strip cdata bytes =
    let r = unread limits bytes true in
    let f = lists_of (reading_from limits (starting cdata) r) in
    subst NoneNeeds (has-document limits strip cdata bytes true)
    (finished_none strip f (reading_none limits (fed r) (lexed_from r).last (lexed-over limits bytes) (starting cdata) (lexed_from r).lexemes))

-- the events of lists, from the innermost outwards
abbrev pub all_events : Future → List Event
all_events [] = []
all_events (list ∷ []) = events_in event.DocumentEnd list
all_events (list ∷ other ∷ lists) = events_in event.End list ++ all_events (other ∷ lists)

start_in : (end : ℕ → Event) (m : Stage) (el : Element) (kids next : Forest) (e : Event) → start_pulled el kids ≡ pull.Event e →
    events_in end (Nested m el kids next) ≡ e ∷ (events_in event.End kids ++ events_in end next)
start_in end m el (End k o) next e h = let is : start_of el (first_of (End k o)) ≡ e = cc in ap (λ x. x ∷ (events_in event.End (End k o) ++ events_in end next)) is
start_in end m el (Cut Need) next e h = absurd cc
start_in end m el (Cut (Bad fault)) next e h = absurd cc
start_in end m el (Single k leaf more) next e h =
    let is : start_of el (first_of (Single k leaf more)) ≡ e = cc in ap (λ x. x ∷ (events_in event.End (Single k leaf more) ++ events_in end next)) is
start_in end m el (Nested k d kids more) next e h =
    let is : start_of el (first_of (Nested k d kids more)) ≡ e = cc in ap (λ x. x ∷ (events_in event.End (Nested k d kids more) ++ events_in end next)) is

-- behind an event come the events of what follows it
pub called_events : (e : Event) (f : Future) → pulled (followed e f) ≡ pull.Event e → NoneNeeds (followed e f) → (all_events (followed e f) ≡ e ∷ all_events f) × NoneNeeds f
called_events (event.Start o name attrs decls first) [] p h = absurd h.0.0
called_events (event.Start o name attrs decls first) (k ∷ []) p h = absurd h.0.1
called_events (event.Start o name attrs decls first) (k ∷ n ∷ []) p h =
    (start_in event.DocumentEnd (Ready first) (record { offset = o; name = name; attrs = attrs; decls = decls }) k n (event.Start o name attrs decls first) p, (h.0.0, (h.0.1, tt)))
called_events (event.Start o name attrs decls first) (k ∷ n ∷ g ∷ lists) p h = (
  ap (λ l. l ++ all_events (g ∷ lists)) (start_in event.End (Ready first) (record { offset = o; name = name; attrs = attrs; decls = decls }) k n (event.Start o name attrs decls first) p)
      ∙ ap (λ l. event.Start o name attrs decls first ∷ l) (append_assoc (events_in event.End k) (events_in event.End n) (all_events (g ∷ lists))),
  (h.0.0, (h.0.1, h.1)),
)
called_events (event.End o) [] p h = absurd cc
called_events (event.End o) (list ∷ lists) p h = (refl, h.1)
called_events (event.Chars o text) [] p h = absurd h.0
called_events (event.Chars o text) (list ∷ []) p h = (refl, h)
called_events (event.Chars o text) (list ∷ other ∷ lists) p h = (refl, h)
called_events (event.CData o text) [] p h = absurd h.0
called_events (event.Comment o text) [] p h = absurd h.0
called_events (event.CData o text) (list ∷ []) p h = (refl, h)
called_events (event.Comment o text) (list ∷ []) p h = (refl, h)
called_events (event.CData o text) (list ∷ other ∷ lists) p h = (refl, h)
called_events (event.Comment o text) (list ∷ other ∷ lists) p h = (refl, h)
called_events (event.Pi o target text) [] p h = absurd h.0
called_events (event.Pi o target text) (list ∷ []) p h = (refl, h)
called_events (event.Pi o target text) (list ∷ other ∷ lists) p h = (refl, h)
called_events (event.DocumentEnd o) [] p h = (refl, tt)
called_events (event.DocumentEnd o) (list ∷ lists) p h = absurd cc

pub told_events : (es : List Event) (rest : Future) → AreCalled es rest → NoneNeeds (told es rest) → all_events (told es rest) ≡ es ++ all_events rest
told_events [] rest c h = refl
told_events (e ∷ es) rest c h =
    let x = called_events e (told es rest) c.0 h in
    x.0 ∙ ap (λ l. e ∷ l) (told_events es rest c.1 x.1)
