-- The tree of a document's first bytes grows with them.
use Rattle.std.proofs.Common.{◌≡◌, ◌≢◌, ◌⊎◌, ℕ, zero, suc, ◌<◌, Bool, true, false, List, [], ◌∷◌, ◌++◌, Option, Some, None, inl, inr, length, map, refl, sym, ap, subst, ◌∙◌, arith}
use Rattle.std.specs.Prelude.{if◌then◌else◌}
use Rattle.std.specs.List.{list_all}
use Rattle.stx_base.specs.Character.{is_space}
use Rattle.stx_base.specs.Course.{Begins}
use Rattle.stx_base.specs.declared.fault.XmlKind.{XmlKind}
use Rattle.stx_base.specs.declared.limits.Limits.{Limits}
use Rattle.xml_tokens.specs.Reader.{Reader, due, after, fed}
use Rattle.xml_tokens.proofs.RunLemmas.{after-shorter, after-fresh, after-ended}
use Rattle.xml_tokens.specs.declared.lexeme.Lexeme.{Lexeme}
use Rattle.xml_tokens.specs.declared.lexeme.Step.{Step}
use Rattle.xml_tokens.specs.declared.lexeme.Step.TheVariants as step
use Rattle.xml_events.specs.Before.{Before, starting, before_next, fault_of}
use Rattle.xml_events.specs.Document.{Closes, Item, Opens, Says, Stands, at_end, cuts, finished, inner, items_of, judged, lists_of, outer, reading, readied, stops, stripped, text_before, with_item, with_items}
use Rattle.xml_events.specs.Growing.{DocumentsGrow, Grows}
use Rattle.xml_events.specs.Lexed.{Lexed, answered, lexed_within, lexed_from, lexed, unread}
use Rattle.xml_events.specs.Source.{later}
use Rattle.xml_events.specs.Tree.{Need, Bad, Fresh, Chars, CData, Comment, Pi, Forest, End, Cut, Single, Nested, Future}
use Rattle.xml_events.proofs.Counting.{Open, reading-open}
use Rattle.xml_events.proofs.Lexing.{before, from-lexeme, from-last, later-fresh, later-due, later-after, end-ended}
use Rattle.xml_events.proofs.Reading.{judged-lists}

-- the same of lists that aren't marked yet
abbrev Raw : (old new : Forest) → Type 0
Raw (End m offset) new = new ≡ End m offset
Raw (Cut Need) new = Unit {0}
Raw (Cut (Bad fault)) new = new ≡ Cut (Bad fault)
Raw (Single m leaf next) new = (after : Forest) × (new ≡ Single m leaf after) × Raw next after
Raw (Nested m e kids next) new = (list : Forest) × (after : Forest) × (new ≡ Nested m e list after) × Raw kids list × Raw next after

-- and of open lists
abbrev AllRaw : (old new : Future) → Type 0
AllRaw [] [] = Unit {0}
AllRaw [] (g ∷ gs) = ⊥
AllRaw (f ∷ fs) [] = ⊥
AllRaw (f ∷ fs) (g ∷ gs) = Raw f g × AllRaw fs gs

raw-same : (f : Forest) → Raw f f
raw-same (End m offset) = refl
raw-same (Cut Need) = tt
raw-same (Cut (Bad fault)) = refl
raw-same (Single m leaf next) = (next, refl, raw-same next)
raw-same (Nested m e kids next) = (kids, next, refl, raw-same kids, raw-same next)

all-same : (f : Future) → AllRaw f f
all-same [] = tt
all-same (f ∷ fs) = (raw-same f, all-same fs)

raw-readied : (old new : Forest) → Raw old new → Grows (readied old) (readied new)
raw-readied (End m offset) new h = ap readied h
raw-readied (Cut Need) new h = tt
raw-readied (Cut (Bad fault)) new h = ap readied h
raw-readied (Single m leaf next) new h = (readied h.0, ap readied h.1, raw-readied next h.0 h.2)
raw-readied (Nested m e kids next) new h = (readied h.0, readied h.1, refl, ap readied h.2, raw-readied kids h.0 h.3, raw-readied next h.1 h.4)

raw-stripped : (old new : Forest) → Raw old new → Raw (stripped old) (stripped new)
raw-stripped (End m offset) new h = ap stripped h
raw-stripped (Cut Need) new h = tt
raw-stripped (Cut (Bad fault)) new h = ap stripped h
raw-stripped (Single m (Chars offset text) next) new h = subst (λ f. Raw (stripped (Single m (Chars offset text) next)) (stripped f)) (sym h.1) (by_blank (list_all is_space text) (raw-stripped next h.0 h.2)) where
  by_blank : (t : Bool) → Raw (stripped next) (stripped h.0)
      → Raw (if t then stripped next else Single m (Chars offset text) (stripped next)) (if t then stripped h.0 else Single m (Chars offset text) (stripped h.0))
  by_blank true k = k
  by_blank false k = (stripped h.0, refl, k)
raw-stripped (Single m (CData offset text) next) new h = (stripped h.0, ap stripped h.1, raw-stripped next h.0 h.2)
raw-stripped (Single m (Comment offset text) next) new h = (stripped h.0, ap stripped h.1, raw-stripped next h.0 h.2)
raw-stripped (Single m (Pi offset target text) next) new h = (stripped h.0, ap stripped h.1, raw-stripped next h.0 h.2)
raw-stripped (Nested m e kids next) new h = (stripped h.0, stripped h.1, ap stripped h.2, raw-stripped kids h.0 h.3, raw-stripped next h.1 h.4)

raw-finished : (strip : Bool) (old new : Forest) → Raw old new → Grows (finished strip old) (finished strip new)
raw-finished true old new h = raw-readied (stripped old) (stripped new) (raw-stripped old new h)
raw-finished false old new h = raw-readied old new h

-- Items

-- a text before what is no text
raw-before : (offset c : ℕ) (cs : List ℕ) (old next new : Forest) → text_before offset (c ∷ cs) next ≡ Single Fresh (Chars offset (c ∷ cs)) next → new ≡ next → Raw old next →
    (after : Forest) × (text_before offset (c ∷ cs) new ≡ Single Fresh (Chars offset (c ∷ cs)) after) × Raw old after
raw-before offset c cs old next new is same h = (next, ap (text_before offset (c ∷ cs)) same ∙ is, h)

raw-text : (offset : ℕ) (text : List ℕ) (old new : Forest) → Raw old new → Raw (text_before offset text old) (text_before offset text new)
raw-text offset text (Single m (Chars later more) next) new h = (h.0, ap (text_before offset text) h.1, h.2)
raw-text offset [] (Single m (CData at other) next) new h = (h.0, ap (text_before offset []) h.1, h.2)
raw-text offset [] (Single m (Comment at other) next) new h = (h.0, ap (text_before offset []) h.1, h.2)
raw-text offset [] (Single m (Pi at target other) next) new h = (h.0, ap (text_before offset []) h.1, h.2)
raw-text offset [] (End m at) new h = ap (text_before offset []) h
raw-text offset [] (Cut Need) new h = tt
raw-text offset [] (Cut (Bad fault)) new h = ap (text_before offset []) h
raw-text offset [] (Nested m e kids next) new h = (h.0, h.1, ap (text_before offset []) h.2, h.3, h.4)
raw-text offset (c ∷ cs) (Single m (CData at other) next) new h =
    raw-before offset c cs (Single m (CData at other) next) (Single m (CData at other) h.0) new refl h.1 (h.0, refl, h.2)
raw-text offset (c ∷ cs) (Single m (Comment at other) next) new h =
    raw-before offset c cs (Single m (Comment at other) next) (Single m (Comment at other) h.0) new refl h.1 (h.0, refl, h.2)
raw-text offset (c ∷ cs) (Single m (Pi at target other) next) new h =
    raw-before offset c cs (Single m (Pi at target other) next) (Single m (Pi at target other) h.0) new refl h.1 (h.0, refl, h.2)
raw-text offset (c ∷ cs) (End m at) new h = raw-before offset c cs (End m at) (End m at) new refl h refl
raw-text offset (c ∷ cs) (Cut Need) new h = tt
raw-text offset (c ∷ cs) (Cut (Bad fault)) new h = ap (text_before offset (c ∷ cs)) h
raw-text offset (c ∷ cs) (Nested m e kids next) new h =
    raw-before offset c cs (Nested m e kids next) (Nested m e h.0 h.1) new refl h.2 (h.0, h.1, refl, h.3, h.4)

raw-inner : (f g : Future) → AllRaw f g → Raw (inner f) (inner g)
raw-inner [] [] h = tt
raw-inner [] (g ∷ gs) h = absurd h
raw-inner (f ∷ fs) [] h = absurd h
raw-inner (f ∷ fs) (g ∷ gs) h = h.0

raw-outer : (f g : Future) → AllRaw f g → AllRaw (outer f) (outer g)
raw-outer [] [] h = tt
raw-outer [] (g ∷ gs) h = absurd h
raw-outer (f ∷ fs) [] h = absurd h
raw-outer (f ∷ fs) (g ∷ gs) h = h.1

raw-item : (i : Item) (f g : Future) → AllRaw f g → AllRaw (with_item i f) (with_item i g)
raw-item (Opens e) f g h =
    let behind = raw-outer f g h in
    ((inner g, inner (outer g), refl, raw-inner f g h, raw-inner (outer f) (outer g) behind), raw-outer (outer f) (outer g) behind)
raw-item (Closes offset) f g h = (refl, h)
raw-item (Says offset text) f g h = (raw-text offset text (inner f) (inner g) (raw-inner f g h), raw-outer f g h)
raw-item (Stands leaf) f g h = ((inner g, refl, raw-inner f g h), raw-outer f g h)

raw-items : (is : List Item) (f g : Future) → AllRaw f g → AllRaw (with_items is f) (with_items is g)
raw-items [] f g h = h
raw-items (i ∷ is) f g h = raw-item i (with_items is f) (with_items is g) (raw-items is f g h)

-- Readings

raw-cuts : (names : List (List ℕ)) (g : Future) → Open names g → AllRaw (cuts Need names) g
raw-cuts names [] h = absurd (omega (arith, h))
raw-cuts names (g ∷ gs) h = (tt, others names gs (omega (arith, h))) where
  others : (names : List (List ℕ)) (gs : Future) → length gs ≡ length names → AllRaw (map (λ (name : List ℕ). Cut Need) names) gs
  others [] [] h = tt
  others [] (g ∷ gs) h = absurd (omega arith)
  others (n ∷ names) [] h = absurd (omega arith)
  others (n ∷ names) (g ∷ gs) h = (tt, others names gs (omega (arith, h)))

module _ (limits : Limits) (n m : ℕ) where
  -- more lexemes
  reading-more : (last : Step) (b : Before) (ls more : List Lexeme) → AllRaw (lists_of (reading limits n step.Need b ls)) (lists_of (reading limits m last b (ls ++ more)))
  reading-more last b [] more = raw-cuts b.names (lists_of (reading limits m last b more)) (reading-open limits m last b more)
  reading-more last b (l ∷ ls) more = by_fault (fault_of limits b l.body) (reading-more last (before_next b l.body) ls more) where
    by_fault : (o : Option XmlKind) → AllRaw (lists_of (reading limits n step.Need (before_next b l.body) ls)) (lists_of (reading limits m last (before_next b l.body) (ls ++ more)))
        → AllRaw (lists_of (judged o b l (reading limits n step.Need (before_next b l.body) ls))) (lists_of (judged o b l (reading limits m last (before_next b l.body) (ls ++ more))))
    by_fault (Some kind) h = all-same (lists_of (stops b (Bad (record { kind = kind; offset = l.offset }))))
    by_fault None h =
        let f = reading limits n step.Need (before_next b l.body) ls in
        let g = reading limits m last (before_next b l.body) (ls ++ more) in
        let items = items_of b l.offset l.body in
        subst (λ x. AllRaw x (lists_of (judged None b l g))) (sym (judged-lists None b l f refl))
        (subst (AllRaw (with_items items (lists_of f))) (sym (judged-lists None b l g refl)) (raw-items items (lists_of f) (lists_of g) h))

  -- the length of a document counts only at its end
  end-same : (b : Before) (last : Step) → last ≢ step.End → at_end b n last ≡ at_end b m last
  end-same b (step.Lexeme l) h = refl
  end-same b step.Need h = refl
  end-same b step.End h = absurd (h refl)
  end-same b (step.Bad fault) h = refl
  end-same b step.Memory h = refl

  reading-same : (last : Step) (b : Before) (ls : List Lexeme) → last ≢ step.End → reading limits n last b ls ≡ reading limits m last b ls
  reading-same last b [] h = end-same b last h
  reading-same last b (l ∷ ls) h = ap (judged (fault_of limits b l.body) b l) (reading-same last (before_next b l.body) ls h)

-- y is x, or goes on where x needs more
abbrev LexedWithin : Lexed → Lexed → Type 0
LexedWithin x y = (x ≡ y) ⊎ ((x.last ≡ step.Need) × Begins x.lexemes y.lexemes)

within-before : (l : Lexeme) (x y : Lexed) → LexedWithin x y → LexedWithin (before (l ∷ []) x) (before (l ∷ []) y)
within-before l x y (inl e) = inl (ap (before (l ∷ [])) e)
within-before l x y (inr h) = inr (h.0, (h.1.0, ap (λ ls. l ∷ ls) h.1.1))

-- The lexemes of a document's first bytes, and those of more of it.
module _ (more : List ℕ) (ended : Bool) where
  -- what is true of the lexemes that come of so many answers
  abbrev Grown : ℕ → Reader → Type 0
  Grown n r = ((lexed_within n r).last ≢ step.End) × LexedWithin (lexed_within n r) (lexed_from (later r more ended))

  module _ (n : ℕ) (r : Reader) (fresh : r.over ≡ None) (going : r.ended ≡ false) where
    abbrev By : Step → Type 0
    By s = let x = answered s (λ l. lexed_within n (after r (step.Lexeme l))) in (x.last ≢ step.End) × LexedWithin x (lexed_from (later r more ended))

    -- an answer that is no lexeme stays
    stays : (s : Step) → ((l : Lexeme) → s ≢ step.Lexeme l) → s ≢ step.Need → due r ≡ s → record { lexemes = []; last = s } ≡ lexed_from (later r more ended)
    stays s other wanted e = sym (from-last (later r more ended) s other (later-due r more ended fresh (λ c. wanted (sym e ∙ c)) ∙ e))

    no_end : due r ≢ step.End
    no_end e = let c = sym going ∙ end-ended r fresh e in cc

    by_answer : (s : Step) → due r ≡ s → ((q : Reader) → q.over ≡ None → q.ended ≡ false → length q.unread < length r.unread → Grown n q) → By s
    by_answer (step.Lexeme l) e again =
        let q = after r (step.Lexeme l) in
        let h : Grown n q = again q (after-fresh r l fresh) (after-ended r l ∙ going) (after-shorter r l fresh e) in
        let there : due (later r more ended) ≡ step.Lexeme l = later-due r more ended fresh (λ c. let d = sym e ∙ c in cc) ∙ e in
        let is : lexed_from (later r more ended) ≡ before (l ∷ []) (lexed_from (later q more ended)) =
        from-lexeme (later r more ended) l (later-fresh r more ended fresh) there ∙ ap (λ x. before (l ∷ []) (lexed_from x)) (later-after r more ended fresh l e) in
        (h.0, subst (LexedWithin (before (l ∷ []) (lexed_within n q))) (sym is) (within-before l (lexed_within n q) (lexed_from (later q more ended)) h.1))
    by_answer step.Need e again = ((λ c. cc), inr (refl, ((lexed_from (later r more ended)).lexemes, refl)))
    by_answer step.End e again = absurd (no_end e)
    by_answer (step.Bad fault) e again = ((λ c. cc), inl (stays (step.Bad fault) (λ l c. cc) (λ c. cc) e))
    by_answer step.Memory e again = ((λ c. cc), inl (stays step.Memory (λ l c. cc) (λ c. cc) e))

  pub lexed-grown : (n : ℕ) (r : Reader) → r.over ≡ None → r.ended ≡ false → length r.unread < n → Grown n r
  lexed-grown zero r fresh going short = absurd (omega arith)
  lexed-grown (suc n) r fresh going short = by_answer n r fresh going (due r) refl (λ q f g h. lexed-grown n q f g (omega arith))

module _ (limits : Limits) (cdata : Bool) (bytes more : List ℕ) (ended : Bool) where
  abbrev x : Lexed
  x = lexed limits bytes false

  abbrev y : Lexed
  y = lexed limits (bytes ++ more) ended

  abbrev n : ℕ
  n = fed (unread limits bytes false)

  abbrev m : ℕ
  m = fed (unread limits (bytes ++ more) ended)

  abbrev now : Future
  now = lists_of (reading limits n x.last (starting cdata) x.lexemes)

  abbrev all : Future
  all = lists_of (reading limits m y.last (starting cdata) y.lexemes)

  by_lexed : x.last ≢ step.End → LexedWithin x y → AllRaw now all
  by_lexed other (inl e) =
      subst (AllRaw now) (ap lists_of (reading-same limits n m x.last (starting cdata) x.lexemes other) ∙ ap (λ (z : Lexed). lists_of (reading limits m z.last (starting cdata) z.lexemes)) e) (all-same now)
  by_lexed other (inr h) =
      subst (λ s. AllRaw (lists_of (reading limits n s (starting cdata) x.lexemes)) all) (sym h.0)
      (subst (λ ls. AllRaw (lists_of (reading limits n step.Need (starting cdata) x.lexemes)) (lists_of (reading limits m y.last (starting cdata) ls))) h.1.1
      (reading-more limits n m y.last (starting cdata) x.lexemes h.1.0))

  grown : AllRaw now all
  grown = let h = lexed-grown more ended (suc (length bytes)) (unread limits bytes false) refl refl (omega arith) in by_lexed h.0 h.1

pub documents-grow : DocumentsGrow
documents-grow limits strip cdata bytes more ended =
    let f = now limits cdata bytes more ended in
    let g = all limits cdata bytes more ended in
    raw-finished strip (inner f) (inner g) (raw-inner f g (grown limits cdata bytes more ended))
