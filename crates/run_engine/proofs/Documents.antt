-- Documents fit.
use Rattle.std.proofs.lemmas.Bool.Decides.{nat_tests}
use Rattle.std.proofs.Common.{◌≡◌, ◌<◌, ◌≤◌, ℕ, suc, Bool, true, false, nat_le, List, [], ◌∷◌, ◌++◌, Option, Some, None, length, map, refl, sym, ap, subst, arith}
use Rattle.std.specs.Prelude.{◌&&◌, not, if◌then◌else◌}
use Rattle.std.specs.List.{list_all}
use Rattle.std.specs.Option.{option_or}
use Rattle.stx_base.specs.Character.{is_space}
use Rattle.stx_base.specs.declared.fault.XmlKind.{XmlKind}
use Rattle.stx_base.specs.declared.fault.XmlKind.TheVariants.{Misplaced, TooDeep, Mismatch, Truncated}
use Rattle.stx_base.specs.declared.fault.XmlFault.{XmlFault}
use Rattle.stx_base.specs.declared.limits.Limits.{Limits}
use Rattle.xml_tokens.specs.Reader.{fed}
use Rattle.xml_tokens.specs.declared.lexeme.Body.{Body}
use Rattle.xml_tokens.specs.declared.lexeme.Body.TheVariants as body
use Rattle.xml_tokens.specs.declared.lexeme.Lexeme.{Lexeme}
use Rattle.xml_tokens.specs.declared.lexeme.Step.{Step}
use Rattle.xml_tokens.specs.declared.lexeme.Step.TheVariants as step
use Rattle.xml_events.specs.Before.{Before, before_next, behind_text, fault_of, is_complete, is_full, is_innermost, is_inside, outer_names, starting, without_text}
use Rattle.xml_events.specs.Document.{Closes, Opens, Says, Stands, Reading, at_end, completes, cuts, finished, inner, items_of, judged, lists_of, reading, readied, stops, stripped, text_before, with_item, with_items}
use Rattle.xml_events.specs.Lexed.{lexed_from, unread}
use Rattle.xml_events.specs.Tree.{Why, Need, Bad, Mark, Leaf, Chars, CData, Comment, Pi, Element, Forest, End, Cut, Single, Nested, Future}
use Rattle.run_engine.specs.Fitting.{DocumentsFit, Fits, FitsWithin, HasSection, HaveSections, IsSection, SectionsHold}

-- as many lists are open as elements, and the document's own, and they fit
pub record FitsAs (d n : ℕ) (f : Future) : Type 0 where
  pub count : length f ≡ suc n
  pub fits : Fits d f

module _ (d : ℕ) where
  map-length : (why : Why) (names : List (List ℕ)) → length (map (λ name. Cut why) names) ≡ length names
  map-length why [] = refl
  map-length why (n ∷ ns) = ap suc (map-length why ns)

  map-fits : (why : Why) (names : List (List ℕ)) → length names ≤ d → Fits d (map (λ name. Cut why) names)
  map-fits why [] h = tt
  map-fits why (n ∷ ns) h = (omega (arith, map-length why ns, h), tt, map-fits why ns (omega (arith, h)))

  cuts-fit : (why : Why) (names : List (List ℕ)) → length names ≤ d → FitsAs d (length names) (cuts why names)
  cuts-fit why names h = record {
    count = ap suc (map-length why names);
    fits = (omega (arith, map-length why names, h), tt, map-fits why names h);
  }

  text-before-fits : (n offset : ℕ) (text : List ℕ) (x : Forest) → FitsWithin d n x → FitsWithin d n (text_before offset text x)
  text-before-fits n offset [] (End m at) h = h
  text-before-fits n offset (c ∷ cs) (End m at) h = (tt, h)
  text-before-fits n offset [] (Cut why) h = h
  text-before-fits n offset (c ∷ cs) (Cut why) h = h
  text-before-fits n offset [] (Single m (Chars at more) next) h = h
  text-before-fits n offset (c ∷ cs) (Single m (Chars at more) next) h = h
  text-before-fits n offset [] (Single m (CData at more) next) h = h
  text-before-fits n offset (c ∷ cs) (Single m (CData at more) next) h = (tt, h)
  text-before-fits n offset [] (Single m (Comment at more) next) h = h
  text-before-fits n offset (c ∷ cs) (Single m (Comment at more) next) h = (tt, h)
  text-before-fits n offset [] (Single m (Pi at target more) next) h = h
  text-before-fits n offset (c ∷ cs) (Single m (Pi at target more) next) h = (tt, h)
  text-before-fits n offset [] (Nested stage e kids next) h = h
  text-before-fits n offset (c ∷ cs) (Nested stage e kids next) h = (tt, h)

  text-fits : (n offset : ℕ) (text : List ℕ) (f : Future) → FitsAs d n f → FitsAs d n (with_item (Says offset text) f)
  text-fits n offset text [] h = absurd (omega (arith, h.count))
  text-fits n offset text (x ∷ zs) h = record { count = h.count; fits = (h.fits.0, text-before-fits (length zs) offset text x h.fits.1, h.fits.2) }

  leaf-fits : (n : ℕ) (leaf : Leaf) (f : Future) → IsSection leaf → FitsAs d n f → FitsAs d n (with_item (Stands leaf) f)
  leaf-fits n leaf [] s h = absurd (omega (arith, h.count))
  leaf-fits n leaf (x ∷ zs) s h = record { count = h.count; fits = (h.fits.0, (s, h.fits.1), h.fits.2) }

  opens-fit : (n : ℕ) (e : Element) (f : Future) → n < d → FitsAs d (suc n) f → FitsAs d n (with_item (Opens e) f)
  opens-fit n e [] b h = absurd (omega (arith, h.count))
  opens-fit n e (x ∷ []) b h = absurd (omega (arith, h.count))
  opens-fit n e (x ∷ y ∷ zs) b h = record {
    count = omega (arith, h.count);
    fits = (h.fits.2.0, (omega (arith, h.count, b), h.fits.1, h.fits.2.1), h.fits.2.2);
  }

  closes-fit : (n offset : ℕ) (f : Future) → suc n ≤ d → FitsAs d n f → FitsAs d (suc n) (with_item (Closes offset) f)
  closes-fit n offset f b h = record { count = ap suc h.count; fits = (omega (arith, h.count, b), tt, h.fits) }

  -- a text, or none outside the root
  text-items-fit : (names : List (List ℕ)) (n offset : ℕ) (text : List ℕ) (r : Reading) → FitsAs d n (lists_of r) → FitsAs d n (with_items ((if is_inside names then Says offset text ∷ [] else []) ++ r.items) r.rest)
  text-items-fit [] n offset text r h = h
  text-items-fit (name ∷ names) n offset text r h = text-fits n offset text (lists_of r) h

behind-names : (names : List (List ℕ)) (b c : Before) → b.names ≡ c.names → (if is_inside names then b else c).names ≡ c.names
behind-names [] b c h = refl
behind-names (name ∷ names) b c h = h

not-full : (misplaced : Bool) (o : Option XmlKind) (full : Bool) → (if misplaced then Some Misplaced else option_or o (if full then Some TooDeep else None)) ≡ None → full ≡ false
not-full true o full h = absurd cc
not-full false (Some kind) full h = absurd cc
not-full false None true h = absurd cc
not-full false None false h = refl

room-left : (n m : ℕ) → nat_le n m ≡ false → m < n
room-left n m e = grind (arith, nat_tests)

not-mismatched : (innermost : Bool) → (if innermost then None else Some Mismatch) ≡ None → innermost ≡ true
not-mismatched true h = refl
not-mismatched false h = absurd cc

module _ (limits : Limits) where
  room : (b : Before) (name : List ℕ) (attrs : List _) (empty : Bool) → fault_of limits b (body.Start name attrs empty) ≡ None → length b.names < limits.depth
  room b name attrs empty h = room-left limits.depth (length b.names) (not-full (is_complete b) _ (is_full limits b) h)

  end-fits : (names : List (List ℕ)) (name : List ℕ) (offset : ℕ) (f : Future) → is_innermost name names ≡ true → length names ≤ limits.depth → FitsAs limits.depth (length (outer_names names)) f → FitsAs limits.depth (length names) (with_item (Closes offset) f)
  end-fits [] name offset f i b h = absurd cc
  end-fits (n ∷ ns) name offset f i b h = closes-fit limits.depth (length ns) offset f b h

  -- the lists before a lexeme without a fault
  body-fits :
      (b : Before) (offset : ℕ) (x : Body) (r : Reading) → HasSection x → fault_of limits b x ≡ None → length b.names ≤ limits.depth
      → FitsAs limits.depth (length (before_next b x).names) (lists_of r)
      → FitsAs limits.depth (length b.names) (with_items (items_of b offset x ++ r.items) r.rest)
  body-fits b offset (body.Chars text blank) r s f few h =
      text-items-fit limits.depth b.names (length b.names) offset text r (subst (λ ns. FitsAs limits.depth (length ns) (lists_of r)) (behind-names b.names _ b refl) h)
  body-fits b offset (body.CData text) r s f few h = by-kind b.cdata refl h where
    by-kind : (c : Bool) → b.cdata ≡ c → FitsAs limits.depth (length (if c then without_text b else behind_text b text).names) (lists_of r)
        → FitsAs limits.depth (length b.names) (with_items ((if b.cdata then Stands (CData offset text) ∷ [] else if is_inside b.names then Says offset text ∷ [] else []) ++ r.items) r.rest)
    by-kind true is k = subst (λ (c : Bool). FitsAs limits.depth (length b.names) (with_items ((if c then Stands (CData offset text) ∷ [] else if is_inside b.names then Says offset text ∷ [] else []) ++ r.items) r.rest)) (sym is) (leaf-fits limits.depth (length b.names) (CData offset text) (lists_of r) s k)
    by-kind false is k = subst (λ (c : Bool). FitsAs limits.depth (length b.names) (with_items ((if c then Stands (CData offset text) ∷ [] else if is_inside b.names then Says offset text ∷ [] else []) ++ r.items) r.rest)) (sym is) (text-items-fit limits.depth b.names (length b.names) offset text r (subst (λ ns. FitsAs limits.depth (length ns) (lists_of r)) (behind-names b.names _ b refl) k))
  body-fits b offset (body.Start name attrs true) r s f few h =
      let deep = room b name attrs true f in
      opens-fit limits.depth (length b.names) _ (with_item (Closes offset) (lists_of r)) deep (closes-fit limits.depth (length b.names) offset (lists_of r) (omega (arith, deep)) h)
  body-fits b offset (body.Start name attrs false) r s f few h = opens-fit limits.depth (length b.names) _ (lists_of r) (room b name attrs false f) h
  body-fits b offset (body.End name) r s f few h = end-fits b.names name offset (lists_of r) (not-mismatched (is_innermost name b.names) f) few h
  body-fits b offset (body.Comment text) r s f few h = leaf-fits limits.depth (length b.names) (Comment offset text) (lists_of r) tt h
  body-fits b offset (body.Pi target text) r s f few h = leaf-fits limits.depth (length b.names) (Pi offset target text) (lists_of r) tt h
  body-fits b offset body.Doctype r s f few h = h
  body-fits b offset body.Declaration r s f few h = h

  outer-few : (names : List (List ℕ)) (d : ℕ) → length names ≤ d → length (outer_names names) ≤ d
  outer-few [] d h = h
  outer-few (n ∷ ns) d h = omega (arith, h)

  -- behind it no more elements are open than may be
  next-few : (b : Before) (x : Body) → fault_of limits b x ≡ None → length b.names ≤ limits.depth → length (before_next b x).names ≤ limits.depth
  next-few b (body.Chars text blank) f few = subst (λ ns. length ns ≤ limits.depth) (sym (behind-names b.names _ b refl)) few
  next-few b (body.CData text) f few = by-kind b.cdata where
    by-kind : (c : Bool) → length (if c then without_text b else behind_text b text).names ≤ limits.depth
    by-kind true = few
    by-kind false = subst (λ ns. length ns ≤ limits.depth) (sym (behind-names b.names _ b refl)) few
  next-few b (body.Start name attrs true) f few = few
  next-few b (body.Start name attrs false) f few = omega (arith, room b name attrs false f)
  next-few b (body.End name) f few = outer-few b.names limits.depth few
  next-few b (body.Comment text) f few = few
  next-few b (body.Pi target text) f few = few
  next-few b body.Doctype f few = few
  next-few b body.Declaration f few = few

  completes-fit : (names : List (List ℕ)) (rooted : Bool) (fault : XmlFault) (offset : ℕ) (b : Before) → b.names ≡ names → length names ≤ limits.depth
      → FitsAs limits.depth (length names) (lists_of (if rooted && not (is_inside names) then completes offset else stops b (Bad fault)))
  completes-fit [] true fault offset b is few = record { count = refl; fits = (omega arith, tt, tt) }
  completes-fit [] false fault offset b is few = subst (λ ns. FitsAs limits.depth (length ns) (cuts (Bad fault) b.names)) is (cuts-fit limits.depth (Bad fault) b.names (subst (λ ns. length ns ≤ limits.depth) (sym is) few))
  completes-fit (n ∷ ns) true fault offset b is few = subst (λ os. FitsAs limits.depth (length os) (cuts (Bad fault) b.names)) is (cuts-fit limits.depth (Bad fault) b.names (subst (λ os. length os ≤ limits.depth) (sym is) few))
  completes-fit (n ∷ ns) false fault offset b is few = subst (λ os. FitsAs limits.depth (length os) (cuts (Bad fault) b.names)) is (cuts-fit limits.depth (Bad fault) b.names (subst (λ os. length os ≤ limits.depth) (sym is) few))

  module _ (len : ℕ) (last : Step) where
    ends-fit : (b : Before) (s : Step) → length b.names ≤ limits.depth → FitsAs limits.depth (length b.names) (lists_of (at_end b len s))
    ends-fit b (step.Lexeme l) few = cuts-fit limits.depth Need b.names few
    ends-fit b step.Need few = cuts-fit limits.depth Need b.names few
    ends-fit b step.End few = completes-fit b.names b.rooted (record { kind = Truncated; offset = len }) len b refl few
    ends-fit b (step.Bad fault) few = cuts-fit limits.depth (Bad fault) b.names few
    ends-fit b step.Memory few = cuts-fit limits.depth Need b.names few

    reads-fit : (b : Before) (ls : List Lexeme) → HaveSections ls → length b.names ≤ limits.depth → FitsAs limits.depth (length b.names) (lists_of (reading limits len last b ls))
    reads-fit b [] s few = ends-fit b last few
    reads-fit b (l ∷ ls) s few = by-fault (fault_of limits b l.body) refl (reads-fit (before_next b l.body) ls s.1) where
      rest : Reading
      rest = reading limits len last (before_next b l.body) ls

      by-fault : (fault : Option XmlKind) → fault_of limits b l.body ≡ fault
          → (length (before_next b l.body).names ≤ limits.depth → FitsAs limits.depth (length (before_next b l.body).names) (lists_of rest))
          → FitsAs limits.depth (length b.names) (lists_of (judged fault b l rest))
      by-fault (Some kind) is on = cuts-fit limits.depth (Bad (record { kind = kind; offset = l.offset })) b.names few
      by-fault None is on = body-fits b l.offset l.body rest s.0 is few (on (next-few b l.body is few))

module _ (d : ℕ) where
  readied-fits : (n : ℕ) (x : Forest) → FitsWithin d n x → FitsWithin d n (readied x)
  readied-fits n (End m at) h = tt
  readied-fits n (Cut why) h = tt
  readied-fits n (Single m leaf next) h = (h.0, readied-fits n next h.1)
  readied-fits n (Nested stage e kids next) h = (h.0, readied-fits (suc n) kids h.1, readied-fits n next h.2)

  dropped-fits : (n : ℕ) (blank : Bool) (m : Mark) (offset : ℕ) (text : List ℕ) (x : Forest) → FitsWithin d n x → FitsWithin d n (if blank then x else Single m (Chars offset text) x)
  dropped-fits n true m offset text x h = h
  dropped-fits n false m offset text x h = (tt, h)

  stripped-fits : (n : ℕ) (x : Forest) → FitsWithin d n x → FitsWithin d n (stripped x)
  stripped-fits n (End m at) h = tt
  stripped-fits n (Cut why) h = tt
  stripped-fits n (Single m (Chars offset text) next) h = dropped-fits n (list_all is_space text) m offset text (stripped next) (stripped-fits n next h.1)
  stripped-fits n (Single m (CData offset text) next) h = (h.0, stripped-fits n next h.1)
  stripped-fits n (Single m (Comment offset text) next) h = (tt, stripped-fits n next h.1)
  stripped-fits n (Single m (Pi offset target text) next) h = (tt, stripped-fits n next h.1)
  stripped-fits n (Nested stage e kids next) h = (h.0, stripped-fits (suc n) kids h.1, stripped-fits n next h.2)

  finished-fits : (strip : Bool) (n : ℕ) (x : Forest) → FitsWithin d n x → FitsWithin d n (finished strip x)
  finished-fits true n x h = readied-fits n (stripped x) (stripped-fits n x h)
  finished-fits false n x h = readied-fits n x h

  inner-fits : (f : Future) → FitsAs d 0 f → FitsWithin d 0 (inner f)
  inner-fits [] h = tt
  inner-fits (x ∷ []) h = h.fits.1
  inner-fits (x ∷ y ∷ zs) h = absurd (omega (arith, h.count))

-- documents whose lexemes have texts of CDATA sections that may be ones fit
pub documents-fit : SectionsHold → DocumentsFit
documents-fit sections limits strip cdata bytes ended =
    let r = unread limits bytes ended in
    let read = lists_of (reading limits (fed r) (lexed_from r).last (starting cdata) (lexed_from r).lexemes) in (
      omega arith,
      finished-fits limits.depth strip 0 (inner read)
          (inner-fits limits.depth read (reads-fit limits (fed r) (lexed_from r).last (starting cdata) (lexed_from r).lexemes (sections limits bytes ended) (omega arith))),
      tt,
    )
