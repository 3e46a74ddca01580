-- All nodes of a document are good.
use Rattle.std.proofs.Common.{◌≡◌, ℕ, zero, suc, ◌+◌, ◌-◌, ◌<◌, ◌≤◌, Bool, true, false, ◌&&◌, List, [], ◌∷◌, ◌++◌, Option, Some, None, length, map, refl, sym, ap, subst, ◌∙◌, arith, ltb-true, lt-ltb}
use Rattle.std.specs.Prelude.{if◌then◌else◌, nat_lt}
use Rattle.std.specs.List.{list_all}
use Rattle.std.specs.Option.{option_or}
use Rattle.std.proofs.lemmas.Bool.{and_from, and_parts}
use Rattle.std.proofs.lemmas.Bool.Decides.{nat_tests}
use Rattle.stx_base.specs.Character.{is_char, is_name, is_space}
use Rattle.stx_base.specs.declared.fault.XmlKind.{XmlKind}
use Rattle.stx_base.specs.declared.fault.XmlKind.TheVariants.{Misplaced, Mismatch, TooDeep, Truncated}
use Rattle.stx_base.specs.declared.limits.Limits.{Limits}
use Rattle.stx_base.specs.declared.name.Binding.{Binding}
use Rattle.result_writer.specs.Allowed.{are_chars, is_prefix}
use Rattle.result_writer.specs.Laws.{WritesPrefixes}
use Rattle.xml_tokens.specs.Reader.{Reader, after, due, fed}
use Rattle.xml_tokens.specs.declared.lexeme.Body.{Body}
use Rattle.xml_tokens.specs.declared.lexeme.Body.TheVariants as body
use Rattle.xml_tokens.specs.declared.lexeme.Lexeme.{Lexeme}
use Rattle.xml_tokens.specs.declared.lexeme.RawAttr.{RawAttr}
use Rattle.xml_tokens.specs.declared.lexeme.Step.{Step}
use Rattle.xml_tokens.specs.declared.lexeme.Step.TheVariants as step
use Rattle.xml_names.specs.Tag.{is_good_binding, name_fault, resolved}
use Rattle.xml_events.specs.Before.{Before, behind_text, without_text, before_next, fault_of, is_complete, is_full, is_innermost, is_inside, is_misplaced, outer_names, starting, unfit}
use Rattle.xml_events.specs.Document.{Closes, Item, Opens, Says, Stands, at_end, completes, cuts, doc, doc_for, element_at, inner, items_of, judged, lists_of, outer, reading, readied, stops, stripped, text_before, text_items, with_item, with_items}
use Rattle.xml_events.specs.Lexed.{answered, lexed_from, lexed_within, unread}
use Rattle.xml_events.specs.Tree.{Why, Need, Bad, Mark, Fresh, Leaf, Chars, CData, Comment, Pi, Element, Forest, End, Cut, Single, Nested, Future}
use Rattle.read_back.specs.Sound.{is_sound_binding}
use Rattle.run_parts.specs.Sound.{declares, declares_names, is_named}
use Rattle.stx_engine.specs.inside.Accepted.{DocumentsAreTaken, DocumentsNest, is_good, is_good_element, is_good_leaf}
use Rattle.xml_tokens.specs.Judged.{is_target}
use Rattle.xml_tokens.specs.Sayable.{LexemesAreSayable, is_comment, is_data, is_literal, is_sayable}
use Rattle.stx_engine.proofs.Accepted.{takes-good}
use Rattle.stx_engine.proofs.Declared.{runs-nest}
use Rattle.stx_engine.proofs.Named.{declared-soundly, is_good_path, tag-good, take-good}
use Rattle.stx_engine.proofs.SayableParts.{comment-good, data-good, literal-chars, target-good}

-- a list whose nodes are good, in which at most so many elements stand one within another
abbrev Sound : (room : ℕ) → Forest → Type 0
Sound room f = (is_good room f ≡ true) × (declares is_sound_binding f ≡ true)

-- the same of open lists, where that is the room in the innermost
abbrev AreSound : (room : ℕ) → Future → Type 0
AreSound room [] = Unit {0}
AreSound room (list ∷ lists) = Sound room list × AreSound (suc room) lists

inner-sound : (room : ℕ) (f : Future) → AreSound room f → Sound room (inner f)
inner-sound room [] h = (refl, refl)
inner-sound room (list ∷ lists) h = h.0

outer-sound : (room : ℕ) (f : Future) → AreSound room f → AreSound (suc room) (outer f)
outer-sound room [] h = tt
outer-sound room (list ∷ lists) h = h.1

cuts-sound : (room : ℕ) (why : Why) (names : List (List ℕ)) → AreSound room (cuts why names)
cuts-sound room why names = ((refl, refl), others (suc room) names) where
  others : (room : ℕ) (names : List (List ℕ)) → AreSound room (map (λ (name : List ℕ). Cut why) names)
  others room [] = tt
  others room (name ∷ names) = ((refl, refl), others (suc room) names)

-- Leaves

chars-append : (a b : List ℕ) → are_chars a ≡ true → are_chars b ≡ true → are_chars (a ++ b) ≡ true
chars-append [] b h k = k
chars-append (c ∷ a) b h k = let both = and_parts (is_char c) (are_chars a) h in and_from _ _ both.0 (chars-append a b both.1 k)

single-sound : (room : ℕ) (m : Mark) (leaf : Leaf) (next : Forest) → is_good_leaf leaf ≡ true → Sound room next → Sound room (Single m leaf next)
single-sound room m leaf next h k = (and_from _ _ h k.0, k.1)

text-sound : (room offset : ℕ) (text : List ℕ) (list : Forest) → are_chars text ≡ true → Sound room list → Sound room (text_before offset text list)
text-sound room offset text (Single m (Chars later more) next) h k =
    let both = and_parts (are_chars more) (is_good room next) k.0 in (and_from _ _ (chars-append text more h both.0) both.1, k.1)
text-sound room offset [] (Single m (CData later other) next) h k = k
text-sound room offset [] (Single m (Comment later other) next) h k = k
text-sound room offset [] (Single m (Pi later target other) next) h k = k
text-sound room offset [] (End m at) h k = k
text-sound room offset [] (Cut why) h k = k
text-sound room offset [] (Nested m e kids next) h k = k
text-sound room offset (c ∷ cs) (Single m (CData later other) next) h k = single-sound room Fresh (Chars offset (c ∷ cs)) (Single m (CData later other) next) h k
text-sound room offset (c ∷ cs) (Single m (Comment later other) next) h k = single-sound room Fresh (Chars offset (c ∷ cs)) (Single m (Comment later other) next) h k
text-sound room offset (c ∷ cs) (Single m (Pi later target other) next) h k = single-sound room Fresh (Chars offset (c ∷ cs)) (Single m (Pi later target other) next) h k
text-sound room offset (c ∷ cs) (End m at) h k = single-sound room Fresh (Chars offset (c ∷ cs)) (End m at) h k
text-sound room offset (c ∷ cs) (Cut why) h k = k
text-sound room offset (c ∷ cs) (Nested m e kids next) h k = single-sound room Fresh (Chars offset (c ∷ cs)) (Nested m e kids next) h k

-- Items

says-sound : (room offset : ℕ) (text : List ℕ) (f : Future) → are_chars text ≡ true → AreSound room f → AreSound room (with_item (Says offset text) f)
says-sound room offset text f h k = (text-sound room offset text (inner f) h (inner-sound room f k), outer-sound room f k)

stands-sound : (room : ℕ) (leaf : Leaf) (f : Future) → is_good_leaf leaf ≡ true → AreSound room f → AreSound room (with_item (Stands leaf) f)
stands-sound room leaf f h k = (single-sound room Fresh leaf (inner f) h (inner-sound room f k), outer-sound room f k)

closes-sound : (room offset : ℕ) (f : Future) → AreSound (suc room) f → AreSound room (with_item (Closes offset) f)
closes-sound room offset f k = ((refl, refl), k)

opens-sound : (room : ℕ) (e : Element) (f : Future) → is_good_element e ≡ true → list_all is_sound_binding e.decls ≡ true → AreSound room f → AreSound (suc room) (with_item (Opens e) f)
opens-sound room e f h d k =
    let within = inner-sound room f k in
    let behind = outer-sound room f k in
    let next = inner-sound (suc room) (outer f) behind in
    let one : suc room - 1 ≡ room = omega arith in (
      (
        and_from _ _ (lt-ltb 0 (suc room) (omega arith)) (and_from _ _ h (and_from _ _ (subst (λ n. is_good n (inner f) ≡ true) (sym one) within.0) next.0)),
        and_from _ _ d (and_from _ _ within.1 next.1),
      ),
      outer-sound (suc room) (outer f) behind,
    )

-- Lexemes

module _ (limits : Limits) where
  abbrev Room : Before → ℕ
  Room b = limits.depth - length b.names

  sound-at : (m n : ℕ) (f : Future) → m ≡ n → AreSound m f → AreSound n f
  sound-at m n f e h = subst (λ k. AreSound k f) e h

  or-none : (o p : Option XmlKind) → option_or o p ≡ None → (o ≡ None) × (p ≡ None)
  or-none None p h = (refl, h)
  or-none (Some k) p h = absurd cc

  none-if : (t : Bool) (k : XmlKind) (o : Option XmlKind) → (if t then Some k else o) ≡ None → (t ≡ false) × (o ≡ None)
  none-if true k o h = absurd cc
  none-if false k o h = (refl, h)

  innermost-named : (name : List ℕ) (names : List (List ℕ)) → (if is_innermost name names then None else Some Mismatch) ≡ None → length names ≡ suc (length (outer_names names))
  innermost-named name [] h = absurd cc
  innermost-named name (n ∷ ns) h = refl

  text-step : (b : Before) (offset : ℕ) (text : List ℕ) (f : Future) (t : Bool) → are_chars text ≡ true → AreSound (Room (if t then record b { chars = b.chars + length text } else b)) f →
      AreSound (Room b) (with_items (if t then Says offset text ∷ [] else []) f)
  text-step b offset text f true h k = says-sound (Room b) offset text f h k
  text-step b offset text f false h k = k

  cdata-step : (b : Before) (offset : ℕ) (text : List ℕ) (f : Future) (c : Bool) → are_chars text ≡ true → AreSound (Room (if c then without_text b else behind_text b text)) f →
      AreSound (Room b) (with_items (if c then Stands (CData offset text) ∷ [] else text_items b offset text) f)
  cdata-step b offset text f true h k = stands-sound (Room b) (CData offset text) f h k
  cdata-step b offset text f false h k = text-step b offset text f (is_inside b.names) h k

  values : (attrs : List RawAttr) → list_all (λ (a : RawAttr). is_name a.name && list_all is_char a.value) attrs ≡ true → list_all (λ (a : RawAttr). list_all is_char a.value) attrs ≡ true
  values [] h = refl
  values (a ∷ attrs) h =
      let both = and_parts (is_name a.name && list_all is_char a.value) (list_all (λ (x : RawAttr). is_name x.name && list_all is_char x.value) attrs) h in
      and_from _ _ (and_parts (is_name a.name) (list_all is_char a.value) both.0).1 (values attrs both.1)

  -- a lexeme that may stand here, before what follows it
  items-sound : (b : Before) (offset : ℕ) (x : Body) (f : Future) → is_sayable x ≡ true → unfit limits b x ≡ None → is_good_path b.path ≡ true → length b.names ≤ limits.depth →
      AreSound (Room (before_next b x)) f → AreSound (Room b) (with_items (items_of b offset x) f)
  items-sound b offset (body.Chars text blank) f s u p n h = text-step b offset text f (is_inside b.names) s h
  items-sound b offset (body.CData text) f s u p n h = cdata-step b offset text f b.cdata (literal-chars text s) h
  items-sound b offset (body.Start name attrs true) f s u p n h =
      let said = and_parts (is_name name) (list_all (λ (a : RawAttr). is_name a.name && list_all is_char a.value) attrs) s in
      let none = or-none (name_fault b.path name attrs) (if is_full limits b then Some TooDeep else None) u in
      let full = none-if (is_full limits b) TooDeep None none.1 in
      let less : length b.names < limits.depth = grind (arith, nat_tests, full.0) in
      let good = tag-good b.path name attrs p (values attrs said.1) none.0 in
      let room = limits.depth - suc (length b.names) in
      let is : suc room ≡ Room b = omega (arith, less) in
      let e = element_at offset (resolved b.path name attrs) in
      sound-at (suc room) (Room b) (with_item (Opens e) (End Fresh offset ∷ f)) is
      (opens-sound room e (End Fresh offset ∷ f) (and_from _ _ good.name_good good.attrs_good) (declared-soundly e.decls good.decls_good)
      (closes-sound room offset f (sound-at (Room b) (suc room) f (sym is) h)))
  items-sound b offset (body.Start name attrs false) f s u p n h =
      let said = and_parts (is_name name) (list_all (λ (a : RawAttr). is_name a.name && list_all is_char a.value) attrs) s in
      let none = or-none (name_fault b.path name attrs) (if is_full limits b then Some TooDeep else None) u in
      let full = none-if (is_full limits b) TooDeep None none.1 in
      let less : length b.names < limits.depth = grind (arith, nat_tests, full.0) in
      let good = tag-good b.path name attrs p (values attrs said.1) none.0 in
      let room = limits.depth - suc (length b.names) in
      let is : suc room ≡ Room b = omega (arith, less) in
      let e = element_at offset (resolved b.path name attrs) in
      sound-at (suc room) (Room b) (with_item (Opens e) f) is
      (opens-sound room e f (and_from _ _ good.name_good good.attrs_good) (declared-soundly e.decls good.decls_good) h)
  items-sound b offset (body.End name) f s u p n h =
      let more = innermost-named name b.names u in
      let is : limits.depth - length (outer_names b.names) ≡ suc (Room b) = omega (arith, more, n) in
      closes-sound (Room b) offset f (sound-at (limits.depth - length (outer_names b.names)) (suc (Room b)) f is h)
  items-sound b offset (body.Comment text) f s u p n h =
      let both = and_parts (list_all is_literal text) (is_comment text) s in
      stands-sound (Room b) (Comment offset text) f (and_from _ _ (literal-chars text both.0) (comment-good text both.0 both.1)) h
  items-sound b offset (body.Pi target text) f s u p n h =
      let parts = target-data target text s in
      stands-sound (Room b) (Pi offset target text) f (and_from _ _ (literal-chars text parts.1) (and_from _ _ (target-good target parts.0) (data-good text parts.1 parts.2))) h where
        target-data : (target text : List ℕ) → (is_target target && list_all is_literal text && is_data text) ≡ true → (is_target target ≡ true) × (list_all is_literal text ≡ true) × (is_data text ≡ true)
        target-data target text h = three (is_target target) (list_all is_literal text) (is_data text) h where
          three : (x y z : Bool) → (x && y && z) ≡ true → (x ≡ true) × (y ≡ true) × (z ≡ true)
          three true true true h = (refl, refl, refl)
          three false y z h = absurd cc
          three true false z h = absurd cc
          three true true false h = absurd cc
  items-sound b offset body.Doctype f s u p n h = h
  items-sound b offset body.Declaration f s u p n h = h

  path-next : (b : Before) (x : Body) → is_sayable x ≡ true → unfit limits b x ≡ None → is_good_path b.path ≡ true → is_good_path (before_next b x).path ≡ true
  path-next b (body.Chars text blank) s u p = by_inside (is_inside b.names) where
    by_inside : (t : Bool) → is_good_path (if t then record b { chars = b.chars + length text } else b).path ≡ true
    by_inside true = p
    by_inside false = p
  path-next b (body.CData text) s u p = by_kind b.cdata (is_inside b.names) where
    by_kind : (c t : Bool) → is_good_path (if c then without_text b else (if t then record b { chars = b.chars + length text } else b)).path ≡ true
    by_kind true t = p
    by_kind false true = p
    by_kind false false = p
  path-next b (body.Start name attrs true) s u p = p
  path-next b (body.Start name attrs false) s u p =
      let said = and_parts (is_name name) (list_all (λ (a : RawAttr). is_name a.name && list_all is_char a.value) attrs) s in
      let none = or-none (name_fault b.path name attrs) (if is_full limits b then Some TooDeep else None) u in
      (tag-good b.path name attrs p (values attrs said.1) none.0).path_good
  path-next b (body.End name) s u p = take-good (length b.path - 1) b.path p
  path-next b (body.Comment text) s u p = p
  path-next b (body.Pi target text) s u p = p
  path-next b body.Doctype s u p = p
  path-next b body.Declaration s u p = p

  names-next : (b : Before) (x : Body) → unfit limits b x ≡ None → length b.names ≤ limits.depth → length (before_next b x).names ≤ limits.depth
  names-next b (body.Chars text blank) u n = by_inside (is_inside b.names) where
    by_inside : (t : Bool) → length (if t then record b { chars = b.chars + length text } else b).names ≤ limits.depth
    by_inside true = n
    by_inside false = n
  names-next b (body.CData text) u n = by_kind b.cdata (is_inside b.names) where
    by_kind : (c t : Bool) → length (if c then without_text b else (if t then record b { chars = b.chars + length text } else b)).names ≤ limits.depth
    by_kind true t = n
    by_kind false true = n
    by_kind false false = n
  names-next b (body.Start name attrs true) u n = n
  names-next b (body.Start name attrs false) u n =
      let none = or-none (name_fault b.path name attrs) (if is_full limits b then Some TooDeep else None) u in
      let full = none-if (is_full limits b) TooDeep None none.1 in
      let less : length b.names < limits.depth = grind (arith, nat_tests, full.0) in
      omega (arith, less)
  names-next b (body.End name) u n = let more = innermost-named name b.names u in omega (arith, more, n)
  names-next b (body.Comment text) u n = n
  names-next b (body.Pi target text) u n = n
  names-next b body.Doctype u n = n
  names-next b body.Declaration u n = n

  -- Readings

  with_items-append : (xs ys : List Item) (f : Future) → with_items (xs ++ ys) f ≡ with_items xs (with_items ys f)
  with_items-append [] ys f = refl
  with_items-append (x ∷ xs) ys f = ap (with_item x) (with_items-append xs ys f)

  abbrev said_all : List Lexeme → Bool
  said_all ls = list_all (λ (l : Lexeme). is_sayable l.body) ls

  end-sound : (b : Before) (n : ℕ) (last : Step) → AreSound (Room b) (lists_of (at_end b n last))
  end-sound b n (step.Lexeme l) = cuts-sound (Room b) Need b.names
  end-sound b n step.Need = cuts-sound (Room b) Need b.names
  end-sound b n step.End = by_test (is_complete b) where
    by_test : (t : Bool) → AreSound (Room b) (lists_of (if t then completes n else stops b (Bad (record { kind = Truncated; offset = n }))))
    by_test true = ((refl, refl), tt)
    by_test false = cuts-sound (Room b) _ b.names
  end-sound b n (step.Bad fault) = cuts-sound (Room b) (Bad fault) b.names
  end-sound b n step.Memory = cuts-sound (Room b) Need b.names

  reading-sound : (n : ℕ) (last : Step) (b : Before) (ls : List Lexeme) → said_all ls ≡ true → is_good_path b.path ≡ true → length b.names ≤ limits.depth →
      AreSound (Room b) (lists_of (reading limits n last b ls))
  reading-sound n last b [] s p d = end-sound b n last
  reading-sound n last b (l ∷ ls) s p d =
      let both = and_parts (is_sayable l.body) (said_all ls) s in
      by_fault (fault_of limits b l.body) refl both.0
      (λ u. reading-sound n last (before_next b l.body) ls both.1 (path-next b l.body both.0 u p) (names-next b l.body u d)) where
        by_fault : (o : Option XmlKind) → fault_of limits b l.body ≡ o → is_sayable l.body ≡ true
            → (unfit limits b l.body ≡ None → AreSound (Room (before_next b l.body)) (lists_of (reading limits n last (before_next b l.body) ls)))
            → AreSound (Room b) (lists_of (judged o b l (reading limits n last (before_next b l.body) ls)))
        by_fault (Some kind) e s h = cuts-sound (Room b) _ b.names
        by_fault None e s h =
            let u = (none-if (is_misplaced b l.body) Misplaced (unfit limits b l.body) e).1 in
            let r = reading limits n last (before_next b l.body) ls in
            subst (AreSound (Room b)) (sym (with_items-append (items_of b l.offset l.body) r.items r.rest))
            (items-sound b l.offset l.body (lists_of r) s u p d (h u))

after-over : (r : Reader) (l : Lexeme) → (after r (step.Lexeme l)).over ≡ r.over
unfolding after
after-over r l = refl

-- the lexemes that are read say what lexemes can say
lexemes-said : LexemesAreSayable → (n : ℕ) (r : Reader) → r.over ≡ None → list_all (λ (l : Lexeme). is_sayable l.body) (lexed_within n r).lexemes ≡ true
lexemes-said said zero r e = refl
lexemes-said said (suc n) r e = by_step (due r) refl (λ l. lexemes-said said n (after r (step.Lexeme l)) (after-over r l ∙ e)) where
  by_step : (s : Step) → due r ≡ s → ((l : Lexeme) → list_all (λ (l : Lexeme). is_sayable l.body) (lexed_within n (after r (step.Lexeme l))).lexemes ≡ true)
      → list_all (λ (l : Lexeme). is_sayable l.body) (answered s (λ l. lexed_within n (after r (step.Lexeme l)))).lexemes ≡ true
  by_step (step.Lexeme l) k h = and_from _ _ (said r l e k) (h l)
  by_step step.Need k h = refl
  by_step step.End k h = refl
  by_step (step.Bad fault) k h = refl
  by_step step.Memory k h = refl

-- marks change nothing of this
readied-good : (room : ℕ) (f : Forest) → is_good room (readied f) ≡ is_good room f
readied-good room (End m offset) = refl
readied-good room (Cut why) = refl
readied-good room (Single m leaf next) = ap (λ t. is_good_leaf leaf && t) (readied-good room next)
readied-good room (Nested m e kids next) =
    ap (λ t. nat_lt 0 room && (is_good_element e && (t && is_good room (readied next)))) (readied-good (room - 1) kids)
    ∙ ap (λ t. nat_lt 0 room && (is_good_element e && (is_good (room - 1) kids && t))) (readied-good room next)

readied-declares : (f : Forest) → declares is_sound_binding (readied f) ≡ declares is_sound_binding f
readied-declares (End m offset) = refl
readied-declares (Cut why) = refl
readied-declares (Single m leaf next) = readied-declares next
readied-declares (Nested m e kids next) =
    ap (λ t. list_all is_sound_binding e.decls && (t && declares is_sound_binding (readied next))) (readied-declares kids)
    ∙ ap (λ t. list_all is_sound_binding e.decls && (declares is_sound_binding kids && t)) (readied-declares next)

-- the list of the document node, before nodes are marked
abbrev read : Limits → (cdata : Bool) → (bytes : List ℕ) → (ended : Bool) → Forest
read limits cdata bytes ended = let r = unread limits bytes ended in inner (lists_of (reading limits (fed r) (lexed_from r).last (starting cdata) (lexed_from r).lexemes))

read-sound : LexemesAreSayable → (limits : Limits) (cdata : Bool) (bytes : List ℕ) (ended : Bool) → Sound limits.depth (read limits cdata bytes ended)
read-sound said limits cdata bytes ended =
    let r = unread limits bytes ended in
    let lexed = lexed_from r in
    let lists = lists_of (reading limits (fed r) lexed.last (starting cdata) lexed.lexemes) in
    let all = reading-sound limits (fed r) lexed.last (starting cdata) lexed.lexemes (lexemes-said said (suc (length r.unread)) r refl) refl (omega arith) in
    let room : limits.depth - 0 ≡ limits.depth = omega arith in
    inner-sound limits.depth lists (subst (λ n. AreSound n lists) room all)

doc-sound : LexemesAreSayable → (limits : Limits) (bytes : List ℕ) (ended : Bool) → Sound limits.depth (doc limits false bytes ended)
doc-sound said limits bytes ended =
    let list = read limits false bytes ended in
    let first = read-sound said limits false bytes ended in
    (readied-good limits.depth list ∙ first.0, readied-declares list ∙ first.1)

-- a list declares no more without some of its texts
stripped-declares : (f : Forest) → declares is_sound_binding f ≡ true → declares is_sound_binding (stripped f) ≡ true
stripped-declares (End m offset) h = refl
stripped-declares (Cut why) h = refl
stripped-declares (Single m (Chars offset text) next) h = by_test (list_all is_space text) (stripped-declares next h) where
  by_test : (t : Bool) → declares is_sound_binding (stripped next) ≡ true → declares is_sound_binding (if t then stripped next else Single m (Chars offset text) (stripped next)) ≡ true
  by_test true k = k
  by_test false k = k
stripped-declares (Single m (CData offset text) next) h = stripped-declares next h
stripped-declares (Single m (Comment offset text) next) h = stripped-declares next h
stripped-declares (Single m (Pi offset target text) next) h = stripped-declares next h
stripped-declares (Nested m e kids next) h =
    let b = and_parts (list_all is_sound_binding e.decls) (declares is_sound_binding kids && declares is_sound_binding next) h in
    let c = and_parts (declares is_sound_binding kids) (declares is_sound_binding next) b.1 in
    and_from _ _ b.0 (and_from _ _ (stripped-declares kids c.0) (stripped-declares next c.1))

finished-declares : (strip : Bool) (f : Forest) → declares is_sound_binding f ≡ true → declares is_sound_binding (if strip then stripped f else f) ≡ true
finished-declares true f h = stripped-declares f h
finished-declares false f h = h

-- so it is however a document is read
pub all-soundly : LexemesAreSayable → (limits : Limits) (strip cdata : Bool) (bytes : List ℕ) (ended : Bool) → declares is_sound_binding (doc_for limits strip cdata bytes ended) ≡ true
all-soundly said limits strip cdata bytes ended =
    let list = read limits cdata bytes ended in
    readied-declares (if strip then stripped list else list) ∙ finished-declares strip list (read-sound said limits cdata bytes ended).1

-- and so all prefixes are names
named-bindings : (bs : List Binding) → list_all is_sound_binding bs ≡ true → list_all is_named bs ≡ true
named-bindings [] h = refl
named-bindings (b ∷ bs) h =
    let both = and_parts (is_sound_binding b) (list_all is_sound_binding bs) h in
    let spelled = and_parts (is_prefix b.prefix && are_chars b.uri) (is_good_binding b.prefix b.uri) both.0 in
    and_from _ _ (and_parts (is_prefix b.prefix) (are_chars b.uri) spelled.0).0 (named-bindings bs both.1)

named-list : (f : Forest) → declares is_sound_binding f ≡ true → declares_names f ≡ true
named-list (End m offset) h = refl
named-list (Cut why) h = refl
named-list (Single m leaf next) h = named-list next h
named-list (Nested m e kids next) h =
    let b = and_parts (list_all is_sound_binding e.decls) (declares is_sound_binding kids && declares is_sound_binding next) h in
    let c = and_parts (declares is_sound_binding kids) (declares is_sound_binding next) b.1 in
    and_from _ _ (named-bindings e.decls b.0) (and_from _ _ (named-list kids c.0) (named-list next c.1))

pub all-declare : LexemesAreSayable → (limits : Limits) (strip cdata : Bool) (bytes : List ℕ) (ended : Bool) → declares_names (doc_for limits strip cdata bytes ended) ≡ true
all-declare said limits strip cdata bytes ended = named-list (doc_for limits strip cdata bytes ended) (all-soundly said limits strip cdata bytes ended)

-- more room does no harm
more-room : (r s : ℕ) (f : Forest) → r ≤ s → is_good r f ≡ true → is_good s f ≡ true
more-room r s (End m offset) le h = refl
more-room r s (Cut why) le h = refl
more-room r s (Single m leaf next) le h = let b = and_parts (is_good_leaf leaf) (is_good r next) h in and_from _ _ b.0 (more-room r s next le b.1)
more-room r s (Nested m e kids next) le h =
    let b = and_parts (nat_lt 0 r) (is_good_element e && (is_good (r - 1) kids && is_good r next)) h in
    let c = and_parts (is_good_element e) (is_good (r - 1) kids && is_good r next) b.1 in
    let d = and_parts (is_good (r - 1) kids) (is_good r next) c.1 in
    let some : 0 < r = ltb-true _ _ b.0 in
    and_from _ _ (lt-ltb 0 s (omega (arith, some, le))) (and_from _ _ c.0 (and_from _ _ (more-room (r - 1) (s - 1) kids (omega (arith, le)) d.0) (more-room r s next le d.1)))

pub documents-are-taken : LexemesAreSayable → DocumentsAreTaken
documents-are-taken said limits pass bytes ended fault le h =
    let tree = doc limits false bytes ended in
    takes-good limits.elements pass tree fault (more-room limits.depth limits.elements tree le (doc-sound said limits bytes ended).0) h

pub documents-nest : LexemesAreSayable → WritesPrefixes → DocumentsNest
documents-nest said prefixes limits pass bytes ended front begins =
    runs-nest prefixes limits.elements pass (doc limits false bytes ended) front (named-list (doc limits false bytes ended) (doc-sound said limits bytes ended).1) begins
