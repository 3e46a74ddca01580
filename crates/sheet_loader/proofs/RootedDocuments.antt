-- A document has one root, unless it is cut before it.
use Rattle.std.proofs.Common.{◌≡◌, ℕ, ◌+◌, Bool, true, false, not, ◌&&◌, List, [], ◌∷◌, ◌++◌, Option, Some, None, length, map, refl, sym, ap, subst, if◌then◌else◌}
use Rattle.stx_base.specs.declared.fault.XmlKind.{XmlKind}
use Rattle.stx_base.specs.declared.fault.XmlKind.TheVariants.{Misplaced, Mismatch, Truncated}
use Rattle.stx_base.specs.declared.limits.Limits.{Limits}
use Rattle.xml_tokens.specs.Reader.{fed}
use Rattle.xml_tokens.specs.declared.lexeme.Body.{Body}
use Rattle.xml_tokens.specs.declared.lexeme.Body.TheVariants as body
use Rattle.xml_tokens.specs.declared.lexeme.Lexeme.{Lexeme}
use Rattle.xml_tokens.specs.declared.lexeme.Step.{Step}
use Rattle.xml_tokens.specs.declared.lexeme.Step.TheVariants as step
use Rattle.xml_names.specs.Tag.{resolved}
use Rattle.xml_events.specs.Before.{Before, at_start, before_next, behind_text, fault_of, is_complete, is_innermost, is_inside, is_misplaced, outer_names, unfit, without_text}
use Rattle.xml_events.specs.Document.{Item, Opens, Says, Stands, at_end, completes, cuts, doc, element_at, inner, items_of, judged, lists_of, outer, reading, readied, stops, text_before, text_items, with_item, with_items}
use Rattle.xml_events.specs.Lexed.{lexed_from, unread}
use Rattle.xml_events.specs.Tree.{Bad, CData, Comment, Cut, Element, End, Forest, Fresh, Future, Leaf, Need, Nested, Pi, Single, Why}
use Rattle.sheet_loader.specs.Standing.{HasNoElement, IsDocument}

-- in the list that stands so many outwards no element comes any more
abbrev Rest : (names : List (List ℕ)) → Future → Type 0
Rest [] f = HasNoElement (inner f)
Rest (name ∷ names) f = Rest names (outer f)

-- what is still to come of the document's own list
abbrev ToCome : (names : List (List ℕ)) (rooted : Bool) → Future → Type 0
ToCome [] false f = IsDocument (inner f)
ToCome [] true f = Rest [] f
ToCome (name ∷ names) rooted f = Rest (name ∷ names) f

abbrev Comes : Before → Future → Type 0
Comes b f = ToCome b.names b.rooted f

cuts_rest : (why : Why) (names : List (List ℕ)) → (k : List (List ℕ)) → Rest names (map (λ (name : List ℕ). Cut why) k)
cuts_rest why [] [] = tt
cuts_rest why [] (x ∷ k) = tt
cuts_rest why (name ∷ names) [] = nothing_left names
  where
    nothing_left : (names : List (List ℕ)) → Rest names []
    nothing_left [] = tt
    nothing_left (x ∷ xs) = nothing_left xs
cuts_rest why (name ∷ names) (x ∷ k) = cuts_rest why names k

cuts_come : (why : Why) (b : Before) → Comes b (cuts why b.names)
cuts_come why b = by b.names b.rooted b.names where
  by : (names : List (List ℕ)) (rooted : Bool) (k : List (List ℕ)) → ToCome names rooted (Cut why ∷ map (λ (name : List ℕ). Cut why) k)
  by [] false k = tt
  by [] true k = tt
  by (name ∷ names) rooted k = cuts_rest why names k

leaf_comes : (names : List (List ℕ)) (rooted : Bool) (leaf : Leaf) (f : Future) → ToCome names rooted f → ToCome names rooted (Single Fresh leaf (inner f) ∷ outer f)
leaf_comes [] false leaf f h = h
leaf_comes [] true leaf f h = h
leaf_comes (name ∷ names) rooted leaf f h = h

none_if : (t : Bool) (k : XmlKind) (o : Option XmlKind) → (if t then Some k else o) ≡ None → (t ≡ false) × (o ≡ None)
none_if true k o h = absurd cc
none_if false k o h = (refl, h)

-- where the root was read no element may stand
start_comes : (names : List (List ℕ)) (rooted : Bool) (name : List ℕ) (e : Element) (f : Future) → (rooted && not (is_inside names)) ≡ false → Rest (name ∷ names) f → ToCome names rooted (with_item (Opens e) f)
start_comes [] true name e f m h = absurd cc
start_comes [] false name e f m h = h
start_comes (x ∷ names) rooted name e f m h = h

empty_comes : (names : List (List ℕ)) (rooted : Bool) (offset : ℕ) (e : Element) (f : Future) → (rooted && not (is_inside names)) ≡ false → ToCome names true f → ToCome names rooted (with_item (Opens e) (End Fresh offset ∷ f))
empty_comes [] true offset e f m h = absurd cc
empty_comes [] false offset e f m h = h
empty_comes (x ∷ names) rooted offset e f m h = h

-- an element that is open has the root begun
abbrev IsBegun : Before → Type 0
IsBegun b = is_inside b.names ≡ true → b.rooted ≡ true

end_comes : (name : List ℕ) (names : List (List ℕ)) (rooted : Bool) (offset : ℕ) (f : Future) → (is_inside names ≡ true → rooted ≡ true) → (if is_innermost name names then None else Some Mismatch) ≡ None
    → ToCome (outer_names names) rooted f → ToCome names rooted (End Fresh offset ∷ f)
end_comes name [] rooted offset f r u h = absurd cc
end_comes name (x ∷ []) true offset f r u h = h
end_comes name (x ∷ []) false offset f r u h = absurd (let e : false ≡ true = r refl in cc)
end_comes name (x ∷ y ∷ names) rooted offset f r u h = h

says_comes : (names : List (List ℕ)) (rooted : Bool) (list : Forest) (f : Future) → is_inside names ≡ true → ToCome names rooted f → ToCome names rooted (list ∷ outer f)
says_comes [] rooted list f i h = absurd cc
says_comes (x ∷ names) rooted list f i h = h

text_step : (b : Before) (offset : ℕ) (text : List ℕ) (f : Future) (t : Bool) → is_inside b.names ≡ t → Comes (if t then record b { chars = b.chars + length text } else b) f
    → Comes b (with_items (if t then Says offset text ∷ [] else []) f)
text_step b offset text f true i h = says_comes b.names b.rooted (text_before offset text (inner f)) f i h
text_step b offset text f false i h = h

cdata_step : (b : Before) (offset : ℕ) (text : List ℕ) (f : Future) (c : Bool) → Comes (if c then without_text b else behind_text b text) f
    → Comes b (with_items (if c then Stands (CData offset text) ∷ [] else text_items b offset text) f)
cdata_step b offset text f true h = leaf_comes b.names b.rooted (CData offset text) f h
cdata_step b offset text f false h = text_step b offset text f (is_inside b.names) refl h

module _ (limits : Limits) where
  items_come : (b : Before) (offset : ℕ) (x : Body) (f : Future) → IsBegun b → is_misplaced b x ≡ false → unfit limits b x ≡ None → Comes (before_next b x) f → Comes b (with_items (items_of b offset x) f)
  items_come b offset (body.Chars text blank) f r m u h = text_step b offset text f (is_inside b.names) refl h
  items_come b offset (body.CData text) f r m u h = cdata_step b offset text f b.cdata h
  items_come b offset (body.Start name attrs true) f r m u h = empty_comes b.names b.rooted offset (element_at offset (resolved b.path name attrs)) f m h
  items_come b offset (body.Start name attrs false) f r m u h = start_comes b.names b.rooted name (element_at offset (resolved b.path name attrs)) f m h
  items_come b offset (body.End name) f r m u h = end_comes name b.names b.rooted offset f r u h
  items_come b offset (body.Comment text) f r m u h = leaf_comes b.names b.rooted (Comment offset text) f h
  items_come b offset (body.Pi target text) f r m u h = leaf_comes b.names b.rooted (Pi offset target text) f h
  items_come b offset body.Doctype f r m u h = h
  items_come b offset body.Declaration f r m u h = h

  outer_begun : (names : List (List ℕ)) (rooted : Bool) → (is_inside names ≡ true → rooted ≡ true) → is_inside (outer_names names) ≡ true → rooted ≡ true
  outer_begun [] rooted r i = absurd cc
  outer_begun (x ∷ names) rooted r i = r refl

  begun_next : (b : Before) (x : Body) → IsBegun b → IsBegun (before_next b x)
  begun_next b (body.Chars text blank) r = by (is_inside b.names) where
    by : (t : Bool) → IsBegun (if t then record b { chars = b.chars + length text } else b)
    by true = r
    by false = r
  begun_next b (body.CData text) r = by b.cdata (is_inside b.names) where
    by : (c t : Bool) → IsBegun (if c then without_text b else (if t then record b { chars = b.chars + length text } else b))
    by true t = r
    by false true = r
    by false false = r
  begun_next b (body.Start name attrs true) r = λ i. refl
  begun_next b (body.Start name attrs false) r = λ i. refl
  begun_next b (body.End name) r = outer_begun b.names b.rooted r
  begun_next b (body.Comment text) r = r
  begun_next b (body.Pi target text) r = r
  begun_next b body.Doctype r = r
  begun_next b body.Declaration r = r

  with_items_append : (xs ys : List Item) (f : Future) → with_items (xs ++ ys) f ≡ with_items xs (with_items ys f)
  with_items_append [] ys f = refl
  with_items_append (x ∷ xs) ys f = ap (with_item x) (with_items_append xs ys f)

  complete_comes : (names : List (List ℕ)) (rooted : Bool) (n : ℕ) → (rooted && not (is_inside names)) ≡ true → ToCome names rooted (End Fresh n ∷ [])
  complete_comes [] true n h = tt
  complete_comes [] false n h = absurd cc
  complete_comes (x ∷ names) true n h = absurd cc
  complete_comes (x ∷ names) false n h = absurd cc

  end_of_all : (b : Before) (n : ℕ) (last : Step) → Comes b (lists_of (at_end b n last))
  end_of_all b n (step.Lexeme l) = cuts_come Need b
  end_of_all b n step.Need = cuts_come Need b
  end_of_all b n step.End = by_test (is_complete b) refl where
    by_test : (t : Bool) → is_complete b ≡ t → Comes b (lists_of (if t then completes n else stops b (Bad (record { kind = Truncated; offset = n }))))
    by_test true e = complete_comes b.names b.rooted n e
    by_test false e = cuts_come _ b
  end_of_all b n (step.Bad fault) = cuts_come (Bad fault) b
  end_of_all b n step.Memory = cuts_come Need b

  reading_comes : (n : ℕ) (last : Step) (b : Before) (ls : List Lexeme) → IsBegun b → Comes b (lists_of (reading limits n last b ls))
  reading_comes n last b [] r = end_of_all b n last
  reading_comes n last b (l ∷ ls) r = by_fault (fault_of limits b l.body) refl (reading_comes n last (before_next b l.body) ls (begun_next b l.body r)) where
    by_fault : (o : Option XmlKind) → fault_of limits b l.body ≡ o → Comes (before_next b l.body) (lists_of (reading limits n last (before_next b l.body) ls))
        → Comes b (lists_of (judged o b l (reading limits n last (before_next b l.body) ls)))
    by_fault (Some kind) e h = cuts_come _ b
    by_fault None e h =
        let m = none_if (is_misplaced b l.body) Misplaced (unfit limits b l.body) e in
        let rest = reading limits n last (before_next b l.body) ls in
        subst (Comes b) (sym (with_items_append (items_of b l.offset l.body) rest.items rest.rest)) (items_come b l.offset l.body (lists_of rest) r m.0 m.1 h)

readied_none : (f : Forest) → HasNoElement f → HasNoElement (readied f)
readied_none (End m offset) h = tt
readied_none (Cut why) h = tt
readied_none (Single m leaf next) h = readied_none next h
readied_none (Nested m e kids next) h = absurd h

readied_document : (f : Forest) → IsDocument f → IsDocument (readied f)
readied_document (End m offset) h = absurd h
readied_document (Cut why) h = tt
readied_document (Single m leaf next) h = readied_document next h
readied_document (Nested m e kids next) h = readied_none next h

pub rooted : (limits : Limits) (bytes : List ℕ) (ended : Bool) → IsDocument (doc limits false bytes ended)
rooted limits bytes ended =
    let r = unread limits bytes ended in
    let lexed = lexed_from r in
    readied_document (inner (lists_of (reading limits (fed r) lexed.last at_start lexed.lexemes))) (reading_comes limits (fed r) lexed.last at_start lexed.lexemes (λ i. absurd cc))
