-- Flattening a document's tree gives its lexemes back.
use Rattle.std.proofs.Common.{◌≡◌, ℕ, Bool, true, false, List, [], ◌∷◌, ◌++◌, Option, Some, None, map, refl, sym, ap, ◌∙◌, append_assoc, append-nil}
use Rattle.stx_base.specs.declared.fault.XmlKind.{XmlKind}
use Rattle.stx_base.specs.declared.limits.Limits.{Limits}
use Rattle.std.specs.Prelude.{if◌then◌else◌}
use Rattle.stx_base.specs.declared.fault.XmlKind.TheVariants.{Truncated}
use Rattle.xml_tokens.specs.declared.lexeme.Body.{Body}
use Rattle.xml_tokens.specs.declared.lexeme.Body.TheVariants as body
use Rattle.xml_tokens.specs.declared.lexeme.Lexeme.{Lexeme}
use Rattle.xml_tokens.specs.declared.lexeme.Step.{Step}
use Rattle.xml_tokens.specs.declared.lexeme.Step.TheVariants as step
use Rattle.xml_events.specs.Before.{Before, starting, fault_of, before_next, is_complete, is_inside}
use Rattle.xml_events.specs.Document.{Item, Opens, Closes, Says, Stands, Reading, at_end, completes, stops, judged, reading, lists_of, with_item, with_items, inner, text_before, items_of, text_items}
use Rattle.xml_events.specs.Flatten.{flatten, joined, said_before}
use Rattle.xml_events.specs.Tree.{Why, Need, Bad, Leaf, Chars, CData, Comment, Pi, Forest, End, Cut, Single, Nested, Future}
use Rattle.xml_events.proofs.Counting.{lone, reading-open}

-- lists as items
abbrev flat : Future → List Item
flat [] = []
flat (list ∷ lists) = flatten list ++ flat lists

-- behind a list that is cut nothing comes
abbrev IsTied : Future → Type 0
IsTied [] = Unit {0}
IsTied (Cut why ∷ lists) = flat lists ≡ []
IsTied (End m o ∷ lists) = Unit {0}
IsTied (Single m leaf next ∷ lists) = Unit {0}
IsTied (Nested m e kids next ∷ lists) = Unit {0}

-- an item before items
abbrev one : Item → List Item → List Item
one (Says o text) is = said_before o text is
one (Opens e) is = Opens e ∷ is
one (Closes o) is = Closes o ∷ is
one (Stands leaf) is = Stands leaf ∷ is

-- leaves that are no texts
abbrev IsOther : Leaf → Type 0
IsOther (Chars o text) = ⊥
IsOther (CData o text) = Unit {0}
IsOther (Comment o text) = Unit {0}
IsOther (Pi o target text) = Unit {0}

abbrev AreOther : List Item → Type 0
AreOther [] = Unit {0}
AreOther (Stands leaf ∷ is) = IsOther leaf × AreOther is
AreOther (Says o text ∷ is) = AreOther is
AreOther (Opens e ∷ is) = AreOther is
AreOther (Closes o ∷ is) = AreOther is

text_flat : (o : ℕ) (t : List ℕ) (x : Forest) (lists : Future) → IsTied (x ∷ lists) → (flatten (text_before o t x) ++ flat lists ≡ said_before o t (flatten x ++ flat lists)) × IsTied (text_before o t x ∷ lists)
text_flat o t (Single m (Chars k l) next) lists h = (refl, tt)
text_flat o [] (End m k) lists h = (refl, tt)
text_flat o (c ∷ cs) (End m k) lists h = (refl, tt)
text_flat o [] (Cut why) lists h = (h ∙ sym (ap (said_before o []) h), h)
text_flat o (c ∷ cs) (Cut why) lists h = (h ∙ sym (ap (said_before o (c ∷ cs)) h), h)
text_flat o [] (Single m (CData k l) next) lists h = (refl, tt)
text_flat o [] (Single m (Comment k l) next) lists h = (refl, tt)
text_flat o (c ∷ cs) (Single m (CData k l) next) lists h = (refl, tt)
text_flat o (c ∷ cs) (Single m (Comment k l) next) lists h = (refl, tt)
text_flat o [] (Single m (Pi k g l) next) lists h = (refl, tt)
text_flat o (c ∷ cs) (Single m (Pi k g l) next) lists h = (refl, tt)
text_flat o [] (Nested m e kids next) lists h = (refl, tt)
text_flat o (c ∷ cs) (Nested m e kids next) lists h = (refl, tt)

other_flat : (leaf : Leaf) → IsOther leaf → (f : Future) → flat (with_item (Stands leaf) f) ≡ Stands leaf ∷ flat f
other_flat (Chars o text) h f = absurd h
other_flat (CData o text) h [] = refl
other_flat (Comment o text) h [] = refl
other_flat (CData o text) h (list ∷ lists) = refl
other_flat (Comment o text) h (list ∷ lists) = refl
other_flat (Pi o target text) h [] = refl
other_flat (Pi o target text) h (list ∷ lists) = refl

item_flat : (i : Item) (f : Future) → AreOther (i ∷ []) → IsTied f → (flat (with_item i f) ≡ one i (flat f)) × IsTied (with_item i f)
item_flat (Opens e) [] a h = (refl, tt)
item_flat (Opens e) (k ∷ []) a h = (append-nil (Opens e ∷ (flatten k ++ [])), tt)
item_flat (Opens e) (k ∷ n ∷ lists) a h = (ap (λ l. Opens e ∷ l) (append_assoc (flatten k) (flatten n) (flat lists)), tt)
item_flat (Closes o) f a h = (refl, tt)
item_flat (Stands leaf) f a h = (other_flat leaf a.0 f, tt)
item_flat (Says o t) [] a h = text_flat o t (Cut Need) [] refl
item_flat (Says o t) (x ∷ lists) a h = text_flat o t x lists h

joined-one : (i : Item) (is : List Item) → joined (i ∷ is) ≡ one i (joined is)
joined-one (Opens e) is = refl
joined-one (Closes o) is = refl
joined-one (Says o t) is = refl
joined-one (Stands leaf) is = refl

split_other : (i : Item) (is : List Item) → AreOther (i ∷ is) → AreOther (i ∷ []) × AreOther is
split_other (Opens e) is h = (tt, h)
split_other (Closes o) is h = (tt, h)
split_other (Says o t) is h = (tt, h)
split_other (Stands leaf) is h = ((h.0, tt), h.1)

items_flat : (is : List Item) (f : Future) → AreOther is → IsTied f → flat f ≡ [] → (flat (with_items is f) ≡ joined is) × IsTied (with_items is f)
items_flat [] f a h none = (none, h)
items_flat (i ∷ is) f a h none =
    let s = split_other i is a in
    let r = items_flat is f s.1 h none in
    let x = item_flat i (with_items is f) s.0 r.1 in
    (x.0 ∙ ap (one i) r.0 ∙ sym (joined-one i is), x.1)

-- the items of lexemes are no texts that stand as other leaves
other_append : (is js : List Item) → AreOther is → AreOther js → AreOther (is ++ js)
other_append [] js a b = b
other_append (Opens e ∷ is) js a b = other_append is js a b
other_append (Closes o ∷ is) js a b = other_append is js a b
other_append (Says o t ∷ is) js a b = other_append is js a b
other_append (Stands leaf ∷ is) js a b = (a.0, other_append is js a.1 b)

text_other : (o : ℕ) (t : List ℕ) (inside : Bool) → AreOther (if inside then Says o t ∷ [] else [])
text_other o t true = tt
text_other o t false = tt

cdata_other : (b : Before) (o : ℕ) (t : List ℕ) (c : Bool) → AreOther (if c then Stands (CData o t) ∷ [] else text_items b o t)
cdata_other b o t true = (tt, tt)
cdata_other b o t false = text_other o t (is_inside b.names)

lexeme_other : (b : Before) (o : ℕ) (x : Body) → AreOther (items_of b o x)
lexeme_other b o (body.Chars text blank) = text_other o text (is_inside b.names)
lexeme_other b o (body.CData text) = cdata_other b o text b.cdata
lexeme_other b o (body.Start name attrs true) = tt
lexeme_other b o (body.Start name attrs false) = tt
lexeme_other b o (body.End name) = tt
lexeme_other b o (body.Comment text) = (tt, tt)
lexeme_other b o (body.Pi target text) = (tt, tt)
lexeme_other b o body.Doctype = tt
lexeme_other b o body.Declaration = tt

-- what a reading has
abbrev IsPlain : Reading → Type 0
IsPlain r = AreOther r.items × (IsTied r.rest × (flat r.rest ≡ []))

cuts_flat : (why : Why) (names : List (List ℕ)) → flat (map (λ (name : List ℕ). Cut why) names) ≡ []
cuts_flat why [] = refl
cuts_flat why (name ∷ names) = cuts_flat why names

stops_plain : (b : Before) (why : Why) → IsPlain (stops b why)
stops_plain b why = let c = cuts_flat why b.names in (tt, (c, c))

end_plain : (b : Before) (n : ℕ) (s : Step) → IsPlain (at_end b n s)
end_plain b n (step.Lexeme l) = stops_plain b Need
end_plain b n step.Need = stops_plain b Need
end_plain b n step.End = by_test (is_complete b) where
  by_test : (t : Bool) → IsPlain (if t then completes n else stops b (Bad (record { kind = Truncated; offset = n })))
  by_test true = (tt, (tt, refl))
  by_test false = stops_plain b (Bad (record { kind = Truncated; offset = n }))
end_plain b n (step.Bad fault) = stops_plain b (Bad fault)
end_plain b n step.Memory = stops_plain b Need

judged_plain : (f : Option XmlKind) (b : Before) (l : Lexeme) (r : Reading) → IsPlain r → IsPlain (judged f b l r)
judged_plain (Some kind) b l r h = stops_plain b (Bad (record { kind = kind; offset = l.offset }))
judged_plain None b l r h = (other_append (items_of b l.offset l.body) r.items (lexeme_other b l.offset l.body) h.0, h.1)

reading_plain : (limits : Limits) (n : ℕ) (last : Step) (b : Before) (ls : List Lexeme) → IsPlain (reading limits n last b ls)
reading_plain limits n last b [] = end_plain b n last
reading_plain limits n last b (l ∷ ls) =
    judged_plain (fault_of limits b l.body) b l (reading limits n last (before_next b l.body) ls) (reading_plain limits n last (before_next b l.body) ls)

pub flattened : (limits : Limits) (cdata : Bool) (n : ℕ) (last : Step) (ls : List Lexeme) → let r = reading limits n last (starting cdata) ls in flatten (inner (lists_of r)) ≡ joined r.items
flattened limits cdata n last ls =
    let r = reading limits n last (starting cdata) ls in
    let p = reading_plain limits n last (starting cdata) ls in
    sym (ap flat (lone (lists_of r) (reading-open limits n last (starting cdata) ls)) ∙ append-nil (flatten (inner (lists_of r))))
    ∙ (items_flat r.items r.rest p.0 p.1.0 p.1.1).0
