-- A document weighs no more than it has bytes.
use Rattle.std.proofs.Common.{◌≡◌, ◌≢◌, ℕ, zero, suc, ◌+◌, ◌-◌, ◌<◌, ◌≤◌, Bool, true, false, not, List, [], ◌∷◌, ◌++◌, Option, Some, None, Ok, Err, cond, length, map, take, drop, refl, ap, sym, ◌∙◌, arith, codes, encode_utf8, encode_utf8_all, sum_by, min}
use Rattle.std.specs.Prelude.{◌==◌, if◌then◌else◌, is_some, unwrap_or}
use Rattle.std.specs.List.{cons_option, list_all}
use Rattle.std.specs.Str.{chars, is_utf8}
use Rattle.std.proofs.Math.Nat.{min-le_left, min-le_right}
use Rattle.std.proofs.lemmas.List.{length-append, length-drop, length-take, take-append-drop}
use Rattle.std.proofs.lemmas.List.Sums.{sum_by-cons}
use Rattle.std.proofs.lemmas.Str.{length-le-encodes}
use Rattle.stx_base.specs.Character.{is_char}
use Rattle.stx_base.specs.declared.fault.XmlKind.{XmlKind}
use Rattle.stx_base.specs.declared.fault.XmlKind.TheVariants as kind
use Rattle.stx_base.specs.declared.limits.Limits.{Limits}
use Rattle.stx_base.specs.declared.name.Attr.{Attr}
use Rattle.stx_base.specs.declared.name.Binding.{Binding}
use Rattle.xml_tokens.proofs.AloneLemmas.{shape_len-alone}
use Rattle.xml_tokens.proofs.LexemeReading.{lexemes-spelled}
use Rattle.xml_tokens.proofs.RunLemmas.{due-fresh, lexeme-shape}
use Rattle.xml_tokens.proofs.SaysLemmas.{made_of}
use Rattle.xml_tokens.proofs.WholeLemmas.{whole-within}
use Rattle.xml_tokens.specs.Judged.{by_form, judged}
use Rattle.xml_tokens.specs.Reader.{Reader, after, at_shape_or_rest, coming, due, fed, is_last, mark_len, place}
use Rattle.xml_tokens.specs.Reader as reader
use Rattle.xml_tokens.specs.Shape.{form, shape_len}
use Rattle.xml_tokens.specs.Spelling.{Spells, SpellsAttributes, SpellsChar, SpellsLiteral, SpellsText, enclosed}
use Rattle.xml_tokens.specs.Spelling as spelling
use Rattle.xml_tokens.specs.declared.form.Form.{Form}
use Rattle.xml_tokens.specs.declared.form.Form.TheVariants.{Undecided}
use Rattle.xml_tokens.specs.declared.lexeme.Body.{Body}
use Rattle.xml_tokens.specs.declared.lexeme.Body.TheVariants as body
use Rattle.xml_tokens.specs.declared.lexeme.Lexeme.{Lexeme}
use Rattle.xml_tokens.specs.declared.lexeme.RawAttr.{RawAttr}
use Rattle.xml_tokens.specs.declared.lexeme.Step.{Step}
use Rattle.xml_tokens.specs.declared.lexeme.Step.TheVariants as step
use Rattle.xml_tokens.specs.declared.text.Context.{Context}
use Rattle.xml_tokens.specs.declared.text.Context.TheVariants.{Value}
use Rattle.xml_names.specs.Scope.{attribute_name}
use Rattle.xml_names.specs.Tag.{attributes, declared_prefix, into, resolved}
use Rattle.xml_events.specs.Before.{Before, at_start, before_next, fault_of, is_complete, is_inside}
use Rattle.xml_events.specs.Document.{Item, Opens, Says, Stands, at_end, completes, cuts, doc, element_at, inner, items_of, judged as judged_by, lists_of, outer, reading, readied, stops, text_before, text_items, with_item, with_items}
use Rattle.xml_events.specs.Lexed.{answered, lexed_from, lexed_within, unread}
use Rattle.xml_events.specs.Tree.{Bad, CData, Chars, Comment, Cut, Element, End, Forest, Fresh, Future, Leaf, Need, Nested, Pi, Single, Why}
use Rattle.sheet_loader.specs.Weighing.{tag_weight, weight}

-- Characters are spelled by a byte at least.

encode_some : (c : ℕ) → 0 < length (encode_utf8 c)
encode_some c = let h = length-le-encodes (c ∷ []) in let e = length-append (encode_utf8 c) [] in omega (arith, h, e)

literal_some : (c : ℕ) (front more : List ℕ) → SpellsLiteral c front more → 0 < length front
literal_some _ _ _ (spelling.itself c more char ne) = encode_some c
literal_some _ _ _ (spelling.return_and_feed more) = omega arith
literal_some _ _ _ (spelling.return more other) = omega arith

char_some : (at : Context) (c : ℕ) (front more : List ℕ) → SpellsChar at c front more → 0 < length front
char_some _ _ _ _ (spelling.literal at c front more l ne) = literal_some c front more l
char_some _ _ _ _ (spelling.entity at name c more h) = omega arith
char_some _ _ _ _ (spelling.decimal at digits c more h) = omega arith
char_some _ _ _ _ (spelling.hexadecimal at digits c more h) = omega arith

text_short : (at : Context) (text bytes : List ℕ) → SpellsText at text bytes → length text ≤ length bytes
text_short at [] bytes h = omega arith
text_short at (c ∷ text) bytes h =
    let s = char_some at c h.0 h.1 h.2 in
    let r = text_short at text h.1 h.4 in
    let e = ap (λ (bs : List ℕ). length bs) h.3 in
    let l = length-append h.0 h.1 in
    omega (arith, s, r, e, l)

-- Tags

abbrev raw_weight : List RawAttr → ℕ
raw_weight attrs = sum_by (λ (a : RawAttr). length a.value + 1) attrs

attributes_short : (attrs : List RawAttr) (empty : Bool) (bytes : List ℕ) → SpellsAttributes attrs empty bytes → raw_weight attrs ≤ length bytes
attributes_short [] empty bytes h = omega arith
attributes_short (a ∷ attrs) empty bytes h =
    let w = h.0 in
    let more = h.1 in
    let name = encode_utf8_all a.name in
    let r = attributes_short attrs empty more h.4 in
    let t = text_short Value a.value w.value h.2.value in
    let e = ap (λ (bs : List ℕ). length bs) h.3 in
    let l1 = length-append (w.first ∷ w.space) (name ++ (w.before ++ 61 ∷ (w.behind ++ w.quote ∷ (w.value ++ w.quote ∷ more)))) in
    let l2 = length-append name (w.before ++ 61 ∷ (w.behind ++ w.quote ∷ (w.value ++ w.quote ∷ more))) in
    let l3 = length-append w.before (61 ∷ (w.behind ++ w.quote ∷ (w.value ++ w.quote ∷ more))) in
    let l4 = length-append w.behind (w.quote ∷ (w.value ++ w.quote ∷ more)) in
    let l5 = length-append w.value (w.quote ∷ more) in
    let c = sum_by-cons (λ (a : RawAttr). length a.value + 1) a attrs in
    omega (arith, r, t, e, l1, l2, l3, l4, l5, c)

-- what a lexeme weighs
abbrev body_weight : Body → ℕ
body_weight (body.Chars text blank) = 1
body_weight (body.CData text) = 1
body_weight (body.Start name attrs empty) = 1 + raw_weight attrs
body_weight (body.End name) = 0
body_weight (body.Comment text) = 1
body_weight (body.Pi target text) = 1
body_weight body.Doctype = 0
body_weight body.Declaration = 0

enclosed_long : (opener closer inside : List ℕ) → length (enclosed opener closer inside) ≡ length opener + length inside + length closer
enclosed_long opener closer inside = let a = length-append opener (inside ++ closer) in let b = length-append inside closer in omega (arith, a, b)

body_short : (first : Bool) (x : Body) (bytes : List ℕ) → Spells first x bytes → body_weight x ≤ length bytes
body_short first (body.Chars text blank) bytes h = let s = h.1 in omega (arith, s)
body_short first (body.CData text) bytes h = let e = ap (λ (bs : List ℕ). length bs) h.3 in let l = enclosed_long (codes "<![CDATA[") (codes "]]>") h.0 in omega (arith, e, l)
body_short first (body.Start name attrs empty) bytes h =
    let e = ap (λ (bs : List ℕ). length bs) h.2 in
    let l = enclosed_long (codes "<") (codes ">") h.0 in
    let i = ap (λ (bs : List ℕ). length bs) h.1.2 in
    let n = length-append (encode_utf8_all name) h.1.0 in
    let a = attributes_short attrs empty h.1.0 h.1.3 in
    omega (arith, e, l, i, n, a)
body_short first (body.End name) bytes h = omega arith
body_short first (body.Comment text) bytes h = let e = ap (λ (bs : List ℕ). length bs) h.4 in let l = enclosed_long (codes "<!--") (codes "-->") h.0 in omega (arith, e, l)
body_short first (body.Pi target text) bytes h = let e = ap (λ (bs : List ℕ). length bs) h.7 in let l = enclosed_long (codes "<?") (codes "?>") (encode_utf8_all target ++ h.0) in omega (arith, e, l)
body_short first body.Doctype bytes h = omega arith
body_short first body.Declaration bytes h = omega arith

-- the attributes that are no declarations
attributes_weigh : (path : List (List Binding)) (attrs : List RawAttr) → sum_by (λ (a : Attr). length a.value + 1) (attributes path attrs) ≤ raw_weight attrs
attributes_weigh path [] = omega arith
attributes_weigh path (a ∷ attrs) = by (is_some (declared_prefix a.name)) (attributes_weigh path attrs) where
  by : (b : Bool) → sum_by (λ (a : Attr). length a.value + 1) (attributes path attrs) ≤ raw_weight attrs
      → sum_by (λ (a : Attr). length a.value + 1) (cons_option (if b then None else Some (record { name = attribute_name path a.name; value = a.value })) (attributes path attrs)) ≤ raw_weight (a ∷ attrs)
  by true r = let c = sum_by-cons (λ (a : RawAttr). length a.value + 1) a attrs in omega (arith, r, c)
  by false r =
      let c = sum_by-cons (λ (a : RawAttr). length a.value + 1) a attrs in
      let d = sum_by-cons (λ (a : Attr). length a.value + 1) (record { name = attribute_name path a.name; value = a.value }) (attributes path attrs) in
      omega (arith, r, c, d)

-- Lists

abbrev lists_weight : Future → ℕ
lists_weight [] = 0
lists_weight (f ∷ fs) = weight f + lists_weight fs

two_lists : (f : Future) → weight (inner f) + lists_weight (outer f) ≡ lists_weight f
two_lists [] = refl
two_lists (x ∷ f) = refl

cuts_weigh : (why : Why) (names : List (List ℕ)) → lists_weight (cuts why names) ≡ 0
cuts_weigh why names = (let r = others names in omega (arith, r)) where
  others : (names : List (List ℕ)) → lists_weight (map (λ (name : List ℕ). Cut why) names) ≡ 0
  others [] = refl
  others (name ∷ names) = let r = others names in omega (arith, r)

text_weighs : (offset : ℕ) (text : List ℕ) (list : Forest) → weight (text_before offset text list) ≤ 1 + weight list
text_weighs offset text (Single m (Chars later more) next) = omega arith
text_weighs offset [] (Single m (CData later other) next) = omega arith
text_weighs offset [] (Single m (Comment later other) next) = omega arith
text_weighs offset [] (Single m (Pi later target other) next) = omega arith
text_weighs offset [] (End m at) = omega arith
text_weighs offset [] (Cut why) = omega arith
text_weighs offset [] (Nested m e kids next) = omega arith
text_weighs offset (c ∷ cs) (Single m (CData later other) next) = omega arith
text_weighs offset (c ∷ cs) (Single m (Comment later other) next) = omega arith
text_weighs offset (c ∷ cs) (Single m (Pi later target other) next) = omega arith
text_weighs offset (c ∷ cs) (End m at) = omega arith
text_weighs offset (c ∷ cs) (Cut why) = omega arith
text_weighs offset (c ∷ cs) (Nested m e kids next) = omega arith

says_weigh : (offset : ℕ) (text : List ℕ) (f : Future) → lists_weight (with_item (Says offset text) f) ≤ 1 + lists_weight f
says_weigh offset text f = let a = text_weighs offset text (inner f) in let b = two_lists f in omega (arith, a, b)

stands_weigh : (leaf : Leaf) (f : Future) → lists_weight (with_item (Stands leaf) f) ≤ 1 + lists_weight f
stands_weigh leaf f = let b = two_lists f in omega (arith, b)

opens_weigh : (e : Element) (f : Future) → lists_weight (with_item (Opens e) f) ≤ tag_weight e + lists_weight f
opens_weigh e f = let a = two_lists f in let b = two_lists (outer f) in omega (arith, a, b)

text_step : (b : Before) (offset : ℕ) (text : List ℕ) (f : Future) (t : Bool) → lists_weight (with_items (if t then Says offset text ∷ [] else []) f) ≤ 1 + lists_weight f
text_step b offset text f true = says_weigh offset text f
text_step b offset text f false = omega arith

cdata_step : (b : Before) (offset : ℕ) (text : List ℕ) (f : Future) (c : Bool) → lists_weight (with_items (if c then Stands (CData offset text) ∷ [] else text_items b offset text) f) ≤ 1 + lists_weight f
cdata_step b offset text f true = stands_weigh (CData offset text) f
cdata_step b offset text f false = text_step b offset text f (is_inside b.names)

items_weigh : (b : Before) (offset : ℕ) (x : Body) (f : Future) → lists_weight (with_items (items_of b offset x) f) ≤ body_weight x + lists_weight f
items_weigh b offset (body.Chars text blank) f = text_step b offset text f (is_inside b.names)
items_weigh b offset (body.CData text) f = cdata_step b offset text f b.cdata
items_weigh b offset (body.Start name attrs true) f =
    let o = opens_weigh (element_at offset (resolved b.path name attrs)) (End Fresh offset ∷ f) in let a = attributes_weigh (into b.path attrs) attrs in omega (arith, o, a)
items_weigh b offset (body.Start name attrs false) f =
    let o = opens_weigh (element_at offset (resolved b.path name attrs)) f in let a = attributes_weigh (into b.path attrs) attrs in omega (arith, o, a)
items_weigh b offset (body.End name) f = omega arith
items_weigh b offset (body.Comment text) f = stands_weigh (Comment offset text) f
items_weigh b offset (body.Pi target text) f = stands_weigh (Pi offset target text) f
items_weigh b offset body.Doctype f = omega arith
items_weigh b offset body.Declaration f = omega arith

with_items_append : (xs ys : List Item) (f : Future) → with_items (xs ++ ys) f ≡ with_items xs (with_items ys f)
with_items_append [] ys f = refl
with_items_append (x ∷ xs) ys f = ap (with_item x) (with_items_append xs ys f)

abbrev lexemes_weight : List Lexeme → ℕ
lexemes_weight ls = sum_by (λ (l : Lexeme). body_weight l.body) ls

end_weighs : (b : Before) (n : ℕ) (last : Step) → lists_weight (lists_of (at_end b n last)) ≡ 0
end_weighs b n (step.Lexeme l) = cuts_weigh Need b.names
end_weighs b n step.Need = cuts_weigh Need b.names
end_weighs b n step.End = by_test (is_complete b) where
  by_test : (t : Bool) → lists_weight (lists_of (if t then completes n else stops b (Bad (record { kind = kind.Truncated; offset = n })))) ≡ 0
  by_test true = refl
  by_test false = cuts_weigh _ b.names
end_weighs b n (step.Bad fault) = cuts_weigh (Bad fault) b.names
end_weighs b n step.Memory = cuts_weigh Need b.names

reading_weighs : (limits : Limits) (n : ℕ) (last : Step) (b : Before) (ls : List Lexeme) → lists_weight (lists_of (reading limits n last b ls)) ≤ lexemes_weight ls
reading_weighs limits n last b [] = let e = end_weighs b n last in omega (arith, e)
reading_weighs limits n last b (l ∷ ls) = by_fault (fault_of limits b l.body) (reading_weighs limits n last (before_next b l.body) ls) where
  by_fault : (o : Option XmlKind) → lists_weight (lists_of (reading limits n last (before_next b l.body) ls)) ≤ lexemes_weight ls
      → lists_weight (lists_of (judged_by o b l (reading limits n last (before_next b l.body) ls))) ≤ lexemes_weight (l ∷ ls)
  by_fault (Some why) r = let e = cuts_weigh (Bad (record { kind = why; offset = l.offset })) b.names in omega (arith, e)
  by_fault None r =
      let rest = reading limits n last (before_next b l.body) ls in
      let i = items_weigh b l.offset l.body (lists_of rest) in
      let c = sum_by-cons (λ (l : Lexeme). body_weight l.body) l ls in
      let a = ap (λ (f : Future). lists_weight f) (with_items_append (items_of b l.offset l.body) rest.items rest.rest) in
      omega (arith, r, i, c, a)

-- Lexemes take their bytes.

decided : (first : Bool) (bytes : List ℕ) (body : Body) → judged first bytes ≡ Ok body → form bytes ≢ Undecided
unfolding judged
decided first bytes body h u = by_tests (is_utf8 bytes) (list_all is_char (chars bytes)) (form bytes) u h where
  by_tests : (v c : Bool) (f : Form) → f ≡ Undecided → cond (not v) (Err kind.BadUtf8) (cond (not c) (Err kind.BadChar) (by_form first f bytes)) ≡ Ok body → ⊥
  by_tests false c f e k = absurd cc
  by_tests true false f e k = absurd cc
  by_tests true true f e k = let clash : Err kind.BadMarkup ≡ Ok body = ap (λ g. by_form first g bytes) (sym e) ∙ k in absurd cc

after_over : (r : Reader) (l : Lexeme) → (after r (step.Lexeme l)).over ≡ r.over
unfolding after
after_over r l = refl

after_unread : (r : Reader) (l : Lexeme) → (after r (step.Lexeme l)).unread ≡ drop (reader.size r) r.unread
unfolding after
after_unread r l = refl

-- what stands in a part, and what is behind it
part_of : (xs : List ℕ) (within mark len : ℕ) → length (take len (drop mark (take within xs))) + length (drop (mark + len) xs) ≤ length xs
part_of xs within mark len =
    let a = length-take len (drop mark (take within xs)) in
    let b = length-drop mark (take within xs) in
    let c = length-take within xs in
    let d = length-drop (mark + len) xs in
    least (length (take len (drop mark (take within xs)))) (length (drop (mark + len) xs)) (length xs) within mark len a b c d
  where
    least : (got left all within mark len : ℕ) → got ≡ min len (length (drop mark (take within xs))) → length (drop mark (take within xs)) ≡ length (take within xs) - mark → length (take within xs) ≡ min within (length xs)
        → left ≡ length xs - (mark + len) → got + left ≤ length xs
    least got left all within mark len a b c d =
        let l1 = min-le_left len (length (drop mark (take within xs))) in
        let l2 = min-le_right len (length (drop mark (take within xs))) in
        let l3 = min-le_right within (length xs) in
        omega (arith, a, b, c, d, l1, l2, l3)

lexeme_short : (r : Reader) (l : Lexeme) → r.over ≡ None → due r ≡ step.Lexeme l → body_weight l.body + length (after r (step.Lexeme l)).unread ≤ length r.unread
lexeme_short r l fresh h =
    let s = lexeme-shape r l fresh h in
    let shape = take s.0 (coming r) in
    let more = drop s.0 (coming r) in
    let made = made_of r.limits (r.offset == 0) shape (place r) l (sym (due-fresh r fresh ∙ ap (at_shape_or_rest r) s.1) ∙ h) in
    let size : length shape ≡ s.0 = omega (arith, length-take s.0 (coming r), (whole-within (is_last r) (coming r) s.0 s.1).1) in
    let whole : shape_len (is_last r) (shape ++ more) ≡ Some (length shape) = ap (shape_len (is_last r)) (take-append-drop s.0 (coming r)) ∙ (s.1 ∙ ap (λ n. Some n) (sym size)) in
    let spells = lexemes-spelled (r.offset == 0) l.body shape (shape_len-alone (is_last r) shape more (decided (r.offset == 0) shape l.body made.1) whole) made.1 in
    let short = body_short (r.offset == 0) l.body shape spells in
    let part = part_of r.unread (r.limits.input - r.offset) (mark_len r) s.0 in
    let takes : reader.size r ≡ mark_len r + s.0 = ap (λ o. mark_len r + unwrap_or o 0) s.1 in
    let left = ap (λ (bs : List ℕ). length bs) (after_unread r l ∙ ap (λ n. drop n r.unread) takes) in
    omega (arith, short, part, left)

lexed_short : (n : ℕ) (r : Reader) → r.over ≡ None → lexemes_weight (lexed_within n r).lexemes ≤ length r.unread
lexed_short zero r e = omega arith
lexed_short (suc n) r e = by_step (due r) refl (λ l. lexed_short n (after r (step.Lexeme l)) (after_over r l ∙ e)) where
  by_step : (s : Step) → due r ≡ s → ((l : Lexeme) → lexemes_weight (lexed_within n (after r (step.Lexeme l))).lexemes ≤ length (after r (step.Lexeme l)).unread)
      → lexemes_weight (answered s (λ l. lexed_within n (after r (step.Lexeme l)))).lexemes ≤ length r.unread
  by_step (step.Lexeme l) k h =
      let a = h l in
      let b = lexeme_short r l e k in
      let c = sum_by-cons (λ (l : Lexeme). body_weight l.body) l (lexed_within n (after r (step.Lexeme l))).lexemes in
      omega (arith, a, b, c)
  by_step step.Need k h = omega arith
  by_step step.End k h = omega arith
  by_step (step.Bad fault) k h = omega arith
  by_step step.Memory k h = omega arith

readied_weighs : (f : Forest) → weight (readied f) ≡ weight f
readied_weighs (End m offset) = refl
readied_weighs (Cut why) = refl
readied_weighs (Single m leaf next) = ap (λ n. 1 + n) (readied_weighs next)
readied_weighs (Nested m e kids next) = let a = readied_weighs kids in let b = readied_weighs next in omega (arith, a, b)

pub document_weighs : (limits : Limits) (bytes : List ℕ) (ended : Bool) → weight (doc limits false bytes ended) ≤ length bytes
document_weighs limits bytes ended =
    let r = unread limits bytes ended in
    let lexed = lexed_from r in
    let lists = lists_of (reading limits (fed r) lexed.last at_start lexed.lexemes) in
    let a = reading_weighs limits (fed r) lexed.last at_start lexed.lexemes in
    let b = lexed_short (suc (length r.unread)) r refl in
    let c = two_lists lists in
    let d = readied_weighs (inner lists) in
    omega (arith, a, b, c, d)
