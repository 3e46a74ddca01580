-- Parts of nodes: how they are written, and the nodes that parts are.
use Rattle.std.proofs.Common.{◌≡◌, ℕ, zero, suc, Bool, true, false, List, [], ◌∷◌, ◌++◌, Some, None, map, refl, sym, ap, ◌∙◌, append_assoc, append-nil}
use Rattle.std.specs.Prelude.{if◌then◌else◌, codes, encode_utf8_all}
use Rattle.stx_base.specs.declared.name.Attr.{Attr}
use Rattle.stx_base.specs.declared.part.Part.{Part}
use Rattle.stx_base.specs.declared.part.Part.TheVariants as part
use Rattle.result_writer.specs.Escape.{escaped}
use Rattle.result_writer.specs.Laws.{IsProper, MakesProper, ReadsNodes, TextsJoin, WritesNodes}
use Rattle.result_writer.specs.Nodes.{Nodes, End, Chars, CData, Comment, Instruction, Nested, attribute_part, attrs_of, collected, expanded_tag, forest, in_one, inner, inside, is_end, lists, outer, part_before, parts_of, plain, text_before, written}
use Rattle.result_writer.specs.Tag.{dressed, end_tag, open_tag}
use Rattle.result_writer.specs.Target.{Element, Left, cdata_text, comment_text, in_force, instruction_text, nothing, settled, tag_text, text_from, with_attribute}
use Rattle.result_writer.specs.declared.escape.Context.TheVariants.{Content}
use Rattle.result_writer.specs.declared.tag.HeldTag.{HeldTag}

-- the parts of an element, and then more parts
pub nested-append : (attrs kids next rest : List Part) (p : Part) → (attrs ++ (kids ++ p ∷ next)) ++ rest ≡ attrs ++ (kids ++ p ∷ (next ++ rest))
nested-append attrs kids next rest p = append_assoc attrs (kids ++ p ∷ next) rest ∙ ap (λ l. attrs ++ l) (append_assoc kids (p ∷ next) rest)

-- How they are written

abbrev pub outside : List Element → Left
outside es = record { elements = es; held = None }

abbrev pub within : List Element → HeldTag → Left
within es tag = record { elements = es; held = Some tag }

text_from-attributes : (es : List Element) (tag : HeldTag) (attrs : List Attr) (ps : List Part) → text_from (within es tag) (map attribute_part attrs ++ ps) ≡ text_from (within es (record tag { attrs = collected tag.attrs attrs })) ps
text_from-attributes es tag [] ps = refl
text_from-attributes es tag (a ∷ attrs) ps = text_from-attributes es (record tag { attrs = with_attribute tag.attrs a.name a.value }) attrs ps

-- nodes in an element settle its tag
text_from-kids : (es : List Element) (tag : HeldTag) (kids : Nodes) (ps : List Part) → is_end kids ≡ false →
    text_from (within es tag) (parts_of kids ++ ps) ≡ tag_text es (Some tag) (codes ">") ++ text_from (outside (settled es (Some tag))) (parts_of kids ++ ps)
text_from-kids es tag End ps h = absurd cc
text_from-kids es tag (Chars text next) ps h = append_assoc (tag_text es (Some tag) (codes ">")) _ _
text_from-kids es tag (CData text next) ps h = append_assoc (tag_text es (Some tag) (codes ">")) _ _
text_from-kids es tag (Comment text next) ps h = append_assoc (tag_text es (Some tag) (codes ">")) _ _
text_from-kids es tag (Instruction target text next) ps h = append_assoc (tag_text es (Some tag) (codes ">")) _ _
text_from-kids es tag (Nested t kids next) ps h = refl

-- what is written in an element, and its end
abbrev content : List Element → HeldTag → Nodes → List ℕ
content es t kids = if is_end kids then codes "/>" else codes ">" ++ written (inside (in_force es) t) kids ++ end_tag t.name.prefix t.name.local

-- an element's tag, its kids and its end, and then what follows
element : (es : List Element) (t : HeldTag) (kids : Nodes) (ps : List Part)
    → ((qs : List Part) → text_from (outside (settled es (Some t))) (parts_of kids ++ qs) ≡ written (inside (in_force es) t) kids ++ text_from (outside (settled es (Some t))) qs)
    → text_from (within es t) (parts_of kids ++ part.End t.name ∷ ps) ≡ (open_tag t (dressed (in_force es) t) ++ content es t kids) ++ text_from (outside es) ps
element es t kids ps h = by_test (is_end kids) refl where
  alone : (k : Nodes) → is_end k ≡ true → parts_of k ≡ []
  alone End e = refl
  alone (Chars text next) e = absurd cc
  alone (CData text next) e = absurd cc
  alone (Comment text next) e = absurd cc
  alone (Instruction target text next) e = absurd cc
  alone (Nested tag k next) e = absurd cc

  by_test : (v : Bool) → is_end kids ≡ v →
      text_from (within es t) (parts_of kids ++ part.End t.name ∷ ps)
      ≡ (open_tag t (dressed (in_force es) t) ++ (if v then codes "/>" else codes ">" ++ written (inside (in_force es) t) kids ++ end_tag t.name.prefix t.name.local)) ++ text_from (outside es) ps
  by_test true e = ap (λ l. text_from (within es t) (l ++ part.End t.name ∷ ps)) (alone kids e)
  by_test false e =
      let tag = open_tag t (dressed (in_force es) t) in
      let mid = written (inside (in_force es) t) kids in
      let end = end_tag t.name.prefix t.name.local in
      let rest = text_from (outside es) ps in
      text_from-kids es t kids (part.End t.name ∷ ps) e
      ∙ ap (λ l. (tag ++ codes ">") ++ l) (h (part.End t.name ∷ ps))
      ∙ regroup tag (codes ">") mid end rest where
        regroup : (a b c d e : List ℕ) → (a ++ b) ++ (c ++ (d ++ e)) ≡ (a ++ (b ++ c ++ d)) ++ e
        regroup a b c d e = simp append_assoc

written-kids : (es : List Element) (nodes : Nodes) (ps : List Part) → text_from (outside es) (parts_of nodes ++ ps) ≡ written (in_force es) nodes ++ text_from (outside es) ps
written-kids es End ps = refl
written-kids es (Chars text next) ps = ap (λ l. escaped Content (encode_utf8_all text) ++ l) (written-kids es next ps) ∙ sym (append_assoc (escaped Content (encode_utf8_all text)) _ _)
written-kids es (CData text next) ps = ap (λ l. cdata_text text ++ l) (written-kids es next ps) ∙ sym (append_assoc (cdata_text text) _ _)
written-kids es (Comment text next) ps = ap (λ l. comment_text text ++ l) (written-kids es next ps) ∙ sym (append_assoc (comment_text text) _ _)
written-kids es (Instruction target text next) ps = ap (λ l. instruction_text target text ++ l) (written-kids es next ps) ∙ sym (append_assoc (instruction_text target text) _ _)
written-kids es (Nested tag kids next) ps =
    let t = in_one tag in
    let start : HeldTag = record { name = tag.name; scope = tag.scope; attrs = [] } in
    let all = parts_of next ++ ps in
    ap (λ l. text_from (within es start) l) (nested-append (map attribute_part tag.attrs) (parts_of kids) (parts_of next) ps (part.End tag.name))
    ∙ text_from-attributes es start tag.attrs (parts_of kids ++ part.End tag.name ∷ all)
    ∙ element es t kids all (λ qs. written-kids (settled es (Some t)) kids qs)
    ∙ ap (λ l. (open_tag t (dressed (in_force es) t) ++ content es t kids) ++ l) (written-kids es next ps)
    ∙ sym (append_assoc (open_tag t (dressed (in_force es) t) ++ content es t kids) _ _)

pub writes-nodes : WritesNodes
writes-nodes nodes =
    ap (text_from nothing) (sym (append-nil (parts_of nodes))) ∙ written-kids [] nodes [] ∙ append-nil (written [] nodes)

-- The nodes that parts are

-- the list of the n-th open element, outwards
abbrev list_at : ℕ → List Nodes → Nodes
list_at zero f = inner f
list_at (suc n) f = list_at n (outer f)

abbrev AreSame : List Nodes → List Nodes → Type 0
AreSame f g = (n : ℕ) → list_at n f ≡ list_at n g

same_start : (make : Nodes → Nodes → Nodes) (f g : List Nodes) → AreSame f g → AreSame (make (inner f) (inner (outer f)) ∷ outer (outer f)) (make (inner g) (inner (outer g)) ∷ outer (outer g))
same_start make f g h zero = ap (λ x. make x (inner (outer f))) (h 0) ∙ ap (make (inner g)) (h 1)
same_start make f g h (suc n) = h (suc (suc n))

same_first : (make : Nodes → Nodes) (f g : List Nodes) → AreSame f g → AreSame (make (inner f) ∷ outer f) (make (inner g) ∷ outer g)
same_first make f g h zero = ap make (h 0)
same_first make f g h (suc n) = h (suc n)

same_end : (x : Nodes) (f g : List Nodes) → AreSame f g → AreSame (x ∷ f) (x ∷ g)
same_end x f g h zero = refl
same_end x f g h (suc n) = h n

same_before : (p : Part) (attrs : List Attr) (f g : List Nodes) → AreSame f g → AreSame (part_before p attrs f) (part_before p attrs g)
same_before (part.Start name scope) attrs f g h = same_start (Nested (expanded_tag (in_one (record { name = name; scope = scope; attrs = attrs })))) f g h
same_before (part.Attribute name value) attrs f g h = h
same_before (part.End name) attrs f g h = same_end End f g h
same_before (part.Chars text) attrs f g h = same_first (text_before text) f g h
same_before (part.CData text) attrs f g h = same_first (CData text) f g h
same_before (part.Comment text) attrs f g h = same_first (Comment text) f g h
same_before (part.Pi target text) attrs f g h = same_first (Instruction target text) f g h

-- behind the same parts, what has the same attributes and the same lists stays the same
same_attrs : (ps xs ys : List Part) → attrs_of xs ≡ attrs_of ys → attrs_of (ps ++ xs) ≡ attrs_of (ps ++ ys)
same_attrs [] xs ys h = h
same_attrs (part.Attribute name value ∷ ps) xs ys h = ap (λ l. record { name = name; value = value } ∷ l) (same_attrs ps xs ys h)
same_attrs (part.Start name scope ∷ ps) xs ys h = refl
same_attrs (part.End name ∷ ps) xs ys h = refl
same_attrs (part.Chars text ∷ ps) xs ys h = refl
same_attrs (part.CData text ∷ ps) xs ys h = refl
same_attrs (part.Comment text ∷ ps) xs ys h = refl
same_attrs (part.Pi target text ∷ ps) xs ys h = refl

same_lists : (ps xs ys : List Part) → attrs_of xs ≡ attrs_of ys → AreSame (lists xs) (lists ys) → AreSame (lists (ps ++ xs)) (lists (ps ++ ys))
same_lists [] xs ys a h = h
same_lists (p ∷ ps) xs ys a h = λ n.
    same_before p (attrs_of (ps ++ xs)) (lists (ps ++ xs)) (lists (ps ++ ys)) (same_lists ps xs ys a h) n
    ∙ ap (λ l. list_at n (part_before p l (lists (ps ++ ys)))) (same_attrs ps xs ys a)

text-twice : (a b : List ℕ) (x : Nodes) → text_before a (text_before b x) ≡ text_before (a ++ b) x
text-twice [] b x = refl
text-twice (c ∷ cs) [] x = ap (λ l. text_before (c ∷ l) x) (sym (append-nil cs))
text-twice (c ∷ cs) (d ∷ ds) End = refl
text-twice (c ∷ cs) (d ∷ ds) (Chars more next) = ap (λ l. Chars (c ∷ l) next) (sym (append_assoc cs (d ∷ ds) more))
text-twice (c ∷ cs) (d ∷ ds) (CData text next) = refl
text-twice (c ∷ cs) (d ∷ ds) (Comment text next) = refl
text-twice (c ∷ cs) (d ∷ ds) (Instruction target text next) = refl
text-twice (c ∷ cs) (d ∷ ds) (Nested tag kids next) = refl

join_first : (a b : List ℕ) (f : List Nodes) → AreSame (text_before a (text_before b (inner f)) ∷ outer f) (text_before (a ++ b) (inner f) ∷ outer f)
join_first a b f zero = text-twice a b (inner f)
join_first a b f (suc n) = refl

pub texts-join : TextsJoin
texts-join ps qs a b = same_lists ps (part.Chars a ∷ part.Chars b ∷ qs) (part.Chars (a ++ b) ∷ qs) refl (join_first a b (lists qs)) 0

-- Nodes of parts of nodes

-- nodes before a list of nodes
abbrev before : Nodes → Nodes → Nodes
before End x = x
before (Chars text next) x = text_before text (before next x)
before (CData text next) x = CData text (before next x)
before (Comment text next) x = Comment text (before next x)
before (Instruction target text next) x = Instruction target text (before next x)
before (Nested tag kids next) x = Nested (expanded_tag (in_one tag)) (before kids End) (before next x)

before-end : (nodes : Nodes) → before nodes End ≡ plain nodes
before-end End = refl
before-end (Chars text next) = ap (text_before text) (before-end next)
before-end (CData text next) = ap (CData text) (before-end next)
before-end (Comment text next) = ap (Comment text) (before-end next)
before-end (Instruction target text next) = ap (Instruction target text) (before-end next)
before-end (Nested tag kids next) =
    ap (λ x. Nested (expanded_tag (in_one tag)) x (before next End)) (before-end kids) ∙ ap (Nested (expanded_tag (in_one tag)) (plain kids)) (before-end next)

attrs_of-kids : (kids : Nodes) (p : Part) (ps : List Part) → attrs_of (p ∷ ps) ≡ [] → attrs_of (parts_of kids ++ p ∷ ps) ≡ []
attrs_of-kids End p ps h = h
attrs_of-kids (Chars text next) p ps h = refl
attrs_of-kids (CData text next) p ps h = refl
attrs_of-kids (Comment text next) p ps h = refl
attrs_of-kids (Instruction target text next) p ps h = refl
attrs_of-kids (Nested tag kids next) p ps h = refl

attrs_of-attributes : (attrs : List Attr) (ps : List Part) → attrs_of ps ≡ [] → attrs_of (map attribute_part attrs ++ ps) ≡ attrs
attrs_of-attributes [] ps h = h
attrs_of-attributes (a ∷ attrs) ps h = ap (λ l. a ∷ l) (attrs_of-attributes attrs ps h)

lists-attributes : (attrs : List Attr) (ps : List Part) → lists (map attribute_part attrs ++ ps) ≡ lists ps
lists-attributes [] ps = refl
lists-attributes (a ∷ attrs) ps = lists-attributes attrs ps

first_only : (f : List Nodes) → AreSame f (inner f ∷ outer f)
first_only f zero = refl
first_only f (suc n) = refl

lists-nodes : (nodes : Nodes) (ps : List Part) → AreSame (lists (parts_of nodes ++ ps)) (before nodes (inner (lists ps)) ∷ outer (lists ps))
lists-nodes End ps = first_only (lists ps)
lists-nodes (Chars text next) ps = same_first (text_before text) (lists (parts_of next ++ ps)) (before next (inner (lists ps)) ∷ outer (lists ps)) (lists-nodes next ps)
lists-nodes (CData text next) ps = same_first (CData text) (lists (parts_of next ++ ps)) (before next (inner (lists ps)) ∷ outer (lists ps)) (lists-nodes next ps)
lists-nodes (Comment text next) ps = same_first (Comment text) (lists (parts_of next ++ ps)) (before next (inner (lists ps)) ∷ outer (lists ps)) (lists-nodes next ps)
lists-nodes (Instruction target text next) ps = same_first (Instruction target text) (lists (parts_of next ++ ps)) (before next (inner (lists ps)) ∷ outer (lists ps)) (lists-nodes next ps)
lists-nodes (Nested tag kids next) ps = λ n.
    ap (λ l. list_at n (lists (part.Start tag.name tag.scope ∷ l))) (nested-append (map attribute_part tag.attrs) (parts_of kids) (parts_of next) ps (part.End tag.name))
    ∙ ap (λ l. list_at n (part_before (part.Start tag.name tag.scope) l (lists (map attribute_part tag.attrs ++ inside_and_behind)))) (attrs_of-attributes tag.attrs inside_and_behind (attrs_of-kids kids (part.End tag.name) (parts_of next ++ ps) refl))
    ∙ ap (λ f. list_at n (part_before (part.Start tag.name tag.scope) tag.attrs f)) (lists-attributes tag.attrs inside_and_behind)
    ∙ same_start (Nested (expanded_tag (in_one tag))) (lists inside_and_behind) (before kids End ∷ before next (inner (lists ps)) ∷ outer (lists ps))
    (λ k. lists-nodes kids (part.End tag.name ∷ (parts_of next ++ ps)) k ∙ same_end (before kids End) (lists (parts_of next ++ ps)) (before next (inner (lists ps)) ∷ outer (lists ps)) (lists-nodes next ps) k) n where
      inside_and_behind : List Part
      inside_and_behind = parts_of kids ++ part.End tag.name ∷ (parts_of next ++ ps)

pub reads-nodes : ReadsNodes
reads-nodes nodes =
    ap forest (sym (append-nil (parts_of nodes))) ∙ lists-nodes nodes [] 0 ∙ before-end nodes

-- Proper nodes

text_proper : (text : List ℕ) (x : Nodes) → IsProper x → IsProper (text_before text x)
text_proper [] x h = h
text_proper (c ∷ cs) End h = (λ e. absurd cc, tt, h)
text_proper (c ∷ cs) (Chars more next) h = (λ e. absurd cc, h.1, h.2)
text_proper (c ∷ cs) (CData text next) h = (λ e. absurd cc, tt, h)
text_proper (c ∷ cs) (Comment text next) h = (λ e. absurd cc, tt, h)
text_proper (c ∷ cs) (Instruction target text next) h = (λ e. absurd cc, tt, h)
text_proper (c ∷ cs) (Nested tag kids next) h = (λ e. absurd cc, tt, h)

abbrev AreProper : List Nodes → Type 0
AreProper [] = Unit {0}
AreProper (x ∷ f) = IsProper x × AreProper f

inner_proper : (f : List Nodes) → AreProper f → IsProper (inner f)
inner_proper [] h = tt
inner_proper (x ∷ f) h = h.0

outer_proper : (f : List Nodes) → AreProper f → AreProper (outer f)
outer_proper [] h = tt
outer_proper (x ∷ f) h = h.1

before_proper : (p : Part) (attrs : List Attr) (f : List Nodes) → AreProper f → AreProper (part_before p attrs f)
before_proper (part.Start name scope) attrs f h =
    let g = outer_proper f h in
    ((inner_proper f h, inner_proper (outer f) g), outer_proper (outer f) g)
before_proper (part.Attribute name value) attrs f h = h
before_proper (part.End name) attrs f h = (tt, h)
before_proper (part.Chars text) attrs f h = (text_proper text (inner f) (inner_proper f h), outer_proper f h)
before_proper (part.CData text) attrs f h = (inner_proper f h, outer_proper f h)
before_proper (part.Comment text) attrs f h = (inner_proper f h, outer_proper f h)
before_proper (part.Pi target text) attrs f h = (inner_proper f h, outer_proper f h)

lists_proper : (ps : List Part) → AreProper (lists ps)
lists_proper [] = tt
lists_proper (p ∷ ps) = before_proper p (attrs_of ps) (lists ps) (lists_proper ps)

pub makes-proper : MakesProper
makes-proper ps = inner_proper (lists ps) (lists_proper ps)
