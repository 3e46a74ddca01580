-- The buffers of a sheet that is given begin with whole content.
use Rattle.std.proofs.Common.{◌≡◌, ℕ, suc, ◌+◌, ◌<◌, ◌≤◌, Bool, true, false, ◌&&◌, nat_lt, List, [], ◌∷◌, ◌++◌, Option, Some, None, length, map, slice_get, refl, ap, sym, ◌∙◌, arith, lt-ltb, if◌then◌else◌}
use Rattle.std.proofs.Math.Path.{subst}
use Rattle.std.proofs.lemmas.Grind.{flat_map-append}
use Rattle.std.proofs.lemmas.List.{length-append}
use Rattle.std.proofs.lemmas.List.Elements.{All-append, All-cons, All-nil}
use Rattle.std.proofs.lemmas.Slice.Eq.{bytes_eq-Decides}
use Rattle.std.specs.List.{All, list_all}
use Rattle.std.specs.Prelude.{is_some}
use Rattle.stx_base.specs.declared.name.Attr.{Attr}
use Rattle.stx_base.specs.declared.name.Binding.{Binding}
use Rattle.stx_base.specs.declared.name.Name.{Name}
use Rattle.stx_base.specs.declared.part.Part.{Part}
use Rattle.stx_base.specs.declared.part.Part.TheVariants as part
use Rattle.result_writer.specs.Allowed.{are_chars, is_good_attribute, is_good_name}
use Rattle.result_writer.specs.Target.{Left, added, attribute_fault, chars_fault, closed, depth, end_fault, end_of, fault, first_fault, innermost, is_closed, left_by, next, same_name, settled, start_fault, unless, with_attribute, in_force}
use Rattle.result_writer.specs.Target as target
use Rattle.result_writer.specs.Tag.{dressed}
use Rattle.result_writer.specs.declared.fault.ResultFault.{ResultFault}
use Rattle.result_writer.specs.declared.fault.ResultFault.TheVariants.{BadChar, BadName, LateAttribute, ResultDepth, UnclosedResult, WrongEnd}
use Rattle.result_writer.specs.declared.tag.HeldTag.{HeldTag}
use Rattle.sheet_model.specs.Sound.{BuffersAreWhole, IsCDataText, IsContent}
use Rattle.sheet_model.specs.declared.sheet.Buffer.{Buffer}
use Rattle.sheet_model.specs.declared.sheet.Sheet.{Sheet}
use Rattle.xml_events.specs.Tree.{CData, Chars, Comment, Forest, Leaf, Pi}
use Rattle.sheet_loader.proofs.Bodies.{all_if}
use Rattle.sheet_loader.proofs.Came.{Came, CameWhole, Says, are_parts, at_end, copied_items, copies, includes, makes, passes, referring, speaks, writes}
use Rattle.sheet_loader.proofs.FoundValues.{faultless}
use Rattle.sheet_loader.specs.Elements as element
use Rattle.sheet_loader.specs.Elements.{Inside, Kind, Parts, inside_of, is_allowed, is_buffer, is_own, makes_group}
use Rattle.sheet_loader.specs.Judging.{is_declared_here, scope_at, values}
use Rattle.sheet_loader.specs.Making.{Values, behind, item, last_of, parts, parts_of_item}
use Rattle.sheet_loader.specs.Read.{begun, buffer_at, element_parts, ended, has_select, listed, made, text_item, with_group, with_root}
use Rattle.sheet_loader.specs.Reading.{A_part, Context, File, Item, Listed, Loading, place}
use Rattle.sheet_loader.specs.Sounding.{IsGood, is_good_attr, is_good_text}
use Rattle.sheet_loader.specs.Values.{Reads}

two : (a b : Bool) → (a && b) ≡ true → (a ≡ true) × (b ≡ true)
two true b h = (refl, h)
two false b h = absurd cc

-- what is settled of what parts leave
abbrev settle : Left → List target.Element
settle l = settled l.elements l.held

abbrev deep : Left → ℕ
deep l = depth l.elements l.held

deep_is : (es : List target.Element) (held : Option HeldTag) → depth es held ≡ length (settled es held)
deep_is es None = refl
deep_is es (Some tag) = omega arith

left_append : (l : Left) (ps qs : List Part) → left_by l (ps ++ qs) ≡ left_by (left_by l ps) qs
left_append l [] qs = refl
left_append l (p ∷ ps) qs = left_append (next l p) ps qs

or_none : (a b : Option ResultFault) → a ≡ None → b ≡ None → target.or_else a b ≡ None
or_none None b h k = k
or_none (Some f) b h k = absurd cc

faults_append : (limit : ℕ) (l : Left) (ps qs : List Part) → first_fault limit l ps ≡ None → first_fault limit (left_by l ps) qs ≡ None → first_fault limit l (ps ++ qs) ≡ None
faults_append limit l [] qs h k = k
faults_append limit l (p ∷ ps) qs h k = by (fault limit l p) refl h (λ e. faults_append limit (next l p) ps qs e k) where
  by : (o : Option ResultFault) → fault limit l p ≡ o → target.or_else o (first_fault limit (next l p) ps) ≡ None → (first_fault limit (next l p) ps ≡ None → first_fault limit (next l p) (ps ++ qs) ≡ None)
      → target.or_else o (first_fault limit (next l p) (ps ++ qs)) ≡ None
  by None e g rest = rest g
  by (Some f) e g rest = absurd cc

-- Parts that leave what was open before, in whatever target they stand that has room for them.
record Fits (ps : List Part) : Type 0 where
  goes : (limit : ℕ) (l : Left) → deep l + length ps ≤ limit → first_fault limit l ps ≡ None
  same : (l : Left) → settle (left_by l ps) ≡ settle l
  plain : All IsCDataText ps

none_fits : Fits []
none_fits = record { goes = λ limit l h. refl; same = λ l. refl; plain = All-nil IsCDataText }

same_deep : (l m : Left) → settle l ≡ settle m → deep l ≡ deep m
same_deep l m e = deep_is l.elements l.held ∙ ap (λ (es : List target.Element). length es) e ∙ sym (deep_is m.elements m.held)

fits_append : (ps qs : List Part) → Fits ps → Fits qs → Fits (ps ++ qs)
fits_append ps qs h k =
    let n = length-append ps qs in
    record {
      goes = λ limit l r.
          let d = same_deep (left_by l ps) l (h.same l) in
          faults_append limit l ps qs (h.goes limit l (omega (arith, r, n))) (k.goes limit (left_by l ps) (omega (arith, r, n, d)));
      same = λ l. ap settle (left_append l ps qs) ∙ k.same (left_by l ps) ∙ h.same l;
      plain = All-append IsCDataText ps qs h.plain k.plain;
    }

unless_so : (t : Bool) (f : ResultFault) (o : Option ResultFault) → t ≡ true → o ≡ None → unless t f o ≡ None
unless_so true f o h k = k
unless_so false f o h k = absurd cc

chars_fit : (text : List ℕ) → are_chars text ≡ true → Fits (part.Chars text ∷ [])
chars_fit text h = record {
  goes = λ limit l r. or_none (chars_fault text) None (unless_so (are_chars text) BadChar None h refl) refl;
  same = λ l. refl;
  plain = All-cons IsCDataText (part.Chars text) [] tt (All-nil IsCDataText);
}

-- An element with its attributes.

same_itself : (n : Name) → same_name n n ≡ true
same_itself n = both ((bytes_eq-Decides n.uri n.uri).1 refl) ((bytes_eq-Decides n.local n.local).1 refl) where
  both : {a b : Bool} → a ≡ true → b ≡ true → (a && b) ≡ true
  both {a} {b} h k = ap (λ t. t && b) h ∙ k

-- the attributes of a start tag
abbrev attr_parts : List Attr → List Part
attr_parts attrs = map (λ (a : Attr). part.Attribute a.name a.value) attrs

record Tagged (l : Left) (es : List target.Element) (name : Name) : Type 0 where
  elements : l.elements ≡ es
  tag : HeldTag
  held : l.held ≡ Some tag
  named : tag.name ≡ name

attr_next : (l : Left) (es : List target.Element) (name : Name) (a : Attr) → Tagged l es name → Tagged (next l (part.Attribute a.name a.value)) es name
attr_next l es name a t = record {
  elements = t.elements;
  tag = record t.tag { attrs = with_attribute t.tag.attrs a.name a.value };
  held = ap (λ h. added h a.name a.value) t.held;
  named = t.named;
}

attrs_go : (limit : ℕ) (l : Left) (es : List target.Element) (name : Name) (attrs : List Attr) → list_all is_good_attr attrs ≡ true → Tagged l es name
    → (first_fault limit l (attr_parts attrs) ≡ None) × Tagged (left_by l (attr_parts attrs)) es name
attrs_go limit l es name [] h t = (refl, t)
attrs_go limit l es name (a ∷ attrs) h t =
    let b = two (is_good_attr a) (list_all is_good_attr attrs) h in
    let c = two (is_good_attribute a.name) (are_chars a.value) b.0 in
    let r = attrs_go limit (next l (part.Attribute a.name a.value)) es name attrs b.1 (attr_next l es name a t) in
    let held : is_some l.held ≡ true = ap (λ (o : Option HeldTag). is_some o) t.held in (
      or_none (attribute_fault l a.name a.value) (first_fault limit (next l (part.Attribute a.name a.value)) (attr_parts attrs))
          (unless_so (is_good_attribute a.name) BadName (unless (are_chars a.value) BadChar (unless (is_some l.held) LateAttribute None)) c.0
          (unless_so (are_chars a.value) BadChar (unless (is_some l.held) LateAttribute None) c.1 (unless_so (is_some l.held) LateAttribute None held refl))) r.0,
      r.1,
    )

attrs_plain : (attrs : List Attr) → All IsCDataText (attr_parts attrs)
attrs_plain [] = All-nil IsCDataText
attrs_plain (a ∷ attrs) = All-cons IsCDataText (part.Attribute a.name a.value) (attr_parts attrs) tt (attrs_plain attrs)

settled_tag : (l : Left) (es : List target.Element) (name : Name) → Tagged l es name → (top : target.Element) × (settle l ≡ top ∷ es) × (top.name ≡ name)
settled_tag l es name t =
    let e : settled l.elements l.held ≡ settled es (Some t.tag) = ap (λ x. settled x l.held) t.elements ∙ ap (settled es) t.held in
    (record { name = t.tag.name; declared = (dressed (in_force es) t.tag).declared }, e, t.named)

-- the end of the innermost element
end_goes : (es : List target.Element) (held : Option HeldTag) (top : target.Element) (outer : List target.Element) (name : Name) → settled es held ≡ top ∷ outer → top.name ≡ name → is_good_name name ≡ true
    → (unless (is_good_name name) BadName (end_of (innermost es held) name) ≡ None) × (closed es held ≡ outer)
end_goes es (Some tag) top outer name e n g =
    let t : tag.name ≡ top.name = cc in
    let o : es ≡ outer = cc in
    (unless_so (is_good_name name) BadName (end_of (Some tag.name) name) g (unless_so (same_name tag.name name) WrongEnd None (ap (λ m. same_name m name) (t ∙ n) ∙ same_itself name) refl), o)
end_goes [] None top outer name e n g = absurd cc
end_goes (x ∷ es) None top outer name e n g =
    let t : x.name ≡ top.name = ap (λ (y : target.Element). y.name) (let q : x ≡ top = cc in q) in
    let o : es ≡ outer = cc in
    (unless_so (is_good_name name) BadName (end_of (Some x.name) name) g (unless_so (same_name x.name name) WrongEnd None (ap (λ m. same_name m name) (t ∙ n) ∙ same_itself name) refl), o)

element_fits : (name : Name) (attrs : List Attr) (inner : List Part) → is_good_name name ≡ true → list_all is_good_attr attrs ≡ true → Fits inner
    → Fits (part.Start name [] ∷ (attr_parts attrs ++ inner ++ part.End name ∷ []))
element_fits name attrs inner g a h = record {
  goes = λ limit l r.
      let l1 = next l (part.Start name []) in
      let k = attrs_go limit l1 (settle l) name attrs a (tagged l) in
      let l2 = left_by l1 (attr_parts attrs) in
      let l3 = left_by l2 inner in
      let s = settled_tag l2 (settle l) name k.1 in
      let n1 = length-append (attr_parts attrs) inner in
      let n2 = length-append (attr_parts attrs ++ inner) (part.End name ∷ []) in
      let d0 = deep_is l.elements l.held in
      let d2 = deep_is l2.elements l2.held in
      let d3 : length (settle l2) ≡ suc (length (settle l)) = ap (λ (es : List target.Element). length es) s.1 in
      let room : deep l2 + length inner ≤ limit = omega (arith, r, n1, n2, d0, d2, d3) in
      let less : deep l < limit = omega (arith, r, n1, n2) in
      let middle = faults_append limit l1 (attr_parts attrs) inner k.0 (h.goes limit l2 room) in
      let e = end_goes l3.elements l3.held s.0 (settle l) name (h.same l2 ∙ s.1) s.2 g in
      let last : first_fault limit (left_by l1 (attr_parts attrs ++ inner)) (part.End name ∷ []) ≡ None =
      subst (λ m. first_fault limit m (part.End name ∷ []) ≡ None) (sym (left_append l1 (attr_parts attrs) inner)) (or_none (end_fault l3 name) None e.0 refl) in
      or_none (start_fault limit l name) (first_fault limit l1 (attr_parts attrs ++ inner ++ part.End name ∷ []))
      (unless_so (is_good_name name) BadName (unless (nat_lt (deep l) limit) ResultDepth None) g (unless_so (nat_lt (deep l) limit) ResultDepth None (lt-ltb (deep l) limit less) refl))
      (faults_append limit l1 (attr_parts attrs ++ inner) (part.End name ∷ []) middle last);
  same = λ l.
      let l1 = next l (part.Start name []) in
      let k = (attrs_go 0 l1 (settle l) name attrs a (tagged l)).1 in
      let l2 = left_by l1 (attr_parts attrs) in
      let l3 = left_by l2 inner in
      let s = settled_tag l2 (settle l) name k in
      let e = end_goes l3.elements l3.held s.0 (settle l) name (h.same l2 ∙ s.1) s.2 g in
      ap settle (left_append l1 (attr_parts attrs ++ inner) (part.End name ∷ []) ∙ ap (λ m. left_by m (part.End name ∷ [])) (left_append l1 (attr_parts attrs) inner)) ∙ e.1;
  plain =
      All-cons IsCDataText (part.Start name []) (attr_parts attrs ++ inner ++ part.End name ∷ []) tt
      (All-append IsCDataText (attr_parts attrs ++ inner) (part.End name ∷ []) (All-append IsCDataText (attr_parts attrs) inner (attrs_plain attrs) h.plain)
      (All-cons IsCDataText (part.End name) [] tt (All-nil IsCDataText)));
} where
  tagged : (l : Left) → Tagged (next l (part.Start name [])) (settle l) name
  tagged l = record { elements = refl; tag = record { name = name; scope = []; attrs = [] }; held = refl; named = refl }

none_open : (es : List target.Element) (held : Option HeldTag) → settled es held ≡ [] → is_closed es held ≡ true
none_open es (Some tag) h = absurd cc
none_open [] None h = refl
none_open (e ∷ es) None h = absurd cc

fits_content : (ps : List Part) → Fits ps → IsContent ps
fits_content ps h =
    let l = left_by target.nothing ps in
    let c = none_open l.elements l.held (h.same target.nothing) in (
      or_none (first_fault (length ps) target.nothing ps) (if is_closed l.elements l.held then None else Some UnclosedResult) (h.goes (length ps) target.nothing (omega arith))
          (ap (λ b. if b then None else Some UnclosedResult) c),
      h.plain,
    )

-- Lists of a buffer.

parts_back : (ps : List Part) → parts (map A_part ps) ≡ ps
parts_back [] = refl
parts_back (p ∷ ps) = ap (λ l. p ∷ l) (parts_back ps)

parts_more : (before xs : List Item) → Fits (parts before) → Fits (parts xs) → Fits (parts (before ++ xs))
parts_more before xs h k = subst Fits (sym (flat_map-append parts_of_item before xs)) (fits_append (parts before) (parts xs) h k)

abbrev BuffersFit : Sheet → Type 0
BuffersFit s = All (λ (b : Buffer). IsContent b.content) s.buffers

begun_fit : (here : Context) (at : ℕ) (kind : Kind) (v : Values) (l : Loading) → BuffersFit l.sheet → BuffersFit (begun here at kind v l).sheet
begun_fit here at kind v l h = by (is_own here.inside) (makes_group kind) where
  by : (b c : Bool) → BuffersFit (if b then with_root here at v l else if c then with_group here at v l else l).sheet
  by true c = h
  by false true = h
  by false false = h

buffer_list : (around : Inside) (kind : Kind) (has : Bool) → is_buffer kind ≡ true → inside_of around kind has ≡ Parts
buffer_list around element.Buffer has h = refl
buffer_list around kind has h = absurd cc

made_fit : (here : Context) (at : ℕ) (kind : Kind) (scope : List Binding) (v : Values) (r : Listed) → BuffersFit r.loading.sheet → (is_buffer kind ≡ true → Fits (parts r.items)) → BuffersFit (made here at kind scope v r).loading.sheet
made_fit here at kind scope v r h k = by (is_declared_here here.inside) where
  by : (b : Bool) → BuffersFit (if b then listed [] (ended here at kind v r) else listed (item kind here.group (place here at) scope v r.items) r.loading).loading.sheet
  by true = all_if (λ (b : Buffer). IsContent b.content) (is_buffer kind) (buffer_at here at v r.items) r.loading.sheet.buffers (λ y. fits_content (parts r.items) (k y)) h
  by false = h

said_good : (leaf : Leaf) (said : List ℕ) → Says leaf said → is_good_text leaf ≡ true → are_chars said ≡ true
said_good (Chars offset text) said s g = ap are_chars s ∙ g
said_good (CData offset text) said s g = ap are_chars s ∙ g
said_good (Comment offset text) said s g = absurd s
said_good (Pi offset target text) said s g = absurd s

-- in each file that is there names and characters are good
abbrev pub AllGood : List (Option File) → Type 0
AllGood files = (n : ℕ) (file : File) → slice_get files n ≡ Some (Some file) → IsGood file.nodes

module _ (reads : Reads) (files : List (Option File)) (all : AllGood files) where
  -- no element of the language stands among parts
  no_kind : (here : Context) (before : List Item) (kind : Kind) → here.inside ≡ Parts → is_allowed (behind here.inside before) (last_of before) kind ≡ true → ⊥
  no_kind here before kind i a = absurd (let x : false ≡ true = sym (ap (λ list. is_allowed (behind list before) (last_of before) kind) i) ∙ a in cc)

  came_fit : {here : Context} {before : List Item} {list : Forest} {l : Loading} {r : Listed} → Came reads files here before list l r
      → IsGood list → BuffersFit l.sheet → (here.inside ≡ Parts → Fits (parts before)) → BuffersFit r.loading.sheet × (here.inside ≡ Parts → Fits (parts r.items))
  came_fit (at_end here before mark offset l) g h k = (h, k)
  came_fit (passes here before mark leaf next l r c) g h k = came_fit c g.1 h k
  came_fit (speaks here before mark leaf offset said next l r s a c) g h k =
      came_fit c g.1 h (λ i. parts_more before (text_item reads files here offset said here.inside) (k i)
      (subst (λ list. Fits (parts (text_item reads files here offset said list))) (sym i) (chars_fit said (said_good leaf said s g.0))))
  came_fit (makes here before stage e kids next l kind inner r f i c q n) g h k =
      let v = values reads here kind e in
      let fl = faultless reads here before l.sheet e kind f in
      let o = came_fit c g.1 (begun_fit here e.offset kind v (referring reads files here before e kind l) h) (λ p. none_fits) in
      let m = made_fit here e.offset kind (scope_at here e) v inner o.0 (λ y. o.1 (buffer_list here.inside kind (has_select v) y)) in
      came_fit n g.2 m (λ p. absurd (no_kind here before kind p fl.allowed))
  came_fit (includes here before stage e kids next l kind file m inner r f i w b c q n) g h k =
      let v = values reads here kind e in
      let fl = faultless reads here before l.sheet e kind f in
      let y = came_fit b (all _ file w) (begun_fit here e.offset kind v (referring reads files here before e kind l) h) (λ p. none_fits) in
      let o = came_fit c g.1 y.0 (λ p. none_fits) in
      let z = made_fit here e.offset kind (scope_at here e) v inner o.0 (λ y. o.1 (buffer_list here.inside kind (has_select v) y)) in
      came_fit n g.2 z (λ p. absurd (no_kind here before kind p fl.allowed))
  came_fit (writes here before stage e kids next l inner r a p q c n) g h k =
      let o = came_fit c g.1 h (λ i. none_fits) in
      came_fit n g.2 o.0 (λ i. absurd (let x : true ≡ false = sym (ap are_parts i) ∙ p in cc))
  came_fit (copies here before stage e kids next l inner r i c n) g h k =
      let o = came_fit c g.1 h (λ j. none_fits) in
      let b = two (is_good_name e.name) (list_all is_good_attr e.attrs) g.0 in
      came_fit n g.2 o.0 (λ j. parts_more before (copied_items reads files e inner.items) (k j)
      (subst Fits (sym (parts_back (element_parts reads files e (parts inner.items)))) (element_fits e.name e.attrs (parts inner.items) b.0 b.1 (o.1 i))))

pub whole_fit : (reads : Reads) (name : List ℕ) (file : File) (others : List (Option File)) (r : Listed) → AllGood (Some file ∷ others) → CameWhole reads (Some file ∷ others) name file r → BuffersAreWhole r.loading.sheet
whole_fit reads name file others r all c =
    (came_fit reads (Some file ∷ others) all c.0 (all 0 file refl) (All-nil (λ (b : Buffer). IsContent b.content)) (λ i. none_fits)).0
