-- Parts that are accepted as a whole are those of nodes.
use Rattle.std.proofs.Common.{◌≡◌, ℕ, Bool, true, false, List, [], ◌∷◌, ◌++◌, Option, Some, None, map, refl, sym, ap, ◌∙◌, append_assoc}
use Rattle.std.specs.Prelude.{if◌then◌else◌, is_some}
use Rattle.std.proofs.lemmas.Bool.{and_parts}
use Rattle.std.proofs.lemmas.Slice.Eq.{bytes_eq-Decides}
use Rattle.stx_base.specs.declared.name.Attr.{Attr}
use Rattle.stx_base.specs.declared.name.Binding.{Binding}
use Rattle.stx_base.specs.declared.name.Name.{Name}
use Rattle.stx_base.specs.declared.part.Part.{Part}
use Rattle.stx_base.specs.declared.part.Part.TheVariants as part
use Rattle.result_writer.specs.Allowed.{are_chars, is_good_attribute, is_good_name, same}
use Rattle.result_writer.specs.Laws.{AcceptsNodes}
use Rattle.result_writer.specs.Nodes.{Nodes, End, Chars, CData, Comment, Instruction, Nested, attribute_part, parts_of, unprefixed}
use Rattle.result_writer.specs.Target.{Element, Left, added, closed, end_of, fault, first_fault, innermost, is_closed, left_by, next, nothing, or_else, same_name, settled, settles, text, text_from, unless}
use Rattle.result_writer.specs.declared.fault.ResultFault.{ResultFault}
use Rattle.result_writer.specs.declared.fault.ResultFault.TheVariants.{BadChar, BadName, LateAttribute, UnclosedResult, WrongEnd}
use Rattle.result_writer.specs.declared.tag.HeldTag.{HeldTag}
use Rattle.result_writer.proofs.Trees.{writes-nodes}

passed : (test : Bool) (f : ResultFault) (others : Option ResultFault) → unless test f others ≡ None → (test ≡ true) × (others ≡ None)
passed true f others h = (refl, h)
passed false f others h = absurd cc

neither : (o p : Option ResultFault) → or_else o p ≡ None → (o ≡ None) × (p ≡ None)
neither None p h = (refl, h)
neither (Some f) p h = absurd cc

map-append : (f : Part → Part) (xs ys : List Part) → map f (xs ++ ys) ≡ map f xs ++ map f ys
map-append f [] ys = refl
map-append f (x ∷ xs) ys = ap (λ l. f x ∷ l) (map-append f xs ys)

-- ends of one expanded name are the same without prefixes
end-same : (m n : Name) → same_name m n ≡ true → unprefixed (part.End n) ≡ unprefixed (part.End m)
end-same m n h =
    let both = and_parts (same m.uri n.uri) (same m.local n.local) h in
    let u : m.uri ≡ n.uri = (bytes_eq-Decides m.uri n.uri).0 both.0 in
    let l : m.local ≡ n.local = (bytes_eq-Decides m.local n.local).0 both.1 in
    ap (λ z. part.End (record { uri = z; local = n.local; prefix = [] })) (sym u) ∙ ap (λ z. part.End (record { uri = m.uri; local = z; prefix = [] })) (sym l)

-- nodes in the innermost of open elements, its end, and then so for the others, with the nodes of each
abbrev flatten : List Element → Nodes → List Nodes → List Part
flatten [] x rest = parts_of x
flatten (e ∷ es) x [] = parts_of x ++ part.End e.name ∷ flatten es End []
flatten (e ∷ es) x (y ∷ rest) = parts_of x ++ part.End e.name ∷ flatten es y rest

-- parts that close these elements are such
abbrev Closes : List Element → List Part → Type 0
Closes es ps = (x : Nodes) × (rest : List Nodes) × (map unprefixed ps ≡ map unprefixed (flatten es x rest))

-- and first attributes, where a tag is held back
abbrev ClosesTag : List Element → HeldTag → List Part → Type 0
ClosesTag es tag ps =
    (attrs : List Attr) × (x : Nodes) × (rest : List Nodes)
    × (map unprefixed ps ≡ map unprefixed (map attribute_part attrs ++ flatten (settled es (Some tag)) x rest))

abbrev ClosesLeft : List Element → Option HeldTag → List Part → Type 0
ClosesLeft es None ps = Closes es ps
ClosesLeft es (Some tag) ps = ClosesTag es tag ps

-- without attributes
untagged : (es : List Element) (tag : HeldTag) (ps : List Part) → Closes (settled es (Some tag)) ps → ClosesTag es tag ps
untagged es tag ps c = ([], c.0, c.1, c.2)

-- a part that stands in front of all nodes of the innermost element
abbrev PutsFirst : (Nodes → Nodes) → Part → Type 0
PutsFirst make p = (x : Nodes) → parts_of (make x) ≡ p ∷ parts_of x

leaf : (make : Nodes → Nodes) (p : Part) → PutsFirst make p → (es : List Element) (ps : List Part) → Closes es ps → Closes es (p ∷ ps)
leaf make p puts es ps c = (make c.0, c.1, ap (λ l. unprefixed p ∷ l) c.2 ∙ ap (map unprefixed) (sym (by_open es c.1))) where
  by_open : (es : List Element) (rest : List Nodes) → flatten es (make c.0) rest ≡ p ∷ flatten es c.0 rest
  by_open [] rest = puts c.0
  by_open (e ∷ es) [] = ap (λ l. l ++ part.End e.name ∷ flatten es End []) (puts c.0)
  by_open (e ∷ es) (y ∷ rest) = ap (λ l. l ++ part.End e.name ∷ flatten es y rest) (puts c.0)

-- an element in front of the others
nest : (es : List Element) (tag : HeldTag) (ps : List Part) → ClosesTag es tag ps → Closes es (part.Start tag.name tag.scope ∷ ps)
nest es tag ps c = by_rest es c.2 c.3 where
  kids : Nodes
  kids = c.1

  made : Nodes → Nodes
  made next = Nested (record { name = tag.name; scope = tag.scope; attrs = c.0 }) kids next

  attrs : List Part
  attrs = map attribute_part c.0

  start : Part
  start = part.Start tag.name tag.scope

  by_open : (es : List Element) (next : Nodes) (rest : List Nodes) → start ∷ (attrs ++ (parts_of kids ++ part.End tag.name ∷ flatten es next rest)) ≡ flatten es (made next) rest
  by_open [] next rest = refl
  by_open (e ∷ es) next [] = ap (λ l. start ∷ l) (sym (append_assoc attrs _ _ ∙ ap (λ l. attrs ++ l) (append_assoc (parts_of kids) _ _)))
  by_open (e ∷ es) next (y ∷ rest) = ap (λ l. start ∷ l) (sym (append_assoc attrs _ _ ∙ ap (λ l. attrs ++ l) (append_assoc (parts_of kids) _ _)))

  by_rest : (es : List Element) (rest : List Nodes) → map unprefixed ps ≡ map unprefixed (attrs ++ flatten (settled es (Some tag)) kids rest) → Closes es (start ∷ ps)
  by_rest es [] h = (made End, [], ap (λ l. start ∷ l) h ∙ ap (map unprefixed) (by_open es End []))
  by_rest es (y ∷ rest) h = (made y, rest, ap (λ l. start ∷ l) h ∙ ap (map unprefixed) (by_open es y rest))

-- the end of the innermost element
close : (e : Element) (es : List Element) (name : Name) (ps : List Part) → same_name e.name name ≡ true → Closes es ps → Closes (e ∷ es) (part.End name ∷ ps)
close e es name ps h c = (End, c.0 ∷ c.1, ap (λ p. p ∷ map unprefixed ps) (end-same e.name name h) ∙ ap (λ l. unprefixed (part.End e.name) ∷ l) c.2)

abbrev ClosesAt : Left → List Part → Type 0
ClosesAt l ps = ClosesLeft l.elements l.held ps

-- a part that settles the tag and stands in front of all nodes
leaf_step : (make : Nodes → Nodes) (p : Part) → PutsFirst make p → (es : List Element) (held : Option HeldTag) (ps : List Part) → Closes (settled es held) ps → ClosesLeft es held (p ∷ ps)
leaf_step make p puts es None ps c = leaf make p puts es ps c
leaf_step make p puts es (Some tag) ps c = untagged es tag (p ∷ ps) (leaf make p puts (settled es (Some tag)) ps c)

start_step : (name : Name) (scope : List Binding) (es : List Element) (held : Option HeldTag) (ps : List Part)
    → ClosesTag (settled es held) (record { name = name; scope = scope; attrs = [] }) ps → ClosesLeft es held (part.Start name scope ∷ ps)
start_step name scope es None ps c = nest es (record { name = name; scope = scope; attrs = [] }) ps c
start_step name scope es (Some tag) ps c =
    untagged es tag (part.Start name scope ∷ ps) (nest (settled es (Some tag)) (record { name = name; scope = scope; attrs = [] }) ps c)

attribute_step : (name : Name) (value : List ℕ) (es : List Element) (held : Option HeldTag) (ps : List Part)
    → is_some held ≡ true → ClosesLeft es (added held name value) ps → ClosesLeft es held (part.Attribute name value ∷ ps)
attribute_step name value es None ps h c = absurd cc
attribute_step name value es (Some tag) ps h c =
    (record { name = name; value = value } ∷ c.0, c.1, c.2, ap (λ l. part.Attribute name value ∷ l) c.3)

end_step : (name : Name) (es : List Element) (held : Option HeldTag) (ps : List Part)
    → end_of (innermost es held) name ≡ None → Closes (closed es held) ps → ClosesLeft es held (part.End name ∷ ps)
end_step name [] None ps h c = absurd cc
end_step name (e ∷ es) None ps h c = close e es name ps (passed (same_name e.name name) WrongEnd None h).0 c
end_step name es (Some tag) ps h c =
    untagged es tag (part.End name ∷ ps) (End, c.0 ∷ c.1, ap (λ p. p ∷ map unprefixed ps) (end-same tag.name name (passed (same_name tag.name name) WrongEnd None h).0) ∙ ap (λ l. unprefixed (part.End tag.name) ∷ l) c.2)

step : (limit : ℕ) (l : Left) (p : Part) (ps : List Part) → fault limit l p ≡ None → ClosesAt (next l p) ps → ClosesAt l (p ∷ ps)
step limit l (part.Start name scope) ps h c = start_step name scope l.elements l.held ps c
step limit l (part.Attribute name value) ps h c =
    attribute_step name value l.elements l.held ps
    (passed (is_some l.held) LateAttribute None (passed (are_chars value) BadChar _ (passed (is_good_attribute name) BadName _ h).1).1).0 c
step limit l (part.End name) ps h c = end_step name l.elements l.held ps (passed (is_good_name name) BadName _ h).1 c
step limit l (part.Chars text) ps h c = leaf_step (Chars text) (part.Chars text) (λ x. refl) l.elements l.held ps c
step limit l (part.CData text) ps h c = leaf_step (CData text) (part.CData text) (λ x. refl) l.elements l.held ps c
step limit l (part.Comment text) ps h c = leaf_step (Comment text) (part.Comment text) (λ x. refl) l.elements l.held ps c
step limit l (part.Pi target text) ps h c = leaf_step (Instruction target text) (part.Pi target text) (λ x. refl) l.elements l.held ps c

none_left : (es : List Element) (held : Option HeldTag) → is_closed es held ≡ true → ClosesLeft es held []
none_left [] None h = (End, [], refl)
none_left (e ∷ es) None h = absurd cc
none_left es (Some tag) h = absurd cc

closes : (limit : ℕ) (ps : List Part) (l : Left) → first_fault limit l ps ≡ None → is_closed (left_by l ps).elements (left_by l ps).held ≡ true → ClosesAt l ps
closes limit [] l h c = none_left l.elements l.held c
closes limit (p ∷ ps) l h c =
    let both = neither (fault limit l p) (first_fault limit (next l p) ps) h in
    step limit l p ps both.0 (closes limit ps (next l p) both.1 c)

-- The text doesn't depend on the prefixes of ends

settles-unprefixed : (l : Left) (p : Part) → settles l (unprefixed p) ≡ settles l p
settles-unprefixed l (part.Start name scope) = refl
settles-unprefixed l (part.Attribute name value) = refl
settles-unprefixed l (part.End name) = refl
settles-unprefixed l (part.Chars text) = refl
settles-unprefixed l (part.CData text) = refl
settles-unprefixed l (part.Comment text) = refl
settles-unprefixed l (part.Pi target text) = refl

next-unprefixed : (l : Left) (p : Part) → next l (unprefixed p) ≡ next l p
next-unprefixed l (part.Start name scope) = refl
next-unprefixed l (part.Attribute name value) = refl
next-unprefixed l (part.End name) = refl
next-unprefixed l (part.Chars text) = refl
next-unprefixed l (part.CData text) = refl
next-unprefixed l (part.Comment text) = refl
next-unprefixed l (part.Pi target text) = refl

text-unprefixed : (l : Left) (ps : List Part) → text_from l (map unprefixed ps) ≡ text_from l ps
text-unprefixed l [] = refl
text-unprefixed l (p ∷ ps) =
    ap (λ t. t ++ text_from (next l (unprefixed p)) (map unprefixed ps)) (settles-unprefixed l p)
    ∙ ap (λ m. settles l p ++ text_from m (map unprefixed ps)) (next-unprefixed l p)
    ∙ ap (λ t. settles l p ++ t) (text-unprefixed (next l p) ps)

closed_when : (t : Bool) → (if t then None else Some UnclosedResult) ≡ None → t ≡ true
closed_when true h = refl
closed_when false h = absurd cc

pub accepts-nodes : AcceptsNodes
accepts-nodes limit ps h =
    let l = left_by nothing ps in
    let both = neither (first_fault limit nothing ps) (if is_closed l.elements l.held then None else Some UnclosedResult) h in
    let c = closes limit ps nothing both.0 (closed_when (is_closed l.elements l.held) both.1) in
    (c.0, c.2, sym (text-unprefixed nothing ps) ∙ ap (text_from nothing) c.2 ∙ text-unprefixed nothing (parts_of c.0) ∙ writes-nodes c.0)
