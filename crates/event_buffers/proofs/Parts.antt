-- What is kept of parts, as their nodes.
use Rattle.std.proofs.Common.{◌≡◌, ℕ, Bool, true, false, List, [], ◌∷◌, ◌++◌, Option, Some, None, length, map, refl, sym, ap, ◌∙◌, append_assoc, append-nil}
use Rattle.std.specs.Prelude.{if◌then◌else◌, is_some}
use Rattle.std.specs.Option.{option_map, option_to_list}
use Rattle.stx_base.specs.declared.name.Attr.{Attr}
use Rattle.stx_base.specs.declared.name.Binding.{Binding}
use Rattle.stx_base.specs.declared.name.Name.{Name}
use Rattle.stx_base.specs.declared.part.Part.{Part}
use Rattle.stx_base.specs.declared.part.Part.TheVariants as part
use Rattle.result_writer.specs.Allowed.{are_chars, is_good_attribute, is_good_name}
use Rattle.result_writer.specs.Nodes as nodes
use Rattle.result_writer.specs.Nodes.{Nodes, attrs_of, collected, expanded_attr, expanded_tag}
use Rattle.result_writer.specs.Table.{prefixes, with_element, with_name}
use Rattle.result_writer.specs.Opened.{settled_tag}
use Rattle.result_writer.specs.Tag.{dressed}
use Rattle.result_writer.specs.Target as target
use Rattle.result_writer.specs.Target.{Element, Left, Target, behind, closed, end_of, fault, first_fault, in_force, innermost, is_closed, left_by, next, nothing, or_else, settled, unless}
use Rattle.result_writer.specs.declared.fault.ResultFault.{ResultFault}
use Rattle.result_writer.specs.declared.fault.ResultFault.TheVariants.{BadChar, BadName, LateAttribute, UnclosedResult, UnmatchedEnd}
use Rattle.result_writer.specs.declared.opened.SettledTag.{SettledTag}
use Rattle.result_writer.specs.declared.tag.HeldTag.{HeldTag}
use Rattle.xml_events.specs.Tree as tree
use Rattle.xml_events.specs.Tree.{Fresh, Waiting, Forest, Cut, Single, Nested, Future}
use Rattle.event_buffers.specs.Forest.{element_of, inner, is_balanced, kept_before, lists, outer, plain}
use Rattle.event_buffers.specs.Forest as forest
use Rattle.event_buffers.specs.Kept.{added, kept_from, kept_of}
use Rattle.event_buffers.specs.Laws.{KeptIsWhatWasPut, PutIsKept}
use Rattle.event_buffers.specs.Layer.{Writing, all_put}
use Rattle.event_buffers.specs.Told.{prefixed}
use Rattle.event_buffers.specs.declared.kept.Kept.{Kept}
use Rattle.event_buffers.specs.declared.kept.Kept.TheVariants as kept

-- Parts put into a copy.

put_from : (b : Bool) (ks : List Kept) (t : Target) (ps : List Part)
    → (all_put ps (record { declared = b; kept = ks; state = Writing t })).kept ≡ ks ++ kept_from t.left ps
put_from b ks t [] = sym (append-nil ks)
put_from b ks t (p ∷ ps) = put_from b (ks ++ added t.left p) (behind t p) ps ∙ append_assoc ks (added t.left p) (kept_from (next t.left p) ps)

pub put_is_kept : PutIsKept
put_is_kept elements ps c = put_from _ [] _ ps

-- Nodes without prefixes.

plain_inner : (f : Future) → plain (inner f) ≡ nodes.inner (map plain f)
plain_inner [] = refl
plain_inner (x ∷ f) = refl

plain_outer : (f : Future) → map plain (outer f) ≡ nodes.outer (map plain f)
plain_outer [] = refl
plain_outer (x ∷ f) = refl

plain_text : (text : List ℕ) (x : Forest) → plain (forest.text_before text x) ≡ nodes.text_before text (plain x)
plain_text [] x = refl
plain_text (c ∷ cs) (tree.End mark offset) = refl
plain_text (c ∷ cs) (Cut why) = refl
plain_text (c ∷ cs) (Single mark (tree.Chars offset text) next) = refl
plain_text (c ∷ cs) (Single mark (tree.CData offset text) next) = refl
plain_text (c ∷ cs) (Single mark (tree.Comment offset text) next) = refl
plain_text (c ∷ cs) (Single mark (tree.Pi offset target text) next) = refl
plain_text (c ∷ cs) (Nested stage e kids next) = refl

-- the attributes that are written have the names that were put
written : (table : List Binding) (attrs : List Attr) → map expanded_attr (prefixed (prefixes table attrs) attrs) ≡ map expanded_attr attrs
written table [] = refl
written table (a ∷ attrs) = ap (λ l. expanded_attr a ∷ l) (written (with_name table a.name) attrs)

-- a tag around nodes
abbrev around : HeldTag → List Nodes → List Nodes
around tag f = nodes.Nested (expanded_tag tag) (nodes.inner f) (nodes.inner (nodes.outer f)) ∷ nodes.outer (nodes.outer f)

-- a tag that is held back, behind which these attributes are still to come
abbrev opened : Option HeldTag → List Attr → List Nodes → List Nodes
opened None attrs f = f
opened (Some tag) attrs f = around (record tag { attrs = collected tag.attrs attrs }) f

around_same : (tag other : HeldTag) → expanded_tag tag ≡ expanded_tag other → (f : List Nodes) → around tag f ≡ around other f
around_same tag other e f = ap (λ t. nodes.Nested t (nodes.inner f) (nodes.inner (nodes.outer f)) ∷ nodes.outer (nodes.outer f)) e

plain_start : (tag : SettledTag) (scope : List Binding) (f : Future)
    → map plain (kept_before (kept.Start tag) f) ≡ around (record { name = tag.name; scope = scope; attrs = tag.attrs }) (map plain f)
plain_start tag scope f =
    ap (λ a. nodes.Nested (record { name = nodes.expanded_name tag.name; scope = []; attrs = a }) (plain (inner f)) (plain (inner (outer f))) ∷ map plain (outer (outer f)))
    (written (with_element tag.name) tag.attrs)
    ∙ ap (λ k. nodes.Nested t k (plain (inner (outer f))) ∷ map plain (outer (outer f))) (plain_inner f)
    ∙ ap (λ k. nodes.Nested t (nodes.inner (map plain f)) k ∷ map plain (outer (outer f))) (plain_inner (outer f) ∙ ap nodes.inner (plain_outer f))
    ∙ ap (λ k. nodes.Nested t (nodes.inner (map plain f)) (nodes.inner (nodes.outer (map plain f))) ∷ k) (plain_outer (outer f) ∙ ap nodes.outer (plain_outer f))
  where
    t : HeldTag
    t = expanded_tag (record { name = tag.name; scope = []; attrs = tag.attrs })

plain_list : (g : Forest → Forest) (h : Nodes → Nodes) → ((x : Forest) → plain (g x) ≡ h (plain x)) → (f : Future) (n : List Nodes) → map plain f ≡ n
    → map plain (g (inner f) ∷ outer f) ≡ h (nodes.inner n) ∷ nodes.outer n
plain_list g h e f n same =
    ap (λ k. k ∷ map plain (outer f)) (e (inner f) ∙ ap h (plain_inner f ∙ ap nodes.inner same))
    ∙ ap (λ k. h (nodes.inner n) ∷ k) (plain_outer f ∙ ap nodes.outer same)

-- The tag that a part settles.

abbrev tag_list : List Element → Option HeldTag → List Kept
tag_list elements held = option_to_list (option_map kept.Start (settled_tag elements held))

behind_tag : (elements : List Element) (held : Option HeldTag) (ks : List Kept) (n : List Nodes) → map plain (lists ks) ≡ n
    → map plain (lists (tag_list elements held ++ ks)) ≡ opened held [] n
behind_tag elements None ks n h = h
behind_tag elements (Some tag) ks n h =
    plain_start (record { name = tag.name; attrs = tag.attrs; declared = (dressed (in_force elements) tag).declared }) tag.scope (lists ks) ∙ ap (around tag) h

with_leaf : (elements : List Element) (held : Option HeldTag) (k : Kept) (ks : List Kept) (n : List Nodes) → map plain (lists (k ∷ ks)) ≡ n
    → map plain (lists ((tag_list elements held ++ k ∷ []) ++ ks)) ≡ opened held [] n
with_leaf elements held k ks n h = ap (λ l. map plain (lists l)) (append_assoc (tag_list elements held) (k ∷ []) ks) ∙ behind_tag elements held (k ∷ ks) n h

-- Faults.

first_none : (a b : Option ResultFault) → or_else a b ≡ None → a ≡ None
first_none None b h = refl
first_none (Some f) b h = absurd cc

rest_none : (a b : Option ResultFault) → or_else a b ≡ None → b ≡ None
rest_none None b h = h
rest_none (Some f) b h = absurd cc

holds : (good chars some : Bool) → unless good BadName (unless chars BadChar (unless some LateAttribute None)) ≡ None → some ≡ true
holds true true true h = refl
holds true true false h = absurd cc
holds true false some h = absurd cc
holds false chars some h = absurd cc

unmatched : (good : Bool) → unless good BadName (Some UnmatchedEnd) ≡ None → ⊥
unmatched true h = cc
unmatched false h = cc

-- Nodes.

attribute_opened : (held : Option HeldTag) (name : Name) (value : List ℕ) (attrs : List Attr) (n : List Nodes) → is_some held ≡ true
    → opened (target.added held name value) attrs n ≡ opened held (record { name = name; value = value } ∷ attrs) n
attribute_opened None name value attrs n h = absurd cc
attribute_opened (Some tag) name value attrs n h = refl

ended : (elements : List Element) (held : Option HeldTag) → is_closed elements held ≡ true → map plain (lists []) ≡ opened held [] []
ended elements None h = refl
ended elements (Some tag) h = absurd cc

abbrev IsWhole : (limit : ℕ) → Left → List Part → Type 0
IsWhole limit l ps = (first_fault limit l ps ≡ None) × (is_closed (left_by l ps).elements (left_by l ps).held ≡ true)

later : (limit : ℕ) (l : Left) (p : Part) (ps : List Part) → IsWhole limit l (p ∷ ps) → IsWhole limit (next l p) ps
later limit l p ps w = (rest_none (fault limit l p) _ w.0, w.1)

shown : (limit : ℕ) (l : Left) (ps : List Part) → IsWhole limit l ps → map plain (lists (kept_from l ps)) ≡ opened l.held (attrs_of ps) (nodes.lists ps)
shown limit l [] w = ended l.elements l.held w.1
shown limit l (part.Start name scope ∷ ps) w =
    let l' = next l (part.Start name scope) in
    ap (λ ks. map plain (lists (ks ++ kept_from l' ps))) (append-nil (tag_list l.elements l.held))
    ∙ behind_tag l.elements l.held (kept_from l' ps) _ (shown limit l' ps (later limit l (part.Start name scope) ps w))
shown limit l (part.Attribute name value ∷ ps) w =
    shown limit (next l (part.Attribute name value)) ps (later limit l (part.Attribute name value) ps w)
    ∙ attribute_opened l.held name value (attrs_of ps) (nodes.lists ps)
    (holds (is_good_attribute name) (are_chars value) (is_some l.held) (first_none (fault limit l (part.Attribute name value)) _ w.0))
shown limit l (part.End name ∷ ps) w =
    let l' = next l (part.End name) in
    with_leaf l.elements l.held kept.End (kept_from l' ps) _ (ap (λ n. nodes.End ∷ n) (shown limit l' ps (later limit l (part.End name) ps w)))
shown limit l (part.Chars text ∷ ps) w =
    let l' = next l (part.Chars text) in
    with_leaf l.elements l.held (kept.Chars text) (kept_from l' ps) _
    (plain_list (forest.text_before text) (nodes.text_before text) (plain_text text) (lists (kept_from l' ps)) (nodes.lists ps) (shown limit l' ps (later limit l (part.Chars text) ps w)))
shown limit l (part.CData text ∷ ps) w =
    let l' = next l (part.CData text) in
    with_leaf l.elements l.held (kept.CData text) (kept_from l' ps) _
    (plain_list (λ x. Single Fresh (tree.CData 0 text) x) (λ n. nodes.CData text n) (λ x. refl) (lists (kept_from l' ps)) (nodes.lists ps) (shown limit l' ps (later limit l (part.CData text) ps w)))
shown limit l (part.Comment text ∷ ps) w =
    let l' = next l (part.Comment text) in
    with_leaf l.elements l.held (kept.Comment text) (kept_from l' ps) _
    (plain_list (λ x. Single Fresh (tree.Comment 0 text) x) (λ n. nodes.Comment text n) (λ x. refl) (lists (kept_from l' ps)) (nodes.lists ps) (shown limit l' ps (later limit l (part.Comment text) ps w)))
shown limit l (part.Pi target text ∷ ps) w =
    let l' = next l (part.Pi target text) in
    with_leaf l.elements l.held (kept.Pi target text) (kept_from l' ps) _
    (plain_list (λ x. Single Fresh (tree.Pi 0 target text) x) (λ n. nodes.Instruction target text n) (λ x. refl) (lists (kept_from l' ps)) (nodes.lists ps) (shown limit l' ps (later limit l (part.Pi target text) ps w)))

-- Ends.

tag_balanced : (elements : List Element) (held : Option HeldTag) (ks : List Kept) → is_balanced ks (length (settled elements held)) ≡ true
    → is_balanced ((tag_list elements held ++ []) ++ ks) (length elements) ≡ true
tag_balanced elements None ks h = h
tag_balanced elements (Some tag) ks h = h

leaf_balanced : (elements : List Element) (held : Option HeldTag) (k : Kept) (ks : List Kept) → is_balanced (k ∷ ks) (length (settled elements held)) ≡ true
    → is_balanced ((tag_list elements held ++ k ∷ []) ++ ks) (length elements) ≡ true
leaf_balanced elements None k ks h = h
leaf_balanced elements (Some tag) k ks h = h

end_balanced : (elements : List Element) (held : Option HeldTag) (name : Name) (ks : List Kept) → unless (is_good_name name) BadName (end_of (innermost elements held) name) ≡ None
    → is_balanced ks (length (closed elements held)) ≡ true → is_balanced ((tag_list elements held ++ kept.End ∷ []) ++ ks) (length elements) ≡ true
end_balanced elements (Some tag) name ks none h = h
end_balanced [] None name ks none h = absurd (unmatched (is_good_name name) none)
end_balanced (e ∷ outer) None name ks none h = h

all_ended : (elements : List Element) (held : Option HeldTag) → is_closed elements held ≡ true → is_balanced [] (length elements) ≡ true
all_ended [] None h = refl
all_ended (e ∷ outer) None h = absurd cc
all_ended elements (Some tag) h = absurd cc

balanced : (limit : ℕ) (l : Left) (ps : List Part) → IsWhole limit l ps → is_balanced (kept_from l ps) (length l.elements) ≡ true
balanced limit l [] w = all_ended l.elements l.held w.1
balanced limit l (part.Start name scope ∷ ps) w =
    let p = part.Start name scope in tag_balanced l.elements l.held (kept_from (next l p) ps) (balanced limit (next l p) ps (later limit l p ps w))
balanced limit l (part.Attribute name value ∷ ps) w =
    let p = part.Attribute name value in balanced limit (next l p) ps (later limit l p ps w)
balanced limit l (part.End name ∷ ps) w =
    let p = part.End name in
    end_balanced l.elements l.held name (kept_from (next l p) ps) (first_none (fault limit l p) _ w.0) (balanced limit (next l p) ps (later limit l p ps w))
balanced limit l (part.Chars text ∷ ps) w =
    let p = part.Chars text in leaf_balanced l.elements l.held (kept.Chars text) (kept_from (next l p) ps) (balanced limit (next l p) ps (later limit l p ps w))
balanced limit l (part.CData text ∷ ps) w =
    let p = part.CData text in leaf_balanced l.elements l.held (kept.CData text) (kept_from (next l p) ps) (balanced limit (next l p) ps (later limit l p ps w))
balanced limit l (part.Comment text ∷ ps) w =
    let p = part.Comment text in leaf_balanced l.elements l.held (kept.Comment text) (kept_from (next l p) ps) (balanced limit (next l p) ps (later limit l p ps w))
balanced limit l (part.Pi target text ∷ ps) w =
    let p = part.Pi target text in leaf_balanced l.elements l.held (kept.Pi target text) (kept_from (next l p) ps) (balanced limit (next l p) ps (later limit l p ps w))

is_shut : (closed : Bool) → (if closed then None else Some UnclosedResult) ≡ None → closed ≡ true
is_shut true h = refl
is_shut false h = absurd cc

pub kept_is_what_was_put : KeptIsWhatWasPut
kept_is_what_was_put limit ps h =
    let l = left_by nothing ps in
    let w : IsWhole limit nothing ps = (first_none (first_fault limit nothing ps) _ h, is_shut (is_closed l.elements l.held) (rest_none (first_fault limit nothing ps) _ h)) in
    (plain_inner (lists (kept_of ps)) ∙ ap nodes.inner (shown limit nothing ps w), balanced limit nothing ps w)
