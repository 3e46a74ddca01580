-- The faults of the parts of nodes are those of the nodes.
use Rattle.std.proofs.Common.{◌≡◌, ℕ, suc, ◌+◌, Bool, true, false, List, [], ◌∷◌, ◌++◌, Option, Some, None, length, map, refl, sym, ap, ◌∙◌, append-nil, arith}
use Rattle.std.specs.Prelude.{if◌then◌else◌, nat_lt}
use Rattle.std.proofs.lemmas.Bool.{and_from}
use Rattle.std.proofs.lemmas.Slice.Eq.{bytes_eq-Decides}
use Rattle.stx_base.specs.declared.name.Attr.{Attr}
use Rattle.stx_base.specs.declared.name.Name.{Name}
use Rattle.stx_base.specs.declared.part.Part.{Part}
use Rattle.stx_base.specs.declared.part.Part.TheVariants as part
use Rattle.result_writer.specs.Allowed.{is_good_name, same}
use Rattle.result_writer.specs.Laws.{JudgesNodes}
use Rattle.result_writer.specs.Nodes.{Nodes, End, Chars, CData, Comment, Instruction, Nested, attribute_part, attributes_fault, collected, in_one, is_end, nodes_fault, parts_of}
use Rattle.result_writer.specs.Target.{Element, Left, chars_fault, comment_fault, end_of, fault, first_fault, instruction_fault, is_closed, left_by, nothing, or_else, same_name, settled, unless, with_attribute}
use Rattle.result_writer.specs.declared.fault.ResultFault.{ResultFault}
use Rattle.result_writer.specs.declared.fault.ResultFault.TheVariants.{BadName, ResultDepth, UnclosedResult, WrongEnd}
use Rattle.result_writer.specs.declared.tag.HeldTag.{HeldTag}
use Rattle.result_writer.proofs.Trees.{nested-append, outside, within}

abbrev Fault : Type 0
Fault = Option ResultFault

or-assoc : (a b c : Fault) → or_else (or_else a b) c ≡ or_else a (or_else b c)
or-assoc None b c = refl
or-assoc (Some f) b c = refl

pub or-none : (a : Fault) → or_else a None ≡ a
or-none None = refl
or-none (Some f) = refl

same_name-self : (n : Name) → same_name n n ≡ true
same_name-self n = and_from (same n.uri n.uri) (same n.local n.local) ((bytes_eq-Decides n.uri n.uri).1 refl) ((bytes_eq-Decides n.local n.local).1 refl)

-- an end of the innermost element has no fault that its start doesn't have
ended : (good : Bool) (n : Name) (rest a k next : Fault) →
    or_else (unless good BadName rest) (or_else a (or_else k (or_else (unless good BadName (end_of (Some n) n)) next)))
    ≡ or_else (unless good BadName rest) (or_else a (or_else k next))
ended false n rest a k next = refl
ended true n rest a k next =
    ap (λ v. or_else rest (or_else a (or_else k (or_else (unless v WrongEnd None) next)))) (same_name-self n)

pub attributes : (limit : ℕ) (es : List Element) (tag : HeldTag) (attrs : List Attr) (ps : List Part) →
    first_fault limit (within es tag) (map attribute_part attrs ++ ps)
    ≡ or_else (attributes_fault attrs) (first_fault limit (within es (record tag { attrs = collected tag.attrs attrs })) ps)
attributes limit es tag [] ps = refl
attributes limit es tag (a ∷ attrs) ps =
    ap (or_else (fault limit (within es tag) (attribute_part a))) (attributes limit es (record tag { attrs = with_attribute tag.attrs a.name a.value }) attrs ps)
    ∙ sym (or-assoc (fault limit (within es tag) (attribute_part a)) (attributes_fault attrs) _)

-- nodes in an element are judged as behind its tag
kids_first : (limit : ℕ) (es : List Element) (tag : HeldTag) (kids : Nodes) (ps : List Part) → is_end kids ≡ false →
    first_fault limit (within es tag) (parts_of kids ++ ps) ≡ first_fault limit (outside (settled es (Some tag))) (parts_of kids ++ ps)
kids_first limit es tag End ps h = absurd cc
kids_first limit es tag (Chars text next) ps h = refl
kids_first limit es tag (CData text next) ps h = refl
kids_first limit es tag (Comment text next) ps h = refl
kids_first limit es tag (Instruction target text next) ps h = refl
kids_first limit es tag (Nested t kids next) ps h =
    let n : length es + 1 ≡ suc (length es) = omega arith in
    ap (λ d. or_else (unless (is_good_name t.name) BadName (unless (nat_lt d limit) ResultDepth None))
    (first_fault limit (within (settled es (Some tag)) (record { name = t.name; scope = t.scope; attrs = [] })) ((map attribute_part t.attrs ++ (parts_of kids ++ part.End t.name ∷ parts_of next)) ++ ps))) n

-- what is in an element, and its end
element : (limit : ℕ) (es : List Element) (t : HeldTag) (kids : Nodes) (ps : List Part)
    → ((qs : List Part) → first_fault limit (outside (settled es (Some t))) (parts_of kids ++ qs) ≡ or_else (nodes_fault limit (suc (length es)) kids) (first_fault limit (outside (settled es (Some t))) qs))
    → first_fault limit (within es t) (parts_of kids ++ part.End t.name ∷ ps)
    ≡ or_else (nodes_fault limit (suc (length es)) kids) (or_else (unless (is_good_name t.name) BadName (end_of (Some t.name) t.name)) (first_fault limit (outside es) ps))
element limit es t End ps h = refl
element limit es t (Chars text next) ps h = h (part.End t.name ∷ ps)
element limit es t (CData text next) ps h = h (part.End t.name ∷ ps)
element limit es t (Comment text next) ps h = h (part.End t.name ∷ ps)
element limit es t (Instruction target text next) ps h = h (part.End t.name ∷ ps)
element limit es t (Nested tag kids next) ps h = kids_first limit es t (Nested tag kids next) (part.End t.name ∷ ps) refl ∙ h (part.End t.name ∷ ps)

judged : (limit : ℕ) (es : List Element) (nodes : Nodes) (ps : List Part) →
    first_fault limit (outside es) (parts_of nodes ++ ps) ≡ or_else (nodes_fault limit (length es) nodes) (first_fault limit (outside es) ps)
judged limit es End ps = refl
judged limit es (Chars text next) ps = ap (or_else (chars_fault text)) (judged limit es next ps) ∙ sym (or-assoc (chars_fault text) _ _)
judged limit es (CData text next) ps = judged limit es next ps
judged limit es (Comment text next) ps = ap (or_else (comment_fault text)) (judged limit es next ps) ∙ sym (or-assoc (comment_fault text) _ _)
judged limit es (Instruction target text next) ps = ap (or_else (instruction_fault target text)) (judged limit es next ps) ∙ sym (or-assoc (instruction_fault target text) _ _)
judged limit es (Nested tag kids next) ps =
    let t = in_one tag in
    let start : HeldTag = record { name = tag.name; scope = tag.scope; attrs = [] } in
    let rest = unless (nat_lt (length es) limit) ResultDepth None in
    let first = unless (is_good_name tag.name) BadName rest in
    let all = parts_of next ++ ps in
    let inner = nodes_fault limit (suc (length es)) kids in
    let behind = nodes_fault limit (length es) next in
    let more = first_fault limit (outside es) ps in
    ap (λ l. or_else first (first_fault limit (within es start) l)) (nested-append (map attribute_part tag.attrs) (parts_of kids) (parts_of next) ps (part.End tag.name))
    ∙ ap (or_else first) (attributes limit es start tag.attrs (parts_of kids ++ part.End tag.name ∷ all)
    ∙ ap (or_else (attributes_fault tag.attrs)) (element limit es t kids all (λ qs. judged limit (settled es (Some t)) kids qs)))
    ∙ ended (is_good_name tag.name) tag.name rest (attributes_fault tag.attrs) inner (first_fault limit (outside es) all)
    ∙ ap (λ x. or_else first (or_else (attributes_fault tag.attrs) (or_else inner x))) (judged limit es next ps)
    ∙ sym (or-assoc first (or_else (attributes_fault tag.attrs) (or_else inner behind)) more
    ∙ ap (or_else first) (or-assoc (attributes_fault tag.attrs) (or_else inner behind) more
    ∙ ap (or_else (attributes_fault tag.attrs)) (or-assoc inner behind more)))

-- nodes leave nothing open
pub attributes-left : (es : List Element) (tag : HeldTag) (attrs : List Attr) (ps : List Part) →
    left_by (within es tag) (map attribute_part attrs ++ ps) ≡ left_by (within es (record tag { attrs = collected tag.attrs attrs })) ps
attributes-left es tag [] ps = refl
attributes-left es tag (a ∷ attrs) ps = attributes-left es (record tag { attrs = with_attribute tag.attrs a.name a.value }) attrs ps

element-left : (es : List Element) (t : HeldTag) (kids : Nodes) (ps : List Part)
    → ((qs : List Part) → left_by (outside (settled es (Some t))) (parts_of kids ++ qs) ≡ left_by (outside (settled es (Some t))) qs)
    → left_by (within es t) (parts_of kids ++ part.End t.name ∷ ps) ≡ left_by (outside es) ps
element-left es t End ps h = refl
element-left es t (Chars text next) ps h = h (part.End t.name ∷ ps)
element-left es t (CData text next) ps h = h (part.End t.name ∷ ps)
element-left es t (Comment text next) ps h = h (part.End t.name ∷ ps)
element-left es t (Instruction target text next) ps h = h (part.End t.name ∷ ps)
element-left es t (Nested tag kids next) ps h = h (part.End t.name ∷ ps)

nodes-left : (es : List Element) (nodes : Nodes) (ps : List Part) → left_by (outside es) (parts_of nodes ++ ps) ≡ left_by (outside es) ps
nodes-left es End ps = refl
nodes-left es (Chars text next) ps = nodes-left es next ps
nodes-left es (CData text next) ps = nodes-left es next ps
nodes-left es (Comment text next) ps = nodes-left es next ps
nodes-left es (Instruction target text next) ps = nodes-left es next ps
nodes-left es (Nested tag kids next) ps =
    let t = in_one tag in
    let start : HeldTag = record { name = tag.name; scope = tag.scope; attrs = [] } in
    let all = parts_of next ++ ps in
    ap (left_by (within es start)) (nested-append (map attribute_part tag.attrs) (parts_of kids) (parts_of next) ps (part.End tag.name))
    ∙ attributes-left es start tag.attrs (parts_of kids ++ part.End tag.name ∷ all)
    ∙ element-left es t kids all (λ qs. nodes-left (settled es (Some t)) kids qs)
    ∙ nodes-left es next ps

pub judges-nodes : JudgesNodes
judges-nodes limit nodes =
    let ps = parts_of nodes in
    let left : left_by nothing ps ≡ nothing = ap (left_by nothing) (sym (append-nil ps)) ∙ nodes-left [] nodes [] in
    let first : first_fault limit nothing ps ≡ nodes_fault limit 0 nodes =
    ap (first_fault limit nothing) (sym (append-nil ps)) ∙ judged limit [] nodes [] ∙ or-none (nodes_fault limit 0 nodes) in
    ap (λ (l : Left). or_else (first_fault limit nothing ps) (if is_closed l.elements l.held then None else Some UnclosedResult)) left
    ∙ or-none (first_fault limit nothing ps) ∙ first
