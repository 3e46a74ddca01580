-- Parts that are accepted as a whole are those of nodes without a fault.
use Rattle.std.proofs.Common.{◌≡◌, ℕ, suc, ◌+◌, true, ◌&&◌, List, [], ◌∷◌, ◌++◌, Option, Some, None, length, map, refl, sym, ap, ◌∙◌, arith, append_assoc, append-nil}
use Rattle.std.specs.Prelude.{nat_lt}
use Rattle.std.specs.List.{list_all}
use Rattle.stx_base.specs.declared.name.Attr.{Attr}
use Rattle.stx_base.specs.declared.part.Part.{Part}
use Rattle.stx_base.specs.declared.part.Part.TheVariants as part
use Rattle.result_writer.specs.Allowed.{are_chars, is_good_attribute, is_good_name}
use Rattle.result_writer.specs.Laws.{AcceptsNodes, ReadsNodes}
use Rattle.result_writer.specs.Nodes.{Nodes, End, Chars, CData, Comment, Instruction, Nested, attribute_part, attributes_fault, attrs_of, forest, inner, lists, nodes_fault, part_before, parts_of, plain, unprefixed, written}
use Rattle.result_writer.specs.Target.{Element, Left, attribute_fault, chars_fault, closed, comment_fault, depth, fault, first_fault, instruction_fault, next, nothing, or_else, settled, start_fault, text, unless, whole_fault, with_attribute}
use Rattle.result_writer.specs.declared.fault.ResultFault.{ResultFault}
use Rattle.result_writer.specs.declared.fault.ResultFault.TheVariants.{BadChar, BadName, ResultDepth}
use Rattle.result_writer.specs.declared.tag.HeldTag.{HeldTag}
use Rattle.read_back.specs.Sound.{is_readable_part}
use Rattle.read_back.proofs.Accepted.{neither, passed}

-- Faults other than those of ends

abbrev open_fault : (limit : ℕ) → Left → Part → Option ResultFault
open_fault limit l (part.End name) = None
open_fault limit l p = fault limit l p

abbrev first_open : (limit : ℕ) → Left → List Part → Option ResultFault
first_open limit l [] = None
first_open limit l (p ∷ ps) = or_else (open_fault limit l p) (first_open limit (next l p) ps)

first_is : (limit : ℕ) (l : Left) (ps : List Part) → first_fault limit l ps ≡ None → first_open limit l ps ≡ None
first_is limit l [] h = refl
first_is limit l (p ∷ ps) h =
    let none = neither (fault limit l p) (first_fault limit (next l p) ps) h in
    ap (λ o. or_else o (first_open limit (next l p) ps)) (one p none.0) ∙ first_is limit (next l p) ps none.1 where
      one : (p : Part) → fault limit l p ≡ None → open_fault limit l p ≡ None
      one (part.Start name scope) e = e
      one (part.Attribute name value) e = e
      one (part.End name) e = refl
      one (part.Chars content) e = e
      one (part.CData content) e = e
      one (part.Comment content) e = e
      one (part.Pi target content) e = e

-- they don't depend on the prefixes of ends
first_unprefixed : (limit : ℕ) (l : Left) (ps : List Part) → first_open limit l (map unprefixed ps) ≡ first_open limit l ps
first_unprefixed limit l [] = refl
first_unprefixed limit l (p ∷ ps) =
    ap (or_else (open_fault limit l (unprefixed p))) (rest (λ x. first_unprefixed limit x ps) p) ∙ ap (λ o. or_else o (first_open limit (next l p) ps)) (one p) where
      one : (p : Part) → open_fault limit l (unprefixed p) ≡ open_fault limit l p
      one (part.Start name scope) = refl
      one (part.Attribute name value) = refl
      one (part.End name) = refl
      one (part.Chars content) = refl
      one (part.CData content) = refl
      one (part.Comment content) = refl
      one (part.Pi target content) = refl

      rest : ((x : Left) → first_open limit x (map unprefixed ps) ≡ first_open limit x ps) → (p : Part) → first_open limit (next l (unprefixed p)) (map unprefixed ps) ≡ first_open limit (next l p) ps
      rest again (part.Start name scope) = again (next l (part.Start name scope))
      rest again (part.Attribute name value) = again (next l (part.Attribute name value))
      rest again (part.End name) = again (next l (part.End name))
      rest again (part.Chars content) = again (next l (part.Chars content))
      rest again (part.CData content) = again (next l (part.CData content))
      rest again (part.Comment content) = again (next l (part.Comment content))
      rest again (part.Pi target content) = again (next l (part.Pi target content))

-- Nodes

depth_is : (es : List Element) (held : Option HeldTag) → depth es held ≡ length (settled es held)
depth_is es None = refl
depth_is es (Some tag) = one (length es) where
  one : (n : ℕ) → n + 1 ≡ suc n
  one n = omega arith

-- attributes of a tag that is held back
attributes_open : (limit : ℕ) (es : List Element) (tag : HeldTag) (attrs : List Attr) (rest : List Part)
    → first_open limit (record { elements = es; held = Some tag }) (map attribute_part attrs ++ rest) ≡ None
    → (attributes_fault attrs ≡ None) × ((t : HeldTag) × (first_open limit (record { elements = es; held = Some t }) rest ≡ None))
attributes_open limit es tag [] rest h = (refl, (tag, h))
attributes_open limit es tag (a ∷ attrs) rest h =
    let none = neither (attribute_fault (record { elements = es; held = Some tag }) a.name a.value) _ h in
    let good = passed (is_good_attribute a.name) BadName _ none.0 in
    let chars = (passed (are_chars a.value) BadChar _ good.1).0 in
    let later = attributes_open limit es (record tag { attrs = with_attribute tag.attrs a.name a.value }) attrs rest none.1 in (
      (λ i. or_else (unless (good.0 i) BadName (unless (chars i) BadChar None)) (attributes_fault attrs)) ∙ later.0,
      later.1,
    )

closed_is : (es : List Element) (held : Option HeldTag) (e : Element) (outer : List Element) → settled es held ≡ e ∷ outer → closed es held ≡ outer
closed_is es (Some tag) e outer h = tail _ es e outer h where
  tail : (x : Element) (xs : List Element) (y : Element) (ys : List Element) → x ∷ xs ≡ y ∷ ys → xs ≡ ys
  tail x xs y ys h = cc
closed_is [] None e outer h = absurd cc
closed_is (x ∷ xs) None e outer h = cc

-- what stands behind nodes
abbrev Behind : (limit : ℕ) → Left → List Part → Type 0
Behind limit l rest = (m : Left) × (first_open limit m rest ≡ None) × (settled m.elements m.held ≡ settled l.elements l.held)

-- what is left behind an end
after_end : (limit : ℕ) (m : Left) (es : List Element) (ps : List Part) → closed m.elements m.held ≡ es → first_open limit (record { elements = closed m.elements m.held; held = None }) ps ≡ None
    → first_open limit (record { elements = es; held = None }) ps ≡ None
after_end limit m es ps e h = ap (λ x. first_open limit (record { elements = x; held = None }) ps) (sym e) ∙ h

nested_fine : (limit n : ℕ) (tag : HeldTag) (kids more : Nodes) → is_good_name tag.name ≡ true → unless (nat_lt n limit) ResultDepth None ≡ None → attributes_fault tag.attrs ≡ None
    → nodes_fault limit (suc n) kids ≡ None → nodes_fault limit n more ≡ None → nodes_fault limit n (Nested tag kids more) ≡ None
nested_fine limit n tag kids more good room attrs inner later =
    (λ i. or_else (unless (good i) BadName (unless (nat_lt n limit) ResultDepth None)) (or_else (attributes_fault tag.attrs) (or_else (nodes_fault limit (suc n) kids) (nodes_fault limit n more))))
    ∙ (λ i. or_else (room i) (or_else (attrs i) (or_else (inner i) (later i))))

judge : (limit : ℕ) (l : Left) (nodes : Nodes) (rest : List Part) → first_open limit l (parts_of nodes ++ rest) ≡ None
    → (nodes_fault limit (length (settled l.elements l.held)) nodes ≡ None) × Behind limit l rest
judge limit l End rest h = (refl, (l, h, refl))
judge limit l (Chars content more) rest h =
    let none = neither (chars_fault content) _ h in
    let later = judge limit (next l (part.Chars content)) more rest none.1 in
    (ap (λ o. or_else o (nodes_fault limit (length (settled l.elements l.held)) more)) none.0 ∙ later.0, later.1)
judge limit l (CData content more) rest h = judge limit (next l (part.CData content)) more rest h
judge limit l (Comment content more) rest h =
    let none = neither (comment_fault content) _ h in
    let later = judge limit (next l (part.Comment content)) more rest none.1 in
    (ap (λ o. or_else o (nodes_fault limit (length (settled l.elements l.held)) more)) none.0 ∙ later.0, later.1)
judge limit l (Instruction target content more) rest h =
    let none = neither (instruction_fault target content) _ h in
    let later = judge limit (next l (part.Pi target content)) more rest none.1 in
    (ap (λ o. or_else o (nodes_fault limit (length (settled l.elements l.held)) more)) none.0 ∙ later.0, later.1)
judge limit l (Nested tag kids more) rest h =
    let es = settled l.elements l.held in
    let first = neither (start_fault limit l tag.name) _ h in
    let good = passed (is_good_name tag.name) BadName _ first.0 in
    let room : unless (nat_lt (length es) limit) ResultDepth None ≡ None = ap (λ n. unless (nat_lt n limit) ResultDepth None) (sym (depth_is l.elements l.held)) ∙ good.1 in
    let begun : HeldTag = record { name = tag.name; scope = tag.scope; attrs = [] } in
    let end = part.End tag.name in
    let tail = parts_of kids ++ end ∷ parts_of more in
    let split = append_assoc (map attribute_part tag.attrs) tail rest in
    let attrs = attributes_open limit es begun tag.attrs (tail ++ rest)
    (ap (first_open limit (record { elements = es; held = Some begun })) (sym split) ∙ first.1) in
    let full : Left = record { elements = es; held = Some attrs.1.0 } in
    let inside = judge limit full kids (end ∷ (parts_of more ++ rest)) (ap (first_open limit full) (sym (append_assoc (parts_of kids) (end ∷ parts_of more) rest)) ∙ attrs.1.1) in
    let out : closed inside.1.0.elements inside.1.0.held ≡ es = closed_is inside.1.0.elements inside.1.0.held _ es inside.1.2 in
    let later = judge limit (record { elements = es; held = None }) more rest (after_end limit inside.1.0 es (parts_of more ++ rest) out inside.1.1) in
    (nested_fine limit (length es) tag kids more good.0 room attrs.0 inside.0 later.0, later.1)

-- Parts as nodes

lists_unprefixed : (ps : List Part) → lists (map unprefixed ps) ≡ lists ps
lists_unprefixed [] = refl
lists_unprefixed (p ∷ ps) = ap (part_before (unprefixed p) (attrs_of (map unprefixed ps))) (lists_unprefixed ps) ∙ ap (λ a. part_before (unprefixed p) a (lists ps)) (attrs ps) ∙ one p where
  attrs : (ps : List Part) → attrs_of (map unprefixed ps) ≡ attrs_of ps
  attrs [] = refl
  attrs (part.Start name scope ∷ ps) = refl
  attrs (part.Attribute name value ∷ ps) = ap (λ l. record { name = name; value = value } ∷ l) (attrs ps)
  attrs (part.End name ∷ ps) = refl
  attrs (part.Chars content ∷ ps) = refl
  attrs (part.CData content ∷ ps) = refl
  attrs (part.Comment content ∷ ps) = refl
  attrs (part.Pi target content ∷ ps) = refl

  one : (p : Part) → part_before (unprefixed p) (attrs_of ps) (lists ps) ≡ part_before p (attrs_of ps) (lists ps)
  one (part.Start name scope) = refl
  one (part.Attribute name value) = refl
  one (part.End name) = refl
  one (part.Chars content) = refl
  one (part.CData content) = refl
  one (part.Comment content) = refl
  one (part.Pi target content) = refl

sound_unprefixed : (ps : List Part) → list_all is_readable_part (map unprefixed ps) ≡ list_all is_readable_part ps
sound_unprefixed [] = refl
sound_unprefixed (p ∷ ps) = ap (λ t. is_readable_part (unprefixed p) && t) (sound_unprefixed ps) ∙ ap (λ t. t && list_all is_readable_part ps) (one p) where
  one : (p : Part) → is_readable_part (unprefixed p) ≡ is_readable_part p
  one (part.Start name scope) = refl
  one (part.Attribute name value) = refl
  one (part.End name) = refl
  one (part.Chars content) = refl
  one (part.CData content) = refl
  one (part.Comment content) = refl
  one (part.Pi target content) = refl

-- the nodes of accepted parts
pub record AreOf (limit : ℕ) (ps : List Part) (nodes : Nodes) : Type 0 where
  pub fine : nodes_fault limit 0 nodes ≡ None
  pub sound : list_all is_readable_part (parts_of nodes) ≡ true
  pub text : text ps ≡ written [] nodes
  pub forest : forest ps ≡ plain nodes

pub nodes_of_parts : AcceptsNodes → ReadsNodes → (limit : ℕ) (ps : List Part) → whole_fault limit ps ≡ None → list_all is_readable_part ps ≡ true → (nodes : Nodes) × AreOf limit ps nodes
nodes_of_parts accepts reads limit ps h k =
    let found = accepts limit ps h in
    let nodes = found.0 in
    let same : map unprefixed ps ≡ map unprefixed (parts_of nodes) = found.1 in
    let none = (neither (first_fault limit nothing ps) _ h).0 in
    let these : first_open limit nothing (parts_of nodes) ≡ None =
    sym (first_unprefixed limit nothing (parts_of nodes)) ∙ ap (first_open limit nothing) (sym same) ∙ first_unprefixed limit nothing ps ∙ first_is limit nothing ps none in (
      nodes,
      record {
        fine = (judge limit nothing nodes [] (ap (first_open limit nothing) (append-nil (parts_of nodes)) ∙ these)).0;
        sound = sym (sound_unprefixed (parts_of nodes)) ∙ ap (list_all is_readable_part) (sym same) ∙ sound_unprefixed ps ∙ k;
        text = found.2;
        forest = ap inner (sym (lists_unprefixed ps) ∙ ap lists same ∙ lists_unprefixed (parts_of nodes)) ∙ reads nodes;
      },
    )
