-- How the weight of a copy grows.
use Rattle.std.proofs.Common.{◌≡◌, ℕ, ◌+◌, ◌≤◌, Bool, true, false, List, [], ◌∷◌, ◌++◌, Option, Some, None, refl, arith}
use Rattle.std.specs.Prelude.{if◌then◌else◌, is_some}
use Rattle.std.specs.Option.{option_map, option_to_list}
use Rattle.std.proofs.lemmas.List.Sums.{sum_by-append, sum_by-cons}
use Rattle.stx_base.specs.declared.name.Attr.{Attr}
use Rattle.stx_base.specs.declared.name.Name.{Name}
use Rattle.stx_base.specs.declared.part.Part.{Part}
use Rattle.stx_base.specs.declared.part.Part.TheVariants as part
use Rattle.result_writer.specs.Attributes.{value_of}
use Rattle.result_writer.specs.Opened.{held_value, settled_tag}
use Rattle.result_writer.specs.Allowed.{are_chars, is_good_attribute}
use Rattle.result_writer.specs.Target as target
use Rattle.result_writer.specs.Target.{Element, Left, Target, fault, next, same_name, unless, with_attribute}
use Rattle.result_writer.specs.declared.fault.ResultFault.TheVariants.{BadChar, BadName, LateAttribute}
use Rattle.result_writer.specs.declared.tag.HeldTag.{HeldTag}
use Rattle.event_buffers.specs.Kept.{added}
use Rattle.event_buffers.specs.Weight.{attribute_weight, attributes_weight, earlier_weight, held_weight, kept_weight, part_weight, replaced_weight, weight}
use Rattle.event_buffers.specs.declared.kept.Kept.{Kept}
use Rattle.event_buffers.specs.declared.kept.Kept.TheVariants as kept_as

abbrev weigh : Attr → ℕ
weigh a = attribute_weight a.name a.value

-- attributes with one more, beside the earlier value that it takes the place of
attributes_grow : (attrs : List Attr) (name : Name) (value : List ℕ)
    → attributes_weight (with_attribute attrs name value) + earlier_weight name (value_of attrs name) ≡ attributes_weight attrs + attribute_weight name value
attributes_grow [] name value = omega arith
attributes_grow (a ∷ attrs) name value = by_test (same_name a.name name) (attributes_grow attrs name value) where
  by_test : (t : Bool)
      → attributes_weight (with_attribute attrs name value) + earlier_weight name (value_of attrs name) ≡ attributes_weight attrs + attribute_weight name value
      → attributes_weight (if t then record a { value = value } ∷ attrs else a ∷ with_attribute attrs name value)
      + earlier_weight name (if t then Some a.value else value_of attrs name)
      ≡ attributes_weight (a ∷ attrs) + attribute_weight name value
  by_test true h =
      let new : attributes_weight (record a { value = value } ∷ attrs) ≡ attribute_weight a.name value + attributes_weight attrs = sum_by-cons weigh (record a { value = value }) attrs in
      let old : attributes_weight (a ∷ attrs) ≡ attribute_weight a.name a.value + attributes_weight attrs = sum_by-cons weigh a attrs in
      let goal : attributes_weight (record a { value = value } ∷ attrs) + attribute_weight name a.value ≡ attributes_weight (a ∷ attrs) + attribute_weight name value = omega (arith, new, old) in
      goal
  by_test false h =
      let new : attributes_weight (a ∷ with_attribute attrs name value) ≡ attribute_weight a.name a.value + attributes_weight (with_attribute attrs name value) = sum_by-cons weigh a (with_attribute attrs name value) in
      let old : attributes_weight (a ∷ attrs) ≡ attribute_weight a.name a.value + attributes_weight attrs = sum_by-cons weigh a attrs in
      let goal : attributes_weight (a ∷ with_attribute attrs name value) + earlier_weight name (value_of attrs name) ≡ attributes_weight (a ∷ attrs) + attribute_weight name value = omega (arith, h, new, old) in
      goal

earlier_fits : (attrs : List Attr) (name : Name) (value : List ℕ) → earlier_weight name (value_of attrs name) ≤ attributes_weight attrs + attribute_weight name value
earlier_fits [] name value = omega arith
earlier_fits (a ∷ attrs) name value = by_test (same_name a.name name) (earlier_fits attrs name value) where
  by_test : (t : Bool) → earlier_weight name (value_of attrs name) ≤ attributes_weight attrs + attribute_weight name value
      → earlier_weight name (if t then Some a.value else value_of attrs name) ≤ attributes_weight (a ∷ attrs) + attribute_weight name value
  by_test true h =
      let old : attributes_weight (a ∷ attrs) ≡ attribute_weight a.name a.value + attributes_weight attrs = sum_by-cons weigh a attrs in
      let goal : attribute_weight name a.value ≤ attributes_weight (a ∷ attrs) + attribute_weight name value = omega (arith, old) in
      goal
  by_test false h =
      let old : attributes_weight (a ∷ attrs) ≡ attribute_weight a.name a.value + attributes_weight attrs = sum_by-cons weigh a attrs in
      let goal : earlier_weight name (value_of attrs name) ≤ attributes_weight (a ∷ attrs) + attribute_weight name value = omega (arith, h, old) in
      goal

held_fits : (held : Option HeldTag) (name : Name) (value : List ℕ) → earlier_weight name (held_value held name) ≤ held_weight held + attribute_weight name value
held_fits None name value = omega arith
held_fits (Some tag) name value = let h = earlier_fits tag.attrs name value in omega (arith, h)

-- what a part takes the place of was weighed
pub replaced_fits : (l : Left) (p : Part) → replaced_weight l p ≤ held_weight l.held + part_weight p
replaced_fits l (part.Start name scope) = omega arith
replaced_fits l (part.Attribute name value) = held_fits l.held name value
replaced_fits l (part.End name) = omega arith
replaced_fits l (part.Chars text) = omega arith
replaced_fits l (part.CData text) = omega arith
replaced_fits l (part.Comment text) = omega arith
replaced_fits l (part.Pi target text) = omega arith

-- What a part adds to what is kept, and leaves waiting.

leaf_gain : (elements : List Element) (held : Option HeldTag) (k : Kept)
    → kept_weight (option_to_list (option_map kept_as.Start (settled_tag elements held)) ++ k ∷ []) ≡ held_weight held + weight k
leaf_gain elements None k = omega arith
leaf_gain elements (Some tag) k = omega arith

start_gain : (elements : List Element) (held : Option HeldTag)
    → kept_weight (option_to_list (option_map kept_as.Start (settled_tag elements held)) ++ []) ≡ held_weight held
start_gain elements None = omega arith
start_gain elements (Some tag) = omega arith

-- an attribute that has no fault comes where a tag is held back
holds : (good chars some : Bool) → unless good BadName (unless chars BadChar (unless some LateAttribute None)) ≡ None → some ≡ true
holds true true true h = refl
holds true true false h = absurd cc
holds true false some h = absurd cc
holds false chars some h = absurd cc

attribute_gain : (held : Option HeldTag) (name : Name) (value : List ℕ) → is_some held ≡ true
    → held_weight (target.added held name value) + earlier_weight name (held_value held name) ≡ held_weight held + attribute_weight name value
attribute_gain None name value h = absurd cc
attribute_gain (Some tag) name value h = let g = attributes_grow tag.attrs name value in omega (arith, g)

gain : (limit : ℕ) (l : Left) (p : Part) → fault limit l p ≡ None
    → kept_weight (added l p) + held_weight (next l p).held + replaced_weight l p ≡ held_weight l.held + part_weight p
gain limit l (part.Start name scope) h = let g = start_gain l.elements l.held in omega (arith, g)
gain limit l (part.Attribute name value) h =
    let g = attribute_gain l.held name value (holds (is_good_attribute name) (are_chars value) (is_some l.held) h) in omega (arith, g)
gain limit l (part.End name) h = let g = leaf_gain l.elements l.held kept_as.End in omega (arith, g)
gain limit l (part.Chars text) h = let g = leaf_gain l.elements l.held (kept_as.Chars text) in omega (arith, g)
gain limit l (part.CData text) h = let g = leaf_gain l.elements l.held (kept_as.CData text) in omega (arith, g)
gain limit l (part.Comment text) h = let g = leaf_gain l.elements l.held (kept_as.Comment text) in omega (arith, g)
gain limit l (part.Pi target text) h = let g = leaf_gain l.elements l.held (kept_as.Pi target text) in omega (arith, g)

-- the weight of a copy behind a part
pub grown : (kept : List Kept) (t : Target) (p : Part) → fault t.limit t.left p ≡ None
    → kept_weight (kept ++ added t.left p) + held_weight (next t.left p).held + replaced_weight t.left p
    ≡ kept_weight kept + held_weight t.left.held + part_weight p
grown kept t p h =
    let g = gain t.limit t.left p h in
    let s : kept_weight (kept ++ added t.left p) ≡ kept_weight kept + kept_weight (added t.left p) = sum_by-append weight kept (added t.left p) in
    omega (arith, g, s)
