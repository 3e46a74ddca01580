-- What parts weigh in a buffer.
use Rattle.std.specs.Prelude.{ℕ, ◌+◌, List, Option, Some, None, length}
use Rattle.std.specs.List.{sum_by}
use Rattle.stx_base.specs.declared.name.Attr.{Attr}
use Rattle.stx_base.specs.declared.name.Name.{Name}
use Rattle.stx_base.specs.declared.part.Part.{Part}
use Rattle.stx_base.specs.declared.part.Part.TheVariants as part
use Rattle.result_writer.specs.Opened.{held_value}
use Rattle.result_writer.specs.Target.{Left}
use Rattle.result_writer.specs.declared.tag.HeldTag.{HeldTag}
use Rattle.event_buffers.specs.declared.kept.Kept.{Kept}
use Rattle.event_buffers.specs.declared.kept.Kept.TheVariants.{Start, End, Chars, CData, Comment, Pi}

-- A part weighs one more than the characters of its names, values and texts. Declarations weigh nothing.

abbrev pub name_weight : Name → ℕ
name_weight n = length n.prefix + length n.local + length n.uri

abbrev pub attribute_weight : Name → (value : List ℕ) → ℕ
attribute_weight n value = 1 + name_weight n + length value

abbrev pub attributes_weight : List Attr → ℕ
attributes_weight = sum_by (λ a. attribute_weight a.name a.value)

abbrev pub tag_weight : Name → List Attr → ℕ
tag_weight n attrs = 1 + name_weight n + attributes_weight attrs

-- an end weighs one
abbrev pub weight : Kept → ℕ
weight (Start tag) = tag_weight tag.name tag.attrs
weight End = 1
weight (Chars text) = 1 + length text
weight (CData text) = 1 + length text
weight (Comment text) = 1 + length text
weight (Pi target text) = 1 + length target + length text

abbrev pub kept_weight : List Kept → ℕ
kept_weight = sum_by weight

-- a start tag that isn't settled yet
abbrev pub held_weight : Option HeldTag → ℕ
held_weight None = 0
held_weight (Some tag) = tag_weight tag.name tag.attrs

-- a part by itself
abbrev pub part_weight : Part → ℕ
part_weight (part.Start name scope) = 1 + name_weight name
part_weight (part.Attribute name value) = attribute_weight name value
part_weight (part.End name) = 1
part_weight (part.Chars text) = 1 + length text
part_weight (part.CData text) = 1 + length text
part_weight (part.Comment text) = 1 + length text
part_weight (part.Pi target text) = 1 + length target + length text

-- an attribute with its earlier value, where there is one
abbrev pub earlier_weight : Name → Option (List ℕ) → ℕ
earlier_weight name None = 0
earlier_weight name (Some value) = attribute_weight name value

-- what a part takes the place of
abbrev pub replaced_weight : Left → Part → ℕ
replaced_weight l (part.Attribute name value) = earlier_weight name (held_value l.held name)
replaced_weight l p = 0
