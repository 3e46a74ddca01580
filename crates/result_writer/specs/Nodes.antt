-- Parts as a list of nodes, and nodes as they are written (XML 1.0, 2.1 and 3.1; Namespaces in XML 1.0, 2.1).
use Rattle.std.specs.Prelude.{ℕ, suc, nat_lt, Option, None, Bool, true, false, if◌then◌else◌, List, [], ◌∷◌, ◌++◌, map, codes, encode_utf8_all}
use Rattle.stx_base.specs.declared.name.Attr.{Attr}
use Rattle.stx_base.specs.declared.name.Binding.{Binding}
use Rattle.stx_base.specs.declared.name.Name.{Name}
use Rattle.stx_base.specs.declared.part.Part.{Part}
use Rattle.stx_base.specs.declared.part.Part.TheVariants as part
use Rattle.result_writer.specs.Allowed.{are_chars, is_good_attribute, is_good_name}
use Rattle.result_writer.specs.Escape.{escaped}
use Rattle.result_writer.specs.Tag.{dressed, end_tag, open_tag}
use Rattle.result_writer.specs.Target.{cdata_text, chars_fault, comment_fault, comment_text, instruction_fault, instruction_text, or_else, unless, with_attribute}
use Rattle.result_writer.specs.declared.fault.ResultFault.{ResultFault}
use Rattle.result_writer.specs.declared.fault.ResultFault.TheVariants.{BadName, BadChar, ResultDepth}
use Rattle.result_writer.specs.declared.escape.Context.TheVariants.{Content}
use Rattle.result_writer.specs.declared.tag.HeldTag.{HeldTag}

-- a list of nodes: its end, or its first node and then what follows it
pub data Nodes : Type 0 where
  End : Nodes
  Chars : (text : List ℕ) → Nodes → Nodes
  CData : (text : List ℕ) → Nodes → Nodes
  Comment : (text : List ℕ) → Nodes → Nodes
  Instruction : (target text : List ℕ) → Nodes → Nodes
  Nested : HeldTag → (kids : Nodes) → (next : Nodes) → Nodes

-- The parts of nodes.

abbrev pub attribute_part : Attr → Part
attribute_part a = part.Attribute a.name a.value

abbrev pub parts_of : Nodes → List Part
parts_of End = []
parts_of (Chars text next) = part.Chars text ∷ parts_of next
parts_of (CData text next) = part.CData text ∷ parts_of next
parts_of (Comment text next) = part.Comment text ∷ parts_of next
parts_of (Instruction target text next) = part.Pi target text ∷ parts_of next
parts_of (Nested tag kids next) =
    part.Start tag.name tag.scope ∷ (map attribute_part tag.attrs ++ (parts_of kids ++ part.End tag.name ∷ parts_of next))

-- Nodes as they are written.

-- attributes, put one after the other
abbrev pub collected : (before : List Attr) → List Attr → List Attr
collected before [] = before
collected before (a ∷ attrs) = collected (with_attribute before a.name a.value) attrs

-- a tag in which each name has one attribute
abbrev pub in_one : HeldTag → HeldTag
in_one tag = record tag { attrs = collected [] tag.attrs }

-- what is in force within an element: what is in force around it, and then what its tag declares
abbrev pub inside : (in_force : List Binding) → HeldTag → List Binding
inside in_force tag = in_force ++ (dressed in_force tag).declared

abbrev pub is_end : Nodes → Bool
is_end End = true
is_end nodes = false

-- nodes where these bindings are in force: an element without nodes in it is one tag
abbrev pub written : (in_force : List Binding) → Nodes → List ℕ
written in_force End = []
written in_force (Chars text next) = escaped Content (encode_utf8_all text) ++ written in_force next
written in_force (CData text next) = cdata_text text ++ written in_force next
written in_force (Comment text next) = comment_text text ++ written in_force next
written in_force (Instruction target text next) = instruction_text target text ++ written in_force next
written in_force (Nested tag kids next) =
    let t = in_one tag in
    open_tag t (dressed in_force t)
    ++ (if is_end kids then codes "/>" else codes ">" ++ written (inside in_force t) kids ++ end_tag t.name.prefix t.name.local)
    ++ written in_force next

-- Which nodes may be written.

abbrev pub attributes_fault : List Attr → Option ResultFault
attributes_fault [] = None
attributes_fault (a ∷ attrs) =
    or_else (unless (is_good_attribute a.name) BadName (unless (are_chars a.value) BadChar None)) (attributes_fault attrs)

-- the first fault of nodes within so many open elements, in document order
abbrev pub nodes_fault : (limit depth : ℕ) → Nodes → Option ResultFault
nodes_fault limit depth End = None
nodes_fault limit depth (Chars text next) = or_else (chars_fault text) (nodes_fault limit depth next)
nodes_fault limit depth (CData text next) = nodes_fault limit depth next
nodes_fault limit depth (Comment text next) = or_else (comment_fault text) (nodes_fault limit depth next)
nodes_fault limit depth (Instruction target text next) = or_else (instruction_fault target text) (nodes_fault limit depth next)
nodes_fault limit depth (Nested tag kids next) =
    or_else (unless (is_good_name tag.name) BadName (unless (nat_lt depth limit) ResultDepth None))
    (or_else (attributes_fault tag.attrs) (or_else (nodes_fault limit (suc depth) kids) (nodes_fault limit depth next)))

-- Parts as nodes.

-- the innermost list of what follows, and the lists around it
abbrev pub inner : List Nodes → Nodes
inner [] = End
inner (list ∷ lists) = list

abbrev pub outer : List Nodes → List Nodes
outer [] = []
outer (list ∷ lists) = lists

-- a text before nodes: an empty one is none, and it joins a text that follows it
abbrev pub text_before : List ℕ → Nodes → Nodes
text_before [] list = list
text_before (c ∷ cs) (Chars more next) = Chars (c ∷ cs ++ more) next
text_before (c ∷ cs) list = Chars (c ∷ cs) list

-- a name by its URI and local part
abbrev pub expanded_name : Name → Name
expanded_name n = record n { prefix = [] }

-- a part, but for the prefix of an end
abbrev pub unprefixed : Part → Part
unprefixed (part.End n) = part.End (expanded_name n)
unprefixed p = p

abbrev pub expanded_attr : Attr → Attr
expanded_attr a = record a { name = expanded_name a.name }

-- a tag without prefixes and bindings
abbrev pub expanded_tag : HeldTag → HeldTag
expanded_tag tag = record { name = expanded_name tag.name; scope = []; attrs = map expanded_attr tag.attrs }

-- the attributes that parts begin with, which are those of a start tag before them
abbrev pub attrs_of : List Part → List Attr
attrs_of [] = []
attrs_of (part.Attribute name value ∷ ps) = record { name = name; value = value } ∷ attrs_of ps
attrs_of (p ∷ ps) = []

-- a part, behind which these attributes stand, and then lists of nodes, the innermost first
abbrev pub part_before : Part → (attrs : List Attr) → List Nodes → List Nodes
part_before (part.Start name scope) attrs f =
    let tag = expanded_tag (in_one (record { name = name; scope = scope; attrs = attrs })) in
    Nested tag (inner f) (inner (outer f)) ∷ outer (outer f)
part_before (part.Attribute name value) attrs f = f
part_before (part.End name) attrs f = End ∷ f
part_before (part.Chars text) attrs f = text_before text (inner f) ∷ outer f
part_before (part.CData text) attrs f = CData text (inner f) ∷ outer f
part_before (part.Comment text) attrs f = Comment text (inner f) ∷ outer f
part_before (part.Pi target text) attrs f = Instruction target text (inner f) ∷ outer f

abbrev pub lists : List Part → List Nodes
lists [] = []
lists (p ∷ ps) = part_before p (attrs_of ps) (lists ps)

-- parts as a list of nodes: texts that touch are one, an empty text is none, and there are no prefixes and declarations. An
-- element that the parts leave open ends behind them
abbrev pub forest : List Part → Nodes
forest ps = inner (lists ps)

-- the same of nodes
abbrev pub plain : Nodes → Nodes
plain End = End
plain (Chars text next) = text_before text (plain next)
plain (CData text next) = CData text (plain next)
plain (Comment text next) = Comment text (plain next)
plain (Instruction target text next) = Instruction target text (plain next)
plain (Nested tag kids next) = Nested (expanded_tag (in_one tag)) (plain kids) (plain next)
