-- What parts leave of a target, which parts it accepts, and what it writes of them.
use Rattle.std.specs.Prelude.{◌≡◌, ◌≤◌, ℕ, ◌+◌, Bool, true, false, ◌&&◌, nat_lt, if◌then◌else◌, List, [], ◌∷◌, ◌++◌, Option, Some, None, Result, IfErr, OnOk, is_some, length, codes, encode_utf8_all}
use Rattle.std.specs.List.{list_any}
use Rattle.stx_base.specs.Character.{is_cdata_text}
use Rattle.stx_base.specs.declared.name.Attr.{Attr}
use Rattle.stx_base.specs.declared.name.Binding.{Binding}
use Rattle.stx_base.specs.declared.name.Name.{Name}
use Rattle.stx_base.specs.declared.part.Part.{Part}
use Rattle.stx_base.specs.declared.part.Part.TheVariants as part
use Rattle.result_writer.specs.Allowed.{is_good_attribute, is_good_comment, is_good_data, is_good_name, is_good_target, are_chars, is_empty, same}
use Rattle.result_writer.specs.Escape.{escaped}
use Rattle.result_writer.specs.Tag.{dressed, end_tag, open_tag}
use Rattle.result_writer.specs.declared.escape.Context.TheVariants.{Content}
use Rattle.result_writer.specs.declared.fault.ResultFault.{ResultFault}
use Rattle.result_writer.specs.declared.fault.ResultFault.TheVariants.{BadName, BadChar, BadComment, BadPi, LateAttribute, UnmatchedEnd, WrongEnd, UnclosedResult, ResultDepth}
use Rattle.result_writer.specs.declared.fault.WriteStop.{WriteStop}
use Rattle.result_writer.specs.declared.fault.WriteStop.TheVariants.{Fault, Memory}
use Rattle.result_writer.specs.declared.tag.HeldTag.{HeldTag}
use Rattle.result_writer.specs.declared.tag.Dressed.{Dressed}

-- an open element: its name, and what its tag declared
pub record Element : Type 0 where
  pub name : Name
  pub declared : List Binding

-- what parts leave: the open elements, the innermost first, and within them a start tag that is held back
pub record Left : Type 0 where
  pub elements : List Element
  pub held : Option HeldTag

-- a target, with the number of elements that may be open in it at once, and the scope of its last start
pub record Target : Type 0 where
  pub limit : ℕ
  pub left : Left
  pub last : List Binding

-- no parts leave nothing
abbrev pub nothing : Left
nothing = record { elements = []; held = None }

abbrev pub fresh : (limit : ℕ) → Target
fresh limit = record { limit = limit; left = nothing; last = [] }

-- what the open elements declared, the innermost last
abbrev pub in_force : List Element → List Binding
in_force [] = []
in_force (e ∷ outer) = in_force outer ++ e.declared

-- what is written with a tag that is held back, once it is settled
abbrev pub dressed_in : List Element → Option HeldTag → Option Dressed
dressed_in outer None = None
dressed_in outer (Some tag) = Some (dressed (in_force outer) tag)

-- an attribute settles nothing
abbrev pub dressed_for : Left → Part → Option Dressed
dressed_for l (part.Attribute name value) = None
dressed_for l p = dressed_in l.elements l.held

-- What a part changes.

-- the open elements, once a tag that was held back is settled
abbrev pub settled : List Element → Option HeldTag → List Element
settled outer None = outer
settled outer (Some tag) = record { name = tag.name; declared = (dressed (in_force outer) tag).declared } ∷ outer

-- the open elements behind the end of the innermost one
abbrev pub closed : List Element → Option HeldTag → List Element
closed outer (Some tag) = outer
closed [] None = []
closed (e ∷ outer) None = outer

-- two names have one URI and one local part
abbrev pub same_name : Name → Name → Bool
same_name m n = same m.uri n.uri && same m.local n.local

-- an attribute of the same name as an earlier one only changes that one's value
abbrev pub with_attribute : List Attr → Name → List ℕ → List Attr
with_attribute [] name value = record { name = name; value = value } ∷ []
with_attribute (a ∷ attrs) name value =
    if same_name a.name name then record a { value = value } ∷ attrs else a ∷ with_attribute attrs name value

-- no two attributes have one name
abbrev pub AreDistinct : List Attr → Type 0
AreDistinct [] = Unit {0}
AreDistinct (a ∷ attrs) = (list_any (λ b. same_name b.name a.name) attrs ≡ false) × AreDistinct attrs

abbrev pub added : Option HeldTag → Name → List ℕ → Option HeldTag
added None name value = None
added (Some tag) name value = Some (record tag { attrs = with_attribute tag.attrs name value })

abbrev pub next : Left → Part → Left
next l (part.Start name scope) =
    record { elements = settled l.elements l.held; held = Some (record { name = name; scope = scope; attrs = [] }) }
next l (part.Attribute name value) = record { elements = l.elements; held = added l.held name value }
next l (part.End name) = record { elements = closed l.elements l.held; held = None }
next l (part.Chars text) = record { elements = settled l.elements l.held; held = None }
next l (part.CData text) = record { elements = settled l.elements l.held; held = None }
next l (part.Comment text) = record { elements = settled l.elements l.held; held = None }
next l (part.Pi target text) = record { elements = settled l.elements l.held; held = None }

-- the scope of the last start, where there was one before
abbrev pub last_start : (before : List Binding) → Part → List Binding
last_start before (part.Start name scope) = scope
last_start before p = before

-- the target, with what is left behind a part
abbrev pub behind : Target → Part → Target
behind t p = record t { left = next t.left p; last = last_start t.last p }

-- Which parts are accepted.

-- a fault, unless the test holds, and then the next one
abbrev pub unless : Bool → ResultFault → Option ResultFault → Option ResultFault
unless test fault others = if test then others else Some fault

abbrev pub depth : List Element → Option HeldTag → ℕ
depth elements None = length elements
depth elements (Some tag) = length elements + 1

abbrev pub innermost : List Element → Option HeldTag → Option Name
innermost elements (Some tag) = Some tag.name
innermost [] None = None
innermost (e ∷ outer) None = Some e.name

abbrev pub start_fault : (limit : ℕ) → Left → Name → Option ResultFault
start_fault limit l name = unless (is_good_name name) BadName (unless (nat_lt (depth l.elements l.held) limit) ResultDepth None)

abbrev pub attribute_fault : Left → Name → (value : List ℕ) → Option ResultFault
attribute_fault l name value =
    unless (is_good_attribute name) BadName (unless (are_chars value) BadChar (unless (is_some l.held) LateAttribute None))

abbrev pub end_of : (innermost : Option Name) → Name → Option ResultFault
end_of None name = Some UnmatchedEnd
end_of (Some n) name = unless (same_name n name) WrongEnd None

abbrev pub end_fault : Left → Name → Option ResultFault
end_fault l name = unless (is_good_name name) BadName (end_of (innermost l.elements l.held) name)

abbrev pub chars_fault : List ℕ → Option ResultFault
chars_fault text = unless (are_chars text) BadChar None

abbrev pub comment_fault : List ℕ → Option ResultFault
comment_fault text = unless (are_chars text) BadChar (unless (is_good_comment text) BadComment None)

abbrev pub instruction_fault : (target text : List ℕ) → Option ResultFault
instruction_fault target text =
    unless (are_chars text) BadChar (unless (is_good_target target && is_good_data text) BadPi None)

-- the text of a CDATA section may be one; other parts have none
abbrev pub holds_cdata_text : Part → Bool
holds_cdata_text (part.CData text) = is_cdata_text text
holds_cdata_text p = true

-- the first fault of a part; a CDATA section has none, since its text may be one
abbrev pub fault : (limit : ℕ) → Left → Part → Option ResultFault
fault limit l (part.Start name scope) = start_fault limit l name
fault limit l (part.Attribute name value) = attribute_fault l name value
fault limit l (part.End name) = end_fault l name
fault limit l (part.Chars text) = chars_fault text
fault limit l (part.CData text) = None
fault limit l (part.Comment text) = comment_fault text
fault limit l (part.Pi target text) = instruction_fault target text

-- What is written.

-- a tag that was held back, with its end
abbrev pub tag_text : List Element → Option HeldTag → (end : List ℕ) → List ℕ
tag_text outer None end = []
tag_text outer (Some tag) end = open_tag tag (dressed (in_force outer) tag) ++ end

-- the end of the innermost element: of its start tag, where that was held back, or else its end tag, with the name as
-- its start tag has it
abbrev pub end_text : List Element → Option HeldTag → List ℕ
end_text outer (Some tag) = tag_text outer (Some tag) (codes "/>")
end_text [] None = []
end_text (e ∷ outer) None = end_tag e.name.prefix e.name.local

abbrev pub cdata_text : List ℕ → List ℕ
cdata_text text = codes "<![CDATA[" ++ encode_utf8_all text ++ codes "]]>"

abbrev pub comment_text : List ℕ → List ℕ
comment_text text = codes "<!--" ++ encode_utf8_all text ++ codes "-->"

-- the data stands behind a space, where there is some (XML 1.0, 2.6)
abbrev pub data_text : List ℕ → List ℕ
data_text text = if is_empty text then [] else codes " " ++ encode_utf8_all text

abbrev pub instruction_text : (target text : List ℕ) → List ℕ
instruction_text target text = codes "<?" ++ encode_utf8_all target ++ data_text text ++ codes "?>"

-- the bytes that a part settles
abbrev pub settles : Left → Part → List ℕ
settles l (part.Start name scope) = tag_text l.elements l.held (codes ">")
settles l (part.Attribute name value) = []
settles l (part.End name) = end_text l.elements l.held
settles l (part.Chars text) = tag_text l.elements l.held (codes ">") ++ escaped Content (encode_utf8_all text)
settles l (part.CData text) = tag_text l.elements l.held (codes ">") ++ cdata_text text
settles l (part.Comment text) = tag_text l.elements l.held (codes ">") ++ comment_text text
settles l (part.Pi target text) = tag_text l.elements l.held (codes ">") ++ instruction_text target text

-- Lists of parts.

abbrev pub left_by : Left → List Part → Left
left_by l [] = l
left_by l (p ∷ ps) = left_by (next l p) ps

abbrev pub text_from : Left → List Part → List ℕ
text_from l [] = []
text_from l (p ∷ ps) = settles l p ++ text_from (next l p) ps

-- the bytes of parts; a start tag at their end, with its attributes, isn't in them
abbrev pub text : List Part → List ℕ
text = text_from nothing

abbrev pub or_else : Option ResultFault → Option ResultFault → Option ResultFault
or_else None other = other
or_else (Some f) other = Some f

-- the first fault of parts, each judged behind those before it
abbrev pub first_fault : (limit : ℕ) → Left → List Part → Option ResultFault
first_fault limit l [] = None
first_fault limit l (p ∷ ps) = or_else (fault limit l p) (first_fault limit (next l p) ps)

-- no element is open
abbrev pub is_closed : List Element → Option HeldTag → Bool
is_closed elements (Some tag) = false
is_closed [] None = true
is_closed (e ∷ outer) None = false

-- the first fault of a whole result, which ends with no element open
abbrev pub whole_fault : (limit : ℕ) → List Part → Option ResultFault
whole_fault limit ps =
    let l = left_by nothing ps in
    or_else (first_fault limit nothing ps) (if is_closed l.elements l.held then None else Some UnclosedResult)

-- Attributes can be taken at once: a start tag is held back that has none, and they are few, each of another name.
pub record TakesAtOnce (l : Left) (attrs : List Attr) : Type 0 where
  pub bare : (tag : HeldTag) × (l.held ≡ Some tag) × (tag.attrs ≡ [])
  pub few : length attrs ≤ 16
  pub distinct : AreDistinct attrs

-- a refusal is for the fault that there is, or for want of memory, which no fault tells
abbrev pub IsCause : Option ResultFault → WriteStop → Type 0
IsCause o (Fault f) = o ≡ Some f
IsCause o Memory = Unit {0}

-- Parts are put one after another, up to the first that has a fault. Attributes leave the scope of the last start as it was.
pub record PutsInTurn {A : Type 0} (parts : List Part) (result : Result A WriteStop) (old new : Target) : Type 0 where
  pub taken : List Part
  pub rest : List Part
  pub whole : parts ≡ taken ++ rest
  pub allowed : first_fault old.limit old.left taken ≡ None
  pub left : new ≡ record old { left = left_by old.left taken }
  pub all : OnOk result (rest ≡ [])
  pub refused : IfErr result (λ stop. (p : Part) × ((ps : List Part) × ((rest ≡ p ∷ ps) × IsCause (fault old.limit (left_by old.left taken) p) stop)))
