-- How what is written is read.
use Rattle.std.specs.Prelude.{ℕ, if◌then◌else◌, List, [], ◌∷◌, ◌++◌, codes, map}
use Rattle.stx_base.specs.Character.{is_space}
use Rattle.stx_base.specs.declared.name.Attr.{Attr}
use Rattle.stx_base.specs.declared.name.Binding.{Binding}
use Rattle.xml_tokens.specs.declared.lexeme.RawAttr.{RawAttr}
use Rattle.result_writer.specs.Allowed.{is_empty}
use Rattle.result_writer.specs.declared.tag.Dressed.{Dressed}

-- The data of an instruction as it is read: white space before it only separates it from the target (XML 1.0, 2.6).
abbrev pub read_data : List ℕ → List ℕ
read_data [] = []
read_data (c ∷ cs) = if is_space c then read_data cs else c ∷ cs

-- a name with its prefix, if it has one (Namespaces in XML 1.0, 4)
abbrev pub written_name : (prefix local : List ℕ) → List ℕ
written_name prefix local = if is_empty prefix then local else prefix ++ 0x3A ∷ local

-- a declaration as an attribute, `xmlns` or `xmlns:` and a prefix (Namespaces in XML 1.0, 3)
abbrev pub declaring : Binding → RawAttr
declaring b = record { name = if is_empty b.prefix then codes "xmlns" else codes "xmlns:" ++ b.prefix; value = b.uri }

-- attributes with these prefixes
abbrev pub with_prefixes : (prefixes : List (List ℕ)) → List Attr → List RawAttr
with_prefixes [] attrs = []
with_prefixes (p ∷ ps) [] = []
with_prefixes (p ∷ ps) (a ∷ attrs) = record { name = written_name p a.name.local; value = a.value } ∷ with_prefixes ps attrs

-- what a start tag has behind its name: its declarations, and then its attributes
abbrev pub raw_attrs : Dressed → List Attr → List RawAttr
raw_attrs d attrs = map declaring d.declared ++ with_prefixes d.prefixes attrs
