-- Tags without prefixes that declare nothing, as most are.
use Rattle.std.specs.Prelude.{ℕ, Bool, not, ◌&&◌, List, [], codes}
use Rattle.std.specs.List.{list_all}
use Rattle.stx_base.specs.Character.{is_ncname}
use Rattle.stx_base.specs.declared.name.Attr.{Attr}
use Rattle.xml_tokens.specs.declared.lexeme.RawAttr.{RawAttr}
use Rattle.xml_names.specs.Scope.{same}

-- a name without a prefix, and of no declaration
abbrev pub is_plain_name : (name : List ℕ) → Bool
is_plain_name name = is_ncname name && not (same name (codes "xmlns"))

-- no name of a tag has a prefix, and it declares nothing
abbrev pub is_plain : (name : List ℕ) → List RawAttr → Bool
is_plain name attrs = is_ncname name && list_all (λ a. is_plain_name a.name) attrs

-- an attribute without a prefix, which is in no namespace
abbrev pub plain_attribute : RawAttr → Attr
plain_attribute a = record { name = record { uri = []; local = a.name; prefix = [] }; value = a.value }
