-- Tags as they are written (XML 1.0, 3.1; Namespaces in XML 1.0, 3).
use Rattle.std.specs.Prelude.{ℕ, if◌then◌else◌, List, [], ◌∷◌, ◌++◌, codes, encode_utf8_all}
use Rattle.std.specs.List.{flat_map}
use Rattle.stx_base.specs.declared.name.Attr.{Attr}
use Rattle.stx_base.specs.declared.name.Binding.{Binding}
use Rattle.result_writer.specs.Allowed.{is_empty}
use Rattle.result_writer.specs.Escape.{escaped}
use Rattle.result_writer.specs.Table.{declarations, prefixes, with_attributes, with_element, with_scope}
use Rattle.result_writer.specs.declared.escape.Context.TheVariants.{Value}
use Rattle.result_writer.specs.declared.tag.HeldTag.{HeldTag}
use Rattle.result_writer.specs.declared.tag.Dressed.{Dressed}

-- a name with its prefix, if it has one
abbrev pub qname : (prefix local : List ℕ) → List ℕ
qname prefix local =
    if is_empty prefix then encode_utf8_all local else encode_utf8_all prefix ++ codes ":" ++ encode_utf8_all local

-- a value between double quotes
abbrev pub quoted : List ℕ → List ℕ
quoted value = codes "=\"" ++ escaped Value (encode_utf8_all value) ++ codes "\""

abbrev pub declaration : Binding → List ℕ
declaration b =
    (if is_empty b.prefix then codes " xmlns" else codes " xmlns:" ++ encode_utf8_all b.prefix) ++ quoted b.uri

abbrev pub attribute : (prefix : List ℕ) → Attr → List ℕ
attribute prefix a = codes " " ++ qname prefix a.name.local ++ quoted a.value

-- the attributes, each with its prefix
abbrev pub attributes : (prefixes : List (List ℕ)) → List Attr → List ℕ
attributes [] attrs = []
attributes (p ∷ ps) [] = []
attributes (p ∷ ps) (a ∷ attrs) = attribute p a ++ attributes ps attrs

-- what a tag declares, and the prefixes of its attributes
abbrev pub dressed : (in_force : List Binding) → HeldTag → Dressed
dressed in_force tag =
    let table = with_element tag.name in record {
      declared = declarations in_force (with_scope (with_attributes table tag.attrs) tag.scope);
      prefixes = prefixes table tag.attrs;
    }

-- a start tag without its end, which is `>` or `/>`
abbrev pub open_tag : HeldTag → Dressed → List ℕ
open_tag tag d =
    codes "<" ++ qname tag.name.prefix tag.name.local ++ flat_map declaration d.declared ++ attributes d.prefixes tag.attrs

abbrev pub end_tag : (prefix local : List ℕ) → List ℕ
end_tag prefix local = codes "</" ++ qname prefix local ++ codes ">"
