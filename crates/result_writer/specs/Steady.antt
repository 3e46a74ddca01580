-- Tags whose prefixes are all in force already, so that they declare nothing (Namespaces in XML 1.0, 6).
use Rattle.std.specs.Prelude.{ℕ, Bool, not, ◌&&◌, ◌||◌, List, [], Option, Some, None, codes, map}
use Rattle.std.specs.List.{list_all}
use Rattle.stx_base.specs.declared.name.Attr.{Attr}
use Rattle.stx_base.specs.declared.name.Binding.{Binding}
use Rattle.stx_base.specs.declared.name.Name.{Name}
use Rattle.result_writer.specs.Allowed.{is_empty, is_word, same}
use Rattle.result_writer.specs.Table.{bound}
use Rattle.result_writer.specs.declared.tag.Dressed.{Dressed}
use Rattle.result_writer.specs.declared.tag.HeldTag.{HeldTag}

-- the prefix has this URI; `xml`, which no list of bindings has, is left aside
abbrev pub is_in_force : (in_force : List Binding) → (prefix uri : List ℕ) → Bool
is_in_force in_force prefix uri = not (is_word prefix (codes "xml")) && same (bound in_force prefix) uri

-- an attribute's own prefix serves
abbrev pub keeps_prefix : (in_force : List Binding) → Name → Bool
keeps_prefix in_force n = is_empty n.uri || (not (is_empty n.prefix) && is_in_force in_force n.prefix n.uri)

-- a binding where the element comes from is in force, or takes the default namespace away
abbrev pub keeps_binding : (in_force : List Binding) → Binding → Bool
keeps_binding in_force b = is_empty b.uri || is_in_force in_force b.prefix b.uri

abbrev pub keep_prefixes : (in_force : List Binding) → List Attr → Bool
keep_prefixes in_force = list_all (λ a. keeps_prefix in_force a.name)

abbrev pub keep_bindings : (in_force scope : List Binding) → Bool
keep_bindings in_force = list_all (keeps_binding in_force)

abbrev pub keeps_names : (in_force : List Binding) → HeldTag → Bool
keeps_names in_force tag = is_in_force in_force tag.name.prefix tag.name.uri && keep_prefixes in_force tag.attrs

abbrev pub own_prefixes : List Attr → List (List ℕ)
own_prefixes = map (λ a. a.name.prefix)

-- nothing is declared, and each attribute has its own prefix
abbrev pub undressed : List Attr → Dressed
undressed attrs = record { declared = []; prefixes = own_prefixes attrs }

-- what a tag is written with: what is said, or else nothing beside its names and values
abbrev pub given : HeldTag → Option Dressed → Dressed
given tag None = undressed tag.attrs
given tag (Some d) = d
