-- Parts of which more is known than that a result accepts them, and documents whose copies are such parts.
use Rattle.std.specs.Prelude.{Bool, true, ◌&&◌}
use Rattle.std.specs.List.{list_all}
use Rattle.stx_base.specs.Character.{is_cdata_text}
use Rattle.stx_base.specs.declared.name.Binding.{Binding}
use Rattle.stx_base.specs.declared.part.Part.{Part}
use Rattle.stx_base.specs.declared.part.Part.TheVariants as part
use Rattle.result_writer.specs.Allowed.{are_chars, is_prefix}
use Rattle.xml_events.specs.Tree.{Leaf, CData, Forest, End, Cut, Single, Nested}

-- what no fault of a part speaks of: the bindings that are in force where an element comes from are good, and a CDATA section may have
-- its text
abbrev pub is_part_of : (good : Binding → Bool) → Part → Bool
is_part_of good (part.Start name scope) = list_all good scope
is_part_of good (part.CData text) = is_cdata_text text
is_part_of good p = true

-- all bindings that are declared are good
abbrev pub declares : (good : Binding → Bool) → Forest → Bool
declares good (End m offset) = true
declares good (Cut why) = true
declares good (Single m leaf next) = declares good next
declares good (Nested m e kids next) = list_all good e.decls && (declares good kids && declares good next)

-- a binding of a name, or of none
abbrev pub is_named : Binding → Bool
is_named b = is_prefix b.prefix

abbrev pub is_sound_part : Part → Bool
is_sound_part = is_part_of is_named

abbrev pub declares_names : Forest → Bool
declares_names = declares is_named

-- the URIs of its name are Chars (XML 1.0, 2.2), which no fault of a part speaks of either
abbrev pub has_char_uris : Part → Bool
has_char_uris (part.Start name scope) = are_chars name.uri
has_char_uris (part.Attribute name value) = are_chars name.uri
has_char_uris p = true

-- a leaf that is a CDATA section has a text that one may have
abbrev pub is_sound_leaf : Leaf → Bool
is_sound_leaf (CData offset text) = is_cdata_text text
is_sound_leaf leaf = true

-- so it is with all leaves of a list, and of the lists in it
abbrev pub holds_sections : Forest → Bool
holds_sections (End m offset) = true
holds_sections (Cut why) = true
holds_sections (Single m leaf next) = is_sound_leaf leaf && holds_sections next
holds_sections (Nested m e kids next) = holds_sections kids && holds_sections next
