-- What can be written so that it is read.
use Rattle.std.specs.Prelude.{Bool, true, ◌&&◌}
use Rattle.std.specs.List.{list_all}
use Rattle.stx_base.specs.Character.{is_cdata_text}
use Rattle.stx_base.specs.declared.name.Attr.{Attr}
use Rattle.stx_base.specs.declared.name.Binding.{Binding}
use Rattle.stx_base.specs.declared.name.Name.{Name}
use Rattle.stx_base.specs.declared.part.Part.{Part}
use Rattle.stx_base.specs.declared.part.Part.TheVariants as part
use Rattle.xml_names.specs.Tag.{is_good_binding}
use Rattle.result_writer.specs.Allowed.{are_chars, is_good_attribute, is_good_name, is_prefix}
use Rattle.result_writer.specs.declared.tag.HeldTag.{HeldTag}

-- a binding that a document may declare: of an NCName, or of none, to a URI of Chars (XML 1.0, 2.2; Namespaces in XML 1.0, 3 and 5)
abbrev pub is_sound_binding : Binding → Bool
is_sound_binding b = is_prefix b.prefix && are_chars b.uri && is_good_binding b.prefix b.uri

-- the name of an element, with a URI of Chars
abbrev pub is_sound_name : Name → Bool
is_sound_name n = is_good_name n && are_chars n.uri

-- an attribute, with a value and a URI of Chars
abbrev pub is_sound_attribute : Attr → Bool
is_sound_attribute a = is_good_attribute a.name && are_chars a.name.uri && are_chars a.value

-- a start tag of sound names, from where sound bindings are in force
abbrev pub is_sound_tag : HeldTag → Bool
is_sound_tag tag = is_sound_name tag.name && list_all is_sound_attribute tag.attrs && list_all is_sound_binding tag.scope

-- what no fault of a part speaks of: URIs are Chars, the bindings in force where an element comes from are sound, and a CDATA section
-- may have its text
abbrev pub is_readable_part : Part → Bool
is_readable_part (part.Start name scope) = are_chars name.uri && list_all is_sound_binding scope
is_readable_part (part.Attribute name value) = are_chars name.uri
is_readable_part (part.CData text) = is_cdata_text text
is_readable_part p = true
