-- The texts of CDATA sections (XML 1.0, 2.7).
use Rattle.std.specs.Prelude.{Bool, true, List}
use Rattle.std.specs.List.{list_all}
use Rattle.stx_base.specs.Character.{is_cdata_text}
use Rattle.xml_events.specs.declared.event.Event.{Event}
use Rattle.xml_events.specs.declared.event.Event.TheVariants as event
use Rattle.event_buffers.specs.declared.kept.Kept.{Kept}
use Rattle.event_buffers.specs.declared.kept.Kept.TheVariants.{Start, End, Chars, CData, Comment, Pi}

-- the text of a section may be one
abbrev pub holds_text : Kept → Bool
holds_text (Start tag) = true
holds_text End = true
holds_text (Chars text) = true
holds_text (CData text) = is_cdata_text text
holds_text (Comment text) = true
holds_text (Pi target text) = true

abbrev pub tells_text : Event → Bool
tells_text (event.Start offset name attrs decls first) = true
tells_text (event.End offset) = true
tells_text (event.Chars offset text) = true
tells_text (event.CData offset text) = is_cdata_text text
tells_text (event.Comment offset text) = true
tells_text (event.Pi offset target text) = true
tells_text (event.DocumentEnd offset) = true

abbrev pub hold_texts : List Kept → Bool
hold_texts = list_all holds_text

abbrev pub tell_texts : List Event → Bool
tell_texts = list_all tells_text
