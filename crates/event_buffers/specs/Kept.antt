-- What a buffer keeps of parts.
use Rattle.std.specs.Prelude.{List, [], ◌∷◌, ◌++◌, Option, Some, None}
use Rattle.std.specs.Option.{option_map, option_to_list}
use Rattle.stx_base.specs.declared.part.Part.{Part}
use Rattle.stx_base.specs.declared.part.Part.TheVariants as part
use Rattle.result_writer.specs.Opened.{settled_by}
use Rattle.result_writer.specs.Target.{Left, next, nothing}
use Rattle.event_buffers.specs.declared.kept.Kept.{Kept}
use Rattle.event_buffers.specs.declared.kept.Kept.TheVariants.{Start, End, Chars, CData, Comment, Pi}

-- a part itself; a start and its attributes are kept as a tag, once that is settled
abbrev pub kept : Part → Option Kept
kept (part.Start name scope) = None
kept (part.Attribute name value) = None
kept (part.End name) = Some End
kept (part.Chars text) = Some (Chars text)
kept (part.CData text) = Some (CData text)
kept (part.Comment text) = Some (Comment text)
kept (part.Pi target text) = Some (Pi target text)

abbrev pub kept_beside : Option Part → Option Kept
kept_beside None = None
kept_beside (Some p) = kept p

-- what a part adds to what is kept: the tag that it settles, with what that declares, and then itself
abbrev pub added : Left → Part → List Kept
added l p = option_to_list (option_map Start (settled_by l p)) ++ option_to_list (kept p)

-- what is kept of parts, the first of which is put where others left this
abbrev pub kept_from : Left → List Part → List Kept
kept_from l [] = []
kept_from l (p ∷ ps) = added l p ++ kept_from (next l p) ps

abbrev pub kept_of : List Part → List Kept
kept_of = kept_from nothing
