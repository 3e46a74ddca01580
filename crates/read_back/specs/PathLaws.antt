-- What laws of accepted parts and their names say.
use Rattle.std.specs.Prelude.{◌≡◌, ◌≢◌, ℕ, ◌<◌, ◌^◌, true, List, [], Some, None, codes, length, unwrap_or}
use Rattle.std.specs.List.{list_all}
use Rattle.stx_base.specs.declared.part.Part.{Part}
use Rattle.xml_names.specs.Scope as reader
use Rattle.result_writer.specs.Table as writer
use Rattle.result_writer.specs.Target.{first_fault, in_force, left_by, nothing}
use Rattle.result_writer.specs.declared.tag.HeldTag.{HeldTag}
use Rattle.read_back.specs.Laws.{IsRead}
use Rattle.read_back.specs.Paths.{path_from, path_of}
use Rattle.read_back.specs.Sound.{is_readable_part}

-- Behind accepted parts a reader of what they settle knows of each open element what its tag declared.
abbrev pub KnowsPath : Type 0
KnowsPath =
    (limit : ℕ) (ps : List Part)
    → first_fault limit nothing ps ≡ None
    → list_all is_readable_part ps ≡ true
    → length ps < 2 ^ 64
    → path_from [] nothing ps ≡ path_of (left_by nothing ps).elements

-- So each prefix is bound there to the URI that is in force, or to none where none is; `xml`, which no tag declares, is left aside.
abbrev pub KnowsBindings : Type 0
KnowsBindings =
    (limit : ℕ) (ps : List Part) (prefix : List ℕ)
    → first_fault limit nothing ps ≡ None
    → list_all is_readable_part ps ≡ true
    → length ps < 2 ^ 64
    → prefix ≢ codes "xml"
    → unwrap_or (reader.bound (path_from [] nothing ps) prefix) [] ≡ writer.bound (in_force (left_by nothing ps).elements) prefix

-- And the tag that is held back there is read, once it is settled, without a fault, as its own names, attributes and declarations.
abbrev pub ReadsHeldTags : Type 0
ReadsHeldTags =
    (limit : ℕ) (ps : List Part) (tag : HeldTag)
    → first_fault limit nothing ps ≡ None
    → list_all is_readable_part ps ≡ true
    → length ps < 2 ^ 64
    → (left_by nothing ps).held ≡ Some tag
    → IsRead (path_from [] nothing ps) (in_force (left_by nothing ps).elements) tag
