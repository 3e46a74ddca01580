-- What laws of the definitions say.
use Rattle.std.specs.Prelude.{◌≡◌, Bool, true, List, None}
use Rattle.std.specs.List.{list_all}
use Rattle.stx_base.specs.Course.{Ends}
use Rattle.stx_base.specs.declared.limits.Limits.{Limits}
use Rattle.stx_base.specs.declared.name.Binding.{Binding}
use Rattle.instr_code.specs.Code.{code_of}
use Rattle.read_back.specs.Sound.{is_sound_binding}
use Rattle.result_writer.specs.Target.{Left, first_fault, nothing, text_from, whole_fault}
use Rattle.template_machine.specs.Ending.{Done, Ending, Said}
use Rattle.template_machine.specs.Job.{Given}
use Rattle.template_machine.specs.Meaning.{code, meaning}
use Rattle.template_machine.specs.Ordinary.{IsOrdinary}
use Rattle.template_machine.specs.Written.{settled_by}
use Rattle.xml_events.specs.Tree.{Forest}
use Rattle.run_parts.specs.Back.{IsReadBack}
use Rattle.run_parts.specs.Parts.{parts_of}
use Rattle.run_parts.specs.Sound.{declares, declares_names, has_char_uris, holds_sections, is_part_of, is_sound_part}

-- The bytes of what is said are those of its parts.
abbrev pub SettlesParts : Type 0
SettlesParts = (l : Left) (said : List Said) → settled_by l said ≡ text_from l (parts_of said)

-- No part has a fault behind those before it, whatever the sheet does: a run stops at the first one that has.
abbrev pub PutsAccepted : Type 0
PutsAccepted =
    (given : Given) (tree : Forest) (said : List Said) (e : Ending)
    → Ends (code given) (meaning given tree) said e
    → first_fault given.limits.elements nothing (parts_of said) ≡ None

-- Where the sheet takes the nodes of the main document alone, each list in order, and no part goes elsewhere than to the output, all parts are
-- sound on a document that declares names as prefixes, and whose CDATA sections have texts that ones may have.
abbrev pub PutsSound : Type 0
PutsSound =
    (given : Given) (tree : Forest) (said : List Said) (e : Ending)
    → IsOrdinary (code_of given.sheet)
    → declares_names tree ≡ true
    → holds_sections tree ≡ true
    → Ends (code given) (meaning given tree) said e
    → list_all is_sound_part (parts_of said) ≡ true

-- Whichever bindings are good: if the document declares good ones alone, those are in force in the parts.
abbrev pub PutsGood : Type 0
PutsGood =
    (good : Binding → Bool) (given : Given) (tree : Forest) (said : List Said) (e : Ending)
    → IsOrdinary (code_of given.sheet)
    → declares good tree ≡ true
    → holds_sections tree ≡ true
    → Ends (code given) (meaning given tree) said e
    → list_all (is_part_of good) (parts_of said) ≡ true

-- A run that is done has put a whole result, whatever the sheet does.
abbrev pub EndsWhole : Type 0
EndsWhole =
    (given : Given) (tree : Forest) (said : List Said)
    → Ends (code given) (meaning given tree) said Done
    → whole_fault given.limits.elements (parts_of said) ≡ None

-- Where the run of an ordinary sheet is done on a document of sound declarations and sections, and all URIs of its parts are Chars, what it wrote
-- is read back as the nodes of these parts.
abbrev pub ReadsRuns : Type 0
ReadsRuns =
    (limits : Limits) (cdata : Bool) (given : Given) (tree : Forest) (said : List Said)
    → IsOrdinary (code_of given.sheet)
    → declares is_sound_binding tree ≡ true
    → holds_sections tree ≡ true
    → Ends (code given) (meaning given tree) said Done
    → list_all has_char_uris (parts_of said) ≡ true
    → IsReadBack limits cdata given.limits.elements said
