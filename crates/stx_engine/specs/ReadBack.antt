-- What a run wrote, read back.
use Rattle.std.specs.Prelude.{◌≡◌, ℕ, Bool, true, List}
use Rattle.std.specs.List.{list_all}
use Rattle.stx_base.specs.Course.{Over}
use Rattle.stx_base.specs.declared.limits.Limits.{Limits}
use Rattle.run_parts.specs.Back.{IsReadBack}
use Rattle.run_parts.specs.Parts.{parts_of}
use Rattle.run_parts.specs.Sound.{has_char_uris}
use Rattle.template_machine.specs.Ending.{Done, Said}
use Rattle.template_machine.specs.Outcome.{outcome}
use Rattle.sheet_runs.specs.Meant.{tree_of}
use Rattle.stx_engine.specs.Answer.{Asked_for, document_of, given_of, written}

-- These bytes are what the sheet means to write on the document's tree, where it is done, and they are read back as its nodes, by whatever
-- limits suffice, as long as all URIs in it are Chars.
pub record IsRead (k : Asked_for) (main out : List ℕ) : Type 0 where
  pub said : List Said
  pub meant : outcome (given_of k) (tree_of (given_of k) (record { bytes = document_of k.command.mode main; ended = true })) ≡ Over said Done
  pub wrote : out ≡ written said
  pub read : list_all has_char_uris (parts_of said) ≡ true → (limits : Limits) (cdata : Bool) → IsReadBack limits cdata k.command.limits.elements said
