-- What a run wrote is read back.
use Rattle.std.proofs.Common.{◌≡◌, true, List, [], ◌∷◌, ◌++◌, refl, subst, sym}
use Rattle.std.specs.Prelude.{◌+◌, codes}
use Rattle.std.specs.List.{list_all}
use Rattle.std.proofs.lemmas.Bool.{and_from, and_parts}
use Rattle.stx_base.specs.declared.part.Part.{Part}
use Rattle.stx_base.specs.declared.part.Part.TheVariants as part
use Rattle.read_back.specs.Laws.{ReadsContents, ReadsResults}
use Rattle.read_back.specs.Read.{Suffices, as_read, head, is_document, within}
use Rattle.read_back.specs.Sound.{is_readable_part, is_sound_binding}
use Rattle.result_writer.specs.Nodes.{forest}
use Rattle.result_writer.specs.Target.{nothing}
use Rattle.run_parts.specs.Back.{IsReadAs}
use Rattle.run_parts.specs.Laws.{EndsWhole, PutsGood, ReadsRuns, SettlesParts}
use Rattle.run_parts.specs.Parts.{parts_of}
use Rattle.run_parts.specs.Sound.{has_char_uris, is_part_of}

-- parts of sound bindings, whose URIs are Chars, can be read
readable : (p : Part) → is_part_of is_sound_binding p ≡ true → has_char_uris p ≡ true → is_readable_part p ≡ true
readable (part.Start name scope) h k = and_from _ _ k h
readable (part.Attribute name value) h k = k
readable (part.CData text) h k = h
readable (part.Chars text) h k = refl
readable (part.Comment text) h k = refl
readable (part.Pi target text) h k = refl
readable (part.End name) h k = refl

all_readable : (ps : List Part) → list_all (is_part_of is_sound_binding) ps ≡ true → list_all has_char_uris ps ≡ true → list_all is_readable_part ps ≡ true
all_readable [] h k = refl
all_readable (p ∷ ps) h k =
    let one = and_parts (is_part_of is_sound_binding p) (list_all (is_part_of is_sound_binding) ps) h in
    let uri = and_parts (has_char_uris p) (list_all has_char_uris ps) k in
    and_from _ _ (readable p one.0 uri.0) (all_readable ps one.1 uri.1)

pub reads_runs : SettlesParts → EndsWhole → PutsGood → ReadsResults → ReadsContents → ReadsRuns
reads_runs settled whole good results contents limits cdata given tree said ordinary declared sections ends uris =
    let ps = parts_of said in
    let limit = given.limits.elements in
    let none = whole given tree said ends in
    let sound = all_readable ps (good is_sound_binding given tree said _ ordinary declared sections ends) uris in
    let same = sym (settled nothing said) in
    record {
      content =
          subst
          (λ bytes.
          let all = codes "<r>" ++ bytes ++ codes "</r>" in
          Suffices limits all (limit + 1) → IsReadAs limits cdata all (within (as_read cdata (forest ps))))
          same (contents limits cdata limit ps none sound);
      whole =
          subst
          (λ bytes.
          let all = head ++ bytes in
          is_document (forest ps) ≡ true → Suffices limits all limit → IsReadAs limits cdata all (as_read cdata (forest ps)))
          same (results limits cdata limit ps none sound);
    }
