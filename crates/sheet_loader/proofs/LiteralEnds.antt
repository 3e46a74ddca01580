-- A literal element of a body is at its end.
use Rattle.std.proofs.Common.{◌≡◌, ℕ, false, List, [], ◌∷◌, ◌++◌, map, take, drop, Option, refl, ap, sym, ◌∙◌}
use Rattle.std.proofs.Math.Path.{subst}
use Rattle.std.proofs.Math.Seq.{drop-nil, take-nil}
use Rattle.std.proofs.lemmas.List.{append-nil}
use Rattle.std.specs.Option.{option_map}
use Rattle.stx_base.specs.declared.name.Name.{Name}
use Rattle.stxpath_syntax.specs.declared.dialect.Dialect.TheVariants.{One}
use Rattle.sheet_model.specs.declared.instr.Instr.TheVariants as instr
use Rattle.sheet_model.specs.declared.instr.LiteralAttr.{LiteralAttr}
use Rattle.xml_events.specs.Tree.{End, Future, Mark}
use Rattle.sheet_loader.proofs.Behind.{same_behind}
use Rattle.sheet_loader.proofs.Ends.{end_comes}
use Rattle.sheet_loader.proofs.Leaving.{goes_behind, known_anywhere, left, loading_left, sound_left, version_known}
use Rattle.sheet_loader.proofs.Places.{place_with}
use Rattle.sheet_loader.proofs.Resuming.{answer_then, equal_answer}
use Rattle.sheet_loader.proofs.Taking.{sound_with, takes_with}
use Rattle.sheet_loader.specs.Drafts.{frames_of, levels_in, loading_of}
use Rattle.sheet_loader.specs.Events.{stage_of, stage_within}
use Rattle.sheet_loader.specs.Known.{known}
use Rattle.sheet_loader.specs.Levels.{Place_in, place_in}
use Rattle.sheet_loader.specs.Making.{body}
use Rattle.sheet_loader.specs.Meant.{inside_of, item_of, version_of}
use Rattle.sheet_loader.specs.Reading as reading
use Rattle.sheet_loader.specs.Reading.{File}
use Rattle.sheet_loader.specs.Remaining.{Reads_on, goes_on, remaining, version_by}
use Rattle.sheet_loader.specs.Resuming.{SameAnswer}
use Rattle.sheet_loader.specs.Sound.{IsSound, IsSoundWithin, is_of_parts, is_outside}
use Rattle.sheet_loader.specs.Steps.{AddsItem}
use Rattle.sheet_loader.specs.Values.{Reads}
use Rattle.sheet_loader.specs.Versions.{Version}
use Rattle.sheet_loader.specs.declared.draft.Draft.{Draft}
use Rattle.sheet_loader.specs.declared.frame.Frame.{Frame}
use Rattle.sheet_loader.specs.declared.frame.Opened.TheVariants as opened
use Rattle.sheet_loader.specs.declared.register.Register.{Register}

module _ (f0 : Frame) (d new : Draft) (r : Register) (name : Name) (attrs : List LiteralAttr) where
  -- the list within, which is that of a literal element
  abbrev pub literal_frame : Frame
  literal_frame = record f0 { opened = opened.Literal name attrs }

  -- what the element comes to
  abbrev pub literal_at_end : reading.Item
  literal_at_end = reading.Instruction (instr.Literal name attrs (body (map item_of f0.items)) (record { file = d.file.number; offset = f0.at }))

  abbrev v0 : Version
  v0 = record { dialect = One; is_known = false }

  -- the draft without the list, but for the item
  abbrev before_item : Draft
  before_item = record d { register = r; file = record d.file { scope = take f0.around d.file.scope } }

  module _ (sound : IsSoundWithin literal_frame d) (leaves : known r ≡ record (known d.register) { locals = take f0.locals (known d.register).locals })
      (adds : AddsItem literal_at_end before_item new) where
    no_parts : d.parts ≡ []
    no_parts = (sound.frames.0 [] [] v0).no_parts refl

    same_parts : take f0.parts d.parts ≡ d.parts
    same_parts = ap (take f0.parts) no_parts ∙ take-nil f0.parts ∙ sym no_parts

    is_left : before_item ≡ left literal_frame d r
    is_left = ap (λ l. record before_item { parts = l }) (sym same_parts)

    adds_to_left : AddsItem literal_at_end (left literal_frame d r) new
    adds_to_left = subst (λ x. AddsItem literal_at_end x new) is_left adds

    sound_outer : IsSound (left literal_frame d r)
    sound_outer = sound_left literal_frame d r sound leaves (known_anywhere d.top.opened d.file.version sound.version) sound.files

    abbrev around : Place_in
    around = place_in [] [] v0 (levels_in (frames_of d) (record d.file { scope = take f0.around d.file.scope }) (take f0.parts d.parts))

    inner : is_outside (inside_of d.top.inside) ≡ false
    inner = ap is_outside (sound.frames.1.0 [] [] v0).inside ∙ same_behind is_outside refl around.before around.here.inside ∙ (sound.frames.0 [] [] v0).stands.1

    apart : is_of_parts (inside_of d.top.inside) ≡ false
    apart = ap is_of_parts (sound.frames.1.0 [] [] v0).inside ∙ same_behind is_of_parts refl around.before around.here.inside ∙ (sound.frames.0 [] [] v0).stands.2

    pub literal_end_sound : IsSound new
    literal_end_sound = sound_with (left literal_frame d r) new literal_at_end sound_outer adds_to_left refl refl inner apart

    pub literal_end_answer : (reads : Reads) (files : List (Option File)) (mark : Mark) (offset : ℕ) (f : Future)
        → SameAnswer reads files (remaining reads files (Reads_on (stage_within literal_frame d)) (End mark offset ∷ f)) (remaining reads files (Reads_on (stage_of new)) f)
    literal_end_answer reads files mark offset f =
        let taken = takes_with (left literal_frame d r) new literal_at_end sound_outer adds_to_left refl refl inner apart in
        let outer : Version → Place_in = λ v. place_in (loading_of d).sheet.files files v (levels_in (frames_of d) (record d.file { scope = take f0.around d.file.scope }) (take f0.parts d.parts)) in
        let v = version_by (option_map version_of d.file.version) (End mark offset ∷ f) in
        let made : List reading.Item → ℕ → reading.Item = λ items n. reading.Instruction (instr.Literal name attrs (body items) (record { file = n; offset = f0.at })) in
        let number : (outer v).here.file ≡ d.file.number = sym (sound.frames.0 (loading_of d).sheet.files files v).number in
        let items : map item_of f0.items ++ map reading.A_part (drop f0.parts d.parts) ≡ map item_of f0.items = ap (λ q. map item_of f0.items ++ map reading.A_part (drop f0.parts q)) no_parts ∙ ap (λ q. map item_of f0.items ++ map reading.A_part q) (drop-nil f0.parts) ∙ append-nil (map item_of f0.items) in
        answer_then reads files (end_comes reads files (stage_within literal_frame d) mark offset f)
        (equal_answer reads files
        (ap (λ l. goes_on reads files (place_with (made l (outer v).here.file ∷ []) (outer v)) (loading_of d) f) items
        ∙ ap (λ n. goes_on reads files (place_with (made (map item_of f0.items) n ∷ []) (outer v)) (loading_of d) f) number
        ∙ ap (λ w. goes_on reads files (place_with (literal_at_end ∷ []) (outer w)) (loading_of d) f) (version_known d.file.version (End mark offset ∷ f) f sound.version)
        ∙ ap (λ l. goes_on reads files (place_with (literal_at_end ∷ []) (outer (version_by (option_map version_of d.file.version) f))) l f) (sym (loading_left literal_frame d r sound leaves))
        ∙ goes_behind reads files (left literal_frame d r) new (literal_at_end ∷ []) taken f))
