-- An element of a buffer's content is at its end.
use Rattle.std.proofs.Common.{◌≡◌, ℕ, ◌≤◌, true, false, List, [], ◌∷◌, ◌++◌, length, map, take, drop, Option, refl, ap, sym, ◌∙◌, arith}
use Rattle.std.proofs.lemmas.List.{append_assoc, drop-append-le, length-take-le, take-append-drop}
use Rattle.std.proofs.lemmas.Grind.{flat_map-append}
use Rattle.std.specs.List.{flat_map}
use Rattle.std.specs.Option.{option_map}
use Rattle.stx_base.specs.declared.name.Attr.{Attr}
use Rattle.stx_base.specs.declared.name.Name.{Name}
use Rattle.stx_base.specs.declared.part.Part.{Part}
use Rattle.stx_base.specs.declared.part.Part.TheVariants as part
use Rattle.stxpath_syntax.specs.declared.dialect.Dialect.TheVariants.{One}
use Rattle.xml_events.specs.Tree.{Element, End, Future, Mark}
use Rattle.sheet_loader.proofs.Behind.{same_behind}
use Rattle.sheet_loader.proofs.Ends.{end_comes}
use Rattle.sheet_loader.proofs.Leaving.{goes_behind, known_anywhere, left, loading_left, sound_left, version_known}
use Rattle.sheet_loader.proofs.Parting.{sound_with_parts, takes_parts}
use Rattle.sheet_loader.proofs.Places.{place_with}
use Rattle.sheet_loader.proofs.Resuming.{answer_then, equal_answer}
use Rattle.sheet_loader.specs.Drafts.{attribute_in, frames_of, levels_in, loading_of}
use Rattle.sheet_loader.specs.Events.{stage_of, stage_within}
use Rattle.sheet_loader.specs.Known.{known}
use Rattle.sheet_loader.specs.Levels.{Place_in, place_in}
use Rattle.sheet_loader.specs.Making.{parts, parts_of_item}
use Rattle.sheet_loader.specs.Meant.{inside_of, item_of, version_of}
use Rattle.sheet_loader.specs.Read.{element_parts}
use Rattle.sheet_loader.specs.Reading as reading
use Rattle.sheet_loader.specs.Reading.{File}
use Rattle.sheet_loader.specs.Remaining.{Reads_on, goes_on, remaining, version_by}
use Rattle.sheet_loader.specs.Resuming.{SameAnswer}
use Rattle.sheet_loader.specs.Sound.{AreStart, IsSound, IsSoundWithin, is_of_parts}
use Rattle.sheet_loader.specs.Values.{Reads}
use Rattle.sheet_loader.specs.Versions.{Version}
use Rattle.sheet_loader.specs.declared.draft.Draft.{Draft}
use Rattle.sheet_loader.specs.declared.frame.Frame.{Frame}
use Rattle.sheet_loader.specs.declared.frame.Opened.TheVariants as opened
use Rattle.sheet_loader.specs.declared.item.Item.{Item}
use Rattle.sheet_loader.specs.declared.item.Item.TheVariants as item
use Rattle.sheet_loader.specs.declared.register.Register.{Register}

-- the program's items are no parts
no_part : (x : Item) → parts_of_item (item_of x) ≡ []
no_part (item.Instruction i) = refl
no_part (item.If test body at) = refl
no_part (item.Else other) = refl
no_part (item.Local name select at) = refl
no_part (item.Branch w) = refl
no_part (item.Otherwise body) = refl
no_part (item.Param v) = refl
no_part (item.Value v) = refl
no_part (item.Text text) = refl

no_parts_in : (items : List Item) → parts (map item_of items) ≡ []
no_parts_in [] = refl
no_parts_in (x ∷ items) = ap (λ l. l ++ parts (map item_of items)) (no_part x) ∙ no_parts_in items

parts_in : (ps : List Part) → parts (map reading.A_part ps) ≡ ps
parts_in [] = refl
parts_in (p ∷ ps) = ap (λ l. p ∷ l) (parts_in ps)

-- the parts of a list of a buffer's content
pub parts_of_list : (items : List Item) (ps : List Part) → parts (map item_of items ++ map reading.A_part ps) ≡ ps
parts_of_list items ps =
    flat_map-append parts_of_item (map item_of items) (map reading.A_part ps)
    ∙ ap (λ l. l ++ parts (map reading.A_part ps)) (no_parts_in items)
    ∙ parts_in ps

take_apart : (k start : ℕ) (ps : List Part) → k ≤ start → start ≤ length ps → drop k ps ≡ drop k (take start ps) ++ drop start ps
take_apart k start ps h g =
    let n = length-take-le start ps g in
    let le : k ≤ length (take start ps) = omega (arith, n, h) in
    ap (drop k) (sym (take-append-drop start ps)) ∙ drop-append-le k (take start ps) (drop start ps) le

-- Behind the end of an element stand the parts before it, its start with its attributes, what it holds, and its end.
pub parts_at_end : (k start until : ℕ) (ps : List Part) (name : Name) → k ≤ start → start ≤ until → until ≤ length ps → AreStart name (drop start (take until ps))
    → drop k (ps ++ part.End name ∷ [])
    ≡ drop k (take start ps) ++ (part.Start name [] ∷ (map (λ (a : Attr). part.Attribute a.name a.value) (flat_map attribute_in (drop start (take until ps))) ++ drop until ps ++ part.End name ∷ []))
parts_at_end k start until ps name h g u s =
    let le : k ≤ length ps = omega (arith, h, g, u) in
    let lf : start ≤ length ps = omega (arith, g, u) in
    drop-append-le k ps (part.End name ∷ []) le
    ∙ ap (λ l. l ++ part.End name ∷ []) (take_apart k start ps h lf)
    ∙ append_assoc (drop k (take start ps)) (drop start ps) (part.End name ∷ [])
    ∙ ap (λ l. drop k (take start ps) ++ (l ++ part.End name ∷ [])) (take_apart start until ps g u ∙ ap (λ l. l ++ drop until ps) s)

module _ (f0 : Frame) (d new : Draft) (r : Register) (name : Name) (start : ℕ) where
  -- the list within, which is that of an element of a buffer's content
  abbrev pub part_frame : Frame
  part_frame = record f0 { opened = opened.Part name start }

  abbrev v0 : Version
  v0 = record { dialect = One; is_known = false }

  -- the element, written as parts
  abbrev added : List Part
  added = part.Start name [] ∷ (map (λ (a : Attr). part.Attribute a.name a.value) (flat_map attribute_in (drop start (take f0.parts d.parts))) ++ drop f0.parts d.parts ++ part.End name ∷ [])

  module _ (sound : IsSoundWithin part_frame d) (leaves : known r ≡ record (known d.register) { locals = take f0.locals (known d.register).locals })
      (is : new ≡ record d { register = r; file = record d.file { scope = take f0.around d.file.scope }; parts = d.parts ++ part.End name ∷ [] }) where
    inside : is_of_parts (inside_of d.top.inside) ≡ true
    inside =
        let fit = sound.frames.0 [] [] v0 in
        let h = sound.frames.1.0 [] [] v0 in
        let q = place_in [] [] v0 (levels_in (frames_of d) (record d.file { scope = take f0.around d.file.scope }) (take start d.parts)) in
        ap is_of_parts h.inside ∙ same_behind is_of_parts refl q.before q.here.inside ∙ fit.stands.2

    takes : new ≡ record (left part_frame d r) { parts = (left part_frame d r).parts ++ added }
    takes =
        let fit = sound.frames.0 [] [] v0 in
        is ∙ ap (λ l. record d { register = r; file = record d.file { scope = take f0.around d.file.scope }; parts = l })
        (parts_at_end 0 start f0.parts d.parts name (omega arith) fit.stands.0 fit.parts fit.stands.1)

    sound_outer : IsSound (left part_frame d r)
    sound_outer = sound_left part_frame d r sound leaves (known_anywhere d.top.opened d.file.version sound.version) sound.files

    pub part_end_sound : IsSound new
    part_end_sound = sound_with_parts (left part_frame d r) new added sound_outer inside takes

    pub part_end_answer : (reads : Reads) (files : List (Option File)) (mark : Mark) (offset : ℕ) (f : Future)
        → SameAnswer reads files (remaining reads files (Reads_on (stage_within part_frame d)) (End mark offset ∷ f)) (remaining reads files (Reads_on (stage_of new)) f)
    part_end_answer reads files mark offset f =
        let taken = takes_parts (left part_frame d r) new added sound_outer inside takes in
        let outer : Version → Place_in = λ v. place_in (loading_of d).sheet.files files v (levels_in (frames_of d) (record d.file { scope = take f0.around d.file.scope }) (take start d.parts)) in
        let v = version_by (option_map version_of d.file.version) (End mark offset ∷ f) in
        let e : Element = record { offset = f0.at; name = name; attrs = flat_map attribute_in (drop start (take f0.parts d.parts)); decls = drop f0.around d.file.scope } in
        answer_then reads files (end_comes reads files (stage_within part_frame d) mark offset f)
        (equal_answer reads files
        (ap (λ l. goes_on reads files (place_with (map reading.A_part (element_parts reads files e l)) (outer v)) (loading_of d) f) (parts_of_list f0.items (drop f0.parts d.parts))
        ∙ ap (λ w. goes_on reads files (place_with (map reading.A_part added) (outer w)) (loading_of d) f) (version_known d.file.version (End mark offset ∷ f) f sound.version)
        ∙ ap (λ l. goes_on reads files (place_with (map reading.A_part added) (outer (version_by (option_map version_of d.file.version) f))) l f) (sym (loading_left part_frame d r sound leaves))
        ∙ goes_behind reads files (left part_frame d r) new (map reading.A_part added) taken f))
