-- An element of a buffer's content begins.
use Rattle.std.proofs.Common.{◌≡◌, ℕ, ◌≤◌, true, false, List, [], ◌∷◌, ◌++◌, length, map, reverse, take, drop, Option, is_some, refl, ap, sym, ◌∙◌, arith}
use Rattle.std.proofs.Math.Path.{subst}
use Rattle.std.proofs.Math.Seq.{drop-append_seam, drop-length, take-append_seam, take-length}
use Rattle.std.proofs.lemmas.List.{append-nil, length-append, take-append-drop}
use Rattle.std.specs.List.{flat_map}
use Rattle.std.specs.Option.{option_map}
use Rattle.stx_base.specs.declared.node.First.{First}
use Rattle.xml_events.specs.Document.{inner}
use Rattle.xml_events.specs.Tree.{Future}
use Rattle.stx_base.specs.declared.name.Attr.{Attr}
use Rattle.stx_base.specs.declared.name.Name.{Name}
use Rattle.stx_base.specs.declared.part.Part.{Part}
use Rattle.stx_base.specs.declared.part.Part.TheVariants as part
use Rattle.sheet_model.specs.Names.{is_among}
use Rattle.sheet_loader.proofs.Behind.{same_behind}
use Rattle.sheet_loader.proofs.Leaving.{version_known}
use Rattle.sheet_loader.proofs.Pushing.{behind_none, pushed_fit, pushed_levels, turned}
use Rattle.sheet_loader.proofs.Resuming.{equal_answer}
use Rattle.sheet_loader.specs.Drafts.{attribute_in, before_tag, element_of, frames_of, level_in, levels_in, levels_of, loading_of}
use Rattle.sheet_loader.specs.Elements.{Inside, Document, Declarations, Start_of_body, Body, Branches, With_params, Characters, Parts, Nothing}
use Rattle.sheet_loader.specs.Events.{begins, place_at, stage_of, then_next}
use Rattle.sheet_loader.specs.Keys.{names_in}
use Rattle.sheet_loader.specs.Known.{known}
use Rattle.sheet_loader.specs.Levels.{A_part, entered, place_in}
use Rattle.sheet_loader.specs.Meant.{inside_of, version_of}
use Rattle.sheet_loader.specs.Read.{copied}
use Rattle.sheet_loader.specs.Reading.{Does, File, Listed}
use Rattle.sheet_loader.specs.Remaining.{Reads_on, goes_on, remaining, version_by}
use Rattle.sheet_loader.specs.Resuming.{SameAnswer}
use Rattle.sheet_loader.specs.Sound.{AreFit, AreNamed, AreStart, IsFit, IsSound, is_of_parts, is_outside, numbers_of}
use Rattle.sheet_loader.specs.Steps.{start_parts}
use Rattle.sheet_loader.specs.Values.{Reads}
use Rattle.sheet_loader.specs.Versions.{Version}
use Rattle.sheet_loader.specs.declared.draft.Draft.{Draft}
use Rattle.sheet_loader.specs.declared.element.StartTag.{StartTag}
use Rattle.sheet_loader.specs.declared.frame.Frame.{Frame}
use Rattle.sheet_loader.specs.declared.frame.OpenFile.{OpenFile}
use Rattle.sheet_loader.specs.declared.frame.Opened.TheVariants as opened
use Rattle.sheet_loader.specs.declared.inside.Before.TheVariants as before
use Rattle.sheet_loader.specs.declared.inside.Inside.TheVariants as inside
use Rattle.sheet_loader.specs.declared.names.NameSet.{NameSet}

attributes_back : (attrs : List Attr) → flat_map attribute_in (map (λ (a : Attr). part.Attribute a.name a.value) attrs) ≡ attrs
attributes_back [] = refl
attributes_back (a ∷ attrs) = ap (λ l. a ∷ l) (attributes_back attrs)

parts_only : (i : Inside) → is_of_parts i ≡ true → i ≡ Parts
parts_only (Document b) e = cc
parts_only (Declarations b) e = cc
parts_only Start_of_body e = cc
parts_only Body e = cc
parts_only Branches e = cc
parts_only With_params e = cc
parts_only (Characters b) e = cc
parts_only Parts e = refl
parts_only Nothing e = cc

first_none : {A : Type 0} (xs ys : List A) → xs ++ ys ≡ [] → xs ≡ []
first_none [] ys e = refl
first_none (x ∷ xs) ys e = cc

truly : true ≡ false → ⊥
truly e = cc

are_start : (name : Name) (attrs : List Attr) → AreStart name (start_parts name attrs)
are_start name attrs = ap (λ l. part.Start name [] ∷ map (λ (a : Attr). part.Attribute a.name a.value) l) (sym (attributes_back attrs))

module _ (d : Draft) (tag : StartTag) (given : NameSet) where
  abbrev parts_then : List Part
  parts_then = d.parts ++ start_parts tag.name tag.attrs

  -- the list of the element
  abbrev pub part_list : Frame
  part_list = record {
    opened = opened.Part tag.name (length d.parts);
    inside = inside.Parts;
    at = tag.offset;
    group = d.top.group;
    pass = d.top.pass;
    items = [];
    before = before.Something;
    given = given;
    locals = length (known d.register).locals;
    around = tag.around;
    parts = length parts_then;
  }

  abbrev file_then : OpenFile
  file_then = record d.file { scope = take tag.around d.file.scope }

  module _ (sound : IsSound (before_tag d tag.around)) (declared : tag.around ≤ length d.file.scope) (inside : is_of_parts (inside_of d.top.inside) ≡ true) (none : names_in given ≡ []) where
    attrs_then : flat_map attribute_in (drop (length d.parts) (take (length parts_then) parts_then)) ≡ tag.attrs
    attrs_then =
        ap (λ l. flat_map attribute_in (drop (length d.parts) l)) (take-length parts_then)
        ∙ ap (flat_map attribute_in) (drop-append_seam d.parts (start_parts tag.name tag.attrs))
        ∙ attributes_back tag.attrs

    begins_then : AreStart tag.name (drop (length d.parts) (take (length parts_then) parts_then))
    begins_then =
        subst (AreStart tag.name) (sym (ap (drop (length d.parts)) (take-length parts_then) ∙ drop-append_seam d.parts (start_parts tag.name tag.attrs))) (are_start tag.name tag.attrs)

    fit : (names : List (List ℕ)) (files : List (Option File)) (version : Version)
        → let q = place_in names files version (levels_in (frames_of d) file_then d.parts) in
        IsFit part_list (frames_of d) d.file parts_then (known d.register).locals
        (entered names files version (A_part tag.name (flat_map attribute_in (drop (length d.parts) (take (length parts_then) parts_then))))
        (record (level_in part_list d.file parts_then) { before = [] }) q) q
    fit names files version =
        let h = sound.frames.0 names files version in
        let q = place_in names files version (levels_in (frames_of d) file_then d.parts) in
        let at_parts : is_of_parts q.here.inside ≡ true = sym (ap is_of_parts h.inside ∙ same_behind is_of_parts refl q.before q.here.inside) ∙ inside in
        let is_parts = parts_only q.here.inside at_parts in
        let n = length-append d.parts (start_parts tag.name tag.attrs) in
        let no_locals = h.outside (ap is_outside is_parts) in
        record {
          stands = (omega (arith, n), begins_then, at_parts);
          bottom = λ o. cc;
          inside = sym is_parts ∙ sym (behind_none q.here.inside);
          before = refl;
          at = refl;
          group = h.group;
          pass = h.pass;
          number = h.number;
          scope = sym (take-append-drop tag.around d.file.scope) ∙ ap (λ l. l ++ drop tag.around d.file.scope) h.scope;
          declared = declared;
          given = λ n. ap (λ l. is_among l n) none;
          locals = λ n. h.locals n ∙ ap (λ l. is_among l n) (no_locals ∙ sym (append-nil q.here.locals ∙ first_none q.here.locals _ no_locals));
          brought = omega arith;
          outside = λ o. append-nil q.here.locals ∙ first_none q.here.locals _ no_locals;
          parts = omega arith;
          no_parts = λ o. absurd (truly (sym at_parts ∙ o));
          parts_alone = λ o. refl;
        }

    pub part_list_fit : AreFit (part_list ∷ frames_of d) d.file parts_then (known d.register).locals
    part_list_fit =
        pushed_fit part_list (frames_of d) d.file file_then parts_then d.parts (known d.register).locals (known d.register).locals
        refl (drop-length parts_then) refl (take-append_seam d.parts (start_parts tag.name tag.attrs)) (take-length (known d.register).locals) fit sound.frames

    pub part_list_levels : levels_in (part_list ∷ frames_of d) d.file parts_then
        ≡ record { what = A_part tag.name tag.attrs; at = tag.offset; decls = drop tag.around d.file.scope; group = d.top.group; before = [] } ∷ levels_of (before_tag d tag.around)
    part_list_levels =
        pushed_levels part_list (frames_of d) d.file file_then parts_then d.parts (known d.register).locals (known d.register).locals
        refl (drop-length parts_then) refl (take-append_seam d.parts (start_parts tag.name tag.attrs))
        ∙ ap (λ l. record { what = A_part tag.name l; at = tag.offset; decls = drop tag.around d.file.scope; group = d.top.group; before = [] } ∷ levels_of (before_tag d tag.around)) attrs_then

    module _ (new : Draft) (version : is_some d.file.version ≡ true) (is : new ≡ record d { parts = parts_then; top = part_list; below = new.below }) (below : new.below.items ≡ d.below.items ++ d.top ∷ []) where
      abbrev then_draft : Draft
      then_draft = record d { parts = parts_then; top = part_list; below = new.below }

      turned_below : reverse new.below.items ≡ frames_of d
      turned_below = ap reverse below ∙ turned d.below.items d.top

      pub part_start_sound : IsSound new
      part_start_sound = subst IsSound (sym is) after where
        after : IsSound then_draft
        after = record {
          frames = subst (λ l. AreFit (part_list ∷ l) d.file parts_then (known d.register).locals) (sym turned_below) part_list_fit;
          version = version;
          declares = sound.declares;
          files = subst (λ l. AreNamed (numbers_of (part_list ∷ l) d.file) then_draft) (sym turned_below) (record { known = sound.files.known; kept = sound.files.kept });
        }

      levels_are : levels_of new ≡ record { what = A_part tag.name tag.attrs; at = tag.offset; decls = drop tag.around d.file.scope; group = d.top.group; before = [] } ∷ levels_of (before_tag d tag.around)
      levels_are = ap levels_of is ∙ ap (λ l. levels_in (part_list ∷ l) d.file parts_then) turned_below ∙ part_list_levels

      pub part_start_answer : (reads : Reads) (files : List (Option File)) (first : First) (f : Future)
          → let e = element_of tag d in
          let p = place_at files (begins e first f) (before_tag d tag.around) in
          SameAnswer reads files (then_next reads files p (copied reads files p.here e (inner f) (loading_of d)) f) (remaining reads files (Reads_on (stage_of new)) f)
      part_start_answer reads files first f =
          let e = element_of tag d in
          let names = (loading_of d).sheet.files in
          let goes : Version → Does Listed = λ v. goes_on reads files (place_in names files v (record { what = A_part tag.name tag.attrs; at = tag.offset; decls = drop tag.around d.file.scope; group = d.top.group; before = [] } ∷ levels_of (before_tag d tag.around))) (loading_of d) f in
          equal_answer reads files
          (ap goes (version_known d.file.version (begins e first f) f version)
          ∙ ap (λ l. goes_on reads files (place_in names files (version_by (option_map version_of d.file.version) f) l) (loading_of d) f) (sym levels_are)
          ∙ ap (λ v. goes_on reads files (place_in names files (version_by (option_map version_of v) f) (levels_of new)) (loading_of d) f) (sym (ap (λ x. x.file.version) is))
          ∙ ap (λ l. goes_on reads files (place_in l.sheet.files files (version_by (option_map version_of new.file.version) f) (levels_of new)) l f) (sym (ap loading_of is)))
