-- A literal element of a body begins.
use Rattle.std.proofs.Common.{◌≡◌, ℕ, ◌≤◌, true, false, List, [], ◌∷◌, ◌++◌, length, reverse, take, drop, Option, Some, None, is_some, refl, ap, sym, ◌∙◌, arith}
use Rattle.std.proofs.Math.Path.{subst}
use Rattle.std.proofs.Math.Seq.{drop-length, take-length}
use Rattle.std.proofs.lemmas.List.{append-nil, take-append-drop}
use Rattle.std.specs.Option.{option_map}
use Rattle.stx_base.specs.declared.node.First.{First}
use Rattle.sheet_model.specs.Names.{is_among}
use Rattle.sheet_model.specs.declared.instr.LiteralAttr.{LiteralAttr}
use Rattle.xml_events.specs.Tree.{Future}
use Rattle.sheet_loader.proofs.Adding.{none_of}
use Rattle.sheet_loader.proofs.Behind.{same_behind}
use Rattle.sheet_loader.proofs.Leaving.{version_known}
use Rattle.sheet_loader.proofs.Pushing.{pushed_fit, pushed_levels, turned}
use Rattle.sheet_loader.specs.Drafts.{before_tag, element_of, frames_of, levels_in, levels_of, loading_of, version_in, version_or_default}
use Rattle.sheet_loader.specs.Elements.{Inside, Document, Declarations, Start_of_body, Body, Branches, With_params, Characters, Parts, Nothing, allows_literals}
use Rattle.sheet_loader.specs.Events.{begins, place_at, stage_of}
use Rattle.sheet_loader.specs.Judging.{locals_at}
use Rattle.sheet_loader.specs.Keys.{names_in}
use Rattle.sheet_loader.specs.Known.{Knows, known}
use Rattle.sheet_loader.specs.Levels.{A_file, A_literal, A_part, An_element, Level, Place_in, The_sheet, What, entered, place_in, version_around}
use Rattle.sheet_loader.specs.Meant.{inside_of, version_of}
use Rattle.sheet_loader.specs.Reading.{File}
use Rattle.sheet_loader.specs.Remaining.{Reads_on, goes_on, remaining, version_by}
use Rattle.sheet_loader.specs.Resuming.{Of_literal, attributes_read, in_literal}
use Rattle.sheet_loader.specs.Sound.{AreFit, AreNamed, IsFit, IsSound, is_of_parts, is_outside, numbers_of}
use Rattle.sheet_loader.specs.Values.{Reads}
use Rattle.sheet_loader.specs.Versions.{Version}
use Rattle.sheet_loader.specs.declared.draft.Draft.{Draft}
use Rattle.sheet_loader.specs.declared.element.StartTag.{StartTag}
use Rattle.sheet_loader.specs.declared.frame.Frame.{Frame}
use Rattle.sheet_loader.specs.declared.frame.OpenFile.{OpenFile}
use Rattle.sheet_loader.specs.declared.frame.Opened.TheVariants as opened
use Rattle.sheet_loader.specs.declared.frame.Version as frame
use Rattle.sheet_loader.specs.declared.inside.Before.TheVariants as before
use Rattle.sheet_loader.specs.declared.inside.Inside.TheVariants as inside
use Rattle.sheet_loader.specs.declared.names.NameSet.{NameSet}
use Rattle.sheet_loader.specs.declared.register.Register.{Register}

-- literal elements stand in bodies, if not in a buffer's content
literal_inside : (i : Inside) → allows_literals i ≡ true → is_of_parts i ≡ false → is_outside i ≡ false
literal_inside (Document b) e a = cc
literal_inside (Declarations b) e a = cc
literal_inside Start_of_body e a = refl
literal_inside Body e a = refl
literal_inside Branches e a = refl
literal_inside With_params e a = refl
literal_inside (Characters b) e a = refl
literal_inside Parts e a = cc
literal_inside Nothing e a = refl

version_entered : (names : List (List ℕ)) (files : List (Option File)) (version : Version) (what : What) (x : Level) (around : Place_in) → (around.here.version ≡ version_around version what) → (entered names files version what x around).here.version ≡ version
version_entered names files version The_sheet x around e = refl
version_entered names files version (A_file number outer) x around e = refl
version_entered names files version (An_element kind v) x around e = e
version_entered names files version (A_literal name attrs) x around e = e
version_entered names files version (A_part name attrs) x around e = e

-- the version of a place is that of its file
pub version_in_place : (names : List (List ℕ)) (files : List (Option File)) (version : Version) (levels : List Level) → (place_in names files version levels).here.version ≡ version
version_in_place names files version [] = refl
version_in_place names files version (x ∷ levels) =
    version_entered names files version x.what x (place_in names files (version_around version x.what) levels) (version_in_place names files (version_around version x.what) levels)

pub version_is : (file : OpenFile) (f : Future) → is_some file.version ≡ true → version_by (option_map version_of file.version) f ≡ version_in file
version_is file f e = of_some file.version e where
  of_some : (o : Option frame.Version) → is_some o ≡ true → version_by (option_map version_of o) f ≡ version_of (version_or_default o)
  of_some None e = cc
  of_some (Some v) e = refl

module _ (d : Draft) (tag : StartTag) (given : NameSet) (attrs : List LiteralAttr) (r : Register) where
  -- the list of the element
  abbrev pub literal_list : Frame
  literal_list = record {
    opened = opened.Literal tag.name attrs;
    inside = inside.Body;
    at = tag.offset;
    group = d.top.group;
    pass = d.top.pass;
    items = [];
    before = before.Something;
    given = given;
    locals = length (known r).locals;
    around = tag.around;
    parts = length d.parts;
  }

  abbrev file_then : OpenFile
  file_then = record d.file { scope = take tag.around d.file.scope }

  abbrev fresh_level : Level
  fresh_level = record { what = A_literal tag.name attrs; at = tag.offset; decls = drop tag.around d.file.scope; group = d.top.group; before = [] }

  module _ (sound : IsSound (before_tag d tag.around)) (declared : tag.around ≤ length d.file.scope) (allowed : allows_literals (inside_of d.top.inside) ≡ true) (apart : is_of_parts (inside_of d.top.inside) ≡ false) (none : names_in given ≡ []) (locals : (known r).locals ≡ (known d.register).locals) where
    no_parts : d.parts ≡ []
    no_parts = none_of d.top (reverse d.below.items) file_then d.parts (known d.register).locals sound.frames apart

    fit : (names : List (List ℕ)) (files : List (Option File)) (version : Version)
        → let q = place_in names files version (levels_in (frames_of d) file_then d.parts) in
        IsFit literal_list (frames_of d) d.file d.parts (known r).locals (entered names files version (A_literal tag.name attrs) fresh_level q) q
    fit names files version =
        let h = sound.frames.0 names files version in
        let q = place_in names files version (levels_in (frames_of d) file_then d.parts) in
        let outside = sym (ap is_outside h.inside ∙ same_behind is_outside refl q.before q.here.inside) ∙ literal_inside (inside_of d.top.inside) allowed apart in
        let no_part = sym (ap is_of_parts h.inside ∙ same_behind is_of_parts refl q.before q.here.inside) ∙ apart in
        record {
          stands = (ap length no_parts, outside, no_part);
          bottom = λ o. cc;
          inside = refl;
          before = refl;
          at = refl;
          group = h.group;
          pass = h.pass;
          number = h.number;
          scope = sym (take-append-drop tag.around d.file.scope) ∙ ap (λ l. l ++ drop tag.around d.file.scope) h.scope;
          declared = declared;
          given = λ n. ap (λ l. is_among l n) none;
          locals = λ n. ap (λ l. is_among l n) locals ∙ h.locals n ∙ ap (λ l. is_among l n) (sym (append-nil (locals_at q.here q.before)));
          brought = omega arith;
          outside = λ o. cc;
          parts = omega arith;
          no_parts = λ o. no_parts;
          parts_alone = λ o. cc;
        }

    literal_list_fit : AreFit (literal_list ∷ frames_of d) d.file d.parts (known r).locals
    literal_list_fit =
        pushed_fit literal_list (frames_of d) d.file file_then d.parts d.parts (known r).locals (known d.register).locals
        refl (drop-length d.parts) refl (take-length d.parts) (take-length (known r).locals ∙ locals) fit sound.frames

    module _ (new : Draft) (version : is_some d.file.version ≡ true) (declares : (known r).declares ≡ (known d.register).declares) (is : new ≡ record d { register = r; top = literal_list; below = new.below }) (below : new.below.items ≡ d.below.items ++ d.top ∷ []) where
      abbrev then_draft : Draft
      then_draft = record d { register = r; top = literal_list; below = new.below }

      turned_below : reverse new.below.items ≡ frames_of d
      turned_below = ap reverse below ∙ turned d.below.items d.top

      pub literal_start_sound : IsSound new
      literal_start_sound = subst IsSound (sym is) after where
        after : IsSound then_draft
        after = record {
          frames = subst (λ l. AreFit (literal_list ∷ l) d.file d.parts (known r).locals) (sym turned_below) literal_list_fit;
          version = version;
          declares = subst (λ k. Knows k (loading_of d).sheet) (sym declares) sound.declares;
          files = subst (λ l. AreNamed (numbers_of (literal_list ∷ l) d.file) then_draft) (sym turned_below) (record { known = sound.files.known; kept = sound.files.kept });
        }

      levels_are : levels_of new ≡ fresh_level ∷ levels_of (before_tag d tag.around)
      levels_are =
          ap levels_of is ∙ ap (λ l. levels_in (literal_list ∷ l) d.file d.parts) turned_below
          ∙ pushed_levels literal_list (frames_of d) d.file file_then d.parts d.parts (known r).locals (known d.register).locals refl (drop-length d.parts) refl (take-length d.parts)

      -- the element is open from then on
      pub literal_start_goes : (reads : Reads) (files : List (Option File)) (first : First) (f : Future)
          → let e = element_of tag d in
          let p = place_at files (begins e first f) (before_tag d tag.around) in
          loading_of new ≡ attributes_read p.here p.before e attrs (loading_of d)
          → goes_on reads files (record { here = in_literal p.here p.before e; before = []; opens = Of_literal p.here p.before e attrs ∷ p.opens }) (attributes_read p.here p.before e attrs (loading_of d)) f
          ≡ remaining reads files (Reads_on (stage_of new)) f
      literal_start_goes reads files first f is_read =
          let e = element_of tag d in
          let p = place_at files (begins e first f) (before_tag d tag.around) in
          let names = (loading_of d).sheet.files in
          let l = attributes_read p.here p.before e attrs (loading_of d) in
          ap (λ v. goes_on reads files (place_in names files v (fresh_level ∷ levels_of (before_tag d tag.around))) l f) (version_known d.file.version (begins e first f) f version)
          ∙ ap (λ x. goes_on reads files (place_in names files (version_by (option_map version_of d.file.version) f) x) l f) (sym levels_are)
          ∙ ap (λ v. goes_on reads files (place_in names files (version_by (option_map version_of v) f) (levels_of new)) l f) (sym (ap (λ x. x.file.version) is))
          ∙ ap (λ x. goes_on reads files (place_in x.sheet.files files (version_by (option_map version_of new.file.version) f) (levels_of new)) x f) (sym is_read)
