-- An element of the language begins.
use Rattle.std.proofs.Common.{◌≡◌, ℕ, ◌≤◌, Bool, true, false, ◌||◌, List, [], ◌∷◌, ◌++◌, length, map, reverse, take, drop, Option, is_some, refl, ap, sym, ◌∙◌, arith, codes, if◌then◌else◌}
use Rattle.std.proofs.Math.Path.{subst}
use Rattle.std.proofs.Math.Seq.{drop-length, take-length}
use Rattle.std.proofs.lemmas.List.{append-nil, take-append-drop}
use Rattle.std.specs.Option.{option_map}
use Rattle.stx_base.specs.declared.node.First.{First}
use Rattle.xml_events.specs.Tree.{Future}
use Rattle.sheet_model.specs.declared.sheet.Sheet.{Sheet}
use Rattle.sheet_model.specs.Names.{is_among}
use Rattle.sheet_model.specs.declared.pass.Pass.{Pass}
use Rattle.sheet_loader.proofs.Adding.{none_of}
use Rattle.sheet_loader.proofs.Behind.{same_behind}
use Rattle.sheet_loader.proofs.ElementLists.{all_kept, allowed_apart, among_both, inside_kept, locals_kept, loop-first, loop-longer, loop_locals, outside_around, outside_locals, pass_kept, reopened}
use Rattle.sheet_loader.proofs.Leaving.{version_known}
use Rattle.sheet_loader.proofs.Pushing.{behind_none, pushed_fit, pushed_levels, turned}
use Rattle.sheet_loader.specs.Drafts.{before_tag, element_of, frames_of, levels_in, levels_of, loading_of}
use Rattle.sheet_loader.specs.Elements as element
use Rattle.sheet_loader.specs.Elements.{is_allowed, makes_group}
use Rattle.sheet_loader.specs.Events.{Kept, begins, place_at, stage_of}
use Rattle.sheet_loader.specs.Gathering.{values_in}
use Rattle.sheet_loader.specs.Judging.{locals_at}
use Rattle.sheet_loader.specs.Keys.{names_in, own_of, text_of}
use Rattle.sheet_loader.specs.Known.{Knows, known, within_loop}
use Rattle.sheet_loader.specs.Levels.{An_element, Level, entered, name_at, place_in}
use Rattle.sheet_loader.specs.Making.{bare, behind, last_of, name, pass_or, value_at}
use Rattle.sheet_loader.specs.Meant.{before_of, inside_of, kind_of, version_of}
use Rattle.sheet_loader.specs.Read.{group_within, has_select, own_locals, within}
use Rattle.sheet_loader.specs.Reading.{File}
use Rattle.sheet_loader.specs.Remaining.{Reads_on, goes_on, place_of, remaining, version_by}
use Rattle.sheet_loader.specs.Resuming.{Of_element, opened as opened_spec, resume}
use Rattle.sheet_loader.specs.Sound.{AreBelow, AreFit, AreNamed, IsFit, IsSound, is_outside, numbers_of}
use Rattle.sheet_loader.specs.Values.{Reads}
use Rattle.sheet_loader.specs.Versions.{Version}
use Rattle.sheet_loader.specs.declared.declared.Own.{Own}
use Rattle.sheet_loader.specs.declared.draft.Draft.{Draft}
use Rattle.sheet_loader.specs.declared.element.StartTag.{StartTag}
use Rattle.sheet_loader.specs.declared.frame.Frame.{Frame}
use Rattle.sheet_loader.specs.declared.frame.OpenFile.{OpenFile}
use Rattle.sheet_loader.specs.declared.frame.Opened.TheVariants as opened
use Rattle.sheet_loader.specs.declared.frame.Version as frame
use Rattle.sheet_loader.specs.declared.inside.Before.TheVariants as before
use Rattle.sheet_loader.specs.declared.inside.Inside.{Inside}
use Rattle.sheet_loader.specs.declared.kind.Kind.{Kind}
use Rattle.sheet_loader.specs.declared.names.NameSet.{NameSet}
use Rattle.sheet_loader.specs.declared.register.Register.{Register}
use Rattle.sheet_loader.specs.declared.values.Values.{Values}

truly : true ≡ false → ⊥
truly e = cc

module _ (d : Draft) (tag : StartTag) (given : NameSet) (kind : Kind) (v kept : Values) (own : Own) (inside : Inside) (group : ℕ) (pass : Pass) (r : Register) where
  -- the list of the element
  abbrev pub element_list : Frame
  element_list = record {
    opened = opened.Element kind kept own;
    inside = inside;
    at = tag.offset;
    group = group;
    pass = pass;
    items = [];
    before = before.Something;
    given = given;
    locals = length (known d.register).locals;
    around = tag.around;
    parts = length d.parts;
  }

  abbrev file_then : OpenFile
  file_then = record d.file { scope = take tag.around d.file.scope }

  abbrev pub element_level : Level
  element_level = record { what = An_element (kind_of kind) (values_in kept); at = tag.offset; decls = drop tag.around d.file.scope; group = group; before = [] }

  -- what is so of an element's tag without faults
  pub record IsOpened : Type 0 where
    pub sound : IsSound (before_tag d tag.around)
    pub declared : tag.around ≤ length d.file.scope
    pub allowed : is_allowed (inside_of d.top.inside) (before_of d.top.before) (kind_of kind) ≡ true
    pub none : names_in given ≡ []
    pub is_kept : Kept (kind_of kind) (values_in v) (values_in kept)
    pub inside_is : inside_of inside ≡ element.inside_of (inside_of d.top.inside) (kind_of kind) (has_select (values_in v))
    pub group_is : makes_group (kind_of kind) ≡ false → group ≡ d.top.group
    pub pass_is : pass ≡ (if makes_group (kind_of kind) then pass_or d.top.pass (value_at (codes "pass-through") (values_in v)) else d.top.pass)
    pub own_is : own_of own ≡ record { group = d.top.group; name = bare (name (values_in v)) }
    pub locals_are : (known r).locals ≡ (within_loop (kind_of kind) (bare (name (values_in v))) (known d.register)).locals

  module _ (o : IsOpened) where
    no_parts : d.parts ≡ []
    no_parts = none_of d.top (reverse d.below.items) file_then d.parts (known d.register).locals o.sound.frames (allowed_apart (inside_of d.top.inside) (before_of d.top.before) (kind_of kind) o.allowed)

    group_fits : (at : ℕ) → d.top.group ≡ at → group ≡ group_within at group (kind_of kind)
    group_fits at e = of_group (makes_group (kind_of kind)) o.group_is where
      of_group : (b : Bool) → (b ≡ false → group ≡ d.top.group) → group ≡ (if b then group else at)
      of_group true h = refl
      of_group false h = h refl ∙ e

    fit : (names : List (List ℕ)) (files : List (Option File)) (version : Version)
        → let q = place_in names files version (levels_in (frames_of d) file_then d.parts) in
        IsFit element_list (frames_of d) d.file d.parts (known r).locals (entered names files version (An_element (kind_of kind) (values_in kept)) element_level q) q
    fit names files version =
        let h = o.sound.frames.0 names files version in
        let q = place_in names files version (levels_in (frames_of d) file_then d.parts) in
        let k = kind_of kind in
        let allowed : is_allowed (behind q.here.inside q.before) (last_of q.before) k ≡ true = ap (λ i. is_allowed i (last_of q.before) k) (sym h.inside) ∙ ap (λ b. is_allowed (inside_of d.top.inside) b k) (sym h.before) ∙ o.allowed in
        let list_inside : inside_of inside ≡ element.inside_of q.here.inside k (has_select (values_in kept)) = o.inside_is ∙ ap (λ i. element.inside_of i k (has_select (values_in v))) h.inside ∙ inside_kept q.here.inside q.before k (values_in v) (values_in kept) o.is_kept in
        let around_outside : is_outside (element.inside_of q.here.inside k (has_select (values_in kept))) ≡ true → is_outside q.here.inside ≡ true = λ e.
        sym (same_behind is_outside refl q.before q.here.inside)
        ∙ outside_around (behind q.here.inside q.before) (last_of q.before) k (has_select (values_in v)) allowed (ap is_outside (inside_kept q.here.inside q.before k (values_in v) (values_in kept) o.is_kept) ∙ e) in
        record {
          stands = (ap length no_parts, λ e. o.own_is ∙ ap (λ g. record { group = g; name = bare (name (values_in v)) }) h.group ∙ ap (λ w. record { group = q.here.group; name = bare (name w) }) (sym (all_kept k (values_in v) (values_in kept) o.is_kept e)), allowed);
          bottom = λ e. cc;
          inside = list_inside ∙ sym (behind_none (element.inside_of q.here.inside k (has_select (values_in kept))));
          before = refl;
          at = refl;
          group = group_fits q.here.group h.group;
          pass = o.pass_is ∙ ap (λ x. if makes_group k then pass_or x (value_at (codes "pass-through") (values_in v)) else x) h.pass ∙ sym (pass_kept q.here k (values_in v) (values_in kept) o.is_kept);
          number = h.number;
          scope = sym (take-append-drop tag.around d.file.scope) ∙ ap (λ l. l ++ drop tag.around d.file.scope) h.scope;
          declared = o.declared;
          given = λ n. ap (λ l. is_among l n) o.none;
          locals = λ n.
              ap (λ l. is_among l n) o.locals_are
              ∙ loop_locals k (known d.register) (values_in v) n
              ∙ ap (λ b. b || is_among (own_locals k (values_in v)) n) (h.locals n)
              ∙ sym (among_both (locals_at q.here q.before) (own_locals k (values_in v)) n)
              ∙ ap (λ l. is_among (locals_at q.here q.before ++ l) n) (sym (locals_kept k (values_in v) (values_in kept) o.is_kept))
              ∙ ap (λ l. is_among l n) (sym (append-nil (locals_at q.here q.before ++ own_locals k (values_in kept))));
          brought = subst (λ l. length (known d.register).locals ≤ length l) (sym o.locals_are) (loop-longer k (known d.register) (bare (name (values_in v))));
          outside = λ e.
              append-nil (locals_at q.here q.before ++ own_locals k (values_in kept))
              ∙ ap (λ l. l ++ own_locals k (values_in kept)) (h.outside (around_outside e))
              ∙ outside_locals q.here.inside k (values_in kept) (has_select (values_in kept)) e;
          parts = omega arith;
          no_parts = λ e. no_parts;
          parts_alone = λ e. refl;
        }

    pub element_list_fit : AreFit (element_list ∷ frames_of d) d.file d.parts (known r).locals
    element_list_fit =
        pushed_fit element_list (frames_of d) d.file file_then d.parts d.parts (known r).locals (known d.register).locals
        refl (drop-length d.parts) refl (take-length d.parts) (ap (take (length (known d.register).locals)) o.locals_are ∙ loop-first (kind_of kind) (known d.register) (bare (name (values_in v)))) fit o.sound.frames

    pub element_list_levels : levels_in (element_list ∷ frames_of d) d.file d.parts ≡ element_level ∷ levels_of (before_tag d tag.around)
    element_list_levels = pushed_levels element_list (frames_of d) d.file file_then d.parts d.parts (known r).locals (known d.register).locals refl (drop-length d.parts) refl (take-length d.parts)

    module _ (new : Draft) (s : Sheet) (version : is_some d.file.version ≡ true) (is : new ≡ record d { register = r; sheet = s; top = element_list; below = new.below }) (below : new.below.items ≡ d.below.items ++ d.top ∷ []) where
      abbrev then_draft : Draft
      then_draft = record d { register = r; sheet = s; top = element_list; below = new.below }

      turned_below : reverse new.below.items ≡ frames_of d
      turned_below = ap reverse below ∙ turned d.below.items d.top

      pub element_start_sound : Knows (known r).declares (loading_of then_draft).sheet → s.files ≡ d.sheet.files → IsSound new
      element_start_sound knows same = subst IsSound (sym is) after where
        after : IsSound then_draft
        after = record {
          frames = subst (λ l. AreFit (element_list ∷ l) d.file d.parts (known r).locals) (sym turned_below) element_list_fit;
          version = version;
          declares = knows;
          files = subst (λ l. AreNamed (numbers_of (element_list ∷ l) d.file) then_draft) (sym turned_below)
              (record {
                known = subst (λ l. AreBelow (length (d.own ∷ l)) (numbers_of (frames_of d) file_then)) (sym same) o.sound.files.known;
                kept = subst (λ l. map (name_at (d.own ∷ l)) (numbers_of (frames_of d) file_then) ≡ reverse (map text_of d.reading.keys) ++ d.own ∷ []) (sym same) o.sound.files.kept;
              });
        }

      levels_are : levels_of new ≡ element_level ∷ levels_of (before_tag d tag.around)
      levels_are = ap levels_of is ∙ ap (λ l. levels_in (element_list ∷ l) d.file d.parts) turned_below ∙ element_list_levels

      -- the element is open from then on
      pub element_start_goes : (reads : Reads) (files : List (Option File)) (first : First) (f : Future) (last : ℕ)
          → let e = element_of tag d in
          let p = place_at files (begins e first f) (before_tag d tag.around) in
          let l = opened_spec p.here p.before e (kind_of kind) (values_in v) (loading_of d) in
          loading_of new ≡ l
          → (loading_of new).sheet.files ≡ (loading_of d).sheet.files
          → group_within p.here.group group (kind_of kind) ≡ group_within p.here.group last (kind_of kind)
          → resume reads files (within p.here p.before (kind_of kind) e (values_in v) last) [] l (Of_element p.here p.before e (kind_of kind) (values_in v) ∷ p.opens) f
          ≡ remaining reads files (Reads_on (stage_of new)) f
      element_start_goes reads files first f last is_opened same_files same_group =
          let e = element_of tag d in
          let p = place_at files (begins e first f) (before_tag d tag.around) in
          let k = kind_of kind in
          let names = (loading_of d).sheet.files in
          let l = opened_spec p.here p.before e k (values_in v) (loading_of d) in
          ap (λ g. resume reads files (record (within p.here p.before k e (values_in v) last) { group = g }) [] l (Of_element p.here p.before e k (values_in v) ∷ p.opens) f) (sym same_group)
          ∙ sym (reopened reads files p.here p.before e k (values_in v) (values_in kept) group p.opens l f o.is_kept)
          ∙ ap (λ w. goes_on reads files (place_in names files w (element_level ∷ levels_of (before_tag d tag.around))) l f) (version_known d.file.version (begins e first f) f version)
          ∙ ap (λ x. goes_on reads files (place_in names files (version_by (option_map version_of d.file.version) f) x) l f) (sym levels_are)
          ∙ ap (λ w. goes_on reads files (place_in names files (version_by (option_map version_of w) f) (levels_of new)) l f) (sym (ap (λ x. x.file.version) is))
          ∙ ap (λ x. goes_on reads files (place_in x files (version_by (option_map version_of new.file.version) f) (levels_of new)) l f) (sym same_files)
          ∙ ap (λ x. goes_on reads files (place_in (loading_of new).sheet.files files (version_by (option_map version_of new.file.version) f) (levels_of new)) x f) (sym is_opened)

      -- where the element's list stands
      pub element_place : (files : List (Option File)) (first : First) (f : Future) → (loading_of new).sheet.files ≡ (loading_of d).sheet.files
          → place_of files (stage_of new) f
          ≡ entered (loading_of d).sheet.files files (version_by (option_map version_of d.file.version) (begins (element_of tag d) first f)) (An_element (kind_of kind) (values_in kept)) element_level (place_at files (begins (element_of tag d) first f) (before_tag d tag.around))
      element_place files first f same_files =
          ap (λ x. place_in x files (version_by (option_map version_of new.file.version) f) (levels_of new)) same_files
          ∙ ap (λ (w : Option frame.Version). place_in (loading_of d).sheet.files files (version_by (option_map version_of w) f) (levels_of new)) (ap (λ x. x.file.version) is)
          ∙ ap (λ x. place_in (loading_of d).sheet.files files (version_by (option_map version_of d.file.version) f) x) levels_are
          ∙ ap (λ w. place_in (loading_of d).sheet.files files w (element_level ∷ levels_of (before_tag d tag.around))) (version_known d.file.version f (begins (element_of tag d) first f) version)
