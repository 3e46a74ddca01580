-- An include's file is read: its list stands within that of the include.
use Rattle.std.proofs.Common.{◌≡◌, ℕ, ◌+◌, ◌<◌, ◌≤◌, true, false, List, [], ◌∷◌, ◌++◌, length, map, reverse, take, drop, get_or, slice_get, Option, Some, None, is_some, refl, ap, sym, ◌∙◌, arith}
use Rattle.std.proofs.Math.Path.{subst}
use Rattle.std.proofs.Math.Seq.{drop-length, drop-nil, take-length}
use Rattle.std.proofs.lemmas.List.{length-append}
use Rattle.std.proofs.lemmas.Option.{slice_get-get_or}
use Rattle.std.specs.Option.{option_and_then, option_map}
use Rattle.stx_base.specs.Course.{Ask, Say, and_then}
use Rattle.stx_base.specs.declared.fault.Place.{Place}
use Rattle.stx_base.specs.declared.name.Name.{Name}
use Rattle.stx_base.specs.declared.part.Part.{Part}
use Rattle.stxpath_syntax.specs.declared.dialect.Dialect.TheVariants.{One}
use Rattle.sheet_model.proofs.Lists.{got_before, got_behind}
use Rattle.sheet_model.specs.Names.{is_among}
use Rattle.xml_events.specs.Tree.{Cut, Future, Need}
use Rattle.sheet_loader.proofs.Adding.{none_of}
use Rattle.sheet_loader.proofs.Behind.{same_behind}
use Rattle.sheet_loader.proofs.KnownLemmas.{same-known}
use Rattle.sheet_loader.proofs.LiteralStarts.{version_is}
use Rattle.sheet_loader.proofs.Pushing.{pushed_fit, pushed_levels, turned}
use Rattle.sheet_loader.proofs.Resuming.{equal_answer}
use Rattle.sheet_loader.proofs.Roots.{frames_as}
use Rattle.sheet_loader.specs.Drafts.{file_around, frames_of, items_in, level_in, levels_in, levels_of, loading_of, parts_around, version_in, what_in}
use Rattle.sheet_loader.specs.Elements as element
use Rattle.sheet_loader.specs.Elements.{Before, Inside, Document, Declarations, Start_of_body, Body, Branches, With_params, Characters, Parts, Nothing, Kind, is_allowed}
use Rattle.sheet_loader.specs.Events.{stage_of}
use Rattle.sheet_loader.specs.Gathering.{values_in}
use Rattle.sheet_loader.specs.Judging.{locals_at}
use Rattle.sheet_loader.specs.Keys.{names_in, text_of}
use Rattle.sheet_loader.specs.Known.{known}
use Rattle.sheet_loader.specs.Levels.{A_file, Level, Place_in, as_file, entered, file_at, limit_at, name_at, place_in, version_around}
use Rattle.sheet_loader.specs.Load.{at_start}
use Rattle.sheet_loader.specs.Making.{behind, last_of, locals_of, nameless, or_else}
use Rattle.sheet_loader.specs.Meant as meant
use Rattle.sheet_loader.specs.Meant.{item_of, kind_of, version_of}
use Rattle.sheet_loader.specs.Named.{Includes, names_of}
use Rattle.sheet_loader.specs.Read.{file_given, has_select, in_file, own_locals, within}
use Rattle.sheet_loader.specs.Reading as reading
use Rattle.sheet_loader.specs.Reading.{Context, Does, File, Listed, Loading, Nodes}
use Rattle.sheet_loader.specs.Remaining.{Reads_on, Wants_file, file_then, goes_on, place_of, remaining, version_by}
use Rattle.sheet_loader.specs.Resuming.{Of_file, Open, SameAnswer, continue}
use Rattle.sheet_loader.specs.Sound.{AreBelow, AreFit, AreNamed, IsFit, IsInclude, IsKnown, IsSound, is_of_parts, is_outside, number_before, numbers_of}
use Rattle.sheet_loader.specs.Values.{Reads}
use Rattle.sheet_loader.specs.Versions as versions
use Rattle.sheet_loader.specs.Versions.{Version}
use Rattle.sheet_loader.specs.declared.declared.Own.{Own}
use Rattle.sheet_loader.specs.declared.draft.Draft.{Draft}
use Rattle.sheet_loader.specs.declared.frame.Frame.{Frame}
use Rattle.sheet_loader.specs.declared.frame.OpenFile.{OpenFile}
use Rattle.sheet_loader.specs.declared.frame.Opened.{Opened}
use Rattle.sheet_loader.specs.declared.frame.Opened.TheVariants as opened
use Rattle.sheet_loader.specs.declared.frame.Version as frame
use Rattle.sheet_loader.specs.declared.inside.Before.TheVariants as before
use Rattle.sheet_loader.specs.declared.inside.Inside.TheVariants as inside
use Rattle.sheet_loader.specs.declared.kind.Kind as program
use Rattle.sheet_loader.specs.declared.names.NameSet.{NameSet}
use Rattle.sheet_loader.specs.declared.values.Values as given

-- names, of which there are more

pub same_name : (names more : List (List ℕ)) (n : ℕ) → n < length names → name_at (names ++ more) n ≡ name_at names n
same_name names more n h =
    let there : slice_get names n ≡ Some (get_or names n []) = slice_get-get_or names n [] h in
    ap (or_else []) (got_before names more n (get_or names n []) there) ∙ ap (or_else []) (sym there)

pub new_name : (names : List (List ℕ)) (name : List ℕ) (n : ℕ) → n ≡ length names → name_at (names ++ name ∷ []) n ≡ name
new_name names name n h =
    let there : length names + 0 ≡ n = omega arith in
    ap (or_else []) (subst (λ (m : ℕ). slice_get (names ++ name ∷ []) m ≡ Some name) there (got_behind names (name ∷ []) 0 name refl))

rest_below : (most : ℕ) (o : Opened) (number : ℕ) (around : List ℕ) → AreBelow most (number_before o number around) → AreBelow most around
rest_below most opened.Sheet number around h = h
rest_below most (opened.File includer) number around h = h.1
rest_below most (opened.Element kind v own) number around h = h
rest_below most (opened.Literal name attrs) number around h = h
rest_below most (opened.Part name start) number around h = h

pub more_below : (most more : ℕ) (numbers : List ℕ) → most ≤ more → AreBelow most numbers → AreBelow more numbers
more_below most more [] h b = tt
more_below most more (n ∷ numbers) h b = (let l = b.0 in omega (arith, l), more_below most more numbers h b.1)

pub same_names : (names more : List (List ℕ)) (numbers : List ℕ) → AreBelow (length names) numbers → map (name_at (names ++ more)) numbers ≡ map (name_at names) numbers
same_names names more [] b = refl
same_names names more (n ∷ numbers) b =
    ap (λ (x : List ℕ). x ∷ map (name_at (names ++ more)) numbers) (same_name names more n b.0)
    ∙ ap (λ (l : List (List ℕ)). name_at names n ∷ l) (same_names names more numbers b.1)

-- a place doesn't depend on names of files that aren't being read
module _ (names more : List (List ℕ)) (files : List (Option File)) (some : 0 < length names) where
  entered_more : (version : Version) (o : Opened) (until : ℕ) (file : OpenFile) (parts : List Part) (x : Level) (around : Place_in) (outer : List ℕ) → AreBelow (length names) (number_before o file.number outer)
      → entered (names ++ more) files version (what_in o until file parts) x around ≡ entered names files version (what_in o until file parts) x around
  entered_more version opened.Sheet until file parts x around outer b =
      ap (λ (n : List ℕ). let p : Place_in = record { here = at_start n (file_at files 0 version); before = x.before; opens = [] } in p) (same_name names more 0 some)
  entered_more version (opened.File includer) until file parts x around outer b =
      ap (λ (n : List ℕ). let p : Place_in = record { here = in_file around.here file.number n (file_at files file.number version); before = x.before; opens = as_file around.opens } in p) (same_name names more file.number b.0)
  entered_more version (opened.Element kind v own) until file parts x around outer b = refl
  entered_more version (opened.Literal name attrs) until file parts x around outer b = refl
  entered_more version (opened.Part name start) until file parts x around outer b = refl

  pub place_more : (version : Version) (frames : List Frame) (file : OpenFile) (parts : List Part) → AreBelow (length names) (numbers_of frames file)
      → place_in (names ++ more) files version (levels_in frames file parts) ≡ place_in names files version (levels_in frames file parts)
  place_more version [] file parts b =
      ap (λ (n : List ℕ). let p : Place_in = record { here = at_start n (file_at files 0 version); before = []; opens = [] } in p) (same_name names more 0 some)
  place_more version (f ∷ frames) file parts b =
      let outer = numbers_of frames (file_around f.opened f.around file) in
      let what = what_in f.opened f.parts file parts in
      ap (entered (names ++ more) files version what (level_in f file parts))
      (place_more (version_around version what) frames (file_around f.opened f.around file) (parts_around f.opened f.parts parts) (rest_below (length names) f.opened file.number outer b))
      ∙ entered_more version f.opened f.parts file parts (level_in f file parts)
      (place_in names files (version_around version what) (levels_in frames (file_around f.opened f.around file) (parts_around f.opened f.parts parts))) outer b

include_around : (i : Inside) (b : Before) → is_allowed i b element.Include ≡ true → is_outside i ≡ true
include_around (Document c) b e = refl
include_around (Declarations c) b e = refl
include_around Start_of_body b e = cc
include_around Body element.Something e = cc
include_around Body element.After_if e = cc
include_around Body element.After_otherwise e = cc
include_around Branches element.Something e = cc
include_around Branches element.After_if e = cc
include_around Branches element.After_otherwise e = cc
include_around With_params b e = cc
include_around (Characters c) b e = cc
include_around Parts b e = cc
include_around Nothing b e = cc

-- among declarations there are no locals
outer_none : (frames : List Frame) (file : OpenFile) (parts : List Part) (locals : List Name) → (frames ≡ [] → ⊥) → AreFit frames file parts locals
    → (names : List (List ℕ)) (files : List (Option File)) (version : Version)
    → let q = place_in names files version (levels_in frames file parts) in is_outside q.here.inside ≡ true → locals_at q.here q.before ≡ []
outer_none [] file parts locals some fit names files version o = absurd (some refl)
outer_none (g ∷ frames) file parts locals some fit names files version o = (fit.0 names files version).outside o

included_version : (o : Opened) (version : Option frame.Version) → IsInclude o → IsKnown o version → is_some version ≡ true
included_version opened.Sheet version i k = absurd i
included_version (opened.File includer) version i k = absurd i
included_version (opened.Element kind v own) version i k = k
included_version (opened.Literal name attrs) version i k = absurd i
included_version (opened.Part name start) version i k = absurd i

-- the list of a file within the innermost one, and the file
abbrev pub list_of_file : Draft → NameSet → Frame
list_of_file d given = record {
  opened = opened.File d.file;
  inside = inside.Document true;
  at = 0;
  group = d.top.group;
  pass = d.top.pass;
  items = [];
  before = before.Something;
  given = given;
  locals = length (known d.register).locals;
  around = 0;
  parts = length d.parts;
}

abbrev pub file_numbered : (number : ℕ) → OpenFile
file_numbered number = record { number = number; version = None; scope = [] }

-- the innermost open element is an include in which nothing stands
module _ (d : Draft) (sound : IsSound d) (kind : program.Kind) (v : given.Values) (own : Own) (e : d.top.opened ≡ opened.Element kind v own) (inc : kind_of kind ≡ element.Include) (items : d.top.items ≡ []) where
  abbrev v0 : Version
  v0 = record { dialect = One; is_known = false }

  abbrev outer_file : OpenFile
  outer_file = record d.file { scope = take d.top.around d.file.scope }

  -- where the include stands
  abbrev around : List (List ℕ) → List (Option File) → Version → Place_in
  around names files version = place_in names files version (levels_in (reverse d.below.items) outer_file (take d.top.parts d.parts))

  abbrev as_opened : Opened → Place_in → List (List ℕ) → List (Option File) → Version → Place_in
  as_opened o q names files version = entered names files version (what_in o d.top.parts d.file d.parts) (level_in (record d.top { opened = o }) d.file d.parts) q

  abbrev in_include : List (List ℕ) → List (Option File) → Version → Place_in
  in_include names files version = as_opened (opened.Element kind v own) (around names files version) names files version

  fit_is : (names : List (List ℕ)) (files : List (Option File)) (version : Version)
      → IsFit (record d.top { opened = opened.Element kind v own }) (reverse d.below.items) d.file d.parts (known d.register).locals (in_include names files version) (around names files version)
  fit_is = (frames_as d sound (opened.Element kind v own) e).0

  inside_is : meant.inside_of d.top.inside ≡ Nothing
  inside_is =
      (fit_is [] [] v0).inside
      ∙ ap (λ (k : Kind). behind (element.inside_of (around [] [] v0).here.inside k (has_select (values_in v))) (in_include [] [] v0).before) inc

  no_parts : d.parts ≡ []
  no_parts = none_of d.top (reverse d.below.items) d.file d.parts (known d.register).locals sound.frames (ap is_of_parts inside_is)

  nothing_in : items_in d.top d.parts ≡ []
  nothing_in =
      ap (λ l. map item_of l ++ map reading.A_part (drop d.top.parts d.parts)) items
      ∙ ap (λ l. map reading.A_part (drop d.top.parts l)) no_parts
      ∙ ap (map reading.A_part) (drop-nil d.top.parts)

  no_locals : (names : List (List ℕ)) (files : List (Option File)) (version : Version) → locals_at (in_include names files version).here (in_include names files version).before ≡ []
  no_locals names files version =
      let q = around names files version in
      let h = fit_is names files version in
      let outside : is_outside q.here.inside ≡ true =
      sym (same_behind is_outside refl q.before q.here.inside)
      ∙ include_around (behind q.here.inside q.before) (last_of q.before) (ap (is_allowed (behind q.here.inside q.before) (last_of q.before)) (sym inc) ∙ h.stands.2) in
      ap (λ (l : List Name). (l ++ own_locals (kind_of kind) (values_in v)) ++ locals_of (items_in d.top d.parts))
      (outer_none (reverse d.below.items) outer_file (take d.top.parts d.parts) (take d.top.locals (known d.register).locals) h.bottom sound_around names files version outside)
      ∙ ap (λ (k : Kind). own_locals k (values_in v) ++ locals_of (items_in d.top d.parts)) inc
      ∙ ap locals_of nothing_in
    where
      sound_around : AreFit (reverse d.below.items) outer_file (take d.top.parts d.parts) (take d.top.locals (known d.register).locals)
      sound_around = (frames_as d sound (opened.Element kind v own) e).1

  version_some : is_some d.file.version ≡ true
  version_some = included_version d.top.opened d.file.version (subst IsInclude (sym e) inc) sound.version

  module _ (name : List ℕ) (number : ℕ) (given : NameSet) (none : names_in given ≡ []) (number_is : number ≡ length (names_of d)) (new : Draft) where
    abbrev file_list : Frame
    file_list = list_of_file d given

    abbrev new_file : OpenFile
    new_file = file_numbered number

    abbrev fresh_level : Level
    fresh_level = record { what = A_file number (version_in d.file); at = 0; decls = []; group = d.top.group; before = [] }

    abbrev place_around : List (List ℕ) → List (Option File) → Place_in
    place_around names files = place_in names files (version_in d.file) (levels_of d)

    fit : (names : List (List ℕ)) (files : List (Option File)) (version : Version)
        → let q = place_around names files in
        IsFit file_list (frames_of d) new_file d.parts (known d.register).locals (entered names files version (A_file number (version_in d.file)) fresh_level q) q
    fit names files version =
        let h = sound.frames.0 names files (version_in d.file) in
        let q = place_around names files in
        record {
          stands = (version_some, subst IsInclude (sym e) inc, items);
          bottom = λ x. cc;
          inside = refl;
          before = refl;
          at = refl;
          group = h.group;
          pass = h.pass;
          number = refl;
          scope = refl;
          declared = omega arith;
          given = λ n. ap (λ l. is_among l n) none;
          locals = λ n. (fit_is names files (version_in d.file)).locals n ∙ ap (λ l. is_among l n) (no_locals names files (version_in d.file));
          brought = omega arith;
          outside = λ x. refl;
          parts = omega arith;
          no_parts = λ x. no_parts;
          parts_alone = λ x. refl;
        }

    file_list_fit : AreFit (file_list ∷ frames_of d) new_file d.parts (known d.register).locals
    file_list_fit =
        pushed_fit file_list (frames_of d) new_file d.file d.parts d.parts (known d.register).locals (known d.register).locals
        refl (drop-length d.parts) refl (take-length d.parts) (take-length (known d.register).locals) fit sound.frames

    module _ (kept : map text_of new.reading.keys ≡ map text_of d.reading.keys ++ name ∷ []) (is : new ≡ record d { reading = new.reading; sheet = record d.sheet { files = d.sheet.files ++ name ∷ [] }; file = new_file; top = file_list; below = new.below }) (below : new.below.items ≡ d.below.items ++ d.top ∷ []) where
      abbrev then_draft : Draft
      then_draft = record d { reading = new.reading; sheet = record d.sheet { files = d.sheet.files ++ name ∷ [] }; file = new_file; top = file_list; below = new.below }

      turned_below : reverse new.below.items ≡ frames_of d
      turned_below = ap reverse below ∙ turned d.below.items d.top

      named : AreNamed (number ∷ numbers_of (frames_of d) d.file) then_draft
      named = record {
        known = (let l = length-append (names_of d) (name ∷ []) in omega (arith, l), more_below (length (names_of d)) (length (names_of d ++ name ∷ [])) (numbers_of (frames_of d) d.file) (let l = length-append (names_of d) (name ∷ []) in omega (arith, l)) sound.files.known);
        kept =
            ap (λ (x : List ℕ). x ∷ map (name_at (names_of d ++ name ∷ [])) (numbers_of (frames_of d) d.file)) (new_name (names_of d) name number number_is)
            ∙ ap (λ (l : List (List ℕ)). name ∷ l) (same_names (names_of d) (name ∷ []) (numbers_of (frames_of d) d.file) sound.files.known ∙ sound.files.kept)
            ∙ ap (λ (l : List (List ℕ)). l ++ d.own ∷ []) (sym (ap reverse kept ∙ turned (map text_of d.reading.keys) name));
      }

      pub file_start_sound : IsSound new
      file_start_sound = subst IsSound (sym is) after where
        after : IsSound then_draft
        after = record {
          frames = subst (λ l. AreFit (file_list ∷ l) new_file d.parts (known d.register).locals) (sym turned_below) file_list_fit;
          version = tt;
          declares = same-known (known d.register).declares (loading_of d).sheet (loading_of then_draft).sheet refl refl refl refl sound.declares;
          files = subst (λ l. AreNamed (numbers_of (file_list ∷ l) new_file) then_draft) (sym turned_below) named;
        }

      levels_are : levels_of new ≡ fresh_level ∷ levels_of d
      levels_are =
          ap levels_of is ∙ ap (λ l. levels_in (file_list ∷ l) new_file d.parts) turned_below
          ∙ pushed_levels file_list (frames_of d) new_file d.file d.parts d.parts (known d.register).locals (known d.register).locals refl (drop-length d.parts) refl (take-length d.parts)

      module _ (reads : Reads) (files : List (Option File)) (file : File) (f : Future) (there : slice_get files (length (names_of d)) ≡ Some (Some file)) (by_nodes : file.version ≡ versions.version_of versions.language file.nodes) where
        abbrev names : List (List ℕ)
        names = names_of d

        abbrev version : Version
        version = version_by (option_map version_of d.file.version) f

        abbrev then_loading : Loading
        then_loading = record (loading_of d) { sheet = record (loading_of d).sheet { files = names ++ name ∷ [] } }

        -- where the include stands
        abbrev q : Place_in
        q = around names files version

        abbrev tag : Open
        tag = Of_file q.here q.before (record { offset = d.top.at; name = nameless; attrs = []; decls = drop d.top.around d.file.scope }) (kind_of kind) (values_in v)

        -- the file's nodes are read, and then what stands in the include
        abbrev reads_file : Context → List Open → Does Listed
        reads_file here opens = Ask (Nodes here [] file.nodes then_loading) (λ r. continue reads files opens r f)

        wants_is : remaining reads files (Wants_file name (stage_of d)) f ≡ Say name (reads_file (in_file q.here (length names) name file) (tag ∷ q.opens))
        wants_is =
            ap (λ (o : Opened). file_then reads files (as_opened o (place_in names files (version_around version (what_in o d.top.parts d.file d.parts)) (levels_in (reverse d.below.items) (file_around o d.top.around d.file) (parts_around o d.top.parts d.parts))) names files version).opens name (loading_of d) f) e
            ∙ ap (λ (o : Option (Option File)). Say name (and_then (file_given reads files q.here d.top.at (length names) o name (loading_of d)) (λ r. continue reads files (tag ∷ q.opens) r f))) there

        -- the place of the file
        abbrev place_then : List (List ℕ) → ℕ → List ℕ → File → Place_in → Place_in
        place_then all n own x around = record { here = in_file around.here n own x; before = []; opens = as_file around.opens }

        limit_is : limit_at files number ≡ file.limit
        limit_is = ap (λ (n : ℕ). limit_at files n) number_is ∙ ap (λ (o : Option (Option File)). option_and_then (option_and_then (λ (x : File). x.limit)) o) there

        some_name : 0 < length names
        some_name = omega arith

        new_place : place_of files (stage_of new) (file.nodes ∷ f)
            ≡ record { here = in_file q.here (length names) name file; before = []; opens = tag ∷ q.opens }
        new_place =
            ap (λ (l : Loading). place_in l.sheet.files files (version_by (option_map version_of new.file.version) (file.nodes ∷ f)) (levels_of new)) (ap loading_of is)
            ∙ ap (λ (w : Option frame.Version). place_in (names ++ name ∷ []) files (version_by (option_map version_of w) (file.nodes ∷ f)) (levels_of new)) (ap (λ x. x.file.version) is)
            ∙ ap (place_in (names ++ name ∷ []) files (versions.version_of versions.language file.nodes)) levels_are
            ∙ ap (place_then names number (name_at (names ++ name ∷ []) number) (file_at files number (versions.version_of versions.language file.nodes)))
            (place_more names (name ∷ []) files some_name (version_in d.file) (frames_of d) d.file d.parts sound.files.known
            ∙ ap (λ (w : Version). place_in names files w (levels_of d)) (sym (version_is d.file f version_some)))
            ∙ ap (λ (n : List ℕ). place_then names number n (file_at files number (versions.version_of versions.language file.nodes)) (place_of files (stage_of d) f)) (new_name names name number number_is)
            ∙ ap (λ (w : Version). place_then names number name (file_at files number w) (place_of files (stage_of d) f)) (sym by_nodes)
            ∙ ap (λ (m : Option ℕ). place_then names number name (record { version = file.version; nodes = Cut Need; limit = m }) (place_of files (stage_of d) f)) limit_is
            ∙ ap (λ (n : ℕ). place_then names n name file (place_of files (stage_of d) f)) number_is
            ∙ ap (λ (o : Opened). place_then names (length names) name file (as_opened o (place_in names files (version_around version (what_in o d.top.parts d.file d.parts)) (levels_in (reverse d.below.items) (file_around o d.top.around d.file) (parts_around o d.top.parts d.parts))) names files version)) e
            ∙ ap (λ (k : Kind). let p : Place_in = record { here = in_file (within q.here q.before k (record { offset = d.top.at; name = nameless; attrs = []; decls = drop d.top.around d.file.scope }) (values_in v) d.top.group) (length names) name file; before = []; opens = tag ∷ q.opens } in p) inc

        pub file_start_answer : SameAnswer reads files (remaining reads files (Wants_file name (stage_of d)) f) (Say name (remaining reads files (Reads_on (stage_of new)) (file.nodes ∷ f)))
        file_start_answer =
            equal_answer reads files
            (wants_is
            ∙ ap (λ (p : Place_in). Say name (goes_on reads files p then_loading (file.nodes ∷ f))) (sym new_place)
            ∙ ap (λ (l : Loading). Say name (goes_on reads files (place_of files (stage_of new) (file.nodes ∷ f)) l (file.nodes ∷ f))) (sym (ap loading_of is)))

-- what an include stands in
including : (o : Opened) → IsInclude o → (kind : program.Kind) × (v : given.Values) × (own : Own) × (o ≡ opened.Element kind v own) × (kind_of kind ≡ element.Include)
including opened.Sheet i = absurd i
including (opened.File includer) i = absurd i
including (opened.Element kind v own) i = (kind, v, own, refl, i)
including (opened.Literal name attrs) i = absurd i
including (opened.Part name start) i = absurd i

module _ (d : Draft) (sound : IsSound d) (name : List ℕ) (at : Place) (w : Includes name at d) (number : ℕ) (given : NameSet) (none : names_in given ≡ []) (number_is : number ≡ length (names_of d)) (new : Draft) (kept : map text_of new.reading.keys ≡ map text_of d.reading.keys ++ name ∷ []) (is : new ≡ record d { reading = new.reading; sheet = record d.sheet { files = d.sheet.files ++ name ∷ [] }; file = file_numbered number; top = list_of_file d given; below = new.below }) (below : new.below.items ≡ d.below.items ++ d.top ∷ []) where
  pub include_sound : IsSound new
  include_sound =
      let o = including d.top.opened w.include in
      file_start_sound d sound o.0 o.1 o.2 o.3 o.4 w.empty name number given none number_is new kept is below

  pub include_answer : (reads : Reads) (files : List (Option File)) (file : File) (f : Future) → slice_get files (length (names_of d)) ≡ Some (Some file) → file.version ≡ versions.version_of versions.language file.nodes
      → SameAnswer reads files (remaining reads files (Wants_file name (stage_of d)) f) (Say name (remaining reads files (Reads_on (stage_of new)) (file.nodes ∷ f)))
  include_answer reads files file f there by_nodes =
      let o = including d.top.opened w.include in
      file_start_answer d sound o.0 o.1 o.2 o.3 o.4 w.empty name number given none number_is new kept is below reads files file f there by_nodes
