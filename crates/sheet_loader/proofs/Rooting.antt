-- A file's root says its version: nothing else changes by it.
use Rattle.std.proofs.Common.{◌≡◌, ℕ, true, false, List, [], ◌∷◌, reverse, take, Option, Some, None, is_some, refl, ap, sym, ◌∙◌}
use Rattle.std.proofs.Math.Path.{subst}
use Rattle.std.specs.Option.{option_map}
use Rattle.stxpath_syntax.specs.declared.dialect.Dialect.TheVariants.{One}
use Rattle.stx_base.specs.declared.name.Attr.{Attr}
use Rattle.stx_base.specs.declared.name.Name.{Name}
use Rattle.stx_base.specs.declared.node.First.{First}
use Rattle.stx_base.specs.declared.part.Part.{Part}
use Rattle.xml_events.specs.Tree.{Element, Future}
use Rattle.sheet_loader.proofs.Roots.{IsOfFile, list_of_file}
use Rattle.sheet_loader.specs.Drafts.{before_tag, file_around, level_in, levels_in, levels_of, loading_of, parts_around, version_in, version_taken}
use Rattle.sheet_loader.specs.Events.{begins, place_at}
use Rattle.sheet_loader.specs.Known.{known}
use Rattle.sheet_loader.specs.Levels.{Level, Place_in, place_in}
use Rattle.sheet_loader.specs.Meant as meant
use Rattle.sheet_loader.specs.Meant.{version_of}
use Rattle.sheet_loader.specs.Reading.{File}
use Rattle.sheet_loader.specs.Remaining.{version_by}
use Rattle.sheet_loader.specs.Sound.{AreFit, AreNamed, IsFit, IsKnown, IsSound, StandsIn, is_document, numbers_of}
use Rattle.sheet_loader.specs.Versions as versions
use Rattle.sheet_loader.specs.Versions.{Version}
use Rattle.sheet_loader.specs.declared.draft.Draft.{Draft}
use Rattle.sheet_loader.specs.declared.frame.Frame.{Frame}
use Rattle.sheet_loader.specs.declared.frame.OpenFile.{OpenFile}
use Rattle.sheet_loader.specs.declared.frame.Opened.{Opened}
use Rattle.sheet_loader.specs.declared.frame.Opened.TheVariants as opened
use Rattle.sheet_loader.specs.declared.frame.Version as frame

abbrev v0 : Version
v0 = record { dialect = One; is_known = false }

-- a list's frame fits whatever the version of its file is
refit : (f : Frame) (frames : List Frame) (file : OpenFile) (w : Option frame.Version) (parts : List Part) (locals : List Name) (inner around other : Place_in)
    → StandsIn f.opened f.parts parts other frames
    → IsFit f frames file parts locals inner around
    → IsFit f frames (record file { version = w }) parts locals inner other
refit f frames file w parts locals inner around other stands h = record {
  stands = stands;
  bottom = h.bottom;
  inside = h.inside;
  before = h.before;
  at = h.at;
  group = h.group;
  pass = h.pass;
  number = h.number;
  scope = h.scope;
  declared = h.declared;
  given = h.given;
  locals = h.locals;
  brought = h.brought;
  outside = h.outside;
  parts = h.parts;
  no_parts = h.no_parts;
  parts_alone = h.parts_alone;
}

module _ (top : Frame) (frames : List Frame) (file : OpenFile) (w : Option frame.Version) (parts : List Part) (locals : List Name) where
  abbrev then_file : OpenFile
  then_file = record file { version = w }

  abbrev top_as : Opened → Frame
  top_as o = record top { opened = o }

  abbrev around_as : Opened → OpenFile → List (List ℕ) → List (Option File) → Version → Place_in
  around_as o file names files version = place_in names files version (levels_in frames (file_around o top.around file) (parts_around o top.parts parts))

  nothing_around : frames ≡ [] → (a b : OpenFile) (p q : List Part) (l m : List Name) → AreFit frames a p l → AreFit frames b q m
  nothing_around e a b p q l m h = subst (λ (fs : List Frame). AreFit fs b q m) (sym e) tt

  pub fit_versioned : (o : Opened) → IsOfFile o → AreFit (top_as o ∷ frames) file parts locals → AreFit (top_as o ∷ frames) then_file parts locals
  fit_versioned opened.Sheet o h = (
    λ names files version.
        refit (top_as opened.Sheet) frames file w parts locals
        (place_in names files version (level_in (top_as opened.Sheet) file parts ∷ levels_in frames (file_around opened.Sheet top.around then_file) (parts_around opened.Sheet top.parts parts)))
        (around_as opened.Sheet file names files version) (around_as opened.Sheet then_file names files version)
        (h.0 names files version).stands (h.0 names files version),
    nothing_around (h.0 [] [] v0).stands (file_around opened.Sheet top.around file) (file_around opened.Sheet top.around then_file) (parts_around opened.Sheet top.parts parts) (parts_around opened.Sheet top.parts parts) (take top.locals locals) (take top.locals locals) h.1,
  )
  fit_versioned (opened.File includer) o h = (
    λ names files version.
        refit (top_as (opened.File includer)) frames file w parts locals
        (place_in names files version (level_in (top_as (opened.File includer)) file parts ∷ levels_in frames includer (take top.parts parts)))
        (place_in names files (version_in includer) (levels_in frames includer (take top.parts parts)))
        (place_in names files (version_in includer) (levels_in frames includer (take top.parts parts)))
        (h.0 names files version).stands (h.0 names files version),
    h.1,
  )
  fit_versioned (opened.Element kind v own) o h = absurd o
  fit_versioned (opened.Literal name attrs) o h = absurd o
  fit_versioned (opened.Part name start) o h = absurd o

  pub levels_versioned : (o : Opened) → IsOfFile o → AreFit (top_as o ∷ frames) file parts locals → levels_in (top_as o ∷ frames) then_file parts ≡ levels_in (top_as o ∷ frames) file parts
  levels_versioned opened.Sheet o h =
      ap (λ (fs : List Frame). level_in (top_as opened.Sheet) file parts ∷ levels_in fs (file_around opened.Sheet top.around then_file) (parts_around opened.Sheet top.parts parts)) (h.0 [] [] v0).stands
      ∙ sym (ap (λ (fs : List Frame). level_in (top_as opened.Sheet) file parts ∷ levels_in fs (file_around opened.Sheet top.around file) (parts_around opened.Sheet top.parts parts)) (h.0 [] [] v0).stands)
  levels_versioned (opened.File includer) o h = refl
  levels_versioned (opened.Element kind v own) o h = absurd o
  levels_versioned (opened.Literal name attrs) o h = absurd o
  levels_versioned (opened.Part name start) o h = absurd o

  pub numbers_versioned : (o : Opened) → IsOfFile o → AreFit (top_as o ∷ frames) file parts locals → numbers_of (top_as o ∷ frames) then_file ≡ numbers_of (top_as o ∷ frames) file
  numbers_versioned opened.Sheet o h =
      ap (λ (fs : List Frame). numbers_of fs (file_around opened.Sheet top.around then_file)) (h.0 [] [] v0).stands
      ∙ sym (ap (λ (fs : List Frame). numbers_of fs (file_around opened.Sheet top.around file)) (h.0 [] [] v0).stands)
  numbers_versioned (opened.File includer) o h = refl
  numbers_versioned (opened.Element kind v own) o h = absurd o
  numbers_versioned (opened.Literal name attrs) o h = absurd o
  numbers_versioned (opened.Part name start) o h = absurd o

-- whatever the version is
any_known : (o : Opened) (version : Option frame.Version) → IsOfFile o → IsKnown o version
any_known opened.Sheet version o = tt
any_known (opened.File includer) version o = tt
any_known (opened.Element kind v own) version o = absurd o
any_known (opened.Literal name attrs) version o = absurd o
any_known (opened.Part name start) version o = absurd o

-- the version of the root that is next
same_version : (version : Option frame.Version) (e : Element) (first : First) (f : Future) → version_by (option_map version_of (version_taken version e.attrs)) (begins e first f) ≡ version_by (option_map version_of version) (begins e first f)
same_version (Some v) e first f = refl
same_version None e first f = refl

module _ (d : Draft) (around : ℕ) (sound : IsSound (before_tag d around)) (document : is_document (meant.inside_of d.top.inside) ≡ true) (w : Option frame.Version) where
  abbrev pub versioned : Draft
  versioned = record d { file = record d.file { version = w } }

  of_file : IsOfFile d.top.opened
  of_file = list_of_file (before_tag d around) sound document

  pub versioned_sound : IsSound (before_tag versioned around)
  versioned_sound = record {
    frames = fit_versioned d.top (reverse d.below.items) (record d.file { scope = take around d.file.scope }) w d.parts (known d.register).locals d.top.opened of_file sound.frames;
    version = any_known d.top.opened w of_file;
    declares = sound.declares;
    files =
        subst (λ (numbers : List ℕ). AreNamed numbers (before_tag versioned around))
        (sym (numbers_versioned d.top (reverse d.below.items) (record d.file { scope = take around d.file.scope }) w d.parts (known d.register).locals d.top.opened of_file sound.frames))
        (record { known = sound.files.known; kept = sound.files.kept });
  }

  pub versioned_place : (files : List (Option File)) (e : Element) (first : First) (f : Future) → w ≡ version_taken d.file.version e.attrs
      → place_at files (begins e first f) (before_tag versioned around) ≡ place_at files (begins e first f) (before_tag d around)
  versioned_place files e first f is =
      ap (λ (x : Option frame.Version). place_in (loading_of d).sheet.files files (version_by (option_map version_of x) (begins e first f)) (levels_of (before_tag versioned around))) is
      ∙ ap (λ (l : List Level). place_in (loading_of d).sheet.files files (version_by (option_map version_of (version_taken d.file.version e.attrs)) (begins e first f)) l)
      (levels_versioned d.top (reverse d.below.items) (record d.file { scope = take around d.file.scope }) w d.parts (known d.register).locals d.top.opened of_file sound.frames)
      ∙ ap (λ (v : Version). place_in (loading_of d).sheet.files files v (levels_of (before_tag d around))) (same_version d.file.version e first f)

-- what a root's attributes say is known from then on
pub some_taken : (version : Option frame.Version) (attrs : List Attr) → is_some (version_taken version attrs) ≡ true
some_taken (Some v) attrs = refl
some_taken None attrs = refl

pub taken_new : (version : Option frame.Version) (attrs : List Attr) (v : frame.Version) → version ≡ None → version_of v ≡ versions.version_by_root versions.language (Some attrs) → Some v ≡ version_taken version attrs
taken_new version attrs v e is =
    ap (λ (x : Version). let w : frame.Version = record { dialect = x.dialect; is_known = x.is_known } in Some w) is ∙ ap (λ (o : Option frame.Version). version_taken o attrs) (sym e)

pub taken_old : (version : Option frame.Version) (attrs : List Attr) (v : frame.Version) → version ≡ Some v → version ≡ version_taken version attrs
taken_old version attrs v e = e ∙ ap (λ (o : Option frame.Version). version_taken o attrs) (sym e)
