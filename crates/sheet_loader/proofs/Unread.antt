-- A draft of which nothing is read.
use Rattle.std.proofs.Common.{◌≡◌, ℕ, false, List, [], ◌∷◌, ◌++◌, map, reverse, Option, None, refl, ap, sym, ◌∙◌, arith}
use Rattle.std.proofs.Math.Path.{subst}
use Rattle.std.specs.Option.{option_map}
use Rattle.std.specs.declared.alloc.Global.{Global}
use Rattle.std.specs.declared.string.String.{String}
use Rattle.stx_base.specs.declared.part.Part.{Part}
use Rattle.sheet_model.specs.Names.{is_among}
use Rattle.sheet_model.specs.declared.pass.Pass.TheVariants as pass
use Rattle.sheet_model.specs.declared.sheet.Sheet.{Sheet}
use Rattle.sheet_loader.proofs.KnownLemmas.{nothing-known}
use Rattle.sheet_loader.specs.Drafts.{levels_in, level_in, loading_of}
use Rattle.sheet_loader.specs.Events.{stage_of}
use Rattle.sheet_loader.specs.Keys.{names_in, text_of}
use Rattle.sheet_loader.specs.Known.{Known, Knows, known, nothing_known}
use Rattle.sheet_loader.specs.Levels.{The_sheet, entered, nowhere}
use Rattle.sheet_loader.specs.Meant.{version_of}
use Rattle.sheet_loader.specs.Reading.{File}
use Rattle.sheet_loader.specs.Remaining.{Progress, Reads_on, beginning}
use Rattle.sheet_loader.specs.Sound.{AreFit, AreNamed, IsFit, IsKnown, IsSound, numbers_of}
use Rattle.sheet_loader.specs.Versions.{Version}
use Rattle.sheet_loader.specs.declared.draft.Draft.{Draft}
use Rattle.sheet_loader.specs.declared.frame.Frame.{Frame}
use Rattle.sheet_loader.specs.declared.frame.OpenFile.{OpenFile}
use Rattle.sheet_loader.specs.declared.frame.Opened.TheVariants as opened
use Rattle.sheet_loader.specs.declared.inside.Before.TheVariants as before
use Rattle.sheet_loader.specs.declared.inside.Inside.TheVariants as inside
use Rattle.sheet_loader.specs.declared.names.NameSet.{NameSet}

-- the list of the sheet's own file
abbrev pub sheet_list : NameSet → Frame
sheet_list given = record {
  opened = opened.Sheet;
  inside = inside.Document false;
  at = 0;
  group = 0;
  pass = pass.None;
  items = [];
  before = before.Something;
  given = given;
  locals = 0;
  around = 0;
  parts = 0;
}

abbrev pub empty_sheet : Sheet
empty_sheet = record { groups = []; templates = []; procedures = []; buffers = []; variables = []; strip = false; cdata = false; files = [] }

abbrev pub first_file : OpenFile
first_file = record { number = 0; version = None; scope = [] }

module _ (given : NameSet) (none : names_in given ≡ []) where
  fit : (names : List (List ℕ)) (files : List (Option File)) (version : Version)
      → IsFit (sheet_list given) [] first_file [] [] (entered names files version The_sheet (level_in (sheet_list given) first_file []) (nowhere names files version)) (nowhere names files version)
  fit names files version = record {
    stands = refl;
    bottom = λ e. tt;
    inside = refl;
    before = refl;
    at = refl;
    group = refl;
    pass = refl;
    number = refl;
    scope = refl;
    declared = omega arith;
    given = λ n. ap (λ l. is_among l n) none;
    locals = λ n. refl;
    brought = omega arith;
    outside = λ e. refl;
    parts = omega arith;
    no_parts = λ e. refl;
    parts_alone = λ e. cc;
  }

  pub begins_fit : AreFit (sheet_list given ∷ []) first_file [] []
  begins_fit = ((λ names files version. fit names files version), tt)

  module _ (d : Draft) (top : d.top ≡ sheet_list given) (below : d.below.items ≡ []) (file : d.file ≡ first_file) (parts : d.parts ≡ []) (names : known d.register ≡ nothing_known) (sheet : d.sheet ≡ empty_sheet) (reading : d.reading.keys ≡ []) where
    pub begins_sound : IsSound d
    begins_sound = record {
      frames =
          subst (λ (t : Frame). AreFit (t ∷ reverse d.below.items) d.file d.parts (known d.register).locals) (sym top)
          (subst (λ (l : List Frame). AreFit (sheet_list given ∷ reverse l) d.file d.parts (known d.register).locals) (sym below)
          (subst (λ (x : OpenFile). AreFit (sheet_list given ∷ []) x d.parts (known d.register).locals) (sym file)
          (subst (λ (l : List Part). AreFit (sheet_list given ∷ []) first_file l (known d.register).locals) (sym parts)
          (subst (λ (k : Known). AreFit (sheet_list given ∷ []) first_file [] k.locals) (sym names) begins_fit))));
      version = subst (λ (t : Frame). IsKnown t.opened d.file.version) (sym top) tt;
      declares =
          subst (λ (k : Known). Knows k.declares (loading_of d).sheet) (sym names)
          (nothing-known (loading_of d).sheet (ap (λ (s : Sheet). s.groups) sheet) (ap (λ (s : Sheet). s.procedures) sheet) (ap (λ (s : Sheet). s.buffers) sheet) (ap (λ (s : Sheet). s.variables) sheet));
      files =
          subst (λ (t : Frame). AreNamed (numbers_of (t ∷ reverse d.below.items) d.file) d) (sym top)
          (subst (λ (l : List Frame). AreNamed (numbers_of (sheet_list given ∷ reverse l) d.file) d) (sym below)
          (record { known = (omega arith, tt); kept = ap (λ (k : List (String Global)). reverse (map text_of k) ++ d.own ∷ []) (sym reading) }));
    }

    pub begins_progress : Reads_on (stage_of d) ≡ beginning d.own
    begins_progress =
        ap (λ (t : Frame). progress_by (t ∷ reverse d.below.items) d.file d.parts d.sheet (known d.register)) top
        ∙ ap (λ (l : List Frame). progress_by (sheet_list given ∷ reverse l) d.file d.parts d.sheet (known d.register)) below
        ∙ ap (λ (x : OpenFile). progress_by (sheet_list given ∷ []) x d.parts d.sheet (known d.register)) file
        ∙ ap (λ (l : List Part). progress_by (sheet_list given ∷ []) first_file l d.sheet (known d.register)) parts
        ∙ ap (λ (s : Sheet). progress_by (sheet_list given ∷ []) first_file [] s (known d.register)) sheet
        ∙ ap (λ (k : Known). progress_by (sheet_list given ∷ []) first_file [] empty_sheet k) names
      where
        progress_by : List Frame → OpenFile → List Part → Sheet → Known → Progress
        progress_by frames x l s k = Reads_on (record { levels = levels_in frames x l; version = option_map version_of x.version; loading = record { sheet = record s { files = d.own ∷ s.files }; references = k.references } })
