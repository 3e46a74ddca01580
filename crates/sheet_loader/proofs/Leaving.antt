-- The innermost list is left.
use Rattle.std.proofs.Common.{◌≡◌, true, List, reverse, take, Option, Some, None, is_some, refl, ap, sym, ◌∙◌}
use Rattle.std.proofs.Math.Path.{subst}
use Rattle.std.specs.Option.{option_map}
use Rattle.xml_events.specs.Tree.{Future}
use Rattle.sheet_loader.proofs.Places.{place_in_with, place_with}
use Rattle.sheet_loader.specs.Drafts.{file_around, frames_of, level_in, levels_in, levels_of, loading_of, parts_around}
use Rattle.sheet_loader.specs.Events.{TakesItems, stage_of}
use Rattle.sheet_loader.specs.Known.{Knows, known}
use Rattle.sheet_loader.specs.Levels.{place_in}
use Rattle.sheet_loader.specs.Meant.{version_of}
use Rattle.sheet_loader.specs.Reading.{File, Item}
use Rattle.sheet_loader.specs.Remaining.{Reads_on, goes_on, place_of, remaining, version_by}
use Rattle.sheet_loader.specs.Sound.{AreFit, AreNamed, IsKnown, IsSound, IsSoundWithin, numbers_of}
use Rattle.sheet_loader.specs.Values.{Reads}
use Rattle.sheet_loader.specs.Versions.{Version}
use Rattle.sheet_loader.specs.declared.draft.Draft.{Draft}
use Rattle.sheet_loader.specs.declared.frame.Frame.{Frame}
use Rattle.sheet_loader.specs.declared.frame.Opened.{Opened}
use Rattle.sheet_loader.specs.declared.frame.Opened.TheVariants as opened
use Rattle.sheet_loader.specs.declared.frame.Version as frame
use Rattle.sheet_loader.specs.declared.register.Register.{Register}

-- a draft of which the list within is left
abbrev pub left : Frame → Draft → Register → Draft
left f d r = record d { register = r; file = file_around f.opened f.around d.file; parts = parts_around f.opened f.parts d.parts }

-- a version that is known is known wherever a list stands
pub known_anywhere : (o : Opened) (version : Option frame.Version) → is_some version ≡ true → IsKnown o version
known_anywhere opened.Sheet version e = tt
known_anywhere (opened.File includer) version e = tt
known_anywhere (opened.Element kind v own) version e = e
known_anywhere (opened.Literal name attrs) version e = e
known_anywhere (opened.Part name start) version e = e

-- a version that is known doesn't depend on what is still to come
pub version_known : (version : Option frame.Version) (f g : Future) → is_some version ≡ true → version_by (option_map version_of version) f ≡ version_by (option_map version_of version) g
version_known None f g e = cc
version_known (Some version) f g e = refl

module _ (f : Frame) (d : Draft) (r : Register) (sound : IsSoundWithin f d) (leaves : known r ≡ record (known d.register) { locals = take f.locals (known d.register).locals }) where
  pub frames_left : AreFit (frames_of d) (file_around f.opened f.around d.file) (parts_around f.opened f.parts d.parts) (known r).locals
  frames_left = subst (λ k. AreFit (frames_of d) (file_around f.opened f.around d.file) (parts_around f.opened f.parts d.parts) k.locals) (sym leaves) sound.frames.1

  pub declares_left : Knows (known r).declares (loading_of d).sheet
  declares_left = subst (λ k. Knows k.declares (loading_of d).sheet) (sym leaves) sound.declares

  -- the list of an element is left, which is in the same file
  pub sound_left : IsKnown d.top.opened (left f d r).file.version → AreNamed (numbers_of (frames_of d) (left f d r).file) d → IsSound (left f d r)
  sound_left e files = record {
    frames = frames_left;
    version = e;
    declares = declares_left;
    files = record { known = files.known; kept = files.kept };
  }

  pub loading_left : loading_of (left f d r) ≡ loading_of d
  loading_left = ap (λ k. record (loading_of d) { references = k.references }) leaves

-- Behind the items that a list came to, the list around it goes on.
module _ (reads : Reads) (files : List (Option File)) (old new : Draft) (items : List Item) (takes : TakesItems items old new) where
  pub place_behind : (version : Version) → place_in (loading_of new).sheet.files files version (levels_of new) ≡ place_with items (place_in (loading_of old).sheet.files files version (levels_of old))
  place_behind version =
      ap (λ l. place_in l.sheet.files files version (levels_of new)) takes.loading
      ∙ ap (place_in (loading_of old).sheet.files files version) takes.levels
      ∙ place_in_with (loading_of old).sheet.files files version (level_in old.top old.file old.parts) (levels_in (reverse old.below.items) (file_around old.top.opened old.top.around old.file) (parts_around old.top.opened old.top.parts old.parts)) items

  pub goes_behind : (f : Future) → goes_on reads files (place_with items (place_of files (stage_of old) f)) (loading_of old) f ≡ remaining reads files (Reads_on (stage_of new)) f
  goes_behind f =
      ap (λ v. goes_on reads files (place_with items (place_in (loading_of old).sheet.files files (version_by (option_map version_of v) f) (levels_of old))) (loading_of old) f) (sym takes.version)
      ∙ ap (λ p. goes_on reads files p (loading_of old) f) (sym (place_behind (version_by (option_map version_of new.file.version) f)))
      ∙ ap (λ l. goes_on reads files (place_of files (stage_of new) f) l f) (sym takes.loading)
