-- What is in force at a tag.
use Rattle.std.proofs.Common.{◌≡◌, ℕ, Bool, true, List, ◌++◌, take, drop, Option, is_some, ap, sym, ◌∙◌, refl}
use Rattle.std.proofs.lemmas.List.{take-append-drop}
use Rattle.std.specs.Option.{option_map}
use Rattle.xml_events.specs.Tree.{Future}
use Rattle.sheet_loader.proofs.Behind.{same_behind}
use Rattle.sheet_loader.proofs.LiteralStarts.{version_in_place, version_is}
use Rattle.sheet_loader.specs.Drafts.{before_tag, levels_of, loading_of, version_in}
use Rattle.sheet_loader.specs.Events.{place_at}
use Rattle.sheet_loader.specs.Judging.{is_declared_here, locals_at}
use Rattle.sheet_loader.specs.Keys.{names_in}
use Rattle.sheet_loader.specs.Known.{AreGiven, HasLocals, KnowsAt, known}
use Rattle.sheet_loader.specs.Levels.{Place_in}
use Rattle.sheet_loader.specs.Making.{behind, last_of}
use Rattle.sheet_loader.specs.Meant.{before_of, inside_of, version_of}
use Rattle.sheet_loader.specs.Reading.{File}
use Rattle.sheet_loader.specs.Remaining.{version_by}
use Rattle.sheet_loader.specs.Sound.{IsSound}
use Rattle.sheet_loader.specs.declared.draft.Draft.{Draft}

module _ (d : Draft) (around : ℕ) (sound : IsSound (before_tag d around)) (files : List (Option File)) (f : Future) where
  abbrev pub place_of_tag : Place_in
  place_of_tag = place_at files f (before_tag d around)

  pub file_here : place_of_tag.here.file ≡ d.file.number
  file_here = sym (sound.frames.0 (loading_of d).sheet.files files (version_by (option_map version_of d.file.version) f)).number

  pub group_here : d.top.group ≡ place_of_tag.here.group
  group_here = (sound.frames.0 (loading_of d).sheet.files files (version_by (option_map version_of d.file.version) f)).group

  pub pass_here : d.top.pass ≡ place_of_tag.here.pass
  pass_here = (sound.frames.0 (loading_of d).sheet.files files (version_by (option_map version_of d.file.version) f)).pass

  pub inside_here : inside_of d.top.inside ≡ behind place_of_tag.here.inside place_of_tag.before
  inside_here = (sound.frames.0 (loading_of d).sheet.files files (version_by (option_map version_of d.file.version) f)).inside

  pub before_here : before_of d.top.before ≡ last_of place_of_tag.before
  before_here = (sound.frames.0 (loading_of d).sheet.files files (version_by (option_map version_of d.file.version) f)).before

  pub locals_here : HasLocals (known d.register) (locals_at place_of_tag.here place_of_tag.before)
  locals_here = (sound.frames.0 (loading_of d).sheet.files files (version_by (option_map version_of d.file.version) f)).locals

  pub given_here : AreGiven (names_in d.top.given) place_of_tag.before
  given_here = (sound.frames.0 (loading_of d).sheet.files files (version_by (option_map version_of d.file.version) f)).given

  pub version_here : is_some d.file.version ≡ true → place_of_tag.here.version ≡ version_in d.file
  version_here e = version_in_place (loading_of d).sheet.files files (version_by (option_map version_of d.file.version) f) (levels_of (before_tag d around)) ∙ version_is d.file f e

  -- the declarations of the tag are the last ones of the scope
  pub scope_here : place_of_tag.here.scope ++ drop around d.file.scope ≡ d.file.scope
  scope_here =
      ap (λ l. l ++ drop around d.file.scope) (sym (sound.frames.0 (loading_of d).sheet.files files (version_by (option_map version_of d.file.version) f)).scope)
      ∙ take-append-drop around d.file.scope

  -- what a list may hold, as far as it doesn't depend on what stands in it so far
  pub declared_here : is_declared_here (inside_of d.top.inside) ≡ is_declared_here place_of_tag.here.inside
  declared_here = ap is_declared_here inside_here ∙ same_behind is_declared_here refl place_of_tag.before place_of_tag.here.inside

  pub knows_here : (b : Bool) → b ≡ is_declared_here (inside_of d.top.inside) → KnowsAt (known d.register) d.top.group b place_of_tag.here place_of_tag.before (loading_of d).sheet
  knows_here b e = record {
    group_is = group_here;
    is_declared_is = e ∙ declared_here;
    declares = sound.declares;
    locals = locals_here;
  }
