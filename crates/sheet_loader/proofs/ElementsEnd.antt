-- An element of the language is at its end.
use Rattle.std.proofs.Common.{◌≡◌, ℕ, Bool, true, false, List, ◌∷◌, map, take, Option, Result, Ok, Err, OnOk, refl, ap, sym, ◌∙◌}
use Rattle.std.proofs.Math.Path.{subst}
use Rattle.std.specs.Option.{option_map}
use Rattle.stx_base.specs.Course.{Halt}
use Rattle.stx_base.specs.declared.fault.Place.{Place}
use Rattle.stx_base.specs.declared.fault.SheetCode.{SheetCode}
use Rattle.stx_base.specs.declared.fault.SheetCode.TheVariants as code
use Rattle.xml_events.specs.Tree.{End, Future, Mark}
use Rattle.sheet_loader.proofs.Closing.{element_end_comes, element_frame, items_alone, items_at_end, its_place, its_place_is, its_tag, place_around}
use Rattle.sheet_loader.proofs.ElementEnds.{no_branch}
use Rattle.sheet_loader.proofs.ItemEnds.{list_end_answer, list_end_files, list_end_sound}
use Rattle.sheet_loader.proofs.Resuming.{answer_then, equal_answer}
use Rattle.sheet_loader.proofs.SheetEnds.{sheet_end_answer, sheet_end_files, sheet_end_sound}
use Rattle.sheet_loader.specs.Drafts.{loading_of}
use Rattle.sheet_loader.specs.Elements as element
use Rattle.sheet_loader.specs.Elements.{is_buffer}
use Rattle.sheet_loader.specs.Events.{BehindNode, stage_of, stage_within}
use Rattle.sheet_loader.specs.Gathering.{values_in}
use Rattle.sheet_loader.specs.Judging.{is_declared_here}
use Rattle.sheet_loader.specs.Keys.{own_of}
use Rattle.sheet_loader.specs.Known.{known}
use Rattle.sheet_loader.specs.Levels.{Place_in}
use Rattle.sheet_loader.specs.Meant.{inside_of, item_of, kind_of, version_of}
use Rattle.sheet_loader.specs.Named.{SameFiles, names_of}
use Rattle.sheet_loader.specs.Reading as reading
use Rattle.sheet_loader.specs.Reading.{Does, File, Listed, Refused, place}
use Rattle.sheet_loader.specs.Remaining.{Reads_on, remaining, version_by}
use Rattle.sheet_loader.specs.Resuming.{SameAnswer}
use Rattle.sheet_loader.specs.Sound.{IsSound, IsSoundWithin}
use Rattle.sheet_loader.specs.Steps.{AddsBy, EndsElement, lacks_branches}
use Rattle.sheet_loader.specs.Values.{Reads}
use Rattle.sheet_loader.specs.declared.declared.Own.{Own}
use Rattle.sheet_loader.specs.declared.draft.Draft.{Draft}
use Rattle.sheet_loader.specs.declared.frame.Frame.{Frame}
use Rattle.sheet_loader.specs.declared.kind.Kind.{Kind}
use Rattle.sheet_loader.specs.declared.refused.Stop.{Stop}
use Rattle.sheet_loader.specs.declared.refused.Stop.TheVariants as stop
use Rattle.sheet_loader.specs.declared.register.Register.{Register}
use Rattle.sheet_loader.specs.declared.values.Values.{Values}

-- only a choose lacks branches, in whose list no parts stand
lacks_too : (k : element.Kind) (xs ys : List reading.Item) → (is_buffer k ≡ false → ys ≡ xs) → lacks_branches k xs ≡ true → lacks_branches k ys ≡ true
lacks_too element.Choose xs ys e h = ap (lacks_branches element.Choose) (e refl) ∙ h
lacks_too other xs ys e h = cc

module _ (f0 : Frame) (d made new : Draft) (r : Register) (kind : Kind) (v : Values) (own : Own) (sound : IsSoundWithin (element_frame f0 d r kind v own) d)
    (leaves : known r ≡ record (known d.register) { locals = take f0.locals (known d.register).locals })
    (is : new ≡ record made { file = record made.file { scope = take f0.around made.file.scope } }) where
  abbrev items : List reading.Item
  items = map item_of f0.items

  abbrev at : Place
  at = its_place f0 d r kind v own

  abbrev Adds : Bool → Type 0
  Adds b = AddsBy b (kind_of kind) d.top.group at (values_in v) (own_of own) items (record d { register = r }) made

  abbrev still : Reads → List (Option File) → Mark → ℕ → Future → Does Listed
  still reads files mark offset f = remaining reads files (Reads_on (stage_within (element_frame f0 d r kind v own) d)) (End mark offset ∷ f)

  sound_by : (b : Bool) → is_declared_here (inside_of d.top.inside) ≡ b → Adds b → IsSound new
  sound_by true e adds = sheet_end_sound f0 d made new r kind v own sound leaves adds is
  sound_by false e adds = list_end_sound f0 d made new r kind v own sound leaves adds is e

  answer_by : (b : Bool) → is_declared_here (inside_of d.top.inside) ≡ b → Adds b → (reads : Reads) (files : List (Option File)) (mark : Mark) (offset : ℕ) (f : Future)
      → lacks_branches (kind_of kind) items ≡ false → SameAnswer reads files (still reads files mark offset f) (remaining reads files (Reads_on (stage_of new)) f)
  answer_by true e adds reads files mark offset f branched = sheet_end_answer f0 d made new r kind v own sound leaves adds is reads files mark offset f e branched
  answer_by false e adds reads files mark offset f branched = list_end_answer f0 d made new r kind v own sound leaves adds is e reads files mark offset f branched

  pub element_end_sound : (result : Result (Unit {0}) Stop) → EndsElement (kind_of kind) at (values_in v) (own_of own) items (record d { register = r }) made result → OnOk result (IsSound new)
  element_end_sound (Ok done) ends = sound_by (is_declared_here (inside_of d.top.inside)) refl ends.1
  element_end_sound (Err why) ends = tt

  files_by : (b : Bool) → is_declared_here (inside_of d.top.inside) ≡ b → Adds b → names_of new ≡ names_of d
  files_by true e adds = sheet_end_files f0 d made new r kind v own sound leaves adds is
  files_by false e adds = list_end_files f0 d made new r kind v own sound leaves adds is e

  pub element_end_files : (result : Result (Unit {0}) Stop) → EndsElement (kind_of kind) at (values_in v) (own_of own) items (record d { register = r }) made result → SameFiles result d new
  element_end_files (Ok done) ends = files_by (is_declared_here (inside_of d.top.inside)) refl ends.1
  element_end_files (Err (stop.Fault why place)) ends = ap names_of is ∙ ap names_of ends.3
  element_end_files (Err stop.Memory) ends = tt

  refused_at : (reads : Reads) (files : List (Option File)) (mark : Mark) (offset : ℕ) (f : Future) → lacks_branches (kind_of kind) items ≡ true
      → SameAnswer reads files (still reads files mark offset f) (Halt (Refused at code.Misplaced))
  refused_at reads files mark offset f lacks =
      let names = (loading_of d).sheet.files in
      let found = items_at_end f0 d r kind v own sound leaves in
      let v1 = version_by (option_map version_of d.file.version) (End mark offset ∷ f) in
      let q : Place_in = place_around f0 d r kind v own sound leaves names files v1 in
      let e = its_tag f0 d r kind v own sound leaves in
      answer_then reads files (element_end_comes f0 d r kind v own sound leaves reads files mark offset f)
      (equal_answer reads files
      (no_branch reads files q e (kind_of kind) (values_in v) found (loading_of d) f (lacks_too (kind_of kind) items found (items_alone f0 d r kind v own sound leaves) lacks)
      ∙ ap (λ p. Halt (Refused p code.Misplaced)) (its_place_is f0 d r kind v own sound leaves names files v1)))

  pub element_end_behind : (result : Result (Unit {0}) Stop) → EndsElement (kind_of kind) at (values_in v) (own_of own) items (record d { register = r }) made result
      → (reads : Reads) (files : List (Option File)) (mark : Mark) (offset : ℕ) (f : Future) → BehindNode reads files (still reads files mark offset f) new f result
  element_end_behind (Ok done) ends reads files mark offset f = answer_by (is_declared_here (inside_of d.top.inside)) refl ends.1 reads files mark offset f ends.0
  element_end_behind (Err (stop.Fault why place)) ends reads files mark offset f =
      subst (λ (w : SheetCode). SameAnswer reads files (still reads files mark offset f) (Halt (Refused place w))) (sym ends.1)
      (subst (λ (p : Place). SameAnswer reads files (still reads files mark offset f) (Halt (Refused p code.Misplaced))) (sym ends.2)
      (refused_at reads files mark offset f ends.0))
  element_end_behind (Err stop.Memory) ends reads files mark offset f = tt
