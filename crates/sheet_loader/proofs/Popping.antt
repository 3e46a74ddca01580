-- The innermost list is taken off.
use Rattle.std.proofs.Common.{◌≡◌, ℕ, false, List, [], ◌∷◌, ◌++◌, map, drop, reverse, Option, refl, ap, sym, ◌∙◌}
use Rattle.std.proofs.Math.Path.{subst}
use Rattle.std.proofs.Math.Seq.{drop-nil}
use Rattle.std.proofs.lemmas.List.{append-nil}
use Rattle.std.specs.Option.{option_map}
use Rattle.stxpath_syntax.specs.declared.dialect.Dialect.TheVariants.{One}
use Rattle.xml_events.specs.Tree.{End, Future, Mark}
use Rattle.sheet_loader.proofs.Ends.{end_comes}
use Rattle.sheet_loader.proofs.Pushing.{turned}
use Rattle.sheet_loader.proofs.Resuming.{answer_then, equal_answer}
use Rattle.sheet_loader.specs.Drafts.{file_around, frames_of, items_in, level_in, levels_in, loading_of, parts_around}
use Rattle.sheet_loader.specs.Events.{stage_of, stage_within}
use Rattle.sheet_loader.specs.Known.{known}
use Rattle.sheet_loader.specs.Levels.{Place_in, place_in}
use Rattle.sheet_loader.specs.Meant.{item_of, version_of}
use Rattle.sheet_loader.specs.Reading as reading
use Rattle.sheet_loader.specs.Reading.{File}
use Rattle.sheet_loader.specs.Remaining.{Ended, Reads_on, remaining, version_by}
use Rattle.sheet_loader.specs.Resuming.{SameAnswer, continue}
use Rattle.sheet_loader.specs.Sound.{AreFit, AreNamed, IsSheet, IsSound, IsSoundWithin, numbers_of}
use Rattle.sheet_loader.specs.Values.{Reads}
use Rattle.sheet_loader.specs.Versions.{Version}
use Rattle.sheet_loader.specs.declared.draft.Draft.{Draft}
use Rattle.sheet_loader.specs.declared.frame.Frame.{Frame}
use Rattle.sheet_loader.specs.declared.frame.Opened.{Opened}
use Rattle.sheet_loader.specs.declared.frame.Opened.TheVariants as opened

module _ (old new : Draft) (around : Frame) (is : new ≡ record old { top = around; below = new.below }) (below : old.below.items ≡ new.below.items ++ around ∷ []) where
  abbrev popped : Draft
  popped = record old { top = around; below = new.below }

  frames_are : reverse old.below.items ≡ frames_of popped
  frames_are = ap reverse below ∙ turned new.below.items around

  pub popped_sound : IsSound old → IsSoundWithin old.top new
  popped_sound sound = subst (IsSoundWithin old.top) (sym is) after where
    after : IsSoundWithin old.top popped
    after = record {
      frames = subst (λ l. AreFit (old.top ∷ l) old.file old.parts (known old.register).locals) frames_are sound.frames;
      version = sound.version;
      declares = sound.declares;
      files = subst (λ l. AreNamed (numbers_of (old.top ∷ l) old.file) popped) frames_are (record { known = sound.files.known; kept = sound.files.kept });
    }

  pub popped_stage : stage_of old ≡ stage_within old.top new
  popped_stage =
      ap (λ l. record (stage_of old) { levels = levels_in (old.top ∷ l) old.file old.parts }) frames_are
      ∙ ap (stage_within old.top) (sym is)

sheet_only : (o : Opened) → IsSheet o → o ≡ opened.Sheet
sheet_only opened.Sheet h = refl
sheet_only (opened.File includer) h = absurd h
sheet_only (opened.Element kind v own) h = absurd h
sheet_only (opened.Literal name attrs) h = absurd h
sheet_only (opened.Part name start) h = absurd h

module _ (d : Draft) (sound : IsSound d) (below : d.below.items ≡ []) where
  abbrev v0 : Version
  v0 = record { dialect = One; is_known = false }

  is_sheet : d.top.opened ≡ opened.Sheet
  is_sheet = sheet_only d.top.opened ((sound.frames.0 [] [] v0).bottom (ap reverse below))

  fit_as : (o : Opened) → d.top.opened ≡ o → AreFit (record d.top { opened = o } ∷ reverse d.below.items) d.file d.parts (known d.register).locals
  fit_as o e = subst (λ (x : Opened). AreFit (record d.top { opened = x } ∷ reverse d.below.items) d.file d.parts (known d.register).locals) e sound.frames

  no_parts : d.parts ≡ []
  no_parts = ((fit_as opened.Sheet is_sheet).0 [] [] v0).no_parts refl

  items_are : items_in d.top d.parts ≡ map item_of d.top.items
  items_are = ap (λ q. map item_of d.top.items ++ map reading.A_part (drop d.top.parts q)) no_parts ∙ ap (λ q. map item_of d.top.items ++ map reading.A_part q) (drop-nil d.top.parts) ∙ append-nil (map item_of d.top.items)

  -- the sheet's own file is at its end
  pub all_read : (reads : Reads) (files : List (Option File)) (mark : Mark) (offset : ℕ) (f : Future)
      → SameAnswer reads files (remaining reads files (Reads_on (stage_of d)) (End mark offset ∷ f)) (remaining reads files (Ended (map item_of d.top.items) (loading_of d)) f)
  all_read reads files mark offset f =
      let names = (loading_of d).sheet.files in
      let v = version_by (option_map version_of d.file.version) (End mark offset ∷ f) in
      let at : Opened → Place_in = λ o. place_in names files v (level_in (record d.top { opened = o }) d.file d.parts ∷ levels_in (reverse d.below.items) (file_around o d.top.around d.file) (parts_around o d.top.parts d.parts)) in
      answer_then reads files (end_comes reads files (stage_of d) mark offset f)
      (equal_answer reads files
      (ap (λ o. continue reads files (at o).opens (record { items = (at o).before; loading = loading_of d }) f) is_sheet
      ∙ ap (λ i. remaining reads files (Ended i (loading_of d)) f) items_are))
