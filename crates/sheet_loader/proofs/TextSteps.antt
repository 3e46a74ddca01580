-- What a draft does with a text.
use Rattle.std.proofs.Common.{◌≡◌, ℕ, Bool, true, false, not, ◌&&◌, List, Option, refl, ap, sym, ◌∙◌}
use Rattle.std.specs.List.{list_all}
use Rattle.std.specs.Option.{option_map}
use Rattle.stx_base.specs.Character.{is_space}
use Rattle.stx_base.specs.Course.{Halt}
use Rattle.stx_base.specs.declared.fault.SheetCode.TheVariants as code
use Rattle.xml_events.specs.Tree.{Future}
use Rattle.sheet_loader.proofs.Behind.{same_behind}
use Rattle.sheet_loader.proofs.Leaving.{goes_behind}
use Rattle.sheet_loader.proofs.Taking.{is_number}
use Rattle.sheet_loader.proofs.Texts.{behind_text, blank_text, refused_text, taken_text}
use Rattle.sheet_loader.specs.Drafts.{loading_of}
use Rattle.sheet_loader.specs.Elements.{Inside, allows_text, keeps_space}
use Rattle.sheet_loader.specs.Events.{TakesItems, place_at, stage_of}
use Rattle.sheet_loader.specs.Making.{behind}
use Rattle.sheet_loader.specs.Meant.{inside_of, version_of}
use Rattle.sheet_loader.specs.Read.{text_item}
use Rattle.sheet_loader.specs.Reading as reading
use Rattle.sheet_loader.specs.Reading.{File, Refused}
use Rattle.sheet_loader.specs.Remaining.{Reads_on, remaining, version_by}
use Rattle.sheet_loader.specs.Sound.{IsSound}
use Rattle.sheet_loader.specs.Values.{Reads}
use Rattle.sheet_loader.specs.declared.draft.Draft.{Draft}

module _ (d : Draft) (sound : IsSound d) (reads : Reads) (files : List (Option File)) (offset : ℕ) (text : List ℕ) (f : Future) where
  -- what is so of the frame of a list is so of the list
  here_is : (test : Inside → Bool) (e : (i : Inside) (items : List reading.Item) → test (behind i items) ≡ test i) → test (place_at files f d).here.inside ≡ test (inside_of d.top.inside)
  here_is test e =
      let p = place_at files f d in
      let h = sound.frames.0 (loading_of d).sheet.files files (version_by (option_map version_of d.file.version) f) in
      sym (e p.here.inside p.before) ∙ ap test (sym h.inside)

  counted : (b : Bool) → (list_all is_space text && not (keeps_space (inside_of d.top.inside))) ≡ b → (list_all is_space text && not (keeps_space (place_at files f d).here.inside)) ≡ b
  counted b e = ap (λ k. list_all is_space text && not k) (here_is keeps_space (λ i items. same_behind keeps_space refl items i)) ∙ e

  pub blank_step : (list_all is_space text && not (keeps_space (inside_of d.top.inside))) ≡ true
      → behind_text reads files (place_at files f d) (loading_of d) offset text f ≡ remaining reads files (Reads_on (stage_of d)) f
  blank_step e = blank_text reads files (place_at files f d) (loading_of d) offset text f (counted true e)

  pub refused_step : (list_all is_space text && not (keeps_space (inside_of d.top.inside))) ≡ false → allows_text (inside_of d.top.inside) ≡ false
      → behind_text reads files (place_at files f d) (loading_of d) offset text f ≡ Halt (Refused (record { file = d.file.number; offset = d.top.at }) code.Misplaced)
  refused_step e g =
      let p = place_at files f d in
      let h = sound.frames.0 (loading_of d).sheet.files files (version_by (option_map version_of d.file.version) f) in
      refused_text reads files p (loading_of d) offset text f (counted false e) (here_is allows_text (λ i items. same_behind allows_text refl items i) ∙ g)
      ∙ ap (λ n. Halt (Refused (record { file = n; offset = p.here.at }) code.Misplaced)) (is_number d sound files f)
      ∙ ap (λ n. Halt (Refused (record { file = d.file.number; offset = n }) code.Misplaced)) (sym h.at)

  pub taken_step : (new : Draft) → (list_all is_space text && not (keeps_space (inside_of d.top.inside))) ≡ false → allows_text (inside_of d.top.inside) ≡ true
      → TakesItems (text_item reads files (place_at files f d).here offset text (place_at files f d).here.inside) d new
      → behind_text reads files (place_at files f d) (loading_of d) offset text f ≡ remaining reads files (Reads_on (stage_of new)) f
  taken_step new e g takes =
      taken_text reads files (place_at files f d) (loading_of d) offset text f (counted false e) (here_is allows_text (λ i items. same_behind allows_text refl items i) ∙ g)
      ∙ goes_behind reads files d new (text_item reads files (place_at files f d).here offset text (place_at files f d).here.inside) takes f
