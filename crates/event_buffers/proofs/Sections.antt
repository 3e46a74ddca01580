-- The texts of CDATA sections stay ones.
use Rattle.std.proofs.Common.{◌≡◌, ℕ, Bool, true, false, ◌&&◌, List, [], ◌∷◌, ◌++◌, Option, Some, None, refl, ap, ◌∙◌}
use Rattle.std.specs.Option.{option_map, option_to_list}
use Rattle.std.proofs.lemmas.Bool.{and_from}
use Rattle.std.proofs.lemmas.List.Folds.{list_all-append}
use Rattle.stx_base.specs.Character.{is_cdata_text}
use Rattle.stx_base.specs.declared.part.Part.{Part}
use Rattle.stx_base.specs.declared.part.Part.TheVariants as part
use Rattle.result_writer.specs.Opened.{settled_tag}
use Rattle.result_writer.specs.Target.{Element, Left, holds_cdata_text}
use Rattle.result_writer.specs.declared.tag.HeldTag.{HeldTag}
use Rattle.xml_events.specs.declared.event.Event.{Event}
use Rattle.xml_events.specs.declared.event.Event.TheVariants as event
use Rattle.event_buffers.specs.Kept.{added}
use Rattle.event_buffers.specs.Laws.{SectionsAreTold, SectionsStay}
use Rattle.event_buffers.specs.Sections.{hold_texts, holds_text, tell_texts}
use Rattle.event_buffers.specs.Told.{text_before, told}
use Rattle.event_buffers.specs.declared.kept.Kept.{Kept}
use Rattle.event_buffers.specs.declared.kept.Kept.TheVariants.{Start, End, Chars, CData, Comment, Pi}

-- What is put.

no_leaf : (elements : List Element) (held : Option HeldTag) → hold_texts (option_to_list (option_map Start (settled_tag elements held)) ++ []) ≡ true
no_leaf elements None = refl
no_leaf elements (Some tag) = refl

with_leaf : (elements : List Element) (held : Option HeldTag) (k : Kept) → holds_text k ≡ true
    → hold_texts (option_to_list (option_map Start (settled_tag elements held)) ++ k ∷ []) ≡ true
with_leaf elements None k h = ap (λ b. b && true) h
with_leaf elements (Some tag) k h = ap (λ b. b && true) h

added_holds : (l : Left) (p : Part) → holds_cdata_text p ≡ true → hold_texts (added l p) ≡ true
added_holds l (part.Start name scope) h = no_leaf l.elements l.held
added_holds l (part.Attribute name value) h = refl
added_holds l (part.End name) h = with_leaf l.elements l.held End refl
added_holds l (part.Chars text) h = with_leaf l.elements l.held (Chars text) refl
added_holds l (part.CData text) h = with_leaf l.elements l.held (CData text) h
added_holds l (part.Comment text) h = with_leaf l.elements l.held (Comment text) refl
added_holds l (part.Pi target text) h = with_leaf l.elements l.held (Pi target text) refl

pub sections_stay : SectionsStay
sections_stay l p ks h all = list_all-append holds_text ks (added l p) ∙ and_from _ _ all (added_holds l p h)

-- What is told.

text_tells : (text : List ℕ) (es : List Event) → tell_texts es ≡ true → tell_texts (text_before text es) ≡ true
text_tells [] es h = h
text_tells (c ∷ cs) [] h = refl
text_tells (c ∷ cs) (event.Start offset name attrs decls first ∷ es) h = h
text_tells (c ∷ cs) (event.End offset ∷ es) h = h
text_tells (c ∷ cs) (event.Chars offset text ∷ es) h = h
text_tells (c ∷ cs) (event.CData offset text ∷ es) h = h
text_tells (c ∷ cs) (event.Comment offset text ∷ es) h = h
text_tells (c ∷ cs) (event.Pi offset target text ∷ es) h = h
text_tells (c ∷ cs) (event.DocumentEnd offset ∷ es) h = h

pub sections_are_told : SectionsAreTold
sections_are_told [] h = refl
sections_are_told (Start tag ∷ ks) h = sections_are_told ks h
sections_are_told (End ∷ ks) h = sections_are_told ks h
sections_are_told (Chars text ∷ ks) h = text_tells text (told ks) (sections_are_told ks h)
sections_are_told (CData text ∷ ks) h = section (is_cdata_text text) (sections_are_told ks) h where
  section : (t : Bool) → (hold_texts ks ≡ true → tell_texts (told ks) ≡ true) → (t && hold_texts ks) ≡ true → (t && tell_texts (told ks)) ≡ true
  section true tells all = tells all
  section false tells all = absurd cc
sections_are_told (Comment text ∷ ks) h = sections_are_told ks h
sections_are_told (Pi target text ∷ ks) h = sections_are_told ks h
