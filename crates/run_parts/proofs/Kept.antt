-- What is known of the parts that a run puts.
use Rattle.std.proofs.Common.{◌≡◌, Bool, true, if◌then◌else◌, List, [], ◌∷◌, ◌++◌, None, Some, refl, ap, ◌∙◌, subst}
use Rattle.std.specs.List.{list_all}
use Rattle.std.proofs.lemmas.Bool.{and_from}
use Rattle.stx_base.specs.declared.name.Binding.{Binding}
use Rattle.result_writer.specs.Target.{Left, first_fault, is_closed, left_by, next, nothing, or_else, settles}
use Rattle.result_writer.specs.declared.fault.ResultFault.TheVariants.{UnclosedResult}
use Rattle.sheet_model.specs.Laws.{KeepsOrder}
use Rattle.template_machine.specs.Ending.{Done, Note, Open, Put, Said}
use Rattle.template_machine.specs.Job.{Given}
use Rattle.run_parts.specs.Laws.{EndsWhole, PutsAccepted, PutsGood, PutsSound, SettlesParts}
use Rattle.run_parts.specs.Parts.{parts_of}
use Rattle.run_parts.specs.Sound.{is_named, is_part_of}
use Rattle.run_parts.proofs.Acts.{run_fine}
use Rattle.run_parts.proofs.Following.{AllFine, behind}
use Rattle.run_parts.proofs.Ordered.{sheet_ordered}
use Rattle.run_parts.proofs.Sound.{sound_list}
use Rattle.run_parts.proofs.Walk.{Fine, next_left}

pub settles_parts : SettlesParts
settles_parts l [] = refl
settles_parts l (Put p ∷ said) = ap (λ bs. settles l p ++ bs) (settles_parts (next l p) said)
settles_parts l (Note text ∷ said) = settles_parts l said
settles_parts l (Open name ∷ said) = settles_parts l said

module _ (given : Given) (S : Type 0) (good : Binding → Bool) where
  abbrev Kept : Left → List Said → Type 0
  Kept = AllFine next_left (Fine given S good)

  kept_accepted : (l : Left) (said : List Said) → Kept l said → first_fault given.limits.elements l (parts_of said) ≡ None
  kept_accepted l [] h = refl
  kept_accepted l (Put p ∷ said) h =
      ap (λ o. or_else o (first_fault given.limits.elements (next l p) (parts_of said))) h.0.0 ∙ kept_accepted (next l p) said h.1
  kept_accepted l (Note text ∷ said) h = kept_accepted l said h.1
  kept_accepted l (Open name ∷ said) h = kept_accepted l said h.1

  kept_sound : S → (l : Left) (said : List Said) → Kept l said → list_all (is_part_of good) (parts_of said) ≡ true
  kept_sound x l [] h = refl
  kept_sound x l (Put p ∷ said) h = and_from _ _ (h.0.1 x) (kept_sound x (next l p) said h.1)
  kept_sound x l (Note text ∷ said) h = kept_sound x l said h.1
  kept_sound x l (Open name ∷ said) h = kept_sound x l said h.1

-- what is left of the output is left by its parts
left_behind : (l : Left) (said : List Said) → behind next_left l said ≡ left_by l (parts_of said)
left_behind l [] = refl
left_behind l (Put p ∷ said) = left_behind (next l p) said
left_behind l (Note text ∷ said) = left_behind l said
left_behind l (Open name ∷ said) = left_behind l said

-- nothing more need be known
pub puts_accepted : KeepsOrder → PutsAccepted
puts_accepted order given tree said e h =
    kept_accepted given ⊥ is_named nothing said (run_fine given ⊥ is_named order (λ x. absurd x) tree (λ x. absurd x) said e h).0

pub ends_whole : KeepsOrder → EndsWhole
ends_whole order given tree said h =
    let fine = run_fine given ⊥ is_named order (λ x. absurd x) tree (λ x. absurd x) said Done h in
    let l = left_by nothing (parts_of said) in
    let closed : is_closed l.elements l.held ≡ true = subst (λ (l : Left). is_closed l.elements l.held ≡ true) (left_behind nothing said) fine.1 in
    ap (λ o. or_else o (if is_closed l.elements l.held then None else Some UnclosedResult)) (kept_accepted given ⊥ is_named nothing said fine.0)
    ∙ ap (λ t. if t then None else Some UnclosedResult) closed

pub puts_good : KeepsOrder → PutsGood
puts_good order good given tree said e ordinary declared sections h =
    kept_sound given (Unit {0}) good tt nothing said
    (run_fine given (Unit {0}) good order (λ x. sheet_ordered given.sheet ordinary) tree (λ x. sound_list good tree declared sections) said e h).0

pub puts_sound : KeepsOrder → PutsSound
puts_sound order given tree said e ordinary names sections h = puts_good order is_named given tree said e ordinary names sections h
