-- What is in force around elements that open and end.
use Rattle.std.proofs.Common.{◌≡◌, List, [], ◌∷◌, ◌++◌, Option, Some, None, filter, not, refl, sym, ap, ◌∙◌, reverse}
use Rattle.std.proofs.lemmas.List.{reverse-append}
use Rattle.stx_base.specs.declared.name.Binding.{Binding}
use Rattle.result_writer.specs.Table.{has_prefix}
use Rattle.template_machine.specs.Scopes.{Scopes, in_force, scopes_by}
use Rattle.template_machine.specs.Trail.{scope_within}

pub in_force_is : (scope : List Binding) (around : List (Option (List Binding))) → in_force (scopes_by scope around) ≡ scope
in_force_is scope [] = refl
in_force_is scope (None ∷ around) = refl
in_force_is scope (Some outer ∷ around) = refl

kept : (scope : List Binding) → filter (λ b. not (has_prefix [] b.prefix)) scope ≡ scope
kept [] = refl
kept (b ∷ scope) = ap (λ bs. b ∷ bs) (kept scope)

-- without declarations all stays in force
pub undeclared : (scope : List Binding) → scope_within scope [] ≡ scope
undeclared scope = kept scope

module _ (items pushed : List (Option (List Binding))) (scope : List Binding) (old : Scopes) (is : scopes_by scope (reverse items) ≡ old) where
  of_old : in_force old ≡ scope
  of_old = sym (ap in_force is) ∙ in_force_is scope (reverse items)

  pub opened_without : (decls : List Binding) → pushed ≡ items ++ None ∷ [] → decls ≡ [] → scopes_by scope (reverse pushed) ≡ scope_within (in_force old) decls ∷ old
  opened_without decls push none =
      ap (λ xs. scopes_by scope (reverse xs)) push
      ∙ ap (scopes_by scope) (reverse-append items (None ∷ []))
      ∙ ap (λ s. scope ∷ s) is
      ∙ ap (λ s. s ∷ old) (sym (ap (λ s. scope_within s decls) of_old ∙ ap (scope_within scope) none ∙ undeclared scope))

  pub opened_with : (decls within : List Binding) → pushed ≡ items ++ Some scope ∷ [] → within ≡ scope_within scope decls → scopes_by within (reverse pushed) ≡ scope_within (in_force old) decls ∷ old
  opened_with decls within push made =
      ap (λ xs. scopes_by within (reverse xs)) push
      ∙ ap (scopes_by within) (reverse-append items (Some scope ∷ []))
      ∙ ap (λ s. within ∷ s) is
      ∙ ap (λ s. s ∷ old) (made ∙ sym (ap (λ s. scope_within s decls) of_old))

  -- where nothing was declared the same is in force
  pub told_same : in_force (scopes_by scope (reverse pushed)) ≡ in_force old
  told_same = in_force_is scope (reverse pushed) ∙ sym of_old
