-- The wanted file is opened, or none is wanted.
use Rattle.std.proofs.Common.{◌≡◌, List, ℕ, Some, None, refl, ap, sym, ◌∙◌}
use Rattle.std.proofs.Math.Path.{subst}
use Rattle.sheet_loader.proofs.LoaderSteps.{name_kept, opens_it, opens_name, opens_none, standing}
use Rattle.sheet_loader.specs.Loaders.{OpensIt, Standing, wanted_in}
use Rattle.sheet_loader.specs.Progress.{IsSoundBy, progress_in}
use Rattle.sheet_loader.specs.declared.loader.Progress as loader
use Rattle.sheet_loader.proofs.ListSteps.{opens_list, opens_no_list}
use Rattle.sheet_loader.specs.Lists.{OpensList}
use Rattle.sheet_loader.proofs.loader.Loader.opened.Goals as goal

some_none : {a : List ℕ} → Some a ≡ None → ⊥
some_none e = cc

pub include-requires-clause-sound : goal.include-requires-clause-sound
include-requires-clause-sound c =
    (subst (λ (p : loader.Progress). IsSoundBy p c.self.inside.draft) (sym c.replace.ensures.value ∙ c.in-Wants.is) c.self.invariant).0

pub include-requires-clause-wanted : goal.include-requires-clause-wanted
include-requires-clause-wanted c =
    (_, (subst (λ (p : loader.Progress). IsSoundBy p c.self.inside.draft) (sym c.replace.ensures.value ∙ c.in-Wants.is) c.self.invariant).1)

pub invariant_of-self : goal.invariant_of-self
invariant_of-self c = subst (λ (p : loader.Progress). IsSoundBy p c.include.new.self) (sym c.replace.ensures.after) c.in-Ok.ensures.sound

pub returns-in-Ok-clause-opens : goal.returns-in-Ok-clause-opens
returns-in-Ok-clause-opens c =
    let d = c.self.inside.draft in
    subst (λ (p : loader.Progress). OpensIt c.args.self.now (standing p c.include.new.self)) (sym c.replace.ensures.after)
    (opens_it c.args.self.now d c.include.new.self c.in-Wants.name c.in-Wants.field-1 (ap (λ (p : loader.Progress). standing p d) (sym c.in-Wants.is ∙ c.replace.ensures.value) ∙ c.self.view_is) c.in-Ok.ensures.behind)

pub returns-in-Ok-clause-names : goal.returns-in-Ok-clause-names
returns-in-Ok-clause-names c =
    let d = c.self.inside.draft in
    opens_name c.args.self.now d c.include.new.self c.in-Wants.name c.in-Wants.field-1 (ap (λ (p : loader.Progress). standing p d) (sym c.in-Wants.is ∙ c.replace.ensures.value) ∙ c.self.view_is) c.in-Ok.ensures.names

pub returns-in-Ok-clause-other : goal.returns-in-Ok-clause-other
returns-in-Ok-clause-other c = λ none.
    absurd (some_none (ap (λ (s : Standing). wanted_in s.progress) (ap (λ (p : loader.Progress). standing p c.self.inside.draft) (sym c.in-Wants.is ∙ c.replace.ensures.value) ∙ c.self.view_is) ∙ none))

pub invariant_of-self-in-Err : goal.invariant_of-self-in-Err
invariant_of-self-in-Err c = subst (λ (p : loader.Progress). IsSoundBy p c.include.new.self) (sym c.turn_to.ensures) tt

pub returns-in-Err-clause-memory : goal.returns-in-Err-clause-memory
returns-in-Err-clause-memory c = ap (λ (p : loader.Progress). progress_in p c.include.new.self) c.turn_to.ensures

pub returns-in-Err-clause-other : goal.returns-in-Err-clause-other
returns-in-Err-clause-other c = λ none.
    absurd (some_none (ap (λ (s : Standing). wanted_in s.progress) (ap (λ (p : loader.Progress). standing p c.self.inside.draft) (sym c.in-Wants.is ∙ c.replace.ensures.value) ∙ c.self.view_is) ∙ none))

pub invariant_of-self-in_default : goal.invariant_of-self-in_default
invariant_of-self-in_default c =
    subst (λ (p : loader.Progress). IsSoundBy p c.self.inside.draft) (sym (c.turn_to-in_default.ensures ∙ c.replace.ensures.value)) c.self.invariant

pub returns-in_default-clause-opens : goal.returns-in_default-clause-opens
returns-in_default-clause-opens c =
    let d = c.self.inside.draft in
    opens_none c.args.self.now c.replace.result d (ap (λ (p : loader.Progress). standing p d) c.replace.ensures.value ∙ c.self.view_is) c.in_default.not-Wants (standing c.turn_to-in_default.new.self d)

pub returns-in_default-clause-names : goal.returns-in_default-clause-names
returns-in_default-clause-names c =
    let d = c.self.inside.draft in
    name_kept c.args.self.now c.replace.result d (ap (λ (p : loader.Progress). standing p d) c.replace.ensures.value ∙ c.self.view_is) c.in_default.not-Wants

pub returns-in_default-clause-other : goal.returns-in_default-clause-other
returns-in_default-clause-other c = λ none. (refl, ap (λ (p : loader.Progress). standing p c.self.inside.draft) (c.turn_to-in_default.ensures ∙ c.replace.ensures.value) ∙ c.self.view_is)

pub returns-in-Ok-clause-list : goal.returns-in-Ok-clause-list
returns-in-Ok-clause-list c =
    let d = c.self.inside.draft in
    subst (λ (p : loader.Progress). OpensList c.args.self.now (standing p c.include.new.self)) (sym c.replace.ensures.after)
    (opens_list c.args.self.now d c.include.new.self c.in-Wants.name c.in-Wants.field-1 (ap (λ (p : loader.Progress). standing p d) (sym c.in-Wants.is ∙ c.replace.ensures.value) ∙ c.self.view_is) c.in-Ok.ensures.list)

pub returns-in_default-clause-list : goal.returns-in_default-clause-list
returns-in_default-clause-list c =
    let d = c.self.inside.draft in
    opens_no_list c.args.self.now c.replace.result d (ap (λ (p : loader.Progress). standing p d) c.replace.ensures.value ∙ c.self.view_is) c.in_default.not-Wants (standing c.turn_to-in_default.new.self d)
