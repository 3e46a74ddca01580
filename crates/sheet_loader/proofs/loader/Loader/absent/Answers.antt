-- The wanted file is absent, or none is wanted.
use Rattle.std.proofs.Common.{◌≡◌, List, ℕ, Option, Some, None, ap, sym, ◌∙◌}
use Rattle.std.proofs.lemmas.Bool.{false≢true}
use Rattle.std.specs.Prelude.{IsSome}
use Rattle.std.proofs.Math.Path.{subst}
use Rattle.sheet_loader.proofs.LoaderSteps.{misses_it, misses_none, standing}
use Rattle.sheet_loader.specs.Loaders.{MissesIt, Standing, wanted_in}
use Rattle.sheet_loader.specs.Progress.{IsSoundBy}
use Rattle.sheet_loader.specs.declared.loader.Progress as loader
use Rattle.sheet_loader.specs.Loaders.{is_over}
use Rattle.sheet_loader.specs.Progress.{progress_in}
use Rattle.sheet_loader.proofs.LoaderSteps.{none_wanted}
use Rattle.sheet_loader.proofs.loader.Loader.absent.Goals as goal

some_none : {a : List ℕ} → Some a ≡ None → ⊥
some_none e = cc

is_some_none : (o : Option (List ℕ)) → IsSome o → o ≡ None → ⊥
is_some_none None some e = absurd (false≢true some)
is_some_none (Some x) some e = cc

pub invariant_of-self : goal.invariant_of-self
invariant_of-self c = subst (λ (p : loader.Progress). IsSoundBy p c.self.inside.draft) (sym c.turn_to.ensures) tt

pub returns-in-Wants-clause-misses : goal.returns-in-Wants-clause-misses
returns-in-Wants-clause-misses c =
    let d = c.self.inside.draft in
    let sound = subst (λ (p : loader.Progress). IsSoundBy p d) c.in-Wants.is c.self.invariant in
    subst (λ (p : loader.Progress). MissesIt c.args.self.now (standing p d)) (sym c.turn_to.ensures)
    (misses_it c.args.self.now d c.in-Wants.field-0 c.in-Wants.at (ap (λ (p : loader.Progress). standing p d) (sym c.in-Wants.is) ∙ c.self.view_is) sound.0 sound.1)

pub returns-in-Wants-clause-names : goal.returns-in-Wants-clause-names
returns-in-Wants-clause-names c = ap (λ (s : Standing). s.names) c.self.view_is

pub returns-in-Wants-clause-other : goal.returns-in-Wants-clause-other
returns-in-Wants-clause-other c = λ none.
    absurd (some_none (ap (λ (s : Standing). wanted_in s.progress) (ap (λ (p : loader.Progress). standing p c.self.inside.draft) (sym c.in-Wants.is) ∙ c.self.view_is) ∙ none))

pub returns-in_default-clause-misses : goal.returns-in_default-clause-misses
returns-in_default-clause-misses c = misses_none c.args.self.now c.args.self.now c.self.inside.progress c.self.inside.draft c.self.view_is c.in_default.not-Wants

pub returns-in-Wants-clause-over : goal.returns-in-Wants-clause-over
returns-in-Wants-clause-over c = λ wanted. ap (λ (p : loader.Progress). is_over (progress_in p c.self.inside.draft)) c.turn_to.ensures

pub returns-in_default-clause-over : goal.returns-in_default-clause-over
returns-in_default-clause-over c = λ wanted.
    let none : wanted_in c.args.self.now.progress ≡ None =
    ap (λ (s : Standing). wanted_in s.progress) (sym c.self.view_is) ∙ none_wanted c.self.inside.progress c.self.inside.draft c.in_default.not-Wants in
    absurd (is_some_none (wanted_in c.args.self.now.progress) wanted none)
