-- An event is taken where the loader reads on; where it stopped, events count for nothing.
use Rattle.std.proofs.Common.{◌≡◌, ap, sym, ◌∙◌}
use Rattle.std.proofs.Math.Path.{subst}
use Rattle.sheet_loader.proofs.LoaderSteps.{kept_over, spent_of}
use Rattle.sheet_loader.specs.Loaders.{Standing, TakesEvent, wanted_in}
use Rattle.sheet_loader.specs.Named.{names_of}
use Rattle.sheet_loader.specs.Progress.{IsSoundBy, progress_in}
use Rattle.sheet_loader.specs.Remaining.{Progress, Reads_on, Spent, Stage}
use Rattle.sheet_loader.specs.declared.loader.Progress as loader
use Rattle.sheet_loader.proofs.ListSteps.{files_are, lists_over}
use Rattle.sheet_loader.specs.Lists.{FilesAre, KeepsLists}
use Rattle.sheet_loader.proofs.loader.Loader.feed_event.Goals as goal

reads_or_spent : (s : Stage) → Reads_on s ≡ Spent → ⊥
reads_or_spent s e = cc

pub advance-requires : goal.advance-requires
advance-requires c = subst (λ (p : loader.Progress). IsSoundBy p c.self.inside.draft) c.in-Reads.is c.self.invariant

pub invariant_of-self : goal.invariant_of-self
invariant_of-self c = subst (λ (p : loader.Progress). IsSoundBy p c.advance.new.draft) (sym c.turn_to.ensures) c.in-Ok.ensures.sound

pub invariant_of-self-in-Err : goal.invariant_of-self-in-Err
invariant_of-self-in-Err c = subst (λ (p : loader.Progress). IsSoundBy p c.advance.new.draft) (sym c.turn_to-in-Err.ensures) tt

pub returns-in-Ok-clause-takes : goal.returns-in-Ok-clause-takes
returns-in-Ok-clause-takes c =
    let d = c.self.inside.draft in
    subst (λ (q : loader.Progress). TakesEvent c.args.event c.args.self.now.progress (progress_in q c.advance.new.draft)) (sym c.turn_to.ensures)
    (subst (λ (o : Progress). TakesEvent c.args.event o (progress_in c.in-Ok.progress c.advance.new.draft))
    (ap (λ (p : loader.Progress). progress_in p d) (sym c.in-Reads.is) ∙ ap (λ (s : Standing). s.progress) c.self.view_is)
    c.in-Ok.ensures.takes)

pub returns-in-Ok-clause-names : goal.returns-in-Ok-clause-names
returns-in-Ok-clause-names c = c.in-Ok.ensures.names ∙ ap (λ (s : Standing). s.names) c.self.view_is

pub returns-in-Ok-clause-spent : goal.returns-in-Ok-clause-spent
returns-in-Ok-clause-spent c = λ spent.
    absurd (reads_or_spent _ (ap (λ (p : loader.Progress). progress_in p c.self.inside.draft) (sym c.in-Reads.is) ∙ ap (λ (s : Standing). s.progress) c.self.view_is ∙ spent))

pub returns-in-Err-clause-memory : goal.returns-in-Err-clause-memory
returns-in-Err-clause-memory c = ap (λ (p : loader.Progress). progress_in p c.advance.new.draft) c.turn_to-in-Err.ensures

pub returns-in-Spent-clause-memory : goal.returns-in-Spent-clause-memory
returns-in-Spent-clause-memory c = sym (ap (λ (s : Standing). s.progress) c.self.view_is) ∙ ap (λ (p : loader.Progress). progress_in p c.self.inside.draft) c.in-Spent.is

pub returns-in_default-clause-takes : goal.returns-in_default-clause-takes
returns-in_default-clause-takes c =
    let d = c.self.inside.draft in
    let p = c.self.inside.progress in
    let e = ap (λ (s : Standing). s.progress) c.self.view_is in
    subst (λ (o : Progress). TakesEvent c.args.event o o) e (kept_over p d c.args.event (ap wanted_in e ∙ c.requires) c.in_default.not-Reads)

pub returns-in_default-clause-spent : goal.returns-in_default-clause-spent
returns-in_default-clause-spent c = λ spent.
    absurd (c.in_default.not-Spent (spent_of c.self.inside.progress c.self.inside.draft (ap (λ (s : Standing). s.progress) c.self.view_is ∙ spent)))

pub returns-in-Ok-clause-lists : goal.returns-in-Ok-clause-lists
returns-in-Ok-clause-lists c =
    let d = c.self.inside.draft in
    subst (λ (q : loader.Progress). KeepsLists c.args.event c.args.self.now.progress (progress_in q c.advance.new.draft)) (sym c.turn_to.ensures)
    (subst (λ (o : Progress). KeepsLists c.args.event o (progress_in c.in-Ok.progress c.advance.new.draft))
    (ap (λ (p : loader.Progress). progress_in p d) (sym c.in-Reads.is) ∙ ap (λ (s : Standing). s.progress) c.self.view_is)
    c.in-Ok.ensures.lists)

pub returns-in_default-clause-lists : goal.returns-in_default-clause-lists
returns-in_default-clause-lists c =
    let d = c.self.inside.draft in
    let p = c.self.inside.progress in
    let e = ap (λ (s : Standing). s.progress) c.self.view_is in
    subst (λ (o : Progress). KeepsLists c.args.event o o) e (lists_over p d c.args.event (ap wanted_in e ∙ c.requires) c.in_default.not-Reads)

pub returns-in-Ok-clause-files : goal.returns-in-Ok-clause-files
returns-in-Ok-clause-files c =
    subst (λ (q : loader.Progress). FilesAre (names_of c.advance.new.draft) (progress_in q c.advance.new.draft)) (sym c.turn_to.ensures) (files_are c.in-Ok.progress c.advance.new.draft)

pub returns-in_default-clause-files : goal.returns-in_default-clause-files
returns-in_default-clause-files c = subst (λ (s : Standing). FilesAre s.names s.progress) c.self.view_is (files_are c.self.inside.progress c.self.inside.draft)
