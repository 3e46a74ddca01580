-- Where the loader reads on, it stops there.
use Rattle.std.proofs.Common.{ap, sym, ◌∙◌}
use Rattle.std.proofs.Math.Path.{subst}
use Rattle.stx_base.specs.declared.fault.Place.{Place}
use Rattle.stx_base.specs.declared.fault.SheetCode.TheVariants as code
use Rattle.sheet_loader.proofs.LoaderSteps.{ends_at_limit}
use Rattle.sheet_loader.specs.Loaders.{EndsAtLimit, Standing, stopped_at}
use Rattle.sheet_loader.specs.Remaining.{Progress}
use Rattle.sheet_loader.proofs.ListSteps.{over_there}
use Rattle.sheet_loader.specs.Loaders.{is_over}
use Rattle.sheet_loader.proofs.loader.Loader.too_large.Goals as goal

pub returns-clause-ends : goal.returns-clause-ends
returns-clause-ends c =
    let d = c.self.inside.draft in
    let old = c.args.self.now.progress in
    subst (λ (q : Progress). EndsAtLimit c.args.offset old q) (sym c.refuse.ensures.stops)
    (subst (λ (a : Place). EndsAtLimit c.args.offset old (stopped_at a code.SheetTooLarge old)) (sym c.place-at.ensures)
    (subst (λ (o : Progress). EndsAtLimit c.args.offset o (stopped_at (record { file = d.file.number; offset = c.args.offset }) code.SheetTooLarge o)) (ap (λ (s : Standing). s.progress) c.self.view_is)
    (ends_at_limit c.args.offset c.self.inside.progress d c.self.invariant)))

pub returns-clause-over : goal.returns-clause-over
returns-clause-over c = λ none. ap is_over c.refuse.ensures.stops ∙ over_there c.place-at.result code.SheetTooLarge c.args.self.now.progress none
