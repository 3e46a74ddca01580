-- Where the loader reads on, it stops there.
use Rattle.std.proofs.Common.{ap, sym, ◌∙◌}
use Rattle.std.proofs.Math.Path.{subst}
use Rattle.stx_base.specs.declared.fault.Place.{Place}
use Rattle.stx_base.specs.declared.fault.SheetCode.TheVariants as code
use Rattle.sheet_loader.proofs.LoaderSteps.{ends_bad}
use Rattle.sheet_loader.specs.Loaders.{EndsBad, Standing, stopped_at}
use Rattle.sheet_loader.specs.Remaining.{Progress}
use Rattle.sheet_loader.proofs.ListSteps.{over_there}
use Rattle.sheet_loader.specs.Loaders.{is_over}
use Rattle.sheet_loader.proofs.loader.Loader.bad.Goals as goal

pub returns-clause-ends : goal.returns-clause-ends
returns-clause-ends c =
    let d = c.self.inside.draft in
    let old = c.args.self.now.progress in
    subst (λ (q : Progress). EndsBad c.args.fault old q) (sym c.refuse.ensures.stops)
    (subst (λ (a : Place). EndsBad c.args.fault old (stopped_at a code.BadXml old)) (sym c.place-at.ensures)
    (subst (λ (o : Progress). EndsBad c.args.fault o (stopped_at (record { file = d.file.number; offset = c.args.fault.offset }) code.BadXml o)) (ap (λ (s : Standing). s.progress) c.self.view_is)
    (ends_bad c.args.fault c.self.inside.progress d c.self.invariant)))

pub returns-clause-over : goal.returns-clause-over
returns-clause-over c = λ none. ap is_over c.refuse.ensures.stops ∙ over_there c.place-at.result code.BadXml c.args.self.now.progress none
