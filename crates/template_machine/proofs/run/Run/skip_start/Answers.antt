use Rattle.template_machine.specs.Still.{nodes_of}
use Rattle.template_machine.specs.Heard.{start_first}
use Rattle.template_machine.proofs.Hearing.{begun_full, deepened, passed_over, skip_heard, started_deeper}
use Rattle.std.proofs.Common.{◌+◌, ◌∙◌, ap, arith}
use Rattle.template_machine.proofs.Arriving.{skips_at}
use Rattle.template_machine.proofs.Lightened.{skip_begun}
use Rattle.template_machine.specs.Documents.{documents}
use Rattle.template_machine.proofs.Spared.{begun_fuel}
use Rattle.template_machine.proofs.run.Run.skip_start.Goals as goal

pub skip_to-requires : goal.skip_to-requires
skip_to-requires c =
    let m = c.begin.new.self in skips_at c.args.program.now c.args.self.now m (c.args.depth + 1) m.fuel c.begin.ensures.same c.requires

pub returns-clause-works : goal.returns-clause-works
returns-clause-works c = λ id buffer.
    let p = c.args.program.now in
    skip_begun p c.args.self.now c.begin.new.self c.skip_to.new.self p.limits.fuel id (c.args.depth + 1) c.requires c.begin.ensures.same c.in_ok-begin.ensures.ok buffer
    c.skip_to.ensures.works

pub returns-clause-documents : goal.returns-clause-documents
returns-clause-documents c = c.skip_to.ensures.documents ∙ ap documents c.begin.ensures.same

pub returns-clause-fuel : goal.returns-clause-fuel
returns-clause-fuel c =
    let r = c.args.self.now in
    omega (arith, c.skip_to.ensures.fuel, begun_fuel c.args.program.now.limits.fuel r.fuel c.begin.new.self.fuel r.source.origin c.in_ok-begin.ensures.ok)

pub returns-clause-hears : goal.returns-clause-hears
returns-clause-hears c = λ skips e first.
    let p = c.args.program.now in
    let r = c.args.self.now in
    let m = c.begin.new.self in
    let full = begun_full p.limits.fuel r.fuel m.fuel r.source.origin skips.alone.origin c.in_ok-begin.ensures.ok in
    let h = skip_heard p r c.skip_to.new.self c.args.depth (c.args.depth + 1) skips (passed_over p r m c.skip_to.new.self m.fuel skips.ahead c.begin.ensures.same full c.skip_to.ensures.rest)
    (deepened r m c.skip_to.new.self m.fuel (c.args.depth + 1) c.begin.ensures.same c.skip_to.ensures.depth) (start_first e first)
    (λ given held aside fs st f. started_deeper given p c.args.depth e first (nodes_of r.source) held aside fs st f) in
    record { alone = h.alone; does = h.does }
