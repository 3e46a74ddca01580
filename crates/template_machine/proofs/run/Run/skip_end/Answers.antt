use Rattle.std.proofs.Common.{sym, inr}
use Rattle.template_machine.specs.Still.{nodes_of}
use Rattle.template_machine.specs.Heard.{Skips, end_first}
use Rattle.template_machine.proofs.Hearing.{deepened, ended_full, passed_over, skip_heard, ended_deeper}
use Rattle.std.proofs.Common.{◌≡◌, ◌+◌, ◌-◌, ◌<◌, subst, arith, ◌∙◌, ap}
use Rattle.template_machine.specs.Moments.{SkipsOn}
use Rattle.template_machine.proofs.Arriving.{skip_goes_on, skip_is_over, skips_at}
use Rattle.template_machine.proofs.Lightened.{skip_ended}
use Rattle.template_machine.specs.Documents.{documents}
use Rattle.template_machine.specs.declared.run.Run.{Run}
use Rattle.template_machine.proofs.run.Run.skip_end.Goals as goal

pub skip_to-requires : goal.skip_to-requires
skip_to-requires c =
    let p = c.args.program.now in
    let r = c.args.self.now in
    let m = c.end_list.new.self in
    let more : 0 < c.args.depth = omega (arith, c.in-Some.ensures) in
    let less : c.args.depth - 1 ≡ c.in-Some.less = omega (arith, c.in-Some.ensures) in
    skips_at p r m c.in-Some.less _ c.end_list.ensures (subst (λ d. SkipsOn p d r) less (skip_goes_on p r c.args.depth c.requires more))

pub find_end-requires-clause-over : goal.find_end-requires-clause-over
find_end-requires-clause-over c =
    let none : c.args.depth ≡ 0 = omega (arith, c.in-None.ensures) in skip_is_over c.args.program.now c.args.self.now c.args.depth c.requires none

pub returns-in-Some-clause-works : goal.returns-in-Some-clause-works
returns-in-Some-clause-works c = λ id buffer.
    let p = c.args.program.now in
    let one : c.in-Some.less + 1 ≡ c.args.depth = omega (arith, c.in-Some.ensures) in
    skip_ended p c.args.self.now c.end_list.new.self c.skip_to.new.self p.limits.fuel id c.args.depth c.in-Some.less c.requires one c.end_list.ensures buffer
    c.skip_to.ensures.works

pub returns-in-Some-clause-documents : goal.returns-in-Some-clause-documents
returns-in-Some-clause-documents c = c.skip_to.ensures.documents ∙ ap documents c.end_list.ensures

pub returns-in-Some-clause-fuel : goal.returns-in-Some-clause-fuel
returns-in-Some-clause-fuel c = omega (arith, c.skip_to.ensures.fuel, ap (λ (x : Run). x.fuel) c.end_list.ensures)

pub returns-in-Some-clause-hears : goal.returns-in-Some-clause-hears
returns-in-Some-clause-hears c = λ skips offset.
    let p = c.args.program.now in
    let r = c.args.self.now in
    let m = c.end_list.new.self in
    let one : c.args.depth ≡ c.in-Some.less + 1 = omega (arith, c.in-Some.ensures) in
    skip_heard p r c.skip_to.new.self c.args.depth c.in-Some.less skips
    (passed_over p r m c.skip_to.new.self _ skips.ahead c.end_list.ensures (ended_full p.limits.fuel r.fuel r.source.origin skips.alone.origin) c.skip_to.ensures.rest)
    (deepened r m c.skip_to.new.self _ c.in-Some.less c.end_list.ensures c.skip_to.ensures.depth) (end_first offset)
    (λ given held aside fs st f. ended_deeper given p c.args.depth c.in-Some.less offset (nodes_of r.source) held aside fs st f one)

pub returns-in-None-clause-hears : goal.returns-in-None-clause-hears
returns-in-None-clause-hears c = λ skips offset.
    let none : c.args.depth ≡ 0 = omega (arith, c.in-None.ensures) in
    c.find_end.ensures.hears (inr (subst (λ d. Skips c.args.program.now d c.args.self.now) none skips)) offset
