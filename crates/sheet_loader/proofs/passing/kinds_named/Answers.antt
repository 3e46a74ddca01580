use Rattle.std.proofs.Common.{◌∙◌, ap, sym}
use Rattle.std.specs.Option.{option_map}
use Rattle.sheet_model.specs.declared.pass.Pass.TheVariants as pass
use Rattle.sheet_loader.proofs.PassWords.{step-end, step-none, step-some}
use Rattle.sheet_loader.proofs.passing.kinds_named.Goals as goal

pub returns-in_err-kinds : goal.returns-in_err-kinds
returns-in_err-kinds c =
    ap (option_map pass.Kinds) c.from_residual.ensures
    ∙ step-none c.loop-end.kinds c.loop-end.rest.now c.split_at.result.0.now c.in-Some.end c.in-Some.ensures.value c.split_at.ensures.front c.in_err-kinds.ensures
    ∙ c.loop-end.invariant

pub loop-end-preserved : goal.loop-end-preserved
loop-end-preserved c =
    step-some c.loop-end.kinds c.loop-end.rest.now c.split_at.result.0.now c.in-Some.end c.in-Some.ensures.value c.split_at.ensures.front
    c.in_ok-kinds.kinds c.split_at.result.1.now c.behind_space-rest.result.now c.split_at.ensures.back c.behind_space-rest.ensures c.in_ok-kinds.ensures
    ∙ c.loop-end.invariant

pub returns : goal.returns
returns c =
    ap (option_map pass.Kinds) c.with_kind-2.ensures
    ∙ step-end c.loop-end.kinds c.loop-end.rest.now (sym c.in_default.is ∙ c.space.ensures.value)
    ∙ c.loop-end.invariant
