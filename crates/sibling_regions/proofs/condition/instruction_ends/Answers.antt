use Rattle.std.proofs.Common.{All}
use Rattle.sibling_regions.proofs.Conditions.{both_evaluable, of_first, of_second}
use Rattle.stxpath_syntax.specs.Shape.{PredicatesCanBeEvaluated}
use Rattle.stxpath_syntax.specs.declared.expr.Pattern.{Pattern}
use Rattle.sibling_regions.proofs.condition.instruction_ends.Goals as goal

pub fits_there-requires : goal.fits_there-requires
fits_there-requires g c =
    let i = c.in-ProcessSiblings in
    of_first (λ (p : Pattern). All PredicatesCanBeEvaluated p.alternatives) i.going i.until
    (both_evaluable c.args.instr.now i.going i.until i.group i.params i.at c.requires i.is)

pub fits_there-requires-2 : goal.fits_there-requires-2
fits_there-requires-2 g c =
    let i = c.in-ProcessSiblings in
    of_second (λ (p : Pattern). All PredicatesCanBeEvaluated p.alternatives) i.going i.until
    (both_evaluable c.args.instr.now i.going i.until i.group i.params i.at c.requires i.is)
