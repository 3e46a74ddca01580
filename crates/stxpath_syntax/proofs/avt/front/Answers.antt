use Rattle.std.proofs.Common.{◌∙◌, sym}
use Rattle.stxpath_syntax.proofs.Cutting.{cut_plain}
use Rattle.stxpath_syntax.proofs.avt.front.Goals as goal

pub returns : goal.returns
returns c = cut_plain c.args.dialect c.args.scope.now c.args.at c.args.c c.args.rest.now (sym c.is_brace.ensures ∙ c.if-is_brace.false)
