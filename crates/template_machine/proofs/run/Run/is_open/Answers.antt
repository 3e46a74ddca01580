use Rattle.std.proofs.Common.{◌≡◌, ◌∙◌, true, false, sym}
use Rattle.template_machine.proofs.Taken.{gone_by, open_by}
use Rattle.template_machine.proofs.run.Run.is_open.Goals as goal

pub returns-then-spent : goal.returns-then-spent
returns-then-spent c = let e : c.args.spent ≡ true = cc in sym (gone_by _ c.args.spent e)

pub returns : goal.returns
returns c = let e : c.args.spent ≡ false = cc in c.has_list.ensures ∙ sym (open_by _ c.args.spent e)
