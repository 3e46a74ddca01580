use Rattle.std.specs.Str.{chars}
use Rattle.stxpath_syntax.proofs.Printing.{on_ok, put_parents_on}
use Rattle.stxpath_syntax.proofs.print.put_parents.Goals as goal

pub returns : goal.returns
unfolding chars
returns c =
    on_ok c.put_times.result
    (λ e. put_parents_on c.args.text.now c.args.count c.push_str.new.self c.put_times.new.text c.if-count-eq0.false c.in_ok-push_str.ensures.ok e) c.put_times.ensures
