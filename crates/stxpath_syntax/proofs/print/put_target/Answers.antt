use Rattle.std.proofs.Common.{[], ◌∷◌, ◌++◌, codes}
use Rattle.std.specs.Str.{chars}
use Rattle.stxpath_syntax.specs.Printing.{quoted}
use Rattle.stxpath_syntax.proofs.Printing.{on_ok, put_two}
use Rattle.stxpath_syntax.proofs.print.put_target.Goals as goal

pub returns : goal.returns
unfolding chars
returns c =
    let word = codes "processing-instruction(" in
    let front = put_two c.args.text.now word (quoted c.args.target.now) c.push_str.new.self c.put_literal.new.text c.in_ok-push_str.ensures.ok c.in_ok-put_literal.ensures in
    on_ok c.push.result
    (λ e. put_two c.args.text.now (word ++ quoted c.args.target.now) (41 ∷ []) c.put_literal.new.text c.push.new.self front e) c.push.ensures.ok
