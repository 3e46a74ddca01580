use Rattle.std.proofs.Common.{◌≡◌, take, subst}
use Rattle.result_writer.specs.Escape.{escaped}
use Rattle.result_writer.proofs.Escaping.{plain_more}
use Rattle.result_writer.proofs.escape.plain_len.Goals as goal

pub returns-clause-plain : goal.returns-clause-plain
returns-clause-plain c =
    let few = c.few_plain_len-2.result in
    plain_more c.args.context c.args.bytes.now c.many_plain_len-many.result few c.many_plain_len-many.ensures.plain
    (subst (λ l. escaped c.args.context (take few l) ≡ take few l) c.split_at.ensures.back c.few_plain_len-2.ensures.plain)
