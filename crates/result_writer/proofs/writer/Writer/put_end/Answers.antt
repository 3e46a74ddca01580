use Rattle.result_writer.proofs.writer.Writer.put_end.Goals as goal

pub returns-clause-ok : goal.returns-clause-ok
returns-clause-ok c = c.in_ok-write_end.ensures.ok c.args.name.now
