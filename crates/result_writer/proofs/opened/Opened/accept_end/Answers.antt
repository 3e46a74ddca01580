use Rattle.result_writer.proofs.opened.Opened.accept_end.Goals as goal

pub returns-clause-ok : goal.returns-clause-ok
returns-clause-ok c = c.end-ended.ensures c.args.name.now
