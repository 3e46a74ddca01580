use Rattle.std.proofs.Common.{◌≡◌, None, sym, subst, ◌∙◌}
use Rattle.stx_base.specs.declared.part.Part.TheVariants.{End}
use Rattle.result_writer.specs.Target.{Target, end_fault, fault}
use Rattle.result_writer.proofs.Ended.{by_memory, ends_some}
use Rattle.result_writer.proofs.writer.Writer.put_end_keeping.Goals as goal

pub returns-in-None-clause-fault : goal.returns-in-None-clause-fault
returns-in-None-clause-fault c =
    let t = c.args.self.now in
    let none : end_fault t.left c.args.name.now ≡ None =
    subst (λ (x : Target). end_fault x.left c.args.name.now ≡ None) c.self.view_is (sym c.end_fault.ensures ∙ c.in-None.is) in
    let (n, is) = ends_some t.left c.args.name.now none in
    by_memory c.end_innermost.result (fault t.limit t.left (End c.args.name.now)) (c.end_innermost.ensures.memory n is)

pub returns-in-None-clause-ok : goal.returns-in-None-clause-ok
returns-in-None-clause-ok c = c.end_innermost.ensures.ok c.args.name.now

pub returns-in-None-clause-written : goal.returns-in-None-clause-written
returns-in-None-clause-written c = c.end_innermost.ensures.written c.args.name.now
