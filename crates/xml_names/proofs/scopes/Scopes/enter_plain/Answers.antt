use Rattle.std.proofs.Common.{◌∙◌, sym, ap, true, false}
use Rattle.xml_names.specs.Tag.{has_twins, same_written}
use Rattle.xml_names.proofs.Plain.{plain-fault, plain-said, plain-into}
use Rattle.xml_names.proofs.scopes.Scopes.enter_plain.Goals as goal

pub returns-then-branch-clause-fault : goal.returns-then-branch-clause-fault
returns-then-branch-clause-fault c =
    plain-fault c.args.self.now c.args.name c.args.attrs c.requires true (sym c.if-branch.true ∙ c.in_ok-has_written_twins.ensures ∙ ap (has_twins same_written) c.as_slice.ensures)

pub returns-clause-taken : goal.returns-clause-taken
returns-clause-taken c =
    plain-fault c.args.self.now c.args.name c.args.attrs c.requires false (sym c.if-branch.false ∙ c.in_ok-has_written_twins.ensures ∙ ap (has_twins same_written) c.as_slice.ensures)

pub returns-clause-value : goal.returns-clause-value
returns-clause-value c =
    plain-said c.args.self.now c.args.name c.args.attrs c.requires c.in_ok-name.name c.in_ok-attrs.attrs c.new-decls.result
    c.in_ok-name.ensures c.in_ok-attrs.ensures c.new-decls.ensures

pub returns-clause-ok : goal.returns-clause-ok
returns-clause-ok c = c.in_ok-declare_nothing.ensures.ok ∙ plain-into c.args.self.now c.args.name c.args.attrs c.requires
