use Rattle.std.proofs.Common.{◌∙◌, ap, sym, subst}
use Rattle.std.specs.Prelude.{is_none}
use Rattle.template_machine.specs.Moments.{IsDocument}
use Rattle.template_machine.proofs.run.Run.asked_for.Goals as goal

pub returns-in-Main : goal.returns-in-Main
returns-in-Main c =
    (c.requires, ap is_none (sym c.next_attribute_of.ensures ∙ c.in-None.is), subst IsDocument (sym c.in-Main.is) tt)

pub returns-in-Document : goal.returns-in-Document
returns-in-Document c =
    (c.requires, ap is_none (sym c.next_attribute_of.ensures ∙ c.in-None.is), subst IsDocument (sym c.in-Document.is) tt)
