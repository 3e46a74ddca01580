use Rattle.std.proofs.Common.{true, false}
use Rattle.xml_rows.proofs.Content.{small}
use Rattle.xml_rows.proofs.buffers.sheet.sheet_with.Goals as goal

pub returns-clause-small : goal.returns-clause-small
returns-clause-small c =
    small c.new.result c.new-2.result c.new-3.result c.args.buffers c.new-4.result c.new-5.result false true
    c.new.ensures c.new-2.ensures c.new-3.ensures c.new-4.ensures c.new-5.ensures c.requires.short c.requires.groups
