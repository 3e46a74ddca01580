use Rattle.std.proofs.Common.{None, refl}
use Rattle.xml_events.specs.inside.Cores.{source_of}
use Rattle.xml_events.proofs.Counting.{document-of}
use Rattle.xml_events.proofs.Fronts.{no-items}
use Rattle.xml_events.proofs.reader.EventReader.for_sheet.Goals as goal

pub returns-clause-document : goal.returns-clause-document
returns-clause-document c = λ bytes ended.
    document-of (source_of (record { lexer = c.new.result; place = c.new-2.result; front = c.new-3.result; over = None })) c.args.limits c.args.strip c.args.cdata
    c.new-2.ensures.limits_are c.new-3.ensures.strip_is c.new-3.ensures.known (no-items c.new-3.result c.new-3.ensures.held c.new-3.ensures.run)
    c.new-2.ensures.before c.new.ensures refl bytes ended
