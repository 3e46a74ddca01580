-- What comes behind an event agrees with it.
use Rattle.std.proofs.Common.{◌≡◌}
use Rattle.stx_base.specs.declared.node.First.{First}
use Rattle.xml_events.specs.declared.event.Event.TheVariants as event
use Rattle.xml_events.specs.declared.event.Pull.TheVariants as pull
use Rattle.xml_events.specs.Document.{inner}
use Rattle.xml_events.specs.Laws.{ToldAgrees}
use Rattle.xml_events.specs.Telling.{HasFirst, start_pulled, start_of}
use Rattle.xml_events.specs.Tree.{Element, Forest, End, Cut, Single, Nested}

has_first : (e : Element) (first : First) (kids : Forest) → start_pulled e kids ≡ pull.Event (start_of e first) → HasFirst first kids
has_first e first (End mark offset) h = cc
has_first e first (Cut why) h = tt
has_first e first (Single mark leaf next) h = cc
has_first e first (Nested stage element kids next) h = cc

pub told-agrees : ToldAgrees
told-agrees (event.Start offset name attrs decls first) f h = has_first (record { offset = offset; name = name; attrs = attrs; decls = decls }) first (inner f) h
told-agrees (event.End offset) f h = tt
told-agrees (event.Chars offset text) f h = tt
told-agrees (event.CData offset text) f h = tt
told-agrees (event.Comment offset text) f h = tt
told-agrees (event.Pi offset target text) f h = tt
told-agrees (event.DocumentEnd offset) f h = tt
