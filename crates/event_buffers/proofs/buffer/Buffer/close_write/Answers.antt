use Rattle.std.proofs.Common.{◌≡◌, Some, sym, ap, ◌∙◌}
use Rattle.std.specs.Prelude.{position}
use Rattle.std.specs.Option.{option_and_then}
use Rattle.std.proofs.lemmas.Result.{on_ok_weaker, IfErr-weaker}
use Rattle.event_buffers.specs.Buffers.{Buffer, is_written, on_first, with_copies, written}
use Rattle.event_buffers.specs.Layer.{closed, unclosed}
use Rattle.event_buffers.proofs.Copies.{changed_at, found, found_nowhere, nowhere, passes}
use Rattle.event_buffers.proofs.buffer.Buffer.close_write.Goals as goal

pub close_write-requires : goal.close_write-requires
close_write-requires c =
    passes is_written c.self.inside.copies.items c.in-Some.place c.index_mut.result.now
    (ap (λ (b : Buffer). position is_written b.copies) c.self.view_is ∙ sym c.in-Some.ensures) c.index_mut.ensures.value

pub returns-in-Some-clause-ok : goal.returns-in-Some-clause-ok
returns-in-Some-clause-ok c =
    on_ok_weaker c.close_write.result
    (λ h. changed_at (record { group = c.self.inside.group; declared = c.self.inside.declared; copies = c.self.inside.copies.items })
    is_written closed c.in-Some.place c.index_mut.result.now c.close_write.new.self
    (ap (λ (b : Buffer). position is_written b.copies) c.self.view_is ∙ sym c.in-Some.ensures) c.index_mut.ensures.value h
    ∙ ap (with_copies (on_first is_written closed)) c.self.view_is) c.close_write.ensures.ok

pub returns-in-Some-clause-whole : goal.returns-in-Some-clause-whole
returns-in-Some-clause-whole c =
    on_ok_weaker c.close_write.result
    (λ h. ap (λ (b : Buffer). option_and_then unclosed (written b.copies)) (sym c.self.view_is)
    ∙ found unclosed is_written c.self.inside.copies.items c.in-Some.place c.index_mut.result.now
    (ap (λ (b : Buffer). position is_written b.copies) c.self.view_is ∙ sym c.in-Some.ensures) c.index_mut.ensures.value ∙ h) c.close_write.ensures.whole

pub returns-in-Some-clause-fault : goal.returns-in-Some-clause-fault
returns-in-Some-clause-fault c =
    IfErr-weaker c.close_write.result (λ fault. unclosed c.index_mut.result.now ≡ Some fault)
    (λ fault. option_and_then unclosed (written c.args.self.now.copies) ≡ Some fault)
    (λ fault h. ap (λ (b : Buffer). option_and_then unclosed (written b.copies)) (sym c.self.view_is)
    ∙ found unclosed is_written c.self.inside.copies.items c.in-Some.place c.index_mut.result.now
    (ap (λ (b : Buffer). position is_written b.copies) c.self.view_is ∙ sym c.in-Some.ensures) c.index_mut.ensures.value ∙ h) c.close_write.ensures.fault

pub returns-in-None-clause-ok : goal.returns-in-None-clause-ok
returns-in-None-clause-ok c = nowhere c.args.self.now is_written closed (sym c.in-None.ensures)

pub returns-in-None-clause-whole : goal.returns-in-None-clause-whole
returns-in-None-clause-whole c = ap (option_and_then unclosed) (found_nowhere is_written c.args.self.now.copies (sym c.in-None.ensures))
