use Rattle.std.proofs.Common.{◌≡◌, sym, ap, ◌∙◌, subst}
use Rattle.std.specs.Prelude.{Option, position}
use Rattle.std.specs.Option.{option_and_then}
use Rattle.std.proofs.lemmas.Result.{on_ok_weaker, IfErr-weaker}
use Rattle.event_buffers.specs.Buffers.{Buffer, is_written, on_first, with_copies, written}
use Rattle.event_buffers.specs.Layer.{IsCause, refusal, with_part}
use Rattle.event_buffers.specs.declared.fault.BufferFault.{BufferFault}
use Rattle.event_buffers.proofs.Copies.{changed_at, found, found_nowhere, nowhere, passes}
use Rattle.event_buffers.proofs.buffer.Buffer.put.Goals as goal

pub put-requires : goal.put-requires
put-requires c =
    passes is_written c.self.inside.copies.items c.in-Some.place c.index_mut.result.now
    (ap (λ (b : Buffer). position is_written b.copies) c.self.view_is ∙ sym c.in-Some.ensures) c.index_mut.ensures.value

pub returns-in-Some-clause-ok : goal.returns-in-Some-clause-ok
returns-in-Some-clause-ok c =
    on_ok_weaker c.put.result
    (λ h. changed_at (record { group = c.self.inside.group; declared = c.self.inside.declared; copies = c.self.inside.copies.items })
    is_written (with_part c.args.part) c.in-Some.place c.index_mut.result.now c.put.new.self
    (ap (λ (b : Buffer). position is_written b.copies) c.self.view_is ∙ sym c.in-Some.ensures) c.index_mut.ensures.value h
    ∙ ap (with_copies (on_first is_written (with_part c.args.part))) c.self.view_is) c.put.ensures.ok

pub returns-in-Some-clause-taken : goal.returns-in-Some-clause-taken
returns-in-Some-clause-taken c =
    on_ok_weaker c.put.result
    (λ h. ap (λ (b : Buffer). option_and_then (refusal c.args.limit b.declared c.args.part) (written b.copies)) (sym c.self.view_is)
    ∙ found (refusal c.args.limit c.self.inside.declared c.args.part) is_written c.self.inside.copies.items c.in-Some.place c.index_mut.result.now
    (ap (λ (b : Buffer). position is_written b.copies) c.self.view_is ∙ sym c.in-Some.ensures) c.index_mut.ensures.value ∙ h) c.put.ensures.taken

pub returns-in-Some-clause-fault : goal.returns-in-Some-clause-fault
returns-in-Some-clause-fault c =
    let same : option_and_then (refusal c.args.limit c.args.self.now.declared c.args.part) (written c.args.self.now.copies)
    ≡ refusal c.args.limit c.self.inside.declared c.args.part c.index_mut.result.now =
    ap (λ (b : Buffer). option_and_then (refusal c.args.limit b.declared c.args.part) (written b.copies)) (sym c.self.view_is)
    ∙ found (refusal c.args.limit c.self.inside.declared c.args.part) is_written c.self.inside.copies.items c.in-Some.place c.index_mut.result.now
    (ap (λ (b : Buffer). position is_written b.copies) c.self.view_is ∙ sym c.in-Some.ensures) c.index_mut.ensures.value in
    IfErr-weaker c.put.result (IsCause (refusal c.args.limit c.self.inside.declared c.args.part c.index_mut.result.now))
    (IsCause (option_and_then (refusal c.args.limit c.args.self.now.declared c.args.part) (written c.args.self.now.copies)))
    (λ fault h. let P : Option BufferFault → Type 0 = λ o. IsCause o fault in subst P (sym same) h) c.put.ensures.fault

pub returns-in-None-clause-ok : goal.returns-in-None-clause-ok
returns-in-None-clause-ok c = nowhere c.args.self.now is_written (with_part c.args.part) (sym c.in-None.ensures)

pub returns-in-None-clause-taken : goal.returns-in-None-clause-taken
returns-in-None-clause-taken c =
    ap (option_and_then (refusal c.args.limit c.args.self.now.declared c.args.part)) (found_nowhere is_written c.args.self.now.copies (sym c.in-None.ensures))
