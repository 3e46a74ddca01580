use Rattle.std.proofs.Common.{◌≡◌, ◌<◌, ◌∙◌, ◌∷◌, ◌++◌, [], true, length, reverse, refl, ap, sym, subst}
use Rattle.std.specs.Option.{option_to_list}
use Rattle.frame_stack.specs.declared.frame.Frame.TheVariants.{Source}
use Rattle.template_machine.specs.Standing.{standing_of}
use Rattle.template_machine.specs.declared.run.Run.{Run}
use Rattle.template_machine.proofs.Buffered.{leaves_source, source_there, stream_open}
use Rattle.template_machine.proofs.Lightened.{source_gone}
use Rattle.template_machine.proofs.Documents.{means_same, source_behind}
use Rattle.template_machine.proofs.Grounded.{source_ended}
use Rattle.template_machine.proofs.run.Run.leave_source.Goals as goal

pub close_stream-requires : goal.close_stream-requires
close_stream-requires c =
    let p = c.args.program.now in
    let r = c.args.self.now in
    let h = c.requires.over in
    stream_open p h.stations 0 true (reverse r.frames.frames) (standing_of r) h.well

pub unwrap-requires : goal.unwrap-requires
unwrap-requires c =
    let p = c.args.program.now in
    let r = c.args.self.now in
    let f = source_there p r c.requires.over c.requires.source in
    let m = c.close_stream.new.self in
    c.pop.ensures.variant.1 (subst (λ n. 0 < n) (sym m.outer.ok.0) (subst (λ (x : Run). 0 < length x.outer.items) (sym c.close_stream.ensures.run) f.some))

pub returns-clause-stands : goal.returns-clause-stands
returns-clause-stands c =
    let p = c.args.program.now in
    let r = c.args.self.now in
    let h = c.requires.over in
    let f = source_there p r h c.requires.source in
    let gone = c.take_off.ensures (Source f.buffer f.next f.asked) f.frames f.is in
    let m = c.close_stream.new.self in
    let run = c.close_stream.ensures.run in
    let init = c.pop.new.self.items in
    let items : r.outer.items ≡ init ++ c.unwrap.result ∷ [] =
    sym (ap (λ (x : Run). x.outer.items) run) ∙ c.pop.ensures.items ∙ ap (λ o. init ++ option_to_list o) c.unwrap.ensures in
    let n = record m { source = c.unwrap.result; outer = c.pop.new.self; putting = c.see.new.self } in
    leaves_source p r m n c.take_off.new.frames h f run c.close_stream.ensures.closed c.see.ensures.stands gone c.unwrap.result init items refl refl refl

pub returns-clause-works : goal.returns-clause-works
returns-clause-works c =
    let p = c.args.program.now in
    let r = c.args.self.now in
    let h = c.requires.over in
    let f = source_there p r h c.requires.source in
    let gone = c.take_off.ensures (Source f.buffer f.next f.asked) f.frames f.is in
    let m = c.close_stream.new.self in
    let run = c.close_stream.ensures.run in
    let init = c.pop.new.self.items in
    let x = c.unwrap.result in
    let items : r.outer.items ≡ init ++ x ∷ [] =
    sym (ap (λ (x : Run). x.outer.items) run) ∙ c.pop.ensures.items ∙ ap (λ o. init ++ option_to_list o) c.unwrap.ensures in
    let n = record m { source = x; outer = c.pop.new.self; putting = c.see.new.self } in (
      means_same r n (ap (λ (x : Run). x.fuel) run) (source_behind r n x init items refl refl (source_ended p r h f.buffer f.next f.asked f.frames f.is)),
      source_gone r n (Source f.buffer f.next f.asked) f.frames x init f.is refl h.ahead items (ap (λ (x : Run). reverse x.frames.frames) run ∙ gone) refl refl,
    )
