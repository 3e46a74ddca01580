use Rattle.template_machine.specs.Standing.{skipped_by}
use Rattle.template_machine.specs.declared.source.Ahead.TheVariants as ahead
use Rattle.template_machine.specs.Closing.{is_slot}
use Rattle.template_machine.specs.Well.{AreWell}
use Rattle.template_machine.proofs.InOrder.{alone_there, document_last}
use Rattle.template_machine.proofs.Hearing.{skipped_frames}
use Rattle.template_machine.proofs.Finished.{alone_frames, skip_moves, takes_below}
use Rattle.std.proofs.Common.{◌∷◌, Some, None, reverse, ap, subst}
use Rattle.std.proofs.Common.{◌≡◌, ◌+◌, ◌∙◌, true, false, refl, sym, arith}
use Rattle.template_machine.specs.Standing.{standing_of}
use Rattle.template_machine.specs.Ways.{first_in}
use Rattle.frame_stack.specs.declared.frame.Frame.TheVariants.{Skip}
use Rattle.template_machine.proofs.Overs.{skip_finds, skip_leaves, skip_waits}
use Rattle.template_machine.proofs.Slots.{slot_open, slot_shut}
use Rattle.template_machine.proofs.Lightened.{load_off}
use Rattle.template_machine.proofs.Falling.{begins_behind}
use Rattle.template_machine.specs.Work.{Begins}
use Rattle.template_machine.specs.Bodies.{takes_events}
use Rattle.template_machine.specs.Still.{nodes_of}
use Rattle.template_machine.proofs.Operating.{on_ok}
use Rattle.template_machine.proofs.run.Run.end_skip.Goals as goal
use Rattle.template_machine.proofs.Untaken.{below_untouched}
use Rattle.template_machine.proofs.Untouched.{untouched_to}

pub put_aside-requires : goal.put_aside-requires
put_aside-requires c =
    let p = c.args.program.now in
    let r = c.args.self.now in
    let h = c.requires.over in
    let f = skip_finds p r h c.requires.skipped in
    let gone = c.take_off.ensures (Skip f.depth) f.frames f.is in
    let n = record r { frames = c.take_off.new.frames } in
    let open_slot : c.has_slot.result ≡ true = cc in
    skip_waits p r n h f refl gone (slot_open (first_in (standing_of r).aside) (sym c.has_slot.ensures ∙ open_slot))

pub leave_node-requires : goal.leave_node-requires
leave_node-requires c =
    let p = c.args.program.now in
    let r = c.args.self.now in
    let h = c.requires.over in
    let f = skip_finds p r h c.requires.skipped in
    let gone = c.take_off.ensures (Skip f.depth) f.frames f.is in
    let n = record r { frames = c.take_off.new.frames } in
    let shut : c.has_slot.result ≡ false = cc in
    skip_leaves p r n h f refl gone (slot_shut (first_in (standing_of r).aside) (sym c.has_slot.ensures ∙ shut))

pub returns-then-has_slot-clause-works : goal.returns-then-has_slot-clause-works
returns-then-has_slot-clause-works c =
    let r = c.args.self.now in
    let f = skip_finds c.args.program.now r c.requires.over c.requires.skipped in
    let n = record r { frames = c.take_off.new.frames } in
    let off = load_off r n (Skip f.depth) f.frames f.is (c.take_off.ensures (Skip f.depth) f.frames f.is) refl refl in
    begins_behind (2 + f.depth) 2 r n c.put_aside.new.self refl off c.put_aside.ensures.works 0 (omega arith)

pub returns-clause-works : goal.returns-clause-works
returns-clause-works c =
    let r = c.args.self.now in
    let f = skip_finds c.args.program.now r c.requires.over c.requires.skipped in
    let n = record r { frames = c.take_off.new.frames } in
    let off = load_off r n (Skip f.depth) f.frames f.is (c.take_off.ensures (Skip f.depth) f.frames f.is) refl refl in
    on_ok c.leave_node.result (Begins 2 n c.leave_node.new.self) (Begins 0 r c.leave_node.new.self) c.leave_node.ensures.works
    (λ b. begins_behind (2 + f.depth) 2 r n c.leave_node.new.self refl off b 0 (omega arith))

pub returns-then-has_slot-clause-moves : goal.returns-then-has_slot-clause-moves
returns-then-has_slot-clause-moves c = λ alone depth.
    let r = c.args.self.now in
    let slot : c.has_slot.result ≡ true = cc in
    absurd (let no : false ≡ true = sym (ap (λ l. is_slot (first_in l)) (alone_there c.args.program.now r alone).0) ∙ sym c.has_slot.ensures ∙ slot in cc)

pub returns-clause-moves : goal.returns-clause-moves
returns-clause-moves c = λ alone depth.
    let p = c.args.program.now in
    let r = c.args.self.now in
    let h = c.requires.over in
    let f = skip_finds p r h c.requires.skipped in
    let at = skipped_frames (reverse r.frames.frames) 0 depth in
    let gone = c.take_off.ensures (Skip 0) at.0 at.1 in
    let n = record r { frames = c.take_off.new.frames } in
    let w : AreWell p h.stations 0 true (Skip 0 ∷ at.0) (standing_of r) = subst (λ l. AreWell p h.stations 0 true l (standing_of r)) at.1 h.well in
    let none = (alone_there p r alone).0 in
    let take_it = w.3 (λ e. absurd (let no : None ≡ Some None = sym (ap first_in none) ∙ e in cc)) in
    let takes = takes_below at.0 (standing_of r).source.way take_it w.1 in
    let still =
    alone_frames p r c.take_off.new.frames alone (λ e. absurd (let no : ahead.Nothing ≡ ahead.Ended = sym h.ahead ∙ e in cc))
    (untouched_to at.0 (reverse c.take_off.new.frames.frames) (nodes_of r.source) (nodes_of r.source) (sym gone) refl (below_untouched r at.0 take_it w.1)) in
    skip_moves p r n c.leave_node.new.self at.0 c.leave_node.result h.ahead at.1 gone takes refl
    (c.leave_node.ensures.moves still
    (λ is. gone ∙ document_last p h.stations r at.0 (subst (λ l. AreWell p h.stations 0 true at.0 (skipped_by l (standing_of r))) none w.4) alone is)
    (λ ends. ap takes_events gone ∙ takes))
