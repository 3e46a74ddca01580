use Rattle.std.proofs.Common.{◌≡◌, ◌<◌, ◌∙◌, ◌∷◌, ◌++◌, [], Some, refl, ap, sym, subst, arith}
use Rattle.std.specs.Option.{option_to_list}
use Rattle.node_stack.specs.Path.{can_have_children, is_element}
use Rattle.node_stack.specs.Stack.{path, path_node}
use Rattle.frame_stack.specs.declared.frame.Frame.TheVariants.{Region}
use Rattle.template_machine.proofs.Overs.{region_finds, region_resumes}
use Rattle.template_machine.proofs.Slots.{aside_of, popped, slot_there, last_some, two_slots}
use Rattle.template_machine.specs.Ways.{first_in}
use Rattle.template_machine.proofs.Ways.{way_depth, way_here}
use Rattle.template_machine.proofs.Lightened.{load_off, sheds_behind}
use Rattle.template_machine.proofs.Documents.{limit_in, means_kept}
use Rattle.template_machine.proofs.run.Run.end_region.Goals as goal

pub unwrap-requires : goal.unwrap-requires
unwrap-requires c =
    let p = c.args.program.now in
    let r = c.args.self.now in
    let f = region_finds p r c.requires in
    c.pop.ensures.variant.1 (subst (λ n. 0 < n) (sym r.aside.ok.0) (slot_there r.aside.items (Some f.node) (ap first_in f.aside)))

pub unwrap-node-requires : goal.unwrap-node-requires
unwrap-node-requires c =
    let p = c.args.program.now in
    let r = c.args.self.now in
    let f = region_finds p r c.requires in
    let rest = c.pop.new.self.items in
    let x = c.unwrap.result in
    let items : r.aside.items ≡ rest ++ x ∷ [] = c.pop.ensures.items ∙ ap (λ o. rest ++ option_to_list o) c.unwrap.ensures in
    last_some x f.node (aside_of rest) f.others (sym (popped r.aside.items rest x items) ∙ f.aside)

pub resume-requires-clause-children : goal.resume-requires-clause-children
resume-requires-clause-children c = sym (ap can_have_children (way_here (path c.args.self.now.source.stack))) ∙ c.requires.list

pub resume-requires-clause-room : goal.resume-requires-clause-room
resume-requires-clause-room c = λ e.
    let p = c.args.program.now in
    let r = c.args.self.now in
    let f = region_finds p r c.requires in
    let q = c.unwrap-node.result in
    let rest = c.pop.new.self.items in
    let items : r.aside.items ≡ rest ++ Some q ∷ [] =
    c.pop.ensures.items ∙ ap (λ o. rest ++ option_to_list o) c.unwrap.ensures ∙ ap (λ x. rest ++ x ∷ []) c.unwrap-node.ensures in
    let both = two_slots (path_node q).node f.node (aside_of rest) f.others (sym (popped r.aside.items rest (Some q) items) ∙ f.aside) in
    omega (arith, f.can.room (ap is_element (sym both.0) ∙ e), way_depth (path r.source.stack))

pub end_process-requires : goal.end_process-requires
end_process-requires c =
    let p = c.args.program.now in
    let r = c.args.self.now in
    let f = region_finds p r c.requires in
    let q = c.unwrap-node.result in
    let rest = c.pop.new.self.items in
    let items : r.aside.items ≡ rest ++ Some q ∷ [] =
    c.pop.ensures.items ∙ ap (λ o. rest ++ option_to_list o) c.unwrap.ensures ∙ ap (λ x. rest ++ x ∷ []) c.unwrap-node.ensures in
    let both = two_slots (path_node q).node f.node (aside_of rest) f.others (sym (popped r.aside.items rest (Some q) items) ∙ f.aside) in
    let gone = c.take_off.ensures (Region f.asked f.level) f.frames f.is in
    let ok = c.in_ok-change.ensures.ok in
    let n = record r { frames = c.take_off.new.frames; putting = c.see.new.self; source = c.resume.new.self; aside = c.pop.new.self } in
    region_resumes p r n c.requires (path_node q) f both.0 refl both.1 refl c.see.ensures.stands gone ok.path_is ok.scopes_are ok.ahead_is ok.held_is ok.origin_is
    c.in_ok-change.ensures.counts

pub returns-clause-works : goal.returns-clause-works
returns-clause-works c =
    let r = c.args.self.now in
    let f = region_finds c.args.program.now r c.requires in
    let gone = c.take_off.ensures (Region f.asked f.level) f.frames f.is in
    let m = record r { frames = c.take_off.new.frames; putting = c.see.new.self; source = c.resume.new.self; aside = c.pop.new.self } in
    let off = load_off r m (Region f.asked f.level) f.frames f.is gone c.in_ok-change.ensures.ok.ahead_is refl in
    let ok = c.in_ok-change.ensures.ok in
    sheds_behind 2 0 r m c.end_process.new.self (means_kept r m refl ok.origin_is (ap limit_in ok.path_is) c.in_ok-change.ensures.counts.0 refl) off c.end_process.ensures.works 2 (omega arith)
