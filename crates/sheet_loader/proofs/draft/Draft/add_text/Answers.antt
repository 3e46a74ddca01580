-- A text is an item of the innermost list, or a part of a buffer's content.
use Rattle.std.proofs.Common.{[], ◌∷◌, refl, ap, sym, ◌∙◌}
use Rattle.std.proofs.Math.Path.{subst}
use Rattle.sheet_model.specs.declared.instr.Instr.TheVariants as instr
use Rattle.stx_base.specs.declared.part.Part.TheVariants as part
use Rattle.sheet_loader.proofs.Parting.{sound_with_parts, takes_parts}
use Rattle.std.proofs.lemmas.Result.{on_ok_weaker}
use Rattle.sheet_loader.proofs.Taking.{is_item, is_number, other_inside, other_item, sound_with, takes_with, text_inside}
use Rattle.sheet_loader.specs.Events.{TakesItems, place_at}
use Rattle.sheet_loader.specs.Named.{names_of}
use Rattle.sheet_loader.specs.Read.{text_item}
use Rattle.sheet_loader.specs.Reading as reading
use Rattle.sheet_loader.specs.Sound.{is_of_parts, is_outside}
use Rattle.sheet_loader.specs.Meant.{inside_of}
use Rattle.sheet_loader.proofs.ListSteps.{item_added}
use Rattle.sheet_loader.specs.declared.draft.Draft.{Draft}
use Rattle.sheet_loader.proofs.draft.Draft.add_text.Goals as goal

pub returns-in-Characters-clause-sound : goal.returns-in-Characters-clause-sound
returns-in-Characters-clause-sound c =
    let x = reading.Text c.args.text in
    on_ok_weaker c.take_item.result (λ adds. sound_with c.args.self.now c.take_item.new.self x c.requires.sound adds refl refl (ap (λ i. is_outside (inside_of i)) c.in-Characters.is) (ap (λ i. is_of_parts (inside_of i)) c.in-Characters.is)) c.take_item.ensures

pub returns-in-Characters-clause-takes : goal.returns-in-Characters-clause-takes
returns-in-Characters-clause-takes c =
    let x = reading.Text c.args.text in
    on_ok_weaker c.take_item.result (λ adds reads files f.
    subst (λ l. TakesItems l c.args.self.now c.take_item.new.self)
    (sym (is_item c.args.self.now c.requires.sound reads files f c.args.offset c.args.text ∙ ap (λ i. text_item reads files (place_at files f c.args.self.now).here c.args.offset c.args.text (inside_of i)) c.in-Characters.is))
    (takes_with c.args.self.now c.take_item.new.self x c.requires.sound adds refl refl (ap (λ i. is_outside (inside_of i)) c.in-Characters.is) (ap (λ i. is_of_parts (inside_of i)) c.in-Characters.is))) c.take_item.ensures

pub returns-in-Parts-clause-sound : goal.returns-in-Parts-clause-sound
returns-in-Parts-clause-sound c =
    on_ok_weaker c.take_part.result (λ takes. sound_with_parts c.args.self.now c.take_part.new.self (part.Chars c.args.text ∷ []) c.requires.sound (ap (λ i. is_of_parts (inside_of i)) c.in-Parts.is) takes) c.take_part.ensures

pub returns-in-Parts-clause-takes : goal.returns-in-Parts-clause-takes
returns-in-Parts-clause-takes c =
    on_ok_weaker c.take_part.result (λ takes reads files f.
    subst (λ l. TakesItems l c.args.self.now c.take_part.new.self)
    (sym (is_item c.args.self.now c.requires.sound reads files f c.args.offset c.args.text ∙ ap (λ i. text_item reads files (place_at files f c.args.self.now).here c.args.offset c.args.text (inside_of i)) c.in-Parts.is))
    (takes_parts c.args.self.now c.take_part.new.self (part.Chars c.args.text ∷ []) c.requires.sound (ap (λ i. is_of_parts (inside_of i)) c.in-Parts.is) takes)) c.take_part.ensures

pub returns-in_default-clause-sound : goal.returns-in_default-clause-sound
returns-in_default-clause-sound c =
    let apart = other_inside c.args.self.now.top.inside c.in_default.not-Parts in
    on_ok_weaker c.take_item-in_default.result (λ adds. sound_with c.args.self.now c.take_item-in_default.new.self (reading.Instruction (instr.LiteralChars c.args.text c.place-at.result)) c.requires.sound adds refl refl (text_inside (inside_of c.args.self.now.top.inside) c.requires.allowed apart) apart) c.take_item-in_default.ensures

pub returns-in_default-clause-takes : goal.returns-in_default-clause-takes
returns-in_default-clause-takes c =
    let apart = other_inside c.args.self.now.top.inside c.in_default.not-Parts in
    on_ok_weaker c.take_item-in_default.result (λ adds reads files f.
    subst (λ l. TakesItems l c.args.self.now c.take_item-in_default.new.self)
    (sym (is_item c.args.self.now c.requires.sound reads files f c.args.offset c.args.text
    ∙ other_item reads files (place_at files f c.args.self.now).here c.args.offset c.args.text c.args.self.now.top.inside c.in_default.not-Characters c.in_default.not-Parts
    ∙ ap (λ n. reading.Instruction (instr.LiteralChars c.args.text (record { file = n; offset = c.args.offset })) ∷ []) (is_number c.args.self.now c.requires.sound files f)
    ∙ ap (λ q. reading.Instruction (instr.LiteralChars c.args.text q) ∷ []) (sym c.place-at.ensures)))
    (takes_with c.args.self.now c.take_item-in_default.new.self (reading.Instruction (instr.LiteralChars c.args.text c.place-at.result)) c.requires.sound adds refl refl (text_inside (inside_of c.args.self.now.top.inside) c.requires.allowed apart) apart)) c.take_item-in_default.ensures

pub returns-in-Characters-clause-files : goal.returns-in-Characters-clause-files
returns-in-Characters-clause-files c = on_ok_weaker c.take_item.result (λ adds. ap names_of adds.others) c.take_item.ensures

pub returns-in-Parts-clause-files : goal.returns-in-Parts-clause-files
returns-in-Parts-clause-files c = on_ok_weaker c.take_part.result (λ takes. ap names_of takes) c.take_part.ensures

pub returns-in_default-clause-files : goal.returns-in_default-clause-files
returns-in_default-clause-files c = on_ok_weaker c.take_item-in_default.result (λ adds. ap names_of adds.others) c.take_item-in_default.ensures

pub returns-in-Characters-clause-lists : goal.returns-in-Characters-clause-lists
returns-in-Characters-clause-lists c = on_ok_weaker c.take_item.result (λ adds. item_added (reading.Text c.args.text) c.args.self.now c.take_item.new.self adds) c.take_item.ensures

pub returns-in-Parts-clause-lists : goal.returns-in-Parts-clause-lists
returns-in-Parts-clause-lists c =
    on_ok_weaker c.take_part.result (λ e. record { top = ap (λ (x : Draft). x.top.opened) e; below = ap (λ (x : Draft). x.below) e; number = ap (λ (x : Draft). x.file.number) e }) c.take_part.ensures

pub returns-in_default-clause-lists : goal.returns-in_default-clause-lists
returns-in_default-clause-lists c =
    on_ok_weaker c.take_item-in_default.result (λ adds. item_added (reading.Instruction (instr.LiteralChars c.args.text c.place-at.result)) c.args.self.now c.take_item-in_default.new.self adds) c.take_item-in_default.ensures
