-- The list of the element stands within the innermost one, or an attribute's fault is told.
use Rattle.std.proofs.Common.{ap, sym, ◌∙◌}
use Rattle.std.proofs.Math.Path.{subst}
use Rattle.stx_base.specs.declared.fault.Place.{Place}
use Rattle.sheet_loader.proofs.Beginning.{unopened}
use Rattle.sheet_loader.proofs.LiteralAnswers.{Refers, literal_opens, literal_sound, literal_stops}
use Rattle.sheet_loader.specs.Named.{names_of}
use Rattle.sheet_loader.specs.declared.draft.Draft.{Draft}
use Rattle.sheet_loader.specs.declared.frame.Frame.{Frame}
use Rattle.sheet_loader.specs.Lists.{IsOfElement}
use Rattle.sheet_loader.proofs.draft.Draft.literal.Goals as goal

pub returns-in-Err-clause-files : goal.returns-in-Err-clause-files
returns-in-Err-clause-files c = unopened (Unit {0}) c.args.self.now c.in-Err.refused

pub returns-in-Err-clause-behind : goal.returns-in-Err-clause-behind
returns-in-Err-clause-behind c = λ reads files first f.
    literal_stops c.args.self.now c.args.tag c.requires.sound c.requires.version reads files first f c.args.self.now c.in-Err.refused (c.in-Err.ensures reads)

pub returns-in_ok-push-in-Ok-clause-sound : goal.returns-in_ok-push-in-Ok-clause-sound
returns-in_ok-push-in-Ok-clause-sound c =
    let d = c.args.self.now in
    let r = c.refer_by_literal.new.self in
    let list = c.list_within-list.result in
    literal_sound d c.args.tag list.given c.in-Ok.attrs r c.push.new.self c.requires.sound c.requires.version c.requires.declared c.requires.allowed c.requires.no_parts c.list_within-list.ensures.given
    (subst (λ (at : Place). Refers d at c.in-Ok.attrs r) c.place-at.ensures c.in_ok-refer_by_literal-in-Ok.ensures)
    (c.in_ok-push-in-Ok.ensures.0 ∙ ap (λ (t : Frame). let w : Draft = record d { register = r; top = t; below = c.push.new.self.below } in w) c.list_within-list.ensures.list)
    c.in_ok-push-in-Ok.ensures.1

pub returns-in_ok-push-in-Ok-clause-files : goal.returns-in_ok-push-in-Ok-clause-files
returns-in_ok-push-in-Ok-clause-files c = ap names_of c.in_ok-push-in-Ok.ensures.0

pub returns-in_ok-push-in-Ok-clause-behind : goal.returns-in_ok-push-in-Ok-clause-behind
returns-in_ok-push-in-Ok-clause-behind c = λ reads files first f.
    let d = c.args.self.now in
    let r = c.refer_by_literal.new.self in
    let list = c.list_within-list.result in
    literal_opens d c.args.tag c.requires.sound c.requires.version reads files first f list.given c.in-Ok.attrs r c.requires.declared c.requires.allowed c.requires.no_parts c.list_within-list.ensures.given c.push.new.self
    (subst (λ (at : Place). Refers d at c.in-Ok.attrs r) c.place-at.ensures c.in_ok-refer_by_literal-in-Ok.ensures)
    (c.in_ok-push-in-Ok.ensures.0 ∙ ap (λ (t : Frame). let w : Draft = record d { register = r; top = t; below = c.push.new.self.below } in w) c.list_within-list.ensures.list)
    c.in_ok-push-in-Ok.ensures.1 (c.in-Ok.ensures reads).0 (c.in-Ok.ensures reads).1

pub returns-in_ok-push-in-Ok-clause-lists : goal.returns-in_ok-push-in-Ok-clause-lists
returns-in_ok-push-in-Ok-clause-lists c =
    let e = c.in_ok-push-in-Ok.ensures.0 in
    record {
      element = subst (λ (x : Draft). IsOfElement x.top.opened) (sym e) (subst (λ (t : Frame). IsOfElement t.opened) (sym c.list_within-list.ensures.list) tt);
      around = c.in_ok-push-in-Ok.ensures.1;
      number = ap (λ (x : Draft). x.file.number) e;
    }
