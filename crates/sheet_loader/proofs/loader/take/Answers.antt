-- Each event is taken as the draft takes it.
use Rattle.std.proofs.Common.{IfOk, sym}
use Rattle.std.proofs.Math.Path.{subst}
use Rattle.stx_base.specs.declared.fault.Place.{Place}
use Rattle.xml_events.specs.declared.event.Event.{Event}
use Rattle.sheet_loader.proofs.LoaderSteps.{cdata_taken, chars_taken, comment_passed, document_taken, end_taken, pi_passed, tag_taken}
use Rattle.sheet_loader.specs.Named.{WantsFile}
use Rattle.sheet_loader.specs.Progress.{TakesOr, behind_end, behind_node, behind_tag}
use Rattle.sheet_loader.specs.declared.loader.Progress as loader
use Rattle.sheet_loader.specs.declared.loader.Progress.TheVariants as progress
use Rattle.sheet_loader.proofs.loader.take.Goals as goal

pub returns-in-Start : goal.returns-in-Start
returns-in-Start c =
    let new = c.start.new.self in
    subst (λ (p : loader.Progress). TakesOr c.args.event c.args.draft.now new p) (sym c.behind_tag.ensures)
    (subst (λ (e : Event). TakesOr e c.args.draft.now new (behind_tag c.place-at.result c.start.result)) (sym c.in-Start.is)
    (tag_taken c.args.draft.now new c.place-at.result _ _ _ _ _ c.start.result c.start.ensures.sound c.start.ensures.files
    (subst (λ (p : Place). IfOk c.start.result (λ w. WantsFile w p new)) (sym c.place-at.ensures) c.start.ensures.wanted) c.start.ensures.lists c.start.ensures.behind))

pub returns-in-End : goal.returns-in-End
returns-in-End c =
    let new = c.end.new.self in
    subst (λ (p : loader.Progress). TakesOr c.args.event c.args.draft.now new p) (sym c.behind_end.ensures)
    (subst (λ (e : Event). TakesOr e c.args.draft.now new (behind_end c.end.result)) (sym c.in-End.is)
    (end_taken c.args.draft.now new _ c.end.result c.end.ensures.sound c.end.ensures.files c.end.ensures.lists c.end.ensures.behind))

pub returns-in-DocumentEnd : goal.returns-in-DocumentEnd
returns-in-DocumentEnd c =
    let new = c.end-in-DocumentEnd.new.self in
    subst (λ (p : loader.Progress). TakesOr c.args.event c.args.draft.now new p) (sym c.behind_end-in-DocumentEnd.ensures)
    (subst (λ (e : Event). TakesOr e c.args.draft.now new (behind_end c.end-in-DocumentEnd.result)) (sym c.in-DocumentEnd.is)
    (document_taken c.args.draft.now new _ c.end-in-DocumentEnd.result c.end-in-DocumentEnd.ensures.sound c.end-in-DocumentEnd.ensures.files c.end-in-DocumentEnd.ensures.lists c.end-in-DocumentEnd.ensures.behind))

pub returns-in-Chars : goal.returns-in-Chars
returns-in-Chars c =
    let new = c.text.new.self in
    subst (λ (p : loader.Progress). TakesOr c.args.event c.args.draft.now new p) (sym c.behind_node.ensures)
    (subst (λ (e : Event). TakesOr e c.args.draft.now new (behind_node c.text.result)) (sym c.in-Chars.is)
    (chars_taken c.args.draft.now new _ _ c.text.result c.text.ensures.sound c.text.ensures.files c.text.ensures.lists c.text.ensures.chars))

pub returns-in-CData : goal.returns-in-CData
returns-in-CData c =
    let new = c.text-in-CData.new.self in
    subst (λ (p : loader.Progress). TakesOr c.args.event c.args.draft.now new p) (sym c.behind_node-in-CData.ensures)
    (subst (λ (e : Event). TakesOr e c.args.draft.now new (behind_node c.text-in-CData.result)) (sym c.in-CData.is)
    (cdata_taken c.args.draft.now new _ _ c.text-in-CData.result c.text-in-CData.ensures.sound c.text-in-CData.ensures.files c.text-in-CData.ensures.lists c.text-in-CData.ensures.cdata))

pub returns-in-Comment : goal.returns-in-Comment
returns-in-Comment c = subst (λ (e : Event). TakesOr e c.args.draft.now c.args.draft.now progress.Reads) (sym c.in-Comment.is) (comment_passed c.args.draft.now c.requires _ _)

pub returns : goal.returns
returns c = subst (λ (e : Event). TakesOr e c.args.draft.now c.args.draft.now progress.Reads) (sym c.in-Pi.is) (pi_passed c.args.draft.now c.requires _ _ _)
