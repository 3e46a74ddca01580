-- A text counts for nothing, or is refused, or is taken.
use Rattle.std.proofs.Common.{ap, refl, sym, ◌∙◌}
use Rattle.stx_base.specs.Course.{Halt}
use Rattle.stx_base.specs.declared.fault.SheetCode.TheVariants as code
use Rattle.sheet_loader.proofs.Resuming.{answer_then, equal_answer}
use Rattle.sheet_loader.proofs.TextSteps.{blank_step, refused_step, taken_step}
use Rattle.sheet_loader.proofs.Texts.{cdata_comes, chars_come}
use Rattle.sheet_loader.specs.Events.{stage_of}
use Rattle.sheet_loader.specs.Reading.{Refused}
use Rattle.sheet_loader.proofs.draft.Draft.text.Goals as goal

pub returns-then-counts_for_nothing-clause-chars : goal.returns-then-counts_for_nothing-clause-chars
returns-then-counts_for_nothing-clause-chars c = λ reads files mark f.
    answer_then reads files (chars_come reads files (stage_of c.args.self.now) mark c.args.offset c.args.text f)
    (equal_answer reads files (blank_step c.args.self.now c.requires reads files c.args.offset c.args.text f (sym c.counts_for_nothing.ensures ∙ c.if-counts_for_nothing.true)))

pub returns-then-counts_for_nothing-clause-cdata : goal.returns-then-counts_for_nothing-clause-cdata
returns-then-counts_for_nothing-clause-cdata c = λ reads files mark f.
    answer_then reads files (cdata_comes reads files (stage_of c.args.self.now) mark c.args.offset c.args.text f)
    (equal_answer reads files (blank_step c.args.self.now c.requires reads files c.args.offset c.args.text f (sym c.counts_for_nothing.ensures ∙ c.if-counts_for_nothing.true)))

pub returns-then-not-allows_text-clause-chars : goal.returns-then-not-allows_text-clause-chars
returns-then-not-allows_text-clause-chars c = λ reads files mark f.
    answer_then reads files (chars_come reads files (stage_of c.args.self.now) mark c.args.offset c.args.text f)
    (equal_answer reads files (refused_step c.args.self.now c.requires reads files c.args.offset c.args.text f (sym c.counts_for_nothing.ensures ∙ c.if-counts_for_nothing.false) (sym c.allows_text.ensures ∙ c.if-not-allows_text.true)
    ∙ ap (λ q. Halt (Refused q code.Misplaced)) (sym c.place.ensures)))

pub returns-then-not-allows_text-clause-cdata : goal.returns-then-not-allows_text-clause-cdata
returns-then-not-allows_text-clause-cdata c = λ reads files mark f.
    answer_then reads files (cdata_comes reads files (stage_of c.args.self.now) mark c.args.offset c.args.text f)
    (equal_answer reads files (refused_step c.args.self.now c.requires reads files c.args.offset c.args.text f (sym c.counts_for_nothing.ensures ∙ c.if-counts_for_nothing.false) (sym c.allows_text.ensures ∙ c.if-not-allows_text.true)
    ∙ ap (λ q. Halt (Refused q code.Misplaced)) (sym c.place.ensures)))

pub returns-clause-chars : goal.returns-clause-chars
returns-clause-chars c = λ reads files mark f.
    answer_then reads files (chars_come reads files (stage_of c.args.self.now) mark c.args.offset c.args.text f)
    (equal_answer reads files (taken_step c.args.self.now c.requires reads files c.args.offset c.args.text f c.add_text.new.self (sym c.counts_for_nothing.ensures ∙ c.if-counts_for_nothing.false) (sym c.allows_text.ensures ∙ c.if-not-allows_text.false) (c.in_ok-add_text.ensures.takes reads files f)))

pub returns-clause-cdata : goal.returns-clause-cdata
returns-clause-cdata c = λ reads files mark f.
    answer_then reads files (cdata_comes reads files (stage_of c.args.self.now) mark c.args.offset c.args.text f)
    (equal_answer reads files (taken_step c.args.self.now c.requires reads files c.args.offset c.args.text f c.add_text.new.self (sym c.counts_for_nothing.ensures ∙ c.if-counts_for_nothing.false) (sym c.allows_text.ensures ∙ c.if-not-allows_text.false) (c.in_ok-add_text.ensures.takes reads files f)))

pub returns-then-counts_for_nothing-clause-lists : goal.returns-then-counts_for_nothing-clause-lists
returns-then-counts_for_nothing-clause-lists c = record { top = refl; below = refl; number = refl }
