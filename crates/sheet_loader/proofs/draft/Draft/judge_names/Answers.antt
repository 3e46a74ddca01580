use Rattle.std.proofs.Common.{refl, sym, ◌∙◌}
use Rattle.sheet_loader.proofs.draft.Draft.judge_names.Goals as goal

pub returns-in-Ok-Some-clause-judged : goal.returns-in-Ok-Some-clause-judged
returns-in-Ok-Some-clause-judged c = λ around files f s. sym (c.in-Ok-Some.ensures.code around files f s) ∙ c.in-Ok-Some.field-0-is

pub returns-in-Ok-None-clause-judged : goal.returns-in-Ok-None-clause-judged
returns-in-Ok-None-clause-judged c = λ around files f s. (sym (c.in-Ok-None.ensures.code around files f s) ∙ c.in-Ok-None.field-0-is, refl)

pub returns-in-Ok-None-clause-apart : goal.returns-in-Ok-None-clause-apart
returns-in-Ok-None-clause-apart c = c.in-Ok-None.ensures.apart c.in-Ok-None.field-0-is
