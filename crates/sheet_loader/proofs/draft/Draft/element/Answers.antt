use Rattle.std.proofs.Common.{ℕ, List, Option}
use Rattle.sheet_loader.proofs.Beginning.{known_goes, known_stops, unopened}
use Rattle.sheet_loader.proofs.Resuming.{answer_then, equal_answer}
use Rattle.sheet_loader.specs.Drafts.{element_of}
use Rattle.sheet_loader.specs.Events.{begins}
use Rattle.sheet_loader.specs.Gathering.{values_in}
use Rattle.sheet_loader.specs.Meant.{kind_of}
use Rattle.sheet_loader.proofs.draft.Draft.element.Goals as goal

pub open-requires-clause-allowed : goal.open-requires-clause-allowed
open-requires-clause-allowed c = c.in-Ok.ensures.allowed

pub open-requires-clause-apart : goal.open-requires-clause-apart
open-requires-clause-apart c = c.in-Ok.ensures.apart

pub returns-in-Err-clause-files : goal.returns-in-Err-clause-files
returns-in-Err-clause-files c = unopened (Option (List ℕ)) c.args.self.now c.in-Err.refused

pub returns-in-Err-clause-behind : goal.returns-in-Err-clause-behind
returns-in-Err-clause-behind c = λ reads files first f.
    let d = c.args.self.now in
    known_stops d c.args.tag c.requires.sound reads files first f d (kind_of c.args.kind) c.in-Err.refused (c.in-Err.ensures.judged reads files (begins (element_of c.args.tag d) first f))

pub returns-in_ok-open-in-Ok-clause-behind : goal.returns-in_ok-open-in-Ok-clause-behind
returns-in_ok-open-in-Ok-clause-behind c = λ reads files first f.
    let d = c.args.self.now in
    let h = c.in-Ok.ensures.judged reads files (begins (element_of c.args.tag d) first f) in
    answer_then reads files (equal_answer reads files (known_goes d c.args.tag c.requires.sound reads files first f (kind_of c.args.kind) (values_in c.in-Ok.values) h.0 h.1)) (c.in_ok-open-in-Ok.ensures.behind reads files first f)
