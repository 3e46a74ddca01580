use Rattle.sheet_loader.proofs.Judged.{shows_again, shows_loop, shows_nothing}
use Rattle.sheet_loader.specs.Drafts.{before_tag, loading_of}
use Rattle.sheet_loader.specs.Events.{place_at}
use Rattle.sheet_loader.specs.Gathering.{values_in}
use Rattle.sheet_loader.specs.Meant.{kind_of}
use Rattle.sheet_loader.proofs.draft.Draft.clash.Goals as goal

pub returns-then-branch-clause-apart : goal.returns-then-branch-clause-apart
returns-then-branch-clause-apart c = λ e. cc

pub returns-then-branch-clause-code : goal.returns-then-branch-clause-code
returns-then-branch-clause-code c = λ around files f s.
    let d = c.args.self.now in
    let p = place_at files f (before_tag d around) in
    let again = c.in_ok-declares_again.ensures around files f s in
    shows_again p.here p.before (loading_of d).sheet (kind_of c.args.kind) (values_in c.args.values.now) (cc again)

pub returns-then-is_loop-clause-apart : goal.returns-then-is_loop-clause-apart
returns-then-is_loop-clause-apart c = λ e. cc

pub returns-then-is_loop-clause-code : goal.returns-then-is_loop-clause-code
returns-then-is_loop-clause-code c = λ around files f s.
    let d = c.args.self.now in
    let p = place_at files f (before_tag d around) in
    let again = c.in_ok-declares_again.ensures around files f s in
    let loops = c.is_loop.ensures.looped around files f s in
    shows_loop p.here p.before (loading_of d).sheet (kind_of c.args.kind) (values_in c.args.values.now) (cc again) (cc loops)

pub returns-else-is_loop-clause-apart : goal.returns-else-is_loop-clause-apart
returns-else-is_loop-clause-apart c = λ e. c.is_loop.ensures.apart (cc)

pub returns-else-is_loop-clause-code : goal.returns-else-is_loop-clause-code
returns-else-is_loop-clause-code c = λ around files f s.
    let d = c.args.self.now in
    let p = place_at files f (before_tag d around) in
    let again = c.in_ok-declares_again.ensures around files f s in
    let loops = c.is_loop.ensures.looped around files f s in
    shows_nothing p.here p.before (loading_of d).sheet (kind_of c.args.kind) (values_in c.args.values.now) (cc again) (cc loops)
