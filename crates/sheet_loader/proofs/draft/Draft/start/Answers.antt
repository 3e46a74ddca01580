use Rattle.std.proofs.Common.{◌≡◌, ℕ, List, Option, Err, refl, ap, sym, ◌∙◌}
use Rattle.std.proofs.Math.Path.{subst}
use Rattle.stx_base.specs.declared.fault.Place.{Place}
use Rattle.sheet_loader.proofs.Beginning.{scope_longer, sound_start, start_comes, tag_from, told_at, unopened_at, unopened_from}
use Rattle.sheet_loader.proofs.Resuming.{answer_then}
use Rattle.sheet_loader.specs.Events.{Behind, begins, stage_of}
use Rattle.sheet_loader.specs.Meant.{stop_at}
use Rattle.sheet_loader.specs.Named.{SameFiles, WantsFile}
use Rattle.sheet_loader.specs.Remaining.{Reads_on, remaining}
use Rattle.sheet_loader.specs.declared.draft.Draft.{Draft}
use Rattle.sheet_loader.specs.declared.frame.OpenFile.{OpenFile}
use Rattle.sheet_loader.specs.declared.refused.Stop.{Stop}
use Rattle.sheet_loader.proofs.ListSteps.{opens_from}
use Rattle.sheet_loader.proofs.draft.Draft.start.Goals as goal

pub begin-requires-clause-sound : goal.begin-requires-clause-sound
begin-requires-clause-sound c =
    sound_start c.args.self.now c.args.offset c.args.name c.args.attrs c.args.decls c.declare.new.self c.len-around.result c.in_ok-declare.ensures c.len-around.ensures.value c.requires

pub begin-requires-clause-declared : goal.begin-requires-clause-declared
begin-requires-clause-declared c =
    scope_longer c.args.self.now c.args.offset c.args.name c.args.attrs c.args.decls c.declare.new.self c.len-around.result c.in_ok-declare.ensures c.len-around.ensures.value

pub returns-in-Ok-clause-wanted : goal.returns-in-Ok-clause-wanted
returns-in-Ok-clause-wanted c =
    subst (λ (n : ℕ). WantsFile c.in-Ok.wanted (record { file = n; offset = c.args.offset }) c.begin.new.self) (ap (λ (g : OpenFile). g.number) c.in_ok-declare.ensures) c.in-Ok.ensures.wanted

pub returns-in-Ok-clause-behind : goal.returns-in-Ok-clause-behind
returns-in-Ok-clause-behind c = λ reads files first f.
    answer_then reads files
    (start_comes c.args.self.now c.args.offset c.args.name c.args.attrs c.args.decls c.declare.new.self c.len-around.result c.in_ok-declare.ensures c.len-around.ensures.value reads files first f)
    (c.in-Ok.ensures.behind reads files first f)

pub returns-in-Err-clause-files : goal.returns-in-Err-clause-files
returns-in-Err-clause-files c =
    let d = c.args.self.now in
    let declared : Draft = record d { file = c.declare.new.self } in
    subst (λ (s : Stop). SameFiles {A = Option (List ℕ)} (Err s) d c.begin.new.self) (sym c.at.ensures)
    (unopened_at (Option (List ℕ)) d c.begin.new.self c.place-at.result c.in-Err.refused (unopened_from {A = Option (List ℕ)} d declared c.begin.new.self (Err c.in-Err.refused) refl c.in-Err.ensures.files))

pub returns-in-Err-clause-behind : goal.returns-in-Err-clause-behind
returns-in-Err-clause-behind c = λ reads files first f.
    let d = c.args.self.now in
    let at : Place = record { file = c.declare.new.self.number; offset = c.args.offset } in
    let same : c.place-at.result ≡ at = c.place-at.ensures ∙ ap (λ (n : ℕ). let w : Place = record { file = n; offset = c.args.offset } in w) (sym (ap (λ (g : OpenFile). g.number) c.in_ok-declare.ensures)) in
    let x = remaining reads files (Reads_on (stage_of d)) (begins (record { offset = c.args.offset; name = c.args.name; attrs = c.args.attrs; decls = c.args.decls }) first f) in
    subst (λ (s : Stop). Behind reads files x c.begin.new.self f (Err s)) (sym (c.at.ensures ∙ ap (stop_at c.in-Err.refused) same))
    (told_at reads files x at c.begin.new.self f c.in-Err.refused
    (tag_from reads files (start_comes d c.args.offset c.args.name c.args.attrs c.args.decls c.declare.new.self c.len-around.result c.in_ok-declare.ensures c.len-around.ensures.value reads files first f)
    at c.begin.new.self f (Err c.in-Err.refused) (c.in-Err.ensures.behind reads files first f)))

pub returns-in-Ok-clause-lists : goal.returns-in-Ok-clause-lists
returns-in-Ok-clause-lists c =
    opens_from c.args.self.now (record c.args.self.now { file = c.declare.new.self }) c.begin.new.self refl refl (ap (λ (g : OpenFile). g.number) c.in_ok-declare.ensures) c.in-Ok.ensures.lists
