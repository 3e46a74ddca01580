use Rattle.std.proofs.Common.{◌≤◌, ◌^◌, Err, Ok, arith, refl, subst, sym}
use Rattle.sheet_model.specs.Sound.{IsSound}
use Rattle.sheet_files.specs.Loading.{LoadActs, LoadAnswers}
use Rattle.sheet_files.specs.Opened.{documents_told}
use Rattle.stx_engine.specs.Doing.{Does, GoesOn, Stops}
use Rattle.stx_engine.proofs.driver.run_command.Goals as goal

pub run_loaded-requires-clause-sound : goal.run_loaded-requires-clause-sound
run_loaded-requires-clause-sound g c =
    subst IsSound (sym c.sheet_of.ensures) (c.in-Ok.ensures.sound (subst (λ l. l.depth ≤ 512) (sym c.standard.ensures) (omega arith)) (subst (λ l. l.sheet ≤ 2 ^ 24) (sym c.standard.ensures) (omega arith)))

pub returns-in-Ok : goal.returns-in-Ok
returns-in-Ok g c =
    let load = c.in-Ok.ensures in
    let old = g.H.Host.outside c.args.host.now in
    let mid = g.H.Host.outside c.load_sheet.new.host in
    let name = c.args.command.sheet in
    let limits = c.standard.ensures in
    GoesOn mid c.in-Ok.loaded
    (record {
      answers = subst (λ l. LoadAnswers (documents_told old) l name (Ok c.in-Ok.loaded)) limits load.answer;
      acts = load.acts.0;
      did = subst (λ l. LoadActs old mid l name (Ok c.in-Ok.loaded) load.acts.0) limits load.acts.1;
      counts = load.counts;
      ids = load.ids;
    })
    (subst (λ sheet. Does c.args.command sheet mid (g.H.Host.outside c.run_loaded.new.host) c.run_loaded.result) c.sheet_of.ensures c.run_loaded.ensures)

pub returns-in-Err : goal.returns-in-Err
returns-in-Err g c =
    let load = c.in-Err.ensures in
    let old = g.H.Host.outside c.args.host.now in
    let mid = g.H.Host.outside c.load_sheet.new.host in
    let name = c.args.command.sheet in
    let limits = c.standard.ensures in
    Stops c.in-Err.outcome
    (record {
      answers = subst (λ l. LoadAnswers (documents_told old) l name (Err c.in-Err.outcome)) limits load.answer;
      acts = load.acts.0;
      did = subst (λ l. LoadActs old mid l name (Err c.in-Err.outcome) load.acts.0) limits load.acts.1;
      counts = load.counts;
      ids = load.ids;
    }) refl
