use Rattle.std.proofs.Common.{◌≡◌, ◌∙◌, ℕ, List, Err, Result, ap, subst, sym}
use Rattle.fault_report.specs.declared.outcome.HostFault.TheVariants as host_fault
use Rattle.stx_base.specs.declared.fault.SheetCode.TheVariants as code
use Rattle.stx_base.specs.declared.limits.Limits.{Limits}
use Rattle.stx_host.specs.Outside.{MayOpen, Opens, Outside}
use Rattle.stx_host.specs.declared.act.Opened.TheVariants.{Id}
use Rattle.fault_report.specs.declared.outcome.Outcome.{Outcome}
use Rattle.fault_report.specs.declared.outcome.Outcome.TheVariants as outcome
use Rattle.sheet_files.specs.Loading.{LoadsTo}
use Rattle.sheet_files.specs.Steps.{OpensOwn}
use Rattle.sheet_files.specs.declared.load.Loaded.{Loaded}
use Rattle.sheet_files.proofs.Finishing.{empty_like, last_given, nothing_loads_to}
use Rattle.sheet_files.proofs.Outcomes.{absent_loads_to, failed_loads_to}
use Rattle.sheet_files.proofs.load.load_sheet.Goals as goal

-- of the same name, with the same limits
loads_by : (start p : Outside) (limits lim : Limits) (name file : List ℕ) (result : Result Loaded Outcome) → lim ≡ limits → file ≡ name → LoadsTo start p lim file result → LoadsTo start p limits name result
loads_by start p limits lim name file result e f loads = subst (λ (n : List ℕ). LoadsTo start p limits n result) f (subst (λ (l : Limits). LoadsTo start p l file result) e loads)

opens_own : (start o : Outside) (name file : List ℕ) (id : ℕ) → file ≡ name → MayOpen start name (Id id) → Opens start name (Id id) o → OpensOwn start o file id
opens_own start o name file id e may does = subst (λ (n : List ℕ). OpensOwn start o n id) (sym e) (record { may = may; opens = does })

pub returns-in-Id-clause-answer : goal.returns-in-Id-clause-answer
returns-in-Id-clause-answer g c =
    let old = g.H.Host.outside c.args.host.now in
    (loads_by old (g.H.Host.outside c.load_from.new.host) c.args.limits c.new.result.limits c.args.name.now c.in-Ok.file c.load_from.result c.new.ensures.limits c.in-Ok.ensures.0
    (c.load_from.ensures old (opens_own old (g.H.Host.outside c.open.new.self) c.args.name.now c.in-Ok.file c.in-Id.id c.in-Ok.ensures.0 c.in-Id.ensures.answer c.in-Id.ensures.change))).answers

pub returns-in-Id-clause-acts : goal.returns-in-Id-clause-acts
returns-in-Id-clause-acts g c =
    let old = g.H.Host.outside c.args.host.now in
    (loads_by old (g.H.Host.outside c.load_from.new.host) c.args.limits c.new.result.limits c.args.name.now c.in-Ok.file c.load_from.result c.new.ensures.limits c.in-Ok.ensures.0
    (c.load_from.ensures old (opens_own old (g.H.Host.outside c.open.new.self) c.args.name.now c.in-Ok.file c.in-Id.id c.in-Ok.ensures.0 c.in-Id.ensures.answer c.in-Id.ensures.change))).acts

pub returns-in-Id-clause-counts : goal.returns-in-Id-clause-counts
returns-in-Id-clause-counts g c =
    let old = g.H.Host.outside c.args.host.now in
    (c.load_from.ensures old (opens_own old (g.H.Host.outside c.open.new.self) c.args.name.now c.in-Ok.file c.in-Id.id c.in-Ok.ensures.0 c.in-Id.ensures.answer c.in-Id.ensures.change)).counts

pub returns-in-Id-clause-ids : goal.returns-in-Id-clause-ids
returns-in-Id-clause-ids g c =
    let old = g.H.Host.outside c.args.host.now in
    (c.load_from.ensures old (opens_own old (g.H.Host.outside c.open.new.self) c.args.name.now c.in-Ok.file c.in-Id.id c.in-Ok.ensures.0 c.in-Id.ensures.answer c.in-Id.ensures.change)).ids

pub returns-in-Id-clause-sound : goal.returns-in-Id-clause-sound
returns-in-Id-clause-sound g c =
    let old = g.H.Host.outside c.args.host.now in
    (loads_by old (g.H.Host.outside c.load_from.new.host) c.args.limits c.new.result.limits c.args.name.now c.in-Ok.file c.load_from.result c.new.ensures.limits c.in-Ok.ensures.0
    (c.load_from.ensures old (opens_own old (g.H.Host.outside c.open.new.self) c.args.name.now c.in-Ok.file c.in-Id.id c.in-Ok.ensures.0 c.in-Id.ensures.answer c.in-Id.ensures.change))).sound

pub load_from-requires-clause-empty : goal.load_from-requires-clause-empty
load_from-requires-clause-empty g c = empty_like c.args.limits c.in-Ok.own c.in-Ok.file c.new.result (c.in-Ok.ensures.1 ∙ sym c.in-Ok.ensures.0) c.new.ensures

pub load_from-requires-clause-open : goal.load_from-requires-clause-open
load_from-requires-clause-open g c = last_given (g.H.Host.outside c.args.host.now) (g.H.Host.outside c.open.new.self) c.args.name.now c.in-Id.id c.in-Id.ensures.answer c.in-Id.ensures.change

pub returns-in-Absent-clause-answer : goal.returns-in-Absent-clause-answer
returns-in-Absent-clause-answer g c =
    let old = g.H.Host.outside c.args.host.now in
    let new = g.H.Host.outside c.open.new.self in
    (subst (λ (f : List ℕ). LoadsTo old new c.args.limits c.args.name.now (Err (outcome.Sheet (record { file = f; code = code.NoDocument; offset = 0 })))) (sym c.in-Ok.ensures.0)
    (absent_loads_to old new c.args.limits c.args.name.now c.in-Absent.ensures.answer c.in-Absent.ensures.change)).answers

pub returns-in-Absent-clause-acts : goal.returns-in-Absent-clause-acts
returns-in-Absent-clause-acts g c =
    let old = g.H.Host.outside c.args.host.now in
    let new = g.H.Host.outside c.open.new.self in
    (subst (λ (f : List ℕ). LoadsTo old new c.args.limits c.args.name.now (Err (outcome.Sheet (record { file = f; code = code.NoDocument; offset = 0 })))) (sym c.in-Ok.ensures.0)
    (absent_loads_to old new c.args.limits c.args.name.now c.in-Absent.ensures.answer c.in-Absent.ensures.change)).acts

pub returns-in-Failed-clause-acts : goal.returns-in-Failed-clause-acts
returns-in-Failed-clause-acts g c =
    let old = g.H.Host.outside c.args.host.now in
    let new = g.H.Host.outside c.open.new.self in
    (subst (λ (t : Outcome). LoadsTo old new c.args.limits c.args.name.now (Err t)) (sym (c.failure.ensures ∙ ap (λ (f : List ℕ). outcome.Host f host_fault.Doc 0) c.in-Ok.ensures.0))
    (failed_loads_to old new c.args.limits c.args.name.now c.in-Failed.ensures.answer c.in-Failed.ensures.change)).acts

pub returns-in-Memory-clause-acts : goal.returns-in-Memory-clause-acts
returns-in-Memory-clause-acts g c =
    let old = g.H.Host.outside c.args.host.now in
    (subst (λ (new : Outside). LoadsTo old new c.args.limits c.args.name.now (Err outcome.Memory)) (sym c.in-Memory.ensures.change) (nothing_loads_to old c.args.limits c.args.name.now)).acts

pub returns-in_default-clause-acts : goal.returns-in_default-clause-acts
returns-in_default-clause-acts g c = (nothing_loads_to (g.H.Host.outside c.args.host.now) c.args.limits c.args.name.now).acts
