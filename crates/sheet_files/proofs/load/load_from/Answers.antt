use Rattle.std.proofs.Common.{◌∙◌}
use Rattle.sheet_files.proofs.Finishing.{begun_asked, begun_held, begun_read, begun_within, finished_to, halted_to, open_last, own_short}
use Rattle.sheet_files.proofs.load.load_from.Goals as goal

pub close-requires : goal.close-requires
close-requires g c = open_last (g.H.Host.outside c.args.host.now) c.args.id c.requires.«open»

pub returns-in-Err : goal.returns-in-Err
returns-in-Err g c start opens = own_short start (g.H.Host.outside c.args.host.now) (g.H.Host.outside c.close.new.self) c.args.reading.limits c.args.file c.args.id opens c.close.ensures

pub run-requires-clause-held : goal.run-requires-clause-held
run-requires-clause-held g c = begun_held (g.H.Host.outside c.args.host.now) c.args.reading c.enter.new.self c.args.file c.args.id c.requires.empty c.requires.«open» c.in_default.ensures

pub run-requires-clause-read : goal.run-requires-clause-read
run-requires-clause-read g c = (c.args.file, begun_read (g.H.Host.outside c.args.host.now) c.args.reading c.enter.new.self c.args.file c.args.id c.requires.empty c.requires.«open» c.in_default.ensures)

pub returns-in-Ok : goal.returns-in-Ok
returns-in-Ok g c start opens =
    let o = g.H.Host.outside c.args.host.now in
    let read = begun_read o c.args.reading c.enter.new.self c.args.file c.args.id c.requires.empty c.requires.«open» c.in_default.ensures in
    finished_to start o (g.H.Host.outside c.run.new.host) (g.H.Host.outside c.leave_all.new.host) c.args.reading.limits c.args.file c.enter.new.self c.run.new.self c.leave_all.new.self _
    (begun_within o c.args.reading c.enter.new.self c.args.file c.args.id c.requires.empty c.requires.«open» c.in_default.ensures start opens) (begun_asked o c.args.reading c.enter.new.self c.args.file c.args.id c.requires.empty c.requires.«open» c.in_default.ensures start) (c.in-Ok.ensures.steps c.args.file read) (c.run.ensures.limits ∙ c.in_default.ensures.4) c.in-Ok.ensures.over
    c.run.ensures.held c.leave_all.ensures.leaves c.finished.result c.finished.ensures

pub returns-in-Err-run : goal.returns-in-Err-run
returns-in-Err-run g c start opens =
    let o = g.H.Host.outside c.args.host.now in
    let read = begun_read o c.args.reading c.enter.new.self c.args.file c.args.id c.requires.empty c.requires.«open» c.in_default.ensures in
    halted_to start o (g.H.Host.outside c.run.new.host) (g.H.Host.outside c.leave_all-in-Err-run.new.host) c.args.reading.limits c.args.file c.enter.new.self c.run.new.self c.failure_of-outcome.new.reading c.leave_all-in-Err-run.new.self _
    (begun_within o c.args.reading c.enter.new.self c.args.file c.args.id c.requires.empty c.requires.«open» c.in_default.ensures start opens) (begun_asked o c.args.reading c.enter.new.self c.args.file c.args.id c.requires.empty c.requires.«open» c.in_default.ensures start) c.in_default.ensures.4 (c.run.ensures.limits ∙ c.in_default.ensures.4) c.run.ensures.held c.failure_of-outcome.ensures.kept c.leave_all-in-Err-run.ensures.leaves c.in-Err-run.halt c.failure_of-outcome.result
    (c.in-Err-run.ensures.steps c.args.file read) c.failure_of-outcome.ensures.fails
