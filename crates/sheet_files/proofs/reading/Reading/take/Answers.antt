use Rattle.std.proofs.Common.{[], refl, sym}
use Rattle.sheet_files.proofs.Telling.{told_read, told_short, told_wants}
use Rattle.sheet_files.proofs.reading.Reading.take.Goals as goal

pub include-requires-clause-read : goal.include-requires-clause-read
include-requires-clause-read g c =
    let told = c.requires.told in
    let fed = c.in_ok-feed_event.ensures in
    (told.0, told_read told.0 c.args.event told.1 c.args.self.now told.2 told.3 c.feed_event.new.self fed.takes fed.names fed.lists fed.files)

pub include-requires-clause-includes : goal.include-requires-clause-includes
include-requires-clause-includes g c =
    let told = c.requires.told in
    let fed = c.in_ok-feed_event.ensures in
    told_wants told.0 c.args.event told.1 c.args.self.now told.2 told.3 c.feed_event.new.self fed.takes fed.names fed.lists fed.files _ (sym c.in-Some.ensures)

pub returns-in-None-clause-steps : goal.returns-in-None-clause-steps
returns-in-None-clause-steps g c name before told read =
    let fed = c.in_ok-feed_event.ensures in
    ([], told_read name c.args.event before c.args.self.now told read c.feed_event.new.self fed.takes fed.names fed.lists fed.files, sym c.in-None.ensures, λ start acts within. (acts, within, λ undecided. undecided), refl)

pub returns-in_ok-name-in-Some-clause-steps : goal.returns-in_ok-name-in-Some-clause-steps
returns-in_ok-name-in-Some-clause-steps g c name before told read =
    let fed = c.in_ok-feed_event.ensures in
    c.include.ensures.steps name (told_read name c.args.event before c.args.self.now told read c.feed_event.new.self fed.takes fed.names fed.lists fed.files)

pub returns-in_err-feed_event-clause-steps : goal.returns-in_err-feed_event-clause-steps
returns-in_err-feed_event-clause-steps g c name before told read =
    told_short name c.args.event before c.args.self.now told read (g.H.Host.outside c.args.host.now) c.requires.held (record c.args.self.now { loader = c.feed_event.new.self }) refl refl c.from_residual.result c.from_residual.ensures.1

pub returns-in_err-name-in-Some-clause-steps : goal.returns-in_err-name-in-Some-clause-steps
returns-in_err-name-in-Some-clause-steps g c name before told read =
    told_short name c.args.event before c.args.self.now told read (g.H.Host.outside c.args.host.now) c.requires.held (record c.args.self.now { loader = c.feed_event.new.self }) refl refl c.from_residual-in_err-name-in-Some.result
    c.from_residual-in_err-name-in-Some.ensures.1
