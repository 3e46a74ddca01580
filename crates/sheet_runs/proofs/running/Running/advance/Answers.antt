use Rattle.sheet_runs.proofs.running.Running.advance.Goals as goal

pub read_main-requires-clause-driven : goal.read_main-requires-clause-driven
read_main-requires-clause-driven g c =
    let d = c.requires in
    (d.0, d.1, d.2, (c.in_ok-reach_main.ensures.driven d.0 d.1 d.2 d.3).0)

pub read_main-requires-clause-written : goal.read_main-requires-clause-written
read_main-requires-clause-written g c =
    let d = c.requires in
    (c.in_ok-reach_main.ensures.driven d.0 d.1 d.2 d.3).1

pub returns-clause-driven : goal.returns-clause-driven
returns-clause-driven g c = λ start whole old d. c.read_main.ensures.driven start whole old (c.in_ok-reach_main.ensures.driven start whole old d).0
