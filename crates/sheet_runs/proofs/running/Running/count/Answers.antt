use Rattle.std.proofs.Common.{◌+◌, [], ◌∷◌, ◌++◌, ap, ◌∙◌}
use Rattle.sheet_runs.specs.declared.other.Other.{Other}
use Rattle.sheet_runs.proofs.Lasts.{last-item, set-last}
use Rattle.sheet_runs.proofs.running.Running.count.Goals as goal

pub returns-clause-more : goal.returns-clause-more
returns-clause-more c = λ front o is.
    let others = c.args.self.now.others in
    let e = c.in-Some.other.now in
    set-last others.items front o others.len is others.ok.0 (record e { read = e.read + c.args.got })
    ∙ ap (λ (x : Other). front ++ record x { read = x.read + c.args.got } ∷ []) (last-item others.items front o others.len is others.ok.0 e c.in-Some.ensures.item.1)
