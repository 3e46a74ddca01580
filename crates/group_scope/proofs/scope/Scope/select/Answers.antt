use Rattle.std.proofs.Common.{option_map, ap, refl}
use Rattle.std.proofs.lemmas.Bool.{OnFalse_at}
use Rattle.node_stack.specs.Open.{node_of}
use Rattle.node_stack.specs.Stack.{path}
use Rattle.group_scope.specs.Choice.{chosen_of}
use Rattle.group_scope.proofs.Last.{current_last}
use Rattle.group_scope.proofs.Rowless.{none_chosen}
use Rattle.group_scope.proofs.scope.Scope.select.Goals as goal

pub returns-then-not-may_have : goal.returns-then-not-may_have
returns-then-not-may_have g c =
    let p = path c.args.stack.now in
    let n = node_of c.current.result in
    ap (option_map chosen_of)
    (none_chosen c.args.sheet.now c.args.base c.args.active.now (g.G.GroupVars.seen c.args.vars.now) c.args.limits.now p c.args.self.now n _
    (current_last p n c.current.ensures) c.requires.built refl (OnFalse_at c.if-not-may_have.true c.may_have.ensures))
