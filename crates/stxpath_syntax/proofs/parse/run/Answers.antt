use Rattle.std.proofs.Common.{[], ◌<◌, ◌^◌, length, sym, refl, subst}
use Rattle.stxpath_syntax.specs.Machine.{run}
use Rattle.stxpath_syntax.proofs.Counts.{run_can_count}
use Rattle.stxpath_syntax.proofs.Looping.{run_on}
use Rattle.stxpath_syntax.proofs.parse.run.Goals as goal

pub tokens-init : goal.tokens-init
unfolding run
tokens-init c = ([], sym c.from_list-rest.ensures.value, refl)

pub tokens-preserved : goal.tokens-preserved
tokens-preserved c =
    run_on c.args.dialect c.args.scope.now c.args.begun c.args.tokens c.tokens.rest c.pop.new.self c.in-Some.placed c.tokens.state c.in_ok-state.state
    c.tokens.invariant c.in-Some.ensures c.in_ok-state.ensures

pub next-requires : goal.next-requires
next-requires c =
    run_can_count c.args.dialect c.args.scope.now c.args.begun c.args.tokens c.tokens.rest c.pop.new.self c.in-Some.placed c.tokens.state
    c.requires (subst (λ ts. length ts < 2 ^ 64) c.from_list-rest.ensures.value c.from_list-rest.ensures.size) c.tokens.invariant c.in-Some.ensures
