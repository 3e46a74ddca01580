use Rattle.std.proofs.Common.{◌≤◌}
use Rattle.std.specs.Prelude.{string_capacity, option_to_list}
use Rattle.stx_base.proofs.SpareLemmas.{left_within}
use Rattle.stx_base.proofs.spare.Spare.text.Goals as goal

pub invariant_of-self-in_err-push_str : goal.invariant_of-self-in_err-push_str
invariant_of-self-in_err-push_str c =
    let p = left_within string_capacity (λ room. (64 ≤ room) × (room ≤ 256)) 1024 c.self.inside.strings.items c.pop.new.self.items (option_to_list c.pop.result) c.pop.ensures.items c.self.invariant.0 c.self.invariant.1 in
    (p.0, p.1, c.self.invariant.2, c.self.invariant.3)

pub returns-in_err-push_str-clause-bounded : goal.returns-in_err-push_str-clause-bounded
returns-in_err-push_str-clause-bounded c =
    let p = left_within string_capacity (λ room. (64 ≤ room) × (room ≤ 256)) 1024 c.self.inside.strings.items c.pop.new.self.items (option_to_list c.pop.result) c.pop.ensures.items c.self.invariant.0 c.self.invariant.1 in
    (p.0, p.1, c.self.invariant.2, c.self.invariant.3)

pub invariant_of-self-2 : goal.invariant_of-self-2
invariant_of-self-2 c =
    let p = left_within string_capacity (λ room. (64 ≤ room) × (room ≤ 256)) 1024 c.self.inside.strings.items c.pop.new.self.items (option_to_list c.pop.result) c.pop.ensures.items c.self.invariant.0 c.self.invariant.1 in
    (p.0, p.1, c.self.invariant.2, c.self.invariant.3)

pub returns-clause-bounded : goal.returns-clause-bounded
returns-clause-bounded c =
    let p = left_within string_capacity (λ room. (64 ≤ room) × (room ≤ 256)) 1024 c.self.inside.strings.items c.pop.new.self.items (option_to_list c.pop.result) c.pop.ensures.items c.self.invariant.0 c.self.invariant.1 in
    (p.0, p.1, c.self.invariant.2, c.self.invariant.3)
