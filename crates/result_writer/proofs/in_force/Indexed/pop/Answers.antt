use Rattle.std.proofs.Common.{◌∙◌, rules}
use Rattle.result_writer.proofs.Index.{without, has-last}
use Rattle.result_writer.proofs.in_force.Indexed.pop.Goals as goal

pub invariant_of-self-in-None : goal.invariant_of-self-in-None
invariant_of-self-in-None c =
    let rest = without c.self.inside c.self.invariant c.pop.new.self c.in-Some.last c.in-Some.ensures c.remove.new.self c.as_str-prefix.result.now _ c.as_str-prefix.ensures.bytes c.in-None.is c.remove.ensures.updates in
    record { places = rest.0; hidden = rest.1 }

pub invariant_of-self-in-Some-get_mut : goal.invariant_of-self-in-Some-get_mut
invariant_of-self-in-Some-get_mut c =
    let rest = without c.self.inside c.self.invariant c.pop.new.self c.in-Some.last c.in-Some.ensures (c.get_mut.follows.lender c.in-Some-hidden.place) c.as_str-prefix.result.now _ c.as_str-prefix.ensures.bytes c.in-Some-hidden.is
    ((c.get_mut.follows.holds c.in-Some-hidden.place).3 (search rules)) in
    record { places = rest.0; hidden = rest.1 }

pub invariant_of-self-in_default-get_mut : goal.invariant_of-self-in_default-get_mut
invariant_of-self-in_default-get_mut c =
    let last = has-last c.self.inside c.self.invariant c.pop.new.self c.in-Some.last c.in-Some.ensures c.as_str-prefix.result.now c.as_str-prefix.ensures.bytes in
    let none = c.in_default-get_mut.ensures.value ∙ last in
    absurd (cc)
