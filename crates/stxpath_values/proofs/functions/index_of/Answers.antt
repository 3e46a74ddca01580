use Rattle.std.proofs.Common.{◌≡◌, Ok, arith, rules, map, pos}
use Rattle.stx_base.specs.declared.expression.Cmp.TheVariants.{Eq}
use Rattle.stxpath_values.specs.declared.value.Atom.TheVariants.{Whole}
use Rattle.stxpath_values.specs.Conversion.{as_one}
use Rattle.stxpath_values.specs.Comparison.{pair_holds}
use Rattle.stxpath_values.specs.Functions.{limited_list}
use Rattle.stxpath_values.specs.Lent.{atom_of, atoms_of}
use Rattle.stxpath_values.specs.Outcome.{each}
use Rattle.stxpath_values.specs.Places.{places_of}
use Rattle.stxpath_values.proofs.OutcomeLemmas.{and_then_ok, fault_answered, list_within, list_beyond}
use Rattle.stxpath_values.proofs.functions.index_of.Goals as goal

pub returns-in_err-made : goal.returns-in_err-made
returns-in_err-made c =
    let a : Ok (atom_of c.in_ok-one.one) ≡ as_one (atoms_of c.args.one) = c.in_ok-one.ensures in
    rw (← a) (fault_answered (each (λ y. pair_holds Eq y (atom_of c.in_ok-one.one)) (atoms_of c.args.items)) (λ holds. map (λ p. Whole (pos p)) (places_of holds)) (limited_list c.args.limits.now)
    c.in_err-made.field-0.0 c.from_residual-in_err-made.result (let f = c.from_residual-in_err-made.ensures in search rules) c.in_err-made.ensures)

pub returns-then-len-limits : goal.returns-then-len-limits
returns-then-len-limits c =
    let a : Ok (atom_of c.in_ok-one.one) ≡ as_one (atoms_of c.args.one) = c.in_ok-one.ensures in
    let e = and_then_ok (each (λ y. pair_holds Eq y (atom_of c.in_ok-one.one)) (atoms_of c.args.items)) (λ holds. map (λ p. Whole (pos p)) (places_of holds)) (limited_list c.args.limits.now) c.in_ok-made.made c.in_ok-made.ensures in
    rw (← a, e) (list_beyond c.args.limits.now c.in_ok-made.made (omega (arith, c.len.ensures.value, c.if-len-limits.true)))

pub returns : goal.returns
returns c =
    let a : Ok (atom_of c.in_ok-one.one) ≡ as_one (atoms_of c.args.one) = c.in_ok-one.ensures in
    let e = and_then_ok (each (λ y. pair_holds Eq y (atom_of c.in_ok-one.one)) (atoms_of c.args.items)) (λ holds. map (λ p. Whole (pos p)) (places_of holds)) (limited_list c.args.limits.now) c.in_ok-made.made c.in_ok-made.ensures in
    rw (← a, e) (list_within c.args.limits.now c.in_ok-made.made (omega (arith, c.len.ensures.value, c.if-len-limits.false)))
