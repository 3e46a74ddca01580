use Rattle.std.proofs.Common.{◌≡◌, ◌+◌, ◌+ℤ◌, Ok, get_or, length, ◌<◌, arith, rules, sym, ap, ◌∙◌, subst, drop}
use Rattle.std.specs.Int.{w64, w128}
use Rattle.std.specs.Prelude.{FitsSigned, ℤ}
use Rattle.std.proofs.lemmas.Int.{ints}
use Rattle.std.proofs.Math.Facts.{to_z-of_z}
use mir.Val.{to_z, of_z}
use Rattle.stxpath_values.specs.Outcome.{and_then, each}
use Rattle.stxpath_values.specs.Conversion.{atom_whole}
use Rattle.stxpath_values.specs.Numeral.{whole}
use Rattle.stxpath_values.specs.Functions.{total}
use Rattle.stxpath_values.proofs.OutcomeLemmas.{sum_step}
use Rattle.stxpath_values.proofs.lists.sum.Goals as goal

pub loop-atom-preserved : goal.loop-atom-preserved
loop-atom-preserved c =
    let n = c.in_ok-sum.field-0 in
    let i = c.loop-atom.atom-index in
    let xs = c.args.atoms.now in
    let within : i < length xs = omega arith in
    let fits : FitsSigned w64 n = search rules in
    let wider : FitsSigned w128 n = search rules in
    let sum = to_z w128 c.loop-atom.sum-bits in
    let fits_sum : FitsSigned w128 (sum +ℤ n) = search rules in
    let same : to_z w128 (of_z w128 (sum +ℤ to_z w128 (of_z w128 (to_z w64 (of_z w64 n))))) ≡ sum +ℤ n =
    ap (λ a. to_z w128 (of_z w128 (sum +ℤ to_z w128 (of_z w128 a)))) (to_z-of_z {w = w64} {z = n} fits)
    ∙ ap (λ a. to_z w128 (of_z w128 (sum +ℤ a))) (to_z-of_z {w = w128} {z = n} wider)
    ∙ to_z-of_z {w = w128} {z = sum +ℤ n} fits_sum in
    let item : atom_whole (get_or xs i c.atom-item.result) ≡ Ok n = ap atom_whole (sym c.atom-item.is ∙ sym c.lent.ensures) ∙ sym c.in_ok-sum.ensures in
    record {
      value = subst (λ (s : ℤ). and_then (each atom_whole (drop (i + 1) xs)) (λ zs. whole (s +ℤ total zs)) ≡ and_then (each atom_whole xs) (λ zs. whole (total zs)))
          (sym same) (sum_step xs i c.atom-item.result sum n within item ∙ c.loop-atom.invariant.value);
      low = rw same (omega (arith, ints, c.loop-atom.invariant.low, fits));
      high = rw same (omega (arith, ints, c.loop-atom.invariant.high, fits));
    }
