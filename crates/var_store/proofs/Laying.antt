-- Laws of the copies.
use Rattle.std.proofs.Common.{◌≡◌, zero, suc, List, [], ◌∷◌, refl, ap, arith}
use Rattle.var_store.specs.Copies.{below, on_newest}
use Rattle.var_store.specs.Laws.{LaidOverAndTakenOff, OlderStaysAsItWas, OtherGroupsStay}
use Rattle.var_store.specs.declared.bound.Bound.{Bound}

pub laid_over_and_taken_off : LaidOverAndTakenOff
laid_over_and_taken_off [] group f lt = absurd (omega arith)
laid_over_and_taken_off (copies ∷ store) zero f lt = refl
laid_over_and_taken_off (copies ∷ store) (suc group) f lt =
    ap (λ s. copies ∷ s) (laid_over_and_taken_off store group f (omega arith))

below_stays : (f : List Bound → List Bound) (copies : List (List Bound)) → below (on_newest f copies) ≡ below copies
below_stays f [] = refl
below_stays f (copy ∷ copies) = refl

pub older_stays : OlderStaysAsItWas
older_stays [] group f = refl
older_stays (copies ∷ store) zero f = below_stays f copies
older_stays (copies ∷ store) (suc group) f = older_stays store group f

pub other_groups_stay : OtherGroupsStay
other_groups_stay [] group other f apart = refl
other_groups_stay (copies ∷ store) zero zero f apart = absurd (apart refl)
other_groups_stay (copies ∷ store) zero (suc other) f apart = refl
other_groups_stay (copies ∷ store) (suc group) zero f apart = refl
other_groups_stay (copies ∷ store) (suc group) (suc other) f apart =
    other_groups_stay store group other f (λ e. apart (ap suc e))
