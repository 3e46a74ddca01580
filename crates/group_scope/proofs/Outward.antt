-- One group further out.
use Rattle.std.proofs.Common.{◌≡◌, ℕ, zero, suc, ◌-◌, ◌≤◌, List, ◌∷◌, Option, Some, Result, Ok, Err, IfOk, ap, sym, ◌∙◌, arith}
use Rattle.std.specs.List.{flat_map}
use Rattle.sheet_model.specs.Groups.{around_parent, parent_of}
use Rattle.group_scope.specs.Asking.{Asked, outer_groups, ranks_around, ranks_of_home, within_of}
use Rattle.group_scope.specs.Rank.{improved}
use Rattle.group_scope.specs.declared.key.Test.{Test}
use Rattle.group_scope.specs.declared.rank.Category.TheVariants.{Around}
use Rattle.group_scope.specs.declared.rank.Rank.{Rank}
use Rattle.group_scope.specs.declared.rows.Rows.{Rows}
use Rattle.group_scope.proofs.Turns.{improved-append}

pub if_ok : {A E : Type 0} (r : Result A E) (P Q : A → Type 0) → ((a : A) → P a → Q a) → IfOk r P → IfOk r Q
if_ok (Ok a) P Q f h = f a h
if_ok (Err e) P Q f h = h

pub around_more : (q : Asked) (rows : Rows) (tests : List (Option Test)) (levels fewer group outer : ℕ) (best best' : Option Rank)
    → 1 ≤ levels → fewer ≡ levels - 1 → parent_of q.sheet.groups group ≡ Some outer
    → best' ≡ improved best (ranks_of_home q rows tests Around (within_of outer))
    → improved best' (ranks_around q rows tests fewer outer) ≡ improved best (ranks_around q rows tests levels group)
around_more q rows tests zero fewer group outer best best' some is of_group so_far = absurd (omega arith)
around_more q rows tests (suc n) fewer group outer best best' some is of_group so_far =
    let one_less : fewer ≡ n = omega arith in
    let of_home = ranks_of_home q rows tests Around (within_of outer) in
    ap (λ k. improved best' (ranks_around q rows tests k outer)) one_less
    ∙ ap (λ b. improved b (ranks_around q rows tests n outer)) so_far
    ∙ sym (improved-append best of_home (ranks_around q rows tests n outer))
    ∙ ap (λ o. improved best (flat_map (λ p. ranks_of_home q rows tests Around (within_of p)) (around_parent (λ p. p ∷ outer_groups q.sheet.groups n p) o))) (sym of_group)
