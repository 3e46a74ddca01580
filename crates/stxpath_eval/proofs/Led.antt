-- Where no step leads.
use Rattle.std.proofs.Common.{◌≡◌, ℕ, ◌+◌, ◌≤◌, ◌<◌, Bool, true, false, ◌&&◌, ◌||◌, nat_le, List, [], ◌∷◌, length, get_or, drop, refl, ap, ◌∙◌, arith}
use Rattle.std.specs.List.{list_all, list_any}
use Rattle.std.proofs.lemmas.Bool.Decides.{nat_tests}
use Rattle.stxpath_eval.specs.Steps.{leads}
use Rattle.stxpath_syntax.specs.declared.expr.Link.{Link}
use Rattle.stxpath_eval.proofs.Loops.{next_is}
use Rattle.stxpath_eval.proofs.Shapes.{left_true, right_true}

neither : (a b : Bool) → a ≡ false → b ≡ false → (a || b) ≡ false
neither true b h k = cc
neither false b h k = k

-- none of the places leads where none that is no less than their bound does
pub none_led : (link : Link) (places : List ℕ) (lo p : ℕ) → list_all (nat_le lo) places ≡ true → ((from : ℕ) → lo ≤ from → leads link from p ≡ false)
    → list_any (λ from. leads link from p) places ≡ false
none_led link [] lo p all none = refl
none_led link (x ∷ xs) lo p all none =
    let test = left_true (nat_le lo x) (list_all (nat_le lo) xs) all in
    let low : lo ≤ x = grind (arith, nat_tests) in
    neither (leads link x p) (list_any (λ from. leads link from p) xs) (none x low)
    (none_led link xs lo p (right_true (nat_le lo x) (list_all (nat_le lo) xs) all) none)

pub one_led : (link : Link) (place p : ℕ) → leads link place p ≡ false → list_any (λ from. leads link from p) (place ∷ []) ≡ false
one_led link place p none = neither (leads link place p) false none refl

both : (a b : Bool) → a ≡ true → b ≡ true → (a && b) ≡ true
both true b h k = k
both false b h k = cc

-- one more that is no less
pub all_from : (b : ℕ) (xs : List ℕ) (i x : ℕ) → i < length xs → x ≡ get_or xs i x → b ≤ x → list_all (nat_le b) (drop (i + 1) xs) ≡ true → list_all (nat_le b) (drop i xs) ≡ true
all_from b xs i x h at low rest =
    let test : nat_le b x ≡ true = grind (arith, nat_tests) in
    ap (list_all (nat_le b)) (next_is xs i x h at) ∙ both (nat_le b x) (list_all (nat_le b) (drop (i + 1) xs)) test rest
