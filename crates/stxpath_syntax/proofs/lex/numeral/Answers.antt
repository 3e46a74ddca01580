use Rattle.std.proofs.Common.{◌≡◌, ℕ, zero, suc, ◌<◌, ◌≤◌, Bool, true, ◌&&◌, List, length, take, sym, ◌∙◌, ap, refl, arith, add-one}
use Rattle.std.specs.Char.{is_ascii_digit}
use Rattle.std.specs.List.{list_all, prefix_len}
use Rattle.std.proofs.lemmas.List.Folds.{list_all_more}
use Rattle.std.proofs.lemmas.List.Sums.{prefix_len_passes, prefix_len-le-length}
use Rattle.stxpath_syntax.proofs.lex.numeral.Goals as goal

both : (a b : Bool) → a ≡ true → b ≡ true → (a && b) ≡ true
both a b e f = rw e f

front_passes : (p : ℕ → Bool) (xs : List ℕ) (n : ℕ) → n ≤ prefix_len p xs → list_all p (take n xs) ≡ true
front_passes p xs zero h = refl
front_passes p xs (suc n) h =
    let l : n < length xs = omega (arith, prefix_len-le-length p xs) in
    ap (λ k. list_all p (take k xs)) (sym (add-one n)) ∙ list_all_more p xs n 0 l
    ∙ both _ _ (front_passes p xs n (omega arith)) (prefix_len_passes p xs n 0 (omega arith))

pub value_of-requires : goal.value_of-requires
value_of-requires c = front_passes is_ascii_digit c.args.text.now c.digits_len-n.result (omega (arith, c.digits_len-n.ensures.value))
