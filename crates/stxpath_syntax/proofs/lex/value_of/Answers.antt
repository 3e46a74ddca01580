use Rattle.std.proofs.Common.{◌≡◌, ℕ, ◌+◌, ◌*◌, ◌-◌, ◌^◌, lit≤, ◌<◌, ◌≤◌, Bool, true, false, cond, nat_lt, List, length, take, get_or, Some, None, sym, ◌∙◌, ap, refl, arith}
use Rattle.std.specs.Char.{digit_value}
use Rattle.std.specs.Str.Parse.{digits_value}
use Rattle.std.proofs.lemmas.Bool.Decides.{nat_tests}
use Rattle.std.proofs.lemmas.Int.Digits.{digits_value_push}
use Rattle.std.proofs.lemmas.List.{take_more, take_all}
use Rattle.std.proofs.lemmas.Str.Parse.{digits_value-take-le}
use Rattle.stxpath_syntax.proofs.lex.value_of.Goals as goal

is_more : (ds : List ℕ) (i d v : ℕ) → i < length ds → d ≡ get_or ds i d → v ≡ digits_value 10 (take i ds)
    → v * 10 + digit_value d ≡ digits_value 10 (take (i + 1) ds)
is_more ds i d v l e f =
    let whole = ap (digits_value 10) (take_more ds i d l) ∙ digits_value_push 10 (take i ds) (get_or ds i d) in
    ap (λ v. v * 10 + digit_value d) f ∙ ap (λ c. digits_value 10 (take i ds) * 10 + digit_value c) e ∙ sym whole

none_over : (b : Bool) (x : ℕ) → None ≡ cond b None (Some x) → b ≡ true
none_over true x e = refl
none_over false x e = cc

some_within : (b : Bool) (x v : ℕ) → Some v ≡ cond b None (Some x) → (b ≡ false) × (v ≡ x)
some_within true x v e = cc
some_within false x v e = (refl, cc)

over : (m a b : ℕ) → nat_lt m a ≡ true → a ≤ b → nat_lt m b ≡ true
over m a b e l = grind (arith, nat_tests)

kept : (m v n : ℕ) → v ≡ n → nat_lt m v ≡ false → Some v ≡ cond (nat_lt m n) None (Some n)
kept m v n e l = let l' : nat_lt m n ≡ false = ap (nat_lt m) (sym e) ∙ l in rw l' (ap Some e)

pub returns-in_err-value : goal.returns-in_err-value
returns-in_err-value c =
    let ds = c.args.digits.now in
    let i = c.loop-digit.digit-index in
    let more = is_more ds i c.digit-item.result c.loop-digit.value c.loop-digit-test.true c.digit-item.is c.loop-digit.invariant.0 in
    let big = none_over _ _ c.in_err-value.ensures in
    let n = c.loop-digit.value * 10 + digit_value c.digit-item.result in
    let below : n ≤ digits_value 10 ds = omega (arith, more, digits_value-take-le 10 ds (i + 1) (lit≤ tt)) in
    let larger = over (2 ^ 63 - 1) n (digits_value 10 ds) big below in
    rw larger c.from_residual.ensures

pub loop-digit-preserved : goal.loop-digit-preserved
loop-digit-preserved c =
    let ds = c.args.digits.now in
    let i = c.loop-digit.digit-index in
    let more = is_more ds i c.digit-item.result c.loop-digit.value c.loop-digit-test.true c.digit-item.is c.loop-digit.invariant.0 in
    let within = some_within _ _ _ c.in_ok-value.ensures in
    (within.1 ∙ more, rw within.1 within.0)

pub returns : goal.returns
returns c =
    let ds = c.args.digits.now in
    let all : take c.loop-digit.digit-index ds ≡ ds = take_all c.loop-digit.digit-index ds (omega arith) in
    let same : c.loop-digit.value ≡ digits_value 10 ds = c.loop-digit.invariant.0 ∙ ap (digits_value 10) all in
    kept (2 ^ 63 - 1) c.loop-digit.value (digits_value 10 ds) same c.loop-digit.invariant.1
