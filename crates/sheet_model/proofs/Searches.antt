-- One turn of each search for a numbered instruction.
use Rattle.std.proofs.Common.{◌≡◌, ℕ, zero, suc, ◌+◌, ◌<◌, ◌≤◌, List, [], ◌∷◌, ◌++◌, length, get_or, take, Some, refl, ap, sym, subst, ◌∙◌, arith, add-one, length-append}
use Rattle.std.proofs.lemmas.Grind.{flat_map-append}
use Rattle.std.proofs.lemmas.List.{append-nil}
use Rattle.std.specs.List.{flat_map, slice_get}
use Rattle.sheet_model.specs.Body.{all_of, body_nesting, children, in_order, nesting}
use Rattle.sheet_model.specs.Searching.{Searches}
use Rattle.sheet_model.specs.declared.find.Outcome.{Outcome}
use Rattle.sheet_model.specs.declared.find.Outcome.TheVariants.{Found, Behind}
use Rattle.sheet_model.specs.declared.instr.Instr.{Instr}
use Rattle.sheet_model.proofs.Lists.{flat_at, flat_more, got_behind}
use Rattle.sheet_model.proofs.Nests.{body_nesting-append, nesting_is, nests_within}

-- an instruction before those within it
abbrev led : ℕ → Instr → List Instr
led n i = i ∷ in_order n (children i)

no_levels : (body : List Instr) (i : ℕ) (x : Instr) → i < length body → x ≡ get_or body i x → ¬ (body_nesting body ≤ 0)
no_levels body i x h at none = omega (arith, nests_within body i x h at, nesting_is x)

-- the instruction of this turn has the number
pub found_here : (n : ℕ) (body : List Instr) (i : ℕ) (x : Instr) (number : ℕ) → i < length body → x ≡ get_or body i x → body_nesting body ≤ n
    → length (in_order n (take i body)) + 0 ≡ number → slice_get (in_order n body) number ≡ Some x
found_here zero body i x number h at deep is = absurd (no_levels body i x h at deep)
found_here (suc n) body i x number h at deep is =
    subst (λ k. slice_get (in_order (suc n) body) k ≡ Some x) is (flat_at (led n) body i x 0 x h at refl)

-- one within it has the number
pub found_within : (n : ℕ) (body : List Instr) (i : ℕ) (x : Instr) (number less : ℕ) (y : Instr) → i < length body → x ≡ get_or body i x
    → body_nesting body ≤ n → length (in_order n (take i body)) + (less + 1) ≡ number
    → ((m : ℕ) → nesting x ≤ suc m → slice_get (in_order m (children x)) less ≡ Some y) → slice_get (in_order n body) number ≡ Some y
found_within zero body i x number less y h at deep is found = absurd (no_levels body i x h at deep)
found_within (suc n) body i x number less y h at deep is found =
    let within : nesting x ≤ suc n = omega (arith, nests_within body i x h at) in
    subst (λ k. slice_get (in_order (suc n) body) k ≡ Some y) is
    (flat_at (led n) body i x (less + 1) y h at (subst (λ k. slice_get (led n x) k ≡ Some y) (sym (add-one less)) (found n within)))

-- neither it nor one within it has the number
pub found_on : (n : ℕ) (body : List Instr) (i : ℕ) (x : Instr) (number less behind : ℕ) → i < length body → x ≡ get_or body i x
    → body_nesting body ≤ n → length (in_order n (take i body)) + (less + 1) ≡ number
    → ((m : ℕ) → nesting x ≤ suc m → length (in_order m (children x)) + behind ≡ less) → length (in_order n (take (i + 1) body)) + behind ≡ number
found_on zero body i x number less behind h at deep is passed = absurd (no_levels body i x h at deep)
found_on (suc n) body i x number less behind h at deep is passed =
    let within : nesting x ≤ suc n = omega (arith, nests_within body i x h at) in
    omega (arith, flat_more (led n) body i x h at, passed n within)

pub in_order-append : (n : ℕ) (a b : List Instr) → in_order n (a ++ b) ≡ in_order n a ++ in_order n b
in_order-append zero a b = refl
in_order-append (suc n) a b = flat_map-append (led n) a b

pub in_order-flat : {A : Type 0} (n : ℕ) (g : A → List Instr) (xs : List A) → in_order n (flat_map g xs) ≡ flat_map (λ x. in_order n (g x)) xs
in_order-flat zero g [] = refl
in_order-flat zero g (x ∷ xs) = in_order-flat zero g xs
in_order-flat (suc n) g [] = refl
in_order-flat (suc n) g (x ∷ xs) = flat_map-append (led n) (g x) (flat_map g xs) ∙ ap (λ l. in_order (suc n) (g x) ++ l) (in_order-flat (suc n) g xs)

-- in bodies one behind another, one instruction of this turn's body has the number
pub found_in_body : {A : Type 0} (n : ℕ) (g : A → List Instr) (xs : List A) (i : ℕ) (x : A) (number left : ℕ) (y : Instr) → i < length xs → x ≡ get_or xs i x
    → length (flat_map (λ x. in_order n (g x)) (take i xs)) + left ≡ number → slice_get (in_order n (g x)) left ≡ Some y
    → slice_get (flat_map (λ x. in_order n (g x)) xs) number ≡ Some y
found_in_body n g xs i x number left y h at is found =
    subst (λ k. slice_get (flat_map (λ x. in_order n (g x)) xs) k ≡ Some y) is (flat_at (λ x. in_order n (g x)) xs i x left y h at found)

-- or none has it
pub found_behind_body : {A : Type 0} (n : ℕ) (g : A → List Instr) (xs : List A) (i : ℕ) (x : A) (number left behind : ℕ) → i < length xs → x ≡ get_or xs i x
    → length (flat_map (λ x. in_order n (g x)) (take i xs)) + left ≡ number → length (in_order n (g x)) + behind ≡ left
    → length (flat_map (λ x. in_order n (g x)) (take (i + 1) xs)) + behind ≡ number
found_behind_body n g xs i x number left behind h at is passed = omega (arith, flat_more (λ x. in_order n (g x)) xs i x h at)

-- a search that passed one list goes on in the next
pub goes_on : (a b : List Instr) (number left : ℕ) (o : Outcome) → length a + left ≡ number → Searches b left o → Searches (a ++ b) number o
goes_on a b number left (Found i) is found = subst (λ k. slice_get (a ++ b) k ≡ Some i.now) is (got_behind a b left i.now found)
goes_on a b number left (Behind k) is passed = omega (arith, length-append a b, passed)

nothing : (n : ℕ) → in_order n [] ≡ []
nothing zero = refl
nothing (suc n) = refl

-- as many levels as there are give all
enough : (n m : ℕ) (body : List Instr) → body_nesting body ≤ n → body_nesting body ≤ m → in_order n body ≡ in_order m body
enough n m [] p q = nothing n ∙ sym (nothing m)
enough zero m (i ∷ body) p q = absurd (omega (arith, nesting_is i))
enough (suc n) zero (i ∷ body) p q = absurd (omega (arith, nesting_is i))
enough (suc n) (suc m) (i ∷ body) p q =
    ap (λ l. (i ∷ l) ++ in_order (suc n) body) (enough n m (children i) (omega (arith, nesting_is i)) (omega (arith, nesting_is i)))
    ∙ ap (λ l. (i ∷ in_order m (children i)) ++ l) (enough (suc n) (suc m) body (omega arith) (omega arith))

pub all_of-append : (a b : List Instr) → all_of (a ++ b) ≡ all_of a ++ all_of b
all_of-append a b =
    let most = body_nesting-append a b in
    in_order-append (body_nesting (a ++ b)) a b
    ∙ ap (λ l. l ++ in_order (body_nesting (a ++ b)) b) (enough (body_nesting (a ++ b)) (body_nesting a) a (omega arith) (omega arith))
    ∙ ap (λ l. all_of a ++ l) (enough (body_nesting (a ++ b)) (body_nesting b) b (omega arith) (omega arith))

single : (n : ℕ) (i : Instr) → nesting i ≤ n → in_order n (i ∷ []) ≡ i ∷ all_of (children i)
single zero i p = absurd (omega (arith, nesting_is i))
single (suc n) i p =
    append-nil (i ∷ in_order n (children i))
    ∙ ap (λ l. i ∷ l) (enough n (body_nesting (children i)) (children i) (omega (arith, nesting_is i)) (omega arith))

pub all_of-single : (i : Instr) → all_of (i ∷ []) ≡ i ∷ all_of (children i)
all_of-single i = single (body_nesting (i ∷ [])) i (omega arith)
