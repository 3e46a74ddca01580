-- Operations that cost nothing come to an end.
use Rattle.std.proofs.Common.{◌≡◌, ℕ, zero, suc, ◌+◌, ◌-◌, ◌<◌, ◌≤◌, Bool, true, false, List, [], ◌∷◌, length, Option, Some, None, refl, ap, sym, subst, ◌∙◌, arith}
use Rattle.std.specs.Prelude.{if◌then◌else◌, max, nat_lt}
use Rattle.std.specs.List.{slice_get}
use Rattle.std.specs.Option.{option_map}
use Rattle.std.proofs.lemmas.Bool.{lt-ltb, ltb-false, ltb-true}
use Rattle.std.proofs.lemmas.Option.{slice_get_within}
use Rattle.instr_code.specs.declared.code.Code.{Code}
use Rattle.instr_code.specs.declared.code.Op.{Op}
use Rattle.instr_code.specs.declared.code.Op.TheVariants as op
use Rattle.sheet_model.specs.declared.sheet.Sheet.{Sheet}
use Rattle.template_machine.specs.Contexts.{Asks, Choices, Context, Falls, Form, HasForm, HasStations, IsAt, Station, form_of}
use Rattle.template_machine.specs.Work.{free, free_at, is_choices}

-- Stations of lower ranks.

abbrev lower : ℕ → List Station → ℕ
lower r [] = 0
lower r (x ∷ xs) = if nat_lt x.rank r then suc (lower r xs) else lower r xs

lower_some : (b : Bool) (n : ℕ) → n ≤ (if b then suc n else n)
lower_some true n = omega arith
lower_some false n = omega arith

lower_all : (r : ℕ) (xs : List Station) → lower r xs ≤ length xs
lower_all r [] = omega arith
lower_all r (x ∷ xs) = by (nat_lt x.rank r) (lower_all r xs)
  where
    by : (b : Bool) → lower r xs ≤ length xs → (if b then suc (lower r xs) else lower r xs) ≤ suc (length xs)
    by true h = omega (arith, h)
    by false h = omega (arith, h)

lower_more : (q r : ℕ) (xs : List Station) → q ≤ r → lower q xs ≤ lower r xs
lower_more q r [] less = omega arith
lower_more q r (x ∷ xs) less = by (nat_lt x.rank q) refl (nat_lt x.rank r) refl (lower_more q r xs less)
  where
    by : (b : Bool) → nat_lt x.rank q ≡ b → (d : Bool) → nat_lt x.rank r ≡ d → lower q xs ≤ lower r xs
        → (if b then suc (lower q xs) else lower q xs) ≤ (if d then suc (lower r xs) else lower r xs)
    by true e true f h = omega (arith, h)
    by true e false f h = absurd (omega (arith, ltb-true x.rank q e, ltb-false x.rank r f, less))
    by false e d f h = omega (arith, h, lower_some d (lower r xs))

-- one that is there is lower than those above it, and not than itself
lower_there : (r : ℕ) (xs : List Station) (k : ℕ) (x : Station) → slice_get xs k ≡ Some x → x.rank < r → suc (lower x.rank xs) ≤ lower r xs
lower_there r [] k x is less = absurd (cc)
lower_there r (y ∷ ys) zero x is less =
    let same : y ≡ x = cc in
    let above : nat_lt y.rank r ≡ true = lt-ltb y.rank r (subst (λ (z : Station). z.rank < r) (sym same) less) in
    let itself : nat_lt y.rank x.rank ≡ false = not_below (nat_lt y.rank x.rank) refl (ap (λ (z : Station). z.rank) same) in
    let left : lower x.rank (y ∷ ys) ≡ lower x.rank ys = ap (λ b. if b then suc (lower x.rank ys) else lower x.rank ys) itself in
    let right : lower r (y ∷ ys) ≡ suc (lower r ys) = ap (λ b. if b then suc (lower r ys) else lower r ys) above in
    omega (arith, left, right, lower_more x.rank r ys (omega (arith, less)))
  where
    not_below : (b : Bool) → nat_lt y.rank x.rank ≡ b → y.rank ≡ x.rank → nat_lt y.rank x.rank ≡ false
    not_below true e same = absurd (omega (arith, ltb-true y.rank x.rank e, same))
    not_below false e same = e
lower_there r (y ∷ ys) (suc k) x is less =
    by (nat_lt y.rank x.rank) refl (nat_lt y.rank r) refl (lower_there r ys k x is less)
  where
    by : (b : Bool) → nat_lt y.rank x.rank ≡ b → (d : Bool) → nat_lt y.rank r ≡ d → suc (lower x.rank ys) ≤ lower r ys
        → suc (if b then suc (lower x.rank ys) else lower x.rank ys) ≤ (if d then suc (lower r ys) else lower r ys)
    by true e true f h = omega (arith, h)
    by true e false f h = absurd (omega (arith, ltb-true y.rank x.rank e, ltb-false y.rank r f, less))
    by false e d f h = omega (arith, h, lower_some d (lower r ys))

-- As many operations cost nothing, at most.
module _ (code : Code) where
  pub free_few : (n place : ℕ) → free code n place ≤ n
  free_few zero place = omega arith
  free_few (suc n) place = by (slice_get code.ops place) (free_few n)
    where
      either : (b : Bool) (x y : ℕ) → x ≤ n → y ≤ n → (if b then suc (max x y) else 0) ≤ suc n
      either true x y h k = omega (arith, h, k)
      either false x y h k = omega arith

      by : (o : Option Op) → ((place : ℕ) → free code n place ≤ n) → free_at code (free code n) place o ≤ suc n
      by None h = omega arith
      by (Some (op.Do k)) h = omega arith
      by (Some (op.Begin k)) h = omega arith
      by (Some (op.Open k to)) h = omega arith
      by (Some (op.Close k)) h = omega (arith, h (place + 1))
      by (Some (op.Test k arm to)) h =
          either (is_choices (option_map form_of (slice_get code.instrs k))) (free code n (place + 1)) (free code n to) (h (place + 1)) (h to)
      by (Some (op.Turn k to)) h = omega arith
      by (Some (op.Jump to)) h = omega (arith, h to)
      by (Some (op.Drop count)) h = omega (arith, h (place + 1))
      by (Some op.Return) h = omega arith

module _ (code : Code) (stations : List Station) (sheet : Sheet) (stand : HasStations code stations sheet) where
  -- where a step leads that costs nothing
  falls_lower : (r place : ℕ) (c : Context) → Falls stations r place c → (q : ℕ) × ((IsAt stations place c q) × (suc (lower q stations) ≤ lower r stations))
  falls_lower r place c f = (f.0, (f.1.0, lower_there r stations place (record { context = c; rank = f.0 }) f.1.0 f.1.1))

  -- what is free at a place is the same by what is free at those to which it leads
  test_same : (f g : ℕ → ℕ) (place to : ℕ) (o : Option Form) (x : Form) → o ≡ Some x → ((b : ℕ) → x ≡ Choices b → (f (place + 1) ≡ g (place + 1)) × (f to ≡ g to))
      → (if is_choices o then suc (max (f (place + 1)) (f to)) else 0) ≡ (if is_choices o then suc (max (g (place + 1)) (g to)) else 0)
  test_same f g place to None x e h = refl
  test_same f g place to (Some (Choices b)) x e h =
      let same : x ≡ Choices b = cc in
      let s = h b same in
      ap (λ k. suc (max k (f to))) s.0 ∙ ap (λ k. suc (max (g (place + 1)) k)) s.1
  test_same f g place to (Some y) x e h = refl

  at_same : (f g : ℕ → ℕ) (place rank : ℕ) (c : Context) → IsAt stations place c rank
      → ((to q : ℕ) (d : Context) → IsAt stations to d q → suc (lower q stations) ≤ lower rank stations → f to ≡ g to)
      → (o : Option Op) → slice_get code.ops place ≡ o → free_at code f place o ≡ free_at code g place o
  at_same f g place rank c at h (Some (op.Close n)) e =
      let l = stand.leads place (op.Close n) c rank e at in
      let k = falls_lower rank (place + 1) l.1.2.0 l.1.2.1.1 in
      ap suc (h (place + 1) k.0 l.1.2.0 k.1.0 k.1.1)
  at_same f g place rank c at h (Some (op.Jump to)) e =
      let k = falls_lower rank to c (stand.leads place (op.Jump to) c rank e at) in ap suc (h to k.0 c k.1.0 k.1.1)
  at_same f g place rank c at h (Some (op.Drop count)) e =
      let l = stand.leads place (op.Drop count) c rank e at in
      let k = falls_lower rank (place + 1) l.0 l.1.1.2 in
      ap suc (h (place + 1) k.0 l.0 k.1.0 k.1.1)
  at_same f g place rank c at h (Some (op.Test n arm to)) e =
      let l = stand.leads place (op.Test n arm to) c rank e at in
      test_same f g place to (option_map form_of (slice_get code.instrs n)) l.0 l.1.0
      (λ b is.
      let a : Asks code stations (Choices b) arm to place c rank = subst (λ x. Asks code stations x arm to place c rank) is l.1.1 in
      let k = falls_lower rank (place + 1) c a.1 in
      let m = falls_lower rank to c a.2 in
      (h (place + 1) k.0 c k.1.0 k.1.1, h to m.0 c m.1.0 m.1.1))
  at_same f g place rank c at h o e = refl

  none_test : (x y : ℕ) (o : Option Form) (z : Form) → o ≡ Some z → ((b : ℕ) → z ≡ Choices b → ⊥) → (if is_choices o then suc (max x y) else 0) ≡ 0
  none_test x y None z e h = refl
  none_test x y (Some (Choices b)) z e h = let same : z ≡ Choices b = cc in absurd (h b same)
  none_test x y (Some w) z e h = refl

  -- at a place of the lowest rank nothing is free
  at_none : (f : ℕ → ℕ) (place rank : ℕ) (c : Context) → IsAt stations place c rank → lower rank stations ≤ 0 → (o : Option Op) → slice_get code.ops place ≡ o
      → free_at code f place o ≡ 0
  at_none f place rank c at few (Some (op.Close n)) e =
      let l = stand.leads place (op.Close n) c rank e at in
      let k = falls_lower rank (place + 1) l.1.2.0 l.1.2.1.1 in
      absurd (omega (arith, k.1.1, few))
  at_none f place rank c at few (Some (op.Jump to)) e =
      let k = falls_lower rank to c (stand.leads place (op.Jump to) c rank e at) in absurd (omega (arith, k.1.1, few))
  at_none f place rank c at few (Some (op.Drop count)) e =
      let l = stand.leads place (op.Drop count) c rank e at in
      let k = falls_lower rank (place + 1) l.0 l.1.1.2 in
      absurd (omega (arith, k.1.1, few))
  at_none f place rank c at few (Some (op.Test n arm to)) e =
      let l = stand.leads place (op.Test n arm to) c rank e at in
      none_test (f (place + 1)) (f to) (option_map form_of (slice_get code.instrs n)) l.0 l.1.0
      (λ b is.
      let a : Asks code stations (Choices b) arm to place c rank = subst (λ x. Asks code stations x arm to place c rank) is l.1.1 in
      let k = falls_lower rank to c a.2 in
      omega (arith, k.1.1, few))
  at_none f place rank c at few o e = refl

  -- from a place on no more are free than stations have lower ranks
  stable : (n place rank : ℕ) (c : Context) → IsAt stations place c rank → lower rank stations ≤ n → free code (suc n) place ≡ free code n place
  stable zero place rank c at few = at_none (free code 0) place rank c at few (slice_get code.ops place) refl
  stable (suc n) place rank c at few =
      at_same (free code (suc n)) (free code n) place rank c at (λ to q d there less. stable n to q d there (omega (arith, less, few))) (slice_get code.ops place) refl

  -- A step that costs nothing.
  falls_from : (place rank : ℕ) (o : Op) (to q : ℕ) (d : Context) → slice_get code.ops place ≡ Some o → IsAt stations to d q
      → suc (lower q stations) ≤ lower rank stations → ((n : ℕ) → suc (free code n to) ≤ free_at code (free code n) place (Some o))
      → free code (length code.ops) to < free code (length code.ops) place
  falls_from place rank o to q d is there less more =
      let k = length code.ops - 1 in
      let long : length code.ops ≡ suc k = omega (arith, slice_get_within code.ops place o is) in
      let here : free code (length code.ops) place ≡ free_at code (free code k) place (Some o) =
      ap (λ n. free code n place) long ∙ ap (free_at code (free code k) place) is in
      let on : free code (length code.ops) to ≡ free code k to =
      ap (λ n. free code n to) long ∙ stable k to q d there (omega (arith, less, lower_all rank stations, stand.each, long)) in
      omega (arith, here, on, more k)

  pub close_falls : (place n rank : ℕ) (c : Context) → slice_get code.ops place ≡ Some (op.Close n) → IsAt stations place c rank
      → free code (length code.ops) (place + 1) < free code (length code.ops) place
  close_falls place n rank c is at =
      let l = stand.leads place (op.Close n) c rank is at in
      let k = falls_lower rank (place + 1) l.1.2.0 l.1.2.1.1 in
      falls_from place rank (op.Close n) (place + 1) k.0 l.1.2.0 is k.1.0 k.1.1 (λ m. omega arith)

  pub drop_falls : (place count rank : ℕ) (c : Context) → slice_get code.ops place ≡ Some (op.Drop count) → IsAt stations place c rank
      → free code (length code.ops) (place + 1) < free code (length code.ops) place
  drop_falls place count rank c is at =
      let l = stand.leads place (op.Drop count) c rank is at in
      let k = falls_lower rank (place + 1) l.0 l.1.1.2 in
      falls_from place rank (op.Drop count) (place + 1) k.0 l.0 is k.1.0 k.1.1 (λ m. omega arith)

  pub jump_falls : (place to rank : ℕ) (c : Context) → slice_get code.ops place ≡ Some (op.Jump to) → IsAt stations place c rank
      → free code (length code.ops) to < free code (length code.ops) place
  jump_falls place to rank c is at =
      let k = falls_lower rank to c (stand.leads place (op.Jump to) c rank is at) in
      falls_from place rank (op.Jump to) to k.0 c is k.1.0 k.1.1 (λ m. omega arith)

  test_more : (x y : ℕ) (o : Option Form) (b : ℕ) → o ≡ Some (Choices b)
      → (suc x ≤ (if is_choices o then suc (max x y) else 0)) × (suc y ≤ (if is_choices o then suc (max x y) else 0))
  test_more x y o b e =
      let is : (if is_choices o then suc (max x y) else 0) ≡ suc (max x y) = ap (λ k. if is_choices k then suc (max x y) else 0) e in
      (omega (arith, is), omega (arith, is))

  -- the test of a branch, to either side
  pub choice_falls : (place n arm to rank b : ℕ) (c : Context) → slice_get code.ops place ≡ Some (op.Test n arm to) → HasForm code n (Choices b) → IsAt stations place c rank
      → (free code (length code.ops) (place + 1) < free code (length code.ops) place) × (free code (length code.ops) to < free code (length code.ops) place)
  choice_falls place n arm to rank b c is has at =
      let l = stand.leads place (op.Test n arm to) c rank is at in
      let form : l.0 ≡ Choices b = one (sym l.1.0 ∙ has) in
      let a : Asks code stations (Choices b) arm to place c rank = subst (λ x. Asks code stations x arm to place c rank) form l.1.1 in
      let k = falls_lower rank (place + 1) c a.1 in
      let m = falls_lower rank to c a.2 in (
        falls_from place rank (op.Test n arm to) (place + 1) k.0 c is k.1.0 k.1.1
            (λ q. (test_more (free code q (place + 1)) (free code q to) (option_map form_of (slice_get code.instrs n)) b has).0),
        falls_from place rank (op.Test n arm to) to m.0 c is m.1.0 m.1.1
            (λ q. (test_more (free code q (place + 1)) (free code q to) (option_map form_of (slice_get code.instrs n)) b has).1),
      )
    where
      one : {x y : Form} → Some x ≡ Some y → x ≡ y
      one e = cc
