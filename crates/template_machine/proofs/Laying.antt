-- Operations with their stations, one piece behind another.
use Rattle.std.proofs.Common.{◌≡◌, ℕ, zero, suc, ◌+◌, List, [], ◌∷◌, ◌++◌, length, Some, refl, ap, sym, subst, ◌∙◌, arith, length-append}
use Rattle.std.specs.List.{slice_get}
use Rattle.instr_code.specs.declared.code.Code.{Code}
use Rattle.instr_code.specs.declared.code.Op.{Op}
use Rattle.template_machine.specs.Contexts.{Context, IsAt, Leads, Station}

-- stations stand from a place on
abbrev pub Holds : (all : List Station) (place : ℕ) → List Station → Type 0
Holds all p [] = Unit {0}
Holds all p (x ∷ xs) = (slice_get all p ≡ Some x) × Holds all (p + 1) xs

pub holds_to : (all : List Station) (p q : ℕ) (xs : List Station) → p ≡ q → Holds all p xs → Holds all q xs
holds_to all p q xs e h = subst (λ n. Holds all n xs) e h

pub is_to : (all : List Station) (p q : ℕ) (c : Context) (r : ℕ) → p ≡ q → IsAt all p c r → IsAt all q c r
is_to all p q c r e h = subst (λ n. IsAt all n c r) e h

pub holds_first : (all : List Station) (p : ℕ) (xs ys : List Station) → Holds all p (xs ++ ys) → Holds all p xs
holds_first all p [] ys h = tt
holds_first all p (x ∷ xs) ys h = (h.0, holds_first all (p + 1) xs ys h.1)

pub holds_second : (all : List Station) (p q : ℕ) (xs ys : List Station) → p + length xs ≡ q → Holds all p (xs ++ ys) → Holds all q ys
holds_second all p q [] ys e h = holds_to all p q ys (omega (arith, e)) h
holds_second all p q (x ∷ xs) ys e h = holds_second all (p + 1) q xs ys (omega (arith, e)) h.1

-- they are of one body
abbrev pub AreOwn : (body : ℕ) → List Station → Type 0
AreOwn body [] = Unit {0}
AreOwn body (x ∷ xs) = (x.context.body ≡ body) × AreOwn body xs

pub own_append : (body : ℕ) (xs ys : List Station) → AreOwn body xs → AreOwn body ys → AreOwn body (xs ++ ys)
own_append body [] ys h k = k
own_append body (x ∷ xs) ys h k = (h.0, own_append body xs ys h.1 k)

pub own_of : {a b : ℕ} (xs : List Station) → a ≡ b → AreOwn a xs → AreOwn b xs
own_of xs e h = subst (λ n. AreOwn n xs) e h

pub own_at : (body : ℕ) (xs : List Station) (k : ℕ) (x : Station) → AreOwn body xs → slice_get xs k ≡ Some x → x.context.body ≡ body
own_at body [] k x h is = absurd (cc)
own_at body (y ∷ xs) zero x h is = let same : y ≡ x = cc in ap (λ (z : Station). z.context.body) (sym same) ∙ h.0
own_at body (y ∷ xs) (suc k) x h is = own_at body xs k x h.1 is

module _ (code : Code) where
  -- each operation leads where its station says
  abbrev pub AreLed : (all : List Station) (place : ℕ) → List Op → List Station → Type 0
  AreLed all p [] [] = Unit {0}
  AreLed all p [] (x ∷ xs) = ⊥
  AreLed all p (o ∷ os) [] = ⊥
  AreLed all p (o ∷ os) (x ∷ xs) = Leads code all p x.context x.rank o × AreLed all (p + 1) os xs

  pub led_append : (all : List Station) (p q : ℕ) (os : List Op) (xs : List Station) (ns : List Op) (ys : List Station) → p + length os ≡ q
      → AreLed all p os xs → AreLed all q ns ys → AreLed all p (os ++ ns) (xs ++ ys)
  led_append all p q [] [] ns ys e h k = subst (λ n. AreLed all n ns ys) (omega (arith, e)) k
  led_append all p q [] (x ∷ xs) ns ys e h k = absurd h
  led_append all p q (o ∷ os) [] ns ys e h k = absurd h
  led_append all p q (o ∷ os) (x ∷ xs) ns ys e h k = (h.0, led_append all (p + 1) q os xs ns ys (omega (arith, e)) h.1 k)

  -- operations at a place, from one context to another, of which the station behind them has a rank; of stations of which something
  -- holds
  pub record Laid (A : List Station → Type 0) (ops : List Op) (p : ℕ) (source to : Context) (low : ℕ) : Type 0 where
    pub high : ℕ
    pub stations : List Station
    pub long : length stations ≡ length ops
    -- all of it is of one body
    pub own : AreOwn source.body stations
    pub same : to.body ≡ source.body
    pub begins : (all : List Station) → A all → Holds all p stations → IsAt all (p + length ops) to low → IsAt all p source high
    pub leads : (all : List Station) → A all → Holds all p stations → IsAt all (p + length ops) to low → AreLed all p ops stations

  abbrev pub laid_more : (A B : List Station → Type 0) (ops : List Op) (p : ℕ) (source to : Context) (low : ℕ) → ((all : List Station) → B all → A all)
      → Laid A ops p source to low → Laid B ops p source to low
  laid_more A B ops p source to low f x = record {
    high = x.high;
    stations = x.stations;
    long = x.long;
    own = x.own;
    same = x.same;
    begins = λ all b h at. x.begins all (f all b) h at;
    leads = λ all b h at. x.leads all (f all b) h at;
  }

  abbrev pub laid_nothing : (A : List Station → Type 0) (p : ℕ) (c d : Context) (low : ℕ) → c ≡ d → Laid A [] p c d low
  laid_nothing A p c d low e = record {
    high = low;
    stations = [];
    long = refl;
    own = tt;
    same = ap (λ (x : Context). x.body) (sym e);
    begins = λ all a h at. subst (λ x. IsAt all p x low) (sym e) (is_to all (p + 0) p d low (omega arith) at);
    leads = λ all a h at. tt;
  }

  abbrev pub laid_op : (A : List Station → Type 0) (o : Op) (p : ℕ) (source to : Context) (low rank : ℕ) → to.body ≡ source.body
      → ((all : List Station) → A all → IsAt all p source rank → IsAt all (p + 1) to low → Leads code all p source rank o)
      → Laid A (o ∷ []) p source to low
  laid_op A o p source to low rank same f = record {
    high = rank;
    stations = record { context = source; rank = rank } ∷ [];
    long = refl;
    own = (refl, tt);
    same = same;
    begins = λ all a h at. h.0;
    leads = λ all a h at. (f all a h.0 at, tt);
  }

  -- where the second of two begins
  between : (A : List Station → Type 0) (a b : List Op) (p q : ℕ) (xs : List Station) (mid to : Context) (low : ℕ) (y : Laid A b q mid to low)
      → p + length a ≡ q → length xs ≡ length a → (all : List Station) → A all → Holds all p (xs ++ y.stations) → IsAt all (p + length (a ++ b)) to low
      → Holds all q y.stations × IsAt all (q + length b) to low × IsAt all (p + length a) mid y.high
  between A a b p q xs mid to low y e long all given h at =
      let second : Holds all q y.stations = holds_second all p q xs y.stations (omega (arith, e, long)) h in
      let end : IsAt all (q + length b) to low = is_to all (p + length (a ++ b)) (q + length b) to low (omega (arith, e, length-append a b)) at in
      (second, end, is_to all q (p + length a) mid y.high (sym e) (y.begins all given second end))

  pub laid_behind : (A : List Station → Type 0) (a b : List Op) (p q : ℕ) (source mid to : Context) (low : ℕ) (y : Laid A b q mid to low)
      → Laid A a p source mid y.high → p + length a ≡ q → Laid A (a ++ b) p source to low
  laid_behind A a b p q source mid to low y x e = record {
    high = x.high;
    stations = x.stations ++ y.stations;
    long = omega (arith, length-append x.stations y.stations, length-append a b, x.long, y.long);
    own = own_append source.body x.stations y.stations x.own (own_of y.stations x.same y.own);
    same = y.same ∙ x.same;
    begins = λ all given h at.
        let m = between A a b p q x.stations mid to low y e x.long all given h at in
        x.begins all given (holds_first all p x.stations y.stations h) m.2;
    leads = λ all given h at.
        let m = between A a b p q x.stations mid to low y e x.long all given h at in
        led_append all p q a x.stations b y.stations e (x.leads all given (holds_first all p x.stations y.stations h) m.2)
        (y.leads all given m.0 m.1);
  }
