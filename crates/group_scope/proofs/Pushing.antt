-- Rows that grow.
use Rattle.std.proofs.Common.{◌≡◌, ℕ, ◌+◌, ◌<◌, Bool, true, false, cond, if◌then◌else◌, List, [], ◌∷◌, ◌++◌, Option, Some, None, unwrap_or, length, take, get_or, refl, ap, sym, ◌∙◌}
use Rattle.std.proofs.lemmas.List.{append-nil, take_more}
use Rattle.std.specs.Cmp.{IsEquivalence}
use Rattle.std.specs.HashMap.Eq.{lookup_congr}
use Rattle.std.specs.Map.{lookup}
use Rattle.group_scope.specs.Rows.{Key, entered, same}
use Rattle.group_scope.specs.declared.entry.Entry.{Entry}
use Rattle.group_scope.specs.declared.key.Home.{Home}
use Rattle.group_scope.specs.declared.key.Test.{Test}

-- what is under each key, after one row took an item more
pub grown : {K E : Type 0} {eq : K → K → Bool} (laws : IsEquivalence eq) (old new : List (K × List E)) (key : K) (e : E) (row : List E)
    → ((q : K) → lookup (eq q) new ≡ cond (eq key q) (Some row) (lookup (eq q) old))
    → row ≡ unwrap_or (lookup (eq key) old) [] ++ e ∷ []
    → (other : K)
    → unwrap_or (lookup (eq other) new) []
    ≡ (if eq key other then unwrap_or (lookup (eq other) old) [] ++ e ∷ [] else unwrap_or (lookup (eq other) old) [])
grown {E = E} {eq = eq} laws old new key e row updates is other =
    elim (eq key other) as (λ b. eq key other ≡ b → lookup (eq other) new ≡ cond b (Some row) (lookup (eq other) old) → unwrap_or (lookup (eq other) new) [] ≡ (if b then unwrap_or (lookup (eq other) old) [] ++ e ∷ [] else unwrap_or (lookup (eq other) old) [])) [
      | true ↦ λ same u.
          ap (λ (o : Option (List E)). unwrap_or o []) u ∙ is
          ∙ ap (λ (o : Option (List E)). unwrap_or o [] ++ e ∷ []) (lookup_congr eq laws.congr old key other same)
      | false ↦ λ differ u. ap (λ (o : Option (List E)). unwrap_or o []) u
    ] refl (updates other)

-- and where it took none
pub ungrown : {K E : Type 0} {eq : K → K → Bool} (laws : IsEquivalence eq) (old new : List (K × List E)) (key : K) (row : List E)
    → ((q : K) → lookup (eq q) new ≡ cond (eq key q) (Some row) (lookup (eq q) old)) → Some row ≡ lookup (eq key) old
    → (other : K) → unwrap_or (lookup (eq other) new) [] ≡ unwrap_or (lookup (eq other) old) []
ungrown {E = E} {eq = eq} laws old new key row updates is other =
    elim (eq key other) as (λ b. eq key other ≡ b → lookup (eq other) new ≡ cond b (Some row) (lookup (eq other) old) → unwrap_or (lookup (eq other) new) [] ≡ unwrap_or (lookup (eq other) old) []) [
      | true ↦ λ same u. ap (λ (o : Option (List E)). unwrap_or o []) (u ∙ is ∙ lookup_congr eq laws.congr old key other same)
      | false ↦ λ differ u. ap (λ (o : Option (List E)). unwrap_or o []) u
    ] refl (updates other)

entered-append : (as_ bs : List (Option Home)) (test : Test) (key : Key) (e : Entry) → entered (as_ ++ bs) test key e ≡ entered as_ test key e ++ entered bs test key e
entered-append [] bs test key e = refl
entered-append (None ∷ as_) bs test key e = entered-append as_ bs test key e
entered-append (Some h ∷ as_) bs test key e =
    elim (same (record { home = h; test = test }) key) as (λ b.
    (if b then e ∷ entered (as_ ++ bs) test key e else entered (as_ ++ bs) test key e)
    ≡ (if b then e ∷ entered as_ test key e else entered as_ test key e) ++ entered bs test key e) [
      | true ↦ ap (λ l. e ∷ l) (entered-append as_ bs test key e)
      | false ↦ entered-append as_ bs test key e
    ]

-- one home more
pub entered_more : (hs : List (Option Home)) (i : ℕ) (d : Option Home) (test : Test) (key : Key) (e : Entry) → i < length hs
    → entered (take (i + 1) hs) test key e ≡ entered (take i hs) test key e ++ entered (get_or hs i d ∷ []) test key e
entered_more hs i d test key e h =
    ap (λ l. entered l test key e) (take_more hs i d h) ∙ entered-append (take i hs) (get_or hs i d ∷ []) test key e

-- what an entry at a home adds to a row
pub one_home : (old : List Entry) (h : Home) (test : Test) (key : Key) (e : Entry)
    → (if same (record { home = h; test = test }) key then old ++ e ∷ [] else old) ≡ old ++ entered (Some h ∷ []) test key e
one_home old h test key e =
    elim (same (record { home = h; test = test }) key) as (λ b. (if b then old ++ e ∷ [] else old) ≡ old ++ (if b then e ∷ [] else [])) [
      | true ↦ refl
      | false ↦ sym (append-nil old)
    ]

-- no home adds nothing
pub no_home : (hs : List (Option Home)) (i : ℕ) (d : Option Home) (test : Test) (key : Key) (e : Entry) → i < length hs → get_or hs i d ≡ None
    → entered (take (i + 1) hs) test key e ≡ entered (take i hs) test key e
no_home hs i d test key e h none =
    entered_more hs i d test key e h ∙ ap (λ o. entered (take i hs) test key e ++ entered (o ∷ []) test key e) none ∙ append-nil (entered (take i hs) test key e)
