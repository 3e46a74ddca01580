-- One name more among those that are compared, or among the others.
use Rattle.std.proofs.Common.{◌≡◌, ℕ, ◌+◌, ◌<◌, ◌≤◌, ◌==◌, Bool, true, false, ◌&&◌, if◌then◌else◌, List, Option, Some, None, refl, ap, ◌∙◌, arith, encode_utf8_all, length, get_or, sum_by}
use Rattle.std.proofs.Math.ListN.{set}
use Rattle.std.specs.Option.{is_none}
use Rattle.std.specs.Str.{bytes_eq}
use Rattle.std.proofs.lemmas.Bool.{and_parts}
use Rattle.std.proofs.lemmas.List.{length-set}
use Rattle.std.proofs.lemmas.List.Sums.{get_or-le-sum_by, sum_by-set}
use Rattle.std.proofs.lemmas.Slice.Eq.{bytes_eq-Decides}
use Rattle.node_stack.specs.Few.{CountsOne, SameCounts, came, elements_among, few_times, few_within, is_named, is_within, names_among, times_among, told}
use Rattle.node_stack.specs.Names.{CountsName, SameNames, again_of, elements_of, names_of}
use Rattle.node_stack.specs.Times.{more, once_more, times}
use Rattle.node_stack.specs.declared.names.Named.{Named}
use Rattle.node_stack.specs.declared.names.Names.{Names}
use Rattle.node_stack.proofs.Tallying.{not_zero}

-- Names that are compared

spelled_so : (uri local : List ℕ) (n : Named) → is_named uri local n ≡ true → (encode_utf8_all n.uri ≡ uri) × (encode_utf8_all n.local ≡ local)
spelled_so uri local n h =
    let both = and_parts (is_within uri n) (bytes_eq (encode_utf8_all n.local) local) h in
    ((bytes_eq-Decides _ _).0 both.0, (bytes_eq-Decides _ _).0 both.1)

same_test : (uri local : List ℕ) (n : Named) → (encode_utf8_all n.uri ≡ uri) × (encode_utf8_all n.local ≡ local) → (cs ds : List ℕ)
    → is_named cs ds n ≡ (bytes_eq uri cs && bytes_eq local ds)
same_test uri local n h cs ds = ap (λ u. bytes_eq u cs && bytes_eq (encode_utf8_all n.local) ds) h.0 ∙ ap (λ l. bytes_eq uri cs && bytes_eq l ds) h.1

-- a term of a sum is one more
step : (b : Bool) (before after again rest : ℕ) → after + (if b then again + 1 else 0) ≡ before + (if b then more again + 1 else 0)
    → (if b then again + 1 else 0) ≤ before → told (after + rest) ≡ told (if b then before + rest + 1 else before + rest)
step true before after again rest e h = omega arith
step false before after again rest e h = omega arith

none_left : (n : ℕ) → (n ≡ 0) → ◌≡◌ {A = ℕ} (if n == 0 then 1 else 0) 1
none_left n e = rw e refl

some_left : (n : ℕ) → 0 < n → ◌≡◌ {A = ℕ} (if n == 0 then 1 else 0) 0
some_left n h = rw (not_zero n h) refl

-- a name that is there came again
pub counted_again : (old new : Names) (uri local : List ℕ) (at : ℕ) (d : Named) → at < length old.few.items
    → is_named uri local (get_or old.few.items at d) ≡ true
    → new.few.items ≡ set old.few.items at (record (get_or old.few.items at d) { again = more (get_or old.few.items at d).again })
    → new.many ≡ old.many → CountsOne old new uri local
counted_again old new uri local at d h named few many = record { counted = counted; elements = elements; len = len } where
  g : Named
  g = get_or old.few.items at d

  w : Named
  w = record g { again = more g.again }

  so : (encode_utf8_all g.uri ≡ uri) × (encode_utf8_all g.local ≡ local)
  so = spelled_so uri local g named

  counted : (cs ds : List ℕ) → told (times_among new cs ds) ≡ told (if bytes_eq uri cs && bytes_eq local ds then times_among old cs ds + 1 else times_among old cs ds)
  counted cs ds =
      let f : Named → ℕ = λ n. came (is_named cs ds n) n in
      ap (λ l. told (sum_by f l + times (again_of new.many cs ds))) few
      ∙ ap (λ m. told (sum_by f (set old.few.items at w) + times (again_of m cs ds))) many
      ∙ step (is_named cs ds g) _ _ g.again _ (sum_by-set f old.few.items at w d h) (get_or-le-sum_by f old.few.items at d h)
      ∙ ap (λ b. told (if b then times_among old cs ds + 1 else times_among old cs ds)) (same_test uri local g so cs ds)

  elements : (cs : List ℕ) → told (elements_among new cs) ≡ told (if bytes_eq uri cs then elements_among old cs + 1 else elements_among old cs)
  elements cs =
      let f : Named → ℕ = λ n. came (is_within cs n) n in
      ap (λ l. told (sum_by f l + elements_of new.many cs)) few
      ∙ ap (λ m. told (sum_by f (set old.few.items at w) + elements_of m cs)) many
      ∙ step (is_within cs g) _ _ g.again _ (sum_by-set f old.few.items at w d h) (get_or-le-sum_by f old.few.items at d h)
      ∙ ap (λ u. told (if bytes_eq u cs then elements_among old cs + 1 else elements_among old cs)) so.0

  there : 0 < times_among old uri local
  there =
      let f : Named → ℕ = λ n. came (is_named uri local n) n in
      let one : came (is_named uri local g) g ≡ g.again + 1 = ap (λ b. came b g) named in
      omega (arith, one, get_or-le-sum_by f old.few.items at d h)

  len : names_among new ≡ names_among old + (if times_among old uri local == 0 then 1 else 0)
  len =
      ap (λ l. length l + names_of new.many) few ∙ ap (λ m. length (set old.few.items at w) + names_of m) many
      ∙ ap (λ k. k + names_of old.many) (length-set old.few.items at w)
      ∙ (let none = some_left (times_among old uri local) there in omega (arith, none))

-- Names that aren't compared

once_at : (few : ℕ) (b : Bool) (o : Option ℕ) → told (few + times (if b then once_more o else o)) ≡ told (if b then few + times o + 1 else few + times o)
once_at few true None = omega arith
once_at few true (Some n) = omega arith
once_at few false o = refl

more_at : (few : ℕ) (b : Bool) (n : ℕ) → told (few + (if b then more n else n)) ≡ told (if b then few + n + 1 else few + n)
more_at few true n = omega arith
more_at few false n = refl

is_new_at : (few : ℕ) (o : Option ℕ) → few ≡ 0 → ◌≡◌ {A = ℕ} (if few + times o == 0 then 1 else 0) (if is_none o then 1 else 0)
is_new_at few None e = none_left _ (omega arith)
is_new_at few (Some n) e = some_left _ (omega arith)

pub counted_other : (old new : Names) (uri local : List ℕ) → few_times old.few.items uri local ≡ 0 → new.few.items ≡ old.few.items
    → CountsName old.many new.many uri local → CountsOne old new uri local
counted_other old new uri local absent few h = record {
  counted = λ cs ds.
      ap (λ l. told (few_times l cs ds + times (again_of new.many cs ds))) few
      ∙ ap (λ o. told (few_times old.few.items cs ds + times o)) (h.counted cs ds) ∙ once_at (few_times old.few.items cs ds) _ _;
  elements = λ cs.
      ap (λ l. told (few_within l cs + elements_of new.many cs)) few
      ∙ ap (λ k. told (few_within old.few.items cs + k)) (h.elements cs) ∙ more_at (few_within old.few.items cs) _ _;
  len = ap (λ l. length l + names_of new.many) few
      ∙ (let new_is = is_new_at (few_times old.few.items uri local) (again_of old.many uri local) absent in
      let there = h.len in omega (arith, new_is, there));
}

-- Nothing changes

pub same_of : (old new : Names) → new.few.items ≡ old.few.items → SameNames old.many new.many → SameCounts old new
same_of old new few h = record {
  counted = λ cs ds.
      ap (λ l. few_times l cs ds + times (again_of new.many cs ds)) few ∙ ap (λ o. few_times old.few.items cs ds + times o) (h.counted cs ds);
  elements = λ cs. ap (λ l. few_within l cs + elements_of new.many cs) few ∙ ap (λ k. few_within old.few.items cs + k) (h.elements cs);
  len = ap (λ l. length l + names_of new.many) few ∙ ap (λ k. length old.few.items + k) h.len;
}
