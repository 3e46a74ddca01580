-- Attributes that are found by their names.
use Rattle.std.proofs.Common.{◌≡◌, ℕ, zero, suc, ◌+◌, ◌<◌, ◌≤◌, Bool, true, false, ◌||◌, ◌&&◌, List, [], ◌∷◌, ◌++◌, Option, Some, None, refl, sym, ap, ◌∙◌, subst, length, map, take, drop, get_or, arith, encode_utf8_all, cond, ◌-◌}
use Rattle.std.specs.Prelude.{bytes_eq, if◌then◌else◌, slice_get, slice_set, String, string_bytes, IfOk, MatchOption, Result, Ok, Err}
use Rattle.std.specs.Cmp.Lexicographic.{slice_cmp}
use Rattle.std.specs.List.{list_any}
use Rattle.std.specs.Option.{option_map, option_or}
use Rattle.std.specs.Ordering.{is_eq, nat_cmp, ordering_then}
use Rattle.std.specs.declared.cmp.Ordering.{Ordering}
use Rattle.std.specs.declared.cmp.Ordering.TheVariants.{Less, Equal, Greater}
use Rattle.std.proofs.lemmas.Bool.{and_parts}
use Rattle.std.proofs.lemmas.Bool.Decides.{same_from_decides}
use Rattle.std.proofs.lemmas.List.{drop-append-le, drop_all, length-map, map-append, length-drop}
use Rattle.std.proofs.lemmas.Map.Text.{is_eq-slice_cmp}
use Rattle.std.proofs.lemmas.Option.{slice_get-get_or}
use Rattle.std.proofs.lemmas.Slice.Eq.{bytes_eq-Decides}
use Rattle.std.proofs.lemmas.Str.{encodes_same}
use Rattle.stx_base.specs.declared.name.Attr.{Attr}
use Rattle.stx_base.specs.declared.name.Name.{Name}
use Rattle.result_writer.specs.Allowed.{same}
use Rattle.result_writer.specs.Attributes.{by_bytes, is_spelled, place_of, IsFirst}
use Rattle.result_writer.specs.Target.{same_name, with_attribute}

abbrev pub names : List Attr → List Name
names = map (λ a. a.name)

some_same : {X : Type 0} {x y : X} → Some x ≡ Some y → x ≡ y
some_same h = cc

or_false : (s t : Bool) → (s || t) ≡ false → (s ≡ false) × (t ≡ false)
or_false true t h = absurd cc
or_false false t h = (refl, h)

-- texts with the same bytes have the same characters
same-encoded : (a b : List ℕ) → bytes_eq (encode_utf8_all a) (encode_utf8_all b) ≡ same b a
same-encoded a b =
    same_from_decides _ _ (bytes_eq-Decides (encode_utf8_all a) (encode_utf8_all b)) (
      (λ h. sym (ap encode_utf8_all ((bytes_eq-Decides b a).0 h))),
      (λ h. (bytes_eq-Decides b a).1 (sym (encodes_same a b h))),
    )

bytes-sym : (a b : List ℕ) → bytes_eq a b ≡ bytes_eq b a
bytes-sym a b = same_from_decides _ _ (bytes_eq-Decides a b) ((λ h. sym ((bytes_eq-Decides b a).0 h)), (λ h. (bytes_eq-Decides b a).1 (sym h)))

module _ (name : Name) where
  abbrev named : Attr → Bool
  named a = same_name a.name name

  abbrev uri : List ℕ
  uri = encode_utf8_all name.uri

  abbrev local : List ℕ
  local = encode_utf8_all name.local

  -- a name is spelled with the bytes of another where the two are the same
  spelled-same : (n : Name) → is_spelled uri local n ≡ same_name n name
  spelled-same n =
      ap (λ t. t && bytes_eq local (encode_utf8_all n.local)) (same-encoded name.uri n.uri)
      ∙ ap (λ t. same n.uri name.uri && t) (same-encoded name.local n.local)

  first-here : (x : Attr) (xs : List Attr) → named x ≡ true → IsFirst (x ∷ xs) name 0
  first-here x xs h = (
    omega arith,
    λ value a found.
        ap (λ t. if t then record x { value = value } ∷ xs else x ∷ with_attribute xs name value) h
        ∙ ap (λ (y : Attr). record y { value = value } ∷ xs) (some_same found),
  )

  first-behind : (x : Attr) (xs : List Attr) (k : ℕ) → named x ≡ false → IsFirst xs name k → IsFirst (x ∷ xs) name (suc k)
  first-behind x xs k h first = (
    (let l = first.0 in omega arith),
    λ value a found.
        ap (λ t. if t then record x { value = value } ∷ xs else x ∷ with_attribute xs name value) h ∙ ap (λ l. x ∷ l) (first.1 value a found),
  )

  -- an attribute of the name, and none before it
  pub first-at : (attrs : List Attr) (at : ℕ) (item : Attr) → at < length attrs → item ≡ get_or attrs at item
      → list_any named (take at attrs) ≡ false → named item ≡ true → IsFirst attrs name at
  first-at [] at item h e none is = absurd (omega arith)
  first-at (x ∷ xs) zero item h e none is = first-here x xs (ap named (sym e) ∙ is)
  first-at (x ∷ xs) (suc k) item h e none is =
      let both = or_false (named x) (list_any named (take k xs)) none in
      first-behind x xs k both.0 (first-at xs k item (omega arith) e both.1 is)

  shift : (n : ℕ) (ns : List Name) (u l : List ℕ) → place_of (suc n) ns u l ≡ option_map suc (place_of n ns u l)
  shift n [] u l = refl
  shift n (x ∷ ns) u l = by_test (is_spelled u l x) (shift (suc n) ns u l) where
    by_test : (t : Bool) → place_of (suc (suc n)) ns u l ≡ option_map suc (place_of (suc n) ns u l)
        → (if t then Some (suc n) else place_of (suc (suc n)) ns u l) ≡ option_map suc (if t then Some n else place_of (suc n) ns u l)
    by_test true others = refl
    by_test false others = others

  -- a place one further
  further : (o : Option ℕ) (p : ℕ) → option_map suc o ≡ Some p → (k : ℕ) × (o ≡ Some k) × (p ≡ suc k)
  further None p h = absurd cc
  further (Some k) p h = (k, refl, sym (some_same h))

  found-all : (attrs : List Attr) (p : ℕ) → place_of 0 (names attrs) uri local ≡ Some p → IsFirst attrs name p
  found-all [] p h = absurd cc
  found-all (x ∷ xs) p h = by_test (named x) refl (λ k. found-all xs k) (ap (λ t. if t then Some 0 else place_of 1 (names xs) uri local) (sym (spelled-same x.name)) ∙ h) where
    by_test : (t : Bool) → named x ≡ t → ((k : ℕ) → place_of 0 (names xs) uri local ≡ Some k → IsFirst xs name k)
        → (if t then Some 0 else place_of 1 (names xs) uri local) ≡ Some p → IsFirst (x ∷ xs) name p
    by_test true e others g = subst (λ k. IsFirst (x ∷ xs) name k) (some_same g) (first-here x xs e)
    by_test false e others g =
        let f = further (place_of 0 (names xs) uri local) p (sym (shift 0 (names xs) uri local) ∙ g) in
        subst (λ k. IsFirst (x ∷ xs) name k) (sym f.2) (first-behind x xs f.0 e (others f.0 f.1))

  -- one that is found behind the first k, none of which has the name
  pub found-behind : (k : ℕ) (attrs : List Attr) (p : ℕ) → list_any named (take k attrs) ≡ false
      → place_of k (drop k (names attrs)) uri local ≡ Some p → IsFirst attrs name p
  found-behind zero attrs p none h = found-all attrs p h
  found-behind (suc k) [] p none h = absurd cc
  found-behind (suc k) (x ∷ xs) p none h =
      let both = or_false (named x) (list_any named (take k xs)) none in
      let f = further (place_of k (drop k (names xs)) uri local) p (sym (shift k (drop k (names xs)) uri local) ∙ h) in
      subst (λ k. IsFirst (x ∷ xs) name k) (sym f.2) (first-behind x xs f.0 both.0 (found-behind k xs f.0 both.1 f.1))

  none-all : (n : ℕ) (attrs : List Attr) → place_of n (names attrs) uri local ≡ None → list_any named attrs ≡ false
  none-all n [] h = refl
  none-all n (x ∷ xs) h = by_test (named x) (λ g. none-all (suc n) xs g) (ap (λ t. if t then Some n else place_of (suc n) (names xs) uri local) (sym (spelled-same x.name)) ∙ h) where
    by_test : (t : Bool) → (place_of (suc n) (names xs) uri local ≡ None → list_any named xs ≡ false)
        → (if t then Some n else place_of (suc n) (names xs) uri local) ≡ None → (t || list_any named xs) ≡ false
    by_test true others g = absurd cc
    by_test false others g = others g

  pub none-behind : (k n : ℕ) (attrs : List Attr) → list_any named (take k attrs) ≡ false
      → place_of n (drop k (names attrs)) uri local ≡ None → list_any named attrs ≡ false
  none-behind zero n attrs none h = none-all n attrs h
  none-behind (suc k) n [] none h = refl
  none-behind (suc k) n (x ∷ xs) none h =
      let both = or_false (named x) (list_any named (take k xs)) none in
      ap (λ t. t || list_any named xs) both.0 ∙ none-behind k n xs both.1 h

  -- where no attribute has the name it has no place
  absent-all : (n : ℕ) (attrs : List Attr) → list_any named attrs ≡ false → place_of n (names attrs) uri local ≡ None
  absent-all n [] h = refl
  absent-all n (x ∷ xs) h =
      let both = or_false (named x) (list_any named xs) h in
      ap (λ t. if t then Some n else place_of (suc n) (names xs) uri local) (spelled-same x.name ∙ both.0) ∙ absent-all (suc n) xs both.1

  pub absent : (k n : ℕ) (attrs : List Attr) → list_any named attrs ≡ false → place_of n (drop k (names attrs)) uri local ≡ None
  absent zero n attrs h = absent-all n attrs h
  absent (suc k) n [] h = refl
  absent (suc k) n (x ∷ xs) h = absent k n xs (or_false (named x) (list_any named xs) h).1

-- the names stay where an attribute only gets another value
names-set : (attrs : List Attr) (at : ℕ) (b : Attr) → (d : Attr) → at < length attrs → b.name ≡ (get_or attrs at d).name → names (slice_set attrs at b) ≡ names attrs
names-set [] at b d h e = absurd (omega arith)
names-set (x ∷ xs) zero b d h e = ap (λ n. n ∷ names xs) e
names-set (x ∷ xs) (suc k) b d h e = ap (λ ns. x.name ∷ ns) (names-set xs k b d (omega arith) e)

pub names-kept : (attrs new : List Attr) (at : ℕ) (value : List ℕ) → at < length attrs
    → ((a : Attr) → slice_get attrs at ≡ Some a → new ≡ slice_set attrs at (record a { value = value })) → names new ≡ names attrs
names-kept attrs new at value h says =
    let any : Attr = record { name = record { uri = []; local = []; prefix = [] }; value = value } in
    let a = get_or attrs at any in
    ap names (says a (slice_get-get_or attrs at any h)) ∙ names-set attrs at (record a { value = value }) any h refl

-- few attributes have no places
pub few : (attrs : List Attr) → length attrs ≤ 16 → drop 16 (names attrs) ≡ []
few attrs h = drop_all 16 (names attrs) (subst (λ n. n ≤ 16) (sym (length-map attrs (λ a. a.name))) h)

-- one name more

place-more : (n : ℕ) (ns : List Name) (m : Name) (u l : List ℕ)
    → place_of n (ns ++ m ∷ []) u l ≡ option_or (place_of n ns u l) (if is_spelled u l m then Some (n + length ns) else None)
place-more n [] m u l = ap (λ k. if is_spelled u l m then Some k else None) (omega arith)
place-more n (x ∷ ns) m u l = by_test (is_spelled u l x) (place-more (suc n) ns m u l) where
  by_test : (t : Bool) → place_of (suc n) (ns ++ m ∷ []) u l ≡ option_or (place_of (suc n) ns u l) (if is_spelled u l m then Some (suc n + length ns) else None)
      → (if t then Some n else place_of (suc n) (ns ++ m ∷ []) u l)
      ≡ option_or (if t then Some n else place_of (suc n) ns u l) (if is_spelled u l m then Some (n + suc (length ns)) else None)
  by_test true others = refl
  by_test false others =
      others ∙ ap (λ k. option_or (place_of (suc n) ns u l) (if is_spelled u l m then Some k else None)) (omega arith)

or_none : (o : Option ℕ) → option_or o None ≡ o
or_none None = refl
or_none (Some k) = refl

place-added : (n : ℕ) (ns : List Name) (m : Name) (at : ℕ) (ku kl qu ql : List ℕ) → ku ≡ encode_utf8_all m.uri → kl ≡ encode_utf8_all m.local
    → at ≡ n + length ns → place_of n ns ku kl ≡ None
    → cond (bytes_eq ku qu && bytes_eq kl ql) (Some at) (place_of n ns qu ql) ≡ place_of n (ns ++ m ∷ []) qu ql
place-added n ns m at ku kl qu ql eu el ea none =
    by_test (bytes_eq ku qu && bytes_eq kl ql) refl ∙ sym (place-more n ns m qu ql) where
      spelled : is_spelled qu ql m ≡ (bytes_eq ku qu && bytes_eq kl ql)
      spelled =
          ap (λ u. bytes_eq qu u && bytes_eq ql (encode_utf8_all m.local)) (sym eu)
          ∙ ap (λ l. bytes_eq qu ku && bytes_eq ql l) (sym el)
          ∙ ap (λ t. t && bytes_eq ql kl) (bytes-sym qu ku)
          ∙ ap (λ t. bytes_eq ku qu && t) (bytes-sym ql kl)

      by_test : (t : Bool) → (bytes_eq ku qu && bytes_eq kl ql) ≡ t
          → cond t (Some at) (place_of n ns qu ql) ≡ option_or (place_of n ns qu ql) (if is_spelled qu ql m then Some (n + length ns) else None)
      by_test false e = sym (ap (λ t. option_or (place_of n ns qu ql) (if t then Some (n + length ns) else None)) (spelled ∙ e) ∙ or_none (place_of n ns qu ql))
      by_test true e =
          let both = and_parts (bytes_eq ku qu) (bytes_eq kl ql) e in
          let u = (bytes_eq-Decides ku qu).0 both.0 in
          let l = (bytes_eq-Decides kl ql).0 both.1 in
          let gone : place_of n ns qu ql ≡ None = ap (λ q. place_of n ns q ql) (sym u) ∙ ap (place_of n ns ku) (sym l) ∙ none in
          ap Some ea ∙ sym (
          ap (λ o. option_or o (if is_spelled qu ql m then Some (n + length ns) else None)) gone
          ∙ ap (λ t. if t then Some (n + length ns) else None) (spelled ∙ e))

is_eq-then : (a b : Ordering) → is_eq (ordering_then a b) ≡ (is_eq a && is_eq b)
is_eq-then Less b = refl
is_eq-then Equal b = refl
is_eq-then Greater b = refl

-- an attribute is appended behind the first few
pub added : {Y : Type 0} (attrs : List Attr) (a : Attr) (key q : String Y × String Y) → 16 ≤ length attrs
    → string_bytes key.0 ≡ encode_utf8_all a.name.uri → string_bytes key.1 ≡ encode_utf8_all a.name.local
    → list_any (λ b. same_name b.name a.name) attrs ≡ false
    → cond (is_eq (by_bytes key q)) (Some (length attrs)) (place_of 16 (drop 16 (names attrs)) (string_bytes q.0) (string_bytes q.1))
    ≡ place_of 16 (drop 16 (names (attrs ++ a ∷ []))) (string_bytes q.0) (string_bytes q.1)
added attrs a key q many eu el none =
    let ns = drop 16 (names attrs) in
    let n : length (names attrs) ≡ length attrs = length-map attrs (λ a. a.name) in
    let m : length ns ≡ length (names attrs) - 16 = length-drop 16 (names attrs) in
    let gone = absent a.name 16 16 attrs none in
    ap (λ t. cond t (Some (length attrs)) (place_of 16 ns (string_bytes q.0) (string_bytes q.1)))
    (is_eq-then (slice_cmp nat_cmp (string_bytes key.0) (string_bytes q.0)) (slice_cmp nat_cmp (string_bytes key.1) (string_bytes q.1))
    ∙ ap (λ t. t && is_eq (slice_cmp nat_cmp (string_bytes key.1) (string_bytes q.1))) (is_eq-slice_cmp (string_bytes key.0) (string_bytes q.0))
    ∙ ap (λ t. bytes_eq (string_bytes key.0) (string_bytes q.0) && t) (is_eq-slice_cmp (string_bytes key.1) (string_bytes q.1)))
    ∙ place-added 16 ns a.name (length attrs) (string_bytes key.0) (string_bytes key.1) (string_bytes q.0) (string_bytes q.1) eu el (omega arith)
    (ap (λ u. place_of 16 ns u (string_bytes key.1)) eu ∙ ap (place_of 16 ns (encode_utf8_all a.name.uri)) el ∙ gone)
    ∙ ap (λ l. place_of 16 l (string_bytes q.0) (string_bytes q.1)) (sym (drop-append-le 16 (names attrs) (a.name ∷ []) (omega arith)) ∙ ap (drop 16) (sym (map-append (λ a. a.name) attrs (a ∷ []))))

-- an answer for those behind the first few is one for all
pub settled-behind : (name : Name) (attrs : List Attr) {E : Type 0} (r : Result (Option ℕ) E) → list_any (λ a. same_name a.name name) (take 16 attrs) ≡ false
    → IfOk r (λ o. o ≡ place_of 16 (drop 16 (names attrs)) (encode_utf8_all name.uri) (encode_utf8_all name.local))
    → IfOk r (λ o. MatchOption o (list_any (λ a. same_name a.name name) attrs ≡ false) (IsFirst attrs name))
settled-behind name attrs (Err e) none h = tt
settled-behind name attrs (Ok None) none h = none-behind name 16 16 attrs none (sym h)
settled-behind name attrs (Ok (Some p)) none h = found-behind name 16 attrs p none (sym h)
