-- Bindings in the order of their prefixes: a stable sort gives what putting one after the other gives.
use Rattle.std.proofs.Common.{◌≡◌, ℕ, suc, ◌+◌, ◌<◌, ◌≤◌, Bool, true, false, not, ◌&&◌, List, [], ◌∷◌, ◌++◌, refl, sym, ap, ◌∙◌, subst, arith, length, get_or, append_assoc, encode_utf8_all, cond, filter}
use Rattle.std.specs.Prelude.{if◌then◌else◌}
use Rattle.std.specs.Cmp.{IsStrictWeakOrder}
use Rattle.std.specs.List.Sorted.{IsSortedBy, IsStableBy, ties}
use Rattle.std.proofs.lemmas.Bool.{and_parts, and_from}
use Rattle.std.proofs.lemmas.Cmp.{nat_list_cmp_total}
use Rattle.std.proofs.lemmas.List.{append-nil}
use Rattle.std.proofs.lemmas.List.MinMax.{ranks_by}
use Rattle.stx_base.specs.declared.name.Binding.{Binding}
use Rattle.result_writer.specs.Table.{in_order, placed, precedes}

abbrev pub before : Binding → Binding → Bool
before b c = precedes b.prefix c.prefix

pub ordered : IsStrictWeakOrder before
ordered = ranks_by nat_list_cmp_total (λ (b : Binding). encode_utf8_all b.prefix)

both_ways : (t : Bool) → t ≡ true → t ≡ false → ⊥
both_ways t h k = let e : true ≡ false = sym h ∙ k in cc

not_true : (t : Bool) → not t ≡ true → t ≡ false
not_true true h = absurd cc
not_true false h = refl

never-itself : (b : Binding) → before b b ≡ false
never-itself b = by_test (before b b) refl where
  by_test : (t : Bool) → before b b ≡ t → t ≡ false
  by_test true e = sym e ∙ ordered.one_way b b e
  by_test false e = refl

-- Lists that rise

-- none of the list is before the binding
abbrev NoneBefore : Binding → List Binding → Type 0
NoneBefore b [] = Unit {0}
NoneBefore b (c ∷ cs) = (before c b ≡ false) × NoneBefore b cs

abbrev Rises : List Binding → Type 0
Rises [] = Unit {0}
Rises (b ∷ bs) = NoneBefore b bs × Rises bs

none-further : (b c : Binding) (cs : List Binding) → before c b ≡ false → NoneBefore c cs → NoneBefore b cs
none-further b c [] h n = tt
none-further b c (d ∷ ds) h n = (ordered.chain d c b n.0 h, none-further b c ds h n.1)

rises : (bs : List Binding) → IsSortedBy before bs → Rises bs
rises [] h = tt
rises (b ∷ []) h = (tt, tt)
rises (b ∷ c ∷ cs) h =
    let first : before c b ≡ false = h 0 b (omega arith) (omega arith) in
    let rest = rises (c ∷ cs) later in
    ((first, none-further b c cs first rest.0), rest) where
      later : IsSortedBy before (c ∷ cs)
      later k d l m =
          let e : suc k + 1 ≡ suc (k + 1) = omega arith in
          subst (λ n. before (get_or (b ∷ c ∷ cs) n d) (get_or (b ∷ c ∷ cs) (suc k) d) ≡ false) e (h (suc k) d (omega arith) (omega arith))

none-placed : (c b : Binding) (cs : List Binding) → before b c ≡ false → NoneBefore c cs → NoneBefore c (placed b cs)
none-placed c b [] h n = (h, tt)
none-placed c b (d ∷ ds) h n = by_test (before b d) (none-placed c b ds h n.1) where
  by_test : (t : Bool) → NoneBefore c (placed b ds) → NoneBefore c (if t then b ∷ d ∷ ds else d ∷ placed b ds)
  by_test true later = (h, n)
  by_test false later = (n.0, later)

rises-placed : (b : Binding) (cs : List Binding) → Rises cs → Rises (placed b cs)
rises-placed b [] h = (tt, tt)
rises-placed b (c ∷ cs) h = by_test (before b c) refl (rises-placed b cs h.1) where
  by_test : (t : Bool) → before b c ≡ t → Rises (placed b cs) → Rises (if t then b ∷ c ∷ cs else c ∷ placed b cs)
  by_test true e later = let one = ordered.one_way b c e in ((one, none-further b c cs one h.0), h)
  by_test false e later = (none-placed c b cs e h.0, later)

-- Bindings that tie with one

abbrev like : Binding → List Binding → List Binding
like x bs = filter (ties before x) bs

-- what is behind a binding that ties with another doesn't tie with it
ties-not : (x b d : Binding) → ties before x b ≡ true → before b d ≡ true → ties before x d ≡ false
ties-not x b d t l = by_test (before x d) refl where
  by_test : (v : Bool) → before x d ≡ v → ties before x d ≡ false
  by_test true e = ap (λ v. not v && not (before d x)) e
  by_test false e = absurd (both_ways (before b d) l (ordered.chain b x d (not_true (before b x) (and_parts (not (before x b)) (not (before b x)) t).1) e))

like-behind : (x b c : Binding) (cs : List Binding) → ties before x b ≡ true → before b c ≡ true → NoneBefore c cs → like x cs ≡ []
like-behind x b c [] t h n = refl
like-behind x b c (d ∷ ds) t h n =
    ap (λ v. cond v (d ∷ like x ds) (like x ds)) (ties-not x b d t (behind (before b d) refl)) ∙ like-behind x b c ds t h n.1 where
      behind : (v : Bool) → before b d ≡ v → before b d ≡ true
      behind true e = e
      behind false e = absurd (both_ways (before b c) h (ordered.chain b d c e n.0))

-- one that is placed stands behind those that tie with it
like-placed : (x b : Binding) (cs : List Binding) → Rises cs → like x (placed b cs) ≡ like x cs ++ like x (b ∷ [])
like-placed x b [] h = refl
like-placed x b (c ∷ cs) h = by_test (before b c) refl (like-placed x b cs h.1) where
  here : before b c ≡ true → (v : Bool) → ties before x b ≡ v → cond v (b ∷ like x (c ∷ cs)) (like x (c ∷ cs)) ≡ like x (c ∷ cs) ++ cond v (b ∷ []) []
  here e true t =
      let none : like x (c ∷ cs) ≡ [] = ap (λ v. cond v (c ∷ like x cs) (like x cs)) (ties-not x b c t e) ∙ like-behind x b c cs t e h.0 in
      ap (λ l. b ∷ l) none ∙ ap (λ l. l ++ b ∷ []) (sym none)
  here e false t = sym (append-nil (like x (c ∷ cs)))

  further : (v : Bool) → like x (placed b cs) ≡ like x cs ++ like x (b ∷ [])
      → cond v (c ∷ like x (placed b cs)) (like x (placed b cs)) ≡ cond v (c ∷ like x cs) (like x cs) ++ like x (b ∷ [])
  further true later = ap (λ l. c ∷ l) later
  further false later = later

  by_test : (t : Bool) → before b c ≡ t → like x (placed b cs) ≡ like x cs ++ like x (b ∷ [])
      → like x (if t then b ∷ c ∷ cs else c ∷ placed b cs) ≡ like x (c ∷ cs) ++ like x (b ∷ [])
  by_test true e later = here e (ties before x b) refl
  by_test false e later = further (ties before x c) later

like-one : (x b : Binding) (bs : List Binding) → like x (b ∷ []) ++ like x bs ≡ like x (b ∷ bs)
like-one x b bs = by_test (ties before x b) where
  by_test : (v : Bool) → cond v (b ∷ []) [] ++ like x bs ≡ cond v (b ∷ like x bs) (like x bs)
  by_test true = refl
  by_test false = refl

like-in-order : (x : Binding) (sorted bs : List Binding) → Rises sorted → like x (in_order sorted bs) ≡ like x sorted ++ like x bs
like-in-order x sorted [] h = sym (append-nil (like x sorted))
like-in-order x sorted (b ∷ bs) h =
    like-in-order x (placed b sorted) bs (rises-placed b sorted h)
    ∙ ap (λ l. l ++ like x bs) (like-placed x b sorted h)
    ∙ append_assoc (like x sorted) (like x (b ∷ [])) (like x bs)
    ∙ ap (λ l. like x sorted ++ l) (like-one x b bs)

rises-in-order : (sorted bs : List Binding) → Rises sorted → Rises (in_order sorted bs)
rises-in-order sorted [] h = h
rises-in-order sorted (b ∷ bs) h = rises-in-order (placed b sorted) bs (rises-placed b sorted h)

-- Two lists that rise are one, where those that tie with any binding are the same in both

first-like : (y x : Binding) (l rest : List Binding) → like y l ≡ y ∷ rest → NoneBefore x l → before y x ≡ false
first-like y x [] rest h n = absurd cc
first-like y x (d ∷ ds) rest h n = by_test (ties before y d) h (λ k. first-like y x ds rest k n.1) where
  by_test : (v : Bool) → cond v (d ∷ like y ds) (like y ds) ≡ y ∷ rest → (like y ds ≡ y ∷ rest → before y x ≡ false) → before y x ≡ false
  by_test true k later = let e : d ≡ y = cc in ap (λ z. before z x) (sym e) ∙ n.0
  by_test false k later = later k

ties-itself : (x : Binding) → ties before x x ≡ true
ties-itself x = ap (λ v. not v && not v) (never-itself x)

-- a binding ties with itself, so it is the first of those that tie with it
like-itself : (x : Binding) (xs : List Binding) → like x (x ∷ xs) ≡ x ∷ like x xs
like-itself x xs = ap (λ v. cond v (x ∷ like x xs) (like x xs)) (ties-itself x)

same-order : (xs ys : List Binding) → Rises xs → Rises ys → ((x : Binding) → like x xs ≡ like x ys) → xs ≡ ys
same-order [] [] f g h = refl
same-order [] (y ∷ ys) f g h = let e : [] ≡ y ∷ like y ys = h y ∙ like-itself y ys in absurd cc
same-order (x ∷ xs) [] f g h = let e : x ∷ like x xs ≡ [] = sym (like-itself x xs) ∙ h x in absurd cc
same-order (x ∷ xs) (y ∷ ys) f g h =
    ap (λ z. z ∷ xs) first ∙ ap (λ l. y ∷ l) (same-order xs ys f.1 g.1 others) where
      later : before y x ≡ false
      later = first-like y x (x ∷ xs) (like y ys) (h y ∙ like-itself y ys) (never-itself x, f.0)

      sooner : before x y ≡ false
      sooner = first-like x y (y ∷ ys) (like x xs) (sym (h x) ∙ like-itself x xs) (never-itself y, g.0)

      tied : ties before x y ≡ true
      tied = and_from (not (before x y)) (not (before y x)) (ap not sooner) (ap not later)

      first : x ≡ y
      first = let e : x ∷ like x xs ≡ y ∷ like x ys = sym (like-itself x xs) ∙ h x ∙ ap (λ v. cond v (y ∷ like x ys) (like x ys)) tied in cc

      others : (z : Binding) → like z xs ≡ like z ys
      others z = by_test (ties before z y) (ap (λ w. cond (ties before z w) (w ∷ like z xs) (like z xs)) (sym first) ∙ h z) where
        by_test : (v : Bool) → cond v (y ∷ like z xs) (like z xs) ≡ cond v (y ∷ like z ys) (like z ys) → like z xs ≡ like z ys
        by_test true k = cc
        by_test false k = k

pub sorted-once : (old new : List Binding) → IsSortedBy before new → IsStableBy before old new → new ≡ in_order [] old
sorted-once old new sorted stable =
    same-order new (in_order [] old) (rises new sorted) (rises-in-order [] old tt) (λ x. stable x ∙ sym (like-in-order x [] old tt))
