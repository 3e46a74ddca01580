-- No tag has two attributes of one name, nor declares a prefix twice.
use Rattle.std.proofs.Common.{◌≡◌, ◌≢◌, ℕ, zero, suc, ◌<◌, Bool, true, false, not, ◌&&◌, ◌||◌, List, [], ◌∷◌, ◌++◌, Option, Some, None, refl, sym, ap, ◌∙◌, arith, subst, ⊎_elim, inl, inr}
use Rattle.std.specs.Prelude.{◌⊎◌, if◌then◌else◌, filter, slice_get}
use Rattle.std.specs.List.{list_all, list_any}
use Rattle.std.proofs.lemmas.Bool.{and_parts, and_from}
use Rattle.std.proofs.lemmas.Slice.Eq.{bytes_eq-Decides}
use Rattle.stx_base.specs.declared.name.Attr.{Attr}
use Rattle.stx_base.specs.declared.name.Binding.{Binding}
use Rattle.stx_base.specs.declared.name.Name.{Name}
use Rattle.stx_base.specs.declared.part.Part.{Part}
use Rattle.stx_base.specs.declared.part.Part.TheVariants as part
use Rattle.result_writer.specs.Allowed.{is_empty, is_good_attribute, is_good_name, is_qname, same}
use Rattle.result_writer.specs.Laws.{DeclaresOnce, HoldsGoodTags, WritesOnce}
use Rattle.result_writer.specs.Table.{AreApart, attribute_prefix, entered, free_prefix, has_prefix, in_order, is_new, is_taken, placed, precedes, prefixes, with_attributes, with_element, with_name, with_scope}
use Rattle.result_writer.specs.Target.{AreDistinct, Left, added, fault, first_fault, left_by, next, nothing, or_else, same_name, unless, with_attribute}
use Rattle.result_writer.specs.declared.fault.ResultFault.{ResultFault}
use Rattle.result_writer.specs.declared.fault.ResultFault.TheVariants.{BadName}
use Rattle.result_writer.specs.declared.tag.HeldTag.{HeldTag}
use Rattle.result_writer.proofs.Bound.{apart-table, attribute-in}

same-true : (a b : List ℕ) → same a b ≡ true → a ≡ b
same-true a b h = (bytes_eq-Decides a b).0 h

same-of : (a b : List ℕ) → a ≡ b → same a b ≡ true
same-of a b h = (bytes_eq-Decides a b).1 h

both_ways : (t : Bool) → t ≡ true → t ≡ false → ⊥
both_ways t h k = let e : true ≡ false = sym h ∙ k in cc

true_or_false : (t : Bool) → (t ≡ true) ⊎ (t ≡ false)
true_or_false true = inl refl
true_or_false false = inr refl

pub or_none : (s t : Bool) → (s || t) ≡ false → (s ≡ false) × (t ≡ false)
or_none true t h = absurd cc
or_none false t h = (refl, h)

pub none_or : (s t : Bool) → s ≡ false → t ≡ false → (s || t) ≡ false
none_or true t h k = absurd cc
none_or false t h k = k

same-other : (a b : List ℕ) → same a b ≡ false → same b a ≡ false
same-other a b h = ⊎_elim (λ k. absurd (both_ways (same a b) (same-of a b (sym (same-true b a k))) h)) (λ k. k) (true_or_false (same b a))

-- Attributes of one name

abbrev has_name : List Attr → Name → Bool
has_name attrs n = list_any (λ b. same_name b.name n) attrs

names_same : (m n : Name) → same_name m n ≡ true → (m.uri ≡ n.uri) × (m.local ≡ n.local)
names_same m n h = let both = and_parts (same m.uri n.uri) (same m.local n.local) h in (same-true m.uri n.uri both.0, same-true m.local n.local both.1)

names_of : (m n : Name) → m.uri ≡ n.uri → m.local ≡ n.local → same_name m n ≡ true
names_of m n u l = and_from (same m.uri n.uri) (same m.local n.local) (same-of m.uri n.uri u) (same-of m.local n.local l)

pub names_other : (m n : Name) → same_name m n ≡ false → same_name n m ≡ false
names_other m n h = ⊎_elim
    (λ k. let e = names_same n m k in absurd (both_ways (same_name m n) (names_of m n (sym e.0) (sym e.1)) h))
    (λ k. k) (true_or_false (same_name n m))

-- a name that attributes lack, and that isn't the one that is put, they still lack
has_name-with : (attrs : List Attr) (name : Name) (value : List ℕ) (n : Name) → has_name attrs n ≡ false → same_name name n ≡ false → has_name (with_attribute attrs name value) n ≡ false
has_name-with [] name value n h k = none_or (same_name name n) false k refl
has_name-with (x ∷ xs) name value n h k =
    let both = or_none (same_name x.name n) (has_name xs n) h in
    by_test (same_name x.name name) both.0 both.1 (has_name-with xs name value n both.1 k) where
      by_test : (v : Bool) → same_name x.name n ≡ false → has_name xs n ≡ false → has_name (with_attribute xs name value) n ≡ false
          → has_name (if v then record x { value = value } ∷ xs else x ∷ with_attribute xs name value) n ≡ false
      by_test true f g later = none_or (same_name x.name n) (has_name xs n) f g
      by_test false f g later = none_or (same_name x.name n) (has_name (with_attribute xs name value) n) f later

distinct-with : (attrs : List Attr) (name : Name) (value : List ℕ) → AreDistinct attrs → AreDistinct (with_attribute attrs name value)
distinct-with [] name value h = (refl, tt)
distinct-with (x ∷ xs) name value h = by_test (same_name x.name name) refl (distinct-with xs name value h.1) where
  by_test : (v : Bool) → same_name x.name name ≡ v → AreDistinct (with_attribute xs name value)
      → AreDistinct (if v then record x { value = value } ∷ xs else x ∷ with_attribute xs name value)
  by_test true e later = h
  by_test false e later = (has_name-with xs name value x.name h.0 (names_other x.name name e), later)

abbrev are_good : List Attr → Bool
are_good attrs = list_all (λ a. is_good_attribute a.name) attrs

good-with : (attrs : List Attr) (name : Name) (value : List ℕ) → are_good attrs ≡ true → is_good_attribute name ≡ true → are_good (with_attribute attrs name value) ≡ true
good-with [] name value h k = and_from (is_good_attribute name) true k refl
good-with (x ∷ xs) name value h k =
    let both = and_parts (is_good_attribute x.name) (are_good xs) h in
    by_test (same_name x.name name) both.0 both.1 (good-with xs name value both.1 k) where
      by_test : (v : Bool) → is_good_attribute x.name ≡ true → are_good xs ≡ true → are_good (with_attribute xs name value) ≡ true
          → are_good (if v then record x { value = value } ∷ xs else x ∷ with_attribute xs name value) ≡ true
      by_test true f g later = and_from (is_good_attribute x.name) (are_good xs) f g
      by_test false f g later = and_from (is_good_attribute x.name) (are_good (with_attribute xs name value)) f later

-- What is held back

abbrev IsGoodTag : HeldTag → Type 0
IsGoodTag tag = (is_good_name tag.name ≡ true) × (are_good tag.attrs ≡ true) × AreDistinct tag.attrs

abbrev HoldsGood : Option HeldTag → Type 0
HoldsGood None = Unit {0}
HoldsGood (Some tag) = IsGoodTag tag

passed : (test : Bool) (f : ResultFault) (others : Option ResultFault) → unless test f others ≡ None → (test ≡ true) × (others ≡ None)
passed true f others h = (refl, h)
passed false f others h = absurd cc

holds-next : (limit : ℕ) (l : Left) (p : Part) → fault limit l p ≡ None → HoldsGood l.held → HoldsGood (next l p).held
holds-next limit l (part.Start name scope) h k = ((passed (is_good_name name) BadName _ h).0, refl, tt)
holds-next limit l (part.Attribute name value) h k = by_held l.held k where
  good : is_good_attribute name ≡ true
  good = (passed (is_good_attribute name) BadName _ h).0

  by_held : (o : Option HeldTag) → HoldsGood o → HoldsGood (added o name value)
  by_held None g = tt
  by_held (Some tag) g = (g.0, good-with tag.attrs name value g.1 good, distinct-with tag.attrs name value g.2)
holds-next limit l (part.End name) h k = tt
holds-next limit l (part.Chars text) h k = tt
holds-next limit l (part.CData text) h k = tt
holds-next limit l (part.Comment text) h k = tt
holds-next limit l (part.Pi target text) h k = tt

neither : (o p : Option ResultFault) → or_else o p ≡ None → (o ≡ None) × (p ≡ None)
neither None p h = (refl, h)
neither (Some f) p h = absurd cc

holds-all : (limit : ℕ) (l : Left) (ps : List Part) → first_fault limit l ps ≡ None → HoldsGood l.held → HoldsGood (left_by l ps).held
holds-all limit l [] h k = k
holds-all limit l (p ∷ ps) h k =
    let both = neither (fault limit l p) (first_fault limit (next l p) ps) h in
    holds-all limit (next l p) ps both.1 (holds-next limit l p both.0 k)

pub holds-good-tags : HoldsGoodTags
holds-good-tags limit ps tag h e = subst HoldsGood e (holds-all limit nothing ps h tt)

-- Written names

at_more : (attrs : List Attr) (j : ℕ) (b : Attr) (n : Name) → has_name attrs n ≡ false → slice_get attrs j ≡ Some b → same_name b.name n ≡ false
at_more [] j b n h f = absurd cc
at_more (x ∷ xs) zero b n h f = let e : x ≡ b = cc in sym (ap (λ (y : Attr). same_name y.name n) e) ∙ (or_none (same_name x.name n) (has_name xs n) h).0
at_more (x ∷ xs) (suc j) b n h f = at_more xs j b n (or_none (same_name x.name n) (has_name xs n) h).1 f

distinct-at : (attrs : List Attr) (i j : ℕ) (a b : Attr) → AreDistinct attrs → i < j → slice_get attrs i ≡ Some a → slice_get attrs j ≡ Some b → same_name b.name a.name ≡ false
distinct-at [] i j a b h l f g = absurd cc
distinct-at (x ∷ xs) i zero a b h l f g = absurd (omega arith)
distinct-at (x ∷ xs) zero (suc j) a b h l f g = let e : x ≡ a = cc in ap (λ (y : Attr). same_name b.name y.name) (sym e) ∙ at_more xs j b x.name h.0 g
distinct-at (x ∷ xs) (suc i) (suc j) a b h l f g = distinct-at xs i j a b h.1 (omega arith) f g

good-at : (attrs : List Attr) (i : ℕ) (a : Attr) → are_good attrs ≡ true → slice_get attrs i ≡ Some a → is_good_attribute a.name ≡ true
good-at [] i a h f = absurd cc
good-at (x ∷ xs) zero a h f = let e : x ≡ a = cc in ap (λ (y : Attr). is_good_attribute y.name) (sym e) ∙ (and_parts (is_good_attribute x.name) (are_good xs) h).0
good-at (x ∷ xs) (suc i) a h f = good-at xs i a (and_parts (is_good_attribute x.name) (are_good xs) h).1 f

-- a good name without a namespace has no prefix
no_prefix : (n : Name) → is_good_attribute n ≡ true → n.uri ≡ [] → n.prefix ≡ []
no_prefix n h u =
    let good = (and_parts (is_good_name n) _ h).0 in
    let bound = (and_parts (is_qname n) _ good).1 in
    let last : (is_empty n.prefix || not (is_empty n.uri)) ≡ true = (and_parts _ (is_empty n.prefix || not (is_empty n.uri)) bound).1 in
    empty n.prefix (by_uri (is_empty n.prefix) (is_empty n.uri) (ap is_empty u) last) where
      by_uri : (s t : Bool) → t ≡ true → (s || not t) ≡ true → s ≡ true
      by_uri true t e k = refl
      by_uri false true e k = absurd cc
      by_uri false false e k = absurd cc

      empty : (p : List ℕ) → is_empty p ≡ true → p ≡ []
      empty [] k = refl
      empty (c ∷ cs) k = absurd cc

-- an attribute without a namespace is written with its own prefix
own_prefix : (attrs : List Attr) (t : List Binding) (i : ℕ) (a : Attr) (p : List ℕ) → slice_get attrs i ≡ Some a → slice_get (prefixes t attrs) i ≡ Some p → a.name.uri ≡ [] → p ≡ a.name.prefix
own_prefix [] t i a p f g u = absurd cc
own_prefix (x ∷ xs) t zero a p f g u =
    let e : x ≡ a = cc in
    let q : attribute_prefix t x.name ≡ p = cc in
    sym q ∙ ap (λ (y : Attr). attribute_prefix t y.name) e
    ∙ ap (λ v. if v || (not (is_empty a.name.prefix) && not (is_taken t a.name)) then a.name.prefix else free_prefix t) (ap is_empty u)
own_prefix (x ∷ xs) t (suc i) a p f g u = own_prefix xs (with_name t x.name) i a p f g u

empty_or_not : (u : List ℕ) → (u ≡ []) ⊎ (u ≢ [])
empty_or_not [] = inl refl
empty_or_not (c ∷ cs) = inr (λ e. absurd cc)

pub writes-once : WritesOnce
writes-once in_force tag i j a b p h good distinct l f g fp gp local =
    let table = with_element tag.name in
    let apart = distinct-at tag.attrs i j a b distinct l f g in
    let same_uri : a.name.uri ≡ b.name.uri → ⊥ = λ u. both_ways (same_name b.name a.name) (names_of b.name a.name (sym u) (sym local)) apart in
    ⊎_elim
    (λ ua. ⊎_elim (λ ub. same_uri (ua ∙ sym ub))
    (λ ub. (attribute-in tag.attrs table j b p (omega arith) g gp ub).0 (own_prefix tag.attrs table i a p f fp ua ∙ no_prefix a.name (good-at tag.attrs i a good f) ua))
    (empty_or_not b.name.uri))
    (λ ua. ⊎_elim
    (λ ub. (attribute-in tag.attrs table i a p (omega arith) f fp ua).0 (own_prefix tag.attrs table j b p g gp ub ∙ no_prefix b.name (good-at tag.attrs j b good g) ub))
    (λ ub. same_uri (ap (λ (x : Binding). x.uri)
    (apart-table tag (record { prefix = p; uri = a.name.uri }) (record { prefix = p; uri = b.name.uri })
    (attribute-in tag.attrs table i a p (omega arith) f fp ua).1 (attribute-in tag.attrs table j b p (omega arith) g gp ub).1 refl)))
    (empty_or_not b.name.uri))
    (empty_or_not a.name.uri)

-- Declarations

pub apart-last : (t : List Binding) (x : Binding) → AreApart t → has_prefix t x.prefix ≡ false → AreApart (t ++ x ∷ [])
apart-last [] x h k = (refl, tt)
apart-last (b ∷ bs) x h k =
    let both = or_none (same b.prefix x.prefix) (has_prefix bs x.prefix) k in
    (behind bs h.0, apart-last bs x h.1 both.1) where
      behind : (xs : List Binding) → has_prefix xs b.prefix ≡ false → has_prefix (xs ++ x ∷ []) b.prefix ≡ false
      behind [] e = none_or (same x.prefix b.prefix) false (same-other b.prefix x.prefix (or_none (same b.prefix x.prefix) (has_prefix bs x.prefix) k).0) refl
      behind (y ∷ ys) e =
          let both = or_none (same y.prefix b.prefix) (has_prefix ys b.prefix) e in
          none_or (same y.prefix b.prefix) (has_prefix (ys ++ x ∷ []) b.prefix) both.0 (behind ys both.1)

apart-entered : (t : List Binding) (p u : List ℕ) → AreApart t → AreApart (entered t p u)
apart-entered t p u h = by_test (has_prefix t p) refl where
  by_test : (v : Bool) → has_prefix t p ≡ v → AreApart (if v then t else t ++ record { prefix = p; uri = u } ∷ [])
  by_test true k = h
  by_test false k = apart-last t (record { prefix = p; uri = u }) h k

apart-name : (t : List Binding) (n : Name) → AreApart t → AreApart (with_name t n)
apart-name t n h = by_test (is_empty n.uri) where
  by_test : (v : Bool) → AreApart (if v then t else entered t (attribute_prefix t n) n.uri)
  by_test true = h
  by_test false = apart-entered t (attribute_prefix t n) n.uri h

apart-attributes : (t : List Binding) (attrs : List Attr) → AreApart t → AreApart (with_attributes t attrs)
apart-attributes t [] h = h
apart-attributes t (a ∷ attrs) h = apart-attributes (with_name t a.name) attrs (apart-name t a.name h)

apart-scope : (t scope : List Binding) → AreApart t → AreApart (with_scope t scope)
apart-scope t [] h = h
apart-scope t (b ∷ scope) h = apart-scope (if is_empty b.uri then t else entered t b.prefix b.uri) scope (by_test (is_empty b.uri)) where
  by_test : (v : Bool) → AreApart (if v then t else entered t b.prefix b.uri)
  by_test true = h
  by_test false = apart-entered t b.prefix b.uri h

lacks-filter : (q : Binding → Bool) (bs : List Binding) (p : List ℕ) → has_prefix bs p ≡ false → has_prefix (filter q bs) p ≡ false
lacks-filter q [] p h = h
lacks-filter q (b ∷ bs) p h =
    let both = or_none (same b.prefix p) (has_prefix bs p) h in
    by_test (q b) both.0 (lacks-filter q bs p both.1) where
      by_test : (v : Bool) → same b.prefix p ≡ false → has_prefix (filter q bs) p ≡ false → has_prefix (if v then b ∷ filter q bs else filter q bs) p ≡ false
      by_test true f later = none_or (same b.prefix p) (has_prefix (filter q bs) p) f later
      by_test false f later = later

apart-filter : (q : Binding → Bool) (bs : List Binding) → AreApart bs → AreApart (filter q bs)
apart-filter q [] h = h
apart-filter q (b ∷ bs) h = by_test (q b) (apart-filter q bs h.1) where
  by_test : (v : Bool) → AreApart (filter q bs) → AreApart (if v then b ∷ filter q bs else filter q bs)
  by_test true later = (lacks-filter q bs b.prefix h.0, later)
  by_test false later = later

lacks-placed : (b : Binding) (cs : List Binding) (p : List ℕ) → same b.prefix p ≡ false → has_prefix cs p ≡ false → has_prefix (placed b cs) p ≡ false
lacks-placed b [] p h k = none_or (same b.prefix p) false h refl
lacks-placed b (c ∷ cs) p h k =
    let both = or_none (same c.prefix p) (has_prefix cs p) k in
    by_test (precedes b.prefix c.prefix) both.0 (lacks-placed b cs p h both.1) where
      by_test : (v : Bool) → same c.prefix p ≡ false → has_prefix (placed b cs) p ≡ false → has_prefix (if v then b ∷ c ∷ cs else c ∷ placed b cs) p ≡ false
      by_test true f later = none_or (same b.prefix p) (has_prefix (c ∷ cs) p) h k
      by_test false f later = none_or (same c.prefix p) (has_prefix (placed b cs) p) f later

apart-placed : (b : Binding) (cs : List Binding) → has_prefix cs b.prefix ≡ false → AreApart cs → AreApart (placed b cs)
apart-placed b [] h k = (refl, tt)
apart-placed b (c ∷ cs) h k =
    let both = or_none (same c.prefix b.prefix) (has_prefix cs b.prefix) h in
    by_test (precedes b.prefix c.prefix) both.0 (apart-placed b cs both.1 k.1) where
      by_test : (v : Bool) → same c.prefix b.prefix ≡ false → AreApart (placed b cs) → AreApart (if v then b ∷ c ∷ cs else c ∷ placed b cs)
      by_test true f later = (h, k)
      by_test false f later = (lacks-placed b cs c.prefix (same-other c.prefix b.prefix f) k.0, later)

-- no binding has a prefix of the others
abbrev AreOthers : List Binding → List Binding → Type 0
AreOthers s [] = Unit {0}
AreOthers s (b ∷ bs) = (has_prefix s b.prefix ≡ false) × AreOthers s bs

others-none : (bs : List Binding) → AreOthers [] bs
others-none [] = tt
others-none (b ∷ bs) = (refl, others-none bs)

others-placed : (b : Binding) (s bs : List Binding) → has_prefix bs b.prefix ≡ false → AreOthers s bs → AreOthers (placed b s) bs
others-placed b s [] h k = tt
others-placed b s (c ∷ bs) h k =
    let both = or_none (same c.prefix b.prefix) (has_prefix bs b.prefix) h in
    (lacks-placed b s c.prefix (same-other c.prefix b.prefix both.0) k.0, others-placed b s bs both.1 k.1)

apart-order : (s bs : List Binding) → AreApart s → AreApart bs → AreOthers s bs → AreApart (in_order s bs)
apart-order s [] h k o = h
apart-order s (b ∷ bs) h k o = apart-order (placed b s) bs (apart-placed b s o.0 h) k.1 (others-placed b s bs k.0 o.1)

pub declares-once : DeclaresOnce
declares-once in_force tag =
    let table = with_scope (with_attributes (with_element tag.name) tag.attrs) tag.scope in
    let new = filter (is_new in_force) table in
    apart-order [] new tt
    (apart-filter (is_new in_force) table (apart-scope (with_attributes (with_element tag.name) tag.attrs) tag.scope (apart-attributes (with_element tag.name) tag.attrs (refl, tt))))
    (others-none new)
