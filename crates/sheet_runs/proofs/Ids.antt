-- Which ids are open.
use Rattle.std.proofs.Common.{◌≡◌, ℕ, ◌<◌, ◌==◌, ◌||◌, Bool, true, false, List, [], ◌∷◌, ◌++◌, Option, Some, None, IsTrue, IfSome, refl, sym, ap, subst, ◌∙◌, append_assoc}
use Rattle.std.proofs.lemmas.Bool.{false≢true}
use Rattle.std.proofs.lemmas.List.{append-nil, map-append}
use Rattle.std.proofs.lemmas.List.Folds.{list_any-append}
use Rattle.stx_host.proofs.OpenIds.{given_back}
use Rattle.stx_host.proofs.ToCome.{eq_self}
use Rattle.stx_host.specs.Outside.{Closes, IsOpen, MayOpen, Opens, Outside, and_more, is_among}
use Rattle.stx_host.specs.declared.act.Opened.TheVariants.{Id}
use Rattle.sheet_runs.specs.declared.other.Other.{Other}
use Rattle.sheet_runs.specs.inside.Running.{AreHeld, AreNew, ids_of}

-- an id that isn't open
abbrev IsFree : Option (List ℕ) → (id : ℕ) → Type 0
IsFree told id = IfSome told (λ ids. is_among ids id ≡ false)

more-twice : (told : Option (List ℕ)) (xs ys : List ℕ) → and_more (and_more told xs) ys ≡ and_more told (xs ++ ys)
more-twice None xs ys = refl
more-twice (Some ids) xs ys = ap Some (append_assoc ids xs ys)

more-none : (told : Option (List ℕ)) → and_more told [] ≡ told
more-none None = refl
more-none (Some ids) = ap Some (append-nil ids)

ids-then : (others : List Other) (o : Other) → ids_of (others ++ o ∷ []) ≡ ids_of others ++ o.id ∷ []
ids-then others o = map-append (λ (o : Other). o.id) others (o ∷ [])

-- one more
new-then : (told : Option (List ℕ)) (ids : List ℕ) (id : ℕ) → AreNew told ids → 0 < id → IsFree (and_more told ids) id → AreNew told (ids ++ id ∷ [])
new-then told [] id h above free = (above, subst (λ t. IsFree t id) (more-none told) free, tt)
new-then told (k ∷ ids) id h above free = (
  h.0,
  h.1,
  new-then (and_more told (k ∷ [])) ids id h.2 above (subst (λ t. IsFree t id) (sym (more-twice told (k ∷ []) ids)) free),
)

-- the last of them
record Lastly (told : Option (List ℕ)) (ids : List ℕ) (id : ℕ) : Type 0 where
  front : AreNew told ids
  above : 0 < id
  free : IsFree (and_more told ids) id

new-last : (told : Option (List ℕ)) (ids : List ℕ) (id : ℕ) → AreNew told (ids ++ id ∷ []) → Lastly told ids id
new-last told [] id h = record { front = tt; above = h.0; free = subst (λ t. IsFree t id) (sym (more-none told)) h.1 }
new-last told (k ∷ ids) id h =
    let l = new-last (and_more told (k ∷ [])) ids id h.2 in
    record { front = (h.0, h.1, l.front); above = l.above; free = subst (λ t. IsFree t id) (more-twice told (k ∷ []) ids) l.free }

or-last : (a b : Bool) → b ≡ true → (a || (b || false)) ≡ true
or-last true b e = refl
or-last false true e = refl
or-last false false e = e

among-last : (told : Option (List ℕ)) (ids : List ℕ) (id : ℕ) → IfSome (and_more told (ids ++ id ∷ [])) (λ all. IsTrue (is_among all id))
among-last None ids id = tt
among-last (Some before) ids id =
    ap (λ all. is_among all id) (sym (append_assoc before ids (id ∷ []))) ∙ list_any-append (λ k. k == id) (before ++ ids) (id ∷ []) ∙ or-last (is_among (before ++ ids) id) (id == id) (eq_self id)

module _ (before : Option (List ℕ)) (front : List Other) (o : Other) where
  last-of : (now : Option (List ℕ)) → AreHeld before now (front ++ o ∷ []) → Lastly before (ids_of front) o.id
  last-of now held = new-last before (ids_of front) o.id (subst (AreNew before) (ids-then front o) held.new)

  ids-are : (now : Option (List ℕ)) → AreHeld before now (front ++ o ∷ []) → now ≡ and_more before (ids_of front ++ o.id ∷ [])
  ids-are now held = held.ids ∙ ap (and_more before) (ids-then front o)

  -- the last one is open
  pub last-open : (now : Option (List ℕ)) → AreHeld before now (front ++ o ∷ []) → IsOpen now o.id
  last-open now held = record {
    above_zero = (last-of now held).above;
    told = subst (λ t. IfSome t (λ all. IsTrue (is_among all o.id))) (sym (ids-are now held)) (among-last before (ids_of front) o.id);
  }

  -- it is given back
  pub last-closed : (now new : Outside) → AreHeld before now.open_ids (front ++ o ∷ []) → Closes now o.id new → AreHeld before new.open_ids front
  last-closed now new held closes =
      let l = last-of now.open_ids held in
      let at : Outside = record now { open_ids = and_more before (ids_of front); documents = None } in
      record {
        new = l.front;
        ids = given_back at now new [] o.id (record { above_zero = l.above; not_open = l.free; known = tt })
            (ids-are now.open_ids held ∙ sym (more-twice before (ids_of front) (o.id ∷ []))) closes;
      }

-- one more is opened
pub more-held : (before : Option (List ℕ)) (others : List Other) (o : Other) (now new : Outside) → AreHeld before now.open_ids others → MayOpen now o.name (Id o.id) → Opens now o.name (Id o.id) new
    → AreHeld before new.open_ids (others ++ o ∷ [])
more-held before others o now new held may change = record {
  new = subst (AreNew before) (sym (ids-then others o)) (new-then before (ids_of others) o.id held.new may.above_zero (subst (λ t. IsFree t o.id) held.ids may.not_open));
  ids = ap (λ x. x.open_ids) change ∙ ap (λ t. and_more t (o.id ∷ [])) held.ids ∙ more-twice before (ids_of others) (o.id ∷ []) ∙ ap (and_more before) (sym (ids-then others o));
}

-- others of the same ids
pub same-held : (before now : Option (List ℕ)) (others more : List Other) → ids_of more ≡ ids_of others → AreHeld before now others → AreHeld before now more
same-held before now others more same held = record { new = subst (AreNew before) (sym same) held.new; ids = held.ids ∙ ap (and_more before) (sym same) }

pub ids-same : (front : List Other) (o : Other) (read : ℕ) → ids_of (front ++ record o { read = read } ∷ []) ≡ ids_of (front ++ o ∷ [])
ids-same front o read = ids-then front (record o { read = read }) ∙ sym (ids-then front o)

-- Ids that are apart from others

or-right : (a b : Bool) → (a || b) ≡ false → b ≡ false
or-right true b e = absurd (false≢true (sym e))
or-right false b e = e

free-behind : (ids more : List ℕ) (id : ℕ) → is_among (ids ++ more) id ≡ false → is_among more id ≡ false
free-behind ids more id h = or-right (is_among ids id) (is_among more id) (sym (list_any-append (λ k. k == id) ids more) ∙ h)

module _ (before : Option (List ℕ)) (ids : List ℕ) (others : List Other) where
  -- the last one from those before it
  pub last-apart : (o : Other) (now : Option (List ℕ)) → before ≡ Some ids → AreHeld before now (others ++ o ∷ []) → is_among (ids_of others) o.id ≡ false
  last-apart o now is held = free-behind ids (ids_of others) o.id (subst (λ t. IsFree (and_more t (ids_of others)) o.id) is (last-of before others o now held).free)

  -- one that is given from those that are open
  pub one-apart : (id : ℕ) (name : List ℕ) (now : Outside) → before ≡ Some ids → AreHeld before now.open_ids others → MayOpen now name (Id id) → is_among (ids_of others) id ≡ false
  one-apart id name now is held may = free-behind ids (ids_of others) id (subst (λ t. IsFree t id) (held.ids ∙ ap (λ t. and_more t (ids_of others)) is) may.not_open)
