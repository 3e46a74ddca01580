-- What was done since a moment, and what came of it, at each step of reading.
use Rattle.std.proofs.Common.{◌≡◌, ℕ, suc, ◌≤◌, Bool, List, [], ◌∷◌, ◌++◌, map, length, slice_get, position, Option, Some, None, IfSome, IsSome, refl, sym, ap, subst, ◌∙◌, arith}
use Rattle.std.proofs.lemmas.Bool.{false≢true}
use Rattle.std.proofs.lemmas.Option.{slice_get-get_or}
use Rattle.std.proofs.lemmas.List.Quantifiers.{position-Some}
use Rattle.std.specs.Option.{option_and_then, option_map}
use Rattle.std.specs.Prelude.{bytes_eq}
use Rattle.stx_base.specs.declared.limits.Limits.{Limits}
use Rattle.stx_host.specs.Outside.{Outside, SameCounts, and_more, document, place}
use Rattle.stx_host.specs.declared.act.Act.{Act}
use Rattle.stx_host.specs.declared.act.Doc.{Doc}
use Rattle.sheet_loader.specs.Files.{changed}
use Rattle.sheet_loader.specs.Levels.{name_at}
use Rattle.sheet_files.specs.Acts.{given_behind, given_for, opens, read_behind, read_since_open}
use Rattle.sheet_files.specs.Held.{AreGiven, AreHeld, AreNumbered, AreOnce, HasRest, HaveDone, IsWithin, came_of, ids_of, names_of, seen_of, with_going}
use Rattle.sheet_files.specs.Opened.{AreOf, IsOf, names_in, place_told, places, whole}
use Rattle.sheet_files.specs.declared.going.Going.{Going}
use Rattle.sheet_files.proofs.Acting.{given_more, opens_more, read_more}
use Rattle.sheet_files.proofs.Doing.{counts_then, done_then}
use Rattle.sheet_files.proofs.Ends.{GoesOnce, once_goes}
use Rattle.sheet_files.proofs.Holding.{AllApart, apart_last, ids_same}
use Rattle.sheet_files.proofs.Numbering.{GivesNone, numbers_go}
use Rattle.sheet_files.proofs.Opening.{append_none}
use Rattle.sheet_files.proofs.Resting.{name_first}
use Rattle.sheet_files.proofs.Seeing.{AreKnown, are_changed, as_came, known_of, names_seen, numbered_le, with_snoc}

-- what is told, by what a host tells

pub if_told : {P : List Doc → Type 0} (ids : Option (List ℕ)) (docs : Option (List Doc)) → ((i : List ℕ) (d : List Doc) → ids ≡ Some i → docs ≡ Some d → P d) → IfSome (option_and_then (λ i. docs) ids) P
if_told None docs h = tt
if_told (Some i) None h = tt
if_told (Some i) (Some d) h = h i d refl refl

pub told_at : (P : List Doc → Type 0) (ids : Option (List ℕ)) (docs : Option (List Doc)) (i : List ℕ) (d : List Doc) → ids ≡ Some i → docs ≡ Some d → IfSome (option_and_then (λ k. docs) ids) P → P d
told_at P None docs i d e f h = cc
told_at P (Some k) None i d e f h = cc
told_at P (Some k) (Some b) i d e f h = let same : b ≡ d = cc in subst P same h

pub some_at : {A : Type 0} (P : A → Type 0) (o : Option A) (x : A) → o ≡ Some x → IfSome o P → P x
some_at P None x e h = cc
some_at P (Some y) x e h = let same : y ≡ x = cc in subst P same h

pub if_at : {A : Type 0} {P : A → Type 0} (o : Option A) → ((x : A) → o ≡ Some x → P x) → IfSome o P
if_at None h = tt
if_at (Some x) h = h x refl

-- the first document of a name has bytes

bytes_at : (docs : List Doc) (p : Doc → Bool) (at : ℕ) → position p docs ≡ Some at → (bytes : List ℕ) × (option_map (λ (doc : Doc). doc.bytes) (slice_get docs at) ≡ Some bytes)
bytes_at [] p at e = absurd (omega (arith, (position-Some p [] at (record { name = []; bytes = [] }) e).0))
bytes_at (doc ∷ docs) p at e = (_, ap (λ o. option_map (λ (d : Doc). d.bytes) o) (slice_get-get_or (doc ∷ docs) at doc (position-Some p (doc ∷ docs) at doc e).0))

some_of : {X : Type 0} (o : Option X) → IsSome o → (x : X) × (o ≡ Some x)
some_of None h = absurd (false≢true h)
some_of (Some x) h = (x, refl)

pub has_document : (docs : List Doc) (name : List ℕ) → IsSome (place docs name) → (bytes : List ℕ) × (document docs name ≡ Some bytes)
has_document docs name known =
    let at = some_of (place docs name) known in
    let found = bytes_at docs (λ (doc : Doc). bytes_eq doc.name name) at.0 at.1 in
    (found.0, ap (λ o. option_and_then (λ (i : ℕ). option_map (λ (doc : Doc). doc.bytes) (slice_get docs i)) o) at.1 ∙ found.1)

-- the innermost file alone

pub rest_front : (docs : List Doc) (o : Outside) (names : List (List ℕ)) (front : List Going) (g : Going) → HasRest docs o names (front ++ g ∷ [])
    → HasRest docs o names front × ((rest : List ℕ) × (o.to_come g.id ≡ Some rest) × (document docs (name_at names g.number) ≡ Some (g.bytes.items ++ rest)))
rest_front docs o names [] g h = (tt, h.0)
rest_front docs o names (f ∷ front) g h = let r = rest_front docs o names front g h.1 in ((h.0, r.0), r.1)

pub rest_snoc : (docs : List Doc) (o : Outside) (names : List (List ℕ)) (front : List Going) (g : Going) → HasRest docs o names front
    → ((rest : List ℕ) × (o.to_come g.id ≡ Some rest) × (document docs (name_at names g.number) ≡ Some (g.bytes.items ++ rest))) → HasRest docs o names (front ++ g ∷ [])
rest_snoc docs o names [] g h own = (own, tt)
rest_snoc docs o names (f ∷ front) g h own = (h.0, rest_snoc docs o names front g h.1 own)

pub rest_apart : (docs : List Doc) (o p : Outside) (names : List (List ℕ)) (id : ℕ) (going : List Going) → AllApart id going → ((k : ℕ) → (k ≡ id → ⊥) → p.to_come k ≡ o.to_come k) → HasRest docs o names going → HasRest docs p names going
rest_apart docs o p names id [] apart same h = tt
rest_apart docs o p names id (g ∷ going) apart same h = ((h.0.0, same g.id apart.0 ∙ h.0.1, h.0.2), rest_apart docs o p names id going apart.1 same h.1)

pub rest_names : (docs : List Doc) (o : Outside) (a b : List (List ℕ)) (from : ℕ) (going : List Going) → AreNumbered from going (length a) → HasRest docs o a going → HasRest docs o (a ++ b) going
rest_names docs o a b from [] are h = tt
rest_names docs o a b from (g ∷ going) are h =
    let le : suc g.number ≤ length a = numbered_le (suc g.number) going (length a) are.1 in
    ((h.0.0, h.0.1, ap (document docs) (name_first a b g.number (omega (arith, le))) ∙ h.0.2), rest_names docs o a b (suc g.number) going are.1 h.1)

pub given_front : (start : Outside) (acts : List Act) (names : List (List ℕ)) (front : List Going) (g : Going) → AreGiven start acts names (front ++ g ∷ [])
    → AreGiven start acts names front × ((given_for g.id acts ≡ Some (place_told start (name_at names g.number))) × (read_since_open g.id acts ≡ length g.bytes.items))
given_front start acts names [] g h = (tt, h.0)
given_front start acts names (f ∷ front) g h = let r = given_front start acts names front g h.1 in ((h.0, r.0), r.1)

pub given_snoc : (start : Outside) (acts : List Act) (names : List (List ℕ)) (front : List Going) (g : Going) → AreGiven start acts names front
    → ((given_for g.id acts ≡ Some (place_told start (name_at names g.number))) × (read_since_open g.id acts ≡ length g.bytes.items)) → AreGiven start acts names (front ++ g ∷ [])
given_snoc start acts names [] g h own = (own, tt)
given_snoc start acts names (f ∷ front) g h own = (h.0, given_snoc start acts names front g h.1 own)

-- acts of another id change nothing
abbrev pub Spares : (id : ℕ) → List Act → Type 0
Spares id more = (k : ℕ) → (k ≡ id → ⊥) → ((b : ℕ) → read_behind b k more ≡ b) × ((b : Option (Option ℕ)) → given_behind b k more ≡ b)

pub given_apart : (start : Outside) (acts more : List Act) (names : List (List ℕ)) (id : ℕ) (going : List Going) → AllApart id going → Spares id more → AreGiven start acts names going → AreGiven start (acts ++ more) names going
given_apart start acts more names id [] apart spares h = tt
given_apart start acts more names id (g ∷ going) apart spares h =
    let s = spares g.id apart.0 in
    ((given_more None g.id acts more ∙ s.1 (given_for g.id acts) ∙ h.0.0, read_more 0 g.id acts more ∙ s.0 (read_since_open g.id acts) ∙ h.0.1), given_apart start acts more names id going apart.1 spares h.1)

pub given_names : (start : Outside) (acts : List Act) (a b : List (List ℕ)) (from : ℕ) (going : List Going) → AreNumbered from going (length a) → AreGiven start acts a going → AreGiven start acts (a ++ b) going
given_names start acts a b from [] are h = tt
given_names start acts a b from (g ∷ going) are h =
    let le : suc g.number ≤ length a = numbered_le (suc g.number) going (length a) are.1 in
    ((h.0.0 ∙ ap (λ (n : List ℕ). Some (place_told start n)) (sym (name_first a b g.number (omega (arith, le)))), h.0.1), given_names start acts a b (suc g.number) going are.1 h.1)

-- The innermost file goes on from g to h.
pub record GoesOnTo (o p : Outside) (more : List Act) (g h : Going) : Type 0 where
  pub done : HaveDone o p more
  pub opens_none : opens more ≡ []
  pub ids : p.open_ids ≡ o.open_ids
  pub id : h.id ≡ g.id
  pub number : h.number ≡ g.number
  pub counts : SameCounts o p
  pub rest : (rest : List ℕ) → o.to_come g.id ≡ Some rest → IsOf (Some (g.bytes.items ++ rest)) (came_of g) → (left : List ℕ) × (p.to_come g.id ≡ Some left) × (g.bytes.items ++ rest ≡ h.bytes.items ++ left) × IsOf (Some (h.bytes.items ++ left)) (came_of h)
  pub apart : (k : ℕ) → (k ≡ g.id → ⊥) → p.to_come k ≡ o.to_come k
  pub read : read_behind (length g.bytes.items) g.id more ≡ length h.bytes.items
  pub given : (b : Option (Option ℕ)) → given_behind b g.id more ≡ b
  pub spares : Spares g.id more
  pub once : GoesOnce more g h
  pub gives_none : GivesNone more

pub known_front : (docs : List ℕ → Option (List ℕ)) (names : List (List ℕ)) (front : List Going) (g : Going) → AreKnown docs names (front ++ g ∷ []) → IsOf (docs (name_at names g.number)) (came_of g)
known_front docs names [] g known = known.0
known_front docs names (f ∷ front) g known = known_front docs names front g known.1

module _ (start o : Outside) (limits : Limits) (front : List Going) (g : Going) (files : List Doc) (acts : List Act) (within : IsWithin start o (front ++ g ∷ []) files [] acts) (held : AreHeld o limits (front ++ g ∷ []) (length files)) where
  -- the ids are told
  ids_told : (s : List ℕ) → start.open_ids ≡ Some s → o.open_ids ≡ Some (s ++ ids_of (front ++ g ∷ []))
  ids_told s e = within.ids ∙ ap (λ (t : Option (List ℕ)). and_more t (ids_of (front ++ g ∷ []))) e

  around : (s : List ℕ) → start.open_ids ≡ Some s → AllApart g.id front
  around s e = apart_last front g (s ++ ids_of (front ++ g ∷ [])) (some_at _ o.open_ids (s ++ ids_of (front ++ g ∷ [])) (ids_told s e) held.last)

  module _ (p : Outside) (h : Going) (more : List Act) (goes : GoesOnTo o p more g h) where
    opened_still : opens (acts ++ more) ≡ places start (names_of files ++ names_in [])
    opened_still = opens_more acts more ∙ ap (λ (l : List (Option ℕ)). opens acts ++ l) goes.opens_none ∙ append_none (opens acts) ∙ within.opened

    seen_now : (docs : List Doc) (left : List ℕ) → document docs (name_at (names_of files) g.number) ≡ Some (h.bytes.items ++ left) → IsOf (Some (h.bytes.items ++ left)) (came_of h)
        → AreOf (document docs) (seen_of (front ++ g ∷ []) files ++ []) → AreOf (document docs) (seen_of (front ++ h ∷ []) files ++ [])
    seen_now docs left is came are =
        let seen = with_going front (map whole files) in
        let old : AreOf (document docs) (changed (as_came (came_of g)) g.number seen) =
        subst (AreOf (document docs)) (append_none (seen_of (front ++ g ∷ []) files) ∙ with_snoc front g (map whole files)) are in
        let name : name_at (names_in seen) g.number ≡ name_at (names_of files) g.number = ap (λ (ns : List (List ℕ)). name_at ns g.number) (names_seen front files) in
        let here : IsOf (document docs (name_at (names_in seen) g.number)) (came_of h) = subst (λ (d : Option (List ℕ)). IsOf d (came_of h)) (sym (ap (document docs) name ∙ is)) came in
        let new = are_changed (document docs) (came_of g) (came_of h) g.number seen old here in
        subst (AreOf (document docs))
        (ap (λ (n : ℕ). changed (as_came (came_of h)) n seen) (sym goes.number) ∙ sym (with_snoc front h (map whole files)) ∙ sym (append_none (seen_of (front ++ h ∷ []) files))) new

    told_now : (s : List ℕ) (docs : List Doc) → start.open_ids ≡ Some s → start.documents ≡ Some docs → AreOf (document docs) (seen_of (front ++ h ∷ []) files ++ []) × HasRest docs p (names_of files) (front ++ h ∷ [])
    told_now s docs e d =
        let old = told_at (λ docs. AreOf (document docs) (seen_of (front ++ g ∷ []) files ++ []) × HasRest docs o (names_of files) (front ++ g ∷ [])) start.open_ids start.documents s docs e d within.told in
        let split = rest_front docs o (names_of files) front g old.1 in
        let own = split.1 in
        let seen = subst (AreOf (document docs)) (append_none (seen_of (front ++ g ∷ []) files)) old.0 in
        let came = subst (λ (x : Option (List ℕ)). IsOf x (came_of g)) own.2 (known_front (document docs) (names_of files) front g (known_of (document docs) (front ++ g ∷ []) files held.numbered seen)) in
        let now = goes.rest own.0 own.1 came in
        let is : document docs (name_at (names_of files) g.number) ≡ Some (h.bytes.items ++ now.0) = own.2 ∙ ap (λ (l : List ℕ). Some l) now.2 in (
          seen_now docs now.0 is now.3 old.0,
          rest_snoc docs p (names_of files) front h (rest_apart docs o p (names_of files) g.id front (around s e) goes.apart split.0)
              (now.0, ap p.to_come goes.id ∙ now.1, ap (λ (n : ℕ). document docs (name_at (names_of files) n)) goes.number ∙ is),
        )

    given_now : (s : List ℕ) → start.open_ids ≡ Some s → AreGiven start (acts ++ more) (names_of files) (front ++ h ∷ [])
    given_now s e =
        let old = given_front start acts (names_of files) front g (some_at _ start.open_ids s e within.given) in
        given_snoc start (acts ++ more) (names_of files) front h (given_apart start acts more (names_of files) g.id front (around s e) goes.spares old.0) (
          ap (λ (k : ℕ). given_for k (acts ++ more)) goes.id ∙ given_more None g.id acts more ∙ goes.given (given_for g.id acts) ∙ old.1.0 ∙ ap (λ (n : ℕ). Some (place_told start (name_at (names_of files) n))) (sym goes.number),
          ap (λ (k : ℕ). read_since_open k (acts ++ more)) goes.id ∙ read_more 0 g.id acts more ∙ ap (λ (n : ℕ). read_behind n g.id more) old.1.1 ∙ goes.read,
        )

    once_now : (s : List ℕ) → start.open_ids ≡ Some s → AreOnce (acts ++ more) (front ++ h ∷ [])
    once_now s e = once_goes acts more front g h (around s e) goes.id (some_at _ start.open_ids s e within.once) goes.once

    pub within_goes : IsWithin start p (front ++ h ∷ []) files [] (acts ++ more)
    within_goes = record {
      done = done_then start o p acts more within.done goes.done;
      opened = opened_still;
      ids = goes.ids ∙ within.ids ∙ ap (λ (l : List ℕ). and_more start.open_ids l) (sym (ids_same front g h goes.id));
      told = if_told start.open_ids start.documents told_now;
      given = if_at start.open_ids given_now;
      once = if_at start.open_ids once_now;
      numbers = if_at start.open_ids (λ s e. numbers_go acts more front g h goes.gives_none goes.id goes.number (some_at _ start.open_ids s e within.numbers));
      counts = counts_then start o p within.counts goes.counts;
    }
