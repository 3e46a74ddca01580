-- Documents beside the main one are handed in as they are told.
use Rattle.std.proofs.Common.{◌≡◌, ℕ, ◌+◌, ◌<◌, ◌==◌, ◌||◌, Bool, true, false, List, [], ◌∷◌, ◌++◌, length, reverse, take, drop, Option, Some, None, IfSome, IsSome, inl, inr, refl, sym, ap, subst, ◌∙◌, arith, append_assoc}
use Rattle.std.specs.Prelude.{bytes_eq, if◌then◌else◌, slice_get}
use Rattle.std.specs.Option.{option_and_then, option_map}
use Rattle.std.proofs.lemmas.Bool.{false≢true}
use Rattle.std.proofs.lemmas.Bool.Decides.{nat_tests}
use Rattle.std.proofs.lemmas.List.{append-nil, map-append, reverse-append}
use Rattle.std.proofs.lemmas.List.Folds.{list_any-append}
use Rattle.std.proofs.lemmas.List.Quantifiers.{position-Some}
use Rattle.std.proofs.lemmas.Option.{slice_get_cases}
use Rattle.stx_host.proofs.ToCome.{with_here}
use Rattle.stx_host.specs.Outside.{Closes, GivesBytes, MayOpen, Opens, Outside, Reads, and_more, document, is_among, place, with_bytes}
use Rattle.stx_host.specs.declared.act.Doc.{Doc}
use Rattle.stx_host.specs.declared.act.Got.TheVariants.{Bytes as Got', End as GotEnd}
use Rattle.stx_host.specs.declared.act.Opened.TheVariants.{Absent, Id}
use Rattle.sheet_runs.specs.Runs.{AreAbsent, AreAsTold, AreParts, AreWhole, HandsOthers}
use Rattle.sheet_runs.specs.Talk.{Besides, Part, end_in_first, more_in_first, none_beside}
use Rattle.sheet_runs.specs.declared.other.Other.{Other}
use Rattle.sheet_runs.specs.inside.Running.{AreHandedOn, AreHeld, AreNew, AreReadAs, HandsOthersOn, ids_of}
use Rattle.sheet_runs.proofs.Ids.{last-apart, one-apart}

-- where both are told
pub both : {D I : Type 0} (docs : Option D) (ids : Option I) (P Q : D → Type 0) → ((d : D) (i : I) → docs ≡ Some d → ids ≡ Some i → P d → Q d)
    → IfSome docs (λ d. IfSome ids (λ i. P d)) → IfSome docs (λ d. IfSome ids (λ i. Q d))
both None ids P Q f h = tt
both (Some d) None P Q f h = tt
both (Some d) (Some i) P Q f h = f d i refl refl h

-- Ids that are apart

or-none : (a b : Bool) → (a || b) ≡ false → (a ≡ false) × (b ≡ false)
or-none true b e = absurd (false≢true (sym e))
or-none false b e = (refl, e)

-- in whichever order
reverse-apart : (id : ℕ) (os : List Other) → is_among (ids_of os) id ≡ false → is_among (ids_of (reverse os)) id ≡ false
reverse-apart id [] h = refl
reverse-apart id (o ∷ os) h =
    let each = or-none (o.id == id) (is_among (ids_of os) id) h in
    ap (λ l. is_among (ids_of l) id) (reverse-append (o ∷ []) os) ∙ ap (λ ks. is_among ks id) (map-append (λ (o : Other). o.id) (reverse os) (o ∷ []))
    ∙ list_any-append (λ k. k == id) (ids_of (reverse os)) (o.id ∷ []) ∙ ap (λ b. b || ((o.id == id) || false)) (reverse-apart id os each.1) ∙ ap (λ b. b || false) each.0

-- What is to come of others

module _ (docs : List Doc) (to_come : ℕ → Option (List ℕ)) (id : ℕ) (bytes : Option (List ℕ)) where
  pub read-apart : (ps : List Part) (os : List Other) → is_among (ids_of os) id ≡ false → AreReadAs docs to_come ps os → AreReadAs docs (with_bytes to_come id bytes) ps os
  read-apart [] [] apart h = tt
  read-apart [] (o ∷ os) apart h = absurd h
  read-apart (p ∷ ps) [] apart h = absurd h
  read-apart (p ∷ ps) (o ∷ os) apart h =
      let each = or-none (o.id == id) (is_among (ids_of os) id) apart in (
        record { name = h.0.name; rest = h.0.rest; comes = ap (λ b. if b then bytes else to_come o.id) each.0 ∙ h.0.comes; whole = h.0.whole },
        read-apart ps os each.1 h.1,
      )

  pub handed-apart : (b : Besides) (others : List Other) → is_among (ids_of others) id ≡ false → AreHandedOn docs to_come b others → AreHandedOn docs (with_bytes to_come id bytes) b others
  handed-apart b others apart h =
      record { going = read-apart b.going (reverse others) (reverse-apart id others apart) h.going; whole = h.whole; absent = h.absent }

-- What was handed in is so

module _ (docs : List Doc) (to_come : ℕ → Option (List ℕ)) where
  parts-so : (ps : List Part) (os : List Other) → AreReadAs docs to_come ps os → AreParts docs ps
  parts-so [] [] h = tt
  parts-so [] (o ∷ os) h = absurd h
  parts-so (p ∷ ps) [] h = absurd h
  parts-so (p ∷ ps) (o ∷ os) h = ((h.0.rest, h.0.whole), parts-so ps os h.1)

pub as-told : (old : Outside) (to_come : ℕ → Option (List ℕ)) (b : Besides) (others : List Other) → HandsOthersOn old to_come b others → HandsOthers old b
as-told old to_come b others h =
    both old.documents old.open_ids (λ docs. AreHandedOn docs to_come b others) (λ docs. AreAsTold docs b)
    (λ docs ids told known so. record { going = parts-so docs to_come b.going (reverse others) so.going; whole = so.whole; absent = so.absent }) h

pub none-handed : (old : Outside) (to_come : ℕ → Option (List ℕ)) → HandsOthersOn old to_come none_beside []
none-handed old to_come = by old.documents old.open_ids where
  by : (docs : Option (List Doc)) (ids : Option (List ℕ)) → IfSome docs (λ docs. IfSome ids (λ i. AreHandedOn docs to_come none_beside []))
  by None ids = tt
  by (Some docs) None = tt
  by (Some docs) (Some ids) = record { going = tt; whole = tt; absent = tt }

-- The newest is read

read-last : (front : List Other) (o : Other) → reverse (front ++ o ∷ []) ≡ o ∷ reverse front
read-last front o = reverse-append front (o ∷ [])

is-rest : (told : Option (List ℕ)) (rest : List ℕ) (P : List ℕ → Type 0) → told ≡ Some rest → IfSome told P → P rest
is-rest told rest P is h = subst (λ t. IfSome t P) is h

module _ (docs : List Doc) (to_come : ℕ → Option (List ℕ)) where
  -- bytes of it
  newest-fed : (room : List ℕ) (n : ℕ) (ps : List Part) (o : Other) (os : List Other) → GivesBytes (to_come o.id) n room → is_among (ids_of os) o.id ≡ false → AreReadAs docs to_come ps (o ∷ os)
      → AreReadAs docs (with_bytes to_come o.id (option_map (λ bytes. drop n bytes) (to_come o.id))) (more_in_first (take n room) ps) (record o { read = o.read + n } ∷ os)
  newest-fed room n [] o os gives apart h = absurd h
  newest-fed room n (p ∷ ps) o os gives apart h =
      let left = option_map (λ bytes. drop n bytes) (to_come o.id) in
      let rest = h.0.rest in
      let next : rest ≡ take n room ++ drop n rest = is-rest (to_come o.id) rest (λ bytes. bytes ≡ take n room ++ drop n bytes) h.0.comes gives.next in (
        record {
          name = h.0.name;
          rest = drop n rest;
          comes = with_here to_come o.id left ∙ ap (option_map (λ bytes. drop n bytes)) h.0.comes;
          whole = h.0.whole ∙ ap (λ l. Some (p.bytes ++ l)) next ∙ ap Some (sym (append_assoc p.bytes (take n room) (drop n rest)));
        },
        read-apart docs to_come o.id left ps os apart h.1,
      )

  pub fed-on : (room : List ℕ) (n : ℕ) (b : Besides) (front : List Other) (o : Other) → GivesBytes (to_come o.id) n room → is_among (ids_of front) o.id ≡ false → AreHandedOn docs to_come b (front ++ o ∷ [])
      → AreHandedOn docs (with_bytes to_come o.id (option_map (λ bytes. drop n bytes) (to_come o.id))) (record b { going = more_in_first (take n room) b.going }) (front ++ record o { read = o.read + n } ∷ [])
  fed-on room n b front o gives apart h =
      let left = option_map (λ bytes. drop n bytes) (to_come o.id) in
      let more : Other = record o { read = o.read + n } in
      record {
        going = subst (AreReadAs docs (with_bytes to_come o.id left) (more_in_first (take n room) b.going)) (sym (read-last front more))
            (newest-fed room n b.going o (reverse front) gives (reverse-apart o.id front apart) (subst (AreReadAs docs to_come b.going) (read-last front o) h.going));
        whole = h.whole;
        absent = h.absent;
      }

  -- its end, behind which it is closed
  newest-ended : (b : Besides) (ps : List Part) (o : Other) (front : List Other) → IfSome (to_come o.id) (λ bytes. bytes ≡ []) → is_among (ids_of front) o.id ≡ false → AreReadAs docs to_come ps (o ∷ reverse front)
      → AreWhole docs b.whole → AreAbsent docs b.absent → AreHandedOn docs (with_bytes to_come o.id None) (end_in_first b ps) front
  newest-ended b [] o front none apart h whole absent = absurd h
  newest-ended b (p ∷ ps) o front none apart h whole absent =
      let over : h.0.rest ≡ [] = is-rest (to_come o.id) h.0.rest (λ bytes. bytes ≡ []) h.0.comes none in
      record {
        going = read-apart docs to_come o.id None ps (reverse front) (reverse-apart o.id front apart) h.1;
        whole = (h.0.whole ∙ ap Some (ap (λ l. p.bytes ++ l) over ∙ append-nil p.bytes), whole);
        absent = absent;
      }

  pub ended-on : (b : Besides) (front : List Other) (o : Other) → IfSome (to_come o.id) (λ bytes. bytes ≡ []) → is_among (ids_of front) o.id ≡ false → AreHandedOn docs to_come b (front ++ o ∷ [])
      → AreHandedOn docs (with_bytes to_come o.id None) (end_in_first b b.going) front
  ended-on b front o none apart h = newest-ended b b.going o front none apart (subst (AreReadAs docs to_come b.going) (read-last front o) h.going) h.whole h.absent

  -- One is opened

  pub opened-on : (b : Besides) (others : List Other) (id : ℕ) (name bytes : List ℕ) → document docs name ≡ Some bytes → is_among (ids_of others) id ≡ false → AreHandedOn docs to_come b others
      → AreHandedOn docs (with_bytes to_come id (document docs name)) (record b { going = record { name = name; bytes = [] } ∷ b.going }) (others ++ record { id = id; name = name; read = 0 } ∷ [])
  opened-on b others id name bytes is apart h =
      let one : Other = record { id = id; name = name; read = 0 } in
      let part : Part = record { name = name; bytes = [] } in
      record {
        going = subst (AreReadAs docs (with_bytes to_come id (document docs name)) (part ∷ b.going)) (sym (read-last others one)) (
          record { name = refl; rest = bytes; comes = with_here to_come id (document docs name) ∙ is; whole = is },
          read-apart docs to_come id (document docs name) b.going (reverse others) (reverse-apart id others apart) h.going,
        );
        whole = h.whole;
        absent = h.absent;
      }

none-some : (at : ℕ) → None ≡ Some at → ⊥
none-some at e = cc

has-place : (docs : List Doc) (name : List ℕ) (at : ℕ) → place docs name ≡ Some at → IsSome (slice_get docs at)
has-place [] name at is = absurd (none-some at is)
has-place (doc ∷ docs) name at is =
    let within : at < length (doc ∷ docs) = (position-Some (λ (d : Doc). bytes_eq d.name name) (doc ∷ docs) at doc is).0 in
    elim (slice_get_cases (doc ∷ docs) at).1 [
      | inl h ↦ subst IsSome (sym h.2) refl
      | inr h ↦ absurd (omega (arith, h.0, within))
    ]

-- a document that has a place has bytes
pub has-bytes : (docs : List Doc) (name : List ℕ) → IsSome (place docs name) → (bytes : List ℕ) × (document docs name ≡ Some bytes)
has-bytes docs name some = by (place docs name) refl some where
  found : (doc : Option Doc) → IsSome doc → (bytes : List ℕ) × (option_map (λ (doc : Doc). doc.bytes) doc ≡ Some bytes)
  found None h = absurd (false≢true h)
  found (Some doc) h = (doc.bytes, refl)

  by : (at : Option ℕ) → place docs name ≡ at → IsSome at → (bytes : List ℕ) × (document docs name ≡ Some bytes)
  by None is h = absurd (false≢true h)
  by (Some at) is h =
      let x = found (slice_get docs at) (has-place docs name at is) in
      (x.0, ap (option_and_then (λ at. option_map (λ (doc : Doc). doc.bytes) (slice_get docs at))) is ∙ x.1)

-- Steps of a run

-- nothing is to come otherwise
pub handed-still : (old : Outside) (to_come new : ℕ → Option (List ℕ)) (b : Besides) (others : List Other) → new ≡ to_come → HandsOthersOn old to_come b others → HandsOthersOn old new b others
handed-still old to_come new b others same h = subst (λ t. HandsOthersOn old t b others) (sym same) h

module _ (old now : Outside) (b : Besides) where
  -- the main document was read
  pub main-beside-read : (others : List Other) (bytes : Option (List ℕ)) → AreHeld old.open_ids now.open_ids others → HandsOthersOn old now.to_come b others → HandsOthersOn old (with_bytes now.to_come 0 bytes) b others
  main-beside-read others bytes held h =
      both old.documents old.open_ids (λ docs. AreHandedOn docs now.to_come b others) (λ docs. AreHandedOn docs (with_bytes now.to_come 0 bytes) b others)
      (λ docs ids told known so. handed-apart docs now.to_come 0 bytes b others (never-zero old.open_ids (ids_of others) held.new) so) h where
        no-zero : (id : ℕ) → 0 < id → (id == 0) ≡ false
        no-zero id above = grind (arith, nat_tests)

        never-zero : (before : Option (List ℕ)) (ids : List ℕ) → AreNew before ids → is_among ids 0 ≡ false
        never-zero before [] h = refl
        never-zero before (id ∷ ids) h = ap (λ b. b || is_among ids 0) (no-zero id h.0) ∙ never-zero (and_more before (id ∷ [])) ids h.2

  -- bytes of the newest were read, and handed in
  pub newest-beside-fed : (new : Outside) (front : List Other) (o : Other) (room : List ℕ) (n : ℕ) → AreHeld old.open_ids now.open_ids (front ++ o ∷ []) → GivesBytes (now.to_come o.id) n room → Reads now o.id (Got' n) new
      → HandsOthersOn old now.to_come b (front ++ o ∷ []) → HandsOthersOn old new.to_come (record b { going = more_in_first (take n room) b.going }) (front ++ record o { read = o.read + n } ∷ [])
  newest-beside-fed new front o room n held gives change h =
      let left = with_bytes now.to_come o.id (option_map (λ bytes. drop n bytes) (now.to_come o.id)) in
      let fed : Besides = record b { going = more_in_first (take n room) b.going } in
      let more = front ++ record o { read = o.read + n } ∷ [] in
      handed-still old left new.to_come fed more (ap (λ x. x.to_come) change)
      (both old.documents old.open_ids (λ docs. AreHandedOn docs now.to_come b (front ++ o ∷ [])) (λ docs. AreHandedOn docs left fed more)
      (λ docs ids told known so. fed-on docs now.to_come room n b front o gives (last-apart old.open_ids ids front o now.open_ids known held) so) h)

  -- its end was read, and it was closed
  pub newest-beside-ended : (mid new : Outside) (front : List Other) (o : Other) → AreHeld old.open_ids now.open_ids (front ++ o ∷ []) → IfSome (now.to_come o.id) (λ bytes. bytes ≡ []) → Reads now o.id GotEnd mid → Closes mid o.id new
      → HandsOthersOn old now.to_come b (front ++ o ∷ []) → HandsOthersOn old new.to_come (end_in_first b b.going) front
  newest-beside-ended mid new front o held none change closes h =
      let ended : Besides = end_in_first b b.going in
      handed-still old (with_bytes now.to_come o.id None) new.to_come ended front (comes closes ∙ ap (λ x. with_bytes x.to_come o.id None) change)
      (both old.documents old.open_ids (λ docs. AreHandedOn docs now.to_come b (front ++ o ∷ [])) (λ docs. AreHandedOn docs (with_bytes now.to_come o.id None) ended front)
      (λ docs ids told known so. ended-on docs now.to_come b front o none (last-apart old.open_ids ids front o now.open_ids known held) so) h) where
        comes : Closes mid o.id new → new.to_come ≡ with_bytes mid.to_come o.id None
        comes closes = elim closes [ inl is ↦ ap (λ x. x.to_come) is | inr is ↦ ap (λ x. x.to_come) is ]

  -- one was opened
  pub beside-opened : (new : Outside) (others : List Other) (id : ℕ) (name : List ℕ) → now.documents ≡ old.documents → AreHeld old.open_ids now.open_ids others → MayOpen now name (Id id) → Opens now name (Id id) new
      → HandsOthersOn old now.to_come b others
      → HandsOthersOn old new.to_come (record b { going = record { name = name; bytes = [] } ∷ b.going }) (others ++ record { id = id; name = name; read = 0 } ∷ [])
  beside-opened new others id name same held may change h =
      let more : Besides = record b { going = record { name = name; bytes = [] } ∷ b.going } in
      let all = others ++ record { id = id; name = name; read = 0 } ∷ [] in
      both old.documents old.open_ids (λ docs. AreHandedOn docs now.to_come b others) (λ docs. AreHandedOn docs new.to_come more all)
      (λ docs ids told known so.
      let here : now.documents ≡ Some docs = same ∙ told in
      let some = has-bytes docs name (subst (λ t. IfSome t (λ docs. IsSome (place docs name))) here may.known) in
      subst (λ t. AreHandedOn docs t more all) (sym (ap (λ x. x.to_come) change ∙ ap (λ t. with_bytes now.to_come id (option_and_then (λ docs. document docs name) t)) here))
      (opened-on docs now.to_come b others id name some.0 some.1 (one-apart old.open_ids ids others id name now known held may) so)) h

  -- there is none of this name
  pub beside-absent : (new : Outside) (others : List Other) (name : List ℕ) → now.documents ≡ old.documents → MayOpen now name Absent → Opens now name Absent new → HandsOthersOn old now.to_come b others
      → HandsOthersOn old new.to_come (record b { absent = name ∷ b.absent }) others
  beside-absent new others name same may change h =
      let none : Besides = record b { absent = name ∷ b.absent } in
      both old.documents old.open_ids (λ docs. AreHandedOn docs now.to_come b others) (λ docs. AreHandedOn docs new.to_come none others)
      (λ docs ids told known so.
      subst (λ t. AreHandedOn docs t none others) (sym (ap (λ x. x.to_come) change))
      (record { going = so.going; whole = so.whole; absent = (subst (λ t. IfSome t (λ docs. place docs name ≡ None)) (same ∙ told) may, so.absent) })) h
