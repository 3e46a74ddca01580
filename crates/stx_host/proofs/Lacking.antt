-- Where a host lacks room, over stretches of time.
use Rattle.std.proofs.Common.{◌≡◌, ℕ, ◌+◌, ◌<◌, ◌≤◌, length, List, [], ◌∷◌, ◌++◌, sum, Option, Some, None, IfSome, subst, ◌∙◌, refl, arith, inl, inr, length-append}
use Rattle.std.proofs.lemmas.List.{length-map}
use Rattle.stx_host.specs.declared.act.Act.{Act}
use Rattle.stx_host.specs.declared.act.Act.TheVariants.{Open, Read, Close, Write}
use Rattle.stx_host.specs.declared.act.Lane.{Lane}
use Rattle.stx_host.specs.declared.act.Lane.TheVariants.{Note, Out}
use Rattle.stx_host.specs.Before.{Between}
use Rattle.stx_host.specs.Outside.{Lacks, LacksRoom, Outside, Room, and_more, for_bytes, for_writes, writes, wrote}
use Rattle.stx_host.specs.Rooms.{needed, openings}
use Rattle.stx_host.proofs.Stretches.{and_nothing, between_writes}

where_some : {X : Type 0} (told : Option X) (P Q : X → Type 0) → ((x : X) → P x → Q x) → IfSome told P → IfSome told Q
where_some None P Q f holds = tt
where_some (Some x) P Q f holds = f x holds

-- who lacks room for some lacks it for more
pub lacks_more : (o : Outside) (some more : Room) → some.acts ≤ more.acts → some.ids ≤ more.ids → some.out ≤ more.out → some.note ≤ more.note → LacksRoom o some → LacksRoom o more
lacks_more o some more acts ids out note =
    where_some o.room (λ all. Lacks o all some) (λ all. Lacks o all more) (λ all lacks.
    elim lacks [
      | inl h ↦ inl (where_some o.log _ _ (λ log less. omega (arith, less, acts)) h)
      | inr rest ↦ elim rest [
        | inl h ↦ inr (inl (where_some o.open_ids _ _ (λ given less. omega (arith, less, ids)) h))
        | inr lanes ↦ elim lanes [
          | inl h ↦ inr (inr (inl (where_some o.out _ _ (λ taken less. omega (arith, less, out)) h)))
          | inr h ↦ inr (inr (inr (where_some o.note _ _ (λ taken less. omega (arith, less, note)) h)))
        ]
      ]
    ])

-- what is held then was held before, or came since
since : {X : Type 0} (told now : Option (List X)) (more : List X) → now ≡ and_more told more → (n k : ℕ) → IfSome now (λ xs. n < length xs + k) → IfSome told (λ xs. n < length xs + (length more + k))
since None now more e n k h = tt
since {X} (Some xs) now more e n k h =
    let less : n < length (xs ++ more) + k = subst (λ (o : Option (List X)). IfSome o (λ ys. n < length ys + k)) e h in
    omega (arith, less, length-append xs more)

-- who lacks room later lacked it for that and all that came in between
pub lacks_since : (old mid : Outside) (acts : List Act) (out note ids : List ℕ) (more : Room) → Between old mid acts out note → mid.open_ids ≡ and_more old.open_ids ids → LacksRoom mid more
    → LacksRoom old (record { acts = length acts + more.acts; ids = length ids + more.ids; out = length out + more.out; note = length note + more.note })
lacks_since old mid acts out note ids more between are_open lacks =
    let told : IfSome old.room (λ all. Lacks mid all more) = subst (λ room. IfSome room (λ all. Lacks mid all more)) between.room lacks in
    where_some old.room (λ all. Lacks mid all more) _ (λ all short.
    elim short [
      | inl h ↦ inl (since old.log mid.log acts between.log all.acts more.acts h)
      | inr rest ↦ elim rest [
        | inl h ↦ inr (inl (since old.open_ids mid.open_ids ids are_open all.ids more.ids h))
        | inr lanes ↦ elim lanes [
          | inl h ↦ inr (inr (inl (since old.out mid.out out between.out_lane all.out more.out h)))
          | inr h ↦ inr (inr (inr (since old.note mid.note note between.note_lane all.note more.note h)))
        ]
      ]
    ]) told

pub openings-append : (xs ys : List Act) → openings (xs ++ ys) ≡ openings xs + openings ys
openings-append [] ys = omega arith
openings-append (Open doc id ∷ xs) ys = omega (arith, openings-append xs ys)
openings-append (Read id got ∷ xs) ys = openings-append xs ys
openings-append (Close id ∷ xs) ys = openings-append xs ys
openings-append (Write lane len ∷ xs) ys = openings-append xs ys

-- who lacks room for some acts and bytes lacks it for more
pub needs_more : (o : Outside) (acts more : List Act) (out out' note note' : List ℕ) → LacksRoom o (needed acts out note) → LacksRoom o (needed (acts ++ more) (out ++ out') (note ++ note'))
needs_more o acts more out out' note note' =
    lacks_more o (needed acts out note) (needed (acts ++ more) (out ++ out') (note ++ note')) (omega (arith, length-append acts more)) (omega (arith, openings-append acts more)) (omega (arith, length-append out out')) (omega (arith, length-append note note'))

-- who lacks it after other acts, where no more ids are open then than documents were opened
pub needs_then : (old mid : Outside) (acts more : List Act) (out out' note note' ids : List ℕ) → Between old mid acts out note → mid.open_ids ≡ and_more old.open_ids ids → length ids ≤ openings acts
    → LacksRoom mid (needed more out' note') → LacksRoom old (needed (acts ++ more) (out ++ out') (note ++ note'))
needs_then old mid acts more out out' note note' ids between are_open few lacks =
    lacks_more old (record { acts = length acts + (length more + 1); ids = length ids + (openings more + 1); out = length out + length out'; note = length note + length note' }) (needed (acts ++ more) (out ++ out') (note ++ note'))
    (omega (arith, length-append acts more)) (omega (arith, openings-append acts more, few)) (omega (arith, length-append out out')) (omega (arith, length-append note note'))
    (lacks_since old mid acts out note ids (needed more out' note') between are_open lacks)

-- the same where those ids are open that were before
pub needs_after : (old mid : Outside) (acts more : List Act) (out out' note note' : List ℕ) → Between old mid acts out note → mid.open_ids ≡ old.open_ids
    → LacksRoom mid (needed more out' note') → LacksRoom old (needed (acts ++ more) (out ++ out') (note ++ note'))
needs_after old mid acts more out out' note note' between are_open = needs_then old mid acts more out out' note note' [] between (are_open ∙ and_nothing old.open_ids) (omega arith)

-- who lacks room for an id now, or for an act, lacked it for these acts and one more
pub needs_now : (old mid : Outside) (acts : List Act) (out note ids : List ℕ) (more : Room) → more.acts ≤ 1 → more.ids ≤ 1 → more.out ≡ 0 → more.note ≡ 0 → Between old mid acts out note → mid.open_ids ≡ and_more old.open_ids ids → length ids ≤ openings acts
    → LacksRoom mid more → LacksRoom old (needed acts out note)
needs_now old mid acts out note ids more one one_id none no_note between are_open few lacks =
    lacks_more old (record { acts = length acts + more.acts; ids = length ids + more.ids; out = length out + more.out; note = length note + more.note }) (needed acts out note)
    (omega (arith, one)) (omega (arith, few, one_id)) (omega (arith, none)) (omega (arith, no_note)) (lacks_since old mid acts out note ids more between are_open lacks)

-- who lacks room for a write after other writes lacked it for all of them
pub lacks_writes : (old : Outside) (lane : Lane) (lens front : List ℕ) (n all : ℕ) → sum lens ≡ length front → length front + n ≤ all → LacksRoom (wrote old lane lens front) (for_bytes lane n) → LacksRoom old (for_writes lane lens all)
lacks_writes old Out lens front n all total fits lacks =
    lacks_more old (record { acts = length (writes Out lens) + 1; ids = 0; out = length front + n; note = 0 }) (for_writes Out lens all)
    (omega (arith, length-map lens (λ len. Write Out len))) (omega arith) (omega (arith, fits)) (omega arith)
    (lacks_since old (wrote old Out lens front) (writes Out lens) front [] [] (for_bytes Out n) (between_writes old (wrote old Out lens front) Out lens front total refl) (and_nothing old.open_ids) lacks)
lacks_writes old Note lens front n all total fits lacks =
    lacks_more old (record { acts = length (writes Note lens) + 1; ids = 0; out = 0; note = length front + n }) (for_writes Note lens all)
    (omega (arith, length-map lens (λ len. Write Note len))) (omega arith) (omega arith) (omega (arith, fits))
    (lacks_since old (wrote old Note lens front) (writes Note lens) [] front [] (for_bytes Note n) (between_writes old (wrote old Note lens front) Note lens front total refl) (and_nothing old.open_ids) lacks)

-- who lacks room for some acts lacks it for more
pub needs_for : (o : Outside) (acts more : List Act) (out note : List ℕ) → LacksRoom o (needed acts out note) → LacksRoom o (needed (acts ++ more) out note)
needs_for o acts more out note = lacks_more o (needed acts out note) (needed (acts ++ more) out note) (omega (arith, length-append acts more)) (omega (arith, openings-append acts more)) (omega arith) (omega arith)
