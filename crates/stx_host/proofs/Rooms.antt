-- Where a host in memory can't give an id.
use Rattle.std.proofs.Common.{◌≡◌, ◌∙◌, ℕ, zero, suc, ◌+◌, ◌-◌, ◌^◌, ◌<◌, ◌≤◌, ◌==◌, ◌&&◌, Bool, true, false, cond, nat_le, nat_lt, count_by, length, List, [], ◌∷◌, IfSome, Contains, refl, sym, subst, inl, inr, arith}
use Rattle.std.proofs.lemmas.Bool.{cases_lt, false≢true}
use Rattle.std.proofs.lemmas.List.{length-map}
use Rattle.stx_host.specs.declared.act.Fail.{Fail}
use Rattle.stx_host.specs.declared.mem_host.MemHost.{MemHost}
use Rattle.stx_host.specs.Outside.{LacksRoom, Room, for_id, is_among}
use Rattle.stx_host.specs.MemHost.{OpenFails, outside_of, room_of, unless_listed}
use Rattle.stx_host.specs.Table.{IsEachOpen, count_between, ids_of}
use Rattle.stx_host.proofs.Counted.{between_cons, count_last, uncounted}

-- where each number of a range is open, there are as many ids as numbers
many : (ids : List ℕ) (low n : ℕ) → ((id : ℕ) → low ≤ id → id < low + n → is_among ids id ≡ true) → n ≤ count_between low (low + n) ids
many ids low zero are = omega arith
many ids low (suc n) are =
    let last = count_last low (low + n) (low + suc n) (omega arith) (omega arith) ids in
    let before = many ids low n (λ id above below. are id above (omega (arith, below))) in
    let here : is_among ids (low + n) ≡ true = are (low + n) (omega arith) (omega arith) in
    elim (cases_lt 0 (count_by (λ k. k == low + n) ids)) [
      | inl some ↦ omega (arith, last, before, some)
      | inr none ↦ absurd (false≢true (sym (uncounted ids (low + n) (omega (arith, none))) ∙ here))
    ]

few_step : (b : Bool) → cond b 1 0 ≤ 1
few_step true = omega arith
few_step false = omega arith

few : (low high : ℕ) (ids : List ℕ) → count_between low high ids ≤ length ids
few low high [] = omega arith
few low high (id ∷ ids) = omega (arith, between_cons low high id ids, few low high ids, few_step (nat_le low id && nat_lt id high))

all_open : (ids : List ℕ) → IsEachOpen ids → 2 ^ 32 - 1 ≤ length ids
all_open ids are = omega (arith, many ids 1 (2 ^ 32 - 1) (λ id above below. are id (omega (arith, above)) (omega (arith, below))), few 1 (1 + (2 ^ 32 - 1)) ids)

where_none : (fails : List Fail) (room : Room) (P : Room → Type 0) → (fails ≡ [] → P room) → IfSome (unless_listed fails room) P
where_none [] room P holds = holds refl
where_none (fail ∷ fails) room P holds = tt

not_listed : (fails : List Fail) (fail : Fail) → fails ≡ [] → Contains fails fail → ⊥
not_listed fails fail none listed = let there : Contains [] fail = subst (λ l. Contains l fail) none listed in omega (arith, there.1)

-- where `open` fails
pub open_lacks : (host : MemHost) (name : List ℕ) → OpenFails host name → LacksRoom (outside_of host) for_id
open_lacks host name fails =
    where_none host.fails (room_of host) _ (λ none. elim fails [
      | inl call ↦ elim call [ inl listed ↦ absurd (not_listed host.fails _ none listed) | inr full ↦ inl (omega (arith, full, host.log.ok.0)) ]
      | inr lacks ↦ elim lacks.1 [
        | inl full ↦ inr (inl (omega (arith, full, host.table.slots.ok.0, length-map host.table.slots.items (λ slot. slot.id))))
        | inr each ↦ inr (inl (omega (arith, all_open (ids_of host.table.slots.items) each)))
      ]
    ])
