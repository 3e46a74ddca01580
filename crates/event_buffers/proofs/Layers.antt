-- Lemmas on one copy.
use Rattle.std.proofs.Common.{◌≡◌, ℕ, ◌+◌, ◌<◌, ◌≤◌, ◌^◌, Bool, true, List, Option, Some, None, refl, sym, ap, ◌∙◌, subst, arith}
use Rattle.std.specs.Prelude.{if◌then◌else◌, min, nat_le}
use Rattle.std.proofs.lemmas.Bool.{le-leb, lt-leb}
use Rattle.stx_base.specs.declared.part.Part.{Part}
use Rattle.result_writer.specs.Target.{Target, fault}
use Rattle.result_writer.specs.declared.fault.ResultFault.{ResultFault}
use Rattle.event_buffers.specs.Inside.{state_of}
use Rattle.event_buffers.specs.Layer.{Layer, Reading, Shut, State, Writing, fault_in, is_writing, or_full, own_weight, put_into, refusal, weighs, with_part}
use Rattle.event_buffers.specs.Weight.{held_weight, kept_weight, part_weight, replaced_weight}
use Rattle.event_buffers.specs.declared.fault.BufferFault.TheVariants.{Full, Result}
use Rattle.event_buffers.specs.declared.kept.Kept.{Kept}
use Rattle.event_buffers.specs.declared.layer.Use.{Use}
use Rattle.event_buffers.specs.declared.layer.Use.TheVariants as used
use Rattle.event_buffers.proofs.Growing.{grown}

-- a copy that is open to be written
pub writes : (u : Use) (t : Target) → is_writing (state_of u t) ≡ true → state_of u t ≡ Writing t
writes used.Shut t h = absurd cc
writes used.Writing t h = refl
writes used.Reading t h = absurd cc

abbrev at : (b : Bool) (ks : List Kept) → State → Layer
at b ks state = record { declared = b; kept = ks; state = state }

pub judged_at : (u : Use) (t : Target) (p : Part) → is_writing (state_of u t) ≡ true → fault_in (state_of u t) p ≡ fault t.limit t.left p
judged_at u t p w = ap (λ s. fault_in s p) (writes u t w)

weighs_at : (b : Bool) (ks : List Kept) (t : Target) (p : Part) (behind : ℕ) → fault t.limit t.left p ≡ None
    → behind + replaced_weight t.left p ≡ own_weight (at b ks (Writing t)) + part_weight p → behind ≡ own_weight (with_part p (at b ks (Writing t)))
weighs_at b ks t p behind f e = let g = grown ks t p f in omega (arith, e, g)

-- the weight behind a part that has no fault
pub weight_at : (b : Bool) (ks : List Kept) (u : Use) (t : Target) (p : Part) (behind : ℕ) → is_writing (state_of u t) ≡ true → fault t.limit t.left p ≡ None
    → behind + replaced_weight t.left p ≡ own_weight (at b ks (state_of u t)) + part_weight p → behind ≡ own_weight (with_part p (at b ks (state_of u t)))
weight_at b ks u t p behind w f e =
    let P : State → Type 0 = λ s. behind + replaced_weight t.left p ≡ own_weight (at b ks s) + part_weight p → behind ≡ own_weight (with_part p (at b ks s)) in
    subst P (sym (writes u t w)) (weighs_at b ks t p behind f) e

held_at : (b : Bool) (ks : List Kept) (t : Target) → held_weight t.left.held ≤ own_weight (at b ks (Writing t))
held_at b ks t = omega arith

-- a tag that is held back is weighed
pub held_within : (b : Bool) (ks : List Kept) (u : Use) (t : Target) → is_writing (state_of u t) ≡ true → held_weight t.left.held ≤ own_weight (at b ks (state_of u t))
held_within b ks u t w = let P : State → Type 0 = λ s. held_weight t.left.held ≤ own_weight (at b ks s) in subst P (sym (writes u t w)) (held_at b ks t)

-- Limits.

fits : (limit x own : ℕ) → limit < 2 ^ 64 → min x (2 ^ 64) + own ≤ limit → x + own ≤ limit
fits limit x own b h = omega arith

over : (limit x own : ℕ) → limit < min x (2 ^ 64) + own → limit < x + own
over limit x own h = omega arith

-- what a copy begins with stays
front : (s : State) (p : Part) (c : Layer) → (put_into s p c).declared ≡ c.declared
front Shut p c = refl
front (Writing t) p c = refl
front Reading p c = refl

total : (d : List Kept) (p : Part) (c : Layer) (own : ℕ) → own ≡ own_weight (with_part p c)
    → weighs d (with_part p c) ≡ (if c.declared then kept_weight d else 0) + own
total d p c own e =
    ap (λ b. (if b then kept_weight d else 0) + own_weight (with_part p c)) (front c.state p c)
    ∙ ap (λ w. (if c.declared then kept_weight d else 0) + w) (sym e)

pub taken : (limit : ℕ) (d : List Kept) (p : Part) (c : Layer) (own : ℕ) → limit < 2 ^ 64 → own ≡ own_weight (with_part p c) → fault_in c.state p ≡ None
    → min (if c.declared then kept_weight d else 0) (2 ^ 64) + own ≤ limit → refusal limit d p c ≡ None
taken limit d p c own b e f h =
    ap (λ o. or_full o limit (weighs d (with_part p c))) f
    ∙ ap (λ w. if nat_le w limit then None else Some Full) (total d p c own e)
    ∙ ap (λ t. if t then None else Some Full) (le-leb _ _ (fits limit (if c.declared then kept_weight d else 0) own b h))

pub refused : (limit : ℕ) (d : List Kept) (p : Part) (c : Layer) (own : ℕ) → own ≡ own_weight (with_part p c) → fault_in c.state p ≡ None
    → limit < min (if c.declared then kept_weight d else 0) (2 ^ 64) + own → refusal limit d p c ≡ Some Full
refused limit d p c own e f h =
    ap (λ o. or_full o limit (weighs d (with_part p c))) f
    ∙ ap (λ w. if nat_le w limit then None else Some Full) (total d p c own e)
    ∙ ap (λ t. if t then None else Some Full) (lt-leb _ _ (over limit (if c.declared then kept_weight d else 0) own h))

pub faulty : (limit : ℕ) (d : List Kept) (p : Part) (c : Layer) (f : ResultFault) → fault_in c.state p ≡ Some f → refusal limit d p c ≡ Some (Result f)
faulty limit d p c f e = ap (λ o. or_full o limit (weighs d (with_part p c))) e

no_fault : (o : Option ResultFault) (limit weight : ℕ) → or_full o limit weight ≡ None → o ≡ None
no_fault None limit weight h = refl
no_fault (Some f) limit weight h = absurd cc

-- a part that isn't refused has no fault
pub unrefused : (limit : ℕ) (d : List Kept) (p : Part) (c : Layer) → refusal limit d p c ≡ None → fault_in c.state p ≡ None
unrefused limit d p c h = no_fault (fault_in c.state p) limit (weighs d (with_part p c)) h
