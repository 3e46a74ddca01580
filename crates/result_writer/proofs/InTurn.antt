-- Parts that are put one after another.
use Rattle.std.proofs.Common.{◌≡◌, ℕ, Bool, true, false, not, is_some, List, [], ◌∷◌, ◌++◌, length, Option, Some, None, Result, Ok, Err, map, refl, ap, ◌∙◌, arith}
use Rattle.std.specs.Prelude.{IsErrAnd}
use Rattle.stx_base.specs.declared.name.Attr.{Attr}
use Rattle.stx_base.specs.declared.part.Part.{Part}
use Rattle.result_writer.specs.Nodes.{attribute_part}
use Rattle.result_writer.specs.Target.{Left, fault, first_fault, left_by, next, or_else}
use Rattle.result_writer.specs.declared.fault.ResultFault.{ResultFault}
use Rattle.result_writer.specs.declared.fault.WriteStop.{WriteStop}

none_both : (a b : Option ResultFault) → or_else a b ≡ None → (a ≡ None) × (b ≡ None)
none_both None b h = (refl, h)
none_both (Some f) b h = absurd (cc)

-- one part more that has no fault
pub allowed_more : (limit : ℕ) (l : Left) (ps : List Part) (p : Part) → first_fault limit l ps ≡ None → fault limit (left_by l ps) p ≡ None → first_fault limit l (ps ++ p ∷ []) ≡ None
allowed_more limit l [] p none here = ap (λ o. or_else o None) here
allowed_more limit l (q ∷ ps) p none here =
    let both = none_both (fault limit l q) (first_fault limit (next l q) ps) none in
    ap (λ o. or_else o (first_fault limit (next l q) (ps ++ p ∷ []))) both.0 ∙ allowed_more limit (next l q) ps p both.1 here

pub left_more : (l : Left) (ps : List Part) (p : Part) → left_by l (ps ++ p ∷ []) ≡ next (left_by l ps) p
left_more l [] p = refl
left_more l (q ∷ ps) p = left_more (next l q) ps p

pub parts_more : (xs ys : List Attr) → map attribute_part (xs ++ ys) ≡ map attribute_part xs ++ map attribute_part ys
parts_more [] ys = refl
parts_more (x ∷ xs) ys = ap (λ l. attribute_part x ∷ l) (parts_more xs ys)

pub refused_with : {A : Type 0} (r : Result A WriteStop) (e : WriteStop) → IsErrAnd r (λ s. s ≡ e) → r ≡ Err e
refused_with (Ok done) e h = absurd h
refused_with (Err s) e h = ap Err h

no_value : {A : Type 0} (o : Option A) → is_some o ≡ false → o ≡ None
no_value None h = refl
no_value (Some x) h = absurd (cc)

pub is_nothing : {A : Type 0} (o : Option A) (nothing : Bool) → is_some o ≡ not nothing → nothing ≡ true → o ≡ None
is_nothing o nothing is here = no_value o (is ∙ ap not here)

pub none_left : {A : Type 0} (l : List A) → length l ≡ 0 → l ≡ []
none_left [] h = refl
none_left (x ∷ xs) h = absurd (omega arith)
