-- What is kept of parts, one after another.
use Rattle.std.proofs.Common.{◌≡◌, ℕ, ◌+◌, ◌<◌, List, ◌++◌, Option, Some, None, drop, get_or, length, sym, ap, ◌∙◌, append_assoc}
use Rattle.stx_base.specs.declared.part.Part.{Part}
use Rattle.result_writer.specs.Target.{Target, behind, fault, first_fault, next, or_else}
use Rattle.result_writer.specs.declared.fault.ResultFault.{ResultFault}
use Rattle.event_buffers.specs.Kept.{added, kept_from, kept_of}
use Rattle.event_buffers.specs.declared.kept.Kept.{Kept}
use Rattle.event_buffers.proofs.Joining.{from_item}

-- so far these are kept, and the parts from a place on have no fault
abbrev pub IsSoFar : (ps : List Part) → (place : ℕ) → List Kept → Target → Type 0
IsSoFar ps place ks t =
    (ks ++ kept_from t.left (drop place ps) ≡ kept_of ps) × (first_fault (length ps) t.left (drop place ps) ≡ None) × (t.limit ≡ length ps)

rest_none : (a b : Option ResultFault) → or_else a b ≡ None → b ≡ None
rest_none None b h = h
rest_none (Some f) b h = absurd cc

pub next_kept : (ps : List Part) (place : ℕ) (ks new : List Kept) (t u : Target) (p : Part) → place < length ps → p ≡ get_or ps place p
    → IsSoFar ps place ks t → new ≡ ks ++ added t.left p → u ≡ behind t p → IsSoFar ps (place + 1) new u
next_kept ps place ks new t u p lt is h kept left =
    let rest = from_item ps place p lt is in (
      ap (λ l. l ++ kept_from u.left (drop (place + 1) ps)) kept
          ∙ ap (λ (v : Target). (ks ++ added t.left p) ++ kept_from v.left (drop (place + 1) ps)) left
          ∙ append_assoc ks (added t.left p) (kept_from (next t.left p) (drop (place + 1) ps))
          ∙ ap (λ l. ks ++ kept_from t.left l) (sym rest) ∙ h.0,
      ap (λ (v : Target). first_fault (length ps) v.left (drop (place + 1) ps)) left
          ∙ rest_none (fault (length ps) t.left p) _ (ap (first_fault (length ps) t.left) (sym rest) ∙ h.1),
      ap (λ (v : Target). v.limit) left ∙ h.2,
    )
