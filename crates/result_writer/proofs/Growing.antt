-- Bytes that only grow.
use Rattle.std.proofs.Common.{ℕ, List, [], ◌++◌, refl, sym, ap, ◌∙◌, append_assoc, append-nil}
use Rattle.stx_base.specs.Course.{Begins}

pub begins_self : (a : List ℕ) → Begins a a
begins_self a = ([], append-nil a)

pub begins_append : (a x : List ℕ) → Begins a (a ++ x)
begins_append a x = (x, refl)

pub begins_trans : (a b c : List ℕ) → Begins a b → Begins b c → Begins a c
begins_trans a b c h k = (h.0 ++ k.0, sym (append_assoc a h.0 k.0) ∙ ap (λ l. l ++ k.0) h.1 ∙ k.1)
