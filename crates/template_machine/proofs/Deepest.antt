-- How many elements are open at once.
use Rattle.std.proofs.Common.{◌≡◌, ◌≤◌, ◌+◌, ℕ, max, List, [], ◌∷◌, arith}
use Rattle.stx_base.specs.declared.part.Part.{Part}
use Rattle.stx_base.specs.declared.part.Part.TheVariants as part
use Rattle.sheet_model.specs.declared.sheet.Buffer.{Buffer}
use Rattle.template_machine.specs.Programs.{deepest_from, deepest_of, open_behind}

pub at_least : (n : ℕ) (ps : List Part) → n ≤ deepest_from n ps
at_least n [] = omega arith
at_least n (p ∷ ps) = omega arith

-- one part more
pub deeper : (count deep : ℕ) (p : Part) (ps : List Part) → count ≤ deep
    → max (max deep (open_behind count p)) (deepest_from (open_behind count p) ps) ≡ max deep (deepest_from count (p ∷ ps))
deeper count deep p ps le = omega (arith, at_least (open_behind count p) ps)

pub one_more : (count : ℕ) (p : Part) → open_behind count p ≤ count + 1
one_more count (part.Start name scope) = omega arith
one_more count (part.End name) = omega arith
one_more count p = omega arith

-- one buffer more
pub deeper_buffer : (n d : ℕ) (bs : List Buffer) → deepest_of (max n d) bs ≡ max d (deepest_of n bs)
deeper_buffer n d [] = omega arith
deeper_buffer n d (b ∷ bs) = omega (arith, deeper_buffer n d bs)
