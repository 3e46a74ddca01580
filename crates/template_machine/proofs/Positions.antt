-- Positions count the earlier nodes of a list.
use Rattle.std.proofs.Common.{◌≡◌, ℕ, ◌+◌, Bool, true, false, cond, List, [], ◌∷◌, ◌++◌, Some, count_by, if◌then◌else◌, length, reverse, refl, ap, sym, ◌∙◌, arith}
use Rattle.std.specs.Prelude.{slice_get}
use Rattle.std.specs.Option.{option_map}
use Rattle.std.proofs.lemmas.List.{append_assoc, length-reverse, reverse-append}
use Rattle.std.proofs.lemmas.List.Sums.{sum_by-cons}
use Rattle.std.proofs.lemmas.Option.{slice_get-map}
use Rattle.stx_base.specs.declared.node.NodeTest.{NodeTest}
use Rattle.node_stack.specs.Counts.{capped, raised}
use Rattle.node_stack.specs.Path.{Node, kind_of, position_at}
use Rattle.node_stack.specs.Test.{passes}
use Rattle.template_machine.specs.Laws.{PositionsCountEarlier, behind}
use Rattle.template_machine.specs.Trail.{Stand, Trail, one_more, path_node, path_of, stand}

one_at : (b : Bool) (n : ℕ) → cond b 1 0 + n ≡ (if b then n + 1 else n)
one_at true n = omega arith
one_at false n = omega arith

-- one more or not, on either side
moved : (b : Bool) (m n k : ℕ) → k ≡ cond b 1 0 + n → (if b then m + 1 else m) + n ≡ m + k
moved true m n k e = omega arith
moved false m n k e = omega arith

raised_count : (b : Bool) (n m : ℕ) → n ≡ capped m → (if b then raised n else n) ≡ capped (if b then m + 1 else m)
raised_count true n m e = omega arith
raised_count false n m e = e

module _ (t : NodeTest) where
  abbrev fits : Node → Bool
  fits n = passes t (kind_of n)

  counted_behind : (ns : List Node) (earlier : NodeTest → ℕ) (m : ℕ) → earlier t ≡ capped m → behind ns earlier t ≡ capped (m + count_by fits ns)
  counted_behind [] earlier m e = e ∙ ap capped (omega arith)
  counted_behind (n ∷ ns) earlier m e =
      counted_behind ns (one_more n earlier) (if fits n then m + 1 else m) (raised_count (fits n) (earlier t) m e)
      ∙ ap capped (moved (fits n) m (count_by fits ns) (count_by fits (n ∷ ns)) (sum_by-cons (λ x. cond (fits x) 1 0) n ns))

  counted_none : (ns : List Node) → behind ns (λ t. 0) t ≡ capped (count_by fits ns)
  counted_none ns = counted_behind ns (λ t. 0) 0 refl ∙ ap capped (omega arith)

at_seam : {A : Type 0} (xs : List A) (y : A) (ys : List A) → slice_get (xs ++ y ∷ ys) (length xs) ≡ Some y
at_seam [] y ys = refl
at_seam (x ∷ xs) y ys = at_seam xs y ys

-- what stands on a way, counted from the document node
on_way : (nearer within : Trail) (s : Stand) → slice_get (path_of (nearer ++ s ∷ within)).nodes (length within) ≡ Some (path_node s)
on_way nearer within s =
    slice_get-map path_node (reverse (nearer ++ s ∷ within)) (length within)
    ∙ ap (λ o. option_map path_node o)
    (ap (λ l. slice_get l (length within)) (reverse-append nearer (s ∷ within))
    ∙ ap (λ l. slice_get (l ++ reverse nearer) (length within)) (reverse-append (s ∷ []) within)
    ∙ ap (λ n. slice_get ((reverse within ++ s ∷ []) ++ reverse nearer) n) (sym (length-reverse within))
    ∙ ap (λ l. slice_get l (length (reverse within))) (append_assoc (reverse within) (s ∷ []) (reverse nearer))
    ∙ at_seam (reverse within) s (reverse nearer))

kept : (b : Bool) (n : ℕ) → b ≡ true → (if b then n else 0) ≡ n
kept true n e = refl
kept false n e = absurd (cc)

pub positions_count : PositionsCountEarlier
positions_count ns n within nearer t e =
    ap (position_at t) (on_way nearer within (stand n (behind ns (λ t. 0))))
    ∙ ap (λ k. k + 1) (kept (passes t (kind_of n)) _ e ∙ counted_none t ns)
