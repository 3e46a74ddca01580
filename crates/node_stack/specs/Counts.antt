-- What positions need of the nodes that a list has had so far.
use Rattle.std.specs.Prelude.{ℕ, ◌+◌, Bool, true, false, ◌&&◌, ◌==◌, not, min, if◌then◌else◌, List, [], ◌∷◌}
use Rattle.std.specs.List.{list_any}
use Rattle.stx_base.specs.declared.node.NodeTest.{NodeTest}
use Rattle.stx_base.specs.declared.node.NodeTest.TheVariants as test
use Rattle.node_stack.specs.Test.{Kind, Element, Pi, passes, same, same_name}

-- the greatest number of earlier nodes that positions tell: the greatest position, 2^63 - 1, has so many before it
abbrev pub most : ℕ
most = 9223372036854775806

abbrev pub capped : ℕ → ℕ
capped n = min most n

abbrev pub raised : ℕ → ℕ
raised n = min most (n + 1)

-- how many nodes pass each test, as far as positions tell, and how many element names and targets these nodes have
pub record Counts : Type 0 where
  pub passing : NodeTest → ℕ
  pub names : ℕ

abbrev pub none : Counts
none = record { passing = λ t. 0; names = 0 }

-- the first element of its name, or the first instruction of its target
abbrev pub is_new : Kind → Counts → Bool
is_new (Element n) c = c.passing (test.Name n) == 0
is_new (Pi t) c = c.passing (test.Pi t) == 0
is_new x c = false

-- one node more
abbrev pub counted : Kind → Counts → Counts
counted x c = record {
  passing = λ t. if passes t x then raised (c.passing t) else c.passing t;
  names = c.names + (if is_new x c then 1 else 0);
}

-- the counts of a list, one node after the other
abbrev pub counted_all : Counts → List Kind → Counts
counted_all c [] = c
counted_all c (x ∷ xs) = counted_all (counted x c) xs

-- elements of one name, or instructions of one target
abbrev pub same_kind : Kind → Kind → Bool
same_kind (Element m) (Element n) = same_name m n
same_kind (Pi t) (Pi u) = same t u
same_kind x y = false

abbrev pub is_named : Kind → Bool
is_named (Element n) = true
is_named (Pi t) = true
is_named x = false

-- the names and targets of a list that none before has, each where it first stands
abbrev pub distinct_beside : (before : List Kind) → List Kind → List Kind
distinct_beside before [] = []
distinct_beside before (x ∷ xs) =
    let behind = distinct_beside (x ∷ before) xs in
    if is_named x && not (list_any (λ y. same_kind y x) before) then x ∷ behind else behind

abbrev pub distinct : List Kind → List Kind
distinct = distinct_beside []
