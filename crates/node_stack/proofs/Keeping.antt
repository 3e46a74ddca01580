-- What a node keeps while it waits.
use Rattle.std.proofs.Common.{◌≡◌, ℕ, ◌-◌, Bool, true, false, ◌&&◌, min, if◌then◌else◌, List, Option, Some, None, refl, ap, sym, ◌∙◌, arith, encode_utf8_all}
use Rattle.std.specs.BTreeMap.{get_by_text}
use Rattle.std.specs.Str.{bytes_eq}
use Rattle.std.proofs.lemmas.Slice.Eq.{bytes_eq-Decides}
use Rattle.stx_base.specs.declared.name.Attr.{Attr}
use Rattle.stx_base.specs.declared.name.Binding.{Binding}
use Rattle.stx_base.specs.declared.name.Name.{Name}
use Rattle.stx_base.specs.declared.node.First.{First}
use Rattle.stx_base.specs.declared.node.NodeTest.TheVariants as test
use Rattle.node_stack.specs.Counts.{capped, none}
use Rattle.node_stack.specs.Few.{elements_among, times_among}
use Rattle.node_stack.specs.Open.{element_of, leaf_of, open_in, placed, KeepsOwn}
use Rattle.node_stack.specs.Path.{Node, Element, Pi, kind_of, parked}
use Rattle.node_stack.specs.Stack.{waiting}
use Rattle.node_stack.specs.Tally.{counts, without}
use Rattle.node_stack.specs.Test.{passes}
use Rattle.node_stack.specs.Times.{times}
use Rattle.node_stack.specs.declared.node.Leaf.{Leaf}
use Rattle.node_stack.specs.declared.open.OpenElement.{OpenElement}
use Rattle.node_stack.specs.declared.own.Own.{Own}
use Rattle.node_stack.specs.declared.parked.Waiting.TheVariants as wait
use Rattle.node_stack.specs.declared.tally.Tally.{Tally}

unbounded : (k : ℕ) → capped (min 18446744073709551615 k - 1) ≡ capped (k - 1)
unbounded k = omega arith

-- what is told by a text that is asked for is told by the node's own
like : (f : List ℕ → ℕ) (a b : List ℕ) (n : ℕ) (yes : Bool) → bytes_eq a b ≡ yes → n ≡ capped (f a - 1)
    → (if yes then n else 0) ≡ (if yes then without yes (f b) else 0)
like f a b n true e h = h ∙ ap (λ k. capped (f k - 1)) ((bytes_eq-Decides a b).0 e)
like f a b n false e h = refl

like_names : (f : List ℕ → List ℕ → ℕ) (a b c d : List ℕ) (n : ℕ) (x y : Bool) → bytes_eq a b ≡ x → bytes_eq c d ≡ y → n ≡ capped (f a c - 1)
    → (if x && y then n else 0) ≡ (if x && y then without (x && y) (f b d) else 0)
like_names f a b c d n true y e i h = like (f b) c d n y i (h ∙ ap (λ k. capped (f k c - 1)) ((bytes_eq-Decides a b).0 e))
like_names f a b c d n false y e i h = refl

-- the counts of an element
pub element_kept : (t : Tally) (name : Name) (attrs : List Attr) (decls : List Binding) (first : First) (o : Own)
    → o.alike ≡ capped (min 18446744073709551615 (times_among t.names (encode_utf8_all name.uri) (encode_utf8_all name.local)) - 1)
    → o.of_namespace ≡ capped (min 18446744073709551615 (elements_among t.names (encode_utf8_all name.uri)) - 1)
    → o.of_kind ≡ capped (t.elements - 1) → o.nodes ≡ capped (t.nodes - 1)
    → KeepsOwn t None (Element name attrs decls first) o
element_kept t name attrs decls first o alike space kind nodes test.Document = refl
element_kept t name attrs decls first o alike space kind nodes (test.Name n) =
    like_names (times_among t.names) _ _ _ _ o.alike _ _ refl refl (alike ∙ unbounded _)
element_kept t name attrs decls first o alike space kind nodes (test.Prefix b) =
    like (elements_among t.names) _ _ o.of_namespace _ refl (space ∙ unbounded _)
element_kept t name attrs decls first o alike space kind nodes test.AnyElement = kind
element_kept t name attrs decls first o alike space kind nodes test.AnyNode = nodes
element_kept t name attrs decls first o alike space kind nodes test.Chars = refl
element_kept t name attrs decls first o alike space kind nodes test.CData = refl
element_kept t name attrs decls first o alike space kind nodes test.Comment = refl
element_kept t name attrs decls first o alike space kind nodes test.AnyPi = refl
element_kept t name attrs decls first o alike space kind nodes (test.Pi u) = refl
element_kept t name attrs decls first o alike space kind nodes (test.AttrName n) = refl
element_kept t name attrs decls first o alike space kind nodes (test.AttrPrefix b) = refl
element_kept t name attrs decls first o alike space kind nodes test.AnyAttr = refl

pub instruction_kept : (t : Tally) (target text : List ℕ) (o : Own) → o.alike ≡ capped (min 18446744073709551615 (times (get_by_text t.targets (encode_utf8_all target))) - 1)
    → o.of_kind ≡ capped (t.instructions - 1) → o.nodes ≡ capped (t.nodes - 1) → KeepsOwn t None (Pi target text) o
instruction_kept t target text o alike kind nodes test.Document = refl
instruction_kept t target text o alike kind nodes (test.Name n) = refl
instruction_kept t target text o alike kind nodes (test.Prefix b) = refl
instruction_kept t target text o alike kind nodes test.AnyElement = refl
instruction_kept t target text o alike kind nodes test.AnyNode = nodes
instruction_kept t target text o alike kind nodes test.Chars = refl
instruction_kept t target text o alike kind nodes test.CData = refl
instruction_kept t target text o alike kind nodes test.Comment = refl
instruction_kept t target text o alike kind nodes test.AnyPi = kind
instruction_kept t target text o alike kind nodes (test.Pi u) = like (λ k. times (get_by_text t.targets k)) _ _ o.alike _ refl (alike ∙ unbounded _)
instruction_kept t target text o alike kind nodes (test.AttrName n) = refl
instruction_kept t target text o alike kind nodes (test.AttrPrefix b) = refl
instruction_kept t target text o alike kind nodes test.AnyAttr = refl

-- what waits is what ended
pub element_parked : (t : Tally) (e : OpenElement) (own : Own) → KeepsOwn t e.own (element_of e) own → parked (open_in t e) ≡ waiting (wait.Element e own)
element_parked t e own k = λ i. record { node = element_of e; earlier = λ q. sym (k q) i; children = counts e.children; waited = true }

pub leaf_parked : (t : Tally) (l : Leaf) (before : Option Own) (own : Own) → KeepsOwn t before (leaf_of l) own → parked (placed t before (leaf_of l) none) ≡ waiting (wait.Leaf l own)
leaf_parked t l before own k = λ i. record { node = leaf_of l; earlier = λ q. sym (k q) i; children = none; waited = true }

twice : (b : Bool) (n : ℕ) → (if b then n else 0) ≡ (if b then (if b then n else 0) else 0)
twice true n = refl
twice false n = refl

-- a node that waited keeps what it has
pub kept_again : (t : Tally) (own : Own) (x : Node) → KeepsOwn t (Some own) x own
kept_again t own x q = twice (passes q (kind_of x)) _
