-- What the counters of a list mean.
use Rattle.std.specs.Prelude.{ℕ, ◌+◌, ◌-◌, Bool, if◌then◌else◌, encode_utf8_all}
use Rattle.std.specs.BTreeMap.{get_by_text, btree_map_len}
use Rattle.stx_base.specs.declared.node.NodeTest.{NodeTest}
use Rattle.stx_base.specs.declared.node.NodeTest.TheVariants as test
use Rattle.node_stack.specs.Counts.{Counts, capped}
use Rattle.node_stack.specs.Few.{elements_among, names_among, times_among}
use Rattle.node_stack.specs.Test.{Kind, CData, Element, Chars, Comment, Pi, passes}
use Rattle.node_stack.specs.Times.{times}
use Rattle.node_stack.specs.declared.tally.Child.{Child}
use Rattle.node_stack.specs.declared.tally.Child.TheVariants as child
use Rattle.node_stack.specs.declared.tally.Tally.{Tally}

abbrev pub kind_of : Child → Kind
kind_of (child.Element name) = Element name.now
kind_of child.Chars = Chars
kind_of child.CData = CData
kind_of child.Comment = Comment
kind_of (child.Pi target) = Pi target.now

-- how many nodes pass a test
abbrev pub count_of : Tally → NodeTest → ℕ
count_of t test.Document = 0
count_of t (test.Name n) = times_among t.names (encode_utf8_all n.uri) (encode_utf8_all n.local)
count_of t (test.Prefix b) = elements_among t.names (encode_utf8_all b.uri)
count_of t test.AnyElement = t.elements
count_of t test.AnyNode = t.nodes
count_of t test.Chars = t.chars
count_of t test.CData = t.cdata
count_of t test.Comment = t.comments
count_of t test.AnyPi = t.instructions
count_of t (test.Pi target) = times (get_by_text t.targets (encode_utf8_all target))
count_of t (test.AttrName n) = 0
count_of t (test.AttrPrefix b) = 0
count_of t test.AnyAttr = 0

abbrev pub counts : Tally → Counts
counts t = record {
  passing = λ q. capped (count_of t q);
  names = names_among t.names + btree_map_len t.targets;
}

-- without the one node itself, which is counted too
abbrev pub without : (is_one : Bool) → ℕ → ℕ
without is_one n = capped (if is_one then n - 1 else n)

-- how many nodes pass a test beside a node of the list
abbrev pub before : Tally → Kind → NodeTest → ℕ
before t x q = without (passes q x) (count_of t q)
