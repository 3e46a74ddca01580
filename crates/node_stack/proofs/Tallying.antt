-- What counters tell after one node more.
use Rattle.std.proofs.Common.{◌≡◌, ℕ, ◌+◌, ◌<◌, ◌==◌, Bool, true, false, ◌⊎◌, inl, inr, if◌then◌else◌, List, Option, Some, None, refl, ap, sym, ◌∙◌, arith, encode_utf8_all}
use Rattle.std.proofs.lemmas.Bool.{cases_eq, eqb-true}
use Rattle.std.specs.BTreeMap.{get_by_text, btree_map_len}
use Rattle.std.specs.Option.{is_none}
use Rattle.stx_base.specs.declared.name.Name.{Name}
use Rattle.stx_base.specs.declared.node.NodeTest.{NodeTest}
use Rattle.stx_base.specs.declared.node.NodeTest.TheVariants as test
use Rattle.node_stack.specs.Counts.{Counts, capped, counted, raised}
use Rattle.node_stack.specs.Few.{CountsOne, elements_among, names_among, times_among, told}
use Rattle.node_stack.specs.Tally.{before, counts, without}
use Rattle.node_stack.specs.Test.{Element, Pi}
use Rattle.node_stack.specs.Times.{CountsText, more, once_more, times}
use Rattle.node_stack.specs.declared.tally.Tally.{Tally}

same_counts : (c d : Counts) → ((t : NodeTest) → c.passing t ≡ d.passing t) → c.names ≡ d.names → c ≡ d
same_counts c d passing names = λ i. record { passing = λ t. passing t i; names = names i }

times_at : (b : Bool) (o : Option ℕ) → capped (times (if b then once_more o else o)) ≡ (if b then raised (capped (times o)) else capped (times o))
times_at true None = refl
times_at true (Some n) = omega arith
times_at false o = refl

count_at : (b : Bool) (n : ℕ) → capped (if b then more n else n) ≡ (if b then raised (capped n) else capped n)
count_at true n = omega arith
count_at false n = refl

not_zero_at : (n : ℕ) (b : Bool) → (n == 0) ≡ b → 0 < n → b ≡ false
not_zero_at n true e h = let z : n ≡ 0 = eqb-true n 0 e in absurd (omega arith)
not_zero_at n false e h = refl

pub not_zero : (n : ℕ) → 0 < n → (n == 0) ≡ false
not_zero n h = not_zero_at n (n == 0) refl h

-- what came never is what has no entry
new_at : (o : Option ℕ) → (capped (times o) == 0) ≡ is_none o
new_at None = refl
new_at (Some n) = not_zero _ (omega arith)

-- one more, where positions tell them apart
one_told : (b : Bool) (old new : ℕ) → told new ≡ told (if b then old + 1 else old) → capped new ≡ (if b then raised (capped old) else capped old)
one_told true old new h = omega arith
one_told false old new h = omega arith

one_before : (b : Bool) (old new : ℕ) → told new ≡ told (if b then old + 1 else old) → without b new ≡ capped old
one_before true old new h = omega arith
one_before false old new h = omega arith

more_before : (old new : ℕ) → new ≡ more old → without true new ≡ capped old
more_before old new h = omega arith

-- what came never is what isn't told
new_name : (n : ℕ) → (capped n == 0) ≡ (n == 0)
new_name n = by_cases n (cases_eq n 0) where
  by_cases : (n : ℕ) → (n ≡ 0) ⊎ (n ≡ 0 → ⊥) → (capped n == 0) ≡ (n == 0)
  by_cases n (inl e) = rw e refl
  by_cases n (inr e) = let more : 0 < n = omega arith in not_zero _ (omega arith) ∙ sym (not_zero n more)

-- the counters of new are those of old with one element of the name more
record OneElement (old new : Tally) (name : Name) : Type 0 where
  names : CountsOne old.names new.names (encode_utf8_all name.uri) (encode_utf8_all name.local)
  targets : new.targets ≡ old.targets
  elements : new.elements ≡ more old.elements
  nodes : new.nodes ≡ more old.nodes
  chars : new.chars ≡ old.chars
  cdata : new.cdata ≡ old.cdata
  comments : new.comments ≡ old.comments
  instructions : new.instructions ≡ old.instructions

element_passing : (old new : Tally) (name : Name) → OneElement old new name → (t : NodeTest) → (counts new).passing t ≡ (counted (Element name) (counts old)).passing t
element_passing old new name h test.Document = refl
element_passing old new name h (test.Name n) = one_told _ _ _ (h.names.counted _ _)
element_passing old new name h (test.Prefix b) = one_told _ _ _ (h.names.elements _)
element_passing old new name h test.AnyElement = ap capped h.elements ∙ count_at true _
element_passing old new name h test.AnyNode = ap capped h.nodes ∙ count_at true _
element_passing old new name h test.Chars = ap capped h.chars
element_passing old new name h test.CData = ap capped h.cdata
element_passing old new name h test.Comment = ap capped h.comments
element_passing old new name h test.AnyPi = ap capped h.instructions
element_passing old new name h (test.Pi t) = ap (λ m. capped (times (get_by_text m (encode_utf8_all t)))) h.targets
element_passing old new name h (test.AttrName n) = refl
element_passing old new name h (test.AttrPrefix b) = refl
element_passing old new name h test.AnyAttr = refl

pub element_counted : (old new : Tally) (name : Name)
    → CountsOne old.names new.names (encode_utf8_all name.uri) (encode_utf8_all name.local)
    → new.targets ≡ old.targets → new.elements ≡ more old.elements → new.nodes ≡ more old.nodes
    → new.chars ≡ old.chars → new.cdata ≡ old.cdata → new.comments ≡ old.comments → new.instructions ≡ old.instructions
    → counts new ≡ counted (Element name) (counts old)
element_counted old new name names targets elements nodes chars cdata comments instructions =
    let n : ℕ = times_among old.names (encode_utf8_all name.uri) (encode_utf8_all name.local) in
    same_counts (counts new) (counted (Element name) (counts old))
    (element_passing old new name (record { names = names; targets = targets; elements = elements; nodes = nodes; chars = chars; cdata = cdata; comments = comments; instructions = instructions }))
    (ap (λ k. k + btree_map_len new.targets) names.len ∙ ap (λ t. names_among old.names + (if n == 0 then 1 else 0) + btree_map_len t) targets
    ∙ rw (new_name n) (omega arith))

-- the counters of new are those of old with one instruction for the target more
record OneInstruction (old new : Tally) (target : List ℕ) : Type 0 where
  texts : CountsText old.targets new.targets (encode_utf8_all target)
  names : new.names ≡ old.names
  instructions : new.instructions ≡ more old.instructions
  nodes : new.nodes ≡ more old.nodes
  chars : new.chars ≡ old.chars
  cdata : new.cdata ≡ old.cdata
  comments : new.comments ≡ old.comments
  elements : new.elements ≡ old.elements

instruction_passing : (old new : Tally) (target : List ℕ) → OneInstruction old new target → (t : NodeTest) → (counts new).passing t ≡ (counted (Pi target) (counts old)).passing t
instruction_passing old new target h test.Document = refl
instruction_passing old new target h (test.Name n) = ap (λ m. capped (times_among m (encode_utf8_all n.uri) (encode_utf8_all n.local))) h.names
instruction_passing old new target h (test.Prefix b) = ap (λ m. capped (elements_among m (encode_utf8_all b.uri))) h.names
instruction_passing old new target h test.AnyElement = ap capped h.elements
instruction_passing old new target h test.AnyNode = ap capped h.nodes ∙ count_at true _
instruction_passing old new target h test.Chars = ap capped h.chars
instruction_passing old new target h test.CData = ap capped h.cdata
instruction_passing old new target h test.Comment = ap capped h.comments
instruction_passing old new target h test.AnyPi = ap capped h.instructions ∙ count_at true _
instruction_passing old new target h (test.Pi t) = ap (λ o. capped (times o)) (h.texts.counted _) ∙ times_at _ _
instruction_passing old new target h (test.AttrName n) = refl
instruction_passing old new target h (test.AttrPrefix b) = refl
instruction_passing old new target h test.AnyAttr = refl

pub instruction_counted : (old new : Tally) (target : List ℕ)
    → CountsText old.targets new.targets (encode_utf8_all target)
    → new.names ≡ old.names → new.instructions ≡ more old.instructions → new.nodes ≡ more old.nodes
    → new.chars ≡ old.chars → new.cdata ≡ old.cdata → new.comments ≡ old.comments → new.elements ≡ old.elements
    → counts new ≡ counted (Pi target) (counts old)
instruction_counted old new target texts names instructions nodes chars cdata comments elements =
    let o : Option ℕ = get_by_text old.targets (encode_utf8_all target) in
    same_counts (counts new) (counted (Pi target) (counts old))
    (instruction_passing old new target (record { texts = texts; names = names; instructions = instructions; nodes = nodes; chars = chars; cdata = cdata; comments = comments; elements = elements }))
    (ap (λ n. names_among n + btree_map_len new.targets) names ∙ ap (λ n. names_among old.names + n) texts.len ∙ rw (new_at o) (omega arith))

-- without the one element itself, all is told as before
pub element_before : (old new : Tally) (name : Name)
    → CountsOne old.names new.names (encode_utf8_all name.uri) (encode_utf8_all name.local)
    → new.targets ≡ old.targets → new.elements ≡ more old.elements → new.nodes ≡ more old.nodes
    → new.chars ≡ old.chars → new.cdata ≡ old.cdata → new.comments ≡ old.comments → new.instructions ≡ old.instructions
    → before new (Element name) ≡ (counts old).passing
element_before old new name names targets elements nodes chars cdata comments instructions = λ i. λ q. each q i where
  each : (q : NodeTest) → before new (Element name) q ≡ (counts old).passing q
  each test.Document = refl
  each (test.Name n) = one_before _ _ _ (names.counted _ _)
  each (test.Prefix b) = one_before _ _ _ (names.elements _)
  each test.AnyElement = more_before _ _ elements
  each test.AnyNode = more_before _ _ nodes
  each test.Chars = ap capped chars
  each test.CData = ap capped cdata
  each test.Comment = ap capped comments
  each test.AnyPi = ap capped instructions
  each (test.Pi t) = ap (λ m. capped (times (get_by_text m (encode_utf8_all t)))) targets
  each (test.AttrName n) = refl
  each (test.AttrPrefix b) = refl
  each test.AnyAttr = refl
