-- What is known of sound nodes that have no fault.
use Rattle.std.proofs.Common.{◌≡◌, ℕ, suc, ◌<◌, Bool, true, false, ◌&&◌, List, [], ◌∷◌, ◌++◌, Option, Some, None, map, refl, sym, arith, ⊎_elim}
use Rattle.std.specs.Prelude.{nat_lt, if◌then◌else◌}
use Rattle.std.specs.List.{list_all, list_any}
use Rattle.std.proofs.lemmas.Bool.{and_parts, and_from, or_from, or_parts}
use Rattle.std.proofs.lemmas.Bool.Decides.{nat_tests}
use Rattle.stx_base.specs.Character.{is_cdata_text}
use Rattle.stx_base.specs.declared.name.Attr.{Attr}
use Rattle.stx_base.specs.declared.name.Name.{Name}
use Rattle.stx_base.specs.declared.part.Part.{Part}
use Rattle.stx_base.specs.declared.part.Part.TheVariants as part
use Rattle.result_writer.specs.Allowed.{are_chars, is_good_attribute, is_good_name}
use Rattle.result_writer.specs.Nodes.{Nodes, End, Chars, CData, Comment, Instruction, Nested, attribute_part, attributes_fault, collected, in_one, nodes_fault, parts_of}
use Rattle.result_writer.specs.Target.{AreDistinct, chars_fault, comment_fault, instruction_fault, or_else, same_name, unless, with_attribute}
use Rattle.result_writer.specs.declared.fault.ResultFault.{ResultFault}
use Rattle.result_writer.specs.declared.fault.ResultFault.TheVariants.{BadChar, BadName, ResultDepth}
use Rattle.read_back.specs.Sound.{is_sound_attribute, is_sound_binding, is_sound_name, is_readable_part, is_sound_tag}
use Rattle.read_back.proofs.Leaving.{IsComment, IsInstruction, comment_is, instruction_is}
use Rattle.read_back.proofs.Tests.{both_ways, same-of, same-true, true_or_false}

-- the nodes, within so many open elements, can be written and read
abbrev pub IsAccepted : (limit depth : ℕ) → Nodes → Type 0
IsAccepted limit depth End = Unit {0}
IsAccepted limit depth (Chars text next) = (are_chars text ≡ true) × IsAccepted limit depth next
IsAccepted limit depth (CData text next) = (is_cdata_text text ≡ true) × IsAccepted limit depth next
IsAccepted limit depth (Comment text next) = IsComment text × IsAccepted limit depth next
IsAccepted limit depth (Instruction target text next) = IsInstruction target text × IsAccepted limit depth next
IsAccepted limit depth (Nested tag kids next) =
    (is_sound_tag (in_one tag) ≡ true) × AreDistinct (in_one tag).attrs × (depth < limit) × IsAccepted limit (suc depth) kids × IsAccepted limit depth next

pub passed : (test : Bool) (f : ResultFault) (others : Option ResultFault) → unless test f others ≡ None → (test ≡ true) × (others ≡ None)
passed true f others h = (refl, h)
passed false f others h = absurd cc

pub neither : (o p : Option ResultFault) → or_else o p ≡ None → (o ≡ None) × (p ≡ None)
neither None p h = (refl, h)
neither (Some f) p h = absurd cc

-- Attributes of one name

other_name : (m n : Name) → same_name m n ≡ false → same_name n m ≡ false
other_name m n h = ⊎_elim
    (λ k.
    let parts = and_parts _ _ k in
    absurd (both_ways (same_name m n) (and_from _ _ (same-of m.uri n.uri (sym (same-true n.uri m.uri parts.0))) (same-of m.local n.local (sym (same-true n.local m.local parts.1)))) h))
    (λ k. k) (true_or_false (same_name n m))

lacks_with : (attrs : List Attr) (name : Name) (value : List ℕ) (n : Name) → list_any (λ b. same_name b.name n) attrs ≡ false → same_name name n ≡ false → list_any (λ b. same_name b.name n) (with_attribute attrs name value) ≡ false
lacks_with [] name value n h k = or_from (same_name name n) false k refl
lacks_with (x ∷ xs) name value n h k =
    let both = or_parts (same_name x.name n) (list_any (λ b. same_name b.name n) xs) h in
    by_test (same_name x.name name) both.0 both.1 (lacks_with xs name value n both.1 k) where
      by_test : (v : Bool) → same_name x.name n ≡ false → list_any (λ b. same_name b.name n) xs ≡ false → list_any (λ b. same_name b.name n) (with_attribute xs name value) ≡ false
          → list_any (λ b. same_name b.name n) (if v then record x { value = value } ∷ xs else x ∷ with_attribute xs name value) ≡ false
      by_test true f g later = or_from (same_name x.name n) (list_any (λ b. same_name b.name n) xs) f g
      by_test false f g later = or_from (same_name x.name n) (list_any (λ b. same_name b.name n) (with_attribute xs name value)) f later

pub distinct_with : (attrs : List Attr) (name : Name) (value : List ℕ) → AreDistinct attrs → AreDistinct (with_attribute attrs name value)
distinct_with [] name value h = (refl, tt)
distinct_with (x ∷ xs) name value h = by_test (same_name x.name name) refl (distinct_with xs name value h.1) where
  by_test : (v : Bool) → same_name x.name name ≡ v → AreDistinct (with_attribute xs name value)
      → AreDistinct (if v then record x { value = value } ∷ xs else x ∷ with_attribute xs name value)
  by_test true e later = h
  by_test false e later = (lacks_with xs name value x.name h.0 (other_name x.name name e), later)

distinct_all : (before attrs : List Attr) → AreDistinct before → AreDistinct (collected before attrs)
distinct_all before [] h = h
distinct_all before (a ∷ attrs) h = distinct_all (with_attribute before a.name a.value) attrs (distinct_with before a.name a.value h)

pub sound_with : (attrs : List Attr) (a : Attr) → list_all is_sound_attribute attrs ≡ true → is_sound_attribute a ≡ true → list_all is_sound_attribute (with_attribute attrs a.name a.value) ≡ true
sound_with [] a h k = and_from (is_sound_attribute a) true k refl
sound_with (x ∷ xs) a h k =
    let both = and_parts (is_sound_attribute x) (list_all is_sound_attribute xs) h in
    by_test (same_name x.name a.name) both.0 both.1 (sound_with xs a both.1 k) where
      replaced : is_sound_attribute x ≡ true → is_sound_attribute (record x { value = a.value }) ≡ true
      replaced g = and_from _ (are_chars a.value) (and_parts (is_good_attribute x.name && are_chars x.name.uri) (are_chars x.value) g).0 (and_parts (is_good_attribute a.name && are_chars a.name.uri) (are_chars a.value) k).1

      by_test : (v : Bool) → is_sound_attribute x ≡ true → list_all is_sound_attribute xs ≡ true → list_all is_sound_attribute (with_attribute xs a.name a.value) ≡ true
          → list_all is_sound_attribute (if v then record x { value = a.value } ∷ xs else x ∷ with_attribute xs a.name a.value) ≡ true
      by_test true f g later = and_from (is_sound_attribute (record x { value = a.value })) (list_all is_sound_attribute xs) (replaced f) g
      by_test false f g later = and_from (is_sound_attribute x) (list_all is_sound_attribute (with_attribute xs a.name a.value)) f later

sound_all : (before attrs : List Attr) → list_all is_sound_attribute before ≡ true → list_all is_sound_attribute attrs ≡ true → list_all is_sound_attribute (collected before attrs) ≡ true
sound_all before [] h k = h
sound_all before (a ∷ attrs) h k =
    let both = and_parts (is_sound_attribute a) (list_all is_sound_attribute attrs) k in
    sound_all (with_attribute before a.name a.value) attrs (sound_with before a h both.0) both.1

attributes_sound : (attrs : List Attr) → attributes_fault attrs ≡ None → list_all is_readable_part (map attribute_part attrs) ≡ true → list_all is_sound_attribute attrs ≡ true
attributes_sound [] h k = refl
attributes_sound (a ∷ attrs) h k =
    let none = neither _ (attributes_fault attrs) h in
    let good = passed (is_good_attribute a.name) BadName _ none.0 in
    let chars = (passed (are_chars a.value) BadChar None good.1).0 in
    let both = and_parts (are_chars a.name.uri) (list_all is_readable_part (map attribute_part attrs)) k in
    and_from (is_sound_attribute a) (list_all is_sound_attribute attrs) (and_from (is_good_attribute a.name && are_chars a.name.uri) (are_chars a.value) (and_from (is_good_attribute a.name) (are_chars a.name.uri) good.0 both.0) chars) (attributes_sound attrs none.1 both.1)

all_parts : (xs ys : List Part) → list_all is_readable_part (xs ++ ys) ≡ true → (list_all is_readable_part xs ≡ true) × (list_all is_readable_part ys ≡ true)
all_parts [] ys h = (refl, h)
all_parts (x ∷ xs) ys h =
    let both = and_parts (is_readable_part x) (list_all is_readable_part (xs ++ ys)) h in
    let later = all_parts xs ys both.1 in
    (and_from (is_readable_part x) (list_all is_readable_part xs) both.0 later.0, later.1)

pub accepted : (limit depth : ℕ) (nodes : Nodes) → nodes_fault limit depth nodes ≡ None → list_all is_readable_part (parts_of nodes) ≡ true → IsAccepted limit depth nodes
accepted limit depth End h k = tt
accepted limit depth (Chars text next) h k =
    let none = neither (chars_fault text) (nodes_fault limit depth next) h in
    ((passed (are_chars text) BadChar None none.0).0, accepted limit depth next none.1 k)
accepted limit depth (CData text next) h k =
    let both = and_parts (is_cdata_text text) (list_all is_readable_part (parts_of next)) k in (both.0, accepted limit depth next h both.1)
accepted limit depth (Comment text next) h k =
    let none = neither (comment_fault text) (nodes_fault limit depth next) h in (comment_is text none.0, accepted limit depth next none.1 k)
accepted limit depth (Instruction target text next) h k =
    let none = neither (instruction_fault target text) (nodes_fault limit depth next) h in (instruction_is target text none.0, accepted limit depth next none.1 k)
accepted limit depth (Nested tag kids next) h k =
    let first = neither (unless (is_good_name tag.name) BadName (unless (nat_lt depth limit) ResultDepth None)) _ h in
    let name = passed (is_good_name tag.name) BadName _ first.0 in
    let within = (passed (nat_lt depth limit) ResultDepth None name.1).0 in
    let second = neither (attributes_fault tag.attrs) _ first.1 in
    let third = neither (nodes_fault limit (suc depth) kids) (nodes_fault limit depth next) second.1 in
    let start = and_parts (are_chars tag.name.uri && list_all is_sound_binding tag.scope) _ k in
    let parts = and_parts (are_chars tag.name.uri) (list_all is_sound_binding tag.scope) start.0 in
    let attrs = all_parts (map attribute_part tag.attrs) (parts_of kids ++ part.End tag.name ∷ parts_of next) start.1 in
    let inner = all_parts (parts_of kids) (part.End tag.name ∷ parts_of next) attrs.1 in
    let all : list_all is_sound_attribute (in_one tag).attrs ≡ true = sound_all [] tag.attrs refl (attributes_sound tag.attrs second.0 attrs.0) in (
      and_from (is_sound_name tag.name && list_all is_sound_attribute (in_one tag).attrs) (list_all is_sound_binding tag.scope)
          (and_from (is_sound_name tag.name) (list_all is_sound_attribute (in_one tag).attrs) (and_from (is_good_name tag.name) (are_chars tag.name.uri) name.0 parts.0) all) parts.1,
      distinct_all [] tag.attrs tt,
      less depth limit within,
      accepted limit (suc depth) kids third.0 inner.0,
      accepted limit depth next third.1 inner.1,
    ) where
      less : (n m : ℕ) → nat_lt n m ≡ true → n < m
      less n m e = grind (arith, nat_tests)
