-- Attributes that are taken at once.
use Rattle.std.proofs.Common.{◌≡◌, ℕ, Bool, true, false, List, [], ◌∷◌, ◌++◌, Some, map, refl, sym, ap, ◌∙◌, subst, append_assoc, append-nil}
use Rattle.std.specs.List.{list_any}
use Rattle.stx_base.specs.declared.name.Attr.{Attr}
use Rattle.result_writer.specs.Nodes.{attribute_part, attributes_fault, collected}
use Rattle.result_writer.specs.Opened.{held_if}
use Rattle.result_writer.specs.Target.{AreDistinct, Element, Left, first_fault, left_by, same_name}
use Rattle.result_writer.specs.declared.tag.HeldTag.{HeldTag}
use Rattle.result_writer.proofs.Apart.{names_other, none_or, or_none}
use Rattle.result_writer.proofs.Judging.{attributes, attributes-left, or-none}
use Rattle.result_writer.proofs.Texts.{appends}

none_at : {X : Type 0} (p : X → Bool) (xs : List X) (y : X) (ys : List X) → list_any p (xs ++ y ∷ ys) ≡ false → p y ≡ false
none_at p [] y ys h = (or_none (p y) (list_any p ys) h).0
none_at p (x ∷ xs) y ys h = none_at p xs y ys (or_none (p x) (list_any p (xs ++ y ∷ ys)) h).1

front-lacks : (xs : List Attr) (a : Attr) (ys : List Attr) → AreDistinct (xs ++ a ∷ ys) → list_any (λ b. same_name b.name a.name) xs ≡ false
front-lacks [] a ys h = refl
front-lacks (x ∷ xs) a ys h =
    none_or (same_name x.name a.name) (list_any (λ b. same_name b.name a.name) xs)
    (names_other a.name x.name (none_at (λ b. same_name b.name x.name) xs a ys h.0))
    (front-lacks xs a ys h.1)

-- attributes of different names stand as they came
collected-distinct : (xs ys : List Attr) → AreDistinct (xs ++ ys) → collected xs ys ≡ xs ++ ys
collected-distinct xs [] h = sym (append-nil xs)
collected-distinct xs (a ∷ ys) h =
    ap (λ l. collected l ys) (appends xs a.name a.value (front-lacks xs a ys h))
    ∙ collected-distinct (xs ++ a ∷ []) ys (subst AreDistinct (sym (append_assoc xs (a ∷ []) ys)) h)
    ∙ append_assoc xs (a ∷ []) ys

-- what they leave
pub left-together : (es : List Element) (tag : HeldTag) (attrs : List Attr) → tag.attrs ≡ [] → AreDistinct attrs
    → left_by (record { elements = es; held = Some tag }) (map attribute_part attrs) ≡ record { elements = es; held = Some (record tag { attrs = attrs }) }
left-together es tag attrs none distinct =
    ap (left_by (record { elements = es; held = Some tag })) (sym (append-nil (map attribute_part attrs)))
    ∙ attributes-left es tag attrs []
    ∙ ap (λ l. record { elements = es; held = Some (record tag { attrs = l }) }) (ap (λ l. collected l attrs) none ∙ collected-distinct [] attrs distinct)

-- their first fault
pub fault-together : (limit : ℕ) (l : Left) (tag : HeldTag) (attrs : List Attr) → l.held ≡ Some tag → first_fault limit l (map attribute_part attrs) ≡ attributes_fault attrs
fault-together limit l tag attrs held =
    ap (λ h. first_fault limit (record l { held = h }) (map attribute_part attrs)) held
    ∙ ap (first_fault limit (record { elements = l.elements; held = Some tag })) (sym (append-nil (map attribute_part attrs)))
    ∙ attributes limit l.elements tag attrs []
    ∙ or-none (attributes_fault attrs)

some_same : {X : Type 0} {x y : X} → Some x ≡ Some y → x ≡ y
some_same h = cc

pub held_back : (holds : Bool) (tag other : HeldTag) → held_if holds tag ≡ Some other → (holds ≡ true) × (tag ≡ other)
held_back true tag other h = (refl, some_same h)
held_back false tag other h = absurd cc
