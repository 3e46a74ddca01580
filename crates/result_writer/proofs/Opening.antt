-- What the fields of a target mean, step by step.
use Rattle.std.proofs.Common.{◌≡◌, ℕ, zero, suc, ◌-◌, ◌==◌, Bool, false, true, subst, List, [], ◌∷◌, ◌++◌, Option, Some, None, length, take, drop, refl, sym, ap, ◌∙◌, reverse, arith, ne_eqb}
use Rattle.std.specs.Prelude.{slice_get}
use Rattle.std.specs.List.{list_all}
use Rattle.std.proofs.lemmas.Bool.{and_parts}
use Rattle.std.proofs.lemmas.List.{length-reverse, length-take-le, take-append-drop}
use Rattle.stx_base.specs.declared.name.Binding.{Binding}
use Rattle.stx_base.specs.declared.name.Name.{Name}
use Rattle.stx_base.specs.declared.part.Part.TheVariants as part
use Rattle.result_writer.specs.Allowed.{is_good_name}
use Rattle.result_writer.specs.Opened.{declared_by, elements}
use Rattle.result_writer.specs.Target.{Element, Left, Target, behind, closed, in_force, is_closed, settled, start_fault, unless}
use Rattle.result_writer.specs.declared.fault.ResultFault.{ResultFault}
use Rattle.result_writer.specs.declared.fault.ResultFault.TheVariants.{BadName}
use Rattle.result_writer.specs.declared.opened.OpenElement.{OpenElement}
use Rattle.result_writer.specs.declared.tag.HeldTag.{HeldTag}

pub length-elements : (es : List OpenElement) (bs : List Binding) → length (elements es bs) ≡ length es
length-elements [] bs = refl
length-elements (e ∷ es) bs = let l = length-elements es (take (length bs - e.declared) bs) in omega arith

pub length_open : (es : List OpenElement) (bs : List Binding) → length (elements (reverse es) bs) ≡ length es
length_open es bs = length-elements (reverse es) bs ∙ length-reverse es

-- what the open elements declared is all bindings
pub in_force-elements : (es : List OpenElement) (bs : List Binding) → declared_by es ≡ length bs → in_force (elements es bs) ≡ bs
in_force-elements [] [] h = refl
in_force-elements [] (b ∷ bs) h = absurd (omega arith)
in_force-elements (e ∷ es) bs h =
    let before = length bs - e.declared in
    let n : length (take before bs) ≡ before = length-take-le before bs (omega arith) in
    ap (λ l. l ++ drop before bs) (in_force-elements es (take before bs) (omega arith)) ∙ take-append-drop before bs

pub is_closed-length : (es : List Element) → is_closed es None ≡ (length es == 0)
is_closed-length [] = refl
is_closed-length (e ∷ es) = sym (ne_eqb (length (e ∷ es)) 0 (λ h. absurd (omega arith)))

-- an item of a list of which each passes a test
pub item_passes : {X : Type 0} (p : X → Bool) (xs : List X) (i : ℕ) (x : X) → list_all p xs ≡ true → slice_get xs i ≡ Some x → p x ≡ true
item_passes p [] i x h e = absurd cc
item_passes p (y ∷ ys) zero x h e = let same : y ≡ x = cc in subst (λ z. p z ≡ true) same (and_parts (p y) (list_all p ys) h).0
item_passes p (y ∷ ys) (suc i) x h e = item_passes p ys i x (and_parts (p y) (list_all p ys) h).1 e

-- an end behind what it settles
pub end-settled : (t : Target) (name : Name) → behind (behind t (part.Chars [])) (part.End name) ≡ behind t (part.End name)
end-settled t name = ap (λ es. record t { left = record { elements = es; held = None } }) (same t.left.elements t.left.held) where
  same : (es : List Element) (held : Option HeldTag) → closed (settled es held) None ≡ closed es held
  same es None = refl
  same es (Some tag) = refl

passes : (t : Bool) (f : ResultFault) (others : Option ResultFault) → unless t f others ≡ None → t ≡ true
passes true f others h = refl
passes false f others h = absurd cc

-- a start that is accepted has a good name
pub good_start : (limit : ℕ) (l : Left) (n : Name) → start_fault limit l n ≡ None → is_good_name n ≡ true
good_start limit l n h = passes (is_good_name n) BadName _ h
