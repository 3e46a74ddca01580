-- Texts of lists of parts, and attributes of one name.
use Rattle.std.proofs.Common.{◌≡◌, Bool, true, false, ◌||◌, List, [], ◌∷◌, ◌++◌, refl, sym, ap, ◌∙◌, append_assoc}
use Rattle.std.specs.Prelude.{if◌then◌else◌}
use Rattle.std.specs.List.{list_any}
use Rattle.stx_base.specs.declared.part.Part.{Part}
use Rattle.result_writer.specs.Laws.{Appends, Replaces}
use Rattle.result_writer.specs.Target.{Left, left_by, next, same_name, settles, text_from, with_attribute}

pub text_from-append : (l : Left) (ps qs : List Part) → text_from l (ps ++ qs) ≡ text_from l ps ++ text_from (left_by l ps) qs
text_from-append l [] qs = refl
text_from-append l (p ∷ ps) qs = ap (λ t. settles l p ++ t) (text_from-append (next l p) ps qs) ∙ sym (append_assoc (settles l p) _ _)

or_false : (s t : Bool) → (s || t) ≡ false → (s ≡ false) × (t ≡ false)
or_false true t h = absurd cc
or_false false t h = (refl, h)

pub appends : Appends
appends [] name value h = refl
appends (x ∷ xs) name value h =
    let both = or_false (same_name x.name name) (list_any (λ b. same_name b.name name) xs) h in
    ap (λ t. if t then record x { value = value } ∷ xs else x ∷ with_attribute xs name value) both.0
    ∙ ap (λ l. x ∷ l) (appends xs name value both.1)

pub replaces : Replaces
replaces [] ys a name value h s = ap (λ t. if t then record a { value = value } ∷ ys else a ∷ with_attribute ys name value) s
replaces (x ∷ xs) ys a name value h s =
    let both = or_false (same_name x.name name) (list_any (λ b. same_name b.name name) xs) h in
    ap (λ t. if t then record x { value = value } ∷ (xs ++ a ∷ ys) else x ∷ with_attribute (xs ++ a ∷ ys) name value) both.0
    ∙ ap (λ l. x ∷ l) (replaces xs ys a name value both.1 s)
