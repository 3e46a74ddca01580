-- Frames of the same variants and levels.
use Rattle.std.proofs.Common.{◌≡◌, ℕ, ◌+◌, Bool, true, false, cond, nat_eq, List, [], ◌∷◌, ◌++◌, reverse, refl, ap, sym, ◌∙◌}
use Rattle.std.specs.Prelude.{count_by, map}
use Rattle.std.specs.List.{take_while}
use Rattle.std.specs.Option.{option_map_or}
use Rattle.std.proofs.lemmas.List.{map-append, reverse-append}
use Rattle.std.proofs.lemmas.List.Sums.{sum_by-cons}
use Rattle.frame_stack.specs.declared.frame.Frame.{Frame}
use Rattle.frame_stack.specs.Frame.{Shape, is_instance, is_list, level_of, opens_list, shape}
use Rattle.frame_stack.specs.Laws.{ToldByShapes}
use Rattle.frame_stack.proofs.Counting.{stays, while_stays, while_opens}

-- the instances among frames, the innermost first
abbrev inward : ℕ → List Frame → ℕ
inward level fs = count_by (is_instance level) (take_while stays fs)

inward-cons : (level : ℕ) (f : Frame) (fs : List Frame) (b : Bool) → opens_list f ≡ b → inward level (f ∷ fs) ≡ cond b 0 (cond (is_instance level f) 1 0 + inward level fs)
inward-cons level f fs true e = ap (count_by (is_instance level)) (while_opens f fs e)
inward-cons level f fs false e = ap (count_by (is_instance level)) (while_stays f fs e) ∙ sum_by-cons (λ g. cond (is_instance level g) 1 0) f (take_while stays fs)

head_same : (s t : Shape) (ss ts : List Shape) → s ∷ ss ≡ t ∷ ts → s ≡ t
head_same s t ss ts e = cc

rest_same : (s t : Shape) (ss ts : List Shape) → s ∷ ss ≡ t ∷ ts → ss ≡ ts
rest_same s t ss ts e = cc

inward_same : (level : ℕ) (fs gs : List Frame) → map shape fs ≡ map shape gs → inward level fs ≡ inward level gs
inward_same level [] [] e = refl
inward_same level [] (g ∷ gs) e = cc
inward_same level (f ∷ fs) [] e = cc
inward_same level (f ∷ fs) (g ∷ gs) e =
    let s : shape f ≡ shape g = head_same (shape f) (shape g) (map shape fs) (map shape gs) e in
    let r = inward_same level fs gs (rest_same (shape f) (shape g) (map shape fs) (map shape gs) e) in
    inward-cons level f fs (opens_list f) refl
    ∙ ap (λ x. cond (is_list x) 0 (cond (option_map_or (λ l. nat_eq l level) (level_of x) false) 1 0 + inward level fs)) s
    ∙ ap (λ n. cond (opens_list g) 0 (cond (is_instance level g) 1 0 + n)) r
    ∙ sym (inward-cons level g gs (opens_list g) refl)

pub shapes-reverse : (fs : List Frame) → map shape (reverse fs) ≡ reverse (map shape fs)
shapes-reverse [] = refl
shapes-reverse (f ∷ fs) =
    ap (map shape) (reverse-append (f ∷ []) fs) ∙ map-append shape (reverse fs) (f ∷ [])
    ∙ ap (λ ss. ss ++ shape f ∷ []) (shapes-reverse fs) ∙ sym (reverse-append (shape f ∷ []) (map shape fs))

pub told_by_shapes : ToldByShapes
told_by_shapes fs gs level e =
    inward_same level (reverse fs) (reverse gs) (shapes-reverse fs ∙ ap reverse e ∙ sym (shapes-reverse gs))
