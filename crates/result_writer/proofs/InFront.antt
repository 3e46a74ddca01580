-- Bindings behind the first few.
use Rattle.std.proofs.Common.{◌≡◌, ◌+◌, ◌-◌, ◌<◌, List, [], ◌∷◌, ◌++◌, length, take, refl, sym, ap, ◌∙◌, arith, append_assoc}
use Rattle.std.proofs.Math.Seq.{take-append_seam, take-append-add}
use Rattle.std.proofs.lemmas.List.{append-nil, length-append}
use Rattle.stx_base.specs.declared.name.Binding.{Binding}

nothing : (xs : List Binding) → length xs ≡ 0 → xs ≡ []
nothing [] h = refl
nothing (x ∷ xs) h = absurd (omega arith)

-- with nothing behind them, they are all
alone : (first others old : List Binding) → length others ≡ 0 → first ++ others ≡ old → first ≡ old
alone first others old h e = sym (append-nil first) ∙ ap (λ l. first ++ l) (sym (nothing others h)) ∙ e

pub pushed_first : (first others old more : List Binding) (b : Binding) → length others ≡ 0 → first ++ others ≡ old → more ≡ first ++ b ∷ [] → more ++ others ≡ old ++ b ∷ []
pushed_first first others old more b h e is =
    ap (λ l. more ++ l) (nothing others h) ∙ append-nil more ∙ is ∙ ap (λ l. l ++ b ∷ []) (alone first others old h e)

pub pushed_other : (first others old more : List Binding) (b : Binding) → first ++ others ≡ old → more ≡ others ++ b ∷ [] → first ++ more ≡ old ++ b ∷ []
pushed_other first others old more b e is = ap (λ l. first ++ l) is ∙ sym (append_assoc first others (b ∷ [])) ∙ ap (λ l. l ++ b ∷ []) e

pub popped_first : (first others old more : List Binding) → length others ≡ 0 → first ++ others ≡ old → more ≡ take (length first - 1) first → more ++ others ≡ take (length old - 1) old
popped_first first others old more h e is =
    ap (λ l. more ++ l) (nothing others h) ∙ append-nil more ∙ is ∙ ap (λ l. take (length l - 1) l) (alone first others old h e)

pub popped_other : (first others old more : List Binding) → 0 < length others → first ++ others ≡ old → more ≡ take (length others - 1) others → first ++ more ≡ take (length old - 1) old
popped_other first others old more h e is =
    let last : length (first ++ others) - 1 ≡ length first + (length others - 1) = omega (arith, length-append first others) in
    ap (λ l. first ++ l) is ∙ sym (take-append-add first others (length others - 1)) ∙ ap (λ n. take n (first ++ others)) (sym last)
    ∙ ap (λ l. take (length l - 1) l) e

pub kept_all : (old new more : List Binding) → new ≡ old ++ more → take (length old) new ≡ old
kept_all old new more e = ap (take (length old)) e ∙ take-append_seam old more
