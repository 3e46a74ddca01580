-- Texts are equal where their bytes are.
use Rattle.std.proofs.Common.{◌≡◌, ℕ, List, not, refl, sym, ap, ◌∙◌}
use Rattle.std.specs.Ordering.{nat_cmp, is_eq, is_ne}
use Rattle.std.specs.declared.cmp.Ordering.{Ordering}
use Rattle.std.specs.declared.cmp.Ordering.TheVariants.{Less, Equal, Greater}
use Rattle.std.specs.Cmp.Lexicographic.{slice_cmp}
use Rattle.std.specs.Str.{chars, IsUtf8, bytes_eq, encode_utf8_all}
use Rattle.std.proofs.lemmas.Bool.Decides.{same_from_decides}
use Rattle.std.proofs.lemmas.Map.Text.{is_eq-slice_cmp}
use Rattle.std.proofs.lemmas.Slice.Eq.{bytes_eq-Decides}
use Rattle.std.proofs.lemmas.Str.{encodes-chars}

pub same_texts : (left right : List ℕ) → IsUtf8 left → IsUtf8 right → bytes_eq left right ≡ is_eq (slice_cmp nat_cmp (chars left) (chars right))
same_texts left right l r =
    let by_chars = bytes_eq-Decides (chars left) (chars right) in
    same_from_decides (bytes_eq left right) (bytes_eq (chars left) (chars right)) (bytes_eq-Decides left right)
    (λ e. sym (encodes-chars left l) ∙ ap encode_utf8_all (by_chars.0 e) ∙ encodes-chars right r, λ e. by_chars.1 (ap chars e))
    ∙ sym (is_eq-slice_cmp (chars left) (chars right))

unequal : (order : Ordering) → not (is_eq order) ≡ is_ne order
unequal Less = refl
unequal Equal = refl
unequal Greater = refl

pub other_texts : (left right : List ℕ) → IsUtf8 left → IsUtf8 right → not (bytes_eq left right) ≡ is_ne (slice_cmp nat_cmp (chars left) (chars right))
other_texts left right l r = ap not (same_texts left right l r) ∙ unequal (slice_cmp nat_cmp (chars left) (chars right))
