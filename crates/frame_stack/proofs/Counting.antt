-- How many instances a level has with one frame more.
use Rattle.std.proofs.Common.{◌≡◌, ◌≢◌, ℕ, suc, ◌+◌, Bool, true, false, cond, not, nat_eq, List, [], ◌∷◌, ◌++◌, take, reverse, Some, None, refl, ap, sym, ◌∙◌, arith}
use Rattle.std.specs.Prelude.{count_by}
use Rattle.std.specs.List.{prefix_len, take_while}
use Rattle.std.specs.Option.{option_map_or}
use Rattle.std.proofs.lemmas.Bool.{eqb-true}
use Rattle.std.proofs.lemmas.List.{reverse-append}
use Rattle.std.proofs.lemmas.List.Sums.{sum_by-cons}
use Rattle.std.proofs.Common.{eq-eqb}
use Rattle.frame_stack.specs.declared.frame.Frame.{Frame}
use Rattle.frame_stack.specs.Frame.{Shape, BodyAt, CallAt, OfAttributes, OfLoop, RegionAt, OfSource, OfSkip, PassAt, instance_of, is_instance, is_list, level_of, opens_list, shape}
use Rattle.frame_stack.specs.Laws.{InstanceCounts, ListBegins, NoneCounts, OthersStay}
use Rattle.frame_stack.specs.Level.{instances, together}

-- a frame that opens no list of its own
abbrev pub stays : Frame → Bool
stays f = not (opens_list f)

one_more : (f : Frame) (fs : List Frame) (n : ℕ) → take (1 + n) (f ∷ fs) ≡ f ∷ take n fs
one_more f fs n = let e : 1 + n ≡ suc n = omega arith in ap (λ k. take k (f ∷ fs)) e

pub while_stays : (f : Frame) (fs : List Frame) → opens_list f ≡ false → take_while stays (f ∷ fs) ≡ f ∷ take_while stays fs
while_stays f fs e = ap (λ b. take (cond (not b) (1 + prefix_len stays fs) 0) (f ∷ fs)) e ∙ one_more f fs (prefix_len stays fs)

pub while_opens : (f : Frame) (fs : List Frame) → opens_list f ≡ true → take_while stays (f ∷ fs) ≡ []
while_opens f fs e = ap (λ b. take (cond (not b) (1 + prefix_len stays fs) 0) (f ∷ fs)) e

with_top : (frames : List Frame) (f : Frame) → together (frames ++ f ∷ []) ≡ take_while stays (f ∷ reverse frames)
with_top frames f = ap (take_while stays) (reverse-append frames (f ∷ []))

pub list_begins : ListBegins
list_begins frames f level e = ap (count_by (is_instance level)) (with_top frames f ∙ while_opens f (reverse frames) e)

counted_with : (frames : List Frame) (f : Frame) (level : ℕ) → opens_list f ≡ false → instances level (frames ++ f ∷ []) ≡ cond (is_instance level f) 1 0 + instances level frames
counted_with frames f level e =
    ap (count_by (is_instance level)) (with_top frames f ∙ while_stays f (reverse frames) e)
    ∙ sum_by-cons (λ g. cond (is_instance level g) 1 0) f (together frames)

pub no_list : (s : Shape) (level : ℕ) → level_of s ≡ Some level → is_list s ≡ false
no_list (BodyAt l) level e = refl
no_list (CallAt l) level e = refl
no_list OfAttributes level e = cc
no_list OfLoop level e = refl
no_list (RegionAt l) level e = refl
no_list OfSource level e = cc
no_list OfSkip level e = refl
no_list (PassAt l) level e = refl

pub is_here : (f : Frame) (level : ℕ) → instance_of f ≡ Some level → is_instance level f ≡ true
is_here f level e = ap (λ o. option_map_or (λ l. nat_eq l level) o false) e ∙ eq-eqb level level refl

not_same : (a b : ℕ) → a ≢ b → (t : Bool) → nat_eq a b ≡ t → t ≡ false
not_same a b apart true e = absurd (apart (eqb-true a b e))
not_same a b apart false e = refl

pub is_there : (f : Frame) (level other : ℕ) → instance_of f ≡ Some level → other ≢ level → is_instance other f ≡ false
is_there f level other e apart =
    ap (λ o. option_map_or (λ l. nat_eq l other) o false) e ∙ not_same level other (λ h. apart (sym h)) (nat_eq level other) refl

pub is_none : (f : Frame) (level : ℕ) → instance_of f ≡ None → is_instance level f ≡ false
is_none f level e = ap (λ o. option_map_or (λ l. nat_eq l level) o false) e

pub instance_counts : InstanceCounts
instance_counts frames f level e =
    counted_with frames f level (no_list (shape f) level e)
    ∙ ap (λ b. cond b 1 0 + instances level frames) (is_here f level e) ∙ omega arith

pub not_counted : (frames : List Frame) (f : Frame) (level : ℕ) → opens_list f ≡ false → is_instance level f ≡ false → instances level (frames ++ f ∷ []) ≡ instances level frames
not_counted frames f level stays not_here =
    counted_with frames f level stays ∙ ap (λ b. cond b 1 0 + instances level frames) not_here ∙ omega arith

pub others_stay : OthersStay
others_stay frames f level other e apart = not_counted frames f other (no_list (shape f) level e) (is_there f level other e apart)

pub none_counts : NoneCounts
none_counts frames f level e stays = not_counted frames f level stays (is_none f level e)
