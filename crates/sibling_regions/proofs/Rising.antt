-- The levels rise with a frame more.
use Rattle.std.proofs.Common.{◌≡◌, ℕ, ◌<◌, ◌≤◌, Bool, true, false, ◌⊎◌, inl, inr, List, [], ◌∷◌, ◌++◌, length, Some, refl, ap, sym, subst, ◌∙◌, arith}
use Rattle.std.proofs.Math.Nat.{eq-or-lt_of_le}
use Rattle.std.proofs.lemmas.Bool.{false≢true}
use Rattle.std.proofs.lemmas.Option.{slice_get_within}
use Rattle.std.specs.List.{slice_get}
use Rattle.frame_stack.specs.Frame.{opens_list}
use Rattle.frame_stack.specs.declared.frame.Frame.{Frame}
use Rattle.sibling_regions.proofs.Finding.{hidden}
use Rattle.sibling_regions.proofs.Outermost.{got_before, got_last, length_more, sight_stays}
use Rattle.sibling_regions.specs.Ends.{is_innermost}
use Rattle.sibling_regions.specs.Laws.{TopRises}
use Rattle.sibling_regions.specs.Standing.{IsAtMost, LevelsRise}

-- where the frame on top opens no list
under_top : (fs : List Frame) (f : Frame) (low high : ℕ) (outer inner : Frame) → LevelsRise fs
    → ((place : ℕ) (other : Frame) → is_innermost fs place ≡ true → slice_get fs place ≡ Some other → IsAtMost other f)
    → low < high → (high ≡ length fs) ⊎ (high < length fs) → is_innermost fs low ≡ true → slice_get fs low ≡ Some outer
    → slice_get (fs ++ f ∷ []) high ≡ Some inner → IsAtMost outer inner
under_top fs f low high outer inner rise below less (inl last) sight outer_at inner_at =
    let both : Some f ≡ Some inner = sym (got_last fs f) ∙ ap (slice_get (fs ++ f ∷ [])) (sym last) ∙ inner_at in
    let same : f ≡ inner = cc in
    subst (λ x. IsAtMost outer x) same (below low outer sight outer_at)
under_top fs f low high outer inner rise below less (inr within) sight outer_at inner_at =
    rise low high outer inner less sight outer_at (sym (got_before fs (f ∷ []) high within) ∙ inner_at)

pub top_rises : TopRises
top_rises fs f rise below low high outer inner less sight outer_at inner_at = by (opens_list f) refl
  where
    few : high ≤ length fs
    few = (let within = slice_get_within (fs ++ f ∷ []) high inner inner_at in omega (arith, length_more fs f))

    under : low < length fs
    under = (let h = few in omega arith)

    by : (b : Bool) → opens_list f ≡ b → IsAtMost outer inner
    by true opens = absurd (false≢true (sym (hidden (fs ++ f ∷ []) low (length fs) f under (got_last fs f) opens) ∙ sight))
    by false shut =
        under_top fs f low high outer inner rise below less (eq-or-lt_of_le few) (sym (sight_stays fs f low under shut) ∙ sight)
        (sym (got_before fs (f ∷ []) low under) ∙ outer_at) inner_at
