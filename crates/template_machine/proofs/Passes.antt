-- Nodes without a template: their children are processed.
use Rattle.std.proofs.Common.{◌≡◌, ℕ, ◌<◌, Bool, true, false, List, ◌∷◌, length, Some, refl, ap, sym, subst, ◌∙◌}
use Rattle.std.specs.Prelude.{◌==◌, MatchBool}
use Rattle.std.specs.Option.{option_map_or}
use Rattle.std.proofs.lemmas.Bool.{eq-eqb, false≢true}
use Rattle.frame_stack.specs.declared.frame.Frame.{Frame}
use Rattle.frame_stack.specs.declared.frame.Frame.TheVariants.{Pass}
use Rattle.template_machine.specs.Bodies.{all_spent, level_in, spent_in}
use Rattle.template_machine.specs.Contexts.{Station}
use Rattle.template_machine.specs.Standing.{Known, Standing, node_over}
use Rattle.template_machine.specs.Ways.{here, left, number_of}
use Rattle.template_machine.specs.Well.{AreWell, BodyWaits, CanTake, HasList, HeadIsThere, IsFrontFor, IsOpen, IsSettled, ListGoesOn, is_again}
use Rattle.template_machine.specs.declared.program.Program.{Program}
use Rattle.template_machine.proofs.Children.{children_open, is_open, no_attribute}
use Rattle.template_machine.proofs.Entering.{over_again, over_head}
use Rattle.template_machine.proofs.Regions.{has_level, settles}
use Rattle.template_machine.proofs.Spending.{again_stays, says_so}

module _ (p : Program) (stations : List Station) where
  -- a head that is passed through, of which nothing is known but itself
  pub pass_opens : (fs : List Frame) (s : Standing) (base level : ℕ) (spent : Bool) (known : Known) → HeadIsThere p stations fs s known → base < length p.sheet.groups
      → level ≡ number_of s.source.way → HasList s.source.way → ListGoesOn p stations (Pass base level spent ∷ fs) s known
  pass_opens fs s base level spent known h there own has =
      let apart : is_again level fs ≡ false = ap (λ n. is_again n fs) own ∙ h.apart in
      let o = subst (λ b. MatchBool b (IsSettled fs (left s.source.way) known.begun known.front) (IsOpen s.source.way known.begun known.front)) (no_attribute (here s.source.way) has) h.fits in
      record {
        well = (
          refl,
          there,
          (λ e. h.take),
          has,
          own,
          (λ e. absurd (false≢true (sym apart ∙ e))),
          subst (AreWell p stations 0 true fs) (sym (over_head level fs s apart)) h.well,
        );
        fits = (has, (λ some. absurd (false≢true some)), subst (IsFrontFor s.source.way known.begun) (sym o.0) o.1);
      }

  -- its list is over, and so is the node
  pub pass_ends : (fs : List Frame) (s : Standing) (base level : ℕ) (spent : Bool) → AreWell p stations 0 true (Pass base level spent ∷ fs) s → is_again level fs ≡ false
      → CanTake fs s.source.way × AreWell p stations 0 true fs (node_over s)
  pass_ends fs s base level spent w apart = (w.2 apart, subst (AreWell p stations 0 true fs) (over_head level fs s apart) w.6)

  -- a body's own node, which is passed through again, and whose children aren't gone
  pub pass_again : (fs : List Frame) (s : Standing) (base level : ℕ) (known : Known) → BodyWaits p stations fs s known → base < length p.sheet.groups
      → level ≡ number_of s.source.way → level_in fs ≡ Some level → HasList s.source.way → spent_in fs ≡ Some false
      → ListGoesOn p stations (Pass base level true ∷ all_spent level fs) s known
  pass_again fs s base level known b there own at has unspent =
      let again : is_again level fs ≡ true = ap (λ o. option_map_or (λ l. l == level) o false) at ∙ eq-eqb level level refl in
      let l = children_open p stations fs s level known b at has unspent in
      let still : is_again level (all_spent level fs) ≡ true = again_stays level level fs ∙ again in
      let o = is_open p stations fs s known b has unspent in
      record {
        well = (
          refl,
          there,
          (λ e. absurd (false≢true (sym e ∙ still))),
          has,
          own,
          (λ e. says_so p stations level 0 true fs s b.well at),
          subst (AreWell p stations 0 true (all_spent level fs)) (sym (over_again level (all_spent level fs) s still)) l.well,
        );
        fits = (has, (λ some. absurd (false≢true some)), subst (IsFrontFor s.source.way known.begun) (sym o.0) o.1);
      }

  -- and its list is over: the body waits again
  pub pass_back : (fs : List Frame) (s : Standing) (base level : ℕ) (spent : Bool) (known : Known) → AreWell p stations 0 true (Pass base level spent ∷ fs) s
      → is_again level fs ≡ true → IsFrontFor (left s.source.way) known.begun known.front → BodyWaits p stations fs s known
  pass_back fs s base level spent known w again h =
      let well = subst (AreWell p stations 0 true fs) (over_again level fs s again) w.6 in
      let some = has_level level fs again in
      record {
        body = some;
        well = well;
        fits = settles p stations 0 true fs s s.source.way known.begun known.front refl well some (λ has. w.5 again) (no_attribute (here s.source.way) w.3) h;
      }
