-- Which template is chosen, where templates stand in another order.
use Rattle.std.proofs.Common.{◌≡◌, inl, ℕ, ◌+◌, ◌<◌, ℤ, Bool, true, false, not, ◌&&◌, ◌||◌, ◌==◌, nat_lt, int_lt, List, [], ◌∷◌, map, filter, slice_get, Some, None, option_map, refl, sym, ap, subst, ◌∙◌, arith}
use Rattle.std.specs.List.{list_any}
use Rattle.std.specs.Ordering.{int_eq}
use Rattle.std.proofs.lemmas.Grind.{common_steps}
use Rattle.std.proofs.lemmas.Bool.{eqb-true, eq-eqb, ltb-true, lt-ltb}
use Rattle.sheet_model.specs.declared.sheet.Sheet.{Sheet}
use Rattle.sheet_model.specs.declared.sheet.Template.{Template}
use Rattle.stxpath_eval.specs.Setting.{Setting}
use Rattle.group_scope.specs.Choice.{Candidate, category, does_fit, fitting, is_free, visible}
use Rattle.group_scope.specs.Laws.{ChoosesTheBest, IsOrdered}
use Rattle.group_scope.specs.Rank.{best_of, is_better, is_later, number_of}
use Rattle.group_scope.specs.declared.rank.Category.{Category}
use Rattle.group_scope.specs.declared.rank.Category.TheVariants.{Own, Around, Everywhere}
use Rattle.group_scope.specs.declared.rank.Rank.{Rank}
use Rattle.template_machine.specs.Job.{Given, State}
use Rattle.template_machine.specs.Order.{AreEquals, KeepsEquals, Reorders, with_templates}
use Rattle.template_machine.specs.Passing.{choice}
use Rattle.template_machine.specs.Trail.{Trail}
use Rattle.template_machine.specs.Values.{pattern_setting}
use Rattle.template_machine.proofs.Candidates.{Among, all_among, among_filter, among_filter_from, among_map, among_map_from, candidate, from_all, from_contains, to_all, to_contains}

-- the same alternative, of its template where that stands now
abbrev pub moved_rank : (ℕ → ℕ) → Rank → Rank
moved_rank now r = record r { template = now r.template }

abbrev moved_candidate : (ℕ → ℕ) → Candidate → Candidate
moved_candidate now c = record c { rank = moved_rank now c.rank }

not_true : (b : Bool) → ¬ (b ≡ true) → b ≡ false
not_true true h = absurd (h refl)
not_true false h = refl

int_is : (x y : ℤ) → int_eq x y ≡ true → x ≡ y
int_is x y h = grind (arith, common_steps, h)

none_before : (n : ℕ) → 0 + n ≡ n
none_before n = omega arith

same_category : (a b : Category) → number_of a ≡ number_of b → a ≡ b
same_category Own Own h = refl
same_category Own Around h = absurd (omega (arith, h))
same_category Own Everywhere h = absurd (omega (arith, h))
same_category Around Own h = absurd (omega (arith, h))
same_category Around Around h = refl
same_category Around Everywhere h = absurd (omega (arith, h))
same_category Everywhere Own h = absurd (omega (arith, h))
same_category Everywhere Around h = absurd (omega (arith, h))
same_category Everywhere Everywhere h = refl

module _ (given : Given) (templates : List Template) (order : Reorders given.sheet.templates templates) where
  abbrev after : Sheet
  after = (with_templates given templates).sheet

  -- two places are one now just where they were
  same_place : (m n : ℕ) → (order.now m == order.now n) ≡ (m == n)
  same_place m n =
      elim (m == n) as (λ b. (m == n) ≡ b → (order.now m == order.now n) ≡ b) [
        | true ↦ λ e. eq-eqb _ _ (ap order.now (eqb-true m n e))
        | false ↦ λ e. not_true _ (λ h. let k : m ≡ n = sym (order.there m) ∙ ap order.before (eqb-true _ _ h) ∙ order.there n in absurd (differ (eq-eqb m n k) e))
      ] refl
    where
      differ : {b : Bool} → b ≡ true → b ≡ false → ⊥
      differ t f = cc

  same_active : (active : List ℕ) (n : ℕ) → list_any (λ m. m == order.now n) (map order.now active) ≡ list_any (λ m. m == n) active
  same_active [] n = refl
  same_active (m ∷ ms) n = rw (same_place m n, same_active ms n) refl

  -- what a base group sees now, and saw

  seen_now : (base : ℕ) (c : Candidate) → Among (visible given.sheet base) c → Among (visible after base) (moved_candidate order.now c)
  seen_now base c h =
      let (k, t, x, j, a, is_t, of_t, is_a, is) = from_all (category given.sheet base) 0 given.sheet.templates c h in
      subst (λ d. Among (visible after base) d)
      (ap (λ n. candidate n t x j a) (none_before (order.now k) ∙ ap order.now (sym (none_before k))) ∙ ap (moved_candidate order.now) is)
      (to_all (category after base) 0 templates (order.now k) t x j a (order.same k ∙ is_t) of_t is_a)

  seen_before : (base : ℕ) (d : Candidate) → Among (visible after base) d → (c : Candidate) × Among (visible given.sheet base) c × (moved_candidate order.now c ≡ d)
  seen_before base d h =
      let (k, t, x, j, a, is_t, of_t, is_a, is) = from_all (category after base) 0 templates d h in
      let stood : slice_get given.sheet.templates (order.before k) ≡ Some t = sym (order.same (order.before k)) ∙ ap (slice_get templates) (order.back k) ∙ is_t in (
        candidate (0 + order.before k) t x j a,
        to_all (category given.sheet base) 0 given.sheet.templates (order.before k) t x j a stood of_t is_a,
        ap (λ n. candidate n t x j a) (ap order.now (none_before (order.before k)) ∙ order.back k ∙ sym (none_before k)) ∙ is,
      )

  module _ (keeps : KeepsEquals given order.now) (base : ℕ) (trail : Trail) (st : State) where
    abbrev sees : (group : ℕ) → Setting
    sees = pattern_setting given trail st

    equals : (c d : Candidate) → Among (visible given.sheet base) c → Among (visible given.sheet base) d → does_fit sees c ≡ true → does_fit sees d ≡ true
        → c.rank.category ≡ d.rank.category → c.rank.priority ≡ d.rank.priority → AreEquals given c d
    equals c d in_c in_d fits_c fits_d category priority = record {
      base = base;
      one = to_contains (visible given.sheet base) c in_c;
      other = to_contains (visible given.sheet base) d in_d;
      category = category;
      priority = priority;
      trail = trail;
      state = st;
      one_fits = fits_c;
      other_fits = fits_d;
    }

    later_place : (m n x y : ℕ) → (m < n → order.now m < order.now n) → (n < m → order.now n < order.now m)
        → (nat_lt (order.now n) (order.now m) || (order.now m == order.now n && nat_lt y x)) ≡ (nat_lt n m || (m == n && nat_lt y x))
    later_place m n x y up down =
        ap (λ b. b || (order.now m == order.now n && nat_lt y x)) (elim (nat_lt n m) as (λ b. nat_lt n m ≡ b → nat_lt (order.now n) (order.now m) ≡ b) [
          | true ↦ λ e. lt-ltb _ _ (down (ltb-true n m e))
          | false ↦ λ e. not_true _ (λ h. not_less e h)
        ] refl)
        ∙ ap (λ b. nat_lt n m || (b && nat_lt y x)) (same_place m n)
      where
        never : (a b : ℕ) → a < b → b ≡ a → ⊥
        never a b l e = omega (arith, l, e)

        both_less : {a b : ℕ} → a < b → b < a → ⊥
        both_less l k = omega (arith, l, k)

        less : (m n : ℕ) → nat_lt n m ≡ false → (m == n) ≡ false → m < n
        less m n e q = grind (arith, e, q)

        not_less : nat_lt n m ≡ false → nat_lt (order.now n) (order.now m) ≡ true → ⊥
        not_less e h = elim (m == n) as (λ b. (m == n) ≡ b → ⊥) [
          | true ↦ λ q. never (order.now n) (order.now m) (ltb-true _ _ h) (ap order.now (eqb-true m n q))
          | false ↦ λ q. both_less (up (less m n e q)) (ltb-true _ _ h)
        ] refl

    same_better : (c d : Candidate) → Among (visible given.sheet base) c → Among (visible given.sheet base) d → does_fit sees c ≡ true → does_fit sees d ≡ true
        → is_better (moved_rank order.now c.rank) (moved_rank order.now d.rank) ≡ is_better c.rank d.rank
    same_better c d in_c in_d fits_c fits_d =
        by_category (number_of c.rank.category == number_of d.rank.category) refl
      where
        by_priority : c.rank.category ≡ d.rank.category → (b : Bool) → int_eq c.rank.priority d.rank.priority ≡ b
            → (b && is_later (moved_rank order.now c.rank) (moved_rank order.now d.rank)) ≡ (b && is_later c.rank d.rank)
        by_priority same false e = refl
        by_priority same true e =
            let priority = int_is c.rank.priority d.rank.priority e in
            later_place c.rank.template d.rank.template c.rank.alternative d.rank.alternative
            (keeps c d (equals c d in_c in_d fits_c fits_d same priority))
            (keeps d c (equals d c in_d in_c fits_d fits_c (sym same) (sym priority)))

        by_category : (b : Bool) → (number_of c.rank.category == number_of d.rank.category) ≡ b
            → is_better (moved_rank order.now c.rank) (moved_rank order.now d.rank) ≡ is_better c.rank d.rank
        by_category false e = rw e refl
        by_category true e =
            ap (λ x. nat_lt (number_of c.rank.category) (number_of d.rank.category) || (number_of c.rank.category == number_of d.rank.category && (int_lt d.rank.priority c.rank.priority || x)))
            (by_priority (same_category c.rank.category d.rank.category (eqb-true _ _ e)) (int_eq c.rank.priority d.rank.priority) refl)

    module _ (chooses : ChoosesTheBest) (ordered : IsOrdered) (active : List ℕ) where
      abbrev free : List Candidate
      free = filter (is_free active) (visible given.sheet base)

      abbrev free_now : List Candidate
      free_now = filter (is_free (map order.now active)) (visible after base)

      -- one of those that can be chosen
      record Can (c : Candidate) : Type 0 where
        seen : Among (visible given.sheet base) c
        does : does_fit sees c ≡ true

      from_fitting : (r : Rank) → Among (fitting sees free) r → (c : Candidate) × Can c × (c.rank ≡ r)
      from_fitting r h =
          let (c, in_fitting, is_rank) = among_map_from (λ (c : Candidate). c.rank) (filter (does_fit sees) free) r h in
          let (in_free, c_fits) = among_filter_from (does_fit sees) free c in_fitting in
          let (in_visible, c_free) = among_filter_from (is_free active) (visible given.sheet base) c in_free in
          (c, record { seen = in_visible; does = c_fits }, is_rank)

      fitting_now : (r : Rank) → Among (fitting sees free) r → Among (fitting sees free_now) (moved_rank order.now r)
      fitting_now r h =
          let (c, in_fitting, is_rank) = among_map_from (λ (c : Candidate). c.rank) (filter (does_fit sees) free) r h in
          let (in_free, c_fits) = among_filter_from (does_fit sees) free c in_fitting in
          let (in_visible, c_free) = among_filter_from (is_free active) (visible given.sheet base) c in_free in
          let d = moved_candidate order.now c in
          let free_there : is_free (map order.now active) d ≡ true = ap (λ b. not b) (same_active active c.rank.template) ∙ c_free in
          subst (λ x. Among (fitting sees free_now) x) (ap (moved_rank order.now) is_rank)
          (among_map (λ (c : Candidate). c.rank) (filter (does_fit sees) free_now) d
          (among_filter (does_fit sees) free_now d (among_filter (is_free (map order.now active)) (visible after base) d (seen_now base c in_visible) free_there) c_fits))

      fitting_before : (s : Rank) → Among (fitting sees free_now) s → (r : Rank) × Among (fitting sees free) r × (moved_rank order.now r ≡ s)
      fitting_before s h =
          let (d, in_fitting, is_rank) = among_map_from (λ (c : Candidate). c.rank) (filter (does_fit sees) free_now) s h in
          let (in_free, d_fits) = among_filter_from (does_fit sees) free_now d in_fitting in
          let (in_visible, d_free) = among_filter_from (is_free (map order.now active)) (visible after base) d in_free in
          let (c, was_visible, is) = seen_before base d in_visible in
          let c_fits : does_fit sees c ≡ true = ap (does_fit sees) is ∙ d_fits in
          let c_free : is_free active c ≡ true = sym (ap (λ b. not b) (same_active active c.rank.template)) ∙ ap (is_free (map order.now active)) is ∙ d_free in (
            c.rank,
            among_map (λ (c : Candidate). c.rank) (filter (does_fit sees) free) c (among_filter (does_fit sees) free c (among_filter (is_free active) (visible given.sheet base) c was_visible c_free) c_fits),
            ap (λ (c : Candidate). c.rank) is ∙ is_rank,
          )

      -- the same template is chosen, where it stands now
      pub moved_choice : choice (with_templates given templates) base (map order.now active) trail st ≡ option_map (moved_rank order.now) (choice given base active trail st)
      moved_choice =
          elim (best_of (fitting sees free)) as (λ o. best_of (fitting sees free) ≡ o → best_of (fitting sees free_now) ≡ option_map (moved_rank order.now) o) [
            | None ↦ λ is. none (fitting sees free_now) (λ s h. let (r, among, e) = fitting_before s h in subst (λ l. Among l r) ((chooses (fitting sees free)).1 is) among)
            | Some r ↦ λ is.
                let best = (chooses (fitting sees free)).0 r is in
                let in_list = from_contains (fitting sees free) r best.0 in
                best_is_some (fitting sees free_now) (moved_rank order.now r) (fitting_now r in_list)
                (λ s h.
                let (q, among, e) = fitting_before s h in
                subst (λ x. is_better x (moved_rank order.now r) ≡ false) e
                (better_too q r among in_list ∙ all_among (λ x. is_better x r ≡ false) (fitting sees free) q best.1 among))
          ] refl
        where
          -- one that none is better than is the best
          best_is_some : (rs : List Rank) (r : Rank) → Among rs r → ((other : Rank) → Among rs other → is_better other r ≡ false) → best_of rs ≡ Some r
          best_is_some rs r among first =
              elim (best_of rs) as (λ o. best_of rs ≡ o → o ≡ Some r) [
                | None ↦ λ is. absurd (subst (λ l. Among l r) ((chooses rs).1 is) among)
                | Some s ↦ λ is.
                    let s_best = (chooses rs).0 s is in
                    ap (λ x. Some x) ((ordered s r).1 (first s (from_contains rs s s_best.0)) (all_among (λ other. is_better other s ≡ false) rs r s_best.1 among))
              ] refl

          none : (rs : List Rank) → ((r : Rank) → Among rs r → ⊥) → best_of rs ≡ None
          none [] h = refl
          none (x ∷ rs) h = absurd (h x (inl refl))

          better_too : (q r : Rank) → Among (fitting sees free) q → Among (fitting sees free) r → is_better (moved_rank order.now q) (moved_rank order.now r) ≡ is_better q r
          better_too q r in_q in_r =
              let (c, can_c, is_c) = from_fitting q in_q in
              let (d, can_d, is_d) = from_fitting r in_r in
              subst (λ x. is_better (moved_rank order.now x) (moved_rank order.now r) ≡ is_better x r) is_c
              (subst (λ y. is_better (moved_rank order.now c.rank) (moved_rank order.now y) ≡ is_better c.rank y) is_d
              (same_better c d can_c.seen can_d.seen can_c.does can_d.does))
