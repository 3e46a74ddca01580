-- A template's text is read as one list of parts, or has one first fault.
use Rattle.std.proofs.Common.{◌≡◌, ◌≢◌, ℕ, ◌+◌, true, false, List, [], ◌∷◌, ◌++◌, Some, None, Ok, Err, length, sym, ◌∙◌, refl, ap, subst, arith}
use Rattle.std.proofs.lemmas.Bool.{false≢true}
use Rattle.stx_base.specs.declared.name.Binding.{Binding}
use Rattle.stxpath_syntax.specs.declared.dialect.Dialect.{Dialect}
use Rattle.stxpath_syntax.specs.declared.expr.AvtPart.{AvtPart}
use Rattle.stxpath_syntax.specs.declared.expr.Expr.{Expr}
use Rattle.stxpath_syntax.specs.Template.{is_brace, closing, Read, Template, IsExpression, with_char, with_value}

plain_brace : (c k : ℕ) → is_brace c ≡ false → c ≡ k → is_brace k ≡ true → ⊥
plain_brace c k b e t = false≢true (sym b ∙ ap is_brace e ∙ t)

not_opened : (inner us : List ℕ) → ((rest : List ℕ) → inner ≢ 123 ∷ rest) → (text : List ℕ) → inner ++ 125 ∷ us ≡ 123 ∷ text → ⊥
not_opened [] us n text e = let h : ◌≡◌ {A = ℕ} 125 123 = cc in omega (arith, h)
not_opened (c ∷ cs) us n text e = let h : c ≡ 123 = cc in n cs (ap (λ c. c ∷ cs) h)

-- lists with equally long beginnings
split : (xs ys us vs : List ℕ) → length xs ≡ length ys → xs ++ 125 ∷ us ≡ ys ++ 125 ∷ vs → (xs ≡ ys) × (us ≡ vs)
split [] [] us vs k e = (refl, cc)
split [] (y ∷ ys) us vs k e = absurd (omega (arith, k))
split (x ∷ xs) [] us vs k e = absurd (omega (arith, k))
split (x ∷ xs) (y ∷ ys) us vs k e =
    let h : x ≡ y = cc in
    let t : xs ++ 125 ∷ us ≡ ys ++ 125 ∷ vs = cc in
    let l : length xs ≡ length ys = omega (arith, k) in
    let r = split xs ys us vs l t in
    (ap (λ z. z ∷ xs) h ∙ ap (λ zs. y ∷ zs) r.0, r.1)

module _ (dialect : Dialect) (scope : List Binding) (one : (at : ℕ) (text : List ℕ) (a b : Read Expr) → IsExpression dialect scope at text a → IsExpression dialect scope at text b → a ≡ b) where
  -- one expression in braces
  one_inner : (inner vs us ws : List ℕ) → closing None (inner ++ 125 ∷ us) ≡ Some (length inner) → closing None (vs ++ 125 ∷ ws) ≡ Some (length vs)
      → inner ++ 125 ∷ us ≡ vs ++ 125 ∷ ws → (length inner ≡ length vs) × (inner ≡ vs) × (us ≡ ws)
  one_inner inner vs us ws c d e =
      let l : Some (length inner) ≡ Some (length vs) = sym c ∙ ap (closing None) e ∙ d in
      let k : length inner ≡ length vs = cc in
      let s = split inner vs us ws k e in
      (k, s.0, s.1)

  same_inner : (at : ℕ) (inner vs : List ℕ) (a b : Read Expr) → inner ≡ vs → IsExpression dialect scope (at + 1) inner a → IsExpression dialect scope (at + 1) vs b → a ≡ b
  same_inner at inner vs a b e g h = one (at + 1) inner a b g (subst (λ w. IsExpression dialect scope (at + 1) w b) (sym e) h)

  template_twice : {at : ℕ} {t u : List ℕ} {a b : Read (List AvtPart)} → Template dialect scope at t a → Template dialect scope at u b → t ≡ u → a ≡ b
  template_twice (Template.end at) (Template.end at') e = refl
  template_twice (Template.end at) (Template.plain at' c' {text = text'} {parts = p'} b' d') e = cc
  template_twice (Template.end at) (Template.doubled at' c' {text = text'} {parts = p'} b' d') e = cc
  template_twice (Template.end at) (Template.lone at' text' n') e = cc
  template_twice (Template.end at) (Template.unended at' text' n' l') e = cc
  template_twice (Template.end at) (Template.value at' i' text' x' {parts = p'} n' l' g' d') e = cc
  template_twice (Template.end at) (Template.faulty at' i' text' y' n' l' g') e = cc
  template_twice (Template.plain at c {text = text} {parts = p} b d) (Template.end at') e = cc
  template_twice (Template.plain at c {text = text} {parts = p} b d) (Template.plain at' c' {text = text'} {parts = p'} b' d') e = let h : c ≡ c' = cc in let r : text ≡ text' = cc in ap (λ k. with_char k p) h ∙ ap (with_char c') (template_twice d d' r)
  template_twice (Template.plain at c {text = text} {parts = p} b d) (Template.doubled at' c' {text = text'} {parts = p'} b' d') e = let h : c ≡ c' = cc in absurd (plain_brace c c' b h b')
  template_twice (Template.plain at c {text = text} {parts = p} b d) (Template.lone at' text' n') e = let h : c ≡ 125 = cc in absurd (plain_brace c 125 b h refl)
  template_twice (Template.plain at c {text = text} {parts = p} b d) (Template.unended at' text' n' l') e = let h : c ≡ 123 = cc in absurd (plain_brace c 123 b h refl)
  template_twice (Template.plain at c {text = text} {parts = p} b d) (Template.value at' i' text' x' {parts = p'} n' l' g' d') e = let h : c ≡ 123 = cc in absurd (plain_brace c 123 b h refl)
  template_twice (Template.plain at c {text = text} {parts = p} b d) (Template.faulty at' i' text' y' n' l' g') e = let h : c ≡ 123 = cc in absurd (plain_brace c 123 b h refl)
  template_twice (Template.doubled at c {text = text} {parts = p} b d) (Template.end at') e = cc
  template_twice (Template.doubled at c {text = text} {parts = p} b d) (Template.plain at' c' {text = text'} {parts = p'} b' d') e = let h : c' ≡ c = cc in absurd (plain_brace c' c b' h b)
  template_twice (Template.doubled at c {text = text} {parts = p} b d) (Template.doubled at' c' {text = text'} {parts = p'} b' d') e = let h : c ≡ c' = cc in let r : text ≡ text' = cc in ap (λ k. with_char k p) h ∙ ap (with_char c') (template_twice d d' r)
  template_twice (Template.doubled at c {text = text} {parts = p} b d) (Template.lone at' text' n') e = let h : c ≡ 125 = cc in let r : text' ≡ c ∷ text = cc in absurd (n' text (r ∙ ap (λ k. k ∷ text) h))
  template_twice (Template.doubled at c {text = text} {parts = p} b d) (Template.unended at' text' n' l') e = let h : c ≡ 123 = cc in let r : text' ≡ c ∷ text = cc in absurd (n' text (r ∙ ap (λ k. k ∷ text) h))
  template_twice (Template.doubled at c {text = text} {parts = p} b d) (Template.value at' i' text' x' {parts = p'} n' l' g' d') e = let h : c ≡ 123 = cc in let r : i' ++ 125 ∷ text' ≡ c ∷ text = cc in absurd (not_opened i' text' n' text (r ∙ ap (λ k. k ∷ text) h))
  template_twice (Template.doubled at c {text = text} {parts = p} b d) (Template.faulty at' i' text' y' n' l' g') e = let h : c ≡ 123 = cc in let r : i' ++ 125 ∷ text' ≡ c ∷ text = cc in absurd (not_opened i' text' n' text (r ∙ ap (λ k. k ∷ text) h))
  template_twice (Template.lone at text n) (Template.end at') e = cc
  template_twice (Template.lone at text n) (Template.plain at' c' {text = text'} {parts = p'} b' d') e = let h : c' ≡ 125 = cc in absurd (plain_brace c' 125 b' h refl)
  template_twice (Template.lone at text n) (Template.doubled at' c' {text = text'} {parts = p'} b' d') e = let h : c' ≡ 125 = cc in let r : text ≡ c' ∷ text' = cc in absurd (n text' (r ∙ ap (λ k. k ∷ text') h))
  template_twice (Template.lone at text n) (Template.lone at' text' n') e = refl
  template_twice (Template.lone at text n) (Template.unended at' text' n' l') e = let h : ◌≡◌ {A = ℕ} 125 123 = cc in absurd (omega (arith, h))
  template_twice (Template.lone at text n) (Template.value at' i' text' x' {parts = p'} n' l' g' d') e = let h : ◌≡◌ {A = ℕ} 125 123 = cc in absurd (omega (arith, h))
  template_twice (Template.lone at text n) (Template.faulty at' i' text' y' n' l' g') e = let h : ◌≡◌ {A = ℕ} 125 123 = cc in absurd (omega (arith, h))
  template_twice (Template.unended at text n l) (Template.end at') e = cc
  template_twice (Template.unended at text n l) (Template.plain at' c' {text = text'} {parts = p'} b' d') e = let h : c' ≡ 123 = cc in absurd (plain_brace c' 123 b' h refl)
  template_twice (Template.unended at text n l) (Template.doubled at' c' {text = text'} {parts = p'} b' d') e = let h : c' ≡ 123 = cc in let r : text ≡ c' ∷ text' = cc in absurd (n text' (r ∙ ap (λ k. k ∷ text') h))
  template_twice (Template.unended at text n l) (Template.lone at' text' n') e = let h : ◌≡◌ {A = ℕ} 123 125 = cc in absurd (omega (arith, h))
  template_twice (Template.unended at text n l) (Template.unended at' text' n' l') e = refl
  template_twice (Template.unended at text n l) (Template.value at' i' text' x' {parts = p'} n' l' g' d') e = let r : text ≡ i' ++ 125 ∷ text' = cc in let f : None ≡ Some (length i') = sym l ∙ ap (closing None) r ∙ l' in cc
  template_twice (Template.unended at text n l) (Template.faulty at' i' text' y' n' l' g') e = let r : text ≡ i' ++ 125 ∷ text' = cc in let f : None ≡ Some (length i') = sym l ∙ ap (closing None) r ∙ l' in cc
  template_twice (Template.value at i text x {parts = p} n l g d) (Template.end at') e = cc
  template_twice (Template.value at i text x {parts = p} n l g d) (Template.plain at' c' {text = text'} {parts = p'} b' d') e = let h : c' ≡ 123 = cc in absurd (plain_brace c' 123 b' h refl)
  template_twice (Template.value at i text x {parts = p} n l g d) (Template.doubled at' c' {text = text'} {parts = p'} b' d') e = let h : c' ≡ 123 = cc in let r : i ++ 125 ∷ text ≡ c' ∷ text' = cc in absurd (not_opened i text n text' (r ∙ ap (λ k. k ∷ text') h))
  template_twice (Template.value at i text x {parts = p} n l g d) (Template.lone at' text' n') e = let h : ◌≡◌ {A = ℕ} 123 125 = cc in absurd (omega (arith, h))
  template_twice (Template.value at i text x {parts = p} n l g d) (Template.unended at' text' n' l') e = let r : text' ≡ i ++ 125 ∷ text = cc in let f : None ≡ Some (length i) = sym l' ∙ ap (closing None) r ∙ l in cc
  template_twice (Template.value at i text x {parts = p} n l g d) (Template.value at' i' text' x' {parts = p'} n' l' g' d') e =
      let r : i ++ 125 ∷ text ≡ i' ++ 125 ∷ text' = cc in
      let s = one_inner i i' text text' l l' r in
      let same : Ok x ≡ Ok x' = same_inner at i i' (Ok x) (Ok x') s.1 g g' in
      let is : x ≡ x' = cc in
      let rest : p ≡ p' = template_twice d (subst (λ n. Template dialect scope (at + n + 2) text' p') (sym s.0) d') s.2 in
      ap (λ v. with_value v p) is ∙ ap (with_value x') rest
  template_twice (Template.value at i text x {parts = p} n l g d) (Template.faulty at' i' text' y' n' l' g') e =
      let r : i ++ 125 ∷ text ≡ i' ++ 125 ∷ text' = cc in
      let s = one_inner i i' text text' l l' r in
      let same : ◌≡◌ {A = Read Expr} (Ok x) (Err y') = same_inner at i i' (Ok x) (Err y') s.1 g g' in
      cc
  template_twice (Template.faulty at i text y n l g) (Template.end at') e = cc
  template_twice (Template.faulty at i text y n l g) (Template.plain at' c' {text = text'} {parts = p'} b' d') e = let h : c' ≡ 123 = cc in absurd (plain_brace c' 123 b' h refl)
  template_twice (Template.faulty at i text y n l g) (Template.doubled at' c' {text = text'} {parts = p'} b' d') e = let h : c' ≡ 123 = cc in let r : i ++ 125 ∷ text ≡ c' ∷ text' = cc in absurd (not_opened i text n text' (r ∙ ap (λ k. k ∷ text') h))
  template_twice (Template.faulty at i text y n l g) (Template.lone at' text' n') e = let h : ◌≡◌ {A = ℕ} 123 125 = cc in absurd (omega (arith, h))
  template_twice (Template.faulty at i text y n l g) (Template.unended at' text' n' l') e = let r : text' ≡ i ++ 125 ∷ text = cc in let f : None ≡ Some (length i) = sym l' ∙ ap (closing None) r ∙ l in cc
  template_twice (Template.faulty at i text y n l g) (Template.value at' i' text' x' {parts = p'} n' l' g' d') e =
      let r : i ++ 125 ∷ text ≡ i' ++ 125 ∷ text' = cc in
      let s = one_inner i i' text text' l l' r in
      let same : ◌≡◌ {A = Read Expr} (Err y) (Ok x') = same_inner at i i' (Err y) (Ok x') s.1 g g' in
      cc
  template_twice (Template.faulty at i text y n l g) (Template.faulty at' i' text' y' n' l' g') e =
      let r : i ++ 125 ∷ text ≡ i' ++ 125 ∷ text' = cc in
      let s = one_inner i i' text text' l l' r in
      let same : ◌≡◌ {A = Read Expr} (Err y) (Err y') = same_inner at i i' (Err y) (Err y') s.1 g g' in
      let is : y ≡ y' = cc in
      ap Err is

  pub one_template : (at : ℕ) (text : List ℕ) (a b : Read (List AvtPart)) → Template dialect scope at text a → Template dialect scope at text b → a ≡ b
  one_template at text a b d f = template_twice d f refl
