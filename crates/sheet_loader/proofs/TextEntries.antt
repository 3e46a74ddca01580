-- What a text of the path language is read as has no more entries than the text has characters.
use Rattle.std.proofs.Common.{◌≡◌, ℕ, suc, ◌+◌, ◌<◌, ◌≤◌, Bool, true, false, ◌&&◌, ◌==◌, List, [], ◌∷◌, ◌++◌, Option, Some, None, Ok, Err, cond, length, drop, take, refl, ap, subst, arith, sum_by, nat_eq, nat_lt, option_map}
use Rattle.std.proofs.lemmas.List.{length-append, length-drop}
use Rattle.std.proofs.lemmas.List.Sums.{sum_by-append, sum_by-cons}
use Rattle.std.specs.Char.{is_ascii_digit}
use Rattle.std.specs.List.{position_or_len, prefix_len}
use Rattle.std.specs.Option.{option_or}
use Rattle.stx_base.specs.Character.{is_ncname_char}
use Rattle.stx_base.specs.declared.name.Binding.{Binding}
use Rattle.stx_base.specs.declared.node.NodeTest.{NodeTest}
use Rattle.sheet_model.specs.Entries.{alternative_entries, expression_entries, part_entries}
use Rattle.sheet_loader.proofs.ExpressionEntries.{FewIn, FewSteps, also_steps, expression_few, few_predicates, few_steps, of_alternatives, stepped_few}
use Rattle.stxpath_syntax.proofs.Heights.{IfFine, joined_fine, made_fine}
use Rattle.stxpath_syntax.specs.Grammar.{Alternates, AttrStep, AttrTest, Pattern, Spells, at, link_tokens}
use Rattle.stxpath_syntax.specs.Meaning.{and_also, none}
use Rattle.stxpath_syntax.specs.Meaning as meaning
use Rattle.stxpath_syntax.specs.Reading.{Gives}
use Rattle.stxpath_syntax.specs.Template.{IsExpression, IsPattern, IsTemplate, Read, Template, with_char, with_value}
use Rattle.stxpath_syntax.specs.Tokens.{Lexed, before_next, begun, begins_name, double_sign, first_token, goes_on, has_at, is_quote, literal, name, numeral, sign, single_sign, space, with_length}
use Rattle.stxpath_syntax.specs.declared.dialect.Dialect.{Dialect}
use Rattle.stxpath_syntax.specs.declared.expr.Alternative.{Alternative}
use Rattle.stxpath_syntax.specs.declared.expr.Alternative.TheVariants as alternative
use Rattle.stxpath_syntax.specs.declared.expr.AvtPart.{AvtPart}
use Rattle.stxpath_syntax.specs.declared.expr.AvtPart.TheVariants.{Chars, Value}
use Rattle.stxpath_syntax.specs.declared.expr.Expr.{Expr}
use Rattle.stxpath_syntax.specs.declared.expr.Link.{Link}
use Rattle.stxpath_syntax.specs.declared.expr.PathStep.{PathStep}
use Rattle.stxpath_syntax.specs.declared.meant.Meant.{Meant}
use Rattle.stxpath_syntax.specs.declared.meant.Meant.TheVariants.{Fine}
use Rattle.stxpath_syntax.specs.declared.token.Before.{Before}
use Rattle.stxpath_syntax.specs.declared.token.Placed.{Placed}
use Rattle.stxpath_syntax.specs.declared.token.Token.{Token}
use Rattle.stxpath_syntax.specs.declared.token.Token.TheVariants as token

-- A token has characters.

abbrev Long : Option (Token × ℕ) → Type 0
Long None = Unit {0}
Long (Some found) = 0 < found.1

long_of : (o : Option (Token × ℕ)) (found : Token × ℕ) → o ≡ Some found → Long o → 0 < found.1
long_of None found e l = cc
long_of (Some f) found e l = let same : f ≡ found = cc in subst (λ f. 0 < f.1) same l

cond_long : (b : Bool) (o p : Option (Token × ℕ)) → (b ≡ true → Long o) → Long p → Long (cond b o p)
cond_long true o p f l = f refl
cond_long false o p f l = l

numeral_long : (c : ℕ) (text : List ℕ) → is_ascii_digit c ≡ true → Long (Some (numeral (c ∷ text)))
numeral_long c text e =
    let n : prefix_len is_ascii_digit (c ∷ text) ≡ 1 + prefix_len is_ascii_digit text = ap (λ b. cond b (1 + prefix_len is_ascii_digit text) 0) e in
    omega (arith, n)

literal_long : (quote : ℕ) (text : List ℕ) → Long (literal quote text)
literal_long quote text =
    cond_long (nat_lt (position_or_len (λ c. nat_eq c quote) text) (length text)) _ None (λ e. omega arith) tt

-- one of three, by tests
three_long : (a b : Bool) (t u v : Token) (n k m : ℕ) → 0 < n → 0 < k → 0 < m → 0 < (cond {A = Token × ℕ} a (t, n) (cond b (u, k) (v, m))).1
three_long true b t u v n k m l p q = l
three_long false true t u v n k m l p q = p
three_long false false t u v n k m l p q = q

goes_long : (n : ℕ) (text : List ℕ) → 0 < n → 0 < (goes_on n text).1
goes_long n text l =
    let m : ℕ = prefix_len is_ncname_char (drop (n + 1) text) in
    three_long (has_at (λ c. c == 58) n text && has_at begins_name (n + 1) text) (has_at (λ c. c == 58) n text && has_at (λ c. c == 42) (n + 1) text)
    (token.Name (record { prefix = take n text; local = take m (drop (n + 1) text) })) (token.Within (take n text))
    (token.Name (record { prefix = []; local = take n text })) (n + 1 + m) (n + 2) n (omega (arith, l)) (omega (arith, l)) l

name_long : (text : List ℕ) → Long (Some (name text))
name_long text = goes_long (prefix_len is_ncname_char (drop 1 text) + 1) text (omega arith)

mapped_long : (n : ℕ) (o : Option Token) → Long (option_map (with_length (suc n)) o)
mapped_long n None = tt
mapped_long n (Some t) = omega arith

or_long : (o p : Option (Token × ℕ)) → Long o → Long p → Long (option_or o p)
or_long None p l m = m
or_long (Some f) p l m = l

sign_long : (text : List ℕ) → Long (sign text)
sign_long [] = tt
sign_long (c ∷ []) = mapped_long 0 (single_sign c)
sign_long (c ∷ d ∷ text) = or_long _ _ (mapped_long 1 (double_sign c d)) (mapped_long 0 (single_sign c))

token_long : (text : List ℕ) → Long (first_token text)
token_long [] = tt
token_long (c ∷ text) =
    cond_long (is_ascii_digit c) _ _ (numeral_long c text)
    (cond_long (is_quote c) _ _ (λ e. literal_long c text) (cond_long (begins_name c) _ _ (λ e. name_long (c ∷ text)) (sign_long (c ∷ text))))

some_text : (text : List ℕ) (found : Token × ℕ) → first_token text ≡ Some found → 0 < length text
some_text [] found e = absurd cc
some_text (c ∷ text) found e = omega arith

tokens_fit : (ts : List Placed) (b : Before) (text : List ℕ) → Lexed b text ts None → length ts ≤ length text
tokens_fit [] b text h = omega arith
tokens_fit (t ∷ ts) b text h =
    let len = h.0 in
    let s = h.1 in
    let rest = tokens_fit ts (before_next b t.token (b.at + len)) (drop len text) h.2 in
    let long = long_of (first_token (drop (space text) text)) s.found s.is_first (token_long (drop (space text) text)) in
    let some = some_text (drop (space text) text) s.found s.is_first in
    let e = s.is_long in
    omega (arith, rest, long, some, e, length-drop len text, length-drop (space text) text)

abbrev pub of_parts : List AvtPart → ℕ
of_parts ps = length ps + sum_by part_entries ps

-- Patterns.

abbrev FewAlternatives : ℕ → List Alternative → ℕ → Type 0
FewAlternatives n all h = of_alternatives all ≤ n

abbrev FewAlternative : ℕ → Alternative → ℕ → Type 0
FewAlternative n a h = alternative_entries a ≤ n

alternatives_more : (xs : List Alternative) (a : Alternative) → of_alternatives (xs ++ a ∷ []) ≡ of_alternatives xs + 1 + alternative_entries a
alternatives_more xs x =
    let a = length-append xs (x ∷ []) in let b = sum_by-append alternative_entries xs (x ∷ []) in let c = sum_by-cons alternative_entries x [] in omega (arith, a, b, c)

also_alternatives : (n k m : ℕ) (xs : Meant (List Alternative)) (x : Meant Alternative) → n + 1 + k ≤ m → IfFine (FewAlternatives n) xs → IfFine (FewAlternative k) x → IfFine (FewAlternatives m) (and_also xs x)
also_alternatives n k m xs x l p q =
    joined_fine (FewAlternatives n) (FewAlternative k) (FewAlternatives m) 0 (λ values value. values ++ value ∷ []) xs x p q (λ ys y h g a b z. let r = alternatives_more ys y in omega (arith, r, a, b, l))

steps_few : (n : ℕ) (steps : Meant (List PathStep)) → IfFine (FewSteps n) steps → IfFine (FewAlternative n) (meaning.steps steps)
steps_few n steps h = made_fine (FewSteps n) (FewAlternative n) 0 alternative.Steps steps h (λ ys g a z. a)

module _ (dialect : Dialect) (scope : List Binding) where
  attr_some : {ts : List Placed} {t : Meant NodeTest} → AttrTest scope ts t → 0 < length ts
  attr_some (AttrTest.named a p name) = omega arith
  attr_some (AttrTest.within a p prefix) = omega arith
  attr_some (AttrTest.any a p) = omega arith

  few_attribute : {l : Link} {ts : List Placed} {s : Meant PathStep} → AttrStep dialect scope l ts s → IfFine (FewIn (length ts)) s
  few_attribute (AttrStep.tested l p {ts} {us} {t} {es} d f) =
      let a = length-append (link_tokens l p ++ ts) us in let b = length-append (link_tokens l p) ts in let c = attr_some d in
      stepped_few l (length us) (length (link_tokens l p ++ ts ++ us)) t es (omega (arith, a, b, c)) (few_predicates dialect scope f)

  few_alternative : {ts : List Placed} {a : Meant Alternative} → Alternates dialect scope ts a → IfFine (FewAlternative (length ts)) a
  few_alternative (Alternates.root p) = omega arith
  few_alternative (Alternates.steps l {ts} {steps} d) = steps_few (length ts) steps (few_steps dialect scope d)
  few_alternative (Alternates.attribute l {ts} {s} d) = steps_few (length ts) (and_also none s) (also_steps 0 (length ts) (length ts) none s (omega arith) (omega arith) (few_attribute d))
  few_alternative (Alternates.attributes l m {ts} {us} {steps} {s} ne d f) =
      let a = length-append ts us in
      steps_few (length (ts ++ us)) (and_also steps s) (also_steps (length ts) (length us) (length (ts ++ us)) steps s (omega (arith, a)) (few_steps dialect scope d) (few_attribute f))

  few_pattern : {ts : List Placed} {all : Meant (List Alternative)} → Pattern dialect scope ts all → IfFine (FewAlternatives (length ts + 1)) all
  few_pattern (Pattern.one {ts} {a} d) = also_alternatives 0 (length ts) (length ts + 1) none a (omega arith) (omega arith) (few_alternative d)
  few_pattern (Pattern.further p {ts} {us} {all} {a} d f) =
      let r = length-append ts (at p token.Bar ∷ us) in
      also_alternatives (length ts + 1) (length us) (length (ts ++ at p token.Bar ∷ us) + 1) all a (omega (arith, r)) (few_pattern d) (few_alternative f)

  -- What texts are read as.

  gives_fits : {A : Type 0} (Means : List Placed → Meant A → Type 0) (count : A → ℕ) (more : ℕ) → ((ts : List Placed) (a : A) (h : ℕ) → Means ts (Fine a h) → count a ≤ length ts + more)
      → (from : ℕ) (text : List ℕ) (r : Read A) (a : A) → Gives Means from text r → r ≡ Ok a → count a ≤ length text + more
  gives_fits Means count more few from text r a (Gives.no_token ts fault d) e = absurd cc
  gives_fits Means count more few from text r a (Gives.no_reading ts place d s) e = absurd cc
  gives_fits Means count more few from text r a (Gives.no_meaning ts fault d m) e = absurd cc
  gives_fits Means count more few from text r a (Gives.too_high ts d m) e = absurd cc
  gives_fits {A} Means count more few from text r a (Gives.read ts b height d m) e =
      let same : b ≡ a = cc in
      let l = tokens_fit ts (begun from) text d in
      let f = few ts b height m in
      subst (λ (x : A). count x ≤ length text + more) same (omega (arith, l, f))

  pub expression_fits : (from : ℕ) (text : List ℕ) (x : Expr) → IsExpression dialect scope from text (Ok x) → expression_entries x ≤ length text
  expression_fits from text x h =
      let g = gives_fits (Spells dialect scope 1) expression_entries 0 (λ ts y height d. let f = expression_few dialect scope y height d in omega (arith, f)) from text (Ok x) x h refl in omega (arith, g)

  pub pattern_fits : (text : List ℕ) (all : List Alternative) → IsPattern dialect scope text (Ok all) → of_alternatives all ≤ length text + 1
  pattern_fits text all h = gives_fits (Pattern dialect scope) of_alternatives 1 (λ ts y height d. few_pattern d) 0 text (Ok all) all h refl

  -- either what is read, or a fault
  abbrev FewParts : ℕ → Read (List AvtPart) → Type 0
  FewParts n (Ok ps) = of_parts ps ≤ n
  FewParts n (Err fault) = Unit {0}

  with_char_few : (c n : ℕ) (r : Read (List AvtPart)) → FewParts n r → FewParts (suc n) (with_char c r)
  with_char_few c n (Ok (Chars cs ∷ ps)) h =
      let a = sum_by-cons part_entries (Chars cs) ps in let b = sum_by-cons part_entries (Chars (c ∷ cs)) ps in omega (arith, h, a, b)
  with_char_few c n (Ok (Value x ∷ ps)) h =
      let a = sum_by-cons part_entries (Chars (c ∷ [])) (Value x ∷ ps) in omega (arith, h, a)
  with_char_few c n (Ok []) h = let a = sum_by-cons part_entries (Chars (c ∷ [])) [] in omega (arith, h, a)
  with_char_few c n (Err fault) h = tt

  with_value_few : (x : Expr) (k n m : ℕ) (r : Read (List AvtPart)) → expression_entries x ≤ k → k + n + 1 ≤ m → FewParts n r → FewParts m (with_value x r)
  with_value_few x k n m (Ok ps) h l p = let a = sum_by-cons part_entries (Value x) ps in omega (arith, h, l, p, a)
  with_value_few x k n m (Err fault) h l p = tt

  few_template : {from : ℕ} {text : List ℕ} {r : Read (List AvtPart)} → Template dialect scope from text r → FewParts (length text) r
  few_template (Template.end from) = omega arith
  few_template (Template.plain from c {text} {parts} b d) = with_char_few c (length text) parts (few_template d)
  few_template (Template.doubled from c {text} {parts} b d) = wider parts (with_char_few c (length text) parts (few_template d)) where
    wider : (r : Read (List AvtPart)) → FewParts (suc (length text)) (with_char c r) → FewParts (suc (suc (length text))) (with_char c r)
    wider (Ok (Chars cs ∷ ps)) h = omega (arith, h)
    wider (Ok (Value x ∷ ps)) h = omega (arith, h)
    wider (Ok []) h = omega (arith, h)
    wider (Err fault) h = tt
  few_template (Template.lone from text n) = tt
  few_template (Template.unended from text n l) = tt
  few_template (Template.value from inner text x {parts} n l g d) =
      let a = length-append inner (125 ∷ text) in
      with_value_few x (length inner) (length text) (suc (length (inner ++ 125 ∷ text))) parts (expression_fits (from + 1) inner x g) (omega (arith, a)) (few_template d)
  few_template (Template.faulty from inner text why n l g) = tt

  pub template_fits : (text : List ℕ) (ps : List AvtPart) → IsTemplate dialect scope text (Ok ps) → of_parts ps ≤ length text
  template_fits text ps h = few_template h
