-- Whatever some text is read as can be evaluated.
use Rattle.std.proofs.Common.{◌≡◌, ℕ, zero, suc, ◌+◌, ◌≤◌, ◌&&◌, Bool, true, false, List, [], ◌∷◌, map, Ok, Err, sym, ◌∙◌, refl, subst, arith}
use Rattle.std.specs.List.{list_all}
use Rattle.std.specs.Prelude.{All}
use Rattle.std.proofs.lemmas.Bool.{false≢true}
use Rattle.std.proofs.lemmas.List.Folds.{list_all-map}
use Rattle.stx_base.specs.declared.name.Binding.{Binding}
use Rattle.stxpath_syntax.specs.declared.dialect.Dialect.{Dialect}
use Rattle.stxpath_syntax.specs.declared.expr.Alternative.{Alternative}
use Rattle.stxpath_syntax.specs.declared.expr.Alternative.TheVariants as alternative
use Rattle.stxpath_syntax.specs.declared.expr.AvtPart.{AvtPart}
use Rattle.stxpath_syntax.specs.declared.expr.AvtPart.TheVariants.{Chars, Value}
use Rattle.stxpath_syntax.specs.declared.expr.Expr.{Expr}
use Rattle.stxpath_syntax.specs.declared.expr.PathStep.{PathStep}
use Rattle.stxpath_syntax.specs.Readable.{IsReadable, IsReadableAlternative, IsReadableTemplate, IsReadablePart}
use Rattle.stxpath_syntax.specs.Shape.{is_called_well, is_step_called_well, is_alternative_called_well, greatest, height, height_of_step, alternative_height, CanBeEvaluated, PredicatesCanBeEvaluated}
use Rattle.stxpath_syntax.specs.Template.{Template, Read, with_char, with_value}
use Rattle.stxpath_syntax.proofs.Shaping.{called_step, high_step, expression_called, expression_low, pattern_called, pattern_low}

both : (a b : Bool) → (a && b) ≡ true → (a ≡ true) × (b ≡ true)
both true b h = (refl, h)
both false b h = absurd (false≢true h)

-- what passes a test, and is no higher than the bound
abbrev Within : {A : Type 0} → (A → Bool) → (A → ℕ) → A → Type 0
Within test tall x = (test x ≡ true) × (tall x ≤ 64)

all_within : {A : Type 0} (test : A → Bool) (tall : A → ℕ) (xs : List A) → list_all test xs ≡ true → greatest (map tall xs) ≤ 64 → All (Within test tall) xs
all_within test tall [] e l k d m = absurd (omega (arith, m))
all_within test tall (x ∷ xs) e l zero d m = ((both (test x) (list_all test xs) e).0, omega (arith, l))
all_within test tall (x ∷ xs) e l (suc k) d m = all_within test tall xs (both (test x) (list_all test xs) e).1 (omega (arith, l)) k d (omega (arith, m))

pub readable_expression : (x : Expr) → IsReadable x → CanBeEvaluated x
readable_expression x (dialect, scope, at, text, d) = (expression_called dialect scope at text x d, expression_low dialect scope at text x d)

step_predicates : (s : PathStep) → Within is_step_called_well height_of_step s → All CanBeEvaluated s.predicates
step_predicates s (w, l) =
    let e = called_step s.link s.test s.predicates ∙ list_all-map (λ b. b) is_called_well s.predicates in
    let h = high_step s.link s.test s.predicates in
    all_within is_called_well height s.predicates (sym e ∙ w) (omega (arith, h, l))

steps_predicates : (steps : List PathStep) → All (Within is_step_called_well height_of_step) steps → All (λ step. All CanBeEvaluated step.predicates) steps
steps_predicates steps h k d l = step_predicates _ (h k d l)

alternative_predicates : (a : Alternative) → Within is_alternative_called_well alternative_height a → PredicatesCanBeEvaluated a
alternative_predicates alternative.Root h = tt
alternative_predicates (alternative.Steps steps) (w, l) = steps_predicates steps (all_within is_step_called_well height_of_step steps w l)

pub readable_alternative : (a : Alternative) → IsReadableAlternative a → PredicatesCanBeEvaluated a
readable_alternative a (all, (dialect, scope, text, d), (k, l, same)) =
    let each = all_within is_alternative_called_well alternative_height all (pattern_called dialect scope text all d) (pattern_low dialect scope text all d) in
    subst PredicatesCanBeEvaluated same (alternative_predicates _ (each k a l))

-- the parts of what was read
abbrev Parts : List AvtPart → Type 0
Parts [] = Unit {0}
Parts (part ∷ parts) = IsReadablePart part × Parts parts

abbrev IfRead : Read (List AvtPart) → Type 0
IfRead (Ok parts) = Parts parts
IfRead (Err why) = Unit {0}

char_on : (c : ℕ) (parts : Read (List AvtPart)) → IfRead parts → IfRead (with_char c parts)
char_on c (Err why) p = tt
char_on c (Ok []) p = (tt, tt)
char_on c (Ok (Chars cs ∷ parts)) p = (tt, p.1)
char_on c (Ok (Value x ∷ parts)) p = (tt, p)

value_on : (x : Expr) (parts : Read (List AvtPart)) → IsReadable x → IfRead parts → IfRead (with_value x parts)
value_on x (Err why) r p = tt
value_on x (Ok parts) r p = (r, p)

all_parts : (parts : List AvtPart) → Parts parts → All IsReadablePart parts
all_parts [] p k d l = absurd (omega (arith, l))
all_parts (part ∷ parts) p zero d l = p.0
all_parts (part ∷ parts) p (suc k) d l = all_parts parts p.1 k d (omega (arith, l))

module _ (dialect : Dialect) (scope : List Binding) where
  template_parts : {at : ℕ} {text : List ℕ} {parts : Read (List AvtPart)} → Template dialect scope at text parts → IfRead parts
  template_parts (Template.end at) = tt
  template_parts (Template.plain at c {text} {parts} b d) = char_on c parts (template_parts d)
  template_parts (Template.doubled at c {text} {parts} b d) = char_on c parts (template_parts d)
  template_parts (Template.lone at text n) = tt
  template_parts (Template.unended at text n e) = tt
  template_parts (Template.value at inner text x {parts} n e g d) = value_on x parts (dialect, scope, at + 1, inner, g) (template_parts d)
  template_parts (Template.faulty at inner text why n e g) = tt

pub readable_parts : (parts : List AvtPart) → IsReadableTemplate parts → All IsReadablePart parts
readable_parts parts (dialect, scope, text, d) = all_parts parts (template_parts dialect scope d)
