-- How steps end, by how those before the last one end.
use Rattle.std.proofs.Common.{◌≡◌, ◌≢◌, ℕ, ◌+◌, ◌≤◌, Bool, true, false, ◌&&◌, ◌==◌, List, [], ◌∷◌, ◌++◌, Option, None, Some, Result, Ok, Err, length, refl, ap, sym, ◌∙◌, arith, IfOk}
use Rattle.std.proofs.lemmas.Bool.{eqb-true}
use Rattle.std.proofs.lemmas.List.Folds.{list_all-append}
use Rattle.std.specs.List.{list_all}
use Rattle.stx_base.specs.declared.limits.Limits.{Limits}
use Rattle.stx_base.specs.declared.name.Name.{Name}
use Rattle.node_stack.specs.Open.{node_of}
use Rattle.node_stack.specs.Path.{Path, kind_of, node_at}
use Rattle.node_stack.specs.Stack.{path}
use Rattle.node_stack.specs.Test.{passes}
use Rattle.node_stack.specs.declared.node.NodeView.{NodeView}
use Rattle.node_stack.specs.declared.stack.NodeStack.{NodeStack}
use Rattle.stxpath_eval.specs.Setting.{Setting, at_step}
use Rattle.stxpath_eval.specs.Steps.{holds}
use Rattle.stxpath_eval.specs.Value.{value}
use Rattle.stxpath_syntax.specs.declared.expr.Expr.{Expr}
use Rattle.stxpath_syntax.specs.declared.expr.Link.TheVariants as link
use Rattle.stxpath_syntax.specs.declared.expr.PathStep.{PathStep}
use Rattle.stxpath_values.specs.declared.value.Atom.{Atom}
use Rattle.match_patterns.specs.Fits.{at_current, is_bare, may_follow, node_passes, step_fits, surely}
use Rattle.match_patterns.specs.Walk.{EndsAt, IsEnding}
use Rattle.match_patterns.specs.declared.walk.Ending.{Ending}
use Rattle.match_patterns.specs.declared.walk.Ending.TheVariants.{Here, Elsewhere, NotBefore}
use Rattle.match_patterns.proofs.Bools.{both}
use Rattle.match_patterns.proofs.Walks.{alone, alone_not, slash_elsewhere, slash_here, slash_not_before}

-- there is at least the document node
pub some_node : (s : NodeStack) → 1 ≤ length (path s).nodes
unfolding path
some_node s = omega arith

pub nonempty : (front : List PathStep) (b : Bool) → b ≡ (length front == 0) → b ≡ false → front ≢ []
nonempty [] b is not none = cc
nonempty (s ∷ front) b is not none = cc

pub of_ok : {A E : Type 0} (r : Result A E) (P Q : A → Type 0) → ((a : A) → P a → Q a) → IfOk r P → IfOk r Q
of_ok (Ok a) P Q f h = f a h
of_ok (Err e) P Q f h = h

-- the last step is alone
pub alone_is : (g : Setting) (s : PathStep) (q : ℕ) (e : Ending) → step_fits s g q ≡ true → ((e ≡ Here → may_follow s.link None q ≡ true) × (may_follow s.link None q ≡ true → e ≡ Here))
    → ((e ≡ Elsewhere → ¬ (may_follow s.link None q ≡ true)) × (¬ (may_follow s.link None q ≡ true) → e ≡ Elsewhere)) → e ≢ NotBefore → IsEnding g (s ∷ []) q e
alone_is g s q Here fits here elsewhere never = alone g s q fits (here.0 refl)
alone_is g s q Elsewhere fits here elsewhere never = alone_not g s q (elsewhere.0 refl)
alone_is g s q NotBefore fits here elsewhere never = absurd (never refl)

-- it stands behind a slash
pub by_slash : (g : Setting) (front : List PathStep) (s : PathStep) (m q : ℕ) (e : Ending) → s.link ≡ link.Slash → front ≢ [] → q ≡ m + 1 → step_fits s g q ≡ true
    → IsEnding g front m e → IsEnding g (front ++ s ∷ []) q e
by_slash g front s m q Here is some next fits ends = slash_here g front s m q is fits next ends
by_slash g front s m q Elsewhere is some next fits not = slash_elsewhere g front s m q is some next not
by_slash g front s m q NotBefore is some next fits none = λ p within. slash_not_before g front s m is some none p (omega arith)

-- a step without predicates fits where its test passes
bare_all : {A : Type 0} (p : A → Bool) (xs : List A) → (length xs == 0) ≡ true → list_all p xs ≡ true
bare_all p [] h = refl
bare_all p (x ∷ xs) h = absurd (let none : length (x ∷ xs) ≡ 0 = eqb-true (length (x ∷ xs)) 0 h in omega arith)

abbrev asked : (Name → Option (List Atom)) → Limits → Path → ℕ → PathStep → Expr → Bool
asked vars limits p place s predicate = surely (holds (value predicate) (at_step place s.test (at_current vars limits p)))

pub plainly_fits : (vars : Name → Option (List Atom)) (limits : Limits) (p : Path) (place : ℕ) (s : PathStep) (v : NodeView) → node_at p place ≡ Some (node_of v)
    → passes s.test (kind_of (node_of v)) ≡ true → is_bare s ≡ true → step_fits s (at_current vars limits p) place ≡ true
plainly_fits vars limits p place s v at passed bare =
    ap (λ n. node_passes s.test n && list_all (asked vars limits p place s) s.predicates) at
    ∙ ap (λ b. b && list_all (asked vars limits p place s) s.predicates) passed
    ∙ bare_all (asked vars limits p place s) s.predicates bare

pub plainly_not : (vars : Name → Option (List Atom)) (limits : Limits) (p : Path) (place : ℕ) (s : PathStep) (v : NodeView) → node_at p place ≡ Some (node_of v)
    → passes s.test (kind_of (node_of v)) ≡ false → step_fits s (at_current vars limits p) place ≡ false
plainly_not vars limits p place s v at not =
    ap (λ n. node_passes s.test n && list_all (asked vars limits p place s) s.predicates) at ∙ ap (λ b. b && list_all (asked vars limits p place s) s.predicates) not

pub bare_last : (front : List PathStep) (s : PathStep) → list_all is_bare (front ++ s ∷ []) ≡ true → is_bare s ≡ true
bare_last front s h = (both (is_bare s) true (both (list_all is_bare front) (is_bare s && true) (sym (list_all-append is_bare front (s ∷ [])) ∙ h)).1).0

pub bare_front : (front : List PathStep) (s : PathStep) → list_all is_bare (front ++ s ∷ []) ≡ true → list_all is_bare front ≡ true
bare_front front s h = (both (list_all is_bare front) (is_bare s && true) (sym (list_all-append is_bare front (s ∷ [])) ∙ h)).0

-- whether steps end at a place, by how they end
pub told_by : (g : Setting) (steps : List PathStep) (place : ℕ) (e : Ending) (b : Bool) → ((b ≡ true → e ≡ Here) × (e ≡ Here → b ≡ true)) → IsEnding g steps place e
    → (b ≡ true → EndsAt g steps place) × (EndsAt g steps place → b ≡ true)
told_by g steps place Here b is ends = (λ h. ends, λ h. is.1 refl)
told_by g steps place Elsewhere b is not = (λ h. absurd (let never = is.0 h in cc), λ ends. absurd (not ends))
told_by g steps place NotBefore b is none = (λ h. absurd (let never = is.0 h in cc), λ ends. absurd (none place (omega arith) ends))
