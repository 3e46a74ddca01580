-- The nearest declaration of a prefix.
use Rattle.std.proofs.Common.{◌≡◌, ◌≢◌, ◌⊎◌, inl, inr, ℕ, Bool, true, false, not, List, [], ◌∷◌, ◌++◌, Option, Some, None, refl, sym, ap, ◌∙◌, codes, append_assoc}
use Rattle.std.specs.Prelude.{is_some, unwrap_or, if◌then◌else◌}
use Rattle.std.specs.List.{list_all}
use Rattle.std.specs.Option.{option_or}
use Rattle.std.proofs.lemmas.Bool.{and_parts, or_parts, not-true, cases_Bool}
use Rattle.stx_base.specs.declared.name.Binding.{Binding}
use Rattle.xml_names.specs.Scope.{same, last_uri, declared_on, unless_empty, bound, xml_uri}
use Rattle.xml_names.specs.Laws.{declares, AreSilent, DefaultsElements}
use Rattle.xml_names.proofs.Paths.{bound-is}
use Rattle.xml_names.proofs.Places.{last_uri-append}
use Rattle.xml_names.proofs.Texts.{same-true, same-refl}

pub declared_on-append : (xs ys : List (List Binding)) → declared_on (xs ++ ys) ≡ declared_on xs ++ declared_on ys
declared_on-append [] ys = refl
declared_on-append (x ∷ xs) ys = ap (λ l. x ++ l) (declared_on-append xs ys) ∙ sym (append_assoc x (declared_on xs) (declared_on ys))

silent : (bs : List Binding) (p : List ℕ) → declares bs p ≡ false → last_uri bs p ≡ None
silent [] p h = refl
silent (b ∷ bs) p h =
    let parts = or_parts (same b.prefix p) (declares bs p) h in
    ap (λ o. option_or o (if same b.prefix p then Some b.uri else None)) (silent bs p parts.1) ∙ ap (λ t. if t then Some b.uri else None) parts.0

are-silent : (tags : List (List Binding)) (p : List ℕ) → AreSilent tags p → last_uri (declared_on tags) p ≡ None
are-silent [] p h = refl
are-silent (tag ∷ tags) p h =
    let parts = and_parts (not (declares tag p)) (list_all (λ t. not (declares t p)) tags) h in
    last_uri-append tag (declared_on tags) p
    ∙ ap (λ o. option_or o (last_uri tag p)) (are-silent tags p parts.1)
    ∙ silent tag p (not-true (declares tag p) parts.0)

nearest : (outer inner : List (List Binding)) (before behind : List Binding) (b : Binding) → declares behind b.prefix ≡ false → AreSilent inner b.prefix
    → last_uri (declared_on (outer ++ (before ++ b ∷ behind) ∷ inner)) b.prefix ≡ Some b.uri
nearest outer inner before behind b none others =
    let p = b.prefix in
    let tag = before ++ b ∷ behind in
    ap (λ l. last_uri l p) (declared_on-append outer (tag ∷ inner))
    ∙ last_uri-append (declared_on outer) (tag ++ declared_on inner) p
    ∙ ap (λ o. option_or o (last_uri (declared_on outer) p)) (
    last_uri-append tag (declared_on inner) p
    ∙ ap (λ o. option_or o (last_uri tag p)) (are-silent inner p others)
    ∙ last_uri-append before (b ∷ behind) p
    ∙ ap (λ o. option_or o (last_uri before p)) (
    ap (λ o. option_or o (if same b.prefix p then Some b.uri else None)) (silent behind p none)
    ∙ ap (λ t. if t then Some b.uri else None) (same-refl p)))

different : (a b : List ℕ) → a ≢ b → same a b ≡ false
different a b ne = by_case (cases_Bool (same a b)) where
  by_case : (same a b ≡ true) ⊎ (same a b ≡ false) → same a b ≡ false
  by_case (inl e) = absurd (ne (same-true a b e))
  by_case (inr e) = e

full : (uri : List ℕ) → uri ≢ [] → unless_empty (Some uri) ≡ Some uri
full [] ne = absurd (ne refl)
full (c ∷ cs) ne = refl

pub binds-nearest : (outer inner : List (List Binding)) (before behind : List Binding) (b : Binding) → declares behind b.prefix ≡ false → AreSilent inner b.prefix
    → b.prefix ≢ codes "xml" → b.uri ≢ [] → bound (outer ++ (before ++ b ∷ behind) ∷ inner) b.prefix ≡ Some b.uri
binds-nearest outer inner before behind b none others other some =
    let path = outer ++ (before ++ b ∷ behind) ∷ inner in
    bound-is path (declared_on path) refl b.prefix (different b.prefix (codes "xml") other)
    ∙ ap unless_empty (nearest outer inner before behind b none others) ∙ full b.uri some

pub takes-away : (outer inner : List (List Binding)) (before behind : List Binding) (b : Binding) → declares behind b.prefix ≡ false → AreSilent inner b.prefix
    → b.prefix ≢ codes "xml" → b.uri ≡ [] → bound (outer ++ (before ++ b ∷ behind) ∷ inner) b.prefix ≡ None
takes-away outer inner before behind b none others other gone =
    let path = outer ++ (before ++ b ∷ behind) ∷ inner in
    bound-is path (declared_on path) refl b.prefix (different b.prefix (codes "xml") other)
    ∙ ap unless_empty (nearest outer inner before behind b none others) ∙ ap (λ u. unless_empty (Some u)) gone

pub binds-nothing : (path : List (List Binding)) (prefix : List ℕ) → AreSilent path prefix → prefix ≢ codes "xml" → bound path prefix ≡ None
binds-nothing path prefix none other = bound-is path (declared_on path) refl prefix (different prefix (codes "xml") other) ∙ ap unless_empty (are-silent path prefix none)

-- an element without a prefix
pub defaults-elements : DefaultsElements
defaults-elements outer inner before behind b name is none others plain =
    let path = outer ++ (before ++ b ∷ behind) ∷ inner in
    let own : declares behind b.prefix ≡ false = ap (declares behind) is ∙ none in
    let inside : AreSilent inner b.prefix = ap (λ p. list_all (λ t. not (declares t p)) inner) is ∙ others in
    let last : last_uri (declared_on path) [] ≡ Some b.uri = ap (last_uri (declared_on path)) (sym is) ∙ nearest outer inner before behind b own inside in
    ap (λ p. unwrap_or (bound path p) []) plain ∙ (ap (λ o. unwrap_or (unless_empty o) []) last ∙ whole b.uri) where
      whole : (uri : List ℕ) → unwrap_or (unless_empty (Some uri)) [] ≡ uri
      whole [] = refl
      whole (c ∷ cs) = refl

-- what is bound is never bound to nothing
pub bound-full : (path : List (List Binding)) (p : List ℕ) → is_some (bound path p) ≡ true → unwrap_or (bound path p) [] ≢ []
bound-full path p h = by_test (same p (codes "xml")) (last_uri (declared_on path) p) h where
  by_test : (t : Bool) (o : Option (List ℕ)) → is_some (if t then Some xml_uri else unless_empty o) ≡ true → unwrap_or (if t then Some xml_uri else unless_empty o) [] ≢ []
  by_test true o some = λ e. cc
  by_test false None some = λ e. cc
  by_test false (Some []) some = λ e. cc
  by_test false (Some (c ∷ cs)) some = λ e. cc
