-- What the parts of a text say one after another.
use Rattle.std.proofs.Common.{◌≡◌, ℕ, Bool, true, false, List, ◌++◌, Option, Some, None, Result, Ok, Err, Bor, IfSome, ◌+◌, ◌<◌, length, arith, subst, refl, sym, ap, ◌∙◌, append_assoc}
use Rattle.std.specs.Option.{option_map_or}
use Rattle.std.specs.Prelude.{if◌then◌else◌}
use Rattle.xml_tokens.specs.Texts.{after_ampersand, all_of, both, first_part, is_ampersand, later_parts, literal, said}
use Rattle.xml_tokens.specs.inside.Spans.{parts_of}
use Rattle.xml_tokens.specs.declared.text.Context.{Context}
use Rattle.xml_tokens.specs.declared.text.BadText.{BadText}
use Rattle.xml_tokens.specs.declared.text.BadText.TheVariants.{Reference, Entity}

-- what is read so far, unless an entity wasn't known
abbrev pub so_far : Bool → List ℕ → Result (List ℕ) BadText
so_far is_known out = if is_known then Ok out else Err Entity

abbrev pub joined : Result (List ℕ) BadText → Result (List ℕ) BadText → Result (List ℕ) BadText
joined = both (λ front rest. front ++ rest)

pub joined-assoc : (a b c : Result (List ℕ) BadText) → joined (joined a b) c ≡ joined a (joined b c)
joined-assoc (Ok a) (Ok b) (Ok c) = ap (λ l. Ok l) (append_assoc a b c)
joined-assoc (Ok a) (Ok b) (Err k) = refl
joined-assoc (Ok a) (Err k) (Ok c) = refl
joined-assoc (Ok a) (Err k) (Err m) = refl
joined-assoc (Err k) (Ok b) (Ok c) = refl
joined-assoc (Err k) (Ok b) (Err m) = refl
joined-assoc (Err k) (Err l) (Ok c) = refl
joined-assoc (Err Reference) (Err l) (Err m) = refl
joined-assoc (Err Entity) (Err l) (Err m) = refl

module _ (place : Context) where
  -- the next part is what comes first of those that follow
  pub next-part : (next : Option (List ℕ)) (more part : List ℕ) (later : List (List ℕ)) (before whole : Result (List ℕ) BadText) →
      next ≡ Some more → part ≡ first_part is_ampersand more → later_parts is_ampersand more ≡ later → joined before (all_of place (parts_of next)) ≡ whole →
      joined before (joined (after_ampersand place part) (all_of place later)) ≡ whole
  next-part next more part later before whole n p l h =
      ap (λ x. joined before (joined (after_ampersand place x) (all_of place later))) p
      ∙ (ap (λ x. joined before (joined (after_ampersand place (first_part is_ampersand more)) (all_of place x))) (sym l) ∙ (ap (λ x. joined before (all_of place (parts_of x))) (sym n) ∙ h))

  -- the first part
  pub first-part : (bytes first : List ℕ) (later : List (List ℕ)) → first ≡ first_part is_ampersand bytes → later_parts is_ampersand bytes ≡ later →
      joined (Ok (literal place first)) (all_of place later) ≡ said place bytes
  unfolding said
  first-part bytes first later p l = ap (λ x. joined (Ok (literal place x)) (all_of place later)) p ∙ ap (λ x. joined (Ok (literal place (first_part is_ampersand bytes))) (all_of place x)) (sym l)

pub known-part : (known : Bool) (out new bytes : List ℕ) (rest : Result (List ℕ) BadText) → new ≡ out ++ bytes → joined (so_far known new) rest ≡ joined (so_far known out) (joined (Ok bytes) rest)
known-part true out new bytes rest e = ap (λ l. joined (Ok l) rest) e ∙ joined-assoc (Ok out) (Ok bytes) rest
known-part false out new bytes (Ok more) e = refl
known-part false out new bytes (Err fault) e = refl

pub unknown-part : (known : Bool) (out new : List ℕ) (rest : Result (List ℕ) BadText) → joined (so_far false new) rest ≡ joined (so_far known out) (joined (Err Entity) rest)
unknown-part true out new (Ok more) = refl
unknown-part true out new (Err fault) = refl
unknown-part false out new (Ok more) = refl
unknown-part false out new (Err fault) = refl

pub bad-part : (known : Bool) (out : List ℕ) (rest : Result (List ℕ) BadText) → joined (so_far known out) (joined (Err Reference) rest) ≡ Err Reference
bad-part true out (Ok more) = refl
bad-part true out (Err fault) = refl
bad-part false out (Ok more) = refl
bad-part false out (Err fault) = refl

-- fewer bytes are left with each part
pub next-smaller : (next : Option (Bor (List ℕ))) (more : Bor (List ℕ)) (later : Option (Bor (List ℕ))) → next ≡ Some more → IfSome later (λ l. length l.now < length more.now) →
    option_map_or (λ l. length l.now + 1) later 0 < option_map_or (λ l. length l.now + 1) next 0
next-smaller next more (Some l) e h = subst (λ n. length l.now + 1 < option_map_or (λ (x : Bor (List ℕ)). length x.now + 1) n 0) (sym e) (omega (arith, h))
next-smaller next more None e h = subst (λ n. 0 < option_map_or (λ (x : Bor (List ℕ)). length x.now + 1) n 0) (sym e) (omega arith)
