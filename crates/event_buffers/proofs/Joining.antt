-- What is kept from a place on, as events.
use Rattle.std.proofs.Common.{◌≡◌, ℕ, zero, suc, ◌+◌, ◌<◌, ◌≤◌, Bool, true, false, List, [], ◌∷◌, ◌++◌, Option, Some, None, drop, get_or, length, refl, sym, ap, ◌∙◌, subst, append-nil, append_assoc, add-one}
use Rattle.std.specs.Prelude.{◌↔◌, IfOk, IsTrue, Result, Ok, Err, slice_get}
use Rattle.std.proofs.lemmas.Option.{slice_get-get_or, slice_get_past}
use Rattle.stx_base.specs.declared.name.Attr.{Attr}
use Rattle.xml_events.specs.declared.event.Event.{Event}
use Rattle.xml_events.specs.declared.event.Event.TheVariants as event
use Rattle.event_buffers.specs.Told.{IsToldAt, event_before, event_of, first_in, first_of, prefixed, text_at, text_before, text_of, told}
use Rattle.event_buffers.specs.declared.kept.Kept.{Kept}
use Rattle.event_buffers.specs.declared.kept.Kept.TheVariants.{Start, End, Chars, CData, Comment, Pi}
use Rattle.event_buffers.specs.declared.told.Told.{Told}

-- Lists from a place on.

from_next : {X : Type 0} (xs : List X) (n : ℕ) (x : X) → slice_get xs n ≡ Some x → drop n xs ≡ x ∷ drop (suc n) xs
from_next [] n x h = absurd cc
from_next (y ∷ ys) zero x h = ap (λ o. unwrapped o y ∷ ys) h where
  unwrapped : {X : Type 0} → Option X → X → X
  unwrapped None d = d
  unwrapped (Some x) d = x
from_next (y ∷ ys) (suc n) x h = from_next ys n x h

pub from_place : {X : Type 0} (xs : List X) (n : ℕ) (x : X) → slice_get xs n ≡ Some x → drop n xs ≡ x ∷ drop (n + 1) xs
from_place xs n x h = from_next xs n x h ∙ ap (λ m. x ∷ drop m xs) (sym (add-one n))

pub from_end : {X : Type 0} (xs : List X) (n : ℕ) → slice_get xs n ≡ None → drop n xs ≡ []
from_end [] zero h = refl
from_end [] (suc n) h = refl
from_end (y ∷ ys) zero h = absurd cc
from_end (y ∷ ys) (suc n) h = from_end ys n h

-- Texts.

pub text_twice : (a b : List ℕ) (es : List Event) → text_before a (text_before b es) ≡ text_before (a ++ b) es
text_twice [] b es = refl
text_twice (c ∷ cs) [] es = ap (λ l. text_before (c ∷ l) es) (sym (append-nil cs))
text_twice (c ∷ cs) (d ∷ ds) [] = refl
text_twice (c ∷ cs) (d ∷ ds) (event.Chars offset more ∷ es) = ap (λ l. event.Chars 0 (c ∷ l) ∷ es) (sym (append_assoc cs (d ∷ ds) more))
text_twice (c ∷ cs) (d ∷ ds) (e ∷ es) = refl

is_text : (k : Kept) (text : List ℕ) → text_of (Some k) ≡ Some text → (es : List Event) → event_before k es ≡ text_before text es
is_text (Start tag) text h es = absurd cc
is_text End text h es = absurd cc
is_text (Chars more) text h es = ap (λ o. text_before (unwrapped o) es) h where
  unwrapped : Option (List ℕ) → List ℕ
  unwrapped None = []
  unwrapped (Some text) = text
is_text (CData more) text h es = absurd cc
is_text (Comment more) text h es = absurd cc
is_text (Pi target more) text h es = absurd cc

text_item : (ks : List Kept) (n : ℕ) (o : Option Kept) → slice_get ks n ≡ o → (text : List ℕ) → text_of o ≡ Some text
    → told (drop n ks) ≡ text_before text (told (drop (n + 1) ks))
text_item ks n None e text h = absurd cc
text_item ks n (Some k) e text h = ap told (from_place ks n k e) ∙ is_text k text h (told (drop (n + 1) ks))

-- a text at a place stands before the events behind it
pub told_text : (ks : List Kept) (n : ℕ) (text : List ℕ) → text_at ks n ≡ Some text → told (drop n ks) ≡ text_before text (told (drop (n + 1) ks))
told_text ks n text h = text_item ks n (slice_get ks n) refl text h

-- What isn't a text.

is_other : (k : Kept) → text_of (Some k) ≡ None → (es : List Event) → event_before k es ≡ event_of (first_in es) k ∷ es
is_other (Start tag) h es = refl
is_other End h es = refl
is_other (Chars more) h es = absurd cc
is_other (CData more) h es = refl
is_other (Comment more) h es = refl
is_other (Pi target more) h es = refl

pub told_item : (ks : List Kept) (n : ℕ) (k : Kept) → text_at ks n ≡ None → slice_get ks n ≡ Some k
    → told (drop n ks) ≡ event_of (first_in (told (drop (n + 1) ks))) k ∷ told (drop (n + 1) ks)
told_item ks n k h e = ap told (from_place ks n k e) ∙ is_other k (ap text_of (sym e) ∙ h) (told (drop (n + 1) ks))

pub told_end : (ks : List Kept) (n : ℕ) → slice_get ks n ≡ None → told (drop n ks) ≡ []
told_end ks n e = ap told (from_end ks n e)

text_apart : (c : ℕ) (cs : List ℕ) (k : Kept) → text_of (Some k) ≡ None → (child : _) (es : List Event)
    → text_before (c ∷ cs) (event_of child k ∷ es) ≡ event.Chars 0 (c ∷ cs) ∷ event_of child k ∷ es
text_apart c cs (Start tag) h child es = refl
text_apart c cs End h child es = refl
text_apart c cs (Chars more) h child es = absurd cc
text_apart c cs (CData more) h child es = refl
text_apart c cs (Comment more) h child es = refl
text_apart c cs (Pi target more) h child es = refl

apart_from : (ks : List Kept) (n : ℕ) (o : Option Kept) → slice_get ks n ≡ o → text_of o ≡ None → (c : ℕ) (cs : List ℕ)
    → text_before (c ∷ cs) (told (drop n ks)) ≡ event.Chars 0 (c ∷ cs) ∷ told (drop n ks)
apart_from ks n None e h c cs =
    let P : List Event → Type 0 = λ es. text_before (c ∷ cs) es ≡ event.Chars 0 (c ∷ cs) ∷ es in subst P (sym (told_end ks n e)) refl
apart_from ks n (Some k) e h c cs =
    let P : List Event → Type 0 = λ es. text_before (c ∷ cs) es ≡ event.Chars 0 (c ∷ cs) ∷ es in
    subst P (sym (told_item ks n k (ap text_of e ∙ h) e)) (text_apart c cs k h _ _)

-- a text that isn't empty stands apart from events before which no text stands
pub text_told : (ks : List Kept) (n : ℕ) → text_at ks n ≡ None → (c : ℕ) (cs : List ℕ)
    → text_before (c ∷ cs) (told (drop n ks)) ≡ event.Chars 0 (c ∷ cs) ∷ told (drop n ks)
text_told ks n h c cs = apart_from ks n (slice_get ks n) refl h c cs

-- First children.

first_of_other : (k : Kept) → text_of (Some k) ≡ None → (child : _) (es : List Event) → first_in (event_of child k ∷ es) ≡ first_of (Some k)
first_of_other (Start tag) h child es = refl
first_of_other End h child es = refl
first_of_other (Chars more) h child es = absurd cc
first_of_other (CData more) h child es = refl
first_of_other (Comment more) h child es = refl
first_of_other (Pi target more) h child es = refl

first_item : (ks : List Kept) (n : ℕ) (o : Option Kept) → slice_get ks n ≡ o → text_of o ≡ None → first_in (told (drop n ks)) ≡ first_of o
first_item ks n None e h = ap first_in (told_end ks n e)
first_item ks n (Some k) e h = ap first_in (told_item ks n k (ap text_of e ∙ h) e) ∙ first_of_other k h _ _

-- the first child where no text stands first
pub first_told : (ks : List Kept) (n : ℕ) → text_at ks n ≡ None → first_in (told (drop n ks)) ≡ first_of (slice_get ks n)
first_told ks n h = first_item ks n (slice_get ks n) refl h

-- Texts that were joined.

is_nothing : (text : List ℕ) (b : Bool) → (IsTrue b ↔ (text ≡ [])) → b ≡ true → text ≡ []
is_nothing text b iff e = iff.0 e

pub text_stands : (ks : List Kept) (place next : ℕ) (text : List ℕ) (b : Bool) → (IsTrue b ↔ (text ≡ [])) → b ≡ false
    → told (drop place ks) ≡ text_before text (told (drop next ks)) → text_at ks next ≡ None → told (drop place ks) ≡ event.Chars 0 text ∷ told (drop next ks)
text_stands ks place next [] b iff e h none = let t : b ≡ true = iff.1 refl in absurd cc
text_stands ks place next (c ∷ cs) b iff e h none = h ∙ text_told ks next none c cs

pub no_text_stands : (ks : List Kept) (place next : ℕ) (text : List ℕ) (b : Bool) → (IsTrue b ↔ (text ≡ [])) → b ≡ true
    → told (drop place ks) ≡ text_before text (told (drop next ks)) → told (drop place ks) ≡ told (drop next ks)
no_text_stands ks place next text b iff e h = h ∙ ap (λ t. text_before t (told (drop next ks))) (is_nothing text b iff e)

told_alike : (ks : List Kept) (place next : ℕ) → told (drop place ks) ≡ told (drop next ks) → (o : Option Told) → IsToldAt ks next o → IsToldAt ks place o
told_alike ks place next e None h = e ∙ h
told_alike ks place next e (Some t) h = e ∙ h

-- what is told at a place is told where the same events come
pub told_from : {E : Type 0} (ks : List Kept) (place next : ℕ) → told (drop place ks) ≡ told (drop next ks) → (r : Result (Option Told) E)
    → IfOk r (IsToldAt ks next) → IfOk r (IsToldAt ks place)
told_from ks place next e (Ok o) h = told_alike ks place next e o h
told_from ks place next e (Err x) h = h

pub nothing_told : (n : ℕ) → told (drop n []) ≡ []
nothing_told zero = refl
nothing_told (suc n) = refl

-- the rest of a list, with its first item
pub from_item : {X : Type 0} (xs : List X) (n : ℕ) (x : X) → n < length xs → x ≡ get_or xs n x → drop n xs ≡ x ∷ drop (n + 1) xs
from_item xs n x lt is = from_place xs n x (slice_get-get_or xs n x lt ∙ ap (λ y. Some y) (sym is))

-- Attributes.

pub no_attributes : (ps : List (List ℕ)) → prefixed ps [] ≡ []
no_attributes [] = refl
no_attributes (p ∷ ps) = refl

pub all_prefixed : (ps : List (List ℕ)) (attrs : List Attr) (n : ℕ) → length attrs ≤ n → prefixed ps (drop n attrs) ≡ []
all_prefixed ps attrs n h = ap (prefixed ps) (from_end attrs n (slice_get_past attrs n h)) ∙ no_attributes ps
