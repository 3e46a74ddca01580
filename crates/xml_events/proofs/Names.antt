-- Laws of the names of the open elements.
use Rattle.std.proofs.Common.{◌≡◌, ℕ, ◌-◌, Bool, true, false, not, List, [], ◌∷◌, ◌++◌, Option, Some, None, refl, ap, sym, ◌∙◌, reverse, length, inl, inr, ⊎_elim, ◌+◌, arith, chars, encode_utf8_all, IsTrue, IsUtf8}
use Rattle.std.specs.Prelude.{◌⊎◌, ◌&&◌, ◌==◌, if◌then◌else◌, nat_le, nat_lt, slice_get, bytes_eq, MatchOption}
use Rattle.std.specs.List.{list_all}
use Rattle.std.proofs.lemmas.Bool.Decides.{nat_tests, same_from_decides}
use Rattle.std.proofs.lemmas.List.{length_push, length-reverse, reverse-append}
use Rattle.std.proofs.lemmas.List.Folds.{list_all-append}
use Rattle.std.proofs.lemmas.Str.{encodes-chars}
use Rattle.std.proofs.lemmas.Slice.Eq.{bytes_eq-Decides}
use Rattle.stx_base.specs.Character.{is_name, is_name_char, is_name_start, is_ncname, is_ncname_char}
use Rattle.stx_base.specs.declared.fault.XmlKind.TheVariants.{BadName}
use Rattle.stx_base.specs.declared.name.Binding.{Binding}
use Rattle.xml_tokens.specs.declared.lexeme.RawAttr.{RawAttr}
use Rattle.xml_names.specs.QName.{is_qname, local_of, prefix_of}
use Rattle.xml_names.specs.Tag.{has_bad_name, name_fault}
use Rattle.xml_names.proofs.QNames.{spelled}
use Rattle.xml_events.specs.Before.{is_inside, is_innermost, outer_names}

both-parts : (s t : Bool) → (s && t) ≡ true → (s ≡ true) × (t ≡ true)
both-parts true t h = (refl, h)
both-parts false t h = absurd cc

both-true : (s t : Bool) → s ≡ true → t ≡ true → (s && t) ≡ true
both-true s t x y = rw (x, y) refl

pub reverse-last : {A : Type 0} (xs : List A) (x : A) → reverse (xs ++ x ∷ []) ≡ x ∷ reverse xs
reverse-last xs x = reverse-append xs (x ∷ [])

-- a list is empty, or it has a last item
last_view : {A : Type 0} (xs : List A) → (xs ≡ []) ⊎ ((ys : List A) × (y : A) × (xs ≡ ys ++ y ∷ []))
last_view [] = inl refl
last_view (x ∷ xs) = ⊎_elim (λ e. inr ([], x, ap (λ l. x ∷ l) e)) (λ v. inr (x ∷ v.0, v.1, ap (λ l. x ∷ l) v.2)) (last_view xs)

-- an element is open where there are names
pub inside-is : (names : List (List ℕ)) (empty : Bool) → (IsTrue empty → names ≡ []) → (names ≡ [] → IsTrue empty) → not empty ≡ is_inside (reverse names)
inside-is names true f g = ap (λ l. is_inside (reverse l)) (sym (f refl))
inside-is names false f g =
    ⊎_elim (λ e. let t = g e in absurd cc) (λ v. sym (ap (λ l. is_inside (reverse l)) v.2 ∙ ap is_inside (reverse-last v.0 v.1))) (last_view names)

-- the innermost name is the name of an end
pub innermost-head : (name : List ℕ) (names : List (List ℕ)) → is_innermost name names ≡ true → (others : List (List ℕ)) × (names ≡ name ∷ others)
innermost-head name [] h = absurd cc
innermost-head name (n ∷ ns) h = (ns, ap (λ x. x ∷ ns) ((bytes_eq-Decides n name).0 h))

slice_get-last : {A : Type 0} (ys : List A) (y : A) → slice_get (ys ++ y ∷ []) (length ys) ≡ Some y
slice_get-last [] y = refl
slice_get-last (x ∷ xs) y = slice_get-last xs y

-- the last item of what isn't empty
pub last-is : {A : Type 0} (begun : List A) (x : A) → Some x ≡ slice_get begun (length begun - 1) → (ys : List A) × (begun ≡ ys ++ x ∷ [])
last-is {A} begun x h = ⊎_elim (λ e. absurd (none e)) (λ v. (v.0, v.2 ∙ ap (λ l. v.0 ++ l ∷ []) (same v.0 v.1 v.2))) (last_view begun) where
  none : begun ≡ [] → ⊥
  none e = let f = ap (λ l. slice_get l (length l - 1)) e in absurd cc

  same : (ys : List A) (y : A) → begun ≡ ys ++ y ∷ [] → y ≡ x
  same ys y e =
      let n : length (ys ++ y ∷ []) - 1 ≡ length ys = omega (arith, length_push ys y) in
      let f : Some x ≡ Some y = h ∙ ap (λ l. slice_get l (length l - 1)) e ∙ ap (slice_get (ys ++ y ∷ [])) n ∙ slice_get-last ys y in
      cc

-- an end has the innermost name, where the last that was begun has it
pub innermost-is : (begun : List (List ℕ)) (x name : List ℕ) (test : Bool) → Some x ≡ slice_get begun (length begun - 1) → (IsTrue test → x ≡ name) → (x ≡ name → IsTrue test) → test ≡ is_innermost name (reverse begun)
innermost-is begun x name test h f g =
    let l = last-is begun x h in
    same_from_decides test (bytes_eq x name) (f, g) (bytes_eq-Decides x name)
    ∙ sym (ap (λ ns. is_innermost name (reverse ns)) l.1 ∙ ap (is_innermost name) (reverse-last l.0 x))

-- and none has it where none was begun
pub innermost-none : (begun : List (List ℕ)) (name : List ℕ) → None ≡ slice_get begun (length begun - 1) → false ≡ is_innermost name (reverse begun)
innermost-none begun name h = ⊎_elim (λ e. sym (ap (λ ns. is_innermost name (reverse ns)) e)) (λ v. absurd (some v.0 v.1 v.2)) (last_view begun) where
  some : (ys : List (List ℕ)) (y : List ℕ) → begun ≡ ys ++ y ∷ [] → ⊥
  some ys y e =
      let n : length (ys ++ y ∷ []) - 1 ≡ length ys = omega (arith, length_push ys y) in
      let f : None ≡ Some y = h ∙ ap (λ l. slice_get l (length l - 1)) e ∙ ap (slice_get (ys ++ y ∷ [])) n ∙ slice_get-last ys y in
      absurd cc

-- the last one was taken off
pub popped : (old new : List (List ℕ)) (taken : Option (List ℕ)) (name : List ℕ) (names : List (List ℕ)) → MatchOption taken ((old ≡ []) × (new ≡ [])) (λ last. old ≡ new ++ last ∷ []) → reverse old ≡ name ∷ names → reverse new ≡ names
popped old new None name names h e = let f = ap reverse h.0 in absurd cc
popped old new (Some last) name names h e =
    let f = sym (reverse-last new last) ∙ ap reverse (sym h) ∙ e in
    ap outer_names f

ncname-chars : (cs : List ℕ) → list_all is_ncname_char cs ≡ true → list_all is_name_char cs ≡ true
ncname-chars [] h = refl
ncname-chars (c ∷ cs) h =
    let parts = both-parts (is_ncname_char c) (list_all is_ncname_char cs) h in
    both-true (is_name_char c) (list_all is_name_char cs) (both-parts (is_name_char c) (not (c == 0x3A)) parts.0).0 (ncname-chars cs parts.1)

ncname-name : (name : List ℕ) → is_ncname name ≡ true → is_name name ≡ true
ncname-name name h =
    let parts = both-parts _ (list_all is_ncname_char name) h in
    both-true _ (list_all is_name_char name) parts.0 (ncname-chars name parts.1)

-- a QName is a Name
prefixed-name : (prefix local : List ℕ) → is_ncname prefix ≡ true → is_ncname local ≡ true → is_name (prefix ++ 0x3A ∷ local) ≡ true
prefixed-name [] local p l = absurd cc
prefixed-name (c ∷ cs) local p l =
    let parts = both-parts (is_name_start c) (list_all is_name_char (c ∷ cs)) (ncname-name (c ∷ cs) p) in
    let rest = both-parts _ (list_all is_name_char local) (ncname-name local l) in
    both-true (is_name_start c) (list_all is_name_char ((c ∷ cs) ++ 0x3A ∷ local)) parts.0
    (list_all-append is_name_char (c ∷ cs) (0x3A ∷ local) ∙ both-true (list_all is_name_char (c ∷ cs)) (list_all is_name_char (0x3A ∷ local)) parts.1 rest.1)

qname-name : (name : List ℕ) → is_qname name ≡ true → is_name name ≡ true
qname-name name h =
    let s = spelled name h in
    ⊎_elim (λ e. ap is_name e.1 ∙ ncname-name (local_of name) s.0) (λ e. ap is_name e.1 ∙ prefixed-name (prefix_of name) (local_of name) e.0 s.0) s.1

unless-bad : {A : Type 0} (t : Bool) (x y : Option A) → (if t then x else y) ≡ None → (x ≡ None → ⊥) → t ≡ false
unless-bad true x y h some = absurd (some h)
unless-bad false x y h some = refl

not-false : (t : Bool) → not t ≡ false → t ≡ true
not-false true h = refl
not-false false h = absurd cc

-- what a tag without a fault names has a Name
pub faultless-named : (path : List (List Binding)) (name : List ℕ) (attrs : List RawAttr) → name_fault path name attrs ≡ None → is_name name ≡ true
faultless-named path name attrs h =
    let good = not-false (is_qname name && list_all (λ (a : RawAttr). is_qname a.name) attrs) (unless-bad (has_bad_name name attrs) (Some BadName) _ h (λ e. cc)) in
    qname-name name (both-parts (is_qname name) (list_all (λ (a : RawAttr). is_qname a.name) attrs) good).0

-- one more open element has a Name
pub named-more : (names : List (List ℕ)) (name : List ℕ) → list_all is_name names ≡ true → is_name name ≡ true → list_all is_name (names ++ name ∷ []) ≡ true
named-more names name h is = list_all-append is_name names (name ∷ []) ∙ both-true (list_all is_name names) (list_all is_name (name ∷ [])) h (both-true (is_name name) true is refl)

-- and without the last the others have
pub named-fewer : (old new : List (List ℕ)) (last : List ℕ) → old ≡ new ++ last ∷ [] → list_all is_name old ≡ true → (list_all is_name new ≡ true) × (is_name last ≡ true)
named-fewer old new last e h =
    let parts = both-parts (list_all is_name new) (list_all is_name (last ∷ [])) (sym (ap (list_all is_name) e ∙ list_all-append is_name new (last ∷ [])) ∙ h) in
    (parts.0, (both-parts (is_name last) true parts.1).0)

first-same : (x y : List ℕ) (xs ys : List (List ℕ)) → x ∷ xs ≡ y ∷ ys → y ≡ x
first-same x y xs ys e = cc

-- the innermost open element has one
pub innermost-named : (names others : List (List ℕ)) (name : List ℕ) → list_all is_name names ≡ true → reverse names ≡ name ∷ others → is_name name ≡ true
innermost-named names others name h e = ⊎_elim (λ none. let f = sym (ap reverse none) ∙ e in absurd cc) (λ v. named v.0 v.1 v.2) (last_view names) where
  named : (ys : List (List ℕ)) (y : List ℕ) → names ≡ ys ++ y ∷ [] → is_name name ≡ true
  named ys y f =
      let same : y ∷ reverse ys ≡ name ∷ others = sym (reverse-last ys y) ∙ (ap reverse (sym f) ∙ e) in
      ap is_name (first-same y name (reverse ys) others same) ∙ (named-fewer names ys y f h).1

-- no element is open where there is no last name
pub none-open : (begun : List (List ℕ)) → None ≡ slice_get begun (length begun - 1) → reverse begun ≡ []
none-open begun h = ⊎_elim (λ e. ap reverse e) (λ v. absurd (no-last v.0 v.1 v.2)) (last_view begun) where
  no-last : (ys : List (List ℕ)) (y : List ℕ) → begun ≡ ys ++ y ∷ [] → ⊥
  no-last ys y e =
      let n : length (ys ++ y ∷ []) - 1 ≡ length ys = omega (arith, length_push ys y) in
      let f : None ≡ Some y = h ∙ ap (λ l. slice_get l (length l - 1)) e ∙ ap (slice_get (ys ++ y ∷ [])) n ∙ slice_get-last ys y in
      absurd cc

-- an end has the innermost name, where that is the same text
pub innermost-same : (names front : List (List ℕ)) (x y name : List ℕ) (test : Bool) → names ≡ front ++ chars x ∷ [] → IsUtf8 x → IsUtf8 y → chars y ≡ name → test ≡ bytes_eq x y → test ≡ is_innermost name (reverse names)
innermost-same names front x y name test e u v same t =
    t ∙ same_from_decides (bytes_eq x y) (bytes_eq (chars x) name) ((λ b. ap chars ((bytes_eq-Decides x y).0 b) ∙ same), λ q. (bytes_eq-Decides x y).1 (sym (encodes-chars x u) ∙ (ap encode_utf8_all (q ∙ sym same) ∙ encodes-chars y v))) (bytes_eq-Decides (chars x) name)
    ∙ sym (ap (λ ns. is_innermost name (reverse ns)) e ∙ ap (is_innermost name) (reverse-last front (chars x)))

-- where no more elements are open than may be, one more might be before the last was
pub room-left : (old new : List (List ℕ)) (name : List ℕ) (depth : ℕ) → new ≡ old ++ name ∷ [] → false ≡ nat_lt depth (length (reverse new)) → nat_le depth (length (reverse old)) ≡ false
room-left old new name depth e h = fits depth (length (reverse old)) (length (reverse new)) (omega (arith, length-reverse old, length-reverse new, ap length e, length_push old name)) (sym h) where
  fits : (d n m : ℕ) → m ≡ n + 1 → nat_lt d m ≡ false → nat_le d n ≡ false
  fits d n m k h = grind (arith, nat_tests)
