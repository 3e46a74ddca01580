-- Of the locals of a body: the named ones, and the values that wait among them.
use Rattle.std.proofs.Common.{◌≡◌, ◌≢◌, ℕ, zero, suc, ◌+◌, ◌-◌, ◌≤◌, Bool, true, false, not, List, [], ◌∷◌, ◌++◌, filter, length, map, reverse, take, Some, refl, ap, sym, subst, ◌∙◌, arith, append-nil, length-append}
use Rattle.std.specs.Prelude.{cond, slice_get}
use Rattle.std.proofs.Math.Seq.{take-append_seam}
use Rattle.std.proofs.lemmas.List.{map-append, reverse-append}
use Rattle.std.proofs.lemmas.List.Elements.{filter-append}
use Rattle.frame_stack.specs.declared.locals.Local.{Local}
use Rattle.result_writer.specs.Allowed.{is_empty}
use Rattle.stx_base.specs.declared.name.Name.{Name}
use Rattle.stxpath_values.specs.declared.value.Atom.{Atom}
use Rattle.var_store.specs.Variables.{bound}
use Rattle.var_store.specs.declared.bound.Bound.{Bound}
use Rattle.template_machine.specs.Contexts.{Items, Kind, Named, Tag}
use Rattle.template_machine.specs.Seen.{bounds_of, named_of}
use Rattle.template_machine.specs.Still.{aside_of}
use Rattle.template_machine.specs.Well.{AreOf}

abbrev is_named : Local → Bool
is_named l = not (is_empty l.name.local)

abbrev is_nameless : Local → Bool
is_nameless l = is_empty l.name.local

-- One list behind another.

pub named_more : (xs ys : List Local) → named_of (xs ++ ys) ≡ named_of xs ++ named_of ys
named_more xs ys = ap bounds_of (filter-append is_named xs ys) ∙ map-append (λ (l : Local). bound l.name l.value) (filter is_named xs) (filter is_named ys)

pub aside_more : (xs ys : List Local) → aside_of (xs ++ ys) ≡ aside_of ys ++ aside_of xs
aside_more xs ys =
    ap (λ l. reverse (map (λ (x : Local). x.value) l)) (filter-append is_nameless xs ys)
    ∙ ap reverse (map-append (λ (x : Local). x.value) (filter is_nameless xs) (filter is_nameless ys))
    ∙ reverse-append (map (λ (x : Local). x.value) (filter is_nameless xs)) (map (λ (x : Local). x.value) (filter is_nameless ys))

-- One local.

not_empty : (t : List ℕ) → t ≢ [] → is_empty t ≡ false
not_empty [] some = absurd (some refl)
not_empty (c ∷ cs) some = refl

pub named_one : (x : Local) → x.name.local ≢ [] → named_of (x ∷ []) ≡ bound x.name x.value ∷ []
named_one x some = ap (λ b. bounds_of (cond (not b) (x ∷ []) [])) (not_empty x.name.local some)

pub none_aside : (x : Local) → x.name.local ≢ [] → aside_of (x ∷ []) ≡ []
none_aside x some = ap (λ b. reverse (map (λ (l : Local). l.value) (cond b (x ∷ []) []))) (not_empty x.name.local some)

pub none_named : (x : Local) → x.name.local ≡ [] → named_of (x ∷ []) ≡ []
none_named x none = ap (λ t. bounds_of (cond (not (is_empty t)) (x ∷ []) [])) none

pub one_aside : (x : Local) → x.name.local ≡ [] → aside_of (x ∷ []) ≡ x.value ∷ []
one_aside x none = ap (λ t. reverse (map (λ (l : Local). l.value) (cond (is_empty t) (x ∷ []) []))) none

-- a local more, with a name or without one

pub named_pushed : (xs : List Local) (x : Local) → x.name.local ≢ [] → named_of (xs ++ x ∷ []) ≡ named_of xs ++ bound x.name x.value ∷ []
named_pushed xs x some = named_more xs (x ∷ []) ∙ ap (λ l. named_of xs ++ l) (named_one x some)

pub aside_kept : (xs : List Local) (x : Local) → x.name.local ≢ [] → aside_of (xs ++ x ∷ []) ≡ aside_of xs
aside_kept xs x some = aside_more xs (x ∷ []) ∙ ap (λ l. l ++ aside_of xs) (none_aside x some)

pub named_kept : (xs : List Local) (x : Local) → x.name.local ≡ [] → named_of (xs ++ x ∷ []) ≡ named_of xs
named_kept xs x none = named_more xs (x ∷ []) ∙ ap (λ l. named_of xs ++ l) (none_named x none) ∙ append-nil (named_of xs)

pub aside_pushed : (xs : List Local) (x : Local) → x.name.local ≡ [] → aside_of (xs ++ x ∷ []) ≡ x.value ∷ aside_of xs
aside_pushed xs x none = aside_more xs (x ∷ []) ∙ ap (λ l. l ++ aside_of xs) (one_aside x none)

-- Locals by their kinds.

-- variables whose names aren't empty
abbrev pub AreSaid : List Kind → Type 0
AreSaid [] = Unit {0}
AreSaid (Named name ∷ ks) = (name.local ≢ []) × AreSaid ks
AreSaid (k ∷ ks) = ⊥

-- those of the one kind and then those of the other
pub record Parted (xs : List Local) (ks gone : List Kind) : Type 0 where
  pub own : List Local
  pub rest : List Local
  pub whole : xs ≡ own ++ rest
  pub long : length own ≡ length ks
  pub own_are : AreOf own ks
  pub rest_are : AreOf rest gone

pub parted : (xs : List Local) (ks gone : List Kind) → AreOf xs (ks ++ gone) → Parted xs ks gone
parted xs [] gone h = record { own = []; rest = xs; whole = refl; long = refl; own_are = tt; rest_are = h }
parted [] (k ∷ ks) gone h = absurd h
parted (x ∷ xs) (k ∷ ks) gone h =
    let t = parted xs ks gone h.1 in
    record { own = x ∷ t.own; rest = t.rest; whole = ap (λ l. x ∷ l) t.whole; long = ap suc t.long; own_are = (h.0, t.own_are); rest_are = t.rest_are }

pub first_ones : (xs : List Local) (ks gone : List Kind) (t : Parted xs ks gone) → take (length ks) xs ≡ t.own
first_ones xs ks gone t = ap (λ n. take n xs) (sym t.long) ∙ ap (take (length t.own)) t.whole ∙ take-append_seam t.own t.rest

said_long : (xs : List Local) (ks : List Kind) → AreOf xs ks → AreSaid ks → length (named_of xs) ≡ length ks
said_long [] [] h said = refl
said_long [] (k ∷ ks) h said = absurd h
said_long (x ∷ xs) [] h said = absurd h
said_long (x ∷ xs) (Named name ∷ ks) h said =
    let some : x.name.local ≢ [] = λ e. said.0 (sym (ap (λ (n : Name). n.local) h.0) ∙ e) in
    ap length (named_more (x ∷ []) xs) ∙ ap (λ l. length (l ++ named_of xs)) (named_one x some) ∙ ap suc (said_long xs ks h.1 said.1)
said_long (x ∷ xs) (Items ∷ ks) h said = absurd said
said_long (x ∷ xs) (Tag ∷ ks) h said = absurd said

said_aside : (xs : List Local) (ks : List Kind) → AreOf xs ks → AreSaid ks → aside_of xs ≡ []
said_aside [] [] h said = refl
said_aside [] (k ∷ ks) h said = absurd h
said_aside (x ∷ xs) [] h said = absurd h
said_aside (x ∷ xs) (Named name ∷ ks) h said =
    let some : x.name.local ≢ [] = λ e. said.0 (sym (ap (λ (n : Name). n.local) h.0) ∙ e) in
    aside_more (x ∷ []) xs ∙ ap (λ l. aside_of xs ++ l) (none_aside x some) ∙ append-nil (aside_of xs) ∙ said_aside xs ks h.1 said.1
said_aside (x ∷ xs) (Items ∷ ks) h said = absurd said
said_aside (x ∷ xs) (Tag ∷ ks) h said = absurd said

-- the last ones are taken off, which are variables

pub named_cut : (xs : List Local) (ks gone : List Kind) → AreOf xs (ks ++ gone) → AreSaid gone
    → named_of (take (length ks) xs) ≡ take (length (named_of xs) - length gone) (named_of xs)
named_cut xs ks gone h said =
    let t = parted xs ks gone h in
    let whole : named_of xs ≡ named_of t.own ++ named_of t.rest = ap named_of t.whole ∙ named_more t.own t.rest in
    let many : length (named_of xs) - length gone ≡ length (named_of t.own) =
    omega (arith, ap length whole, length-append (named_of t.own) (named_of t.rest), said_long t.rest gone t.rest_are said) in
    ap named_of (first_ones xs ks gone t)
    ∙ sym (ap (λ n. take n (named_of xs)) many ∙ ap (take (length (named_of t.own))) whole ∙ take-append_seam (named_of t.own) (named_of t.rest))

pub aside_uncut : (xs : List Local) (ks gone : List Kind) → AreOf xs (ks ++ gone) → AreSaid gone → aside_of (take (length ks) xs) ≡ aside_of xs
aside_uncut xs ks gone h said =
    let t = parted xs ks gone h in
    ap aside_of (first_ones xs ks gone t)
    ∙ sym (ap aside_of t.whole ∙ aside_more t.own t.rest ∙ ap (λ l. l ++ aside_of t.own) (said_aside t.rest gone t.rest_are said))

-- the items of a loop are the last one

pub record LastItems (xs : List Local) (ks : List Kind) : Type 0 where
  pub last : Local
  pub there : slice_get xs (length ks) ≡ Some last
  pub long : length xs ≡ length ks + 1
  pub named : named_of (take (length ks) xs) ≡ named_of xs
  pub aside : aside_of xs ≡ last.value ∷ aside_of (take (length ks) xs)

one_item : (xs : List Local) → AreOf xs (Items ∷ []) → (x : Local) × ((xs ≡ x ∷ []) × (x.name.local ≡ []))
one_item [] h = absurd h
one_item (x ∷ []) h = (x, (refl, h.0))
one_item (x ∷ y ∷ xs) h = absurd h.1

at_seam : (xs : List Local) (x : Local) (n : ℕ) → length xs ≡ n → slice_get (xs ++ x ∷ []) n ≡ Some x
at_seam [] x zero e = refl
at_seam [] x (suc n) e = absurd (omega (arith, e))
at_seam (y ∷ xs) x zero e = absurd (omega (arith, e))
at_seam (y ∷ xs) x (suc n) e = at_seam xs x n (omega (arith, e))

pub last_items : (xs : List Local) (ks : List Kind) → AreOf xs (ks ++ Items ∷ []) → LastItems xs ks
last_items xs ks h =
    let t = parted xs ks (Items ∷ []) h in
    let x = one_item t.rest t.rest_are in
    let whole : xs ≡ t.own ++ x.0 ∷ [] = t.whole ∙ ap (λ l. t.own ++ l) x.1.0 in
    let first = first_ones xs ks (Items ∷ []) t in
    record {
      last = x.0;
      there = ap (λ l. slice_get l (length ks)) whole ∙ at_seam t.own x.0 (length ks) t.long;
      long = omega (arith, ap length whole, length-append t.own (x.0 ∷ []), t.long);
      named = ap named_of first ∙ sym (ap named_of whole ∙ named_kept t.own x.0 x.1.1);
      aside = ap aside_of whole ∙ aside_pushed t.own x.0 x.1.1 ∙ ap (λ l. x.0.value ∷ aside_of l) (sym first);
    }

-- a list and its last one
pub last_apart : {A : Type 0} (xs : List A) → 1 ≤ length xs → (ys : List A) × ((y : A) × ((xs ≡ ys ++ y ∷ []) × (slice_get xs (length xs - 1) ≡ Some y)))
last_apart [] some = absurd (omega (arith, some))
last_apart (x ∷ []) some = ([], (x, (refl, refl)))
last_apart (x ∷ y ∷ xs) some =
    let t = last_apart (y ∷ xs) (omega arith) in
    let further : length (x ∷ y ∷ xs) - 1 ≡ suc (length (y ∷ xs) - 1) = omega arith in
    (x ∷ t.0, (t.1.0, (ap (λ l. x ∷ l) t.1.1.0, ap (slice_get (x ∷ y ∷ xs)) further ∙ t.1.1.1)))
