-- Copies are made of texts that are done with, and nothing else changes.
use Rattle.std.proofs.Common.{◌≡◌, ◌≤◌, ◌<◌, ℕ, ◌+◌, Bool, true, false, cond, List, [], ◌∷◌, ◌++◌, Some, Result, drop, get_or, length, ap, sym, subst, ◌∙◌, append-nil, append_assoc}
use Rattle.std.specs.List.{list_any}
use Rattle.std.proofs.lemmas.List.{at_drop_all}
use Rattle.stx_base.specs.declared.fault.Place.{Place}
use Rattle.stx_base.specs.declared.name.Attr.{Attr}
use Rattle.stx_base.specs.declared.part.Part.{Part}
use Rattle.match_patterns.specs.Fits.{test_of}
use Rattle.node_stack.specs.Test as kind
use Rattle.node_stack.specs.Test.{passes}
use Rattle.result_writer.specs.Target.{Left, Target}
use Rattle.stxpath_syntax.specs.declared.expr.Pattern.{Pattern}
use Rattle.template_machine.specs.Ending.{Said}
use Rattle.template_machine.specs.Finding.{passing}
use Rattle.template_machine.specs.Job.{State}
use Rattle.template_machine.specs.Putting.{puts}
use Rattle.template_machine.specs.Saying.{GoesAs, Puts, placed}
use Rattle.template_machine.specs.declared.putting.Putting.{Putting}
use Rattle.template_machine.specs.declared.stop.Stop.{Stop}
use Rattle.template_machine.proofs.Joining.{dropped_is}

pub spare_further : (a b c : Putting) → b ≡ record a { spare = b.spare } → c ≡ record b { spare = c.spare } → c ≡ record a { spare = c.spare }
spare_further a b c first second = second ∙ ap (λ (x : Putting). record x { spare = c.spare }) first

module _ {S : Type 0} (output : S → Target) (told : S → S → List Said → Type 0) where
  -- parts that are put behind copies
  pub puts_copied : {A : Type 0} (at : Place) (parts : List Part) (r : Result A Stop) (old mid new : Putting) (out out_now : S) → mid ≡ record old { spare = mid.spare }
      → Puts output told at parts r mid new out out_now → Puts output told at parts r old new out out_now
  puts_copied at parts r old mid new out out_now rest q = record {
    said = q.said;
    tells = q.tells;
    does = λ given limit st go.
        subst (λ (s : State). GoesAs r (puts given at parts s go) q.said (go (placed new (output out_now).left st)))
        (ap (λ (x : Putting). placed x (output out).left st) rest) (q.does given limit st go);
  }

-- What is copied of a list: how it begins, goes on by one item, and is over.

pub start_copied : {A : Type 0} (copies rest : List A) → copies ≡ [] → copies ++ rest ≡ rest
start_copied copies rest none = ap (λ l. l ++ rest) none

-- one more is copied
one_more : {A : Type 0} (copies now rest all : List A) (x copy : A) → copies ++ x ∷ rest ≡ all → copy ≡ x → now ≡ copies ++ copy ∷ [] → now ++ rest ≡ all
one_more {A} copies now rest all x copy so_far same pushed =
    ap (λ l. l ++ rest) pushed ∙ append_assoc copies (copy ∷ []) rest ∙ ap (λ (y : A). copies ++ y ∷ rest) same ∙ so_far

module _ {A : Type 0} (all items : List A) (same : items ≡ all) (i : ℕ) (x : A) (less : i < length items) (is : x ≡ get_or items i x) where
  -- the items that are left
  left_is : drop i all ≡ x ∷ drop (i + 1) all
  left_is = dropped_is all i x (subst (λ (l : List A). i < length l) same less) (subst (λ (l : List A). x ≡ get_or l i x) same is)

  pub copied_next : (copies now : List A) (copy : A) → copies ++ drop i all ≡ all → copy ≡ x → now ≡ copies ++ copy ∷ [] → now ++ drop (i + 1) all ≡ all
  copied_next copies now copy so_far = one_more copies now (drop (i + 1) all) all x copy (ap (λ l. copies ++ l) (sym left_is) ∙ so_far)

pub copied_over : {A : Type 0} (all items copies : List A) (i : ℕ) → items ≡ all → length items ≤ i → copies ++ drop i all ≡ all → copies ≡ all
copied_over {A} all items copies i same over so_far =
    sym (append-nil copies) ∙ ap (λ l. copies ++ l) (sym (at_drop_all (λ l. l) all i (subst (λ (l : List A). length l ≤ i) same over))) ∙ so_far

-- Of the attributes that a pattern's tests pass.

abbrev passes_it : Pattern → Attr → Bool
passes_it p a = list_any (λ x. passes (test_of x) (kind.Attribute a.name)) p.alternatives

module _ (p : Pattern) (all items : List Attr) (same : items ≡ all) (i : ℕ) (x : Attr) (less : i < length items) (is : x ≡ get_or items i x) where
  left_by : (b : Bool) → passes_it p x ≡ b → passing (Some p) (drop i all) ≡ cond b (x ∷ passing (Some p) (drop (i + 1) all)) (passing (Some p) (drop (i + 1) all))
  left_by b passed =
      ap (passing (Some p)) (left_is all items same i x less is)
      ∙ ap (λ (c : Bool). cond c (x ∷ passing (Some p) (drop (i + 1) all)) (passing (Some p) (drop (i + 1) all))) passed

  pub passing_next : (copies now : List Attr) (copy : Attr) → copies ++ passing (Some p) (drop i all) ≡ passing (Some p) all → passes_it p x ≡ true → copy ≡ x → now ≡ copies ++ copy ∷ []
      → now ++ passing (Some p) (drop (i + 1) all) ≡ passing (Some p) all
  passing_next copies now copy so_far passed =
      one_more copies now (passing (Some p) (drop (i + 1) all)) (passing (Some p) all) x copy (ap (λ l. copies ++ l) (sym (left_by true passed)) ∙ so_far)

  pub passing_not : (copies : List Attr) → copies ++ passing (Some p) (drop i all) ≡ passing (Some p) all → passes_it p x ≡ false
      → copies ++ passing (Some p) (drop (i + 1) all) ≡ passing (Some p) all
  passing_not copies so_far passed = ap (λ l. copies ++ l) (sym (left_by false passed)) ∙ so_far

pub passing_over : (p : Pattern) (all items copies : List Attr) (i : ℕ) → items ≡ all → length items ≤ i → copies ++ passing (Some p) (drop i all) ≡ passing (Some p) all → copies ≡ passing (Some p) all
passing_over p all items copies i same over so_far =
    sym (append-nil copies) ∙ ap (λ l. copies ++ l) (sym (at_drop_all (passing (Some p)) all i (subst (λ (l : List Attr). length l ≤ i) same over))) ∙ so_far
