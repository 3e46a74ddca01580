-- A text is read as one thing: its tokens, the place where no reading goes on, and what it is read as.
use Rattle.std.proofs.Common.{◌≡◌, ℕ, ◌+◌, List, [], ◌∷◌, ◌++◌, Some, None, Option, Ok, Err, length, drop, sym, ◌∙◌, refl, ap, subst, append_assoc, ◌⊎◌, inl, inr}
use Rattle.std.proofs.lemmas.Bool.{false≢true}
use Rattle.std.proofs.lemmas.List.{append-nil}
use Rattle.stxpath_syntax.specs.declared.fault.PathFault.{PathFault}
use Rattle.stxpath_syntax.specs.declared.fault.PathKind.{PathKind}
use Rattle.stxpath_syntax.specs.declared.fault.PathKind.TheVariants as kind
use Rattle.stxpath_syntax.specs.declared.meant.Meant.{Meant}
use Rattle.stxpath_syntax.specs.declared.meant.Meant.TheVariants.{Fine, High, Bad}
use Rattle.stxpath_syntax.specs.declared.token.Before.{Before}
use Rattle.stxpath_syntax.specs.declared.token.Placed.{Placed}
use Rattle.stxpath_syntax.specs.declared.token.Token.{Token}
use Rattle.stxpath_syntax.specs.Reading.{Readings, GoesOn, StopsAt, Stops, Gives, fault_of}
use Rattle.stxpath_syntax.specs.Template.{Read}
use Rattle.stxpath_syntax.specs.Tokens.{Lexed, Tokens, Refuses, Stands, before_next, begun, classed, first_token, is_too_deep, space}

-- ---- tokens

one_kind : (opened : ℕ) (text : List ℕ) (a b : PathKind) → Refuses opened text a → Refuses opened text b → a ≡ b
one_kind opened text a b (inl x) (inl y) = let same : Some a ≡ Some b = sym x ∙ y in cc
one_kind opened text a b (inl x) (inr (found, none, y, d, is)) = let same : Some a ≡ None = sym x ∙ none in cc
one_kind opened text a b (inr (found, none, x, d, is)) (inl y) = let same : Some b ≡ None = sym y ∙ none in cc
one_kind opened text a b (inr (f, n, x, d, same)) (inr (g, m, y, e, is)) = same ∙ sym is

abbrev fault_at : PathKind → ℕ → PathFault
fault_at why place = record { kind = why; place = place }

one_fault : (f g : PathFault) → f.kind ≡ g.kind → f.place ≡ g.place → f ≡ g
one_fault f g k p = ap (λ why. fault_at why f.place) k ∙ ap (fault_at g.kind) p

-- where a token stands, nothing is refused
not_refused : (b : Before) (text : List ℕ) (t : Placed) (len : ℕ) (why : PathKind) → Stands b text t len → Refuses b.opened (drop (space text) text) why → ⊥
not_refused b text t len why s (inl x) = let same : Some why ≡ None = sym x ∙ s.is_readable in cc
not_refused b text t len why s (inr (found, none, x, deep, is)) =
    let same : Some found ≡ Some s.found = sym x ∙ s.is_first in
    let one : found ≡ s.found = cc in
    false≢true (sym s.is_not_too_deep ∙ ap (λ f. is_too_deep b.opened f.0) (sym one) ∙ deep)

no_token_there : (b : Before) (text : List ℕ) (t : Placed) (len : ℕ) → Stands b text t len → drop (space text) text ≡ [] → ⊥
no_token_there b text t len s e = let same : None ≡ Some s.found = ap first_token (sym e) ∙ s.is_first in cc

abbrev placed_by : Before → List ℕ → Token × ℕ → Placed
placed_by b text found = record { token = classed b.is_operand found.0; at = b.at + space text }

one_place : (b : Before) (text : List ℕ) (t u : Placed) (n k : ℕ) → Stands b text t n → Stands b text u k → (t ≡ u) × (n ≡ k)
one_place b text t u n k s v =
    let same : Some s.found ≡ Some v.found = sym s.is_first ∙ v.is_first in
    let one : s.found ≡ v.found = cc in (
      s.is_it ∙ ap (placed_by b text) one ∙ sym v.is_it,
      s.is_long ∙ ap (λ f. space text + f.1) one ∙ sym v.is_long,
    )

pub one_lexing : (b : Before) (text : List ℕ) (ts us : List Placed) (o p : Option PathFault) → Lexed b text ts o → Lexed b text us p → (ts ≡ us) × (o ≡ p)
one_lexing b text [] [] None None l m = (refl, refl)
one_lexing b text [] [] None (Some g) l m = absurd (m.0 l)
one_lexing b text [] [] (Some f) None l m = absurd (l.0 m)
one_lexing b text [] [] (Some f) (Some g) l m = (refl, ap Some (one_fault f g (one_kind b.opened (drop (space text) text) f.kind g.kind l.1 m.1) (l.2 ∙ sym m.2)))
one_lexing b text [] (u ∷ us) None p l (len, s, m) = absurd (no_token_there b text u len s l)
one_lexing b text [] (u ∷ us) (Some f) p l (len, s, m) = absurd (not_refused b text u len f.kind s l.1)
one_lexing b text (t ∷ ts) [] o None (len, s, l) m = absurd (no_token_there b text t len s m)
one_lexing b text (t ∷ ts) [] o (Some g) (len, s, l) m = absurd (not_refused b text t len g.kind s m.1)
one_lexing b text (t ∷ ts) (u ∷ us) o p (n, s, l) (k, v, m) =
    let e = one_place b text t u n k s v in
    let place : before_next b u.token (b.at + k) ≡ before_next b t.token (b.at + n)
    = ap (λ (x : Placed). before_next b x.token (b.at + k)) (sym e.0) ∙ ap (λ i. before_next b t.token (b.at + i)) (sym e.1) in
    let m' : Lexed (before_next b t.token (b.at + n)) (drop n text) us p
    = subst (λ i. Lexed (before_next b t.token (b.at + n)) (drop i text) us p) (sym e.1) (subst (λ c. Lexed c (drop k text) us p) place m) in
    let r = one_lexing (before_next b t.token (b.at + n)) (drop n text) ts us o p l m' in
    (ap (λ x. x ∷ ts) e.0 ∙ ap (λ xs. u ∷ xs) r.0, r.1)

-- ---- where reading stops

-- of two beginnings of a list one begins the other
fronts : {A : Type 0} (xs ys us vs : List A) → xs ++ us ≡ ys ++ vs
    → ((more : List A) × (ys ≡ xs ++ more) × (us ≡ more ++ vs)) ⊎ ((more : List A) × (xs ≡ ys ++ more) × (vs ≡ more ++ us))
fronts [] ys us vs e = inl (ys, refl, e)
fronts (x ∷ xs) [] us vs e = inr (x ∷ xs, refl, sym e)
fronts {A} (x ∷ xs) (y ∷ ys) us vs e =
    let head : x ≡ y = cc in
    let tail : xs ++ us ≡ ys ++ vs = cc in
    by head (fronts xs ys us vs tail)
  where
    by : x ≡ y → ((more : List A) × (ys ≡ xs ++ more) × (us ≡ more ++ vs)) ⊎ ((more : List A) × (xs ≡ ys ++ more) × (vs ≡ more ++ us))
        → ((more : List A) × (y ∷ ys ≡ (x ∷ xs) ++ more) × (us ≡ more ++ vs)) ⊎ ((more : List A) × (x ∷ xs ≡ (y ∷ ys) ++ more) × (vs ≡ more ++ us))
    by h (inl (more, f, g)) = inl (more, ap (λ z. z ∷ ys) (sym h) ∙ ap (λ zs. x ∷ zs) f, g)
    by h (inr (more, f, g)) = inr (more, ap (λ z. z ∷ xs) h ∙ ap (λ zs. y ∷ zs) f, g)

module _ (A : Type 0) (Means : Readings A) where
  goes_before : (front more : List Placed) → GoesOn Means (front ++ more) → GoesOn Means front
  goes_before front more (rest, meant, d) = (more ++ rest, meant, subst (λ ts. Means ts meant) (append_assoc front more rest) d)

  -- tokens with a reading stop nowhere
  no_stop : (end : ℕ) (front rest : List Placed) (place : ℕ) (meant : Meant A) → Means (front ++ rest) meant → StopsAt Means end front rest place → ⊥
  no_stop end front [] place meant d s = s.0 meant (subst (λ ts. Means ts meant) (append-nil front) d)
  no_stop end front (t ∷ rest) place meant d s = s.0 (rest, meant, subst (λ ts. Means ts meant) (sym (append_assoc front (t ∷ []) rest)) d)

  -- a reading goes on no further than where it stops
  stops_there : (end : ℕ) (front rest more : List Placed) (t : Placed) (place : ℕ) → StopsAt Means end front (t ∷ rest) place → GoesOn Means (front ++ t ∷ more) → ⊥
  stops_there end front rest more t place s g =
      s.0 (goes_before (front ++ t ∷ []) more (subst (λ ts. GoesOn Means ts) (sym (append_assoc front (t ∷ []) more)) g))

  same_place : (end : ℕ) (front rest : List Placed) (p q : ℕ) → StopsAt Means end front rest p → StopsAt Means end front rest q → p ≡ q
  same_place end front [] p q a b = a.1 ∙ sym b.1
  same_place end front (t ∷ rest) p q a b = a.1 ∙ sym b.1

  -- one beginning is as long as the other
  further : (end : ℕ) (xs ys us vs more : List Placed) (p q : ℕ) → ys ≡ xs ++ more → us ≡ more ++ vs → StopsAt Means end xs us p → GoesOn Means ys → StopsAt Means end ys vs q → p ≡ q
  further end xs ys us vs [] p q f h a g b =
      let same : ys ≡ xs = f ∙ append-nil xs in
      same_place end xs us p q a (subst (λ vs. StopsAt Means end xs vs q) (sym h) (subst (λ ys. StopsAt Means end ys vs q) same b))
  further end xs ys us vs (t ∷ more) p q f h a g b =
      absurd (stops_there end xs (more ++ vs) more t p (subst (λ us. StopsAt Means end xs us p) h a) (subst (λ ys. GoesOn Means ys) f g))

  one_stop : (end : ℕ) (ts : List Placed) (p q : ℕ) → Stops Means end ts p → Stops Means end ts q → p ≡ q
  one_stop end ts p q (xs, us, e, g, a) (ys, vs, f, h, b) = by (fronts xs ys us vs (sym e ∙ f))
    where
      by : ((more : List Placed) × (ys ≡ xs ++ more) × (us ≡ more ++ vs)) ⊎ ((more : List Placed) × (xs ≡ ys ++ more) × (vs ≡ more ++ us)) → p ≡ q
      by (inl (more, i, j)) = further end xs ys us vs more p q i j a h b
      by (inr (more, i, j)) = sym (further end ys xs vs us more q p i j b g a)

  stops_or_means : (end : ℕ) (ts : List Placed) (p : ℕ) (meant : Meant A) → Stops Means end ts p → Means ts meant → ⊥
  stops_or_means end ts p meant (front, rest, e, g, a) d = no_stop end front rest p meant (subst (λ ts. Means ts meant) e d) a

  -- ---- what a text is read as

  module _ (one : (ts : List Placed) (m n : Meant A) → Means ts m → Means ts n → m ≡ n) (at : ℕ) (text : List ℕ) where
    same_tokens : (ts us : List Placed) → Tokens at text ts None → Tokens at text us None → us ≡ ts
    same_tokens ts us l m = sym (one_lexing (begun at) text ts us None None l m).0

    both_mean : (ts us : List Placed) (m n : Meant A) → Tokens at text ts None → Tokens at text us None → Means ts m → Means us n → m ≡ n
    both_mean ts us m n l k d e = one ts m n d (subst (λ ts. Means ts n) (same_tokens ts us l k) e)

    never_both : (ts us : List Placed) (p : ℕ) (m : Meant A) → Tokens at text ts None → Tokens at text us None → Stops Means (at + length text) ts p → Means us m → ⊥
    never_both ts us p m l k s d = stops_or_means (at + length text) ts p m s (subst (λ ts. Means ts m) (same_tokens ts us l k) d)

    never_faulty : (ts us : List Placed) (f : PathFault) → Tokens at text ts (Some f) → Tokens at text us None → ⊥
    never_faulty ts us f l k = let same : Some f ≡ None = (one_lexing (begun at) text ts us (Some f) None l k).1 in cc

    pub one_answer : (a b : Read A) → Gives Means at text a → Gives Means at text b → a ≡ b
    one_answer a b (Gives.no_token ts f l) (Gives.no_token us g m) =
        let same : Some f ≡ Some g = (one_lexing (begun at) text ts us (Some f) (Some g) l m).1 in
        let is : f ≡ g = cc in ap Err is
    one_answer a b (Gives.no_token ts f l) (Gives.no_reading us p m s) = absurd (never_faulty ts us f l m)
    one_answer a b (Gives.no_token ts f l) (Gives.no_meaning us g m d) = absurd (never_faulty ts us f l m)
    one_answer a b (Gives.no_token ts f l) (Gives.too_high us m d) = absurd (never_faulty ts us f l m)
    one_answer a b (Gives.no_token ts f l) (Gives.read us x h m d) = absurd (never_faulty ts us f l m)
    one_answer a b (Gives.no_reading ts p l s) (Gives.no_token us g m) = absurd (never_faulty us ts g m l)
    one_answer a b (Gives.no_reading ts p l s) (Gives.no_reading us q m t) =
        ap (fault_of kind.Syntax) (one_stop (at + length text) ts p q s (subst (λ ts. Stops Means (at + length text) ts q) (same_tokens ts us l m) t))
    one_answer a b (Gives.no_reading ts p l s) (Gives.no_meaning us g m d) = absurd (never_both ts us p (Bad g) l m s d)
    one_answer a b (Gives.no_reading ts p l s) (Gives.too_high us m d) = absurd (never_both ts us p High l m s d)
    one_answer a b (Gives.no_reading ts p l s) (Gives.read us x h m d) = absurd (never_both ts us p (Fine x h) l m s d)
    one_answer a b (Gives.no_meaning ts f l d) (Gives.no_token us g m) = absurd (never_faulty us ts g m l)
    one_answer a b (Gives.no_meaning ts f l d) (Gives.no_reading us q m t) = absurd (never_both us ts q (Bad f) m l t d)
    one_answer a b (Gives.no_meaning ts f l d) (Gives.no_meaning us g m e) =
        let same : Bad f ≡ Bad g = both_mean ts us (Bad f) (Bad g) l m d e in
        let is : f ≡ g = cc in ap Err is
    one_answer a b (Gives.no_meaning ts f l d) (Gives.too_high us m e) = let same : Bad f ≡ High = both_mean ts us (Bad f) High l m d e in cc
    one_answer a b (Gives.no_meaning ts f l d) (Gives.read us x h m e) = let same : Bad f ≡ Fine x h = both_mean ts us (Bad f) (Fine x h) l m d e in cc
    one_answer a b (Gives.too_high ts l d) (Gives.no_token us g m) = absurd (never_faulty us ts g m l)
    one_answer a b (Gives.too_high ts l d) (Gives.no_reading us q m t) = absurd (never_both us ts q High m l t d)
    one_answer a b (Gives.too_high ts l d) (Gives.no_meaning us g m e) = let same : High ≡ Bad g = both_mean ts us High (Bad g) l m d e in cc
    one_answer a b (Gives.too_high ts l d) (Gives.too_high us m e) = refl
    one_answer a b (Gives.too_high ts l d) (Gives.read us x h m e) = let same : High ≡ Fine x h = both_mean ts us High (Fine x h) l m d e in cc
    one_answer a b (Gives.read ts x h l d) (Gives.no_token us g m) = absurd (never_faulty us ts g m l)
    one_answer a b (Gives.read ts x h l d) (Gives.no_reading us q m t) = absurd (never_both us ts q (Fine x h) m l t d)
    one_answer a b (Gives.read ts x h l d) (Gives.no_meaning us g m e) = let same : Fine x h ≡ Bad g = both_mean ts us (Fine x h) (Bad g) l m d e in cc
    one_answer a b (Gives.read ts x h l d) (Gives.too_high us m e) = let same : Fine x h ≡ High = both_mean ts us (Fine x h) High l m d e in cc
    one_answer a b (Gives.read ts x h l d) (Gives.read us y i m e) =
        let same : Fine x h ≡ Fine y i = both_mean ts us (Fine x h) (Fine y i) l m d e in
        let is : x ≡ y = cc in ap Ok is
