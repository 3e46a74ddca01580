-- What lexemes the shapes of a document say.
use Rattle.std.proofs.Common.{Result, Ok, Err}
use Rattle.stx_base.specs.declared.fault.XmlKind.{XmlKind}
use Rattle.std.proofs.Common.{◌≡◌, ℕ, ◌+◌, ◌-◌, ◌≤◌, Bool, true, false, not, ◌&&◌, ◌==◌, nat_lt, List, [], ◌∷◌, ◌++◌, Option, Some, None, length, take, drop, refl, sym, ap, ◌∙◌, arith, cond, subst, length-drop}
use Rattle.std.proofs.lemmas.List.{take_all, take-append-drop, length-take, drop-drop}
use Rattle.std.proofs.lemmas.Bool.{eqb-true, ne_eqb}
use Rattle.std.proofs.lemmas.Bool.Decides.{nat_tests}
use Rattle.std.specs.Prelude.{unwrap_or}
use Rattle.stx_base.specs.declared.limits.Limits.{Limits}
use Rattle.stx_base.specs.declared.fault.XmlKind.TheVariants.{LexemeTooLong, InputTooLong}
use Rattle.xml_tokens.specs.Places.{begins}
use Rattle.xml_tokens.specs.Shape.{shape_len}
use Rattle.xml_tokens.specs.Reader.{Reader, mark, mark_len, mark_len_of, seen, is_cut, is_last, is_open, coming, place, size, due, after, at_shape, at_shape_or_rest, lexeme_or_fault, step_or_need, step_of}
use Rattle.xml_tokens.specs.Judged.{judged}
use Rattle.xml_tokens.specs.Run.{Taken, document, Says, AreWithin, ShapesSayLexemes, SayingShapesAreRead}
use Rattle.std.proofs.Math.Seq.{take-append_seam, drop-append_seam}
use Rattle.xml_tokens.specs.Cuts.{Cuts}
use Rattle.xml_tokens.proofs.RunLemmas.{due-fresh, lexeme-shape, size-within}
use Rattle.stx_base.specs.declared.fault.XmlFault.{XmlFault}
use Rattle.xml_tokens.specs.declared.lexeme.Body.{Body}
use Rattle.xml_tokens.specs.declared.lexeme.Ending.{Ending}
use Rattle.xml_tokens.specs.declared.lexeme.Ending.TheVariants as ending
use Rattle.xml_tokens.specs.declared.lexeme.Lexeme.{Lexeme}
use Rattle.xml_tokens.specs.declared.lexeme.Step.{Step}
use Rattle.xml_tokens.specs.declared.lexeme.Step.TheVariants as step
use Rattle.xml_tokens.proofs.WholeLemmas.{whole-within}
use Rattle.xml_tokens.proofs.ReaderLemmas.{after-lexeme, ending_at}

-- a document within the limits, of which some is read
record Within (r : Reader) : Type 0 where
  pub fresh : r.over ≡ None
  pub ended : r.ended ≡ true
  pub uncut : length r.unread ≤ r.limits.input - r.offset

seen-all : (r : Reader) → Within r → seen r ≡ r.unread
seen-all r w = take_all (r.limits.input - r.offset) r.unread w.uncut

is-last : (r : Reader) → Within r → is_last r ≡ true
is-last r w =
    let cut : is_cut r ≡ false = within w.uncut in
    ap (λ t. r.ended && not t) cut ∙ ap (λ t. t && true) w.ended where
      within : {n m : ℕ} → n ≤ m → nat_lt m n ≡ false
      within {n} {m} h = grind (arith, nat_tests)

over-end : (over : Ending) → step_of over ≡ step.End → over ≡ ending.End
over-end ending.End h = refl
over-end (ending.Bad fault) h = absurd cc
over-end ending.Memory h = absurd cc

-- the end is where nothing is left
end-empty : (r : Reader) → Within r → due r ≡ step.End → coming r ≡ []
end-empty r w h = by_shape (shape_len (is_last r) (coming r)) refl (sym (due-fresh r w.fresh) ∙ h) where
  no_end_judged : (o : Result Body XmlKind) (at : ℕ) → lexeme_or_fault o at ≡ step.End → ⊥
  no_end_judged (Err kind) at h = cc
  no_end_judged (Ok body) at h = cc

  no_end_shape : (long : Bool) (o : Result Body XmlKind) (at : ℕ) → cond long (step.Bad (record { kind = LexemeTooLong; offset = at })) (lexeme_or_fault o at) ≡ step.End → ⊥
  no_end_shape true o at h = cc
  no_end_shape false o at h = no_end_judged o at h

  empty : (l : List ℕ) → (length l == 0) ≡ true → l ≡ []
  empty [] h = refl
  empty (x ∷ xs) h = absurd (omega (arith, eqb-true (length (x ∷ xs)) 0 h))

  by_rest : (long cut ended none : Bool) (too_long over : XmlFault) (at : ℕ) → step_or_need (ending_at long cut ended none (Some (ending.Bad too_long)) (Some (ending.Bad over)) at) ≡ step.End → none ≡ true
  by_rest true cut ended none too_long over at h = absurd cc
  by_rest false true ended none too_long over at h = absurd cc
  by_rest false false false none too_long over at h = absurd cc
  by_rest false false true true too_long over at h = refl
  by_rest false false true false too_long over at h = absurd cc

  by_shape : (o : Option ℕ) → shape_len (is_last r) (coming r) ≡ o → at_shape_or_rest r o ≡ step.End → coming r ≡ []
  by_shape (Some len) e k = absurd (no_end_shape (nat_lt r.limits.lexeme (length (take len (coming r)))) (judged (r.offset == 0) (take len (coming r))) (place r) k)
  by_shape None e k =
      empty (coming r) (by_rest (not (is_open r) && nat_lt r.limits.lexeme (length (coming r))) (is_cut r) r.ended (length (coming r) == 0)
      (record { kind = LexemeTooLong; offset = place r }) (record { kind = InputTooLong; offset = r.limits.input }) (r.offset + length r.unread) k)

-- what a lexeme is made of
pub made_of : (limits : Limits) (first : Bool) (bytes : List ℕ) (at : ℕ) (l : Lexeme) → at_shape limits first bytes at ≡ step.Lexeme l → (l.offset ≡ at) × (judged first bytes ≡ Ok l.body)
made_of limits first bytes at l h = by_test (nat_lt limits.lexeme (length bytes)) h where
  by_body : (o : Result Body XmlKind) → judged first bytes ≡ o → lexeme_or_fault o at ≡ step.Lexeme l → (l.offset ≡ at) × (judged first bytes ≡ Ok l.body)
  by_body (Err kind) e k = absurd cc
  by_body (Ok body) e k =
      let same : record { offset = at; body = body } ≡ l = cc in
      (ap (λ (x : Lexeme). x.offset) (sym same), e ∙ ap (λ (x : Lexeme). Ok x.body) same)

  by_test : (t : Bool) → cond t (step.Bad (record { kind = LexemeTooLong; offset = at })) (lexeme_or_fault (judged first bytes) at) ≡ step.Lexeme l → (l.offset ≡ at) × (judged first bytes ≡ Ok l.body)
  by_test true k = absurd cc
  by_test false k = by_body (judged first bytes) refl k

abbrev mark_if : Bool → ℕ
mark_if t = cond t 3 0

-- the reader behind a lexeme
behind-lexeme : (r : Reader) (l : Lexeme) (len : ℕ) → Within r → due r ≡ step.Lexeme l → shape_len (is_last r) (coming r) ≡ Some len →
    Within (after r (step.Lexeme l)) × (coming (after r (step.Lexeme l)) ≡ drop len (coming r)) × (place (after r (step.Lexeme l)) ≡ place r + len) × (((after r (step.Lexeme l)).offset == 0) ≡ false)
behind-lexeme r l len w h s =
    let n = size r in
    let there = record r { unread = drop n r.unread; offset = r.offset + n } in
    let is : n ≡ mark_len r + len = ap (λ o. mark_len r + unwrap_or o 0) s in
    let bounds = size-within r l w.fresh h in
    let within : Within there = record { fresh = w.fresh; ended = w.ended; uncut = omega (arith, w.uncut, bounds.1, length-drop n r.unread) } in
    let later : (r.offset + n == 0) ≡ false = ne_eqb (r.offset + n) 0 (λ e. omega (arith, bounds.0)) in
    let no_mark : mark_len there ≡ 0 = ap (λ t. mark_if (t && begins (seen there) mark)) later in
    let comes : coming there ≡ drop len (coming r) =
    ap (λ k. drop k (seen there)) no_mark
    ∙ (seen-all there within ∙ (ap (λ k. drop k r.unread) is ∙ (sym (drop-drop len (mark_len r) r.unread) ∙ ap (λ u. drop len (drop (mark_len r) u)) (sym (seen-all r w))))) in
    let at : place there ≡ place r + len = omega (arith, no_mark, is) in
    subst (λ (x : Reader). Within x × (coming x ≡ drop len (coming r)) × (place x ≡ place r + len) × ((x.offset == 0) ≡ false)) (sym (after-lexeme r l)) (within, comes, at, later)

shapes-say-from : (r : Reader) (lexemes : List Lexeme) (rest : Reader) → Within r → Taken r lexemes rest → due rest ≡ step.End →
    (shapes : List (List ℕ)) × Cuts true (coming r) shapes [] × Says (r.offset == 0) (place r) shapes lexemes
shapes-say-from r [] rest w h e = ([], (end-empty r w (ap due h ∙ e), refl), tt)
shapes-say-from r (l ∷ ls) rest w h e =
    let s = lexeme-shape r l w.fresh h.0 in
    let b = behind-lexeme r l s.0 w h.0 s.1 in
    let later = shapes-say-from (after r (step.Lexeme l)) ls rest b.0 h.1 e in
    let shape = take s.0 (coming r) in
    let made = made_of r.limits (r.offset == 0) shape (place r) l (sym (due-fresh r w.fresh ∙ ap (at_shape_or_rest r) s.1) ∙ h.0) in
    let parts : coming r ≡ shape ++ coming (after r (step.Lexeme l)) = sym (take-append-drop s.0 (coming r)) ∙ ap (λ t. shape ++ t) (sym b.1) in
    let size : length shape ≡ s.0 = omega (arith, length-take s.0 (coming r), (whole-within (is_last r) (coming r) s.0 s.1).1) in
    let whole : shape_len true (shape ++ coming (after r (step.Lexeme l))) ≡ Some (length shape) =
    ap (shape_len true) (sym parts) ∙ (ap (λ t. shape_len t (coming r)) (sym (is-last r w)) ∙ (s.1 ∙ ap Some (sym size))) in
    let at : place (after r (step.Lexeme l)) ≡ place r + length shape = b.2 ∙ ap (λ n. place r + n) (sym size) in
    let says : Says false (place r + length shape) later.0 ls = subst (λ n. Says false n later.0 ls) at (subst (λ t. Says t (place (after r (step.Lexeme l))) later.0 ls) b.3 later.2) in
    (shape ∷ later.0, (coming (after r (step.Lexeme l)), parts, whole, later.1), (made.0, made.1, says))

pub shapes-say : ShapesSayLexemes
shapes-say limits bytes lexemes short h =
    let r = document limits bytes in
    let w : Within r = record { fresh = refl; ended = refl; uncut = omega (arith, short) } in
    let all = shapes-say-from r lexemes h.0 w h.1 h.2 in
    let seen_bytes : seen r ≡ bytes = seen-all r w in
    let comes : coming r ≡ drop (mark_len_of 0 bytes) bytes = ap (λ l. drop (mark_len_of 0 l) l) seen_bytes in
    let at : place r ≡ mark_len_of 0 bytes = omega (arith, ap (mark_len_of 0) seen_bytes) in
    (all.0, subst (λ (l : List ℕ). Cuts true l all.0 []) comes all.1, subst (λ n. Says true n all.0 lexemes) at all.2)

-- a shape that isn't too long and says a lexeme is given
given : (limits : Limits) (first : Bool) (shape : List ℕ) (at : ℕ) (l : Lexeme) → length shape ≤ limits.lexeme → l.offset ≡ at → judged first shape ≡ Ok l.body → at_shape limits first shape at ≡ step.Lexeme l
given limits first shape at l short offset body =
    let long : nat_lt limits.lexeme (length shape) ≡ false = within short in
    ap (λ t. cond t (step.Bad (record { kind = LexemeTooLong; offset = at })) (lexeme_or_fault (judged first shape) at)) long
    ∙ (ap (λ o. lexeme_or_fault o at) body ∙ ap (λ n. step.Lexeme (record { offset = n; body = l.body })) (sym offset)) where
      within : {n m : ℕ} → n ≤ m → nat_lt m n ≡ false
      within {n} {m} h = grind (arith, nat_tests)

-- where nothing is left is the end
empty-end : (r : Reader) → Within r → coming r ≡ [] → due r ≡ step.End
empty-end r w h =
    let none : shape_len (is_last r) (coming r) ≡ None = ap (shape_len (is_last r)) h in
    let long : (not (is_open r) && nat_lt r.limits.lexeme (length (coming r))) ≡ false = never (not (is_open r)) _ (within (omega (arith, ap length h))) in
    let cut : is_cut r ≡ false = within w.uncut in
    let zero_left : (length (coming r) == 0) ≡ true = ap (λ l. length l == 0) h in
    due-fresh r w.fresh ∙ (ap (at_shape_or_rest r) none ∙ (ap (λ t. at_end t (is_cut r) r.ended (length (coming r) == 0)) long
    ∙ (ap (λ t. at_end false t r.ended (length (coming r) == 0)) cut ∙ (ap (λ t. at_end false false t (length (coming r) == 0)) w.ended ∙ ap (at_end false false true) zero_left)))) where
      at_end : (long cut ended none : Bool) → Step
      at_end long cut ended none = step_or_need (ending_at long cut ended none (Some (ending.Bad (record { kind = LexemeTooLong; offset = place r }))) (Some (ending.Bad (record { kind = InputTooLong; offset = r.limits.input }))) (r.offset + length r.unread))

      never : (a b : Bool) → b ≡ false → (a && b) ≡ false
      never true b h = h
      never false b h = refl

      within : {n m : ℕ} → n ≤ m → nat_lt m n ≡ false
      within {n} {m} h = grind (arith, nat_tests)

read-from : (r : Reader) (shapes : List (List ℕ)) (lexemes : List Lexeme) → Within r → Cuts true (coming r) shapes [] → Says (r.offset == 0) (place r) shapes lexemes → AreWithin r.limits.lexeme shapes →
    (rest : Reader) × Taken r lexemes rest × (due rest ≡ step.End)
read-from r [] [] w c s short = (r, refl, empty-end r w c.0)
read-from r [] (l ∷ ls) w c s short = absurd s
read-from r (shape ∷ shapes) [] w c s short = absurd s
read-from r (shape ∷ shapes) (l ∷ ls) w c s short =
    let whole : shape_len (is_last r) (coming r) ≡ Some (length shape) = ap (λ t. shape_len t (coming r)) (is-last r w) ∙ (ap (shape_len true) c.1 ∙ c.2) in
    let front : take (length shape) (coming r) ≡ shape = ap (take (length shape)) c.1 ∙ take-append_seam shape c.0 in
    let here : due r ≡ step.Lexeme l =
    due-fresh r w.fresh ∙ (ap (at_shape_or_rest r) whole ∙ (ap (λ b. at_shape r.limits (r.offset == 0) b (place r)) front ∙ given r.limits (r.offset == 0) shape (place r) l short.0 s.0 s.1)) in
    let b = behind-lexeme r l (length shape) w here whole in
    let comes : coming (after r (step.Lexeme l)) ≡ c.0 = b.1 ∙ (ap (drop (length shape)) c.1 ∙ drop-append_seam shape c.0) in
    let later = read-from (after r (step.Lexeme l)) shapes ls b.0
    (subst (λ (x : List ℕ). Cuts true x shapes []) (sym comes) c.3)
    (subst (λ t. Says t (place (after r (step.Lexeme l))) shapes ls) (sym b.3) (subst (λ n. Says false n shapes ls) (sym b.2) s.2))
    (subst (λ (x : Reader). AreWithin x.limits.lexeme shapes) (sym (after-lexeme r l)) short.1) in
    (later.0, (here, later.1), later.2)

pub saying-read : SayingShapesAreRead
saying-read limits bytes shapes lexemes short c s within =
    let r = document limits bytes in
    let w : Within r = record { fresh = refl; ended = refl; uncut = omega (arith, short) } in
    let seen_bytes : seen r ≡ bytes = seen-all r w in
    let comes : coming r ≡ drop (mark_len_of 0 bytes) bytes = ap (λ l. drop (mark_len_of 0 l) l) seen_bytes in
    let at : place r ≡ mark_len_of 0 bytes = omega (arith, ap (mark_len_of 0) seen_bytes) in
    read-from r shapes lexemes w (subst (λ (l : List ℕ). Cuts true l shapes []) (sym comes) c) (subst (λ n. Says true n shapes lexemes) (sym at) s) within
