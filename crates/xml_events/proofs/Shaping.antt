-- Lexemes are shapes, judged.
use Rattle.std.proofs.Common.{◌≡◌, ◌≢◌, ℕ, ◌+◌, ◌-◌, ◌<◌, ◌≤◌, Bool, true, false, List, [], ◌∷◌, ◌++◌, Some, None, length, take, drop, refl, sym, ap, ◌∙◌, arith, subst, length-append, length-drop}
use Rattle.std.specs.Prelude.{not, ◌&&◌, ◌==◌, nat_lt, unwrap_or, if◌then◌else◌}
use Rattle.std.proofs.lemmas.Bool.{ne_eqb}
use Rattle.std.proofs.lemmas.Bool.Decides.{nat_tests}
use Rattle.std.proofs.lemmas.List.{drop-drop, drop-take}
use Rattle.std.proofs.Math.Seq.{take-append_seam, drop-append_seam}
use Rattle.stx_base.specs.declared.fault.XmlKind.TheVariants.{LexemeTooLong, InputTooLong, Truncated}
use Rattle.stx_base.specs.declared.limits.Limits.{Limits}
use Rattle.xml_tokens.specs.Cuts.{Cuts}
use Rattle.xml_tokens.specs.Places.{begins}
use Rattle.xml_tokens.specs.Reader.{Reader, after, at_rest, at_shape, at_shape_or_rest, bad, coming, due, fed, is_cut, is_last, is_open, is_undecided_at, mark, mark_len, place, seen, size, step_of, step_or_need}
use Rattle.xml_tokens.specs.Shape.{shape_len}
use Rattle.xml_tokens.specs.declared.lexeme.Ending.{Ending}
use Rattle.xml_tokens.specs.declared.lexeme.Ending.TheVariants as ending
use Rattle.xml_tokens.specs.declared.lexeme.Lexeme.{Lexeme}
use Rattle.xml_tokens.specs.declared.lexeme.Step.{Step}
use Rattle.xml_tokens.specs.declared.lexeme.Step.TheVariants as step
use Rattle.xml_tokens.proofs.ReaderLemmas.{after-lexeme, length-coming, seen-within}
use Rattle.xml_tokens.proofs.RunLemmas.{due-fresh}
use Rattle.xml_tokens.proofs.WholeLemmas.{whole-within}
use Rattle.xml_events.specs.Lexed.{answered, lexed_from, unread}
use Rattle.xml_events.specs.Shapes.{LexemesAreShapes, bad_at, ends_at, said_by}
use Rattle.xml_events.proofs.Lexing.{before, from-last, from-lexeme, no_lexemes}

-- why no shape comes any more

by_tests : (long cut ended none : Bool) (x y z : Ending) →
    step_or_need (if long then Some x else if cut then Some y else if not ended then None else if none then Some ending.End else Some z)
    ≡ (if long then step_of x else if cut then step_of y else if not ended then step.Need else if none then step.End else step_of z)
by_tests true cut ended none x y z = refl
by_tests false true ended none x y z = refl
by_tests false false false none x y z = refl
by_tests false false true true x y z = refl
by_tests false false true false x y z = refl

rest-step : (r : Reader) → step_or_need (at_rest r) ≡ ends_at r (coming r) (place r)
rest-step r =
    by_tests (not (is_open r) && nat_lt r.limits.lexeme (length (coming r))) (is_cut r) r.ended (length (coming r) == 0)
    (bad LexemeTooLong (place r)) (bad InputTooLong r.limits.input) (bad Truncated (r.offset + length r.unread))

no-lexeme : (long cut ended none : Bool) (x y z : ℕ) (l : Lexeme) →
    (if long then bad_at LexemeTooLong x else if cut then bad_at InputTooLong y else if not ended then step.Need else if none then step.End else bad_at Truncated z) ≢ step.Lexeme l
no-lexeme true cut ended none x y z l h = cc
no-lexeme false true ended none x y z l h = cc
no-lexeme false false false none x y z l h = cc
no-lexeme false false true true x y z l h = cc
no-lexeme false false true false x y z l h = cc

-- what isn't changed by reading a lexeme

lt-as : (a b c d : ℕ) → (a < b → c < d) → (c < d → a < b) → nat_lt a b ≡ nat_lt c d
lt-as a b c d f g = by_test (nat_lt a b) (nat_lt c d) refl refl where
  by_test : (s t : Bool) → nat_lt a b ≡ s → nat_lt c d ≡ t → s ≡ t
  by_test true true e h = refl
  by_test false false e h = refl
  by_test true false e h = let less = f (grind (arith, nat_tests, e)) in grind (arith, nat_tests, h, less)
  by_test false true e h = let less = g (grind (arith, nat_tests, h)) in grind (arith, nat_tests, e, less)

-- the reader behind the first shape
pub record Behind (r : Reader) (len : ℕ) (more : List ℕ) (q : Reader) : Type 0 where
  pub fresh : q.over ≡ None
  pub offset : q.offset ≤ q.limits.input
  pub limits : q.limits ≡ r.limits
  pub later : (q.offset == 0) ≡ false
  pub last : is_last q ≡ is_last r
  pub comes : coming q ≡ more
  pub stands : place q ≡ place r + len
  pub ends : (rest : List ℕ) (n : ℕ) → ends_at q rest n ≡ ends_at r rest n

module _ (r : Reader) (l : Lexeme) (shape more : List ℕ) (fresh : r.over ≡ None) (within : r.offset ≤ r.limits.input) (parts : coming r ≡ shape ++ more) (whole : shape_len (is_last r) (coming r) ≡ Some (length shape)) (some : 1 ≤ length shape) where
  abbrev n : ℕ
  n = size r

  abbrev there : Reader
  there = record r { unread = drop n r.unread; offset = r.offset + n }

  is : n ≡ mark_len r + length shape
  is = ap (λ o. mark_len r + unwrap_or o 0) whole

  taken : n ≤ length (seen r)
  taken = omega (arith, is, length-coming r, ap length parts, length-append shape more)

  bounds : (n ≤ length r.unread) × (n ≤ r.limits.input - r.offset)
  bounds = let s = seen-within r in (omega (arith, taken, s.0), omega (arith, taken, s.1))

  cut : is_cut there ≡ is_cut r
  cut =
      let b = bounds in
      let size_is = length-drop n r.unread in
      lt-as (r.limits.input - (r.offset + n)) (length (drop n r.unread)) (r.limits.input - r.offset) (length r.unread)
      (λ h. omega (arith, h, b.0, b.1, size_is, within)) (λ h. omega (arith, h, b.0, b.1, size_is, within))

  last-is : is_last there ≡ is_last r
  last-is = ap (λ t. r.ended && not t) cut

  all : fed there ≡ fed r
  all = let b = bounds in omega (arith, b.0, length-drop n r.unread)

  not-first : (r.offset + n == 0) ≡ false
  not-first = ne_eqb (r.offset + n) 0 (λ e. omega (arith, e, is, some))

  no-mark : mark_len there ≡ 0
  no-mark = ap (λ t. if t && begins (seen there) mark then 3 else 0) not-first

  seen-there : seen there ≡ drop n (seen r)
  seen-there =
      let b = bounds in
      let room : n + (r.limits.input - (r.offset + n)) ≡ r.limits.input - r.offset = omega (arith, b.1, within) in
      sym (ap (λ k. drop n (take k r.unread)) (sym room) ∙ drop-take n (r.limits.input - (r.offset + n)) r.unread)

  comes-there : coming there ≡ more
  comes-there =
      ap (λ k. drop k (seen there)) no-mark
      ∙ (seen-there
      ∙ (ap (λ k. drop k (seen r)) is
      ∙ (sym (drop-drop (length shape) (mark_len r) (seen r))
      ∙ (ap (drop (length shape)) parts ∙ drop-append_seam shape more))))

  behind : Behind r (length shape) more (after r (step.Lexeme l))
  behind =
      let b = bounds in
      let here : Behind r (length shape) more there = record {
        fresh = fresh;
        offset = omega (arith, b.1, within);
        limits = refl;
        later = not-first;
        last = last-is;
        comes = comes-there;
        stands = omega (arith, no-mark, is);
        ends = λ rest at.
            ap (λ t. if not (not t && is_undecided_at at rest) && nat_lt r.limits.lexeme (length rest) then bad_at LexemeTooLong at
            else if is_cut there then bad_at InputTooLong r.limits.input
            else if not r.ended then step.Need
            else if length rest == 0 then step.End
            else bad_at Truncated (fed there)) last-is
            ∙ (ap (λ t. if not (not (is_last r) && is_undecided_at at rest) && nat_lt r.limits.lexeme (length rest) then bad_at LexemeTooLong at
            else if t then bad_at InputTooLong r.limits.input
            else if not r.ended then step.Need
            else if length rest == 0 then step.End
            else bad_at Truncated (fed there)) cut
            ∙ ap (λ k. if not (not (is_last r) && is_undecided_at at rest) && nat_lt r.limits.lexeme (length rest) then bad_at LexemeTooLong at
            else if is_cut r then bad_at InputTooLong r.limits.input
            else if not r.ended then step.Need
            else if length rest == 0 then step.End
            else bad_at Truncated k) all);
      } in
      subst (λ (x : Reader). Behind r (length shape) more x) (sym (after-lexeme r l)) here

-- other reasons why no more come are told at the same places
said-ends : (limits : Limits) (first : Bool) (at : ℕ) (shapes : List (List ℕ)) (f g : ℕ → Step) → ((n : ℕ) → f n ≡ g n) → said_by limits first at shapes f ≡ said_by limits first at shapes g
said-ends limits first at [] f g same = ap no_lexemes (same at)
said-ends limits first at (shape ∷ shapes) f g same =
    ap (λ x. answered (at_shape limits first shape at) (λ l. x)) (said-ends limits false (at + length shape) shapes f g same)

some-byte : (ended : Bool) (bytes : List ℕ) (len : ℕ) → shape_len ended bytes ≡ Some len → 1 ≤ len
some-byte ended bytes len h = (whole-within ended bytes len h).0

judged-from : (r : Reader) (shapes : List (List ℕ)) (rest : List ℕ) → r.over ≡ None → r.offset ≤ r.limits.input → Cuts (is_last r) (coming r) shapes rest →
    lexed_from r ≡ said_by r.limits (r.offset == 0) (place r) shapes (ends_at r rest)
judged-from r [] rest fresh within c =
    let none : shape_len (is_last r) (coming r) ≡ None = ap (shape_len (is_last r)) c.0 ∙ c.1 in
    let is : due r ≡ ends_at r (coming r) (place r) = due-fresh r fresh ∙ (ap (at_shape_or_rest r) none ∙ rest-step r) in
    from-last r (ends_at r (coming r) (place r))
    (no-lexeme (not (is_open r) && nat_lt r.limits.lexeme (length (coming r))) (is_cut r) r.ended (length (coming r) == 0) (place r) r.limits.input (fed r)) is
    ∙ ap (λ x. no_lexemes (ends_at r x (place r))) c.0
judged-from r (shape ∷ shapes) rest fresh within c =
    by_answer (λ q f w k. judged-from q shapes rest f w k) (at_shape r.limits (r.offset == 0) shape (place r)) refl where
      more : List ℕ
      more = c.0

      whole : shape_len (is_last r) (coming r) ≡ Some (length shape)
      whole = ap (shape_len (is_last r)) c.1 ∙ c.2

      ends : ℕ → Step
      ends = ends_at r rest

      front : take (length shape) (coming r) ≡ shape
      front = ap (take (length shape)) c.1 ∙ take-append_seam shape more

      is : due r ≡ at_shape r.limits (r.offset == 0) shape (place r)
      is = due-fresh r fresh ∙ (ap (at_shape_or_rest r) whole ∙ ap (λ b. at_shape r.limits (r.offset == 0) b (place r)) front)

      other : (s : Step) → ((l : Lexeme) → s ≢ step.Lexeme l) → at_shape r.limits (r.offset == 0) shape (place r) ≡ s → no_lexemes s ≡ answered s (λ l. said_by r.limits false (place r + length shape) shapes ends) →
          lexed_from r ≡ answered s (λ l. said_by r.limits false (place r + length shape) shapes ends)
      other s differs e same = from-last r s differs (is ∙ e) ∙ same

      by_answer : ((q : Reader) → q.over ≡ None → q.offset ≤ q.limits.input → Cuts (is_last q) (coming q) shapes rest → lexed_from q ≡ said_by q.limits (q.offset == 0) (place q) shapes (ends_at q rest)) →
          (s : Step) → at_shape r.limits (r.offset == 0) shape (place r) ≡ s → lexed_from r ≡ answered s (λ l. said_by r.limits false (place r + length shape) shapes ends)
      by_answer again step.Need e = other step.Need (λ l h. cc) e refl
      by_answer again step.End e = other step.End (λ l h. cc) e refl
      by_answer again (step.Bad fault) e = other (step.Bad fault) (λ l h. cc) e refl
      by_answer again step.Memory e = other step.Memory (λ l h. cc) e refl
      by_answer again (step.Lexeme l) e =
          let q = after r (step.Lexeme l) in
          let b = behind r l shape more fresh within c.1 whole (some-byte (is_last r) (coming r) (length shape) whole) in
          let cuts : Cuts (is_last q) (coming q) shapes rest =
          subst (λ t. Cuts t (coming q) shapes rest) (sym b.last) (subst (λ (x : List ℕ). Cuts (is_last r) x shapes rest) (sym b.comes) c.3) in
          let later = again q b.fresh b.offset cuts in
          let same : lexed_from q ≡ said_by r.limits false (place r + length shape) shapes ends =
          later
          ∙ (ap (λ x. said_by x (q.offset == 0) (place q) shapes (ends_at q rest)) b.limits
          ∙ (ap (λ t. said_by r.limits t (place q) shapes (ends_at q rest)) b.later
          ∙ (ap (λ at. said_by r.limits false at shapes (ends_at q rest)) b.stands
          ∙ said-ends r.limits false (place r + length shape) shapes (ends_at q rest) ends (b.ends rest)))) in
          from-lexeme r l fresh (is ∙ e) ∙ ap (before (l ∷ [])) same

pub lexemes-are-shapes : LexemesAreShapes
lexemes-are-shapes limits bytes ended shapes rest c = judged-from (unread limits bytes ended) shapes rest refl (omega arith) c
