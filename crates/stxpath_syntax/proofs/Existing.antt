-- Each text is read as something, or has a first fault.
use Rattle.std.proofs.Common.{◌≡◌, ◌≢◌, ℕ, zero, suc, ◌+◌, ◌≤◌, ◌<◌, Bool, true, false, cond, ◌&&◌, ◌==◌, nat_eq, nat_lt, List, [], ◌∷◌, Option, Some, None, Ok, Err, length, take, drop, sym, ◌∙◌, refl, ap, subst, arith, ◌⊎◌, inl, inr}
use Rattle.std.specs.Char.{is_ascii_digit}
use Rattle.std.specs.List.{prefix_len, position_or_len}
use Rattle.std.specs.Option.{option_map, option_or, option_and_then}
use Rattle.std.specs.Prelude.{is_some}
use Rattle.std.proofs.lemmas.Bool.Decides.{nat_tests}
use Rattle.std.proofs.lemmas.List.{length-drop}
use Rattle.stx_base.specs.Character.{is_ncname_char}
use Rattle.stx_base.specs.declared.name.Binding.{Binding}
use Rattle.stxpath_syntax.specs.declared.avt.Cut.{Cut}
use Rattle.stxpath_syntax.specs.declared.avt.Piece.TheVariants as piece
use Rattle.stxpath_syntax.specs.declared.dialect.Dialect.{Dialect}
use Rattle.stxpath_syntax.specs.declared.expr.Alternative.{Alternative}
use Rattle.stxpath_syntax.specs.declared.expr.AvtPart.{AvtPart}
use Rattle.stxpath_syntax.specs.declared.expr.Expr.{Expr}
use Rattle.stxpath_syntax.specs.declared.fault.ParseFault.TheVariants as fault
use Rattle.stxpath_syntax.specs.declared.fault.PathFault.{PathFault}
use Rattle.stxpath_syntax.specs.declared.fault.PathKind.{PathKind}
use Rattle.stxpath_syntax.specs.declared.fault.PathKind.TheVariants as kind
use Rattle.stxpath_syntax.specs.declared.meant.Meant.{Meant}
use Rattle.stxpath_syntax.specs.declared.state.State.{State}
use Rattle.stxpath_syntax.specs.declared.token.Before.{Before}
use Rattle.stxpath_syntax.specs.declared.token.Placed.{Placed}
use Rattle.stxpath_syntax.specs.declared.token.Token.{Token}
use Rattle.stxpath_syntax.specs.declared.token.Token.TheVariants as token
use Rattle.stxpath_syntax.specs.Grammar as grammar
use Rattle.stxpath_syntax.specs.Machine.{run, step, end_of_expression, end_of_pattern}
use Rattle.stxpath_syntax.specs.Reading.{Readings, Gives, fault_of}
use Rattle.stxpath_syntax.specs.Running.{Sticks, whole_read}
use Rattle.stxpath_syntax.specs.Template.{Read, Template, IsExpression, IsPattern, IsTemplate, is_brace, closing}
use Rattle.stxpath_syntax.specs.Templating.{Cuts, with_piece}
use Rattle.stxpath_syntax.specs.Tokens.{Lexed, Tokens, before_next, begun, begins_name, classed, double_sign, first_token, goes_on, has_at, is_fraction, is_quote, is_too_deep, is_too_large, literal, name, numeral, sign, single_sign, space, unreadable, with_length}
use Rattle.stxpath_syntax.proofs.Answering.{ends_by}
use Rattle.stxpath_syntax.proofs.Cutting.{cut_plain, cut_double, lone_by, unended_by, value_by, faulty_by}
use Rattle.stxpath_syntax.proofs.Stopping.{Decided, sticks, expression_begun, pattern_begun, expressions, patterns}

-- ---- a token has characters

abbrev Long : Option (Token × ℕ) → Type 0
Long None = Unit {0}
Long (Some found) = 0 < found.1

long_of : (o : Option (Token × ℕ)) (found : Token × ℕ) → o ≡ Some found → Long o → 0 < found.1
long_of None found e l = cc
long_of (Some f) found e l = let same : f ≡ found = cc in subst (λ f. 0 < f.1) same l

cond_long : (b : Bool) (o p : Option (Token × ℕ)) → (b ≡ true → Long o) → Long p → Long (cond b o p)
cond_long true o p f l = f refl
cond_long false o p f l = l

numeral_long : (c : ℕ) (text : List ℕ) → is_ascii_digit c ≡ true → Long (Some (numeral (c ∷ text)))
numeral_long c text e =
    let n : prefix_len is_ascii_digit (c ∷ text) ≡ 1 + prefix_len is_ascii_digit text = ap (λ b. cond b (1 + prefix_len is_ascii_digit text) 0) e in
    omega (arith, n)

literal_long : (quote : ℕ) (text : List ℕ) → Long (literal quote text)
literal_long quote text =
    cond_long (nat_lt (position_or_len (λ c. nat_eq c quote) text) (length text)) _ None (λ e. omega arith) tt

-- one of three, by tests
three_long : (a b : Bool) (t u v : Token) (n k m : ℕ) → 0 < n → 0 < k → 0 < m → 0 < (cond {A = Token × ℕ} a (t, n) (cond b (u, k) (v, m))).1
three_long true b t u v n k m l p q = l
three_long false true t u v n k m l p q = p
three_long false false t u v n k m l p q = q

goes_long : (n : ℕ) (text : List ℕ) → 0 < n → 0 < (goes_on n text).1
goes_long n text l =
    let m : ℕ = prefix_len is_ncname_char (drop (n + 1) text) in
    three_long (has_at (λ c. c == 58) n text && has_at begins_name (n + 1) text) (has_at (λ c. c == 58) n text && has_at (λ c. c == 42) (n + 1) text)
    (token.Name (record { prefix = take n text; local = take m (drop (n + 1) text) })) (token.Within (take n text))
    (token.Name (record { prefix = []; local = take n text })) (n + 1 + m) (n + 2) n (omega (arith, l)) (omega (arith, l)) l

name_long : (text : List ℕ) → Long (Some (name text))
name_long text = goes_long (prefix_len is_ncname_char (drop 1 text) + 1) text (omega arith)

mapped_long : (n : ℕ) (o : Option Token) → Long (option_map (with_length (suc n)) o)
mapped_long n None = tt
mapped_long n (Some t) = omega arith

or_long : (o p : Option (Token × ℕ)) → Long o → Long p → Long (option_or o p)
or_long None p l m = m
or_long (Some f) p l m = l

sign_long : (text : List ℕ) → Long (sign text)
sign_long [] = tt
sign_long (c ∷ []) = mapped_long 0 (single_sign c)
sign_long (c ∷ d ∷ text) = or_long _ _ (mapped_long 1 (double_sign c d)) (mapped_long 0 (single_sign c))

token_long : (text : List ℕ) → Long (first_token text)
token_long [] = tt
token_long (c ∷ text) =
    cond_long (is_ascii_digit c) _ _ (numeral_long c text)
    (cond_long (is_quote c) _ _ (λ e. literal_long c text) (cond_long (begins_name c) _ _ (λ e. name_long (c ∷ text)) (sign_long (c ∷ text))))

-- ---- tokens

-- what can be read begins with a token
found_by : (a b : Bool) (o : Option (Token × ℕ)) → cond a (Some kind.Fraction) (cond b (Some kind.Range) (cond (is_some o) None (Some kind.Syntax))) ≡ None
    → (found : Token × ℕ) × (o ≡ Some found)
found_by true b o e = cc
found_by false true o e = cc
found_by false false None e = cc
found_by false false (Some found) e = (found, refl)

abbrev Lexing : Before → List ℕ → Type 0
Lexing b text = (ts : List Placed) × (over : Option PathFault) × Lexed b text ts over

module _ (b : Before) (text : List ℕ) (more : (c : Before) (left : List ℕ) → length left < length text → Lexing c left) where
  by_depth : (found : Token × ℕ) (deep : Bool) → is_too_deep b.opened found.0 ≡ deep → drop (space text) text ≢ [] → 0 < length (drop (space text) text)
      → unreadable (drop (space text) text) ≡ None → first_token (drop (space text) text) ≡ Some found → Lexing b text
  by_depth found true e ne l readable is = ([], Some (record { kind = kind.TooDeep; place = b.at + space text }), (ne, inr (found, readable, is, e, refl), refl))
  by_depth found false e ne l readable is =
      let n : ℕ = space text + found.1 in
      let long = long_of (first_token (drop (space text) text)) found is (token_long (drop (space text) text)) in
      let rest = more (before_next b (classed b.is_operand found.0) (b.at + n)) (drop n text) (omega (arith, length-drop n text, length-drop (space text) text, l, long)) in (
        record { token = classed b.is_operand found.0; at = b.at + space text } ∷ rest.0,
        rest.1,
        (n, record { found = found; is_first = is; is_readable = readable; is_not_too_deep = e; is_it = refl; is_long = refl }, rest.2),
      )

  by_kind : (o : Option PathKind) → unreadable (drop (space text) text) ≡ o → drop (space text) text ≢ [] → 0 < length (drop (space text) text) → Lexing b text
  by_kind (Some why) e ne l = ([], Some (record { kind = why; place = b.at + space text }), (ne, inl e, refl))
  by_kind None e ne l =
      let t = found_by (is_fraction (drop (space text) text)) (is_too_large (drop (space text) text)) (first_token (drop (space text) text)) e in
      by_depth t.0 (is_too_deep b.opened t.0.0) refl ne l e t.1

  by_rest : (rest : List ℕ) → drop (space text) text ≡ rest → Lexing b text
  by_rest [] e = ([], None, e)
  by_rest (c ∷ cs) e = by_kind (unreadable (drop (space text) text)) refl (λ f. (let g : c ∷ cs ≡ [] = sym e ∙ f in cc)) (omega (arith, ap length e))

  one_lexing : Lexing b text
  one_lexing = by_rest (drop (space text) text) refl

lexing : (n : ℕ) (b : Before) (text : List ℕ) → length text ≤ n → Lexing b text
lexing zero b text l = one_lexing b text (λ c left m. absurd (omega (arith, l, m)))
lexing (suc n) b text l = one_lexing b text (λ c left m. lexing n c left (omega (arith, l, m)))

module _ (dialect : Dialect) (scope : List Binding) where
  -- ---- the machine

  -- tokens run through, or one of them is the first that no state follows
  abbrev Run : List Placed → State → Type 0
  Run ts s = ((u : State) × (run dialect scope ts s ≡ Some u)) ⊎ ((t : Placed) × Sticks dialect scope s ts t)

  run_on : (t : Placed) (ts : List Placed) (s u : State) → step dialect scope s t ≡ Some u → Run ts u → Run (t ∷ ts) s
  unfolding run
  run_on t ts s u e (inl (v, f)) = inl (v, ap (λ o. option_and_then (run dialect scope ts) o) e ∙ f)
  run_on t ts s u e (inr (x, h)) = inr (
    x,
    record {
      front = t ∷ h.front;
      rest = h.rest;
      state = h.state;
      are = ap (λ ts. t ∷ ts) h.are;
      leads = ap (λ o. option_and_then (run dialect scope h.front) o) e ∙ h.leads;
      is_stuck = h.is_stuck;
    },
  )

  run_by : (t : Placed) (ts : List Placed) (s : State) (o : Option State) → step dialect scope s t ≡ o → ((u : State) → Run ts u) → Run (t ∷ ts) s
  unfolding run
  run_by t ts s None e more = inr (t, record { front = []; rest = ts; state = s; are = refl; leads = refl; is_stuck = e })
  run_by t ts s (Some u) e more = run_on t ts s u e (more u)

  running : (ts : List Placed) (s : State) → Run ts s
  unfolding run
  running [] s = inl (s, refl)
  running (t ∷ ts) s = run_by t ts s (step dialect scope s t) refl (λ u. running ts u)

  module _ {A : Type 0} (Means : Readings A) (first : State) (end : State → Option (Meant A)) (decided : Decided dialect scope Means first end) (at : ℕ) (text : List ℕ) where
    from_run : (ts : List Placed) → Tokens at text ts None → Run ts first → (read : Read A) × Gives Means at text read
    from_run ts l (inl (s, e)) = (whole_read (end s) (at + length text), ends_by dialect scope Means first end decided at text ts s (end s) l e refl)
    from_run ts l (inr (t, h)) = (fault_of kind.Syntax t.at, Gives.no_reading ts t.at l (sticks dialect scope Means first end decided (at + length text) ts t h))

    from_tokens : Lexing (begun at) text → (read : Read A) × Gives Means at text read
    from_tokens (ts, Some f, l) = (Err f, Gives.no_token ts f l)
    from_tokens (ts, None, l) = from_run ts l (running ts first)

    given : (read : Read A) × Gives Means at text read
    given = from_tokens (lexing (length text) (begun at) text (omega arith))

  pub some_expression : (at : ℕ) (text : List ℕ) → (read : Read Expr) × IsExpression dialect scope at text read
  some_expression at text = given (grammar.Spells dialect scope 1) expression_begun (end_of_expression scope) (expressions dialect scope) at text

  pub some_pattern : (text : List ℕ) → (read : Read (List Alternative)) × IsPattern dialect scope text read
  some_pattern text = given (grammar.Pattern dialect scope) pattern_begun (end_of_pattern scope) (patterns dialect scope) 0 text

  -- ---- templates

  -- the piece at the front, or the fault there
  abbrev Piece : ℕ → List ℕ → Type 0
  Piece at text = ((cut : Cut) × Cuts dialect scope at text (Ok cut)) ⊎ ((why : PathFault) × Template dialect scope at text (Err why))

  by_inner : (at c n : ℕ) (cs : List ℕ) → is_brace c ≡ true → c ≢ 125 → has_at (λ x. nat_eq x c) 0 cs ≡ false → closing None cs ≡ Some n
      → (read : Read Expr) × IsExpression dialect scope (at + 1) (take n cs) read → Piece at (c ∷ cs)
  by_inner at c n cs b ne f e (Ok x, g) = inl (record { piece = piece.Value x; len = n + 2 }, value_by dialect scope at c n cs x b ne f e g)
  by_inner at c n cs b ne f e (Err why, g) = inr (why, faulty_by dialect scope at c n cs (fault.Path why) b ne f e g)

  by_closing : (at c : ℕ) (cs : List ℕ) (o : Option ℕ) → closing None cs ≡ o → is_brace c ≡ true → c ≢ 125 → has_at (λ x. nat_eq x c) 0 cs ≡ false → Piece at (c ∷ cs)
  by_closing at c cs None e b ne f = inr (record { kind = kind.Syntax; place = at }, unended_by dialect scope at c cs (fault.Path (record { kind = kind.Syntax; place = at })) b ne refl f e)
  by_closing at c cs (Some n) e b ne f = by_inner at c n cs b ne f e (some_expression (at + 1) (take n cs))

  by_brace : (at c : ℕ) (cs : List ℕ) (lone : Bool) → nat_eq c 125 ≡ lone → is_brace c ≡ true → has_at (λ x. nat_eq x c) 0 cs ≡ false → Piece at (c ∷ cs)
  by_brace at c cs true e b f =
      let same : c ≡ 125 = grind (arith, nat_tests) in
      inr (record { kind = kind.Syntax; place = at }, lone_by dialect scope at c cs (fault.Path (record { kind = kind.Syntax; place = at })) same refl f)
  by_brace at c cs false e b f =
      let apart : c ≢ 125 = grind (arith, nat_tests) in
      by_closing at c cs (closing None cs) refl b apart f

  by_double : (at c : ℕ) (cs : List ℕ) (double : Bool) → has_at (λ x. nat_eq x c) 0 cs ≡ double → is_brace c ≡ true → Piece at (c ∷ cs)
  by_double at c cs true f b = inl (record { piece = piece.Plain c; len = 2 }, cut_double dialect scope at c cs b f)
  by_double at c cs false f b = by_brace at c cs (nat_eq c 125) refl b f

  by_char : (at c : ℕ) (cs : List ℕ) (brace : Bool) → is_brace c ≡ brace → Piece at (c ∷ cs)
  by_char at c cs false b = inl (record { piece = piece.Plain c; len = 1 }, cut_plain dialect scope at c cs b)
  by_char at c cs true b = by_double at c cs (has_at (λ x. nat_eq x c) 0 cs) refl b

  abbrev Templates : ℕ → List ℕ → Type 0
  Templates at text = (read : Read (List AvtPart)) × Template dialect scope at text read

  from_piece : (at c : ℕ) (cs : List ℕ) → Piece at (c ∷ cs) → ((place : ℕ) (left : List ℕ) → length left < length (c ∷ cs) → Templates place left) → Templates at (c ∷ cs)
  from_piece at c cs (inr (why, h)) more = (Err why, h)
  from_piece at c cs (inl (cut, h)) more =
      let rest = more (at + cut.len) (drop cut.len (c ∷ cs)) (omega (arith, length-drop cut.len (c ∷ cs), h.0, h.1)) in
      (with_piece cut.piece rest.0, h.2 rest.0 rest.1)

  template : (n at : ℕ) (text : List ℕ) → length text ≤ n → Templates at text
  template n at [] l = (Ok [], Template.end at)
  template zero at (c ∷ cs) l = absurd (omega (arith, l))
  template (suc n) at (c ∷ cs) l = from_piece at c cs (by_char at c cs (is_brace c) refl) (λ place left m. template n place left (omega (arith, l, m)))

  pub some_template : (text : List ℕ) → (read : Read (List AvtPart)) × IsTemplate dialect scope text read
  some_template text = template (length text) 0 text (omega arith)
