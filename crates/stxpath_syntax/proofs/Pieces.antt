-- How texts are cut into tokens, piece by piece.
use Rattle.std.proofs.Common.{◌≡◌, ℕ, suc, ◌+◌, ◌-◌, ◌≤◌, Bool, true, false, nat_lt, ◌==◌, List, [], ◌∷◌, ◌++◌, Some, None, length, drop, sym, ◌∙◌, refl, ap, subst, append_assoc, arith}
use Rattle.std.specs.Char.{is_ascii_digit}
use Rattle.std.specs.List.{prefix_len}
use Rattle.std.proofs.lemmas.Bool.Decides.{nat_tests}
use Rattle.std.proofs.lemmas.List.{drop_at}
use Rattle.stx_base.specs.Character.{is_ncname_char}
use Rattle.stxpath_syntax.specs.declared.token.Before.{Before}
use Rattle.stxpath_syntax.specs.declared.token.Placed.{Placed}
use Rattle.stxpath_syntax.specs.declared.token.Token.{Token}
use Rattle.stxpath_syntax.specs.declared.token.Token.TheVariants as token
use Rattle.stxpath_syntax.specs.Grammar.{at, minus}
use Rattle.stxpath_syntax.specs.Tokens.{has_at, first_token, is_fraction, is_too_large, unreadable, is_too_deep, classed, before_next, space, Stands, Lexed}

abbrev pub before_at : ℕ → ℕ → Bool → Before
before_at place opened is_operand = record { at = place; opened = opened; is_operand = is_operand }

-- before any rest that passes, a text is these tokens, and leads from one place to another
pub record Cut (P : List ℕ → Type 0) (b : Before) (w : List ℕ) (ts : List Placed) (a : Before) : Type 0 where
  pub cuts : (rest : List ℕ) → P rest → (us : List Placed) → Lexed a rest us None → Lexed b (w ++ rest) (ts ++ us) None

pub then_cut : {P Q : List ℕ → Type 0} {b c a : Before} {w v : List ℕ} {ts us : List Placed}
    → Cut P b w ts c → Cut Q c v us a → ((rest : List ℕ) → Q rest → P (v ++ rest)) → Cut Q b (w ++ v) (ts ++ us) a
then_cut {P} {Q} {b} {c} {a} {w} {v} {ts} {us} x y ok = record {
  cuts = λ rest q others l.
      subst (λ text. Lexed b text ((ts ++ us) ++ others) None) (sym (append_assoc w v rest))
      (subst (λ all. Lexed b (w ++ (v ++ rest)) all None) (sym (append_assoc ts us others))
      (x.cuts (v ++ rest) (ok rest q) (us ++ others) (y.cuts rest q others l)));
}

-- a text that is cut into tokens with a property, up to a place behind it
pub record Piece (S : List Placed → Type 0) (P : List ℕ → Type 0) (w : List ℕ) (b : Before) (opened : ℕ) (is_operand : Bool) : Type 0 where
  pub tokens : List Placed
  pub end : ℕ
  pub spells : S tokens
  pub cut : Cut P b w tokens (before_at end opened is_operand)

pub join : {S T R : List Placed → Type 0} {P Q : List ℕ → Type 0} {w v : List ℕ} {b : Before} {d k : ℕ} {e f : Bool}
    → Piece S P w b d e → ((place : ℕ) → Piece T Q v (before_at place d e) k f)
    → ((rest : List ℕ) → Q rest → P (v ++ rest)) → ((ts us : List Placed) → S ts → T us → R (ts ++ us)) → Piece R Q (w ++ v) b k f
join p q ok both =
    let r = q p.end in
    record { tokens = p.tokens ++ r.tokens; end = r.end; spells = both p.tokens r.tokens p.spells r.spells; cut = then_cut p.cut r.cut ok }

pub becomes : {S T : List Placed → Type 0} {P : List ℕ → Type 0} {w : List ℕ} {b : Before} {d : ℕ} {e : Bool}
    → ((ts : List Placed) → S ts → T ts) → Piece S P w b d e → Piece T P w b d e
becomes f p = record { tokens = p.tokens; end = p.end; spells = f p.tokens p.spells; cut = p.cut }

pub narrows : {S : List Placed → Type 0} {P Q : List ℕ → Type 0} {w : List ℕ} {b : Before} {d : ℕ} {e : Bool}
    → ((rest : List ℕ) → Q rest → P rest) → Piece S P w b d e → Piece S Q w b d e
narrows f p = record { tokens = p.tokens; end = p.end; spells = p.spells; cut = record { cuts = λ rest q us l. p.cut.cuts rest (f rest q) us l } }

-- any rest
abbrev pub Any : List ℕ → Type 0
Any rest = Unit {0}

-- a single token
pub data Tok (t : Token) : List Placed → Type 0 where
  tok : (p : ℕ) → Tok t (at p t ∷ [])

-- ---- one token

-- the first token of a text, without white space before it
pub record Begins (text : List ℕ) (raw : Token) (n : ℕ) : Type 0 where
  pub is_first : first_token text ≡ Some (raw, n)
  pub is_readable : unreadable text ≡ None
  pub is_there : space text ≡ 0

stands : (b : Before) (text : List ℕ) (raw : Token) (n : ℕ) → Begins text raw n → is_too_deep b.opened raw ≡ false
    → Stands b text (record { token = classed b.is_operand raw; at = b.at }) n
stands b text raw n g d = record {
  found = (raw, n);
  is_first = ap (λ k. first_token (drop k text)) g.is_there ∙ g.is_first;
  is_readable = ap (λ k. unreadable (drop k text)) g.is_there ∙ g.is_readable;
  is_not_too_deep = d;
  is_it = let same : b.at ≡ b.at + space text = omega (arith, g.is_there) in ap (λ p. at p (classed b.is_operand raw)) same;
  is_long = omega (arith, g.is_there);
}

-- a token, with what stands behind it
pub one_token : {P : List ℕ → Type 0} (b : Before) (w : List ℕ) (raw t : Token) (d : ℕ) (e : Bool)
    → ((rest : List ℕ) → P rest → Begins (w ++ rest) raw (length w)) → is_too_deep b.opened raw ≡ false → classed b.is_operand raw ≡ t
    → before_next b t (b.at + length w) ≡ before_at (b.at + length w) d e → Piece (Tok t) P w b d e
one_token {P} b w raw t d e g deep is same = record {
  tokens = at b.at t ∷ [];
  end = b.at + length w;
  spells = Tok.tok b.at;
  cut = record {
    cuts = λ rest p us l. (
      length w,
      subst (λ t. Stands b (w ++ rest) (at b.at t) (length w)) is (stands b (w ++ rest) raw (length w) (g rest p) deep),
      subst (λ b. Lexed b (drop (length w) (w ++ rest)) us None) (sym same)
          (subst (λ text. Lexed (before_at (b.at + length w) d e) text us None) (sym (drop_at w rest (length w) refl)) l),
    );
  };
}

-- ---- white space before a token

drop_one : {A : Type 0} (n : ℕ) (x : A) (xs : List A) → drop (1 + n) (x ∷ xs) ≡ drop n xs
drop_one n x xs = let e : 1 + n ≡ suc n = omega arith in ap (λ k. drop k (x ∷ xs)) e

space_more : (text : List ℕ) → space (32 ∷ text) ≡ 1 + space text
space_more text = refl

behind_space : (text : List ℕ) → drop (space (32 ∷ text)) (32 ∷ text) ≡ drop (space text) text
behind_space text = drop_one (space text) 32 text

spaced : (p d : ℕ) (e : Bool) (text : List ℕ) (us : List Placed) → Lexed (before_at (p + 1) d e) text us None → Lexed (before_at p d e) (32 ∷ text) us None
spaced p d e text [] l = behind_space text ∙ l
spaced p d e text (t ∷ us) (len, s, l) =
    let place : p + 1 + len ≡ p + (1 + len) = omega arith in (
      1 + len,
      record {
        found = s.found;
        is_first = ap first_token (behind_space text) ∙ s.is_first;
        is_readable = ap unreadable (behind_space text) ∙ s.is_readable;
        is_not_too_deep = s.is_not_too_deep;
        is_it = s.is_it ∙ (let same : p + 1 + space text ≡ p + (1 + space text) = omega arith in ap (λ n. at n (classed e s.found.0)) same);
        is_long = omega (arith, s.is_long);
      },
      subst (λ n. Lexed (before_next (before_at p d e) t.token n) (drop (1 + len) (32 ∷ text)) us None) place
          (subst (λ rest. Lexed (before_next (before_at p d e) t.token (p + 1 + len)) rest us None) (sym (drop_one len 32 text)) l),
    )

pub after_space : {S : List Placed → Type 0} {P : List ℕ → Type 0} {w : List ℕ} {p d k : ℕ} {e f : Bool}
    → ((place : ℕ) → Piece S P w (before_at place d e) k f) → Piece S P (32 ∷ w) (before_at p d e) k f
after_space {S} {P} {w} {p} {d} {k} {e} {f} q =
    let r = q (p + 1) in
    record { tokens = r.tokens; end = r.end; spells = r.spells; cut = record { cuts = λ rest h us l. spaced p d e (w ++ rest) (r.tokens ++ us) (r.cut.cuts rest h us l) } }

pub before_space : {S : List Placed → Type 0} {P : List ℕ → Type 0} {w : List ℕ} {b : Before} {d : ℕ} {e : Bool}
    → Piece S P w b d e → ((rest : List ℕ) → P (32 ∷ rest)) → Piece S Any (w ++ 32 ∷ []) b d e
before_space {S} {P} {w} {b} {d} {e} q ok = record {
  tokens = q.tokens;
  end = q.end + 1;
  spells = q.spells;
  cut = record {
    cuts = λ rest h us l.
        subst (λ text. Lexed b text (q.tokens ++ us) None) (sym (append_assoc w (32 ∷ []) rest)) (q.cut.cuts (32 ∷ rest) (ok rest) us (spaced q.end d e rest us l));
  };
}

-- ---- what a text can begin with so that no word, numeral or dot before it goes on

pub data Breaks : List ℕ → Type 0 where
  ended : Breaks []
  at_space : (cs : List ℕ) → Breaks (32 ∷ cs)
  at_open : (cs : List ℕ) → Breaks (40 ∷ cs)
  at_close : (cs : List ℕ) → Breaks (41 ∷ cs)
  at_comma : (cs : List ℕ) → Breaks (44 ∷ cs)
  at_slash : (cs : List ℕ) → Breaks (47 ∷ cs)
  at_open_predicate : (cs : List ℕ) → Breaks (91 ∷ cs)
  at_close_predicate : (cs : List ℕ) → Breaks (93 ∷ cs)

-- and what can stand behind a whole expression
pub data Closes : List ℕ → Type 0 where
  ended : Closes []
  at_space : (cs : List ℕ) → Closes (32 ∷ cs)
  at_close : (cs : List ℕ) → Closes (41 ∷ cs)
  at_comma : (cs : List ℕ) → Closes (44 ∷ cs)
  at_close_predicate : (cs : List ℕ) → Closes (93 ∷ cs)

pub closes_break : (rest : List ℕ) → Closes rest → Breaks rest
closes_break rest Closes.ended = Breaks.ended
closes_break rest (Closes.at_space cs) = Breaks.at_space cs
closes_break rest (Closes.at_close cs) = Breaks.at_close cs
closes_break rest (Closes.at_comma cs) = Breaks.at_comma cs
closes_break rest (Closes.at_close_predicate cs) = Breaks.at_close_predicate cs

pub no_name : (rest : List ℕ) → Breaks rest → prefix_len is_ncname_char rest ≡ 0
no_name rest Breaks.ended = refl
no_name rest (Breaks.at_space cs) = refl
no_name rest (Breaks.at_open cs) = refl
no_name rest (Breaks.at_close cs) = refl
no_name rest (Breaks.at_comma cs) = refl
no_name rest (Breaks.at_slash cs) = refl
no_name rest (Breaks.at_open_predicate cs) = refl
no_name rest (Breaks.at_close_predicate cs) = refl

pub no_colon : (rest : List ℕ) → Breaks rest → has_at (λ c. c == 58) 0 rest ≡ false
no_colon rest Breaks.ended = refl
no_colon rest (Breaks.at_space cs) = refl
no_colon rest (Breaks.at_open cs) = refl
no_colon rest (Breaks.at_close cs) = refl
no_colon rest (Breaks.at_comma cs) = refl
no_colon rest (Breaks.at_slash cs) = refl
no_colon rest (Breaks.at_open_predicate cs) = refl
no_colon rest (Breaks.at_close_predicate cs) = refl

pub no_digit : (rest : List ℕ) → Breaks rest → prefix_len is_ascii_digit rest ≡ 0
no_digit rest Breaks.ended = refl
no_digit rest (Breaks.at_space cs) = refl
no_digit rest (Breaks.at_open cs) = refl
no_digit rest (Breaks.at_close cs) = refl
no_digit rest (Breaks.at_comma cs) = refl
no_digit rest (Breaks.at_slash cs) = refl
no_digit rest (Breaks.at_open_predicate cs) = refl
no_digit rest (Breaks.at_close_predicate cs) = refl

pub no_dot : (rest : List ℕ) → Breaks rest → has_at (λ c. c == 46) 0 rest ≡ false
no_dot rest Breaks.ended = refl
no_dot rest (Breaks.at_space cs) = refl
no_dot rest (Breaks.at_open cs) = refl
no_dot rest (Breaks.at_close cs) = refl
no_dot rest (Breaks.at_comma cs) = refl
no_dot rest (Breaks.at_slash cs) = refl
no_dot rest (Breaks.at_open_predicate cs) = refl
no_dot rest (Breaks.at_close_predicate cs) = refl

-- ---- signs

readable : (text : List ℕ) (found : Token × ℕ) → is_fraction text ≡ false → is_too_large text ≡ false → first_token text ≡ Some found → unreadable text ≡ None
readable text found f l e = rw (f, l, e) refl

pub begins : (text : List ℕ) (raw : Token) (n : ℕ) → space text ≡ 0 → is_fraction text ≡ false → is_too_large text ≡ false → first_token text ≡ Some (raw, n) → Begins text raw n
begins text raw n s f l e = record { is_first = e; is_readable = readable text (raw, n) f l e; is_there = s }

open_first : (rest : List ℕ) → first_token (40 ∷ rest) ≡ Some (token.Open, 1)
open_first [] = refl
open_first (d ∷ rest) = refl

close_first : (rest : List ℕ) → first_token (41 ∷ rest) ≡ Some (token.Close, 1)
close_first [] = refl
close_first (d ∷ rest) = refl

open_predicate_first : (rest : List ℕ) → first_token (91 ∷ rest) ≡ Some (token.OpenPredicate, 1)
open_predicate_first [] = refl
open_predicate_first (d ∷ rest) = refl

close_predicate_first : (rest : List ℕ) → first_token (93 ∷ rest) ≡ Some (token.ClosePredicate, 1)
close_predicate_first [] = refl
close_predicate_first (d ∷ rest) = refl

comma_first : (rest : List ℕ) → first_token (44 ∷ rest) ≡ Some (token.Comma, 1)
comma_first [] = refl
comma_first (d ∷ rest) = refl

at_first : (rest : List ℕ) → first_token (64 ∷ rest) ≡ Some (token.At, 1)
at_first [] = refl
at_first (d ∷ rest) = refl

dollar_first : (rest : List ℕ) → first_token (36 ∷ rest) ≡ Some (token.Dollar, 1)
dollar_first [] = refl
dollar_first (d ∷ rest) = refl

star_first : (rest : List ℕ) → first_token (42 ∷ rest) ≡ Some (token.Star, 1)
star_first [] = refl
star_first (d ∷ rest) = refl

minus_first : (rest : List ℕ) → first_token (45 ∷ rest) ≡ Some (minus, 1)
minus_first [] = refl
minus_first (d ∷ rest) = refl

-- a slash that no other follows
abbrev pub NoSlash : List ℕ → Type 0
NoSlash [] = Unit {0}
NoSlash (c ∷ cs) = (c == 47) ≡ false

slash_first : (rest : List ℕ) → NoSlash rest → first_token (47 ∷ rest) ≡ Some (token.Slash, 1)
slash_first [] h = refl
slash_first (d ∷ rest) h = rw h refl

dot_first : (rest : List ℕ) → Breaks rest → first_token (46 ∷ rest) ≡ Some (token.Dot, 1)
dot_first rest Breaks.ended = refl
dot_first rest (Breaks.at_space cs) = refl
dot_first rest (Breaks.at_open cs) = refl
dot_first rest (Breaks.at_close cs) = refl
dot_first rest (Breaks.at_comma cs) = refl
dot_first rest (Breaks.at_slash cs) = refl
dot_first rest (Breaks.at_open_predicate cs) = refl
dot_first rest (Breaks.at_close_predicate cs) = refl

dot_whole : (rest : List ℕ) → Breaks rest → is_fraction (46 ∷ rest) ≡ false
dot_whole rest Breaks.ended = refl
dot_whole rest (Breaks.at_space cs) = refl
dot_whole rest (Breaks.at_open cs) = refl
dot_whole rest (Breaks.at_close cs) = refl
dot_whole rest (Breaks.at_comma cs) = refl
dot_whole rest (Breaks.at_slash cs) = refl
dot_whole rest (Breaks.at_open_predicate cs) = refl
dot_whole rest (Breaks.at_close_predicate cs) = refl

not_deep : (d : ℕ) → d ≤ 63 → nat_lt 63 d ≡ false
not_deep d h = grind (arith, nat_tests)

less_is : (d : ℕ) → d + 1 - 1 ≡ d
less_is d = omega arith

pub open_bracket : {p d : ℕ} {e : Bool} → d ≤ 63 → Piece (Tok token.Open) Any (40 ∷ []) (before_at p d e) (d + 1) false
open_bracket {p} {d} {e} h =
    one_token (before_at p d e) (40 ∷ []) token.Open token.Open (d + 1) false
    (λ rest u. begins (40 ∷ rest) token.Open 1 refl refl refl (open_first rest)) (not_deep d h) (kept e)
    refl
  where
    kept : (e : Bool) → classed e token.Open ≡ token.Open
    kept true = refl
    kept false = refl

pub close_bracket : {p d : ℕ} {e : Bool} → Piece (Tok token.Close) Any (41 ∷ []) (before_at p (d + 1) e) d true
close_bracket {p} {d} {e} =
    one_token (before_at p (d + 1) e) (41 ∷ []) token.Close token.Close d true
    (λ rest u. begins (41 ∷ rest) token.Close 1 refl refl refl (close_first rest)) refl (kept e)
    (ap (λ n. before_at (p + 1) n true) (less_is d))
  where
    kept : (e : Bool) → classed e token.Close ≡ token.Close
    kept true = refl
    kept false = refl

pub open_predicate : {p d : ℕ} {e : Bool} → d ≤ 63 → Piece (Tok token.OpenPredicate) Any (91 ∷ []) (before_at p d e) (d + 1) false
open_predicate {p} {d} {e} h =
    one_token (before_at p d e) (91 ∷ []) token.OpenPredicate token.OpenPredicate (d + 1) false
    (λ rest u. begins (91 ∷ rest) token.OpenPredicate 1 refl refl refl (open_predicate_first rest)) (not_deep d h) (kept e)
    refl
  where
    kept : (e : Bool) → classed e token.OpenPredicate ≡ token.OpenPredicate
    kept true = refl
    kept false = refl

pub close_predicate : {p d : ℕ} {e : Bool} → Piece (Tok token.ClosePredicate) Any (93 ∷ []) (before_at p (d + 1) e) d true
close_predicate {p} {d} {e} =
    one_token (before_at p (d + 1) e) (93 ∷ []) token.ClosePredicate token.ClosePredicate d true
    (λ rest u. begins (93 ∷ rest) token.ClosePredicate 1 refl refl refl (close_predicate_first rest)) refl (kept e)
    (ap (λ n. before_at (p + 1) n true) (less_is d))
  where
    kept : (e : Bool) → classed e token.ClosePredicate ≡ token.ClosePredicate
    kept true = refl
    kept false = refl

-- a token that isn't changed by what stands before it
keeps : (t : Token) → (classed true t ≡ t) → (e : Bool) → classed e t ≡ t
keeps t h true = h
keeps t h false = refl

pub comma : {p d : ℕ} {e : Bool} → Piece (Tok token.Comma) Any (44 ∷ []) (before_at p d e) d false
comma {p} {d} {e} =
    one_token (before_at p d e) (44 ∷ []) token.Comma token.Comma d false
    (λ rest u. begins (44 ∷ rest) token.Comma 1 refl refl refl (comma_first rest)) refl (keeps token.Comma refl e) refl

pub at_sign : {p d : ℕ} {e : Bool} → Piece (Tok token.At) Any (64 ∷ []) (before_at p d e) d false
at_sign {p} {d} {e} =
    one_token (before_at p d e) (64 ∷ []) token.At token.At d false
    (λ rest u. begins (64 ∷ rest) token.At 1 refl refl refl (at_first rest)) refl (keeps token.At refl e) refl

pub dollar : {p d : ℕ} {e : Bool} → Piece (Tok token.Dollar) Any (36 ∷ []) (before_at p d e) d false
dollar {p} {d} {e} =
    one_token (before_at p d e) (36 ∷ []) token.Dollar token.Dollar d false
    (λ rest u. begins (36 ∷ rest) token.Dollar 1 refl refl refl (dollar_first rest)) refl (keeps token.Dollar refl e) refl

pub minus_sign : {p d : ℕ} {e : Bool} → Piece (Tok minus) Any (45 ∷ []) (before_at p d e) d false
minus_sign {p} {d} {e} =
    one_token (before_at p d e) (45 ∷ []) minus minus d false
    (λ rest u. begins (45 ∷ rest) minus 1 refl refl refl (minus_first rest)) refl (keeps minus refl e) refl

-- a `*` that is no operator
pub star : {p d : ℕ} → Piece (Tok token.Star) Any (42 ∷ []) (before_at p d false) d true
star {p} {d} =
    one_token (before_at p d false) (42 ∷ []) token.Star token.Star d true
    (λ rest u. begins (42 ∷ rest) token.Star 1 refl refl refl (star_first rest)) refl refl refl

pub slash : {p d : ℕ} {e : Bool} → Piece (Tok token.Slash) NoSlash (47 ∷ []) (before_at p d e) d false
slash {p} {d} {e} =
    one_token (before_at p d e) (47 ∷ []) token.Slash token.Slash d false
    (λ rest h. begins (47 ∷ rest) token.Slash 1 refl refl refl (slash_first rest h)) refl (keeps token.Slash refl e) refl

pub slashes : {p d : ℕ} {e : Bool} → Piece (Tok token.SlashSlash) Any (47 ∷ 47 ∷ []) (before_at p d e) d false
slashes {p} {d} {e} =
    one_token (before_at p d e) (47 ∷ 47 ∷ []) token.SlashSlash token.SlashSlash d false
    (λ rest u. begins (47 ∷ 47 ∷ rest) token.SlashSlash 2 refl refl refl refl) refl (keeps token.SlashSlash refl e) refl

pub dot : {p d : ℕ} {e : Bool} → Piece (Tok token.Dot) Breaks (46 ∷ []) (before_at p d e) d true
dot {p} {d} {e} =
    one_token (before_at p d e) (46 ∷ []) token.Dot token.Dot d true
    (λ rest h. begins (46 ∷ rest) token.Dot 1 refl (dot_whole rest h) refl (dot_first rest h)) refl (keeps token.Dot refl e) refl

pub dots : {p d : ℕ} {e : Bool} → Piece (Tok token.DotDot) Any (46 ∷ 46 ∷ []) (before_at p d e) d true
dots {p} {d} {e} =
    one_token (before_at p d e) (46 ∷ 46 ∷ []) token.DotDot token.DotDot d true
    (λ rest u. begins (46 ∷ 46 ∷ rest) token.DotDot 2 refl refl refl refl) refl (keeps token.DotDot refl e) refl
