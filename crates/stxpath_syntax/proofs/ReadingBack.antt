-- What is printed of an expression that can be read is cut into tokens that mean it.
use Rattle.std.proofs.Common.{◌≡◌, ◌≢◌, ℕ, zero, suc, ◌+◌, ◌-◌, ◌≤◌, Bool, true, false, cond, nat_le, nat_eq, max, pos, List, [], ◌∷◌, ◌++◌, Some, None, Option, Ok, length, map, sym, ◌∙◌, refl, ap, subst, append_assoc, arith, ◌⊎◌, inl, inr, lit≤, codes}
use Rattle.std.specs.Prelude.{encode_utf8_all}
use Rattle.std.specs.Fmt.{decimal}
use Rattle.std.specs.List.{concat, repeat}
use Rattle.std.proofs.lemmas.Bool.{false≢true}
use Rattle.std.proofs.lemmas.Bool.Decides.{nat_tests}
use Rattle.std.proofs.lemmas.List.{append-nil}
use Rattle.stx_base.specs.declared.name.Binding.{Binding}
use Rattle.stx_base.specs.declared.name.Name.{Name}
use Rattle.stx_base.specs.declared.node.NodeTest.{NodeTest}
use Rattle.stx_base.specs.declared.node.NodeTest.TheVariants as test
use Rattle.stx_base.specs.declared.expression.Fun.{Fun}
use Rattle.stx_base.specs.declared.expression.Fun.TheVariants as fun
use Rattle.stx_base.specs.Functions.{word, permits}
use Rattle.stxpath_syntax.specs.declared.dialect.Dialect.{Dialect}
use Rattle.stxpath_syntax.specs.declared.expr.Bin.{Bin}
use Rattle.stxpath_syntax.specs.declared.expr.Expr.{Expr}
use Rattle.stxpath_syntax.specs.declared.expr.Expr.TheVariants as e
use Rattle.stxpath_syntax.specs.declared.expr.Link.{Link}
use Rattle.stxpath_syntax.specs.declared.expr.Link.TheVariants as link
use Rattle.stxpath_syntax.specs.declared.expr.PathStep.{PathStep}
use Rattle.stxpath_syntax.specs.declared.meant.Meant.{Meant}
use Rattle.stxpath_syntax.specs.declared.meant.Meant.TheVariants.{Fine}
use Rattle.stxpath_syntax.specs.declared.token.Operator.TheVariants as operator
use Rattle.stxpath_syntax.specs.declared.token.Placed.{Placed}
use Rattle.stxpath_syntax.specs.declared.token.Token.{Token}
use Rattle.stxpath_syntax.specs.declared.token.Token.TheVariants as token
use Rattle.stxpath_syntax.specs.declared.token.Written.{Written}
use Rattle.stxpath_syntax.specs.Grammar.{at, minus, level, left_level, link_tokens, Test, AttrTest, Ending, Parents, Spells, Leading, Listed, Predicates, Step, Steps}
use Rattle.stxpath_syntax.specs.Meaning.{of_height, made, flat, binary, var, step, step_of, name_by, name_of, binding_by, binding_of, type_of, called, called_by}
use Rattle.stxpath_syntax.specs.Printing.{sign_of, link_text, quoted, prefixed, name_text, within_text, test_text, ending_text, parents_text, Printed, closed, loose, in_parentheses, in_brackets, operand, listed, predicates, printed, step_text, prefix_bound, test_prefixes, ending_prefixes, all_prefixes, prefixes_in, prefixes_in_step, Agrees}
use Rattle.stxpath_syntax.specs.Reading.{Gives}
use Rattle.stxpath_syntax.specs.Template.{IsExpression}
use Rattle.stxpath_syntax.specs.Tokens.{begun, Tokens}
use Rattle.stxpath_syntax.specs.Words.{uri_of}
use Rattle.stxpath_syntax.proofs.Completing.{level_bounds}
use Rattle.stxpath_syntax.proofs.Pieces.{before_at, Piece, join, becomes, narrows, Any, Tok, after_space, before_space, Breaks, Closes, closes_break, NoSlash, open_bracket, close_bracket, open_predicate, close_predicate, comma, at_sign, dollar, minus_sign, star, slash, slashes, dot, dots}
use Rattle.stxpath_syntax.proofs.Printing.{printed_whole, printed_literal, printed_var, printed_call, printed_seq, printed_neg, printed_binary, printed_root, printed_abs, printed_up, printed_attr, printed_step, prefixes_var, prefixes_call, prefixes_seq, prefixes_neg, prefixes_binary, prefixes_abs, prefixes_up, prefixes_attr, prefixes_step, map_snoc, flat_snoc, concat_snoc, led, listed_snoc}
use Rattle.stxpath_syntax.proofs.Readable.{IsPrefix, GoodName, GoodTest, GoodAttr, GoodEnding, Good, GoodAll, GoodStep, GoodSteps, good}
use Rattle.stxpath_syntax.proofs.WellMade.{well_made}
use Rattle.stxpath_syntax.specs.Functions.{function_named}
use Rattle.stxpath_syntax.proofs.Naming.{named_in_utf8}
use Rattle.stxpath_syntax.proofs.Wording.{IsNc, OneQuote, plain_name, ncname, qname, within, quotes, whole, Spaced, bin_token, operator_sign, begins_from}

-- ---- heights

fits : {A : Type 0} (a : A) (h : ℕ) → h ≤ 64 → of_height a h ≡ Fine a h
fits a h l = let t = is_le h l in rw t refl
  where
    is_le : (h : ℕ) → h ≤ 64 → nat_le h 64 ≡ true
    is_le h l = grind (arith, nat_tests)

-- ---- pieces

-- no text is no token
nothing : {S : List Placed → Type 0} {P : List ℕ → Type 0} {p d : ℕ} {b : Bool} → S [] → Piece S P [] (before_at p d b) d b
nothing {S} {P} {p} {d} {b} s = record { tokens = []; end = p; spells = s; cut = record { cuts = λ rest h us l. l } }

retext : {S : List Placed → Type 0} {P : List ℕ → Type 0} {w v : List ℕ} {p d k : ℕ} {b f : Bool} → w ≡ v → Piece S P w (before_at p d b) k f → Piece S P v (before_at p d b) k f
retext {S} {P} {w} {v} {p} {d} {k} {b} {f} same q = subst (λ w. Piece S P w (before_at p d b) k f) same q

-- two tokens and four of them
data Two (t u : Token) : List Placed → Type 0 where
  two : (p q : ℕ) → Two t u (at p t ∷ at q u ∷ [])

data Three (t u v : Token) : List Placed → Type 0 where
  three : (p q r : ℕ) → Three t u v (at p t ∷ at q u ∷ at r v ∷ [])

data Four (t u v w : Token) : List Placed → Type 0 where
  four : (p q r s : ℕ) → Four t u v w (at p t ∷ at q u ∷ at r v ∷ at s w ∷ [])

both_two : (t u : Token) (ts us : List Placed) → Tok t ts → Tok u us → Two t u (ts ++ us)
both_two t u ts us (Tok.tok p) (Tok.tok q) = Two.two p q

both_three : (t u v : Token) (ts us : List Placed) → Tok t ts → Two u v us → Three t u v (ts ++ us)
both_three t u v ts us (Tok.tok p) (Two.two q r) = Three.three p q r

both_four : (t u v w : Token) (ts us : List Placed) → Two t u ts → Two v w us → Four t u v w (ts ++ us)
both_four t u v w ts us (Two.two p q) (Two.two r s) = Four.four p q r s

-- ---- functions

-- a function's name is an NCName
word_is_name : (f : Fun) → IsNc (word f)
word_is_name fun.Name = (refl, refl)
word_is_name fun.LocalName = (refl, refl)
word_is_name fun.NamespaceUri = (refl, refl)
word_is_name fun.Position = (refl, refl)
word_is_name fun.Level = (refl, refl)
word_is_name fun.HasChildNodes = (refl, refl)
word_is_name fun.Str = (refl, refl)
word_is_name fun.Integer = (refl, refl)
word_is_name fun.Boolean = (refl, refl)
word_is_name fun.Not = (refl, refl)
word_is_name fun.True = (refl, refl)
word_is_name fun.False = (refl, refl)
word_is_name fun.Concat = (refl, refl)
word_is_name fun.StringJoin = (refl, refl)
word_is_name fun.StringLength = (refl, refl)
word_is_name fun.Substring = (refl, refl)
word_is_name fun.SubstringBefore = (refl, refl)
word_is_name fun.SubstringAfter = (refl, refl)
word_is_name fun.Contains = (refl, refl)
word_is_name fun.StartsWith = (refl, refl)
word_is_name fun.EndsWith = (refl, refl)
word_is_name fun.NormalizeSpace = (refl, refl)
word_is_name fun.Translate = (refl, refl)
word_is_name fun.Count = (refl, refl)
word_is_name fun.Empty = (refl, refl)
word_is_name fun.Exists = (refl, refl)
word_is_name fun.Sum = (refl, refl)
word_is_name fun.ItemAt = (refl, refl)
word_is_name fun.IndexOf = (refl, refl)
word_is_name fun.Subsequence = (refl, refl)

-- ---- what does not begin with a slash

name_no_slash : (w rest : List ℕ) → IsNc w → NoSlash (w ++ rest)
name_no_slash [] rest nc = absurd nc
name_no_slash (c ∷ cs) rest (b, a) = other c (begins_from c b)
  where
    other : (c : ℕ) → 58 ≤ c → nat_eq c 47 ≡ false
    other c l = grind (arith, nat_tests)

prefixed_no_slash : (prefix uri w rest : List ℕ) → IsNc w → IsPrefix prefix uri → NoSlash (prefixed prefix w ++ rest)
prefixed_no_slash [] uri w rest nc p = name_no_slash w rest nc
prefixed_no_slash (c ∷ cs) uri w rest nc p = name_no_slash (c ∷ cs) [] p

within_no_slash : (prefix rest : List ℕ) → IsNc prefix → NoSlash (within_text prefix ++ rest)
within_no_slash [] rest nc = absurd nc
within_no_slash (c ∷ cs) rest nc = name_no_slash (c ∷ cs) [] nc

test_no_slash : (dialect : Dialect) (t : NodeTest) (rest : List ℕ) → GoodTest dialect t → NoSlash (test_text t ++ rest)
test_no_slash dialect (test.Name name) rest (nc, p) = prefixed_no_slash name.prefix name.uri name.local rest nc p
test_no_slash dialect (test.Prefix binding) rest nc = within_no_slash binding.prefix rest nc
test_no_slash dialect test.AnyElement rest g = refl
test_no_slash dialect test.AnyNode rest g = refl
test_no_slash dialect test.Chars rest g = refl
test_no_slash dialect test.CData rest g = refl
test_no_slash dialect test.Comment rest g = refl
test_no_slash dialect test.AnyPi rest g = refl
test_no_slash dialect (test.Pi target) rest g = refl
test_no_slash dialect test.Document rest g = absurd g
test_no_slash dialect (test.AttrName name) rest g = absurd g
test_no_slash dialect (test.AttrPrefix binding) rest g = absurd g
test_no_slash dialect test.AnyAttr rest g = absurd g

attr_no_slash : (t : NodeTest) (rest : List ℕ) → GoodAttr t → NoSlash (test_text t ++ rest)
attr_no_slash (test.AttrName name) rest nc = refl
attr_no_slash (test.AttrPrefix binding) rest nc = refl
attr_no_slash test.AnyAttr rest g = refl
attr_no_slash (test.Name name) rest g = absurd g
attr_no_slash (test.Prefix binding) rest g = absurd g
attr_no_slash test.AnyElement rest g = absurd g
attr_no_slash test.AnyNode rest g = absurd g
attr_no_slash test.Chars rest g = absurd g
attr_no_slash test.CData rest g = absurd g
attr_no_slash test.Comment rest g = absurd g
attr_no_slash test.AnyPi rest g = absurd g
attr_no_slash (test.Pi target) rest g = absurd g
attr_no_slash test.Document rest g = absurd g

closes_no_slash : (rest : List ℕ) → Closes rest → NoSlash rest
closes_no_slash rest Closes.ended = tt
closes_no_slash rest (Closes.at_space cs) = refl
closes_no_slash rest (Closes.at_close cs) = refl
closes_no_slash rest (Closes.at_comma cs) = refl
closes_no_slash rest (Closes.at_close_predicate cs) = refl

-- ---- names

abbrev written : List ℕ → List ℕ → Written
written prefix local = record { prefix = prefix; local = local }

abbrev named_of : List ℕ → List ℕ → List ℕ → Name
named_of uri local prefix = record { uri = uri; local = local; prefix = prefix }

prefixed_name : {p d : ℕ} (prefix uri local : List ℕ) → IsNc local → IsPrefix prefix uri
    → Piece (Tok (token.Name (written prefix local))) Breaks (prefixed prefix local) (before_at p d false) d true
prefixed_name [] uri local nc pre = ncname local nc
prefixed_name (c ∷ cs) uri local nc pre = qname (c ∷ cs) local pre nc

prefixed_within : {p d : ℕ} (prefix : List ℕ) → IsNc prefix → Piece (Tok (token.Within prefix)) Any (within_text prefix) (before_at p d false) d true
prefixed_within [] nc = absurd nc
prefixed_within (c ∷ cs) nc = within (c ∷ cs) nc

some_long : (c : ℕ) (cs : List ℕ) → nat_eq (length (c ∷ cs)) 0 ≡ false
some_long c cs = grind (arith, nat_tests)

module _ (dialect : Dialect) (other : List Binding) where
  agrees_front : (bs cs : List Binding) → Agrees other (bs ++ cs) → Agrees other bs
  agrees_front [] cs a = tt
  agrees_front (b ∷ bs) cs a = (a.0, agrees_front bs cs a.1)

  agrees_back : (bs cs : List Binding) → Agrees other (bs ++ cs) → Agrees other cs
  agrees_back [] cs a = a
  agrees_back (b ∷ bs) cs a = agrees_back bs cs a.1

  -- a name is resolved as it was
  name_is : (prefix uri local : List ℕ) (p : ℕ) → IsPrefix prefix uri → Agrees other (prefix_bound prefix uri)
      → name_of other (written prefix local) p ≡ flat (named_of uri local prefix)
  name_is [] uri local p pre a = ap (λ u. flat (named_of u local [])) (sym pre)
  name_is (c ∷ cs) uri local p pre a =
      ap (λ b. name_by (written (c ∷ cs) local) p (cond b (Some []) (uri_of other (c ∷ cs)))) (some_long c cs)
      ∙ ap (name_by (written (c ∷ cs) local) p) a.0

  binding_is : (prefix uri : List ℕ) (p : ℕ) → IsNc prefix → Agrees other (prefix_bound prefix uri) → binding_of other prefix p ≡ flat (record { prefix = prefix; uri = uri })
  binding_is [] uri p nc a = absurd nc
  binding_is (c ∷ cs) uri p nc a = ap (binding_by (c ∷ cs) p) a.0

  -- ---- tests

  is_named : (name : Name) → GoodName name → Agrees other (prefix_bound name.prefix name.uri) → (ts : List Placed) → Tok (token.Name (written name.prefix name.local)) ts
      → Test dialect other ts (flat (test.Name name))
  is_named name (nc, pre) a ts (Tok.tok p) =
      subst (λ m. Test dialect other (at p (token.Name (written name.prefix name.local)) ∷ []) (made 0 test.Name m)) (name_is name.prefix name.uri name.local p pre a)
      (Test.named p (written name.prefix name.local))

  is_within : (b : Binding) → IsNc b.prefix → Agrees other (prefix_bound b.prefix b.uri) → (ts : List Placed) → Tok (token.Within b.prefix) ts → Test dialect other ts (flat (test.Prefix b))
  is_within b nc a ts (Tok.tok p) =
      subst (λ m. Test dialect other (at p (token.Within b.prefix) ∷ []) (made 0 test.Prefix m)) (binding_is b.prefix b.uri p nc a) (Test.within p b.prefix)

  is_any : (ts : List Placed) → Tok token.Star ts → Test dialect other ts (flat test.AnyElement)
  is_any ts (Tok.tok p) = Test.any p

  is_type : (word : List ℕ) (t : NodeTest) → type_of dialect (written [] word) ≡ Some t → (ts : List Placed) → Three (plain_name word) token.Open token.Close ts → Test dialect other ts (flat t)
  is_type word t is ts (Three.three p o c) = Test.type p o c (written [] word) t is

  is_target : (word target : List ℕ) → type_of dialect (written [] word) ≡ Some test.AnyPi → (ts : List Placed)
      → Four (plain_name word) token.Open (token.Literal target) token.Close ts → Test dialect other ts (flat (test.Pi target))
  is_target word target is ts (Four.four p o q c) = Test.target p o q c (written [] word) target is

  type_piece : {p d : ℕ} (word : List ℕ) → IsNc word → d ≤ 63
      → Piece (Three (plain_name word) token.Open token.Close) Any (word ++ 40 ∷ 41 ∷ []) (before_at p d false) d true
  type_piece {p} {d} word nc l =
      join (ncname word nc) (λ q. join (open_bracket l) (λ r. close_bracket) (λ rest u. tt) (both_two token.Open token.Close))
      (λ rest u. Breaks.at_open (41 ∷ rest)) (both_three (plain_name word) token.Open token.Close)

  target_piece : {p d : ℕ} (word target : List ℕ) → IsNc word → OneQuote target → d ≤ 63
      → Piece (Four (plain_name word) token.Open (token.Literal target) token.Close) Any ((word ++ 40 ∷ []) ++ (quoted target ++ 41 ∷ [])) (before_at p d false) d true
  target_piece {p} {d} word target nc one l =
      join (join (ncname word nc) (λ q. open_bracket l) (λ rest u. Breaks.at_open rest) (both_two (plain_name word) token.Open))
      (λ q. join (quotes target one) (λ r. close_bracket) (λ rest u. tt) (both_two (token.Literal target) token.Close))
      (λ rest u. tt) (both_four (plain_name word) token.Open (token.Literal target) token.Close)

  test_piece : {p d : ℕ} (t : NodeTest) → GoodTest dialect t → Agrees other (test_prefixes t) → d ≤ 63
      → Piece (λ ts. Test dialect other ts (flat t)) Breaks (test_text t) (before_at p d false) d true
  unfolding lib.Utf8.encode
  test_piece (test.Name name) n a l = becomes (is_named name n a) (prefixed_name name.prefix name.uri name.local n.0 n.1)
  test_piece (test.Prefix binding) nc a l = narrows (λ rest b. tt) (becomes (is_within binding nc a) (prefixed_within binding.prefix nc))
  test_piece test.AnyElement n a l = narrows (λ rest b. tt) (becomes is_any star)
  test_piece test.AnyNode n a l = narrows (λ rest b. tt) (becomes (is_type (codes "node") test.AnyNode refl) (type_piece (codes "node") (refl, refl) l))
  test_piece test.Chars n a l = narrows (λ rest b. tt) (becomes (is_type (codes "text") test.Chars refl) (type_piece (codes "text") (refl, refl) l))
  test_piece test.CData n a l =
      let is : type_of dialect (written [] (codes "cdata")) ≡ Some test.CData = ap (λ d. type_of d (written [] (codes "cdata"))) n in
      narrows (λ rest b. tt) (becomes (is_type (codes "cdata") test.CData is) (type_piece (codes "cdata") (refl, refl) l))
  test_piece test.Comment n a l = narrows (λ rest b. tt) (becomes (is_type (codes "comment") test.Comment refl) (type_piece (codes "comment") (refl, refl) l))
  test_piece test.AnyPi n a l =
      narrows (λ rest b. tt) (becomes (is_type (codes "processing-instruction") test.AnyPi refl) (type_piece (codes "processing-instruction") (refl, refl) l))
  test_piece (test.Pi target) n a l =
      retext (sym (append_assoc (codes "processing-instruction(") (quoted target) (41 ∷ [])))
      (narrows (λ rest b. tt) (becomes (is_target (codes "processing-instruction") target refl) (target_piece (codes "processing-instruction") target (refl, refl) n l)))
  test_piece test.Document n a l = absurd n
  test_piece (test.AttrName name) n a l = absurd n
  test_piece (test.AttrPrefix binding) n a l = absurd n
  test_piece test.AnyAttr n a l = absurd n

  is_attr_named : (name : Name) → GoodName name → Agrees other (prefix_bound name.prefix name.uri)
      → (ts us : List Placed) → Tok token.At ts → Tok (token.Name (written name.prefix name.local)) us → AttrTest other (ts ++ us) (flat (test.AttrName name))
  is_attr_named name (nc, pre) a ts us (Tok.tok s) (Tok.tok p) =
      subst (λ m. AttrTest other (at s token.At ∷ at p (token.Name (written name.prefix name.local)) ∷ []) (made 0 test.AttrName m))
      (name_is name.prefix name.uri name.local p pre a) (AttrTest.named s p (written name.prefix name.local))

  is_attr_within : (b : Binding) → IsNc b.prefix → Agrees other (prefix_bound b.prefix b.uri)
      → (ts us : List Placed) → Tok token.At ts → Tok (token.Within b.prefix) us → AttrTest other (ts ++ us) (flat (test.AttrPrefix b))
  is_attr_within b nc a ts us (Tok.tok s) (Tok.tok p) =
      subst (λ m. AttrTest other (at s token.At ∷ at p (token.Within b.prefix) ∷ []) (made 0 test.AttrPrefix m)) (binding_is b.prefix b.uri p nc a)
      (AttrTest.within s p b.prefix)

  is_attr_any : (ts us : List Placed) → Tok token.At ts → Tok token.Star us → AttrTest other (ts ++ us) (flat test.AnyAttr)
  is_attr_any ts us (Tok.tok s) (Tok.tok p) = AttrTest.any s p

  attr_piece : {p d : ℕ} {b : Bool} (t : NodeTest) → GoodAttr t → Agrees other (test_prefixes t)
      → Piece (λ ts. AttrTest other ts (flat t)) Breaks (test_text t) (before_at p d b) d true
  attr_piece (test.AttrName name) n a =
      join at_sign (λ q. prefixed_name name.prefix name.uri name.local n.0 n.1) (λ rest b. tt) (is_attr_named name n a)
  attr_piece (test.AttrPrefix binding) nc a =
      join at_sign (λ q. narrows (λ rest b. tt) (prefixed_within binding.prefix nc)) (λ rest b. tt) (is_attr_within binding nc a)
  attr_piece test.AnyAttr n a = join at_sign (λ q. narrows (λ rest b. tt) star) (λ rest b. tt) is_attr_any
  attr_piece (test.Name name) n a = absurd n
  attr_piece (test.Prefix binding) n a = absurd n
  attr_piece test.AnyElement n a = absurd n
  attr_piece test.AnyNode n a = absurd n
  attr_piece test.Chars n a = absurd n
  attr_piece test.CData n a = absurd n
  attr_piece test.Comment n a = absurd n
  attr_piece test.AnyPi n a = absurd n
  attr_piece (test.Pi target) n a = absurd n
  attr_piece test.Document n a = absurd n

  is_ending : (t : NodeTest) (ts us : List Placed) → Tok token.Slash ts → AttrTest other us (flat t) → Ending other (ts ++ us) (Fine (Some t) 0)
  is_ending t ts us (Tok.tok s) d = Ending.attributes s d

  ending_piece : {p d : ℕ} (t : Option NodeTest) → GoodEnding t → Agrees other (ending_prefixes t)
      → Piece (λ ts. Ending other ts (Fine t 0)) Breaks (ending_text t) (before_at p d true) d true
  ending_piece None n a = nothing Ending.without
  ending_piece (Some t) n a = join slash (λ q. attr_piece t n a) (λ rest b. attr_no_slash t rest n) (is_ending t)

  -- what follows a path breaks it
  ending_breaks : (t : Option NodeTest) (rest : List ℕ) → Breaks rest → Breaks (ending_text t ++ rest)
  ending_breaks None rest b = b
  ending_breaks (Some t) rest b = Breaks.at_slash (test_text t ++ rest)

  -- ---- `..`

  repeat_more : (n : ℕ) (xs : List ℕ) → repeat (suc n) xs ≡ repeat n xs ++ xs
  repeat_more zero xs = append-nil xs
  repeat_more (suc n) xs = ap (λ ys. xs ++ ys) (repeat_more n xs) ∙ sym (append_assoc xs (repeat n xs) xs)

  is_one : (ts : List Placed) → Tok token.DotDot ts → Parents other ts 1
  is_one ts (Tok.tok p) = Parents.one p

  is_further : (n : ℕ) → n ≢ 0 → (ts us : List Placed) → Parents other ts n → Two token.Slash token.DotDot us → Parents other (ts ++ us) (n + 1)
  is_further n nz ts us d (Two.two s p) = Parents.further s p d nz

  parents_some : {p d : ℕ} (n : ℕ) → Piece (λ ts. Parents other ts (n + 1)) Any (codes ".." ++ repeat n (codes "/..")) (before_at p d false) d true
  parents_some zero = becomes is_one dots
  parents_some {p} {d} (suc n) =
      let some : n + 1 ≢ 0 = λ z. absurd (omega (arith, z)) in
      let same : (codes ".." ++ repeat n (codes "/..")) ++ codes "/.." ≡ codes ".." ++ repeat (suc n) (codes "/..")
      = append_assoc (codes "..") (repeat n (codes "/..")) (codes "/..") ∙ ap (λ xs. codes ".." ++ xs) (sym (repeat_more n (codes "/.."))) in
      let count : n + 1 + 1 ≡ suc n + 1 = omega arith in
      subst (λ k. Piece (λ ts. Parents other ts k) Any (codes ".." ++ repeat (suc n) (codes "/..")) (before_at p d false) d true) count
      (retext same
      (join (parents_some n) (λ q. join slash (λ r. dots) (λ rest b. refl) (both_two token.Slash token.DotDot)) (λ rest b. tt) (is_further (n + 1) some)))

  is_here : (ts : List Placed) → Tok token.Dot ts → Parents other ts 0
  is_here ts (Tok.tok p) = Parents.here p

  parents_piece : {p d : ℕ} (n : ℕ) → Piece (λ ts. Parents other ts n) Breaks (parents_text n) (before_at p d false) d true
  parents_piece zero = becomes is_here dot
  parents_piece {p} {d} (suc n) =
      let count : n + 1 ≡ suc n = omega arith in
      let less : n ≡ suc n - 1 = omega arith in
      let no : false ≡ nat_eq (suc n) 0 = grind (arith, nat_tests) in
      let text : codes ".." ++ repeat n (codes "/..") ≡ parents_text (suc n)
      = ap (λ k. codes ".." ++ repeat k (codes "/..")) less ∙ ap (λ b. cond b (codes ".") (codes ".." ++ repeat (suc n - 1) (codes "/.."))) no in
      subst (λ k. Piece (λ ts. Parents other ts k) Breaks (parents_text (suc n)) (before_at p d false) d true) count (retext text (narrows (λ rest b. tt) (parents_some n)))

  -- ---- expressions

  -- an expression that needs no parentheses there
  abbrev Tight : ℕ → Printed → Type 0
  Tight n p = (n ≤ 1) ⊎ (p.is_loose ≡ false)

  -- the text of an expression at any place where so few brackets are open
  record Printable (x : Expr) (h : ℕ) (p : Printed) : Type 0 where
    is_operand : Bool
    ends : p.is_loose ≡ false → is_operand ≡ true
    put : (place d : ℕ) → d + h ≤ 64 → Piece (λ ts. (n : ℕ) → Tight n p → Spells dialect other n ts (Fine x h)) Closes p.text (before_at place d false) d is_operand

  abbrev Means : Expr → ℕ → List Placed → Type 0
  Means x h ts = (n : ℕ) → Spells dialect other n ts (Fine x h)

  firm : {x : Expr} {h : ℕ} (text : List ℕ) → ((place d : ℕ) → d + h ≤ 64 → Piece (Means x h) Closes text (before_at place d false) d true) → Printable x h (closed text)
  firm text f = record { is_operand = true; ends = λ u. refl; put = λ place d l. becomes (λ ts s n t. s n) (f place d l) }

  rewritten : {x : Expr} {h : ℕ} {p q : Printed} → p ≡ q → Printable x h p → Printable x h q
  rewritten {x} {h} {p} {q} same w = subst (λ p. Printable x h p) same w

  in_brackets_again : (x : Expr) (h : ℕ) (ts us : List Placed) → ((n : ℕ) → n ≤ 1 → Spells dialect other n ts (Fine x h)) → Tok token.Close us
      → (n o : ℕ) → Spells dialect other n (at o token.Open ∷ (ts ++ us)) (Fine x h)
  in_brackets_again x h ts us s (Tok.tok c) n o = Spells.single n o c (s 1 (omega arith))

  opens_again : (x : Expr) (h : ℕ) (ts us : List Placed) → Tok token.Open ts → ((n o : ℕ) → Spells dialect other n (at o token.Open ∷ us) (Fine x h)) → Means x h (ts ++ us)
  opens_again x h ts us (Tok.tok o) s n = s n o

  as_operand : (x : Expr) (h : ℕ) (p : Printed) → Printable x h p → (place d : ℕ) → d + h + 1 ≤ 64 → Piece (Means x h) Closes (operand p) (before_at place d false) d true
  as_operand x h p w place d l = by p.is_loose refl
    where
      by : (b : Bool) → p.is_loose ≡ b → Piece (Means x h) Closes (cond b (in_parentheses p.text) p.text) (before_at place d false) d true
      by true is =
          join (open_bracket (omega (arith, l)))
          (λ q. join (becomes (λ ts s n t. s n (inl t)) (w.put q (d + 1) (omega (arith, l)))) (λ r. narrows (λ rest b. tt) close_bracket) (λ rest b. Closes.at_close rest) (in_brackets_again x h))
          (λ rest b. tt) (opens_again x h)
      by false is =
          subst (λ b. Piece (Means x h) Closes p.text (before_at place d false) d b) (w.ends is)
          (becomes (λ ts s n. s n (inr is)) (w.put place d (omega (arith, l))))

  is_negated : (x : Expr) (h : ℕ) → h + 1 ≤ 64 → (text : List ℕ) (ts us : List Placed) → Tok minus ts → Means x h us
      → (n : ℕ) → Tight n (loose text) → Spells dialect other n (ts ++ us) (Fine (e.Neg x) (h + 1))
  is_negated x h l text ts us (Tok.tok p) s n (inl t) =
      subst (λ m. Spells dialect other n (at p minus ∷ us) m) (fits (e.Neg x) (h + 1) l) (Spells.negated n p (omega (arith, t)) (s 6))
  is_negated x h l text ts us (Tok.tok p) s n (inr t) = absurd (false≢true (sym t))

  negated : (x : Expr) (h : ℕ) (p : Printed) → h + 1 ≤ 64 → Printable x h p → Printable (e.Neg x) (h + 1) (loose (45 ∷ operand p))
  negated x h p l w = record {
    is_operand = true;
    ends = λ u. refl;
    put = λ place d m. join minus_sign (λ q. as_operand x h p w q d (omega (arith, m))) (λ rest b. tt) (is_negated x h l (45 ∷ operand p));
  }

  -- an operator and its right operand, behind any left one
  abbrev Behind : Bin → Expr → ℕ → List Placed → Type 0
  Behind b y g us = (n : ℕ) (ts : List Placed) (x : Meant Expr) → n ≤ 1 → Spells dialect other (left_level (operator.Binary b)) ts x → Spells dialect other n (ts ++ us) (binary b x (Fine y g))

  level_from : (b : Bin) → 1 ≤ level (operator.Binary b)
  level_from b = (level_bounds (operator.Binary b)).2

  is_behind : (b : Bin) (y : Expr) (g : ℕ) (ts us : List Placed) → Tok (bin_token b) ts → Means y g us → Behind b y g (ts ++ us)
  is_behind b y g ts us (Tok.tok p) s n ls x l d =
      let low = level_from b in Spells.operation n p (operator.Binary b) (omega arith) d (s (level (operator.Binary b) + 1))

  is_operation : (b : Bin) (x y : Expr) (h g : ℕ) → max h g + 1 ≤ 64 → (text : List ℕ) (ts us : List Placed) → Means x h ts → Behind b y g us
      → (n : ℕ) → Tight n (loose text) → Spells dialect other n (ts ++ us) (Fine (e.Binary b x y) (max h g + 1))
  is_operation b x y h g l text ts us s f n (inl t) =
      subst (λ m. Spells dialect other n (ts ++ us) m) (fits (e.Binary b x y) (max h g + 1) l) (f n ts (Fine x h) t (s (left_level (operator.Binary b))))
  is_operation b x y h g l text ts us s f n (inr t) = absurd (false≢true (sym t))

  operation : (b : Bin) (x y : Expr) (h g : ℕ) (p q : Printed) → max h g + 1 ≤ 64 → Printable x h p → Printable y g q
      → Printable (e.Binary b x y) (max h g + 1) (loose (operand p ++ 32 ∷ (sign_of b ++ 32 ∷ operand q)))
  operation b x y h g p q l w v = record {
    is_operand = true;
    ends = λ u. refl;
    put = λ place d m.
        join (as_operand x h p w place d (omega (arith, m)))
        (λ i. after_space (λ j. join (operator_sign b) (λ k. after_space (λ r. as_operand y g q v r d (omega (arith, m)))) (λ rest c. Spaced.at_space (operand q ++ rest)) (is_behind b y g)))
        (λ rest c. Closes.at_space ((sign_of b ++ 32 ∷ operand q) ++ rest)) (is_operation b x y h g l (operand p ++ 32 ∷ (sign_of b ++ 32 ∷ operand q)));
  }

  is_variable : (name : Name) → GoodName name → Agrees other (prefix_bound name.prefix name.uri)
      → (ts us : List Placed) → Tok token.Dollar ts → Tok (token.Name (written name.prefix name.local)) us → Means (e.Var name) 1 (ts ++ us)
  is_variable name (nc, pre) a ts us (Tok.tok d) (Tok.tok p) n =
      subst (λ m. Spells dialect other n (at d token.Dollar ∷ at p (token.Name (written name.prefix name.local)) ∷ []) (var m))
      (name_is name.prefix name.uri name.local p pre a) (Spells.variable n d p (written name.prefix name.local))

  is_whole : (i : ℕ) (ts : List Placed) → Tok (token.Whole (pos i)) ts → Means (e.Whole (pos i)) 1 ts
  is_whole i ts (Tok.tok p) n = Spells.whole n p (pos i)

  is_literal : (text : List ℕ) (ts : List Placed) → Tok (token.Literal text) ts → Means (e.Literal text) 1 ts
  is_literal text ts (Tok.tok p) n = Spells.literal n p text

  is_root : (ts : List Placed) → Tok token.Slash ts → (n : ℕ) → Tight n (loose (codes "/")) → Spells dialect other n ts (Fine e.Root 1)
  is_root ts (Tok.tok p) n t = Spells.root n p

  is_above : (k : ℕ) (t : Option NodeTest) (ts us : List Placed) → Parents other ts k → Ending other us (Fine t 0) → Means (e.Up k t) 1 (ts ++ us)
  is_above k t ts us d f n = Spells.above n d f

  -- a path's steps behind some link
  abbrev Walks : List PathStep → ℕ → List Placed → Type 0
  Walks steps h ts = (l : Link) × (l ≢ link.Start) × Steps dialect other l ts (Fine steps h)

  is_absolute : (steps : List PathStep) (t : Option NodeTest) (h : ℕ) → max h 0 + 1 ≤ 64 → (ts us : List Placed) → Walks steps h ts → Ending other us (Fine t 0)
      → Means (e.Abs steps t) (max h 0 + 1) (ts ++ us)
  is_absolute steps t h l ts us (k, ne, d) f n = subst (λ m. Spells dialect other n (ts ++ us) m) (fits (e.Abs steps t) (max h 0 + 1) l) (Spells.absolute n ne d f)

  -- a list in parentheses
  record Listing (k : ℕ) (es : List Expr) (h : ℕ) (text : List ℕ) : Type 0 where
    is_operand : Bool
    put : (place d : ℕ) → d + h ≤ 64 → Piece (λ ts. Listed dialect other k ts (Fine es h)) Closes text (before_at place d false) d is_operand

  closes_several : (k h : ℕ) (es : List Expr) → k ≢ 1 → h + 1 ≤ 64 → (ts us : List Placed) → Listed dialect other k ts (Fine es h) → Tok token.Close us
      → (n o : ℕ) → Spells dialect other n (at o token.Open ∷ (ts ++ us)) (Fine (e.Seq es) (h + 1))
  closes_several k h es ne l ts us d (Tok.tok c) n o =
      subst (λ m. Spells dialect other n (at o token.Open ∷ (ts ++ at c token.Close ∷ [])) m) (fits (e.Seq es) (h + 1) l) (Spells.several n o c d ne)

  several : (k h : ℕ) (es : List Expr) (text : List ℕ) → k ≢ 1 → h + 1 ≤ 64 → Listing k es h text → Printable (e.Seq es) (h + 1) (closed (in_parentheses text))
  several k h es text ne l w =
      firm (in_parentheses text)
      (λ place d m.
      join (open_bracket (omega (arith, m)))
      (λ q. join (w.put q (d + 1) (omega (arith, m))) (λ r. narrows (λ rest b. tt) close_bracket) (λ rest b. Closes.at_close rest) (closes_several k h es ne l))
      (λ rest b. tt) (opens_again (e.Seq es) (h + 1)))

  called_is : (name : List ℕ) (f : Fun) (k h : ℕ) (es : List Expr) (p : ℕ) → function_named (encode_utf8_all name) ≡ Some f → permits f k ≡ true → h + 1 ≤ 64
      → called (written [] name) p k (Fine es h) ≡ Fine (e.Call f es) (h + 1)
  called_is name f k h es p is allowed l =
      ap (λ o. called_by o p k (Fine es h)) is ∙ rw allowed (fits (e.Call f es) (h + 1) l)

  closes_call : (name : List ℕ) (f : Fun) (k h : ℕ) (es : List Expr) → function_named (encode_utf8_all name) ≡ Some f → permits f k ≡ true → h + 1 ≤ 64
      → (ts us : List Placed) → Listed dialect other k ts (Fine es h) → Tok token.Close us
      → (n p o : ℕ) → Spells dialect other n (at p (plain_name name) ∷ at o token.Open ∷ (ts ++ us)) (Fine (e.Call f es) (h + 1))
  closes_call name f k h es is allowed l ts us d (Tok.tok c) n p o =
      subst (λ m. Spells dialect other n (at p (plain_name name) ∷ at o token.Open ∷ (ts ++ at c token.Close ∷ [])) m) (called_is name f k h es p is allowed l)
      (Spells.call n p o c (written [] name) d)

  opens_call : (name : List ℕ) (x : Expr) (h : ℕ) (ts us : List Placed) → Tok token.Open ts
      → ((n p o : ℕ) → Spells dialect other n (at p (plain_name name) ∷ at o token.Open ∷ us) (Fine x h))
      → (n p : ℕ) → Spells dialect other n (at p (plain_name name) ∷ (ts ++ us)) (Fine x h)
  opens_call name x h ts us (Tok.tok o) s n p = s n p o

  begins_call : (name : List ℕ) (x : Expr) (h : ℕ) (ts us : List Placed) → Tok (plain_name name) ts
      → ((n p : ℕ) → Spells dialect other n (at p (plain_name name) ∷ us) (Fine x h)) → Means x h (ts ++ us)
  begins_call name x h ts us (Tok.tok p) s n = s n p

  call : (name : List ℕ) (f : Fun) (k h : ℕ) (es : List Expr) (text : List ℕ) → IsNc name → function_named (encode_utf8_all name) ≡ Some f → permits f k ≡ true
      → h + 1 ≤ 64 → Listing k es h text → Printable (e.Call f es) (h + 1) (closed (name ++ in_parentheses text))
  call name f k h es text nc is allowed l w =
      firm (name ++ in_parentheses text)
      (λ place d m.
      join (ncname name nc)
      (λ i. join (open_bracket (omega (arith, m)))
      (λ q. join (w.put q (d + 1) (omega (arith, m))) (λ r. narrows (λ rest b. tt) close_bracket) (λ rest b. Closes.at_close rest) (closes_call name f k h es is allowed l))
      (λ rest b. tt) (opens_call name (e.Call f es) (h + 1)))
      (λ rest b. Breaks.at_open ((text ++ 41 ∷ []) ++ rest)) (begins_call name (e.Call f es) (h + 1)))

  is_leading : (k h g : ℕ) (es : List Expr) (x : Expr) → max h g + 0 ≤ 64 → (ts us : List Placed)
      → ((vs : List Placed) → Tok token.Comma vs → Leading dialect other (k + 1) (ts ++ vs) (Fine (es ++ x ∷ []) (max h g + 0))) → Tok token.Comma us
      → Leading dialect other (k + 1) (ts ++ us) (Fine (es ++ x ∷ []) (max h g + 0))
  is_leading k h g es x l ts us f c = f us c

  leads : (k h g : ℕ) (es : List Expr) (x : Expr) → max h g + 0 ≤ 64 → (ts us : List Placed) → Leading dialect other k ts (Fine es h)
      → ((n : ℕ) → n ≤ 1 → Spells dialect other n us (Fine x g)) → (vs : List Placed) → Tok token.Comma vs
      → Leading dialect other (k + 1) ((ts ++ us) ++ vs) (Fine (es ++ x ∷ []) (max h g + 0))
  leads k h g es x l ts us d s vs (Tok.tok p) =
      subst (λ m. Leading dialect other (k + 1) (ts ++ us ++ at p token.Comma ∷ []) m) (fits (es ++ x ∷ []) (max h g + 0) l) (Leading.further p d (s 1 (omega arith)))

  is_last : (k h g : ℕ) (es : List Expr) (x : Expr) → max h g + 0 ≤ 64 → (ts us : List Placed) → Leading dialect other k ts (Fine es h)
      → ((n : ℕ) → n ≤ 1 → Spells dialect other n us (Fine x g)) → Listed dialect other (k + 1) (ts ++ us) (Fine (es ++ x ∷ []) (max h g + 0))
  is_last k h g es x l ts us d s = subst (λ m. Listed dialect other (k + 1) (ts ++ us) m) (fits (es ++ x ∷ []) (max h g + 0) l) (Listed.last d (s 1 (omega arith)))

  closes_predicate : (h g : ℕ) (es : List Expr) (x : Expr) → max h g + 0 ≤ 64 → (us vs : List Placed) → ((n : ℕ) → n ≤ 1 → Spells dialect other n us (Fine x g)) → Tok token.ClosePredicate vs
      → (o : ℕ) (ts : List Placed) → Predicates dialect other ts (Fine es h) → Predicates dialect other (ts ++ at o token.OpenPredicate ∷ (us ++ vs)) (Fine (es ++ x ∷ []) (max h g + 0))
  closes_predicate h g es x l us vs s (Tok.tok c) o ts d =
      subst (λ m. Predicates dialect other (ts ++ at o token.OpenPredicate ∷ (us ++ at c token.ClosePredicate ∷ [])) m) (fits (es ++ x ∷ []) (max h g + 0) l)
      (Predicates.filtered o c d (s 1 (omega arith)))

  opens_predicate : (h k : ℕ) (es fs : List Expr) (us vs : List Placed) → Tok token.OpenPredicate us
      → ((o : ℕ) (ts : List Placed) → Predicates dialect other ts (Fine es h) → Predicates dialect other (ts ++ at o token.OpenPredicate ∷ vs) (Fine fs k))
      → (ts : List Placed) → Predicates dialect other ts (Fine es h) → Predicates dialect other (ts ++ (us ++ vs)) (Fine fs k)
  opens_predicate h k es fs us vs (Tok.tok o) f ts d = f o ts d

  adds_predicate : (h k : ℕ) (es fs : List Expr) (ts us : List Placed) → Predicates dialect other ts (Fine es h)
      → ((ts : List Placed) → Predicates dialect other ts (Fine es h) → Predicates dialect other (ts ++ us) (Fine fs k)) → Predicates dialect other (ts ++ us) (Fine fs k)
  adds_predicate h k es fs ts us d f = f ts d

  abbrev AllAgree : List Expr → Type 0
  AllAgree es = Agrees other (all_prefixes (map prefixes_in es))

  all_front : (es : List Expr) (x : Expr) → AllAgree (es ++ x ∷ []) → AllAgree es × Agrees other (prefixes_in x)
  all_front es x a =
      let same : all_prefixes (map prefixes_in (es ++ x ∷ [])) ≡ all_prefixes (map prefixes_in es) ++ prefixes_in x
      = ap all_prefixes (map_snoc prefixes_in es x) ∙ flat_snoc (λ bs. bs) (map prefixes_in es) (prefixes_in x) in
      let b = subst (Agrees other) same a in
      (agrees_front (all_prefixes (map prefixes_in es)) (prefixes_in x) b, agrees_back (all_prefixes (map prefixes_in es)) (prefixes_in x) b)

  -- a link and its step
  is_linked : (l : Link) → (ts : List Placed) → Type 0
  is_linked l ts = (p : ℕ) × (ts ≡ link_tokens l p)

  slash_linked : (ts : List Placed) → Tok token.Slash ts → (p : ℕ) × (ts ≡ link_tokens link.Slash p)
  slash_linked ts (Tok.tok p) = (p, refl)

  deep_linked : (ts : List Placed) → Tok token.SlashSlash ts → (p : ℕ) × (ts ≡ link_tokens link.Deep p)
  deep_linked ts (Tok.tok p) = (p, refl)

  link_piece : {p d : ℕ} {b : Bool} (l : Link) → l ≢ link.Start → Piece (λ ts. (p : ℕ) × (ts ≡ link_tokens l p)) NoSlash (link_text l) (before_at p d b) d false
  link_piece link.Start ne = absurd (ne refl)
  link_piece link.Slash ne = becomes slash_linked slash
  link_piece link.Deep ne = narrows (λ rest n. tt) (becomes deep_linked slashes)

  is_tested : (l : Link) (t : NodeTest) (ts us : List Placed) → (p : ℕ) × (ts ≡ link_tokens l p) → Test dialect other us (flat t)
      → (vs : List Placed) (es : Meant (List Expr)) → Predicates dialect other vs es → Step dialect other l ((ts ++ us) ++ vs) (step l (flat t) es)
  is_tested l t ts us (p, same) d vs es f = subst (λ ts. Step dialect other l ((ts ++ us) ++ vs) (step l (flat t) es)) (sym same) (Step.tested l p d f)

  is_step : (l : Link) (t : NodeTest) (es : List Expr) (h : ℕ) → max 0 h + 0 ≤ 64 → (ts us : List Placed)
      → ((vs : List Placed) (es : Meant (List Expr)) → Predicates dialect other vs es → Step dialect other l (ts ++ vs) (step l (flat t) es))
      → Predicates dialect other us (Fine es h) → Step dialect other l (ts ++ us) (Fine (step_of l t es) (max 0 h + 0))
  is_step l t es h m ts us f d = subst (λ s. Step dialect other l (ts ++ us) s) (fits (step_of l t es) (max 0 h + 0) m) (f us (Fine es h) d)

  -- a step behind some link
  abbrev Stepped : PathStep → ℕ → List Placed → Type 0
  Stepped s h ts = (l : Link) × (l ≢ link.Start) × Step dialect other l ts (Fine s h)

  walks_one : (s : PathStep) (h : ℕ) → max 0 h + 0 ≤ 64 → (ts : List Placed) → Stepped s h ts → Walks (s ∷ []) (max 0 h + 0) ts
  walks_one s h m ts (l, ne, d) = (l, ne, subst (λ m. Steps dialect other l ts m) (fits (s ∷ []) (max 0 h + 0) m) (Steps.one_step d))

  walks_on : (steps : List PathStep) (s : PathStep) (h g : ℕ) → max h g + 0 ≤ 64 → (ts us : List Placed) → Walks steps h ts → Stepped s g us
      → Walks (steps ++ s ∷ []) (max h g + 0) (ts ++ us)
  walks_on steps s h g m ts us (l, ne, d) (k, nf, f) = (l, ne, subst (λ m. Steps dialect other l (ts ++ us) m) (fits (steps ++ s ∷ []) (max h g + 0) m) (Steps.next_step nf d f))

  predicates_break : (ps : List Printed) (rest : List ℕ) → Breaks rest → Breaks (predicates ps ++ rest)
  predicates_break [] rest b = b
  predicates_break (p ∷ ps) rest b = Breaks.at_open_predicate _

  link_breaks : (l : Link) (more rest : List ℕ) → l ≢ link.Start → Breaks ((link_text l ++ more) ++ rest)
  link_breaks link.Start more rest ne = absurd (ne refl)
  link_breaks link.Slash more rest ne = Breaks.at_slash (more ++ rest)
  link_breaks link.Deep more rest ne = Breaks.at_slash ((47 ∷ more) ++ rest)

  step_breaks : {s : PathStep} {h : ℕ} → GoodStep dialect s h → (rest : List ℕ) → Breaks (step_text s ++ rest)
  step_breaks (GoodStep.tested l t k h es ne n all m) rest =
      subst (λ w. Breaks (w ++ rest)) (sym (printed_step l t es ∙ append_assoc (link_text l) (test_text t) (predicates (map printed es))))
      (link_breaks l (test_text t ++ predicates (map printed es)) rest ne)

  mutual
    write : {x : Expr} {h : ℕ} → Good dialect x h → Agrees other (prefixes_in x) → Printable x h (printed x)
    write (Good.whole n small) a =
        rewritten (sym (printed_whole (pos n))) (firm (decimal n) (λ place d l. narrows closes_break (becomes (is_whole n) (whole n small))))
    write (Good.literal text one) a =
        rewritten (sym (printed_literal text)) (firm (quoted text) (λ place d l. narrows (λ rest c. tt) (becomes (is_literal text) (quotes text one))))
    write (Good.variable name n) a =
        let b = subst (Agrees other) (prefixes_var name) a in
        rewritten (sym (printed_var name)) (firm (36 ∷ name_text name)
        (λ place d l. join dollar (λ q. narrows closes_break (prefixed_name name.prefix name.uri name.local n.0 n.1)) (λ rest c. tt) (is_variable name n b)))
    write (Good.call f k h es allowed all l) a =
        rewritten (sym (printed_call f es))
        (call (word f) f k h es (listed (map printed es)) (word_is_name f) (named_in_utf8 f) allowed l
        (write_listed all (subst (Agrees other) (prefixes_call f es) a)))
    write (Good.several k h es ne all l) a =
        rewritten (sym (printed_seq es)) (several k h es (listed (map printed es)) ne l (write_listed all (subst (Agrees other) (prefixes_seq es) a)))
    write (Good.negated x h w l) a = rewritten (sym (printed_neg x)) (negated x h (printed x) l (write w (subst (Agrees other) (prefixes_neg x) a)))
    write (Good.operation b x y h g w v l) a =
        let both = subst (Agrees other) (prefixes_binary b x y) a in
        rewritten (sym (printed_binary b x y)) (operation b x y h g (printed x) (printed y) l
        (write w (agrees_front (prefixes_in x) (prefixes_in y) both)) (write v (agrees_back (prefixes_in x) (prefixes_in y) both)))
    write Good.root a =
        rewritten (sym printed_root) (record {
          is_operand = false;
          ends = λ u. absurd (false≢true (sym u));
          put = λ place d l. narrows closes_no_slash (becomes is_root slash);
        })
    write (Good.absolute steps t h all n l) a =
        let both = subst (Agrees other) (prefixes_abs steps t) a in
        let front = agrees_front (all_prefixes (map prefixes_in_step steps)) (ending_prefixes t) both in
        let back = agrees_back (all_prefixes (map prefixes_in_step steps)) (ending_prefixes t) both in
        rewritten (sym (printed_abs steps t)) (firm (concat (map step_text steps) ++ ending_text t)
        (λ place d m.
        join (write_steps all front place d false (omega (arith, m))) (λ q. narrows closes_break (ending_piece t n back))
        (λ rest c. ending_breaks t rest (closes_break rest c)) (is_absolute steps t h l)))
    write (Good.above k t n) a =
        let b = subst (Agrees other) (prefixes_up k t) a in
        rewritten (sym (printed_up k t)) (firm (parents_text k ++ ending_text t)
        (λ place d m.
        join (parents_piece k) (λ q. narrows closes_break (ending_piece t n b)) (λ rest c. ending_breaks t rest (closes_break rest c)) (is_above k t)))
    write (Good.attributes t n) a =
        let b = subst (Agrees other) (prefixes_attr t) a in
        rewritten (sym (printed_attr t)) (firm (test_text t) (λ place d m. narrows closes_break (becomes (λ ts d n. Spells.attributes n d) (attr_piece t n b))))

    write_led : {k : ℕ} {es : List Expr} {h : ℕ} → GoodAll dialect k es h → AllAgree es → (place d : ℕ) → d + h ≤ 64
        → Piece (λ ts. Leading dialect other k ts (Fine es h)) Any (led (map printed es)) (before_at place d false) d false
    write_led GoodAll.start a place d l = nothing Leading.start
    write_led (GoodAll.further k h g es x all w m) a place d l =
        let b = all_front es x a in
        let v = write w b.1 in
        let text : (led (map printed es) ++ (printed x).text) ++ 44 ∷ 32 ∷ [] ≡ led (map printed (es ++ x ∷ []))
        = append_assoc (led (map printed es)) (printed x).text (44 ∷ 32 ∷ [])
        ∙ sym (ap led (map_snoc printed es x) ∙ flat_snoc (λ p. p.text ++ 44 ∷ 32 ∷ []) (map printed es) (printed x)) in
        retext text
        (join
        (join (write_led all b.0 place d (omega (arith, l))) (λ q. becomes (λ ts s n t. s n (inl t)) (v.put q d (omega (arith, l)))) (λ rest c. tt) (leads k h g es x m))
        (λ q. before_space comma (λ rest. tt)) (λ rest c. Closes.at_comma (32 ∷ rest)) (is_leading k h g es x m))

    write_listed : {k : ℕ} {es : List Expr} {h : ℕ} → GoodAll dialect k es h → AllAgree es → Listing k es h (listed (map printed es))
    write_listed GoodAll.start a = record { is_operand = false; put = λ place d l. nothing Listed.empty }
    write_listed (GoodAll.further k h g es x all w m) a =
        let b = all_front es x a in
        let v = write w b.1 in
        let text : led (map printed es) ++ (printed x).text ≡ listed (map printed (es ++ x ∷ []))
        = sym (ap listed (map_snoc printed es x) ∙ listed_snoc (map printed es) (printed x)) in
        record {
          is_operand = v.is_operand;
          put = λ place d l.
              retext text
              (join (write_led all b.0 place d (omega (arith, l))) (λ q. becomes (λ ts s n t. s n (inl t)) (v.put q d (omega (arith, l)))) (λ rest c. tt) (is_last k h g es x m));
        }

    write_predicates : {k : ℕ} {es : List Expr} {h : ℕ} → GoodAll dialect k es h → AllAgree es → (place d : ℕ) → d + h + 1 ≤ 64
        → Piece (λ ts. Predicates dialect other ts (Fine es h)) Breaks (predicates (map printed es)) (before_at place d true) d true
    write_predicates GoodAll.start a place d l = nothing Predicates.unfiltered
    write_predicates (GoodAll.further k h g es x all w m) a place d l =
        let b = all_front es x a in
        let v = write w b.1 in
        let text : predicates (map printed es) ++ in_brackets (printed x).text ≡ predicates (map printed (es ++ x ∷ []))
        = sym (ap predicates (map_snoc printed es x) ∙ flat_snoc (λ p. in_brackets p.text) (map printed es) (printed x)) in
        retext text
        (join (write_predicates all b.0 place d (omega (arith, l)))
        (λ q. join (open_predicate (omega (arith, l)))
        (λ r. join (becomes (λ ts s n t. s n (inl t)) (v.put r (d + 1) (omega (arith, l)))) (λ i. narrows (λ rest c. tt) close_predicate) (λ rest c. Closes.at_close_predicate rest)
        (closes_predicate h g es x m))
        (λ rest c. tt) (opens_predicate h (max h g + 0) es (es ++ x ∷ [])))
        (λ rest c. Breaks.at_open_predicate (((printed x).text ++ 93 ∷ []) ++ rest)) (adds_predicate h (max h g + 0) es (es ++ x ∷ [])))

    write_step : {s : PathStep} {h : ℕ} → GoodStep dialect s h → Agrees other (prefixes_in_step s) → (place d : ℕ) (b : Bool) → d + h + 1 ≤ 64
        → Piece (Stepped s h) Breaks (step_text s) (before_at place d b) d true
    write_step (GoodStep.tested l t k h es ne n all m) a place d b few =
        let both = subst (Agrees other) (prefixes_step l t es) a in
        let front = agrees_front (test_prefixes t) (all_prefixes (map prefixes_in es)) both in
        let back = agrees_back (test_prefixes t) (all_prefixes (map prefixes_in es)) both in
        retext (sym (printed_step l t es))
        (becomes (λ ts d. (l, ne, d))
        (join (join (link_piece l ne) (λ q. test_piece t n front (omega (arith, few))) (λ rest c. test_no_slash dialect t rest n) (is_tested l t))
        (λ q. write_predicates all back q d (omega (arith, few))) (λ rest c. predicates_break (map printed es) rest c) (is_step l t es h m)))

    write_steps : {steps : List PathStep} {h : ℕ} → GoodSteps dialect steps h → Agrees other (all_prefixes (map prefixes_in_step steps)) → (place d : ℕ) (b : Bool) → d + h + 1 ≤ 64
        → Piece (Walks steps h) Breaks (concat (map step_text steps)) (before_at place d b) d true
    write_steps (GoodSteps.one_step s h w m) a place d b few =
        retext (sym (append-nil (step_text s)))
        (becomes (walks_one s h m) (write_step w (subst (Agrees other) (append-nil (prefixes_in_step s)) a) place d b (omega (arith, few))))
    write_steps (GoodSteps.next_step steps s h g all w m) a place d b few =
        let same : all_prefixes (map prefixes_in_step (steps ++ s ∷ [])) ≡ all_prefixes (map prefixes_in_step steps) ++ prefixes_in_step s
        = ap all_prefixes (map_snoc prefixes_in_step steps s) ∙ flat_snoc (λ bs. bs) (map prefixes_in_step steps) (prefixes_in_step s) in
        let both = subst (Agrees other) same a in
        let front = agrees_front (all_prefixes (map prefixes_in_step steps)) (prefixes_in_step s) both in
        let back = agrees_back (all_prefixes (map prefixes_in_step steps)) (prefixes_in_step s) both in
        let text : concat (map step_text steps) ++ step_text s ≡ concat (map step_text (steps ++ s ∷ []))
        = sym (ap concat (map_snoc step_text steps s) ∙ concat_snoc (map step_text steps) (step_text s)) in
        retext text
        (join (write_steps all front place d b (omega (arith, few))) (λ q. write_step w back q d true (omega (arith, few)))
        (λ rest c. step_breaks w rest) (walks_on steps s h g m))

small : {dialect : Dialect} {x : Expr} {h : ℕ} → Good dialect x h → 0 + h ≤ 64
small (Good.whole n l) = lit≤ tt
small (Good.literal text o) = lit≤ tt
small (Good.variable name n) = lit≤ tt
small (Good.call f k g es allowed all l) = omega (arith, l)
small (Good.several k g es ne all l) = omega (arith, l)
small (Good.negated x g w l) = omega (arith, l)
small (Good.operation b x y i g w v l) = omega (arith, l)
small Good.root = lit≤ tt
small (Good.absolute steps t g all n l) = omega (arith, l)
small (Good.above k t n) = lit≤ tt
small (Good.attributes t n) = lit≤ tt

-- what is printed of an expression that was read, is read as it
pub reads_back : (dialect : Dialect) (scope other : List Binding) (from place : ℕ) (text : List ℕ) (x : Expr) → IsExpression dialect scope from text (Ok x) → Agrees other (prefixes_in x)
    → IsExpression dialect other place (printed x).text (Ok x)
reads_back dialect scope other from place text _ (Gives.read ts x height l d) a =
    let w = write dialect other (good dialect scope d (well_made (begun from) text ts None l)) a in
    let p = w.put place 0 (small (good dialect scope d (well_made (begun from) text ts None l))) in
    let cut : Tokens place ((printed x).text ++ []) (p.tokens ++ []) None = p.cut.cuts [] Closes.ended [] refl in
    Gives.read p.tokens x height
    (subst (λ ts. Tokens place (printed x).text ts None) (append-nil p.tokens) (subst (λ w. Tokens place w (p.tokens ++ []) None) (append-nil (printed x).text) cut))
    (p.spells 1 (inl (omega arith)))
