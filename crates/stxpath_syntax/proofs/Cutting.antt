-- The piece at the front of a template, and the pieces behind one another.
use Rattle.std.proofs.Common.{◌≡◌, ◌≢◌, ℕ, ◌+◌, ◌<◌, Bool, true, false, cond, nat_eq, List, [], ◌∷◌, ◌++◌, Some, None, Option, Ok, Err, length, take, drop, sym, ◌∙◌, refl, ap, subst, append_assoc, arith, lit<}
use Rattle.std.specs.Option.{option_map}
use Rattle.std.proofs.lemmas.Bool.{false≢true}
use Rattle.std.proofs.lemmas.Bool.Decides.{nat_tests}
use Rattle.std.proofs.lemmas.List.{length-append, length-drop, take_at, drop_at}
use Rattle.stx_base.specs.declared.name.Binding.{Binding}
use Rattle.stxpath_syntax.specs.declared.dialect.Dialect.{Dialect}
use Rattle.stxpath_syntax.specs.declared.avt.Cut.{Cut}
use Rattle.stxpath_syntax.specs.declared.avt.Piece.{Piece}
use Rattle.stxpath_syntax.specs.declared.avt.Piece.TheVariants as piece
use Rattle.stxpath_syntax.specs.declared.expr.AvtPart.{AvtPart}
use Rattle.stxpath_syntax.specs.declared.expr.AvtPart.TheVariants.{Value}
use Rattle.stxpath_syntax.specs.declared.expr.Expr.{Expr}
use Rattle.stxpath_syntax.specs.declared.fault.ParseFault.{ParseFault}
use Rattle.stxpath_syntax.specs.declared.fault.ParseFault.TheVariants as fault
use Rattle.stxpath_syntax.specs.declared.fault.PathFault.{PathFault}
use Rattle.stxpath_syntax.specs.Template.{Answers, Read, Template, closing, is_brace, with_char, with_value}
use Rattle.stxpath_syntax.specs.declared.fault.PathKind.TheVariants as kind
use Rattle.stxpath_syntax.specs.Grammar as grammar
use Rattle.stxpath_syntax.specs.Reading.{Gives, fault_of}
use Rattle.stxpath_syntax.specs.Templating.{Cuts, with_piece, flushed, with_chars, with_parts, Appended}
use Rattle.stxpath_syntax.specs.Tokens.{has_at, is_quote}

-- a template's rest, read whole, is the whole template's reading
abbrev pub Rests : Dialect → List Binding → List ℕ → List AvtPart → List ℕ → ℕ → List ℕ → Type 0
Rests dialect scope text parts plain at rest = (read : Read (List AvtPart)) → Template dialect scope at rest read → Template dialect scope 0 text (with_parts parts (with_chars plain read))

with_chars_push : (plain : List ℕ) (c : ℕ) (read : Read (List AvtPart)) → with_chars (plain ++ c ∷ []) read ≡ with_chars plain (with_char c read)
with_chars_push [] c read = refl
with_chars_push (p ∷ plain) c read = ap (with_char p) (with_chars_push plain c read)

chars_fault : (plain : List ℕ) (why : PathFault) → with_chars plain (Err why) ≡ Err why
chars_fault [] why = refl
chars_fault (c ∷ plain) why = ap (with_char c) (chars_fault plain why)

chars_end : (plain : List ℕ) → with_chars plain (Ok []) ≡ Ok (flushed plain)
chars_end [] = refl
chars_end (c ∷ []) = refl
chars_end (c ∷ d ∷ plain) = ap (with_char c) (chars_end (d ∷ plain))

chars_value : (plain : List ℕ) (value : Expr) (parts : List AvtPart) → with_chars plain (Ok (Value value ∷ parts)) ≡ Ok (flushed plain ++ Value value ∷ parts)
chars_value [] value parts = refl
chars_value (c ∷ []) value parts = refl
chars_value (c ∷ d ∷ plain) value parts = ap (with_char c) (chars_value (d ∷ plain) value parts)

behind_value : (before : List AvtPart) (plain : List ℕ) (value : Expr) (read : Read (List AvtPart))
    → with_parts (before ++ flushed plain ++ Value value ∷ []) read ≡ with_parts before (with_chars plain (with_value value read))
behind_value before plain value (Ok parts) =
    ap Ok (append_assoc (before ++ flushed plain) (Value value ∷ []) parts ∙ append_assoc before (flushed plain) (Value value ∷ parts))
    ∙ ap (with_parts before) (sym (chars_value plain value parts))
behind_value before plain value (Err why) = ap (with_parts before) (sym (chars_fault plain why))

-- one piece more
pub one_piece : (dialect : Dialect) (scope : List Binding) (text : List ℕ) (before after : List AvtPart) (plain chars : List ℕ) (p : Piece) (at len : ℕ) (rest : List ℕ)
    → Rests dialect scope text before plain at rest
    → ((read : Read (List AvtPart)) → Template dialect scope (at + len) (drop len rest) read → Template dialect scope at rest (with_piece p read))
    → Appended before plain p after chars → Rests dialect scope text after chars (at + len) (drop len rest)
one_piece dialect scope text before after plain chars (piece.Plain c) at len rest inv cut (e, f) = λ read h.
    let same : with_parts after (with_chars chars read) ≡ with_parts before (with_chars plain (with_char c read))
    = ap (λ b. with_parts b (with_chars chars read)) e ∙ ap (λ p. with_parts before (with_chars p read)) f ∙ ap (with_parts before) (with_chars_push plain c read) in
    subst (λ r. Template dialect scope 0 text r) (sym same) (inv (with_char c read) (cut read h))
one_piece dialect scope text before after plain chars (piece.Value value) at len rest inv cut (e, f) = λ read h.
    let same : with_parts after (with_chars chars read) ≡ with_parts before (with_chars plain (with_value value read))
    = ap (λ b. with_parts b (with_chars chars read)) e ∙ ap (λ p. with_parts (before ++ flushed plain ++ Value value ∷ []) (with_chars p read)) f
    ∙ behind_value before plain value read in
    subst (λ r. Template dialect scope 0 text r) (sym same) (inv (with_value value read) (cut read h))

pub piece_fault : (dialect : Dialect) (scope : List Binding) (text : List ℕ) (before : List AvtPart) (plain : List ℕ) (at : ℕ) (rest : List ℕ) (why : PathFault)
    → Rests dialect scope text before plain at rest → Template dialect scope at rest (Err why) → Template dialect scope 0 text (Err why)
piece_fault dialect scope text before plain at rest why inv h = subst (λ r. Template dialect scope 0 text r) (ap (with_parts before) (chars_fault plain why)) (inv (Err why) h)

pub piece_error : (dialect : Dialect) (scope : List Binding) (text : List ℕ) (before : List AvtPart) (plain : List ℕ) (at : ℕ) (rest behind : List ℕ) (c : ℕ) (e : ParseFault)
    → Rests dialect scope text before plain at rest → rest ≡ c ∷ behind → Cuts dialect scope at (c ∷ behind) (Err e) → Answers (Template dialect scope 0 text) (Err e)
piece_error dialect scope text before plain at rest behind c (fault.Path f) inv is h =
    piece_fault dialect scope text before plain at rest f inv (subst (λ rest. Template dialect scope at rest (Err f)) (sym is) h)
piece_error dialect scope text before plain at rest behind c fault.Memory inv is h = tt

pub piece_end : (dialect : Dialect) (scope : List Binding) (text : List ℕ) (before : List AvtPart) (plain : List ℕ) (at : ℕ) (rest : List ℕ)
    → Rests dialect scope text before plain at rest → rest ≡ [] → Template dialect scope 0 text (Ok (before ++ flushed plain))
piece_end dialect scope text before plain at rest inv e =
    let end : Template dialect scope at rest (Ok []) = subst (λ rest. Template dialect scope at rest (Ok [])) (sym e) (Template.end at) in
    subst (λ r. Template dialect scope 0 text r) (ap (with_parts before) (chars_end plain)) (inv (Ok []) end)

-- ---- the piece at the front

eq_true : (n k : ℕ) → nat_eq n k ≡ true → n ≡ k
eq_true n k e = grind (arith, nat_tests)

pub cut_plain : (dialect : Dialect) (scope : List Binding) (at c : ℕ) (cs : List ℕ) → is_brace c ≡ false → Cuts dialect scope at (c ∷ cs) (Ok (record { piece = piece.Plain c; len = 1 }))
cut_plain dialect scope at c cs e = (lit< tt, omega arith, λ parts h. Template.plain at c e h)

pub cut_double : (dialect : Dialect) (scope : List Binding) (at c : ℕ) (cs : List ℕ) → is_brace c ≡ true → has_at (λ x. nat_eq x c) 0 cs ≡ true
    → Cuts dialect scope at (c ∷ cs) (Ok (record { piece = piece.Plain c; len = 2 }))
cut_double dialect scope at c [] e f = absurd (false≢true f)
cut_double dialect scope at c (d ∷ cs) e f =
    let same : d ≡ c = eq_true d c f in
    subst (λ d. Cuts dialect scope at (c ∷ d ∷ cs) (Ok (record { piece = piece.Plain c; len = 2 }))) (sym same)
    (lit< tt, omega arith, λ parts h. Template.doubled at c e h)

not_next : (c : ℕ) (cs rest : List ℕ) → has_at (λ x. nat_eq x c) 0 cs ≡ false → cs ≢ c ∷ rest
not_next c [] rest f e = cc
not_next c (d ∷ cs) rest f e =
    let same : d ≡ c = cc in
    let yes : nat_eq d c ≡ true = grind (arith, nat_tests) in
    false≢true (sym f ∙ yes)

pub cut_lone : (dialect : Dialect) (scope : List Binding) (at : ℕ) (cs : List ℕ) → has_at (λ x. nat_eq x 125) 0 cs ≡ false → Template dialect scope at (125 ∷ cs) (fault_of kind.Syntax at)
cut_lone dialect scope at cs f = Template.lone at cs (λ rest. not_next 125 cs rest f)

pub cut_unended : (dialect : Dialect) (scope : List Binding) (at : ℕ) (cs : List ℕ) → has_at (λ x. nat_eq x 123) 0 cs ≡ false → closing None cs ≡ None
    → Template dialect scope at (123 ∷ cs) (fault_of kind.Syntax at)
cut_unended dialect scope at cs f e = Template.unended at cs (λ rest. not_next 123 cs rest f) e

-- the expression's characters, and what follows its brace
record Inner (cs : List ℕ) (n : ℕ) : Type 0 where
  inner : List ℕ
  rest : List ℕ
  are : cs ≡ inner ++ 125 ∷ rest
  is_long : length inner ≡ n

inner_more : (c : ℕ) (cs : List ℕ) (quote : Option ℕ) (o : Option ℕ) (n : ℕ) → closing quote cs ≡ o → option_map (λ n. n + 1) o ≡ Some n
    → ((m : ℕ) → closing quote cs ≡ Some m → Inner cs m) → Inner (c ∷ cs) n
inner_more c cs quote None n e f ih = cc
inner_more c cs quote (Some m) n e f ih =
    let i = ih m e in
    let next : m + 1 ≡ n = cc in
    record { inner = c ∷ i.inner; rest = i.rest; are = ap (λ cs. c ∷ cs) i.are; is_long = omega (arith, i.is_long, next) }

inner_by : (cs : List ℕ) (c : ℕ) (b : Bool) (quote : Option ℕ) (n : ℕ) → nat_eq c 125 ≡ b → cond b (Some 0) (option_map (λ n. n + 1) (closing quote cs)) ≡ Some n
    → ((m : ℕ) → closing quote cs ≡ Some m → Inner cs m) → Inner (c ∷ cs) n
inner_by cs c true quote n e f ih =
    let first : c ≡ 125 = eq_true c 125 e in
    let zero : 0 ≡ n = cc in
    record { inner = []; rest = cs; are = ap (λ c. c ∷ cs) first; is_long = zero }
inner_by cs c false quote n e f ih = inner_more c cs quote (closing quote cs) n refl f ih

inner_at : (cs : List ℕ) (quote : Option ℕ) (n : ℕ) → closing quote cs ≡ Some n → Inner cs n
inner_at [] None n e = cc
inner_at [] (Some q) n e = cc
inner_at (c ∷ cs) None n e =
    let quote : Option ℕ = cond (is_quote c) (Some c) None in
    inner_by cs c (nat_eq c 125) quote n refl e (λ m e. inner_at cs quote m e)
inner_at (c ∷ cs) (Some q) n e =
    let quote : Option ℕ = cond (nat_eq c q) None (Some q) in
    inner_more c cs quote (closing quote cs) n refl e (λ m e. inner_at cs quote m e)

pub closing_within : (cs : List ℕ) (n : ℕ) → closing None cs ≡ Some n → n < length cs
closing_within cs n e =
    let i = inner_at cs None n e in
    omega (arith, ap length i.are, length-append i.inner (125 ∷ i.rest), i.is_long)

template_at : (dialect : Dialect) (scope : List Binding) (at place : ℕ) (rest left : List ℕ) (read : Read (List AvtPart)) → at ≡ place → rest ≡ left
    → Template dialect scope at rest read → Template dialect scope place left read
template_at dialect scope at place rest left read e f h =
    subst (λ at. Template dialect scope at left read) e (subst (λ rest. Template dialect scope at rest read) f h)

not_brace : (inner rest : List ℕ) → has_at (λ c. nat_eq c 123) 0 (inner ++ 125 ∷ rest) ≡ false → (left : List ℕ) → inner ≢ 123 ∷ left
not_brace inner rest f left e = not_next 123 (inner ++ 125 ∷ rest) (left ++ 125 ∷ rest) f (ap (λ cs. cs ++ 125 ∷ rest) e)

behind_brace : (inner rest : List ℕ) → drop (length inner + 2) (123 ∷ (inner ++ 125 ∷ rest)) ≡ rest
behind_brace inner rest =
    let front = 123 ∷ (inner ++ 125 ∷ []) in
    let long : length front ≡ length inner + 2 = omega (arith, length-append inner (125 ∷ [])) in
    ap (λ cs. drop (length inner + 2) (123 ∷ cs)) (sym (append_assoc inner (125 ∷ []) rest)) ∙ drop_at front rest (length inner + 2) long

value_at : (dialect : Dialect) (scope : List Binding) (at : ℕ) (inner rest : List ℕ) (x : Expr) → has_at (λ c. nat_eq c 123) 0 (inner ++ 125 ∷ rest) ≡ false
    → closing None (inner ++ 125 ∷ rest) ≡ Some (length inner) → Gives (grammar.Spells dialect scope 1) (at + 1) inner (Ok x)
    → Cuts dialect scope at (123 ∷ (inner ++ 125 ∷ rest)) (Ok (record { piece = piece.Value x; len = length inner + 2 }))
value_at dialect scope at inner rest x f e g = (
  omega arith,
  omega (arith, length-append inner (125 ∷ rest)),
  λ parts h.
      let place : at + (length inner + 2) ≡ at + length inner + 2 = omega arith in
      Template.value at inner rest x (not_brace inner rest f) e g (template_at dialect scope _ _ _ rest parts place (behind_brace inner rest) h),
)

pub cut_value : (dialect : Dialect) (scope : List Binding) (at n : ℕ) (cs : List ℕ) (x : Expr) → has_at (λ c. nat_eq c 123) 0 cs ≡ false → closing None cs ≡ Some n
    → Gives (grammar.Spells dialect scope 1) (at + 1) (take n cs) (Ok x) → Cuts dialect scope at (123 ∷ cs) (Ok (record { piece = piece.Value x; len = n + 2 }))
cut_value dialect scope at n cs x f e g = by (inner_at cs None n e)
  where
    by : Inner cs n → Cuts dialect scope at (123 ∷ cs) (Ok (record { piece = piece.Value x; len = n + 2 }))
    by i =
        let front : take n cs ≡ i.inner = ap (take n) i.are ∙ take_at i.inner (125 ∷ i.rest) n i.is_long in
        let all = value_at dialect scope at i.inner i.rest x (ap (has_at (λ c. nat_eq c 123) 0) (sym i.are) ∙ f)
        (ap (closing None) (sym i.are) ∙ e ∙ ap Some (sym i.is_long)) (subst (λ cs. Gives (grammar.Spells dialect scope 1) (at + 1) cs (Ok x)) front g) in
        subst (λ cs. Cuts dialect scope at (123 ∷ cs) (Ok (record { piece = piece.Value x; len = n + 2 }))) (sym i.are)
        (subst (λ n. Cuts dialect scope at (123 ∷ (i.inner ++ 125 ∷ i.rest)) (Ok (record { piece = piece.Value x; len = n + 2 }))) i.is_long all)

pub cut_faulty : (dialect : Dialect) (scope : List Binding) (at n : ℕ) (cs : List ℕ) (why : PathFault) → has_at (λ c. nat_eq c 123) 0 cs ≡ false → closing None cs ≡ Some n
    → Gives (grammar.Spells dialect scope 1) (at + 1) (take n cs) (Err why) → Template dialect scope at (123 ∷ cs) (Err why)
cut_faulty dialect scope at n cs why f e g = by (inner_at cs None n e)
  where
    by : Inner cs n → Template dialect scope at (123 ∷ cs) (Err why)
    by i =
        let front : take n cs ≡ i.inner = ap (take n) i.are ∙ take_at i.inner (125 ∷ i.rest) n i.is_long in
        let same : closing None (i.inner ++ 125 ∷ i.rest) ≡ Some (length i.inner) = ap (closing None) (sym i.are) ∙ e ∙ ap Some (sym i.is_long) in
        subst (λ cs. Template dialect scope at (123 ∷ cs) (Err why)) (sym i.are)
        (Template.faulty at i.inner i.rest why (not_brace i.inner i.rest (ap (has_at (λ c. nat_eq c 123) 0) (sym i.are) ∙ f)) same
        (subst (λ cs. Gives (grammar.Spells dialect scope 1) (at + 1) cs (Err why)) front g))

open_brace : (c : ℕ) → is_brace c ≡ true → c ≢ 125 → c ≡ 123
open_brace c e ne = grind (arith, nat_tests)

pub lone_by : (dialect : Dialect) (scope : List Binding) (at c : ℕ) (cs : List ℕ) (why : ParseFault) → c ≡ 125 → why ≡ fault.Path (record { kind = kind.Syntax; place = at })
    → has_at (λ x. nat_eq x c) 0 cs ≡ false → Cuts dialect scope at (c ∷ cs) (Err why)
lone_by dialect scope at c cs why e f g =
    subst (λ why. Cuts dialect scope at (c ∷ cs) (Err why)) (sym f)
    (subst (λ c. Template dialect scope at (c ∷ cs) (fault_of kind.Syntax at)) (sym e) (cut_lone dialect scope at cs (subst (λ c. has_at (λ x. nat_eq x c) 0 cs ≡ false) e g)))

pub unended_by : (dialect : Dialect) (scope : List Binding) (at c : ℕ) (cs : List ℕ) (why : ParseFault) → is_brace c ≡ true → c ≢ 125
    → why ≡ fault.Path (record { kind = kind.Syntax; place = at }) → has_at (λ x. nat_eq x c) 0 cs ≡ false → closing None cs ≡ None → Cuts dialect scope at (c ∷ cs) (Err why)
unended_by dialect scope at c cs why b ne f g h =
    let e = open_brace c b ne in
    subst (λ why. Cuts dialect scope at (c ∷ cs) (Err why)) (sym f)
    (subst (λ c. Template dialect scope at (c ∷ cs) (fault_of kind.Syntax at)) (sym e) (cut_unended dialect scope at cs (subst (λ c. has_at (λ x. nat_eq x c) 0 cs ≡ false) e g) h))

pub value_by : (dialect : Dialect) (scope : List Binding) (at c n : ℕ) (cs : List ℕ) (x : Expr) → is_brace c ≡ true → c ≢ 125 → has_at (λ x. nat_eq x c) 0 cs ≡ false
    → closing None cs ≡ Some n → Gives (grammar.Spells dialect scope 1) (at + 1) (take n cs) (Ok x) → Cuts dialect scope at (c ∷ cs) (Ok (record { piece = piece.Value x; len = n + 2 }))
value_by dialect scope at c n cs x b ne g h r =
    let e = open_brace c b ne in
    subst (λ c. Cuts dialect scope at (c ∷ cs) (Ok (record { piece = piece.Value x; len = n + 2 }))) (sym e)
    (cut_value dialect scope at n cs x (subst (λ c. has_at (λ x. nat_eq x c) 0 cs ≡ false) e g) h r)

pub faulty_by : (dialect : Dialect) (scope : List Binding) (at c n : ℕ) (cs : List ℕ) (why : ParseFault) → is_brace c ≡ true → c ≢ 125 → has_at (λ x. nat_eq x c) 0 cs ≡ false
    → closing None cs ≡ Some n → Answers (Gives (grammar.Spells dialect scope 1) (at + 1) (take n cs)) (Err why) → Cuts dialect scope at (c ∷ cs) (Err why)
faulty_by dialect scope at c n cs (fault.Path f) b ne g h r =
    let e = open_brace c b ne in
    subst (λ c. Template dialect scope at (c ∷ cs) (Err f)) (sym e) (cut_faulty dialect scope at n cs f (subst (λ c. has_at (λ x. nat_eq x c) 0 cs ≡ false) e g) h r)
faulty_by dialect scope at c n cs fault.Memory b ne g h r = tt

pub rests_begin : (dialect : Dialect) (scope : List Binding) (text chars : List ℕ) → chars ≡ text → Rests dialect scope text [] [] 0 chars
rests_begin dialect scope text chars e (Ok parts) h = subst (λ t. Template dialect scope 0 t (Ok parts)) e h
rests_begin dialect scope text chars e (Err why) h = subst (λ t. Template dialect scope 0 t (Err why)) e h

no_rest : (cs : List ℕ) → length cs ≡ 0 → cs ≡ []
no_rest [] e = refl
no_rest (c ∷ cs) e = absurd (omega (arith, e))

pub piece_last : (dialect : Dialect) (scope : List Binding) (text : List ℕ) (before all : List AvtPart) (plain : List ℕ) (at : ℕ) (rest : List ℕ)
    → Rests dialect scope text before plain at rest → length rest ≡ 0 → all ≡ before ++ flushed plain → Template dialect scope 0 text (Ok all)
piece_last dialect scope text before all plain at rest inv e is =
    subst (λ parts. Template dialect scope 0 text (Ok parts)) (sym is) (piece_end dialect scope text before plain at rest inv (no_rest rest e))

pub pieces_on : (dialect : Dialect) (scope : List Binding) (text : List ℕ) (before after : List AvtPart) (plain chars : List ℕ) (at c : ℕ) (rest behind next : List ℕ) (cut : Cut)
    → Rests dialect scope text before plain at rest → at + length rest ≡ length text → rest ≡ c ∷ behind → Cuts dialect scope at (c ∷ behind) (Ok cut)
    → Appended before plain cut.piece after chars → next ≡ drop cut.len rest
    → Rests dialect scope text after chars (at + cut.len) next × (at + cut.len + length next ≡ length text)
pieces_on dialect scope text before after plain chars at c rest behind next cut inv total is h a n =
    let front : Cuts dialect scope at rest (Ok cut) = subst (λ rest. Cuts dialect scope at rest (Ok cut)) (sym is) h in (
      subst (λ rest. Rests dialect scope text after chars (at + cut.len) rest) (sym n) (one_piece dialect scope text before after plain chars cut.piece at cut.len rest inv front.2 a),
      omega (arith, total, front.1, ap length n, length-drop cut.len rest),
    )
