-- The lexemes of nodes tell of these nodes.
use Rattle.std.proofs.Common.{append_assoc, append-nil, ◌≡◌, ◌⊎◌, ℕ, suc, ◌+◌, ◌<◌, ◌≤◌, ◌^◌, Bool, true, false, not, ◌&&◌, List, [], ◌∷◌, ◌++◌, length, refl, sym, ap, ◌∙◌, arith, subst, length-append, inl, inr}
use Rattle.std.specs.Prelude.{codes, encode_utf8_all, if◌then◌else◌}
use Rattle.std.specs.List.{flat_map}
use Rattle.std.proofs.lemmas.Str.{length-le-encodes}
use Rattle.stx_base.specs.declared.limits.Limits.{Limits}
use Rattle.stx_base.specs.declared.name.Attr.{Attr}
use Rattle.stx_base.specs.declared.name.Binding.{Binding}
use Rattle.xml_tokens.specs.Spelling.{SpellsLines, SpellsLiteral, itself, return_and_feed, return}
use Rattle.xml_tokens.specs.declared.lexeme.Body.{Body}
use Rattle.xml_tokens.specs.declared.lexeme.Body.TheVariants as body
use Rattle.xml_tokens.specs.declared.lexeme.RawAttr.{RawAttr}
use Rattle.xml_names.specs.Scope.{declared_on}
use Rattle.xml_names.specs.Tag.{declarations, into}
use Rattle.xml_events.specs.Before.{is_inside}
use Rattle.result_writer.specs.Escape.{escaped}
use Rattle.result_writer.specs.Nodes.{Nodes, End, Chars, CData, Comment, Instruction, Nested, expanded_tag, in_one, inside, is_end, plain, text_before, written}
use Rattle.result_writer.specs.Table.{attribute_prefix, prefixes, with_element, with_name}
use Rattle.result_writer.specs.Tag.{attribute, attributes, declaration, dressed, end_tag, open_tag, qname}
use Rattle.result_writer.specs.Target.{AreDistinct, cdata_text, comment_text, instruction_text}
use Rattle.result_writer.specs.declared.escape.Context.TheVariants.{Content}
use Rattle.result_writer.specs.declared.tag.HeldTag.{HeldTag}
use Rattle.read_back.specs.Laws.{ResolvesNames}
use Rattle.read_back.specs.Lexemes.{bodies, text_before as body_before, text_body}
use Rattle.read_back.specs.Read.{as_read, is_document, is_misc}
use Rattle.read_back.specs.Reading.{raw_attrs, read_data, written_name}
use Rattle.read_back.specs.Sound.{is_sound_tag}
use Rattle.read_back.proofs.Accepted.{IsAccepted}
use Rattle.read_back.proofs.Escaping.{escaped_longer}
use Rattle.read_back.proofs.Leaving.{encode_some}
use Rattle.read_back.proofs.Naming.{declared_last}
use Rattle.read_back.proofs.Pieces.{ArePieces, IsPiece, begins_chars}
use Rattle.read_back.proofs.Telling.{Gives, Names, chars_of, gives_comment, gives_element, gives_empty, gives_end, gives_instruction, gives_section, gives_text, size}

-- Sizes

-- no tag has more attributes than are counted
abbrev pub IsSmall : Nodes → Type 0
IsSmall End = Unit {0}
IsSmall (Chars text next) = IsSmall next
IsSmall (CData text next) = IsSmall next
IsSmall (Comment text next) = IsSmall next
IsSmall (Instruction target text next) = IsSmall next
IsSmall (Nested tag kids next) = (length (in_one tag).attrs < 2 ^ 64) × IsSmall kids × IsSmall next

attributes_longer : (table : List Binding) (attrs : List Attr) → length attrs ≤ length (attributes (prefixes table attrs) attrs)
attributes_longer table [] = omega arith
attributes_longer table (a ∷ attrs) =
    let first = attribute (attribute_prefix table a.name) a in
    let rest = attributes (prefixes (with_name table a.name) attrs) attrs in
    let later : length attrs ≤ length rest = attributes_longer (with_name table a.name) attrs in
    let some : 1 ≤ length first = omega arith in
    let whole : length (first ++ rest) ≡ length first + length rest = length-append first rest in
    let all : length attrs + 1 ≤ length (first ++ rest) = omega (arith, later, some, whole) in
    longer (length attrs) (length (first ++ rest)) all where
      longer : (n m : ℕ) → n + 1 ≤ m → suc n ≤ m
      longer n m h = omega (arith, h)

tag_longer : (in_force : List Binding) (tag : HeldTag) → length tag.attrs ≤ length (open_tag tag (dressed in_force tag))
tag_longer in_force tag =
    let front = codes "<" ++ qname tag.name.prefix tag.name.local ++ flat_map declaration (dressed in_force tag).declared in
    let attrs = attributes (prefixes (with_element tag.name) tag.attrs) tag.attrs in
    omega (arith, attributes_longer (with_element tag.name) tag.attrs, length-append front attrs)

pub behind_less : (xs ys : List ℕ) (n : ℕ) → length (xs ++ ys) < n → (length xs < n) × (length ys < n)
behind_less xs ys n h = (omega (arith, length-append xs ys, h), omega (arith, length-append xs ys, h))

pub small : (in_force : List Binding) (nodes : Nodes) → length (written in_force nodes) < 2 ^ 64 → IsSmall nodes
small in_force End h = tt
small in_force (Chars text next) h = small in_force next (behind_less (escaped Content (encode_utf8_all text)) (written in_force next) (2 ^ 64) h).1
small in_force (CData text next) h = small in_force next (behind_less (cdata_text text) (written in_force next) (2 ^ 64) h).1
small in_force (Comment text next) h = small in_force next (behind_less (comment_text text) (written in_force next) (2 ^ 64) h).1
small in_force (Instruction target text next) h = small in_force next (behind_less (instruction_text target text) (written in_force next) (2 ^ 64) h).1
small in_force (Nested tag kids next) h =
    let t = in_one tag in
    let start = open_tag t (dressed in_force t) in
    let kid = written (inside in_force t) kids in
    let end = end_tag tag.name.prefix tag.name.local in
    let middle = if is_end kids then codes "/>" else codes ">" ++ kid ++ end in
    let parts = behind_less (start ++ middle) (written in_force next) (2 ^ 64) h in
    let two = behind_less start middle (2 ^ 64) parts.0 in (
      less (length t.attrs) (length start) (tag_longer in_force t) two.0,
      by_end (is_end kids) refl (λ l. small (inside in_force t) kids l) two.1,
      small in_force next parts.1,
    ) where
      less : (n m : ℕ) → n ≤ m → m < 2 ^ 64 → n < 2 ^ 64
      less n m h k = omega (arith, h, k)

      of_end : (nodes : Nodes) → is_end nodes ≡ true → IsSmall nodes
      of_end End e = tt
      of_end (Chars text next) e = absurd cc
      of_end (CData text next) e = absurd cc
      of_end (Comment text next) e = absurd cc
      of_end (Instruction target text next) e = absurd cc
      of_end (Nested tag kids next) e = absurd cc

      by_end : (e : Bool) → is_end kids ≡ e → (length (written (inside in_force (in_one tag)) kids) < 2 ^ 64 → IsSmall kids)
          → length (if e then codes "/>" else codes ">" ++ written (inside in_force (in_one tag)) kids ++ end_tag tag.name.prefix tag.name.local) < 2 ^ 64 → IsSmall kids
      by_end true e again h = of_end kids e
      by_end false e again h =
          let kid = written (inside in_force (in_one tag)) kids in
          again (behind_less (62 ∷ []) kid (2 ^ 64) (behind_less (62 ∷ kid) (end_tag tag.name.prefix tag.name.local) (2 ^ 64) h).0).1

-- Texts that aren't too long

lines_longer : (text bytes : List ℕ) → SpellsLines text bytes → length text ≤ length bytes
lines_longer [] bytes h = omega arith
lines_longer (c ∷ text) bytes h =
    let later = lines_longer text h.1 h.4 in
    let whole : length bytes ≡ length h.0 + length h.1 = ap length h.3 ∙ length-append h.0 h.1 in
    omega (arith, later, whole, some c h.0 h.1 h.2) where
      some : (c : ℕ) (front more : List ℕ) → SpellsLiteral c front more → 1 ≤ length front
      some _ _ _ (itself c more char ne) = encode_some c
      some _ _ _ (return_and_feed more) = omega arith
      some _ _ _ (return more other) = omega arith

piece_size : (b : Body) (front : List ℕ) → IsPiece b front → chars_of b ≤ length front
piece_size (body.Chars text blank) front h =
    let bytes : length front ≡ length (escaped Content (encode_utf8_all text)) = ap length h.2 in
    omega (arith, bytes, length-le-encodes text, escaped_longer (encode_utf8_all text))
piece_size (body.CData text) front h =
    let inner = h.0.0 in
    let whole : length front ≡ length (codes "<![CDATA[" ++ (inner ++ codes "]]>")) = ap length h.0.3 in
    omega (arith, whole, lines_longer text inner h.0.1, length-append inner (codes "]]>"))
piece_size (body.Start name attrs empty) front h = omega arith
piece_size (body.End name) front h = omega arith
piece_size (body.Comment text) front h = omega arith
piece_size (body.Pi target text) front h = omega arith
piece_size body.Doctype front h = omega arith
piece_size body.Declaration front h = omega arith

pub pieces_size : (bs : List Body) (bytes : List ℕ) → ArePieces bs bytes → size bs ≤ length bytes
pieces_size [] bytes h = omega arith
pieces_size (b ∷ bs) bytes h =
    let whole : length bytes ≡ length h.0 + length h.1 = ap length h.2 ∙ length-append h.0 h.1 in
    omega (arith, whole, piece_size b h.0 h.3, pieces_size bs h.1 h.5)

-- Texts before nodes and lexemes

-- two texts before nodes are one
texts_join : (c : ℕ) (cs more : List ℕ) (n : Nodes) → text_before (c ∷ cs) (text_before more n) ≡ text_before (c ∷ cs ++ more) n
texts_join c cs [] n = ap (λ l. text_before (c ∷ l) n) (sym (append-nil cs))
texts_join c cs (d ∷ ds) End = refl
texts_join c cs (d ∷ ds) (Chars later next) = ap (λ l. Chars (c ∷ l) next) (sym (append_assoc cs (d ∷ ds) later))
texts_join c cs (d ∷ ds) (CData later next) = refl
texts_join c cs (d ∷ ds) (Comment later next) = refl
texts_join c cs (d ∷ ds) (Instruction target later next) = refl
texts_join c cs (d ∷ ds) (Nested tag kids next) = refl

read_before : (cdata : Bool) (text : List ℕ) (n : Nodes) → as_read cdata (text_before text n) ≡ text_before text (as_read cdata n)
read_before cdata [] n = refl
read_before cdata (c ∷ cs) End = refl
read_before cdata (c ∷ cs) (Chars more next) = sym (texts_join c cs more (as_read cdata next))
read_before cdata (c ∷ cs) (CData more next) = refl
read_before cdata (c ∷ cs) (Comment more next) = refl
read_before cdata (c ∷ cs) (Instruction target more next) = refl
read_before cdata (c ∷ cs) (Nested tag kids next) = refl

pub body_alone : (c : ℕ) (cs : List ℕ) (bs : List Body) → begins_chars bs ≡ false → body_before (c ∷ cs) bs ≡ text_body (c ∷ cs) ∷ bs
body_alone c cs [] h = refl
body_alone c cs (body.Chars text blank ∷ bs) h = absurd cc
body_alone c cs (body.CData text ∷ bs) h = refl
body_alone c cs (body.Start name attrs empty ∷ bs) h = refl
body_alone c cs (body.End name ∷ bs) h = refl
body_alone c cs (body.Comment text ∷ bs) h = refl
body_alone c cs (body.Pi target text ∷ bs) h = refl
body_alone c cs (body.Doctype ∷ bs) h = refl
body_alone c cs (body.Declaration ∷ bs) h = refl

end_is : (nodes : Nodes) → is_end nodes ≡ true → nodes ≡ End
end_is End e = refl
end_is (Chars text next) e = absurd cc
end_is (CData text next) e = absurd cc
end_is (Comment text next) e = absurd cc
end_is (Instruction target text next) e = absurd cc
end_is (Nested tag kids next) e = absurd cc

-- Nodes

module _ (limits : Limits) (cdata : Bool) (resolve : ResolvesNames) (limit : ℕ) (deep : limit ≤ limits.depth) where
  -- lexemes that begin with no text, or a text and then such ones
  abbrev Says : (first : List ℕ) (others : List (List ℕ)) (path : List (List Binding)) → List Body → Nodes → Type 0
  Says first others path bs n =
      ((begins_chars bs ≡ false) × ((k : ℕ) → Gives limits cdata (first ∷ others) path true k bs n))
      ⊎ ((text : List ℕ) × (later : List Body) × (next : Nodes) × (bs ≡ text_body text ∷ later) × (n ≡ text_before text next) × (begins_chars later ≡ false)
      × ((k : ℕ) → Gives limits cdata (first ∷ others) path true k later next))

  module _ (first : List ℕ) (others : List (List ℕ)) (path : List (List Binding)) where
    pub gives : (bs : List Body) (n : Nodes) → Says first others path bs n → (k : ℕ) → Gives limits cdata (first ∷ others) path true k bs n
    gives bs n (inl h) k = h.1 k
    gives bs n (inr h) k =
        subst (λ l. Gives limits cdata (first ∷ others) path true k l n) (sym h.3)
        (subst (λ m. Gives limits cdata (first ∷ others) path true k (text_body h.0 ∷ h.1) m) (sym h.4)
        (gives_text limits cdata first others path k h.0 _ h.1 h.2 h.6))

    text_says : (text : List ℕ) (bs : List Body) (n : Nodes) → Says first others path bs n → Says first others path (body_before text bs) (text_before text n)
    text_says [] bs n h = h
    text_says (c ∷ cs) bs n (inl h) = inr (c ∷ cs, bs, n, body_alone c cs bs h.0, refl, h.0, h.1)
    text_says (c ∷ cs) bs n (inr h) = inr (c ∷ cs ++ h.0, h.1, h.2, ap (body_before (c ∷ cs)) h.3, ap (text_before (c ∷ cs)) h.4 ∙ texts_join c cs h.0 h.2, h.5, h.6)

  -- what a start tag says
  module _ (path : List (List Binding)) (tag : HeldTag) (sound : is_sound_tag (in_one tag) ≡ true) (distinct : AreDistinct (in_one tag).attrs) (few : length (in_one tag).attrs < 2 ^ 64) where
    abbrev pub word : List ℕ
    word = written_name tag.name.prefix tag.name.local

    abbrev pub raw : List RawAttr
    raw = raw_attrs (dressed (declared_on path) (in_one tag)) (in_one tag).attrs

    pub names_are : Names limits cdata path word raw (in_one tag)
    names_are = let r = resolve path (in_one tag) sound distinct few in record { fault = r.0; name = r.1; attrs = r.2 }

    pub path_is : declared_on (into path raw) ≡ inside (declared_on path) (in_one tag)
    path_is =
        let r = resolve path (in_one tag) sound distinct few in
        declared_last path (declarations raw) ∙ ap (λ l. declared_on path ++ l) r.3

  deeper : (n : ℕ) → n < limit → n < limits.depth
  deeper n h = omega (arith, h, deep)

  -- an element, with its kids and what follows it
  element : (names : List (List ℕ)) (path : List (List Binding)) (r : Bool) (k : ℕ) (tag : HeldTag) (kids : Nodes)
      (sound : is_sound_tag (in_one tag) ≡ true) (distinct : AreDistinct (in_one tag).attrs) (few : length (in_one tag).attrs < 2 ^ 64)
      → (r && not (is_inside names)) ≡ false → length names < limits.depth
      → Gives limits cdata (word path tag sound distinct few ∷ names) (into path (raw path tag sound distinct few)) true 0 (bodies (declared_on (into path (raw path tag sound distinct few))) kids) (as_read cdata (plain kids))
      → (bs : List Body) (n : Nodes) → Gives limits cdata names path true 0 bs n
      → Gives limits cdata names path r k
      (body.Start (word path tag sound distinct few) (raw path tag sound distinct few) (is_end kids)
      ∷ ((if is_end kids then [] else bodies (inside (declared_on path) (in_one tag)) kids ++ body.End (word path tag sound distinct few) ∷ []) ++ bs))
      (Nested (expanded_tag (in_one tag)) (as_read cdata (plain kids)) n)
  element names path r k tag kids sound distinct few free room kid bs n later = by_end (is_end kids) refl where
    by_end : (e : Bool) → is_end kids ≡ e
        → Gives limits cdata names path r k
        (body.Start (word path tag sound distinct few) (raw path tag sound distinct few) e
        ∷ ((if e then [] else bodies (inside (declared_on path) (in_one tag)) kids ++ body.End (word path tag sound distinct few) ∷ []) ++ bs))
        (Nested (expanded_tag (in_one tag)) (as_read cdata (plain kids)) n)
    by_end true e =
        let none : as_read cdata (plain kids) ≡ End = ap (λ x. as_read cdata (plain x)) (end_is kids e) in
        subst (λ m. Gives limits cdata names path r k (body.Start (word path tag sound distinct few) (raw path tag sound distinct few) true ∷ bs) (Nested (expanded_tag (in_one tag)) m n)) (sym none)
        (gives_empty limits cdata names path r k (word path tag sound distinct few) (raw path tag sound distinct few) (in_one tag) (names_are path tag sound distinct few) free room bs n later)
    by_end false e =
        gives_element limits cdata names path r k (word path tag sound distinct few) (raw path tag sound distinct few) (in_one tag) (names_are path tag sound distinct few) free room
        (bodies (inside (declared_on path) (in_one tag)) kids) bs (as_read cdata (plain kids)) n
        (subst (λ l. Gives limits cdata (word path tag sound distinct few ∷ names) (into path (raw path tag sound distinct few)) true 0 (bodies l kids) (as_read cdata (plain kids))) (path_is path tag sound distinct few) kid)
        later

  pub says : (first : List ℕ) (others : List (List ℕ)) (path : List (List Binding)) (nodes : Nodes) → IsAccepted limit (length (first ∷ others)) nodes → IsSmall nodes
      → Says first others path (bodies (declared_on path) nodes) (as_read cdata (plain nodes))
  says first others path End h s = inl (refl, λ k. gives_end limits cdata (first ∷ others) path k)
  says first others path (Chars text next) h s =
      subst (Says first others path (body_before text (bodies (declared_on path) next))) (sym (read_before cdata text (plain next)))
      (text_says first others path text (bodies (declared_on path) next) (as_read cdata (plain next)) (says first others path next h.1 s))
  says first others path (CData text next) h s =
      let later = gives first others path (bodies (declared_on path) next) (as_read cdata (plain next)) (says first others path next h.1 s) in
      inl (refl, λ k. gives_section limits cdata first others path k text (bodies (declared_on path) next) (as_read cdata (plain next)) later)
  says first others path (Comment text next) h s =
      let later = gives first others path (bodies (declared_on path) next) (as_read cdata (plain next)) (says first others path next h.1 s) in
      inl (refl, λ k. gives_comment limits cdata (first ∷ others) path true k text (bodies (declared_on path) next) (as_read cdata (plain next)) (later 0))
  says first others path (Instruction target text next) h s =
      let later = gives first others path (bodies (declared_on path) next) (as_read cdata (plain next)) (says first others path next h.1 s) in
      inl (refl, λ k. gives_instruction limits cdata (first ∷ others) path true k target (read_data text) (bodies (declared_on path) next) (as_read cdata (plain next)) (later 0))
  says first others path (Nested tag kids next) h s =
      let name = word path tag h.0 h.1 s.0 in
      let inner = into path (raw path tag h.0 h.1 s.0) in
      let later = gives first others path (bodies (declared_on path) next) (as_read cdata (plain next)) (says first others path next h.4 s.2) in
      let kid = gives name (first ∷ others) inner (bodies (declared_on inner) kids) (as_read cdata (plain kids)) (says name (first ∷ others) inner kids h.3 s.1) in
      inl (refl, λ k. element (first ∷ others) path true k tag kids h.0 h.1 s.0 refl (deeper (length (first ∷ others)) h.2) (kid 0) (bodies (declared_on path) next) (as_read cdata (plain next)) (later 0))

  -- A whole document

  -- what may still follow outside the root, where it was read or not
  abbrev pub may_follow : (rooted : Bool) → Nodes → Bool
  may_follow false n = is_document n
  may_follow true n = is_misc n

  no_text : (r : Bool) (c : ℕ) (cs : List ℕ) (n : Nodes) → may_follow r (text_before (c ∷ cs) n) ≡ false
  no_text false c cs End = refl
  no_text false c cs (Chars more next) = refl
  no_text false c cs (CData more next) = refl
  no_text false c cs (Comment more next) = refl
  no_text false c cs (Instruction target more next) = refl
  no_text false c cs (Nested tag kids next) = refl
  no_text true c cs End = refl
  no_text true c cs (Chars more next) = refl
  no_text true c cs (CData more next) = refl
  no_text true c cs (Comment more next) = refl
  no_text true c cs (Instruction target more next) = refl
  no_text true c cs (Nested tag kids next) = refl

  comment_follows : (r : Bool) (text : List ℕ) (n : Nodes) → may_follow r (Comment text n) ≡ true → may_follow r n ≡ true
  comment_follows false text n h = h
  comment_follows true text n h = h

  instruction_follows : (r : Bool) (target text : List ℕ) (n : Nodes) → may_follow r (Instruction target text n) ≡ true → may_follow r n ≡ true
  instruction_follows false target text n h = h
  instruction_follows true target text n h = h

  no_section : (r : Bool) (text : List ℕ) (n : Nodes) → may_follow r (CData text n) ≡ true → ⊥
  no_section false text n h = absurd cc
  no_section true text n h = absurd cc

  -- outside the root
  pub outside : (r : Bool) (nodes : Nodes) → IsAccepted limit 0 nodes → IsSmall nodes → may_follow r (plain nodes) ≡ true
      → (begins_chars (bodies [] nodes) ≡ false) × ((k : ℕ) → Gives limits cdata [] [] r k (bodies [] nodes) (as_read cdata (plain nodes)))
  outside false End h s f = absurd cc
  outside true End h s f = (refl, λ k. gives_end limits cdata [] [] k)
  outside r (Chars [] next) h s f = outside r next h.1 s f
  outside r (Chars (c ∷ cs) next) h s f = absurd (let clash : true ≡ false = sym f ∙ no_text r c cs (plain next) in cc)
  outside r (CData text next) h s f = absurd (no_section r text (plain next) f)
  outside r (Comment text next) h s f =
      let later = outside r next h.1 s (comment_follows r text (plain next) f) in
      (refl, λ k. gives_comment limits cdata [] [] r k text (bodies [] next) (as_read cdata (plain next)) (later.1 0))
  outside r (Instruction target text next) h s f =
      let later = outside r next h.1 s (instruction_follows r target text (plain next) f) in
      (refl, λ k. gives_instruction limits cdata [] [] r k target (read_data text) (bodies [] next) (as_read cdata (plain next)) (later.1 0))
  outside true (Nested tag kids next) h s f = absurd cc
  outside false (Nested tag kids next) h s f =
      let name = word [] tag h.0 h.1 s.0 in
      let inner = into [] (raw [] tag h.0 h.1 s.0) in
      let later = outside true next h.4 s.2 f in
      let kid = gives name [] inner (bodies (declared_on inner) kids) (as_read cdata (plain kids)) (says name [] inner kids h.3 s.1) in
      (refl, λ k. element [] [] false k tag kids h.0 h.1 s.0 refl (deeper 0 h.2) (kid 0) (bodies [] next) (as_read cdata (plain next)) (later.1 0))
