-- Nodes as they are written are pieces of which none runs into the next.
use Rattle.std.proofs.Common.{◌≡◌, ◌≢◌, ℕ, suc, Bool, true, false, ◌&&◌, List, [], ◌∷◌, ◌++◌, refl, sym, ap, ◌∙◌, subst, append_assoc}
use Rattle.std.specs.Prelude.{codes, encode_utf8_all, if◌then◌else◌}
use Rattle.std.specs.List.{list_all}
use Rattle.std.proofs.lemmas.Str.{encodes-append}
use Rattle.stx_base.specs.Character.{is_char, is_space}
use Rattle.stx_base.specs.declared.name.Binding.{Binding}
use Rattle.xml_tokens.specs.Cuts.{Cuts}
use Rattle.xml_tokens.specs.Spelling.{IsFollowed, SpelledLexemesAreRead, SpelledLexemesAreShapes, Spells}
use Rattle.xml_tokens.specs.declared.lexeme.Body.{Body}
use Rattle.xml_tokens.specs.declared.lexeme.Body.TheVariants as body
use Rattle.xml_tokens.specs.declared.lexeme.RawAttr.{RawAttr}
use Rattle.result_writer.specs.Allowed.{are_chars}
use Rattle.result_writer.specs.Escape.{escaped}
use Rattle.result_writer.specs.Nodes.{Nodes, End, Chars, CData, Comment, Instruction, Nested, in_one, inside, is_end, written}
use Rattle.result_writer.specs.Tag.{dressed, end_tag, open_tag}
use Rattle.result_writer.specs.Target.{cdata_text, comment_text, instruction_text}
use Rattle.result_writer.specs.declared.escape.Context.TheVariants.{Content}
use Rattle.result_writer.specs.declared.tag.HeldTag.{HeldTag}
use Rattle.read_back.specs.Laws.{DeclaresSound, WritesShapes}
use Rattle.read_back.specs.Lexemes.{AreJudged, bodies, text_before, text_body}
use Rattle.read_back.specs.Reading.{raw_attrs, written_name}
use Rattle.read_back.specs.Sound.{is_sound_tag}
use Rattle.read_back.proofs.Accepted.{IsAccepted, accepted}
use Rattle.read_back.proofs.Bytes.{IsText, all_append}
use Rattle.read_back.proofs.Declaring.{tag_is}
use Rattle.read_back.proofs.Escaping.{escaped-append, escaped_text}
use Rattle.read_back.proofs.Leaves.{content_spells, read_as}
use Rattle.read_back.proofs.Leaving.{comment_bytes, comment_spelled, instruction_bytes, instruction_spelled, section_spelled, section_text}
use Rattle.read_back.proofs.Tagging.{empty_spelled, empty_text, end_spelled, end_tag-is, end_text, good_name, open_tag-is, raw_sound, start_spelled, start_text}

-- Pieces

abbrev pub is_chars : Body → Bool
is_chars (body.Chars text blank) = true
is_chars other = false

abbrev pub begins_chars : List Body → Bool
begins_chars [] = false
begins_chars (b ∷ bs) = is_chars b

-- bytes that are written of a text, or that begin markup
abbrev pub IsPiece : Body → List ℕ → Type 0
IsPiece (body.Chars text blank) front =
    (text ≢ []) × (are_chars text ≡ true) × (front ≡ escaped Content (encode_utf8_all text)) × (blank ≡ list_all is_space (escaped Content (encode_utf8_all text)))
IsPiece other front = Spells false other front × IsText front × ((rest : List ℕ) × (front ≡ 60 ∷ rest))

-- bytes are these pieces, of which no two texts touch
abbrev pub ArePieces : List Body → List ℕ → Type 0
ArePieces [] bytes = bytes ≡ []
ArePieces (b ∷ bs) bytes = (front more : List ℕ) × (bytes ≡ front ++ more) × IsPiece b front × ((is_chars b && begins_chars bs) ≡ false) × ArePieces bs more

and_false : (t : Bool) → (t && false) ≡ false
and_false true = refl
and_false false = refl

begins_append : (as_ bs : List Body) → begins_chars as_ ≡ false → begins_chars bs ≡ false → begins_chars (as_ ++ bs) ≡ false
begins_append [] bs h k = k
begins_append (a ∷ as_) bs h k = h

pub pieces_append : (as_ bs : List Body) (xs ys : List ℕ) → ArePieces as_ xs → ArePieces bs ys → begins_chars bs ≡ false → ArePieces (as_ ++ bs) (xs ++ ys)
pieces_append [] bs xs ys h k f = subst (λ l. ArePieces bs (l ++ ys)) (sym h) k
pieces_append (a ∷ as_) bs xs ys h k f = (
  h.0,
  h.1 ++ ys,
  ap (λ l. l ++ ys) h.2 ∙ append_assoc h.0 h.1 ys,
  h.3,
  by_rest (is_chars a) as_ h.4,
  pieces_append as_ bs h.1 ys h.5 k f,
) where
  by_rest : (t : Bool) (cs : List Body) → (t && begins_chars cs) ≡ false → (t && begins_chars (cs ++ bs)) ≡ false
  by_rest false cs e = refl
  by_rest true cs e = begins_append cs bs e f

-- what follows pieces

less_first : (b : Body) (front : List ℕ) → is_chars b ≡ false → IsPiece b front → (rest : List ℕ) × (front ≡ 60 ∷ rest)
less_first (body.Chars text blank) front e h = absurd cc
less_first (body.CData text) front e h = h.2
less_first (body.Start name attrs empty) front e h = h.2
less_first (body.End name) front e h = h.2
less_first (body.Comment text) front e h = h.2
less_first (body.Pi target text) front e h = h.2
less_first body.Doctype front e h = h.2
less_first body.Declaration front e h = h.2

followed : (text : List ℕ) (blank : Bool) (bs : List Body) (more : List ℕ) → begins_chars bs ≡ false → ArePieces bs more → IsFollowed true (body.Chars text blank) more
followed text blank [] more e h = subst (IsFollowed true (body.Chars text blank)) (sym h) refl
followed text blank (b ∷ bs) more e h =
    let less = less_first b h.0 e h.3 in
    subst (IsFollowed true (body.Chars text blank)) (sym (h.2 ∙ ap (λ l. l ++ h.1) less.1)) refl

piece_spells : (b : Body) (front : List ℕ) → IsPiece b front → Spells false b front
piece_spells (body.Chars text blank) front h =
    subst (λ l. Spells false (body.Chars text blank) l) (sym h.2)
    (subst (λ t. Spells false (body.Chars text t) (escaped Content (encode_utf8_all text))) (sym h.3) (content_spells false text h.0 h.1))
piece_spells (body.CData text) front h = h.0
piece_spells (body.Start name attrs empty) front h = h.0
piece_spells (body.End name) front h = h.0
piece_spells (body.Comment text) front h = h.0
piece_spells (body.Pi target text) front h = h.0
piece_spells body.Doctype front h = h.0
piece_spells body.Declaration front h = h.0

piece_text : (b : Body) (front : List ℕ) → IsPiece b front → IsText front
piece_text (body.Chars text blank) front h = subst IsText (sym h.2) (escaped_text Content text h.1)
piece_text (body.CData text) front h = h.1
piece_text (body.Start name attrs empty) front h = h.1
piece_text (body.End name) front h = h.1
piece_text (body.Comment text) front h = h.1
piece_text (body.Pi target text) front h = h.1
piece_text body.Doctype front h = h.1
piece_text body.Declaration front h = h.1

piece_followed : (b : Body) (bs : List Body) (more : List ℕ) → (is_chars b && begins_chars bs) ≡ false → ArePieces bs more → IsFollowed true b more
piece_followed (body.Chars text blank) bs more e h = followed text blank bs more e h
piece_followed (body.CData text) bs more e h = tt
piece_followed (body.Start name attrs empty) bs more e h = tt
piece_followed (body.End name) bs more e h = tt
piece_followed (body.Comment text) bs more e h = tt
piece_followed (body.Pi target text) bs more e h = tt
piece_followed body.Doctype bs more e h = tt
piece_followed body.Declaration bs more e h = tt

-- pieces are whole shapes, and say their lexemes
module _ (whole : SpelledLexemesAreShapes) (reads : SpelledLexemesAreRead) where
  pub pieces_cut : (bs : List Body) (bytes : List ℕ) → ArePieces bs bytes → (shapes : List (List ℕ)) × Cuts true bytes shapes [] × AreJudged shapes bs
  pieces_cut [] bytes h = ([], (h, refl), tt)
  pieces_cut (b ∷ bs) bytes h =
      let later = pieces_cut bs h.1 h.5 in
      let spells = piece_spells b h.0 h.3 in (
        h.0 ∷ later.0,
        (h.1, h.2, whole false true b h.0 h.1 spells (piece_followed b bs h.1 h.4 h.5), later.1),
        (read_as reads false b h.0 (piece_text b h.0 h.3) spells, later.2),
      )

-- Nodes

text_first : (c : ℕ) (cs : List ℕ) (bs : List Body) (more : List ℕ) → are_chars (c ∷ cs) ≡ true → begins_chars bs ≡ false → ArePieces bs more → ArePieces (text_body (c ∷ cs) ∷ bs) (escaped Content (encode_utf8_all (c ∷ cs)) ++ more)
text_first c cs bs more h e k = (escaped Content (encode_utf8_all (c ∷ cs)), more, refl, ((λ e. absurd cc), h, refl, refl), e, k)

pub text_pieces : (text : List ℕ) (bs : List Body) (more : List ℕ) → are_chars text ≡ true → ArePieces bs more → ArePieces (text_before text bs) (escaped Content (encode_utf8_all text) ++ more)
text_pieces [] bs more h k = k
text_pieces (c ∷ cs) [] more h k = text_first c cs [] more h refl k
text_pieces (c ∷ cs) (body.Chars later blank ∷ bs) more h k =
    let text = c ∷ cs in (
      escaped Content (encode_utf8_all (text ++ later)),
      k.1,
      ap (λ l. escaped Content (encode_utf8_all text) ++ l) (k.2 ∙ ap (λ l. l ++ k.1) k.3.2)
          ∙ sym (append_assoc (escaped Content (encode_utf8_all text)) (escaped Content (encode_utf8_all later)) k.1)
          ∙ ap (λ l. l ++ k.1) (sym (ap (escaped Content) (encodes-append text later) ∙ escaped-append Content (encode_utf8_all text) (encode_utf8_all later))),
      ((λ e. absurd cc), all_append is_char text later h k.3.1, refl, refl),
      k.4,
      k.5,
    )
text_pieces (c ∷ cs) (body.CData text ∷ bs) more h k = text_first c cs (body.CData text ∷ bs) more h refl k
text_pieces (c ∷ cs) (body.Start name attrs empty ∷ bs) more h k = text_first c cs (body.Start name attrs empty ∷ bs) more h refl k
text_pieces (c ∷ cs) (body.End name ∷ bs) more h k = text_first c cs (body.End name ∷ bs) more h refl k
text_pieces (c ∷ cs) (body.Comment text ∷ bs) more h k = text_first c cs (body.Comment text ∷ bs) more h refl k
text_pieces (c ∷ cs) (body.Pi target text ∷ bs) more h k = text_first c cs (body.Pi target text ∷ bs) more h refl k
text_pieces (c ∷ cs) (body.Doctype ∷ bs) more h k = text_first c cs (body.Doctype ∷ bs) more h refl k
text_pieces (c ∷ cs) (body.Declaration ∷ bs) more h k = text_first c cs (body.Declaration ∷ bs) more h refl k

module _ (sound : DeclaresSound) where
  -- the start tag of a sound tag, and its end tag
  module _ (in_force : List Binding) (tag : HeldTag) (h : is_sound_tag tag ≡ true) where
    abbrev word : List ℕ
    word = written_name tag.name.prefix tag.name.local

    abbrev attrs : List RawAttr
    attrs = raw_attrs (dressed in_force tag) tag.attrs

    start_piece : IsPiece (body.Start word attrs false) (open_tag tag (dressed in_force tag) ++ codes ">")
    start_piece =
        let is = tag_is tag h in
        let good = sound in_force tag h in
        let all = raw_sound (dressed in_force tag) tag.attrs good.0 good.1 is.attrs in
        let name = good_name tag.name is.name in
        subst (λ l. IsPiece (body.Start word attrs false) (l ++ codes ">")) (sym (open_tag-is tag (dressed in_force tag)))
        (start_spelled word name attrs all false, start_text word name attrs all, (_, refl))

    empty_piece : IsPiece (body.Start word attrs true) (open_tag tag (dressed in_force tag) ++ codes "/>")
    empty_piece =
        let is = tag_is tag h in
        let good = sound in_force tag h in
        let all = raw_sound (dressed in_force tag) tag.attrs good.0 good.1 is.attrs in
        let name = good_name tag.name is.name in
        subst (λ l. IsPiece (body.Start word attrs true) (l ++ codes "/>")) (sym (open_tag-is tag (dressed in_force tag)))
        (empty_spelled word name attrs all false, empty_text word name attrs all, (_, refl))

    end_piece : IsPiece (body.End word) (end_tag tag.name.prefix tag.name.local)
    end_piece =
        let name = good_name tag.name (tag_is tag h).name in
        subst (IsPiece (body.End word)) (sym (end_tag-is tag.name)) (end_spelled word name false, end_text word name, (_, refl))

  pub node_pieces : (limit depth : ℕ) (in_force : List Binding) (nodes : Nodes) → IsAccepted limit depth nodes → ArePieces (bodies in_force nodes) (written in_force nodes)
  node_pieces limit depth in_force End h = refl
  node_pieces limit depth in_force (Chars text next) h = text_pieces text (bodies in_force next) (written in_force next) h.0 (node_pieces limit depth in_force next h.1)
  node_pieces limit depth in_force (CData text next) h =
      (cdata_text text, written in_force next, refl, (section_spelled false text h.0, section_text text h.0, (_, refl)), refl, node_pieces limit depth in_force next h.1)
  node_pieces limit depth in_force (Comment text next) h =
      (comment_text text, written in_force next, refl, (comment_spelled false text h.0, comment_bytes text h.0, (_, refl)), refl, node_pieces limit depth in_force next h.1)
  node_pieces limit depth in_force (Instruction target text next) h =
      (instruction_text target text, written in_force next, refl, (instruction_spelled target text h.0, instruction_bytes target text h.0, (_, refl)), refl, node_pieces limit depth in_force next h.1)
  node_pieces limit depth in_force (Nested tag kids next) h =
      by_end (is_end kids) (node_pieces limit (suc depth) (inside in_force (in_one tag)) kids h.3) (node_pieces limit depth in_force next h.4) where
        by_end : (e : Bool) → ArePieces (bodies (inside in_force (in_one tag)) kids) (written (inside in_force (in_one tag)) kids) → ArePieces (bodies in_force next) (written in_force next)
            → ArePieces
            (body.Start (word in_force (in_one tag) h.0) (attrs in_force (in_one tag) h.0) e
            ∷ ((if e then [] else bodies (inside in_force (in_one tag)) kids ++ body.End (word in_force (in_one tag) h.0) ∷ []) ++ bodies in_force next))
            (open_tag (in_one tag) (dressed in_force (in_one tag))
            ++ (if e then codes "/>" else codes ">" ++ written (inside in_force (in_one tag)) kids ++ end_tag tag.name.prefix tag.name.local) ++ written in_force next)
        by_end true inner behind =
            (open_tag (in_one tag) (dressed in_force (in_one tag)) ++ codes "/>", written in_force next, refl, empty_piece in_force (in_one tag) h.0, refl, behind)
        by_end false inner behind =
            let begun = open_tag (in_one tag) (dressed in_force (in_one tag)) in
            let kid = written (inside in_force (in_one tag)) kids in
            let kid_bodies = bodies (inside in_force (in_one tag)) kids in
            let end = end_tag tag.name.prefix tag.name.local in
            let last = body.End (word in_force (in_one tag) h.0) in
            let tail : ArePieces (last ∷ bodies in_force next) (end ++ written in_force next) = (end, written in_force next, refl, end_piece in_force (in_one tag) h.0, refl, behind) in (
              begun ++ codes ">",
              kid ++ (end ++ written in_force next),
              append_assoc begun ((codes ">" ++ kid) ++ end) (written in_force next)
                  ∙ ap (λ l. begun ++ (62 ∷ l)) (append_assoc kid end (written in_force next))
                  ∙ sym (append_assoc begun (codes ">") (kid ++ (end ++ written in_force next))),
              start_piece in_force (in_one tag) h.0,
              refl,
              subst (λ l. ArePieces l (kid ++ (end ++ written in_force next))) (sym (append_assoc kid_bodies (last ∷ []) (bodies in_force next)))
                  (pieces_append kid_bodies (last ∷ bodies in_force next) kid (end ++ written in_force next) inner tail refl),
            )

  pub writes_shapes : SpelledLexemesAreShapes → SpelledLexemesAreRead → WritesShapes
  writes_shapes whole reads limit depth in_force nodes h k =
      pieces_cut whole reads (bodies in_force nodes) (written in_force nodes) (node_pieces limit depth in_force nodes (accepted limit depth nodes h k))
