-- Results are read back.
use Rattle.std.proofs.Common.{Bool, ◌≡◌, ℕ, suc, ◌+◌, ◌<◌, ◌≤◌, ◌^◌, true, false, List, [], ◌∷◌, ◌++◌, length, refl, sym, ap, ◌∙◌, arith, subst, append-nil, length-append, inl, inr}
use Rattle.std.specs.Prelude.{codes, encode_utf8_all}
use Rattle.std.specs.List.{list_all}
use Rattle.stx_base.specs.Character.{is_space}
use Rattle.stx_base.specs.declared.limits.Limits.{Limits}
use Rattle.xml_tokens.specs.Spelling.{Attribute, SpelledLexemesAreRead, SpelledLexemesAreShapes, Spells}
use Rattle.xml_tokens.specs.declared.lexeme.Body.{Body}
use Rattle.xml_tokens.specs.declared.lexeme.Body.TheVariants as body
use Rattle.xml_events.specs.Document.{doc_for}
use Rattle.xml_events.specs.Flatten.{is_closed}
use Rattle.xml_events.specs.Laws.{NoFault}
use Rattle.xml_events.specs.Shapes.{LexemesAreShapes}
use Rattle.result_writer.specs.Escape.{escaped}
use Rattle.result_writer.specs.Laws.{AcceptsNodes, ReadsNodes}
use Rattle.result_writer.specs.Nodes.{Nodes, End, Chars, CData, Comment, Instruction, Nested, plain, written}
use Rattle.result_writer.specs.Target.{text}
use Rattle.result_writer.specs.declared.escape.Context.TheVariants.{Content}
use Rattle.result_writer.specs.declared.tag.HeldTag.{HeldTag}
use Rattle.read_back.specs.Laws.{DeclaresSound, ReadsContents, ReadsResults, ResolvesNames}
use Rattle.read_back.specs.Lexemes.{bodies}
use Rattle.read_back.specs.Read.{Suffices, as_read, head, is_document, nodes_of, within}
use Rattle.read_back.proofs.Accepted.{IsAccepted, accepted}
use Rattle.read_back.proofs.Bytes.{plain_is, text_plain}
use Rattle.read_back.proofs.Documents.{first_cut, lexed_is, tree_is}
use Rattle.read_back.proofs.Elements.{behind_less, body_alone, gives, outside, pieces_size, says, small}
use Rattle.read_back.proofs.Lifting.{nodes_of_parts}
use Rattle.read_back.proofs.Pieces.{ArePieces, begins_chars, node_pieces, pieces_append, text_pieces}
use Rattle.read_back.proofs.Tagging.{end_of, end_spelled, end_text, start_spelled}
use Rattle.read_back.proofs.Telling.{Gives, Names, gives_element, gives_end, size}

-- The first line

abbrev line : List ℕ
line = codes "<?xml version=\"1.0\" encoding=\"UTF-8\"?>"

abbrev declared : List ℕ → Attribute
declared value = record { first = 32; space = []; before = []; behind = []; quote = 34; value = value }

line_spelled : Spells true body.Declaration line
line_spelled = (
  refl,
  (
    codes " version=\"1.0\" encoding=\"UTF-8\"",
    (
      declared (codes "1.0"),
      codes " encoding=\"UTF-8\"",
      (record { space = refl; before = refl; behind = refl; quote = refl; unquoted = refl }, refl),
      refl,
      inr (declared (codes "UTF-8"), [], (record { space = refl; before = refl; behind = refl; quote = refl; unquoted = refl }, refl), refl, inl refl),
    ),
    refl,
  ),
)

-- the line end behind it
abbrev blank : Body
blank = body.Chars (10 ∷ []) true

blank_pieces : (bs : List Body) (more : List ℕ) → begins_chars bs ≡ false → ArePieces bs more → ArePieces (blank ∷ bs) (10 ∷ more)
blank_pieces bs more h k =
    let ascii : encode_utf8_all (10 ∷ []) ≡ 10 ∷ [] = plain_is (10 ∷ []) refl in
    subst (λ l. ArePieces (body.Chars (10 ∷ []) (list_all is_space (escaped Content l)) ∷ bs) (escaped Content l ++ more)) ascii
    (subst (λ l. ArePieces l (escaped Content (encode_utf8_all (10 ∷ [])) ++ more)) (body_alone 10 [] bs h) (text_pieces (10 ∷ []) bs more refl k))

module _ (limits : Limits) (cdata : Bool) where
  behind : (m n l : ℕ) → 0 + (m + n) ≤ l → 0 + n ≤ l
  behind m n l h = omega (arith, h)

  gives_declaration : (bs : List Body) (n : Nodes) → Gives limits cdata [] [] false 0 bs n → Gives limits cdata [] [] false 0 (body.Declaration ∷ bs) n
  gives_declaration bs n g fit o =
      let later = g (behind 0 (size bs) limits.text fit) (λ i. o (suc i)) in (later.0, record { sound = (refl, later.1.sound); behind = later.1.behind }, later.2)

  gives_blank : (bs : List Body) (n : Nodes) → Gives limits cdata [] [] false 0 bs n → Gives limits cdata [] [] false 0 (blank ∷ bs) n
  gives_blank bs n g fit o =
      let later = g (behind 1 (size bs) limits.text fit) (λ i. o (suc i)) in
      (later.0, record { sound = (refl, later.1.sound); behind = later.1.behind }, later.2)

-- An element round content

abbrev word : List ℕ
word = codes "r"

abbrev tag_r : HeldTag
tag_r = record { name = record { uri = []; local = codes "r"; prefix = [] }; scope = []; attrs = [] }

start_r : Spells true (body.Start word [] false) (codes "<r>")
start_r = subst (λ l. Spells true (body.Start word [] false) (60 ∷ (l ++ []) ++ codes ">")) (plain_is word refl) (start_spelled word refl [] refl true)

end_pieces : ArePieces (body.End word ∷ []) (codes "</r>")
end_pieces =
    let ascii : end_of word ≡ codes "</r>" = ap (λ l. 60 ∷ 47 ∷ (l ++ 62 ∷ [])) (plain_is word refl) in
    subst (ArePieces (body.End word ∷ [])) (append-nil (end_of word) ∙ ascii) (end_of word, [], refl, (end_spelled word refl false, end_text word refl, (_, refl)), refl, refl)

names_r : (limits : Limits) (cdata : Bool) → Names limits cdata [] word [] tag_r
names_r limits cdata = record { fault = refl; name = refl; attrs = refl }

-- nodes within one element more
deeper : (limit depth : ℕ) (nodes : Nodes) → IsAccepted limit depth nodes → IsAccepted (suc limit) (suc depth) nodes
deeper limit depth End h = tt
deeper limit depth (Chars text next) h = (h.0, deeper limit depth next h.1)
deeper limit depth (CData text next) h = (h.0, deeper limit depth next h.1)
deeper limit depth (Comment text next) h = (h.0, deeper limit depth next h.1)
deeper limit depth (Instruction target text next) h = (h.0, deeper limit depth next h.1)
deeper limit depth (Nested tag kids next) h = (h.0, h.1, omega (arith, h.2), deeper limit (suc depth) kids h.3, deeper limit depth next h.4)

module _ (whole : SpelledLexemesAreShapes) (reads : SpelledLexemesAreRead) (sound : DeclaresSound) (resolve : ResolvesNames) (shapes : LexemesAreShapes) (none : NoFault) where
  abbrev Read : Limits → (cdata : Bool) → List ℕ → Nodes → Type 0
  Read limits cdata bytes n = let t = doc_for limits false cdata bytes true in (is_closed t ≡ true) × (nodes_of t ≡ n)

  -- nodes behind the first line
  module _ (limits : Limits) (cdata : Bool) (limit : ℕ) (nodes : Nodes) (h : IsAccepted limit 0 nodes) where
    document_read : is_document (plain nodes) ≡ true → Suffices limits (head ++ written [] nodes) limit → Read limits cdata (head ++ written [] nodes) (as_read cdata (plain nodes))
    document_read document suffices =
        let content = written [] nodes in
        let few = small [] nodes (behind_less head content (2 ^ 64) suffices.counted).1 in
        let pieces = node_pieces sound limit 0 [] nodes h in
        let found = outside limits cdata resolve limit suffices.elements false nodes h few document in
        let behind = blank_pieces (bodies [] nodes) content found.0 pieces in
        let cut = first_cut whole reads body.Declaration line (blank ∷ bodies [] nodes) (10 ∷ content) line_spelled (text_plain line refl) tt behind in
        let all = body.Declaration ∷ blank ∷ bodies [] nodes in
        let lexemes = lexed_is shapes limits (line ++ 10 ∷ content) refl suffices.input suffices.lexeme cut.0 all cut.1 cut.2 in
        let fit = within_text limits.text (size (blank ∷ bodies [] nodes)) line (10 ∷ content) suffices.text (pieces_size (blank ∷ bodies [] nodes) (10 ∷ content) behind) in
        tree_is none limits cdata (line ++ 10 ∷ content) all (as_read cdata (plain nodes))
        (gives_declaration limits cdata (blank ∷ bodies [] nodes) (as_read cdata (plain nodes)) (gives_blank limits cdata (bodies [] nodes) (as_read cdata (plain nodes)) (found.1 0))) fit lexemes.0 lexemes.1 where
          within_text : (n m : ℕ) (xs ys : List ℕ) → length (xs ++ ys) ≤ n → m ≤ length ys → 0 + (0 + m) ≤ n
          within_text n m xs ys h k = omega (arith, h, k, length-append xs ys)

    -- nodes within an element
    content_read : Suffices limits (codes "<r>" ++ written [] nodes ++ codes "</r>") (limit + 1) → Read limits cdata (codes "<r>" ++ written [] nodes ++ codes "</r>") (within (as_read cdata (plain nodes)))
    content_read suffices =
        let content = written [] nodes in
        let few = small [] nodes (behind_less content (codes "</r>") (2 ^ 64) (behind_less (codes "<r>") (content ++ codes "</r>") (2 ^ 64) suffices.counted).1).0 in
        let pieces = pieces_append (bodies [] nodes) (body.End word ∷ []) content (codes "</r>") (node_pieces sound limit 0 [] nodes h) end_pieces refl in
        let inner = bodies [] nodes ++ body.End word ∷ [] in
        let all = body.Start word [] false ∷ inner in
        let bytes = codes "<r>" ++ (content ++ codes "</r>") in
        let cut = first_cut whole reads (body.Start word [] false) (codes "<r>") inner (content ++ codes "</r>") start_r (text_plain (codes "<r>") refl) tt pieces in
        let lexemes = lexed_is shapes limits bytes refl suffices.input suffices.lexeme cut.0 all cut.1 cut.2 in
        let fit = within_text limits.text (size inner) (codes "<r>") (content ++ codes "</r>") suffices.text (pieces_size inner (content ++ codes "</r>") pieces) in
        let deep = room limit limits.depth suffices.elements in
        let told = says limits cdata resolve (suc limit) deep word [] ([] ∷ []) nodes (deeper limit 0 nodes h) few in
        let kid = gives limits cdata resolve (suc limit) deep word [] ([] ∷ []) (bodies [] nodes) (as_read cdata (plain nodes)) told in
        let element = gives_element limits cdata [] [] false 0 word [] tag_r (names_r limits cdata) refl (some limit limits.depth deep) (bodies [] nodes) [] (as_read cdata (plain nodes)) End (kid 0) (gives_end limits cdata [] [] 0) in
        tree_is none limits cdata bytes all (within (as_read cdata (plain nodes)))
        (subst (λ l. Gives limits cdata [] [] false 0 (body.Start word [] false ∷ l) (within (as_read cdata (plain nodes)))) (append-nil inner) element) fit lexemes.0 lexemes.1 where
          within_text : (n m : ℕ) (xs ys : List ℕ) → length (xs ++ ys) ≤ n → m ≤ length ys → 0 + (0 + m) ≤ n
          within_text n m xs ys h k = omega (arith, h, k, length-append xs ys)

          room : (n m : ℕ) → n + 1 ≤ m → suc n ≤ m
          room n m h = omega (arith, h)

          some : (n m : ℕ) → suc n ≤ m → 0 < m
          some n m h = omega (arith, h)

  module _ (accepts : AcceptsNodes) (forests : ReadsNodes) where
    pub reads_results : ReadsResults
    reads_results limits cdata limit ps h k document suffices =
        let found = nodes_of_parts accepts forests limit ps h k in
        let nodes = found.0 in
        let is = found.1 in
        let read = document_read limits cdata limit nodes (accepted limit 0 nodes is.fine is.sound) (ap is_document (sym is.forest) ∙ document)
        (subst (λ l. Suffices limits (head ++ l) limit) is.text suffices) in
        subst (λ n. Read limits cdata (head ++ text ps) (as_read cdata n)) (sym is.forest) (subst (λ l. Read limits cdata (head ++ l) (as_read cdata (plain nodes))) (sym is.text) read)

    pub reads_contents : ReadsContents
    reads_contents limits cdata limit ps h k suffices =
        let found = nodes_of_parts accepts forests limit ps h k in
        let nodes = found.0 in
        let is = found.1 in
        let read = content_read limits cdata limit nodes (accepted limit 0 nodes is.fine is.sound)
        (subst (λ l. Suffices limits (codes "<r>" ++ l ++ codes "</r>") (limit + 1)) is.text suffices) in
        subst (λ n. Read limits cdata (codes "<r>" ++ text ps ++ codes "</r>") (within (as_read cdata n))) (sym is.forest)
        (subst (λ l. Read limits cdata (codes "<r>" ++ l ++ codes "</r>") (within (as_read cdata (plain nodes)))) (sym is.text) read)
