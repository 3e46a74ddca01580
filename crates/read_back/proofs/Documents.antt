-- The tree of a document by its pieces.
use Rattle.std.proofs.Common.{◌≡◌, ℕ, zero, suc, ◌+◌, ◌-◌, ◌≤◌, Bool, true, false, not, ◌&&◌, ◌==◌, List, [], ◌∷◌, ◌++◌, Ok, length, map, drop, refl, sym, ap, ◌∙◌, arith, subst, length-append}
use Rattle.std.specs.Prelude.{nat_lt, if◌then◌else◌}
use Rattle.std.proofs.lemmas.Bool.{and_right}
use Rattle.std.proofs.lemmas.Bool.Decides.{nat_tests}
use Rattle.std.proofs.lemmas.List.{take_all}
use Rattle.stx_base.specs.declared.fault.XmlKind.TheVariants.{InputTooLong, LexemeTooLong}
use Rattle.stx_base.specs.declared.limits.Limits.{Limits}
use Rattle.xml_tokens.specs.Cuts.{Cuts}
use Rattle.xml_tokens.specs.Judged.{judged}
use Rattle.xml_tokens.specs.Places.{begins}
use Rattle.xml_tokens.specs.Reader.{Reader, coming, fed, is_cut, is_last, is_undecided_at, lexeme_or_fault, mark, place, seen}
use Rattle.xml_tokens.specs.Run.{AreWithin}
use Rattle.xml_tokens.specs.Spelling.{IsFollowed, SpelledLexemesAreRead, SpelledLexemesAreShapes, Spells}
use Rattle.xml_tokens.specs.declared.lexeme.Body.{Body}
use Rattle.xml_tokens.specs.declared.lexeme.Step.{Step}
use Rattle.xml_tokens.specs.declared.lexeme.Step.TheVariants as step
use Rattle.xml_events.specs.Before.{starting}
use Rattle.xml_events.specs.Document.{Closes, at_end, doc_for, inner, lists_of, reading, readied}
use Rattle.xml_events.specs.Flatten.{is_closed}
use Rattle.xml_events.specs.Laws.{NoFault, all_items}
use Rattle.xml_events.specs.Lexed.{Lexed, answered, lexed, unread}
use Rattle.xml_events.specs.Shapes.{LexemesAreShapes, bad_at, ends_at, said_by}
use Rattle.xml_events.specs.Tree as tree
use Rattle.xml_events.specs.Tree.{Forest, Fresh, Single}
use Rattle.result_writer.specs.Nodes.{Nodes, Chars, CData, Comment, Instruction, Nested, expanded_attr, expanded_name}
use Rattle.read_back.specs.Lexemes.{AreJudged}
use Rattle.read_back.specs.Read.{nodes_of}
use Rattle.read_back.proofs.Bytes.{IsText}
use Rattle.read_back.proofs.Leaves.{read_as}
use Rattle.read_back.proofs.Pieces.{ArePieces, pieces_cut}
use Rattle.read_back.proofs.Telling.{Gives, lex, size, with_append}

-- Shapes that say lexemes

-- the first one stands at the document's very start
abbrev pub AreSaid : (first : Bool) → List (List ℕ) → List Body → Type 0
AreSaid first [] [] = Unit {0}
AreSaid first [] (b ∷ bs) = ⊥
AreSaid first (shape ∷ shapes) [] = ⊥
AreSaid first (shape ∷ shapes) (b ∷ bs) = (judged first shape ≡ Ok b) × AreJudged shapes bs

later_said : (shapes : List (List ℕ)) (bs : List Body) → AreJudged shapes bs → AreSaid false shapes bs
later_said [] [] h = tt
later_said [] (b ∷ bs) h = h
later_said (shape ∷ shapes) [] h = h
later_said (shape ∷ shapes) (b ∷ bs) h = h

-- a place before others
abbrev place_first : ℕ → (ℕ → ℕ) → ℕ → ℕ
place_first at_ o zero = at_
place_first at_ o (suc i) = o i

module _ (limits : Limits) (ends : ℕ → Step) (over : (e : ℕ) → ends e ≡ step.End) where
  said : (first : Bool) (at_ : ℕ) (shapes : List (List ℕ)) (bs : List Body) → AreWithin limits.lexeme shapes → AreSaid first shapes bs
      → (o : ℕ → ℕ) × (said_by limits first at_ shapes ends ≡ record { lexemes = lex o bs; last = step.End })
  said first at_ [] [] w h = ((λ i. i), ap (λ x. record { lexemes = []; last = x }) (over at_))
  said first at_ [] (b ∷ bs) w h = absurd h
  said first at_ (shape ∷ shapes) [] w h = absurd h
  said first at_ (shape ∷ shapes) (b ∷ bs) w h =
      let later = said false (at_ + length shape) shapes bs w.1 (later_said shapes bs h.1) in
      let next = said_by limits false (at_ + length shape) shapes ends in (
        place_first at_ later.0,
        ap (λ t. answered (if t then step.Bad (record { kind = LexemeTooLong; offset = at_ }) else lexeme_or_fault (judged first shape) at_) (λ l. next)) (short (length shape) w.0)
            ∙ ap (λ x. answered (lexeme_or_fault x at_) (λ l. next)) h.0
            ∙ ap (λ (x : Lexed). record { lexemes = record { offset = at_; body = b } ∷ x.lexemes; last = x.last }) later.1,
      ) where
        short : (n : ℕ) → n ≤ limits.lexeme → nat_lt limits.lexeme n ≡ false
        short n h = grind (arith, nat_tests)

cuts_within : (n : ℕ) (bytes : List ℕ) (shapes : List (List ℕ)) → Cuts true bytes shapes [] → length bytes ≤ n → AreWithin n shapes
cuts_within n bytes [] h l = tt
cuts_within n bytes (shape ∷ shapes) h l =
    let whole : length bytes ≡ length shape + length h.0 = ap length h.1 ∙ length-append shape h.0 in
    (omega (arith, l, whole), cuts_within n h.0 shapes h.3 (omega (arith, l, whole)))

-- a document without a byte order mark, which is no longer than may be
module _ (shapes_law : LexemesAreShapes) (limits : Limits) (bytes : List ℕ) (unmarked : begins bytes mark ≡ false) (within : length bytes ≤ limits.input) (short : length bytes ≤ limits.lexeme) where
  abbrev r : Reader
  r = unread limits bytes true

  uncut : is_cut r ≡ false
  uncut = one limits.input (length bytes) within where
    one : (n m : ℕ) → m ≤ n → nat_lt (n - 0) m ≡ false
    one n m h = grind (arith, nat_tests)

  seen_is : seen r ≡ bytes
  seen_is = take_all (limits.input - 0) bytes (omega (arith, within))

  coming_is : coming r ≡ bytes
  coming_is =
      ap (λ l. drop (if (0 == 0) && begins l mark then 3 else 0) l) seen_is ∙ ap (λ t. drop (if (0 == 0) && t then 3 else 0) bytes) unmarked

  over : (e : ℕ) → ends_at r [] e ≡ step.End
  over e =
      ap (λ t. if t then bad_at LexemeTooLong e else if is_cut r then bad_at InputTooLong limits.input else step.End)
      (and_right (not (not (is_last r) && is_undecided_at e [])) (nat_lt limits.lexeme 0) (none limits.lexeme))
      ∙ ap (λ t. if t then bad_at InputTooLong limits.input else step.End) uncut where
        none : (n : ℕ) → nat_lt n 0 ≡ false
        none n = grind (arith, nat_tests)

  pub lexed_is : (shapes : List (List ℕ)) (bs : List Body) → Cuts true bytes shapes [] → AreSaid true shapes bs
      → (o : ℕ → ℕ) × (lexed limits bytes true ≡ record { lexemes = lex o bs; last = step.End })
  lexed_is shapes bs cuts h =
      let last : is_last r ≡ true = ap not uncut in
      let found = said limits (ends_at r []) over true (place r) shapes bs (cuts_within limits.lexeme bytes shapes cuts short) h in
      let all : Cuts (is_last r) (coming r) shapes [] = subst (λ t. Cuts t (coming r) shapes []) (sym last) (subst (λ l. Cuts true l shapes []) (sym coming_is) cuts) in
      (found.0, shapes_law limits bytes true shapes [] all ∙ found.1)

-- Trees

ready_nodes : (t : Forest) → nodes_of (readied t) ≡ nodes_of t
ready_nodes (tree.End m end) = refl
ready_nodes (tree.Cut why) = refl
ready_nodes (Single m (tree.Chars offset text) next) = ap (Chars text) (ready_nodes next)
ready_nodes (Single m (tree.CData offset text) next) = ap (CData text) (ready_nodes next)
ready_nodes (Single m (tree.Comment offset text) next) = ap (Comment text) (ready_nodes next)
ready_nodes (Single m (tree.Pi offset target text) next) = ap (Instruction target text) (ready_nodes next)
ready_nodes (tree.Nested stage element kids next) = λ i. Nested (record { name = expanded_name element.name; scope = []; attrs = map expanded_attr element.attrs }) (ready_nodes kids i) (ready_nodes next i)

ready_closed : (t : Forest) → is_closed (readied t) ≡ is_closed t
ready_closed (tree.End m end) = refl
ready_closed (tree.Cut why) = refl
ready_closed (Single m leaf next) = ready_closed next
ready_closed (tree.Nested stage element kids next) = λ i. ready_closed kids i && ready_closed next i

-- lexemes without a fault, the root among them, are the document's tree
module _ (none : NoFault) (limits : Limits) (cdata : Bool) (bytes : List ℕ) where
  pub tree_is : (bs : List Body) (n : Nodes) → Gives limits cdata [] [] false 0 bs n → 0 + size bs ≤ limits.text
      → (o : ℕ → ℕ) → lexed limits bytes true ≡ record { lexemes = lex o bs; last = step.End }
      → let t = doc_for limits false cdata bytes true in (is_closed t ≡ true) × (nodes_of t ≡ n)
  tree_is bs n g fit o e =
      let length_ = fed (unread limits bytes true) in
      let ls = lex o bs in
      let found = g fit o in
      let read = none limits cdata length_ step.End ls found.1.sound in
      let t = found.2 Fresh length_ [] in
      let lists : lists_of (reading limits length_ step.End (starting cdata) ls) ≡ t.0 ∷ [] =
      ap lists_of read
      ∙ ap (λ b. lists_of (record { items = all_items (starting cdata) ls ++ (at_end b length_ step.End).items; rest = (at_end b length_ step.End).rest })) found.1.behind
      ∙ with_append (all_items (starting cdata) ls) (Closes length_ ∷ []) []
      ∙ t.1 in
      let whole : doc_for limits false cdata bytes true ≡ readied t.0 =
      ap (λ (x : Lexed). readied (inner (lists_of (reading limits length_ x.last (starting cdata) x.lexemes)))) e
      ∙ ap (λ l. readied (inner l)) lists in
      (ap is_closed whole ∙ ready_closed t.0 ∙ t.3, ap nodes_of whole ∙ ready_nodes t.0 ∙ t.2)

-- A first piece, and pieces behind it

module _ (whole : SpelledLexemesAreShapes) (reads : SpelledLexemesAreRead) where
  pub first_cut : (b : Body) (front : List ℕ) (bs : List Body) (more : List ℕ) → Spells true b front → IsText front → IsFollowed true b more → ArePieces bs more
      → (shapes : List (List ℕ)) × Cuts true (front ++ more) shapes [] × AreSaid true shapes (b ∷ bs)
  first_cut b front bs more spells text follows h =
      let later = pieces_cut whole reads bs more h in
      (front ∷ later.0, (more, refl, whole true true b front more spells follows, later.1), (read_as reads true b front text spells, later.2))
