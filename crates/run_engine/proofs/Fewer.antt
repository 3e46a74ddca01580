-- How many pieces may still come.
use Rattle.std.proofs.Common.{◌≡◌, ◌≢◌, ◌≤◌, ◌<◌, ◌+◌, ◌-◌, ◌*◌, ℕ, suc, false, cond, List, [], ◌∷◌, ◌++◌, Option, Some, None, IsSome, refl, ap, subst, ◌∙◌, arith, length-append}
use Rattle.std.proofs.Math.Nat.{mul-le-mul_left}
use Rattle.xml_tokens.specs.Reader.{fed}
use Rattle.xml_events.specs.Source.{Source, ended_there, events_left, fed_with}
use Rattle.run_engine.specs.declared.piece.Piece.{Piece}
use Rattle.run_engine.specs.declared.piece.Piece.TheVariants as piece
use Rattle.run_engine.specs.Asks.{AsksFewer, asks_left, main_events, of_main}
use Rattle.run_engine.specs.Pieces.{AreOthers, AsksStay, Falls, IsRead, PiecesFall, PiecesOpen, PiecesStay, main_pieces, of_other, other_pieces, pieces_of, HasBytes, IsGoing, WaitsFall, opening}
use Rattle.run_engine.specs.Run as spec
use Rattle.run_engine.specs.Run.{IsHungry, MainIsHungry, MayCome, Open, OtherIsHungry, Run, Stage, StandsAt}
use Rattle.run_engine.specs.Taking.{AreReadOn, IsReadOn, ended_first, fed_first, handed, opened_first, Takes}

unended : (s : Source) → s.lexer.ended ≡ false → pieces_of s ≡ suc (suc s.lexer.limits.input - fed s.lexer)
unended s h = ap (λ b. cond b 0 (suc (suc s.lexer.limits.input - fed s.lexer))) h

fewer-fed : (s : Source) (bytes : List ℕ) → IsHungry s → bytes ≢ [] → pieces_of (fed_with s bytes) < pieces_of s
fewer-fed s [] h ne = absurd (ne refl)
fewer-fed s (b ∷ bs) h ne =
    omega (arith, unended s h.unended, unended (fed_with s (b ∷ bs)) h.unended, length-append s.lexer.unread (b ∷ bs), h.within)

fewer-ended : (s : Source) → IsHungry s → pieces_of (ended_there s) < pieces_of s
fewer-ended s h = omega (arith, unended s h.unended)

-- the main document's count alone
main-fewer : (n : Option (List ℕ)) (x y m o : ℕ) → n ≡ None → x < y → (of_main n x + m < of_main n y + m) × (of_other n x + o ≡ of_other n y + o)
main-fewer None x y m o e h = (omega (arith, h), refl)
main-fewer (Some name) x y m o e h = absurd cc

other-fewer : (n : Option (List ℕ)) (x y m o : ℕ) → IsSome n → x < y → (of_main n x + m ≡ of_main n y + m) × (of_other n x + o < of_other n y + o)
other-fewer None x y m o e h = absurd cc
other-fewer (Some name) x y m o e h = (refl, omega (arith, h))

main-fed : (ds : List Open) (bytes : List ℕ) → MainIsHungry ds → bytes ≢ [] → (main_pieces (fed_first bytes ds) < main_pieces ds) × (other_pieces (fed_first bytes ds) ≡ other_pieces ds)
main-fed [] bytes h ne = absurd h
main-fed (d ∷ ds) bytes h ne =
    main-fewer d.name (pieces_of (fed_with d.source bytes)) (pieces_of d.source) (main_pieces ds) (other_pieces ds) h.0 (fewer-fed d.source bytes h.1 ne)

main-ended : (ds : List Open) → MainIsHungry ds → (main_pieces (ended_first ds) < main_pieces ds) × (other_pieces (ended_first ds) ≡ other_pieces ds)
main-ended [] h = absurd h
main-ended (d ∷ ds) h = main-fewer d.name (pieces_of (ended_there d.source)) (pieces_of d.source) (main_pieces ds) (other_pieces ds) h.0 (fewer-ended d.source h.1)

other-fed : (ds : List Open) (bytes : List ℕ) → OtherIsHungry ds → bytes ≢ [] → (main_pieces (fed_first bytes ds) ≡ main_pieces ds) × (other_pieces (fed_first bytes ds) < other_pieces ds)
other-fed [] bytes h ne = absurd h
other-fed (d ∷ ds) bytes h ne =
    other-fewer d.name (pieces_of (fed_with d.source bytes)) (pieces_of d.source) (main_pieces ds) (other_pieces ds) h.0 (fewer-fed d.source bytes h.1 ne)

other-ended : (ds : List Open) → OtherIsHungry ds → (main_pieces (ended_first ds) ≡ main_pieces ds) × (other_pieces (ended_first ds) < other_pieces ds)
other-ended [] h = absurd h
other-ended (d ∷ ds) h = other-fewer d.name (pieces_of (ended_there d.source)) (pieces_of d.source) (main_pieces ds) (other_pieces ds) h.0 (fewer-ended d.source h.1)

falls-at :
    (r : Run) (s : Stage) (p : Piece) → StandsAt s r.files r.documents → IsRead p → MayCome s p
    → Falls s (main_pieces r.documents) (main_pieces (handed r p)) (other_pieces r.documents) (other_pieces (handed r p))
falls-at r spec.New p h i m = tt
falls-at r (spec.Wants name) p h i m = tt
falls-at r (spec.Over outcome) p h i m = tt
falls-at r spec.Main (piece.Bytes bytes) h i m = main-fed r.documents bytes.now h i
falls-at r spec.Main piece.End h i m = main-ended r.documents h
falls-at r spec.Main piece.Start h i m = absurd i
falls-at r spec.Main piece.Opened h i m = absurd i
falls-at r spec.Main piece.Absent h i m = absurd i
falls-at r spec.Document (piece.Bytes bytes) h i m = other-fed r.documents bytes.now h i
falls-at r spec.Document piece.End h i m = other-ended r.documents h
falls-at r spec.Document piece.Start h i m = absurd i
falls-at r spec.Document piece.Opened h i m = absurd i
falls-at r spec.Document piece.Absent h i m = absurd i

pub pieces-fall : PiecesFall
pieces-fall = λ r p h i m. falls-at r r.stage p h i m

-- a document that was read on waits for as many
read-pieces : (b a : Open) → IsReadOn b a → pieces_of a.source ≡ pieces_of b.source
read-pieces b a h =
    ap (λ e. cond e 0 (suc (suc a.source.lexer.limits.input - fed a.source.lexer))) h.ended
    ∙ ap (λ l. cond b.source.lexer.ended 0 (suc (suc l - fed a.source.lexer))) (ap (λ l. l.input) h.limits)
    ∙ ap (λ n. cond b.source.lexer.ended 0 (suc (suc b.source.lexer.limits.input - n))) h.fed_is

read-main : (bs xs : List Open) → AreReadOn bs xs → (main_pieces xs ≡ main_pieces bs) × (other_pieces xs ≡ other_pieces bs)
read-main [] [] h = (refl, refl)
read-main [] (x ∷ xs) h = absurd h
read-main (b ∷ bs) [] h = absurd h
read-main (b ∷ bs) (x ∷ xs) h =
    let rest = read-main bs xs h.1 in
    let same : pieces_of x.source ≡ pieces_of b.source = read-pieces b x h.0 in (
      ap (λ n. of_main n (pieces_of x.source) + main_pieces xs) h.0.name ∙ ap (λ k. of_main b.name k + main_pieces xs) same ∙ ap (λ k. of_main b.name (pieces_of b.source) + k) rest.0,
      ap (λ n. of_other n (pieces_of x.source) + other_pieces xs) h.0.name ∙ ap (λ k. of_other b.name k + other_pieces xs) same ∙ ap (λ k. of_other b.name (pieces_of b.source) + k) rest.1,
    )

kept-main : (gone kept : List Open) → (main_pieces kept ≤ main_pieces (gone ++ kept)) × (other_pieces kept ≤ other_pieces (gone ++ kept))
kept-main [] kept = (omega arith, omega arith)
kept-main (g ∷ gone) kept = let rest = kept-main gone kept in (omega (arith, rest.0), omega (arith, rest.1))

pub pieces-stay : PiecesStay
pieces-stay = λ before after t.
    let k = kept-main t.gone t.kept in
    let r = read-main t.kept after t.on in (
      omega (arith, k.0, r.0, ap main_pieces t.parts),
      omega (arith, k.1, r.1, ap other_pieces t.parts),
    )

pub pieces-open : PiecesOpen
pieces-open = λ r name h. (
  ap (λ s. main_pieces (opened_first r s)) h ∙ omega arith,
  ap (λ s. other_pieces (opened_first r s)) h ∙ omega arith,
)

-- the events of the main document are no others
other-events : (n : Option (List ℕ)) (x y m : ℕ) → IsSome n → of_main n x + m ≡ of_main n y + m
other-events None x y m h = absurd cc
other-events (Some name) x y m h = refl

fed-events : (ds : List Open) (bytes : List ℕ) → OtherIsHungry ds → main_events (fed_first bytes ds) ≡ main_events ds
fed-events [] bytes h = absurd h
fed-events (d ∷ ds) bytes h = other-events d.name (events_left (fed_with d.source bytes)) (events_left d.source) (main_events ds) h.0

ended-events : (ds : List Open) → OtherIsHungry ds → main_events (ended_first ds) ≡ main_events ds
ended-events [] h = absurd h
ended-events (d ∷ ds) h = other-events d.name (events_left (ended_there d.source)) (events_left d.source) (main_events ds) h.0

opened-events : (r : Run) (s : Stage) → main_events (opened_first r s) ≡ main_events r.documents
opened-events r spec.New = refl
opened-events r spec.Main = refl
opened-events r spec.Document = refl
opened-events r (spec.Wants name) = omega arith
opened-events r (spec.Over outcome) = refl

asks-at : (r : Run) (s : Stage) (p : Piece) → StandsAt s r.files r.documents → AreOthers s → MayCome s p → main_events (handed r p) ≡ main_events r.documents
asks-at r spec.Main p h o m = absurd o
asks-at r spec.Document (piece.Bytes bytes) h o m = fed-events r.documents bytes.now h
asks-at r spec.Document piece.End h o m = ended-events r.documents h
asks-at r spec.Document piece.Start h o m = absurd m
asks-at r spec.Document piece.Opened h o m = absurd m
asks-at r spec.Document piece.Absent h o m = absurd m
asks-at r spec.New piece.Start h o m = refl
asks-at r spec.New (piece.Bytes bytes) h o m = absurd m
asks-at r spec.New piece.End h o m = absurd m
asks-at r spec.New piece.Opened h o m = absurd m
asks-at r spec.New piece.Absent h o m = absurd m
asks-at r (spec.Wants name) piece.Opened h o m = opened-events r r.stage
asks-at r (spec.Wants name) piece.Absent h o m = refl
asks-at r (spec.Wants name) piece.Start h o m = absurd m
asks-at r (spec.Wants name) (piece.Bytes bytes) h o m = absurd m
asks-at r (spec.Wants name) piece.End h o m = absurd m
asks-at r (spec.Over outcome) p h o m = absurd m

pub asks-stay : AsksStay
asks-stay = λ r p h o m. ap (λ n. n * (r.limits.fuel + 1) + r.fuel) (asks-at r r.stage p h o m)

num-document : (a a' o o' oh w i i' : ℕ) → i' ≡ i → a' ≤ a → o' ≤ oh → oh < o + w → a' * (i' + 4) + o' + 0 < a * (i + 4) + o + w
num-document a a' o o' oh w i i' e h k l = omega (arith, ap (λ n. a' * (n + 4)) e, mul-le-mul_left (i + 4) h, k, l)

num-wants : (a a' o o' oh w i i' : ℕ) → i' ≡ i → a' < a → o' ≤ oh → oh < o + w → a' * (i' + 4) + o' + (i' + 3) < a * (i + 4) + o + w
num-wants a a' o o' oh w i i' e h k l =
    let more : a' + 1 ≤ a = omega (arith, h) in
    omega (arith, e, ap (λ n. a' * (n + 4)) e, mul-le-mul_left (i + 4) more, k, l)

-- what a piece leaves of the others' pieces
handed-others :
    (r : Run) (s : Stage) (p : Piece) → r.stage ≡ s → StandsAt s r.files r.documents → IsGoing s → MayCome s p → HasBytes p
    → other_pieces (handed r p) < other_pieces r.documents + opening s r.limits.input
handed-others r spec.New p e h g m b = absurd g
handed-others r spec.Main p e h g m b = absurd g
handed-others r (spec.Over outcome) p e h g m b = absurd g
handed-others r spec.Document (piece.Bytes bytes) e h g m b = omega (arith, (other-fed r.documents bytes.now h b).1)
handed-others r spec.Document piece.End e h g m b = omega (arith, (other-ended r.documents h).1)
handed-others r spec.Document piece.Start e h g m b = absurd m
handed-others r spec.Document piece.Opened e h g m b = absurd m
handed-others r spec.Document piece.Absent e h g m b = absurd m
handed-others r (spec.Wants name) piece.Opened e h g m b = omega (arith, (pieces-open r name e).1)
handed-others r (spec.Wants name) piece.Absent e h g m b = omega arith
handed-others r (spec.Wants name) piece.Start e h g m b = absurd m
handed-others r (spec.Wants name) (piece.Bytes bytes) e h g m b = absurd m
handed-others r (spec.Wants name) piece.End e h g m b = absurd m

others-of : (s : Stage) → IsGoing s → AreOthers s
others-of spec.New g = tt
others-of spec.Main g = g
others-of spec.Document g = tt
others-of (spec.Wants name) g = tt
others-of (spec.Over outcome) g = tt

waits-at :
    (t : Stage) (a a' oh w i i' o : ℕ) (before after : List Open) → i' ≡ i → oh ≡ other_pieces before → Takes t before after → AsksFewer t a a' → IsGoing t → oh < o + w
    → a' * (i' + 4) + other_pieces after + opening t i' < a * (i + 4) + o + w
waits-at spec.New a a' oh w i i' o before after e q k f g l = absurd g
waits-at spec.Main a a' oh w i i' o before after e q k f g l = absurd g
waits-at (spec.Over outcome) a a' oh w i i' o before after e q k f g l = absurd g
waits-at spec.Document a a' oh w i i' o before after e q k f g l =
    num-document a a' o (other_pieces after) oh w i i' e f (omega (arith, q, (pieces-stay before after k).1)) l
waits-at (spec.Wants name) a a' oh w i i' o before after e q k f g l =
    num-wants a a' o (other_pieces after) oh w i i' e f (omega (arith, q, (pieces-stay before after k).1)) l

pub waits-fall : WaitsFall
waits-fall = λ old new p h g m b same k f going.
    waits-at new.stage (asks_left old) (asks_left new) (other_pieces (handed old p)) (opening old.stage old.limits.input) old.limits.input new.limits.input (other_pieces old.documents)
    (handed old p) new.documents (ap (λ l. l.input) same.limits) refl k
    (subst (λ n. AsksFewer new.stage n (asks_left new)) (asks-stay old p h (others-of old.stage g) m) f) going
    (handed-others old old.stage p refl h g m b)
