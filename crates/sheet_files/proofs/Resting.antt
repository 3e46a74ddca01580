-- What is still to come of the files that are being read, and the frames that show them.
use Rattle.std.proofs.Common.{◌≡◌, ℕ, zero, suc, ◌+◌, ◌<◌, ◌≤◌, Bool, true, false, ◌==◌, List, [], ◌∷◌, ◌++◌, map, length, Option, Some, refl, sym, ap, subst, ◌∙◌, arith, length-append}
use Rattle.std.proofs.lemmas.Bool.{false≢true, eq-eqb, ne_eqb}
use Rattle.std.specs.Prelude.{if◌then◌else◌}
use Rattle.stx_host.specs.declared.act.Doc.{Doc}
use Rattle.sheet_loader.specs.Files.{Documents}
use Rattle.sheet_loader.specs.Levels.{name_at}
use Rattle.sheet_files.specs.Following.{AreParts}
use Rattle.sheet_files.specs.Frames.{Frame, Part, parts_of}
use Rattle.sheet_files.specs.Held.{AreNumbered, came_of, names_of, seen_of}
use Rattle.sheet_files.specs.Opened.{AreOf, Begun, IsOf, Whole, whole}
use Rattle.sheet_files.specs.Reading.{AreRests, Shows, ShowsFiles, doc_of}
use Rattle.sheet_files.specs.declared.going.Going.{Going}
use Rattle.sheet_files.proofs.Including.{are_with}
use Rattle.sheet_files.proofs.Opening.{append_none, length_map, map_append}
use Rattle.sheet_files.proofs.Seeing.{AreKnown, are_back, are_front, numbered_le, numbered_snoc, seen_there}

-- what is still to come of each file that is being read, by its number, is the rest of its document
abbrev pub HaveRests : Documents → (names : List (List ℕ)) → (rest : ℕ → List ℕ) → List Going → Type 0
HaveRests docs names rest [] = Unit {0}
HaveRests docs names rest (g ∷ going) = (docs (name_at names g.number) ≡ Some (g.bytes.items ++ rest g.number)) × HaveRests docs names rest going

-- the same, but of one file this
abbrev pub with_rest : (n : ℕ) (own : List ℕ) (rest : ℕ → List ℕ) → ℕ → List ℕ
with_rest n own rest k = if k == n then own else rest k

pub rest_here : (n k : ℕ) (own : List ℕ) (rest : ℕ → List ℕ) → k ≡ n → with_rest n own rest k ≡ own
rest_here n k own rest e = ap (λ (b : Bool). if b then own else rest k) (eq-eqb k n e)

pub rest_other : (n k : ℕ) (own : List ℕ) (rest : ℕ → List ℕ) → (k ≡ n → ⊥) → with_rest n own rest k ≡ rest k
rest_other n k own rest e = ap (λ (b : Bool). if b then own else rest k) (ne_eqb k n e)

rest_came : (document : Option (List ℕ)) (bytes : List ℕ) (b : Bool) → IsOf document (if b then Whole bytes else Begun bytes) → (rest : List ℕ) × (document ≡ Some (bytes ++ rest)) × (b ≡ true → rest ≡ [])
rest_came document bytes true is = ([], is ∙ ap (λ (l : List ℕ). Some l) (sym (append_none bytes)), λ e. refl)
rest_came document bytes false is = (is.0, is.1, λ e. absurd (false≢true e))

-- files from a number on don't care for a rest below it
later_rests : (docs : Documents) (names : List (List ℕ)) (n : ℕ) (own : List ℕ) (rest : ℕ → List ℕ) (from : ℕ) (going : List Going) (m : ℕ) → AreNumbered from going m → n < from
    → AreRests rest going × HaveRests docs names rest going → AreRests (with_rest n own rest) going × HaveRests docs names (with_rest n own rest) going
later_rests docs names n own rest from [] m are lt have = (tt, tt)
later_rests docs names n own rest from (g ∷ going) m are lt have =
    let low = are.0 in
    let other : g.number ≡ n → ⊥ = λ e. absurd (omega (arith, e, low, lt)) in
    let same : with_rest n own rest g.number ≡ rest g.number = rest_other n g.number own rest other in
    let next = later_rests docs names n own rest (suc g.number) going m are.1 (omega (arith, low, lt)) (have.0.1, have.1.1) in
    ((λ e. same ∙ have.0.0 e, next.0), (have.1.0 ∙ ap (λ (l : List ℕ). Some (g.bytes.items ++ l)) (sym same), next.1))

-- documents say what is still to come
pub rests_known : (docs : Documents) (names : List (List ℕ)) (from : ℕ) (going : List Going) (m : ℕ) → AreNumbered from going m → AreKnown docs names going → (rest : ℕ → List ℕ) × AreRests rest going × HaveRests docs names rest going
rests_known docs names from [] m are known = (λ n. [], tt, tt)
rests_known docs names from (g ∷ going) m are known =
    let own = rest_came (docs (name_at names g.number)) g.bytes.items g.reader.lexer.ended known.0 in
    let later = rests_known docs names (suc g.number) going m are.1 known.1 in
    let rest = with_rest g.number own.0 later.0 in
    let here : rest g.number ≡ own.0 = rest_here g.number g.number own.0 later.0 refl in
    let next = later_rests docs names g.number own.0 later.0 (suc g.number) going m are.1 (omega arith) (later.1, later.2) in
    (rest, (λ e. here ∙ own.2 e, next.0), (own.1 ∙ ap (λ (l : List ℕ). Some (g.bytes.items ++ l)) (sym here), next.1))

-- that nothing is still to come is always possible
pub no_rests : (going : List Going) → AreRests (λ n. []) going
no_rests [] = tt
no_rests (g ∷ going) = (λ e. refl, no_rests going)

pub rests_front : (rest : ℕ → List ℕ) (front : List Going) (g : Going) → AreRests rest (front ++ g ∷ []) → AreRests rest front × (g.reader.lexer.ended ≡ true → rest g.number ≡ [])
rests_front rest [] g h = (tt, h.0)
rests_front rest (f ∷ front) g h = let r = rests_front rest front g h.1 in ((h.0, r.0), r.1)

pub rests_snoc : (rest : ℕ → List ℕ) (front : List Going) (g : Going) → AreRests rest front → (g.reader.lexer.ended ≡ true → rest g.number ≡ []) → AreRests rest (front ++ g ∷ [])
rests_snoc rest [] g h own = (own, tt)
rests_snoc rest (f ∷ front) g h own = (h.0, rests_snoc rest front g h.1 own)

-- rests that agree on the numbers of files
pub rests_like : (rest other : ℕ → List ℕ) (from : ℕ) (going : List Going) (m : ℕ) → AreNumbered from going m → ((n : ℕ) → n < m → other n ≡ rest n) → AreRests rest going → AreRests other going
rests_like rest other from [] m are same h = tt
rests_like rest other from (g ∷ going) m are same h =
    let le : suc g.number ≤ m = numbered_le (suc g.number) going m are.1 in
    (λ e. same g.number (omega (arith, le)) ∙ h.0 e, rests_like rest other (suc g.number) going m are.1 same h.1)

-- the frames that show the same files with such rests
pub shows_like : (rest other : ℕ → List ℕ) (going : List Going) (frames : List Frame) (m : ℕ) → length (parts_of frames) ≤ m → ((n : ℕ) → n < m → rest n ≡ other n) → Shows rest going frames → Shows other going frames
shows_like rest other going [] m le same shows = shows
shows_like rest other going (f ∷ outer) m le same shows =
    let s = shows.3 in
    let len = length-append (parts_of outer) (f.part ∷ f.done) in
    let number = s.number in (
      shows.0,
      shows.1,
      shows.2,
      record { number = s.number; source = s.source; taken = s.taken; bytes = s.bytes ∙ ap (λ (l : List ℕ). shows.1.bytes.items ++ l) (same shows.1.number (omega (arith, le, len, number))) },
      shows_like rest other shows.0 outer m (omega (arith, le, len)) same shows.4,
    )

-- as many files as frames have parts
pub files_counted : (files : List Doc) (frames : List Frame) → ShowsFiles files frames → length files ≡ length (parts_of frames)
files_counted files [] shows = ap length shows
files_counted files (f ∷ outer) shows =
    let c = files_counted shows.0 outer shows.4 in
    ap length shows.2 ∙ length-append shows.0 (shows.1 ∷ map doc_of f.done) ∙ ap (λ (n : ℕ). n + length (shows.1 ∷ map doc_of f.done)) c
    ∙ ap (λ (n : ℕ). length (parts_of outer) + suc n) (length_map doc_of f.done) ∙ sym (length-append (parts_of outer) (f.part ∷ f.done))

pub shown_numbers : (rest : ℕ → List ℕ) (going : List Going) (files : List Doc) (frames : List Frame) → Shows rest going frames → ShowsFiles files frames → AreNumbered 0 going (length files)
shown_numbers rest going files [] shows in_files = subst (λ (l : List Going). AreNumbered 0 l (length files)) (sym shows) (omega arith)
shown_numbers rest going files (f ∷ outer) shows in_files =
    let before = shown_numbers rest shows.0 in_files.0 outer shows.4 in_files.4 in
    let n : shows.1.number ≡ length in_files.0 = shows.3.number ∙ sym (files_counted in_files.0 outer in_files.4) in
    let len = ap length in_files.2 ∙ length-append in_files.0 (in_files.1 ∷ map doc_of f.done) in
    subst (λ (l : List Going). AreNumbered 0 l (length files)) (sym shows.2) (numbered_snoc 0 shows.0 shows.1 (length in_files.0) (length files) before (omega (arith, n)) (omega (arith, n, len)))

-- their names
pub names_shown : (files : List Doc) (frames : List Frame) → ShowsFiles files frames → names_of files ≡ map (λ (p : Part). p.name) (parts_of frames)
names_shown files [] shows = ap names_of shows
names_shown files (f ∷ outer) shows =
    let name_in : Part → List ℕ = λ p. p.name in
    ap names_of shows.2
    ∙ map_append (λ (d : Doc). d.name) shows.0 (shows.1 ∷ map doc_of f.done)
    ∙ ap (λ (l : List (List ℕ)). l ++ shows.1.name ∷ names_of (map doc_of f.done)) (names_shown shows.0 outer shows.4)
    ∙ ap (λ (n : List ℕ). map name_in (parts_of outer) ++ n ∷ names_of (map doc_of f.done)) shows.3
    ∙ ap (λ (l : List (List ℕ)). map name_in (parts_of outer) ++ f.part.name ∷ l) (names_done f.done)
    ∙ sym (map_append name_in (parts_of outer) (f.part ∷ f.done)) where
      names_done : (done : List Part) → names_of (map doc_of done) ≡ map (λ (p : Part). p.name) done
      names_done [] = refl
      names_done (p ∷ done) = ap (λ (l : List (List ℕ)). p.name ∷ l) (names_done done)

done_are : (docs : Documents) (done : List Part) → AreOf docs (map whole (map doc_of done)) → AreParts docs done
done_are docs [] are = tt
done_are docs (p ∷ done) are = (are.0, done_are docs done are.1)

pub name_first : (a b : List (List ℕ)) (n : ℕ) → n < length a → name_at (a ++ b) n ≡ name_at a n
name_first [] b n lt = absurd (omega (arith, lt))
name_first (x ∷ a) b zero lt = refl
name_first (x ∷ a) b (suc n) lt = name_first a b n (omega (arith, lt))

pub name_there : (a : List (List ℕ)) (x : List ℕ) (b : List (List ℕ)) (n : ℕ) → n ≡ length a → name_at (a ++ x ∷ b) n ≡ x
name_there [] x b n e = ap (name_at (x ∷ b)) e
name_there (y ∷ a) x b zero e = absurd (omega (arith, e))
name_there (y ∷ a) x b (suc n) e = name_there a x b n (omega (arith, e))

pub have_front : (docs : Documents) (names : List (List ℕ)) (rest : ℕ → List ℕ) (front : List Going) (g : Going) → HaveRests docs names rest (front ++ g ∷ []) → HaveRests docs names rest front × (docs (name_at names g.number) ≡ Some (g.bytes.items ++ rest g.number))
have_front docs names rest [] g h = (tt, h.0)
have_front docs names rest (f ∷ front) g h = let r = have_front docs names rest front g h.1 in ((h.0, r.0), r.1)

have_first : (docs : Documents) (a b : List (List ℕ)) (rest : ℕ → List ℕ) (from : ℕ) (going : List Going) → AreNumbered from going (length a) → HaveRests docs (a ++ b) rest going → HaveRests docs a rest going
have_first docs a b rest from [] are h = tt
have_first docs a b rest from (g ∷ going) are h =
    let le : suc g.number ≤ length a = numbered_le (suc g.number) going (length a) are.1 in
    (ap docs (sym (name_first a b g.number (omega (arith, le)))) ∙ h.0, have_first docs a b rest (suc g.number) going are.1 h.1)

-- The documents have the frames' files, where their rests are those of the documents.
pub parts_are : (docs : Documents) (rest : ℕ → List ℕ) (going : List Going) (files : List Doc) (frames : List Frame) → Shows rest going frames → ShowsFiles files frames
    → AreOf docs (seen_of going files) → HaveRests docs (names_of files) rest going → AreParts docs (parts_of frames)
parts_are docs rest going files [] shows in_files are have = tt
parts_are docs rest going files (f ∷ outer) shows in_files are have =
    let front = shows.0 in
    let g = shows.1 in
    let before = in_files.0 in
    let own = in_files.1 in
    let tail = map doc_of f.done in
    let numbers = shown_numbers rest front before outer shows.4 in_files.4 in
    let counted = files_counted before outer in_files.4 in
    let n : g.number ≡ length before = shows.3.number ∙ sym counted in
    let seen : seen_of going files ≡ seen_of front before ++ record { name = own.name; came = came_of g } ∷ map whole tail =
    ap (λ (l : List Going). seen_of l files) shows.2 ∙ ap (seen_of (front ++ g ∷ [])) in_files.2 ∙ seen_there front g before own tail numbers n in
    let all : AreOf docs (seen_of front before ++ record { name = own.name; came = came_of g } ∷ map whole tail) = subst (AreOf docs) seen are in
    let names : names_of files ≡ names_of before ++ own.name ∷ names_of tail = ap names_of in_files.2 ∙ map_append (λ (d : Doc). d.name) before (own ∷ tail) in
    let have_all : HaveRests docs (names_of before ++ own.name ∷ names_of tail) rest (front ++ g ∷ []) =
    subst (λ (ns : List (List ℕ)). HaveRests docs ns rest (front ++ g ∷ [])) names (subst (λ (l : List Going). HaveRests docs (names_of files) rest l) shows.2 have) in
    let split = have_front docs (names_of before ++ own.name ∷ names_of tail) rest front g have_all in
    let count : length (names_of before) ≡ length before = length_map (λ (d : Doc). d.name) before in
    let around : AreParts docs (parts_of outer) =
    parts_are docs rest front before outer shows.4 in_files.4 (are_front docs (seen_of front before) _ all)
    (have_first docs (names_of before) (own.name ∷ names_of tail) rest 0 front (subst (AreNumbered 0 front) (sym count) numbers) split.0) in
    let here : docs f.part.name ≡ Some f.part.bytes =
    ap docs (sym (name_there (names_of before) own.name (names_of tail) g.number (n ∙ sym count) ∙ in_files.3)) ∙ split.1 ∙ ap (λ (l : List ℕ). Some l) (sym shows.3.bytes) in
    are_with docs (parts_of outer) (f.part ∷ f.done) around (here, done_are docs f.done (are_back docs (seen_of front before) _ all).1)
