-- What stays so of a sheet, by what the program keeps of it, where its innermost file wants more bytes.
use Rattle.std.proofs.Common.{◌≡◌, ℕ, zero, suc, ◌+◌, ◌<◌, ◌≤◌, Bool, true, false, List, [], ◌∷◌, ◌++◌, length, get_or, Option, None, refl, sym, ap, ◌∙◌, arith, append_assoc, length-append}
use Rattle.std.proofs.lemmas.Bool.{false≢true}
use Rattle.stx_base.specs.declared.limits.Limits.{Limits}
use Rattle.stx_host.specs.declared.act.Doc.{Doc}
use Rattle.xml_events.specs.Answering.{Goes}
use Rattle.xml_events.specs.Source.{IsAnswer, Leaves, ended_there, fed_with, future}
use Rattle.xml_events.specs.Telling.{pulled}
use Rattle.xml_events.specs.declared.event.Pull.TheVariants as pull
use Rattle.sheet_model.specs.declared.sheet.Sheet.{Sheet}
use Rattle.sheet_loader.specs.Files.{Documents}
use Rattle.sheet_loader.specs.Laws.{ComesToOne}
use Rattle.sheet_loader.specs.Lists.{FilesAre}
use Rattle.sheet_loader.specs.Loaders.{EndsAtLimit, GivesSheet, Standing, is_over, wanted_in}
use Rattle.sheet_loader.specs.Reading.{File}
use Rattle.sheet_loader.specs.Resuming.{CutsList, TakesElement}
use Rattle.sheet_loader.specs.Values.{Reads}
use Rattle.sheet_files.specs.Reading.{AllEnded, AreRests, IsReadBy, IsSoundWithin, Shows}
use Rattle.sheet_files.specs.declared.going.Going.{Going}
use Rattle.sheet_files.proofs.Handing.{byte_follows, end_follows, limit_follows, none_at_limit}
use Rattle.sheet_files.proofs.Opening.{append_none}
use Rattle.sheet_files.proofs.Resting.{files_counted, no_rests, rest_here, rest_other, rests_front, rests_like, rests_snoc, shown_numbers, shows_like, with_rest}
use Rattle.sheet_files.proofs.Turning.{AllStand, Last, last_with, no_documents, read_by, shown_by, some_last, stands_with}

get_first : (xs ys : List ℕ) (n : ℕ) → n < length xs → get_or (xs ++ ys) n 0 ≡ get_or xs n 0
get_first [] ys n lt = absurd (omega (arith, lt))
get_first (x ∷ xs) ys zero lt = refl
get_first (x ∷ xs) ys (suc n) lt = get_first xs ys n (omega (arith, lt))

module _ (limits : Limits) (name : List ℕ) (one : ComesToOne) (cuts_end : (reads : Reads) (files : List (Option File)) → CutsList reads files) (elements : (reads : Reads) (files : List (Option File)) → TakesElement reads files)
    (front : List Going) (g : Going) (files : List Doc) (x : Standing) (left : ℕ)
    (read : IsReadBy limits name (front ++ g ∷ []) files x left []) (on : is_over x.progress ≡ false) (none : wanted_in x.progress ≡ None)
    (wants : pulled (future g.reader [] false) ≡ pull.Need) (not_ended : g.reader.lexer.ended ≡ false) (not_over : g.reader.over ≡ None) (known : g.reader.known ≡ []) where
  answer : IsAnswer g.reader pull.Need
  answer = (wants, not_ended)

  leaves : Leaves g.reader pull.Need g.reader
  leaves = λ more ended. refl

  goes : Goes g.reader pull.Need g.reader
  goes = (not_over, known)

  -- its file with a piece more before what is still to come
  module _ (piece : List ℕ) (docs : Documents) (rest : ℕ → List ℕ) (h : Going) (number : h.number ≡ g.number) (rests : AreRests rest (front ++ h ∷ [])) where
    abbrev pub old : ℕ → List ℕ
    old = with_rest g.number (piece ++ rest g.number) rest

    pub before : Last limits docs name front g files x left old
    before =
        let r = rests_front rest front h rests in
        let some = some_last limits name one front g files x left read on none in
        let counted = files_counted some.in_files.0 some.outer some.in_files.4 in
        let numbers = shown_numbers (λ n. []) front some.in_files.0 some.outer some.around some.in_files.4 in
        let n = some.number in
        let other : (k : ℕ) → k < length some.in_files.0 → old k ≡ rest k = λ k lt. rest_other g.number k (piece ++ rest g.number) rest (λ e. absurd (omega (arith, e, lt, n, counted))) in
        last_with limits name one front g files x left read on none docs old
        (rests_snoc old front g (rests_like rest old 0 front (length some.in_files.0) numbers other r.0) (λ e. absurd (false≢true (sym not_ended ∙ e))))

    pub around : Shows rest front before.outer
    around =
        let n = before.number in
        shows_like old rest front before.outer g.number (omega (arith, n)) (λ k lt. rest_other g.number k (piece ++ rest g.number) rest (λ e. absurd (omega (arith, e, lt)))) before.around

    pub bytes : before.part.bytes ≡ (g.bytes.items ++ piece) ++ rest g.number
    bytes = before.bytes ∙ ap (λ (l : List ℕ). g.bytes.items ++ l) (rest_here g.number g.number (piece ++ rest g.number) rest refl) ∙ sym (append_assoc g.bytes.items piece (rest g.number))

  -- It is given a byte.
  module _ (h : Going) (piece : List ℕ) (byte less : ℕ) (number : h.number ≡ g.number) (has : h.bytes.items ≡ g.bytes.items ++ piece) (within : g.taken < length h.bytes.items)
      (is_byte : byte ≡ get_or h.bytes.items g.taken 0) (is_fed : h.reader ≡ fed_with g.reader (byte ∷ []))
      (fed : (more : List ℕ) (ended : Bool) → future h.reader more ended ≡ future g.reader (byte ∷ more) ended) (taken : h.taken ≡ g.taken + 1) (less_is : left ≡ suc less) where
    byte_all : AllStand limits name (front ++ h ∷ []) files x less
    byte_all docs rest rests =
        let l = before piece docs rest h number rests in
        let f = shown_by g l.part l.lists l.done in
        let all = bytes piece docs rest h number rests ∙ ap (λ (b : List ℕ). b ++ rest g.number) (sym has) in
        let len = ap length all ∙ length-append h.bytes.items (rest g.number) in
        let in_all : g.taken < length l.part.bytes = omega (arith, within, len) in
        let is : byte ≡ get_or l.part.bytes g.taken 0 = is_byte ∙ sym (get_first h.bytes.items (rest g.number) g.taken within) ∙ ap (λ (b : List ℕ). get_or b g.taken 0) (sym all) in
        stands_with limits docs name files x less rest front h (record f { source = h.reader; taken = suc g.taken }) l.outer (number ∙ l.number) refl (omega (arith, taken))
        (all ∙ ap (λ (n : ℕ). h.bytes.items ++ rest n) (sym number)) (around piece docs rest h number rests) l.in_files
        (byte_follows limits docs name cuts_end elements f l.outer x left l.follows on none g.reader answer leaves goes refl h.reader byte less in_all is is_fed fed less_is)

    pub byte_read : IsReadBy limits name (front ++ h ∷ []) files x less []
    byte_read = read_by limits name one (front ++ h ∷ []) files x less byte_all (λ over. absurd (false≢true (sym on ∙ over)))

  -- It is told that there is none.
  module _ (h : Going) (number : h.number ≡ g.number) (same_bytes : h.bytes.items ≡ g.bytes.items) (same_taken : h.taken ≡ g.taken) (no_more : length g.bytes.items ≤ g.taken)
      (is_ended : h.reader ≡ ended_there g.reader) (ended_so : (more : List ℕ) (ended : Bool) → future h.reader more ended ≡ future g.reader [] true) where
    ended_now : h.reader.lexer.ended ≡ true
    ended_now = ap (λ s. s.lexer.ended) is_ended

    end_all : AllStand limits name (front ++ h ∷ []) files x left
    end_all docs rest rests =
        let r = rests_front rest front h rests in
        let l = last_with limits name one front g files x left read on none docs rest (rests_snoc rest front g r.0 (λ e. absurd (false≢true (sym not_ended ∙ e)))) in
        let f = shown_by g l.part l.lists l.done in
        let empty : rest g.number ≡ [] = ap rest (sym number) ∙ r.1 ended_now in
        let len = ap length (l.bytes ∙ ap (λ (b : List ℕ). g.bytes.items ++ b) empty ∙ append_none g.bytes.items) in
        let le = (l.follows.going on).0.within in
        let all : g.taken ≡ length l.part.bytes = omega (arith, le, len, no_more) in
        stands_with limits docs name files x left rest front h (record f { source = h.reader }) l.outer (number ∙ l.number) refl (sym same_taken)
        (l.bytes ∙ ap (λ (b : List ℕ). b ++ rest g.number) (sym same_bytes) ∙ ap (λ (n : ℕ). h.bytes.items ++ rest n) (sym number)) l.around l.in_files
        (end_follows limits docs name cuts_end elements f l.outer x left l.follows on none g.reader answer leaves goes refl h.reader all is_ended ended_so)

    pub end_read : IsReadBy limits name (front ++ h ∷ []) files x left []
    end_read = read_by limits name one (front ++ h ∷ []) files x left end_all (λ over. absurd (false≢true (sym on ∙ over)))

  -- The limit is reached in it.
  module _ (h : Going) (piece : List ℕ) (y : Standing) (number : h.number ≡ g.number) (has : h.bytes.items ≡ g.bytes.items ++ piece) (within : g.taken < length h.bytes.items)
      (same_reader : h.reader ≡ g.reader) (same_taken : h.taken ≡ g.taken) (nothing_left : left ≡ 0)
      (at_limit : EndsAtLimit g.taken x.progress y.progress) (names : y.names ≡ x.names) (over : is_over y.progress ≡ true) (files_are : FilesAre y.names y.progress) where
    limit_all : AllStand limits name (front ++ h ∷ []) files y left
    limit_all docs rest rests =
        let l = before piece docs rest h number rests in
        let f = shown_by g l.part l.lists l.done in
        let all = bytes piece docs rest h number rests ∙ ap (λ (b : List ℕ). b ++ rest g.number) (sym has) in
        let len = ap length all ∙ length-append h.bytes.items (rest g.number) in
        let in_all : g.taken < length l.part.bytes = omega (arith, within, len) in
        stands_with limits docs name files y left rest front h f l.outer (number ∙ l.number) (sym same_reader) (sym same_taken)
        (all ∙ ap (λ (n : ℕ). h.bytes.items ++ rest n) (sym number)) (around piece docs rest h number rests) l.in_files
        (limit_follows limits docs name cuts_end elements f l.outer x left l.follows on none g.reader answer leaves goes refl y nothing_left in_all at_limit names over files_are)

    limit_whole : is_over y.progress ≡ true → Reads → (sheet : Sheet) → GivesSheet y sheet → AllEnded (front ++ h ∷ []) × IsSoundWithin limits sheet
    limit_whole is_so reads sheet gives =
        let rests = no_rests (front ++ h ∷ []) in
        let l = before piece no_documents (λ n. []) h number rests in
        let all = bytes piece no_documents (λ n. []) h number rests ∙ ap (λ (b : List ℕ). b ++ []) (sym has) in
        let len = ap length (all ∙ append_none h.bytes.items) in
        let in_all : g.taken < length l.part.bytes = omega (arith, within, len) in
        absurd (none_at_limit limits no_documents name cuts_end elements (shown_by g l.part l.lists l.done) l.outer x left l.follows on none g.reader answer leaves goes refl y nothing_left in_all at_limit names over files_are sheet gives reads)

    pub limit_read : IsReadBy limits name (front ++ h ∷ []) files y left []
    limit_read = read_by limits name one (front ++ h ∷ []) files y left limit_all limit_whole
