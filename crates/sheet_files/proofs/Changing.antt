-- What was done since a moment, and what came of it, where a file comes, is given back, or is missing.
use Rattle.std.proofs.Common.{◌≡◌, ℕ, suc, ◌≤◌, Bool, true, false, ◌==◌, List, [], ◌∷◌, ◌++◌, map, length, slice_get, Option, Some, None, IfSome, refl, sym, ap, subst, ◌∙◌, arith, append_assoc, inl, inr}
use Rattle.std.proofs.lemmas.Bool.{eq-eqb, ne_eqb}
use Rattle.std.specs.Option.{option_and_then, option_map}
use Rattle.std.specs.Prelude.{if◌then◌else◌}
use Rattle.stx_base.specs.declared.limits.Limits.{Limits}
use Rattle.stx_host.proofs.ToCome.{with_here, with_other}
use Rattle.stx_host.specs.Outside.{Closes, MayOpen, Opens, Outside, SameCounts, and_more, document, place}
use Rattle.stx_host.specs.declared.act.Act.{Act}
use Rattle.stx_host.specs.declared.act.Act.TheVariants.{Open}
use Rattle.stx_host.specs.declared.act.Doc.{Doc}
use Rattle.stx_host.specs.declared.act.Opened.TheVariants.{Absent as Gone, Id}
use Rattle.sheet_loader.specs.Files.{changed}
use Rattle.sheet_loader.specs.Levels.{name_at}
use Rattle.sheet_files.specs.Acts.{given_for, opens, read_since_open}
use Rattle.sheet_files.specs.Held.{AreGiven, AreHeld, AreLimited, AreNumbered, HasRest, IsWithin, came_of, ids_of, names_of, seen_of, with_going}
use Rattle.sheet_files.specs.Opened.{Absent, AreOf, Begun, Came, IsOf, Seen, Whole, place_told, places, whole}
use Rattle.sheet_files.specs.Steps.{AreCloses}
use Rattle.sheet_files.specs.declared.going.Going.{Going}
use Rattle.sheet_files.proofs.Acting.{given_more, opens_more, read_more}
use Rattle.sheet_files.proofs.Coming.{left_files}
use Rattle.sheet_files.proofs.Doing.{HasClosed, closes_give_none, closes_open_none, closes_read_none, counts_closed, counts_then, done_open, done_then, has_closed}
use Rattle.sheet_files.proofs.Ends.{once_entered, once_front, once_quiet, quiet_closes, quiet_open}
use Rattle.sheet_files.proofs.Holding.{AllApart, apart_in, apart_last, ids_front, ids_snoc, limited_front}
use Rattle.sheet_files.proofs.Numbering.{apart_zero, closes_give_no_number, numbers_apart, numbers_entered, numbers_in_front, numbers_still}
use Rattle.sheet_files.proofs.Opening.{append_none, length_map, map_append}
use Rattle.sheet_files.proofs.Resting.{name_there}
use Rattle.sheet_files.proofs.Seeing.{are_joined, as_came, changed_apart, changed_map, numbered_front, numbered_le, seen_there, unchanged_map, with_snoc}
use Rattle.sheet_files.proofs.Within.{Spares, given_apart, given_front, given_names, given_snoc, has_document, if_at, if_told, rest_apart, rest_front, rest_names, rest_snoc, some_at, told_at}

-- where the innermost file's end was told, its bytes may stand with its name
pub seen_front : (from : ℕ) (front : List Going) (g : Going) (seen : List Seen) → AreNumbered from front g.number → with_going front (changed (as_came (came_of g)) g.number seen) ≡ changed (as_came (came_of g)) g.number (with_going front seen)
seen_front from [] g seen are = refl
seen_front from (f ∷ front) g seen are =
    let le : suc f.number ≤ g.number = numbered_le (suc f.number) front g.number are.1 in
    ap (with_going front) (changed_apart (as_came (came_of f)) (as_came (came_of g)) f.number g.number seen (λ e. absurd (omega (arith, e, le))))
    ∙ seen_front (suc f.number) front g (changed (as_came (came_of f)) f.number seen) are.1

pub came_whole : (g : Going) → g.reader.lexer.ended ≡ true → came_of g ≡ Whole g.bytes.items
came_whole g e = ap (λ (b : Bool). if b then Whole g.bytes.items else Begun g.bytes.items) e

pub seen_left : (front : List Going) (g : Going) (files : List Doc) → AreNumbered 0 front g.number → g.reader.lexer.ended ≡ true → seen_of front (left_files g files) ≡ seen_of (front ++ g ∷ []) files
seen_left front g files are ended =
    let h : Doc → Doc = λ d. record d { bytes = g.bytes.items } in
    ap (with_going front) (changed_map whole h (as_came (Whole g.bytes.items)) (λ d. refl) g.number files)
    ∙ ap (λ (c : Came). with_going front (changed (as_came c) g.number (map whole files))) (sym (came_whole g ended))
    ∙ seen_front 0 front g (map whole files) are
    ∙ sym (with_snoc front g (map whole files))

pub names_left : (g : Going) (files : List Doc) → names_of (left_files g files) ≡ names_of files
names_left g files = unchanged_map (λ (d : Doc). d.name) (λ (d : Doc). record d { bytes = g.bytes.items }) (λ d. refl) g.number files

closed_other : (o p : Outside) (id k : ℕ) → Closes o id p → (k ≡ id → ⊥) → p.to_come k ≡ o.to_come k
closed_other o p id k closes apart =
    elim closes [ inl e ↦ ap (λ (q : Outside). q.to_come k) e ∙ with_other o.to_come id None k apart | inr e ↦ ap (λ (q : Outside). q.to_come k) e ∙ with_other o.to_come id None k apart ]

closed_spares : (id : ℕ) (acts : List Act) → AreCloses acts → Spares id acts
closed_spares id acts closes k apart = (λ b. closes_read_none b k acts closes, λ b. closes_give_none b k acts closes)

module _ (start o : Outside) (limits : Limits) (front : List Going) (g : Going) (files : List Doc) (acts : List Act) (within : IsWithin start o (front ++ g ∷ []) files [] acts) (held : AreHeld o limits (front ++ g ∷ []) (length files)) where
  apart_here : (s : List ℕ) → start.open_ids ≡ Some s → AllApart g.id front
  apart_here s e =
      let ids = within.ids ∙ ap (λ (t : Option (List ℕ)). and_more t (ids_of (front ++ g ∷ []))) e in
      apart_last front g (s ++ ids_of (front ++ g ∷ [])) (some_at _ o.open_ids (s ++ ids_of (front ++ g ∷ [])) ids held.last)

  -- The innermost file is given back.
  module _ (p : Outside) (ended : g.reader.lexer.ended ≡ true) (closes : Closes o g.id p) where
    abbrev pub closed_acts : HasClosed o p
    closed_acts = has_closed o p g.id (limited_front limits front g held.limited).1 closes

    left_told : (s : List ℕ) (docs : List Doc) → start.open_ids ≡ Some s → start.documents ≡ Some docs → AreOf (document docs) (seen_of front (left_files g files) ++ []) × HasRest docs p (names_of (left_files g files)) front
    left_told s docs e d =
        let old = told_at (λ docs. AreOf (document docs) (seen_of (front ++ g ∷ []) files ++ []) × HasRest docs o (names_of files) (front ++ g ∷ [])) start.open_ids start.documents s docs e d within.told in
        let split = rest_front docs o (names_of files) front g old.1 in
        let numbers = (numbered_front 0 front g (length files) held.numbered).0 in (
          subst (λ (l : List Seen). AreOf (document docs) (l ++ [])) (sym (seen_left front g files numbers ended)) old.0,
          subst (λ (ns : List (List ℕ)). HasRest docs p ns front) (sym (names_left g files))
              (rest_apart docs o p (names_of files) g.id front (apart_here s e) (λ k apart. closed_other o p g.id k closes apart) split.0),
        )

    left_given : (s : List ℕ) → start.open_ids ≡ Some s → AreGiven start (acts ++ closed_acts.acts) (names_of (left_files g files)) front
    left_given s e =
        let old = given_front start acts (names_of files) front g (some_at _ start.open_ids s e within.given) in
        subst (λ (ns : List (List ℕ)). AreGiven start (acts ++ closed_acts.acts) ns front) (sym (names_left g files))
        (given_apart start acts closed_acts.acts (names_of files) g.id front (apart_here s e) (closed_spares g.id closed_acts.acts closed_acts.closes) old.0)

    pub within_left : IsWithin start p front (left_files g files) [] (acts ++ closed_acts.acts)
    within_left = record {
      done = done_then start o p acts closed_acts.acts within.done closed_acts.done;
      opened = opens_more acts closed_acts.acts ∙ ap (λ (l : List (Option ℕ)). opens acts ++ l) (closes_open_none closed_acts.acts closed_acts.closes) ∙ append_none (opens acts) ∙ within.opened
          ∙ ap (λ (ns : List (List ℕ)). places start (ns ++ [])) (sym (names_left g files));
      ids = ids_front o p limits front g (length files) held closes start.open_ids within.ids;
      told = if_told start.open_ids start.documents left_told;
      given = if_at start.open_ids left_given;
      once = if_at start.open_ids (λ s e. once_quiet acts closed_acts.acts front (once_front acts front g (some_at _ start.open_ids s e within.once)) (quiet_closes closed_acts.acts closed_acts.closes));
      numbers = if_at start.open_ids (λ s e. numbers_still acts closed_acts.acts front (closes_give_no_number closed_acts.acts closed_acts.closes) (numbers_in_front acts front g (some_at _ start.open_ids s e within.numbers)).0);
      counts = counts_then start o p within.counts (counts_closed o p g.id closes);
    }

open_other : (doc : Option ℕ) (id : ℕ) → Spares id (Open doc id ∷ [])
open_other doc id k apart =
    let e : (id == k) ≡ false = ne_eqb id k (λ h. apart (sym h)) in
    (λ b. ap (λ (x : Bool). if x then 0 else b) e, λ b. ap (λ (x : Bool). if x then Some doc else b) e)

names_one : (files : List Doc) (own : Doc) → names_of (files ++ own ∷ []) ≡ names_of files ++ own.name ∷ []
names_one files own = map_append (λ (d : Doc). d.name) files (own ∷ [])

-- as many documents were opened as there are files
pub opens_counted : (start o : Outside) (going : List Going) (files : List Doc) (acts : List Act) → IsWithin start o going files [] acts → length (opens acts) ≡ length files
opens_counted start o going files acts within =
    ap length (within.opened ∙ ap (places start) (append_none (names_of files))) ∙ length_map (place_told start) (names_of files) ∙ length_map (λ (d : Doc). d.name) files

module _ (start o : Outside) (limits : Limits) (going : List Going) (files : List Doc) (acts : List Act) (within : IsWithin start o going files [] acts) (held : AreHeld o limits going (length files)) where
  documents_same : o.documents ≡ start.documents
  documents_same = within.done.between.documents

  -- A file was opened.
  module _ (p : Outside) (name : List ℕ) (h : Going) (may : MayOpen o name (Id h.id)) (does : Opens o name (Id h.id) p) (number : h.number ≡ length files) (empty : h.bytes.items ≡ []) (not_ended : h.reader.lexer.ended ≡ false) where
    abbrev own : Doc
    own = record { name = name; bytes = [] }

    abbrev doc : Option ℕ
    doc = option_and_then (λ docs. place docs name) o.documents

    doc_is : doc ≡ place_told start name
    doc_is = ap (λ (d : Option (List Doc)). option_and_then (λ docs. place docs name) d) documents_same

    ids_now : (s : List ℕ) → start.open_ids ≡ Some s → AllApart h.id going
    ids_now s e =
        let ids = within.ids ∙ ap (λ (t : Option (List ℕ)). and_more t (ids_of going)) e in
        apart_in s h.id going (some_at _ o.open_ids (s ++ ids_of going) ids may.not_open)

    here : name_at (names_of files ++ name ∷ []) h.number ≡ name
    here = name_there (names_of files) name [] h.number (number ∙ sym (length_map (λ (d : Doc). d.name) files))

    numbers : AreNumbered 0 going (length (names_of files))
    numbers = subst (AreNumbered 0 going) (sym (length_map (λ (d : Doc). d.name) files)) held.numbered

    came_begun : came_of h ≡ Begun []
    came_begun = ap (λ (b : Bool). if b then Whole h.bytes.items else Begun h.bytes.items) not_ended ∙ ap Begun empty

    entered_told : (s : List ℕ) (docs : List Doc) → start.open_ids ≡ Some s → start.documents ≡ Some docs → AreOf (document docs) (seen_of (going ++ h ∷ []) (files ++ own ∷ []) ++ []) × HasRest docs p (names_of (files ++ own ∷ [])) (going ++ h ∷ [])
    entered_told s docs e d =
        let old = told_at (λ docs. AreOf (document docs) (seen_of going files ++ []) × HasRest docs o (names_of files) going) start.open_ids start.documents s docs e d within.told in
        let docs_here : o.documents ≡ Some docs = documents_same ∙ d in
        let found = has_document docs name (some_at _ o.documents docs docs_here may.known) in
        let seen = subst (AreOf (document docs)) (append_none (seen_of going files)) old.0 in
        let is_of : IsOf (document docs name) (came_of h) = subst (IsOf (document docs name)) (sym came_begun) (found.0, found.1) in
        let to_come : p.to_come h.id ≡ Some found.0 =
        ap (λ (q : Outside). q.to_come h.id) does
        ∙ with_here o.to_come h.id (option_and_then (λ ds. document ds name) o.documents) ∙ ap (λ (x : Option (List Doc)). option_and_then (λ ds. document ds name) x) docs_here ∙ found.1 in (
          subst (AreOf (document docs)) (sym (append_none (seen_of (going ++ h ∷ []) (files ++ own ∷ [])) ∙ seen_there going h files own [] held.numbered number))
              (are_joined (document docs) (seen_of going files) (record { name = name; came = came_of h } ∷ []) seen (is_of, tt)),
          subst (λ (ns : List (List ℕ)). HasRest docs p ns (going ++ h ∷ [])) (sym (names_one files own))
              (rest_snoc docs p (names_of files ++ name ∷ []) going h
              (rest_apart docs o p (names_of files ++ name ∷ []) h.id going (ids_now s e)
              (λ k apart. ap (λ (q : Outside). q.to_come k) does ∙ with_other o.to_come h.id (option_and_then (λ ds. document ds name) o.documents) k apart)
              (rest_names docs o (names_of files) (name ∷ []) 0 going numbers old.1))
              (found.0, to_come, ap (document docs) here ∙ found.1 ∙ ap (λ (l : List ℕ). Some (l ++ found.0)) (sym empty))),
        )

    entered_given : (s : List ℕ) → start.open_ids ≡ Some s → AreGiven start (acts ++ Open doc h.id ∷ []) (names_of (files ++ own ∷ [])) (going ++ h ∷ [])
    entered_given s e =
        let same : (h.id == h.id) ≡ true = eq-eqb h.id h.id refl in
        subst (λ (ns : List (List ℕ)). AreGiven start (acts ++ Open doc h.id ∷ []) ns (going ++ h ∷ [])) (sym (names_one files own))
        (given_snoc start (acts ++ Open doc h.id ∷ []) (names_of files ++ name ∷ []) going h
        (given_names start (acts ++ Open doc h.id ∷ []) (names_of files) (name ∷ []) 0 going numbers
        (given_apart start acts (Open doc h.id ∷ []) (names_of files) h.id going (ids_now s e) (open_other doc h.id) (some_at _ start.open_ids s e within.given))) (
          given_more None h.id acts (Open doc h.id ∷ []) ∙ ap (λ (x : Bool). if x then Some doc else given_for h.id acts) same ∙ ap (λ (d : Option ℕ). Some d) (doc_is ∙ ap (place_told start) (sym here)),
          read_more 0 h.id acts (Open doc h.id ∷ []) ∙ ap (λ (x : Bool). if x then 0 else read_since_open h.id acts) same ∙ ap length (sym empty),
        ))

    pub within_entered : IsWithin start p (going ++ h ∷ []) (files ++ own ∷ []) [] (acts ++ Open doc h.id ∷ [])
    within_entered = record {
      done = done_then start o p acts (Open doc h.id ∷ []) within.done (done_open o p name (Id h.id) may does);
      opened = opens_more acts (Open doc h.id ∷ []) ∙ ap (λ (l : List (Option ℕ)). l ++ doc ∷ []) (within.opened ∙ ap (places start) (append_none (names_of files)))
          ∙ ap (λ (d : Option ℕ). places start (names_of files) ++ d ∷ []) doc_is
          ∙ sym (map_append (place_told start) (names_of files) (name ∷ []))
          ∙ ap (places start) (sym (names_one files own) ∙ sym (append_none (names_of (files ++ own ∷ []))));
      ids = ap (λ (q : Outside). q.open_ids) does ∙ ap (λ (t : Option (List ℕ)). and_more t (h.id ∷ [])) within.ids ∙ more_twice start.open_ids (ids_of going) (h.id ∷ []) ∙ ap (and_more start.open_ids) (sym (ids_snoc going h));
      told = if_told start.open_ids start.documents entered_told;
      given = if_at start.open_ids entered_given;
      once = if_at start.open_ids (λ s e. once_entered acts doc going h (some_at _ start.open_ids s e within.once));
      numbers = if_at start.open_ids (λ s e. numbers_entered acts doc going h (ids_now s e) (number ∙ sym (opens_counted start o going files acts within)) (some_at _ start.open_ids s e within.numbers));
      counts = counts_then start o p within.counts (subst (SameCounts o) (sym does) (record { doc = refl; main = refl; out = refl; note = refl }));
    } where
      more_twice : (t : Option (List ℕ)) (a b : List ℕ) → and_more (and_more t a) b ≡ and_more t (a ++ b)
      more_twice None a b = refl
      more_twice (Some x) a b = ap (λ (l : List ℕ). Some l) (append_assoc x a b)

  -- A file is absent.
  module _ (p : Outside) (name : List ℕ) (may : MayOpen o name Gone) (does : Opens o name Gone p) where
    abbrev missed : List Seen
    missed = record { name = name; came = Absent } ∷ []

    gone_is : None ≡ place_told start name
    gone_is = none_by o.documents refl may ∙ ap (λ (d : Option (List Doc)). option_and_then (λ docs. place docs name) d) documents_same where
      none_by : (told : Option (List Doc)) → told ≡ o.documents → IfSome told (λ docs. place docs name ≡ None) → None ≡ option_and_then (λ docs. place docs name) o.documents
      none_by None e none = ap (λ (d : Option (List Doc)). option_and_then (λ docs. place docs name) d) e
      none_by (Some docs) e none = sym none ∙ ap (λ (d : Option (List Doc)). option_and_then (λ docs. place docs name) d) e

    absent_told : (s : List ℕ) (docs : List Doc) → start.open_ids ≡ Some s → start.documents ≡ Some docs → AreOf (document docs) (seen_of going files ++ missed) × HasRest docs p (names_of files) going
    absent_told s docs e d =
        let old = told_at (λ docs. AreOf (document docs) (seen_of going files ++ []) × HasRest docs o (names_of files) going) start.open_ids start.documents s docs e d within.told in
        let seen = subst (AreOf (document docs)) (append_none (seen_of going files)) old.0 in
        let none : place docs name ≡ None = some_at (λ docs. place docs name ≡ None) o.documents docs (documents_same ∙ d) may in
        let gone : document docs name ≡ None = ap (λ o. option_and_then (λ (i : ℕ). option_map (λ (doc : Doc). doc.bytes) (slice_get docs i)) o) none in
        let same : p.to_come ≡ o.to_come = ap (λ (q : Outside). q.to_come) does in
        (are_joined (document docs) (seen_of going files) missed seen (gone, tt), rest_same docs (names_of files) going old.1 (λ k. ap (λ (f : ℕ → Option (List ℕ)). f k) same)) where
          rest_same : (docs : List Doc) (names : List (List ℕ)) (going : List Going) → HasRest docs o names going → ((k : ℕ) → p.to_come k ≡ o.to_come k) → HasRest docs p names going
          rest_same docs names [] h same = tt
          rest_same docs names (f ∷ going) h same = ((h.0.0, same f.id ∙ h.0.1, h.0.2), rest_same docs names going h.1 same)

    spared : (names : List (List ℕ)) (going : List Going) → AreLimited limits going → AreGiven start acts names going → AreGiven start (acts ++ Open None 0 ∷ []) names going
    spared names [] are given = tt
    spared names (f ∷ going) are given =
        let some = are.0 in
        let s = open_other None 0 f.id (λ e. absurd (omega (arith, e, some))) in
        ((given_more None f.id acts (Open None 0 ∷ []) ∙ s.1 (given_for f.id acts) ∙ given.0.0, read_more 0 f.id acts (Open None 0 ∷ []) ∙ s.0 (read_since_open f.id acts) ∙ given.0.1), spared names going are.2 given.1)

    pub within_absent : IsWithin start p going files missed (acts ++ Open None 0 ∷ [])
    within_absent = record {
      done = done_then start o p acts (Open None 0 ∷ []) within.done (done_open o p name Gone may does);
      opened = opens_more acts (Open None 0 ∷ []) ∙ ap (λ (l : List (Option ℕ)). l ++ None ∷ []) (within.opened ∙ ap (places start) (append_none (names_of files)))
          ∙ ap (λ (d : Option ℕ). places start (names_of files) ++ d ∷ []) gone_is ∙ sym (map_append (place_told start) (names_of files) (name ∷ []));
      ids = ap (λ (q : Outside). q.open_ids) does ∙ within.ids;
      told = if_told start.open_ids start.documents absent_told;
      given = if_at start.open_ids (λ s e. spared (names_of files) going held.limited (some_at _ start.open_ids s e within.given));
      once = if_at start.open_ids (λ s e. once_quiet acts (Open None 0 ∷ []) going (some_at _ start.open_ids s e within.once) (quiet_open None 0));
      numbers = if_at start.open_ids (λ s e. numbers_apart acts None 0 going (apart_zero limits going held.limited) (some_at _ start.open_ids s e within.numbers));
      counts = counts_then start o p within.counts (subst (SameCounts o) (sym does) (record { doc = refl; main = refl; out = refl; note = refl }));
    }
