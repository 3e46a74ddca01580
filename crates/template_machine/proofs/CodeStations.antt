-- The code of a sheet has stations.
use Rattle.std.proofs.Common.{◌≡◌, ℕ, zero, suc, ◌+◌, ◌-◌, ◌<◌, ◌≤◌, inl, inr, List, [], ◌∷◌, ◌++◌, length, map, Some, refl, ap, sym, subst, ◌∙◌, arith, append-nil, append_assoc, length-append}
use Rattle.std.proofs.lemmas.List.{length-map}
use Rattle.std.specs.List.{slice_get}
use Rattle.std.specs.Option.{option_map}
use Rattle.std.proofs.lemmas.Option.{slice_get-map, slice_get_within}
use Rattle.instr_code.specs.Bodies.{body_pieces, joined}
use Rattle.instr_code.specs.Code.{code_of, sheet_bodies, starts}
use Rattle.instr_code.specs.Layout.{body_piece, pieces}
use Rattle.instr_code.specs.Piece.{in_order}
use Rattle.instr_code.specs.declared.code.Code.{Code}
use Rattle.instr_code.specs.declared.code.Op.{Op}
use Rattle.instr_code.specs.declared.code.Op.TheVariants as op
use Rattle.instr_code.proofs.Bounds.{all_bodies}
use Rattle.instr_code.proofs.Turns.{count_of}
use Rattle.sheet_model.specs.Body.{all_of, instructions}
use Rattle.sheet_model.specs.declared.instr.Instr.{Instr}
use Rattle.sheet_model.specs.declared.sheet.Procedure.{Procedure}
use Rattle.sheet_model.specs.declared.sheet.Sheet.{Sheet}
use Rattle.sheet_model.specs.declared.sheet.Template.{Template}
use Rattle.sheet_model.specs.declared.sheet.Variable.{Variable}
use Rattle.sheet_model.proofs.Lists.{got_before, got_behind}
use Rattle.template_machine.specs.Contexts.{Context, Goes, HasStations, IsAt, Leads, Station, begun}
use Rattle.template_machine.specs.Programs.{end_of}
use Rattle.template_machine.proofs.Laying.{AreLed, AreOwn, Holds, holds_first, holds_second, led_append, own_append, own_at}
use Rattle.template_machine.proofs.LaidOut.{end, end_here, end_later, ends}
use Rattle.template_machine.proofs.Numbering.{in_either}
use Rattle.template_machine.proofs.Places.{Numbered, got_at, numbered_first, numbered_second}
use Rattle.instr_code.proofs.Sized.{sized}
use Rattle.template_machine.proofs.Stations.{after, after_is, laid, to_number}

-- a list of instructions changes locals alone
loops_stay : (list : List Instr) (body : ℕ) (params : List Variable) → ((after list (begun body params)).loops ≡ 0) × ((after list (begun body params)).writing ≡ [])
loops_stay list body params =
    let e = after_is list (begun body params) in (ap (λ (c : Context). c.loops) e, ap (λ (c : Context). c.writing) e)

-- all stations stand where they stand
holds_behind : (before xs : List Station) → Holds (before ++ xs) (length before) xs
holds_behind before [] = tt
holds_behind before (x ∷ xs) =
    let more : Holds ((before ++ x ∷ []) ++ xs) (length (before ++ x ∷ [])) xs = holds_behind (before ++ x ∷ []) xs in
    let whole = append_assoc before (x ∷ []) xs in
    let long : length (before ++ x ∷ []) ≡ length before + 1 = length-append before (x ∷ []) in (
      got_at before xs x (length before) refl,
      subst (λ n. Holds (before ++ x ∷ xs) n xs) long (subst (λ l. Holds l (length (before ++ x ∷ [])) xs) whole more),
    )

led_at : (code : Code) (all : List Station) (p k : ℕ) (ops : List Op) (xs : List Station) (o : Op) (c : Context) (r : ℕ) → AreLed code all p ops xs
    → slice_get ops k ≡ Some o → slice_get xs k ≡ Some (record { context = c; rank = r }) → Leads code all (p + k) c r o
led_at code all p k [] xs o c r h is at = absurd (omega (arith, slice_get_within [] k o is))
led_at code all p k (a ∷ ops) [] o c r h is at = absurd h
led_at code all p zero (a ∷ ops) (x ∷ xs) o c r h is at =
    let same : a ≡ o = cc in
    let there : x ≡ record { context = c; rank = r } = cc in
    subst (λ n. Leads code all n c r o) (omega arith)
    (subst (λ (y : Station). Leads code all p y.context y.rank o) there (subst (Leads code all p x.context x.rank) same h.0))
led_at code all p (suc k) (a ∷ ops) (x ∷ xs) o c r h is at =
    subst (λ n. Leads code all n c r o) (omega arith) (led_at code all (p + 1) k ops xs o c r h.1 is at)

module _ (sheet : Sheet) where
  abbrev code : Code
  code = code_of sheet

  -- a place is of one of these bodies, the first of which stands from a place on and has a number
  record IsOfOne (lists : List (List Instr)) (number p place body : ℕ) : Type 0 where
    which : ℕ
    is : body ≡ number + which
    start : ℕ
    there : slice_get (starts p (body_pieces lists)) which ≡ Some start
    behind : start ≤ place
    before : place < end p (body_pieces lists) which

  -- bodies with their parameters, the first of which has a number, and its first instruction one
  record AllLaid (number : ℕ) (lists : List (List Instr)) (params : List (List Variable)) (m p : ℕ) : Type 0 where
    stations : List Station
    long : length stations ≡ length ((in_order (body_pieces lists)).ops m p)
    own : (k : ℕ) (x : Station) → slice_get stations k ≡ Some x → IsOfOne lists number p (p + k) x.context.body
    leads : (all : List Station) → Holds all p stations → AreLed code all p ((in_order (body_pieces lists)).ops m p) stations
    begins :
        (all : List Station) (n : ℕ) (list : List Instr) (vs : List Variable) → Holds all p stations → slice_get lists n ≡ Some list
        → slice_get params n ≡ Some vs → (start : ℕ) × ((slice_get (starts p (body_pieces lists)) n ≡ Some start) × Goes all start (begun (number + n) vs))

  body_long : (list : List Instr) (m p : ℕ) → length ((body_piece list).ops m p) ≡ (body_piece list).size
  body_long list m p = omega (arith, (sized list).long m p, length-append ((in_order (pieces list)).ops m p) (op.Return ∷ []))

  -- one body more
  one_more : (number : ℕ) (list : List Instr) (vs : List Variable) (lists : List (List Instr)) (params : List (List Variable)) (m p : ℕ)
      → Numbered (instructions sheet) list m → AllLaid (number + 1) lists params (m + (body_piece list).numbers) (p + (body_piece list).size)
      → AllLaid number (list ∷ lists) (vs ∷ params) m p
  one_more number list vs lists params m p numbered rest =
      let x = in_order (pieces list) in
      let body = body_piece list in
      let c = after list (begun number vs) in
      let l = laid sheet list m p (begun number vs) 0 numbered in
      let last : Station = record { context = c; rank = 0 } in
      let own = l.stations ++ last ∷ [] in
      let others = (in_order (body_pieces lists)).ops (m + body.numbers) (p + body.size) in
      let long : length own ≡ length (body.ops m p) = omega (arith, length-append l.stations (last ∷ []), length-append (x.ops m p) (op.Return ∷ []), l.long) in
      let size = body_long list m p in
      let alike : AreOwn number own = own_append number l.stations (last ∷ []) l.own (l.same, tt) in
      record {
        stations = own ++ rest.stations;
        long = omega (arith, length-append own rest.stations, length-append (body.ops m p) others, long, rest.long);
        own = λ k y is.
            elim (in_either own rest.stations k y is) [
              | inl h ↦ first_one k y (own_at number own k y alike h.1) (omega (arith, h.0, long, size))
              | inr h ↦ later_one k y (omega (arith, h.0, long, size)) (rest.own (k - length own) y h.1) (omega (arith, long, size))
            ];
        leads = λ all h.
            let mine = holds_first all p own rest.stations h in
            let theirs = holds_second all p (p + body.size) own rest.stations (omega (arith, long, size)) h in
            let first = holds_first all p l.stations (last ∷ []) mine in
            let end = holds_second all p (p + length (x.ops m p)) l.stations (last ∷ []) (omega (arith, l.long)) mine in
            led_append code all p (p + body.size) (body.ops m p) own others rest.stations (omega (arith, size))
            (led_append code all p (p + length (x.ops m p)) (x.ops m p) l.stations (op.Return ∷ []) (last ∷ []) refl
            (l.leads all tt first end.0) (loops_stay list number vs, tt))
            (rest.leads all theirs);
        begins = λ all n b w h is at.
            let mine = holds_first all p own rest.stations h in
            let theirs = holds_second all p (p + body.size) own rest.stations (omega (arith, long, size)) h in
            let first = holds_first all p l.stations (last ∷ []) mine in
            let end = holds_second all p (p + length (x.ops m p)) l.stations (last ∷ []) (omega (arith, l.long)) mine in
            here_or_later all (l.begins all tt first end.0) theirs n b w is at;
      }
    where
      first_one : (k : ℕ) (y : Station) → y.context.body ≡ number → k < (body_piece list).size → IsOfOne (list ∷ lists) number p (p + k) y.context.body
      first_one k y same less = record {
        which = 0;
        is = omega (arith, same);
        start = p;
        there = refl;
        behind = omega arith;
        before = omega (arith, end_here p (body_piece list) (body_pieces lists), less);
      }

      later_one : (k : ℕ) (y : Station) → (body_piece list).size ≤ k → {long : ℕ} → IsOfOne lists (number + 1) (p + (body_piece list).size) (p + (body_piece list).size + (k - long)) y.context.body
          → long ≡ (body_piece list).size → IsOfOne (list ∷ lists) number p (p + k) y.context.body
      later_one k y more o same = record {
        which = suc o.which;
        is = omega (arith, o.is);
        start = o.start;
        there = o.there;
        behind = omega (arith, o.behind, same, more);
        before = omega (arith, o.before, end_later p (body_piece list) (body_pieces lists) o.which, same, more);
      }

      here_or_later : (all : List Station) → IsAt all p (begun number vs) (laid sheet list m p (begun number vs) 0 numbered).high
          → Holds all (p + (body_piece list).size) rest.stations → (n : ℕ) (b : List Instr) (w : List Variable)
          → slice_get (list ∷ lists) n ≡ Some b → slice_get (vs ∷ params) n ≡ Some w
          → (start : ℕ) × ((slice_get (starts p (body_pieces (list ∷ lists))) n ≡ Some start) × Goes all start (begun (number + n) w))
      here_or_later all here theirs zero b w is at =
          let same : vs ≡ w = cc in
          let first : number + 0 ≡ number = omega arith in (
            p,
            (
              refl,
              (
                (laid sheet list m p (begun number vs) 0 numbered).high,
                subst (λ k. IsAt all p (begun k w) (laid sheet list m p (begun number vs) 0 numbered).high) (sym first)
                    (subst (λ v. IsAt all p (begun number v) (laid sheet list m p (begun number vs) 0 numbered).high) same here),
              ),
            ),
          )
      here_or_later all here theirs (suc n) b w is at =
          let g = rest.begins all n b w theirs is at in
          (g.0, (g.1.0, subst (λ k. Goes all g.0 (begun k w)) (omega arith) g.1.1))

  all_laid : (number : ℕ) (lists : List (List Instr)) (params : List (List Variable)) (m p : ℕ) → length lists ≡ length params → Numbered (instructions sheet) (joined lists) m
      → AllLaid number lists params m p
  all_laid number [] params m p e numbered =
      record { stations = []; long = refl; own = λ k x is. absurd (omega (arith, slice_get_within [] k x is)); leads = λ all h. tt; begins = λ all n b w h is at. absurd (omega (arith, slice_get_within [] n b is)) }
  all_laid number (list ∷ lists) [] m p e numbered = absurd (omega (arith, e))
  all_laid number (list ∷ lists) (vs ∷ params) m p e numbered =
      let body = body_piece list in
      one_more number list vs lists params m p (numbered_first (instructions sheet) list (joined lists) m numbered)
      (all_laid (number + 1) lists params (m + body.numbers) (p + body.size) (omega (arith, e))
      (to_number (instructions sheet) (joined lists) (m + count_of list) (m + body.numbers) (omega arith) (numbered_second (instructions sheet) list (joined lists) m numbered)))

  -- the parameters of all bodies
  abbrev all_params : List (List Variable)
  all_params = map (λ (t : Template). t.params) sheet.templates ++ map (λ (q : Procedure). q.params) sheet.procedures

  whole : AllLaid 0 (sheet_bodies sheet) all_params 0 0
  whole =
      all_laid 0 (sheet_bodies sheet) all_params 0 0
      (omega (
        arith,
        length-append (map (λ (t : Template). t.body) sheet.templates) (map (λ (q : Procedure). q.body) sheet.procedures),
        length-append (map (λ (t : Template). t.params) sheet.templates) (map (λ (q : Procedure). q.params) sheet.procedures),
        length-map sheet.templates (λ (t : Template). t.body),
        length-map sheet.templates (λ (t : Template). t.params),
        length-map sheet.procedures (λ (q : Procedure). q.body),
        length-map sheet.procedures (λ (q : Procedure). q.params),
      ))
      (record { before = []; rest = []; whole = all_numbered; place = refl })
    where
      all_numbered : instructions sheet ≡ [] ++ (all_of (joined (sheet_bodies sheet)) ++ [])
      all_numbered = ap all_of (sym (all_bodies sheet)) ∙ sym (append-nil (all_of (joined (sheet_bodies sheet))))

  -- the stations of the code
  pub stations_of : List Station
  stations_of = whole.stations

  hold : Holds stations_of 0 stations_of
  unfolding stations_of
  hold = holds_behind [] whole.stations

  mapped : {A B : Type 0} (f : A → B) (xs : List A) (n : ℕ) (x : A) → slice_get xs n ≡ Some x → slice_get (map f xs) n ≡ Some (f x)
  mapped f xs n x is = slice_get-map f xs n ∙ ap (option_map f) is

  behind_them : {A B C : Type 0} (f : A → C) (g : B → C) (xs : List A) (ys : List B) (n : ℕ) (y : B) → slice_get ys n ≡ Some y
      → slice_get (map f xs ++ map g ys) (length xs + n) ≡ Some (g y)
  behind_them f g xs ys n y is =
      subst (λ k. slice_get (map f xs ++ map g ys) (k + n) ≡ Some (g y)) (length-map xs f)
      (got_behind (map f xs) (map g ys) n (g y) (mapped g ys n y is))

  -- a body is numbered from the first one on
  from_zero : (n : ℕ) → 0 + n ≡ n
  from_zero n = omega arith

  begins_as : (all : List Station) (starts_are : List ℕ) (n : ℕ) (vs : List Variable) → (start : ℕ) × ((slice_get starts_are n ≡ Some start) × Goes all start (begun (0 + n) vs))
      → (start : ℕ) × ((slice_get starts_are n ≡ Some start) × Goes all start (begun n vs))
  begins_as all starts_are n vs g = (g.0, (g.1.0, subst (λ (k : ℕ). Goes all g.0 (begun k vs)) (from_zero n) g.1.1))

  -- each operation has a station
  pub has_stations : HasStations code stations_of sheet
  unfolding stations_of
  has_stations = record {
    each = whole.long;
    own = λ place c r is.
        let o = whole.own place (record { context = c; rank = r }) is in
        let same : c.body ≡ o.which = omega (arith, o.is) in
        record {
          start = o.start;
          starts = ap (slice_get code.starts) same ∙ o.there;
          behind = omega (arith, o.behind);
          before = omega (arith, o.before, ends sheet o.which, ap (end_of code) same);
        };
    leads = λ place o c r is at.
        subst (λ n. Leads code whole.stations n c r o) (omega arith)
        (led_at code whole.stations 0 place code.ops whole.stations o c r (whole.leads whole.stations hold) is at);
    templates = λ n t is.
        begins_as whole.stations code.starts n t.params
        (whole.begins whole.stations n t.body t.params hold
        (got_before (map (λ (t : Template). t.body) sheet.templates) (map (λ (q : Procedure). q.body) sheet.procedures) n t.body
        (mapped (λ (t : Template). t.body) sheet.templates n t is))
        (got_before (map (λ (t : Template). t.params) sheet.templates) (map (λ (q : Procedure). q.params) sheet.procedures) n t.params
        (mapped (λ (t : Template). t.params) sheet.templates n t is)));
    procedures = λ n q is.
        begins_as whole.stations code.starts (length sheet.templates + n) q.params
        (whole.begins whole.stations (length sheet.templates + n) q.body q.params hold
        (behind_them (λ (t : Template). t.body) (λ (q : Procedure). q.body) sheet.templates sheet.procedures n q is)
        (behind_them (λ (t : Template). t.params) (λ (q : Procedure). q.params) sheet.templates sheet.procedures n q is));
  }
