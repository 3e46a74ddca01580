-- What was said so far, and one exchange more.
use Rattle.std.proofs.Common.{◌≡◌, ℕ, ◌||◌, Bool, true, false, List, [], ◌∷◌, ◌++◌, refl, sym, ap, subst, ◌∙◌, append_assoc}
use Rattle.std.proofs.lemmas.List.{append-nil}
use Rattle.run_engine.specs.Run.{Run}
use Rattle.sheet_runs.specs.Talk.{Besides, Exchange, Gives, Leads, beside_in, beside_with, bytes_in, is_main_end, main_bytes, main_ends, main_in, name_asked, names_in, notes_in}

pub leads-then : (start run : Run) (talk : List Exchange) (x : Exchange) → Leads start talk run → Gives run x → Leads start (talk ++ x ∷ []) x.run
leads-then start run [] x is gives = (subst (λ r. Gives r x) is gives, refl)
leads-then start run (y ∷ talk) x leads gives = (leads.0, leads-then y.run run talk x leads.1 gives)

pub bytes-then : (talk : List Exchange) (x : Exchange) → bytes_in (talk ++ x ∷ []) ≡ bytes_in talk ++ x.bytes
bytes-then [] x = append-nil x.bytes
bytes-then (y ∷ talk) x = ap (λ l. y.bytes ++ l) (bytes-then talk x) ∙ sym (append_assoc y.bytes (bytes_in talk) x.bytes)

pub notes-then : (talk : List Exchange) (x : Exchange) → notes_in (talk ++ x ∷ []) ≡ notes_in talk ++ x.notes
notes-then [] x = append-nil x.notes
notes-then (y ∷ talk) x = ap (λ l. y.notes ++ l) (notes-then talk x) ∙ sym (append_assoc y.notes (notes_in talk) x.notes)

pub main-then : (start run : Run) (talk : List Exchange) (x : Exchange) → Leads start talk run → main_in start (talk ++ x ∷ []) ≡ main_in start talk ++ main_bytes run.stage x.piece
main-then start run [] x is = append-nil (main_bytes start.stage x.piece) ∙ ap (λ (r : Run). main_bytes r.stage x.piece) (sym is)
main-then start run (y ∷ talk) x leads =
    let first : List ℕ = main_bytes start.stage y.piece in
    ap (λ l. first ++ l) (main-then y.run run talk x leads.1) ∙ sym (append_assoc first (main_in y.run talk) (main_bytes run.stage x.piece))

pub or-false : (a : Bool) → (a || false) ≡ a
or-false true = refl
or-false false = refl

or-assoc : (a b c : Bool) → (a || (b || c)) ≡ ((a || b) || c)
or-assoc true b c = refl
or-assoc false b c = refl

pub ends-then : (start run : Run) (talk : List Exchange) (x : Exchange) → Leads start talk run → main_ends start (talk ++ x ∷ []) ≡ (main_ends start talk || is_main_end run.stage x.piece)
ends-then start run [] x is = or-false (is_main_end start.stage x.piece) ∙ ap (λ (r : Run). is_main_end r.stage x.piece) (sym is)
ends-then start run (y ∷ talk) x leads =
    let first : Bool = is_main_end start.stage y.piece in
    ap (λ b. first || b) (ends-then y.run run talk x leads.1) ∙ or-assoc first (main_ends y.run talk) (is_main_end run.stage x.piece)

pub names-then : (start run : Run) (talk : List Exchange) (x : Exchange) → Leads start talk run → names_in start (talk ++ x ∷ []) ≡ names_in start talk ++ name_asked run.stage
names-then start run [] x is = append-nil (name_asked start.stage) ∙ ap (λ (r : Run). name_asked r.stage) (sym is)
names-then start run (y ∷ talk) x leads =
    let first : List (List ℕ) = name_asked start.stage in
    ap (λ l. first ++ l) (names-then y.run run talk x leads.1) ∙ sym (append_assoc first (names_in y.run talk) (name_asked run.stage))

pub beside-then : (before : Besides) (start run : Run) (talk : List Exchange) (x : Exchange) → Leads start talk run → beside_in before start (talk ++ x ∷ []) ≡ beside_with run.stage x.piece (beside_in before start talk)
beside-then before start run [] x is = ap (λ (r : Run). beside_with r.stage x.piece before) (sym is)
beside-then before start run (y ∷ talk) x leads = beside-then (beside_with start.stage y.piece before) y.run run talk x leads.1
