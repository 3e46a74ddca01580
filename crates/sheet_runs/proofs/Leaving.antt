-- What a piece leaves to a run over a host.
use Rattle.std.proofs.Common.{◌≡◌, ℕ, ◌+◌, ◌*◌, ◌<◌, ◌≤◌, Bool, List, [], ◌∷◌, ◌++◌, Option, Some, None, length, arith, refl, sym, ap, subst, ◌∙◌}
use Rattle.stx_base.specs.declared.limits.Limits.{Limits}
use Rattle.xml_tokens.specs.Reader.{fed}
use Rattle.run_engine.specs.Asks.{AsksFewer, asks_left, main_events}
use Rattle.run_engine.specs.Run.{Document, StandsAt, Wants}
use Rattle.run_engine.specs.Taking.{ended_first, fed_first, handed, opened_first}
use Rattle.run_engine.specs.declared.piece.Piece.{Piece}
use Rattle.run_engine.specs.declared.piece.Piece.TheVariants as piece
use Rattle.run_engine.specs.declared.piece.Pumped.TheVariants as asks
use Rattle.stx_host.specs.Outside.{Outside}
use Rattle.sheet_runs.specs.Reading.{TakesPieces}
use Rattle.sheet_runs.specs.declared.main_document.Main.{Main}
use Rattle.sheet_runs.specs.declared.main_document.Main.TheVariants.{Sample}
use Rattle.sheet_runs.specs.declared.other.Other.{Other}
use Rattle.sheet_runs.specs.declared.running.Running.{Running}
use Rattle.sheet_runs.specs.inside.Left.{LeavesLess, Pumps, WantsMain, beside_left, main_left, main_to_read, others_to_read, pieces_left, unless_over, wanted, while_beside}
use Rattle.sheet_runs.specs.inside.Running.{Driving, IsBytes, going_in}
use Rattle.sheet_runs.proofs.Documents.{AsksForOther, going-fed, going-first}
use Rattle.sheet_runs.proofs.Falling.{ended-less, ended-main, fed-less, fed-main, fed-more, main-beside, main-took, main-took-less, main-without, open-left, opened-main, others-fewer, others-more, others-opened, pieces-fewer, read-left}
use Rattle.sheet_runs.proofs.Feeding.{limited-main}

-- What is written changes nothing of it

module _ (r s : Running) (same : s ≡ record r { out = s.out; notes = s.notes; output = s.output }) where
  pub beside-kept : beside_left s ≡ beside_left r
  beside-kept = ap beside_left same

  pub main-kept : main_left s ≡ main_left r
  main-kept = ap main_left same

-- The engine took a piece

module _ (r new : Running) (p : Piece) (h : Pumps r p new) where
  by-pump : (P : ℕ → ℕ → Type 0) → P r.engine.limits.input (pieces_left r.main) → P new.engine.limits.input (pieces_left new.main)
  by-pump P k =
      subst (P new.engine.limits.input) (sym (ap (λ (x : Running). pieces_left x.main) h.same)) (subst (λ (l : Limits). P l.input (pieces_left r.main)) (sym h.run.limits) k)

  main-behind : (m : ℕ) → main_to_read r.engine.limits.input (going_in (handed r.engine p)) + pieces_left r.main ≤ m → main_left new ≤ m
  main-behind m fits =
      by-pump (λ input k. unless_over new.engine.stage (main_to_read input (going_in new.engine.documents) + k) ≤ m)
      (main-took (handed r.engine p) new.engine.documents r.engine.limits.input new.engine.stage (pieces_left r.main) m h.took fits)

  main-behind-less : (m : ℕ) → main_to_read r.engine.limits.input (going_in (handed r.engine p)) + pieces_left r.main < m → main_left new < m
  main-behind-less m fits =
      by-pump (λ input k. unless_over new.engine.stage (main_to_read input (going_in new.engine.documents) + k) < m)
      (main-took-less (handed r.engine p) new.engine.documents r.engine.limits.input new.engine.stage (pieces_left r.main) m h.took fits)

  beside-behind : (m : ℕ)
      → while_beside new.engine.stage ((2 * asks_left new.engine + wanted new.engine.stage) * (r.engine.limits.input + 3) + others_to_read r.engine.limits.input r.others.items) < m → beside_left new < m
  beside-behind m fits =
      subst (λ os. while_beside new.engine.stage ((2 * asks_left new.engine + wanted new.engine.stage) * (new.engine.limits.input + 3) + others_to_read new.engine.limits.input os) < m)
      (sym (ap (λ (x : Running). x.others.items) h.same))
      (by-pump (λ input k. while_beside new.engine.stage ((2 * asks_left new.engine + wanted new.engine.stage) * (input + 3) + others_to_read input r.others.items) < m) fits)

-- The main document is handed in

module _ (r new : Running) (w : WantsMain r.engine) where
  main-now : main_left r ≡ main_to_read r.engine.limits.input (going_in r.engine.documents) + pieces_left r.main
  main-now = ap (λ s. unless_over s (main_to_read r.engine.limits.input (going_in r.engine.documents) + pieces_left r.main)) w.stage

  pub main-fed-more : (p : Piece) (bytes : List ℕ) → IsBytes p bytes → Pumps r p new → main_left new ≤ main_left r
  main-fed-more (piece.Bytes b) bytes is h =
      main-behind r new (piece.Bytes b) h (main_left r) (omega (arith, main-now, fed-more r.engine.limits b.now r.engine.documents w.hungry))
  main-fed-more piece.Start bytes is h = absurd is
  main-fed-more piece.End bytes is h = absurd is
  main-fed-more piece.Opened bytes is h = absurd is
  main-fed-more piece.Absent bytes is h = absurd is

  pub main-fed-less : (p : Piece) (bytes : List ℕ) → IsBytes p bytes → 0 < length bytes → Pumps r p new → main_left new < main_left r
  main-fed-less (piece.Bytes b) bytes is some h =
      main-behind-less r new (piece.Bytes b) h (main_left r)
      (omega (arith, main-now, fed-less r.engine.limits b.now r.engine.documents w.hungry w.limited (subst (λ l. 0 < length l) (sym is) some)))
  main-fed-less piece.Start bytes is some h = absurd is
  main-fed-less piece.End bytes is some h = absurd is
  main-fed-less piece.Opened bytes is some h = absurd is
  main-fed-less piece.Absent bytes is some h = absurd is

  pub main-ended-less : Pumps r piece.End new → main_left new < main_left r
  main-ended-less h = main-behind-less r new piece.End h (main_left r) (omega (arith, main-now, ended-less r.engine.limits r.engine.documents w.hungry w.limited))

-- so it is where the engine answered that
pub wants-main : (start : _) (main : Main) (old now : Outside) (r : Running) → Driving start main old now r asks.Main → WantsMain r.engine
wants-main start main old now r d = record {
  stage = d.says;
  hungry = subst (λ s. StandsAt s r.engine.files r.engine.documents) d.says d.stands;
  limited = limited-main start main old now r d;
}

-- some pieces of the sample were taken, and handed in; or it ended
pub chunk-less : (r s new : Running) (before after : List (List ℕ)) (chunk : Option (List ℕ)) → r.main ≡ Sample before → s ≡ record r { main = Sample after } → WantsMain r.engine → TakesPieces before after chunk
    → main_left new ≤ main_left s → (chunk ≡ None → main_left new < main_left s) → main_left new < main_left r
chunk-less r s new before after None is same w takes more less =
    let left : ℕ = main_to_read r.engine.limits.input (going_in r.engine.documents) in
    let pieces : pieces_left r.main ≡ length after = ap pieces_left is ∙ ap length takes.0 ∙ sym (ap length takes.1) in
    omega (arith, less refl, ap main_left same, ap (λ x. unless_over x (left + length after)) w.stage, main-now r r w, pieces)
chunk-less r s new before after (Some chunk) is same w takes more less =
    let left : ℕ = main_to_read r.engine.limits.input (going_in r.engine.documents) in
    let fewer : length after < pieces_left r.main = subst (λ n. length after < n) (sym (ap pieces_left is ∙ ap length takes.2)) (pieces-fewer takes.0 after takes.1) in
    omega (arith, more, ap main_left same, ap (λ x. unless_over x (left + length after)) w.stage, main-now r r w, fewer)

-- Something is handed in beside the main document

module _ (r s new : Running) (p : Piece) (h : Pumps (record r { others = s.others }) p new) (events : main_events (handed r.engine p) ≡ main_events r.engine.documents)
    (going : main_to_read r.engine.limits.input (going_in (handed r.engine p)) ≡ main_to_read r.engine.limits.input (going_in r.engine.documents)) where
  asks-fewer : AsksFewer new.engine.stage (asks_left r.engine) (asks_left new.engine)
  asks-fewer = subst (λ n. AsksFewer new.engine.stage (n * (r.engine.limits.fuel + 1) + r.engine.fuel) (asks_left new.engine)) events h.asks

  no-more : main_left new ≤ main_to_read r.engine.limits.input (going_in r.engine.documents) + pieces_left r.main
  no-more = main-behind (record r { others = s.others }) new p h (main_to_read r.engine.limits.input (going_in r.engine.documents) + pieces_left r.main) (omega (arith, going))

  read-leaves : r.engine.stage ≡ Document → others_to_read r.engine.limits.input s.others.items < others_to_read r.engine.limits.input r.others.items → LeavesLess r new
  read-leaves at fewer =
      let input = r.engine.limits.input in
      let all = others_to_read input r.others.items in
      record {
        beside = subst (λ x. beside_left new < while_beside x ((2 * asks_left r.engine + wanted x) * (input + 3) + all)) (sym at)
            (beside-behind (record r { others = s.others }) new p h ((2 * asks_left r.engine + 0) * (input + 3) + all)
            (read-left (asks_left new.engine) (asks_left r.engine) new.engine.stage input (others_to_read input s.others.items) all asks-fewer fewer));
        main = subst (λ x. main_left new ≤ unless_over x (main_to_read input (going_in r.engine.documents) + pieces_left r.main)) (sym at) no-more;
      }

  open-leaves : (name : List ℕ) → r.engine.stage ≡ Wants name
      → others_to_read r.engine.limits.input s.others.items ≤ others_to_read r.engine.limits.input r.others.items + (r.engine.limits.input + 2) → LeavesLess r new
  open-leaves name at few =
      let input = r.engine.limits.input in
      let all = others_to_read input r.others.items in
      record {
        beside = subst (λ x. beside_left new < while_beside x ((2 * asks_left r.engine + wanted x) * (input + 3) + all)) (sym at)
            (beside-behind (record r { others = s.others }) new p h ((2 * asks_left r.engine + 1) * (input + 3) + all)
            (open-left (asks_left new.engine) (asks_left r.engine) new.engine.stage input (others_to_read input s.others.items) all asks-fewer few));
        main = subst (λ x. main_left new ≤ unless_over x (main_to_read input (going_in r.engine.documents) + pieces_left r.main)) (sym at) no-more;
      }

-- Another document is read

module _ (r s new : Running) (same : s ≡ record r { others = s.others }) (ended : Bool) (read : ℕ) (at : r.engine.stage ≡ Document) (a : AsksForOther r.others.items ended read r.engine.documents r.engine.limits) where
  abbrev input : ℕ
  input = r.engine.limits.input

  -- how the newest document stands there
  newest-going : going_in r.engine.documents ≡ record { name = a.newest.name; read = fed a.newest.source.lexer } ∷ going_in a.older
  newest-going = ap going_in a.documents_is ∙ going-first a.newest a.older a.unended

  pub bytes-leave : (p : Piece) (bytes : List ℕ) (n : ℕ) → Pumps s p new → IsBytes p bytes → 0 < n
      → s.others.items ≡ a.front ++ record a.last { read = a.last.read + n } ∷ [] → LeavesLess r new
  bytes-leave (piece.Bytes b) bytes n h is some more =
      read-leaves r s new (piece.Bytes b) (subst (λ (x : Running). Pumps x (piece.Bytes b) new) same h)
      (ap (λ ds. main_events (fed_first b.now ds)) a.documents_is ∙ fed-main b.now a.last.name a.newest a.older a.name_is ∙ ap main_events (sym a.documents_is))
      (ap (λ ds. main_to_read input (going_in (fed_first b.now ds))) a.documents_is ∙ ap (main_to_read input) (going-fed b.now a.newest a.older a.unended)
      ∙ main-beside input a.last.name a.newest (going_in a.older) (fed a.newest.source.lexer + length b.now) (fed a.newest.source.lexer) a.name_is ∙ ap (main_to_read input) (sym newest-going))
      at
      (subst (λ os. others_to_read input os < others_to_read input r.others.items) (sym more)
      (subst (λ os. others_to_read input (a.front ++ record a.last { read = a.last.read + n } ∷ []) < others_to_read input os) (sym a.others_is) (others-more input a.front a.last n a.within some)))
  bytes-leave piece.Start bytes n h is some more = absurd is
  bytes-leave piece.End bytes n h is some more = absurd is
  bytes-leave piece.Opened bytes n h is some more = absurd is
  bytes-leave piece.Absent bytes n h is some more = absurd is

  pub end-leaves : Pumps s piece.End new → s.others.items ≡ a.front → LeavesLess r new
  end-leaves h fewer =
      read-leaves r s new piece.End (subst (λ (x : Running). Pumps x piece.End new) same h)
      (ap (λ ds. main_events (ended_first ds)) a.documents_is ∙ ended-main a.last.name a.newest a.older a.name_is ∙ ap main_events (sym a.documents_is))
      (ap (λ ds. main_to_read input (going_in (ended_first ds))) a.documents_is
      ∙ main-without input a.last.name a.newest (going_in a.older) (fed a.newest.source.lexer) a.name_is ∙ ap (main_to_read input) (sym newest-going))
      at
      (subst (λ os. others_to_read input os < others_to_read input r.others.items) (sym fewer)
      (subst (λ os. others_to_read input a.front < others_to_read input os) (sym a.others_is) (others-fewer input a.front a.last a.within)))

-- A document is opened, or it is absent

module _ (r s new : Running) (name : List ℕ) (at : r.engine.stage ≡ Wants name) where
  pub opened-leaves : (o : Other) → s ≡ record r { others = s.others } → Pumps s piece.Opened new → s.others.items ≡ r.others.items ++ o ∷ [] → o.read ≡ 0 → LeavesLess r new
  opened-leaves o same h more zero =
      let input = r.engine.limits.input in
      let first : main_to_read input (going_in (opened_first r.engine r.engine.stage)) ≡ main_to_read input (record { name = Some name; read = 0 } ∷ going_in r.engine.documents) =
      ap (λ x. main_to_read input (going_in (opened_first r.engine x))) at in
      open-leaves r s new piece.Opened (subst (λ (x : Running). Pumps x piece.Opened new) same h) (opened-main r.engine r.engine.stage) (omega (arith, first)) name at
      (subst (λ os. others_to_read input os ≤ others_to_read input r.others.items + (input + 2)) (sym more) (others-opened input r.others.items o zero))

  pub absent-leaves : Pumps r piece.Absent new → LeavesLess r new
  absent-leaves h = open-leaves r r new piece.Absent h refl refl name at (omega arith)
