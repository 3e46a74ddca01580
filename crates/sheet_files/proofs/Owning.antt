-- What is so where the sheet's own file was opened.
use Rattle.std.proofs.Common.{◌≡◌, ℕ, false, List, [], ◌∷◌, Option, Some, None, refl, sym, ap, arith}
use Rattle.std.specs.Option.{option_and_then}
use Rattle.stx_base.specs.declared.limits.Limits.{Limits}
use Rattle.stx_host.specs.Outside.{Outside, and_more, place}
use Rattle.stx_host.specs.declared.act.Act.TheVariants.{Open}
use Rattle.sheet_files.specs.Held.{AreHeld, IsWithin}
use Rattle.sheet_files.specs.Steps.{IsLastOpen, OpensOwn}
use Rattle.sheet_files.specs.declared.going.Going.{Going}
use Rattle.sheet_files.proofs.Changing.{within_entered}
use Rattle.sheet_files.proofs.Doing.{counts_none, done_nothing}
use Rattle.sheet_files.proofs.Holding.{if_some}
use Rattle.sheet_files.proofs.Opening.{append_none}
use Rattle.sheet_files.proofs.Within.{if_at, if_told}

pub own_held : (o : Outside) (limits : Limits) (h : Going) → IsLastOpen o h.id → h.number ≡ 0 → h.reader.lexer.limits ≡ limits → AreHeld o limits (h ∷ []) 1
own_held o limits h last number lim =
    record { numbered = (omega arith, omega (arith, number)); limited = (last.0, lim, tt); last = if_some o.open_ids (λ ids l. (l.0, l.1, (l.2, tt))) last.1 }

none_held : (start : Outside) (limits : Limits) → AreHeld start limits [] 0
none_held start limits = record { numbered = omega arith; limited = tt; last = if_at start.open_ids (λ ids e. (ids, sym (append_none ids), tt)) }

more_none : (t : Option (List ℕ)) → t ≡ and_more t []
more_none None = refl
more_none (Some ids) = ap (λ (l : List ℕ). Some l) (sym (append_none ids))

none_within : (start : Outside) → IsWithin start start [] [] [] []
none_within start =
    record {
      done = done_nothing start;
      opened = refl;
      ids = more_none start.open_ids;
      told = if_told start.open_ids start.documents (λ s docs e d. (tt, tt));
      given = if_at start.open_ids (λ s e. tt);
      once = if_at start.open_ids (λ s e. record { none_behind = tt; unended = tt });
      numbers = if_at start.open_ids (λ s e. tt);
      counts = counts_none start;
    }

pub own_within : (start o : Outside) (limits : Limits) (name : List ℕ) (h : Going) → OpensOwn start o name h.id → h.number ≡ 0 → h.bytes.items ≡ [] → h.reader.lexer.ended ≡ false
    → IsWithin start o (h ∷ []) (record { name = name; bytes = [] } ∷ []) [] (Open (option_and_then (λ docs. place docs name) start.documents) h.id ∷ [])
own_within start o limits name h opens number empty not_ended = within_entered start start limits [] [] [] (none_within start) (none_held start limits) o name h opens.may opens.opens number empty not_ended
