-- That a read of the innermost file, where its reader wants more bytes than were read of it, comes where the sheet isn't decided yet.
use Rattle.std.proofs.Common.{◌≡◌, ℕ, ◌≤◌, false, List, [], ◌∷◌, ◌++◌, length, None, Some, sym, subst, ◌∙◌}
use Rattle.std.specs.Vec.{vec_len}
use Rattle.stx_host.specs.Outside.{Outside, document}
use Rattle.stx_host.specs.declared.act.Act.{Act}
use Rattle.stx_host.specs.declared.act.Act.TheVariants.{Read}
use Rattle.stx_host.specs.declared.act.Doc.{Doc}
use Rattle.xml_events.specs.Source.{future}
use Rattle.xml_events.specs.Telling.{pulled}
use Rattle.xml_events.specs.declared.event.Pull.TheVariants as pull
use Rattle.sheet_loader.proofs.Ending.{comes_to_one}
use Rattle.sheet_loader.proofs.Resuming.{cuts_list, takes_element}
use Rattle.sheet_loader.specs.Loaders.{is_over, wanted_in}
use Rattle.sheet_loader.specs.Values.{Reads}
use Rattle.sheet_files.specs.Acts.{opens, read_since_open}
use Rattle.sheet_files.specs.Held.{HasRest, IsWithin, names_of, seen_of}
use Rattle.sheet_files.specs.Opened.{AreOf}
use Rattle.sheet_files.specs.Reading.{IsRead, WantsBytes}
use Rattle.sheet_files.specs.Undecided.{IsOpenYet, files_at}
use Rattle.sheet_files.specs.declared.going.Going.{Going}
use Rattle.sheet_files.specs.declared.reading.Reading.{Reading}
use Rattle.sheet_files.proofs.Changing.{opens_counted}
use Rattle.sheet_files.proofs.Deciding.{still_open}
use Rattle.sheet_files.proofs.Lasting.{StandsLast, front, read_was, was_is, within_was}
use Rattle.sheet_files.proofs.Numbering.{numbers_in_front}
use Rattle.sheet_files.proofs.Opening.{append_none}
use Rattle.sheet_files.proofs.Seeing.{snoc_same}
use Rattle.sheet_files.proofs.Staying.{AsksRightly}
use Rattle.sheet_files.proofs.Within.{given_front, some_at, told_at}

-- its reader wants bytes
pub wants_facts : (old : Reading) (was : Going) (last : StandsLast old.going.items (vec_len old.going) was) → WantsBytes old.going.items
    → (pulled (future was.reader [] false) ≡ pull.Need) × (was.reader.lexer.ended ≡ false) × (was.reader.over ≡ None) × (was.reader.known ≡ [])
wants_facts old was last wants =
    let same = (snoc_same wants.0 (front old was last) wants.1 was (sym wants.2 ∙ was_is old was last)).1 in
    subst (λ (g : Going). (pulled (future g.reader [] false) ≡ pull.Need) × (g.reader.lexer.ended ≡ false) × (g.reader.over ≡ None) × (g.reader.known ≡ [])) same wants.3

module _ (old : Reading) (was : Going) (last : StandsLast old.going.items (vec_len old.going) was) (o : Outside) (wants : WantsBytes old.going.items) (name : List ℕ) (read : IsRead name old []) (on : is_over old.loader.progress ≡ false) (none : wanted_in old.loader.progress ≡ None)
    (all : length was.bytes.items ≤ was.taken) (start : Outside) (acts : List Act) (within : IsWithin start o old.going.items old.files.items [] acts) where
  abbrev around : List Going
  around = front old was last

  here : IsWithin start o (around ++ was ∷ []) old.files.items [] acts
  here = within_was old was last start o acts within

  module _ (ids : List ℕ) (docs : List Doc) (e : start.open_ids ≡ Some ids) (d : start.documents ≡ Some docs) where
    seen : AreOf (document docs) (seen_of (around ++ was ∷ []) old.files.items)
    seen =
        subst (AreOf (document docs)) (append_none (seen_of (around ++ was ∷ []) old.files.items))
        (told_at (λ docs. AreOf (document docs) (seen_of (around ++ was ∷ []) old.files.items ++ []) × HasRest docs o (names_of old.files.items) (around ++ was ∷ [])) start.open_ids start.documents ids docs e d here.told).0

    counted : length old.files.items ≡ length (opens acts)
    counted = sym (opens_counted start o (around ++ was ∷ []) old.files.items acts here)

    read_so_far : length was.bytes.items ≡ read_since_open was.id acts
    read_so_far = sym (given_front start acts (names_of old.files.items) around was (some_at _ start.open_ids ids e here.given)).1.1

    open_yet : (reads : Reads) → IsOpenYet reads old.limits (document docs) name (files_at reads old.limits (document docs) name (length (opens acts))) was.number (read_since_open was.id acts)
    open_yet reads =
        let facts = wants_facts old was last wants in
        subst (λ (n : ℕ). IsOpenYet reads old.limits (document docs) name (files_at reads old.limits (document docs) name (length (opens acts))) was.number n) read_so_far
        (subst (λ (n : ℕ). IsOpenYet reads old.limits (document docs) name (files_at reads old.limits (document docs) name n) was.number (length was.bytes.items)) counted
        (still_open old.limits name comes_to_one cuts_list takes_element around was old.files.items old.loader old.left (read_was old was last name read) on none facts.0 facts.1 facts.2 facts.3 all (document docs) seen reads))

  -- a read of the innermost file, whose reader has all that was read of it
  pub asks_rightly : (got : ℕ) → AsksRightly old.limits name start acts (Read was.id got ∷ [])
  asks_rightly got ids docs e d reads =
      (record { number = was.number; is_number = (numbers_in_front acts around was (some_at _ start.open_ids ids e here.numbers)).1; open_yet = open_yet ids docs e d reads }, tt)
