-- What the host lacked room for where it fails in a run.
use Rattle.std.proofs.Common.{ℕ, ◌+◌, ◌≤◌, List, length, ap, arith, length-append}
use Rattle.std.proofs.lemmas.List.{length-map}
use Rattle.stx_base.specs.Course.{Begins}
use Rattle.stx_host.proofs.Lacking.{lacks_more, lacks_since}
use Rattle.stx_host.specs.Outside.{LacksRoom, Outside, Room}
use Rattle.stx_host.specs.Rooms.{needed, openings}
use Rattle.stx_host.specs.declared.act.Act.{Act}
use Rattle.run_engine.specs.Run.{Run}
use Rattle.run_engine.specs.declared.piece.Pumped.{Pumped}
use Rattle.sheet_files.proofs.Lacking.{openings_listed}
use Rattle.sheet_runs.specs.Talk.{bytes_in, notes_in}
use Rattle.sheet_runs.specs.declared.main_document.Main.{Main}
use Rattle.sheet_runs.specs.declared.other.Other.{Other}
use Rattle.sheet_runs.specs.declared.running.Running.{Running}
use Rattle.sheet_runs.specs.inside.Running.{Driving, ids_of}

-- where it lacks room now it lacked it for all that was done, and for all that was settled
pub lacked : (start : Run) (main : Main) (old now : Outside) (r : Running) (asked : Pumped) (d : Driving start main old now r asked) (acts : List Act) (more : Room)
    → length d.acts + more.acts ≤ length acts + 1 → openings d.acts ≤ openings acts → more.ids ≤ 1 → more.out ≤ length r.out.items → more.note ≤ length r.notes.items → LacksRoom now more
    → LacksRoom old (needed acts (bytes_in d.talk) (notes_in d.talk))
lacked start main old now r asked d acts more many few one out note lacks =
    let ids = length-map r.others.items (λ (o : Other). o.id) in
    let bytes = ap length d.written in
    let notes = ap length d.noted in
    lacks_more old (record { acts = length d.acts + more.acts; ids = length (ids_of r.others.items) + more.ids; out = length d.out + more.out; note = length d.note + more.note }) (needed acts (bytes_in d.talk) (notes_in d.talk))
    (omega (arith, many)) (omega (arith, ids, d.few, openings_listed d.acts, few, one)) (omega (arith, out, bytes, length-append d.out r.out.items)) (omega (arith, note, notes, length-append d.note r.notes.items))
    (lacks_since old now d.acts d.out d.note (ids_of r.others.items) more d.between d.held.ids lacks)

-- who lacks room for first bytes lacks it for all of them
pub first_fewer : (xs ys : List ℕ) → Begins xs ys → length xs ≤ length ys
first_fewer xs ys b = omega (arith, length-append xs b.0, ap length b.1)

pub needs_all : (o : Outside) (acts : List Act) (out all note notes : List ℕ) → Begins out all → Begins note notes → LacksRoom o (needed acts out note) → LacksRoom o (needed acts all notes)
needs_all o acts out all note notes of_out of_note = lacks_more o (needed acts out note) (needed acts all notes) (omega arith) (omega arith) (omega (arith, first_fewer out all of_out)) (omega (arith, first_fewer note notes of_note))
