-- What a host lacks room for where it fails.
use Rattle.std.proofs.Common.{◌≡◌, ℕ, suc, ◌+◌, ◌≤◌, List, [], ◌∷◌, ◌++◌, length, ap, arith, length-append}
use Rattle.std.proofs.lemmas.List.{length-map}
use Rattle.stx_host.proofs.Lacking.{needs_now}
use Rattle.stx_host.specs.Outside.{LacksRoom, Outside, Room}
use Rattle.stx_host.specs.Rooms.{needed, openings}
use Rattle.stx_host.specs.declared.act.Act.{Act}
use Rattle.stx_host.specs.declared.act.Act.TheVariants.{Close, Open, Read, Write}
use Rattle.stx_host.specs.declared.act.Doc.{Doc}
use Rattle.sheet_files.specs.Acts.{opens}
use Rattle.sheet_files.specs.Held.{AreNumbered, IsWithin, ids_of, names_of}
use Rattle.sheet_files.specs.Opened.{Seen, names_in, place_told}
use Rattle.sheet_files.specs.declared.going.Going.{Going}

-- no more files are being read than were opened
numbered_few : (from : ℕ) (going : List Going) (n : ℕ) → AreNumbered from going n → from + length going ≤ n
numbered_few from [] n are = omega (arith, are)
numbered_few from (g ∷ going) n are = omega (arith, are.0, numbered_few (suc g.number) going n are.1)

pub openings_listed : (acts : List Act) → openings acts ≡ length (opens acts)
openings_listed [] = omega arith
openings_listed (Open doc id ∷ acts) = omega (arith, openings_listed acts)
openings_listed (Read id got ∷ acts) = openings_listed acts
openings_listed (Close id ∷ acts) = openings_listed acts
openings_listed (Write lane len ∷ acts) = openings_listed acts

-- so the host lacked room for what was done since the beginning, and one act more
pub halts_lacking : (start o : Outside) (going : List Going) (files : List Doc) (missing : List Seen) (acts : List Act) → IsWithin start o going files missing acts → AreNumbered 0 going (length files)
    → (more : Room) → more.acts ≤ 1 → more.ids ≤ 1 → more.out ≡ 0 → more.note ≡ 0 → LacksRoom o more → LacksRoom start (needed acts [] [])
halts_lacking start o going files missing acts within numbered more one one_id none no_note lacks =
    let ids = length-map going (λ (g : Going). g.id) in
    let few = numbered_few 0 going (length files) numbered in
    let names = length-map files (λ (d : Doc). d.name) in
    let places = length-map (names_of files ++ names_in missing) (place_told start) in
    let listed = ap length within.opened in
    needs_now start o acts [] [] (ids_of going) more one one_id none no_note within.done.between within.ids
    (omega (arith, ids, few, names, places, listed, openings_listed acts, length-append (names_of files) (names_in missing))) lacks
