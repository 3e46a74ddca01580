-- What is needed of a host's room over a stretch of time.
use Rattle.std.specs.Prelude.{ℕ, ◌+◌, List, [], ◌∷◌, length}
use Rattle.stx_host.specs.declared.act.Act.{Act}
use Rattle.stx_host.specs.declared.act.Act.TheVariants.{Open}
use Rattle.stx_host.specs.Outside.{Room}

-- how many documents acts opened, or found absent
abbrev pub openings : List Act → ℕ
openings [] = 0
openings (Open doc id ∷ acts) = 1 + openings acts
openings (act ∷ acts) = openings acts

-- what these acts and one more need where the lanes take these bytes; no more ids are open at once than documents were opened
abbrev pub needed : List Act → (out note : List ℕ) → Room
needed acts out note = record { acts = length acts + 1; ids = openings acts + 1; out = length out; note = length note }
