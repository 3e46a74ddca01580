-- Documents that are read on.
use Rattle.std.proofs.Common.{◌≡◌, List, [], ◌∷◌, ◌++◌, refl, sym, ap, subst, ◌∙◌, append_assoc}
use Rattle.fault_report.specs.declared.outcome.Outcome.TheVariants as ended
use Rattle.run_engine.specs.Run as spec
use Rattle.run_engine.specs.Run.{Open, Stage}
use Rattle.run_engine.specs.Taking.{AreEnded, AreReadOn, IsReadOn, Takes, Took}

pub read-same : (d : Open) → IsReadOn d d
read-same d = record { name = refl; fed_is = refl; ended = refl; limits = refl }

pub all-same : (ds : List Open) → AreReadOn ds ds
all-same [] = tt
all-same (d ∷ ds) = (read-same d, all-same ds)

pub took-same : (ds : List Open) → Took ds ds
took-same ds = record { gone = []; kept = ds; parts = refl; ended = tt; on = all-same ds }

read-then : (a b c : Open) → IsReadOn a b → IsReadOn b c → IsReadOn a c
read-then a b c h k = record { name = k.name ∙ h.name; fed_is = k.fed_is ∙ h.fed_is; ended = k.ended ∙ h.ended; limits = k.limits ∙ h.limits }

all-then : (xs bs cs : List Open) → AreReadOn xs bs → AreReadOn bs cs → AreReadOn xs cs
all-then [] [] [] h k = tt
all-then [] [] (c ∷ cs) h k = absurd k
all-then [] (b ∷ bs) cs h k = absurd h
all-then (a ∷ xs) [] cs h k = absurd h
all-then (a ∷ xs) (b ∷ bs) [] h k = absurd k
all-then (a ∷ xs) (b ∷ bs) (c ∷ cs) h k = (read-then a b c h.0 k.0, all-then xs bs cs h.1 k.1)

-- those that were read on to what is parted are parted so
record Parted (xs gone kept : List Open) : Type 0 where
  first : List Open
  rest : List Open
  parts : xs ≡ first ++ rest
  ended : AreEnded gone → AreEnded first
  on : AreReadOn rest kept

parted : (xs gone kept : List Open) → AreReadOn xs (gone ++ kept) → Parted xs gone kept
parted xs [] kept h = record { first = []; rest = xs; parts = refl; ended = λ e. tt; on = h }
parted [] (d ∷ gone) kept h = absurd h
parted (a ∷ xs) (d ∷ gone) kept h =
    let r = parted xs gone kept h.1 in
    record {
      first = a ∷ r.first;
      rest = r.rest;
      parts = ap (λ xs. a ∷ xs) r.parts;
      ended = λ e. (sym h.0.ended ∙ e.0, r.ended e.1);
      on = r.on;
    }

both-ended : (xs bs : List Open) → AreEnded xs → AreEnded bs → AreEnded (xs ++ bs)
both-ended [] bs h k = k
both-ended (a ∷ xs) bs h k = (h.0, both-ended xs bs h.1 k)

pub took-then : (xs bs cs : List Open) → Took xs bs → Took bs cs → Took xs cs
took-then xs bs cs h k =
    let r = parted h.kept k.gone k.kept (subst (AreReadOn h.kept) k.parts h.on) in
    record {
      gone = h.gone ++ r.first;
      kept = r.rest;
      parts = h.parts ∙ ap (λ xs. h.gone ++ xs) r.parts ∙ sym (append_assoc h.gone r.first r.rest);
      ended = both-ended h.gone r.first h.ended (r.ended k.ended);
      on = all-then r.rest k.kept cs r.on k.on;
    }

pub takes-then : (s : Stage) (xs bs cs : List Open) → Took xs bs → Takes s bs cs → Takes s xs cs
takes-then spec.New xs bs cs h k = took-then xs bs cs h k
takes-then spec.Main xs bs cs h k = took-then xs bs cs h k
takes-then spec.Document xs bs cs h k = took-then xs bs cs h k
takes-then (spec.Wants name) xs bs cs h k = took-then xs bs cs h k
takes-then (spec.Over ended.Done) xs bs cs h k = took-then xs bs cs h k
takes-then (spec.Over (ended.Run file code offset)) xs bs cs h k = took-then xs bs cs h k
takes-then (spec.Over ended.Usage) xs bs cs h k = took-then xs bs cs h k
takes-then (spec.Over (ended.Sheet fault)) xs bs cs h k = took-then xs bs cs h k
takes-then (spec.Over (ended.Xml file fault)) xs bs cs h k = took-then xs bs cs h k
takes-then (spec.Over (ended.Host file fault offset)) xs bs cs h k = took-then xs bs cs h k
takes-then (spec.Over (ended.Fuel file offset)) xs bs cs h k = took-then xs bs cs h k
takes-then (spec.Over ended.Memory) xs bs cs h k = tt

pub takes-from : (s : Stage) (xs bs : List Open) → Took xs bs → Takes s xs bs
takes-from s xs bs h = by s where
  by : (s : Stage) → Takes s xs bs
  by spec.New = h
  by spec.Main = h
  by spec.Document = h
  by (spec.Wants name) = h
  by (spec.Over ended.Done) = h
  by (spec.Over (ended.Run file code offset)) = h
  by (spec.Over ended.Usage) = h
  by (spec.Over (ended.Sheet fault)) = h
  by (spec.Over (ended.Xml file fault)) = h
  by (spec.Over (ended.Host file fault offset)) = h
  by (spec.Over (ended.Fuel file offset)) = h
  by (spec.Over ended.Memory) = tt
