-- What a run says that asks for bytes, and one that is over.
use Rattle.std.proofs.Common.{◌≡◌, ◌≤◌, suc, cond, arith, ℕ, true, false, List, [], ◌∷◌, ◌++◌, Option, Some, None, IsSome, is_none, map, reverse, refl, sym, ap, subst, ◌∙◌, append_assoc, append-nil}
use Rattle.stx_base.specs.Course.{Begins}
use Rattle.stx_base.specs.declared.fault.RunCode.TheVariants.{NoDocument}
use Rattle.stx_base.specs.declared.fault.RunFault.{RunFault}
use Rattle.stx_base.specs.declared.fault.XmlFault.{XmlFault}
use Rattle.template_machine.specs.Between.{IsAbsent}
use Rattle.template_machine.specs.declared.turn.Turn.{Turn}
use Rattle.template_machine.specs.declared.turn.Turn.TheVariants as turn
use Rattle.fault_report.specs.declared.outcome.Outcome.{Outcome}
use Rattle.fault_report.specs.declared.outcome.Outcome.TheVariants as ended
use Rattle.run_engine.specs.Run as spec
use Rattle.run_engine.specs.Taking.{Took}
use Rattle.run_engine.specs.Run.{Absents, CanStop, EndsBy, HasBegun, HasHead, IsFaulty, MainIsHungry, OtherIsHungry, Stage, IsSameRun, Run, StopsWith, begun_with, file_of, head, outcome_in}
use Rattle.run_engine.specs.declared.run.Core.{Core}
use Rattle.run_engine.specs.declared.run.Stage as own
use Rattle.run_engine.specs.declared.run.Stage.TheVariants as stage
use Rattle.run_engine.specs.declared.document.Document.{Document}
use Rattle.run_engine.specs.declared.piece.Piece.{Piece}
use Rattle.run_engine.specs.declared.piece.Piece.TheVariants as piece
use Rattle.run_engine.specs.declared.piece.Pumped.{Pumped}
use Rattle.run_engine.specs.declared.piece.Pumped.TheVariants as pumped
use Rattle.run_engine.specs.inside.Cores.{Answers, HasFault, IsFed, IsSame, Reads, Waits, asks_asked, asks_of, documents_in, is_main, open_of, opens_of, run_of, stage_of}
use Rattle.run_engine.proofs.Counting.{fewer-then}
use Rattle.run_engine.proofs.Pulled.{documents-read}
use Rattle.run_engine.proofs.Taking.{takes-from, takes-then, took-same}

-- a run reads on, whatever it says
pub reads-at : (c : Core) (s : own.Stage) → Reads c → Reads (record c { stage = s })
reads-at c s r = record {
  steady = record { bare = r.steady.bare; depth = r.steady.depth; fuel = r.steady.fuel };
  asking = r.asking;
  tied = record { lists = r.tied.lists; mains = r.tied.mains; readable = r.tied.readable };
}

main-unnamed : (name : Option (List ℕ)) → is_none name ≡ true → name ≡ None
main-unnamed None h = refl
main-unnamed (Some n) h = absurd cc

other-named : (name : Option (List ℕ)) → is_none name ≡ false → IsSome name
other-named None h = absurd cc
other-named (Some n) h = refl

pub opens-read : (c : Core) (d : Document) → c.newest ≡ Some d → map open_of (documents_in c) ≡ open_of d ∷ map open_of (reverse c.outer.items)
opens-read c d h = ap (map open_of) (documents-read c d h)

pub asks-main : (c : Core) → Reads c → IsFed c → is_main c.newest ≡ true → Answers (asks_asked c) c pumped.Main (record c { stage = stage.Main })
asks-main c r f m = record {
  says = refl;
  sound = record {
    sound = reads-at c stage.Main r;
    stands = subst MainIsHungry (sym (opens-read c f.0 f.1.0)) (main-unnamed f.0.name (sym (ap is_main f.1.0) ∙ m), f.1.1);
  };
  same = record { files = refl; limits = refl; strip = refl; cdata = refl };
  took = took-same (opens_of c);
  asks = tt;
}

pub asks-other : (c : Core) → Reads c → IsFed c → is_main c.newest ≡ false → Answers (asks_asked c) c pumped.Document (record c { stage = stage.Document })
asks-other c r f m = record {
  says = refl;
  sound = record {
    sound = reads-at c stage.Document r;
    stands = subst OtherIsHungry (sym (opens-read c f.0 f.1.0)) (other-named f.0.name (sym (ap is_main f.1.0) ∙ m), f.1.1);
  };
  same = record { files = refl; limits = refl; strip = refl; cdata = refl };
  took = took-same (opens_of c);
  asks = subst (λ b. asks_of c ≤ cond b 0 (asks_of c)) (sym m) (omega arith);
}

-- a run stops, and says why
pub stopped-so : (old new : Core) (p : Pumped) (o : Outcome) → p ≡ pumped.Stopped → new ≡ record old { stage = stage.Over o } → CanStop o → EndsBy o old.files (opens_of old) → Answers 0 old p new
stopped-so old new p o is becomes can ends =
    subst (λ x. Answers 0 old x new) (sym is)
    (subst (Answers 0 old pumped.Stopped) (sym becomes)
    (record {
      says = (o, (refl, can));
      sound = record { sound = tt; stands = ends };
      same = record { files = refl; limits = refl; strip = refl; cdata = refl };
      took = takes-from (spec.Over o) (opens_of old) (opens_of old) (took-same (opens_of old));
      asks = tt;
    }))

pub lacks : (old new : Core) (p : Pumped) → p ≡ pumped.Stopped → new ≡ record old { stage = stage.Over ended.Memory } → Answers 0 old p new
lacks old new p is becomes = stopped-so old new p ended.Memory is becomes tt tt

pub ends : (old : Core) → documents_in old ≡ [] → Answers 0 old pumped.Done (record old { stage = stage.Over ended.Done })
ends old none = record {
  says = refl;
  sound = record { sound = tt; stands = ap (map open_of) none };
  same = record { files = refl; limits = refl; strip = refl; cdata = refl };
  took = took-same (opens_of old);
  asks = tt;
}

pub some-same : (x y : Document) → Some x ≡ Some y → x ≡ y
some-same x y e = cc

-- the fault of the newest document stands under its name
pub faults : (c : Core) (fault : XmlFault) (file : List ℕ) (d : Document) → HasFault fault c → c.newest ≡ Some d → file ≡ file_of d.name → IsFaulty file fault (opens_of c)
faults c fault file d h is named =
    subst (IsFaulty file fault) (sym (opens-read c h.0 h.1.0)) (named ∙ ap (λ (x : Document). file_of x.name) (some-same d h.0 (sym is ∙ h.1.0)), h.1.1)

-- a run asks for a document
pub wants : (c : Core) (name wanted : List ℕ) → Waits c → wanted ≡ name → Answers (suc (asks_of c)) c (pumped.Open name) (record c { stage = stage.Wants wanted })
wants c name wanted w is = record {
  says = ap spec.Wants is;
  sound = record {
    sound = record {
      steady = record { bare = w.steady.bare; depth = w.steady.depth; fuel = w.steady.fuel };
      asking = w.asking;
      tied = record { lists = w.tied.lists; mains = w.tied.mains; readable = w.tied.readable };
    };
    stands = tt;
  };
  same = record { files = refl; limits = refl; strip = refl; cdata = refl };
  took = took-same (opens_of c);
  asks = omega arith;
}

pub same-same : (c : Core) → IsSame c c
same-same c = record { files = refl; limits = refl; strip = refl; cdata = refl }

pub same-then : (a b c : Core) → IsSame a b → IsSame b c → IsSame a c
same-then a b c h k = record { files = k.files ∙ h.files; limits = k.limits ∙ h.limits; strip = k.strip ∙ h.strip; cdata = k.cdata ∙ h.cdata }

-- what a later state answers is an answer of the earlier one
pub answers-then :
    (most wider : ℕ) (old mid new : Core) (p : Pumped) → most ≤ wider → IsSame old mid → Took (opens_of old) (opens_of mid) → Answers most mid p new → Answers wider old p new
answers-then most wider old mid new p le same took a = record {
  says = a.says;
  sound = a.sound;
  same = same-then old mid new same a.same;
  took = takes-then (stage_of new.stage) (opens_of old) (opens_of mid) (opens_of new) took a.took;
  asks = fewer-then (stage_of new.stage) most wider (asks_of new) le a.asks;
}

same-fault : (f g : RunFault) → turn.Stopped f ≡ turn.Stopped g → f ≡ g
same-fault f g e = cc

-- word that there is no document stops a run for that
pub stops-with : (t : Turn) (fault : RunFault) (new : Core) → IsAbsent t → t ≡ turn.Stopped fault → StopsWith fault.code (stage_of new.stage) → StopsWith NoDocument (stage_of new.stage)
stops-with t fault new absent is h = subst (λ code. StopsWith code (stage_of new.stage)) (ap (λ (f : RunFault). f.code) (same-fault fault (record { code = NoDocument; at = absent.0 }) (sym is ∙ absent.1))) h

-- bytes become only more
pub begins-same : (before : List ℕ) → Begins before before
begins-same before = ([], append-nil before)

pub begins-more : (before now more : List ℕ) → Begins before now → Begins before (now ++ more)
begins-more before now more b = (b.0 ++ more, sym (append_assoc before b.0 more) ∙ ap (λ xs. xs ++ more) b.1)

pub begins-begun : (p : Piece) (before : List ℕ) → Begins before (begun_with p before)
begins-begun piece.Start before = (head, refl)
begins-begun (piece.Bytes bytes) before = begins-same before
begins-begun piece.End before = begins-same before
begins-begun piece.Opened before = begins-same before
begins-begun piece.Absent before = begins-same before

pub absents-memory : (p : Piece) → Absents p (spec.Over ended.Memory)
absents-memory piece.Start = tt
absents-memory (piece.Bytes bytes) = tt
absents-memory piece.End = tt
absents-memory piece.Opened = tt
absents-memory piece.Absent = tt

-- what stands behind a step, and behind what was appended then
pub has-begun-so : (p : Piece) (before now : List ℕ) (s : Stage) → now ≡ begun_with p before → HasBegun p before s now
has-begun-so p before now spec.New h = h
has-begun-so p before now spec.Main h = h
has-begun-so p before now spec.Document h = h
has-begun-so p before now (spec.Wants name) h = h
has-begun-so p before now (spec.Over ended.Done) h = h
has-begun-so p before now (spec.Over (ended.Run file code offset)) h = h
has-begun-so p before now (spec.Over ended.Usage) h = h
has-begun-so p before now (spec.Over (ended.Sheet fault)) h = h
has-begun-so p before now (spec.Over (ended.Xml file fault)) h = h
has-begun-so p before now (spec.Over (ended.Host file fault offset)) h = h
has-begun-so p before now (spec.Over (ended.Fuel file offset)) h = h
has-begun-so p before now (spec.Over ended.Memory) h = subst (Begins before) (sym h) (begins-begun p before)

pub begins-then : (a b c : List ℕ) → Begins a b → Begins b c → Begins a c
begins-then a b c h k = (h.0 ++ k.0, sym (append_assoc a h.0 k.0) ∙ ap (λ xs. xs ++ k.0) h.1 ∙ k.1)

begun-with-now : (p : Piece) (before now : List ℕ) → now ≡ begun_with p before → Begins before now
begun-with-now p before now h = subst (Begins before) (sym h) (begins-begun p before)

pub grows : (p : Piece) (before now after : List ℕ) (s : Stage) → HasBegun p before s now → Begins now after → Begins before after
grows p before now after s h k = begins-then before now after (by s h) k where
  by : (s : Stage) → HasBegun p before s now → Begins before now
  by spec.New h = begun-with-now p before now h
  by spec.Main h = begun-with-now p before now h
  by spec.Document h = begun-with-now p before now h
  by (spec.Wants name) h = begun-with-now p before now h
  by (spec.Over ended.Done) h = begun-with-now p before now h
  by (spec.Over (ended.Run file code offset)) h = begun-with-now p before now h
  by (spec.Over ended.Usage) h = begun-with-now p before now h
  by (spec.Over (ended.Sheet fault)) h = begun-with-now p before now h
  by (spec.Over (ended.Xml file fault)) h = begun-with-now p before now h
  by (spec.Over (ended.Host file fault offset)) h = begun-with-now p before now h
  by (spec.Over (ended.Fuel file offset)) h = begun-with-now p before now h
  by (spec.Over ended.Memory) h = h

pub heads : (p : Piece) (before now after : List ℕ) (s : Stage) → HasBegun p before s now → Begins now after → HasHead p before s after
heads p before now after spec.New h k = subst (λ xs. Begins xs after) h k
heads p before now after spec.Main h k = subst (λ xs. Begins xs after) h k
heads p before now after spec.Document h k = subst (λ xs. Begins xs after) h k
heads p before now after (spec.Wants name) h k = subst (λ xs. Begins xs after) h k
heads p before now after (spec.Over ended.Done) h k = subst (λ xs. Begins xs after) h k
heads p before now after (spec.Over (ended.Run file code offset)) h k = subst (λ xs. Begins xs after) h k
heads p before now after (spec.Over ended.Usage) h k = subst (λ xs. Begins xs after) h k
heads p before now after (spec.Over (ended.Sheet fault)) h k = subst (λ xs. Begins xs after) h k
heads p before now after (spec.Over (ended.Xml file fault)) h k = subst (λ xs. Begins xs after) h k
heads p before now after (spec.Over (ended.Host file fault offset)) h k = subst (λ xs. Begins xs after) h k
heads p before now after (spec.Over (ended.Fuel file offset)) h k = subst (λ xs. Begins xs after) h k
heads p before now after (spec.Over ended.Memory) h k = tt

pub same-run : (old new : Core) (r : Run) → run_of old ≡ r → IsSame old new → IsSameRun r (run_of new)
same-run old new r is h = subst (λ x. IsSameRun x (run_of new)) is (record { files = h.files; limits = h.limits; strip = h.strip; cdata = h.cdata })

-- a run that isn't over has no outcome
pub not-over : (s : own.Stage) → ((o : Outcome) → s ≡ stage.Over o → ⊥) → outcome_in (stage_of s) ≡ None
not-over stage.New h = refl
not-over stage.Main h = refl
not-over stage.Document h = refl
not-over (stage.Wants name) h = refl
not-over (stage.Over o) h = absurd (h o refl)
