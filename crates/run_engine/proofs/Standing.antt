-- What holds of a run by its stage.
use Rattle.std.proofs.Common.{◌≡◌, ℕ, false, List, [], ◌∷◌, ◌++◌, Bool, Option, Some, None, Result, Ok, Err, OnOk, map, reverse, refl, sym, ap, subst, ◌∙◌, is_none}
use Rattle.std.proofs.lemmas.List.{reverse-append}
use Rattle.stx_base.specs.declared.limits.Limits.{Limits}
use Rattle.xml_events.specs.Document.{doc_for}
use Rattle.xml_events.specs.Source.{Source, ended_there, fed_with, future, source_for}
use Rattle.sheet_model.specs.declared.sheet.Sheet.{Sheet}
use Rattle.result_writer.specs.Target.{fresh}
use Rattle.template_machine.specs.Between.{IsNew, IsOf, depth_of, fuel_limit_of, fuel_of}
use Rattle.template_machine.specs.Commands.{given_by}
use Rattle.template_machine.specs.Giving.{params_of}
use Rattle.template_machine.specs.Written.{bytes_of, notes_of, target_of}
use Rattle.template_machine.specs.declared.turn.Param.{Param}
use Rattle.template_machine.specs.declared.output.Output.{Output}
use Rattle.run_engine.specs.Fitting.{DocumentsFit}
use Rattle.run_engine.proofs.Feeding.{begun-lists, begun-readable}
use Rattle.run_engine.specs.Run as spec
use Rattle.run_engine.specs.Run.{IsHungry, MayCome, Open, Run, at_start}
use Rattle.run_engine.specs.Taking.{ended_first, fed_first, opened_first}
use Rattle.run_engine.specs.declared.run.Core.{Core}
use Rattle.run_engine.specs.declared.run.Stage as own
use Rattle.run_engine.specs.declared.run.Stage.TheVariants as stage
use Rattle.run_engine.specs.declared.document.Document.{Document}
use Rattle.run_engine.specs.declared.piece.Piece.TheVariants as piece
use Rattle.run_engine.specs.inside.Cores.{Adds, AreReadable, IsBegun, IsFresh, IsKept, IsSoundAt, Opens, IsUnended, IsWanting, Reads, Waits, documents_in, open_of, lists_of, opened, opens_of, run_of, stage_of, mains_in}
use Rattle.run_engine.proofs.Asking.{opens-read, some-same}
use Rattle.run_engine.proofs.Pulled.{documents-read, none-some}

pub on-ok-both : {X Y : Type 0} (r : Result X Y) (A B C : Type 0) → (A → B → C) → OnOk r A → OnOk r B → OnOk r C
on-ok-both (Ok x) A B C f a b = f a b
on-ok-both (Err y) A B C f a b = tt

module _ (c : Core) where
  -- the start comes to a run that hasn't begun
  pub fresh-at : (s : own.Stage) → MayCome (stage_of s) piece.Start → IsSoundAt s c → IsFresh c
  fresh-at stage.New m h = h
  fresh-at stage.Main m h = absurd m
  fresh-at stage.Document m h = absurd m
  fresh-at (stage.Wants name) m h = absurd m
  fresh-at (stage.Over o) m h = absurd m

  -- bytes and the end come to one that asks for them
  pub reads-by : (s : own.Stage) (bytes : _) → MayCome (stage_of s) (piece.Bytes bytes) → IsSoundAt s c → Reads c
  reads-by stage.New bytes m h = absurd m
  reads-by stage.Main bytes m h = h
  reads-by stage.Document bytes m h = h
  reads-by (stage.Wants name) bytes m h = absurd m
  reads-by (stage.Over o) bytes m h = absurd m

  pub reads-by-end : (s : own.Stage) → MayCome (stage_of s) piece.End → IsSoundAt s c → Reads c
  reads-by-end stage.New m h = absurd m
  reads-by-end stage.Main m h = h
  reads-by-end stage.Document m h = h
  reads-by-end (stage.Wants name) m h = absurd m
  reads-by-end (stage.Over o) m h = absurd m

  -- the answers for a document come to one that waits for it
  pub waits-by : (s : own.Stage) → MayCome (stage_of s) piece.Opened → IsSoundAt s c → Waits c
  waits-by stage.New m h = absurd m
  waits-by stage.Main m h = absurd m
  waits-by stage.Document m h = absurd m
  waits-by (stage.Wants name) m h = h
  waits-by (stage.Over o) m h = absurd m

  pub waits-absent : (s : own.Stage) → MayCome (stage_of s) piece.Absent → IsSoundAt s c → Waits c
  waits-absent stage.New m h = absurd m
  waits-absent stage.Main m h = absurd m
  waits-absent stage.Document m h = absurd m
  waits-absent (stage.Wants name) m h = h
  waits-absent (stage.Over o) m h = absurd m

  pub wanting : (s : own.Stage) → c.stage ≡ s → MayCome (stage_of s) piece.Opened → IsWanting c
  wanting stage.New is m = absurd m
  wanting stage.Main is m = absurd m
  wanting stage.Document is m = absurd m
  wanting (stage.Wants name) is m = (name, ap stage_of is)
  wanting (stage.Over o) is m = absurd m

  -- the document that is asked for hasn't ended
  first-unended : (n : Option Document) → c.newest ≡ n → Reads c → (IsFirst : List Open → Type 0) → (IsFirst [] → ⊥) → ((d : Open) (ds : List Open) → IsFirst (d ∷ ds) → IsHungry d.source) → IsFirst (opens_of c) → IsUnended c
  first-unended None is r P none some h = absurd (none (subst P (ap (λ o. map open_of (opened o ++ reverse c.outer.items)) is ∙ ap (λ ds. map open_of (reverse ds)) (r.steady.bare is)) h))
  first-unended (Some d) is r P none some h = (d, (is, (some (open_of d) (map open_of (reverse c.outer.items)) (subst P (opens-read c d is) h)).unended))

  pub unended-main : Reads c → spec.MainIsHungry (opens_of c) → IsUnended c
  unended-main r h = first-unended c.newest refl r spec.MainIsHungry (λ x. x) (λ d ds x. x.1) h

  pub unended-other : Reads c → spec.OtherIsHungry (opens_of c) → IsUnended c
  unended-other r h = first-unended c.newest refl r spec.OtherIsHungry (λ x. x) (λ d ds x. x.1) h

  pub unended-by : (s : own.Stage) (bytes : _) → MayCome (stage_of s) (piece.Bytes bytes) → Reads c → spec.StandsAt (stage_of s) c.files (opens_of c) → IsUnended c
  unended-by stage.New bytes m r h = absurd m
  unended-by stage.Main bytes m r h = unended-main r h
  unended-by stage.Document bytes m r h = unended-other r h
  unended-by (stage.Wants name) bytes m r h = absurd m
  unended-by (stage.Over o) bytes m r h = absurd m

  pub unended-by-end : (s : own.Stage) → MayCome (stage_of s) piece.End → Reads c → spec.StandsAt (stage_of s) c.files (opens_of c) → IsUnended c
  unended-by-end stage.New m r h = absurd m
  unended-by-end stage.Main m r h = unended-main r h
  unended-by-end stage.Document m r h = unended-other r h
  unended-by-end (stage.Wants name) m r h = absurd m
  unended-by-end (stage.Over o) m r h = absurd m

  pub unended-so : (d : Document) → IsUnended c → c.newest ≡ Some d → d.reader.lexer.ended ≡ false
  unended-so d u is = subst (λ (x : Document). x.reader.lexer.ended ≡ false) (sym (some-same d u.0 (sym is ∙ u.1.0))) u.1.1

  pub has-one : IsUnended c → c.newest ≡ None → ⊥
  has-one u h = none-some c.newest u.0 u.1.0 h

-- the newest document was handed bytes, or its end
pub fed-given : (old new : Core) (b a : Document) (piece : List ℕ) → old.newest ≡ Some b → new.newest ≡ Some a → a.name ≡ b.name → a.reader ≡ fed_with b.reader piece → new.outer.items ≡ old.outer.items → opens_of new ≡ fed_first piece (opens_of old)
fed-given old new b a piece was is name fed outer =
    opens-read new a is ∙ ap (λ os. open_of a ∷ map open_of (reverse os)) outer
    ∙ ap (λ (n : Option (List ℕ)). record { name = n; source = a.reader } ∷ map open_of (reverse old.outer.items)) name
    ∙ ap (λ (s : Source). record { name = b.name; source = s } ∷ map open_of (reverse old.outer.items)) fed ∙ sym (ap (fed_first piece) (opens-read old b was))

pub ended-given : (old new : Core) (b a : Document) → old.newest ≡ Some b → new.newest ≡ Some a → a.name ≡ b.name → a.reader ≡ ended_there b.reader → new.outer.items ≡ old.outer.items → opens_of new ≡ ended_first (opens_of old)
ended-given old new b a was is name end outer =
    opens-read new a is ∙ ap (λ os. open_of a ∷ map open_of (reverse os)) outer
    ∙ ap (λ (n : Option (List ℕ)). record { name = n; source = a.reader } ∷ map open_of (reverse old.outer.items)) name
    ∙ ap (λ (s : Source). record { name = b.name; source = s } ∷ map open_of (reverse old.outer.items)) end ∙ sym (ap ended_first (opens-read old b was))

-- a document becomes the newest
pub adds-first : (old new : Core) (d outer : Document) → old.newest ≡ Some outer → new ≡ record old { newest = Some d; outer = new.outer } → new.outer.items ≡ old.outer.items ++ outer ∷ [] → Adds d old new
adds-first old new d outer was is pushed =
    let first : new.newest ≡ Some d = ap (λ (c : Core). c.newest) is in
    record {
      documents =
          documents-read new d first ∙ ap (λ os. d ∷ reverse os) pushed ∙ ap (λ os. d ∷ os) (reverse-append old.outer.items (outer ∷ []))
          ∙ sym (ap (λ os. d ∷ os) (documents-read old outer was));
      bare = λ h. absurd (none-some new.newest d first h);
      others = is ∙ ap (λ n. record old { newest = n; outer = new.outer }) (sym first);
    }

pub adds-alone : (old new : Core) (d : Document) → old.newest ≡ None → old.outer.items ≡ [] → new ≡ record old { newest = Some d } → Adds d old new
adds-alone old new d was none is =
    let first : new.newest ≡ Some d = ap (λ (c : Core). c.newest) is in
    let rest : new.outer ≡ old.outer = ap (λ (c : Core). c.outer) is in
    record {
      documents =
          documents-read new d first ∙ ap (λ os. d ∷ reverse os) (ap (λ (c : Core). c.outer.items) is ∙ none)
          ∙ sym (ap (λ ds. d ∷ ds) (ap (λ o. opened o ++ reverse old.outer.items) was ∙ ap reverse none));
      bare = λ h. absurd (none-some new.newest d first h);
      others = is ∙ ap (λ n. record old { newest = n; outer = old.outer }) (sym first) ∙ ap (λ o. record old { newest = new.newest; outer = o }) (sym rest);
    }

-- what is settled is no part of how a run stands
reads-out : (c : Core) (o : Output) → Reads c → Reads (record c { out = o })
reads-out c o h = record {
  steady = record { bare = h.steady.bare; depth = h.steady.depth; fuel = h.steady.fuel };
  asking = h.asking;
  tied = record { lists = h.tied.lists; mains = h.tied.mains; readable = h.tied.readable };
}

pub kept-out : (c : Core) (o : Output) → IsKept c → IsKept (record c { out = o })
kept-out c o k = record { sound = by c.stage k.sound; stands = k.stands } where
  by : (s : own.Stage) → IsSoundAt s c → IsSoundAt s (record c { out = o })
  by stage.New h = record {
    steady = record { bare = h.steady.bare; depth = h.steady.depth; fuel = h.steady.fuel };
    machine = h.machine;
    lists = h.lists;
    mains = h.mains;
    readable = h.readable;
  }
  by stage.Main h = reads-out c o h
  by stage.Document h = reads-out c o h
  by (stage.Wants name) h = record {
    steady = record { bare = h.steady.bare; depth = h.steady.depth; fuel = h.steady.fuel };
    asking = h.asking;
    tied = record { lists = h.tied.lists; mains = h.tied.mains; readable = h.tied.readable };
  }
  by (stage.Over outcome) h = tt

-- a run that hasn't begun
pub run-same :
    (a b : Run) → a.stage ≡ b.stage → a.files ≡ b.files → a.limits ≡ b.limits → a.strip ≡ b.strip → a.cdata ≡ b.cdata → a.documents ≡ b.documents → a.fuel ≡ b.fuel → a.machine ≡ b.machine
    → a.output ≡ b.output
    → a ≡ b
run-same a b s f l t d o u m p =
    ap (λ x. record a { stage = x }) s ∙ ap (λ x. record a { stage = b.stage; files = x }) f ∙ ap (λ x. record a { stage = b.stage; files = b.files; limits = x }) l
    ∙ ap (λ x. record b { strip = x; cdata = a.cdata; documents = a.documents; fuel = a.fuel; machine = a.machine; output = a.output }) t
    ∙ ap (λ x. record b { cdata = x; documents = a.documents; fuel = a.fuel; machine = a.machine; output = a.output }) d
    ∙ ap (λ x. record b { documents = x; fuel = a.fuel; machine = a.machine; output = a.output }) o ∙ ap (λ x. record b { fuel = x; machine = a.machine; output = a.output }) u
    ∙ ap (λ x. record b { machine = x; output = a.output }) m ∙ ap (λ x. record b { output = x }) p

pub begun-so :
    (sheet : Sheet) (params : List Param) (limits : Limits) (c : Core) (s : Source) → c.stage ≡ stage.New → IsNew c.machine → depth_of c.machine ≡ limits.depth → fuel_of c.machine ≡ limits.fuel → fuel_limit_of c.machine ≡ limits.fuel
    → c.limits ≡ limits → c.strip ≡ sheet.strip → c.cdata ≡ sheet.cdata → c.files ≡ sheet.files
    → c.newest ≡ Some (record { name = None; reader = s }) → c.outer.items ≡ [] → s ≡ source_for limits sheet.strip sheet.cdata
    → ((bytes : List ℕ) (ended : Bool) → future s bytes ended ≡ doc_for limits sheet.strip sheet.cdata bytes ended ∷ []) → DocumentsFit
    → IsOf sheet limits c.machine → params_of c.machine ≡ map given_by params → target_of c.out ≡ fresh limits.elements → bytes_of c.out ≡ [] → notes_of c.out ≡ []
    → IsBegun sheet params limits c
begun-so sheet params limits c s new machine depth fuel fuel_limit l t d f newest outer begun is fit of given target bytes notes =
    let main : Document = record { name = None; reader = s } in
    let documents : documents_in c ≡ main ∷ [] = documents-read c main newest ∙ ap (λ os. main ∷ reverse os) outer in
    let over : s.over ≡ None = ap (λ (x : Source). x.over) begun in
    let fresh : IsFresh c = record {
      steady = record {
        bare = λ h. absurd (none-some c.newest main newest h);
        depth = depth ∙ sym (ap (λ (x : Limits). x.depth) l);
        fuel = fuel_limit ∙ sym (ap (λ (x : Limits). x.fuel) l);
      };
      machine = machine;
      lists = ap lists_of documents ∙ ap (λ n. n ∷ []) (begun-lists limits sheet.strip sheet.cdata s over is fit);
      mains = ap mains_in documents;
      readable =
          subst (λ (x : Limits). AreReadable x.depth (documents_in c)) (sym l)
          (subst (AreReadable limits.depth) (sym documents) (begun-readable limits sheet.strip sheet.cdata s over is fit, tt));
    } in
    record {
      sound = record {
        sound = subst (λ x. IsSoundAt x c) (sym new) fresh;
        stands = subst (λ x. spec.StandsAt (stage_of x) c.files (opens_of c)) (sym new) tt;
      };
      run = record {
        is =
            run-same (run_of c) (at_start sheet limits c.machine) (ap stage_of new) f l t d
            (ap (map open_of) documents ∙ ap (λ (x : Source). record { name = None; source = x } ∷ []) begun) fuel refl target;
        of = of;
        given = given;
      };
      bytes = bytes;
      notes = notes;
    }

-- the wanted document is the newest
pub opens-so :
    (old mid new : Core) (name : List ℕ) (d : Document) → stage_of old.stage ≡ spec.Wants name → mid ≡ record old { stage = mid.stage } → Adds d mid new
    → d.name ≡ Some name → d.reader ≡ source_for old.limits old.strip old.cdata
    → ((bytes : List ℕ) (ended : Bool) → future d.reader bytes ended ≡ doc_for old.limits old.strip old.cdata bytes ended ∷ []) → DocumentsFit
    → Opens old new
opens-so old mid new name d wants taken adds named begun is fit =
    let over : d.reader.over ≡ None = ap (λ (x : Source). x.over) begun in
    let documents : documents_in new ≡ d ∷ documents_in old = adds.documents ∙ ap (λ (c : Core). d ∷ documents_in c) taken in
    record {
      document = d;
      given =
          ap (map open_of) documents ∙ ap (λ n. record { name = n; source = d.reader } ∷ opens_of old) named
          ∙ ap (λ (x : Source). record { name = Some name; source = x } ∷ opens_of old) begun ∙ sym (ap (opened_first (run_of old)) wants);
      readable = begun-readable old.limits old.strip old.cdata d.reader over is fit;
      lists = begun-lists old.limits old.strip old.cdata d.reader over is fit;
      named = ap is_none named;
      documents = documents;
      bare = adds.bare;
      others = stages new (adds.others ∙ ap (λ (c : Core). record c { newest = new.newest; outer = new.outer }) taken);
    } where
      stages : (c : Core) → c ≡ record old { newest = new.newest; outer = new.outer; stage = mid.stage } → c ≡ record old { newest = new.newest; outer = new.outer; stage = c.stage }
      stages c e = e ∙ ap (λ s. record old { newest = new.newest; outer = new.outer; stage = s }) (sym (ap (λ (x : Core). x.stage) e))
