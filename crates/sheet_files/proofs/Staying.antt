-- That all reads came where the sheet wasn't decided yet, one act after another.
use Rattle.std.proofs.Common.{◌≡◌, ℕ, List, [], ◌∷◌, ◌++◌, Option, Some, sym, subst, append_assoc}
use Rattle.stx_base.specs.declared.limits.Limits.{Limits}
use Rattle.stx_host.specs.Outside.{Outside, document}
use Rattle.stx_host.specs.declared.act.Act.{Act}
use Rattle.stx_host.specs.declared.act.Act.TheVariants.{Open, Read, Close, Write}
use Rattle.stx_host.specs.declared.act.Doc.{Doc}
use Rattle.sheet_loader.specs.Files.{Documents}
use Rattle.sheet_loader.specs.Values.{Reads}
use Rattle.sheet_files.specs.Steps.{AreCloses, StayUndecided}
use Rattle.sheet_files.specs.Undecided.{IsUndecided, ReadUndecided}
use Rattle.sheet_files.proofs.Opening.{append_none}
use Rattle.sheet_files.proofs.Within.{if_told, told_at}

module _ (reads : Reads) (limits : Limits) (docs : Documents) (name : List ℕ) where
  -- one stretch of time after another
  undecided_more : (before acts more : List Act) → ReadUndecided reads limits docs name before acts → ReadUndecided reads limits docs name (before ++ acts) more → ReadUndecided reads limits docs name before (acts ++ more)
  undecided_more before [] more a b = subst (λ (l : List Act). ReadUndecided reads limits docs name l more) (append_none before) b
  undecided_more before (Read id got ∷ acts) more a b =
      (a.0, undecided_more (before ++ Read id got ∷ []) acts more a.1 (subst (λ (l : List Act). ReadUndecided reads limits docs name l more) (sym (append_assoc before (Read id got ∷ []) acts)) b))
  undecided_more before (Open doc id ∷ acts) more a b =
      undecided_more (before ++ Open doc id ∷ []) acts more a (subst (λ (l : List Act). ReadUndecided reads limits docs name l more) (sym (append_assoc before (Open doc id ∷ []) acts)) b)
  undecided_more before (Close id ∷ acts) more a b =
      undecided_more (before ++ Close id ∷ []) acts more a (subst (λ (l : List Act). ReadUndecided reads limits docs name l more) (sym (append_assoc before (Close id ∷ []) acts)) b)
  undecided_more before (Write lane len ∷ acts) more a b =
      undecided_more (before ++ Write lane len ∷ []) acts more a (subst (λ (l : List Act). ReadUndecided reads limits docs name l more) (sym (append_assoc before (Write lane len ∷ []) acts)) b)

  -- nothing is read where ids are given back
  closes_undecided : (before closes : List Act) → AreCloses closes → ReadUndecided reads limits docs name before closes
  closes_undecided before [] are = tt
  closes_undecided before (Close id ∷ closes) are = closes_undecided (before ++ Close id ∷ []) closes are
  closes_undecided before (Open doc id ∷ closes) are = absurd are
  closes_undecided before (Read id got ∷ closes) are = absurd are
  closes_undecided before (Write lane len ∷ closes) are = absurd are

-- what was read more was read where the sheet wasn't decided
abbrev pub AsksRightly : Limits → (name : List ℕ) → (start : Outside) → (acts more : List Act) → Type 0
AsksRightly limits name start acts more =
    (ids : List ℕ) (docs : List Doc) → start.open_ids ≡ Some ids → start.documents ≡ Some docs → (reads : Reads) → ReadUndecided reads limits (document docs) name acts more

pub stays_more : (limits : Limits) (name : List ℕ) (start : Outside) (acts more : List Act) → AsksRightly limits name start acts more → StayUndecided limits name start acts (acts ++ more)
stays_more limits name start acts more asks before =
    if_told start.open_ids start.documents
    (λ ids docs e d reads.
    undecided_more reads limits (document docs) name [] acts more
    (told_at (λ docs. (reads : Reads) → ReadUndecided reads limits (document docs) name [] acts) start.open_ids start.documents ids docs e d before reads) (asks ids docs e d reads))

pub stays_none : (limits : Limits) (name : List ℕ) (start : Outside) (acts : List Act) → StayUndecided limits name start acts (acts ++ [])
stays_none limits name start acts = stays_more limits name start acts [] (λ ids docs e d reads. tt)

pub stays_opened : (limits : Limits) (name : List ℕ) (start : Outside) (acts : List Act) (doc : Option ℕ) (id : ℕ) → StayUndecided limits name start acts (acts ++ Open doc id ∷ [])
stays_opened limits name start acts doc id = stays_more limits name start acts (Open doc id ∷ []) (λ ids docs e d reads. tt)

pub stays_closed : (limits : Limits) (name : List ℕ) (start : Outside) (acts closes : List Act) → AreCloses closes → StayUndecided limits name start acts (acts ++ closes)
stays_closed limits name start acts closes are = stays_more limits name start acts closes (λ ids docs e d reads. closes_undecided reads limits (document docs) name acts closes are)

pub stays_then : (limits : Limits) (name : List ℕ) (start : Outside) (a b c : List Act) → StayUndecided limits name start a b → StayUndecided limits name start b c → StayUndecided limits name start a c
stays_then limits name start a b c x y h = y (x h)

-- nothing was done, or names were opened, before anything was read
pub begins_undecided : (limits : Limits) (name : List ℕ) (start : Outside) → IsUndecided start limits name []
begins_undecided limits name start = if_told start.open_ids start.documents (λ ids docs e d reads. tt)

pub opened_undecided : (limits : Limits) (name : List ℕ) (start : Outside) (doc : Option ℕ) (id : ℕ) → IsUndecided start limits name (Open doc id ∷ [])
opened_undecided limits name start doc id = if_told start.open_ids start.documents (λ ids docs e d reads. tt)
