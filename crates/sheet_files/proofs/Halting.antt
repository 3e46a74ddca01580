-- The files that were opened are the first ones that the definition opens, where a host tells its documents.
use Rattle.std.proofs.Common.{◌≡◌, ℕ, List, [], ◌∷◌, ◌++◌, Some, refl, sym, subst}
use Rattle.stx_base.specs.declared.limits.Limits.{Limits}
use Rattle.stx_host.specs.Outside.{Outside, document}
use Rattle.stx_host.specs.declared.act.Act.{Act}
use Rattle.stx_host.specs.declared.act.Doc.{Doc}
use Rattle.sheet_loader.proofs.Ending.{comes_to_one}
use Rattle.sheet_loader.specs.Files.{load}
use Rattle.sheet_loader.specs.Loaders.{Standing, wanted_in}
use Rattle.sheet_files.specs.Held.{HasRest, IsWithin, names_of, seen_of}
use Rattle.sheet_files.specs.Opened.{AreOf, Seen, names_in}
use Rattle.sheet_files.specs.Reading.{IsRead, IsReadBy, WantsFile}
use Rattle.sheet_files.specs.Steps.{OpensFirst}
use Rattle.sheet_files.specs.declared.going.Going.{Going}
use Rattle.sheet_files.specs.declared.reading.Reading.{Reading}
use Rattle.sheet_files.proofs.Begins.{own_begins}
use Rattle.sheet_files.proofs.Coming.{wanted_begins}
use Rattle.sheet_files.proofs.Opening.{append_none}
use Rattle.sheet_files.proofs.Stepping.{read_like}
use Rattle.sheet_files.proofs.Within.{if_told, told_at}

pub first_none : (start : Outside) (limits : Limits) (name : List ℕ) → OpensFirst start limits name []
first_none start limits name = if_told start.open_ids start.documents (λ s docs e d reads. ((load reads limits (document docs) name).opened, refl))

pub first_own : (start : Outside) (limits : Limits) (name : List ℕ) → OpensFirst start limits name (name ∷ [])
first_own start limits name = if_told start.open_ids start.documents (λ s docs e d reads. own_begins reads limits (document docs) name comes_to_one)

pub first_like : (start : Outside) (limits lim : Limits) (name : List ℕ) (names more : List (List ℕ)) → lim ≡ limits → more ≡ names → OpensFirst start limits name names → OpensFirst start lim name more
first_like start limits lim name names more same_limits same first =
    subst (λ (l : Limits). OpensFirst start l name more) (sym same_limits) (subst (λ (ns : List (List ℕ)). OpensFirst start limits name ns) (sym same) first)

module _ (start o : Outside) (limits : Limits) (name : List ℕ) (going : List Going) (files : List Doc) (x : Standing) (left : ℕ) (missing : List Seen) (acts : List Act)
    (read : IsReadBy limits name going files x left missing) (within : IsWithin start o going files missing acts) where
  told_files : (s : List ℕ) (docs : List Doc) → start.open_ids ≡ Some s → start.documents ≡ Some docs → AreOf (document docs) (seen_of going files ++ missing)
  told_files s docs e d = (told_at (λ docs. AreOf (document docs) (seen_of going files ++ missing) × HasRest docs o (names_of files) going) start.open_ids start.documents s docs e d within.told).0

  -- so it is of all that were opened
  pub first_told : OpensFirst start limits name (names_of files ++ names_in missing)
  first_told = if_told start.open_ids start.documents (λ s docs e d reads. read.begins (document docs) (told_files s docs e d) reads)

-- and of the file that is wanted next
pub first_wanted : (start o : Outside) (name : List ℕ) (old : Reading) (href : List ℕ) (acts : List Act) → IsRead name old [] → wanted_in old.loader.progress ≡ Some href → WantsFile old.going.items old.loader
    → IsWithin start o old.going.items old.files.items [] acts → OpensFirst start old.limits name (names_of old.files.items ++ href ∷ [])
first_wanted start o name old href acts read wanted wants within =
    let front = wants.last.0 in
    let g = wants.last.1 in
    let was : IsReadBy old.limits name (front ++ g ∷ []) old.files.items old.loader old.left [] =
    read_like old.limits name old.going.items (front ++ g ∷ []) old.files.items old.files.items old.loader old.loader old.left old.left [] (sym wants.last.2) refl refl refl read in
    if_told start.open_ids start.documents
    (λ s docs e d reads.
    let seen = told_files start o old.limits name old.going.items old.files.items old.loader old.left [] acts read within s docs e d in
    wanted_begins old.limits name comes_to_one front g old.files.items old.loader old.left was href wanted wants.here wants.last.3.0 wants.last.3.1 (document docs)
    (subst (λ (l : List Going). AreOf (document docs) (seen_of l old.files.items)) wants.last.2 (subst (AreOf (document docs)) (append_none (seen_of old.going.items old.files.items)) seen)) reads)
