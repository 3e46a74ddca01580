-- A sheet that is loaded is sound.
use Rattle.std.proofs.Common.{◌≡◌, ◌≤◌, ℕ, zero, suc, ◌+◌, Bool, true, false, nat_le, List, [], ◌∷◌, Option, Some, None, Ok, length, map, slice_get, take, refl, sym, ap, subst, ◌∙◌, if◌then◌else◌}
use Rattle.std.specs.Option.{option_map}
use Rattle.stx_base.specs.Course.{Answer, Given, Gives, Over, Unknown}
use Rattle.stx_base.specs.declared.limits.Limits.{Limits}
use Rattle.sheet_model.specs.Sound.{IsSmall, IsSound}
use Rattle.sheet_model.specs.declared.sheet.Sheet.{Sheet}
use Rattle.xml_events.specs.Document.{doc}
use Rattle.sheet_loader.proofs.Came.{given_came}
use Rattle.sheet_loader.proofs.FlatSheets.{whole_flat}
use Rattle.sheet_loader.proofs.GoodBuffers.{whole_fit}
use Rattle.sheet_loader.proofs.GoodDocuments.{document-sound, within-more}
use Rattle.sheet_loader.proofs.ReadableSheets.{whole_fine}
use Rattle.sheet_loader.proofs.RootedDocuments.{rooted}
use Rattle.sheet_loader.proofs.SoundNames.{whole_named}
use Rattle.sheet_loader.proofs.Standing.{given_stands}
use Rattle.sheet_loader.specs.Files.{Documents, Opened, by_answer, file_of, first_bytes, load_from, nodes_within, share, with_file}
use Rattle.sheet_loader.specs.Load.{outcome, sheet_of, sizes}
use Rattle.sheet_loader.specs.Read.{code_of_job}
use Rattle.sheet_loader.specs.Reading.{Ending, File, Listed, Refused, Unfinished, Wants}
use Rattle.sheet_loader.specs.Sounding.{IsGood, IsWithin, LoadedIsSound}
use Rattle.sheet_loader.specs.Standing.{IsDocument}
use Rattle.sheet_loader.specs.Values.{Reads}
use Rattle.sheet_loader.specs.Versions.{language}

some_is : {A : Type 0} (a b : A) → Some a ≡ Some b → a ≡ b
some_is a b e = cc

-- a file as any part of a document is one
record IsPart (limits : Limits) (file : File) : Type 0 where
  within : IsWithin limits.depth file.nodes
  good : IsGood file.nodes
  document : IsDocument file.nodes

nodes_are : (limits : Limits) (bytes : List ℕ) (most : ℕ) → IsWithin limits.depth (nodes_within limits bytes most) × IsGood (nodes_within limits bytes most) × IsDocument (nodes_within limits bytes most)
nodes_are limits bytes most = by (nat_le (length bytes) most) where
  of_doc : (bs : List ℕ) (ended : Bool) → IsWithin limits.depth (doc limits false bs ended) × IsGood (doc limits false bs ended) × IsDocument (doc limits false bs ended)
  of_doc bs ended = let d = document-sound limits bs ended in (d.0, d.1, rooted limits bs ended)

  by : (b : Bool) → IsWithin limits.depth (if b then doc limits false bytes true else doc limits false (take most bytes) false) × IsGood (if b then doc limits false bytes true else doc limits false (take most bytes) false) × IsDocument (if b then doc limits false bytes true else doc limits false (take most bytes) false)
  by true = of_doc bytes true
  by false = of_doc (take most bytes) false

module _ (reads : Reads) (limits : Limits) (docs : Documents) (name : List ℕ) where
  abbrev files_of : List Opened → List (Option File)
  files_of opened = map (file_of language reads limits docs name) opened

  file_is : (o : Opened) (bytes : Option (List ℕ)) (file : File) → option_map (λ bs. first_bytes language reads limits docs name bs (share limits o)) bytes ≡ Some file → IsPart limits file
  file_is o None file e = absurd cc
  file_is o (Some bytes) file e =
      let same : first_bytes language reads limits docs name bytes (share limits o) ≡ file = some_is (first_bytes language reads limits docs name bytes (share limits o)) file e in
      let n = nodes_are limits bytes (share limits o) in
      subst (IsPart limits) same (record { within = n.0; good = n.1; document = n.2 })

  files_are : (opened : List Opened) (n : ℕ) (file : File) → slice_get (files_of opened) n ≡ Some (Some file) → IsPart limits file
  files_are [] n file e = absurd cc
  files_are (o ∷ opened) zero file e = file_is o o.bytes file (some_is (file_of language reads limits docs name o) (Some file) e)
  files_are (o ∷ opened) (suc n) file e = files_are opened n file e

  -- the reading that gave the sheet
  record Gave (s : Sheet) : Type 0 where
    opened : List Opened
    names : List (List ℕ)
    listed : Listed
    outcome_is : outcome reads name (files_of opened) ≡ Given names listed
    sheet_is : listed.loading.sheet ≡ s

  loaded_by : (most : ℕ) (opened : List Opened) (s : Sheet) → (load_from language reads limits docs name most opened).result ≡ Ok s → Gave s
  loaded_by zero opened s e = absurd cc
  loaded_by (suc most) opened s e = by (outcome reads name (files_of opened)) refl e (λ more k. loaded_by most more s k) where
    by : (a : Answer Listed (List ℕ) Ending) → outcome reads name (files_of opened) ≡ a → (by_answer language reads limits docs name (load_from language reads limits docs name most) opened a).result ≡ Ok s
        → ((more : List Opened) → (load_from language reads limits docs name most more).result ≡ Ok s → Gave s) → Gave s
    by (Given names r) q k rest = record { opened = opened; names = names; listed = r; outcome_is = q; sheet_is = cc }
    by (Over names (Refused at why)) q k rest = absurd cc
    by (Over names (Wants numbers wanted)) q k rest = rest (with_file language reads limits docs name opened numbers wanted) k
    by (Over names Unfinished) q k rest = absurd cc
    by (Unknown names) q k rest = absurd cc

  -- a sheet is given only where its own file is there
  own_file : (files : List (Option File)) (names : List (List ℕ)) (r : Listed) → outcome reads name files ≡ Given names r → (file : File) × (others : List (Option File)) × (files ≡ Some file ∷ others)
  own_file [] names r e = absurd cc
  own_file (None ∷ others) names r e = absurd cc
  own_file (Some file ∷ others) names r e = (file, others, refl)

  given_sound : (file : File) (others : List (Option File)) (names : List (List ℕ)) (r : Listed) → limits.depth ≤ 512 → ((n : ℕ) (f : File) → slice_get (Some file ∷ others) n ≡ Some (Some f) → IsPart limits f)
      → Gives (code_of_job reads (Some file ∷ others)) (sheet_of reads name (Some file ∷ others)) names r → IsSmall r.loading.sheet → IsSound r.loading.sheet
  given_sound file others names r d parts g small =
      let own = parts 0 file refl in
      let c = given_came reads name file others names r g in
      let stands = (given_stands reads name file others names r own.document g).0 in
      let fine = whole_fine reads (Some file ∷ others) name file r c in
      let named = whole_named reads (Some file ∷ others) name file r own.document c in
      record {
        groups = stands.tree;
        numbers = stands.numbers;
        readable = fine.0;
        copies = fine.1;
        found = named.0;
        new = named.1;
        buffers = whole_fit reads name file others r (λ n f e. (parts n f e).good) c;
        small = small;
        flat = whole_flat reads name file others 512 r (λ n f e. within-more limits.depth 512 f.nodes d (parts n f e).within) c;
      }

  gave_sound : (s : Sheet) → limits.depth ≤ 512 → Gave s → IsSmall s → IsSound s
  gave_sound s d g small =
      let own = own_file (files_of g.opened) g.names g.listed g.outcome_is in
      let e : files_of g.opened ≡ Some own.0 ∷ own.1 = own.2 in
      let parts : (n : ℕ) (f : File) → slice_get (Some own.0 ∷ own.1) n ≡ Some (Some f) → IsPart limits f =
      λ n f k. files_are g.opened n f (ap (λ fs. slice_get fs n) e ∙ k) in
      let comes : outcome reads name (Some own.0 ∷ own.1) ≡ Given g.names g.listed = sym (ap (outcome reads name) e) ∙ g.outcome_is in
      subst IsSound g.sheet_is
      (given_sound own.0 own.1 g.names g.listed d parts (record { depth = sizes (Some own.0 ∷ own.1) + 1; comes = comes }) (subst IsSmall (sym g.sheet_is) small))

pub loaded_sound : LoadedIsSound
loaded_sound reads limits docs name s d e small = gave_sound reads limits docs name s d (loaded_by reads limits docs name (limits.sheet + 3) [] s e) small
