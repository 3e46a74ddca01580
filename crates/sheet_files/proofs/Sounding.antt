-- That a sheet that files give is sound, where these have few bytes.
use Rattle.std.proofs.Common.{◌≡◌, ◌+◌, ◌*◌, ◌<◌, ◌≤◌, ◌^◌, ℕ, zero, suc, Bool, true, false, nat_le, List, [], ◌∷◌, ◌++◌, map, length, slice_get, take, Option, Some, sum_by, refl, ap, subst, arith, if◌then◌else◌, length-take}
use Rattle.std.proofs.lemmas.List.Sums.{sum_by-append, sum_by-cons}
use Rattle.stx_base.specs.Course.{Gives}
use Rattle.stx_base.specs.declared.limits.Limits.{Limits}
use Rattle.xml_events.specs.Document.{doc}
use Rattle.sheet_model.specs.Entries.{entries}
use Rattle.sheet_model.specs.declared.sheet.Sheet.{Sheet}
use Rattle.sheet_loader.proofs.Came.{given_came}
use Rattle.sheet_loader.proofs.DocumentWeights.{document_weighs}
use Rattle.sheet_loader.proofs.FlatSheets.{whole_flat}
use Rattle.sheet_loader.proofs.GoodBuffers.{whole_fit}
use Rattle.sheet_loader.proofs.GoodDocuments.{document-sound, within-more}
use Rattle.sheet_loader.proofs.ReadableSheets.{whole_fine}
use Rattle.sheet_loader.proofs.RootedDocuments.{rooted}
use Rattle.sheet_loader.proofs.SheetEntries.{given_few}
use Rattle.sheet_loader.proofs.SoundNames.{whole_named}
use Rattle.sheet_loader.proofs.Standing.{given_stands}
use Rattle.sheet_loader.specs.Load.{sheet_of}
use Rattle.sheet_loader.specs.Loaders.{GivesSheet, Standing}
use Rattle.sheet_loader.specs.Read.{code_of_job}
use Rattle.sheet_loader.specs.Reading.{File, Listed}
use Rattle.sheet_loader.specs.Sounding.{IsGood, IsWithin}
use Rattle.sheet_loader.specs.Standing.{IsDocument}
use Rattle.sheet_loader.specs.Values.{Reads}
use Rattle.sheet_loader.specs.Weighing.{file_weight, files_weight, weight}
use Rattle.sheet_files.specs.Following.{bytes_read}
use Rattle.sheet_files.specs.Frames.{ComesTo, Frame, Part, cut_file, files_cut, grow, lists_cut, whole_file}
use Rattle.sheet_files.specs.Reading.{IsSoundWithin}
use Rattle.sheet_files.proofs.Courses.{gives_said}
use Rattle.sheet_files.proofs.Opening.{append_none}

-- What was read of a file that goes on, and of one that is left.

-- an include's file that counts in others leaves what was read of them
pub read_grown : (size : ℕ) (frames : List Frame) → bytes_read (grow size frames) ≡ bytes_read frames
read_grown size [] = refl
read_grown size (f ∷ outer) = ap (λ (n : ℕ). f.taken + sum_by (λ (p : Part). length p.bytes) f.done + n) (read_grown size outer)

-- of a file that is read next nothing was read
pub read_fresh : (n : ℕ) → 0 + 0 + n ≡ n
read_fresh n = omega arith

-- a file that was read to its end is one of those of the file around it
pub read_left : (f g : Frame) (outer : List Frame) → f.taken ≡ length f.part.bytes → bytes_read (record g { done = g.done ++ f.part ∷ f.done } ∷ outer) ≡ bytes_read (f ∷ g ∷ outer)
read_left f g outer whole =
    let more = sum_by-append (λ (p : Part). length p.bytes) g.done (f.part ∷ f.done) in
    let own = sum_by-cons (λ (p : Part). length p.bytes) f.part f.done in
    omega (arith, more, own, whole)

-- a file as any part of a document is one
record IsPart (limits : Limits) (bytes : ℕ) (file : File) : Type 0 where
  within : IsWithin limits.depth file.nodes
  good : IsGood file.nodes
  document : IsDocument file.nodes
  light : weight file.nodes ≤ bytes

module _ (limits : Limits) where
  cut_is : (bytes : List ℕ) (most : ℕ) → IsPart limits (length bytes) (cut_file limits bytes most)
  cut_is bytes most = let is = by (nat_le (length bytes) most) in record { within = is.0; good = is.1; document = is.2; light = is.3 } where
    of_doc : (part : List ℕ) (ended : Bool) → length part ≤ length bytes
        → IsWithin limits.depth (doc limits false part ended) × IsGood (doc limits false part ended) × IsDocument (doc limits false part ended) × (weight (doc limits false part ended) ≤ length bytes)
    of_doc part ended few =
        let sound = document-sound limits part ended in
        let light = document_weighs limits part ended in
        (sound.0, sound.1, rooted limits part ended, omega (arith, light, few))

    by : (b : Bool) → let nodes = if b then doc limits false bytes true else doc limits false (take most bytes) false in IsWithin limits.depth nodes × IsGood nodes × IsDocument nodes × (weight nodes ≤ length bytes)
    by true = of_doc bytes true (omega arith)
    by false = of_doc (take most bytes) false (omega (arith, length-take most bytes))

  some_is : {A : Type 0} (a b : A) → Some a ≡ Some b → a ≡ b
  some_is a b e = cc

  done_are : (done : List Part) (n : ℕ) (file : File) → slice_get (map (whole_file limits) done) n ≡ Some (Some file) → (bytes : ℕ) × IsPart limits bytes file
  done_are [] n file e = absurd cc
  done_are (p ∷ done) zero file e =
      (length p.bytes, subst (IsPart limits (length p.bytes)) (some_is (cut_file limits p.bytes (length p.bytes)) file (some_is (whole_file limits p) (Some file) e)) (cut_is p.bytes (length p.bytes)))
  done_are (p ∷ done) (suc n) file e = done_are done n file e

  done_light : (done : List Part) → files_weight (map (whole_file limits) done) ≤ sum_by (λ (p : Part). length p.bytes) done
  done_light [] = omega arith
  done_light (p ∷ done) =
      let here = (cut_is p.bytes (length p.bytes)).light in
      let others = done_light done in
      let bytes = sum_by-cons (λ (p : Part). length p.bytes) p done in
      let weighs = sum_by-cons file_weight (whole_file limits p) (map (whole_file limits) done) in
      omega (arith, here, others, bytes, weighs)

  -- What its own file and all that are included give.
  module _ (own : List ℕ) (most : ℕ) (done : List Part) where
    abbrev file : File
    file = cut_file limits own most

    abbrev others : List (Option File)
    others = map (whole_file limits) done

    are_parts : (n : ℕ) (f : File) → slice_get (Some file ∷ others) n ≡ Some (Some f) → (bytes : ℕ) × IsPart limits bytes f
    are_parts zero f e = (length own, subst (IsPart limits (length own)) (some_is file f (some_is (Some file) (Some f) e)) (cut_is own most))
    are_parts (suc n) f e = done_are done n f e

    given_sound : (reads : Reads) (name : List ℕ) (names : List (List ℕ)) (r : Listed) → length own + sum_by (λ (p : Part). length p.bytes) done ≤ limits.sheet
        → Gives (code_of_job reads (Some file ∷ others)) (sheet_of reads name (Some file ∷ others)) names r → IsSoundWithin limits r.loading.sheet
    given_sound reads name names r all g depth small =
        let document = (cut_is own most).document in
        let came = given_came reads name file others names r g in
        let stands = (given_stands reads name file others names r document g).0 in
        let fine = whole_fine reads (Some file ∷ others) name file r came in
        let named = whole_named reads (Some file ∷ others) name file r document came in
        let few = given_few reads name file others names r g in
        let light = (cut_is own most).light in
        let rest = done_light done in
        let weighs = sum_by-cons file_weight (Some file) others in
        record {
          groups = stands.tree;
          numbers = stands.numbers;
          readable = fine.0;
          copies = fine.1;
          found = named.0;
          new = named.1;
          buffers = whole_fit reads name file others r (λ n f e. (are_parts n f e).1.good) came;
          small = is_small (entries r.loading.sheet) (files_weight (Some file ∷ others)) few (omega (arith, light, rest, weighs, all)) small;
          flat = whole_flat reads name file others 512 r (λ n f e. within-more limits.depth 512 f.nodes depth (are_parts n f e).1.within) came;
        } where
          is_small : (n weight : ℕ) → n ≤ 1 + 3 * weight → weight ≤ limits.sheet → limits.sheet ≤ 2 ^ 24 → n < 2 ^ 28
          is_small n weight few light small = omega arith

  -- The sheet is sound, where its own file alone is left, and was read to its end.
  pub gives_sound : (name : List ℕ) (f : Frame) (cut : ℕ) (x : Standing) → ComesTo limits name x.names (f ∷ []) x.progress (cut ∷ []) → f.taken ≡ length f.part.bytes → bytes_read (f ∷ []) ≤ limits.sheet
      → Reads → (sheet : Sheet) → GivesSheet x sheet → IsSoundWithin limits sheet
  gives_sound name f cut x comes whole all reads sheet gives =
      let files = files_cut limits (f ∷ []) (cut ∷ []) in
      let lists = lists_cut (f ∷ []) (cut ∷ []) in
      let r = gives reads (files ++ []) lists in
      let given : Gives (code_of_job reads (files ++ [])) (sheet_of reads name (files ++ [])) (x.names ++ []) r.0 =
      (comes reads []).from (x.names ++ []) r.0 (gives_said {code = code_of_job reads (files ++ [])} x.names r.1) in
      let plain : Gives (code_of_job reads files) (sheet_of reads name files) (x.names ++ []) r.0 =
      subst (λ (l : List (Option File)). Gives (code_of_job reads l) (sheet_of reads name l) (x.names ++ []) r.0) (append_none files) given in
      subst (IsSoundWithin limits) r.2 (given_sound f.part.bytes cut f.done reads name (x.names ++ []) r.0 (omega (arith, whole, all)) plain)
