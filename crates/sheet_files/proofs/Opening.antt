-- The files that were opened, by those that are being read.
use Rattle.std.proofs.Common.{◌≡◌, ℕ, suc, ◌+◌, ◌<◌, ◌≤◌, Bool, true, false, List, [], ◌∷◌, ◌++◌, map, length, slice_get, Option, Some, refl, sym, ap, ◌∙◌, arith, append_assoc}
use Rattle.std.proofs.lemmas.Slice.Eq.{bytes_eq-Decides}
use Rattle.std.specs.Option.{option_and_then, option_map_or}
use Rattle.std.specs.Prelude.{◌&&◌, bytes_eq}
use Rattle.stx_base.specs.Course.{Over}
use Rattle.stx_base.specs.declared.limits.Limits.{Limits}
use Rattle.sheet_loader.specs.Files.{Documents, Opened, changed, file_of, file_within, files_with, grown, known_at, seen, share, size_of, wants, with_file}
use Rattle.sheet_loader.specs.Load.{outcome}
use Rattle.sheet_loader.specs.Reading.{File, Wants}
use Rattle.sheet_loader.specs.Values.{Reads}
use Rattle.sheet_loader.specs.Versions.{language}
use Rattle.sheet_files.specs.Frames.{AllFit, FitAll, Frame, Part, as_opened, cut_file, files_cut, grow, include_known, numbers_of, opened_of, parts_of, shares, whole_file}
use Rattle.sheet_files.proofs.Cuts.{cut_whole}
use Rattle.sheet_files.proofs.Fewest.{fewest_is}

pub map_append : {A B : Type 0} (h : A → B) (xs ys : List A) → map h (xs ++ ys) ≡ map h xs ++ map h ys
map_append h [] ys = refl
map_append h (x ∷ xs) ys = ap (λ l. h x ∷ l) (map_append h xs ys)

-- one entry is changed
pub changed_at : {A : Type 0} (h : A → A) (xs : List A) (y : A) (zs : List A) → changed h (length xs) (xs ++ y ∷ zs) ≡ xs ++ h y ∷ zs
changed_at h [] y zs = refl
changed_at h (x ∷ xs) y zs = ap (λ l. x ∷ l) (changed_at h xs y zs)

pub slice_at : {A : Type 0} (xs : List A) (y : A) (zs : List A) → slice_get (xs ++ y ∷ zs) (length xs) ≡ Some y
slice_at [] y zs = refl
slice_at (x ∷ xs) y zs = slice_at xs y zs

pub length_map : {A B : Type 0} (h : A → B) (xs : List A) → length (map h xs) ≡ length xs
length_map h [] = refl
length_map h (x ∷ xs) = ap suc (length_map h xs)

-- the files that were opened, the innermost one and what was read in it apart
pub opened_with : (f : Frame) (outer : List Frame) → opened_of (f ∷ outer) ≡ opened_of outer ++ as_opened f.part ∷ map as_opened f.done
opened_with f outer = map_append as_opened (parts_of outer) (f.part ∷ f.done)

-- an entry of the innermost file is changed
pub changed_with : (h : Opened → Opened) (f : Frame) (outer : List Frame) (rest : List Opened) → changed h (length (parts_of outer)) (opened_of (f ∷ outer) ++ rest) ≡ opened_of outer ++ h (as_opened f.part) ∷ (map as_opened f.done ++ rest)
changed_with h f outer rest =
    let n : length (parts_of outer) ≡ length (opened_of outer) = sym (length_map as_opened (parts_of outer)) in
    ap (λ (l : List Opened). changed h (length (parts_of outer)) (l ++ rest)) (opened_with f outer)
    ∙ ap (λ (l : List Opened). changed h (length (parts_of outer)) l) (append_assoc (opened_of outer) (as_opened f.part ∷ map as_opened f.done) rest)
    ∙ ap (λ (k : ℕ). changed h k (opened_of outer ++ as_opened f.part ∷ (map as_opened f.done ++ rest))) n
    ∙ changed_at h (opened_of outer) (as_opened f.part) (map as_opened f.done ++ rest)

-- an include's file counts in all files that are being read
pub grown_frames : (frames : List Frame) (size : ℕ) (rest : List Opened) → grown (numbers_of frames) size (opened_of frames ++ rest) ≡ opened_of (grow size frames) ++ rest
grown_frames [] size rest = refl
grown_frames (f ∷ outer) size rest =
    let h : Opened → Opened = λ o. record o { inside = o.inside + size } in
    let f2 : Frame = record f { part = record f.part { inside = f.part.inside + size } } in
    ap (λ (l : List Opened). grown (numbers_of outer) size l) (changed_with h f outer rest)
    ∙ grown_frames outer size (as_opened f2.part ∷ (map as_opened f2.done ++ rest))
    ∙ sym (append_assoc (opened_of (grow size outer)) (as_opened f2.part ∷ map as_opened f2.done) rest)
    ∙ ap (λ (l : List Opened). l ++ rest) (sym (opened_with f2 (grow size outer)))

pub append_none : {A : Type 0} (xs : List A) → xs ++ [] ≡ xs
append_none [] = refl
append_none (x ∷ xs) = ap (λ l. x ∷ l) (append_none xs)

-- an include of the innermost file is known
pub seen_frames : (f : Frame) (outer : List Frame) → seen (numbers_of (f ∷ outer)) f.taken (opened_of (f ∷ outer)) ≡ opened_of (include_known f ∷ outer)
seen_frames f outer =
    let h : Opened → Opened = λ o. record o { known = f.taken } in
    let g = include_known f in
    ap (λ (l : List Opened). changed h (length (parts_of outer)) l) (sym (append_none (opened_of (f ∷ outer))))
    ∙ changed_with h f outer []
    ∙ ap (λ (l : List Opened). opened_of outer ++ as_opened g.part ∷ l) (append_none (map as_opened g.done))
    ∙ sym (opened_with g outer)

module _ (reads : Reads) (limits : Limits) (docs : Documents) (name : List ℕ) where
  done_files : (parts : List Part) → AllFit limits parts → map (file_of language reads limits docs name) (map as_opened parts) ≡ map (whole_file limits) parts
  done_files [] fit = refl
  done_files (p ∷ parts) fit =
      ap (λ (x : File). Some x ∷ map (file_of language reads limits docs name) (map as_opened parts)) (cut_whole limits p.bytes (share limits (as_opened p)) fit.0)
      ∙ ap (λ (l : List (Option File)). whole_file limits p ∷ l) (done_files parts fit.1)

  -- the files as far as they may be read
  pub files_shared : (frames : List Frame) → FitAll limits frames → map (file_of language reads limits docs name) (opened_of frames) ≡ files_cut limits frames (shares limits frames)
  files_shared [] fit = refl
  files_shared (f ∷ outer) fit =
      let file = file_of language reads limits docs name in
      ap (map file) (opened_with f outer)
      ∙ map_append file (opened_of outer) (as_opened f.part ∷ map as_opened f.done)
      ∙ ap (λ (l : List (Option File)). l ++ file (as_opened f.part) ∷ map file (map as_opened f.done)) (files_shared outer fit.1)
      ∙ ap (λ (l : List (Option File)). files_cut limits outer (shares limits outer) ++ file (as_opened f.part) ∷ l) (done_files f.done fit.0)

  -- the same, where no more than so much may be read of the innermost
  pub files_limited : (f : Frame) (outer : List Frame) (most : ℕ) → FitAll limits (f ∷ outer)
      → files_with language reads limits docs name (length (parts_of outer)) most (opened_of (f ∷ outer)) ≡ files_cut limits (f ∷ outer) (most ∷ shares limits outer)
  files_limited f outer most fit =
      let n = length (parts_of outer) in
      let file = file_of language reads limits docs name in
      let within = file_within language reads limits docs name most in
      let before = files_cut limits outer (shares limits outer) in
      let len : n ≡ length (opened_of outer) = sym (length_map as_opened (parts_of outer)) in
      let here : slice_get (opened_of (f ∷ outer)) n ≡ Some (as_opened f.part) =
      ap (λ (l : List Opened). slice_get l n) (opened_with f outer) ∙ ap (λ (k : ℕ). slice_get (opened_of outer ++ as_opened f.part ∷ map as_opened f.done) k) len
      ∙ slice_at (opened_of outer) (as_opened f.part) (map as_opened f.done) in
      let size : n ≡ length before = len ∙ sym (length_map file (opened_of outer)) ∙ ap length (files_shared outer fit.1) in
      ap (λ (o : Option Opened). changed (λ x. option_and_then within o) n (map file (opened_of (f ∷ outer)))) here
      ∙ ap (λ (l : List (Option File)). changed (λ x. within (as_opened f.part)) n l) (files_shared (f ∷ outer) fit)
      ∙ ap (λ (k : ℕ). changed (λ x. within (as_opened f.part)) k (files_cut limits (f ∷ outer) (shares limits (f ∷ outer)))) size
      ∙ changed_at (λ x. within (as_opened f.part)) before (Some (cut_file limits f.part.bytes (share limits (as_opened f.part)))) (map (whole_file limits) f.done)

  same_bytes : (xs : List ℕ) → bytes_eq xs xs ≡ true
  same_bytes xs = (bytes_eq-Decides xs xs).1 refl

  -- an include of the innermost file is known by the bytes of it that were read, where it isn't by fewer
  pub known_there : (f : Frame) (outer : List Frame) (wanted : List ℕ) (names : List (List ℕ)) → FitAll limits (f ∷ outer) → f.taken ≤ limits.sheet
      → ((m : ℕ) → m < f.taken → wants (numbers_of (f ∷ outer)) wanted (outcome reads name (files_cut limits (f ∷ outer) (m ∷ shares limits outer))) ≡ false)
      → outcome reads name (files_cut limits (f ∷ outer) (f.taken ∷ shares limits outer)) ≡ Over names (Wants (numbers_of (f ∷ outer)) wanted)
      → known_at language reads limits docs name (opened_of (f ∷ outer)) (numbers_of (f ∷ outer)) wanted (length (parts_of outer)) ≡ f.taken
  known_there f outer wanted names fit le none here =
      let ns = numbers_of (f ∷ outer) in
      let holds : ℕ → Bool = λ most. wants ns wanted (outcome reads name (files_with language reads limits docs name (length (parts_of outer)) most (opened_of (f ∷ outer)))) in
      let same_at : (m : ℕ) → holds m ≡ wants ns wanted (outcome reads name (files_cut limits (f ∷ outer) (m ∷ shares limits outer))) = λ m. ap (λ (l : List (Option File)). wants ns wanted (outcome reads name l)) (files_limited f outer m fit) in
      fewest_is holds 0 limits.sheet f.taken (omega arith) (omega arith) (λ m low lt. same_at m ∙ none m lt)
      (same_at f.taken ∙ ap (wants ns wanted) here ∙ ap (λ b. b && bytes_eq wanted wanted) (same_bytes ns) ∙ ap (λ b. true && b) (same_bytes wanted))

  -- the files that are opened with one more, which an include of the innermost one wants
  pub opened_more : (f : Frame) (outer : List Frame) (wanted : List ℕ)
      → known_at language reads limits docs name (opened_of (f ∷ outer)) (numbers_of (f ∷ outer)) wanted (length (parts_of outer)) ≡ f.taken
      → with_file language reads limits docs name (opened_of (f ∷ outer)) (numbers_of (f ∷ outer)) wanted
      ≡ opened_of (grow (size_of (docs wanted)) (include_known f ∷ outer)) ++ record { name = wanted; bytes = docs wanted; before = f.part.before + f.part.inside + f.taken; inside = 0; known = 0 } ∷ []
  opened_more f outer wanted known =
      let ns = numbers_of (f ∷ outer) in
      let n = length (parts_of outer) in
      let size = size_of (docs wanted) in
      let opened = opened_of (f ∷ outer) in
      let len : n ≡ length (opened_of outer) = sym (length_map as_opened (parts_of outer)) in
      let here : slice_get opened n ≡ Some (as_opened f.part) =
      ap (λ (l : List Opened). slice_get l n) (opened_with f outer) ∙ ap (λ (k : ℕ). slice_get (opened_of outer ++ as_opened f.part ∷ map as_opened f.done) k) len
      ∙ slice_at (opened_of outer) (as_opened f.part) (map as_opened f.done) in
      let new : ℕ → ℕ → Opened = λ before k. record { name = wanted; bytes = docs wanted; before = before + k; inside = 0; known = 0 } in
      let more : List Opened → ℕ → Opened → List Opened = λ l k o. grown ns size (seen ns k l) ++ o ∷ [] in
      ap (λ (k : ℕ). more opened k (new (option_map_or (λ (o : Opened). o.before + o.inside) (slice_get opened n) 0) k)) known
      ∙ ap (λ (x : Option Opened). more opened f.taken (new (option_map_or (λ (o : Opened). o.before + o.inside) x 0) f.taken)) here
      ∙ ap (λ (l : List Opened). grown ns size l ++ new (f.part.before + f.part.inside) f.taken ∷ [])
      (seen_frames f outer ∙ sym (append_none (opened_of (include_known f ∷ outer))))
      ∙ ap (λ (l : List Opened). l ++ new (f.part.before + f.part.inside) f.taken ∷ [])
      (grown_frames (include_known f ∷ outer) size [] ∙ append_none (opened_of (grow size (include_known f ∷ outer))))
