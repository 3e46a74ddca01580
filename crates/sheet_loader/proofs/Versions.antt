-- Sheets of version 1.0 are read as before there was version 1.1.
use Rattle.std.proofs.Common.{◌≡◌, ℕ, zero, suc, ◌+◌, List, [], ◌∷◌, ◌++◌, map, slice_get, Option, Some, None, refl, ap, sym, ◌∙◌}
use Rattle.std.specs.Option.{option_map, option_map_or, option_and_then}
use Rattle.stx_base.proofs.Course.{funext}
use Rattle.stx_base.specs.Course.{Answer, Given, Over, Unknown}
use Rattle.stx_base.specs.declared.limits.Limits.{Limits}
use Rattle.stx_base.specs.declared.name.Attr.{Attr}
use Rattle.sheet_loader.specs.Files.{Documents, Opened, by_answer, changed, fewest, file_of, file_within, files_with, first_bytes, grown, known_at, limit_within, load_from, nodes_within, seen, share, size_of, wants, with_file}
use Rattle.sheet_loader.specs.Laws.{AllSayOne, LoadsAsBefore, SaysOne}
use Rattle.sheet_loader.specs.Load.{outcome}
use Rattle.sheet_loader.specs.Reading.{Ending, File, Listed, Refused, Unfinished, Wants}
use Rattle.sheet_loader.specs.Values.{Reads}
use Rattle.sheet_loader.specs.Versions.{Version, language, old_language, root_attrs, version_by_root, version_named}

same_version : (attrs : Option (List Attr)) → SaysOne attrs → version_by_root language attrs ≡ version_by_root old_language attrs
same_version None h = refl
same_version (Some attrs) h = ap (version_named language) h ∙ sym (ap (version_named old_language) h)

module _ (docs : Documents) where
  -- a file's bytes are those of the document of its name
  abbrev Told : Opened → Type 0
  Told o = docs o.name ≡ o.bytes

  abbrev AllTold : List Opened → Type 0
  AllTold [] = Unit {0}
  AllTold (o ∷ opened) = Told o × AllTold opened

  one_told : (opened : List Opened) (n : ℕ) (o : Opened) → AllTold opened → slice_get opened n ≡ Some o → Told o
  one_told [] n o h e = absurd cc
  one_told (x ∷ opened) zero o h e = let g : x ≡ o = cc in sym (ap (λ y. docs y.name) g) ∙ h.0 ∙ ap (λ y. y.bytes) g
  one_told (x ∷ opened) (suc n) o h e = one_told opened n o h.1 e

  changed_told : (f : Opened → Opened) → ((o : Opened) → Told o → Told (f o)) → (n : ℕ) (opened : List Opened) → AllTold opened → AllTold (changed f n opened)
  changed_told f keeps n [] h = h
  changed_told f keeps zero (o ∷ opened) h = (keeps o h.0, h.1)
  changed_told f keeps (suc n) (o ∷ opened) h = (h.0, changed_told f keeps n opened h.1)

  grown_told : (numbers : List ℕ) (size : ℕ) (opened : List Opened) → AllTold opened → AllTold (grown numbers size opened)
  grown_told [] size opened h = h
  grown_told (n ∷ numbers) size opened h =
      grown_told numbers size (changed (λ o. record o { inside = o.inside + size }) n opened)
      (changed_told (λ o. record o { inside = o.inside + size }) (λ o t. t) n opened h)

  seen_told : (numbers : List ℕ) (known : ℕ) (opened : List Opened) → AllTold opened → AllTold (seen numbers known opened)
  seen_told [] known opened h = h
  seen_told (n ∷ numbers) known opened h = changed_told (λ o. record o { known = known }) (λ o t. t) n opened h

  more_told : (opened : List Opened) (o : Opened) → AllTold opened → Told o → AllTold (opened ++ o ∷ [])
  more_told [] o h t = (t, tt)
  more_told (x ∷ opened) o h t = (h.0, more_told opened o h.1 t)

module _ (reads : Reads) (limits : Limits) (docs : Documents) (name : List ℕ) (says : AllSayOne limits docs) where
  same_file : (o : Opened) (most : ℕ) → Told docs o → file_within language reads limits docs name most o ≡ file_within old_language reads limits docs name most o
  same_file o most t = of_bytes o.bytes refl where
    of_bytes : (b : Option (List ℕ)) → o.bytes ≡ b → option_map (λ bytes. first_bytes language reads limits docs name bytes most) b ≡ option_map (λ bytes. first_bytes old_language reads limits docs name bytes most) b
    of_bytes None e = refl
    of_bytes (Some bytes) e =
        ap (λ (v : Version). Some (record { version = v; nodes = nodes_within limits bytes most; limit = limit_within bytes most }))
        (same_version (root_attrs (nodes_within limits bytes most)) (says o.name bytes most (t ∙ e)))

  same_files : (opened : List Opened) → AllTold docs opened → map (file_of language reads limits docs name) opened ≡ map (file_of old_language reads limits docs name) opened
  same_files [] h = refl
  same_files (o ∷ opened) h =
      ap (λ f. f ∷ map (file_of language reads limits docs name) opened) (same_file o (share limits o) h.0)
      ∙ ap (λ fs. file_of old_language reads limits docs name o ∷ fs) (same_files opened h.1)

  same_one : (number most : ℕ) (opened : List Opened) → AllTold docs opened → option_and_then (file_within language reads limits docs name most) (slice_get opened number) ≡ option_and_then (file_within old_language reads limits docs name most) (slice_get opened number)
  same_one number most opened h = of_slice (slice_get opened number) refl where
    of_slice : (s : Option Opened) → slice_get opened number ≡ s → option_and_then (file_within language reads limits docs name most) s ≡ option_and_then (file_within old_language reads limits docs name most) s
    of_slice None e = refl
    of_slice (Some o) e = same_file o most (one_told docs opened number o h e)

  same_files_with : (number most : ℕ) (opened : List Opened) → AllTold docs opened → files_with language reads limits docs name number most opened ≡ files_with old_language reads limits docs name number most opened
  same_files_with number most opened h =
      ap (λ (f : Option File). changed (λ g. f) number (map (file_of language reads limits docs name) opened)) (same_one number most opened h)
      ∙ ap (changed (λ g. option_and_then (file_within old_language reads limits docs name most) (slice_get opened number)) number) (same_files opened h)

  same_known : (opened : List Opened) (numbers wanted : List ℕ) (number : ℕ) → AllTold docs opened → known_at language reads limits docs name opened numbers wanted number ≡ known_at old_language reads limits docs name opened numbers wanted number
  same_known opened numbers wanted number h =
      ap (λ holds. fewest holds 0 limits.sheet)
      (funext (λ most. ap (λ files. wants numbers wanted (outcome reads name files)) (same_files_with number most opened h)))

  same_with_file : (opened : List Opened) (numbers wanted : List ℕ) → AllTold docs opened → with_file language reads limits docs name opened numbers wanted ≡ with_file old_language reads limits docs name opened numbers wanted
  same_with_file opened [] wanted h = refl
  same_with_file opened (n ∷ numbers) wanted h =
      ap (λ known. grown (n ∷ numbers) (size_of (docs wanted)) (seen (n ∷ numbers) known opened)
      ++ record { name = wanted; bytes = docs wanted; before = option_map_or (λ o. o.before + o.inside) (slice_get opened n) 0 + known; inside = 0; known = 0 } ∷ [])
      (same_known opened (n ∷ numbers) wanted n h)

  with_file_told : (opened : List Opened) (numbers wanted : List ℕ) → AllTold docs opened → AllTold docs (with_file language reads limits docs name opened numbers wanted)
  with_file_told opened [] wanted h = more_told docs opened (record { name = wanted; bytes = docs wanted; before = 0; inside = 0; known = 0 }) h refl
  with_file_told opened (n ∷ numbers) wanted h =
      let known = known_at language reads limits docs name opened (n ∷ numbers) wanted n in
      let before = option_map_or (λ o. o.before + o.inside) (slice_get opened n) 0 + known in
      more_told docs (grown (n ∷ numbers) (size_of (docs wanted)) (seen (n ∷ numbers) known opened))
      (record { name = wanted; bytes = docs wanted; before = before; inside = 0; known = 0 })
      (grown_told docs (n ∷ numbers) (size_of (docs wanted)) (seen (n ∷ numbers) known opened) (seen_told docs (n ∷ numbers) known opened h)) refl

  same_answer : (most : ℕ) (opened : List Opened)
      → ((numbers wanted : List ℕ) → load_from language reads limits docs name most (with_file language reads limits docs name opened numbers wanted) ≡ load_from old_language reads limits docs name most (with_file old_language reads limits docs name opened numbers wanted))
      → (a : Answer Listed (List ℕ) Ending)
      → by_answer language reads limits docs name (load_from language reads limits docs name most) opened a ≡ by_answer old_language reads limits docs name (load_from old_language reads limits docs name most) opened a
  same_answer most opened others (Given names r) = refl
  same_answer most opened others (Unknown names) = refl
  same_answer most opened others (Over names (Refused at why)) = refl
  same_answer most opened others (Over names Unfinished) = refl
  same_answer most opened others (Over names (Wants numbers wanted)) = others numbers wanted

  same_load : (most : ℕ) (opened : List Opened) → AllTold docs opened → load_from language reads limits docs name most opened ≡ load_from old_language reads limits docs name most opened
  same_load zero opened h = refl
  same_load (suc most) opened h =
      same_answer most opened (λ numbers wanted.
      same_load most (with_file language reads limits docs name opened numbers wanted) (with_file_told opened numbers wanted h)
      ∙ ap (load_from old_language reads limits docs name most) (same_with_file opened numbers wanted h))
      (outcome reads name (map (file_of language reads limits docs name) opened))
      ∙ ap (λ files. by_answer old_language reads limits docs name (load_from old_language reads limits docs name most) opened (outcome reads name files)) (same_files opened h)

pub loads_as_before : LoadsAsBefore
loads_as_before reads limits docs name says = same_load reads limits docs name says (limits.sheet + 3) [] tt
