-- A sheet by its name and by what stands outside: its files, as far as the limit on sheets lets them be read.
use Rattle.std.specs.Prelude.{ℕ, zero, suc, ◌+◌, ◌-◌, Bool, true, false, ◌&&◌, nat_le, List, [], ◌∷◌, ◌++◌, map, length, take, slice_get, Option, Some, None, Result, Ok, Err, bytes_eq, if◌then◌else◌}
use Rattle.std.specs.Option.{option_map, option_map_or, option_and_then}
use Rattle.stx_base.specs.Course.{Answer, Given, Over, Unknown}
use Rattle.stx_base.specs.declared.fault.Place.{Place}
use Rattle.stx_base.specs.declared.fault.SheetCode.{SheetCode}
use Rattle.stx_base.specs.declared.fault.SheetCode.TheVariants as code
use Rattle.stx_base.specs.declared.fault.SheetFault.{SheetFault}
use Rattle.stx_base.specs.declared.limits.Limits.{Limits}
use Rattle.sheet_model.specs.declared.sheet.Sheet.{Sheet}
use Rattle.xml_events.specs.Document.{doc}
use Rattle.xml_events.specs.Tree.{Forest}
use Rattle.sheet_loader.specs.Load.{outcome}
use Rattle.sheet_loader.specs.Reading.{File, Ending, Refused, Wants, Unfinished, Listed}
use Rattle.sheet_loader.specs.Values.{Reads}
use Rattle.sheet_loader.specs.Versions.{Language, language, old_language, version_of}

-- the documents by name
abbrev pub Documents : Type 0
Documents = List ℕ → Option (List ℕ)

-- A file that was opened: its bytes, if it is there, how many bytes of sheets were read before it, how many its includes took, and how many
-- of its own are read where the last of these includes is known.
pub record Opened : Type 0 where
  pub name : List ℕ
  pub bytes : Option (List ℕ)
  pub before : ℕ
  pub inside : ℕ
  pub known : ℕ

abbrev pub same_ending : Ending → Ending → Bool
same_ending (Wants numbers name) (Wants others other) = bytes_eq numbers others && bytes_eq name other
same_ending a b = false

-- the fewest for which it holds, or the most that are asked
abbrev pub fewest : (ℕ → Bool) → (from most : ℕ) → ℕ
fewest holds from zero = from
fewest holds from (suc most) = if holds from then from else fewest holds (suc from) most

-- the nodes of a file, of which so many bytes at most may be read
abbrev pub nodes_within : Limits → (bytes : List ℕ) → (most : ℕ) → Forest
nodes_within limits bytes most = if nat_le (length bytes) most then doc limits false bytes true else doc limits false (take most bytes) false

-- where the limit comes in a file that has more bytes than may be read
abbrev pub limit_within : (bytes : List ℕ) → (most : ℕ) → Option ℕ
limit_within bytes most = if nat_le (length bytes) most then None else Some most

abbrev pub greater : ℕ → ℕ → ℕ
greater a b = if nat_le a b then b else a

-- How many bytes of a file may be read: what the limit leaves beside all that was read before it and in its
-- includes, and all by which its last include is known, also where the include's own file is larger than what is left.
abbrev pub share : Limits → Opened → ℕ
share limits o = greater ((limits.sheet - o.before) - o.inside) o.known

-- the list with one entry changed
abbrev pub changed : {A : Type 0} → (A → A) → ℕ → List A → List A
changed f n [] = []
changed f zero (x ∷ xs) = f x ∷ xs
changed f (suc n) (x ∷ xs) = x ∷ changed f n xs

-- an include's file counts in all files that are being read
abbrev pub grown : (numbers : List ℕ) → (size : ℕ) → List Opened → List Opened
grown [] size opened = opened
grown (n ∷ numbers) size opened = grown numbers size (changed (λ o. record o { inside = o.inside + size }) n opened)

-- the include is known by so many bytes of its file
abbrev pub seen : (numbers : List ℕ) → (known : ℕ) → List Opened → List Opened
seen [] known opened = opened
seen (n ∷ numbers) known opened = changed (λ o. record o { known = known }) n opened

abbrev pub size_of : Option (List ℕ) → ℕ
size_of bytes = option_map_or length bytes 0

abbrev pub name_of : List Opened → (number : ℕ) → List ℕ
name_of opened number = option_map_or (λ o. o.name) (slice_get opened number) []

-- what comes of a name: the sheet or the first fault, and the names that were opened, in order
pub record Loads : Type 0 where
  pub opened : List (List ℕ)
  pub result : Result Sheet SheetFault

abbrev pub loads : List (List ℕ) → Result Sheet SheetFault → Loads
loads names result = record { opened = names; result = result }

abbrev pub fault_at : List Opened → Place → SheetCode → SheetFault
fault_at opened at why = record { file = name_of opened at.file; code = why; offset = at.offset }

abbrev pub wants : (numbers : List ℕ) → (name : List ℕ) → Answer Listed (List ℕ) Ending → Bool
wants numbers name (Over names ending) = same_ending ending (Wants numbers name)
wants numbers name other = false

module _ (among : Language) (reads : Reads) (limits : Limits) (docs : Documents) (name : List ℕ) where
  -- a file with its first bytes alone, unless there are no more
  abbrev pub first_bytes : (bytes : List ℕ) → (most : ℕ) → File
  first_bytes bytes most = record {
    version = version_of among (nodes_within limits bytes most);
    nodes = nodes_within limits bytes most;
    limit = limit_within bytes most;
  }

  -- a file, of which no more than so many bytes may be read
  abbrev pub file_within : (most : ℕ) → Opened → Option File
  file_within most o = option_map (λ bytes. first_bytes bytes most) o.bytes

  abbrev pub file_of : Opened → Option File
  file_of o = file_within (share limits o) o

  -- the files, of which one may have no more than so many bytes
  abbrev pub files_with : (number most : ℕ) → List Opened → List (Option File)
  files_with number most opened =
      changed (λ f. option_and_then (file_within most) (slice_get opened number)) number (map file_of opened)

  -- the number of bytes of a file by which its include is known: the fewest of which it wants the include's file
  abbrev pub known_at : List Opened → (numbers : List ℕ) → (wanted : List ℕ) → (number : ℕ) → ℕ
  known_at opened numbers wanted number =
      fewest (λ most. wants numbers wanted (outcome reads name (files_with number most opened))) 0 limits.sheet

  -- one file more, which nothing includes, or the first of these files, which are being read
  abbrev pub with_file : List Opened → (numbers : List ℕ) → (wanted : List ℕ) → List Opened
  with_file opened [] wanted = opened ++ record { name = wanted; bytes = docs wanted; before = 0; inside = 0; known = 0 } ∷ []
  with_file opened (n ∷ numbers) wanted =
      let known = known_at opened (n ∷ numbers) wanted n in
      let before = option_map_or (λ o. o.before + o.inside) (slice_get opened n) 0 + known in
      grown (n ∷ numbers) (size_of (docs wanted)) (seen (n ∷ numbers) known opened)
      ++ record { name = wanted; bytes = docs wanted; before = before; inside = 0; known = 0 } ∷ []

  -- what can't come, since each file is there as a whole or as far as the limit goes
  abbrev pub no_end : List Opened → List (List ℕ) → Loads
  no_end opened names = loads names (Err (fault_at opened (record { file = 0; offset = 0 }) code.SheetTooLarge))

  -- how it ends, where `others` says what comes of more files
  abbrev pub by_ending : (others : List Opened → Loads) → List Opened → (names : List (List ℕ)) → Ending → Loads
  by_ending others opened names (Refused at why) = loads names (Err (fault_at opened at why))
  by_ending others opened names (Wants numbers wanted) = others (with_file opened numbers wanted)
  by_ending others opened names Unfinished = no_end opened names

  abbrev pub by_answer : (others : List Opened → Loads) → List Opened → Answer Listed (List ℕ) Ending → Loads
  by_answer others opened (Given names r) = loads names (Ok r.loading.sheet)
  by_answer others opened (Over names ending) = by_ending others opened names ending
  by_answer others opened (Unknown names) = no_end opened names

  -- what comes of the files so far: where another one is wanted it is opened, and all is read again; no more are opened than this
  abbrev pub load_from : (most : ℕ) → List Opened → Loads
  load_from zero opened = no_end opened (map (λ o. o.name) opened)
  load_from (suc most) opened = by_answer (load_from most) opened (outcome reads name (map file_of opened))

  -- the sheet of a name, or its first fault, and the names that are opened: each file that is read whole takes a byte of the limit at least
  abbrev pub load_among : Loads
  load_among = load_from (limits.sheet + 3) []

abbrev pub load : Reads → Limits → Documents → (name : List ℕ) → Loads
load = load_among language

-- the same before there was version 1.1
abbrev pub old_load : Reads → Limits → Documents → (name : List ℕ) → Loads
old_load = load_among old_language
