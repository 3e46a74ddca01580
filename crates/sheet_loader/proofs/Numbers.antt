-- The files that are being read, by their numbers and their names.
use Rattle.std.proofs.Common.{◌≡◌, ◌<◌, ℕ, Bool, true, false, ◌||◌, List, [], ◌∷◌, ◌++◌, length, map, reverse, take, string_bytes, Option, refl, ap, sym, ◌∙◌, arith}
use Rattle.std.proofs.lemmas.List.{map-append, reverse-append}
use Rattle.std.proofs.lemmas.Str.{IsUtf8-string_bytes}
use Rattle.std.specs.List.{list_any}
use Rattle.std.specs.Prelude.{bytes_eq}
use Rattle.std.specs.Str.{chars, IsUtf8}
use Rattle.std.specs.declared.alloc.Global.{Global}
use Rattle.std.specs.declared.string.String.{String}
use Rattle.stx_base.specs.declared.name.Name.{Name}
use Rattle.stx_base.specs.declared.part.Part.{Part}
use Rattle.sheet_loader.proofs.KeyLemmas.{chars_alike}
use Rattle.sheet_loader.proofs.Pushing.{turned}
use Rattle.sheet_loader.specs.Drafts.{file_around, level_in, levels_in, parts_around, what_in}
use Rattle.sheet_loader.specs.Keys.{text_of}
use Rattle.sheet_loader.specs.Levels.{Level, Place_in, entered, name_at, place_in, version_around}
use Rattle.sheet_loader.specs.Reading.{File}
use Rattle.sheet_loader.specs.Sound.{AreFit, StandsIn, number_before, numbers_of}
use Rattle.sheet_loader.specs.Versions.{Version}
use Rattle.sheet_loader.specs.declared.frame.Frame.{Frame}
use Rattle.sheet_loader.specs.declared.frame.OpenFile.{OpenFile}
use Rattle.sheet_loader.specs.declared.frame.Opened.{Opened}
use Rattle.sheet_loader.specs.declared.frame.Opened.TheVariants as opened

some_before : (o : Opened) (number : ℕ) (around : List ℕ) → 0 < length around → 0 < length (number_before o number around)
some_before opened.Sheet number around e = e
some_before (opened.File includer) number around e = omega arith
some_before (opened.Element kind v own) number around e = e
some_before (opened.Literal name attrs) number around e = e
some_before (opened.Part name start) number around e = e

-- one file at least is being read
pub some_number : (frames : List Frame) (file : OpenFile) → 0 < length (numbers_of frames file)
some_number [] file = omega arith
some_number (f ∷ frames) file = some_before f.opened file.number (numbers_of frames (file_around f.opened f.around file)) (some_number frames (file_around f.opened f.around file))

no_more : (name_at : ℕ → List ℕ) (ns : List ℕ) → 0 < length ns → map name_at ns ≡ [] → ⊥
no_more name_at [] some e = omega arith
no_more name_at (n ∷ ns) some e = cc

tail_is : (x y : List ℕ) (xs ys : List (List ℕ)) → x ∷ xs ≡ y ∷ ys → xs ≡ ys
tail_is x y xs ys e = cc

-- an included file has a name beside the sheet's own
named_too : (name_at : ℕ → List ℕ) (n : ℕ) (ns : List ℕ) (keys : List (String Global)) (own : List ℕ) → 0 < length ns → map name_at (n ∷ ns) ≡ reverse (map text_of keys) ++ own ∷ [] → 0 < length keys
named_too name_at n ns [] own some e = absurd (no_more name_at ns some (tail_is (name_at n) own (map name_at ns) [] e))
named_too name_at n ns (k ∷ keys) own some e = omega arith

-- the file is left that is read
pub kept_left : (name_at : ℕ → List ℕ) (n : ℕ) (frames : List Frame) (file : OpenFile) (keys rest : List (String Global)) (own : List ℕ)
    → map name_at (n ∷ numbers_of frames file) ≡ reverse (map text_of keys) ++ own ∷ []
    → (0 < length keys → (name : String Global) × (keys ≡ rest ++ name ∷ []))
    → map name_at (numbers_of frames file) ≡ reverse (map text_of rest) ++ own ∷ []
kept_left name_at n frames file keys rest own e leaves = by_last (leaves (named_too name_at n (numbers_of frames file) keys own (some_number frames file) e)) where
  by_last : ((name : String Global) × (keys ≡ rest ++ name ∷ [])) → map name_at (numbers_of frames file) ≡ reverse (map text_of rest) ++ own ∷ []
  by_last (name, last) =
      tail_is (name_at n) (text_of name) (map name_at (numbers_of frames file)) (reverse (map text_of rest) ++ own ∷ [])
      (e ∙ ap (λ l. reverse (map text_of l) ++ own ∷ []) last ∙ ap (λ l. reverse l ++ own ∷ []) (map-append text_of rest (name ∷ [])) ∙ ap (λ l. l ++ own ∷ []) (turned (map text_of rest) (text_of name)))

-- the files that are being read, by the frames of their lists

read_around : (names : List (List ℕ)) (files : List (Option File)) (version : Version) (o : Opened) (until : ℕ) (file : OpenFile) (parts : List Part) (x : Level) (around : Place_in) (outer : List ℕ)
    → (o ≡ opened.Sheet → outer ≡ 0 ∷ [])
    → map (λ r. r.1) around.here.reading ≡ map (name_at names) outer
    → map (λ r. r.1) (entered names files version (what_in o until file parts) x around).here.reading ≡ map (name_at names) (number_before o file.number outer)
read_around names files version opened.Sheet until file parts x around outer bottom e = ap (map (name_at names)) (sym (bottom refl))
read_around names files version (opened.File includer) until file parts x around outer bottom e = ap (λ l. name_at names file.number ∷ l) e
read_around names files version (opened.Element kind v own) until file parts x around outer bottom e = e
read_around names files version (opened.Literal name attrs) until file parts x around outer bottom e = e
read_around names files version (opened.Part name start) until file parts x around outer bottom e = e

nothing_around : (o : Opened) (until : ℕ) (parts : List Part) (around : Place_in) (frames : List Frame) → StandsIn o until parts around frames → o ≡ opened.Sheet → frames ≡ []
nothing_around opened.Sheet until parts around frames h e = h
nothing_around (opened.File includer) until parts around frames h e = cc
nothing_around (opened.Element kind v own) until parts around frames h e = cc
nothing_around (opened.Literal name attrs) until parts around frames h e = cc
nothing_around (opened.Part name start) until parts around frames h e = cc

pub names_read : (frames : List Frame) (file : OpenFile) (parts : List Part) (locals : List Name) → AreFit frames file parts locals → (names : List (List ℕ)) (files : List (Option File)) (version : Version)
    → map (λ r. r.1) (place_in names files version (levels_in frames file parts)).here.reading ≡ map (name_at names) (numbers_of frames file)
names_read [] file parts locals fit names files version = refl
names_read (f ∷ frames) file parts locals fit names files version =
    let x = level_in f file parts in
    let outer_file = file_around f.opened f.around file in
    let outer_parts = parts_around f.opened f.parts parts in
    let around = place_in names files (version_around version x.what) (levels_in frames outer_file outer_parts) in
    read_around names files version f.opened f.parts file parts x around (numbers_of frames outer_file)
    (λ e. ap (λ l. numbers_of l outer_file) (nothing_around f.opened f.parts parts around frames (fit.0 names files version).stands e))
    (names_read frames outer_file outer_parts (take f.locals locals) fit.1 names files (version_around version x.what))

any_append : {A : Type 0} (p : A → Bool) (xs ys : List A) → list_any p (xs ++ ys) ≡ (list_any p xs || list_any p ys)
any_append p [] ys = refl
any_append p (x ∷ xs) ys = ap (λ b. p x || b) (any_append p xs ys) ∙ assoc (p x) (list_any p xs) (list_any p ys) where
  assoc : (a b c : Bool) → (a || (b || c)) ≡ ((a || b) || c)
  assoc true b c = refl
  assoc false b c = refl

or_turned : (a b : Bool) → (a || b) ≡ (b || a)
or_turned true true = refl
or_turned true false = refl
or_turned false true = refl
or_turned false false = refl

or_false : (a : Bool) → (a || false) ≡ a
or_false true = refl
or_false false = refl

any_turned : {A : Type 0} (p : A → Bool) (xs : List A) → list_any p (reverse xs) ≡ list_any p xs
any_turned p [] = refl
any_turned p (x ∷ xs) =
    ap (list_any p) (reverse-append (x ∷ []) xs) ∙ any_append p (reverse xs) (x ∷ [])
    ∙ ap (λ b. b || (p x || false)) (any_turned p xs) ∙ ap (λ b. list_any p xs || b) (or_false (p x)) ∙ or_turned (list_any p xs) (p x)

any_mapped : {A B : Type 0} (f : A → B) (p : B → Bool) (xs : List A) → list_any p (map f xs) ≡ list_any (λ x. p (f x)) xs
any_mapped f p [] = refl
any_mapped f p (x ∷ xs) = ap (λ b. p (f x) || b) (any_mapped f p xs)

-- a name is that of a file that is being read where it is the sheet's own, or is kept
pub is_read : (frames : List Frame) (file : OpenFile) (parts : List Part) (locals : List Name) → AreFit frames file parts locals → (names : List (List ℕ)) (keys : List (String Global)) (own : List ℕ)
    → map (name_at names) (numbers_of frames file) ≡ reverse (map text_of keys) ++ own ∷ []
    → (files : List (Option File)) (version : Version) (name : List ℕ)
    → list_any (λ r. bytes_eq r.1 name) (place_in names files version (levels_in frames file parts)).here.reading ≡ (bytes_eq own name || list_any (λ k. bytes_eq (text_of k) name) keys)
is_read frames file parts locals fit names keys own kept files version name =
    let p : List ℕ → Bool = λ t. bytes_eq t name in
    let reading = (place_in names files version (levels_in frames file parts)).here.reading in
    sym (any_mapped (λ (r : ℕ × List ℕ). r.1) p reading)
    ∙ ap (list_any p) (names_read frames file parts locals fit names files version ∙ kept)
    ∙ any_append p (reverse (map text_of keys)) (own ∷ [])
    ∙ ap (λ b. b || (p own || false)) (any_turned p (map text_of keys) ∙ any_mapped text_of p keys)
    ∙ ap (λ b. list_any (λ k. p (text_of k)) keys || b) (or_false (p own))
    ∙ or_turned (list_any (λ k. p (text_of k)) keys) (p own)

-- a key has the text where it has its bytes
pub any_text : (bytes : List ℕ) → IsUtf8 bytes → (keys : List (String Global)) → list_any (λ k. bytes_eq bytes (string_bytes k)) keys ≡ list_any (λ k. bytes_eq (text_of k) (chars bytes)) keys
any_text bytes u [] = refl
any_text bytes u (k ∷ keys) =
    ap (λ b. b || list_any (λ x. bytes_eq bytes (string_bytes x)) keys) (chars_alike bytes (string_bytes k) u (IsUtf8-string_bytes k))
    ∙ ap (λ b. bytes_eq (text_of k) (chars bytes) || b) (any_text bytes u keys)
