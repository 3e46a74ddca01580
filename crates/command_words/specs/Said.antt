-- What the words of a command line say, one thing after the other. A word is the list of its bytes in UTF-8.
use Rattle.std.specs.Prelude.{ℕ, Bool, ◌==◌, if◌then◌else◌, List, [], ◌∷◌, map, Option, Some, None, option_map, codes}
use Rattle.std.specs.List.{list_any, before_first, after_first}
use Rattle.std.specs.Option.{option_map_or}
use Rattle.std.specs.Str.{bytes_eq}

abbrev pub Word : Type 0
Word = List ℕ

-- the options that take a number
pub data Numbered : Type 0 where
  fuel : Numbered
  lexeme : Numbered
  instances : Numbered
  sample : Numbered

-- what is said: a word that is no option, `--check`, or an option with its value
pub data Said : Type 0 where
  free : Word → Said
  check : Said
  number : Numbered → Word → Said

-- the name that an option is written with
abbrev pub name_of : Numbered → Word
name_of fuel = codes "fuel"
name_of lexeme = codes "lexeme"
name_of instances = codes "instances"
name_of sample = codes "sample"

-- the option of this name
abbrev pub named : Word → Option Numbered
named name =
    if bytes_eq (codes "fuel") name then Some fuel
    else (if bytes_eq (codes "lexeme") name then Some lexeme
    else (if bytes_eq (codes "instances") name then Some instances
    else (if bytes_eq (codes "sample") name then Some sample else None)))

-- what a word is by itself
pub data Kind : Type 0 where
  -- no option: it doesn't begin with `-`, or is `-` alone
  plain : Kind
  -- `--`, which ends the options
  ends : Kind
  -- `--check`
  checks : Kind
  -- `--NAME=VALUE`
  has : Numbered → Word → Kind
  -- `--NAME`, whose value is the next word
  awaits : Numbered → Kind
  -- any other word that begins with `-`
  unknown : Kind

-- the byte is `=`
abbrev pub is_equals : ℕ → Bool
is_equals b = b == 0x3D

-- what stands before the first `=`, or all where there is none, and what stands after it
abbrev pub before_equals : Word → Word
before_equals = before_first is_equals

abbrev pub after_equals : Word → Word
after_equals = after_first is_equals

abbrev pub has_equals : Word → Bool
has_equals = list_any is_equals

-- an option with a value in its own word, and one without, by what follows the two hyphens
abbrev pub with_value : Word → Kind
with_value rest = option_map_or (λ o. has o (after_equals rest)) (named (before_equals rest)) unknown

abbrev pub without_value : Word → Kind
without_value rest =
    option_map_or awaits (named (before_equals rest))
    (if bytes_eq (codes "check") (before_equals rest) then checks else unknown)

abbrev pub long_kind : Word → Kind
long_kind [] = ends
long_kind (b ∷ bs) = if has_equals (b ∷ bs) then with_value (b ∷ bs) else without_value (b ∷ bs)

abbrev pub kind : Word → Kind
kind [] = plain
kind (a ∷ []) = plain
kind (a ∷ b ∷ rest) = if a == 0x2D then (if b == 0x2D then long_kind rest else unknown) else plain

abbrev pub put : Said → Option (List Said) → Option (List Said)
put thing = option_map (λ more. thing ∷ more)

-- what a word says with those behind it, where an option may await its value
abbrev pub said_by : Option Numbered → Kind → Word → List Word → (Option Numbered → Option (List Said)) → Option (List Said)
said_by None plain word rest more = put (free word) (more None)
said_by None ends word rest more = Some (map free rest)
said_by None checks word rest more = put check (more None)
said_by None (has o value) word rest more = put (number o value) (more None)
said_by None (awaits o) word rest more = more (Some o)
said_by None unknown word rest more = None
said_by (Some o) plain word rest more = put (number o word) (more None)
said_by (Some o) other word rest more = None

-- at the end no option awaits its value
abbrev pub said_last : Option Numbered → Option (List Said)
said_last None = Some []
said_last (Some o) = None

-- what the words say, where they can be read so
abbrev pub said_from : Option Numbered → List Word → Option (List Said)
said_from awaited [] = said_last awaited
said_from awaited (word ∷ rest) = said_by awaited (kind word) word rest (λ next. said_from next rest)
