-- XML declarations and document type declarations (XML 1.0, 2.8, 2.9 and 4.3.3).
use Rattle.std.specs.Prelude.{ℕ, Bool, true, false, not, ◌&&◌, ◌||◌, ◌==◌, List, Option, Some, None, length, drop, map, bytes_eq, if◌then◌else◌, codes}
use Rattle.std.specs.List.{list_all}
use Rattle.std.specs.Char.{is_ascii_digit, to_ascii_lowercase}
use Rattle.std.specs.Option.{option_map, option_map_or, option_and_then}
use Rattle.xml_tokens.specs.Places.{begins}
use Rattle.xml_tokens.specs.Tags.{after_space, equated, named, quoted}

-- what follows a word that must come first
abbrev pub after_word : List ℕ → List ℕ → Option (List ℕ)
after_word word bytes = if begins bytes word then Some (drop (length word) bytes) else None

-- what follows white space that must come first
abbrev pub behind_space : List ℕ → Option (List ℕ)
behind_space bytes = if length (after_space bytes) == length bytes then None else Some (after_space bytes)

-- what follows a word that stands behind white space
abbrev pub behind_word : List ℕ → List ℕ → Option (List ℕ)
behind_word word bytes = option_and_then (after_word word) (behind_space bytes)

-- the value that is declared under a word, behind white space, and what follows it
unfoldable pub declared_as : List ℕ → List ℕ → Option (List ℕ × List ℕ)
declared_as word bytes = option_and_then equated (behind_word word bytes)

-- a value that may be declared, and what follows it, or else all
abbrev pub maybe_declared : List ℕ → List ℕ → Option (List ℕ) × List ℕ
maybe_declared word bytes = option_map_or (λ found. (Some found.0, found.1)) (declared_as word bytes) (None, bytes)

-- nothing but white space is left
abbrev pub is_over : List ℕ → Bool
is_over bytes = length (after_space bytes) == 0

-- `yes` or `no`, if something is declared
abbrev pub is_standalone : Option (List ℕ) → Bool
is_standalone None = true
is_standalone (Some value) = bytes_eq value (codes "yes") || bytes_eq value (codes "no")

-- the version and the encoding that an XML declaration tells behind its `<?xml` (XMLDecl; XML 1.0, 2.8)
unfoldable pub declared : List ℕ → Option (List ℕ × Option (List ℕ))
declared bytes =
    option_and_then (λ version.
    let encoding = maybe_declared (codes "encoding") version.1 in
    let standalone = maybe_declared (codes "standalone") encoding.1 in
    if is_standalone standalone.0 && is_over standalone.1 then Some (version.0, encoding.0) else None)
    (declared_as (codes "version") bytes)

-- digits, one or more
abbrev pub is_number : List ℕ → Bool
is_number bytes = not (length bytes == 0) && list_all is_ascii_digit bytes

-- `1.` and a number
abbrev pub is_version : List ℕ → Bool
is_version version = option_map_or is_number (after_word (codes "1.") version) false

-- UTF-8 or US-ASCII, in any case of letters
abbrev pub is_encoding : List ℕ → Bool
is_encoding name =
    let lower = map to_ascii_lowercase name in
    bytes_eq lower (codes "utf-8") || bytes_eq lower (codes "us-ascii")

-- a literal in quotes behind white space, and what follows it
abbrev pub behind_literal : List ℕ → Option (List ℕ)
behind_literal bytes = option_and_then (λ rest. option_map (λ found. found.1) (quoted rest)) (behind_space bytes)

-- what follows an external identifier, if there is one (ExternalID; XML 1.0, 4.2.2)
unfoldable pub behind_identifier : List ℕ → Option (List ℕ)
behind_identifier bytes =
    option_map_or behind_literal (behind_word (codes "SYSTEM") bytes)
    (option_map_or (λ rest. option_and_then behind_literal (behind_literal rest)) (behind_word (codes "PUBLIC") bytes) (Some bytes))

-- a document type declaration without an internal subset, between `<!DOCTYPE` and `>` (doctypedecl; XML 1.0, 2.8)
unfoldable pub is_doctype : List ℕ → Bool
is_doctype bytes =
    option_map_or is_over (option_and_then (λ found. behind_identifier found.1) (option_and_then named (behind_space bytes))) false
