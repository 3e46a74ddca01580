-- What the functions that cut a text into tokens answer.
use Rattle.std.specs.Prelude.{◌≡◌, ◌≢◌, ℕ, ◌+◌, ◌<◌, ◌≤◌, List, [], Option, Some, None, Result, Ok, Err, length, drop, ⊤}
use Rattle.stxpath_syntax.specs.declared.fault.ParseFault.{ParseFault}
use Rattle.stxpath_syntax.specs.declared.fault.ParseFault.TheVariants as fault
use Rattle.stxpath_syntax.specs.declared.lex.Found.{Found}
use Rattle.stxpath_syntax.specs.declared.token.Before.{Before}
use Rattle.stxpath_syntax.specs.declared.token.Placed.{Placed}
use Rattle.stxpath_syntax.specs.declared.token.Token.{Token}
use Rattle.stxpath_syntax.specs.Tokens.{Tokens, Refuses, Stands, first_token, unreadable, space}

-- a token that can be read there, or why none can
abbrev pub Finds : List ℕ → ℕ → Result (Token × ℕ) ParseFault → Type 0
Finds text place (Ok found) = (first_token text ≡ Some found) × (unreadable text ≡ None) × (0 < found.1) × (found.1 ≤ length text)
Finds text place (Err (fault.Path f)) = (unreadable text ≡ Some f.kind) × (f.place ≡ place)
Finds text place (Err fault.Memory) = ⊤

-- the first token, or that there is none, or the fault in its place
abbrev pub Reads : Before → List ℕ → Result (Option Found) ParseFault → Type 0
Reads before text (Ok None) = drop (space text) text ≡ []
Reads before text (Ok (Some found)) = Stands before text found.placed found.len × (0 < found.len) × (found.len ≤ length text)
Reads before text (Err (fault.Path f)) =
    (drop (space text) text ≢ []) × Refuses before.opened (drop (space text) text) f.kind × (f.place ≡ before.at + space text)
Reads before text (Err fault.Memory) = ⊤

-- the tokens, or the first fault among them with the tokens before it, or want of memory
abbrev pub Lexes : ℕ → List ℕ → Result (List Placed) ParseFault → Type 0
Lexes at text (Ok ts) = Tokens at text ts None
Lexes at text (Err (fault.Path f)) = (ts : List Placed) × Tokens at text ts (Some f)
Lexes at text (Err fault.Memory) = ⊤
