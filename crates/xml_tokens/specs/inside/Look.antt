-- What a look at the unread bytes gives.
use Rattle.std.specs.Prelude.{◌≡◌, ◌⊎◌, ℕ, ◌+◌, ◌≤◌, Bool, false, not, ◌&&◌, ◌==◌, nat_lt, List, Option, Some, None, length, drop, if◌then◌else◌}
use Rattle.stx_base.specs.declared.limits.Limits.{Limits}
use Rattle.stx_base.specs.declared.fault.XmlKind.TheVariants.{LexemeTooLong, Truncated, InputTooLong}
use Rattle.xml_tokens.specs.Reader.{Reader, mark, seen, coming, size, bad, due, after, at_shape, end_at, step_of}
use Rattle.xml_tokens.specs.inside.Resume.{AlwaysResumes}
use Rattle.xml_tokens.specs.Places.{is_part}
use Rattle.xml_tokens.specs.declared.lexeme.Ending.{Ending}
use Rattle.xml_tokens.specs.declared.lexeme.Ending.TheVariants as ending
use Rattle.xml_tokens.specs.declared.lexeme.Step.TheVariants as step
use Rattle.xml_tokens.specs.declared.lexer.Due.{Due}
use Rattle.xml_tokens.specs.declared.lexer.Due.TheVariants as look
use Rattle.xml_tokens.specs.declared.scan.Scan.{Scan}

-- a reader with no answer to repeat
abbrev pub reader : Limits → List ℕ → ℕ → Bool → Reader
reader limits unread offset ended = record { limits = limits; unread = unread; offset = offset; ended = ended; over = None }

-- nothing is searched yet
abbrev pub begun_scan : Scan
begun_scan = record { searched = 0; quote = None }

-- whether what is seen may be the front of a byte order mark
abbrev pub is_mark_open : Reader → Bool
is_mark_open r = r.offset == 0 && is_part (seen r) mark

-- the search for the next lexeme's end begins, or goes on from the scan, whatever bytes follow
abbrev pub GoesOn : Scan → Reader → Type 0
GoesOn scan r = (scan ≡ begun_scan) ⊎ ((is_mark_open r ≡ false) × AlwaysResumes scan (coming r))

-- `at_rest` by its parts
abbrev pub rest_ending : Limits → ℕ → ℕ → Bool → Bool → Bool → Option Ending
rest_ending limits len at open_ cut ended =
    if not open_ && nat_lt limits.lexeme len then Some (bad LexemeTooLong at)
    else if cut then Some (bad InputTooLong limits.input)
    else if not ended then None
    else if len == 0 then Some ending.End
    else Some (bad Truncated (at + len))

-- what is due at a shape of these bytes behind a mark, or want of memory
abbrev pub IsShapeDue : Limits → (first : Bool) → List ℕ → ℕ → ℕ → Due → Type 0
IsShapeDue limits first bytes at marked (look.Lexeme body offset len) =
    (at_shape limits first bytes at ≡ step.Lexeme (record { offset = offset; body = body })) × (len ≡ marked + length bytes)
IsShapeDue limits first bytes at marked (look.Wait scan) = ⊥
IsShapeDue limits first bytes at marked (look.Over ending.Memory) = Unit {0}
IsShapeDue limits first bytes at marked (look.Over over) = at_shape limits first bytes at ≡ step_of over

-- what is due, or want of memory
abbrev pub IsDue : Reader → Due → Type 0
IsDue r (look.Lexeme body offset len) =
    (due r ≡ step.Lexeme (record { offset = offset; body = body })) × (len ≡ size r) × (len ≤ length (seen r))
IsDue r (look.Wait scan) = (due r ≡ step.Need) × GoesOn scan r
IsDue r (look.Over ending.Memory) = Unit {0}
IsDue r (look.Over over) = due r ≡ step_of over

-- so many bytes are read
abbrev pub passed : (len : ℕ) → Reader → Reader
passed len r = record r { unread = drop len r.unread; offset = r.offset + len }

-- the end tag of a name is due at a place, and the reader goes on behind it
abbrev pub TakesEnd : (old : Reader) → (offset : ℕ) → (name : List ℕ) → (new : Reader) → Type 0
TakesEnd old offset name new = (end_at offset name ≡ due old) × (new ≡ after old (end_at offset name))
