-- What the lexer has before it, and what it answers.
use Rattle.std.specs.Prelude.{◌≡◌, ◌<◌, ◌≤◌, ℕ, ◌+◌, ◌-◌, Bool, true, false, not, ◌&&◌, ◌||◌, ◌==◌, nat_lt, List, [], ◌∷◌, Option, Some, None, Result, Ok, Err, length, take, drop, unwrap_or, IfSome, if◌then◌else◌}
use Rattle.xml_tokens.specs.Places.{begins, is_part}
use Rattle.xml_tokens.specs.Shape.{form, shape_len}
use Rattle.xml_tokens.specs.Judged.{judged}
use Rattle.stx_base.specs.declared.limits.Limits.{Limits}
use Rattle.stx_base.specs.declared.fault.XmlKind.{XmlKind}
use Rattle.stx_base.specs.declared.fault.XmlKind.TheVariants.{LexemeTooLong, Truncated, InputTooLong}
use Rattle.xml_tokens.specs.declared.form.Form.{Form}
use Rattle.xml_tokens.specs.declared.form.Form.TheVariants.{Undecided}
use Rattle.xml_tokens.specs.declared.lexeme.Body.{Body}
use Rattle.xml_tokens.specs.declared.lexeme.Body.TheVariants as body
use Rattle.xml_tokens.specs.declared.lexeme.Ending.{Ending}
use Rattle.xml_tokens.specs.declared.lexeme.Ending.TheVariants as ending
use Rattle.xml_tokens.specs.declared.lexeme.Step.{Step}
use Rattle.xml_tokens.specs.declared.lexeme.Step.TheVariants as step

-- the bytes not yet given as lexemes, the place of the first of them in the document, whether the document ends
-- behind them, and the answer that is repeated, if one is
pub record Reader : Type 0 where
  pub limits : Limits
  pub unread : List ℕ
  pub offset : ℕ
  pub ended : Bool
  pub over : Option Ending

-- a document that begins
abbrev pub begun : Limits → Reader
begun limits = record { limits = limits; unread = []; offset = 0; ended = false; over = None }

-- how many bytes of the document were fed
abbrev pub fed : Reader → ℕ
fed r = r.offset + length r.unread

-- EF BB BF (XML 1.0, 4.3.3 and appendix F)
abbrev pub mark : List ℕ
mark = 0xEF ∷ 0xBB ∷ 0xBF ∷ []

-- the unread bytes within the limit on the input
abbrev pub seen : Reader → List ℕ
seen r = take (r.limits.input - r.offset) r.unread

-- whether the input has more bytes than the limit
abbrev pub is_cut : Reader → Bool
is_cut r = nat_lt (r.limits.input - r.offset) (length r.unread)

-- whether the document ends behind what is seen
abbrev pub is_last : Reader → Bool
is_last r = r.ended && not (is_cut r)

-- how many bytes a byte order mark takes: one stands at the document's first byte alone
abbrev pub mark_len_of : ℕ → List ℕ → ℕ
mark_len_of offset bytes = if offset == 0 && begins bytes mark then 3 else 0

-- how many bytes the byte order mark takes that stands before the next lexeme
abbrev pub mark_len : Reader → ℕ
mark_len r = mark_len_of r.offset (seen r)

-- the bytes from the next lexeme's first one on
abbrev pub coming : Reader → List ℕ
coming r = drop (mark_len r) (seen r)

-- the place of the next lexeme
abbrev pub place : Reader → ℕ
place r = r.offset + mark_len r

-- a form that more bytes decide
abbrev pub is_undecided : Form → Bool
is_undecided Undecided = true
is_undecided other = false

-- whether more bytes decide what the bytes at a place begin: a byte order mark, a comment, a CDATA section or
-- other markup
abbrev pub is_undecided_at : ℕ → List ℕ → Bool
is_undecided_at at bytes = is_undecided (form bytes) || (at == 0 && is_part bytes mark)

-- the same of the next lexeme, where more bytes can come
abbrev pub is_open : Reader → Bool
is_open r = not (is_last r) && is_undecided_at (place r) (coming r)

-- a fault at a place
abbrev pub bad : XmlKind → ℕ → Ending
bad kind at = ending.Bad (record { kind = kind; offset = at })

-- a whole shape at a place is a lexeme or a fault
abbrev pub lexeme_or_fault : Result Body XmlKind → ℕ → Step
lexeme_or_fault (Ok body) at = step.Lexeme (record { offset = at; body = body })
lexeme_or_fault (Err kind) at = step.Bad (record { kind = kind; offset = at })

-- the answer at a whole shape at a place; `first` says that it is the document's first one
abbrev pub at_shape : Limits → (first : Bool) → List ℕ → ℕ → Step
at_shape limits first bytes at =
    if nat_lt limits.lexeme (length bytes) then step.Bad (record { kind = LexemeTooLong; offset = at })
    else lexeme_or_fault (judged first bytes) at

-- why nothing comes any more where no shape is whole, if so
abbrev pub at_rest : Reader → Option Ending
at_rest r =
    if not (is_open r) && nat_lt r.limits.lexeme (length (coming r)) then Some (bad LexemeTooLong (place r))
    else if is_cut r then Some (bad InputTooLong r.limits.input)
    else if not r.ended then None
    else if length (coming r) == 0 then Some ending.End
    else Some (bad Truncated (r.offset + length r.unread))

-- an answer that is repeated
abbrev pub step_of : Ending → Step
step_of ending.End = step.End
step_of (ending.Bad fault) = step.Bad fault
step_of ending.Memory = step.Memory

-- an answer that is repeated, or that more bytes must come
abbrev pub step_or_need : Option Ending → Step
step_or_need (Some over) = step_of over
step_or_need None = step.Need

-- the answer by the first shape, if one is whole
abbrev pub at_shape_or_rest : Reader → Option ℕ → Step
at_shape_or_rest r (Some len) = at_shape r.limits (r.offset == 0) (take len (coming r)) (place r)
at_shape_or_rest r None = step_or_need (at_rest r)

-- the answer that is repeated, or else this one
abbrev pub repeated_or : Option Ending → Step → Step
repeated_or (Some over) other = step_of over
repeated_or None other = other

-- what comes next, if memory suffices
unfoldable pub due : Reader → Step
due r = repeated_or r.over (at_shape_or_rest r (shape_len (is_last r) (coming r)))

-- the bytes of the next lexeme, with a mark before it
abbrev pub size : Reader → ℕ
size r = mark_len r + unwrap_or (shape_len (is_last r) (coming r)) 0

-- what stands after an answer: a lexeme's bytes are read, and all answers but a lexeme and `Need` are repeated
unfoldable pub after : Reader → Step → Reader
after r (step.Lexeme lexeme) = record r { unread = drop (size r) r.unread; offset = r.offset + size r }
after r step.Need = r
after r step.End = record r { over = Some ending.End }
after r (step.Bad fault) = record r { over = Some (ending.Bad fault) }
after r step.Memory = record r { over = Some ending.Memory }

-- the end tag of a name at a place
abbrev pub end_at : (offset : ℕ) → (name : List ℕ) → Step
end_at offset name = step.Lexeme (record { offset = offset; body = body.End name })

-- an answer is what is due, or want of memory where no answer is repeated yet
abbrev pub IsAnswer : Reader → Step → Type 0
IsAnswer r step.Memory = IfSome r.over (λ over. over ≡ ending.Memory)
IsAnswer r answer = answer ≡ due r

-- a lexeme takes bytes
abbrev pub Shrinks : Reader → Step → Reader → Type 0
Shrinks old (step.Lexeme lexeme) new = length new.unread < length old.unread
Shrinks old answer new = Unit {0}

-- more bytes are wanted only of a document that may go on within the limit; and only where it ended within it does it end
abbrev pub MayWant : Reader → Step → Type 0
MayWant r step.End = r.over ≡ None → (r.ended ≡ true) × (fed r ≤ r.limits.input)
MayWant r step.Need = (r.ended ≡ false) × (fed r ≤ r.limits.input)
MayWant r answer = Unit {0}
