-- What is read of a document, by the shapes that it is cut into (XML 1.0, 2.4 to 2.8 and 3.1).
use Rattle.std.specs.Prelude.{◌≡◌, ℕ, ◌+◌, Bool, true, false, not, ◌&&◌, ◌==◌, nat_lt, List, [], ◌∷◌, length, if◌then◌else◌}
use Rattle.stx_base.specs.declared.fault.XmlKind.{XmlKind}
use Rattle.stx_base.specs.declared.fault.XmlKind.TheVariants.{LexemeTooLong, InputTooLong, Truncated}
use Rattle.stx_base.specs.declared.limits.Limits.{Limits}
use Rattle.xml_tokens.specs.Cuts.{Cuts}
use Rattle.xml_tokens.specs.Reader.{Reader, at_shape, coming, fed, is_cut, is_last, is_undecided_at, place}
use Rattle.xml_tokens.specs.declared.lexeme.Step.{Step}
use Rattle.xml_tokens.specs.declared.lexeme.Step.TheVariants as step
use Rattle.xml_events.specs.Lexed.{Lexed, answered, lexed, unread}

-- a fault at a place
abbrev pub bad_at : XmlKind → (at : ℕ) → Step
bad_at kind at = step.Bad (record { kind = kind; offset = at })

-- Each shape judged at its place, up to the first that has a fault; where none has one, `ends` says why no more come at the place
-- behind them. `first` says that the first shape stands at the document's very start.
abbrev pub said_by : Limits → (first : Bool) → (at : ℕ) → (shapes : List (List ℕ)) → (ends : ℕ → Step) → Lexed
said_by limits first at [] ends = record { lexemes = []; last = ends at }
said_by limits first at (shape ∷ shapes) ends =
    answered (at_shape limits first shape at) (λ l. said_by limits false (at + length shape) shapes ends)

-- Why no shape comes any more at a place of a document, where these bytes are left of what is within the limit on the input: they are
-- too many for one that isn't whole, more bytes than the limit follow, more must come, the document ends there, or it ends in them.
abbrev pub ends_at : Reader → (rest : List ℕ) → (at : ℕ) → Step
ends_at r rest at =
    if not (not (is_last r) && is_undecided_at at rest) && nat_lt r.limits.lexeme (length rest) then bad_at LexemeTooLong at
    else if is_cut r then bad_at InputTooLong r.limits.input
    else if not r.ended then step.Need
    else if length rest == 0 then step.End
    else bad_at Truncated (fed r)

-- The lexemes of each document, whole or not, faulty or not, are its shapes, judged up to the first fault.
abbrev pub LexemesAreShapes : Type 0
LexemesAreShapes =
    (limits : Limits) (bytes : List ℕ) (ended : Bool) (shapes : List (List ℕ)) (rest : List ℕ)
    → let r = unread limits bytes ended in
    Cuts (is_last r) (coming r) shapes rest → lexed limits bytes ended ≡ said_by limits true (place r) shapes (ends_at r rest)
