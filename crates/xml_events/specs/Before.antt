-- What stands before a lexeme, and the faults that it has for that (XML 1.0, 2.1, 2.8 and 3.1; Namespaces in XML 1.0).
use Rattle.std.specs.Prelude.{ℕ, ◌+◌, ◌-◌, Bool, true, false, not, ◌&&◌, ◌||◌, nat_lt, nat_le, bytes_eq, if◌then◌else◌, List, [], ◌∷◌, length, take, Option, Some, None}
use Rattle.std.specs.Option.{option_or}
use Rattle.stx_base.specs.declared.fault.XmlKind.{XmlKind}
use Rattle.stx_base.specs.declared.fault.XmlKind.TheVariants.{Misplaced, Mismatch, TooDeep, TextTooLong}
use Rattle.stx_base.specs.declared.limits.Limits.{Limits}
use Rattle.stx_base.specs.declared.name.Binding.{Binding}
use Rattle.xml_tokens.specs.declared.lexeme.Body.{Body}
use Rattle.xml_tokens.specs.declared.lexeme.Body.TheVariants as body
use Rattle.xml_names.specs.Tag.{into, name_fault}

-- the names of the open elements as written, the innermost first; what the open elements declare, the outermost first; whether
-- the root's start tag was read, and a document type declaration; how many characters the text has that stands directly before; and
-- whether CDATA sections are recognised: each is a node of its own then, and else text
pub record Before : Type 0 where
  pub names : List (List ℕ)
  pub path : List (List Binding)
  pub rooted : Bool
  pub typed : Bool
  pub chars : ℕ
  pub cdata : Bool

-- before the first lexeme
abbrev pub starting : (cdata : Bool) → Before
starting cdata = record { names = []; path = []; rooted = false; typed = false; chars = 0; cdata = cdata }

-- the same where CDATA sections aren't recognised
abbrev pub at_start : Before
at_start = starting false

-- an element is open
abbrev pub is_inside : List (List ℕ) → Bool
is_inside [] = false
is_inside (name ∷ names) = true

-- the innermost open element has this name as written
abbrev pub is_innermost : List ℕ → List (List ℕ) → Bool
is_innermost name [] = false
is_innermost name (innermost ∷ names) = bytes_eq innermost name

-- the root was read to its end
abbrev pub is_complete : Before → Bool
is_complete b = b.rooted && not (is_inside b.names)

-- Outside the root stands no text but literal white space, and no second root; and a document type declaration stands alone, and
-- before the root.
abbrev pub is_misplaced : Before → Body → Bool
is_misplaced b (body.Chars text blank) = not (is_inside b.names || blank)
is_misplaced b (body.CData text) = not (is_inside b.names)
is_misplaced b (body.Start name attrs empty) = is_complete b
is_misplaced b body.Doctype = b.rooted || b.typed
is_misplaced b other = false

-- as many elements are open as may be
abbrev pub is_full : Limits → Before → Bool
is_full limits b = nat_le limits.depth (length b.names)

-- a text inside the root gets too many characters, those that stand directly before counted
abbrev pub is_too_long : Limits → Before → List ℕ → Bool
is_too_long limits b text = is_inside b.names && nat_lt limits.text (b.chars + length text)

-- behind what is no text, and before a CDATA section that is a node of its own
abbrev pub without_text : Before → Before
without_text b = record b { chars = 0 }

-- what stands before a CDATA section
abbrev pub before_cdata : Before → Before
before_cdata b = if b.cdata then without_text b else b

-- the fault that a lexeme has at a place where it may stand
abbrev pub unfit : Limits → Before → Body → Option XmlKind
unfit limits b (body.Chars text blank) = if is_too_long limits b text then Some TextTooLong else None
unfit limits b (body.CData text) = if is_too_long limits (before_cdata b) text then Some TextTooLong else None
unfit limits b (body.Start name attrs empty) = option_or (name_fault b.path name attrs) (if is_full limits b then Some TooDeep else None)
unfit limits b (body.End name) = if is_innermost name b.names then None else Some Mismatch
unfit limits b other = None

-- the fault of a lexeme, if it has one
abbrev pub fault_of : Limits → Before → Body → Option XmlKind
fault_of limits b x = if is_misplaced b x then Some Misplaced else unfit limits b x

-- all but the innermost
abbrev pub outer_names : List (List ℕ) → List (List ℕ)
outer_names [] = []
outer_names (name ∷ names) = names

-- all but the innermost
abbrev pub outer_path : List (List Binding) → List (List Binding)
outer_path path = take (length path - 1) path

-- behind a text; outside the root there is none
abbrev pub behind_text : Before → List ℕ → Before
behind_text b text = if is_inside b.names then record b { chars = b.chars + length text } else b

-- what stands before the next lexeme
abbrev pub before_next : Before → Body → Before
before_next b (body.Chars text blank) = behind_text b text
before_next b (body.CData text) = if b.cdata then without_text b else behind_text b text
before_next b (body.Start name attrs true) = record b { rooted = true; chars = 0 }
before_next b (body.Start name attrs false) =
    record b { names = name ∷ b.names; path = into b.path attrs; rooted = true; chars = 0 }
before_next b (body.End name) = record b { names = outer_names b.names; path = outer_path b.path; chars = 0 }
before_next b (body.Comment text) = without_text b
before_next b (body.Pi target text) = without_text b
before_next b body.Doctype = record b { typed = true }
before_next b body.Declaration = b
