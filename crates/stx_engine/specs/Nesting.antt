-- Start tags and end tags among the shapes of bytes (XML 1.0, 2.1 and 3.1).
use Rattle.std.specs.Prelude.{◌≡◌, ℕ, Bool, false, not, ◌||◌, ◌==◌, if◌then◌else◌, List, [], ◌∷◌, take, drop, codes}
use Rattle.std.specs.List.{ends_with, prefix_len}
use Rattle.stx_base.specs.Character.{is_space}
use Rattle.xml_tokens.specs.Cuts.{Cuts}
use Rattle.xml_tokens.specs.Places.{begins}
use Rattle.xml_tokens.specs.Shape.{form}
use Rattle.xml_tokens.specs.declared.form.Form.{Form}
use Rattle.xml_tokens.specs.declared.form.Form.TheVariants.{Tag}

-- white space, `/` and `>` end a name
abbrev pub ends_name : ℕ → Bool
ends_name b = is_space b || b == 0x2F || b == 0x3E

-- the name that bytes begin with
abbrev pub name_of : List ℕ → List ℕ
name_of bytes = take (prefix_len (λ b. not (ends_name b)) bytes) bytes

-- what a shape does: it opens a name, it closes one, or neither
pub data Effect : Type 0 where
  Opens : (name : List ℕ) → Effect
  Closes : (name : List ℕ) → Effect
  Neither : Effect

-- what a tag does: an end tag begins with `</`, the tag of an empty element ends in `/>`
abbrev pub tag_effect : List ℕ → Effect
tag_effect tag =
    if begins tag (codes "</") then Closes (name_of (drop 2 tag))
    else if ends_with ◌==◌ tag (codes "/>") then Neither
    else Opens (name_of (drop 1 tag))

-- what a shape of a form does: none but a tag opens or closes a name
abbrev pub effect_by : Form → List ℕ → Effect
effect_by Tag shape = tag_effect shape
effect_by other shape = Neither

-- what a shape does, by its bytes alone
abbrev pub effect : List ℕ → Effect
effect shape = effect_by (form shape) shape

-- the names that are open before a shape and behind it, the innermost first: a name that is closed is the innermost one
abbrev pub Turns : Effect → (before behind : List (List ℕ)) → Type 0
Turns (Opens name) before behind = behind ≡ name ∷ before
Turns (Closes name) before behind = before ≡ name ∷ behind
Turns Neither before behind = behind ≡ before

-- each end tag among the shapes has the name of the innermost start tag that is open there; these names are open before
-- the shapes
abbrev pub EndsMatch : (before : List (List ℕ)) → (shapes : List (List ℕ)) → Type 0
EndsMatch before [] = Unit {0}
EndsMatch before (shape ∷ shapes) = (behind : List (List ℕ)) × Turns (effect shape) before behind × EndsMatch behind shapes

-- No end tag in the bytes lacks its start tag. An unfinished shape at their end is no tag yet.
abbrev pub EndsHaveStarts : List ℕ → Type 0
EndsHaveStarts bytes = (shapes : List (List ℕ)) × (rest : List ℕ) × Cuts false bytes shapes rest × EndsMatch [] shapes
