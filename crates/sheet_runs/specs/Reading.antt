-- What acts say of reads, and what is taken of a sample.
use Rattle.std.specs.Prelude.{◌≡◌, ℕ, ◌<◌, ◌==◌, Bool, true, false, not, if◌then◌else◌, List, [], ◌∷◌, ◌++◌, length, Option, Some, None}
use Rattle.std.specs.List.{concat, list_any}
use Rattle.stx_host.specs.declared.act.Act.{Act}
use Rattle.stx_host.specs.declared.act.Act.TheVariants.{Read}
use Rattle.sheet_files.specs.Acts.{opens}

-- how many bytes each read of the main document gave, in order; none at its end
abbrev pub main_gots : List Act → List ℕ
main_gots [] = []
main_gots (Read id got ∷ acts) = (if id == 0 then got ∷ [] else []) ++ main_gots acts
main_gots (act ∷ acts) = main_gots acts

-- reads that gave some bytes each, and then, where the document has ended, its end, once
abbrev pub EndOnce : (ended : Bool) → (gots : List ℕ) → Type 0
EndOnce false gots = list_any (λ got. got == 0) gots ≡ false
EndOnce true gots = (front : List ℕ) × (list_any (λ got. got == 0) front ≡ false) × (gots ≡ front ++ 0 ∷ [])

-- whether an act is a read of a document, other than the main one
abbrev pub is_doc_read : Act → Bool
is_doc_read (Read id got) = not (id == 0)
is_doc_read act = false

-- no such document is read where none is opened
abbrev pub ReadsOpened : List Act → Type 0
ReadsOpened acts = opens acts ≡ [] → list_any is_doc_read acts ≡ false

-- what is left of the sample's pieces, and some first ones of them, joined; none after the last
abbrev pub TakesPieces : (old new : List (List ℕ)) → Option (List ℕ) → Type 0
TakesPieces old new None = (old ≡ []) × (new ≡ [])
TakesPieces old new (Some chunk) = (front : List (List ℕ)) × (0 < length front) × (old ≡ front ++ new) × (chunk ≡ concat front)
