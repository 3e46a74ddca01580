-- Laws of the form of a shape.
use Rattle.std.proofs.Common.{◌≡◌, ◌≢◌, ℕ, ◌≤◌, Bool, true, false, ◌&&◌, ◌||◌, ◌==◌, List, [], ◌∷◌, ◌++◌, length, refl, sym, ◌∙◌, cond}
use Rattle.std.specs.Prelude.{codes}
use Rattle.xml_tokens.specs.Places.{is_part}
use Rattle.xml_tokens.specs.Shape.{form}
use Rattle.xml_tokens.specs.declared.form.Form.{Form}
use Rattle.xml_tokens.specs.declared.form.Form.TheVariants.{Text, Comment, CData, Instruction, Declaration, Tag, Undecided}
use Rattle.xml_tokens.proofs.PlaceLemmas.{begins-more, is_part-more, begins-length}

abbrev pub chosen : Bool → Bool → Bool → Bool → Bool → Bool → Form
chosen u c d i m t = cond u Undecided (cond c Comment (cond d CData (cond i Instruction (cond m Declaration (cond t Tag Text)))))

comment_of : (u c d i m t : Bool) → chosen u c d i m t ≡ Comment → c ≡ true
comment_of true c d i m t h = absurd cc
comment_of false true d i m t h = refl
comment_of false false true i m t h = absurd cc
comment_of false false false true m t h = absurd cc
comment_of false false false false true t h = absurd cc
comment_of false false false false false true h = absurd cc
comment_of false false false false false false h = absurd cc

cdata_of : (u c d i m t : Bool) → chosen u c d i m t ≡ CData → d ≡ true
cdata_of true c d i m t h = absurd cc
cdata_of false true d i m t h = absurd cc
cdata_of false false true i m t h = refl
cdata_of false false false true m t h = absurd cc
cdata_of false false false false true t h = absurd cc
cdata_of false false false false false true h = absurd cc
cdata_of false false false false false false h = absurd cc

instruction_of : (u c d i m t : Bool) → chosen u c d i m t ≡ Instruction → i ≡ true
instruction_of true c d i m t h = absurd cc
instruction_of false true d i m t h = absurd cc
instruction_of false false true i m t h = absurd cc
instruction_of false false false true m t h = refl
instruction_of false false false false true t h = absurd cc
instruction_of false false false false false true h = absurd cc
instruction_of false false false false false false h = absurd cc

decided_of : (u c d i m t : Bool) → chosen u c d i m t ≢ Undecided → u ≡ false
decided_of true c d i m t h = absurd (h refl)
decided_of false c d i m t h = refl

neither : (a b : Bool) → (a || b) ≡ false → (a ≡ false) × (b ≡ false)
neither true b h = absurd cc
neither false b h = (refl, h)

pub comment-length : (bytes : List ℕ) → form bytes ≡ Comment → 4 ≤ length bytes
comment-length bytes h = begins-length bytes (codes "<!--") (comment_of _ _ _ _ _ _ h)

pub cdata-length : (bytes : List ℕ) → form bytes ≡ CData → 9 ≤ length bytes
cdata-length bytes h = begins-length bytes (codes "<![CDATA[") (cdata_of _ _ _ _ _ _ h)

pub instruction-length : (bytes : List ℕ) → form bytes ≡ Instruction → 2 ≤ length bytes
instruction-length bytes h = begins-length bytes (codes "<?") (instruction_of _ _ _ _ _ _ h)

-- what is no front of `<!--` is no front of a word that begins as this one does
no_front1 : (bytes : List ℕ) → is_part bytes (codes "<!--") ≡ false → is_part bytes (codes "<") ≡ false
no_front1 [] h = absurd cc
no_front1 (b ∷ []) h = elim (b == 60) as (λ t. (t && false) ≡ false) [ true ↦ refl | false ↦ refl ]
no_front1 (b ∷ c ∷ bs) h = elim (b == 60) as (λ t. (t && false) ≡ false) [ true ↦ refl | false ↦ refl ]

no_front2 : (w : ℕ) (bytes : List ℕ) → is_part bytes (codes "<!--") ≡ false → is_part bytes (60 ∷ w ∷ []) ≡ false
no_front2 w [] h = absurd cc
no_front2 w (b ∷ []) h = h
no_front2 w (b ∷ c ∷ bs) h = elim (b == 60) as (λ t. (t && ((c == w) && false)) ≡ false) [ true ↦ elim (c == w) as (λ t. (t && false) ≡ false) [ true ↦ refl | false ↦ refl ] | false ↦ refl ]

same_chosen : (u u' c c' d d' i i' m m' t t' : Bool) → u ≡ u' → c ≡ c' → d ≡ d' → i ≡ i' → m ≡ m' → t ≡ t' → chosen u c d i m t ≡ chosen u' c' d' i' m' t'
same_chosen u u' c c' d d' i i' m m' t t' eu ec ed ei em et = rw (eu, ec, ed, ei, em, et) refl

or_same : (a a' b b' : Bool) → a ≡ a' → b ≡ b' → (a || b) ≡ (a' || b')
or_same a a' b b' ea eb = rw (ea, eb) refl

-- what a shape is stays, once it is decided
pub form-more : (bytes more : List ℕ) → form bytes ≢ Undecided → form (bytes ++ more) ≡ form bytes
form-more bytes more h =
    let open_ = neither _ _ (decided_of _ _ _ _ _ _ h) in
    let comment : is_part bytes (codes "<!--") ≡ false = open_.0 in
    let cdata : is_part bytes (codes "<![CDATA[") ≡ false = open_.1 in
    same_chosen _ _ _ _ _ _ _ _ _ _ _ _
    (or_same _ _ _ _ (is_part-more bytes more (codes "<!--") comment ∙ sym comment) (is_part-more bytes more (codes "<![CDATA[") cdata ∙ sym cdata))
    (begins-more bytes more (codes "<!--") comment)
    (begins-more bytes more (codes "<![CDATA[") cdata)
    (begins-more bytes more (codes "<?") (no_front2 63 bytes comment))
    (begins-more bytes more (codes "<!") (no_front2 33 bytes comment))
    (begins-more bytes more (codes "<") (no_front1 bytes comment))

text_of : (u c d i m t : Bool) → chosen u c d i m t ≡ Text → t ≡ false
text_of true c d i m t h = absurd cc
text_of false true d i m t h = absurd cc
text_of false false true i m t h = absurd cc
text_of false false false true m t h = absurd cc
text_of false false false false true t h = absurd cc
text_of false false false false false true h = absurd cc
text_of false false false false false false h = refl

-- text doesn't begin with `<`
pub less-other : (b : ℕ) (bs : List ℕ) → (b == 60) ≡ true → form (b ∷ bs) ≡ Text → ⊥
less-other b bs e h =
    let none : ((b == 60) && true) ≡ false = text_of _ _ _ _ _ _ h in
    let some : ((b == 60) && true) ≡ true = rw e refl in
    absurd cc
