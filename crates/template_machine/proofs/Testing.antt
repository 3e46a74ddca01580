-- The frame by whose test positions count in a body.
use Rattle.std.proofs.Common.{◌≡◌, ℕ, ◌<◌, Bool, List, [], ◌∷◌, ◌++◌, length, reverse, Option, Some, None, IsSome, refl, ap, sym, subst, ◌∙◌, arith}
use Rattle.std.specs.List.{slice_get}
use Rattle.std.specs.Option.{option_map, option_map_or}
use Rattle.std.specs.Prelude.{drop, take}
use Rattle.std.proofs.lemmas.Bool.{false≢true}
use Rattle.std.proofs.lemmas.List.{length-reverse, reverse-reverse, take-append-drop}
use Rattle.std.proofs.lemmas.Option.{slice_get_within}
use Rattle.frame_stack.specs.declared.frame.Frame.{Frame}
use Rattle.frame_stack.specs.declared.frame.Frame.TheVariants.{Body, Call, Loop}
use Rattle.frame_stack.specs.declared.locals.Local.{Local}
use Rattle.match_patterns.specs.Fits.{test_of}
use Rattle.sheet_model.specs.declared.sheet.Sheet.{Sheet}
use Rattle.sheet_model.specs.declared.sheet.Template.{Template}
use Rattle.stx_base.specs.declared.node.NodeTest.{NodeTest}
use Rattle.stxpath_syntax.specs.declared.expr.Alternative.{Alternative}
use Rattle.template_machine.specs.Bodies.{below, template_in}
use Rattle.template_machine.specs.Programs.{alternatives_of}
use Rattle.template_machine.specs.Steps.{test_in}
use Rattle.template_machine.proofs.Placing.{before_at, last_at, reversed}

-- the test of one frame
abbrev pub test_by : Sheet → Frame → Option NodeTest
test_by s (Body template alternative pc locals level spent) = option_map test_of (slice_get (alternatives_of s template) alternative)
test_by s f = None

-- a frame at a place has the test of them all, of frames with the innermost first
abbrev Counts : Sheet → List Frame → ℕ → Type 0
Counts s ys n = (f : Frame) × ((slice_get (reverse ys) n ≡ Some f) × (test_by s f ≡ test_in s ys))

above : (s : Sheet) (x : Frame) (ys : List Frame) (n : ℕ) → test_in s (x ∷ ys) ≡ test_in s ys → Counts s ys n → Counts s (x ∷ ys) n
above s x ys n same c = (c.0, (ap (λ l. slice_get l n) (reversed x ys) ∙ before_at (reverse ys) (x ∷ []) n c.0 c.1.0, c.1.1 ∙ sym same))

counts : (s : Sheet) (ys : List Frame) → IsSome (test_in s ys) → (n : ℕ) × ((template_in ys ≡ Some n) × Counts s ys n)
counts s [] some = absurd (false≢true some)
counts s (Loop turn ∷ ys) some = let c = counts s ys some in (c.0, (c.1.0, above s (Loop turn) ys c.0 refl c.1.1))
counts s (Call procedure pc locals level ∷ ys) some =
    let c = counts s ys some in (c.0, (c.1.0, above s (Call procedure pc locals level) ys c.0 refl c.1.1))
counts s (Body template alternative pc locals level spent ∷ ys) some =
    let x = Body template alternative pc locals level spent in (
      length ys,
      (
        refl,
        (
          x,
          (ap (λ l. slice_get l (length ys)) (reversed x ys) ∙ ap (slice_get (reverse ys ++ x ∷ [])) (sym (length-reverse ys)) ∙ last_at (reverse ys) x, refl),
        ),
      ),
    )
counts s (f ∷ ys) some = absurd (false≢true some)

pub has_counted : (s : Sheet) (ys : List Frame) → IsSome (test_in s ys) → IsSome (template_in ys)
has_counted s ys some = subst (λ o. IsSome o) (sym (counts s ys some).1.0) refl

-- among those below a place
pub counted_at : (s : Sheet) (xs : List Frame) (m n : ℕ) → IsSome (test_in s (below m xs)) → template_in (below m xs) ≡ Some n
    → (f : Frame) × ((slice_get xs n ≡ Some f) × (test_by s f ≡ test_in s (below m xs)))
counted_at s xs m n some at =
    let c = counts s (below m xs) some in
    let same : c.0 ≡ n = one_place (sym c.1.0 ∙ at) in
    let f = c.1.1.0 in
    let there : slice_get (take m xs) n ≡ Some f =
    ap (slice_get (take m xs)) (sym same) ∙ ap (λ l. slice_get l c.0) (sym (reverse-reverse (take m xs))) ∙ c.1.1.1.0 in
    (f, (ap (λ l. slice_get l n) (sym (take-append-drop m xs)) ∙ before_at (take m xs) (drop m xs) n f there, c.1.1.1.1))
  where
    one_place : {a b : ℕ} → Some a ≡ Some b → a ≡ b
    one_place e = cc

one_frame : {a b : Frame} → Some a ≡ Some b → a ≡ b
one_frame e = cc

-- the frame that was found there
pub counts_by : (s : Sheet) (xs : List Frame) (m n : ℕ) (x : Frame) → IsSome (test_in s (below m xs)) → template_in (below m xs) ≡ Some n → slice_get xs n ≡ Some x
    → test_by s x ≡ test_in s (below m xs)
counts_by s xs m n x some at is =
    let c = counted_at s xs m n some at in ap (test_by s) (one_frame (sym is ∙ c.1.0)) ∙ c.1.1

-- it is a template's body, whose alternative there is

pub counted_body : (s : Sheet) (x : Frame) → IsSome (test_by s x)
    → ((template alternative pc : ℕ) (locals : List Local) (level : ℕ) (spent : Bool) → x ≡ Body template alternative pc locals level spent → ⊥) → ⊥
counted_body s (Body template alternative pc locals level spent) some body = body template alternative pc locals level spent refl
counted_body s f some body = absurd (false≢true some)

alternative_by : (xs : List Alternative) (n : ℕ) → IsSome (option_map test_of (slice_get xs n)) → n < length xs
alternative_by xs n some = by (slice_get xs n) refl some
  where
    by : (o : Option Alternative) → slice_get xs n ≡ o → IsSome (option_map test_of o) → n < length xs
    by None is some = absurd (false≢true some)
    by (Some a) is some = slice_get_within xs n a is

pub alternative_there : (s : Sheet) (x : Frame) (template alternative pc : ℕ) (locals : List Local) (level : ℕ) (spent : Bool) → IsSome (test_by s x)
    → x ≡ Body template alternative pc locals level spent → alternative < length (alternatives_of s template)
alternative_there s x template alternative pc locals level spent some is =
    alternative_by (alternatives_of s template) alternative (subst (λ y. IsSome (test_by s y)) is some)

pub template_there : (s : Sheet) (template alternative : ℕ) → alternative < length (alternatives_of s template) → template < length s.templates
template_there s template alternative less = by (slice_get s.templates template) refl
  where
    by : (o : Option Template) → slice_get s.templates template ≡ o → template < length s.templates
    by None is =
        absurd (omega (arith, less, ap (λ o. length (option_map_or (λ (t : Template). t.pattern.alternatives) o [])) is))
    by (Some t) is = slice_get_within s.templates template t is
