-- A small sheet has code that 32 bits can number.
use Rattle.std.proofs.Common.{◌≡◌, ℕ, zero, suc, ◌+◌, ◌*◌, ◌^◌, ◌<◌, ◌≤◌, List, [], ◌∷◌, ◌++◌, length, map, sum_by, refl, ap, sym, ◌∙◌, arith, append_assoc, length-append}
use Rattle.std.proofs.lemmas.List.{length-map}
use Rattle.std.proofs.lemmas.List.Sums.{sum_by-append, sum_by-cons}
use Rattle.std.specs.List.{flat_map}
use Rattle.instr_code.specs.Bodies.{body_pieces, joined}
use Rattle.instr_code.specs.Code.{sheet_bodies}
use Rattle.instr_code.specs.Emitting.{inner_layer, inner_of, inner_ops, listed}
use Rattle.instr_code.specs.Layout.{branches, list_piece, piece_of, pieces}
use Rattle.instr_code.specs.Piece.{Piece, dropped, in_order}
use Rattle.instr_code.specs.declared.inner.Inner.{Inner}
use Rattle.instr_code.specs.declared.inner.Inner.TheVariants as inside
use Rattle.instr_code.proofs.Counts.{piece-count}
use Rattle.instr_code.proofs.Forms.{children_are, unrolled}
use Rattle.instr_code.proofs.Turns.{count-append, count_of, size-append, size_of}
use Rattle.sheet_model.specs.Body.{bodies, body_nesting, children, in_order as all_within, instructions}
use Rattle.sheet_model.specs.Entries.{entries, instruction_entries, listed_in, own_entries, pattern_entries, variables_entries}
use Rattle.sheet_model.specs.Sound.{IsSmall}
use Rattle.sheet_model.specs.declared.instr.Instr.{Instr}
use Rattle.sheet_model.specs.declared.instr.Instr.TheOpen.{Instr-F}
use Rattle.sheet_model.specs.declared.instr.Instr.TheViews.{out-Instr}
use Rattle.sheet_model.specs.declared.instr.When.{When}
use Rattle.sheet_model.specs.declared.sheet.Procedure.{Procedure}
use Rattle.sheet_model.specs.declared.sheet.Sheet.{Sheet}
use Rattle.sheet_model.specs.declared.sheet.Template.{Template}
use Rattle.sheet_model.proofs.Nests.{nesting_is}

-- an end is at most one operation, and no instruction
short : (n : ℕ) → (dropped n).size ≤ 1
short zero = omega arith
short (suc n) = omega arith

list-size : (own : ℕ) (list : List Instr) → (list_piece own list).size ≤ size_of list + 1
list-size own list = omega (arith, short ((in_order (pieces list)).locals + own))

branches-bound : (i a o p : ℕ) (lists : List (List Instr))
    → (branches i a o p (map (list_piece 0) lists)).size ≤ 3 * length lists + size_of (joined lists)
branches-bound i a o p [] = omega arith
branches-bound i a o p (l ∷ ls) =
    omega (arith, list-size 0 l, size-append l (joined ls), branches-bound i (suc a) o (p + (list_piece 0 l).size + 2) ls)

abbrev branches_of : Inner → ℕ
branches_of (inside.Choices bodies other) = length bodies
branches_of x = 0

inner-bound : (x : Inner) → (inner_ops x 0 0).size ≤ 4 + 3 * branches_of x + size_of (listed x)
inner-bound inside.Nothing = omega arith
inner-bound inside.Local = omega arith
inner-bound (inside.Round body) = omega (arith, list-size 0 body)
inner-bound (inside.Choice body other) = omega (arith, list-size 0 body, list-size 0 other, size-append body other)
inner-bound (inside.Choices bodies other) = omega (arith, list-size 0 other, size-append (joined bodies) other, branches-bound 0 0 2 3 bodies)
inner-bound (inside.While body) = omega (arith, list-size 0 body)
inner-bound (inside.ForEach body) = omega (arith, list-size 1 body)

branches-listed : (x : Instr-F Instr When) → branches_of (inner_layer x) ≤ listed_in x
branches-listed (Instr-F.ValueOf select separator at) = omega arith
branches-listed (Instr-F.Chars text at) = omega arith
branches-listed (Instr-F.Copy attributes body at) = omega arith
branches-listed (Instr-F.Element name namespace scope body at) = omega arith
branches-listed (Instr-F.StartElement name namespace scope at) = omega arith
branches-listed (Instr-F.EndElement name namespace scope at) = omega arith
branches-listed (Instr-F.Attribute name namespace scope content at) = omega arith
branches-listed (Instr-F.Comment content at) = omega arith
branches-listed (Instr-F.Pi name scope content at) = omega arith
branches-listed (Instr-F.Message content at) = omega arith
branches-listed (Instr-F.If test body other at) = omega arith
branches-listed (Instr-F.Choose whens other at) = omega (arith, length-map whens (λ (w : When). w.body))
branches-listed (Instr-F.ForEachItem name select body at) = omega arith
branches-listed (Instr-F.While test body at) = omega arith
branches-listed (Instr-F.Assign name select at) = omega arith
branches-listed (Instr-F.CallProcedure name params at) = omega arith
branches-listed (Instr-F.ProcessChildren group params at) = omega arith
branches-listed (Instr-F.ProcessAttributes group params at) = omega arith
branches-listed (Instr-F.ProcessSelf group params at) = omega arith
branches-listed (Instr-F.ProcessSiblings going until group params at) = omega arith
branches-listed (Instr-F.ProcessBuffer name group params at) = omega arith
branches-listed (Instr-F.ProcessDocument href group params at) = omega arith
branches-listed (Instr-F.ResultBuffer name clear body at) = omega arith
branches-listed (Instr-F.Literal name attrs body at) = omega arith
branches-listed (Instr-F.LiteralChars text at) = omega arith
branches-listed (Instr-F.Local name select at) = omega arith

-- an instruction, by what stands inside it
piece-bound : (i : Instr) → (piece_of i).size ≤ 4 + 3 * own_entries (out-Instr i) + size_of (children i)
piece-bound i =
    let size : (piece_of i).size ≡ (inner_ops (inner_of i) 0 0).size = ap (λ (x : Piece). x.size) (unrolled i) in
    omega (arith, size, inner-bound (inner_of i), branches-listed (out-Instr i), ap size_of (children_are i))

entries_parted : (n : ℕ) (i : Instr) (body : List Instr)
    → sum_by instruction_entries (all_within (suc n) (i ∷ body))
    ≡ instruction_entries i + sum_by instruction_entries (all_within n (children i)) + sum_by instruction_entries (all_within (suc n) body)
entries_parted n i body =
    sum_by-append instruction_entries (i ∷ all_within n (children i)) (all_within (suc n) body)
    ∙ ap (λ k. k + sum_by instruction_entries (all_within (suc n) body)) (sum_by-cons instruction_entries i (all_within n (children i)))

pub size-bound : (n : ℕ) (body : List Instr) → body_nesting body ≤ n
    → size_of body ≤ 4 * (length body + sum_by instruction_entries (all_within n body))
size-bound n [] deep = omega arith
size-bound zero (i ∷ body) deep = absurd (omega (arith, nesting_is i))
size-bound (suc n) (i ∷ body) deep =
    omega (
      arith,
      piece-bound i,
      size-bound n (children i) (omega (arith, nesting_is i)),
      size-bound (suc n) body (omega arith),
      entries_parted n i body,
    )

pub count-bound : (n : ℕ) (body : List Instr) → body_nesting body ≤ n
    → count_of body ≤ length body + sum_by instruction_entries (all_within n body)
count-bound n [] deep = omega arith
count-bound zero (i ∷ body) deep = absurd (omega (arith, nesting_is i))
count-bound (suc n) (i ∷ body) deep =
    omega (
      arith,
      piece-count i,
      count-bound n (children i) (omega (arith, nesting_is i)),
      count-bound (suc n) body (omega arith),
      entries_parted n i body,
    )

-- bodies with their ends
bodies-size : (lists : List (List Instr)) → (in_order (body_pieces lists)).size ≡ size_of (joined lists) + length lists
bodies-size [] = refl
bodies-size (l ∷ ls) = omega (arith, bodies-size ls, size-append l (joined ls))

bodies-count : (lists : List (List Instr)) → (in_order (body_pieces lists)).numbers ≡ count_of (joined lists)
bodies-count [] = refl
bodies-count (l ∷ ls) = omega (arith, bodies-count ls, count-append l (joined ls))

pub joined-map : {A : Type 0} (f : A → List Instr) (xs : List A) → joined (map f xs) ≡ flat_map f xs
joined-map f [] = refl
joined-map f (x ∷ xs) = ap (λ l. f x ++ l) (joined-map f xs)

pub joined-append : (a b : List (List Instr)) → joined (a ++ b) ≡ joined a ++ joined b
joined-append [] b = refl
joined-append (x ∷ a) b = ap (λ l. x ++ l) (joined-append a b) ∙ sym (append_assoc x (joined a) (joined b))

pub all_bodies : (s : Sheet) → joined (sheet_bodies s) ≡ bodies s
all_bodies s =
    joined-append (map (λ (t : Template). t.body) s.templates) (map (λ (p : Procedure). p.body) s.procedures)
    ∙ ap (λ l. l ++ joined (map (λ (p : Procedure). p.body) s.procedures)) (joined-map (λ (t : Template). t.body) s.templates)
    ∙ ap (λ l. flat_map (λ (t : Template). t.body) s.templates ++ l) (joined-map (λ (p : Procedure). p.body) s.procedures)

templates-length : (ts : List Template) → length (flat_map (λ (t : Template). t.body) ts)
    ≤ sum_by (λ (t : Template). pattern_entries t.pattern + variables_entries t.params + length t.body) ts
templates-length [] = omega arith
templates-length (t ∷ ts) =
    let first : length (flat_map (λ (t : Template). t.body) (t ∷ ts)) ≡ length t.body + length (flat_map (λ (t : Template). t.body) ts) =
    length-append t.body (flat_map (λ (t : Template). t.body) ts) in
    omega (arith, templates-length ts, first, sum_by-cons (λ (t : Template). pattern_entries t.pattern + variables_entries t.params + length t.body) t ts)

procedures-length : (ps : List Procedure) → length (flat_map (λ (p : Procedure). p.body) ps)
    ≤ sum_by (λ (p : Procedure). variables_entries p.params + length p.body) ps
procedures-length [] = omega arith
procedures-length (p ∷ ps) =
    let first : length (flat_map (λ (p : Procedure). p.body) (p ∷ ps)) ≡ length p.body + length (flat_map (λ (p : Procedure). p.body) ps) =
    length-append p.body (flat_map (λ (p : Procedure). p.body) ps) in
    omega (arith, procedures-length ps, first, sum_by-cons (λ (p : Procedure). variables_entries p.params + length p.body) p ps)

abbrev pub whole : Sheet → Piece
whole s = in_order (body_pieces (sheet_bodies s))

bodies-length : (s : Sheet) → length (sheet_bodies s) ≡ length s.templates + length s.procedures
bodies-length s =
    length-append (map (λ (t : Template). t.body) s.templates) (map (λ (p : Procedure). p.body) s.procedures)
    ∙ ap (λ n. n + length (map (λ (p : Procedure). p.body) s.procedures)) (length-map s.templates (λ (t : Template). t.body))
    ∙ ap (λ n. length s.templates + n) (length-map s.procedures (λ (p : Procedure). p.body))

listed-length : (s : Sheet) → length (bodies s) + sum_by instruction_entries (instructions s) + length s.templates + length s.procedures ≤ entries s
listed-length s =
    omega (
      arith,
      templates-length s.templates,
      procedures-length s.procedures,
      length-append (flat_map (λ (t : Template). t.body) s.templates) (flat_map (λ (p : Procedure). p.body) s.procedures),
    )

pub places_fit : (s : Sheet) → IsSmall s → (whole s).size < 2 ^ 32
places_fit s small =
    let bound = size-bound (body_nesting (bodies s)) (bodies s) (omega arith) in
    omega (arith, bound, bodies-size (sheet_bodies s), ap size_of (all_bodies s), bodies-length s, listed-length s)

pub numbers_fit : (s : Sheet) → IsSmall s → (whole s).numbers < 2 ^ 32
numbers_fit s small =
    let bound = count-bound (body_nesting (bodies s)) (bodies s) (omega arith) in
    omega (arith, bound, bodies-count (sheet_bodies s), ap count_of (all_bodies s), listed-length s)
