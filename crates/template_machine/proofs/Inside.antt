-- Each operation of a body's code leads on within it.
use Rattle.std.proofs.Common.{◌≡◌, ℕ, zero, suc, ◌+◌, ◌-◌, ◌<◌, ◌≤◌, inl, inr, List, [], ◌∷◌, ◌++◌, length, map, Some, refl, ap, sym, subst, ◌∙◌, arith, length-append}
use Rattle.std.specs.List.{slice_get}
use Rattle.instr_code.specs.Bodies.{joined}
use Rattle.instr_code.specs.Code.{code_of, sheet_bodies, starts}
use Rattle.instr_code.specs.Emitting.{inner_layer, inner_of, inner_ops, listed}
use Rattle.instr_code.specs.Layout.{body_piece, branches, list_piece, piece_of, pieces}
use Rattle.instr_code.specs.Piece.{Piece, alone, dropped, in_order}
use Rattle.instr_code.specs.declared.code.Op.{Op}
use Rattle.instr_code.specs.declared.code.Op.TheVariants as op
use Rattle.instr_code.specs.declared.inner.Inner.{Inner}
use Rattle.instr_code.specs.declared.inner.Inner.TheVariants as inside
use Rattle.instr_code.proofs.Forms.{children_are, unrolled}
use Rattle.instr_code.proofs.Sized.{sized, sized_alone, sized_behind}
use Rattle.sheet_model.specs.Body.{body_nesting, nesting}
use Rattle.sheet_model.specs.declared.instr.Instr.{Instr}
use Rattle.sheet_model.specs.declared.sheet.Sheet.{Sheet}
use Rattle.sheet_model.proofs.Nests.{body_nesting-append, nesting_is}
use Rattle.template_machine.specs.Placed.{BodiesStayWithin, LeadsWithin}
use Rattle.template_machine.specs.Programs.{end_of}
use Rattle.template_machine.proofs.LaidOut.{end, end_here, end_later, ends}
use Rattle.template_machine.proofs.Numbering.{in_either}
use Rattle.template_machine.proofs.Stations.{branches_long, list_long, one_long}

-- operations from a place on lead within these places
abbrev pub AllWithin : (first last p : ℕ) → List Op → Type 0
AllWithin f l p [] = Unit {0}
AllWithin f l p (o ∷ os) = LeadsWithin f l p o × AllWithin f l (p + 1) os

wider_op : (f l g m p : ℕ) (o : Op) → g ≤ f → l ≤ m → LeadsWithin f l p o → LeadsWithin g m p o
wider_op f l g m p (op.Open n to) a b h = (omega (arith, a, b, h.0), omega (arith, a, b, h.1), omega (arith, a, b, h.2))
wider_op f l g m p (op.Test n arm to) a b h = (omega (arith, a, b, h.0), omega (arith, a, b, h.1), omega (arith, a, b, h.2))
wider_op f l g m p (op.Turn n to) a b h = (omega (arith, a, b, h.0), omega (arith, a, b, h.1), omega (arith, a, b, h.2))
wider_op f l g m p (op.Jump to) a b h = (omega (arith, a, b, h.0), omega (arith, a, b, h.1))
wider_op f l g m p op.Return a b h = tt
wider_op f l g m p (op.Do n) a b h = omega (arith, a, b, h)
wider_op f l g m p (op.Begin n) a b h = omega (arith, a, b, h)
wider_op f l g m p (op.Close n) a b h = omega (arith, a, b, h)
wider_op f l g m p (op.Drop count) a b h = omega (arith, a, b, h)

wider : (f l g m p : ℕ) (os : List Op) → g ≤ f → l ≤ m → AllWithin f l p os → AllWithin g m p os
wider f l g m p [] a b h = tt
wider f l g m p (o ∷ os) a b h = (wider_op f l g m p o a b h.0, wider f l g m (p + 1) os a b h.1)

one_behind : (f l p q : ℕ) (os ns : List Op) → p + length os ≡ q → AllWithin f l p os → AllWithin f l q ns → AllWithin f l p (os ++ ns)
one_behind f l p q [] ns e h k = subst (λ n. AllWithin f l n ns) (omega (arith, e)) k
one_behind f l p q (o ∷ os) ns e h k = (h.0, one_behind f l (p + 1) q os ns (omega (arith, e)) h.1 k)

from_here : (f l p q : ℕ) (os : List Op) → p ≡ q → AllWithin f l p os → AllWithin f l q os
from_here f l p q os e h = subst (λ n. AllWithin f l n os) e h

-- the operation at a place
within_at : (f l p k : ℕ) (os : List Op) (o : Op) → AllWithin f l p os → slice_get os k ≡ Some o → LeadsWithin f l (p + k) o
within_at f l p k [] o h is = absurd (cc)
within_at f l p zero (x ∷ os) o h is =
    let same : x ≡ o = cc in subst (λ n. LeadsWithin f l n o) (omega arith) (subst (LeadsWithin f l p) same h.0)
within_at f l p (suc k) (x ∷ os) o h is = subst (λ n. LeadsWithin f l n o) (omega arith) (within_at f l (p + 1) k os o h.1 is)

-- lists that nest so deep at most lead to where they end
abbrev StayTo : ℕ → Type 0
StayTo n = (list : List Instr) (m p : ℕ) → body_nesting list ≤ n → AllWithin p (p + (in_order (pieces list)).size) p ((in_order (pieces list)).ops m p)

drops_within : (count m p : ℕ) → AllWithin p (p + (dropped count).size) p ((dropped count).ops m p)
drops_within zero m p = tt
drops_within (suc n) m p = (omega arith, tt)

list_within : (n own : ℕ) (list : List Instr) (m p : ℕ) → StayTo n → body_nesting list ≤ n → AllWithin p (p + (list_piece own list).size) p ((list_piece own list).ops m p)
list_within n own list m p to deep =
    let x = in_order (pieces list) in
    let d = dropped (x.locals + own) in
    one_behind p (p + (x.size + d.size)) p (p + x.size) (x.ops m p) (d.ops (m + x.numbers) (p + x.size)) (omega (arith, (sized list).long m p))
    (wider p (p + x.size) p (p + (x.size + d.size)) p (x.ops m p) (omega arith) (omega arith) (to list m p deep))
    (wider (p + x.size) (p + x.size + d.size) p (p + (x.size + d.size)) (p + x.size) (d.ops (m + x.numbers) (p + x.size)) (omega arith) (omega arith) (drops_within (x.locals + own) (m + x.numbers) (p + x.size)))

-- a list within others
inner_within : (n own : ℕ) (list : List Instr) (m p f l : ℕ) → StayTo n → body_nesting list ≤ n → f ≤ p → p + (list_piece own list).size ≤ l → AllWithin f l p ((list_piece own list).ops m p)
inner_within n own list m p f l to deep a b =
    wider p (p + (list_piece own list).size) f l p ((list_piece own list).ops m p) a b (list_within n own list m p to deep)

branches_within : (n : ℕ) (lists : List (List Instr)) (i a out place m q f l : ℕ) → StayTo n → body_nesting (joined lists) ≤ n → place ≡ q → f ≤ q → f ≤ out → out ≤ l
    → q + (branches i a out place (map (list_piece 0) lists)).size ≤ l
    → AllWithin f l q ((branches i a out place (map (list_piece 0) lists)).ops m q)
branches_within n [] i a out place m q f l to deep e low first last high = tt
branches_within n (x ∷ xs) i a out place m q f l to deep e low first last high =
    let b = list_piece 0 x in
    let more = branches i (suc a) out (place + b.size + 2) (map (list_piece 0) xs) in
    let parted = body_nesting-append x (joined xs) in
    let far = q + 1 + b.size + 1 in
    let number = m + 0 + b.numbers + 0 in (
      (omega (arith, high), omega (arith, e, low), omega (arith, e, high)),
      one_behind f l (q + 1) (q + 1 + b.size) (b.ops (m + 0) (q + 1)) (op.Jump out ∷ more.ops number far) (omega (arith, list_long 0 x (m + 0) (q + 1)))
          (inner_within n 0 x (m + 0) (q + 1) f l to (omega (arith, parted, deep)) (omega (arith, low)) (omega (arith, high)))
          ((first, last), branches_within n xs i (suc a) out (place + b.size + 2) number far f l to (omega (arith, parted, deep)) (omega (arith, e)) (omega (arith, low)) first last (omega (arith, high))),
    )

layer_within : (n : ℕ) (x : Inner) (m k p : ℕ) → StayTo n → body_nesting (listed x) ≤ n → AllWithin p (p + (inner_ops x m p).size) p ((inner_ops x m p).ops k p)
layer_within n inside.Nothing m k p to deep = (omega arith, tt)
layer_within n inside.Local m k p to deep = (omega arith, tt)
layer_within n (inside.Round body) m k p to deep =
    let b = list_piece 0 body in
    let end = p + (1 + (b.size + 1)) in (
      (omega arith, omega arith, omega arith),
      one_behind p end (p + 1) (p + 1 + b.size) (b.ops (k + 0) (p + 1)) (op.Close m ∷ []) (omega (arith, list_long 0 body (k + 0) (p + 1)))
          (inner_within n 0 body (k + 0) (p + 1) p end to deep (omega arith) (omega arith)) (omega arith, tt),
    )
layer_within n (inside.Choice body other) m k p to deep =
    let b = list_piece 0 body in
    let o = list_piece 0 other in
    let end = p + (1 + (b.size + (1 + o.size))) in
    let parted = body_nesting-append body other in
    let far = p + 1 + b.size + 1 in (
      (omega arith, omega arith, omega arith),
      one_behind p end (p + 1) (p + 1 + b.size) (b.ops (k + 0) (p + 1)) (op.Jump (p + b.size + 2 + o.size) ∷ o.ops (k + 0 + b.numbers + 0) far) (omega (arith, list_long 0 body (k + 0) (p + 1)))
          (inner_within n 0 body (k + 0) (p + 1) p end to (omega (arith, parted, deep)) (omega arith) (omega arith))
          ((omega arith, omega arith), inner_within n 0 other (k + 0 + b.numbers + 0) far p end to (omega (arith, parted, deep)) (omega arith) (omega arith)),
    )
layer_within n (inside.Choices lists other) m k p to deep =
    let o = list_piece 0 other in
    let all = branches m 0 (p + 2) (p + 3) (map (list_piece 0) lists) in
    let end = p + (1 + (1 + (1 + (all.size + o.size)))) in
    let parted = body_nesting-append (joined lists) other in
    let q = p + 1 + 1 + 1 in
    let number = k + 0 + 0 + 0 in (
      omega arith,
      (
        (omega arith, omega arith),
        (
          (omega arith, omega arith),
          one_behind p end q (q + all.size) (all.ops number q) (o.ops (number + all.numbers) (q + all.size)) (omega (arith, branches_long m 0 (p + 2) (p + 3) lists number q))
              (branches_within n lists m 0 (p + 2) (p + 3) number q p end to (omega (arith, parted, deep)) (omega arith) (omega arith) (omega arith) (omega arith) (omega arith))
              (inner_within n 0 other (number + all.numbers) (q + all.size) p end to (omega (arith, parted, deep)) (omega arith) (omega arith)),
        ),
      ),
    )
layer_within n (inside.While body) m k p to deep =
    let b = list_piece 0 body in
    let end = p + (1 + (1 + (b.size + 1))) in
    let q = p + 1 + 1 in
    let number = k + 0 + 0 in (
      omega arith,
      (
        (omega arith, omega arith, omega arith),
        one_behind p end q (q + b.size) (b.ops number q) (op.Jump (p + 1) ∷ []) (omega (arith, list_long 0 body number q))
            (inner_within n 0 body number q p end to deep (omega arith) (omega arith)) ((omega arith, omega arith), tt),
      ),
    )
layer_within n (inside.ForEach body) m k p to deep =
    let b = list_piece 1 body in
    let end = p + (1 + (1 + (b.size + 1))) in
    let q = p + 1 + 1 in
    let number = k + 0 + 0 in (
      omega arith,
      (
        (omega arith, omega arith, omega arith),
        one_behind p end q (q + b.size) (b.ops number q) (op.Jump (p + 1) ∷ []) (omega (arith, list_long 1 body number q))
            (inner_within n 1 body number q p end to deep (omega arith) (omega arith)) ((omega arith, omega arith), tt),
      ),
    )

one_within : (n : ℕ) (i : Instr) (m p : ℕ) → StayTo n → nesting i ≤ n + 1 → AllWithin p (p + (piece_of i).size) p ((piece_of i).ops m p)
one_within n i m p to deep =
    let x = inner_of i in
    let within_it : body_nesting (listed x) ≤ n = omega (arith, nesting_is i, ap body_nesting (children_are i), deep) in
    subst (λ (y : Piece). AllWithin p (p + y.size) p (y.ops m p)) (sym (unrolled i))
    (subst (λ z. AllWithin p (p + z) p ((inner_ops x m p).ops (m + 1) p)) (same_size x m p) (layer_within n x m (m + 1) p to within_it))
  where
    branch_size : (i a out place j b o q : ℕ) (lists : List (List Instr)) → (branches i a out place (map (list_piece 0) lists)).size ≡ (branches j b o q (map (list_piece 0) lists)).size
    branch_size i a out place j b o q [] = refl
    branch_size i a out place j b o q (l ∷ ls) = ap (λ z. 1 + ((list_piece 0 l).size + (1 + z))) (branch_size i (suc a) out (place + (list_piece 0 l).size + 2) j (suc b) o (q + (list_piece 0 l).size + 2) ls)

    same_size : (x : Inner) (m p : ℕ) → (inner_ops x m p).size ≡ (inner_ops x 0 0).size
    same_size inside.Nothing m p = refl
    same_size inside.Local m p = refl
    same_size (inside.Round body) m p = refl
    same_size (inside.Choice body other) m p = refl
    same_size (inside.Choices lists other) m p = ap (λ z. 1 + (1 + (1 + (z + (list_piece 0 other).size)))) (branch_size m 0 (p + 2) (p + 3) 0 0 2 3 lists)
    same_size (inside.While body) m p = refl
    same_size (inside.ForEach body) m p = refl

stay_to : (n : ℕ) → StayTo n
stay_to n [] m p deep = tt
stay_to zero (i ∷ list) m p deep = absurd (omega (arith, nesting_is i, deep))
stay_to (suc n) (i ∷ list) m p deep =
    let x = piece_of i in
    let y = in_order (pieces list) in
    let end = p + (x.size + y.size) in
    one_behind p end p (p + x.size) (x.ops m p) (y.ops (m + x.numbers) (p + x.size)) (omega (arith, one_long i m p))
    (wider p (p + x.size) p end p (x.ops m p) (omega arith) (omega arith) (one_within n i m p (stay_to n) (omega (arith, deep))))
    (wider (p + x.size) (p + x.size + y.size) p end (p + x.size) (y.ops (m + x.numbers) (p + x.size)) (omega arith) (omega arith) (stay_to (suc n) list (m + x.numbers) (p + x.size) (omega (arith, deep))))

body_within : (list : List Instr) (m p : ℕ) → AllWithin p (p + (body_piece list).size - 1) p ((body_piece list).ops m p)
body_within list m p =
    let x = in_order (pieces list) in
    let last : p + x.size ≡ p + (x.size + 1) - 1 = omega arith in
    subst (λ l. AllWithin p l p ((body_piece list).ops m p)) last
    (one_behind p (p + x.size) p (p + x.size) (x.ops m p) (op.Return ∷ []) (omega (arith, (sized list).long m p)) (stay_to (body_nesting list) list m p (omega arith)) (tt, tt))

bodies_within : (lists : List (List Instr)) (n p i start place : ℕ) (o : Op) → slice_get (starts p (map body_piece lists)) i ≡ Some start
    → start ≤ place → place < end p (map body_piece lists) i → slice_get ((in_order (map body_piece lists)).ops n p) (place - p) ≡ Some o
    → LeadsWithin start (end p (map body_piece lists) i - 1) place o
bodies_within [] n p i start place o at behind before is = absurd (cc)
bodies_within (l ∷ ls) n p zero start place o at behind before is =
    let b = body_piece l in
    let bs = map body_piece ls in
    let same : p ≡ start = cc in
    let long = (sized_behind (in_order (pieces l)) (alone op.Return) (sized l) (sized_alone op.Return)).long n p in
    let e = end_here p b bs in
    elim (in_either (b.ops n p) ((in_order bs).ops (n + b.numbers) (p + b.size)) (place - p) o is) [
      | inl x ↦
          let last : p + b.size - 1 ≡ end p (b ∷ bs) 0 - 1 = omega (arith, e) in
          let here : p + (place - p) ≡ place = omega (arith, behind, same) in
          subst (λ f. LeadsWithin f (end p (b ∷ bs) 0 - 1) place o) same
          (subst (λ m. LeadsWithin p m place o) last
          (subst (λ k. LeadsWithin p (p + b.size - 1) k o) here (within_at p (p + b.size - 1) p (place - p) (b.ops n p) o (body_within l n p) x.1)))
      | inr x ↦ absurd (omega (arith, x.0, long, e, before, behind, same))
    ]
bodies_within (l ∷ ls) n p (suc i) start place o at behind before is =
    let b = body_piece l in
    let bs = map body_piece ls in
    let long = (sized_behind (in_order (pieces l)) (alone op.Return) (sized l) (sized_alone op.Return)).long n p in
    let e = end_later p b bs i in
    let later = starts_later (p + b.size) bs i start at in
    let rest : slice_get ((in_order bs).ops (n + b.numbers) (p + b.size)) (place - (p + b.size)) ≡ Some o =
    elim (in_either (b.ops n p) ((in_order bs).ops (n + b.numbers) (p + b.size)) (place - p) o is) [
      | inl x ↦ absurd (omega (arith, x.0, long, later, behind))
      | inr x ↦ subst (λ m. slice_get ((in_order bs).ops (n + b.numbers) (p + b.size)) m ≡ Some o) (omega (arith, long)) x.1
    ] in
    subst (λ m. LeadsWithin start (m - 1) place o) (sym e)
    (bodies_within ls (n + b.numbers) (p + b.size) i start place o at behind (omega (arith, before, e)) rest)
  where
    starts_later : (p : ℕ) (bs : List Piece) (i start : ℕ) → slice_get (starts p bs) i ≡ Some start → p ≤ start
    starts_later p [] i start is = absurd (cc)
    starts_later p (b ∷ bs) zero start is = let same : p ≡ start = cc in omega (arith, same)
    starts_later p (b ∷ bs) (suc i) start is = omega (arith, starts_later (p + b.size) bs i start is)

pub bodies_stay_within : BodiesStayWithin
bodies_stay_within sheet body place o i =
    let e = ends sheet body in
    let here : place - 0 ≡ place = omega arith in
    subst (λ m. LeadsWithin i.start (m - 1) place o) (sym e)
    (bodies_within (sheet_bodies sheet) 0 0 body i.start place o i.starts i.behind (omega (arith, e, i.before))
    (ap (slice_get (code_of sheet).ops) here ∙ i.stands))
