-- One turn of each loop that puts lists.
use Rattle.std.proofs.Common.{◌≡◌, ℕ, ◌+◌, ◌^◌, ◌<◌, ◌≤◌, List, [], ◌∷◌, ◌++◌, length, map, refl, ap, sym, subst, ◌∙◌, arith, append_assoc, length-append}
use Rattle.std.proofs.lemmas.List.{append-nil, length-map}
use Rattle.instr_code.specs.Bodies.{joined}
use Rattle.instr_code.specs.Emitting.{HasRoom, Puts}
use Rattle.instr_code.specs.Layout.{branches, list_piece, piece_of, pieces}
use Rattle.instr_code.specs.Piece.{Piece, in_order}
use Rattle.instr_code.specs.declared.emit.Emitter.{Emitter}
use Rattle.instr_code.proofs.Forms.{locals_fit}
use Rattle.instr_code.proofs.Pieces.{Joins, branches-append, branches-length, dropped_size, in_order-append}
use Rattle.instr_code.proofs.Putting.{map-append, next_number, puts_joined, puts_single}
use Rattle.sheet_model.specs.Body.{all_of, body_nesting, nesting}
use Rattle.sheet_model.specs.declared.instr.Instr.{Instr}
use Rattle.sheet_model.proofs.Nests.{body_nesting-append}
use Rattle.sheet_model.proofs.Searches.{all_of-append}

-- how many operations, and how many instructions, a list becomes without its end
abbrev pub size_of : List Instr → ℕ
size_of list = (in_order (pieces list)).size

abbrev pub count_of : List Instr → ℕ
count_of list = (in_order (pieces list)).numbers

pub size-append : (a b : List Instr) → size_of (a ++ b) ≡ size_of a + size_of b
size-append a b = ap (λ ps. (in_order ps).size) (map-append piece_of a b) ∙ (in_order-append (pieces a) (pieces b)).size

pub count-append : (a b : List Instr) → count_of (a ++ b) ≡ count_of a + count_of b
count-append a b = ap (λ ps. (in_order ps).numbers) (map-append piece_of a b) ∙ (in_order-append (pieces a) (pieces b)).numbers

abbrev pub locals_of : List Instr → ℕ
locals_of list = (in_order (pieces list)).locals

pub locals-append : (a b : List Instr) → locals_of (a ++ b) ≡ locals_of a + locals_of b
locals-append a b = ap (λ ps. (in_order ps).locals) (map-append piece_of a b) ∙ (in_order-append (pieces a) (pieces b)).locals

-- Instructions that were put, one more, and those that are left.

pub room_for_one : (list ys rest : List Instr) (x : Instr) (s t : Emitter) → ys ++ x ∷ rest ≡ list → HasRoom (in_order (pieces list)) s
    → Puts (in_order (pieces ys)) (all_of ys) s t → HasRoom (piece_of x) t
room_for_one list ys rest x s t is room p = record {
  places = omega (arith, room.places, p.place, size-append ys (x ∷ rest), ap size_of is);
  numbers = omega (arith, room.numbers, next_number (in_order (pieces ys)) (all_of ys) s t p, count-append ys (x ∷ rest), ap count_of is);
}

pub nests_in : (list ys rest : List Instr) (x : Instr) → ys ++ x ∷ rest ≡ list → nesting x ≤ body_nesting list
nests_in list ys rest x is = omega (arith, body_nesting-append ys (x ∷ rest), ap body_nesting is)

pub locals_fit_more : (list ys rest : List Instr) (x : Instr) (s : Emitter) → ys ++ x ∷ rest ≡ list → HasRoom (in_order (pieces list)) s
    → locals_of ys + (piece_of x).locals < 2 ^ 32
locals_fit_more list ys rest x s is room = omega (arith, room.places, locals_fit list, locals-append ys (x ∷ rest), ap locals_of is)

pub puts_one_more : (ys : List Instr) (x : Instr) (s t u : Emitter) → Puts (in_order (pieces ys)) (all_of ys) s t → Puts (piece_of x) (all_of (x ∷ [])) t u
    → Puts (in_order (pieces (ys ++ x ∷ []))) (all_of (ys ++ x ∷ [])) s u
puts_one_more ys x s t u p q =
    subst (λ l. Puts (in_order (pieces (ys ++ x ∷ []))) l s u) (sym (all_of-append ys (x ∷ [])))
    (subst (λ ps. Puts (in_order ps) (all_of ys ++ all_of (x ∷ [])) s u) (sym (map-append piece_of ys (x ∷ [])))
    (puts_joined (in_order (pieces ys)) (in_order (pieces (x ∷ []))) (in_order (pieces ys ++ pieces (x ∷ []))) (all_of ys) (all_of (x ∷ [])) s t u
    (in_order-append (pieces ys) (pieces (x ∷ []))) p (puts_single (piece_of x) (all_of (x ∷ [])) t u q)))

-- the locals that the end of a list takes off
pub count_fits : (own : ℕ) (list : List Instr) (s : Emitter) → HasRoom (list_piece own list) s → own < 2 → locals_of list + own < 2 ^ 32
count_fits own list s room few = omega (arith, room.places, locals_fit list, dropped_size own (locals_of list + own) few (omega arith))

-- The same of branches.

abbrev pub laid : (i o p : ℕ) → List (List Instr) → Piece
laid i o p lists = branches i 0 o p (map (list_piece 0) lists)

split : (i o p : ℕ) (ys zs : List (List Instr))
    → Joins (laid i o p ys) (branches i (length ys) o (p + (laid i o p ys).size) (map (list_piece 0) zs)) (laid i o p (ys ++ zs))
split i o p ys zs =
    let j = branches-append i 0 o p (map (list_piece 0) ys) (map (list_piece 0) zs) in
    let count : 0 + length (map (list_piece 0) ys) ≡ length ys = omega (arith, length-map ys (list_piece 0)) in
    subst (λ ps. Joins (laid i o p ys) (branches i (length ys) o (p + (laid i o p ys).size) (map (list_piece 0) zs)) (branches i 0 o p ps))
    (sym (map-append (list_piece 0) ys zs))
    (subst (λ k. Joins (laid i o p ys) (branches i k o (p + (laid i o p ys).size) (map (list_piece 0) zs)) (branches i 0 o p (map (list_piece 0) ys ++ map (list_piece 0) zs))) count j)

pub room_for_branch : (i o arm : ℕ) (lists ys rest : List (List Instr)) (x : List Instr) (s t : Emitter) → ys ++ x ∷ rest ≡ lists
    → HasRoom (laid i o (length s.ops) lists) s → Puts (laid i o (length s.ops) ys) (all_of (joined ys)) s t
    → HasRoom (branches i arm o (length t.ops) (list_piece 0 x ∷ [])) t
room_for_branch i o arm lists ys rest x s t is room p =
    let j = split i o (length s.ops) ys (x ∷ rest) in
    record {
      places = omega (arith, room.places, p.place, j.size, ap (λ l. (laid i o (length s.ops) l).size) is);
      numbers =
          omega (arith, room.numbers, next_number (laid i o (length s.ops) ys) (all_of (joined ys)) s t p, j.numbers, ap (λ l. (laid i o (length s.ops) l).numbers) is);
    }

pub branch_nests_in : (lists ys rest : List (List Instr)) (x : List Instr) → ys ++ x ∷ rest ≡ lists → body_nesting x ≤ body_nesting (joined lists)
branch_nests_in lists [] rest x is = omega (arith, body_nesting-append x (joined rest), ap (λ l. body_nesting (joined l)) is)
branch_nests_in lists (y ∷ ys) rest x is =
    omega (arith, branch_nests_in (ys ++ x ∷ rest) ys rest x refl, body_nesting-append y (joined (ys ++ x ∷ rest)), ap (λ l. body_nesting (joined l)) is)

pub arms_fit : (i o : ℕ) (lists ys rest : List (List Instr)) (x : List Instr) (s : Emitter) → ys ++ x ∷ rest ≡ lists → HasRoom (laid i o (length s.ops) lists) s
    → length ys + 1 < 2 ^ 32
arms_fit i o lists ys rest x s is room =
    omega (arith, room.places, branches-length i 0 o (length s.ops) (map (list_piece 0) lists), length-map lists (list_piece 0), length-append ys (x ∷ rest), ap length is)

joined-more : (ys : List (List Instr)) (x : List Instr) → joined (ys ++ x ∷ []) ≡ joined ys ++ x
joined-more [] x = append-nil x
joined-more (y ∷ ys) x = ap (λ l. y ++ l) (joined-more ys x) ∙ sym (append_assoc y (joined ys) x)

pub puts_branch_more : (i o arm : ℕ) (ys : List (List Instr)) (x : List Instr) (s t u : Emitter) → arm ≡ length ys
    → Puts (laid i o (length s.ops) ys) (all_of (joined ys)) s t → Puts (branches i arm o (length t.ops) (list_piece 0 x ∷ [])) (all_of x) t u
    → Puts (laid i o (length s.ops) (ys ++ x ∷ [])) (all_of (joined (ys ++ x ∷ []))) s u
puts_branch_more i o arm ys x s t u count p q =
    let at = length s.ops in
    let moved : Puts (branches i (length ys) o (at + (laid i o at ys).size) (list_piece 0 x ∷ [])) (all_of x) t u =
    subst (λ k. Puts (branches i k o (at + (laid i o at ys).size) (list_piece 0 x ∷ [])) (all_of x) t u) count
    (subst (λ k. Puts (branches i arm o k (list_piece 0 x ∷ [])) (all_of x) t u) p.place q) in
    subst (λ l. Puts (laid i o at (ys ++ x ∷ [])) l s u) (sym (ap all_of (joined-more ys x) ∙ all_of-append (joined ys) x))
    (puts_joined (laid i o at ys) (branches i (length ys) o (at + (laid i o at ys).size) (list_piece 0 x ∷ [])) (laid i o at (ys ++ x ∷ [])) (all_of (joined ys)) (all_of x)
    s t u (split i o at ys (x ∷ [])) p moved)

-- what is taken from those that are left
pub taken_more : {A : Type 0} (ys rest : List A) (x : A) (all : List A) → ys ++ x ∷ rest ≡ all → (ys ++ x ∷ []) ++ rest ≡ all
taken_more ys rest x all is = append_assoc ys (x ∷ []) rest ∙ is
