-- How each kind of instruction is laid out, step by step.
use Rattle.std.proofs.Common.{◌≡◌, ℕ, ◌+◌, List, [], ◌∷◌, ◌++◌, length, subst, arith}
use Rattle.instr_code.specs.Emitting.{Fills, Puts}
use Rattle.instr_code.specs.Layout.{branches, choice_ops, choices_ops, round_ops}
use Rattle.instr_code.specs.Piece.{Piece, alone, behind}
use Rattle.instr_code.specs.declared.code.Op.{Op}
use Rattle.instr_code.specs.declared.code.Op.TheVariants as op
use Rattle.instr_code.specs.declared.emit.Emitter.{Emitter}
use Rattle.instr_code.proofs.Putting.{filled, puts_ended, puts_led, puts_then}
use Rattle.sheet_model.specs.declared.instr.Instr.{Instr}

-- a kept place, a piece and an operation, and then the kept place is filled
pub laid_round : (n : ℕ) (b : Piece) (xs : List Instr) (s s1 s2 s3 u : Emitter)
    → Puts (alone op.Return) [] s s1 → Puts b xs s1 s2 → Puts (alone (op.Close n)) [] s2 s3 → Fills (length s.ops) (op.Open n (length s3.ops)) s3 u
    → Puts (round_ops b n (length s.ops)) xs s u
laid_round n b xs s s1 s2 s3 u kept body close fill =
    let x = behind b (alone (op.Close n)) in
    let to : length s3.ops ≡ length s.ops + b.size + 2 = omega (arith, kept.place, body.place, close.place) in
    subst (λ m. Puts (behind (alone (op.Open n m)) x) xs s u) to
    (filled op.Return (op.Open n (length s3.ops)) x xs s s3 u (puts_led op.Return x xs s s1 s3 kept (puts_ended b (op.Close n) xs s1 s2 s3 body close)) fill)

pub laid_choice : (n : ℕ) (b o : Piece) (xs ys : List Instr) (s s1 s2 s3 s4 s5 u : Emitter)
    → Puts (alone op.Return) [] s s1 → Puts b xs s1 s2 → Puts (alone op.Return) [] s2 s3 → Puts o ys s3 s4
    → Fills (length s2.ops) (op.Jump (length s4.ops)) s4 s5 → Fills (length s.ops) (op.Test n 0 (length s3.ops)) s5 u
    → Puts (choice_ops b o n (length s.ops)) (xs ++ ys) s u
laid_choice n b o xs ys s s1 s2 s3 s4 s5 u kept body jump other fill_jump fill_test =
    let p = length s.ops in
    let to : length s3.ops ≡ p + b.size + 2 = omega (arith, kept.place, body.place, jump.place) in
    let end : length s4.ops ≡ p + b.size + 2 + o.size = omega (arith, to, other.place) in
    let jumping = filled op.Return (op.Jump (length s4.ops)) o ys s2 s4 s5 (puts_led op.Return o ys s2 s3 s4 jump other) fill_jump in
    let x = behind b (behind (alone (op.Jump (length s4.ops))) o) in
    let testing = filled op.Return (op.Test n 0 (length s3.ops)) x (xs ++ ys) s s5 u
    (puts_led op.Return x (xs ++ ys) s s1 s5 kept (puts_then b (behind (alone (op.Jump (length s4.ops))) o) xs ys s1 s2 s5 body jumping)) fill_test in
    subst (λ m. Puts (behind (alone (op.Test n 0 m)) (behind b (behind (alone (op.Jump (p + b.size + 2 + o.size))) o))) (xs ++ ys) s u) to
    (subst (λ m. Puts (behind (alone (op.Test n 0 (length s3.ops))) (behind b (behind (alone (op.Jump m)) o))) (xs ++ ys) s u) end testing)

-- a beginning, a place that is kept for what asks or takes the next turn, a piece, and a jump back to that place
pub laid_loop : (n : ℕ) (turn : ℕ → Op) (b : Piece) (xs : List Instr) (s s1 s2 s3 s4 u : Emitter)
    → Puts (alone (op.Begin n)) [] s s1 → Puts (alone op.Return) [] s1 s2 → Puts b xs s2 s3 → Puts (alone (op.Jump (length s1.ops))) [] s3 s4
    → Fills (length s1.ops) (turn (length s4.ops)) s4 u
    → Puts (behind (alone (op.Begin n)) (behind (alone (turn (length s.ops + b.size + 3))) (behind b (alone (op.Jump (length s.ops + 1)))))) xs s u
laid_loop n turn b xs s s1 s2 s3 s4 u begin kept body jump fill =
    let p = length s.ops in
    let back : length s1.ops ≡ p + 1 = begin.place in
    let to : length s4.ops ≡ p + b.size + 3 = omega (arith, begin.place, kept.place, body.place, jump.place) in
    let x = behind b (alone (op.Jump (length s1.ops))) in
    let turning = filled op.Return (turn (length s4.ops)) x xs s1 s4 u
    (puts_led op.Return x xs s1 s2 s4 kept (puts_ended b (op.Jump (length s1.ops)) xs s2 s3 s4 body jump)) fill in
    let whole = puts_led (op.Begin n) (behind (alone (turn (length s4.ops))) x) xs s s1 u begin turning in
    subst (λ m. Puts (behind (alone (op.Begin n)) (behind (alone (turn m)) (behind b (alone (op.Jump (p + 1)))))) xs s u) to
    (subst (λ m. Puts (behind (alone (op.Begin n)) (behind (alone (turn (length s4.ops))) (behind b (alone (op.Jump m))))) xs s u) back whole)

pub laid_branch : (n arm out : ℕ) (b : Piece) (xs : List Instr) (s s1 s2 s3 u : Emitter)
    → Puts (alone op.Return) [] s s1 → Puts b xs s1 s2 → Puts (alone (op.Jump out)) [] s2 s3 → Fills (length s.ops) (op.Test n arm (length s3.ops)) s3 u
    → Puts (branches n arm out (length s.ops) (b ∷ [])) xs s u
laid_branch n arm out b xs s s1 s2 s3 u kept body jump fill =
    let x = behind b (alone (op.Jump out)) in
    let to : length s3.ops ≡ length s.ops + b.size + 2 = omega (arith, kept.place, body.place, jump.place) in
    subst (λ m. Puts (behind (alone (op.Test n arm m)) x) xs s u) to
    (filled op.Return (op.Test n arm (length s3.ops)) x xs s s3 u (puts_led op.Return x xs s s1 s3 kept (puts_ended b (op.Jump out) xs s1 s2 s3 body jump)) fill)

pub laid_choices : (n : ℕ) (bs : List Piece) (o : Piece) (xs ys : List Instr) (s s1 s2 s3 s4 s5 u : Emitter)
    → Puts (alone (op.Begin n)) [] s s1 → Puts (alone (op.Jump (length s1.ops + 2))) [] s1 s2 → Puts (alone op.Return) [] s2 s3
    → Puts (branches n 0 (length s2.ops) (length s3.ops) bs) xs s3 s4 → Puts o ys s4 s5 → Fills (length s2.ops) (op.Jump (length s5.ops)) s5 u
    → Puts (choices_ops bs o n (length s.ops)) (xs ++ ys) s u
laid_choices n bs o xs ys s s1 s2 s3 s4 s5 u begin first kept whens other fill =
    let p = length s.ops in
    let out : length s2.ops ≡ p + 2 = omega (arith, begin.place, first.place) in
    let start : length s3.ops ≡ p + 3 = omega (arith, out, kept.place) in
    let skip : length s1.ops + 2 ≡ p + 3 = omega (arith, begin.place) in
    let all = branches n 0 (p + 2) (p + 3) bs in
    let put : Puts all xs s3 s4 =
    subst (λ m. Puts (branches n 0 m (p + 3) bs) xs s3 s4) out (subst (λ m. Puts (branches n 0 (length s2.ops) m bs) xs s3 s4) start whens) in
    let end : length s5.ops ≡ p + 3 + all.size + o.size = omega (arith, start, put.place, other.place) in
    let x = behind all o in
    let leaving = filled op.Return (op.Jump (length s5.ops)) x (xs ++ ys) s2 s5 u
    (puts_led op.Return x (xs ++ ys) s2 s3 s5 kept (puts_then all o xs ys s3 s4 s5 put other)) fill in
    let y = behind (alone (op.Jump (length s5.ops))) x in
    let whole = puts_led (op.Begin n) (behind (alone (op.Jump (length s1.ops + 2))) y) (xs ++ ys) s s1 u begin
    (puts_led (op.Jump (length s1.ops + 2)) y (xs ++ ys) s1 s2 u first leaving) in
    subst (λ m. Puts (behind (alone (op.Begin n)) (behind (alone (op.Jump (p + 3))) (behind (alone (op.Jump m)) x))) (xs ++ ys) s u) end
    (subst (λ m. Puts (behind (alone (op.Begin n)) (behind (alone (op.Jump m)) y)) (xs ++ ys) s u) skip whole)

-- a place that was filled, by equal names
pub filled_at : (p q : ℕ) (o r : Op) (s u : Emitter) → p ≡ q → o ≡ r → Fills p o s u → Fills q r s u
filled_at p q o r s u at is f = subst (λ (k : ℕ). Fills k r s u) at (subst (λ (x : Op). Fills p x s u) is f)
