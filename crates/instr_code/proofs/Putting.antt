-- Putting pieces one behind another, and filling places that were kept.
use Rattle.std.proofs.Common.{◌≡◌, ◌+◌, List, [], ◌∷◌, ◌++◌, length, map, set, refl, ap, sym, subst, ◌∙◌, arith, append_assoc, length-append}
use Rattle.std.proofs.lemmas.List.{append-nil, length-map, length-set}
use Rattle.std.proofs.Math.Seq.{set-append_seam}
use Rattle.instr_code.specs.Bare.{bare}
use Rattle.instr_code.specs.Emitting.{Fills, Puts}
use Rattle.instr_code.specs.Piece.{Piece, alone, behind, in_order}
use Rattle.instr_code.specs.declared.code.Op.{Op}
use Rattle.instr_code.specs.declared.emit.Emitter.{Emitter}
use Rattle.instr_code.proofs.Pieces.{Joins, joins_behind}
use Rattle.sheet_model.specs.declared.instr.Instr.{Instr}

pub map-append : {A B : Type 0} (f : A → B) (xs ys : List A) → map f (xs ++ ys) ≡ map f xs ++ map f ys
map-append f [] ys = refl
map-append f (x ∷ xs) ys = ap (λ l. f x ∷ l) (map-append f xs ys)

-- the number of the instruction that comes next
pub next_number : (a : Piece) (xs : List Instr) (s t : Emitter) → Puts a xs s t → length t.instrs ≡ length s.instrs + a.numbers
next_number a xs s t p =
    ap length p.instrs ∙ length-append s.instrs (map bare xs) ∙ ap (λ n. length s.instrs + n) (length-map xs bare ∙ p.number)

pub puts_joined : (a b c : Piece) (xs ys : List Instr) (s t u : Emitter) → Joins a b c → Puts a xs s t → Puts b ys t u → Puts c (xs ++ ys) s u
puts_joined a b c xs ys s t u j p q =
    let n = length s.instrs in
    let at = length s.ops in
    record {
      ops =
          q.ops
          ∙ ap (λ l. l ++ b.ops (length t.instrs) (length t.ops)) p.ops
          ∙ ap (λ m. (s.ops ++ a.ops n at) ++ b.ops m (length t.ops)) (next_number a xs s t p)
          ∙ ap (λ m. (s.ops ++ a.ops n at) ++ b.ops (n + a.numbers) m) p.place
          ∙ append_assoc s.ops (a.ops n at) (b.ops (n + a.numbers) (at + a.size))
          ∙ ap (λ l. s.ops ++ l) (sym (j.ops n at));
      place = omega (arith, p.place, q.place, j.size);
      instrs =
          q.instrs
          ∙ ap (λ l. l ++ map bare ys) p.instrs
          ∙ append_assoc s.instrs (map bare xs) (map bare ys)
          ∙ ap (λ l. s.instrs ++ l) (sym (map-append bare xs ys));
      number = omega (arith, length-append xs ys, p.number, q.number, j.numbers);
    }

pub puts_then : (a b : Piece) (xs ys : List Instr) (s t u : Emitter) → Puts a xs s t → Puts b ys t u → Puts (behind a b) (xs ++ ys) s u
puts_then a b xs ys s t u p q = puts_joined a b (behind a b) xs ys s t u (joins_behind a b) p q

-- an operation before a piece
pub puts_led : (o : Op) (b : Piece) (ys : List Instr) (s t u : Emitter) → Puts (alone o) [] s t → Puts b ys t u → Puts (behind (alone o) b) ys s u
puts_led o b ys s t u p q = puts_then (alone o) b [] ys s t u p q

-- an operation behind a piece
pub puts_ended : (a : Piece) (o : Op) (xs : List Instr) (s t u : Emitter) → Puts a xs s t → Puts (alone o) [] t u → Puts (behind a (alone o)) xs s u
puts_ended a o xs s t u p q = subst (λ l. Puts (behind a (alone o)) l s u) (append-nil xs) (puts_then a (alone o) xs [] s t u p q)

pub puts_single : (b : Piece) (xs : List Instr) (s u : Emitter) → Puts b xs s u → Puts (in_order (b ∷ [])) xs s u
puts_single b xs s u q = record {
  ops = q.ops ∙ ap (λ l. s.ops ++ l) (sym (append-nil (b.ops (length s.instrs) (length s.ops))));
  place = omega (arith, q.place);
  instrs = q.instrs;
  number = omega (arith, q.number);
}

-- the operation before a piece is filled in when the piece is put
pub filled : (r o : Op) (x : Piece) (xs : List Instr) (s t u : Emitter) → Puts (behind (alone r) x) xs s t → Fills (length s.ops) o t u
    → Puts (behind (alone o) x) xs s u
filled r o x xs s t u p f =
    let rest = x.ops (length s.instrs + 0) (length s.ops + 1) in
    record {
      ops = f.ops ∙ ap (λ l. set l (length s.ops) o) p.ops ∙ set-append_seam s.ops r rest o;
      place = ap length f.ops ∙ length-set t.ops (length s.ops) o ∙ p.place;
      instrs = f.instrs ∙ p.instrs;
      number = p.number;
    }
