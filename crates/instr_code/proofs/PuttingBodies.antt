-- Putting whole bodies one behind another.
use Rattle.std.proofs.Common.{◌≡◌, ℕ, ◌+◌, List, [], ◌∷◌, ◌++◌, length, map, ap, sym, subst, ◌∙◌, arith, append_assoc}
use Rattle.std.proofs.lemmas.List.{append-nil}
use Rattle.instr_code.specs.Bodies.{HaveRoom, PutsBodies, body_pieces, joined}
use Rattle.instr_code.specs.Code.{starts}
use Rattle.instr_code.specs.Emitting.{Puts}
use Rattle.instr_code.specs.Layout.{body_piece}
use Rattle.instr_code.specs.Piece.{Piece, in_order}
use Rattle.instr_code.specs.declared.bodies.Bodies.{Bodies}
use Rattle.instr_code.proofs.Bounds.{joined-append}
use Rattle.instr_code.proofs.Pieces.{Joins, in_order-append}
use Rattle.instr_code.proofs.Putting.{map-append, next_number, puts_joined, puts_single}
use Rattle.sheet_model.specs.Body.{all_of}
use Rattle.sheet_model.specs.declared.instr.Instr.{Instr}
use Rattle.sheet_model.proofs.Searches.{all_of-append}

pub starts-append : (p : ℕ) (xs bs : List Piece) → starts p (xs ++ bs) ≡ starts p xs ++ starts (p + (in_order xs).size) bs
starts-append p [] bs = ap (λ q. starts q bs) (omega arith)
starts-append p (x ∷ xs) bs =
    ap (λ l. p ∷ l) (starts-append (p + x.size) xs bs ∙ ap (λ q. starts (p + x.size) xs ++ starts q bs) (omega arith))

joins : (xs bs : List (List Instr)) → Joins (in_order (body_pieces xs)) (in_order (body_pieces bs)) (in_order (body_pieces (xs ++ bs)))
joins xs bs =
    subst (λ ps. Joins (in_order (body_pieces xs)) (in_order (body_pieces bs)) (in_order ps)) (sym (map-append body_piece xs bs))
    (in_order-append (body_pieces xs) (body_pieces bs))

pub bodies_joined : (xs bs : List (List Instr)) (s t u : Bodies) → PutsBodies xs s t → PutsBodies bs t u → PutsBodies (xs ++ bs) s u
bodies_joined xs bs s t u p q =
    let at = length s.emitter.ops in
    let all : all_of (joined (xs ++ bs)) ≡ all_of (joined xs) ++ all_of (joined bs) = ap all_of (joined-append xs bs) ∙ all_of-append (joined xs) (joined bs) in
    record {
      starts =
          q.starts
          ∙ ap (λ l. l ++ starts (length t.emitter.ops) (body_pieces bs)) p.starts
          ∙ ap (λ m. (s.starts ++ starts at (body_pieces xs)) ++ starts m (body_pieces bs)) p.code.place
          ∙ append_assoc s.starts (starts at (body_pieces xs)) (starts (at + (in_order (body_pieces xs)).size) (body_pieces bs))
          ∙ ap (λ l. s.starts ++ l) (sym (starts-append at (body_pieces xs) (body_pieces bs)))
          ∙ ap (λ ps. s.starts ++ starts at ps) (sym (map-append body_piece xs bs));
      code =
          subst (λ l. Puts (in_order (body_pieces (xs ++ bs))) l s.emitter u.emitter) (sym all)
          (puts_joined (in_order (body_pieces xs)) (in_order (body_pieces bs)) (in_order (body_pieces (xs ++ bs))) (all_of (joined xs)) (all_of (joined bs))
          s.emitter t.emitter u.emitter (joins xs bs) p.code q.code);
    }

-- one body
pub body_alone : (body : List Instr) (s t u : Bodies) → t.starts ≡ s.starts ++ length s.emitter.ops ∷ [] → t.emitter ≡ s.emitter
    → Puts (body_piece body) (all_of body) t.emitter u.emitter → u.starts ≡ t.starts → PutsBodies (body ∷ []) s u
body_alone body s t u noted same p kept =
    let b = body_piece body in
    let q : Puts b (all_of body) s.emitter u.emitter = subst (λ e. Puts b (all_of body) e u.emitter) same p in
    record {
      starts = kept ∙ noted;
      code = subst (λ l. Puts (in_order (b ∷ [])) (all_of l) s.emitter u.emitter) (sym (append-nil body)) (puts_single b (all_of body) s.emitter u.emitter q);
    }

-- what has room for all has room for the rest behind the first
pub room_behind : (xs bs : List (List Instr)) (s t : Bodies) → HaveRoom (xs ++ bs) s → PutsBodies xs s t → HaveRoom bs t
room_behind xs bs s t room p =
    let j = joins xs bs in
    record {
      places = omega (arith, room.places, p.code.place, j.size);
      numbers = omega (arith, room.numbers, next_number (in_order (body_pieces xs)) (all_of (joined xs)) s.emitter t.emitter p.code, j.numbers);
    }

-- and for the first
pub room_before : (xs bs : List (List Instr)) (s : Bodies) → HaveRoom (xs ++ bs) s → HaveRoom xs s
room_before xs bs s room =
    let j = joins xs bs in
    record { places = omega (arith, room.places, j.size); numbers = omega (arith, room.numbers, j.numbers) }

-- Bodies that were put, one more, and those that are left.

pub room_for_body : {A : Type 0} (f : A → List Instr) (all ys rest : List A) (x : A) (s t : Bodies) → ys ++ x ∷ rest ≡ all → HaveRoom (map f all) s
    → PutsBodies (map f ys) s t → HaveRoom (f x ∷ []) t
room_for_body f all ys rest x s t is room p =
    room_before (f x ∷ []) (map f rest) t
    (room_behind (map f ys) (f x ∷ map f rest) s t (subst (λ l. HaveRoom l s) (ap (map f) (sym is) ∙ map-append f ys (x ∷ rest)) room) p)

pub puts_body_more : {A : Type 0} (f : A → List Instr) (ys : List A) (x : A) (s t u : Bodies) → PutsBodies (map f ys) s t → PutsBodies (f x ∷ []) t u
    → PutsBodies (map f (ys ++ x ∷ [])) s u
puts_body_more f ys x s t u p q = subst (λ l. PutsBodies l s u) (sym (map-append f ys (x ∷ []))) (bodies_joined (map f ys) (f x ∷ []) s t u p q)

pub mapped_more : {A B : Type 0} (f : A → B) (ys : List A) (x : A) (made more : List B) (y : B) → more ≡ made ++ y ∷ [] → made ≡ map f ys → y ≡ f x
    → more ≡ map f (ys ++ x ∷ [])
mapped_more f ys x made more y pushed is same = pushed ∙ ap (λ l. l ++ y ∷ []) is ∙ ap (λ z. map f ys ++ z ∷ []) same ∙ sym (map-append f ys (x ∷ []))
