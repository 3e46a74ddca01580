-- Each instruction and each list has its stations, wherever it is put.
use Rattle.std.proofs.Common.{◌≡◌, ℕ, zero, suc, ◌+◌, ◌≤◌, List, [], ◌∷◌, ◌++◌, length, map, Some, inl, inr, refl, ap, sym, subst, ◌∙◌, arith, append-nil, append_assoc, length-append}
use Rattle.std.proofs.lemmas.List.{length-map}
use Rattle.std.specs.Option.{option_map}
use Rattle.std.proofs.lemmas.Option.{slice_get-map}
use Rattle.instr_code.specs.Bare.{bare, bare_layer, bare_when}
use Rattle.instr_code.specs.Bodies.{joined}
use Rattle.instr_code.specs.Code.{code_of}
use Rattle.instr_code.specs.Emitting.{inner_layer, inner_locals, inner_of, inner_ops, listed}
use Rattle.instr_code.specs.Layout.{branches, list_piece, piece_of, pieces}
use Rattle.instr_code.specs.Piece.{Piece, dropped, in_order}
use Rattle.instr_code.specs.declared.code.Code.{Code}
use Rattle.instr_code.specs.declared.code.Op.TheVariants as op
use Rattle.instr_code.specs.declared.inner.Inner.TheVariants as inside
use Rattle.template_machine.proofs.Counting.{branches-count, list-count}
use Rattle.instr_code.proofs.Forms.{children_are, unrolled}
use Rattle.instr_code.proofs.Turns.{count_of}
use Rattle.stx_base.specs.declared.name.Name.{Name}
use Rattle.sheet_model.specs.Body.{body_nesting, instructions, nesting}
use Rattle.sheet_model.specs.declared.instr.Instr.{Instr}
use Rattle.sheet_model.specs.declared.instr.Instr.TheOpen.{Instr-F}
use Rattle.sheet_model.specs.declared.instr.Instr.TheViews.{out-Instr, out-roll-Instr}
use Rattle.sheet_model.specs.declared.instr.When.{When}
use Rattle.sheet_model.specs.declared.sheet.Sheet.{Sheet}
use Rattle.sheet_model.proofs.Nests.{body_nesting-append, nesting_is}
use Rattle.template_machine.specs.Contexts.{AreNamed, Around, AroundBuffer, AroundTag, Choice, Choices, Context, Declares, Form, HasForm, IsAt, IsRound, Items, Kind, Named, Repeats, Single, Station, Tag, Walks, behind, form, form_of, in_loop, with_kind, with_kinds, within}
use Rattle.template_machine.proofs.Laying.{Laid, is_to, laid_behind, laid_more, laid_nothing, laid_op}
use Rattle.template_machine.proofs.Places.{Numbered, numbered_first, numbered_here, numbered_inside, numbered_second}
use Rattle.template_machine.proofs.Shapes.{Any, laid_fork, laid_loop, laid_round, laid_single}
use Rattle.instr_code.proofs.Sized.{sized}

-- Locals.

abbrev pub own_kinds : Form → List Kind
own_kinds (Declares name) = Named name ∷ []
own_kinds f = []

-- the locals that a list leaves
abbrev pub kinds_of : List Instr → List Kind
kinds_of [] = []
kinds_of (i ∷ is) = own_kinds (form_of i) ++ kinds_of is

-- the context behind a list
abbrev pub after : List Instr → Context → Context
after [] c = c
after (i ∷ is) c = after is (behind (form_of i) c)

with_none : (c : Context) → c ≡ with_kinds [] c
with_none c = ap (λ l. record c { locals = l }) (sym (append-nil c.locals))

with_more : (ks js : List Kind) (c : Context) → with_kinds js (with_kinds ks c) ≡ with_kinds (ks ++ js) c
with_more ks js c = ap (λ l. record c { locals = l }) (append_assoc c.locals ks js)

behind_is : (f : Form) (c : Context) → behind f c ≡ with_kinds (own_kinds f) c
behind_is (Declares name) c = refl
behind_is f c = with_none c

pub after_is : (list : List Instr) (c : Context) → after list c ≡ with_kinds (kinds_of list) c
after_is [] c = with_none c
after_is (i ∷ is) c =
    after_is is (behind (form_of i) c) ∙ ap (with_kinds (kinds_of is)) (behind_is (form_of i) c)
    ∙ with_more (own_kinds (form_of i)) (kinds_of is) c

layer_kinds : (x : Instr-F Instr When) → inner_locals (inner_layer x) ≡ length (own_kinds (form x))
layer_kinds (Instr-F.Local name select at) = refl
layer_kinds x = refl

kinds_long : (list : List Instr) → length (kinds_of list) ≡ (in_order (pieces list)).locals
kinds_long [] = refl
kinds_long (i ∷ is) =
    let one : (piece_of i).locals ≡ length (own_kinds (form_of i)) = ap (λ (x : Piece). x.locals) (unrolled i) ∙ layer_kinds (out-Instr i) in
    omega (arith, one, length-append (own_kinds (form_of i)) (kinds_of is), kinds_long is)

-- Sizes.

dropped_long : (n m p : ℕ) → length ((dropped n).ops m p) ≡ (dropped n).size
dropped_long zero m p = refl
dropped_long (suc n) m p = refl

pub list_long : (own : ℕ) (list : List Instr) (m p : ℕ) → length ((list_piece own list).ops m p) ≡ (list_piece own list).size
list_long own list m p =
    let x = in_order (pieces list) in
    let d = dropped (x.locals + own) in
    omega (arith, length-append (x.ops m p) (d.ops (m + x.numbers) (p + x.size)), (sized list).long m p, dropped_long (x.locals + own) (m + x.numbers) (p + x.size))

pub branches_long : (i a o p : ℕ) (lists : List (List Instr)) (m q : ℕ)
    → length ((branches i a o p (map (list_piece 0) lists)).ops m q) ≡ (branches i a o p (map (list_piece 0) lists)).size
branches_long i a o p [] m q = refl
branches_long i a o p (l ∷ ls) m q =
    let b = list_piece 0 l in
    let rest = branches i (suc a) o (p + b.size + 2) (map (list_piece 0) ls) in
    let number = m + 0 + b.numbers + 0 in
    let far = q + 1 + b.size + 1 in
    omega (
      arith,
      list_long 0 l (m + 0) (q + 1),
      branches_long i (suc a) o (p + b.size + 2) ls number far,
      length-append (b.ops (m + 0) (q + 1)) (op.Jump o ∷ rest.ops number far),
    )

pub one_long : (i : Instr) (m p : ℕ) → length ((piece_of i).ops m p) ≡ (piece_of i).size
one_long i m p = omega (arith, (sized (i ∷ [])).long m p, length-append ((piece_of i).ops m p) [])

-- Forms of the instructions without what stands inside.

bare_form : (x : Instr-F Instr When) → form (bare_layer x) ≡ form x
bare_form (Instr-F.Choose whens other at) = ap Choices (length-map whens bare_when)
bare_form x = refl

form_bare : (i : Instr) → form_of (bare i) ≡ form_of i
form_bare i = ap form (out-roll-Instr (bare_layer (out-Instr i))) ∙ bare_form (out-Instr i)

pub to_number : (all list : List Instr) (m n : ℕ) → m ≡ n → Numbered all list m → Numbered all list n
to_number all list m n e s = subst (λ k. Numbered all list k) e s

module _ (sheet : Sheet) where
  abbrev code : Code
  code = code_of sheet

  has_form : (i : Instr) (m : ℕ) → Numbered (instructions sheet) (i ∷ []) m → HasForm code m (form_of i)
  has_form i m s =
      ap (option_map form_of) (slice_get-map bare (instructions sheet) m ∙ ap (option_map bare) (numbered_here (instructions sheet) i m s))
      ∙ ap (λ f. Some f) (form_bare i)

  -- they are variables
  kinds_named : (list : List Instr) (m : ℕ) → Numbered (instructions sheet) list m → AreNamed code (kinds_of list)
  kinds_named [] m numbered = tt
  kinds_named (i ∷ is) m numbered =
      of_form (form_of i) (has_form i m (numbered_first (instructions sheet) (i ∷ []) is m numbered))
      (kinds_named is (m + count_of (i ∷ [])) (numbered_second (instructions sheet) (i ∷ []) is m numbered))
    where
      of_form : (f : Form) → HasForm code m f → AreNamed code (kinds_of is) → AreNamed code (own_kinds f ++ kinds_of is)
      of_form (Declares name) has h = ((m, inl has), h)
      of_form Single has h = h
      of_form Around has h = h
      of_form AroundTag has h = h
      of_form AroundBuffer has h = h
      of_form Choice has h = h
      of_form (Choices count) has h = h
      of_form Repeats has h = h
      of_form (Walks name) has h = h

  both_named : (ks js : List Kind) → AreNamed code ks → AreNamed code js → AreNamed code (ks ++ js)
  both_named [] js h g = g
  both_named (Named name ∷ ks) js h g = (h.0, both_named ks js h.1 g)
  both_named (Items ∷ ks) js h g = absurd h
  both_named (Tag ∷ ks) js h g = absurd h

  -- lists that nest so deep at most
  abbrev pub LaidTo : ℕ → Type 0
  LaidTo n =
      (list : List Instr) (m p : ℕ) (c : Context) (low : ℕ) → body_nesting list ≤ n → Numbered (instructions sheet) list m
      → Laid code Any ((in_order (pieces list)).ops m p) p c (after list c) low

  laid_dropped : (count m p : ℕ) (c d : Context) (gone : List Kind) (low : ℕ) → c ≡ with_kinds gone d → length gone ≡ count → AreNamed code gone
      → Laid code Any ((dropped count).ops m p) p c d low
  laid_dropped zero m p c d [] low is long named = laid_nothing code Any p c d low (is ∙ sym (with_none d))
  laid_dropped zero m p c d (k ∷ ks) low is long named = absurd (omega (arith, long))
  laid_dropped (suc n) m p c d gone low is long named =
      laid_op code Any (op.Drop (suc n)) p c d low (suc low) (sym (ap (λ (x : Context). x.body) is)) (λ all a here at. (d, (gone, (is, long, (low, (at, omega arith)), named))))

  laid_list : (n own : ℕ) (list : List Instr) (m p : ℕ) (c d : Context) (ks : List Kind) (low : ℕ) → LaidTo n → body_nesting list ≤ n
      → Numbered (instructions sheet) list m → c ≡ with_kinds ks d → length ks ≡ own → AreNamed code ks
      → Laid code Any ((list_piece own list).ops m p) p c d low
  laid_list n own list m p c d ks low to deep numbered is long named =
      let x = in_order (pieces list) in
      let count = x.locals + own in
      let q = p + x.size in
      let gone : after list c ≡ with_kinds (ks ++ kinds_of list) d = after_is list c ∙ ap (with_kinds (kinds_of list)) is ∙ with_more ks (kinds_of list) d in
      let many : length (ks ++ kinds_of list) ≡ count = omega (arith, length-append ks (kinds_of list), kinds_long list, long) in
      let drop : Laid code Any ((dropped count).ops (m + x.numbers) q) q (after list c) d low =
      laid_dropped count (m + x.numbers) q (after list c) d (ks ++ kinds_of list) low gone many (both_named ks (kinds_of list) named (kinds_named list m numbered)) in
      laid_behind code Any (x.ops m p) ((dropped count).ops (m + x.numbers) q) p q c (after list c) d low drop (to list m p c drop.high deep numbered)
      (omega (arith, (sized list).long m p))

  -- a list that leaves no local
  laid_inner : (n : ℕ) (list : List Instr) (m p : ℕ) (c : Context) (low : ℕ) → LaidTo n → body_nesting list ≤ n
      → Numbered (instructions sheet) list m → Laid code Any ((list_piece 0 list).ops m p) p c c low
  laid_inner n list m p c low to deep numbered = laid_list n 0 list m p c c [] low to deep numbered (with_none c) refl tt

  round_case : (n : ℕ) (f : Form) (body : List Instr) (m p : ℕ) (c : Context) (low : ℕ) → LaidTo n → body_nesting body ≤ n → HasForm code m f
      → IsRound f → Numbered (instructions sheet) body (m + 1)
      → Laid code Any ((inner_ops (inside.Round body) m p).ops (m + 1) p) p c c low
  round_case n f body m p c low to deep has round numbered =
      let b = list_piece 0 body in
      laid_round code m p (p + b.size + 2) f c low (b.ops (m + 1 + 0) (p + 1)) has round (omega (arith, list_long 0 body (m + 1 + 0) (p + 1)))
      (laid_inner n body (m + 1 + 0) (p + 1) (within f m c) (suc low) to deep (to_number (instructions sheet) body (m + 1) (m + 1 + 0) (omega arith) numbered))

  -- branches of a choose, of which one leads on from a place
  laid_branches : (n : ℕ) (lists : List (List Instr)) (i a out place m q many : ℕ) (c : Context) (low last : ℕ) → LaidTo n
      → body_nesting (joined lists) ≤ n → place ≡ q → HasForm code i (Choices many) → a + length lists ≤ many
      → Numbered (instructions sheet) (joined lists) m
      → Laid code (λ all. IsAt all out c last) ((branches i a out place (map (list_piece 0) lists)).ops m q) q c c low
  laid_branches n [] i a out place m q many c low last to deep e has fits numbered =
      laid_nothing code (λ all. IsAt all out c last) q c c low refl
  laid_branches n (l ∷ ls) i a out place m q many c low last to deep e has fits numbered =
      let b = list_piece 0 l in
      let more = branches i (suc a) out (place + b.size + 2) (map (list_piece 0) ls) in
      let far = q + 1 + b.size + 1 in
      let number = m + 0 + b.numbers + 0 in
      let parted = body_nesting-append l (joined ls) in
      let behind_it : Numbered (instructions sheet) (joined ls) number =
      to_number (instructions sheet) (joined ls) (m + count_of l) number (omega (arith, list-count 0 l)) (numbered_second (instructions sheet) l (joined ls) m numbered) in
      let rest : Laid code (λ all. IsAt all out c last) (more.ops number far) far c c low =
      laid_branches n ls i (suc a) out (place + b.size + 2) number far many c low last to (omega (arith, parted)) (omega (arith, e)) has (omega (arith, fits)) behind_it in
      let run : Laid code Any (b.ops (m + 0) (q + 1)) (q + 1) c c (suc last) =
      laid_inner n l (m + 0) (q + 1) c (suc last) to (omega (arith, parted))
      (to_number (instructions sheet) l m (m + 0) (omega arith) (numbered_first (instructions sheet) l (joined ls) m numbered)) in
      laid_fork code (λ all. IsAt all out c last) (op.Test i a (place + b.size + 2)) (op.Jump out) q (q + 1 + b.size) far c low (suc last) (suc (run.high + rest.high))
      (b.ops (m + 0) (q + 1)) (more.ops number far) rest
      (laid_more code Any (λ all. IsAt all out c last) (b.ops (m + 0) (q + 1)) (q + 1) c c (suc last) (λ all at. tt) run)
      (omega (arith, list_long 0 l (m + 0) (q + 1))) refl
      (λ all at end. (last, (at, omega arith)))
      (λ all at here there. (
        Choices many,
        (
          has,
          (
            omega (arith, fits),
            (run.high, (here, omega arith)),
            (rest.high, (is_to all far (place + b.size + 2) c rest.high (omega (arith, e)) there, omega arith)),
          ),
        ),
      ))

  choice_case : (n : ℕ) (body other : List Instr) (m p : ℕ) (c : Context) (low : ℕ) → LaidTo n → body_nesting (body ++ other) ≤ n → HasForm code m Choice
      → Numbered (instructions sheet) (body ++ other) (m + 1)
      → Laid code Any ((inner_ops (inside.Choice body other) m p).ops (m + 1) p) p c c low
  choice_case n body other m p c low to deep has numbered =
      let b = list_piece 0 body in
      let o = list_piece 0 other in
      let parted = body_nesting-append body other in
      let far = p + 1 + b.size + 1 in
      let number = m + 1 + 0 + b.numbers + 0 in
      let end = p + b.size + 2 + o.size in
      let rest : Laid code Any (o.ops number far) far c c low =
      laid_inner n other number far c low to (omega (arith, parted))
      (to_number (instructions sheet) other (m + 1 + count_of body) number (omega (arith, list-count 0 body)) (numbered_second (instructions sheet) body other (m + 1) numbered)) in
      let run : Laid code Any (b.ops (m + 1 + 0) (p + 1)) (p + 1) c c (suc low) =
      laid_inner n body (m + 1 + 0) (p + 1) c (suc low) to (omega (arith, parted))
      (to_number (instructions sheet) body (m + 1) (m + 1 + 0) (omega arith) (numbered_first (instructions sheet) body other (m + 1) numbered)) in
      laid_fork code Any (op.Test m 0 (p + b.size + 2)) (op.Jump end) p (p + 1 + b.size) far c low (suc low) 0
      (b.ops (m + 1 + 0) (p + 1)) (o.ops number far) rest run
      (omega (arith, list_long 0 body (m + 1 + 0) (p + 1))) refl
      (λ all a at. (low, (is_to all (far + length (o.ops number far)) end c low (omega (arith, list_long 0 other number far)) at, omega arith)))
      (λ all a here there. (Choice, (has, ((run.high, here), (rest.high, is_to all far (p + b.size + 2) c rest.high (omega arith) there)))))

  choices_case : (n : ℕ) (lists : List (List Instr)) (other : List Instr) (m p : ℕ) (c : Context) (low : ℕ) → LaidTo n
      → body_nesting (joined lists ++ other) ≤ n → HasForm code m (Choices (length lists)) → Numbered (instructions sheet) (joined lists ++ other) (m + 1)
      → Laid code Any ((inner_ops (inside.Choices lists other) m p).ops (m + 1) p) p c c low
  choices_case n lists other m p c low to deep has numbered =
      let all_of_them = branches m 0 (p + 2) (p + 3) (map (list_piece 0) lists) in
      let o = list_piece 0 other in
      let parted = body_nesting-append (joined lists) other in
      let q = p + 1 + 1 + 1 in
      let first = m + 1 + 0 + 0 + 0 in
      let far = q + all_of_them.size in
      let number = first + all_of_them.numbers in
      let end = p + 3 + all_of_them.size + o.size in
      let A : List Station → Type 0 = λ all. IsAt all (p + 2) c (suc low) in
      let size : length (all_of_them.ops first q) ≡ all_of_them.size = branches_long m 0 (p + 2) (p + 3) lists first q in
      let rest : Laid code Any (o.ops number far) far c c low =
      laid_inner n other number far c low to (omega (arith, parted))
      (to_number (instructions sheet) other (m + 1 + count_of (joined lists)) number (omega (arith, branches-count m 0 (p + 2) (p + 3) lists))
      (numbered_second (instructions sheet) (joined lists) other (m + 1) numbered)) in
      let arms : Laid code A (all_of_them.ops first q) q c c rest.high =
      laid_branches n lists m 0 (p + 2) (p + 3) first q (length lists) c rest.high (suc low) to (omega (arith, parted)) (omega arith) has (omega arith)
      (to_number (instructions sheet) (joined lists) (m + 1) first (omega arith) (numbered_first (instructions sheet) (joined lists) other (m + 1) numbered)) in
      let both : Laid code A (all_of_them.ops first q ++ o.ops number far) q c c low =
      laid_behind code A (all_of_them.ops first q) (o.ops number far) q far c c c low
      (laid_more code Any A (o.ops number far) far c c low (λ all at. tt) rest) arms (omega (arith, size)) in
      record {
        high = 0;
        stations =
            record { context = c; rank = 0 } ∷ record { context = c; rank = suc both.high } ∷ record { context = c; rank = suc low } ∷ both.stations;
        long = omega (arith, both.long);
        own = (refl, (refl, (refl, both.own)));
        same = refl;
        begins = λ all a h at. h.0;
        leads = λ all a h at.
            let out : IsAt all (p + 2) c (suc low) = is_to all (p + 1 + 1) (p + 2) c (suc low) (omega arith) h.1.1.0 in
            let behind_all = is_to all (p + length (op.Begin m ∷ op.Jump (p + 3) ∷ op.Jump end ∷ (all_of_them.ops first q ++ o.ops number far)))
            (q + length (all_of_them.ops first q ++ o.ops number far)) c low (omega arith) at in
            let long = length-append (all_of_them.ops first q) (o.ops number far) in
            let exit = is_to all (q + length (all_of_them.ops first q ++ o.ops number far)) end c low (omega (arith, long, size, list_long 0 other number far)) behind_all in
            let start = is_to all q (p + 3) c both.high (omega arith) (both.begins all out h.1.1.1 behind_all) in (
              (Choices (length lists), (has, (suc both.high, h.1.0))),
              (
                (both.high, (start, omega arith)),
                (
                  (low, (exit, omega arith)),
                  both.leads all out h.1.1.1 behind_all,
                ),
              ),
            );
      }

  while_case : (n : ℕ) (body : List Instr) (m p : ℕ) (c : Context) (low : ℕ) → LaidTo n → body_nesting body ≤ n → HasForm code m Repeats
      → Numbered (instructions sheet) body (m + 1)
      → Laid code Any ((inner_ops (inside.While body) m p).ops (m + 1) p) p c c low
  while_case n body m p c low to deep has numbered =
      let b = list_piece 0 body in
      let number = m + 1 + 0 + 0 in
      let d = in_loop c in
      let run : Laid code Any (b.ops number (p + 1 + 1)) (p + 1 + 1) d d (suc (suc low)) =
      laid_inner n body number (p + 1 + 1) d (suc (suc low)) to deep (to_number (instructions sheet) body (m + 1) number (omega arith) numbered) in
      laid_loop code (op.Begin m) (op.Test m 0 (p + b.size + 3)) p (p + b.size + 3) c d d low (b.ops number (p + 1 + 1)) refl run
      (omega (arith, list_long 0 body number (p + 1 + 1)))
      (λ all at. (Repeats, (has, (suc low, at))))
      (λ all here out. (Repeats, (has, (c, (refl, (run.high, here), (low, (out, omega arith)))))))

  for_each_case : (n : ℕ) (name : Name) (body : List Instr) (m p : ℕ) (c : Context) (low : ℕ) → LaidTo n → body_nesting body ≤ n
      → HasForm code m (Walks name) → Numbered (instructions sheet) body (m + 1)
      → Laid code Any ((inner_ops (inside.ForEach body) m p).ops (m + 1) p) p c c low
  for_each_case n name body m p c low to deep has numbered =
      let b = list_piece 1 body in
      let number = m + 1 + 0 + 0 in
      let d = in_loop (with_kind Items c) in
      let e = with_kind (Named name) d in
      let run : Laid code Any (b.ops number (p + 1 + 1)) (p + 1 + 1) e d (suc (suc low)) =
      laid_list n 1 body number (p + 1 + 1) e d (Named name ∷ []) (suc (suc low)) to deep
      (to_number (instructions sheet) body (m + 1) number (omega arith) numbered) refl refl ((m, inr has), tt) in
      laid_loop code (op.Begin m) (op.Turn m (p + b.size + 3)) p (p + b.size + 3) c d e low (b.ops number (p + 1 + 1)) refl run
      (omega (arith, list_long 1 body number (p + 1 + 1)))
      (λ all at. (Walks name, (has, (suc low, at))))
      (λ all here out. (Walks name, (has, (c, (refl, (run.high, here), (low, (out, omega arith)))))))

  laid_layer : (n : ℕ) (x : Instr-F Instr When) (m p : ℕ) (c : Context) (low : ℕ) → LaidTo n → body_nesting (listed (inner_layer x)) ≤ n
      → HasForm code m (form x) → Numbered (instructions sheet) (listed (inner_layer x)) (m + 1)
      → Laid code Any ((inner_ops (inner_layer x) m p).ops (m + 1) p) p c (behind (form x) c) low
  laid_layer n (Instr-F.Copy attributes body at) m p c low to deep has numbered = round_case n Around body m p c low to deep has tt numbered
  laid_layer n (Instr-F.Literal name attrs body at) m p c low to deep has numbered = round_case n Around body m p c low to deep has tt numbered
  laid_layer n (Instr-F.Element name namespace scope body at) m p c low to deep has numbered = round_case n AroundTag body m p c low to deep has tt numbered
  laid_layer n (Instr-F.ResultBuffer name clear body at) m p c low to deep has numbered = round_case n AroundBuffer body m p c low to deep has tt numbered
  laid_layer n (Instr-F.If test body other at) m p c low to deep has numbered = choice_case n body other m p c low to deep has numbered
  laid_layer n (Instr-F.Choose whens other at) m p c low to deep has numbered =
      choices_case n (map (λ (w : When). w.body) whens) other m p c low to deep
      (subst (λ k. HasForm code m (Choices k)) (sym (length-map whens (λ (w : When). w.body))) has) numbered
  laid_layer n (Instr-F.While test body at) m p c low to deep has numbered = while_case n body m p c low to deep has numbered
  laid_layer n (Instr-F.ForEachItem name select body at) m p c low to deep has numbered = for_each_case n name body m p c low to deep has numbered
  laid_layer n (Instr-F.Local name select at) m p c low to deep has numbered = laid_single code m p (Declares name) c low has tt
  laid_layer n x m p c low to deep has numbered = laid_single code m p (form x) c low has tt

  laid_one : (n : ℕ) (i : Instr) (m p : ℕ) (c : Context) (low : ℕ) → LaidTo n → nesting i ≤ n + 1 → Numbered (instructions sheet) (i ∷ []) m
      → Laid code Any ((piece_of i).ops m p) p c (behind (form_of i) c) low
  laid_one n i m p c low to deep numbered =
      let x = inner_of i in
      let within_it : body_nesting (listed x) ≤ n = omega (arith, nesting_is i, ap body_nesting (children_are i)) in
      let inner_ones : Numbered (instructions sheet) (listed x) (m + 1) =
      subst (λ l. Numbered (instructions sheet) l (m + 1)) (children_are i) (numbered_inside (instructions sheet) i m numbered) in
      subst (λ (y : Piece). Laid code Any (y.ops m p) p c (behind (form_of i) c) low) (sym (unrolled i))
      (laid_layer n (out-Instr i) m p c low to within_it (has_form i m numbered) inner_ones)

  laid_to : (n : ℕ) → LaidTo n
  laid_to n [] m p c low deep numbered = laid_nothing code Any p c c low refl
  laid_to zero (i ∷ list) m p c low deep numbered = absurd (omega (arith, nesting_is i))
  laid_to (suc n) (i ∷ list) m p c low deep numbered =
      let x = piece_of i in
      let q = p + x.size in
      let number = m + x.numbers in
      let d = behind (form_of i) c in
      let rest : Laid code Any ((in_order (pieces list)).ops number q) q d (after list d) low =
      laid_to (suc n) list number q d low (omega arith)
      (to_number (instructions sheet) list (m + count_of (i ∷ [])) number (omega arith) (numbered_second (instructions sheet) (i ∷ []) list m numbered)) in
      laid_behind code Any (x.ops m p) ((in_order (pieces list)).ops number q) p q c d (after list d) low rest
      (laid_one n i m p c rest.high (laid_to n) (omega arith) (numbered_first (instructions sheet) (i ∷ []) list m numbered))
      (omega (arith, one_long i m p))

  -- instructions in order
  pub laid : (list : List Instr) (m p : ℕ) (c : Context) (low : ℕ) → Numbered (instructions sheet) list m
      → Laid code Any ((in_order (pieces list)).ops m p) p c (after list c) low
  laid list m p c low numbered = laid_to (body_nesting list) list m p c low (omega arith) numbered
