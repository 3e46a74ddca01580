-- What becomes of an instruction, by what stands inside it.
use Rattle.std.proofs.Common.{◌≡◌, ℕ, ◌+◌, ◌≤◌, List, [], ◌∷◌, ◌++◌, length, map, refl, ap, sym, subst, ◌∙◌, arith, append_assoc, length-append}
use Rattle.std.specs.List.{flat_map}
use Rattle.instr_code.specs.Bare.{bare}
use Rattle.instr_code.specs.Emitting.{HasRoom, Puts, inner_layer, inner_locals, inner_of, inner_ops, listed}
use Rattle.instr_code.specs.Layout.{branch, choices_ops, layer, list_piece, piece_of, pieces}
use Rattle.instr_code.specs.Piece.{Piece, in_order, instruction}
use Rattle.instr_code.specs.declared.emit.Emitter.{Emitter}
use Rattle.instr_code.specs.declared.inner.Inner.{Inner}
use Rattle.instr_code.specs.declared.inner.Inner.TheVariants as inside
use Rattle.instr_code.proofs.Pieces.{branches-numbers, branches-size}
use Rattle.sheet_model.specs.Body.{all_of, children, inner}
use Rattle.sheet_model.proofs.Searches.{all_of-single}
use Rattle.sheet_model.specs.declared.instr.Instr.{Instr}
use Rattle.sheet_model.specs.declared.instr.Instr.TheFolds.{fold-When, fold-roll-Instr, fold-roll-When}
use Rattle.sheet_model.specs.declared.instr.Instr.TheOpen.{Instr-F}
use Rattle.sheet_model.specs.declared.instr.Instr.TheViews.{out-Instr, roll-Instr, roll-out-Instr}
use Rattle.sheet_model.specs.declared.instr.When.{When}

-- the piece of an instruction by what stands inside
abbrev pub inner_piece : Inner → Piece
inner_piece x = instruction (inner_locals x) (inner_ops x)

branch_is : (w : When) → fold-When Piece Piece layer branch w ≡ list_piece 0 w.body
unfolding piece_of
branch_is w = fold-roll-When Piece Piece layer branch (record { test = w.test; body = w.body })

branches_are : (ws : List When) → map (fold-When Piece Piece layer branch) ws ≡ map (list_piece 0) (map (λ (w : When). w.body) ws)
branches_are [] = refl
branches_are (w ∷ ws) =
    ap (λ x. x ∷ map (fold-When Piece Piece layer branch) ws) (branch_is w) ∙ ap (λ xs. list_piece 0 w.body ∷ xs) (branches_are ws)

flat_bodies : (ws : List When) → flat_map (λ (w : When). w.body) ws ≡ flat_map (λ b. b) (map (λ (w : When). w.body) ws)
flat_bodies [] = refl
flat_bodies (w ∷ ws) = ap (λ l. w.body ++ l) (flat_bodies ws)

by_layer : (x : Instr-F Instr When) → piece_of (roll-Instr x) ≡ inner_piece (inner_layer x)
unfolding piece_of
by_layer (Instr-F.ValueOf select separator at) = fold-roll-Instr Piece Piece layer branch (Instr-F.ValueOf select separator at)
by_layer (Instr-F.Chars text at) = fold-roll-Instr Piece Piece layer branch (Instr-F.Chars text at)
by_layer (Instr-F.Copy attributes body at) = fold-roll-Instr Piece Piece layer branch (Instr-F.Copy attributes body at)
by_layer (Instr-F.Element name namespace scope body at) = fold-roll-Instr Piece Piece layer branch (Instr-F.Element name namespace scope body at)
by_layer (Instr-F.StartElement name namespace scope at) = fold-roll-Instr Piece Piece layer branch (Instr-F.StartElement name namespace scope at)
by_layer (Instr-F.EndElement name namespace scope at) = fold-roll-Instr Piece Piece layer branch (Instr-F.EndElement name namespace scope at)
by_layer (Instr-F.Attribute name namespace scope content at) = fold-roll-Instr Piece Piece layer branch (Instr-F.Attribute name namespace scope content at)
by_layer (Instr-F.Comment content at) = fold-roll-Instr Piece Piece layer branch (Instr-F.Comment content at)
by_layer (Instr-F.Pi name scope content at) = fold-roll-Instr Piece Piece layer branch (Instr-F.Pi name scope content at)
by_layer (Instr-F.Message content at) = fold-roll-Instr Piece Piece layer branch (Instr-F.Message content at)
by_layer (Instr-F.If test body other at) = fold-roll-Instr Piece Piece layer branch (Instr-F.If test body other at)
by_layer (Instr-F.Choose whens other at) =
    fold-roll-Instr Piece Piece layer branch (Instr-F.Choose whens other at)
    ∙ ap (λ bs. instruction 0 (choices_ops bs (list_piece 0 other))) (branches_are whens)
by_layer (Instr-F.ForEachItem name select body at) = fold-roll-Instr Piece Piece layer branch (Instr-F.ForEachItem name select body at)
by_layer (Instr-F.While test body at) = fold-roll-Instr Piece Piece layer branch (Instr-F.While test body at)
by_layer (Instr-F.Assign name select at) = fold-roll-Instr Piece Piece layer branch (Instr-F.Assign name select at)
by_layer (Instr-F.CallProcedure name params at) = fold-roll-Instr Piece Piece layer branch (Instr-F.CallProcedure name params at)
by_layer (Instr-F.ProcessChildren group params at) = fold-roll-Instr Piece Piece layer branch (Instr-F.ProcessChildren group params at)
by_layer (Instr-F.ProcessAttributes group params at) = fold-roll-Instr Piece Piece layer branch (Instr-F.ProcessAttributes group params at)
by_layer (Instr-F.ProcessSelf group params at) = fold-roll-Instr Piece Piece layer branch (Instr-F.ProcessSelf group params at)
by_layer (Instr-F.ProcessSiblings going until group params at) = fold-roll-Instr Piece Piece layer branch (Instr-F.ProcessSiblings going until group params at)
by_layer (Instr-F.ProcessBuffer name group params at) = fold-roll-Instr Piece Piece layer branch (Instr-F.ProcessBuffer name group params at)
by_layer (Instr-F.ProcessDocument href group params at) = fold-roll-Instr Piece Piece layer branch (Instr-F.ProcessDocument href group params at)
by_layer (Instr-F.ResultBuffer name clear body at) = fold-roll-Instr Piece Piece layer branch (Instr-F.ResultBuffer name clear body at)
by_layer (Instr-F.Literal name attrs body at) = fold-roll-Instr Piece Piece layer branch (Instr-F.Literal name attrs body at)
by_layer (Instr-F.LiteralChars text at) = fold-roll-Instr Piece Piece layer branch (Instr-F.LiteralChars text at)
by_layer (Instr-F.Local name select at) = fold-roll-Instr Piece Piece layer branch (Instr-F.Local name select at)

pub unrolled : (i : Instr) → piece_of i ≡ inner_piece (inner_of i)
unrolled i = ap piece_of (sym (roll-out-Instr i)) ∙ by_layer (out-Instr i)

children_by_layer : (x : Instr-F Instr When) → inner (λ w. w.body) x ≡ listed (inner_layer x)
children_by_layer (Instr-F.ValueOf select separator at) = refl
children_by_layer (Instr-F.Chars text at) = refl
children_by_layer (Instr-F.Copy attributes body at) = refl
children_by_layer (Instr-F.Element name namespace scope body at) = refl
children_by_layer (Instr-F.StartElement name namespace scope at) = refl
children_by_layer (Instr-F.EndElement name namespace scope at) = refl
children_by_layer (Instr-F.Attribute name namespace scope content at) = refl
children_by_layer (Instr-F.Comment content at) = refl
children_by_layer (Instr-F.Pi name scope content at) = refl
children_by_layer (Instr-F.Message content at) = refl
children_by_layer (Instr-F.If test body other at) = refl
children_by_layer (Instr-F.Choose whens other at) = ap (λ l. l ++ other) (flat_bodies whens)
children_by_layer (Instr-F.ForEachItem name select body at) = refl
children_by_layer (Instr-F.While test body at) = refl
children_by_layer (Instr-F.Assign name select at) = refl
children_by_layer (Instr-F.CallProcedure name params at) = refl
children_by_layer (Instr-F.ProcessChildren group params at) = refl
children_by_layer (Instr-F.ProcessAttributes group params at) = refl
children_by_layer (Instr-F.ProcessSelf group params at) = refl
children_by_layer (Instr-F.ProcessSiblings going until group params at) = refl
children_by_layer (Instr-F.ProcessBuffer name group params at) = refl
children_by_layer (Instr-F.ProcessDocument href group params at) = refl
children_by_layer (Instr-F.ResultBuffer name clear body at) = refl
children_by_layer (Instr-F.Literal name attrs body at) = refl
children_by_layer (Instr-F.LiteralChars text at) = refl
children_by_layer (Instr-F.Local name select at) = refl

pub children_are : (i : Instr) → children i ≡ listed (inner_of i)
children_are i = children_by_layer (out-Instr i)

-- sizes and numbers don't go by where an instruction stands
pub inner-size : (x : Inner) (n p : ℕ) → (inner_ops x n p).size ≡ (inner_ops x 0 0).size
inner-size inside.Nothing n p = refl
inner-size inside.Local n p = refl
inner-size (inside.Round body) n p = refl
inner-size (inside.Choice body other) n p = refl
inner-size (inside.Choices bodies other) n p =
    ap (λ k. 1 + (1 + (1 + (k + (list_piece 0 other).size)))) (branches-size n 0 0 0 (p + 2) 2 (p + 3) 3 (map (list_piece 0) bodies))
inner-size (inside.While body) n p = refl
inner-size (inside.ForEach body) n p = refl

pub inner-numbers : (x : Inner) (n p : ℕ) → (inner_ops x n p).numbers ≡ (inner_ops x 0 0).numbers
inner-numbers inside.Nothing n p = refl
inner-numbers inside.Local n p = refl
inner-numbers (inside.Round body) n p = refl
inner-numbers (inside.Choice body other) n p = refl
inner-numbers (inside.Choices bodies other) n p =
    ap (λ k. 0 + (0 + (0 + (k + (list_piece 0 other).numbers)))) (branches-numbers n 0 0 0 (p + 2) 2 (p + 3) 3 (map (list_piece 0) bodies))
inner-numbers (inside.While body) n p = refl
inner-numbers (inside.ForEach body) n p = refl

-- each instruction becomes at least as many operations as it leaves locals
inner-locals : (x : Inner) → inner_locals x ≤ (inner_ops x 0 0).size
inner-locals inside.Nothing = omega arith
inner-locals inside.Local = omega arith
inner-locals (inside.Round body) = omega arith
inner-locals (inside.Choice body other) = omega arith
inner-locals (inside.Choices bodies other) = omega arith
inner-locals (inside.While body) = omega arith
inner-locals (inside.ForEach body) = omega arith

pub piece-locals : (i : Instr) → (piece_of i).locals ≤ (piece_of i).size
piece-locals i = subst (λ (x : Piece). x.locals ≤ x.size) (sym (unrolled i)) (inner-locals (inner_of i))

pub locals_fit : (body : List Instr) → (in_order (pieces body)).locals ≤ (in_order (pieces body)).size
locals_fit [] = omega arith
locals_fit (i ∷ body) = omega (arith, piece-locals i, locals_fit body)

-- room for an instruction is room for its operations behind its number
pub room_inside : (i : Instr) (s t : Emitter) → HasRoom (piece_of i) s → t.ops ≡ s.ops → t.instrs ≡ s.instrs ++ bare i ∷ []
    → HasRoom (inner_ops (inner_of i) (length s.instrs) (length t.ops)) t
room_inside i s t room ops instrs =
    let whole : HasRoom (inner_piece (inner_of i)) s = subst (λ x. HasRoom x s) (unrolled i) room in
    let size = inner-size (inner_of i) (length s.instrs) (length t.ops) in
    let numbers = inner-numbers (inner_of i) (length s.instrs) (length t.ops) in
    let more = ap length instrs ∙ length-append s.instrs (bare i ∷ []) in
    let same = ap length ops in
    record { places = omega (arith, whole.places); numbers = omega (arith, whole.numbers) }

-- its operations, behind its number
pub puts_instruction : (i : Instr) (s t u : Emitter) → t.ops ≡ s.ops → t.instrs ≡ s.instrs ++ bare i ∷ []
    → Puts (inner_ops (inner_of i) (length s.instrs) (length t.ops)) (all_of (listed (inner_of i))) t u → Puts (piece_of i) (all_of (i ∷ [])) s u
puts_instruction i s t u ops instrs p =
    let x = inner_of i in
    let n = length s.instrs in
    let f = inner_ops x n (length t.ops) in
    let all : all_of (i ∷ []) ≡ i ∷ all_of (listed x) = all_of-single i ∙ ap (λ l. i ∷ all_of l) (children_are i) in
    let more : length t.instrs ≡ n + 1 = ap length instrs ∙ length-append s.instrs (bare i ∷ []) in
    let same : length t.ops ≡ length s.ops = ap length ops in
    let put : Puts (inner_piece x) (i ∷ all_of (listed x)) s u = record {
      ops =
          p.ops
          ∙ ap (λ l. l ++ f.ops (length t.instrs) (length t.ops)) ops
          ∙ ap (λ m. s.ops ++ f.ops m (length t.ops)) more
          ∙ ap (λ m. s.ops ++ (inner_ops x n m).ops (n + 1) m) same;
      place = omega (arith, p.place, inner-size x n (length t.ops));
      instrs =
          p.instrs ∙ ap (λ l. l ++ map bare (all_of (listed x))) instrs ∙ append_assoc s.instrs (bare i ∷ []) (map bare (all_of (listed x)));
      number = omega (arith, p.number, inner-numbers x n (length t.ops));
    } in
    subst (λ l. Puts (piece_of i) l s u) (sym all) (subst (λ y. Puts y (i ∷ all_of (listed x)) s u) (sym (unrolled i)) put)
