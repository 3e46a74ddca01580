-- Bodies all of whose instructions are in order, also within one another.
use Rattle.std.proofs.Common.{◌≡◌, ℕ, zero, suc, List, [], ◌∷◌, ◌++◌, map, Some, subst}
use Rattle.std.specs.Prelude.{All, slice_get}
use Rattle.std.specs.List.{flat_map}
use Rattle.std.proofs.lemmas.List.Elements.{All-cons, All-head, All-nil, All-tail}
use Rattle.instr_code.specs.Bare.{bare, bare_layer}
use Rattle.instr_code.specs.Code.{code_of}
use Rattle.sheet_model.specs.Body.{all_of, bodies, children, instructions}
use Rattle.sheet_model.specs.Laws.{KeepsOrder}
use Rattle.sheet_model.specs.declared.instr.Instr.{Instr}
use Rattle.sheet_model.specs.declared.instr.Instr.TheOpen.{Instr-F}
use Rattle.sheet_model.specs.declared.instr.Instr.TheViews.{out-Instr, out-roll-Instr}
use Rattle.sheet_model.specs.declared.instr.When.{When}
use Rattle.sheet_model.specs.declared.sheet.Procedure.{Procedure}
use Rattle.sheet_model.specs.declared.sheet.Sheet.{Sheet}
use Rattle.sheet_model.specs.declared.sheet.Template.{Template}
use Rattle.template_machine.specs.Ordinary.{InOrder, IsOrdinary, StaysInOrder}

-- all instructions of a body, and those within them
abbrev pub AreOrdered : List Instr → Type 0
AreOrdered is = All InOrder (all_of is)

module _ {X : Type 0} (P : X → Type 0) where
  all_parts : (xs ys : List X) → All P (xs ++ ys) → All P xs × All P ys
  all_parts [] ys h = (All-nil P, h)
  all_parts (x ∷ xs) ys h =
      let both = all_parts xs ys (All-tail P x (xs ++ ys) h) in (All-cons P x xs (All-head P x (xs ++ ys) h) both.0, both.1)

-- an instruction is in order where it is without what stands within it
layer_in_order : (x : Instr-F Instr When) → StaysInOrder (bare_layer x) → StaysInOrder x
layer_in_order (Instr-F.ProcessSiblings going until group params at) h = h
layer_in_order (Instr-F.ProcessBuffer name group params at) h = h
layer_in_order (Instr-F.ProcessDocument href group params at) h = h
layer_in_order (Instr-F.ResultBuffer name clear body at) h = h
layer_in_order (Instr-F.ValueOf select separator at) h = tt
layer_in_order (Instr-F.Chars text at) h = tt
layer_in_order (Instr-F.Copy attributes body at) h = tt
layer_in_order (Instr-F.Element name namespace scope body at) h = tt
layer_in_order (Instr-F.StartElement name namespace scope at) h = tt
layer_in_order (Instr-F.EndElement name namespace scope at) h = tt
layer_in_order (Instr-F.Attribute name namespace scope content at) h = tt
layer_in_order (Instr-F.Comment content at) h = tt
layer_in_order (Instr-F.Pi name scope content at) h = tt
layer_in_order (Instr-F.Message content at) h = tt
layer_in_order (Instr-F.If test body other at) h = tt
layer_in_order (Instr-F.Choose whens other at) h = tt
layer_in_order (Instr-F.ForEachItem name select body at) h = tt
layer_in_order (Instr-F.While test body at) h = tt
layer_in_order (Instr-F.Assign name select at) h = tt
layer_in_order (Instr-F.CallProcedure name params at) h = tt
layer_in_order (Instr-F.ProcessChildren group params at) h = tt
layer_in_order (Instr-F.ProcessAttributes group params at) h = tt
layer_in_order (Instr-F.ProcessSelf group params at) h = tt
layer_in_order (Instr-F.Literal name attrs body at) h = tt
layer_in_order (Instr-F.LiteralChars text at) h = tt
layer_in_order (Instr-F.Local name select at) h = tt

all_in_order : (is : List Instr) → All InOrder (map bare is) → All InOrder is
all_in_order [] h = All-nil InOrder
all_in_order (i ∷ is) h =
    let first = subst StaysInOrder (out-roll-Instr (bare_layer (out-Instr i))) (All-head InOrder (bare i) (map bare is) h) in
    All-cons InOrder i is (layer_in_order (out-Instr i) first) (all_in_order is (All-tail InOrder (bare i) (map bare is) h))

-- the bodies of an ordinary sheet
pub sheet_ordered : (sheet : Sheet) → IsOrdinary (code_of sheet) → AreOrdered (bodies sheet)
sheet_ordered sheet h = all_in_order (instructions sheet) h

module _ (order : KeepsOrder) where
  pub ordered_parts : (is js : List Instr) → AreOrdered (is ++ js) → AreOrdered is × AreOrdered js
  ordered_parts is js h = all_parts InOrder (all_of is) (all_of js) (subst (All InOrder) (order.0 is js) h)

  -- the first instruction, what stands within it, and the others
  pub ordered_first : (i : Instr) (is : List Instr) → AreOrdered (i ∷ is) → InOrder i × (AreOrdered (children i) × AreOrdered is)
  ordered_first i is h =
      let both = ordered_parts (i ∷ []) is h in
      let one = subst (All InOrder) (order.1 i) both.0 in
      (All-head InOrder i (all_of (children i)) one, (All-tail InOrder i (all_of (children i)) one, both.1))

  module _ {X : Type 0} (body : X → List Instr) where
    -- the body of each of several
    pub ordered_at : (xs : List X) (n : ℕ) (x : X) → slice_get xs n ≡ Some x → AreOrdered (flat_map body xs) → AreOrdered (body x)
    ordered_at [] n x is h = cc
    ordered_at (y ∷ ys) zero x is h = let same : y ≡ x = cc in subst (λ z. AreOrdered (body z)) same (ordered_parts (body y) (flat_map body ys) h).0
    ordered_at (y ∷ ys) (suc n) x is h = ordered_at ys n x is (ordered_parts (body y) (flat_map body ys) h).1

  pub template_ordered : (sheet : Sheet) (n : ℕ) (t : Template) → slice_get sheet.templates n ≡ Some t → AreOrdered (bodies sheet) → AreOrdered t.body
  template_ordered sheet n t is h =
      let both = ordered_parts (flat_map (λ (t : Template). t.body) sheet.templates) (flat_map (λ (p : Procedure). p.body) sheet.procedures) h in
      ordered_at (λ (t : Template). t.body) sheet.templates n t is both.0

  pub procedure_ordered : (sheet : Sheet) (n : ℕ) (p : Procedure) → slice_get sheet.procedures n ≡ Some p → AreOrdered (bodies sheet) → AreOrdered p.body
  procedure_ordered sheet n p is h =
      let both = ordered_parts (flat_map (λ (t : Template). t.body) sheet.templates) (flat_map (λ (p : Procedure). p.body) sheet.procedures) h in
      ordered_at (λ (p : Procedure). p.body) sheet.procedures n p is both.1
