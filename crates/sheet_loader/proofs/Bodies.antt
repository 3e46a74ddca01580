-- Items whose instructions, and those within them, all have one property, which their layers show.
use Rattle.std.proofs.Common.{◌≡◌, ℕ, zero, suc, Bool, true, false, List, [], ◌∷◌, ◌++◌, ap, map, refl, sym, ◌∙◌, if◌then◌else◌}
use Rattle.std.proofs.Math.Path.{subst}
use Rattle.std.proofs.lemmas.Grind.{flat_map-append}
use Rattle.std.proofs.lemmas.List.Elements.{All-append, All-cons, All-head, All-nil, All-same, All-tail}
use Rattle.std.specs.List.{All, flat_map}
use Rattle.stx_base.specs.declared.fault.Place.{Place}
use Rattle.stx_base.specs.declared.part.Part.{Part}
use Rattle.stxpath_syntax.specs.declared.expr.Expr.{Expr}
use Rattle.sheet_model.specs.Body.{bodies, body_nesting, children, in_order, inner, instructions}
use Rattle.sheet_model.specs.declared.instr.Instr.{Instr}
use Rattle.sheet_model.specs.declared.instr.Instr.TheVariants as instr
use Rattle.sheet_model.specs.declared.instr.Instr.TheOpen.{Instr-F}
use Rattle.sheet_model.specs.declared.instr.Instr.TheViews.{out-Instr, out-roll-Instr, roll-Instr, rolls-If}
use Rattle.sheet_model.specs.declared.instr.When.{When}
use Rattle.sheet_model.specs.declared.instr.WithParam.{WithParam}
use Rattle.sheet_model.specs.declared.sheet.Procedure.{Procedure}
use Rattle.sheet_model.specs.declared.sheet.Sheet.{Sheet}
use Rattle.sheet_model.specs.declared.sheet.Template.{Template}
use Rattle.sheet_model.specs.declared.sheet.Variable.{Variable}
use Rattle.sheet_loader.specs.Making.{body, branches, otherwise, params, with_params}
use Rattle.sheet_loader.specs.Reading.{Item, Instruction, An_if, An_else, A_local, A_branch, An_otherwise, A_param, A_value, Text, A_part}

-- one more entry, if there is one
pub all_if : {A : Type 0} (P : A → Type 0) (b : Bool) (x : A) (xs : List A) → (b ≡ true → P x) → All P xs → All P (xs ++ (if b then x ∷ [] else []))
all_if P true x xs p h = All-append P xs (x ∷ []) h (All-cons P x [] (p refl) (All-nil P))
all_if P false x xs p h = All-append P xs [] h (All-nil P)

-- P holds of instructions, W of branches, V of parameters and H of values for them
module _ (P : Instr-F Instr When → Type 0) (W : When → Type 0) (V : Variable → Type 0) (H : WithParam → Type 0) where
  abbrev pub Is : Instr → Type 0
  Is i = P (out-Instr i)

  -- the instructions of a body, and those within them, are so
  abbrev pub BodyIs : List Instr → Type 0
  BodyIs is = (n : ℕ) → All Is (in_order n is)

  abbrev pub ItemIs : Item → Type 0
  ItemIs (Instruction i) = BodyIs (i ∷ [])
  ItemIs (An_if x is at) = ((js : List Instr) → P (Instr-F.If x is js at)) × BodyIs is
  ItemIs (An_else is) = BodyIs is
  ItemIs (A_local n i) = BodyIs (i ∷ [])
  ItemIs (A_branch w) = W w × BodyIs w.body
  ItemIs (An_otherwise is) = BodyIs is
  ItemIs (A_param v) = V v
  ItemIs (A_value p) = H p
  ItemIs (Text t) = Unit {0}
  ItemIs (A_part p) = Unit {0}

  abbrev pub ItemsAre : List Item → Type 0
  ItemsAre [] = Unit {0}
  ItemsAre (x ∷ items) = ItemIs x × ItemsAre items

  pub none_is : BodyIs []
  none_is zero = All-nil Is
  none_is (suc n) = All-nil Is

  pub both_are : (is js : List Instr) → BodyIs is → BodyIs js → BodyIs (is ++ js)
  both_are is js h k zero = All-nil Is
  both_are is js h k (suc n) =
      All-same Is (in_order (suc n) (is ++ js)) (in_order (suc n) is ++ in_order (suc n) js) (flat_map-append (λ i. i ∷ in_order n (children i)) is js)
      (All-append Is (in_order (suc n) is) (in_order (suc n) js) (h (suc n)) (k (suc n)))

  one_is : (i : Instr) → Is i → BodyIs (children i) → BodyIs (i ∷ [])
  one_is i a h zero = All-nil Is
  one_is i a h (suc n) =
      All-append Is (i ∷ in_order n (children i)) [] (All-cons Is i (in_order n (children i)) a (h n)) (All-nil Is)

  -- the same by its layer
  pub one_by : (i : Instr) (x : Instr-F Instr When) → roll-Instr x ≡ i → P x → BodyIs (inner (λ (w : When). w.body) x) → BodyIs (i ∷ [])
  one_by i x e a h =
      let o : out-Instr i ≡ x = ap out-Instr (sym e) ∙ out-roll-Instr x in
      one_is i (subst P (sym o) a) (subst (λ (y : Instr-F Instr When). BodyIs (inner (λ (w : When). w.body) y)) (sym o) h)

  -- parts of a buffer's content have no instruction
  pub parts_are : (ps : List Part) → ItemsAre (map A_part ps)
  parts_are [] = tt
  parts_are (p ∷ ps) = (tt, parts_are ps)

  pub items_append : (xs ys : List Item) → ItemsAre xs → ItemsAre ys → ItemsAre (xs ++ ys)
  items_append [] ys h k = k
  items_append (x ∷ xs) ys h k = (h.0, items_append xs ys h.1 k)

  pub params_are : (items : List Item) → ItemsAre items → All V (params items)
  params_are [] h = All-nil V
  params_are (Instruction i ∷ items) h = params_are items h.1
  params_are (An_if x is at ∷ items) h = params_are items h.1
  params_are (An_else is ∷ items) h = params_are items h.1
  params_are (A_local n i ∷ items) h = params_are items h.1
  params_are (A_branch w ∷ items) h = params_are items h.1
  params_are (An_otherwise is ∷ items) h = params_are items h.1
  params_are (A_param v ∷ items) h = All-cons V v (params items) h.0 (params_are items h.1)
  params_are (A_value v ∷ items) h = params_are items h.1
  params_are (Text t ∷ items) h = params_are items h.1
  params_are (A_part p ∷ items) h = params_are items h.1

  pub values_are : (items : List Item) → ItemsAre items → All H (with_params items)
  values_are [] h = All-nil H
  values_are (Instruction i ∷ items) h = values_are items h.1
  values_are (An_if x is at ∷ items) h = values_are items h.1
  values_are (An_else is ∷ items) h = values_are items h.1
  values_are (A_local n i ∷ items) h = values_are items h.1
  values_are (A_branch w ∷ items) h = values_are items h.1
  values_are (An_otherwise is ∷ items) h = values_are items h.1
  values_are (A_param v ∷ items) h = values_are items h.1
  values_are (A_value v ∷ items) h = All-cons H v (with_params items) h.0 (values_are items h.1)
  values_are (Text t ∷ items) h = values_are items h.1
  values_are (A_part p ∷ items) h = values_are items h.1

  pub branches_are : (items : List Item) → ItemsAre items → All W (branches items)
  branches_are [] h = All-nil W
  branches_are (Instruction i ∷ items) h = branches_are items h.1
  branches_are (An_if x is at ∷ items) h = branches_are items h.1
  branches_are (An_else is ∷ items) h = branches_are items h.1
  branches_are (A_local n i ∷ items) h = branches_are items h.1
  branches_are (A_branch w ∷ items) h = All-cons W w (branches items) h.0.0 (branches_are items h.1)
  branches_are (An_otherwise is ∷ items) h = branches_are items h.1
  branches_are (A_param v ∷ items) h = branches_are items h.1
  branches_are (A_value v ∷ items) h = branches_are items h.1
  branches_are (Text t ∷ items) h = branches_are items h.1
  branches_are (A_part p ∷ items) h = branches_are items h.1

  pub in_branches : (items : List Item) → ItemsAre items → BodyIs (flat_map (λ (w : When). w.body) (branches items))
  in_branches [] h = none_is
  in_branches (Instruction i ∷ items) h = in_branches items h.1
  in_branches (An_if x is at ∷ items) h = in_branches items h.1
  in_branches (An_else is ∷ items) h = in_branches items h.1
  in_branches (A_local n i ∷ items) h = in_branches items h.1
  in_branches (A_branch w ∷ items) h = both_are w.body (flat_map (λ (w : When). w.body) (branches items)) h.0.1 (in_branches items h.1)
  in_branches (An_otherwise is ∷ items) h = in_branches items h.1
  in_branches (A_param v ∷ items) h = in_branches items h.1
  in_branches (A_value v ∷ items) h = in_branches items h.1
  in_branches (Text t ∷ items) h = in_branches items h.1
  in_branches (A_part p ∷ items) h = in_branches items h.1

  pub in_otherwise : (items : List Item) → ItemsAre items → BodyIs (otherwise items)
  in_otherwise [] h = none_is
  in_otherwise (Instruction i ∷ items) h = in_otherwise items h.1
  in_otherwise (An_if x is at ∷ items) h = in_otherwise items h.1
  in_otherwise (An_else is ∷ items) h = in_otherwise items h.1
  in_otherwise (A_local n i ∷ items) h = in_otherwise items h.1
  in_otherwise (A_branch w ∷ items) h = in_otherwise items h.1
  in_otherwise (An_otherwise is ∷ items) h = both_are is (otherwise items) h.0 (in_otherwise items h.1)
  in_otherwise (A_param v ∷ items) h = in_otherwise items h.1
  in_otherwise (A_value v ∷ items) h = in_otherwise items h.1
  in_otherwise (Text t ∷ items) h = in_otherwise items h.1
  in_otherwise (A_part p ∷ items) h = in_otherwise items h.1

  -- an if with what its else holds
  if_is : (x : Expr) (is js : List Instr) (at : Place) → ItemIs (An_if x is at) → BodyIs js → BodyIs (instr.If x is js at ∷ [])
  if_is x is js at h k = one_by (instr.If x is js at) (Instr-F.If x is js at) (rolls-If x is js at) (h.0 js) (both_are is js h.1 k)

  pub in_body : (items : List Item) → ItemsAre items → BodyIs (body items)
  in_body [] h = none_is
  in_body (An_if x is at ∷ []) h = if_is x is [] at h.0 none_is
  in_body (An_if x is at ∷ An_else js ∷ items) h = both_are (instr.If x is js at ∷ []) (body items) (if_is x is js at h.0 h.1.0) (in_body items h.1.1)
  in_body (An_if x is at ∷ Instruction i ∷ items) h = both_are (instr.If x is [] at ∷ []) (body (Instruction i ∷ items)) (if_is x is [] at h.0 none_is) (in_body (Instruction i ∷ items) h.1)
  in_body (An_if x is at ∷ An_if y js place ∷ items) h = both_are (instr.If x is [] at ∷ []) (body (An_if y js place ∷ items)) (if_is x is [] at h.0 none_is) (in_body (An_if y js place ∷ items) h.1)
  in_body (An_if x is at ∷ A_local n i ∷ items) h = both_are (instr.If x is [] at ∷ []) (body (A_local n i ∷ items)) (if_is x is [] at h.0 none_is) (in_body (A_local n i ∷ items) h.1)
  in_body (An_if x is at ∷ A_branch w ∷ items) h = both_are (instr.If x is [] at ∷ []) (body (A_branch w ∷ items)) (if_is x is [] at h.0 none_is) (in_body (A_branch w ∷ items) h.1)
  in_body (An_if x is at ∷ An_otherwise js ∷ items) h = both_are (instr.If x is [] at ∷ []) (body (An_otherwise js ∷ items)) (if_is x is [] at h.0 none_is) (in_body (An_otherwise js ∷ items) h.1)
  in_body (An_if x is at ∷ A_param v ∷ items) h = both_are (instr.If x is [] at ∷ []) (body (A_param v ∷ items)) (if_is x is [] at h.0 none_is) (in_body (A_param v ∷ items) h.1)
  in_body (An_if x is at ∷ A_value v ∷ items) h = both_are (instr.If x is [] at ∷ []) (body (A_value v ∷ items)) (if_is x is [] at h.0 none_is) (in_body (A_value v ∷ items) h.1)
  in_body (An_if x is at ∷ Text t ∷ items) h = both_are (instr.If x is [] at ∷ []) (body (Text t ∷ items)) (if_is x is [] at h.0 none_is) (in_body (Text t ∷ items) h.1)
  in_body (An_if x is at ∷ A_part p ∷ items) h = both_are (instr.If x is [] at ∷ []) (body (A_part p ∷ items)) (if_is x is [] at h.0 none_is) (in_body (A_part p ∷ items) h.1)
  in_body (Instruction i ∷ items) h = both_are (i ∷ []) (body items) h.0 (in_body items h.1)
  in_body (A_local n i ∷ items) h = both_are (i ∷ []) (body items) h.0 (in_body items h.1)
  in_body (An_else is ∷ items) h = in_body items h.1
  in_body (A_branch w ∷ items) h = in_body items h.1
  in_body (An_otherwise is ∷ items) h = in_body items h.1
  in_body (A_param v ∷ items) h = in_body items h.1
  in_body (A_value v ∷ items) h = in_body items h.1
  in_body (Text t ∷ items) h = in_body items h.1
  in_body (A_part p ∷ items) h = in_body items h.1

  -- the bodies of templates and procedures
  pub bodies_are : {A : Type 0} (body_of : A → List Instr) (xs : List A) → All (λ (x : A). BodyIs (body_of x)) xs → BodyIs (flat_map body_of xs)
  bodies_are body_of [] h = none_is
  bodies_are {A} body_of (x ∷ xs) h =
      both_are (body_of x) (flat_map body_of xs) (All-head (λ (y : A). BodyIs (body_of y)) x xs h)
      (bodies_are body_of xs (All-tail (λ (y : A). BodyIs (body_of y)) x xs h))

  pub sheet_is : (s : Sheet) → All (λ (t : Template). BodyIs t.body) s.templates → All (λ (p : Procedure). BodyIs p.body) s.procedures → All Is (instructions s)
  sheet_is s h k =
      both_are (flat_map (λ (t : Template). t.body) s.templates) (flat_map (λ (p : Procedure). p.body) s.procedures)
      (bodies_are (λ (t : Template). t.body) s.templates h) (bodies_are (λ (p : Procedure). p.body) s.procedures k) (body_nesting (bodies s))
