-- Instructions of a sheet that is given nest no deeper than the elements of its files.
use Rattle.std.proofs.Common.{◌≡◌, ℕ, zero, suc, ◌<◌, ◌≤◌, Bool, true, false, List, [], ◌∷◌, ◌++◌, Option, Some, codes, slice_get, refl, ap, sym, ◌∙◌, map, arith, if◌then◌else◌}
use Rattle.std.proofs.Math.Nat.{max-le}
use Rattle.std.proofs.Math.Path.{subst}
use Rattle.std.proofs.lemmas.List.Elements.{All-head, All-nil, All-tail}
use Rattle.std.specs.List.{All, flat_map}
use Rattle.stx_base.specs.declared.fault.Place.{Place}
use Rattle.stx_base.specs.declared.name.Binding.{Binding}
use Rattle.stx_base.specs.declared.part.Part.{Part}
use Rattle.stxpath_syntax.specs.declared.expr.Expr.{Expr}
use Rattle.sheet_model.proofs.Nests.{body_nesting-append, nesting_is}
use Rattle.sheet_model.specs.Body.{body_nesting, children, inner, nesting, sheet_nesting}
use Rattle.sheet_model.specs.declared.instr.Instr.{Instr}
use Rattle.sheet_model.specs.declared.instr.Instr.TheVariants as instr
use Rattle.sheet_model.specs.declared.instr.Instr.TheOpen.{Instr-F}
use Rattle.sheet_model.specs.declared.instr.Instr.TheViews.{out-Instr, out-roll-Instr, roll-Instr, rolls-Assign, rolls-Attribute, rolls-CallProcedure, rolls-Chars, rolls-Choose, rolls-Comment, rolls-Copy, rolls-Element, rolls-EndElement, rolls-ForEachItem, rolls-If, rolls-Literal, rolls-LiteralChars, rolls-Local, rolls-Message, rolls-Pi, rolls-ProcessAttributes, rolls-ProcessBuffer, rolls-ProcessChildren, rolls-ProcessDocument, rolls-ProcessSelf, rolls-ProcessSiblings, rolls-ResultBuffer, rolls-StartElement, rolls-ValueOf, rolls-While}
use Rattle.sheet_model.specs.declared.instr.When.{When}
use Rattle.sheet_model.specs.declared.sheet.Procedure.{Procedure}
use Rattle.sheet_model.specs.declared.sheet.Sheet.{Sheet}
use Rattle.sheet_model.specs.declared.sheet.Template.{Template}
use Rattle.xml_events.specs.Tree.{Element, Forest}
use Rattle.sheet_loader.proofs.Bodies.{all_if}
use Rattle.sheet_loader.proofs.Came.{Came, CameWhole, at_end, copies, includes, makes, passes, speaks, writes, attrs_of, copied_items, element_made, literal_item, referring}
use Rattle.sheet_loader.specs.Elements as element
use Rattle.sheet_loader.specs.Elements.{Kind, Inside, Document, Declarations, Start_of_body, Body, Branches, With_params, Characters, Parts, Nothing, is_own, is_procedure, is_template, makes_group}
use Rattle.sheet_loader.specs.Judging.{is_declared_here, scope_at, values}
use Rattle.sheet_loader.specs.Load.{nothing}
use Rattle.sheet_loader.specs.Making.{Values, as_expression, as_pattern, as_template, body, branches, characters, content_in, group_in, is_yes, item, name, otherwise, parts, select, template, value_at, with_params}
use Rattle.sheet_loader.specs.Making as making
use Rattle.sheet_loader.specs.Read.{begun, element_parts, ended, listed, made, procedure_at, template_at, text_item, with_group, with_root}
use Rattle.sheet_loader.specs.Reading.{A_branch, A_local, A_param, A_part, A_value, An_else, An_if, An_otherwise, Context, File, Instruction, Item, Listed, Loading, Text, place}
use Rattle.sheet_loader.specs.Sounding.{IsWithin}
use Rattle.sheet_loader.specs.Values.{Reads}

-- What an item nests, where n levels may.
abbrev ItemFlat : ℕ → Item → Type 0
ItemFlat n (Instruction i) = nesting i ≤ n
ItemFlat n (An_if x is at) = body_nesting is < n
ItemFlat n (An_else is) = body_nesting is < n
ItemFlat n (A_local m i) = nesting i ≤ n
ItemFlat n (A_branch w) = body_nesting w.body < n
ItemFlat n (An_otherwise is) = body_nesting is < n
ItemFlat n (A_param v) = Unit {0}
ItemFlat n (A_value p) = Unit {0}
ItemFlat n (Text t) = Unit {0}
ItemFlat n (A_part p) = Unit {0}

abbrev ItemsFlat : ℕ → List Item → Type 0
ItemsFlat n [] = Unit {0}
ItemsFlat n (x ∷ items) = ItemFlat n x × ItemsFlat n items

flat_append : (n : ℕ) (xs ys : List Item) → ItemsFlat n xs → ItemsFlat n ys → ItemsFlat n (xs ++ ys)
flat_append n [] ys h k = k
flat_append n (x ∷ xs) ys h k = (h.0, flat_append n xs ys h.1 k)

parts_flat : (n : ℕ) (ps : List Part) → ItemsFlat n (map A_part ps)
parts_flat n [] = tt
parts_flat n (p ∷ ps) = (tt, parts_flat n ps)

both_nest : (n : ℕ) (is js : List Instr) → body_nesting is ≤ n → body_nesting js ≤ n → body_nesting (is ++ js) ≤ n
both_nest n is js h k = subst (λ m. m ≤ n) (sym (body_nesting-append is js)) (max-le h k)

first_nests : (n : ℕ) (i : Instr) (is : List Instr) → nesting i ≤ n → body_nesting is ≤ n → body_nesting (i ∷ is) ≤ n
first_nests n i is h k = max-le h k

-- by its layer
nests : (n : ℕ) (i : Instr) (x : Instr-F Instr When) → roll-Instr x ≡ i → body_nesting (inner (λ (w : When). w.body) x) < n → nesting i ≤ n
nests n i x e h =
    let o : out-Instr i ≡ x = ap out-Instr (sym e) ∙ out-roll-Instr x in
    let c : body_nesting (children i) ≡ body_nesting (inner (λ (w : When). w.body) x) = ap (λ (y : Instr-F Instr When). body_nesting (inner (λ (w : When). w.body) y)) o in
    let d = nesting_is i in
    omega (arith, c, d, h)

below_both : (n : ℕ) (is js : List Instr) → body_nesting is < n → body_nesting js < n → body_nesting (is ++ js) < n
below_both zero is js h k = absurd (omega (arith, h))
below_both (suc n) is js h k =
    let a : body_nesting is ≤ n = omega (arith, h) in
    let b : body_nesting js ≤ n = omega (arith, k) in
    let c = both_nest n is js a b in
    omega (arith, c)

branches_flat : (n : ℕ) (items : List Item) → 0 < n → ItemsFlat n items → body_nesting (flat_map (λ (w : When). w.body) (branches items)) < n
branches_flat n [] z h = z
branches_flat n (A_branch w ∷ items) z h = below_both n w.body (flat_map (λ (w : When). w.body) (branches items)) h.0 (branches_flat n items z h.1)
branches_flat n (Instruction i ∷ items) z h = branches_flat n items z h.1
branches_flat n (An_if x is at ∷ items) z h = branches_flat n items z h.1
branches_flat n (An_else is ∷ items) z h = branches_flat n items z h.1
branches_flat n (A_local m i ∷ items) z h = branches_flat n items z h.1
branches_flat n (An_otherwise is ∷ items) z h = branches_flat n items z h.1
branches_flat n (A_param v ∷ items) z h = branches_flat n items z h.1
branches_flat n (A_value v ∷ items) z h = branches_flat n items z h.1
branches_flat n (Text t ∷ items) z h = branches_flat n items z h.1
branches_flat n (A_part p ∷ items) z h = branches_flat n items z h.1

otherwise_flat : (n : ℕ) (items : List Item) → 0 < n → ItemsFlat n items → body_nesting (otherwise items) < n
otherwise_flat n [] z h = z
otherwise_flat n (An_otherwise is ∷ items) z h = below_both n is (otherwise items) h.0 (otherwise_flat n items z h.1)
otherwise_flat n (Instruction i ∷ items) z h = otherwise_flat n items z h.1
otherwise_flat n (An_if x is at ∷ items) z h = otherwise_flat n items z h.1
otherwise_flat n (An_else is ∷ items) z h = otherwise_flat n items z h.1
otherwise_flat n (A_local m i ∷ items) z h = otherwise_flat n items z h.1
otherwise_flat n (A_branch w ∷ items) z h = otherwise_flat n items z h.1
otherwise_flat n (A_param v ∷ items) z h = otherwise_flat n items z h.1
otherwise_flat n (A_value v ∷ items) z h = otherwise_flat n items z h.1
otherwise_flat n (Text t ∷ items) z h = otherwise_flat n items z h.1
otherwise_flat n (A_part p ∷ items) z h = otherwise_flat n items z h.1

if_flat : (n : ℕ) (x : Expr) (is js : List Instr) (at : Place) → body_nesting is < n → body_nesting js < n → nesting (instr.If x is js at) ≤ n
if_flat n x is js at h k = nests n (instr.If x is js at) (Instr-F.If x is js at) (rolls-If x is js at) (below_both n is js h k)

body_flat : (n : ℕ) (items : List Item) → 0 < n → ItemsFlat n items → body_nesting (body items) ≤ n
body_flat n [] z h = omega arith
body_flat n (An_if x is at ∷ []) z h = first_nests n (instr.If x is [] at) [] (if_flat n x is [] at h.0 z) (omega arith)
body_flat n (An_if x is at ∷ An_else js ∷ items) z h = first_nests n (instr.If x is js at) (body items) (if_flat n x is js at h.0 h.1.0) (body_flat n items z h.1.1)
body_flat n (An_if x is at ∷ Instruction i ∷ items) z h = first_nests n (instr.If x is [] at) (body (Instruction i ∷ items)) (if_flat n x is [] at h.0 z) (body_flat n (Instruction i ∷ items) z h.1)
body_flat n (An_if x is at ∷ An_if y js place ∷ items) z h = first_nests n (instr.If x is [] at) (body (An_if y js place ∷ items)) (if_flat n x is [] at h.0 z) (body_flat n (An_if y js place ∷ items) z h.1)
body_flat n (An_if x is at ∷ A_local m i ∷ items) z h = first_nests n (instr.If x is [] at) (body (A_local m i ∷ items)) (if_flat n x is [] at h.0 z) (body_flat n (A_local m i ∷ items) z h.1)
body_flat n (An_if x is at ∷ A_branch w ∷ items) z h = first_nests n (instr.If x is [] at) (body (A_branch w ∷ items)) (if_flat n x is [] at h.0 z) (body_flat n (A_branch w ∷ items) z h.1)
body_flat n (An_if x is at ∷ An_otherwise js ∷ items) z h = first_nests n (instr.If x is [] at) (body (An_otherwise js ∷ items)) (if_flat n x is [] at h.0 z) (body_flat n (An_otherwise js ∷ items) z h.1)
body_flat n (An_if x is at ∷ A_param v ∷ items) z h = first_nests n (instr.If x is [] at) (body (A_param v ∷ items)) (if_flat n x is [] at h.0 z) (body_flat n (A_param v ∷ items) z h.1)
body_flat n (An_if x is at ∷ A_value v ∷ items) z h = first_nests n (instr.If x is [] at) (body (A_value v ∷ items)) (if_flat n x is [] at h.0 z) (body_flat n (A_value v ∷ items) z h.1)
body_flat n (An_if x is at ∷ Text t ∷ items) z h = first_nests n (instr.If x is [] at) (body (Text t ∷ items)) (if_flat n x is [] at h.0 z) (body_flat n (Text t ∷ items) z h.1)
body_flat n (An_if x is at ∷ A_part p ∷ items) z h = first_nests n (instr.If x is [] at) (body (A_part p ∷ items)) (if_flat n x is [] at h.0 z) (body_flat n (A_part p ∷ items) z h.1)
body_flat n (Instruction i ∷ items) z h = first_nests n i (body items) h.0 (body_flat n items z h.1)
body_flat n (A_local m i ∷ items) z h = first_nests n i (body items) h.0 (body_flat n items z h.1)
body_flat n (An_else is ∷ items) z h = body_flat n items z h.1
body_flat n (A_branch w ∷ items) z h = body_flat n items z h.1
body_flat n (An_otherwise is ∷ items) z h = body_flat n items z h.1
body_flat n (A_param v ∷ items) z h = body_flat n items z h.1
body_flat n (A_value v ∷ items) z h = body_flat n items z h.1
body_flat n (Text t ∷ items) z h = body_flat n items z h.1
body_flat n (A_part p ∷ items) z h = body_flat n items z h.1

-- An element comes to no more than what stands in it and itself.
module _ (n group : ℕ) (at : Place) (scope : List Binding) (v : Values) (list : List Item) (h : ItemsFlat (suc n) list) where
  lone : (i : Instr) (x : Instr-F Instr When) → roll-Instr x ≡ i → body_nesting (inner (λ (w : When). w.body) x) < suc (suc n) → ItemsFlat (suc (suc n)) (Instruction i ∷ [])
  lone i x e b = (nests (suc (suc n)) i x e b, tt)

  nothing_in : 0 < suc (suc n)
  nothing_in = omega arith

  some : 0 < suc n
  some = omega arith

  inside : body_nesting (body list) < suc (suc n)
  inside = let b = body_flat (suc n) list some h in omega (arith, b)

  choice : body_nesting (flat_map (λ (w : When). w.body) (branches list) ++ otherwise list) < suc (suc n)
  choice =
      let c = below_both (suc n) (flat_map (λ (w : When). w.body) (branches list)) (otherwise list) (branches_flat (suc n) list some h) (otherwise_flat (suc n) list some h) in
      omega (arith, c)

  item_flat : (kind : Kind) → ItemsFlat (suc (suc n)) (item kind group at scope v list)
  item_flat element.Transform = tt
  item_flat element.Group = tt
  item_flat element.Template = tt
  item_flat element.Procedure = tt
  item_flat element.Include = tt
  item_flat element.Buffer = tt
  item_flat element.Param = (tt, tt)
  item_flat element.Variable = lone (instr.Local (name v) (as_expression (value_at (codes "select") v)) at) (Instr-F.Local (name v) (as_expression (value_at (codes "select") v)) at) (rolls-Local (name v) (as_expression (value_at (codes "select") v)) at) nothing_in
  item_flat element.ValueOf = lone (instr.ValueOf (select v) (as_template (value_at (codes "separator") v)) at) (Instr-F.ValueOf (select v) (as_template (value_at (codes "separator") v)) at) (rolls-ValueOf (select v) (as_template (value_at (codes "separator") v)) at) nothing_in
  item_flat element.Chars = lone (instr.Chars (characters list) at) (Instr-F.Chars (characters list) at) (rolls-Chars (characters list) at) nothing_in
  item_flat element.Copy = lone (instr.Copy (as_pattern (value_at (codes "attributes") v)) (body list) at) (Instr-F.Copy (as_pattern (value_at (codes "attributes") v)) (body list) at) (rolls-Copy (as_pattern (value_at (codes "attributes") v)) (body list) at) inside
  item_flat element.Element = lone (instr.Element (template (codes "name") v) (as_template (value_at (codes "namespace") v)) scope (body list) at) (Instr-F.Element (template (codes "name") v) (as_template (value_at (codes "namespace") v)) scope (body list) at) (rolls-Element (template (codes "name") v) (as_template (value_at (codes "namespace") v)) scope (body list) at) inside
  item_flat element.StartElement = lone (instr.StartElement (template (codes "name") v) (as_template (value_at (codes "namespace") v)) scope at) (Instr-F.StartElement (template (codes "name") v) (as_template (value_at (codes "namespace") v)) scope at) (rolls-StartElement (template (codes "name") v) (as_template (value_at (codes "namespace") v)) scope at) nothing_in
  item_flat element.EndElement = lone (instr.EndElement (template (codes "name") v) (as_template (value_at (codes "namespace") v)) scope at) (Instr-F.EndElement (template (codes "name") v) (as_template (value_at (codes "namespace") v)) scope at) (rolls-EndElement (template (codes "name") v) (as_template (value_at (codes "namespace") v)) scope at) nothing_in
  item_flat element.Attribute = lone (instr.Attribute (template (codes "name") v) (as_template (value_at (codes "namespace") v)) scope (content_in v list) at) (Instr-F.Attribute (template (codes "name") v) (as_template (value_at (codes "namespace") v)) scope (content_in v list) at) (rolls-Attribute (template (codes "name") v) (as_template (value_at (codes "namespace") v)) scope (content_in v list) at) nothing_in
  item_flat element.Comment = lone (instr.Comment (content_in v list) at) (Instr-F.Comment (content_in v list) at) (rolls-Comment (content_in v list) at) nothing_in
  item_flat element.Instruction = lone (instr.Pi (template (codes "name") v) scope (content_in v list) at) (Instr-F.Pi (template (codes "name") v) scope (content_in v list) at) (rolls-Pi (template (codes "name") v) scope (content_in v list) at) nothing_in
  item_flat element.Message = lone (instr.Message (content_in v list) at) (Instr-F.Message (content_in v list) at) (rolls-Message (content_in v list) at) nothing_in
  item_flat element.If = (inside, tt)
  item_flat element.Else = (inside, tt)
  item_flat element.Choose = lone (instr.Choose (branches list) (otherwise list) at) (Instr-F.Choose (branches list) (otherwise list) at) (rolls-Choose (branches list) (otherwise list) at) choice
  item_flat element.When = (inside, tt)
  item_flat element.Otherwise = (inside, tt)
  item_flat element.ForEachItem = lone (instr.ForEachItem (name v) (select v) (body list) at) (Instr-F.ForEachItem (name v) (select v) (body list) at) (rolls-ForEachItem (name v) (select v) (body list) at) inside
  item_flat element.While = lone (instr.While (making.test v) (body list) at) (Instr-F.While (making.test v) (body list) at) (rolls-While (making.test v) (body list) at) inside
  item_flat element.Assign = lone (instr.Assign (name v) (select v) at) (Instr-F.Assign (name v) (select v) at) (rolls-Assign (name v) (select v) at) nothing_in
  item_flat element.CallProcedure = lone (instr.CallProcedure (name v) (with_params list) at) (Instr-F.CallProcedure (name v) (with_params list) at) (rolls-CallProcedure (name v) (with_params list) at) nothing_in
  item_flat element.ProcessChildren = lone (instr.ProcessChildren (group_in v) (with_params list) at) (Instr-F.ProcessChildren (group_in v) (with_params list) at) (rolls-ProcessChildren (group_in v) (with_params list) at) nothing_in
  item_flat element.ProcessAttributes = lone (instr.ProcessAttributes (group_in v) (with_params list) at) (Instr-F.ProcessAttributes (group_in v) (with_params list) at) (rolls-ProcessAttributes (group_in v) (with_params list) at) nothing_in
  item_flat element.ProcessSelf = lone (instr.ProcessSelf (group_in v) (with_params list) at) (Instr-F.ProcessSelf (group_in v) (with_params list) at) (rolls-ProcessSelf (group_in v) (with_params list) at) nothing_in
  item_flat element.ProcessSiblings = lone (instr.ProcessSiblings (as_pattern (value_at (codes "while") v)) (as_pattern (value_at (codes "until") v)) (group_in v) (with_params list) at) (Instr-F.ProcessSiblings (as_pattern (value_at (codes "while") v)) (as_pattern (value_at (codes "until") v)) (group_in v) (with_params list) at) (rolls-ProcessSiblings (as_pattern (value_at (codes "while") v)) (as_pattern (value_at (codes "until") v)) (group_in v) (with_params list) at) nothing_in
  item_flat element.ProcessBuffer = lone (instr.ProcessBuffer (name v) (group_in v) (with_params list) at) (Instr-F.ProcessBuffer (name v) (group_in v) (with_params list) at) (rolls-ProcessBuffer (name v) (group_in v) (with_params list) at) nothing_in
  item_flat element.ProcessDocument = lone (instr.ProcessDocument (template (codes "href") v) (group_in v) (with_params list) at) (Instr-F.ProcessDocument (template (codes "href") v) (group_in v) (with_params list) at) (rolls-ProcessDocument (template (codes "href") v) (group_in v) (with_params list) at) nothing_in
  item_flat element.ResultBuffer = lone (instr.ResultBuffer (name v) (is_yes (value_at (codes "clear") v)) (body list) at) (Instr-F.ResultBuffer (name v) (is_yes (value_at (codes "clear") v)) (body list) at) (rolls-ResultBuffer (name v) (is_yes (value_at (codes "clear") v)) (body list) at) inside
  item_flat element.WithParam = (tt, tt)

-- the bodies of the sheet
record AreFlat (most : ℕ) (ts : List Template) (ps : List Procedure) : Type 0 where
  templates : All (λ (t : Template). body_nesting t.body ≤ most) ts
  procedures : All (λ (p : Procedure). body_nesting p.body ≤ most) ps

abbrev IsFlatBelow : ℕ → Sheet → Type 0
IsFlatBelow most s = AreFlat most s.templates s.procedures

begun_flat : (most : ℕ) (here : Context) (at : ℕ) (kind : Kind) (v : Values) (l : Loading) → IsFlatBelow most l.sheet → IsFlatBelow most (begun here at kind v l).sheet
begun_flat most here at kind v l h = by (is_own here.inside) (makes_group kind) where
  by : (b c : Bool) → IsFlatBelow most (if b then with_root here at v l else if c then with_group here at v l else l).sheet
  by true c = h
  by false true = h
  by false false = h

made_flat : (most n : ℕ) (here : Context) (at : ℕ) (kind : Kind) (scope : List Binding) (v : Values) (r : Listed) → suc n ≤ most → IsFlatBelow most r.loading.sheet → ItemsFlat (suc n) r.items
    → IsFlatBelow most (made here at kind scope v r).loading.sheet × ItemsFlat (suc (suc n)) (made here at kind scope v r).items
made_flat most n here at kind scope v r m h k = by (is_declared_here here.inside) where
  flat : body_nesting (body r.items) ≤ most
  flat = let b = body_flat (suc n) r.items (omega arith) k in omega (arith, b, m)

  by : (b : Bool) → IsFlatBelow most (if b then listed [] (ended here at kind v r) else listed (item kind here.group (place here at) scope v r.items) r.loading).loading.sheet × ItemsFlat (suc (suc n)) (if b then listed [] (ended here at kind v r) else listed (item kind here.group (place here at) scope v r.items) r.loading).items
  by true = (
    record {
      templates = all_if (λ (t : Template). body_nesting t.body ≤ most) (is_template kind) (template_at here at v r.items) r.loading.sheet.templates (λ e. flat) h.templates;
      procedures = all_if (λ (p : Procedure). body_nesting p.body ≤ most) (is_procedure kind) (procedure_at here at v r.items) r.loading.sheet.procedures (λ e. flat) h.procedures;
    },
    tt,
  )
  by false = (h, item_flat n here.group (place here at) scope v r.items k kind)

text_flat : (reads : Reads) (files : List (Option File)) (n : ℕ) (here : Context) (offset : ℕ) (said : List ℕ) (list : Inside) → ItemsFlat (suc n) (text_item reads files here offset said list)
text_flat reads files n here offset said (Document b) = (nests (suc n) (instr.LiteralChars said (place here offset)) (Instr-F.LiteralChars said (place here offset)) (rolls-LiteralChars said (place here offset)) (omega arith), tt)
text_flat reads files n here offset said (Declarations b) = (nests (suc n) (instr.LiteralChars said (place here offset)) (Instr-F.LiteralChars said (place here offset)) (rolls-LiteralChars said (place here offset)) (omega arith), tt)
text_flat reads files n here offset said Start_of_body = (nests (suc n) (instr.LiteralChars said (place here offset)) (Instr-F.LiteralChars said (place here offset)) (rolls-LiteralChars said (place here offset)) (omega arith), tt)
text_flat reads files n here offset said Body = (nests (suc n) (instr.LiteralChars said (place here offset)) (Instr-F.LiteralChars said (place here offset)) (rolls-LiteralChars said (place here offset)) (omega arith), tt)
text_flat reads files n here offset said Branches = (nests (suc n) (instr.LiteralChars said (place here offset)) (Instr-F.LiteralChars said (place here offset)) (rolls-LiteralChars said (place here offset)) (omega arith), tt)
text_flat reads files n here offset said With_params = (nests (suc n) (instr.LiteralChars said (place here offset)) (Instr-F.LiteralChars said (place here offset)) (rolls-LiteralChars said (place here offset)) (omega arith), tt)
text_flat reads files n here offset said Nothing = (nests (suc n) (instr.LiteralChars said (place here offset)) (Instr-F.LiteralChars said (place here offset)) (rolls-LiteralChars said (place here offset)) (omega arith), tt)
text_flat reads files n here offset said (Characters b) = (tt, tt)
text_flat reads files n here offset said Parts = (tt, tt)

literal_flat : (reads : Reads) (files : List (Option File)) (n : ℕ) (here : Context) (e : Element) (items : List Item) → ItemsFlat (suc n) items → ItemsFlat (suc (suc n)) (literal_item reads files here e items)
literal_flat reads files n here e items h =
    let attrs = attrs_of reads files here e in
    let b = body_flat (suc n) items (omega arith) h in
    (nests (suc (suc n)) (instr.Literal e.name attrs (body items) (place here e.offset)) (Instr-F.Literal e.name attrs (body items) (place here e.offset)) (rolls-Literal e.name attrs (body items) (place here e.offset)) (omega (arith, b)), tt)

-- in each file that is there elements nest no deeper
abbrev pub AllWithin : ℕ → List (Option File) → Type 0
AllWithin most files = (n : ℕ) (file : File) → slice_get files n ≡ Some (Some file) → IsWithin most file.nodes

module _ (reads : Reads) (files : List (Option File)) (most : ℕ) (all : AllWithin most files) where
  -- d levels of elements may stand in the list
  came_flat : {here : Context} {before : List Item} {list : Forest} {l : Loading} {r : Listed} → Came reads files here before list l r
      → (d : ℕ) → d ≤ most → IsWithin d list → IsFlatBelow most l.sheet → ItemsFlat (suc d) before → IsFlatBelow most r.loading.sheet × ItemsFlat (suc d) r.items
  came_flat (at_end here before mark offset l) d m w h k = (h, k)
  came_flat (passes here before mark leaf next l r c) d m w h k = came_flat c d m w h k
  came_flat (speaks here before mark leaf offset said next l r s a c) d m w h k =
      came_flat c d m w h (flat_append (suc d) before (text_item reads files here offset said here.inside) k (text_flat reads files d here offset said here.inside))
  came_flat (makes here before stage e kids next l kind inner r f i c q n) zero m w h k = absurd w
  came_flat (makes here before stage e kids next l kind inner r f i c q n) (suc d) m w h k =
      let v = values reads here kind e in
      let o = came_flat c d (omega (arith, m)) w.0 (begun_flat most here e.offset kind v (referring reads files here before e kind l) h) tt in
      let t = made_flat most d here e.offset kind (scope_at here e) v inner m o.0 o.1 in
      came_flat n (suc d) m w.1 t.0 (flat_append (suc (suc d)) before (element_made reads files here e kind inner).items k t.1)
  came_flat (includes here before stage e kids next l kind file p inner r f i g b c q n) zero m w h k = absurd w
  came_flat (includes here before stage e kids next l kind file p inner r f i g b c q n) (suc d) m w h k =
      let v = values reads here kind e in
      let y = came_flat b most (omega arith) (all _ file g) (begun_flat most here e.offset kind v (referring reads files here before e kind l) h) tt in
      let o = came_flat c d (omega (arith, m)) w.0 y.0 tt in
      let t = made_flat most d here e.offset kind (scope_at here e) v inner m o.0 o.1 in
      came_flat n (suc d) m w.1 t.0 (flat_append (suc (suc d)) before (element_made reads files here e kind inner).items k t.1)
  came_flat (writes here before stage e kids next l inner r a q p c n) zero m w h k = absurd w
  came_flat (writes here before stage e kids next l inner r a q p c n) (suc d) m w h k =
      let o = came_flat c d (omega (arith, m)) w.0 h tt in
      came_flat n (suc d) m w.1 o.0 (flat_append (suc (suc d)) before (literal_item reads files here e inner.items) k (literal_flat reads files d here e inner.items o.1))
  came_flat (copies here before stage e kids next l inner r i c n) zero m w h k = absurd w
  came_flat (copies here before stage e kids next l inner r i c n) (suc d) m w h k =
      let o = came_flat c d (omega (arith, m)) w.0 h tt in
      came_flat n (suc d) m w.1 o.0 (flat_append (suc (suc d)) before (copied_items reads files e inner.items) k (parts_flat (suc (suc d)) (element_parts reads files e (parts inner.items))))

all_nest : {A : Type 0} (most : ℕ) (body_of : A → List Instr) (xs : List A) → All (λ (x : A). body_nesting (body_of x) ≤ most) xs → body_nesting (flat_map body_of xs) ≤ most
all_nest most body_of [] h = omega arith
all_nest {A} most body_of (x ∷ xs) h =
    both_nest most (body_of x) (flat_map body_of xs) (All-head (λ (y : A). body_nesting (body_of y) ≤ most) x xs h)
    (all_nest most body_of xs (All-tail (λ (y : A). body_nesting (body_of y) ≤ most) x xs h))

pub whole_flat : (reads : Reads) (name : List ℕ) (file : File) (others : List (Option File)) (most : ℕ) (r : Listed) → AllWithin most (Some file ∷ others)
    → CameWhole reads (Some file ∷ others) name file r → sheet_nesting r.loading.sheet ≤ most
whole_flat reads name file others most r all c =
    let none : IsFlatBelow most (nothing name).sheet = record {
      templates = All-nil (λ (t : Template). body_nesting t.body ≤ most);
      procedures = All-nil (λ (p : Procedure). body_nesting p.body ≤ most);
    } in
    let f = (came_flat reads (Some file ∷ others) most all c.0 most (omega arith) (all 0 file refl) none tt).0 in
    both_nest most (flat_map (λ (t : Template). t.body) r.loading.sheet.templates) (flat_map (λ (p : Procedure). p.body) r.loading.sheet.procedures)
    (all_nest most (λ (t : Template). t.body) r.loading.sheet.templates f.templates) (all_nest most (λ (p : Procedure). p.body) r.loading.sheet.procedures f.procedures)
