-- Items whose instructions and parameters stand in groups and files below given numbers.
use Rattle.std.proofs.Common.{◌≡◌, ℕ, zero, suc, ◌<◌, ◌≤◌, List, [], ◌∷◌, ◌++◌, ap, map, sym, ◌∙◌, arith, codes}
use Rattle.std.proofs.Math.Path.{subst}
use Rattle.std.proofs.lemmas.Grind.{flat_map-append}
use Rattle.std.proofs.lemmas.List.Elements.{All-append, All-cons, All-nil, All-same}
use Rattle.std.specs.List.{All, flat_map}
use Rattle.stx_base.specs.declared.fault.Place.{Place}
use Rattle.stx_base.specs.declared.name.Binding.{Binding}
use Rattle.stx_base.specs.declared.part.Part.{Part}
use Rattle.sheet_model.specs.Body.{children, in_order, inner}
use Rattle.sheet_model.specs.Parts.{place as instruction_place}
use Rattle.sheet_model.specs.declared.instr.Instr.{Instr}
use Rattle.sheet_model.specs.declared.instr.Instr.TheVariants as instr
use Rattle.sheet_model.specs.declared.instr.Instr.TheOpen.{Instr-F}
use Rattle.sheet_model.specs.declared.instr.Instr.TheViews.{out-Instr, out-roll-Instr, roll-Instr, rolls-Assign, rolls-Attribute, rolls-CallProcedure, rolls-Chars, rolls-Choose, rolls-Comment, rolls-Copy, rolls-Element, rolls-EndElement, rolls-ForEachItem, rolls-If, rolls-Local, rolls-Message, rolls-Pi, rolls-ProcessAttributes, rolls-ProcessBuffer, rolls-ProcessChildren, rolls-ProcessDocument, rolls-ProcessSelf, rolls-ProcessSiblings, rolls-ResultBuffer, rolls-StartElement, rolls-ValueOf, rolls-While}
use Rattle.sheet_model.specs.declared.instr.When.{When}
use Rattle.sheet_model.specs.declared.sheet.Variable.{Variable}
use Rattle.sheet_loader.specs.Elements as element
use Rattle.sheet_loader.specs.Elements.{Kind}
use Rattle.sheet_loader.specs.Making.{Values, as_expression, as_pattern, as_template, body, branches, characters, content_in, group_in, is_yes, item, name, otherwise, params, select, template, test, value_at, with_params}
use Rattle.sheet_loader.specs.Reading.{Item, Instruction, An_if, An_else, A_local, A_branch, An_otherwise, A_param, A_value, Text, A_part}

-- in a group and a file below these numbers
abbrev pub In : (g f group : ℕ) → Place → Type 0
In g f group at = (group < g) × (at.file < f)

abbrev pub ParamsIn : (g f : ℕ) → List Variable → Type 0
ParamsIn g f vs = All (λ (v : Variable). In g f v.group v.at) vs

abbrev pub StandsBelow : ℕ → Instr → Type 0
StandsBelow f i = (instruction_place (out-Instr i)).file < f

-- the instructions of a body, and those within them, stand in a file below this number
abbrev pub BodyIn : (f : ℕ) → List Instr → Type 0
BodyIn f is = (n : ℕ) → All (StandsBelow f) (in_order n is)

abbrev pub ItemIn : (g f : ℕ) → Item → Type 0
ItemIn g f (Instruction i) = BodyIn f (i ∷ [])
ItemIn g f (An_if x is at) = (at.file < f) × BodyIn f is
ItemIn g f (An_else is) = BodyIn f is
ItemIn g f (A_local n i) = BodyIn f (i ∷ [])
ItemIn g f (A_branch w) = BodyIn f w.body
ItemIn g f (An_otherwise is) = BodyIn f is
ItemIn g f (A_param v) = In g f v.group v.at
ItemIn g f (A_value p) = Unit {0}
ItemIn g f (Text t) = Unit {0}
ItemIn g f (A_part p) = Unit {0}

abbrev pub ItemsIn : (g f : ℕ) → List Item → Type 0
ItemsIn g f [] = Unit {0}
ItemsIn g f (x ∷ items) = ItemIn g f x × ItemsIn g f items

pub none_in : (f : ℕ) → BodyIn f []
none_in f zero = All-nil (StandsBelow f)
none_in f (suc n) = All-nil (StandsBelow f)

pub both_in : (f : ℕ) (is js : List Instr) → BodyIn f is → BodyIn f js → BodyIn f (is ++ js)
both_in f is js h k zero = All-nil (StandsBelow f)
both_in f is js h k (suc n) =
    All-same (StandsBelow f) (in_order (suc n) (is ++ js)) (in_order (suc n) is ++ in_order (suc n) js) (flat_map-append (λ i. i ∷ in_order n (children i)) is js)
    (All-append (StandsBelow f) (in_order (suc n) is) (in_order (suc n) js) (h (suc n)) (k (suc n)))

pub one_in : (f : ℕ) (i : Instr) → StandsBelow f i → BodyIn f (children i) → BodyIn f (i ∷ [])
one_in f i a h zero = All-nil (StandsBelow f)
one_in f i a h (suc n) =
    All-append (StandsBelow f) (i ∷ in_order n (children i)) [] (All-cons (StandsBelow f) i (in_order n (children i)) a (h n)) (All-nil (StandsBelow f))

-- the same by its layer
pub one_by : (f : ℕ) (i : Instr) (x : Instr-F Instr When) → roll-Instr x ≡ i → (instruction_place x).file < f → BodyIn f (inner (λ (w : When). w.body) x) → BodyIn f (i ∷ [])
one_by f i x e a h =
    let o : out-Instr i ≡ x = ap out-Instr (sym e) ∙ out-roll-Instr x in
    one_in f i (subst (λ (y : Instr-F Instr When). (instruction_place y).file < f) (sym o) a)
    (subst (λ (y : Instr-F Instr When). BodyIn f (inner (λ (w : When). w.body) y)) (sym o) h)

pub params_wider : (g f h k : ℕ) (vs : List Variable) → g ≤ h → f ≤ k → ParamsIn g f vs → ParamsIn h k vs
params_wider g f h k vs l m p = λ n d i. let x = p n d i in (omega (arith, l, x.0), omega (arith, m, x.1))

pub body_wider : (f k : ℕ) (is : List Instr) → f ≤ k → BodyIn f is → BodyIn k is
body_wider f k is m b = λ n j d i. let x = b n j d i in omega (arith, m, x)

item_wider : (g f h k : ℕ) (x : Item) → g ≤ h → f ≤ k → ItemIn g f x → ItemIn h k x
item_wider g f h k (Instruction i) l m p = body_wider f k (i ∷ []) m p
item_wider g f h k (An_if x is at) l m p = (omega (arith, m, p.0), body_wider f k is m p.1)
item_wider g f h k (An_else is) l m p = body_wider f k is m p
item_wider g f h k (A_local n i) l m p = body_wider f k (i ∷ []) m p
item_wider g f h k (A_branch w) l m p = body_wider f k w.body m p
item_wider g f h k (An_otherwise is) l m p = body_wider f k is m p
item_wider g f h k (A_param v) l m p = (omega (arith, l, p.0), omega (arith, m, p.1))
item_wider g f h k (A_value v) l m p = tt
item_wider g f h k (Text t) l m p = tt
item_wider g f h k (A_part x) l m p = tt

pub items_wider : (g f h k : ℕ) (items : List Item) → g ≤ h → f ≤ k → ItemsIn g f items → ItemsIn h k items
items_wider g f h k [] l m p = tt
items_wider g f h k (x ∷ items) l m p = (item_wider g f h k x l m p.0, items_wider g f h k items l m p.1)

-- parts of a buffer's content stand in no group and no file
pub parts_items_in : (g f : ℕ) (ps : List Part) → ItemsIn g f (map A_part ps)
parts_items_in g f [] = tt
parts_items_in g f (p ∷ ps) = (tt, parts_items_in g f ps)

pub items_append : (g f : ℕ) (xs ys : List Item) → ItemsIn g f xs → ItemsIn g f ys → ItemsIn g f (xs ++ ys)
items_append g f [] ys h k = k
items_append g f (x ∷ xs) ys h k = (h.0, items_append g f xs ys h.1 k)

pub params_in : (g f : ℕ) (items : List Item) → ItemsIn g f items → ParamsIn g f (params items)
params_in g f [] h = All-nil (λ (v : Variable). In g f v.group v.at)
params_in g f (A_param v ∷ items) h = All-cons (λ (v : Variable). In g f v.group v.at) v (params items) h.0 (params_in g f items h.1)
params_in g f (Instruction i ∷ items) h = params_in g f items h.1
params_in g f (An_if x is at ∷ items) h = params_in g f items h.1
params_in g f (An_else is ∷ items) h = params_in g f items h.1
params_in g f (A_local n i ∷ items) h = params_in g f items h.1
params_in g f (A_branch w ∷ items) h = params_in g f items h.1
params_in g f (An_otherwise is ∷ items) h = params_in g f items h.1
params_in g f (A_value v ∷ items) h = params_in g f items h.1
params_in g f (Text t ∷ items) h = params_in g f items h.1
params_in g f (A_part p ∷ items) h = params_in g f items h.1

pub branches_in : (g f : ℕ) (items : List Item) → ItemsIn g f items → BodyIn f (flat_map (λ (w : When). w.body) (branches items))
branches_in g f [] h = none_in f
branches_in g f (A_branch w ∷ items) h = both_in f w.body (flat_map (λ (w : When). w.body) (branches items)) h.0 (branches_in g f items h.1)
branches_in g f (Instruction i ∷ items) h = branches_in g f items h.1
branches_in g f (An_if x is at ∷ items) h = branches_in g f items h.1
branches_in g f (An_else is ∷ items) h = branches_in g f items h.1
branches_in g f (A_local n i ∷ items) h = branches_in g f items h.1
branches_in g f (An_otherwise is ∷ items) h = branches_in g f items h.1
branches_in g f (A_param v ∷ items) h = branches_in g f items h.1
branches_in g f (A_value v ∷ items) h = branches_in g f items h.1
branches_in g f (Text t ∷ items) h = branches_in g f items h.1
branches_in g f (A_part p ∷ items) h = branches_in g f items h.1

pub otherwise_in : (g f : ℕ) (items : List Item) → ItemsIn g f items → BodyIn f (otherwise items)
otherwise_in g f [] h = none_in f
otherwise_in g f (An_otherwise is ∷ items) h = both_in f is (otherwise items) h.0 (otherwise_in g f items h.1)
otherwise_in g f (Instruction i ∷ items) h = otherwise_in g f items h.1
otherwise_in g f (An_if x is at ∷ items) h = otherwise_in g f items h.1
otherwise_in g f (An_else is ∷ items) h = otherwise_in g f items h.1
otherwise_in g f (A_local n i ∷ items) h = otherwise_in g f items h.1
otherwise_in g f (A_branch w ∷ items) h = otherwise_in g f items h.1
otherwise_in g f (A_param v ∷ items) h = otherwise_in g f items h.1
otherwise_in g f (A_value v ∷ items) h = otherwise_in g f items h.1
otherwise_in g f (Text t ∷ items) h = otherwise_in g f items h.1
otherwise_in g f (A_part p ∷ items) h = otherwise_in g f items h.1

pub body_in : (g f : ℕ) (items : List Item) → ItemsIn g f items → BodyIn f (body items)
body_in g f [] h = none_in f
body_in g f (An_if x is at ∷ []) h = one_by f (instr.If x is [] at) (Instr-F.If x is [] at) (rolls-If x is [] at) h.0.0 (both_in f is [] h.0.1 (none_in f))
body_in g f (An_if x is at ∷ An_else js ∷ items) h =
    both_in f (instr.If x is js at ∷ []) (body items) (one_by f (instr.If x is js at) (Instr-F.If x is js at) (rolls-If x is js at) h.0.0 (both_in f is js h.0.1 h.1.0)) (body_in g f items h.1.1)
body_in g f (An_if x is at ∷ Instruction i ∷ items) h = both_in f (instr.If x is [] at ∷ []) (body (Instruction i ∷ items)) (one_by f (instr.If x is [] at) (Instr-F.If x is [] at) (rolls-If x is [] at) h.0.0 (both_in f is [] h.0.1 (none_in f))) (body_in g f (Instruction i ∷ items) h.1)
body_in g f (An_if x is at ∷ An_if y js place ∷ items) h = both_in f (instr.If x is [] at ∷ []) (body (An_if y js place ∷ items)) (one_by f (instr.If x is [] at) (Instr-F.If x is [] at) (rolls-If x is [] at) h.0.0 (both_in f is [] h.0.1 (none_in f))) (body_in g f (An_if y js place ∷ items) h.1)
body_in g f (An_if x is at ∷ A_local n i ∷ items) h = both_in f (instr.If x is [] at ∷ []) (body (A_local n i ∷ items)) (one_by f (instr.If x is [] at) (Instr-F.If x is [] at) (rolls-If x is [] at) h.0.0 (both_in f is [] h.0.1 (none_in f))) (body_in g f (A_local n i ∷ items) h.1)
body_in g f (An_if x is at ∷ A_branch w ∷ items) h = both_in f (instr.If x is [] at ∷ []) (body (A_branch w ∷ items)) (one_by f (instr.If x is [] at) (Instr-F.If x is [] at) (rolls-If x is [] at) h.0.0 (both_in f is [] h.0.1 (none_in f))) (body_in g f (A_branch w ∷ items) h.1)
body_in g f (An_if x is at ∷ An_otherwise js ∷ items) h = both_in f (instr.If x is [] at ∷ []) (body (An_otherwise js ∷ items)) (one_by f (instr.If x is [] at) (Instr-F.If x is [] at) (rolls-If x is [] at) h.0.0 (both_in f is [] h.0.1 (none_in f))) (body_in g f (An_otherwise js ∷ items) h.1)
body_in g f (An_if x is at ∷ A_param v ∷ items) h = both_in f (instr.If x is [] at ∷ []) (body (A_param v ∷ items)) (one_by f (instr.If x is [] at) (Instr-F.If x is [] at) (rolls-If x is [] at) h.0.0 (both_in f is [] h.0.1 (none_in f))) (body_in g f (A_param v ∷ items) h.1)
body_in g f (An_if x is at ∷ A_value v ∷ items) h = both_in f (instr.If x is [] at ∷ []) (body (A_value v ∷ items)) (one_by f (instr.If x is [] at) (Instr-F.If x is [] at) (rolls-If x is [] at) h.0.0 (both_in f is [] h.0.1 (none_in f))) (body_in g f (A_value v ∷ items) h.1)
body_in g f (An_if x is at ∷ Text t ∷ items) h = both_in f (instr.If x is [] at ∷ []) (body (Text t ∷ items)) (one_by f (instr.If x is [] at) (Instr-F.If x is [] at) (rolls-If x is [] at) h.0.0 (both_in f is [] h.0.1 (none_in f))) (body_in g f (Text t ∷ items) h.1)
body_in g f (An_if x is at ∷ A_part p ∷ items) h = both_in f (instr.If x is [] at ∷ []) (body (A_part p ∷ items)) (one_by f (instr.If x is [] at) (Instr-F.If x is [] at) (rolls-If x is [] at) h.0.0 (both_in f is [] h.0.1 (none_in f))) (body_in g f (A_part p ∷ items) h.1)
body_in g f (Instruction i ∷ items) h = both_in f (i ∷ []) (body items) h.0 (body_in g f items h.1)
body_in g f (A_local n i ∷ items) h = both_in f (i ∷ []) (body items) h.0 (body_in g f items h.1)
body_in g f (An_else is ∷ items) h = body_in g f items h.1
body_in g f (A_branch w ∷ items) h = body_in g f items h.1
body_in g f (An_otherwise is ∷ items) h = body_in g f items h.1
body_in g f (A_param v ∷ items) h = body_in g f items h.1
body_in g f (A_value v ∷ items) h = body_in g f items h.1
body_in g f (Text t ∷ items) h = body_in g f items h.1
body_in g f (A_part p ∷ items) h = body_in g f items h.1

-- what an element comes to stands where the element and what it holds do
module _ (g f group : ℕ) (at : Place) (b : group < g) (a : at.file < f) where
  pub item_in : (kind : Kind) (scope : List Binding) (v : Values) (list : List Item) → ItemsIn g f list → ItemsIn g f (item kind group at scope v list)
  item_in element.Transform scope v list h = tt
  item_in element.Group scope v list h = tt
  item_in element.Template scope v list h = tt
  item_in element.Procedure scope v list h = tt
  item_in element.Include scope v list h = tt
  item_in element.Param scope v list h = ((b, a), tt)
  item_in element.Variable scope v list h = (one_by f (instr.Local (name v) (as_expression (value_at (codes "select") v)) at) (Instr-F.Local (name v) (as_expression (value_at (codes "select") v)) at) (rolls-Local (name v) (as_expression (value_at (codes "select") v)) at) a (none_in f), tt)
  item_in element.Buffer scope v list h = tt
  item_in element.ValueOf scope v list h = (one_by f (instr.ValueOf (select v) (as_template (value_at (codes "separator") v)) at) (Instr-F.ValueOf (select v) (as_template (value_at (codes "separator") v)) at) (rolls-ValueOf (select v) (as_template (value_at (codes "separator") v)) at) a (none_in f), tt)
  item_in element.Chars scope v list h = (one_by f (instr.Chars (characters list) at) (Instr-F.Chars (characters list) at) (rolls-Chars (characters list) at) a (none_in f), tt)
  item_in element.Copy scope v list h = (one_by f (instr.Copy (as_pattern (value_at (codes "attributes") v)) (body list) at) (Instr-F.Copy (as_pattern (value_at (codes "attributes") v)) (body list) at) (rolls-Copy (as_pattern (value_at (codes "attributes") v)) (body list) at) a (body_in g f list h), tt)
  item_in element.Element scope v list h = (one_by f (instr.Element (template (codes "name") v) (as_template (value_at (codes "namespace") v)) scope (body list) at) (Instr-F.Element (template (codes "name") v) (as_template (value_at (codes "namespace") v)) scope (body list) at) (rolls-Element (template (codes "name") v) (as_template (value_at (codes "namespace") v)) scope (body list) at) a (body_in g f list h), tt)
  item_in element.StartElement scope v list h = (one_by f (instr.StartElement (template (codes "name") v) (as_template (value_at (codes "namespace") v)) scope at) (Instr-F.StartElement (template (codes "name") v) (as_template (value_at (codes "namespace") v)) scope at) (rolls-StartElement (template (codes "name") v) (as_template (value_at (codes "namespace") v)) scope at) a (none_in f), tt)
  item_in element.EndElement scope v list h = (one_by f (instr.EndElement (template (codes "name") v) (as_template (value_at (codes "namespace") v)) scope at) (Instr-F.EndElement (template (codes "name") v) (as_template (value_at (codes "namespace") v)) scope at) (rolls-EndElement (template (codes "name") v) (as_template (value_at (codes "namespace") v)) scope at) a (none_in f), tt)
  item_in element.Attribute scope v list h = (one_by f (instr.Attribute (template (codes "name") v) (as_template (value_at (codes "namespace") v)) scope (content_in v list) at) (Instr-F.Attribute (template (codes "name") v) (as_template (value_at (codes "namespace") v)) scope (content_in v list) at) (rolls-Attribute (template (codes "name") v) (as_template (value_at (codes "namespace") v)) scope (content_in v list) at) a (none_in f), tt)
  item_in element.Comment scope v list h = (one_by f (instr.Comment (content_in v list) at) (Instr-F.Comment (content_in v list) at) (rolls-Comment (content_in v list) at) a (none_in f), tt)
  item_in element.Instruction scope v list h = (one_by f (instr.Pi (template (codes "name") v) scope (content_in v list) at) (Instr-F.Pi (template (codes "name") v) scope (content_in v list) at) (rolls-Pi (template (codes "name") v) scope (content_in v list) at) a (none_in f), tt)
  item_in element.Message scope v list h = (one_by f (instr.Message (content_in v list) at) (Instr-F.Message (content_in v list) at) (rolls-Message (content_in v list) at) a (none_in f), tt)
  item_in element.If scope v list h = ((a, body_in g f list h), tt)
  item_in element.Else scope v list h = (body_in g f list h, tt)
  item_in element.Choose scope v list h = (one_by f (instr.Choose (branches list) (otherwise list) at) (Instr-F.Choose (branches list) (otherwise list) at) (rolls-Choose (branches list) (otherwise list) at) a (both_in f (flat_map (λ (w : When). w.body) (branches list)) (otherwise list) (branches_in g f list h) (otherwise_in g f list h)), tt)
  item_in element.When scope v list h = (body_in g f list h, tt)
  item_in element.Otherwise scope v list h = (body_in g f list h, tt)
  item_in element.ForEachItem scope v list h = (one_by f (instr.ForEachItem (name v) (select v) (body list) at) (Instr-F.ForEachItem (name v) (select v) (body list) at) (rolls-ForEachItem (name v) (select v) (body list) at) a (body_in g f list h), tt)
  item_in element.While scope v list h = (one_by f (instr.While (test v) (body list) at) (Instr-F.While (test v) (body list) at) (rolls-While (test v) (body list) at) a (body_in g f list h), tt)
  item_in element.Assign scope v list h = (one_by f (instr.Assign (name v) (select v) at) (Instr-F.Assign (name v) (select v) at) (rolls-Assign (name v) (select v) at) a (none_in f), tt)
  item_in element.CallProcedure scope v list h = (one_by f (instr.CallProcedure (name v) (with_params list) at) (Instr-F.CallProcedure (name v) (with_params list) at) (rolls-CallProcedure (name v) (with_params list) at) a (none_in f), tt)
  item_in element.ProcessChildren scope v list h = (one_by f (instr.ProcessChildren (group_in v) (with_params list) at) (Instr-F.ProcessChildren (group_in v) (with_params list) at) (rolls-ProcessChildren (group_in v) (with_params list) at) a (none_in f), tt)
  item_in element.ProcessAttributes scope v list h = (one_by f (instr.ProcessAttributes (group_in v) (with_params list) at) (Instr-F.ProcessAttributes (group_in v) (with_params list) at) (rolls-ProcessAttributes (group_in v) (with_params list) at) a (none_in f), tt)
  item_in element.ProcessSelf scope v list h = (one_by f (instr.ProcessSelf (group_in v) (with_params list) at) (Instr-F.ProcessSelf (group_in v) (with_params list) at) (rolls-ProcessSelf (group_in v) (with_params list) at) a (none_in f), tt)
  item_in element.ProcessSiblings scope v list h = (one_by f (instr.ProcessSiblings (as_pattern (value_at (codes "while") v)) (as_pattern (value_at (codes "until") v)) (group_in v) (with_params list) at) (Instr-F.ProcessSiblings (as_pattern (value_at (codes "while") v)) (as_pattern (value_at (codes "until") v)) (group_in v) (with_params list) at) (rolls-ProcessSiblings (as_pattern (value_at (codes "while") v)) (as_pattern (value_at (codes "until") v)) (group_in v) (with_params list) at) a (none_in f), tt)
  item_in element.ProcessBuffer scope v list h = (one_by f (instr.ProcessBuffer (name v) (group_in v) (with_params list) at) (Instr-F.ProcessBuffer (name v) (group_in v) (with_params list) at) (rolls-ProcessBuffer (name v) (group_in v) (with_params list) at) a (none_in f), tt)
  item_in element.ProcessDocument scope v list h = (one_by f (instr.ProcessDocument (template (codes "href") v) (group_in v) (with_params list) at) (Instr-F.ProcessDocument (template (codes "href") v) (group_in v) (with_params list) at) (rolls-ProcessDocument (template (codes "href") v) (group_in v) (with_params list) at) a (none_in f), tt)
  item_in element.ResultBuffer scope v list h = (one_by f (instr.ResultBuffer (name v) (is_yes (value_at (codes "clear") v)) (body list) at) (Instr-F.ResultBuffer (name v) (is_yes (value_at (codes "clear") v)) (body list) at) (rolls-ResultBuffer (name v) (is_yes (value_at (codes "clear") v)) (body list) at) a (body_in g f list h), tt)
  item_in element.WithParam scope v list h = (tt, tt)
