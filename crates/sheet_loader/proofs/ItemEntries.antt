-- What bodies and items count, and that what an element comes to counts little more than what stands in it.
use Rattle.std.proofs.Common.{◌≡◌, ℕ, ◌+◌, ◌*◌, ◌≤◌, List, [], ◌∷◌, ◌++◌, Option, Some, None, codes, length, map, refl, ap, sym, ◌∙◌, arith, sum_by}
use Rattle.std.proofs.lemmas.List.{length-append}
use Rattle.std.proofs.lemmas.List.Sums.{sum_by-append, sum_by-cons}
use Rattle.std.specs.List.{flat_map}
use Rattle.std.specs.Option.{option_to_list}
use Rattle.stx_base.specs.declared.fault.Place.{Place}
use Rattle.stx_base.specs.declared.name.Binding.{Binding}
use Rattle.stx_base.specs.declared.part.Part.{Part}
use Rattle.stxpath_syntax.specs.declared.expr.Expr.{Expr}
use Rattle.stxpath_syntax.specs.declared.expr.Expr.TheVariants as expression
use Rattle.sheet_model.proofs.Searches.{all_of-append, all_of-single}
use Rattle.sheet_model.specs.Body.{all_of, children, inner}
use Rattle.sheet_model.specs.Entries.{expression_entries, instruction_entries, own_entries, pattern_entries, template_entries, variable_entries, variables_entries}
use Rattle.sheet_model.specs.Parts.{content_expression}
use Rattle.sheet_model.specs.declared.instr.Instr.{Instr}
use Rattle.sheet_model.specs.declared.instr.Instr.TheVariants as instr
use Rattle.sheet_model.specs.declared.instr.Instr.TheOpen.{Instr-F}
use Rattle.sheet_model.specs.declared.instr.Instr.TheViews.{out-Instr, out-roll-Instr, roll-Instr, rolls-Assign, rolls-Attribute, rolls-CallProcedure, rolls-Chars, rolls-Choose, rolls-Comment, rolls-Copy, rolls-Element, rolls-EndElement, rolls-ForEachItem, rolls-If, rolls-Local, rolls-Message, rolls-Pi, rolls-ProcessAttributes, rolls-ProcessBuffer, rolls-ProcessChildren, rolls-ProcessDocument, rolls-ProcessSelf, rolls-ProcessSiblings, rolls-ResultBuffer, rolls-StartElement, rolls-ValueOf, rolls-While}
use Rattle.sheet_model.specs.declared.instr.When.{When}
use Rattle.sheet_model.specs.declared.instr.WithParam.{WithParam}
use Rattle.sheet_loader.proofs.ExpressionEntries.{entries_seq, of_alternatives}
use Rattle.sheet_loader.proofs.TextEntries.{of_parts}
use Rattle.sheet_loader.specs.Elements as element
use Rattle.sheet_loader.specs.Elements.{Kind}
use Rattle.sheet_loader.specs.Making.{Values, as_expression, as_pattern, as_template, body, branches, characters, content_in, content_of, group_in, is_yes, item, name, or_else, otherwise, params, parts, select, template, value_at, with_params}
use Rattle.sheet_loader.specs.Making as making
use Rattle.sheet_loader.specs.Reading.{Item, Instruction, An_if, An_else, A_local, A_branch, An_otherwise, A_param, A_value, Text, A_part}
use Rattle.sheet_loader.specs.Values.{A_name, A_pass, A_pattern, A_priority, A_template, A_word, An_expression, Value}

-- a body as an entry of the list that it is, and all that stands in it
abbrev pub size : List Instr → ℕ
size is = length is + sum_by instruction_entries (all_of is)

pub size_append : (is js : List Instr) → size (is ++ js) ≡ size is + size js
size_append is js =
    let a = length-append is js in
    let b = ap (sum_by instruction_entries) (all_of-append is js) in
    let c = sum_by-append instruction_entries (all_of is) (all_of js) in
    omega (arith, a, b, c)

pub size_cons : (i : Instr) (is : List Instr) → size (i ∷ is) ≡ size (i ∷ []) + size is
size_cons i is = size_append (i ∷ []) is

-- an instruction by its layer
pub size_one : (i : Instr) (x : Instr-F Instr When) → roll-Instr x ≡ i → size (i ∷ []) ≡ 1 + own_entries x + size (inner (λ (w : When). w.body) x)
size_one i x e =
    let o : out-Instr i ≡ x = ap out-Instr (sym e) ∙ out-roll-Instr x in
    let a = ap (sum_by instruction_entries) (all_of-single i) in
    let b = sum_by-cons instruction_entries i (all_of (children i)) in
    let c : 1 + own_entries (out-Instr i) + size (children i) ≡ 1 + own_entries x + size (inner (λ (w : When). w.body) x) = ap (λ (y : Instr-F Instr When). 1 + own_entries y + size (inner (λ (w : When). w.body) y)) o in
    omega (arith, a, b, c)

abbrev pub branch_size : List When → ℕ
branch_size ws = length ws + sum_by (λ (w : When). expression_entries w.test) ws + size (flat_map (λ (w : When). w.body) ws)

abbrev pub value_size : List WithParam → ℕ
value_size ps = length ps + sum_by (λ (p : WithParam). expression_entries p.select) ps

abbrev pub measure : Item → ℕ
measure (Instruction i) = size (i ∷ [])
measure (An_if x is at) = 1 + expression_entries x + size is
measure (An_else is) = size is
measure (A_local m i) = size (i ∷ [])
measure (A_branch w) = 1 + expression_entries w.test + size w.body
measure (An_otherwise is) = size is
measure (A_param v) = 1 + variable_entries v
measure (A_value p) = 1 + expression_entries p.select
measure (Text t) = 0
measure (A_part p) = 1

abbrev pub measures : List Item → ℕ
measures [] = 0
measures (x ∷ items) = measure x + measures items

pub measures_append : (xs ys : List Item) → measures (xs ++ ys) ≡ measures xs + measures ys
measures_append [] ys = omega arith
measures_append (x ∷ xs) ys = let r = measures_append xs ys in omega (arith, r)

pub parts_measure : (ps : List Part) → measures (map A_part ps) ≡ length ps
parts_measure [] = refl
parts_measure (p ∷ ps) = let r = parts_measure ps in omega (arith, r)

-- an if with what its else holds
if_size : (x : Expr) (is js : List Instr) (at : Place) → size (instr.If x is js at ∷ []) ≡ 1 + expression_entries x + size is + size js
if_size x is js at =
    let a = size_one (instr.If x is js at) (Instr-F.If x is js at) (rolls-If x is js at) in
    let b = size_append is js in
    let c = sum_by-cons expression_entries x [] in
    omega (arith, a, b, c)

-- all that a list comes to, each item once
abbrev pub whole : List Item → ℕ
whole items =
    size (body items) + variables_entries (params items) + branch_size (branches items) + size (otherwise items) + value_size (with_params items) + length (parts items)

pub measured : (items : List Item) → whole items ≤ measures items
measured [] = omega arith
measured (An_if x is at ∷ []) = let a = if_size x is [] at in omega (arith, a)
measured (An_if x is at ∷ An_else js ∷ items) =
    let r = measured items in let a = if_size x is js at in let b = size_cons (instr.If x is js at) (body items) in omega (arith, r, a, b)
measured (An_if x is at ∷ Instruction i ∷ items) =
    let r = measured (Instruction i ∷ items) in let a = if_size x is [] at in let b = size_cons (instr.If x is [] at) (body (Instruction i ∷ items)) in omega (arith, r, a, b)
measured (An_if x is at ∷ An_if y js place ∷ items) =
    let r = measured (An_if y js place ∷ items) in let a = if_size x is [] at in let b = size_cons (instr.If x is [] at) (body (An_if y js place ∷ items)) in omega (arith, r, a, b)
measured (An_if x is at ∷ A_local m i ∷ items) =
    let r = measured (A_local m i ∷ items) in let a = if_size x is [] at in let b = size_cons (instr.If x is [] at) (body (A_local m i ∷ items)) in omega (arith, r, a, b)
measured (An_if x is at ∷ A_branch w ∷ items) =
    let r = measured (A_branch w ∷ items) in let a = if_size x is [] at in let b = size_cons (instr.If x is [] at) (body (A_branch w ∷ items)) in omega (arith, r, a, b)
measured (An_if x is at ∷ An_otherwise js ∷ items) =
    let r = measured (An_otherwise js ∷ items) in let a = if_size x is [] at in let b = size_cons (instr.If x is [] at) (body (An_otherwise js ∷ items)) in omega (arith, r, a, b)
measured (An_if x is at ∷ A_param v ∷ items) =
    let r = measured (A_param v ∷ items) in let a = if_size x is [] at in let b = size_cons (instr.If x is [] at) (body (A_param v ∷ items)) in omega (arith, r, a, b)
measured (An_if x is at ∷ A_value p ∷ items) =
    let r = measured (A_value p ∷ items) in let a = if_size x is [] at in let b = size_cons (instr.If x is [] at) (body (A_value p ∷ items)) in omega (arith, r, a, b)
measured (An_if x is at ∷ Text t ∷ items) =
    let r = measured (Text t ∷ items) in let a = if_size x is [] at in let b = size_cons (instr.If x is [] at) (body (Text t ∷ items)) in omega (arith, r, a, b)
measured (An_if x is at ∷ A_part p ∷ items) =
    let r = measured (A_part p ∷ items) in let a = if_size x is [] at in let b = size_cons (instr.If x is [] at) (body (A_part p ∷ items)) in omega (arith, r, a, b)
measured (Instruction i ∷ items) = let r = measured items in let b = size_cons i (body items) in omega (arith, r, b)
measured (A_local m i ∷ items) = let r = measured items in let b = size_cons i (body items) in omega (arith, r, b)
measured (An_else is ∷ items) = let r = measured items in omega (arith, r)
measured (A_branch w ∷ items) =
    let r = measured items in
    let a = sum_by-cons (λ (x : When). expression_entries x.test) w (branches items) in
    let b = size_append w.body (flat_map (λ (x : When). x.body) (branches items)) in
    omega (arith, r, a, b)
measured (An_otherwise is ∷ items) = let r = measured items in let b = size_append is (otherwise items) in omega (arith, r, b)
measured (A_param v ∷ items) = let r = measured items in let a = sum_by-cons variable_entries v (params items) in omega (arith, r, a)
measured (A_value p ∷ items) = let r = measured items in let a = sum_by-cons (λ (x : WithParam). expression_entries x.select) p (with_params items) in omega (arith, r, a)
measured (Text t ∷ items) = let r = measured items in omega (arith, r)
measured (A_part p ∷ items) = let r = measured items in omega (arith, r)

-- what stands by a name counts so much
abbrev pub count_at : Option Value → ℕ
count_at (Some (An_expression x)) = expression_entries x
count_at (Some (A_pattern all)) = of_alternatives all
count_at (Some (A_template ps)) = of_parts ps
count_at (Some (A_word word)) = 0
count_at (Some (A_pass pass)) = 0
count_at (Some (A_priority p)) = 0
count_at (Some (A_name n)) = 0
count_at None = 0

or_expression : (o : Option Value) (n : ℕ) → count_at o ≤ n → expression_entries (or_else (expression.Seq []) (as_expression o)) ≤ n
or_expression (Some (An_expression x)) n h = h
or_expression o n h = let r = entries_seq [] in omega (arith, r)

maybe_expression : (o : Option Value) (n : ℕ) → count_at o ≤ n → sum_by expression_entries (option_to_list (as_expression o)) ≤ n
maybe_expression (Some (An_expression x)) n h = let r = sum_by-cons expression_entries x [] in omega (arith, r, h)
maybe_expression o n h = omega arith

content_expressions : (o : Option Value) (items : List Item) (n : ℕ) → count_at o ≤ n → sum_by expression_entries (content_expression (content_of (as_expression o) items)) ≤ n
content_expressions (Some (An_expression x)) items n h = let r = sum_by-cons expression_entries x [] in omega (arith, r, h)
content_expressions o items n h = omega arith

or_template : (o : Option Value) (n : ℕ) → count_at o ≤ n → template_entries (or_else (record { parts = [] }) (as_template o)) ≤ n
or_template (Some (A_template ps)) n h = h
or_template o n h = omega arith

maybe_template : (o : Option Value) (n : ℕ) → count_at o ≤ n → sum_by template_entries (option_to_list (as_template o)) ≤ n
maybe_template (Some (A_template ps)) n h = let r = sum_by-cons template_entries (record { parts = ps }) [] in omega (arith, r, h)
maybe_template o n h = omega arith

maybe_pattern : (o : Option Value) (n : ℕ) → count_at o ≤ n → sum_by pattern_entries (option_to_list (as_pattern o)) ≤ n
maybe_pattern (Some (A_pattern all)) n h = let r = sum_by-cons pattern_entries (record { alternatives = all }) [] in omega (arith, r, h)
maybe_pattern o n h = omega arith

pub or_pattern : (o : Option Value) (n : ℕ) → count_at o ≤ n → pattern_entries (or_else (record { alternatives = [] }) (as_pattern o)) ≤ n
or_pattern (Some (A_pattern all)) n h = h
or_pattern o n h = omega arith

pub variable_few : (o : Option Value) (n : ℕ) → count_at o ≤ n → sum_by expression_entries (option_to_list (as_expression o)) ≤ n
variable_few o n h = maybe_expression o n h

map_sum : (ps : List WithParam) → sum_by expression_entries (map (λ (p : WithParam). p.select) ps) ≡ sum_by (λ (p : WithParam). expression_entries p.select) ps
map_sum [] = refl
map_sum (p ∷ ps) =
    let r = map_sum ps in let a = sum_by-cons expression_entries p.select (map (λ (p : WithParam). p.select) ps) in let b = sum_by-cons (λ (p : WithParam). expression_entries p.select) p ps in omega (arith, r, a, b)

tests_sum : (ws : List When) → sum_by expression_entries (map (λ (w : When). w.test) ws) ≡ sum_by (λ (w : When). expression_entries w.test) ws
tests_sum [] = refl
tests_sum (w ∷ ws) =
    let r = tests_sum ws in let a = sum_by-cons expression_entries w.test (map (λ (w : When). w.test) ws) in let b = sum_by-cons (λ (w : When). expression_entries w.test) w ws in omega (arith, r, a, b)

-- An element comes to what stands in it, three values, and itself.
module _ (group : ℕ) (at : Place) (scope : List Binding) (v : Values) (list : List Item) (n : ℕ) (h : (word : List ℕ) → count_at (value_at word v) ≤ n) where
  few_select : expression_entries (select v) ≤ n
  few_select = or_expression (value_at (codes "select") v) n (h (codes "select"))

  few_test : expression_entries (making.test v) ≤ n
  few_test = or_expression (value_at (codes "test") v) n (h (codes "test"))

  few_name : template_entries (template (codes "name") v) ≤ n
  few_name = or_template (value_at (codes "name") v) n (h (codes "name"))

  few_space : sum_by template_entries (option_to_list (as_template (value_at (codes "namespace") v))) ≤ n
  few_space = maybe_template (value_at (codes "namespace") v) n (h (codes "namespace"))

  few_content : sum_by expression_entries (content_expression (content_in v list)) ≤ n
  few_content = content_expressions (value_at (codes "select") v) list n (h (codes "select"))

  pub item_few : (kind : Kind) → measures (item kind group at scope v list) ≤ 1 + 3 * n + measures list
  item_few element.Transform = omega arith
  item_few element.Group = omega arith
  item_few element.Template = omega arith
  item_few element.Procedure = omega arith
  item_few element.Include = omega arith
  item_few element.Buffer = omega arith
  item_few element.Param = let f = maybe_expression (value_at (codes "select") v) n (h (codes "select")) in omega (arith, f)
  item_few element.Variable =
      let m = measured list in
      let o = size_one (instr.Local (name v) (as_expression (value_at (codes "select") v)) at) (Instr-F.Local (name v) (as_expression (value_at (codes "select") v)) at) (rolls-Local (name v) (as_expression (value_at (codes "select") v)) at) in
      let f = maybe_expression (value_at (codes "select") v) n (h (codes "select")) in
      let g = sum_by-append expression_entries (option_to_list (as_expression (value_at (codes "select") v))) [] in
      omega (arith, m, o, f, g)
  item_few element.ValueOf =
      let m = measured list in
      let o = size_one (instr.ValueOf (select v) (as_template (value_at (codes "separator") v)) at) (Instr-F.ValueOf (select v) (as_template (value_at (codes "separator") v)) at) (rolls-ValueOf (select v) (as_template (value_at (codes "separator") v)) at) in
      let f = maybe_template (value_at (codes "separator") v) n (h (codes "separator")) in
      let g = sum_by-cons expression_entries (select v) [] in
      omega (arith, m, o, few_select, f, g)
  item_few element.Chars =
      let m = measured list in
      let o = size_one (instr.Chars (characters list) at) (Instr-F.Chars (characters list) at) (rolls-Chars (characters list) at) in
      omega (arith, m, o)
  item_few element.Copy =
      let m = measured list in
      let o = size_one (instr.Copy (as_pattern (value_at (codes "attributes") v)) (body list) at) (Instr-F.Copy (as_pattern (value_at (codes "attributes") v)) (body list) at) (rolls-Copy (as_pattern (value_at (codes "attributes") v)) (body list) at) in
      let f = maybe_pattern (value_at (codes "attributes") v) n (h (codes "attributes")) in
      omega (arith, m, o, f)
  item_few element.Element =
      let m = measured list in
      let o = size_one (instr.Element (template (codes "name") v) (as_template (value_at (codes "namespace") v)) scope (body list) at) (Instr-F.Element (template (codes "name") v) (as_template (value_at (codes "namespace") v)) scope (body list) at) (rolls-Element (template (codes "name") v) (as_template (value_at (codes "namespace") v)) scope (body list) at) in
      let g = sum_by-cons template_entries (template (codes "name") v) (option_to_list (as_template (value_at (codes "namespace") v))) in
      omega (arith, m, o, few_name, few_space, g)
  item_few element.StartElement =
      let m = measured list in
      let o = size_one (instr.StartElement (template (codes "name") v) (as_template (value_at (codes "namespace") v)) scope at) (Instr-F.StartElement (template (codes "name") v) (as_template (value_at (codes "namespace") v)) scope at) (rolls-StartElement (template (codes "name") v) (as_template (value_at (codes "namespace") v)) scope at) in
      let g = sum_by-cons template_entries (template (codes "name") v) (option_to_list (as_template (value_at (codes "namespace") v))) in
      omega (arith, m, o, few_name, few_space, g)
  item_few element.EndElement =
      let m = measured list in
      let o = size_one (instr.EndElement (template (codes "name") v) (as_template (value_at (codes "namespace") v)) scope at) (Instr-F.EndElement (template (codes "name") v) (as_template (value_at (codes "namespace") v)) scope at) (rolls-EndElement (template (codes "name") v) (as_template (value_at (codes "namespace") v)) scope at) in
      let g = sum_by-cons template_entries (template (codes "name") v) (option_to_list (as_template (value_at (codes "namespace") v))) in
      omega (arith, m, o, few_name, few_space, g)
  item_few element.Attribute =
      let m = measured list in
      let o = size_one (instr.Attribute (template (codes "name") v) (as_template (value_at (codes "namespace") v)) scope (content_in v list) at) (Instr-F.Attribute (template (codes "name") v) (as_template (value_at (codes "namespace") v)) scope (content_in v list) at) (rolls-Attribute (template (codes "name") v) (as_template (value_at (codes "namespace") v)) scope (content_in v list) at) in
      let g = sum_by-cons template_entries (template (codes "name") v) (option_to_list (as_template (value_at (codes "namespace") v))) in
      let c = sum_by-append expression_entries (content_expression (content_in v list)) [] in
      omega (arith, m, o, few_name, few_space, few_content, g, c)
  item_few element.Comment =
      let m = measured list in
      let o = size_one (instr.Comment (content_in v list) at) (Instr-F.Comment (content_in v list) at) (rolls-Comment (content_in v list) at) in
      let c = sum_by-append expression_entries (content_expression (content_in v list)) [] in
      omega (arith, m, o, few_content, c)
  item_few element.Instruction =
      let m = measured list in
      let o = size_one (instr.Pi (template (codes "name") v) scope (content_in v list) at) (Instr-F.Pi (template (codes "name") v) scope (content_in v list) at) (rolls-Pi (template (codes "name") v) scope (content_in v list) at) in
      let c = sum_by-append expression_entries (content_expression (content_in v list)) [] in
      let g = sum_by-cons template_entries (template (codes "name") v) [] in
      omega (arith, m, o, few_name, few_content, c, g)
  item_few element.Message =
      let m = measured list in
      let o = size_one (instr.Message (content_in v list) at) (Instr-F.Message (content_in v list) at) (rolls-Message (content_in v list) at) in
      let c = sum_by-append expression_entries (content_expression (content_in v list)) [] in
      omega (arith, m, o, few_content, c)
  item_few element.If = let m = measured list in omega (arith, m, few_test)
  item_few element.Else = let m = measured list in omega (arith, m)
  item_few element.Choose =
      let m = measured list in
      let o = size_one (instr.Choose (branches list) (otherwise list) at) (Instr-F.Choose (branches list) (otherwise list) at) (rolls-Choose (branches list) (otherwise list) at) in
      let t = tests_sum (branches list) in
      let a = sum_by-append expression_entries (map (λ (w : When). w.test) (branches list)) [] in
      let c = size_append (flat_map (λ (w : When). w.body) (branches list)) (otherwise list) in
      omega (arith, m, o, t, a, c)
  item_few element.When = let m = measured list in omega (arith, m, few_test)
  item_few element.Otherwise = let m = measured list in omega (arith, m)
  item_few element.ForEachItem =
      let m = measured list in
      let o = size_one (instr.ForEachItem (name v) (select v) (body list) at) (Instr-F.ForEachItem (name v) (select v) (body list) at) (rolls-ForEachItem (name v) (select v) (body list) at) in
      let g = sum_by-cons expression_entries (select v) [] in
      omega (arith, m, o, few_select, g)
  item_few element.While =
      let m = measured list in
      let o = size_one (instr.While (making.test v) (body list) at) (Instr-F.While (making.test v) (body list) at) (rolls-While (making.test v) (body list) at) in
      let g = sum_by-cons expression_entries (making.test v) [] in
      omega (arith, m, o, few_test, g)
  item_few element.Assign =
      let m = measured list in
      let o = size_one (instr.Assign (name v) (select v) at) (Instr-F.Assign (name v) (select v) at) (rolls-Assign (name v) (select v) at) in
      let g = sum_by-cons expression_entries (select v) [] in
      omega (arith, m, o, few_select, g)
  item_few element.CallProcedure =
      let m = measured list in
      let o = size_one (instr.CallProcedure (name v) (with_params list) at) (Instr-F.CallProcedure (name v) (with_params list) at) (rolls-CallProcedure (name v) (with_params list) at) in
      let s = map_sum (with_params list) in
      omega (arith, m, o, s)
  item_few element.ProcessChildren =
      let m = measured list in
      let o = size_one (instr.ProcessChildren (group_in v) (with_params list) at) (Instr-F.ProcessChildren (group_in v) (with_params list) at) (rolls-ProcessChildren (group_in v) (with_params list) at) in
      let s = map_sum (with_params list) in
      omega (arith, m, o, s)
  item_few element.ProcessAttributes =
      let m = measured list in
      let o = size_one (instr.ProcessAttributes (group_in v) (with_params list) at) (Instr-F.ProcessAttributes (group_in v) (with_params list) at) (rolls-ProcessAttributes (group_in v) (with_params list) at) in
      let s = map_sum (with_params list) in
      omega (arith, m, o, s)
  item_few element.ProcessSelf =
      let m = measured list in
      let o = size_one (instr.ProcessSelf (group_in v) (with_params list) at) (Instr-F.ProcessSelf (group_in v) (with_params list) at) (rolls-ProcessSelf (group_in v) (with_params list) at) in
      let s = map_sum (with_params list) in
      omega (arith, m, o, s)
  item_few element.ProcessSiblings =
      let m = measured list in
      let o = size_one (instr.ProcessSiblings (as_pattern (value_at (codes "while") v)) (as_pattern (value_at (codes "until") v)) (group_in v) (with_params list) at) (Instr-F.ProcessSiblings (as_pattern (value_at (codes "while") v)) (as_pattern (value_at (codes "until") v)) (group_in v) (with_params list) at) (rolls-ProcessSiblings (as_pattern (value_at (codes "while") v)) (as_pattern (value_at (codes "until") v)) (group_in v) (with_params list) at) in
      let s = map_sum (with_params list) in
      let w = maybe_pattern (value_at (codes "while") v) n (h (codes "while")) in
      let u = maybe_pattern (value_at (codes "until") v) n (h (codes "until")) in
      let a = sum_by-append pattern_entries (option_to_list (as_pattern (value_at (codes "while") v))) (option_to_list (as_pattern (value_at (codes "until") v))) in
      omega (arith, m, o, s, w, u, a)
  item_few element.ProcessBuffer =
      let m = measured list in
      let o = size_one (instr.ProcessBuffer (name v) (group_in v) (with_params list) at) (Instr-F.ProcessBuffer (name v) (group_in v) (with_params list) at) (rolls-ProcessBuffer (name v) (group_in v) (with_params list) at) in
      let s = map_sum (with_params list) in
      omega (arith, m, o, s)
  item_few element.ProcessDocument =
      let m = measured list in
      let o = size_one (instr.ProcessDocument (template (codes "href") v) (group_in v) (with_params list) at) (Instr-F.ProcessDocument (template (codes "href") v) (group_in v) (with_params list) at) (rolls-ProcessDocument (template (codes "href") v) (group_in v) (with_params list) at) in
      let s = map_sum (with_params list) in
      let f = or_template (value_at (codes "href") v) n (h (codes "href")) in
      let g = sum_by-cons template_entries (template (codes "href") v) [] in
      omega (arith, m, o, s, f, g)
  item_few element.ResultBuffer =
      let m = measured list in
      let o = size_one (instr.ResultBuffer (name v) (is_yes (value_at (codes "clear") v)) (body list) at) (Instr-F.ResultBuffer (name v) (is_yes (value_at (codes "clear") v)) (body list) at) (rolls-ResultBuffer (name v) (is_yes (value_at (codes "clear") v)) (body list) at) in
      omega (arith, m, o)
  item_few element.WithParam = omega (arith, few_select)
