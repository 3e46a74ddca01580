-- The names of a sheet that is given, from its root on.
use Rattle.std.proofs.Common.{◌≡◌, ℕ, ◌-◌, Bool, true, false, not, ◌&&◌, ◌||◌, ◌==◌, List, [], ◌∷◌, ◌++◌, Option, Some, None, codes, length, map, slice_get, refl, ap, sym, ◌∙◌, arith, if◌then◌else◌}
use Rattle.std.proofs.Math.Path.{subst}
use Rattle.std.proofs.lemmas.List.Elements.{All-append, All-cons, All-head, All-map, All-nil}
use Rattle.std.specs.List.{All, flat_map, list_any}
use Rattle.std.specs.Option.{option_map_or, option_to_list}
use Rattle.stx_base.specs.declared.fault.Place.{Place}
use Rattle.stx_base.specs.declared.name.Binding.{Binding}
use Rattle.stx_base.specs.declared.name.Name.{Name}
use Rattle.stx_base.specs.declared.part.Part.{Part}
use Rattle.stxpath_syntax.specs.declared.dialect.Dialect.{Dialect}
use Rattle.stxpath_syntax.specs.declared.dialect.Dialect.TheVariants.{One, OneOne}
use Rattle.stxpath_syntax.specs.declared.expr.Avt.{Avt}
use Rattle.stxpath_syntax.specs.declared.expr.Expr.{Expr}
use Rattle.stxpath_syntax.specs.declared.expr.Pattern.{Pattern}
use Rattle.sheet_model.specs.Groups.{AreDistinct, HasVariable, IsFound}
use Rattle.sheet_model.specs.Names.{BufferNamed, GroupNamed, ProcedureNamed, free, is_among, is_same, pattern_variables, template_variables, variables, with_params}
use Rattle.sheet_model.specs.Sound.{NamesAreFound, NamesAreNew, procedure_says, template_says}
use Rattle.sheet_model.specs.declared.instr.Instr.TheVariants as instr
use Rattle.sheet_model.specs.declared.instr.Instr.TheOpen.{Instr-F}
use Rattle.sheet_model.specs.declared.instr.Instr.TheViews.{rolls-Literal, rolls-LiteralChars}
use Rattle.sheet_model.specs.declared.instr.LiteralAttr.{LiteralAttr}
use Rattle.sheet_model.specs.declared.instr.WithParam.{WithParam}
use Rattle.sheet_model.specs.declared.sheet.Buffer.{Buffer}
use Rattle.sheet_model.specs.declared.sheet.Procedure.{Procedure}
use Rattle.sheet_model.specs.declared.sheet.Sheet.{Sheet}
use Rattle.sheet_model.specs.declared.sheet.Template.{Template}
use Rattle.sheet_model.specs.declared.sheet.Variable.{Variable}
use Rattle.xml_events.specs.Tree.{Element, Forest}
use Rattle.sheet_loader.proofs.Came.{Came, CameWhole, are_parts, at_end, attrs_of, behind_literal, behind_tag, copies, element_made, href_of, in_copy, in_element, in_literal, includes, literal_item, makes, passes, referring, speaks, writes}
use Rattle.sheet_loader.proofs.FoundValues.{Faultless, absent, faultless, has_name, present, row_at}
use Rattle.sheet_loader.proofs.ItemNames.{ItemsSay, ParamsFirst, body_says, no_bound, no_es, no_names, no_ps, no_ts, none_distinct, own_good, params_say, parts_say}
use Rattle.sheet_loader.proofs.ListNames.{ListOk, allowed_body, apart_more, apart_same, behind_sheet_list, branch_place, first_more, first_params, group_item, group_place, inner_list, is_sheet_list, list_more, no_locals_in, no_params_in, no_values_in, none_more, one_item, param_place, plain_kind, root_place}
use Rattle.sheet_loader.proofs.NamedSheets.{Adds, SheetOk, begun_ok, came_found, earlier_referred, ended_ok, made_found, tag_found}
use Rattle.sheet_loader.proofs.ReadableSheets.{needs}
use Rattle.sheet_loader.proofs.Sayings.{AllFound, All-back, All-front, Good, VarOk, VarsOk, buffer_there, free_good, group_there, inner_said, instr_ok, none_lost, procedure_there, variables_referred}
use Rattle.sheet_loader.proofs.Standing.{inner_lists}
use Rattle.sheet_loader.proofs.TagNames.{ByName, ListSays, TagSays, are_branches, is_start, item_says, patterns_named}
use Rattle.sheet_loader.specs.Attributes.{Named, required, rows}
use Rattle.sheet_loader.specs.Elements as element
use Rattle.sheet_loader.specs.Elements.{Kind, Inside, Before, Document, Declarations, Start_of_body, Body, Branches, With_params, Characters, Parts, Nothing, allows_literals, allows_text, inside_of, is_allowed, is_include, is_own, is_param, is_procedure, is_template, is_buffer, is_transform, is_variable, makes_group}
use Rattle.sheet_loader.specs.Judging.{is_declared_here, is_duplicate, is_taken, is_taken_in_body, locals_at, rows_of, scope_at, values, values_found}
use Rattle.sheet_loader.specs.Load.{at_start, nothing}
use Rattle.sheet_loader.specs.Making.{Values, as_expression, as_name, as_pattern, bare, behind, body, item, last_of, locals_of, name, nameless, or_else, params, parts, pattern, select, value_at, variable}
use Rattle.sheet_loader.specs.Making as making
use Rattle.sheet_loader.specs.Read.{begun, element_parts, ended, group_within, has_select, in_file, listed, made, own_locals, text_item, with_group, with_root}
use Rattle.sheet_loader.specs.Reading.{A_param, A_part, Context, File, Instruction, Item, Listed, Loading, place}
use Rattle.sheet_loader.specs.References.{A_buffer, A_group, A_procedure, Reference, has_group, is_found}
use Rattle.sheet_loader.specs.Referring.{by_name, in_expressions, in_patterns, named_in, references, to_earlier, to_group, to_variables, variables_at, variables_of_pattern_at, variables_of_template_at}
use Rattle.sheet_loader.specs.Standing.{HasNoElement, IsDocument}
use Rattle.sheet_loader.specs.Tags.{found_at}
use Rattle.sheet_loader.specs.Values.{Reads}

-- each of what all together are
flat_all : {A B : Type 0} (f : A → List B) (P : B → Type 0) (xs : List A) → All P (flat_map f xs) → All (λ (x : A). All P (f x)) xs
flat_all {A} f P [] h = All-nil (λ (x : A). All P (f x))
flat_all {A} f P (x ∷ xs) h = All-cons (λ (x : A). All P (f x)) x xs (All-front P (f x) (flat_map f xs) h) (flat_all f P xs (All-back P (f x) (flat_map f xs) h))

not_declared : (inside : Inside) → is_sheet_list inside ≡ false → is_declared_here inside ≡ false
not_declared (Declarations x) h = absurd cc
not_declared inside h = refl

not_own : (inside : Inside) → is_sheet_list inside ≡ false → is_own inside ≡ false
not_own (Document x) h = absurd cc
not_own inside h = refl

declared_list : (inside : Inside) → is_declared_here inside ≡ true → is_sheet_list inside ≡ true
declared_list (Declarations x) h = refl
declared_list inside h = absurd cc

-- a list of a file that isn't one of declarations holds a transform
outer_group : (inside : Inside) (before : List Item) (b : Before) (kind : Kind) → is_sheet_list inside ≡ true → is_declared_here inside ≡ false → is_allowed (behind inside before) b kind ≡ true → makes_group kind ≡ true
outer_group (Document x) before b kind s d a = root_place x before b kind a
outer_group (Declarations x) before b kind s d a = absurd cc
outer_group Start_of_body before b kind s d a = absurd cc
outer_group Body before b kind s d a = absurd cc
outer_group Branches before b kind s d a = absurd cc
outer_group With_params before b kind s d a = absurd cc
outer_group (Characters c) before b kind s d a = absurd cc
outer_group Parts before b kind s d a = absurd cc
outer_group Nothing before b kind s d a = absurd cc

literal_place : (inside : Inside) → allows_literals inside ≡ true → are_parts inside ≡ false → (are_branches inside ≡ false) × (is_sheet_list inside ≡ false)
literal_place Branches a p = absurd cc
literal_place (Document x) a p = absurd cc
literal_place (Declarations x) a p = absurd cc
literal_place inside a p = (refl, refl)

text_place : (inside : Inside) → allows_text inside ≡ true → (are_branches inside ≡ false) × (is_sheet_list inside ≡ false)
text_place Branches a = absurd cc
text_place (Document x) a = absurd cc
text_place (Declarations x) a = absurd cc
text_place inside a = (refl, refl)

group_locals : (kind : Kind) (v : Values) → makes_group kind ≡ true → own_locals kind v ≡ []
group_locals element.ForEachItem v h = absurd cc
group_locals kind v h = refl

some_fresh : (F : Name → Bool) (o : Option Name) → ((n : Name) × (o ≡ Some n)) → option_map_or F o false ≡ false → F (or_else nameless o) ≡ false
some_fresh F (Some n) there h = h
some_fresh F None there h = absurd (let e = there.1 in cc)

found_fresh : (F : Name → Bool) (o : Option Name) (n : Name) → o ≡ Some n → option_map_or F o false ≡ false → F n ≡ false
found_fresh F o n e h = sym (ap (λ x. option_map_or F x false) e) ∙ h

some_pattern : (s : Sheet) (g : ℕ) (o : Option Pattern) → VarsOk s g [] (option_map_or pattern_variables o []) → VarsOk s g [] (pattern_variables (or_else (record { alternatives = [] }) o))
some_pattern s g (Some p) h = h
some_pattern s g None h = All-nil (VarOk s g [])

some_variables : (P : Name → Type 0) (o : Option Expr) → All P (option_map_or variables o []) → All P (flat_map variables (option_to_list o))
some_variables P (Some x) h = All-append P (variables x) [] h (All-nil P)
some_variables P None h = All-nil P

-- what the first of the attributes names
front_of : (P : Name → Type 0) (v : Values) → All P (named_in v) → All P (variables_at (codes "select") v)
front_of P v h =
    let a = variables_at (codes "select") v in
    let b = a ++ variables_at (codes "test") v in
    let c = b ++ variables_of_template_at (codes "separator") v in
    let d = c ++ variables_of_template_at (codes "name") v in
    let e = d ++ variables_of_template_at (codes "namespace") v in
    All-front P a (variables_at (codes "test") v) (All-front P b (variables_of_template_at (codes "separator") v) (All-front P c (variables_of_template_at (codes "name") v)
    (All-front P d (variables_of_template_at (codes "namespace") v) (All-front P e (variables_of_template_at (codes "href") v) h))))

variable_no_group : (kind : Kind) → (is_param kind || is_variable kind) ≡ true → makes_group kind ≡ false
variable_no_group element.Group h = absurd cc
variable_no_group element.Transform h = absurd cc
variable_no_group kind h = refl

procedure_no_group : (kind : Kind) → is_procedure kind ≡ true → makes_group kind ≡ false
procedure_no_group element.Group h = absurd cc
procedure_no_group element.Transform h = absurd cc
procedure_no_group kind h = refl

buffer_no_group : (kind : Kind) → is_buffer kind ≡ true → makes_group kind ≡ false
buffer_no_group element.Group h = absurd cc
buffer_no_group element.Transform h = absurd cc
buffer_no_group kind h = refl

no_include : (kind : Kind) → is_include kind ≡ true → is_transform kind ≡ true → ⊥
no_include element.Include i h = absurd cc
no_include kind i h = absurd cc

with_file_ok : (t : Sheet) (href : List ℕ) (l : Loading) → SheetOk t l.sheet → SheetOk t (record l.sheet { files = l.sheet.files ++ href ∷ [] })
with_file_ok t href l h = record {
  patterns = h.patterns;
  templates = h.templates;
  procedures = h.procedures;
  declarations = h.declarations;
  groups = h.groups;
  apart_procedures = h.apart_procedures;
  apart_buffers = h.apart_buffers;
  apart_variables = h.apart_variables;
}

-- the sheet's own transform
root_ok : (t : Sheet) (here : Context) (at : ℕ) (kind : Kind) (v : Values) (l : Loading) → is_own here.inside ≡ true → l.sheet.variables ≡ [] → SheetOk t l.sheet → SheetOk t (begun here at kind v l).sheet
root_ok t here at kind v l o z h = subst (λ b. SheetOk t (if b then with_root here at v l else if makes_group kind then with_group here at v l else l).sheet) (sym o) (record {
  patterns = h.patterns;
  templates = h.templates;
  procedures = h.procedures;
  declarations = λ n w e. absurd (let x : slice_get {X = Variable} [] n ≡ Some w = sym (ap (λ vs. slice_get vs n) z) ∙ e in cc);
  groups = none_distinct;
  apart_procedures = h.apart_procedures;
  apart_buffers = h.apart_buffers;
  apart_variables = h.apart_variables;
})

abbrev names_itself : Kind → Bool
names_itself element.Procedure = true
names_itself element.Param = true
names_itself element.Variable = true
names_itself element.Buffer = true
names_itself element.ForEachItem = true
names_itself element.WithParam = true
names_itself other = false

-- parts name nothing

parts_no_params : (ps : List Part) → params (map A_part ps) ≡ []
parts_no_params [] = refl
parts_no_params (p ∷ ps) = parts_no_params ps

parts_no_values : (ps : List Part) → making.with_params (map A_part ps) ≡ []
parts_no_values [] = refl
parts_no_values (p ∷ ps) = parts_no_values ps

parts_no_locals : (ps : List Part) → locals_of (map A_part ps) ≡ []
parts_no_locals [] = refl
parts_no_locals (p ∷ ps) = parts_no_locals ps

module _ (reads : Reads) (files : List (Option File)) where
  -- A body leaves the sheet as it is.

  begun_still : (here : Context) (at : ℕ) (kind : Kind) (v : Values) (l : Loading) → is_own here.inside ≡ false → makes_group kind ≡ false → (begun here at kind v l).sheet ≡ l.sheet
  begun_still here at kind v l o g =
      ap (λ b. (if b then with_root here at v l else if makes_group kind then with_group here at v l else l).sheet) o ∙ ap (λ b. (if b then with_group here at v l else l).sheet) g

  made_still : (here : Context) (at : ℕ) (kind : Kind) (scope : List Binding) (v : Values) (r : Listed) → is_declared_here here.inside ≡ false → (made here at kind scope v r).loading.sheet ≡ r.loading.sheet
  made_still here at kind scope v r d = ap (λ b. (if b then listed [] (ended here at kind v r) else listed (item kind here.group (place here at) scope v r.items) r.loading).loading.sheet) d

  pub came_still : {here : Context} {before : List Item} {list : Forest} {l : Loading} {r : Listed} → Came reads files here before list l r → is_sheet_list here.inside ≡ false → r.loading.sheet ≡ l.sheet
  came_still (at_end here before mark offset l) o = refl
  came_still (passes here before mark leaf next l r c) o = came_still c o
  came_still (speaks here before mark leaf offset said next l r s a c) o = came_still c o
  came_still (makes here before stage e kids next l kind inner r f i c q n) o =
      let v = values reads here kind e in
      let fl = faultless reads here before l.sheet e kind f in
      let a = allowed_body (behind here.inside before) (last_of before) kind (behind_sheet_list here.inside before ∙ o) fl.allowed in
      came_still n o ∙ made_still here e.offset kind (scope_at here e) v inner (not_declared here.inside o)
      ∙ came_still c (inner_list here.inside kind (has_select v) a.0)
      ∙ begun_still here e.offset kind v (referring reads files here before e kind l) (not_own here.inside o) a.0
  came_still (includes here before stage e kids next l kind file m inner r f i g b c q n) o =
      let fl = faultless reads here before l.sheet e kind f in
      let a = allowed_body (behind here.inside before) (last_of before) kind (behind_sheet_list here.inside before ∙ o) fl.allowed in
      absurd (let x : true ≡ false = sym i ∙ a.1 in cc)
  came_still (writes here before stage e kids next l inner r a p q c n) o = came_still n o ∙ came_still c refl
  came_still (copies here before stage e kids next l inner r i c n) o = came_still n o ∙ came_still c o

  -- What a tag says.
  module _ (t : Sheet) (here : Context) (before : List Item) (l : Loading) (e : Element) where
    present_name : (kind : Kind) → row_at (codes "name") (rows_of here kind) ≡ Some (required (codes "name") Named) → Faultless reads here before l.sheet e kind
        → (n : Name) × (as_name (value_at (codes "name") (values reads here kind e)) ≡ Some n)
    present_name kind r f =
        has_name reads here.version.dialect (scope_at here e) (codes "name") (values reads here kind e)
        (present reads here.version.dialect (scope_at here e) (rows_of here kind) e.attrs (codes "name") Named r f.complete f.paths)

    own_name : (kind : Kind) → names_itself kind ≡ true → Faultless reads here before l.sheet e kind → (n : Name) × (as_name (value_at (codes "name") (values reads here kind e)) ≡ Some n)
    own_name element.Procedure y f = present_name element.Procedure refl f
    own_name element.Param y f = present_name element.Param refl f
    own_name element.Variable y f = present_name element.Variable refl f
    own_name element.Buffer y f = present_name element.Buffer refl f
    own_name element.ForEachItem y f = present_name element.ForEachItem refl f
    own_name element.WithParam y f = present_name element.WithParam refl f
    own_name kind y f = absurd cc

    fresh_name : (kind : Kind) → names_itself kind ≡ true → Faultless reads here before l.sheet e kind → is_duplicate here before l.sheet kind (name (values reads here kind e)) ≡ false
    fresh_name kind y f = some_fresh (is_duplicate here before l.sheet kind) (as_name (value_at (codes "name") (values reads here kind e))) (own_name kind y f) f.declares

    fresh_in_body : (kind : Kind) → names_itself kind ≡ true → is_declared_here here.inside ≡ false → Faultless reads here before l.sheet e kind → is_taken_in_body (locals_at here before) before kind (name (values reads here kind e)) ≡ false
    fresh_in_body kind y d f =
        sym (ap (λ b. if b then is_taken l.sheet here.group kind (name (values reads here kind e)) else is_taken_in_body (locals_at here before) before kind (name (values reads here kind e))) d) ∙ fresh_name kind y f

    fresh_declared : (kind : Kind) → names_itself kind ≡ true → is_declared_here here.inside ≡ true → Faultless reads here before l.sheet e kind → is_taken l.sheet here.group kind (name (values reads here kind e)) ≡ false
    fresh_declared kind y d f =
        sym (ap (λ b. if b then is_taken l.sheet here.group kind (name (values reads here kind e)) else is_taken_in_body (locals_at here before) before kind (name (values reads here kind e))) d) ∙ fresh_name kind y f

    fresh_at : (kind : Kind) → is_declared_here here.inside ≡ false → Faultless reads here before l.sheet e kind → is_taken_in_body (locals_at here before) before kind (name (values reads here kind e)) ≡ false
    fresh_at element.Variable d f = fresh_in_body element.Variable refl d f
    fresh_at element.Param d f = fresh_in_body element.Param refl d f
    fresh_at element.ForEachItem d f = fresh_in_body element.ForEachItem refl d f
    fresh_at element.WithParam d f = fresh_in_body element.WithParam refl d f
    fresh_at kind d f = refl

    base_found : (at : Place) (o : Option Name) → AllFound t (to_group at o) → All (λ (n : Name). IsFound t here.group (GroupNamed n)) (option_to_list o)
    base_found at None h = All-nil (λ (n : Name). IsFound t here.group (GroupNamed n))
    base_found at (Some n) h =
        All-cons (λ (n : Name). IsFound t here.group (GroupNamed n)) n []
        (group_there t here.group n (All-head (λ (r : Reference). is_found t r.sought ≡ true) (record { at = at; sought = A_group (bare n) }) [] h)) (All-nil (λ (n : Name). IsFound t here.group (GroupNamed n)))

    names_found : (at : Place) (kind : Kind) (n : Name) → AllFound t (by_name at here before kind n) → ByName t here.group (locals_at here before) kind n
    names_found at element.CallProcedure n h = procedure_there t here.group n (All-head (λ (r : Reference). is_found t r.sought ≡ true) (record { at = at; sought = A_procedure here.group (bare n) }) [] h)
    names_found at element.ProcessBuffer n h = buffer_there t here.group n (All-head (λ (r : Reference). is_found t r.sought ≡ true) (record { at = at; sought = A_buffer here.group (bare n) }) [] h)
    names_found at element.ResultBuffer n h = buffer_there t here.group n (All-head (λ (r : Reference). is_found t r.sought ≡ true) (record { at = at; sought = A_buffer here.group (bare n) }) [] h)
    names_found at element.Assign n h = variables_referred t here.group at (locals_at here before) (n ∷ []) h
    names_found at kind n h = tt

    -- the references of a tag, part by part
    module _ (kind : Kind) (h : AllFound t (references (place here e.offset) here before l.sheet kind (values reads here kind e))) where
      abbrev at_tag : Place
      at_tag = place here e.offset

      abbrev own_group : List Reference
      own_group = to_group at_tag (as_name (value_at (codes "group") (values reads here kind e)))

      abbrev own_names : List Reference
      own_names = by_name at_tag here before kind (name (values reads here kind e))

      abbrev own_patterns : List Reference
      own_patterns = in_patterns at_tag here.group (values reads here kind e)

      abbrev own_expressions : List Reference
      own_expressions = in_expressions at_tag here before l.sheet (values reads here kind e)

      three_refs : AllFound t (own_group ++ own_names ++ own_patterns)
      three_refs = All-front (λ (r : Reference). is_found t r.sought ≡ true) (own_group ++ own_names ++ own_patterns) own_expressions h

      two_refs : AllFound t (own_group ++ own_names)
      two_refs = All-front (λ (r : Reference). is_found t r.sought ≡ true) (own_group ++ own_names) own_patterns three_refs

      base_refs : AllFound t own_group
      base_refs = All-front (λ (r : Reference). is_found t r.sought ≡ true) own_group own_names two_refs

      own_refs : AllFound t own_names
      own_refs = All-back (λ (r : Reference). is_found t r.sought ≡ true) own_group own_names two_refs

      pattern_refs : AllFound t own_patterns
      pattern_refs = All-back (λ (r : Reference). is_found t r.sought ≡ true) (own_group ++ own_names) own_patterns three_refs

      expression_refs : AllFound t own_expressions
      expression_refs = All-back (λ (r : Reference). is_found t r.sought ≡ true) (own_group ++ own_names ++ own_patterns) own_expressions h

      pats_ok : VarsOk t here.group [] (patterns_named (values reads here kind e))
      pats_ok = variables_referred t here.group at_tag [] (patterns_named (values reads here kind e)) pattern_refs

      tag_says : is_declared_here here.inside ≡ false → Faultless reads here before l.sheet e kind → TagSays t here.group (locals_at here before) before kind (values reads here kind e)
      tag_says d f = record {
        vars =
            variables_referred t here.group at_tag (locals_at here before) (named_in (values reads here kind e))
            (subst (λ b. AllFound t (if b then to_earlier at_tag l.sheet here.group (named_in (values reads here kind e)) else to_variables at_tag (locals_at here before) here.group (named_in (values reads here kind e)))) d expression_refs);
        pats = pats_ok;
        base = base_found at_tag (as_name (value_at (codes "group") (values reads here kind e))) base_refs;
        names = names_found at_tag kind (name (values reads here kind e)) own_refs;
        fresh = fresh_at kind d f;
        needs = needs reads here before l.sheet e kind f;
      }

      earlier_ok : is_declared_here here.inside ≡ true → All (HasVariable l.sheet l.sheet.variables here.group) (flat_map variables (option_to_list (as_expression (value_at (codes "select") (values reads here kind e)))))
      earlier_ok d =
          let all = earlier_referred at_tag l.sheet here.group t (named_in (values reads here kind e))
          (subst (λ b. AllFound t (if b then to_earlier at_tag l.sheet here.group (named_in (values reads here kind e)) else to_variables at_tag (locals_at here before) here.group (named_in (values reads here kind e)))) d expression_refs) in
          some_variables (HasVariable l.sheet l.sheet.variables here.group) (as_expression (value_at (codes "select") (values reads here kind e)))
          (front_of (HasVariable l.sheet l.sheet.variables here.group) (values reads here kind e) all)

      match_ok : All (IsFound t here.group) (free [] (pattern_variables (pattern (codes "match") (values reads here kind e))))
      match_ok =
          let v = values reads here kind e in
          let m = variables_of_pattern_at (codes "match") v in
          let one = All-front (VarOk t here.group []) m (variables_of_pattern_at (codes "while") v) (All-front (VarOk t here.group []) (m ++ variables_of_pattern_at (codes "while") v) (variables_of_pattern_at (codes "until") v) pats_ok) in
          let good = free_good t here.group [] [] (pattern_variables (pattern (codes "match") (values reads here kind e))) (λ n. refl) (some_pattern t here.group (as_pattern (value_at (codes "match") (values reads here kind e))) one) in
          λ k d m. (good k d m).0

    -- One more element of a list that declares nothing.
    element_first : (kind : Kind) (at : Place) (scope : List Binding) (v : Values) (list : List Item) → is_allowed (behind here.inside before) (last_of before) kind ≡ true → is_declared_here here.inside ≡ false
        → ParamsFirst before → ParamsFirst (before ++ item kind here.group at scope v list)
    element_first element.Param at scope v list a d h = first_params before (A_param (variable here.group true at v) ∷ []) (param_place here.inside before (last_of before) d a).1 tt
    element_first kind at scope v list a d h = first_more before (item kind here.group at scope v list) h (no_params_in here.group at scope v list kind refl)

    element_bare : (kind : Kind) (at : Place) (scope : List Binding) (v : Values) (list : List Item) → is_allowed (behind here.inside before) (last_of before) kind ≡ true → is_declared_here here.inside ≡ false
        → is_start here.inside ≡ false → params (item kind here.group at scope v list) ≡ []
    element_bare element.Param at scope v list a d n = absurd (let x : true ≡ false = sym (param_place here.inside before (last_of before) d a).0 ∙ n in cc)
    element_bare kind at scope v list a d n = no_params_in here.group at scope v list kind refl

    element_apart : (kind : Kind) (at : Place) (scope : List Binding) (v : Values) (list : List Item) → is_taken_in_body (locals_at here before) before kind (name v) ≡ false
        → AreDistinct (map (λ (p : WithParam). p.name) (making.with_params before)) → AreDistinct (map (λ (p : WithParam). p.name) (making.with_params (before ++ item kind here.group at scope v list)))
    element_apart element.WithParam at scope v list n h = apart_more before (record { name = name v; select = select v }) n h
    element_apart kind at scope v list n h = apart_same before (item kind here.group at scope v list) (no_values_in here.group at scope v list kind refl) h

    element_more : (kind : Kind) (has : Bool) (list : List Item) → Faultless reads here before l.sheet e kind → is_declared_here here.inside ≡ false → makes_group kind ≡ false
        → TagSays t here.group (locals_at here before) before kind (values reads here kind e)
        → ListSays t here.group (locals_at here before ++ own_locals kind (values reads here kind e)) (inside_of here.inside kind has) list
        → ListOk t here before → ListOk t here (before ++ item kind here.group (place here e.offset) (scope_at here e) (values reads here kind e) list)
    element_more kind has list f d g tag says ok =
        let v = values reads here kind e in
        let at = place here e.offset in
        let scope = scope_at here e in
        list_more t here before (item kind here.group at scope v list) ok (record {
          says = item_says t here.group (locals_at here before) before at scope v here.group here.inside has list kind tag says;
          first = element_first kind at scope v list f.allowed d ok.list.first;
          bare = element_bare kind at scope v list f.allowed d;
          apart = element_apart kind at scope v list tag.fresh ok.list.apart;
          plain = λ p. no_locals_in here.group at scope v list kind (plain_kind here.inside before (last_of before) kind p f.allowed);
          one = λ p. one_item here.group at scope v list kind before (ok.list.one p) (branch_place here.inside before (last_of before) kind p f.allowed);
          outer = λ o. absurd (let x : true ≡ false = sym (outer_group here.inside before (last_of before) kind o d f.allowed) ∙ g in cc);
        })

    -- What an element adds to the sheet, where declarations stand.
    module _ (outer : (here.locals ≡ []) × (before ≡ [])) where
      no_locals_here : locals_at here before ++ [] ≡ []
      no_locals_here = ap (λ n. (n ++ locals_of before) ++ []) outer.0 ∙ ap (λ (b : List Item). ([] ++ locals_of b) ++ []) outer.1

      said_at : (kind : Kind) (last : ℕ) (has : Bool) (items : List Item) → (is_template kind || is_procedure kind) ≡ true
          → ListSays t (group_within here.group last kind) (locals_at here before ++ own_locals kind (values reads here kind e)) (inside_of here.inside kind has) items
          → All (Good t here.group) (with_params (params items) (body items) [])
      said_at element.Template last has items y h = params_say t here.group (locals_at here before ++ []) items [] h.first h.says (λ n. ap (λ l. is_among l n) (sym no_locals_here))
      said_at element.Procedure last has items y h = params_say t here.group (locals_at here before ++ []) items [] h.first h.says (λ n. ap (λ l. is_among l n) (sym no_locals_here))
      said_at kind last has items y h = absurd cc

    taken_procedure : (kind : Kind) → is_procedure kind ≡ true → is_declared_here here.inside ≡ true → Faultless reads here before l.sheet e kind
        → list_any (λ (p : Procedure). p.group == here.group && is_same p.name (name (values reads here kind e))) l.sheet.procedures ≡ false
    taken_procedure element.Procedure y d f = fresh_declared element.Procedure refl d f
    taken_procedure kind y d f = absurd cc

    taken_buffer : (kind : Kind) → is_buffer kind ≡ true → is_declared_here here.inside ≡ true → Faultless reads here before l.sheet e kind
        → list_any (λ (b : Buffer). b.group == here.group && is_same b.name (name (values reads here kind e))) l.sheet.buffers ≡ false
    taken_buffer element.Buffer y d f = fresh_declared element.Buffer refl d f
    taken_buffer kind y d f = absurd cc

    taken_variable : (kind : Kind) → (is_param kind || is_variable kind) ≡ true → is_declared_here here.inside ≡ true → Faultless reads here before l.sheet e kind
        → list_any (λ (x : Variable). x.group == here.group && is_same x.name (name (values reads here kind e))) l.sheet.variables ≡ false
    taken_variable element.Param y d f = fresh_declared element.Param refl d f
    taken_variable element.Variable y d f = fresh_declared element.Variable refl d f
    taken_variable kind y d f = absurd cc

    -- a transform has no name
    transform_nameless : (d : Dialect) (in_body : Bool) → value_at (codes "name") (values_found (rows d in_body element.Transform) (found_at reads d (scope_at here e) (rows d in_body element.Transform) e.attrs)) ≡ None
    transform_nameless One in_body = absent reads One (scope_at here e) (rows One in_body element.Transform) e.attrs (codes "name") refl
    transform_nameless OneOne in_body = absent reads OneOne (scope_at here e) (rows OneOne in_body element.Transform) e.attrs (codes "name") refl

    -- a group's name is new
    group_fresh : (kind : Kind) → Faultless reads here before l.sheet e kind → makes_group kind ≡ true → (n : Name) → as_name (value_at (codes "name") (values reads here kind e)) ≡ Some n → has_group l.sheet n ≡ false
    group_fresh element.Group f y n is =
        let d = group_place here.inside before (last_of before) f.allowed in
        sym (ap (λ b. if b then is_taken l.sheet here.group element.Group n else is_taken_in_body (locals_at here before) before element.Group n) d)
        ∙ found_fresh (is_duplicate here before l.sheet element.Group) (as_name (value_at (codes "name") (values reads here element.Group e))) n is f.declares
    group_fresh element.Transform f y n is =
        absurd (let none : value_at (codes "name") (values reads here element.Transform e) ≡ None = transform_nameless here.version.dialect (not (is_declared_here here.inside)) in let x : None ≡ Some n = sym (ap as_name none) ∙ is in cc)
    group_fresh kind f y n is = absurd cc

  -- Where a list begins nothing is said.
  list_start : (t : Sheet) (here : Context) → (is_sheet_list here.inside ≡ true → here.locals ≡ []) → ListOk t here []
  list_start t here n = record {
    list = record { says = tt; first = tt; bare = λ e. refl; apart = none_distinct; plain = λ e. refl; one = λ e. tt };
    outer = λ e. (n e, refl);
  }

  -- the list of an element begins without locals, where declarations stand in it
  element_start : (t : Sheet) (here : Context) (before : List Item) (l : Loading) (e : Element) (kind : Kind) (m : Loading) → Faultless reads here before l.sheet e kind → ListOk t here before → ListOk t (in_element reads files here before kind e m) []
  element_start t here before l e kind m f ok = list_start t (in_element reads files here before kind e m) (λ o. by (is_sheet_list here.inside) refl (makes_group kind) refl o) where
    by : (b : Bool) → is_sheet_list here.inside ≡ b → (c : Bool) → makes_group kind ≡ c → is_sheet_list (inside_of here.inside kind (has_select (values reads here kind e))) ≡ true → locals_at here before ++ own_locals kind (values reads here kind e) ≡ []
    by b p false g o = absurd (let x : true ≡ false = sym o ∙ inner_list here.inside kind (has_select (values reads here kind e)) g in cc)
    by false p true g o = absurd (let a = allowed_body (behind here.inside before) (last_of before) kind (behind_sheet_list here.inside before ∙ p) f.allowed in let x : true ≡ false = sym g ∙ a.0 in cc)
    by true p true g o =
        let n = ok.outer p in
        ap (λ x. locals_at here before ++ x) (group_locals kind (values reads here kind e) g) ∙ no_locals_here t here before l e n

  -- What a text comes to.
  text_more : (t : Sheet) (here : Context) (before : List Item) (offset : ℕ) (said : List ℕ) → allows_text here.inside ≡ true → ListOk t here before → ListOk t here (before ++ text_item reads files here offset said here.inside)
  text_more t here before offset said a ok =
      let xs = text_item reads files here offset said here.inside in
      let p = text_place here.inside a in
      list_more t here before xs ok (record {
        says = text_says here.inside;
        first = first_more before xs ok.list.first (text_params here.inside);
        bare = λ e. text_params here.inside;
        apart = apart_same before xs (text_values here.inside) ok.list.apart;
        plain = λ e. text_locals here.inside;
        one = λ e. absurd (let x : true ≡ false = sym e ∙ p.0 in cc);
        outer = λ e. absurd (let x : true ≡ false = sym e ∙ p.1 in cc);
      })
    where
      says_text : ItemsSay t here.group (here.locals ++ locals_of before) (Instruction (instr.LiteralChars said (place here offset)) ∷ [])
      says_text =
          let locals = here.locals ++ locals_of before in (
            instr_ok t here.group locals (instr.LiteralChars said (place here offset)) (Instr-F.LiteralChars said (place here offset)) (rolls-LiteralChars said (place here offset))
                (λ known b. own_good t here.group known locals (inner_said (Instr-F.LiteralChars said (place here offset))) b (no_es t here.group locals) (no_ts t here.group locals) (no_ps t here.group locals) (no_bound t here.group) (no_names t here.group GroupNamed) (no_names t here.group ProcedureNamed) (no_names t here.group BufferNamed) none_distinct (no_bound t here.group)),
            tt,
          )

      text_says : (list : Inside) → ItemsSay t here.group (here.locals ++ locals_of before) (text_item reads files here offset said list)
      text_says (Characters b) = (tt, tt)
      text_says Parts = (tt, tt)
      text_says (Document b) = says_text
      text_says (Declarations b) = says_text
      text_says Start_of_body = says_text
      text_says Body = says_text
      text_says Branches = says_text
      text_says With_params = says_text
      text_says Nothing = says_text

      text_params : (list : Inside) → params (text_item reads files here offset said list) ≡ []
      text_params (Document b) = refl
      text_params (Declarations b) = refl
      text_params Start_of_body = refl
      text_params Body = refl
      text_params Branches = refl
      text_params With_params = refl
      text_params (Characters b) = refl
      text_params Parts = refl
      text_params Nothing = refl

      text_values : (list : Inside) → making.with_params (text_item reads files here offset said list) ≡ []
      text_values (Document b) = refl
      text_values (Declarations b) = refl
      text_values Start_of_body = refl
      text_values Body = refl
      text_values Branches = refl
      text_values With_params = refl
      text_values (Characters b) = refl
      text_values Parts = refl
      text_values Nothing = refl

      text_locals : (list : Inside) → locals_of (text_item reads files here offset said list) ≡ []
      text_locals (Document b) = refl
      text_locals (Declarations b) = refl
      text_locals Start_of_body = refl
      text_locals Body = refl
      text_locals Branches = refl
      text_locals With_params = refl
      text_locals (Characters b) = refl
      text_locals Parts = refl
      text_locals Nothing = refl

  -- What a literal element comes to.
  literal_more : (t : Sheet) (here : Context) (before : List Item) (l : Loading) (e : Element) (items : List Item) → allows_literals here.inside ≡ true → are_parts here.inside ≡ false
      → AllFound t (behind_literal reads files here before e l).references → ListOk t (in_literal reads files here before e) items → ListOk t here before → ListOk t here (before ++ literal_item reads files here e items)
  literal_more t here before l e items a p refs inner ok =
      let xs = literal_item reads files here e items in
      let q = literal_place here.inside a p in
      let locals = locals_at here before in
      let attrs = attrs_of reads files here e in
      let at = place here e.offset in
      let named = flat_map (λ (x : LiteralAttr). template_variables x.value) attrs in
      let vars = variables_referred t here.group at locals named (All-back (λ (r : Reference). is_found t r.sought ≡ true) l.references (to_variables at locals here.group named) refs) in
      let ts = All-map (λ (x : Avt). VarsOk t here.group locals (template_variables x)) (λ (x : LiteralAttr). x.value) attrs (flat_all (λ (x : LiteralAttr). template_variables x.value) (VarOk t here.group locals) attrs vars) in
      list_more t here before xs ok (record {
        says = (
          instr_ok t here.group locals (instr.Literal e.name attrs (body items) at) (Instr-F.Literal e.name attrs (body items) at) (rolls-Literal e.name attrs (body items) at)
              (λ known b. own_good t here.group known locals (inner_said (Instr-F.Literal e.name attrs (body items) at)) b (no_es t here.group locals) ts (no_ps t here.group locals) (no_bound t here.group) (no_names t here.group GroupNamed) (no_names t here.group ProcedureNamed) (no_names t here.group BufferNamed) none_distinct
              (body_says t here.group locals items known (inner.list.bare refl) inner.list.says b)),
          tt,
        );
        first = first_more before xs ok.list.first refl;
        bare = λ x. refl;
        apart = apart_same before xs refl ok.list.apart;
        plain = λ x. refl;
        one = λ x. absurd (let y : true ≡ false = sym x ∙ q.0 in cc);
        outer = λ x. absurd (let y : true ≡ false = sym x ∙ q.1 in cc);
      })

  copy_more : (t : Sheet) (here : Context) (before : List Item) (ps : List Part) → here.inside ≡ Parts → ListOk t here before → ListOk t here (before ++ map A_part ps)
  copy_more t here before ps i ok =
      list_more t here before (map A_part ps) ok (record {
        says = parts_say t here.group (here.locals ++ locals_of before) ps;
        first = first_more before (map A_part ps) ok.list.first (parts_no_params ps);
        bare = λ x. parts_no_params ps;
        apart = apart_same before (map A_part ps) (parts_no_values ps) ok.list.apart;
        plain = λ x. parts_no_locals ps;
        one = λ x. absurd (let y : true ≡ false = sym x ∙ ap are_branches i in cc);
        outer = λ x. absurd (let y : true ≡ false = sym x ∙ ap is_sheet_list i in cc);
      })

  -- What an element adds, where declarations stand.
  element_adds : (t : Sheet) (here : Context) (before : List Item) (l : Loading) (e : Element) (kind : Kind) (inner : Listed) (last : ℕ) → Faultless reads here before l.sheet e kind → is_declared_here here.inside ≡ true
      → AllFound t (references (place here e.offset) here before l.sheet kind (values reads here kind e)) → (makes_group kind ≡ false → inner.loading.sheet ≡ l.sheet) → ListOk t here before
      → ListSays t (group_within here.group last kind) (locals_at here before ++ own_locals kind (values reads here kind e)) (inside_of here.inside kind (has_select (values reads here kind e))) inner.items
      → Adds t here e.offset kind (values reads here kind e) inner.loading.sheet inner.items
  element_adds t here before l e kind inner last f d refs still ok says =
      let v = values reads here kind e in
      let outer = ok.outer (declared_list here.inside d) in
      record {
        pattern = λ y. match_ok t here before l e kind refs;
        said = λ y. said_at t here before l e outer kind last (has_select v) inner.items y says;
        declared = λ y. subst (λ s. All (HasVariable s s.variables here.group) (flat_map variables (option_to_list (as_expression (value_at (codes "select") v))))) (sym (still (variable_no_group kind y))) (earlier_ok t here before l e kind refs d);
        procedure = λ y. subst (λ s. list_any (λ (p : Procedure). p.group == here.group && is_same p.name (name v)) s.procedures ≡ false) (sym (still (procedure_no_group kind y))) (taken_procedure t here before l e kind y d f);
        buffer = λ y. subst (λ s. list_any (λ (b : Buffer). b.group == here.group && is_same b.name (name v)) s.buffers ≡ false) (sym (still (buffer_no_group kind y))) (taken_buffer t here before l e kind y d f);
        variable = λ y. subst (λ s. list_any (λ (x : Variable). x.group == here.group && is_same x.name (name v)) s.variables ≡ false) (sym (still (variable_no_group kind y))) (taken_variable t here before l e kind y d f);
      }

  -- an include adds nothing itself
  include_adds : (t : Sheet) (here : Context) (at : ℕ) (kind : Kind) (v : Values) (s : Sheet) (items : List Item) → is_include kind ≡ true → Adds t here at kind v s items
  include_adds t here at element.Include v s items i = record { pattern = λ y. absurd cc; said = λ y. absurd cc; declared = λ y. absurd cc; procedure = λ y. absurd cc; buffer = λ y. absurd cc; variable = λ y. absurd cc }
  include_adds t here at kind v s items i = absurd cc

  -- an element, once its list is read
  element_done : (t : Sheet) (here : Context) (before : List Item) (l : Loading) (e : Element) (kind : Kind) (inner : Listed) (m : Loading) → Faultless reads here before l.sheet e kind
      → AllFound t (references (place here e.offset) here before l.sheet kind (values reads here kind e))
      → (is_declared_here here.inside ≡ true → Adds t here e.offset kind (values reads here kind e) inner.loading.sheet inner.items)
      → SheetOk t inner.loading.sheet → ListOk t (in_element reads files here before kind e m) inner.items → ListOk t here before
      → SheetOk t (element_made reads files here e kind inner).loading.sheet × ListOk t here (before ++ (element_made reads files here e kind inner).items)
  element_done t here before l e kind inner m f refs adds s i ok = by (is_declared_here here.inside) refl where
    plain_done : is_declared_here here.inside ≡ false → (g : Bool) → makes_group kind ≡ g → ListOk t here (before ++ item kind here.group (place here e.offset) (scope_at here e) (values reads here kind e) inner.items)
    plain_done d true g = none_more t here before (item kind here.group (place here e.offset) (scope_at here e) (values reads here kind e) inner.items) (group_item here.group (place here e.offset) (scope_at here e) (values reads here kind e) inner.items kind g) ok
    plain_done d false g =
        element_more t here before l e kind (has_select (values reads here kind e)) inner.items f d g (tag_says t here before l e kind refs d f)
        (subst (λ b. ListSays t (if b then length m.sheet.groups - 1 else here.group) (locals_at here before ++ own_locals kind (values reads here kind e)) (inside_of here.inside kind (has_select (values reads here kind e))) inner.items) g i.list) ok

    by : (b : Bool) → is_declared_here here.inside ≡ b
        → SheetOk t (if b then listed [] (ended here e.offset kind (values reads here kind e) inner) else listed (item kind here.group (place here e.offset) (scope_at here e) (values reads here kind e) inner.items) inner.loading).loading.sheet
        × ListOk t here (before ++ (if b then listed [] (ended here e.offset kind (values reads here kind e) inner) else listed (item kind here.group (place here e.offset) (scope_at here e) (values reads here kind e) inner.items) inner.loading).items)
    by true d = (ended_ok t here e.offset kind (values reads here kind e) inner s (adds d), none_more t here before [] refl ok)
    by false d = (s, plain_done d (makes_group kind) refl)

  -- A list that is read keeps all of it.
  came_named : (t : Sheet) {here : Context} {before : List Item} {list : Forest} {l : Loading} {r : Listed} → Came reads files here before list l r
      → is_own here.inside ≡ false → AllFound t r.loading.references → SheetOk t l.sheet → ListOk t here before → SheetOk t r.loading.sheet × ListOk t here r.items
  came_named t (at_end here before mark offset l) o found s ok = (s, ok)
  came_named t (passes here before mark leaf next l r c) o found s ok = came_named t c o found s ok
  came_named t (speaks here before mark leaf offset said next l r y a c) o found s ok = came_named t c o found s (text_more t here before offset said a ok)
  came_named t (makes here before stage e kids next l kind inner r f i c q n) o found s ok =
      let v = values reads here kind e in
      let fl = faultless reads here before l.sheet e kind f in
      let fi = made_found reads files t here e kind inner (came_found reads files t n found) in
      let fq = tag_found reads files t here before e kind l (came_found reads files t c fi) in
      let refs = All-back (λ (x : Reference). is_found t x.sought ≡ true) l.references (references (place here e.offset) here before l.sheet kind v) fq in
      let m = behind_tag reads files here before e kind l in
      let b = begun_ok t here e.offset kind v (referring reads files here before e kind l) o s (group_fresh t here before l e kind fl) in
      let k = came_named t c (inner_lists here.inside kind (has_select v)) fi b (element_start t here before l e kind m fl ok) in
      let still : makes_group kind ≡ false → inner.loading.sheet ≡ l.sheet =
      λ g. came_still c (inner_list here.inside kind (has_select v) g) ∙ begun_still here e.offset kind v (referring reads files here before e kind l) o g in
      let d = element_done t here before l e kind inner m fl refs
      (λ y. element_adds t here before l e kind inner (length m.sheet.groups - 1) fl y refs still ok k.1.list) k.0 k.1 ok in
      came_named t n o found d.0 d.1
  came_named t (includes here before stage e kids next l kind file m inner r f i g b c q n) o found s ok =
      let v = values reads here kind e in
      let fl = faultless reads here before l.sheet e kind f in
      let fi = made_found reads files t here e kind inner (came_found reads files t n found) in
      let fm = came_found reads files t c fi in
      let fq = tag_found reads files t here before e kind l (came_found reads files t b fm) in
      let refs = All-back (λ (x : Reference). is_found t x.sought ≡ true) l.references (references (place here e.offset) here before l.sheet kind v) fq in
      let start = behind_tag reads files here before e kind l in
      let w = begun_ok t here e.offset kind v (referring reads files here before e kind l) o s (group_fresh t here before l e kind fl) in
      let y = came_named t b refl fm (with_file_ok t (href_of reads files here e kind) start w) (list_start t (in_file here (length start.sheet.files) (href_of reads files here e kind) file) (λ z. refl)) in
      let k = came_named t c (inner_lists here.inside kind (has_select v)) fi y.0 (element_start t here before l e kind m.loading fl ok) in
      let d = element_done t here before l e kind inner m.loading fl refs (λ z. include_adds t here e.offset kind v inner.loading.sheet inner.items i) k.0 k.1 ok in
      came_named t n o found d.0 d.1
  came_named t (writes here before stage e kids next l inner r a p q c n) o found s ok =
      let fi = came_found reads files t n found in
      let fb = came_found reads files t c fi in
      let k = came_named t c refl fi s (list_start t (in_literal reads files here before e) (λ z. absurd cc)) in
      came_named t n o found k.0 (literal_more t here before l e inner.items a p fb k.1 ok)
  came_named t (copies here before stage e kids next l inner r i c n) o found s ok =
      let fi = came_found reads files t n found in
      let k = came_named t c o fi s (list_start t (in_copy reads files here e) (λ z. absurd (let x : true ≡ false = sym z ∙ ap is_sheet_list i in cc))) in
      came_named t n o found k.0 (copy_more t here before (element_parts reads files e (parts inner.items)) i ok)

  -- The sheet's own file.

  own_text : (here : Context) → here.inside ≡ Document false → allows_text here.inside ≡ true → ⊥
  own_text here i a = absurd (let x : false ≡ true = sym (ap allows_text i) ∙ a in cc)

  -- behind the root nothing comes
  came_rest : {here : Context} {before : List Item} {list : Forest} {l : Loading} {r : Listed} → Came reads files here before list l r → here.inside ≡ Document false → HasNoElement list → r.loading ≡ l
  came_rest (at_end here before mark offset l) i d = refl
  came_rest (passes here before mark leaf next l r c) i d = came_rest c i d
  came_rest (speaks here before mark leaf offset said next l r y a c) i d = absurd (own_text here i a)
  came_rest (makes here before stage e kids next l kind inner r f j c q n) i d = absurd d
  came_rest (includes here before stage e kids next l kind file m inner r f j g b c q n) i d = absurd d
  came_rest (writes here before stage e kids next l inner r a p q c n) i d = absurd d
  came_rest (copies here before stage e kids next l inner r j c n) i d = absurd d

  came_root : (t : Sheet) {here : Context} {before : List Item} {list : Forest} {l : Loading} {r : Listed} → Came reads files here before list l r → here.inside ≡ Document false → IsDocument list
      → AllFound t r.loading.references → l.sheet.variables ≡ [] → SheetOk t l.sheet → ListOk t here before → SheetOk t r.loading.sheet
  came_root t (at_end here before mark offset l) i d found z s ok = absurd d
  came_root t (passes here before mark leaf next l r c) i d found z s ok = came_root t c i d found z s ok
  came_root t (speaks here before mark leaf offset said next l r y a c) i d found z s ok = absurd (own_text here i a)
  came_root t (makes here before stage e kids next l kind inner r f j c q n) i d found z s ok =
      let v = values reads here kind e in
      let fl = faultless reads here before l.sheet e kind f in
      let fi = made_found reads files t here e kind inner (came_found reads files t n found) in
      let fq = tag_found reads files t here before e kind l (came_found reads files t c fi) in
      let refs = All-back (λ (x : Reference). is_found t x.sought ≡ true) l.references (references (place here e.offset) here before l.sheet kind v) fq in
      let m = behind_tag reads files here before e kind l in
      let b = root_ok t here e.offset kind v (referring reads files here before e kind l) (ap is_own i) z s in
      let k = came_named t c (inner_lists here.inside kind (has_select v)) fi b (element_start t here before l e kind m fl ok) in
      let w = element_done t here before l e kind inner m fl refs (λ y. absurd (let x : false ≡ true = sym (ap is_declared_here i) ∙ y in cc)) k.0 k.1 ok in
      subst (λ (x : Loading). SheetOk t x.sheet) (sym (came_rest n i d)) w.0
  came_root t (includes here before stage e kids next l kind file m inner r f j g b c q n) i d found z s ok =
      let fl = faultless reads here before l.sheet e kind f in
      absurd (no_include kind j (subst (λ x. is_allowed (behind x before) (last_of before) kind ≡ true) i fl.allowed))
  came_root t (writes here before stage e kids next l inner r a p q c n) i d found z s ok = absurd (let x : false ≡ true = sym (ap allows_literals i) ∙ a in cc)
  came_root t (copies here before stage e kids next l inner r j c n) i d found z s ok = absurd (let x : false ≡ true = sym (ap are_parts i) ∙ ap are_parts j in cc)

pub whole_named : (reads : Reads) (files : List (Option File)) (name : List ℕ) (file : File) (r : Listed) → IsDocument file.nodes → CameWhole reads files name file r → NamesAreFound r.loading.sheet × NamesAreNew r.loading.sheet
whole_named reads files name file r d c =
    let t = r.loading.sheet in
    let none : SheetOk t (nothing name).sheet = record {
      patterns = All-nil (λ (x : Template). All (IsFound t x.group) (free [] (pattern_variables x.pattern)));
      templates = All-nil (λ (x : Template). All (Good t x.group) (template_says x));
      procedures = All-nil (λ (x : Procedure). All (Good t x.group) (procedure_says x));
      declarations = λ n v at. absurd cc;
      groups = none_distinct;
      apart_procedures = λ i j x lt in_it. absurd (omega (arith, in_it));
      apart_buffers = λ i j x lt in_it. absurd (omega (arith, in_it));
      apart_variables = λ i j x lt in_it. absurd (omega (arith, in_it));
    } in
    let s = came_root reads files t c.0 refl d (none_lost t r.loading.references c.1) refl none (list_start reads files t (at_start name file) (λ z. refl)) in (
      record {
        declarations = s.declarations;
        patterns = s.patterns;
        templates = λ n x i k y j. (s.templates n x i k y j).0;
        procedures = λ n x i k y j. (s.procedures n x i k y j).0;
      },
      record {
        groups = s.groups;
        procedures = s.apart_procedures;
        buffers = s.apart_buffers;
        variables = s.apart_variables;
        in_templates = λ n x i k y j. (s.templates n x i k y j).1;
        in_procedures = λ n x i k y j. (s.procedures n x i k y j).1;
      },
    )
