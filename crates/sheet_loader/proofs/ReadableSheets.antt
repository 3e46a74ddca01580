-- In a sheet that is given each expression, pattern and template is one that some text is read as, and what a copy takes along are tests of attributes.
use Rattle.std.proofs.Common.{◌≡◌, ℕ, Bool, true, false, ◌&&◌, ◌||◌, ◌==◌, List, [], ◌∷◌, ◌++◌, Option, Some, None, IfSome, Ok, Err, codes, length, refl, map, arith, if◌then◌else◌}
use Rattle.std.proofs.lemmas.Bool.{eqb-true}
use Rattle.std.proofs.lemmas.List.Elements.{All-append, All-cons, All-map, All-nil}
use Rattle.std.specs.List.{All, flat_map, list_all}
use Rattle.std.specs.Option.{option_to_list}
use Rattle.stx_base.specs.declared.fault.Place.{Place}
use Rattle.stx_base.specs.declared.fault.SheetCode.TheVariants as code
use Rattle.stx_base.specs.declared.name.Attr.{Attr}
use Rattle.stx_base.specs.declared.name.Binding.{Binding}
use Rattle.stx_base.specs.declared.name.Name.{Name}
use Rattle.stx_base.specs.declared.node.NodeTest.{NodeTest}
use Rattle.stx_base.specs.declared.node.NodeTest.TheVariants as test
use Rattle.stxpath_syntax.specs.Readable.{IsReadable, IsReadablePattern, IsReadableTemplate}
use Rattle.stxpath_syntax.specs.Template.{IsTemplate, Read, Template}
use Rattle.stxpath_syntax.specs.declared.dialect.Dialect.{Dialect}
use Rattle.stxpath_syntax.specs.declared.dialect.Dialect.TheVariants.{One}
use Rattle.stxpath_syntax.specs.declared.expr.Alternative.{Alternative}
use Rattle.stxpath_syntax.specs.declared.expr.Alternative.TheVariants.{Root, Steps}
use Rattle.stxpath_syntax.specs.declared.expr.Avt.{Avt}
use Rattle.stxpath_syntax.specs.declared.expr.AvtPart.{AvtPart}
use Rattle.stxpath_syntax.specs.declared.expr.Expr.{Expr}
use Rattle.stxpath_syntax.specs.declared.expr.Expr.TheVariants as expression
use Rattle.stxpath_syntax.specs.declared.expr.Link.{Link}
use Rattle.stxpath_syntax.specs.declared.expr.Link.TheVariants as link
use Rattle.stxpath_syntax.specs.declared.expr.Pattern.{Pattern}
use Rattle.sheet_model.specs.Body.{inner}
use Rattle.sheet_model.specs.Parts.{conditions, content_expression, copied_attributes, expressions, templates, variables_named}
use Rattle.sheet_model.specs.Sound.{AreReadablePatterns, AreReadableTemplates, CopiesAttributes, IsAttributeTest, IsOfAttributes, IsReadableSheet, IsSpelled}
use Rattle.sheet_model.specs.declared.instr.Instr.{Instr}
use Rattle.sheet_model.specs.declared.instr.Instr.TheVariants as instr
use Rattle.sheet_model.specs.declared.instr.Instr.TheOpen.{Instr-F}
use Rattle.sheet_model.specs.declared.instr.Instr.TheViews.{roll-Instr, rolls-Assign, rolls-Attribute, rolls-CallProcedure, rolls-Chars, rolls-Choose, rolls-Comment, rolls-Copy, rolls-Element, rolls-EndElement, rolls-ForEachItem, rolls-Literal, rolls-LiteralChars, rolls-Local, rolls-Message, rolls-Pi, rolls-ProcessAttributes, rolls-ProcessBuffer, rolls-ProcessChildren, rolls-ProcessDocument, rolls-ProcessSelf, rolls-ProcessSiblings, rolls-ResultBuffer, rolls-StartElement, rolls-ValueOf, rolls-While}
use Rattle.sheet_model.specs.declared.instr.LiteralAttr.{LiteralAttr}
use Rattle.sheet_model.specs.declared.instr.When.{When}
use Rattle.sheet_model.specs.declared.instr.WithParam.{WithParam}
use Rattle.sheet_model.specs.declared.sheet.Procedure.{Procedure}
use Rattle.sheet_model.specs.declared.sheet.Sheet.{Sheet}
use Rattle.sheet_model.specs.declared.sheet.Template as sheet
use Rattle.sheet_model.specs.declared.sheet.Variable.{Variable}
use Rattle.xml_events.specs.Tree.{Element, Forest}
use Rattle.sheet_loader.proofs.Bodies.{BodyIs, ItemsAre, all_if, both_are, in_body, in_branches, in_otherwise, branches_are, items_append, none_is, one_by, params_are, parts_are, sheet_is, values_are}
use Rattle.sheet_loader.proofs.Came.{Came, CameWhole, at_end, copies, includes, makes, passes, speaks, writes, attrs_of, copied_items, element_made, literal_item, referring}
use Rattle.sheet_loader.proofs.FoundValues.{Faultless, ReadableAt, faultless, has_expression, has_name, has_pattern, present, row_at, values_readable}
use Rattle.sheet_loader.specs.Attributes.{Expression, Named, Patterned, Row, Tests, optional, required}
use Rattle.sheet_loader.specs.Elements as element
use Rattle.sheet_loader.specs.Elements.{Kind, Inside, Document, Declarations, Start_of_body, Body, Branches, With_params, Characters, Parts, Nothing, is_own, is_param, is_procedure, is_template, is_variable, makes_group}
use Rattle.sheet_loader.specs.Judging.{is_declared_here, rows_of, scope_at, value_found, values}
use Rattle.sheet_loader.specs.Load.{nothing}
use Rattle.sheet_loader.specs.Making.{Values, as_expression, as_name, as_pattern, as_template, body, branches, characters, content_in, content_of, group_in, is_yes, item, name, or_else, otherwise, params, parts, pattern, select, template, value_at, variable, with_params}
use Rattle.sheet_loader.specs.Making as making
use Rattle.sheet_loader.specs.Read.{begun, element_parts, ended, listed, literal_attrs, made, parts_of_template, procedure_at, template_at, text_item, with_group, with_root}
use Rattle.sheet_loader.specs.Reading.{Context, File, Instruction, Item, Listed, Loading, place}
use Rattle.sheet_loader.specs.Tags.{Found, found_by, text_at}
use Rattle.sheet_loader.specs.Values.{A_name, A_pattern, A_template, An_expression, Reads, Value, are_tests, is_attribute_test, is_bare, read, read_tests}

-- what is so of an instruction, a branch, a parameter and a value for one

abbrev Fine : Instr-F Instr When → Type 0
Fine x =
    All IsReadable (expressions (λ (w : When). w.test) x)
    × AreReadableTemplates (templates x)
    × AreReadablePatterns (conditions x)
    × AreReadablePatterns (copied_attributes x)
    × All (λ (p : Pattern). All IsAttributeTest p.alternatives) (copied_attributes x)
    × All IsSpelled (variables_named x)

abbrev TestIs : When → Type 0
TestIs w = IsReadable w.test

abbrev SelectIs : Variable → Type 0
SelectIs v = IsSpelled v.name × IfSome v.select IsReadable

abbrev HandedIs : WithParam → Type 0
HandedIs p = IsReadable p.select

abbrev ItemsFine : List Item → Type 0
ItemsFine items = ItemsAre Fine TestIs SelectIs HandedIs items

abbrev BodyFine : List Instr → Type 0
BodyFine is = BodyIs Fine TestIs SelectIs HandedIs is

-- what stands by a name

empty_readable : IsReadableTemplate []
empty_readable = (One, [], [], Template.end 0)

or_template : (o : Option Value) → ReadableAt o → IsReadableTemplate (or_else (record { parts = [] }) (as_template o)).parts
or_template (Some (A_template parts)) h = h
or_template o h = empty_readable

maybe_template : (o : Option Value) → ReadableAt o → AreReadableTemplates (option_to_list (as_template o))
maybe_template (Some (A_template parts)) h = All-cons (λ (t : Avt). IsReadableTemplate t.parts) (record { parts = parts }) [] h (All-nil (λ (t : Avt). IsReadableTemplate t.parts))
maybe_template o h = All-nil (λ (t : Avt). IsReadableTemplate t.parts)

maybe_pattern : (o : Option Value) → ReadableAt o → AreReadablePatterns (option_to_list (as_pattern o))
maybe_pattern (Some (A_pattern all)) h = All-cons (λ (p : Pattern). IsReadablePattern p.alternatives) (record { alternatives = all }) [] h (All-nil (λ (p : Pattern). IsReadablePattern p.alternatives))
maybe_pattern o h = All-nil (λ (p : Pattern). IsReadablePattern p.alternatives)

maybe_expression : (o : Option Value) → ReadableAt o → All IsReadable (option_to_list (as_expression o))
maybe_expression (Some (An_expression x)) h = All-cons IsReadable x [] h (All-nil IsReadable)
maybe_expression o h = All-nil IsReadable

if_expression : (o : Option Value) → ReadableAt o → IfSome (as_expression o) IsReadable
if_expression (Some (An_expression x)) h = h
if_expression o h = tt

content_fine : (o : Option Value) (items : List Item) → ReadableAt o → All IsReadable (content_expression (content_of (as_expression o) items))
content_fine (Some (An_expression x)) items h = All-cons IsReadable x [] h (All-nil IsReadable)
content_fine o items h = All-nil IsReadable

or_expression : (o : Option Value) → ReadableAt o → ((x : Expr) × (as_expression o ≡ Some x)) → IsReadable (or_else (expression.Seq []) (as_expression o))
or_expression (Some (An_expression x)) h there = h
or_expression o h there = absurd (let e = there.1 in cc)

or_pattern : (o : Option Value) → ReadableAt o → ((all : List Alternative) × (o ≡ Some (A_pattern all))) → IsReadablePattern (or_else (record { alternatives = [] }) (as_pattern o)).alternatives
or_pattern (Some (A_pattern all)) h there = h
or_pattern o h there = absurd (let e = there.1 in cc)

-- Tests of attributes.

abbrev pub TestsAt : Option Value → Type 0
TestsAt (Some (A_pattern all)) = All IsAttributeTest all
TestsAt o = Unit {0}

abbrev TestsFound : Found → Type 0
TestsFound (Some (Ok value)) = TestsAt (Some value)
TestsFound f = Unit {0}

three : (a b c : Bool) → (a && b && c) ≡ true → (a ≡ true) × (b ≡ true) × (c ≡ true)
three true true true h = (refl, refl, refl)
three true true false h = absurd cc
three true false true h = absurd cc
three true false false h = absurd cc
three false b c h = absurd cc

is_start : (l : Link) → is_bare l ≡ true → l ≡ link.Start
is_start link.Start h = refl
is_start link.Slash h = absurd cc
is_start link.Deep h = absurd cc

of_attributes : (t : NodeTest) → is_attribute_test t ≡ true → IsOfAttributes t
of_attributes (test.AttrName n) h = tt
of_attributes (test.AttrPrefix b) h = tt
of_attributes test.AnyAttr h = tt
of_attributes t h = absurd cc

no_predicates : (xs : List Expr) → (length xs == 0) ≡ true → xs ≡ []
no_predicates [] h = refl
no_predicates (x ∷ xs) h = absurd (let e : length (x ∷ xs) ≡ 0 = eqb-true (length (x ∷ xs)) 0 h in omega (arith, e))

test_is : (a : Alternative) → are_tests a ≡ true → IsAttributeTest a
test_is Root h = absurd cc
test_is (Steps []) h = absurd cc
test_is (Steps (s ∷ [])) h =
    let t = three (is_bare s.link) (is_attribute_test s.test) (length s.predicates == 0) h in
    (is_start s.link t.0, no_predicates s.predicates t.2, of_attributes s.test t.1)
test_is (Steps (s ∷ t ∷ more)) h = absurd cc

two : (a b : Bool) → (a && b) ≡ true → (a ≡ true) × (b ≡ true)
two true b h = (refl, h)
two false b h = absurd cc

tests_are : (all : List Alternative) → list_all are_tests all ≡ true → All IsAttributeTest all
tests_are [] h = All-nil IsAttributeTest
tests_are (a ∷ all) h =
    let t = two (are_tests a) (list_all are_tests all) h in All-cons IsAttributeTest a all (test_is a t.0) (tests_are all t.1)

tests_read : (r : Read (List Alternative)) → TestsFound (Some (read_tests r))
tests_read (Err why) = tt
tests_read (Ok all) = of_tests (list_all are_tests all) refl where
  of_tests : (b : Bool) → list_all are_tests all ≡ b → TestsFound (Some (if b then Ok (A_pattern all) else Err code.BadValue))
  of_tests true e = tests_are all e
  of_tests false e = tt

abbrev copied_row : Row
copied_row = optional (codes "attributes") Tests

tests_at : (f : Found) → TestsFound f → TestsAt (value_at (codes "attributes") (value_found copied_row f ++ []))
tests_at (Some (Ok value)) h = h
tests_at (Some (Err why)) h = tt
tests_at None h = tt

maybe_tests : (o : Option Value) → TestsAt o → All (λ (p : Pattern). All IsAttributeTest p.alternatives) (option_to_list (as_pattern o))
maybe_tests (Some (A_pattern all)) h = All-cons (λ (p : Pattern). All IsAttributeTest p.alternatives) (record { alternatives = all }) [] h (All-nil (λ (p : Pattern). All IsAttributeTest p.alternatives))
maybe_tests o h = All-nil (λ (p : Pattern). All IsAttributeTest p.alternatives)

-- What the values of a kind have to be for its instruction: those that are required, and tests.

abbrev pub HasSelect : List ℕ → Values → Type 0
HasSelect word v = (x : Expr) × (as_expression (value_at word v) ≡ Some x)

-- a name that stands there is spelled
spelled_of : (o : Option Value) (n : Name) → as_name o ≡ Some n → ReadableAt o → IsSpelled (or_else making.nameless (as_name o))
spelled_of (Some (A_name m)) n is h = h
spelled_of o n is h = absurd cc

abbrev pub Needs : Kind → Values → Type 0
Needs element.Template v = (all : List Alternative) × (value_at (codes "match") v ≡ Some (A_pattern all))
Needs element.ValueOf v = HasSelect (codes "select") v
Needs element.Copy v = TestsAt (value_at (codes "attributes") v)
Needs element.If v = HasSelect (codes "test") v
Needs element.When v = HasSelect (codes "test") v
Needs element.ForEachItem v = HasSelect (codes "select") v × IsSpelled (name v)
Needs element.Param v = IsSpelled (name v)
Needs element.Variable v = IsSpelled (name v)
Needs element.While v = HasSelect (codes "test") v
Needs element.Assign v = HasSelect (codes "select") v
Needs element.WithParam v = HasSelect (codes "select") v
Needs other v = Unit {0}

module _ (reads : Reads) (here : Context) (before : List Item) (sheet : Sheet) (e : Element) where
  readable_at : (kind : Kind) (word : List ℕ) → ReadableAt (value_at word (values reads here kind e))
  readable_at kind word = values_readable reads here.version.dialect (scope_at here e) (rows_of here kind) e.attrs word

  -- a required name
  named_at : (kind : Kind) → row_at (codes "name") (rows_of here kind) ≡ Some (required (codes "name") Named) → Faultless reads here before sheet e kind → IsSpelled (name (values reads here kind e))
  named_at kind r f =
      let there = has_name reads here.version.dialect (scope_at here e) (codes "name") (values reads here kind e)
      (present reads here.version.dialect (scope_at here e) (rows_of here kind) e.attrs (codes "name") Named r f.complete f.paths) in
      spelled_of (value_at (codes "name") (values reads here kind e)) there.0 there.1 (readable_at kind (codes "name"))

  -- a required expression
  has_select_at : (word : List ℕ) (kind : Kind) → row_at word (rows_of here kind) ≡ Some (required word Expression) → Faultless reads here before sheet e kind → HasSelect word (values reads here kind e)
  has_select_at word kind r f =
      has_expression reads here.version.dialect (scope_at here e) word (values reads here kind e)
      (present reads here.version.dialect (scope_at here e) (rows_of here kind) e.attrs word Expression r f.complete f.paths)

  tests_found : (o : Option (List ℕ)) → TestsFound (found_by reads here.version.dialect (scope_at here e) Tests o)
  tests_found None = tt
  tests_found (Some said) = tests_read (reads.pattern here.version.dialect (scope_at here e) said)

  pub needs : (kind : Kind) → Faultless reads here before sheet e kind → Needs kind (values reads here kind e)
  needs element.Template f =
      has_pattern reads here.version.dialect (scope_at here e) (codes "match") (values reads here element.Template e)
      (present reads here.version.dialect (scope_at here e) (rows_of here element.Template) e.attrs (codes "match") Patterned refl f.complete f.paths)
  needs element.Copy f = tests_at (found_by reads here.version.dialect (scope_at here e) Tests (text_at e.attrs (codes "attributes"))) (tests_found (text_at e.attrs (codes "attributes")))
  needs element.ValueOf f = has_select_at (codes "select") element.ValueOf refl f
  needs element.ForEachItem f = (has_select_at (codes "select") element.ForEachItem refl f, named_at element.ForEachItem refl f)
  needs element.Param f = named_at element.Param refl f
  needs element.Variable f = named_at element.Variable refl f
  needs element.Assign f = has_select_at (codes "select") element.Assign refl f
  needs element.WithParam f = has_select_at (codes "select") element.WithParam refl f
  needs element.If f = has_select_at (codes "test") element.If refl f
  needs element.When f = has_select_at (codes "test") element.When refl f
  needs element.While f = has_select_at (codes "test") element.While refl f
  needs other f = tt

-- What an element comes to is fine, where its values and what stands in it are.

abbrev no_expressions : All IsReadable []
no_expressions = All-nil IsReadable

one_expression : (x : Expr) → IsReadable x → All IsReadable (x ∷ [])
one_expression x h = All-cons IsReadable x [] h (All-nil IsReadable)

no_templates : AreReadableTemplates []
no_templates = All-nil (λ (t : Avt). IsReadableTemplate t.parts)

more_templates : (t : Avt) (ts : List Avt) → IsReadableTemplate t.parts → AreReadableTemplates ts → AreReadableTemplates (t ∷ ts)
more_templates t ts h k = All-cons (λ (t : Avt). IsReadableTemplate t.parts) t ts h k

no_patterns : AreReadablePatterns []
no_patterns = All-nil (λ (p : Pattern). IsReadablePattern p.alternatives)

no_tests : All (λ (p : Pattern). All IsAttributeTest p.alternatives) []
no_tests = All-nil (λ (p : Pattern). All IsAttributeTest p.alternatives)

no_names : All IsSpelled []
no_names = All-nil IsSpelled

one_name : (n : Name) → IsSpelled n → All IsSpelled (n ∷ [])
one_name n h = All-cons IsSpelled n [] h (All-nil IsSpelled)

handed_fine : (ps : List WithParam) → All HandedIs ps → All IsReadable (map (λ (p : WithParam). p.select) ps)
handed_fine ps h = All-map IsReadable (λ (p : WithParam). p.select) ps h

tested_fine : (ws : List When) → All TestIs ws → All IsReadable (map (λ (w : When). w.test) ws ++ [])
tested_fine ws h = All-append IsReadable (map (λ (w : When). w.test) ws) [] (All-map IsReadable (λ (w : When). w.test) ws h) (All-nil IsReadable)

module _ (group : ℕ) (at : Place) (scope : List Binding) (v : Values) (list : List Item) (r : (word : List ℕ) → ReadableAt (value_at word v)) (h : ItemsFine list) where
  lone : (i : Instr) (x : Instr-F Instr When) → roll-Instr x ≡ i → Fine x → BodyFine (inner (λ (w : When). w.body) x) → ItemsFine (Instruction i ∷ [])
  lone i x e p b = (one_by Fine TestIs SelectIs HandedIs i x e p b, tt)

  nothing_in : BodyFine []
  nothing_in = none_is Fine TestIs SelectIs HandedIs

  inside : BodyFine (body list)
  inside = in_body Fine TestIs SelectIs HandedIs list h

  handed_in : All IsReadable (map (λ (p : WithParam). p.select) (with_params list))
  handed_in = handed_fine (with_params list) (values_are Fine TestIs SelectIs HandedIs list h)

  name_and_namespace : AreReadableTemplates (template (codes "name") v ∷ option_to_list (as_template (value_at (codes "namespace") v)))
  name_and_namespace =
      more_templates (template (codes "name") v) (option_to_list (as_template (value_at (codes "namespace") v)))
      (or_template (value_at (codes "name") v) (r (codes "name"))) (maybe_template (value_at (codes "namespace") v) (r (codes "namespace")))

  content_at : All IsReadable (content_expression (content_in v list) ++ [])
  content_at = All-append IsReadable (content_expression (content_in v list)) [] (content_fine (value_at (codes "select") v) list (r (codes "select"))) (All-nil IsReadable)

  local_fine : All IsReadable (option_to_list (as_expression (value_at (codes "select") v)) ++ [])
  local_fine = All-append IsReadable (option_to_list (as_expression (value_at (codes "select") v))) [] (maybe_expression (value_at (codes "select") v) (r (codes "select"))) (All-nil IsReadable)

  item_fine : (kind : Kind) → Needs kind v → ItemsFine (item kind group at scope v list)
  item_fine element.Transform n = tt
  item_fine element.Group n = tt
  item_fine element.Template n = tt
  item_fine element.Procedure n = tt
  item_fine element.Include n = tt
  item_fine element.Buffer n = tt
  item_fine element.Param n = ((n, if_expression (value_at (codes "select") v) (r (codes "select"))), tt)
  item_fine element.Variable n = (one_by Fine TestIs SelectIs HandedIs (instr.Local (name v) (as_expression (value_at (codes "select") v)) at) (Instr-F.Local (name v) (as_expression (value_at (codes "select") v)) at) (rolls-Local (name v) (as_expression (value_at (codes "select") v)) at) (local_fine, no_templates, no_patterns, no_patterns, no_tests, one_name (name v) n) nothing_in, tt)
  item_fine element.ValueOf n = lone (instr.ValueOf (select v) (as_template (value_at (codes "separator") v)) at) (Instr-F.ValueOf (select v) (as_template (value_at (codes "separator") v)) at) (rolls-ValueOf (select v) (as_template (value_at (codes "separator") v)) at) (one_expression (select v) (or_expression (value_at (codes "select") v) (r (codes "select")) n), maybe_template (value_at (codes "separator") v) (r (codes "separator")), no_patterns, no_patterns, no_tests, no_names) nothing_in
  item_fine element.Chars n = lone (instr.Chars (characters list) at) (Instr-F.Chars (characters list) at) (rolls-Chars (characters list) at) (no_expressions, no_templates, no_patterns, no_patterns, no_tests, no_names) nothing_in
  item_fine element.Copy n = lone (instr.Copy (as_pattern (value_at (codes "attributes") v)) (body list) at) (Instr-F.Copy (as_pattern (value_at (codes "attributes") v)) (body list) at) (rolls-Copy (as_pattern (value_at (codes "attributes") v)) (body list) at) (no_expressions, no_templates, no_patterns, maybe_pattern (value_at (codes "attributes") v) (r (codes "attributes")), maybe_tests (value_at (codes "attributes") v) n, no_names) inside
  item_fine element.Element n = lone (instr.Element (template (codes "name") v) (as_template (value_at (codes "namespace") v)) scope (body list) at) (Instr-F.Element (template (codes "name") v) (as_template (value_at (codes "namespace") v)) scope (body list) at) (rolls-Element (template (codes "name") v) (as_template (value_at (codes "namespace") v)) scope (body list) at) (no_expressions, name_and_namespace, no_patterns, no_patterns, no_tests, no_names) inside
  item_fine element.StartElement n = lone (instr.StartElement (template (codes "name") v) (as_template (value_at (codes "namespace") v)) scope at) (Instr-F.StartElement (template (codes "name") v) (as_template (value_at (codes "namespace") v)) scope at) (rolls-StartElement (template (codes "name") v) (as_template (value_at (codes "namespace") v)) scope at) (no_expressions, name_and_namespace, no_patterns, no_patterns, no_tests, no_names) nothing_in
  item_fine element.EndElement n = lone (instr.EndElement (template (codes "name") v) (as_template (value_at (codes "namespace") v)) scope at) (Instr-F.EndElement (template (codes "name") v) (as_template (value_at (codes "namespace") v)) scope at) (rolls-EndElement (template (codes "name") v) (as_template (value_at (codes "namespace") v)) scope at) (no_expressions, name_and_namespace, no_patterns, no_patterns, no_tests, no_names) nothing_in
  item_fine element.Attribute n = lone (instr.Attribute (template (codes "name") v) (as_template (value_at (codes "namespace") v)) scope (content_in v list) at) (Instr-F.Attribute (template (codes "name") v) (as_template (value_at (codes "namespace") v)) scope (content_in v list) at) (rolls-Attribute (template (codes "name") v) (as_template (value_at (codes "namespace") v)) scope (content_in v list) at) (content_at, name_and_namespace, no_patterns, no_patterns, no_tests, no_names) nothing_in
  item_fine element.Comment n = lone (instr.Comment (content_in v list) at) (Instr-F.Comment (content_in v list) at) (rolls-Comment (content_in v list) at) (content_at, no_templates, no_patterns, no_patterns, no_tests, no_names) nothing_in
  item_fine element.Instruction n = lone (instr.Pi (template (codes "name") v) scope (content_in v list) at) (Instr-F.Pi (template (codes "name") v) scope (content_in v list) at) (rolls-Pi (template (codes "name") v) scope (content_in v list) at) (content_at, more_templates (template (codes "name") v) [] (or_template (value_at (codes "name") v) (r (codes "name"))) no_templates, no_patterns, no_patterns, no_tests, no_names) nothing_in
  item_fine element.Message n = lone (instr.Message (content_in v list) at) (Instr-F.Message (content_in v list) at) (rolls-Message (content_in v list) at) (content_at, no_templates, no_patterns, no_patterns, no_tests, no_names) nothing_in
  item_fine element.If n = ((λ js. (one_expression (making.test v) (or_expression (value_at (codes "test") v) (r (codes "test")) n), no_templates, no_patterns, no_patterns, no_tests, no_names), inside), tt)
  item_fine element.Else n = (inside, tt)
  item_fine element.Choose n = lone (instr.Choose (branches list) (otherwise list) at) (Instr-F.Choose (branches list) (otherwise list) at) (rolls-Choose (branches list) (otherwise list) at) (tested_fine (branches list) (branches_are Fine TestIs SelectIs HandedIs list h), no_templates, no_patterns, no_patterns, no_tests, no_names) (both_are Fine TestIs SelectIs HandedIs (flat_map (λ (w : When). w.body) (branches list)) (otherwise list) (in_branches Fine TestIs SelectIs HandedIs list h) (in_otherwise Fine TestIs SelectIs HandedIs list h))
  item_fine element.When n = (((or_expression (value_at (codes "test") v) (r (codes "test")) n), inside), tt)
  item_fine element.Otherwise n = (inside, tt)
  item_fine element.ForEachItem n = lone (instr.ForEachItem (name v) (select v) (body list) at) (Instr-F.ForEachItem (name v) (select v) (body list) at) (rolls-ForEachItem (name v) (select v) (body list) at) (one_expression (select v) (or_expression (value_at (codes "select") v) (r (codes "select")) n.0), no_templates, no_patterns, no_patterns, no_tests, one_name (name v) n.1) inside
  item_fine element.While n = lone (instr.While (making.test v) (body list) at) (Instr-F.While (making.test v) (body list) at) (rolls-While (making.test v) (body list) at) (one_expression (making.test v) (or_expression (value_at (codes "test") v) (r (codes "test")) n), no_templates, no_patterns, no_patterns, no_tests, no_names) inside
  item_fine element.Assign n = lone (instr.Assign (name v) (select v) at) (Instr-F.Assign (name v) (select v) at) (rolls-Assign (name v) (select v) at) (one_expression (select v) (or_expression (value_at (codes "select") v) (r (codes "select")) n), no_templates, no_patterns, no_patterns, no_tests, no_names) nothing_in
  item_fine element.CallProcedure n = lone (instr.CallProcedure (name v) (with_params list) at) (Instr-F.CallProcedure (name v) (with_params list) at) (rolls-CallProcedure (name v) (with_params list) at) (handed_in, no_templates, no_patterns, no_patterns, no_tests, no_names) nothing_in
  item_fine element.ProcessChildren n = lone (instr.ProcessChildren (group_in v) (with_params list) at) (Instr-F.ProcessChildren (group_in v) (with_params list) at) (rolls-ProcessChildren (group_in v) (with_params list) at) (handed_in, no_templates, no_patterns, no_patterns, no_tests, no_names) nothing_in
  item_fine element.ProcessAttributes n = lone (instr.ProcessAttributes (group_in v) (with_params list) at) (Instr-F.ProcessAttributes (group_in v) (with_params list) at) (rolls-ProcessAttributes (group_in v) (with_params list) at) (handed_in, no_templates, no_patterns, no_patterns, no_tests, no_names) nothing_in
  item_fine element.ProcessSelf n = lone (instr.ProcessSelf (group_in v) (with_params list) at) (Instr-F.ProcessSelf (group_in v) (with_params list) at) (rolls-ProcessSelf (group_in v) (with_params list) at) (handed_in, no_templates, no_patterns, no_patterns, no_tests, no_names) nothing_in
  item_fine element.ProcessSiblings n = lone (instr.ProcessSiblings (as_pattern (value_at (codes "while") v)) (as_pattern (value_at (codes "until") v)) (group_in v) (with_params list) at) (Instr-F.ProcessSiblings (as_pattern (value_at (codes "while") v)) (as_pattern (value_at (codes "until") v)) (group_in v) (with_params list) at) (rolls-ProcessSiblings (as_pattern (value_at (codes "while") v)) (as_pattern (value_at (codes "until") v)) (group_in v) (with_params list) at) (handed_in, no_templates, All-append (λ (p : Pattern). IsReadablePattern p.alternatives) (option_to_list (as_pattern (value_at (codes "while") v))) (option_to_list (as_pattern (value_at (codes "until") v))) (maybe_pattern (value_at (codes "while") v) (r (codes "while"))) (maybe_pattern (value_at (codes "until") v) (r (codes "until"))), no_patterns, no_tests, no_names) nothing_in
  item_fine element.ProcessBuffer n = lone (instr.ProcessBuffer (name v) (group_in v) (with_params list) at) (Instr-F.ProcessBuffer (name v) (group_in v) (with_params list) at) (rolls-ProcessBuffer (name v) (group_in v) (with_params list) at) (handed_in, no_templates, no_patterns, no_patterns, no_tests, no_names) nothing_in
  item_fine element.ProcessDocument n = lone (instr.ProcessDocument (template (codes "href") v) (group_in v) (with_params list) at) (Instr-F.ProcessDocument (template (codes "href") v) (group_in v) (with_params list) at) (rolls-ProcessDocument (template (codes "href") v) (group_in v) (with_params list) at) (handed_in, more_templates (template (codes "href") v) [] (or_template (value_at (codes "href") v) (r (codes "href"))) no_templates, no_patterns, no_patterns, no_tests, no_names) nothing_in
  item_fine element.ResultBuffer n = lone (instr.ResultBuffer (name v) (is_yes (value_at (codes "clear") v)) (body list) at) (Instr-F.ResultBuffer (name v) (is_yes (value_at (codes "clear") v)) (body list) at) (rolls-ResultBuffer (name v) (is_yes (value_at (codes "clear") v)) (body list) at) (no_expressions, no_templates, no_patterns, no_patterns, no_tests, no_names) inside
  item_fine element.WithParam n = ((or_expression (value_at (codes "select") v) (r (codes "select")) n), tt)

-- The lists of the sheet.
record AreFine (ts : List sheet.Template) (ps : List Procedure) (vs : List Variable) : Type 0 where
  variables : All SelectIs vs
  templates : All (λ (t : sheet.Template). IsReadablePattern t.pattern.alternatives × All SelectIs t.params) ts
  bodies : All (λ (t : sheet.Template). BodyFine t.body) ts
  procedures : All (λ (p : Procedure). All SelectIs p.params) ps
  calls : All (λ (p : Procedure). BodyFine p.body) ps

abbrev IsFine : Sheet → Type 0
IsFine s = AreFine s.templates s.procedures s.variables

begun_fine : (here : Context) (at : ℕ) (kind : Kind) (v : Values) (l : Loading) → IsFine l.sheet → IsFine (begun here at kind v l).sheet
begun_fine here at kind v l h = by (is_own here.inside) (makes_group kind) where
  by : (b c : Bool) → IsFine (if b then with_root here at v l else if c then with_group here at v l else l).sheet
  by true c = h
  by false true = h
  by false false = h

match_fine : (kind : Kind) (v : Values) → is_template kind ≡ true → Needs kind v → ReadableAt (value_at (codes "match") v) → IsReadablePattern (pattern (codes "match") v).alternatives
match_fine element.Template v t n r = or_pattern (value_at (codes "match") v) r n
match_fine other v t n r = absurd cc

spelled_if : (kind : Kind) (v : Values) → (is_param kind || is_variable kind) ≡ true → Needs kind v → IsSpelled (name v)
spelled_if element.Param v t n = n
spelled_if element.Variable v t n = n
spelled_if other v t n = absurd cc

module _ (here : Context) (at : ℕ) (kind : Kind) (scope : List Binding) (v : Values) (r : Listed) (readable : (word : List ℕ) → ReadableAt (value_at word v)) (n : Needs kind v) (h : IsFine r.loading.sheet) (k : ItemsFine r.items) where
  params_fine : All SelectIs (params r.items)
  params_fine = params_are Fine TestIs SelectIs HandedIs r.items k

  body_fine : BodyFine (body r.items)
  body_fine = in_body Fine TestIs SelectIs HandedIs r.items k

  ended_fine : IsFine (ended here at kind v r).sheet
  ended_fine = record {
    variables =
        all_if SelectIs (is_param kind || is_variable kind) (variable here.group (is_param kind) (place here at) v) r.loading.sheet.variables
        (λ t. (spelled_if kind v t n, if_expression (value_at (codes "select") v) (readable (codes "select")))) h.variables;
    templates =
        all_if (λ (t : sheet.Template). IsReadablePattern t.pattern.alternatives × All SelectIs t.params) (is_template kind) (template_at here at v r.items) r.loading.sheet.templates
        (λ t. (match_fine kind v t n (readable (codes "match")), params_fine)) h.templates;
    bodies = all_if (λ (t : sheet.Template). BodyFine t.body) (is_template kind) (template_at here at v r.items) r.loading.sheet.templates (λ t. body_fine) h.bodies;
    procedures = all_if (λ (p : Procedure). All SelectIs p.params) (is_procedure kind) (procedure_at here at v r.items) r.loading.sheet.procedures (λ t. params_fine) h.procedures;
    calls = all_if (λ (p : Procedure). BodyFine p.body) (is_procedure kind) (procedure_at here at v r.items) r.loading.sheet.procedures (λ t. body_fine) h.calls;
  }

  made_fine : IsFine (made here at kind scope v r).loading.sheet × ItemsFine (made here at kind scope v r).items
  made_fine = by (is_declared_here here.inside) where
    by : (b : Bool) → IsFine (if b then listed [] (ended here at kind v r) else listed (item kind here.group (place here at) scope v r.items) r.loading).loading.sheet × ItemsFine (if b then listed [] (ended here at kind v r) else listed (item kind here.group (place here at) scope v r.items) r.loading).items
    by true = (ended_fine, tt)
    by false = (h, item_fine here.group (place here at) scope v r.items readable k kind n)

text_fine : (reads : Reads) (files : List (Option File)) (here : Context) (offset : ℕ) (said : List ℕ) (list : Inside) → ItemsFine (text_item reads files here offset said list)
text_fine reads files here offset said (Document b) = (one_by Fine TestIs SelectIs HandedIs (instr.LiteralChars said (place here offset)) (Instr-F.LiteralChars said (place here offset)) (rolls-LiteralChars said (place here offset)) (no_expressions, no_templates, no_patterns, no_patterns, no_tests, no_names) (none_is Fine TestIs SelectIs HandedIs), tt)
text_fine reads files here offset said (Declarations b) = (one_by Fine TestIs SelectIs HandedIs (instr.LiteralChars said (place here offset)) (Instr-F.LiteralChars said (place here offset)) (rolls-LiteralChars said (place here offset)) (no_expressions, no_templates, no_patterns, no_patterns, no_tests, no_names) (none_is Fine TestIs SelectIs HandedIs), tt)
text_fine reads files here offset said Start_of_body = (one_by Fine TestIs SelectIs HandedIs (instr.LiteralChars said (place here offset)) (Instr-F.LiteralChars said (place here offset)) (rolls-LiteralChars said (place here offset)) (no_expressions, no_templates, no_patterns, no_patterns, no_tests, no_names) (none_is Fine TestIs SelectIs HandedIs), tt)
text_fine reads files here offset said Body = (one_by Fine TestIs SelectIs HandedIs (instr.LiteralChars said (place here offset)) (Instr-F.LiteralChars said (place here offset)) (rolls-LiteralChars said (place here offset)) (no_expressions, no_templates, no_patterns, no_patterns, no_tests, no_names) (none_is Fine TestIs SelectIs HandedIs), tt)
text_fine reads files here offset said Branches = (one_by Fine TestIs SelectIs HandedIs (instr.LiteralChars said (place here offset)) (Instr-F.LiteralChars said (place here offset)) (rolls-LiteralChars said (place here offset)) (no_expressions, no_templates, no_patterns, no_patterns, no_tests, no_names) (none_is Fine TestIs SelectIs HandedIs), tt)
text_fine reads files here offset said With_params = (one_by Fine TestIs SelectIs HandedIs (instr.LiteralChars said (place here offset)) (Instr-F.LiteralChars said (place here offset)) (rolls-LiteralChars said (place here offset)) (no_expressions, no_templates, no_patterns, no_patterns, no_tests, no_names) (none_is Fine TestIs SelectIs HandedIs), tt)
text_fine reads files here offset said Nothing = (one_by Fine TestIs SelectIs HandedIs (instr.LiteralChars said (place here offset)) (Instr-F.LiteralChars said (place here offset)) (rolls-LiteralChars said (place here offset)) (no_expressions, no_templates, no_patterns, no_patterns, no_tests, no_names) (none_is Fine TestIs SelectIs HandedIs), tt)
text_fine reads files here offset said (Characters b) = (tt, tt)
text_fine reads files here offset said Parts = (tt, tt)

part_fine : (reads : Reads) (files : List (Option File)) (d : Dialect) (s : List Binding) (said : List ℕ) (r : Read (List AvtPart)) → IsTemplate d s said r → IsReadableTemplate (parts_of_template reads files (Some (read A_template r)))
part_fine reads files d s said (Ok parts) h = (d, s, said, h)
part_fine reads files d s said (Err why) h = empty_readable

attrs_fine : (reads : Reads) (files : List (Option File)) (d : Dialect) (s : List Binding) (attrs : List Attr)
    → AreReadableTemplates (map (λ (a : LiteralAttr). a.value) (literal_attrs reads files attrs (map (λ a. Some (read A_template (reads.template d s a.value))) attrs)))
attrs_fine reads files d s [] = no_templates
attrs_fine reads files d s (a ∷ attrs) =
    more_templates (record { parts = parts_of_template reads files (Some (read A_template (reads.template d s a.value))) })
    (map (λ (a : LiteralAttr). a.value) (literal_attrs reads files attrs (map (λ a. Some (read A_template (reads.template d s a.value))) attrs)))
    (part_fine reads files d s a.value (reads.template d s a.value) (reads.templates d s a.value)) (attrs_fine reads files d s attrs)

literal_fine : (reads : Reads) (files : List (Option File)) (here : Context) (e : Element) (items : List Item) → ItemsFine items → ItemsFine (literal_item reads files here e items)
literal_fine reads files here e items h =
    let attrs = attrs_of reads files here e in (
      one_by Fine TestIs SelectIs HandedIs (instr.Literal e.name attrs (body items) (place here e.offset)) (Instr-F.Literal e.name attrs (body items) (place here e.offset)) (rolls-Literal e.name attrs (body items) (place here e.offset))
          (no_expressions, attrs_fine reads files here.version.dialect (scope_at here e) e.attrs, no_patterns, no_patterns, no_tests, no_names) (in_body Fine TestIs SelectIs HandedIs items h),
      tt,
    )

module _ (reads : Reads) (files : List (Option File)) where
  more_fine : (before items : List Item) → ItemsFine before → ItemsFine items → ItemsFine (before ++ items)
  more_fine before items h k = items_append Fine TestIs SelectIs HandedIs before items h k

  came_fine : {here : Context} {before : List Item} {list : Forest} {l : Loading} {r : Listed} → Came reads files here before list l r → IsFine l.sheet → ItemsFine before → IsFine r.loading.sheet × ItemsFine r.items
  came_fine (at_end here before mark offset l) h k = (h, k)
  came_fine (passes here before mark leaf next l r c) h k = came_fine c h k
  came_fine (speaks here before mark leaf offset said next l r s a c) h k =
      came_fine c h (more_fine before (text_item reads files here offset said here.inside) k (text_fine reads files here offset said here.inside))
  came_fine (makes here before stage e kids next l kind inner r f i c w d) h k =
      let v = values reads here kind e in
      let n = needs reads here before l.sheet e kind (faultless reads here before l.sheet e kind f) in
      let m = came_fine c (begun_fine here e.offset kind v (referring reads files here before e kind l) h) tt in
      let t = made_fine here e.offset kind (scope_at here e) v inner (readable_at reads here before l.sheet e kind) n m.0 m.1 in
      came_fine d t.0 (more_fine before (element_made reads files here e kind inner).items k t.1)
  came_fine (includes here before stage e kids next l kind file p inner r f i g c b w d) h k =
      let v = values reads here kind e in
      let n = needs reads here before l.sheet e kind (faultless reads here before l.sheet e kind f) in
      let o = came_fine c (begun_fine here e.offset kind v (referring reads files here before e kind l) h) tt in
      let m = came_fine b o.0 tt in
      let t = made_fine here e.offset kind (scope_at here e) v inner (readable_at reads here before l.sheet e kind) n m.0 m.1 in
      came_fine d t.0 (more_fine before (element_made reads files here e kind inner).items k t.1)
  came_fine (writes here before stage e kids next l inner r a n p c d) h k =
      let m = came_fine c h tt in
      came_fine d m.0 (more_fine before (literal_item reads files here e inner.items) k (literal_fine reads files here e inner.items m.1))
  came_fine (copies here before stage e kids next l inner r i c d) h k =
      let m = came_fine c h tt in
      came_fine d m.0 (more_fine before (copied_items reads files e inner.items) k (parts_are Fine TestIs SelectIs HandedIs (element_parts reads files e (parts inner.items))))

sheet_fine : (s : Sheet) → IsFine s → IsReadableSheet s × CopiesAttributes s
sheet_fine s h =
    let all = sheet_is Fine TestIs SelectIs HandedIs s h.bodies h.calls in (
      record {
        variables = h.variables;
        templates = h.templates;
        procedures = h.procedures;
        instructions = λ n d i. let x = all n d i in record { expressions = x.0; templates = x.1; conditions = x.2; copied = x.3; names = x.5 };
      },
      λ n d i. (all n d i).4,
    )

pub whole_fine : (reads : Reads) (files : List (Option File)) (name : List ℕ) (file : File) (r : Listed) → CameWhole reads files name file r → IsReadableSheet r.loading.sheet × CopiesAttributes r.loading.sheet
whole_fine reads files name file r c =
    let none : IsFine (nothing name).sheet = record {
      variables = All-nil SelectIs;
      templates = All-nil (λ (t : sheet.Template). IsReadablePattern t.pattern.alternatives × All SelectIs t.params);
      bodies = All-nil (λ (t : sheet.Template). BodyFine t.body);
      procedures = All-nil (λ (p : Procedure). All SelectIs p.params);
      calls = All-nil (λ (p : Procedure). BodyFine p.body);
    } in
    sheet_fine r.loading.sheet (came_fine reads files c.0 none tt).0
