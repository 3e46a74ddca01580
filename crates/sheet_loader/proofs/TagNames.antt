-- What an element comes to says, by what its tag and its list do.
use Rattle.std.proofs.Common.{◌≡◌, ℕ, Bool, true, false, List, [], ◌∷◌, ◌++◌, Option, Some, None, codes, map, refl, sym, ◌∙◌}
use Rattle.std.proofs.Math.Path.{subst}
use Rattle.std.proofs.lemmas.List.Elements.{All-append, All-cons, All-map, All-nil}
use Rattle.std.specs.List.{All, flat_map}
use Rattle.std.specs.Option.{option_map_or, option_to_list}
use Rattle.stx_base.specs.declared.fault.Place.{Place}
use Rattle.stx_base.specs.declared.name.Binding.{Binding}
use Rattle.stx_base.specs.declared.name.Name.{Name}
use Rattle.stxpath_syntax.specs.declared.expr.Alternative.{Alternative}
use Rattle.stxpath_syntax.specs.declared.expr.Alternative.TheVariants.{Root, Steps}
use Rattle.stxpath_syntax.specs.declared.expr.Avt.{Avt}
use Rattle.stxpath_syntax.specs.declared.expr.Expr.{Expr}
use Rattle.stxpath_syntax.specs.declared.expr.Expr.TheVariants as expression
use Rattle.stxpath_syntax.specs.declared.expr.Pattern.{Pattern}
use Rattle.sheet_model.specs.Groups.{AreDistinct, IsFound}
use Rattle.sheet_model.specs.Names.{Branch, BufferNamed, GroupNamed, LocalDeclared, ProcedureNamed, alternative_variables, in_turn, pattern_variables, said, template_variables, variables}
use Rattle.sheet_model.specs.Parts.{content_expression}
use Rattle.sheet_model.specs.Sound.{IsAttributeTest}
use Rattle.sheet_model.specs.declared.instr.Instr.TheVariants as instr
use Rattle.sheet_model.specs.declared.instr.Instr.TheOpen.{Instr-F}
use Rattle.sheet_model.specs.declared.instr.Instr.TheViews.{rolls-Assign, rolls-Attribute, rolls-CallProcedure, rolls-Chars, rolls-Choose, rolls-Comment, rolls-Copy, rolls-Element, rolls-EndElement, rolls-ForEachItem, rolls-Local, rolls-Message, rolls-Pi, rolls-ProcessAttributes, rolls-ProcessBuffer, rolls-ProcessChildren, rolls-ProcessDocument, rolls-ProcessSelf, rolls-ProcessSiblings, rolls-ResultBuffer, rolls-StartElement, rolls-ValueOf, rolls-While}
use Rattle.sheet_model.specs.declared.instr.When.{When}
use Rattle.sheet_model.specs.declared.instr.WithParam.{WithParam}
use Rattle.sheet_model.specs.declared.sheet.Sheet.{Sheet}
use Rattle.sheet_loader.proofs.ItemNames.{ItemsSay, OneOtherwise, ParamsFirst, alike_more, alike_nil, all_flat, body_says, branches_say, choice_says, es_nil, handed_say, more_ts, no_bound, no_es, no_names, no_ps, no_ts, none_distinct, one_es, one_name, otherwise_says, own_good, still}
use Rattle.sheet_loader.proofs.ReadableSheets.{Needs, TestsAt}
use Rattle.sheet_loader.proofs.Sayings.{All-back, All-front, BodyOk, Good, VarOk, VarsOk, free_good, inner_said, instr_ok}
use Rattle.sheet_loader.specs.Elements as element
use Rattle.sheet_loader.specs.Elements.{Kind, Inside, Branches, Start_of_body, With_params, inside_of}
use Rattle.sheet_loader.specs.Judging.{is_taken_in_body}
use Rattle.sheet_loader.specs.Making.{Values, as_expression, as_pattern, as_template, body, branches, characters, content_in, content_of, group_in, is_yes, item, locals_of, name, or_else, otherwise, params, select, template, value_at}
use Rattle.sheet_loader.specs.Making as making
use Rattle.sheet_loader.specs.Read.{own_locals}
use Rattle.sheet_loader.specs.Reading.{Item}
use Rattle.sheet_loader.specs.Referring.{named_in, variables_at, variables_of_pattern_at, variables_of_template_at}
use Rattle.sheet_loader.specs.Values.{A_pattern, Value}

abbrev pub is_start : Inside → Bool
is_start Start_of_body = true
is_start other = false

-- no locals stand in the list
abbrev pub is_plain : Inside → Bool
is_plain With_params = true
is_plain Branches = true
is_plain other = false

abbrev pub are_branches : Inside → Bool
are_branches Branches = true
are_branches other = false

-- what a kind's own name leads to
abbrev pub ByName : Sheet → ℕ → List Name → Kind → Name → Type 0
ByName s g locals element.CallProcedure n = IsFound s g (ProcedureNamed n)
ByName s g locals element.ProcessBuffer n = IsFound s g (BufferNamed n)
ByName s g locals element.ResultBuffer n = IsFound s g (BufferNamed n)
ByName s g locals element.Assign n = VarsOk s g locals (n ∷ [])
ByName s g locals other n = Unit {0}

abbrev pub patterns_named : Values → List Name
patterns_named v = variables_of_pattern_at (codes "match") v ++ variables_of_pattern_at (codes "while") v ++ variables_of_pattern_at (codes "until") v

-- What a tag says is found, and new.
pub record TagSays (s : Sheet) (g : ℕ) (locals : List Name) (before : List Item) (kind : Kind) (v : Values) : Type 0 where
  pub vars : VarsOk s g locals (named_in v)
  pub pats : VarsOk s g [] (patterns_named v)
  pub base : All (λ (n : Name). IsFound s g (GroupNamed n)) (option_to_list (group_in v))
  pub names : ByName s g locals kind (name v)
  pub fresh : is_taken_in_body locals before kind (name v) ≡ false
  pub needs : Needs kind v

-- What its list says.
pub record ListSays (s : Sheet) (g : ℕ) (locals : List Name) (inside : Inside) (items : List Item) : Type 0 where
  pub says : ItemsSay s g locals items
  pub first : ParamsFirst items
  pub bare : is_start inside ≡ false → params items ≡ []
  pub apart : AreDistinct (map (λ (p : WithParam). p.name) (making.with_params items))
  pub plain : is_plain inside ≡ true → locals_of items ≡ []
  pub one : are_branches inside ≡ true → OneOtherwise items

module _ (s : Sheet) (g : ℕ) (locals : List Name) where
  some_select : (o : Option Expr) → VarsOk s g locals (option_map_or variables o []) → ((x : Expr) × (o ≡ Some x)) → VarsOk s g locals (variables (or_else (expression.Seq []) o))
  some_select (Some x) h there = h
  some_select None h there = absurd (let e = there.1 in cc)

  maybe_select : (o : Option Expr) → VarsOk s g locals (option_map_or variables o []) → All (λ (x : Expr). VarsOk s g locals (variables x)) (option_to_list o)
  maybe_select (Some x) h = one_es s g locals x h
  maybe_select None h = no_es s g locals

  content_says : (o : Option Expr) (items : List Item) → VarsOk s g locals (option_map_or variables o []) → All (λ (x : Expr). VarsOk s g locals (variables x)) (content_expression (content_of o items))
  content_says (Some x) items h = one_es s g locals x h
  content_says None items h = no_es s g locals

  some_template : (o : Option Avt) → VarsOk s g locals (option_map_or template_variables o []) → VarsOk s g locals (template_variables (or_else (record { parts = [] }) o))
  some_template (Some t) h = h
  some_template None h = All-nil (VarOk s g locals)

  maybe_template : (o : Option Avt) → VarsOk s g locals (option_map_or template_variables o []) → All (λ (t : Avt). VarsOk s g locals (template_variables t)) (option_to_list o)
  maybe_template (Some t) h = more_ts s g locals t [] h (no_ts s g locals)
  maybe_template None h = no_ts s g locals

  maybe_pattern : (o : Option Pattern) → VarsOk s g [] (option_map_or pattern_variables o []) → All (λ (p : Pattern). VarsOk s g [] (pattern_variables p)) (option_to_list o)
  maybe_pattern (Some p) h = All-cons (λ (p : Pattern). VarsOk s g [] (pattern_variables p)) p [] h (no_ps s g locals)
  maybe_pattern None h = no_ps s g locals

  -- a test of attributes names no variable
  test_says : (a : Alternative) → IsAttributeTest a → VarsOk s g [] (alternative_variables a)
  test_says Root h = absurd h
  test_says (Steps []) h = absurd h
  test_says (Steps (p ∷ [])) h = subst (λ (ps : List Expr). VarsOk s g [] (flat_map variables ps ++ [])) (sym h.1) (All-nil (VarOk s g []))
  test_says (Steps (p ∷ q ∷ more)) h = absurd h

  tests_say : (all : List Alternative) → All IsAttributeTest all → VarsOk s g [] (flat_map alternative_variables all)
  tests_say all h = all_flat alternative_variables (VarOk s g []) all (λ k d l. test_says _ (h k d l))

  copied_says : (o : Option Value) → TestsAt o → All (λ (p : Pattern). VarsOk s g [] (pattern_variables p)) (option_to_list (as_pattern o))
  copied_says (Some (A_pattern all)) h = All-cons (λ (p : Pattern). VarsOk s g [] (pattern_variables p)) (record { alternatives = all }) [] (tests_say all h) (no_ps s g locals)
  copied_says o h = no_ps s g locals

  module _ (before : List Item) (at : Place) (scope : List Binding) (v : Values) (group : ℕ) (around : Inside) (has : Bool) (list : List Item) where
    abbrev Inner : Kind → Type 0
    Inner kind = ListSays s g (locals ++ own_locals kind v) (inside_of around kind has) list

    abbrev Tag : Kind → Type 0
    Tag kind = TagSays s g locals before kind v

    -- each attribute's variables
    module _ (h : VarsOk s g locals (named_in v)) where
      abbrev two_of : List Name
      two_of = variables_at (codes "select") v ++ variables_at (codes "test") v

      abbrev three_of : List Name
      three_of = two_of ++ variables_of_template_at (codes "separator") v

      abbrev four_of : List Name
      four_of = three_of ++ variables_of_template_at (codes "name") v

      abbrev five_of : List Name
      five_of = four_of ++ variables_of_template_at (codes "namespace") v

      five_ok : VarsOk s g locals five_of
      five_ok = All-front (VarOk s g locals) five_of (variables_of_template_at (codes "href") v) h

      four_ok : VarsOk s g locals four_of
      four_ok = All-front (VarOk s g locals) four_of (variables_of_template_at (codes "namespace") v) five_ok

      three_ok : VarsOk s g locals three_of
      three_ok = All-front (VarOk s g locals) three_of (variables_of_template_at (codes "name") v) four_ok

      two_ok : VarsOk s g locals two_of
      two_ok = All-front (VarOk s g locals) two_of (variables_of_template_at (codes "separator") v) three_ok

      sel : VarsOk s g locals (variables_at (codes "select") v)
      sel = All-front (VarOk s g locals) (variables_at (codes "select") v) (variables_at (codes "test") v) two_ok

      tst : VarsOk s g locals (variables_at (codes "test") v)
      tst = All-back (VarOk s g locals) (variables_at (codes "select") v) (variables_at (codes "test") v) two_ok

      sep : VarsOk s g locals (variables_of_template_at (codes "separator") v)
      sep = All-back (VarOk s g locals) two_of (variables_of_template_at (codes "separator") v) three_ok

      nam : VarsOk s g locals (variables_of_template_at (codes "name") v)
      nam = All-back (VarOk s g locals) three_of (variables_of_template_at (codes "name") v) four_ok

      spa : VarsOk s g locals (variables_of_template_at (codes "namespace") v)
      spa = All-back (VarOk s g locals) four_of (variables_of_template_at (codes "namespace") v) five_ok

      hre : VarsOk s g locals (variables_of_template_at (codes "href") v)
      hre = All-back (VarOk s g locals) five_of (variables_of_template_at (codes "href") v) h

      name_and_namespace : All (λ (t : Avt). VarsOk s g locals (template_variables t)) (template (codes "name") v ∷ option_to_list (as_template (value_at (codes "namespace") v)))
      name_and_namespace =
          more_ts s g locals (template (codes "name") v) (option_to_list (as_template (value_at (codes "namespace") v)))
          (some_template (as_template (value_at (codes "name") v)) nam) (maybe_template (as_template (value_at (codes "namespace") v)) spa)

      one_template : (word : List ℕ) → VarsOk s g locals (variables_of_template_at word v) → All (λ (t : Avt). VarsOk s g locals (template_variables t)) (template word v ∷ [])
      one_template word k = more_ts s g locals (template word v) [] (some_template (as_template (value_at word v)) k) (no_ts s g locals)

      content_at : All (λ (x : Expr). VarsOk s g locals (variables x)) (content_expression (content_in v list) ++ [])
      content_at = es_nil s g locals (content_expression (content_in v list)) (content_says (as_expression (value_at (codes "select") v)) list sel)

    while_until : VarsOk s g [] (patterns_named v) → All (λ (p : Pattern). VarsOk s g [] (pattern_variables p)) ((option_to_list (as_pattern (value_at (codes "while") v)) ++ option_to_list (as_pattern (value_at (codes "until") v))) ++ [])
    while_until h =
        let m = variables_of_pattern_at (codes "match") v in
        let w = variables_of_pattern_at (codes "while") v in
        let u = variables_of_pattern_at (codes "until") v in
        let while_ok = All-back (VarOk s g []) m w (All-front (VarOk s g []) (m ++ w) u h) in
        let until_ok = All-back (VarOk s g []) (m ++ w) u h in
        let P : Pattern → Type 0 = λ (p : Pattern). VarsOk s g [] (pattern_variables p) in
        All-append P (option_to_list (as_pattern (value_at (codes "while") v)) ++ option_to_list (as_pattern (value_at (codes "until") v))) []
        (All-append P (option_to_list (as_pattern (value_at (codes "while") v))) (option_to_list (as_pattern (value_at (codes "until") v)))
        (maybe_pattern (as_pattern (value_at (codes "while") v)) while_ok) (maybe_pattern (as_pattern (value_at (codes "until") v)) until_ok)) (no_ps s g locals)

    body_in : ItemsSay s g (locals ++ []) list → params list ≡ [] → BodyOk s g locals (body list)
    body_in h n known a = body_says s g (locals ++ []) list known n h (alike_nil known locals a)

    handed_in : ItemsSay s g (locals ++ []) list → locals_of list ≡ [] → All (λ (x : Expr). VarsOk s g locals (variables x)) (map (λ (p : WithParam). p.select) (making.with_params list))
    handed_in h n = All-map (λ (x : Expr). VarsOk s g locals (variables x)) (λ (p : WithParam). p.select) (making.with_params list) (handed_say s g locals list n (still s g locals list h))

    pub item_says : (kind : Kind) → Tag kind → Inner kind → ItemsSay s g locals (item kind group at scope v list)
    item_says element.Transform t h = tt
    item_says element.Group t h = tt
    item_says element.Template t h = tt
    item_says element.Procedure t h = tt
    item_says element.Include t h = tt
    item_says element.Buffer t h = tt
    item_says element.Param t h = ((all_flat variables (VarOk s g locals) (option_to_list (as_expression (value_at (codes "select") v))) (maybe_select (as_expression (value_at (codes "select") v)) (sel t.vars)), t.fresh), tt)
    item_says element.Variable t h = (
      instr_ok s g locals (instr.Local (name v) (as_expression (value_at (codes "select") v)) at) (Instr-F.Local (name v) (as_expression (value_at (codes "select") v)) at) (rolls-Local (name v) (as_expression (value_at (codes "select") v)) at)
          (λ known a. own_good s g known locals (inner_said (Instr-F.Local (name v) (as_expression (value_at (codes "select") v)) at)) a (es_nil s g locals (option_to_list (as_expression (value_at (codes "select") v))) (maybe_select (as_expression (value_at (codes "select") v)) (sel t.vars))) (no_ts s g locals) (no_ps s g locals) (All-cons (Good s g) (LocalDeclared (name v) known) [] (tt, a (name v) ∙ t.fresh) (All-nil (Good s g))) (no_names s g GroupNamed) (no_names s g ProcedureNamed) (no_names s g BufferNamed) none_distinct (no_bound s g)),
      tt,
    )
    item_says element.ValueOf t h = (
      instr_ok s g locals (instr.ValueOf (select v) (as_template (value_at (codes "separator") v)) at) (Instr-F.ValueOf (select v) (as_template (value_at (codes "separator") v)) at) (rolls-ValueOf (select v) (as_template (value_at (codes "separator") v)) at)
          (λ known a. own_good s g known locals (inner_said (Instr-F.ValueOf (select v) (as_template (value_at (codes "separator") v)) at)) a (one_es s g locals (select v) (some_select (as_expression (value_at (codes "select") v)) (sel t.vars) t.needs)) (maybe_template (as_template (value_at (codes "separator") v)) (sep t.vars)) (no_ps s g locals) (no_bound s g) (no_names s g GroupNamed) (no_names s g ProcedureNamed) (no_names s g BufferNamed) none_distinct (no_bound s g)),
      tt,
    )
    item_says element.Chars t h = (
      instr_ok s g locals (instr.Chars (characters list) at) (Instr-F.Chars (characters list) at) (rolls-Chars (characters list) at)
          (λ known a. own_good s g known locals (inner_said (Instr-F.Chars (characters list) at)) a (no_es s g locals) (no_ts s g locals) (no_ps s g locals) (no_bound s g) (no_names s g GroupNamed) (no_names s g ProcedureNamed) (no_names s g BufferNamed) none_distinct (no_bound s g)),
      tt,
    )
    item_says element.Copy t h = (
      instr_ok s g locals (instr.Copy (as_pattern (value_at (codes "attributes") v)) (body list) at) (Instr-F.Copy (as_pattern (value_at (codes "attributes") v)) (body list) at) (rolls-Copy (as_pattern (value_at (codes "attributes") v)) (body list) at)
          (λ known a. own_good s g known locals (inner_said (Instr-F.Copy (as_pattern (value_at (codes "attributes") v)) (body list) at)) a (no_es s g locals) (no_ts s g locals) (copied_says (value_at (codes "attributes") v) t.needs) (no_bound s g) (no_names s g GroupNamed) (no_names s g ProcedureNamed) (no_names s g BufferNamed) none_distinct (body_in h.says (h.bare refl) known a)),
      tt,
    )
    item_says element.Element t h = (
      instr_ok s g locals (instr.Element (template (codes "name") v) (as_template (value_at (codes "namespace") v)) scope (body list) at) (Instr-F.Element (template (codes "name") v) (as_template (value_at (codes "namespace") v)) scope (body list) at) (rolls-Element (template (codes "name") v) (as_template (value_at (codes "namespace") v)) scope (body list) at)
          (λ known a. own_good s g known locals (inner_said (Instr-F.Element (template (codes "name") v) (as_template (value_at (codes "namespace") v)) scope (body list) at)) a (no_es s g locals) (name_and_namespace t.vars) (no_ps s g locals) (no_bound s g) (no_names s g GroupNamed) (no_names s g ProcedureNamed) (no_names s g BufferNamed) none_distinct (body_in h.says (h.bare refl) known a)),
      tt,
    )
    item_says element.StartElement t h = (
      instr_ok s g locals (instr.StartElement (template (codes "name") v) (as_template (value_at (codes "namespace") v)) scope at) (Instr-F.StartElement (template (codes "name") v) (as_template (value_at (codes "namespace") v)) scope at) (rolls-StartElement (template (codes "name") v) (as_template (value_at (codes "namespace") v)) scope at)
          (λ known a. own_good s g known locals (inner_said (Instr-F.StartElement (template (codes "name") v) (as_template (value_at (codes "namespace") v)) scope at)) a (no_es s g locals) (name_and_namespace t.vars) (no_ps s g locals) (no_bound s g) (no_names s g GroupNamed) (no_names s g ProcedureNamed) (no_names s g BufferNamed) none_distinct (no_bound s g)),
      tt,
    )
    item_says element.EndElement t h = (
      instr_ok s g locals (instr.EndElement (template (codes "name") v) (as_template (value_at (codes "namespace") v)) scope at) (Instr-F.EndElement (template (codes "name") v) (as_template (value_at (codes "namespace") v)) scope at) (rolls-EndElement (template (codes "name") v) (as_template (value_at (codes "namespace") v)) scope at)
          (λ known a. own_good s g known locals (inner_said (Instr-F.EndElement (template (codes "name") v) (as_template (value_at (codes "namespace") v)) scope at)) a (no_es s g locals) (name_and_namespace t.vars) (no_ps s g locals) (no_bound s g) (no_names s g GroupNamed) (no_names s g ProcedureNamed) (no_names s g BufferNamed) none_distinct (no_bound s g)),
      tt,
    )
    item_says element.Attribute t h = (
      instr_ok s g locals (instr.Attribute (template (codes "name") v) (as_template (value_at (codes "namespace") v)) scope (content_in v list) at) (Instr-F.Attribute (template (codes "name") v) (as_template (value_at (codes "namespace") v)) scope (content_in v list) at) (rolls-Attribute (template (codes "name") v) (as_template (value_at (codes "namespace") v)) scope (content_in v list) at)
          (λ known a. own_good s g known locals (inner_said (Instr-F.Attribute (template (codes "name") v) (as_template (value_at (codes "namespace") v)) scope (content_in v list) at)) a (content_at t.vars) (name_and_namespace t.vars) (no_ps s g locals) (no_bound s g) (no_names s g GroupNamed) (no_names s g ProcedureNamed) (no_names s g BufferNamed) none_distinct (no_bound s g)),
      tt,
    )
    item_says element.Comment t h = (
      instr_ok s g locals (instr.Comment (content_in v list) at) (Instr-F.Comment (content_in v list) at) (rolls-Comment (content_in v list) at)
          (λ known a. own_good s g known locals (inner_said (Instr-F.Comment (content_in v list) at)) a (content_at t.vars) (no_ts s g locals) (no_ps s g locals) (no_bound s g) (no_names s g GroupNamed) (no_names s g ProcedureNamed) (no_names s g BufferNamed) none_distinct (no_bound s g)),
      tt,
    )
    item_says element.Instruction t h = (
      instr_ok s g locals (instr.Pi (template (codes "name") v) scope (content_in v list) at) (Instr-F.Pi (template (codes "name") v) scope (content_in v list) at) (rolls-Pi (template (codes "name") v) scope (content_in v list) at)
          (λ known a. own_good s g known locals (inner_said (Instr-F.Pi (template (codes "name") v) scope (content_in v list) at)) a (content_at t.vars) (one_template t.vars (codes "name") (nam t.vars)) (no_ps s g locals) (no_bound s g) (no_names s g GroupNamed) (no_names s g ProcedureNamed) (no_names s g BufferNamed) none_distinct (no_bound s g)),
      tt,
    )
    item_says element.Message t h = (
      instr_ok s g locals (instr.Message (content_in v list) at) (Instr-F.Message (content_in v list) at) (rolls-Message (content_in v list) at)
          (λ known a. own_good s g known locals (inner_said (Instr-F.Message (content_in v list) at)) a (content_at t.vars) (no_ts s g locals) (no_ps s g locals) (no_bound s g) (no_names s g GroupNamed) (no_names s g ProcedureNamed) (no_names s g BufferNamed) none_distinct (no_bound s g)),
      tt,
    )
    item_says element.If t h = (((some_select (as_expression (value_at (codes "test") v)) (tst t.vars) t.needs), body_in h.says (h.bare refl)), tt)
    item_says element.Else t h = (body_in h.says (h.bare refl), tt)
    item_says element.Choose t h =
        let ws = branches_say s g locals list (h.plain refl) (still s g locals list h.says) in
        let f : When → Branch = λ (w : When). record { test = w.test; says = in_turn (map said w.body) } in (
          instr_ok s g locals (instr.Choose (branches list) (otherwise list) at) (Instr-F.Choose (branches list) (otherwise list) at) (rolls-Choose (branches list) (otherwise list) at)
              (λ known a. own_good s g known locals (inner_said (Instr-F.Choose (branches list) (otherwise list) at)) a
              (es_nil s g locals (map (λ (b : Branch). b.test) (map f (branches list)))
              (All-map (λ (x : Expr). VarsOk s g locals (variables x)) (λ (b : Branch). b.test) (map f (branches list)) (All-map (λ (b : Branch). VarsOk s g locals (variables b.test)) f (branches list) (λ k d l. (ws k d l).0))))
              (no_ts s g locals) (no_ps s g locals) (no_bound s g) (no_names s g GroupNamed) (no_names s g ProcedureNamed) (no_names s g BufferNamed) none_distinct
              (All-append (Good s g) (flat_map (λ (b : Branch). b.says known) (map f (branches list))) (in_turn (map said (otherwise list)) known)
              (choice_says s g locals known (branches list) a (λ k d l. (ws k d l).1))
              (otherwise_says s g locals list (h.plain refl) (h.one refl) (still s g locals list h.says) known a))),
          tt,
        )
    item_says element.When t h = (((some_select (as_expression (value_at (codes "test") v)) (tst t.vars) t.needs), body_in h.says (h.bare refl)), tt)
    item_says element.Otherwise t h = (body_in h.says (h.bare refl), tt)
    item_says element.ForEachItem t h = (
      instr_ok s g locals (instr.ForEachItem (name v) (select v) (body list) at) (Instr-F.ForEachItem (name v) (select v) (body list) at) (rolls-ForEachItem (name v) (select v) (body list) at)
          (λ known a. own_good s g known locals (inner_said (Instr-F.ForEachItem (name v) (select v) (body list) at)) a (one_es s g locals (select v) (some_select (as_expression (value_at (codes "select") v)) (sel t.vars) t.needs.0)) (no_ts s g locals) (no_ps s g locals) (All-cons (Good s g) (LocalDeclared (name v) known) [] (tt, a (name v) ∙ t.fresh) (All-nil (Good s g))) (no_names s g GroupNamed) (no_names s g ProcedureNamed) (no_names s g BufferNamed) none_distinct (body_says s g (locals ++ name v ∷ []) list (name v ∷ known) (h.bare refl) h.says (alike_more known locals (name v) a))),
      tt,
    )
    item_says element.While t h = (
      instr_ok s g locals (instr.While (making.test v) (body list) at) (Instr-F.While (making.test v) (body list) at) (rolls-While (making.test v) (body list) at)
          (λ known a. own_good s g known locals (inner_said (Instr-F.While (making.test v) (body list) at)) a (one_es s g locals (making.test v) (some_select (as_expression (value_at (codes "test") v)) (tst t.vars) t.needs)) (no_ts s g locals) (no_ps s g locals) (no_bound s g) (no_names s g GroupNamed) (no_names s g ProcedureNamed) (no_names s g BufferNamed) none_distinct (body_in h.says (h.bare refl) known a)),
      tt,
    )
    item_says element.Assign t h = (
      instr_ok s g locals (instr.Assign (name v) (select v) at) (Instr-F.Assign (name v) (select v) at) (rolls-Assign (name v) (select v) at)
          (λ known a. own_good s g known locals (inner_said (Instr-F.Assign (name v) (select v) at)) a (one_es s g locals (select v) (some_select (as_expression (value_at (codes "select") v)) (sel t.vars) t.needs)) (no_ts s g locals) (no_ps s g locals) (free_good s g known locals (name v ∷ []) a t.names) (no_names s g GroupNamed) (no_names s g ProcedureNamed) (no_names s g BufferNamed) none_distinct (no_bound s g)),
      tt,
    )
    item_says element.CallProcedure t h = (
      instr_ok s g locals (instr.CallProcedure (name v) (making.with_params list) at) (Instr-F.CallProcedure (name v) (making.with_params list) at) (rolls-CallProcedure (name v) (making.with_params list) at)
          (λ known a. own_good s g known locals (inner_said (Instr-F.CallProcedure (name v) (making.with_params list) at)) a (handed_in h.says (h.plain refl)) (no_ts s g locals) (no_ps s g locals) (no_bound s g) (no_names s g GroupNamed) (one_name s g ProcedureNamed (name v) t.names) (no_names s g BufferNamed) h.apart (no_bound s g)),
      tt,
    )
    item_says element.ProcessChildren t h = (
      instr_ok s g locals (instr.ProcessChildren (group_in v) (making.with_params list) at) (Instr-F.ProcessChildren (group_in v) (making.with_params list) at) (rolls-ProcessChildren (group_in v) (making.with_params list) at)
          (λ known a. own_good s g known locals (inner_said (Instr-F.ProcessChildren (group_in v) (making.with_params list) at)) a (handed_in h.says (h.plain refl)) (no_ts s g locals) (no_ps s g locals) (no_bound s g) t.base (no_names s g ProcedureNamed) (no_names s g BufferNamed) h.apart (no_bound s g)),
      tt,
    )
    item_says element.ProcessAttributes t h = (
      instr_ok s g locals (instr.ProcessAttributes (group_in v) (making.with_params list) at) (Instr-F.ProcessAttributes (group_in v) (making.with_params list) at) (rolls-ProcessAttributes (group_in v) (making.with_params list) at)
          (λ known a. own_good s g known locals (inner_said (Instr-F.ProcessAttributes (group_in v) (making.with_params list) at)) a (handed_in h.says (h.plain refl)) (no_ts s g locals) (no_ps s g locals) (no_bound s g) t.base (no_names s g ProcedureNamed) (no_names s g BufferNamed) h.apart (no_bound s g)),
      tt,
    )
    item_says element.ProcessSelf t h = (
      instr_ok s g locals (instr.ProcessSelf (group_in v) (making.with_params list) at) (Instr-F.ProcessSelf (group_in v) (making.with_params list) at) (rolls-ProcessSelf (group_in v) (making.with_params list) at)
          (λ known a. own_good s g known locals (inner_said (Instr-F.ProcessSelf (group_in v) (making.with_params list) at)) a (handed_in h.says (h.plain refl)) (no_ts s g locals) (no_ps s g locals) (no_bound s g) t.base (no_names s g ProcedureNamed) (no_names s g BufferNamed) h.apart (no_bound s g)),
      tt,
    )
    item_says element.ProcessSiblings t h = (
      instr_ok s g locals (instr.ProcessSiblings (as_pattern (value_at (codes "while") v)) (as_pattern (value_at (codes "until") v)) (group_in v) (making.with_params list) at) (Instr-F.ProcessSiblings (as_pattern (value_at (codes "while") v)) (as_pattern (value_at (codes "until") v)) (group_in v) (making.with_params list) at) (rolls-ProcessSiblings (as_pattern (value_at (codes "while") v)) (as_pattern (value_at (codes "until") v)) (group_in v) (making.with_params list) at)
          (λ known a. own_good s g known locals (inner_said (Instr-F.ProcessSiblings (as_pattern (value_at (codes "while") v)) (as_pattern (value_at (codes "until") v)) (group_in v) (making.with_params list) at)) a (handed_in h.says (h.plain refl)) (no_ts s g locals) (while_until t.pats) (no_bound s g) t.base (no_names s g ProcedureNamed) (no_names s g BufferNamed) h.apart (no_bound s g)),
      tt,
    )
    item_says element.ProcessBuffer t h = (
      instr_ok s g locals (instr.ProcessBuffer (name v) (group_in v) (making.with_params list) at) (Instr-F.ProcessBuffer (name v) (group_in v) (making.with_params list) at) (rolls-ProcessBuffer (name v) (group_in v) (making.with_params list) at)
          (λ known a. own_good s g known locals (inner_said (Instr-F.ProcessBuffer (name v) (group_in v) (making.with_params list) at)) a (handed_in h.says (h.plain refl)) (no_ts s g locals) (no_ps s g locals) (no_bound s g) t.base (no_names s g ProcedureNamed) (one_name s g BufferNamed (name v) t.names) h.apart (no_bound s g)),
      tt,
    )
    item_says element.ProcessDocument t h = (
      instr_ok s g locals (instr.ProcessDocument (template (codes "href") v) (group_in v) (making.with_params list) at) (Instr-F.ProcessDocument (template (codes "href") v) (group_in v) (making.with_params list) at) (rolls-ProcessDocument (template (codes "href") v) (group_in v) (making.with_params list) at)
          (λ known a. own_good s g known locals (inner_said (Instr-F.ProcessDocument (template (codes "href") v) (group_in v) (making.with_params list) at)) a (handed_in h.says (h.plain refl)) (one_template t.vars (codes "href") (hre t.vars)) (no_ps s g locals) (no_bound s g) t.base (no_names s g ProcedureNamed) (no_names s g BufferNamed) h.apart (no_bound s g)),
      tt,
    )
    item_says element.ResultBuffer t h = (
      instr_ok s g locals (instr.ResultBuffer (name v) (is_yes (value_at (codes "clear") v)) (body list) at) (Instr-F.ResultBuffer (name v) (is_yes (value_at (codes "clear") v)) (body list) at) (rolls-ResultBuffer (name v) (is_yes (value_at (codes "clear") v)) (body list) at)
          (λ known a. own_good s g known locals (inner_said (Instr-F.ResultBuffer (name v) (is_yes (value_at (codes "clear") v)) (body list) at)) a (no_es s g locals) (no_ts s g locals) (no_ps s g locals) (no_bound s g) (no_names s g GroupNamed) (no_names s g ProcedureNamed) (one_name s g BufferNamed (name v) t.names) none_distinct (body_in h.says (h.bare refl) known a)),
      tt,
    )
    item_says element.WithParam t h = (some_select (as_expression (value_at (codes "select") v)) (sel t.vars) t.needs, tt)
