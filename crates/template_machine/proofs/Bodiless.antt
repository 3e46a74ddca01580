-- A sheet without its bodies is as sound as it was.
use Rattle.std.proofs.Common.{◌≡◌, ℕ, ◌+◌, ◌<◌, ◌≤◌, ◌^◌, false, List, [], ◌∷◌, ◌++◌, length, get_or, map, All, Any, AllPairs, sum_by, refl, ap, sym, subst, ◌∙◌, arith}
use Rattle.std.proofs.lemmas.List.{get_or-append-add, get_or-map, get_or_append_left, length-append, length-map}
use Rattle.std.proofs.lemmas.List.Elements.{All-append, All-cons, All-map, All-nil}
use Rattle.std.proofs.lemmas.List.Sums.{sum_by-cons}
use Rattle.std.specs.List.{flat_map}
use Rattle.std.specs.Option.{option_to_list}
use Rattle.stx_base.specs.declared.name.Name.{Name}
use Rattle.instr_code.specs.Bare.{procedure_without_body, template_without_body, without_bodies}
use Rattle.sheet_model.specs.Body.{all_of, bodies, body_nesting, instructions, sheet_nesting}
use Rattle.sheet_model.specs.Entries.{entries, instruction_entries, pattern_entries, variables_entries}
use Rattle.sheet_model.specs.Groups.{Finds, IsFound, IsNew}
use Rattle.sheet_model.specs.Names.{Mention, GroupNamed, ProcedureNamed, BufferNamed, VariableNamed, LocalDeclared, ParamsNamed, free, is_same, pattern_variables, variables, with_params}
use Rattle.sheet_model.specs.Parts.{copied_attributes, place}
use Rattle.sheet_model.specs.Sound.{IsInFile, IsReadableInstruction, IsSound, StandsIn, VariablesStand, AreReadableVariables, IsAttributeTest, procedure_says, template_says}
use Rattle.sheet_model.specs.declared.instr.Instr.{Instr}
use Rattle.sheet_model.specs.declared.instr.Instr.TheViews.{out-Instr}
use Rattle.sheet_model.specs.declared.sheet.Procedure.{Procedure}
use Rattle.sheet_model.specs.declared.sheet.Sheet.{Sheet}
use Rattle.sheet_model.specs.declared.sheet.Template.{Template}
use Rattle.sheet_model.specs.declared.sheet.Variable.{Variable}
use Rattle.stxpath_syntax.specs.Readable.{IsReadablePattern}
use Rattle.stxpath_syntax.specs.declared.expr.Pattern.{Pattern}

-- Lists.

all_first : {X : Type 0} (P : X → Type 0) (xs ys : List X) → All P (xs ++ ys) → All P xs
all_first P xs ys h = λ k d l. subst P (get_or_append_left xs ys d k l) (h k d (omega (arith, l, length-append xs ys)))

all_second : {X : Type 0} (P : X → Type 0) (xs ys : List X) → All P (xs ++ ys) → All P ys
all_second P xs ys h = λ k d l. subst P (get_or-append-add xs ys k d) (h (length xs + k) d (omega (arith, l, length-append xs ys)))

all_head : {X : Type 0} (P : X → Type 0) (x : X) (xs : List X) → All P (x ∷ xs) → P x
all_head P x xs h = h 0 x (omega arith)

all_tail : {X : Type 0} (P : X → Type 0) (x : X) (xs : List X) → All P (x ∷ xs) → All P xs
all_tail P x xs h = all_second P (x ∷ []) xs h

all_more : {X : Type 0} (P Q : X → Type 0) (xs : List X) → ((x : X) → P x → Q x) → All P xs → All Q xs
all_more P Q xs f h = λ k d l. f (get_or xs k d) (h k d l)

any_map : {X Y : Type 0} (P : Y → Type 0) (f : X → Y) (xs : List X) → Any (λ x. P (f x)) xs → Any P (map f xs)
any_map P f xs h =
    (h.0, f h.1, omega (arith, h.2, length-map xs f), get_or-map f xs h.0 h.1 (f h.1) h.2 ∙ ap f h.3, h.4)

pairs_map : {X Y : Type 0} (R : Y → Y → Type 0) (f : X → Y) (back : Y → X) (xs : List X) → AllPairs (λ x y. R (f x) (f y)) xs → AllPairs R (map f xs)
pairs_map R f back xs h = λ i j d less within.
    let long = length-map xs f in
    let w : j < length xs = omega (arith, within, long) in
    let v : i < length xs = omega (arith, less, w) in
    subst (λ a. R a (get_or (map f xs) j d)) (sym (get_or-map f xs i (back d) d v))
    (subst (R (f (get_or xs i (back d)))) (sym (get_or-map f xs j (back d) d w)) (h i j (back d) less w))

sum_at_most : {X Y : Type 0} (a : X → ℕ) (b : Y → ℕ) (f : X → Y) → ((x : X) → b (f x) ≤ a x) → (xs : List X) → sum_by b (map f xs) ≤ sum_by a xs
sum_at_most a b f le [] = omega arith
sum_at_most a b f le (x ∷ xs) =
    omega (arith, sum_by-cons b (f x) (map f xs), sum_by-cons a x xs, le x, sum_at_most a b f le xs)

-- Bodies.

none_in_templates : (ts : List Template) → flat_map (λ (t : Template). t.body) (map template_without_body ts) ≡ []
none_in_templates [] = refl
none_in_templates (t ∷ ts) = none_in_templates ts

none_in_procedures : (ps : List Procedure) → flat_map (λ (p : Procedure). p.body) (map procedure_without_body ps) ≡ []
none_in_procedures [] = refl
none_in_procedures (p ∷ ps) = none_in_procedures ps

pub no_bodies : (s : Sheet) → bodies (without_bodies s) ≡ []
no_bodies s =
    ap (λ l. l ++ flat_map (λ (p : Procedure). p.body) (map procedure_without_body s.procedures)) (none_in_templates s.templates)
    ∙ none_in_procedures s.procedures

no_instructions : (s : Sheet) → instructions (without_bodies s) ≡ []
no_instructions s = ap all_of (no_bodies s)

none_of : (P : Instr → Type 0) (s : Sheet) → All P (instructions (without_bodies s))
none_of P s = subst (All P) (sym (no_instructions s)) (All-nil P)

-- what is said without the body was said with it
less_said : (P : Mention → Type 0) (params : List Variable) (body : List Instr) (locals : List Name) → All P (with_params params body locals)
    → All P (with_params params [] locals)
less_said P [] body locals h = All-nil P
less_said P (v ∷ params) body locals h =
    let own = free locals (flat_map variables (option_to_list v.select)) in
    let mine = LocalDeclared v.name locals in
    let with_body = with_params params body (v.name ∷ locals) in
    let rest = all_second P own (mine ∷ with_body) h in
    All-append P own (mine ∷ with_params params [] (v.name ∷ locals)) (all_first P own (mine ∷ with_body) h)
    (All-cons P mine (with_params params [] (v.name ∷ locals)) (all_head P mine with_body rest)
    (less_said P params body (v.name ∷ locals) (all_tail P mine with_body rest)))

-- what is found is found without bodies
pub found_too : (s : Sheet) (from : ℕ) (m : Mention) → IsFound s from m → IsFound (without_bodies s) from m
found_too s from (GroupNamed n) h = h
found_too s from (ProcedureNamed n) h = any_map (λ (p : Procedure). Finds s from n p.group p.name) procedure_without_body s.procedures h
found_too s from (BufferNamed n) h = h
found_too s from (VariableNamed n) h = h
found_too s from (LocalDeclared n in_scope) h = h
found_too s from (ParamsNamed names) h = h

module _ (s : Sheet) (h : IsSound s) where
  abbrev t : Sheet
  t = without_bodies s

  small_too : entries t < 2 ^ 28
  small_too =
      let of_templates =
      sum_at_most (λ (x : Template). pattern_entries x.pattern + variables_entries x.params + length x.body)
      (λ (x : Template). pattern_entries x.pattern + variables_entries x.params + length x.body) template_without_body (λ x. omega arith) s.templates in
      let of_procedures =
      sum_at_most (λ (x : Procedure). variables_entries x.params + length x.body) (λ (x : Procedure). variables_entries x.params + length x.body)
      procedure_without_body (λ x. omega arith) s.procedures in
      let none : sum_by instruction_entries (instructions t) ≡ 0 = ap (sum_by instruction_entries) (no_instructions s) in
      omega (arith, h.small, of_templates, of_procedures, none, length-map s.templates template_without_body, length-map s.procedures procedure_without_body)

  flat_too : sheet_nesting t ≤ 512
  flat_too = let none : body_nesting (bodies t) ≡ 0 = ap body_nesting (no_bodies s) in omega (arith, none)

  pub sound_too : IsSound (without_bodies s)
  sound_too = record {
    groups = h.groups;
    numbers = record {
      groups = h.numbers.groups;
      templates = All-map (λ (x : Template). StandsIn t x.group x.at × VariablesStand t x.params) template_without_body s.templates h.numbers.templates;
      procedures = All-map (λ (x : Procedure). StandsIn t x.group x.at × VariablesStand t x.params) procedure_without_body s.procedures h.numbers.procedures;
      buffers = h.numbers.buffers;
      variables = h.numbers.variables;
      instructions = none_of (λ i. IsInFile t (place (out-Instr i))) s;
    };
    readable = record {
      variables = h.readable.variables;
      templates = All-map (λ (x : Template). IsReadablePattern x.pattern.alternatives × AreReadableVariables x.params) template_without_body s.templates h.readable.templates;
      procedures = All-map (λ (x : Procedure). AreReadableVariables x.params) procedure_without_body s.procedures h.readable.procedures;
      instructions = none_of IsReadableInstruction s;
    };
    copies = none_of (λ i. All (λ (p : Pattern). All IsAttributeTest p.alternatives) (copied_attributes (out-Instr i))) s;
    found = record {
      declarations = h.found.declarations;
      patterns = found_patterns;
      templates = found_templates;
      procedures = found_procedures;
    };
    new = record {
      groups = h.new.groups;
      procedures = pairs_map (λ (x y : Procedure). x.group ≡ y.group → is_same x.name y.name ≡ false) procedure_without_body (λ p. p) s.procedures h.new.procedures;
      buffers = h.new.buffers;
      variables = h.new.variables;
      in_templates = new_templates;
      in_procedures = new_procedures;
    };
    buffers = h.buffers;
    small = small_too;
    flat = flat_too;
  } where
    found_patterns : All (λ (x : Template). All (IsFound t x.group) (free [] (pattern_variables x.pattern))) t.templates
    found_patterns =
        All-map (λ (x : Template). All (IsFound t x.group) (free [] (pattern_variables x.pattern))) template_without_body s.templates
        (all_more (λ (x : Template). All (IsFound s x.group) (free [] (pattern_variables x.pattern))) (λ (x : Template). All (IsFound t x.group) (free [] (pattern_variables x.pattern))) s.templates
        (λ x. all_more (IsFound s x.group) (IsFound t x.group) (free [] (pattern_variables x.pattern)) (found_too s x.group)) h.found.patterns)

    found_templates : All (λ (x : Template). All (IsFound t x.group) (template_says x)) t.templates
    found_templates =
        All-map (λ (x : Template). All (IsFound t x.group) (template_says x)) template_without_body s.templates
        (all_more (λ (x : Template). All (IsFound s x.group) (template_says x)) (λ (x : Template). All (IsFound t x.group) (template_says (template_without_body x))) s.templates
        (λ x a. all_more (IsFound s x.group) (IsFound t x.group) (template_says (template_without_body x)) (found_too s x.group) (less_said (IsFound s x.group) x.params x.body [] a)) h.found.templates)

    found_procedures : All (λ (x : Procedure). All (IsFound t x.group) (procedure_says x)) t.procedures
    found_procedures =
        All-map (λ (x : Procedure). All (IsFound t x.group) (procedure_says x)) procedure_without_body s.procedures
        (all_more (λ (x : Procedure). All (IsFound s x.group) (procedure_says x)) (λ (x : Procedure). All (IsFound t x.group) (procedure_says (procedure_without_body x))) s.procedures
        (λ x a. all_more (IsFound s x.group) (IsFound t x.group) (procedure_says (procedure_without_body x)) (found_too s x.group) (less_said (IsFound s x.group) x.params x.body [] a)) h.found.procedures)

    new_templates : All (λ (x : Template). All IsNew (template_says x)) t.templates
    new_templates =
        All-map (λ (x : Template). All IsNew (template_says x)) template_without_body s.templates
        (all_more (λ (x : Template). All IsNew (template_says x)) (λ (x : Template). All IsNew (template_says (template_without_body x))) s.templates
        (λ x a. less_said IsNew x.params x.body [] a) h.new.in_templates)

    new_procedures : All (λ (x : Procedure). All IsNew (procedure_says x)) t.procedures
    new_procedures =
        All-map (λ (x : Procedure). All IsNew (procedure_says x)) procedure_without_body s.procedures
        (all_more (λ (x : Procedure). All IsNew (procedure_says x)) (λ (x : Procedure). All IsNew (procedure_says (procedure_without_body x))) s.procedures
        (λ x a. less_said IsNew x.params x.body [] a) h.new.in_procedures)
