-- A sheet of groups without names and templates without bodies is sound.
use Rattle.std.proofs.Common.{◌≡◌, ℕ, zero, suc, ◌+◌, ◌*◌, ◌<◌, ◌≤◌, ◌^◌, Bool, true, false, ◌&&◌, nat_le, nat_lt, is_none, List, [], ◌∷◌, ◌++◌, Option, Some, None, All, AllPairs, IfSome, length, sum_by, slice_get, refl, ap, sym, subst, ◌∙◌, arith}
use Rattle.std.proofs.Math.Nat.{suc-mul}
use Rattle.std.proofs.lemmas.Bool.Decides.{nat_tests}
use Rattle.std.proofs.lemmas.List.Elements.{All-nil, All-head, All-tail, All-weaker}
use Rattle.std.proofs.lemmas.List.Sums.{sum_by-cons}
use Rattle.std.specs.List.{flat_map, list_all}
use Rattle.std.specs.Option.{option_to_list}
use Rattle.choice_rows.specs.Bare.{IsBare, IsUnnamed, are_a_tree, are_behind, is_behind, is_few, is_plain, is_plain_step}
use Rattle.sheet_model.specs.Body.{all_of, bodies, body_nesting, instructions, sheet_nesting}
use Rattle.sheet_model.specs.Entries.{alternative_entries, entries, expression_entries, instruction_entries, pattern_entries, variables_entries}
use Rattle.sheet_model.specs.Names.{alternative_variables, free, is_same, pattern_variables, variables, with_params}
use Rattle.sheet_model.specs.Parts.{copied_attributes, place}
use Rattle.sheet_model.specs.Groups.{IsFound, IsNew}
use Rattle.sheet_model.specs.Sound.{AreATree, AreReadableVariables, IsAttributeTest, IsContent, IsInFile, IsReadableInstruction, IsReadableVariable, IsSound, StandsBehind, StandsIn, VariablesStand, group_names, procedure_says, template_says}
use Rattle.stx_base.specs.declared.name.Name.{Name}
use Rattle.stxpath_syntax.specs.Readable.{IsReadable, IsReadablePattern}
use Rattle.sheet_model.specs.declared.instr.Instr.{Instr}
use Rattle.sheet_model.specs.declared.instr.Instr.TheViews.{out-Instr}
use Rattle.sheet_model.specs.declared.sheet.Buffer.{Buffer}
use Rattle.sheet_model.specs.declared.sheet.Group.{Group}
use Rattle.sheet_model.specs.declared.sheet.Procedure.{Procedure}
use Rattle.sheet_model.specs.declared.sheet.Sheet.{Sheet}
use Rattle.sheet_model.specs.declared.sheet.Template.{Template}
use Rattle.sheet_model.specs.declared.sheet.Variable.{Variable}
use Rattle.stxpath_syntax.specs.declared.expr.Alternative.{Alternative}
use Rattle.stxpath_syntax.specs.declared.expr.Alternative.TheVariants as alternative
use Rattle.stxpath_syntax.specs.declared.expr.PathStep.{PathStep}
use Rattle.stxpath_syntax.specs.declared.expr.Pattern.{Pattern}

both : (a b : Bool) → (a && b) ≡ true → (a ≡ true) × (b ≡ true)
both true b h = (refl, h)
both false b h = cc

at_most : (n k : ℕ) → nat_le n k ≡ true → n ≤ k
at_most n k h = grind (arith, nat_tests)

below : (n k : ℕ) → nat_lt n k ≡ true → n < k
below n k h = grind (arith, nat_tests)

none_in : {A : Type 0} (xs : List A) → length xs ≤ 0 → xs ≡ []
none_in [] h = refl
none_in (x ∷ xs) h = absurd (omega arith)

-- nothing of each of them
flat_none : {A B : Type 0} (f : A → List B) (P : A → Type 0) → ((x : A) → P x → f x ≡ []) → (xs : List A) → All P xs → flat_map f xs ≡ []
flat_none f P none [] all = refl
flat_none f P none (x ∷ xs) all =
    ap (λ l. l ++ flat_map f xs) (none x (All-head P x xs all)) ∙ flat_none f P none xs (All-tail P x xs all)

flat_none_by : {A B : Type 0} (f : A → List B) (p : A → Bool) → ((x : A) → p x ≡ true → f x ≡ []) → (xs : List A) → list_all p xs ≡ true → flat_map f xs ≡ []
flat_none_by f p none [] all = refl
flat_none_by f p none (x ∷ xs) all =
    let parts = both (p x) (list_all p xs) all in
    ap (λ l. l ++ flat_map f xs) (none x parts.0) ∙ flat_none_by f p none xs parts.1

-- little of each of them
sum_most : {A : Type 0} (f : A → ℕ) (k : ℕ) (P : A → Type 0) → ((x : A) → P x → f x ≤ k) → (xs : List A) → All P xs → sum_by f xs ≤ length xs * k
sum_most f k P most [] all = omega arith
sum_most f k P most (x ∷ xs) all =
    let one = most x (All-head P x xs all) in
    let rest = sum_most f k P most xs (All-tail P x xs all) in
    let many : length (x ∷ xs) * k ≡ length xs * k + k = suc-mul (length xs) k in
    omega (arith, one, rest, many, sum_by-cons f x xs)

sum_most_by : {A : Type 0} (f : A → ℕ) (k : ℕ) (p : A → Bool) → ((x : A) → p x ≡ true → f x ≤ k) → (xs : List A) → list_all p xs ≡ true → sum_by f xs ≤ length xs * k
sum_most_by f k p most [] all = omega arith
sum_most_by f k p most (x ∷ xs) all =
    let parts = both (p x) (list_all p xs) all in
    let one = most x parts.0 in
    let rest = sum_most_by f k p most xs parts.1 in
    let many : length (x ∷ xs) * k ≡ length xs * k + k = suc-mul (length xs) k in
    omega (arith, one, rest, many, sum_by-cons f x xs)

-- ---- what plain patterns count, and name

plain_step : (s : PathStep) → is_plain_step s ≡ true → s.predicates ≡ []
plain_step s h = none_in s.predicates (at_most (length s.predicates) 0 h)

step_entries : (s : PathStep) → is_plain_step s ≡ true → length s.predicates + sum_by expression_entries s.predicates ≤ 0
step_entries s h = subst (λ ps. length ps + sum_by expression_entries ps ≤ 0) (sym (plain_step s h)) (omega arith)

few_entries : (a : Alternative) → is_few a ≡ true → alternative_entries a ≤ 16
few_entries alternative.Root h = omega arith
few_entries (alternative.Steps steps) h =
    let parts = both (nat_le (length steps) 16) (list_all is_plain_step steps) h in
    let none = sum_most_by (λ (s : PathStep). length s.predicates + sum_by expression_entries s.predicates) 0 is_plain_step step_entries steps parts.1 in
    omega (arith, at_most (length steps) 16 parts.0, none)

plain_entries : (p : Pattern) → is_plain p ≡ true → pattern_entries p ≤ 272
plain_entries p h =
    let parts = both (nat_le (length p.alternatives) 16) (list_all is_few p.alternatives) h in
    let few = sum_most_by alternative_entries 16 is_few few_entries p.alternatives parts.1 in
    omega (arith, at_most (length p.alternatives) 16 parts.0, few)

step_variables_none : (s : PathStep) → is_plain_step s ≡ true → flat_map variables s.predicates ≡ []
step_variables_none s h = ap (flat_map variables) (plain_step s h)

few_variables : (a : Alternative) → is_few a ≡ true → alternative_variables a ≡ []
few_variables alternative.Root h = refl
few_variables (alternative.Steps steps) h =
    let parts = both (nat_le (length steps) 16) (list_all is_plain_step steps) h in
    flat_none_by (λ (s : PathStep). flat_map variables s.predicates) is_plain_step step_variables_none steps parts.1

plain_variables : (p : Pattern) → is_plain p ≡ true → pattern_variables p ≡ []
plain_variables p h =
    flat_none_by alternative_variables is_few few_variables p.alternatives (both (nat_le (length p.alternatives) 16) (list_all is_few p.alternatives) h).1

-- ---- groups

is_behind_is : (k : ℕ) (o : Option ℕ) → is_behind k o ≡ true → StandsBehind k o
is_behind_is k None h = cc
is_behind_is k (Some p) h = below p k h

behind : (k : ℕ) (gs : List Group) (n : ℕ) (g : Group) → are_behind k gs ≡ true → slice_get gs n ≡ Some g → StandsBehind (n + k) g.parent
behind k [] n g h at = cc
behind k (x ∷ gs) zero g h at =
    let same : x ≡ g = cc in
    let here = subst (λ (g : Group). StandsBehind k g.parent) same (is_behind_is k x.parent (both (is_behind k x.parent) (are_behind (suc k) gs) h).0) in
    let place : k ≡ 0 + k = omega arith in
    subst (λ m. StandsBehind m g.parent) place here
behind k (x ∷ gs) (suc n) g h at =
    let later = behind (suc k) gs n g (both (is_behind k x.parent) (are_behind (suc k) gs) h).1 at in
    let place : n + suc k ≡ suc n + k = omega arith in
    subst (λ m. StandsBehind m g.parent) place later

no_parent : (o : Option ℕ) → is_none o ≡ true → o ≡ None
no_parent None h = refl
no_parent (Some p) h = cc

tree : (groups : List Group) → are_a_tree groups ≡ true → AreATree groups
tree [] h = cc
tree (root ∷ others) h =
    let parts = both (is_none root.parent) (are_behind 1 others) h in
    (no_parent root.parent parts.0, λ n g at. behind 1 others n g parts.1 at)

-- ---- the sheet

-- nothing is in an empty list
all_in_none : {A : Type 0} (P : A → Type 0) (xs : List A) → xs ≡ [] → All P xs
all_in_none P xs e = subst (All P) (sym e) (All-nil P)

pairs_in_none : {A : Type 0} (R : A → A → Type 0) (xs : List A) → xs ≡ [] → AllPairs R xs
pairs_in_none R xs e = subst (AllPairs R) (sym e) (λ i j d l m. absurd (omega arith))

module _ (s : Sheet) (bare : All (IsBare (length s.groups)) s.templates) (no_procedures : s.procedures ≡ []) where
  no_bodies : bodies s ≡ []
  no_bodies =
      ap (λ l. l ++ flat_map (λ (p : Procedure). p.body) s.procedures) (flat_none (λ (t : Template). t.body) (IsBare (length s.groups)) (λ t b. b.body) s.templates bare)
      ∙ ap (flat_map (λ (p : Procedure). p.body)) no_procedures

  no_instructions : instructions s ≡ []
  no_instructions = ap all_of no_bodies

  flat : sheet_nesting s ≤ 512
  flat = subst (λ body. body_nesting body ≤ 512) (sym no_bodies) (omega arith)

  says_nothing : (t : Template) → IsBare (length s.groups) t → template_says t ≡ []
  says_nothing t b = ap (λ ps. with_params ps t.body []) b.params ∙ ap (λ body. with_params [] body []) b.body

  counts_little : (t : Template) → IsBare (length s.groups) t → pattern_entries t.pattern + variables_entries t.params + length t.body ≤ 272
  counts_little t b = omega (arith, plain_entries t.pattern b.plain, ap variables_entries b.params, ap length b.body)

  small : s.buffers ≡ [] → s.variables ≡ [] → length s.files ≡ 1 → length s.groups < 4097 → length s.templates < 4097 → entries s < 2 ^ 28
  small no_buffers no_variables files few_groups few_templates =
      let templates =
      sum_most (λ (t : Template). pattern_entries t.pattern + variables_entries t.params + length t.body) 272 (IsBare (length s.groups)) counts_little s.templates bare in
      omega (
        arith,
        templates,
        few_groups,
        few_templates,
        files,
        ap length no_procedures,
        ap length no_buffers,
        ap variables_entries no_variables,
        ap (sum_by (λ (p : Procedure). variables_entries p.params + length p.body)) no_procedures,
        ap (sum_by (λ (b : Buffer). length b.content)) no_buffers,
        ap (sum_by instruction_entries) no_instructions,
      )

  pub sound : are_a_tree s.groups ≡ true → All IsUnnamed s.groups → s.buffers ≡ [] → s.variables ≡ [] → length s.files ≡ 1 → length s.groups < 4097 → length s.templates < 4097 → IsSound s
  sound is_tree unnamed no_buffers no_variables files few_groups few_templates = record {
    groups = tree s.groups is_tree;
    numbers = record {
      groups = All-weaker IsUnnamed (λ (g : Group). IsInFile s g.at) (λ g u. omega (arith, u.file, files)) s.groups unnamed;
      templates =
          All-weaker (IsBare (length s.groups)) (λ (t : Template). StandsIn s t.group t.at × VariablesStand s t.params)
          (λ t b. ((b.group, omega (arith, b.file, files)), all_in_none (λ (v : Variable). StandsIn s v.group v.at) t.params b.params)) s.templates bare;
      procedures = all_in_none (λ (p : Procedure). StandsIn s p.group p.at × VariablesStand s p.params) s.procedures no_procedures;
      buffers = all_in_none (λ (b : Buffer). StandsIn s b.group b.at) s.buffers no_buffers;
      variables = all_in_none (λ (v : Variable). StandsIn s v.group v.at) s.variables no_variables;
      instructions = all_in_none (λ (i : Instr). IsInFile s (place (out-Instr i))) (instructions s) no_instructions;
    };
    readable = record {
      variables = all_in_none IsReadableVariable s.variables no_variables;
      templates =
          All-weaker (IsBare (length s.groups)) (λ (t : Template). IsReadablePattern t.pattern.alternatives × AreReadableVariables t.params)
          (λ t b. (b.readable, all_in_none IsReadableVariable t.params b.params)) s.templates bare;
      procedures = all_in_none (λ (p : Procedure). AreReadableVariables p.params) s.procedures no_procedures;
      instructions = all_in_none IsReadableInstruction (instructions s) no_instructions;
    };
    copies = all_in_none (λ (i : Instr). All (λ (p : Pattern). All IsAttributeTest p.alternatives) (copied_attributes (out-Instr i))) (instructions s) no_instructions;
    found = record {
      declarations = λ n v at. let none = ap (λ vs. slice_get vs n) no_variables in cc;
      patterns =
          All-weaker (IsBare (length s.groups)) (λ (t : Template). All (IsFound s t.group) (free [] (pattern_variables t.pattern)))
          (λ t b. all_in_none (IsFound s t.group) (free [] (pattern_variables t.pattern)) (ap (free []) (plain_variables t.pattern b.plain))) s.templates bare;
      templates =
          All-weaker (IsBare (length s.groups)) (λ (t : Template). All (IsFound s t.group) (template_says t))
          (λ t b. all_in_none (IsFound s t.group) (template_says t) (says_nothing t b)) s.templates bare;
      procedures = all_in_none (λ (p : Procedure). All (IsFound s p.group) (procedure_says p)) s.procedures no_procedures;
    };
    new = record {
      groups =
          pairs_in_none (λ (m n : Name). is_same m n ≡ false) (group_names s.groups)
          (flat_none (λ (g : Group). option_to_list g.name) IsUnnamed (λ g u. ap option_to_list u.name) s.groups unnamed);
      procedures = pairs_in_none (λ (x y : Procedure). x.group ≡ y.group → is_same x.name y.name ≡ false) s.procedures no_procedures;
      buffers = pairs_in_none (λ (x y : Buffer). x.group ≡ y.group → is_same x.name y.name ≡ false) s.buffers no_buffers;
      variables = pairs_in_none (λ (x y : Variable). x.group ≡ y.group → is_same x.name y.name ≡ false) s.variables no_variables;
      in_templates =
          All-weaker (IsBare (length s.groups)) (λ (t : Template). All IsNew (template_says t))
          (λ t b. all_in_none IsNew (template_says t) (says_nothing t b)) s.templates bare;
      in_procedures = all_in_none (λ (p : Procedure). All IsNew (procedure_says p)) s.procedures no_procedures;
    };
    buffers = all_in_none (λ (b : Buffer). IsContent b.content) s.buffers no_buffers;
    small = small no_buffers no_variables files few_groups few_templates;
    flat = flat;
  }
