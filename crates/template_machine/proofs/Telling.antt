-- What a body says is said by each of its instructions.
use Rattle.std.proofs.Common.{◌≡◌, ℕ, zero, suc, List, [], ◌∷◌, ◌++◌, map, All, Some, sym, subst}
use Rattle.std.specs.List.{flat_map}
use Rattle.std.specs.Option.{option_to_list}
use Rattle.std.proofs.lemmas.List.Elements.{All-append, All-cons, All-head, All-nil, All-tail}
use Rattle.sheet_model.specs.Body.{children, in_order, inner}
use Rattle.sheet_model.specs.Names.{Branch, BufferNamed, GroupNamed, LocalDeclared, Mention, ParamsNamed, ProcedureNamed, Said, bound, branch_said, free, in_turn, layer_said, own, pattern_variables, said, template_variables, variables, with_params, within}
use Rattle.sheet_model.specs.Parts.{base_named, buffer_named, conditions, copied_attributes, expressions, handed, procedure_named, templates}
use Rattle.sheet_model.specs.declared.instr.Instr.{Instr}
use Rattle.sheet_model.specs.declared.instr.Instr.TheFolds.{fold-When, fold-roll-Instr, fold-roll-When}
use Rattle.sheet_model.specs.declared.instr.Instr.TheOpen.{Instr-F}
use Rattle.sheet_model.specs.declared.instr.Instr.TheViews.{out-Instr, roll-Instr, roll-out-Instr}
use Rattle.sheet_model.specs.declared.instr.When.{When}
use Rattle.sheet_model.specs.declared.instr.WithParam.{WithParam}
use Rattle.sheet_model.specs.declared.sheet.Variable.{Variable}
use Rattle.stx_base.specs.declared.name.Name.{Name}

pub all_first : {A : Type 0} (P : A → Type 0) (xs ys : List A) → All P (xs ++ ys) → All P xs
all_first P [] ys all = All-nil P
all_first P (x ∷ xs) ys all = All-cons P x xs (All-head P x (xs ++ ys) all) (all_first P xs ys (All-tail P x (xs ++ ys) all))

pub all_second : {A : Type 0} (P : A → Type 0) (xs ys : List A) → All P (xs ++ ys) → All P ys
all_second P [] ys all = all
all_second P (x ∷ xs) ys all = all_second P xs ys (All-tail P x (xs ++ ys) all)

-- What an instruction itself says, part by part.

abbrev frees : Instr-F Said Branch → List Name → List Mention
frees x locals = free locals (flat_map variables (expressions (λ (b : Branch). b.test) x) ++ flat_map template_variables (templates x))

abbrev patterns : Instr-F Said Branch → List Mention
patterns x = free [] (flat_map pattern_variables (conditions x ++ copied_attributes x))

abbrev groups : Instr-F Said Branch → List Mention
groups x = map (λ n. GroupNamed n) (option_to_list (base_named x))

abbrev procedures : Instr-F Said Branch → List Mention
procedures x = map (λ n. ProcedureNamed n) (option_to_list (procedure_named x))

abbrev buffers : Instr-F Said Branch → List Mention
buffers x = map (λ n. BufferNamed n) (option_to_list (buffer_named x))

abbrev params : Instr-F Said Branch → List Mention
params x = ParamsNamed (map (λ (p : WithParam). p.name) (handed x)) ∷ []

abbrev branch : When → Branch
branch = fold-When Said Branch layer_said branch_said

module _ (P : Mention → Type 0) where
  of_parts : (a b c d e f g w : List Mention) → All P ((a ++ b ++ c ++ d ++ e ++ f ++ g) ++ w) → All P e × All P f
  of_parts a b c d e f g w all =
      let own = all_first P (a ++ b ++ c ++ d ++ e ++ f ++ g) w all in
      let to_f = all_first P (a ++ b ++ c ++ d ++ e ++ f) g own in
      let to_e = all_first P (a ++ b ++ c ++ d ++ e) f to_f in
      (all_second P (a ++ b ++ c ++ d) e to_e, all_second P (a ++ b ++ c ++ d ++ e) f to_f)

  named_parts : (x : Instr-F Said Branch) (locals : List Name) → All P ((layer_said x).says locals) → All P (procedures x) × All P (buffers x)
  named_parts x locals all = of_parts (frees x locals) (patterns x) (bound x locals) (groups x) (procedures x) (buffers x) (params x) (within x locals) all

  -- all that it says holds, where some locals are in scope
  abbrev pub Told : Instr → Type 0
  Told i = (locals : List Name) × All P ((said i).says locals)

  pub each_told : (body : List Instr) (locals : List Name) → All P (in_turn (map said body) locals) → All Told body
  each_told [] locals all = All-nil Told
  each_told (i ∷ is) locals all =
      All-cons Told i is (locals, all_first P ((said i).says locals) (in_turn (map said is) ((said i).declares ++ locals)) all)
      (each_told is ((said i).declares ++ locals) (all_second P ((said i).says locals) (in_turn (map said is) ((said i).declares ++ locals)) all))

  branch_is : (w : When) → branch w ≡ record { test = w.test; says = in_turn (map said w.body) }
  unfolding said
  branch_is w = fold-roll-When Said Branch layer_said branch_said (record { test = w.test; body = w.body })

  whens_told : (ws : List When) (locals : List Name) → All P (flat_map (λ (b : Branch). b.says locals) (map branch ws)) → All Told (flat_map (λ (w : When). w.body) ws)
  whens_told [] locals all = All-nil Told
  whens_told (w ∷ ws) locals all =
      let rest = flat_map (λ (b : Branch). b.says locals) (map branch ws) in
      let first : All P (in_turn (map said w.body) locals) = subst (λ (b : Branch). All P (b.says locals)) (branch_is w) (all_first P ((branch w).says locals) rest all) in
      All-append Told w.body (flat_map (λ (w : When). w.body) ws) (each_told w.body locals first) (whens_told ws locals (all_second P ((branch w).says locals) rest all))

  -- so of what stands within it
  layer_children : (x : Instr-F Instr When) (locals : List Name) → All P ((said (roll-Instr x)).says locals) → All Told (inner (λ (w : When). w.body) x)
  unfolding said
  layer_children (Instr-F.Copy attributes body at) locals all =
      let y : Instr-F Said Branch = Instr-F.Copy attributes (map said body) at in
      each_told body locals
      (all_second P (own y locals) (within y locals)
      (subst (λ (s : Said). All P (s.says locals)) (fold-roll-Instr Said Branch layer_said branch_said (Instr-F.Copy attributes body at)) all))
  layer_children (Instr-F.Element name namespace scope body at) locals all =
      let y : Instr-F Said Branch = Instr-F.Element name namespace scope (map said body) at in
      each_told body locals
      (all_second P (own y locals) (within y locals)
      (subst (λ (s : Said). All P (s.says locals)) (fold-roll-Instr Said Branch layer_said branch_said (Instr-F.Element name namespace scope body at)) all))
  layer_children (Instr-F.If test body other at) locals all =
      let y : Instr-F Said Branch = Instr-F.If test (map said body) (map said other) at in
      let both = all_second P (own y locals) (within y locals)
      (subst (λ (s : Said). All P (s.says locals)) (fold-roll-Instr Said Branch layer_said branch_said (Instr-F.If test body other at)) all) in
      All-append Told body other (each_told body locals (all_first P (in_turn (map said body) locals) (in_turn (map said other) locals) both))
      (each_told other locals (all_second P (in_turn (map said body) locals) (in_turn (map said other) locals) both))
  layer_children (Instr-F.Choose whens other at) locals all =
      let y : Instr-F Said Branch = Instr-F.Choose (map branch whens) (map said other) at in
      let arms = flat_map (λ (b : Branch). b.says locals) (map branch whens) in
      let both = all_second P (own y locals) (within y locals)
      (subst (λ (s : Said). All P (s.says locals)) (fold-roll-Instr Said Branch layer_said branch_said (Instr-F.Choose whens other at)) all) in
      All-append Told (flat_map (λ (w : When). w.body) whens) other (whens_told whens locals (all_first P arms (in_turn (map said other) locals) both))
      (each_told other locals (all_second P arms (in_turn (map said other) locals) both))
  layer_children (Instr-F.ForEachItem name select body at) locals all =
      let y : Instr-F Said Branch = Instr-F.ForEachItem name select (map said body) at in
      each_told body (name ∷ locals)
      (all_second P (own y locals) (within y locals)
      (subst (λ (s : Said). All P (s.says locals)) (fold-roll-Instr Said Branch layer_said branch_said (Instr-F.ForEachItem name select body at)) all))
  layer_children (Instr-F.While test body at) locals all =
      let y : Instr-F Said Branch = Instr-F.While test (map said body) at in
      each_told body locals
      (all_second P (own y locals) (within y locals)
      (subst (λ (s : Said). All P (s.says locals)) (fold-roll-Instr Said Branch layer_said branch_said (Instr-F.While test body at)) all))
  layer_children (Instr-F.ResultBuffer name clear body at) locals all =
      let y : Instr-F Said Branch = Instr-F.ResultBuffer name clear (map said body) at in
      each_told body locals
      (all_second P (own y locals) (within y locals)
      (subst (λ (s : Said). All P (s.says locals)) (fold-roll-Instr Said Branch layer_said branch_said (Instr-F.ResultBuffer name clear body at)) all))
  layer_children (Instr-F.Literal name attrs body at) locals all =
      let y : Instr-F Said Branch = Instr-F.Literal name attrs (map said body) at in
      each_told body locals
      (all_second P (own y locals) (within y locals)
      (subst (λ (s : Said). All P (s.says locals)) (fold-roll-Instr Said Branch layer_said branch_said (Instr-F.Literal name attrs body at)) all))
  layer_children x locals all = All-nil Told

  children_told : (i : Instr) → Told i → All Told (children i)
  children_told i t = layer_children (out-Instr i) t.0 (subst (λ (j : Instr). All P ((said j).says t.0)) (sym (roll-out-Instr i)) t.1)

  pub all_told : (n : ℕ) (body : List Instr) → All Told body → All Told (in_order n body)
  all_told zero body all = All-nil Told
  all_told (suc n) [] all = All-nil Told
  all_told (suc n) (i ∷ is) all =
      let here = All-head Told i is all in
      All-append Told (i ∷ in_order n (children i)) (in_order (suc n) is)
      (All-cons Told i (in_order n (children i)) here (all_told n (children i) (children_told i here)))
      (all_told (suc n) is (All-tail Told i is all))

  -- the procedure and the buffer that it names are told
  layer_named : (x : Instr-F Instr When) (locals : List Name) → All P ((said (roll-Instr x)).says locals)
      → ((name : Name) → procedure_named x ≡ Some name → P (ProcedureNamed name)) × ((name : Name) → buffer_named x ≡ Some name → P (BufferNamed name))
  unfolding said
  layer_named (Instr-F.CallProcedure name params at) locals all =
      let y : Instr-F Said Branch = Instr-F.CallProcedure name params at in
      let parts = named_parts y locals
      (subst (λ (s : Said). All P (s.says locals)) (fold-roll-Instr Said Branch layer_said branch_said (Instr-F.CallProcedure name params at)) all) in
      ((λ other e. let same : name ≡ other = cc in subst (λ n. P (ProcedureNamed n)) same (All-head P (ProcedureNamed name) [] parts.0)), (λ other e. absurd (cc)))
  layer_named (Instr-F.ProcessBuffer name group params at) locals all =
      let y : Instr-F Said Branch = Instr-F.ProcessBuffer name group params at in
      let parts = named_parts y locals
      (subst (λ (s : Said). All P (s.says locals)) (fold-roll-Instr Said Branch layer_said branch_said (Instr-F.ProcessBuffer name group params at)) all) in
      ((λ other e. absurd (cc)), (λ other e. let same : name ≡ other = cc in subst (λ n. P (BufferNamed n)) same (All-head P (BufferNamed name) [] parts.1)))
  layer_named (Instr-F.ResultBuffer name clear body at) locals all =
      let y : Instr-F Said Branch = Instr-F.ResultBuffer name clear (map said body) at in
      let parts = named_parts y locals
      (subst (λ (s : Said). All P (s.says locals)) (fold-roll-Instr Said Branch layer_said branch_said (Instr-F.ResultBuffer name clear body at)) all) in
      ((λ other e. absurd (cc)), (λ other e. let same : name ≡ other = cc in subst (λ n. P (BufferNamed n)) same (All-head P (BufferNamed name) [] parts.1)))
  layer_named x locals all = ((λ other e. absurd (cc)), (λ other e. absurd (cc)))

  pub named_told : (i : Instr) → Told i
      → ((name : Name) → procedure_named (out-Instr i) ≡ Some name → P (ProcedureNamed name)) × ((name : Name) → buffer_named (out-Instr i) ≡ Some name → P (BufferNamed name))
  named_told i t = layer_named (out-Instr i) t.0 (subst (λ (j : Instr). All P ((said j).says t.0)) (sym (roll-out-Instr i)) t.1)

  -- a body behind its parameters
  pub body_told : (vs : List Variable) (body : List Instr) (locals : List Name) → All P (with_params vs body locals) → All Told body
  body_told [] body locals all = each_told body locals all
  body_told (v ∷ vs) body locals all =
      let first = free locals (flat_map variables (option_to_list v.select)) in
      let rest = with_params vs body (v.name ∷ locals) in
      body_told vs body (v.name ∷ locals) (All-tail P (LocalDeclared v.name locals) rest (all_second P first (LocalDeclared v.name locals ∷ rest) all))
