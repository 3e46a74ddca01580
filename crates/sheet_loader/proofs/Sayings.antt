-- What bodies say, where each name of an instruction is found from a group, and is new.
use Rattle.std.proofs.Common.{◌≡◌, ℕ, Bool, true, false, not, ◌&&◌, IsTrue, List, [], ◌∷◌, ◌++◌, Option, Some, None, cond, filter, map, refl, ap, sym, ◌∙◌, if◌then◌else◌}
use Rattle.std.proofs.Math.Path.{subst}
use Rattle.std.proofs.lemmas.List.Elements.{All-append, All-cons, All-head, All-nil, All-tail}
use Rattle.std.proofs.lemmas.List.Folds.{Any-from_list_any}
use Rattle.std.specs.List.{All, Any, flat_map, list_any}
use Rattle.std.specs.Option.{option_map_or, option_to_list}
use Rattle.stx_base.specs.declared.fault.Place.{Place}
use Rattle.stx_base.specs.declared.name.Name.{Name}
use Rattle.sheet_model.specs.Groups.{AreDistinct, Finds, HasVariable, IsFound, IsNamed, IsNew}
use Rattle.sheet_model.specs.Names.{BufferNamed, Branch, GroupNamed, Mention, ParamsNamed, ProcedureNamed, Said, VariableNamed, bound, branch_said, declared, free, in_turn, is_among, is_same, layer_said, own, pattern_variables, said, template_variables, variables, within}
use Rattle.sheet_model.specs.Parts.{base_named, buffer_named, conditions, copied_attributes, expressions, handed, procedure_named, templates}
use Rattle.sheet_model.specs.declared.instr.Instr.{Instr}
use Rattle.sheet_model.specs.declared.instr.Instr.TheFolds.{fold-When, fold-roll-Instr, fold-roll-When}
use Rattle.sheet_model.specs.declared.instr.Instr.TheOpen.{Instr-F}
use Rattle.sheet_model.specs.declared.instr.Instr.TheViews.{roll-Instr}
use Rattle.sheet_model.specs.declared.instr.When.{When}
use Rattle.sheet_model.specs.declared.instr.WithParam.{WithParam}
use Rattle.sheet_model.specs.declared.sheet.Buffer.{Buffer}
use Rattle.sheet_model.specs.declared.sheet.Group.{Group}
use Rattle.sheet_model.specs.declared.sheet.Procedure.{Procedure}
use Rattle.sheet_model.specs.declared.sheet.Sheet.{Sheet}
use Rattle.sheet_model.specs.declared.sheet.Variable.{Variable}
use Rattle.sheet_loader.specs.Making.{bare}
use Rattle.sheet_loader.specs.References.{A_variable, Reference, has_buffer, has_group, has_procedure, is_found, is_named, is_seen}
use Rattle.sheet_loader.specs.Referring.{refers, to_variables}
use Rattle.sheet_loader.specs.References.{first_lost}

-- either part of a list

pub All-front : {A : Type 0} (P : A → Type 0) (xs ys : List A) → All P (xs ++ ys) → All P xs
All-front P [] ys h = All-nil P
All-front P (x ∷ xs) ys h = All-cons P x xs (All-head P x (xs ++ ys) h) (All-front P xs ys (All-tail P x (xs ++ ys) h))

pub All-back : {A : Type 0} (P : A → Type 0) (xs ys : List A) → All P (xs ++ ys) → All P ys
All-back P [] ys h = h
All-back P (x ∷ xs) ys h = All-back P xs ys (All-tail P x (xs ++ ys) h)

pub any_weaker : {A : Type 0} (P R : A → Type 0) (xs : List A) → ((x : A) → P x → R x) → Any P xs → Any R xs
any_weaker P R xs f h = (h.0, h.1, h.2, h.3, f h.1 h.4)

-- the same names are among them
abbrev pub Alike : List Name → List Name → Type 0
Alike known locals = (n : Name) → is_among known n ≡ is_among locals n

both : (a b : Bool) → (a && b) ≡ true → (a ≡ true) × (b ≡ true)
both true b h = (refl, h)
both false b h = absurd cc

-- References that find something lead to what is there.

abbrev pub AllFound : Sheet → List Reference → Type 0
AllFound s rs = All (λ (r : Reference). is_found s r.sought ≡ true) rs

pub none_lost : (s : Sheet) (rs : List Reference) → first_lost s rs ≡ None → AllFound s rs
none_lost s [] h = All-nil (λ (r : Reference). is_found s r.sought ≡ true)
none_lost s (r ∷ rs) h = by_found (is_found s r.sought) refl h (none_lost s rs) where
  by_found : (b : Bool) → is_found s r.sought ≡ b → (if b then first_lost s rs else Some r) ≡ None → (first_lost s rs ≡ None → AllFound s rs) → AllFound s (r ∷ rs)
  by_found true e n rest = All-cons (λ (x : Reference). is_found s x.sought ≡ true) r rs e (rest n)
  by_found false e n rest = absurd cc

pub true_is : (b : Bool) → b ≡ true → IsTrue b
true_is b h = h

pub variable_there : (s : Sheet) (among : List Variable) (from : ℕ) (n : Name) → list_any (λ (v : Variable). is_seen s from v.group && is_same v.name n) among ≡ true → HasVariable s among from n
variable_there s among from n h =
    any_weaker (λ (v : Variable). (is_seen s from v.group && is_same v.name n) ≡ true) (λ (v : Variable). Finds s from n v.group v.name) among
    (λ v e. let b = both (is_seen s from v.group) (is_same v.name n) e in (true_is (is_seen s from v.group) b.0, true_is (is_same v.name n) b.1)) (Any-from_list_any (λ (v : Variable). is_seen s from v.group && is_same v.name n) among h)

pub procedure_there : (s : Sheet) (from : ℕ) (n : Name) → has_procedure s from n ≡ true → IsFound s from (ProcedureNamed n)
procedure_there s from n h =
    any_weaker (λ (p : Procedure). (is_seen s from p.group && is_same p.name n) ≡ true) (λ (p : Procedure). Finds s from n p.group p.name) s.procedures
    (λ p e. let b = both (is_seen s from p.group) (is_same p.name n) e in (true_is (is_seen s from p.group) b.0, true_is (is_same p.name n) b.1)) (Any-from_list_any (λ (p : Procedure). is_seen s from p.group && is_same p.name n) s.procedures h)

pub buffer_there : (s : Sheet) (from : ℕ) (n : Name) → has_buffer s from n ≡ true → IsFound s from (BufferNamed n)
buffer_there s from n h =
    any_weaker (λ (p : Buffer). (is_seen s from p.group && is_same p.name n) ≡ true) (λ (p : Buffer). Finds s from n p.group p.name) s.buffers
    (λ p e. let b = both (is_seen s from p.group) (is_same p.name n) e in (true_is (is_seen s from p.group) b.0, true_is (is_same p.name n) b.1)) (Any-from_list_any (λ (p : Buffer). is_seen s from p.group && is_same p.name n) s.buffers h)

named_is : (n : Name) (o : Option Name) → option_map_or (λ own. is_same own n) o false ≡ true → IsNamed n o
named_is n None h = absurd cc
named_is n (Some own) h = true_is (is_same own n) h

pub group_there : (s : Sheet) (from : ℕ) (n : Name) → has_group s n ≡ true → IsFound s from (GroupNamed n)
group_there s from n h =
    any_weaker (λ (g : Group). is_named n g ≡ true) (λ (g : Group). IsNamed n g.name) s.groups (λ g e. named_is n g.name e) (Any-from_list_any (is_named n) s.groups h)

-- From a group of a sheet.
module _ (s : Sheet) (g : ℕ) where
  -- a name is found, and new where it is declared
  abbrev pub Good : Mention → Type 0
  Good m = IsFound s g m × IsNew m

  -- a variable is a local, or it is there
  abbrev pub VarOk : List Name → Name → Type 0
  VarOk locals n = is_among locals n ≡ false → HasVariable s s.variables g n

  abbrev pub VarsOk : List Name → List Name → Type 0
  VarsOk locals names = All (VarOk locals) names

  pub vars_both : (locals xs ys : List Name) → VarsOk locals xs → VarsOk locals ys → VarsOk locals (xs ++ ys)
  vars_both locals xs ys h k = All-append (VarOk locals) xs ys h k

  pub free_good : (known locals names : List Name) → Alike known locals → VarsOk locals names → All Good (free known names)
  free_good known locals [] a h = All-nil Good
  free_good known locals (n ∷ names) a h =
      by_known (is_among known n) refl (free_good known locals names a (All-tail (VarOk locals) n names h))
    where
      by_known : (b : Bool) → is_among known n ≡ b → All Good (free known names) → All Good (map (λ m. VariableNamed m) (cond (not b) (n ∷ filter (λ m. not (is_among known m)) names) (filter (λ m. not (is_among known m)) names)))
      by_known true e rest = rest
      by_known false e rest = All-cons Good (VariableNamed n) (free known names) (All-head (VarOk locals) n names h (sym (a n) ∙ e), tt) rest

  -- variables that are referred to
  pub variables_referred : (at : Place) (locals names : List Name) → AllFound s (to_variables at locals g names) → VarsOk locals names
  variables_referred at locals [] h = All-nil (VarOk locals)
  variables_referred at locals (n ∷ names) h =
      All-cons (VarOk locals) n names
      (λ e. let first : AllFound s (if is_among locals n then [] else refers at (A_variable g (bare n))) = All-front (λ (r : Reference). is_found s r.sought ≡ true) (if is_among locals n then [] else refers at (A_variable g (bare n))) (to_variables at locals g names) h in
      variable_there s s.variables g n
      (All-head (λ (r : Reference). is_found s r.sought ≡ true) (record { at = at; sought = A_variable g (bare n) }) [] (subst (λ b. AllFound s (if b then [] else refers at (A_variable g (bare n)))) e first)))
      (variables_referred at locals names (All-back (λ (r : Reference). is_found s r.sought ≡ true) (if is_among locals n then [] else refers at (A_variable g (bare n))) (to_variables at locals g names) h))

-- What an instruction says, by its layer.

abbrev pub inner_said : Instr-F Instr When → Instr-F Said Branch
inner_said (Instr-F.ValueOf select separator at) = Instr-F.ValueOf select separator at
inner_said (Instr-F.Chars text at) = Instr-F.Chars text at
inner_said (Instr-F.Copy attributes body at) = Instr-F.Copy attributes (map said body) at
inner_said (Instr-F.Element name namespace scope body at) = Instr-F.Element name namespace scope (map said body) at
inner_said (Instr-F.StartElement name namespace scope at) = Instr-F.StartElement name namespace scope at
inner_said (Instr-F.EndElement name namespace scope at) = Instr-F.EndElement name namespace scope at
inner_said (Instr-F.Attribute name namespace scope content at) = Instr-F.Attribute name namespace scope content at
inner_said (Instr-F.Comment content at) = Instr-F.Comment content at
inner_said (Instr-F.Pi name scope content at) = Instr-F.Pi name scope content at
inner_said (Instr-F.Message content at) = Instr-F.Message content at
inner_said (Instr-F.If test body other at) = Instr-F.If test (map said body) (map said other) at
inner_said (Instr-F.Choose whens other at) = Instr-F.Choose (map (λ (w : When). record { test = w.test; says = in_turn (map said w.body) }) whens) (map said other) at
inner_said (Instr-F.ForEachItem name select body at) = Instr-F.ForEachItem name select (map said body) at
inner_said (Instr-F.While test body at) = Instr-F.While test (map said body) at
inner_said (Instr-F.Assign name select at) = Instr-F.Assign name select at
inner_said (Instr-F.CallProcedure name params at) = Instr-F.CallProcedure name params at
inner_said (Instr-F.ProcessChildren group params at) = Instr-F.ProcessChildren group params at
inner_said (Instr-F.ProcessAttributes group params at) = Instr-F.ProcessAttributes group params at
inner_said (Instr-F.ProcessSelf group params at) = Instr-F.ProcessSelf group params at
inner_said (Instr-F.ProcessSiblings going until group params at) = Instr-F.ProcessSiblings going until group params at
inner_said (Instr-F.ProcessBuffer name group params at) = Instr-F.ProcessBuffer name group params at
inner_said (Instr-F.ProcessDocument href group params at) = Instr-F.ProcessDocument href group params at
inner_said (Instr-F.ResultBuffer name clear body at) = Instr-F.ResultBuffer name clear (map said body) at
inner_said (Instr-F.Literal name attrs body at) = Instr-F.Literal name attrs (map said body) at
inner_said (Instr-F.LiteralChars text at) = Instr-F.LiteralChars text at
inner_said (Instr-F.Local name select at) = Instr-F.Local name select at

branch_is : (w : When) → fold-When Said Branch layer_said branch_said w ≡ record { test = w.test; says = in_turn (map said w.body) }
unfolding said
branch_is w = fold-roll-When Said Branch layer_said branch_said (record { test = w.test; body = w.body })

branches_are : (ws : List When) → map (fold-When Said Branch layer_said branch_said) ws ≡ map (λ (w : When). record { test = w.test; says = in_turn (map said w.body) }) ws
branches_are [] = refl
branches_are (w ∷ ws) =
    ap (λ b. b ∷ map (fold-When Said Branch layer_said branch_said) ws) (branch_is w)
    ∙ ap (λ l. record { test = w.test; says = in_turn (map said w.body) } ∷ l) (branches_are ws)

pub said_by : (x : Instr-F Instr When) → said (roll-Instr x) ≡ layer_said (inner_said x)
unfolding said
said_by (Instr-F.ValueOf select separator at) = fold-roll-Instr Said Branch layer_said branch_said (Instr-F.ValueOf select separator at)
said_by (Instr-F.Chars text at) = fold-roll-Instr Said Branch layer_said branch_said (Instr-F.Chars text at)
said_by (Instr-F.Copy attributes body at) = fold-roll-Instr Said Branch layer_said branch_said (Instr-F.Copy attributes body at)
said_by (Instr-F.Element name namespace scope body at) = fold-roll-Instr Said Branch layer_said branch_said (Instr-F.Element name namespace scope body at)
said_by (Instr-F.StartElement name namespace scope at) = fold-roll-Instr Said Branch layer_said branch_said (Instr-F.StartElement name namespace scope at)
said_by (Instr-F.EndElement name namespace scope at) = fold-roll-Instr Said Branch layer_said branch_said (Instr-F.EndElement name namespace scope at)
said_by (Instr-F.Attribute name namespace scope content at) = fold-roll-Instr Said Branch layer_said branch_said (Instr-F.Attribute name namespace scope content at)
said_by (Instr-F.Comment content at) = fold-roll-Instr Said Branch layer_said branch_said (Instr-F.Comment content at)
said_by (Instr-F.Pi name scope content at) = fold-roll-Instr Said Branch layer_said branch_said (Instr-F.Pi name scope content at)
said_by (Instr-F.Message content at) = fold-roll-Instr Said Branch layer_said branch_said (Instr-F.Message content at)
said_by (Instr-F.If test body other at) = fold-roll-Instr Said Branch layer_said branch_said (Instr-F.If test body other at)
said_by (Instr-F.Choose whens other at) = fold-roll-Instr Said Branch layer_said branch_said (Instr-F.Choose whens other at) ∙ ap (λ bs. layer_said (Instr-F.Choose bs (map said other) at)) (branches_are whens)
said_by (Instr-F.ForEachItem name select body at) = fold-roll-Instr Said Branch layer_said branch_said (Instr-F.ForEachItem name select body at)
said_by (Instr-F.While test body at) = fold-roll-Instr Said Branch layer_said branch_said (Instr-F.While test body at)
said_by (Instr-F.Assign name select at) = fold-roll-Instr Said Branch layer_said branch_said (Instr-F.Assign name select at)
said_by (Instr-F.CallProcedure name params at) = fold-roll-Instr Said Branch layer_said branch_said (Instr-F.CallProcedure name params at)
said_by (Instr-F.ProcessChildren group params at) = fold-roll-Instr Said Branch layer_said branch_said (Instr-F.ProcessChildren group params at)
said_by (Instr-F.ProcessAttributes group params at) = fold-roll-Instr Said Branch layer_said branch_said (Instr-F.ProcessAttributes group params at)
said_by (Instr-F.ProcessSelf group params at) = fold-roll-Instr Said Branch layer_said branch_said (Instr-F.ProcessSelf group params at)
said_by (Instr-F.ProcessSiblings going until group params at) = fold-roll-Instr Said Branch layer_said branch_said (Instr-F.ProcessSiblings going until group params at)
said_by (Instr-F.ProcessBuffer name group params at) = fold-roll-Instr Said Branch layer_said branch_said (Instr-F.ProcessBuffer name group params at)
said_by (Instr-F.ProcessDocument href group params at) = fold-roll-Instr Said Branch layer_said branch_said (Instr-F.ProcessDocument href group params at)
said_by (Instr-F.ResultBuffer name clear body at) = fold-roll-Instr Said Branch layer_said branch_said (Instr-F.ResultBuffer name clear body at)
said_by (Instr-F.Literal name attrs body at) = fold-roll-Instr Said Branch layer_said branch_said (Instr-F.Literal name attrs body at)
said_by (Instr-F.LiteralChars text at) = fold-roll-Instr Said Branch layer_said branch_said (Instr-F.LiteralChars text at)
said_by (Instr-F.Local name select at) = fold-roll-Instr Said Branch layer_said branch_said (Instr-F.Local name select at)

module _ (s : Sheet) (g : ℕ) where
  -- each part of what a layer says is good
  pub record OwnGood (locals : List Name) (y : Instr-F Said Branch) : Type 0 where
    pub vars : All (Good s g) (free locals (flat_map variables (expressions (λ (b : Branch). b.test) y) ++ flat_map template_variables (templates y)))
    pub patterns : All (Good s g) (free [] (flat_map pattern_variables (conditions y ++ copied_attributes y)))
    pub binds : All (Good s g) (bound y locals)
    pub base : All (Good s g) (map (λ n. GroupNamed n) (option_to_list (base_named y)))
    pub procedure : All (Good s g) (map (λ n. ProcedureNamed n) (option_to_list (procedure_named y)))
    pub buffer : All (Good s g) (map (λ n. BufferNamed n) (option_to_list (buffer_named y)))
    pub hands : AreDistinct (map (λ (p : WithParam). p.name) (handed y))
    pub holds : All (Good s g) (within y locals)

  layer_good : (locals : List Name) (y : Instr-F Said Branch) → OwnGood locals y → All (Good s g) ((layer_said y).says locals)
  layer_good locals y o =
      let P = Good s g in
      let va = free locals (flat_map variables (expressions (λ (b : Branch). b.test) y) ++ flat_map template_variables (templates y)) in
      let pa = free [] (flat_map pattern_variables (conditions y ++ copied_attributes y)) in
      let bi = bound y locals in
      let ba = map (λ n. GroupNamed n) (option_to_list (base_named y)) in
      let pr = map (λ n. ProcedureNamed n) (option_to_list (procedure_named y)) in
      let bu = map (λ n. BufferNamed n) (option_to_list (buffer_named y)) in
      let last = ParamsNamed (map (λ (p : WithParam). p.name) (handed y)) ∷ [] in
      let ok2 = All-append P va pa o.vars o.patterns in
      let ok3 = All-append P (va ++ pa) bi ok2 o.binds in
      let ok4 = All-append P ((va ++ pa) ++ bi) ba ok3 o.base in
      let ok5 = All-append P (((va ++ pa) ++ bi) ++ ba) pr ok4 o.procedure in
      let ok6 = All-append P ((((va ++ pa) ++ bi) ++ ba) ++ pr) bu ok5 o.buffer in
      let ok7 = All-append P (((((va ++ pa) ++ bi) ++ ba) ++ pr) ++ bu) last ok6 (All-cons P (ParamsNamed (map (λ (p : WithParam). p.name) (handed y))) [] (tt, o.hands) (All-nil P)) in
      All-append P (own y locals) (within y locals) ok7 o.holds

  -- with whatever locals that are as these
  abbrev pub InstrOk : (locals declares : List Name) → Instr → Type 0
  InstrOk locals declares i = ((known : List Name) → Alike known locals → All (Good s g) ((said i).says known)) × ((said i).declares ≡ declares)

  abbrev pub BodyOk : (locals : List Name) → List Instr → Type 0
  BodyOk locals is = (known : List Name) → Alike known locals → All (Good s g) (in_turn (map said is) known)

  pub instr_ok : (locals : List Name) (i : Instr) (x : Instr-F Instr When) → roll-Instr x ≡ i → ((known : List Name) → Alike known locals → OwnGood known (inner_said x)) → InstrOk locals (declared (inner_said x)) i
  instr_ok locals i x e h =
      let o : said i ≡ layer_said (inner_said x) = ap said (sym e) ∙ said_by x in
      (λ known a. subst (λ (y : Said). All (Good s g) (y.says known)) (sym o) (layer_good known (inner_said x) (h known a)), ap (λ (y : Said). y.declares) o)
