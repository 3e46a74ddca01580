-- What lists say: each name in their items is found, and new, by the locals in scope.
use Rattle.std.proofs.Common.{◌≡◌, ℕ, Bool, true, false, ◌||◌, List, [], ◌∷◌, ◌++◌, AllPairs, map, refl, ap, sym, ◌∙◌, append_assoc, arith}
use Rattle.std.proofs.Math.Path.{subst}
use Rattle.std.proofs.lemmas.List.{append-nil}
use Rattle.std.proofs.lemmas.List.Elements.{All-append, All-cons, All-head, All-map, All-nil, All-tail}
use Rattle.std.proofs.lemmas.List.Folds.{list_any-append}
use Rattle.std.specs.List.{All, flat_map}
use Rattle.std.specs.Option.{option_to_list}
use Rattle.stx_base.specs.declared.fault.Place.{Place}
use Rattle.stx_base.specs.declared.name.Name.{Name}
use Rattle.stx_base.specs.declared.part.Part.{Part}
use Rattle.stxpath_syntax.specs.declared.expr.Avt.{Avt}
use Rattle.stxpath_syntax.specs.declared.expr.Expr.{Expr}
use Rattle.stxpath_syntax.specs.declared.expr.Pattern.{Pattern}
use Rattle.sheet_model.specs.Groups.{AreDistinct, IsFound}
use Rattle.sheet_model.specs.Names.{BufferNamed, Branch, GroupNamed, LocalDeclared, Mention, ProcedureNamed, Said, bound, free, in_turn, is_among, is_same, pattern_variables, said, template_variables, variables, with_params, within}
use Rattle.sheet_model.specs.Parts.{base_named, buffer_named, conditions, copied_attributes, expressions, handed, procedure_named, templates}
use Rattle.sheet_model.specs.declared.instr.Instr.{Instr}
use Rattle.sheet_model.specs.declared.instr.Instr.TheVariants as instr
use Rattle.sheet_model.specs.declared.instr.Instr.TheOpen.{Instr-F}
use Rattle.sheet_model.specs.declared.instr.Instr.TheViews.{rolls-If}
use Rattle.sheet_model.specs.declared.instr.When.{When}
use Rattle.sheet_model.specs.declared.instr.WithParam.{WithParam}
use Rattle.sheet_model.specs.declared.sheet.Sheet.{Sheet}
use Rattle.sheet_loader.proofs.Sayings.{Alike, BodyOk, Good, InstrOk, OwnGood, VarOk, VarsOk, free_good, inner_said, instr_ok}
use Rattle.sheet_loader.specs.Making.{body, branches, local_of_item, locals_of, otherwise, params}
use Rattle.sheet_loader.specs.Making as making
use Rattle.sheet_loader.specs.Reading.{Item, Instruction, An_if, An_else, A_local, A_branch, An_otherwise, A_param, A_value, Text, A_part}

-- of each of what each gives
pub all_flat : {A B : Type 0} (f : A → List B) (P : B → Type 0) (xs : List A) → All (λ (x : A). All P (f x)) xs → All P (flat_map f xs)
all_flat f P [] h = All-nil P
all_flat {A} f P (x ∷ xs) h =
    All-append P (f x) (flat_map f xs) (All-head (λ (y : A). All P (f y)) x xs h) (all_flat f P xs (All-tail (λ (y : A). All P (f y)) x xs h))

pub alike_nil : (known locals : List Name) → Alike known locals → Alike known (locals ++ [])
alike_nil known locals a n = a n ∙ ap (λ l. is_among l n) (sym (append-nil locals))

either_way : (a b : Bool) → (a || b) ≡ (b || a)
either_way true true = refl
either_way true false = refl
either_way false true = refl
either_way false false = refl

or_false : (b : Bool) → (b || false) ≡ b
or_false true = refl
or_false false = refl

-- one more, at whichever end
pub alike_more : (known locals : List Name) (m : Name) → Alike known locals → Alike (m ∷ known) (locals ++ m ∷ [])
alike_more known locals m a n =
    ap (λ t. is_same m n || t) (a n) ∙ either_way (is_same m n) (is_among locals n)
    ∙ ap (λ t. is_among locals n || t) (sym (or_false (is_same m n))) ∙ sym (list_any-append (λ x. is_same x n) locals (m ∷ []))

no_pairs : {A : Type 0} (R : A → A → Type 0) → AllPairs R []
no_pairs R i j d lt within = absurd (omega (arith, within))

pub none_distinct : AreDistinct []
none_distinct = no_pairs (λ m n. is_same m n ≡ false)

-- Parameters come first.

abbrev pub ParamsFirst : List Item → Type 0
ParamsFirst [] = Unit {0}
ParamsFirst (A_param v ∷ items) = ParamsFirst items
ParamsFirst (Instruction i ∷ items) = params items ≡ []
ParamsFirst (An_if x is at ∷ items) = params items ≡ []
ParamsFirst (An_else is ∷ items) = params items ≡ []
ParamsFirst (A_local m i ∷ items) = params items ≡ []
ParamsFirst (A_branch w ∷ items) = params items ≡ []
ParamsFirst (An_otherwise is ∷ items) = params items ≡ []
ParamsFirst (A_value p ∷ items) = params items ≡ []
ParamsFirst (Text t ∷ items) = params items ≡ []
ParamsFirst (A_part p ∷ items) = params items ≡ []

-- nothing comes behind an otherwise
abbrev pub OneOtherwise : List Item → Type 0
OneOtherwise [] = Unit {0}
OneOtherwise (An_otherwise is ∷ items) = items ≡ []
OneOtherwise (x ∷ items) = OneOtherwise items

module _ (s : Sheet) (g : ℕ) where
  abbrev pub ItemSays : List Name → Item → Type 0
  ItemSays locals (Instruction i) = InstrOk s g locals [] i
  ItemSays locals (An_if x is at) = VarsOk s g locals (variables x) × BodyOk s g locals is
  ItemSays locals (An_else is) = BodyOk s g locals is
  ItemSays locals (A_local m i) = InstrOk s g locals (m ∷ []) i
  ItemSays locals (A_branch w) = VarsOk s g locals (variables w.test) × BodyOk s g locals w.body
  ItemSays locals (An_otherwise is) = BodyOk s g locals is
  ItemSays locals (A_param v) = VarsOk s g locals (flat_map variables (option_to_list v.select)) × (is_among locals v.name ≡ false)
  ItemSays locals (A_value p) = VarsOk s g locals (variables p.select)
  ItemSays locals (Text t) = Unit {0}
  ItemSays locals (A_part p) = Unit {0}

  abbrev pub ItemsSay : List Name → List Item → Type 0
  ItemsSay locals [] = Unit {0}
  ItemsSay locals (x ∷ items) = ItemSays locals x × ItemsSay (locals ++ local_of_item x) items

  pub say_append : (locals : List Name) (xs ys : List Item) → ItemsSay locals xs → ItemsSay (locals ++ locals_of xs) ys → ItemsSay locals (xs ++ ys)
  say_append locals [] ys h k = subst (λ l. ItemsSay l ys) (append-nil locals) k
  say_append locals (x ∷ xs) ys h k =
      (h.0, say_append (locals ++ local_of_item x) xs ys h.1 (subst (λ l. ItemsSay l ys) (sym (append_assoc locals (local_of_item x) (locals_of xs))) k))

  pub parts_say : (locals : List Name) (ps : List Part) → ItemsSay locals (map A_part ps)
  parts_say locals [] = tt
  parts_say locals (p ∷ ps) = (tt, parts_say (locals ++ []) ps)

  -- What an instruction says, by what each of its lists does.
  pub own_good : (known locals : List Name) (y : Instr-F Said Branch) → Alike known locals
      → All (λ (x : Expr). VarsOk s g locals (variables x)) (expressions (λ (b : Branch). b.test) y)
      → All (λ (t : Avt). VarsOk s g locals (template_variables t)) (templates y)
      → All (λ (p : Pattern). VarsOk s g [] (pattern_variables p)) (conditions y ++ copied_attributes y)
      → All (Good s g) (bound y known)
      → All (λ (n : Name). IsFound s g (GroupNamed n)) (option_to_list (base_named y))
      → All (λ (n : Name). IsFound s g (ProcedureNamed n)) (option_to_list (procedure_named y))
      → All (λ (n : Name). IsFound s g (BufferNamed n)) (option_to_list (buffer_named y))
      → AreDistinct (map (λ (p : WithParam). p.name) (handed y))
      → All (Good s g) (within y known)
      → OwnGood s g known y
  own_good known locals y a es ts ps binds base procedure buffer hands holds = record {
    vars =
        free_good s g known locals (flat_map variables (expressions (λ (b : Branch). b.test) y) ++ flat_map template_variables (templates y)) a
        (All-append (VarOk s g locals) (flat_map variables (expressions (λ (b : Branch). b.test) y)) (flat_map template_variables (templates y))
        (all_flat variables (VarOk s g locals) (expressions (λ (b : Branch). b.test) y) es) (all_flat template_variables (VarOk s g locals) (templates y) ts));
    patterns = free_good s g [] [] (flat_map pattern_variables (conditions y ++ copied_attributes y)) (λ n. refl) (all_flat pattern_variables (VarOk s g []) (conditions y ++ copied_attributes y) ps);
    binds = binds;
    base = All-map (Good s g) (λ n. GroupNamed n) (option_to_list (base_named y)) (λ k d l. (base k d l, tt));
    procedure = All-map (Good s g) (λ n. ProcedureNamed n) (option_to_list (procedure_named y)) (λ k d l. (procedure k d l, tt));
    buffer = All-map (Good s g) (λ n. BufferNamed n) (option_to_list (buffer_named y)) (λ k d l. (buffer k d l, tt));
    hands = hands;
    holds = holds;
  }

  pub no_bound : All (Good s g) []
  no_bound = All-nil (Good s g)

  pub no_names : (f : Name → Mention) → All (λ (n : Name). IsFound s g (f n)) []
  no_names f = All-nil (λ (n : Name). IsFound s g (f n))

  pub one_name : (f : Name → Mention) (n : Name) → IsFound s g (f n) → All (λ (n : Name). IsFound s g (f n)) (n ∷ [])
  one_name f n h = All-cons (λ (m : Name). IsFound s g (f m)) n [] h (no_names f)

  module _ (locals : List Name) where
    pub no_es : All (λ (x : Expr). VarsOk s g locals (variables x)) []
    no_es = All-nil (λ (x : Expr). VarsOk s g locals (variables x))

    pub one_es : (x : Expr) → VarsOk s g locals (variables x) → All (λ (x : Expr). VarsOk s g locals (variables x)) (x ∷ [])
    one_es x h = All-cons (λ (x : Expr). VarsOk s g locals (variables x)) x [] h no_es

    pub es_nil : (es : List Expr) → All (λ (x : Expr). VarsOk s g locals (variables x)) es → All (λ (x : Expr). VarsOk s g locals (variables x)) (es ++ [])
    es_nil es h = All-append (λ (x : Expr). VarsOk s g locals (variables x)) es [] h no_es

    pub no_ts : All (λ (t : Avt). VarsOk s g locals (template_variables t)) []
    no_ts = All-nil (λ (t : Avt). VarsOk s g locals (template_variables t))

    pub more_ts : (t : Avt) (ts : List Avt) → VarsOk s g locals (template_variables t) → All (λ (t : Avt). VarsOk s g locals (template_variables t)) ts → All (λ (t : Avt). VarsOk s g locals (template_variables t)) (t ∷ ts)
    more_ts t ts h k = All-cons (λ (t : Avt). VarsOk s g locals (template_variables t)) t ts h k

    pub no_ps : All (λ (p : Pattern). VarsOk s g [] (pattern_variables p)) []
    no_ps = All-nil (λ (p : Pattern). VarsOk s g [] (pattern_variables p))

    if_ok : (x : Expr) (is js : List Instr) (at : Place) → VarsOk s g locals (variables x) → BodyOk s g locals is → BodyOk s g locals js → InstrOk s g locals [] (instr.If x is js at)
    if_ok x is js at h k l =
        instr_ok s g locals (instr.If x is js at) (Instr-F.If x is js at) (rolls-If x is js at)
        (λ known a. own_good known locals (inner_said (Instr-F.If x is js at)) a (one_es x h) no_ts no_ps no_bound (no_names GroupNamed) (no_names ProcedureNamed) (no_names BufferNamed) none_distinct
        (All-append (Good s g) (in_turn (map said is) known) (in_turn (map said js) known) (k known a) (l known a)))

  -- a body without parameters
  pub first_turn : (locals known : List Name) (i : Instr) (is : List Instr) → InstrOk s g locals [] i → Alike known locals → All (Good s g) (in_turn (map said is) known) → All (Good s g) (in_turn (map said (i ∷ is)) known)
  first_turn locals known i is h a rest =
      All-append (Good s g) ((said i).says known) (in_turn (map said is) ((said i).declares ++ known)) (h.0 known a)
      (subst (λ d. All (Good s g) (in_turn (map said is) (d ++ known))) (sym h.1) rest)

  local_turn : (locals known : List Name) (m : Name) (i : Instr) (is : List Instr) → InstrOk s g locals (m ∷ []) i → Alike known locals → All (Good s g) (in_turn (map said is) (m ∷ known)) → All (Good s g) (in_turn (map said (i ∷ is)) known)
  local_turn locals known m i is h a rest =
      All-append (Good s g) ((said i).says known) (in_turn (map said is) ((said i).declares ++ known)) (h.0 known a)
      (subst (λ d. All (Good s g) (in_turn (map said is) (d ++ known))) (sym h.1) rest)

  pub nothing_said : (locals : List Name) → BodyOk s g locals []
  nothing_said locals known a = All-nil (Good s g)

  pub body_says : (locals : List Name) (items : List Item) (known : List Name) → params items ≡ [] → ItemsSay locals items → Alike known locals → All (Good s g) (in_turn (map said (body items)) known)
  body_says locals [] known n h a = All-nil (Good s g)
  body_says locals (An_if x is at ∷ []) known n h a =
      first_turn locals known (instr.If x is [] at) [] (if_ok locals x is [] at h.0.0 h.0.1 (nothing_said locals)) a (All-nil (Good s g))
  body_says locals (An_if x is at ∷ An_else js ∷ items) known n h a =
      first_turn locals known (instr.If x is js at) (body items) (if_ok locals x is js at h.0.0 h.0.1 (λ other b. h.1.0 other (alike_nil other locals b))) a
      (body_says ((locals ++ []) ++ []) items known n h.1.1 (alike_nil known (locals ++ []) (alike_nil known locals a)))
  body_says locals (An_if x is at ∷ Instruction i ∷ items) known n h a =
      first_turn locals known (instr.If x is [] at) (body (Instruction i ∷ items)) (if_ok locals x is [] at h.0.0 h.0.1 (nothing_said locals)) a
      (body_says (locals ++ []) (Instruction i ∷ items) known n h.1 (alike_nil known locals a))
  body_says locals (An_if x is at ∷ An_if y js place ∷ items) known n h a =
      first_turn locals known (instr.If x is [] at) (body (An_if y js place ∷ items)) (if_ok locals x is [] at h.0.0 h.0.1 (nothing_said locals)) a
      (body_says (locals ++ []) (An_if y js place ∷ items) known n h.1 (alike_nil known locals a))
  body_says locals (An_if x is at ∷ A_local m i ∷ items) known n h a =
      first_turn locals known (instr.If x is [] at) (body (A_local m i ∷ items)) (if_ok locals x is [] at h.0.0 h.0.1 (nothing_said locals)) a
      (body_says (locals ++ []) (A_local m i ∷ items) known n h.1 (alike_nil known locals a))
  body_says locals (An_if x is at ∷ A_branch w ∷ items) known n h a =
      first_turn locals known (instr.If x is [] at) (body (A_branch w ∷ items)) (if_ok locals x is [] at h.0.0 h.0.1 (nothing_said locals)) a
      (body_says (locals ++ []) (A_branch w ∷ items) known n h.1 (alike_nil known locals a))
  body_says locals (An_if x is at ∷ An_otherwise js ∷ items) known n h a =
      first_turn locals known (instr.If x is [] at) (body (An_otherwise js ∷ items)) (if_ok locals x is [] at h.0.0 h.0.1 (nothing_said locals)) a
      (body_says (locals ++ []) (An_otherwise js ∷ items) known n h.1 (alike_nil known locals a))
  body_says locals (An_if x is at ∷ A_param v ∷ items) known n h a =
      first_turn locals known (instr.If x is [] at) (body (A_param v ∷ items)) (if_ok locals x is [] at h.0.0 h.0.1 (nothing_said locals)) a
      (body_says (locals ++ []) (A_param v ∷ items) known n h.1 (alike_nil known locals a))
  body_says locals (An_if x is at ∷ A_value p ∷ items) known n h a =
      first_turn locals known (instr.If x is [] at) (body (A_value p ∷ items)) (if_ok locals x is [] at h.0.0 h.0.1 (nothing_said locals)) a
      (body_says (locals ++ []) (A_value p ∷ items) known n h.1 (alike_nil known locals a))
  body_says locals (An_if x is at ∷ Text t ∷ items) known n h a =
      first_turn locals known (instr.If x is [] at) (body (Text t ∷ items)) (if_ok locals x is [] at h.0.0 h.0.1 (nothing_said locals)) a
      (body_says (locals ++ []) (Text t ∷ items) known n h.1 (alike_nil known locals a))
  body_says locals (An_if x is at ∷ A_part p ∷ items) known n h a =
      first_turn locals known (instr.If x is [] at) (body (A_part p ∷ items)) (if_ok locals x is [] at h.0.0 h.0.1 (nothing_said locals)) a
      (body_says (locals ++ []) (A_part p ∷ items) known n h.1 (alike_nil known locals a))
  body_says locals (Instruction i ∷ items) known n h a = first_turn locals known i (body items) h.0 a (body_says (locals ++ []) items known n h.1 (alike_nil known locals a))
  body_says locals (A_local m i ∷ items) known n h a = local_turn locals known m i (body items) h.0 a (body_says (locals ++ m ∷ []) items (m ∷ known) n h.1 (alike_more known locals m a))
  body_says locals (A_param v ∷ items) known n h a = absurd cc
  body_says locals (An_else is ∷ items) known n h a = body_says (locals ++ []) items known n h.1 (alike_nil known locals a)
  body_says locals (A_branch w ∷ items) known n h a = body_says (locals ++ []) items known n h.1 (alike_nil known locals a)
  body_says locals (An_otherwise is ∷ items) known n h a = body_says (locals ++ []) items known n h.1 (alike_nil known locals a)
  body_says locals (A_value p ∷ items) known n h a = body_says (locals ++ []) items known n h.1 (alike_nil known locals a)
  body_says locals (Text t ∷ items) known n h a = body_says (locals ++ []) items known n h.1 (alike_nil known locals a)
  body_says locals (A_part p ∷ items) known n h a = body_says (locals ++ []) items known n h.1 (alike_nil known locals a)

  no_params : (locals : List Name) (items : List Item) (known : List Name) → params items ≡ [] → ItemsSay locals items → Alike known locals → All (Good s g) (with_params (params items) (body items) known)
  no_params locals items known n h a = subst (λ ps. All (Good s g) (with_params ps (body items) known)) (sym n) (body_says locals items known n h a)

  -- parameters, and then a body
  pub params_say : (locals : List Name) (items : List Item) (known : List Name) → ParamsFirst items → ItemsSay locals items → Alike known locals → All (Good s g) (with_params (params items) (body items) known)
  params_say locals [] known n h a = All-nil (Good s g)
  params_say locals (A_param v ∷ items) known n h a =
      All-append (Good s g) (free known (flat_map variables (option_to_list v.select))) (LocalDeclared v.name known ∷ with_params (params items) (body items) (v.name ∷ known))
      (free_good s g known locals (flat_map variables (option_to_list v.select)) a h.0.0)
      (All-cons (Good s g) (LocalDeclared v.name known) (with_params (params items) (body items) (v.name ∷ known)) (tt, a v.name ∙ h.0.1)
      (params_say (locals ++ v.name ∷ []) items (v.name ∷ known) n h.1 (alike_more known locals v.name a)))
  params_say locals (Instruction i ∷ items) known n h a = no_params locals (Instruction i ∷ items) known n h a
  params_say locals (An_if x is at ∷ items) known n h a = no_params locals (An_if x is at ∷ items) known n h a
  params_say locals (An_else is ∷ items) known n h a = no_params locals (An_else is ∷ items) known n h a
  params_say locals (A_local m i ∷ items) known n h a = no_params locals (A_local m i ∷ items) known n h a
  params_say locals (A_branch w ∷ items) known n h a = no_params locals (A_branch w ∷ items) known n h a
  params_say locals (An_otherwise is ∷ items) known n h a = no_params locals (An_otherwise is ∷ items) known n h a
  params_say locals (A_value p ∷ items) known n h a = no_params locals (A_value p ∷ items) known n h a
  params_say locals (Text t ∷ items) known n h a = no_params locals (Text t ∷ items) known n h a
  params_say locals (A_part p ∷ items) known n h a = no_params locals (A_part p ∷ items) known n h a

  -- branches, and values for parameters, stand where there are no locals among them
  pub still : (locals : List Name) (items : List Item) → ItemsSay (locals ++ []) items → ItemsSay locals items
  still locals items h = subst (λ l. ItemsSay l items) (append-nil locals) h

  pub branches_say : (locals : List Name) (items : List Item) → locals_of items ≡ [] → ItemsSay locals items → All (λ (w : When). VarsOk s g locals (variables w.test) × BodyOk s g locals w.body) (branches items)
  branches_say locals [] n h = All-nil (λ (w : When). VarsOk s g locals (variables w.test) × BodyOk s g locals w.body)
  branches_say locals (A_branch w ∷ items) n h = All-cons (λ (w : When). VarsOk s g locals (variables w.test) × BodyOk s g locals w.body) w (branches items) h.0 (branches_say locals items n (still locals items h.1))
  branches_say locals (A_local m i ∷ items) n h = absurd cc
  branches_say locals (A_param v ∷ items) n h = absurd cc
  branches_say locals (Instruction i ∷ items) n h = branches_say locals items n (still locals items h.1)
  branches_say locals (An_if x is at ∷ items) n h = branches_say locals items n (still locals items h.1)
  branches_say locals (An_else is ∷ items) n h = branches_say locals items n (still locals items h.1)
  branches_say locals (An_otherwise is ∷ items) n h = branches_say locals items n (still locals items h.1)
  branches_say locals (A_value p ∷ items) n h = branches_say locals items n (still locals items h.1)
  branches_say locals (Text t ∷ items) n h = branches_say locals items n (still locals items h.1)
  branches_say locals (A_part p ∷ items) n h = branches_say locals items n (still locals items h.1)

  pub otherwise_says : (locals : List Name) (items : List Item) → locals_of items ≡ [] → OneOtherwise items → ItemsSay locals items → BodyOk s g locals (otherwise items)
  otherwise_says locals [] n o h = nothing_said locals
  otherwise_says locals (An_otherwise is ∷ items) n o h =
      subst (BodyOk s g locals) (sym (append-nil is) ∙ ap (λ l. is ++ otherwise l) (sym o)) h.0
  otherwise_says locals (A_local m i ∷ items) n o h = absurd cc
  otherwise_says locals (A_param v ∷ items) n o h = absurd cc
  otherwise_says locals (Instruction i ∷ items) n o h = otherwise_says locals items n o (still locals items h.1)
  otherwise_says locals (An_if x is at ∷ items) n o h = otherwise_says locals items n o (still locals items h.1)
  otherwise_says locals (An_else is ∷ items) n o h = otherwise_says locals items n o (still locals items h.1)
  otherwise_says locals (A_branch w ∷ items) n o h = otherwise_says locals items n o (still locals items h.1)
  otherwise_says locals (A_value p ∷ items) n o h = otherwise_says locals items n o (still locals items h.1)
  otherwise_says locals (Text t ∷ items) n o h = otherwise_says locals items n o (still locals items h.1)
  otherwise_says locals (A_part p ∷ items) n o h = otherwise_says locals items n o (still locals items h.1)

  pub handed_say : (locals : List Name) (items : List Item) → locals_of items ≡ [] → ItemsSay locals items → All (λ (p : WithParam). VarsOk s g locals (variables p.select)) (making.with_params items)
  handed_say locals [] n h = All-nil (λ (p : WithParam). VarsOk s g locals (variables p.select))
  handed_say locals (A_value p ∷ items) n h = All-cons (λ (p : WithParam). VarsOk s g locals (variables p.select)) p (making.with_params items) h.0 (handed_say locals items n (still locals items h.1))
  handed_say locals (A_local m i ∷ items) n h = absurd cc
  handed_say locals (A_param v ∷ items) n h = absurd cc
  handed_say locals (Instruction i ∷ items) n h = handed_say locals items n (still locals items h.1)
  handed_say locals (An_if x is at ∷ items) n h = handed_say locals items n (still locals items h.1)
  handed_say locals (An_else is ∷ items) n h = handed_say locals items n (still locals items h.1)
  handed_say locals (A_branch w ∷ items) n h = handed_say locals items n (still locals items h.1)
  handed_say locals (An_otherwise is ∷ items) n h = handed_say locals items n (still locals items h.1)
  handed_say locals (Text t ∷ items) n h = handed_say locals items n (still locals items h.1)
  handed_say locals (A_part p ∷ items) n h = handed_say locals items n (still locals items h.1)

  pub choice_says : (locals known : List Name) (ws : List When) → Alike known locals → All (λ (w : When). BodyOk s g locals w.body) ws
      → All (Good s g) (flat_map (λ (b : Branch). b.says known) (map (λ (w : When). record { test = w.test; says = in_turn (map said w.body) }) ws))
  choice_says locals known [] a h = All-nil (Good s g)
  choice_says locals known (w ∷ ws) a h =
      All-append (Good s g) (in_turn (map said w.body) known) (flat_map (λ (b : Branch). b.says known) (map (λ (w : When). record { test = w.test; says = in_turn (map said w.body) }) ws))
      (All-head (λ (w : When). BodyOk s g locals w.body) w ws h known a) (choice_says locals known ws a (All-tail (λ (w : When). BodyOk s g locals w.body) w ws h))
