-- What a list says with one node more, and which elements may stand where.
use Rattle.std.proofs.Common.{◌≡◌, ℕ, Bool, true, false, ◌&&◌, ◌||◌, List, [], ◌∷◌, ◌++◌, map, refl, ap, sym, ◌∙◌, if◌then◌else◌}
use Rattle.std.proofs.Math.Path.{subst}
use Rattle.std.proofs.lemmas.Grind.{flat_map-append}
use Rattle.std.proofs.lemmas.List.{append-nil, map-append}
use Rattle.std.proofs.lemmas.List.Elements.{All-cons, All-get_or, All-map, All-nil}
use Rattle.std.proofs.lemmas.List.Quantifiers.{all_pairs_push}
use Rattle.std.specs.List.{All, list_all, list_any}
use Rattle.stx_base.specs.declared.fault.Place.{Place}
use Rattle.stx_base.specs.declared.name.Binding.{Binding}
use Rattle.stx_base.specs.declared.name.Name.{Name}
use Rattle.sheet_model.specs.Groups.{AreDistinct}
use Rattle.sheet_model.specs.Names.{is_same}
use Rattle.sheet_model.specs.declared.instr.WithParam.{WithParam}
use Rattle.sheet_model.specs.declared.sheet.Sheet.{Sheet}
use Rattle.sheet_loader.proofs.ItemNames.{ItemsSay, OneOtherwise, ParamsFirst, say_append}
use Rattle.sheet_loader.proofs.TagNames.{ListSays, are_branches, is_plain, is_start}
use Rattle.sheet_loader.specs.Elements as element
use Rattle.sheet_loader.specs.Elements.{Kind, Inside, Document, Declarations, Start_of_body, Body, Branches, With_params, Characters, Parts, Nothing, Before, Something, After_if, After_otherwise, inside_of, is_allowed, is_include, is_param, is_with_param, makes_group}
use Rattle.sheet_loader.specs.Judging.{is_declared_here}
use Rattle.sheet_loader.specs.Making.{Values, behind, is_a_param, item, last_of, local_of_item, locals_of, params, params_of_item, values_of_item, with_params}
use Rattle.sheet_loader.specs.Reading.{Context, Item, Instruction, An_if, An_else, A_local, A_branch, An_otherwise, A_param, A_value, Text, A_part}

-- a file's list, or one of declarations
abbrev pub is_sheet_list : Inside → Bool
is_sheet_list (Document included) = true
is_sheet_list (Declarations params) = true
is_sheet_list other = false

abbrev pub is_after : Before → Bool
is_after After_otherwise = true
is_after other = false

abbrev pub is_local : Kind → Bool
is_local element.Param = true
is_local element.Variable = true
is_local other = false

-- what is so of a list that is read so far
pub record ListOk (s : Sheet) (here : Context) (before : List Item) : Type 0 where
  pub list : ListSays s here.group here.locals here.inside before
  pub outer : is_sheet_list here.inside ≡ true → (here.locals ≡ []) × (before ≡ [])

-- what comes of one node more
pub record More (s : Sheet) (here : Context) (before xs : List Item) : Type 0 where
  pub says : ItemsSay s here.group (here.locals ++ locals_of before) xs
  pub first : ParamsFirst (before ++ xs)
  pub bare : is_start here.inside ≡ false → params xs ≡ []
  pub apart : AreDistinct (map (λ (p : WithParam). p.name) (with_params (before ++ xs)))
  pub plain : is_plain here.inside ≡ true → locals_of xs ≡ []
  pub one : are_branches here.inside ≡ true → OneOtherwise (before ++ xs)
  pub outer : is_sheet_list here.inside ≡ true → xs ≡ []

both_none : {A : Type 0} (xs ys : List A) → xs ≡ [] → ys ≡ [] → xs ++ ys ≡ []
both_none xs ys h k = ap (λ l. l ++ ys) h ∙ k

pub list_more : (s : Sheet) (here : Context) (before xs : List Item) → ListOk s here before → More s here before xs → ListOk s here (before ++ xs)
list_more s here before xs h m = record {
  list = record {
    says = say_append s here.group here.locals before xs h.list.says m.says;
    first = m.first;
    bare = λ e. flat_map-append params_of_item before xs ∙ both_none (params before) (params xs) (h.list.bare e) (m.bare e);
    apart = m.apart;
    plain = λ e. flat_map-append local_of_item before xs ∙ both_none (locals_of before) (locals_of xs) (h.list.plain e) (m.plain e);
    one = m.one;
  };
  outer = λ e. ((h.outer e).0, both_none before xs (h.outer e).1 (m.outer e));
}

pub none_more : (s : Sheet) (here : Context) (before xs : List Item) → xs ≡ [] → ListOk s here before → ListOk s here (before ++ xs)
none_more s here before xs n h = subst (λ l. ListOk s here (before ++ l)) (sym n) (subst (ListOk s here) (sym (append-nil before)) h)

pub first_more : (before xs : List Item) → ParamsFirst before → params xs ≡ [] → ParamsFirst (before ++ xs)
first_more [] xs h n = all_first xs n
  where
    all_first : (ys : List Item) → params ys ≡ [] → ParamsFirst ys
    all_first [] e = tt
    all_first (A_param v ∷ ys) e = absurd cc
    all_first (Instruction i ∷ ys) e = e
    all_first (An_if x is at ∷ ys) e = e
    all_first (An_else is ∷ ys) e = e
    all_first (A_local m i ∷ ys) e = e
    all_first (A_branch w ∷ ys) e = e
    all_first (An_otherwise is ∷ ys) e = e
    all_first (A_value p ∷ ys) e = e
    all_first (Text t ∷ ys) e = e
    all_first (A_part p ∷ ys) e = e
first_more (A_param v ∷ before) xs h n = first_more before xs h n
first_more (Instruction i ∷ before) xs h n = flat_map-append params_of_item before xs ∙ both_none (params before) (params xs) h n
first_more (An_if x is at ∷ before) xs h n = flat_map-append params_of_item before xs ∙ both_none (params before) (params xs) h n
first_more (An_else is ∷ before) xs h n = flat_map-append params_of_item before xs ∙ both_none (params before) (params xs) h n
first_more (A_local m i ∷ before) xs h n = flat_map-append params_of_item before xs ∙ both_none (params before) (params xs) h n
first_more (A_branch w ∷ before) xs h n = flat_map-append params_of_item before xs ∙ both_none (params before) (params xs) h n
first_more (An_otherwise is ∷ before) xs h n = flat_map-append params_of_item before xs ∙ both_none (params before) (params xs) h n
first_more (A_value p ∷ before) xs h n = flat_map-append params_of_item before xs ∙ both_none (params before) (params xs) h n
first_more (Text t ∷ before) xs h n = flat_map-append params_of_item before xs ∙ both_none (params before) (params xs) h n
first_more (A_part p ∷ before) xs h n = flat_map-append params_of_item before xs ∙ both_none (params before) (params xs) h n

two : (a b : Bool) → (a && b) ≡ true → (a ≡ true) × (b ≡ true)
two true b h = (refl, h)
two false b h = absurd cc

pub first_params : (before xs : List Item) → list_all is_a_param before ≡ true → ParamsFirst xs → ParamsFirst (before ++ xs)
first_params [] xs h k = k
first_params (A_param v ∷ before) xs h k = first_params before xs h k
first_params (Instruction i ∷ before) xs h k = absurd cc
first_params (An_if x is at ∷ before) xs h k = absurd cc
first_params (An_else is ∷ before) xs h k = absurd cc
first_params (A_local m i ∷ before) xs h k = absurd cc
first_params (A_branch w ∷ before) xs h k = absurd cc
first_params (An_otherwise is ∷ before) xs h k = absurd cc
first_params (A_value p ∷ before) xs h k = absurd cc
first_params (Text t ∷ before) xs h k = absurd cc
first_params (A_part p ∷ before) xs h k = absurd cc

single : (x : Item) → OneOtherwise (x ∷ [])
single (An_otherwise is) = refl
single x = tt

pub one_more : (before : List Item) (last : Item) → OneOtherwise before → is_after (last_of before) ≡ false → OneOtherwise (before ++ last ∷ [])
one_more [] last h n = single last
one_more (An_otherwise is ∷ []) last h n = absurd cc
one_more (An_otherwise is ∷ y ∷ before) last h n = absurd cc
one_more (Instruction i ∷ []) last h n = single last
one_more (Instruction i ∷ y ∷ before) last h n = one_more (y ∷ before) last h n
one_more (An_if x is at ∷ []) last h n = single last
one_more (An_if x is at ∷ y ∷ before) last h n = one_more (y ∷ before) last h n
one_more (An_else is ∷ []) last h n = single last
one_more (An_else is ∷ y ∷ before) last h n = one_more (y ∷ before) last h n
one_more (A_local m i ∷ []) last h n = single last
one_more (A_local m i ∷ y ∷ before) last h n = one_more (y ∷ before) last h n
one_more (A_branch w ∷ []) last h n = single last
one_more (A_branch w ∷ y ∷ before) last h n = one_more (y ∷ before) last h n
one_more (A_param v ∷ []) last h n = single last
one_more (A_param v ∷ y ∷ before) last h n = one_more (y ∷ before) last h n
one_more (A_value p ∷ []) last h n = single last
one_more (A_value p ∷ y ∷ before) last h n = one_more (y ∷ before) last h n
one_more (Text t ∷ []) last h n = single last
one_more (Text t ∷ y ∷ before) last h n = one_more (y ∷ before) last h n
one_more (A_part p ∷ []) last h n = single last
one_more (A_part p ∷ y ∷ before) last h n = one_more (y ∷ before) last h n

pub apart_same : (before xs : List Item) → with_params xs ≡ [] → AreDistinct (map (λ (p : WithParam). p.name) (with_params before)) → AreDistinct (map (λ (p : WithParam). p.name) (with_params (before ++ xs)))
apart_same before xs n h =
    let e : with_params (before ++ xs) ≡ with_params before = flat_map-append values_of_item before xs ∙ ap (λ l. with_params before ++ l) n ∙ append-nil (with_params before) in
    subst (λ ps. AreDistinct (map (λ (p : WithParam). p.name) ps)) (sym e) h

neither : (a b : Bool) → (a || b) ≡ false → (a ≡ false) × (b ≡ false)
neither true b h = absurd cc
neither false b h = (refl, h)

-- what no test finds, none is
pub none_any : {A : Type 0} (f : A → Bool) (xs : List A) → list_any f xs ≡ false → All (λ x. f x ≡ false) xs
none_any f [] h = All-nil (λ x. f x ≡ false)
none_any f (x ∷ xs) h = let t = neither (f x) (list_any f xs) h in All-cons (λ y. f y ≡ false) x xs t.0 (none_any f xs t.1)

pub distinct_push : (names : List Name) (n : Name) → AreDistinct names → All (λ (m : Name). is_same m n ≡ false) names → AreDistinct (names ++ n ∷ [])
distinct_push names n h k = all_pairs_push (λ (a b : Name). is_same a b ≡ false) names n h (λ i d l. All-get_or (λ (m : Name). is_same m n ≡ false) names i d l k)

pub apart_more : (before : List Item) (p : WithParam) → list_any (λ (q : WithParam). is_same q.name p.name) (with_params before) ≡ false
    → AreDistinct (map (λ (p : WithParam). p.name) (with_params before)) → AreDistinct (map (λ (p : WithParam). p.name) (with_params (before ++ A_value p ∷ [])))
apart_more before p n h =
    let e : map (λ (p : WithParam). p.name) (with_params (before ++ A_value p ∷ [])) ≡ map (λ (p : WithParam). p.name) (with_params before) ++ p.name ∷ [] =
    ap (map (λ (p : WithParam). p.name)) (flat_map-append values_of_item before (A_value p ∷ [])) ∙ map-append (λ (p : WithParam). p.name) (with_params before) (p ∷ []) in
    subst AreDistinct (sym e) (distinct_push (map (λ (p : WithParam). p.name) (with_params before)) p.name h
    (All-map (λ (m : Name). is_same m p.name ≡ false) (λ (p : WithParam). p.name) (with_params before) (none_any (λ (q : WithParam). is_same q.name p.name) (with_params before) n)))

-- What may stand where.

pub behind_sheet_list : (inside : Inside) (before : List Item) → is_sheet_list (behind inside before) ≡ is_sheet_list inside
behind_sheet_list Start_of_body before = by (list_all is_a_param before) where
  by : (b : Bool) → is_sheet_list (if b then Start_of_body else Body) ≡ false
  by true = refl
  by false = refl
behind_sheet_list other before = refl

-- neither a group nor an include stands in a body
pub allowed_body : (list : Inside) (b : Before) (kind : Kind) → is_sheet_list list ≡ false → is_allowed list b kind ≡ true → (makes_group kind ≡ false) × (is_include kind ≡ false)
allowed_body (Document x) b kind n h = absurd cc
allowed_body (Declarations x) b kind n h = absurd cc
allowed_body Start_of_body b element.Transform n h = absurd cc
allowed_body Body Something element.Transform n h = absurd cc
allowed_body Body After_if element.Transform n h = absurd cc
allowed_body Body After_otherwise element.Transform n h = absurd cc
allowed_body Branches Something element.Transform n h = absurd cc
allowed_body Branches After_if element.Transform n h = absurd cc
allowed_body Branches After_otherwise element.Transform n h = absurd cc
allowed_body With_params b element.Transform n h = absurd cc
allowed_body (Characters c) b element.Transform n h = absurd cc
allowed_body Parts b element.Transform n h = absurd cc
allowed_body Nothing b element.Transform n h = absurd cc
allowed_body Start_of_body b element.Group n h = absurd cc
allowed_body Body Something element.Group n h = absurd cc
allowed_body Body After_if element.Group n h = absurd cc
allowed_body Body After_otherwise element.Group n h = absurd cc
allowed_body Branches Something element.Group n h = absurd cc
allowed_body Branches After_if element.Group n h = absurd cc
allowed_body Branches After_otherwise element.Group n h = absurd cc
allowed_body With_params b element.Group n h = absurd cc
allowed_body (Characters c) b element.Group n h = absurd cc
allowed_body Parts b element.Group n h = absurd cc
allowed_body Nothing b element.Group n h = absurd cc
allowed_body Start_of_body b element.Include n h = absurd cc
allowed_body Body Something element.Include n h = absurd cc
allowed_body Body After_if element.Include n h = absurd cc
allowed_body Body After_otherwise element.Include n h = absurd cc
allowed_body Branches Something element.Include n h = absurd cc
allowed_body Branches After_if element.Include n h = absurd cc
allowed_body Branches After_otherwise element.Include n h = absurd cc
allowed_body With_params b element.Include n h = absurd cc
allowed_body (Characters c) b element.Include n h = absurd cc
allowed_body Parts b element.Include n h = absurd cc
allowed_body Nothing b element.Include n h = absurd cc
allowed_body list b kind n h = (refl, refl)

no_param : (b : Before) → is_allowed Body b element.Param ≡ true → ⊥
no_param Something h = absurd cc
no_param After_if h = absurd cc
no_param After_otherwise h = absurd cc

-- a parameter in a body stands before all else
pub param_place : (inside : Inside) (before : List Item) (b : Before) → is_declared_here inside ≡ false → is_allowed (behind inside before) b element.Param ≡ true → (is_start inside ≡ true) × (list_all is_a_param before ≡ true)
param_place (Document x) before b n h = absurd cc
param_place (Declarations x) before b n h = absurd cc
param_place Start_of_body before b n h = by (list_all is_a_param before) refl h where
  by : (t : Bool) → list_all is_a_param before ≡ t → is_allowed (if t then Start_of_body else Body) b element.Param ≡ true → (is_start Start_of_body ≡ true) × (list_all is_a_param before ≡ true)
  by true e a = (refl, e)
  by false e a = absurd (no_param b a)
param_place Body before b n h = absurd (no_param b h)
param_place Branches before Something n h = absurd cc
param_place Branches before After_if n h = absurd cc
param_place Branches before After_otherwise n h = absurd cc
param_place With_params before b n h = absurd cc
param_place (Characters c) before b n h = absurd cc
param_place Parts before b n h = absurd cc
param_place Nothing before b n h = absurd cc

-- no local stands among branches, nor among values for parameters
pub plain_kind : (inside : Inside) (before : List Item) (b : Before) (kind : Kind) → is_plain inside ≡ true → is_allowed (behind inside before) b kind ≡ true → is_local kind ≡ false
plain_kind With_params before b element.Param p h = absurd cc
plain_kind Branches before Something element.Param p h = absurd cc
plain_kind Branches before After_if element.Param p h = absurd cc
plain_kind Branches before After_otherwise element.Param p h = absurd cc
plain_kind (Document x) before b element.Param p h = absurd cc
plain_kind (Declarations x) before b element.Param p h = absurd cc
plain_kind Start_of_body before b element.Param p h = absurd cc
plain_kind Body before b element.Param p h = absurd cc
plain_kind (Characters c) before b element.Param p h = absurd cc
plain_kind Parts before b element.Param p h = absurd cc
plain_kind Nothing before b element.Param p h = absurd cc
plain_kind With_params before b element.Variable p h = absurd cc
plain_kind Branches before Something element.Variable p h = absurd cc
plain_kind Branches before After_if element.Variable p h = absurd cc
plain_kind Branches before After_otherwise element.Variable p h = absurd cc
plain_kind (Document x) before b element.Variable p h = absurd cc
plain_kind (Declarations x) before b element.Variable p h = absurd cc
plain_kind Start_of_body before b element.Variable p h = absurd cc
plain_kind Body before b element.Variable p h = absurd cc
plain_kind (Characters c) before b element.Variable p h = absurd cc
plain_kind Parts before b element.Variable p h = absurd cc
plain_kind Nothing before b element.Variable p h = absurd cc
plain_kind inside before b kind p h = refl

pub branch_place : (inside : Inside) (before : List Item) (b : Before) (kind : Kind) → are_branches inside ≡ true → is_allowed (behind inside before) b kind ≡ true → is_after b ≡ false
branch_place Branches before After_otherwise kind p h = absurd cc
branch_place Branches before Something kind p h = refl
branch_place Branches before After_if kind p h = refl
branch_place (Document x) before b kind p h = absurd cc
branch_place (Declarations x) before b kind p h = absurd cc
branch_place Start_of_body before b kind p h = absurd cc
branch_place Body before b kind p h = absurd cc
branch_place With_params before b kind p h = absurd cc
branch_place (Characters c) before b kind p h = absurd cc
branch_place Parts before b kind p h = absurd cc
branch_place Nothing before b kind p h = absurd cc

-- a group stands among declarations
pub group_place : (inside : Inside) (before : List Item) (b : Before) → is_allowed (behind inside before) b element.Group ≡ true → is_declared_here inside ≡ true
group_place (Document x) before b h = absurd cc
group_place (Declarations x) before b h = refl
group_place Start_of_body before b h = by (list_all is_a_param before) h where
  by : (t : Bool) → is_allowed (if t then Start_of_body else Body) b element.Group ≡ true → is_declared_here Start_of_body ≡ true
  by true a = absurd cc
  by false a = absurd (no_group b a)
    where
      no_group : (b : Before) → is_allowed Body b element.Group ≡ true → ⊥
      no_group Something a = absurd cc
      no_group After_if a = absurd cc
      no_group After_otherwise a = absurd cc
group_place Body before Something h = absurd cc
group_place Body before After_if h = absurd cc
group_place Body before After_otherwise h = absurd cc
group_place Branches before Something h = absurd cc
group_place Branches before After_if h = absurd cc
group_place Branches before After_otherwise h = absurd cc
group_place With_params before b h = absurd cc
group_place (Characters c) before b h = absurd cc
group_place Parts before b h = absurd cc
group_place Nothing before b h = absurd cc

-- in a file's list stands a transform
pub root_place : (included : Bool) (before : List Item) (b : Before) (kind : Kind) → is_allowed (behind (Document included) before) b kind ≡ true → makes_group kind ≡ true
root_place included before b element.Transform h = refl
root_place included before b kind h = absurd cc

-- the list of an element that is no group isn't one of declarations
pub inner_list : (around : Inside) (kind : Kind) (has : Bool) → makes_group kind ≡ false → is_sheet_list (inside_of around kind has) ≡ false
inner_list around element.Transform has h = absurd cc
inner_list around element.Group has h = absurd cc
inner_list around element.Template has h = refl
inner_list around element.Procedure has h = refl
inner_list around element.Include has h = refl
inner_list around element.Param has h = refl
inner_list around element.Variable has h = refl
inner_list around element.Buffer has h = refl
inner_list around element.ValueOf has h = refl
inner_list around element.Chars has h = refl
inner_list around element.Copy has h = refl
inner_list around element.Element has h = refl
inner_list around element.StartElement has h = refl
inner_list around element.EndElement has h = refl
inner_list around element.Attribute true h = refl
inner_list around element.Attribute false h = refl
inner_list around element.Comment true h = refl
inner_list around element.Comment false h = refl
inner_list around element.Instruction true h = refl
inner_list around element.Instruction false h = refl
inner_list around element.Message true h = refl
inner_list around element.Message false h = refl
inner_list around element.If has h = refl
inner_list around element.Else has h = refl
inner_list around element.Choose has h = refl
inner_list around element.When has h = refl
inner_list around element.Otherwise has h = refl
inner_list around element.ForEachItem has h = refl
inner_list around element.While has h = refl
inner_list around element.Assign has h = refl
inner_list around element.CallProcedure has h = refl
inner_list around element.ProcessChildren has h = refl
inner_list around element.ProcessAttributes has h = refl
inner_list around element.ProcessSelf has h = refl
inner_list around element.ProcessSiblings has h = refl
inner_list around element.ProcessBuffer has h = refl
inner_list around element.ProcessDocument has h = refl
inner_list around element.ResultBuffer has h = refl
inner_list around element.WithParam has h = refl

-- What the kinds come to.
module _ (group : ℕ) (at : Place) (scope : List Binding) (v : Values) (list : List Item) where
  pub group_item : (kind : Kind) → makes_group kind ≡ true → item kind group at scope v list ≡ []
  group_item element.Transform h = refl
  group_item element.Group h = refl
  group_item kind h = absurd cc

  pub no_params_in : (kind : Kind) → is_param kind ≡ false → params (item kind group at scope v list) ≡ []
  no_params_in element.Param h = absurd cc
  no_params_in kind h = refl

  pub no_values_in : (kind : Kind) → is_with_param kind ≡ false → with_params (item kind group at scope v list) ≡ []
  no_values_in element.WithParam h = absurd cc
  no_values_in kind h = refl

  pub no_locals_in : (kind : Kind) → is_local kind ≡ false → locals_of (item kind group at scope v list) ≡ []
  no_locals_in element.Param h = absurd cc
  no_locals_in element.Variable h = absurd cc
  no_locals_in kind h = refl

  pub one_item : (kind : Kind) (before : List Item) → OneOtherwise before → is_after (last_of before) ≡ false → OneOtherwise (before ++ item kind group at scope v list)
  one_item element.Transform before h n = subst OneOtherwise (sym (append-nil before)) h
  one_item element.Group before h n = subst OneOtherwise (sym (append-nil before)) h
  one_item element.Template before h n = subst OneOtherwise (sym (append-nil before)) h
  one_item element.Procedure before h n = subst OneOtherwise (sym (append-nil before)) h
  one_item element.Include before h n = subst OneOtherwise (sym (append-nil before)) h
  one_item element.Buffer before h n = subst OneOtherwise (sym (append-nil before)) h
  one_item kind before h n = one_more before _ h n
