-- In a sheet that is given each name that is said leads to what it names, and no name is declared twice.
use Rattle.std.proofs.Common.{◌≡◌, ◌⊎◌, inl, inr, ℕ, zero, suc, ◌<◌, ◌≤◌, Bool, true, false, ◌&&◌, ◌||◌, ◌==◌, List, [], ◌∷◌, ◌++◌, Option, Some, None, codes, get_or, length, slice_get, take, refl, ap, sym, ◌∙◌, arith, eq-eqb, if◌then◌else◌}
use Rattle.std.proofs.Math.Path.{subst}
use Rattle.std.proofs.Math.Seq.{take-append_seam}
use Rattle.std.proofs.lemmas.Grind.{flat_map-append}
use Rattle.std.proofs.lemmas.List.{append-nil, length-append, take-append-le}
use Rattle.std.proofs.lemmas.List.Elements.{All-append, All-cons, All-get_or, All-head, All-nil, All-tail, All-weaker}
use Rattle.std.proofs.lemmas.List.Quantifiers.{all_pairs_push}
use Rattle.std.specs.List.{All, flat_map, list_any}
use Rattle.std.specs.Option.{option_and_then, option_map_or, option_to_list}
use Rattle.stx_base.specs.declared.fault.Place.{Place}
use Rattle.stx_base.specs.declared.name.Binding.{Binding}
use Rattle.stx_base.specs.declared.name.Name.{Name}
use Rattle.sheet_model.specs.Groups.{AreApart, AreDistinct, Finds, HasVariable, IsFound, around_parent, around_within, parent_of}
use Rattle.sheet_model.specs.Names.{free, is_same, pattern_variables, variables, with_params}
use Rattle.sheet_model.specs.Sound.{DeclarationsAreFound, group_names, procedure_says, template_says}
use Rattle.sheet_model.specs.declared.sheet.Buffer.{Buffer}
use Rattle.sheet_model.specs.declared.sheet.Group.{Group}
use Rattle.sheet_model.specs.declared.sheet.Procedure.{Procedure}
use Rattle.sheet_model.specs.declared.sheet.Sheet.{Sheet}
use Rattle.sheet_model.specs.declared.sheet.Template.{Template}
use Rattle.sheet_model.specs.declared.sheet.Variable.{Variable}
use Rattle.xml_events.specs.Tree.{Element, Forest}
use Rattle.sheet_loader.proofs.Bodies.{all_if}
use Rattle.sheet_loader.proofs.Came.{Came, at_end, behind_tag, copies, element_made, includes, makes, passes, referring, speaks, writes}
use Rattle.sheet_loader.proofs.ListNames.{distinct_push, none_any}
use Rattle.sheet_loader.proofs.Sayings.{AllFound, All-back, All-front, Good, any_weaker, variable_there}
use Rattle.sheet_loader.specs.Elements.{Kind, is_buffer, is_own, is_param, is_procedure, is_template, is_variable, makes_group}
use Rattle.sheet_loader.specs.Judging.{is_declared_here, scope_at, values}
use Rattle.sheet_loader.specs.Making.{Values, as_expression, as_name, body, item, name, params, pattern, value_at, variable}
use Rattle.sheet_loader.specs.Read.{begun, buffer_at, ended, inner_group, listed, made, procedure_at, template_at, with_group, with_root}
use Rattle.sheet_loader.specs.Reading.{Context, File, Item, Listed, Loading, place}
use Rattle.sheet_loader.specs.References.{No_earlier_variable, Reference, has_group, has_variable, is_found, is_named}
use Rattle.sheet_loader.specs.Referring.{references, refers, to_earlier}
use Rattle.sheet_loader.specs.Values.{Reads}

abbrev Found_so : Sheet → Reference → Type 0
Found_so s r = is_found s r.sought ≡ true

-- Groups that come later hide none.

slice_more : {A : Type 0} (xs ys : List A) (n : ℕ) (x : A) → slice_get xs n ≡ Some x → slice_get (xs ++ ys) n ≡ Some x
slice_more [] ys n x h = absurd cc
slice_more (z ∷ xs) ys zero x h = h
slice_more (z ∷ xs) ys (suc n) x h = slice_more xs ys n x h

around_more : (gs more : List Group) (levels most n outer : ℕ) → levels ≤ most → list_any (λ g. g == outer) (around_within gs levels n) ≡ true → list_any (λ g. g == outer) (around_within (gs ++ more) most n) ≡ true
around_more gs more zero zero n outer l h = h
around_more gs more zero (suc most) n outer l h = alone (n == outer) h where
  alone : (b : Bool) → (b || false) ≡ true → (b || list_any (λ g. g == outer) (around_parent (around_within (gs ++ more) most) (parent_of (gs ++ more) n))) ≡ true
  alone true e = refl
  alone false e = absurd cc
around_more gs more (suc levels) zero n outer l h = absurd (omega (arith, l))
around_more gs more (suc levels) (suc most) n outer l h = either (n == outer) h (λ p e k. around_more gs more levels most p outer (omega (arith, l)) k) where
  later : (o : Option Group) → slice_get gs n ≡ o → list_any (λ g. g == outer) (around_parent (around_within gs levels) (parent_of gs n)) ≡ true
      → ((p : ℕ) → parent_of gs n ≡ Some p → list_any (λ g. g == outer) (around_within gs levels p) ≡ true → list_any (λ g. g == outer) (around_within (gs ++ more) most p) ≡ true)
      → list_any (λ g. g == outer) (around_parent (around_within (gs ++ more) most) (parent_of (gs ++ more) n)) ≡ true
  later None e h rest =
      absurd (let n0 : parent_of gs n ≡ None = ap (λ o. option_and_then (λ (x : Group). x.parent) o) e in
      let f : list_any (λ g. g == outer) (around_parent (around_within gs levels) None) ≡ true = sym (ap (λ o. list_any (λ g. g == outer) (around_parent (around_within gs levels) o)) n0) ∙ h in cc)
  later (Some x) e h rest = by x.parent refl where
    by : (o : Option ℕ) → x.parent ≡ o → list_any (λ g. g == outer) (around_parent (around_within (gs ++ more) most) (parent_of (gs ++ more) n)) ≡ true
    by None q =
        absurd (let n0 : parent_of gs n ≡ None = ap (λ o. option_and_then (λ (x : Group). x.parent) o) e ∙ q in
        let f : list_any (λ g. g == outer) (around_parent (around_within gs levels) None) ≡ true = sym (ap (λ o. list_any (λ g. g == outer) (around_parent (around_within gs levels) o)) n0) ∙ h in cc)
    by (Some p) q =
        let n0 : parent_of gs n ≡ Some p = ap (λ o. option_and_then (λ (x : Group). x.parent) o) e ∙ q in
        let m0 : parent_of (gs ++ more) n ≡ Some p = ap (λ o. option_and_then (λ (x : Group). x.parent) o) (slice_more gs more n x e) ∙ q in
        let f : list_any (λ g. g == outer) (around_within gs levels p) ≡ true = sym (ap (λ o. list_any (λ g. g == outer) (around_parent (around_within gs levels) o)) n0) ∙ h in
        ap (λ o. list_any (λ g. g == outer) (around_parent (around_within (gs ++ more) most) o)) m0 ∙ rest p n0 f

  either : (b : Bool) → (b || list_any (λ g. g == outer) (around_parent (around_within gs levels) (parent_of gs n))) ≡ true
      → ((p : ℕ) → parent_of gs n ≡ Some p → list_any (λ g. g == outer) (around_within gs levels p) ≡ true → list_any (λ g. g == outer) (around_within (gs ++ more) most p) ≡ true)
      → (b || list_any (λ g. g == outer) (around_parent (around_within (gs ++ more) most) (parent_of (gs ++ more) n))) ≡ true
  either true e rest = refl
  either false e rest = later (slice_get gs n) refl e rest

abbrev with_groups : Sheet → List Group → Sheet
with_groups s more = record s { groups = s.groups ++ more }

variable_still : (s : Sheet) (more : List Group) (among : List Variable) (from : ℕ) (n : Name) → HasVariable s among from n → HasVariable (with_groups s more) among from n
variable_still s more among from n h =
    let l = length-append s.groups more in
    any_weaker (λ (v : Variable). Finds s from n v.group v.name) (λ (v : Variable). Finds (with_groups s more) from n v.group v.name) among
    (λ v f. (around_more s.groups more (length s.groups) (length (s.groups ++ more)) from v.group (omega (arith, l)) f.0, f.1)) h

-- Declarations see what stands earlier.

pub earlier_referred : (at : Place) (s : Sheet) (from : ℕ) (t : Sheet) (names : List Name) → AllFound t (to_earlier at s from names) → All (HasVariable s s.variables from) names
earlier_referred at s from t [] h = All-nil (HasVariable s s.variables from)
earlier_referred at s from t (n ∷ names) h =
    All-cons (HasVariable s s.variables from) n names
    (by (has_variable s from n) refl (All-front (Found_so t) (if has_variable s from n then [] else refers at No_earlier_variable) (to_earlier at s from names) h))
    (earlier_referred at s from t names (All-back (Found_so t) (if has_variable s from n then [] else refers at No_earlier_variable) (to_earlier at s from names) h))
  where
    by : (b : Bool) → has_variable s from n ≡ b → AllFound t (if b then [] else refers at No_earlier_variable) → HasVariable s s.variables from n
    by true e k = variable_there s s.variables from n e
    by false e k = absurd (let f = All-head (Found_so t) (record { at = at; sought = No_earlier_variable }) [] k in cc)

abbrev Pushed : {A : Type 0} (xs : List A) (x y : A) (n : ℕ) → Type 0
Pushed xs x y n = ((slice_get xs n ≡ Some y) × (n < length xs)) ⊎ ((n ≡ length xs) × (x ≡ y))

slice_push : {A : Type 0} (xs : List A) (x : A) (n : ℕ) (y : A) → slice_get (xs ++ x ∷ []) n ≡ Some y → Pushed xs x y n
slice_push [] x zero y h = inr (refl, cc)
slice_push [] x (suc n) y h = absurd cc
slice_push (z ∷ xs) x zero y h = inl (h, omega arith)
slice_push (z ∷ xs) x (suc n) y h = by (slice_push xs x n y h) where
  by : Pushed xs x y n → Pushed (z ∷ xs) x y (suc n)
  by (inl l) = let m = l.1 in inl (l.0, omega (arith, m))
  by (inr r) = let e = r.0 in inr (omega (arith, e), r.1)

abbrev with_variable : Sheet → Variable → Sheet
with_variable s v = record s { variables = s.variables ++ v ∷ [] }

declared_more : (s : Sheet) (v : Variable) → DeclarationsAreFound s → All (HasVariable s s.variables v.group) (flat_map variables (option_to_list v.select)) → DeclarationsAreFound (with_variable s v)
declared_more s v h k n w at = by (slice_push s.variables v n w at) where
  by : Pushed s.variables v w n → All (HasVariable s (take n (s.variables ++ v ∷ [])) w.group) (flat_map variables (option_to_list w.select))
  by (inl l) =
      let m = l.1 in
      subst (λ among. All (HasVariable s among w.group) (flat_map variables (option_to_list w.select))) (sym (take-append-le n s.variables (v ∷ []) (omega (arith, m)))) (h n w l.0)
  by (inr r) =
      let e : take n (s.variables ++ v ∷ []) ≡ s.variables = ap (λ m. take m (s.variables ++ v ∷ [])) r.0 ∙ take-append_seam s.variables (v ∷ []) in
      subst (λ among. All (HasVariable s among w.group) (flat_map variables (option_to_list w.select))) (sym e)
      (subst (λ (x : Variable). All (HasVariable s s.variables x.group) (flat_map variables (option_to_list x.select))) r.1 k)

-- What stands in a sheet that is read so far: names are found in the sheet as a whole.
pub record SheetOk (whole s : Sheet) : Type 0 where
  pub patterns : All (λ (t : Template). All (IsFound whole t.group) (free [] (pattern_variables t.pattern))) s.templates
  pub templates : All (λ (t : Template). All (Good whole t.group) (template_says t)) s.templates
  pub procedures : All (λ (p : Procedure). All (Good whole p.group) (procedure_says p)) s.procedures
  pub declarations : DeclarationsAreFound s
  pub groups : AreDistinct (group_names s.groups)
  pub apart_procedures : AreApart (λ (p : Procedure). p.group) (λ (p : Procedure). p.name) s.procedures
  pub apart_buffers : AreApart (λ (b : Buffer). b.group) (λ (b : Buffer). b.name) s.buffers
  pub apart_variables : AreApart (λ (v : Variable). v.group) (λ (v : Variable). v.name) s.variables

-- one more that is apart from all, if there is one
no_test : (a b : Bool) → (a && b) ≡ false → a ≡ true → b ≡ false
no_test true b h e = h
no_test false b h e = absurd cc

same_number : (n m : ℕ) → n ≡ m → (n == m) ≡ true
same_number n m e = eq-eqb n m e

apart_if : {A : Type 0} (group : A → ℕ) (name : A → Name) (b : Bool) (x : A) (xs : List A) → AreApart group name xs → (b ≡ true → list_any (λ y. group y == group x && is_same (name y) (name x)) xs ≡ false)
    → AreApart group name (xs ++ (if b then x ∷ [] else []))
apart_if group name true x xs h k =
    all_pairs_push (λ y z. group y ≡ group z → is_same (name y) (name z) ≡ false) xs x h
    (λ i d l e. no_test (group (get_or xs i d) == group x) (is_same (name (get_or xs i d)) (name x))
    (All-get_or (λ y. (group y == group x && is_same (name y) (name x)) ≡ false) xs i d l (none_any (λ y. group y == group x && is_same (name y) (name x)) xs (k refl)))
    (same_number (group (get_or xs i d)) (group x) e))
apart_if group name false x xs h k = subst (AreApart group name) (sym (append-nil xs)) h

declared_if : (b : Bool) (s : Sheet) (v : Variable) → DeclarationsAreFound s → (b ≡ true → All (HasVariable s s.variables v.group) (flat_map variables (option_to_list v.select)))
    → DeclarationsAreFound (record s { variables = s.variables ++ (if b then v ∷ [] else []) })
declared_if true s v h k = declared_more s v h (k refl)
declared_if false s v h k = subst (λ vs. DeclarationsAreFound (record s { variables = vs })) (sym (append-nil s.variables)) h

-- What a declaration adds.
pub record Adds (whole : Sheet) (here : Context) (at : ℕ) (kind : Kind) (v : Values) (s : Sheet) (items : List Item) : Type 0 where
  pub pattern : is_template kind ≡ true → All (IsFound whole here.group) (free [] (pattern_variables (pattern (codes "match") v)))
  pub said : (is_template kind || is_procedure kind) ≡ true → All (Good whole here.group) (with_params (params items) (body items) [])
  pub declared : (is_param kind || is_variable kind) ≡ true → All (HasVariable s s.variables here.group) (flat_map variables (option_to_list (as_expression (value_at (codes "select") v))))
  pub procedure : is_procedure kind ≡ true → list_any (λ (p : Procedure). p.group == here.group && is_same p.name (name v)) s.procedures ≡ false
  pub buffer : is_buffer kind ≡ true → list_any (λ (b : Buffer). b.group == here.group && is_same b.name (name v)) s.buffers ≡ false
  pub variable : (is_param kind || is_variable kind) ≡ true → list_any (λ (x : Variable). x.group == here.group && is_same x.name (name v)) s.variables ≡ false

left_so : (a b : Bool) → a ≡ true → (a || b) ≡ true
left_so true b h = refl
left_so false b h = absurd cc

right_so : (a b : Bool) → b ≡ true → (a || b) ≡ true
right_so true b h = refl
right_so false b h = h

pub ended_ok : (whole : Sheet) (here : Context) (at : ℕ) (kind : Kind) (v : Values) (r : Listed) → SheetOk whole r.loading.sheet → Adds whole here at kind v r.loading.sheet r.items → SheetOk whole (ended here at kind v r).sheet
ended_ok whole here at kind v r h a =
    let s = r.loading.sheet in
    let decl = declared_if (is_param kind || is_variable kind) s (variable here.group (is_param kind) (place here at) v) h.declarations a.declared in
    record {
      patterns =
          all_if (λ (t : Template). All (IsFound whole t.group) (free [] (pattern_variables t.pattern))) (is_template kind) (template_at here at v r.items) s.templates a.pattern h.patterns;
      templates =
          all_if (λ (t : Template). All (Good whole t.group) (template_says t)) (is_template kind) (template_at here at v r.items) s.templates
          (λ e. a.said (left_so (is_template kind) (is_procedure kind) e)) h.templates;
      procedures =
          all_if (λ (p : Procedure). All (Good whole p.group) (procedure_says p)) (is_procedure kind) (procedure_at here at v r.items) s.procedures
          (λ e. a.said (right_so (is_template kind) (is_procedure kind) e)) h.procedures;
      declarations = decl;
      groups = h.groups;
      apart_procedures =
          apart_if (λ (p : Procedure). p.group) (λ (p : Procedure). p.name) (is_procedure kind) (procedure_at here at v r.items) s.procedures h.apart_procedures a.procedure;
      apart_buffers = apart_if (λ (b : Buffer). b.group) (λ (b : Buffer). b.name) (is_buffer kind) (buffer_at here at v r.items) s.buffers h.apart_buffers a.buffer;
      apart_variables =
          apart_if (λ (x : Variable). x.group) (λ (x : Variable). x.name) (is_param kind || is_variable kind) (variable here.group (is_param kind) (place here at) v) s.variables h.apart_variables a.variable;
    }

-- a group of another name, or of none
names_more : (gs : List Group) (g : Group) → AreDistinct (group_names gs) → ((n : Name) → g.name ≡ Some n → list_any (is_named n) gs ≡ false) → AreDistinct (group_names (gs ++ g ∷ []))
names_more gs g h k = subst AreDistinct (sym (flat_map-append (λ (x : Group). option_to_list x.name) gs (g ∷ []))) (by g.name refl) where
  by : (o : Option Name) → g.name ≡ o → AreDistinct (group_names gs ++ (option_to_list o ++ []))
  by None e = subst AreDistinct (sym (append-nil (group_names gs))) h
  by (Some n) e = distinct_push (group_names gs) n h (all_named gs (none_any (is_named n) gs (k n e)))
    where
      first : (o : Option Name) → option_map_or (λ own. is_same own n) o false ≡ false → All (λ (m : Name). is_same m n ≡ false) (option_to_list o)
      first None f = All-nil (λ (m : Name). is_same m n ≡ false)
      first (Some own) f = All-cons (λ (m : Name). is_same m n ≡ false) own [] f (All-nil (λ (m : Name). is_same m n ≡ false))

      all_named : (xs : List Group) → All (λ (x : Group). is_named n x ≡ false) xs → All (λ (m : Name). is_same m n ≡ false) (group_names xs)
      all_named [] f = All-nil (λ (m : Name). is_same m n ≡ false)
      all_named (x ∷ xs) f =
          All-append (λ (m : Name). is_same m n ≡ false) (option_to_list x.name) (group_names xs) (first x.name (All-head (λ (x : Group). is_named n x ≡ false) x xs f))
          (all_named xs (All-tail (λ (x : Group). is_named n x ≡ false) x xs f))

grouped_ok : (whole : Sheet) (here : Context) (at : ℕ) (v : Values) (l : Loading) → SheetOk whole l.sheet → ((n : Name) → as_name (value_at (codes "name") v) ≡ Some n → has_group l.sheet n ≡ false) → SheetOk whole (with_group here at v l).sheet
grouped_ok whole here at v l h k =
    let s = l.sheet in
    let g = inner_group here at v in
    record {
      patterns = h.patterns;
      templates = h.templates;
      procedures = h.procedures;
      declarations = λ n w e.
          All-weaker (HasVariable s (take n s.variables) w.group) (HasVariable (with_groups s (g ∷ [])) (take n s.variables) w.group)
          (λ m there. variable_still s (g ∷ []) (take n s.variables) w.group m there) (flat_map variables (option_to_list w.select)) (h.declarations n w e);
      groups = names_more s.groups g h.groups k;
      apart_procedures = h.apart_procedures;
      apart_buffers = h.apart_buffers;
      apart_variables = h.apart_variables;
    }

pub begun_ok : (whole : Sheet) (here : Context) (at : ℕ) (kind : Kind) (v : Values) (l : Loading) → is_own here.inside ≡ false → SheetOk whole l.sheet
    → (makes_group kind ≡ true → (n : Name) → as_name (value_at (codes "name") v) ≡ Some n → has_group l.sheet n ≡ false) → SheetOk whole (begun here at kind v l).sheet
begun_ok whole here at kind v l o h k = subst (λ b. SheetOk whole (if b then with_root here at v l else if makes_group kind then with_group here at v l else l).sheet) (sym o) (by (makes_group kind) refl) where
  by : (b : Bool) → makes_group kind ≡ b → SheetOk whole (if b then with_group here at v l else l).sheet
  by true e = grouped_ok whole here at v l h (k e)
  by false e = h

-- References of a list are those before it, and more; and a body leaves the sheet as it is.
module _ (reads : Reads) (files : List (Option File)) where
  pub begun_refers : (here : Context) (at : ℕ) (kind : Kind) (v : Values) (l : Loading) → (begun here at kind v l).references ≡ l.references
  begun_refers here at kind v l = by (is_own here.inside) (makes_group kind) where
    by : (b c : Bool) → (if b then with_root here at v l else if c then with_group here at v l else l).references ≡ l.references
    by true c = refl
    by false true = refl
    by false false = refl

  pub made_refers : (here : Context) (at : ℕ) (kind : Kind) (scope : List Binding) (v : Values) (r : Listed) → (made here at kind scope v r).loading.references ≡ r.loading.references
  made_refers here at kind scope v r = by (is_declared_here here.inside) where
    by : (b : Bool) → (if b then listed [] (ended here at kind v r) else listed (item kind here.group (place here at) scope v r.items) r.loading).loading.references ≡ r.loading.references
    by true = refl
    by false = refl

  pub made_found : (t : Sheet) (here : Context) (e : Element) (kind : Kind) (inner : Listed) → AllFound t (element_made reads files here e kind inner).loading.references → AllFound t inner.loading.references
  made_found t here e kind inner h = subst (AllFound t) (made_refers here e.offset kind (scope_at here e) (values reads here kind e) inner) h

  pub tag_found : (t : Sheet) (here : Context) (before : List Item) (e : Element) (kind : Kind) (l : Loading) → AllFound t (behind_tag reads files here before e kind l).references → AllFound t (referring reads files here before e kind l).references
  tag_found t here before e kind l h = subst (AllFound t) (begun_refers here e.offset kind (values reads here kind e) (referring reads files here before e kind l)) h

  refs_front : (t : Sheet) (xs ys : List Reference) → AllFound t (xs ++ ys) → AllFound t xs
  refs_front t xs ys h = All-front (Found_so t) xs ys h

  pub came_found : (t : Sheet) {here : Context} {before : List Item} {list : Forest} {l : Loading} {r : Listed} → Came reads files here before list l r → AllFound t r.loading.references → AllFound t l.references
  came_found t (at_end here before mark offset l) h = h
  came_found t (passes here before mark leaf next l r c) h = came_found t c h
  came_found t (speaks here before mark leaf offset said next l r s a c) h = came_found t c h
  came_found t (makes here before stage e kids next l kind inner r f i c q n) h =
      refs_front t l.references (references (place here e.offset) here before l.sheet kind (values reads here kind e))
      (tag_found t here before e kind l (came_found t c (made_found t here e kind inner (came_found t n h))))
  came_found t (includes here before stage e kids next l kind file m inner r f i g b c q n) h =
      refs_front t l.references (references (place here e.offset) here before l.sheet kind (values reads here kind e))
      (tag_found t here before e kind l (came_found t b (came_found t c (made_found t here e kind inner (came_found t n h)))))
  came_found t (writes here before stage e kids next l inner r a p q c n) h =
      refs_front t l.references _ (came_found t c (came_found t n h))
  came_found t (copies here before stage e kids next l inner r i c n) h = came_found t c (came_found t n h)
