-- Variables that are made, and copies that are laid over a group's and taken off.
use Rattle.std.proofs.Common.{◌≡◌, ◌≢◌, ℕ, zero, suc, ◌+◌, ◌-◌, ◌<◌, ◌≤◌, Bool, true, false, cond, not, List, [], ◌∷◌, ◌++◌, length, map, reverse, get_or, nat_lt, Option, Some, None, refl, ap, sym, subst, ◌∙◌, arith, append-nil}
use borrow.Author.Tests.{eqb-true, eq-eqb, ltb-true}
use Rattle.std.proofs.lemmas.Bool.{false≢true}
use Rattle.std.proofs.lemmas.List.{get_or-map, length-map, map-append}
use Rattle.std.proofs.lemmas.List.Elements.{All-cons, All-head, All-tail}
use Rattle.std.proofs.lemmas.Option.{get_or_from_slice_get, slice_get_within}
use Rattle.std.specs.List.{Contains, position_or_len, slice_get}
use Rattle.std.specs.Option.{ForSome, option_and_then}
use Rattle.std.specs.Prelude.{◌==◌, ◌^◌, All, IfSome, if◌then◌else◌, slice_set, unwrap_or}
use Rattle.stx_base.specs.declared.name.Name.{Name}
use Rattle.event_buffers.specs.Buffers as buffers
use Rattle.event_buffers.specs.Buffers.{Buffer, Buffers}
use Rattle.event_buffers.specs.Layer.{Layer, State, Shut, Writing, Reading, busy, contents, is_shut, laid}
use Rattle.event_buffers.specs.declared.fault.BufferFault.TheVariants as fault
use Rattle.event_buffers.specs.declared.kept.Kept.{Kept}
use Rattle.sheet_model.specs.Groups.{AreApart}
use Rattle.sheet_model.specs.Names.{is_same}
use Rattle.sheet_model.specs.Sound.{AreReadableVariables, IsReadableVariable, StandsIn, VariablesStand}
use Rattle.sheet_model.specs.declared.sheet.Sheet.{Sheet}
use Rattle.sheet_model.specs.declared.sheet.Variable.{Variable}
use Rattle.stxpath_syntax.proofs.Evaluable.{readable_expression}
use Rattle.stxpath_syntax.specs.Readable.{IsReadable}
use Rattle.stxpath_syntax.specs.Shape.{CanBeEvaluated}
use Rattle.stxpath_syntax.specs.declared.expr.Expr.{Expr}
use Rattle.stxpath_values.specs.declared.value.Atom.{Atom}
use Rattle.template_machine.specs.Lists.{rest_of}
use Rattle.template_machine.specs.Made.{CanDeclare, IsMade, LaysScope, LeavesScope, OnlyStores, scope_laid}
use Rattle.template_machine.specs.Sections.{HoldStill}
use Rattle.template_machine.specs.Standing.{Free, Shelf, Standing, Usage, Written, in_group, on_shelf, scope_over, shelf_at, rooms_of, shelf_of, standing_of, usage_by, usage_of, written_closed}
use Rattle.template_machine.specs.Variables.{newest}
use Rattle.template_machine.specs.Well.{AreWritten, CanTakeOff, IsLaidOver, IsSteady, TellWithin}
use Rattle.template_machine.specs.declared.program.Program.{Program}
use Rattle.template_machine.specs.declared.putting.Putting.{Putting}
use Rattle.template_machine.specs.declared.run.Run.{Run}
use Rattle.template_machine.proofs.Assigned.{counts_stay, newest_long}
use Rattle.template_machine.proofs.Evaluable.{all_at}
use Rattle.template_machine.proofs.Holds.{group_off}
use Rattle.template_machine.proofs.Lasting.{at_index}
use Rattle.template_machine.proofs.Linking.{set_elsewhere, set_here}
use Rattle.template_machine.proofs.Writing.{HasCopy, reads, tells_alike}
use Rattle.var_store.specs.Copies as copies
use Rattle.var_store.specs.Copies.{Stored, copies_of, on_group, on_newest, taken_off}
use Rattle.var_store.specs.Variables.{bound, is_called, slot_of}
use Rattle.var_store.specs.declared.bound.Bound.{Bound}

-- Names, of a newest copy and of the variables that the sheet has so far.

abbrev pub names_in : Stored → (group : ℕ) → List Name
names_in store g = map (λ (b : Bound). b.name) (newest store g)

abbrev pub declared_before : List Variable → (count group : ℕ) → List Name
declared_before [] k g = []
declared_before (v ∷ vs) zero g = []
declared_before (v ∷ vs) (suc k) g = if v.group == g then v.name ∷ declared_before vs k g else declared_before vs k g

abbrev own_name : Variable → (group : ℕ) → List Name
own_name v g = if v.group == g then v.name ∷ [] else []

pub none_before : (vs : List Variable) (g : ℕ) → declared_before vs 0 g ≡ []
none_before [] g = refl
none_before (v ∷ vs) g = refl

pub next_before : (vs : List Variable) (k : ℕ) (v : Variable) (g : ℕ) → slice_get vs k ≡ Some v → declared_before vs (suc k) g ≡ declared_before vs k g ++ own_name v g
next_before [] k v g at = absurd (cc)
next_before (w ∷ ws) zero v g at =
    let same : w ≡ v = cc in
    ap (λ l. if w.group == g then w.name ∷ l else l) (none_before ws g) ∙ ap (λ (x : Variable). own_name x g) same
next_before (w ∷ ws) (suc k) v g at = by (w.group == g) (next_before ws k v g at) where
  by : (b : Bool) → declared_before ws (suc k) g ≡ declared_before ws k g ++ own_name v g
      → (if b then w.name ∷ declared_before ws (suc k) g else declared_before ws (suc k) g)
      ≡ (if b then w.name ∷ declared_before ws k g else declared_before ws k g) ++ own_name v g
  by true rest = ap (λ l. w.name ∷ l) rest
  by false rest = rest

few_before : (vs : List Variable) (k g : ℕ) → length (declared_before vs k g) ≤ length vs
few_before [] k g = omega arith
few_before (v ∷ vs) zero g = omega arith
few_before (v ∷ vs) (suc k) g = by (v.group == g) (few_before vs k g) where
  by : (b : Bool) → length (declared_before vs k g) ≤ length vs → length (if b then v.name ∷ declared_before vs k g else declared_before vs k g) ≤ length (v ∷ vs)
  by true rest = omega (arith, rest)
  by false rest = omega (arith, rest)

abbrev NoneSame : Name → List Name → Type 0
NoneSame n [] = Unit {0}
NoneSame n (m ∷ ms) = (is_same m n ≡ false) × NoneSame n ms

abbrev Apart : List Variable → Type 0
Apart vs = AreApart (λ (v : Variable). v.group) (λ (v : Variable). v.name) vs

fresh : (vs : List Variable) (k : ℕ) (v : Variable) (g : ℕ) → Apart vs → slice_get vs k ≡ Some v → v.group ≡ g → NoneSame v.name (declared_before vs k g)
fresh [] k v g apart at is = absurd (cc)
fresh (w ∷ ws) zero v g apart at is = tt
fresh (w ∷ ws) (suc k) v g apart at is =
    by (w.group == g) refl (fresh ws k v g (λ i j d less within. apart (suc i) (suc j) d (omega (arith, less)) (omega (arith, within))) at is)
  where
    by : (b : Bool) → (w.group == g) ≡ b → NoneSame v.name (declared_before ws k g) → NoneSame v.name (if b then w.name ∷ declared_before ws k g else declared_before ws k g)
    by true e inner =
        let other : w.group ≡ v.group → is_same w.name v.name ≡ false =
        subst (λ (x : Variable). w.group ≡ x.group → is_same w.name x.name ≡ false) (get_or_from_slice_get ws k v v at)
        (apart 0 (suc k) v (omega arith) (omega (arith, slice_get_within ws k v at))) in
        (other (eqb-true w.group g e ∙ sym is), inner)
    by false e inner = inner

all_before : (bs : List Bound) (n : Name) → NoneSame n (map (λ (b : Bound). b.name) bs) → position_or_len (is_called n) bs ≡ length bs
all_before [] n h = refl
all_before (b ∷ bs) n h = ap (λ t. cond (not t) (1 + position_or_len (is_called n) bs) 0) h.0 ∙ omega (arith, all_before bs n h.1)

not_less : (n : ℕ) → nat_lt n n ≡ false
not_less n = by (nat_lt n n) refl where
  by : (b : Bool) → nat_lt n n ≡ b → b ≡ false
  by true e = absurd (omega (arith, ltb-true n n e))
  by false e = refl

slot_free : (bs : List Bound) (n : Name) → NoneSame n (map (λ (b : Bound). b.name) bs) → slot_of n bs ≡ None
slot_free bs n h =
    ap (λ k. cond (nat_lt k (length bs)) (Some k) None) (all_before bs n h) ∙ ap (λ t. cond t (Some (length bs)) None) (not_less (length bs))

pub variable_at : (vs ws : List Variable) (k : ℕ) (w : Variable) → ws ≡ vs → k < length vs → w ≡ get_or ws k w → slice_get vs k ≡ Some w
variable_at vs ws k w all less is = subst (λ l. slice_get l k ≡ Some w) all (at_index ws k w (subst (λ l. k < length l) (sym all) less) is)

pub can_declare : (vs : List Variable) (k : ℕ) (v : Variable) (store : Stored) → Apart vs → length vs < 2 ^ 28 → slice_get vs k ≡ Some v
    → names_in store v.group ≡ declared_before vs k v.group → CanDeclare v store
can_declare vs k v store apart small at names = record {
  new = slot_free (newest store v.group) v.name (subst (NoneSame v.name) (sym names) (fresh vs k v v.group apart at refl));
  room = omega (arith, small, ap length names, length-map (newest store v.group) (λ (b : Bound). b.name), few_before vs k v.group);
}

-- One variable more.

with_one : (f : List Bound → List Bound) (cs : List (List Bound)) → 0 < length cs → copies.newest (on_newest f cs) ≡ f (copies.newest cs)
with_one f [] some = absurd (omega arith)
with_one f (c ∷ cs) some = refl

got_of : {A : Type 0} (xs : List A) (i : ℕ) (x d : A) → slice_get xs i ≡ Some x → unwrap_or (slice_get xs i) d ≡ x
got_of xs i x d e = ap (λ o. unwrap_or o d) e

pub made_names : (store : Stored) (v : Variable) (value : List Atom) (g : ℕ) → v.group < length store → 0 < length (copies_of store v.group)
    → names_in (on_group (on_newest (λ bs. bs ++ bound v.name value ∷ [])) v.group store) g ≡ names_in store g ++ own_name v g
made_names store v value g less some = by (v.group == g) refl where
  f : List (List Bound) → List (List Bound)
  f = on_newest (λ bs. bs ++ bound v.name value ∷ [])

  by : (b : Bool) → (v.group == g) ≡ b → names_in (on_group (on_newest (λ bs. bs ++ bound v.name value ∷ [])) v.group store) g ≡ names_in store g ++ (if b then v.name ∷ [] else [])
  by true e =
      let same : v.group ≡ g = eqb-true v.group g e in
      let h = on_newest (λ bs. bs ++ bound v.name value ∷ []) in
      let here : copies_of (on_group h v.group store) v.group ≡ h (copies_of store v.group) =
      got_of (on_group h v.group store) v.group (h (copies_of store v.group)) [] (set_here store v.group (h (copies_of store v.group)) less) in
      subst (λ n. names_in (on_group h v.group store) n ≡ names_in store n ++ v.name ∷ []) same
      (ap (λ cs. map (λ (b : Bound). b.name) (copies.newest cs)) here
      ∙ ap (map (λ (b : Bound). b.name)) (with_one (λ bs. bs ++ bound v.name value ∷ []) (copies_of store v.group) some)
      ∙ map-append (λ (b : Bound). b.name) (newest store v.group) (bound v.name value ∷ []))
  by false e =
      let h = on_newest (λ bs. bs ++ bound v.name value ∷ []) in
      let other : v.group ≢ g = λ same. false≢true (sym e ∙ eq-eqb v.group g same) in
      ap (λ o. map (λ (b : Bound). b.name) (copies.newest (unwrap_or o []))) (set_elsewhere store v.group g (h (copies_of store v.group)) other)
      ∙ sym (append-nil (names_in store g))

pub made_stores : (v : Variable) (a b : Run) → IsMade v a b → OnlyStores a b
made_stores v a b m =
    let h = on_newest (λ bs. bs ++ bound v.name m.value ∷ []) in
    let is : b.store ≡ on_group h v.group a.store = ap (λ (r : Run). r.store) m.rest in
    record {
      rest = m.rest ∙ ap (λ st. record a { store = st }) (sym is);
      copies = ap (map length) is ∙ counts_stay a.store v.group h (newest_long (λ bs. bs ++ bound v.name m.value ∷ []));
    }

pub stores_on : (a b c : Run) → OnlyStores a b → OnlyStores b c → OnlyStores a c
stores_on a b c x y = record {
  rest = y.rest ∙ ap (λ (r : Run). record r { store = c.store }) x.rest;
  copies = y.copies ∙ x.copies;
}

pub store_long : (a b : Run) → OnlyStores a b → length b.store ≡ length a.store
store_long a b o = sym (length-map b.store length) ∙ ap length o.copies ∙ length-map a.store length

-- What is known of the variables of a program.

for_some : (o : Option Expr) → IfSome o IsReadable → ForSome o CanBeEvaluated
for_some o h = λ x e. readable_expression x (subst (λ p. IfSome p IsReadable) e h)

pub variables_are : (p : Program) (r : Run) (s : IsSteady p r) → p.sheet.variables ≡ s.sheet.variables
variables_are p r s = ap (λ (x : Sheet). x.variables) s.program.sheet_is

pub variables_apart : (p : Program) (r : Run) → IsSteady p r → Apart p.sheet.variables
variables_apart p r s = subst Apart (sym (variables_are p r s)) s.sound.new.variables

pub variables_few : (p : Program) (r : Run) → IsSteady p r → length p.sheet.variables < 2 ^ 28
variables_few p r s = omega (arith, ap length (variables_are p r s), s.sound.small)

pub variable_runs : (p : Program) (r : Run) → IsSteady p r → (k : ℕ) (v : Variable) → slice_get p.sheet.variables k ≡ Some v → ForSome v.select CanBeEvaluated
variable_runs p r s k v at =
    for_some v.select
    (all_at IsReadableVariable p.sheet.variables k v (subst AreReadableVariables (sym (variables_are p r s)) s.sound.readable.variables) at).1

pub variable_stands : (p : Program) (r : Run) → IsSteady p r → (k : ℕ) (v : Variable) → slice_get p.sheet.variables k ≡ Some v → v.group < length r.store
variable_stands p r s k v at =
    let there : StandsIn s.sheet v.group v.at = all_at (λ (x : Variable). StandsIn s.sheet x.group x.at) p.sheet.variables k v (subst (VariablesStand s.sheet) (sym (variables_are p r s)) s.sound.numbers.variables) at in
    omega (arith, there.0, s.groups, ap (λ (x : Sheet). length x.groups) s.program.sheet_is)

copies_some : (store : Stored) (g : ℕ) → g < length store → All (λ n. 0 < n) (map length store) → 0 < length (copies_of store g)
copies_some [] g less h = absurd (omega arith)
copies_some (cs ∷ ss) zero less h = All-head (λ n. 0 < n) (length cs) (map length ss) h
copies_some (cs ∷ ss) (suc g) less h = copies_some ss g (omega arith) (All-tail (λ n. 0 < n) (length cs) (map length ss) h)

pub has_copy : (p : Program) (r : Run) (g : ℕ) → IsSteady p r → g < length r.store → 0 < length (copies_of r.store g)
has_copy p r g s less = copies_some r.store g less s.copied

-- names behind a variable more
pub names_next : (p : Program) (a b : Run) (k : ℕ) (v : Variable) (g : ℕ) → IsSteady p a → slice_get p.sheet.variables k ≡ Some v → IsMade v a b
    → names_in a.store g ≡ declared_before p.sheet.variables k g → names_in b.store g ≡ declared_before p.sheet.variables (suc k) g
names_next p a b k v g s at m names =
    let less = variable_stands p a s k v at in
    ap (λ (r : Run). names_in r.store g) m.rest
    ∙ made_names a.store v m.value g less (has_copy p a v.group s less)
    ∙ ap (λ l. l ++ own_name v g) names
    ∙ sym (next_before p.sheet.variables k v g at)

-- and behind one of another group, which isn't made
pub names_past : (vs : List Variable) (store : Stored) (k : ℕ) (v : Variable) (g : ℕ) → slice_get vs k ≡ Some v → v.group ≢ g
    → names_in store g ≡ declared_before vs k g → names_in store g ≡ declared_before vs (suc k) g
names_past vs store k v g at other names = names ∙ sym (append-nil (declared_before vs k g)) ∙ ap (λ l. declared_before vs k g ++ l) (by (v.group == g) refl) ∙ sym (next_before vs k v g at)
  where
    by : (b : Bool) → (v.group == g) ≡ b → [] ≡ (if b then v.name ∷ [] else [])
    by true e = absurd (other (eqb-true v.group g e))
    by false e = refl

-- at the start no group has a variable
pub names_none : (store : Stored) (g : ℕ) (vs : List Variable) → All (λ cs. cs ≡ [] ∷ []) store → g < length store → names_in store g ≡ declared_before vs 0 g
names_none store g vs none less = first store g none less ∙ sym (none_before vs g) where
  first : (ss : Stored) (n : ℕ) → All (λ cs. cs ≡ [] ∷ []) ss → n < length ss → names_in ss n ≡ []
  first [] n h l = absurd (omega arith)
  first (cs ∷ ss) zero h l = ap (λ c. map (λ (b : Bound). b.name) (copies.newest c)) (All-head (λ c. c ≡ [] ∷ []) cs ss h)
  first (cs ∷ ss) (suc n) h l = first ss n (All-tail (λ c. c ≡ [] ∷ []) cs ss h) (omega arith)

-- Copies that are laid.

laid_counts : (store : Stored) (g : ℕ) → map length (on_group (λ cs. [] ∷ cs) g store) ≡ slice_set (map length store) g (unwrap_or (slice_get (map length store) g) 0 + 1)
laid_counts [] g = refl
laid_counts (cs ∷ ss) zero = let more : suc (length cs) ≡ length cs + 1 = omega arith in ap (λ n. n ∷ map length ss) more
laid_counts (cs ∷ ss) (suc g) = ap (λ l. length cs ∷ l) (laid_counts ss g)

left_counts : (store : Stored) (g : ℕ) → map length (on_group taken_off g store) ≡ slice_set (map length store) g (unwrap_or (slice_get (map length store) g) 0 - 1)
left_counts [] g = refl
left_counts (cs ∷ ss) zero = ap (λ n. n ∷ map length ss) (less cs) where
  less : (c : List (List Bound)) → length (taken_off c) ≡ length c - 1
  less [] = refl
  less (b ∷ bs) = omega arith
left_counts (cs ∷ ss) (suc g) = ap (λ l. length cs ∷ l) (left_counts ss g)

pub count_at : (store : Stored) (g : ℕ) → unwrap_or (slice_get (map length store) g) 0 ≡ length (copies_of store g)
count_at [] g = refl
count_at (cs ∷ ss) zero = refl
count_at (cs ∷ ss) (suc g) = count_at ss g

laid_shelf : (g : ℕ) (b : Buffer) → shelf_of (buffers.in_group (λ cs. laid ∷ cs) g b) ≡ in_group (λ us. Free ∷ us) g (shelf_of b)
laid_shelf g b = by (b.group == g) where
  by : (t : Bool) → shelf_of (if t then buffers.with_copies (λ cs. laid ∷ cs) b else b) ≡ (if t then record (shelf_of b) { copies = Free ∷ (shelf_of b).copies } else shelf_of b)
  by true = refl
  by false = refl

pub laid_shelves : (g : ℕ) (bs : List Buffer) → map shelf_of (map (buffers.in_group (λ cs. laid ∷ cs) g) bs) ≡ map (in_group (λ us. Free ∷ us) g) (map shelf_of bs)
laid_shelves g [] = refl
laid_shelves g (b ∷ bs) =
    ap (λ x. x ∷ map shelf_of (map (buffers.in_group (λ cs. laid ∷ cs) g) bs)) (laid_shelf g b)
    ∙ ap (λ l. in_group (λ us. Free ∷ us) g (shelf_of b) ∷ l) (laid_shelves g bs)

left_copies : (declared : List Kept) (cs : List Layer) → map (usage_of declared) (buffers.taken_off cs) ≡ rest_of (map (usage_of declared) cs)
left_copies declared [] = refl
left_copies declared (c ∷ cs) = refl

left_shelf : (g : ℕ) (b : Buffer) → shelf_of (buffers.in_group buffers.taken_off g b) ≡ in_group rest_of g (shelf_of b)
left_shelf g b = by (b.group == g) where
  by : (t : Bool) → shelf_of (if t then buffers.with_copies buffers.taken_off b else b) ≡ (if t then record (shelf_of b) { copies = rest_of (shelf_of b).copies } else shelf_of b)
  by true = ap (λ us. record { group = b.group; copies = us }) (left_copies b.declared b.copies)
  by false = refl

left_shelves : (g : ℕ) (bs : List Buffer) → map shelf_of (map (buffers.in_group buffers.taken_off g) bs) ≡ map (in_group rest_of g) (map shelf_of bs)
left_shelves g [] = refl
left_shelves g (b ∷ bs) =
    ap (λ x. x ∷ map shelf_of (map (buffers.in_group buffers.taken_off g) bs)) (left_shelf g b)
    ∙ ap (λ l. in_group rest_of g (shelf_of b) ∷ l) (left_shelves g bs)

-- one buffer more, by whether it is of the group
abbrev laid_by : Bool → Shelf → Shelf
laid_by b x = if b then record x { copies = Free ∷ x.copies } else x

abbrev laid_all : (group : ℕ) → List Shelf → List Shelf
laid_all g xs = map (in_group (λ us. Free ∷ us) g) xs

reads_laid : (g : ℕ) (xs : List Shelf) → map reads (laid_all g xs) ≡ map reads xs
reads_laid g [] = refl
reads_laid g (x ∷ xs) = ap (λ l. l ∷ map reads (laid_all g xs)) (by (x.group == g)) ∙ ap (λ l. reads x ∷ l) (reads_laid g xs) where
  by : (b : Bool) → reads (laid_by b x) ≡ reads x
  by true = refl
  by false = refl

laid_closed : (g : ℕ) (xs : List Shelf) (id : ℕ) → on_shelf written_closed id (laid_all g xs) ≡ laid_all g (on_shelf written_closed id xs)
laid_closed g [] id = refl
laid_closed g (x ∷ xs) zero = ap (λ y. y ∷ laid_all g xs) (by (x.group == g)) where
  by : (b : Bool) → record (laid_by b x) { copies = written_closed (laid_by b x).copies } ≡ laid_by b (record x { copies = written_closed x.copies })
  by true = refl
  by false = refl
laid_closed g (x ∷ xs) (suc id) = ap (λ l. in_group (λ us. Free ∷ us) g x ∷ l) (laid_closed g xs id)

laid_there : (g : ℕ) (xs : List Shelf) (id : ℕ) → Contains (shelf_at xs id).copies Written → Contains (shelf_at (laid_all g xs) id).copies Written
laid_there g [] id h = absurd (omega (arith, h.1))
laid_there g (x ∷ xs) zero h = by (x.group == g) where
  by : (b : Bool) → Contains (laid_by b x).copies Written
  by true = (suc h.0, omega (arith, h.1), h.2)
  by false = h
laid_there g (x ∷ xs) (suc id) h = laid_there g xs id h

laid_written : (g : ℕ) (ids : List ℕ) (xs : List Shelf) → AreWritten ids xs → AreWritten ids (laid_all g xs)
laid_written g [] xs h = tt
laid_written g (id ∷ ids) xs h = (
  omega (arith, h.0, length-map xs (in_group (λ us. Free ∷ us) g)),
  laid_there g xs id h.1,
  subst (AreWritten ids) (sym (laid_closed g xs id)) (laid_written g ids (on_shelf written_closed id xs) h.2),
)

laid_copied : (g : ℕ) (xs : List Shelf) → All HasCopy xs → All HasCopy (laid_all g xs)
laid_copied g [] h = h
laid_copied g (x ∷ xs) h = All-cons HasCopy (in_group (λ us. Free ∷ us) g x) (laid_all g xs) (by (x.group == g)) (laid_copied g xs (All-tail HasCopy x xs h)) where
  by : (b : Bool) → HasCopy (laid_by b x)
  by true = omega arith
  by false = All-head HasCopy x xs h

more_copied : (ns : List ℕ) (g : ℕ) → All (λ n. 0 < n) ns → All (λ n. 0 < n) (slice_set ns g (unwrap_or (slice_get ns g) 0 + 1))
more_copied [] g h = h
more_copied (n ∷ ns) zero h = All-cons (λ n. 0 < n) (n + 1) ns (omega arith) (All-tail (λ n. 0 < n) n ns h)
more_copied (n ∷ ns) (suc g) h =
    All-cons (λ n. 0 < n) n (slice_set ns g (unwrap_or (slice_get ns g) 0 + 1)) (All-head (λ n. 0 < n) n ns h) (more_copied ns g (All-tail (λ n. 0 < n) n ns h))

set_long : (ns : List ℕ) (g m : ℕ) → length (slice_set ns g m) ≡ length ns
set_long [] g m = refl
set_long (n ∷ ns) zero m = refl
set_long (n ∷ ns) (suc g) m = ap suc (set_long ns g m)

-- a run with one more copy is steady
pub laid_standing : (r : Run) (g : ℕ) (store : Stored) (new : Putting) → store ≡ on_group (λ cs. [] ∷ cs) g r.store → new.targets ≡ r.putting.targets
    → new.buffers ≡ buffers.on_group (λ cs. laid ∷ cs) g r.putting.buffers → standing_of (record r { store = store; putting = new }) ≡ scope_laid g (standing_of r)
laid_standing r g store new stored targets is =
    let s = standing_of r in
    ap (λ ns. record s { copies = ns; targets = reverse new.targets; shelves = map shelf_of new.buffers.buffers }) (ap (map length) stored ∙ laid_counts r.store g)
    ∙ ap (λ ts. record (scope_laid g s) { targets = reverse ts; shelves = map shelf_of new.buffers.buffers }) targets
    ∙ ap (λ ss. record (scope_laid g s) { shelves = ss }) (ap (λ (b : Buffers). map shelf_of b.buffers) is ∙ laid_shelves g r.putting.buffers.buffers)

pub laid_steady : (p : Program) (r : Run) (g : ℕ) (store : Stored) (new : Putting) → standing_of (record r { store = store; putting = new }) ≡ scope_laid g (standing_of r)
    → HoldStill r.putting.buffers new.buffers → IsSteady p r → IsSteady p (record r { store = store; putting = new })
laid_steady p r g store new is holds h =
    let s = standing_of r in
    let bs = new.buffers.buffers in
    let counts : map length store ≡ slice_set s.copies g (unwrap_or (slice_get s.copies g) 0 + 1) = ap (λ (x : Standing). x.copies) is in
    let shelves : map shelf_of bs ≡ laid_all g s.shelves = ap (λ (x : Standing). x.shelves) is in
    let targets : reverse new.targets ≡ s.targets = ap (λ (x : Standing). x.targets) is in
    record {
      sheet = h.sheet;
      limits = h.limits;
      sound = h.sound;
      program = h.program;
      places = h.places;
      groups = sym (length-map store length) ∙ ap length counts ∙ set_long s.copies g (unwrap_or (slice_get s.copies g) 0 + 1) ∙ length-map r.store length ∙ h.groups;
      buffers =
          sym (length-map bs shelf_of) ∙ ap length shelves ∙ length-map s.shelves (in_group (λ us. Free ∷ us) g) ∙ length-map r.putting.buffers.buffers shelf_of ∙ h.buffers;
      source = h.source;
      outer = h.outer;
      shallow = h.shallow;
      written = subst (λ (x : Standing). AreWritten x.targets x.shelves) (sym is) (laid_written g s.targets s.shelves h.written);
      copied = subst (λ (x : Standing). All (λ n. 0 < n) x.copies) (sym is) (more_copied s.copies g h.copied);
      shelved = subst (λ (x : Standing). All HasCopy x.shelves) (sym is) (laid_copied g s.shelves h.shelved);
      within =
          subst (λ (x : Standing). TellWithin (reverse r.frames.frames) (rooms_of r) x.shelves) (sym is)
          (tells_alike (reverse r.frames.frames) (rooms_of r) s.shelves (laid_all g s.shelves) (reads_laid g s.shelves) h.within);
      deep = holds.deep p.buffer_depth h.deep;
      sections = holds.sections h.sections;
      aside = h.aside;
    }

-- the newest copy of the group has no variables
pub laid_newest : (store : Stored) (g : ℕ) → g < length store → newest (on_group (λ cs. [] ∷ cs) g store) g ≡ []
laid_newest store g less = ap (λ o. copies.newest (unwrap_or o [])) (set_here store g ([] ∷ copies_of store g) less)

-- the variables that are made behind it
pub lays_scope : (g : ℕ) (a b c : Run) → b ≡ record a { store = b.store; putting = b.putting } → standing_of b ≡ scope_laid g (standing_of a)
    → HoldStill a.putting.buffers b.putting.buffers → OnlyStores b c → LaysScope g a c
lays_scope g a b c rest is holds o = record {
  rest =
      o.rest ∙ ap (λ (r : Run). record r { store = c.store }) rest
      ∙ ap (λ pu. record a { store = c.store; putting = pu }) (sym (ap (λ (r : Run). r.putting) o.rest));
  standing = ap standing_of o.rest ∙ ap (λ ns. record (standing_of b) { copies = ns }) o.copies ∙ is;
  holds = subst (λ (r : Run). HoldStill a.putting.buffers r.putting.buffers) (sym o.rest) holds;
}

-- Copies that are taken off.

pub leaves_scope : (r : Run) (g : ℕ) (store : Stored) (b : Buffers) → store ≡ on_group taken_off g r.store
    → b ≡ buffers.on_group buffers.taken_off g r.putting.buffers → LeavesScope g r (record r { store = store; putting = record r.putting { buffers = b } })
leaves_scope r g store b stored is =
    let s = standing_of r in
    record {
      rest = refl;
      store = stored;
      buffers = is;
      targets = refl;
      standing =
          ap (λ ns. record s { copies = ns; shelves = map shelf_of b.buffers }) (ap (map length) stored ∙ left_counts r.store g)
          ∙ ap (λ ss. record (scope_over true g s) { shelves = ss }) (ap (λ (x : Buffers). map shelf_of x.buffers) is ∙ left_shelves g r.putting.buffers.buffers);
      holds = group_off r.putting.buffers b g is;
    }

one_only : (held : List Kept) (st : State) → IsLaidOver (usage_by held st ∷ []) → ⊥
one_only held Shut h = h
one_only held (Writing target) h = h
one_only held Reading h = h

newest_shut : (held : List Kept) (st : State) (u : Usage) (us : List Usage) → IsLaidOver (usage_by held st ∷ u ∷ us) → (if is_shut st then None else Some fault.Busy) ≡ None
newest_shut held Shut u us h = refl
newest_shut held (Writing target) u us h = absurd h
newest_shut held Reading u us h = absurd h

laid_over : (declared : List Kept) (cs : List Layer) → IsLaidOver (map (usage_of declared) cs) → (1 < length cs) × (option_and_then busy (buffers.newest cs) ≡ None)
laid_over declared [] h = absurd h
laid_over declared (c ∷ []) h = absurd (one_only (contents declared c) c.state h)
laid_over declared (c ∷ d ∷ cs) h = (omega arith, newest_shut (contents declared c) c.state (usage_of declared d) (map (usage_of declared) cs) h)

pub can_take_off : (r : Run) (g : ℕ) → CanTakeOff g (standing_of r) → (1 < length (copies_of r.store g)) × buffers.CanTakeOff g r.putting.buffers
can_take_off r g h = (
  subst (λ n. 1 < n) (count_at r.store g) h.0,
  λ x there is.
      let bs = r.putting.buffers.buffers in
      let P : Shelf → Type 0 = λ (y : Shelf). y.group ≡ g → IsLaidOver y.copies in
      let at : get_or (map shelf_of bs) there.0 (shelf_of x) ≡ shelf_of x = get_or-map shelf_of bs there.0 x (shelf_of x) there.1 ∙ ap shelf_of there.2 in
      let over : P (shelf_of x) = subst P at (h.1 there.0 (shelf_of x) (omega (arith, there.1, length-map bs shelf_of))) in
      laid_over x.declared x.copies (over is),
)

-- the variable at a place
pub same_variable : (vs ws : List Variable) (k : ℕ) (v w : Variable) → ws ≡ vs → k < length vs → w ≡ get_or ws k w → slice_get vs k ≡ Some v → w ≡ v
same_variable vs ws k v w all less is at = one w v (sym (variable_at vs ws k w all less is) ∙ at) where
  one : (x y : Variable) → Some x ≡ Some y → x ≡ y
  one x y e = cc

pub is_made : (r : Run) (new : Stored) (v w : Variable) (name : Name) (value : List Atom) → w ≡ v → name ≡ w.name
    → new ≡ on_group (on_newest (λ bs. bs ++ bound name value ∷ [])) w.group r.store → IsMade v r (record r { store = new })
is_made r new v w name value same called is = record {
  value = value;
  rest =
      ap (λ st. record r { store = st })
      (is ∙ ap (λ n. on_group (on_newest (λ bs. bs ++ bound n value ∷ [])) w.group r.store) called
      ∙ ap (λ (x : Variable). on_group (on_newest (λ bs. bs ++ bound x.name value ∷ [])) x.group r.store) same);
}
