-- An element that is no declaration is at its end: it stands in its list.
use Rattle.std.proofs.Common.{◌≡◌, ◌≤◌, ℕ, Bool, true, false, ◌||◌, List, [], ◌∷◌, ◌++◌, length, map, reverse, take, Option, refl, ap, sym, ◌∙◌, arith, if◌then◌else◌}
use Rattle.std.proofs.Math.Path.{subst}
use Rattle.std.proofs.lemmas.Grind.{flat_map-append}
use Rattle.std.proofs.lemmas.List.{append-nil, append_assoc, take-append-le}
use Rattle.std.specs.List.{flat_map, list_any}
use Rattle.std.specs.Option.{option_map}
use Rattle.stxpath_syntax.specs.declared.dialect.Dialect.TheVariants.{One}
use Rattle.stx_base.specs.declared.fault.Place.{Place}
use Rattle.stx_base.specs.declared.name.Binding.{Binding}
use Rattle.stx_base.specs.declared.name.Name.{Name}
use Rattle.stx_base.specs.declared.part.Part.{Part}
use Rattle.sheet_model.specs.Names.{is_among, is_same}
use Rattle.sheet_model.specs.declared.instr.WithParam.{WithParam}
use Rattle.xml_events.specs.Tree.{End, Future, Mark}
use Rattle.sheet_loader.proofs.Adding.{changed, fit_added, level_more, none_of, plain_given, plain_locals}
use Rattle.sheet_loader.proofs.Closing.{element_end_comes, element_frame, group_around, is_allowed_there, is_no_buffer, items_alone, items_at_end, its_inside, its_own, its_place, its_place_is, its_scope_is, its_tag, no_parts_left, none_but_buffer, outer, place_around, sound_outer}
use Rattle.sheet_loader.proofs.ElementEnds.{adds_to_list, brought_by, ends_there, given_by, locals_of_item, values_of_element}
use Rattle.sheet_loader.proofs.ElementLists.{allowed_apart, among_both, with_name-longer}
use Rattle.sheet_loader.proofs.KnownLemmas.{among-with}
use Rattle.sheet_loader.proofs.Leaving.{goes_behind, loading_left, version_known}
use Rattle.sheet_loader.proofs.Places.{place_with}
use Rattle.sheet_loader.proofs.Resuming.{answer_then, equal_answer}
use Rattle.sheet_loader.specs.Drafts.{file_around, level_in, levels_in, levels_of, loading_of, parts_around}
use Rattle.sheet_loader.specs.Elements as element
use Rattle.sheet_loader.specs.Elements.{Before, Inside, Document, Declarations, Start_of_body, Body, Branches, With_params, Characters, Parts, Nothing, is_allowed, is_include, is_transform, makes_group}
use Rattle.sheet_loader.specs.Events.{TakesItems, stage_of, stage_within}
use Rattle.sheet_loader.specs.Gathering.{values_in}
use Rattle.sheet_loader.specs.Judging.{is_declared_here, locals_at, scope_at}
use Rattle.sheet_loader.specs.Keys.{name_of, names_in, own_of, with_name}
use Rattle.sheet_loader.specs.Known.{AreGiven, Known, Knows, behind_item, known}
use Rattle.sheet_loader.specs.Levels.{Place_in, with_items}
use Rattle.sheet_loader.specs.Making.{Values as Read_values, bare, item, local_of_item, locals_of, name, select, values_of_item, with_params}
use Rattle.sheet_loader.specs.Meant.{before_of, inside_of, item_of, kind_of, version_of}
use Rattle.sheet_loader.specs.Named.{names_of}
use Rattle.sheet_loader.specs.Reading as reading
use Rattle.sheet_loader.specs.Reading.{Context, File, place}
use Rattle.sheet_loader.specs.Remaining.{Reads_on, goes_on, remaining, version_by}
use Rattle.sheet_loader.specs.Resuming.{SameAnswer}
use Rattle.sheet_loader.specs.Sound.{AreFit, IsFit, IsSound, IsSoundWithin, is_of_parts, is_outside}
use Rattle.sheet_loader.specs.Steps.{AddsItem, AddsItems, AddsToList, Brings, given_behind, lacks_branches}
use Rattle.sheet_loader.specs.Values.{Reads}
use Rattle.sheet_loader.specs.Versions.{Version}
use Rattle.sheet_loader.specs.declared.declared.Own.{Own}
use Rattle.sheet_loader.specs.declared.draft.Draft.{Draft}
use Rattle.sheet_loader.specs.declared.frame.Frame.{Frame}
use Rattle.sheet_loader.specs.declared.frame.OpenFile.{OpenFile}
use Rattle.sheet_loader.specs.declared.kind.Kind.{Kind}
use Rattle.sheet_loader.specs.declared.names.NameSet.{NameSet}
use Rattle.sheet_loader.specs.declared.register.Register.{Register}
use Rattle.sheet_loader.specs.declared.values.Values.{Values}

-- what an item brings into scope is that of its list
one_local : (x : reading.Item) → locals_of (x ∷ []) ≡ local_of_item x
one_local x = append-nil (local_of_item x)

one_value : (x : reading.Item) → with_params (x ∷ []) ≡ values_of_item x
one_value x = append-nil (values_of_item x)

given_more : (given : List Name) (before : List reading.Item) (x : reading.Item) (p : WithParam) → values_of_item x ≡ p ∷ [] → AreGiven given before → AreGiven (with_name given (bare p.name)) (before ++ x ∷ [])
given_more given before x p e h = λ n.
    among-with given (bare p.name) n
    ∙ ap (λ b. b || is_same p.name n) (h n)
    ∙ sym (any_more (λ (q : WithParam). is_same q.name n) (with_params before) p)
    ∙ ap (list_any (λ (q : WithParam). is_same q.name n)) (ap (λ l. with_params before ++ l) (sym (one_value x ∙ e)) ∙ sym (flat_map-append values_of_item before (x ∷ [])))
  where
    any_more : {A : Type 0} (t : A → Bool) (xs : List A) (y : A) → list_any t (xs ++ y ∷ []) ≡ (list_any t xs || t y)
    any_more t [] y = of (t y) where
      of : (b : Bool) → (b || false) ≡ b
      of true = refl
      of false = refl
    any_more t (x ∷ xs) y = ap (λ b. t x || b) (any_more t xs y) ∙ of (t x) (list_any t xs) (t y) where
      of : (a b c : Bool) → (a || (b || c)) ≡ ((a || b) || c)
      of true b c = refl
      of false b c = refl

-- the parameters that have a value, with that of an item
pub given_by_item : (kind : element.Kind) (given : List Name) (before : List reading.Item) (x : reading.Item) (v : Read_values) → values_of_item x ≡ given_by kind v → AreGiven given before
    → AreGiven (given_behind kind (bare (name v)) given) (before ++ x ∷ [])
given_by_item element.WithParam given before x v e h = given_more given before x (record { name = name v; select = select v }) e h
given_by_item other given before x v e h = plain_given given before x e h

locals_more : (locals : List Name) (here : Context) (before : List reading.Item) (x : reading.Item) (m : Name) → local_of_item x ≡ m ∷ []
    → ((n : Name) → is_among locals n ≡ is_among (locals_at here before) n)
    → (n : Name) → is_among (with_name locals (bare m)) n ≡ is_among (locals_at here (before ++ x ∷ [])) n
locals_more locals here before x m e h n =
    among-with locals (bare m) n
    ∙ ap (λ b. b || is_same m n) (h n)
    ∙ ap (λ b. is_among (locals_at here before) n || b) (sym (of (is_same m n)))
    ∙ sym (among_both (locals_at here before) (m ∷ []) n)
    ∙ ap (λ l. is_among l n) (append_assoc here.locals (locals_of before) (m ∷ []) ∙ ap (λ l. here.locals ++ (locals_of before ++ l)) (sym (one_local x ∙ e)) ∙ ap (λ l. here.locals ++ l) (sym (flat_map-append local_of_item before (x ∷ []))))
  where
    of : (b : Bool) → (b || false) ≡ b
    of true = refl
    of false = refl

-- the locals in scope behind an item
pub locals_by_item : (kind : element.Kind) (k : Known) (here : Context) (before : List reading.Item) (x : reading.Item) (v : Read_values) → local_of_item x ≡ brought_by kind v
    → ((n : Name) → is_among k.locals n ≡ is_among (locals_at here before) n)
    → (n : Name) → is_among (behind_item kind (bare (name v)) k).locals n ≡ is_among (locals_at here (before ++ x ∷ [])) n
locals_by_item element.Variable k here before x v e h n = locals_more k.locals here before x (name v) e h n
locals_by_item element.Param k here before x v e h n = locals_more k.locals here before x (name v) e h n
locals_by_item other k here before x v e h n = h n ∙ ap (λ l. is_among l n) (sym (plain_locals here before x e))

-- an item changes nothing else of what is known
same_declares : (kind : element.Kind) (n : Name) (k : Known) → (behind_item kind n k).declares ≡ k.declares
same_declares element.Variable n k = refl
same_declares element.Param n k = refl
same_declares other n k = refl

same_references : (kind : element.Kind) (n : Name) (k : Known) → (behind_item kind n k).references ≡ k.references
same_references element.Variable n k = refl
same_references element.Param n k = refl
same_references other n k = refl

locals_longer : (kind : element.Kind) (n : Name) (k : Known) → length k.locals ≤ length (behind_item kind n k).locals
locals_longer element.Variable n k = with_name-longer k.locals n
locals_longer element.Param n k = with_name-longer k.locals n
locals_longer other n k = omega arith

first_of_more : (many : ℕ) (names : List Name) (n : Name) → many ≤ length names → take many (with_name names n) ≡ take many names
first_of_more many names n le = of (is_among names n) where
  of : (b : Bool) → take many (if b then names else names ++ n ∷ []) ≡ take many names
  of true = refl
  of false = take-append-le many names (n ∷ []) le

locals_first : (kind : element.Kind) (n : Name) (k : Known) (many : ℕ) → many ≤ length k.locals → take many (behind_item kind n k).locals ≡ take many k.locals
locals_first element.Variable n k many le = first_of_more many k.locals n le
locals_first element.Param n k many le = first_of_more many k.locals n le
locals_first other n k many le = refl

module _ (group : ℕ) (at : Place) (scope : List Binding) (v : Read_values) (items : List reading.Item) where
  -- an element that comes to no item brings no name along
  brings_nothing : (kind : element.Kind) (n : Name) (k : Known) (given : List Name) → item kind group at scope v items ≡ [] → (behind_item kind n k ≡ k) × (given_behind kind n given ≡ given)
  brings_nothing element.Variable n k given e = cc
  brings_nothing element.Param n k given e = cc
  brings_nothing element.WithParam n k given e = cc
  brings_nothing other n k given e = (refl, refl)

  transform_nothing : (kind : element.Kind) → is_transform kind ≡ true → item kind group at scope v items ≡ []
  transform_nothing element.Transform e = refl
  transform_nothing other e = cc

  -- an item stands in a list of a body, of branches or of values for parameters
  item_inside : (i : Inside) (b : Before) (kind : element.Kind) (x : reading.Item) → is_allowed i b kind ≡ true → is_declared_here i ≡ false → item kind group at scope v items ≡ x ∷ [] → is_outside i ≡ false
  item_inside (Document c) b kind x e d h = let z : [] ≡ x ∷ [] = sym (transform_nothing kind e) ∙ h in cc
  item_inside (Declarations c) b kind x e d h = cc
  item_inside Start_of_body b kind x e d h = refl
  item_inside Body b kind x e d h = refl
  item_inside Branches b kind x e d h = refl
  item_inside With_params b kind x e d h = refl
  item_inside (Characters c) b kind x e d h = refl
  item_inside Parts b kind x e d h = cc
  item_inside Nothing b kind x e d h = refl

  -- an element whose name isn't kept brings none along
  unnamed : (kind : element.Kind) (m n : Name) (k : Known) (given : List Name) → ((makes_group kind || is_include kind) ≡ false → m ≡ n) → (behind_item kind m k ≡ behind_item kind n k) × (given_behind kind m given ≡ given_behind kind n given)
  unnamed element.Variable m n k given e = (ap (λ x. behind_item element.Variable x k) (e refl), refl)
  unnamed element.Param m n k given e = (ap (λ x. behind_item element.Param x k) (e refl), refl)
  unnamed element.WithParam m n k given e = (refl, ap (λ x. given_behind element.WithParam x given) (e refl))
  unnamed other m n k given e = (refl, refl)

module _ (d made new : Draft) (x : reading.Item) (kind : element.Kind) (v : Read_values) (sound : IsSound d) (adds : AddsItem x d made) (brings : Brings kind (bare (name v)) made new)
    (gives : values_of_item x ≡ given_by kind v) (locals : local_of_item x ≡ brought_by kind v)
    (inner : is_outside (inside_of d.top.inside) ≡ false) (apart : is_of_parts (inside_of d.top.inside) ≡ false) where
  abbrev after : Draft
  after = record d { register = new.register; top = changed d.top made.top.inside made.top.items made.top.before new.top.given }

  is_after : new ≡ after
  is_after = brings.others ∙ ap (λ (m : Draft). record m { register = new.register; top = record m.top { given = new.top.given } }) adds.others

  known_is : known new.register ≡ behind_item kind (bare (name v)) (known d.register)
  known_is = brings.known ∙ ap (λ m. behind_item kind (bare (name v)) (known m.register)) adds.others

  given_is : names_in new.top.given ≡ given_behind kind (bare (name v)) (names_in d.top.given)
  given_is = brings.given ∙ ap (λ m. given_behind kind (bare (name v)) (names_in m.top.given)) adds.others

  sound_after : IsSound after
  sound_after = record {
    frames = fit_added d.top (reverse d.below.items) d.file d.parts (known d.register).locals (known new.register).locals x made.top.inside made.top.items made.top.before new.top.given
        sound.frames adds.inside adds.before adds.items
        (λ before g. subst (λ l. AreGiven l (before ++ x ∷ [])) (sym given_is) (given_by_item kind (names_in d.top.given) before x v gives g))
        (λ here before h n. ap (λ k. is_among k.locals n) known_is ∙ locals_by_item kind (known d.register) here before x v locals h n)
        (subst (λ k. d.top.locals ≤ length k.locals) (sym known_is) brought)
        (ap (λ k. take d.top.locals k.locals) known_is ∙ locals_first kind (bare (name v)) (known d.register) d.top.locals (sound.frames.0 [] [] (record { dialect = One; is_known = false })).brought)
        inner apart;
    version = sound.version;
    declares = subst (λ k. Knows k (loading_of d).sheet) (sym (ap (λ k. k.declares) known_is ∙ same_declares kind (bare (name v)) (known d.register))) sound.declares;
    files = record { known = sound.files.known; kept = sound.files.kept };
  } where
    brought : d.top.locals ≤ length (behind_item kind (bare (name v)) (known d.register)).locals
    brought =
        let h = (sound.frames.0 [] [] (record { dialect = One; is_known = false })).brought in
        let g = locals_longer kind (bare (name v)) (known d.register) in
        omega (arith, h, g)

  pub item_sound : IsSound new
  item_sound = subst IsSound (sym is_after) sound_after

  pub item_takes : TakesItems (x ∷ []) d new
  item_takes = record {
    levels = ap levels_of is_after ∙ ap (λ l. l ∷ levels_in (reverse d.below.items) (file_around d.top.opened d.top.around d.file) (parts_around d.top.opened d.top.parts d.parts))
        (level_more d.top (reverse d.below.items) d.file d.parts (known d.register).locals (known d.register).locals x made.top.inside made.top.items made.top.before new.top.given adds.items
        (none_of d.top (reverse d.below.items) d.file d.parts (known d.register).locals sound.frames apart));
    loading = ap loading_of is_after ∙ ap (λ l. record (loading_of d) { references = l }) (ap (λ k. k.references) known_is ∙ same_references kind (bare (name v)) (known d.register));
    version = ap (λ m. m.file.version) is_after;
  }

-- the same draft, with names that are the same
same_sound : (d : Draft) (r : Register) (given : NameSet) → known r ≡ known d.register → names_in given ≡ names_in d.top.given → IsSound d → IsSound (record d { register = r; top = record d.top { given = given } })
same_sound d r given register names sound = record {
  frames = subst (λ k. AreFit (record d.top { given = given } ∷ reverse d.below.items) d.file d.parts k.locals) (sym register)
      ((λ file_names files version. given_too (sound.frames.0 file_names files version)), sound.frames.1);
  version = sound.version;
  declares = subst (λ k. Knows k.declares (loading_of d).sheet) (sym register) sound.declares;
  files = record { known = sound.files.known; kept = sound.files.kept };
} where
  given_too : {frames : List Frame} {file : OpenFile} {parts : List Part} {locals : List Name} {inner around : Place_in} → IsFit d.top frames file parts locals inner around → IsFit (record d.top { given = given }) frames file parts locals inner around
  given_too {inner = inner} h = record {
    stands = h.stands;
    bottom = h.bottom;
    inside = h.inside;
    before = h.before;
    at = h.at;
    group = h.group;
    pass = h.pass;
    number = h.number;
    scope = h.scope;
    declared = h.declared;
    given = subst (λ l. AreGiven l inner.before) (sym names) h.given;
    locals = h.locals;
    brought = h.brought;
    outside = h.outside;
    parts = h.parts;
    no_parts = h.no_parts;
    parts_alone = h.parts_alone;
  }

same_levels : (d : Draft) (given : NameSet) → levels_of (record d { top = record d.top { given = given } }) ≡ with_items [] (levels_of d)
same_levels d given = ap (λ l. record (level_in d.top d.file d.parts) { before = l } ∷ levels_in (reverse d.below.items) (file_around d.top.opened d.top.around d.file) (parts_around d.top.opened d.top.parts d.parts)) (sym (append-nil (level_in d.top d.file d.parts).before))

-- an item that there is, or none
item_or_none : (kind : element.Kind) (group : ℕ) (at : Place) (scope : List Binding) (v : Read_values) (items : List reading.Item) (P : List reading.Item → Type 0)
    → (item kind group at scope v items ≡ [] → P []) → ((x : reading.Item) → item kind group at scope v items ≡ x ∷ [] → P (x ∷ [])) → P (item kind group at scope v items)
item_or_none element.Transform group at scope v items P none one = none refl
item_or_none element.Group group at scope v items P none one = none refl
item_or_none element.Template group at scope v items P none one = none refl
item_or_none element.Procedure group at scope v items P none one = none refl
item_or_none element.Include group at scope v items P none one = none refl
item_or_none element.Buffer group at scope v items P none one = none refl
item_or_none other group at scope v items P none one = one _ refl

module _ (f0 : Frame) (d made new : Draft) (r : Register) (kind : Kind) (v : Values) (own : Own) (sound : IsSoundWithin (element_frame f0 d r kind v own) d)
    (leaves : known r ≡ record (known d.register) { locals = take f0.locals (known d.register).locals })
    (ends : AddsToList (kind_of kind) d.top.group (its_place f0 d r kind v own) (values_in v) (own_of own) (map item_of f0.items) (record d { register = r }) made)
    (is : new ≡ record made { file = record made.file { scope = take f0.around made.file.scope } })
    (listed : is_declared_here (inside_of d.top.inside) ≡ false) where
  abbrev k : element.Kind
  k = kind_of kind

  abbrev around : Draft
  around = outer f0 d r kind v own sound leaves

  abbrev items : List reading.Item
  items = map item_of f0.items

  -- what it comes to
  abbrev pub made_item : List reading.Item
  made_item = item k d.top.group (its_place f0 d r kind v own) d.file.scope (values_in v) items

  abbrev scoped : Draft → Draft
  scoped x = record x { file = record x.file { scope = take f0.around x.file.scope } }

  no_parts : take f0.parts d.parts ≡ d.parts
  no_parts = no_parts_left f0 d r kind v own sound leaves ∙ sym (none_but_buffer f0 d r kind v own sound leaves (is_no_buffer f0 d r kind v own sound leaves listed))

  left_is : scoped (record d { register = r }) ≡ around
  left_is = ap (λ l. record (scoped (record d { register = r })) { parts = l }) (sym no_parts)

  outer_sound : IsSound around
  outer_sound = sound_outer f0 d r kind v own sound leaves

  own_is : (makes_group k || is_include k) ≡ false → name_of own.name ≡ bare (name (values_in v))
  own_is e = ap (λ o. o.name) (its_own f0 d r kind v own sound leaves [] [] (record { dialect = One; is_known = false }) e)

  -- the same of the draft without the declarations of the element
  adds_scoped : (x : reading.Item) (m : Draft) → AddsItem x (record d { register = r }) m → AddsItem x around (scoped m)
  adds_scoped x m a = record {
    before = a.before;
    inside = a.inside;
    items = a.items;
    others = ap scoped a.others ∙ ap (λ (y : Draft). record y { top = record y.top { inside = m.top.inside; items = m.top.items; before = m.top.before } }) left_is;
  }

  brings_scoped : (m : Draft) → Brings k (name_of own.name) m made → Brings k (bare (name (values_in v))) (scoped m) new
  brings_scoped m b =
      let same = unnamed d.top.group (its_place f0 d r kind v own) d.file.scope (values_in v) items k (name_of own.name) (bare (name (values_in v))) (known m.register) (names_in m.top.given) own_is in
      subst (Brings k (bare (name (values_in v))) (scoped m)) (sym is)
      (record {
        known = b.known ∙ same.0;
        given = b.given ∙ same.1;
        others = ap scoped b.others;
      })

  apart : is_of_parts (inside_of d.top.inside) ≡ false
  apart = allowed_apart (inside_of d.top.inside) (before_of d.top.before) k (is_allowed_there f0 d r kind v own sound leaves)

  abbrev Ended : List reading.Item → Type 0
  Ended l = (IsSound new) × (TakesItems l around new)

  nothing_ends : made_item ≡ [] → AddsItems [] (record d { register = r }) ends.made → Ended []
  nothing_ends e adds =
      let none = brings_nothing d.top.group (its_place f0 d r kind v own) d.file.scope (values_in v) items k (bare (name (values_in v))) (known r) (names_in d.top.given) e in
      let b = brings_scoped ends.made ends.brings in
      let before : scoped ends.made ≡ around = ap scoped adds ∙ left_is in
      let register : known new.register ≡ known r = b.known ∙ ap (λ m. behind_item k (bare (name (values_in v))) (known m.register)) before ∙ none.0 in
      let given : names_in new.top.given ≡ names_in d.top.given = b.given ∙ ap (λ m. given_behind k (bare (name (values_in v))) (names_in m.top.given)) before ∙ none.1 in
      let is_new : new ≡ record around { register = new.register; top = record around.top { given = new.top.given } } = b.others ∙ ap (λ (m : Draft). record m { register = new.register; top = record m.top { given = new.top.given } }) before in (
        subst IsSound (sym is_new) (same_sound around new.register new.top.given register given outer_sound),
        record {
          levels = ap levels_of is_new ∙ same_levels around new.top.given;
          loading = ap loading_of is_new ∙ ap (λ l. record (loading_of around) { references = l.references }) register;
          version = ap (λ m. m.file.version) is_new;
        },
      )

  item_ends : (x : reading.Item) → made_item ≡ x ∷ [] → AddsItem x (record d { register = r }) ends.made → Ended (x ∷ [])
  item_ends x e adds =
      let inner = item_inside d.top.group (its_place f0 d r kind v own) d.file.scope (values_in v) items (inside_of d.top.inside) (before_of d.top.before) k x (is_allowed_there f0 d r kind v own sound leaves) listed e in
      let gives = sym (one_value x) ∙ ap with_params (sym e) ∙ values_of_element d.top.group (its_place f0 d r kind v own) d.file.scope (values_in v) items k in
      let locals = sym (one_local x) ∙ ap locals_of (sym e) ∙ locals_of_item d.top.group (its_place f0 d r kind v own) d.file.scope (values_in v) items k in
      let a = adds_scoped x ends.made adds in
      let b = brings_scoped ends.made ends.brings in (
        item_sound around (scoped ends.made) new x k (values_in v) outer_sound a b gives locals inner apart,
        item_takes around (scoped ends.made) new x k (values_in v) outer_sound a b gives locals inner apart,
      )

  all_ends : Ended made_item
  all_ends =
      item_or_none k d.top.group (its_place f0 d r kind v own) d.file.scope (values_in v) items (λ l. AddsItems l (record d { register = r }) ends.made → Ended l) nothing_ends item_ends ends.adds

  pub list_end_sound : IsSound new
  list_end_sound = all_ends.0

  pub list_end_files : names_of new ≡ names_of d
  list_end_files = ap (λ l. l.sheet.files) all_ends.1.loading

  pub list_end_answer : (reads : Reads) (files : List (Option File)) (mark : Mark) (offset : ℕ) (f : Future)
      → lacks_branches k items ≡ false
      → SameAnswer reads files (remaining reads files (Reads_on (stage_within (element_frame f0 d r kind v own) d)) (End mark offset ∷ f)) (remaining reads files (Reads_on (stage_of new)) f)
  list_end_answer reads files mark offset f branched =
      let names = (loading_of d).sheet.files in
      let found = items_at_end f0 d r kind v own sound leaves in
      let alone : found ≡ items = items_alone f0 d r kind v own sound leaves (is_no_buffer f0 d r kind v own sound leaves listed) in
      let v1 = version_by (option_map version_of d.file.version) (End mark offset ∷ f) in
      let v2 = version_by (option_map version_of d.file.version) f in
      let q : Version → Place_in = λ w. place_around f0 d r kind v own sound leaves names files w in
      let e = its_tag f0 d r kind v own sound leaves in
      answer_then reads files (element_end_comes f0 d r kind v own sound leaves reads files mark offset f)
      (equal_answer reads files
      (ap (λ l. ends_there reads files (q v1) e k (values_in v) l (loading_of d) f) alone
      ∙ adds_to_list reads files (q v1) e k (values_in v) items (loading_of d) f branched (sym (its_inside f0 d r kind v own sound leaves names files v1) ∙ listed)
      ∙ ap (λ g. goes_on reads files (place_with (item k g (place (q v1).here f0.at) (scope_at (q v1).here e) (values_in v) items) (q v1)) (loading_of d) f) (sym (group_around f0 d r kind v own sound leaves names files v1))
      ∙ ap (λ p. goes_on reads files (place_with (item k d.top.group p (scope_at (q v1).here e) (values_in v) items) (q v1)) (loading_of d) f) (its_place_is f0 d r kind v own sound leaves names files v1)
      ∙ ap (λ s. goes_on reads files (place_with (item k d.top.group (its_place f0 d r kind v own) s (values_in v) items) (q v1)) (loading_of d) f) (its_scope_is f0 d r kind v own sound leaves names files v1)
      ∙ ap (λ w. goes_on reads files (place_with made_item (q w)) (loading_of d) f) (version_known d.file.version (End mark offset ∷ f) f sound.version)
      ∙ ap (λ l. goes_on reads files (place_with made_item (q v2)) l f) (sym (loading_left (element_frame f0 d r kind v own) d r sound leaves))
      ∙ goes_behind reads files around new made_item all_ends.1 f))
