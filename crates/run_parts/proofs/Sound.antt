-- Nodes and parts that are sound, and instructions that are in order.
use Rattle.std.proofs.Common.{◌≡◌, ℕ, Bool, true, false, not, ◌&&◌, ◌||◌, if◌then◌else◌, List, [], ◌∷◌, map, refl}
use Rattle.std.specs.Prelude.{filter}
use Rattle.std.specs.List.{list_all}
use Rattle.std.proofs.lemmas.Bool.{and_from, and_parts}
use Rattle.stx_base.specs.Character.{is_cdata_text}
use Rattle.stx_base.specs.declared.name.Attr.{Attr}
use Rattle.stx_base.specs.declared.name.Binding.{Binding}
use Rattle.stx_base.specs.declared.name.Name.{Name}
use Rattle.stx_base.specs.declared.part.Part.{Part}
use Rattle.stx_base.specs.declared.part.Part.TheVariants as part
use Rattle.node_stack.specs.Path.{Node, Document, Element, Chars, CData, Comment, Pi, Attribute}
use Rattle.result_writer.specs.Allowed.{is_empty}
use Rattle.result_writer.specs.Table.{has_prefix, in_order, placed, precedes}
use Rattle.sheet_model.specs.declared.pass.Kinds.{Kinds}
use Rattle.xml_events.specs.Tree as tree
use Rattle.xml_events.specs.Tree.{Forest, End, Cut, Single, Nested}
use Rattle.template_machine.specs.Acting.{copy_parts}
use Rattle.template_machine.specs.Passing.{leaf_parts, parts_before, parts_behind, parts_if, start_parts}
use Rattle.template_machine.specs.Putting.{attribute_part, text_parts}
use Rattle.template_machine.specs.Trail.{Stand, Trail, above, current, leaf_node, scope_at, scope_of, scope_within, without_place}
use Rattle.run_parts.specs.Sound.{declares, holds_sections, is_part_of, is_sound_leaf}

-- Which bindings are good is a matter of what is asked.
module _ (good : Binding → Bool) where
  -- Bindings

  pub filter_good : (q : Binding → Bool) (bs : List Binding) → list_all good bs ≡ true → list_all good (filter q bs) ≡ true
  filter_good q [] h = refl
  filter_good q (b ∷ bs) h =
      let both = and_parts (good b) (list_all good bs) h in
      by_test (q b) both.0 (filter_good q bs both.1) where
        by_test : (t : Bool) → good b ≡ true → list_all good (filter q bs) ≡ true → list_all good (if t then b ∷ filter q bs else filter q bs) ≡ true
        by_test true is all = and_from _ _ is all
        by_test false is all = all

  placed_good : (b : Binding) (cs : List Binding) → good b ≡ true → list_all good cs ≡ true → list_all good (placed b cs) ≡ true
  placed_good b [] h k = and_from _ _ h refl
  placed_good b (c ∷ cs) h k =
      let both = and_parts (good c) (list_all good cs) k in
      by_test (precedes b.prefix c.prefix) (placed_good b cs h both.1) both.0 where
        by_test : (t : Bool) → list_all good (placed b cs) ≡ true → good c ≡ true → list_all good (if t then b ∷ c ∷ cs else c ∷ placed b cs) ≡ true
        by_test true all is = and_from _ _ h k
        by_test false all is = and_from _ _ is all

  pub order_good : (sorted bs : List Binding) → list_all good sorted ≡ true → list_all good bs ≡ true → list_all good (in_order sorted bs) ≡ true
  order_good sorted [] h k = h
  order_good sorted (b ∷ bs) h k =
      let both = and_parts (good b) (list_all good bs) k in order_good (placed b sorted) bs (placed_good b sorted both.0 h) both.1

  within_good : (scope decls : List Binding) → list_all good scope ≡ true → list_all good decls ≡ true → list_all good (scope_within scope decls) ≡ true
  within_good scope decls h k =
      order_good (filter (λ b. not (has_prefix decls b.prefix)) scope) (filter (λ b. not (is_empty b.uri)) decls) (filter_good _ scope h) (filter_good _ decls k)

  -- Nodes

  abbrev pub is_sound_node : Node → Bool
  is_sound_node (Element name attrs decls first) = list_all good decls
  is_sound_node (CData text) = is_cdata_text text
  is_sound_node n = true

  -- all nodes of a way are sound
  abbrev pub SoundTrail : List Stand → Type 0
  SoundTrail [] = Unit {0}
  SoundTrail (s ∷ ss) = (is_sound_node s.node ≡ true) × SoundTrail ss

  -- and all nodes of a list, and of the lists in it
  abbrev pub SoundList : Forest → Type 0
  SoundList (End m offset) = Unit {0}
  SoundList (Cut why) = Unit {0}
  SoundList (Single m leaf next) = (is_sound_leaf leaf ≡ true) × SoundList next
  SoundList (Nested stage e kids next) = (list_all good e.decls ≡ true) × (SoundList kids × SoundList next)

  pub sound_list : (f : Forest) → declares good f ≡ true → holds_sections f ≡ true → SoundList f
  sound_list (End m offset) h k = tt
  sound_list (Cut why) h k = tt
  sound_list (Single m leaf next) h k = let both = and_parts (is_sound_leaf leaf) (holds_sections next) k in (both.0, sound_list next h both.1)
  sound_list (Nested stage e kids next) h k =
      let b = and_parts (list_all good e.decls) (declares good kids && declares good next) h in
      let c = and_parts (declares good kids) (declares good next) b.1 in
      let d = and_parts (holds_sections kids) (holds_sections next) k in
      (b.0, (sound_list kids c.0 d.0, sound_list next c.1 d.1))

  pub sound_leaf_node : (leaf : tree.Leaf) → is_sound_leaf leaf ≡ true → is_sound_node (leaf_node leaf) ≡ true
  sound_leaf_node (tree.Chars offset text) h = refl
  sound_leaf_node (tree.CData offset text) h = h
  sound_leaf_node (tree.Comment offset text) h = refl
  sound_leaf_node (tree.Pi offset target text) h = refl

  pub sound_without_place : (leaf : tree.Leaf) → is_sound_leaf leaf ≡ true → is_sound_leaf (without_place leaf) ≡ true
  sound_without_place (tree.Chars offset text) h = refl
  sound_without_place (tree.CData offset text) h = h
  sound_without_place (tree.Comment offset text) h = refl
  sound_without_place (tree.Pi offset target text) h = refl

  pub sound_current : (trail : Trail) → SoundTrail trail → is_sound_node (current trail) ≡ true
  sound_current [] h = refl
  sound_current (s ∷ trail) h = h.0

  pub sound_above : (trail : Trail) → SoundTrail trail → SoundTrail (above trail)
  sound_above [] h = tt
  sound_above (s ∷ trail) h = h.1

  -- what is in force on such a way
  sound_at : (n : Node) (scope : List Binding) → is_sound_node n ≡ true → list_all good scope ≡ true → list_all good (scope_at n scope) ≡ true
  sound_at Document scope h k = k
  sound_at (Element name attrs decls first) scope h k = within_good scope decls k h
  sound_at (Chars text) scope h k = k
  sound_at (CData text) scope h k = k
  sound_at (Comment text) scope h k = k
  sound_at (Pi target text) scope h k = k
  sound_at (Attribute a) scope h k = k

  sound_scope : (trail : Trail) → SoundTrail trail → list_all good (scope_of trail) ≡ true
  sound_scope [] h = refl
  sound_scope (s ∷ trail) h = sound_at s.node (scope_of trail) h.0 (sound_scope trail h.1)

  -- Parts

  abbrev pub SoundParts : List Part → Type 0
  SoundParts [] = Unit {0}
  SoundParts (p ∷ ps) = (is_part_of good p ≡ true) × SoundParts ps

  pub sound_attrs : (attrs : List Attr) → SoundParts (map attribute_part attrs)
  sound_attrs [] = tt
  sound_attrs (a ∷ attrs) = (refl, sound_attrs attrs)

  pub sound_start : (trail : Trail) (name : Name) (attrs : List Attr) → SoundTrail trail → SoundParts (start_parts trail name attrs)
  sound_start trail name attrs h = (sound_scope trail h, sound_attrs attrs)

  pub sound_text : (text : List ℕ) → SoundParts (text_parts text)
  sound_text [] = tt
  sound_text (c ∷ cs) = (refl, tt)

  sound_if : (t : Bool) (ps : List Part) → SoundParts ps → SoundParts (parts_if t ps)
  sound_if false ps h = tt
  sound_if true ps h = h

  pub sound_leaf : (k : Kinds) (n : Node) → is_sound_node n ≡ true → SoundParts (leaf_parts k n)
  sound_leaf k Document h = tt
  sound_leaf k (Element name attrs decls first) h = tt
  sound_leaf k (Chars text) h = sound_if k.text (part.Chars text ∷ []) (refl, tt)
  sound_leaf k (CData text) h = sound_if (k.text || k.cdata) (part.CData text ∷ []) (h, tt)
  sound_leaf k (Comment text) h = sound_if k.comments (part.Comment text ∷ []) (refl, tt)
  sound_leaf k (Pi target text) h = sound_if k.instructions (part.Pi target text ∷ []) (refl, tt)
  sound_leaf k (Attribute a) h = sound_if k.attributes (attribute_part a ∷ []) (refl, tt)

  pub sound_before : (k : Kinds) (trail : Trail) (n : Node) → SoundTrail trail → SoundParts (parts_before k trail n)
  sound_before k trail Document h = tt
  sound_before k trail (Element name attrs decls first) h =
      let taken = if k.attributes then attrs else [] in sound_if k.elements (start_parts trail name taken) (sound_start trail name taken h)
  sound_before k trail (Chars text) h = tt
  sound_before k trail (CData text) h = tt
  sound_before k trail (Comment text) h = tt
  sound_before k trail (Pi target text) h = tt
  sound_before k trail (Attribute a) h = tt

  pub sound_behind : (k : Kinds) (n : Node) → SoundParts (parts_behind k n)
  sound_behind k Document = tt
  sound_behind k (Element name attrs decls first) = sound_if k.elements (part.End name ∷ []) (refl, tt)
  sound_behind k (Chars text) = tt
  sound_behind k (CData text) = tt
  sound_behind k (Comment text) = tt
  sound_behind k (Pi target text) = tt
  sound_behind k (Attribute a) = tt

  pub sound_copy : (n : Node) → is_sound_node n ≡ true → SoundParts (copy_parts n)
  sound_copy Document h = tt
  sound_copy (Element name attrs decls first) h = tt
  sound_copy (Chars text) h = sound_text text
  sound_copy (CData text) h = (h, tt)
  sound_copy (Comment text) h = (refl, tt)
  sound_copy (Pi target text) h = (refl, tt)
  sound_copy (Attribute a) h = (refl, tt)
