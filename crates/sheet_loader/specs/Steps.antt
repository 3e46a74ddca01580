-- The steps by which a draft takes an event.
use Rattle.std.specs.Prelude.{◌≡◌, ◌<◌, ◌==◌, ◌&&◌, ℕ, ◌-◌, Bool, true, false, List, [], ◌∷◌, ◌++◌, length, map, Option, Some, None, Result, Ok, Err, codes}
use Rattle.std.specs.Option.{option_map}
use Rattle.std.specs.declared.alloc.Global.{Global}
use Rattle.std.specs.declared.string.String.{String}
use Rattle.stx_base.specs.declared.fault.Place.{Place}
use Rattle.stx_base.specs.declared.fault.SheetCode.TheVariants as code
use Rattle.stx_base.specs.declared.name.Attr.{Attr}
use Rattle.stx_base.specs.declared.name.Binding.{Binding}
use Rattle.stx_base.specs.declared.name.Name.{Name}
use Rattle.stx_base.specs.declared.part.Part.{Part}
use Rattle.stx_base.specs.declared.part.Part.TheVariants as part
use Rattle.stxpath_syntax.specs.declared.dialect.Dialect.{Dialect}
use Rattle.sheet_model.specs.declared.instr.LiteralAttr.{LiteralAttr}
use Rattle.sheet_model.specs.declared.pass.Pass.{Pass}
use Rattle.sheet_model.specs.declared.pass.Pass.TheVariants as pass
use Rattle.sheet_model.specs.declared.sheet.Group.{Group}
use Rattle.sheet_model.specs.declared.sheet.Template.{Template}
use Rattle.sheet_loader.specs.Elements as element
use Rattle.sheet_loader.specs.Elements.{is_own}
use Rattle.sheet_loader.specs.Judging.{is_declared_here}
use Rattle.sheet_loader.specs.Keys.{Owned, names_in, with_name}
use Rattle.sheet_loader.specs.Known.{behind_item, known, with_declared, with_group, without_groups}
use Rattle.sheet_loader.specs.Making.{Values, as_name, as_priority, as_word, bare, behind, body, branches, is_yes, item, last_of, name, params, parts, pass_or, pattern, value_at, variable, visibility_of}
use Rattle.sheet_loader.specs.Meant.{before_of, inside_of, item_of}
use Rattle.sheet_loader.specs.Read.{is_choose, literal_attrs}
use Rattle.sheet_loader.specs.Reading.{File, Item}
use Rattle.sheet_loader.specs.Tags.{Found, path_fault}
use Rattle.sheet_loader.specs.Values.{Reads, A_template, read}
use Rattle.sheet_loader.specs.declared.draft.Draft.{Draft}
use Rattle.sheet_loader.specs.declared.refused.Refused.{Refused}
use Rattle.sheet_loader.specs.declared.refused.Refused.TheVariants as refused
use Rattle.sheet_loader.specs.declared.refused.Stop.{Stop}
use Rattle.sheet_loader.specs.declared.refused.Stop.TheVariants as stop

-- what the values of a literal element's attributes are read as
abbrev pub templates_in : Reads → Dialect → List Binding → List Attr → List Found
templates_in reads dialect scope attrs = map (λ a. Some (read A_template (reads.template dialect scope a.value))) attrs

-- a literal element's attributes are read, or the first fault is told
abbrev pub AreRead : Reads → Dialect → List Binding → List Attr → Result (List LiteralAttr) Refused → Type 0
AreRead reads dialect scope attrs (Ok made) =
    (path_fault (templates_in reads dialect scope attrs) ≡ None)
    × ((files : List (Option File)) → made ≡ literal_attrs reads files attrs (templates_in reads dialect scope attrs))
AreRead reads dialect scope attrs (Err (refused.Code why)) = path_fault (templates_in reads dialect scope attrs) ≡ Some why
AreRead reads dialect scope attrs (Err refused.Memory) = Unit {0}

-- one of them is read, or its fault is told
abbrev pub IsRead : Reads → Dialect → List Binding → Attr → Result LiteralAttr Refused → Type 0
IsRead reads dialect scope a (Ok made) =
    (made.name ≡ a.name) × (read A_template (reads.template dialect scope a.value) ≡ Ok (A_template made.value.parts))
IsRead reads dialect scope a (Err (refused.Code why)) = read A_template (reads.template dialect scope a.value) ≡ Err why
IsRead reads dialect scope a (Err refused.Memory) = Unit {0}

-- what an element of a buffer's content begins with
abbrev pub start_parts : Name → List Attr → List Part
start_parts name attrs = part.Start name [] ∷ map (λ (a : Attr). part.Attribute a.name a.value) attrs

-- the innermost list has an item more
pub record AddsItem (x : Item) (old new : Draft) : Type 0 where
  pub before : before_of new.top.before ≡ last_of (x ∷ [])
  pub inside : inside_of new.top.inside ≡ behind (inside_of old.top.inside) (x ∷ [])
  pub items : map item_of new.top.items ≡ map item_of old.top.items ++ x ∷ []
  pub others : new ≡ record old { top = record old.top { inside = new.top.inside; items = new.top.items; before = new.top.before } }

-- the innermost list has one item more, or none
abbrev pub AddsItems : List Item → Draft → Draft → Type 0
AddsItems [] old new = new ≡ old
AddsItems (x ∷ items) old new = AddsItem x old new

-- the last name of the files that are being read is taken off
abbrev pub LeavesName : Draft → Draft → Type 0
LeavesName old new = 0 < length old.reading.keys → (name : String Global) × (old.reading.keys ≡ new.reading.keys ++ name ∷ [])

-- the name of an item is in scope for what stands behind it, or has a value
abbrev pub given_behind : element.Kind → Name → List Name → List Name
given_behind element.WithParam n given = with_name given n
given_behind other n given = given

pub record Brings (kind : element.Kind) (n : Name) (old new : Draft) : Type 0 where
  pub known : known new.register ≡ behind_item kind n (known old.register)
  pub given : names_in new.top.given ≡ given_behind kind n (names_in old.top.given)
  pub others : new ≡ record old { register = new.register; top = record old.top { given = new.top.given } }

abbrev pub template_of : (group : ℕ) → Place → Values → List Item → Template
template_of group at v items = record {
  group = group;
  pattern = pattern (codes "match") v;
  priority = as_priority (value_at (codes "priority") v);
  visibility = visibility_of (as_word (value_at (codes "visibility") v));
  public = is_yes (value_at (codes "public") v);
  new_scope = is_yes (value_at (codes "new-scope") v);
  params = params items;
  body = body items;
  at = at;
}

-- what a declaration adds to the sheet; a buffer takes the parts
abbrev pub Declares : element.Kind → (group : ℕ) → Place → Values → List Item → Draft → Draft → Type 0
Declares element.Template group at v items old new =
    new ≡ record old { sheet = record old.sheet { templates = old.sheet.templates ++ template_of group at v items ∷ [] } }
Declares element.Procedure group at v items old new =
    new ≡ record old { sheet = record old.sheet { procedures = old.sheet.procedures ++ record { group = group; name = name v; params = params items; body = body items; at = at } ∷ [] } }
Declares element.Buffer group at v items old new =
    new ≡ record old { parts = []; sheet = record old.sheet { buffers = old.sheet.buffers ++ record { group = group; name = name v; content = old.parts; at = at } ∷ [] } }
Declares element.Variable group at v items old new =
    new ≡ record old { sheet = record old.sheet { variables = old.sheet.variables ++ variable group false at v ∷ [] } }
Declares element.Param group at v items old new =
    new ≡ record old { sheet = record old.sheet { variables = old.sheet.variables ++ variable group true at v ∷ [] } }
Declares other group at v items old new = new ≡ old

-- an element among declarations is at its end: it stands in the sheet, and its name is known
pub record AddsToSheet (kind : element.Kind) (group : ℕ) (at : Place) (v : Values) (own : Owned) (items : List Item) (old new : Draft) : Type 0 where
  pub made : Draft
  pub adds : Declares kind group at v items old made
  pub names : known new.register ≡ with_declared kind own (known made.register)
  pub others : new ≡ record made { register = new.register }

-- another element is at its end: it stands in its list, and its name is in scope behind it
pub record AddsToList (kind : element.Kind) (group : ℕ) (at : Place) (v : Values) (own : Owned) (items : List Item) (old new : Draft) : Type 0 where
  pub made : Draft
  pub adds : AddsItems (item kind group at old.file.scope v items) old made
  pub brings : Brings kind own.name made new

abbrev pub AddsBy : (is_declared : Bool) → element.Kind → (group : ℕ) → Place → Values → Owned → List Item → (old new : Draft) → Type 0
AddsBy true kind group at v own items old new = AddsToSheet kind group at v own items old new
AddsBy false kind group at v own items old new = AddsToList kind group at v own items old new

-- a choose lacks branches
abbrev pub lacks_branches : element.Kind → List Item → Bool
lacks_branches kind items = is_choose kind && length (branches items) == 0

-- an element of the language is at its end
abbrev pub EndsElement : element.Kind → Place → Values → Owned → List Item → (old new : Draft) → Result (Unit {0}) Stop → Type 0
EndsElement kind at v own items old new (Ok done) = (lacks_branches kind items ≡ false) × AddsBy (is_declared_here (inside_of old.top.inside)) kind old.top.group at v own items old new
EndsElement kind at v own items old new (Err (stop.Fault why place)) = (lacks_branches kind items ≡ true) × (why ≡ code.Misplaced) × (place ≡ at) × (new ≡ old)
EndsElement kind at v own items old new (Err stop.Memory) = Unit {0}

-- a group comes to be: the root, which also says what counts as a node, or one more within the innermost group
abbrev pub root_of : Place → Values → Group
root_of at v = record { parent = None; name = None; pass = pass_or pass.None (value_at (codes "pass-through") v); at = at }

abbrev pub inner_of : Draft → Place → Values → Group
inner_of d at v = record {
  parent = Some d.top.group;
  name = as_name (value_at (codes "name") v);
  pass = pass_or d.top.pass (value_at (codes "pass-through") v);
  at = at;
}

pub record OpensRoot (v : Values) (at : Place) (old new : Draft) : Type 0 where
  pub known : known new.register ≡ without_groups (known old.register)
  pub others : new ≡ record old {
    register = new.register;
    sheet = record old.sheet {
      groups = root_of at v ∷ [];
      strip = is_yes (value_at (codes "strip-space") v);
      cdata = is_yes (value_at (codes "recognize-cdata") v);
    };
  }

pub record OpensInner (v : Values) (at : Place) (old new : Draft) : Type 0 where
  pub known : known new.register ≡ with_group (option_map bare (as_name (value_at (codes "name") v))) (known old.register)
  pub others : new ≡ record old {
    register = new.register;
    sheet = record old.sheet { groups = old.sheet.groups ++ inner_of old at v ∷ [] };
  }

abbrev pub OpensBy : (is_own : Bool) → Values → Place → Draft → Draft → Type 0
OpensBy true v at old new = OpensRoot v at old new
OpensBy false v at old new = OpensInner v at old new

abbrev pub OpensGroup : Values → Place → Draft → Draft → Type 0
OpensGroup v at old new = OpensBy (is_own (inside_of old.top.inside)) v at old new

-- The group of what stands in an element, with what it passes through: one that comes to be, or that around the element. The name of a
-- group is taken out of the values.
abbrev pub Enters : (is_group : Bool) → (v kept : Values) → Place → (made : ℕ × Pass) → (old new : Draft) → Type 0
Enters false v kept at made old new = (new ≡ old) × (kept ≡ v) × (made ≡ (old.top.group, old.top.pass))
Enters true v kept at made old new =
    OpensGroup v at old new
    × (value_at (codes "pass-through") kept ≡ value_at (codes "pass-through") v)
    × (made ≡ (length new.sheet.groups - 1, pass_or old.top.pass (value_at (codes "pass-through") v)))
