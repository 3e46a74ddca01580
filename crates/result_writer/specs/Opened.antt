-- What the fields of a target mean.
use Rattle.std.specs.Prelude.{◌≡◌, ℕ, ◌+◌, ◌-◌, Bool, false, true, List, [], ◌∷◌, ◌++◌, Option, Some, None, length, take, drop, reverse}
use Rattle.std.specs.List.{list_all}
use Rattle.stx_base.specs.declared.name.Binding.{Binding}
use Rattle.stx_base.specs.declared.name.Name.{Name}
use Rattle.stx_base.specs.declared.part.Part.{Part}
use Rattle.stx_base.specs.declared.part.Part.TheVariants as part
use Rattle.result_writer.specs.Allowed.{is_good_name}
use Rattle.result_writer.specs.Attributes.{value_of}
use Rattle.result_writer.specs.Steady.{given, keep_bindings}
use Rattle.result_writer.specs.Tag.{dressed}
use Rattle.result_writer.specs.Target.{Element, Left, Target, in_force}
use Rattle.result_writer.specs.declared.opened.Around.{Around}
use Rattle.result_writer.specs.declared.opened.OpenElement.{OpenElement}
use Rattle.result_writer.specs.declared.opened.SettledTag.{SettledTag}
use Rattle.result_writer.specs.declared.opened.Opened.TheInside.{Inside}
use Rattle.result_writer.specs.declared.tag.Dressed.{Dressed}
use Rattle.result_writer.specs.declared.tag.HeldTag.{HeldTag}

-- open elements, the innermost first, each with as many of the last bindings as its tag declared
abbrev pub elements : List OpenElement → List Binding → List Element
elements [] bindings = []
elements (e ∷ outer) bindings =
    let before = length bindings - e.declared in
    record { name = e.name; declared = drop before bindings } ∷ elements outer (take before bindings)

-- the last tag, where it is held back
abbrev pub held_if : Bool → HeldTag → Option HeldTag
held_if false tag = None
held_if true tag = Some tag

abbrev pub held : Around → Option HeldTag
held around = held_if around.holds around.tag

abbrev pub target_of : Inside → Target
target_of t = record {
  limit = t.limit;
  left = record { elements = elements (reverse t.around.elements.items) t.around.bindings; held = held t.around };
  last = t.around.tag.scope;
}

-- how many bindings elements declared
abbrev pub declared_by : List OpenElement → ℕ
declared_by [] = 0
declared_by (e ∷ outer) = declared_by outer + e.declared

-- there are no other bindings, a scope that is said to be in force is, and names were judged when their elements started
pub record IsSound (t : Inside) : Type 0 where
  pub counted : declared_by (reverse t.around.elements.items) ≡ length t.around.bindings
  pub kept : t.around.keeps ≡ true → keep_bindings t.around.bindings t.around.tag.scope ≡ true
  pub opened : list_all (λ e. is_good_name e.name) t.around.elements.items ≡ true
  pub held_back : t.around.holds ≡ true → is_good_name t.around.tag.name ≡ true

-- what is written with the tag that is held back, if there is one
abbrev pub dressing : Option HeldTag → Option Dressed → Option Dressed
dressing None d = None
dressing (Some tag) d = Some (given tag d)

-- The element of a tag is open once it is settled.

abbrev pub elements_of : Option HeldTag → Option Dressed → List OpenElement
elements_of None d = []
elements_of (Some tag) None = []
elements_of (Some tag) (Some d) = record { name = tag.name; declared = length d.declared } ∷ []

abbrev pub declared_in : Option Dressed → List Binding
declared_in None = []
declared_in (Some d) = d.declared

-- the value of an attribute that was put already, where its tag is held back
abbrev pub held_value : Option HeldTag → Name → Option (List ℕ)
held_value None name = None
held_value (Some tag) name = value_of tag.attrs name

-- The tag that a part settles, as it is written.

abbrev pub settled_tag : List Element → Option HeldTag → Option SettledTag
settled_tag outer None = None
settled_tag outer (Some tag) = Some (record { name = tag.name; attrs = tag.attrs; declared = (dressed (in_force outer) tag).declared })

-- an attribute settles none
abbrev pub settled_by : Left → Part → Option SettledTag
settled_by l (part.Attribute name value) = None
settled_by l p = settled_tag l.elements l.held

-- a part, unless it is a start or an attribute, which are settled with their tag
abbrev pub beside_tags : Part → Option Part
beside_tags (part.Start name scope) = None
beside_tags (part.Attribute name value) = None
beside_tags p = Some p

-- what settling leaves
pub record Settles (old : Around) (d : Option Dressed) (new : Around) : Type 0 where
  pub elements : new.elements.items ≡ old.elements.items ++ elements_of (held old) d
  pub bindings : new.bindings ≡ old.bindings ++ declared_in d
  pub scope : new.tag.scope ≡ old.tag.scope
  pub attrs : new.tag.attrs ≡ old.tag.attrs
  pub keeps : new.keeps ≡ true → keep_bindings new.bindings new.tag.scope ≡ true
  pub settled : new.holds ≡ false

pub record SameAround (old new : Around) : Type 0 where
  pub elements : new.elements.items ≡ old.elements.items
  pub bindings : new.bindings ≡ old.bindings
  pub tag : new.tag ≡ old.tag
  pub holds : new.holds ≡ old.holds
  pub keeps : new.keeps ≡ old.keeps
