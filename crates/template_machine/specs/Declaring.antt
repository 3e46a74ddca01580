-- How variables are made: all at the start, those of a group anew for a template with a scope of its own, and parameters.
use Rattle.sheet_model.specs.Groups.{around}
use Rattle.std.specs.Prelude.{ℕ, ◌==◌, Bool, true, false, ◌&&◌, if◌then◌else◌, List, [], ◌∷◌, ◌++◌, Option, Some, None, Result, Ok, map}
use Rattle.std.specs.List.{list_any}
use Rattle.stx_base.specs.declared.name.Name.{Name}
use Rattle.node_stack.specs.Test.{same_name}
use Rattle.sheet_model.specs.declared.instr.WithParam.{WithParam}
use Rattle.sheet_model.specs.declared.sheet.Sheet.{Sheet}
use Rattle.sheet_model.specs.declared.sheet.Variable.{Variable}
use Rattle.stx_base.specs.declared.fault.Place.{Place}
use Rattle.stxpath_eval.specs.Setting.{Setting}
use Rattle.stxpath_values.specs.declared.fault.EvalFault.{EvalFault}
use Rattle.stxpath_values.specs.declared.value.Atom.{Atom}
use Rattle.result_writer.specs.Target.{nothing}
use Rattle.event_buffers.specs.Buffers.{on_group, taken_off}
use Rattle.event_buffers.specs.Declaring.{declared_by}
use Rattle.event_buffers.specs.Layer.{laid}
use Rattle.template_machine.specs.Job.{Does, Given, Here, Self, State}
use Rattle.template_machine.specs.Trail.{path_of, place_of}
use Rattle.template_machine.specs.Values.{atoms_of, got, selected, setting}
use Rattle.template_machine.specs.Variables.{declared, first_some, newest, older, shadowed, unshadowed}
use Rattle.var_store.specs.Variables.{value_of}
use Rattle.var_store.specs.declared.bound.Bound.{Bound}
use Rattle.var_store.specs.Copies.{Stored}

-- a variable of this group and name is declared
abbrev pub is_declared_in : List Variable → (group : ℕ) → Name → Bool
is_declared_in vs group name = list_any (λ v. v.group == group && same_name v.name name) vs

-- What a declaration sees under a name: the variables of its own group and of those around it that stand earlier in the sheet.
abbrev pub seen_before : Sheet → (earlier : List Variable) → (group : ℕ) → Stored → Name → Option (List Atom)
seen_before sheet earlier group copies name =
    first_some (λ g. if is_declared_in earlier g name then value_of name (newest copies g) else None) (around sheet.groups group)

-- a state with new copies of a group's variables and buffers, and without them
abbrev pub with_scope : (group : ℕ) → State → State
with_scope group st = record st {
  variables = shadowed st.variables group;
  buffers = on_group (λ copies. laid ∷ copies) group st.buffers;
}

abbrev pub without_scope : (group : ℕ) → State → State
without_scope group st = record st {
  variables = unshadowed st.variables group;
  buffers = on_group taken_off group st.buffers;
}

module _ (given : Given) where
  -- what a declaration's expression sees
  abbrev pub declaration_setting : (earlier : List Variable) → Variable → Self → State → Setting
  declaration_setting earlier v self st = record {
    vars = seen_before given.sheet earlier v.group st.variables;
    limits = given.limits;
    path = path_of self.trail;
    place = place_of self.trail;
    test = self.test;
  }

  -- the value that the command gives a parameter of the root group, if it does
  abbrev pub commanded : Variable → Option (List Atom)
  commanded v = if v.param then value_of v.name given.params else None

  -- the value that is kept from the copy below
  abbrev pub kept : Variable → State → Option (List Atom)
  kept v st = if v.keep then value_of v.name (older st.variables v.group) else None

  -- a variable's value in a new copy: the command's, or the one that is kept, or else that of its expression
  abbrev pub new_value : Option (List Atom) → Option (List Atom) → Variable → Setting → Result (List Atom) EvalFault
  new_value (Some value) old v g = Ok value
  new_value None (Some value) v g = Ok value
  new_value None None v g = selected v.select g

  abbrev pub with_variable : Variable → List Atom → State → State
  with_variable v value st = record st { variables = declared st.variables v.group v.name value }

  -- The variables of which the test holds are made one after another, each in the newest copy of its group.
  abbrev pub makes : (Variable → Bool) → (earlier : List Variable) → List Variable → Self → State → (State → Does) → Does
  makes test earlier [] self st go = go st
  makes test earlier (v ∷ vs) self st go =
      if test v
      then got v.at (new_value (commanded v) (kept v st) v (declaration_setting earlier v self st))
      (λ value. makes test (earlier ++ v ∷ []) vs self (with_variable v value st) go)
      else makes test (earlier ++ v ∷ []) vs self st go

  -- those of all groups
  abbrev pub makes_all : Self → State → (State → Does) → Does
  makes_all self st go = makes (λ v. true) [] given.sheet.variables self st go

  -- new copies for a group, if a template wants them
  abbrev pub makes_scope : (new_scope : Bool) → (group : ℕ) → Self → State → (State → Does) → Does
  makes_scope false group self st go = go st
  makes_scope true group self st go =
      makes (λ v. v.group == group) [] given.sheet.variables self (with_scope group st) go

  -- and back to the older copies
  abbrev pub ends_scope : (new_scope : Bool) → (group : ℕ) → State → State
  ends_scope false group st = st
  ends_scope true group st = without_scope group st

  -- a parameter's value: what was handed to it, or else that of its expression, which sees the parameters before it
  abbrev pub parameter_value : Option (List Atom) → Variable → Setting → Result (List Atom) EvalFault
  parameter_value (Some value) v g = Ok value
  parameter_value None v g = selected v.select g

  -- the parameters of a template or a procedure become its first locals
  abbrev pub binds : List Variable → (handed : List Bound) → Self → Here → (Here → Does) → Does
  binds [] handed self a go = go a
  binds (v ∷ vs) handed self a go =
      got v.at (parameter_value (value_of v.name handed) v (setting given self a))
      (λ value. binds vs handed self (record a { locals = a.locals ++ record { name = v.name; value = value } ∷ [] }) go)

  -- the values that an instruction at a place hands to parameters
  abbrev pub hands : Place → List WithParam → Self → Here → (List Bound → Does) → Does
  hands at [] self a go = go []
  hands at (p ∷ ps) self a go =
      got at (atoms_of p.select (setting given self a))
      (λ value. hands at ps self a (λ bound. go (record { name = p.name; value = value } ∷ bound)))

-- no group has a copy yet but an empty one, and each buffer has its declared content
abbrev pub at_start : Given → State
at_start given = record {
  fuel = given.limits.fuel;
  variables = map (λ g. [] ∷ []) given.sheet.groups;
  buffers = record { limit = given.limits.buffer; elements = given.limits.elements; buffers = map declared_by given.sheet.buffers };
  result = nothing;
  targets = [];
}
