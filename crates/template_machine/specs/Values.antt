-- What the expressions, templates and names of an instruction give, and the faults that stop the run in place of a value.
use Rattle.stxpath_values.specs.Functions.{limited_text}
use Rattle.sheet_model.specs.Groups.{around}
use Rattle.std.specs.Prelude.{ℕ, Bool, if◌then◌else◌, List, [], ◌∷◌, Option, Some, None, Result, Ok, Err, map, unwrap_or}
use Rattle.std.specs.Option.{option_map_or, option_or}
use Rattle.stx_base.specs.Course.{Halt}
use Rattle.stx_base.specs.declared.fault.Place.{Place}
use Rattle.stx_base.specs.declared.limits.Limits.{Limits}
use Rattle.stx_base.specs.declared.name.Binding.{Binding}
use Rattle.stx_base.specs.declared.name.Name.{Name}
use Rattle.stx_base.specs.declared.node.NodeTest.TheVariants as test
use Rattle.sheet_model.specs.declared.instr.Content.{Content}
use Rattle.sheet_model.specs.declared.instr.Content.TheVariants as content
use Rattle.stxpath_eval.specs.Nodes.{atoms}
use Rattle.stxpath_eval.specs.Setting.{Setting}
use Rattle.stxpath_eval.specs.Value.{value}
use Rattle.stxpath_syntax.specs.Words.{uri_of}
use Rattle.stxpath_syntax.specs.declared.expr.Avt.{Avt}
use Rattle.stxpath_syntax.specs.declared.expr.AvtPart.{AvtPart}
use Rattle.stxpath_syntax.specs.declared.expr.AvtPart.TheVariants as part
use Rattle.stxpath_syntax.specs.declared.expr.Expr.{Expr}
use Rattle.stxpath_syntax.specs.declared.expr.Pattern.{Pattern}
use Rattle.stxpath_values.specs.Conversion.{as_truth, atom_text}
use Rattle.stxpath_values.specs.Outcome.{and_then, each}
use Rattle.stxpath_values.specs.Words.{joined}
use Rattle.stxpath_values.specs.declared.fault.EvalFault.{EvalFault}
use Rattle.stxpath_values.specs.declared.value.Atom.{Atom}
use Rattle.stxpath_values.specs.declared.value.Atom.TheVariants as atom
use Rattle.stxpath_values.specs.declared.value.Item.{Item}
use Rattle.xml_names.specs.QName.{is_qname, local_of, prefix_of}
use Rattle.template_machine.specs.Ending.{code_of, fault_at}
use Rattle.match_patterns.specs.Fits.{pattern_fits}
use Rattle.template_machine.specs.Job.{Does, Given, Here, Self, State}
use Rattle.template_machine.specs.Trail.{Trail, place_of, path_of}
use Rattle.template_machine.specs.Variables.{seen_in}
use Rattle.var_store.specs.Variables.{value_of}
use Rattle.var_store.specs.declared.bound.Bound.{Bound}

-- Texts.

abbrev pub space : List ℕ
space = 32 ∷ []

-- texts as one: only where there are several is one made
abbrev pub as_one : Limits → (separator : List ℕ) → List (List ℕ) → Result (List ℕ) EvalFault
as_one limits separator [] = Ok []
as_one limits separator (t ∷ []) = Ok t
as_one limits separator (t ∷ u ∷ texts) = limited_text limits (joined separator (t ∷ u ∷ texts))

-- items as one text, nodes by their string values
abbrev pub items_text : Setting → (separator : List ℕ) → List Item → Result (List ℕ) EvalFault
items_text g separator items = as_one g.limits separator (map atom_text (atoms g.path items))

-- an expression as a text, its items with a space between
abbrev pub text_of : Expr → Setting → Result (List ℕ) EvalFault
text_of e g = and_then (value e g) (items_text g space)

abbrev pub part_text : Setting → AvtPart → Result (List ℕ) EvalFault
part_text g (part.Chars text) = Ok text
part_text g (part.Value e) = text_of e g

-- an attribute value template as a text
abbrev pub template_text : Avt → Setting → Result (List ℕ) EvalFault
template_text t g = and_then (each (part_text g) t.parts) (as_one g.limits [])

-- one that may be left out
abbrev pub template_text_or : (otherwise : List ℕ) → Option Avt → Setting → Result (List ℕ) EvalFault
template_text_or otherwise None g = Ok otherwise
template_text_or otherwise (Some t) g = template_text t g

abbrev pub content_text : Content → Setting → Result (List ℕ) EvalFault
content_text (content.Select e) g = text_of e g
content_text (content.Chars text) g = Ok text

-- Values that are kept: no nodes.

abbrev pub atoms_of : Expr → Setting → Result (List Atom) EvalFault
atoms_of e g = and_then (value e g) (λ items. Ok (atoms g.path items))

abbrev pub text_value : List ℕ → List Atom
text_value text = atom.Chars text ∷ []

-- the empty text, where there is no expression
abbrev pub selected : Option Expr → Setting → Result (List Atom) EvalFault
selected None g = Ok (text_value [])
selected (Some e) g = atoms_of e g

abbrev pub truth_of : Expr → Setting → Result Bool EvalFault
truth_of e g = and_then (value e g) as_truth

-- what follows from a value; a fault stops the run at a place
abbrev pub got : {A : Type 0} → Place → Result A EvalFault → (A → Does) → Does
got at (Ok x) go = go x
got at (Err fault) go = Halt (fault_at (code_of fault) at)

-- Names that are computed.

-- the namespace of a name without a prefix: an element's is the default one, and an attribute has none
abbrev pub bare_uri : (is_element : Bool) → (scope : List Binding) → List ℕ
bare_uri is_element scope = if is_element then unwrap_or (uri_of scope []) [] else []

abbrev pub prefix_uri : (is_element : Bool) → (scope : List Binding) → (prefix : List ℕ) → Option (List ℕ)
prefix_uri is_element scope [] = Some (bare_uri is_element scope)
prefix_uri is_element scope (c ∷ cs) = uri_of scope (c ∷ cs)

-- a name with a namespace that is given, or else by the bindings in force at the instruction; None where it is no QName or its prefix
-- isn't bound
abbrev pub computed_name : (is_element : Bool) → (scope : List Binding) → (namespace : Option (List ℕ)) → (name : List ℕ) → Option Name
computed_name is_element scope namespace name =
    if is_qname name
    then option_map_or (λ uri. Some (record { uri = uri; local = local_of name; prefix = prefix_of name })) (option_or namespace (prefix_uri is_element scope (prefix_of name))) None
    else None

-- the namespace that a template gives, if there is one
abbrev pub namespace_text : Option Avt → Setting → Result (Option (List ℕ)) EvalFault
namespace_text None g = Ok None
namespace_text (Some t) g = and_then (template_text t g) (λ uri. Ok (Some uri))

-- whether a pattern fits the current node, where there is one
abbrev pub fits_there : Setting → (otherwise : Bool) → Option Pattern → Bool
fits_there g otherwise None = otherwise
fits_there g otherwise (Some p) = pattern_fits p g

module _ (given : Given) where
  -- what expressions see of variables in a group: locals first, then the group's, and then those of the groups around it
  abbrev pub variable : (group : ℕ) → (locals : List Bound) → State → Name → Option (List Atom)
  variable group locals st name =
      option_or (value_of name locals) (seen_in (around given.sheet.groups group) st.variables name)

  -- what an expression in a body sees
  abbrev pub setting : Self → Here → Setting
  setting self a = record {
    vars = variable self.group a.locals a.state;
    limits = given.limits;
    path = path_of self.trail;
    place = place_of self.trail;
    test = self.test;
  }

  -- what a pattern sees, with the last node of the trail as the current one: variables of a group
  abbrev pub pattern_setting : Trail → State → (group : ℕ) → Setting
  pattern_setting trail st group = record {
    vars = variable group [] st;
    limits = given.limits;
    path = path_of trail;
    place = place_of trail;
    test = test.AnyNode;
  }
