-- What holds of a sheet that was accepted.
use Rattle.std.specs.Prelude.{◌≡◌, ◌<◌, ◌≤◌, ℕ, ◌+◌, ◌^◌, true, List, [], ◌∷◌, Option, Some, None, length, take, slice_get, All, IfSome}
use Rattle.std.specs.List.{flat_map}
use Rattle.std.specs.Option.{option_to_list}
use Rattle.stx_base.specs.Character.{is_cdata_text, is_ncname}
use Rattle.stx_base.specs.declared.fault.Place.{Place}
use Rattle.stx_base.specs.declared.name.Name.{Name}
use Rattle.stx_base.specs.declared.node.NodeTest.{NodeTest}
use Rattle.stx_base.specs.declared.node.NodeTest.TheVariants as test
use Rattle.stx_base.specs.declared.part.Part.{Part}
use Rattle.stx_base.specs.declared.part.Part.TheVariants as part
use Rattle.result_writer.specs.Target.{whole_fault}
use Rattle.stxpath_syntax.specs.Readable.{IsReadable, IsReadablePattern, IsReadableTemplate}
use Rattle.stxpath_syntax.specs.declared.expr.Alternative.{Alternative}
use Rattle.stxpath_syntax.specs.declared.expr.Alternative.TheVariants as alternative
use Rattle.stxpath_syntax.specs.declared.expr.Avt.{Avt}
use Rattle.stxpath_syntax.specs.declared.expr.Link.TheVariants.{Start}
use Rattle.stxpath_syntax.specs.declared.expr.Pattern.{Pattern}
use Rattle.sheet_model.specs.Body.{instructions, sheet_nesting}
use Rattle.sheet_model.specs.Entries.{entries}
use Rattle.sheet_model.specs.Groups.{AreApart, AreDistinct, HasVariable, IsFound, IsNew}
use Rattle.sheet_model.specs.Names.{Mention, free, variables, with_params, pattern_variables}
use Rattle.sheet_model.specs.Parts.{conditions, copied_attributes, expressions, place, templates, variables_named}
use Rattle.sheet_model.specs.declared.instr.Instr.{Instr}
use Rattle.sheet_model.specs.declared.instr.Instr.TheViews.{out-Instr}
use Rattle.sheet_model.specs.declared.instr.When.{When}
use Rattle.sheet_model.specs.declared.sheet.Buffer.{Buffer}
use Rattle.sheet_model.specs.declared.sheet.Group.{Group}
use Rattle.sheet_model.specs.declared.sheet.Procedure.{Procedure}
use Rattle.sheet_model.specs.declared.sheet.Sheet.{Sheet}
use Rattle.sheet_model.specs.declared.sheet.Template.{Template}
use Rattle.sheet_model.specs.declared.sheet.Variable.{Variable}

-- The root comes first and alone has no parent, and each group comes behind its parent.

abbrev pub StandsBehind : (number : ℕ) → Option ℕ → Type 0
StandsBehind number None = ⊥
StandsBehind number (Some parent) = parent < number

abbrev pub AreATree : List Group → Type 0
AreATree [] = ⊥
AreATree (root ∷ others) =
    (root.parent ≡ None) × ((n : ℕ) (g : Group) → slice_get others n ≡ Some g → StandsBehind (n + 1) g.parent)

-- Each number names an entry.

abbrev pub IsInFile : Sheet → Place → Type 0
IsInFile s at = at.file < length s.files

abbrev pub StandsIn : Sheet → (group : ℕ) → Place → Type 0
StandsIn s group at = (group < length s.groups) × IsInFile s at

abbrev pub VariablesStand : Sheet → List Variable → Type 0
VariablesStand s vs = All (λ v. StandsIn s v.group v.at) vs

pub record NumbersNameEntries (s : Sheet) : Type 0 where
  pub groups : All (λ g. IsInFile s g.at) s.groups
  pub templates : All (λ t. StandsIn s t.group t.at × VariablesStand s t.params) s.templates
  pub procedures : All (λ p. StandsIn s p.group p.at × VariablesStand s p.params) s.procedures
  pub buffers : All (λ b. StandsIn s b.group b.at) s.buffers
  pub variables : VariablesStand s s.variables
  pub instructions : All (λ i. IsInFile s (place (out-Instr i))) (instructions s)

-- Each expression, pattern and template is one that some text is read as, and each variable has a name that some text spells: its local
-- part is an NCName (Namespaces in XML 1.0, 4).

abbrev pub IsSpelled : Name → Type 0
IsSpelled n = is_ncname n.local ≡ true

abbrev pub AreReadableTemplates : List Avt → Type 0
AreReadableTemplates ts = All (λ t. IsReadableTemplate t.parts) ts

abbrev pub AreReadablePatterns : List Pattern → Type 0
AreReadablePatterns ps = All (λ p. IsReadablePattern p.alternatives) ps

pub record IsReadableInstruction (i : Instr) : Type 0 where
  pub expressions : All IsReadable (expressions (λ (w : When). w.test) (out-Instr i))
  pub templates : AreReadableTemplates (templates (out-Instr i))
  pub conditions : AreReadablePatterns (conditions (out-Instr i))
  pub copied : AreReadablePatterns (copied_attributes (out-Instr i))
  pub names : All IsSpelled (variables_named (out-Instr i))

abbrev pub IsReadableVariable : Variable → Type 0
IsReadableVariable v = IsSpelled v.name × IfSome v.select IsReadable

abbrev pub AreReadableVariables : List Variable → Type 0
AreReadableVariables vs = All IsReadableVariable vs

pub record IsReadableSheet (s : Sheet) : Type 0 where
  pub variables : AreReadableVariables s.variables
  pub templates : All (λ t. IsReadablePattern t.pattern.alternatives × AreReadableVariables t.params) s.templates
  pub procedures : All (λ p. AreReadableVariables p.params) s.procedures
  pub instructions : All IsReadableInstruction (instructions s)

-- What a copy takes along are attributes, by tests alone.

abbrev pub IsOfAttributes : NodeTest → Type 0
IsOfAttributes (test.AttrName n) = Unit {0}
IsOfAttributes (test.AttrPrefix b) = Unit {0}
IsOfAttributes test.AnyAttr = Unit {0}
IsOfAttributes t = ⊥

abbrev pub IsAttributeTest : Alternative → Type 0
IsAttributeTest (alternative.Steps (s ∷ [])) = (s.link ≡ Start) × (s.predicates ≡ []) × IsOfAttributes s.test
IsAttributeTest a = ⊥

abbrev pub CopiesAttributes : Sheet → Type 0
CopiesAttributes s = All (λ i. All (λ (p : Pattern). All IsAttributeTest p.alternatives) (copied_attributes (out-Instr i))) (instructions s)

-- Each name that is said leads to what it names, and no name is declared twice.

abbrev pub template_says : Template → List Mention
template_says t = with_params t.params t.body []

abbrev pub procedure_says : Procedure → List Mention
procedure_says p = with_params p.params p.body []

-- a declaration sees those before it in the sheet
abbrev pub DeclarationsAreFound : Sheet → Type 0
DeclarationsAreFound s =
    (n : ℕ) (v : Variable) → slice_get s.variables n ≡ Some v
    → All (HasVariable s (take n s.variables) v.group) (flat_map variables (option_to_list v.select))

abbrev pub group_names : List Group → List Name
group_names groups = flat_map (λ (g : Group). option_to_list g.name) groups

pub record NamesAreFound (s : Sheet) : Type 0 where
  pub declarations : DeclarationsAreFound s
  pub patterns : All (λ t. All (IsFound s t.group) (free [] (pattern_variables t.pattern))) s.templates
  pub templates : All (λ t. All (IsFound s t.group) (template_says t)) s.templates
  pub procedures : All (λ p. All (IsFound s p.group) (procedure_says p)) s.procedures

pub record NamesAreNew (s : Sheet) : Type 0 where
  pub groups : AreDistinct (group_names s.groups)
  pub procedures : AreApart (λ (p : Procedure). p.group) (λ (p : Procedure). p.name) s.procedures
  pub buffers : AreApart (λ (b : Buffer). b.group) (λ (b : Buffer). b.name) s.buffers
  pub variables : AreApart (λ (v : Variable). v.group) (λ (v : Variable). v.name) s.variables
  pub in_templates : All (λ t. All IsNew (template_says t)) s.templates
  pub in_procedures : All (λ p. All IsNew (procedure_says p)) s.procedures

-- A buffer begins with parts that a result may have, and that leave no element open, however many may be open at once.

abbrev pub IsCDataText : Part → Type 0
IsCDataText (part.CData text) = is_cdata_text text ≡ true
IsCDataText p = Unit {0}

abbrev pub IsContent : List Part → Type 0
IsContent ps = (whole_fault (length ps) ps ≡ None) × All IsCDataText ps

abbrev pub BuffersAreWhole : Sheet → Type 0
BuffersAreWhole s = All (λ b. IsContent b.content) s.buffers

-- Its lists are short enough to be numbered, and its bodies flat enough to be walked.

abbrev pub IsSmall : Sheet → Type 0
IsSmall s = entries s < 2 ^ 28

abbrev pub IsFlat : Sheet → Type 0
IsFlat s = sheet_nesting s ≤ 512

pub record IsSound (s : Sheet) : Type 0 where
  pub groups : AreATree s.groups
  pub numbers : NumbersNameEntries s
  pub readable : IsReadableSheet s
  pub copies : CopiesAttributes s
  pub found : NamesAreFound s
  pub new : NamesAreNew s
  pub buffers : BuffersAreWhole s
  pub small : IsSmall s
  pub flat : IsFlat s
