-- What the values of attributes are read as.
use Rattle.std.specs.Prelude.{ℕ, ℤ, pos, neg_ℤ, ◌+◌, ◌-◌, ◌*◌, Bool, true, false, ◌&&◌, not, ◌==◌, nat_le, List, [], ◌∷◌, ◌++◌, length, Option, Some, None, Result, Ok, Err, codes, bytes_eq, if◌then◌else◌}
use Rattle.std.specs.List.{list_all, list_any, before_first, after_first}
use Rattle.std.specs.Option.{option_map}
use Rattle.stx_base.specs.Character.{is_space}
use Rattle.stx_base.specs.declared.fault.SheetCode.{SheetCode}
use Rattle.stx_base.specs.declared.fault.SheetCode.TheVariants as code
use Rattle.stx_base.specs.declared.name.Binding.{Binding}
use Rattle.stx_base.specs.declared.name.Name.{Name}
use Rattle.stx_base.specs.declared.node.NodeTest.{NodeTest}
use Rattle.stx_base.specs.declared.node.NodeTest.TheVariants as test
use Rattle.stxpath_syntax.specs.Template.{IsExpression, IsPattern, IsTemplate, Read}
use Rattle.stxpath_syntax.specs.Words.{uri_of}
use Rattle.stxpath_syntax.specs.declared.dialect.Dialect.{Dialect}
use Rattle.stxpath_syntax.specs.declared.dialect.Dialect.TheVariants.{One, OneOne}
use Rattle.stxpath_syntax.specs.declared.expr.Alternative.{Alternative}
use Rattle.stxpath_syntax.specs.declared.expr.Alternative.TheVariants.{Root, Steps}
use Rattle.stxpath_syntax.specs.declared.expr.AvtPart.{AvtPart}
use Rattle.stxpath_syntax.specs.declared.expr.Expr.{Expr}
use Rattle.stxpath_syntax.specs.declared.expr.Link.{Link}
use Rattle.stxpath_syntax.specs.declared.expr.Link.TheVariants as link
use Rattle.stxpath_syntax.specs.declared.expr.PathStep.{PathStep}
use Rattle.stxpath_syntax.specs.declared.fault.PathKind.{PathKind}
use Rattle.stxpath_syntax.specs.declared.fault.PathKind.TheVariants as kind
use Rattle.sheet_model.specs.Passing.{no_kind}
use Rattle.sheet_model.specs.declared.pass.Kinds.{Kinds}
use Rattle.sheet_model.specs.declared.pass.Pass.{Pass}
use Rattle.sheet_model.specs.declared.pass.Pass.TheVariants as pass
use Rattle.xml_names.specs.QName.{is_qname, prefix_of, local_of}
use Rattle.sheet_loader.specs.Attributes.{Form, Word, Version, Passing, Priority, Named, Expression, Patterned, Tests, Template_of_value, Any}

-- What texts of the path language are read as: there is one such record, since each text has one reading or one first fault.
pub record Reads : Type 0 where
  pub expression : Dialect → List Binding → List ℕ → Read Expr
  pub pattern : Dialect → List Binding → List ℕ → Read (List Alternative)
  pub template : Dialect → List Binding → List ℕ → Read (List AvtPart)
  pub expressions : (d : Dialect) (scope : List Binding) (text : List ℕ) → IsExpression d scope 0 text (expression d scope text)
  pub patterns : (d : Dialect) (scope : List Binding) (text : List ℕ) → IsPattern d scope text (pattern d scope text)
  pub templates : (d : Dialect) (scope : List Binding) (text : List ℕ) → IsTemplate d scope text (template d scope text)

-- a value by its form
pub data Value : Type 0 where
  A_word : List ℕ → Value
  A_pass : Pass → Value
  A_priority : ℤ → Value
  A_name : Name → Value
  An_expression : Expr → Value
  A_pattern : List Alternative → Value
  A_template : List AvtPart → Value

-- the name that a text spells, where it is a QName and its prefix is bound; without a prefix it is in no namespace
abbrev pub named : (uri : Option (List ℕ)) → (text : List ℕ) → Option Name
named None text = None
named (Some uri) text = Some (record { uri = uri; local = local_of text; prefix = prefix_of text })

abbrev pub name_in : List Binding → (text : List ℕ) → Option Name
name_in scope text =
    if not (is_qname text) then None
    else named (if length (prefix_of text) == 0 then Some [] else uri_of scope (prefix_of text)) text

-- a text is one of the words
abbrev pub is_one_of : List (List ℕ) → List ℕ → Bool
is_one_of words text = list_any (λ word. bytes_eq word text) words

-- the words of a text, which white space separates: at its ends and within it none is empty
abbrev pub words_of : (word : List ℕ) → List ℕ → List (List ℕ)
words_of word [] = word ∷ []
words_of word (c ∷ cs) = if is_space c then word ∷ words_of [] cs else words_of (word ++ c ∷ []) cs

-- runs of white space count as one
abbrev pub single_spaced : (behind_space : Bool) → List ℕ → List ℕ
single_spaced behind_space [] = []
single_spaced behind_space (c ∷ cs) =
    if behind_space && is_space c then single_spaced true cs else c ∷ single_spaced (is_space c) cs

-- kinds with one more, where the word names one that isn't there yet
abbrev pub with_kind : List ℕ → Kinds → Option Kinds
with_kind word kinds =
    if bytes_eq word (codes "elements") && not kinds.elements then Some (record kinds { elements = true })
    else if bytes_eq word (codes "text") && not kinds.text then Some (record kinds { text = true })
    else if bytes_eq word (codes "cdata") && not kinds.cdata then Some (record kinds { cdata = true })
    else if bytes_eq word (codes "comments") && not kinds.comments then Some (record kinds { comments = true })
    else if bytes_eq word (codes "processing-instructions") && not kinds.instructions then Some (record kinds { instructions = true })
    else if bytes_eq word (codes "attributes") && not kinds.attributes then Some (record kinds { attributes = true })
    else None

abbrev pub kinds_named : Option Kinds → List (List ℕ) → Option Pass
kinds_named None words = None
kinds_named (Some kinds) [] = Some (pass.Kinds kinds)
kinds_named (Some kinds) (word ∷ words) = kinds_named (with_kind word kinds) words

-- the words for what is passed through that both versions have
abbrev pub plain_pass : List ℕ → Option Pass
plain_pass text =
    if bytes_eq text (codes "none") then Some pass.None
    else if bytes_eq text (codes "text") then Some pass.Chars
    else if bytes_eq text (codes "all") then Some pass.All
    else None

-- one of these words, or from version 1.1 on a list of kinds
abbrev pub pass_by : Dialect → Option Pass → List ℕ → Option Pass
pass_by dialect (Some found) text = Some found
pass_by One None text = None
pass_by OneOne None text = kinds_named (Some no_kind) (words_of [] (single_spaced false text))

abbrev pub pass_in : Dialect → List ℕ → Option Pass
pass_in dialect text = pass_by dialect (plain_pass text) text

abbrev pub is_digit : ℕ → Bool
is_digit c = nat_le 0x30 c && nat_le c 0x39

abbrev pub is_dot : ℕ → Bool
is_dot c = c == 0x2E

-- the number that digits write, the first of them weighing most
abbrev pub number : (so_far : ℕ) → List ℕ → ℕ
number n [] = n
number n (c ∷ cs) = number (n * 10 + (c - 0x30)) cs

-- from the least to the greatest number of digits, and nothing else
abbrev pub are_digits : (least most : ℕ) → List ℕ → Bool
are_digits least most cs = nat_le least (length cs) && nat_le (length cs) most && list_all is_digit cs

-- two digits, of which the second may be left out
abbrev pub hundredths : List ℕ → ℕ
hundredths (c ∷ []) = number 0 (c ∷ []) * 10
hundredths cs = number 0 cs

-- one to six digits, and then perhaps a dot and one or two more
abbrev pub unsigned_priority : List ℕ → Option ℕ
unsigned_priority text =
    if list_any is_dot text
    then (if are_digits 1 6 (before_first is_dot text) && are_digits 1 2 (after_first is_dot text)
    then Some (number 0 (before_first is_dot text) * 100 + hundredths (after_first is_dot text)) else None)
    else (if are_digits 1 6 text then Some (number 0 text * 100) else None)

abbrev pub priority_of : List ℕ → Option ℤ
priority_of [] = None
priority_of (c ∷ cs) =
    if c == 0x2D then option_map (λ n. neg_ℤ (pos n)) (unsigned_priority cs) else option_map pos (unsigned_priority (c ∷ cs))

-- attributes that pass a test, and nothing else: a lone step without predicates
abbrev pub is_attribute_test : NodeTest → Bool
is_attribute_test (test.AttrName name) = true
is_attribute_test (test.AttrPrefix binding) = true
is_attribute_test test.AnyAttr = true
is_attribute_test other = false

abbrev pub is_bare : Link → Bool
is_bare link.Start = true
is_bare other = false

abbrev pub is_lone_test : List PathStep → Bool
is_lone_test (step ∷ []) = is_bare step.link && is_attribute_test step.test && length step.predicates == 0
is_lone_test steps = false

abbrev pub are_tests : Alternative → Bool
are_tests Root = false
are_tests (Steps steps) = is_lone_test steps

-- a fraction has a code of its own
abbrev pub code_of : PathKind → SheetCode
code_of kind.Fraction = code.Fraction
code_of other = code.BadPath

-- what was read, or the code of its fault
abbrev pub read : {A : Type 0} → (A → Value) → Read A → Result Value SheetCode
read made (Ok found) = Ok (made found)
read made (Err fault) = Err (code_of fault.kind)

-- the alternatives of a pattern, if each is a lone test of attributes
abbrev pub read_tests : Read (List Alternative) → Result Value SheetCode
read_tests (Ok found) = if list_all are_tests found then Ok (A_pattern found) else Err code.BadValue
read_tests (Err fault) = Err (code_of fault.kind)

abbrev pub some_value : {A : Type 0} → (A → Value) → Option A → Result Value SheetCode
some_value made None = Err code.BadValue
some_value made (Some found) = Ok (made found)

module _ (reads : Reads) (dialect : Dialect) (scope : List Binding) where
  -- what a value of the form is read as, or the code that refuses it; the version has a code of its own
  abbrev pub value_of : Form → (text : List ℕ) → Result Value SheetCode
  value_of (Word words) text = if is_one_of words text then Ok (A_word text) else Err code.BadValue
  value_of Version text = Ok (A_word text)
  value_of Passing text = some_value A_pass (pass_in dialect text)
  value_of Priority text = some_value A_priority (priority_of text)
  value_of Named text = some_value A_name (name_in scope text)
  value_of Expression text = read An_expression (reads.expression dialect scope text)
  value_of Patterned text = read A_pattern (reads.pattern dialect scope text)
  value_of Tests text = read_tests (reads.pattern dialect scope text)
  value_of Template_of_value text = read A_template (reads.template dialect scope text)
  value_of Any text = Ok (A_word text)
