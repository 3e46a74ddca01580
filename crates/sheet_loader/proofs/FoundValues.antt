-- What the values of a tag without faults are: those of required attributes are there, and what is read of the path language is readable.
use Rattle.std.proofs.Common.{◌≡◌, ℕ, ℤ, Bool, true, false, not, ◌&&◌, ◌||◌, ◌==◌, length, List, [], ◌∷◌, ◌++◌, Option, Some, None, Result, Ok, Err, is_some, refl, ap, sym, ◌∙◌, bytes_eq, if◌then◌else◌}
use Rattle.std.proofs.Math.Path.{subst}
use Rattle.std.specs.List.{list_all, list_any}
use Rattle.stx_base.specs.declared.fault.SheetCode.{SheetCode}
use Rattle.stx_base.specs.declared.fault.SheetCode.TheVariants as code
use Rattle.stx_base.specs.declared.name.Attr.{Attr}
use Rattle.stx_base.specs.declared.name.Binding.{Binding}
use Rattle.stx_base.specs.declared.name.Name.{Name}
use Rattle.stx_base.specs.Character.{is_ncname}
use Rattle.stxpath_syntax.specs.Readable.{IsReadable, IsReadablePattern, IsReadableTemplate}
use Rattle.stxpath_syntax.specs.Template.{IsExpression, IsPattern, IsTemplate, Read}
use Rattle.stxpath_syntax.specs.declared.dialect.Dialect.{Dialect}
use Rattle.stxpath_syntax.specs.declared.expr.Alternative.{Alternative}
use Rattle.stxpath_syntax.specs.declared.expr.AvtPart.{AvtPart}
use Rattle.stxpath_syntax.specs.declared.expr.Expr.{Expr}
use Rattle.stxpath_syntax.specs.Words.{uri_of}
use Rattle.sheet_model.specs.Sound.{IsSpelled}
use Rattle.sheet_model.specs.declared.pass.Pass.{Pass}
use Rattle.sheet_model.specs.declared.sheet.Sheet.{Sheet}
use Rattle.xml_events.specs.Tree.{Element}
use Rattle.xml_names.specs.QName.{has_colon, is_qname, local_of, prefix_of}
use Rattle.sheet_loader.specs.Attributes.{Any, Expression, Form, Named, Passing, Patterned, Priority, Row, Template_of_value, Tests, Version, Word, required}
use Rattle.sheet_loader.specs.Elements.{Kind, is_allowed}
use Rattle.sheet_loader.specs.Judging.{declares_again, fault_of, first_of, found, is_loop, is_version, refuses, rows_of, value_found, values, values_found}
use Rattle.sheet_loader.specs.Making.{Values, as_expression, as_name, behind, last_of, value_at}
use Rattle.sheet_loader.specs.Reading.{Context, Item}
use Rattle.sheet_loader.specs.Tags.{Found, found_at, found_by, is_bad_value, is_missing, is_unknown, path_fault, text_at}
use Rattle.sheet_loader.specs.Values.{A_name, A_pass, A_pattern, A_priority, A_template, A_word, An_expression, Reads, Value, are_tests, is_one_of, name_in, named, pass_in, priority_of, read, read_tests, some_value, value_of}

-- what is read of the path language is what some text is read as, and a name is spelled
abbrev pub ReadableAt : Option Value → Type 0
ReadableAt (Some (An_expression x)) = IsReadable x
ReadableAt (Some (A_pattern all)) = IsReadablePattern all
ReadableAt (Some (A_template parts)) = IsReadableTemplate parts
ReadableAt (Some (A_word word)) = Unit {0}
ReadableAt (Some (A_pass pass)) = Unit {0}
ReadableAt (Some (A_priority p)) = Unit {0}
ReadableAt (Some (A_name n)) = IsSpelled n
ReadableAt None = Unit {0}

abbrev pub IsReadableFound : Found → Type 0
IsReadableFound (Some (Ok value)) = ReadableAt (Some value)
IsReadableFound (Some (Err why)) = Unit {0}
IsReadableFound None = Unit {0}

expression_readable : (d : Dialect) (s : List Binding) (text : List ℕ) (r : Read Expr) → IsExpression d s 0 text r → IsReadableFound (Some (read An_expression r))
expression_readable d s text (Ok x) h = (d, s, 0, text, h)
expression_readable d s text (Err fault) h = tt

pattern_readable : (d : Dialect) (s : List Binding) (text : List ℕ) (r : Read (List Alternative)) → IsPattern d s text r → IsReadableFound (Some (read A_pattern r))
pattern_readable d s text (Ok x) h = (d, s, text, h)
pattern_readable d s text (Err fault) h = tt

tests_readable : (d : Dialect) (s : List Binding) (text : List ℕ) (r : Read (List Alternative)) → IsPattern d s text r → IsReadableFound (Some (read_tests r))
tests_readable d s text (Ok x) h = of_tests (list_all are_tests x) where
  of_tests : (b : Bool) → IsReadableFound (Some (if b then Ok (A_pattern x) else Err code.BadValue))
  of_tests true = (d, s, text, h)
  of_tests false = tt
tests_readable d s text (Err fault) h = tt

pub template_readable : (d : Dialect) (s : List Binding) (text : List ℕ) (r : Read (List AvtPart)) → IsTemplate d s text r → IsReadableFound (Some (read A_template r))
template_readable d s text (Ok x) h = (d, s, text, h)
template_readable d s text (Err fault) h = tt

word_readable : (b : Bool) (text : List ℕ) → IsReadableFound (Some (if b then Ok (A_word text) else Err code.BadValue))
word_readable true text = tt
word_readable false text = tt

pass_readable : (o : Option Pass) → IsReadableFound (Some (some_value A_pass o))
pass_readable None = tt
pass_readable (Some p) = tt

priority_readable : (o : Option ℤ) → IsReadableFound (Some (some_value A_priority o))
priority_readable None = tt
priority_readable (Some p) = tt

second : (a b : Bool) → (a && b) ≡ true → b ≡ true
second true b h = h
second false b h = absurd cc

name_readable : (s : List Binding) (text : List ℕ) → IsReadableFound (Some (some_value A_name (name_in s text)))
name_readable s text = by (is_qname text) refl (if length (prefix_of text) == 0 then Some [] else uri_of s (prefix_of text)) where
  by : (b : Bool) → is_qname text ≡ b → (uri : Option (List ℕ)) → IsReadableFound (Some (some_value A_name (if not b then None else named uri text)))
  by false q uri = tt
  by true q None = tt
  by true q (Some uri) = second (not (has_colon text) || is_ncname (prefix_of text)) (is_ncname (local_of text)) q

-- the row of a name
abbrev pub row_at : (word : List ℕ) → List Row → Option Row
row_at word [] = None
row_at word (row ∷ rows) = if bytes_eq row.name word then Some row else row_at word rows

missing_none : (t : Option (List ℕ)) → (true && not (is_some t)) ≡ false → (text : List ℕ) × (t ≡ Some text)
missing_none None h = absurd cc
missing_none (Some text) h = (text, refl)

neither : (a b : Bool) → (a || b) ≡ false → (a ≡ false) × (b ≡ false)
neither true b h = absurd cc
neither false b h = (refl, h)

behind_found : (f : Found) (others : List Found) → path_fault (f ∷ others) ≡ None → path_fault others ≡ None
behind_found None others h = h
behind_found (Some (Ok value)) others h = h
behind_found (Some (Err why)) others h = absurd cc

module _ (reads : Reads) (d : Dialect) (s : List Binding) where
  value_readable : (form : Form) (text : List ℕ) → IsReadableFound (Some (value_of reads d s form text))
  value_readable (Word words) text = word_readable (is_one_of words text) text
  value_readable Version text = tt
  value_readable Passing text = pass_readable (pass_in d text)
  value_readable Priority text = priority_readable (priority_of text)
  value_readable Named text = name_readable s text
  value_readable Expression text = expression_readable d s text (reads.expression d s text) (reads.expressions d s text)
  value_readable Patterned text = pattern_readable d s text (reads.pattern d s text) (reads.patterns d s text)
  value_readable Tests text = tests_readable d s text (reads.pattern d s text) (reads.patterns d s text)
  value_readable Template_of_value text = template_readable d s text (reads.template d s text) (reads.templates d s text)
  value_readable Any text = tt

  found_readable : (form : Form) (o : Option (List ℕ)) → IsReadableFound (found_by reads d s form o)
  found_readable form None = tt
  found_readable form (Some text) = value_readable form text

  at_row : (word : List ℕ) (row : Row) (f : Found) (others : Values) → IsReadableFound f → ReadableAt (value_at word others) → ReadableAt (value_at word (value_found row f ++ others))
  at_row word row None others h k = k
  at_row word row (Some (Err why)) others h k = k
  at_row word row (Some (Ok value)) others h k = of_name (bytes_eq row.name word) where
    of_name : (b : Bool) → ReadableAt (if b then Some value else value_at word others)
    of_name true = h
    of_name false = k

  -- whatever a tag has by some name is readable
  pub values_readable : (rows : List Row) (attrs : List Attr) (word : List ℕ) → ReadableAt (value_at word (values_found rows (found_at reads d s rows attrs)))
  values_readable [] attrs word = tt
  values_readable (row ∷ rows) attrs word =
      at_row word row (found_by reads d s row.form (text_at attrs row.name)) (values_found rows (found_at reads d s rows attrs))
      (found_readable row.form (text_at attrs row.name)) (values_readable rows attrs word)

  -- a value that was read by this form stands by the name
  pub record HasValue (word : List ℕ) (form : Form) (v : Values) : Type 0 where
    pub text : List ℕ
    pub value : Value
    pub read_so : value_of reads d s form text ≡ Ok value
    pub stands : value_at word v ≡ Some value

  first_found : (word : List ℕ) (row : Row) (form : Form) (t : Option (List ℕ)) (others : List Found) (vs : Values) (text : List ℕ) → bytes_eq row.name word ≡ true → t ≡ Some text
      → (r : Result Value SheetCode) → value_of reads d s form text ≡ r → path_fault (Some r ∷ others) ≡ None
      → HasValue word form (value_found row (Some r) ++ vs)
  first_found word row form t others vs text b e (Err why) q p = absurd cc
  first_found word row form t others vs text b e (Ok value) q p = record {
    text = text;
    value = value;
    read_so = q;
    stands = ap (λ c. if c then Some value else value_at word vs) b;
  }

  later_found : (word : List ℕ) (row : Row) (form : Form) (f : Found) (vs : Values) → bytes_eq row.name word ≡ false → HasValue word form vs → HasValue word form (value_found row f ++ vs)
  later_found word row form None vs b h = h
  later_found word row form (Some (Err why)) vs b h = h
  later_found word row form (Some (Ok value)) vs b h = record {
    text = h.text;
    value = h.value;
    read_so = h.read_so;
    stands = ap (λ c. if c then Some value else value_at word vs) b ∙ h.stands;
  }

  -- a required attribute of a tag without faults is there
  pub present : (rows : List Row) (attrs : List Attr) (word : List ℕ) (form : Form) → row_at word rows ≡ Some (required word form)
      → list_any (is_missing attrs) rows ≡ false → path_fault (found_at reads d s rows attrs) ≡ None
      → HasValue word form (values_found rows (found_at reads d s rows attrs))
  present [] attrs word form h m p = absurd cc
  present (row ∷ rows) attrs word form h m p = by_name (present rows attrs word form) (bytes_eq row.name word) refl where
    by_name : (row_at word rows ≡ Some (required word form) → list_any (is_missing attrs) rows ≡ false → path_fault (found_at reads d s rows attrs) ≡ None → HasValue word form (values_found rows (found_at reads d s rows attrs)))
        → (b : Bool) → bytes_eq row.name word ≡ b → HasValue word form (value_found row (found_by reads d s row.form (text_at attrs row.name)) ++ values_found rows (found_at reads d s rows attrs))
    by_name rest false e =
        let at : row_at word rows ≡ Some (required word form) = sym (ap (λ c. if c then Some row else row_at word rows) e) ∙ h in
        let m2 = neither (is_missing attrs row) (list_any (is_missing attrs) rows) m in
        later_found word row form (found_by reads d s row.form (text_at attrs row.name)) (values_found rows (found_at reads d s rows attrs)) e
        (rest at m2.1 (behind_found (found_by reads d s row.form (text_at attrs row.name)) (found_at reads d s rows attrs) p))
    by_name rest true e =
        let same : Some row ≡ Some (required word form) = sym (ap (λ c. if c then Some row else row_at word rows) e) ∙ h in
        let is : row ≡ required word form = cc in
        let asks : row.is_required ≡ true = ap (λ (x : Row). x.is_required) is in
        let formed : row.form ≡ form = ap (λ (x : Row). x.form) is in
        let m2 = neither (is_missing attrs row) (list_any (is_missing attrs) rows) m in
        let there = missing_none (text_at attrs row.name) (sym (ap (λ c. c && not (is_some (text_at attrs row.name))) asks) ∙ m2.0) in
        let g : found_by reads d s row.form (text_at attrs row.name) ≡ Some (value_of reads d s form there.0) =
        ap (λ t. found_by reads d s row.form t) there.1 ∙ ap (λ w. Some (value_of reads d s w there.0)) formed in
        subst (λ x. HasValue word form (value_found row x ++ values_found rows (found_at reads d s rows attrs))) (sym g)
        (first_found word row form (text_at attrs row.name) (found_at reads d s rows attrs) (values_found rows (found_at reads d s rows attrs)) there.0 e there.1
        (value_of reads d s form there.0) refl (subst (λ x. path_fault (x ∷ found_at reads d s rows attrs) ≡ None) g p))

  named_by : (o : Option Name) (value : Value) → some_value A_name o ≡ Ok value → (n : Name) × (value ≡ A_name n)
  named_by None value h = absurd cc
  named_by (Some n) value h = (n, cc)

  expression_by : (r : Read Expr) (value : Value) → read An_expression r ≡ Ok value → (x : Expr) × (value ≡ An_expression x)
  expression_by (Err fault) value h = absurd cc
  expression_by (Ok x) value h = (x, cc)

  pattern_by : (r : Read (List Alternative)) (value : Value) → read A_pattern r ≡ Ok value → (all : List Alternative) × (value ≡ A_pattern all)
  pattern_by (Err fault) value h = absurd cc
  pattern_by (Ok x) value h = (x, cc)

  pub has_name : (word : List ℕ) (v : Values) → HasValue word Named v → (n : Name) × (as_name (value_at word v) ≡ Some n)
  has_name word v h =
      let n = named_by (name_in s h.text) h.value h.read_so in (n.0, ap as_name (h.stands ∙ ap (λ x. Some x) n.1))

  pub has_expression : (word : List ℕ) (v : Values) → HasValue word Expression v → (x : Expr) × (as_expression (value_at word v) ≡ Some x)
  has_expression word v h =
      let n = expression_by (reads.expression d s h.text) h.value h.read_so in (n.0, ap as_expression (h.stands ∙ ap (λ x. Some x) n.1))

  pub has_pattern : (word : List ℕ) (v : Values) → HasValue word Patterned v → (all : List Alternative) × (value_at word v ≡ Some (A_pattern all))
  has_pattern word v h =
      let n = pattern_by (reads.pattern d s h.text) h.value h.read_so in (n.0, h.stands ∙ ap (λ x. Some x) n.1)

  -- no row, and no value
  absent_found : (word : List ℕ) (row : Row) (f : Found) (vs : Values) → bytes_eq row.name word ≡ false → value_at word vs ≡ None → value_at word (value_found row f ++ vs) ≡ None
  absent_found word row None vs b h = h
  absent_found word row (Some (Err why)) vs b h = h
  absent_found word row (Some (Ok value)) vs b h = ap (λ c. if c then Some value else value_at word vs) b ∙ h

  pub absent : (rows : List Row) (attrs : List Attr) (word : List ℕ) → row_at word rows ≡ None → value_at word (values_found rows (found_at reads d s rows attrs)) ≡ None
  absent [] attrs word h = refl
  absent (row ∷ rows) attrs word h = by_name (absent rows attrs word) (bytes_eq row.name word) refl where
    by_name : (row_at word rows ≡ None → value_at word (values_found rows (found_at reads d s rows attrs)) ≡ None) → (b : Bool) → bytes_eq row.name word ≡ b → value_at word (value_found row (found_by reads d s row.form (text_at attrs row.name)) ++ values_found rows (found_at reads d s rows attrs)) ≡ None
    by_name rest true e = absurd (let n : Some row ≡ None = sym (ap (λ c. if c then Some row else row_at word rows) e) ∙ h in cc)
    by_name rest false e =
        absent_found word row (found_by reads d s row.form (text_at attrs row.name)) (values_found rows (found_at reads d s rows attrs)) e
        (rest (sym (ap (λ c. if c then Some row else row_at word rows) e) ∙ h))

-- A tag without faults.
pub record Faultless (reads : Reads) (here : Context) (before : List Item) (sheet : Sheet) (e : Element) (kind : Kind) : Type 0 where
  pub allowed : is_allowed (behind here.inside before) (last_of before) kind ≡ true
  pub complete : list_any (is_missing e.attrs) (rows_of here kind) ≡ false
  pub paths : path_fault (found reads here kind e) ≡ None
  pub declares : declares_again here before sheet kind (values reads here kind e) ≡ false

first_none : (o : Option SheetCode) (others : List (Option SheetCode)) → first_of (o ∷ others) ≡ None → (o ≡ None) × (first_of others ≡ None)
first_none None others h = (refl, h)
first_none (Some why) others h = absurd cc

not_refused : (b : Bool) (why : SheetCode) → refuses b why ≡ None → b ≡ false
not_refused true why h = absurd cc
not_refused false why h = refl

is_so : (b : Bool) → not b ≡ false → b ≡ true
is_so true h = refl
is_so false h = absurd cc

pub faultless : (reads : Reads) (here : Context) (before : List Item) (sheet : Sheet) (e : Element) (kind : Kind) → fault_of reads here before sheet e kind ≡ None → Faultless reads here before sheet e kind
faultless reads here before sheet e kind h =
    let rows = rows_of here kind in
    let misplaced = refuses (not (is_allowed (behind here.inside before) (last_of before) kind)) code.Misplaced in
    let unknown = refuses (list_any (is_unknown rows) e.attrs) code.UnknownAttribute in
    let lacking = refuses (list_any (is_missing e.attrs) rows) code.MissingAttribute in
    let versioned = refuses (list_any (λ row. is_version row.form) rows && not here.version.is_known) code.Version in
    let bad = refuses (list_any is_bad_value (found reads here kind e)) code.BadValue in
    let paths = path_fault (found reads here kind e) in
    let again = refuses (declares_again here before sheet kind (values reads here kind e)) code.DuplicateName in
    let loop = refuses (is_loop here kind (values reads here kind e)) code.IncludeLoop in
    let a = first_none misplaced (unknown ∷ lacking ∷ versioned ∷ bad ∷ paths ∷ again ∷ loop ∷ []) h in
    let b = first_none unknown (lacking ∷ versioned ∷ bad ∷ paths ∷ again ∷ loop ∷ []) a.1 in
    let c = first_none lacking (versioned ∷ bad ∷ paths ∷ again ∷ loop ∷ []) b.1 in
    let d = first_none versioned (bad ∷ paths ∷ again ∷ loop ∷ []) c.1 in
    let f = first_none bad (paths ∷ again ∷ loop ∷ []) d.1 in
    let g = first_none paths (again ∷ loop ∷ []) f.1 in
    let i = first_none again (loop ∷ []) g.1 in
    record {
      allowed = is_so (is_allowed (behind here.inside before) (last_of before) kind) (not_refused (not (is_allowed (behind here.inside before) (last_of before) kind)) code.Misplaced a.0);
      complete = not_refused (list_any (is_missing e.attrs) rows) code.MissingAttribute c.0;
      paths = g.0;
      declares = not_refused (declares_again here before sheet kind (values reads here kind e)) code.DuplicateName i.0;
    }
