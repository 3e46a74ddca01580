-- A sheet that is given has few entries beside what its files weigh.
use Rattle.std.proofs.Common.{◌≡◌, ℕ, ℤ, zero, suc, ◌+◌, ◌*◌, ◌≤◌, Bool, true, false, ◌&&◌, List, [], ◌∷◌, ◌++◌, Option, Some, None, Ok, Err, codes, length, map, slice_get, bytes_eq, refl, ap, ◌∙◌, arith, sum_by, if◌then◌else◌}
use Rattle.std.proofs.lemmas.List.{length-append, length-map}
use Rattle.std.proofs.lemmas.List.Sums.{sum_by-append, sum_by-cons}
use Rattle.std.specs.List.{flat_map, list_all}
use Rattle.stx_base.specs.declared.fault.SheetCode.TheVariants as code
use Rattle.stx_base.specs.declared.name.Attr.{Attr}
use Rattle.stx_base.specs.declared.name.Binding.{Binding}
use Rattle.stx_base.specs.declared.name.Name.{Name}
use Rattle.stx_base.specs.declared.part.Part.TheVariants as part
use Rattle.stxpath_syntax.specs.Template.{IsExpression, IsPattern, IsTemplate, Read}
use Rattle.stxpath_syntax.specs.declared.dialect.Dialect.{Dialect}
use Rattle.stxpath_syntax.specs.declared.expr.Alternative.{Alternative}
use Rattle.stxpath_syntax.specs.declared.expr.AvtPart.{AvtPart}
use Rattle.stxpath_syntax.specs.declared.expr.Expr.{Expr}
use Rattle.sheet_model.proofs.Searches.{all_of-append}
use Rattle.sheet_model.specs.Body.{all_of}
use Rattle.sheet_model.specs.Entries.{entries, instruction_entries, pattern_entries, template_entries, variable_entries, variables_entries}
use Rattle.sheet_model.specs.declared.instr.Instr.{Instr}
use Rattle.sheet_model.specs.declared.instr.Instr.TheVariants as instr
use Rattle.sheet_model.specs.declared.instr.Instr.TheOpen.{Instr-F}
use Rattle.sheet_model.specs.declared.instr.Instr.TheViews.{rolls-Literal, rolls-LiteralChars}
use Rattle.sheet_model.specs.declared.instr.LiteralAttr.{LiteralAttr}
use Rattle.sheet_model.specs.declared.pass.Pass.{Pass}
use Rattle.sheet_model.specs.declared.sheet.Buffer.{Buffer}
use Rattle.sheet_model.specs.declared.sheet.Procedure.{Procedure}
use Rattle.sheet_model.specs.declared.sheet.Sheet.{Sheet}
use Rattle.sheet_model.specs.declared.sheet.Template.{Template}
use Rattle.xml_events.specs.Tree.{Element, Forest}
use Rattle.sheet_loader.proofs.Came.{Came, CameWhole, given_came, at_end, attrs_of, behind_tag, copied_items, copies, element_made, href_of, includes, literal_item, makes, passes, referring, speaks, writes}
use Rattle.sheet_loader.proofs.ItemEntries.{count_at, item_few, measured, measures, measures_append, or_pattern, parts_measure, size, size_one, variable_few}
use Rattle.sheet_loader.proofs.TextEntries.{expression_fits, of_parts, pattern_fits, template_fits}
use Rattle.sheet_loader.specs.Attributes.{Any, Expression, Form, Named, Passing, Patterned, Priority, Row, Template_of_value, Tests, Version, Word}
use Rattle.sheet_loader.specs.Elements as element
use Rattle.sheet_loader.specs.Elements.{Kind, Inside, Document, Declarations, Start_of_body, Body, Branches, With_params, Characters, Parts, Nothing, is_own, makes_group}
use Rattle.sheet_loader.specs.Judging.{is_declared_here, rows_of, scope_at, value_found, values, values_found}
use Rattle.sheet_loader.specs.Making.{Values, body, item, parts, value_at, variable}
use Rattle.sheet_loader.specs.Read.{attribute_part, begun, buffer_at, element_parts, ended, inner_group, listed, literal_attrs, made, parts_of_template, procedure_at, template_at, text_item, with_group, with_root}
use Rattle.sheet_loader.specs.Reading.{Context, File, Item, Listed, Loading, place}
use Rattle.sheet_loader.specs.Tags.{Found, found_at, found_by, is_plain, text_at}
use Rattle.sheet_loader.specs.Values.{A_name, A_pass, A_pattern, A_priority, A_template, A_word, An_expression, Reads, are_tests, is_one_of, name_in, pass_in, priority_of, read, read_tests, some_value, value_of}
use Rattle.sheet_loader.specs.Weighing.{GivenIsFew, file_weight, files_weight, weight}

abbrev values_weight : List Attr → ℕ
values_weight attrs = sum_by (λ (a : Attr). length a.value + 1) attrs

-- What the values of a tag count.

abbrev FewFound : ℕ → Found → Type 0
FewFound n (Some (Ok value)) = count_at (Some value) ≤ n
FewFound n (Some (Err why)) = Unit {0}
FewFound n None = Unit {0}

expression_count : (d : Dialect) (s : List Binding) (text : List ℕ) (r : Read Expr) → IsExpression d s 0 text r → FewFound (length text + 1) (Some (read An_expression r))
expression_count d s text (Ok x) h = let f = expression_fits d s 0 text x h in omega (arith, f)
expression_count d s text (Err fault) h = tt

pattern_count : (d : Dialect) (s : List Binding) (text : List ℕ) (r : Read (List Alternative)) → IsPattern d s text r → FewFound (length text + 1) (Some (read A_pattern r))
pattern_count d s text (Ok x) h = pattern_fits d s text x h
pattern_count d s text (Err fault) h = tt

tests_count : (d : Dialect) (s : List Binding) (text : List ℕ) (r : Read (List Alternative)) → IsPattern d s text r → FewFound (length text + 1) (Some (read_tests r))
tests_count d s text (Ok x) h = of_tests (list_all are_tests x) where
  of_tests : (b : Bool) → FewFound (length text + 1) (Some (if b then Ok (A_pattern x) else Err code.BadValue))
  of_tests true = pattern_fits d s text x h
  of_tests false = tt
tests_count d s text (Err fault) h = tt

template_count : (d : Dialect) (s : List Binding) (text : List ℕ) (r : Read (List AvtPart)) → IsTemplate d s text r → FewFound (length text + 1) (Some (read A_template r))
template_count d s text (Ok x) h = let f = template_fits d s text x h in omega (arith, f)
template_count d s text (Err fault) h = tt

word_count : (b : Bool) (n : ℕ) (text : List ℕ) → FewFound n (Some (if b then Ok (A_word text) else Err code.BadValue))
word_count true n text = omega arith
word_count false n text = tt

pass_count : (n : ℕ) (o : Option Pass) → FewFound n (Some (some_value A_pass o))
pass_count n None = tt
pass_count n (Some p) = omega arith

priority_count : (n : ℕ) (o : Option ℤ) → FewFound n (Some (some_value A_priority o))
priority_count n None = tt
priority_count n (Some p) = omega arith

name_count : (n : ℕ) (o : Option Name) → FewFound n (Some (some_value A_name o))
name_count n None = tt
name_count n (Some m) = omega arith

found_more : (n m : ℕ) (f : Found) → n ≤ m → FewFound n f → FewFound m f
found_more n m (Some (Ok value)) l h = omega (arith, l, h)
found_more n m (Some (Err why)) l h = tt
found_more n m None l h = tt

-- a value that an attribute has weighs no more than all do
text_few : (attrs : List Attr) (word text : List ℕ) → text_at attrs word ≡ Some text → length text + 1 ≤ values_weight attrs
text_few [] word text e = absurd cc
text_few (a ∷ attrs) word text e = by (is_plain a && bytes_eq a.name.local word) e (text_few attrs word text) where
  by : (b : Bool) → (if b then Some a.value else text_at attrs word) ≡ Some text → (text_at attrs word ≡ Some text → length text + 1 ≤ values_weight attrs) → length text + 1 ≤ values_weight (a ∷ attrs)
  by true h rest =
      let same : a.value ≡ text = cc in
      let l = ap (λ (t : List ℕ). length t) same in let c = sum_by-cons (λ (a : Attr). length a.value + 1) a attrs in omega (arith, l, c)
  by false h rest = let r = rest h in let c = sum_by-cons (λ (a : Attr). length a.value + 1) a attrs in omega (arith, r, c)

module _ (reads : Reads) (d : Dialect) (s : List Binding) where
  value_count : (form : Form) (text : List ℕ) → FewFound (length text + 1) (Some (value_of reads d s form text))
  value_count (Word words) text = word_count (is_one_of words text) (length text + 1) text
  value_count Version text = omega arith
  value_count Passing text = pass_count (length text + 1) (pass_in d text)
  value_count Priority text = priority_count (length text + 1) (priority_of text)
  value_count Named text = name_count (length text + 1) (name_in s text)
  value_count Expression text = expression_count d s text (reads.expression d s text) (reads.expressions d s text)
  value_count Patterned text = pattern_count d s text (reads.pattern d s text) (reads.patterns d s text)
  value_count Tests text = tests_count d s text (reads.pattern d s text) (reads.patterns d s text)
  value_count Template_of_value text = template_count d s text (reads.template d s text) (reads.templates d s text)
  value_count Any text = omega arith

  found_count : (attrs : List Attr) (word : List ℕ) (form : Form) (o : Option (List ℕ)) → text_at attrs word ≡ o → FewFound (values_weight attrs) (found_by reads d s form o)
  found_count attrs word form None e = tt
  found_count attrs word form (Some text) e = found_more (length text + 1) (values_weight attrs) (Some (value_of reads d s form text)) (text_few attrs word text e) (value_count form text)

  at_row : (n : ℕ) (word : List ℕ) (row : Row) (f : Found) (others : Values) → FewFound n f → count_at (value_at word others) ≤ n → count_at (value_at word (value_found row f ++ others)) ≤ n
  at_row n word row None others h k = k
  at_row n word row (Some (Err why)) others h k = k
  at_row n word row (Some (Ok value)) others h k = of_name (bytes_eq row.name word) where
    of_name : (b : Bool) → count_at (if b then Some value else value_at word others) ≤ n
    of_name true = h
    of_name false = k

  values_count : (rows : List Row) (attrs : List Attr) (word : List ℕ) → count_at (value_at word (values_found rows (found_at reads d s rows attrs))) ≤ values_weight attrs
  values_count [] attrs word = omega arith
  values_count (row ∷ rows) attrs word =
      at_row (values_weight attrs) word row (found_by reads d s row.form (text_at attrs row.name)) (values_found rows (found_at reads d s rows attrs))
      (found_count attrs row.name row.form (text_at attrs row.name) refl) (values_count rows attrs word)

-- What a sheet counts, list by list.

abbrev templates_count : List Template → ℕ
templates_count ts = sum_by (λ (t : Template). 1 + pattern_entries t.pattern + variables_entries t.params + size t.body) ts

abbrev procedures_count : List Procedure → ℕ
procedures_count ps = sum_by (λ (p : Procedure). 1 + variables_entries p.params + size p.body) ps

abbrev buffers_count : List Buffer → ℕ
buffers_count bs = sum_by (λ (b : Buffer). 1 + length b.content) bs

abbrev count : Sheet → ℕ
count s = length s.groups + length s.files + templates_count s.templates + procedures_count s.procedures + buffers_count s.buffers + variables_entries s.variables

abbrev all_entries : List Instr → ℕ
all_entries is = sum_by instruction_entries (all_of is)

all_append : (is js : List Instr) → all_entries (is ++ js) ≡ all_entries is + all_entries js
all_append is js = ap (sum_by instruction_entries) (all_of-append is js) ∙ sum_by-append instruction_entries (all_of is) (all_of js)

templates_are : (ts : List Template) → length ts + sum_by (λ (t : Template). pattern_entries t.pattern + variables_entries t.params + length t.body) ts + all_entries (flat_map (λ (t : Template). t.body) ts) ≡ templates_count ts
templates_are [] = refl
templates_are (t ∷ ts) =
    let r = templates_are ts in
    let a = sum_by-cons (λ (t : Template). pattern_entries t.pattern + variables_entries t.params + length t.body) t ts in
    let b = sum_by-cons (λ (t : Template). 1 + pattern_entries t.pattern + variables_entries t.params + size t.body) t ts in
    let c = all_append t.body (flat_map (λ (t : Template). t.body) ts) in
    omega (arith, r, a, b, c)

procedures_are : (ps : List Procedure) → length ps + sum_by (λ (p : Procedure). variables_entries p.params + length p.body) ps + all_entries (flat_map (λ (p : Procedure). p.body) ps) ≡ procedures_count ps
procedures_are [] = refl
procedures_are (p ∷ ps) =
    let r = procedures_are ps in
    let a = sum_by-cons (λ (p : Procedure). variables_entries p.params + length p.body) p ps in
    let b = sum_by-cons (λ (p : Procedure). 1 + variables_entries p.params + size p.body) p ps in
    let c = all_append p.body (flat_map (λ (p : Procedure). p.body) ps) in
    omega (arith, r, a, b, c)

buffers_are : (bs : List Buffer) → length bs + sum_by (λ (b : Buffer). length b.content) bs ≡ buffers_count bs
buffers_are [] = refl
buffers_are (b ∷ bs) =
    let r = buffers_are bs in let a = sum_by-cons (λ (b : Buffer). length b.content) b bs in let c = sum_by-cons (λ (b : Buffer). 1 + length b.content) b bs in omega (arith, r, a, c)

entries_are : (s : Sheet) → entries s ≡ count s
entries_are s =
    let t = templates_are s.templates in
    let p = procedures_are s.procedures in
    let b = buffers_are s.buffers in
    let a = all_append (flat_map (λ (t : Template). t.body) s.templates) (flat_map (λ (p : Procedure). p.body) s.procedures) in
    omega (arith, t, p, b, a)

-- What steps add.

begun_few : (here : Context) (at : ℕ) (kind : Kind) (v : Values) (l : Loading) → count (begun here at kind v l).sheet ≤ count l.sheet + 1
begun_few here at kind v l = by (is_own here.inside) (makes_group kind) where
  by : (b c : Bool) → count (if b then with_root here at v l else if c then with_group here at v l else l).sheet ≤ count l.sheet + 1
  by true c = omega arith
  by false true = let a = length-append l.sheet.groups (inner_group here at v ∷ []) in omega (arith, a)
  by false false = omega arith

begun_files : (here : Context) (at : ℕ) (kind : Kind) (v : Values) (l : Loading) → (begun here at kind v l).sheet.files ≡ l.sheet.files
begun_files here at kind v l = by (is_own here.inside) (makes_group kind) where
  by : (b c : Bool) → (if b then with_root here at v l else if c then with_group here at v l else l).sheet.files ≡ l.sheet.files
  by true c = refl
  by false true = refl
  by false false = refl

module _ (here : Context) (at : ℕ) (v : Values) (r : Listed) (n : ℕ) (h : (word : List ℕ) → count_at (value_at word v) ≤ n) where
  ended_few : (kind : Kind) → count (ended here at kind v r).sheet ≤ count r.loading.sheet + 1 + n + measures r.items
  ended_few element.Template =
      let s = r.loading.sheet in
      let m = measured r.items in
      let t = sum_by-append (λ (t : Template). 1 + pattern_entries t.pattern + variables_entries t.params + size t.body) s.templates (template_at here at v r.items ∷ []) in
      let p = sum_by-append (λ (p : Procedure). 1 + variables_entries p.params + size p.body) s.procedures [] in
      let b = sum_by-append (λ (b : Buffer). 1 + length b.content) s.buffers [] in
      let x = sum_by-append variable_entries s.variables [] in
      let l = length-append s.variables [] in
      let f = or_pattern (value_at (codes "match") v) n (h (codes "match")) in
      let c = sum_by-cons (λ (t : Template). 1 + pattern_entries t.pattern + variables_entries t.params + size t.body) (template_at here at v r.items) [] in
      omega (arith, m, t, p, b, x, l, f, c)
  ended_few element.Procedure =
      let s = r.loading.sheet in
      let m = measured r.items in
      let t = sum_by-append (λ (t : Template). 1 + pattern_entries t.pattern + variables_entries t.params + size t.body) s.templates [] in
      let p = sum_by-append (λ (p : Procedure). 1 + variables_entries p.params + size p.body) s.procedures (procedure_at here at v r.items ∷ []) in
      let b = sum_by-append (λ (b : Buffer). 1 + length b.content) s.buffers [] in
      let x = sum_by-append variable_entries s.variables [] in
      let l = length-append s.variables [] in
      let c = sum_by-cons (λ (p : Procedure). 1 + variables_entries p.params + size p.body) (procedure_at here at v r.items) [] in
      omega (arith, m, t, p, b, x, l, c)
  ended_few element.Buffer =
      let s = r.loading.sheet in
      let m = measured r.items in
      let t = sum_by-append (λ (t : Template). 1 + pattern_entries t.pattern + variables_entries t.params + size t.body) s.templates [] in
      let p = sum_by-append (λ (p : Procedure). 1 + variables_entries p.params + size p.body) s.procedures [] in
      let b = sum_by-append (λ (b : Buffer). 1 + length b.content) s.buffers (buffer_at here at v r.items ∷ []) in
      let x = sum_by-append variable_entries s.variables [] in
      let l = length-append s.variables [] in
      let c = sum_by-cons (λ (b : Buffer). 1 + length b.content) (buffer_at here at v r.items) [] in
      omega (arith, m, t, p, b, x, l, c)
  ended_few element.Param =
      let s = r.loading.sheet in
      let m = measured r.items in
      let t = sum_by-append (λ (t : Template). 1 + pattern_entries t.pattern + variables_entries t.params + size t.body) s.templates [] in
      let p = sum_by-append (λ (p : Procedure). 1 + variables_entries p.params + size p.body) s.procedures [] in
      let b = sum_by-append (λ (b : Buffer). 1 + length b.content) s.buffers [] in
      let x = sum_by-append variable_entries s.variables (variable here.group true (place here at) v ∷ []) in
      let l = length-append s.variables (variable here.group true (place here at) v ∷ []) in
      let f = variable_few (value_at (codes "select") v) n (h (codes "select")) in
      let c = sum_by-cons variable_entries (variable here.group true (place here at) v) [] in
      omega (arith, m, t, p, b, x, l, f, c)
  ended_few element.Variable =
      let s = r.loading.sheet in
      let m = measured r.items in
      let t = sum_by-append (λ (t : Template). 1 + pattern_entries t.pattern + variables_entries t.params + size t.body) s.templates [] in
      let p = sum_by-append (λ (p : Procedure). 1 + variables_entries p.params + size p.body) s.procedures [] in
      let b = sum_by-append (λ (b : Buffer). 1 + length b.content) s.buffers [] in
      let x = sum_by-append variable_entries s.variables (variable here.group false (place here at) v ∷ []) in
      let l = length-append s.variables (variable here.group false (place here at) v ∷ []) in
      let f = variable_few (value_at (codes "select") v) n (h (codes "select")) in
      let c = sum_by-cons variable_entries (variable here.group false (place here at) v) [] in
      omega (arith, m, t, p, b, x, l, f, c)
  ended_few kind =
      let s = r.loading.sheet in
      let m = measured r.items in
      let t = sum_by-append (λ (t : Template). 1 + pattern_entries t.pattern + variables_entries t.params + size t.body) s.templates [] in
      let p = sum_by-append (λ (p : Procedure). 1 + variables_entries p.params + size p.body) s.procedures [] in
      let b = sum_by-append (λ (b : Buffer). 1 + length b.content) s.buffers [] in
      let x = sum_by-append variable_entries s.variables [] in
      let l = length-append s.variables [] in
      omega (arith, m, t, p, b, x, l)

  made_few : (kind : Kind) (scope : List Binding) → count (made here at kind scope v r).loading.sheet + measures (made here at kind scope v r).items ≤ count r.loading.sheet + 1 + 3 * n + measures r.items
  made_few kind scope = by (is_declared_here here.inside) where
    by : (b : Bool) → count (if b then listed [] (ended here at kind v r) else listed (item kind here.group (place here at) scope v r.items) r.loading).loading.sheet
        + measures (if b then listed [] (ended here at kind v r) else listed (item kind here.group (place here at) scope v r.items) r.loading).items ≤ count r.loading.sheet + 1 + 3 * n + measures r.items
    by true = let e = ended_few kind in omega (arith, e)
    by false = let i = item_few here.group (place here at) scope v r.items n h kind in omega (arith, i)

  made_files : (kind : Kind) (scope : List Binding) → (made here at kind scope v r).loading.sheet.files ≡ r.loading.sheet.files
  made_files kind scope = by (is_declared_here here.inside) where
    by : (b : Bool) → (if b then listed [] (ended here at kind v r) else listed (item kind here.group (place here at) scope v r.items) r.loading).loading.sheet.files ≡ r.loading.sheet.files
    by true = refl
    by false = refl

text_few_items : (reads : Reads) (files : List (Option File)) (here : Context) (offset : ℕ) (said : List ℕ) (list : Inside) → measures (text_item reads files here offset said list) ≤ 1
text_few_items reads files here offset said (Document b) = let o = size_one (instr.LiteralChars said (place here offset)) (Instr-F.LiteralChars said (place here offset)) (rolls-LiteralChars said (place here offset)) in omega (arith, o)
text_few_items reads files here offset said (Declarations b) = let o = size_one (instr.LiteralChars said (place here offset)) (Instr-F.LiteralChars said (place here offset)) (rolls-LiteralChars said (place here offset)) in omega (arith, o)
text_few_items reads files here offset said Start_of_body = let o = size_one (instr.LiteralChars said (place here offset)) (Instr-F.LiteralChars said (place here offset)) (rolls-LiteralChars said (place here offset)) in omega (arith, o)
text_few_items reads files here offset said Body = let o = size_one (instr.LiteralChars said (place here offset)) (Instr-F.LiteralChars said (place here offset)) (rolls-LiteralChars said (place here offset)) in omega (arith, o)
text_few_items reads files here offset said Branches = let o = size_one (instr.LiteralChars said (place here offset)) (Instr-F.LiteralChars said (place here offset)) (rolls-LiteralChars said (place here offset)) in omega (arith, o)
text_few_items reads files here offset said With_params = let o = size_one (instr.LiteralChars said (place here offset)) (Instr-F.LiteralChars said (place here offset)) (rolls-LiteralChars said (place here offset)) in omega (arith, o)
text_few_items reads files here offset said Nothing = let o = size_one (instr.LiteralChars said (place here offset)) (Instr-F.LiteralChars said (place here offset)) (rolls-LiteralChars said (place here offset)) in omega (arith, o)
text_few_items reads files here offset said (Characters b) = omega arith
text_few_items reads files here offset said Parts = omega arith

part_count : (reads : Reads) (files : List (Option File)) (d : Dialect) (s : List Binding) (said : List ℕ) (r : Read (List AvtPart)) → IsTemplate d s said r → of_parts (parts_of_template reads files (Some (read A_template r))) ≤ length said
part_count reads files d s said (Ok ps) h = template_fits d s said ps h
part_count reads files d s said (Err why) h = omega arith

attrs_count : (reads : Reads) (files : List (Option File)) (d : Dialect) (s : List Binding) (attrs : List Attr)
    → length (literal_attrs reads files attrs (map (λ a. Some (read A_template (reads.template d s a.value))) attrs))
    + sum_by template_entries (map (λ (a : LiteralAttr). a.value) (literal_attrs reads files attrs (map (λ a. Some (read A_template (reads.template d s a.value))) attrs))) ≤ values_weight attrs
attrs_count reads files d s [] = omega arith
attrs_count reads files d s (a ∷ attrs) =
    let r = attrs_count reads files d s attrs in
    let p = part_count reads files d s a.value (reads.template d s a.value) (reads.templates d s a.value) in
    let others = map (λ (a : LiteralAttr). a.value) (literal_attrs reads files attrs (map (λ a. Some (read A_template (reads.template d s a.value))) attrs)) in
    let c = sum_by-cons template_entries (record { parts = parts_of_template reads files (Some (read A_template (reads.template d s a.value))) }) others in
    let w = sum_by-cons (λ (a : Attr). length a.value + 1) a attrs in
    omega (arith, r, p, c, w)

literal_few : (reads : Reads) (files : List (Option File)) (here : Context) (e : Element) (items : List Item) → measures (literal_item reads files here e items) ≤ 1 + values_weight e.attrs + measures items
literal_few reads files here e items =
    let attrs = attrs_of reads files here e in
    let a = attrs_count reads files here.version.dialect (scope_at here e) e.attrs in
    let o = size_one (instr.Literal e.name attrs (body items) (place here e.offset)) (Instr-F.Literal e.name attrs (body items) (place here e.offset)) (rolls-Literal e.name attrs (body items) (place here e.offset)) in
    let m = measured items in
    omega (arith, a, o, m)

attrs_some : (attrs : List Attr) → length attrs ≤ values_weight attrs
attrs_some [] = omega arith
attrs_some (a ∷ attrs) = let r = attrs_some attrs in let w = sum_by-cons (λ (a : Attr). length a.value + 1) a attrs in omega (arith, r, w)

copied_few : (reads : Reads) (files : List (Option File)) (e : Element) (items : List Item) → measures (copied_items reads files e items) ≤ 2 + values_weight e.attrs + measures items
copied_few reads files e items =
    let ps = element_parts reads files e (parts items) in
    let p = parts_measure ps in
    let m = measured items in
    let a = attrs_some e.attrs in
    let b = length-append (map (attribute_part reads files) e.attrs ++ parts items) (part.End e.name ∷ []) in
    let c = length-append (map (attribute_part reads files) e.attrs) (parts items) in
    let d = length-map e.attrs (attribute_part reads files) in
    omega (arith, p, m, a, b, c, d)

-- The files, by their places.

-- the first so many
abbrev weight_to : List (Option File) → ℕ → ℕ
weight_to [] n = 0
weight_to (f ∷ files) zero = 0
weight_to (f ∷ files) (suc n) = file_weight f + weight_to files n

weight_next : (files : List (Option File)) (n : ℕ) (file : File) → slice_get files n ≡ Some (Some file) → weight_to files (suc n) ≡ weight_to files n + weight file.nodes
weight_next [] n file e = absurd cc
weight_next (f ∷ files) zero file e = let same : f ≡ Some file = cc in let w = ap file_weight same in let z = no_more files in omega (arith, w, z)
  where
    no_more : (fs : List (Option File)) → weight_to fs 0 ≡ 0
    no_more [] = refl
    no_more (x ∷ fs) = refl
weight_next (f ∷ files) (suc n) file e = let r = weight_next files n file e in omega (arith, r)

weight_most : (files : List (Option File)) (n : ℕ) → weight_to files n ≤ files_weight files
weight_most [] n = omega arith
weight_most (f ∷ files) zero = omega arith
weight_most (f ∷ files) (suc n) = let r = weight_most files n in let c = sum_by-cons file_weight f files in omega (arith, r, c)

module _ (reads : Reads) (files : List (Option File)) where
  abbrev upto : Loading → ℕ
  upto l = weight_to files (length l.sheet.files)

  same_upto : (a b : List (List ℕ)) → a ≡ b → weight_to files (length a) ≡ weight_to files (length b)
  same_upto a b e = ap (λ (fs : List (List ℕ)). weight_to files (length fs)) e

  values_few : (here : Context) (kind : Kind) (e : Element) (word : List ℕ) → count_at (value_at word (values reads here kind e)) ≤ values_weight e.attrs
  values_few here kind e word = values_count reads here.version.dialect (scope_at here e) (rows_of here kind) e.attrs word

  came_few : {here : Context} {before : List Item} {list : Forest} {l : Loading} {r : Listed} → Came reads files here before list l r
      → count r.loading.sheet + measures r.items + 3 * upto l ≤ count l.sheet + measures before + 3 * weight list + 3 * upto r.loading
  came_few (at_end here before mark offset l) = omega arith
  came_few (passes here before mark leaf next l r c) = let h = came_few c in omega (arith, h)
  came_few (speaks here before mark leaf offset said next l r s a c) =
      let h = came_few c in
      let m = measures_append before (text_item reads files here offset said here.inside) in
      let t = text_few_items reads files here offset said here.inside in
      omega (arith, h, m, t)
  came_few (makes here before stage e kids next l kind inner r f i c q n) =
      let v = values reads here kind e in
      let a = begun_few here e.offset kind v (referring reads files here before e kind l) in
      let b = same_upto (behind_tag reads files here before e kind l).sheet.files l.sheet.files (begun_files here e.offset kind v (referring reads files here before e kind l)) in
      let k = came_few c in
      let m = made_few here e.offset v inner (values_weight e.attrs) (values_few here kind e) kind (scope_at here e) in
      let g = same_upto (element_made reads files here e kind inner).loading.sheet.files inner.loading.sheet.files (made_files here e.offset v inner (values_weight e.attrs) (values_few here kind e) kind (scope_at here e)) in
      let h = came_few n in
      let p = measures_append before (element_made reads files here e kind inner).items in
      omega (arith, a, b, k, m, g, h, p)
  came_few (includes here before stage e kids next l kind file y inner r f i w o c q n) =
      let v = values reads here kind e in
      let tag = behind_tag reads files here before e kind l in
      let a = begun_few here e.offset kind v (referring reads files here before e kind l) in
      let b = same_upto tag.sheet.files l.sheet.files (begun_files here e.offset kind v (referring reads files here before e kind l)) in
      let z = weight_next files (length tag.sheet.files) file w in
      let fs = length-append tag.sheet.files (href_of reads files here e kind ∷ []) in
      let one : length tag.sheet.files + 1 ≡ suc (length tag.sheet.files) = omega arith in
      let u = ap (weight_to files) (fs ∙ one) in
      let j = came_few o in
      let k = came_few c in
      let m = made_few here e.offset v inner (values_weight e.attrs) (values_few here kind e) kind (scope_at here e) in
      let g = same_upto (element_made reads files here e kind inner).loading.sheet.files inner.loading.sheet.files (made_files here e.offset v inner (values_weight e.attrs) (values_few here kind e) kind (scope_at here e)) in
      let h = came_few n in
      let p = measures_append before (element_made reads files here e kind inner).items in
      omega (arith, a, b, z, fs, u, j, k, m, g, h, p)
  came_few (writes here before stage e kids next l inner r a q p c n) =
      let k = came_few c in
      let h = came_few n in
      let t = literal_few reads files here e inner.items in
      let m = measures_append before (literal_item reads files here e inner.items) in
      omega (arith, k, h, t, m)
  came_few (copies here before stage e kids next l inner r i c n) =
      let k = came_few c in
      let h = came_few n in
      let t = copied_few reads files e inner.items in
      let m = measures_append before (copied_items reads files e inner.items) in
      omega (arith, k, h, t, m)

whole_few : (reads : Reads) (name : List ℕ) (file : File) (others : List (Option File)) (r : Listed) → CameWhole reads (Some file ∷ others) name file r
    → entries r.loading.sheet ≤ 1 + 3 * files_weight (Some file ∷ others)
whole_few reads name file others r c =
    let files : List (Option File) = Some file ∷ others in
    let k = came_few reads files c.0 in
    let e = entries_are r.loading.sheet in
    let m = weight_most files (length r.loading.sheet.files) in
    let own = weight_next files 0 file refl in
    omega (arith, k, e, m, own)

pub given_few : GivenIsFew
given_few reads name file others names r g = whole_few reads name file others r (given_came reads name file others names r g)
