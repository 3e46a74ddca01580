-- The numbers of what is loaded name entries, and its files are those that were opened.
use Rattle.std.proofs.Common.{◌≡◌, ℕ, zero, suc, ◌+◌, ◌-◌, ◌<◌, ◌≤◌, Bool, true, false, not, ◌&&◌, ◌||◌, ◌==◌, List, [], ◌∷◌, ◌++◌, length, slice_get, Option, Some, None, refl, ap, sym, ◌∙◌, arith, if◌then◌else◌, codes}
use Rattle.std.proofs.Math.Path.{subst}
use Rattle.std.proofs.lemmas.List.{append_assoc, length-append}
use Rattle.std.proofs.lemmas.List.Elements.{All-append, All-cons, All-head, All-nil, All-tail}
use Rattle.std.specs.List.{All, flat_map, list_all, slice_index_or}
use Rattle.std.specs.Option.{option_map_or}
use Rattle.stx_base.specs.Character.{is_space}
use Rattle.stx_base.specs.Course.{Ret, Ask, and_then}
use Rattle.stx_base.specs.declared.fault.SheetCode.{SheetCode}
use Rattle.stx_base.specs.declared.fault.SheetCode.TheVariants as code
use Rattle.stx_base.specs.declared.name.Binding.{Binding}
use Rattle.xml_events.specs.Tree.{Forest, Leaf, Mark, Chars, CData, Comment, Pi, Element, End, Cut, Single, Nested, Why, Need, Bad, Stage, Waiting, Ready, Entered}
use Rattle.sheet_model.specs.Sound.{AreATree, StandsBehind}
use Rattle.sheet_model.specs.Body.{bodies, body_nesting}
use Rattle.sheet_model.specs.declared.instr.Instr.{Instr}
use Rattle.sheet_model.specs.declared.instr.Instr.TheOpen.{Instr-F}
use Rattle.sheet_model.specs.declared.instr.Instr.TheVariants as instr
use Rattle.sheet_model.specs.declared.instr.Instr.TheViews.{rolls-Literal, rolls-LiteralChars}
use Rattle.sheet_model.specs.declared.sheet.Buffer.{Buffer}
use Rattle.sheet_model.specs.declared.sheet.Group.{Group}
use Rattle.sheet_model.specs.declared.sheet.Procedure.{Procedure}
use Rattle.sheet_model.specs.declared.sheet.Sheet.{Sheet}
use Rattle.sheet_model.specs.declared.sheet.Template.{Template}
use Rattle.sheet_model.specs.declared.sheet.Variable.{Variable}
use Rattle.sheet_loader.proofs.Items.{BodyIn, In, ItemsIn, ParamsIn, body_in, body_wider, both_in, item_in, items_append, items_wider, none_in, one_by, params_in, params_wider, parts_items_in}
use Rattle.sheet_loader.proofs.Keeping.{Holds, Keeps, append_nil, comes_with, keeps_then}
use Rattle.sheet_loader.specs.Elements as element
use Rattle.sheet_loader.specs.Elements.{Kind, Inside, Document, Declarations, Start_of_body, Body, Branches, With_params, Characters, Parts, Nothing, inside_of, is_buffer, is_include, is_own, is_param, is_procedure, is_template, is_variable, makes_group, kind_named, allows_literals, allows_text, keeps_space}
use Rattle.sheet_loader.specs.Judging.{fault_of, is_declared_here, is_stx, is_transform_named, scope_at, values}
use Rattle.sheet_loader.specs.Load.{nothing, whole, sheet_of}
use Rattle.sheet_loader.specs.Making.{Values, as_word, body, branches, item, parts, value_at, variable}
use Rattle.sheet_loader.specs.Read.{begun, buffer_at, closed, code_of_job, copied, element_of, element_parts, ended, file_given, file_of, good, has_select, included, inner_group, is_choose, judged, known, listed, literal, literal_attrs, literal_judged, made, nodes, procedure_at, root_group, template_at, templates, text_item, text_of, when_known, with_group, with_root, within}
use Rattle.sheet_loader.specs.Reading.{File, Loading, Context, Item, Listed, Job, Nodes, Does, cut, ends_at, place, refused}
use Rattle.sheet_loader.specs.References.{first_lost, Reference}
use Rattle.sheet_loader.specs.Referring.{references}
use Rattle.sheet_loader.specs.Standing.{GivenStands, HasNoElement, IsDocument, Stands}
use Rattle.sheet_loader.specs.Tags.{path_fault}
use Rattle.sheet_loader.specs.Values.{Reads}

-- no list within an element is that of a document
pub inner_lists : (around : Inside) (kind : Kind) (s : Bool) → is_own (inside_of around kind s) ≡ false
inner_lists around element.Transform s = refl
inner_lists around element.Group s = refl
inner_lists around element.Template s = refl
inner_lists around element.Procedure s = refl
inner_lists around element.Include s = refl
inner_lists around element.Param s = refl
inner_lists around element.Variable s = refl
inner_lists around element.Buffer s = refl
inner_lists around element.ValueOf s = refl
inner_lists around element.Chars s = refl
inner_lists around element.Copy s = refl
inner_lists around element.Element s = refl
inner_lists around element.StartElement s = refl
inner_lists around element.EndElement s = refl
inner_lists around element.Attribute true = refl
inner_lists around element.Attribute false = refl
inner_lists around element.Comment true = refl
inner_lists around element.Comment false = refl
inner_lists around element.Instruction true = refl
inner_lists around element.Instruction false = refl
inner_lists around element.Message true = refl
inner_lists around element.Message false = refl
inner_lists around element.If s = refl
inner_lists around element.Else s = refl
inner_lists around element.Choose s = refl
inner_lists around element.When s = refl
inner_lists around element.Otherwise s = refl
inner_lists around element.ForEachItem s = refl
inner_lists around element.While s = refl
inner_lists around element.Assign s = refl
inner_lists around element.CallProcedure s = refl
inner_lists around element.ProcessChildren s = refl
inner_lists around element.ProcessAttributes s = refl
inner_lists around element.ProcessSelf s = refl
inner_lists around element.ProcessSiblings s = refl
inner_lists around element.ProcessBuffer s = refl
inner_lists around element.ProcessDocument s = refl
inner_lists around element.ResultBuffer s = refl
inner_lists around element.WithParam s = refl

-- A tree of groups with one more.

behind_more : (n m : ℕ) (o : Option ℕ) → n ≤ m → StandsBehind n o → StandsBehind m o
behind_more n m None l h = h
behind_more n m (Some p) l h = omega (arith, h)

more_behind : (k : ℕ) (os : List Group) (g : Group) (p : ℕ) → g.parent ≡ Some p → p < k + length os → ((n : ℕ) (x : Group) → slice_get os n ≡ Some x → StandsBehind (k + n) x.parent) → (n : ℕ) (x : Group) → slice_get (os ++ g ∷ []) n ≡ Some x → StandsBehind (k + n) x.parent
more_behind k [] g p e l h zero x q =
    let w : g ≡ x = cc in
    let t : p < k + 0 = omega arith in
    subst (StandsBehind (k + 0)) (sym e ∙ ap (λ (y : Group). y.parent) w) t
more_behind k [] g p e l h (suc n) x q = absurd cc
more_behind k (o ∷ os) g p e l h zero x q = h zero x q
more_behind k (o ∷ os) g p e l h (suc n) x q =
    behind_more ((k + 1) + n) (k + suc n) x.parent (omega arith)
    (more_behind (k + 1) os g p e (omega arith) (λ m y r. behind_more (k + suc m) ((k + 1) + m) y.parent (omega arith) (h (suc m) y r)) n x q)

tree_more : (groups : List Group) (g : Group) (p : ℕ) → AreATree groups → g.parent ≡ Some p → p < length groups → AreATree (groups ++ g ∷ [])
tree_more [] g p h e l = absurd h
tree_more (root ∷ others) g p h e l = (
  h.0,
  λ n x q. behind_more (1 + n) (n + 1) x.parent (omega arith)
      (more_behind 1 others g p e (omega arith) (λ m y r. behind_more (m + 1) (1 + m) y.parent (omega arith) (h.1 m y r)) n x q),
)

tree_some : (groups : List Group) → AreATree groups → 0 < length groups
tree_some [] h = absurd h
tree_some (root ∷ others) h = omega arith

record Rest (g f : ℕ) (ts : List Template) (ps : List Procedure) (bs : List Buffer) (vs : List Variable) : Type 0 where
  templates : All (λ (t : Template). In g f t.group t.at × ParamsIn g f t.params) ts
  bodies : All (λ (t : Template). BodyIn f t.body) ts
  procedures : All (λ (p : Procedure). In g f p.group p.at × ParamsIn g f p.params) ps
  calls : All (λ (p : Procedure). BodyIn f p.body) ps
  buffers : All (λ (b : Buffer). In g f b.group b.at) bs
  variables : All (λ (v : Variable). In g f v.group v.at) vs

abbrev RestOf : (g f : ℕ) → Sheet → Type 0
RestOf g f s = Rest g f s.templates s.procedures s.buffers s.variables

rest_wider : (g f h k : ℕ) (ts : List Template) (ps : List Procedure) (bs : List Buffer) (vs : List Variable) → g ≤ h → f ≤ k → Rest g f ts ps bs vs → Rest h k ts ps bs vs
rest_wider g f h k ts ps bs vs l m r = record {
  templates = λ n d i. let x = r.templates n d i in ((omega (arith, l, x.0.0), omega (arith, m, x.0.1)), params_wider g f h k (slice_index_or ts n d).params l m x.1);
  bodies = λ n d i. body_wider f k (slice_index_or ts n d).body m (r.bodies n d i);
  procedures = λ n d i. let x = r.procedures n d i in ((omega (arith, l, x.0.0), omega (arith, m, x.0.1)), params_wider g f h k (slice_index_or ps n d).params l m x.1);
  calls = λ n d i. body_wider f k (slice_index_or ps n d).body m (r.calls n d i);
  buffers = λ n d i. let x = r.buffers n d i in (omega (arith, l, x.0), omega (arith, m, x.1));
  variables = λ n d i. let x = r.variables n d i in (omega (arith, l, x.0), omega (arith, m, x.1));
}

files_wider : (f k : ℕ) (gs : List Group) → f ≤ k → All (λ (g : Group). g.at.file < f) gs → All (λ (g : Group). g.at.file < k) gs
files_wider f k gs l h n d i = let x = h n d i in omega (arith, l, x)

-- the groups are a tree, and all numbers stand
record Sane (s : Sheet) : Type 0 where
  tree : AreATree s.groups
  groups : All (λ (g : Group). g.at.file < length s.files) s.groups
  rest : RestOf (length s.groups) (length s.files) s

sane_by : (s : Sheet) → AreATree s.groups → All (λ (g : Group). g.at.file < length s.files) s.groups → RestOf (length s.groups) (length s.files) s → Sane s
sane_by s t g r = record { tree = t; groups = g; rest = r }

-- where a list begins: that of the sheet's own document, of which nothing is read, or one within it
data Start (here : Context) (s : Sheet) : Type 0 where
  own : is_own here.inside ≡ true → here.group ≡ 0 → length s.groups ≡ 0 → here.file < length s.files → RestOf 0 0 s → Start here s
  inner : is_own here.inside ≡ false → here.group < length s.groups → here.file < length s.files → Sane s → Start here s

data Before (here : Context) (list : Forest) (s : Sheet) : Type 0 where
  first : Start here s → is_own here.inside ≡ true → IsDocument list → Before here list s
  later : here.file < length s.files → HasNoElement list → Sane s → Before here list s
  inside : Start here s → Sane s → is_own here.inside ≡ false → Before here list s

-- what was read from s to m: files that were opened, and groups
record From (s : Sheet) (os : List (List ℕ)) (m : Sheet) : Type 0 where
  files : m.files ≡ s.files ++ os
  groups : length s.groups ≤ length m.groups

from_same : (s : Sheet) → From s [] s
from_same s = record { files = sym (append_nil s.files); groups = omega arith }

from_then : (s m t : Sheet) (os ps : List (List ℕ)) → From s os m → From m ps t → From s (os ++ ps) t
from_then s m t os ps h k = record {
  files = k.files ∙ ap (λ l. l ++ ps) h.files ∙ append_assoc s.files os ps;
  groups = let a = h.groups in let b = k.groups in omega (arith, a, b);
}

more_files : (s m : Sheet) (os : List (List ℕ)) → From s os m → length s.files ≤ length m.files
more_files s m os h =
    let e = ap (λ (l : List (List ℕ)). length l) h.files in let n = length-append s.files os in omega (arith, e, n)

-- a list that begins in s begins in what was read from it
start_later : (here : Context) (s m : Sheet) (os : List (List ℕ)) → is_own here.inside ≡ false → Start here s → From s os m → Sane m → Start here m
start_later here s m os e (own o g z f r) h k = absurd (let b : true ≡ false = sym o ∙ e in cc)
start_later here s m os e (inner o g f r) h k =
    let a = h.groups in let b = more_files s m os h in inner e (omega (arith, g, a)) (omega (arith, f, b)) k

start_file : (here : Context) (s : Sheet) → Start here s → here.file < length s.files
start_file here s (own o g z f r) = f
start_file here s (inner o g f r) = f

-- the group of a list is one of what was read from where it begins
start_group : (here : Context) (s m : Sheet) → Start here s → length s.groups ≤ length m.groups → Sane m → here.group < length m.groups
start_group here s m (own o g z f r) l k = let t = tree_some m.groups k.tree in omega (arith, g, t)
start_group here s m (inner o g f r) l k = omega (arith, g, l)

-- what a start tag declares
record Begun (here : Context) (s m : Sheet) : Type 0 where
  stands : Sane m
  files : m.files ≡ s.files
  groups : length s.groups ≤ length m.groups

root_begun : (here : Context) (at : ℕ) (v : Values) (l : Loading) → length l.sheet.groups ≡ 0 → here.file < length l.sheet.files → RestOf 0 0 l.sheet → Begun here l.sheet (with_root here at v l).sheet
root_begun here at v l z f r = record {
  stands = sane_by (with_root here at v l).sheet (refl, λ n g e. absurd cc)
      (All-cons (λ (g : Group). g.at.file < length l.sheet.files) (root_group here at v) [] f (All-nil (λ (g : Group). g.at.file < length l.sheet.files)))
      (rest_wider 0 0 1 (length l.sheet.files) l.sheet.templates l.sheet.procedures l.sheet.buffers l.sheet.variables (omega arith) (omega arith) r);
  files = refl;
  groups = omega (arith, z);
}

group_begun : (here : Context) (at : ℕ) (v : Values) (l : Loading) → here.group < length l.sheet.groups → here.file < length l.sheet.files → Sane l.sheet → Begun here l.sheet (with_group here at v l).sheet
group_begun here at v l g f h =
    let n = length-append l.sheet.groups (inner_group here at v ∷ []) in
    record {
      stands = sane_by (with_group here at v l).sheet (tree_more l.sheet.groups (inner_group here at v) here.group h.tree refl g)
          (All-append (λ (x : Group). x.at.file < length l.sheet.files) l.sheet.groups (inner_group here at v ∷ []) h.groups
          (All-cons (λ (x : Group). x.at.file < length l.sheet.files) (inner_group here at v) [] f (All-nil (λ (x : Group). x.at.file < length l.sheet.files))))
          (rest_wider (length l.sheet.groups) (length l.sheet.files) (length (l.sheet.groups ++ inner_group here at v ∷ [])) (length l.sheet.files) l.sheet.templates l.sheet.procedures l.sheet.buffers l.sheet.variables (omega (arith, n)) (omega arith) h.rest);
      files = refl;
      groups = omega (arith, n);
    }

begun_stands : (here : Context) (at : ℕ) (kind : Kind) (v : Values) (l : Loading) → Start here l.sheet → Begun here l.sheet (begun here at kind v l).sheet
begun_stands here at kind v l (own o g z f r) =
    subst (λ b. Begun here l.sheet (if b then with_root here at v l else if makes_group kind then with_group here at v l else l).sheet) (sym o) (root_begun here at v l z f r)
begun_stands here at kind v l (inner o g f h) =
    subst (λ b. Begun here l.sheet (if b then with_root here at v l else if makes_group kind then with_group here at v l else l).sheet) (sym o) (of_group (makes_group kind))
  where
    of_group : (b : Bool) → Begun here l.sheet (if b then with_group here at v l else l).sheet
    of_group true = group_begun here at v l g f h
    of_group false = record { stands = h; files = refl; groups = omega arith }

-- the items of a list stand in the groups and files of what was read
abbrev ItemsStand : Sheet → List Item → Type 0
ItemsStand s items = ItemsIn (length s.groups) (length s.files) items

-- one more entry, if there is one
all_if : {A : Type 0} (P : A → Type 0) (b : Bool) (x : A) (xs : List A) → P x → All P xs → All P (xs ++ (if b then x ∷ [] else []))
all_if P true x xs p h = All-append P xs (x ∷ []) h (All-cons P x [] p (All-nil P))
all_if P false x xs p h = All-append P xs [] h (All-nil P)

ended_stands : (here : Context) (at : ℕ) (kind : Kind) (v : Values) (r : Listed) → here.group < length r.loading.sheet.groups → here.file < length r.loading.sheet.files → Sane r.loading.sheet → ItemsStand r.loading.sheet r.items → Sane (ended here at kind v r).sheet
ended_stands here at kind v r g f h i =
    let G = length r.loading.sheet.groups in let F = length r.loading.sheet.files in let s = r.loading.sheet in
    sane_by (ended here at kind v r).sheet h.tree h.groups (record {
      templates = all_if (λ (t : Template). In G F t.group t.at × ParamsIn G F t.params) (is_template kind) (template_at here at v r.items) s.templates ((g, f), params_in G F r.items i) h.rest.templates;
      bodies = all_if (λ (t : Template). BodyIn F t.body) (is_template kind) (template_at here at v r.items) s.templates (body_in G F r.items i) h.rest.bodies;
      procedures = all_if (λ (p : Procedure). In G F p.group p.at × ParamsIn G F p.params) (is_procedure kind) (procedure_at here at v r.items) s.procedures ((g, f), params_in G F r.items i) h.rest.procedures;
      calls = all_if (λ (p : Procedure). BodyIn F p.body) (is_procedure kind) (procedure_at here at v r.items) s.procedures (body_in G F r.items i) h.rest.calls;
      buffers = all_if (λ (b : Buffer). In G F b.group b.at) (is_buffer kind) (buffer_at here at v r.items) s.buffers (g, f) h.rest.buffers;
      variables = all_if (λ (x : Variable). In G F x.group x.at) (is_param kind || is_variable kind) (variable here.group (is_param kind) (place here at) v) s.variables (g, f) h.rest.variables;
    })

made_from : (here : Context) (at : ℕ) (kind : Kind) (scope : List Binding) (v : Values) (r : Listed) (s : Sheet) (os : List (List ℕ)) → From s os r.loading.sheet → From s os (made here at kind scope v r).loading.sheet
made_from here at kind scope v r s os h = of_declared (is_declared_here here.inside) where
  of_declared : (b : Bool) → From s os (if b then listed [] (ended here at kind v r) else listed (item kind here.group (place here at) scope v r.items) r.loading).loading.sheet
  of_declared true = record { files = h.files; groups = h.groups }
  of_declared false = h

made_stands : (here : Context) (at : ℕ) (kind : Kind) (scope : List Binding) (v : Values) (r : Listed) → here.group < length r.loading.sheet.groups → here.file < length r.loading.sheet.files → Sane r.loading.sheet → ItemsStand r.loading.sheet r.items → Sane (made here at kind scope v r).loading.sheet × ItemsStand (made here at kind scope v r).loading.sheet (made here at kind scope v r).items
made_stands here at kind scope v r g f h i = of_declared (is_declared_here here.inside) where
  of_declared : (b : Bool) → Sane (if b then listed [] (ended here at kind v r) else listed (item kind here.group (place here at) scope v r.items) r.loading).loading.sheet × ItemsStand (if b then listed [] (ended here at kind v r) else listed (item kind here.group (place here at) scope v r.items) r.loading).loading.sheet (if b then listed [] (ended here at kind v r) else listed (item kind here.group (place here at) scope v r.items) r.loading).items
  of_declared true = (ended_stands here at kind v r g f h i, tt)
  of_declared false = (h, item_in (length r.loading.sheet.groups) (length r.loading.sheet.files) here.group (place here at) g f kind scope v r.items i)

-- the group within an element
within_group : (b : Bool) (group n : ℕ) → group < n → (if b then n - 1 else group) < n
within_group true group n l = omega arith
within_group false group n l = l

module _ (reads : Reads) (files : List (Option File)) where
  abbrev Pre : Job → Type 0
  Pre (Nodes here before list l) = Before here list l.sheet × ItemsStand l.sheet before

  -- what stands, and was read from s
  abbrev Read : Sheet → List (List ℕ) → Listed → Type 0
  Read s os r = From s os r.loading.sheet × Sane r.loading.sheet × ItemsStand r.loading.sheet r.items

  abbrev Post : Job → List (List ℕ) → Listed → Type 0
  Post (Nodes here before list l) os r = Read l.sheet os r

  abbrev Ok : (List (List ℕ) → Listed → Type 0) → List (List ℕ) → Does Listed → Type 0
  Ok P os x = Keeps Pre Post P os x

  text_stands : (g f : ℕ) (here : Context) (offset : ℕ) (text : List ℕ) (list : Inside) → here.file < f → ItemsIn g f (text_item reads files here offset text list)
  text_stands g f here offset text (Document b) a = (one_by f (instr.LiteralChars text (place here offset)) (Instr-F.LiteralChars text (place here offset)) (rolls-LiteralChars text (place here offset)) a (none_in f), tt)
  text_stands g f here offset text (Declarations b) a = (one_by f (instr.LiteralChars text (place here offset)) (Instr-F.LiteralChars text (place here offset)) (rolls-LiteralChars text (place here offset)) a (none_in f), tt)
  text_stands g f here offset text Start_of_body a = (one_by f (instr.LiteralChars text (place here offset)) (Instr-F.LiteralChars text (place here offset)) (rolls-LiteralChars text (place here offset)) a (none_in f), tt)
  text_stands g f here offset text Body a = (one_by f (instr.LiteralChars text (place here offset)) (Instr-F.LiteralChars text (place here offset)) (rolls-LiteralChars text (place here offset)) a (none_in f), tt)
  text_stands g f here offset text Branches a = (one_by f (instr.LiteralChars text (place here offset)) (Instr-F.LiteralChars text (place here offset)) (rolls-LiteralChars text (place here offset)) a (none_in f), tt)
  text_stands g f here offset text With_params a = (one_by f (instr.LiteralChars text (place here offset)) (Instr-F.LiteralChars text (place here offset)) (rolls-LiteralChars text (place here offset)) a (none_in f), tt)
  text_stands g f here offset text (Characters b) a = (tt, tt)
  text_stands g f here offset text Parts a = (tt, tt)
  text_stands g f here offset text Nothing a = (one_by f (instr.LiteralChars text (place here offset)) (Instr-F.LiteralChars text (place here offset)) (rolls-LiteralChars text (place here offset)) a (none_in f), tt)

  module _ (P : List (List ℕ) → Listed → Type 0) where
    either_ok : (b : Bool) (os : List (List ℕ)) (x y : Does Listed) → Ok P os x → Ok P os y → Ok P os (if b then x else y)
    either_ok true os x y h k = h
    either_ok false os x y h k = k

    cut_ok : (here : Context) (os : List (List ℕ)) (why : Why) → Ok P os (cut here why)
    cut_ok here os (Bad fault) = tt
    cut_ok here os Need = limit_ok here.limit where
      limit_ok : (o : Option ℕ) → Ok P os (ends_at here o)
      limit_ok None = tt
      limit_ok (Some most) = tt

    text_ok : (here : Context) (offset : ℕ) (text : List ℕ) (l : Loading) (os : List (List ℕ)) → here.file < length l.sheet.files → ((items : List Item) → ItemsStand l.sheet items → P os (listed items l)) → Ok P os (text_of reads files here offset text l)
    text_ok here offset text l os f h =
        either_ok (list_all is_space text && not (keeps_space here.inside)) os (Ret (listed [] l)) _ (h [] tt)
        (either_ok (allows_text here.inside) os (Ret (listed (text_item reads files here offset text here.inside) l)) (refused here here.at code.Misplaced) (h (text_item reads files here offset text here.inside) (text_stands (length l.sheet.groups) (length l.sheet.files) here offset text here.inside f)) tt)

    -- s is the sheet from which is read, and l what is read of it so far
    given_ok : (here : Context) (at : ℕ) (href : List ℕ) (s : Sheet) (l : Loading) (os : List (List ℕ)) (o : Option (Option File)) → here.group < length l.sheet.groups → Sane l.sheet → From s os l.sheet → ((ps : List (List ℕ)) (r : Listed) → From s ps r.loading.sheet → length l.sheet.groups ≤ length r.loading.sheet.groups → Sane r.loading.sheet → P ps r) → Ok P (os ++ href ∷ []) (file_given reads files here at (length l.sheet.files) o href l)
    given_ok here at href s l os None g k a h = tt
    given_ok here at href s l os (Some None) g k a h = tt
    given_ok here at href s l os (Some (Some file)) g k a h =
        let more : Sheet = record l.sheet { files = l.sheet.files ++ href ∷ [] } in
        let n = length-append l.sheet.files (href ∷ []) in
        let wide : Sane more = sane_by more k.tree
        (files_wider (length l.sheet.files) (length more.files) l.sheet.groups (omega (arith, n)) k.groups)
        (rest_wider (length l.sheet.groups) (length l.sheet.files) (length l.sheet.groups) (length more.files) l.sheet.templates l.sheet.procedures l.sheet.buffers l.sheet.variables (omega arith) (omega (arith, n)) k.rest) in
        let there : From s (os ++ href ∷ []) more = from_then s l.sheet more os (href ∷ []) a (record { files = refl; groups = omega arith }) in (
          (inside (inner refl g (omega (arith, n)) wide) wide refl, tt),
          λ ps r p. h ((os ++ href ∷ []) ++ ps) r (from_then s more r.loading.sheet (os ++ href ∷ []) ps there p.0) p.0.groups p.1,
        )

    included_ok : (here : Context) (at : ℕ) (kind : Kind) (v : Values) (s : Sheet) (l : Loading) (os : List (List ℕ)) → here.group < length l.sheet.groups → Sane l.sheet → From s os l.sheet → ((ps : List (List ℕ)) (r : Listed) → From s ps r.loading.sheet → length l.sheet.groups ≤ length r.loading.sheet.groups → Sane r.loading.sheet → P ps r) → Ok P os (included reads files here at kind v l)
    included_ok here at kind v s l os g k a h =
        either_ok (is_include kind) os (file_of reads files here at (as_word (value_at (codes "href") v)) l) (Ret (listed [] l))
        (given_ok here at (as_word (value_at (codes "href") v)) s l os (slice_get files (length l.sheet.files)) g k a h) (h os (listed [] l) a (omega arith) k)

    closed_ok : (here : Context) (at : ℕ) (kind : Kind) (scope : List Binding) (v : Values) (r : Listed) (os : List (List ℕ)) → P os (made here at kind scope v r) → Ok P os (closed reads files here at kind scope v r)
    closed_ok here at kind scope v r os h =
        either_ok (is_choose kind && length (branches r.items) == 0) os (refused here at code.Misplaced) (Ret (made here at kind scope v r)) tt h

  -- what may come behind an element
  abbrev On : (List (List ℕ) → Listed → Type 0) → Sheet → Type 0
  On P s = (os : List (List ℕ)) (r : Listed) → From s os r.loading.sheet → Sane r.loading.sheet → ItemsStand r.loading.sheet r.items → P os r

  module _ (P : List (List ℕ) → Listed → Type 0) where
    good_ok : (here : Context) (before : List Item) (e : Element) (kids : Forest) (kind : Kind) (v : Values) (l : Loading) → Start here l.sheet → On P l.sheet → Ok P [] (good reads files here before e kids kind v l)
    good_ok here before e kids kind v l st h =
        let referring : Loading = record l { references = l.references ++ references (place here e.offset) here before l.sheet kind v } in
        let start = begun here e.offset kind v referring in
        let b = begun_stands here e.offset kind v referring st in
        let last : Listed → Does Listed = λ r. closed reads files here e.offset kind (scope_at here e) v r in
        let on : Listed → Does Listed = λ r. Ask (Nodes (within here before kind e v (length r.loading.sheet.groups - 1)) [] kids r.loading) last in
        let a : From l.sheet [] start.sheet = record { files = b.files ∙ sym (append_nil l.sheet.files); groups = b.groups } in
        keeps_then Pre Post P [] (included reads files here e.offset kind v start) on
        (included_ok (λ os r. Ok P os (on r)) here e.offset kind v l.sheet start [] (start_group here l.sheet start.sheet st b.groups b.stands) b.stands a (λ os r from more stands.
        let g = start_group here l.sheet r.loading.sheet st from.groups stands in
        let f = start_file here l.sheet st in
        let n = more_files l.sheet r.loading.sheet os from in
        let deeper : Start (within here before kind e v (length r.loading.sheet.groups - 1)) r.loading.sheet =
        inner (inner_lists here.inside kind (has_select v)) (within_group (makes_group kind) here.group (length r.loading.sheet.groups) g) (omega (arith, f, n)) stands in (
          (inside deeper stands (inner_lists here.inside kind (has_select v)), tt),
          λ ps s p.
              let all = from_then l.sheet r.loading.sheet s.loading.sheet os ps from p.0 in
              let m = more_files l.sheet s.loading.sheet (os ++ ps) all in
              let done = made_stands here e.offset kind (scope_at here e) v s (start_group here l.sheet s.loading.sheet st all.groups p.1) (omega (arith, f, m)) p.1 p.2 in
              closed_ok P here e.offset kind (scope_at here e) v s (os ++ ps)
              (h (os ++ ps) (made here e.offset kind (scope_at here e) v s) (made_from here e.offset kind (scope_at here e) v s l.sheet (os ++ ps) all) done.0 done.1),
        )))

    judged_ok : (here : Context) (before : List Item) (e : Element) (kids : Forest) (kind : Kind) (o : Option SheetCode) (l : Loading) → Start here l.sheet → On P l.sheet → Ok P [] (judged reads files here before e kids kind o l)
    judged_ok here before e kids kind (Some why) l st h = tt
    judged_ok here before e kids kind None l st h = good_ok here before e kids kind (values reads here kind e) l st h

    known_ok : (here : Context) (before : List Item) (e : Element) (kids : Forest) (o : Option Kind) (l : Loading) → Start here l.sheet → On P l.sheet → Ok P [] (known reads files here before e kids o l)
    known_ok here before e kids None l st h = tt
    known_ok here before e kids (Some kind) l st h = judged_ok here before e kids kind (fault_of reads here before l.sheet e kind) l st h

    -- a literal element stands in no document's list
    inner_start : (here : Context) (s : Sheet) → is_own here.inside ≡ false → Start here s → (here.group < length s.groups) × (here.file < length s.files) × Sane s
    inner_start here s i (own o g z f r) = absurd (let b : true ≡ false = sym o ∙ i in cc)
    inner_start here s i (inner o g f r) = (g, f, r)

    literal_ok : (here : Context) (before : List Item) (e : Element) (kids : Forest) (l : Loading) → is_own here.inside ≡ false → Start here l.sheet → On P l.sheet → Ok P [] (literal reads files here before e kids l)
    literal_ok here before e kids l i st h =
        let t = inner_start here l.sheet i st in
        let attrs = literal_attrs reads files e.attrs (templates reads files here e) in (
          (inside (inner refl t.0 t.1 t.2) t.2 refl, tt),
          λ os r p.
              let n = more_files l.sheet r.loading.sheet os p.0 in
              let F = length r.loading.sheet.files in
              h os _ p.0 p.1 (
                one_by F (instr.Literal e.name attrs (body r.items) (place here e.offset)) (Instr-F.Literal e.name attrs (body r.items) (place here e.offset))
                    (rolls-Literal e.name attrs (body r.items) (place here e.offset)) (omega (arith, t.1, n)) (body_in (length r.loading.sheet.groups) F r.items p.2),
                tt,
              ),
        )

    copied_ok : (here : Context) (e : Element) (kids : Forest) (l : Loading) → is_own here.inside ≡ false → Start here l.sheet → On P l.sheet → Ok P [] (copied reads files here e kids l)
    copied_ok here e kids l i st h =
        let t = inner_start here l.sheet i st in
        ((inside (inner i t.0 t.1 t.2) t.2 i, tt), λ os r p. h os _ p.0 p.1 (parts_items_in _ _ (element_parts reads files e (parts r.items))))

    readable_ok : (here : Context) (before : List Item) (e : Element) (kids : Forest) (l : Loading) (o : Option SheetCode) → is_own here.inside ≡ false → Start here l.sheet → On P l.sheet → Ok P [] (option_map_or (λ why. refused here e.offset why) o (literal reads files here before e kids l))
    readable_ok here before e kids l None i st h = literal_ok here before e kids l i st h
    readable_ok here before e kids l (Some why) i st h = tt

    in_body_ok : (here : Context) (before : List Item) (e : Element) (kids : Forest) (list : Inside) (l : Loading) → is_own here.inside ≡ false → Start here l.sheet → On P l.sheet → Ok P [] (if not (allows_literals list) then refused here e.offset code.Misplaced else option_map_or (λ why. refused here e.offset why) (path_fault (templates reads files here e)) (literal reads files here before e kids l))
    in_body_ok here before e kids list l i st h =
        either_ok P (not (allows_literals list)) [] (refused here e.offset code.Misplaced) _ tt (readable_ok here before e kids l (path_fault (templates reads files here e)) i st h)

    literal_judged_ok : (here : Context) (before : List Item) (e : Element) (kids : Forest) (list : Inside) (l : Loading) → is_own here.inside ≡ false → Start here l.sheet → On P l.sheet → Ok P [] (literal_judged reads files here before e kids list l)
    literal_judged_ok here before e kids Parts l i st h = copied_ok here e kids l i st h
    literal_judged_ok here before e kids (Document b) l i st h = in_body_ok here before e kids (Document b) l i st h
    literal_judged_ok here before e kids (Declarations b) l i st h = in_body_ok here before e kids (Declarations b) l i st h
    literal_judged_ok here before e kids Start_of_body l i st h = in_body_ok here before e kids Start_of_body l i st h
    literal_judged_ok here before e kids Body l i st h = in_body_ok here before e kids Body l i st h
    literal_judged_ok here before e kids Branches l i st h = in_body_ok here before e kids Branches l i st h
    literal_judged_ok here before e kids With_params l i st h = in_body_ok here before e kids With_params l i st h
    literal_judged_ok here before e kids (Characters b) l i st h = in_body_ok here before e kids (Characters b) l i st h
    literal_judged_ok here before e kids Nothing l i st h = in_body_ok here before e kids Nothing l i st h

    listed_ok : (here : Context) (before : List Item) (e : Element) (kids : Forest) (list : Inside) (l : Loading) → is_own here.inside ≡ false → Start here l.sheet → On P l.sheet → Ok P [] (if is_stx e.name then known reads files here before e kids (kind_named e.name.local) l else literal_judged reads files here before e kids list l)
    listed_ok here before e kids list l i st h =
        either_ok P (is_stx e.name) [] (known reads files here before e kids (kind_named e.name.local) l) (literal_judged reads files here before e kids list l)
        (known_ok here before e kids (kind_named e.name.local) l st h) (literal_judged_ok here before e kids list l i st h)

    element_ok : (here : Context) (before : List Item) (e : Element) (kids : Forest) (list : Inside) (l : Loading) → here.inside ≡ list → Start here l.sheet → On P l.sheet → Ok P [] (element_of reads files here before e kids list l)
    element_ok here before e kids (Document b) l i st h =
        either_ok P (is_transform_named e.name) [] (known reads files here before e kids (kind_named e.name.local) l) (refused here e.offset code.NotStx)
        (known_ok here before e kids (kind_named e.name.local) l st h) tt
    element_ok here before e kids (Declarations b) l i st h = listed_ok here before e kids (Declarations b) l (ap is_own i) st h
    element_ok here before e kids Start_of_body l i st h = listed_ok here before e kids Start_of_body l (ap is_own i) st h
    element_ok here before e kids Body l i st h = listed_ok here before e kids Body l (ap is_own i) st h
    element_ok here before e kids Branches l i st h = listed_ok here before e kids Branches l (ap is_own i) st h
    element_ok here before e kids With_params l i st h = listed_ok here before e kids With_params l (ap is_own i) st h
    element_ok here before e kids (Characters b) l i st h = listed_ok here before e kids (Characters b) l (ap is_own i) st h
    element_ok here before e kids Parts l i st h = listed_ok here before e kids Parts l (ap is_own i) st h
    element_ok here before e kids Nothing l i st h = listed_ok here before e kids Nothing l (ap is_own i) st h

    when_known_ok : (here : Context) (before : List Item) (stage : Stage) (e : Element) (kids : Forest) (l : Loading) → Start here l.sheet → On P l.sheet → Ok P [] (when_known reads files here before stage e kids l)
    when_known_ok here before Waiting e (Cut why) l st h = cut_ok P here [] why
    when_known_ok here before Waiting e (End mark offset) l st h = element_ok here before e (End mark offset) here.inside l refl st h
    when_known_ok here before Waiting e (Single mark leaf next) l st h = element_ok here before e (Single mark leaf next) here.inside l refl st h
    when_known_ok here before Waiting e (Nested stage x kids next) l st h = element_ok here before e (Nested stage x kids next) here.inside l refl st h
    when_known_ok here before (Ready told) e kids l st h = element_ok here before e kids here.inside l refl st h
    when_known_ok here before (Entered told) e kids l st h = element_ok here before e kids here.inside l refl st h

  abbrev behind_node : Context → (before : List Item) → (next : Forest) → Listed → Does Listed
  behind_node here before next r = Ask (Nodes here (before ++ r.items) next r.loading) Ret

  next_ok : (here : Context) (before : List Item) (next : Forest) (s : Sheet) (os : List (List ℕ)) (r : Listed) → ItemsStand s before → From s os r.loading.sheet → Before here next r.loading.sheet → ItemsStand r.loading.sheet r.items → Ok (Read s) os (behind_node here before next r)
  next_ok here before next s os r i a b k =
      let n = more_files s r.loading.sheet os a in
      let G = length r.loading.sheet.groups in let F = length r.loading.sheet.files in (
        (b, items_append G F before r.items (items_wider (length s.groups) (length s.files) G F before a.groups (omega (arith, n)) i) k),
        λ ps t p. (from_then s r.loading.sheet t.loading.sheet os ps a p.0, p.1, p.2),
      )

  before_file : (here : Context) (list : Forest) (s : Sheet) → Before here list s → here.file < length s.files
  before_file here list s (first st o d) = start_file here s st
  before_file here list s (later f n k) = f
  before_file here list s (inside st k i) = start_file here s st

  text_nodes_ok : (here : Context) (before : List Item) (offset : ℕ) (text : List ℕ) (next : Forest) (l : Loading) → Before here next l.sheet → ItemsStand l.sheet before → Ok (Read l.sheet) [] (and_then (text_of reads files here offset text l) (behind_node here before next))
  text_nodes_ok here before offset text next l b i =
      keeps_then Pre Post (Read l.sheet) [] (text_of reads files here offset text l) (behind_node here before next)
      (text_ok (λ os r. Ok (Read l.sheet) os (behind_node here before next r)) here offset text l [] (before_file here next l.sheet b) (λ items k. next_ok here before next l.sheet [] (listed items l) i (from_same l.sheet) b k))

  -- behind a leaf stands what stood at it
  behind_leaf : (here : Context) (mark : Mark) (leaf : Leaf) (next : Forest) (s : Sheet) → Before here (Single mark leaf next) s → Before here next s
  behind_leaf here mark leaf next s (first st o d) = first st o d
  behind_leaf here mark leaf next s (later f n k) = later f n k
  behind_leaf here mark leaf next s (inside st k i) = inside st k i

  element_nodes_ok : (here : Context) (before : List Item) (stage : Stage) (e : Element) (kids next : Forest) (l : Loading) → Start here l.sheet → ItemsStand l.sheet before → ((os : List (List ℕ)) (m : Sheet) → From l.sheet os m → Sane m → Before here next m) → Ok (Read l.sheet) [] (nodes reads files here before (Nested stage e kids next) l)
  element_nodes_ok here before stage e kids next l st i b =
      keeps_then Pre Post (Read l.sheet) [] (when_known reads files here before stage e kids l) (behind_node here before next)
      (when_known_ok (λ os r. Ok (Read l.sheet) os (behind_node here before next r)) here before stage e kids l st
      (λ os r a k j. next_ok here before next l.sheet os r i a (b os r.loading.sheet a k) j))

  nodes_ok : (here : Context) (before : List Item) (list : Forest) (l : Loading) → Before here list l.sheet → ItemsStand l.sheet before → Ok (Read l.sheet) [] (nodes reads files here before list l)
  nodes_ok here before (End mark offset) l (first st o d) j = absurd d
  nodes_ok here before (End mark offset) l (later f n k) j = (from_same l.sheet, k, j)
  nodes_ok here before (End mark offset) l (inside st k i) j = (from_same l.sheet, k, j)
  nodes_ok here before (Cut why) l b j = cut_ok (Read l.sheet) here [] why
  nodes_ok here before (Single mark (Chars offset text) next) l b j = text_nodes_ok here before offset text next l (behind_leaf here mark (Chars offset text) next l.sheet b) j
  nodes_ok here before (Single mark (CData offset text) next) l b j = text_nodes_ok here before offset text next l (behind_leaf here mark (CData offset text) next l.sheet b) j
  nodes_ok here before (Single mark (Comment offset text) next) l b j = ((behind_leaf here mark (Comment offset text) next l.sheet b, j), λ os r p. p)
  nodes_ok here before (Single mark (Pi offset target text) next) l b j = ((behind_leaf here mark (Pi offset target text) next l.sheet b, j), λ os r p. p)
  nodes_ok here before (Nested stage e kids next) l (first st o d) j =
      let f = start_file here l.sheet st in
      element_nodes_ok here before stage e kids next l st j (λ os m a k. let n = more_files l.sheet m os a in later (omega (arith, f, n)) d k)
  nodes_ok here before (Nested stage e kids next) l (later f n k) j = absurd n
  nodes_ok here before (Nested stage e kids next) l (inside st k i) j =
      element_nodes_ok here before stage e kids next l st j (λ os m a t. inside (start_later here l.sheet m os i st a t) t i)

  code_ok : (q : Job) → Pre q → Ok (Post q) [] (code_of_job reads files q)
  code_ok (Nodes here before list l) b = nodes_ok here before list l b.0 b.1

-- the bodies of templates and procedures stand in files
bodies_in : {A : Type 0} (f : ℕ) (body_of : A → List Instr) (xs : List A) → All (λ (x : A). BodyIn f (body_of x)) xs → BodyIn f (flat_map body_of xs)
bodies_in f body_of [] h = none_in f
bodies_in {A} f body_of (x ∷ xs) h =
    both_in f (body_of x) (flat_map body_of xs) (All-head (λ (y : A). BodyIn f (body_of y)) x xs h)
    (bodies_in f body_of xs (All-tail (λ (y : A). BodyIn f (body_of y)) x xs h))

stands_in : (s : Sheet) → Sane s → Stands s
stands_in s h = record {
  tree = h.tree;
  numbers = record {
    groups = h.groups;
    templates = h.rest.templates;
    procedures = h.rest.procedures;
    buffers = h.rest.buffers;
    variables = h.rest.variables;
    instructions = both_in (length s.files) (flat_map (λ (t : Template). t.body) s.templates) (flat_map (λ (p : Procedure). p.body) s.procedures)
        (bodies_in (length s.files) (λ (t : Template). t.body) s.templates h.rest.bodies)
        (bodies_in (length s.files) (λ (p : Procedure). p.body) s.procedures h.rest.calls) (body_nesting (bodies s));
  };
}

-- what a sheet that is given comes to
abbrev Whole : List (List ℕ) → Listed → Type 0
Whole names r = Stands r.loading.sheet × (r.loading.sheet.files ≡ names)

whole_ok : (reads : Reads) (files : List (Option File)) (os : List (List ℕ)) (r : Listed) (o : Option Reference) → Whole os r → Ok reads files Whole os (whole r o)
whole_ok reads files os r None h = h
whole_ok reads files os r (Some lost) h = tt

sheet_ok : (reads : Reads) (name : List ℕ) (file : File) (others : List (Option File)) → IsDocument file.nodes → Ok reads (Some file ∷ others) Whole [] (sheet_of reads name (Some file ∷ others))
sheet_ok reads name file others d =
    let s = (nothing name).sheet in
    let none : RestOf 0 0 s = record {
      templates = All-nil (λ (t : Template). In 0 0 t.group t.at × ParamsIn 0 0 t.params);
      bodies = All-nil (λ (t : Template). BodyIn 0 t.body);
      procedures = All-nil (λ (p : Procedure). In 0 0 p.group p.at × ParamsIn 0 0 p.params);
      calls = All-nil (λ (p : Procedure). BodyIn 0 p.body);
      buffers = All-nil (λ (b : Buffer). In 0 0 b.group b.at);
      variables = All-nil (λ (v : Variable). In 0 0 v.group v.at);
    } in (
      (first (own refl refl refl (omega arith) none) refl d, tt),
      λ os r p. whole_ok reads (Some file ∷ others) (name ∷ os) r (first_lost r.loading.sheet r.loading.references) (stands_in r.loading.sheet p.1, p.0.files),
    )

pub given_stands : GivenStands
given_stands reads name file others names r d g =
    subst (Holds (Pre reads (Some file ∷ others)) (Post reads (Some file ∷ others)) Whole []) g.comes
    (comes_with (Pre reads (Some file ∷ others)) (Post reads (Some file ∷ others)) (code_of_job reads (Some file ∷ others)) (code_ok reads (Some file ∷ others)) g.depth Whole (sheet_of reads name (Some file ∷ others)) (sheet_ok reads name file others d))
