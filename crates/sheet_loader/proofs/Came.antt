-- How a list comes to a result, step by step, and that whatever is given was come to so.
use Rattle.std.proofs.Common.{◌≡◌, ℕ, ◌-◌, Bool, true, false, not, ◌&&◌, ◌==◌, List, [], ◌∷◌, ◌++◌, length, map, slice_get, Option, Some, None, refl, ap, ◌∙◌, if◌then◌else◌, codes}
use Rattle.std.proofs.Math.Path.{subst}
use Rattle.std.specs.List.{flat_map, list_all}
use Rattle.std.specs.Option.{option_map_or}
use Rattle.stx_base.specs.Character.{is_space}
use Rattle.stx_base.specs.Course.{Ret, Ask, Gives, and_then}
use Rattle.stx_base.specs.declared.fault.SheetCode.{SheetCode}
use Rattle.stx_base.specs.declared.fault.SheetCode.TheVariants as code
use Rattle.xml_events.specs.Tree.{Forest, Leaf, Mark, Chars, CData, Comment, Pi, Element, End, Cut, Single, Nested, Why, Need, Bad, Stage, Waiting, Ready, Entered}
use Rattle.sheet_model.specs.Names.{template_variables}
use Rattle.sheet_model.specs.declared.instr.Instr.TheVariants as instr
use Rattle.sheet_model.specs.declared.instr.LiteralAttr.{LiteralAttr}
use Rattle.sheet_loader.proofs.Keeping.{Holds, Keeps, append_nil, comes_with, keeps_then}
use Rattle.sheet_loader.specs.Elements.{Kind, Inside, Document, Declarations, Start_of_body, Body, Branches, With_params, Characters, Parts, Nothing, is_include, kind_named, allows_literals, allows_text, keeps_space}
use Rattle.sheet_loader.specs.Judging.{fault_of, is_stx, is_transform_named, locals_at, scope_at, values}
use Rattle.sheet_loader.specs.Load.{at_start, nothing, whole, sheet_of}
use Rattle.sheet_loader.specs.Making.{as_word, body, branches, parts, value_at}
use Rattle.sheet_loader.specs.Read.{begun, closed, code_of_job, copied, element_of, element_parts, file_given, file_of, good, in_file, included, is_choose, judged, known, listed, literal, literal_attrs, literal_judged, made, nodes, templates, text_item, text_of, when_known, within}
use Rattle.sheet_loader.specs.Reading.{File, Loading, Context, Item, Instruction, A_part, Listed, Job, Nodes, Does, cut, ends_at, place, refused}
use Rattle.sheet_loader.specs.References.{first_lost, Reference}
use Rattle.sheet_loader.specs.Referring.{references, to_variables}
use Rattle.sheet_loader.specs.Tags.{path_fault}
use Rattle.sheet_loader.specs.Values.{Reads}

abbrev pub are_parts : Inside → Bool
are_parts Parts = true
are_parts other = false

-- this leaf is a text
abbrev pub Says : Leaf → (text : List ℕ) → Type 0
Says (Chars offset text) said = said ≡ text
Says (CData offset text) said = said ≡ text
Says (Comment offset text) said = ⊥
Says (Pi offset target text) said = ⊥

module _ (reads : Reads) (files : List (Option File)) where
  -- what is referred to so far, with what an element's tag refers to
  abbrev pub referring : Context → (before : List Item) → Element → Kind → Loading → Loading
  referring here before e kind l = record l { references = l.references ++ references (place here e.offset) here before l.sheet kind (values reads here kind e) }

  -- what an element's tag leaves, before anything in the element is read
  abbrev pub behind_tag : Context → (before : List Item) → Element → Kind → Loading → Loading
  behind_tag here before e kind l = begun here e.offset kind (values reads here kind e) (referring here before e kind l)

  abbrev pub href_of : Context → Element → Kind → List ℕ
  href_of here e kind = as_word (value_at (codes "href") (values reads here kind e))

  abbrev pub with_file : (href : List ℕ) → Loading → Loading
  with_file href l = record l { sheet = record l.sheet { files = l.sheet.files ++ href ∷ [] } }

  -- the attributes of a literal element, what is behind its tag, and what stands in it
  abbrev pub attrs_of : Context → Element → List LiteralAttr
  attrs_of here e = literal_attrs reads files e.attrs (templates reads files here e)

  abbrev pub behind_literal : Context → (before : List Item) → Element → Loading → Loading
  behind_literal here before e l = record l {
    references =
        l.references
        ++ to_variables (place here e.offset) (locals_at here before) here.group (flat_map (λ (a : LiteralAttr). template_variables a.value) (attrs_of here e));
  }

  abbrev pub in_literal : Context → (before : List Item) → Element → Context
  in_literal here before e = record here { scope = scope_at here e; inside = Body; at = e.offset; locals = locals_at here before }

  abbrev pub literal_item : Context → Element → List Item → List Item
  literal_item here e items = Instruction (instr.Literal e.name (attrs_of here e) (body items) (place here e.offset)) ∷ []

  abbrev pub in_copy : Context → Element → Context
  in_copy here e = record here { scope = scope_at here e; at = e.offset }

  abbrev pub copied_items : Element → List Item → List Item
  copied_items e items = map A_part (element_parts reads files e (parts items))

  -- what an element of the language comes to, where inner is what its list came to
  abbrev pub element_made : Context → Element → Kind → Listed → Listed
  element_made here e kind inner = made here e.offset kind (scope_at here e) (values reads here kind e) inner

  abbrev pub in_element : Context → (before : List Item) → Kind → Element → Loading → Context
  in_element here before kind e m = within here before kind e (values reads here kind e) (length m.sheet.groups - 1)

  abbrev pub HasWhen : Kind → List Item → Type 0
  HasWhen kind items = (is_choose kind && length (branches items) == 0) ≡ false

  -- A list is read, behind what stands before it, to its end.
  pub data Came : Context → (before : List Item) → Forest → Loading → Listed → Type 0 where
    at_end : (here : Context) (before : List Item) (mark : Mark) (offset : ℕ) (l : Loading) → Came here before (End mark offset) l (listed before l)
    passes : (here : Context) (before : List Item) (mark : Mark) (leaf : Leaf) (next : Forest) (l : Loading) (r : Listed)
        → Came here before next l r → Came here before (Single mark leaf next) l r
    speaks : (here : Context) (before : List Item) (mark : Mark) (leaf : Leaf) (offset : ℕ) (said : List ℕ) (next : Forest) (l : Loading) (r : Listed)
        → Says leaf said → allows_text here.inside ≡ true
        → Came here (before ++ text_item reads files here offset said here.inside) next l r → Came here before (Single mark leaf next) l r
    makes : (here : Context) (before : List Item) (stage : Stage) (e : Element) (kids next : Forest) (l : Loading) (kind : Kind) (inner r : Listed)
        → fault_of reads here before l.sheet e kind ≡ None → is_include kind ≡ false
        → Came (in_element here before kind e (behind_tag here before e kind l)) [] kids (behind_tag here before e kind l) inner
        → HasWhen kind inner.items
        → Came here (before ++ (element_made here e kind inner).items) next (element_made here e kind inner).loading r
        → Came here before (Nested stage e kids next) l r
    includes : (here : Context) (before : List Item) (stage : Stage) (e : Element) (kids next : Forest) (l : Loading) (kind : Kind) (file : File) (m inner r : Listed)
        → fault_of reads here before l.sheet e kind ≡ None → is_include kind ≡ true
        → slice_get files (length (behind_tag here before e kind l).sheet.files) ≡ Some (Some file)
        → Came (in_file here (length (behind_tag here before e kind l).sheet.files) (href_of here e kind) file) [] file.nodes (with_file (href_of here e kind) (behind_tag here before e kind l)) m
        → Came (in_element here before kind e m.loading) [] kids m.loading inner
        → HasWhen kind inner.items
        → Came here (before ++ (element_made here e kind inner).items) next (element_made here e kind inner).loading r
        → Came here before (Nested stage e kids next) l r
    writes : (here : Context) (before : List Item) (stage : Stage) (e : Element) (kids next : Forest) (l : Loading) (inner r : Listed)
        → allows_literals here.inside ≡ true → are_parts here.inside ≡ false → path_fault (templates reads files here e) ≡ None
        → Came (in_literal here before e) [] kids (behind_literal here before e l) inner
        → Came here (before ++ literal_item here e inner.items) next inner.loading r
        → Came here before (Nested stage e kids next) l r
    copies : (here : Context) (before : List Item) (stage : Stage) (e : Element) (kids next : Forest) (l : Loading) (inner r : Listed)
        → here.inside ≡ Parts
        → Came (in_copy here e) [] kids l inner
        → Came here (before ++ copied_items e inner.items) next inner.loading r
        → Came here before (Nested stage e kids next) l r

  abbrev Pre : Job → Type 0
  Pre q = Unit {0}

  abbrev Post : Job → List (List ℕ) → Listed → Type 0
  Post (Nodes here before list l) os r = Came here before list l r

  abbrev Ok : (List (List ℕ) → Listed → Type 0) → List (List ℕ) → Does Listed → Type 0
  Ok P os x = Keeps Pre Post P os x

  module _ (P : List (List ℕ) → Listed → Type 0) where
    cut_ok : (here : Context) (os : List (List ℕ)) (why : Why) → Ok P os (cut here why)
    cut_ok here os (Bad fault) = tt
    cut_ok here os Need = limit_ok here.limit where
      limit_ok : (o : Option ℕ) → Ok P os (ends_at here o)
      limit_ok None = tt
      limit_ok (Some most) = tt

    -- either way, with what was found of the test
    if_ok : (t b : Bool) (os : List (List ℕ)) (x y : Does Listed) → t ≡ b → (t ≡ true → Ok P os x) → (t ≡ false → Ok P os y) → Ok P os (if b then x else y)
    if_ok t true os x y e h k = h e
    if_ok t false os x y e h k = k e

    text_ok : (here : Context) (offset : ℕ) (said : List ℕ) (l : Loading) (os : List (List ℕ)) → P os (listed [] l)
        → (allows_text here.inside ≡ true → P os (listed (text_item reads files here offset said here.inside) l))
        → Ok P os (text_of reads files here offset said l)
    text_ok here offset said l os h k =
        let t = list_all is_space said && not (keeps_space here.inside) in
        if_ok t t os (Ret (listed [] l)) _ refl (λ e. h)
        (λ n. if_ok (allows_text here.inside) (allows_text here.inside) os (Ret (listed (text_item reads files here offset said here.inside) l)) (refused here here.at code.Misplaced) refl k (λ e. tt))

    -- what may come behind an element: it goes on with whatever it came to
    abbrev Goes : Context → (before : List Item) → Element → (kids : Forest) → Loading → Listed → Type 0
    Goes here before e kids l m = (stage : Stage) (next : Forest) (r : Listed) → Came here (before ++ m.items) next m.loading r → Came here before (Nested stage e kids next) l r

    abbrev On : Context → (before : List Item) → Element → (kids : Forest) → Loading → Type 0
    On here before e kids l = (os : List (List ℕ)) (m : Listed) → Goes here before e kids l m → P os m

    -- its list goes on from m
    abbrev Enters : Context → (before : List Item) → Element → (kids : Forest) → Loading → Kind → Loading → Type 0
    Enters here before e kids l kind m =
        (inner : Listed) → Came (in_element here before kind e m) [] kids m inner → HasWhen kind inner.items → Goes here before e kids l (element_made here e kind inner)

    closed_ok : (here : Context) (e : Element) (kind : Kind) (inner : Listed) (os : List (List ℕ)) → (HasWhen kind inner.items → P os (element_made here e kind inner))
        → Ok P os (closed reads files here e.offset kind (scope_at here e) (values reads here kind e) inner)
    closed_ok here e kind inner os h =
        let t = is_choose kind && length (branches inner.items) == 0 in
        if_ok t t os (refused here e.offset code.Misplaced) (Ret (element_made here e kind inner)) refl (λ e. tt) h

    list_ok : (here : Context) (before : List Item) (e : Element) (kids : Forest) (l : Loading) (kind : Kind) (os : List (List ℕ)) (m : Listed) → On here before e kids l
        → Enters here before e kids l kind m.loading
        → Ok P os (Ask (Nodes (in_element here before kind e m.loading) [] kids m.loading) (λ inner. closed reads files here e.offset kind (scope_at here e) (values reads here kind e) inner))
    list_ok here before e kids l kind os m h enters =
        (tt, λ ps inner c. closed_ok here e kind inner (os ++ ps) (λ w. h (os ++ ps) (element_made here e kind inner) (enters inner c w)))

  module _ (P : List (List ℕ) → Listed → Type 0) where
    given_ok : (here : Context) (before : List Item) (e : Element) (kids : Forest) (l : Loading) (kind : Kind) (os : List (List ℕ)) (o : Option (Option File))
        → fault_of reads here before l.sheet e kind ≡ None → is_include kind ≡ true
        → slice_get files (length (behind_tag here before e kind l).sheet.files) ≡ o
        → ((ps : List (List ℕ)) (m : Listed) → Enters P here before e kids l kind m.loading → P ps m)
        → Ok P os (file_given reads files here e.offset (length (behind_tag here before e kind l).sheet.files) o (href_of here e kind) (behind_tag here before e kind l))
    given_ok here before e kids l kind os None f i at h = tt
    given_ok here before e kids l kind os (Some None) f i at h = tt
    given_ok here before e kids l kind os (Some (Some file)) f i at h =
        (tt, λ ps m c. h (os ++ ps) m (λ inner d w stage next r n. includes here before stage e kids next l kind file m inner r f i at c d w n))

    included_ok : (here : Context) (before : List Item) (e : Element) (kids : Forest) (l : Loading) (kind : Kind)
        → fault_of reads here before l.sheet e kind ≡ None
        → ((ps : List (List ℕ)) (m : Listed) → Enters P here before e kids l kind m.loading → P ps m)
        → Ok P [] (included reads files here e.offset kind (values reads here kind e) (behind_tag here before e kind l))
    included_ok here before e kids l kind f h =
        let start = behind_tag here before e kind l in
        if_ok P (is_include kind) (is_include kind) [] (file_of reads files here e.offset (href_of here e kind) start) (Ret (listed [] start)) refl
        (λ i. given_ok here before e kids l kind (href_of here e kind ∷ []) (slice_get files (length start.sheet.files)) f i refl h)
        (λ i. h [] (listed [] start) (λ inner d w stage next r n. makes here before stage e kids next l kind inner r f i d w n))

  module _ (P : List (List ℕ) → Listed → Type 0) where
    good_ok : (here : Context) (before : List Item) (e : Element) (kids : Forest) (kind : Kind) (l : Loading) → fault_of reads here before l.sheet e kind ≡ None → On P here before e kids l
        → Ok P [] (good reads files here before e kids kind (values reads here kind e) l)
    good_ok here before e kids kind l f h =
        let v = values reads here kind e in
        let on : Listed → Does Listed = λ r. Ask (Nodes (within here before kind e v (length r.loading.sheet.groups - 1)) [] kids r.loading) (λ inner. closed reads files here e.offset kind (scope_at here e) v inner) in
        keeps_then Pre Post P [] (included reads files here e.offset kind v (behind_tag here before e kind l)) on
        (included_ok (λ os r. Ok P os (on r)) here before e kids l kind f (λ os m enters. list_ok P here before e kids l kind os m h enters))

    judged_ok : (here : Context) (before : List Item) (e : Element) (kids : Forest) (kind : Kind) (o : Option SheetCode) (l : Loading) → fault_of reads here before l.sheet e kind ≡ o → On P here before e kids l
        → Ok P [] (judged reads files here before e kids kind o l)
    judged_ok here before e kids kind (Some why) l f h = tt
    judged_ok here before e kids kind None l f h = good_ok here before e kids kind l f h

    known_ok : (here : Context) (before : List Item) (e : Element) (kids : Forest) (o : Option Kind) (l : Loading) → On P here before e kids l → Ok P [] (known reads files here before e kids o l)
    known_ok here before e kids None l h = tt
    known_ok here before e kids (Some kind) l h = judged_ok here before e kids kind (fault_of reads here before l.sheet e kind) l refl h

    copied_ok : (here : Context) (before : List Item) (e : Element) (kids : Forest) (l : Loading) → here.inside ≡ Parts → On P here before e kids l → Ok P [] (copied reads files here e kids l)
    copied_ok here before e kids l i h =
        (tt, λ os inner c. h os (listed (copied_items e inner.items) inner.loading) (λ stage next r n. copies here before stage e kids next l inner r i c n))

    literal_ok : (here : Context) (before : List Item) (e : Element) (kids : Forest) (l : Loading) → allows_literals here.inside ≡ true → are_parts here.inside ≡ false
        → path_fault (templates reads files here e) ≡ None → On P here before e kids l → Ok P [] (literal reads files here before e kids l)
    literal_ok here before e kids l a n f h =
        (tt, λ os inner c. h os (listed (literal_item here e inner.items) inner.loading) (λ stage next r d. writes here before stage e kids next l inner r a n f c d))

    readable_ok : (here : Context) (before : List Item) (e : Element) (kids : Forest) (l : Loading) (o : Option SheetCode) → allows_literals here.inside ≡ true → are_parts here.inside ≡ false
        → path_fault (templates reads files here e) ≡ o → On P here before e kids l → Ok P [] (option_map_or (λ why. refused here e.offset why) o (literal reads files here before e kids l))
    readable_ok here before e kids l None a n f h = literal_ok here before e kids l a n f h
    readable_ok here before e kids l (Some why) a n f h = tt

    in_body_ok : (here : Context) (before : List Item) (e : Element) (kids : Forest) (l : Loading) (list : Inside) → here.inside ≡ list → are_parts list ≡ false → On P here before e kids l
        → Ok P [] (if not (allows_literals list) then refused here e.offset code.Misplaced else option_map_or (λ why. refused here e.offset why) (path_fault (templates reads files here e)) (literal reads files here before e kids l))
    in_body_ok here before e kids l list i n h = allowed (allows_literals list) (ap allows_literals i) where
      allowed : (b : Bool) → allows_literals here.inside ≡ b → Ok P [] (if not b then refused here e.offset code.Misplaced else option_map_or (λ why. refused here e.offset why) (path_fault (templates reads files here e)) (literal reads files here before e kids l))
      allowed false a = tt
      allowed true a = readable_ok here before e kids l (path_fault (templates reads files here e)) a (ap are_parts i ∙ n) refl h

    literal_judged_ok : (here : Context) (before : List Item) (e : Element) (kids : Forest) (list : Inside) (l : Loading) → here.inside ≡ list → On P here before e kids l → Ok P [] (literal_judged reads files here before e kids list l)
    literal_judged_ok here before e kids Parts l i h = copied_ok here before e kids l i h
    literal_judged_ok here before e kids (Document b) l i h = in_body_ok here before e kids l (Document b) i refl h
    literal_judged_ok here before e kids (Declarations b) l i h = in_body_ok here before e kids l (Declarations b) i refl h
    literal_judged_ok here before e kids Start_of_body l i h = in_body_ok here before e kids l Start_of_body i refl h
    literal_judged_ok here before e kids Body l i h = in_body_ok here before e kids l Body i refl h
    literal_judged_ok here before e kids Branches l i h = in_body_ok here before e kids l Branches i refl h
    literal_judged_ok here before e kids With_params l i h = in_body_ok here before e kids l With_params i refl h
    literal_judged_ok here before e kids (Characters b) l i h = in_body_ok here before e kids l (Characters b) i refl h
    literal_judged_ok here before e kids Nothing l i h = in_body_ok here before e kids l Nothing i refl h

    listed_ok : (here : Context) (before : List Item) (e : Element) (kids : Forest) (list : Inside) (l : Loading) → here.inside ≡ list → On P here before e kids l
        → Ok P [] (if is_stx e.name then known reads files here before e kids (kind_named e.name.local) l else literal_judged reads files here before e kids list l)
    listed_ok here before e kids list l i h =
        if_ok P (is_stx e.name) (is_stx e.name) [] (known reads files here before e kids (kind_named e.name.local) l) (literal_judged reads files here before e kids list l) refl
        (λ s. known_ok here before e kids (kind_named e.name.local) l h) (λ s. literal_judged_ok here before e kids list l i h)

    element_ok : (here : Context) (before : List Item) (e : Element) (kids : Forest) (list : Inside) (l : Loading) → here.inside ≡ list → On P here before e kids l → Ok P [] (element_of reads files here before e kids list l)
    element_ok here before e kids (Document b) l i h =
        if_ok P (is_transform_named e.name) (is_transform_named e.name) [] (known reads files here before e kids (kind_named e.name.local) l) (refused here e.offset code.NotStx) refl
        (λ s. known_ok here before e kids (kind_named e.name.local) l h) (λ s. tt)
    element_ok here before e kids (Declarations b) l i h = listed_ok here before e kids (Declarations b) l i h
    element_ok here before e kids Start_of_body l i h = listed_ok here before e kids Start_of_body l i h
    element_ok here before e kids Body l i h = listed_ok here before e kids Body l i h
    element_ok here before e kids Branches l i h = listed_ok here before e kids Branches l i h
    element_ok here before e kids With_params l i h = listed_ok here before e kids With_params l i h
    element_ok here before e kids (Characters b) l i h = listed_ok here before e kids (Characters b) l i h
    element_ok here before e kids Parts l i h = listed_ok here before e kids Parts l i h
    element_ok here before e kids Nothing l i h = listed_ok here before e kids Nothing l i h

    when_known_ok : (here : Context) (before : List Item) (stage : Stage) (e : Element) (kids : Forest) (l : Loading) → On P here before e kids l → Ok P [] (when_known reads files here before stage e kids l)
    when_known_ok here before Waiting e (Cut why) l h = cut_ok P here [] why
    when_known_ok here before Waiting e (End mark offset) l h = element_ok here before e (End mark offset) here.inside l refl h
    when_known_ok here before Waiting e (Single mark leaf next) l h = element_ok here before e (Single mark leaf next) here.inside l refl h
    when_known_ok here before Waiting e (Nested stage x kids next) l h = element_ok here before e (Nested stage x kids next) here.inside l refl h
    when_known_ok here before (Ready told) e kids l h = element_ok here before e kids here.inside l refl h
    when_known_ok here before (Entered told) e kids l h = element_ok here before e kids here.inside l refl h

  abbrev behind_node : Context → (before : List Item) → (next : Forest) → Listed → Does Listed
  behind_node here before next r = Ask (Nodes here (before ++ r.items) next r.loading) Ret

  -- white space alone is passed over
  passed : (here : Context) (before : List Item) (mark : Mark) (leaf : Leaf) (next : Forest) (l : Loading) (r : Listed) → Came here (before ++ []) next l r → Came here before (Single mark leaf next) l r
  passed here before mark leaf next l r c = passes here before mark leaf next l r (subst (λ items. Came here items next l r) (append_nil before) c)

  text_nodes_ok : (here : Context) (before : List Item) (mark : Mark) (leaf : Leaf) (offset : ℕ) (said : List ℕ) (next : Forest) (l : Loading) → Says leaf said
      → Ok (λ os r. Came here before (Single mark leaf next) l r) [] (and_then (text_of reads files here offset said l) (behind_node here before next))
  text_nodes_ok here before mark leaf offset said next l s =
      let P : List (List ℕ) → Listed → Type 0 = λ os r. Came here before (Single mark leaf next) l r in
      keeps_then Pre Post P [] (text_of reads files here offset said l) (behind_node here before next)
      (text_ok (λ os m. Ok P os (behind_node here before next m)) here offset said l []
      (tt, λ os r c. passed here before mark leaf next l r c)
      (λ a. (tt, λ os r c. speaks here before mark leaf offset said next l r s a c)))

  nodes_ok : (here : Context) (before : List Item) (list : Forest) (l : Loading) → Ok (λ os r. Came here before list l r) [] (nodes reads files here before list l)
  nodes_ok here before (End mark offset) l = at_end here before mark offset l
  nodes_ok here before (Cut why) l = cut_ok (λ os r. Came here before (Cut why) l r) here [] why
  nodes_ok here before (Single mark (Chars offset said) next) l = text_nodes_ok here before mark (Chars offset said) offset said next l refl
  nodes_ok here before (Single mark (CData offset said) next) l = text_nodes_ok here before mark (CData offset said) offset said next l refl
  nodes_ok here before (Single mark (Comment offset said) next) l = (tt, λ os r c. passes here before mark (Comment offset said) next l r c)
  nodes_ok here before (Single mark (Pi offset target said) next) l = (tt, λ os r c. passes here before mark (Pi offset target said) next l r c)
  nodes_ok here before (Nested stage e kids next) l =
      let P : List (List ℕ) → Listed → Type 0 = λ os r. Came here before (Nested stage e kids next) l r in
      keeps_then Pre Post P [] (when_known reads files here before stage e kids l) (behind_node here before next)
      (when_known_ok (λ os m. Ok P os (behind_node here before next m)) here before stage e kids l
      (λ os m goes. (tt, λ ps r c. goes stage next r c)))

  code_ok : (q : Job) → Pre q → Ok (Post q) [] (code_of_job reads files q)
  code_ok (Nodes here before list l) p = nodes_ok here before list l

  -- what a sheet's own file comes to, where no reference is lost
  abbrev pub CameWhole : (name : List ℕ) → File → Listed → Type 0
  CameWhole name file r = Came (at_start name file) [] file.nodes (nothing name) r × (first_lost r.loading.sheet r.loading.references ≡ None)

whole_ok : (reads : Reads) (files : List (Option File)) (P : Listed → Type 0) (os : List (List ℕ)) (r : Listed) (o : Option Reference) → (o ≡ None → P r) → Ok reads files (λ ps s. P s) os (whole r o)
whole_ok reads files P os r None h = h refl
whole_ok reads files P os r (Some lost) h = tt

-- A sheet that is given was come to step by step.
pub given_came : (reads : Reads) (name : List ℕ) (file : File) (others : List (Option File)) (names : List (List ℕ)) (r : Listed)
    → Gives (code_of_job reads (Some file ∷ others)) (sheet_of reads name (Some file ∷ others)) names r → CameWhole reads (Some file ∷ others) name file r
given_came reads name file others names r g =
    let files : List (Option File) = Some file ∷ others in
    let P : Listed → Type 0 = λ s. Came reads files (at_start name file) [] file.nodes (nothing name) s × (first_lost s.loading.sheet s.loading.references ≡ None) in
    let ok : Ok reads files (λ os s. P s) [] (sheet_of reads name files) =
    (tt, λ os s c. whole_ok reads files P (name ∷ os) s (first_lost s.loading.sheet s.loading.references) (λ n. (c, n))) in
    subst (Holds (Pre reads files) (Post reads files) (λ os s. P s) []) g.comes
    (comes_with (Pre reads files) (Post reads files) (code_of_job reads files) (code_ok reads files) g.depth (λ os s. P s) (sheet_of reads name files) ok)
