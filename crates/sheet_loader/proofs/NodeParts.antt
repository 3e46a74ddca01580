-- What a buffer begins with is its element's nodes, written as they are.
use Rattle.std.proofs.Common.{◌≡◌, ℕ, Bool, true, false, not, ◌&&◌, List, [], ◌∷◌, ◌++◌, Option, Some, None, map, refl, ap, sym, ◌∙◌, if◌then◌else◌}
use Rattle.std.proofs.Math.Path.{subst}
use Rattle.std.proofs.lemmas.Grind.{flat_map-append}
use Rattle.std.proofs.lemmas.List.{append_assoc}
use Rattle.std.specs.List.{list_all, list_any}
use Rattle.stx_base.specs.Character.{is_space}
use Rattle.stx_base.specs.Course.{Ret, Ask, and_then}
use Rattle.stx_base.specs.declared.fault.SheetCode.TheVariants as code
use Rattle.stx_base.specs.declared.part.Part.{Part}
use Rattle.stx_base.specs.declared.part.Part.TheVariants as part
use Rattle.xml_events.specs.Tree.{Forest, Chars, CData, Comment, Pi, Element, End, Cut, Single, Nested, Stage, Waiting, Ready, Entered, Why, Need, Bad}
use Rattle.sheet_model.specs.declared.sheet.Sheet.{Sheet}
use Rattle.sheet_loader.proofs.Keeping.{Holds, Keeps, append_nil, comes_with, keeps_then}
use Rattle.sheet_loader.specs.Content.{WritesNodes, node_parts, text_parts}
use Rattle.sheet_loader.specs.Elements.{Kind, Parts, allows_text, is_allowed, keeps_space, kind_named}
use Rattle.sheet_loader.specs.Judging.{declares_again, fault_of, first_of, found, is_loop, is_stx, is_version, refuses, rows_of, values}
use Rattle.sheet_loader.specs.Making.{behind, last_of, parts, parts_of_item}
use Rattle.sheet_loader.specs.Read.{code_of_job, copied, element_of, element_parts, judged, known, listed, nodes, text_item, text_of, when_known}
use Rattle.sheet_loader.specs.Reading.{File, Context, Does, Item, Job, Listed, Loading, Nodes, A_part, cut, ends_at, refused}
use Rattle.sheet_loader.specs.Tags.{is_bad_value, is_missing, is_unknown, path_fault}
use Rattle.sheet_loader.specs.Values.{Reads}

both_none : (os ps : List (List ℕ)) → os ≡ [] → ps ≡ [] → os ++ ps ≡ []
both_none os ps h k = ap (λ l. l ++ ps) h ∙ k

-- parts, each as an item, come to themselves
parts_of_parts : (ps : List Part) → parts (map A_part ps) ≡ ps
parts_of_parts [] = refl
parts_of_parts (p ∷ ps) = ap (λ l. p ∷ l) (parts_of_parts ps)

-- items of these parts, and then others
joined : (before items : List Item) (middle rest : List Part) → parts items ≡ middle → parts (before ++ items) ++ rest ≡ parts before ++ (middle ++ rest)
joined before items middle rest h =
    ap (λ l. l ++ rest) (flat_map-append parts_of_item before items)
    ∙ append_assoc (parts before) (parts items) rest
    ∙ ap (λ l. parts before ++ (l ++ rest)) h

module _ (reads : Reads) (files : List (Option File)) where
  abbrev Pre : Job → Type 0
  Pre (Nodes here before list l) = here.inside ≡ Parts

  -- nothing is opened, and what was read stays
  abbrev Silent : Loading → (content : List Part) → List (List ℕ) → Listed → Type 0
  Silent l content os r = (os ≡ []) × (r.loading ≡ l) × (parts r.items ≡ content)

  abbrev Post : Job → List (List ℕ) → Listed → Type 0
  Post (Nodes here before list l) os r = Silent l (parts before ++ node_parts list) os r

  abbrev Ok : (List (List ℕ) → Listed → Type 0) → List (List ℕ) → Does Listed → Type 0
  Ok P os x = Keeps Pre Post P os x

  module _ (P : List (List ℕ) → Listed → Type 0) (here : Context) (inside : here.inside ≡ Parts) (l : Loading) where
    text_ok : (offset : ℕ) (text : List ℕ) → ((items : List Item) → parts items ≡ text_parts text → P [] (listed items l)) → Ok P [] (text_of reads files here offset text l)
    text_ok offset text h =
        subst (λ i. Ok P [] (if list_all is_space text && not (keeps_space i) then Ret (listed [] l) else if allows_text i then Ret (listed (text_item reads files here offset text i) l) else refused here here.at code.Misplaced)) (sym inside)
        (of_blank (list_all is_space text) h)
      where
        of_blank : (b : Bool) → ((items : List Item) → parts items ≡ (if b then [] else part.Chars text ∷ []) → P [] (listed items l)) → Ok P [] (if b && true then Ret (listed [] l) else Ret (listed (A_part (part.Chars text) ∷ []) l))
        of_blank true h = h [] refl
        of_blank false h = h (A_part (part.Chars text) ∷ []) refl

    misplaced : (before : List Item) (s : Sheet) (e : Element) (kind : Kind) → fault_of reads here before s e kind ≡ Some code.Misplaced
    misplaced before s e kind =
        ap (λ i. first_of (
        refuses (not (is_allowed (behind i before) (last_of before) kind)) code.Misplaced
        ∷ refuses (list_any (is_unknown (rows_of here kind)) e.attrs) code.UnknownAttribute
        ∷ refuses (list_any (is_missing e.attrs) (rows_of here kind)) code.MissingAttribute
        ∷ refuses (list_any (λ row. is_version row.form) (rows_of here kind) && not here.version.is_known) code.Version
        ∷ refuses (list_any is_bad_value (found reads here kind e)) code.BadValue
        ∷ path_fault (found reads here kind e)
        ∷ refuses (declares_again here before s kind (values reads here kind e)) code.DuplicateName
        ∷ refuses (is_loop here kind (values reads here kind e)) code.IncludeLoop
        ∷ [])) inside

    known_ok : (before : List Item) (e : Element) (kids : Forest) (o : Option Kind) → Ok P [] (known reads files here before e kids o l)
    known_ok before e kids None = tt
    known_ok before e kids (Some kind) =
        subst (λ o. Ok P [] (judged reads files here before e kids kind o l)) (sym (misplaced before l.sheet e kind)) tt

    either_ok : (b : Bool) (x y : Does Listed) → Ok P [] x → Ok P [] y → Ok P [] (if b then x else y)
    either_ok true x y h k = h
    either_ok false x y h k = k

    cut_ok : (why : Why) → Ok P [] (cut here why)
    cut_ok (Bad fault) = tt
    cut_ok Need = limit_ok here.limit where
      limit_ok : (o : Option ℕ) → Ok P [] (ends_at here o)
      limit_ok None = tt
      limit_ok (Some most) = tt

    element_ok : (before : List Item) (e : Element) (kids : Forest) → ((os : List (List ℕ)) (r : Listed) → Silent l (element_parts reads files e (node_parts kids)) os r → P os r) → Ok P [] (element_of reads files here before e kids here.inside l)
    element_ok before e kids h =
        subst (λ i. Ok P [] (element_of reads files here before e kids i l)) (sym inside)
        (either_ok (is_stx e.name) (known reads files here before e kids (kind_named e.name.local) l) (copied reads files here e kids l)
        (known_ok before e kids (kind_named e.name.local)) (
          inside,
          λ os r p. h os _ (
            p.0,
            p.1,
            parts_of_parts (element_parts reads files e (parts r.items)) ∙ ap (element_parts reads files e) p.2,
          ),
        ))

    when_known_ok : (before : List Item) (stage : Stage) (e : Element) (kids : Forest) → ((os : List (List ℕ)) (r : Listed) → Silent l (element_parts reads files e (node_parts kids)) os r → P os r) → Ok P [] (when_known reads files here before stage e kids l)
    when_known_ok before Waiting e (Cut why) h = cut_ok why
    when_known_ok before Waiting e (End mark offset) h = element_ok before e (End mark offset) h
    when_known_ok before Waiting e (Single mark leaf next) h = element_ok before e (Single mark leaf next) h
    when_known_ok before Waiting e (Nested stage x kids next) h = element_ok before e (Nested stage x kids next) h
    when_known_ok before (Ready told) e kids h = element_ok before e kids h
    when_known_ok before (Entered told) e kids h = element_ok before e kids h

  abbrev behind_node : Context → (before : List Item) → (next : Forest) → Listed → Does Listed
  behind_node here before next r = Ask (Nodes here (before ++ r.items) next r.loading) Ret

  next_ok : (here : Context) (before : List Item) (next : Forest) (l : Loading) (middle : List Part) (os : List (List ℕ)) (r : Listed) → here.inside ≡ Parts → Silent l middle os r → Ok (Silent l (parts before ++ (middle ++ node_parts next))) os (behind_node here before next r)
  next_ok here before next l middle os r i h =
      (i, λ ps t p. (both_none os ps h.0 p.0, p.1 ∙ h.1, p.2 ∙ joined before r.items middle (node_parts next) h.2))

  text_nodes_ok : (here : Context) (before : List Item) (offset : ℕ) (text : List ℕ) (next : Forest) (l : Loading) → here.inside ≡ Parts → Ok (Silent l (parts before ++ (text_parts text ++ node_parts next))) [] (and_then (text_of reads files here offset text l) (behind_node here before next))
  text_nodes_ok here before offset text next l i =
      let P : List (List ℕ) → Listed → Type 0 = Silent l (parts before ++ (text_parts text ++ node_parts next)) in
      keeps_then Pre Post P [] (text_of reads files here offset text l) (behind_node here before next)
      (text_ok (λ os r. Ok P os (behind_node here before next r)) here i l offset text (λ items h. next_ok here before next l (text_parts text) [] (listed items l) i (refl, refl, h)))

  nodes_ok : (here : Context) (before : List Item) (list : Forest) (l : Loading) → here.inside ≡ Parts → Ok (Silent l (parts before ++ node_parts list)) [] (nodes reads files here before list l)
  nodes_ok here before (End mark offset) l i = (refl, refl, sym (append_nil (parts before)))
  nodes_ok here before (Cut why) l i = cut_ok (Silent l (parts before ++ [])) here i l why
  nodes_ok here before (Single mark (Chars offset text) next) l i = text_nodes_ok here before offset text next l i
  nodes_ok here before (Single mark (CData offset text) next) l i = text_nodes_ok here before offset text next l i
  nodes_ok here before (Single mark (Comment offset text) next) l i = (i, λ os r p. p)
  nodes_ok here before (Single mark (Pi offset target text) next) l i = (i, λ os r p. p)
  nodes_ok here before (Nested stage e kids next) l i =
      let content = element_parts reads files e (node_parts kids) in
      let P : List (List ℕ) → Listed → Type 0 = Silent l (parts before ++ (content ++ node_parts next)) in
      keeps_then Pre Post P [] (when_known reads files here before stage e kids l) (behind_node here before next)
      (when_known_ok (λ os r. Ok P os (behind_node here before next r)) here i l before stage e kids (λ os r h. next_ok here before next l content os r i h))

  code_ok : (q : Job) → Pre q → Ok (Post q) [] (code_of_job reads files q)
  code_ok (Nodes here before list l) i = nodes_ok here before list l i

pub writes_nodes : WritesNodes
writes_nodes reads files here before list l names r i g =
    subst (Holds (Pre reads files) (Post reads files) (Silent reads files l (parts before ++ node_parts list)) []) g.comes
    (comes_with (Pre reads files) (Post reads files) (code_of_job reads files) (code_ok reads files) g.depth (Silent reads files l (parts before ++ node_parts list)) (nodes reads files here before list l) (nodes_ok reads files here before list l i))
