-- Each reading has an end: the calls within a call read fewer nodes.
use Rattle.std.proofs.Common.{◌≡◌, ℕ, zero, suc, ◌+◌, ◌-◌, ◌<◌, ◌≤◌, Bool, true, false, not, ◌&&◌, ◌==◌, List, [], ◌∷◌, ◌++◌, length, slice_get, Option, Some, None, refl, ap, ◌∙◌, arith, if◌then◌else◌, codes}
use Rattle.std.specs.Option.{option_map_or}
use Rattle.std.proofs.lemmas.List.{length-append}
use Rattle.std.specs.List.{list_all}
use Rattle.stx_base.specs.Character.{is_space}
use Rattle.stx_base.specs.Course.{Ret, Ask, Answer, Given, Over, Unknown}
use Rattle.stx_base.specs.Termination.{Safe}
use Rattle.stx_base.proofs.Course.{one_end, one_result, result_or_end}
use Rattle.stx_base.proofs.Termination.{safe_then, comes_to, Known}
use Rattle.stx_base.specs.declared.fault.SheetCode.{SheetCode}
use Rattle.stx_base.specs.declared.fault.SheetCode.TheVariants as code
use Rattle.stx_base.specs.declared.name.Binding.{Binding}
use Rattle.xml_events.specs.Tree.{Forest, Chars, CData, Comment, Pi, Element, End, Cut, Single, Nested, Why, Need, Bad, Stage, Waiting, Ready, Entered}
use Rattle.sheet_loader.specs.Elements.{Kind, Inside, Document, Declarations, Start_of_body, Body, Branches, With_params, Characters, Parts, Nothing, is_own, is_include, makes_group, kind_named, allows_literals, allows_text, keeps_space}
use Rattle.sheet_loader.specs.Judging.{fault_of, is_declared_here, is_stx, is_transform_named, scope_at, values}
use Rattle.sheet_loader.specs.Load.{whole, size, sizes, outcome, sheet_of}
use Rattle.sheet_loader.specs.Making.{Values, as_word, branches, item, value_at}
use Rattle.sheet_loader.specs.Read.{begun, closed, code_of_job, copied, element_of, ended, file_given, file_of, good, included, is_choose, judged, known, listed, literal, literal_judged, made, nodes, templates, text_item, text_of, when_known, with_group, with_root, within}
use Rattle.sheet_loader.specs.Reading.{File, Ending, Loading, Context, Item, Listed, Job, Nodes, Does, cut, ends_at, place, refused}
use Rattle.sheet_loader.specs.References.{first_lost, Reference}
use Rattle.sheet_loader.specs.Referring.{references}
use Rattle.sheet_loader.specs.Tags.{path_fault}
use Rattle.sheet_loader.specs.Values.{Reads}
use Rattle.sheet_loader.specs.Laws.{Comes, ComesToOne}

-- the nodes of the files from a place on
abbrev pub sizes_from : List (Option File) → ℕ → ℕ
sizes_from [] n = 0
sizes_from (f ∷ files) zero = sizes (f ∷ files)
sizes_from (f ∷ files) (suc n) = sizes_from files n

sizes_at_start : (files : List (Option File)) → sizes_from files 0 ≡ sizes files
sizes_at_start [] = refl
sizes_at_start (f ∷ files) = refl

sizes_at : (files : List (Option File)) (n : ℕ) (file : File) → slice_get files n ≡ Some (Some file) → sizes_from files n ≡ size file.nodes + sizes_from files (suc n)
sizes_at [] n file e = absurd cc
sizes_at (f ∷ files) zero file e =
    let g : f ≡ Some file = cc in
    let p = ap (λ x. option_map_or (λ (y : File). size y.nodes) x 0) g in
    let q = sizes_at_start files in omega (arith, p, q)
sizes_at (f ∷ files) (suc n) file e = sizes_at files n file e

module _ (reads : Reads) (files : List (Option File)) where
  -- the nodes of the files that aren't opened yet
  abbrev pub coming : Loading → ℕ
  coming l = sizes_from files (length l.sheet.files)

  abbrev pub weight : Job → ℕ
  weight (Nodes here before list l) = size list + coming l

  abbrev pub Pre : Job → Type 0
  Pre q = Unit {0}

  abbrev pub Post : Job → Listed → Type 0
  Post (Nodes here before list l) r = coming r.loading ≤ coming l

  abbrev pub Ok : ℕ → (Listed → Type 0) → Does Listed → Type 0
  Ok w P x = Safe weight Pre Post w P x

  begun_coming : (here : Context) (at : ℕ) (kind : Kind) (v : Values) (l : Loading) → coming (begun here at kind v l) ≡ coming l
  begun_coming here at kind v l = of_own (is_own here.inside) where
    of_group : (b : Bool) → coming (if b then with_group here at v l else l) ≡ coming l
    of_group true = refl
    of_group false = refl

    of_own : (b : Bool) → coming (if b then with_root here at v l else if makes_group kind then with_group here at v l else l) ≡ coming l
    of_own true = refl
    of_own false = of_group (makes_group kind)

  made_coming : (here : Context) (at : ℕ) (kind : Kind) (scope : List Binding) (v : Values) (inner : Listed) → coming (made here at kind scope v inner).loading ≡ coming inner.loading
  made_coming here at kind scope v inner = of_declared (is_declared_here here.inside) where
    of_declared : (b : Bool) → coming (if b then listed [] (ended here at kind v inner) else listed (item kind here.group (place here at) scope v inner.items) inner.loading).loading ≡ coming inner.loading
    of_declared true = refl
    of_declared false = refl

  module _ (w : ℕ) (P : Listed → Type 0) where
    either_ok : (b : Bool) (x y : Does Listed) → Ok w P x → Ok w P y → Ok w P (if b then x else y)
    either_ok true x y h k = h
    either_ok false x y h k = k

    cut_ok : (here : Context) (why : Why) → Ok w P (cut here why)
    cut_ok here (Bad fault) = tt
    cut_ok here Need = limit_ok here.limit where
      limit_ok : (o : Option ℕ) → Ok w P (ends_at here o)
      limit_ok None = tt
      limit_ok (Some most) = tt

    text_ok : (here : Context) (offset : ℕ) (text : List ℕ) (l : Loading) → ((items : List Item) → P (listed items l)) → Ok w P (text_of reads files here offset text l)
    text_ok here offset text l h =
        either_ok (list_all is_space text && not (keeps_space here.inside)) (Ret (listed [] l)) _ (h [])
        (either_ok (allows_text here.inside) (Ret (listed (text_item reads files here offset text here.inside) l)) (refused here here.at code.Misplaced) (h (text_item reads files here offset text here.inside)) tt)

    given_ok : (here : Context) (at : ℕ) (href : List ℕ) (l : Loading) (o : Option (Option File)) → slice_get files (length l.sheet.files) ≡ o → coming l < w → ((r : Listed) → coming r.loading ≤ coming l → P r) → Ok w P (file_given reads files here at (length l.sheet.files) o href l)
    given_ok here at href l None e less h = tt
    given_ok here at href l (Some None) e less h = tt
    given_ok here at href l (Some (Some file)) e less h =
        let s = sizes_at files (length l.sheet.files) file e in
        let n = length-append l.sheet.files (href ∷ []) in
        let one : length (l.sheet.files ++ href ∷ []) ≡ suc (length l.sheet.files) = omega (arith, n) in
        let m = ap (sizes_from files) one in
        (tt, omega (arith, s, m), λ r p. h r (omega (arith, p, s, m)))

    included_ok : (here : Context) (at : ℕ) (kind : Kind) (v : Values) (l : Loading) → coming l < w → ((r : Listed) → coming r.loading ≤ coming l → P r) → Ok w P (included reads files here at kind v l)
    included_ok here at kind v l less h =
        either_ok (is_include kind) (file_of reads files here at (as_word (value_at (codes "href") v)) l) (Ret (listed [] l))
        (given_ok here at (as_word (value_at (codes "href") v)) l (slice_get files (length l.sheet.files)) refl less h) (h (listed [] l) (omega arith))

    closed_ok : (here : Context) (at : ℕ) (kind : Kind) (scope : List Binding) (v : Values) (inner : Listed) → P (made here at kind scope v inner) → Ok w P (closed reads files here at kind scope v inner)
    closed_ok here at kind scope v inner h =
        either_ok (is_choose kind && length (branches inner.items) == 0) (refused here at code.Misplaced) (Ret (made here at kind scope v inner)) tt h

  module _ (w : ℕ) (P : Listed → Type 0) where
    good_ok : (here : Context) (before : List Item) (e : Element) (kids : Forest) (kind : Kind) (v : Values) (l : Loading) → size kids + coming l < w → ((r : Listed) → coming r.loading ≤ coming l → P r) → Ok w P (good reads files here before e kids kind v l)
    good_ok here before e kids kind v l less h =
        let referring : Loading = record l { references = l.references ++ references (place here e.offset) here before l.sheet kind v } in
        let start = begun here e.offset kind v referring in
        let same = begun_coming here e.offset kind v referring in
        let last : Listed → Does Listed = λ inner. closed reads files here e.offset kind (scope_at here e) v inner in
        let on : Listed → Does Listed = λ r. Ask (Nodes (within here before kind e v (length r.loading.sheet.groups - 1)) [] kids r.loading) last in
        safe_then weight Pre Post w P (included reads files here e.offset kind v start) on
        (included_ok w (λ r. Ok w P (on r)) here e.offset kind v start (omega (arith, same)) (λ r p. (
          tt,
          omega (arith, same, p),
          λ inner q.
              closed_ok w P here e.offset kind (scope_at here e) v inner
              (h (made here e.offset kind (scope_at here e) v inner) (omega (arith, same, p, q, made_coming here e.offset kind (scope_at here e) v inner))),
        )))

    judged_ok : (here : Context) (before : List Item) (e : Element) (kids : Forest) (kind : Kind) (o : Option SheetCode) (l : Loading) → size kids + coming l < w → ((r : Listed) → coming r.loading ≤ coming l → P r) → Ok w P (judged reads files here before e kids kind o l)
    judged_ok here before e kids kind (Some why) l less h = tt
    judged_ok here before e kids kind None l less h = good_ok here before e kids kind (values reads here kind e) l less h

    known_ok : (here : Context) (before : List Item) (e : Element) (kids : Forest) (o : Option Kind) (l : Loading) → size kids + coming l < w → ((r : Listed) → coming r.loading ≤ coming l → P r) → Ok w P (known reads files here before e kids o l)
    known_ok here before e kids None l less h = tt
    known_ok here before e kids (Some kind) l less h = judged_ok here before e kids kind (fault_of reads here before l.sheet e kind) l less h

    literal_ok : (here : Context) (before : List Item) (e : Element) (kids : Forest) (l : Loading) → size kids + coming l < w → ((r : Listed) → coming r.loading ≤ coming l → P r) → Ok w P (literal reads files here before e kids l)
    literal_ok here before e kids l less h = (tt, less, λ r p. h _ p)

    copied_ok : (here : Context) (e : Element) (kids : Forest) (l : Loading) → size kids + coming l < w → ((r : Listed) → coming r.loading ≤ coming l → P r) → Ok w P (copied reads files here e kids l)
    copied_ok here e kids l less h = (tt, less, λ r p. h _ p)

    readable_ok : (here : Context) (before : List Item) (e : Element) (kids : Forest) (l : Loading) (o : Option SheetCode) → size kids + coming l < w → ((r : Listed) → coming r.loading ≤ coming l → P r) → Ok w P (option_map_or (λ why. refused here e.offset why) o (literal reads files here before e kids l))
    readable_ok here before e kids l None less h = literal_ok here before e kids l less h
    readable_ok here before e kids l (Some why) less h = tt

    in_body_ok : (here : Context) (before : List Item) (e : Element) (kids : Forest) (inside : Inside) (l : Loading) → size kids + coming l < w → ((r : Listed) → coming r.loading ≤ coming l → P r) → Ok w P (if not (allows_literals inside) then refused here e.offset code.Misplaced else option_map_or (λ why. refused here e.offset why) (path_fault (templates reads files here e)) (literal reads files here before e kids l))
    in_body_ok here before e kids inside l less h =
        either_ok w P (not (allows_literals inside)) (refused here e.offset code.Misplaced) _ tt (readable_ok here before e kids l (path_fault (templates reads files here e)) less h)

    literal_judged_ok : (here : Context) (before : List Item) (e : Element) (kids : Forest) (inside : Inside) (l : Loading) → size kids + coming l < w → ((r : Listed) → coming r.loading ≤ coming l → P r) → Ok w P (literal_judged reads files here before e kids inside l)
    literal_judged_ok here before e kids Parts l less h = copied_ok here e kids l less h
    literal_judged_ok here before e kids (Document b) l less h = in_body_ok here before e kids (Document b) l less h
    literal_judged_ok here before e kids (Declarations b) l less h = in_body_ok here before e kids (Declarations b) l less h
    literal_judged_ok here before e kids Start_of_body l less h = in_body_ok here before e kids Start_of_body l less h
    literal_judged_ok here before e kids Body l less h = in_body_ok here before e kids Body l less h
    literal_judged_ok here before e kids Branches l less h = in_body_ok here before e kids Branches l less h
    literal_judged_ok here before e kids With_params l less h = in_body_ok here before e kids With_params l less h
    literal_judged_ok here before e kids (Characters b) l less h = in_body_ok here before e kids (Characters b) l less h
    literal_judged_ok here before e kids Nothing l less h = in_body_ok here before e kids Nothing l less h

    listed_ok : (here : Context) (before : List Item) (e : Element) (kids : Forest) (inside : Inside) (l : Loading) → size kids + coming l < w → ((r : Listed) → coming r.loading ≤ coming l → P r) → Ok w P (if is_stx e.name then known reads files here before e kids (kind_named e.name.local) l else literal_judged reads files here before e kids inside l)
    listed_ok here before e kids inside l less h =
        either_ok w P (is_stx e.name) (known reads files here before e kids (kind_named e.name.local) l) (literal_judged reads files here before e kids inside l)
        (known_ok here before e kids (kind_named e.name.local) l less h) (literal_judged_ok here before e kids inside l less h)

    element_ok : (here : Context) (before : List Item) (e : Element) (kids : Forest) (inside : Inside) (l : Loading) → size kids + coming l < w → ((r : Listed) → coming r.loading ≤ coming l → P r) → Ok w P (element_of reads files here before e kids inside l)
    element_ok here before e kids (Document b) l less h =
        either_ok w P (is_transform_named e.name) (known reads files here before e kids (kind_named e.name.local) l) (refused here e.offset code.NotStx)
        (known_ok here before e kids (kind_named e.name.local) l less h) tt
    element_ok here before e kids (Declarations b) l less h = listed_ok here before e kids (Declarations b) l less h
    element_ok here before e kids Start_of_body l less h = listed_ok here before e kids Start_of_body l less h
    element_ok here before e kids Body l less h = listed_ok here before e kids Body l less h
    element_ok here before e kids Branches l less h = listed_ok here before e kids Branches l less h
    element_ok here before e kids With_params l less h = listed_ok here before e kids With_params l less h
    element_ok here before e kids (Characters b) l less h = listed_ok here before e kids (Characters b) l less h
    element_ok here before e kids Parts l less h = listed_ok here before e kids Parts l less h
    element_ok here before e kids Nothing l less h = listed_ok here before e kids Nothing l less h

    when_known_ok : (here : Context) (before : List Item) (stage : Stage) (e : Element) (kids : Forest) (l : Loading) → size kids + coming l < w → ((r : Listed) → coming r.loading ≤ coming l → P r) → Ok w P (when_known reads files here before stage e kids l)
    when_known_ok here before Waiting e (Cut why) l less h = cut_ok w P here why
    when_known_ok here before Waiting e (End mark offset) l less h = element_ok here before e (End mark offset) here.inside l less h
    when_known_ok here before Waiting e (Single mark leaf next) l less h = element_ok here before e (Single mark leaf next) here.inside l less h
    when_known_ok here before Waiting e (Nested stage x inner next) l less h = element_ok here before e (Nested stage x inner next) here.inside l less h
    when_known_ok here before (Ready first) e kids l less h = element_ok here before e kids here.inside l less h
    when_known_ok here before (Entered first) e kids l less h = element_ok here before e kids here.inside l less h

  -- what stands behind a node
  abbrev behind_node : Context → (before : List Item) → (next : Forest) → Listed → Does Listed
  behind_node here before next r = Ask (Nodes here (before ++ r.items) next r.loading) Ret

  next_ok : (w : ℕ) (here : Context) (before : List Item) (next : Forest) (l : Loading) (r : Listed) → size next + coming l < w → coming r.loading ≤ coming l → Ok w (λ s. coming s.loading ≤ coming l) (behind_node here before next r)
  next_ok w here before next l r less p = (tt, omega (arith, p), λ s q. omega (arith, p, q))

  nodes_ok : (here : Context) (before : List Item) (list : Forest) (l : Loading) → Ok (size list + coming l) (λ r. coming r.loading ≤ coming l) (nodes reads files here before list l)
  nodes_ok here before (End mark offset) l = omega arith
  nodes_ok here before (Cut why) l = cut_ok (1 + coming l) (λ r. coming r.loading ≤ coming l) here why
  nodes_ok here before (Single mark (Chars offset text) next) l =
      let w = 1 + size next + coming l in
      safe_then weight Pre Post w (λ r. coming r.loading ≤ coming l) (text_of reads files here offset text l) (behind_node here before next)
      (text_ok w (λ r. Ok w (λ s. coming s.loading ≤ coming l) (behind_node here before next r)) here offset text l (λ items. next_ok w here before next l (listed items l) (omega arith) (omega arith)))
  nodes_ok here before (Single mark (CData offset text) next) l =
      let w = 1 + size next + coming l in
      safe_then weight Pre Post w (λ r. coming r.loading ≤ coming l) (text_of reads files here offset text l) (behind_node here before next)
      (text_ok w (λ r. Ok w (λ s. coming s.loading ≤ coming l) (behind_node here before next r)) here offset text l (λ items. next_ok w here before next l (listed items l) (omega arith) (omega arith)))
  nodes_ok here before (Single mark (Comment offset text) next) l = (tt, omega arith, λ r p. p)
  nodes_ok here before (Single mark (Pi offset target text) next) l = (tt, omega arith, λ r p. p)
  nodes_ok here before (Nested stage e kids next) l =
      let w = 1 + size kids + size next + coming l in
      safe_then weight Pre Post w (λ r. coming r.loading ≤ coming l) (when_known reads files here before stage e kids l) (behind_node here before next)
      (when_known_ok w (λ r. Ok w (λ s. coming s.loading ≤ coming l) (behind_node here before next r)) here before stage e kids l (omega arith) (λ r p. next_ok w here before next l r (omega arith) p))

  code_ok : (q : Job) → Pre q → Ok (weight q) (Post q) (code_of_job reads files q)
  code_ok (Nodes here before list l) u = nodes_ok here before list l

  whole_ok : (w : ℕ) (r : Listed) (o : Option Reference) → Ok w (λ s. Unit {0}) (whole r o)
  whole_ok w r None = tt
  whole_ok w r (Some lost) = tt

sheet_ok : (reads : Reads) (name : List ℕ) (files : List (Option File)) → Ok reads files (sizes files + 1) (λ r. Unit {0}) (sheet_of reads name files)
sheet_ok reads name [] = tt
sheet_ok reads name (None ∷ files) = tt
sheet_ok reads name (Some file ∷ files) =
    (tt, omega (arith, sizes_at_start files), λ r p. whole_ok reads (Some file ∷ files) (sizes (Some file ∷ files) + 1) r (first_lost r.loading.sheet r.loading.references))

module _ (reads : Reads) (name : List ℕ) (files : List (Option File)) where
  -- an answer of the run at some depth is one that it comes to
  at_depth : (a : Answer Listed (List ℕ) Ending) → outcome reads name files ≡ a → Known (weight reads files) (Pre reads files) (Post reads files) (λ r. Unit {0}) a → Comes reads name files a
  at_depth (Given names r) e k = record { depth = sizes files + 1; comes = e }
  at_depth (Over names end) e k = record { depth = sizes files + 1; comes = e }
  at_depth (Unknown names) e k = k

  outcome_comes : Comes reads name files (outcome reads name files)
  outcome_comes =
      at_depth (outcome reads name files) refl
      (comes_to (weight reads files) (Pre reads files) (Post reads files) (code_of_job reads files) (code_ok reads files) (sizes files + 1) (λ r. Unit {0}) (sheet_of reads name files) (sheet_ok reads name files))

  one : (a b : Answer Listed (List ℕ) Ending) → Comes reads name files a → Comes reads name files b → a ≡ b
  one (Given os r) (Given ps s) h k = let u = one_result h k in ap (λ l. Given l r) u.0 ∙ ap (Given ps) u.1
  one (Given os r) (Over ps e) h k = absurd (result_or_end h k)
  one (Over os e) (Given ps r) h k = absurd (result_or_end k h)
  one (Over os e) (Over ps f) h k = let u = one_end h k in ap (λ l. Over l e) u.0 ∙ ap (Over ps) u.1
  one (Given os r) (Unknown ps) h k = absurd k
  one (Over os e) (Unknown ps) h k = absurd k
  one (Unknown os) b h k = absurd h

pub comes_to_one : ComesToOne
comes_to_one reads name files = (outcome_comes reads name files, λ a h. one reads name files a (outcome reads name files) h (outcome_comes reads name files))
