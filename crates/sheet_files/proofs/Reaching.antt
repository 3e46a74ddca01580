-- A file that is wanted is included by files that are being read: by those that were, and by those that are opened.
use Rattle.std.proofs.Common.{◌≡◌, ℕ, ◌-◌, ◌≤◌, Bool, true, false, not, ◌&&◌, ◌==◌, List, [], ◌∷◌, ◌++◌, length, map, slice_get, Option, Some, None, refl, sym, subst, arith, if◌then◌else◌, codes, length-append}
use Rattle.std.specs.List.{list_all}
use Rattle.std.specs.Option.{option_map_or}
use Rattle.stx_base.specs.Character.{is_space}
use Rattle.stx_base.specs.Course.{Ret, Ask, Ends}
use Rattle.stx_base.specs.declared.fault.SheetCode.{SheetCode}
use Rattle.stx_base.specs.declared.fault.SheetCode.TheVariants as code
use Rattle.stx_base.specs.declared.name.Binding.{Binding}
use Rattle.xml_events.specs.Document.{inner, outer}
use Rattle.xml_events.specs.Tree.{Forest, Future, Chars, CData, Comment, Pi, Element, End, Cut, Single, Nested, Why, Need, Bad, Stage, Waiting, Ready, Entered}
use Rattle.sheet_loader.specs.Elements.{Kind, Inside, Document, Declarations, Start_of_body, Body, Branches, With_params, Characters, Parts, Nothing, is_include, is_own, kind_named, makes_group, allows_literals, allows_text, keeps_space}
use Rattle.sheet_loader.specs.Judging.{fault_of, is_declared_here, is_stx, is_transform_named, scope_at, values}
use Rattle.sheet_loader.specs.Levels.{Level, Place_in, What, The_sheet, A_file, An_element, A_literal, A_part, as_file, entered, place_in, version_around}
use Rattle.sheet_loader.specs.Lists.{lists_in, of_what}
use Rattle.sheet_loader.specs.Load.{whole}
use Rattle.sheet_loader.specs.Making.{Values, as_word, branches, value_at}
use Rattle.sheet_loader.specs.Read.{begun, closed, code_of_job, element_of, file_given, file_of, good, included, is_choose, judged, known, listed, literal, literal_judged, made, nodes, templates, text_item, text_of, when_known, with_group, with_root, within}
use Rattle.sheet_loader.specs.Reading.{File, Ending, Wants, Loading, Context, Item, Listed, Job, Nodes, Does, cut, ends_at, place, refused}
use Rattle.sheet_loader.specs.References.{Reference, first_lost}
use Rattle.sheet_loader.specs.Referring.{references}
use Rattle.sheet_loader.specs.Remaining.{Stage as Standing_stage, Wants_file, file_then, remaining, version_by}
use Rattle.sheet_loader.specs.Resuming.{Open, Of_element, Of_file, Of_literal, Of_part, closes, continue}
use Rattle.sheet_loader.specs.Tags.{path_fault}
use Rattle.sheet_loader.specs.Values.{Reads}
use Rattle.sheet_loader.specs.Versions.{Version}
use Rattle.sheet_files.proofs.Calls.{Fits, ends_fine, fits_then}
use Rattle.sheet_files.proofs.Places.{numbered, numbers_are, numbers_in}

-- all of them have it
abbrev pub Each : (ℕ → Type 0) → List ℕ → Type 0
Each A [] = Unit {0}
Each A (n ∷ ns) = A n × Each A ns

-- All files that are being read have A, and so do those that are opened.
module _ (reads : Reads) (files : List (Option File)) (A : ℕ → Type 0) (base : ℕ) (later : (n : ℕ) → base ≤ n → A n) where
  -- wanted files are those of them
  abbrev pub Fine : Ending → Type 0
  Fine (Wants numbers name) = Each A numbers
  Fine other = Unit {0}

  abbrev AreRead : Context → Type 0
  AreRead here = Each A (map (λ f. f.0) here.reading)

  abbrev pub Pre : Job → Type 0
  Pre (Nodes here before list l) = AreRead here × (base ≤ length l.sheet.files)

  abbrev pub Post : Listed → Type 0
  Post r = base ≤ length r.loading.sheet.files

  abbrev Ok : (Listed → Type 0) → Does Listed → Type 0
  Ok P x = Fits Fine Pre Post P x

  -- as many files at least were opened, the file of the include with them
  one_more : (l : Loading) (href : List ℕ) → base ≤ length l.sheet.files → base ≤ length (l.sheet.files ++ href ∷ [])
  one_more l href h = let n = length-append l.sheet.files (href ∷ []) in omega (arith, h, n)

  begun_files : (here : Context) (at : ℕ) (kind : Kind) (v : Values) (l : Loading) → base ≤ length l.sheet.files → base ≤ length (begun here at kind v l).sheet.files
  begun_files here at kind v l h = by (is_own here.inside) (makes_group kind) where
    by : (a b : Bool) → base ≤ length (if a then with_root here at v l else if b then with_group here at v l else l).sheet.files
    by true b = h
    by false true = h
    by false false = h

  module _ (P : Listed → Type 0) where
    -- what may come behind a node
    abbrev On : Type 0
    On = (m : Listed) → base ≤ length m.loading.sheet.files → P m

    cut_ok : (here : Context) (why : Why) → Ok P (cut here why)
    cut_ok here (Bad fault) = tt
    cut_ok here Need = limit_ok here.limit where
      limit_ok : (o : Option ℕ) → Ok P (ends_at here o)
      limit_ok None = tt
      limit_ok (Some most) = tt

    text_ok : (here : Context) (offset : ℕ) (said : List ℕ) (l : Loading) → base ≤ length l.sheet.files → On → Ok P (text_of reads files here offset said l)
    text_ok here offset said l b on = by (list_all is_space said && not (keeps_space here.inside)) (allows_text here.inside) where
      by : (s t : Bool) → Ok P (if s then Ret (listed [] l) else if t then Ret (listed (text_item reads files here offset said here.inside) l) else refused here here.at code.Misplaced)
      by true t = on (listed [] l) b
      by false true = on (listed (text_item reads files here offset said here.inside) l) b
      by false false = tt

    made_files : (here : Context) (at : ℕ) (kind : Kind) (scope : List Binding) (v : Values) (m : Listed) → base ≤ length m.loading.sheet.files → On → P (made here at kind scope v m)
    made_files here at kind scope v m b on = on (made here at kind scope v m) (by (is_declared_here here.inside) refl) where
      by : (d : Bool) → is_declared_here here.inside ≡ d → base ≤ length (made here at kind scope v m).loading.sheet.files
      by true e = rw e b
      by false e = rw e b

    closed_ok : (here : Context) (at : ℕ) (kind : Kind) (scope : List Binding) (v : Values) (m : Listed) → base ≤ length m.loading.sheet.files → On → Ok P (closed reads files here at kind scope v m)
    closed_ok here at kind scope v m b on = by (is_choose kind && length (branches m.items) == 0) where
      by : (c : Bool) → Ok P (if c then refused here at code.Misplaced else Ret (made here at kind scope v m))
      by true = tt
      by false = made_files here at kind scope v m b on

    given_ok : (here : Context) (at : ℕ) (o : Option (Option File)) (href : List ℕ) (l : Loading) → AreRead here → base ≤ length l.sheet.files → On → Ok P (file_given reads files here at (length l.sheet.files) o href l)
    given_ok here at None href l are b on = are
    given_ok here at (Some None) href l are b on = tt
    given_ok here at (Some (Some file)) href l are b on = (((later (length l.sheet.files) b, are), one_more l href b), on)

    included_ok : (here : Context) (at : ℕ) (kind : Kind) (v : Values) (l : Loading) → AreRead here → base ≤ length l.sheet.files → On → Ok P (included reads files here at kind v l)
    included_ok here at kind v l are b on = by (is_include kind) where
      by : (i : Bool) → Ok P (if i then file_of reads files here at (as_word (value_at (codes "href") v)) l else Ret (listed [] l))
      by true = given_ok here at (slice_get files (length l.sheet.files)) (as_word (value_at (codes "href") v)) l are b on
      by false = on (listed [] l) b

  module _ (P : Listed → Type 0) where
    good_ok : (here : Context) (before : List Item) (e : Element) (kids : Forest) (kind : Kind) (v : Values) (l : Loading) → AreRead here → base ≤ length l.sheet.files → On P → Ok P (good reads files here before e kids kind v l)
    good_ok here before e kids kind v l are b on =
        let referring = record l { references = l.references ++ references (place here e.offset) here before l.sheet kind v } in
        let start = begun here e.offset kind v referring in
        let then_on : Listed → Does Listed = λ r. Ask (Nodes (within here before kind e v (length r.loading.sheet.groups - 1)) [] kids r.loading) (λ inner. closed reads files here e.offset kind (scope_at here e) v inner) in
        fits_then Fine Pre Post P (included reads files here e.offset kind v start) then_on
        (included_ok (λ r. Ok P (then_on r)) here e.offset kind v start are (begun_files here e.offset kind v referring b) (λ m more. ((are, more), λ r c. closed_ok P here e.offset kind (scope_at here e) v r c on)))

    judged_ok : (here : Context) (before : List Item) (e : Element) (kids : Forest) (kind : Kind) (o : Option SheetCode) (l : Loading) → AreRead here → base ≤ length l.sheet.files → On P → Ok P (judged reads files here before e kids kind o l)
    judged_ok here before e kids kind (Some why) l are b on = tt
    judged_ok here before e kids kind None l are b on = good_ok here before e kids kind (values reads here kind e) l are b on

    known_ok : (here : Context) (before : List Item) (e : Element) (kids : Forest) (o : Option Kind) (l : Loading) → AreRead here → base ≤ length l.sheet.files → On P → Ok P (known reads files here before e kids o l)
    known_ok here before e kids None l are b on = tt
    known_ok here before e kids (Some kind) l are b on = judged_ok here before e kids kind (fault_of reads here before l.sheet e kind) l are b on

    in_body_ok : (here : Context) (before : List Item) (e : Element) (kids : Forest) (l : Loading) (list : Inside) → AreRead here → base ≤ length l.sheet.files → On P
        → Ok P (if not (allows_literals list) then refused here e.offset code.Misplaced else option_map_or (λ why. refused here e.offset why) (path_fault (templates reads files here e)) (literal reads files here before e kids l))
    in_body_ok here before e kids l list are b on = by (allows_literals list) (path_fault (templates reads files here e)) where
      by : (a : Bool) (o : Option SheetCode) → Ok P (if not a then refused here e.offset code.Misplaced else option_map_or (λ why. refused here e.offset why) o (literal reads files here before e kids l))
      by false o = tt
      by true None = ((are, b), λ r c. on _ c)
      by true (Some why) = tt

    literal_judged_ok : (here : Context) (before : List Item) (e : Element) (kids : Forest) (list : Inside) (l : Loading) → AreRead here → base ≤ length l.sheet.files → On P → Ok P (literal_judged reads files here before e kids list l)
    literal_judged_ok here before e kids Parts l are b on = ((are, b), λ r c. on _ c)
    literal_judged_ok here before e kids (Document d) l are b on = in_body_ok here before e kids l (Document d) are b on
    literal_judged_ok here before e kids (Declarations d) l are b on = in_body_ok here before e kids l (Declarations d) are b on
    literal_judged_ok here before e kids Start_of_body l are b on = in_body_ok here before e kids l Start_of_body are b on
    literal_judged_ok here before e kids Body l are b on = in_body_ok here before e kids l Body are b on
    literal_judged_ok here before e kids Branches l are b on = in_body_ok here before e kids l Branches are b on
    literal_judged_ok here before e kids With_params l are b on = in_body_ok here before e kids l With_params are b on
    literal_judged_ok here before e kids (Characters d) l are b on = in_body_ok here before e kids l (Characters d) are b on
    literal_judged_ok here before e kids Nothing l are b on = in_body_ok here before e kids l Nothing are b on

    listed_ok : (here : Context) (before : List Item) (e : Element) (kids : Forest) (list : Inside) (l : Loading) → AreRead here → base ≤ length l.sheet.files → On P
        → Ok P (if is_stx e.name then known reads files here before e kids (kind_named e.name.local) l else literal_judged reads files here before e kids list l)
    listed_ok here before e kids list l are b on = by (is_stx e.name) where
      by : (s : Bool) → Ok P (if s then known reads files here before e kids (kind_named e.name.local) l else literal_judged reads files here before e kids list l)
      by true = known_ok here before e kids (kind_named e.name.local) l are b on
      by false = literal_judged_ok here before e kids list l are b on

    root_ok : (here : Context) (before : List Item) (e : Element) (kids : Forest) (l : Loading) → AreRead here → base ≤ length l.sheet.files → On P
        → Ok P (if is_transform_named e.name then known reads files here before e kids (kind_named e.name.local) l else refused here e.offset code.NotStx)
    root_ok here before e kids l are b on = by (is_transform_named e.name) where
      by : (s : Bool) → Ok P (if s then known reads files here before e kids (kind_named e.name.local) l else refused here e.offset code.NotStx)
      by true = known_ok here before e kids (kind_named e.name.local) l are b on
      by false = tt

    element_ok : (here : Context) (before : List Item) (e : Element) (kids : Forest) (list : Inside) (l : Loading) → AreRead here → base ≤ length l.sheet.files → On P → Ok P (element_of reads files here before e kids list l)
    element_ok here before e kids (Document d) l are b on = root_ok here before e kids l are b on
    element_ok here before e kids (Declarations d) l are b on = listed_ok here before e kids (Declarations d) l are b on
    element_ok here before e kids Start_of_body l are b on = listed_ok here before e kids Start_of_body l are b on
    element_ok here before e kids Body l are b on = listed_ok here before e kids Body l are b on
    element_ok here before e kids Branches l are b on = listed_ok here before e kids Branches l are b on
    element_ok here before e kids With_params l are b on = listed_ok here before e kids With_params l are b on
    element_ok here before e kids (Characters d) l are b on = listed_ok here before e kids (Characters d) l are b on
    element_ok here before e kids Parts l are b on = listed_ok here before e kids Parts l are b on
    element_ok here before e kids Nothing l are b on = listed_ok here before e kids Nothing l are b on

    when_known_ok : (here : Context) (before : List Item) (stage : Stage) (e : Element) (kids : Forest) (l : Loading) → AreRead here → base ≤ length l.sheet.files → On P → Ok P (when_known reads files here before stage e kids l)
    when_known_ok here before Waiting e (Cut why) l are b on = cut_ok P here why
    when_known_ok here before Waiting e (End mark offset) l are b on = element_ok here before e (End mark offset) here.inside l are b on
    when_known_ok here before Waiting e (Single mark leaf next) l are b on = element_ok here before e (Single mark leaf next) here.inside l are b on
    when_known_ok here before Waiting e (Nested stage x kids next) l are b on = element_ok here before e (Nested stage x kids next) here.inside l are b on
    when_known_ok here before (Ready told) e kids l are b on = element_ok here before e kids here.inside l are b on
    when_known_ok here before (Entered told) e kids l are b on = element_ok here before e kids here.inside l are b on

  -- each list is read so
  behind_node : Context → (before : List Item) → (next : Forest) → Listed → Does Listed
  behind_node here before next r = Ask (Nodes here (before ++ r.items) next r.loading) Ret

  nodes_ok : (here : Context) (before : List Item) (list : Forest) (l : Loading) → AreRead here → base ≤ length l.sheet.files → Ok Post (nodes reads files here before list l)
  nodes_ok here before (End mark offset) l are b = b
  nodes_ok here before (Cut why) l are b = cut_ok Post here why
  nodes_ok here before (Single mark (Chars offset said) next) l are b =
      fits_then Fine Pre Post Post (text_of reads files here offset said l) (λ r. Ask (Nodes here (before ++ r.items) next r.loading) Ret)
      (text_ok (λ r. Ok Post (Ask (Nodes here (before ++ r.items) next r.loading) Ret)) here offset said l b (λ m c. ((are, c), λ r d. d)))
  nodes_ok here before (Single mark (CData offset said) next) l are b =
      fits_then Fine Pre Post Post (text_of reads files here offset said l) (λ r. Ask (Nodes here (before ++ r.items) next r.loading) Ret)
      (text_ok (λ r. Ok Post (Ask (Nodes here (before ++ r.items) next r.loading) Ret)) here offset said l b (λ m c. ((are, c), λ r d. d)))
  nodes_ok here before (Single mark (Comment offset said) next) l are b = ((are, b), λ r d. d)
  nodes_ok here before (Single mark (Pi offset target said) next) l are b = ((are, b), λ r d. d)
  nodes_ok here before (Nested stage e kids next) l are b =
      fits_then Fine Pre Post Post (when_known reads files here before stage e kids l) (λ r. Ask (Nodes here (before ++ r.items) next r.loading) Ret)
      (when_known_ok (λ r. Ok Post (Ask (Nodes here (before ++ r.items) next r.loading) Ret)) here before stage e kids l are b (λ m c. ((are, c), λ r d. d)))

  pub code_ok : (q : Job) → Pre q → Ok Post (code_of_job reads files q)
  code_ok (Nodes here before list l) p = nodes_ok here before list l p.0 p.1

  -- so is what is done when open lists go on

  abbrev Any : Listed → Type 0
  Any r = Unit {0}

  abbrev OpenIn : Open → Type 0
  OpenIn (Of_element here before e kind v) = AreRead here
  OpenIn (Of_file here before e kind v) = AreRead here
  OpenIn (Of_literal here before e attrs) = AreRead here
  OpenIn (Of_part here before e) = AreRead here

  abbrev AllIn : List Open → Type 0
  AllIn [] = Unit {0}
  AllIn (o ∷ opens) = OpenIn o × AllIn opens

  whole_ok : (r : Listed) (o : Option Reference) → Ok Any (whole r o)
  whole_ok r None = tt
  whole_ok r (Some lost) = tt

  closes_ok : (here : Context) (before : List Item) (e : Element) (kind : Kind) (v : Values) (go : Listed → Future → Does Listed) (r : Listed) (f : Future) → AreRead here → Post r
      → ((s : Listed) (g : Future) → Post s → Ok Any (go s g)) → Ok Any (closes reads files here before e kind v go r f)
  closes_ok here before e kind v go r f are p next =
      fits_then Fine Pre Post Any (closed reads files here e.offset kind (scope_at here e) v r) (λ s. Ask (Nodes here (before ++ s.items) (inner f) s.loading) (λ t. go t (outer f)))
      (closed_ok (λ s. Ok Any (Ask (Nodes here (before ++ s.items) (inner f) s.loading) (λ t. go t (outer f)))) here e.offset kind (scope_at here e) v r p (λ m c. ((are, c), λ t d. next t (outer f) d)))

  continue_ok : (opens : List Open) → AllIn opens → (r : Listed) (f : Future) → Post r → Ok Any (continue reads files opens r f)
  continue_ok [] all r f p = whole_ok r (first_lost r.loading.sheet r.loading.references)
  continue_ok (Of_element here before e kind v ∷ opens) all r f p =
      closes_ok here before e kind v (continue reads files opens) r f all.0 p (λ s g q. continue_ok opens all.1 s g q)
  continue_ok (Of_file here before e kind v ∷ opens) all r f p =
      ((all.0, p), λ s q. closes_ok here before e kind v (continue reads files opens) s (outer f) all.0 q (λ t g d. continue_ok opens all.1 t g d))
  continue_ok (Of_literal here before e attrs ∷ opens) all r f p = ((all.0, p), λ s q. continue_ok opens all.1 s (outer f) q)
  continue_ok (Of_part here before e ∷ opens) all r f p = ((all.0, p), λ s q. continue_ok opens all.1 s (outer f) q)

  -- by the lists that are open

  file_in : (opens : List Open) → AllIn opens → AllIn (as_file opens)
  file_in [] all = all
  file_in (Of_element here before e kind v ∷ opens) all = all
  file_in (Of_file here before e kind v ∷ opens) all = all
  file_in (Of_literal here before e attrs ∷ opens) all = all
  file_in (Of_part here before e ∷ opens) all = all

  entered_in : (names : List (List ℕ)) (v : Version) (w : What) (x : Level) (around : Place_in) (ns : List ℕ) → Each A (numbered (of_what w) ns) → (Each A ns → AreRead around.here × AllIn around.opens)
      → AllIn (entered names files v w x around).opens
  entered_in names v The_sheet x around ns each all = tt
  entered_in names v (A_file number o) x around ns each all = file_in around.opens (all each.1).1
  entered_in names v (An_element kind w) x around ns each all = all each
  entered_in names v (A_literal name attrs) x around ns each all = all each
  entered_in names v (A_part name attrs) x around ns each all = all each

  place_read : (names : List (List ℕ)) (v : Version) (levels : List Level) → Each A (numbers_in (lists_in levels)) → AreRead (place_in names files v levels).here
  place_read names v levels each = subst (Each A) (sym (numbers_are names files v levels)) each

  place_opens : (names : List (List ℕ)) (v : Version) (levels : List Level) → Each A (numbers_in (lists_in levels)) → AllIn (place_in names files v levels).opens
  place_opens names v [] each = tt
  place_opens names v (x ∷ levels) each =
      entered_in names v x.what x (place_in names files (version_around v x.what) levels) (numbers_in (lists_in levels)) each
      (λ k. (place_read names (version_around v x.what) levels k, place_opens names (version_around v x.what) levels k))

  wanted_ok : (opens : List Open) (href : List ℕ) (l : Loading) (f : Future) → AllIn opens → base ≤ length l.sheet.files → Ok Any (file_then reads files opens href l f)
  wanted_ok [] href l f all b = tt
  wanted_ok (Of_element here before e kind v ∷ opens) href l f all b =
      fits_then Fine Pre Post Any (file_given reads files here e.offset (length l.sheet.files) (slice_get files (length l.sheet.files)) href l) (λ r. continue reads files (Of_file here before e kind v ∷ opens) r f)
      (given_ok (λ r. Ok Any (continue reads files (Of_file here before e kind v ∷ opens) r f)) here e.offset (slice_get files (length l.sheet.files)) href l all.0 b
      (λ m c. continue_ok (Of_file here before e kind v ∷ opens) all m f c))
  wanted_ok (Of_file here before e kind v ∷ opens) href l f all b = tt
  wanted_ok (Of_literal here before e attrs ∷ opens) href l f all b = tt
  wanted_ok (Of_part here before e ∷ opens) href l f all b = tt

  -- where an include wants a file
  pub wanted_fine : (href : List ℕ) (s : Standing_stage) (f : Future) → Each A (numbers_in (lists_in s.levels)) → base ≤ length s.loading.sheet.files
      → (ps : List (List ℕ)) (e : Ending) → Ends (code_of_job reads files) (remaining reads files (Wants_file href s) f) ps e → Fine e
  wanted_fine href s f each b ps e ends =
      let opens = (place_in s.loading.sheet.files files (version_by s.version f) s.levels).opens in
      ends_fine Fine Pre Post (code_of_job reads files) code_ok Any (remaining reads files (Wants_file href s) f) ps e (wanted_ok opens href s.loading f (place_opens s.loading.sheet.files (version_by s.version f) s.levels each) b) ends
