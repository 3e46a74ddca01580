-- Nodes that wait for their siblings, heads, and levels.
use Rattle.std.proofs.Common.{◌≡◌, ◌⊎◌, inl, inr, ℕ, ◌+◌, ◌==◌, true, false, not, ◌||◌, List, [], ◌∷◌, ◌++◌, Option, Some, None, refl, ap, sym, ◌∙◌, arith}
use Rattle.std.specs.Prelude.{if◌then◌else◌, unwrap_or}
use Rattle.stx_base.specs.Course.{Ask, Halt, Ret, and_then}
use Rattle.stx_base.specs.declared.node.NodeTest.{NodeTest}
use Rattle.stx_base.proofs.Course.{funext, same_equal, same_then}
use Rattle.frame_stack.specs.Frame.{opens_list}
use Rattle.frame_stack.specs.declared.frame.Frame.{Frame}
use Rattle.frame_stack.specs.declared.frame.Frame.TheVariants.{Attributes, Body, Call, Loop, Pass, Region, Skip, Source as Source_frame}
use Rattle.instr_code.specs.Running as running
use Rattle.node_stack.specs.Path.{Attribute, CData, Chars, Comment, Document, Element, Node, PathNode, Pi, can_end, is_attribute}
use Rattle.xml_events.specs.Document.{inner, outer}
use Rattle.xml_events.specs.Tree.{Forest, Future}
use Rattle.template_machine.specs.Acting.{asked_beside, siblings_of}
use Rattle.template_machine.specs.Bodies.{level_in, spent_in}
use Rattle.template_machine.specs.Ending.{Ending}
use Rattle.template_machine.specs.Fuel.{skip}
use Rattle.template_machine.specs.Job.{Asked, Condition, Does, Given, Here, Level, Nodes, Siblings, Source, State, remains, single}
use Rattle.template_machine.specs.Laws.{SkipsSilently}
use Rattle.template_machine.specs.Meaning.{ends_some, head, nodes, siblings, taken}
use Rattle.template_machine.specs.Passing.{gone, node}
use Rattle.template_machine.specs.Programs.{instr_at}
use Rattle.template_machine.specs.Still as still
use Rattle.template_machine.specs.Still.{Lists, Returns, counts_of, has_kids, trail_of}
use Rattle.template_machine.specs.Stepwise.{Flat_does, Working, flat_code, lifted}
use Rattle.template_machine.specs.Trail.{above, stands}
use Rattle.template_machine.specs.declared.program.Program.{Program}
use Rattle.template_machine.specs.declared.run.Doing.TheVariants as doing
use Rattle.run_future.specs.Beside.{AreGone, AsksForSiblings, HeadsAreHeld, ListsHide, RegionsBegin, RegionsSkip}
use Rattle.run_future.specs.Remaining as future
use Rattle.run_future.specs.Remaining.{Ground, asked_at, asked_in, asks, level_at, list_taken, with_nodes}
use Rattle.run_future.proofs.Standing as standing
use Rattle.run_future.proofs.Standing.{left_gone, left_kids, nodes_give, spot}

same_number : (n : ℕ) → (n == n) ≡ true
same_number n = grind arith

kids_apart : (n : Node) → has_kids n ≡ true → is_attribute (Some n) ≡ false
kids_apart Document h = refl
kids_apart (Element name attrs decls first) h = refl
kids_apart (Chars text) h = refl
kids_apart (CData text) h = refl
kids_apart (Comment text) h = refl
kids_apart (Pi target text) h = refl
kids_apart (Attribute a) h = absurd (cc)

module _ (given : Given) (p : Program) where
  -- Who waits, and what it asks.

  waiter_group : (fs : List Frame) (g : Ground) → (future.waiter given p fs g).group ≡ still.group_in given p fs
  waiter_group [] g = refl
  waiter_group (Loop turn ∷ fs) g = waiter_group fs g
  waiter_group (Body template alternative pc locals own spent ∷ fs) g = refl
  waiter_group (Call procedure pc locals own ∷ fs) g = refl
  waiter_group (Region asked own ∷ fs) g = refl
  waiter_group (Attributes next asked ∷ fs) g = refl
  waiter_group (Source_frame buffer next asked ∷ fs) g = refl
  waiter_group (Skip depth ∷ fs) g = refl
  waiter_group (Pass base own spent ∷ fs) g = refl

  waiter_trail : (fs : List Frame) (g : Ground) (level : ℕ) → level_in fs ≡ Some level → (future.waiter given p fs g).trail ≡ trail_of g.here.nodes
  waiter_trail [] g level is = absurd (cc)
  waiter_trail (Loop turn ∷ fs) g level is = waiter_trail fs g level is
  waiter_trail (Body template alternative pc locals own spent ∷ fs) g level is = refl
  waiter_trail (Call procedure pc locals own ∷ fs) g level is = refl
  waiter_trail (Region asked own ∷ fs) g level is = refl
  waiter_trail (Attributes next asked ∷ fs) g level is = refl
  waiter_trail (Source_frame buffer next asked ∷ fs) g level is = refl
  waiter_trail (Skip depth ∷ fs) g level is = refl
  waiter_trail (Pass base own spent ∷ fs) g level is = refl

  waiter_level : (fs : List Frame) (g : Ground) (level : ℕ) → level_in fs ≡ Some level → (future.waiter given p fs g).level ≡ level_at given p level g.here.source fs
  waiter_level [] g level is = absurd (cc)
  waiter_level (Loop turn ∷ fs) g level is = waiter_level fs g level is
  waiter_level (Body template alternative pc locals own spent ∷ fs) g level is = ap (λ l. level_at given p (unwrap_or l 0) g.here.source (Body template alternative pc locals own spent ∷ fs)) is
  waiter_level (Call procedure pc locals own ∷ fs) g level is = ap (λ l. level_at given p (unwrap_or l 0) g.here.source (Call procedure pc locals own ∷ fs)) is
  waiter_level (Region asked own ∷ fs) g level is = absurd (cc)
  waiter_level (Attributes next asked ∷ fs) g level is = absurd (cc)
  waiter_level (Source_frame buffer next asked ∷ fs) g level is = absurd (cc)
  waiter_level (Skip depth ∷ fs) g level is = absurd (cc)
  waiter_level (Pass base own spent ∷ fs) g level is = absurd (cc)

  abbrev with_condition : Condition → Level → Level
  with_condition c l = record l { conditions = c ∷ l.conditions }

  abbrev level_with : List Condition → (level : ℕ) → Source → List Frame → Level
  level_with conditions level source fs =
      record { conditions = conditions ++ future.conditions_in given p level fs; instances = still.instances_in given p level fs; source = source }

  region_level : (fs : List Frame) (g : Ground) (level : ℕ) (c : Condition) → AsksForSiblings given p fs g level c
      → with_condition c (future.waiter given p fs g).level ≡ level_at given p level g.here.source (Region (asked_in given p fs) level ∷ fs)
  region_level fs g level c asks_so =
      let own = still.condition_of given p (still.group_in given p fs) (instr_at p.code (asked_in given p fs)) in
      let is : own ≡ c ∷ [] = ap (λ n. still.condition_of given p n (instr_at p.code (asked_in given p fs))) (sym (waiter_group fs g)) ∙ asks_so.1 in
      ap (with_condition c) (waiter_level fs g level asks_so.0)
      ∙ ap (λ l. level_with l level g.here.source fs) (sym is)
      ∙ ap (λ b. level_with (if b then own else []) level g.here.source fs) (sym (same_number level))

  -- it asks for the siblings of its node
  abbrev asks_siblings : List Frame → (level : ℕ) → List PathNode → Source → Asked
  asks_siblings fs level xs source =
      still.asked_by given p (asked_in given p fs) (still.locals_in given p fs) (level_at given p level source (Region (asked_in given p fs) level ∷ fs)) (trail_of xs)

  abbrev asks_beside : List Frame → Condition → Ground → Asked
  asks_beside fs c g =
      let self = future.waiter given p fs g in
      asked_beside given (asked_at given p fs) (asks given p fs self).base (asks given p fs self).params c self

  siblings_asked : (fs : List Frame) (x : PathNode) (xs : List PathNode) (g : Ground) (level : ℕ) (c : Condition)
      → AsksForSiblings given p fs (with_nodes (x ∷ xs) g) level c
      → asks_beside fs c (with_nodes (x ∷ xs) g) ≡ asks_siblings fs level xs g.here.source
  siblings_asked fs x xs g level c asks_so =
      let self = future.waiter given p fs (with_nodes (x ∷ xs) g) in
      ap (λ l. still.asked_by given p (asked_in given p fs) (still.locals_in given p fs) l (above self.trail)) (region_level fs (with_nodes (x ∷ xs) g) level c asks_so)
      ∙ ap (λ t. still.asked_by given p (asked_in given p fs) (still.locals_in given p fs) (level_at given p level g.here.source (Region (asked_in given p fs) level ∷ fs)) (above t))
      (waiter_trail fs (with_nodes (x ∷ xs) g) level asks_so.0)

  -- whoever waits is the same, whatever is to come
  abbrev asks_moved : List Frame → Condition → Ground → Option PathNode → Future → Asked
  asks_moved fs c g first lists = asks_beside fs c (standing.moved g first lists)

  -- Regions.

  abbrev behind : List Frame → Ground → Here → Flat_does
  behind fs g a = future.rest given p Returns [] fs g a

  abbrev does : List Frame → Condition → Ground → Here → Flat_does
  does fs c g a = lifted (siblings_of given (asks_beside fs c g) (standing.with_locals given p fs a)) (behind fs g)

  -- it goes on where its children are gone
  gone_spot : (fs : List Frame) (x : PathNode) (xs : List PathNode) (g : Ground) (k : Ground → Here → Flat_does) (st : State) → AreGone given p fs x
      → future.instr_over given p fs k (with_nodes (x ∷ xs) g) st ≡ k (list_taken (with_nodes (x ∷ xs) g)) (standing.stands None (left_gone given p (with_nodes (x ∷ xs) g)) st)
  gone_spot fs x xs g k st are_gone =
      ap (λ b. spot given p b (unwrap_or (spent_in fs) true || not (has_kids x.node)) (with_nodes (x ∷ xs) g) k st) are_gone.0
      ∙ ap (λ b. spot given p false b (with_nodes (x ∷ xs) g) k st) are_gone.1

  -- and where they aren't
  kids_spot : (fs : List Frame) (x : PathNode) (xs : List PathNode) (g : Ground) (k : Ground → Here → Flat_does) (st : State) → spent_in fs ≡ Some false → has_kids x.node ≡ true
      → future.instr_over given p fs k (with_nodes (x ∷ xs) g) st
      ≡ k (list_taken (list_taken (with_nodes (x ∷ xs) g))) (standing.stands (Some (inner g.here.lists)) (left_kids given p (with_nodes (x ∷ xs) g)) st)
  kids_spot fs x xs g k st going kids =
      ap (λ b. spot given p b (unwrap_or (spent_in fs) true || not (has_kids x.node)) (with_nodes (x ∷ xs) g) k st) (kids_apart x.node kids)
      ∙ ap (λ s. spot given p false (unwrap_or s true || not (has_kids x.node)) (with_nodes (x ∷ xs) g) k st) going
      ∙ ap (λ b. spot given p false (not b) (with_nodes (x ∷ xs) g) k st) kids

  -- the siblings that remain, and then what waits
  abbrev region_goes : List Frame → Asked → Siblings → State → Ground → Flat_does
  region_goes fs q left st g = Ask (running.Given (Nodes left q st)) (λ (w : Working). behind fs g (remains w.here.left w.here.state))

  siblings_ask : (fs : List Frame) (q : Asked) (left : Siblings) (st : State) (g : Ground)
      → lifted (siblings_of given q (standing.with_locals given p fs (standing.stands None left st))) (behind fs g) ≡ region_goes fs q left st g
  siblings_ask fs q left st g =
      ap (λ k. Ask (running.Given (Nodes left q st)) k)
      (funext (λ (w : Working). standing.locals_unseen given p Returns [] fs g (remains w.here.left w.here.state) (standing.locals_of given p fs)))

  -- what the siblings are asked for is known by the node's place
  does_siblings : (fs : List Frame) (x : PathNode) (xs : List PathNode) (g : Ground) (level : ℕ) (c : Condition) (first : Option PathNode) (lists : Future) (a : Here)
      → AsksForSiblings given p fs (with_nodes (x ∷ xs) g) level c
      → does fs c (standing.moved (with_nodes (x ∷ xs) g) first lists) a
      ≡ lifted (siblings_of given (asks_siblings fs level xs g.here.source) (standing.with_locals given p fs a)) (behind fs (standing.moved (with_nodes (x ∷ xs) g) first lists))
  does_siblings fs x xs g level c first lists a asks_so =
      ap (λ q. lifted (siblings_of given q (standing.with_locals given p fs a)) (behind fs (standing.moved (with_nodes (x ∷ xs) g) first lists)))
      (ap (λ self. asked_beside given (asked_at given p fs) (asks given p fs self).base (asks given p fs self).params c self) (standing.waiter_moved given p fs (with_nodes (x ∷ xs) g) first lists)
      ∙ siblings_asked fs x xs g level c asks_so)

  region_begins : (fs : List Frame) (x : PathNode) (xs : List PathNode) (g : Ground) (st : State) (level : ℕ) (c : Condition)
      → AsksForSiblings given p fs (with_nodes (x ∷ xs) g) level c → AreGone given p fs x
      → future.waits_for given p (λ self. siblings_of given (asked_beside given (asked_at given p fs) (asks given p fs self).base (asks given p fs self).params c self)) fs (with_nodes (x ∷ xs) g) st
      ≡ future.goes_on given p doing.List (Region (asked_in given p fs) level ∷ fs) (record (with_nodes xs g) { aside = Some x ∷ g.aside }) st
  region_begins fs x xs g st level c asks_so are_gone =
      gone_spot fs x xs g (does fs c) st are_gone
      ∙ does_siblings fs x xs g level c None (outer g.here.lists) (standing.stands None (left_gone given p (with_nodes (x ∷ xs) g)) st) asks_so
      ∙ siblings_ask fs (asks_siblings fs level xs g.here.source) (left_gone given p (with_nodes (x ∷ xs) g)) st (list_taken (with_nodes (x ∷ xs) g))

  -- What skips the children, and then the siblings, by what skipping comes to.
  abbrev then_siblings : List Frame → Asked → Here → Ground → Does → Flat_does
  then_siblings fs q a g x =
      lifted (and_then x (λ (b : Here). Ask (Nodes b.left q b.state) (λ (c : Here). Ret (record b { left = c.left; state = c.state })))) (behind fs g)

  abbrev then_region : List Frame → Asked → Siblings → Ground → Does → Flat_does
  then_region fs q left g x = lifted x (λ (b : Here). region_goes fs q left b.state g)

  skipped_alike : SkipsSilently → (fs : List Frame) (q : Asked) (source : Source) (kids : Forest) (left : Siblings) (st : State) (g : Ground) (a : Here)
      → a ≡ standing.with_locals given p fs (standing.stands (Some kids) left st)
      → then_siblings fs q a g (skip given source kids st (λ t. Ret (gone a t))) ≡ then_region fs q left g (skip given source kids st (λ t. Ret (single t)))
  skipped_alike silent fs q source kids left st g a is = by (silent given source kids st)
    where
      by : ((e : Ending) × ((go : State → Does) → skip given source kids st go ≡ Halt e)) ⊎ ((fuel : ℕ) × ((go : State → Does) → skip given source kids st go ≡ go (record st { fuel = fuel })))
          → then_siblings fs q a g (skip given source kids st (λ t. Ret (gone a t))) ≡ then_region fs q left g (skip given source kids st (λ t. Ret (single t)))
      by (inl halts) =
          ap (then_siblings fs q a g) (halts.1 (λ t. Ret (gone a t))) ∙ sym (ap (then_region fs q left g) (halts.1 (λ t. Ret (single t))))
      by (inr goes) =
          ap (then_siblings fs q a g) (goes.1 (λ t. Ret (gone a t)))
          ∙ ap (λ (b : Here). then_siblings fs q b g (Ret (gone b (record st { fuel = goes.0 })))) is
          ∙ siblings_ask fs q left (record st { fuel = goes.0 }) g
          ∙ sym (ap (then_region fs q left g) (goes.1 (λ t. Ret (single t))))

  region_skips : SkipsSilently → (fs : List Frame) (x : PathNode) (xs : List PathNode) (g : Ground) (st : State) (level : ℕ) (c : Condition)
      → AsksForSiblings given p fs (with_nodes (x ∷ xs) g) level c → spent_in fs ≡ Some false → has_kids x.node ≡ true
      → future.waits_for given p (λ self. siblings_of given (asked_beside given (asked_at given p fs) (asks given p fs self).base (asks given p fs self).params c self)) fs (with_nodes (x ∷ xs) g) st
      ≡ future.goes_on given p doing.List (Skip 0 ∷ Region (asked_in given p fs) level ∷ fs) (record (with_nodes (x ∷ xs) g) { aside = None ∷ g.aside }) st
  region_skips silent fs x xs g st level c asks_so going kids =
      let q = asks_siblings fs level xs g.here.source in
      let left = left_kids given p (with_nodes (x ∷ xs) g) in
      let behind_kids = list_taken (list_taken (with_nodes (x ∷ xs) g)) in
      kids_spot fs x xs g (does fs c) st going kids
      ∙ does_siblings fs x xs g level c None (outer (outer g.here.lists)) (standing.stands (Some (inner g.here.lists)) left st) asks_so
      ∙ skipped_alike silent fs q g.here.source (inner g.here.lists) left st behind_kids (standing.with_locals given p fs (standing.stands (Some (inner g.here.lists)) left st)) refl

  -- Heads.

  abbrev kept_from : (earlier : NodeTest → ℕ) → Forest → State → Does
  kept_from earlier list st = Ret (remains (record { earlier = earlier; coming = list }) st)

  head_ends : (n : Node) (kids : Option Forest) (list next : Forest) (earlier : NodeTest → ℕ) (q : Asked) (st : State)
      → ends_some given q.level.conditions (stands n earlier q.within) st ≡ true → head given n kids list next earlier q st ≡ kept_from earlier list st
  head_ends n kids list next earlier q st ends =
      ap (λ b. if b then kept_from earlier list st else and_then (node given q (stands n earlier q.within) (taken n kids next earlier st)) (siblings q)) ends

  front_ends : (n : Node) (f : Future) (earlier : NodeTest → ℕ) (q : Asked) (st : State) → can_end (Some n) ≡ true
      → ends_some given q.level.conditions (stands n earlier q.within) st ≡ true
      → nodes given earlier (inner (still.in_front given p n f)) q st ≡ kept_from earlier (inner (still.in_front given p n f)) st
  front_ends Document f earlier q st end ends = absurd (cc)
  front_ends (Element name attrs decls first) f earlier q st end ends =
      head_ends (Element name attrs decls first) (Some (inner f)) (inner (still.in_front given p (Element name attrs decls first) f)) (inner (outer f)) earlier q st ends
  front_ends (Chars text) f earlier q st end ends = head_ends (Chars text) None (inner (still.in_front given p (Chars text) f)) (inner f) earlier q st ends
  front_ends (CData text) f earlier q st end ends = head_ends (CData text) None (inner (still.in_front given p (CData text) f)) (inner f) earlier q st ends
  front_ends (Comment text) f earlier q st end ends = head_ends (Comment text) None (inner (still.in_front given p (Comment text) f)) (inner f) earlier q st ends
  front_ends (Pi target text) f earlier q st end ends = head_ends (Pi target text) None (inner (still.in_front given p (Pi target text) f)) (inner f) earlier q st ends
  front_ends (Attribute a) f earlier q st end ends = absurd (cc)

  -- Levels.

  group_hides : (fs : List Frame) (f : Frame) (below : List Frame) → opens_list f ≡ true → still.group_in given p (fs ++ f ∷ below) ≡ still.group_in given p fs
  group_hides [] (Attributes next asked) below opens = refl
  group_hides [] (Source_frame buffer next asked) below opens = refl
  group_hides [] f below opens = absurd (cc)
  group_hides (Loop turn ∷ fs) f below opens = group_hides fs f below opens
  group_hides (Body template alternative pc locals own spent ∷ fs) f below opens = refl
  group_hides (Call procedure pc locals own ∷ fs) f below opens = refl
  group_hides (Region asked own ∷ fs) f below opens = refl
  group_hides (Attributes next asked ∷ fs) f below opens = refl
  group_hides (Source_frame buffer next asked ∷ fs) f below opens = refl
  group_hides (Skip depth ∷ fs) f below opens = refl
  group_hides (Pass base own spent ∷ fs) f below opens = refl

  conditions_hide : (level : ℕ) (fs : List Frame) (f : Frame) (below : List Frame) → opens_list f ≡ true → future.conditions_in given p level (fs ++ f ∷ below) ≡ future.conditions_in given p level fs
  conditions_hide level [] (Attributes next asked) below opens = refl
  conditions_hide level [] (Source_frame buffer next asked) below opens = refl
  conditions_hide level [] f below opens = absurd (cc)
  conditions_hide level (Loop turn ∷ fs) f below opens = conditions_hide level fs f below opens
  conditions_hide level (Body template alternative pc locals own spent ∷ fs) f below opens = conditions_hide level fs f below opens
  conditions_hide level (Call procedure pc locals own ∷ fs) f below opens = conditions_hide level fs f below opens
  conditions_hide level (Region asked own ∷ fs) f below opens =
      ap (λ n. (if own == level then still.condition_of given p n (instr_at p.code asked) else []) ++ future.conditions_in given p level (fs ++ f ∷ below)) (group_hides fs f below opens)
      ∙ ap (λ l. (if own == level then still.condition_of given p (still.group_in given p fs) (instr_at p.code asked) else []) ++ l) (conditions_hide level fs f below opens)
  conditions_hide level (Attributes next asked ∷ fs) f below opens = refl
  conditions_hide level (Source_frame buffer next asked ∷ fs) f below opens = refl
  conditions_hide level (Skip depth ∷ fs) f below opens = conditions_hide level fs f below opens
  conditions_hide level (Pass base own spent ∷ fs) f below opens = conditions_hide level fs f below opens

  instances_hide : (level : ℕ) (fs : List Frame) (f : Frame) (below : List Frame) → opens_list f ≡ true → still.instances_in given p level (fs ++ f ∷ below) ≡ still.instances_in given p level fs
  instances_hide level [] (Attributes next asked) below opens = refl
  instances_hide level [] (Source_frame buffer next asked) below opens = refl
  instances_hide level [] f below opens = absurd (cc)
  instances_hide level (Loop turn ∷ fs) f below opens = instances_hide level fs f below opens
  instances_hide level (Body template alternative pc locals own spent ∷ fs) f below opens = ap (λ n. (if own == level then 1 else 0) + n) (instances_hide level fs f below opens)
  instances_hide level (Call procedure pc locals own ∷ fs) f below opens = ap (λ n. (if own == level then 1 else 0) + n) (instances_hide level fs f below opens)
  instances_hide level (Region asked own ∷ fs) f below opens = instances_hide level fs f below opens
  instances_hide level (Attributes next asked ∷ fs) f below opens = refl
  instances_hide level (Source_frame buffer next asked ∷ fs) f below opens = refl
  instances_hide level (Skip depth ∷ fs) f below opens = instances_hide level fs f below opens
  instances_hide level (Pass base own spent ∷ fs) f below opens = instances_hide level fs f below opens

pub regions_begin : RegionsBegin
regions_begin given p fs x xs g st level c asks_so are_gone = region_begins given p fs x xs g st level c asks_so are_gone

pub regions_skip : SkipsSilently → RegionsSkip
regions_skip silent given p fs x xs g st level c asks_so going kids = region_skips given p silent fs x xs g st level c asks_so going kids

pub heads_are_held : HeadsAreHeld
heads_are_held given p asked level fs first x xs g f st end are_gone ends =
    let lists = still.in_front given p first.node f in
    let counts = still.before_head given p first (counts_of xs) in
    let q = still.asked_by given p asked (still.locals_in given p fs) (level_at given p level g.here.source (Region asked level ∷ fs)) (trail_of xs) in
    let h = record g { here = record g.here { head = Some first; lists = lists } } in
    same_then
    (nodes_give given p (record { earlier = counts; coming = inner lists }) q st (remains (record { earlier = counts; coming = inner lists }) st)
    (λ (w : Working). behind given p fs (list_taken (with_nodes (x ∷ xs) h)) (remains w.here.left w.here.state))
    (front_ends given p first.node f counts q st end ends))
    (same_equal (flat_code given)
    (sym
    (gone_spot given p fs x xs h (λ b a. lifted (Ret (standing.with_locals given p fs a)) (behind given p fs b)) st are_gone
    ∙ standing.locals_unseen given p Returns [] fs (list_taken (with_nodes (x ∷ xs) h)) (remains (record { earlier = counts; coming = inner lists }) st) (standing.locals_of given p fs))))

pub lists_hide : ListsHide
lists_hide given p level source fs f below opens =
    ap (λ conditions. record { conditions = conditions; instances = still.instances_in given p level (fs ++ f ∷ below); source = source }) (conditions_hide given p level fs f below opens)
    ∙ ap (λ instances. record { conditions = future.conditions_in given p level fs; instances = instances; source = source }) (instances_hide given p level fs f below opens)
