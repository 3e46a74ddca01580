-- Laws of nodes that wait for their siblings, of heads, and of levels.
use Rattle.std.specs.Prelude.{◌≡◌, ℕ, ◌||◌, not, true, false, List, [], ◌∷◌, ◌++◌, Some, None, unwrap_or}
use Rattle.stx_base.specs.Course.{Ret, Same}
use Rattle.frame_stack.specs.Frame.{opens_list}
use Rattle.frame_stack.specs.declared.frame.Frame.{Frame}
use Rattle.frame_stack.specs.declared.frame.Frame.TheVariants.{Region, Skip}
use Rattle.node_stack.specs.Path.{PathNode, can_end, is_attribute}
use Rattle.xml_events.specs.Tree.{Future}
use Rattle.template_machine.specs.Acting.{asked_beside, siblings_of}
use Rattle.template_machine.specs.Bodies.{level_in, spent_in}
use Rattle.template_machine.specs.Job.{Condition, Given, Source, State}
use Rattle.template_machine.specs.Meaning.{ends_some}
use Rattle.template_machine.specs.Programs.{instr_at}
use Rattle.template_machine.specs.Still as still
use Rattle.template_machine.specs.Still.{counts_of, has_kids, trail_of}
use Rattle.template_machine.specs.Stepwise.{flat_code}
use Rattle.template_machine.specs.Trail.{stands}
use Rattle.template_machine.specs.declared.program.Program.{Program}
use Rattle.template_machine.specs.declared.run.Doing.TheVariants as doing
use Rattle.run_future.specs.Remaining.{Ground, asked_at, asked_in, asks, goes_on, level_at, waiter, waits_for, with_nodes}

module _ (given : Given) (p : Program) where
  -- the innermost body asks for the siblings of its node, with this condition
  abbrev pub AsksForSiblings : List Frame → Ground → (level : ℕ) → Condition → Type 0
  AsksForSiblings fs g level c =
      (level_in fs ≡ Some level) × (still.condition_of given p (waiter given p fs g).group (instr_at p.code (asked_in given p fs)) ≡ c ∷ [])

  -- for its node the children are gone, or it has none
  abbrev pub AreGone : List Frame → PathNode → Type 0
  AreGone fs x = (is_attribute (Some x.node) ≡ false) × ((unwrap_or (spent_in fs) true || not (has_kids x.node)) ≡ true)

-- What a process-siblings instruction does, and then all that waits, is what goes on once its node waits beside the path.
abbrev pub RegionsBegin : Type 0
RegionsBegin =
    (given : Given) (p : Program) (fs : List Frame) (x : PathNode) (xs : List PathNode) (g : Ground) (st : State) (level : ℕ) (c : Condition)
    → AsksForSiblings given p fs (with_nodes (x ∷ xs) g) level c → AreGone given p fs x
    → waits_for given p (λ self. siblings_of given (asked_beside given (asked_at given p fs) (asks given p fs self).base (asks given p fs self).params c self)) fs (with_nodes (x ∷ xs) g) st
    ≡ goes_on given p doing.List (Region (asked_in given p fs) level ∷ fs) (record (with_nodes xs g) { aside = Some x ∷ g.aside }) st

-- Where its children aren't gone they are skipped before, while a place is kept for it.
abbrev pub RegionsSkip : Type 0
RegionsSkip =
    (given : Given) (p : Program) (fs : List Frame) (x : PathNode) (xs : List PathNode) (g : Ground) (st : State) (level : ℕ) (c : Condition)
    → AsksForSiblings given p fs (with_nodes (x ∷ xs) g) level c → spent_in fs ≡ Some false → has_kids x.node ≡ true
    → waits_for given p (λ self. siblings_of given (asked_beside given (asked_at given p fs) (asks given p fs self).base (asks given p fs self).params c self)) fs (with_nodes (x ∷ xs) g) st
    ≡ goes_on given p doing.List (Skip 0 ∷ Region (asked_in given p fs) level ∷ fs) (record (with_nodes (x ∷ xs) g) { aside = None ∷ g.aside }) st

-- A region that a head ends is over: the node that waited is the current one again, and the head stands before what is still to come, of which
-- positions count the nodes before it.
abbrev pub HeadsAreHeld : Type 0
HeadsAreHeld =
    (given : Given) (p : Program) (asked level : ℕ) (fs : List Frame) (head x : PathNode) (xs : List PathNode) (g : Ground) (f : Future) (st : State)
    → can_end (Some head.node) ≡ true → AreGone given p fs x
    → ends_some given (level_at given p level g.here.source (Region asked level ∷ fs)).conditions (stands head.node (still.before_head given p head (counts_of xs)) (trail_of xs)) st ≡ true
    → Same (flat_code given)
    (goes_on given p doing.List (Region asked level ∷ fs) (record g { here = record g.here { nodes = xs; head = Some head; lists = still.in_front given p head.node f }; aside = Some x ∷ g.aside }) st)
    (waits_for given p (λ self a. Ret a) fs (record g { here = record g.here { nodes = x ∷ xs; head = Some head; lists = still.in_front given p head.node f } }) st)

-- What stands below a list that is open by itself, of attributes or of a source, makes no difference to the levels above it.
abbrev pub ListsHide : Type 0
ListsHide =
    (given : Given) (p : Program) (level : ℕ) (source : Source) (fs : List Frame) (f : Frame) (below : List Frame) → opens_list f ≡ true
    → level_at given p level source (fs ++ f ∷ below) ≡ level_at given p level source fs
