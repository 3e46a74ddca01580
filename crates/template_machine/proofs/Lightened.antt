-- What waits in a run whose lists go on, are taken from, or are over.
use Rattle.std.proofs.Common.{◌≡◌, ℕ, zero, suc, ◌+◌, ◌-◌, ◌*◌, ◌<◌, ◌≤◌, ◌^◌, List, [], ◌∷◌, ◌++◌, length, reverse, Some, refl, ap, sym, subst, ◌∙◌, arith}
use Rattle.std.specs.Prelude.{Result, Ok, Err, IfOk, OnOk}
use Rattle.std.specs.List.{slice_get}
use Rattle.frame_stack.specs.Stack.{FrameStack, with_frames}
use Rattle.frame_stack.specs.declared.frame.Frame.{Frame}
use Rattle.frame_stack.specs.declared.frame.Frame.TheVariants.{Attributes, Call, Skip}
use Rattle.frame_stack.specs.declared.locals.Local.{Local}
use Rattle.instr_code.specs.declared.code.Op.TheVariants as op
use Rattle.template_machine.specs.Bodies.{skipped_in}
use Rattle.template_machine.specs.Standing.{standing_of}
use Rattle.template_machine.specs.Steps.{fuel_begun, fuel_ended, one_less}
use Rattle.template_machine.specs.Ways.{lists_on}
use Rattle.template_machine.specs.Moments.{IsAtOp, IsBuffer, SkipEnds, SkipsOn}
use Rattle.template_machine.specs.Work.{Begins, Falls, Lessens, Sheds, ahead_work, burden, frame_work, frames_work, load, means_of, outer_work, waits_work, work, AsksNone}
use Rattle.template_machine.specs.declared.program.Program.{Program}
use Rattle.template_machine.specs.declared.run.Doing.TheVariants as doing
use Rattle.template_machine.specs.declared.run.Run.{Run}
use Rattle.template_machine.specs.declared.run.Running.{Running}
use Rattle.template_machine.specs.declared.run.Step.{Step}
use Rattle.template_machine.specs.declared.run.Step.TheVariants as step
use Rattle.template_machine.specs.declared.source.Ahead.{Ahead}
use Rattle.template_machine.specs.declared.source.Ahead.TheVariants as ahead
use Rattle.template_machine.specs.declared.source.Origin.{Origin}
use Rattle.template_machine.specs.declared.source.Origin.TheVariants as origin
use Rattle.template_machine.specs.declared.source.Source as sources
use Rattle.template_machine.proofs.Falling.{begins_list, begins_within, begun_buffer, falls_behind, frame_pushed, less_lessens, top_off}
use Rattle.template_machine.proofs.Operating.{body_on_top}
use Rattle.template_machine.proofs.Tops.{skip_top}
use Rattle.template_machine.proofs.Works.{less_falls, spends_falls, waits_few}
use Rattle.template_machine.proofs.Spared.{means_stay}

-- Parts.

no_more : (m n : ℕ) → m ≡ n → m ≤ n + 0
no_more m n e = omega (arith, e)

-- by frames, what is known of the list, and the sources around
pub load_at : (r n : Run) (fs : List Frame) (a : Ahead) → reverse n.frames.frames ≡ fs → n.source.ahead ≡ a → n.outer.items ≡ r.outer.items
    → load n ≡ frames_work fs + ahead_work a + outer_work r.outer.items
load_at r n fs a frames at outer =
    ap (λ l. frames_work l + ahead_work n.source.ahead + outer_work n.outer.items) frames
    ∙ ap (λ x. frames_work fs + ahead_work x + outer_work n.outer.items) at
    ∙ ap (λ l. frames_work fs + ahead_work a + outer_work l) outer

pub load_same : (r n : Run) → reverse n.frames.frames ≡ reverse r.frames.frames → n.source.ahead ≡ r.source.ahead → n.outer.items ≡ r.outer.items → load n ≡ load r
load_same r n frames at outer = load_at r n (reverse r.frames.frames) r.source.ahead frames at outer

-- the top frame is gone
pub load_off : (r n : Run) (f : Frame) (fs : List Frame) → reverse r.frames.frames ≡ f ∷ fs → reverse n.frames.frames ≡ fs → n.source.ahead ≡ r.source.ahead
    → n.outer.items ≡ r.outer.items → load n + frame_work f ≤ load r
load_off r n f fs was frames at outer =
    by (load n) (load r) (frame_work f) (frames_work fs) (ahead_work r.source.ahead) (outer_work r.outer.items) (load_at r n fs r.source.ahead frames at outer)
    (ap (λ l. frames_work l + ahead_work r.source.ahead + outer_work r.outer.items) was)
  where
    by : (n r t g a o : ℕ) → n ≡ g + a + o → r ≡ t + g + a + o → n + t ≤ r
    by n r t g a o d e = omega (arith, d, e)

-- more is known of the list
pub load_known : (r n : Run) (a : Ahead) → reverse n.frames.frames ≡ reverse r.frames.frames → n.source.ahead ≡ a → n.outer.items ≡ r.outer.items
    → load n + ahead_work r.source.ahead ≡ load r + ahead_work a
load_known r n a frames at outer =
    by (load n) (frames_work (reverse r.frames.frames)) (ahead_work r.source.ahead) (outer_work r.outer.items) (ahead_work a)
    (load_at r n (reverse r.frames.frames) a frames at outer)
  where
    by : (n f b o a : ℕ) → n ≡ f + a + o → n + b ≡ f + b + o + a
    by n f b o a e = omega (arith, e)

-- Calls within a step.

pub begins_still : (r : Run) → Begins 2 r r
begins_still r = begins_list 0 r r refl (no_more (load r) (load r) refl)

-- a list goes on
pub goes_on_list : (r m n : Run) → n ≡ record m { doing = doing.List } → means_of m ≡ means_of r → load m ≡ load r → Begins 2 r n
goes_on_list r m n is means same =
    subst (Begins 2 r) (sym is) (begins_list 0 r (record m { doing = doing.List }) means (no_more (load m) (load r) same))

-- one over the others
pub pushed_list : (j : ℕ) (r m n : Run) (f : Frame) → m ≡ record r { frames = with_frames (r.frames.frames ++ f ∷ []) r.frames } → n ≡ record m { doing = doing.List }
    → frame_work f + 2 ≤ j → Begins j r n
pushed_list j r m n f same is few =
    let frames : FrameStack = with_frames (r.frames.frames ++ f ∷ []) r.frames in
    let t = record r { frames = frames } in
    let end = record t { doing = doing.List } in
    let more : load t ≡ frame_work f + frames_work (reverse r.frames.frames) + ahead_work r.source.ahead + outer_work r.outer.items =
    ap (λ w. w + ahead_work r.source.ahead + outer_work r.outer.items) (frame_pushed f r.frames frames refl) in
    subst (Begins j r) (sym (is ∙ ap (λ (x : Run). record x { doing = doing.List }) same))
    (begins_within (frame_work f + 2) j r end few
    (begins_list (frame_work f) r end refl (by (load t) (frame_work f) (frames_work (reverse r.frames.frames)) (ahead_work r.source.ahead) (outer_work r.outer.items) more)))
  where
    by : (n t g a o : ℕ) → n ≡ t + g + a + o → n ≤ g + a + o + t
    by n t g a o e = omega (arith, e)

pub sheds_behind : (a b : ℕ) (old mid new : Run) → means_of mid ≡ means_of old → load mid + a ≤ load old → Begins b mid new → (c : ℕ) → b + c ≤ a → Sheds c old new
sheds_behind a b old mid new means less x c few = record { means = x.means ∙ means; load = by (load old) (load mid) (burden new) less x.load }
  where
    by : (k m n : ℕ) → m + a ≤ k → n ≤ m + b → n + c ≤ k
    by k m n f g = omega (arith, f, g, few)

pub begins_shed : (a k : ℕ) (old mid new : Run) → means_of mid ≡ means_of old → load mid ≤ load old + (k + a) → Sheds a mid new → Begins k old new
begins_shed a k old mid new means more x = record { means = x.means ∙ means; load = by (load old) (load mid) (burden new) more x.load }
  where
    by : (l m n : ℕ) → m ≤ l + (k + a) → n + a ≤ m → n ≤ l + k
    by l m n f g = omega (arith, f, g)

-- what is known of a list pays for what is begun
pub begins_ok : (p : Program) (a b : ℕ) (old mid new : Run) → length p.code.ops < 2 ^ 32 → means_of mid ≡ means_of old → load mid + a ≤ load old → b < a
    → {E : Type 0} (result : Result Step E) → IfOk result AsksNone → OnOk result (Begins b mid new) → IfOk result (λ step. Falls p old step new)
begins_ok p a b old mid new small means less few (Ok step.More) asks x = falls_behind p a b old mid new small means less x few
begins_ok p a b old mid new small means less few (Ok step.Wait) asks x = means_stay old new (x.means ∙ means)
begins_ok p a b old mid new small means less few (Ok step.Want) asks x = absurd asks
begins_ok p a b old mid new small means less few (Ok step.Over) asks x = means_stay old new (x.means ∙ means)
begins_ok p a b old mid new small means less few (Err e) asks x = tt

-- what was known of the list is known no more
pub known_less : (r n : Run) (b a : Ahead) (k : ℕ) → r.source.ahead ≡ b → ahead_work a + k ≡ ahead_work b → reverse n.frames.frames ≡ reverse r.frames.frames
    → n.source.ahead ≡ a → n.outer.items ≡ r.outer.items → load n + k ≤ load r
known_less r n b a k was less frames at outer =
    by (load n) (load r) (ahead_work r.source.ahead) (ahead_work b) (ahead_work a) (load_known r n a frames at outer) (ap ahead_work was) less
  where
    by : (n r x b a : ℕ) → n + x ≡ r + a → x ≡ b → a + k ≡ b → n + k ≤ r
    by n r x b a d e f = omega (arith, d, e, f)

-- a head that was held is the current node
pub resumed_falls : (p : Program) (r n : Run) → length p.code.ops < 2 ^ 32 → means_of n ≡ means_of r → r.source.ahead ≡ ahead.Held → reverse n.frames.frames ≡ reverse r.frames.frames
    → n.source.ahead ≡ ahead.Here → n.outer.items ≡ r.outer.items → n.doing ≡ doing.List → Lessens p r n
resumed_falls p r n small means was frames at outer list =
    less_lessens p r n small means
    (by (load n) (load r) (waits_work n.doing n.source.ahead) (waits_work r.doing r.source.ahead) (known_less r n ahead.Held ahead.Here 1 was refl frames at outer)
    (ap (λ d. waits_work d n.source.ahead) list ∙ ap (λ a. waits_work doing.List a) at))
  where
    by : (n r w v : ℕ) → n + 1 ≤ r → w ≡ 0 → n + w + 1 ≤ r + v
    by n r w v e f = omega (arith, e, f)

-- Attributes.

pub attribute_less : (r n : Run) (next asked : ℕ) (fs : List Frame) → reverse r.frames.frames ≡ Attributes next asked ∷ fs
    → reverse n.frames.frames ≡ Attributes (next + 1) asked ∷ fs → n.source.ahead ≡ r.source.ahead → n.outer.items ≡ r.outer.items → next < 2 ^ 64 → load n + 8 ≤ load r
attribute_less r n next asked fs was frames at outer small =
    by (load n) (load r) (frames_work fs) (ahead_work r.source.ahead) (outer_work r.outer.items)
    (load_at r n (Attributes (next + 1) asked ∷ fs) r.source.ahead frames at outer)
    (ap (λ l. frames_work l + ahead_work r.source.ahead + outer_work r.outer.items) was)
  where
    by : (n r g a o : ℕ) → n ≡ 8 * (2 ^ 64 - (next + 1)) + g + a + o → r ≡ 8 * (2 ^ 64 - next) + g + a + o → n + 8 ≤ r
    by n r g a o d e = omega (arith, d, e, small)

pub attributes_weigh : (next : ℕ) → next < 2 ^ 64 → 0 < 8 * (2 ^ 64 - next)
attributes_weigh next small = omega (arith, small)

-- The body of a procedure is over.
pub call_works : (p : Program) (r : Run) (running : Running) (number pc : ℕ) (locals : List Local) (level : ℕ) (frames : FrameStack) → IsAtOp p r running op.Return
    → slice_get r.frames.frames running.body ≡ Some (Call number pc locals level)
    → ((top : Frame) (others : List Frame) → reverse r.frames.frames ≡ top ∷ others → reverse frames.frames ≡ others) → Lessens p r (record r { frames = frames })
call_works p r running number pc locals level frames at is off =
    let x = Call number pc locals level in
    let t = body_on_top p r running x at is in
    top_off p r frames x t.0 at.well.steady.places t.1 (ap frames_work (off x t.0 t.1)) (omega arith)

-- A source is left.

outer_more : (xs : List sources.Source) (x : sources.Source) → outer_work (xs ++ x ∷ []) ≡ outer_work xs + ahead_work x.ahead
outer_more [] x = omega arith
outer_more (y ∷ ys) x = omega (arith, outer_more ys x)

pub source_gone : (r n : Run) (f : Frame) (fs : List Frame) (x : sources.Source) (init : List sources.Source) → reverse r.frames.frames ≡ f ∷ fs → frame_work f ≡ 1
    → r.source.ahead ≡ ahead.Nothing → r.outer.items ≡ init ++ x ∷ [] → reverse n.frames.frames ≡ fs → n.source ≡ x → n.outer.items ≡ init → load n + 1 ≤ load r
source_gone r n f fs x init was one nothing items frames source outer =
    by (frames_work (reverse n.frames.frames)) (frames_work fs) (frames_work (reverse r.frames.frames)) (frame_work f) (ahead_work r.source.ahead) (outer_work r.outer.items)
    (ahead_work x.ahead) (outer_work init) (ahead_work n.source.ahead) (outer_work n.outer.items) (ap frames_work frames) (ap frames_work was) one (ap ahead_work nothing)
    (ap outer_work items ∙ outer_more init x) (ap (λ (s : sources.Source). ahead_work s.ahead) source) (ap outer_work outer)
  where
    by : (m g k t b q a o c d : ℕ) → m ≡ g → k ≡ t + g → t ≡ 1 → b ≡ 0 → q ≡ o + a → c ≡ a → d ≡ o → m + c + d + 1 ≤ k + b + q
    by m g k t b q a o c d e1 e2 e3 e4 e5 e6 e7 = omega (arith, e1, e2, e3, e4, e5, e6, e7)

-- Events of buffers.

unit_less : (fuel less : ℕ) → one_less fuel ≡ Some less → less < fuel
unit_less zero less e = absurd (cc)
unit_less (suc n) less e = let same : n ≡ less = cc in omega (arith, same)

pub ended_still : (whole fuel id : ℕ) (o : Origin) → IsBuffer id o → fuel_ended whole fuel o ≡ fuel
ended_still whole fuel id origin.Main is = absurd is
ended_still whole fuel id (origin.Buffer own at) is = refl
ended_still whole fuel id (origin.Document at) is = absurd is

-- a node begins
pub node_begun : (p : Program) (r m n : Run) (whole id : ℕ) → length p.code.ops < 2 ^ 32 → m ≡ record r { fuel = m.fuel } → fuel_begun whole r.fuel r.source.origin ≡ Some m.fuel
    → IsBuffer id r.source.origin → n.fuel ≡ m.fuel → load n ≤ load m + 2 ^ 33 → work p n < work p r
node_begun p r m n whole id small same begun buffer fuel grows =
    spends_falls p r n small
    (record {
      fuel = subst (λ k. k < r.fuel) (sym fuel) (unit_less r.fuel m.fuel (begun_buffer whole r.fuel m.fuel id r.source.origin buffer begun));
      load = by (load n) (load m) (load r) grows (ap load same);
    })
  where
    by : (n m r : ℕ) → n ≤ m + 2 ^ 33 → m ≡ r → n ≤ r + 2 ^ 68
    by n m r d e = omega (arith, d, e)

-- and is the current node
pub node_here : (m n : Run) → reverse n.frames.frames ≡ reverse m.frames.frames → n.source.ahead ≡ ahead.Here → n.outer.items ≡ m.outer.items → load n ≤ load m + 2 ^ 33
node_here m n frames at outer = by (load n) (load m) (ahead_work m.source.ahead) (load_known m n ahead.Here frames at outer)
  where
    by : (n m a : ℕ) → n + a ≡ m + 6 → n ≤ m + 2 ^ 33
    by n m a e = omega (arith, e)

skip_is : (fs : List Frame) (d : ℕ) → skipped_in fs ≡ Some d → (gs : List Frame) × (fs ≡ Skip d ∷ gs)
skip_is [] d e = absurd (cc)
skip_is (Skip k ∷ fs) d e = let same : k ≡ d = cc in (fs, ap (λ x. Skip x ∷ fs) same)
skip_is (f ∷ fs) d e = absurd (cc)

-- so many elements are open in the list that is skipped
pub skip_deepens : (r n : Run) (d depth : ℕ) → skipped_in (reverse r.frames.frames) ≡ Some d
    → ((old : ℕ) (gs : List Frame) → reverse r.frames.frames ≡ Skip old ∷ gs → reverse n.frames.frames ≡ Skip depth ∷ gs)
    → n.source.ahead ≡ r.source.ahead → n.outer.items ≡ r.outer.items → n.doing ≡ r.doing → burden n + d ≡ burden r + depth
skip_deepens r n d depth skipped deep at outer doing =
    let t = skip_is (reverse r.frames.frames) d skipped in
    by (load n) (load r) (frames_work t.0) (ahead_work r.source.ahead) (outer_work r.outer.items) (waits_work n.doing n.source.ahead) (waits_work r.doing r.source.ahead)
    (load_at r n (Skip depth ∷ t.0) r.source.ahead (deep d t.0 t.1) at outer)
    (ap (λ l. frames_work l + ahead_work r.source.ahead + outer_work r.outer.items) t.1)
    (ap (λ x. waits_work x n.source.ahead) doing ∙ ap (λ a. waits_work r.doing a) at)
  where
    by : (n r g a o w v : ℕ) → n ≡ 2 + depth + g + a + o → r ≡ 2 + d + g + a + o → w ≡ v → n + w + d ≡ r + v + depth
    by n r g a o w v e1 e2 e3 = omega (arith, e1, e2, e3)

-- an event of a buffer is passed over, for a unit
pub skip_begun : (p : Program) (r m n : Run) (whole id depth : ℕ) → SkipsOn p depth r → m ≡ record r { fuel = m.fuel }
    → fuel_begun whole r.fuel r.source.origin ≡ Some m.fuel → IsBuffer id r.source.origin
    → ((d : ℕ) → skipped_in (reverse m.frames.frames) ≡ Some d → (n.fuel ≡ m.fuel) × (burden n + d ≡ burden m + depth)) → work p n < work p r
skip_begun p r m n whole id depth h same begun buffer deep =
    let t = skip_top (reverse r.frames.frames) h.skipped in
    let d = deep t.0 (ap (λ (x : Run). skipped_in (reverse x.frames.frames)) same ∙ ap skipped_in t.1.1) in
    node_begun p r m n whole id h.steady.places same begun buffer d.0
    (by (load n) (load m) (waits_work n.doing n.source.ahead) (waits_work m.doing m.source.ahead) t.0 (lists_on (standing_of r).source.way) r.source.begun
    (standing_of r).source.way.limit d.1 (waits_few m.doing m.source.ahead) h.begun h.steady.source.counted h.steady.source.small)
  where
    by : (n m w v d o b limit : ℕ) → n + w + d ≡ m + v + depth → v ≤ 2 → o + depth ≡ b → b ≤ limit + 1 → limit + 1 < 2 ^ 32 → n ≤ m + 2 ^ 33
    by n m w v d o b limit e f g h i = omega (arith, e, f, g, h, i)

-- an element ends in it
pub skip_ended : (p : Program) (r m n : Run) (whole id depth less : ℕ) → SkipEnds p depth r → less + 1 ≡ depth → m ≡ record r { fuel = fuel_ended whole r.fuel r.source.origin }
    → IsBuffer id r.source.origin → ((d : ℕ) → skipped_in (reverse m.frames.frames) ≡ Some d → (n.fuel ≡ m.fuel) × (burden n + d ≡ burden m + less)) → work p n < work p r
skip_ended p r m n whole id depth less h one same buffer deep =
    let d = deep depth (ap (λ (x : Run). skipped_in (reverse x.frames.frames)) same ∙ h.skipped) in
    less_falls p r n h.steady.places (d.0 ∙ ap (λ (x : Run). x.fuel) same ∙ ended_still whole r.fuel id r.source.origin buffer)
    (by (burden n) (burden m) (burden r) d.1 (ap burden same))
  where
    by : (n m r : ℕ) → n + depth ≡ m + less → m ≡ r → n + 1 ≤ r
    by n m r e f = omega (arith, e, f, one)

-- the end of a list is found
pub end_found : (p : Program) (r m : Run) (whole id : ℕ) → length p.code.ops < 2 ^ 32 → m ≡ record r { fuel = fuel_ended whole r.fuel r.source.origin }
    → IsBuffer id r.source.origin → r.doing ≡ doing.List → r.source.ahead ≡ ahead.Nothing
    → work p (record m { source = record m.source { ahead = ahead.Ended } }) < work p r
end_found p r m whole id small same buffer list nothing =
    let t = record r { fuel = fuel_ended whole r.fuel r.source.origin } in
    let n = record t { source = record t.source { ahead = ahead.Ended } } in
    subst (λ (x : Run). work p (record x { source = record x.source { ahead = ahead.Ended } }) < work p r) (sym same)
    (less_falls p r n small (ended_still whole r.fuel id r.source.origin buffer)
    (by (frames_work (reverse r.frames.frames)) (outer_work r.outer.items) (ahead_work r.source.ahead) (waits_work r.doing ahead.Ended) (waits_work r.doing r.source.ahead)
    (ap ahead_work nothing) (ap (λ d. waits_work d ahead.Ended) list) (ap (λ d. waits_work d r.source.ahead) list ∙ ap (λ a. waits_work doing.List a) nothing)))
  where
    by : (f o a w v : ℕ) → a ≡ 0 → w ≡ 0 → v ≡ 2 → f + 1 + o + w + 1 ≤ f + a + o + v
    by f o a w v d e g = omega (arith, d, e, g)
