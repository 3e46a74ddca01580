-- How much begins with what a method does to a run.
use Rattle.std.proofs.Common.{◌≡◌, ℕ, ◌+◌, ◌-◌, ◌≤◌, ◌^◌, List, [], ◌∷◌, ◌++◌, length, reverse, refl, ap, sym, subst, ◌∙◌, arith}
use Rattle.frame_stack.specs.Change.{changed, with_locals, with_pc}
use Rattle.frame_stack.specs.Stack.{FrameStack, with_frames}
use Rattle.frame_stack.specs.declared.frame.Frame.{Frame}
use Rattle.frame_stack.specs.declared.frame.Frame.TheVariants.{Body, Call, Loop}
use Rattle.frame_stack.specs.declared.locals.Local.{Local}
use Rattle.sheet_model.specs.declared.sheet.Variable.{Variable}
use Rattle.stxpath_values.specs.declared.value.Atom.{Atom}
use Rattle.template_machine.specs.Bodies.{all_spent, seen_as, spent_by}
use Rattle.template_machine.specs.Made.{BindsParams, LaysScope}
use Rattle.template_machine.specs.Moments.{IsBuffer}
use Rattle.template_machine.specs.Work.{Begins, ahead_work, burden, frame_work, frames_work, load, means_of, outer_work}
use Rattle.template_machine.specs.Working.{EntersSource, PushesWaiting}
use Rattle.template_machine.specs.declared.bodies.Seen.{Seen}
use Rattle.template_machine.specs.declared.bodies.Seen.TheVariants.{Outside, Template, Within}
use Rattle.template_machine.specs.declared.putting.Putting.{Putting}
use Rattle.template_machine.specs.declared.run.Doing.TheVariants as doing
use Rattle.template_machine.specs.declared.run.Run.{Run}
use Rattle.template_machine.specs.declared.source.Origin.{Origin}
use Rattle.template_machine.specs.declared.source.Source as sources
use Rattle.template_machine.proofs.Documents.{buffer_before, means_same}
use Rattle.template_machine.proofs.Falling.{begins_body, begins_list, begins_locals, begins_on, begins_within, locals_weigh}
use Rattle.template_machine.proofs.Works.{work_changed, work_pushed}

-- What waits behind it.

pub load_pushed : (f : Frame) (r t : Run) → t ≡ record r { frames = with_frames (r.frames.frames ++ f ∷ []) r.frames } → load t ≡ load r + frame_work f
load_pushed f r t is =
    ap load is
    ∙ by (frames_work (reverse (r.frames.frames ++ f ∷ []))) (frame_work f) (frames_work (reverse r.frames.frames)) (ahead_work r.source.ahead) (outer_work r.outer.items)
    (work_pushed r.frames.frames f)
  where
    by : (x w y a o : ℕ) → x ≡ w + y → x + a + o ≡ y + a + o + w
    by x w y a o e = omega (arith, e)

pub load_bound : (params : List Variable) (m u : Run) → BindsParams params m u → load u ≡ load m
load_bound params m u b =
    let h = λ (ls : List Local). ls ++ b.locals in
    ap load b.rest
    ∙ ap (λ n. n + ahead_work m.source.ahead + outer_work m.outer.items)
    (work_changed (with_locals h) (locals_weigh h) (length m.frames.frames - 1) m.frames.frames)

spent_weighs : (x : Seen) (f : Frame) (fs gs : List Frame) → frames_work gs ≡ frames_work fs → frames_work (spent_by x f fs gs) ≡ frame_work f + frames_work fs
spent_weighs (Template template) (Body number alternative pc locals level spent) fs gs same = ap (λ n. 5 + n) same
spent_weighs (Template template) (Call procedure pc locals level) fs gs same = ap (λ n. 1 + n) same
spent_weighs (Template template) (Loop turn) fs gs same = ap (λ n. 1 + n) same
spent_weighs (Template template) f fs gs same = ap (λ n. frame_work f + n) same
spent_weighs Within f fs gs same = ap (λ n. frame_work f + n) same
spent_weighs Outside f fs gs same = refl

all_weigh : (level : ℕ) (fs : List Frame) → frames_work (all_spent level fs) ≡ frames_work fs
all_weigh level [] = refl
all_weigh level (f ∷ fs) = spent_weighs (seen_as level f) f fs (all_spent level fs) (all_weigh level fs)

pub load_spent : (level : ℕ) (r : Run) (frames : FrameStack) → reverse frames.frames ≡ all_spent level (reverse r.frames.frames)
    → load (record r { frames = frames }) ≡ load r
load_spent level r frames is =
    ap (λ n. n + ahead_work r.source.ahead + outer_work r.outer.items) (ap frames_work is ∙ all_weigh level (reverse r.frames.frames))

outer_more : (ss : List sources.Source) (s : sources.Source) → outer_work (ss ++ s ∷ []) ≡ outer_work ss + ahead_work s.ahead
outer_more [] s = omega arith
outer_more (x ∷ ss) s = by (ahead_work x.ahead) (outer_work (ss ++ s ∷ [])) (outer_work ss) (ahead_work s.ahead) (outer_more ss s)
  where
    by : (w x y z : ℕ) → x ≡ y + z → w + x ≡ w + y + z
    by w x y z e = omega (arith, e)

pub load_entered : (depth : ℕ) (origin : Origin) (r t : Run) → EntersSource depth origin r t → load t ≡ load r
load_entered depth origin r t e =
    by (frames_work (reverse t.frames.frames)) (frames_work (reverse r.frames.frames)) (ahead_work t.source.ahead) (ahead_work r.source.ahead) (outer_work t.outer.items)
    (outer_work r.outer.items) (ap (λ (x : Run). frames_work (reverse x.frames.frames)) e.rest) (ap ahead_work e.source.ahead_is)
    (ap outer_work e.outer ∙ outer_more r.outer.items r.source)
  where
    by : (x y a b o q : ℕ) → x ≡ y → a ≡ 0 → o ≡ q + b → x + a + o ≡ y + b + q
    by x y a b o q e f g = omega (arith, e, f, g)

-- One after another.

pub begins_same : (k : ℕ) (r m t : Run) → means_of t ≡ means_of m → burden t ≡ burden m → Begins k r m → Begins k r t
begins_same k r m t means same b = record { means = means ∙ b.means; load = by (burden t) (burden m) (load r) same b.load }
  where
    by : (x y z : ℕ) → x ≡ y → y ≤ z + k → x ≤ z + k
    by x y z e f = omega (arith, e, f)

pub begins_after : (k : ℕ) (r m t : Run) → Begins 0 r m → Begins k m t → k ≤ 2 ^ 68 → Begins (2 ^ 68) r t
begins_after k r m t x y few = begins_within (0 + k) (2 ^ 68) r t (omega (arith, few)) (begins_on 0 k r m t x y)

pub begins_grown : (a b c : ℕ) (r m t : Run) → means_of m ≡ means_of r → load m ≡ load r + a → Begins b m t → a + b ≤ c → Begins c r t
begins_grown a b c r m t means more x few = record { means = x.means ∙ means; load = by (burden t) (load m) (load r) more x.load }
  where
    by : (x y z : ℕ) → y ≡ z + a → x ≤ y + b → x ≤ z + c
    by x y z e f = omega (arith, e, f, few)

pub begins_put : (a b : ℕ) (r m t : Run) (putting : Putting) → m ≡ record r { putting = putting } → Begins a m t → a ≤ b → Begins b r t
begins_put a b r m t putting is x few = begins_grown 0 a b r m t (ap means_of is) (by (load m) (load r) (ap load is)) x (omega (arith, few))
  where
    by : (x y : ℕ) → x ≡ y → x ≡ y + 0
    by x y e = omega (arith, e)

-- A body goes on behind it.

pub begins_pushed : (k : ℕ) (f : Frame) (r t : Run) → r.doing ≡ doing.Body → t ≡ record r { frames = with_frames (r.frames.frames ++ f ∷ []) r.frames }
    → frame_work f ≤ k → Begins k r t
begins_pushed k f r t goes is few =
    begins_body k r t (ap (λ (x : Run). x.doing) is ∙ goes) (ap means_of is) (by (load t) (load r) (frame_work f) (load_pushed f r t is) few)
  where
    by : (n m w : ℕ) → n ≡ m + w → w ≤ k → n ≤ m + k
    by n m w e f = omega (arith, e, f)

pub begins_bound : (params : List Variable) (m u : Run) → m.doing ≡ doing.Body → BindsParams params m u → Begins 0 m u
begins_bound params m u goes b =
    begins_body 0 m u (ap (λ (x : Run). x.doing) b.rest ∙ goes) (ap means_of b.rest) (by (load u) (load m) (load_bound params m u b))
  where
    by : (n m : ℕ) → n ≡ m → n ≤ m + 0
    by n m e = omega (arith, e)

pub begins_handed : (r u : Run) (next place : ℕ) (values : List (List Atom)) (frames : FrameStack) → r.doing ≡ doing.Body
    → frames ≡ with_frames (changed (with_pc next) place r.frames.frames) r.frames → PushesWaiting values place (record r { frames = frames }) u → Begins 0 r u
begins_handed r u next place values frames goes is w =
    let h = λ (ls : List Local). ls ++ w.0 in
    subst (Begins 0 r) (sym w.1.1)
    (begins_locals r next place place h frames (with_frames (changed (with_locals h) place frames.frames) frames) goes is refl)

-- a template's body is entered
module _ (r m : Run) (f : Frame) (params : List Variable) (few : frame_work f ≤ 5) (is : m ≡ record r { frames = with_frames (r.frames.frames ++ f ∷ []) r.frames }) where
  entered : (t u : Run) → t.doing ≡ doing.Body → means_of t ≡ means_of m → load t ≡ load m → BindsParams params t u → Begins 5 r u
  entered t u goes means same b =
      begins_body 5 r u (ap (λ (x : Run). x.doing) b.rest ∙ goes) (ap means_of b.rest ∙ means ∙ ap means_of is)
      (by (load u) (load t) (load m) (load r) (frame_work f) (load_bound params t u b) same (load_pushed f r m is) few)
    where
      by : (a b c d w : ℕ) → a ≡ b → b ≡ c → c ≡ d + w → w ≤ 5 → a ≤ d + 5
      by a b c d w e f g h = omega (arith, e, f, g, h)

  pub begins_plain : (u : Run) → BindsParams params (record m { doing = doing.Body }) u → Begins 5 r u
  begins_plain u b = entered (record m { doing = doing.Body }) u refl refl refl b

  pub begins_scoped : (group : ℕ) (t u : Run) → LaysScope group (record m { doing = doing.Body }) t → BindsParams params t u → Begins 5 r u
  begins_scoped group t u laid b = entered t u (ap (λ (x : Run). x.doing) laid.rest) (ap means_of laid.rest) (ap load laid.rest) b

-- A list goes on behind it.

pub begins_children : (level : ℕ) (r : Run) (frames : FrameStack) → reverse frames.frames ≡ all_spent level (reverse r.frames.frames)
    → Begins 2 r (record r { frames = frames; doing = doing.List })
begins_children level r frames is =
    begins_list 0 r (record r { frames = frames; doing = doing.List }) refl (by (load (record r { frames = frames })) (load r) (load_spent level r frames is))
  where
    by : (n m : ℕ) → n ≡ m → n ≤ m + 0
    by n m e = omega (arith, e)

pub begins_over : (k : ℕ) (f : Frame) (r t : Run) → t ≡ record r { frames = with_frames (r.frames.frames ++ f ∷ []) r.frames } → frame_work f ≤ k
    → Begins (k + 2) r (record t { doing = doing.List })
begins_over k f r t is few =
    begins_list k r (record t { doing = doing.List }) (ap means_of is) (by (load t) (load r) (frame_work f) (load_pushed f r t is) few)
  where
    by : (n m w : ℕ) → n ≡ m + w → w ≤ k → n ≤ m + k
    by n m w e f = omega (arith, e, f)

-- the children that are gone from here on
pub begins_passed : (level : ℕ) (f : Frame) (r m t : Run) (frames : FrameStack) → load m ≡ load r → means_of m ≡ means_of r
    → reverse frames.frames ≡ all_spent level (reverse m.frames.frames) → t ≡ record m { frames = with_frames (frames.frames ++ f ∷ []) frames } → frame_work f ≤ 2
    → Begins 4 r (record t { doing = doing.List })
begins_passed level f r m t frames same means is pushed few =
    begins_list 2 r (record t { doing = doing.List }) (ap means_of pushed ∙ means)
    (by (load t) (load (record m { frames = frames })) (load m) (load r) (frame_work f) (load_pushed f (record m { frames = frames }) t pushed)
    (load_spent level m frames is) same few)
  where
    by : (a b c d w : ℕ) → a ≡ b + w → b ≡ c → c ≡ d → w ≤ 2 → a ≤ d + 2
    by a b c d w e f g h = omega (arith, e, f, g, h)

-- and it waits for its siblings
pub begins_skipped : (level : ℕ) (f g : Frame) (r t u : Run) (frames : FrameStack) → reverse frames.frames ≡ all_spent level (reverse r.frames.frames)
    → load t ≡ load (record r { frames = frames }) + frame_work f → means_of t ≡ means_of r → u ≡ record t { frames = with_frames (t.frames.frames ++ g ∷ []) t.frames }
    → frame_work f + frame_work g ≤ 4 → Begins 6 r (record u { doing = doing.List })
begins_skipped level f g r t u frames is waits means pushed few =
    begins_list 4 r (record u { doing = doing.List }) (ap means_of pushed ∙ means)
    (by (load u) (load t) (load (record r { frames = frames })) (load r) (frame_work f) (frame_work g) (load_pushed g t u pushed) waits (load_spent level r frames is) few)
  where
    by : (a b c d v w : ℕ) → a ≡ b + w → b ≡ c + v → c ≡ d → v + w ≤ 4 → a ≤ d + 4
    by a b c d v w e f g h = omega (arith, e, f, g, h)

-- a buffer is read
pub begins_source : (depth id : ℕ) (origin : Origin) (f : Frame) (r m t u : Run) → IsBuffer id origin → load m ≡ load r → means_of m ≡ means_of r
    → t ≡ record m { frames = with_frames (m.frames.frames ++ f ∷ []) m.frames } → frame_work f ≤ 1 → EntersSource depth origin t u
    → Begins 3 r (record u { doing = doing.List })
begins_source depth id origin f r m t u is same means pushed few e =
    begins_list 1 r (record u { doing = doing.List }) (means_same t u (ap (λ (x : Run). x.fuel) e.rest) (buffer_before depth id origin t u is e) ∙ ap means_of pushed ∙ means)
    (by (load u) (load t) (load m) (load r) (frame_work f) (load_entered depth origin t u e) (load_pushed f m t pushed) same few)
  where
    by : (a b c d w : ℕ) → a ≡ b → b ≡ c + w → c ≡ d → w ≤ 1 → a ≤ d + 1
    by a b c d w e f g h = omega (arith, e, f, g, h)
