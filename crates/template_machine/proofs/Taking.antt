-- Parameters that become locals of a body.
use Rattle.std.proofs.Common.{◌≡◌, ℕ, zero, suc, ◌+◌, ◌-◌, ◌<◌, ◌≤◌, List, [], ◌∷◌, ◌++◌, length, map, reverse, take, get_or, Option, Some, None, IsSome, refl, ap, sym, subst, ◌∙◌, arith, append_assoc, append-nil}
use Rattle.std.proofs.lemmas.List.{map-append, reverse-append, take-map}
use Rattle.std.proofs.lemmas.Option.{slice_get-map}
use Rattle.std.specs.List.{slice_get}
use Rattle.std.specs.Option.{ForSome, option_and_then, option_map, option_map_or}
use Rattle.std.specs.Prelude.{slice_set}
use Rattle.frame_stack.specs.Change.{changed, locals_of, with_locals}
use Rattle.frame_stack.specs.Stack.{FrameStack, with_frames}
use Rattle.frame_stack.specs.declared.frame.Frame.{Frame}
use Rattle.frame_stack.specs.declared.frame.Frame.TheVariants.{Body, Call, Attributes, Loop, Region, Source, Skip, Pass}
use Rattle.frame_stack.specs.declared.locals.Local.{Local}
use Rattle.frame_stack.specs.Locals.{local}
use Rattle.sheet_model.specs.Parts.{handed}
use Rattle.sheet_model.specs.declared.instr.Instr.{Instr}
use Rattle.sheet_model.specs.declared.instr.Instr.TheViews.{out-Instr}
use Rattle.sheet_model.specs.declared.sheet.Sheet.{Sheet}
use Rattle.sheet_model.specs.declared.sheet.Variable.{Variable}
use Rattle.stx_base.specs.declared.name.Name.{Name}
use Rattle.stxpath_syntax.specs.Shape.{CanBeEvaluated}
use Rattle.stxpath_values.specs.declared.value.Atom.{Atom}
use Rattle.template_machine.specs.Bodies.{below, level_of}
use Rattle.template_machine.specs.Made.{AreEvaluable, BindsParams, HandsValues, WaitFor}
use Rattle.template_machine.specs.Programs.{instr_at}
use Rattle.template_machine.specs.Steps.{Sees, group_of, test_in}
use Rattle.template_machine.specs.declared.program.Program.{Program}
use Rattle.template_machine.specs.declared.run.Asker.{Asker}
use Rattle.template_machine.specs.declared.run.Asker.TheVariants as asker
use Rattle.template_machine.specs.declared.run.Run.{Run}
use Rattle.template_machine.proofs.Lasting.{at_index}

-- a frame without its locals
abbrev strip : Frame → Frame
strip f = with_locals (λ ls. []) f

strip_with : (h : List Local → List Local) (f : Frame) → strip (with_locals h f) ≡ strip f
strip_with h (Body template alternative pc locals level spent) = refl
strip_with h (Call procedure pc locals level) = refl
strip_with h f = refl

changed_behind : (g : Frame → Frame) (n : ℕ) (x : Frame) (xs : List Frame) → changed g (suc n) (x ∷ xs) ≡ x ∷ changed g n xs
changed_behind g n x xs = by (slice_get xs n) where
  by : (o : Option Frame) → option_map_or (λ f. slice_set (x ∷ xs) (suc n) (g f)) o (x ∷ xs) ≡ x ∷ option_map_or (λ f. slice_set xs n (g f)) o xs
  by None = refl
  by (Some f) = refl

pub stripped_changed : (h : List Local → List Local) (n : ℕ) (xs : List Frame) → map strip (changed (with_locals h) n xs) ≡ map strip xs
stripped_changed h n [] = refl
stripped_changed h zero (x ∷ xs) = ap (λ y. y ∷ map strip xs) (strip_with h x)
stripped_changed h (suc n) (x ∷ xs) = ap (map strip) (changed_behind (with_locals h) n x xs) ∙ ap (λ l. strip x ∷ l) (stripped_changed h n xs)

-- What of a frame doesn't depend on its locals.

level_stripped : (f : Frame) → level_of (strip f) ≡ level_of f
level_stripped (Body template alternative pc locals level spent) = refl
level_stripped (Call procedure pc locals level) = refl
level_stripped f = refl

group_stripped : (s : Sheet) (f : Frame) → group_of s (strip f) ≡ group_of s f
group_stripped s (Body template alternative pc locals level spent) = refl
group_stripped s (Call procedure pc locals level) = refl
group_stripped s f = refl

test_stripped : (s : Sheet) (fs : List Frame) → test_in s (map strip fs) ≡ test_in s fs
test_stripped s [] = refl
test_stripped s (Loop turn ∷ fs) = test_stripped s fs
test_stripped s (Call procedure pc locals level ∷ fs) = test_stripped s fs
test_stripped s (Body template alternative pc locals level spent ∷ fs) = refl
test_stripped s (Attributes next asked ∷ fs) = refl
test_stripped s (Region asked level ∷ fs) = refl
test_stripped s (Source buffer next asked ∷ fs) = refl
test_stripped s (Skip depth ∷ fs) = refl
test_stripped s (Pass base level spent ∷ fs) = refl

of_stripped : {A : Type 0} (F : Frame → Option A) → ((f : Frame) → F (strip f) ≡ F f) → (o : Option Frame)
    → option_and_then F (option_map strip o) ≡ option_and_then F o
of_stripped F same None = refl
of_stripped F same (Some f) = same f

got_alike : {A : Type 0} (F : Frame → Option A) → ((f : Frame) → F (strip f) ≡ F f) → (xs ys : List Frame) (n : ℕ) → map strip xs ≡ map strip ys
    → option_and_then F (slice_get xs n) ≡ option_and_then F (slice_get ys n)
got_alike F same xs ys n alike =
    sym (of_stripped F same (slice_get xs n))
    ∙ ap (option_and_then F) (sym (slice_get-map strip xs n) ∙ ap (λ l. slice_get l n) alike ∙ slice_get-map strip ys n)
    ∙ of_stripped F same (slice_get ys n)

strip_reversed : (xs : List Frame) → map strip (reverse xs) ≡ reverse (map strip xs)
strip_reversed [] = refl
strip_reversed (x ∷ xs) =
    ap (map strip) (reverse-append (x ∷ []) xs) ∙ map-append strip (reverse xs) (x ∷ []) ∙ ap (λ l. l ++ strip x ∷ []) (strip_reversed xs)
    ∙ sym (reverse-append (strip x ∷ []) (map strip xs))

strip_below : (n : ℕ) (xs : List Frame) → map strip (below n xs) ≡ below n (map strip xs)
strip_below n xs = strip_reversed (take n xs) ∙ ap reverse (sym (take-map strip n xs))

test_alike : (s : Sheet) (n : ℕ) (xs ys : List Frame) → map strip xs ≡ map strip ys → test_in s (below n xs) ≡ test_in s (below n ys)
test_alike s n xs ys alike =
    sym (test_stripped s (below n xs)) ∙ ap (test_in s) (strip_below n xs ∙ ap (below n) alike ∙ sym (strip_below n ys)) ∙ test_stripped s (below n ys)

-- a body sees the same, whatever locals there are
pub sees_alike : (p : Program) (r : Run) (body : ℕ) (frames : FrameStack) → map strip frames.frames ≡ map strip r.frames.frames → Sees p r body
    → Sees p (record r { frames = frames }) body
sees_alike p r body frames alike s = record {
  level = s.level;
  level_is = got_alike level_of level_stripped frames.frames r.frames.frames body alike ∙ s.level_is;
  group = s.group;
  group_is = got_alike (group_of p.sheet) (group_stripped p.sheet) frames.frames r.frames.frames body alike ∙ s.group_is;
  test = s.test;
  test_is = test_alike p.sheet (suc body) frames.frames r.frames.frames alike ∙ s.test_is;
  told = s.told;
  parents = s.parents;
  sized = s.sized;
  root = s.root;
}

-- Parameters, one after another.

set_length : (xs : List Frame) (n : ℕ) (x : Frame) → length (slice_set xs n x) ≡ length xs
set_length [] n x = refl
set_length (y ∷ ys) zero x = refl
set_length (y ∷ ys) (suc n) x = ap suc (set_length ys n x)

changed_length : (g : Frame → Frame) (n : ℕ) (xs : List Frame) → length (changed g n xs) ≡ length xs
changed_length g n xs = by (slice_get xs n) where
  by : (o : Option Frame) → length (option_map_or (λ f. slice_set xs n (g f)) o xs) ≡ length xs
  by None = refl
  by (Some f) = set_length xs n (g f)

more_locals : (f g : List Local → List Local) (x : Frame) → with_locals g (with_locals f x) ≡ with_locals (λ ls. g (f ls)) x
more_locals f g (Body template alternative pc locals level spent) = refl
more_locals f g (Call procedure pc locals level) = refl
more_locals f g x = refl

changed_twice : (f g : List Local → List Local) (n : ℕ) (xs : List Frame)
    → changed (with_locals g) n (changed (with_locals f) n xs) ≡ changed (with_locals (λ ls. g (f ls))) n xs
changed_twice f g n [] = refl
changed_twice f g zero (x ∷ xs) = ap (λ y. y ∷ xs) (more_locals f g x)
changed_twice f g (suc n) (x ∷ xs) =
    ap (changed (with_locals g) (suc n)) (changed_behind (with_locals f) n x xs) ∙ changed_behind (with_locals g) n x (changed (with_locals f) n xs)
    ∙ ap (λ l. x ∷ l) (changed_twice f g n xs) ∙ sym (changed_behind (with_locals (λ ls. g (f ls))) n x xs)

joined_locals : (us vs : List Local) (n : ℕ) (xs : List Frame)
    → changed (with_locals (λ ls. (ls ++ us) ++ vs)) n xs ≡ changed (with_locals (λ ls. ls ++ (us ++ vs))) n xs
joined_locals us vs n [] = refl
joined_locals us vs zero (x ∷ xs) = ap (λ y. y ∷ xs) (one x) where
  one : (f : Frame) → with_locals (λ ls. (ls ++ us) ++ vs) f ≡ with_locals (λ ls. ls ++ (us ++ vs)) f
  one (Body template alternative pc locals level spent) = ap (λ ls. Body template alternative pc ls level spent) (append_assoc locals us vs)
  one (Call procedure pc locals level) = ap (λ ls. Call procedure pc ls level) (append_assoc locals us vs)
  one f = refl
joined_locals us vs (suc n) (x ∷ xs) =
    changed_behind (with_locals (λ ls. (ls ++ us) ++ vs)) n x xs ∙ ap (λ l. x ∷ l) (joined_locals us vs n xs)
    ∙ sym (changed_behind (with_locals (λ ls. ls ++ (us ++ vs))) n x xs)

no_locals : (n : ℕ) (xs : List Frame) → changed (with_locals (λ ls. ls ++ [])) n xs ≡ xs
no_locals n [] = refl
no_locals zero (x ∷ xs) = ap (λ y. y ∷ xs) (one x) where
  one : (f : Frame) → with_locals (λ ls. ls ++ []) f ≡ f
  one (Body template alternative pc locals level spent) = ap (λ ls. Body template alternative pc ls level spent) (append-nil locals)
  one (Call procedure pc locals level) = ap (λ ls. Call procedure pc ls level) (append-nil locals)
  one f = refl
no_locals (suc n) (x ∷ xs) = changed_behind (with_locals (λ ls. ls ++ [])) n x xs ∙ ap (λ l. x ∷ l) (no_locals n xs)

pub binds_none : (r : Run) → BindsParams [] r r
binds_none r = record {
  locals = [];
  named = refl;
  rest = ap (λ fs. record r { frames = with_frames fs r.frames }) (sym (no_locals (length r.frames.frames - 1) r.frames.frames));
}

pub binds_one : (v : Variable) (name : Name) (value : List Atom) (r : Run) (frames : FrameStack) → name ≡ v.name
    → frames ≡ with_frames (changed (with_locals (λ ls. ls ++ local name value ∷ [])) (length r.frames.frames - 1) r.frames.frames) r.frames
    → BindsParams (v ∷ []) r (record r { frames = frames })
binds_one v name value r frames same is = record {
  locals = local name value ∷ [];
  named = ap (λ n. n ∷ []) same;
  rest = ap (λ (fs : FrameStack). record r { frames = fs }) is;
}

pub binds_on : (vs ws : List Variable) (a b c : Run) → BindsParams vs a b → BindsParams ws b c → BindsParams (vs ++ ws) a c
binds_on vs ws a b c x y =
    let n = length a.frames.frames - 1 in
    let f : List Local → List Local = λ ls. ls ++ x.locals in
    let g : List Local → List Local = λ ls. ls ++ y.locals in
    let fs = changed (with_locals f) n a.frames.frames in
    let mid : Run = record a { frames = with_frames fs a.frames } in
    let long : length fs ≡ length a.frames.frames = changed_length (with_locals f) n a.frames.frames in
    record {
      locals = x.locals ++ y.locals;
      named =
          map-append (λ (l : Local). l.name) x.locals y.locals ∙ ap (λ ns. ns ++ map (λ (l : Local). l.name) y.locals) x.named
          ∙ ap (λ ns. map (λ (v : Variable). v.name) vs ++ ns) y.named ∙ sym (map-append (λ (v : Variable). v.name) vs ws);
      rest =
          y.rest
          ∙ ap (λ (r : Run). record r { frames = with_frames (changed (with_locals g) (length r.frames.frames - 1) r.frames.frames) r.frames }) x.rest
          ∙ ap (λ k. record a { frames = with_frames (changed (with_locals g) (k - 1) fs) a.frames }) long
          ∙ ap (λ l. record a { frames = with_frames l a.frames })
          (changed_twice f g n a.frames.frames ∙ joined_locals x.locals y.locals n a.frames.frames);
    }

pub binds_sees : (p : Program) (vs : List Variable) (a b : Run) (body : ℕ) → BindsParams vs a b → Sees p a body → Sees p b body
binds_sees p vs a b body x s =
    let h : List Local → List Local = λ ls. ls ++ x.locals in
    let n = length a.frames.frames - 1 in
    subst (λ (r : Run). Sees p r body) (sym x.rest)
    (sees_alike p a body (with_frames (changed (with_locals h) n a.frames.frames) a.frames) (stripped_changed h n a.frames.frames) s)

pub binds_long : (vs : List Variable) (a b : Run) → BindsParams vs a b → length b.frames.frames ≡ length a.frames.frames
binds_long vs a b x =
    ap (λ (r : Run). length r.frames.frames) x.rest ∙ changed_length (with_locals (λ ls. ls ++ x.locals)) (length a.frames.frames - 1) a.frames.frames

-- a frame below the top is as it was
pub other_place : (g : Frame → Frame) (n m : ℕ) (xs : List Frame) → m < n → slice_get (changed g n xs) m ≡ slice_get xs m
other_place g n m [] less = refl
other_place g zero m (x ∷ xs) less = absurd (omega arith)
other_place g (suc n) zero (x ∷ xs) less = ap (λ l. slice_get l 0) (changed_behind g n x xs)
other_place g (suc n) (suc m) (x ∷ xs) less = ap (λ l. slice_get l (suc m)) (changed_behind g n x xs) ∙ other_place g n m xs (omega (arith, less))

hands_still : (p : Program) (vs : List Variable) (a b : Run) (asked body : ℕ) → BindsParams vs a b → HandsValues p a asked body → HandsValues p b asked body
hands_still p vs a b asked body x h =
    let n = length a.frames.frames - 1 in
    let g = with_locals (λ ls. ls ++ x.locals) in
    record {
      instr = h.instr;
      asks = h.asks;
      frame = h.frame;
      there = ap (λ (r : Run). slice_get r.frames.frames body) x.rest ∙ other_place g n body a.frames.frames (omega (arith, h.below)) ∙ h.there;
      level = h.level;
      long = h.long;
      below = omega (arith, h.below, binds_long vs a b x);
    }

pub waits_still : (p : Program) (vs : List Variable) (a b : Run) (x : Asker) → BindsParams vs a b → WaitFor p a x → WaitFor p b x
waits_still p vs a b asker.Root binds w = tt
waits_still p vs a b (asker.Pass base) binds w = tt
waits_still p vs a b (asker.Instr asked body) binds w = hands_still p vs a b asked body binds w

pub take_none : {A : Type 0} (xs : List A) → take 0 xs ≡ []
take_none [] = refl
take_none (x ∷ xs) = refl

-- one item more
pub take_next : {A : Type 0} (xs : List A) (i : ℕ) (x : A) → slice_get xs i ≡ Some x → take (suc i) xs ≡ take i xs ++ x ∷ []
take_next [] i x at = absurd (cc)
take_next (y ∷ ys) zero x at = let same : y ≡ x = cc in ap (λ l. y ∷ l) (take_none ys) ∙ ap (λ z. z ∷ []) same
take_next (y ∷ ys) (suc i) x at = ap (λ l. y ∷ l) (take_next ys i x at)

-- The parameters, by their places.

pub param_there : (vs items : List Variable) (i : ℕ) (v : Variable) → items ≡ vs → i < length items → v ≡ get_or items i v → slice_get vs i ≡ Some v
param_there vs items i v same less is = subst (λ l. slice_get l i ≡ Some v) same (at_index items i v less is)

pub param_runs : (vs items : List Variable) (i : ℕ) (v : Variable) → items ≡ vs → i < length items → v ≡ get_or items i v → AreEvaluable vs
    → ForSome v.select CanBeEvaluated
param_runs vs items i v same less is can =
    subst (λ (x : Variable). ForSome x.select CanBeEvaluated) (sym is) (subst AreEvaluable (sym same) can i v less)

pub binds_next : (vs items : List Variable) (i : ℕ) (v : Variable) (a b c : Run) → items ≡ vs → i < length items → v ≡ get_or items i v → BindsParams (take i vs) a b
    → BindsParams (v ∷ []) b c → BindsParams (take (i + 1) vs) a c
binds_next vs items i v a b c same less is x y =
    let next : suc i ≡ i + 1 = omega arith in
    subst (λ l. BindsParams l a c) (sym (take_next vs i v (param_there vs items i v same less is)) ∙ ap (λ n. take n vs) next) (binds_on (take i vs) (v ∷ []) a b c x y)

-- the body on top sees the same
pub sees_next : (p : Program) (vs : List Variable) (a b : Run) → BindsParams vs a b → Sees p a (length a.frames.frames - 1) → Sees p b (length b.frames.frames - 1)
sees_next p vs a b x s =
    subst (λ n. Sees p b (n - 1)) (sym (binds_long vs a b x)) (binds_sees p vs a b (length a.frames.frames - 1) x s)

-- The values that wait.

pub hands_of : (p : Program) (r : Run) (x : Asker) (asked body : ℕ) → x ≡ asker.Instr asked body → WaitFor p r x → HandsValues p r asked body
hands_of p r x asked body is w = subst (WaitFor p r) is w

pub hands_some : (p : Program) (r : Run) (asked body : ℕ) → HandsValues p r asked body → IsSome (instr_at p.code asked)
hands_some p r asked body h = subst (λ o. IsSome o) (sym h.asks) refl

pub hands_level : (p : Program) (r : Run) (asked body : ℕ) → HandsValues p r asked body → IsSome (option_and_then level_of (slice_get r.frames.frames body))
hands_level p r asked body h = subst (λ o. IsSome (option_and_then level_of o)) (sym h.there) h.level

pub hands_long : (p : Program) (r : Run) (asked body : ℕ) (i : Instr) (locals : List Local) → HandsValues p r asked body → instr_at p.code asked ≡ Some i
    → option_map locals_of (slice_get r.frames.frames body) ≡ Some locals → length (handed (out-Instr i)) ≤ length locals
hands_long p r asked body i locals h is are =
    let same : h.instr ≡ i = one_instr h.instr i (sym h.asks ∙ is) in
    let own : locals_of h.frame ≡ locals = one_list (locals_of h.frame) locals (sym (ap (option_map locals_of) h.there) ∙ are) in
    omega (arith, h.long, ap (λ j. length (handed (out-Instr j))) same, ap length own)
  where
    one_instr : (x y : Instr) → Some x ≡ Some y → x ≡ y
    one_instr x y e = cc

    one_list : (x y : List Local) → Some x ≡ Some y → x ≡ y
    one_list x y e = cc
