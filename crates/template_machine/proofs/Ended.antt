-- The body of a template is over: its copies are taken off, and its node is left.
use Rattle.std.proofs.Common.{◌≡◌, ◌≢◌, ℕ, zero, suc, ◌-◌, ◌<◌, ◌==◌, Bool, true, false, List, [], ◌∷◌, length, map, reverse, get_or, All, Some, refl, ap, sym, subst, ◌∙◌, arith}
use Rattle.std.specs.Prelude.{MatchBool, ◌&&◌, if◌then◌else◌, not, unwrap_or}
use Rattle.std.specs.List.{Contains, slice_get, slice_set}
use Rattle.std.proofs.lemmas.Bool.{eqb-true}
use Rattle.std.proofs.lemmas.List.{length-map}
use Rattle.std.proofs.lemmas.List.Elements.{All-cons, All-head, All-tail}
use Rattle.std.proofs.lemmas.Option.{slice_get_within}
use Rattle.frame_stack.specs.Stack.{FrameStack}
use Rattle.frame_stack.specs.declared.frame.Frame.{Frame}
use Rattle.frame_stack.specs.declared.frame.Frame.TheVariants.{Body}
use Rattle.frame_stack.specs.declared.locals.Local.{Local}
use Rattle.instr_code.specs.declared.code.Op.TheVariants as op
use Rattle.node_stack.specs.Path.{can_have_children, is_attribute}
use Rattle.sheet_model.specs.declared.sheet.Template.{Template}
use Rattle.var_store.specs.Copies.{Stored}
use Rattle.template_machine.specs.Bodies.{pc_in, spent_in}
use Rattle.template_machine.specs.Contexts.{HasStations, Station}
use Rattle.template_machine.specs.Lists.{rest_of}
use Rattle.template_machine.specs.Made.{LeavesScope}
use Rattle.template_machine.specs.Sections.{HoldStill}
use Rattle.template_machine.specs.Standing.{Free, Front, Read, Shelf, Standing, Usage, Written, in_group, known_now, on_shelf, rooms_of, scope_over, shelf_at, shelf_of, standing_of, written_closed}
use Rattle.template_machine.specs.Ways.{Way, here, left, number_of}
use Rattle.template_machine.specs.Moments.{BodyIsOver, IsAtOp}
use Rattle.template_machine.specs.Well.{AreWell, AreWritten, BodyGoesOn, CanTake, CanTakeOff, IsFrontFor, IsLaidOver, IsOpen, IsSettled, IsSteady, TellWithin, is_again, over}
use Rattle.template_machine.specs.Working.{IsTemplateBody}
use Rattle.template_machine.specs.declared.program.Program.{Program}
use Rattle.template_machine.specs.declared.putting.Putting.{Putting}
use Rattle.template_machine.specs.declared.run.Run.{Run}
use Rattle.template_machine.specs.declared.run.Running.{Running}
use Rattle.template_machine.specs.declared.source.Ahead.TheVariants as ahead
use Rattle.template_machine.proofs.Entering.{template_over}
use Rattle.template_machine.proofs.Operating.{at_body, body_on_top}
use Rattle.template_machine.proofs.Shelved.{stands_still}
use Rattle.template_machine.proofs.Streaming.{scope_reads}
use Rattle.template_machine.proofs.Taken.{source_steady}
use Rattle.template_machine.proofs.Writing.{tells_alike}

-- One copy fewer of a group's variables and buffers, each of which is laid over another.

abbrev Over : ℕ → Shelf → Type 0
Over g x = x.group ≡ g → IsLaidOver x.copies

abbrev HasCopy : Shelf → Type 0
HasCopy x = 0 < length x.copies

abbrev off_by : Bool → Shelf → Shelf
off_by b x = if b then record x { copies = rest_of x.copies } else x

abbrev off : ℕ → List Shelf → List Shelf
off g xs = map (in_group rest_of g) xs

rest_copied : (us : List Usage) → IsLaidOver us → 0 < length (rest_of us)
rest_copied [] h = absurd h
rest_copied (Free ∷ []) h = absurd h
rest_copied (Free ∷ u ∷ us) h = omega arith
rest_copied (Written ∷ us) h = absurd h
rest_copied (Read held ∷ us) h = absurd h

off_copied : (g : ℕ) (xs : List Shelf) → All (Over g) xs → All HasCopy xs → All HasCopy (off g xs)
off_copied g [] laid h = h
off_copied g (x ∷ xs) laid h =
    All-cons HasCopy (in_group rest_of g x) (off g xs) (by (x.group == g) refl) (off_copied g xs (All-tail (Over g) x xs laid) (All-tail HasCopy x xs h))
  where
    by : (b : Bool) → (x.group == g) ≡ b → HasCopy (off_by b x)
    by true e = let at : x.group ≡ g → IsLaidOver x.copies = All-head (Over g) x xs laid in rest_copied x.copies (at (eqb-true x.group g e))
    by false e = All-head HasCopy x xs h

closed_over : (us : List Usage) → IsLaidOver us → IsLaidOver (written_closed us)
closed_over [] h = absurd h
closed_over (Free ∷ []) h = absurd h
closed_over (Free ∷ Free ∷ us) h = tt
closed_over (Free ∷ Written ∷ us) h = tt
closed_over (Free ∷ Read held ∷ us) h = tt
closed_over (Written ∷ us) h = absurd h
closed_over (Read held ∷ us) h = absurd h

rest_closed : (us : List Usage) → IsLaidOver us → rest_of (written_closed us) ≡ written_closed (rest_of us)
rest_closed [] h = absurd h
rest_closed (Free ∷ us) h = refl
rest_closed (Written ∷ us) h = absurd h
rest_closed (Read held ∷ us) h = absurd h

off_closed : (g : ℕ) (xs : List Shelf) (id : ℕ) → All (Over g) xs → on_shelf written_closed id (off g xs) ≡ off g (on_shelf written_closed id xs)
off_closed g [] id laid = refl
off_closed g (x ∷ xs) zero laid = ap (λ y. y ∷ off g xs) (by (x.group == g) refl)
  where
    by : (b : Bool) → (x.group == g) ≡ b → record (off_by b x) { copies = written_closed (off_by b x).copies } ≡ off_by b (record x { copies = written_closed x.copies })
    by true e =
        let at : x.group ≡ g → IsLaidOver x.copies = All-head (Over g) x xs laid in
        ap (λ us. record x { copies = us }) (sym (rest_closed x.copies (at (eqb-true x.group g e))))
    by false e = refl
off_closed g (x ∷ xs) (suc id) laid = ap (λ l. in_group rest_of g x ∷ l) (off_closed g xs id (All-tail (Over g) x xs laid))

over_stays : (g : ℕ) (xs : List Shelf) (id : ℕ) → All (Over g) xs → All (Over g) (on_shelf written_closed id xs)
over_stays g [] id laid = laid
over_stays g (x ∷ xs) zero laid =
    let at : x.group ≡ g → IsLaidOver x.copies = All-head (Over g) x xs laid in
    All-cons (Over g) (record x { copies = written_closed x.copies }) xs (λ e. closed_over x.copies (at e)) (All-tail (Over g) x xs laid)
over_stays g (x ∷ xs) (suc id) laid =
    All-cons (Over g) x (on_shelf written_closed id xs) (All-head (Over g) x xs laid) (over_stays g xs id (All-tail (Over g) x xs laid))

free_contains : (us : List Usage) (k : ℕ) → k < suc (length us) → get_or (Free ∷ us) k Written ≡ Written → Contains us Written
free_contains us zero less is = absurd (cc)
free_contains us (suc k) less is = (k, omega (arith, less), is)

rest_contains : (us : List Usage) → IsLaidOver us → Contains us Written → Contains (rest_of us) Written
rest_contains [] laid h = absurd laid
rest_contains (Free ∷ us) laid h = free_contains us h.0 (omega (arith, h.1)) h.2
rest_contains (Written ∷ us) laid h = absurd laid
rest_contains (Read held ∷ us) laid h = absurd laid

off_there : (g : ℕ) (xs : List Shelf) (id : ℕ) → All (Over g) xs → Contains (shelf_at xs id).copies Written → Contains (shelf_at (off g xs) id).copies Written
off_there g [] id laid h = absurd (omega (arith, h.1))
off_there g (x ∷ xs) zero laid h = by (x.group == g) refl
  where
    by : (b : Bool) → (x.group == g) ≡ b → Contains (off_by b x).copies Written
    by true e = let at : x.group ≡ g → IsLaidOver x.copies = All-head (Over g) x xs laid in rest_contains x.copies (at (eqb-true x.group g e)) h
    by false e = h
off_there g (x ∷ xs) (suc id) laid h = off_there g xs id (All-tail (Over g) x xs laid) h

off_written : (g : ℕ) (ids : List ℕ) (xs : List Shelf) → All (Over g) xs → AreWritten ids xs → AreWritten ids (off g xs)
off_written g [] xs laid h = tt
off_written g (id ∷ ids) xs laid h = (
  omega (arith, h.0, length-map xs (in_group rest_of g)),
  off_there g xs id laid h.1,
  subst (AreWritten ids) (sym (off_closed g xs id laid)) (off_written g ids (on_shelf written_closed id xs) (over_stays g xs id laid) h.2),
)

fewer_copied : (ns : List ℕ) (g : ℕ) → 1 < unwrap_or (slice_get ns g) 0 → All (λ n. 0 < n) ns → All (λ n. 0 < n) (slice_set ns g (unwrap_or (slice_get ns g) 0 - 1))
fewer_copied [] g more h = h
fewer_copied (n ∷ ns) zero more h = All-cons (λ n. 0 < n) (n - 1) ns (omega (arith, more)) (All-tail (λ n. 0 < n) n ns h)
fewer_copied (n ∷ ns) (suc g) more h =
    All-cons (λ n. 0 < n) n (slice_set ns g (unwrap_or (slice_get ns g) 0 - 1)) (All-head (λ n. 0 < n) n ns h) (fewer_copied ns g more (All-tail (λ n. 0 < n) n ns h))

set_long : (ns : List ℕ) (g m : ℕ) → length (slice_set ns g m) ≡ length ns
set_long [] g m = refl
set_long (n ∷ ns) zero m = refl
set_long (n ∷ ns) (suc g) m = ap suc (set_long ns g m)

-- A run is steady without them.
pub left_steady : (p : Program) (r n : Run) (g : ℕ) → IsSteady p r → CanTakeOff g (standing_of r) → LeavesScope g r n → IsSteady p n
left_steady p r n g h laid l = subst (IsSteady p) (sym l.rest) (by n.store n.putting (sym (ap standing_of l.rest) ∙ l.standing) l.holds)
  where
    by : (store : Stored) (new : Putting) → standing_of (record r { store = store; putting = new }) ≡ scope_over true g (standing_of r)
        → HoldStill r.putting.buffers new.buffers → IsSteady p (record r { store = store; putting = new })
    by store new is holds =
        let s = standing_of r in
        let bs = new.buffers.buffers in
        let counts : map length store ≡ slice_set s.copies g (unwrap_or (slice_get s.copies g) 0 - 1) = ap (λ (x : Standing). x.copies) is in
        let shelves : map shelf_of bs ≡ off g s.shelves = ap (λ (x : Standing). x.shelves) is in
        let targets : reverse new.targets ≡ s.targets = ap (λ (x : Standing). x.targets) is in
        record {
          sheet = h.sheet;
          limits = h.limits;
          sound = h.sound;
          program = h.program;
          places = h.places;
          groups =
              sym (length-map store length) ∙ ap length counts ∙ set_long s.copies g (unwrap_or (slice_get s.copies g) 0 - 1) ∙ length-map r.store length ∙ h.groups;
          buffers =
              sym (length-map bs shelf_of) ∙ ap length shelves ∙ length-map s.shelves (in_group rest_of g) ∙ length-map r.putting.buffers.buffers shelf_of ∙ h.buffers;
          source = h.source;
          outer = h.outer;
          shallow = h.shallow;
          written =
              subst (λ ts. AreWritten ts (map shelf_of bs)) (sym targets) (subst (AreWritten s.targets) (sym shelves) (off_written g s.targets s.shelves laid.1 h.written));
          copied = subst (All (λ n. 0 < n)) (sym counts) (fewer_copied s.copies g laid.0 h.copied);
          shelved = subst (All HasCopy) (sym shelves) (off_copied g s.shelves laid.1 h.shelved);
          within =
              subst (TellWithin (reverse r.frames.frames) (rooms_of r)) (sym shelves)
              (tells_alike (reverse r.frames.frames) (rooms_of r) s.shelves (off g s.shelves) (scope_reads true g s (λ e. laid)) h.within);
          deep = holds.deep p.buffer_depth h.deep;
          sections = holds.sections h.sections;
          aside = h.aside;
        }

-- What the body of a template on top finds.
pub record TemplateFinds (p : Program) (r : Run) (stations : List Station) (template level : ℕ) (spent : Bool) : Type 0 where
  pub frame : Frame
  pub frames : List Frame
  pub on_top : reverse r.frames.frames ≡ frame ∷ frames
  pub declared : Template
  pub is : slice_get p.sheet.templates template ≡ Some declared
  pub laid : declared.new_scope ≡ true → CanTakeOff declared.group (standing_of r)
  pub level_is : level ≡ number_of (standing_of r).source.way
  pub take : is_again level frames ≡ false → CanTake frames (standing_of r).source.way
  pub spent_is : is_again level frames ≡ true → spent_in frames ≡ Some spent
  pub well : AreWell p stations 0 true frames (over level frames (scope_over declared.new_scope declared.group (standing_of r)))
  pub within : TellWithin frames (rooms_of r) (standing_of r).shelves
  pub fits : IsSettled (frame ∷ frames) (standing_of r).source.way (known_now r).begun (known_now r).front
  pub body : (alternative : ℕ) × ((pc : ℕ) × ((locals : List Local) × (frame ≡ Body template alternative pc locals level spent)))

pub template_finds : (p : Program) (r : Run) (running : Running) (template level : ℕ) (spent : Bool) → (at : IsAtOp p r running op.Return)
    → IsTemplateBody template level spent (slice_get r.frames.frames running.body) → TemplateFinds p r at.well.stations template level spent
template_finds p r running template level spent at b =
    let s = standing_of r in
    let w = at.well in
    let alternative = b.0 in
    let pc = b.1.0 in
    let locals = b.1.1.0 in
    let x = Body template alternative pc locals level spent in
    let t = body_on_top p r running x at b.1.1.1 in
    let g : BodyGoesOn p w.stations (x ∷ t.0) s (known_now r) = subst (λ l. BodyGoesOn p w.stations l s (known_now r)) t.1 (at_body p r running op.Return at) in
    let here : pc ≡ running.pc = same_number (sym (ap pc_in t.1) ∙ at.pc) in
    let is : slice_get p.code.ops pc ≡ Some op.Return = subst (λ n. slice_get p.code.ops n ≡ Some op.Return) (sym here) at.is in
    let o = template_over p w.stations t.0 s template alternative pc level spent locals w.stand is g.well in
    record {
      frame = x;
      frames = t.0;
      on_top = t.1;
      declared = o.0;
      is = o.1.0;
      laid = o.1.1;
      level_is = o.1.2;
      take = o.1.3;
      spent_is = o.1.4;
      well = o.1.5;
      within = subst (λ l. TellWithin l (rooms_of r) s.shelves) t.1 w.steady.within;
      fits = g.fits;
      body = (alternative, (pc, (locals, refl)));
    }
  where
    same_number : {y z : ℕ} → Some y ≡ Some z → y ≡ z
    same_number e = cc

-- what is known around a node whose body is left
abbrev Left : (level : ℕ) (spent : Bool) (w : Way) (begun : ℕ) (front : Front) → List Frame → Type 0
Left level spent w n front fs =
    MatchBool (is_again level fs)
    (IsSettled fs w n front)
    (MatchBool (is_attribute (here w))
    (IsSettled fs (left w) n front)
    (MatchBool (can_have_children (here w) && not spent)
    (IsOpen w n front)
    (IsFrontFor (left w) n front)))

settled_left : (template level : ℕ) (spent : Bool) (frame : Frame) (fs : List Frame) (w : Way) (n : ℕ) (front : Front)
    → ((alternative : ℕ) × ((pc : ℕ) × ((locals : List Local) × (frame ≡ Body template alternative pc locals level spent)))) → IsSettled (frame ∷ fs) w n front
    → Left level spent w n front fs
settled_left template level spent frame fs w n front b h = subst (λ (f : Frame). IsSettled (f ∷ fs) w n front) b.1.1.1 h

-- A body is over, by what the run stands on.
left_by : (p : Program) (n : Run) (stations : List Station) (level : ℕ) (spent : Bool) (fs : List Frame) (s : Standing) → IsSteady p n → HasStations p.code stations p.sheet
    → n.source.ahead ≢ ahead.Here → reverse n.frames.frames ≡ fs → standing_of n ≡ s → (is_again level fs ≡ false → CanTake fs s.source.way)
    → AreWell p stations 0 true fs (over level fs s) → Left level spent s.source.way n.source.begun (known_now n).front fs → BodyIsOver p level spent n
left_by p n stations level spent fs s steady stand apart frames stands take well fits = record {
  steady = steady;
  stations = stations;
  stand = stand;
  apart = apart;
  take =
      subst (λ l. is_again level l ≡ false → CanTake l (standing_of n).source.way) (sym frames)
      (subst (λ (t : Standing). is_again level fs ≡ false → CanTake fs t.source.way) (sym stands) take);
  well =
      subst (λ l. AreWell p stations 0 true l (over level l (standing_of n))) (sym frames)
      (subst (λ (t : Standing). AreWell p stations 0 true fs (over level fs t)) (sym stands) well);
  fits =
      subst (Left level spent (standing_of n).source.way n.source.begun (known_now n).front) (sym frames)
      (subst (λ (t : Standing). Left level spent t.source.way n.source.begun (known_now n).front fs) (sym stands) fits);
}

-- The body is off.

frames_off : (p : Program) (r : Run) (frames : FrameStack) (fs : List Frame) → IsSteady p r → reverse frames.frames ≡ fs → TellWithin fs (rooms_of r) (standing_of r).shelves
    → IsSteady p (record r { frames = frames })
frames_off p r frames fs steady same within =
    source_steady p r (record r { frames = frames }) fs steady (record { outer = refl; aside = refl; store = refl; putting = stands_still r.putting }) refl same within

-- where its template has no scope of its own
pub template_left : (p : Program) (r : Run) (frames : FrameStack) (running : Running) (template level : ℕ) (spent : Bool) → (at : IsAtOp p r running op.Return)
    → (f : TemplateFinds p r at.well.stations template level spent) → reverse frames.frames ≡ f.frames → f.declared.new_scope ≡ false
    → BodyIsOver p level spent (record r { frames = frames })
template_left p r frames running template level spent at f same none =
    let s = standing_of r in
    let bare : scope_over f.declared.new_scope f.declared.group s ≡ s = ap (λ b. scope_over b f.declared.group s) none in
    left_by p (record r { frames = frames }) at.well.stations level spent f.frames s (frames_off p r frames f.frames at.well.steady same f.within) at.well.stand
    (at.well.apart at.doing) same refl f.take (subst (λ t. AreWell p at.well.stations 0 true f.frames (over level f.frames t)) bare f.well)
    (settled_left template level spent f.frame f.frames s.source.way (known_now r).begun (known_now r).front f.body f.fits)

-- and where its copies are taken off
pub scope_left : (p : Program) (r n : Run) (frames : FrameStack) (running : Running) (template level : ℕ) (spent : Bool) → (at : IsAtOp p r running op.Return)
    → (f : TemplateFinds p r at.well.stations template level spent) → reverse frames.frames ≡ f.frames → f.declared.new_scope ≡ true
    → LeavesScope f.declared.group (record r { frames = frames }) n → BodyIsOver p level spent n
scope_left p r n frames running template level spent at f same new l =
    let s = standing_of r in
    let m = record r { frames = frames } in
    let g = f.declared.group in
    let t = record m { store = n.store; putting = n.putting } in
    let off : scope_over f.declared.new_scope g s ≡ scope_over true g s = ap (λ b. scope_over b g s) new in
    let steady : IsSteady p t = subst (IsSteady p) l.rest (left_steady p m n g (frames_off p r frames f.frames at.well.steady same f.within) (f.laid new) l) in
    subst (BodyIsOver p level spent) (sym l.rest)
    (left_by p t at.well.stations level spent f.frames (scope_over true g s) steady at.well.stand (at.well.apart at.doing) same (sym (ap standing_of l.rest) ∙ l.standing) f.take
    (subst (λ u. AreWell p at.well.stations 0 true f.frames (over level f.frames u)) off f.well)
    (settled_left template level spent f.frame f.frames s.source.way (known_now r).begun (known_now r).front f.body f.fits))

-- the number of its template
pub template_within : (p : Program) (template : ℕ) (t : Template) → slice_get p.sheet.templates template ≡ Some t → template < length p.sheet.templates
template_within p template t is = slice_get_within p.sheet.templates template t is

-- its group has copies of its variables
pub group_within : (r : Run) (g : ℕ) → CanTakeOff g (standing_of r) → g < length r.store
group_within r g h = omega (arith, counted_within (map length r.store) g h.0, length-map r.store length)
  where
    counted_within : (ns : List ℕ) (k : ℕ) → 1 < unwrap_or (slice_get ns k) 0 → k < length ns
    counted_within [] k more = absurd (omega (arith, more))
    counted_within (n ∷ ns) zero more = omega arith
    counted_within (n ∷ ns) (suc k) more = let less = counted_within ns k more in omega (arith, less)

pub one_template : (a b : Template) → Some a ≡ Some b → a ≡ b
one_template a b e = cc
