-- Frames with what is kept beside them.
use Rattle.std.proofs.Common.{◌≡◌, ◌≢◌, ℕ, zero, suc, ◌+◌, ◌≤◌, ◌<◌, Bool, true, false, nat_eq, List, [], ◌∷◌, ◌++◌, length, get_or, take, Some, None, refl, ap, sym, ◌∙◌, subst, append_assoc, arith}
use Rattle.std.specs.Prelude.{map, slice_get, slice_set, OnOk, OnErr, Result, Ok, Err}
use Rattle.std.specs.Option.{option_map, option_map_or}
use Rattle.std.proofs.Math.ListN.{set}
use Rattle.std.proofs.lemmas.Bool.{eqb-true}
use Rattle.std.proofs.lemmas.List.{append-nil, length-map, map-append}
use Rattle.std.proofs.lemmas.Option.{slice_get-get_or, slice_get-map}
use Rattle.frame_stack.specs.declared.counted.Entry.{Entry}
use Rattle.frame_stack.specs.declared.frame.Frame.{Frame}
use Rattle.frame_stack.specs.Change.{changed}
use Rattle.frame_stack.specs.Counted.{AreCounted, AreCountedOn, IsCounted, frames_of}
use Rattle.frame_stack.specs.Frame.{instance_of, is_instance, is_list, level_of, opens_list, shape}
use Rattle.frame_stack.specs.Level.{instances}
use Rattle.frame_stack.proofs.Counting.{instance_counts, is_none, list_begins, no_list, none_counts, not_counted, others_stay}
use Rattle.frame_stack.proofs.Shaped.{told_by_shapes}

regrouped : (before : List Frame) (f : Frame) (fs : List Frame) → (before ++ f ∷ []) ++ fs ≡ before ++ (f ∷ fs)
regrouped before f fs = append_assoc before (f ∷ []) fs

pub pushed_on : (before : List Frame) (es : List Entry) (e : Entry) → AreCountedOn before es → IsCounted ((before ++ frames_of es) ++ e.frame ∷ []) e → AreCountedOn before (es ++ e ∷ [])
pushed_on before [] e h top = let P : List Frame → Type 0 = λ fs. IsCounted (fs ++ e.frame ∷ []) e in (subst P (append-nil before) top, tt)
pushed_on before (x ∷ es) e h top =
    let P : List Frame → Type 0 = λ fs. IsCounted (fs ++ e.frame ∷ []) e in
    (h.0, pushed_on (before ++ x.frame ∷ []) es e h.1 (subst P (sym (regrouped before x.frame (frames_of es))) top))

pub popped_on : (before : List Frame) (es : List Entry) (e : Entry) → AreCountedOn before (es ++ e ∷ []) → AreCountedOn before es
popped_on before [] e h = tt
popped_on before (x ∷ es) e h = (h.0, popped_on (before ++ x.frame ∷ []) es e h.1)

pub top_on : (before : List Frame) (es : List Entry) (e : Entry) → AreCountedOn before (es ++ e ∷ []) → IsCounted ((before ++ frames_of es) ++ e.frame ∷ []) e
top_on before [] e h = let P : List Frame → Type 0 = λ fs. IsCounted (fs ++ e.frame ∷ []) e in subst P (sym (append-nil before)) h.0
top_on before (x ∷ es) e h =
    let P : List Frame → Type 0 = λ fs. IsCounted (fs ++ e.frame ∷ []) e in
    subst P (regrouped before x.frame (frames_of es)) (top_on (before ++ x.frame ∷ []) es e h.1)

pub frames-push : (es : List Entry) (e : Entry) → frames_of (es ++ e ∷ []) ≡ frames_of es ++ e.frame ∷ []
frames-push es e = map-append (λ x. x.frame) es (e ∷ [])

pub outer_counted : (all outer : List Entry) (e : Entry) → all ≡ outer ++ e ∷ [] → AreCounted all → AreCounted outer
outer_counted all outer e same h = popped_on [] outer e (subst AreCounted same h)

pub top_counted : (all outer : List Entry) (e : Entry) → all ≡ outer ++ e ∷ [] → AreCounted all → IsCounted (frames_of all) e
top_counted all outer e same h =
    let P : List Frame → Type 0 = λ fs. IsCounted fs e in
    subst P (sym (ap frames_of same ∙ frames-push outer e)) (top_on [] outer e (subst AreCounted same h))

opens_at : (b : Bool) (e : Entry) (level : ℕ) → opens_list e.frame ≡ b → (opens_list e.frame ≡ true → e.below ≡ 0) → level < e.below → opens_list e.frame ≡ false
opens_at true e level is h lt = let z = h is in absurd (omega (arith, z))
opens_at false e level is h lt = is

-- a frame that is no instance of a level that may have some further out
pub passed : (all outer : List Entry) (e : Entry) (level : ℕ) → all ≡ outer ++ e ∷ [] → AreCounted all → level < e.below → is_instance level e.frame ≡ false
    → instances level (frames_of all) ≡ instances level (frames_of outer)
passed all outer e level same h lt other =
    ap (instances level) (ap frames_of same ∙ frames-push outer e)
    ∙ not_counted (frames_of outer) e.frame level (opens_at (opens_list e.frame) e level refl (top_counted all outer e same h).begun lt) other

is_level : (f : Frame) (level l : ℕ) → instance_of f ≡ Some level → is_instance l f ≡ true → level ≡ l
is_level f level l e h = eqb-true level l (sym (ap (λ o. option_map_or (λ m. nat_eq m l) o false) e) ∙ h)

contrary : {P : Type 0} (b : Bool) → b ≡ true → b ≡ false → P
contrary b t f = absurd (let e : true ≡ false = sym t ∙ f in cc)

pub instance_entry : (fs : List Frame) (f : Frame) (level n below above : ℕ) → instance_of f ≡ Some level → n ≡ instances level fs
    → ((l : ℕ) → below ≤ l → instances l fs ≡ 0) → below ≤ above → level < above
    → IsCounted (fs ++ f ∷ []) (record { frame = f; count = n + 1; below = above })
instance_entry fs f level n below above e is h le lt = record {
  counted = λ l here.
      let same = is_level f level l e here in
      let one = instance_counts fs f level e in
      let P : ℕ → Type 0 = λ m. n + 1 ≡ instances m (fs ++ f ∷ []) in
      subst P same (omega (arith, is, one));
  bounded = λ l over.
      let apart : l ≢ level = λ same. omega arith in
      others_stay fs f level l e apart ∙ h l (omega arith);
  begun = λ opens. contrary (opens_list f) opens (no_list (shape f) level e);
}

pub list_entry : (fs : List Frame) (f : Frame) → instance_of f ≡ None → opens_list f ≡ true → IsCounted (fs ++ f ∷ []) (record { frame = f; count = 0; below = 0 })
list_entry fs f e opens = record {
  counted = λ l here. contrary (is_instance l f) here (is_none f l e);
  bounded = λ l le. list_begins fs f l opens;
  begun = λ opens. refl;
}

pub other_entry : (fs : List Frame) (f : Frame) (below : ℕ) → instance_of f ≡ None → opens_list f ≡ false → ((l : ℕ) → below ≤ l → instances l fs ≡ 0)
    → IsCounted (fs ++ f ∷ []) (record { frame = f; count = 0; below = below })
other_entry fs f below e stays h = record {
  counted = λ l here. contrary (is_instance l f) here (is_none f l e);
  bounded = λ l le. none_counts fs f l e stays ∙ h l le;
  begun = λ opens. contrary (opens_list f) opens stays;
}

-- what entries tell but for what is in their frames
record Alike (e e' : Entry) : Type 0 where
  shapes : shape e.frame ≡ shape e'.frame
  counts : e.count ≡ e'.count
  belows : e.below ≡ e'.below

carried : (fs fs' : List Frame) (e e' : Entry) → map shape fs ≡ map shape fs' → Alike e e' → IsCounted fs e → IsCounted fs' e'
carried fs fs' e e' same alike h = record {
  counted = λ l here.
      sym alike.counts ∙ h.counted l (ap (λ s. option_map_or (λ m. nat_eq m l) (level_of s) false) alike.shapes ∙ here) ∙ told_by_shapes fs fs' l same;
  bounded = λ l le. sym (told_by_shapes fs fs' l same) ∙ h.bounded l (subst (λ n. n ≤ l) (sym alike.belows) le);
  begun = λ opens. sym alike.belows ∙ h.begun (ap is_list alike.shapes ∙ opens);
}

same_ends : (fs fs' : List Frame) (f f' : Frame) → map shape fs ≡ map shape fs' → shape f ≡ shape f' → map shape (fs ++ f ∷ []) ≡ map shape (fs' ++ f' ∷ [])
same_ends fs fs' f f' same e =
    map-append shape fs (f ∷ []) ∙ ap (λ ss. ss ++ shape f ∷ []) same ∙ ap (λ s. map shape fs' ++ s ∷ []) e ∙ sym (map-append shape fs' (f' ∷ []))

carried_on : (before before' : List Frame) (es : List Entry) → map shape before ≡ map shape before' → AreCountedOn before es → AreCountedOn before' es
carried_on before before' [] same h = tt
carried_on before before' (e ∷ es) same h =
    let ends = same_ends before before' e.frame e.frame same refl in (
      carried (before ++ e.frame ∷ []) (before' ++ e.frame ∷ []) e e ends (record { shapes = refl; counts = refl; belows = refl }) h.0,
      carried_on (before ++ e.frame ∷ []) (before' ++ e.frame ∷ []) es ends h.1,
    )

replaced_on : (before : List Frame) (es : List Entry) (place : ℕ) (e : Entry) (f : Frame) → slice_get es place ≡ Some e → shape f ≡ shape e.frame
    → AreCountedOn before es → AreCountedOn before (set es place (record e { frame = f }))
replaced_on before [] place e f at same h = cc
replaced_on before (x ∷ es) zero e f at same h =
    let is : x ≡ e = cc in
    let P : Entry → Type 0 = λ y. IsCounted (before ++ y.frame ∷ []) y × AreCountedOn (before ++ y.frame ∷ []) es in
    let g : IsCounted (before ++ e.frame ∷ []) e × AreCountedOn (before ++ e.frame ∷ []) es = subst P is h in
    let ends = same_ends before before e.frame f refl (sym same) in (
      carried (before ++ e.frame ∷ []) (before ++ f ∷ []) e (record e { frame = f }) ends (record { shapes = sym same; counts = refl; belows = refl }) g.0,
      carried_on (before ++ e.frame ∷ []) (before ++ f ∷ []) es ends g.1,
    )
replaced_on before (x ∷ es) (suc place) e f at same h = (h.0, replaced_on (before ++ x.frame ∷ []) es place e f at same h.1)

pub frames-set : (es : List Entry) (place : ℕ) (e : Entry) → frames_of (set es place e) ≡ set (frames_of es) place e.frame
frames-set [] place e = refl
frames-set (x ∷ es) zero e = refl
frames-set (x ∷ es) (suc place) e = ap (λ fs. x.frame ∷ fs) (frames-set es place e)

taken_on : (before : List Frame) (es : List Entry) (n : ℕ) → AreCountedOn before es → AreCountedOn before (take n es)
taken_on before [] zero h = tt
taken_on before [] (suc n) h = tt
taken_on before (e ∷ es) zero h = tt
taken_on before (e ∷ es) (suc n) h = (h.0, taken_on (before ++ e.frame ∷ []) es n h.1)

pub taken_counted : (es : List Entry) (n : ℕ) → AreCounted es → AreCounted (take n es)
taken_counted es n h = taken_on [] es n h

-- the entry at a place, as a write finds it
found : (es : List Entry) (place : ℕ) (e : Entry) (frames : List Frame) → frames_of es ≡ frames → place < length frames → e ≡ get_or es place e → slice_get es place ≡ Some e
found es place e frames same lt is =
    let lt' : place < length es = omega (arith, length-map es (λ (x : Entry). x.frame), ap length same) in
    slice_get-get_or es place e lt' ∙ ap Some (sym is)

pub frame_found : (es : List Entry) (place : ℕ) (e : Entry) (frames : List Frame) → frames_of es ≡ frames → place < length frames → e ≡ get_or es place e → slice_get frames place ≡ Some e.frame
frame_found es place e frames same lt is =
    ap (λ fs. slice_get fs place) (sym same) ∙ slice_get-map (λ x. x.frame) es place ∙ ap (option_map (λ x. x.frame)) (found es place e frames same lt is)

pub replaced_counted : (es : List Entry) (place : ℕ) (e : Entry) (f g : Frame) (frames : List Frame) → frames_of es ≡ frames → place < length frames → e ≡ get_or es place e
    → g ≡ f → ((old : Frame) → slice_get frames place ≡ Some old → shape f ≡ shape old)
    → AreCounted es → AreCounted (set es place (record e { frame = g }))
replaced_counted es place e f g frames same lt is put shapes h =
    replaced_on [] es place e g (found es place e frames same lt is)
    (ap shape put ∙ shapes e.frame (frame_found es place e frames same lt is)) h

-- a change of the frame at a place that keeps its shape

pub changed_counted : (f : Frame → Frame) → ((x : Frame) → shape (f x) ≡ shape x) → (es : List Entry) (place : ℕ) (e : Entry) (g : Frame) (frames : List Frame)
    → frames_of es ≡ frames → place < length frames → e ≡ get_or es place e → g ≡ f e.frame
    → AreCounted es → AreCounted (set es place (record e { frame = g }))
changed_counted f keeps es place e g frames same lt is put h =
    replaced_counted es place e (f e.frame) g frames same lt is put
    (λ old at. let there = frame_found es place e frames same lt is in let own : e.frame ≡ old = cc in keeps e.frame ∙ ap shape own) h

pub changed_frames : (f : Frame → Frame) → (es : List Entry) (place : ℕ) (e : Entry) (g : Frame) (frames : List Frame)
    → frames_of es ≡ frames → place < length frames → e ≡ get_or es place e → g ≡ f e.frame
    → frames_of (set es place (record e { frame = g })) ≡ changed f place frames
changed_frames f es place e g frames same lt is put =
    frames-set es place (record e { frame = g })
    ∙ ap (λ x. set (frames_of es) place x) put
    ∙ ap (λ fs. set fs place (f e.frame)) same
    ∙ sym (ap (λ o. option_map_or (λ x. slice_set frames place (f x)) o frames) (frame_found es place e frames same lt is))

-- one that may be refused, and then there is none
pub tried_counted : {T E : Type 0} → (r : Result T E) (f : Frame → Frame) → ((x : Frame) → shape (f x) ≡ shape x)
    → (es : List Entry) (place : ℕ) (e : Entry) (g : Frame) (frames : List Frame)
    → frames_of es ≡ frames → place < length frames → e ≡ get_or es place e → OnOk r (g ≡ f e.frame) → OnErr r (g ≡ e.frame)
    → AreCounted es → AreCounted (set es place (record e { frame = g }))
tried_counted (Ok x) f keeps es place e g frames same lt is done refused h = changed_counted f keeps es place e g frames same lt is done h
tried_counted (Err x) f keeps es place e g frames same lt is done refused h =
    changed_counted (λ y. y) (λ y. refl) es place e g frames same lt is refused h

pub on_ok : {T E P Q : Type 0} → (r : Result T E) → (P → Q) → OnOk r P → OnOk r Q
on_ok (Ok x) f p = f p
on_ok (Err x) f p = tt
