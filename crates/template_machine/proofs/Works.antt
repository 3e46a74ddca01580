-- What falls with each step.
use Rattle.std.proofs.Common.{◌≡◌, ℕ, zero, suc, ◌+◌, ◌*◌, ◌<◌, ◌≤◌, ◌^◌, List, [], ◌∷◌, ◌++◌, length, reverse, Option, Some, None, refl, ap, sym, ◌∙◌, arith}
use Rattle.std.specs.List.{slice_get, slice_set}
use Rattle.std.specs.Option.{option_map_or}
use Rattle.std.proofs.lemmas.List.{reverse-append}
use Rattle.frame_stack.specs.Change.{changed}
use Rattle.frame_stack.specs.declared.frame.Frame.{Frame}
use Rattle.template_machine.specs.Bodies.{pc_in}
use Rattle.template_machine.specs.Work.{Means, Sheds, Spends, burden, frame_work, frames_work, free, load, place_work, waits_work, work}
use Rattle.template_machine.specs.declared.program.Program.{Program}
use Rattle.template_machine.specs.declared.run.Doing.{Doing}
use Rattle.template_machine.specs.declared.run.Doing.TheVariants as doing
use Rattle.template_machine.specs.declared.run.Run.{Run}
use Rattle.template_machine.specs.declared.source.Ahead.{Ahead}
use Rattle.template_machine.specs.declared.source.Ahead.TheVariants as ahead
use Rattle.template_machine.proofs.Freely.{free_few}

pub waits_few : (d : Doing) (a : Ahead) → waits_work d a ≤ 2
waits_few doing.Body ahead.Nothing = omega arith
waits_few doing.Body ahead.Here = omega arith
waits_few doing.Body ahead.Held = omega arith
waits_few doing.Body ahead.Ended = omega arith
waits_few doing.List ahead.Nothing = omega arith
waits_few doing.List ahead.Here = omega arith
waits_few doing.List ahead.Held = omega arith
waits_few doing.List ahead.Ended = omega arith

place_few : (p : Program) (d : Doing) (fs : List Frame) → place_work p d fs ≤ length p.code.ops
place_few p doing.Body fs = by (pc_in fs)
  where
    by : (o : Option ℕ) → option_map_or (free p.code (length p.code.ops)) o 0 ≤ length p.code.ops
    by None = omega arith
    by (Some pc) = free_few p.code (length p.code.ops) pc
place_few p doing.List fs = omega arith

-- by how much work falls
paid : (P fuel fuels load loads waits wait place places : ℕ) → P < 2 ^ 33 → place ≤ P → wait ≤ 2 → fuel + 1 ≤ fuels → load ≤ loads + 2 ^ 68
    → 2 ^ 110 * fuel + 2 ^ 33 * (load + wait) + place < 2 ^ 110 * fuels + 2 ^ 33 * (loads + waits) + places
paid P fuel fuels load loads waits wait place places small few two less grows = omega (arith, small, few, two, less, grows)

lighter : (P fuel fuels burden burdens place places : ℕ) → P < 2 ^ 33 → place ≤ P → fuel ≡ fuels → burden + 1 ≤ burdens
    → 2 ^ 110 * fuel + 2 ^ 33 * burden + place < 2 ^ 110 * fuels + 2 ^ 33 * burdens + places
lighter P fuel fuels burden burdens place places small few same less = omega (arith, small, few, same, less)

-- where a unit of fuel is spent
pub spends_falls : (p : Program) (old new : Run) → length p.code.ops < 2 ^ 32 → Spends old new → work p new < work p old
spends_falls p old new small s =
    paid (length p.code.ops) new.fuel old.fuel (load new) (load old) (waits_work old.doing old.source.ahead) (waits_work new.doing new.source.ahead)
    (place_work p new.doing (reverse new.frames.frames)) (place_work p old.doing (reverse old.frames.frames)) (omega (arith, small))
    (place_few p new.doing (reverse new.frames.frames)) (waits_few new.doing new.source.ahead) (omega (arith, s.fuel)) s.load

-- and where none is, and less waits
pub less_falls : (p : Program) (old new : Run) → length p.code.ops < 2 ^ 32 → new.fuel ≡ old.fuel → burden new + 1 ≤ burden old → work p new < work p old
less_falls p old new small same less =
    lighter (length p.code.ops) new.fuel old.fuel (burden new) (burden old) (place_work p new.doing (reverse new.frames.frames))
    (place_work p old.doing (reverse old.frames.frames)) (omega (arith, small)) (place_few p new.doing (reverse new.frames.frames)) same less

pub sheds_falls : (p : Program) (old new : Run) → length p.code.ops < 2 ^ 32 → Sheds 1 old new → work p new < work p old
sheds_falls p old new small s = less_falls p old new small (ap (λ (m : Means). m.fuel) s.means) (omega (arith, s.load))

-- an operation that costs nothing
pub goes_falls : (p : Program) (old new : Run) (place to : ℕ) → old.doing ≡ doing.Body → new.doing ≡ doing.Body → new.source.ahead ≡ old.source.ahead → new.fuel ≡ old.fuel
    → load new ≡ load old → pc_in (reverse old.frames.frames) ≡ Some place → pc_in (reverse new.frames.frames) ≡ Some to
    → free p.code (length p.code.ops) to < free p.code (length p.code.ops) place → work p new < work p old
goes_falls p old new place to was is ahead fuel waits before behind less =
    let old_place : place_work p old.doing (reverse old.frames.frames) ≡ free p.code (length p.code.ops) place =
    ap (λ d. place_work p d (reverse old.frames.frames)) was ∙ ap (λ o. option_map_or (free p.code (length p.code.ops)) o 0) before in
    let new_place : place_work p new.doing (reverse new.frames.frames) ≡ free p.code (length p.code.ops) to =
    ap (λ d. place_work p d (reverse new.frames.frames)) is ∙ ap (λ o. option_map_or (free p.code (length p.code.ops)) o 0) behind in
    let same : waits_work new.doing new.source.ahead ≡ waits_work old.doing old.source.ahead =
    ap (λ d. waits_work d new.source.ahead) (is ∙ sym was) ∙ ap (λ a. waits_work old.doing a) ahead in
    omega (arith, old_place, new_place, same, fuel, waits, less)

-- Frames.

pub work_append : (fs gs : List Frame) → frames_work (fs ++ gs) ≡ frames_work fs + frames_work gs
work_append [] gs = omega arith
work_append (f ∷ fs) gs = omega (arith, work_append fs gs)

work_reversed : (fs : List Frame) → frames_work (reverse fs) ≡ frames_work fs
work_reversed [] = refl
work_reversed (f ∷ fs) =
    let turned : frames_work (reverse (f ∷ fs)) ≡ frames_work (reverse fs ++ f ∷ []) = ap frames_work (reverse-append (f ∷ []) fs) in
    omega (arith, turned, work_append (reverse fs) (f ∷ []), work_reversed fs)

-- one more on top
pub work_pushed : (fs : List Frame) (f : Frame) → frames_work (reverse (fs ++ f ∷ [])) ≡ frame_work f + frames_work (reverse fs)
work_pushed fs f = ap frames_work (reverse-append fs (f ∷ []))

-- others in their places, which weigh as much
work_set : (fs : List Frame) (k : ℕ) (x y : Frame) → slice_get fs k ≡ Some x → frame_work y ≡ frame_work x → frames_work (slice_set fs k y) ≡ frames_work fs
work_set [] k x y is same = refl
work_set (f ∷ fs) zero x y is same = let one : f ≡ x = cc in omega (arith, same, ap frame_work one)
work_set (f ∷ fs) (suc k) x y is same = omega (arith, work_set fs k x y is same)

pub work_changed : (g : Frame → Frame) → ((f : Frame) → frame_work (g f) ≡ frame_work f) → (k : ℕ) (fs : List Frame)
    → frames_work (reverse (changed g k fs)) ≡ frames_work (reverse fs)
work_changed g same k fs = work_reversed (changed g k fs) ∙ by (slice_get fs k) refl ∙ sym (work_reversed fs)
  where
    by : (o : Option Frame) → slice_get fs k ≡ o → frames_work (option_map_or (λ f. slice_set fs k (g f)) o fs) ≡ frames_work fs
    by None e = refl
    by (Some x) e = work_set fs k x (g x) e (same x)
