-- The current node is processed once more for a body of it, which asked for that.
use Rattle.std.proofs.Common.{◌≡◌, ℕ, suc, ◌<◌, Bool, true, false, ◌∷◌, ◌++◌, [], length, reverse, Some, refl, ap, sym, subst, ◌∙◌}
use Rattle.std.specs.List.{slice_get}
use Rattle.std.specs.Option.{option_and_then}
use Rattle.std.proofs.lemmas.List.{reverse-append}
use Rattle.frame_stack.specs.Stack.{FrameStack, with_frames}
use Rattle.frame_stack.specs.declared.frame.Frame.TheVariants.{Pass}
use Rattle.node_stack.specs.Path.{can_have_children, current}
use Rattle.node_stack.specs.Stack.{path}
use Rattle.template_machine.specs.Asking.{AsksOn}
use Rattle.template_machine.specs.Bodies.{all_spent, body_in, level_in, level_of, pc_in, spent_in}
use Rattle.template_machine.specs.Programs.{link_at}
use Rattle.template_machine.specs.Standing.{known_now, rooms_of, standing_of}
use Rattle.template_machine.specs.Moments.{StandsAsBefore}
use Rattle.template_machine.specs.Well.{BodyWaits, IsWaiting, IsWell}
use Rattle.template_machine.specs.Working.{Awaits}
use Rattle.template_machine.specs.declared.program.Link.{Link}
use Rattle.template_machine.specs.declared.program.Program.{Program}
use Rattle.template_machine.specs.declared.putting.Putting.{Putting}
use Rattle.template_machine.specs.declared.run.Asker.TheVariants as asker
use Rattle.template_machine.specs.declared.run.Doing.TheVariants as doing
use Rattle.template_machine.specs.declared.run.Run.{Run}
use Rattle.template_machine.proofs.Based.{are_based}
use Rattle.template_machine.proofs.Beside.{level_found, list_by}
use Rattle.template_machine.proofs.Calling.{level_here}
use Rattle.template_machine.proofs.Entered.{asking_itself}
use Rattle.template_machine.proofs.Going.{SameBut, same_standing, same_steady}
use Rattle.template_machine.proofs.Handing.{lists_on, tell_spent}
use Rattle.template_machine.proofs.Operating.{waits_for}
use Rattle.template_machine.proofs.Passes.{pass_again}

-- its base group
pub again_based : (p : Program) (r : Run) (asked body : ℕ) → Awaits p r asked body → (l : Link) × ((link_at p asked ≡ Some l) × (l.base < length p.sheet.groups))
again_based p r asked body h = are_based p r h.waits.steady asked (waits_for p r (suc asked) h.waits h.pc)

one_link : {a b : Link} → Some a ≡ Some b → a ≡ b
one_link e = cc

pub again_base : (p : Program) (r : Run) (asked body : ℕ) (l : Link) → Awaits p r asked body → link_at p asked ≡ Some l → l.base < length p.sheet.groups
again_base p r asked body l h is =
    let b = again_based p r asked body h in subst (λ (x : Link). x.base < length p.sheet.groups) (one_link (sym b.1.0 ∙ is)) b.1.1

-- the body itself asked
pub again_asks : (p : Program) (r : Run) (asked body : ℕ) → Awaits p r asked body → AsksOn (asker.Instr asked body) (reverse r.frames.frames)
again_asks p r asked body h =
    let fs = reverse r.frames.frames in
    subst (λ l. (body_in l ≡ Some body) × (pc_in l ≡ Some (suc asked))) (sym (asking_itself fs h.waits.waits.body)) (h.place, h.pc)

-- parts are put
pub waiting_put : (p : Program) (r m : Run) (new : Putting) → m ≡ record r { putting = new } → StandsAsBefore r.putting new → IsWaiting p r → IsWaiting p m
waiting_put p r m new is stands w =
    let n = record r { putting = new } in
    let but : SameBut r n = record { outer = refl; aside = refl; store = refl; putting = stands } in
    subst (IsWaiting p) (sym is)
    (record {
      steady = same_steady p r n w.steady but w.steady.source w.steady.within;
      stations = w.stations;
      stand = w.stand;
      apart = w.apart;
      waits = subst (λ s. BodyWaits p w.stations (reverse r.frames.frames) s (known_now r)) (sym (same_standing r n (standing_of r).source but refl)) w.waits;
    })

-- and its children are processed
pub again_passes : (p : Program) (r m n : Run) (asked body base level : ℕ) (spent : Bool) (frames : FrameStack) → Awaits p r asked body → IsWaiting p m
    → m ≡ record r { putting = m.putting } → option_and_then level_of (slice_get r.frames.frames body) ≡ Some level
    → spent_in (reverse r.frames.frames) ≡ Some spent → spent ≡ false → can_have_children (current (path m.source.stack)) ≡ true → base < length p.sheet.groups
    → reverse frames.frames ≡ all_spent level (reverse m.frames.frames)
    → n ≡ record m { frames = with_frames (frames.frames ++ Pass base level true ∷ []) frames } → IsWell p (record n { doing = doing.List })
again_passes p r m n asked body base level spent frames h w put at left unspent has there same pushed =
    let fs = reverse m.frames.frames in
    let s = standing_of m in
    let own : level_in fs ≡ Some level = ap (λ (y : Run). level_in (reverse y.frames.frames)) put ∙ level_found p r asked body level h at in
    let open_still : spent_in fs ≡ Some false = ap (λ (y : Run). spent_in (reverse y.frames.frames)) put ∙ left ∙ ap (λ b. Some b) unspent in
    let number = level_here p w.stations 0 true fs s level own w.waits.well in
    let list = pass_again p w.stations fs s base level (known_now m) w.waits there number own (list_by m has) open_still in
    let more = with_frames (frames.frames ++ Pass base level true ∷ []) frames in
    let top : reverse more.frames ≡ Pass base level true ∷ all_spent level fs = reverse-append frames.frames (Pass base level true ∷ []) ∙ ap (λ l. Pass base level true ∷ l) same in
    subst (λ (y : Run). IsWell p (record y { doing = doing.List })) (sym pushed)
    (lists_on p m w more (Pass base level true ∷ all_spent level fs) top list (tell_spent level fs (rooms_of m) s.shelves w.steady.within))
