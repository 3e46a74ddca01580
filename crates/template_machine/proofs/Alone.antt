-- A run takes the nodes of the main document in order, and goes on so.
use Rattle.std.proofs.Common.{◌≡◌, ◌≤◌, ℕ, ◌+◌, Bool, true, false, List, [], ◌∷◌, ◌++◌, reverse, Some, IsSome, Ok, ap, sym, subst, ◌∙◌}
use Rattle.std.specs.Prelude.{if◌then◌else◌}
use Rattle.frame_stack.specs.declared.frame.Frame.{Frame}
use Rattle.frame_stack.specs.declared.frame.Frame.TheVariants.{Skip}
use Rattle.frame_stack.specs.Change.{with_locals, with_pc}
use Rattle.instr_code.specs.declared.code.Op.TheVariants as op
use Rattle.node_stack.specs.Path.{PathNode, can_have_children, is_attribute}
use Rattle.sheet_model.specs.declared.instr.Instr.{Instr}
use Rattle.stx_base.specs.declared.fault.Place.{Place}
use Rattle.template_machine.specs.Bodies.{level_in, pc_in, skipped_in, spent_in}
use Rattle.template_machine.specs.Moments.{IsAtOp}
use Rattle.template_machine.specs.Ordinary.{AreUntouched, IsAlone, spent_of}
use Rattle.template_machine.specs.Shifting.{Hands}
use Rattle.template_machine.specs.Sources.{held_node}
use Rattle.template_machine.specs.Still.{nodes_of}
use Rattle.template_machine.specs.Well.{IsWaiting}
use Rattle.template_machine.specs.Working.{Awaits}
use Rattle.template_machine.specs.declared.program.Program.{Program}
use Rattle.template_machine.specs.declared.run.Run.{Run}
use Rattle.template_machine.specs.declared.run.Running.{Running}
use Rattle.template_machine.proofs.Children.{no_attribute}
use Rattle.template_machine.proofs.Moving.{moves_locals}
use Rattle.template_machine.proofs.Untouched.{IsUntouched, own_spent, untouched_moved, untouched_to}

-- of the node of a body that waits no child was counted, unless they are gone
of_body : (fs : List Frame) (ns : List PathNode) → IsSome (level_in fs) → AreUntouched fs ns → spent_in fs ≡ Some false → (x : PathNode) (xs : List PathNode) → ns ≡ x ∷ xs
    → can_have_children (Some x.node) ≡ true → x.children.passing ≡ (λ t. 0)
of_body fs [] some h unspent x xs is kids = absurd (cc)
of_body fs (y ∷ ys) some h unspent x xs is kids =
    let same : y ≡ x = first_same is in
    let node : is_attribute (Some y.node) ≡ false = ap (λ (z : PathNode). is_attribute (Some z.node)) same ∙ no_attribute (Some x.node) kids in
    h (ap (λ a. spent_of a fs) node ∙ own_spent fs some ∙ unspent) x xs (ap (λ (b : Bool). if b then ys else y ∷ ys) node ∙ is) kids
  where
    first_same : {a b : PathNode} {us vs : List PathNode} → a ∷ us ≡ b ∷ vs → a ≡ b
    first_same e = cc

pub body_untouched : (p : Program) (r : Run) → IsWaiting p r → IsAlone p r → IsUntouched r
body_untouched p r waits alone = of_body (reverse r.frames.frames) (nodes_of r.source) waits.waits.body alone.untouched

-- It waits behind the values that it handed.
pub handed_alone : {A : Type 0} (p : Program) (r m : Run) (running : Running) (n : ℕ) (i : Instr) (spot : Place) (done : A) {asked body : ℕ} → IsAtOp p r running (op.Do n)
    → Hands p i spot running.pc (Ok done) r m → IsAlone p r → Awaits p m asked body → IsAlone p m
handed_alone p r m running n i spot done at h alone waits = record {
  origin = ap (λ (x : Run). x.source.origin) h.rest ∙ alone.origin;
  outer = ap (λ (x : Run). x.outer.items) h.rest ∙ alone.outer;
  aside = ap (λ (x : Run). x.aside.items) h.rest ∙ alone.aside;
  held = ap (λ (x : Run). held_node x.source) h.rest ∙ alone.held;
  counted = λ e. absurd (waits.waits.apart e);
  whole = λ e depth skipped. absurd (skips_none (reverse m.frames.frames) depth waits.pc skipped);
  untouched =
      untouched_to _ (reverse m.frames.frames) (nodes_of r.source) (nodes_of m.source) (sym h.behind) (sym (ap (λ (x : Run). nodes_of x.source) h.rest))
      (untouched_moved (λ f. with_locals (λ ls. ls ++ h.waiting) (with_pc (running.pc + 1) f)) (λ o. running.pc + 1) (λ ls. ls ++ h.waiting) (moves_locals (running.pc + 1) (λ ls. ls ++ h.waiting))
      (reverse r.frames.frames) (nodes_of r.source) running.pc at.pc alone.untouched);
  fuel = subst (λ u. u ≤ p.limits.fuel) (sym (ap (λ (x : Run). x.fuel) h.rest)) alone.fuel;
}
  where
    skips_none : (fs : List Frame) (depth : ℕ) {pc : ℕ} → pc_in fs ≡ Some pc → skipped_in fs ≡ Some depth → ⊥
    skips_none [] depth here skipped = cc
    skips_none (Skip d ∷ fs) depth here skipped = cc
    skips_none (f ∷ fs) depth here skipped = cc
