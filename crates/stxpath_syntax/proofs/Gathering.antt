-- What is taken off the stack.
use Rattle.std.proofs.Common.{◌≡◌, ℕ, true, false, List, [], ◌∷◌, sym, ◌∙◌, refl, ap}
use Rattle.stxpath_syntax.specs.declared.expr.Expr.{Expr}
use Rattle.stxpath_syntax.specs.declared.meant.Meant.{Meant}
use Rattle.stxpath_syntax.specs.declared.state.Frame.{Frame}
use Rattle.stxpath_syntax.specs.Machine.{binds, top_binds, reduced, gathered}

pub gathered_bound : (least : ℕ) (frame : Frame) (frames : List Frame) (last : Meant Expr) → binds least frame ≡ true
    → gathered least (frame ∷ frames) last ≡ gathered least frames (reduced frame last)
unfolding gathered
gathered_bound least frame frames last b = rw b

pub gathered_loose : (least : ℕ) (frame : Frame) (frames : List Frame) (last : Meant Expr) → binds least frame ≡ false
    → gathered least (frame ∷ frames) last ≡ (frame ∷ frames, last)
unfolding gathered
gathered_loose least frame frames last b = rw b

pub gathered_end : (least : ℕ) (frames : List Frame) (last : Meant Expr) → top_binds least frames ≡ false → gathered least frames last ≡ (frames, last)
unfolding gathered
gathered_end least [] last b = refl
gathered_end least (frame ∷ frames) last b = rw b

pub gathered_step : (least : ℕ) (stack frames : List Frame) (frame : Frame) (last next : Meant Expr) → stack ≡ frame ∷ frames
    → top_binds least stack ≡ true → next ≡ reduced frame last → gathered least stack last ≡ gathered least frames next
gathered_step least stack frames frame last next e b n =
    let b' : binds least frame ≡ true = sym (ap (top_binds least) e) ∙ b in
    ap (λ s. gathered least s last) e ∙ gathered_bound least frame frames last b' ∙ ap (gathered least frames) (sym n)
