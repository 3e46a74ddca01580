-- Changes that keep a frame's shape.
use Rattle.std.proofs.Common.{◌≡◌, ℕ, Bool, List, refl}
use Rattle.frame_stack.specs.Change.{with_depth, with_locals, with_next, with_pc, with_spent, with_turn}
use Rattle.frame_stack.specs.Frame.{shape}
use Rattle.frame_stack.specs.declared.frame.Frame.{Frame}
use Rattle.frame_stack.specs.declared.frame.Frame.TheVariants.{Body, Call, Attributes, Loop, Region, Source, Skip, Pass}
use Rattle.frame_stack.specs.declared.locals.Local.{Local}

pub keeps_pc : (n : ℕ) (x : Frame) → shape (with_pc n x) ≡ shape x
keeps_pc n (Body template alternative pc locals level spent) = refl
keeps_pc n (Call procedure pc locals level) = refl
keeps_pc n (Attributes next asked) = refl
keeps_pc n (Loop turn) = refl
keeps_pc n (Region asked level) = refl
keeps_pc n (Source buffer next asked) = refl
keeps_pc n (Skip depth) = refl
keeps_pc n (Pass base level spent) = refl

pub keeps_spent : (b : Bool) (x : Frame) → shape (with_spent b x) ≡ shape x
keeps_spent b (Body template alternative pc locals level spent) = refl
keeps_spent b (Call procedure pc locals level) = refl
keeps_spent b (Attributes next asked) = refl
keeps_spent b (Loop turn) = refl
keeps_spent b (Region asked level) = refl
keeps_spent b (Source buffer next asked) = refl
keeps_spent b (Skip depth) = refl
keeps_spent b (Pass base level spent) = refl

pub keeps_turn : (n : ℕ) (x : Frame) → shape (with_turn n x) ≡ shape x
keeps_turn n (Body template alternative pc locals level spent) = refl
keeps_turn n (Call procedure pc locals level) = refl
keeps_turn n (Attributes next asked) = refl
keeps_turn n (Loop turn) = refl
keeps_turn n (Region asked level) = refl
keeps_turn n (Source buffer next asked) = refl
keeps_turn n (Skip depth) = refl
keeps_turn n (Pass base level spent) = refl

pub keeps_next : (n : ℕ) (x : Frame) → shape (with_next n x) ≡ shape x
keeps_next n (Body template alternative pc locals level spent) = refl
keeps_next n (Call procedure pc locals level) = refl
keeps_next n (Attributes next asked) = refl
keeps_next n (Loop turn) = refl
keeps_next n (Region asked level) = refl
keeps_next n (Source buffer next asked) = refl
keeps_next n (Skip depth) = refl
keeps_next n (Pass base level spent) = refl

pub keeps_depth : (n : ℕ) (x : Frame) → shape (with_depth n x) ≡ shape x
keeps_depth n (Body template alternative pc locals level spent) = refl
keeps_depth n (Call procedure pc locals level) = refl
keeps_depth n (Attributes next asked) = refl
keeps_depth n (Loop turn) = refl
keeps_depth n (Region asked level) = refl
keeps_depth n (Source buffer next asked) = refl
keeps_depth n (Skip depth) = refl
keeps_depth n (Pass base level spent) = refl

pub keeps_locals : (f : List Local → List Local) (x : Frame) → shape (with_locals f x) ≡ shape x
keeps_locals f (Body template alternative pc locals level spent) = refl
keeps_locals f (Call procedure pc locals level) = refl
keeps_locals f (Attributes next asked) = refl
keeps_locals f (Loop turn) = refl
keeps_locals f (Region asked level) = refl
keeps_locals f (Source buffer next asked) = refl
keeps_locals f (Skip depth) = refl
keeps_locals f (Pass base level spent) = refl
