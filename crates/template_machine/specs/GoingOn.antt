-- How what a run still does goes on.
use Rattle.std.specs.Prelude.{◌≡◌, ℕ, List, ◌∷◌, ◌++◌, Some, reverse, slice_get}
use Rattle.stx_base.specs.Course.{says}
use Rattle.frame_stack.specs.declared.frame.Frame.{Frame}
use Rattle.frame_stack.specs.declared.locals.Local.{Local}
use Rattle.frame_stack.specs.Change.{with_locals, with_pc}
use Rattle.frame_stack.specs.Stack.{FrameStack}
use Rattle.instr_code.specs.Code.{code_of}
use Rattle.instr_code.specs.Running.{go_on}
use Rattle.result_writer.specs.Target.{Left}
use Rattle.instr_code.specs.declared.code.Op.{Op}
use Rattle.instr_code.specs.declared.code.Op.TheVariants as op
use Rattle.var_store.specs.Copies.{Stored}
use Rattle.template_machine.specs.Bodies.{on_body, pc_in, pc_of}
use Rattle.template_machine.specs.Ending.{Said}
use Rattle.template_machine.specs.Job.{Given, Here}
use Rattle.template_machine.specs.Stepwise.{steps_of}
use Rattle.template_machine.specs.declared.program.Program.{Program}
use Rattle.template_machine.specs.declared.putting.Putting.{Putting}
use Rattle.template_machine.specs.declared.run.Doing.TheVariants as doing
use Rattle.template_machine.specs.declared.run.Run.{Run}
use Rattle.template_machine.specs.Still.{Goes, below_loops, operates, scene_by, state_of, working_in}

-- A jump in a body's code goes on with what the run still does.
abbrev pub JumpsGoOn : Type 0
JumpsGoOn =
    (given : Given) (p : Program) (r : Run) (frames : FrameStack) (pc to : ℕ)
    → r.doing ≡ doing.Body → reverse frames.frames ≡ on_body (with_pc to) (reverse r.frames.frames) → pc_in (reverse r.frames.frames) ≡ Some pc
    → slice_get (code_of given.sheet).ops pc ≡ Some (op.Jump to)
    → (left : Left) (said : List Said) → Goes given p r left said (record r { frames = frames }) left said

-- An operation of a body says something and goes on at another place of its code: so the run goes on that has the body's frame there, with
-- the locals, the loops and the state that are left.
abbrev pub OperationsGoOn : Type 0
OperationsGoOn =
    (given : Given) (p : Program) (r : Run) (frames : FrameStack) (store : Stored) (putting : Putting) (units : ℕ)
    (b : Frame) (fs : List Frame) (pc to : ℕ) (o : Op) (locals : List Local) (turns turns_now : List ℕ) (left left_now : Left) (said more : List Said)
    → let s = record r { frames = frames; store = store; putting = putting; fuel = units } in
    let moved = with_locals (λ l. locals) (with_pc to b) in
    let c = scene_by given p r.source.ahead r in
    r.doing ≡ doing.Body → reverse r.frames.frames ≡ below_loops turns (b ∷ fs) → reverse frames.frames ≡ below_loops turns_now (moved ∷ fs)
    → pc_of b ≡ Some pc → slice_get (code_of given.sheet).ops pc ≡ Some o
    → ((a : Here) → a.state ≡ state_of given p r left
    → operates given p o pc (working_in given p turns b fs c a)
    ≡ says more (go_on (steps_of given) to (working_in given p turns_now moved fs c (record a { state = state_of given p s left_now }))))
    → Goes given p r left said s left_now (said ++ more)
