-- How a run of the main document goes on, whatever is to come.
use Rattle.std.specs.Prelude.{◌≡◌, List, [], OnOk, Result, Ok, reverse}
use Rattle.result_writer.specs.Target.{Left, Target, nothing}
use Rattle.stx_base.specs.Course.{Halt, Same, says}
use Rattle.xml_events.specs.Tree.{Forest, Future}
use Rattle.template_machine.specs.Behind.{StepsFrom}
use Rattle.template_machine.specs.Between.{IsOf}
use Rattle.template_machine.specs.Commands.{HasParams}
use Rattle.template_machine.specs.Ending.{Said}
use Rattle.template_machine.specs.Giving.{Turned, document_of, params_of, whole}
use Rattle.template_machine.specs.Job.{Given}
use Rattle.template_machine.specs.Meaning.{ending_of}
use Rattle.template_machine.specs.Ordinary.{IsAlone}
use Rattle.template_machine.specs.Outcome.{AreNew}
use Rattle.template_machine.specs.Programs.{IsProgramOf}
use Rattle.template_machine.specs.Saying.{Proceeds}
use Rattle.template_machine.specs.Still.{still}
use Rattle.template_machine.specs.Stepwise.{Flat_does, flat_code}
use Rattle.template_machine.specs.declared.machine.Machine.{Machine}
use Rattle.template_machine.specs.declared.program.Program.{Program}
use Rattle.template_machine.specs.declared.run.Run.{Run}
use Rattle.template_machine.specs.declared.run.Step.{Step}
use Rattle.template_machine.specs.declared.run.Step.TheVariants as step
use Rattle.template_machine.specs.declared.stop.Stop.{Stop}
use Rattle.template_machine.specs.declared.turn.Turn.{Turn}
use Rattle.template_machine.specs.declared.turn.Turn.TheVariants as turn

-- A step of a run that has taken the nodes of the main document alone.
abbrev pub StepsOn : {S : Type 0} → (output : S → Target) → (told : S → S → List Said → Type 0) → Program → Result Step Stop → (old new : Run) → (out out_now : S) → Type 0
StepsOn output told p result old new out out_now = StepsFrom output told p (λ given left f. still given p old left f) result new out out_now

-- So far it has come.
pub record ComesTo {S : Type 0} (output : S → Target) (told : S → S → List Said → Type 0) (p : Program) (old new : Run) (out out_now : S) : Type 0 where
  pub said : List Said
  pub tells : told out out_now said
  pub alone : IsAlone p new
  pub does :
      (given : Given) → AreNew given → IsProgramOf given.sheet given.limits p → HasParams p given → (output out).limit ≡ given.limits.elements → (f : Future)
      → Same (flat_code given) (still given p old (output out).left f) (says said (still given p new (output out_now).left f))

-- It goes on until it answers.
pub record GoesOnTo {S : Type 0} (output : S → Target) (told : S → S → List Said → Type 0) (p : Program) (t : Turn) (old new : Run) (out out_now : S) : Type 0 where
  pub said : List Said
  pub tells : told out out_now said
  pub alone : t ≡ turn.More → IsAlone p new
  pub does :
      (given : Given) → AreNew given → IsProgramOf given.sheet given.limits p → HasParams p given → (output out).limit ≡ given.limits.elements → (f : Future)
      → Turned given t (still given p old (output out).left f) said (still given p new (output out_now).left f)

-- the output ends, where parts leave this of it
abbrev pub EndsWith : Program → Left → Turn → Type 0
EndsWith p left t =
    (given : Given) → IsProgramOf given.sheet given.limits p → (follows : Flat_does) → Turned given t (Halt (ending_of given left)) [] follows

-- A machine's run begins with a step: whatever the document is, that is how a run of the sheet on it begins.
pub record StartsWith {S : Type 0} (output : S → Target) (told : S → S → List Said → Type 0) (m : Machine) (result : Result Step Stop) (new : Run) (out out_now : S) : Type 0 where
  pub said : List Said
  pub tells : told out out_now said
  pub alone : OnOk result (IsAlone m.program new)
  pub over : result ≡ Ok step.Over → reverse new.frames.frames ≡ []
  pub does :
      (given : Given) → AreNew given → IsOf given.sheet given.limits m → given.params ≡ params_of m → (output out).limit ≡ given.limits.elements
      → (output out).left ≡ nothing → (tree : Forest)
      → Proceeds given m.program result (whole given tree) said (still given m.program new (output out_now).left (document_of tree))
