-- What a sink is told.
use Rattle.std.specs.Prelude.{◌≡◌, List, [], ◌∷◌, ◌++◌, None, Result, IfErr, OnErr, OnOk, map}
use Rattle.stx_base.specs.declared.part.Part.{Part}
use Rattle.result_writer.specs.Target as writing
use Rattle.result_writer.specs.Target.{IsCause, Target, behind, first_fault, left_by}
use Rattle.result_writer.specs.declared.fault.WriteStop.{WriteStop}
use Rattle.template_machine.specs.Ending.{Note, Open, Put, Said}

-- a target with what is left behind all that was said
abbrev pub behind_all : Target → List Said → Target
behind_all t [] = t
behind_all t (Put p ∷ said) = behind_all (behind t p) said
behind_all t (Note text ∷ said) = behind_all t said
behind_all t (Open name ∷ said) = behind_all t said

-- A part is told to a sink: it is taken only where it has no fault, and where it isn't, nothing was said. A sink has a target, and may be
-- as an earlier one once it was told something.
pub record Takes {S A : Type 0} (output : S → Target) (told : S → S → List Said → Type 0) (part : Part) (result : Result A WriteStop) (old new : S) : Type 0 where
  pub taken : OnOk result (writing.fault (output old).limit (output old).left part ≡ None)
  pub refused : IfErr result (IsCause (writing.fault (output old).limit (output old).left part))
  pub said : OnOk result (told old new (Put part ∷ []))
  pub unsaid : OnErr result (told old new [])

abbrev pub all_put : List Part → List Said
all_put = map (λ p. Put p)

-- Parts are told to a sink one after another, up to the first that it doesn't take: those before it are taken.
pub record TakesInTurn {S A : Type 0} (output : S → Target) (told : S → S → List Said → Type 0) (parts : List Part) (result : Result A WriteStop) (old new : S) : Type 0 where
  pub taken : List Part
  pub rest : List Part
  pub whole : parts ≡ taken ++ rest
  pub allowed : first_fault (output old).limit (output old).left taken ≡ None
  pub said : told old new (all_put taken)
  pub all : OnOk result (rest ≡ [])
  pub refused : IfErr result (λ stop. (p : Part) × ((ps : List Part) × ((rest ≡ p ∷ ps) × IsCause (writing.fault (output old).limit (left_by (output old).left taken) p) stop)))
