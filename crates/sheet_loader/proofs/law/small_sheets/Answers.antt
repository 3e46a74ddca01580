use Rattle.std.proofs.Common.{refl}
use Rattle.sheet_loader.proofs.law.small_sheets.Goals as goal

pub returns-clause-empty : goal.returns-clause-empty
returns-clause-empty c = λ reads. refl

pub returns-clause-no_transform : goal.returns-clause-no_transform
returns-clause-no_transform c = λ reads. refl

pub returns-clause-no_element : goal.returns-clause-no_element
returns-clause-no_element c = λ reads. refl

pub returns-clause-out_of_place : goal.returns-clause-out_of_place
returns-clause-out_of_place c = λ reads. refl

pub returns-clause-text_out_of_place : goal.returns-clause-text_out_of_place
returns-clause-text_out_of_place c = λ reads. refl

pub returns-clause-space_in_place : goal.returns-clause-space_in_place
returns-clause-space_in_place c = λ reads. refl

pub returns-clause-unknown_before_missing : goal.returns-clause-unknown_before_missing
returns-clause-unknown_before_missing c = λ reads. refl

pub returns-clause-missing : goal.returns-clause-missing
returns-clause-missing c = λ reads. refl

pub returns-clause-no_name : goal.returns-clause-no_name
returns-clause-no_name c = λ reads. refl

pub returns-clause-other_version : goal.returns-clause-other_version
returns-clause-other_version c = λ reads. refl

pub returns-clause-kinds : goal.returns-clause-kinds
returns-clause-kinds c = (λ reads. refl, λ reads. refl, λ reads. refl)

pub returns-clause-sections : goal.returns-clause-sections
returns-clause-sections c = (λ reads. refl, λ reads. refl)

pub returns-clause-again : goal.returns-clause-again
returns-clause-again c = (λ reads. refl, λ reads. refl)

pub returns-clause-no_branch : goal.returns-clause-no_branch
returns-clause-no_branch c = (λ reads. refl, λ reads. refl)

pub returns-clause-lost : goal.returns-clause-lost
returns-clause-lost c = (λ reads. refl, λ reads. refl, λ reads. refl)

pub returns-clause-includes : goal.returns-clause-includes
returns-clause-includes c = (λ reads. refl, λ reads. refl, λ reads. refl)

pub returns-clause-included : goal.returns-clause-included
returns-clause-included c = (λ reads. refl, λ reads. refl)

pub returns-clause-waits : goal.returns-clause-waits
returns-clause-waits c = λ reads. refl
