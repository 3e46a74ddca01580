use Rattle.sheet_loader.proofs.DocumentWeights.{document_weighs}
use Rattle.sheet_loader.proofs.SheetEntries.{given_few}
use Rattle.sheet_loader.proofs.law.weighing.Goals as goal

pub returns-clause-sheets : goal.returns-clause-sheets
returns-clause-sheets c = given_few

pub returns-clause-documents : goal.returns-clause-documents
returns-clause-documents c = document_weighs
