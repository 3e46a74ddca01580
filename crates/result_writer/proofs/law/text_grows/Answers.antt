use Rattle.result_writer.specs.Target.{nothing}
use Rattle.result_writer.proofs.Texts.{text_from-append}
use Rattle.result_writer.proofs.law.text_grows.Goals as goal

pub returns : goal.returns
returns c = λ ps qs. text_from-append nothing ps qs
