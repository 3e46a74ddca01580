use Rattle.stx_engine.proofs.Meant.{passes-as-meant}
use Rattle.stx_engine.proofs.passed.meant.Goals as goal

pub returns : goal.returns
returns c = passes-as-meant c.without_templates.ensures.passed
