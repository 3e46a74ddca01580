use Rattle.stx_engine.proofs.Passes.{Laws, runs-as-meant}
use Rattle.stx_engine.proofs.passed.runs.Goals as goal

pub returns : goal.returns
returns c =
    let laws : Laws = record {
      as_meant = c.meant.ensures;
      have = c.one_meaning.ensures.some;
      is_outcome = c.one_meaning.ensures.function;
      one = c.one_meaning.ensures.one;
      taken = c.documents.ensures.taken;
      says = c.meant-2.ensures.says;
      keeps = c.meant-2.ensures.keeps;
    } in
    runs-as-meant laws c.pieces.ensures.joined
