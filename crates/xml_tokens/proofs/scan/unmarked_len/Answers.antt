use Rattle.std.proofs.Common.{ℕ, ◌<◌, get_or, sym, subst}
use Rattle.xml_tokens.specs.inside.Resume.{IsUnmarked}
use Rattle.xml_tokens.proofs.OutsideLemmas.{outside-passed}
use Rattle.xml_tokens.proofs.scan.unmarked_len.Goals as goal

pub returns-in-None-clause-passed : goal.returns-in-None-clause-passed
returns-in-None-clause-passed c =
    subst (λ q. (i : ℕ) → i < c.outside_len.result → IsUnmarked q (get_or c.args.bytes.now i 0)) (sym c.in-None.is)
    (outside-passed c.args.bytes.now c.outside_len.result c.outside_len.ensures.value)
