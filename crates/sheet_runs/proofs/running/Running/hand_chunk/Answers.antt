use Rattle.std.proofs.Common.{◌∙◌, arith, subst, sym}
use Rattle.std.specs.Prelude.{encode_utf8_all}
use Rattle.sheet_runs.specs.inside.Running.{HandingBytes}
use Rattle.sheet_runs.proofs.Leaving.{main-ended-less}
use Rattle.sheet_runs.proofs.running.Running.hand_chunk.Goals as goal

pub returns-in-Some-clause-driven : goal.returns-in-Some-clause-driven
returns-in-Some-clause-driven c = λ start main old now h.
    let r = c.args.self.now in
    let of_chunk : HandingBytes start main old now r (encode_utf8_all c.in-Some.chunk) = rw c.in-Some.is at h in
    c.hand_main.ensures.driven start main old now (subst (HandingBytes start main old now r) (sym (c.as_bytes.ensures.value ∙ c.as_str.ensures.bytes)) of_chunk)

pub returns-in-None-clause-more : goal.returns-in-None-clause-more
returns-in-None-clause-more c = omega (arith, main-ended-less c.args.self.now c.pump.new.self c.requires c.pump.ensures.pumps)

pub returns-in-None-clause-less : goal.returns-in-None-clause-less
returns-in-None-clause-less c = λ is. main-ended-less c.args.self.now c.pump.new.self c.requires c.pump.ensures.pumps
