use Rattle.std.proofs.Common.{◌≡◌, ◌+◌, ◌∷◌, [], ◌++◌, take, drop, sum, length, length-drop, length-take, ◌-◌, ap, sym, subst, ◌∙◌, arith}
use Rattle.std.proofs.lemmas.List.{take_all}
use Rattle.std.proofs.lemmas.List.Sums.{sum_by_push}
use Rattle.std.proofs.Math.Seq.{take-add}
use Rattle.stx_host.specs.Outside.{LacksRoom, LaneFault, Outside, for_bytes, wrote}
use Rattle.stx_host.proofs.Lacking.{lacks_writes}
use Rattle.stx_host.proofs.Stretches.{wrote_twice}
use Rattle.sheet_runs.proofs.writing.write.Goals as goal

pub loop-taken-preserved : goal.loop-taken-preserved
loop-taken-preserved g c =
    let old = g.H.Host.outside c.args.host.now in
    let bytes = c.args.bytes.now in
    let taken = c.loop-taken.taken in
    let n = c.in-Took.count in
    let so_far = c.loop-taken.invariant.1 in
    let lens = so_far.0 in
    let total : sum (lens ++ n ∷ []) ≡ taken + n = sum_by_push (λ x. x) lens n ∙ ap (λ m. m + n) so_far.1 in
    let rest : take (length bytes - taken) (drop taken bytes) ≡ drop taken bytes = take_all (length bytes - taken) (drop taken bytes) (omega (arith, length-drop taken bytes)) in
    let change = c.in-Took.ensures.change ∙ ap (λ bs. wrote (g.H.Host.outside c.loop-taken.host) c.args.lane (n ∷ []) (take n bs)) rest
    ∙ ap (λ o. wrote o c.args.lane (n ∷ []) (take n (drop taken bytes))) so_far.2
    ∙ wrote_twice old c.args.lane lens (n ∷ []) (take taken bytes) (take n (drop taken bytes)) in (
      omega (arith, c.in-Took.ensures.answer, ap length rest, length-drop taken bytes),
      (lens ++ n ∷ [], total, change ∙ ap (wrote old c.args.lane (lens ++ n ∷ [])) (sym (take-add taken n bytes))),
    )

pub returns-in-Failed : goal.returns-in-Failed
returns-in-Failed g c =
    let old = g.H.Host.outside c.args.host.now in
    let bytes = c.args.bytes.now in
    let taken = c.loop-taken.taken in
    let so_far = c.loop-taken.invariant.1 in
    let lens = so_far.0 in
    let rest = length (take (length bytes - taken) (drop taken bytes)) in
    let front : sum lens ≡ length (take taken bytes) = omega (arith, so_far.1, length-take taken bytes, c.loop-taken.invariant.0) in (
      lens,
      so_far.1,
      c.loop-taken-test.true,
      subst (λ (o : Outside). LaneFault c.args.lane o (g.H.Host.outside c.write.new.self)) so_far.2 c.in-Failed.ensures.change,
      lacks_writes old c.args.lane lens (take taken bytes) rest (length bytes) front (omega (arith, length-take taken bytes, length-take (length bytes - taken) (drop taken bytes), length-drop taken bytes))
          (subst (λ (o : Outside). LacksRoom o (for_bytes c.args.lane rest)) so_far.2 c.in-Failed.ensures.answer),
    )
