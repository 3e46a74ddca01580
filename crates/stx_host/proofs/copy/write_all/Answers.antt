use Rattle.std.proofs.Common.{◌≡◌, ◌+◌, ◌∷◌, [], ◌++◌, take, drop, sum, length, length-drop, length-take, ◌-◌, ap, sym, subst, ◌∙◌, arith}
use Rattle.std.proofs.lemmas.List.{take_all}
use Rattle.std.proofs.lemmas.List.Sums.{sum_by_push}
use Rattle.std.proofs.Math.Seq.{take-add}
use Rattle.stx_host.specs.Outside.{LacksRoom, LaneFault, Outside, for_bytes, wrote}
use Rattle.stx_host.proofs.Lacking.{lacks_writes}
use Rattle.stx_host.proofs.Stretches.{wrote_twice}
use Rattle.stx_host.proofs.copy.write_all.Goals as goal

pub loop-done-preserved : goal.loop-done-preserved
loop-done-preserved g c =
    let old = g.H.Host.outside c.args.host.now in
    let bytes = c.args.bytes.now in
    let done = c.loop-done.done in
    let n = c.in-Took.count in
    let lens = c.loop-done.invariant.1.0 in
    let total : sum (lens ++ n ∷ []) ≡ done + n = sum_by_push (λ x. x) lens n ∙ ap (λ m. m + n) c.loop-done.invariant.1.1 in
    let rest : take (length bytes - done) (drop done bytes) ≡ drop done bytes = take_all (length bytes - done) (drop done bytes) (omega (arith, length-drop done bytes)) in
    let change = c.in-Took.ensures.change ∙ ap (λ bs. wrote (g.H.Host.outside c.loop-done.host) c.args.lane (n ∷ []) (take n bs)) rest
    ∙ ap (λ o. wrote o c.args.lane (n ∷ []) (take n (drop done bytes))) c.loop-done.invariant.1.2
    ∙ wrote_twice old c.args.lane lens (n ∷ []) (take done bytes) (take n (drop done bytes)) in
    (omega (arith, c.in-Took.ensures.answer, ap length rest, length-drop done bytes), (lens ++ n ∷ [], total, change ∙ ap (wrote old c.args.lane (lens ++ n ∷ [])) (sym (take-add done n bytes))))

pub returns-in-Failed : goal.returns-in-Failed
returns-in-Failed g c =
    let old = g.H.Host.outside c.args.host.now in
    let bytes = c.args.bytes.now in
    let done = c.loop-done.done in
    let so_far = c.loop-done.invariant.1 in
    let lens = so_far.0 in
    let rest = length (take (length bytes - done) (drop done bytes)) in
    let front : sum lens ≡ length (take done bytes) = omega (arith, so_far.1, length-take done bytes, c.loop-done.invariant.0) in (
      lens,
      omega (arith, so_far.1, c.loop-done-test.true),
      subst (λ (o : Outside). LaneFault c.args.lane o (g.H.Host.outside c.write.new.self)) (so_far.2 ∙ ap (λ n. wrote old c.args.lane lens (take n bytes)) (sym so_far.1)) c.in-Failed.ensures.change,
      lacks_writes old c.args.lane lens (take done bytes) rest (length bytes) front (omega (arith, length-take done bytes, length-take (length bytes - done) (drop done bytes), length-drop done bytes))
          (subst (λ (o : Outside). LacksRoom o (for_bytes c.args.lane rest)) so_far.2 c.in-Failed.ensures.answer),
    )
