use Rattle.std.proofs.Common.{◌≡◌, ℕ, List, ◌++◌, append_assoc, sym, ap, ◌∙◌}
use Rattle.std.specs.Prelude.{codes}
use Rattle.std.specs.Fmt.{decimal}
use Rattle.stx_engine.proofs.run_end.summary_bytes.Goals as goal

-- six texts joined from their last, and from their first
joined : (a q b r c s : List ℕ) → a ++ (q ++ (b ++ (r ++ (c ++ s)))) ≡ a ++ q ++ b ++ r ++ c ++ s
joined a q b r c s =
    sym (append_assoc (a ++ q ++ b ++ r) c s ∙ append_assoc (a ++ q ++ b) r (c ++ s) ∙ append_assoc (a ++ q) b (r ++ (c ++ s)) ∙ append_assoc a q (b ++ (r ++ (c ++ s))))

pub returns : goal.returns
returns c =
    let read = c.args.read in
    c.in_ok-line.ensures.ok
    ∙ ap (λ l. codes "sample: records " ++ l) (joined (decimal read.records) (codes ", input ") (decimal read.input) (codes ", output ") (decimal read.output) (codes "\n"))
