use Rattle.std.proofs.Common.{◌≡◌, ℕ, ◌+◌, List, take, map, ap, ◌∙◌, arith}
use Rattle.std.proofs.lemmas.Grind.{common_steps}
use Rattle.std.proofs.lemmas.List.{take_all}
use Rattle.std.specs.List.{flat_map}
use Rattle.stxpath_syntax.specs.Shape.{greatest}
use Rattle.sheet_model.specs.Body.{body_nesting, nesting}
use Rattle.sheet_model.specs.declared.instr.Instr.{Instr}
use Rattle.sheet_model.specs.declared.instr.When.{When}
use Rattle.sheet_model.proofs.Lists.{greatest-flat, greatest_at, greatest_more}
use Rattle.sheet_model.proofs.Nests.{body_nesting-append, nesting_is, nests_within}
use Rattle.sheet_model.proofs.nesting.+nesting.Goals as goal
use Rattle.sheet_model.proofs.nesting.+nesting.Goals.{nesting_of-in-Nothing, nesting_of-in-Body, nesting_of-in-Bodies, nesting_of-in-Branches}

abbrev branched : List When → List Instr
branched whens = flat_map (λ (w : When). w.body) whens

abbrev nesting_of_branch : When → ℕ
nesting_of_branch w = body_nesting w.body

pub nesting_of-nesting_of_body-within-requires : goal.nesting_of-nesting_of_body-within-requires
nesting_of-nesting_of_body-within-requires t c =
    let is = nesting_is c.args.instr.now in
    let within = ap body_nesting c.in-Body.ensures in
    (omega arith, omega arith)

pub nesting_of-nesting_of_body-requires : goal.nesting_of-nesting_of_body-requires
nesting_of-nesting_of_body-requires t c =
    let is = nesting_is c.args.instr.now in
    let within = ap body_nesting c.in-Bodies.ensures ∙ body_nesting-append c.in-Bodies.body.now c.in-Bodies.other.now in
    (omega arith, omega arith)

pub nesting_of-nesting_of_body-requires-in-Bodies : goal.nesting_of-nesting_of_body-requires-in-Bodies
nesting_of-nesting_of_body-requires-in-Bodies t c =
    let is = nesting_is c.args.instr.now in
    let within = ap body_nesting c.in-Bodies.ensures ∙ body_nesting-append c.in-Bodies.body.now c.in-Bodies.other.now in
    (omega arith, omega arith)

pub nesting_of-nesting_of_branches-requires : goal.nesting_of-nesting_of_branches-requires
nesting_of-nesting_of_branches-requires t c =
    let is = nesting_is c.args.instr.now in
    let within = ap body_nesting c.in-Branches.ensures ∙ body_nesting-append (branched c.in-Branches.whens.now) c.in-Branches.other.now in
    (omega arith, omega arith)

pub nesting_of-nesting_of_body-requires-in-Branches : goal.nesting_of-nesting_of_body-requires-in-Branches
nesting_of-nesting_of_body-requires-in-Branches t c =
    let is = nesting_is c.args.instr.now in
    let within = ap body_nesting c.in-Branches.ensures ∙ body_nesting-append (branched c.in-Branches.whens.now) c.in-Branches.other.now in
    (omega arith, omega arith)

pub nesting_of-returns : goal.nesting_of-returns
nesting_of-returns t c =
    let is = nesting_is c.args.instr.now in
    elim c.match-inner.branch [
      | nesting_of-in-Nothing w ↦ (let within = ap body_nesting w.in-Nothing.ensures in omega arith)
      | nesting_of-in-Body w ↦ (let within = ap body_nesting w.in-Body.ensures in omega arith)
      | nesting_of-in-Bodies w ↦
          (let within = ap body_nesting w.in-Bodies.ensures ∙ body_nesting-append w.in-Bodies.body.now w.in-Bodies.other.now in omega arith)
      | nesting_of-in-Branches w ↦
          (let within = ap body_nesting w.in-Branches.ensures ∙ body_nesting-append (branched w.in-Branches.whens.now) w.in-Branches.other.now in omega arith)
    ]

pub nesting_of-overflow_add-result : goal.nesting_of-overflow_add-result
nesting_of-overflow_add-result t c = (let is : c.match-inner.within + 1 ≡ nesting c.args.instr.now = nesting_of-returns t c in omega arith)

pub nesting_of_body-nesting_of-requires : goal.nesting_of_body-nesting_of-requires
nesting_of_body-nesting_of-requires t c =
    let within = nests_within c.as_slice-instr-items.result.now c.loop-instr.instr-index c.instr-item.result c.loop-instr-test.true c.instr-item.is in
    let same = ap body_nesting c.as_slice-instr-items.ensures in
    (omega arith, omega arith)

pub nesting_of_body-loop-instr-preserved : goal.nesting_of_body-loop-instr-preserved
nesting_of_body-loop-instr-preserved t c =
    let more = greatest_more nesting c.as_slice-instr-items.result.now c.loop-instr.instr-index c.instr-item.result c.loop-instr-test.true c.instr-item.is in
    let so_far : c.loop-instr.deepest ≡ greatest (map nesting (take c.loop-instr.instr-index c.as_slice-instr-items.result.now)) = c.loop-instr.invariant in
    let one : c.nesting_of.result ≡ nesting c.instr-item.result = c.nesting_of.ensures in
    grind (arith, common_steps, more, so_far, one)

pub nesting_of_branches-nesting_of_body-requires : goal.nesting_of_branches-nesting_of_body-requires
nesting_of_branches-nesting_of_body-requires t c =
    let within = greatest_at nesting_of_branch c.as_slice-when-items.result.now c.loop-when.when-index c.when-item.result c.loop-when-test.true c.when-item.is in
    let whole = greatest-flat nesting (λ (w : When). w.body) c.as_slice-when-items.result.now in
    let same = ap (λ l. body_nesting (branched l)) c.as_slice-when-items.ensures in
    (omega arith, omega arith)

pub nesting_of_branches-loop-when-preserved : goal.nesting_of_branches-loop-when-preserved
nesting_of_branches-loop-when-preserved t c =
    let more = greatest_more nesting_of_branch c.as_slice-when-items.result.now c.loop-when.when-index c.when-item.result c.loop-when-test.true c.when-item.is in
    let so_far : c.loop-when.deepest ≡ greatest (map nesting_of_branch (take c.loop-when.when-index c.as_slice-when-items.result.now)) = c.loop-when.invariant in
    let one : c.nesting_of_body.result ≡ nesting_of_branch c.when-item.result = c.nesting_of_body.ensures in
    grind (arith, common_steps, more, so_far, one)

pub nesting_of_branches-returns : goal.nesting_of_branches-returns
nesting_of_branches-returns t c =
    let whole = greatest-flat nesting (λ (w : When). w.body) c.as_slice-when-items.result.now in
    let same = ap (λ l. body_nesting (branched l)) c.as_slice-when-items.ensures in
    let all = ap (λ l. greatest (map nesting_of_branch l)) (take_all c.loop-when.when-index c.as_slice-when-items.result.now (omega arith)) in
    omega arith
