use Rattle.std.proofs.Common.{◌≡◌, ◌+◌, ◌∙◌, Some, IsSome, ap, sym, subst}
use Rattle.std.proofs.lemmas.Option.{slice_get_within}
use Rattle.template_machine.specs.Bodies.{below}
use Rattle.template_machine.proofs.Testing.{alternative_there, counted_at, counted_body, counts_by, has_counted, template_there, test_by}
use Rattle.template_machine.proofs.run.Run.test_of.Goals as goal

pub unwrap-place-requires : goal.unwrap-place-requires
unwrap-place-requires c =
    let xs = c.args.self.now.frames.frames in
    subst (λ o. IsSome o) (sym c.template_below.ensures) (has_counted c.args.program.now.sheet (below (c.args.body + 1) xs) c.requires.test)

pub at-requires : goal.at-requires
at-requires c =
    let xs = c.args.self.now.frames.frames in
    let is : c.template_below.result ≡ Some c.unwrap-place.result = cc in
    let f = counted_at c.args.program.now.sheet xs (c.args.body + 1) c.unwrap-place.result c.requires.test (sym c.template_below.ensures ∙ is) in
    slice_get_within xs c.unwrap-place.result f.0 f.1.0

pub test-requires-clause-template : goal.test-requires-clause-template
test-requires-clause-template c =
    let s = c.args.program.now.sheet in
    let xs = c.args.self.now.frames.frames in
    let is : c.template_below.result ≡ Some c.unwrap-place.result = cc in
    let same = counts_by s xs (c.args.body + 1) c.unwrap-place.result c.at.result.now c.requires.test (sym c.template_below.ensures ∙ is) c.at.ensures in
    template_there s c.in-Body.template c.in-Body.alternative
    (alternative_there s c.at.result.now _ _ _ _ _ _ (subst (λ o. IsSome o) (sym same) c.requires.test) c.in-Body.is)

pub test-requires-clause-alternative : goal.test-requires-clause-alternative
test-requires-clause-alternative c =
    let s = c.args.program.now.sheet in
    let xs = c.args.self.now.frames.frames in
    let is : c.template_below.result ≡ Some c.unwrap-place.result = cc in
    let same = counts_by s xs (c.args.body + 1) c.unwrap-place.result c.at.result.now c.requires.test (sym c.template_below.ensures ∙ is) c.at.ensures in
    alternative_there s c.at.result.now _ _ _ _ _ _ (subst (λ o. IsSome o) (sym same) c.requires.test) c.in-Body.is

pub unreachable-requires : goal.unreachable-requires
unreachable-requires c =
    let s = c.args.program.now.sheet in
    let xs = c.args.self.now.frames.frames in
    let is : c.template_below.result ≡ Some c.unwrap-place.result = cc in
    let same = counts_by s xs (c.args.body + 1) c.unwrap-place.result c.at.result.now c.requires.test (sym c.template_below.ensures ∙ is) c.at.ensures in
    counted_body s c.at.result.now (subst (λ o. IsSome o) (sym same) c.requires.test)
    (λ template alternative pc locals level spent e. c.in_default.not-Body template alternative pc locals level spent e)

pub returns : goal.returns
returns c =
    let s = c.args.program.now.sheet in
    let xs = c.args.self.now.frames.frames in
    let is : c.template_below.result ≡ Some c.unwrap-place.result = cc in
    let same = counts_by s xs (c.args.body + 1) c.unwrap-place.result c.at.result.now c.requires.test (sym c.template_below.ensures ∙ is) c.at.ensures in
    sym same ∙ ap (test_by s) c.in-Body.is ∙ c.test.ensures
