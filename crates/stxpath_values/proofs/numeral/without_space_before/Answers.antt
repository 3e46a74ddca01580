use Rattle.std.proofs.Common.{drop, ap, ◌∙◌}
use Rattle.std.proofs.lemmas.List.{take_rest}
use Rattle.stxpath_values.specs.Numeral.{without_space_before}
use Rattle.stxpath_values.proofs.numeral.without_space_before.Goals as goal

pub returns : goal.returns
unfolding without_space_before
returns c = take_rest c.args.bytes.now _ ∙ ap (λ n. drop n c.args.bytes.now) c.space_before-len.ensures.value
