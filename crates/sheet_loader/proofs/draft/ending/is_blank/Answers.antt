use Rattle.std.proofs.Common.{◌∙◌, ap, rules, tests}
use Rattle.std.proofs.lemmas.Iterator.{YieldsList-from_chars}
use Rattle.std.proofs.lemmas.Iterator.Search.{all_from_yields_List}
use Rattle.std.specs.List.{list_all}
use Rattle.stx_base.specs.Character.{is_space}
use Rattle.sheet_loader.proofs.draft.ending.is_blank.Goals as goal

pub returns : goal.returns
returns c =
    all_from_yields_List is_space _ _ _ c.all.ensures.ran (YieldsList-from_chars c.as_str.result.now c.as_str.utf8 cc) (λ x b q k. search (rules, tests))
    ∙ ap (list_all is_space) c.as_str.ensures.chars
