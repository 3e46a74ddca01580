use Rattle.sheet_loader.proofs.draft.starting.is_stx.Goals as goal

pub returns : goal.returns
returns c = c.is_word.ensures
