use Rattle.std.proofs.Common.{ap, sym, ◌∙◌, Some, List, ℕ}
use Rattle.std.specs.Str.{chars}
use Rattle.sheet_loader.specs.Events.{wanted_by}
use Rattle.sheet_loader.specs.Gathering.{values_in}
use Rattle.sheet_loader.specs.Meant.{kind_of}
use Rattle.sheet_loader.specs.declared.kind.Kind.{Kind}
use Rattle.sheet_loader.proofs.draft.starting.wanted_file.Goals as goal

pub returns-in-Include-clause-wanted : goal.returns-in-Include-clause-wanted
unfolding chars
returns-in-Include-clause-wanted c =
    ap (λ (l : List ℕ). Some l) c.take_word.ensures.value ∙ ap (λ (k : Kind). wanted_by (kind_of k) (values_in c.args.values.now)) (sym c.in-Include.is)
