use Rattle.std.proofs.Common.{◌≡◌, [], map}
use Rattle.std.proofs.lemmas.Result.{IfOk-weaker}
use Rattle.sheet_loader.specs.Contents.{Holds}
use Rattle.sheet_loader.specs.Meant.{item_of}
use Rattle.sheet_loader.specs.Sorting.{closed}
use Rattle.sheet_loader.proofs.SortingLemmas.{sorts_end}
use Rattle.sheet_loader.proofs.content.Content.of.Goals as goal

pub returns : goal.returns
returns c =
    IfOk-weaker c.finish.result (λ content. content ≡ (closed [] c.in_ok-sorted.field-0).content) (λ content. Holds (map item_of c.args.items) content)
    (λ content e. sorts_end c.args.items c.in_ok-sorted.field-0 content c.in_ok-sorted.ensures e) c.finish.ensures
