use Rattle.std.proofs.Common.{◌≡◌, true, false}
use Rattle.sheet_loader.proofs.Beginning.{literal_comes, literal_misplaced, other_from, part_comes}
use Rattle.sheet_loader.proofs.Resuming.{answer_then, equal_answer}
use Rattle.sheet_loader.specs.Elements.{allows_literals}
use Rattle.sheet_loader.specs.Meant.{inside_of}
use Rattle.sheet_loader.specs.Sound.{is_of_parts}
use Rattle.sheet_loader.proofs.draft.Draft.other.Goals as goal

pub returns-in_ok-part-clause-behind : goal.returns-in_ok-part-clause-behind
returns-in_ok-part-clause-behind c = λ reads files first f.
    let d = c.args.self.now in
    let parts : is_of_parts (inside_of d.top.inside) ≡ true = cc in
    answer_then reads files (equal_answer reads files (part_comes d c.args.tag c.requires.sound reads files first f parts)) (c.in_ok-part.ensures.behind reads files first f)

pub returns-then-allows_literals-clause-behind : goal.returns-then-allows_literals-clause-behind
returns-then-allows_literals-clause-behind c = λ reads files first f.
    let d = c.args.self.now in
    let apart : is_of_parts (inside_of d.top.inside) ≡ false = cc in
    let allows : allows_literals (inside_of d.top.inside) ≡ true = cc in
    other_from reads files (equal_answer reads files (literal_comes d c.args.tag c.requires.sound reads files first f apart allows)) _ c.literal.new.self f c.literal.result (c.literal.ensures.behind reads files first f)

pub returns-else-allows_literals-clause-behind : goal.returns-else-allows_literals-clause-behind
returns-else-allows_literals-clause-behind c = λ reads files first f.
    let d = c.args.self.now in
    let apart : is_of_parts (inside_of d.top.inside) ≡ false = cc in
    let allows : allows_literals (inside_of d.top.inside) ≡ false = cc in
    equal_answer reads files (literal_misplaced d c.args.tag c.requires.sound reads files first f apart allows)
