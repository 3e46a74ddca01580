use Rattle.std.proofs.Common.{◌≡◌, Some, None, ap, sym, ◌∙◌}
use Rattle.sheet_loader.proofs.Beginning.{known_of, tag_from, unknown_refused}
use Rattle.sheet_loader.proofs.Resuming.{equal_answer}
use Rattle.sheet_loader.specs.Elements.{kind_named}
use Rattle.sheet_loader.specs.Meant.{kind_of}
use Rattle.sheet_loader.proofs.draft.Draft.named.Goals as goal

pub returns-in-None-clause-behind : goal.returns-in-None-clause-behind
returns-in-None-clause-behind c = λ reads files first f.
    let d = c.args.self.now in
    let h : kind_named c.args.tag.name.local ≡ None = sym (c.in-None.ensures ∙ ap kind_named c.as_str.ensures.chars) in
    equal_answer reads files (known_of d c.args.tag c.requires.sound reads files first f None h ∙ unknown_refused d c.args.tag c.requires.sound reads files first f)

pub returns-in-Some-clause-behind : goal.returns-in-Some-clause-behind
returns-in-Some-clause-behind c = λ reads files first f.
    let d = c.args.self.now in
    let h : kind_named c.args.tag.name.local ≡ Some (kind_of c.in-Some.kind) = sym (c.in-Some.ensures ∙ ap kind_named c.as_str.ensures.chars) in
    tag_from reads files (equal_answer reads files (known_of d c.args.tag c.requires.sound reads files first f (Some (kind_of c.in-Some.kind)) h)) _ c.element.new.self f c.element.result (c.element.ensures.behind reads files first f)
