use Rattle.std.proofs.Common.{◌≡◌, ℕ, true, false, List, Option}
use Rattle.sheet_loader.proofs.Beginning.{inner_by_name, other_begins, tag_comes, tag_from, unopened_too}
use Rattle.sheet_loader.proofs.Resuming.{answer_then}
use Rattle.sheet_loader.proofs.Roots.{version_within}
use Rattle.sheet_loader.specs.Drafts.{before_tag}
use Rattle.sheet_loader.specs.Judging.{is_stx}
use Rattle.sheet_loader.specs.Meant.{inside_of}
use Rattle.sheet_loader.specs.Sound.{is_document}
use Rattle.sheet_loader.proofs.draft.Draft.begin.Goals as goal

pub named-requires-clause-version : goal.named-requires-clause-version
named-requires-clause-version c =
    let d = c.args.self.now in
    let h : is_document (inside_of d.top.inside) ≡ false = cc in
    version_within (before_tag d c.args.tag.around) c.requires.sound h

pub other-requires-clause-version : goal.other-requires-clause-version
other-requires-clause-version c =
    let d = c.args.self.now in
    let h : is_document (inside_of d.top.inside) ≡ false = cc in
    version_within (before_tag d c.args.tag.around) c.requires.sound h

pub returns-then-is_document-clause-behind : goal.returns-then-is_document-clause-behind
returns-then-is_document-clause-behind c = λ reads files first f.
    let d = c.args.self.now in
    tag_from reads files (tag_comes d c.args.tag c.requires.sound reads files first f) _ c.root.new.self f c.root.result (c.root.ensures.behind reads files first f)

pub returns-then-is_stx-clause-behind : goal.returns-then-is_stx-clause-behind
returns-then-is_stx-clause-behind c = λ reads files first f.
    let d = c.args.self.now in
    let h : is_document (inside_of d.top.inside) ≡ false = cc in
    let s : is_stx c.args.tag.name ≡ true = cc in
    tag_from reads files (inner_by_name d c.args.tag c.requires.sound reads files first f h true s) _ c.named.new.self f c.named.result (c.named.ensures.behind reads files first f)

pub returns-in-Err-clause-files : goal.returns-in-Err-clause-files
returns-in-Err-clause-files c = unopened_too (Unit {0}) (Option (List ℕ)) c.args.self.now c.other.new.self c.in-Err.refused c.in-Err.ensures.files

pub returns-in-Err-clause-behind : goal.returns-in-Err-clause-behind
returns-in-Err-clause-behind c = λ reads files first f.
    let d = c.args.self.now in
    let h : is_document (inside_of d.top.inside) ≡ false = cc in
    let s : is_stx c.args.tag.name ≡ false = cc in
    other_begins d c.args.tag c.requires.sound reads files first f h s c.other.new.self c.in-Err.refused (c.in-Err.ensures.behind reads files first f)

pub returns-in-Ok-clause-behind : goal.returns-in-Ok-clause-behind
returns-in-Ok-clause-behind c = λ reads files first f.
    let d = c.args.self.now in
    let h : is_document (inside_of d.top.inside) ≡ false = cc in
    let s : is_stx c.args.tag.name ≡ false = cc in
    answer_then reads files (inner_by_name d c.args.tag c.requires.sound reads files first f h false s) (c.in-Ok.ensures.behind reads files first f)
