use Rattle.std.proofs.Common.{◌≡◌, true, false, not, List, map, ap, ◌∙◌, Ok, Err}
use Rattle.sheet_loader.proofs.Beginning.{on_ok_always}
use Rattle.sheet_loader.proofs.Judged.{judged_as, judged_attributes, judged_misplaced, judged_names, rows_here}
use Rattle.sheet_loader.specs.Attributes.{Row, rows}
use Rattle.sheet_loader.specs.Drafts.{version_or_default}
use Rattle.sheet_loader.specs.Elements.{is_allowed}
use Rattle.sheet_loader.specs.Meant.{before_of, inside_of, kind_of, row_of}
use Rattle.sheet_loader.specs.declared.frame.Version.{Version}
use Rattle.sheet_loader.proofs.draft.Draft.judge.Goals as goal

pub returns-then-not-allows-clause-judged : goal.returns-then-not-allows-clause-judged
returns-then-not-allows-clause-judged c = λ reads files f.
    let d = c.args.self.now in
    let k = kind_of c.args.kind in
    let h : is_allowed (inside_of d.top.inside) (before_of d.top.before) k ≡ false = cc in
    judged_misplaced d c.args.tag.now c.requires.sound c.requires.version reads files f k h

pub returns-in-Err-clause-judged : goal.returns-in-Err-clause-judged
returns-in-Err-clause-judged c = λ reads files f.
    let d = c.args.self.now in
    let tag = c.args.tag.now in
    let k = kind_of c.args.kind in
    let h : is_allowed (inside_of d.top.inside) (before_of d.top.before) k ≡ true = cc in
    let rs : List Row = map row_of c.rows-rows.result.now in
    judged_attributes d tag c.requires.sound c.requires.version reads files f k h rs
    (c.rows-rows.ensures ∙ ap (λ (v : Version). rows v.dialect (not c.is_declared.result) k) c.version-version.ensures ∙ rows_here d tag c.requires.sound c.requires.version reads files f k c.is_declared.result c.is_declared.ensures)
    c.in-Err.refused
    (judged_as reads c.version-version.result (version_or_default d.file.version) d.file.scope rs c.as_slice-attrs.result.now tag.attrs (Err c.in-Err.refused) c.version-version.ensures c.as_slice-attrs.ensures (c.in-Err.ensures reads))

pub returns-in-Ok-clause-judged : goal.returns-in-Ok-clause-judged
returns-in-Ok-clause-judged c = λ reads files f.
    let d = c.args.self.now in
    let tag = c.args.tag.now in
    let k = kind_of c.args.kind in
    let h : is_allowed (inside_of d.top.inside) (before_of d.top.before) k ≡ true = cc in
    let rs : List Row = map row_of c.rows-rows.result.now in
    judged_names d tag c.requires.sound c.requires.version reads files f k h rs
    (c.rows-rows.ensures ∙ ap (λ (v : Version). rows v.dialect (not c.is_declared.result) k) c.version-version.ensures ∙ rows_here d tag c.requires.sound c.requires.version reads files f k c.is_declared.result c.is_declared.ensures)
    c.in-Ok.values
    (judged_as reads c.version-version.result (version_or_default d.file.version) d.file.scope rs c.as_slice-attrs.result.now tag.attrs (Ok c.in-Ok.values) c.version-version.ensures c.as_slice-attrs.ensures (c.in-Ok.ensures reads))
    c.judge_names.result (c.judge_names.ensures.judged tag.around files f c.requires.sound)

pub returns-in-Ok-clause-allowed : goal.returns-in-Ok-clause-allowed
returns-in-Ok-clause-allowed c =
    let d = c.args.self.now in
    let h : is_allowed (inside_of d.top.inside) (before_of d.top.before) (kind_of c.args.kind) ≡ true = cc in
    on_ok_always c.judge_names.result h

pub returns-in-Ok-clause-apart : goal.returns-in-Ok-clause-apart
returns-in-Ok-clause-apart c = c.judge_names.ensures.apart
