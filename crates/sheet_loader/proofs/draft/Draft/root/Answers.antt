use Rattle.std.proofs.Common.{◌≡◌, ◌≤◌, ℕ, true, false, IfOk, length, is_some, List, ap, sym, ◌∙◌}
use Rattle.std.proofs.Math.Path.{subst}
use Rattle.stx_base.specs.declared.name.Attr.{Attr}
use Rattle.sheet_loader.proofs.Beginning.{root_refused, unopened_from}
use Rattle.sheet_loader.proofs.Resuming.{equal_answer}
use Rattle.sheet_loader.proofs.RootAnswers.{root_behind, root_sound}
use Rattle.sheet_loader.proofs.Rooting.{some_taken}
use Rattle.sheet_loader.specs.Drafts.{version_taken}
use Rattle.sheet_loader.specs.Judging.{is_transform_named}
use Rattle.sheet_loader.specs.Named.{WantsFile, names_of}
use Rattle.sheet_loader.specs.declared.draft.Draft.{Draft}
use Rattle.sheet_loader.proofs.ListSteps.{opens_from}
use Rattle.std.proofs.lemmas.Result.{on_ok_weaker}
use Rattle.sheet_loader.proofs.draft.Draft.root.Goals as goal

-- the version is taken from the attributes of the tag
taken : (d mid : Draft) (attrs own : List Attr) → mid ≡ record d { file = record d.file { version = version_taken d.file.version attrs } } → attrs ≡ own → mid ≡ record d { file = record d.file { version = version_taken d.file.version own } }
taken d mid attrs own e h = e ∙ ap (λ (l : List Attr). let w : Draft = record d { file = record d.file { version = version_taken d.file.version l } } in w) h

pub returns-then-not-is_transform-clause-behind : goal.returns-then-not-is_transform-clause-behind
returns-then-not-is_transform-clause-behind c = λ reads files first f.
    let d = c.args.self.now in
    let h : is_transform_named c.args.tag.name ≡ false = cc in
    equal_answer reads files (root_refused d c.args.tag c.requires.sound reads files first f c.requires.document h)

pub element-requires-clause-sound : goal.element-requires-clause-sound
element-requires-clause-sound c =
    let d = c.args.self.now in
    root_sound d c.args.tag c.requires.sound c.requires.document c.take_version.new.self (taken d c.take_version.new.self c.as_slice.result.now c.args.tag.attrs c.take_version.ensures c.as_slice.ensures)

pub element-requires-clause-declared : goal.element-requires-clause-declared
element-requires-clause-declared c = subst (λ (x : Draft). c.args.tag.around ≤ length x.file.scope) (sym c.take_version.ensures) c.requires.declared

pub element-requires-clause-version : goal.element-requires-clause-version
element-requires-clause-version c = ap (λ (x : Draft). is_some x.file.version) c.take_version.ensures ∙ some_taken c.args.self.now.file.version c.as_slice.result.now

pub returns-clause-wanted : goal.returns-clause-wanted
returns-clause-wanted c =
    subst (λ (n : ℕ). IfOk c.element.result (λ wanted. WantsFile wanted (record { file = n; offset = c.args.tag.offset }) c.element.new.self)) (ap (λ (x : Draft). x.file.number) c.take_version.ensures) c.element.ensures.wanted

pub returns-clause-files : goal.returns-clause-files
returns-clause-files c = unopened_from c.args.self.now c.take_version.new.self c.element.new.self c.element.result (ap names_of c.take_version.ensures) c.element.ensures.files

pub returns-clause-behind : goal.returns-clause-behind
returns-clause-behind c = λ reads files first f.
    let d = c.args.self.now in
    let h : is_transform_named c.args.tag.name ≡ true = cc in
    root_behind d c.args.tag c.requires.sound c.requires.document c.take_version.new.self (taken d c.take_version.new.self c.as_slice.result.now c.args.tag.attrs c.take_version.ensures c.as_slice.ensures)
    h reads files first f c.element.new.self c.element.result (c.element.ensures.behind reads files first f)

pub returns-clause-lists : goal.returns-clause-lists
returns-clause-lists c =
    let e = c.take_version.ensures in
    on_ok_weaker c.element.result (λ opens.
    opens_from c.args.self.now c.take_version.new.self c.element.new.self (ap (λ (x : Draft). x.below) e) (ap (λ (x : Draft). x.top) e) (ap (λ (x : Draft). x.file.number) e) opens) c.element.ensures.lists
