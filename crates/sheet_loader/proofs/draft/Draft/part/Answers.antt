-- The list of an element of a buffer's content stands within the innermost one.
use Rattle.std.proofs.Common.{◌≡◌, ℕ, [], ◌∷◌, ◌++◌, length, ap, sym, ◌∙◌}
use Rattle.std.proofs.lemmas.Result.{on_ok_weaker}
use Rattle.sheet_loader.proofs.PartStarts.{part_list, part_start_answer, part_start_sound}
use Rattle.sheet_loader.specs.Known.{known}
use Rattle.sheet_loader.specs.Named.{names_of}
use Rattle.sheet_loader.specs.Steps.{start_parts}
use Rattle.sheet_loader.specs.declared.draft.Draft.{Draft}
use Rattle.sheet_loader.specs.declared.element.StartTag.{StartTag}
use Rattle.sheet_loader.specs.declared.frame.Frame.{Frame}
use Rattle.sheet_loader.specs.declared.frame.Opened.TheVariants as opened
use Rattle.sheet_loader.specs.declared.inside.Before.TheVariants as before
use Rattle.sheet_loader.specs.declared.inside.Inside.TheVariants as inside
use Rattle.sheet_loader.specs.declared.names.NameSet.{NameSet}
use Rattle.sheet_loader.specs.Lists.{IsOfElement}
use Rattle.std.proofs.Math.Path.{subst}
use Rattle.sheet_loader.proofs.draft.Draft.part.Goals as goal

-- the list of the element, in a draft that has its start
abbrev list_in : Draft → StartTag → NameSet → (start : ℕ) → Frame
list_in x tag given start = record {
  opened = opened.Part tag.name start;
  inside = inside.Parts;
  at = tag.offset;
  group = x.top.group;
  pass = x.top.pass;
  items = [];
  before = before.Something;
  given = given;
  locals = length (known x.register).locals;
  around = tag.around;
  parts = length x.parts;
}

pushed_is : (d started new : Draft) (tag : StartTag) (list : Frame) (start : ℕ)
    → start ≡ length d.parts
    → started ≡ record d { parts = d.parts ++ start_parts tag.name tag.attrs }
    → list ≡ list_in started tag list.given start
    → new ≡ record started { top = list; below = new.below }
    → new ≡ record d { parts = d.parts ++ start_parts tag.name tag.attrs; top = part_list d tag list.given; below = new.below }
pushed_is d started new tag list start s a l p =
    let then : Draft = record d { parts = d.parts ++ start_parts tag.name tag.attrs } in
    p ∙ ap (λ (x : Draft). record x { top = list; below = new.below }) a
    ∙ ap (λ (t : Frame). record then { top = t; below = new.below })
    (l ∙ ap (λ (x : Draft). list_in x tag list.given start) a ∙ ap (λ (m : ℕ). list_in then tag list.given m) s)

pub returns-clause-sound : goal.returns-clause-sound
returns-clause-sound c =
    let d = c.args.self.now in
    let new = c.push.new.self in
    let list = c.list_within-list.result in
    on_ok_weaker c.push.result (λ e.
    part_start_sound d c.args.tag list.given c.requires.sound c.requires.declared c.requires.parts c.list_within-list.ensures.given new c.requires.version
    (pushed_is d c.add_start.new.self new c.args.tag list c.len-start.result c.len-start.ensures.value c.in_ok-add_start.ensures c.list_within-list.ensures.list e.0)
    (e.1 ∙ ap (λ x. x.below.items ++ x.top ∷ []) c.in_ok-add_start.ensures)) c.push.ensures

pub returns-clause-behind : goal.returns-clause-behind
returns-clause-behind c =
    let d = c.args.self.now in
    let new = c.push.new.self in
    let list = c.list_within-list.result in
    on_ok_weaker c.push.result (λ e reads files first f.
    part_start_answer d c.args.tag list.given c.requires.sound c.requires.declared c.requires.parts c.list_within-list.ensures.given new c.requires.version
    (pushed_is d c.add_start.new.self new c.args.tag list c.len-start.result c.len-start.ensures.value c.in_ok-add_start.ensures c.list_within-list.ensures.list e.0)
    (e.1 ∙ ap (λ x. x.below.items ++ x.top ∷ []) c.in_ok-add_start.ensures) reads files first f) c.push.ensures

pub returns-clause-files : goal.returns-clause-files
returns-clause-files c =
    let d = c.args.self.now in
    let new = c.push.new.self in
    let list = c.list_within-list.result in
    on_ok_weaker c.push.result (λ e.
    ap names_of (pushed_is d c.add_start.new.self new c.args.tag list c.len-start.result c.len-start.ensures.value c.in_ok-add_start.ensures c.list_within-list.ensures.list e.0)) c.push.ensures

pub returns-clause-lists : goal.returns-clause-lists
returns-clause-lists c =
    let d = c.args.self.now in
    let new = c.push.new.self in
    let list = c.list_within-list.result in
    on_ok_weaker c.push.result (λ e.
    let is = pushed_is d c.add_start.new.self new c.args.tag list c.len-start.result c.len-start.ensures.value c.in_ok-add_start.ensures c.list_within-list.ensures.list e.0 in
    record {
      element = subst (λ (x : Draft). IsOfElement x.top.opened) (sym is) tt;
      around = e.1 ∙ ap (λ x. x.below.items ++ x.top ∷ []) c.in_ok-add_start.ensures;
      number = ap (λ (x : Draft). x.file.number) is;
    }) c.push.ensures
