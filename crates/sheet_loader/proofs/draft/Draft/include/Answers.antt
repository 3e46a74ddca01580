-- The file's list stands within that of the include.
use Rattle.std.proofs.Common.{◌≡◌, ◌+◌, ℕ, true, List, [], ◌∷◌, ◌++◌, length, map, ap, sym, ◌∙◌, arith}
use Rattle.std.proofs.lemmas.Result.{on_ok_weaker}
use Rattle.sheet_loader.proofs.FileStarts.{file_numbered, include_answer, include_sound, list_of_file}
use Rattle.sheet_loader.specs.Keys.{text_of}
use Rattle.sheet_loader.specs.Known.{known}
use Rattle.sheet_loader.specs.Named.{names_of}
use Rattle.sheet_loader.specs.declared.draft.Draft.{Draft}
use Rattle.sheet_loader.specs.declared.frame.Frame.{Frame}
use Rattle.sheet_loader.specs.declared.frame.OpenFile.{OpenFile}
use Rattle.sheet_loader.specs.declared.frame.Opened.TheVariants as opened
use Rattle.sheet_loader.specs.declared.inside.Before.TheVariants as before
use Rattle.sheet_loader.specs.declared.inside.Inside.TheVariants as inside
use Rattle.sheet_loader.specs.declared.names.NameSet.{NameSet}
use Rattle.sheet_loader.proofs.draft.Draft.include.Goals as goal

-- the list of a file within a draft's innermost one
abbrev list_within : Draft → OpenFile → NameSet → Frame
list_within x file given = record {
  opened = opened.File file;
  inside = inside.Document true;
  at = 0;
  group = x.top.group;
  pass = x.top.pass;
  items = [];
  before = before.Something;
  given = given;
  locals = length (known x.register).locals;
  around = 0;
  parts = length x.parts;
}

-- the draft in which the file is read, step by step
module _ (d mid new : Draft) (name : List ℕ) (files : List (List ℕ)) (file includer : OpenFile) (number : ℕ) (list : Frame) where
  stepwise : mid ≡ record d { reading = mid.reading }
      → files ≡ mid.sheet.files ++ name ∷ []
      → file ≡ file_numbered number
      → includer ≡ mid.file
      → list ≡ list_within mid includer list.given
      → new ≡ record mid { sheet = record mid.sheet { files = files }; file = file; top = list; below = new.below }
      → new ≡ record d { reading = new.reading; sheet = record d.sheet { files = d.sheet.files ++ name ∷ [] }; file = file_numbered number; top = list_of_file d list.given; below = new.below }
  stepwise m f n i l e =
      let made : List (List ℕ) → OpenFile → Frame → Draft = λ fs x t. record d { reading = mid.reading; sheet = record d.sheet { files = fs }; file = x; top = t; below = new.below } in
      let then : Draft = record d { reading = mid.reading; sheet = record d.sheet { files = d.sheet.files ++ name ∷ [] }; file = file_numbered number; top = list_of_file d list.given; below = new.below } in
      let same : new ≡ then =
      e
      ∙ ap (λ (x : Draft). let w : Draft = record x { sheet = record x.sheet { files = files }; file = file; top = list; below = new.below } in w) m
      ∙ ap (λ (fs : List (List ℕ)). made fs file list) (f ∙ ap (λ (x : Draft). x.sheet.files ++ name ∷ []) m)
      ∙ ap (λ (x : OpenFile). made (d.sheet.files ++ name ∷ []) x list) n
      ∙ ap (λ (t : Frame). made (d.sheet.files ++ name ∷ []) (file_numbered number) t)
      (l ∙ ap (λ (x : OpenFile). list_within mid x list.given) i ∙ ap (λ (x : Draft). list_within x x.file list.given) m) in
      same ∙ ap (λ (x : Draft). let w : Draft = record then { reading = x.reading } in w) (sym same)

  same_reading : new ≡ record mid { sheet = record mid.sheet { files = files }; file = file; top = list; below = new.below } → map text_of new.reading.keys ≡ map text_of mid.reading.keys
  same_reading e = ap (λ (x : Draft). map text_of x.reading.keys) e

  around : mid ≡ record d { reading = mid.reading } → new.below.items ≡ mid.below.items ++ mid.top ∷ [] → new.below.items ≡ d.below.items ++ d.top ∷ []
  around m b = b ∙ ap (λ (x : Draft). x.below.items ++ x.top ∷ []) m

next_number : (d : Draft) (n len : ℕ) → n ≡ len + 1 → len ≡ length d.sheet.files → n ≡ length (names_of d)
next_number d n len a b = omega (arith, a, b)

pub returns-clause-sound : goal.returns-clause-sound
returns-clause-sound c =
    let d = c.args.self.now in
    let mid = c.read_name.new.self in
    let new = c.push-2.new.self in
    let list = c.list_within-list.result in
    let m = c.in_ok-read_name.ensures.others in
    on_ok_weaker c.push-2.result (λ e.
    include_sound d c.requires.sound c.args.name c.requires.wanted.0 c.requires.wanted.1 c.in_ok-number.number list.given c.list_within-list.ensures.given
    (next_number d c.in_ok-number.number c.len.result c.in_ok-number.ensures c.len.ensures.value) new
    (same_reading d mid new c.args.name c.push.new.self c.replace-includer.new.dest c.replace-includer.result c.in_ok-number.number list e.0 ∙ c.in_ok-read_name.ensures.kept c.requires.wanted.1.fresh)
    (stepwise d mid new c.args.name c.push.new.self c.replace-includer.new.dest c.replace-includer.result c.in_ok-number.number list m c.in_ok-push.ensures.ok (c.replace-includer.ensures.after ∙ c.new.ensures) c.replace-includer.ensures.value c.list_within-list.ensures.list e.0)
    (around d mid new c.args.name c.push.new.self c.replace-includer.new.dest c.replace-includer.result c.in_ok-number.number list m e.1)) c.push-2.ensures

pub returns-clause-names : goal.returns-clause-names
returns-clause-names c =
    let d = c.args.self.now in
    let mid = c.read_name.new.self in
    let new = c.push-2.new.self in
    let list = c.list_within-list.result in
    let m = c.in_ok-read_name.ensures.others in
    on_ok_weaker c.push-2.result (λ e.
    ap names_of
    (stepwise d mid new c.args.name c.push.new.self c.replace-includer.new.dest c.replace-includer.result c.in_ok-number.number list m c.in_ok-push.ensures.ok (c.replace-includer.ensures.after ∙ c.new.ensures) c.replace-includer.ensures.value c.list_within-list.ensures.list e.0)) c.push-2.ensures

pub returns-clause-behind : goal.returns-clause-behind
returns-clause-behind c =
    let d = c.args.self.now in
    let mid = c.read_name.new.self in
    let new = c.push-2.new.self in
    let list = c.list_within-list.result in
    let m = c.in_ok-read_name.ensures.others in
    on_ok_weaker c.push-2.result (λ e reads files file f there by_nodes.
    include_answer d c.requires.sound c.args.name c.requires.wanted.0 c.requires.wanted.1 c.in_ok-number.number list.given c.list_within-list.ensures.given
    (next_number d c.in_ok-number.number c.len.result c.in_ok-number.ensures c.len.ensures.value) new
    (same_reading d mid new c.args.name c.push.new.self c.replace-includer.new.dest c.replace-includer.result c.in_ok-number.number list e.0 ∙ c.in_ok-read_name.ensures.kept c.requires.wanted.1.fresh)
    (stepwise d mid new c.args.name c.push.new.self c.replace-includer.new.dest c.replace-includer.result c.in_ok-number.number list m c.in_ok-push.ensures.ok (c.replace-includer.ensures.after ∙ c.new.ensures) c.replace-includer.ensures.value c.list_within-list.ensures.list e.0)
    (around d mid new c.args.name c.push.new.self c.replace-includer.new.dest c.replace-includer.result c.in_ok-number.number list m e.1) reads files file f there by_nodes) c.push-2.ensures

pub returns-clause-list : goal.returns-clause-list
returns-clause-list c =
    let d = c.args.self.now in
    let mid = c.read_name.new.self in
    let new = c.push-2.new.self in
    let list = c.list_within-list.result in
    let m = c.in_ok-read_name.ensures.others in
    on_ok_weaker c.push-2.result (λ e.
    let is = stepwise d mid new c.args.name c.push.new.self c.replace-includer.new.dest c.replace-includer.result c.in_ok-number.number list m c.in_ok-push.ensures.ok (c.replace-includer.ensures.after ∙ c.new.ensures) c.replace-includer.ensures.value c.list_within-list.ensures.list e.0 in
    record {
      file = ap (λ (x : Draft). x.top.opened) is;
      around = around d mid new c.args.name c.push.new.self c.replace-includer.new.dest c.replace-includer.result c.in_ok-number.number list m e.1;
      number = ap (λ (x : Draft). x.file.number) is ∙ next_number d c.in_ok-number.number c.len.result c.in_ok-number.ensures c.len.ensures.value;
    }) c.push-2.ensures
