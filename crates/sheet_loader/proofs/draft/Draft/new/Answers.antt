-- A draft begins with nothing read.
use Rattle.std.proofs.Common.{◌≡◌, false, List, [], ◌∷◌, length, refl, arith}
use Rattle.sheet_model.specs.declared.sheet.Sheet.{Sheet}
use Rattle.sheet_loader.proofs.Unread.{begins_progress, begins_sound, empty_sheet}
use Rattle.sheet_loader.specs.declared.draft.Draft.{Draft}
use Rattle.sheet_loader.proofs.draft.Draft.new.Goals as goal

empty_of : {A : Type 0} (l : List A) → length l ≡ 0 → l ≡ []
empty_of [] e = refl
empty_of (x ∷ l) e = absurd (omega arith)

pub returns-clause-sound : goal.returns-clause-sound
returns-clause-sound c =
    let sheet : Sheet = record {
      groups = c.new.result;
      templates = c.new-2.result;
      procedures = c.new-3.result;
      buffers = c.new-4.result;
      variables = c.new-5.result;
      strip = false;
      cdata = false;
      files = c.new-6.result;
    } in
    let d : Draft = record {
      alloc = c.args.alloc;
      own = c.args.own;
      sheet = sheet;
      register = c.new-7.result;
      parts = c.new-8.result;
      top = c.of_sheet.result;
      below = c.new-9.result;
      file = c.new-10.result;
      reading = c.new-11.result;
    } in
    let none : sheet ≡ empty_sheet = cc in
    begins_sound c.of_sheet.result.given c.of_sheet.ensures.given d c.of_sheet.ensures.list c.new-9.ensures.items c.new-10.ensures c.new-8.ensures c.new-7.ensures none (empty_of d.reading.keys c.new-11.ensures.len)

pub returns-clause-beginning : goal.returns-clause-beginning
returns-clause-beginning c =
    let sheet : Sheet = record {
      groups = c.new.result;
      templates = c.new-2.result;
      procedures = c.new-3.result;
      buffers = c.new-4.result;
      variables = c.new-5.result;
      strip = false;
      cdata = false;
      files = c.new-6.result;
    } in
    let d : Draft = record {
      alloc = c.args.alloc;
      own = c.args.own;
      sheet = sheet;
      register = c.new-7.result;
      parts = c.new-8.result;
      top = c.of_sheet.result;
      below = c.new-9.result;
      file = c.new-10.result;
      reading = c.new-11.result;
    } in
    let none : sheet ≡ empty_sheet = cc in
    begins_progress c.of_sheet.result.given c.of_sheet.ensures.given d c.of_sheet.ensures.list c.new-9.ensures.items c.new-10.ensures c.new-8.ensures c.new-7.ensures none (empty_of d.reading.keys c.new-11.ensures.len)
