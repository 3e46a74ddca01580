-- The steps by which an element is opened.
use Rattle.std.proofs.Common.{ℕ, List, [], ◌∷◌, ◌++◌, length, ap, sym, ◌∙◌}
use Rattle.std.proofs.Math.Path.{subst}
use Rattle.sheet_model.specs.declared.pass.Pass.{Pass}
use Rattle.sheet_loader.proofs.ElementStarts.{element_list}
use Rattle.sheet_loader.proofs.Entering.{Entered, entered}
use Rattle.sheet_loader.proofs.OpenAnswers.{Opening, opening_answer, opening_files, opening_sound, opening_wanted}
use Rattle.sheet_loader.specs.Elements as element
use Rattle.sheet_loader.specs.Elements.{makes_group}
use Rattle.sheet_loader.specs.Gathering.{values_in}
use Rattle.sheet_loader.specs.Known.{Known, known}
use Rattle.sheet_loader.specs.Meant.{inside_of, kind_of}
use Rattle.sheet_loader.specs.Steps.{Enters}
use Rattle.sheet_loader.specs.declared.draft.Draft.{Draft}
use Rattle.sheet_loader.specs.declared.frame.Frame.{Frame}
use Rattle.sheet_loader.specs.declared.item.Item.{Item}
use Rattle.sheet_loader.specs.Lists.{IsOfElement}
use Rattle.sheet_loader.proofs.draft.Draft.open.Goals as goal
use Rattle.sheet_loader.proofs.draft.Draft.open.Goals.{After-drop-tag-5}

entered_by : (c : After-drop-tag-5) → Entered c.args.self.now c.refer.new.self.register (kind_of c.args.kind) (values_in c.args.values) c.place-at.result (values_in c.enter.new.values) c.in_ok-group.group c.in_ok-group.pass c.enter.new.self
entered_by c =
    let k = kind_of c.args.kind in
    let made : ℕ × Pass = (c.in_ok-group.group, c.in_ok-group.pass) in
    entered c.args.self.now c.refer.new.self.register k (values_in c.args.values) c.place-at.result (values_in c.enter.new.values) made c.enter.new.self
    (subst (λ (x : Draft). Enters (makes_group k) (values_in c.args.values) (values_in c.enter.new.values) c.place-at.result made x c.enter.new.self) c.refer.ensures.others c.in_ok-group.ensures)

steps : (c : After-drop-tag-5) → Opening c.args.self.now c.args.tag c.new-2.result c.args.kind c.args.values c.wanted_file-wanted.new.values c.in_ok-own.own c.of-inside.result c.in_ok-group.group c.in_ok-group.pass c.bring_by_loop.new.self c.refer.new.self.register c.place-at.result (values_in c.enter.new.values) c.enter.new.self c.push.new.self
steps c =
    let d = c.args.self.now in
    let k = kind_of c.args.kind in
    let r = c.bring_by_loop.new.self in
    let mid = c.enter.new.self in
    let below = c.push.new.self.below in
    let others = (entered_by c).others in
    let list : List Item → ℕ → ℕ → Frame = λ items locals parts.
    record (element_list d c.args.tag c.new-2.result c.args.kind c.args.values c.wanted_file-wanted.new.values c.in_ok-own.own c.of-inside.result c.in_ok-group.group c.in_ok-group.pass r) { items = items; locals = locals; parts = parts } in
    let put : Frame → Draft = λ top. record d { register = r; sheet = mid.sheet; top = top; below = below } in
    record {
      sound = c.requires.sound;
      declared = c.requires.declared;
      version = c.requires.version;
      allowed = c.requires.allowed;
      none = c.new-2.ensures;
      at_is = c.place-at.ensures;
      own_is = c.in_ok-own.ensures.own;
      inside_is =
          c.of-inside.ensures
          ∙ ap (λ (x : Draft). element.inside_of (inside_of x.top.inside) k c.has_select.result) c.refer.ensures.others
          ∙ ap (λ b. element.inside_of (inside_of d.top.inside) k b) c.has_select.ensures;
      refers = λ files f. c.in_ok-own.ensures.known c.args.tag.around files f c.requires.sound;
      enters = entered_by c;
      brings = c.in_ok-bring_by_loop.ensures;
      is_kept = c.wanted_file-wanted.ensures.kept;
      is =
          c.in_ok-push.ensures.0
          ∙ ap (λ (x : Draft). let w : Draft = record x { register = r; top = list c.new.result c.locals-locals.result c.len.result; below = below } in w) others
          ∙ ap (λ (i : List Item). put (list i c.locals-locals.result c.len.result)) c.new.ensures
          ∙ ap (λ (n : ℕ). put (list [] n c.len.result)) (c.locals-locals.ensures ∙ ap (λ (x : Known). length x.locals) (c.in_ok-own.ensures.known c.args.tag.around [] [] c.requires.sound))
          ∙ ap (λ (n : ℕ). put (list [] (length (known d.register).locals) n)) (c.len.ensures.value ∙ ap (λ (x : Draft). length x.parts) others);
      below = c.in_ok-push.ensures.1 ∙ ap (λ (x : Draft). x.below.items ++ x.top ∷ []) others;
    }

pub returns-clause-sound : goal.returns-clause-sound
returns-clause-sound c = opening_sound _ _ _ _ _ _ _ _ _ _ _ _ _ _ _ _ (steps c)

pub returns-clause-wanted : goal.returns-clause-wanted
returns-clause-wanted c = opening_wanted _ _ _ _ _ _ _ _ _ _ _ _ _ _ _ _ (steps c) c.requires.apart c.wanted_file-wanted.result c.wanted_file-wanted.ensures.wanted

pub returns-clause-files : goal.returns-clause-files
returns-clause-files c = opening_files _ _ _ _ _ _ _ _ _ _ _ _ _ _ _ _ (steps c)

pub returns-clause-behind : goal.returns-clause-behind
returns-clause-behind c = λ reads files first f.
    opening_answer _ _ _ _ _ _ _ _ _ _ _ _ _ _ _ _ (steps c) reads files first f c.wanted_file-wanted.result c.wanted_file-wanted.ensures.wanted

pub returns-clause-lists : goal.returns-clause-lists
returns-clause-lists c =
    let s = steps c in
    record {
      element = subst (λ (x : Draft). IsOfElement x.top.opened) (sym s.is) tt;
      around = s.below;
      number = ap (λ (x : Draft). x.file.number) s.is;
    }
