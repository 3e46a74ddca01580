use Rattle.template_machine.proofs.Returning.{alone_left, state_left, template_moves, unskipped_below, untouched_below}
use Rattle.template_machine.specs.Bodies.{spent_in}
use Rattle.template_machine.specs.Declaring.{ends_scope}
use Rattle.template_machine.specs.Still.{state_of}
use Rattle.template_machine.specs.Well.{is_again}
use Rattle.std.proofs.Common.{◌≡◌, ◌+◌, ◌<◌, ◌≤◌, ◌∙◌, true, false, List, get_or, length, reverse, refl, ap, sym, subst, arith}
use Rattle.std.proofs.lemmas.Option.{slice_get_read}
use Rattle.sheet_model.specs.declared.sheet.Template.{Template}
use Rattle.template_machine.specs.Made.{LeavesScope}
use Rattle.template_machine.specs.Standing.{standing_of}
use Rattle.template_machine.specs.Well.{CanTakeOff}
use Rattle.template_machine.proofs.Ended.{group_within, one_template, scope_left, template_finds, template_left, template_within}
use Rattle.template_machine.proofs.Lightened.{begins_ok, load_off}
use Rattle.template_machine.specs.Work.{frame_work, load, means_of}
use Rattle.template_machine.specs.declared.run.Run.{Run}
use Rattle.template_machine.proofs.run.Run.end_template.Goals as goal

pub bounds-as_slice-template : goal.bounds-as_slice-template
bounds-as_slice-template c =
    let p = c.args.program.now in
    let r = c.args.self.now in
    let f = template_finds p r c.args.running c.args.template c.args.level c.args.spent c.requires.op c.requires.body in
    subst (λ (l : List Template). c.args.template < length l) (sym c.as_slice.ensures) (template_within p c.args.template f.declared f.is)

pub leave_scope-requires-clause-group : goal.leave_scope-requires-clause-group
leave_scope-requires-clause-group c =
    let p = c.args.program.now in
    let r = c.args.self.now in
    let f = template_finds p r c.args.running c.args.template c.args.level c.args.spent c.requires.op c.requires.body in
    let t = c.index-as_slice-template.result in
    let is : t ≡ get_or p.sheet.templates c.args.template t = c.index-as_slice-template.is ∙ ap (λ l. get_or l c.args.template t) c.as_slice.ensures in
    let got = slice_get_read p.sheet.templates (length p.sheet.templates) c.args.template t refl (template_within p c.args.template f.declared f.is) is in
    let same = one_template t f.declared (sym got ∙ f.is) in
    let new : t.new_scope ≡ true = cc in
    subst (λ (x : Template). x.group < length r.store) (sym same) (group_within r f.declared.group (f.laid (ap (λ (x : Template). x.new_scope) (sym same) ∙ new)))

pub leave_scope-requires-clause-laid : goal.leave_scope-requires-clause-laid
leave_scope-requires-clause-laid c =
    let p = c.args.program.now in
    let r = c.args.self.now in
    let f = template_finds p r c.args.running c.args.template c.args.level c.args.spent c.requires.op c.requires.body in
    let t = c.index-as_slice-template.result in
    let is : t ≡ get_or p.sheet.templates c.args.template t = c.index-as_slice-template.is ∙ ap (λ l. get_or l c.args.template t) c.as_slice.ensures in
    let got = slice_get_read p.sheet.templates (length p.sheet.templates) c.args.template t refl (template_within p c.args.template f.declared f.is) is in
    let same = one_template t f.declared (sym got ∙ f.is) in
    let new : t.new_scope ≡ true = cc in
    subst (λ (x : Template). CanTakeOff x.group (standing_of r)) (sym same) (f.laid (ap (λ (x : Template). x.new_scope) (sym same) ∙ new))

pub leave_body-requires : goal.leave_body-requires
leave_body-requires c =
    let p = c.args.program.now in
    let r = c.args.self.now in
    let f = template_finds p r c.args.running c.args.template c.args.level c.args.spent c.requires.op c.requires.body in
    let t = c.index-as_slice-template.result in
    let is : t ≡ get_or p.sheet.templates c.args.template t = c.index-as_slice-template.is ∙ ap (λ l. get_or l c.args.template t) c.as_slice.ensures in
    let got = slice_get_read p.sheet.templates (length p.sheet.templates) c.args.template t refl (template_within p c.args.template f.declared f.is) is in
    let same = one_template t f.declared (sym got ∙ f.is) in
    let new : t.new_scope ≡ true = cc in
    let m = record r { frames = c.take_off.new.frames } in
    scope_left p r c.leave_scope.new.self c.take_off.new.frames c.args.running c.args.template c.args.level c.args.spent c.requires.op f
    (c.take_off.ensures f.frame f.frames f.on_top) (ap (λ (x : Template). x.new_scope) (sym same) ∙ new)
    (subst (λ (x : Template). LeavesScope x.group m c.leave_scope.new.self) same c.leave_scope.ensures)

pub leave_body-requires-2 : goal.leave_body-requires-2
leave_body-requires-2 c =
    let p = c.args.program.now in
    let r = c.args.self.now in
    let f = template_finds p r c.args.running c.args.template c.args.level c.args.spent c.requires.op c.requires.body in
    let t = c.index-as_slice-template.result in
    let is : t ≡ get_or p.sheet.templates c.args.template t = c.index-as_slice-template.is ∙ ap (λ l. get_or l c.args.template t) c.as_slice.ensures in
    let got = slice_get_read p.sheet.templates (length p.sheet.templates) c.args.template t refl (template_within p c.args.template f.declared f.is) is in
    let same = one_template t f.declared (sym got ∙ f.is) in
    let none : t.new_scope ≡ false = cc in
    template_left p r c.take_off.new.frames c.args.running c.args.template c.args.level c.args.spent c.requires.op f
    (c.take_off.ensures f.frame f.frames f.on_top) (ap (λ (x : Template). x.new_scope) (sym same) ∙ none)

pub returns-then-declared-clause-works : goal.returns-then-declared-clause-works
returns-then-declared-clause-works c =
    let p = c.args.program.now in
    let r = c.args.self.now in
    let f = template_finds p r c.args.running c.args.template c.args.level c.args.spent c.requires.op c.requires.body in
    let m = c.leave_scope.new.self in
    let rest = c.leave_scope.ensures.rest in
    let frames = ap (λ (x : Run). reverse x.frames.frames) rest ∙ c.take_off.ensures f.frame f.frames f.on_top in
    let off = load_off r m f.frame f.frames f.on_top frames (ap (λ (x : Run). x.source.ahead) rest) (ap (λ (x : Run). x.outer.items) rest) in
    begins_ok p 5 4 r m c.leave_body.new.self c.requires.op.well.steady.places (ap means_of rest)
    (subst (λ w. load m + w ≤ load r) (ap frame_work f.body.1.1.1) off) (omega arith) c.leave_body.result c.leave_body.ensures.asks c.leave_body.ensures.works

pub returns-clause-works : goal.returns-clause-works
returns-clause-works c =
    let p = c.args.program.now in
    let r = c.args.self.now in
    let f = template_finds p r c.args.running c.args.template c.args.level c.args.spent c.requires.op c.requires.body in
    let m = record r { frames = c.take_off.new.frames } in
    let off = load_off r m f.frame f.frames f.on_top (c.take_off.ensures f.frame f.frames f.on_top) refl refl in
    begins_ok p 5 4 r m c.leave_body-2.new.self c.requires.op.well.steady.places refl
    (subst (λ w. load m + w ≤ load r) (ap frame_work f.body.1.1.1) off) (omega arith) c.leave_body-2.result c.leave_body-2.ensures.asks c.leave_body-2.ensures.works

pub returns-then-declared-clause-moves : goal.returns-then-declared-clause-moves
returns-then-declared-clause-moves c = λ alone.
    let p = c.args.program.now in
    let r = c.args.self.now in
    let f = template_finds p r c.args.running c.args.template c.args.level c.args.spent c.requires.op c.requires.body in
    let t = c.index-as_slice-template.result in
    let is : t ≡ get_or p.sheet.templates c.args.template t = c.index-as_slice-template.is ∙ ap (λ l. get_or l c.args.template t) c.as_slice.ensures in
    let got = slice_get_read p.sheet.templates (length p.sheet.templates) c.args.template t refl (template_within p c.args.template f.declared f.is) is in
    let m = c.leave_scope.new.self in
    let n = record r { frames = c.take_off.new.frames } in
    let l = c.leave_scope.ensures in
    let new : t.new_scope ≡ true = cc in
    let frames = ap (λ (x : Run). reverse x.frames.frames) l.rest ∙ c.take_off.ensures f.frame f.frames f.on_top in
    let rest : m ≡ record r { frames = m.frames; store = m.store; putting = m.putting } = l.rest ∙ ap (λ x. record r { frames = x; store = m.store; putting = m.putting }) (sym (ap (λ (x : Run). x.frames) l.rest)) in
    template_moves p r m c.leave_body.new.self c.args.running c.args.template c.args.level c.args.spent c.requires.op f t c.leave_body.result got frames rest
    (λ given left. state_left given p n m t.group left l ∙ ap (λ b. ends_scope given b t.group (state_of given p r left)) (sym new))
    (c.leave_body.ensures.moves (alone_left p r m rest (unskipped_below p r m _ c.args.template c.args.level c.args.spent f frames) (untouched_below p r m _ c.args.template c.args.level c.args.spent f frames alone) alone)
    (λ again. ap spent_in frames ∙ f.spent_is (ap (is_again c.args.level) (sym frames) ∙ again)))

pub returns-clause-moves : goal.returns-clause-moves
returns-clause-moves c = λ alone.
    let p = c.args.program.now in
    let r = c.args.self.now in
    let f = template_finds p r c.args.running c.args.template c.args.level c.args.spent c.requires.op c.requires.body in
    let t = c.index-as_slice-template.result in
    let is : t ≡ get_or p.sheet.templates c.args.template t = c.index-as_slice-template.is ∙ ap (λ l. get_or l c.args.template t) c.as_slice.ensures in
    let got = slice_get_read p.sheet.templates (length p.sheet.templates) c.args.template t refl (template_within p c.args.template f.declared f.is) is in
    let m = record r { frames = c.take_off.new.frames } in
    let none : t.new_scope ≡ false = cc in
    let frames = c.take_off.ensures f.frame f.frames f.on_top in
    template_moves p r m c.leave_body-2.new.self c.args.running c.args.template c.args.level c.args.spent c.requires.op f t c.leave_body-2.result got frames refl
    (λ given left. ap (λ b. ends_scope given b t.group (state_of given p r left)) (sym none))
    (c.leave_body-2.ensures.moves (alone_left p r m refl (unskipped_below p r m _ c.args.template c.args.level c.args.spent f frames) (untouched_below p r m _ c.args.template c.args.level c.args.spent f frames alone) alone)
    (λ again. ap spent_in frames ∙ f.spent_is (ap (is_again c.args.level) (sym frames) ∙ again)))
