use Rattle.std.proofs.Common.{◌≡◌, ℕ, ◌<◌, ◌∙◌, ◌++◌, ◌∷◌, [], Bool, List, Some, ap, get_or, length, refl, sym, subst, arith}
use Rattle.std.specs.List.{slice_get}
use Rattle.std.proofs.lemmas.Option.{slice_get_read, slice_get_within}
use Rattle.node_stack.specs.Stack.{path}
use Rattle.sheet_model.specs.declared.sheet.Template.{Template}
use Rattle.template_machine.specs.Made.{BindsParams}
use Rattle.template_machine.specs.Well.{IsWell}
use Rattle.template_machine.specs.Working.{IsChosen}
use Rattle.template_machine.specs.declared.program.Program.{Program}
use Rattle.template_machine.specs.declared.run.Doing.TheVariants as doing
use Rattle.template_machine.specs.declared.run.Run.{Run}
use Rattle.template_machine.proofs.EntersBody.{can_apart, can_bind, can_bind_there, enters_full, enters_plain, enters_scoped, enters_scopeless, scope_passes, scope_test, template_names}
use Rattle.template_machine.proofs.Saying.{stops_with}
use Rattle.template_machine.specs.Entering.{Enters}
use Rattle.frame_stack.specs.Stack.{with_frames}
use Rattle.frame_stack.specs.declared.locals.Local.{Local}
use Rattle.template_machine.proofs.Entered.{can_steady, entered_with, enter_group, enter_params, enter_plain, enter_scoped, enter_sees, enter_steady, enter_waits, scope_sees, scope_waits, starts_within}
use Rattle.template_machine.proofs.Operating.{on_ok}
use Rattle.template_machine.proofs.Ways.{way_level}
use Rattle.frame_stack.specs.declared.frame.Frame.TheVariants.{Body}
use Rattle.template_machine.specs.Work.{Begins}
use Rattle.template_machine.proofs.Beginning.{begins_plain, begins_scoped}
use Rattle.template_machine.proofs.run.Run.enter.Goals as goal

-- the template that is read
read : (p : Program) (r : Run) (template alternative : ℕ) (xs : List Template) (q : Template) → IsChosen p r template alternative → xs ≡ p.sheet.templates
    → q ≡ get_or xs template q → slice_get p.sheet.templates template ≡ Some q
read p r template alternative xs q chosen same is =
    slice_get_read p.sheet.templates (length p.sheet.templates) template q refl (slice_get_within p.sheet.templates template chosen.declared chosen.is)
    (is ∙ ap (λ l. get_or l template q) same)

pub start_of_template-requires : goal.start_of_template-requires
start_of_template-requires c =
    starts_within c.args.program.now c.args.spent c.args.self.now c.args.chosen.template c.requires.chosen.declared c.requires.node c.requires.chosen.is

pub bounds-as_slice-template : goal.bounds-as_slice-template
bounds-as_slice-template c =
    subst (λ l. c.args.chosen.template < length l) (sym c.as_slice.ensures)
    (slice_get_within c.args.program.now.sheet.templates c.args.chosen.template c.requires.chosen.declared c.requires.chosen.is)

pub bind_waiting-requires-clause-sees : goal.bind_waiting-requires-clause-sees
bind_waiting-requires-clause-sees c =
    let p = c.args.program.now in
    let r = c.args.self.now in
    let m = c.push.new.self in
    let n = c.args.chosen.template in
    let alternative = c.args.chosen.alternative in
    let q = c.index-as_slice-template.result in
    let there = read p r n alternative c.as_slice.result.now q c.requires.chosen c.as_slice.ensures c.index-as_slice-template.is in
    enter_sees p r m n alternative c.start_of_template.result c.level.result c.new.result c.args.spent q c.requires.node c.requires.chosen there c.new.ensures c.in_ok-push.ensures.ok

pub bind_waiting-requires-clause-params : goal.bind_waiting-requires-clause-params
bind_waiting-requires-clause-params c =
    let p = c.args.program.now in
    let r = c.args.self.now in
    let m = c.push.new.self in
    let n = c.args.chosen.template in
    let alternative = c.args.chosen.alternative in
    let q = c.index-as_slice-template.result in
    let there = read p r n alternative c.as_slice.result.now q c.requires.chosen c.as_slice.ensures c.index-as_slice-template.is in
    enter_params p r m n alternative c.start_of_template.result c.level.result c.new.result c.args.spent q c.requires.node c.requires.chosen there c.new.ensures c.in_ok-push.ensures.ok

pub bind_waiting-requires-clause-waits : goal.bind_waiting-requires-clause-waits
bind_waiting-requires-clause-waits c =
    let p = c.args.program.now in
    let r = c.args.self.now in
    let m = c.push.new.self in
    let n = c.args.chosen.template in
    let alternative = c.args.chosen.alternative in
    let q = c.index-as_slice-template.result in
    let there = read p r n alternative c.as_slice.result.now q c.requires.chosen c.as_slice.ensures c.index-as_slice-template.is in
    enter_waits p r m n alternative c.start_of_template.result c.level.result c.new.result c.args.spent q c.requires.node c.requires.chosen there c.new.ensures c.in_ok-push.ensures.ok
    c.args.asker c.requires.asker

pub returns-then-not-declared-clause-stands : goal.returns-then-not-declared-clause-stands
returns-then-not-declared-clause-stands c =
    let p = c.args.program.now in
    let r = c.args.self.now in
    let m = c.push.new.self in
    let n = c.args.chosen.template in
    let alternative = c.args.chosen.alternative in
    let q = c.index-as_slice-template.result in
    let there = read p r n alternative c.as_slice.result.now q c.requires.chosen c.as_slice.ensures c.index-as_slice-template.is in
    on_ok c.bind_waiting.result (BindsParams q.params (record m { doing = doing.Body }) c.bind_waiting.new.self) (IsWell p c.bind_waiting.new.self) c.bind_waiting.ensures.binds
    (enter_plain p r m n alternative c.start_of_template.result c.level.result c.new.result c.args.spent q c.requires.node c.requires.chosen there c.new.ensures c.in_ok-push.ensures.ok
    c.bind_waiting.new.self c.if-not-declared.true c.start_of_template.ensures (c.level.ensures ∙ sym (way_level (path r.source.stack))))

pub enter_scope-requires-clause-steady : goal.enter_scope-requires-clause-steady
enter_scope-requires-clause-steady c =
    let p = c.args.program.now in
    let r = c.args.self.now in
    let m = c.push.new.self in
    let n = c.args.chosen.template in
    let alternative = c.args.chosen.alternative in
    let q = c.index-as_slice-template.result in
    let there = read p r n alternative c.as_slice.result.now q c.requires.chosen c.as_slice.ensures c.index-as_slice-template.is in
    enter_steady p r m n alternative c.start_of_template.result c.level.result c.new.result c.args.spent q c.requires.node c.requires.chosen there c.new.ensures c.in_ok-push.ensures.ok

pub enter_scope-requires-clause-sees : goal.enter_scope-requires-clause-sees
enter_scope-requires-clause-sees c =
    let p = c.args.program.now in
    let r = c.args.self.now in
    let m = c.push.new.self in
    let n = c.args.chosen.template in
    let alternative = c.args.chosen.alternative in
    let q = c.index-as_slice-template.result in
    let there = read p r n alternative c.as_slice.result.now q c.requires.chosen c.as_slice.ensures c.index-as_slice-template.is in
    enter_sees p r m n alternative c.start_of_template.result c.level.result c.new.result c.args.spent q c.requires.node c.requires.chosen there c.new.ensures c.in_ok-push.ensures.ok

pub enter_scope-requires-clause-group : goal.enter_scope-requires-clause-group
enter_scope-requires-clause-group c =
    let p = c.args.program.now in
    let r = c.args.self.now in
    let m = c.push.new.self in
    let n = c.args.chosen.template in
    let alternative = c.args.chosen.alternative in
    let q = c.index-as_slice-template.result in
    let there = read p r n alternative c.as_slice.result.now q c.requires.chosen c.as_slice.ensures c.index-as_slice-template.is in
    enter_group p r m n alternative c.start_of_template.result c.level.result c.new.result c.args.spent q c.requires.node c.requires.chosen there c.new.ensures c.in_ok-push.ensures.ok

pub bind_waiting-requires-2-clause-sees : goal.bind_waiting-requires-2-clause-sees
bind_waiting-requires-2-clause-sees c =
    let p = c.args.program.now in
    let r = c.args.self.now in
    let m = c.push.new.self in
    let n = c.args.chosen.template in
    let alternative = c.args.chosen.alternative in
    let q = c.index-as_slice-template.result in
    let there = read p r n alternative c.as_slice.result.now q c.requires.chosen c.as_slice.ensures c.index-as_slice-template.is in
    scope_sees p r m n alternative c.start_of_template.result c.level.result c.new.result c.args.spent q c.requires.node c.requires.chosen there c.new.ensures c.in_ok-push.ensures.ok
    c.enter_scope.new.self c.in_ok-enter_scope.ensures.lays

pub bind_waiting-requires-2-clause-params : goal.bind_waiting-requires-2-clause-params
bind_waiting-requires-2-clause-params c =
    let p = c.args.program.now in
    let r = c.args.self.now in
    let m = c.push.new.self in
    let n = c.args.chosen.template in
    let alternative = c.args.chosen.alternative in
    let q = c.index-as_slice-template.result in
    let there = read p r n alternative c.as_slice.result.now q c.requires.chosen c.as_slice.ensures c.index-as_slice-template.is in
    enter_params p r m n alternative c.start_of_template.result c.level.result c.new.result c.args.spent q c.requires.node c.requires.chosen there c.new.ensures c.in_ok-push.ensures.ok

pub bind_waiting-requires-2-clause-waits : goal.bind_waiting-requires-2-clause-waits
bind_waiting-requires-2-clause-waits c =
    let p = c.args.program.now in
    let r = c.args.self.now in
    let m = c.push.new.self in
    let n = c.args.chosen.template in
    let alternative = c.args.chosen.alternative in
    let q = c.index-as_slice-template.result in
    let there = read p r n alternative c.as_slice.result.now q c.requires.chosen c.as_slice.ensures c.index-as_slice-template.is in
    scope_waits p r m n alternative c.start_of_template.result c.level.result c.new.result c.args.spent q c.requires.node c.requires.chosen there c.new.ensures c.in_ok-push.ensures.ok
    c.enter_scope.new.self c.in_ok-enter_scope.ensures.lays c.args.asker c.requires.asker

pub returns-clause-stands : goal.returns-clause-stands
returns-clause-stands c =
    let p = c.args.program.now in
    let r = c.args.self.now in
    let m = c.push.new.self in
    let n = c.args.chosen.template in
    let alternative = c.args.chosen.alternative in
    let q = c.index-as_slice-template.result in
    let there = read p r n alternative c.as_slice.result.now q c.requires.chosen c.as_slice.ensures c.index-as_slice-template.is in
    on_ok c.bind_waiting-2.result (BindsParams q.params c.enter_scope.new.self c.bind_waiting-2.new.self) (IsWell p c.bind_waiting-2.new.self) c.bind_waiting-2.ensures.binds
    (enter_scoped p r m n alternative c.start_of_template.result c.level.result c.new.result c.args.spent q c.requires.node c.requires.chosen there c.new.ensures c.in_ok-push.ensures.ok
    c.enter_scope.new.self c.in_ok-enter_scope.ensures.lays
    c.bind_waiting-2.new.self c.if-not-declared.false c.start_of_template.ensures (c.level.ensures ∙ sym (way_level (path r.source.stack))))

pub returns-then-not-declared-clause-works : goal.returns-then-not-declared-clause-works
returns-then-not-declared-clause-works c =
    let m = c.push.new.self in
    let q = c.index-as_slice-template.result in
    on_ok c.bind_waiting.result (BindsParams q.params (record m { doing = doing.Body }) c.bind_waiting.new.self) (Begins 5 c.args.self.now c.bind_waiting.new.self) c.bind_waiting.ensures.binds
    (begins_plain c.args.self.now m (Body c.args.chosen.template c.args.chosen.alternative c.start_of_template.result c.new.result c.level.result c.args.spent) q.params (omega arith) c.in_ok-push.ensures.ok
    c.bind_waiting.new.self)

pub returns-clause-works : goal.returns-clause-works
returns-clause-works c =
    let q = c.index-as_slice-template.result in
    on_ok c.bind_waiting-2.result (BindsParams q.params c.enter_scope.new.self c.bind_waiting-2.new.self) (Begins 5 c.args.self.now c.bind_waiting-2.new.self) c.bind_waiting-2.ensures.binds
    (begins_scoped c.args.self.now c.push.new.self (Body c.args.chosen.template c.args.chosen.alternative c.start_of_template.result c.new.result c.level.result c.args.spent) q.params (omega arith)
    c.in_ok-push.ensures.ok q.group c.enter_scope.new.self c.bind_waiting-2.new.self c.in_ok-enter_scope.ensures.lays)

-- the run behind the push
pushed_is : (r m : Run) (n alternative start level : ℕ) (locals : List Local) (spent : Bool)
    → m ≡ record r { frames = with_frames (r.frames.frames ++ Body n alternative start locals level spent ∷ []) r.frames } → locals ≡ []
    → record m { doing = doing.Body } ≡ record r { frames = with_frames (r.frames.frames ++ Body n alternative start [] level spent ∷ []) r.frames; doing = doing.Body }
pushed_is r m n alternative start level locals spent is none =
    ap (λ (y : Run). record y { doing = doing.Body }) is ∙ ap (λ ls. entered_with (Body n alternative start ls level spent) r) none

pub returns-in_err-push-clause-enters : goal.returns-in_err-push-clause-enters
returns-in_err-push-clause-enters c =
    let p = c.args.program.now in
    let r = c.args.self.now in
    let n = c.args.chosen.template in
    let alternative = c.args.chosen.alternative in
    let spent = c.args.spent in
    let chosen = c.requires.chosen in
    let e = c.in_err-push.field-0.0 in
    subst (λ x. Enters p n alternative c.args.asker spent c.args.at x r c.push.new.self) (sym (stops_with c.from_residual.result e c.from_residual.ensures.1))
    (enters_full p r c.push.new.self n alternative c.start_of_template.result c.level.result spent chosen.declared c.args.asker c.args.at chosen chosen.is c.start_of_template.ensures
    (c.level.ensures ∙ sym (way_level (path r.source.stack))) (can_apart p spent r c.requires.node) e c.push.new.self c.in_err-push.ensures.full)

pub returns-then-not-declared-clause-enters : goal.returns-then-not-declared-clause-enters
returns-then-not-declared-clause-enters c =
    let p = c.args.program.now in
    let r = c.args.self.now in
    let n = c.args.chosen.template in
    let alternative = c.args.chosen.alternative in
    let spent = c.args.spent in
    let start = c.start_of_template.result in
    let level = c.level.result in
    let q = c.index-as_slice-template.result in
    let m = record c.push.new.self { doing = doing.Body } in
    let there = read p r n alternative c.as_slice.result.now q c.requires.chosen c.as_slice.ensures c.index-as_slice-template.is in
    let own = c.level.ensures ∙ sym (way_level (path r.source.stack)) in
    let apart = can_apart p spent r c.requires.node in
    let pushed = pushed_is r c.push.new.self n alternative start level c.new.result spent c.in_ok-push.ensures.ok c.new.ensures in
    let room = c.in_ok-push.ensures.room level refl in
    let waits = enter_waits p r c.push.new.self n alternative start level c.new.result spent q c.requires.node c.requires.chosen there c.new.ensures c.in_ok-push.ensures.ok c.args.asker c.requires.asker in
    let names = template_names p r (can_steady p spent r c.requires.node) n q there in
    enters_plain p r m n alternative start level spent q c.args.asker c.args.at c.requires.chosen there c.start_of_template.ensures own apart pushed room waits names c.if-not-declared.true
    c.bind_waiting.new.self c.bind_waiting.result
    (c.bind_waiting.ensures.takes
    (can_bind p r m n alternative start level spent q c.args.asker c.args.at c.requires.chosen there c.start_of_template.ensures own apart pushed room waits names))

pub returns-in_err-enter_scope-clause-enters : goal.returns-in_err-enter_scope-clause-enters
returns-in_err-enter_scope-clause-enters c =
    let p = c.args.program.now in
    let r = c.args.self.now in
    let n = c.args.chosen.template in
    let alternative = c.args.chosen.alternative in
    let spent = c.args.spent in
    let start = c.start_of_template.result in
    let level = c.level.result in
    let q = c.index-as_slice-template.result in
    let m = record c.push.new.self { doing = doing.Body } in
    let there = read p r n alternative c.as_slice.result.now q c.requires.chosen c.as_slice.ensures c.index-as_slice-template.is in
    let own = c.level.ensures ∙ sym (way_level (path r.source.stack)) in
    let apart = can_apart p spent r c.requires.node in
    let pushed = pushed_is r c.push.new.self n alternative start level c.new.result spent c.in_ok-push.ensures.ok c.new.ensures in
    let room = c.in_ok-push.ensures.room level refl in
    let waits = enter_waits p r c.push.new.self n alternative start level c.new.result spent q c.requires.node c.requires.chosen there c.new.ensures c.in_ok-push.ensures.ok c.args.asker c.requires.asker in
    let names = template_names p r (can_steady p spent r c.requires.node) n q there in
    let anew = c.if-not-declared.false in
    let e = c.in_err-enter_scope.field-0.0 in
    let tests = scope_test p r m n alternative start level spent q c.args.asker c.args.at c.requires.chosen there c.start_of_template.ensures own apart pushed room waits names anew in
    let passes_it = scope_passes p r m n alternative start level spent q c.args.asker c.args.at c.requires.chosen there c.start_of_template.ensures own apart pushed room waits names anew in
    subst (λ x. Enters p n alternative c.args.asker spent c.args.at x r c.enter_scope.new.self) (sym (stops_with c.from_residual-in_err-enter_scope.result e c.from_residual-in_err-enter_scope.ensures.1))
    (enters_scopeless p r m n alternative start level spent q c.args.asker c.args.at c.requires.chosen there c.start_of_template.ensures own apart pushed room waits names anew c.enter_scope.new.self e
    (c.in_err-enter_scope.ensures.makes _ tests passes_it))

pub returns-clause-enters : goal.returns-clause-enters
returns-clause-enters c =
    let p = c.args.program.now in
    let r = c.args.self.now in
    let n = c.args.chosen.template in
    let alternative = c.args.chosen.alternative in
    let spent = c.args.spent in
    let start = c.start_of_template.result in
    let level = c.level.result in
    let q = c.index-as_slice-template.result in
    let m = record c.push.new.self { doing = doing.Body } in
    let mid = c.enter_scope.new.self in
    let there = read p r n alternative c.as_slice.result.now q c.requires.chosen c.as_slice.ensures c.index-as_slice-template.is in
    let own = c.level.ensures ∙ sym (way_level (path r.source.stack)) in
    let apart = can_apart p spent r c.requires.node in
    let pushed = pushed_is r c.push.new.self n alternative start level c.new.result spent c.in_ok-push.ensures.ok c.new.ensures in
    let room = c.in_ok-push.ensures.room level refl in
    let waits = enter_waits p r c.push.new.self n alternative start level c.new.result spent q c.requires.node c.requires.chosen there c.new.ensures c.in_ok-push.ensures.ok c.args.asker c.requires.asker in
    let names = template_names p r (can_steady p spent r c.requires.node) n q there in
    let anew = c.if-not-declared.false in
    let tests = scope_test p r m n alternative start level spent q c.args.asker c.args.at c.requires.chosen there c.start_of_template.ensures own apart pushed room waits names anew in
    let passes_it = scope_passes p r m n alternative start level spent q c.args.asker c.args.at c.requires.chosen there c.start_of_template.ensures own apart pushed room waits names anew in
    let scope = c.in_ok-enter_scope.ensures.makes _ tests passes_it in
    enters_scoped p r m n alternative start level spent q c.args.asker c.args.at c.requires.chosen there c.start_of_template.ensures own apart pushed room waits names anew mid
    c.bind_waiting-2.new.self c.in_ok-enter_scope.ensures.lays.rest scope c.bind_waiting-2.result
    (c.bind_waiting-2.ensures.takes
    (can_bind_there p r m n alternative start level spent q c.args.asker c.args.at c.requires.chosen there c.start_of_template.ensures own apart pushed room waits names anew mid
    c.bind_waiting-2.new.self c.in_ok-enter_scope.ensures.lays.rest scope))
