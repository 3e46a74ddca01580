use Rattle.std.proofs.Common.{◌≡◌, ℕ, ◌+◌, ◌++◌, ◌∷◌, [], List, Ok, Err, Some, drop, length, reverse, refl, ap, sym, subst, ◌∙◌, arith, append-nil}
use Rattle.std.proofs.lemmas.List.{at_drop_all}
use Rattle.stx_base.specs.declared.name.Attr.{Attr}
use Rattle.stx_base.specs.declared.name.Name.{Name}
use Rattle.stxpath_values.specs.Outcome.{and_then, each}
use Rattle.template_machine.specs.Acting.{attribute_of}
use Rattle.template_machine.specs.Bodies.{body_in}
use Rattle.template_machine.specs.Saying.{Gave, sight}
use Rattle.template_machine.specs.Values.{template_text}
use Rattle.template_machine.specs.declared.putting.Putting.{Putting}
use Rattle.template_machine.specs.declared.run.Run.{Run}
use Rattle.template_machine.specs.declared.stop.Stop.TheVariants as stop
use Rattle.template_machine.proofs.Handed.{all_so_far, each_more, stops_each, with_rest}
use Rattle.template_machine.proofs.Joining.{dropped_is}
use Rattle.template_machine.proofs.Opening.{gave_then, with_text}
use Rattle.template_machine.proofs.Saying.{stops_with}
use Rattle.template_machine.proofs.Shelved.{same_buffers}
use Rattle.template_machine.proofs.Writing.{only_on, only_puts, only_still}
use Rattle.template_machine.proofs.run.Run.literal_attrs.Goals as goal

pub loop-attr-init : goal.loop-attr-init
loop-attr-init c =
    let f = attribute_of (sight c.args.program.now c.args.self.now) in
    (only_still _, refl, λ at. sym (all_so_far (each f c.args.attrs.now)) ∙ ap (with_rest f c.args.attrs.now) (sym c.attrs-made.ensures.made))

pub loop-attr-preserved : goal.loop-attr-preserved
loop-attr-preserved c =
    let p = c.args.program.now in
    let start = c.args.self.now in
    let mid = c.loop-attr.self in
    let f = attribute_of (sight p start) in
    let attrs = c.args.attrs.now in
    let i = c.loop-attr.attr-index in
    let x = c.attr-item.result in
    let made = c.loop-attr.made in
    let inv = c.loop-attr.invariant in
    let a : Attr = record { name = c.in_ok-name.name; value = c.in_ok-value.value } in
    let same : mid ≡ record start { putting = record start.putting { spare = mid.putting.spare } } = inv.1 in
    let gave : body_in (reverse start.frames.frames) ≡ Some c.args.spot.body → f x ≡ Ok a = λ at.
    ap (λ t. and_then t (with_text x))
    (sym (ap (λ (r : Run). template_text x.value (sight p r)) same) ∙ c.in_ok-value.ensures (ap (λ (r : Run). body_in (reverse r.frames.frames)) same ∙ at))
    ∙ ap (λ (n : Name). with_text (record { name = n; value = x.value }) c.in_ok-value.value) (sym c.in_ok-name.ensures.copy) in (
      only_on _ _ _ inv.0 (only_puts _ _ c.copied_name.ensures.same),
      ap (λ (n : Putting). record mid { putting = n }) c.copied_name.ensures.rest
          ∙ ap (λ (r : Run). record r { putting = record r.putting { spare = c.copied_name.new.self.spare } }) same,
      λ at.
          inv.2 at
          ∙ ap (λ l. with_rest f l made) (dropped_is attrs i x c.loop-attr-test.true c.attr-item.is)
          ∙ each_more f x (drop (i + 1) attrs) a made (gave at)
          ∙ ap (with_rest f (drop (i + 1) attrs)) (sym c.in_ok-push.ensures.ok),
    )

pub returns-in_err-value-clause-only : goal.returns-in_err-value-clause-only
returns-in_err-value-clause-only c = only_on _ _ _ (record { rest = refl; stands = same_buffers _ _ refl refl }) c.loop-attr.invariant.0

pub returns-in_err-name-clause-only : goal.returns-in_err-name-clause-only
returns-in_err-name-clause-only c = only_on _ _ _ (record { rest = refl; stands = same_buffers _ _ refl refl }) (only_on _ _ _ c.loop-attr.invariant.0 (only_puts _ _ c.copied_name.ensures.same))

pub returns-in_err-push-clause-only : goal.returns-in_err-push-clause-only
returns-in_err-push-clause-only c = only_on _ _ _ (record { rest = refl; stands = same_buffers _ _ refl refl }) (only_on _ _ _ c.loop-attr.invariant.0 (only_puts _ _ c.copied_name.ensures.same))

pub returns-clause-only : goal.returns-clause-only
returns-clause-only c = only_on _ _ _ (record { rest = refl; stands = same_buffers _ _ refl refl }) c.loop-attr.invariant.0

pub returns-in_err-value-clause-rest : goal.returns-in_err-value-clause-rest
returns-in_err-value-clause-rest c = c.loop-attr.invariant.1

pub returns-in_err-name-clause-rest : goal.returns-in_err-name-clause-rest
returns-in_err-name-clause-rest c =
    ap (λ (n : Putting). record c.loop-attr.self { putting = n }) c.copied_name.ensures.rest
    ∙ ap (λ (r : Run). record r { putting = record r.putting { spare = c.copied_name.new.self.spare } }) c.loop-attr.invariant.1

pub returns-in_err-push-clause-rest : goal.returns-in_err-push-clause-rest
returns-in_err-push-clause-rest c =
    ap (λ (n : Putting). record c.loop-attr.self { putting = n }) c.copied_name.ensures.rest
    ∙ ap (λ (r : Run). record r { putting = record r.putting { spare = c.copied_name.new.self.spare } }) c.loop-attr.invariant.1

pub returns-clause-rest : goal.returns-clause-rest
returns-clause-rest c = c.loop-attr.invariant.1

pub returns-clause-gave : goal.returns-clause-gave
returns-clause-gave c = λ at.
    let f = attribute_of (sight c.args.program.now c.args.self.now) in
    c.loop-attr.invariant.2 at
    ∙ ap (λ l. with_rest f l c.loop-attr.made) (at_drop_all (λ l. l) c.args.attrs.now c.loop-attr.attr-index (omega (arith, c.loop-attr-test.false)))
    ∙ ap (λ l. Ok l) (append-nil c.loop-attr.made)

pub returns-in_err-value-clause-gave : goal.returns-in_err-value-clause-gave
returns-in_err-value-clause-gave c = λ at.
    let p = c.args.program.now in
    let start = c.args.self.now in
    let mid = c.loop-attr.self in
    let f = attribute_of (sight p start) in
    let attrs = c.args.attrs.now in
    let i = c.loop-attr.attr-index in
    let x = c.attr-item.result in
    let e = c.in_err-value.field-0.0 in
    let inv = c.loop-attr.invariant in
    let same : mid ≡ record start { putting = record start.putting { spare = mid.putting.spare } } = inv.1 in
    let gave : Gave {A = List ℕ} c.args.spot.at (Err e) (template_text x.value (sight p start)) =
    subst (Gave {A = List ℕ} c.args.spot.at (Err e)) (ap (λ (r : Run). template_text x.value (sight p r)) same) (c.in_err-value.ensures (ap (λ (r : Run). body_in (reverse r.frames.frames)) same ∙ at)) in
    subst (λ r. Gave c.args.spot.at r (each f attrs)) (sym (stops_with c.from_residual.result e c.from_residual.ensures.1))
    (stops_each f c.args.spot.at e attrs (drop (i + 1) attrs) x c.loop-attr.made
    (inv.2 at ∙ ap (λ l. with_rest f l c.loop-attr.made) (dropped_is attrs i x c.loop-attr-test.true c.attr-item.is))
    (gave_then c.args.spot.at e (template_text x.value (sight p start)) (with_text x) gave))

pub returns-in_err-name-clause-gave : goal.returns-in_err-name-clause-gave
returns-in_err-name-clause-gave c = λ at.
    subst (λ r. Gave c.args.spot.at r (each (attribute_of (sight c.args.program.now c.args.self.now)) c.args.attrs.now))
    (sym (stops_with c.from_residual-in_err-name.result stop.Memory c.from_residual-in_err-name.ensures.1)) tt

pub returns-in_err-push-clause-gave : goal.returns-in_err-push-clause-gave
returns-in_err-push-clause-gave c = λ at.
    subst (λ r. Gave c.args.spot.at r (each (attribute_of (sight c.args.program.now c.args.self.now)) c.args.attrs.now))
    (sym (stops_with c.from_residual-in_err-push.result stop.Memory c.from_residual-in_err-push.ensures.1)) tt
