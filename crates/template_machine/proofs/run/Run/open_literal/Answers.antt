use Rattle.std.proofs.Common.{◌≡◌, ◌∷◌, [], Ok, Err, eqb-true, map, refl, ap, sym, subst, ◌∙◌}
use Rattle.std.proofs.lemmas.List.{nil_from_length}
use Rattle.stx_base.specs.declared.part.Part.TheVariants as part
use Rattle.instr_code.specs.Steps.{Holds}
use Rattle.stxpath_values.specs.Outcome.{each}
use Rattle.template_machine.specs.Acting.{attribute_of}
use Rattle.template_machine.specs.Opening.{Opens, literal_at}
use Rattle.template_machine.specs.Putting.{attribute_part}
use Rattle.template_machine.specs.Saying.{sight}
use Rattle.template_machine.specs.Stepwise.{Working}
use Rattle.template_machine.proofs.InTurn.{puts_stopped, puts_then}
use Rattle.template_machine.proofs.Opening.{literal_begins, literal_goes, literal_stops}
use Rattle.template_machine.proofs.Saying.{stops_with}
use Rattle.template_machine.proofs.Shelved.{stands_on}
use Rattle.template_machine.proofs.Writing.{only_on, only_puts}
use Rattle.template_machine.proofs.run.Run.open_literal.Goals as goal

pub returns-in_err-start-clause-only : goal.returns-in_err-start-clause-only
returns-in_err-start-clause-only g c = only_on _ _ _ c.literal_attrs.ensures.only (only_puts _ _ c.start-2.ensures.stands)

pub returns-clause-only : goal.returns-clause-only
returns-clause-only g c = only_on _ _ _ c.literal_attrs.ensures.only (only_puts _ _ (stands_on _ _ _ c.start-2.ensures.stands c.attributes.ensures.stands))

-- What is done.

pub returns-then-is_empty-clause-opens : goal.returns-then-is_empty-clause-opens
returns-then-is_empty-clause-opens g c = λ body at.
    let r = c.args.self.now in
    literal_begins g.S.Sink.output g.S.Sink.told c.args.program.now c.args.name.now c.args.attrs.now body c.args.spot.at [] c.start.result r c.start.new.self c.args.out.now c.start.new.out
    (ap (each (attribute_of (sight c.args.program.now r))) (nil_from_length c.args.attrs.now (eqb-true _ _ (sym c.is_empty.ensures ∙ c.if-is_empty.true)))) c.start.ensures.puts

pub returns-in_err-made-clause-opens : goal.returns-in_err-made-clause-opens
returns-in_err-made-clause-opens g c = λ body at.
    let r = c.args.self.now in
    let out = c.args.out.now in
    let e = c.in_err-made.field-0.0 in
    let x = literal_at c.args.name.now c.args.attrs.now body c.args.spot.at in
    subst (λ y. Opens g.S.Sink.output g.S.Sink.told c.args.program.now x (λ (w : Working). Holds [] w) y r c.literal_attrs.new.self out out) (sym (stops_with c.from_residual.result e c.from_residual.ensures.1))
    (literal_stops g.S.Sink.output g.S.Sink.told c.args.program.now _ g.met.S.Sink.nothing c.args.name.now c.args.attrs.now body c.args.spot.at e r c.literal_attrs.new.self out (c.in_err-made.ensures.gave at))

pub returns-in_err-start-clause-opens : goal.returns-in_err-start-clause-opens
returns-in_err-start-clause-opens g c = λ body at.
    let r = c.args.self.now in
    let mid = c.literal_attrs.new.self in
    let new = record mid { putting = c.start-2.new.self } in
    let e = c.in_err-start.field-0.0 in
    let made = c.in_ok-made.made in
    let x = literal_at c.args.name.now c.args.attrs.now body c.args.spot.at in
    subst (λ y. Opens g.S.Sink.output g.S.Sink.told c.args.program.now x (λ (w : Working). Holds [] w) y r new c.args.out.now c.start-2.new.out)
    (sym (stops_with c.from_residual-in_err-start.result e c.from_residual-in_err-start.ensures.1))
    (literal_goes g.S.Sink.output g.S.Sink.told c.args.program.now c.args.name.now c.args.attrs.now body c.args.spot.at made (Err e) r mid new c.args.out.now c.start-2.new.out
    (c.in_ok-made.ensures.gave at) c.literal_attrs.ensures.rest refl
    (puts_stopped g.S.Sink.output g.S.Sink.told c.args.spot.at (part.Start c.args.name.now [] ∷ []) (map attribute_part made) e mid.putting new.putting new.putting c.args.out.now c.start-2.new.out c.in_err-start.ensures.puts))

pub returns-clause-opens : goal.returns-clause-opens
returns-clause-opens g c = λ body at.
    let r = c.args.self.now in
    let mid = c.literal_attrs.new.self in
    let new = record mid { putting = c.attributes.new.self } in
    let made = c.in_ok-made.made in
    literal_goes g.S.Sink.output g.S.Sink.told c.args.program.now c.args.name.now c.args.attrs.now body c.args.spot.at made c.attributes.result r mid new c.args.out.now c.attributes.new.out
    (c.in_ok-made.ensures.gave at) c.literal_attrs.ensures.rest refl
    (puts_then g.S.Sink.output g.S.Sink.told g.met.S.Sink.leaves g.met.S.Sink.further c.args.spot.at (part.Start c.args.name.now [] ∷ []) (map attribute_part made) _ c.attributes.result
    mid.putting c.start-2.new.self new.putting c.args.out.now c.start-2.new.out c.attributes.new.out c.in_ok-start.ensures.puts c.attributes.ensures.puts)
