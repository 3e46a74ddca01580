use Rattle.std.proofs.Common.{◌∷◌, [], refl, sym, subst, ◌∙◌}
use Rattle.stx_base.specs.declared.part.Part.TheVariants as part
use Rattle.template_machine.specs.Saying.{Puts}
use Rattle.template_machine.specs.declared.stop.Stop.TheVariants as stop
use Rattle.template_machine.proofs.Saying.{none_there, puts_in, puts_not, puts_out, puts_past, stops_with}
use Rattle.template_machine.proofs.putting.Putting.end.Goals as goal

pub returns-in_err-name-clause-puts : goal.returns-in_err-name-clause-puts
returns-in_err-name-clause-puts g c =
    let self = c.args.self.now in
    let out = c.args.out.now in
    subst (λ r. Puts g.S.Sink.output g.S.Sink.told c.args.at (part.End c.args.name.now ∷ []) r self self out out) (sym (stops_with c.from_residual.result stop.Memory c.from_residual.ensures.1))
    (puts_not g.S.Sink.output g.S.Sink.told g.met.S.Sink.nothing c.args.at (part.End c.args.name.now ∷ []) self self out)

pub returns-in-Some-clause-puts : goal.returns-in-Some-clause-puts
returns-in-Some-clause-puts g c =
    let new = c.keep.new.self in
    let out = c.args.out.now in
    subst (λ t. Puts g.S.Sink.output g.S.Sink.told c.args.at (part.End t ∷ []) c.keep.result c.args.self.now new out out) c.in_ok-name.ensures
    (puts_in g.S.Sink.output g.S.Sink.told g.met.S.Sink.nothing c.in-Some.buffer c.args.at (part.End c.in_ok-name.name) c.keep.result c.args.self.now new out
    (sym c.in-Some.ensures) c.keep.ensures.keeps)

pub returns-clause-puts : goal.returns-clause-puts
returns-clause-puts g c =
    let old = c.args.self.now in
    let new = record old { spare = c.end.new.spare } in
    subst (λ r. Puts g.S.Sink.output g.S.Sink.told c.args.at (part.End c.args.name.now ∷ []) r old new c.args.out.now c.end.new.self) (sym c.written.ensures)
    (puts_past g.S.Sink.output g.S.Sink.told c.args.at (part.End c.args.name.now ∷ []) _ old old new c.args.out.now c.end.new.self refl refl
    (puts_out g.S.Sink.output g.S.Sink.told g.met.S.Sink.leaves c.args.at (part.End c.args.name.now) c.end.result old c.args.out.now c.end.new.self c.end.ensures
    (sym c.target.ensures ∙ none_there c.target.result (λ x e. c.in_default.not-Some x e))))
