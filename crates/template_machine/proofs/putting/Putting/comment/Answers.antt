use Rattle.std.proofs.Common.{◌∷◌, [], sym, subst, ◌∙◌}
use Rattle.stx_base.specs.declared.part.Part.TheVariants as part
use Rattle.template_machine.specs.Saying.{Puts}
use Rattle.template_machine.specs.declared.stop.Stop.TheVariants as stop
use Rattle.template_machine.proofs.Saying.{none_there, puts_in, puts_not, puts_out, stops_with}
use Rattle.template_machine.proofs.putting.Putting.comment.Goals as goal

pub returns-in_err-text-clause-puts : goal.returns-in_err-text-clause-puts
returns-in_err-text-clause-puts g c =
    let self = c.args.self.now in
    let out = c.args.out.now in
    subst (λ r. Puts g.S.Sink.output g.S.Sink.told c.args.at (part.Comment c.args.text.now ∷ []) r self self out out) (sym (stops_with c.from_residual.result stop.Memory c.from_residual.ensures.1))
    (puts_not g.S.Sink.output g.S.Sink.told g.met.S.Sink.nothing c.args.at (part.Comment c.args.text.now ∷ []) self self out)

pub returns-in-Some-clause-puts : goal.returns-in-Some-clause-puts
returns-in-Some-clause-puts g c =
    let new = c.keep.new.self in
    let out = c.args.out.now in
    subst (λ t. Puts g.S.Sink.output g.S.Sink.told c.args.at (part.Comment t ∷ []) c.keep.result c.args.self.now new out out) c.in_ok-text.ensures
    (puts_in g.S.Sink.output g.S.Sink.told g.met.S.Sink.nothing c.in-Some.buffer c.args.at (part.Comment c.in_ok-text.text) c.keep.result c.args.self.now new out
    (sym c.in-Some.ensures) c.keep.ensures.keeps)

pub returns-clause-puts : goal.returns-clause-puts
returns-clause-puts g c =
    subst (λ r. Puts g.S.Sink.output g.S.Sink.told c.args.at (part.Comment c.args.text.now ∷ []) r c.args.self.now c.args.self.now c.args.out.now c.comment.new.self) (sym c.written.ensures)
    (puts_out g.S.Sink.output g.S.Sink.told g.met.S.Sink.leaves c.args.at (part.Comment c.args.text.now) c.comment.result c.args.self.now c.args.out.now c.comment.new.self c.comment.ensures
    (sym c.target.ensures ∙ none_there c.target.result (λ x e. c.in_default.not-Some x e)))
