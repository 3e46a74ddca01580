use Rattle.std.proofs.Common.{◌∷◌, [], false, refl, sym, subst, ◌∙◌}
use Rattle.stx_base.specs.declared.part.Part.TheVariants as part
use Rattle.template_machine.specs.Saying.{Puts}
use Rattle.template_machine.proofs.Saying.{none_there, puts_in, puts_out, puts_past}
use Rattle.template_machine.proofs.putting.Putting.start_named.Goals as goal

pub returns-in-Some-clause-puts : goal.returns-in-Some-clause-puts
returns-in-Some-clause-puts g c =
    let out = c.args.out.now in
    subst (λ l. Puts g.S.Sink.output g.S.Sink.told c.args.at (part.Start c.args.name l ∷ []) c.keep.result c.args.self.now c.keep.new.self out out) c.new-scope.ensures
    (puts_in g.S.Sink.output g.S.Sink.told g.met.S.Sink.nothing c.in-Some.buffer c.args.at (part.Start c.args.name c.new-scope.result) c.keep.result c.args.self.now c.keep.new.self out
    (sym c.in-Some.ensures) c.keep.ensures.keeps)

pub returns-clause-puts : goal.returns-clause-puts
returns-clause-puts g c =
    let old = c.args.self.now in
    let new = record old { is_told = false; spare = c.start.new.spare } in
    let p = part.Start c.args.name c.new-none.result in
    subst (λ l. Puts g.S.Sink.output g.S.Sink.told c.args.at (part.Start c.args.name l ∷ []) c.written.result old new c.args.out.now c.start.new.self) c.new-none.ensures
    (subst (λ r. Puts g.S.Sink.output g.S.Sink.told c.args.at (p ∷ []) r old new c.args.out.now c.start.new.self) (sym c.written.ensures)
    (puts_past g.S.Sink.output g.S.Sink.told c.args.at (p ∷ []) _ old old new c.args.out.now c.start.new.self refl refl
    (puts_out g.S.Sink.output g.S.Sink.told g.met.S.Sink.leaves c.args.at p c.start.result old c.args.out.now c.start.new.self c.start.ensures
    (sym c.target.ensures ∙ none_there c.target.result (λ x e. c.in_default.not-Some x e)))))
