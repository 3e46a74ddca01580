use Rattle.std.proofs.Common.{sym, ◌≡◌, ◌∙◌}
use Rattle.template_machine.specs.declared.source.Origin.TheVariants as origin
use Rattle.template_machine.proofs.Finished.{waits_moves}
use Rattle.std.proofs.Common.{refl, sym, subst}
use Rattle.template_machine.specs.Moments.{IsBuffer, IsDocument}
use Rattle.template_machine.proofs.Spared.{means_stay}
use Rattle.template_machine.proofs.run.Run.want.Goals as goal

pub returns-in-Main-clause-stands : goal.returns-in-Main-clause-stands
returns-in-Main-clause-stands c = record {
  well = c.requires.well;
  doing = c.requires.list;
  ahead = c.requires.ahead;
  list = c.requires.events;
  document = subst IsDocument (sym c.in-Main.is) tt;
}

pub returns-in-Document-clause-stands : goal.returns-in-Document-clause-stands
returns-in-Document-clause-stands c = record {
  well = c.requires.well;
  doing = c.requires.list;
  ahead = c.requires.ahead;
  list = c.requires.events;
  document = subst IsDocument (sym c.in-Document.is) tt;
}

pub tell-requires-clause-buffer : goal.tell-requires-clause-buffer
tell-requires-clause-buffer c = subst (IsBuffer c.in-Buffer.id) (sym c.in-Buffer.is) refl

pub returns-in-Main-clause-works : goal.returns-in-Main-clause-works
returns-in-Main-clause-works c = means_stay c.args.self.now c.args.self.now refl

pub returns-in-Document-clause-works : goal.returns-in-Document-clause-works
returns-in-Document-clause-works c = means_stay c.args.self.now c.args.self.now refl

pub returns-in-Main-clause-moves : goal.returns-in-Main-clause-moves
returns-in-Main-clause-moves c = λ alone. waits_moves c.args.program.now c.args.self.now alone

pub returns-in-Document-clause-moves : goal.returns-in-Document-clause-moves
returns-in-Document-clause-moves c = λ alone. absurd (let no : origin.Main ≡ origin.Document c.in-Document.at = sym alone.origin ∙ c.in-Document.is in cc)

pub returns-in-Buffer-clause-moves : goal.returns-in-Buffer-clause-moves
returns-in-Buffer-clause-moves c = λ alone. absurd (let no = sym alone.origin ∙ c.in-Buffer.is in cc)
