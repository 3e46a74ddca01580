use Rattle.std.proofs.Common.{[], refl, sym, subst}
use Rattle.template_machine.specs.Putting.{put_in}
use Rattle.template_machine.specs.Saying.{GoesAs, placed}
use Rattle.template_machine.proofs.Saying.{kept_goes}
use Rattle.template_machine.proofs.Shelved.{put_stands, target_there}
use Rattle.template_machine.proofs.putting.Putting.keep.Goals as goal

pub put-requires-clause-id : goal.put-requires-clause-id
put-requires-clause-id c = (target_there c.args.self.now c.args.buffer c.requires.can c.requires.target).0

pub put-requires-clause-written : goal.put-requires-clause-written
put-requires-clause-written c = (target_there c.args.self.now c.args.buffer c.requires.can c.requires.target).1

pub returns-clause-stands : goal.returns-clause-stands
returns-clause-stands c = put_stands c.args.self.now c.put.new.self c.args.buffer c.args.part c.put.result c.put.ensures.ok c.put.ensures.err c.put.ensures.taken c.requires.text

pub returns-clause-keeps : goal.returns-clause-keeps
returns-clause-keeps c = λ left st go.
    let old = c.args.self.now in
    let new = record old { buffers = c.put.new.self } in
    subst (λ r. GoesAs r (put_in c.args.buffer c.args.at c.args.part (placed old left st) go) [] (go (placed new left st))) (sym c.buffered.ensures)
    (kept_goes c.args.buffer c.args.at c.args.part old new c.put.result c.put.ensures.ok c.put.ensures.taken c.put.ensures.fault refl left st go)
