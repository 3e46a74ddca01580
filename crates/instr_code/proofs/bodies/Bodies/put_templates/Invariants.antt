use Rattle.std.proofs.Common.{◌≡◌, ◌++◌, map}
use Rattle.std.specs.Vec.Iter.{into_iter_items}
use Rattle.instr_code.specs.Bare.{template_without_body}
use Rattle.instr_code.specs.Bodies.{PutsBodies}
use Rattle.sheet_model.specs.declared.sheet.Template.{Template}
use Rattle.instr_code.proofs.bodies.Bodies.put_templates.Given as goal

abbrev pub invariant-loop-template : goal.invariant-loop-template
invariant-loop-template l =
    PutsBodies (map (λ (t : Template). t.body) l.yielded) l.initial.self l.self × (l.left ≡ map template_without_body l.yielded)
    × (l.yielded ++ into_iter_items l.template-iterator ≡ l.fn.templates)
