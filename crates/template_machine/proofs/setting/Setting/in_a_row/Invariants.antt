use Rattle.std.proofs.Common.{◌≡◌, ◌++◌, [], Ok, drop}
use Rattle.stxpath_values.specs.Outcome.{and_then, each}
use Rattle.stxpath_values.specs.Words.{joined}
use Rattle.template_machine.specs.Evaluating.{seen}
use Rattle.template_machine.specs.Values.{part_text}
use Rattle.template_machine.proofs.setting.Setting.in_a_row.Given as goal

-- what there is, and then the texts of the parts that are left
abbrev pub invariant-loop-part : goal.invariant-loop-part
invariant-loop-part g l =
    and_then (each (part_text (seen g.V.Vars.value_of l.self)) l.parts) (λ texts. Ok (joined [] texts))
    ≡ and_then (each (part_text (seen g.V.Vars.value_of l.self)) (drop l.part-index l.parts)) (λ texts. Ok (l.whole ++ joined [] texts))
