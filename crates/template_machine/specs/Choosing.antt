-- How a machine chooses the template for its current node.
use Rattle.std.specs.Prelude.{◌≡◌, ℕ, List, Option, option_map}
use Rattle.group_scope.specs.Choice.{chosen_of}
use Rattle.group_scope.specs.declared.rank.Chosen.{Chosen}
use Rattle.result_writer.specs.Target.{Left}
use Rattle.template_machine.specs.Job.{Given}
use Rattle.template_machine.specs.Passing.{choice}
use Rattle.template_machine.specs.Programs.{IsProgramOf}
use Rattle.template_machine.specs.Still.{nodes_of, state_of, trail_of}
use Rattle.template_machine.specs.declared.program.Program.{Program}
use Rattle.template_machine.specs.declared.run.Run.{Run}

-- it is the one that the definition chooses
abbrev pub ChoosesAs : Program → Run → (base : ℕ) → (active : List ℕ) → Option Chosen → Type 0
ChoosesAs p r base active chosen =
    (given : Given) → IsProgramOf given.sheet given.limits p → (left : Left)
    → chosen ≡ option_map chosen_of (choice given base active (trail_of (nodes_of r.source)) (state_of given p r left))
