-- The meaning as a function: how deep its calls are nested at most.
use Rattle.std.specs.Prelude.{◌≡◌, ℕ, ◌+◌, Bool, false, ◌||◌, if◌then◌else◌, List, Some}
use Rattle.stx_base.specs.Course.{Answer, run, value}
use Rattle.xml_events.specs.Tree.{Forest, End, Cut, Single, Nested}
use Rattle.template_machine.specs.Ending.{Said, Ending}
use Rattle.template_machine.specs.Fuel.{is_begun, is_entered}
use Rattle.template_machine.specs.Job.{Given, Here, Source, Main, Opened}
use Rattle.template_machine.specs.Meaning.{code, meaning}

-- what a node weighs, by whether it was begun before: one of the main document the fuel that it renews, and one of another source
-- nothing, since it costs fuel
abbrev pub own : (fuel : ℕ) → Source → (begun : Bool) → ℕ
own fuel Main begun = (if begun then 0 else fuel) + 1
own fuel (Opened document at number) begun = if begun then 1 else 0

-- what the end of a list weighs
abbrev pub end_own : (fuel : ℕ) → Source → (begun : Bool) → ℕ
end_own fuel Main begun = if begun then 0 else fuel
end_own fuel (Opened document at number) begun = 0

abbrev pub size : (fuel : ℕ) → Source → Forest → ℕ
size fuel source (End m offset) = end_own fuel source (is_begun m)
size fuel source (Cut why) = 0
size fuel source (Single m leaf next) = own fuel source (is_begun m) + size fuel source next
size fuel source (Nested stage e kids next) = own fuel source (is_entered stage) + size fuel source kids + size fuel source next

-- what the fuel allows on a tree, and one call more
abbrev pub deep_enough : Given → Forest → ℕ
deep_enough given tree = size given.limits.fuel Main tree + given.limits.fuel + 1

-- what a run says, and how it ends
abbrev pub outcome : Given → Forest → Answer Here Said Ending
outcome given tree = value (run (code given) (deep_enough given tree)) (meaning given tree)

-- some node of a list was begun
abbrev pub has_begun : Forest → Bool
has_begun (End m offset) = false
has_begun (Cut why) = false
has_begun (Single m leaf next) = is_begun m || has_begun next
has_begun (Nested stage e kids next) = is_entered stage || has_begun kids || has_begun next

-- so it is with each other document that a run is given
abbrev pub AreNew : Given → Type 0
AreNew given = (name : List ℕ) (tree : Forest) → given.documents name ≡ Some tree → has_begun tree ≡ false
