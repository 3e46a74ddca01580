-- For which rows a template is.
use Rattle.std.specs.Prelude.{ℕ, ◌==◌, Bool, ◌&&◌, if◌then◌else◌, List, [], ◌∷◌, Option, Some, None, option_map}
use Rattle.sheet_model.specs.Groups.{parent_of}
use Rattle.sheet_model.specs.declared.sheet.Group.{Group}
use Rattle.sheet_model.specs.declared.sheet.Template.{Template}
use Rattle.sheet_model.specs.declared.sheet.Visibility.{Visibility}
use Rattle.sheet_model.specs.declared.sheet.Visibility.TheVariants as visibility
use Rattle.group_scope.specs.Choice.{is_for_all, is_for_groups_within, is_own}
use Rattle.group_scope.specs.declared.key.Home.{Home}
use Rattle.group_scope.specs.declared.key.Home.TheVariants.{Own, Within, Everywhere}

-- the alternatives of a template stand in the rows of a home
abbrev pub is_home : Home → List Group → Template → Bool
is_home (Own g) groups t = is_own groups g t
is_home (Within g) groups t = is_for_groups_within t.visibility && t.group == g
is_home Everywhere groups t = is_for_all t.visibility

abbrev pub own_of : ℕ → Home
own_of g = Own g

abbrev pub public_home : List Group → Template → Option Home
public_home groups t = if t.public then option_map own_of (parent_of groups t.group) else None

abbrev pub shared_home : Visibility → (group : ℕ) → Option Home
shared_home visibility.Local g = None
shared_home visibility.Group g = Some (Within g)
shared_home visibility.Global g = Some Everywhere

-- the homes of a template, one by one
abbrev pub homes : List Group → Template → List (Option Home)
homes groups t = Some (Own t.group) ∷ public_home groups t ∷ shared_home t.visibility t.group ∷ []
