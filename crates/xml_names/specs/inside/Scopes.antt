-- What the fields of the scopes mean.
use Rattle.std.specs.Prelude.{◌≡◌, ℕ, List, [], ◌∷◌, ◌+◌, length, take, drop}
use Rattle.stx_base.specs.declared.name.Binding.{Binding}
use Rattle.xml_names.specs.declared.scopes.Scopes.TheInside.{Inside}

-- declarations cut into lists of these lengths
abbrev pub parted : (counts : List ℕ) → List Binding → List (List Binding)
parted [] bindings = []
parted (n ∷ counts) bindings = take n bindings ∷ parted counts (drop n bindings)

abbrev pub path_of : Inside → List (List Binding)
path_of s = parted s.counts s.in_force

abbrev pub total : List ℕ → ℕ
total [] = 0
total (n ∷ counts) = n + total counts

-- each declaration is one of an entered element
pub record IsCounted (s : Inside) : Type 0 where
  pub counted : total s.counts ≡ length s.in_force
