-- Names without their prefixes, as the program's sets hold them.
use Rattle.std.specs.Prelude.{ℕ, Bool, ◌&&◌, ◌==◌, List, [], ◌∷◌, ◌++◌, map, Option, Some, None, if◌then◌else◌, string_bytes}
use Rattle.std.specs.List.{list_any}
use Rattle.std.specs.Str.{chars}
use Rattle.std.specs.declared.alloc.Global.{Global}
use Rattle.std.specs.declared.string.String.{String}
use Rattle.stx_base.specs.declared.name.Name.{Name}
use Rattle.sheet_model.specs.Names.{is_among, is_same}
use Rattle.sheet_loader.specs.declared.declared.Own.{Own}
use Rattle.sheet_loader.specs.declared.declared.Table.{Table}
use Rattle.sheet_loader.specs.declared.names.Expanded.{Expanded}
use Rattle.sheet_loader.specs.declared.names.NameSet.{NameSet}

abbrev pub text_of : String Global → List ℕ
text_of s = chars (string_bytes s)

abbrev pub name_of : Expanded → Name
name_of e = record { uri = chars (string_bytes e.uri); local = chars (string_bytes e.local); prefix = [] }

abbrev pub names_in : NameSet → List Name
names_in set = map name_of set.names.keys

-- names, each once, with one more
abbrev pub with_name : List Name → Name → List Name
with_name names n = if is_among names n then names else names ++ n ∷ []

-- with one more, where there is one
abbrev pub with_maybe : List Name → Option Name → List Name
with_maybe names None = names
with_maybe names (Some n) = with_name names n

-- a name in a group
pub record Owned : Type 0 where
  pub group : ℕ
  pub name : Name

abbrev pub own_of : Own → Owned
own_of own = record { group = own.group; name = name_of own.name }

abbrev pub owned_in : Table → List Owned
owned_in table = map own_of table.names.keys

-- the group itself has the name
abbrev pub has_own : List Owned → (group : ℕ) → Name → Bool
has_own among group n = list_any (λ o. o.group == group && is_same o.name n) among

abbrev pub with_own : List Owned → Owned → List Owned
with_own among o = if has_own among o.group o.name then among else among ++ o ∷ []
