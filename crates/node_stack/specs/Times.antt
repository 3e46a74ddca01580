-- How often texts came.
use Rattle.std.specs.Prelude.{◌≡◌, ℕ, ◌+◌, ◌-◌, ◌^◌, min, if◌then◌else◌, List, Option, Some, None}
use Rattle.std.specs.BTreeMap.{BTreeMap, get_by_text, btree_map_len}
use Rattle.std.specs.Option.{is_none}
use Rattle.std.specs.Str.{bytes_eq}
use Rattle.std.specs.declared.alloc.Global.{Global}
use Rattle.std.specs.declared.string.String.{String}

-- a counter of 64 bits stays at its last value
abbrev pub more : ℕ → ℕ
more n = min (n + 1) (2 ^ 64 - 1)

-- an entry has how often its text came again
abbrev pub times : Option ℕ → ℕ
times None = 0
times (Some n) = n + 1

abbrev pub once_more : Option ℕ → Option ℕ
once_more None = Some 0
once_more (Some n) = Some (more n)

abbrev pub Texts : Type 0
Texts = BTreeMap (String Global) ℕ

-- a text, in UTF-8, came once more
pub record CountsText (old new : Texts) (text : List ℕ) : Type 0 where
  pub counted : (cs : List ℕ) → get_by_text new cs ≡ (if bytes_eq text cs then once_more (get_by_text old cs) else get_by_text old cs)
  pub len : btree_map_len new ≡ btree_map_len old + (if is_none (get_by_text old text) then 1 else 0)
