-- A name that is taken apart where it stands.
use Rattle.std.specs.Prelude.{◌≡◌, ℕ, true, List, length, take}
use Rattle.std.specs.Str.{chars, IsCharBoundary}
use Rattle.xml_names.specs.QName.{has_colon, prefix_of, local_of}

-- a name's bytes as its parts have them, where it has a colon
pub record IsCut (bs front back : List ℕ) : Type 0 where
  pub some : has_colon (chars bs) ≡ true
  pub before : front ≡ take (length front) bs
  pub place : IsCharBoundary bs (length front)
  pub prefix : prefix_of (chars bs) ≡ chars front
  pub local : local_of (chars bs) ≡ chars back
