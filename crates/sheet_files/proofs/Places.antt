-- Which files are read where a loader stands, by its open lists.
use Rattle.std.proofs.Common.{◌≡◌, ℕ, List, [], ◌∷◌, map, Option, refl, ap, ◌∙◌}
use Rattle.sheet_loader.specs.Levels.{Level, Place_in, What, The_sheet, A_file, An_element, A_literal, A_part, entered, limit_at, place_in, version_around}
use Rattle.sheet_loader.specs.Lists.{Of, Own, Included, Element, lists_in, of_what}
use Rattle.sheet_loader.specs.Reading.{File}
use Rattle.sheet_loader.specs.Versions.{Version}

-- the numbers of the files, the innermost first
abbrev pub numbered : Of → List ℕ → List ℕ
numbered Own numbers = 0 ∷ []
numbered (Included number) numbers = number ∷ numbers
numbered Element numbers = numbers

abbrev pub numbers_in : List Of → List ℕ
numbers_in [] = 0 ∷ []
numbers_in (o ∷ lists) = numbered o (numbers_in lists)

-- the number of the innermost file
abbrev pub innermost : Of → ℕ → ℕ
innermost Own number = 0
innermost (Included number) other = number
innermost Element number = number

abbrev pub number_in : List Of → ℕ
number_in [] = 0
number_in (o ∷ lists) = innermost o (number_in lists)

module _ (names : List (List ℕ)) (files : List (Option File)) where
  numbers_entered : (v : Version) (w : What) (x : Level) (around : Place_in) → map (λ f. f.0) (entered names files v w x around).here.reading ≡ numbered (of_what w) (map (λ f. f.0) around.here.reading)
  numbers_entered v The_sheet x around = refl
  numbers_entered v (A_file number outer) x around = refl
  numbers_entered v (An_element kind values) x around = refl
  numbers_entered v (A_literal name attrs) x around = refl
  numbers_entered v (A_part name attrs) x around = refl

  -- the files that are read
  pub numbers_are : (v : Version) (levels : List Level) → map (λ f. f.0) (place_in names files v levels).here.reading ≡ numbers_in (lists_in levels)
  numbers_are v [] = refl
  numbers_are v (x ∷ levels) =
      let around = place_in names files (version_around v x.what) levels in
      numbers_entered v x.what x around ∙ ap (numbered (of_what x.what)) (numbers_are (version_around v x.what) levels)

  limit_entered : (v : Version) (w : What) (x : Level) (around : Place_in) (number : ℕ) → around.here.limit ≡ limit_at files number → (entered names files v w x around).here.limit ≡ limit_at files (innermost (of_what w) number)
  limit_entered v The_sheet x around number e = refl
  limit_entered v (A_file n outer) x around number e = refl
  limit_entered v (An_element kind values) x around number e = e
  limit_entered v (A_literal name attrs) x around number e = e
  limit_entered v (A_part name attrs) x around number e = e

  -- where the limit comes in the innermost
  pub limit_is : (v : Version) (levels : List Level) → (place_in names files v levels).here.limit ≡ limit_at files (number_in (lists_in levels))
  limit_is v [] = refl
  limit_is v (x ∷ levels) =
      limit_entered v x.what x (place_in names files (version_around v x.what) levels) (number_in (lists_in levels)) (limit_is (version_around v x.what) levels)

  file_entered : (v : Version) (w : What) (x : Level) (around : Place_in) (number : ℕ) → around.here.file ≡ number → (entered names files v w x around).here.file ≡ innermost (of_what w) number
  file_entered v The_sheet x around number e = refl
  file_entered v (A_file n outer) x around number e = refl
  file_entered v (An_element kind values) x around number e = e
  file_entered v (A_literal name attrs) x around number e = e
  file_entered v (A_part name attrs) x around number e = e

  -- which file is the innermost
  pub file_is : (v : Version) (levels : List Level) → (place_in names files v levels).here.file ≡ number_in (lists_in levels)
  file_is v [] = refl
  file_is v (x ∷ levels) =
      file_entered v x.what x (place_in names files (version_around v x.what) levels) (number_in (lists_in levels)) (file_is (version_around v x.what) levels)
