-- What acts, one after another, say of the documents that were opened.
use Rattle.std.proofs.Common.{◌≡◌, ℕ, ◌+◌, Bool, true, false, ◌==◌, List, [], ◌∷◌, ◌++◌, Option, Some, refl, ap}
use Rattle.std.specs.Prelude.{if◌then◌else◌, ◌||◌}
use Rattle.std.specs.List.{list_any}
use Rattle.stx_host.specs.declared.act.Act.{Act}
use Rattle.stx_host.specs.declared.act.Act.TheVariants.{Open, Read, Close, Write}
use Rattle.sheet_files.specs.Acts.{given_behind, opens, read_behind}

-- the documents of two stretches of time
pub opens_more : (acts more : List Act) → opens (acts ++ more) ≡ opens acts ++ opens more
opens_more [] more = refl
opens_more (Open doc id ∷ acts) more = ap (λ (l : List (Option ℕ)). doc ∷ l) (opens_more acts more)
opens_more (Read id got ∷ acts) more = opens_more acts more
opens_more (Close id ∷ acts) more = opens_more acts more
opens_more (Write lane len ∷ acts) more = opens_more acts more

-- what was read since an id was given
pub read_more : (before id : ℕ) (acts more : List Act) → read_behind before id (acts ++ more) ≡ read_behind (read_behind before id acts) id more
read_more before id [] more = refl
read_more before id (Open doc k ∷ acts) more = read_more (if k == id then 0 else before) id acts more
read_more before id (Read k got ∷ acts) more = read_more (if k == id then before + got else before) id acts more
read_more before id (Close k ∷ acts) more = read_more before id acts more
read_more before id (Write lane len ∷ acts) more = read_more before id acts more

-- what an id was given for
pub given_more : (before : Option (Option ℕ)) (id : ℕ) (acts more : List Act) → given_behind before id (acts ++ more) ≡ given_behind (given_behind before id acts) id more
given_more before id [] more = refl
given_more before id (Open doc k ∷ acts) more = given_more (if k == id then Some doc else before) id acts more
given_more before id (Read k got ∷ acts) more = given_more before id acts more
given_more before id (Close k ∷ acts) more = given_more before id acts more
given_more before id (Write lane len ∷ acts) more = given_more before id acts more

none_by : (x y z : Bool) → (x || y) ≡ false → (y ≡ false → z ≡ false) → (x || z) ≡ false
none_by true y z e h = e
none_by false y z e h = h e

-- none of two stretches of time
pub none_more : (p : Act → Bool) (acts more : List Act) → list_any p acts ≡ false → list_any p more ≡ false → list_any p (acts ++ more) ≡ false
none_more p [] more a b = b
none_more p (act ∷ acts) more a b = none_by (p act) (list_any p acts) (list_any p (acts ++ more)) a (λ e. none_more p acts more e b)
