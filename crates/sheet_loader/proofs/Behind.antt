-- What stands behind items: what may come next depends on the last of them, and on whether all are parameters.
use Rattle.std.proofs.Common.{◌≡◌, Bool, true, false, ◌&&◌, List, [], ◌∷◌, ◌++◌, refl, ap, sym, ◌∙◌, if◌then◌else◌}
use Rattle.std.specs.List.{list_all}
use Rattle.sheet_loader.specs.Elements.{Inside, Document, Declarations, Start_of_body, Body, Branches, With_params, Characters, Parts, Nothing}
use Rattle.sheet_loader.specs.Making.{behind, is_a_param, last_of}
use Rattle.sheet_loader.specs.Reading.{Item, Instruction, An_if, An_else, A_local, A_branch, An_otherwise, A_param, A_value, Text, A_part}

of_all : (b c : Bool) (items : List Item) → list_all is_a_param items ≡ c → behind (if b then Start_of_body else Body) items ≡ (if b && c then Start_of_body else Body)
of_all true c items e = ap (λ d. if d then Start_of_body else Body) e
of_all false c items e = refl

one_more : (b : Bool) (xs ys : List Item) → list_all is_a_param (xs ++ ys) ≡ (list_all is_a_param xs && list_all is_a_param ys) → (b && list_all is_a_param (xs ++ ys)) ≡ ((b && list_all is_a_param xs) && list_all is_a_param ys)
one_more true xs ys e = e
one_more false xs ys e = refl

all_append : (xs ys : List Item) → list_all is_a_param (xs ++ ys) ≡ (list_all is_a_param xs && list_all is_a_param ys)
all_append [] ys = refl
all_append (x ∷ xs) ys = one_more (is_a_param x) xs ys (all_append xs ys)

-- what may come behind more items
pub behind_more : (i : Inside) (xs ys : List Item) → behind i (xs ++ ys) ≡ behind (behind i xs) ys
behind_more Start_of_body xs ys = ap (λ b. if b then Start_of_body else Body) (all_append xs ys) ∙ sym (of_all (list_all is_a_param xs) (list_all is_a_param ys) ys refl)
behind_more (Document b) xs ys = refl
behind_more (Declarations b) xs ys = refl
behind_more Body xs ys = refl
behind_more Branches xs ys = refl
behind_more With_params xs ys = refl
behind_more (Characters b) xs ys = refl
behind_more Parts xs ys = refl
behind_more Nothing xs ys = refl

last_cons : (x y : Item) (ys : List Item) → last_of (x ∷ y ∷ ys) ≡ last_of (y ∷ ys)
last_cons (Instruction i) y ys = refl
last_cons (An_if test is at) y ys = refl
last_cons (An_else is) y ys = refl
last_cons (A_local n i) y ys = refl
last_cons (A_branch w) y ys = refl
last_cons (An_otherwise is) y ys = refl
last_cons (A_param v) y ys = refl
last_cons (A_value v) y ys = refl
last_cons (Text t) y ys = refl
last_cons (A_part p) y ys = refl

-- the last of items is the last one that was added
pub last_more : (xs : List Item) (y : Item) → last_of (xs ++ y ∷ []) ≡ last_of (y ∷ [])
last_more [] y = refl
last_more (x ∷ []) y = last_cons x y []
last_more (x ∷ z ∷ xs) y = last_cons x z (xs ++ y ∷ []) ∙ last_more (z ∷ xs) y

-- what is so of a start of a body as of a body is so behind items as before them
pub same_behind : (test : Inside → Bool) → test Start_of_body ≡ test Body → (items : List Item) (i : Inside) → test (behind i items) ≡ test i
same_behind test e items Start_of_body = of_body (list_all is_a_param items) where
  of_body : (b : Bool) → test (if b then Start_of_body else Body) ≡ test Start_of_body
  of_body true = refl
  of_body false = sym e
same_behind test e items (Document b) = refl
same_behind test e items (Declarations b) = refl
same_behind test e items Body = refl
same_behind test e items Branches = refl
same_behind test e items With_params = refl
same_behind test e items (Characters b) = refl
same_behind test e items Parts = refl
same_behind test e items Nothing = refl
