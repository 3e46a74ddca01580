-- Paths of declarations.
use Rattle.std.proofs.Common.{◌≡◌, ℕ, suc, ◌+◌, ◌-◌, ◌≤◌, true, false, List, [], ◌∷◌, ◌++◌, Some, None, length, take, drop, refl, sym, ap, ◌∙◌, arith, codes}
use Rattle.std.specs.Prelude.{if◌then◌else◌}
use Rattle.std.proofs.lemmas.List.{length-append, length-take, length-drop, take-append-drop, take-append-le, drop-append-le, take_at, take_all, nil_from_length}
use Rattle.stx_base.specs.declared.name.Binding.{Binding}
use Rattle.stx_base.specs.declared.name.Name.{Name}
use Rattle.xml_names.specs.QName.{has_colon}
use Rattle.xml_names.specs.Scope.{same, last_uri, declared_on, unless_empty, bound, xml_uri, is_empty, attribute_uri, attribute_name}
use Rattle.xml_names.specs.inside.Scopes.{parted, total}
use Rattle.xml_names.proofs.QNames.{prefix_of-none, local_of-none}

-- one element more
pub parted-more : (ns : List ℕ) (n : ℕ) (bs d : List Binding) → total ns ≡ length bs → length d ≡ n → parted (ns ++ n ∷ []) (bs ++ d) ≡ parted ns bs ++ d ∷ []
parted-more [] n bs d counted is =
    let e : bs ≡ [] = nil_from_length bs (sym counted) in
    ap (λ l. take n (l ++ d) ∷ []) e ∙ ap (λ l. l ∷ []) (take_all n d (omega arith))
parted-more (m ∷ ns) n bs d counted is =
    let within : m ≤ length bs = omega arith in
    let rest : total ns ≡ length (drop m bs) = omega (arith, length-drop m bs) in
    ap (λ l. l ∷ parted (ns ++ n ∷ []) (drop m (bs ++ d))) (take-append-le m bs d within)
    ∙ ap (λ l. take m bs ∷ parted (ns ++ n ∷ []) l) (drop-append-le m bs d within)
    ∙ ap (λ l. take m bs ∷ l) (parted-more ns n (drop m bs) d rest is)

-- the declarations of all elements are those that were cut
pub parted-joined : (ns : List ℕ) (bs : List Binding) → total ns ≡ length bs → declared_on (parted ns bs) ≡ bs
parted-joined [] bs counted = sym (nil_from_length bs (sym counted))
parted-joined (m ∷ ns) bs counted =
    let within : m ≤ length bs = omega arith in
    let rest : total ns ≡ length (drop m bs) = omega (arith, length-drop m bs) in
    ap (λ l. take m bs ++ l) (parted-joined ns (drop m bs) rest) ∙ take-append-drop m bs

pub length-parted : (ns : List ℕ) (bs : List Binding) → length (parted ns bs) ≡ length ns
length-parted [] bs = refl
length-parted (m ∷ ns) bs = ap suc (length-parted ns (drop m bs))

pub total-more : (ns : List ℕ) (n : ℕ) → total (ns ++ n ∷ []) ≡ total ns + n
total-more [] n = omega arith
total-more (m ∷ ns) n = omega (arith, total-more ns n)

pub take-last : {X : Type 0} (xs : List X) (x : X) → take (length (xs ++ x ∷ []) - 1) (xs ++ x ∷ []) ≡ xs
take-last xs x = take_at xs (x ∷ []) (length (xs ++ x ∷ []) - 1) (omega (arith, length-append xs (x ∷ [])))

-- one element less
pub parted-less : (ns : List ℕ) (n : ℕ) (bs : List Binding) → total (ns ++ n ∷ []) ≡ length bs
    → parted ns (take (length bs - n) bs) ≡ take (length (parted (ns ++ n ∷ []) bs) - 1) (parted (ns ++ n ∷ []) bs)
parted-less ns n bs counted =
    let k = length bs - n in
    let all : total ns + n ≡ length bs = sym (total-more ns n) ∙ counted in
    let front : total ns ≡ length (take k bs) = omega (arith, length-take k bs) in
    let back : length (drop k bs) ≡ n = omega (arith, length-drop k bs) in
    let whole : parted (ns ++ n ∷ []) bs ≡ parted ns (take k bs) ++ drop k bs ∷ [] =
    ap (parted (ns ++ n ∷ [])) (sym (take-append-drop k bs)) ∙ parted-more ns n (take k bs) (drop k bs) front back in
    sym (take-last (parted ns (take k bs)) (drop k bs)) ∙ ap (λ l. take (length l - 1) l) (sym whole)

-- what is bound, by the declarations in force
module _ (path : List (List Binding)) (bs : List Binding) (joined : declared_on path ≡ bs) (p : List ℕ) (other : same p (codes "xml") ≡ false) where
  pub bound-is : bound path p ≡ unless_empty (last_uri bs p)
  bound-is = ap (λ t. if t then Some xml_uri else unless_empty (last_uri (declared_on path) p)) other ∙ ap (λ l. unless_empty (last_uri l p)) joined

  pub bound-none : None ≡ last_uri bs p → bound path p ≡ None
  bound-none e = bound-is ∙ ap unless_empty (sym e)

  pub bound-away : (uri : List ℕ) → Some uri ≡ last_uri bs p → is_empty uri ≡ true → bound path p ≡ None
  bound-away uri e empty = bound-is ∙ ap unless_empty (sym e) ∙ ap (λ t. if t then None else Some uri) empty

  pub bound-some : (uri : List ℕ) → Some uri ≡ last_uri bs p → is_empty uri ≡ false → bound path p ≡ Some uri
  bound-some uri e full = bound-is ∙ ap unless_empty (sym e) ∙ ap (λ t. if t then None else Some uri) full

pub bound-xml : (path : List (List Binding)) (p : List ℕ) → same p (codes "xml") ≡ true → bound path p ≡ Some xml_uri
bound-xml path p e = ap (λ t. if t then Some xml_uri else unless_empty (last_uri (declared_on path) p)) e

-- names of the same parts
pub same-names : (u v l m p q : List ℕ) → u ≡ v → l ≡ m → p ≡ q
    → (let a : Name = record { uri = u; local = l; prefix = p } in let b : Name = record { uri = v; local = m; prefix = q } in a ≡ b)
same-names u v l m p q e f g =
    ap (λ x. let a : Name = record { uri = x; local = l; prefix = p } in a) e
    ∙ ap (λ x. let a : Name = record { uri = v; local = x; prefix = p } in a) f
    ∙ ap (λ x. let a : Name = record { uri = v; local = m; prefix = x } in a) g

-- an attribute without a prefix has the name that is written
pub unprefixed-name : (path : List (List Binding)) (name : List ℕ) → has_colon name ≡ false → (let a : Name = record { uri = []; local = name; prefix = [] } in a ≡ attribute_name path name)
unprefixed-name path name none =
    let p = prefix_of-none name none in
    same-names _ _ _ _ _ _ (sym (ap (attribute_uri path) p)) (sym (local_of-none name none)) (sym p)
