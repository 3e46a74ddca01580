-- What a list of instructions leaves of the locals.
use Rattle.std.proofs.Common.{◌≡◌, Bool, true, false, List, [], ◌∷◌, ◌++◌, refl, sym, ap, ◌∙◌, if◌then◌else◌, length, take}
use Rattle.stx_base.specs.Course.{Begins}
use Rattle.stx_base.specs.declared.name.Name.{Name}
use Rattle.stxpath_values.specs.declared.value.Atom.{Atom}
use Rattle.var_store.specs.Variables.{is_called, with_value}
use Rattle.var_store.specs.declared.bound.Bound.{Bound}
use Rattle.template_machine.specs.Laws.{names}

pub none_behind : (ns : List Name) → ns ++ [] ≡ ns
none_behind [] = refl
none_behind (n ∷ ns) = ap (λ l. n ∷ l) (none_behind ns)

together : (xs ys zs : List Name) → (xs ++ ys) ++ zs ≡ xs ++ (ys ++ zs)
together [] ys zs = refl
together (x ∷ xs) ys zs = ap (λ l. x ∷ l) (together xs ys zs)

-- the names of the one begin those of the other
abbrev pub Grows : List Bound → List Bound → Type 0
Grows old new = Begins (names old) (names new)

pub same_grows : (a b : List Bound) → names b ≡ names a → Grows a b
same_grows a b e = ([], none_behind (names a) ∙ sym e)

pub grows_on : (a b c : List Bound) → Grows a b → Grows b c → Grows a c
grows_on a b c g h = (g.0 ++ h.0, sym (together (names a) g.0 h.0) ∙ ap (λ l. l ++ h.0) g.1 ∙ h.1)

pub names_behind : (a b : List Bound) → names (a ++ b) ≡ names a ++ names b
names_behind [] b = refl
names_behind (x ∷ a) b = ap (λ l. x.name ∷ l) (names_behind a b)

pub one_grows : (a : List Bound) (b : Bound) → Grows a (a ++ b ∷ [])
one_grows a b = (b.name ∷ [], sym (names_behind a (b ∷ [])))

-- another value of a local changes no name
pub changed_names : (name : Name) (value : List Atom) (a : List Bound) → names (with_value name value a) ≡ names a
changed_names name value [] = refl
changed_names name value (b ∷ a) = of_test (is_called name b) (changed_names name value a) where
  of_test : (t : Bool) → names (with_value name value a) ≡ names a → names (if t then record b { value = value } ∷ a else b ∷ with_value name value a) ≡ b.name ∷ names a
  of_test true e = refl
  of_test false e = ap (λ l. b.name ∷ l) e

-- what grew is cut to what was there
pub cut_names : (a b : List Bound) → Grows a b → names (take (length a) b) ≡ names a
cut_names [] b g = refl
cut_names (x ∷ a) [] g = absurd (cc)
cut_names (x ∷ a) (y ∷ b) g =
    let h : x.name ≡ y.name = cc in
    let t : names a ++ g.0 ≡ names b = cc in
    ap (λ n. n ∷ names (take (length a) b)) (sym h) ∙ ap (λ l. x.name ∷ l) (cut_names a b (g.0, t))
