-- What is referred to, by names with and without prefixes.
use Rattle.std.proofs.Common.{◌≡◌, ℕ, true, false, List, [], ◌∷◌, ◌++◌, map, codes, refl, ap, subst, sym, ◌∙◌, append_assoc, if◌then◌else◌}
use Rattle.std.proofs.lemmas.Grind.{flat_map-append}
use Rattle.std.proofs.lemmas.List.{append-nil, map-append}
use Rattle.std.specs.List.{flat_map}
use Rattle.stx_base.specs.declared.fault.Place.{Place}
use Rattle.stx_base.specs.declared.name.Name.{Name}
use Rattle.sheet_model.specs.Names.{is_among}
use Rattle.sheet_model.specs.declared.sheet.Sheet.{Sheet}
use Rattle.sheet_loader.specs.Judging.{is_declared_here, locals_at}
use Rattle.sheet_loader.specs.Keys.{name_of}
use Rattle.sheet_loader.specs.Known.{HasLocals, Known, Knows, refers_to}
use Rattle.sheet_loader.specs.Making.{Values, bare}
use Rattle.sheet_loader.specs.Reading.{Context, Item}
use Rattle.sheet_loader.specs.References.{A_variable, No_earlier_variable, Reference, has_variable}
use Rattle.sheet_loader.specs.Referring.{in_expressions, in_patterns, named_in, refers, to_earlier, to_variables, variables_of_pattern_at}
use Rattle.sheet_loader.specs.declared.names.Expanded.{Expanded}

-- names of variables without their prefixes refer to the same
pub variables-bare : (at : Place) (known locals : List Name) (from : ℕ) (names : List Name) → ((n : Name) → is_among known n ≡ is_among locals n)
    → to_variables at known from (map bare names) ≡ to_variables at locals from names
variables-bare at known locals from [] h = refl
variables-bare at known locals from (n ∷ names) h =
    ap (λ t. (if t then [] else refers at (A_variable from (bare n))) ++ to_variables at known from (map bare names)) (h n)
    ∙ ap (λ l. (if is_among locals n then [] else refers at (A_variable from (bare n))) ++ l) (variables-bare at known locals from names h)

pub earlier-bare : (at : Place) (sheet : Sheet) (from : ℕ) (names : List Name) → to_earlier at sheet from (map bare names) ≡ to_earlier at sheet from names
earlier-bare at sheet from [] = refl
earlier-bare at sheet from (n ∷ names) =
    ap (λ l. (if has_variable sheet from n then [] else refers at No_earlier_variable) ++ l) (earlier-bare at sheet from names)

pub earlier-more : (at : Place) (sheet : Sheet) (from : ℕ) (names : List Name) (n : Name)
    → to_earlier at sheet from (names ++ n ∷ []) ≡ to_earlier at sheet from names ++ to_earlier at sheet from (n ∷ [])
earlier-more at sheet from names n = flat_map-append (λ n. if has_variable sheet from n then [] else refers at No_earlier_variable) names (n ∷ [])

-- what is referred to by one after the other

pub refers-nothing : (k : Known) → k ≡ refers_to [] k
refers-nothing k = ap (λ l. record k { references = l }) (sym (append-nil k.references))

pub refers-both : (k0 k1 k2 : Known) (xs ys : List Reference) → k1 ≡ refers_to xs k0 → k2 ≡ refers_to ys k1 → k2 ≡ refers_to (xs ++ ys) k0
refers-both k0 k1 k2 xs ys e f =
    f ∙ ap (refers_to ys) e ∙ ap (λ l. record k0 { references = l }) (append_assoc k0.references xs ys)

pub refers-all : (k0 k1 k2 k3 k4 : Known) (g b p e : List Reference) → k1 ≡ refers_to g k0 → k2 ≡ refers_to b k1 → k3 ≡ refers_to p k2 → k4 ≡ refers_to e k3
    → k4 ≡ refers_to (g ++ b ++ p ++ e) k0
refers-all k0 k1 k2 k3 k4 g b p e h1 h2 h3 h4 =
    refers-both k0 k3 k4 (g ++ b ++ p) e (refers-both k0 k2 k3 (g ++ b) p (refers-both k0 k1 k2 g b h1 h2) h3) h4

pub earlier-next : (k0 k1 k2 : Known) (at : Place) (sheet : Sheet) (from : ℕ) (names : List Expanded) (e : Expanded) → k1 ≡ refers_to (to_earlier at sheet from (map name_of names)) k0
    → k2 ≡ refers_to (to_earlier at sheet from (name_of e ∷ [])) k1 → k2 ≡ refers_to (to_earlier at sheet from (map name_of (names ++ e ∷ []))) k0
earlier-next k0 k1 k2 at sheet from names e h f =
    refers-both k0 k1 k2 (to_earlier at sheet from (map name_of names)) (to_earlier at sheet from (name_of e ∷ [])) h f
    ∙ ap (λ l. refers_to l k0) (sym (earlier-more at sheet from (map name_of names) (name_of e)) ∙ ap (to_earlier at sheet from) (sym (map-append name_of names (e ∷ []))))

-- one name, which something earlier has or not
pub earlier-there : (at : Place) (sheet : Sheet) (from : ℕ) (n : Name) → has_variable sheet from n ≡ true → to_earlier at sheet from (n ∷ []) ≡ []
earlier-there at sheet from n h = ap (λ t. (if t then [] else refers at No_earlier_variable) ++ []) h

pub earlier-lost : (at : Place) (sheet : Sheet) (from : ℕ) (n : Name) → has_variable sheet from n ≡ false → to_earlier at sheet from (n ∷ []) ≡ refers at No_earlier_variable
earlier-lost at sheet from n h = ap (λ t. (if t then [] else refers at No_earlier_variable) ++ []) h

-- the names of variables, part by part
pub named-first : (none found : List Name) (names : List Name) → none ≡ [] → found ≡ none ++ map bare names → found ≡ map bare names
named-first none found names h f = f ∙ ap (λ l. l ++ map bare names) h

pub named-next : (before found : List Name) (names others : List Name) → before ≡ map bare names → found ≡ before ++ map bare others → found ≡ map bare (names ++ others)
named-next before found names others h f = f ∙ ap (λ l. l ++ map bare others) h ∙ sym (map-append bare names others)

-- what is referred to changes nothing else that is known
pub still-locals : (k0 k1 : Known) (xs : List Reference) (locals : List Name) → k1 ≡ refers_to xs k0 → HasLocals k0 locals → HasLocals k1 locals
still-locals k0 k1 xs locals e h = λ n. ap (λ (k : Known). is_among k.locals n) e ∙ h n

pub still-knows : (k0 k1 : Known) (xs : List Reference) (sheet : Sheet) → k1 ≡ refers_to xs k0 → Knows k0.declares sheet → Knows k1.declares sheet
still-knows k0 k1 xs sheet e h = subst (λ d. Knows d sheet) (sym (ap (λ (k : Known). k.declares) e)) h

-- the patterns of a tag see no locals
pub in-patterns : (at : Place) (group here : ℕ) (v : Values) (names : List Name) → group ≡ here
    → names ≡ map bare (variables_of_pattern_at (codes "match") v ++ variables_of_pattern_at (codes "while") v ++ variables_of_pattern_at (codes "until") v)
    → to_variables at [] group names ≡ in_patterns at here v
in-patterns at group here v names g e =
    let said = variables_of_pattern_at (codes "match") v ++ variables_of_pattern_at (codes "while") v ++ variables_of_pattern_at (codes "until") v in
    ap (to_variables at [] group) e ∙ variables-bare at [] [] group said (λ n. refl) ∙ ap (λ h. to_variables at [] h said) g

-- its expressions and templates, among declarations and in a body
pub in-declaration : (at : Place) (group : ℕ) (here : Context) (before : List Item) (sheet : Sheet) (v : Values) (names : List Name) → group ≡ here.group
    → is_declared_here here.inside ≡ true → names ≡ map bare (named_in v) → to_earlier at sheet group names ≡ in_expressions at here before sheet v
in-declaration at group here before sheet v names g d e =
    ap (to_earlier at sheet group) e ∙ earlier-bare at sheet group (named_in v) ∙ ap (λ h. to_earlier at sheet h (named_in v)) g
    ∙ sym (ap (λ t. if t then to_earlier at sheet here.group (named_in v) else to_variables at (locals_at here before) here.group (named_in v)) d)

pub in-body : (at : Place) (group : ℕ) (here : Context) (before : List Item) (sheet : Sheet) (v : Values) (names known : List Name) → group ≡ here.group
    → is_declared_here here.inside ≡ false → ((n : Name) → is_among known n ≡ is_among (locals_at here before) n) → names ≡ map bare (named_in v)
    → to_variables at known group names ≡ in_expressions at here before sheet v
in-body at group here before sheet v names known g d l e =
    ap (to_variables at known group) e ∙ variables-bare at known (locals_at here before) group (named_in v) l
    ∙ ap (λ h. to_variables at (locals_at here before) h (named_in v)) g
    ∙ sym (ap (λ t. if t then to_earlier at sheet here.group (named_in v) else to_variables at (locals_at here before) here.group (named_in v)) d)
