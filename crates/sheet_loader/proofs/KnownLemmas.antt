-- What is known of names, as more of the sheet is read.
use Rattle.std.proofs.Common.{◌≡◌, ℕ, Bool, true, false, ◌&&◌, ◌||◌, ◌==◌, List, [], ◌∷◌, ◌++◌, map, Option, Some, None, refl, ap, sym, ◌∙◌, if◌then◌else◌}
use Rattle.std.proofs.lemmas.Bool.{eqb-true}
use Rattle.std.proofs.lemmas.Slice.Eq.{bytes_eq-Decides}
use Rattle.std.specs.List.{list_any}
use Rattle.std.specs.Option.{option_map, option_map_or}
use Rattle.std.specs.Prelude.{bytes_eq}
use Rattle.stx_base.specs.declared.name.Name.{Name}
use Rattle.sheet_model.specs.Groups.{around}
use Rattle.sheet_model.specs.Names.{is_among, is_same}
use Rattle.sheet_model.specs.declared.instr.WithParam.{WithParam}
use Rattle.sheet_model.specs.declared.sheet.Buffer.{Buffer}
use Rattle.sheet_model.specs.declared.sheet.Group.{Group}
use Rattle.sheet_model.specs.declared.sheet.Procedure.{Procedure}
use Rattle.sheet_model.specs.declared.sheet.Sheet.{Sheet}
use Rattle.sheet_model.specs.declared.sheet.Variable.{Variable}
use Rattle.sheet_loader.specs.Elements as element
use Rattle.sheet_loader.specs.Keys.{Owned, has_own, with_maybe, with_name, with_own}
use Rattle.sheet_loader.specs.Known.{Declares, Knows, declared_by, nothing_declared}
use Rattle.sheet_loader.specs.Making.{bare}
use Rattle.sheet_loader.specs.References.{has_buffer, has_procedure, has_variable, is_named}
use Rattle.sheet_loader.proofs.SeenLemmas.{any_alike, seen}

given-names : (ps : List WithParam) (n : Name) → is_among (map bare (map (λ (p : WithParam). p.name) ps)) n ≡ list_any (λ (p : WithParam). is_same p.name n) ps
given-names [] n = refl
given-names (p ∷ ps) n = ap (λ t. is_same p.name n || t) (given-names ps n)

any_behind : {A : Type 0} (f : A → Bool) (xs : List A) (x : A) → list_any f (xs ++ x ∷ []) ≡ (list_any f xs || f x)
any_behind f [] x = or_false (f x)
  where
    or_false : (b : Bool) → (b || false) ≡ b
    or_false true = refl
    or_false false = refl
any_behind f (y ∷ xs) x = ap (λ t. f y || t) (any_behind f xs x) ∙ or_assoc (f y) (list_any f xs) (f x)
  where
    or_assoc : (a b c : Bool) → (a || (b || c)) ≡ ((a || b) || c)
    or_assoc true b c = refl
    or_assoc false b c = refl

both : (a b : Bool) → (a && b) ≡ true → (a ≡ true) × (b ≡ true)
both true true h = (refl, refl)
both true false h = absurd (cc)
both false b h = absurd (cc)

-- what has one name has another that is the same
same-turned : (m n o : Name) → is_same n o ≡ true → is_same m n ≡ is_same m o
same-turned m n o h =
    let parts = both (bytes_eq n.uri o.uri) (bytes_eq n.local o.local) h in
    ap (λ u. bytes_eq m.uri u && bytes_eq m.local n.local) ((bytes_eq-Decides n.uri o.uri).0 parts.0)
    ∙ ap (λ l. bytes_eq m.uri o.uri && bytes_eq m.local l) ((bytes_eq-Decides n.local o.local).0 parts.1)

-- one more, if it isn't there: either way it is there then
settled : (there same : Bool) (before after : Bool) → (there ≡ true → same ≡ true → before ≡ true) → after ≡ (if there then before else (before || same)) → after ≡ (before || same)
settled true true before after h e = e ∙ h refl refl ∙ sym (ap (λ t. t || true) (h refl refl))
settled true false true after h e = e
settled true false false after h e = e
settled false same before after h e = e

pub among-with : (names : List Name) (m n : Name) → is_among (with_name names m) n ≡ (is_among names n || is_same m n)
among-with names m n =
    settled (is_among names m) (is_same m n) (is_among names n) (is_among (with_name names m) n)
    (λ there same. sym (same_there names same) ∙ there)
    (split (is_among names m))
  where
    same_there : (xs : List Name) → is_same m n ≡ true → is_among xs m ≡ is_among xs n
    same_there [] h = refl
    same_there (x ∷ xs) h = ap (λ t. t || is_among xs m) (same-turned x m n h) ∙ ap (λ t. is_same x n || t) (same_there xs h)

    split : (t : Bool) → is_among (if t then names else names ++ m ∷ []) n ≡ (if t then is_among names n else (is_among names n || is_same m n))
    split true = refl
    split false = any_behind (λ x. is_same x n) names m

pub own-with : (among : List Owned) (o : Owned) (group : ℕ) (n : Name) → has_own (with_own among o) group n ≡ (has_own among group n || (o.group == group && is_same o.name n))
own-with among o group n =
    settled (has_own among o.group o.name) (o.group == group && is_same o.name n) (has_own among group n) (has_own (with_own among o) group n)
    (λ there same. sym (same_there among (both (o.group == group) (is_same o.name n) same)) ∙ there)
    (split (has_own among o.group o.name))
  where
    same_there : (xs : List Owned) → ((o.group == group) ≡ true) × (is_same o.name n ≡ true) → has_own xs o.group o.name ≡ has_own xs group n
    same_there [] h = refl
    same_there (x ∷ xs) h =
        ap (λ g. (x.group == g && is_same x.name o.name) || has_own xs o.group o.name) (eqb-true o.group group h.0)
        ∙ ap (λ t. (x.group == group && t) || has_own xs o.group o.name) (same-turned x.name o.name n h.1)
        ∙ ap (λ t. (x.group == group && is_same x.name n) || t) (same_there xs h)

    split : (t : Bool) → has_own (if t then among else among ++ o ∷ []) group n ≡ (if t then has_own among group n else (has_own among group n || (o.group == group && is_same o.name n)))
    split true = refl
    split false = any_behind (λ x. x.group == group && is_same x.name n) among o

-- of an empty sheet nothing is known
pub nothing-known : (sheet : Sheet) → sheet.groups ≡ [] → sheet.procedures ≡ [] → sheet.buffers ≡ [] → sheet.variables ≡ [] → Knows nothing_declared sheet
nothing-known sheet g p b v = record {
  groups = λ n. sym (ap (λ l. list_any (is_named n) l) g);
  procedures = λ group n. sym (ap (λ l. list_any (λ p. p.group == group && is_same p.name n) l) p);
  buffers = λ group n. sym (ap (λ l. list_any (λ p. p.group == group && is_same p.name n) l) b);
  variables = λ group n. sym (ap (λ l. list_any (λ p. p.group == group && is_same p.name n) l) v);
}

-- what is known of a sheet is known of one with the same names
pub same-known : (d : Declares) (s t : Sheet) → s.groups ≡ t.groups → s.procedures ≡ t.procedures → s.buffers ≡ t.buffers → s.variables ≡ t.variables → Knows d s → Knows d t
same-known d s t g p b v k = record {
  groups = λ n. k.groups n ∙ ap (λ l. list_any (is_named n) l) g;
  procedures = λ group n. k.procedures group n ∙ ap (λ l. list_any (λ p. p.group == group && is_same p.name n) l) p;
  buffers = λ group n. k.buffers group n ∙ ap (λ l. list_any (λ p. p.group == group && is_same p.name n) l) b;
  variables = λ group n. k.variables group n ∙ ap (λ l. list_any (λ p. p.group == group && is_same p.name n) l) v;
}

more : {A : Type 0} (group : A → ℕ) (name : A → Name) (os : List Owned) (xs : List A) (x : A)
    → ((g : ℕ) (n : Name) → has_own os g n ≡ list_any (λ y. group y == g && is_same (name y) n) xs)
    → (g : ℕ) (n : Name) → has_own (with_own os (record { group = group x; name = bare (name x) })) g n ≡ list_any (λ y. group y == g && is_same (name y) n) (xs ++ x ∷ [])
more group name os xs x h g n =
    own-with os (record { group = group x; name = bare (name x) }) g n
    ∙ ap (λ t. t || (group x == g && is_same (name x) n)) (h g n)
    ∙ sym (any_behind (λ y. group y == g && is_same (name y) n) xs x)

pub procedure-known : (d : Declares) (s : Sheet) (p : Procedure) → Knows d s
    → Knows (declared_by element.Procedure (record { group = p.group; name = bare p.name }) d) (record s { procedures = s.procedures ++ p ∷ [] })
procedure-known d s p k = record {
  groups = k.groups;
  procedures = more (λ (x : Procedure). x.group) (λ (x : Procedure). x.name) d.procedures s.procedures p k.procedures;
  buffers = k.buffers;
  variables = k.variables;
}

pub buffer-known : (d : Declares) (s : Sheet) (b : Buffer) → Knows d s
    → Knows (declared_by element.Buffer (record { group = b.group; name = bare b.name }) d) (record s { buffers = s.buffers ++ b ∷ [] })
buffer-known d s b k = record {
  groups = k.groups;
  procedures = k.procedures;
  buffers = more (λ (x : Buffer). x.group) (λ (x : Buffer). x.name) d.buffers s.buffers b k.buffers;
  variables = k.variables;
}

pub variable-known : (d : Declares) (s : Sheet) (v : Variable) → Knows d s
    → Knows (declared_by element.Variable (record { group = v.group; name = bare v.name }) d) (record s { variables = s.variables ++ v ∷ [] })
variable-known d s v k = record {
  groups = k.groups;
  procedures = k.procedures;
  buffers = k.buffers;
  variables = more (λ (x : Variable). x.group) (λ (x : Variable). x.name) d.variables s.variables v k.variables;
}

pub group-known : (d : Declares) (s : Sheet) (g : Group) → Knows d s
    → Knows (record d { groups = with_maybe d.groups (option_map bare g.name) }) (record s { groups = s.groups ++ g ∷ [] })
group-known d s g k = record {
  groups = λ n. by_name g.name n ∙ ap (λ t. t || is_named n g) (k.groups n) ∙ sym (any_behind (is_named n) s.groups g);
  procedures = k.procedures;
  buffers = k.buffers;
  variables = k.variables;
} where
  by_name : (name : Option Name) (n : Name) → is_among (with_maybe d.groups (option_map bare name)) n ≡ (is_among d.groups n || option_map_or (λ own. is_same own n) name false)
  by_name None n = or_false (is_among d.groups n)
    where
      or_false : (b : Bool) → b ≡ (b || false)
      or_false true = refl
      or_false false = refl
  by_name (Some own) n = among-with d.groups (bare own) n

-- What a group sees by a name is what the sheet has of it.

pub procedure-seen : (d : Declares) (s : Sheet) (groups : List Group) (from : ℕ) (n : Name) → Knows d s → groups ≡ s.groups
    → list_any (λ g. has_own d.procedures g n) (around groups from) ≡ has_procedure s from n
procedure-seen d s groups from n k e =
    any_alike (λ g. has_own d.procedures g n) (λ g. list_any (λ (p : Procedure). p.group == g && is_same p.name n) s.procedures) (λ g. k.procedures g n) (around groups from)
    ∙ seen (λ (p : Procedure). p.group) (λ (p : Procedure). p.name) n (around groups from) s.procedures
    ∙ ap (λ gs. list_any (λ (p : Procedure). list_any (λ g. g == p.group) (around gs from) && is_same p.name n) s.procedures) e

pub buffer-seen : (d : Declares) (s : Sheet) (groups : List Group) (from : ℕ) (n : Name) → Knows d s → groups ≡ s.groups
    → list_any (λ g. has_own d.buffers g n) (around groups from) ≡ has_buffer s from n
buffer-seen d s groups from n k e =
    any_alike (λ g. has_own d.buffers g n) (λ g. list_any (λ (b : Buffer). b.group == g && is_same b.name n) s.buffers) (λ g. k.buffers g n) (around groups from)
    ∙ seen (λ (b : Buffer). b.group) (λ (b : Buffer). b.name) n (around groups from) s.buffers
    ∙ ap (λ gs. list_any (λ (b : Buffer). list_any (λ g. g == b.group) (around gs from) && is_same b.name n) s.buffers) e

pub variable-seen : (d : Declares) (s : Sheet) (groups : List Group) (from : ℕ) (n : Name) → Knows d s → groups ≡ s.groups
    → list_any (λ g. has_own d.variables g n) (around groups from) ≡ has_variable s from n
variable-seen d s groups from n k e =
    any_alike (λ g. has_own d.variables g n) (λ g. list_any (λ (v : Variable). v.group == g && is_same v.name n) s.variables) (λ g. k.variables g n) (around groups from)
    ∙ seen (λ (v : Variable). v.group) (λ (v : Variable). v.name) n (around groups from) s.variables
    ∙ ap (λ gs. list_any (λ (v : Variable). list_any (λ g. g == v.group) (around gs from) && is_same v.name n) s.variables) e
