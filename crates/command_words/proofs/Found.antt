-- What clap finds, use by use.
use Rattle.std.proofs.Common.{◌≡◌, ◌∙◌, ◌⊎◌, inl, inr, ◌++◌, Bool, true, false, true≢false, cond, refl, sym, ap, ap₂, List, [], ◌∷◌, append-nil, append_assoc}
use Rattle.std.specs.Prelude.{Some, None, unwrap_or, option_map, find}
use Rattle.std.specs.Str.{bytes_eq}
use Rattle.std.proofs.lemmas.Slice.Eq.{bytes_eq-Decides}
use Rattle.clap.specs.Walk.{Row, Text, stronger, with_values}
use Rattle.clap.specs.declared.builder.value_parser.Reading.{Reading}
use Rattle.clap.specs.declared.parser.matches.ValueSource.TheVariants.{CommandLine}
use Rattle.command_words.specs.Said.{Said, Word}
use Rattle.command_words.specs.Finding.{Tells, given, id_of, uses_of, value_of}

pub both_ways : (b : Bool) → (b ≡ true) ⊎ (b ≡ false)
both_ways true = inl refl
both_ways false = inr refl

-- the values, if these are of the id
abbrev pub of_id : Bool → List Word → List Word
of_id b values = cond b values []

eq_of : (a b : Text) → bytes_eq a b ≡ true → a ≡ b
eq_of a b = (bytes_eq-Decides a b).0

eq_to : (a b : Text) → a ≡ b → bytes_eq a b ≡ true
eq_to a b = (bytes_eq-Decides a b).1

-- a use at the row of its id: the row of an id that is asked for, or a later one
here : (b : Bool) (mine theirs values : List Word) → cond b (mine ++ values) theirs ≡ cond b mine theirs ++ of_id b values
here true mine theirs values = refl
here false mine theirs values = sym (append-nil theirs)

-- a use at a later row
later : (b c : Bool) (mine theirs more values : List Word) → (b ≡ true → c ≡ false) → more ≡ theirs ++ of_id c values
    → cond b mine more ≡ cond b mine theirs ++ of_id c values
later true c mine theirs more values apart e = sym (append-nil mine) ∙ ap (λ d. mine ++ of_id d values) (sym (apart refl))
later false c mine theirs more values apart e = e

-- the uses of an id, by the first row
uses_cons : (r : Row) (rs : List Row) (id : Word) → uses_of id (r ∷ rs) ≡ cond (bytes_eq r.id id) r.values (uses_of id rs)
uses_cons r rs id = go (bytes_eq r.id id)
  where
    go : (b : Bool) → unwrap_or (option_map (λ (row : Row). row.values) (cond b (Some r) (find (λ row. bytes_eq row.id id) rs))) []
        ≡ cond b r.values (uses_of id rs)
    go true = refl
    go false = refl

-- two ids apart are not both the one that is asked for
apart : (a b asked : Text) → bytes_eq a b ≡ false → bytes_eq a asked ≡ true → bytes_eq b asked ≡ false
apart a b asked ne at = elim (both_ways (bytes_eq b asked)) [
  | inl same ↦ absurd (true≢false (sym (eq_to a b (eq_of a asked at ∙ sym (eq_of b asked same))) ∙ ne))
  | inr other ↦ other
]

uses_more : (id : Text) (how : Reading) (values : List Word) (rows : List Row) (asked : Word)
    → uses_of asked (with_values id how CommandLine values rows) ≡ uses_of asked rows ++ of_id (bytes_eq id asked) values
uses_more id how values [] asked =
    uses_cons (record { id = id; values = values; count = None; source = Some CommandLine; reading = how }) [] asked
uses_more id how values (r ∷ rs) asked = elim (both_ways (bytes_eq r.id id)) [
  | inl e ↦
      let changed : Row = record r { values = r.values ++ values; source = Some (stronger r.source CommandLine) } in
      ap (λ b. uses_of asked (cond b (changed ∷ rs) (r ∷ with_values id how CommandLine values rs))) e
      ∙ uses_cons changed rs asked
      ∙ here (bytes_eq r.id asked) r.values (uses_of asked rs) values
      ∙ ap₂ (λ l b. l ++ of_id b values) (sym (uses_cons r rs asked)) (ap (λ i. bytes_eq i asked) (eq_of r.id id e))
  | inr e ↦
      let changed : Row = record r { values = r.values ++ values; source = Some (stronger r.source CommandLine) } in
      ap (λ b. uses_of asked (cond b (changed ∷ rs) (r ∷ with_values id how CommandLine values rs))) e
      ∙ uses_cons r (with_values id how CommandLine values rs) asked
      ∙ later (bytes_eq r.id asked) (bytes_eq id asked) r.values (uses_of asked rs) (uses_of asked (with_values id how CommandLine values rs)) values
      (apart r.id id asked e) (uses_more id how values rs asked)
      ∙ ap (λ l. l ++ of_id (bytes_eq id asked) values) (sym (uses_cons r rs asked))
]

given_more : (id : Word) (said : List Said) (thing : Said)
    → given id (said ++ thing ∷ []) ≡ given id said ++ of_id (bytes_eq (id_of thing) id) (value_of thing ∷ [])
given_more id [] thing = append-nil (of_id (bytes_eq (id_of thing) id) (value_of thing ∷ []))
given_more id (x ∷ said) thing =
    let first : List Word = of_id (bytes_eq (id_of x) id) (value_of x ∷ []) in
    let last : List Word = of_id (bytes_eq (id_of thing) id) (value_of thing ∷ []) in
    ap (λ l. first ++ l) (given_more id said thing) ∙ sym (append_assoc first (given id said) last)

-- what is found tells one more thing that is said
pub told_more : (rows : List Row) (said : List Said) (thing : Said) (how : Reading) → Tells rows said
    → Tells (with_values (id_of thing) how CommandLine (value_of thing ∷ []) rows) (said ++ thing ∷ [])
told_more rows said thing how tells asked =
    uses_more (id_of thing) how (value_of thing ∷ []) rows asked
    ∙ ap (λ l. l ++ of_id (bytes_eq (id_of thing) asked) (value_of thing ∷ [])) (tells asked)
    ∙ sym (given_more asked said thing)
