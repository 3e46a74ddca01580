-- One name more is kept.
use Rattle.std.proofs.Common.{◌≡◌, ℕ, Bool, true, false, ◌||◌, List, [], ◌∷◌, ◌++◌, map, string_bytes, ap, ◌∙◌, if◌then◌else◌}
use Rattle.std.proofs.lemmas.List.{map-append}
use Rattle.std.proofs.lemmas.Str.{IsUtf8-string_bytes}
use Rattle.std.specs.List.{list_any}
use Rattle.std.specs.Prelude.{bytes_eq}
use Rattle.std.specs.Str.{chars}
use Rattle.std.specs.declared.alloc.Global.{Global}
use Rattle.std.specs.declared.string.String.{String}
use Rattle.sheet_loader.proofs.Numbers.{any_text}
use Rattle.sheet_loader.specs.Keys.{text_of}
use Rattle.sheet_loader.specs.Named.{is_being_read}
use Rattle.sheet_loader.specs.declared.draft.Draft.{Draft}
use Rattle.sheet_loader.proofs.draft.Draft.read_name.Goals as goal

neither : (a b : Bool) → (a || b) ≡ false → b ≡ false
neither true b h = cc
neither false b h = h

-- a key that isn't there goes behind the others
new_key : (keys : List (String Global)) (k : String Global) (there : Bool) → there ≡ false → map text_of (if there then keys else keys ++ k ∷ []) ≡ map text_of keys ++ text_of k ∷ []
new_key keys k true h = cc
new_key keys k false h = map-append text_of keys (k ∷ [])

kept_by : (d : Draft) (k : String Global) (name : List ℕ) (keys : List (String Global)) → text_of k ≡ name
    → keys ≡ (if list_any (λ x. bytes_eq (string_bytes k) (string_bytes x)) d.reading.keys then d.reading.keys else d.reading.keys ++ k ∷ [])
    → is_being_read d name ≡ false → map text_of keys ≡ map text_of d.reading.keys ++ name ∷ []
kept_by d k name keys e is h =
    let absent : list_any (λ x. bytes_eq (string_bytes k) (string_bytes x)) d.reading.keys ≡ false =
    any_text (string_bytes k) (IsUtf8-string_bytes k) d.reading.keys
    ∙ ap (λ (n : List ℕ). list_any (λ x. bytes_eq (text_of x) n) d.reading.keys) e
    ∙ neither (bytes_eq d.own name) (list_any (λ x. bytes_eq (text_of x) name) d.reading.keys) h in
    ap (map text_of) is
    ∙ new_key d.reading.keys k (list_any (λ x. bytes_eq (string_bytes k) (string_bytes x)) d.reading.keys) absent
    ∙ ap (λ (n : List ℕ). map text_of d.reading.keys ++ n ∷ []) e

pub returns-clause-kept : goal.returns-clause-kept
returns-clause-kept c =
    kept_by c.args.self.now c.in_ok-name.name c.args.name.now _ (ap chars c.in_ok-name.ensures.ok ∙ c.as_str.ensures.chars) c.in_ok-insert.ensures.keys
