-- What declarations tell is spelled so.
use Rattle.std.proofs.Common.{◌≡◌, inl, inr, ℕ, Bool, true, false, ◌&&◌, ◌==◌, List, [], ◌∷◌, ◌++◌, Option, Some, None, length, take, drop, refl, sym, ap, ◌∙◌, arith, subst, cond}
use Rattle.std.specs.Prelude.{codes, if◌then◌else◌}
use Rattle.std.specs.List.{list_all, prefix_len}
use Rattle.std.specs.Option.{option_and_then, option_map, option_map_or}
use Rattle.std.specs.Str.{chars}
use Rattle.std.proofs.lemmas.Bool.{eqb-true, eqb-false}
use Rattle.std.proofs.lemmas.List.{append-nil}
use Rattle.stx_base.specs.Character.{is_space}
use Rattle.xml_tokens.specs.Places.{begins}
use Rattle.xml_tokens.specs.Tags.{after_space, equated, named, quoted}
use Rattle.xml_tokens.specs.Prolog.{after_word, behind_identifier, behind_literal, behind_space, behind_word, declared, declared_as, is_doctype, is_encoding, is_over, is_standalone, is_version, maybe_declared}
use Rattle.xml_tokens.specs.Spelling.{Attribute, IsQuoted, IsSpace, SpellsDeclaration, SpellsDeclared, SpellsDoctype, SpellsEncoding, SpellsIdentifier, SpellsQuoted, SpellsStandalone, SpellsWord}
use Rattle.xml_tokens.proofs.AttributeLemmas.{after_byte-same, bind_some, map_some, equated-is, some_if}
use Rattle.xml_tokens.proofs.EnclosedLemmas.{begins-is}
use Rattle.xml_tokens.proofs.ListLemmas.{two}
use Rattle.xml_tokens.proofs.TagReading.{IsGood, good-behind, good-name, again-bytes}
use Rattle.xml_tokens.proofs.WrittenSpelling.{named-is, nonempty, quoted-spelled, space-is}

-- white space that came first
abbrev Spaced : (bytes rest : List ℕ) → Type 0
Spaced bytes rest = (first : ℕ) × (space : List ℕ) × IsSpace (first ∷ space) × (bytes ≡ (first ∷ space) ++ rest)

behind_space-is : (bytes rest : List ℕ) → behind_space bytes ≡ Some rest → Spaced bytes rest
behind_space-is bytes rest h = by_test (length (after_space bytes) == length bytes) refl h where
  by_test : (t : Bool) → (length (after_space bytes) == length bytes) ≡ t → cond t None (Some (after_space bytes)) ≡ Some rest → Spaced bytes rest
  by_test true e k = absurd cc
  by_test false e k =
      let some = nonempty bytes (eqb-false (length (after_space bytes)) (length bytes) e) in
      let space : IsSpace (some.0 ∷ some.1) = ap (list_all is_space) (sym some.2) ∙ (space-is bytes).0 in
      (some.0, some.1, space, (space-is bytes).1 ∙ (ap (λ l. l ++ after_space bytes) some.2 ∙ ap (λ l. (some.0 ∷ some.1) ++ l) (some_if true (after_space bytes) rest k)))

after_word-is : (word bytes rest : List ℕ) → after_word word bytes ≡ Some rest → bytes ≡ word ++ rest
after_word-is word bytes rest h = by_test (begins bytes word) refl h where
  by_test : (t : Bool) → begins bytes word ≡ t → cond t (Some (drop (length word) bytes)) None ≡ Some rest → bytes ≡ word ++ rest
  by_test true e k = begins-is bytes word e ∙ ap (λ l. word ++ l) (some_if true (drop (length word) bytes) rest k)
  by_test false e k = absurd cc

behind_word-is : (word bytes more : List ℕ) → behind_word word bytes ≡ Some more → SpellsWord word bytes more
behind_word-is word bytes more h =
    let b = bind_some (after_word word) (behind_space bytes) more h in
    let s = behind_space-is bytes b.0 b.1 in
    (s.0, s.1, s.2, s.3 ∙ ap (λ l. (s.0 ∷ s.1) ++ l) (after_word-is word b.0 more b.2))

declared-is : (word bytes : List ℕ) (found : List ℕ × List ℕ) → declared_as word bytes ≡ Some found → (a : Attribute) × SpellsDeclared word a bytes found.1 × (a.value ≡ found.0)
unfolding declared_as
declared-is word bytes found h =
    let b = bind_some equated (behind_word word bytes) found h in
    let w = behind_word-is word bytes b.0 b.1 in
    let e = equated-is b.0 found b.2 in
    let before = space-is b.0 in
    let behind = space-is e.0 in
    let q = quoted-spelled (after_space e.0) found e.2 in
    let a : Attribute = record { first = w.0; space = w.1; before = take (prefix_len is_space b.0) b.0; behind = take (prefix_len is_space e.0) e.0; quote = q.0; value = found.0 } in
    let is : IsQuoted a = record { space = w.2; before = before.0; behind = behind.0; quote = q.1; unquoted = q.3 } in
    let rest : b.0 ≡ a.before ++ 61 ∷ (a.behind ++ a.quote ∷ (a.value ++ a.quote ∷ found.1)) =
    before.1 ∙ ap (λ l. a.before ++ l) (after_byte-same 61 (after_space b.0) e.0 e.1 ∙ ap (λ l. 61 ∷ l) (behind.1 ∙ ap (λ l. a.behind ++ l) q.2)) in
    (a, (is, w.3 ∙ ap (λ l. (w.0 ∷ w.1) ++ (word ++ l)) rest), refl)

-- white space alone is left
over-is : (bytes : List ℕ) → is_over bytes ≡ true → IsSpace bytes
over-is bytes h =
    let none : after_space bytes ≡ [] = nothing (after_space bytes) h in
    let s = space-is bytes in
    ap (list_all is_space) (s.1 ∙ (ap (λ l. take (prefix_len is_space bytes) bytes ++ l) none ∙ append-nil (take (prefix_len is_space bytes) bytes))) ∙ s.0 where
      nothing : (l : List ℕ) → (length l == 0) ≡ true → l ≡ []
      nothing [] k = refl
      nothing (x ∷ xs) k = absurd (omega (arith, eqb-true (length (x ∷ xs)) 0 k))

abbrev maybe : Option (List ℕ × List ℕ) → List ℕ → Option (List ℕ) × List ℕ
maybe o bytes = option_map_or (λ found. (Some found.0, found.1)) o (None, bytes)

standalone-is : (bytes : List ℕ) → (is_standalone (maybe_declared (codes "standalone") bytes).0 && is_over (maybe_declared (codes "standalone") bytes).1) ≡ true → SpellsStandalone bytes
standalone-is bytes h = by_declared (declared_as (codes "standalone") bytes) refl h where
  by_declared : (o : Option (List ℕ × List ℕ)) → declared_as (codes "standalone") bytes ≡ o → (is_standalone (maybe o bytes).0 && is_over (maybe o bytes).1) ≡ true → SpellsStandalone bytes
  by_declared None e k = inl (over-is bytes k)
  by_declared (Some found) e k =
      let d = declared-is (codes "standalone") bytes found e in
      let parts = two (is_standalone (Some found.0)) (is_over found.1) k in
      inr (d.0, found.1, d.1, ap (λ v. is_standalone (Some v)) d.2 ∙ parts.0, over-is found.1 parts.1)

encoding-is : (bytes : List ℕ) → option_map_or is_encoding (maybe_declared (codes "encoding") bytes).0 true ≡ true → SpellsStandalone (maybe_declared (codes "encoding") bytes).1 → SpellsEncoding bytes
encoding-is bytes h s = by_declared (declared_as (codes "encoding") bytes) refl h s where
  by_declared : (o : Option (List ℕ × List ℕ)) → declared_as (codes "encoding") bytes ≡ o → option_map_or is_encoding (maybe o bytes).0 true ≡ true → SpellsStandalone (maybe o bytes).1 → SpellsEncoding bytes
  by_declared None e k t = inl t
  by_declared (Some found) e k t =
      let d = declared-is (codes "encoding") bytes found e in
      inr (d.0, found.1, d.1, ap is_encoding d.2 ∙ k, t)

pub declaration-is : (bytes : List ℕ) (told : List ℕ × Option (List ℕ)) → declared bytes ≡ Some told → is_version told.0 ≡ true → option_map_or is_encoding told.1 true ≡ true → SpellsDeclaration bytes
unfolding declared
declaration-is bytes told h v e =
    let b = bind_some (λ version.
    let encoding = maybe_declared (codes "encoding") version.1 in
    let standalone = maybe_declared (codes "standalone") encoding.1 in
    if is_standalone standalone.0 && is_over standalone.1 then Some (version.0, encoding.0) else None) (declared_as (codes "version") bytes) told h in
    let d = declared-is (codes "version") bytes b.0 b.1 in
    let encoding = maybe_declared (codes "encoding") b.0.1 in
    let standalone = maybe_declared (codes "standalone") encoding.1 in
    let ends = by_test (is_standalone standalone.0 && is_over standalone.1) refl (b.0.0, encoding.0) b.2 in (
      d.0,
      b.0.1,
      d.1,
      ap is_version (d.2 ∙ ap (λ (t : List ℕ × Option (List ℕ)). t.0) ends.1) ∙ v,
      encoding-is b.0.1 (ap (λ (t : List ℕ × Option (List ℕ)). option_map_or is_encoding t.1 true) ends.1 ∙ e) (standalone-is encoding.1 ends.0),
    ) where
      by_test : (t : Bool) → {u : Bool} → u ≡ t → (x : List ℕ × Option (List ℕ)) → cond t (Some x) None ≡ Some told → (u ≡ true) × (x ≡ told)
      by_test true e x k = (e, some_if true x told k)
      by_test false e x k = absurd cc

literal-is : (bytes more : List ℕ) → behind_literal bytes ≡ Some more → SpellsQuoted bytes more
literal-is bytes more h =
    let b = bind_some (λ rest. option_map (λ found. found.1) (quoted rest)) (behind_space bytes) more h in
    let m = map_some (λ (found : List ℕ × List ℕ). found.1) (quoted b.0) more b.2 in
    let s = behind_space-is bytes b.0 b.1 in
    let q = quoted-spelled b.0 m.0 m.1 in
    (s.0, s.1, q.0, m.0.0, s.2, q.1, q.3, s.3 ∙ ap (λ l. (s.0 ∷ s.1) ++ l) (q.2 ∙ ap (λ l. q.0 ∷ (m.0.0 ++ q.0 ∷ l)) m.2))

identifier-is : (bytes rest : List ℕ) → behind_identifier bytes ≡ Some rest → is_over rest ≡ true → SpellsIdentifier bytes
unfolding behind_identifier
identifier-is bytes rest h o = by_system (behind_word (codes "SYSTEM") bytes) refl h where
  by_public : (p : Option (List ℕ)) → behind_word (codes "PUBLIC") bytes ≡ p → option_map_or (λ more. option_and_then behind_literal (behind_literal more)) p (Some bytes) ≡ Some rest → SpellsIdentifier bytes
  by_public (Some more) e k =
      let b = bind_some behind_literal (behind_literal more) rest k in
      inr (inr (more, b.0, rest, behind_word-is (codes "PUBLIC") bytes more e, literal-is more b.0 b.1, literal-is b.0 rest b.2, over-is rest o))
  by_public None e k = inl (over-is bytes (ap is_over (some_if true bytes rest k) ∙ o))

  by_system : (s : Option (List ℕ)) → behind_word (codes "SYSTEM") bytes ≡ s →
      option_map_or behind_literal s (option_map_or (λ more. option_and_then behind_literal (behind_literal more)) (behind_word (codes "PUBLIC") bytes) (Some bytes)) ≡ Some rest → SpellsIdentifier bytes
  by_system (Some more) e k = inr (inl (more, rest, behind_word-is (codes "SYSTEM") bytes more e, literal-is more rest k, over-is rest o))
  by_system None e k = by_public (behind_word (codes "PUBLIC") bytes) refl k

pub doctype-is : (bytes : List ℕ) → IsGood bytes → is_doctype bytes ≡ true → SpellsDoctype bytes
unfolding is_doctype
doctype-is bytes good h = by_all (option_and_then (λ found. behind_identifier found.1) (option_and_then named (behind_space bytes))) refl h where
  by_all : (o : Option (List ℕ)) → option_and_then (λ found. behind_identifier found.1) (option_and_then named (behind_space bytes)) ≡ o → option_map_or is_over o false ≡ true → SpellsDoctype bytes
  by_all None e k = absurd cc
  by_all (Some rest) e k =
      let a = bind_some (λ found. behind_identifier found.1) (option_and_then named (behind_space bytes)) rest e in
      let b = bind_some named (behind_space bytes) a.0 a.1 in
      let s = behind_space-is bytes b.0 b.1 in
      let is = named-is b.0 a.0 b.2 in
      let g = good-name b.0 a.0 b.2 (good-behind (s.0 ∷ s.1) b.0 s.2 (subst IsGood s.3 good)) in
      (chars a.0.0, a.0.1, is.0.named, (s.0, s.1, s.2, s.3 ∙ ap (λ l. (s.0 ∷ s.1) ++ l) (is.1 ∙ ap (λ l. l ++ a.0.1) (sym (again-bytes a.0.0 g.0)))), identifier-is a.0.1 rest a.2 k)
