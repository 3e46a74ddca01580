-- How the places of the last bindings change.
use Rattle.std.proofs.Common.{◌≡◌, ℕ, ◌+◌, Bool, true, false, cond, List, [], ◌∷◌, ◌++◌, Option, Some, None, length, refl, sym, ap, ◌∙◌, arith, encode_utf8_all, String, Global, map, subst}
use Rattle.std.specs.Prelude.{bytes_eq, slice_get, string_bytes, if◌then◌else◌}
use Rattle.std.specs.BTreeMap as tree
use Rattle.std.specs.BTreeMap.{BTreeMap, get_by_text}
use Rattle.std.specs.Cmp.Lexicographic.{slice_cmp}
use Rattle.std.specs.Option.{option_map}
use Rattle.std.specs.Ordering.{nat_cmp}
use Rattle.std.specs.String.{string_cmp}
use Rattle.std.proofs.lemmas.List.{map_push, same_from_push, length-map}
use Rattle.std.proofs.lemmas.Map.Text.{btree_map_updates_text}
use Rattle.std.proofs.lemmas.Option.{slice_get-map}
use Rattle.std.proofs.lemmas.Str.{encodes_same}
use Rattle.stx_base.specs.declared.name.Binding.{Binding}
use Rattle.result_writer.specs.Allowed.{same}
use Rattle.result_writer.specs.Table.{bound_from}
use Rattle.result_writer.specs.InForce.{bindings_of, last_place, hidden_by, IsIndexed}
use Rattle.result_writer.specs.declared.in_force.Entry.{Entry}
use Rattle.result_writer.specs.declared.in_force.Indexed.TheInside.{Inside}
use Rattle.result_writer.proofs.Places.{bound-none, bound-some, last_place-more, hidden_by-more}
use Rattle.std.proofs.lemmas.Bool.Decides.{same_from_decides}
use Rattle.std.proofs.lemmas.Slice.Eq.{bytes_eq-Decides}

module _ (s : Inside) (h : IsIndexed s) (p : List ℕ) where
  -- there is no binding without a place
  pub absent : None ≡ get_by_text s.places (encode_utf8_all p) → (u : List ℕ) → bound_from u (bindings_of s) p ≡ u
  absent e = bound-none (bindings_of s) p (e ∙ h.places p)

  -- it is the one that stands at the place
  pub present : (k : ℕ) → Some k ≡ get_by_text s.places (encode_utf8_all p) → (u : List ℕ)
      → option_map (λ e. e.binding.uri) (slice_get s.entries k) ≡ Some (bound_from u (bindings_of s) p)
  present k e u =
      let found = bound-some (bindings_of s) p k (e ∙ h.places p) in
      uris (slice_get s.entries k) ∙ ap (option_map (λ b. b.uri)) (sym (slice_get-map (λ e. e.binding) s.entries k) ∙ found.1) ∙ ap Some (sym (found.2 u)) where
        uris : (o : Option Entry) → option_map (λ e. e.binding.uri) o ≡ option_map (λ b. b.uri) (option_map (λ e. e.binding) o)
        uris None = refl
        uris (Some d) = refl

same-encoded : (a b : List ℕ) → bytes_eq (encode_utf8_all a) (encode_utf8_all b) ≡ same a b
same-encoded a b =
    let d = bytes_eq-Decides (encode_utf8_all a) (encode_utf8_all b) in
    let e = bytes_eq-Decides a b in
    same_from_decides (bytes_eq (encode_utf8_all a) (encode_utf8_all b)) (same a b) d ((λ h. ap encode_utf8_all (e.0 h)), (λ h. e.1 (encodes_same a b h)))

-- the map has the places of the last of these bindings
abbrev pub HasPlaces : BTreeMap (String Global) ℕ → List Binding → Type 0
HasPlaces m bs = (prefix : List ℕ) → get_by_text m (encode_utf8_all prefix) ≡ last_place 0 bs prefix

-- the map has this at the prefix, and else what it had
abbrev pub Sets : BTreeMap (String Global) ℕ → BTreeMap (String Global) ℕ → (prefix : List ℕ) → Option ℕ → Type 0
Sets m n prefix w = tree.UpdatesBy string_cmp (λ k. slice_cmp nat_cmp (encode_utf8_all prefix) (string_bytes k)) m n w

module _ (bs : List Binding) (b : Binding) (m n : BTreeMap (String Global) ℕ) where
  set_at : (w : Option ℕ) → Sets m n b.prefix w → (p : List ℕ) → get_by_text n (encode_utf8_all p) ≡ cond (same b.prefix p) w (get_by_text m (encode_utf8_all p))
  set_at w u p =
      btree_map_updates_text (encode_utf8_all b.prefix) m n w u (encode_utf8_all p)
      ∙ ap (λ t. cond t w (get_by_text m (encode_utf8_all p))) (same-encoded b.prefix p)

  pub pushed : HasPlaces m bs → Sets m n b.prefix (Some (length bs)) → HasPlaces n (bs ++ b ∷ [])
  pushed has u p =
      let e : length bs ≡ 0 + length bs = omega arith in
      set_at (Some (length bs)) u p ∙ ap (cond (same b.prefix p) (Some (length bs))) (has p)
      ∙ ap (λ k. cond (same b.prefix p) (Some k) (last_place 0 bs p)) e ∙ sym (last_place-more 0 bs b p)

  pub popped : HasPlaces m (bs ++ b ∷ []) → (w : Option ℕ) → w ≡ last_place 0 bs b.prefix → Sets m n b.prefix w → HasPlaces n bs
  popped has w is u p = set_at w u p ∙ ap (cond (same b.prefix p) w) (has p ∙ last_place-more 0 bs b p) ∙ by_test (same b.prefix p) refl where
    by_test : (t : Bool) → same b.prefix p ≡ t → cond t w (if t then Some (0 + length bs) else last_place 0 bs p) ≡ last_place 0 bs p
    by_test true e = is ∙ ap (last_place 0 bs) ((bytes_eq-Decides b.prefix p).0 e)
    by_test false e = refl

-- what a binding behind others hides
module _ (ds : List Entry) (d : Entry) (e : map (λ x. x.hidden) (ds ++ d ∷ []) ≡ hidden_by [] (map (λ x. x.binding) (ds ++ d ∷ []))) where
  last : (map (λ x. x.hidden) ds ≡ hidden_by [] (map (λ x. x.binding) ds)) × (d.hidden ≡ last_place 0 (map (λ x. x.binding) ds) d.binding.prefix)
  last = same_from_push _ _ _ _ (sym (map_push (λ x. x.hidden) ds d) ∙ e ∙ ap (hidden_by []) (map_push (λ x. x.binding) ds d) ∙ hidden_by-more [] (map (λ x. x.binding) ds) d.binding)

  pub others-hide : map (λ x. x.hidden) ds ≡ hidden_by [] (map (λ x. x.binding) ds)
  others-hide = last.0

  pub last-hides : d.hidden ≡ last_place 0 (map (λ x. x.binding) ds) d.binding.prefix
  last-hides = last.1

pub hides-more : (ds : List Entry) (d : Entry) → map (λ x. x.hidden) ds ≡ hidden_by [] (map (λ x. x.binding) ds)
    → d.hidden ≡ last_place 0 (map (λ x. x.binding) ds) d.binding.prefix
    → map (λ x. x.hidden) (ds ++ d ∷ []) ≡ hidden_by [] (map (λ x. x.binding) (ds ++ d ∷ []))
hides-more ds d e is =
    map_push (λ x. x.hidden) ds d ∙ ap (λ l. l ++ d.hidden ∷ []) e ∙ ap (λ o. hidden_by [] (map (λ x. x.binding) ds) ++ o ∷ []) is
    ∙ sym (hidden_by-more [] (map (λ x. x.binding) ds) d.binding) ∙ ap (hidden_by []) (sym (map_push (λ x. x.binding) ds d))

-- a text that a map is asked for
abbrev pub SetsText : BTreeMap (String Global) ℕ → BTreeMap (String Global) ℕ → (text : List ℕ) → Option ℕ → Type 0
SetsText m n text w = tree.UpdatesBy string_cmp (λ k. slice_cmp nat_cmp text (string_bytes k)) m n w

-- the last binding goes
module _ (s : Inside) (h : IsIndexed s) (ds : List Entry) (d : Entry) (e : s.entries ≡ ds ++ d ∷ []) where
  before : HasPlaces s.places (map (λ x. x.binding) ds ++ d.binding ∷ [])
  before = subst (HasPlaces s.places) (ap (map (λ x. x.binding)) e ∙ map_push (λ x. x.binding) ds d) h.places

  hides : map (λ x. x.hidden) (ds ++ d ∷ []) ≡ hidden_by [] (map (λ x. x.binding) (ds ++ d ∷ []))
  hides = subst (λ l. map (λ x. x.hidden) l ≡ hidden_by [] (map (λ x. x.binding) l)) e h.hidden

  pub without : (n : BTreeMap (String Global) ℕ) (text : List ℕ) (w : Option ℕ) → text ≡ encode_utf8_all d.binding.prefix → d.hidden ≡ w → SetsText s.places n text w
      → HasPlaces n (map (λ x. x.binding) ds) × (map (λ x. x.hidden) ds ≡ hidden_by [] (map (λ x. x.binding) ds))
  without n text w is hidden u = (
    popped (map (λ x. x.binding) ds) d.binding s.places n before w (sym hidden ∙ last-hides ds d hides) (subst (λ t. SetsText s.places n t w) is u),
    others-hide ds d hides,
  )

  pub has-last : (text : List ℕ) → text ≡ encode_utf8_all d.binding.prefix → get_by_text s.places text ≡ Some (0 + length (map (λ x. x.binding) ds))
  has-last text is =
      ap (get_by_text s.places) is ∙ before d.binding.prefix ∙ last_place-more 0 (map (λ x. x.binding) ds) d.binding d.binding.prefix
      ∙ ap (λ t. if t then Some (0 + length (map (λ x. x.binding) ds)) else last_place 0 (map (λ x. x.binding) ds) d.binding.prefix) ((bytes_eq-Decides d.binding.prefix d.binding.prefix).1 refl)

-- one more binding
module _ (s : Inside) (h : IsIndexed s) (d : Entry) where
  pub with-last : (n : BTreeMap (String Global) ℕ) (text : List ℕ) (at : ℕ) → text ≡ encode_utf8_all d.binding.prefix → at ≡ length s.entries
      → d.hidden ≡ get_by_text s.places text → SetsText s.places n text (Some at)
      → HasPlaces n (map (λ x. x.binding) (s.entries ++ d ∷ [])) × (map (λ x. x.hidden) (s.entries ++ d ∷ []) ≡ hidden_by [] (map (λ x. x.binding) (s.entries ++ d ∷ [])))
  with-last n text at is place hidden u = (
    subst (HasPlaces n) (sym (map_push (λ x. x.binding) s.entries d))
        (pushed (bindings_of s) d.binding s.places n h.places
        (subst (λ k. Sets s.places n d.binding.prefix (Some k)) (place ∙ sym (length-map s.entries (λ x. x.binding))) (subst (λ t. SetsText s.places n t (Some at)) is u))),
    hides-more s.entries d h.hidden (hidden ∙ ap (get_by_text s.places) is ∙ h.places d.binding.prefix),
  )
