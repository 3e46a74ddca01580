-- What a reader of accepted parts knows to be declared.
use Rattle.std.proofs.Common.{◌≡◌, ℕ, suc, ◌+◌, ◌<◌, ◌≤◌, ◌^◌, Bool, true, false, ◌&&◌, List, [], ◌∷◌, ◌++◌, Option, Some, None, length, refl, sym, ap, ◌∙◌, subst, arith}
use Rattle.std.specs.Prelude.{codes, if◌then◌else◌}
use Rattle.std.specs.List.{list_all}
use Rattle.std.proofs.lemmas.Bool.{and_parts, and_from}
use Rattle.stx_base.specs.declared.name.Attr.{Attr}
use Rattle.stx_base.specs.declared.name.Binding.{Binding}
use Rattle.stx_base.specs.declared.name.Name.{Name}
use Rattle.stx_base.specs.declared.part.Part.{Part}
use Rattle.stx_base.specs.declared.part.Part.TheVariants as part
use Rattle.xml_names.proofs.Paths.{take-last}
use Rattle.xml_names.specs.Scope.{declared_on}
use Rattle.result_writer.specs.Allowed.{are_chars, is_good_attribute, is_good_name}
use Rattle.result_writer.specs.Target.{AreDistinct, Element, Left, added, closed, fault, first_fault, in_force, left_by, next, nothing, same_name, settled, with_attribute}
use Rattle.result_writer.specs.Table as writer
use Rattle.result_writer.specs.declared.tag.HeldTag.{HeldTag}
use Rattle.read_back.specs.Laws.{IsRead, ResolvesNames}
use Rattle.read_back.specs.PathLaws.{KnowsBindings, KnowsPath, ReadsHeldTags}
use Rattle.read_back.specs.Paths.{path_behind, path_from, path_into, path_of, path_out_of}
use Rattle.read_back.specs.Sound.{is_sound_attribute, is_sound_binding, is_sound_name, is_readable_part, is_sound_tag}
use Rattle.read_back.proofs.Accepted.{distinct_with, neither, passed, sound_with}
use Rattle.read_back.proofs.Naming.{declared_last}
use Rattle.read_back.proofs.Resolving.{in_force_bound}
use Rattle.read_back.proofs.Tests.{other}

-- Paths

declared_on-path : (es : List Element) → declared_on (path_of es) ≡ in_force es
declared_on-path [] = refl
declared_on-path (e ∷ outer) = declared_last (path_of outer) e.declared ∙ ap (λ l. l ++ e.declared) (declared_on-path outer)

out-of : (es : List Element) (held : Option HeldTag) → path_out_of (path_of es) held ≡ path_of (closed es held)
out-of es (Some tag) = refl
out-of [] None = refl
out-of (e ∷ outer) None = take-last (path_of outer) e.declared

-- Attributes that are put one after another

length-with : (attrs : List Attr) (name : Name) (value : List ℕ) → length (with_attribute attrs name value) ≤ length attrs + 1
length-with [] name value = omega arith
length-with (a ∷ attrs) name value = by_test (same_name a.name name) (length-with attrs name value) where
  by_test : (t : Bool) → length (with_attribute attrs name value) ≤ length attrs + 1 → length (if t then record a { value = value } ∷ attrs else a ∷ with_attribute attrs name value) ≤ length (a ∷ attrs) + 1
  by_test true l = omega arith
  by_test false l = omega arith

-- What stands between two parts: the path that is known, and within it a sound tag, which so many parts may still give attributes.

pub record IsSoundHeld (tag : HeldTag) (parts : ℕ) : Type 0 where
  pub sound : is_sound_tag tag ≡ true
  pub distinct : AreDistinct tag.attrs
  pub few : length tag.attrs + parts < 2 ^ 64

abbrev pub HoldsSound : Option HeldTag → (parts : ℕ) → Type 0
HoldsSound None parts = Unit {0}
HoldsSound (Some tag) parts = IsSoundHeld tag parts

started : (limit : ℕ) (l : Left) (name : Name) (scope : List Binding) (parts : ℕ) → parts < 2 ^ 64
    → fault limit l (part.Start name scope) ≡ None → is_readable_part (part.Start name scope) ≡ true
    → IsSoundHeld (record { name = name; scope = scope; attrs = [] }) parts
started limit l name scope parts few h k =
    let good = (passed (is_good_name name) _ _ h).0 in
    let sound = and_parts (are_chars name.uri) (list_all is_sound_binding scope) k in
    record {
      sound = and_from (is_sound_name name && true) (list_all is_sound_binding scope) (and_from (is_sound_name name) true (and_from (is_good_name name) (are_chars name.uri) good sound.0) refl) sound.1;
      distinct = tt;
      few = omega arith;
    }

put : (limit : ℕ) (l : Left) (tag : HeldTag) (name : Name) (value : List ℕ) (parts : ℕ) → IsSoundHeld tag (suc parts)
    → fault limit l (part.Attribute name value) ≡ None → is_readable_part (part.Attribute name value) ≡ true
    → IsSoundHeld (record tag { attrs = with_attribute tag.attrs name value }) parts
put limit l tag name value parts is h k =
    let good = passed (is_good_attribute name) _ _ h in
    let chars = passed (are_chars value) _ _ good.1 in
    let new : is_sound_attribute (record { name = name; value = value }) ≡ true =
    and_from (is_good_attribute name && are_chars name.uri) (are_chars value) (and_from (is_good_attribute name) (are_chars name.uri) good.0 k) chars.0 in
    let p = and_parts (is_sound_name tag.name && list_all is_sound_attribute tag.attrs) (list_all is_sound_binding tag.scope) is.sound in
    let q = and_parts (is_sound_name tag.name) (list_all is_sound_attribute tag.attrs) p.0 in
    let longer = length-with tag.attrs name value in
    let few = is.few in
    record {
      sound = and_from (is_sound_name tag.name && list_all is_sound_attribute (with_attribute tag.attrs name value)) (list_all is_sound_binding tag.scope)
          (and_from (is_sound_name tag.name) (list_all is_sound_attribute (with_attribute tag.attrs name value)) q.0 (sound_with tag.attrs (record { name = name; value = value }) q.1 new)) p.1;
      distinct = distinct_with tag.attrs name value is.distinct;
      few = omega arith;
    }

module _ (resolves : ResolvesNames) where
  -- a tag that is held back is read with what the elements around it declared
  resolves-held : (outer : List Element) (tag : HeldTag) (parts : ℕ) → IsSoundHeld tag parts → IsRead (path_of outer) (in_force outer) tag
  resolves-held outer tag parts h =
      let few = h.few in
      subst (λ bs. IsRead (path_of outer) bs tag) (declared_on-path outer) (resolves (path_of outer) tag h.sound h.distinct (omega arith))

  into-held : (outer : List Element) (held : Option HeldTag) (parts : ℕ) → HoldsSound held parts → path_into (path_of outer) outer held ≡ path_of (settled outer held)
  into-held outer None parts h = refl
  into-held outer (Some tag) parts h = ap (λ ds. path_of outer ++ ds ∷ []) (resolves-held outer tag parts h).3

  module _ (limit : ℕ) where
    step : (l : Left) (p : Part) (parts : ℕ) → parts < 2 ^ 64 → HoldsSound l.held (suc parts) → fault limit l p ≡ None → is_readable_part p ≡ true
        → (path_behind (path_of l.elements) l p ≡ path_of (next l p).elements) × HoldsSound (next l p).held parts
    step l (part.Start name scope) parts few h f k = (into-held l.elements l.held (suc parts) h, started limit l name scope parts few f k)
    step l (part.Attribute name value) parts few h f k = (refl, by_held l.held h) where
      by_held : (held : Option HeldTag) → HoldsSound held (suc parts) → HoldsSound (added held name value) parts
      by_held None is = tt
      by_held (Some tag) is = put limit l tag name value parts is f k
    step l (part.End name) parts few h f k = (out-of l.elements l.held, tt)
    step l (part.Chars text) parts few h f k = (into-held l.elements l.held (suc parts) h, tt)
    step l (part.CData text) parts few h f k = (into-held l.elements l.held (suc parts) h, tt)
    step l (part.Comment text) parts few h f k = (into-held l.elements l.held (suc parts) h, tt)
    step l (part.Pi target text) parts few h f k = (into-held l.elements l.held (suc parts) h, tt)

    follows : (path : List (List Binding)) (l : Left) (ps : List Part) → path ≡ path_of l.elements → length ps < 2 ^ 64 → HoldsSound l.held (length ps)
        → first_fault limit l ps ≡ None → list_all is_readable_part ps ≡ true
        → (path_from path l ps ≡ path_of (left_by l ps).elements) × HoldsSound (left_by l ps).held 0
    follows path l [] e few h f k = (e, h)
    follows path l (p ∷ ps) e few h f k =
        let faults = neither (fault limit l p) (first_fault limit (next l p) ps) f in
        let sound = and_parts (is_readable_part p) (list_all is_readable_part ps) k in
        let less : length ps < 2 ^ 64 = omega arith in
        let one = step l p (length ps) less h faults.0 sound.0 in
        follows (path_behind path l p) (next l p) ps (ap (λ q. path_behind q l p) e ∙ one.0) less one.1 faults.1 sound.1

  pub knows_path : KnowsPath
  knows_path limit ps f k few = (follows limit [] nothing ps refl few tt f k).0

  pub knows_bindings : KnowsBindings
  knows_bindings limit ps prefix f k few ne =
      in_force_bound (path_from [] nothing ps) prefix (other prefix (codes "xml") ne)
      ∙ ap (λ path. writer.bound (declared_on path) prefix) (knows_path limit ps f k few)
      ∙ ap (λ bs. writer.bound bs prefix) (declared_on-path (left_by nothing ps).elements)

  pub reads_held_tags : ReadsHeldTags
  reads_held_tags limit ps tag f k few e =
      let all = follows limit [] nothing ps refl few tt f k in
      subst (λ path. IsRead path (in_force (left_by nothing ps).elements) tag) (sym all.0)
      (resolves-held (left_by nothing ps).elements tag 0 (subst (λ o. HoldsSound o 0) e all.1))
