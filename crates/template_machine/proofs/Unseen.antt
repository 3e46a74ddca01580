-- Locals without a name aren't seen.
use Rattle.std.proofs.Common.{◌≡◌, ◌≢◌, ℕ, Bool, true, false, cond, if◌then◌else◌, not, ◌&&◌, List, [], ◌∷◌, Option, Some, None, filter, refl, ap, sym, ◌∙◌}
use Rattle.std.specs.Prelude.{find, option_map}
use Rattle.std.specs.Str.{bytes_eq}
use Rattle.stx_base.specs.declared.name.Name.{Name}
use Rattle.frame_stack.specs.declared.locals.Local.{Local}
use Rattle.result_writer.specs.Allowed.{is_empty}
use Rattle.template_machine.specs.Seen.{bounds_of, local_of, named_of, place_of}
use Rattle.var_store.proofs.Finding.{found_nowhere}
use Rattle.var_store.specs.Variables.{bound, is_called, slot_of}
use Rattle.var_store.specs.declared.bound.Bound.{Bound}

pub not_empty : (l : List ℕ) → l ≢ [] → is_empty l ≡ false
not_empty [] some = absurd (some refl)
not_empty (c ∷ cs) some = refl

pub not_none : (l : List ℕ) → is_empty l ≡ false → l ≢ []
not_none [] e = absurd (cc)
not_none (c ∷ cs) e = λ none. absurd (cc)

not_same : (a b : List ℕ) → is_empty a ≡ true → is_empty b ≡ false → bytes_eq a b ≡ false
not_same [] [] e f = absurd (cc)
not_same [] (c ∷ cs) e f = refl
not_same (c ∷ cs) b e f = absurd (cc)

not_alike : (a b : List ℕ) → is_empty a ≡ false → is_empty b ≡ true → bytes_eq a b ≡ false
not_alike [] b e f = absurd (cc)
not_alike (c ∷ cs) [] e f = refl
not_alike (c ∷ cs) (d ∷ ds) e f = absurd (cc)

none_of_two : (p q : Bool) → q ≡ false → (p && q) ≡ false
none_of_two true q e = e
none_of_two false q e = refl

-- one that has no name is called nothing
pub uncalled : (name : Name) (l : Local) → is_empty l.name.local ≡ true → is_empty name.local ≡ false → is_called name (bound l.name l.value) ≡ false
uncalled name l e f = none_of_two (bytes_eq l.name.uri name.uri) (bytes_eq l.name.local name.local) (not_same l.name.local name.local e f)

-- and one that has a name isn't called nothing
called_something : (name : Name) (l : Local) → is_empty l.name.local ≡ false → is_empty name.local ≡ true → is_called name (bound l.name l.value) ≡ false
called_something name l e f = none_of_two (bytes_eq l.name.uri name.uri) (bytes_eq l.name.local name.local) (not_alike l.name.local name.local e f)

abbrev others : List Local → List Local
others ls = filter (λ (x : Local). not (is_empty x.name.local)) ls

-- under a name the same is found among the locals with a name as among all
found_alike : (name : Name) (ls : List Local) → is_empty name.local ≡ false → find (is_called name) (named_of ls) ≡ find (is_called name) (bounds_of ls)
found_alike name [] f = refl
found_alike name (l ∷ ls) f = of_name (is_empty l.name.local) refl (found_alike name ls f) where
  of_name : (e : Bool) → is_empty l.name.local ≡ e → find (is_called name) (bounds_of (others ls)) ≡ find (is_called name) (bounds_of ls)
      → find (is_called name) (bounds_of (cond (not e) (l ∷ others ls) (others ls))) ≡ find (is_called name) (bound l.name l.value ∷ bounds_of ls)
  of_name true e h = h ∙ ap (λ b. cond b (Some (bound l.name l.value)) (find (is_called name) (bounds_of ls))) (sym (uncalled name l e f))
  of_name false e h = ap (cond (is_called name (bound l.name l.value)) (Some (bound l.name l.value))) h

-- under no name nothing is found
found_unnamed : (name : Name) (ls : List Local) → is_empty name.local ≡ true → find (is_called name) (named_of ls) ≡ None
found_unnamed name [] f = refl
found_unnamed name (l ∷ ls) f = of_name (is_empty l.name.local) refl (found_unnamed name ls f) where
  of_name : (e : Bool) → is_empty l.name.local ≡ e → find (is_called name) (bounds_of (others ls)) ≡ None
      → find (is_called name) (bounds_of (cond (not e) (l ∷ others ls) (others ls))) ≡ None
  of_name true e h = h
  of_name false e h = ap (λ b. cond b (Some (bound l.name l.value)) (find (is_called name) (bounds_of (others ls)))) (called_something name l e f) ∙ h

-- where a name stands: it has a local part, and stands there among all
pub stands_at : (name : Name) (ls : List Local) (i : ℕ) → place_of name ls ≡ Some i → (is_empty name.local ≡ false) × (slot_of name (bounds_of ls) ≡ Some i)
stands_at name ls i h = by (is_empty name.local) refl h where
  by : (e : Bool) → is_empty name.local ≡ e → (if e then None else slot_of name (bounds_of ls)) ≡ Some i
      → (is_empty name.local ≡ false) × (slot_of name (bounds_of ls) ≡ Some i)
  by true e h = absurd (cc)
  by false e h = (e, h)

pub named_seen : (name : Name) (ls : List Local) → is_empty name.local ≡ false → local_of name ls ≡ option_map (λ (b : Bound). b.value) (find (is_called name) (bounds_of ls))
named_seen name ls f = ap (option_map (λ (b : Bound). b.value)) (found_alike name ls f)

-- one that stands nowhere has no value
pub seen_nowhere : (name : Name) (ls : List Local) → place_of name ls ≡ None → local_of name ls ≡ None
seen_nowhere name ls h = by (is_empty name.local) refl h where
  by : (e : Bool) → is_empty name.local ≡ e → (if e then None else slot_of name (bounds_of ls)) ≡ None → local_of name ls ≡ None
  by true e h = ap (option_map (λ (b : Bound). b.value)) (found_unnamed name ls e)
  by false e h = named_seen name ls e ∙ ap (option_map (λ (b : Bound). b.value)) (found_nowhere name (bounds_of ls) h)
