-- The values that the command gives to parameters, and the value that a variable gets.
use Rattle.std.proofs.Common.{◌≡◌, ◌≤◌, ℕ, ◌+◌, Bool, cond, not, List, [], ◌∷◌, length, map, Option, Some, None, Ok, true, get_or, nat_lt, refl, ap, sym, ◌∙◌, arith}
use Rattle.std.specs.Prelude.{if◌then◌else◌, option_map, position, slice_get}
use Rattle.std.specs.List.{position_or_len}
use Rattle.std.proofs.lemmas.List.{length-map}
use Rattle.std.proofs.lemmas.List.Folds.{find_at}
use Rattle.std.proofs.lemmas.Option.{slice_get-map, slice_get_past, slice_get_read}
use Rattle.sheet_model.specs.declared.sheet.Variable.{Variable}
use Rattle.stx_base.specs.declared.name.Name.{Name}
use Rattle.stxpath_eval.specs.Setting.{Setting}
use Rattle.stxpath_values.specs.declared.value.Atom.{Atom}
use Rattle.var_store.specs.Variables.{is_called, value_of}
use Rattle.var_store.specs.declared.bound.Bound.{Bound}
use Rattle.template_machine.specs.Commands.{HasParams, given_by}
use Rattle.template_machine.specs.Declaring.{commanded, new_value}
use Rattle.template_machine.specs.Job.{Given}
use Rattle.template_machine.specs.Values.{selected, text_value}
use Rattle.template_machine.specs.declared.program.Program.{Program}
use Rattle.template_machine.specs.declared.turn.Param.{Param}
use Rattle.template_machine.proofs.FirstPlace.{no_place, some_place}

module _ (name : Name) where
  abbrev is_it : Param → Bool
  is_it x = is_called name (given_by x)

  slots_same : (ps : List Param) → position_or_len (is_called name) (map given_by ps) ≡ position_or_len is_it ps
  slots_same [] = refl
  slots_same (x ∷ xs) = ap (λ n. cond (not (is_it x)) (1 + n) 0) (slots_same xs)

  found : (ps : List Param) (n : ℕ) → position_or_len is_it ps ≡ n → value_of name (map given_by ps) ≡ option_map (λ (b : Bound). b.value) (slice_get (map given_by ps) n)
  found ps n at =
      ap (option_map (λ (b : Bound). b.value)) (find_at (is_called name) (map given_by ps))
      ∙ ap (λ k. option_map (λ (b : Bound). b.value) (slice_get (map given_by ps) k)) (slots_same ps ∙ at)

  value_there : (ps : List Param) (k : ℕ) (x : Param) → position is_it ps ≡ Some k → x ≡ get_or ps k x → value_of name (map given_by ps) ≡ Some (text_value x.value)
  value_there ps k x there at =
      let n = position_or_len is_it ps in
      let h = some_place (nat_lt n (length ps)) n (length ps) k refl there in
      found ps k h.0
      ∙ ap (option_map (λ (b : Bound). b.value)) (slice_get-map given_by ps k)
      ∙ ap (λ o. option_map (λ (b : Bound). b.value) (option_map given_by o)) (slice_get_read ps (length ps) k x refl h.1 at)

  none_there : (ps : List Param) → position is_it ps ≡ None → value_of name (map given_by ps) ≡ None
  none_there ps there =
      let n = position_or_len is_it ps in
      let past : length ps ≤ n = no_place (nat_lt n (length ps)) n (length ps) refl there in
      found ps n refl
      ∙ ap (option_map (λ (b : Bound). b.value)) (slice_get_past (map given_by ps) n (omega (arith, past, length-map ps given_by)))

module _ (given : Given) (p : Program) (has : HasParams p given) (v : Variable) where
  by_name : (b : Bool) → v.param ≡ b → commanded given v ≡ (if b then value_of v.name (map given_by p.params) else None)
  by_name b is =
      ap (λ c. if c then value_of v.name given.params else None) is
      ∙ ap (λ ps. if b then value_of v.name ps else None) has

  pub commanded_value : (ps : List Param) → ps ≡ p.params → v.param ≡ true → (k : ℕ) (x : Param) → position (λ (y : Param). is_called v.name (given_by y)) ps ≡ Some k → x ≡ get_or ps k x
      → Some (text_value x.value) ≡ commanded given v
  commanded_value ps same is k x there at = sym (by_name true is ∙ ap (λ qs. value_of v.name (map given_by qs)) (sym same) ∙ value_there v.name ps k x there at)

  pub commanded_none : (ps : List Param) → ps ≡ p.params → v.param ≡ true → position (λ (y : Param). is_called v.name (given_by y)) ps ≡ None → None ≡ commanded given v
  commanded_none ps same is there = sym (by_name true is ∙ ap (λ qs. value_of v.name (map given_by qs)) (sym same) ∙ none_there v.name ps there)

-- The command's value comes first, then the one that is kept, and then that of the expression.

pub new_kept : (given : Given) (o q : Option (List Atom)) (value : List Atom) (v : Variable) (g : Setting) → o ≡ None → q ≡ Some value → new_value given o q v g ≡ Ok value
new_kept given o q value v g none some = ap (λ x. new_value given x q v g) none ∙ ap (λ x. new_value given None x v g) some

pub new_made : (given : Given) (o q : Option (List Atom)) (v : Variable) (g : Setting) → o ≡ None → q ≡ None → new_value given o q v g ≡ selected v.select g
new_made given o q v g none neither = ap (λ x. new_value given x q v g) none ∙ ap (λ x. new_value given None x v g) neither
