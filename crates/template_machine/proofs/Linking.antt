-- Links, one more at a time.
use Rattle.std.proofs.Common.{◌≡◌, ◌≢◌, ◌<◌, ◌≤◌, ℕ, zero, suc, ◌+◌, Bool, true, false, List, [], ◌∷◌, Option, Some, None, length, get_or, nat_eq, eq-eqb, refl, sym, ap, ◌∙◌, arith}
use Rattle.std.specs.Prelude.{slice_get, slice_set}
use Rattle.std.proofs.lemmas.Bool.{eqb-true}
use Rattle.instr_code.specs.declared.code.Code.{Code}
use Rattle.instr_code.specs.declared.code.Op.{Op}
use Rattle.sheet_model.specs.declared.instr.Instr.{Instr}
use Rattle.sheet_model.specs.declared.sheet.Sheet.{Sheet}
use Rattle.template_machine.specs.Programs.{IsIn, IsLinked, IsOf, end_of, instr_of, link_of}
use Rattle.template_machine.specs.declared.program.Link.{Link}

module _ {A : Type 0} where
  pub set_here : (xs : List A) (i : ℕ) (x : A) → i < length xs → slice_get (slice_set xs i x) i ≡ Some x
  set_here [] i x l = absurd (omega arith)
  set_here (y ∷ xs) zero x l = refl
  set_here (y ∷ xs) (suc i) x l = set_here xs i x (omega arith)

  pub set_elsewhere : (xs : List A) (i j : ℕ) (x : A) → i ≢ j → slice_get (slice_set xs i x) j ≡ slice_get xs j
  set_elsewhere [] i j x n = refl
  set_elsewhere (y ∷ xs) zero zero x n = absurd (n refl)
  set_elsewhere (y ∷ xs) zero (suc j) x n = refl
  set_elsewhere (y ∷ xs) (suc i) zero x n = refl
  set_elsewhere (y ∷ xs) (suc i) (suc j) x n = set_elsewhere xs i j x (λ e. n (ap suc e))

pub linked_here : (s : Sheet) (code : Code) (links : List Link) (group number : ℕ) (i : Instr) → slice_get code.instrs number ≡ Some i
    → number < length links → IsLinked s code (slice_set links number (link_of s group i)) group number
linked_here s code links group number i is l = λ j at.
    let same : i ≡ j = cc in
    set_here links number (link_of s group i) l ∙ ap (λ k. Some (link_of s group k)) same

-- what is linked stays so where others are left alone
pub linked_still : (s : Sheet) (code : Code) (old new : List Link) (group number : ℕ) → slice_get new number ≡ slice_get old number
    → IsLinked s code old group number → IsLinked s code new group number
linked_still s code old new group number same h = λ i is. same ∙ h i is

-- what is linked stays so where an operation's instruction is linked from the same group
pub linked_on : (s : Sheet) (code : Code) (old new : List Link) (group number : ℕ) (o : Op)
    → ((n : ℕ) → instr_of o ≡ Some n → IsLinked s code new group n)
    → ((n : ℕ) → (instr_of o ≡ Some n → ⊥) → slice_get new n ≡ slice_get old n)
    → IsLinked s code old group number → IsLinked s code new group number
linked_on s code old new group number o own others h = of_number (instr_of o) refl where
  of_number : (m : Option ℕ) → instr_of o ≡ m → IsLinked s code new group number
  of_number None e = linked_still s code old new group number (others number (λ is. cc)) h
  of_number (Some m) e = by_test (nat_eq m number) refl where
    by_test : (b : Bool) → nat_eq m number ≡ b → IsLinked s code new group number
    by_test true same = own number (e ∙ ap (λ n. Some n) (eqb-true m number same))
    by_test false other = linked_still s code old new group number (others number (λ is. let same : m ≡ number = cc in let yes : nat_eq m number ≡ true = eq-eqb m number same in cc)) h

-- an item that is got is there
pub got_there : {A : Type 0} (xs : List A) (i : ℕ) (d : A) → i < length xs → slice_get xs i ≡ Some (get_or xs i d)
got_there [] i d l = absurd (omega arith)
got_there (x ∷ xs) zero d l = refl
got_there (x ∷ xs) (suc i) d l = got_there xs i d (omega arith)

-- the operations before a place, and that at the place
pub linked_more : (s : Sheet) (code : Code) (old new : List Link) (group start place : ℕ) (o : Op) → slice_get code.ops place ≡ Some o
    → ((n : ℕ) → instr_of o ≡ Some n → IsLinked s code new group n)
    → ((n : ℕ) → (instr_of o ≡ Some n → ⊥) → slice_get new n ≡ slice_get old n)
    → ((at number : ℕ) (p : Op) → start ≤ at → at < place → slice_get code.ops at ≡ Some p → instr_of p ≡ Some number → IsLinked s code old group number)
    → (at number : ℕ) (p : Op) → start ≤ at → at < place + 1 → slice_get code.ops at ≡ Some p → instr_of p ≡ Some number → IsLinked s code new group number
linked_more s code old new group start place o here own others before at number p from to is for = by (nat_eq at place) refl where
  by : (b : Bool) → nat_eq at place ≡ b → IsLinked s code new group number
  by true e =
      let same : at ≡ place = eqb-true at place e in
      let one : Some p ≡ Some o = sym is ∙ ap (slice_get code.ops) same ∙ here in
      let op : p ≡ o = cc in
      own number (sym (ap instr_of op) ∙ for)
  by false e =
      let other : at ≢ place = λ same. let yes : nat_eq at place ≡ true = eq-eqb at place same in cc in
      linked_on s code old new group number o own others (before at number p from (omega arith) is for)

-- the same of operations that are got one after another
pub linked_at : (s : Sheet) (code : Code) (old new : List Link) (group start place : ℕ) (ops : List Op) (d : Op) → ops ≡ code.ops → place < length ops
    → ((n : ℕ) → instr_of (get_or ops place d) ≡ Some n → IsLinked s code new group n)
    → ((n : ℕ) → (instr_of (get_or ops place d) ≡ Some n → ⊥) → slice_get new n ≡ slice_get old n)
    → ((at number : ℕ) (p : Op) → start ≤ at → at < place → slice_get code.ops at ≡ Some p → instr_of p ≡ Some number → IsLinked s code old group number)
    → (at number : ℕ) (p : Op) → start ≤ at → at < place + 1 → slice_get code.ops at ≡ Some p → instr_of p ≡ Some number → IsLinked s code new group number
linked_at s code old new group start place ops d same less own others before =
    linked_more s code old new group start place (get_or ops place d) (sym (ap (λ l. slice_get l place) same) ∙ got_there ops place d less) own others before

pub others_at : (code : Code) (first old new : List Link) (body start place : ℕ) (ops : List Op) (d : Op) → ops ≡ code.ops → place < length ops
    → slice_get code.starts body ≡ Some start → start ≤ place → place < end_of code body
    → ((n : ℕ) → (instr_of (get_or ops place d) ≡ Some n → ⊥) → slice_get new n ≡ slice_get old n)
    → ((n : ℕ) → (IsOf code body n → ⊥) → slice_get old n ≡ slice_get first n)
    → (n : ℕ) → (IsOf code body n → ⊥) → slice_get new n ≡ slice_get first n
others_at code first old new body start place ops d same less starts behind before others were n none =
    let here : slice_get code.ops place ≡ Some (get_or ops place d) = sym (ap (λ l. slice_get l place) same) ∙ got_there ops place d less in
    let there : IsIn code body place (get_or ops place d) = record { start = start; starts = starts; behind = behind; before = before; stands = here } in
    others n (λ is. none (place, get_or ops place d, there, is)) ∙ were n none
