use Rattle.std.proofs.Common.{◌≡◌, ◌<◌, ◌≤◌, ◌+◌, ℕ, false, List, ap, sym, ◌∙◌, drop, take, cond, Some, length, ◌++◌, ◌∷◌, [], arith, subst}
use Rattle.std.specs.Prelude.{string_bytes}
use Rattle.std.specs.List.{list_any}
use Rattle.std.specs.Map.{lookup}
use Rattle.std.specs.Ordering.{is_eq}
use Rattle.std.proofs.lemmas.List.{length-append}
use Rattle.std.proofs.Math.Seq.{take-append_seam}
use Rattle.stx_base.specs.declared.name.Attr.{Attr}
use Rattle.result_writer.specs.Attributes.{by_bytes, place_of}
use Rattle.result_writer.specs.Target.{same_name}
use Rattle.result_writer.proofs.Attributed.{added, few, names}
use Rattle.result_writer.proofs.attributes.Attributes.append.Goals as goal
use Rattle.result_writer.proofs.attributes.Attributes.append.Goals.{in-Ok, in-Err}

-- an attribute that was appended is taken off
as_before : (xs : List Attr) (a : Attr) (pushed left : List Attr) (n : ℕ) → pushed ≡ xs ++ a ∷ [] → n ≡ length xs → left ≡ take n pushed → left ≡ xs
as_before xs a pushed left n p e l = l ∙ ap (λ k. take k pushed) e ∙ ap (take (length xs)) p ∙ take-append_seam xs (a ∷ [])

pub invariant_of-self-then-place-lt-FEW : goal.invariant_of-self-then-place-lt-FEW
invariant_of-self-then-place-lt-FEW c =
    let list = c.self.inside.list in
    let new = c.push.new.self in
    let few_so_far : length list < 16 = subst (λ n. n < 16) c.len-place.ensures.value c.if-place-lt-FEW.true in
    let one_more : length new ≡ length list + 1 = ap length c.in_ok-push.ensures.ok ∙ length-append list (c.args.attr ∷ []) in
    record {
      places = λ q.
          c.self.invariant.places q
          ∙ ap (λ ns. place_of 16 ns (string_bytes q.0) (string_bytes q.1)) (few list (omega (arith, few_so_far)) ∙ sym (few new (omega (arith, few_so_far, one_more))));
    }

pub invariant_of-self-in-Ok : goal.invariant_of-self-in-Ok
invariant_of-self-in-Ok c =
    let list = c.self.inside.list in
    let key = c.in_ok-key.key in
    let none : list_any (λ a. same_name a.name c.args.attr.name) list ≡ false = subst (λ l. list_any (λ a. same_name a.name c.args.attr.name) l ≡ false) (sym c.self.view_is) c.requires in
    let len : c.len-place.result ≡ length list = c.len-place.ensures.value in
    let new : c.push-2.new.self ≡ list ++ c.args.attr ∷ [] = c.in_ok-push-2.ensures.ok in
    record {
      places = λ q.
          c.in-Ok.ensures.updates.0 q
          ∙ ap (cond (is_eq (by_bytes key q)) (Some c.len-place.result)) (c.self.invariant.places q)
          ∙ ap (λ n. cond (is_eq (by_bytes key q)) (Some n) (place_of 16 (drop 16 (names list)) (string_bytes q.0) (string_bytes q.1))) len
          ∙ added list c.args.attr key q (subst (λ n. 16 ≤ n) len c.if-place-lt-FEW.false) c.in_ok-key.ensures.uri c.in_ok-key.ensures.local none
          ∙ ap (λ l. place_of 16 (drop 16 (names l)) (string_bytes q.0) (string_bytes q.1)) (sym new);
    }

pub invariant_of-self-in-Err : goal.invariant_of-self-in-Err
invariant_of-self-in-Err c =
    let list = c.self.inside.list in
    let back : c.truncate.new.self ≡ list = as_before list c.args.attr c.push-2.new.self c.truncate.new.self c.len-place.result c.in_ok-push-2.ensures.ok c.len-place.ensures.value c.truncate.ensures in
    record {
      places = λ q.
          ap (λ es. lookup (λ k. is_eq (by_bytes q k)) es) c.in-Err.ensures.err ∙ c.self.invariant.places q
          ∙ ap (λ l. place_of 16 (drop 16 (names l)) (string_bytes q.0) (string_bytes q.1)) (sym back);
    }

pub returns-clause-err : goal.returns-clause-err
returns-clause-err c = elim c.match-insert.branch [
  | in-Ok w ↦ rw w.result-is tt
  | in-Err w ↦ rw w.result-is (w.self-is
      ∙ as_before c.self.inside.list c.args.attr c.push-2.new.self w.truncate.new.self c.len-place.result c.in_ok-push-2.ensures.ok c.len-place.ensures.value w.truncate.ensures
      ∙ c.self.view_is)
]
