use Rattle.std.proofs.Common.{◌≡◌, [], ◌∷◌, ◌++◌, ap, sym, ◌∙◌, arith, append_assoc, length-append}
use Rattle.std.specs.List.{concat}
use Rattle.std.specs.Str.{chars}
use Rattle.std.proofs.lemmas.List.{append-nil}
use Rattle.std.proofs.lemmas.List.Folds.{concat-append}
use Rattle.sheet_runs.proofs.chunk.next_chunk.Goals as goal

pub loop-alloc-init : goal.loop-alloc-init
loop-alloc-init c =
    let given : c.args.sample.now ≡ c.in-Some.chunk ∷ c.next.new.self = rw c.in-Some.is at c.in_ok-chunk.ensures.given in
    (c.in-Some.chunk ∷ [], omega arith, given, sym (append-nil c.in-Some.chunk))

pub loop-alloc-preserved : goal.loop-alloc-preserved
loop-alloc-preserved c =
    let so_far = c.loop-alloc.invariant in
    let front = so_far.0 in
    let piece = c.in-Some-2.piece in
    let left = c.next-in-loop-alloc.new.self in
    let given : c.loop-alloc.sample ≡ piece ∷ left = rw c.in-Some-2.is at c.in_ok-piece.ensures.given in (
      front ++ piece ∷ [],
      omega (arith, length-append front (piece ∷ [])),
      so_far.2 ∙ ap (λ l. front ++ l) given ∙ sym (append_assoc front (piece ∷ []) left),
      c.in_ok-push_str-in-Some-2.ensures.ok ∙ ap (λ l. l ++ chars c.as_str-in-Some-2.result.now) so_far.3
          ∙ ap (λ l. concat front ++ l) (c.as_str-in-Some-2.ensures.chars ∙ sym (append-nil piece)) ∙ sym (concat-append front (piece ∷ [])),
    )
