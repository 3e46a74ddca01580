use Rattle.std.proofs.Common.{◌≡◌, ◌+◌, ◌*◌, ◌++◌, length, map}
use Rattle.std.specs.List.{flat_map}
use Rattle.std.specs.Vec.Iter.{into_iter_items}
use Rattle.instr_code.specs.Emitting.{Puts, listed}
use Rattle.instr_code.specs.Layout.{branches, list_piece, pieces}
use Rattle.instr_code.specs.Piece.{in_order}
use Rattle.sheet_model.specs.Body.{all_of, body_nesting, nesting}
use Rattle.instr_code.proofs.emit.Emitter.+emit.Given as goal

-- What was taken so far is put.

abbrev pub invariant-put_all-loop-instr : goal.invariant-put_all-loop-instr
invariant-put_all-loop-instr l =
    Puts (in_order (pieces l.yielded)) (all_of l.yielded) l.initial.self l.self × (l.left ≡ (in_order (pieces l.yielded)).locals)
    × (l.yielded ++ into_iter_items l.instr-iterator ≡ l.fn.list)

abbrev pub invariant-put_branches-loop-body : goal.invariant-put_branches-loop-body
invariant-put_branches-loop-body l =
    Puts (branches l.instr 0 l.out (length l.initial.self.ops) (map (list_piece 0) l.yielded)) (all_of (flat_map (λ b. b) l.yielded)) l.initial.self l.self
    × (l.arm ≡ length l.yielded) × (l.yielded ++ into_iter_items l.body-iterator ≡ l.fn.bodies)

-- Each call goes to what nests less deep, or from the whole to its parts.

abbrev pub decreases-put : goal.decreases-put
decreases-put l = 10 * nesting l.instr

abbrev pub decreases-put_ops : goal.decreases-put_ops
decreases-put_ops l = 10 * body_nesting (listed l.inner) + 8

abbrev pub decreases-put_round : goal.decreases-put_round
decreases-put_round l = 10 * body_nesting l.body + 7

abbrev pub decreases-put_choice : goal.decreases-put_choice
decreases-put_choice l = 10 * body_nesting (l.body ++ l.other) + 7

abbrev pub decreases-put_choices : goal.decreases-put_choices
decreases-put_choices l = 10 * body_nesting (flat_map (λ b. b) l.bodies ++ l.other) + 7

abbrev pub decreases-put_while : goal.decreases-put_while
decreases-put_while l = 10 * body_nesting l.body + 7

abbrev pub decreases-put_for_each : goal.decreases-put_for_each
decreases-put_for_each l = 10 * body_nesting l.body + 7

abbrev pub decreases-put_branches : goal.decreases-put_branches
decreases-put_branches l = 10 * body_nesting (flat_map (λ b. b) l.bodies) + 6

abbrev pub decreases-put_branch : goal.decreases-put_branch
decreases-put_branch l = 10 * body_nesting l.body + 5

abbrev pub decreases-put_list : goal.decreases-put_list
decreases-put_list l = 10 * body_nesting l.list + 4

abbrev pub decreases-put_all : goal.decreases-put_all
decreases-put_all l = 10 * body_nesting l.list + 3
