use Rattle.std.proofs.Common.{◌≡◌, Some, option_map, ap, sym, ◌∙◌, take}
use Rattle.std.proofs.Math.Seq.{take-length}
use Rattle.node_stack.specs.Open.{ended_in, tally_in}
use Rattle.node_stack.specs.Path.{parked}
use Rattle.node_stack.specs.Stack.{path, path_node}
use Rattle.node_stack.proofs.stack.NodeStack.park.Goals as goal

pub returns-clause-node : goal.returns-clause-node
unfolding path path_node
returns-clause-node c =
    let s = c.end-ended.new.self in
    let d = s.document in
    let list : c.siblings-siblings.result.now ≡ tally_in d s.elements.items =
    c.siblings-siblings.ensures ∙ ap (λ es. tally_in d (take c.len.result es)) c.deref.ensures.value
    ∙ ap (λ n. tally_in d (take n s.elements.items)) (c.len.ensures ∙ s.elements.ok.0) ∙ ap (tally_in d) (take-length s.elements.items) in
    ap (option_map parked) c.end-ended.ensures.node
    ∙ ap Some (ap (λ t. parked (ended_in t c.end-ended.result)) (sym list) ∙ c.put_aside.ensures)

pub returns-clause-path : goal.returns-clause-path
unfolding path
returns-clause-path c = c.end-ended.ensures.path
