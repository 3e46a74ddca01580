use Rattle.std.proofs.Common.{◌≡◌, ◌+◌, ◌<◌, ◌≤◌, ◌^◌, true, None, sym, ap, subst, ◌∙◌}
use Rattle.event_buffers.specs.Inside.{state_of}
use Rattle.event_buffers.specs.Layer.{Layer, fault_in, is_writing, own_weight, with_part}
use Rattle.event_buffers.specs.Weight.{part_weight}
use Rattle.event_buffers.proofs.Layers.{judged_at, refused, taken, weight_at}
use Rattle.event_buffers.proofs.layer.Layer.weight_behind.Goals as goal

pub returns-clause-weight : goal.returns-clause-weight
returns-clause-weight c =
    let s = c.self.inside in
    let p = c.args.part.now in
    let w : is_writing (state_of s.usage s.target) ≡ true = ap (λ (x : Layer). is_writing x.state) c.self.view_is ∙ c.requires in
    weight_at s.declared s.kept.items s.usage s.target p c.in_ok-weight.weight w (sym c.in_default.ensures)
    (c.in_ok-weight.ensures.count ∙ ap (λ n. n + part_weight p) c.self.invariant.weight)
    ∙ ap (λ (x : Layer). own_weight (with_part p x)) c.self.view_is

pub returns-clause-taken : goal.returns-clause-taken
returns-clause-taken c =
    let s = c.self.inside in
    let p = c.args.part.now in
    let w : is_writing (state_of s.usage s.target) ≡ true = ap (λ (x : Layer). is_writing x.state) c.self.view_is ∙ c.requires in
    let own : c.in_ok-weight.weight ≡ own_weight (with_part p c.args.self.now) =
    weight_at s.declared s.kept.items s.usage s.target p c.in_ok-weight.weight w (sym c.in_default.ensures)
    (c.in_ok-weight.ensures.count ∙ ap (λ n. n + part_weight p) c.self.invariant.weight)
    ∙ ap (λ (x : Layer). own_weight (with_part p x)) c.self.view_is in
    let judged : fault_in c.args.self.now.state p ≡ None =
    ap (λ (x : Layer). fault_in x.state p) (sym c.self.view_is) ∙ judged_at s.usage s.target p w ∙ sym c.in_default.ensures in
    let small : c.args.limit < 2 ^ 64 = c.ranges.limit.fits in
    taken c.args.limit c.args.declared.now p c.args.self.now c.in_ok-weight.weight small own judged
    (subst (λ b. b + c.in_ok-weight.weight ≤ c.args.limit) c.weight_before.ensures c.if-weight_before-weight.false)

pub returns-then-weight_before-weight-clause-fault : goal.returns-then-weight_before-weight-clause-fault
returns-then-weight_before-weight-clause-fault c =
    let s = c.self.inside in
    let p = c.args.part.now in
    let w : is_writing (state_of s.usage s.target) ≡ true = ap (λ (x : Layer). is_writing x.state) c.self.view_is ∙ c.requires in
    let own : c.in_ok-weight.weight ≡ own_weight (with_part p c.args.self.now) =
    weight_at s.declared s.kept.items s.usage s.target p c.in_ok-weight.weight w (sym c.in_default.ensures)
    (c.in_ok-weight.ensures.count ∙ ap (λ n. n + part_weight p) c.self.invariant.weight)
    ∙ ap (λ (x : Layer). own_weight (with_part p x)) c.self.view_is in
    let judged : fault_in c.args.self.now.state p ≡ None =
    ap (λ (x : Layer). fault_in x.state p) (sym c.self.view_is) ∙ judged_at s.usage s.target p w ∙ sym c.in_default.ensures in
    refused c.args.limit c.args.declared.now p c.args.self.now c.in_ok-weight.weight own judged
    (subst (λ b. c.args.limit < b + c.in_ok-weight.weight) c.weight_before.ensures c.if-weight_before-weight.true)
