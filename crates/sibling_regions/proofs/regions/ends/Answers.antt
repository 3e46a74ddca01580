use Rattle.std.proofs.Common.{◌≡◌, ◌+◌, ◌-◌, true, false, not, drop, ap, sym, ◌∙◌, arith}
use Rattle.std.specs.List.{list_all}
use Rattle.frame_stack.specs.Frame.{opens_list}
use Rattle.node_stack.specs.Path.{level}
use Rattle.node_stack.specs.Stack.{path}
use Rattle.sibling_regions.specs.Ends.{Look}
use Rattle.sibling_regions.specs.Looking.{seen_as}
use Rattle.sibling_regions.proofs.Finding.{none_opens, not_ended_within, one_more, outside_ends, region_ended, shut_region, shut_within}
use Rattle.sibling_regions.specs.declared.regions.Seen.TheVariants.{Region, Within}
use Rattle.sibling_regions.proofs.regions.ends.Goals as goal

pub returns-in-Outside : goal.returns-in-Outside
returns-in-Outside g c =
    let l : Look = record { sheet = c.args.sheet.now; code = c.args.code.now; path = path c.args.stack.now; vars = g.G.GroupVars.seen c.args.vars.now; limits = c.args.limits.now } in
    let fs = c.args.frames.now.frames in
    let k = c.loop-place.place in
    let f = c.at.result.now in
    let next : k ≡ k - 1 + 1 = omega (arith, c.loop-place-test.true) in
    c.loop-place.invariant.2
    ∙ outside_ends l fs (k - 1) k f next c.loop-place.invariant.0 c.at.ensures (ap (λ n. seen_as n f) (sym c.level-level.ensures) ∙ sym c.in-Outside.ensures) c.requires.levels

pub loop-place-preserved-in-Within : goal.loop-place-preserved-in-Within
loop-place-preserved-in-Within g c =
    let l : Look = record { sheet = c.args.sheet.now; code = c.args.code.now; path = path c.args.stack.now; vars = g.G.GroupVars.seen c.args.vars.now; limits = c.args.limits.now } in
    let fs = c.args.frames.now.frames in
    let k = c.loop-place.place in
    let f = c.at.result.now in
    let next : k ≡ k - 1 + 1 = omega (arith, c.loop-place-test.true) in
    let seen : seen_as (level l.path) f ≡ Within = ap (λ n. seen_as n f) (sym c.level-level.ensures) ∙ sym c.in-Within.ensures in (
      omega (arith, c.loop-place.invariant.0),
      none_opens fs (k - 1) k f next c.at.ensures (shut_within (level l.path) f seen) c.loop-place.invariant.1,
      c.loop-place.invariant.2 ∙ sym (one_more l fs (k - 1) k false next c.loop-place.invariant.0 (not_ended_within l fs (k - 1) f c.at.ensures seen)),
    )

pub loop-place-preserved-then-branch : goal.loop-place-preserved-then-branch
loop-place-preserved-then-branch g c =
    let l : Look = record { sheet = c.args.sheet.now; code = c.args.code.now; path = path c.args.stack.now; vars = g.G.GroupVars.seen c.args.vars.now; limits = c.args.limits.now } in
    let fs = c.args.frames.now.frames in
    let k = c.loop-place.place in
    let f = c.at.result.now in
    let asked = c.in-Region.asked in
    let next : k ≡ k - 1 + 1 = omega (arith, c.loop-place-test.true) in
    let seen : seen_as (level l.path) f ≡ Region asked = ap (λ n. seen_as n f) (sym c.level-level.ensures) ∙ sym c.in-Region.ensures in
    let sight = ap (λ n. list_all (λ f. not (opens_list f)) (drop n fs)) (sym next) ∙ c.loop-place.invariant.1 in
    let ended = region_ended l fs (k - 1) f asked c.at.ensures seen sight ∙ sym c.in_ok-asked_ends-in-Region.ensures ∙ c.if-branch.true in (
      omega (arith, c.loop-place.invariant.0),
      none_opens fs (k - 1) k f next c.at.ensures (shut_region (level l.path) f asked seen) c.loop-place.invariant.1,
      sym (one_more l fs (k - 1) k true next c.loop-place.invariant.0 ended),
    )

pub loop-place-preserved : goal.loop-place-preserved
loop-place-preserved g c =
    let l : Look = record { sheet = c.args.sheet.now; code = c.args.code.now; path = path c.args.stack.now; vars = g.G.GroupVars.seen c.args.vars.now; limits = c.args.limits.now } in
    let fs = c.args.frames.now.frames in
    let k = c.loop-place.place in
    let f = c.at.result.now in
    let asked = c.in-Region.asked in
    let next : k ≡ k - 1 + 1 = omega (arith, c.loop-place-test.true) in
    let seen : seen_as (level l.path) f ≡ Region asked = ap (λ n. seen_as n f) (sym c.level-level.ensures) ∙ sym c.in-Region.ensures in
    let sight = ap (λ n. list_all (λ f. not (opens_list f)) (drop n fs)) (sym next) ∙ c.loop-place.invariant.1 in
    let ended = region_ended l fs (k - 1) f asked c.at.ensures seen sight ∙ sym c.in_ok-asked_ends-in-Region.ensures ∙ c.if-branch.false in (
      omega (arith, c.loop-place.invariant.0),
      none_opens fs (k - 1) k f next c.at.ensures (shut_region (level l.path) f asked seen) c.loop-place.invariant.1,
      c.loop-place.invariant.2 ∙ sym (one_more l fs (k - 1) k false next c.loop-place.invariant.0 ended),
    )
