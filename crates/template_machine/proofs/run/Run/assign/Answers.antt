use Rattle.std.proofs.Common.{◌∙◌, refl, ap, sym, subst}
use Rattle.std.specs.Option.{option_and_then}
use Rattle.stxpath_values.specs.Outcome.{IsAnswer}
use Rattle.template_machine.specs.Saying.{Gave, sight}
use Rattle.template_machine.specs.Shifting.{Sets, assign_at}
use Rattle.template_machine.specs.Steps.{group_of}
use Rattle.template_machine.specs.Values.{atoms_of}
use Rattle.template_machine.proofs.Placing.{placed_in}
use Rattle.template_machine.proofs.Saying.{gave_by, stops_with}
use Rattle.template_machine.proofs.Valued.{assign_stops, groups_set, local_sets, place_in}
use Rattle.template_machine.proofs.Seeing.{sees}
use Rattle.template_machine.proofs.run.Run.assign.Goals as goal

pub setting-requires : goal.setting-requires
setting-requires c = sees c.args.program.now c.args.self.now c.args.spot.body c.requires.runs

pub local_set-requires : goal.local_set-requires
local_set-requires c = sees c.args.program.now c.args.self.now c.args.spot.body c.requires.runs

pub returns-in_err-value-clause-sets : goal.returns-in_err-value-clause-sets
returns-in_err-value-clause-sets c =
    let p = c.args.program.now in
    let r = c.args.self.now in
    let e = c.in_err-value.field-0.0 in
    let g = sight p r in
    let select = c.args.select.now in
    let gave =
    (gave_by c.args.spot.at c.value.result (atoms_of select g) (subst (λ s. IsAnswer c.value.result (atoms_of select s)) (c.setting.ensures c.requires.runs.place) c.value.ensures)) in
    subst (λ x. Sets p (assign_at c.args.name.now select c.args.spot.at) (λ f. f) x r r) (sym (stops_with c.from_residual.result e c.from_residual.ensures.1))
    (assign_stops p r r c.args.name.now select c.args.spot.at e (λ f. f) (subst (λ x. Gave c.args.spot.at x (atoms_of select g)) (sym c.in_err-value.ensures) gave) refl)

pub returns-in-Some-clause-sets : goal.returns-in-Some-clause-sets
returns-in-Some-clause-sets c =
    let p = c.args.program.now in
    let r = c.args.self.now in
    let g = sight p r in
    let select = c.args.select.now in
    let gave =
    (gave_by c.args.spot.at c.value.result (atoms_of select g) (subst (λ s. IsAnswer c.value.result (atoms_of select s)) (c.setting.ensures c.requires.runs.place) c.value.ensures)) in
    local_sets p r c.set_local.new.self c.args.name.now select c.args.spot.at c.in_ok-value.value c.in-Some.index _
    (subst (λ x. Gave c.args.spot.at x (atoms_of select g)) (sym c.in_ok-value.ensures) gave)
    (λ own has. place_in r c.args.spot.body c.args.name.now c.local_set.result c.requires.runs.place c.local_set.ensures.place own has ∙ c.in-Some.is)
    c.set_local.ensures.behind c.set_local.ensures.rest

pub returns-in-None-clause-sets : goal.returns-in-None-clause-sets
returns-in-None-clause-sets c =
    let p = c.args.program.now in
    let r = c.args.self.now in
    let g = sight p r in
    let select = c.args.select.now in
    let s = sees p r c.args.spot.body c.requires.runs in
    let x = placed_in r.frames.frames c.args.spot.body c.requires.runs.place in
    let gave =
    (gave_by c.args.spot.at c.value.result (atoms_of select g) (subst (λ s. IsAnswer c.value.result (atoms_of select s)) (c.setting.ensures c.requires.runs.place) c.value.ensures)) in
    groups_set p r c.set_in_groups.new.self c.args.name.now select c.args.spot.at c.in_ok-value.value s.group _
    (subst (λ x. Gave c.args.spot.at x (atoms_of select g)) (sym c.in_ok-value.ensures) gave)
    (λ own has. place_in r c.args.spot.body c.args.name.now c.local_set.result c.requires.runs.place c.local_set.ensures.place own has ∙ c.in-None.is)
    (ap (option_and_then (group_of p.sheet)) (x.1.0 ∙ sym x.1.1) ∙ s.group_is)
    (c.set_in_groups.ensures.store s.group s.group_is)
