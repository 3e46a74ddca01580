use Rattle.std.proofs.Common.{◌≡◌, Bool, true, false, refl}
use Rattle.std.proofs.Math.Path.{subst}
use Rattle.sheet_loader.proofs.Beginning.{if_ok_three}
use Rattle.sheet_loader.specs.Elements.{makes_group}
use Rattle.sheet_loader.specs.Gathering.{values_in}
use Rattle.sheet_loader.specs.Meant.{kind_of}
use Rattle.sheet_loader.specs.Steps.{Enters}
use Rattle.sheet_loader.proofs.draft.Draft.enter.Goals as goal

pub returns-then-makes_group : goal.returns-then-makes_group
returns-then-makes_group c =
    let d = c.args.self.now in
    let v = values_in c.args.values.now in
    let kept = values_in c.open_group.new.values in
    let makes : true ≡ makes_group (kind_of c.args.kind) = cc in
    if_ok_three c.open_group.result _ _ _ _
    (λ made n g k. subst (λ (b : Bool). Enters b v kept c.args.at made d c.open_group.new.self) makes (g, k, n))
    c.open_group.ensures.number c.open_group.ensures.group c.open_group.ensures.kept

pub returns-else-makes_group : goal.returns-else-makes_group
returns-else-makes_group c =
    let d = c.args.self.now in
    let v = values_in c.args.values.now in
    let makes : false ≡ makes_group (kind_of c.args.kind) = cc in
    subst (λ (b : Bool). Enters b v v c.args.at (d.top.group, d.top.pass) d d) makes (refl, refl, refl)
