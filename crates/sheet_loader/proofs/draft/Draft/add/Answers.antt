-- A choose without branches is refused; anything else goes to the sheet or to its list.
use Rattle.std.proofs.Common.{Bool, refl, sym, ◌∙◌}
use Rattle.std.proofs.Math.Path.{subst}
use Rattle.sheet_loader.specs.Gathering.{values_in}
use Rattle.sheet_loader.specs.Keys.{own_of}
use Rattle.sheet_loader.specs.Meant.{kind_of}
use Rattle.sheet_loader.specs.Steps.{AddsBy}
use Rattle.sheet_loader.proofs.draft.Draft.add.Goals as goal

pub returns-then-lacks_branches : goal.returns-then-lacks_branches
returns-then-lacks_branches c = λ items holds. (sym (c.lacks_branches.ensures items holds) ∙ c.if-lacks_branches.true, refl, refl, refl)

pub returns-in_ok-add_to_sheet : goal.returns-in_ok-add_to_sheet
returns-in_ok-add_to_sheet c = λ items holds.
    let d = c.args.self.now in (
      sym (c.lacks_branches.ensures items holds) ∙ c.if-lacks_branches.false,
      subst (λ (b : Bool). AddsBy b (kind_of c.args.kind) d.top.group c.args.at (values_in c.args.values.now) (own_of c.args.own) items d c.add_to_sheet.new.self)
          (sym c.if-is_declared.true ∙ c.is_declared.ensures) (c.in_ok-add_to_sheet.ensures items holds),
    )

pub returns-in_ok-add_to_list : goal.returns-in_ok-add_to_list
returns-in_ok-add_to_list c = λ items holds.
    let d = c.args.self.now in (
      sym (c.lacks_branches.ensures items holds) ∙ c.if-lacks_branches.false,
      subst (λ (b : Bool). AddsBy b (kind_of c.args.kind) d.top.group c.args.at (values_in c.args.values.now) (own_of c.args.own) items d c.add_to_list.new.self)
          (sym c.if-is_declared.false ∙ c.is_declared.ensures) (c.in_ok-add_to_list.ensures items holds),
    )
