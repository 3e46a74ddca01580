-- Only a choose lacks branches.
use Rattle.std.proofs.Common.{◌≡◌, ◌==◌, Bool, true, false, not, List, length, ap, refl, sym, ◌∙◌}
use Rattle.sheet_model.specs.declared.instr.When.{When}
use Rattle.sheet_loader.specs.Meant.{kind_of}
use Rattle.sheet_loader.specs.Reading.{Item}
use Rattle.sheet_loader.specs.Steps.{lacks_branches}
use Rattle.sheet_loader.specs.declared.kind.Kind.{Kind}
use Rattle.sheet_loader.specs.declared.kind.Kind.TheVariants as kind
use Rattle.sheet_loader.proofs.draft.ending.lacks_branches.Goals as goal

not_choose : (k : Kind) (items : List Item) → (k ≡ kind.Choose → ⊥) → lacks_branches (kind_of k) items ≡ false
not_choose kind.Choose items h = absurd (h refl)
not_choose other items h = refl

twice : (b : Bool) → not (not b) ≡ b
twice true = refl
twice false = refl

pub returns-in-Choose : goal.returns-in-Choose
returns-in-Choose c = λ items holds.
    ap not c.has_branches.ensures
    ∙ twice (length c.args.content.now.branches == 0)
    ∙ ap (λ (l : List When). length l == 0) holds.branches
    ∙ ap (λ (k : Kind). lacks_branches (kind_of k) items) (sym c.in-Choose.is)

pub returns-in_default : goal.returns-in_default
returns-in_default c = λ items holds. sym (not_choose c.args.kind items c.in_default.not-Choose)
