-- The name of an item goes to the values for parameters, or to the locals in scope.
use Rattle.std.proofs.Common.{◌≡◌, List, refl, sym}
use Rattle.std.proofs.Math.Path.{subst}
use Rattle.std.proofs.lemmas.Result.{on_ok_weaker}
use Rattle.stx_base.specs.declared.name.Name.{Name}
use Rattle.sheet_loader.specs.Keys.{name_of, names_in}
use Rattle.sheet_loader.specs.Meant.{kind_of}
use Rattle.sheet_loader.specs.Steps.{Brings, given_behind}
use Rattle.sheet_loader.specs.declared.kind.Kind.{Kind}
use Rattle.sheet_loader.specs.declared.kind.Kind.TheVariants as kind
use Rattle.sheet_loader.proofs.draft.Draft.bring.Goals as goal

not_given : (k : Kind) (n : Name) (given : List Name) → (k ≡ kind.WithParam → ⊥) → given_behind (kind_of k) n given ≡ given
not_given kind.WithParam n given h = absurd (h refl)
not_given other n given h = refl

pub returns-in-WithParam : goal.returns-in-WithParam
returns-in-WithParam c =
    on_ok_weaker c.add.result (λ h. subst (λ (k : Kind). Brings (kind_of k) (name_of c.args.own.name) c.args.self.now (record c.args.self.now { top = record c.args.self.now.top { given = c.add.new.self } })) (sym c.in-WithParam.is)
    (record { known = refl; given = h; others = refl })) c.add.ensures

pub returns-in_default : goal.returns-in_default
returns-in_default c =
    on_ok_weaker c.bring_by_item.result (λ h. record {
      known = h;
      given = sym (not_given c.args.kind (name_of c.args.own.name) (names_in c.args.self.now.top.given) c.in_default.not-WithParam);
      others = refl;
    }) c.bring_by_item.ensures
