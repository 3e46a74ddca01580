use Rattle.std.proofs.Common.{◌≡◌, ℕ, Bool, true, false, refl, ap, ◌∙◌, codes}
use Rattle.std.proofs.Math.Path.{subst}
use Rattle.sheet_model.specs.declared.pass.Pass.{Pass}
use Rattle.sheet_loader.proofs.TakingLemmas.{value_at-without}
use Rattle.sheet_loader.specs.Elements.{is_own}
use Rattle.sheet_loader.specs.Gathering.{values_in}
use Rattle.sheet_loader.specs.Making.{value_at}
use Rattle.sheet_loader.specs.Meant.{inside_of}
use Rattle.sheet_loader.specs.Steps.{OpensBy}
use Rattle.sheet_loader.proofs.draft.Draft.open_group.Goals as goal

paired : (m n : ℕ) (p q : Pass) → m ≡ n → p ≡ q → (let a : ℕ × Pass = (m, p) in let b : ℕ × Pass = (n, q) in a ≡ b)
paired m n p q a b = ap (λ (x : ℕ). let w : ℕ × Pass = (x, p) in w) a ∙ ap (λ (x : Pass). let w : ℕ × Pass = (n, x) in w) b

pub returns-in_ok-number-clause-number : goal.returns-in_ok-number-clause-number
returns-in_ok-number-clause-number c = paired _ _ _ _ c.in_ok-number.ensures.number c.pass_or-pass.ensures

pub returns-in_ok-number-2-clause-number : goal.returns-in_ok-number-2-clause-number
returns-in_ok-number-2-clause-number c = paired _ _ _ _ c.in_ok-number-2.ensures.number c.pass_or-pass.ensures

pub returns-in_ok-number-clause-group : goal.returns-in_ok-number-clause-group
returns-in_ok-number-clause-group c =
    let d = c.args.self.now in
    let own : true ≡ is_own (inside_of d.top.inside) = cc in
    subst (λ (b : Bool). OpensBy b (values_in c.args.values.now) c.args.at d c.open_root.new.self) own c.in_ok-number.ensures.group

pub returns-in_ok-number-2-clause-group : goal.returns-in_ok-number-2-clause-group
returns-in_ok-number-2-clause-group c =
    let d = c.args.self.now in
    let own : false ≡ is_own (inside_of d.top.inside) = cc in
    subst (λ (b : Bool). OpensBy b (values_in c.args.values.now) c.args.at d c.open_inner.new.self) own c.in_ok-number-2.ensures.group

pub returns-in_ok-number-2-clause-kept : goal.returns-in_ok-number-2-clause-kept
returns-in_ok-number-2-clause-kept c =
    ap (value_at (codes "pass-through")) c.in_ok-number-2.ensures.kept ∙ value_at-without (codes "name") (codes "pass-through") (values_in c.args.values.now) refl
