use Rattle.std.proofs.Common.{◌≡◌, ◌-◌, Bool, List, [], ◌∷◌, ◌++◌, None, length, codes, ap, ◌∙◌, arith}
use Rattle.std.proofs.lemmas.List.{length-append}
use Rattle.std.specs.Str.{chars}
use Rattle.sheet_model.specs.declared.pass.Pass.{Pass}
use Rattle.sheet_model.specs.declared.sheet.Group.{Group}
use Rattle.sheet_loader.specs.Gathering.{values_in}
use Rattle.sheet_loader.specs.Making.{is_yes, value_at}
use Rattle.sheet_loader.specs.Steps.{root_of}
use Rattle.sheet_loader.specs.declared.draft.Draft.{Draft}
use Rattle.sheet_loader.proofs.draft.Draft.open_root.Goals as goal

first_number : {A : Type 0} (xs ys : List A) (x : A) → ys ≡ xs ++ x ∷ [] → xs ≡ [] → 0 ≡ length ys - 1
first_number xs ys x e h = let a = ap length e in let l = length-append xs (x ∷ []) in let n = ap length h in omega (arith, a, l, n)

pub returns-clause-number : goal.returns-clause-number
returns-clause-number c = first_number c.new-groups.result c.push.new.self _ c.in_ok-push.ensures.ok c.new-groups.ensures

pub returns-clause-group : goal.returns-clause-group
unfolding chars
returns-clause-group c =
    let d = c.args.self.now in
    let group : Pass → Group = λ pass. record { parent = None; name = None; pass = pass; at = c.args.at } in
    let made : List Group → Bool → Bool → Draft = λ groups strip cdata. record d { register = c.forget_groups.new.self; sheet = record d.sheet { groups = groups; strip = strip; cdata = cdata } } in
    record {
      known = c.forget_groups.ensures;
      others =
          ap (λ (gs : List Group). made gs c.is_yes-self.result c.is_yes-self-2.result)
          (c.in_ok-push.ensures.ok ∙ ap (λ (l : List Group). l ++ group c.pass_or.result ∷ []) c.new-groups.ensures ∙ ap (λ (p : Pass). group p ∷ []) c.pass_or.ensures)
          ∙ ap (λ (b : Bool). made (root_of c.args.at (values_in c.args.values.now) ∷ []) b c.is_yes-self-2.result) c.is_yes-self.ensures
          ∙ ap (λ (b : Bool). made (root_of c.args.at (values_in c.args.values.now) ∷ []) (is_yes (value_at (codes "strip-space") (values_in c.args.values.now))) b) c.is_yes-self-2.ensures;
    }
