use Rattle.std.proofs.Common.{◌≡◌, ◌-◌, ℕ, List, ◌∷◌, ◌++◌, [], length, ap, ◌∙◌, Option, Some, codes, arith}
use Rattle.std.proofs.lemmas.List.{length-append}
use Rattle.std.specs.Option.{option_map}
use Rattle.std.specs.Str.{chars}
use Rattle.stx_base.specs.declared.name.Name.{Name}
use Rattle.sheet_model.specs.declared.pass.Pass.{Pass}
use Rattle.sheet_model.specs.declared.sheet.Group.{Group}
use Rattle.sheet_loader.specs.Gathering.{values_in}
use Rattle.sheet_loader.specs.Known.{known, with_group}
use Rattle.sheet_loader.specs.Making.{as_name, bare, value_at}
use Rattle.sheet_loader.specs.declared.draft.Draft.{Draft}
use Rattle.sheet_loader.proofs.draft.Draft.open_inner.Goals as goal

last_number : {A : Type 0} (n : ℕ) (xs ys : List A) (x : A) → n ≡ length xs → ys ≡ xs ++ x ∷ [] → n ≡ length ys - 1
last_number n xs ys x h e = let a = ap length e in let l = length-append xs (x ∷ []) in omega (arith, h, a, l)

pub returns-clause-number : goal.returns-clause-number
returns-clause-number c = last_number c.in_ok-number.number c.args.self.now.sheet.groups c.push.new.self _ (c.in_ok-number.ensures ∙ c.len.ensures.value) c.in_ok-push.ensures.ok

pub returns-clause-group : goal.returns-clause-group
unfolding chars
returns-clause-group c =
    let d = c.args.self.now in
    let group : Option Name → Pass → Group = λ name pass. record { parent = Some d.top.group; name = name; pass = pass; at = c.args.at } in
    record {
      known = c.in_ok-declare_group.ensures ∙ ap (λ (o : Option Name). with_group (option_map bare o) (known d.register)) c.own_name.ensures;
      others = ap (λ (gs : List Group). let w : Draft = record d { register = c.declare_group.new.self; sheet = record d.sheet { groups = gs } } in w)
          (c.in_ok-push.ensures.ok
          ∙ ap (λ (o : Option Name). d.sheet.groups ++ group o c.pass_or-pass.result ∷ []) c.take_maybe_name.ensures.value
          ∙ ap (λ (p : Pass). d.sheet.groups ++ group (as_name (value_at (codes "name") (values_in c.args.values.now))) p ∷ []) c.pass_or-pass.ensures);
    }

pub returns-clause-kept : goal.returns-clause-kept
unfolding chars
returns-clause-kept c = c.take_maybe_name.ensures.others
