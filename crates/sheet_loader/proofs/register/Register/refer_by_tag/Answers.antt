use Rattle.std.proofs.Common.{◌≡◌, ◌∙◌, ap, codes, map, sym}
use Rattle.std.proofs.lemmas.Result.{on_ok_weaker}
use Rattle.std.specs.Str.{chars}
use Rattle.sheet_loader.specs.Gathering.{values_in}
use Rattle.sheet_loader.specs.Judging.{locals_at}
use Rattle.sheet_loader.specs.Keys.{name_of}
use Rattle.sheet_loader.specs.Known.{known, refers_to}
use Rattle.sheet_loader.specs.Making.{as_name, name, value_at}
use Rattle.sheet_loader.specs.Meant.{kind_of}
use Rattle.sheet_loader.specs.Referring.{by_name, in_expressions, in_patterns, to_group}
use Rattle.sheet_loader.proofs.ReferringLemmas.{in-body, in-declaration, in-patterns, refers-all, still-knows, still-locals}
use Rattle.sheet_loader.proofs.register.Register.refer_by_tag.Goals as goal

pub returns-then-is_declared : goal.returns-then-is_declared
unfolding chars
returns-then-is_declared c =
    on_ok_weaker c.refer_to_earlier.result
    (λ last here before sheet knows groups own.
    let k0 = known c.args.self.now in
    let k1 = known c.refer_to_group.new.self in
    let k2 = known c.refer_by_name.new.self in
    let k3 = known c.refer_to_variables_of_groups.new.self in
    let at = c.args.at in
    let group = c.args.own.now.group in
    let v = values_in c.args.values.now in
    let g = to_group at (as_name (value_at (codes "group") v)) in
    let b = by_name at here before (kind_of c.args.kind) (name v) in
    let p = in_patterns at here.group v in
    let h1 : k1 ≡ refers_to g k0 = c.in_ok-refer_to_group.ensures ∙ ap (λ o. refers_to (to_group at o) k0) c.named.ensures in
    let h2 : k2 ≡ refers_to b k1 =
    c.in_ok-refer_by_name.ensures here before (name v) knows.group_is (still-locals k0 k1 g (locals_at here before) h1 knows.locals) own
    in
    let h3 : k3 ≡ refers_to p k2 =
    c.in_ok-refer_to_variables_of_groups.ensures
    ∙ ap (λ l. refers_to l k2) (in-patterns at group here.group v (map name_of c.in_ok-named.named) knows.group_is c.in_ok-named.ensures)
    in
    let knows3 = still-knows k2 k3 p sheet h3 (still-knows k1 k2 b sheet h2 (still-knows k0 k1 g sheet h1 knows.declares)) in
    let declared = sym knows.is_declared_is ∙ c.if-is_declared.true in
    refers-all k0 k1 k2 k3 (known c.refer_to_earlier.new.self) g b p (in_expressions at here before sheet v) h1 h2 h3
    (last sheet knows3 groups
    ∙ ap (λ l. refers_to l k3) (in-declaration at group here before sheet v (map name_of c.in_ok-named-2.named) knows.group_is declared c.in_ok-named-2.ensures)))
    c.refer_to_earlier.ensures

pub returns-else-is_declared : goal.returns-else-is_declared
unfolding chars
returns-else-is_declared c =
    on_ok_weaker c.refer_to_variables.result
    (λ last here before sheet knows groups own.
    let k0 = known c.args.self.now in
    let k1 = known c.refer_to_group.new.self in
    let k2 = known c.refer_by_name.new.self in
    let k3 = known c.refer_to_variables_of_groups.new.self in
    let at = c.args.at in
    let group = c.args.own.now.group in
    let v = values_in c.args.values.now in
    let g = to_group at (as_name (value_at (codes "group") v)) in
    let b = by_name at here before (kind_of c.args.kind) (name v) in
    let p = in_patterns at here.group v in
    let h1 : k1 ≡ refers_to g k0 = c.in_ok-refer_to_group.ensures ∙ ap (λ o. refers_to (to_group at o) k0) c.named.ensures in
    let h2 : k2 ≡ refers_to b k1 =
    c.in_ok-refer_by_name.ensures here before (name v) knows.group_is (still-locals k0 k1 g (locals_at here before) h1 knows.locals) own
    in
    let h3 : k3 ≡ refers_to p k2 =
    c.in_ok-refer_to_variables_of_groups.ensures
    ∙ ap (λ l. refers_to l k2) (in-patterns at group here.group v (map name_of c.in_ok-named.named) knows.group_is c.in_ok-named.ensures)
    in
    let locals3 =
    still-locals k2 k3 p (locals_at here before) h3 (still-locals k1 k2 b (locals_at here before) h2 (still-locals k0 k1 g (locals_at here before) h1 knows.locals))
    in
    let declared = sym knows.is_declared_is ∙ c.if-is_declared.false in
    refers-all k0 k1 k2 k3 (known c.refer_to_variables.new.self) g b p (in_expressions at here before sheet v) h1 h2 h3
    (last
    ∙ ap (λ l. refers_to l k3) (in-body at group here before sheet v (map name_of c.in_ok-named-2.named) k3.locals knows.group_is declared locals3 c.in_ok-named-2.ensures)))
    c.refer_to_variables.ensures
