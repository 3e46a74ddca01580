use Rattle.std.proofs.Common.{◌≡◌, ◌++◌, ap, codes, map}
use Rattle.std.specs.Str.{chars}
use Rattle.sheet_loader.specs.Gathering.{values_in}
use Rattle.sheet_loader.specs.Keys.{name_of}
use Rattle.sheet_loader.specs.Making.{bare}
use Rattle.sheet_loader.specs.Referring.{variables_at, variables_of_template_at}
use Rattle.sheet_loader.proofs.ReferringLemmas.{named-first, named-next}
use Rattle.sheet_loader.proofs.naming.named_in.Goals as goal

pub returns : goal.returns
unfolding chars
returns c =
    let n1 : map name_of c.add_of_expression_at.new.found ≡ map bare (variables_at (codes "select") (values_in c.args.values.now)) = named-first (map name_of c.new-found.result) (map name_of c.add_of_expression_at.new.found) (variables_at (codes "select") (values_in c.args.values.now)) (ap (map name_of) c.new-found.ensures) c.in_ok-add_of_expression_at.ensures in
    let n2 : map name_of c.add_of_expression_at-2.new.found ≡ map bare ((variables_at (codes "select") (values_in c.args.values.now)) ++ (variables_at (codes "test") (values_in c.args.values.now))) = named-next (map name_of c.add_of_expression_at.new.found) (map name_of c.add_of_expression_at-2.new.found) (variables_at (codes "select") (values_in c.args.values.now)) (variables_at (codes "test") (values_in c.args.values.now)) n1 c.in_ok-add_of_expression_at-2.ensures in
    let n3 : map name_of c.add_of_template_at.new.found ≡ map bare (((variables_at (codes "select") (values_in c.args.values.now)) ++ (variables_at (codes "test") (values_in c.args.values.now))) ++ (variables_of_template_at (codes "separator") (values_in c.args.values.now))) = named-next (map name_of c.add_of_expression_at-2.new.found) (map name_of c.add_of_template_at.new.found) ((variables_at (codes "select") (values_in c.args.values.now)) ++ (variables_at (codes "test") (values_in c.args.values.now))) (variables_of_template_at (codes "separator") (values_in c.args.values.now)) n2 c.in_ok-add_of_template_at.ensures in
    let n4 : map name_of c.add_of_template_at-2.new.found ≡ map bare ((((variables_at (codes "select") (values_in c.args.values.now)) ++ (variables_at (codes "test") (values_in c.args.values.now))) ++ (variables_of_template_at (codes "separator") (values_in c.args.values.now))) ++ (variables_of_template_at (codes "name") (values_in c.args.values.now))) = named-next (map name_of c.add_of_template_at.new.found) (map name_of c.add_of_template_at-2.new.found) (((variables_at (codes "select") (values_in c.args.values.now)) ++ (variables_at (codes "test") (values_in c.args.values.now))) ++ (variables_of_template_at (codes "separator") (values_in c.args.values.now))) (variables_of_template_at (codes "name") (values_in c.args.values.now)) n3 c.in_ok-add_of_template_at-2.ensures in
    let n5 : map name_of c.add_of_template_at-3.new.found ≡ map bare (((((variables_at (codes "select") (values_in c.args.values.now)) ++ (variables_at (codes "test") (values_in c.args.values.now))) ++ (variables_of_template_at (codes "separator") (values_in c.args.values.now))) ++ (variables_of_template_at (codes "name") (values_in c.args.values.now))) ++ (variables_of_template_at (codes "namespace") (values_in c.args.values.now))) = named-next (map name_of c.add_of_template_at-2.new.found) (map name_of c.add_of_template_at-3.new.found) ((((variables_at (codes "select") (values_in c.args.values.now)) ++ (variables_at (codes "test") (values_in c.args.values.now))) ++ (variables_of_template_at (codes "separator") (values_in c.args.values.now))) ++ (variables_of_template_at (codes "name") (values_in c.args.values.now))) (variables_of_template_at (codes "namespace") (values_in c.args.values.now)) n4 c.in_ok-add_of_template_at-3.ensures in
    named-next (map name_of c.add_of_template_at-3.new.found) (map name_of c.add_of_template_at-4.new.found) (((((variables_at (codes "select") (values_in c.args.values.now)) ++ (variables_at (codes "test") (values_in c.args.values.now))) ++ (variables_of_template_at (codes "separator") (values_in c.args.values.now))) ++ (variables_of_template_at (codes "name") (values_in c.args.values.now))) ++ (variables_of_template_at (codes "namespace") (values_in c.args.values.now))) (variables_of_template_at (codes "href") (values_in c.args.values.now)) n5 c.in_ok-add_of_template_at-4.ensures
