use Rattle.std.proofs.Common.{◌≡◌, ◌++◌, ap, codes, map}
use Rattle.std.specs.Str.{chars}
use Rattle.sheet_loader.specs.Gathering.{values_in}
use Rattle.sheet_loader.specs.Keys.{name_of}
use Rattle.sheet_loader.specs.Making.{bare}
use Rattle.sheet_loader.specs.Referring.{variables_of_pattern_at}
use Rattle.sheet_loader.proofs.ReferringLemmas.{named-first, named-next}
use Rattle.sheet_loader.proofs.naming.named_in_patterns.Goals as goal

pub returns : goal.returns
unfolding chars
returns c =
    let n1 : map name_of c.add_of_pattern_at.new.found ≡ map bare (variables_of_pattern_at (codes "match") (values_in c.args.values.now)) = named-first (map name_of c.new-found.result) (map name_of c.add_of_pattern_at.new.found) (variables_of_pattern_at (codes "match") (values_in c.args.values.now)) (ap (map name_of) c.new-found.ensures) c.in_ok-add_of_pattern_at.ensures in
    let n2 : map name_of c.add_of_pattern_at-2.new.found ≡ map bare ((variables_of_pattern_at (codes "match") (values_in c.args.values.now)) ++ (variables_of_pattern_at (codes "while") (values_in c.args.values.now))) = named-next (map name_of c.add_of_pattern_at.new.found) (map name_of c.add_of_pattern_at-2.new.found) (variables_of_pattern_at (codes "match") (values_in c.args.values.now)) (variables_of_pattern_at (codes "while") (values_in c.args.values.now)) n1 c.in_ok-add_of_pattern_at-2.ensures in
    named-next (map name_of c.add_of_pattern_at-2.new.found) (map name_of c.add_of_pattern_at-3.new.found) ((variables_of_pattern_at (codes "match") (values_in c.args.values.now)) ++ (variables_of_pattern_at (codes "while") (values_in c.args.values.now))) (variables_of_pattern_at (codes "until") (values_in c.args.values.now)) n2 c.in_ok-add_of_pattern_at-3.ensures
