use Rattle.std.proofs.Common.{◌≡◌, rules, encode_utf8_all}
use Rattle.std.specs.Str.{chars}
use Rattle.std.proofs.lemmas.Str.{encodes-chars}
use Rattle.xml_tokens.proofs.judge.is_target.Goals as goal

pub returns-then-is_ncname : goal.returns-then-is_ncname
returns-then-is_ncname c =
    let e : encode_utf8_all (chars c.args.name.now) ≡ c.args.name.now = encodes-chars c.args.name.now c.requires in
    rw e (search rules)
