use Rattle.std.proofs.Common.{◌≡◌, ◌++◌, OnOk, ◌∙◌, subst}
use Rattle.std.proofs.lemmas.Str.{chars-IsAscii}
use Rattle.sample_maker.proofs.piece.put_number.Goals as goal

pub returns : goal.returns
returns c =
    subst (λ cs. OnOk c.push_str.result (c.push_str.new.self ≡ c.args.text.now ++ cs))
    (chars-IsAscii _ c.format.ensures.ascii ∙ c.format.ensures.text) c.push_str.ensures.ok
