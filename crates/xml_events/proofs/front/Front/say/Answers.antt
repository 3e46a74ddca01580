use Rattle.std.proofs.Common.{refl, ap, ◌∙◌, ◌++◌}
use Rattle.std.proofs.lemmas.Result.{on_ok_weaker}
use Rattle.xml_events.proofs.Fronts.{says-more}
use Rattle.xml_events.proofs.front.Front.say.Goals as goal

pub returns-in-Some : goal.returns-in-Some
returns-in-Some c =
    on_ok_weaker c.push_str-said.result
    (λ e. says-more c.args.self.now c.args.offset c.args.text c.requires c.in-Some.run' (record { offset = c.in-Some.run'.offset; text = c.push_str-said.new.self }) c.in-Some.is refl
    (e ∙ ap (λ t. c.in-Some.run'.text ++ t) c.as_str.ensures.chars))
    c.push_str-said.ensures.ok
