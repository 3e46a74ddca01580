use Rattle.std.proofs.Common.{◌∙◌, ap, sym}
use Rattle.std.proofs.lemmas.Result.{on_ok_weaker}
use Rattle.sheet_loader.specs.Keys.{name_of}
use Rattle.sheet_loader.specs.Known.{known, known_of, refers_to}
use Rattle.sheet_loader.proofs.KnownLemmas.{variable-seen}
use Rattle.sheet_loader.proofs.ReferringLemmas.{earlier-lost, earlier-there, refers-nothing}
use Rattle.sheet_loader.proofs.register.Register.refer_to_one_earlier.Goals as goal

pub returns-then-is_seen : goal.returns-then-is_seen
returns-then-is_seen c = λ sheet knows same.
    let own = c.args.own in
    let there = sym (variable-seen (known_of c.args.self.now.declared) sheet c.args.groups.now own.group (name_of own.name) knows same) ∙ sym c.is_seen.ensures ∙ c.if-is_seen.true in
    refers-nothing (known c.args.self.now) ∙ ap (λ l. refers_to l (known c.args.self.now)) (sym (earlier-there c.args.at sheet own.group (name_of own.name) there))

pub returns-else-is_seen : goal.returns-else-is_seen
returns-else-is_seen c =
    on_ok_weaker c.refer.result
    (λ e sheet knows same.
    let own = c.args.own in
    let lost = sym (variable-seen (known_of c.args.self.now.declared) sheet c.args.groups.now own.group (name_of own.name) knows same) ∙ sym c.is_seen.ensures ∙ c.if-is_seen.false in
    e ∙ ap (λ l. refers_to l (known c.args.self.now)) (sym (earlier-lost c.args.at sheet own.group (name_of own.name) lost)))
    c.refer.ensures
