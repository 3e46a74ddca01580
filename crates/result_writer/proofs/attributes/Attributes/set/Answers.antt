use Rattle.std.proofs.Common.{◌≡◌, sym, ◌∙◌, subst, get_or, false}
use Rattle.std.specs.Prelude.{MatchOption, OnOk}
use Rattle.std.specs.List.{list_any}
use Rattle.std.proofs.lemmas.Option.{slice_get-get_or}
use Rattle.result_writer.specs.Attributes.{IsFirst}
use Rattle.result_writer.specs.Target.{same_name}
use Rattle.result_writer.proofs.Texts.{appends}
use Rattle.result_writer.proofs.attributes.Attributes.set.Goals as goal

pub returns-in-Some-clause-ok : goal.returns-in-Some-clause-ok
returns-in-Some-clause-ok c =
    let attrs = c.args.self.now in
    let name = c.args.name in
    let first : IsFirst attrs name c.in-Some.at = subst (λ o. MatchOption o (list_any (λ a. same_name a.name name) attrs ≡ false) (IsFirst attrs name)) c.in-Some.is c.in_ok-at.ensures in
    let a = get_or attrs c.in-Some.at (record { name = name; value = c.args.value }) in
    let found = slice_get-get_or attrs c.in-Some.at (record { name = name; value = c.args.value }) first.0 in
    c.replace.ensures a found ∙ sym (first.1 c.args.value a found)

pub returns-in-None-clause-ok : goal.returns-in-None-clause-ok
returns-in-None-clause-ok c =
    let attrs = c.args.self.now in
    let name = c.args.name in
    let none : list_any (λ a. same_name a.name name) attrs ≡ false = subst (λ o. MatchOption o (list_any (λ a. same_name a.name name) attrs ≡ false) (IsFirst attrs name)) c.in-None.is c.in_ok-at.ensures in
    subst (λ l. OnOk c.append.result (c.append.new.self ≡ l)) (sym (appends attrs name c.args.value none)) c.append.ensures.ok
