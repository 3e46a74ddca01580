use Rattle.std.proofs.Common.{◌≡◌, ◌∙◌, ap, sym}
use Rattle.std.specs.Option.{option_copied}
use Rattle.stx_base.specs.declared.name.Name.{Name}
use Rattle.sheet_loader.specs.Keys.{Owned, name_of}
use Rattle.sheet_loader.specs.Making.{bare, nameless, or_else}
use Rattle.sheet_loader.proofs.KeyLemmas.{name-nil}
use Rattle.sheet_loader.proofs.declared.Own.of.Goals as goal
use Rattle.sheet_loader.proofs.declared.Own.of.Goals.{in-Some+in_ok-name-in-Some, in-None}

pub returns : goal.returns
returns c =
    let same : name_of c.match-name.name ≡ bare (or_else nameless (option_copied c.args.name)) =
    elim c.match-name.branch [
      | in-Some+in_ok-name-in-Some w ↦
          ap name_of w.name-is ∙ w.in_ok-name-in-Some.ensures ∙ ap (λ o. bare (or_else nameless (option_copied o))) (sym w.in-Some.is)
      | in-None w ↦
          ap name_of w.name-is
          ∙ name-nil (record { uri = w.new.result; local = w.new-in-None.result }) w.new.ensures.bytes w.new-in-None.ensures.bytes
          ∙ ap (λ o. bare (or_else nameless (option_copied o))) (sym w.in-None.is)
    ]
    in ap (λ (n : Name). let o : Owned = record { group = c.args.group; name = n } in o) same
