use Rattle.std.proofs.Common.{◌≡◌, ◌-◌, length}
use Rattle.std.specs.List.{list_any}
use Rattle.sheet_model.specs.Groups.{around, around_within}
use Rattle.sheet_loader.specs.Keys.{has_own, name_of, owned_in}
use Rattle.sheet_loader.proofs.declared.Table.is_seen.Given as goal

abbrev pub invariant-loop-level : goal.invariant-loop-level
invariant-loop-level l = record {
  name : l.own.name ≡ l.fn.own.name;
  seen : list_any (λ g. has_own (owned_in l.self) g (name_of l.fn.own.name)) (around_within l.groups (length l.groups - l.level) l.own.group)
      ≡ list_any (λ g. has_own (owned_in l.self) g (name_of l.fn.own.name)) (around l.groups l.fn.own.group);
}
