use Rattle.std.proofs.Common.{◌≡◌, ◌∙◌, ◌+◌, ◌-◌, ap, false, length, suc, sym, Some, arith}
use Rattle.std.specs.List.{list_any}
use Rattle.sheet_model.specs.Groups.{around_within, parent_of}
use Rattle.sheet_loader.specs.Keys.{has_own, name_of, owned_in}
use Rattle.sheet_loader.proofs.SeenLemmas.{seen_around}
use Rattle.sheet_loader.proofs.declared.Table.is_seen.Goals as goal

pub loop-level-preserved : goal.loop-level-preserved
loop-level-preserved c =
    let groups = c.args.groups.now in
    let own = c.loop-level.own in
    let left : length groups - c.loop-level.level ≡ suc (length groups - (c.loop-level.level + 1)) = omega arith in
    let no : has_own (owned_in c.args.self.now) own.group (name_of c.args.own.name) ≡ false =
    ap (λ n. has_own (owned_in c.args.self.now) own.group (name_of n)) (sym c.loop-level.invariant.name) ∙ sym c.has.ensures ∙ c.if-has.false
    in
    let up : parent_of groups own.group ≡ Some c.in-Some.group = sym c.parent.ensures ∙ c.in-Some.is in
    record {
      name = c.loop-level.invariant.name;
      seen =
          sym (seen_around (λ g. has_own (owned_in c.args.self.now) g (name_of c.args.own.name)) groups (length groups - (c.loop-level.level + 1)) own.group (Some c.in-Some.group) no up)
          ∙ ap (λ n. list_any (λ g. has_own (owned_in c.args.self.now) g (name_of c.args.own.name)) (around_within groups n own.group)) (sym left)
          ∙ c.loop-level.invariant.seen;
    }
