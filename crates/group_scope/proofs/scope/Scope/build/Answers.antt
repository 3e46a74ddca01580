use Rattle.std.proofs.Common.{IsPermutation, subst}
use Rattle.std.proofs.lemmas.List.Sorted.{IsPermutation-sym}
use Rattle.group_scope.specs.Filling.{AreFilledBy, entries_from}
use Rattle.group_scope.proofs.Filled.{filled}
use Rattle.group_scope.proofs.scope.Scope.build.Goals as goal

pub returns : goal.returns
returns c =
    let s = c.args.sheet.now in
    let words = c.in_ok-words.words in
    let sorted = c.in_ok-entries.entries.items in
    let same = subst (λ l. IsPermutation l sorted) c.in_ok-entries_of.ensures c.in_ok-entries.ensures.same in
    record {
      rows = filled s words sorted c.in_ok-rows.rows same (IsPermutation-sym (entries_from 0 s.templates) sorted same) c.in_ok-entries.ensures.sorted
          (subst (λ l. AreFilledBy s words l c.in_ok-rows.rows) c.as_slice.ensures.value c.in_ok-rows.ensures);
      words = c.in_ok-words.ensures;
    }
