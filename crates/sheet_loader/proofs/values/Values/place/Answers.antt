use Rattle.std.proofs.Common.{◌≡◌, ◌∙◌, ◌+◌, suc, sym, subst, arith, length}
use Rattle.std.proofs.lemmas.List.{length-map}
use Rattle.std.specs.Str.{chars}
use Rattle.sheet_loader.specs.Gathering.{values_in}
use Rattle.sheet_loader.proofs.TakingLemmas.{NoneOf, entry_at, entry_of, here_is, none_of_more}
use Rattle.sheet_loader.proofs.values.Values.place.Goals as goal

pub returns-then-is_called : goal.returns-then-is_called
returns-then-is_called c =
    let items = c.args.self.now.entries.items in
    let slice = c.deref-entry-items.result.now in
    let same : slice ≡ items = c.deref-entry-items.ensures.value in
    let len = length-map items entry_of in
    here_is (chars c.args.name.now) (values_in c.args.self.now) c.loop-place.place (entry_of c.entry-item.result)
    (let long : length slice ≡ length items = (let f = c.deref-entry-items.ensures.len in cc) in omega arith)
    (entry_at items slice c.loop-place.place c.entry-item.result same c.loop-place-test.true c.entry-item.is)
    (sym c.is_called.ensures ∙ c.if-is_called.true) c.loop-place.invariant

pub loop-place-preserved : goal.loop-place-preserved
loop-place-preserved c =
    let items = c.args.self.now.entries.items in
    let slice = c.deref-entry-items.result.now in
    let same : slice ≡ items = c.deref-entry-items.ensures.value in
    let next : suc c.loop-place.place ≡ c.loop-place.place + 1 = omega arith in
    subst (NoneOf (chars c.args.name.now) (values_in c.args.self.now)) next
    (none_of_more (chars c.args.name.now) (values_in c.args.self.now) c.loop-place.place (entry_of c.entry-item.result)
    (entry_at items slice c.loop-place.place c.entry-item.result same c.loop-place-test.true c.entry-item.is)
    (sym c.is_called.ensures ∙ c.if-is_called.false) c.loop-place.invariant)
