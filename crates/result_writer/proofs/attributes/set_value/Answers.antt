use Rattle.std.proofs.Common.{ap, ◌∙◌}
use Rattle.std.specs.Prelude.{slice_set}
use Rattle.std.proofs.lemmas.Option.{get_or_from_slice_get}
use Rattle.stx_base.specs.declared.name.Attr.{Attr}
use Rattle.result_writer.proofs.attributes.set_value.Goals as goal

pub returns : goal.returns
returns c = λ a found.
    let items = c.args.attrs.now.items in
    let item = c.index_mut.result.now in
    ap (λ (x : Attr). slice_set items c.args.at (record x { value = c.args.value })) (c.index_mut.ensures.value ∙ get_or_from_slice_get items c.args.at a item found)
