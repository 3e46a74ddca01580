use Rattle.std.proofs.Common.{◌≡◌, ◌++◌, drop}
use Rattle.std.specs.List.{flat_map}
use Rattle.stx_base.specs.Course.{Begins}
use Rattle.result_writer.specs.Tag.{attributes, declaration, open_tag}
use Rattle.result_writer.proofs.tag.append_dressed_tag.Given as goal

-- what was appended so far, and then the declarations that are left and the attributes, is the whole tag
abbrev pub invariant-loop-binding : goal.invariant-loop-binding
invariant-loop-binding l = record {
  written : l.out.items ++ flat_map declaration (drop l.binding-index l.dressed.declared) ++ attributes l.dressed.prefixes l.tag.attrs
      ≡ l.fn.out.items ++ open_tag l.tag l.dressed;
  kept : Begins l.fn.out.items l.out.items;
}
