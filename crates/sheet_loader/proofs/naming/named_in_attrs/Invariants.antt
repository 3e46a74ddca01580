use Rattle.std.proofs.Common.{◌≡◌, ◌++◌, drop, map}
use Rattle.std.specs.List.{flat_map}
use Rattle.sheet_model.specs.Names.{template_variables}
use Rattle.sheet_model.specs.declared.instr.LiteralAttr.{LiteralAttr}
use Rattle.sheet_loader.specs.Keys.{name_of}
use Rattle.sheet_loader.specs.Making.{bare}
use Rattle.sheet_loader.proofs.naming.named_in_attrs.Given as goal

abbrev pub invariant-loop-attr : goal.invariant-loop-attr
invariant-loop-attr l =
    map name_of l.found ++ map bare (flat_map (λ (a : LiteralAttr). template_variables a.value) (drop l.attr-index l.attrs))
    ≡ map bare (flat_map (λ (a : LiteralAttr). template_variables a.value) l.attrs)
