use Rattle.std.proofs.Common.{◌≡◌, drop, ◌++◌, map, flat_map}
use Rattle.std.specs.Str.{chars}
use Rattle.stxpath_values.specs.Conversion.{atom_text}
use Rattle.stxpath_values.specs.Words.{joined}
use Rattle.stxpath_values.proofs.texts.joined.Given as goal

abbrev pub invariant-loop-atom : goal.invariant-loop-atom
invariant-loop-atom l =
    l.made ++ flat_map (λ cs. chars l.separator ++ cs) (map atom_text (drop l.atom-index l.others)) ≡ joined (chars l.separator) (map atom_text l.atoms)
