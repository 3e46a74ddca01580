use Rattle.std.proofs.Common.{◌≡◌, drop, ◌++◌, map, flat_map, length, nat_lt, is_none}
use Rattle.std.specs.Str.{chars}
use Rattle.stxpath_values.specs.Conversion.{atom_text}
use Rattle.stxpath_values.specs.Words.{joined, less}
use Rattle.stxpath_values.proofs.texts.is_longer.Given as goal

abbrev pub invariant-loop-atom : goal.invariant-loop-atom
invariant-loop-atom l =
    is_none (less l.room (length (flat_map (λ cs. chars l.separator ++ cs) (map atom_text (drop l.atom-index l.others)))))
    ≡ nat_lt l.limit (length (joined (chars l.separator) (map atom_text l.atoms)))
