use Rattle.std.proofs.Common.{◌≡◌, map}
use Rattle.std.specs.Vec.Iter.{into_iter_items}
use Rattle.sheet_model.specs.declared.sheet.Sheet.{Sheet}
use Rattle.sheet_loader.specs.Known.{Knows, known, known_of, reference_of}
use Rattle.sheet_loader.specs.References.{first_lost}
use Rattle.sheet_loader.proofs.register.Register.first_lost.Given as goal

abbrev pub invariant-loop-reference : goal.invariant-loop-reference
invariant-loop-reference l = record {
  declared : known_of l.self.declared ≡ (known l.fn.self).declares;
  left : (sheet : Sheet) → Knows (known l.fn.self).declares sheet → l.groups ≡ sheet.groups
      → first_lost sheet (map reference_of (into_iter_items l.reference-iterator)) ≡ first_lost sheet (known l.fn.self).references;
}
