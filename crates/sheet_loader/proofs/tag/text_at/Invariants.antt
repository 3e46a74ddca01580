use Rattle.std.proofs.Common.{◌≡◌, drop}
use Rattle.std.specs.Str.{chars}
use Rattle.sheet_loader.specs.Tags.{text_at}
use Rattle.sheet_loader.proofs.tag.text_at.Given as goal

abbrev pub invariant-loop-attr : goal.invariant-loop-attr
invariant-loop-attr l = text_at (drop l.attr-index l.attrs) (chars l.name) ≡ text_at l.attrs (chars l.name)
