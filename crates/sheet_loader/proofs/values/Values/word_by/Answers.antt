-- Where there is no word, the text is empty.
use Rattle.std.proofs.Common.{◌≡◌, ℕ, List, [], Option, Some, None, refl, sym}
use Rattle.std.specs.Str.{chars}
use Rattle.sheet_loader.specs.Gathering.{values_in}
use Rattle.sheet_loader.specs.Making.{as_word, value_at}
use Rattle.sheet_loader.specs.Taking.{maybe_word}
use Rattle.sheet_loader.specs.Values.{Value, A_word}
use Rattle.sheet_loader.proofs.values.Values.word_by.Goals as goal

no_word : (v : Option Value) → None ≡ maybe_word v → as_word v ≡ []
no_word (Some (A_word word)) e = cc
no_word other e = refl

pub returns-in-None : goal.returns-in-None
unfolding chars
returns-in-None c = sym (no_word (value_at (chars c.args.name.now) (values_in c.args.self.now)) c.in-None.ensures)
