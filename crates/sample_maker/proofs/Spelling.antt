-- The characters that the sample's fixed texts spell.
use Rattle.std.proofs.Common.{◌≡◌, refl}
use Rattle.std.specs.Str.{chars}
use Rattle.sample_maker.specs.Document.{head, foot}

pub head_spelled : chars head ≡ head
unfolding chars
head_spelled = refl

pub foot_spelled : chars foot ≡ foot
unfolding chars
foot_spelled = refl

pub ruleset root_tags = (head_spelled, foot_spelled)
