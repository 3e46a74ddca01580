use Rattle.std.proofs.Common.{ap, sym, ◌∙◌, encode_utf8_all}
use Rattle.std.specs.Str.{bytes_eq, chars}
use Rattle.std.proofs.lemmas.Bool.Decides.{same_from_decides, Decides-like}
use Rattle.std.proofs.lemmas.Slice.Eq.{bytes_eq-Decides}
use Rattle.node_stack.proofs.law.texts.Goals as goal

pub returns : goal.returns
returns c = λ a b of_a of_b.
    same_from_decides (bytes_eq (encode_utf8_all a) (encode_utf8_all b)) (bytes_eq a b)
    (Decides-like _ (λ e. sym of_a ∙ ap chars e ∙ of_b) (λ e. ap encode_utf8_all e) (bytes_eq-Decides (encode_utf8_all a) (encode_utf8_all b)))
    (bytes_eq-Decides a b)
