use Rattle.std.proofs.Common.{ap, ◌∙◌, drop, encode_utf8_all}
use Rattle.std.specs.Prelude.{string_bytes}
use Rattle.result_writer.specs.Attributes.{place_of}
use Rattle.result_writer.proofs.Attributed.{names}
use Rattle.result_writer.proofs.attributes.Attributes.place_behind.Goals as goal

pub returns : goal.returns
returns c =
    let ns = drop 16 (names c.self.inside.list) in
    c.copied.ensures ∙ c.get.ensures.value ∙ c.self.invariant.places c.in_ok-key.key
    ∙ ap (λ u. place_of 16 ns u (string_bytes c.in_ok-key.key.1)) c.in_ok-key.ensures.uri
    ∙ ap (place_of 16 ns (encode_utf8_all c.args.name.now.uri)) c.in_ok-key.ensures.local
    ∙ ap (λ l. place_of 16 (drop 16 (names l)) (encode_utf8_all c.args.name.now.uri) (encode_utf8_all c.args.name.now.local)) c.self.view_is
