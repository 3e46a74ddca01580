-- A document that comes in pieces.
use Rattle.std.proofs.Common.{◌≡◌, ℕ, Bool, true, false, List, [], ◌∷◌, ◌++◌, append_assoc, append-nil, refl, sym, ap, ◌∙◌}
use Rattle.std.specs.List.{flat_map}
use Rattle.xml_events.specs.Laws.{HasDocument, fed_all}
use Rattle.xml_events.specs.Source.{Source, fed_with, future, source_for}
use Rattle.xml_events.proofs.Counting.{has-document}
use Rattle.xml_events.proofs.Feeding.{goes-on-fed, ends-there}

abbrev joined : List (List ℕ) → List ℕ
joined pieces = flat_map (λ piece. piece) pieces

fed-all : (s : Source) (pieces : List (List ℕ)) → s.lexer.ended ≡ false
    → ((fed_all s pieces).lexer.ended ≡ false) × ((more : List ℕ) (ended : Bool) → future (fed_all s pieces) more ended ≡ future s (joined pieces ++ more) ended)
fed-all s [] going = (going, λ more ended. refl)
fed-all s (piece ∷ pieces) going =
    let later = fed-all (fed_with s piece) pieces going in (
      later.0,
      λ more ended.
          later.1 more ended
          ∙ (goes-on-fed s piece (joined pieces ++ more) ended going ∙ ap (λ l. future s l ended) (sym (append_assoc piece (joined pieces) more))),
    )

pub in-pieces : HasDocument
in-pieces limits strip cdata pieces more ended =
    let begun : Source = source_for limits strip cdata in
    let all = fed-all begun pieces refl in (
      all.1 more ended ∙ has-document limits strip cdata (joined pieces ++ more) ended,
      ends-there (fed_all begun pieces) more ended all.0
          ∙ (all.1 [] true ∙ (ap (λ l. future begun l true) (append-nil (joined pieces)) ∙ has-document limits strip cdata (joined pieces) true)),
    )
