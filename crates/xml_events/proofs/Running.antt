-- A run over a document's pieces.
use Rattle.std.proofs.Common.{◌≡◌, ℕ, Bool, true, false, List, [], ◌∷◌, ◌++◌, Some, None, refl, sym, ap, ◌∙◌, append_assoc, append-nil, subst}
use Rattle.stx_base.specs.declared.limits.Limits.{Limits}
use Rattle.xml_tokens.specs.declared.lexeme.Ending.{Ending}
use Rattle.xml_events.specs.declared.event.Event.{Event}
use Rattle.xml_events.specs.declared.event.Pull.TheVariants as pull
use Rattle.xml_events.specs.Answering.{answer_of}
use Rattle.xml_events.specs.Document.{doc_for}
use Rattle.xml_events.specs.Run.{Tells, IsGiven, IsDrained, AreCalled}
use Rattle.xml_events.specs.Source.{Source, source_for, fed_with, ended_there, future, IsAnswer, Leaves}
use Rattle.xml_events.specs.Telling.{told, followed, pulled}
use Rattle.xml_events.specs.Tree.{Future}
use Rattle.xml_events.proofs.Counting.{has-document}
use Rattle.xml_events.proofs.Feeding.{goes-on-fed, ends-there}
use Rattle.xml_events.proofs.Telling.{told-append}

-- nothing was given yet
pub given-nothing : (s : Source) → IsGiven s [] s
given-nothing s = record { ended = refl; law = λ more ended. refl; called = λ more ended. tt }

called-append : (es ds : List Event) (f : Future) → AreCalled es (told ds f) → AreCalled ds f → AreCalled (es ++ ds) f
called-append [] ds f a b = b
called-append (e ∷ es) ds f a b = (ap (λ g. pulled (followed e g)) (told-append es ds f) ∙ a.0, called-append es ds f a.1 b)

-- an event more was given
pub given-more : (old s new : Source) (given : List Event) (e : Event) → IsGiven old given s → IsAnswer s (pull.Event e) → Leaves s (pull.Event e) new → new.lexer.ended ≡ s.lexer.ended → IsGiven old (given ++ e ∷ []) new
given-more old s new given e g answer leaves ended = record {
  ended = ended ∙ g.ended;
  law = λ more ended. g.law more ended ∙ ap (told given) (leaves more ended) ∙ sym (told-append given (e ∷ []) (future new more ended));
  called = λ more ended.
      called-append given (e ∷ []) (future new more ended) (subst (AreCalled given) (leaves more ended) (g.called more ended))
      (sym (ap pulled (leaves more ended)) ∙ answer more ended, tt);
}

-- an ending comes
pub given-over : (old s : Source) (given : List Event) (over : Ending) → IsGiven old given s → ((more : List ℕ) (ended : Bool) → pulled (future s more ended) ≡ answer_of over) → (more : List ℕ) (ended : Bool) → Tells (future old more ended) given over
given-over old s given over g answer more ended = record { rest = future s more ended; tell = g.law more ended; called = g.called more ended; ends = answer more ended }

-- more bytes must come
pub given-need : (old s new : Source) (given : List Event) → IsGiven old given s → Leaves s pull.Need new → new.lexer.ended ≡ s.lexer.ended → IsGiven old given new
given-need old s new given g leaves ended = record { ended = ended ∙ g.ended; law = λ more ended. g.law more ended ∙ ap (told given) (sym (leaves more ended)); called = λ more ended. subst (AreCalled given) (sym (leaves more ended)) (g.called more ended) }

-- what a reader has before it after the pieces so far
pub record IsRead (limits : Limits) (strip cdata : Bool) (bytes : List ℕ) (events : List Event) (s : Source) : Type 0 where
  pub going : s.lexer.ended ≡ false
  pub law : (more : List ℕ) (ended : Bool) → future (source_for limits strip cdata) (bytes ++ more) ended ≡ told events (future s more ended)
  pub called : (more : List ℕ) (ended : Bool) → AreCalled events (future s more ended)

module _ (limits : Limits) (strip cdata : Bool) where
  pub read-nothing : IsRead limits strip cdata [] [] (source_for limits strip cdata)
  read-nothing = record { going = refl; law = λ more ended. refl; called = λ more ended. tt }

  -- a piece was fed
  pub read-fed : (bytes piece : List ℕ) (events : List Event) (s : Source) → IsRead limits strip cdata bytes events s → IsRead limits strip cdata (bytes ++ piece) events (fed_with s piece)
  read-fed bytes piece events s r = record {
    going = r.going;
    law = λ more ended.
        ap (λ l. future (source_for limits strip cdata) l ended) (append_assoc bytes piece more)
        ∙ r.law (piece ++ more) ended
        ∙ ap (told events) (sym (goes-on-fed s piece more ended r.going));
    called = λ more ended. subst (AreCalled events) (sym (goes-on-fed s piece more ended r.going)) (r.called (piece ++ more) ended);
  }

  -- its events were given
  pub read-drained : (bytes : List ℕ) (events all : List Event) (s new : Source) → IsRead limits strip cdata bytes events s → IsDrained s events new all None → IsRead limits strip cdata bytes all new
  read-drained bytes events all s new r d = record {
    going = d.2.ended ∙ r.going;
    law = λ more ended.
        r.law more ended ∙ ap (told events) (d.2.law more ended) ∙ sym (told-append events d.0 (future new more ended))
        ∙ ap (λ l. told l (future new more ended)) (sym d.1);
    called = λ more ended.
        subst (λ l. AreCalled l (future new more ended)) (sym d.1)
        (called-append events d.0 (future new more ended) (subst (AreCalled events) (d.2.law more ended) (r.called more ended)) (d.2.called more ended));
  }

  tells-all : (events all given : List Event) (over : Ending) (f g : Future) → f ≡ told events g → AreCalled events g → all ≡ events ++ given → Tells g given over → Tells f all over
  tells-all events all given over f g e c a t = record {
    rest = t.rest;
    tell = e ∙ ap (told events) t.tell ∙ sym (told-append events given t.rest) ∙ ap (λ l. told l t.rest) (sym a);
    called = subst (λ l. AreCalled l t.rest) (sym a) (called-append events given t.rest (subst (AreCalled events) t.tell c) t.called);
    ends = t.ends;
  }

  -- an ending came before the last piece
  pub read-over : (bytes left : List ℕ) (events all : List Event) (s new : Source) (over : Ending) → IsRead limits strip cdata bytes events s → IsDrained s events new all (Some over) → Tells (doc_for limits strip cdata (bytes ++ left) true ∷ []) all over
  read-over bytes left events all s new over r d =
      tells-all events all d.0 over (doc_for limits strip cdata (bytes ++ left) true ∷ []) (future s left true)
      (sym (has-document limits strip cdata (bytes ++ left) true) ∙ r.law left true) (r.called left true) d.1 (d.2 left true)

  -- or behind it
  pub read-ended : (bytes : List ℕ) (events all : List Event) (s new : Source) (over : Ending) → IsRead limits strip cdata bytes events s → IsDrained (ended_there s) events new all (Some over) → Tells (doc_for limits strip cdata bytes true ∷ []) all over
  read-ended bytes events all s new over r d =
      tells-all events all d.0 over (doc_for limits strip cdata bytes true ∷ []) (future (ended_there s) [] true)
      (sym (has-document limits strip cdata bytes true)
      ∙ ap (λ l. future (source_for limits strip cdata) l true) (sym (append-nil bytes))
      ∙ r.law [] true
      ∙ ap (told events) (sym (ends-there s [] true r.going)))
      (subst (AreCalled events) (sym (ends-there s [] true r.going)) (r.called [] true)) d.1 (d.2 [] true)

  -- there is one
  pub read-no-need : (events all : List Event) (s new : Source) → IsDrained (ended_there s) events new all None → ⊥
  read-no-need events all s new d = let e = d.3 in cc
