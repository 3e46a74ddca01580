-- How far a document is read.
use Rattle.std.proofs.Common.{◌≡◌, ℕ, List, [], ◌∷◌, ◌++◌, Some, None, refl, sym, ap, ◌∙◌, append_assoc}
use Rattle.stx_base.specs.declared.fault.XmlKind.{XmlKind}
use Rattle.stx_base.specs.declared.limits.Limits.{Limits}
use Rattle.xml_tokens.specs.declared.lexeme.Lexeme.{Lexeme}
use Rattle.xml_tokens.specs.declared.lexeme.Step.{Step}
use Rattle.xml_events.specs.Before.{Before, before_next, fault_of}
use Rattle.xml_events.specs.Document.{Reading, items_of, at_end, cuts, judged, reading}
use Rattle.xml_events.specs.Laws.{behind, all_items, AreSound}
use Rattle.xml_events.specs.Tree.{Bad}

module _ (limits : Limits) (n : ℕ) (last : Step) where
  passes : (b : Before) (l : Lexeme) (ls : List Lexeme) → fault_of limits b l.body ≡ None →
      let r = reading limits n last (before_next b l.body) ls in reading limits n last b (l ∷ ls) ≡ record r { items = items_of b l.offset l.body ++ r.items }
  passes b l ls none = ap (λ f. judged f b l (reading limits n last (before_next b l.body) ls)) none

  pub first-fault : (b : Before) (ls ms : List Lexeme) (l : Lexeme) (kind : XmlKind) → AreSound limits b ls → fault_of limits (behind b ls) l.body ≡ Some kind →
      reading limits n last b (ls ++ l ∷ ms) ≡ record { items = all_items b ls; rest = cuts (Bad (record { kind = kind; offset = l.offset })) (behind b ls).names }
  first-fault b [] ms l kind sound is = ap (λ f. judged f b l (reading limits n last (before_next b l.body) ms)) is
  first-fault b (x ∷ ls) ms l kind sound is =
      passes b x (ls ++ l ∷ ms) sound.0
      ∙ ap (λ (r : Reading). record r { items = items_of b x.offset x.body ++ r.items }) (first-fault (before_next b x.body) ls ms l kind sound.1 is)

  pub no-fault : (b : Before) (ls : List Lexeme) → AreSound limits b ls →
      let end = at_end (behind b ls) n last in reading limits n last b ls ≡ record { items = all_items b ls ++ end.items; rest = end.rest }
  no-fault b [] sound = refl
  no-fault b (x ∷ ls) sound =
      passes b x ls sound.0
      ∙ ap (λ (r : Reading). record r { items = items_of b x.offset x.body ++ r.items }) (no-fault (before_next b x.body) ls sound.1)
      ∙ ap (λ l. record { items = l; rest = (at_end (behind (before_next b x.body) ls) n last).rest })
      (sym (append_assoc (items_of b x.offset x.body) (all_items (before_next b x.body) ls) (at_end (behind (before_next b x.body) ls) n last).items))
