-- Where CDATA sections aren't recognised they are text like other.
use Rattle.std.proofs.Common.{◌≡◌, ℕ, ◌+◌, Bool, true, false, List, [], ◌∷◌, ◌++◌, length, Option, Some, None, refl, ap, ◌∙◌}
use Rattle.std.specs.Prelude.{if◌then◌else◌}
use Rattle.stx_base.specs.declared.fault.XmlKind.{XmlKind}
use Rattle.stx_base.specs.declared.fault.XmlKind.TheVariants.{Misplaced, TextTooLong}
use Rattle.stx_base.specs.declared.limits.Limits.{Limits}
use Rattle.xml_tokens.specs.Reader.{fed}
use Rattle.xml_tokens.specs.declared.lexeme.Body.{Body}
use Rattle.xml_tokens.specs.declared.lexeme.Body.TheVariants as body
use Rattle.xml_tokens.specs.declared.lexeme.Lexeme.{Lexeme}
use Rattle.xml_tokens.specs.declared.lexeme.Step.{Step}
use Rattle.xml_events.specs.Before.{Before, at_start, is_inside, is_misplaced, is_too_long, without_text, behind_text, unfit, fault_of, before_next}
use Rattle.xml_events.specs.Document.{Stands, Reading, text_items, items_of, judged, reading, lists_of, inner, finished}
use Rattle.xml_events.specs.Joined.{joined_unfit, joined_fault_of, joined_next, joined_items, joined_judged, joined_reading, CDataIsText}
use Rattle.xml_events.specs.Lexed.{lexed, unread}
use Rattle.xml_events.specs.Tree.{CData}

module _ (limits : Limits) (b : Before) (plain : b.cdata ≡ false) where
  same_unfit : (x : Body) → unfit limits b x ≡ joined_unfit limits b x
  same_unfit (body.CData text) = ap (λ c. if is_too_long limits (if c then without_text b else b) text then Some TextTooLong else None) plain
  same_unfit (body.Chars text blank) = refl
  same_unfit (body.Start name attrs empty) = refl
  same_unfit (body.End name) = refl
  same_unfit (body.Comment text) = refl
  same_unfit (body.Pi target text) = refl
  same_unfit body.Doctype = refl
  same_unfit body.Declaration = refl

  same_fault : (x : Body) → fault_of limits b x ≡ joined_fault_of limits b x
  same_fault x = ap (λ f. if is_misplaced b x then Some Misplaced else f) (same_unfit x)

  same_next : (x : Body) → before_next b x ≡ joined_next b x
  same_next (body.CData text) = ap (λ c. if c then without_text b else behind_text b text) plain
  same_next (body.Chars text blank) = refl
  same_next (body.Start name attrs true) = refl
  same_next (body.Start name attrs false) = refl
  same_next (body.End name) = refl
  same_next (body.Comment text) = refl
  same_next (body.Pi target text) = refl
  same_next body.Doctype = refl
  same_next body.Declaration = refl

  same_items : (offset : ℕ) (x : Body) → items_of b offset x ≡ joined_items b offset x
  same_items offset (body.CData text) = ap (λ c. if c then Stands (CData offset text) ∷ [] else text_items b offset text) plain
  same_items offset (body.Chars text blank) = refl
  same_items offset (body.Start name attrs true) = refl
  same_items offset (body.Start name attrs false) = refl
  same_items offset (body.End name) = refl
  same_items offset (body.Comment text) = refl
  same_items offset (body.Pi target text) = refl
  same_items offset body.Doctype = refl
  same_items offset body.Declaration = refl

  same_judged : (f : Option XmlKind) (l : Lexeme) (r : Reading) → judged f b l r ≡ joined_judged f b l r
  same_judged (Some kind) l r = refl
  same_judged None l r = ap (λ is. record r { items = is ++ r.items }) (same_items l.offset l.body)

  text_plain : (text : List ℕ) (t : Bool) → (if t then record b { chars = b.chars + length text } else b).cdata ≡ false
  text_plain text true = plain
  text_plain text false = plain

  next_plain : (x : Body) → (joined_next b x).cdata ≡ false
  next_plain (body.CData text) = text_plain text (is_inside b.names)
  next_plain (body.Chars text blank) = text_plain text (is_inside b.names)
  next_plain (body.Start name attrs true) = plain
  next_plain (body.Start name attrs false) = plain
  next_plain (body.End name) = plain
  next_plain (body.Comment text) = plain
  next_plain (body.Pi target text) = plain
  next_plain body.Doctype = plain
  next_plain body.Declaration = plain

same_reading : (limits : Limits) (n : ℕ) (last : Step) (b : Before) (ls : List Lexeme) → b.cdata ≡ false → reading limits n last b ls ≡ joined_reading limits n last b ls
same_reading limits n last b [] plain = refl
same_reading limits n last b (l ∷ ls) plain =
    ap (λ f. judged f b l (reading limits n last (before_next b l.body) ls)) (same_fault limits b plain l.body)
    ∙ ap (λ d. judged (joined_fault_of limits b l.body) b l (reading limits n last d ls)) (same_next limits b plain l.body)
    ∙ ap (judged (joined_fault_of limits b l.body) b l) (same_reading limits n last (joined_next b l.body) ls (next_plain limits b plain l.body))
    ∙ same_judged limits b plain (joined_fault_of limits b l.body) l (joined_reading limits n last (joined_next b l.body) ls)

pub cdata-is-text : CDataIsText
cdata-is-text limits strip bytes ended =
    let read = lexed limits bytes ended in
    ap (λ r. finished strip (inner (lists_of r))) (same_reading limits (fed (unread limits bytes ended)) read.last at_start read.lexemes refl)
