-- Why a document's lists go no further.
use Rattle.std.proofs.Common.{◌≡◌, ◌≢◌, ℕ, suc, ◌+◌, Bool, true, false, List, [], ◌∷◌, Option, Some, None, length, refl, sym, ap, ◌∙◌, arith}
use Rattle.std.specs.Prelude.{if◌then◌else◌}
use Rattle.std.specs.List.{list_all}
use Rattle.std.specs.Option.{option_or}
use Rattle.stx_base.specs.Character.{is_space}
use Rattle.stx_base.specs.declared.fault.XmlKind.{XmlKind}
use Rattle.stx_base.specs.declared.limits.Limits.{Limits}
use Rattle.xml_tokens.specs.Reader.{fed}
use Rattle.xml_tokens.specs.declared.lexeme.Body.{Body}
use Rattle.xml_tokens.specs.declared.lexeme.Body.TheVariants as body
use Rattle.xml_tokens.specs.declared.lexeme.Lexeme.{Lexeme}
use Rattle.xml_tokens.specs.declared.lexeme.Step.{Step}
use Rattle.xml_tokens.specs.declared.lexeme.Step.TheVariants as step
use Rattle.xml_events.specs.Before.{Before, starting, before_next, fault_of, is_inside, without_text, behind_text}
use Rattle.xml_events.specs.Document.{Says, at_end, doc_for, finished, inner, items_of, judged, lists_of, reading, readied, stripped, text_before, with_items, Stands, text_items}
use Rattle.xml_events.specs.Growing.{BeginningGoesOn, WholeNeedsNoMore}
use Rattle.xml_events.specs.Lexed.{Lexed, lexed, unread}
use Rattle.xml_events.specs.Telling.{stop_in}
use Rattle.xml_events.specs.Tree.{Why, Need, Bad, Chars, CData, Comment, Pi, Forest, End, Cut, Single, Nested, Future}
use Rattle.xml_events.proofs.Counting.{Open, lone, reading-open}
use Rattle.xml_events.proofs.Growing.{lexed-grown}
use Rattle.xml_events.proofs.Over.{NoNeed, doc-none}
use Rattle.xml_events.proofs.Reading.{judged-lists}

-- Whole documents

no-need : (x : Forest) → NoNeed x → stop_in x ≢ Some Need
no-need (End m o) h e = absurd cc
no-need (Cut Need) h e = h
no-need (Cut (Bad fault)) h e = absurd cc
no-need (Single m leaf next) h e = no-need next h e
no-need (Nested m el kids next) h e = by_kids (stop_in kids) (no-need kids h.0) (no-need next h.1) e where
  by_kids : (o : Option Why) → o ≢ Some Need → stop_in next ≢ Some Need → option_or o (stop_in next) ≢ Some Need
  by_kids None k n e = n e
  by_kids (Some why) k n e = k e

pub whole-needs-no-more : WholeNeedsNoMore
whole-needs-no-more limits strip cdata bytes = no-need (doc_for limits strip cdata bytes true) (doc-none limits strip cdata bytes).0

-- First bytes

-- why lists go no further, the first of them that doesn't
abbrev stop_all : Future → Option Why
stop_all [] = None
stop_all (list ∷ lists) = option_or (stop_in list) (stop_all lists)

text_stop : (o : ℕ) (t : List ℕ) (x : Forest) → stop_in (text_before o t x) ≡ stop_in x
text_stop o t (Single m (Chars k l) next) = refl
text_stop o [] (Single m (CData k l) next) = refl
text_stop o [] (Single m (Comment k l) next) = refl
text_stop o (c ∷ cs) (Single m (CData k l) next) = refl
text_stop o (c ∷ cs) (Single m (Comment k l) next) = refl
text_stop o [] (Single m (Pi k g l) next) = refl
text_stop o (c ∷ cs) (Single m (Pi k g l) next) = refl
text_stop o [] (End m k) = refl
text_stop o (c ∷ cs) (End m k) = refl
text_stop o [] (Cut why) = refl
text_stop o (c ∷ cs) (Cut why) = refl
text_stop o [] (Nested m e kids next) = refl
text_stop o (c ∷ cs) (Nested m e kids next) = refl

or_assoc : (a b c : Option Why) → option_or (option_or a b) c ≡ option_or a (option_or b c)
or_assoc None b c = refl
or_assoc (Some w) b c = refl

or_none : (a : Option Why) → option_or a None ≡ a
or_none None = refl
or_none (Some w) = refl

-- an item before lists that are as many as are open behind it
module _ (limits : Limits) (b : Before) (offset : ℕ) where
  text_item : (text : List ℕ) (t : Bool) → is_inside b.names ≡ t → (f : Future) → Open (if t then record b { chars = b.chars + length text } else b).names f →
      stop_all (with_items (if t then Says offset text ∷ [] else []) f) ≡ stop_all f
  text_item text true i [] o = absurd (omega arith)
  text_item text true i (list ∷ lists) o = ap (λ s. option_or s (stop_all lists)) (text_stop offset text list)
  text_item text false i f o = refl

  cdata_item : (text : List ℕ) (c : Bool) (f : Future) → Open (if c then without_text b else behind_text b text).names f →
      stop_all (with_items (if c then Stands (CData offset text) ∷ [] else text_items b offset text) f) ≡ stop_all f
  cdata_item text true [] o = absurd (omega arith)
  cdata_item text true (list ∷ lists) o = refl
  cdata_item text false f o = text_item text (is_inside b.names) refl f o

  item-stop : (x : Body) (f : Future) → Open (before_next b x).names f → stop_all (with_items (items_of b offset x) f) ≡ stop_all f
  item-stop (body.Chars text blank) f o = text_item text (is_inside b.names) refl f o
  item-stop (body.CData text) f o = cdata_item text b.cdata f o
  item-stop (body.Start name attrs true) [] o = absurd (omega arith)
  item-stop (body.Start name attrs true) (list ∷ lists) o = refl
  item-stop (body.Start name attrs false) [] o = absurd (omega arith)
  item-stop (body.Start name attrs false) (list ∷ []) o = absurd (omega arith)
  item-stop (body.Start name attrs false) (list ∷ other ∷ lists) o = or_assoc (stop_in list) (stop_in other) (stop_all lists)
  item-stop (body.End name) f o = refl
  item-stop (body.Comment text) [] o = absurd (omega arith)
  item-stop (body.Comment text) (list ∷ lists) o = refl
  item-stop (body.Pi target text) [] o = absurd (omega arith)
  item-stop (body.Pi target text) (list ∷ lists) o = refl
  item-stop body.Doctype f o = refl
  item-stop body.Declaration f o = refl

module _ (limits : Limits) (n : ℕ) (last : Step) (open_end : last ≢ step.End) where
  end-stop : (b : Before) (s : Step) → s ≢ step.End → stop_all (lists_of (at_end b n s)) ≢ None
  end-stop b (step.Lexeme l) o e = cc
  end-stop b step.Need o e = cc
  end-stop b step.End o e = o refl
  end-stop b (step.Bad fault) o e = cc
  end-stop b step.Memory o e = cc

  reading-stop : (b : Before) (ls : List Lexeme) → stop_all (lists_of (reading limits n last b ls)) ≢ None
  reading-stop b [] = end-stop b last open_end
  reading-stop b (l ∷ ls) = by_fault (fault_of limits b l.body) (reading-stop (before_next b l.body) ls) (reading-open limits n last (before_next b l.body) ls) where
    by_fault : (o : Option XmlKind) → stop_all (lists_of (reading limits n last (before_next b l.body) ls)) ≢ None → Open (before_next b l.body).names (lists_of (reading limits n last (before_next b l.body) ls))
        → stop_all (lists_of (judged o b l (reading limits n last (before_next b l.body) ls))) ≢ None
    by_fault (Some kind) h k e = cc
    by_fault None h k e =
        let r = reading limits n last (before_next b l.body) ls in
        h (sym (item-stop limits b l.offset l.body (lists_of r) k) ∙ ap stop_all (sym (judged-lists None b l r refl)) ∙ e)

-- Marks and texts that are left out change nothing of this.

stripped-stop : (x : Forest) → stop_in (stripped x) ≡ stop_in x
stripped-stop (End m o) = refl
stripped-stop (Cut why) = refl
stripped-stop (Single m (Chars o t) next) = by_blank (list_all is_space t) (stripped-stop next) where
  by_blank : (b : Bool) → stop_in (stripped next) ≡ stop_in next → stop_in (if b then stripped next else Single m (Chars o t) (stripped next)) ≡ stop_in next
  by_blank true h = h
  by_blank false h = h
stripped-stop (Single m (CData o t) next) = stripped-stop next
stripped-stop (Single m (Comment o t) next) = stripped-stop next
stripped-stop (Single m (Pi o g t) next) = stripped-stop next
stripped-stop (Nested m e kids next) = ap (λ s. option_or s (stop_in (stripped next))) (stripped-stop kids) ∙ ap (option_or (stop_in kids)) (stripped-stop next)

readied-stop : (x : Forest) → stop_in (readied x) ≡ stop_in x
readied-stop (End m o) = refl
readied-stop (Cut why) = refl
readied-stop (Single m leaf next) = readied-stop next
readied-stop (Nested m e kids next) = ap (λ s. option_or s (stop_in (readied next))) (readied-stop kids) ∙ ap (option_or (stop_in kids)) (readied-stop next)

finished-stop : (strip : Bool) (x : Forest) → stop_in (finished strip x) ≡ stop_in x
finished-stop true x = readied-stop (stripped x) ∙ stripped-stop x
finished-stop false x = readied-stop x

pub beginning-goes-on : BeginningGoesOn
beginning-goes-on limits strip cdata bytes e =
    let r = unread limits bytes false in
    let l : Lexed = lexed limits bytes false in
    let f = lists_of (reading limits (fed r) l.last (starting cdata) l.lexemes) in
    let no_end = (lexed-grown [] false (suc (length bytes)) r refl refl (omega arith)).0 in
    let alone : f ≡ inner f ∷ [] = lone f (reading-open limits (fed r) l.last (starting cdata) l.lexemes) in
    reading-stop limits (fed r) l.last no_end (starting cdata) l.lexemes
    (ap stop_all alone ∙ or_none (stop_in (inner f)) ∙ sym (finished-stop strip (inner f)) ∙ e)
