-- No event comes of no bytes.
use Rattle.std.proofs.Common.{◌≡◌, ℕ, ◌+◌, ◌-◌, Bool, true, false, List, [], ◌∷◌, length, drop, Option, Some, None, refl, sym, ap, ◌∙◌, arith}
use Rattle.std.proofs.lemmas.Bool.{le-ltb}
use Rattle.std.specs.Prelude.{nat_lt, not, ◌&&◌, ◌==◌, if◌then◌else◌}
use Rattle.stx_base.specs.declared.fault.XmlKind.TheVariants.{LexemeTooLong, InputTooLong, Truncated}
use Rattle.stx_base.specs.declared.limits.Limits.{Limits}
use Rattle.xml_tokens.specs.Reader.{Reader, after, at_rest, at_shape_or_rest, bad, coming, due, is_cut, is_last, is_open, mark_len_of, place, step_or_need}
use Rattle.xml_tokens.specs.Shape.{shape_len}
use Rattle.xml_tokens.specs.declared.lexeme.Ending.{Ending}
use Rattle.xml_tokens.specs.declared.lexeme.Ending.TheVariants as ending
use Rattle.xml_tokens.specs.declared.lexeme.Step.{Step}
use Rattle.xml_tokens.specs.declared.lexeme.Step.TheVariants as step
use Rattle.xml_events.specs.Before.{starting}
use Rattle.xml_events.specs.Document.{doc, finished, inner, lists_of, reading}
use Rattle.xml_events.specs.Lexed.{Lexed, answered, lexed_within, unread}
use Rattle.xml_events.specs.Telling.{pulled}
use Rattle.xml_events.specs.Tree.{Why, Need, Bad, Forest, Cut}
use Rattle.xml_events.specs.declared.event.Event.{Event}
use Rattle.xml_events.specs.declared.event.Pull.TheVariants as pull
use Rattle.sheet_files.proofs.Cuts.{drop_all, take_all}
use Rattle.sheet_files.proofs.Stopping.{not_event}

module _ (limits : Limits) (ended : Bool) where
  abbrev none : Reader
  none = unread limits [] ended

  coming_none : coming none ≡ []
  coming_none = ap (λ (l : List ℕ). drop (mark_len_of 0 l) l) (take_all [] (limits.input - 0) (omega arith)) ∙ drop_all [] (mark_len_of 0 []) (omega arith)

  abbrev rest_by : (long cut zero : Bool) → Option Ending
  rest_by long cut zero =
      if long then Some (bad LexemeTooLong (place none))
      else if cut then Some (bad InputTooLong limits.input)
      else if not ended then None
      else if zero then Some ending.End
      else Some (bad Truncated (none.offset + length none.unread))

  never : (a b : Bool) → b ≡ false → (a && b) ≡ false
  never true b h = h
  never false b h = refl

  rest_none : at_rest none ≡ (if not ended then None else Some ending.End)
  rest_none =
      let long : (not (is_open none) && nat_lt limits.lexeme (length (coming none))) ≡ false = never (not (is_open none)) _ (le-ltb limits.lexeme (length (coming none)) (omega (arith, ap length coming_none))) in
      let cut : is_cut none ≡ false = le-ltb (limits.input - 0) 0 (omega arith) in
      let zero : (length (coming none) == 0) ≡ true = ap (λ (l : List ℕ). length l == 0) coming_none in
      ap (λ (b : Bool). rest_by b (is_cut none) (length (coming none) == 0)) long
      ∙ ap (λ (b : Bool). rest_by false b (length (coming none) == 0)) cut
      ∙ ap (λ (b : Bool). rest_by false false b) zero

  due_none : due none ≡ step_or_need (if not ended then None else Some ending.End)
  unfolding due
  due_none =
      let shape : shape_len (is_last none) (coming none) ≡ None = ap (shape_len (is_last none)) coming_none in
      ap (at_shape_or_rest none) shape ∙ ap step_or_need rest_none

doc_by : Limits → Lexed → Forest
doc_by limits l = finished false (inner (lists_of (reading limits 0 l.last (starting false) l.lexemes)))

-- the tree of no bytes goes no further
doc_none : (limits : Limits) (ended : Bool) → (why : Why) × (doc limits false [] ended ≡ Cut why)
unfolding doc_by
doc_none limits true = (Bad (record { kind = Truncated; offset = 0 }), ap (λ (s : Step). doc_by limits (answered s (λ l. lexed_within 0 (after (unread limits [] true) (step.Lexeme l))))) (due_none limits true))
doc_none limits false = (Need, ap (λ (s : Step). doc_by limits (answered s (λ l. lexed_within 0 (after (unread limits [] false) (step.Lexeme l))))) (due_none limits false))

pub nothing : (limits : Limits) (ended : Bool) (e : Event) → pulled (doc limits false [] ended ∷ []) ≡ pull.Event e → ⊥
nothing limits ended e h =
    let cut = doc_none limits ended in
    not_event cut.0 e (sym h ∙ ap (λ (x : Forest). pulled (x ∷ [])) cut.1)
