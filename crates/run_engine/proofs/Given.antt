-- What is still to come of the main document.
use Rattle.std.proofs.Common.{◌≡◌, ◌↔◌, ℕ, Bool, true, false, if◌then◌else◌, List, [], ◌∷◌, ◌++◌, map, refl, sym, ap, subst, ◌∙◌, append-nil, append_assoc}
use Rattle.stx_base.specs.Course.{Ends, Halt, Same}
use Rattle.result_writer.specs.Target.{Left}
use Rattle.xml_tokens.specs.Reader.{Reader}
use Rattle.xml_events.specs.Document.{finished, inner, lists_of, reading_from, with_items}
use Rattle.xml_events.specs.Laws.{HasDocument}
use Rattle.xml_events.specs.Source.{Source, ended_there, fed_with, future, later, unless_over}
use Rattle.xml_events.specs.Telling.{told}
use Rattle.xml_events.specs.Tree.{Begun, End, Future, Need}
use Rattle.template_machine.specs.Ending.{Needs}
use Rattle.template_machine.specs.Giving.{EndsAtCut, StopsAt, rest, whole}
use Rattle.template_machine.specs.Job.{Given}
use Rattle.template_machine.specs.Laws.{GoesOnByCode}
use Rattle.template_machine.specs.Meaning.{code, meaning}
use Rattle.template_machine.specs.Stepwise.{flat_code}
use Rattle.template_machine.specs.declared.machine.Machine.{Machine}
use Rattle.run_engine.specs.More
use Rattle.run_engine.specs.More.{Coming, WasTold, more, more_at, nothing_yet, to_come, with_piece}
use Rattle.run_engine.specs.Run.{Document, Main, MainIsHungry, MayCome, New, Open, Over, Run, Stage, StandsAt, Wants, at_start}
use Rattle.run_engine.specs.Taking.{AreEnded, ended_first, fed_first, handed}
use Rattle.run_engine.specs.declared.piece.Piece.{Piece}
use Rattle.run_engine.specs.declared.piece.Piece.TheVariants as piece
use Rattle.run_engine.proofs.Future.{stops}

-- A piece comes before what is to come

later-open : (r : Reader) (more : List ℕ) (ended : Bool) → r.ended ≡ false → later r more ended ≡ record r { unread = r.unread ++ more; ended = ended }
later-open r more ended h = ap (λ b. if b then r else record r { unread = r.unread ++ more; ended = ended }) h

fed-later : (r : Reader) (piece more : List ℕ) (ended : Bool) → r.ended ≡ false → later (record r { unread = r.unread ++ piece }) more ended ≡ later r (piece ++ more) ended
fed-later r piece more ended h =
    later-open (record r { unread = r.unread ++ piece }) more ended h ∙ ap (λ l. record r { unread = l; ended = ended }) (append_assoc r.unread piece more)
    ∙ sym (later-open r (piece ++ more) ended h)

ended-later : (r : Reader) (more : List ℕ) (ended : Bool) → r.ended ≡ false → later (record r { ended = true }) more ended ≡ later r [] true
ended-later r more ended h = ap (λ l. record r { unread = l; ended = true }) (sym (append-nil r.unread)) ∙ sym (later-open r [] true h)

-- and once it has ended nothing does
over-later : (r : Reader) (more others : List ℕ) (b c : Bool) → r.ended ≡ true → later r more b ≡ later r others c
over-later r more others b c h =
    ap (λ e. if e then r else record r { unread = r.unread ++ more; ended = b }) h
    ∙ sym (ap (λ e. if e then r else record r { unread = r.unread ++ others; ended = c }) h)

abbrev pub future-by : Source → Reader → Future
future-by s l = told s.known (map (finished s.strip) (with_items s.front (lists_of (unless_over s.over s.before (reading_from s.limits s.before l)))))

fed-future : (s : Source) (piece : List ℕ) (x : Coming) → s.lexer.ended ≡ false → future (fed_with s piece) x.bytes x.ended ≡ future s (piece ++ x.bytes) x.ended
fed-future s piece x h = ap (future-by s) (fed-later s.lexer piece x.bytes x.ended h)

ended-future : (s : Source) (x : Coming) → s.lexer.ended ≡ false → future (ended_there s) x.bytes x.ended ≡ future s [] true
ended-future s x h = ap (future-by s) (ended-later s.lexer x.bytes x.ended h)

over-future : (s : Source) (x y : Coming) → s.lexer.ended ≡ true → future s x.bytes x.ended ≡ future s y.bytes y.ended
over-future s x y h = ap (future-by s) (over-later s.lexer x.bytes y.bytes x.ended y.ended h)

-- what stands behind the main document
abbrev with-document : Future → Future
with-document f = f ++ End Begun 0 ∷ []

fed-come : (ds : List Open) (piece : List ℕ) (x : Coming) → MainIsHungry ds → to_come (fed_first piece ds) x ≡ to_come ds (record x { bytes = piece ++ x.bytes })
fed-come [] piece x h = absurd h
fed-come (d ∷ ds) piece x h = ap with-document (fed-future d.source piece x h.1.unended)

end-come : (ds : List Open) (x : Coming) → MainIsHungry ds → to_come (ended_first ds) x ≡ to_come ds (record { bytes = []; ended = true })
end-come [] x h = absurd h
end-come (d ∷ ds) x h = ap with-document (ended-future d.source x h.1.unended)

pub come-first : (r : Run) (p : Piece) (x : Coming) → MainIsHungry r.documents → MayCome Main p → to_come (handed r p) x ≡ to_come r.documents (with_piece p x)
come-first r piece.Start x h m = refl
come-first r (piece.Bytes bytes) x h m = fed-come r.documents bytes.now x h
come-first r piece.End x h m = end-come r.documents x h
come-first r piece.Opened x h m = absurd m
come-first r piece.Absent x h m = refl

pub cuts-alike : More.CutsMakeNoDifference
cuts-alike [] h = refl
cuts-alike (piece.Bytes bytes ∷ ps) h = ap (λ (x : Coming). record x { bytes = bytes.now ++ x.bytes }) (cuts-alike ps h.1)
cuts-alike (piece.Start ∷ ps) h = absurd h.0
cuts-alike (piece.End ∷ ps) h = absurd h.0
cuts-alike (piece.Opened ∷ ps) h = absurd h.0
cuts-alike (piece.Absent ∷ ps) h = absurd h.0

pub ends-there : More.EndsThere
ends-there [] others h = refl
ends-there (piece.Bytes bytes ∷ ps) others h = ap (λ (x : Coming). record x { bytes = bytes.now ++ x.bytes }) (ends-there ps others h.1)
ends-there (piece.Start ∷ ps) others h = absurd h.0
ends-there (piece.End ∷ ps) others h = absurd h.0
ends-there (piece.Opened ∷ ps) others h = absurd h.0
ends-there (piece.Absent ∷ ps) others h = absurd h.0

over-come : (ds : List Open) (x y : Coming) → AreEnded ds → to_come ds x ≡ to_come ds y
over-come [] x y h = refl
over-come (d ∷ ds) x y h = ap with-document (over-future d.source x y h.0)

-- it gives what the lists that are to come say
pub by-lists : (s : Stage) (given : Given) (ds es : List Open) (m : Machine) (left : Left) (x y : Coming) → to_come ds x ≡ to_come es y → more_at s given ds m left x ≡ more_at s given es m left y
by-lists New given ds es m left x y h = ap (λ f. whole given (inner f)) h
by-lists Main given ds es m left x y h = ap (rest given m left) h
by-lists Document given ds es m left x y h = ap (rest given m left) h
by-lists (Wants name) given ds es m left x y h = ap (rest given m left) h
by-lists (Over o) given ds es m left x y h = ap (rest given m left) h

pub pieces-first : More.PiecesComeFirst
pieces-first given r p x is stands may =
    by-lists r.stage given (handed r p) r.documents r.machine r.output.left x (with_piece p x)
    (come-first r p x (subst (λ s. StandsAt s r.files r.documents) is stands) (subst (λ s. MayCome s p) is may))

pub takes-no-more : More.TakesNoMore
takes-no-more given r x y h = by-lists r.stage given r.documents r.documents r.machine r.output.left x y (over-come r.documents x y h)

pub begins-with-meaning : GoesOnByCode → HasDocument → More.BeginsWithMeaning
begins-with-meaning by_code document given m x said e =
    subst (λ tree. Ends (code given) (meaning given tree) said e ↔ Ends (flat_code given) (whole given (inner (to_come (at_start given.sheet given.limits m).documents x))) said e)
    (ap (λ f. inner (with-document f)) (document given.limits given.sheet.strip given.sheet.cdata [] x.bytes x.ended).0)
    (by_code given (meaning given (inner (to_come (at_start given.sheet given.limits m).documents x))) said e)

told-stops : (ds : List Open) → WasTold ds → StopsAt Need (inner (to_come ds nothing_yet))
told-stops [] h = absurd h
told-stops (d ∷ ds) h = stops Need d.source [] false (End Begun 0 ∷ []) h.0 h.1

pub waits-for-more : EndsAtCut → More.WaitsForMore
waits-for-more ends given r is asks h =
    subst (λ s. Same (flat_code given) (more_at s given r.documents r.machine r.output.left nothing_yet) (Halt Needs)) (sym is)
    (ends given r.machine asks r.output.left Need (to_come r.documents nothing_yet) (told-stops r.documents h))
