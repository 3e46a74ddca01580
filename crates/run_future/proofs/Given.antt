-- What is still to come of the documents that an engine reads.
use Rattle.std.proofs.Common.{◌≡◌, inl, inr, ℕ, ◌+◌, Bool, true, false, if◌then◌else◌, List, [], ◌∷◌, ◌++◌, map, reverse, Some, None, refl, sym, ap, ◌∙◌, append-nil, append_assoc}
use Rattle.stx_base.specs.Course.{Halt, Same}
use Rattle.frame_stack.specs.declared.frame.Frame.{Frame}
use Rattle.frame_stack.specs.declared.frame.Frame.TheVariants.{Source as Source_frame}
use Rattle.result_writer.specs.Target.{Left}
use Rattle.var_store.specs.Copies.{Stored}
use Rattle.xml_tokens.specs.Reader.{Reader}
use Rattle.xml_events.specs.Document.{doc_for, finished, inner, lists_of, reading_from, with_items}
use Rattle.xml_events.specs.Laws.{HasDocument}
use Rattle.xml_events.specs.Source.{Source, ended_there, fed_with, future, later, unless_over}
use Rattle.xml_events.specs.Telling.{told}
use Rattle.xml_events.specs.Tree.{Future, Need}
use Rattle.template_machine.specs.Between.{IsAsking}
use Rattle.template_machine.specs.Ending.{Needs}
use Rattle.template_machine.specs.Giving as giving
use Rattle.template_machine.specs.Giving.{RunsInOrder, StopsAt, whole}
use Rattle.template_machine.specs.Job.{Given, Opened, State, sources_open}
use Rattle.template_machine.specs.Still as still
use Rattle.template_machine.specs.Stepwise.{flat_code}
use Rattle.template_machine.specs.declared.machine.Machine.{Machine}
use Rattle.template_machine.specs.declared.program.Program.{Program}
use Rattle.template_machine.specs.declared.putting.Putting.{Putting}
use Rattle.template_machine.specs.declared.run.Doing.TheVariants as doing
use Rattle.template_machine.specs.declared.run.Run as machine
use Rattle.run_engine.specs.More as alone
use Rattle.run_engine.specs.More.{AreBytes, Coming, WasTold, joined, nothing_yet, with_piece}
use Rattle.run_engine.specs.Run.{Document, Main, MainIsHungry, MayCome, New, Open, OtherIsHungry, Over, Run, Stage, StandsAt, Wants}
use Rattle.run_engine.specs.Taking.{AreEnded, ended_first, fed_first, handed, opened_first}
use Rattle.run_engine.specs.declared.piece.Piece.{Piece}
use Rattle.run_engine.specs.declared.piece.Piece.TheVariants as piece
use Rattle.run_engine.proofs.Future.{stops}
use Rattle.run_future.specs.Laws.{DoesAsAlone, GoesNoFurther, StandsInDocument, WaitsForNodes, Waits, within}
use Rattle.run_future.specs.MoreOf as more
use Rattle.run_future.specs.MoreOf.{IsMainAlone, IsReading, ReadsMain, behind_document, document_to_come, more_at, more_of, to_come, tree_of, with_all, with_newest}
use Rattle.run_future.specs.Remaining.{ToCome, asked_at, asked_in, goes_on, ground_of, remaining, remaining_in, wanting}

-- Where the main document alone is read.

come_alone : (ds : List Open) (x : Coming) → IsMainAlone ds → (d : ToCome) × (to_come ds (x ∷ []) ≡ d ∷ []) × (d.lists ≡ alone.to_come ds x)
come_alone [] x one = absurd one
come_alone (d ∷ []) x one = (document_to_come d x, refl, ap (λ name. future d.source x.bytes x.ended ++ behind_document name) one)
come_alone (d ∷ e ∷ ds) x one = absurd one

-- before it begins, and while it asks for more of the main document
begins_alone : (s : Stage) (given : Given) (ds : List Open) (m : Machine) (left : Left) (x : Coming) → s ≡ New → IsMainAlone ds
    → more_at s given ds m left (x ∷ []) ≡ alone.more_at s given ds m left x
begins_alone s given ds m left x is one =
    let come = come_alone ds x one in
    ap (λ t. more_at t given ds m left (x ∷ [])) is
    ∙ ap (λ l. whole given (tree_of l)) come.1
    ∙ ap (λ f. whole given (inner f)) come.2
    ∙ sym (ap (λ t. alone.more_at t given ds m left x) is)

reads_alone : DoesAsAlone → (s : Stage) (given : Given) (ds : List Open) (m : Machine) (left : Left) (x : Coming) → s ≡ Main → IsAsking m → RunsInOrder m → IsMainAlone ds
    → more_at s given ds m left (x ∷ []) ≡ alone.more_at s given ds m left x
reads_alone does s given ds m left x is asks order one =
    let come = come_alone ds x one in
    ap (λ t. more_at t given ds m left (x ∷ [])) is
    ∙ ap (remaining given m left) come.1
    ∙ does given m asks order left come.0
    ∙ ap (giving.rest given m left) come.2
    ∙ sym (ap (λ t. alone.more_at t given ds m left x) is)

pub gives_as_alone : DoesAsAlone → more.GivesAsAlone
gives_as_alone does given r m left x one reads = by reads
  where
    by : ReadsMain r m → more_of given r m left (x ∷ []) ≡ alone.more_at r.stage given r.documents m left x
    by (inl new) = begins_alone r.stage given r.documents m left x new one
    by (inr main) = reads_alone does r.stage given r.documents m left x main.0 main.1 main.2 one

-- A piece comes before what is to come.

later_open : (r : Reader) (others : List ℕ) (ended : Bool) → r.ended ≡ false → later r others ended ≡ record r { unread = r.unread ++ others; ended = ended }
later_open r others ended going = ap (λ b. if b then r else record r { unread = r.unread ++ others; ended = ended }) going

fed_later : (r : Reader) (piece others : List ℕ) (ended : Bool) → r.ended ≡ false → later (record r { unread = r.unread ++ piece }) others ended ≡ later r (piece ++ others) ended
fed_later r piece others ended going =
    later_open (record r { unread = r.unread ++ piece }) others ended going ∙ ap (λ l. record r { unread = l; ended = ended }) (append_assoc r.unread piece others)
    ∙ sym (later_open r (piece ++ others) ended going)

ended_later : (r : Reader) (others : List ℕ) (ended : Bool) → r.ended ≡ false → later (record r { ended = true }) others ended ≡ later r [] true
ended_later r others ended going = ap (λ l. record r { unread = l; ended = true }) (sym (append-nil r.unread)) ∙ sym (later_open r [] true going)

-- and once it has ended nothing does
over_later : (r : Reader) (these others : List ℕ) (b c : Bool) → r.ended ≡ true → later r these b ≡ later r others c
over_later r these others b c over =
    ap (λ e. if e then r else record r { unread = r.unread ++ these; ended = b }) over
    ∙ sym (ap (λ e. if e then r else record r { unread = r.unread ++ others; ended = c }) over)

abbrev future_by : Source → Reader → Future
future_by s l = told s.known (map (finished s.strip) (with_items s.front (lists_of (unless_over s.over s.before (reading_from s.limits s.before l)))))

-- what is to come of a document, by its lists
abbrev by_lists_of : Open → Future → ToCome
by_lists_of d f = record { name = d.name; lists = f ++ behind_document d.name }

fed_document : (d : Open) (piece : List ℕ) (x : Coming) → d.source.lexer.ended ≡ false
    → document_to_come (record d { source = fed_with d.source piece }) x ≡ document_to_come d (record x { bytes = piece ++ x.bytes })
fed_document d piece x going = ap (λ l. by_lists_of d (future_by d.source l)) (fed_later d.source.lexer piece x.bytes x.ended going)

ended_document : (d : Open) (x : Coming) → d.source.lexer.ended ≡ false
    → document_to_come (record d { source = ended_there d.source }) x ≡ document_to_come d (record { bytes = []; ended = true })
ended_document d x going = ap (λ l. by_lists_of d (future_by d.source l)) (ended_later d.source.lexer x.bytes x.ended going)

over_document : (d : Open) (x y : Coming) → d.source.lexer.ended ≡ true → document_to_come d x ≡ document_to_come d y
over_document d x y over = ap (λ l. by_lists_of d (future_by d.source l)) (over_later d.source.lexer x.bytes y.bytes x.ended y.ended over)

-- the newest document goes on
abbrev IsOpenFirst : List Open → Type 0
IsOpenFirst [] = ⊥
IsOpenFirst (d ∷ ds) = d.source.lexer.ended ≡ false

-- what comes to it
abbrev IsOfNewest : Piece → Type 0
IsOfNewest (piece.Bytes bytes) = Unit {0}
IsOfNewest piece.End = Unit {0}
IsOfNewest p = ⊥

main_open : (ds : List Open) → MainIsHungry ds → IsOpenFirst ds
main_open [] hungry = absurd hungry
main_open (d ∷ ds) hungry = hungry.1.unended

other_open : (ds : List Open) → OtherIsHungry ds → IsOpenFirst ds
other_open [] hungry = absurd hungry
other_open (d ∷ ds) hungry = hungry.1.unended

first_open : (s : Stage) (files : List (List ℕ)) (ds : List Open) → IsReading s → StandsAt s files ds → IsOpenFirst ds
first_open Main files ds reading hungry = main_open ds hungry
first_open Document files ds reading hungry = other_open ds hungry
first_open s files ds reading hungry = absurd reading

of_newest : (s : Stage) (p : Piece) → IsReading s → MayCome s p → IsOfNewest p
of_newest Main (piece.Bytes bytes) reading may = tt
of_newest Main piece.End reading may = tt
of_newest Main p reading may = absurd may
of_newest Document (piece.Bytes bytes) reading may = tt
of_newest Document piece.End reading may = tt
of_newest Document p reading may = absurd may
of_newest s p reading may = absurd reading

fed_come : (ds : List Open) (piece : List ℕ) (p : Piece) (xs : List Coming) → ((x : Coming) → with_piece p x ≡ record x { bytes = piece ++ x.bytes }) → IsOpenFirst ds
    → to_come (fed_first piece ds) xs ≡ to_come ds (with_newest p xs)
fed_come [] piece p xs is going = absurd going
fed_come (d ∷ ds) piece p [] is going = ap (λ y. y ∷ to_come ds []) (fed_document d piece nothing_yet going ∙ ap (document_to_come d) (sym (is nothing_yet)))
fed_come (d ∷ ds) piece p (x ∷ xs) is going = ap (λ y. y ∷ to_come ds xs) (fed_document d piece x going ∙ ap (document_to_come d) (sym (is x)))

end_come : (ds : List Open) (xs : List Coming) → IsOpenFirst ds → to_come (ended_first ds) xs ≡ to_come ds (with_newest piece.End xs)
end_come [] xs going = absurd going
end_come (d ∷ ds) [] going = ap (λ y. y ∷ to_come ds []) (ended_document d nothing_yet going)
end_come (d ∷ ds) (x ∷ xs) going = ap (λ y. y ∷ to_come ds xs) (ended_document d x going)

come_first : (r : Run) (p : Piece) (xs : List Coming) → IsOpenFirst r.documents → IsOfNewest p → to_come (handed r p) xs ≡ to_come r.documents (with_newest p xs)
come_first r piece.Start xs going newest = absurd newest
come_first r (piece.Bytes bytes) xs going newest = fed_come r.documents bytes.now (piece.Bytes bytes) xs (λ x. refl) going
come_first r piece.End xs going newest = end_come r.documents xs going
come_first r piece.Opened xs going newest = absurd newest
come_first r piece.Absent xs going newest = absurd newest

-- it gives what is said of what is to come
by_come : (s : Stage) (given : Given) (ds es : List Open) (m : Machine) (left : Left) (xs ys : List Coming) → to_come ds xs ≡ to_come es ys
    → more_at s given ds m left xs ≡ more_at s given es m left ys
by_come New given ds es m left xs ys same = ap (λ l. whole given (tree_of l)) same
by_come Main given ds es m left xs ys same = ap (remaining given m left) same
by_come Document given ds es m left xs ys same = ap (remaining given m left) same
by_come (Wants name) given ds es m left xs ys same = ap (wanting given m left) same
by_come (Over outcome) given ds es m left xs ys same = refl

pub newest_first : more.NewestComesFirst
newest_first given r m left p xs reading stands may =
    by_come r.stage given (handed r p) r.documents m left xs (with_newest p xs)
    (come_first r p xs (first_open r.stage r.files r.documents reading stands) (of_newest r.stage p reading may))

over_come : (ds : List Open) (xs ys : List Coming) → AreEnded ds → to_come ds xs ≡ to_come ds ys
over_come [] xs ys over = refl
over_come (d ∷ ds) [] [] over = refl
over_come (d ∷ ds) [] (y ∷ ys) over = ap (λ z. z ∷ to_come ds []) (over_document d nothing_yet y over.0) ∙ ap (λ l. document_to_come d y ∷ l) (over_come ds [] ys over.1)
over_come (d ∷ ds) (x ∷ xs) [] over = ap (λ z. z ∷ to_come ds xs) (over_document d x nothing_yet over.0) ∙ ap (λ l. document_to_come d nothing_yet ∷ l) (over_come ds xs [] over.1)
over_come (d ∷ ds) (x ∷ xs) (y ∷ ys) over = ap (λ z. z ∷ to_come ds xs) (over_document d x y over.0) ∙ ap (λ l. document_to_come d y ∷ l) (over_come ds xs ys over.1)

pub takes_nothing : more.TakesNothing
takes_nothing given r m left xs ys over = by_come r.stage given r.documents r.documents m left xs ys (over_come r.documents xs ys over)

-- Cuts.

one_more : (ps : List Piece) (x : Coming) (xs : List Coming) → (y : Coming) × (with_all ps (x ∷ xs) ≡ y ∷ xs)
one_more [] x xs = (x, refl)
one_more (p ∷ ps) x xs = let there = one_more ps x xs in (with_piece p there.0, ap (with_newest p) there.1)

cuts_alike : (ps : List Piece) (x : Coming) (xs : List Coming) → AreBytes ps → with_all ps (x ∷ xs) ≡ record { bytes = joined ps ++ x.bytes; ended = x.ended } ∷ xs
cuts_alike [] x xs bytes = refl
cuts_alike (piece.Bytes first ∷ ps) x xs bytes =
    ap (with_newest (piece.Bytes first)) (cuts_alike ps x xs bytes.1)
    ∙ ap (λ l. record { bytes = l; ended = x.ended } ∷ xs) (sym (append_assoc first.now (joined ps) x.bytes))
cuts_alike (piece.Start ∷ ps) x xs bytes = absurd bytes.0
cuts_alike (piece.End ∷ ps) x xs bytes = absurd bytes.0
cuts_alike (piece.Opened ∷ ps) x xs bytes = absurd bytes.0
cuts_alike (piece.Absent ∷ ps) x xs bytes = absurd bytes.0

ends_there : (ps others : List Piece) (x : Coming) (xs : List Coming) → AreBytes ps → with_all (ps ++ piece.End ∷ others) (x ∷ xs) ≡ record { bytes = joined ps; ended = true } ∷ xs
ends_there [] others x xs bytes = ap (with_newest piece.End) (one_more others x xs).1
ends_there (piece.Bytes first ∷ ps) others x xs bytes = ap (with_newest (piece.Bytes first)) (ends_there ps others x xs bytes.1)
ends_there (piece.Start ∷ ps) others x xs bytes = absurd bytes.0
ends_there (piece.End ∷ ps) others x xs bytes = absurd bytes.0
ends_there (piece.Opened ∷ ps) others x xs bytes = absurd bytes.0
ends_there (piece.Absent ∷ ps) others x xs bytes = absurd bytes.0

pub cuts_do_not_matter : more.CutsDoNotMatter
cuts_do_not_matter ps others x xs bytes = (cuts_alike ps x xs bytes, ends_there ps others x xs bytes)

-- Nothing more is told.

nothing_told : GoesNoFurther → (given : Given) (ds : List Open) (m : Machine) (left : Left) → IsAsking m → WasTold ds → Same (flat_code given) (remaining given m left (to_come ds [])) (Halt Needs)
nothing_told stopped given [] m left asks was = absurd was
nothing_told stopped given (d ∷ ds) m left asks was =
    stopped given m asks left (document_to_come d nothing_yet) (to_come ds []) Need (stops Need d.source [] false (behind_document d.name) was.0 was.1)

pub waits_for_newest : GoesNoFurther → more.WaitsForNewest
waits_for_newest stopped given r m left reading asks was = by r.stage reading
  where
    by : (s : Stage) → IsReading s → Same (flat_code given) (more_at s given r.documents m left []) (Halt Needs)
    by Main is = nothing_told stopped given r.documents m left asks was
    by Document is = nothing_told stopped given r.documents m left asks was
    by s is = absurd is

-- Documents that are waited for.

pub opens_whole : HasDocument → more.OpensWhole
opens_whole document r name x xs is =
    ap (λ s. to_come (opened_first r s) (x ∷ xs)) is
    ∙ ap (λ f. record { name = Some name; lists = f ++ [] } ∷ to_come r.documents xs) (document r.limits r.strip r.cdata [] x.bytes x.ended).0

abbrev state_by : ℕ → Stored → Putting → Left → State
state_by fuel variables putting left = record { fuel = fuel; variables = variables; buffers = putting.buffers; result = left; targets = reverse putting.targets }

same_state : (given : Given) (p : Program) (f : Frame) (old new : machine.Run) (left : Left) → Waits f old new → still.state_of given p new left ≡ still.state_of given p old left
same_state given p f old new left waits =
    ap (λ n. state_by n new.store new.putting left) waits.fuel ∙ ap (λ s. state_by old.fuel s new.putting left) waits.store ∙ ap (λ x. state_by old.fuel old.store x left) waits.putting

pub opened_goes_on : WaitsForNodes → StandsInDocument → HasDocument → more.OpenedGoesOn
opened_goes_on nodes stands document given r m n left name x xs is waits program waiting enters tree =
    let p = m.program in
    let fs = reverse m.run.frames.frames in
    let es = to_come r.documents xs in
    let list = doc_for r.limits r.strip r.cdata x.bytes x.ended in
    let d : ToCome = record { name = Some name; lists = list ∷ [] } in
    let f = Source_frame None 0 (asked_in given p fs) in
    let g = within (Opened (Some name) (asked_at given p fs) (sources_open (ground_of given p m.run es).here.source + 1)) (list ∷ []) (ground_of given p m.run es) in
    ap (λ s. more_at s given r.documents m left xs) is
    ∙ (nodes given p fs (ground_of given p m.run es) (still.state_of given p m.run left) name waits).0 list tree
    ∙ sym
    (ap (remaining given n left) (opens_whole document r name x xs is)
    ∙ ap (λ q. remaining_in given q n.run left (d ∷ es)) program
    ∙ ap (λ h. goes_on given p n.run.doing (reverse n.run.frames.frames) h (still.state_of given p n.run left))
    (stands given p m.run n.run (asked_at given p fs) enters (ap (λ (x : Putting). x.buffers) waiting.putting) d es)
    ∙ ap (λ y. goes_on given p y (reverse n.run.frames.frames) g (still.state_of given p n.run left)) waiting.doing
    ∙ ap (λ l. goes_on given p doing.List l g (still.state_of given p n.run left)) waiting.frames
    ∙ ap (goes_on given p doing.List (f ∷ fs) g) (same_state given p f m.run n.run left waiting))

pub absent_stops : WaitsForNodes → more.AbsentStops
absent_stops nodes given r m left name xs is waits none =
    ap (λ s. more_at s given r.documents m left xs) is
    ∙ (nodes given m.program (reverse m.run.frames.frames) (ground_of given m.program m.run (to_come r.documents xs)) (still.state_of given m.program m.run left) name waits).1 none
