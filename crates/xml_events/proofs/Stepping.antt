-- What a reader's steps make of what is to come.
use Rattle.std.proofs.Common.{◌≡◌, ◌<◌, ◌≤◌, ◌^◌, ◌+◌, ◌-◌, ℕ, Bool, true, false, cond, List, [], ◌∷◌, ◌++◌, Option, Some, None, map, length, refl, sym, ap, ◌∙◌, subst, arith}
use Rattle.std.specs.Prelude.{if◌then◌else◌, not, ◌&&◌}
use Rattle.std.proofs.lemmas.List.{length-reverse}
use Rattle.stx_base.specs.declared.fault.XmlFault.{XmlFault}
use Rattle.stx_base.specs.declared.fault.XmlKind.TheVariants.{Truncated}
use Rattle.stx_base.specs.declared.limits.Limits.{Limits}
use Rattle.xml_tokens.specs.Reader.{Reader, due, after, fed}
use Rattle.xml_tokens.specs.declared.lexeme.Body.{Body}
use Rattle.xml_tokens.specs.declared.lexeme.Body.TheVariants as body
use Rattle.xml_tokens.specs.declared.lexeme.Ending.{Ending}
use Rattle.xml_tokens.specs.declared.lexeme.Ending.TheVariants as ending
use Rattle.xml_tokens.specs.declared.lexeme.Lexeme.{Lexeme}
use Rattle.xml_tokens.specs.declared.lexeme.Step.TheVariants as step
use Rattle.xml_tokens.proofs.BoundLemmas.{few-unread}
use Rattle.xml_tokens.proofs.ReaderLemmas.{after-need}
use Rattle.xml_tokens.proofs.RunLemmas.{after-fresh, with_rest}
use Rattle.xml_events.specs.declared.event.Event.{Event}
use Rattle.xml_events.specs.declared.event.Event.TheVariants as event
use Rattle.xml_events.specs.declared.event.Pull.{Pull}
use Rattle.xml_events.specs.declared.event.Pull.TheVariants as pull
use Rattle.xml_events.specs.declared.front.Front.{Front}
use Rattle.xml_events.specs.declared.front.Run.{Run}
use Rattle.xml_events.specs.declared.front.Tag.{Tag}
use Rattle.xml_events.specs.declared.reader.Core.{Core}
use Rattle.xml_events.specs.declared.reader.Turn.{Turn}
use Rattle.xml_events.specs.declared.reader.Turn.TheVariants as turn
use Rattle.xml_events.specs.Before.{Before, fault_of, before_next, is_complete, is_inside, without_text, behind_text}
use Rattle.xml_events.specs.inside.Cores.{source_of, lists_open, holds, IsReading, IsSound, IsSame, Reaches, Reads, Answers, Turns, Takes, Fails, Refuses, Receives, Ends}
use Rattle.xml_events.specs.Document.{stops, completes, cuts, at_end, judged, reading_from, lists_of, with_items, finished}
use Rattle.xml_events.specs.Document as document
use Rattle.xml_events.specs.Answering.{OverBehind, EndsWhole, lists_behind, answer_of}
use Rattle.xml_events.specs.inside.Fronts.{known_of, held_of, run_of, items_of, tag_items, run_items, shown, first_held, first_by_all, Gives, TellsFirst, TellFirst, Waits, AreWide, IsNested, held_lists, lists_before, waiting, waiting_behind}
use Rattle.xml_events.specs.Source.{later, unless_over, left, future, ends_left, IsShort, text_in}
use Rattle.xml_events.specs.inside.Taking.{before_of, names_of, items_at}
use Rattle.xml_events.specs.Telling.{told, followed, pulled, no_event}
use Rattle.xml_events.specs.Tree.{Why, Need, Bad, Fresh, Told, End, Future, CData}
use Rattle.xml_events.specs.Lexed.{lexed_from}
use Rattle.stx_base.specs.declared.node.First.{First}
use Rattle.xml_events.proofs.Counting.{reading-open}
use Rattle.xml_events.proofs.Fronts.{shown-is}
use Rattle.xml_events.proofs.Widths.{wide-tail, known-counts, front-length, finished-length, nested-by, items-before}
use Rattle.xml_events.proofs.Reading.{read-lexeme, read-last, read-need, judged-lists, cut-pulled, IsSome, items-some, finished-some, known-pulled, held-behind, read-some}
use Rattle.xml_events.proofs.Telling.{finished-end}

-- what is to come of a document that is read on
pub future-read : (c : Core) → c.over ≡ None → (more : List ℕ) (ended : Bool) →
    future (source_of c) more ended ≡ shown c.front (lists_of (reading_from c.place.limits (before_of c.place) (later c.lexer more ended)))
future-read c e more ended = ap (λ o. shown c.front (lists_of (unless_over o (before_of c.place) (reading_from c.place.limits (before_of c.place) (later c.lexer more ended))))) e

-- what is cut isn't ready
cut-shown : (x : Front) → (known_of x) ≡ [] → (why : Why) (names : List (List ℕ)) → pulled (shown x (cuts why names)) ≡ no_event why
cut-shown x none why names =
    ap (λ l. pulled (told l (map (finished x.strip) (with_items (items_of x) (cuts why names))))) none
    ∙ cut-pulled x.strip (held_of x) (run_of x) why names

-- nothing waits outside the root
module _ (old new : Front) (limits : Limits) (b : Before) (offset : ℕ) (was : is_inside b.names ≡ false → items_of old ≡ []) where
  text_outside : (text : List ℕ) (t : Bool) → is_inside b.names ≡ t → is_inside (if t then record b { chars = b.chars + length text } else b).names ≡ false →
      Waits (if t then document.Says offset text ∷ [] else []) old new → items_of new ≡ []
  text_outside text true i out w = let c = sym i ∙ out in absurd cc
  text_outside text false i out w = w ∙ was i

  cdata_outside : (text : List ℕ) (c : Bool) → is_inside (if c then without_text b else behind_text b text).names ≡ false →
      Waits (if c then document.Stands (CData offset text) ∷ [] else document.text_items b offset text) old new → items_of new ≡ []
  cdata_outside text true out w = w
  cdata_outside text false out w = text_outside text (is_inside b.names) refl out w

  pub outside-next : (x : Body) → is_inside (before_next b x).names ≡ false → Waits (document.items_of b offset x) old new → items_of new ≡ []
  outside-next (body.Chars text blank) out w = text_outside text (is_inside b.names) refl out w
  outside-next (body.CData text) out w = cdata_outside text b.cdata out w
  outside-next (body.Start name attrs true) out w = w
  outside-next (body.Start name attrs false) out w = absurd cc
  outside-next (body.End name) out w = w
  outside-next (body.Comment text) out w = w
  outside-next (body.Pi target text) out w = w
  outside-next body.Doctype out w = w ∙ was out
  outside-next body.Declaration out w = w ∙ was out

-- of a text that waits each character is counted
module _ (b : Before) (offset n : ℕ) (within : n ≤ b.chars) where
  counted_text : (text : List ℕ) (t : Bool) → waiting_behind (if t then document.Says offset text ∷ [] else []) n ≤ (if t then record b { chars = b.chars + length text } else b).chars
  counted_text text true = omega (arith, within)
  counted_text text false = within

  counted_cdata : (text : List ℕ) (c : Bool) →
      waiting_behind (if c then document.Stands (CData offset text) ∷ [] else document.text_items b offset text) n ≤ (if c then without_text b else behind_text b text).chars
  counted_cdata text true = omega arith
  counted_cdata text false = counted_text text (is_inside b.names)

  counted-next : (x : Body) → waiting_behind (document.items_of b offset x) n ≤ (before_next b x).chars
  counted-next (body.Chars text blank) = counted_text text (is_inside b.names)
  counted-next (body.CData text) = counted_cdata text b.cdata
  counted-next (body.Start name attrs true) = omega arith
  counted-next (body.Start name attrs false) = omega arith
  counted-next (body.End name) = omega arith
  counted-next (body.Comment text) = omega arith
  counted-next (body.Pi target text) = omega arith
  counted-next body.Doctype = within
  counted-next body.Declaration = within

module _ (old : Core) (reads : IsReading old) (going : old.over ≡ None) where
  -- a lexeme was taken
  pub step-taken : (mid new : Core) (l : Lexeme) → mid.place ≡ old.place → mid.front ≡ old.front → mid.over ≡ old.over → step.Lexeme l ≡ due old.lexer → mid.lexer ≡ after old.lexer (step.Lexeme l) →
      IsSame old.lexer mid.lexer → length mid.lexer.unread < length old.lexer.unread → Takes mid l new → Reads old new
  step-taken mid new l place front over d is same shorter t0 = record {
    reads = record {
      fresh = ap (λ (r : Reader). r.over) lexer ∙ after-fresh old.lexer l reads.fresh;
      limit = subst (λ (r : Reader). r.limits.input < 2 ^ 64) (sym t.lexer) (subst (λ (m : Limits). m.input < 2 ^ 64) (sym same.limits) reads.limit);
      fit = t.place.fit;
      telling = t.front.telling;
      outside = λ out.
          outside-next old.front new.front old.place.limits b l.offset reads.outside l.body (sym (ap (λ (x : Before). is_inside x.names) t.place.before) ∙ out)
          (subst (λ is. Waits is old.front new.front) (t.place.items_are l.offset) t.front.waits);
      wide = t.front.wide (length (names_of new.place) + 1) (omega arith) (nested-by old.front b.names (lists_before (items_at l.offset t.word) (length (names_of new.place) + 1)) lists reads.outside);
      counted =
          let behind : waiting (run_of new.front) ≡ waiting_behind (document.items_of b l.offset l.body) (waiting (run_of old.front)) =
          t.front.text ∙ ap (λ is. waiting_behind is (waiting (run_of old.front))) (t.place.items_are l.offset) in
          let chars : new.place.chars ≡ (before_next b l.body).chars = ap (λ (x : Before). x.chars) t.place.before in
          omega (arith, behind, chars, counted-next b l.offset (waiting (run_of old.front)) reads.counted l.body);
    };
    going = none;
    same = record {
      ended = ap (λ (r : Reader). r.ended) t.lexer ∙ same.ended;
      fed_is = ap fed t.lexer ∙ same.fed_is;
      limits = ap (λ (r : Reader). r.limits) t.lexer ∙ same.limits;
    };
    limits = t.limits;
    shorter = short;
    fewer = let few = t.front.few in let n : length new.lexer.unread < length old.lexer.unread = short in let l : ends_left new.over ≡ 1 = ap ends_left none in let k : ends_left old.over ≡ 1 = ap ends_left going in omega (arith, few, n, l, k);
    law = λ more ended. sym (law more ended);
  } where
    b : Before
    b = before_of old.place

    here : Core
    here = record old { lexer = mid.lexer }

    mid_is : mid ≡ here
    mid_is =
        ap (λ p. record mid { place = p }) place
        ∙ ap (λ f. record mid { place = old.place; front = f }) front
        ∙ ap (λ o. record mid { place = old.place; front = old.front; over = o }) over

    t : Takes here l new
    t = subst (λ m. Takes m l new) mid_is t0

    none : new.over ≡ None
    none = t.over ∙ going

    short : length new.lexer.unread < length old.lexer.unread
    short = subst (λ (r : Reader). length r.unread < length old.lexer.unread) (sym t.lexer) shorter

    lexer : new.lexer ≡ after old.lexer (step.Lexeme l)
    lexer = t.lexer ∙ is

    lists : lists_before (items_at l.offset t.word) (length (names_of new.place) + 1) ≡ length b.names + 1
    lists =
        ap (λ is. lists_before is (length (names_of new.place) + 1)) (t.place.items_are l.offset)
        ∙ ap (λ (x : Before). lists_before (document.items_of b l.offset l.body) (length x.names + 1)) t.place.before
        ∙ items-before old.place.limits b l.offset l.body t.place.sound

    law : (more : List ℕ) (ended : Bool) → future (source_of old) more ended ≡ future (source_of new) more ended
    law more ended =
        let q = later (after old.lexer (step.Lexeme l)) more ended in
        let others = reading_from old.place.limits (before_next b l.body) q in
        future-read old going more ended
        ∙ ap (λ r. shown old.front (lists_of r)) (read-lexeme old.place.limits b old.lexer more ended reads.fresh l (sym d))
        ∙ ap (shown old.front) (judged-lists (fault_of old.place.limits b l.body) b l others t.place.sound)
        ∙ ap (λ is. shown old.front (with_items is (lists_of others))) (sym (t.place.items_are l.offset))
        ∙ t.front.law (lists_of others)
        ∙ ap (λ m. shown new.front (lists_of (reading_from m (before_next b l.body) q))) (sym t.limits)
        ∙ ap (λ x. shown new.front (lists_of (reading_from new.place.limits x q))) (sym t.place.before)
        ∙ ap (λ r. shown new.front (lists_of (reading_from new.place.limits (before_of new.place) (later r more ended)))) (sym lexer)
        ∙ sym (future-read new none more ended)

  module _ (known : (known_of old.front) ≡ []) where
    -- the document has a fault
    pub step-failed : (new : Core) (q : Reader) (fault : XmlFault) →
        ((more : List ℕ) (ended : Bool) → lists_of (reading_from old.place.limits (before_of old.place) (later old.lexer more ended)) ≡ cuts (Bad fault) (names_of old.place)) →
        IsSame old.lexer q → Fails fault (record old { lexer = q }) new → (t : Turn) → t ≡ turn.Bad fault → Turns old t new
    step-failed new q fault law same f t is = subst (λ a. Turns old a new) (sym is) (record {
      sound = subst (λ o. holds o new) (sym f.over) (ap (λ (x : Front). (known_of x)) f.front ∙ known);
      same = record {
        ended = ap (λ (r : Reader). r.ended) f.lexer ∙ same.ended;
        fed_is = ap fed f.lexer ∙ same.fed_is;
        limits = ap (λ (r : Reader). r.limits) f.lexer ∙ same.limits;
      };
      limits = f.limits;
      is_answer = λ more ended. ap pulled (before more ended) ∙ cut-shown old.front known (Bad fault) (names_of old.place);
      leaves = λ more ended. behind more ended ∙ sym (before more ended);
      shrinks = tt;
      goes = ap (λ (x : Front). (known_of x)) f.front ∙ known;
      counts = tt;
      whole = tt;
      wants = λ e. absurd cc;
      keeps = λ e. absurd cc;
    }) where
      before : (more : List ℕ) (ended : Bool) → future (source_of old) more ended ≡ shown old.front (cuts (Bad fault) (names_of old.place))
      before more ended = future-read old going more ended ∙ ap (shown old.front) (law more ended)

      behind : (more : List ℕ) (ended : Bool) → future (source_of new) more ended ≡ shown old.front (cuts (Bad fault) (names_of old.place))
      behind more ended =
          ap (λ o. shown new.front (lists_of (unless_over o (before_of new.place) (reading_from new.place.limits (before_of new.place) (later new.lexer more ended))))) f.over
          ∙ ap (λ ns. shown new.front (cuts (Bad fault) ns)) f.names
          ∙ ap (λ x. shown x (cuts (Bad fault) (names_of old.place))) f.front

    -- a lexeme has a fault
    pub step-refused : (mid new : Core) (l : Lexeme) (fault : XmlFault) → mid.place ≡ old.place → mid.front ≡ old.front → mid.over ≡ old.over → step.Lexeme l ≡ due old.lexer →
        IsSame old.lexer mid.lexer → Refuses mid l fault new → Turns old (turn.Bad fault) new
    step-refused mid new l fault place front over d same r0 =
        step-failed new mid.lexer (record { kind = r.kind; offset = l.offset })
        (λ more ended.
        ap lists_of (read-lexeme old.place.limits (before_of old.place) old.lexer more ended reads.fresh l (sym d)
        ∙ ap (λ f. judged f (before_of old.place) l (reading_from old.place.limits (before_next (before_of old.place) l.body) (later (after old.lexer (step.Lexeme l)) more ended))) r.faulty))
        same r.fails (turn.Bad fault) (ap turn.Bad r.fault_is) where
          mid_is : mid ≡ record old { lexer = mid.lexer }
          mid_is =
              ap (λ p. record mid { place = p }) place
              ∙ ap (λ f. record mid { place = old.place; front = f }) front
              ∙ ap (λ o. record mid { place = old.place; front = old.front; over = o }) over

          r : Refuses (record old { lexer = mid.lexer }) l fault new
          r = subst (λ m. Refuses m l fault new) mid_is r0

    -- either of both
    pub received : (mid new : Core) (l : Lexeme) → mid.place ≡ old.place → mid.front ≡ old.front → mid.over ≡ old.over → step.Lexeme l ≡ due old.lexer → mid.lexer ≡ after old.lexer (step.Lexeme l) →
        IsSame old.lexer mid.lexer → length mid.lexer.unread < length old.lexer.unread → (t : Turn) → Receives mid l t new → Turns old t new
    received mid new l place front over d is same shorter turn.Taken r = step-taken mid new l place front over d is same shorter r
    received mid new l place front over d is same shorter (turn.Bad fault) r = step-refused mid new l fault place front over d same r
    received mid new l place front over d is same shorter turn.Memory r = tt
    received mid new l place front over d is same shorter turn.Need r = absurd r
    received mid new l place front over d is same shorter (turn.End offset) r = absurd r

    -- the lexer has a fault
    pub step-bad : (new : Core) (q : Reader) (fault : XmlFault) → step.Bad fault ≡ due old.lexer → IsSame old.lexer q → Fails fault (record old { lexer = q }) new → (t : Turn) → t ≡ turn.Bad fault → Turns old t new
    step-bad new q fault d same f t is =
        step-failed new q fault (λ more ended. ap lists_of (read-last old.place.limits (before_of old.place) old.lexer more ended reads.fresh (step.Bad fault) (λ l e. cc) (λ e. cc) (sym d))) same f t is

    -- more bytes are wanted
    short : (held : Option Tag) (run : Option Run) → IsShort (tag_items held ++ run_items run)
    short None None = tt
    short None (Some run) = tt
    short (Some tag) None = tt
    short (Some tag) (Some run) = tt

    text_of : (held : Option Tag) (run : Option Run) → text_in (tag_items held ++ run_items run) ≡ waiting run
    text_of None None = refl
    text_of None (Some run) = omega arith
    text_of (Some tag) None = refl
    text_of (Some tag) (Some run) = omega arith

    pub step-waits : (q : Reader) → step.Need ≡ due old.lexer → q ≡ after old.lexer step.Need → old.lexer.ended ≡ false → fed old.lexer ≤ old.lexer.limits.input → IsSame old.lexer q → Answers old pull.Need (record old { lexer = q })
    step-waits q d is open_ within same = subst (λ r. Answers old pull.Need (record old { lexer = r })) (sym (is ∙ after-need old.lexer)) (record {
      sound = subst (λ o. holds o old) (sym going) reads;
      same = record { ended = refl; fed_is = refl; limits = refl };
      limits = refl;
      is_answer = (
        ap pulled (future-read old going [] false ∙ ap (λ r. shown old.front (lists_of r)) (read-need old.place.limits (before_of old.place) old.lexer open_ (sym d)))
            ∙ cut-shown old.front known Need (names_of old.place),
        open_,
      );
      leaves = λ more ended. refl;
      shrinks = tt;
      goes = (going, known);
      counts = tt;
      whole = tt;
      wants = λ e. within;
      keeps = λ e. record {
        known = known;
        front = short (held_of old.front) (run_of old.front);
        text = omega (arith, text_of (held_of old.front) (run_of old.front), reads.counted, old.place.counted);
        depth = let n = length-reverse old.place.names in omega (arith, reads.fit.depth);
        scopes = reads.fit.paired ∙ sym (length-reverse old.place.names);
        unread = few-unread old.lexer reads.fresh (sym d);
      };
    })

    -- no bytes are left
    fed-ended : (more : List ℕ) (ended : Bool) → old.lexer.ended ≡ true → fed (later old.lexer more ended) ≡ fed old.lexer
    fed-ended more ended over = ap (λ t. fed (cond t old.lexer (with_rest old.lexer more ended))) over

    last-lists : (q : Reader) → step.End ≡ due old.lexer → old.lexer.ended ≡ true → IsSame old.lexer q → (t : Bool) → is_complete (before_of old.place) ≡ t → (more : List ℕ) (ended : Bool) →
        lists_of (reading_from old.place.limits (before_of old.place) (later old.lexer more ended)) ≡ lists_of (if t then completes (fed q) else stops (before_of old.place) (Bad (record { kind = Truncated; offset = fed q })))
    last-lists q d over same t whole more ended =
        ap lists_of (read-last old.place.limits (before_of old.place) old.lexer more ended reads.fresh step.End (λ l e. cc) (λ e. cc) (sym d)
        ∙ ap (λ n. at_end (before_of old.place) n step.End) (fed-ended more ended over ∙ sym same.fed_is)
        ∙ ap (λ t. if t then completes (fed q) else stops (before_of old.place) (Bad (record { kind = Truncated; offset = fed q }))) whole)

    outer_of : (rooted inside : Bool) → (rooted && not inside) ≡ true → inside ≡ false
    outer_of rooted false e = refl
    outer_of true true e = absurd cc
    outer_of false true e = absurd cc

    pub step-ends : (new : Core) (q : Reader) → step.End ≡ due old.lexer → old.lexer.ended ≡ true → IsSame old.lexer q → length q.unread ≤ length old.lexer.unread → (t : Turn) → Ends (fed q) (is_complete (before_of old.place)) (record old { lexer = q }) t new → Turns old t new
    step-ends new q d over same shorter answer ends = by_whole (is_complete (before_of old.place)) refl ends where
      by_whole : (t : Bool) → is_complete (before_of old.place) ≡ t → Ends (fed q) t (record old { lexer = q }) answer new → Turns old answer new
      by_whole false whole e = step-failed new q (record { kind = Truncated; offset = fed q }) (last-lists q d over same false whole) same e.1 answer e.0
      by_whole true whole e =
          subst (λ a. Turns old a new) (sym e.0) (subst (λ n. Answers old (pull.Event (event.DocumentEnd (fed q))) n) (sym e.1) (record {
            sound = (known, nothing);
            same = same;
            limits = refl;
            is_answer = λ more ended. ap pulled (before more ended);
            leaves = λ more ended. before more ended ∙ ap (followed (event.DocumentEnd (fed q))) (sym behind);
            shrinks = let l : ends_left old.over ≡ 1 = ap ends_left going in omega (arith, l, shorter);
            goes = λ none. refl;
            counts = λ more ended. ap length behind;
            whole = over;
            wants = λ e. absurd cc;
            keeps = λ e. absurd cc;
          })) where
            nothing : items_of old.front ≡ []
            nothing = reads.outside (outer_of old.place.rooted (is_inside (names_of old.place)) whole)

            bare : (f : Future) → shown old.front f ≡ map (finished old.front.strip) f
            bare f =
                ap (λ l. told l (map (finished old.front.strip) (with_items (items_of old.front) f))) known
                ∙ ap (λ is. map (finished old.front.strip) (with_items is f)) nothing

            before : (more : List ℕ) (ended : Bool) → future (source_of old) more ended ≡ End Told (fed q) ∷ []
            before more ended =
                future-read old going more ended ∙ ap (shown old.front) (last-lists q d over same true whole more ended)
                ∙ bare (End Fresh (fed q) ∷ [])
                ∙ ap (λ x. x ∷ []) (finished-end old.front.strip Fresh (fed q))

            behind : shown old.front [] ≡ []
            behind = bare []

  -- the event that is known first is given
  pub step-gives : (new : Front) (e : Event) → Gives old.front new e → Answers old (pull.Event e) (record old { front = new })
  step-gives new e g = record {
    sound = subst (λ o. holds o (record old { front = new })) (sym going) (record {
      fresh = reads.fresh;
      limit = reads.limit;
      fit = reads.fit;
      telling = tells.1;
      outside = λ out. items_same ∙ reads.outside out;
      wide = wide-tail e (known_of new) (length (names_of old.place) + 1 - held_lists (held_of new)) wide;
      counted = subst (λ r. waiting r ≤ old.place.chars) (sym g.run) reads.counted;
    });
    same = record { ended = refl; fed_is = refl; limits = refl };
    limits = refl;
    is_answer = λ more ended.
        let f = lists_of (left (source_of old) more ended) in
        ap pulled (law more ended)
        ∙ known-pulled e (known_of new) (first_held (held_of new)) (map (finished new.strip) (with_items (items_of new) f)) tells
        (held-behind new.strip (held_of new) (run_of new) f)
        (finished-some new.strip (with_items (items_of new) f) (items-some (items_of new) f (some more ended)));
    leaves = law;
    shrinks = let n = ap length g.known in omega (arith, n);
    goes = λ none. subst (OverBehind e) (sym none) (over_behind e (first_by_all (known_of new) (first_held (held_of new))) tells.0);
    counts = λ more ended.
        let f = lists_of (left (source_of old) more ended) in
        let n : length f ≡ length (names_of old.place) + 1 = open_lists more ended in
        let nested : IsNested (held_of new) (length f) = subst (λ h. IsNested h (length f)) (sym g.held) (nested-by old.front (names_of old.place) (length f) n reads.outside) in
        let all : length (map (finished new.strip) (with_items (items_of new) f)) ≡ length (names_of old.place) + 1 - held_lists (held_of new) =
        finished-length new.strip (with_items (items_of new) f) ∙ front-length (held_of new) (run_of new) f (omega (arith, n)) nested ∙ ap (λ k. k - held_lists (held_of new)) n in
        known-counts e (known_of new) (map (finished new.strip) (with_items (items_of new) f)) (first_by_all (known_of new) (first_held (held_of new))) tells.0
        (subst (AreWide (e ∷ (known_of new))) (sym all) wide) (omega (arith, all, few_held (held_of new) (length f) nested (omega (arith, n)), n))
        ∙ sym (ap (λ l. lists_behind e (length l)) (law more ended));
    whole = no_end e (first_by_all (known_of new) (first_held (held_of new))) tells.0;
    wants = λ k. absurd cc;
    keeps = λ k. absurd cc;
  } where
    tells : TellFirst (e ∷ (known_of new)) (first_held (held_of new))
    tells = subst (λ h. TellFirst (e ∷ (known_of new)) (first_held h)) (sym g.held) (subst (λ l. TellFirst l (first_held (held_of old.front))) g.known reads.telling)

    wide : AreWide (e ∷ (known_of new)) (length (names_of old.place) + 1 - held_lists (held_of new))
    wide = subst (λ h. AreWide (e ∷ (known_of new)) (length (names_of old.place) + 1 - held_lists h)) (sym g.held) (subst (λ l. AreWide l (lists_open old)) g.known reads.wide)

    over_behind : (e : Event) (next : Option First) → TellsFirst e next → OverBehind e None
    over_behind (event.Start o name attrs decls first) next t = refl
    over_behind (event.End o) next t = refl
    over_behind (event.Chars o text) next t = refl
    over_behind (event.CData o text) next t = refl
    over_behind (event.Comment o text) next t = refl
    over_behind (event.Pi o target text) next t = refl
    over_behind (event.DocumentEnd o) next t = absurd t

    no_end : (e : Event) (next : Option First) → TellsFirst e next → EndsWhole (source_of old) (pull.Event e)
    no_end (event.Start o name attrs decls first) next t = tt
    no_end (event.End o) next t = tt
    no_end (event.Chars o text) next t = tt
    no_end (event.CData o text) next t = tt
    no_end (event.Comment o text) next t = tt
    no_end (event.Pi o target text) next t = tt
    no_end (event.DocumentEnd o) next t = absurd t

    few_held : (held : Option Tag) (n : ℕ) → IsNested held n → 1 ≤ n → held_lists held + 1 ≤ n
    few_held None n h s = s
    few_held (Some tag) n h s = h

    open_lists : (more : List ℕ) (ended : Bool) → length (lists_of (left (source_of old) more ended)) ≡ length (names_of old.place) + 1
    open_lists more ended =
        let r = later old.lexer more ended in
        ap (λ o. length (lists_of (unless_over o (before_of old.place) (reading_from old.place.limits (before_of old.place) r)))) going
        ∙ reading-open old.place.limits (fed r) (lexed_from r).last (before_of old.place) (lexed_from r).lexemes

    items_same : items_of new ≡ items_of old.front
    items_same = ap (λ h. tag_items h ++ run_items (run_of new)) g.held ∙ ap (λ r. tag_items (held_of old.front) ++ run_items r) g.run

    some : (more : List ℕ) (ended : Bool) → IsSome (lists_of (left (source_of old) more ended))
    some more ended =
        subst (λ o. IsSome (lists_of (unless_over o (before_of old.place) (reading_from old.place.limits (before_of old.place) (later old.lexer more ended))))) (sym going)
        (read-some old.place.limits (before_of old.place) (later old.lexer more ended))

    law : (more : List ℕ) (ended : Bool) → future (source_of old) more ended ≡ followed e (future (source_of (record old { front = new })) more ended)
    law more ended =
        let f = lists_of (left (source_of old) more ended) in
        shown-is old.front new.strip (e ∷ (known_of new)) (held_of new) (run_of new) (sym g.strip) g.known (sym g.held) (sym g.run) f

-- an answer is repeated
pub step-repeats : (old : Core) (over : Ending) → old.over ≡ Some over → IsSound old → (answer : Pull) → answer ≡ answer_of over → Answers old answer old
step-repeats old over is sound answer a = subst (λ x. Answers old x old) (sym a) (by_over over is (subst (λ o. holds o old) is sound)) where
  same : IsSame old.lexer old.lexer
  same = record { ended = refl; fed_is = refl; limits = refl }

  by_over : (over : Ending) → old.over ≡ Some over → holds (Some over) old → Answers old (answer_of over) old
  by_over ending.Memory is h = record { sound = sound; same = same; limits = refl; is_answer = tt; leaves = is; shrinks = tt; goes = tt; counts = tt; whole = tt; wants = λ e. absurd cc; keeps = λ e. absurd cc }
  by_over (ending.Bad fault) is h = record {
    sound = sound;
    same = same;
    limits = refl;
    is_answer = λ more ended.
        ap (λ o. pulled (shown old.front (lists_of (unless_over o (before_of old.place) (reading_from old.place.limits (before_of old.place) (later old.lexer more ended)))))) is
        ∙ cut-shown old.front h (Bad fault) (names_of old.place);
    leaves = λ more ended. refl;
    shrinks = tt;
    goes = h;
    counts = tt;
    whole = tt;
    wants = λ e. absurd cc;
    keeps = λ e. absurd cc;
  }
  by_over ending.End is h = record {
    sound = sound;
    same = same;
    limits = refl;
    is_answer = λ more ended.
        ap (λ o. pulled (shown old.front (lists_of (unless_over o (before_of old.place) (reading_from old.place.limits (before_of old.place) (later old.lexer more ended)))))) is
        ∙ ap (λ l. pulled (told l (map (finished old.front.strip) (with_items (items_of old.front) [])))) h.0
        ∙ ap (λ is. pulled (map (finished old.front.strip) (with_items is []))) h.1;
    leaves = λ more ended. refl;
    shrinks = tt;
    goes = is;
    counts = tt;
    whole = tt;
    wants = λ e. absurd cc;
    keeps = λ e. absurd cc;
  }

-- An event that comes next where the same is to come as before came next before, too.
pub told-after : (old mid new : Core) (e : Event) → Reaches old mid → Answers mid (pull.Event e) new → Answers old (pull.Event e) new
told-after old mid new e r a = record {
  sound = a.sound;
  same = record { ended = a.same.ended ∙ r.same.ended; fed_is = a.same.fed_is ∙ r.same.fed_is; limits = a.same.limits ∙ r.same.limits };
  limits = a.limits ∙ r.limits;
  is_answer = λ more ended. ap pulled (sym (r.law more ended)) ∙ a.is_answer more ended;
  leaves = λ more ended. sym (r.law more ended) ∙ a.leaves more ended;
  shrinks = let fewer = r.fewer in let less = a.shrinks in omega (arith, fewer, less);
  goes = λ none. a.goes r.going;
  counts = λ more ended. a.counts more ended ∙ ap (λ f. lists_behind e (length f)) (r.law more ended);
  whole = whole e a.whole;
  wants = λ k. absurd cc;
  keeps = λ k. absurd cc;
} where
  whole : (x : Event) → EndsWhole (source_of mid) (pull.Event x) → EndsWhole (source_of old) (pull.Event x)
  whole (event.Start o name attrs decls first) w = tt
  whole (event.End o) w = tt
  whole (event.Chars o text) w = tt
  whole (event.CData o text) w = tt
  whole (event.Comment o text) w = tt
  whole (event.Pi o target text) w = tt
  whole (event.DocumentEnd o) w = sym r.same.ended ∙ w
