-- What is read of a lexer's next answer, and what a reader makes of it.
use Rattle.std.proofs.Common.{◌≡◌, ◌≢◌, ℕ, Bool, true, false, cond, List, [], ◌∷◌, ◌++◌, Option, Some, None, map, refl, sym, ap, ◌∙◌, subst, append-nil}
use Rattle.std.specs.Prelude.{if◌then◌else◌}
use Rattle.stx_base.specs.declared.fault.XmlKind.{XmlKind}
use Rattle.stx_base.specs.declared.fault.XmlKind.TheVariants.{Truncated}
use Rattle.stx_base.specs.declared.limits.Limits.{Limits}
use Rattle.stx_base.specs.declared.node.First.{First}
use Rattle.xml_tokens.specs.Reader.{Reader, due, after, fed}
use Rattle.xml_tokens.specs.declared.lexeme.Lexeme.{Lexeme}
use Rattle.xml_tokens.specs.declared.lexeme.Step.{Step}
use Rattle.xml_tokens.specs.declared.lexeme.Step.TheVariants as step
use Rattle.xml_tokens.proofs.AnswerLemmas.{answer-fed}
use Rattle.xml_events.specs.declared.event.Event.{Event}
use Rattle.xml_events.specs.declared.event.Event.TheVariants as event
use Rattle.xml_events.specs.declared.event.Pull.TheVariants as pull
use Rattle.xml_events.specs.declared.front.Run.{Run}
use Rattle.xml_events.specs.declared.front.Tag.{Tag}
use Rattle.xml_events.specs.Before.{Before, fault_of, before_next, is_complete}
use Rattle.xml_events.specs.Document.{Item, Opens, Closes, Says, Stands, Reading, element_at, items_of, stops, completes, cuts, at_end, judged, reading, reading_from, lists_of, with_item, with_items, text_before, inner, outer, finished, stage_by}
use Rattle.xml_events.specs.inside.Fronts.{tag_items, run_items, TellFirst, first_by_all, first_held}
use Rattle.xml_events.specs.Lexed.{lexed_from}
use Rattle.xml_events.specs.Source.{later}
use Rattle.xml_events.specs.Telling.{told, followed, pulled, no_event, start_of, start_pulled}
use Rattle.xml_events.specs.Tree.{Why, Need, Bad, Waiting, Told, Element, End, Cut, Nested, Future}
use Rattle.xml_events.proofs.Lexing.{before, from-lexeme, from-last, later-fresh, later-due, later-after}
use Rattle.xml_events.proofs.Telling.{with_items-append, finished-cut, finished-nested}

module _ (limits : Limits) (b : Before) (r : Reader) (more : List ℕ) (ended : Bool) (fresh : r.over ≡ None) where
  no_need : (l : Lexeme) → due r ≡ step.Lexeme l → due r ≢ step.Need
  no_need l d n = let e = sym d ∙ n in cc

  -- the next lexeme, and then what comes after it
  pub read-lexeme : (l : Lexeme) → due r ≡ step.Lexeme l →
      reading_from limits b (later r more ended) ≡ judged (fault_of limits b l.body) b l (reading_from limits (before_next b l.body) (later (after r (step.Lexeme l)) more ended))
  read-lexeme l d =
      let p = later r more ended in
      let q = later (after r (step.Lexeme l)) more ended in
      let there : due p ≡ step.Lexeme l = later-due r more ended fresh (no_need l d) ∙ d in
      let is : after p (step.Lexeme l) ≡ q = later-after r more ended fresh l d in
      let lexed : lexed_from p ≡ before (l ∷ []) (lexed_from q) = from-lexeme p l (later-fresh r more ended fresh) there ∙ ap (λ x. before (l ∷ []) (lexed_from x)) is in
      let same : fed p ≡ fed q = sym (answer-fed p (step.Lexeme l) (sym there)) ∙ ap fed is in
      ap (λ x. reading limits (fed p) x.last b x.lexemes) lexed
      ∙ ap (λ n. reading limits n (lexed_from q).last b (l ∷ (lexed_from q).lexemes)) same

  -- no lexeme comes any more
  pub read-last : (s : Step) → ((l : Lexeme) → s ≢ step.Lexeme l) → s ≢ step.Need → due r ≡ s → reading_from limits b (later r more ended) ≡ at_end b (fed (later r more ended)) s
  read-last s other wanted d =
      let p = later r more ended in
      ap (λ x. reading limits (fed p) x.last b x.lexemes) (from-last p s other (later-due r more ended fresh (λ n. wanted (sym d ∙ n)) ∙ d))

-- the lists of a lexeme without a fault, and what is read behind it
pub judged-lists : (f : Option XmlKind) (b : Before) (l : Lexeme) (r : Reading) → f ≡ None → lists_of (judged f b l r) ≡ with_items (items_of b l.offset l.body) (lists_of r)
judged-lists None b l r e = with_items-append (items_of b l.offset l.body) r.items r.rest
judged-lists (Some kind) b l r e = absurd cc

-- where more is wanted, nothing is read
pub read-need : (limits : Limits) (b : Before) (r : Reader) → r.ended ≡ false → due r ≡ step.Need → reading_from limits b (later r [] false) ≡ stops b Need
read-need limits b r going d =
    ap (λ q. reading_from limits b q) (same r.ended refl)
    ∙ ap (λ x. reading limits (fed r) x.last b x.lexemes) (from-last r step.Need (λ l. no l) d) where
      no : (l : Lexeme) → step.Need ≢ step.Lexeme l
      no l e = cc

      same : (t : Bool) → r.ended ≡ t → later r [] false ≡ r
      same true e = let c = sym e ∙ going in absurd cc
      same false e =
          ap (λ t. cond t r (record r { unread = r.unread ++ []; ended = false })) e
          ∙ ap (λ u. record r { unread = u; ended = false }) (append-nil r.unread)
          ∙ ap (λ t. record r { ended = t }) (sym e)

text-cut : (o : ℕ) (text : List ℕ) (why : Why) → text_before o text (Cut why) ≡ Cut why
text-cut o [] why = refl
text-cut o (c ∷ cs) why = refl

-- what waits before a cut isn't ready
pub cut-pulled : (s : Bool) (held : Option Tag) (run : Option Run) (why : Why) (names : List (List ℕ)) →
    pulled (map (finished s) (with_items (tag_items held ++ run_items run) (cuts why names))) ≡ no_event why
cut-pulled s held run why names = by_held held where
  lists : Future
  lists = map (λ name. Cut why) names

  text : with_items (run_items run) (cuts why names) ≡ Cut why ∷ lists
  text = by_run run where
    by_run : (run : Option Run) → with_items (run_items run) (cuts why names) ≡ Cut why ∷ lists
    by_run None = refl
    by_run (Some r) = ap (λ x. x ∷ lists) (text-cut r.offset r.text why)

  by_held : (held : Option Tag) → pulled (map (finished s) (with_items (tag_items held ++ run_items run) (cuts why names))) ≡ no_event why
  by_held None =
      ap (λ f. pulled (map (finished s) f)) text
      ∙ ap (λ x. pulled (x ∷ map (finished s) lists)) (finished-cut s why)
  by_held (Some tag) =
      ap (λ f. pulled (map (finished s) (with_item (Opens (element_at tag.offset tag.resolved)) f))) text
      ∙ ap (λ x. pulled (x ∷ map (finished s) (outer lists))) (finished-nested s Waiting (element_at tag.offset tag.resolved) (Cut why) (inner lists))
      ∙ ap (λ k. pulled (Nested (stage_by k) (element_at tag.offset tag.resolved) k (finished s (inner lists)) ∷ map (finished s) (outer lists))) (finished-cut s why)

-- some list is open
abbrev pub IsSome : Future → Type 0
IsSome [] = ⊥
IsSome (list ∷ lists) = Unit {0}

pub items-some : (is : List Item) (f : Future) → IsSome f → IsSome (with_items is f)
items-some [] f h = h
items-some (Opens e ∷ is) f h = tt
items-some (Closes o ∷ is) f h = tt
items-some (Says o text ∷ is) f h = tt
items-some (Stands leaf ∷ is) f h = tt

pub finished-some : (s : Bool) (f : Future) → IsSome f → IsSome (map (finished s) f)
finished-some s [] h = h
finished-some s (list ∷ lists) h = tt

told-some : (es : List Event) (f : Future) → IsSome f → IsSome (told es f)
told-some [] f h = h
told-some (event.Start o name attrs decls first ∷ es) f h = tt
told-some (event.End o ∷ es) f h = tt
told-some (event.Chars o text ∷ es) f h = tt
told-some (event.CData o text ∷ es) f h = tt
told-some (event.Comment o text ∷ es) f h = tt
told-some (event.Pi o target text ∷ es) f h = tt
told-some (event.DocumentEnd o ∷ es) f h = tt

-- what follows is told as a first child
abbrev pub Behind : Option First → Future → Type 0
Behind None f = Unit {0}
Behind (Some first) f = (e : Element) → start_pulled e (inner f) ≡ pull.Event (start_of e first)

-- so do events
behind_all : (es : List Event) (next : Option First) (f : Future) → Behind next f → Behind (first_by_all es next) (told es f)
behind_all [] next f h = h
behind_all (event.Start o name attrs decls first ∷ es) next f h = λ e. refl
behind_all (event.End o ∷ es) next f h = λ e. refl
behind_all (event.Chars o text ∷ es) next f h = λ e. refl
behind_all (event.CData o text ∷ es) next f h = λ e. refl
behind_all (event.Comment o text ∷ es) next f h = λ e. refl
behind_all (event.Pi o target text ∷ es) next f h = λ e. refl
behind_all (event.DocumentEnd o ∷ es) next f h = λ e. refl

end_pulled : (o : ℕ) (f : Future) → IsSome f → pulled (End Told o ∷ f) ≡ pull.Event (event.End o)
end_pulled o [] h = absurd h
end_pulled o (list ∷ lists) h = refl

-- the event that is known first is the one that is called for
pub known-pulled : (e : Event) (es : List Event) (next : Option First) (f : Future) → TellFirst (e ∷ es) next → Behind next f → IsSome f → pulled (followed e (told es f)) ≡ pull.Event e
known-pulled (event.Start o name attrs decls first) es next f h b some =
    subst (λ n. Behind n (told es f)) h.0 (behind_all es next f b) (record { offset = o; name = name; attrs = attrs; decls = decls })
known-pulled (event.End o) es next f h b some = end_pulled o (told es f) (told-some es f some)
known-pulled (event.Chars o text) es next f h b some = refl
known-pulled (event.CData o text) es next f h b some = refl
known-pulled (event.Comment o text) es next f h b some = refl
known-pulled (event.Pi o target text) es next f h b some = refl
known-pulled (event.DocumentEnd o) es next f h b some = absurd h.0

-- an element that waits is told so
pub held-behind : (s : Bool) (held : Option Tag) (run : Option Run) (f : Future) → Behind (first_held held) (map (finished s) (with_items (tag_items held ++ run_items run) f))
held-behind s None run f = tt
held-behind s (Some tag) run f =
    let g = with_items (run_items run) f in
    λ e. ap (start_pulled e) (finished-nested s Waiting (element_at tag.offset tag.resolved) (inner g) (inner (outer g)))

-- a reading of an open document leaves some list open
cuts-some : (b : Before) (why : Why) → IsSome (lists_of (stops b why))
cuts-some b why = tt

end-some : (b : Before) (n : ℕ) (s : Step) → IsSome (lists_of (at_end b n s))
end-some b n (step.Lexeme l) = tt
end-some b n step.Need = tt
end-some b n step.End = by_test (is_complete b) where
  by_test : (t : Bool) → IsSome (lists_of (if t then completes n else stops b (Bad (record { kind = Truncated; offset = n }))))
  by_test true = tt
  by_test false = tt
end-some b n (step.Bad fault) = tt
end-some b n step.Memory = tt

judged-some : (f : Option XmlKind) (b : Before) (l : Lexeme) (r : Reading) → IsSome (lists_of r) → IsSome (lists_of (judged f b l r))
judged-some (Some kind) b l r h = tt
judged-some None b l r h = subst IsSome (sym (judged-lists None b l r refl)) (items-some (items_of b l.offset l.body) (lists_of r) h)

reading-some : (limits : Limits) (n : ℕ) (last : Step) (b : Before) (ls : List Lexeme) → IsSome (lists_of (reading limits n last b ls))
reading-some limits n last b [] = end-some b n last
reading-some limits n last b (l ∷ ls) =
    judged-some (fault_of limits b l.body) b l (reading limits n last (before_next b l.body) ls) (reading-some limits n last (before_next b l.body) ls)

pub read-some : (limits : Limits) (b : Before) (r : Reader) → IsSome (lists_of (reading_from limits b r))
read-some limits b r = reading-some limits (fed r) (lexed_from r).last b (lexed_from r).lexemes
