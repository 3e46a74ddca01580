-- What a front makes of what it takes.
use Rattle.std.proofs.Common.{◌≡◌, ◌≢◌, ◌≤◌, ◌+◌, ◌-◌, ℕ, length, length-append, arith, Bool, true, false, List, [], ◌∷◌, ◌++◌, Option, Some, None, map, refl, sym, ap, ◌∙◌, subst, append-nil}
use Rattle.std.specs.Prelude.{if◌then◌else◌}
use Rattle.std.specs.List.{list_all}
use Rattle.stx_base.specs.Character.{is_space}
use Rattle.stx_base.specs.declared.node.First.{First}
use Rattle.stx_base.specs.declared.node.First.TheVariants as child
use Rattle.xml_events.specs.declared.event.Event.{Event}
use Rattle.xml_events.specs.declared.event.Event.TheVariants as event
use Rattle.xml_events.specs.declared.front.After.{After}
use Rattle.xml_events.specs.declared.front.After.TheVariants as after
use Rattle.xml_events.specs.declared.front.Front.{Front}
use Rattle.xml_events.specs.declared.front.Run.{Run}
use Rattle.xml_events.specs.declared.front.Tag.{Tag}
use Rattle.xml_events.specs.Document.{Opens, Closes, Says, element_at, finished, stage_by, inner, outer, with_item, with_items}
use Rattle.xml_events.specs.inside.Fronts.{run_events, after_events, held_after, IsSettled, Follows, after_items, known_of, held_of, run_of, tag_items, run_items, items_of, shown, first_in, first_by, TellsFirst, TellFirst, first_held, Pushes, is_no_node, node_in, begun, settled, Settles, IsPlain, plain_items, Waits, TakesItems, width, AreWide, lists_before, held_lists, IsNested, waiting, waiting_behind}
use Rattle.xml_events.specs.Telling.{told, followed, start_of}
use Rattle.xml_events.specs.Tree.{Fresh, Told, Ready, Chars, CData, Comment, Pi, Element, End, Single, Future}
use Rattle.xml_events.proofs.Telling.{told-append, text-joined, finished-end, finished-cdata, finished-comment, finished-pi, inner-finished, text-node, text-none, ready-by, opens-told}

-- what a front shows, by its parts
abbrev pub shown_by : (strip : Bool) → List Event → Option Tag → Option Run → Future → Future
shown_by strip known held run f = told known (map (finished strip) (with_items (tag_items held ++ run_items run) f))

pub shown-is : (x : Front) (strip : Bool) (known : List Event) (held : Option Tag) (run : Option Run) → x.strip ≡ strip → (known_of x) ≡ known → (held_of x) ≡ held → (run_of x) ≡ run →
    (f : Future) → shown x f ≡ shown_by strip known held run f
shown-is x strip known held run s k h r f =
    ap (λ b. shown_by b (known_of x) (held_of x) (run_of x) f) s
    ∙ ap (λ l. shown_by strip l (held_of x) (run_of x) f) k
    ∙ ap (λ l. shown_by strip known l (run_of x) f) h
    ∙ ap (λ l. shown_by strip known held l f) r

sub-zero : (n : ℕ) → n - 0 ≡ n
sub-zero n = omega arith

pub no-items : (x : Front) → (held_of x) ≡ None → (run_of x) ≡ None → items_of x ≡ []
no-items x h r = ap (λ t. tag_items t ++ run_items (run_of x)) h ∙ ap run_items r

-- what is known first behind an element: the text that is a node, or else what follows it
abbrev first_behind : Option Run → (next : First) → First
first_behind None next = next
first_behind (Some run) next = child.Chars run.text

module _ (s : Bool) (next : First) where
  -- the lists behind a text that is read
  text_told : (run : Option Run) (f : Future) → first_in (inner f) ≡ Some next → (o : Option Run) → node_in s run ≡ o →
      (map (finished s) (with_items (run_items run) f) ≡ told (settled None o next) (map (finished s) f))
      × (stage_by (inner (map (finished s) (with_items (run_items run) f))) ≡ Ready (first_behind o next))
  text_told None f h None e = (refl, ap stage_by (inner-finished s f) ∙ ready-by s next (inner f) h)
  text_told None f h (Some r) e = absurd cc
  text_told (Some run) [] h o e = absurd cc
  text_told (Some run) (list ∷ lists) h o e = by_node (is_no_node s run.text) refl o e where
    by_node : (t : Bool) → is_no_node s run.text ≡ t → (o : Option Run) → (if t then None else Some run) ≡ o →
        (map (finished s) (with_items (run_items (Some run)) (list ∷ lists)) ≡ told (settled None o next) (map (finished s) (list ∷ lists)))
        × (stage_by (inner (map (finished s) (with_items (run_items (Some run)) (list ∷ lists)))) ≡ Ready (first_behind o next))
    by_node true n None e =
        let same = text-none s next run.offset run.text list h n in
        (ap (λ x. x ∷ map (finished s) lists) same, ap stage_by same ∙ ready-by s next list h)
    by_node true n (Some r) e = absurd cc
    by_node false n None e = absurd cc
    by_node false n (Some r) e =
        let same = text-node s next run.offset run.text list h n in
        let is : run ≡ r = cc in (
          ap (λ x. x ∷ map (finished s) lists) same ∙ ap (λ (x : Run). Single Told (Chars x.offset x.text) (finished s list) ∷ map (finished s) lists) is,
          ap stage_by same ∙ ap (λ (x : Run). Ready (child.Chars x.text)) is,
        )

  -- the events of what is read tell the lists
  pub settled-told : (held : Option Tag) (run : Option Run) (f : Future) → first_in (inner f) ≡ Some next →
      map (finished s) (with_items (tag_items held ++ run_items run) f) ≡ told (settled held (node_in s run) next) (map (finished s) f)
  settled-told held run f h = by_held held (node_in s run) refl where
    by_held : (held : Option Tag) (o : Option Run) → node_in s run ≡ o → map (finished s) (with_items (tag_items held ++ run_items run) f) ≡ told (settled held o next) (map (finished s) f)
    by_held None o e = (text_told run f h o e).0
    by_held (Some tag) None e =
        let t = text_told run f h None e in
        opens-told s (element_at tag.offset tag.resolved) next (with_items (run_items run) f) t.1
        ∙ ap (followed (event.Start tag.offset tag.resolved.name tag.resolved.attrs tag.resolved.decls next)) t.0
    by_held (Some tag) (Some r) e =
        let t = text_told run f h (Some r) e in
        opens-told s (element_at tag.offset tag.resolved) (child.Chars r.text) (with_items (run_items run) f) t.1
        ∙ ap (followed (event.Start tag.offset tag.resolved.name tag.resolved.attrs tag.resolved.decls (child.Chars r.text))) t.0

-- they tell first children
pub settled-tells : (held : Option Tag) (run : Option Run) (next : First) → TellFirst (settled held run next) (Some next)
settled-tells None None next = tt
settled-tells (Some tag) None next = (refl, tt)
settled-tells None (Some run) next = (tt, tt)
settled-tells (Some tag) (Some run) next = (refl, (tt, tt))

-- an event follows
pub tells-append : (es : List Event) (e : Event) (behind : Option First) → TellFirst es (Some (first_by e)) → TellsFirst e behind → TellFirst (es ++ e ∷ []) behind
tells-append [] e behind h k = (k, tt)
tells-append (d ∷ []) e behind h k = (h.0, (k, tt))
tells-append (d ∷ c ∷ es) e behind h k = (h.0, tells-append (c ∷ es) e behind h.1 k)

-- a plain event
plain_by : (e : Event) (next : First) → IsPlain e next → (behind : Option First) → (first_by e ≡ next) × TellsFirst e behind
plain_by (event.End o) next h behind = (sym h, tt)
plain_by (event.CData o text) next h behind = (sym h, tt)
plain_by (event.Comment o text) next h behind = (sym h, tt)
plain_by (event.Pi o target text) next h behind = (sym h, tt)
plain_by (event.Start o name attrs decls first) next h behind = absurd h
plain_by (event.Chars o text) next h behind = absurd h
plain_by (event.DocumentEnd o) next h behind = absurd h

plain_told : (s : Bool) (e : Event) (next : First) → IsPlain e next → (f : Future) →
    (first_in (inner (with_items (plain_items e) f)) ≡ Some next) × (map (finished s) (with_items (plain_items e) f) ≡ followed e (map (finished s) f))
plain_told s (event.End o) next h f = (ap Some (sym h), ap (λ x. x ∷ map (finished s) f) (finished-end s Fresh o))
plain_told s (event.CData o text) next h f = (
  ap Some (sym h),
  ap (λ x. x ∷ map (finished s) (outer f)) (finished-cdata s Fresh o text (inner f))
      ∙ by_future f,
) where
  by_future : (f : Future) → (Single Told (CData o text) (finished s (inner f)) ∷ map (finished s) (outer f)) ≡ followed (event.CData o text) (map (finished s) f)
  by_future [] = ap (λ x. Single Told (CData o text) x ∷ []) (sym (inner-finished s []))
  by_future (list ∷ lists) = refl
plain_told s (event.Comment o text) next h f = (
  ap Some (sym h),
  ap (λ x. x ∷ map (finished s) (outer f)) (finished-comment s Fresh o text (inner f))
      ∙ by_future f,
) where
  by_future : (f : Future) → (Single Told (Comment o text) (finished s (inner f)) ∷ map (finished s) (outer f)) ≡ followed (event.Comment o text) (map (finished s) f)
  by_future [] = ap (λ x. Single Told (Comment o text) x ∷ []) (sym (inner-finished s []))
  by_future (list ∷ lists) = refl
plain_told s (event.Pi o target text) next h f = (
  ap Some (sym h),
  ap (λ x. x ∷ map (finished s) (outer f)) (finished-pi s Fresh o target text (inner f))
      ∙ by_future f,
) where
  by_future : (f : Future) → (Single Told (Pi o target text) (finished s (inner f)) ∷ map (finished s) (outer f)) ≡ followed (event.Pi o target text) (map (finished s) f)
  by_future [] = ap (λ x. Single Told (Pi o target text) x ∷ []) (sym (inner-finished s []))
  by_future (list ∷ lists) = refl
plain_told s (event.Start o name attrs decls first) next h f = absurd h
plain_told s (event.Chars o text) next h f = absurd h
plain_told s (event.DocumentEnd o) next h f = absurd h

plain_waits : (e : Event) (next : First) → IsPlain e next → (old new : Front) → items_of new ≡ [] → Waits (plain_items e) old new
plain_waits (event.End o) next h old new none = none
plain_waits (event.CData o text) next h old new none = none
plain_waits (event.Comment o text) next h old new none = none
plain_waits (event.Pi o target text) next h old new none = none
plain_waits (event.Start o name attrs decls first) next h old new none = absurd h
plain_waits (event.Chars o text) next h old new none = absurd h
plain_waits (event.DocumentEnd o) next h old new none = absurd h

module _ (old mid : Front) (next : First) (none : (known_of old) ≡ []) (settles : Settles next old mid) where
  -- what was shown of something that follows
  pub settled-shown : (f : Future) → first_in (inner f) ≡ Some next → shown old f ≡ told (known_of mid) (map (finished old.strip) f)
  settled-shown f h =
      shown-is old old.strip [] (held_of old) (run_of old) refl none refl refl f
      ∙ settled-told old.strip next (held_of old) (run_of old) f h
      ∙ ap (λ l. told l (map (finished old.strip) f)) (sym settles.known)

  pub mid-tells : TellFirst (known_of mid) (Some next)
  mid-tells = subst (λ l. TellFirst l (Some next)) (sym settles.known) (settled-tells (held_of old) (node_in old.strip (run_of old)) next)

-- they are two at most
settled-few : (held : Option Tag) (run : Option Run) (next : First) → length (settled held run next) ≤ 2
settled-few None None next = omega arith
settled-few (Some tag) None next = omega arith
settled-few None (Some run) next = omega arith
settled-few (Some tag) (Some run) next = omega arith

mid-few : (old mid : Front) (next : First) → Settles next old mid → length (known_of mid) ≤ 2
mid-few old mid next settles = subst (λ (l : List Event). length l ≤ 2) (sym settles.known) (settled-few (held_of old) (node_in old.strip (run_of old)) next)

-- what settles an element and a text is as wide as the lists behind them allow
settled-wide : (held : Option Tag) (run : Option Run) (next : First) (es : List Event) (n : ℕ) → IsNested held (width es n) → AreWide es n → AreWide (settled held run next ++ es) n
settled-wide None None next es n h w = w
settled-wide (Some tag) None next es n h w = (h, w)
settled-wide None (Some run) next es n h w = w
settled-wide (Some tag) (Some run) next es n h w = (h, w)

-- a plain event before lists
plain-wide : (e : Event) (next : First) → IsPlain e next → (n : ℕ) → (width (e ∷ []) n ≡ lists_before (plain_items e) n) × AreWide (e ∷ []) n
plain-wide (event.End o) next h n = (refl, tt)
plain-wide (event.CData o text) next h n = (refl, tt)
plain-wide (event.Comment o text) next h n = (refl, tt)
plain-wide (event.Pi o target text) next h n = (refl, tt)
plain-wide (event.Start o name attrs decls first) next h n = absurd h
plain-wide (event.Chars o text) next h n = absurd h
plain-wide (event.DocumentEnd o) next h n = absurd h

-- nothing waits behind a plain event
plain-text : (e : Event) (next : First) → IsPlain e next → (n : ℕ) → waiting_behind (plain_items e) n ≡ 0
plain-text (event.End o) next h n = refl
plain-text (event.CData o text) next h n = refl
plain-text (event.Comment o text) next h n = refl
plain-text (event.Pi o target text) next h n = refl
plain-text (event.Start o name attrs decls first) next h n = absurd h
plain-text (event.Chars o text) next h n = absurd h
plain-text (event.DocumentEnd o) next h n = absurd h

-- a plain event follows
pub takes-plain : (old mid new : Front) (next : First) (e : Event) → (known_of old) ≡ [] → Settles next old mid → Pushes (e ∷ []) mid new → IsPlain e next → TakesItems (plain_items e) old new
takes-plain old mid new next e none settles pushes plain = record {
  strip = pushes.strip ∙ settles.strip;
  telling = subst (λ l. TellFirst l (first_held (held_of new))) (sym pushes.known)
      (tells-append (known_of mid) e (first_held (held_of new)) (subst (λ n. TellFirst (known_of mid) (Some n)) (sym p.0) (mid-tells old mid next none settles)) p.1);
  few = let m = mid-few old mid next settles in let n : length (known_of new) ≡ length (known_of mid) + 1 = ap length pushes.known ∙ length-append (known_of mid) (e ∷ []) in omega (arith, m, n);
  wide = λ n some nested.
      let w = plain-wide e next plain n in
      subst (λ h. AreWide (known_of new) (n - held_lists h)) (sym (pushes.held ∙ settles.held))
      (subst (λ (l : List Event). AreWide l (n - 0)) (sym (pushes.known ∙ ap (λ l. l ++ e ∷ []) settles.known))
      (subst (λ k. AreWide (settled (held_of old) (node_in old.strip (run_of old)) next ++ e ∷ []) k) (sym (sub-zero n))
      (settled-wide (held_of old) (node_in old.strip (run_of old)) next (e ∷ []) n (subst (IsNested (held_of old)) (sym w.0) nested) w.1)));
  waits = plain_waits e next plain old new (no-items new (pushes.held ∙ settles.held) (pushes.run ∙ settles.run));
  text = ap waiting (pushes.run ∙ settles.run) ∙ sym (plain-text e next plain (waiting (run_of old)));
  law = λ f.
      let t = plain_told old.strip e next plain f in
      settled-shown old mid next none settles (with_items (plain_items e) f) t.0
      ∙ ap (told (known_of mid)) t.1
      ∙ sym (told-append (known_of mid) (e ∷ []) (map (finished old.strip) f))
      ∙ sym (shown-is new old.strip ((known_of mid) ++ e ∷ []) None None (pushes.strip ∙ settles.strip) pushes.known (pushes.held ∙ settles.held) (pushes.run ∙ settles.run) f);
} where
  p : (first_by e ≡ next) × TellsFirst e (first_held (held_of new))
  p = plain_by e next plain (first_held (held_of new))

-- a start tag is held
pub takes-open : (old mid new : Front) (tag : Tag) → (known_of old) ≡ [] → Settles child.Other old mid → new.strip ≡ mid.strip → (known_of new) ≡ (known_of mid) → (held_of new) ≡ Some tag → (run_of new) ≡ (run_of mid) →
    TakesItems (Opens (element_at tag.offset tag.resolved) ∷ []) old new
takes-open old mid new tag none settles strip known held run = record {
  strip = strip ∙ settles.strip;
  telling = subst (λ (o : Option Tag). TellFirst (known_of new) (first_held o)) (sym held) (subst (λ l. TellFirst l (Some child.Other)) (sym known) (mid-tells old mid child.Other none settles));
  few = let m = mid-few old mid child.Other settles in let n = ap length known in omega (arith, m, n);
  wide = λ n some nested.
      subst (λ h. AreWide (known_of new) (n - held_lists h)) (sym held)
      (subst (λ (l : List Event). AreWide l (n - 1)) (sym (known ∙ settles.known ∙ sym (append-nil (settled (held_of old) (node_in old.strip (run_of old)) child.Other))))
      (settled-wide (held_of old) (node_in old.strip (run_of old)) child.Other [] (n - 1) nested tt));
  waits = tt;
  text = ap waiting (run ∙ settles.run);
  law = λ f.
      settled-shown old mid child.Other none settles (with_items (Opens (element_at tag.offset tag.resolved) ∷ []) f) refl
      ∙ sym (shown-is new old.strip (known_of mid) (Some tag) None (strip ∙ settles.strip) known held (run ∙ settles.run) f);
}

-- an empty-element tag
pub takes-empty : (old mid new : Front) (tag : Tag) → (known_of old) ≡ [] → Settles child.Other old mid → Pushes (start_of (element_at tag.offset tag.resolved) child.Nothing ∷ event.End tag.offset ∷ []) mid new →
    TakesItems (Opens (element_at tag.offset tag.resolved) ∷ Closes tag.offset ∷ []) old new
takes-empty old mid new tag none settles pushes = record {
  strip = pushes.strip ∙ settles.strip;
  telling = subst (λ l. TellFirst l (first_held (held_of new))) (sym known) (tells_two (known_of mid) (mid-tells old mid child.Other none settles));
  few = let m = mid-few old mid child.Other settles in let n : length (known_of new) ≡ length (known_of mid) + 2 = ap length known ∙ length-append (known_of mid) (start_of e child.Nothing ∷ event.End tag.offset ∷ []) in omega (arith, m, n);
  wide = λ n some nested.
      let both = start_of e child.Nothing ∷ event.End tag.offset ∷ [] in
      subst (λ h. AreWide (known_of new) (n - held_lists h)) (sym (pushes.held ∙ settles.held))
      (subst (λ (l : List Event). AreWide l (n - 0)) (sym (known ∙ ap (λ l. l ++ both) settles.known))
      (subst (λ k. AreWide (settled (held_of old) (node_in old.strip (run_of old)) child.Other ++ both) k) (sym (sub-zero n))
      (settled-wide (held_of old) (node_in old.strip (run_of old)) child.Other both n nested (omega arith, tt))));
  waits = no-items new (pushes.held ∙ settles.held) (pushes.run ∙ settles.run);
  text = ap waiting (pushes.run ∙ settles.run);
  law = λ f.
      settled-shown old mid child.Other none settles (with_items (Opens e ∷ Closes tag.offset ∷ []) f) refl
      ∙ ap (told (known_of mid)) (opens-told old.strip e child.Nothing (End Fresh tag.offset ∷ f) (ap stage_by (finished-end old.strip Fresh tag.offset)))
      ∙ ap (λ x. told (known_of mid) (followed (start_of e child.Nothing) (x ∷ map (finished old.strip) f))) (finished-end old.strip Fresh tag.offset)
      ∙ sym (told-append (known_of mid) (start_of e child.Nothing ∷ event.End tag.offset ∷ []) (map (finished old.strip) f))
      ∙ sym (shown-is new old.strip ((known_of mid) ++ (start_of e child.Nothing ∷ event.End tag.offset ∷ [])) None None (pushes.strip ∙ settles.strip) known (pushes.held ∙ settles.held) (pushes.run ∙ settles.run) f);
} where
  e : Element
  e = element_at tag.offset tag.resolved

  known : (known_of new) ≡ (known_of mid) ++ (start_of e child.Nothing ∷ event.End tag.offset ∷ [])
  known = pushes.known

  tells_two : (es : List Event) → TellFirst es (Some child.Other) → TellFirst (es ++ (start_of e child.Nothing ∷ event.End tag.offset ∷ [])) (first_held (held_of new))
  tells_two [] h = (refl, (tt, tt))
  tells_two (d ∷ []) h = (h.0, (refl, (tt, tt)))
  tells_two (d ∷ c ∷ es) h = (h.0, tells_two (c ∷ es) h.1)

-- a text is held
pub takes-text : (old new : Front) (o : ℕ) (text : List ℕ) → (known_of old) ≡ [] → (run_of old) ≡ None → new.strip ≡ old.strip → (known_of new) ≡ (known_of old) → (held_of new) ≡ (held_of old) → (run : Run) → (run_of new) ≡ Some run → run.offset ≡ o → run.text ≡ text →
    TakesItems (Says o text ∷ []) old new
takes-text old new o text none no_run strip known held run is offset_is text_is = record {
  strip = strip;
  telling = subst (λ l. TellFirst l (first_held (held_of new))) (sym (known ∙ none)) tt;
  few = let n = ap length (known ∙ none) in omega (arith, n);
  wide = λ n some nested. subst (λ (l : List Event). AreWide l (n - held_lists (held_of new))) (sym (known ∙ none)) tt;
  waits = tt;
  text =
      let w : waiting (run_of new) ≡ length text = ap waiting is ∙ ap length text_is in
      let z : waiting (run_of old) ≡ 0 = ap waiting no_run in
      omega (arith, w, z);
  law = λ f.
      shown-is old old.strip [] (held_of old) None refl none refl no_run (with_items (Says o text ∷ []) f)
      ∙ same (held_of old) f
      ∙ sym (shown-is new old.strip [] (held_of old) (Some run) strip (known ∙ none) held is f);
} where
  said : (f : Future) → with_items (Says o text ∷ []) f ≡ with_items (run_items (Some run)) f
  said f = sym (ap (λ n. with_items (Says n run.text ∷ []) f) offset_is ∙ ap (λ t. with_items (Says o t ∷ []) f) text_is)

  same : (h : Option Tag) (f : Future) → shown_by old.strip [] h None (with_items (Says o text ∷ []) f) ≡ shown_by old.strip [] h (Some run) f
  same None f = ap (map (finished old.strip)) (said f)
  same (Some tag) f = ap (λ g. map (finished old.strip) (with_item (Opens (element_at tag.offset tag.resolved)) g)) (said f)

-- a text that is held goes on
pub takes-more : (old new : Front) (o : ℕ) (text : List ℕ) → (known_of old) ≡ [] → (was run : Run) → (run_of old) ≡ Some was → new.strip ≡ old.strip → (known_of new) ≡ (known_of old) → (held_of new) ≡ (held_of old) → (run_of new) ≡ Some run → run.offset ≡ was.offset → run.text ≡ was.text ++ text →
    TakesItems (Says o text ∷ []) old new
takes-more old new o text none was run was_is strip known held is offset_is text_is = record {
  strip = strip;
  telling = subst (λ l. TellFirst l (first_held (held_of new))) (sym (known ∙ none)) tt;
  few = let n = ap length (known ∙ none) in omega (arith, n);
  wide = λ n some nested. subst (λ (l : List Event). AreWide l (n - held_lists (held_of new))) (sym (known ∙ none)) tt;
  waits = tt;
  text = ap waiting is ∙ ap length text_is ∙ length-append was.text text ∙ sym (ap (λ r. waiting r + length text) was_is);
  law = λ f.
      shown-is old old.strip [] (held_of old) (Some was) refl none refl was_is (with_items (Says o text ∷ []) f)
      ∙ same (held_of old) f
      ∙ sym (shown-is new old.strip [] (held_of old) (Some run) strip (known ∙ none) held is f);
} where
  said : (f : Future) → with_items (Says was.offset was.text ∷ Says o text ∷ []) f ≡ with_items (run_items (Some run)) f
  said f =
      ap (λ x. x ∷ outer f) (text-joined was.offset o was.text text (inner f))
      ∙ sym (ap (λ n. with_items (Says n run.text ∷ []) f) offset_is ∙ ap (λ t. with_items (Says was.offset t ∷ []) f) text_is)

  same : (h : Option Tag) (f : Future) → shown_by old.strip [] h (Some was) (with_items (Says o text ∷ []) f) ≡ shown_by old.strip [] h (Some run) f
  same None f = ap (map (finished old.strip)) (said f)
  same (Some tag) f = ap (λ g. map (finished old.strip) (with_item (Opens (element_at tag.offset tag.resolved)) g)) (said f)

pub no-node-is : (strip : Bool) (text : List ℕ) (all : Bool) → strip ≡ true → text ≢ [] → all ≡ list_all is_space text → all ≡ is_no_node strip text
no-node-is strip [] all s some h = absurd (some refl)
no-node-is true (c ∷ cs) all s some h = h
no-node-is false (c ∷ cs) all s some h = absurd cc

-- What a front's fields mean.

pub unsettled-known : (x : Front) → x.settled ≡ false → known_of x ≡ []
unsettled-known x e = ap (λ t. if t then (begun x.held x.first ++ run_events x.run) ++ after_events x.after x.next else []) e

pub unsettled-held : (x : Front) → x.settled ≡ false → held_of x ≡ x.held
unsettled-held x e = ap (λ t. if t then held_after x.after x.next else x.held) e

pub unsettled-run : (x : Front) → x.settled ≡ false → run_of x ≡ x.run
unsettled-run x e = ap (λ t. if t then None else x.run) e

pub settled-known : (x : Front) → x.settled ≡ true → known_of x ≡ (begun x.held x.first ++ run_events x.run) ++ after_events x.after x.next
settled-known x e = ap (λ t. if t then (begun x.held x.first ++ run_events x.run) ++ after_events x.after x.next else []) e

pub settled-held : (x : Front) → x.settled ≡ true → held_of x ≡ held_after x.after x.next
settled-held x e = ap (λ t. if t then held_after x.after x.next else x.held) e

pub settled-run : (x : Front) → x.settled ≡ true → run_of x ≡ None
settled-run x e = ap (λ t. if t then None else x.run) e

-- what is known where nothing follows yet
abbrev alone : Front → Front
alone x = record x { after = after.Open; next = None }

-- what follows
abbrev with : Front → After → Option Tag → Front
with x a next = record x { after = a; next = next }

module _ (old set : Front) (next : First) (free : old.settled ≡ false) (s : IsSettled next old set) where
  settled-alone : Settles next old (alone set)
  settled-alone = record {
    strip = s.strip;
    known = settled-known (alone set) s.known ∙ append-nil (begun set.held set.first ++ run_events set.run) ∙ s.shows
        ∙ ap (λ h. settled h (node_in old.strip old.run) next) (sym (unsettled-held old free)) ∙ ap (λ r. settled (held_of old) (node_in old.strip r) next) (sym (unsettled-run old free));
    held = settled-held (alone set) s.known;
    run = settled-run (alone set) s.known;
  }

  module _ (a : After) (tag : Option Tag) where
    pushed : held_after a tag ≡ None → Pushes (after_events a tag) (alone set) (with set a tag)
    pushed e = record {
      strip = refl;
      known = settled-known (with set a tag) s.known ∙ ap (λ l. l ++ after_events a tag) (sym (settled-known (alone set) s.known ∙ append-nil (begun set.held set.first ++ run_events set.run)));
      held = settled-held (with set a tag) s.known ∙ e ∙ sym (settled-held (alone set) s.known);
      run = settled-run (with set a tag) s.known ∙ sym (settled-run (alone set) s.known);
    }

  pub takes-after : (a : After) → Follows a next → TakesItems (after_items a) old (with set a set.next)
  takes-after (after.End o) f = takes-plain old (alone set) (with set (after.End o) set.next) next (event.End o) (unsettled-known old free) settled-alone (pushed (after.End o) set.next refl) f
  takes-after (after.CData o text) f = takes-plain old (alone set) (with set (after.CData o text) set.next) next (event.CData o text) (unsettled-known old free) settled-alone (pushed (after.CData o text) set.next refl) f
  takes-after (after.Comment o text) f = takes-plain old (alone set) (with set (after.Comment o text) set.next) next (event.Comment o text) (unsettled-known old free) settled-alone (pushed (after.Comment o text) set.next refl) f
  takes-after (after.Pi o target text) f = takes-plain old (alone set) (with set (after.Pi o target text) set.next) next (event.Pi o target text) (unsettled-known old free) settled-alone (pushed (after.Pi o target text) set.next refl) f
  takes-after after.Open f = absurd f
  takes-after (after.Empty o) f = absurd f

module _ (old set : Front) (free : old.settled ≡ false) (s : IsSettled child.Other old set) (tag : Tag) where
  pub takes-next : TakesItems (Opens (element_at tag.offset tag.resolved) ∷ []) old (with set after.Open (Some tag))
  takes-next =
      takes-open old (alone set) (with set after.Open (Some tag)) tag (unsettled-known old free) (settled-alone old set child.Other free s) refl
      (settled-known (with set after.Open (Some tag)) s.known ∙ sym (settled-known (alone set) s.known)) (settled-held (with set after.Open (Some tag)) s.known)
      (settled-run (with set after.Open (Some tag)) s.known ∙ sym (settled-run (alone set) s.known))

  pub takes-empty-next : TakesItems (Opens (element_at tag.offset tag.resolved) ∷ Closes tag.offset ∷ []) old (with set (after.Empty tag.offset) (Some tag))
  takes-empty-next =
      takes-empty old (alone set) (with set (after.Empty tag.offset) (Some tag)) tag (unsettled-known old free) (settled-alone old set child.Other free s)
      (pushed old set child.Other free s (after.Empty tag.offset) (Some tag) refl)

-- A text that is held, where nothing else followed it.
pub says-more : (old : Front) (o : ℕ) (text : List ℕ) → old.settled ≡ false → (was run : Run) → old.run ≡ Some was → run.offset ≡ was.offset → run.text ≡ was.text ++ text →
    TakesItems (Says o text ∷ []) old (record old { run = Some run })
says-more old o text free was run is offset_is text_is =
    let new : Front = record old { run = Some run } in
    takes-more old new o text (unsettled-known old free) was run (unsettled-run old free ∙ is) refl (unsettled-known new free ∙ sym (unsettled-known old free)) (unsettled-held new free ∙ sym (unsettled-held old free)) (unsettled-run new free)
    offset_is text_is
