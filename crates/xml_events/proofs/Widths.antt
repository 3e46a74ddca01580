-- How many lists are open.
use Rattle.std.proofs.Common.{◌≡◌, ◌≤◌, ◌+◌, ◌-◌, ℕ, Bool, true, false, List, [], ◌∷◌, ◌++◌, Option, Some, None, map, length, refl, arith}
use Rattle.std.specs.Prelude.{if◌then◌else◌}
use Rattle.std.proofs.lemmas.List.{length-map}
use Rattle.stx_base.specs.declared.fault.XmlKind.TheVariants.{Mismatch}
use Rattle.stx_base.specs.declared.limits.Limits.{Limits}
use Rattle.stx_base.specs.declared.node.First.{First}
use Rattle.xml_tokens.specs.declared.lexeme.Body.{Body}
use Rattle.xml_tokens.specs.declared.lexeme.Body.TheVariants as body
use Rattle.xml_events.specs.declared.event.Event.{Event}
use Rattle.xml_events.specs.declared.event.Event.TheVariants as event
use Rattle.xml_events.specs.declared.front.Front.{Front}
use Rattle.xml_events.specs.declared.front.Run.{Run}
use Rattle.xml_events.specs.declared.front.Tag.{Tag}
use Rattle.xml_events.specs.Answering.{lists_behind}
use Rattle.xml_events.specs.Before.{Before, outer_names, is_inside, is_innermost, fault_of, before_next, without_text, behind_text}
use Rattle.xml_events.specs.Document.{Says, outer, finished, with_items, items_of, Stands, text_items}
use Rattle.xml_events.specs.inside.Fronts as fronts
use Rattle.xml_events.specs.inside.Fronts.{held_of, run_of, tag_items, run_items, width, AreWide, lists_before, held_lists, IsNested, TellsFirst}
use Rattle.xml_events.specs.Telling.{told, followed}
use Rattle.xml_events.specs.Tree.{Future, CData}

outer-shorter : (f : Future) → 1 ≤ length f → length (outer f) + 1 ≡ length f
outer-shorter [] h = absurd (omega arith)
outer-shorter (list ∷ lists) h = omega arith

-- events before lists
pub told-length : (es : List Event) (f : Future) → AreWide es (length f) → 1 ≤ length f → (length (told es f) ≡ width es (length f)) × (1 ≤ width es (length f))
told-length [] f w s = (refl, s)
told-length (event.Start o name attrs decls first ∷ es) f w s =
    let r = told-length es f w.1 s in
    let two = w.0 in
    let a = outer-shorter (told es f) (omega (arith, r.0)) in
    let b = outer-shorter (outer (told es f)) (omega (arith, r.0, a)) in
    (omega (arith, r.0, a, b), omega arith)
told-length (event.End o ∷ es) f w s = let r = told-length es f w s in (omega (arith, r.0), omega arith)
told-length (event.Chars o text ∷ es) f w s = let r = told-length es f w s in let a = outer-shorter (told es f) (omega (arith, r.0)) in (omega (arith, r.0, a), r.1)
told-length (event.CData o text ∷ es) f w s = let r = told-length es f w s in let a = outer-shorter (told es f) (omega (arith, r.0)) in (omega (arith, r.0, a), r.1)
told-length (event.Comment o text ∷ es) f w s = let r = told-length es f w s in let a = outer-shorter (told es f) (omega (arith, r.0)) in (omega (arith, r.0, a), r.1)
told-length (event.Pi o target text ∷ es) f w s = let r = told-length es f w s in let a = outer-shorter (told es f) (omega (arith, r.0)) in (omega (arith, r.0, a), r.1)
told-length (event.DocumentEnd o ∷ es) f w s = let r = told-length es f w s in (omega (arith, r.0), omega arith)

pub wide-tail : (e : Event) (es : List Event) (n : ℕ) → AreWide (e ∷ es) n → AreWide es n
wide-tail (event.Start o name attrs decls first) es n w = w.1
wide-tail (event.End o) es n w = w
wide-tail (event.Chars o text) es n w = w
wide-tail (event.CData o text) es n w = w
wide-tail (event.Comment o text) es n w = w
wide-tail (event.Pi o target text) es n w = w
wide-tail (event.DocumentEnd o) es n w = w

-- the lists behind an event that is known
pub known-counts : (e : Event) (es : List Event) (f : Future) (next : Option First) → TellsFirst e next → AreWide (e ∷ es) (length f) → 1 ≤ length f →
    length (told es f) ≡ lists_behind e (length (followed e (told es f)))
known-counts (event.Start o name attrs decls first) es f next t w s =
    let r = told-length es f w.1 s in
    let two = w.0 in
    let a = outer-shorter (told es f) (omega (arith, r.0)) in
    let b = outer-shorter (outer (told es f)) (omega (arith, r.0, a)) in
    omega (arith, a, b)
known-counts (event.End o) es f next t w s = omega arith
known-counts (event.Chars o text) es f next t w s = let r = told-length es f w s in let a = outer-shorter (told es f) (omega (arith, r.0)) in omega (arith, a)
known-counts (event.CData o text) es f next t w s = let r = told-length es f w s in let a = outer-shorter (told es f) (omega (arith, r.0)) in omega (arith, a)
known-counts (event.Comment o text) es f next t w s = let r = told-length es f w s in let a = outer-shorter (told es f) (omega (arith, r.0)) in omega (arith, a)
known-counts (event.Pi o target text) es f next t w s = let r = told-length es f w s in let a = outer-shorter (told es f) (omega (arith, r.0)) in omega (arith, a)
known-counts (event.DocumentEnd o) es f next t w s = absurd t

-- what waits before lists
pub front-length : (held : Option Tag) (run : Option Run) (f : Future) → 1 ≤ length f → IsNested held (length f) → length (with_items (tag_items held ++ run_items run) f) ≡ length f - held_lists held
front-length None None f s n = omega arith
front-length None (Some run) f s n = let a = outer-shorter f s in omega (arith, a)
front-length (Some tag) None f s n =
    let two = n in
    let a = outer-shorter f s in
    let b = outer-shorter (outer f) (omega (arith, a)) in
    omega (arith, a, b)
front-length (Some tag) (Some run) f s n =
    let two = n in
    let a = outer-shorter f s in
    let b = outer-shorter (outer f) (omega (arith, a)) in
    omega (arith, a, b)

pub finished-length : (s : Bool) (f : Future) → length (map (finished s) f) ≡ length f
finished-length s f = length-map f (finished s)

wide_enough : (held : Option Tag) (n : ℕ) → 2 ≤ n → IsNested held n
wide_enough None n h = tt
wide_enough (Some tag) n h = h

-- what waits is nested, where nothing waits outside the root
pub nested-by : (x : Front) (names : List (List ℕ)) (n : ℕ) → n ≡ length names + 1 → (is_inside names ≡ false → fronts.items_of x ≡ []) → IsNested (held_of x) n
nested-by x [] n e h = by_held (held_of x) (run_of x) (h refl) where
  by_held : (held : Option Tag) (run : Option Run) → tag_items held ++ run_items run ≡ [] → IsNested held n
  by_held None run k = tt
  by_held (Some tag) run k = absurd cc
nested-by x (name ∷ names) n e h = wide_enough (held_of x) n (omega (arith, e))

module _ (limits : Limits) (b : Before) (offset : ℕ) where
  text_before-next : (text : List ℕ) (t : Bool) →
      lists_before (if t then Says offset text ∷ [] else []) (length (if t then record b { chars = b.chars + length text } else b).names + 1) ≡ length b.names + 1
  text_before-next text true = refl
  text_before-next text false = refl

  cdata_before-next : (text : List ℕ) (c : Bool) →
      lists_before (if c then Stands (CData offset text) ∷ [] else text_items b offset text) (length (if c then without_text b else behind_text b text).names + 1) ≡ length b.names + 1
  cdata_before-next text true = refl
  cdata_before-next text false = text_before-next text (is_inside b.names)

  end_before-next : (name : List ℕ) (names : List (List ℕ)) → (if is_innermost name names then None else Some Mismatch) ≡ None → length (outer_names names) + 1 + 1 ≡ length names + 1
  end_before-next name [] s = absurd cc
  end_before-next name (n ∷ ns) s = omega arith

  -- the lists before a lexeme, by those behind it
  pub items-before : (x : Body) → fault_of limits b x ≡ None → lists_before (items_of b offset x) (length (before_next b x).names + 1) ≡ length b.names + 1
  items-before (body.Chars text blank) s = text_before-next text (is_inside b.names)
  items-before (body.CData text) s = cdata_before-next text b.cdata
  items-before (body.Start name attrs true) s = omega arith
  items-before (body.Start name attrs false) s = omega arith
  items-before (body.End name) s = end_before-next name b.names s
  items-before (body.Comment text) s = refl
  items-before (body.Pi target text) s = refl
  items-before body.Doctype s = refl
  items-before body.Declaration s = refl
