-- What finished lists are, and what events tell of them.
use Rattle.std.proofs.Common.{◌≡◌, ℕ, Bool, true, false, List, [], ◌∷◌, ◌++◌, Some, map, refl, sym, ap, ◌∙◌, append_assoc, append-nil}
use Rattle.std.specs.Prelude.{if◌then◌else◌}
use Rattle.stx_base.specs.declared.node.First.{First}
use Rattle.stx_base.specs.declared.node.First.TheVariants as child
use Rattle.xml_events.specs.declared.event.Event.{Event}
use Rattle.xml_events.specs.Document.{Item, Opens, finished, readied, stripped, stage_by, inner, outer, text_before, with_item, with_items}
use Rattle.xml_events.specs.inside.Fronts.{first_in, is_no_node}
use Rattle.xml_events.specs.Telling.{told, followed, start_of}
use Rattle.xml_events.specs.Tree.{Why, Mark, Fresh, Told, Stage, Waiting, Ready, Chars, CData, Comment, Pi, Element, Forest, End, Cut, Single, Nested, Future}

pub told-append : (a b : List Event) (f : Future) → told (a ++ b) f ≡ told a (told b f)
told-append [] b f = refl
told-append (e ∷ es) b f = ap (followed e) (told-append es b f)

pub with_items-append : (a b : List Item) (f : Future) → with_items (a ++ b) f ≡ with_items a (with_items b f)
with_items-append [] b f = refl
with_items-append (i ∷ is) b f = ap (with_item i) (with_items-append is b f)

-- two texts that touch are one
pub text-joined : (a b : ℕ) (s t : List ℕ) (list : Forest) → text_before a s (text_before b t list) ≡ text_before a (s ++ t) list
text-joined a b s t (Single m (Chars later more) next) = ap (λ l. Single m (Chars a l) next) (sym (append_assoc s t more))
text-joined a b [] [] (End m o) = refl
text-joined a b (c ∷ cs) [] (End m o) = ap (λ l. Single Fresh (Chars a (c ∷ l)) (End m o)) (sym (append-nil cs))
text-joined a b [] (d ∷ ds) (End m o) = refl
text-joined a b (c ∷ cs) (d ∷ ds) (End m o) = refl
text-joined a b [] [] (Cut why) = refl
text-joined a b (c ∷ cs) [] (Cut why) = refl
text-joined a b [] (d ∷ ds) (Cut why) = refl
text-joined a b (c ∷ cs) (d ∷ ds) (Cut why) = refl
text-joined a b [] [] (Single m (CData o l) next) = refl
text-joined a b [] [] (Single m (Comment o l) next) = refl
text-joined a b (c ∷ cs) [] (Single m (CData o l) next) = ap (λ k. Single Fresh (Chars a (c ∷ k)) (Single m (CData o l) next)) (sym (append-nil cs))
text-joined a b (c ∷ cs) [] (Single m (Comment o l) next) = ap (λ k. Single Fresh (Chars a (c ∷ k)) (Single m (Comment o l) next)) (sym (append-nil cs))
text-joined a b [] (d ∷ ds) (Single m (CData o l) next) = refl
text-joined a b [] (d ∷ ds) (Single m (Comment o l) next) = refl
text-joined a b (c ∷ cs) (d ∷ ds) (Single m (CData o l) next) = refl
text-joined a b (c ∷ cs) (d ∷ ds) (Single m (Comment o l) next) = refl
text-joined a b [] [] (Single m (Pi o g l) next) = refl
text-joined a b (c ∷ cs) [] (Single m (Pi o g l) next) = ap (λ k. Single Fresh (Chars a (c ∷ k)) (Single m (Pi o g l) next)) (sym (append-nil cs))
text-joined a b [] (d ∷ ds) (Single m (Pi o g l) next) = refl
text-joined a b (c ∷ cs) (d ∷ ds) (Single m (Pi o g l) next) = refl
text-joined a b [] [] (Nested m e kids next) = refl
text-joined a b (c ∷ cs) [] (Nested m e kids next) = ap (λ k. Single Fresh (Chars a (c ∷ k)) (Nested m e kids next)) (sym (append-nil cs))
text-joined a b [] (d ∷ ds) (Nested m e kids next) = refl
text-joined a b (c ∷ cs) (d ∷ ds) (Nested m e kids next) = refl

pub finished-end : (s : Bool) (m : Mark) (o : ℕ) → finished s (End m o) ≡ End Told o
finished-end true m o = refl
finished-end false m o = refl

pub finished-cut : (s : Bool) (why : Why) → finished s (Cut why) ≡ Cut why
finished-cut true why = refl
finished-cut false why = refl

pub finished-cdata : (s : Bool) (m : Mark) (o : ℕ) (text : List ℕ) (next : Forest) → finished s (Single m (CData o text) next) ≡ Single Told (CData o text) (finished s next)
finished-cdata true m o text next = refl
finished-cdata false m o text next = refl

pub finished-comment : (s : Bool) (m : Mark) (o : ℕ) (text : List ℕ) (next : Forest) → finished s (Single m (Comment o text) next) ≡ Single Told (Comment o text) (finished s next)
finished-comment true m o text next = refl
finished-comment false m o text next = refl

pub finished-pi : (s : Bool) (m : Mark) (o : ℕ) (target text : List ℕ) (next : Forest) → finished s (Single m (Pi o target text) next) ≡ Single Told (Pi o target text) (finished s next)
finished-pi true m o target text next = refl
finished-pi false m o target text next = refl

pub finished-nested : (s : Bool) (m : Stage) (e : Element) (kids next : Forest) → finished s (Nested m e kids next) ≡ Nested (stage_by (finished s kids)) e (finished s kids) (finished s next)
finished-nested true m e kids next = refl
finished-nested false m e kids next = refl

-- a text that is kept
pub finished-text : (s : Bool) (m : Mark) (o c : ℕ) (cs : List ℕ) (next : Forest) → is_no_node s (c ∷ cs) ≡ false → finished s (Single m (Chars o (c ∷ cs)) next) ≡ Single Told (Chars o (c ∷ cs)) (finished s next)
finished-text false m o c cs next h = refl
finished-text true m o c cs next h = ap (λ t. readied (if t then stripped next else Single m (Chars o (c ∷ cs)) (stripped next))) h

-- a text that is stripped
pub finished-blank : (s : Bool) (m : Mark) (o c : ℕ) (cs : List ℕ) (next : Forest) → is_no_node s (c ∷ cs) ≡ true → finished s (Single m (Chars o (c ∷ cs)) next) ≡ finished s next
finished-blank false m o c cs next h = absurd cc
finished-blank true m o c cs next h = ap (λ t. readied (if t then stripped next else Single m (Chars o (c ∷ cs)) (stripped next))) h

pub inner-finished : (s : Bool) (f : Future) → inner (map (finished s) f) ≡ finished s (inner f)
inner-finished true [] = refl
inner-finished false [] = refl
inner-finished s (list ∷ lists) = refl

pub outer-finished : (s : Bool) (f : Future) → outer (map (finished s) f) ≡ map (finished s) (outer f)
outer-finished s [] = refl
outer-finished s (list ∷ lists) = refl

module _ (s : Bool) (next : First) where
  -- a text before something else is a node
  pub text-node : (o : ℕ) (t : List ℕ) (list : Forest) → first_in list ≡ Some next → is_no_node s t ≡ false → finished s (text_before o t list) ≡ Single Told (Chars o t) (finished s list)
  text-node o [] list h n = absurd cc
  text-node o (c ∷ cs) (End m k) h n = finished-text s Fresh o c cs (End m k) n
  text-node o (c ∷ cs) (Cut why) h n = absurd cc
  text-node o (c ∷ cs) (Single m (Chars k l) more) h n = absurd cc
  text-node o (c ∷ cs) (Single m (CData k l) more) h n = finished-text s Fresh o c cs (Single m (CData k l) more) n
  text-node o (c ∷ cs) (Single m (Comment k l) more) h n = finished-text s Fresh o c cs (Single m (Comment k l) more) n
  text-node o (c ∷ cs) (Single m (Pi k g l) more) h n = finished-text s Fresh o c cs (Single m (Pi k g l) more) n
  text-node o (c ∷ cs) (Nested m e kids more) h n = finished-text s Fresh o c cs (Nested m e kids more) n

  -- or none
  pub text-none : (o : ℕ) (t : List ℕ) (list : Forest) → first_in list ≡ Some next → is_no_node s t ≡ true → finished s (text_before o t list) ≡ finished s list
  text-none o t (Cut why) h n = absurd cc
  text-none o t (Single m (Chars k l) more) h n = absurd cc
  text-none o [] (End m k) h n = refl
  text-none o [] (Single m (CData k l) more) h n = refl
  text-none o [] (Single m (Comment k l) more) h n = refl
  text-none o [] (Single m (Pi k g l) more) h n = refl
  text-none o [] (Nested m e kids more) h n = refl
  text-none o (c ∷ cs) (End m k) h n = finished-blank s Fresh o c cs (End m k) n
  text-none o (c ∷ cs) (Single m (CData k l) more) h n = finished-blank s Fresh o c cs (Single m (CData k l) more) n
  text-none o (c ∷ cs) (Single m (Comment k l) more) h n = finished-blank s Fresh o c cs (Single m (Comment k l) more) n
  text-none o (c ∷ cs) (Single m (Pi k g l) more) h n = finished-blank s Fresh o c cs (Single m (Pi k g l) more) n
  text-none o (c ∷ cs) (Nested m e kids more) h n = finished-blank s Fresh o c cs (Nested m e kids more) n

  -- what isn't cut makes its element ready, and is its first child
  pub ready-by : (list : Forest) → first_in list ≡ Some next → stage_by (finished s list) ≡ Ready next
  ready-by (End m k) h = let is : child.Nothing ≡ next = cc in ap stage_by (finished-end s m k) ∙ ap Ready is
  ready-by (Cut why) h = absurd cc
  ready-by (Single m (Chars k l) more) h = absurd cc
  ready-by (Single m (CData k l) more) h = let is : child.Chars l ≡ next = cc in ap stage_by (finished-cdata s m k l more) ∙ ap Ready is
  ready-by (Single m (Comment k l) more) h = let is : child.Other ≡ next = cc in ap stage_by (finished-comment s m k l more) ∙ ap Ready is
  ready-by (Single m (Pi k g l) more) h = let is : child.Other ≡ next = cc in ap stage_by (finished-pi s m k g l more) ∙ ap Ready is
  ready-by (Nested m e kids more) h = let is : child.Other ≡ next = cc in ap stage_by (finished-nested s m e kids more) ∙ ap Ready is

-- an element that is ready is told by its start
pub opens-told : (s : Bool) (e : Element) (first : First) (f : Future) → stage_by (inner (map (finished s) f)) ≡ Ready first → map (finished s) (with_item (Opens e) f) ≡ followed (start_of e first) (map (finished s) f)
opens-told s e first f h =
    ap (λ x. x ∷ map (finished s) (outer (outer f))) (finished-nested s Waiting e (inner f) (inner (outer f)))
    ∙ ap (λ k. Nested (stage_by k) e k (finished s (inner (outer f))) ∷ map (finished s) (outer (outer f))) (sym (inner-finished s f))
    ∙ ap (λ m. Nested m e (inner (map (finished s) f)) (finished s (inner (outer f))) ∷ map (finished s) (outer (outer f))) h
    ∙ ap (λ n. Nested (Ready first) e (inner (map (finished s) f)) n ∷ map (finished s) (outer (outer f))) (sym (ap inner (outer-finished s f) ∙ inner-finished s (outer f)))
    ∙ ap (λ l. Nested (Ready first) e (inner (map (finished s) f)) (inner (outer (map (finished s) f))) ∷ l) (sym (ap outer (outer-finished s f) ∙ outer-finished s (outer f)))
