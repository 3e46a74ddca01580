-- The events of what is kept are those of its nodes.
use Rattle.std.proofs.Common.{◌≡◌, ℕ, zero, suc, true, List, [], ◌∷◌, ◌++◌, refl, sym, ap, ◌∙◌, append-nil, append_assoc}
use Rattle.stx_base.specs.declared.node.First.{First}
use Rattle.stx_base.specs.declared.node.First.TheVariants as first
use Rattle.xml_events.specs.Telling.{events_in, first_of, start_of}
use Rattle.xml_events.specs.Tree as tree
use Rattle.xml_events.specs.Tree.{Fresh, Waiting, Element, Forest, Cut, Single, Nested, Future}
use Rattle.xml_events.specs.declared.event.Event.{Event}
use Rattle.xml_events.specs.declared.event.Event.TheVariants as event
use Rattle.event_buffers.specs.Forest.{element_of, inner, is_balanced, lists, outer}
use Rattle.event_buffers.specs.Forest as forest
use Rattle.event_buffers.specs.Laws.{EventsTellTheForest}
use Rattle.event_buffers.specs.Told.{first_in, start, text_before, told}
use Rattle.event_buffers.specs.declared.kept.Kept.{Kept}
use Rattle.event_buffers.specs.declared.kept.Kept.TheVariants.{Start, End, Chars, CData, Comment, Pi}

-- What stands first.

data Front : Type 0 where
  Nothing : Front
  Text : List ℕ → Front
  Section : List ℕ → Front
  Other : Front
  Unknown : Front

abbrev front_of : List Event → Front
front_of [] = Nothing
front_of (event.Start offset name attrs decls child ∷ es) = Other
front_of (event.End offset ∷ es) = Nothing
front_of (event.Chars offset text ∷ es) = Text text
front_of (event.CData offset text ∷ es) = Section text
front_of (event.Comment offset text ∷ es) = Other
front_of (event.Pi offset target text ∷ es) = Other
front_of (event.DocumentEnd offset ∷ es) = Nothing

abbrev front_in : Forest → Front
front_in (tree.End mark offset) = Nothing
front_in (Cut why) = Unknown
front_in (Single mark (tree.Chars offset text) next) = Text text
front_in (Single mark (tree.CData offset text) next) = Section text
front_in (Single mark (tree.Comment offset text) next) = Other
front_in (Single mark (tree.Pi offset target text) next) = Other
front_in (Nested stage element kids next) = Other

abbrev child : Front → First
child Nothing = first.Nothing
child (Text text) = first.Chars text
child (Section text) = first.Chars text
child Other = first.Other
child Unknown = first.Nothing

first_front : (es : List Event) → first_in es ≡ child (front_of es)
first_front [] = refl
first_front (event.Start offset name attrs decls c ∷ es) = refl
first_front (event.End offset ∷ es) = refl
first_front (event.Chars offset text ∷ es) = refl
first_front (event.CData offset text ∷ es) = refl
first_front (event.Comment offset text ∷ es) = refl
first_front (event.Pi offset target text ∷ es) = refl
first_front (event.DocumentEnd offset ∷ es) = refl

kid_front : (x : Forest) → first_of x ≡ child (front_in x)
kid_front (tree.End mark offset) = refl
kid_front (Cut why) = refl
kid_front (Single mark (tree.Chars offset text) next) = refl
kid_front (Single mark (tree.CData offset text) next) = refl
kid_front (Single mark (tree.Comment offset text) next) = refl
kid_front (Single mark (tree.Pi offset target text) next) = refl
kid_front (Nested stage element kids next) = refl

abbrev joined : List ℕ → Front → Front
joined [] f = f
joined (c ∷ cs) Nothing = Text (c ∷ cs)
joined (c ∷ cs) (Text more) = Text (c ∷ cs ++ more)
joined (c ∷ cs) (Section more) = Text (c ∷ cs)
joined (c ∷ cs) Other = Text (c ∷ cs)
joined (c ∷ cs) Unknown = Text (c ∷ cs)

joined_of : (text : List ℕ) (es : List Event) → front_of (text_before text es) ≡ joined text (front_of es)
joined_of [] es = refl
joined_of (c ∷ cs) [] = refl
joined_of (c ∷ cs) (event.Start offset name attrs decls k ∷ es) = refl
joined_of (c ∷ cs) (event.End offset ∷ es) = refl
joined_of (c ∷ cs) (event.Chars offset text ∷ es) = refl
joined_of (c ∷ cs) (event.CData offset text ∷ es) = refl
joined_of (c ∷ cs) (event.Comment offset text ∷ es) = refl
joined_of (c ∷ cs) (event.Pi offset target text ∷ es) = refl
joined_of (c ∷ cs) (event.DocumentEnd offset ∷ es) = refl

joined_in : (text : List ℕ) (x : Forest) → front_in (forest.text_before text x) ≡ joined text (front_in x)
joined_in [] x = refl
joined_in (c ∷ cs) (tree.End mark offset) = refl
joined_in (c ∷ cs) (Cut why) = refl
joined_in (c ∷ cs) (Single mark (tree.Chars offset text) next) = refl
joined_in (c ∷ cs) (Single mark (tree.CData offset text) next) = refl
joined_in (c ∷ cs) (Single mark (tree.Comment offset text) next) = refl
joined_in (c ∷ cs) (Single mark (tree.Pi offset target text) next) = refl
joined_in (c ∷ cs) (Nested stage element kids next) = refl

-- one stands first in the events and in the nodes
fronts : (ks : List Kept) → front_of (told ks) ≡ front_in (inner (lists ks))
fronts [] = refl
fronts (Start tag ∷ ks) = refl
fronts (End ∷ ks) = refl
fronts (Chars text ∷ ks) = joined_of text (told ks) ∙ ap (joined text) (fronts ks) ∙ sym (joined_in text (inner (lists ks)))
fronts (CData text ∷ ks) = refl
fronts (Comment text ∷ ks) = refl
fronts (Pi target text ∷ ks) = refl

kids : (ks : List Kept) → first_of (inner (lists ks)) ≡ first_in (told ks)
kids ks = kid_front (inner (lists ks)) ∙ ap child (sym (fronts ks)) ∙ sym (first_front (told ks))

is_known : (es : List Event) → front_of es ≡ Unknown → ⊥
is_known [] h = cc
is_known (event.Start offset name attrs decls c ∷ es) h = cc
is_known (event.End offset ∷ es) h = cc
is_known (event.Chars offset text ∷ es) h = cc
is_known (event.CData offset text ∷ es) h = cc
is_known (event.Comment offset text ∷ es) h = cc
is_known (event.Pi offset target text ∷ es) h = cc
is_known (event.DocumentEnd offset ∷ es) h = cc

-- Events of lists.

nested : (end : ℕ → Event) (e : Element) (x next : Forest) → (front_in x ≡ Unknown → ⊥)
    → events_in end (Nested Waiting e x next) ≡ start_of e (first_of x) ∷ (events_in event.End x ++ events_in end next)
nested end e (tree.End mark offset) next h = refl
nested end e (Cut why) next h = absurd (h refl)
nested end e (Single mark leaf more) next h = refl
nested end e (Nested stage element more others) next h = refl

-- the list of the document ends with this, and each other one with an element's end
abbrev end_at : ℕ → (ℕ → Event) → ℕ → Event
end_at zero end = end
end_at (suc n) end = event.End

-- the events of the lists around the innermost one
abbrev behind : ℕ → (ℕ → Event) → Future → List Event
behind zero end f = []
behind (suc n) end f = events_in (end_at n end) (inner (outer f)) ++ behind n end (outer f)

behind_front : (n : ℕ) (end : ℕ → Event) (x : Forest) (f : Future) → behind n end (x ∷ outer f) ≡ behind n end f
behind_front zero end x f = refl
behind_front (suc n) end x f = refl

abbrev after : List Event → List Event
after [] = []
after (e ∷ es) = es

-- a text before other events
text_apart : (c : ℕ) (cs : List ℕ) (es : List Event) (f : Front) → front_of es ≡ f → ((text : List ℕ) → f ≡ Text text → ⊥)
    → text_before (c ∷ cs) es ≡ event.Chars 0 (c ∷ cs) ∷ es
text_apart c cs [] f h other = refl
text_apart c cs (event.Start offset name attrs decls k ∷ es) f h other = refl
text_apart c cs (event.End offset ∷ es) f h other = refl
text_apart c cs (event.Chars offset text ∷ es) f h other = absurd (other text (sym h))
text_apart c cs (event.CData offset text ∷ es) f h other = refl
text_apart c cs (event.Comment offset text ∷ es) f h other = refl
text_apart c cs (event.Pi offset target text ∷ es) f h other = refl
text_apart c cs (event.DocumentEnd offset ∷ es) f h other = refl

-- a text that joins another
text_joined : (c : ℕ) (cs more : List ℕ) (es rest tail : List Event) → front_of es ≡ Text more → rest ≡ after (es ++ tail)
    → event.Chars 0 (c ∷ cs ++ more) ∷ rest ≡ text_before (c ∷ cs) es ++ tail
text_joined c cs more [] rest tail h e = absurd cc
text_joined c cs more (event.Start offset name attrs decls k ∷ es) rest tail h e = absurd cc
text_joined c cs more (event.End offset ∷ es) rest tail h e = absurd cc
text_joined c cs more (event.Chars offset text ∷ es) rest tail h e =
    ap (λ f. event.Chars 0 (c ∷ cs ++ text_of f) ∷ rest) (sym h) ∙ ap (λ l. event.Chars 0 (c ∷ cs ++ text) ∷ l) e where
      text_of : Front → List ℕ
      text_of (Text t) = t
      text_of f = []
text_joined c cs more (event.CData offset text ∷ es) rest tail h e = absurd cc
text_joined c cs more (event.Comment offset text ∷ es) rest tail h e = absurd cc
text_joined c cs more (event.Pi offset target text ∷ es) rest tail h e = absurd cc
text_joined c cs more (event.DocumentEnd offset ∷ es) rest tail h e = absurd cc

texts : (text : List ℕ) (end : ℕ → Event) (x : Forest) (rest es tail : List Event) → events_in end x ++ rest ≡ es ++ tail → front_of es ≡ front_in x
    → events_in end (forest.text_before text x) ++ rest ≡ text_before text es ++ tail
texts [] end x rest es tail h e = h
texts (c ∷ cs) end (tree.End mark offset) rest es tail h e =
    ap (λ l. event.Chars 0 (c ∷ cs) ∷ l) h ∙ ap (λ l. l ++ tail) (sym (text_apart c cs es _ e (λ t d. cc)))
texts (c ∷ cs) end (Cut why) rest es tail h e = absurd (is_known es e)
texts (c ∷ cs) end (Single mark (tree.Chars offset more) next) rest es tail h e = text_joined c cs more es (events_in end next ++ rest) tail e (ap after h)
texts (c ∷ cs) end (Single mark (tree.CData offset more) next) rest es tail h e =
    ap (λ l. event.Chars 0 (c ∷ cs) ∷ l) h ∙ ap (λ l. l ++ tail) (sym (text_apart c cs es _ e (λ t d. cc)))
texts (c ∷ cs) end (Single mark (tree.Comment offset more) next) rest es tail h e =
    ap (λ l. event.Chars 0 (c ∷ cs) ∷ l) h ∙ ap (λ l. l ++ tail) (sym (text_apart c cs es _ e (λ t d. cc)))
texts (c ∷ cs) end (Single mark (tree.Pi offset target more) next) rest es tail h e =
    ap (λ l. event.Chars 0 (c ∷ cs) ∷ l) h ∙ ap (λ l. l ++ tail) (sym (text_apart c cs es _ e (λ t d. cc)))
texts (c ∷ cs) end (Nested stage element more next) rest es tail h e =
    ap (λ l. event.Chars 0 (c ∷ cs) ∷ l) h ∙ ap (λ l. l ++ tail) (sym (text_apart c cs es _ e (λ t d. cc)))

tells : (ks : List Kept) (n : ℕ) (end : ℕ → Event) → is_balanced ks n ≡ true
    → events_in (end_at n end) (inner (lists ks)) ++ behind n end (lists ks) ≡ told ks ++ end 0 ∷ []
tells [] zero end h = refl
tells [] (suc n) end h = absurd cc
tells (Start tag ∷ ks) n end h =
    let f = lists ks in
    let a = events_in event.End (inner f) in
    let b = events_in (end_at n end) (inner (outer f)) in
    let known : front_in (inner f) ≡ Unknown → ⊥ = λ u. is_known (told ks) (fronts ks ∙ u) in
    ap (λ l. l ++ behind n end (Nested Waiting (element_of tag) (inner f) (inner (outer f)) ∷ outer (outer f)))
    (nested (end_at n end) (element_of tag) (inner f) (inner (outer f)) known)
    ∙ ap (λ l. start tag (first_of (inner f)) ∷ ((a ++ b) ++ l)) (behind_front n end _ (outer f))
    ∙ ap (λ l. start tag (first_of (inner f)) ∷ l) (append_assoc a b (behind n end (outer f)))
    ∙ ap (λ l. start tag (first_of (inner f)) ∷ l) (tells ks (suc n) end h)
    ∙ ap (λ k. start tag k ∷ (told ks ++ end 0 ∷ [])) (kids ks)
tells (End ∷ ks) zero end h = absurd cc
tells (End ∷ ks) (suc n) end h = ap (λ l. event.End 0 ∷ l) (tells ks n end h)
tells (Chars text ∷ ks) n end h =
    let f = lists ks in
    ap (λ l. events_in (end_at n end) (forest.text_before text (inner f)) ++ l) (behind_front n end _ f)
    ∙ texts text (end_at n end) (inner f) (behind n end f) (told ks) (end 0 ∷ []) (tells ks n end h) (fronts ks)
tells (CData text ∷ ks) n end h =
    let f = lists ks in
    ap (λ l. event.CData 0 text ∷ (events_in (end_at n end) (inner f) ++ l)) (behind_front n end _ f) ∙ ap (λ l. event.CData 0 text ∷ l) (tells ks n end h)
tells (Comment text ∷ ks) n end h =
    let f = lists ks in
    ap (λ l. event.Comment 0 text ∷ (events_in (end_at n end) (inner f) ++ l)) (behind_front n end _ f) ∙ ap (λ l. event.Comment 0 text ∷ l) (tells ks n end h)
tells (Pi target text ∷ ks) n end h =
    let f = lists ks in
    ap (λ l. event.Pi 0 target text ∷ (events_in (end_at n end) (inner f) ++ l)) (behind_front n end _ f) ∙ ap (λ l. event.Pi 0 target text ∷ l) (tells ks n end h)

pub events_tell_the_forest : EventsTellTheForest
events_tell_the_forest ks end h = sym (append-nil (events_in end (inner (lists ks)))) ∙ tells ks 0 end h
