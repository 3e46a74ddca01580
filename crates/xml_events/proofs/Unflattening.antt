-- A cut tree is the only one with its flattening.
use Rattle.std.proofs.Common.{◌≡◌, ◌≢◌, ℕ, Bool, true, false, List, [], ◌∷◌, ◌++◌, Option, Some, None, refl, sym, ap, ◌∙◌, append_assoc, append-nil, subst}
use Rattle.std.specs.Prelude.{◌&&◌}
use Rattle.xml_events.specs.Document.{Item, Opens, Closes, Says, Stands, text_before, outer}
use Rattle.xml_events.specs.Flatten.{is_closed, flatten, IsAfterText, IsCut, IsProper, IsCutTree}
use Rattle.xml_events.specs.Tree.{Why, Need, Mark, Fresh, Leaf, Chars, CData, Comment, Pi, Element, Forest, End, Cut, Single, Nested, Future, Stage, Waiting}

module _ (why : Why) where
  -- the innermost list; one that isn't there is cut
  abbrev first_list : Future → Forest
  first_list [] = Cut why
  first_list (list ∷ lists) = list

  -- the lists that items make
  abbrev rebuilt : List Item → Future
  rebuilt [] = []
  rebuilt (Says o text ∷ is) = text_before o text (first_list (rebuilt is)) ∷ outer (rebuilt is)
  rebuilt (Opens e ∷ is) = Nested Waiting e (first_list (rebuilt is)) (first_list (outer (rebuilt is))) ∷ outer (outer (rebuilt is))
  rebuilt (Closes o ∷ is) = End Fresh o ∷ rebuilt is
  rebuilt (Stands leaf ∷ is) = Single Fresh leaf (first_list (rebuilt is)) ∷ outer (rebuilt is)

text_single : (o : ℕ) (text : List ℕ) (next : Forest) → text ≢ [] → IsAfterText next → text_before o text next ≡ Single Fresh (Chars o text) next
text_single o [] next some after = absurd (some refl)
text_single o (c ∷ cs) (End m k) some after = refl
text_single o (c ∷ cs) (Cut why) some after = absurd after
text_single o (c ∷ cs) (Single m (Chars k l) next) some after = absurd after
text_single o (c ∷ cs) (Single m (CData k l) next) some after = refl
text_single o (c ∷ cs) (Single m (Comment k l) next) some after = refl
text_single o (c ∷ cs) (Single m (Pi k g l) next) some after = refl
text_single o (c ∷ cs) (Nested m e kids next) some after = refl

both_true : (s t : Bool) → (s && t) ≡ true → (s ≡ true) × (t ≡ true)
both_true true t h = (refl, h)
both_true false t h = absurd cc

-- what is rebuilt of a list, and what of the lists around it
record Rebuilt (why : Why) (is : List Item) (x : Forest) (f : Future) : Type 0 where
  list : first_list why (rebuilt why is) ≡ x
  lists : outer (rebuilt why is) ≡ f

single_rebuilt : (why : Why) (is : List Item) (m : Mark) (o : ℕ) (text : List ℕ) (next : Forest) (f : Future) → m ≡ Fresh → text ≢ [] → IsAfterText next → Rebuilt why is next f → Rebuilt why (Says o text ∷ is) (Single m (Chars o text) next) f
single_rebuilt why is m o text next f fresh some after h = record {
  list = ap (text_before o text) h.list ∙ (text_single o text next some after ∙ ap (λ k. Single k (Chars o text) next) (sym fresh));
  lists = h.lists;
}

leaf_rebuilt : (why : Why) (is : List Item) (m : Mark) (leaf : Leaf) (next : Forest) (f : Future) → m ≡ Fresh → Rebuilt why is next f → Rebuilt why (Stands leaf ∷ is) (Single m leaf next) f
leaf_rebuilt why is m leaf next f fresh h = record {
  list = ap (Single Fresh leaf) h.list ∙ ap (λ k. Single k leaf next) (sym fresh);
  lists = h.lists;
}

-- an element whose list is rebuilt, and then what follows it
nested_rebuilt : (why : Why) (is : List Item) (m : Stage) (e : Element) (kids next : Forest) (f g : Future) → m ≡ Waiting → Rebuilt why is kids f → first_list why f ≡ next → outer f ≡ g → Rebuilt why (Opens e ∷ is) (Nested m e kids next) g
nested_rebuilt why is m e kids next f g fresh h a b = record {
  list = ap (λ k. Nested Waiting e k (first_list why (outer (rebuilt why is)))) h.list
      ∙ (ap (λ l. Nested Waiting e kids (first_list why l)) h.lists
      ∙ (ap (λ n. Nested Waiting e kids n) a ∙ ap (λ k. Nested k e kids next) (sym fresh)));
  lists = ap outer h.lists ∙ b;
}

closed_rebuilt : (why : Why) (o : Option Why) (x : Forest) → IsProper o x → is_closed x ≡ true → (js : List Item) → Rebuilt why (flatten x ++ js) x (rebuilt why js)
closed_rebuilt why o (End m k) p c js = record { list = ap (λ n. End n k) (sym p); lists = refl }
closed_rebuilt why o (Cut w) p c js = absurd cc
closed_rebuilt why o (Single m (Chars k text) next) p c js =
    single_rebuilt why (flatten next ++ js) m k text next (rebuilt why js) p.0 p.1 p.2 (closed_rebuilt why o next p.3 c js)
closed_rebuilt why o (Single m (CData k text) next) p c js =
    leaf_rebuilt why (flatten next ++ js) m (CData k text) next (rebuilt why js) p.0 (closed_rebuilt why o next p.1 c js)
closed_rebuilt why o (Single m (Comment k text) next) p c js =
    leaf_rebuilt why (flatten next ++ js) m (Comment k text) next (rebuilt why js) p.0 (closed_rebuilt why o next p.1 c js)
closed_rebuilt why o (Single m (Pi k target text) next) p c js =
    leaf_rebuilt why (flatten next ++ js) m (Pi k target text) next (rebuilt why js) p.0 (closed_rebuilt why o next p.1 c js)
closed_rebuilt why o (Nested m e kids next) p c js =
    let both = both_true (is_closed kids) (is_closed next) c in
    let rest = closed_rebuilt why o next p.2 both.1 js in
    let list = closed_rebuilt why o kids p.1 both.0 (flatten next ++ js) in
    subst (λ is. Rebuilt why (Opens e ∷ is) (Nested m e kids next) (rebuilt why js)) (sym (append_assoc (flatten kids) (flatten next) js))
    (nested_rebuilt why (flatten kids ++ (flatten next ++ js)) m e kids next (rebuilt why (flatten next ++ js)) (rebuilt why js) p.0 list rest.list rest.lists)

cut_is : (w : Why) (x : Forest) → IsCut x → IsProper (Some w) x → Cut w ≡ x
cut_is w (End m o) c p = absurd c
cut_is w (Cut v) c p = let e : v ≡ w = cc in ap Cut (sym e)
cut_is w (Single m leaf next) c p = absurd c
cut_is w (Nested m e kids next) c p = absurd c

cut_flat : (x : Forest) → IsCut x → flatten x ≡ []
cut_flat (End m o) c = absurd c
cut_flat (Cut w) c = refl
cut_flat (Single m leaf next) c = absurd c
cut_flat (Nested m e kids next) c = absurd c

open_nested : (w : Why) (m : Stage) (e : Element) (kids next : Forest) → IsProper (Some w) (Nested m e kids next) → (t : Bool) → is_closed kids ≡ t → (t && is_closed next) ≡ false →
    (is_closed kids ≡ false → Rebuilt w (flatten kids) kids []) → (is_closed next ≡ false → Rebuilt w (flatten next) next []) →
    Rebuilt w (Opens e ∷ (flatten kids ++ flatten next)) (Nested m e kids next) []
open_nested w m e kids next p true is c a b =
    let rest = b c in
    nested_rebuilt w (flatten kids ++ flatten next) m e kids next (rebuilt w (flatten next)) [] p.0
    (closed_rebuilt w (Some w) kids p.1 is (flatten next)) rest.list rest.lists
open_nested w m e kids next p false is c a b =
    subst (λ js. Rebuilt w (Opens e ∷ js) (Nested m e kids next) []) (sym (ap (λ l. flatten kids ++ l) (cut_flat next (p.3 is)) ∙ append-nil (flatten kids)))
    (nested_rebuilt w (flatten kids) m e kids next [] [] p.0 (a is) (cut_is w next (p.3 is) p.2) refl)

open_rebuilt : (w : Why) (x : Forest) → IsProper (Some w) x → is_closed x ≡ false → Rebuilt w (flatten x) x []
open_rebuilt w (End m o) p c = absurd cc
open_rebuilt w (Cut v) p c = record { list = cut_is w (Cut v) tt p; lists = refl }
open_rebuilt w (Single m (Chars o text) next) p c = single_rebuilt w (flatten next) m o text next [] p.0 p.1 p.2 (open_rebuilt w next p.3 c)
open_rebuilt w (Single m (CData o text) next) p c = leaf_rebuilt w (flatten next) m (CData o text) next [] p.0 (open_rebuilt w next p.1 c)
open_rebuilt w (Single m (Comment o text) next) p c = leaf_rebuilt w (flatten next) m (Comment o text) next [] p.0 (open_rebuilt w next p.1 c)
open_rebuilt w (Single m (Pi o target text) next) p c = leaf_rebuilt w (flatten next) m (Pi o target text) next [] p.0 (open_rebuilt w next p.1 c)
open_rebuilt w (Nested m e kids next) p c = open_nested w m e kids next p (is_closed kids) refl c (open_rebuilt w kids p.1) (open_rebuilt w next p.2)

-- what a list that isn't there is cut for
abbrev reason : Option Why → Why
reason None = Need
reason (Some why) = why

rebuilt-is : (why : Option Why) (x : Forest) → IsCutTree why x → first_list (reason why) (rebuilt (reason why) (flatten x)) ≡ x
rebuilt-is None x h = ap (λ is. first_list Need (rebuilt Need is)) (sym (append-nil (flatten x))) ∙ (closed_rebuilt Need None x h.0 h.1 []).list
rebuilt-is (Some w) x h = (open_rebuilt w x h.0 h.1).list

pub only-tree : (why : Option Why) (x y : Forest) → IsCutTree why x → IsCutTree why y → flatten x ≡ flatten y → x ≡ y
only-tree why x y a b e = sym (rebuilt-is why x a) ∙ (ap (λ is. first_list (reason why) (rebuilt (reason why) is)) e ∙ rebuilt-is why y b)
