-- What is read of lexemes is a cut tree.
use Rattle.std.proofs.Common.{◌≡◌, ◌≢◌, ◌+◌, ℕ, Bool, true, false, List, [], ◌∷◌, ◌++◌, Option, Some, None, map, length, refl, sym, ◌∙◌, subst, arith}
use Rattle.std.specs.Prelude.{◌&&◌, if◌then◌else◌}
use Rattle.stx_base.specs.declared.fault.XmlKind.{XmlKind}
use Rattle.stx_base.specs.declared.fault.XmlKind.TheVariants.{Truncated}
use Rattle.stx_base.specs.declared.limits.Limits.{Limits}
use Rattle.xml_tokens.specs.declared.lexeme.Body.{Body}
use Rattle.xml_tokens.specs.declared.lexeme.Body.TheVariants as body
use Rattle.xml_tokens.specs.declared.lexeme.Lexeme.{Lexeme}
use Rattle.xml_tokens.specs.declared.lexeme.Step.{Step}
use Rattle.xml_tokens.specs.declared.lexeme.Step.TheVariants as step
use Rattle.xml_names.specs.Tag.{resolved}
use Rattle.xml_events.specs.Before.{Before, starting, fault_of, before_next, is_complete, is_inside, without_text, behind_text}
use Rattle.xml_events.specs.Document.{Says, Reading, at_end, completes, cuts, stops, judged, reading, lists_of, with_items, inner, text_before, element_at, items_of, Stands, text_items}
use Rattle.xml_events.specs.Flatten.{is_closed, IsCut, IsProper, is_whole, IsCutTree, cut_by}
use Rattle.xml_events.specs.Tree.{Why, Need, Bad, Fresh, Chars, CData, Comment, Pi, Forest, End, Cut, Single, Nested, Future, Waiting}
use Rattle.xml_events.proofs.Counting.{Open, lone, reading-open}
use Rattle.xml_events.proofs.Reading.{judged-lists}

-- all lists are cut for this reason
abbrev AreCut : Option Why → Future → Type 0
AreCut why [] = Unit {0}
AreCut why (list ∷ lists) = IsCut list × AreCut why lists

-- each list is proper, and behind an open one all are cut
abbrev Tidy : Option Why → Future → Type 0
Tidy why [] = Unit {0}
Tidy why (x ∷ f) = IsProper why x × (is_closed x ≡ false → AreCut why f) × Tidy why f

text_proper : (why : Option Why) (o : ℕ) (text : List ℕ) (x : Forest) → IsProper why x → IsProper why (text_before o text x)
text_proper why o text (Single m (Chars k (d ∷ ds)) next) p = (p.0, some text, p.2, p.3) where
  some : (t : List ℕ) → (t ++ d ∷ ds) ≢ []
  some [] e = cc
  some (c ∷ cs) e = cc
text_proper why o text (Single m (Chars k []) next) p = absurd (p.1 refl)
text_proper why o [] (End m k) p = p
text_proper why o (c ∷ cs) (End m k) p = (refl, λ e. cc, tt, p)
text_proper why o [] (Cut w) p = p
text_proper why o (c ∷ cs) (Cut w) p = p
text_proper why o [] (Single m (CData k l) next) p = p
text_proper why o [] (Single m (Comment k l) next) p = p
text_proper why o (c ∷ cs) (Single m (CData k l) next) p = (refl, λ e. cc, tt, p)
text_proper why o (c ∷ cs) (Single m (Comment k l) next) p = (refl, λ e. cc, tt, p)
text_proper why o [] (Single m (Pi k g l) next) p = p
text_proper why o (c ∷ cs) (Single m (Pi k g l) next) p = (refl, λ e. cc, tt, p)
text_proper why o [] (Nested m e kids next) p = p
text_proper why o (c ∷ cs) (Nested m e kids next) p = (refl, λ e. cc, tt, p)

text_closed : (o : ℕ) (text : List ℕ) (x : Forest) → is_closed (text_before o text x) ≡ is_closed x
text_closed o text (Single m (Chars k l) next) = refl
text_closed o [] (End m k) = refl
text_closed o (c ∷ cs) (End m k) = refl
text_closed o [] (Cut w) = refl
text_closed o (c ∷ cs) (Cut w) = refl
text_closed o [] (Single m (CData k l) next) = refl
text_closed o [] (Single m (Comment k l) next) = refl
text_closed o (c ∷ cs) (Single m (CData k l) next) = refl
text_closed o (c ∷ cs) (Single m (Comment k l) next) = refl
text_closed o [] (Single m (Pi k g l) next) = refl
text_closed o (c ∷ cs) (Single m (Pi k g l) next) = refl
text_closed o [] (Nested m e kids next) = refl
text_closed o (c ∷ cs) (Nested m e kids next) = refl

both_closed : (s t : Bool) → (s && t) ≡ false → (u : Bool) → s ≡ u → (u ≡ false → t ≡ false) → t ≡ false
both_closed true t h u e k = h
both_closed false t h u e k = k (sym e)

cut_is_open : (x : Forest) → IsCut x → is_closed x ≡ false
cut_is_open (End m o) h = absurd h
cut_is_open (Cut why) h = refl
cut_is_open (Single m leaf next) h = absurd h
cut_is_open (Nested m e kids next) h = absurd h

-- an element before its list and what follows it
nested_tidy : (why : Option Why) (x y : Forest) (f : Future) → Tidy why (x ∷ y ∷ f) → (s : Bool) → is_closed x ≡ s → (s && is_closed y) ≡ false → AreCut why f
nested_tidy why x y f h true e c = h.2.1 c
nested_tidy why x y f h false e c = (h.1 e).1

module _ (why : Option Why) (limits : Limits) (b : Before) (offset : ℕ) where
  text_tidy : (text : List ℕ) (t : Bool) → is_inside b.names ≡ t → (f : Future) → Open (if t then record b { chars = b.chars + length text } else b).names f → Tidy why f →
      Tidy why (with_items (if t then Says offset text ∷ [] else []) f)
  text_tidy text true i [] o h = absurd (omega arith)
  text_tidy text true i (x ∷ f) o h = (text_proper why offset text x h.0, λ c. h.1 (sym (text_closed offset text x) ∙ c), h.2)
  text_tidy text false i f o h = h

  cdata_tidy : (text : List ℕ) (c : Bool) (f : Future) → Open (if c then without_text b else behind_text b text).names f → Tidy why f →
      Tidy why (with_items (if c then Stands (CData offset text) ∷ [] else text_items b offset text) f)
  cdata_tidy text true [] o h = absurd (omega arith)
  cdata_tidy text true (x ∷ f) o h = ((refl, h.0), h.1, h.2)
  cdata_tidy text false f o h = text_tidy text (is_inside b.names) refl f o h

  item_tidy : (x : Body) (f : Future) → Open (before_next b x).names f → Tidy why f → Tidy why (with_items (items_of b offset x) f)
  item_tidy (body.Chars text blank) f o h = text_tidy text (is_inside b.names) refl f o h
  item_tidy (body.CData text) f o h = cdata_tidy text b.cdata f o h
  item_tidy (body.Start name attrs true) [] o h = absurd (omega arith)
  item_tidy (body.Start name attrs true) (x ∷ f) o h = ((refl, refl, h.0, λ c. absurd cc), h.1, h.2)
  item_tidy (body.Start name attrs false) [] o h = absurd (omega arith)
  item_tidy (body.Start name attrs false) (x ∷ []) o h = absurd (omega arith)
  item_tidy (body.Start name attrs false) (x ∷ y ∷ f) o h =
      ((refl, h.0, h.2.0, λ c. (h.1 c).0), nested_tidy why x y f h (is_closed x) refl, h.2.2)
  item_tidy (body.End name) f o h = (refl, λ c. absurd cc, h)
  item_tidy (body.Comment text) [] o h = absurd (omega arith)
  item_tidy (body.Comment text) (x ∷ f) o h = ((refl, h.0), h.1, h.2)
  item_tidy (body.Pi target text) [] o h = absurd (omega arith)
  item_tidy (body.Pi target text) (x ∷ f) o h = ((refl, h.0), h.1, h.2)
  item_tidy body.Doctype f o h = h
  item_tidy body.Declaration f o h = h

cuts_tidy : (w : Why) (names : List (List ℕ)) → Tidy (Some w) (cuts w names)
cuts_tidy w names = (refl, λ c. are names, by_names names) where
  are : (names : List (List ℕ)) → AreCut (Some w) (map (λ (name : List ℕ). Cut w) names)
  are [] = tt
  are (name ∷ names) = (tt, are names)

  by_names : (names : List (List ℕ)) → Tidy (Some w) (map (λ (name : List ℕ). Cut w) names)
  by_names [] = tt
  by_names (name ∷ names) = (refl, λ c. are names, by_names names)

-- the last list is the document's: it is cut exactly where the reading is
abbrev EndsCut : Forest → Type 0
EndsCut (End m o) = ⊥
EndsCut (Cut why) = Unit {0}
EndsCut (Single m leaf next) = EndsCut next
EndsCut (Nested m e kids next) = EndsCut next

abbrev LastCut : Future → Type 0
LastCut [] = ⊥
LastCut (x ∷ []) = EndsCut x
LastCut (x ∷ y ∷ f) = LastCut (y ∷ f)

text_last : (o : ℕ) (text : List ℕ) (x : Forest) → EndsCut x → EndsCut (text_before o text x)
text_last o text (Single m (Chars k l) next) h = h
text_last o text (End m k) h = absurd h
text_last o [] (Cut w) h = h
text_last o (c ∷ cs) (Cut w) h = h
text_last o [] (Single m (CData k l) next) h = h
text_last o [] (Single m (Comment k l) next) h = h
text_last o (c ∷ cs) (Single m (CData k l) next) h = h
text_last o (c ∷ cs) (Single m (Comment k l) next) h = h
text_last o [] (Single m (Pi k g l) next) h = h
text_last o (c ∷ cs) (Single m (Pi k g l) next) h = h
text_last o [] (Nested m e kids next) h = h
text_last o (c ∷ cs) (Nested m e kids next) h = h

-- a list in place of the innermost one
in_place : (x y : Forest) (f : Future) → (EndsCut x → EndsCut y) → LastCut (x ∷ f) → LastCut (y ∷ f)
in_place x y [] k h = k h
in_place x y (z ∷ f) k h = h

before_last : (x : Forest) (f : Future) → LastCut f → LastCut (x ∷ f)
before_last x [] h = absurd h
before_last x (y ∷ f) h = h

module _ (limits : Limits) (b : Before) (offset : ℕ) where
  text_cut : (text : List ℕ) (t : Bool) (f : Future) → LastCut f → LastCut (with_items (if t then Says offset text ∷ [] else []) f)
  text_cut text true [] h = absurd h
  text_cut text true (x ∷ f) h = in_place x (text_before offset text x) f (text_last offset text x) h
  text_cut text false f h = h

  cdata_cut : (text : List ℕ) (c : Bool) (f : Future) → LastCut f → LastCut (with_items (if c then Stands (CData offset text) ∷ [] else text_items b offset text) f)
  cdata_cut text true [] h = absurd h
  cdata_cut text true (x ∷ f) h = in_place x (Single Fresh (CData offset text) x) f (λ k. k) h
  cdata_cut text false f h = text_cut text (is_inside b.names) f h

  item_cut : (x : Body) (f : Future) → Open (before_next b x).names f → LastCut f → LastCut (with_items (items_of b offset x) f)
  item_cut (body.Chars text blank) f o h = text_cut text (is_inside b.names) f h
  item_cut (body.CData text) f o h = cdata_cut text b.cdata f h
  item_cut (body.Start name attrs true) [] o h = absurd h
  item_cut (body.Start name attrs true) (x ∷ f) o h = in_place x (Nested Waiting (element_at offset (resolved b.path name attrs)) (End Fresh offset) x) f (λ k. k) h
  item_cut (body.Start name attrs false) [] o h = absurd h
  item_cut (body.Start name attrs false) (x ∷ []) o h = absurd (omega arith)
  item_cut (body.Start name attrs false) (x ∷ y ∷ f) o h = in_place y (Nested Waiting (element_at offset (resolved b.path name attrs)) x y) f (λ k. k) h
  item_cut (body.End name) f o h = before_last (End Fresh offset) f h
  item_cut (body.Comment text) [] o h = absurd h
  item_cut (body.Comment text) (x ∷ f) o h = in_place x (Single Fresh (Comment offset text) x) f (λ k. k) h
  item_cut (body.Pi target text) [] o h = absurd h
  item_cut (body.Pi target text) (x ∷ f) o h = in_place x (Single Fresh (Pi offset target text) x) f (λ k. k) h
  item_cut body.Doctype f o h = h
  item_cut body.Declaration f o h = h

cuts_last : (w : Why) (names : List (List ℕ)) → LastCut (cuts w names)
cuts_last w names = by_names names where
  by_names : (names : List (List ℕ)) → LastCut (Cut w ∷ map (λ (name : List ℕ). Cut w) names)
  by_names [] = tt
  by_names (name ∷ names) = by_names names

-- what a reading's lists are
abbrev IsRead : Reading → Type 0
IsRead r = Tidy (cut_by r.rest) (lists_of r) × (cut_by r.rest ≢ None → LastCut (lists_of r))

stops_read : (b : Before) (why : Why) → IsRead (stops b why)
stops_read b why = (cuts_tidy why b.names, λ n. cuts_last why b.names)

end_read : (b : Before) (n : ℕ) (s : Step) → IsRead (at_end b n s)
end_read b n (step.Lexeme l) = stops_read b Need
end_read b n step.Need = stops_read b Need
end_read b n step.End = by_test (is_complete b) where
  by_test : (t : Bool) → IsRead (if t then completes n else stops b (Bad (record { kind = Truncated; offset = n })))
  by_test true = ((refl, λ c. absurd cc, tt), λ n. absurd (n refl))
  by_test false = stops_read b (Bad (record { kind = Truncated; offset = n }))
end_read b n (step.Bad fault) = stops_read b (Bad fault)
end_read b n step.Memory = stops_read b Need

judged_read : (limits : Limits) (b : Before) (l : Lexeme) (r : Reading) (f : Option XmlKind) → Open (before_next b l.body).names (lists_of r) → IsRead r → IsRead (judged f b l r)
judged_read limits b l r (Some kind) o h = stops_read b (Bad (record { kind = kind; offset = l.offset }))
judged_read limits b l r None o h =
    let is = sym (judged-lists None b l r refl) in (
      subst (Tidy (cut_by r.rest)) is (item_tidy (cut_by r.rest) limits b l.offset l.body (lists_of r) o h.0),
      λ n. subst LastCut is (item_cut limits b l.offset l.body (lists_of r) o (h.1 n)),
    )

reading_read : (limits : Limits) (n : ℕ) (last : Step) (b : Before) (ls : List Lexeme) → IsRead (reading limits n last b ls)
reading_read limits n last b [] = end_read b n last
reading_read limits n last b (l ∷ ls) =
    judged_read limits b l (reading limits n last (before_next b l.body) ls) (fault_of limits b l.body)
    (reading-open limits n last (before_next b l.body) ls) (reading_read limits n last (before_next b l.body) ls)

and_both : (s t : Bool) → s ≡ true → t ≡ true → (s && t) ≡ true
and_both s t a b = rw (a, b) refl

pub and_false : (s t : Bool) → t ≡ false → (s && t) ≡ false
and_false true t h = h
and_false false t h = refl

whole_closed : (x : Forest) → IsProper None x → is_closed x ≡ true
whole_closed (End m o) p = refl
whole_closed (Cut w) p = absurd cc
whole_closed (Single m (Chars o text) next) p = whole_closed next p.3
whole_closed (Single m (CData o text) next) p = whole_closed next p.1
whole_closed (Single m (Comment o text) next) p = whole_closed next p.1
whole_closed (Single m (Pi o target text) next) p = whole_closed next p.1
whole_closed (Nested m e kids next) p = and_both (is_closed kids) (is_closed next) (whole_closed kids p.1) (whole_closed next p.2)

cut_open : (x : Forest) → EndsCut x → is_closed x ≡ false
cut_open (End m o) c = absurd c
cut_open (Cut w) c = refl
cut_open (Single m leaf next) c = cut_open next c
cut_open (Nested m e kids next) c = and_false (is_closed kids) (is_closed next) (cut_open next c)

closed_so : (why : Option Why) (x : Forest) → IsProper why x → (why ≢ None → EndsCut x) → is_closed x ≡ is_whole why
closed_so None x p c = whole_closed x p
closed_so (Some w) x p c = cut_open x (c (λ k. cc))

pub is-cut-tree : (limits : Limits) (cdata : Bool) (n : ℕ) (last : Step) (ls : List Lexeme) → let r = reading limits n last (starting cdata) ls in IsCutTree (cut_by r.rest) (inner (lists_of r))
is-cut-tree limits cdata n last ls =
    let r = reading limits n last (starting cdata) ls in
    let one = lone (lists_of r) (reading-open limits n last (starting cdata) ls) in
    let h = reading_read limits n last (starting cdata) ls in
    let t : Tidy (cut_by r.rest) (inner (lists_of r) ∷ []) = subst (Tidy (cut_by r.rest)) one h.0 in
    (t.0, closed_so (cut_by r.rest) (inner (lists_of r)) t.0 (λ n. subst LastCut one (h.1 n)))
