-- A reading has as many lists as are open.
use Rattle.std.proofs.Common.{◌≡◌, ◌<◌, ℕ, suc, ◌+◌, Bool, true, false, List, [], ◌∷◌, Option, Some, None, map, length, refl, sym, ap, ◌∙◌, subst, arith}
use Rattle.std.specs.Prelude.{if◌then◌else◌, not, ◌&&◌}
use Rattle.stx_base.specs.declared.fault.XmlKind.{XmlKind}
use Rattle.stx_base.specs.declared.fault.XmlKind.TheVariants.{Mismatch, Truncated}
use Rattle.stx_base.specs.declared.limits.Limits.{Limits}
use Rattle.xml_tokens.specs.Reader.{begun, fed}
use Rattle.xml_tokens.specs.declared.lexeme.Body.{Body}
use Rattle.xml_tokens.specs.declared.lexeme.Body.TheVariants as body
use Rattle.xml_tokens.specs.declared.lexeme.Lexeme.{Lexeme}
use Rattle.xml_tokens.specs.declared.lexeme.Step.{Step}
use Rattle.xml_tokens.specs.declared.lexeme.Step.TheVariants as step
use Rattle.xml_events.specs.Before.{Before, starting, outer_names, fault_of, before_next, is_complete, is_inside, is_innermost, without_text, behind_text}
use Rattle.xml_events.specs.Document.{Reading, Says, stops, completes, cuts, at_end, judged, reading, reading_from, lists_of, with_items, inner, outer, finished, items_of, doc_for, Stands, text_items}
use Rattle.xml_events.specs.Lexed.{lexed_from, unread}
use Rattle.xml_events.specs.Source.{Source, future, source_for}
use Rattle.xml_events.specs.Tree.{Why, Bad, Cut, Future, CData}
use Rattle.xml_events.proofs.Reading.{judged-lists}

-- as many lists are open
abbrev pub Open : List (List ℕ) → Future → Type 0
Open names f = length f ≡ length names + 1

cuts-open : (why : Why) (names : List (List ℕ)) → Open names (cuts why names)
cuts-open why names = let n = cut_length names in omega (arith, n) where
  cut_length : (names : List (List ℕ)) → length (map (λ (name : List ℕ). Cut why) names) ≡ length names
  cut_length [] = refl
  cut_length (name ∷ names) = ap (λ n. suc n) (cut_length names)

outer-shorter : (f : Future) → 0 < length f → length (outer f) + 1 ≡ length f
outer-shorter [] h = absurd (omega arith)
outer-shorter (list ∷ lists) h = omega arith

module _ (limits : Limits) (b : Before) (offset : ℕ) (f : Future) where
  text_open : (text : List ℕ) (t : Bool) → is_inside b.names ≡ t → Open (if t then record b { chars = b.chars + length text } else b).names f →
      Open b.names (with_items (if t then Says offset text ∷ [] else []) f)
  text_open text true i h = let o = outer-shorter f (omega arith) in omega (arith, o)
  text_open text false i h = h

  cdata_open : (text : List ℕ) (c : Bool) → Open (if c then without_text b else behind_text b text).names f →
      Open b.names (with_items (if c then Stands (CData offset text) ∷ [] else text_items b offset text) f)
  cdata_open text true h = let o = outer-shorter f (omega arith) in omega (arith, o)
  cdata_open text false h = text_open text (is_inside b.names) refl h

  end_open : (name : List ℕ) (names : List (List ℕ)) → (if is_innermost name names then None else Some Mismatch) ≡ None → Open (outer_names names) f → length f + 1 ≡ length names + 1
  end_open name [] s h = absurd cc
  end_open name (n ∷ ns) s h = omega arith

  item-open : (x : Body) → fault_of limits b x ≡ None → Open (before_next b x).names f → Open b.names (with_items (items_of b offset x) f)
  item-open (body.Chars text blank) s h = text_open text (is_inside b.names) refl h
  item-open (body.CData text) s h = cdata_open text b.cdata h
  item-open (body.Start name attrs true) s h = let o = outer-shorter f (omega arith) in omega (arith, o)
  item-open (body.Start name attrs false) s h =
      let o = outer-shorter f (omega arith) in
      let p = outer-shorter (outer f) (omega (arith, o)) in
      omega (arith, o, p)
  item-open (body.End name) s h = let e = end_open name b.names s h in omega (arith, e)
  item-open (body.Comment text) s h = let o = outer-shorter f (omega arith) in omega (arith, o)
  item-open (body.Pi target text) s h = let o = outer-shorter f (omega arith) in omega (arith, o)
  item-open body.Doctype s h = h
  item-open body.Declaration s h = h

judged-open : (limits : Limits) (b : Before) (l : Lexeme) (r : Reading) (f : Option XmlKind) → fault_of limits b l.body ≡ f → Open (before_next b l.body).names (lists_of r) → Open b.names (lists_of (judged f b l r))
judged-open limits b l r (Some kind) e h = cuts-open (Bad (record { kind = kind; offset = l.offset })) b.names
judged-open limits b l r None e h = subst (Open b.names) (sym (judged-lists None b l r refl)) (item-open limits b l.offset (lists_of r) l.body e h)

no_names : (rooted : Bool) (names : List (List ℕ)) → (rooted && not (is_inside names)) ≡ true → names ≡ []
no_names rooted [] h = refl
no_names true (n ∷ ns) h = absurd cc
no_names false (n ∷ ns) h = absurd cc

end-open : (b : Before) (n : ℕ) (s : Step) → Open b.names (lists_of (at_end b n s))
end-open b n (step.Lexeme l) = cuts-open _ b.names
end-open b n step.Need = cuts-open _ b.names
end-open b n step.End = by_test (is_complete b) refl where
  by_test : (t : Bool) → is_complete b ≡ t → Open b.names (lists_of (if t then completes n else stops b (Bad (record { kind = Truncated; offset = n }))))
  by_test true e = subst (λ ns. Open ns (lists_of (completes n))) (sym (no_names b.rooted b.names e)) refl
  by_test false e = cuts-open _ b.names
end-open b n (step.Bad fault) = cuts-open _ b.names
end-open b n step.Memory = cuts-open _ b.names

pub reading-open : (limits : Limits) (n : ℕ) (last : Step) (b : Before) (ls : List Lexeme) → Open b.names (lists_of (reading limits n last b ls))
reading-open limits n last b [] = end-open b n last
reading-open limits n last b (l ∷ ls) =
    judged-open limits b l (reading limits n last (before_next b l.body) ls) (fault_of limits b l.body) refl (reading-open limits n last (before_next b l.body) ls)

-- outside of all elements the document's own list alone
pub lone : (f : Future) → Open [] f → f ≡ inner f ∷ []
lone [] h = absurd (omega arith)
lone (list ∷ []) h = refl
lone (list ∷ other ∷ lists) h = absurd (omega arith)

pub has-document : (limits : Limits) (strip cdata : Bool) (bytes : List ℕ) (ended : Bool) → future (source_for limits strip cdata) bytes ended ≡ doc_for limits strip cdata bytes ended ∷ []
has-document limits strip cdata bytes ended =
    let r = unread limits bytes ended in
    ap (map (finished strip)) (lone (lists_of (reading_from limits (starting cdata) r)) (reading-open limits (fed r) (lexed_from r).last (starting cdata) (lexed_from r).lexemes))

-- a reader of which nothing was read has the document's tree before it
pub document-of : (s : Source) (limits : Limits) (strip cdata : Bool) → s.limits ≡ limits → s.strip ≡ strip → s.known ≡ [] → s.front ≡ [] → s.before ≡ (starting cdata) → s.lexer ≡ begun limits → s.over ≡ None →
    (bytes : List ℕ) (ended : Bool) → future s bytes ended ≡ doc_for limits strip cdata bytes ended ∷ []
document-of s limits strip cdata l t k f b x o bytes ended =
    ap (λ n. future (record s { limits = n }) bytes ended) l
    ∙ ap (λ n. future (record s { limits = limits; strip = n }) bytes ended) t
    ∙ ap (λ n. future (record s { limits = limits; strip = strip; known = n }) bytes ended) k
    ∙ ap (λ n. future (record s { limits = limits; strip = strip; known = []; front = n }) bytes ended) f
    ∙ ap (λ n. future (record s { limits = limits; strip = strip; known = []; front = []; before = n }) bytes ended) b
    ∙ ap (λ n. future (record s { limits = limits; strip = strip; known = []; front = []; before = (starting cdata); lexer = n }) bytes ended) x
    ∙ ap (λ n. future (record { limits = limits; strip = strip; known = []; front = []; before = (starting cdata); lexer = begun limits; over = n }) bytes ended) o
    ∙ has-document limits strip cdata bytes ended
