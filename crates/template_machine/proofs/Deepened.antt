-- What buffers hold stays as deep as it may be.
use Rattle.std.proofs.Common.{◌≡◌, ℕ, ◌+◌, ◌-◌, ◌≤◌, Bool, true, false, List, [], ◌∷◌, ◌++◌, length, Option, Some, None, refl, ap, sym, subst, ◌∙◌, arith, append_assoc}
use Rattle.std.specs.Prelude.{if◌then◌else◌}
use Rattle.std.proofs.lemmas.Bool.{false≢true, ltb-true}
use Rattle.event_buffers.specs.Buffers.{none}
use Rattle.event_buffers.specs.Kept as keeping
use Rattle.event_buffers.specs.Kept.{added, kept_from}
use Rattle.event_buffers.specs.Layer as layer
use Rattle.event_buffers.specs.Layer.{Layer, State, closed, contents, fault_in, is_whole, laid, opened_read, opened_write, with_part}
use Rattle.event_buffers.specs.Told.{text_before, told}
use Rattle.event_buffers.specs.declared.kept.Kept.{Kept}
use Rattle.event_buffers.specs.declared.kept.Kept.TheVariants as kept
use Rattle.result_writer.specs.Target.{Element, Left, depth, fault, next, settled, unless}
use Rattle.result_writer.specs.Target as target
use Rattle.result_writer.specs.declared.fault.ResultFault.{ResultFault}
use Rattle.result_writer.specs.declared.fault.ResultFault.TheVariants.{UnclosedResult}
use Rattle.result_writer.specs.declared.tag.HeldTag.{HeldTag}
use Rattle.stx_base.specs.declared.part.Part.{Part}
use Rattle.stx_base.specs.declared.part.Part.TheVariants as part
use Rattle.template_machine.specs.Deep.{AreDeep, IsDeep, IsOpenBy, open_after, open_behind}
use Rattle.template_machine.specs.Programs as parts
use Rattle.template_machine.specs.Programs.{deepest_from}
use Rattle.template_machine.specs.Well.{AreWithin}
use Rattle.xml_events.specs.declared.event.Event.{Event}
use Rattle.xml_events.specs.declared.event.Event.TheVariants as event

-- Lists one behind another.

after_append : (n : ℕ) (xs ys : List Kept) → open_after n (xs ++ ys) ≡ open_after (open_after n xs) ys
after_append n [] ys = refl
after_append n (x ∷ xs) ys = after_append (open_behind n x) xs ys

deep_append : (limit n : ℕ) (xs ys : List Kept) → AreDeep limit n xs → AreDeep limit (open_after n xs) ys → AreDeep limit n (xs ++ ys)
deep_append limit n [] ys a b = b
deep_append limit n (x ∷ xs) ys a b = (a.0, deep_append limit (open_behind n x) xs ys a.1 b)

-- What a part adds, where so many elements are open.

length_settled : (elements : List Element) (held : Option HeldTag) → length (settled elements held) ≡ depth elements held
length_settled elements None = refl
length_settled elements (Some tag) = omega arith

pub record Adds (limit : ℕ) (elements : List Element) (held : Option HeldTag) (p : Part) : Type 0 where
  pub deep : AreDeep limit (length elements) (added (record { elements = elements; held = held }) p)
  pub after : open_after (length elements) (added (record { elements = elements; held = held }) p) ≡ length (next (record { elements = elements; held = held }) p).elements
  pub behind :
      depth (next (record { elements = elements; held = held }) p).elements (next (record { elements = elements; held = held }) p).held
      ≡ parts.open_behind (depth elements held) p

pub adds : (limit : ℕ) (elements : List Element) (held : Option HeldTag) (p : Part) → depth elements held ≤ limit → Adds limit elements held p
adds limit elements None (part.Start name scope) h = record { deep = tt; after = refl; behind = refl }
adds limit elements (Some tag) (part.Start name scope) h = record { deep = (h, tt); after = omega arith; behind = omega arith }
adds limit elements None (part.Attribute name value) h = record { deep = tt; after = refl; behind = refl }
adds limit elements (Some tag) (part.Attribute name value) h = record { deep = tt; after = refl; behind = refl }
adds limit [] None (part.End name) h = record { deep = (omega arith, tt); after = omega arith; behind = omega arith }
adds limit (e ∷ elements) None (part.End name) h = record { deep = (omega (arith, h), tt); after = omega arith; behind = omega arith }
adds limit elements (Some tag) (part.End name) h = record { deep = (h, (omega (arith, h), tt)); after = omega arith; behind = omega arith }
adds limit elements None (part.Chars text) h = record { deep = (h, tt); after = refl; behind = refl }
adds limit elements (Some tag) (part.Chars text) h = record { deep = (h, (h, tt)); after = omega arith; behind = omega arith }
adds limit elements None (part.CData text) h = record { deep = (h, tt); after = refl; behind = refl }
adds limit elements (Some tag) (part.CData text) h = record { deep = (h, (h, tt)); after = omega arith; behind = omega arith }
adds limit elements None (part.Comment text) h = record { deep = (h, tt); after = refl; behind = refl }
adds limit elements (Some tag) (part.Comment text) h = record { deep = (h, (h, tt)); after = omega arith; behind = omega arith }
adds limit elements None (part.Pi target text) h = record { deep = (h, tt); after = refl; behind = refl }
adds limit elements (Some tag) (part.Pi target text) h = record { deep = (h, (h, tt)); after = omega arith; behind = omega arith }

-- no element more than may be open

unless_none : (b : Bool) (f : ResultFault) (o : Option ResultFault) → unless b f o ≡ None → (b ≡ true) × (o ≡ None)
unless_none true f o e = (refl, e)
unless_none false f o e = absurd (cc)

stays_within : (limit : ℕ) (elements : List Element) (held : Option HeldTag) (p : Part) → fault limit (record { elements = elements; held = held }) p ≡ None
    → depth elements held ≤ limit → parts.open_behind (depth elements held) p ≤ limit
stays_within limit elements held (part.Start name scope) e h =
    let a = unless_none _ _ _ e in
    let b = unless_none _ _ _ a.1 in
    omega (arith, ltb-true (depth elements held) limit b.0)
stays_within limit elements held (part.End name) e h = omega (arith, h)
stays_within limit elements held p e h = h

-- A copy behind a part that it takes.

contents_more : (declared : List Kept) (c : Layer) (more : List Kept) (s : State) → contents declared (record c { kept = c.kept ++ more; state = s }) ≡ contents declared c ++ more
contents_more declared c more s = by c.declared
  where
    by : (b : Bool) → (if b then declared ++ (c.kept ++ more) else c.kept ++ more) ≡ (if b then declared ++ c.kept else c.kept) ++ more
    by true = sym (append_assoc declared c.kept more)
    by false = refl

pub put_deep : (limit : ℕ) (declared : List Kept) (c : Layer) (p : Part) → fault_in c.state p ≡ None → IsDeep limit declared c → IsDeep limit declared (with_part p c)
put_deep limit declared c p e h = by c.state refl e h.open_ones
  where
    by : (s : State) → c.state ≡ s → fault_in s p ≡ None → IsOpenBy limit (open_after 0 (contents declared c)) s → IsDeep limit declared (with_part p c)
    by layer.Shut is none o = subst (λ t. IsDeep limit declared (layer.put_into t p c)) (sym is) h
    by layer.Reading is none o = subst (λ t. IsDeep limit declared (layer.put_into t p c)) (sym is) h
    by (layer.Writing t) is none o =
        let elements = t.left.elements in
        let held = t.left.held in
        let a = adds limit elements held p (omega (arith, o.1, o.2)) in
        let more = added t.left p in
        let same = contents_more declared c more (layer.Writing (target.behind t p)) in
        let after : open_after 0 (contents declared c ++ more) ≡ length (next t.left p).elements =
        after_append 0 (contents declared c) more ∙ ap (λ n. open_after n more) o.0 ∙ a.after in
        subst (λ s. IsDeep limit declared (layer.put_into s p c)) (sym is)
        (record {
          deep =
              subst (AreDeep limit 0) (sym same)
              (deep_append limit 0 (contents declared c) more h.deep (subst (λ n. AreDeep limit n more) (sym o.0) a.deep));
          open_ones =
              (ap (open_after 0) same ∙ after, omega (arith, a.behind, stays_within t.limit elements held p none o.1), o.2);
        })

-- A copy that is opened, and closed.

pub open_write_deep : (limit elements : ℕ) (declared : List Kept) (clear : Bool) (c : Layer) → elements ≤ limit → c.state ≡ layer.Shut → IsDeep limit declared c
    → IsDeep limit declared (opened_write elements clear c)
open_write_deep limit elements declared true c few is h = record { deep = tt; open_ones = (refl, omega arith, few) }
open_write_deep limit elements declared false c few is h =
    record { deep = h.deep; open_ones = (subst (IsOpenBy limit (open_after 0 (contents declared c))) is h.open_ones, omega arith, few) }

none_open : (limit n : ℕ) (s : State) → is_whole s ≡ true → IsOpenBy limit n s → n ≡ 0
none_open limit n layer.Shut e h = h
none_open limit n layer.Reading e h = h
none_open limit n (layer.Writing t) e h = by t.left.elements t.left.held h.0 e
  where
    by : (elements : List Element) (held : Option HeldTag) → n ≡ length elements → target.is_closed elements held ≡ true → n ≡ 0
    by elements (Some tag) long closed = absurd (false≢true closed)
    by [] None long closed = long
    by (x ∷ elements) None long closed = absurd (false≢true closed)

pub closed_deep : (limit : ℕ) (declared : List Kept) (c : Layer) → is_whole c.state ≡ true → IsDeep limit declared c → IsDeep limit declared (closed c)
closed_deep limit declared c whole h = record { deep = h.deep; open_ones = none_open limit (open_after 0 (contents declared c)) c.state whole h.open_ones }

pub opened_read_deep : (limit : ℕ) (declared : List Kept) (c : Layer) → c.state ≡ layer.Shut → IsDeep limit declared c → IsDeep limit declared (opened_read c)
opened_read_deep limit declared c is h =
    record { deep = h.deep; open_ones = subst (IsOpenBy limit (open_after 0 (contents declared c))) is h.open_ones }

append_none : (ks : List Kept) → ks ++ [] ≡ ks
append_none [] = refl
append_none (k ∷ ks) = ap (λ l. k ∷ l) (append_none ks)

pub laid_deep : (limit : ℕ) (declared : List Kept) → AreDeep limit 0 declared → open_after 0 declared ≡ 0 → IsDeep limit declared laid
laid_deep limit declared deep whole =
    record { deep = subst (AreDeep limit 0) (sym (append_none declared)) deep; open_ones = ap (open_after 0) (append_none declared) ∙ whole }

-- What is told of it is within.

text_within : (limit n : ℕ) (text : List ℕ) (es : List Event) → n ≤ limit → AreWithin limit n es → AreWithin limit n (text_before text es)
text_within limit n [] es few h = h
text_within limit n (c ∷ cs) [] few h = (few, h)
text_within limit n (c ∷ cs) (event.Chars offset more ∷ es) few h = h
text_within limit n (c ∷ cs) (e ∷ es) few h = (few, h)

pub told_within : (limit n : ℕ) (ks : List Kept) → n ≤ limit → AreDeep limit n ks → AreWithin limit n (told ks)
told_within limit n [] few h = tt
told_within limit n (kept.Start tag ∷ ks) few h = (h.0, told_within limit (n + 1) ks h.0 h.1)
told_within limit n (kept.End ∷ ks) few h = (h.0, told_within limit (n - 1) ks h.0 h.1)
told_within limit n (kept.Chars text ∷ ks) few h = text_within limit n text (told ks) few (told_within limit n ks few h.1)
told_within limit n (kept.CData text ∷ ks) few h = (h.0, told_within limit n ks few h.1)
told_within limit n (kept.Comment text ∷ ks) few h = (h.0, told_within limit n ks few h.1)
told_within limit n (kept.Pi target text ∷ ks) few h = (h.0, told_within limit n ks few h.1)

-- What a sheet declares.

at_least : (n : ℕ) (ps : List Part) → n ≤ deepest_from n ps
at_least n [] = omega arith
at_least n (p ∷ ps) = omega arith

kept_deep : (limit : ℕ) (elements : List Element) (held : Option HeldTag) (ps : List Part) → deepest_from (depth elements held) ps ≤ limit
    → AreDeep limit (length elements) (kept_from (record { elements = elements; held = held }) ps)
    × (open_after (length elements) (kept_from (record { elements = elements; held = held }) ps)
    ≡ length (target.left_by (record { elements = elements; held = held }) ps).elements)
kept_deep limit elements held [] h = (tt, refl)
kept_deep limit elements held (p ∷ ps) h =
    let l : Left = record { elements = elements; held = held } in
    let a = adds limit elements held p (omega (arith, h)) in
    let later : deepest_from (depth (next l p).elements (next l p).held) ps ≤ limit = subst (λ n. deepest_from n ps ≤ limit) (sym a.behind) (omega (arith, h)) in
    let r = kept_deep limit (next l p).elements (next l p).held ps later in
    let more = kept_from (next l p) ps in (
      deep_append limit (length elements) (added l p) more a.deep (subst (λ n. AreDeep limit n more) (sym a.after) r.0),
      after_append (length elements) (added l p) more ∙ ap (λ n. open_after n more) a.after ∙ r.1,
    )

none_left : (l : Left) → target.is_closed l.elements l.held ≡ true → length l.elements ≡ 0
none_left l e = by l.elements l.held e
  where
    by : (elements : List Element) (held : Option HeldTag) → target.is_closed elements held ≡ true → length elements ≡ 0
    by elements (Some tag) e = absurd (false≢true e)
    by [] None e = refl
    by (x ∷ elements) None e = absurd (false≢true e)

whole_closed : (limit : ℕ) (ps : List Part) → target.whole_fault limit ps ≡ None
    → target.is_closed (target.left_by target.nothing ps).elements (target.left_by target.nothing ps).held ≡ true
whole_closed limit ps e = by (target.first_fault limit target.nothing ps) (target.is_closed (target.left_by target.nothing ps).elements (target.left_by target.nothing ps).held) e
  where
    by : (o : Option ResultFault) (b : Bool) → target.or_else o (if b then None else Some UnclosedResult) ≡ None → b ≡ true
    by None true f = refl
    by None false f = absurd (cc)
    by (Some x) b f = absurd (cc)

pub declared_deep : (limit most : ℕ) (ps : List Part) → target.whole_fault most ps ≡ None → deepest_from 0 ps ≤ limit
    → AreDeep limit 0 (keeping.kept_of ps) × (open_after 0 (keeping.kept_of ps) ≡ 0)
declared_deep limit most ps whole h =
    let k = kept_deep limit [] None ps h in (k.0, k.1 ∙ none_left (target.left_by target.nothing ps) (whole_closed most ps whole))
