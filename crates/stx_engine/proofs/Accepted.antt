-- A result takes all parts of a good document.
use Rattle.std.proofs.Common.{◌≡◌, ◌≢◌, ℕ, suc, ◌+◌, ◌-◌, ◌<◌, ◌≤◌, Bool, true, false, ◌&&◌, List, [], ◌∷◌, ◌++◌, Option, Some, None, length, map, refl, sym, ap, subst, ◌∙◌, arith, ltb-true, lt-ltb}
use Rattle.std.specs.Prelude.{if◌then◌else◌, nat_lt}
use Rattle.std.specs.List.{list_all}
use Rattle.std.proofs.lemmas.Bool.{and_from, and_parts}
use Rattle.std.proofs.lemmas.Slice.Eq.{bytes_eq-Decides}
use Rattle.stx_base.specs.declared.name.Attr.{Attr}
use Rattle.stx_base.specs.declared.name.Binding.{Binding}
use Rattle.stx_base.specs.declared.name.Name.{Name}
use Rattle.stx_base.specs.declared.part.Part.{Part}
use Rattle.stx_base.specs.declared.part.Part.TheVariants as part
use Rattle.result_writer.specs.Allowed.{are_chars, is_good_attribute, is_good_comment, is_good_data, is_good_name, is_good_target, same}
use Rattle.result_writer.specs.Target as target
use Rattle.result_writer.specs.Target.{Left, attribute_fault, chars_fault, closed, comment_fault, depth, end_of, fault, first_fault, innermost, instruction_fault, is_closed, left_by, next, nothing, or_else, same_name, settled, start_fault, unless, with_attribute}
use Rattle.result_writer.specs.declared.fault.ResultFault.{ResultFault}
use Rattle.result_writer.specs.declared.fault.ResultFault.TheVariants.{BadName, BadChar, BadComment, BadPi, ResultDepth, UnclosedResult, WrongEnd}
use Rattle.result_writer.specs.declared.tag.HeldTag.{HeldTag}
use Rattle.xml_events.specs.Tree.{Why, Leaf, Chars, CData, Comment, Pi, Element, Forest, End, Cut, Single, Nested, Stage, Waiting, Ready, Entered}
use Rattle.template_machine.specs.Passed.{Passed, once_ready, put, then_put, unless_stopped}
use Rattle.template_machine.specs.Passing.{parts_if}
use Rattle.template_machine.specs.Putting.{attribute_part}
use Rattle.stx_engine.specs.inside.Accepted.{TakesGood, is_good, is_good_attr, is_good_element, is_good_leaf}
use Rattle.stx_engine.specs.inside.Passed.{Complete, Refused, copied_attrs, end_parts, leaf_parts, passed, run_from, start_parts, unless_refused, with_first}
use Rattle.stx_engine.specs.inside.Opens.{named, names_by, names_of}
use Rattle.template_machine.specs.Trail.{scope_within}
use Rattle.sheet_model.specs.declared.pass.Kinds.{Kinds}

-- Open elements

settled-names : (es : List target.Element) (h : Option HeldTag) → named (settled es h) ≡ names_by es h
settled-names es None = refl
settled-names es (Some tag) = refl

named-length : (es : List target.Element) → length (named es) ≡ length es
named-length [] = refl
named-length (e ∷ es) = ap (λ n. suc n) (named-length es)

depth-names : (es : List target.Element) (h : Option HeldTag) → depth es h ≡ length (names_by es h)
depth-names es None = sym (named-length es)
depth-names es (Some tag) = let n = named-length es in omega (arith, n)

closed-names : (es : List target.Element) (h : Option HeldTag) → names_by es h ≡ [] → is_closed es h ≡ true
closed-names es (Some tag) e = absurd cc
closed-names [] None e = refl
closed-names (x ∷ es) None e = absurd cc

same_name-self : (n : Name) → same_name n n ≡ true
same_name-self n = and_from (same n.uri n.uri) (same n.local n.local) ((bytes_eq-Decides n.uri n.uri).1 refl) ((bytes_eq-Decides n.local n.local).1 refl)

-- Faults

none-both : (a b : Option ResultFault) → or_else a b ≡ None → (a ≡ None) × (b ≡ None)
none-both None b h = (refl, h)
none-both (Some f) b h = absurd cc

both-none : (a b : Option ResultFault) → a ≡ None → b ≡ None → or_else a b ≡ None
both-none a b h k = ap (λ x. or_else x b) h ∙ k

unless-none : (t : Bool) (f : ResultFault) (o : Option ResultFault) → t ≡ true → o ≡ None → unless t f o ≡ None
unless-none t f o h k = ap (λ x. unless x f o) h ∙ k

-- parts are taken, and then these elements are open
record Fine (limit : ℕ) (l : Left) (ps : List Part) (names : List Name) : Type 0 where
  faultless : first_fault limit l ps ≡ None
  behind : names_of (left_by l ps) ≡ names

-- the same of parts that may be stopped
record Taken (limit : ℕ) (l : Left) (p : Passed) (names : List Name) : Type 0 where
  faultless : first_fault limit l p.parts ≡ None
  behind : p.stop ≡ None → names_of (left_by l p.parts) ≡ names

module _ (limit : ℕ) where
  fault-append : (l : Left) (ps qs : List Part) → first_fault limit l ps ≡ None → first_fault limit (left_by l ps) qs ≡ None → first_fault limit l (ps ++ qs) ≡ None
  fault-append l [] qs h k = k
  fault-append l (p ∷ ps) qs h k =
      let b = none-both (fault limit l p) (first_fault limit (next l p) ps) h in
      both-none (fault limit l p) (first_fault limit (next l p) (ps ++ qs)) b.0 (fault-append (next l p) ps qs b.1 k)

  left-append : (l : Left) (ps qs : List Part) → left_by l (ps ++ qs) ≡ left_by (left_by l ps) qs
  left-append l [] qs = refl
  left-append l (p ∷ ps) qs = left-append (next l p) ps qs

  put-taken : (l : Left) (ps : List Part) (p : Passed) (ns ms : List Name) → Fine limit l ps ns → Taken limit (left_by l ps) p ms → Taken limit l (put ps p) ms
  put-taken l ps p ns ms h k = record {
    faultless = fault-append l ps p.parts h.faultless k.faultless;
    behind = λ e. ap names_of (left-append l ps p.parts) ∙ k.behind e;
  }

  then-taken : (l : Left) (p q : Passed) (ns ms : List Name) → Taken limit l p ns → (names_of (left_by l p.parts) ≡ ns → Taken limit (left_by l p.parts) q ms) → Taken limit l (then_put p q) ms
  then-taken l p q ns ms h k = by_stop p.stop refl where
    by_stop : (s : Option Why) → p.stop ≡ s → Taken limit l (unless_stopped s p q) ms
    by_stop None e = put-taken l p.parts q ns ms (record { faultless = h.faultless; behind = h.behind e }) (k (h.behind e))
    by_stop (Some why) e = record { faultless = h.faultless; behind = λ (n : p.stop ≡ None). absurd cc }

  once-taken : (l : Left) (m : Stage) (kids : Forest) (p : Passed) (ms : List Name) → Taken limit l p ms → Taken limit l (once_ready m kids p) ms
  once-taken l Waiting (Cut why) p ms h = record { faultless = refl; behind = λ e. absurd cc }
  once-taken l Waiting (End m offset) p ms h = h
  once-taken l Waiting (Single m leaf next) p ms h = h
  once-taken l Waiting (Nested m e kids next) p ms h = h
  once-taken l (Ready first) kids p ms h = h
  once-taken l (Entered first) kids p ms h = h

  -- The parts of a node

  parts-fine : (l : Left) (t : Bool) (ps : List Part) → Fine limit l ps (names_of l) → Fine limit l (parts_if t ps) (names_of l)
  parts-fine l true ps h = h
  parts-fine l false ps h = record { faultless = refl; behind = refl }

  leaf-fine : (l : Left) (p : Kinds) (leaf : Leaf) → is_good_leaf leaf ≡ true → Fine limit l (leaf_parts p leaf) (names_of l)
  leaf-fine l p (Chars offset text) h =
      parts-fine l p.text _ (record { faultless = both-none (chars_fault text) None (unless-none (are_chars text) BadChar None h refl) refl; behind = settled-names l.elements l.held })
  leaf-fine l p (CData offset text) h =
      parts-fine l p.text _ (record { faultless = both-none (chars_fault text) None (unless-none (are_chars text) BadChar None h refl) refl; behind = settled-names l.elements l.held })
  leaf-fine l p (Comment offset text) h =
      let b = and_parts (are_chars text) (is_good_comment text) h in
      parts-fine l p.comments _ (record {
        faultless = both-none (comment_fault text) None (unless-none (are_chars text) BadChar _ b.0 (unless-none (is_good_comment text) BadComment None b.1 refl)) refl;
        behind = settled-names l.elements l.held;
      })
  leaf-fine l p (Pi offset target text) h =
      let b = and_parts (are_chars text) (is_good_target target && is_good_data text) h in
      parts-fine l p.instructions _ (record {
        faultless = both-none (instruction_fault target text) None (unless-none (are_chars text) BadChar _ b.0 (unless-none (is_good_target target && is_good_data text) BadPi None b.1 refl)) refl;
        behind = settled-names l.elements l.held;
      })

  attrs-fine : (es : List target.Element) (tag : HeldTag) (attrs : List Attr) → list_all is_good_attr attrs ≡ true →
      Fine limit (record { elements = es; held = Some tag }) (map attribute_part attrs) (tag.name ∷ named es)
  attrs-fine es tag [] h = record { faultless = refl; behind = refl }
  attrs-fine es tag (a ∷ attrs) h =
      let b = and_parts (is_good_attr a) (list_all is_good_attr attrs) h in
      let c = and_parts (is_good_attribute a.name) (are_chars a.value) b.0 in
      let l : Left = record { elements = es; held = Some tag } in
      let on = attrs-fine es (record tag { attrs = with_attribute tag.attrs a.name a.value }) attrs b.1 in
      record {
        faultless =
            both-none (attribute_fault l a.name a.value) _ (unless-none (is_good_attribute a.name) BadName _ c.0 (unless-none (are_chars a.value) BadChar None c.1 refl)) on.faultless;
        behind = on.behind;
      }

  -- the open elements within one that is passed
  abbrev within : Kinds → Name → List Name → List Name
  within p name names = if p.elements then name ∷ names else names

  within-length : (p : Kinds) (name : Name) (names : List Name) → length (within p name names) ≤ suc (length names)
  within-length p name names = by_elements p.elements where
    by_elements : (t : Bool) → length (if t then name ∷ names else names) ≤ suc (length names)
    by_elements true = omega arith
    by_elements false = omega arith

  attrs-good : (t : Bool) (attrs : List Attr) → list_all is_good_attr attrs ≡ true → list_all is_good_attr (if t then attrs else []) ≡ true
  attrs-good true attrs h = h
  attrs-good false attrs h = refl

  start-fine : (l : Left) (p : Kinds) (scope : List Binding) (e : Element) → is_good_element e ≡ true → length (names_of l) < limit →
      Fine limit l (start_parts p scope e.name e.attrs) (within p e.name (names_of l))
  start-fine l p scope e h room =
      let b = and_parts (is_good_name e.name) (list_all is_good_attr e.attrs) h in
      let attrs = copied_attrs p e.attrs in
      let on = attrs-fine (settled l.elements l.held) (record { name = e.name; scope = scope; attrs = [] }) attrs (attrs-good p.attributes e.attrs b.1) in
      let n = depth-names l.elements l.held in
      let fits : nat_lt (depth l.elements l.held) limit ≡ true = lt-ltb _ _ (omega (arith, n, room)) in
      by_elements p.elements (record {
        faultless = both-none (start_fault limit l e.name) _ (unless-none (is_good_name e.name) BadName _ b.0 (unless-none (nat_lt (depth l.elements l.held) limit) ResultDepth None fits refl)) on.faultless;
        behind = on.behind ∙ ap (λ ns. e.name ∷ ns) (settled-names l.elements l.held);
      }) where
        by_elements : (t : Bool) → Fine limit l (part.Start e.name scope ∷ map attribute_part (copied_attrs p e.attrs)) (e.name ∷ names_of l) →
            Fine limit l (parts_if t (part.Start e.name scope ∷ map attribute_part (copied_attrs p e.attrs))) (if t then e.name ∷ names_of l else names_of l)
        by_elements true f = f
        by_elements false f = record { faultless = refl; behind = refl }

  end-by : (es : List target.Element) (h : Option HeldTag) (name : Name) (ns : List Name) → names_by es h ≡ name ∷ ns →
      (end_of (innermost es h) name ≡ None) × (named (closed es h) ≡ ns)
  end-by es (Some tag) name ns e =
      let first : name ≡ tag.name = cc in
      (unless-none (same_name tag.name name) WrongEnd None (subst (λ n. same_name tag.name n ≡ true) (sym first) (same_name-self tag.name)) refl, cc)
  end-by [] None name ns e = absurd cc
  end-by (x ∷ es) None name ns e =
      let first : name ≡ x.name = cc in
      (unless-none (same_name x.name name) WrongEnd None (subst (λ n. same_name x.name n ≡ true) (sym first) (same_name-self x.name)) refl, cc)

  end-fine : (l : Left) (p : Kinds) (name : Name) (ns : List Name) → is_good_name name ≡ true → names_of l ≡ within p name ns → Fine limit l (end_parts p name) ns
  end-fine l p name ns good = by_elements p.elements where
    by_elements : (t : Bool) → names_of l ≡ (if t then name ∷ ns else ns) → Fine limit l (parts_if t (part.End name ∷ [])) ns
    by_elements true h =
        let b = end-by l.elements l.held name ns h in
        record { faultless = both-none _ None (unless-none (is_good_name name) BadName _ good b.0) refl; behind = b.1 }
    by_elements false h = record { faultless = refl; behind = h }

  -- a list of nodes
  taken : (p : Kinds) (scope : List Binding) (f : Forest) (room : ℕ) (l : Left) (ns : List Name) → names_of l ≡ ns → is_good room f ≡ true → room + length ns ≤ limit → Taken limit l (passed p scope f) ns
  taken p scope (End m offset) room l ns is h fits = record { faultless = refl; behind = λ e. is }
  taken p scope (Cut why) room l ns is h fits = record { faultless = refl; behind = λ e. absurd cc }
  taken p scope (Single m leaf next) room l ns is h fits =
      let b = and_parts (is_good_leaf leaf) (is_good room next) h in
      let first = leaf-fine l p leaf b.0 in
      put-taken l (leaf_parts p leaf) (passed p scope next) (names_of l) ns first
      (taken p scope next room (left_by l (leaf_parts p leaf)) ns (first.behind ∙ is) b.1 fits)
  taken p scope (Nested m e kids next) room l ns is h fits =
      let b = and_parts (nat_lt 0 room) (is_good_element e && (is_good (room - 1) kids && is_good room next)) h in
      let c = and_parts (is_good_element e) (is_good (room - 1) kids && is_good room next) b.1 in
      let d = and_parts (is_good (room - 1) kids) (is_good room next) c.1 in
      let some : 0 < room = ltb-true _ _ b.0 in
      let inside = scope_within scope e.decls in
      let start = start_parts p inside e.name e.attrs in
      let end = end_parts p e.name in
      let count = ap length is in
      let first = start-fine l p inside e c.0 (omega (arith, count, some, fits)) in
      let l1 = left_by l start in
      let longer = within-length p e.name (names_of l) in
      let listed = taken p inside kids (room - 1) l1 (within p e.name (names_of l)) first.behind d.0 (omega (arith, longer, count, some, fits)) in
      let l2 = left_by l1 (passed p inside kids).parts in
      once-taken l m kids (put start (then_put (passed p inside kids) (put end (passed p scope next)))) ns
      (put-taken l start (then_put (passed p inside kids) (put end (passed p scope next))) (within p e.name (names_of l)) ns first
      (then-taken l1 (passed p inside kids) (put end (passed p scope next)) (within p e.name (names_of l)) ns listed
      (λ names.
      let last = end-fine l2 p e.name (names_of l) (and_parts (is_good_name e.name) (list_all is_good_attr e.attrs) c.0).0 names in
      put-taken l2 end (passed p scope next) (names_of l) ns last
      (taken p scope next room (left_by l2 end) ns (last.behind ∙ is) d.1 fits))))

  -- where all parts are taken and no element is left open
  not-refused : (l : Left) (ps : List Part) (stop : Option Why) (f : ResultFault) → first_fault limit l ps ≡ None → (stop ≡ None → names_of (left_by l ps) ≡ []) → (run_from limit l ps stop).ending ≢ Refused f
  not-refused l [] None f h closed k =
      let e = closed-names l.elements l.held (closed refl) in
      let c = ap (λ t. if t then Complete else Refused UnclosedResult) e in
      absurd cc
  not-refused l [] (Some why) f h closed k = absurd cc
  not-refused l (p ∷ ps) stop f h closed k =
      let b = none-both (fault limit l p) (first_fault limit (next l p) ps) h in
      not-refused (next l p) ps stop f b.1 closed (sym (ap (λ o. (unless_refused o (with_first p (run_from limit (next l p) ps stop))).ending) b.0) ∙ k)

pub takes-good : TakesGood
takes-good limit p tree f good h =
    let q = passed p [] tree in
    let all = taken limit p [] tree limit nothing [] refl good (omega arith) in
    not-refused limit nothing q.parts q.stop f all.faultless all.behind h
