-- What lexemes tell of a tree.
use Rattle.std.proofs.Common.{◌≤◌, ◌≡◌, ℕ, suc, ◌+◌, ◌<◌, Bool, true, false, not, ◌&&◌, List, [], ◌∷◌, ◌++◌, Some, None, length, map, refl, sym, ap, ◌∙◌, arith, subst, append_assoc}
use Rattle.std.specs.Prelude.{nat_le, nat_lt, if◌then◌else◌}
use Rattle.std.specs.Option.{option_or}
use Rattle.std.proofs.lemmas.Bool.{and_from}
use Rattle.std.proofs.lemmas.Bool.Decides.{nat_tests}
use Rattle.stx_base.specs.declared.fault.XmlKind.TheVariants.{Misplaced, Mismatch, TextTooLong, TooDeep}
use Rattle.stx_base.specs.declared.limits.Limits.{Limits}
use Rattle.stx_base.specs.declared.name.Binding.{Binding}
use Rattle.xml_tokens.specs.declared.lexeme.Body.{Body}
use Rattle.xml_tokens.specs.declared.lexeme.Body.TheVariants as body
use Rattle.xml_tokens.specs.declared.lexeme.Lexeme.{Lexeme}
use Rattle.xml_tokens.specs.declared.lexeme.RawAttr.{RawAttr}
use Rattle.xml_names.specs.Tag.{declarations, into, name_fault, resolved}
use Rattle.xml_events.specs.Before.{Before, before_next, fault_of, is_inside}
use Rattle.xml_events.specs.Document.{Item, Closes, Opens, Says, Stands, element_at, items_of, text_before, with_item, with_items}
use Rattle.xml_events.specs.Flatten.{is_closed}
use Rattle.xml_events.specs.Laws.{AreSound, all_items, behind}
use Rattle.xml_events.specs.Tree as tree
use Rattle.xml_events.specs.Tree.{Element, Forest, Fresh, Future, Mark, Single, Waiting}
use Rattle.xml_names.proofs.Paths.{take-last}
use Rattle.result_writer.specs.Nodes.{Nodes, End, CData, Comment, Instruction, Nested, expanded_attr, expanded_name, text_before as node_before}
use Rattle.result_writer.specs.declared.tag.HeldTag.{HeldTag}
use Rattle.read_back.specs.Read.{nodes_of}
use Rattle.read_back.proofs.Tests.{same-of}

-- Lexemes that stand somewhere

abbrev pub lex : (places : ℕ → ℕ) → List Body → List Lexeme
lex o [] = []
lex o (b ∷ bs) = record { offset = o 0; body = b } ∷ lex (λ i. o (suc i)) bs

pub lex_append : (o : ℕ → ℕ) (as_ bs : List Body) → (p : ℕ → ℕ) × (lex o (as_ ++ bs) ≡ lex o as_ ++ lex p bs)
lex_append o [] bs = (o, refl)
lex_append o (a ∷ as_) bs =
    let later = lex_append (λ i. o (suc i)) as_ bs in (later.0, ap (λ l. record { offset = o 0; body = a } ∷ l) later.1)

-- Lists

behind_append : (b : Before) (xs ys : List Lexeme) → behind b (xs ++ ys) ≡ behind (behind b xs) ys
behind_append b [] ys = refl
behind_append b (x ∷ xs) ys = behind_append (before_next b x.body) xs ys

sound_append : (limits : Limits) (b : Before) (xs ys : List Lexeme) → AreSound limits b xs → AreSound limits (behind b xs) ys → AreSound limits b (xs ++ ys)
sound_append limits b [] ys h k = k
sound_append limits b (x ∷ xs) ys h k = (h.0, sound_append limits (before_next b x.body) xs ys h.1 k)

items_append : (b : Before) (xs ys : List Lexeme) → all_items b (xs ++ ys) ≡ all_items b xs ++ all_items (behind b xs) ys
items_append b [] ys = refl
items_append b (x ∷ xs) ys =
    ap (λ l. items_of b x.offset x.body ++ l) (items_append (before_next b x.body) xs ys)
    ∙ sym (append_assoc (items_of b x.offset x.body) (all_items (before_next b x.body) xs) (all_items (behind (before_next b x.body) xs) ys))

pub with_append : (is js : List Item) (f : Future) → with_items (is ++ js) f ≡ with_items is (with_items js f)
with_append [] js f = refl
with_append (i ∷ is) js f = ap (with_item i) (with_append is js f)

-- What is before a lexeme

abbrev pub at : (cdata : Bool) (names : List (List ℕ)) (path : List (List Binding)) (rooted : Bool) (chars : ℕ) → Before
at cdata names path rooted chars = record { names = names; path = path; rooted = rooted; typed = false; chars = chars; cdata = cdata }

-- a text before a tree is one before its nodes
text_nodes : (offset : ℕ) (text : List ℕ) (t : Forest) → is_closed t ≡ true → (nodes_of (text_before offset text t) ≡ node_before text (nodes_of t)) × (is_closed (text_before offset text t) ≡ true)
text_nodes offset [] (tree.End m end) h = (refl, refl)
text_nodes offset [] (tree.Cut why) h = absurd cc
text_nodes offset [] (Single m (tree.Chars later text) next) h = (refl, h)
text_nodes offset [] (Single m (tree.CData later text) next) h = (refl, h)
text_nodes offset [] (Single m (tree.Comment later text) next) h = (refl, h)
text_nodes offset [] (Single m (tree.Pi later target text) next) h = (refl, h)
text_nodes offset [] (tree.Nested stage element kids next) h = (refl, h)
text_nodes offset (c ∷ cs) (tree.End m end) h = (refl, refl)
text_nodes offset (c ∷ cs) (tree.Cut why) h = absurd cc
text_nodes offset (c ∷ cs) (Single m (tree.Chars later text) next) h = (refl, h)
text_nodes offset (c ∷ cs) (Single m (tree.CData later text) next) h = (refl, h)
text_nodes offset (c ∷ cs) (Single m (tree.Comment later text) next) h = (refl, h)
text_nodes offset (c ∷ cs) (Single m (tree.Pi later target text) next) h = (refl, h)
text_nodes offset (c ∷ cs) (tree.Nested stage element kids next) h = (refl, h)

-- the characters of a lexeme that is text, or may be, and of all these lexemes
abbrev pub chars_of : Body → ℕ
chars_of (body.Chars text blank) = length text
chars_of (body.CData text) = length text
chars_of other = 0

abbrev pub size : List Body → ℕ
size [] = 0
size (b ∷ bs) = chars_of b + size bs

size_append : (as_ bs : List Body) → size (as_ ++ bs) ≡ size as_ + size bs
size_append [] bs = omega arith
size_append (a ∷ as_) bs = omega (arith, size_append as_ bs)

module _ (limits : Limits) (cdata : Bool) where
  -- no lexeme has a fault, and this stands behind them
  pub record Run (b : Before) (ls : List Lexeme) (c : Before) : Type 0 where
    pub sound : AreSound limits b ls
    pub behind : behind b ls ≡ c

  run_append : (b c d : Before) (xs ys : List Lexeme) → Run b xs c → Run c ys d → Run b (xs ++ ys) d
  run_append b c d xs ys h k = record {
    sound = sound_append limits b xs ys h.sound (subst (λ x. AreSound limits x ys) (sym h.behind) k.sound);
    behind = behind_append b xs ys ∙ ap (λ x. behind x ys) h.behind ∙ k.behind;
  }

  -- the lexemes are these nodes, before the end of a list
  abbrev pub Tree : Before → List Lexeme → Nodes → Type 0
  Tree b ls n = (m : Mark) (end : ℕ) (fs : Future) → (t : Forest) × (with_items (all_items b ls) (tree.End m end ∷ fs) ≡ t ∷ fs) × (nodes_of t ≡ n) × (is_closed t ≡ true)

  -- where no text gets too long, the lexemes stand there without a fault, leave the same elements open, and are these nodes
  abbrev pub Gives : (names : List (List ℕ)) (path : List (List Binding)) (rooted : Bool) (chars : ℕ) → List Body → Nodes → Type 0
  Gives names path rooted chars bs n =
      chars + size bs ≤ limits.text → (o : ℕ → ℕ)
      → (more : ℕ) × Run (at cdata names path rooted chars) (lex o bs) (at cdata names path true more) × Tree (at cdata names path rooted chars) (lex o bs) n

  -- where a text begins
  start_text : (k n l : ℕ) → k + (0 + n) ≤ l → 0 + n ≤ l
  start_text k n l h = omega (arith, h)

  module _ (names : List (List ℕ)) (path : List (List Binding)) where
    pub gives_end : (k : ℕ) → Gives names path true k [] End
    gives_end k fit o = (k, record { sound = tt; behind = refl }, λ m end fs. (tree.End m end, refl, refl, refl))

    pub gives_comment : (r : Bool) (k : ℕ) (text : List ℕ) (bs : List Body) (n : Nodes) → Gives names path r 0 bs n → Gives names path r k (body.Comment text ∷ bs) (Comment text n)
    gives_comment r k text bs n g fit o =
        let later = g (start_text k (size bs) limits.text fit) (λ i. o (suc i)) in (
          later.0,
          record { sound = (refl, later.1.sound); behind = later.1.behind },
          λ m end fs. let t = later.2 m end fs in (Single Fresh (tree.Comment (o 0) text) t.0, ap (with_item (Stands (tree.Comment (o 0) text))) t.1, ap (Comment text) t.2, t.3),
        )

    pub gives_instruction : (r : Bool) (k : ℕ) (target text : List ℕ) (bs : List Body) (n : Nodes) → Gives names path r 0 bs n → Gives names path r k (body.Pi target text ∷ bs) (Instruction target text n)
    gives_instruction r k target text bs n g fit o =
        let later = g (start_text k (size bs) limits.text fit) (λ i. o (suc i)) in (
          later.0,
          record { sound = (refl, later.1.sound); behind = later.1.behind },
          λ m end fs. let t = later.2 m end fs in (Single Fresh (tree.Pi (o 0) target text) t.0, ap (with_item (Stands (tree.Pi (o 0) target text))) t.1, ap (Instruction target text) t.2, t.3),
        )

  short : (k n m l : ℕ) → k + (n + m) ≤ l → nat_lt l (k + n) ≡ false
  short k n m l h = grind (arith, nat_tests)

  later_text : (k n m l : ℕ) → k + (n + m) ≤ l → k + n + m ≤ l
  later_text k n m l h = omega (arith, h)

  -- within an element
  module _ (first : List ℕ) (others : List (List ℕ)) (path : List (List Binding)) where
    abbrev names : List (List ℕ)
    names = first ∷ others

    pub gives_text : (k : ℕ) (text : List ℕ) (blank : Bool) (bs : List Body) (n : Nodes) → ((k : ℕ) → Gives names path true k bs n) → Gives names path true k (body.Chars text blank ∷ bs) (node_before text n)
    gives_text k text blank bs n g fit o =
        let later = g (k + length text) (later_text k (length text) (size bs) limits.text fit) (λ i. o (suc i)) in (
          later.0,
          record { sound = (ap (λ t. if t then Some TextTooLong else None) (short k (length text) (size bs) limits.text fit), later.1.sound); behind = later.1.behind },
          λ m end fs.
              let t = later.2 m end fs in
              let both = text_nodes (o 0) text t.0 t.3 in (
                text_before (o 0) text t.0,
                ap (with_item (Says (o 0) text)) t.1,
                both.0 ∙ ap (node_before text) t.2,
                both.1,
              ),
        )

  -- An element

  element_text : (k all inner behind l : ℕ) → k + (0 + all) ≤ l → all ≡ inner + (0 + behind) → (0 + inner ≤ l) × (0 + behind ≤ l)
  element_text k all inner behind l h e = (omega (arith, h, e), omega (arith, h, e))

  -- what a start tag says on a path
  pub record Names (path : List (List Binding)) (word : List ℕ) (raw : List RawAttr) (tag : HeldTag) : Type 0 where
    pub fault : name_fault path word raw ≡ None
    pub name : expanded_name (resolved path word raw).name ≡ expanded_name tag.name
    pub attrs : map expanded_attr (resolved path word raw).attrs ≡ map expanded_attr tag.attrs

  module _ (names : List (List ℕ)) (path : List (List Binding)) (r : Bool) (k : ℕ) (word : List ℕ) (raw : List RawAttr) (tag : HeldTag)
      (is : Names path word raw tag) (open_ : (r && not (is_inside names)) ≡ false) (deep : length names < limits.depth) where
    abbrev element : HeldTag
    element = record { name = expanded_name tag.name; scope = []; attrs = map expanded_attr tag.attrs }

    abbrev here : Before
    here = at cdata names path r k

    room : nat_le limits.depth (length names) ≡ false
    room = less limits.depth (length names) deep where
      less : (n m : ℕ) → m < n → nat_le n m ≡ false
      less n m h = grind (arith, nat_tests)

    no_fault : (empty : Bool) → fault_of limits here (body.Start word raw empty) ≡ None
    no_fault empty =
        (λ i. if open_ i then Some Misplaced else option_or (name_fault path word raw) (if nat_le limits.depth (length names) then Some TooDeep else None))
        ∙ (λ i. option_or (is.fault i) (if room i then Some TooDeep else None))

    nested : (offset : ℕ) (kids next : Forest) (n m : Nodes) → nodes_of kids ≡ n → nodes_of next ≡ m
        → nodes_of (tree.Nested Waiting (element_at offset (resolved path word raw)) kids next) ≡ Nested element n m
    nested offset kids next n m h g = λ i. Nested (record { name = is.name i; scope = []; attrs = is.attrs i }) (h i) (g i)

    pub gives_empty : (bs : List Body) (n : Nodes) → Gives names path true 0 bs n → Gives names path r k (body.Start word raw true ∷ bs) (Nested element End n)
    gives_empty bs n g fit o =
        let later = g (start_text k (size bs) limits.text fit) (λ i. o (suc i)) in (
          later.0,
          record { sound = (no_fault true, later.1.sound); behind = later.1.behind },
          λ m end fs.
              let t = later.2 m end fs in
              let start = element_at (o 0) (resolved path word raw) in (
                tree.Nested Waiting start (tree.End Fresh (o 0)) t.0,
                ap (λ f. with_item (Opens start) (with_item (Closes (o 0)) f)) t.1,
                nested (o 0) (tree.End Fresh (o 0)) t.0 End n refl t.2,
                t.3,
              ),
        )

    pub gives_element : (kids bs : List Body) (inside n : Nodes) → Gives (word ∷ names) (into path raw) true 0 kids inside → Gives names path true 0 bs n
        → Gives names path r k (body.Start word raw false ∷ ((kids ++ body.End word ∷ []) ++ bs)) (Nested element inside n)
    gives_element kids bs inside n g h fit o =
        let whole : (kids ++ body.End word ∷ []) ++ bs ≡ kids ++ body.End word ∷ bs = append_assoc kids (body.End word ∷ []) bs in
        let parts : size ((kids ++ body.End word ∷ []) ++ bs) ≡ size kids + (0 + size bs) = ap size whole ∙ size_append kids (body.End word ∷ bs) in
        let fits_all = element_text k (size ((kids ++ body.End word ∷ []) ++ bs)) (size kids) (size bs) limits.text fit parts in
        let next = λ (i : ℕ). o (suc i) in
        let split = lex_append next kids (body.End word ∷ bs) in
        let deeper = at cdata (word ∷ names) (into path raw) true 0 in
        let first = g fits_all.0 next in
        let second = h fits_all.1 (λ i. split.0 (suc i)) in
        let kid_lexemes = lex next kids in
        let last : Lexeme = record { offset = split.0 0; body = body.End word } in
        let rest = lex (λ i. split.0 (suc i)) bs in
        let all : lex next ((kids ++ body.End word ∷ []) ++ bs) ≡ kid_lexemes ++ last ∷ rest = ap (lex next) whole ∙ split.1 in
        let within = at cdata (word ∷ names) (into path raw) true first.0 in
        let out : before_next within (body.End word) ≡ at cdata names path true 0 = ap (λ q. at cdata names q true 0) (take-last path (declarations raw)) in
        let closed : fault_of limits within (body.End word) ≡ None = ap (λ t. if t then None else Some Mismatch) (same-of word word refl) in
        let tail : Run within (last ∷ rest) (at cdata names path true second.0) = record {
          sound = (closed, subst (λ b. AreSound limits b rest) (sym out) second.1.sound);
          behind = ap (λ b. behind b rest) out ∙ second.1.behind;
        } in
        let run = run_append deeper within (at cdata names path true second.0) kid_lexemes (last ∷ rest) first.1 tail in (
          second.0,
          record {
            sound = (no_fault false, subst (AreSound limits deeper) (sym all) run.sound);
            behind = ap (behind deeper) all ∙ run.behind;
          },
          λ m end fs.
              let t = second.2 m end fs in
              let u = first.2 Fresh (split.0 0) (t.0 ∷ fs) in
              let start = element_at (o 0) (resolved path word raw) in
              let items : with_items (all_items deeper (lex next ((kids ++ body.End word ∷ []) ++ bs))) (tree.End m end ∷ fs) ≡ u.0 ∷ t.0 ∷ fs =
              ap (λ l. with_items (all_items deeper l) (tree.End m end ∷ fs)) all
              ∙ ap (λ l. with_items l (tree.End m end ∷ fs)) (items_append deeper kid_lexemes (last ∷ rest))
              ∙ with_append (all_items deeper kid_lexemes) (all_items (behind deeper kid_lexemes) (last ∷ rest)) (tree.End m end ∷ fs)
              ∙ ap (λ b. with_items (all_items deeper kid_lexemes) (with_items (all_items b (last ∷ rest)) (tree.End m end ∷ fs))) first.1.behind
              ∙ ap (λ b. with_items (all_items deeper kid_lexemes) (with_item (Closes (split.0 0)) (with_items (all_items b rest) (tree.End m end ∷ fs)))) out
              ∙ ap (λ f. with_items (all_items deeper kid_lexemes) (with_item (Closes (split.0 0)) f)) t.1
              ∙ u.1 in (
                tree.Nested Waiting start u.0 t.0,
                ap (with_item (Opens start)) items,
                nested (o 0) u.0 t.0 inside n u.2 t.2,
                and_from (is_closed u.0) (is_closed t.0) u.3 t.3,
              ),
        )

-- within an element a section is a node, or text like other
pub gives_section : (limits : Limits) (cdata : Bool) (first : List ℕ) (others : List (List ℕ)) (path : List (List Binding)) (k : ℕ) (text : List ℕ) (bs : List Body) (n : Nodes)
    → ((k : ℕ) → Gives limits cdata (first ∷ others) path true k bs n) → Gives limits cdata (first ∷ others) path true k (body.CData text ∷ bs) (if cdata then CData text n else node_before text n)
gives_section limits true first others path k text bs n g fit o =
    let later = g 0 (alone k (length text) (size bs) limits.text fit) (λ i. o (suc i)) in (
      later.0,
      record { sound = (ap (λ t. if t then Some TextTooLong else None) (short limits true 0 (length text) (size bs) limits.text (first_text k (length text) (size bs) limits.text fit)), later.1.sound); behind = later.1.behind },
      λ m end fs. let t = later.2 m end fs in (Single Fresh (tree.CData (o 0) text) t.0, ap (with_item (Stands (tree.CData (o 0) text))) t.1, ap (CData text) t.2, t.3),
    ) where
      alone : (k n m l : ℕ) → k + (n + m) ≤ l → 0 + m ≤ l
      alone k n m l h = omega (arith, h)

      first_text : (k n m l : ℕ) → k + (n + m) ≤ l → 0 + (n + m) ≤ l
      first_text k n m l h = omega (arith, h)
gives_section limits false first others path k text bs n g fit o =
    let later = g (k + length text) (later_text limits false k (length text) (size bs) limits.text fit) (λ i. o (suc i)) in (
      later.0,
      record { sound = (ap (λ t. if t then Some TextTooLong else None) (short limits false k (length text) (size bs) limits.text fit), later.1.sound); behind = later.1.behind },
      λ m end fs.
          let t = later.2 m end fs in
          let both = text_nodes (o 0) text t.0 t.3 in (
            text_before (o 0) text t.0,
            ap (with_item (Says (o 0) text)) t.1,
            both.0 ∙ ap (node_before text) t.2,
            both.1,
          ),
    )
