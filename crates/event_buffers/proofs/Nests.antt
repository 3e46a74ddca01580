-- No copy nests deeper than it may.
use Rattle.std.proofs.Common.{◌≡◌, ℕ, suc, ◌+◌, ◌-◌, ◌<◌, ◌≤◌, ◌==◌, Bool, true, false, cond, List, [], ◌∷◌, ◌++◌, Option, Some, None, length, map, refl, sym, ap, ◌∙◌, subst, arith, append-nil, append_assoc, ⊎_elim}
use Rattle.std.specs.Prelude.{if◌then◌else◌, nat_lt, unwrap_or, slice_set}
use Rattle.std.specs.List.{All, find}
use Rattle.std.specs.Option.{option_and_then, option_map, option_to_list}
use Rattle.std.proofs.lemmas.Bool.{lt-ltb, ltb-true}
use Rattle.std.proofs.lemmas.List.Elements.{All-cons, All-get_or, All-head, All-map, All-nil, All-set, All-tail, All-weaker}
use Rattle.std.proofs.lemmas.Option.{slice_get_cases}
use Rattle.stx_base.specs.declared.name.Name.{Name}
use Rattle.stx_base.specs.declared.part.Part.{Part}
use Rattle.stx_base.specs.declared.part.Part.TheVariants as part
use Rattle.result_writer.specs.Allowed.{is_good_name}
use Rattle.result_writer.specs.Opened.{settled_tag}
use Rattle.result_writer.specs.Target as target
use Rattle.result_writer.specs.Target.{Element, Left, Target, depth, end_of, fault, first_fault, innermost, is_closed, left_by, next, nothing, or_else, settled, unless, whole_fault}
use Rattle.result_writer.specs.declared.fault.ResultFault.{ResultFault}
use Rattle.result_writer.specs.declared.fault.ResultFault.TheVariants.{BadName, ResultDepth, UnclosedResult}
use Rattle.result_writer.specs.declared.tag.HeldTag.{HeldTag}
use Rattle.xml_events.specs.declared.event.Event.{Event}
use Rattle.xml_events.specs.declared.event.Event.TheVariants as event
use Rattle.event_buffers.specs.Buffers.{Buffer, Buffers, buffer_at, held_by, in_group, is_read, is_written, newest, none, on_first, on_newest, read, taken_off, with_copies}
use Rattle.event_buffers.specs.Kept.{added, kept_from}
use Rattle.event_buffers.specs.Laws.{ClosingIsShallow, DeclaredIsShallow, LayingIsShallow, OpeningIsShallow, PuttingIsShallow, ToldIsShallow}
use Rattle.event_buffers.specs.Layer.{Layer, Reading, Shut, State, Writing, busy, closed, contents, fault_in, is_reading, is_shut, is_whole, laid, opened_read, opened_write, or_full, put_into, refusal, unclosed, with_part}
use Rattle.event_buffers.specs.Nesting.{AreShallow, HasRoom, HasShallowCopies, IsShallow, IsShallowContent, NestWithin, TellWithin, behind_part, deepest_from, open_behind, open_in}
use Rattle.event_buffers.specs.Told.{text_before, told}
use Rattle.event_buffers.specs.declared.fault.BufferFault.TheVariants.{Busy, Result}
use Rattle.event_buffers.specs.declared.kept.Kept.{Kept}
use Rattle.event_buffers.specs.declared.kept.Kept.TheVariants.{Start, End, Chars, CData, Comment, Pi}

-- Lists of what is kept

nest-append : (limit n : ℕ) (xs ys : List Kept) → NestWithin limit n xs → NestWithin limit (open_behind n xs) ys → NestWithin limit n (xs ++ ys)
nest-append limit n [] ys h k = k
nest-append limit n (Start tag ∷ xs) ys h k = (h.0, nest-append limit (n + 1) xs ys h.1 k)
nest-append limit n (End ∷ xs) ys h k = nest-append limit (n - 1) xs ys h k
nest-append limit n (Chars text ∷ xs) ys h k = nest-append limit n xs ys h k
nest-append limit n (CData text ∷ xs) ys h k = nest-append limit n xs ys h k
nest-append limit n (Comment text ∷ xs) ys h k = nest-append limit n xs ys h k
nest-append limit n (Pi target text ∷ xs) ys h k = nest-append limit n xs ys h k

open_behind-append : (n : ℕ) (xs ys : List Kept) → open_behind n (xs ++ ys) ≡ open_behind (open_behind n xs) ys
open_behind-append n [] ys = refl
open_behind-append n (Start tag ∷ xs) ys = open_behind-append (n + 1) xs ys
open_behind-append n (End ∷ xs) ys = open_behind-append (n - 1) xs ys
open_behind-append n (Chars text ∷ xs) ys = open_behind-append n xs ys
open_behind-append n (CData text ∷ xs) ys = open_behind-append n xs ys
open_behind-append n (Comment text ∷ xs) ys = open_behind-append n xs ys
open_behind-append n (Pi target text ∷ xs) ys = open_behind-append n xs ys

-- Parts

unless_none : (t : Bool) (f : ResultFault) (o : Option ResultFault) → unless t f o ≡ None → (t ≡ true) × (o ≡ None)
unless_none true f o h = (refl, h)
unless_none false f o h = absurd cc

one_up : (n : ℕ) → n + 1 ≡ suc n
one_up n = omega arith

module _ (limit most : ℕ) (m : most ≤ limit) where
  -- a tag that is settled opens its element
  settles : (elements : List Element) (held : Option HeldTag) (ks : List Kept) → depth elements held ≤ most → NestWithin limit (length (settled elements held)) ks
      → NestWithin limit (length elements) (option_to_list (option_map Start (settled_tag elements held)) ++ ks)
  settles elements None ks d h = h
  settles elements (Some tag) ks d h = (omega arith, subst (λ n. NestWithin limit n ks) (sym (one_up (length elements))) h)

settles_open : (elements : List Element) (held : Option HeldTag) (ks : List Kept)
    → open_behind (length elements) (option_to_list (option_map Start (settled_tag elements held)) ++ ks) ≡ open_behind (length (settled elements held)) ks
settles_open elements None ks = refl
settles_open elements (Some tag) ks = ap (λ n. open_behind n ks) (one_up (length elements))

settled_depth : (elements : List Element) (held : Option HeldTag) → length (settled elements held) ≤ depth elements held
settled_depth elements None = omega arith
settled_depth elements (Some tag) = omega arith

same_depth : (elements : List Element) (held : Option HeldTag) (name : Name) (value : List ℕ) → depth elements (target.added held name value) ≡ depth elements held
same_depth elements None name value = refl
same_depth elements (Some tag) name value = refl

-- what a part does to the number of open elements
record Goes (limit : ℕ) (t : Target) (p : Part) : Type 0 where
  within : NestWithin limit (length t.left.elements) (added t.left p)
  open_ones : open_behind (length t.left.elements) (added t.left p) ≡ length (next t.left p).elements
  room : depth (next t.left p).elements (next t.left p).held ≤ t.limit

-- an end of the innermost element
ends : (limit most : ℕ) (elements : List Element) (held : Option HeldTag) (name : Name) → most ≤ limit → depth elements held ≤ most
    → end_of (innermost elements held) name ≡ None
    → NestWithin limit (length elements) (option_to_list (option_map Start (settled_tag elements held)) ++ End ∷ [])
    × (open_behind (length elements) (option_to_list (option_map Start (settled_tag elements held)) ++ End ∷ []) ≡ length (target.closed elements held))
    × (depth (target.closed elements held) None ≤ most)
ends limit most elements (Some tag) name m d h = ((omega arith, tt), omega arith, omega arith)
ends limit most [] None name m d h = absurd cc
ends limit most (e ∷ outer) None name m d h = (tt, omega arith, omega arith)

-- a leaf
leaf : (limit : ℕ) (t : Target) (k : Kept) → t.limit ≤ limit → depth t.left.elements t.left.held ≤ t.limit
    → ((n : ℕ) → NestWithin limit n (k ∷ [])) → ((n : ℕ) → open_behind n (k ∷ []) ≡ n)
    → NestWithin limit (length t.left.elements) (option_to_list (option_map Start (settled_tag t.left.elements t.left.held)) ++ k ∷ [])
    × (open_behind (length t.left.elements) (option_to_list (option_map Start (settled_tag t.left.elements t.left.held)) ++ k ∷ []) ≡ length (settled t.left.elements t.left.held))
    × (length (settled t.left.elements t.left.held) ≤ t.limit)
leaf limit t k m d nests opens = (
  settles limit t.limit m t.left.elements t.left.held (k ∷ []) d (nests (length (settled t.left.elements t.left.held))),
  settles_open t.left.elements t.left.held (k ∷ []) ∙ opens (length (settled t.left.elements t.left.held)),
  (let s = settled_depth t.left.elements t.left.held in omega (arith, s)),
)

goes : (limit : ℕ) (t : Target) (p : Part) → t.limit ≤ limit → depth t.left.elements t.left.held ≤ t.limit → fault t.limit t.left p ≡ None → Goes limit t p
goes limit t (part.Start name scope) m d f =
    let good = unless_none (is_good_name name) _ _ f in
    let room = unless_none (nat_lt (depth t.left.elements t.left.held) t.limit) _ _ good.1 in
    let less : depth t.left.elements t.left.held < t.limit = ltb-true _ _ room.0 in
    let s = settled_depth t.left.elements t.left.held in record {
      within = settles limit t.limit m t.left.elements t.left.held [] d tt;
      open_ones = settles_open t.left.elements t.left.held [];
      room = omega (arith, s, less);
    }
goes limit t (part.Attribute name value) m d f = record {
  within = tt;
  open_ones = refl;
  room = subst (λ n. n ≤ t.limit) (sym (same_depth t.left.elements t.left.held name value)) d;
}
goes limit t (part.End name) m d f =
    let good = unless_none (is_good_name name) _ _ f in
    let e = ends limit t.limit t.left.elements t.left.held name m d good.1 in
    record { within = e.0; open_ones = e.1; room = e.2 }
goes limit t (part.Chars text) m d f = let k = leaf limit t (Chars text) m d (λ n. tt) (λ n. refl) in record { within = k.0; open_ones = k.1; room = k.2 }
goes limit t (part.CData text) m d f = let k = leaf limit t (CData text) m d (λ n. tt) (λ n. refl) in record { within = k.0; open_ones = k.1; room = k.2 }
goes limit t (part.Comment text) m d f = let k = leaf limit t (Comment text) m d (λ n. tt) (λ n. refl) in record { within = k.0; open_ones = k.1; room = k.2 }
goes limit t (part.Pi aim text) m d f = let k = leaf limit t (Pi aim text) m d (λ n. tt) (λ n. refl) in record { within = k.0; open_ones = k.1; room = k.2 }

-- Declared content

or_else_none : (a b : Option ResultFault) → or_else a b ≡ None → (a ≡ None) × (b ≡ None)
or_else_none None b h = (refl, h)
or_else_none (Some f) b h = absurd cc

closed_none : (elements : List Element) (held : Option HeldTag) → is_closed elements held ≡ true → length elements ≡ 0
closed_none elements (Some tag) h = absurd cc
closed_none [] None h = refl
closed_none (e ∷ outer) None h = absurd cc

is_true : (t : Bool) (f : ResultFault) → (if t then None else Some f) ≡ None → t ≡ true
is_true true f h = refl
is_true false f h = absurd cc

at_least : (n : ℕ) (ps : List Part) → n ≤ deepest_from n ps
at_least n [] = omega arith
at_least n (p ∷ ps) = omega arith

settled_is : (elements : List Element) (held : Option HeldTag) → length (settled elements held) ≡ depth elements held
settled_is elements None = refl
settled_is elements (Some tag) = omega arith

closed_is : (elements : List Element) (held : Option HeldTag) → length (target.closed elements held) ≡ depth elements held - 1
closed_is elements (Some tag) = omega arith
closed_is [] None = refl
closed_is (e ∷ outer) None = omega arith

depth_next : (l : Left) (p : Part) → depth (next l p).elements (next l p).held ≡ behind_part (depth l.elements l.held) p
depth_next l (part.Start name scope) = ap (λ n. n + 1) (settled_is l.elements l.held)
depth_next l (part.Attribute name value) = same_depth l.elements l.held name value
depth_next l (part.End name) = closed_is l.elements l.held
depth_next l (part.Chars text) = settled_is l.elements l.held
depth_next l (part.CData text) = settled_is l.elements l.held
depth_next l (part.Comment text) = settled_is l.elements l.held
depth_next l (part.Pi aim text) = settled_is l.elements l.held

-- the limit matters to starts alone
judged : (most limit : ℕ) (l : Left) (p : Part) → fault most l p ≡ None → behind_part (depth l.elements l.held) p ≤ limit → fault limit l p ≡ None
judged most limit l (part.Start name scope) f within =
    let good = unless_none (is_good_name name) _ _ f in
    let room : nat_lt (depth l.elements l.held) limit ≡ true = lt-ltb _ _ (omega arith) in
    ap (λ t. unless t BadName (unless (nat_lt (depth l.elements l.held) limit) ResultDepth None)) good.0 ∙ ap (λ t. unless t ResultDepth None) room
judged most limit l (part.Attribute name value) f within = f
judged most limit l (part.End name) f within = f
judged most limit l (part.Chars text) f within = f
judged most limit l (part.CData text) f within = f
judged most limit l (part.Comment text) f within = f
judged most limit l (part.Pi aim text) f within = f

all_kept : (most limit : ℕ) (ps : List Part) (l : Left) → first_fault most l ps ≡ None → deepest_from (depth l.elements l.held) ps ≤ limit
    → NestWithin limit (length l.elements) (kept_from l ps) × (open_behind (length l.elements) (kept_from l ps) ≡ length (left_by l ps).elements)
all_kept most limit [] l h deep = (tt, refl)
all_kept most limit (p ∷ ps) l h deep =
    let both = or_else_none (fault most l p) (first_fault most (next l p) ps) h in
    let t : Target = record { limit = limit; left = l; last = [] } in
    let least = at_least (behind_part (depth l.elements l.held) p) ps in
    let here : depth l.elements l.held ≤ limit = omega arith in
    let g = goes limit t p (omega arith) here (judged most limit l p both.0 (omega (arith, least, deep))) in
    let rest = all_kept most limit ps (next l p) both.1 (subst (λ n. deepest_from n ps ≤ limit) (sym (depth_next l p)) (omega (arith, deep))) in (
      nest-append limit (length l.elements) (added l p) (kept_from (next l p) ps) g.within (subst (λ n. NestWithin limit n (kept_from (next l p) ps)) (sym g.open_ones) rest.0),
      open_behind-append (length l.elements) (added l p) (kept_from (next l p) ps) ∙ ap (λ n. open_behind n (kept_from (next l p) ps)) g.open_ones ∙ rest.1,
    )

pub declared_is_shallow : DeclaredIsShallow
declared_is_shallow most limit ps h deep =
    let both = or_else_none (first_fault most nothing ps) (if is_closed (left_by nothing ps).elements (left_by nothing ps).held then None else Some UnclosedResult) h in
    let all = all_kept most limit ps nothing both.0 deep in (
      all.0,
      all.1 ∙ closed_none (left_by nothing ps).elements (left_by nothing ps).held (is_true _ UnclosedResult both.1),
    )

-- One copy

contents-more : (b : Bool) (declared kept more : List Kept) → (if b then declared ++ (kept ++ more) else kept ++ more) ≡ (if b then declared ++ kept else kept) ++ more
contents-more true declared kept more = sym (append_assoc declared kept more)
contents-more false declared kept more = refl

module _ (limit : ℕ) (declared : List Kept) where
  put_shallow : (p : Part) (c : Layer) → IsShallow limit declared c → fault_in c.state p ≡ None → IsShallow limit declared (with_part p c)
  put_shallow p c h f = by_state c.state h.open_ones h.room f where
    by_state : (s : State) → open_behind 0 (contents declared c) ≡ open_in s → HasRoom limit s → fault_in s p ≡ None → IsShallow limit declared (put_into s p c)
    by_state Shut opens room fine = h
    by_state Reading opens room fine = h
    by_state (Writing t) opens room fine =
        let g = goes limit t p room.0 room.1 fine in
        let more = contents-more c.declared declared c.kept (added t.left p) in record {
          within = subst (NestWithin limit 0) (sym more)
              (nest-append limit 0 (contents declared c) (added t.left p) h.within (subst (λ n. NestWithin limit n (added t.left p)) (sym opens) g.within));
          open_ones = ap (open_behind 0) more ∙ open_behind-append 0 (contents declared c) (added t.left p) ∙ ap (λ n. open_behind n (added t.left p)) opens ∙ g.open_ones;
          room = (room.0, g.room);
        }

  shut_none : (s : State) → (if is_shut s then None else Some Busy) ≡ None → open_in s ≡ 0
  shut_none Shut h = refl
  shut_none (Writing t) h = absurd cc
  shut_none Reading h = refl

  open_shallow : (elements : ℕ) (clear : Bool) (c : Layer) → elements ≤ limit → IsShallow limit declared c → busy c ≡ None → IsShallow limit declared (opened_write elements clear c)
  open_shallow elements true c less h free = record { within = tt; open_ones = refl; room = (less, omega arith) }
  open_shallow elements false c less h free = record { within = h.within; open_ones = h.open_ones ∙ shut_none c.state free; room = (less, omega arith) }

  read_shallow : (c : Layer) → IsShallow limit declared c → busy c ≡ None → IsShallow limit declared (opened_read c)
  read_shallow c h free = record { within = h.within; open_ones = h.open_ones ∙ shut_none c.state free; room = tt }

  whole_none : (s : State) → (if is_whole s then None else Some (Result UnclosedResult)) ≡ None → open_in s ≡ 0
  whole_none Shut h = refl
  whole_none (Writing t) h = closed_none t.left.elements t.left.held (by_test (is_closed t.left.elements t.left.held) h) where
    by_test : (b : Bool) → (if b then None else Some (Result UnclosedResult)) ≡ None → b ≡ true
    by_test true e = refl
    by_test false e = absurd cc
  whole_none Reading h = refl

  close_shallow : (c : Layer) → IsShallow limit declared c → unclosed c ≡ None → IsShallow limit declared (closed c)
  close_shallow c h whole = record { within = h.within; open_ones = h.open_ones ∙ whole_none c.state whole; room = tt }

  reading_none : (s : State) → is_reading s ≡ true → open_in s ≡ 0
  reading_none Shut h = absurd cc
  reading_none (Writing t) h = absurd cc
  reading_none Reading h = refl

  done_shallow : (c : Layer) → IsShallow limit declared c → is_read c ≡ true → IsShallow limit declared (closed c)
  done_shallow c h reading = record { within = h.within; open_ones = h.open_ones ∙ reading_none c.state reading; room = tt }

  laid_shallow : IsShallowContent limit declared → IsShallow limit declared laid
  laid_shallow h = record { within = subst (NestWithin limit 0) (sym (append-nil declared)) h.0; open_ones = ap (open_behind 0) (append-nil declared) ∙ h.1; room = tt }

-- Copies of a buffer

module _ (P : Layer → Type 0) (test : Layer → Bool) where
  all_first : (f : Layer → Layer) (copies : List Layer) → All P copies → ((c : Layer) → find test copies ≡ Some c → test c ≡ true → P c → P (f c)) → All P (on_first test f copies)
  all_first f [] h k = All-nil P
  all_first f (c ∷ cs) h k = by_test (test c) refl (all_first f cs (All-tail P c cs h)) where
    by_test : (t : Bool) → test c ≡ t → (((x : Layer) → find test cs ≡ Some x → test x ≡ true → P x → P (f x)) → All P (on_first test f cs))
        → All P (if t then f c ∷ cs else c ∷ on_first test f cs)
    by_test true e later = All-cons P (f c) cs (k c (ap (λ t. cond t (Some c) (find test cs)) e) e (All-head P c cs h)) (All-tail P c cs h)
    by_test false e later = All-cons P c (on_first test f cs) (All-head P c cs h) (later (λ x is yes px. k x (ap (λ t. cond t (Some c) (find test cs)) e ∙ is) yes px))

  found_holds : (copies : List Layer) (c : Layer) → All P copies → find test copies ≡ Some c → P c
  found_holds [] c h is = absurd cc
  found_holds (x ∷ xs) c h is = by_test (test x) is (λ e. found_holds xs c (All-tail P x xs h) e) where
    by_test : (t : Bool) → cond t (Some x) (find test xs) ≡ Some c → (find test xs ≡ Some c → P c) → P c
    by_test true e later = let same : x ≡ c = cc e in subst P same (All-head P x xs h)
    by_test false e later = later e

all_newest : (P : Layer → Type 0) (f : Layer → Layer) (copies : List Layer) → All P copies → ((c : Layer) → newest copies ≡ Some c → P c → P (f c)) → All P (on_newest f copies)
all_newest P f [] h k = All-nil P
all_newest P f (c ∷ cs) h k = All-cons P (f c) cs (k c refl (All-head P c cs h)) (All-tail P c cs h)

all_taken_off : (P : Layer → Type 0) (copies : List Layer) → All P copies → All P (taken_off copies)
all_taken_off P [] h = h
all_taken_off P (c ∷ cs) h = All-tail P c cs h

-- All buffers

none_shallow : (limit : ℕ) → HasShallowCopies limit none
none_shallow limit = record { declared = (tt, refl); copies = All-nil (IsShallow limit []) }

shallow_at : (limit id : ℕ) (b : Buffers) → AreShallow limit b → HasShallowCopies limit (buffer_at b id)
shallow_at limit id b h =
    ⊎_elim
    (λ s. subst (λ o. HasShallowCopies limit (unwrap_or o none)) (sym s.2)
    (subst (HasShallowCopies limit) s.3 (All-get_or (HasShallowCopies limit) b.buffers id s.0 s.1 h.buffers)))
    (λ s. subst (λ o. HasShallowCopies limit (unwrap_or o none)) (sym s.1) (none_shallow limit))
    (slice_get_cases b.buffers id).1

changed_shallow : (limit id : ℕ) (f : List Layer → List Layer) (b : Buffers) → AreShallow limit b
    → All (IsShallow limit (buffer_at b id).declared) (f (buffer_at b id).copies)
    → AreShallow limit (record b { buffers = slice_set b.buffers id (with_copies f (buffer_at b id)) })
changed_shallow limit id f b h all = record {
  elements = h.elements;
  buffers = All-set (HasShallowCopies limit) b.buffers id (with_copies f (buffer_at b id)) (record { declared = (shallow_at limit id b h).declared; copies = all }) h.buffers;
}

group_shallow : (limit group : ℕ) (f : List Layer → List Layer) (b : Buffers) → AreShallow limit b
    → ((x : Buffer) → HasShallowCopies limit x → All (IsShallow limit x.declared) (f x.copies))
    → AreShallow limit (record b { buffers = map (in_group f group) b.buffers })
group_shallow limit group f b h k = record {
  elements = h.elements;
  buffers = All-map (HasShallowCopies limit) (in_group f group) b.buffers
      (All-weaker (HasShallowCopies limit) (λ x. HasShallowCopies limit (in_group f group x)) (λ x s. by_test x s (x.group == group)) b.buffers h.buffers);
} where
  by_test : (x : Buffer) → HasShallowCopies limit x → (t : Bool) → HasShallowCopies limit (if t then with_copies f x else x)
  by_test x s true = record { declared = s.declared; copies = k x s }
  by_test x s false = s

pub laying_is_shallow : LayingIsShallow
laying_is_shallow limit group b h = (
  group_shallow limit group (λ copies. laid ∷ copies) b h (λ x s. All-cons (IsShallow limit x.declared) laid x.copies (laid_shallow limit x.declared s.declared) s.copies),
  group_shallow limit group taken_off b h (λ x s. all_taken_off (IsShallow limit x.declared) x.copies s.copies),
)

pub opening_is_shallow : OpeningIsShallow
opening_is_shallow limit id clear b h free =
    let at = shallow_at limit id b h in
    let declared = (buffer_at b id).declared in
    let copies = (buffer_at b id).copies in (
      changed_shallow limit id (on_newest (opened_write b.elements clear)) b h
          (all_newest (IsShallow limit declared) (opened_write b.elements clear) copies at.copies
          (λ c is s. open_shallow limit declared b.elements clear c h.elements s (sym (ap (option_and_then busy) is) ∙ free))),
      changed_shallow limit id (on_newest opened_read) b h
          (all_newest (IsShallow limit declared) opened_read copies at.copies (λ c is s. read_shallow limit declared c s (sym (ap (option_and_then busy) is) ∙ free))),
    )

no_fault : (o : Option ResultFault) (limit weight : ℕ) → or_full o limit weight ≡ None → o ≡ None
no_fault None limit weight h = refl
no_fault (Some f) limit weight h = absurd cc

pub putting_is_shallow : PuttingIsShallow
putting_is_shallow limit id p b h taken =
    let at = shallow_at limit id b h in
    let declared = (buffer_at b id).declared in
    let copies = (buffer_at b id).copies in
    changed_shallow limit id (on_first is_written (with_part p)) b h
    (all_first (IsShallow limit declared) is_written (with_part p) copies at.copies
    (λ c is yes s. put_shallow limit declared p c s (no_fault (fault_in c.state p) b.limit _ (sym (ap (option_and_then (refusal b.limit declared p)) is) ∙ taken))))

pub closing_is_shallow : ClosingIsShallow
closing_is_shallow limit id b h =
    let at = shallow_at limit id b h in
    let declared = (buffer_at b id).declared in
    let copies = (buffer_at b id).copies in (
      λ whole. changed_shallow limit id (on_first is_written closed) b h
          (all_first (IsShallow limit declared) is_written closed copies at.copies
          (λ c is yes s. close_shallow limit declared c s (sym (ap (option_and_then unclosed) is) ∙ whole))),
      changed_shallow limit id (on_first is_read closed) b h
          (all_first (IsShallow limit declared) is_read closed copies at.copies (λ c is yes s. done_shallow limit declared c s yes)),
    )

-- What is told

text_within : (limit n : ℕ) (text : List ℕ) (es : List Event) → TellWithin limit n es → TellWithin limit n (text_before text es)
text_within limit n [] es h = h
text_within limit n (c ∷ cs) [] h = tt
text_within limit n (c ∷ cs) (event.Start offset name attrs decls first ∷ es) h = h
text_within limit n (c ∷ cs) (event.End offset ∷ es) h = h
text_within limit n (c ∷ cs) (event.Chars offset text ∷ es) h = h
text_within limit n (c ∷ cs) (event.CData offset text ∷ es) h = h
text_within limit n (c ∷ cs) (event.Comment offset text ∷ es) h = h
text_within limit n (c ∷ cs) (event.Pi offset target text ∷ es) h = h
text_within limit n (c ∷ cs) (event.DocumentEnd offset ∷ es) h = h

told_within : (limit n : ℕ) (ks : List Kept) → NestWithin limit n ks → TellWithin limit n (told ks)
told_within limit n [] h = tt
told_within limit n (Start tag ∷ ks) h = (h.0, told_within limit (n + 1) ks h.1)
told_within limit n (End ∷ ks) h = told_within limit (n - 1) ks h
told_within limit n (Chars text ∷ ks) h = text_within limit n text (told ks) (told_within limit n ks h)
told_within limit n (CData text ∷ ks) h = told_within limit n ks h
told_within limit n (Comment text ∷ ks) h = told_within limit n ks h
told_within limit n (Pi target text ∷ ks) h = told_within limit n ks h

pub told_is_shallow : ToldIsShallow
told_is_shallow limit id b h =
    let at = shallow_at limit id b h in
    let declared = (buffer_at b id).declared in
    let copies = (buffer_at b id).copies in
    told_within limit 0 (held_by declared (read copies)) (by_found declared copies at.copies (read copies) refl) where
      by_found : (declared : List Kept) (copies : List Layer) → All (IsShallow limit declared) copies → (o : Option Layer) → read copies ≡ o → NestWithin limit 0 (held_by declared o)
      by_found declared copies all None is = tt
      by_found declared copies all (Some c) is = (found_holds (IsShallow limit declared) is_read copies c all is).within
