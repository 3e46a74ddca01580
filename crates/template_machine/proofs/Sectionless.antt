-- Nothing that a run holds is a CDATA section, where nothing that it is given is.
use Rattle.std.proofs.Common.{◌≡◌, ℕ, zero, suc, ◌==◌, Bool, true, false, cond, if◌then◌else◌, List, [], ◌∷◌, ◌++◌, Contains, map, Option, Some, None, unwrap_or, refl, arith}
use Rattle.std.specs.Prelude.{slice_get, slice_set}
use Rattle.std.specs.List.{find}
use Rattle.std.specs.Option.{option_map, option_to_list}
use Rattle.stx_base.specs.declared.part.Part.{Part}
use Rattle.stx_base.specs.declared.part.Part.TheVariants as part
use Rattle.sheet_model.specs.declared.sheet.Buffer as sheet
use Rattle.result_writer.specs.Opened.{settled_by}
use Rattle.result_writer.specs.Target.{Left, next}
use Rattle.result_writer.specs.declared.opened.SettledTag.{SettledTag}
use Rattle.xml_events.specs.Tree as tree
use Rattle.xml_events.specs.Tree.{Forest, Future, End, Cut, Single, Nested}
use Rattle.event_buffers.specs.Buffers.{Buffer, Buffers, buffer_at, copies_of, held_by, in_group, is_read, is_written, none, on_buffer, on_first, on_group, on_newest, read_at, taken_off, with_copies}
use Rattle.event_buffers.specs.Declaring.{declared_by}
use Rattle.event_buffers.specs.Forest.{forest, inner, kept_before, lists, outer, text_before}
use Rattle.event_buffers.specs.Kept.{added, kept, kept_from}
use Rattle.event_buffers.specs.Layer.{Layer, Shut, Writing, Reading, State as Use, closed, contents, laid, opened_read, opened_write, put_into, with_part}
use Rattle.event_buffers.specs.declared.kept.Kept.{Kept}
use Rattle.event_buffers.specs.declared.kept.Kept.TheVariants as keeps
use Rattle.template_machine.specs.Job.{State}
use Rattle.template_machine.specs.Unchanged.{HasNoSections, is_old_part}

abbrev pub IsPlain : Kept → Type 0
IsPlain (keeps.CData text) = ⊥
IsPlain k = Unit {0}

abbrev pub ArePlain : List Kept → Type 0
ArePlain [] = Unit {0}
ArePlain (k ∷ ks) = IsPlain k × ArePlain ks

abbrev pub CopiesPlain : List Layer → Type 0
CopiesPlain [] = Unit {0}
CopiesPlain (c ∷ cs) = ArePlain c.kept × CopiesPlain cs

abbrev pub BufferPlain : Buffer → Type 0
BufferPlain b = ArePlain b.declared × CopiesPlain b.copies

abbrev pub BuffersPlain : List Buffer → Type 0
BuffersPlain [] = Unit {0}
BuffersPlain (b ∷ bs) = BufferPlain b × BuffersPlain bs

-- what a run holds in its buffers
abbrev pub Plain : State → Type 0
Plain st = BuffersPlain st.buffers.buffers

plain_append : (xs ys : List Kept) → ArePlain xs → ArePlain ys → ArePlain (xs ++ ys)
plain_append [] ys h k = k
plain_append (x ∷ xs) ys h k = (h.0, plain_append xs ys h.1 k)

-- Parts.

plain_tag : (o : Option SettledTag) → ArePlain (option_to_list (option_map keeps.Start o))
plain_tag None = tt
plain_tag (Some tag) = (tt, tt)

plain_kept : (p : Part) → is_old_part p ≡ true → ArePlain (option_to_list (kept p))
plain_kept (part.Start name scope) h = tt
plain_kept (part.Attribute name value) h = tt
plain_kept (part.End name) h = (tt, tt)
plain_kept (part.Chars text) h = (tt, tt)
plain_kept (part.CData text) h = cc
plain_kept (part.Comment text) h = (tt, tt)
plain_kept (part.Pi target text) h = (tt, tt)

plain_added : (l : Left) (p : Part) → is_old_part p ≡ true → ArePlain (added l p)
plain_added l p h = plain_append (option_to_list (option_map keeps.Start (settled_by l p))) (option_to_list (kept p)) (plain_tag (settled_by l p)) (plain_kept p h)

plain_from : (l : Left) (ps : List Part) → ((p : Part) → Contains ps p → is_old_part p ≡ true) → ArePlain (kept_from l ps)
plain_from l [] h = tt
plain_from l (p ∷ ps) h =
    plain_append (added l p) (kept_from (next l p) ps) (plain_added l p (h p (zero, omega arith, refl)))
    (plain_from (next l p) ps (λ q among. h q (suc among.0, omega (arith, among.1), among.2)))

-- Copies.

plain_put : (p : Part) → is_old_part p ≡ true → (c : Layer) → ArePlain c.kept → ArePlain (with_part p c).kept
plain_put p h c k = of_use c.state where
  of_use : (s : Use) → ArePlain (put_into s p c).kept
  of_use Shut = k
  of_use (Writing target) = plain_append c.kept (added target.left p) k (plain_added target.left p h)
  of_use Reading = k

plain_opened : (elements : ℕ) (clear : Bool) (c : Layer) → ArePlain c.kept → ArePlain (opened_write elements clear c).kept
plain_opened elements true c k = tt
plain_opened elements false c k = k

plain_newest : (f : Layer → Layer) → ((c : Layer) → ArePlain c.kept → ArePlain (f c).kept) → (cs : List Layer) → CopiesPlain cs → CopiesPlain (on_newest f cs)
plain_newest f h [] k = tt
plain_newest f h (c ∷ cs) k = (h c k.0, k.1)

plain_first : (test : Layer → Bool) (f : Layer → Layer) → ((c : Layer) → ArePlain c.kept → ArePlain (f c).kept) → (cs : List Layer) → CopiesPlain cs → CopiesPlain (on_first test f cs)
plain_first test f h [] k = tt
plain_first test f h (c ∷ cs) k = elim (test c) as (λ b. CopiesPlain (if b then f c ∷ cs else c ∷ on_first test f cs)) [
  | true ↦ (h c k.0, k.1)
  | false ↦ (k.0, plain_first test f h cs k.1)
]

plain_off : (cs : List Layer) → CopiesPlain cs → CopiesPlain (taken_off cs)
plain_off [] k = tt
plain_off (c ∷ cs) k = k.1

-- Buffers.

plain_at : (bs : List Buffer) (id : ℕ) → BuffersPlain bs → BufferPlain (unwrap_or (slice_get bs id) none)
plain_at [] id k = (tt, tt)
plain_at (b ∷ bs) zero k = k.0
plain_at (b ∷ bs) (suc id) k = plain_at bs id k.1

plain_set : (bs : List Buffer) (id : ℕ) (x : Buffer) → BufferPlain x → BuffersPlain bs → BuffersPlain (slice_set bs id x)
plain_set [] id x h k = tt
plain_set (b ∷ bs) zero x h k = (h, k.1)
plain_set (b ∷ bs) (suc id) x h k = (k.0, plain_set bs id x h k.1)

plain_buffer : (f : List Layer → List Layer) → ((cs : List Layer) → CopiesPlain cs → CopiesPlain (f cs)) → (id : ℕ) (b : Buffers) → BuffersPlain b.buffers → BuffersPlain (on_buffer f id b).buffers
plain_buffer f h id b k =
    let at = plain_at b.buffers id k in plain_set b.buffers id (with_copies f (buffer_at b id)) (at.0, h (copies_of b id) at.1) k

plain_groups : (f : List Layer → List Layer) → ((cs : List Layer) → CopiesPlain cs → CopiesPlain (f cs)) → (group : ℕ) (bs : List Buffer) → BuffersPlain bs → BuffersPlain (map (in_group f group) bs)
plain_groups f h group [] k = tt
plain_groups f h group (b ∷ bs) k = (one (b.group == group), plain_groups f h group bs k.1) where
  one : (t : Bool) → BufferPlain (if t then with_copies f b else b)
  one true = (k.0.0, h b.copies k.0.1)
  one false = k.0

pub plain_kept_in : (id : ℕ) (p : Part) (st : State) → is_old_part p ≡ true → Plain st → BuffersPlain (on_buffer (on_first is_written (with_part p)) id st.buffers).buffers
plain_kept_in id p st h k = plain_buffer (on_first is_written (with_part p)) (plain_first is_written (with_part p) (plain_put p h)) id st.buffers k

pub plain_write : (elements : ℕ) (clear : Bool) (id : ℕ) (st : State) → Plain st → BuffersPlain (on_buffer (on_newest (opened_write elements clear)) id st.buffers).buffers
plain_write elements clear id st k = plain_buffer (on_newest (opened_write elements clear)) (plain_newest (opened_write elements clear) (plain_opened elements clear)) id st.buffers k

pub plain_close : (test : Layer → Bool) (id : ℕ) (st : State) → Plain st → BuffersPlain (on_buffer (on_first test closed) id st.buffers).buffers
plain_close test id st k = plain_buffer (on_first test closed) (plain_first test closed (λ c h. h)) id st.buffers k

pub plain_read : (id : ℕ) (st : State) → Plain st → BuffersPlain (on_buffer (on_newest opened_read) id st.buffers).buffers
plain_read id st k = plain_buffer (on_newest opened_read) (plain_newest opened_read (λ c h. h)) id st.buffers k

pub plain_laid : (group : ℕ) (st : State) → Plain st → BuffersPlain (on_group (λ copies. laid ∷ copies) group st.buffers).buffers
plain_laid group st k = plain_groups (λ copies. laid ∷ copies) (λ cs h. (tt, h)) group st.buffers.buffers k

pub plain_taken : (group : ℕ) (st : State) → Plain st → BuffersPlain (on_group taken_off group st.buffers).buffers
plain_taken group st k = plain_groups taken_off plain_off group st.buffers.buffers k

pub plain_declared : (bs : List sheet.Buffer) → ((b : sheet.Buffer) → Contains bs b → (p : Part) → Contains b.content p → is_old_part p ≡ true) → BuffersPlain (map declared_by bs)
plain_declared [] h = tt
plain_declared (b ∷ bs) h = (
  (plain_from _ b.content (h b (zero, omega arith, refl)), (tt, tt)),
  plain_declared bs (λ c among. h c (suc among.0, omega (arith, among.1), among.2)),
)

-- What is read of a buffer.

plain_contents : (declared : List Kept) (c : Layer) → ArePlain declared → ArePlain c.kept → ArePlain (contents declared c)
plain_contents declared c h k = one c.declared where
  one : (t : Bool) → ArePlain (if t then declared ++ c.kept else c.kept)
  one true = plain_append declared c.kept h k
  one false = k

plain_found : (declared : List Kept) (cs : List Layer) → ArePlain declared → CopiesPlain cs → ArePlain (held_by declared (find is_read cs))
plain_found declared [] h k = tt
plain_found declared (c ∷ cs) h k = elim (is_read c) as (λ b. ArePlain (held_by declared (cond b (Some c) (find is_read cs)))) [
  | true ↦ plain_contents declared c h k.0
  | false ↦ plain_found declared cs h k.1
]

-- As nodes.

abbrev pub ListsPlain : Future → Type 0
ListsPlain [] = Unit {0}
ListsPlain (l ∷ ls) = HasNoSections l × ListsPlain ls

plain_inner : (f : Future) → ListsPlain f → HasNoSections (inner f)
plain_inner [] h = tt
plain_inner (l ∷ ls) h = h.0

plain_outer : (f : Future) → ListsPlain f → ListsPlain (outer f)
plain_outer [] h = tt
plain_outer (l ∷ ls) h = h.1

plain_text : (text : List ℕ) (l : Forest) → HasNoSections l → HasNoSections (text_before text l)
plain_text [] l h = h
plain_text (c ∷ cs) (End m offset) h = h
plain_text (c ∷ cs) (Cut why) h = h
plain_text (c ∷ cs) (Single m (tree.Chars offset text) next) h = h
plain_text (c ∷ cs) (Single m (tree.CData offset text) next) h = absurd h
plain_text (c ∷ cs) (Single m (tree.Comment offset text) next) h = h
plain_text (c ∷ cs) (Single m (tree.Pi offset target text) next) h = h
plain_text (c ∷ cs) (Nested stage e kids next) h = h

plain_before : (k : Kept) (f : Future) → IsPlain k → ListsPlain f → ListsPlain (kept_before k f)
plain_before (keeps.Start tag) f p h = ((plain_inner f h, plain_inner (outer f) (plain_outer f h)), plain_outer (outer f) (plain_outer f h))
plain_before keeps.End f p h = (tt, h)
plain_before (keeps.Chars text) f p h = (plain_text text (inner f) (plain_inner f h), plain_outer f h)
plain_before (keeps.CData text) f p h = absurd p
plain_before (keeps.Comment text) f p h = (plain_inner f h, plain_outer f h)
plain_before (keeps.Pi target text) f p h = (plain_inner f h, plain_outer f h)

plain_lists : (ks : List Kept) → ArePlain ks → ListsPlain (lists ks)
plain_lists [] h = tt
plain_lists (k ∷ ks) h = plain_before k (lists ks) h.0 (plain_lists ks h.1)

-- the nodes of a buffer that is read have no sections
pub plain_nodes : (b : Buffers) (id : ℕ) → BuffersPlain b.buffers → HasNoSections (forest (read_at b id))
plain_nodes b id k =
    let at = plain_at b.buffers id k in
    let held = plain_found (buffer_at b id).declared (copies_of b id) at.0 at.1 in
    plain_inner (lists (read_at b id)) (plain_lists (read_at b id) held)
