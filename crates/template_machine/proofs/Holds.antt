-- What buffers hold stays what they may hold: elements that nest no deeper than a limit, and the texts of CDATA sections.
use Rattle.std.proofs.Common.{◌≡◌, ℕ, zero, suc, ◌≤◌, Bool, true, false, ◌&&◌, cond, List, [], ◌∷◌, ◌++◌, map, All, Option, Some, None, refl, ap, sym, subst, ◌∙◌}
use Rattle.std.specs.Prelude.{◌==◌, drop, if◌then◌else◌, unwrap_or}
use Rattle.std.specs.List.{find, slice_get, slice_set}
use Rattle.std.specs.Option.{option_and_then, option_map, option_map_or, option_to_list}
use Rattle.std.proofs.lemmas.Bool.{and_from, false≢true}
use Rattle.std.proofs.lemmas.List.Elements.{All-cons, All-head, All-tail}
use Rattle.std.proofs.lemmas.List.Folds.{list_all-append}
use Rattle.stx_base.specs.Character.{is_cdata_text}
use Rattle.stx_base.specs.declared.part.Part.{Part}
use Rattle.stx_base.specs.declared.part.Part.TheVariants as part
use Rattle.result_writer.specs.Opened.{settled_tag}
use Rattle.result_writer.specs.Target.{Element, Left, holds_cdata_text}
use Rattle.result_writer.specs.declared.fault.ResultFault.{ResultFault}
use Rattle.result_writer.specs.declared.fault.ResultFault.TheVariants.{UnclosedResult}
use Rattle.result_writer.specs.declared.tag.HeldTag.{HeldTag}
use Rattle.xml_events.specs.declared.event.Event.{Event}
use Rattle.xml_events.specs.declared.event.Event.TheVariants as event
use Rattle.event_buffers.specs.Buffers.{Buffer, Buffers, buffer_at, busy_at, in_group, is_read, is_written, newest, none, on_buffer, on_first, on_group, on_newest, refusal_at, taken_off, unclosed_at, with_copies, written}
use Rattle.event_buffers.specs.Kept.{added}
use Rattle.event_buffers.specs.Layer as layer
use Rattle.event_buffers.specs.Layer.{Layer, State, closed, contents, fault_in, is_reading, is_shut, is_whole, laid, opened_read, opened_write, or_full, put_into, refusal, weighs, with_part}
use Rattle.event_buffers.specs.Sections.{hold_texts, holds_text, tell_texts, tells_text}
use Rattle.event_buffers.specs.Told.{text_before, told}
use Rattle.event_buffers.specs.declared.fault.BufferFault.TheVariants as fault
use Rattle.event_buffers.specs.declared.kept.Kept.{Kept}
use Rattle.event_buffers.specs.declared.kept.Kept.TheVariants as kept
use Rattle.template_machine.specs.Deep.{IsDeep, IsDeepBuffer}
use Rattle.template_machine.specs.Sections.{HoldSections, HoldStill}
use Rattle.template_machine.specs.Standing.{Usage, shelf_at, shelf_of, usage_by, usage_of}
use Rattle.template_machine.specs.Well.{read_from}
use Rattle.template_machine.proofs.Deepened.{closed_deep, laid_deep, open_write_deep, opened_read_deep, put_deep}

-- Copies of a buffer, and all buffers.

newest_all : (P : Layer → Type 0) (f : Layer → Layer) (cs : List Layer) → ((c : Layer) → newest cs ≡ Some c → P c → P (f c)) → All P cs → All P (on_newest f cs)
newest_all P f [] h all = all
newest_all P f (c ∷ cs) h all = All-cons P (f c) cs (h c refl (All-head P c cs all)) (All-tail P c cs all)

first_all : (P : Layer → Type 0) (test : Layer → Bool) (f : Layer → Layer) (cs : List Layer) → ((c : Layer) → find test cs ≡ Some c → P c → P (f c)) → All P cs
    → All P (on_first test f cs)
first_all P test f [] h all = all
first_all P test f (c ∷ cs) h all =
    by (test c) refl (λ e. first_all P test f cs (λ d is. h d (ap (λ b. cond b (Some c) (find test cs)) e ∙ is)) (All-tail P c cs all))
  where
    by : (b : Bool) → test c ≡ b → (test c ≡ false → All P (on_first test f cs)) → All P (if b then f c ∷ cs else c ∷ on_first test f cs)
    by true e later = All-cons P (f c) cs (h c (ap (λ b. cond b (Some c) (find test cs)) e) (All-head P c cs all)) (All-tail P c cs all)
    by false e later = All-cons P c (on_first test f cs) (All-head P c cs all) (later e)

off_all : (P : Layer → Type 0) (cs : List Layer) → All P cs → All P (taken_off cs)
off_all P [] all = all
off_all P (c ∷ cs) all = All-tail P c cs all

set_all : (P : Buffer → Type 0) (bs : List Buffer) (id : ℕ) (f : List Layer → List Layer) → ((b : Buffer) → slice_get bs id ≡ Some b → P b → P (with_copies f b)) → All P bs
    → All P (slice_set bs id (with_copies f (unwrap_or (slice_get bs id) none)))
set_all P [] id f h all = all
set_all P (b ∷ bs) zero f h all = All-cons P (with_copies f b) bs (h b refl (All-head P b bs all)) (All-tail P b bs all)
set_all P (b ∷ bs) (suc id) f h all =
    All-cons P b (slice_set bs id (with_copies f (unwrap_or (slice_get bs id) none))) (All-head P b bs all) (set_all P bs id f h (All-tail P b bs all))

map_all : (P : Buffer → Type 0) (bs : List Buffer) (group : ℕ) (f : List Layer → List Layer) → ((b : Buffer) → P b → P (with_copies f b)) → All P bs
    → All P (map (in_group f group) bs)
map_all P [] group f h all = all
map_all P (b ∷ bs) group f h all =
    All-cons P (in_group f group b) (map (in_group f group) bs) (by (b.group == group) (All-head P b bs all)) (map_all P bs group f h (All-tail P b bs all))
  where
    by : (x : Bool) → P b → P (if x then with_copies f b else b)
    by true own = h b own
    by false own = own

abbrev HoldsOwn : Layer → Type 0
HoldsOwn c = hold_texts c.kept ≡ true

-- What a change of one buffer's copies, or of those of a group, leaves.
by_buffer : (b new : Buffers) (id : ℕ) (f : List Layer → List Layer) → new ≡ on_buffer f id b
    → ((limit : ℕ) (x : Buffer) → b.elements ≤ limit → slice_get b.buffers id ≡ Some x → IsDeepBuffer limit x → All (IsDeep limit x.declared) (f x.copies))
    → ((x : Buffer) → All HoldsOwn x.copies → All HoldsOwn (f x.copies)) → HoldStill b new
by_buffer b new id f is deep sections =
    subst (HoldStill b) (sym is)
    (record {
      deep = λ limit d.
          (d.0, set_all (IsDeepBuffer limit) b.buffers id f (λ x at own. record { declared = own.declared; whole = own.whole; copies = deep limit x d.0 at own }) d.1);
      sections = λ s. set_all HoldSections b.buffers id f (λ x at own. record { declared = own.declared; copies = sections x own.copies }) s;
    })

by_group : (b new : Buffers) (group : ℕ) (f : List Layer → List Layer) → new ≡ on_group f group b
    → ((limit : ℕ) (x : Buffer) → IsDeepBuffer limit x → All (IsDeep limit x.declared) (f x.copies))
    → ((x : Buffer) → All HoldsOwn x.copies → All HoldsOwn (f x.copies)) → HoldStill b new
by_group b new group f is deep sections =
    subst (HoldStill b) (sym is)
    (record {
      deep = λ limit d. (d.0, map_all (IsDeepBuffer limit) b.buffers group f (λ x own. record { declared = own.declared; whole = own.whole; copies = deep limit x own }) d.1);
      sections = λ s. map_all HoldSections b.buffers group f (λ x own. record { declared = own.declared; copies = sections x own.copies }) s;
    })

pub holds_same : (b : Buffers) → HoldStill b b
holds_same b = record { deep = λ limit d. d; sections = λ s. s }

pub holds_on : (a b c : Buffers) → HoldStill a b → HoldStill b c → HoldStill a c
holds_on a b c x y = record { deep = λ limit d. y.deep limit (x.deep limit d); sections = λ s. y.sections (x.sections s) }

-- A part is put.

no_leaf : (elements : List Element) (held : Option HeldTag) → hold_texts (option_to_list (option_map kept.Start (settled_tag elements held)) ++ []) ≡ true
no_leaf elements None = refl
no_leaf elements (Some tag) = refl

with_leaf : (elements : List Element) (held : Option HeldTag) (k : Kept) → holds_text k ≡ true
    → hold_texts (option_to_list (option_map kept.Start (settled_tag elements held)) ++ k ∷ []) ≡ true
with_leaf elements None k h = ap (λ b. b && true) h
with_leaf elements (Some tag) k h = ap (λ b. b && true) h

pub added_holds : (l : Left) (p : Part) → holds_cdata_text p ≡ true → hold_texts (added l p) ≡ true
added_holds l (part.Start name scope) h = no_leaf l.elements l.held
added_holds l (part.Attribute name value) h = refl
added_holds l (part.End name) h = with_leaf l.elements l.held kept.End refl
added_holds l (part.Chars text) h = with_leaf l.elements l.held (kept.Chars text) refl
added_holds l (part.CData text) h = with_leaf l.elements l.held (kept.CData text) h
added_holds l (part.Comment text) h = with_leaf l.elements l.held (kept.Comment text) refl
added_holds l (part.Pi target text) h = with_leaf l.elements l.held (kept.Pi target text) refl

part_holds : (p : Part) (s : State) (c : Layer) → holds_cdata_text p ≡ true → HoldsOwn c → HoldsOwn (put_into s p c)
part_holds p layer.Shut c text h = h
part_holds p (layer.Writing target) c text h = list_all-append holds_text c.kept (added target.left p) ∙ and_from _ _ h (added_holds target.left p text)
part_holds p layer.Reading c text h = h

no_fault : (o : Option ResultFault) (limit weight : ℕ) → or_full o limit weight ≡ None → o ≡ None
no_fault None limit weight e = refl
no_fault (Some f) limit weight e = absurd (cc)

got : (b : Buffers) (id : ℕ) (x : Buffer) → slice_get b.buffers id ≡ Some x → buffer_at b id ≡ x
got b id x at = ap (λ o. unwrap_or o none) at

part_fits : (b : Buffers) (id : ℕ) (p : Part) (x : Buffer) (c : Layer) → slice_get b.buffers id ≡ Some x → find is_written x.copies ≡ Some c
    → refusal_at b id p ≡ None → fault_in c.state p ≡ None
part_fits b id p x c at is fits =
    let here : option_and_then (refusal b.limit x.declared p) (written x.copies) ≡ refusal_at b id p =
    sym (ap (λ (y : Buffer). option_and_then (refusal b.limit y.declared p) (written y.copies)) (got b id x at)) in
    let this : refusal b.limit x.declared p c ≡ None = sym (ap (option_and_then (refusal b.limit x.declared p)) is) ∙ here ∙ fits in
    no_fault (fault_in c.state p) b.limit (weighs x.declared (with_part p c)) this

pub part_put : (b new : Buffers) (id : ℕ) (p : Part) → new ≡ on_buffer (on_first is_written (with_part p)) id b → refusal_at b id p ≡ None
    → holds_cdata_text p ≡ true → HoldStill b new
part_put b new id p is fits text =
    by_buffer b new id (on_first is_written (with_part p)) is
    (λ limit x few at own.
    first_all (IsDeep limit x.declared) is_written (with_part p) x.copies
    (λ c found h. put_deep limit x.declared c p (part_fits b id p x c at found fits) h) own.copies)
    (λ x all. first_all HoldsOwn is_written (with_part p) x.copies (λ c found h. part_holds p c.state c text h) all)

-- Copies are opened and closed.

idle_by : (s : State) → (if is_shut s then None else Some fault.Busy) ≡ None → s ≡ layer.Shut
idle_by layer.Shut e = refl
idle_by (layer.Writing target) e = absurd (cc)
idle_by layer.Reading e = absurd (cc)

idle : (b : Buffers) (id : ℕ) (x : Buffer) (c : Layer) → slice_get b.buffers id ≡ Some x → newest x.copies ≡ Some c → busy_at b id ≡ None → c.state ≡ layer.Shut
idle b id x c at is none =
    let here : option_and_then layer.busy (newest x.copies) ≡ busy_at b id = sym (ap (λ (y : Buffer). option_and_then layer.busy (newest y.copies)) (got b id x at)) in
    idle_by c.state (sym (ap (option_and_then layer.busy) is) ∙ here ∙ none)

emptied : (clear : Bool) (elements : ℕ) (c : Layer) → HoldsOwn c → HoldsOwn (opened_write elements clear c)
emptied true elements c h = refl
emptied false elements c h = h

pub write_opened : (b new : Buffers) (id : ℕ) (clear : Bool) → new ≡ on_buffer (on_newest (opened_write b.elements clear)) id b → busy_at b id ≡ None → HoldStill b new
write_opened b new id clear is none =
    by_buffer b new id (on_newest (opened_write b.elements clear)) is
    (λ limit x few at own.
    newest_all (IsDeep limit x.declared) (opened_write b.elements clear) x.copies
    (λ c found h. open_write_deep limit b.elements x.declared clear c few (idle b id x c at found none) h) own.copies)
    (λ x all. newest_all HoldsOwn (opened_write b.elements clear) x.copies (λ c found h. emptied clear b.elements c h) all)

pub read_opened : (b new : Buffers) (id : ℕ) → new ≡ on_buffer (on_newest opened_read) id b → busy_at b id ≡ None → HoldStill b new
read_opened b new id is none =
    by_buffer b new id (on_newest opened_read) is
    (λ limit x few at own.
    newest_all (IsDeep limit x.declared) opened_read x.copies (λ c found h. opened_read_deep limit x.declared c (idle b id x c at found none) h) own.copies)
    (λ x all. newest_all HoldsOwn opened_read x.copies (λ c found h. h) all)

whole_by : (b : Bool) → (if b then None else Some (fault.Result UnclosedResult)) ≡ None → b ≡ true
whole_by true e = refl
whole_by false e = absurd (cc)

whole : (b : Buffers) (id : ℕ) (x : Buffer) (c : Layer) → slice_get b.buffers id ≡ Some x → find is_written x.copies ≡ Some c → unclosed_at b id ≡ None → is_whole c.state ≡ true
whole b id x c at is none =
    let here : option_and_then layer.unclosed (written x.copies) ≡ unclosed_at b id =
    sym (ap (λ (y : Buffer). option_and_then layer.unclosed (written y.copies)) (got b id x at)) in
    whole_by (is_whole c.state) (sym (ap (option_and_then layer.unclosed) is) ∙ here ∙ none)

pub write_closed : (b new : Buffers) (id : ℕ) → new ≡ on_buffer (on_first is_written closed) id b → unclosed_at b id ≡ None → HoldStill b new
write_closed b new id is none =
    by_buffer b new id (on_first is_written closed) is
    (λ limit x few at own.
    first_all (IsDeep limit x.declared) is_written closed x.copies (λ c found h. closed_deep limit x.declared c (whole b id x c at found none) h) own.copies)
    (λ x all. first_all HoldsOwn is_written closed x.copies (λ c found h. h) all)

found_holds : (test : Layer → Bool) (cs : List Layer) (c : Layer) → find test cs ≡ Some c → test c ≡ true
found_holds test [] c e = absurd (cc)
found_holds test (x ∷ xs) c e = by (test x) refl e (found_holds test xs c) where
  by : (b : Bool) → test x ≡ b → cond b (Some x) (find test xs) ≡ Some c → (find test xs ≡ Some c → test c ≡ true) → test c ≡ true
  by true is f later = let same : x ≡ c = cc in ap test (sym same) ∙ is
  by false is f later = later f

reading_whole : (s : State) → is_reading s ≡ true → is_whole s ≡ true
reading_whole layer.Shut e = refl
reading_whole (layer.Writing target) e = absurd (false≢true e)
reading_whole layer.Reading e = refl

pub read_shut : (b new : Buffers) (id : ℕ) → new ≡ on_buffer (on_first is_read closed) id b → HoldStill b new
read_shut b new id is =
    by_buffer b new id (on_first is_read closed) is
    (λ limit x few at own.
    first_all (IsDeep limit x.declared) is_read closed x.copies
    (λ c found h. closed_deep limit x.declared c (reading_whole c.state (found_holds is_read x.copies c found)) h) own.copies)
    (λ x all. first_all HoldsOwn is_read closed x.copies (λ c found h. h) all)

-- Copies are laid over those of a group, and taken off.

pub group_laid : (b new : Buffers) (group : ℕ) → new ≡ on_group (λ cs. laid ∷ cs) group b → HoldStill b new
group_laid b new group is =
    by_group b new group (λ cs. laid ∷ cs) is
    (λ limit x own. All-cons (IsDeep limit x.declared) laid x.copies (laid_deep limit x.declared own.declared own.whole) own.copies)
    (λ x all. All-cons HoldsOwn laid x.copies refl all)

pub group_off : (b new : Buffers) (group : ℕ) → new ≡ on_group taken_off group b → HoldStill b new
group_off b new group is =
    by_group b new group taken_off is (λ limit x own. off_all (IsDeep limit x.declared) x.copies own.copies) (λ x all. off_all HoldsOwn x.copies all)

-- What is told of a copy that is read.

text_tells : (text : List ℕ) (es : List Event) → tell_texts es ≡ true → tell_texts (text_before text es) ≡ true
text_tells [] es h = h
text_tells (c ∷ cs) [] h = refl
text_tells (c ∷ cs) (event.Start offset name attrs decls first ∷ es) h = h
text_tells (c ∷ cs) (event.End offset ∷ es) h = h
text_tells (c ∷ cs) (event.Chars offset text ∷ es) h = h
text_tells (c ∷ cs) (event.CData offset text ∷ es) h = h
text_tells (c ∷ cs) (event.Comment offset text ∷ es) h = h
text_tells (c ∷ cs) (event.Pi offset target text ∷ es) h = h
text_tells (c ∷ cs) (event.DocumentEnd offset ∷ es) h = h

both : (a b : Bool) → (a && b) ≡ true → (a ≡ true) × (b ≡ true)
both true b e = (refl, e)
both false b e = absurd (false≢true e)

all_told : (ks : List Kept) → hold_texts ks ≡ true → tell_texts (told ks) ≡ true
all_told [] h = refl
all_told (kept.Start tag ∷ ks) h = all_told ks h
all_told (kept.End ∷ ks) h = all_told ks h
all_told (kept.Chars text ∷ ks) h = text_tells text (told ks) (all_told ks h)
all_told (kept.CData text ∷ ks) h = let b = both (is_cdata_text text) (hold_texts ks) h in and_from _ _ b.0 (all_told ks b.1)
all_told (kept.Comment text ∷ ks) h = all_told ks h
all_told (kept.Pi target text ∷ ks) h = all_told ks h

drop_holds : (n : ℕ) (ks : List Kept) → hold_texts ks ≡ true → hold_texts (drop n ks) ≡ true
drop_holds zero ks h = h
drop_holds (suc n) [] h = h
drop_holds (suc n) (k ∷ ks) h = drop_holds n ks (both (holds_text k) (hold_texts ks) h).1

contents_hold : (declared : List Kept) (c : Layer) → hold_texts declared ≡ true → HoldsOwn c → hold_texts (contents declared c) ≡ true
contents_hold declared c h own = by c.declared where
  by : (b : Bool) → hold_texts (if b then declared ++ c.kept else c.kept) ≡ true
  by true = list_all-append holds_text declared c.kept ∙ and_from _ _ h own
  by false = own

read_by : (s : State) (held : List Kept) (us : List Usage) (k : List Kept) → read_from (usage_by held s ∷ us) ≡ Some k → hold_texts held ≡ true
    → (read_from us ≡ Some k → hold_texts k ≡ true) → hold_texts k ≡ true
read_by layer.Shut held us k e h later = later e
read_by (layer.Writing target) held us k e h later = later e
read_by layer.Reading held us k e h later = let same : held ≡ k = cc in ap hold_texts (sym same) ∙ h

copies_hold : (declared : List Kept) (cs : List Layer) (k : List Kept) → hold_texts declared ≡ true → All HoldsOwn cs → read_from (map (usage_of declared) cs) ≡ Some k
    → hold_texts k ≡ true
copies_hold declared [] k h all e = absurd (cc)
copies_hold declared (c ∷ cs) k h all e =
    read_by c.state (contents declared c) (map (usage_of declared) cs) k e (contents_hold declared c h (All-head HoldsOwn c cs all))
    (λ f. copies_hold declared cs k h (All-tail HoldsOwn c cs all) f)

pub held_sections : (bs : List Buffer) (id : ℕ) (k : List Kept) → All HoldSections bs → read_from (shelf_at (map shelf_of bs) id).copies ≡ Some k → hold_texts k ≡ true
held_sections [] id k all e = absurd (cc)
held_sections (b ∷ bs) zero k all e =
    let own = All-head HoldSections b bs all in copies_hold b.declared b.copies k own.declared own.copies e
held_sections (b ∷ bs) (suc id) k all e = held_sections bs id k (All-tail HoldSections b bs all) e

-- each event that is told of it
abbrev told_of : (next : ℕ) → Option (List Kept) → List Event
told_of next o = option_map_or (λ held. told (drop next held)) o []

pub event_text : (bs : List Buffer) (id next : ℕ) (e : Event) (es : List Event) → All HoldSections bs
    → told_of next (read_from (shelf_at (map shelf_of bs) id).copies) ≡ e ∷ es → tells_text e ≡ true
event_text bs id next e es all is = by (read_from (shelf_at (map shelf_of bs) id).copies) refl is where
  by : (o : Option (List Kept)) → read_from (shelf_at (map shelf_of bs) id).copies ≡ o → told_of next (read_from (shelf_at (map shelf_of bs) id).copies) ≡ e ∷ es
      → tells_text e ≡ true
  by None r f = let none : [] ≡ e ∷ es = sym (ap (told_of next) r) ∙ f in absurd (cc)
  by (Some k) r f =
      let tells : told (drop next k) ≡ e ∷ es = sym (ap (told_of next) r) ∙ f in
      let all_of : tell_texts (e ∷ es) ≡ true = ap tell_texts (sym tells) ∙ all_told (drop next k) (drop_holds next k (held_sections bs id k all r)) in
      (both (tells_text e) (tell_texts es) all_of).0
