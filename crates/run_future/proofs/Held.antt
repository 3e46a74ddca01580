-- What buffers hold, and how copies are opened and closed.
use Rattle.std.proofs.Common.{◌≡◌, ℕ, zero, suc, List, [], ◌∷◌, Some, None, refl, ap, sym, ◌∙◌}
use Rattle.std.specs.Prelude.{if◌then◌else◌, slice_get, slice_set, unwrap_or}
use Rattle.std.specs.Option.{option_and_then}
use Rattle.event_buffers.specs.Buffers.{Buffer, Buffers, busy_at, is_read, newest, none, on_buffer, on_first, on_newest, with_copies}
use Rattle.event_buffers.specs.Forest as buffers
use Rattle.event_buffers.specs.Forest.{element_of, forest, kept_before, lists, text_before}
use Rattle.event_buffers.specs.Layer.{Layer, Reading, Shut, State, Writing, busy, closed, is_shut, opened_read}
use Rattle.event_buffers.specs.declared.fault.BufferFault.TheVariants as fault
use Rattle.event_buffers.specs.declared.kept.Kept.{Kept}
use Rattle.event_buffers.specs.declared.kept.Kept.TheVariants as kept
use Rattle.xml_events.specs.Document.{inner}
use Rattle.xml_events.specs.Tree.{CData, Comment, End, Forest, Fresh, Future, Nested, Pi, Single, Waiting}
use Rattle.run_future.specs.Laws.{BuffersHoldNodes}
use Rattle.run_future.specs.Remaining.{lists_left}

-- the list at a place, counted from the innermost
abbrev list_at : ℕ → Future → Forest
list_at zero f = buffers.inner f
list_at (suc n) f = list_at n (buffers.outer f)

-- the same lists, but for one that is over
abbrev Alike : Future → Future → Type 0
Alike f g = (n : ℕ) → list_at n f ≡ list_at n g

start_alike : (f g : Future) (make : Forest → Forest → Forest) → Alike f g
    → Alike (make (buffers.inner f) (buffers.inner (buffers.outer f)) ∷ buffers.outer (buffers.outer f)) (make (buffers.inner g) (buffers.inner (buffers.outer g)) ∷ buffers.outer (buffers.outer g))
start_alike f g make same zero = ap (λ x. make x (buffers.inner (buffers.outer f))) (same 0) ∙ ap (λ x. make (buffers.inner g) x) (same 1)
start_alike f g make same (suc n) = same (suc (suc n))

leaf_alike : (f g : Future) (make : Forest → Forest) → Alike f g → Alike (make (buffers.inner f) ∷ buffers.outer f) (make (buffers.inner g) ∷ buffers.outer g)
leaf_alike f g make same zero = ap make (same 0)
leaf_alike f g make same (suc n) = same (suc n)

end_alike : (f g : Future) → Alike f g → Alike (End Fresh 0 ∷ f) (End Fresh 0 ∷ g)
end_alike f g same zero = refl
end_alike f g same (suc n) = same n

before_alike : (k : Kept) (f g : Future) → Alike f g → Alike (kept_before k f) (kept_before k g)
before_alike (kept.Start tag) f g same = start_alike f g (Nested Waiting (element_of tag)) same
before_alike kept.End f g same = end_alike f g same
before_alike (kept.Chars text) f g same = leaf_alike f g (text_before text) same
before_alike (kept.CData text) f g same = leaf_alike f g (Single Fresh (CData 0 text)) same
before_alike (kept.Comment text) f g same = leaf_alike f g (Single Fresh (Comment 0 text)) same
before_alike (kept.Pi target text) f g same = leaf_alike f g (Single Fresh (Pi 0 target text)) same

left_alike : (ks : List Kept) → Alike (lists_left ks) (lists ks)
left_alike [] zero = refl
left_alike [] (suc n) = refl
left_alike (k ∷ ks) n = before_alike k (lists_left ks) (lists ks) (left_alike ks) n

first_there : (ks : List Kept) → inner (lists_left ks) ≡ buffers.inner (lists_left ks)
first_there [] = refl
first_there (kept.Start tag ∷ ks) = refl
first_there (kept.End ∷ ks) = refl
first_there (kept.Chars text ∷ ks) = refl
first_there (kept.CData text ∷ ks) = refl
first_there (kept.Comment text ∷ ks) = refl
first_there (kept.Pi target text ∷ ks) = refl

pub holds_nodes : BuffersHoldNodes
holds_nodes ks = first_there ks ∙ left_alike ks 0

-- a copy that was open for nothing is as it was, once it was read
shut_again : (c : Layer) (s : State) → c.state ≡ s → (if is_shut s then None else Some fault.Busy) ≡ None → closed (opened_read c) ≡ c
shut_again c Shut is free = ap (λ s. record c { state = s }) (sym is)
shut_again c (Writing target) is free = absurd (cc)
shut_again c Reading is free = absurd (cc)

copies_again : (cs : List Layer) → option_and_then busy (newest cs) ≡ None → on_first is_read closed (on_newest opened_read cs) ≡ cs
copies_again [] free = refl
copies_again (c ∷ cs) free = ap (λ d. d ∷ cs) (shut_again c c.state refl free)

buffers_again : (bs : List Buffer) (id : ℕ) → option_and_then busy (newest (unwrap_or (slice_get bs id) none).copies) ≡ None
    → let read = slice_set bs id (with_copies (on_newest opened_read) (unwrap_or (slice_get bs id) none)) in
    slice_set read id (with_copies (on_first is_read closed) (unwrap_or (slice_get read id) none)) ≡ bs
buffers_again [] id free = refl
buffers_again (b ∷ bs) zero free = ap (λ cs. record b { copies = cs } ∷ bs) (copies_again b.copies free)
buffers_again (b ∷ bs) (suc id) free = ap (λ l. b ∷ l) (buffers_again bs id free)

pub closed_again : (b : Buffers) (id : ℕ) → busy_at b id ≡ None → on_buffer (on_first is_read closed) id (on_buffer (on_newest opened_read) id b) ≡ b
closed_again b id free = ap (λ bs. record b { buffers = bs }) (buffers_again b.buffers id free)
