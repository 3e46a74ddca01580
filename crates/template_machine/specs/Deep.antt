-- How many elements are open in what buffers hold.
use Rattle.std.specs.Prelude.{◌≡◌, ℕ, ◌+◌, ◌-◌, ◌≤◌, List, [], ◌∷◌, All, length}
use Rattle.event_buffers.specs.Buffers.{Buffer, Buffers}
use Rattle.event_buffers.specs.Layer as layer
use Rattle.event_buffers.specs.Layer.{Layer, State, contents}
use Rattle.event_buffers.specs.declared.kept.Kept.{Kept}
use Rattle.event_buffers.specs.declared.kept.Kept.TheVariants as kept
use Rattle.result_writer.specs.Target.{depth}

-- how many are open behind what is kept, where so many were
abbrev pub open_behind : ℕ → Kept → ℕ
open_behind n (kept.Start tag) = n + 1
open_behind n kept.End = n - 1
open_behind n k = n

abbrev pub open_after : ℕ → List Kept → ℕ
open_after n [] = n
open_after n (k ∷ ks) = open_after (open_behind n k) ks

-- at most so many are open at once
abbrev pub AreDeep : (limit open_ones : ℕ) → List Kept → Type 0
AreDeep limit n [] = Unit {0}
AreDeep limit n (k ∷ ks) = (open_behind n k ≤ limit) × AreDeep limit (open_behind n k) ks

-- a copy in which so many are open: none, but while it is written
abbrev pub IsOpenBy : (limit open_ones : ℕ) → State → Type 0
IsOpenBy limit n layer.Shut = n ≡ 0
IsOpenBy limit n (layer.Writing t) = (n ≡ length t.left.elements) × (depth t.left.elements t.left.held ≤ t.limit) × (t.limit ≤ limit)
IsOpenBy limit n layer.Reading = n ≡ 0

-- a copy of a buffer, which may begin with declared content
pub record IsDeep (limit : ℕ) (declared : List Kept) (c : Layer) : Type 0 where
  pub deep : AreDeep limit 0 (contents declared c)
  pub open_ones : IsOpenBy limit (open_after 0 (contents declared c)) c.state

-- all copies of a buffer, and what it declares
pub record IsDeepBuffer (limit : ℕ) (b : Buffer) : Type 0 where
  pub declared : AreDeep limit 0 b.declared
  pub whole : open_after 0 b.declared ≡ 0
  pub copies : All (IsDeep limit b.declared) b.copies

-- and of all buffers, into which so many elements may be put
abbrev pub AreAllDeep : (limit : ℕ) → Buffers → Type 0
AreAllDeep limit b = (b.elements ≤ limit) × All (IsDeepBuffer limit) b.buffers
