-- How deep nests what a buffer holds, and what it tells.
use Rattle.std.specs.Prelude.{◌≡◌, ℕ, ◌+◌, ◌-◌, ◌<◌, ◌≤◌, max, List, [], ◌∷◌, length}
use Rattle.std.specs.List.{All}
use Rattle.stx_base.specs.declared.part.Part.{Part}
use Rattle.stx_base.specs.declared.part.Part.TheVariants as part
use Rattle.result_writer.specs.Target.{depth}
use Rattle.xml_events.specs.declared.event.Event.{Event}
use Rattle.xml_events.specs.declared.event.Event.TheVariants as event
use Rattle.event_buffers.specs.Buffers.{Buffer, Buffers}
use Rattle.event_buffers.specs.Layer.{Layer, Reading, Shut, State, Writing, contents}
use Rattle.event_buffers.specs.declared.kept.Kept.{Kept}
use Rattle.event_buffers.specs.declared.kept.Kept.TheVariants.{Start, End, Chars, CData, Comment, Pi}

-- never more elements are open than the limit, where so many are open before
abbrev pub NestWithin : (limit before : ℕ) → List Kept → Type 0
NestWithin limit n [] = Unit {0}
NestWithin limit n (Start tag ∷ ks) = (n < limit) × NestWithin limit (n + 1) ks
NestWithin limit n (End ∷ ks) = NestWithin limit (n - 1) ks
NestWithin limit n (Chars text ∷ ks) = NestWithin limit n ks
NestWithin limit n (CData text ∷ ks) = NestWithin limit n ks
NestWithin limit n (Comment text ∷ ks) = NestWithin limit n ks
NestWithin limit n (Pi target text ∷ ks) = NestWithin limit n ks

-- the same of events
abbrev pub TellWithin : (limit before : ℕ) → List Event → Type 0
TellWithin limit n [] = Unit {0}
TellWithin limit n (event.Start offset name attrs decls first ∷ es) = (n < limit) × TellWithin limit (n + 1) es
TellWithin limit n (event.End offset ∷ es) = TellWithin limit (n - 1) es
TellWithin limit n (event.Chars offset text ∷ es) = TellWithin limit n es
TellWithin limit n (event.CData offset text ∷ es) = TellWithin limit n es
TellWithin limit n (event.Comment offset text ∷ es) = TellWithin limit n es
TellWithin limit n (event.Pi offset target text ∷ es) = TellWithin limit n es
TellWithin limit n (event.DocumentEnd offset ∷ es) = TellWithin limit n es

-- how many are open behind them
abbrev pub open_behind : (before : ℕ) → List Kept → ℕ
open_behind n [] = n
open_behind n (Start tag ∷ ks) = open_behind (n + 1) ks
open_behind n (End ∷ ks) = open_behind (n - 1) ks
open_behind n (Chars text ∷ ks) = open_behind n ks
open_behind n (CData text ∷ ks) = open_behind n ks
open_behind n (Comment text ∷ ks) = open_behind n ks
open_behind n (Pi target text ∷ ks) = open_behind n ks

-- how many elements are open behind a part, where so many were
abbrev pub behind_part : ℕ → Part → ℕ
behind_part n (part.Start name scope) = n + 1
behind_part n (part.Attribute name value) = n
behind_part n (part.End name) = n - 1
behind_part n (part.Chars text) = n
behind_part n (part.CData text) = n
behind_part n (part.Comment text) = n
behind_part n (part.Pi target text) = n

-- how many of parts are open at once, where so many were before
abbrev pub deepest_from : ℕ → List Part → ℕ
deepest_from n [] = n
deepest_from n (p ∷ ps) = max n (deepest_from (behind_part n p) ps)

abbrev pub deepest : List Part → ℕ
deepest = deepest_from 0

-- it nests no deeper than the limit, and each of its elements ends
abbrev pub IsShallowContent : (limit : ℕ) → List Kept → Type 0
IsShallowContent limit ks = NestWithin limit 0 ks × (open_behind 0 ks ≡ 0)

-- how many elements are open in a copy, and that they are no more than it allows
abbrev pub open_in : State → ℕ
open_in Shut = 0
open_in (Writing target) = length target.left.elements
open_in Reading = 0

abbrev pub HasRoom : (limit : ℕ) → State → Type 0
HasRoom limit Shut = Unit {0}
HasRoom limit (Writing target) = (target.limit ≤ limit) × (depth target.left.elements target.left.held ≤ target.limit)
HasRoom limit Reading = Unit {0}

-- a copy nests no deeper than the limit, also with all that may yet be put into it
pub record IsShallow (limit : ℕ) (declared : List Kept) (c : Layer) : Type 0 where
  pub within : NestWithin limit 0 (contents declared c)
  pub open_ones : open_behind 0 (contents declared c) ≡ open_in c.state
  pub room : HasRoom limit c.state

-- so does a buffer, and so do all
pub record HasShallowCopies (limit : ℕ) (b : Buffer) : Type 0 where
  pub declared : IsShallowContent limit b.declared
  pub copies : All (IsShallow limit b.declared) b.copies

pub record AreShallow (limit : ℕ) (b : Buffers) : Type 0 where
  pub elements : b.elements ≤ limit
  pub buffers : All (HasShallowCopies limit) b.buffers
