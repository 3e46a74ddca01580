-- How all files that are being read are given back.
use Rattle.std.proofs.Common.{◌≡◌, ℕ, ◌<◌, List, [], ◌∷◌, ◌++◌, length, Option, Some, None, refl, sym, ap, ◌∙◌, arith, append_assoc, length-append}
use Rattle.stx_host.specs.Outside.{Outside, SameCounts, and_more}
use Rattle.stx_host.specs.declared.act.Act.{Act}
use Rattle.sheet_files.specs.Held.{HaveDone, IsHeld, ids_of}
use Rattle.sheet_files.specs.Steps.{AreCloses, Leaves, LeavesAll, files_left}
use Rattle.sheet_files.specs.declared.going.Going.{Going}
use Rattle.sheet_files.specs.declared.reading.Reading.{Reading}
use Rattle.sheet_files.proofs.Coming.{left_files}
use Rattle.sheet_files.proofs.Doing.{closes_then, counts_closed, counts_none, counts_then, done_nothing, done_then, has_closed}
use Rattle.sheet_files.proofs.Holding.{ids_front, limited_front}
use Rattle.sheet_files.proofs.Opening.{append_none}
use Rattle.sheet_files.proofs.Stepping.{held_like}

-- those behind were given back
pub record LeftSoFar (o p : Outside) (old now : Reading) : Type 0 where
  pub back : List Going
  pub was : old.going.items ≡ now.going.items ++ back
  pub acts : List Act
  pub closes : AreCloses acts
  pub done : HaveDone o p acts
  pub counts : SameCounts o p
  pub ids : (before : Option (List ℕ)) → o.open_ids ≡ and_more before (ids_of old.going.items) → p.open_ids ≡ and_more before (ids_of now.going.items)
  pub files : now.files.items ≡ files_left back old.files.items
  pub loader : now.loader ≡ old.loader

pub left_none : (o : Outside) (r : Reading) → LeftSoFar o o r r
left_none o r =
    record {
      back = [];
      was = sym (append_none r.going.items);
      acts = [];
      closes = tt;
      done = done_nothing o;
      counts = counts_none o;
      ids = λ before e. e;
      files = refl;
      loader = refl;
    }

-- one more is
pub left_more : (o q p : Outside) (old mid new : Reading) → LeftSoFar o q old mid → IsHeld q mid → Leaves q p mid new → LeftSoFar o p old new
left_more o q p old mid new left held leaves =
    let g = leaves.last in
    let front = leaves.front in
    let now = held_like q mid.limits mid.limits mid.going.items (front ++ g ∷ []) (length mid.files.items) (length mid.files.items) (sym leaves.was) refl refl held in
    let some = (limited_front mid.limits front g now.limited).1 in
    let closed = has_closed q p g.id some leaves.closes in
    record {
      back = g ∷ left.back;
      was = left.was ∙ ap (λ (l : List Going). l ++ left.back) leaves.was ∙ append_assoc front (g ∷ []) left.back ∙ ap (λ (l : List Going). l ++ g ∷ left.back) (sym leaves.now);
      acts = left.acts ++ closed.acts;
      closes = closes_then left.acts closed.acts left.closes closed.closes;
      done = done_then o q p left.acts closed.acts left.done closed.done;
      counts = counts_then o q p left.counts (counts_closed q p g.id leaves.closes);
      ids = λ before e.
          ids_front q p mid.limits front g (length mid.files.items) now leaves.closes before (left.ids before e ∙ ap (λ (l : List Going). and_more before (ids_of l)) leaves.was)
          ∙ ap (λ (l : List Going). and_more before (ids_of l)) (sym leaves.now);
      files = leaves.files ∙ ap (left_files g) left.files;
      loader = leaves.others.0 ∙ left.loader;
    }

none_more : (t : Option (List ℕ)) → and_more t [] ≡ t
none_more None = refl
none_more (Some ids) = ap (λ (l : List ℕ). Some l) (append_none ids)

-- all are
pub left_all : (o p : Outside) (old new : Reading) → LeftSoFar o p old new → new.going.items ≡ [] → LeavesAll o p old new
left_all o p old new left none =
    let back : old.going.items ≡ left.back = left.was ∙ ap (λ (l : List Going). l ++ left.back) none in
    record {
      acts = left.acts;
      closes = left.closes;
      done = left.done;
      counts = left.counts;
      ids = λ before e. left.ids before e ∙ ap (λ (l : List Going). and_more before (ids_of l)) none ∙ none_more before;
      files = left.files ∙ ap (λ (l : List Going). files_left l old.files.items) (sym back);
      loader = left.loader;
    }

pub left_fewer : (q p : Outside) (mid new : Reading) → Leaves q p mid new → length new.going.items < length mid.going.items
left_fewer q p mid new leaves =
    let a = ap length leaves.was in
    let b = ap length leaves.now in
    let c = length-append leaves.front (leaves.last ∷ []) in
    omega (arith, a, b, c)
