-- Laws of copies.
use Rattle.std.proofs.Common.{◌≡◌, ℕ, zero, suc, ◌==◌, Bool, true, false, List, [], ◌∷◌, refl, ap, ◌∙◌, map}
use Rattle.std.specs.Prelude.{if◌then◌else◌, slice_get, slice_set, unwrap_or}
use Rattle.event_buffers.specs.Buffers.{Buffer, in_group, is_written, none, on_first, on_newest, taken_off, with_copies}
use Rattle.event_buffers.specs.Laws.{LaidOverAndTakenOff, OlderTakesParts, OtherBuffersStay, TextsJoin}
use Rattle.event_buffers.specs.Layer.{Layer, laid}
use Rattle.event_buffers.specs.Told.{event_before, told}
use Rattle.event_buffers.proofs.Joining.{text_twice}

one_stays : (f : Layer → Layer) (group : ℕ) (b : Buffer)
    → in_group taken_off group (in_group (on_newest f) group (in_group (λ copies. laid ∷ copies) group b)) ≡ b
one_stays f group b = by_test (b.group == group) refl where
  by_test : (t : Bool) → (b.group == group) ≡ t → in_group taken_off group (in_group (on_newest f) group (in_group (λ copies. laid ∷ copies) group b)) ≡ b
  by_test true e =
      ap (λ t. in_group taken_off group (in_group (on_newest f) group (if t then with_copies (λ copies. laid ∷ copies) b else b))) e
      ∙ ap (λ t. in_group taken_off group (if t then with_copies (on_newest f) (with_copies (λ copies. laid ∷ copies) b) else with_copies (λ copies. laid ∷ copies) b)) e
      ∙ ap (λ t. if t then b else with_copies (on_newest f) (with_copies (λ copies. laid ∷ copies) b)) e
  by_test false e =
      ap (λ t. in_group taken_off group (in_group (on_newest f) group (if t then with_copies (λ copies. laid ∷ copies) b else b))) e
      ∙ ap (λ t. in_group taken_off group (if t then with_copies (on_newest f) b else b)) e
      ∙ ap (λ t. if t then with_copies taken_off b else b) e

all_stay : (f : Layer → Layer) (group : ℕ) (bs : List Buffer)
    → map (in_group taken_off group) (map (in_group (on_newest f) group) (map (in_group (λ copies. laid ∷ copies) group) bs)) ≡ bs
all_stay f group [] = refl
all_stay f group (b ∷ bs) =
    ap (λ x. x ∷ map (in_group taken_off group) (map (in_group (on_newest f) group) (map (in_group (λ copies. laid ∷ copies) group) bs))) (one_stays f group b)
    ∙ ap (λ xs. b ∷ xs) (all_stay f group bs)

pub laid_over_and_taken_off : LaidOverAndTakenOff
laid_over_and_taken_off b group f = ap (λ bs. record b { buffers = bs }) (all_stay f group b.buffers)

pub other_buffers_stay : OtherBuffersStay
other_buffers_stay b f id other apart = ap (λ (x : Buffer). x.copies) (stay b.buffers id other apart) where
  stay : (bs : List Buffer) (id other : ℕ) → (other ≡ id → ⊥)
      → unwrap_or (slice_get (slice_set bs id (with_copies f (unwrap_or (slice_get bs id) none))) other) none ≡ unwrap_or (slice_get bs other) none
  stay [] id other apart = refl
  stay (x ∷ bs) zero zero apart = absurd (apart refl)
  stay (x ∷ bs) zero (suc other) apart = refl
  stay (x ∷ bs) (suc id) zero apart = refl
  stay (x ∷ bs) (suc id) (suc other) apart = stay bs id other (λ e. apart (ap suc e))

pub older_takes_parts : OlderTakesParts
older_takes_parts f c copies h = ap (λ t. if t then f c ∷ copies else c ∷ on_first is_written f copies) h

pub texts_join : TextsJoin
texts_join [] behind a b = text_twice a b (told behind)
texts_join (k ∷ before) behind a b = ap (event_before k) (texts_join before behind a b)
