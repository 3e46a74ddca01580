-- Lemmas on the sample's pieces.
use Rattle.std.proofs.Common.{◌≡◌, ℕ, zero, suc, ◌+◌, ◌<◌, [], ◌∷◌, ◌++◌, Some, ap, sym, ◌∙◌, append_assoc, arith}
use Rattle.std.specs.List.{concat, slice_get}
use Rattle.std.proofs.lemmas.List.Folds.{concat-append}
use Rattle.std.proofs.lemmas.List.{append-nil}
use Rattle.sample_maker.specs.Document.{foot, record_text, records, records_from}
use Rattle.sample_maker.specs.Laws.{HoldsEachRecord, JoinsToDocument}

-- the records up to one and those from the next one on are all up to the last
up_to : (i n m : ℕ) → m ≡ i + n → records i ++ concat (records_from (suc i) n) ≡ records m
up_to i zero m h = let e : m ≡ i = omega arith in append-nil (records i) ∙ ap records (sym e)
up_to i (suc n) m h =
    let e : m ≡ suc i + n = omega arith in
    sym (append_assoc (records i) (record_text (suc i)) (concat (records_from (suc (suc i)) n))) ∙ up_to (suc i) n m e

pub joined : JoinsToDocument
joined n =
    ap (λ cs. 60 ∷ 108 ∷ 105 ∷ 115 ∷ 116 ∷ 62 ∷ 10 ∷ cs)
    (concat-append (records_from 1 n) (foot ∷ []) ∙ ap (λ cs. concat (records_from 1 n) ++ cs) (append-nil foot)
    ∙ ap (λ cs. cs ++ foot) (up_to 0 n n (omega arith)))

-- the record at a place behind the first one
found : (i n k j : ℕ) → k < n → j ≡ i + k → slice_get (records_from i n ++ foot ∷ []) k ≡ Some (record_text j)
found i zero k j lt e = absurd (omega arith)
found i (suc n) zero j lt e = let f : i ≡ j = omega arith in ap (λ m. Some (record_text m)) f
found i (suc n) (suc k) j lt e = found (suc i) n k j (omega arith) (omega arith)

pub holds : HoldsEachRecord
holds n zero some within = absurd (omega arith)
holds n (suc i) some within = found 1 n i (suc i) (omega arith) (omega arith)
