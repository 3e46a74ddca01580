-- What a reader has still to tell of a file, however far it may be read.
use Rattle.std.proofs.Common.{◌≡◌, ℕ, suc, ◌<◌, ◌≤◌, Bool, true, false, List, [], ◌∷◌, ◌++◌, length, take, drop, get_or, refl, sym, ap, ◌∙◌, arith, append-nil, length-take, get_or-take}
use Rattle.std.proofs.Math.ListN.{drop_of_length-le}
use Rattle.std.proofs.Math.Seq.{drop-cons}
use Rattle.std.proofs.lemmas.Bool.{le-leb, leb-true, lt-leb}
use Rattle.std.proofs.lemmas.List.{take-append-drop}
use Rattle.std.specs.Prelude.{nat_le, if◌then◌else◌, Some, None}
use Rattle.stx_base.specs.declared.limits.Limits.{Limits}
use Rattle.xml_events.specs.Document.{doc}
use Rattle.xml_events.specs.Source.{Source, future}
use Rattle.sheet_loader.specs.Files.{limit_within, nodes_within}
use Rattle.sheet_files.specs.Frames.{cut_file, lists_at}

le_true : (n m : ℕ) → n ≤ m → nat_le n m ≡ true
le_true n m h = le-leb n m h

le_false : (n m : ℕ) → m < n → nat_le n m ≡ false
le_false n m h = lt-leb n m h

le_of : (n m : ℕ) → nat_le n m ≡ true → n ≤ m
le_of n m h = leb-true n m h

pub take_all : (xs : List ℕ) (m : ℕ) → length xs ≤ m → take m xs ≡ xs
take_all xs m h = sym (append-nil (take m xs)) ∙ ap (λ (d : List ℕ). take m xs ++ d) (sym (drop_of_length-le xs h)) ∙ take-append-drop m xs

begun_by : (s : Source) (limits : Limits) (bytes : List ℕ) (m : ℕ) → ((bytes : List ℕ) (ended : Bool) → future s bytes ended ≡ doc limits false bytes ended ∷ []) → (b : Bool) → nat_le (length bytes) m ≡ b → future s (drop 0 (take m bytes)) b ≡ (if b then doc limits false bytes true else doc limits false (take m bytes) false) ∷ []
begun_by s limits bytes m new true e = new (take m bytes) true ∙ ap (λ (xs : List ℕ). doc limits false xs true ∷ []) (take_all bytes m (le_of (length bytes) m e))
begun_by s limits bytes m new false e = new (take m bytes) false

-- of a file that is opened it has all to tell
pub begun : (s : Source) (limits : Limits) (bytes : List ℕ) (m : ℕ) → ((bytes : List ℕ) (ended : Bool) → future s bytes ended ≡ doc limits false bytes ended ∷ []) → lists_at s 0 bytes m ≡ nodes_within limits bytes m ∷ []
begun s limits bytes m new = begun_by s limits bytes m new (nat_le (length bytes) m) refl

-- a byte that it is given is no longer to come
pub handed_over : (old new : Source) (bytes : List ℕ) (taken m : ℕ) → taken < length bytes → suc taken ≤ m
    → ((more : List ℕ) (ended : Bool) → future new more ended ≡ future old (get_or bytes taken 0 ∷ more) ended)
    → lists_at new (suc taken) bytes m ≡ lists_at old taken bytes m
handed_over old new bytes taken m within le fed =
    let here : taken < length (take m bytes) = omega (arith, length-take m bytes) in
    let cons : drop taken (take m bytes) ≡ get_or (take m bytes) taken 0 ∷ drop (suc taken) (take m bytes) = drop-cons (take m bytes) taken 0 here in
    let byte : get_or (take m bytes) taken 0 ≡ get_or bytes taken 0 = get_or-take m bytes taken 0 le in
    fed (drop (suc taken) (take m bytes)) (nat_le (length bytes) m)
    ∙ ap (λ (xs : List ℕ). future old xs (nat_le (length bytes) m)) (ap (λ (b : ℕ). b ∷ drop (suc taken) (take m bytes)) (sym byte) ∙ sym cons)

pub drop_all : (xs : List ℕ) (n : ℕ) → length xs ≤ n → drop n xs ≡ []
drop_all xs n h = drop_of_length-le xs h

-- where all of its bytes were given, that it ends there is no news
pub ended : (old new : Source) (bytes : List ℕ) (m : ℕ) → length bytes ≤ m
    → ((more : List ℕ) (ended : Bool) → future new more ended ≡ future old [] true)
    → lists_at new (length bytes) bytes m ≡ lists_at old (length bytes) bytes m
ended old new bytes m le finished =
    let none : drop (length bytes) (take m bytes) ≡ [] = drop_all (take m bytes) (length bytes) (omega (arith, length-take m bytes)) in
    finished (drop (length bytes) (take m bytes)) (nat_le (length bytes) m)
    ∙ ap (λ (xs : List ℕ). future old xs true) (sym none) ∙ ap (λ (b : Bool). future old (drop (length bytes) (take m bytes)) b) (sym (le_true (length bytes) m le))

-- where more bytes are wanted and there are more, it has to tell what it has of those that it was given
pub wanting : (s : Source) (bytes : List ℕ) (taken : ℕ) → taken < length bytes → lists_at s taken bytes taken ≡ future s [] false
wanting s bytes taken within =
    let none : drop taken (take taken bytes) ≡ [] = drop_all (take taken bytes) taken (omega (arith, length-take taken bytes)) in
    ap (λ (xs : List ℕ). future s xs (nat_le (length bytes) taken)) none ∙ ap (λ (b : Bool). future s [] b) (le_false (length bytes) taken within)

cut_by : (limits : Limits) (bytes : List ℕ) (m : ℕ) → length bytes ≤ m → nodes_within limits bytes m ≡ doc limits false bytes true
cut_by limits bytes m le = ap (λ (b : Bool). if b then doc limits false bytes true else doc limits false (take m bytes) false) (le_true (length bytes) m le)

limit_by : (bytes : List ℕ) (m : ℕ) → length bytes ≤ m → limit_within bytes m ≡ None
limit_by bytes m le = ap (λ (b : Bool). if b then None else Some m) (le_true (length bytes) m le)

-- a file that may be read to its end is the whole file
pub cut_whole : (limits : Limits) (bytes : List ℕ) (m : ℕ) → length bytes ≤ m → cut_file limits bytes m ≡ cut_file limits bytes (length bytes)
cut_whole limits bytes m le =
    let nodes : nodes_within limits bytes m ≡ nodes_within limits bytes (length bytes) = cut_by limits bytes m le ∙ sym (cut_by limits bytes (length bytes) (omega arith)) in
    let limit : limit_within bytes m ≡ limit_within bytes (length bytes) = limit_by bytes m le ∙ sym (limit_by bytes (length bytes) (omega arith)) in
    cc

-- the limit comes where no more may be read
pub limit_here : (bytes : List ℕ) (m : ℕ) → m < length bytes → limit_within bytes m ≡ Some m
limit_here bytes m within = ap (λ (b : Bool). if b then None else Some m) (le_false (length bytes) m within)
