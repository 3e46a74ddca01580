-- Acts, and what they say.
use Rattle.std.proofs.Common.{◌≡◌, ℕ, ◌<◌, ◌==◌, ◌||◌, Bool, true, false, List, [], ◌∷◌, ◌++◌, refl, sym, ap, subst, ◌∙◌, arith, append_assoc}
use Rattle.std.specs.List.{list_any}
use Rattle.std.specs.Prelude.{if◌then◌else◌}
use Rattle.std.proofs.lemmas.List.{append-nil}
use Rattle.std.proofs.lemmas.Bool.Decides.{nat_tests}
use Rattle.std.proofs.lemmas.List.Folds.{list_any-append}
use Rattle.stx_host.proofs.Stretches.{between_joins}
use Rattle.stx_host.specs.Before.{Between, is_main_read}
use Rattle.stx_host.specs.Outside.{Outside, writes}
use Rattle.stx_host.specs.declared.act.Act.{Act}
use Rattle.stx_host.specs.declared.act.Act.TheVariants.{Open, Read, Close, Write}
use Rattle.stx_host.specs.declared.act.Lane.{Lane}
use Rattle.sheet_files.specs.Acts.{opens}
use Rattle.sheet_runs.specs.Reading.{EndOnce, ReadsOpened, is_doc_read, main_gots}

-- Stretches of time in which the lanes take nothing

pub between-acts : (a b c : Outside) (acts more : List Act) (out note : List ℕ) → Between a b acts out note → Between b c more [] [] → Between a c (acts ++ more) out note
between-acts a b c acts more out note first second =
    subst (λ n. Between a c (acts ++ more) out n) (append-nil note)
    (subst (λ o. Between a c (acts ++ more) o (note ++ [])) (append-nil out) (between_joins a b c acts more out [] note [] first second))

pub between-nothing : (a b c : Outside) (acts : List Act) (out note : List ℕ) → Between a b acts out note → Between b c [] [] [] → Between a c acts out note
between-nothing a b c acts out note first second = subst (λ l. Between a c l out note) (append-nil acts) (between-acts a b c acts [] out note first second)

-- What is opened

pub opens-then : (xs ys : List Act) → opens (xs ++ ys) ≡ opens xs ++ opens ys
opens-then [] ys = refl
opens-then (Open doc id ∷ xs) ys = ap (λ l. doc ∷ l) (opens-then xs ys)
opens-then (Read id got ∷ xs) ys = opens-then xs ys
opens-then (Close id ∷ xs) ys = opens-then xs ys
opens-then (Write lane len ∷ xs) ys = opens-then xs ys

pub opens-writes : (lane : Lane) (lens : List ℕ) → opens (writes lane lens) ≡ []
opens-writes lane [] = refl
opens-writes lane (n ∷ lens) = opens-writes lane lens

-- acts that open nothing
pub opens-nothing : (acts more : List Act) → opens more ≡ [] → opens (acts ++ more) ≡ opens acts
opens-nothing acts more none = opens-then acts more ∙ ap (λ l. opens acts ++ l) none ∙ append-nil (opens acts)

-- What is read of the main document

pub gots-then : (xs ys : List Act) → main_gots (xs ++ ys) ≡ main_gots xs ++ main_gots ys
gots-then [] ys = refl
gots-then (Open doc id ∷ xs) ys = gots-then xs ys
gots-then (Read id got ∷ xs) ys =
    let here : List ℕ = if id == 0 then got ∷ [] else [] in
    ap (λ l. here ++ l) (gots-then xs ys) ∙ sym (append_assoc here (main_gots xs) (main_gots ys))
gots-then (Close id ∷ xs) ys = gots-then xs ys
gots-then (Write lane len ∷ xs) ys = gots-then xs ys

pub gots-writes : (lane : Lane) (lens : List ℕ) → main_gots (writes lane lens) ≡ []
gots-writes lane [] = refl
gots-writes lane (n ∷ lens) = gots-writes lane lens

-- acts that read nothing of it
pub once-same : (ended : Bool) (acts more : List Act) → main_gots more ≡ [] → EndOnce ended (main_gots acts) → EndOnce ended (main_gots (acts ++ more))
once-same ended acts more none once = subst (EndOnce ended) (sym (gots-then acts more ∙ ap (λ l. main_gots acts ++ l) none ∙ append-nil (main_gots acts))) once

is-some : (n : ℕ) → 0 < n → (n == 0) ≡ false
is-some n h = grind (arith, nat_tests)

-- a read gave some bytes
pub once-bytes : (acts : List Act) (n : ℕ) → 0 < n → EndOnce false (main_gots acts) → EndOnce false (main_gots (acts ++ Read 0 n ∷ []))
once-bytes acts n some once =
    ap (list_any (λ got. got == 0)) (gots-then acts (Read 0 n ∷ [])) ∙ list_any-append (λ got. got == 0) (main_gots acts) (n ∷ [])
    ∙ ap (λ b. b || ((n == 0) || false)) once ∙ ap (λ b. b || false) (is-some n some)

-- a read gave the end
pub once-end : (acts : List Act) → EndOnce false (main_gots acts) → EndOnce true (main_gots (acts ++ Read 0 0 ∷ []))
once-end acts once = (main_gots acts, once, gots-then acts (Read 0 0 ∷ []))

-- no read of it
pub none-then : (xs ys : List Act) → list_any is_main_read xs ≡ false → list_any is_main_read ys ≡ false → list_any is_main_read (xs ++ ys) ≡ false
none-then xs ys e f = list_any-append is_main_read xs ys ∙ ap (λ b. b || list_any is_main_read ys) e ∙ f

pub none-writes : (lane : Lane) (lens : List ℕ) → list_any is_main_read (writes lane lens) ≡ false
none-writes lane [] = refl
none-writes lane (n ∷ lens) = none-writes lane lens

-- no read of another document, where none is opened
pub none-read : (lane : Lane) (lens : List ℕ) → list_any is_doc_read (writes lane lens) ≡ false
none-read lane [] = refl
none-read lane (n ∷ lens) = none-read lane lens

pub alone-then : (acts more : List Act) → opens more ≡ [] → list_any is_doc_read more ≡ false → ReadsOpened acts → ReadsOpened (acts ++ more)
alone-then acts more opens_none reads_none alone none =
    list_any-append is_doc_read acts more ∙ ap (λ b. b || list_any is_doc_read more) (alone (sym (opens-nothing acts more opens_none) ∙ none)) ∙ reads_none
