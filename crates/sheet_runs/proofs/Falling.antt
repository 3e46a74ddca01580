-- There is an end to what a run over a host does.
use Rattle.std.proofs.Common.{◌≡◌, ℕ, false, ◌+◌, ◌*◌, ◌<◌, ◌≤◌, List, [], ◌∷◌, ◌++◌, Some, None, length, length-append, arith, refl, sym, ap, subst, ◌∙◌, add-lt-add_of_le_of_lt, mul-le-mul_right, suc-mul}
use Rattle.stx_base.specs.declared.limits.Limits.{Limits}
use Rattle.xml_tokens.specs.Reader.{fed}
use Rattle.xml_events.specs.Source.{ended_there, events_left, fed_with}
use Rattle.run_engine.specs.Asks.{AsksFewer, main_events, of_main}
use Rattle.run_engine.specs.Run.{Document, Main, MainIsHungry, New, Open, Over, Run, Stage, Wants}
use Rattle.run_engine.specs.Taking.{Takes, Took, ended_first, fed_first, opened_first}
use Rattle.sheet_runs.specs.declared.other.Other.{Other}
use Rattle.sheet_runs.specs.inside.Running.{AreLimited, Going, going_in}
use Rattle.sheet_runs.specs.inside.Left.{if_main, main_to_read, others_to_read, to_read, unless_over, wanted, while_beside}
use Rattle.sheet_runs.proofs.Documents.{going-fed, going-first, going-took}

-- What may be read

pub read-more : (input read n : ℕ) → read ≤ input → 0 < n → to_read input (read + n) < to_read input read
read-more input read n within some = omega (arith, within, some)

pub read-some : (input read : ℕ) → read ≤ input → 0 < to_read input read
read-some input read within = omega (arith, within)

pub others-join : (input : ℕ) (os : List Other) (o : Other) → others_to_read input (os ++ o ∷ []) ≡ others_to_read input os + to_read input o.read
others-join input [] o = omega arith
others-join input (x ∷ os) o = omega (arith, others-join input os o)

-- more was read of the newest
pub others-more : (input : ℕ) (os : List Other) (o : Other) (n : ℕ) → o.read ≤ input → 0 < n
    → others_to_read input (os ++ record o { read = o.read + n } ∷ []) < others_to_read input (os ++ o ∷ [])
others-more input os o n within some =
    omega (arith, others-join input os (record o { read = o.read + n }), others-join input os o, read-more input o.read n within some)

-- it was closed
pub others-fewer : (input : ℕ) (os : List Other) (o : Other) → o.read ≤ input → others_to_read input os < others_to_read input (os ++ o ∷ [])
others-fewer input os o within = omega (arith, others-join input os o, read-some input o.read within)

-- one was opened
pub others-opened : (input : ℕ) (os : List Other) (o : Other) → o.read ≡ 0 → others_to_read input (os ++ o ∷ []) ≤ others_to_read input os + (input + 2)
others-opened input os o new = omega (arith, others-join input os o, new)

-- What may be asked for

-- nothing of another document is an event of the main one
of-other : (name : List ℕ) (d : Open) (ds : List Open) (n : ℕ) → d.name ≡ Some name → of_main d.name n + main_events ds ≡ main_events ds
of-other name d ds n other = omega (arith, ap (λ o. of_main o n) other)

pub fed-main : (bytes name : List ℕ) (d : Open) (ds : List Open) → d.name ≡ Some name → main_events (fed_first bytes (d ∷ ds)) ≡ main_events (d ∷ ds)
fed-main bytes name d ds other = of-other name d ds (events_left (fed_with d.source bytes)) other ∙ sym (of-other name d ds (events_left d.source) other)

pub ended-main : (name : List ℕ) (d : Open) (ds : List Open) → d.name ≡ Some name → main_events (ended_first (d ∷ ds)) ≡ main_events (d ∷ ds)
ended-main name d ds other = of-other name d ds (events_left (ended_there d.source)) other ∙ sym (of-other name d ds (events_left d.source) other)

pub opened-main : (r : Run) (s : Stage) → main_events (opened_first r s) ≡ main_events r.documents
opened-main r New = refl
opened-main r Main = refl
opened-main r Document = refl
opened-main r (Wants name) = omega arith
opened-main r (Over o) = refl

-- What is left

-- no more is asked for, and less is to be read
pub less-read : (x y k m n : ℕ) → x ≤ y → m < n → x * k + m < y * k + n
less-read x y k m n asks reads = add-lt-add_of_le_of_lt (mul-le-mul_right k asks) reads

-- less is asked for, and no more is to be read but what one document has
pub less-asked : (x y k m n t : ℕ) → x < y → t < k → m ≤ n + t → x * k + m < y * k + n
less-asked x y k m n t asks one reads = omega (arith, subst (λ z. z ≤ y * k) (suc-mul x k) (mul-le-mul_right k asks), one, reads)

-- What is left after a step between two pieces of the main document

some-left : (y k m n : ℕ) → m < n → 0 < y * k + n
some-left y k m n reads = omega (arith, reads)

-- after bytes of another document, or its end
pub read-left : (a b : ℕ) (s : Stage) (input m n : ℕ) → AsksFewer s b a → m < n → while_beside s ((2 * a + wanted s) * (input + 3) + m) < (2 * b + 0) * (input + 3) + n
read-left a b New input m n asks reads = some-left (2 * b + 0) (input + 3) m n reads
read-left a b Main input m n asks reads = some-left (2 * b + 0) (input + 3) m n reads
read-left a b (Over o) input m n asks reads = some-left (2 * b + 0) (input + 3) m n reads
read-left a b Document input m n asks reads = less-read (2 * a + 0) (2 * b + 0) (input + 3) m n (omega (arith, asks)) reads
read-left a b (Wants name) input m n asks reads = less-read (2 * a + 1) (2 * b + 0) (input + 3) m n (omega (arith, asks)) reads

some-wanted : (b input n : ℕ) → 0 < (2 * b + 1) * (input + 3) + n
some-wanted b input n = omega (arith, less-asked 0 (2 * b + 1) (input + 3) 0 n (input + 2) (omega arith) (omega arith) (omega arith))

-- after a document was opened
pub open-left : (a b : ℕ) (s : Stage) (input m n : ℕ) → AsksFewer s b a → m ≤ n + (input + 2) → while_beside s ((2 * a + wanted s) * (input + 3) + m) < (2 * b + 1) * (input + 3) + n
open-left a b New input m n asks reads = some-wanted b input n
open-left a b Main input m n asks reads = some-wanted b input n
open-left a b (Over o) input m n asks reads = some-wanted b input n
open-left a b Document input m n asks reads = less-asked (2 * a + 0) (2 * b + 1) (input + 3) m n (input + 2) (omega (arith, asks)) (omega arith) reads
open-left a b (Wants name) input m n asks reads = less-asked (2 * a + 1) (2 * b + 1) (input + 3) m n (input + 2) (omega (arith, asks)) (omega arith) reads

-- What is left of the main document

-- as much as before, whatever was read of another document
pub main-beside : (input : ℕ) (name : List ℕ) (d : Open) (ds : List Going) (m n : ℕ) → d.name ≡ Some name
    → main_to_read input (record { name = d.name; read = m } ∷ ds) ≡ main_to_read input (record { name = d.name; read = n } ∷ ds)
main-beside input name d ds m n other =
    ap (λ x. main_to_read input (record { name = x; read = m } ∷ ds)) other ∙ sym (ap (λ x. main_to_read input (record { name = x; read = n } ∷ ds)) other)

-- and where it is gone
pub main-without : (input : ℕ) (name : List ℕ) (d : Open) (ds : List Going) (m : ℕ) → d.name ≡ Some name
    → main_to_read input ds ≡ main_to_read input (record { name = d.name; read = m } ∷ ds)
main-without input name d ds m other = omega (arith, ap (λ x. if_main x (to_read input m)) other)

-- more of it was read
pub main-more : (input read n : ℕ) (ds : List Going) → read ≤ input → 0 < n
    → main_to_read input (record { name = None; read = read + n } ∷ ds) < main_to_read input (record { name = None; read = read } ∷ ds)
main-more input read n ds within some = omega (arith, within, some)

-- it has ended
pub main-ends : (input read : ℕ) (ds : List Going) → read ≤ input → main_to_read input ds < main_to_read input (record { name = None; read = read } ∷ ds)
main-ends input read ds within = omega (arith, within)

-- no more of it is left where a piece of a sample has no bytes
pub main-same : (input read n : ℕ) (ds : List Going)
    → main_to_read input (record { name = None; read = read + n } ∷ ds) ≤ main_to_read input (record { name = None; read = read } ∷ ds)
main-same input read n ds = omega arith

-- fewer pieces of a sample are left
pub pieces-fewer : (front new : List (List ℕ)) → 0 < length front → length new < length (front ++ new)
pieces-fewer front new some = omega (arith, length-append front new, some)

-- What is left of it once the engine took a piece

module _ (before after : List Open) (input : ℕ) where
  by-took : (k : ℕ) (P : ℕ → Type 0) → Took before after → P (main_to_read input (going_in before) + k) → P (main_to_read input (going_in after) + k)
  by-took k P t p = subst (λ g. P (main_to_read input g + k)) (sym (going-took before after t)) p

  pub main-took : (s : Stage) (k m : ℕ) → Takes s before after → main_to_read input (going_in before) + k ≤ m → unless_over s (main_to_read input (going_in after) + k) ≤ m
  main-took New k m t fits = by-took k (λ n. n ≤ m) t fits
  main-took Main k m t fits = by-took k (λ n. n ≤ m) t fits
  main-took Document k m t fits = by-took k (λ n. n ≤ m) t fits
  main-took (Wants name) k m t fits = by-took k (λ n. n ≤ m) t fits
  main-took (Over o) k m t fits = omega arith

  pub main-took-less : (s : Stage) (k m : ℕ) → Takes s before after → main_to_read input (going_in before) + k < m → unless_over s (main_to_read input (going_in after) + k) < m
  main-took-less New k m t fits = by-took k (λ n. n < m) t fits
  main-took-less Main k m t fits = by-took k (λ n. n < m) t fits
  main-took-less Document k m t fits = by-took k (λ n. n < m) t fits
  main-took-less (Wants name) k m t fits = by-took k (λ n. n < m) t fits
  main-took-less (Over o) k m t fits = omega (arith, fits)

-- What is left of it once it was handed in

as-main : (d : Open) (n : ℕ) (ds : List Open) → d.name ≡ None → record { name = d.name; read = n } ∷ going_in ds ≡ record { name = None; read = n } ∷ going_in ds
as-main d n ds main = ap (λ x. record { name = x; read = n } ∷ going_in ds) main

fed-as-main : (bytes : List ℕ) (d : Open) (ds : List Open) → d.name ≡ None → d.source.lexer.ended ≡ false
    → going_in (fed_first bytes (d ∷ ds)) ≡ record { name = None; read = fed d.source.lexer + length bytes } ∷ going_in ds
fed-as-main bytes d ds main goes = going-fed bytes d ds goes ∙ as-main d (fed d.source.lexer + length bytes) ds main

now-as-main : (d : Open) (ds : List Open) → d.name ≡ None → d.source.lexer.ended ≡ false → going_in (d ∷ ds) ≡ record { name = None; read = fed d.source.lexer } ∷ going_in ds
now-as-main d ds main goes = going-first d ds goes ∙ as-main d (fed d.source.lexer) ds main

module _ (limits : Limits) where
  pub fed-more : (bytes : List ℕ) (ds : List Open) → MainIsHungry ds → main_to_read limits.input (going_in (fed_first bytes ds)) ≤ main_to_read limits.input (going_in ds)
  fed-more bytes [] h = absurd h
  fed-more bytes (d ∷ ds) h =
      subst (λ g. main_to_read limits.input g ≤ main_to_read limits.input (going_in (d ∷ ds))) (sym (fed-as-main bytes d ds h.0 h.1.unended))
      (subst (λ g. main_to_read limits.input (record { name = None; read = fed d.source.lexer + length bytes } ∷ going_in ds) ≤ main_to_read limits.input g) (sym (now-as-main d ds h.0 h.1.unended))
      (main-same limits.input (fed d.source.lexer) (length bytes) (going_in ds)))

  pub fed-less : (bytes : List ℕ) (ds : List Open) → MainIsHungry ds → AreLimited limits ds → 0 < length bytes
      → main_to_read limits.input (going_in (fed_first bytes ds)) < main_to_read limits.input (going_in ds)
  fed-less bytes [] h l some = absurd h
  fed-less bytes (d ∷ ds) h l some =
      subst (λ g. main_to_read limits.input g < main_to_read limits.input (going_in (d ∷ ds))) (sym (fed-as-main bytes d ds h.0 h.1.unended))
      (subst (λ g. main_to_read limits.input (record { name = None; read = fed d.source.lexer + length bytes } ∷ going_in ds) < main_to_read limits.input g) (sym (now-as-main d ds h.0 h.1.unended))
      (main-more limits.input (fed d.source.lexer) (length bytes) (going_in ds) (subst (λ (x : Limits). fed d.source.lexer ≤ x.input) l.0 h.1.within) some))

  pub ended-less : (ds : List Open) → MainIsHungry ds → AreLimited limits ds → main_to_read limits.input (going_in (ended_first ds)) < main_to_read limits.input (going_in ds)
  ended-less [] h l = absurd h
  ended-less (d ∷ ds) h l =
      subst (λ g. main_to_read limits.input (going_in ds) < main_to_read limits.input g) (sym (now-as-main d ds h.0 h.1.unended))
      (main-ends limits.input (fed d.source.lexer) (going_in ds) (subst (λ (x : Limits). fed d.source.lexer ≤ x.input) l.0 h.1.within))
