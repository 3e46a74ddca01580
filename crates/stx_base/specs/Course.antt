-- Definitions by general recursion: a function says what one call does, and what comes of it follows, once for all such functions.
use Rattle.std.specs.Prelude.{◌≡◌, ℕ, zero, suc, List, [], ◌∷◌, ◌++◌}

-- What is done, where calls are in Q, results in R, what is said in O and how the whole ends in E: it gives a result, it ends
-- the whole, it says something and goes on, or it makes a call and goes on with the call's result.
pub data Course (Q R O E : Type 0) : Type 0 where
  Ret : R → Course Q R O E
  Halt : E → Course Q R O E
  Say : O → Course Q R O E → Course Q R O E
  Ask : Q → (R → Course Q R O E) → Course Q R O E

-- x, and then k with the result of x, unless x ends the whole
abbrev pub and_then : {Q R O E : Type 0} → Course Q R O E → (R → Course Q R O E) → Course Q R O E
and_then (Ret r) k = k r
and_then (Halt e) k = Halt e
and_then (Say o x) k = Say o (and_then x k)
and_then (Ask q h) k = Ask q (λ r. and_then (h r) k)

-- all of os is said, and then x is done
abbrev pub says : {Q R O E : Type 0} → List O → Course Q R O E → Course Q R O E
says [] x = x
says (o ∷ os) x = Say o (says os x)

-- what comes of it: what was said, and then a result, the end of the whole, or no more that is known
pub data Answer (R O E : Type 0) : Type 0 where
  Given : List O → R → Answer R O E
  Over : List O → E → Answer R O E
  Unknown : List O → Answer R O E

-- the answer, where os was said before
abbrev pub after : {R O E : Type 0} → List O → Answer R O E → Answer R O E
after os (Given ps r) = Given (os ++ ps) r
after os (Over ps e) = Over (os ++ ps) e
after os (Unknown ps) = Unknown (os ++ ps)

-- the answer of going on with a result, if there is one
abbrev pub with_result : {R O E : Type 0} → Answer R O E → (R → Answer R O E) → Answer R O E
with_result (Given os r) k = after os (k r)
with_result (Over os e) k = Over os e
with_result (Unknown os) k = Unknown os

-- what comes of a course, where f says what comes of each call
abbrev pub value : {Q R O E : Type 0} → (Q → Answer R O E) → Course Q R O E → Answer R O E
value f (Ret r) = Given [] r
value f (Halt e) = Over [] e
value f (Say o x) = after (o ∷ []) (value f x)
value f (Ask q k) = with_result (f q) (λ r. value f (k r))

-- what comes of a call, where each call does what code says and calls are nested at most n deep
abbrev pub run : {Q R O E : Type 0} → (Q → Course Q R O E) → ℕ → Q → Answer R O E
run code zero q = Unknown []
run code (suc n) q = value (run code n) (code q)

-- x says os and gives r
pub record Gives {Q R O E : Type 0} (code : Q → Course Q R O E) (x : Course Q R O E) (os : List O) (r : R) : Type 0 where
  pub depth : ℕ
  pub comes : value (run code depth) x ≡ Given os r

-- x says os and ends the whole so
pub record Ends {Q R O E : Type 0} (code : Q → Course Q R O E) (x : Course Q R O E) (os : List O) (e : E) : Type 0 where
  pub depth : ℕ
  pub comes : value (run code depth) x ≡ Over os e

-- x and y have the same ends
pub record Same {Q R O E : Type 0} (code : Q → Course Q R O E) (x y : Course Q R O E) : Type 0 where
  pub to : (os : List O) (e : E) → Ends code x os e → Ends code y os e
  pub from : (os : List O) (e : E) → Ends code y os e → Ends code x os e

-- ps is a beginning of os
abbrev pub Begins : {O : Type 0} → List O → List O → Type 0
Begins {O} ps os = (rs : List O) × (ps ++ rs ≡ os)

-- x gives a result after ps, and k with that result ends so after the rest of os
pub record Continues {Q R O E : Type 0} (code : Q → Course Q R O E) (x : Course Q R O E) (k : R → Course Q R O E) (os : List O) (e : E) : Type 0 where
  pub result : R
  pub before : List O
  pub rest : List O
  pub joined : before ++ rest ≡ os
  pub gives : Gives code x before result
  pub ends : Ends code (k result) rest e
