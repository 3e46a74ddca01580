-- That nothing is read behind an end, one act after another.
use Rattle.std.proofs.Common.{◌≡◌, ℕ, Bool, true, false, ◌==◌, List, [], ◌∷◌, ◌++◌, Option, refl, sym, ap, subst, ◌∙◌, inl, inr}
use Rattle.std.proofs.lemmas.Bool.{eq-eqb, eqb-false, eqb-true, false≢true, ne_eqb}
use Rattle.std.specs.Prelude.{if◌then◌else◌, ◌||◌, ◌⊎◌}
use Rattle.stx_host.specs.declared.act.Act.{Act}
use Rattle.stx_host.specs.declared.act.Act.TheVariants.{Open, Read, Close, Write}
use Rattle.sheet_files.specs.Acts.{NoneBehindEnd, is_read_on}
use Rattle.sheet_files.specs.Held.{AreOnce, AreUnended, ended_behind}
use Rattle.sheet_files.specs.Steps.{AreCloses}
use Rattle.sheet_files.specs.declared.going.Going.{Going}
use Rattle.sheet_files.proofs.Holding.{AllApart}

-- what two stretches of time say of an end
ended_more : (before : Bool) (id : ℕ) (acts more : List Act) → ended_behind before id (acts ++ more) ≡ ended_behind (ended_behind before id acts) id more
ended_more before id [] more = refl
ended_more before id (Open doc k ∷ acts) more = ended_more (if k == id then false else before) id acts more
ended_more before id (Read k got ∷ acts) more = ended_more (if k == id then before || (got == 0) else before) id acts more
ended_more before id (Close k ∷ acts) more = ended_more before id acts more
ended_more before id (Write lane len ∷ acts) more = ended_more before id acts more

if_same : {A : Type 0} (b : Bool) (x y : A) → x ≡ y → (if b then x else y) ≡ y
if_same true x y e = e
if_same false x y e = refl

-- an end that isn't behind an id any more: it was given again
given_again : (id : ℕ) (acts more : List Act) → ended_behind true id acts ≡ false → is_read_on id (acts ++ more) ≡ is_read_on id acts
given_again id [] more e = absurd (false≢true (sym e))
given_again id (Open doc k ∷ acts) more e = by (k == id) e (given_again id acts more) where
  by : (b : Bool) → ended_behind (if b then false else true) id acts ≡ false → (ended_behind true id acts ≡ false → is_read_on id (acts ++ more) ≡ is_read_on id acts) → (if b then false else is_read_on id (acts ++ more)) ≡ (if b then false else is_read_on id acts)
  by true e on = refl
  by false e on = on e
given_again id (Read k got ∷ acts) more e = by (k == id) e (given_again id acts more) where
  by : (b : Bool) → ended_behind (if b then true || (got == 0) else true) id acts ≡ false → (ended_behind true id acts ≡ false → is_read_on id (acts ++ more) ≡ is_read_on id acts) → (b || is_read_on id (acts ++ more)) ≡ (b || is_read_on id acts)
  by true e on = refl
  by false e on = on e
given_again id (Close k ∷ acts) more e = given_again id acts more e
given_again id (Write lane len ∷ acts) more e = given_again id acts more e

-- nothing more is read of an id
none_read : (id : ℕ) (acts more : List Act) → is_read_on id more ≡ false → is_read_on id (acts ++ more) ≡ is_read_on id acts
none_read id [] more none = none
none_read id (Open doc k ∷ acts) more none = ap (λ (b : Bool). if k == id then false else b) (none_read id acts more none)
none_read id (Read k got ∷ acts) more none = ap (λ (b : Bool). (k == id) || b) (none_read id acts more none)
none_read id (Close k ∷ acts) more none = none_read id acts more none
none_read id (Write lane len ∷ acts) more none = none_read id acts more none

-- an id may be read on: nothing more is read of it, or no end is behind it
abbrev MayReadOn : (more : List Act) → (id : ℕ) → List Act → Type 0
MayReadOn more id acts = (is_read_on id more ≡ false) ⊎ ((before : Bool) × (ended_behind before id acts ≡ false))

or_true : (b : Bool) → (b || true) ≡ true
or_true true = refl
or_true false = refl

none_after : (id : ℕ) (acts more : List Act) (got : ℕ) → got ≡ 0 → MayReadOn more id (Read id got ∷ acts) → is_read_on id (acts ++ more) ≡ is_read_on id acts
none_after id acts more got zero (inl none) = none_read id acts more none
none_after id acts more got zero (inr (before, e)) =
    let ended : (if id == id then before || (got == 0) else before) ≡ true =
    ap (λ (b : Bool). if b then before || (got == 0) else before) (eq-eqb id id refl) ∙ ap (λ (b : Bool). before || b) (eq-eqb got 0 zero) ∙ or_true before in
    given_again id acts more (subst (λ (b : Bool). ended_behind b id acts ≡ false) ended e)

pub none_joined : (acts more : List Act) → NoneBehindEnd acts → NoneBehindEnd more → ((id : ℕ) → MayReadOn more id acts) → NoneBehindEnd (acts ++ more)
none_joined [] more a b free = b
none_joined (Read k got ∷ acts) more a b free =
    (λ zero. none_after k acts more got zero (free k) ∙ a.0 zero, none_joined acts more a.1 b (λ id. on id (free id))) where
      on : (id : ℕ) → MayReadOn more id (Read k got ∷ acts) → MayReadOn more id acts
      on id (inl none) = inl none
      on id (inr (before, e)) = inr (_, e)
none_joined (Open doc k ∷ acts) more a b free = none_joined acts more a b (λ id. on id (free id)) where
  on : (id : ℕ) → MayReadOn more id (Open doc k ∷ acts) → MayReadOn more id acts
  on id (inl none) = inl none
  on id (inr (before, e)) = inr (_, e)
none_joined (Close k ∷ acts) more a b free = none_joined acts more a b free
none_joined (Write lane len ∷ acts) more a b free = none_joined acts more a b free

-- acts that read nothing, and put no end behind an id
pub record AreQuiet (more : List Act) : Type 0 where
  pub none_behind : NoneBehindEnd more
  pub none : (id : ℕ) → (is_read_on id more ≡ false) × (ended_behind false id more ≡ false)

pub quiet_open : (doc : Option ℕ) (id : ℕ) → AreQuiet (Open doc id ∷ [])
quiet_open doc id = record { none_behind = tt; none = λ k. (if_same (id == k) false false refl, if_same (id == k) false false refl) }

closes_none : (closes : List Act) → AreCloses closes → (id : ℕ) → (is_read_on id closes ≡ false) × (ended_behind false id closes ≡ false)
closes_none [] are id = (refl, refl)
closes_none (Close k ∷ closes) are id = closes_none closes are id
closes_none (Open doc k ∷ closes) are id = absurd are
closes_none (Read k got ∷ closes) are id = absurd are
closes_none (Write lane len ∷ closes) are id = absurd are

closes_behind : (closes : List Act) → AreCloses closes → NoneBehindEnd closes
closes_behind [] are = tt
closes_behind (Close k ∷ closes) are = closes_behind closes are
closes_behind (Open doc k ∷ closes) are = absurd are
closes_behind (Read k got ∷ closes) are = absurd are
closes_behind (Write lane len ∷ closes) are = absurd are

pub quiet_closes : (closes : List Act) → AreCloses closes → AreQuiet closes
quiet_closes closes are = record { none_behind = closes_behind closes are; none = closes_none closes are }

pub none_quiet : (acts more : List Act) → NoneBehindEnd acts → AreQuiet more → NoneBehindEnd (acts ++ more)
none_quiet acts more behind quiet = none_joined acts more behind quiet.none_behind (λ id. inl (quiet.none id).0)

unended_quiet : (acts more : List Act) (going : List Going) → AreQuiet more → AreUnended acts going → AreUnended (acts ++ more) going
unended_quiet acts more [] quiet are = tt
unended_quiet acts more (g ∷ going) quiet are =
    (λ on. ended_more false g.id acts more ∙ ap (λ (b : Bool). ended_behind b g.id more) (are.0 on) ∙ (quiet.none g.id).1, unended_quiet acts more going quiet are.1)

pub once_quiet : (acts more : List Act) (going : List Going) → AreOnce acts going → AreQuiet more → AreOnce (acts ++ more) going
once_quiet acts more going once quiet = record { none_behind = none_quiet acts more once.none_behind quiet; unended = unended_quiet acts more going quiet once.unended }

unended_front : (acts : List Act) (front : List Going) (g : Going) → AreUnended acts (front ++ g ∷ []) → AreUnended acts front × (g.reader.lexer.ended ≡ false → ended_behind false g.id acts ≡ false)
unended_front acts [] g are = (tt, are.0)
unended_front acts (f ∷ front) g are = let r = unended_front acts front g are.1 in ((are.0, r.0), r.1)

unended_snoc : (acts : List Act) (front : List Going) (g : Going) → AreUnended acts front → (g.reader.lexer.ended ≡ false → ended_behind false g.id acts ≡ false) → AreUnended acts (front ++ g ∷ [])
unended_snoc acts [] g are own = (own, tt)
unended_snoc acts (f ∷ front) g are own = (are.0, unended_snoc acts front g are.1 own)

pub once_front : (acts : List Act) (front : List Going) (g : Going) → AreOnce acts (front ++ g ∷ []) → AreOnce acts front
once_front acts front g once = record { none_behind = once.none_behind; unended = (unended_front acts front g once.unended).0 }

-- a file was opened
pub once_entered : (acts : List Act) (doc : Option ℕ) (going : List Going) (h : Going) → AreOnce acts going → AreOnce (acts ++ Open doc h.id ∷ []) (going ++ h ∷ [])
once_entered acts doc going h once =
    let now = once_quiet acts (Open doc h.id ∷ []) going once (quiet_open doc h.id) in
    record {
      none_behind = now.none_behind;
      unended = unended_snoc (acts ++ Open doc h.id ∷ []) going h now.unended
          (λ on. ended_more false h.id acts (Open doc h.id ∷ []) ∙ ap (λ (b : Bool). if b then false else ended_behind false h.id acts) (eq-eqb h.id h.id refl));
    }

-- acts that read of one file alone, and of that only before its end
pub record ReadsOn (more : List Act) (g : Going) : Type 0 where
  pub none_behind : NoneBehindEnd more
  pub others : (k : ℕ) → (k ≡ g.id → ⊥) → is_read_on k more ≡ false
  pub own : (is_read_on g.id more ≡ false) ⊎ (g.reader.lexer.ended ≡ false)

pub reads_on : (acts more : List Act) (front : List Going) (g : Going) → AreOnce acts (front ++ g ∷ []) → ReadsOn more g → NoneBehindEnd (acts ++ more)
reads_on acts more front g once reads = none_joined acts more once.none_behind reads.none_behind (λ id. by id (id == g.id) refl) where
  own : (id : ℕ) → id ≡ g.id → MayReadOn more id acts
  own id e = elim reads.own [ inl none ↦ inl (ap (λ (k : ℕ). is_read_on k more) e ∙ none) | inr on ↦ inr (false, ap (λ (k : ℕ). ended_behind false k acts) e ∙ (unended_front acts front g once.unended).1 on) ]

  by : (id : ℕ) (b : Bool) → (id == g.id) ≡ b → MayReadOn more id acts
  by id true e = own id (eqb-true id g.id e)
  by id false e = inl (reads.others id (eqb-false id g.id e))

-- what a look at the innermost file says of ends
pub record GoesOnce (more : List Act) (g h : Going) : Type 0 where
  pub reads : ReadsOn more g
  pub others : (k : ℕ) → (k ≡ g.id → ⊥) → (b : Bool) → ended_behind b k more ≡ b
  pub ends : h.reader.lexer.ended ≡ false → (g.reader.lexer.ended ≡ false) × (ended_behind false g.id more ≡ false)

unended_apart : (acts more : List Act) (id : ℕ) (going : List Going) → AllApart id going → ((k : ℕ) → (k ≡ id → ⊥) → (b : Bool) → ended_behind b k more ≡ b) → AreUnended acts going → AreUnended (acts ++ more) going
unended_apart acts more id [] apart others are = tt
unended_apart acts more id (g ∷ going) apart others are =
    (λ on. ended_more false g.id acts more ∙ others g.id apart.0 (ended_behind false g.id acts) ∙ are.0 on, unended_apart acts more id going apart.1 others are.1)

pub once_goes : (acts more : List Act) (front : List Going) (g h : Going) → AllApart g.id front → h.id ≡ g.id → AreOnce acts (front ++ g ∷ []) → GoesOnce more g h → AreOnce (acts ++ more) (front ++ h ∷ [])
once_goes acts more front g h apart id once goes =
    let r = unended_front acts front g once.unended in
    record {
      none_behind = reads_on acts more front g once goes.reads;
      unended = unended_snoc (acts ++ more) front h (unended_apart acts more g.id front apart goes.others r.0)
          (λ on.
          let e = goes.ends on in
          ap (λ (k : ℕ). ended_behind false k (acts ++ more)) id ∙ ended_more false g.id acts more ∙ ap (λ (b : Bool). ended_behind b g.id more) (r.1 e.0) ∙ e.1);
    }

-- nothing is done
pub goes_nothing : (g h : Going) → h.reader.lexer.ended ≡ g.reader.lexer.ended → GoesOnce [] g h
goes_nothing g h ended =
    record { reads = record { none_behind = tt; others = λ k apart. refl; own = inl refl }; others = λ k apart b. refl; ends = λ on. (sym ended ∙ on, refl) }

one_read : (id got k : ℕ) → (k ≡ id → ⊥) → is_read_on k (Read id got ∷ []) ≡ false
one_read id got k apart = ap (λ (b : Bool). b || false) (ne_eqb id k (λ h. apart (sym h)))

-- it is read once
pub reads_once : (g : Going) (got : ℕ) → g.reader.lexer.ended ≡ false → ReadsOn (Read g.id got ∷ []) g
reads_once g got on = record { none_behind = (λ zero. refl, tt); others = one_read g.id got; own = inr on }

-- and either there was more, or its end was told
pub goes_once : (g h : Going) (got : ℕ) → g.reader.lexer.ended ≡ false → (h.reader.lexer.ended ≡ false → got ≡ 0 → ⊥) → GoesOnce (Read g.id got ∷ []) g h
goes_once g h got on some =
    record {
      reads = reads_once g got on;
      others = λ k apart b. ap (λ (x : Bool). if x then b || (got == 0) else b) (ne_eqb g.id k (λ e. apart (sym e)));
      ends = λ still. (on, ap (λ (x : Bool). if x then false || (got == 0) else false) (eq-eqb g.id g.id refl) ∙ ne_eqb got 0 (some still));
    }
