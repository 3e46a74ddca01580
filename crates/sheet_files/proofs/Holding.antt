-- That the files that are being read are open.
use Rattle.std.proofs.Common.{◌≡◌, ℕ, ◌+◌, ◌<◌, ◌≤◌, Bool, true, false, ◌==◌, ◌||◌, List, [], ◌∷◌, ◌++◌, Option, Some, None, IfSome, refl, sym, ap, subst, ◌∙◌, arith, append_assoc}
use Rattle.std.proofs.lemmas.Bool.{eqb-false}
use Rattle.std.proofs.lemmas.List.Folds.{list_any-append}
use Rattle.stx_base.specs.declared.limits.Limits.{Limits}
use Rattle.stx_host.proofs.OpenIds.{given_back, given_is_open}
use Rattle.stx_host.specs.Outside.{Closes, IsOpen, MayOpen, Opens, Outside, and_more, is_among, opened}
use Rattle.stx_host.specs.declared.act.Opened.TheVariants.{Id}
use Rattle.sheet_files.specs.Held.{AreHeld, AreLast, AreLimited, AreNew, ids_of}
use Rattle.sheet_files.specs.declared.going.Going.{Going}
use Rattle.sheet_files.proofs.Opening.{append_none, map_append}
use Rattle.sheet_files.proofs.Seeing.{numbered_front, numbered_more, numbered_same, numbered_snoc, snoc_same}

pub if_some : {A : Type 0} {P Q : A → Type 0} (told : Option A) → ((x : A) → P x → Q x) → IfSome told P → IfSome told Q
if_some None h p = tt
if_some (Some x) h p = h x p

pub ids_snoc : (front : List Going) (g : Going) → ids_of (front ++ g ∷ []) ≡ ids_of front ++ g.id ∷ []
ids_snoc front g = map_append (λ (h : Going). h.id) front (g ∷ [])

pub ids_same : (front : List Going) (g h : Going) → h.id ≡ g.id → ids_of (front ++ h ∷ []) ≡ ids_of (front ++ g ∷ [])
ids_same front g h e = ids_snoc front h ∙ ap (λ (n : ℕ). ids_of front ++ n ∷ []) e ∙ sym (ids_snoc front g)

new_snoc : (before : List ℕ) (going : List Going) (g : Going) → AreNew before going → is_among (before ++ ids_of going) g.id ≡ false → AreNew before (going ++ g ∷ [])
new_snoc before [] g new none = (subst (λ (l : List ℕ). is_among l g.id ≡ false) (append_none before) none, tt)
new_snoc before (f ∷ going) g new none =
    (new.0, new_snoc (before ++ f.id ∷ []) going g new.1 (subst (λ (l : List ℕ). is_among l g.id ≡ false) (sym (append_assoc before (f.id ∷ []) (ids_of going))) none))

pub new_last : (before : List ℕ) (front : List Going) (g : Going) → AreNew before (front ++ g ∷ []) → AreNew before front × (is_among (before ++ ids_of front) g.id ≡ false)
new_last before [] g new = (tt, subst (λ (l : List ℕ). is_among l g.id ≡ false) (sym (append_none before)) new.0)
new_last before (f ∷ front) g new =
    let r = new_last (before ++ f.id ∷ []) front g new.1 in
    ((new.0, r.0), subst (λ (l : List ℕ). is_among l g.id ≡ false) (append_assoc before (f.id ∷ []) (ids_of front)) r.1)

new_same : (before : List ℕ) (front : List Going) (g h : Going) → h.id ≡ g.id → AreNew before (front ++ g ∷ []) → AreNew before (front ++ h ∷ [])
new_same before front g h e new = let r = new_last before front g new in new_snoc before front h r.0 (subst (λ (n : ℕ). is_among (before ++ ids_of front) n ≡ false) (sym e) r.1)

pub limited_front : (limits : Limits) (front : List Going) (g : Going) → AreLimited limits (front ++ g ∷ []) → AreLimited limits front × (0 < g.id) × (g.reader.lexer.limits ≡ limits)
limited_front limits [] g h = (tt, h.0, h.1)
limited_front limits (f ∷ front) g h = let r = limited_front limits front g h.2 in ((h.0, h.1, r.0), r.1, r.2)

pub limited_snoc : (limits : Limits) (front : List Going) (g : Going) → AreLimited limits front → 0 < g.id → g.reader.lexer.limits ≡ limits → AreLimited limits (front ++ g ∷ [])
limited_snoc limits [] g h some same = (some, same, tt)
limited_snoc limits (f ∷ front) g h some same = (h.0, h.1, limited_snoc limits front g h.2 some same)

last_same : (front : List Going) (g h : Going) → h.id ≡ g.id → (ids : List ℕ) → AreLast ids (front ++ g ∷ []) → AreLast ids (front ++ h ∷ [])
last_same front g h e ids last = (last.0, last.1 ∙ ap (λ (l : List ℕ). last.0 ++ l) (sym (ids_same front g h e)), new_same last.0 front g h e last.2)

-- the innermost file is the same, but for what was read of it
pub held_same : (o p : Outside) (limits : Limits) (front : List Going) (g h : Going) (n : ℕ) → AreHeld o limits (front ++ g ∷ []) n → h.id ≡ g.id → h.number ≡ g.number → h.reader.lexer.limits ≡ limits → p.open_ids ≡ o.open_ids → AreHeld p limits (front ++ h ∷ []) n
held_same o p limits front g h n held id number lim ids =
    let r = limited_front limits front g held.limited in
    record {
      numbered = numbered_same 0 front g h n number held.numbered;
      limited = limited_snoc limits front h r.0 (subst (λ (k : ℕ). 0 < k) (sym id) r.1) lim;
      last = subst (λ (told : Option (List ℕ)). IfSome told (λ l. AreLast l (front ++ h ∷ []))) (sym ids) (if_some o.open_ids (last_same front g h id) held.last);
    }

-- nothing was opened or closed
pub held_still : (o p : Outside) (limits : Limits) (going : List Going) (n m : ℕ) → AreHeld o limits going n → p.open_ids ≡ o.open_ids → n ≤ m → AreHeld p limits going m
held_still o p limits going n m held ids le =
    record {
      numbered = numbered_more 0 going n m le held.numbered;
      limited = held.limited;
      last = subst (λ (told : Option (List ℕ)). IfSome told (λ l. AreLast l going)) (sym ids) held.last;
    }

told_more : (going : List Going) (g : Going) (told : Option (List ℕ)) → IfSome told (λ ids. is_among ids g.id ≡ false) → IfSome told (λ ids. AreLast ids going) → IfSome (and_more told (g.id ∷ [])) (λ ids. AreLast ids (going ++ g ∷ []))
told_more going g None none last = tt
told_more going g (Some ids) none last = (
  last.0,
  ap (λ (l : List ℕ). l ++ g.id ∷ []) last.1 ∙ append_assoc last.0 (ids_of going) (g.id ∷ []) ∙ ap (λ (l : List ℕ). last.0 ++ l) (sym (ids_snoc going g)),
  new_snoc last.0 going g last.2 (subst (λ (l : List ℕ). is_among l g.id ≡ false) last.1 none),
)

-- a file more was opened
pub held_more : (o p : Outside) (limits : Limits) (going : List Going) (n : ℕ) (name : List ℕ) (g : Going) → AreHeld o limits going n → MayOpen o name (Id g.id) → Opens o name (Id g.id) p → g.number ≡ n → g.reader.lexer.limits ≡ limits → AreHeld p limits (going ++ g ∷ []) (n + 1)
held_more o p limits going n name g held may opens number lim =
    record {
      numbered = numbered_snoc 0 going g n (n + 1) held.numbered (omega (arith, number)) (omega (arith, number));
      limited = limited_snoc limits going g held.limited may.above_zero lim;
      last = subst (λ (told : Option (List ℕ)). IfSome told (λ l. AreLast l (going ++ g ∷ []))) (sym (ap (λ (q : Outside). q.open_ids) opens)) (told_more going g o.open_ids may.not_open held.last);
    }

-- the id that was given last is given back
pub closed_ids : (o p : Outside) (before : Option (List ℕ)) (id : ℕ) → 0 < id → IfSome before (λ ids. is_among ids id ≡ false) → o.open_ids ≡ and_more before (id ∷ []) → Closes o id p → p.open_ids ≡ before
closed_ids o p before id some none is closes = given_back (record o { open_ids = before; documents = None }) o p [] id (record { above_zero = some; not_open = none; known = tt }) is closes

told_front : (o p : Outside) (front : List Going) (g : Going) → 0 < g.id → Closes o g.id p → (told : Option (List ℕ)) → o.open_ids ≡ told → IfSome told (λ ids. AreLast ids (front ++ g ∷ [])) → IfSome p.open_ids (λ ids. AreLast ids front)
told_front o p front g some closes None is last = subst (λ (t : Option (List ℕ)). IfSome t (λ ids. AreLast ids front)) (sym (closed_ids o p None g.id some tt is closes)) tt
told_front o p front g some closes (Some ids) is last =
    let r = new_last last.0 front g last.2 in
    let e = is ∙ ap (λ (l : List ℕ). Some l) (last.1 ∙ ap (λ (l : List ℕ). last.0 ++ l) (ids_snoc front g) ∙ sym (append_assoc last.0 (ids_of front) (g.id ∷ []))) in
    subst (λ (t : Option (List ℕ)). IfSome t (λ l. AreLast l front)) (sym (closed_ids o p (Some (last.0 ++ ids_of front)) g.id some r.1 e closes)) (last.0, refl, r.0)

pub held_front : (o p : Outside) (limits : Limits) (front : List Going) (g : Going) (n : ℕ) → AreHeld o limits (front ++ g ∷ []) n → Closes o g.id p → AreHeld p limits front n
held_front o p limits front g n held closes =
    let r = limited_front limits front g held.limited in
    let m = numbered_front 0 front g n held.numbered in
    record {
      numbered = numbered_more 0 front g.number n (let lt = m.1 in omega (arith, lt)) m.0;
      limited = r.0;
      last = told_front o p front g r.1 closes o.open_ids refl held.last;
    }

-- no id of these files is this one
abbrev pub AllApart : (id : ℕ) → List Going → Type 0
AllApart id [] = Unit {0}
AllApart id (g ∷ going) = (g.id ≡ id → ⊥) × AllApart id going

or_none : (a b : Bool) → (a || b) ≡ false → (a ≡ false) × (b ≡ false)
or_none true b e = cc
or_none false b e = (refl, e)

apart_among : (id : ℕ) (going : List Going) → is_among (ids_of going) id ≡ false → AllApart id going
apart_among id [] none = tt
apart_among id (g ∷ going) none = let r = or_none (g.id == id) (is_among (ids_of going) id) none in (eqb-false g.id id r.0, apart_among id going r.1)

pub apart_in : (before : List ℕ) (id : ℕ) (going : List Going) → is_among (before ++ ids_of going) id ≡ false → AllApart id going
apart_in before id going none = apart_among id going (or_none (is_among before id) (is_among (ids_of going) id) (sym (list_any-append (λ k. k == id) before (ids_of going)) ∙ none)).1

-- the ids around the last one are others, where they are told
pub apart_last : (front : List Going) (g : Going) (ids : List ℕ) → AreLast ids (front ++ g ∷ []) → AllApart g.id front
apart_last front g ids last = apart_in last.0 g.id front (new_last last.0 front g last.2).1

-- the ids that were open before
ids_before : (o p : Outside) (front : List Going) (g : Going) → 0 < g.id → Closes o g.id p → (before : Option (List ℕ)) → o.open_ids ≡ and_more before (ids_of (front ++ g ∷ [])) → IfSome o.open_ids (λ ids. AreLast ids (front ++ g ∷ [])) → p.open_ids ≡ and_more before (ids_of front)
ids_before o p front g some closes None is last = closed_ids o p None g.id some tt is closes
ids_before o p front g some closes (Some b) is last =
    let l : AreLast (b ++ ids_of (front ++ g ∷ [])) (front ++ g ∷ []) = subst (λ (t : Option (List ℕ)). IfSome t (λ ids. AreLast ids (front ++ g ∷ []))) is last in
    let joined = λ (xs : List ℕ). ap (λ (ys : List ℕ). xs ++ ys) (ids_snoc front g) ∙ sym (append_assoc xs (ids_of front) (g.id ∷ [])) in
    let same = (snoc_same (b ++ ids_of front) (l.0 ++ ids_of front) g.id g.id (sym (joined b) ∙ l.1 ∙ joined l.0)).0 in
    let none : is_among (b ++ ids_of front) g.id ≡ false = subst (λ (ids : List ℕ). is_among ids g.id ≡ false) (sym same) (new_last l.0 front g l.2).1 in
    closed_ids o p (Some (b ++ ids_of front)) g.id some none (is ∙ ap (λ (ids : List ℕ). Some ids) (joined b)) closes

pub ids_front : (o p : Outside) (limits : Limits) (front : List Going) (g : Going) (n : ℕ) → AreHeld o limits (front ++ g ∷ []) n → Closes o g.id p → (before : Option (List ℕ)) → o.open_ids ≡ and_more before (ids_of (front ++ g ∷ [])) → p.open_ids ≡ and_more before (ids_of front)
ids_front o p limits front g n held closes before is = ids_before o p front g (limited_front limits front g held.limited).1 closes before is held.last

open_by : (o : Outside) (front : List Going) (g : Going) → 0 < g.id → (told : Option (List ℕ)) → IfSome told (λ ids. AreLast ids (front ++ g ∷ [])) → IsOpen told g.id
open_by o front g some None last = record { above_zero = some; told = tt }
open_by o front g some (Some ids) last =
    let r = new_last last.0 front g last.2 in
    let q : Outside = record o { open_ids = Some (last.0 ++ ids_of front); documents = None } in
    let all = last.1 ∙ ap (λ (l : List ℕ). last.0 ++ l) (ids_snoc front g) ∙ sym (append_assoc last.0 (ids_of front) (g.id ∷ [])) in
    subst (λ (l : List ℕ). IsOpen (Some l) g.id) (sym all) (given_is_open q (opened q [] g.id) [] g.id (record { above_zero = some; not_open = r.1; known = tt }) refl)

-- the innermost file is open
pub last_open : (o : Outside) (limits : Limits) (front : List Going) (g : Going) (n : ℕ) → AreHeld o limits (front ++ g ∷ []) n → IsOpen o.open_ids g.id
last_open o limits front g n held = open_by o front g (limited_front limits front g held.limited).1 o.open_ids held.last
