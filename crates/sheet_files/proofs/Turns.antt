-- How often files may still be turned to.
use Rattle.std.proofs.Common.{◌≡◌, ℕ, suc, ◌+◌, ◌-◌, ◌*◌, ◌<◌, ◌≤◌, Bool, false, List, [], ◌∷◌, ◌++◌, length, None, sym, ap, subst, ◌∙◌, arith, length-append}
use Rattle.std.specs.Prelude.{if◌then◌else◌}
use Rattle.stx_base.specs.declared.limits.Limits.{Limits}
use Rattle.stx_host.specs.declared.act.Doc.{Doc}
use Rattle.xml_events.specs.Source.{Keeps, Source, ended_there, ends_left, events_left, fed_with, source}
use Rattle.sheet_loader.specs.Loaders.{Standing, is_over}
use Rattle.sheet_files.specs.Held.{kept_most, turns_in, turns_left}
use Rattle.sheet_files.specs.Opened.{Seen}
use Rattle.sheet_files.specs.Reading.{IsReadBy}
use Rattle.sheet_files.specs.declared.going.Going.{Going}
use Rattle.sheet_files.proofs.Resting.{files_counted, no_rests}
use Rattle.sheet_files.proofs.Turning.{no_documents}

-- how often one file may be
abbrev pub turn_of : Limits → Going → ℕ
turn_of limits g = 1 + events_left g.reader + (if g.reader.lexer.ended then 0 else kept_most limits + 1)

turns_snoc : (limits : Limits) (front : List Going) (g : Going) → turns_in limits (front ++ g ∷ []) ≡ turns_in limits front + turn_of limits g
turns_snoc limits [] g = omega arith
turns_snoc limits (f ∷ front) g = let r = turns_snoc limits front g in omega (arith, r)

pub event_turns : (limits : Limits) (left n : ℕ) (front : List Going) (was is : Going) → events_left is.reader < events_left was.reader → is.reader.lexer.ended ≡ was.reader.lexer.ended
    → turns_left limits left n (front ++ is ∷ []) + 1 ≤ turns_left limits left n (front ++ was ∷ [])
event_turns limits left n front was is less same =
    let a = turns_snoc limits front is in
    let b = turns_snoc limits front was in
    let c = ap (λ (x : Bool). if x then 0 else kept_most limits + 1) same in
    omega (arith, a, b, c, less)

-- no more events come of what is kept where bytes are wanted
kept_events : (limits : Limits) (s : Source) → Keeps s → s.over ≡ None → s.lexer.limits ≡ limits → events_left s ≤ kept_most limits
kept_events limits s keeps over lim =
    let known = ap length keeps.known in
    let ends = ap ends_left over in
    let unread : length s.lexer.unread ≤ limits.lexeme + 11 = subst (λ (l : Limits). length s.lexer.unread ≤ l.lexeme + 11) lim keeps.unread in
    omega (arith, known, ends, unread)

pub need_turns : (limits : Limits) (left n : ℕ) (front : List Going) (was is : Going) → Keeps is.reader → is.reader.over ≡ None → is.reader.lexer.limits ≡ limits → is.reader.lexer.ended ≡ was.reader.lexer.ended
    → turns_left limits left n (front ++ is ∷ []) ≤ turns_left limits left n (front ++ was ∷ []) + kept_most limits
need_turns limits left n front was is keeps over lim same =
    let a = turns_snoc limits front is in
    let b = turns_snoc limits front was in
    let c = ap (λ (x : Bool). if x then 0 else kept_most limits + 1) same in
    let d = kept_events limits is.reader keeps over lim in
    omega (arith, a, b, c, d)

more_events : (s t : Source) (byte : ℕ) → t ≡ fed_with s (byte ∷ []) → events_left t ≡ events_left s + 5
more_events s t byte e = ap events_left e ∙ (let n = length-append s.lexer.unread (byte ∷ []) in omega (arith, n))

by_one : (k less r i e : ℕ) → (((k + 6) * less + r) + (i + (1 + (e + 5) + (k + 1)))) + k < ((k + 6) * suc less + r) + (i + (1 + e + (k + 1)))
by_one k less r i e = omega arith

pub byte_turns : (limits : Limits) (less n : ℕ) (front : List Going) (g h : Going) (byte : ℕ) → g.reader.lexer.ended ≡ false → h.reader ≡ fed_with g.reader (byte ∷ [])
    → turns_left limits less n (front ++ h ∷ []) + kept_most limits < turns_left limits (suc less) n (front ++ g ∷ [])
byte_turns limits less n front g h byte still fed =
    let k = kept_most limits in
    let a = turns_snoc limits front h in
    let b = turns_snoc limits front g in
    let e = more_events g.reader h.reader byte fed in
    let c : (if g.reader.lexer.ended then 0 else k + 1) ≡ k + 1 = ap (λ (x : Bool). if x then 0 else k + 1) still in
    let d : (if h.reader.lexer.ended then 0 else k + 1) ≡ k + 1 = ap (λ (x : Bool). if x then 0 else k + 1) (ap (λ (s : Source). s.lexer.ended) fed ∙ still) in
    let s = by_one k less ((k + 4) * ((limits.sheet + 3) - n)) (turns_in limits front) (events_left g.reader) in
    let x : turns_left limits less n (front ++ h ∷ []) ≡ ((k + 6) * less + (k + 4) * ((limits.sheet + 3) - n)) + (turns_in limits front + (1 + (events_left g.reader + 5) + (k + 1))) =
    ap (λ (m : ℕ). ((k + 6) * less + (k + 4) * ((limits.sheet + 3) - n)) + m) (a ∙ ap (λ (m : ℕ). turns_in limits front + (1 + m + (if h.reader.lexer.ended then 0 else k + 1))) e ∙ ap (λ (m : ℕ). turns_in limits front + (1 + (events_left g.reader + 5) + m)) d) in
    let y : turns_left limits (suc less) n (front ++ g ∷ []) ≡ ((k + 6) * suc less + (k + 4) * ((limits.sheet + 3) - n)) + (turns_in limits front + (1 + events_left g.reader + (k + 1))) =
    ap (λ (m : ℕ). ((k + 6) * suc less + (k + 4) * ((limits.sheet + 3) - n)) + m) (b ∙ ap (λ (m : ℕ). turns_in limits front + (1 + events_left g.reader + m)) c) in
    subst (λ (m : ℕ). m + k < turns_left limits (suc less) n (front ++ g ∷ [])) (sym x) (subst (λ (m : ℕ). (((k + 6) * less + (k + 4) * ((limits.sheet + 3) - n)) + (turns_in limits front + (1 + (events_left g.reader + 5) + (k + 1)))) + k < m) (sym y) s)

pub end_turns : (limits : Limits) (left n : ℕ) (front : List Going) (g h : Going) → g.reader.lexer.ended ≡ false → h.reader ≡ ended_there g.reader
    → turns_left limits left n (front ++ h ∷ []) + kept_most limits < turns_left limits left n (front ++ g ∷ [])
end_turns limits left n front g h still ended =
    let k = kept_most limits in
    let a = turns_snoc limits front h in
    let b = turns_snoc limits front g in
    let e : events_left h.reader ≡ events_left g.reader = ap events_left ended in
    let c : (if g.reader.lexer.ended then 0 else k + 1) ≡ k + 1 = ap (λ (x : Bool). if x then 0 else k + 1) still in
    let d : (if h.reader.lexer.ended then 0 else k + 1) ≡ 0 = ap (λ (x : Bool). if x then 0 else k + 1) (ap (λ (s : Source). s.lexer.ended) ended) in
    omega (arith, a, b, c, d, e)

pub leave_turns : (limits : Limits) (left n : ℕ) (front : List Going) (g : Going) → turns_left limits left n front < turns_left limits left n (front ++ g ∷ [])
leave_turns limits left n front g = let a = turns_snoc limits front g in omega (arith, a)

file_less : (k a b : ℕ) → a ≡ suc b → k * a ≡ k * b + k
file_less k a b e = ap (λ (m : ℕ). k * m) e ∙ omega arith

pub enter_turns : (limits : Limits) (left n : ℕ) (going : List Going) (h : Going) → h.reader ≡ source limits false → n < limits.sheet + 3
    → turns_left limits left (n + 1) (going ++ h ∷ []) < turns_left limits left n going
enter_turns limits left n going h begins room =
    let k = kept_most limits in
    let a = turns_snoc limits going h in
    let b : events_left h.reader ≡ 1 = ap events_left begins in
    let c : (if h.reader.lexer.ended then 0 else k + 1) ≡ k + 1 = ap (λ (x : Bool). if x then 0 else k + 1) (ap (λ (s : Source). s.lexer.ended) begins) in
    let fewer : (limits.sheet + 3) - n ≡ suc ((limits.sheet + 3) - (n + 1)) = omega (arith, room) in
    let d = file_less (k + 4) ((limits.sheet + 3) - n) ((limits.sheet + 3) - (n + 1)) fewer in
    let whole : turn_of limits h ≡ k + 3 = omega (arith, b, c) in
    joined ((k + 6) * left) ((k + 4) * ((limits.sheet + 3) - n)) ((k + 4) * ((limits.sheet + 3) - (n + 1))) (turns_in limits (going ++ h ∷ [])) (turns_in limits going) (turn_of limits h) k a whole d where
      joined : (l x y i j t k : ℕ) → i ≡ j + t → t ≡ k + 3 → x ≡ y + (k + 4) → (l + y) + i < (l + x) + j
      joined l x y i j t k e f g = omega (arith, e, f, g)

-- a file more may be opened
pub room_for : (limits : Limits) (name : List ℕ) (going : List Going) (files : List Doc) (x : Standing) (left : ℕ) (missing : List Seen) → IsReadBy limits name going files x left missing → is_over x.progress ≡ false → length files < limits.sheet + 3
room_for limits name going files x left missing read on =
    let s = read.follows on no_documents (λ n. []) (no_rests going) in
    let counted = files_counted files s.frames s.in_files in
    let a = s.follows.few in
    let b = s.follows.all in
    omega (arith, counted, a, b)
