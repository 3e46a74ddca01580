use Rattle.std.proofs.Common.{◌≡◌, ◌∙◌, ◌<◌, ◌≤◌, ◌-◌, ℕ, suc, [], true, IfSome, Result, Ok, Err, length, ap, refl, sym, subst, arith}
use Rattle.std.specs.Prelude.{IsErrAnd}
use Rattle.std.specs.Vec.{vec_len, with_item}
use Rattle.stx_host.specs.Outside.{Outside, Reads}
use Rattle.stx_host.specs.declared.act.Got.TheVariants.{End}
use Rattle.xml_events.specs.Source.{Source, ended_there, future}
use Rattle.sheet_files.specs.Steps.{Gets, Looks, StepsTo}
use Rattle.sheet_files.specs.declared.going.Going.{Going}
use Rattle.sheet_files.specs.declared.going.Next.{Next}
use Rattle.sheet_files.specs.declared.reading.Halt.{Halt}
use Rattle.sheet_files.specs.declared.reading.Halt.TheVariants as halt
use Rattle.sheet_files.specs.declared.reading.Reading.{Reading}
use Rattle.sheet_files.proofs.Holding.{last_open}
use Rattle.sheet_files.proofs.Lasting.{StandsLast, front, held_swapped, held_was, taken_within}
use Rattle.sheet_files.proofs.Looking.{byte_less, byte_steps, ends_less, ends_steps, gets_held, limit_steps, looks_halts, looks_held, not_ended, short_halts}
use Rattle.sheet_files.proofs.reading.Reading.go_on.Goals as goal

-- a failure is told as it is
err_is : (r : Result (Unit {0}) Halt) (e : Halt) → IsErrAnd r (λ m. m ≡ e) → r ≡ Err e
err_is (Ok done) e is = absurd is
err_is (Err m) e is = ap Err is

-- a byte less is left
one_less : (n : ℕ) → (n ≡ 0 → ⊥) → n ≡ suc (n - 1)
one_less n some = omega (arith, some)

pub look-requires-clause-open : goal.look-requires-clause-open
look-requires-clause-open g c =
    let self = c.args.self.now in
    let was = c.in-Some.going.now in
    let last : StandsLast self.going.items (vec_len self.going) was = record { counted = self.going.ok.0; some = c.in-Some.ensures.item.3.0; here = c.in-Some.ensures.item.1 } in
    last_open (g.H.Host.outside c.args.host.now) self.limits (front self was last) was (length self.files.items) (held_was self was last (g.H.Host.outside c.args.host.now) c.requires.held)

pub look-requires-clause-within : goal.look-requires-clause-within
look-requires-clause-within g c =
    let self = c.args.self.now in
    let was = c.in-Some.going.now in
    let last : StandsLast self.going.items (vec_len self.going) was = record { counted = self.going.ok.0; some = c.in-Some.ensures.item.3.0; here = c.in-Some.ensures.item.1 } in
    taken_within self was last c.requires.read.0 c.requires.read.1 c.requires.on c.requires.none

pub returns-in_err-look-clause-held : goal.returns-in_err-look-clause-held
returns-in_err-look-clause-held g c =
    let self = c.args.self.now in
    let o = g.H.Host.outside c.args.host.now in
    let q = g.H.Host.outside c.look.new.host in
    let was = c.in-Some.going.now in
    let k = c.look.new.self in
    let last : StandsLast self.going.items (vec_len self.going) was = record { counted = self.going.ok.0; some = c.in-Some.ensures.item.3.0; here = c.in-Some.ensures.item.1 } in
    let kept = looks_held self was last o q c.requires.held k c.in_err-look.field-0.0 c.in_err-look.ensures in
    held_swapped self was last k o q c.requires.held kept.0 kept.1 (ap (λ (s : Source). s.lexer.limits) kept.2) kept.3

pub returns-in_err-look-clause-steps : goal.returns-in_err-look-clause-steps
returns-in_err-look-clause-steps g c name read =
    let self = c.args.self.now in
    let o = g.H.Host.outside c.args.host.now in
    let q = g.H.Host.outside c.look.new.host in
    let was = c.in-Some.going.now in
    let k = c.look.new.self in
    let last : StandsLast self.going.items (vec_len self.going) was = record { counted = self.going.ok.0; some = c.in-Some.ensures.item.3.0; here = c.in-Some.ensures.item.1 } in
    let new : Reading = record self { going = with_item self.going (vec_len self.going - 1) k } in
    let e = c.in_err-look.field-0.0 in
    subst (λ (r : Result (Unit {0}) Halt). StepsTo name o q self new r) (sym (err_is c.from_residual.result e c.from_residual.ensures.1))
    (looks_halts self was last o q c.requires.held c.requires.wants name read c.requires.on c.requires.none new k e c.in_err-look.ensures refl refl refl)

pub returns-in_err-hand_over-in-Byte-2-clause-held : goal.returns-in_err-hand_over-in-Byte-2-clause-held
returns-in_err-hand_over-in-Byte-2-clause-held g c =
    let self = c.args.self.now in
    let o = g.H.Host.outside c.args.host.now in
    let q = g.H.Host.outside c.look.new.host in
    let was = c.in-Some.going.now in
    let k = c.look.new.self in
    let last : StandsLast self.going.items (vec_len self.going) was = record { counted = self.going.ok.0; some = c.in-Some.ensures.item.3.0; here = c.in-Some.ensures.item.1 } in
    let looked : Gets o q was k × (k.taken < length k.bytes.items) = subst (λ (m : Next). Looks o q was k (Ok m)) c.in-Byte.is c.in_ok-look.ensures in
    let kept = c.in_err-hand_over-in-Byte-2.ensures.kept in
    gets_held self was last o q c.requires.held c.requires.wants k looked.0 looked.1 c.hand_over.new.self (ap (λ (x : Going). x.id) kept) (ap (λ (x : Going). x.number) kept) (ap (λ (x : Going). x.reader.lexer.limits) kept)

pub returns-in_err-hand_over-in-Byte-2-clause-steps : goal.returns-in_err-hand_over-in-Byte-2-clause-steps
returns-in_err-hand_over-in-Byte-2-clause-steps g c name read =
    let self = c.args.self.now in
    let o = g.H.Host.outside c.args.host.now in
    let q = g.H.Host.outside c.look.new.host in
    let was = c.in-Some.going.now in
    let k = c.look.new.self in
    let last : StandsLast self.going.items (vec_len self.going) was = record { counted = self.going.ok.0; some = c.in-Some.ensures.item.3.0; here = c.in-Some.ensures.item.1 } in
    let looked : Gets o q was k × (k.taken < length k.bytes.items) = subst (λ (m : Next). Looks o q was k (Ok m)) c.in-Byte.is c.in_ok-look.ensures in
    let h = c.hand_over.new.self in
    let new : Reading = record self { going = with_item self.going (vec_len self.going - 1) h } in
    subst (λ (r : Result (Unit {0}) Halt). StepsTo name o q self new r) (sym (err_is c.from_residual-in_err-hand_over-in-Byte-2.result halt.Memory c.from_residual-in_err-hand_over-in-Byte-2.ensures.1))
    (short_halts self was last o q c.requires.held c.requires.wants k looked.0 looked.1 name read c.requires.on c.requires.none new h (ap (λ (x : Going). x.id) c.in_err-hand_over-in-Byte-2.ensures.kept) refl refl)

pub returns-in-End-clause-held : goal.returns-in-End-clause-held
returns-in-End-clause-held g c =
    let self = c.args.self.now in
    let o = g.H.Host.outside c.args.host.now in
    let q = g.H.Host.outside c.look.new.host in
    let was = c.in-Some.going.now in
    let k = c.look.new.self in
    let last : StandsLast self.going.items (vec_len self.going) was = record { counted = self.going.ok.0; some = c.in-Some.ensures.item.3.0; here = c.in-Some.ensures.item.1 } in
    let looked : (k ≡ was) × (length was.bytes.items ≤ was.taken) × IfSome (o.to_come was.id) (λ bytes. bytes ≡ []) × Reads o was.id End q = subst (λ (m : Next). Looks o q was k (Ok m)) c.in-End.is c.in_ok-look.ensures in
    let h : Going = record k { reader = c.finish.new.self } in
    let same = looked.0 in
    held_swapped self was last h o q c.requires.held (ap (λ (x : Going). x.id) same) (ap (λ (x : Going). x.number) same)
    (ap (λ (s : Source). s.lexer.limits) c.finish.ensures.source ∙ ap (λ (x : Going). x.reader.lexer.limits) same) (ap (λ (x : Outside). x.open_ids) looked.3)

pub returns-in-End-clause-steps : goal.returns-in-End-clause-steps
returns-in-End-clause-steps g c name read =
    let self = c.args.self.now in
    let o = g.H.Host.outside c.args.host.now in
    let q = g.H.Host.outside c.look.new.host in
    let was = c.in-Some.going.now in
    let k = c.look.new.self in
    let last : StandsLast self.going.items (vec_len self.going) was = record { counted = self.going.ok.0; some = c.in-Some.ensures.item.3.0; here = c.in-Some.ensures.item.1 } in
    let looked : (k ≡ was) × (length was.bytes.items ≤ was.taken) × IfSome (o.to_come was.id) (λ bytes. bytes ≡ []) × Reads o was.id End q = subst (λ (m : Next). Looks o q was k (Ok m)) c.in-End.is c.in_ok-look.ensures in
    let h : Going = record k { reader = c.finish.new.self } in
    let same = looked.0 in
    let new : Reading = record self { going = with_item self.going (vec_len self.going - 1) h } in
    let open_still = ap (λ (x : Going). x.reader.lexer.ended) same ∙ not_ended self was last o q c.requires.held c.requires.wants in
    ends_steps self was last o q c.requires.held c.requires.wants h (ap (λ (x : Going). x.id) same) (ap (λ (x : Going). x.number) same) (ap (λ (x : Going). x.bytes.items) same) (ap (λ (x : Going). x.taken) same) looked.1
    (c.finish.ensures.source ∙ ap (λ (x : Going). ended_there x.reader) same) (λ more e. c.finish.ensures.future open_still more e ∙ ap (λ (x : Going). future x.reader [] true) same) looked.2 looked.3 new refl refl refl refl refl name read c.requires.on c.requires.none

pub returns-in-End-clause-fewer : goal.returns-in-End-clause-fewer
returns-in-End-clause-fewer g c on =
    let self = c.args.self.now in
    let o = g.H.Host.outside c.args.host.now in
    let q = g.H.Host.outside c.look.new.host in
    let was = c.in-Some.going.now in
    let k = c.look.new.self in
    let last : StandsLast self.going.items (vec_len self.going) was = record { counted = self.going.ok.0; some = c.in-Some.ensures.item.3.0; here = c.in-Some.ensures.item.1 } in
    let looked : (k ≡ was) × (length was.bytes.items ≤ was.taken) × IfSome (o.to_come was.id) (λ bytes. bytes ≡ []) × Reads o was.id End q = subst (λ (m : Next). Looks o q was k (Ok m)) c.in-End.is c.in_ok-look.ensures in
    let h : Going = record k { reader = c.finish.new.self } in
    let same = looked.0 in
    let new : Reading = record self { going = with_item self.going (vec_len self.going - 1) h } in
    let open_still = ap (λ (x : Going). x.reader.lexer.ended) same ∙ not_ended self was last o q c.requires.held c.requires.wants in
    ends_less self was last o q c.requires.held c.requires.wants h (ap (λ (x : Going). x.id) same) (ap (λ (x : Going). x.number) same) (ap (λ (x : Going). x.bytes.items) same) (ap (λ (x : Going). x.taken) same) looked.1
    (c.finish.ensures.source ∙ ap (λ (x : Going). ended_there x.reader) same) (λ more e. c.finish.ensures.future open_still more e ∙ ap (λ (x : Going). future x.reader [] true) same) looked.2 looked.3 new refl refl refl refl refl

pub returns-in-Byte-clause-held : goal.returns-in-Byte-clause-held
returns-in-Byte-clause-held g c =
    let self = c.args.self.now in
    let o = g.H.Host.outside c.args.host.now in
    let q = g.H.Host.outside c.look.new.host in
    let was = c.in-Some.going.now in
    let k = c.look.new.self in
    let last : StandsLast self.going.items (vec_len self.going) was = record { counted = self.going.ok.0; some = c.in-Some.ensures.item.3.0; here = c.in-Some.ensures.item.1 } in
    let looked : Gets o q was k × (k.taken < length k.bytes.items) = subst (λ (m : Next). Looks o q was k (Ok m)) c.in-Byte.is c.in_ok-look.ensures in
    gets_held self was last o q c.requires.held c.requires.wants k looked.0 looked.1 k refl refl refl

pub returns-in-Byte-clause-steps : goal.returns-in-Byte-clause-steps
returns-in-Byte-clause-steps g c name read =
    let self = c.args.self.now in
    let o = g.H.Host.outside c.args.host.now in
    let q = g.H.Host.outside c.look.new.host in
    let was = c.in-Some.going.now in
    let k = c.look.new.self in
    let last : StandsLast self.going.items (vec_len self.going) was = record { counted = self.going.ok.0; some = c.in-Some.ensures.item.3.0; here = c.in-Some.ensures.item.1 } in
    let looked : Gets o q was k × (k.taken < length k.bytes.items) = subst (λ (m : Next). Looks o q was k (Ok m)) c.in-Byte.is c.in_ok-look.ensures in
    let new : Reading = record self { going = with_item self.going (vec_len self.going - 1) k; loader = c.too_large.new.self } in
    limit_steps self was last o q c.requires.held c.requires.wants k looked.0 looked.1 new refl refl refl refl c.if-self-eq0.true c.too_large.ensures.ends c.too_large.ensures.names (c.too_large.ensures.over c.requires.none) name read c.requires.on c.requires.none

pub returns-in_ok-hand_over-in-Byte-2-clause-held : goal.returns-in_ok-hand_over-in-Byte-2-clause-held
returns-in_ok-hand_over-in-Byte-2-clause-held g c =
    let self = c.args.self.now in
    let o = g.H.Host.outside c.args.host.now in
    let q = g.H.Host.outside c.look.new.host in
    let was = c.in-Some.going.now in
    let k = c.look.new.self in
    let last : StandsLast self.going.items (vec_len self.going) was = record { counted = self.going.ok.0; some = c.in-Some.ensures.item.3.0; here = c.in-Some.ensures.item.1 } in
    let looked : Gets o q was k × (k.taken < length k.bytes.items) = subst (λ (m : Next). Looks o q was k (Ok m)) c.in-Byte.is c.in_ok-look.ensures in
    let hands = c.in_ok-hand_over-in-Byte-2.ensures.handed in
    gets_held self was last o q c.requires.held c.requires.wants k looked.0 looked.1 c.hand_over.new.self hands.others.0 hands.others.1 (ap (λ (s : Source). s.lexer.limits) hands.reader)

pub returns-in_ok-hand_over-in-Byte-2-clause-steps : goal.returns-in_ok-hand_over-in-Byte-2-clause-steps
returns-in_ok-hand_over-in-Byte-2-clause-steps g c name read =
    let self = c.args.self.now in
    let o = g.H.Host.outside c.args.host.now in
    let q = g.H.Host.outside c.look.new.host in
    let was = c.in-Some.going.now in
    let k = c.look.new.self in
    let last : StandsLast self.going.items (vec_len self.going) was = record { counted = self.going.ok.0; some = c.in-Some.ensures.item.3.0; here = c.in-Some.ensures.item.1 } in
    let looked : Gets o q was k × (k.taken < length k.bytes.items) = subst (λ (m : Next). Looks o q was k (Ok m)) c.in-Byte.is c.in_ok-look.ensures in
    let h = c.hand_over.new.self in
    let new : Reading = record self { going = with_item self.going (vec_len self.going - 1) h; left = self.left - 1 } in
    byte_steps self was last o q c.requires.held c.requires.wants k looked.0 looked.1 h c.in_ok-hand_over-in-Byte-2.ensures.handed new refl refl refl refl (one_less self.left c.if-self-eq0.false) name read c.requires.on c.requires.none

pub returns-in_ok-hand_over-in-Byte-2-clause-fewer : goal.returns-in_ok-hand_over-in-Byte-2-clause-fewer
returns-in_ok-hand_over-in-Byte-2-clause-fewer g c on =
    let self = c.args.self.now in
    let o = g.H.Host.outside c.args.host.now in
    let q = g.H.Host.outside c.look.new.host in
    let was = c.in-Some.going.now in
    let k = c.look.new.self in
    let last : StandsLast self.going.items (vec_len self.going) was = record { counted = self.going.ok.0; some = c.in-Some.ensures.item.3.0; here = c.in-Some.ensures.item.1 } in
    let looked : Gets o q was k × (k.taken < length k.bytes.items) = subst (λ (m : Next). Looks o q was k (Ok m)) c.in-Byte.is c.in_ok-look.ensures in
    let h = c.hand_over.new.self in
    let new : Reading = record self { going = with_item self.going (vec_len self.going - 1) h; left = self.left - 1 } in
    byte_less self was last o q c.requires.held c.requires.wants k looked.0 looked.1 h c.in_ok-hand_over-in-Byte-2.ensures.handed new refl refl refl refl (one_less self.left c.if-self-eq0.false)
