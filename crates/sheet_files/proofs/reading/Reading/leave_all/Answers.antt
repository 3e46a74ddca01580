use Rattle.std.proofs.Common.{◌≡◌, ◌∙◌, List, [], ◌∷◌, length, sym, refl, arith}
use Rattle.std.proofs.lemmas.Bool.{eqb-true}
use Rattle.std.specs.Vec.{vec_len}
use Rattle.sheet_files.specs.declared.going.Going.{Going}
use Rattle.sheet_files.proofs.Letting.{left_all, left_more, left_none}
use Rattle.sheet_files.proofs.reading.Reading.leave_all.Goals as goal

pub loop-self-init : goal.loop-self-init
loop-self-init g c = record { held = c.requires; left = left_none (g.H.Host.outside c.args.host.now) c.args.self.now }

pub loop-self-preserved : goal.loop-self-preserved
loop-self-preserved g c =
    record {
      held = c.leave.ensures.held;
      left = left_more (g.H.Host.outside c.args.host.now) (g.H.Host.outside c.loop-self.host) (g.H.Host.outside c.leave.new.host) c.args.self.now c.loop-self.self c.leave.new.self c.loop-self.invariant.left c.loop-self.invariant.held c.leave.ensures.leaves;
    }

none_of : (xs : List Going) → length xs ≡ 0 → xs ≡ []
none_of [] e = refl
none_of (x ∷ xs) e = absurd (omega (arith, e))

pub returns : goal.returns
returns g c =
    let now = c.loop-self.self in
    let none : vec_len now.going ≡ 0 = eqb-true (vec_len now.going) 0 (sym c.loop-self-test.ensures) in
    record { leaves = left_all (g.H.Host.outside c.args.host.now) (g.H.Host.outside c.loop-self.host) c.args.self.now now c.loop-self.invariant.left (none_of now.going.items (sym now.going.ok.0 ∙ none)) }
