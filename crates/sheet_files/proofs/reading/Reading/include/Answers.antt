use Rattle.sheet_files.proofs.Wanted.{absent_steps, entered_held, entered_less, entered_steps, short_held, short_steps, unopened_steps}
use Rattle.std.proofs.Common.{◌≡◌, [], IsSome, List, Option, Some, ap, is_some, refl, subst, sym, ℕ}
use Rattle.stx_host.specs.Outside.{Outside}
use Rattle.sheet_files.specs.Steps.{IsHalted, StayUndecided}
use Rattle.sheet_files.specs.declared.reading.Halt.TheVariants as halt
use Rattle.sheet_files.proofs.Halting.{first_told}
use Rattle.sheet_files.proofs.Telling.{short_halts}
use Rattle.sheet_files.proofs.reading.Reading.include.Goals as goal

is_some_of : (o : Option (List ℕ)) (x : List ℕ) → o ≡ Some x → IsSome o
is_some_of o x e = ap is_some e

pub returns-in-Ok-clause-held : goal.returns-in-Ok-clause-held
returns-in-Ok-clause-held g c =
    entered_held (g.H.Host.outside c.args.host.now) (g.H.Host.outside c.open.new.self) c.args.self.now c.included.new.self c.args.name c.in-Id.id c.requires.held c.in-Id.ensures.answer c.in-Id.ensures.change c.in-Ok.ensures

pub returns-in-Ok-clause-steps : goal.returns-in-Ok-clause-steps
returns-in-Ok-clause-steps g c name read =
    entered_steps (g.H.Host.outside c.args.host.now) (g.H.Host.outside c.open.new.self) c.args.self.now c.included.new.self c.args.name c.in-Id.id c.requires.held c.in-Id.ensures.answer c.in-Id.ensures.change c.in-Ok.ensures name read c.requires.wanted c.requires.includes

pub returns-in-Ok-clause-fewer : goal.returns-in-Ok-clause-fewer
returns-in-Ok-clause-fewer g c =
    entered_less (g.H.Host.outside c.args.host.now) (g.H.Host.outside c.open.new.self) c.args.self.now c.included.new.self c.args.name c.in-Id.id c.requires.held c.in-Id.ensures.answer c.in-Id.ensures.change c.in-Ok.ensures c.requires.read.0 c.requires.read.1 c.requires.wanted

pub returns-in-Err-clause-held : goal.returns-in-Err-clause-held
returns-in-Err-clause-held g c =
    short_held (g.H.Host.outside c.args.host.now) (g.H.Host.outside c.open.new.self) (g.H.Host.outside c.close.new.self) c.args.self.now c.included.new.self c.args.name c.in-Id.id c.requires.held c.in-Id.ensures.answer c.in-Id.ensures.change c.close.ensures _ c.in-Err.ensures

pub returns-in-Err-clause-steps : goal.returns-in-Err-clause-steps
returns-in-Err-clause-steps g c name read start acts within =
    short_steps (g.H.Host.outside c.args.host.now) (g.H.Host.outside c.open.new.self) (g.H.Host.outside c.close.new.self) c.args.self.now c.included.new.self c.args.name c.in-Id.id c.requires.held c.in-Id.ensures.answer c.in-Id.ensures.change c.close.ensures _ c.in-Err.ensures name read c.requires.wanted c.requires.includes start acts within

pub returns-in-Absent-clause-steps : goal.returns-in-Absent-clause-steps
returns-in-Absent-clause-steps g c name read =
    absent_steps (g.H.Host.outside c.args.host.now) (g.H.Host.outside c.open.new.self) c.args.self.now c.args.name c.absent.new.self c.requires.held c.in-Absent.ensures.answer c.in-Absent.ensures.change c.absent.ensures.misses c.absent.ensures.names
    (c.absent.ensures.over (is_some_of _ _ c.requires.wanted)) name read c.requires.wanted c.requires.includes

pub returns-in-Failed-clause-steps : goal.returns-in-Failed-clause-steps
returns-in-Failed-clause-steps g c name read start acts within =
    unopened_steps (g.H.Host.outside c.args.host.now) (g.H.Host.outside c.open.new.self) c.args.self.now c.args.name c.requires.held c.in-Failed.ensures.answer c.in-Failed.ensures.change name read c.requires.wanted c.requires.includes start acts within

pub returns-in-Memory-clause-steps : goal.returns-in-Memory-clause-steps
returns-in-Memory-clause-steps g c name read start acts within =
    let self = c.args.self.now in
    let o = g.H.Host.outside c.args.host.now in
    subst (λ (p : Outside). (halted : IsHalted name start p self halt.Memory) × StayUndecided self.limits name start acts halted.acts) (sym c.in-Memory.ensures.change)
    (short_halts name start o self self acts refl (first_told start o self.limits name self.going.items self.files.items self.loader self.left [] acts read within) within)
