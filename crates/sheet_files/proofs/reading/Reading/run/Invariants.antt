use Rattle.std.proofs.Common.{◌≡◌, ℕ, List, [], None, Ok}
use Rattle.sheet_loader.specs.Loaders.{is_over, wanted_in}
use Rattle.sheet_files.specs.Held.{IsHeld, turns_of}
use Rattle.sheet_files.specs.Reading.{IsRead}
use Rattle.sheet_files.specs.Steps.{StepsTo}
use Rattle.sheet_files.proofs.Stepping.{rounds_left}
use Rattle.sheet_files.proofs.reading.Reading.run.Given as goal

-- reading went on from where it began
abbrev pub invariant-loop-self : goal.invariant-loop-self
invariant-loop-self g l = record {
  held : IsHeld (g.H.Host.outside l.host) l.self;
  some : (name : List ℕ) × IsRead name l.initial.self [];
  steps : (name : List ℕ) → IsRead name l.initial.self [] → StepsTo name (g.H.Host.outside l.initial.host) (g.H.Host.outside l.host) l.initial.self l.self (Ok tt);
  limits : l.self.limits ≡ l.initial.self.limits;
  none : wanted_in l.self.loader.progress ≡ None;
}

abbrev pub decreases-loop-self : goal.decreases-loop-self
decreases-loop-self g l = rounds_left (is_over l.self.loader.progress) (turns_of l.self)
