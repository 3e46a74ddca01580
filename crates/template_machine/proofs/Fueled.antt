-- A run with other fuel.
use Rattle.std.proofs.Common.{◌≡◌, ℕ, List, sym, subst}
use Rattle.instr_code.specs.declared.code.Op.{Op}
use Rattle.template_machine.specs.Moments.{IsAtOp}
use Rattle.template_machine.specs.Well.{IsSteady, IsWaiting, IsWell}
use Rattle.template_machine.specs.Working.{Runs}
use Rattle.template_machine.specs.declared.program.Program.{Program}
use Rattle.template_machine.specs.declared.run.Run.{Run}
use Rattle.template_machine.specs.declared.run.Running.{Running}

fueled_steady : (p : Program) (r : Run) (fuel : ℕ) → IsSteady p r → IsSteady p (record r { fuel = fuel })
fueled_steady p r fuel s = record {
  sheet = s.sheet;
  limits = s.limits;
  sound = s.sound;
  program = s.program;
  places = s.places;
  groups = s.groups;
  buffers = s.buffers;
  source = s.source;
  outer = s.outer;
  written = s.written;
  shallow = s.shallow;
  copied = s.copied;
  shelved = s.shelved;
  within = s.within;
  deep = s.deep;
  sections = s.sections;
  aside = s.aside;
}

fueled_well : (p : Program) (r : Run) (fuel : ℕ) → IsWell p r → IsWell p (record r { fuel = fuel })
fueled_well p r fuel w = record {
  steady = fueled_steady p r fuel w.steady;
  stations = w.stations;
  stand = w.stand;
  apart = w.apart;
  goes_on = w.goes_on;
}

fueled_waiting : (p : Program) (r : Run) (fuel : ℕ) → IsWaiting p r → IsWaiting p (record r { fuel = fuel })
fueled_waiting p r fuel w = record {
  steady = fueled_steady p r fuel w.steady;
  stations = w.stations;
  stand = w.stand;
  apart = w.apart;
  waits = w.waits;
}

-- what a call spends
pub well_spent : (p : Program) (r t : Run) → t ≡ record r { fuel = t.fuel } → IsWell p r → IsWell p t
well_spent p r t is w = subst (IsWell p) (sym is) (fueled_well p r t.fuel w)

pub waiting_spent : (p : Program) (r t : Run) → t ≡ record r { fuel = t.fuel } → IsWaiting p r → IsWaiting p t
waiting_spent p r t is w = subst (IsWaiting p) (sym is) (fueled_waiting p r t.fuel w)

pub at_spent : (p : Program) (r t : Run) (running : Running) (o : Op) → t ≡ record r { fuel = t.fuel } → IsAtOp p r running o → IsAtOp p t running o
at_spent p r t running o is at =
    subst (λ (x : Run). IsAtOp p x running o) (sym is)
    (record { well = fueled_well p r t.fuel at.well; doing = at.doing; body = at.body; pc = at.pc; is = at.is })

-- a run at an operation runs
pub runs_at : (p : Program) (r : Run) (running : Running) (o : Op) → IsAtOp p r running o → Runs p r running.body
runs_at p r running o at = record { well = at.well; doing = at.doing; place = at.body }

-- a run that wants another document
wanting_steady : (p : Program) (r : Run) (name : List ℕ) → IsSteady p r → IsSteady p (record r { wanted = name })
wanting_steady p r name s = record {
  sheet = s.sheet;
  limits = s.limits;
  sound = s.sound;
  program = s.program;
  places = s.places;
  groups = s.groups;
  buffers = s.buffers;
  source = s.source;
  outer = s.outer;
  written = s.written;
  shallow = s.shallow;
  copied = s.copied;
  shelved = s.shelved;
  within = s.within;
  deep = s.deep;
  sections = s.sections;
  aside = s.aside;
}

pub wanting : (p : Program) (r : Run) (name : List ℕ) → IsWaiting p r → IsWaiting p (record r { wanted = name })
wanting p r name w = record {
  steady = wanting_steady p r name w.steady;
  stations = w.stations;
  stand = w.stand;
  apart = w.apart;
  waits = w.waits;
}
