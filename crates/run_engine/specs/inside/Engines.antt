-- What an engine's fields mean, and what they keep.
use Rattle.run_engine.specs.Run.{Run}
use Rattle.run_engine.specs.inside.Cores.{IsKept, run_of}
use Rattle.run_engine.specs.inside.Gives.{AreEmptyAt}
use Rattle.run_engine.specs.declared.engine.Engine.TheInside.{Inside}

abbrev pub run_in : Inside → Run
run_in x = run_of x.core

abbrev pub IsSoundIn : Inside → Type 0
IsSoundIn x = IsKept x.core × AreEmptyAt x.core.stage x
