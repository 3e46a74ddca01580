-- An end that has no fault.
use Rattle.std.proofs.Common.{◌≡◌, Bool, true, false, Option, Some, None, Result, Ok, Err, IfErr, refl, sym, subst}
use Rattle.stx_base.specs.declared.name.Name.{Name}
use Rattle.result_writer.specs.Allowed.{is_good_name}
use Rattle.result_writer.specs.Target.{Left, IsCause, end_fault, end_of, innermost, unless}
use Rattle.result_writer.specs.declared.fault.ResultFault.{ResultFault}
use Rattle.result_writer.specs.declared.fault.ResultFault.TheVariants.{BadName}
use Rattle.result_writer.specs.declared.fault.WriteStop.{WriteStop}
use Rattle.result_writer.specs.declared.fault.WriteStop.TheVariants as stop

-- the innermost element is one
pub ends_some : (l : Left) (name : Name) → end_fault l name ≡ None → (n : Name) × (innermost l.elements l.held ≡ Some n)
ends_some l name e = by (is_good_name name) (innermost l.elements l.held) e refl
  where
    by : (good : Bool) (o : Option Name) → unless good BadName (end_of o name) ≡ None → innermost l.elements l.held ≡ o → (n : Name) × (innermost l.elements l.held ≡ Some n)
    by true (Some n) e is = (n, is)
    by true None e is = cc
    by false o e is = cc

-- want of memory is caused by nothing else
pub by_memory : {A : Type 0} (r : Result A WriteStop) (o : Option ResultFault) → IfErr r (λ s. s ≡ stop.Memory) → IfErr r (IsCause o)
by_memory (Ok x) o h = tt
by_memory (Err e) o h = subst (IsCause o) (sym h) tt
