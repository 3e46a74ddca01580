-- An engine that begins.
use Rattle.std.proofs.Common.{◌≡◌, List, map, sym, ap, subst}
use Rattle.stx_base.specs.declared.limits.Limits.{Limits}
use Rattle.instr_code.specs.Code.{code_of}
use Rattle.sheet_model.specs.declared.sheet.Sheet.{Sheet}
use Rattle.template_machine.specs.Ordinary.{IsOrdinary}
use Rattle.template_machine.specs.declared.turn.Param.{Param}
use Rattle.run_engine.specs.Does.{InOrder, InOrderAt, IsRunOf}
use Rattle.run_engine.specs.Run.{IsAtStart, Run, at_start}
use Rattle.sheet_runs.specs.Runs.{IsBegun}
use Rattle.stx_engine.specs.Answer.{Asked_for, given_of, param_of}

pub begun-so : (sheet : Sheet) (params : List Param) (limits : Limits) (r : Run) → IsAtStart sheet params limits r → IsBegun r
begun-so sheet params limits r b = (sheet, subst (λ l. r ≡ at_start sheet l r.machine) (sym (ap (λ (x : Run). x.limits) b.is)) b.is)

-- one that begins with what was asked for

module _ (k : Asked_for) (start : Run) (b : IsAtStart k.sheet (map param_of k.command.params) k.command.limits start) where
  pub begun-runs : IsRunOf (given_of k) start
  begun-runs = record {
    of = b.of;
    limit = ap (λ (r : Run). r.output.limit) b.is;
    bare = λ at. ap (λ (r : Run). r.output.left) b.is;
    params = sym b.given;
  }

  pub begun-order : IsOrdinary (code_of k.sheet) → InOrder start
  begun-order ordinary =
      subst (λ s. InOrderAt s start.machine start.documents) (sym (ap (λ (r : Run). r.stage) b.is)) (subst IsOrdinary (sym b.of.code_is) ordinary)
