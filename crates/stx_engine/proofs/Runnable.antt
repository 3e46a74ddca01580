-- What can be run of a sheet.
use Rattle.std.proofs.Common.{◌≡◌, true, List, [], Option, Some, None, arith, refl, sym, ap, subst}
use Rattle.std.specs.Prelude.{All, if◌then◌else◌, is_some}
use Rattle.instr_code.specs.Code.{code_of}
use Rattle.sheet_model.specs.Sound.{IsSound}
use Rattle.sheet_model.specs.declared.pass.Kinds.{Kinds}
use Rattle.sheet_model.specs.declared.sheet.Sheet.{Sheet}
use Rattle.sheet_model.specs.declared.sheet.Template.{Template}
use Rattle.template_machine.specs.Ordinary.{IsOrdinary}
use Rattle.stx_engine.specs.Plain.{is_ordinary, pass_of, runnable}
use Rattle.stx_engine.proofs.Meant.{is-plain}
use Rattle.stx_engine.proofs.Ordered.{ordinary-so}

-- a sheet without procedures
abbrev pub uncalled : Sheet → Sheet
uncalled sheet = record sheet { procedures = [] }

pub runnable-plain : (sheet : Sheet) (pass : Kinds) → pass_of sheet ≡ Some pass → runnable sheet ≡ uncalled sheet
runnable-plain sheet pass e = ap (λ (o : Option Kinds). if is_some o then uncalled sheet else sheet) e

pub runnable-all : (sheet : Sheet) → pass_of sheet ≡ None → runnable sheet ≡ sheet
runnable-all sheet e = ap (λ (o : Option Kinds). if is_some o then uncalled sheet else sheet) e

-- Without templates it has no instructions

all-none : {A : Type 0} (P : A → Type 0) → All P []
all-none P k d m = absurd (omega (arith, m))

abbrev bare_with : Sheet → List Template → Sheet
bare_with sheet templates = record sheet { templates = templates; procedures = [] }

bare-sound : (sheet : Sheet) → IsSound sheet → IsSound (bare_with sheet [])
bare-sound sheet sound = record {
  groups = sound.groups;
  numbers = record {
    groups = sound.numbers.groups;
    templates = all-none _;
    procedures = all-none _;
    buffers = sound.numbers.buffers;
    variables = sound.numbers.variables;
    instructions = all-none _;
  };
  readable = record { variables = sound.readable.variables; templates = all-none _; procedures = all-none _; instructions = all-none _ };
  copies = all-none _;
  found = record { declarations = sound.found.declarations; patterns = all-none _; templates = all-none _; procedures = all-none _ };
  new = record {
    groups = sound.new.groups;
    procedures = λ i j d m n. absurd (omega (arith, n));
    buffers = sound.new.buffers;
    variables = sound.new.variables;
    in_templates = all-none _;
    in_procedures = all-none _;
  };
  buffers = sound.buffers;
  small = omega (arith, sound.small);
  flat = omega arith;
}

module _ (sheet : Sheet) (pass : Kinds) (e : pass_of sheet ≡ Some pass) where
  uncalled-sound : IsSound sheet → IsSound (uncalled sheet)
  uncalled-sound sound = subst (λ ts. IsSound (bare_with sheet ts)) (sym (is-plain sheet pass e).templates) (bare-sound sheet sound)

  pub uncalled-ordinary : IsOrdinary (code_of (uncalled sheet))
  uncalled-ordinary = ordinary-so (code_of (uncalled sheet)) (subst (λ ts. is_ordinary (code_of (bare_with sheet ts)) ≡ true) (sym (is-plain sheet pass e).templates) refl)

-- it is sound where the sheet is
pub runnable-sound : (sheet : Sheet) → IsSound sheet → IsSound (runnable sheet)
runnable-sound sheet sound = by_pass (pass_of sheet) refl where
  by_pass : (o : Option Kinds) → pass_of sheet ≡ o → IsSound (runnable sheet)
  by_pass None e = subst IsSound (sym (runnable-all sheet e)) sound
  by_pass (Some pass) e = subst IsSound (sym (runnable-plain sheet pass e)) (uncalled-sound sheet pass e sound)
