-- Instructions that process nodes lead to base groups that there are.
use Rattle.std.proofs.Common.{◌≡◌, ℕ, ◌<◌, List, [], ◌∷◌, length, Option, Some, None, IsSome, refl, ap, sym, subst, ◌∙◌, arith}
use Rattle.std.specs.List.{slice_get}
use Rattle.std.specs.Option.{option_and_then}
use Rattle.std.proofs.lemmas.Bool.{false≢true}
use Rattle.instr_code.specs.declared.code.Op.{Op}
use Rattle.instr_code.specs.declared.code.Op.TheVariants as op
use Rattle.sheet_model.specs.Sound.{AreATree}
use Rattle.sheet_model.specs.declared.sheet.Group.{Group}
use Rattle.sheet_model.specs.declared.sheet.Sheet.{Sheet}
use Rattle.template_machine.specs.Programs.{done_by, link_at}
use Rattle.template_machine.specs.Well.{IsSteady}
use Rattle.template_machine.specs.declared.program.Link.{Link}
use Rattle.template_machine.specs.declared.program.Program.{Program}
use Rattle.template_machine.specs.declared.run.Run.{Run}
use Rattle.template_machine.proofs.Asking.{AreBased}
use Rattle.template_machine.proofs.Named.{named_base}
use Rattle.template_machine.proofs.Seeing.{some_there}

based_by : (p : Program) (r : Run) (steady : IsSteady p r) (asked : ℕ) (o : Option Op) → slice_get p.code.ops asked ≡ o
    → IsSome (option_and_then (λ n. slice_get p.code.instrs n) (option_and_then done_by o))
    → (l : Link) × ((link_at p asked ≡ Some l) × (l.base < length p.sheet.groups))
based_by p r steady asked None is some = absurd (false≢true some)
based_by p r steady asked (Some (op.Do n)) is some =
    let i = some_there (slice_get p.code.instrs n) some in
    let b = named_base p r steady asked n (op.Do n) i.0 is refl i.1 in
    (b.0, (ap (λ o. option_and_then (λ k. slice_get p.links k) (option_and_then done_by o)) is ∙ b.1.0, b.1.1))
based_by p r steady asked (Some x) is some = absurd (false≢true some)

pub are_based : (p : Program) (r : Run) → IsSteady p r → AreBased p
are_based p r steady asked some = based_by p r steady asked (slice_get p.code.ops asked) refl some

pub some_groups : (groups : List Group) → AreATree groups → 0 < length groups
some_groups [] h = absurd h
some_groups (g ∷ gs) h = omega arith

-- there is a root group
pub has_root : (p : Program) (r : Run) → IsSteady p r → 0 < length p.sheet.groups
has_root p r steady = subst (λ (s : Sheet). 0 < length s.groups) (sym steady.program.sheet_is) (some_groups steady.sheet.groups steady.sound.groups)
