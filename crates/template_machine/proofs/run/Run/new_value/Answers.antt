use Rattle.std.proofs.Common.{sym, subst, arith, ◌∙◌}
use Rattle.std.proofs.lemmas.Option.{slice_get_within}
use Rattle.sheet_model.specs.declared.sheet.Sheet.{Sheet}
use Rattle.template_machine.specs.Declaring.{commanded, kept}
use Rattle.template_machine.specs.Saying.{Gave}
use Rattle.template_machine.specs.Seen.{ParentsStandBefore}
use Rattle.template_machine.specs.Values.{selected}
use Rattle.template_machine.specs.Varying.{sight_before}
use Rattle.template_machine.proofs.Around.{tree_parents}
use Rattle.template_machine.proofs.Commanded.{new_kept, new_made}
use Rattle.template_machine.proofs.Making.{variable_runs}
use Rattle.template_machine.proofs.Saying.{gave_by, none_there}
use Rattle.template_machine.proofs.run.Run.new_value.Goals as goal

pub value_or_empty-requires : goal.value_or_empty-requires
value_or_empty-requires c = variable_runs c.args.program.now c.args.self.now c.requires.steady c.args.place c.args.variable.now c.requires.there

pub invariant_of-setting : goal.invariant_of-setting
invariant_of-setting c =
    let s = c.requires.steady in
    record {
      parents = subst (λ (x : Sheet). ParentsStandBefore x.groups) (sym s.program.sheet_is) (tree_parents s.sheet.groups s.sound.groups);
      sized = s.groups;
      before = omega (arith, slice_get_within c.args.program.now.sheet.variables c.args.place c.args.variable.now c.requires.there);
    }

pub returns-in-Some-2 : goal.returns-in-Some-2
returns-in-Some-2 c = λ given has st same.
    let v = c.args.variable.now in
    let g = sight_before c.args.program.now c.args.self.now c.args.place v c.args.test.now in
    new_kept given (commanded given v) (kept given v st) c.in-Some-2.value v g (sym (c.in_ok-value.ensures.value given has) ∙ none_there c.in_ok-value.field-0 (λ x e. c.in_default.not-Some x e))
    (sym (c.in_ok-value-2.ensures.value given st same) ∙ c.in-Some-2.is)

pub returns : goal.returns
returns c = λ given has st same.
    let v = c.args.variable.now in
    let g = sight_before c.args.program.now c.args.self.now c.args.place v c.args.test.now in
    let made =
    new_made given (commanded given v) (kept given v st) v g (sym (c.in_ok-value.ensures.value given has) ∙ none_there c.in_ok-value.field-0 (λ x e. c.in_default.not-Some x e))
    (sym (c.in_ok-value-2.ensures.value given st same) ∙ none_there c.in_ok-value-2.field-0 (λ x e. c.in_default-2.not-Some x e)) in
    subst (λ x. Gave v.at c.evaluated.result x) (sym made)
    (subst (λ r. Gave v.at r (selected v.select g)) (sym c.evaluated.ensures) (gave_by v.at c.value_or_empty.result (selected v.select g) c.value_or_empty.ensures))
