use Rattle.std.proofs.Common.{◌≡◌, ◌∙◌, ap, true, false, Ok, Err}
use Rattle.std.specs.List.{list_all}
use Rattle.std.specs.Prelude.{if◌then◌else◌}
use Rattle.stx_base.specs.declared.fault.SheetCode.TheVariants as code
use Rattle.stxpath_syntax.specs.Template.{IsPattern}
use Rattle.sheet_loader.specs.Values.{A_pattern, are_tests, read_tests}
use Rattle.sheet_loader.proofs.ReadOnce.{only_pattern, tests_fault}
use Rattle.sheet_loader.proofs.value.tests.Goals as goal

pub returns-then-are_tests : goal.returns-then-are_tests
returns-then-are_tests c = λ reads.
    let yes : list_all are_tests c.in-Ok.pattern.alternatives ≡ true = cc in
    ap read_tests (only_pattern reads c.args.dialect c.args.scope.now c.args.text.now (Ok c.in-Ok.pattern.alternatives) c.in-Ok.ensures.reads)
    ∙ ap (λ t. if t then Ok (A_pattern c.in-Ok.pattern.alternatives) else Err code.BadValue) yes

pub returns-else-are_tests : goal.returns-else-are_tests
returns-else-are_tests c = λ reads.
    let no : list_all are_tests c.in-Ok.pattern.alternatives ≡ false = cc in
    ap read_tests (only_pattern reads c.args.dialect c.args.scope.now c.args.text.now (Ok c.in-Ok.pattern.alternatives) c.in-Ok.ensures.reads)
    ∙ ap (λ t. if t then Ok (A_pattern c.in-Ok.pattern.alternatives) else Err code.BadValue) no

pub returns-in-Err : goal.returns-in-Err
returns-in-Err c = λ reads.
    tests_fault (IsPattern c.args.dialect c.args.scope.now c.args.text.now) (reads.pattern c.args.dialect c.args.scope.now c.args.text.now)
    (only_pattern reads c.args.dialect c.args.scope.now c.args.text.now) c.in-Err.fault c.from.result c.in-Err.ensures.reads c.from.ensures
