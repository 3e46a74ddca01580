use Rattle.std.proofs.Common.{◌≡◌, ◌∙◌, Ok, Err, subst, rules}
use Rattle.std.specs.Str.{chars}
use Rattle.std.proofs.lemmas.Result.{err_from_is_err_and}
use Rattle.std.proofs.lemmas.Str.{chars_from_encodes}
use Rattle.stxpath_syntax.specs.Template.{Answers, IsPattern}
use Rattle.stxpath_syntax.proofs.Shaping.{pattern_called, pattern_low}
use Rattle.stxpath_syntax.proofs.parse.read_pattern.Goals as goal

pub returns-in_err-alternatives-clause-reads : goal.returns-in_err-alternatives-clause-reads
returns-in_err-alternatives-clause-reads c =
    let p = err_from_is_err_and c.from_residual-in_err-alternatives.result c.from_residual-in_err-alternatives.ensures.1 in
    let e : c.in_ok-chars.chars.items ≡ chars c.as_str.result.now = search (rules, chars_from_encodes) in
    let h = subst (λ text. Answers (IsPattern c.args.dialect c.args.scope.now text) (Err c.in_err-alternatives.field-0.0)) (c.deref.ensures.value ∙ e ∙ c.as_str.ensures.chars) c.in_err-alternatives.ensures in
    rw (p.1, p.2) h

pub returns : goal.returns
returns c =
    let e : c.in_ok-chars.chars.items ≡ chars c.as_str.result.now = search (rules, chars_from_encodes) in
    let a : IsPattern c.args.dialect c.args.scope.now c.args.text.now (Ok c.in_ok-alternatives.alternatives)
    = subst (λ text. IsPattern c.args.dialect c.args.scope.now text (Ok c.in_ok-alternatives.alternatives)) (c.deref.ensures.value ∙ e ∙ c.as_str.ensures.chars) c.in_ok-alternatives.ensures in
    record {
      reads = a;
      called_well = pattern_called c.args.dialect c.args.scope.now c.args.text.now c.in_ok-alternatives.alternatives a;
      low = pattern_low c.args.dialect c.args.scope.now c.args.text.now c.in_ok-alternatives.alternatives a;
    }
