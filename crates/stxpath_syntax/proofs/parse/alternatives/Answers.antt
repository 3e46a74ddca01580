use Rattle.std.proofs.Common.{◌≡◌, ◌+◌, [], ◌∷◌, length, Some, Err, sym, subst, ◌∙◌, ap, arith}
use Rattle.std.proofs.lemmas.Result.{err_from_is_err_and}
use Rattle.stxpath_syntax.specs.declared.state.Frame.TheVariants.{Alternatives}
use Rattle.stxpath_syntax.specs.declared.state.Mode.TheVariants.{Alternative as AlternativeBegins}
use Rattle.stxpath_syntax.specs.Counts.{CountTo}
use Rattle.stxpath_syntax.specs.Grammar.{Pattern}
use Rattle.stxpath_syntax.specs.Machine.{run, end_of_pattern}
use Rattle.stxpath_syntax.specs.Meaning.{none}
use Rattle.stxpath_syntax.specs.Running.{Runs, whole_read}
use Rattle.stxpath_syntax.specs.Template.{Answers}
use Rattle.stxpath_syntax.proofs.Answering.{no_tokens, no_state, ran}
use Rattle.stxpath_syntax.proofs.Running.{in_state}
use Rattle.stxpath_syntax.proofs.Stopping.{pattern_begun, patterns}
use Rattle.stxpath_syntax.proofs.parse.alternatives.Goals as goal

pub returns-in_err-tokens : goal.returns-in_err-tokens
returns-in_err-tokens c =
    let p = err_from_is_err_and c.from_residual.result c.from_residual.ensures.1 in
    rw (p.1, p.2) (no_tokens (Pattern c.args.dialect c.args.scope.now) 0 c.args.text.now c.in_err-tokens.field-0.0 c.in_err-tokens.ensures)

pub returns-in_err-state : goal.returns-in_err-state
returns-in_err-state c =
    let p = err_from_is_err_and c.from_residual-in_err-state.result c.from_residual-in_err-state.ensures.1 in
    let dialect = c.args.dialect in
    let scope = c.args.scope.now in
    let laid : c.push.new.self ≡ Alternatives none ∷ []
    = c.in_ok-push.ensures.ok ∙ ap (λ all. Alternatives all ∷ c.new-stack.result) c.none.ensures ∙ ap (λ frames. Alternatives none ∷ frames) c.new-stack.ensures in
    let h = subst (λ frames. Runs dialect scope (in_state frames AlternativeBegins) c.in_ok-tokens.tokens (Err c.in_err-state.field-0.0)) laid c.in_err-state.ensures in
    rw (p.1, p.2) (no_state dialect scope (Pattern dialect scope) pattern_begun (end_of_pattern scope) (patterns dialect scope) 0 c.args.text.now
    c.in_ok-tokens.tokens c.in_err-state.field-0.0 c.in_ok-tokens.ensures h)

pub returns : goal.returns
returns c =
    let dialect = c.args.dialect in
    let scope = c.args.scope.now in
    let laid : c.push.new.self ≡ Alternatives none ∷ []
    = c.in_ok-push.ensures.ok ∙ ap (λ all. Alternatives all ∷ c.new-stack.result) c.none.ensures ∙ ap (λ frames. Alternatives none ∷ frames) c.new-stack.ensures in
    let h = subst (λ frames. run dialect scope c.in_ok-tokens.tokens (in_state frames AlternativeBegins) ≡ Some c.in_ok-state.state) laid c.in_ok-state.ensures in
    let end : length c.args.text.now ≡ 0 + length c.args.text.now = omega arith in
    let e = subst (λ end. Answers (λ read. read ≡ whole_read (end_of_pattern scope c.in_ok-state.state) end) c.whole_pattern.result) end c.whole_pattern.ensures in
    ran dialect scope (Pattern dialect scope) pattern_begun (end_of_pattern scope) (patterns dialect scope) 0 c.args.text.now c.in_ok-tokens.tokens
    c.in_ok-state.state c.whole_pattern.result c.in_ok-tokens.ensures h e

pub run-requires : goal.run-requires
run-requires c =
    let laid : c.push.new.self ≡ Alternatives none ∷ []
    = c.in_ok-push.ensures.ok ∙ ap (λ all. Alternatives all ∷ c.new-stack.result) c.none.ensures ∙ ap (λ frames. Alternatives none ∷ frames) c.new-stack.ensures in
    record { frames = subst (CountTo 0) (sym laid) (omega arith, tt); mode = omega arith }
