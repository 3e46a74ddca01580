-- The arguments that are added make the command line.
use Rattle.std.proofs.Common.{◌≡◌, ◌∙◌, ap, ap₂, codes, true}
use Rattle.clap.specs.Simple.{App, app_of, app_of_fields, new_app, on_top, with_rule}
use Rattle.command_words.proofs.uses.arguments.Goals as goal

abbrev unnamed : App → App
unnamed = on_top (λ s. record s { no_binary_name = true })

abbrev unhelped : App → App
unhelped = on_top (λ s. record s { disable_help_flag = true })

pub returns : goal.returns
returns c =
    let bare : app_of c.disable_help_flag.result ≡ unhelped (unnamed (new_app (codes "stx"))) =
    ap app_of_fields c.disable_help_flag.ensures ∙ ap (λ f. unhelped (app_of_fields f)) c.no_binary_name.ensures
    ∙ ap (λ a. unhelped (unnamed a)) c.new.ensures.app in
    c.in_ok-command.ensures.shape c.operands-operands.ensures.local
    ∙ ap₂ with_rule (c.in_ok-arg-5.ensures.shape c.check-check.ensures.local
    ∙ ap₂ with_rule (c.in_ok-arg-4.ensures.shape c.option-sample.ensures.local
    ∙ ap₂ with_rule (c.in_ok-arg-3.ensures.shape c.option-instances.ensures.local
    ∙ ap₂ with_rule (c.in_ok-arg-2.ensures.shape c.option-lexeme.ensures.local
    ∙ ap₂ with_rule (c.in_ok-arg.ensures.shape c.option-fuel.ensures.local ∙ ap₂ with_rule bare c.option-fuel.ensures.rule)
    c.option-lexeme.ensures.rule) c.option-instances.ensures.rule) c.option-sample.ensures.rule) c.check-check.ensures.rule) c.operands-operands.ensures.rule
