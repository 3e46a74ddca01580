use Rattle.std.proofs.Common.{◌≡◌, not, sym, true, arith}
use Rattle.std.specs.List.{list_all}
use Rattle.xml_tokens.specs.declared.text.Context.{Context}
use Rattle.xml_tokens.specs.inside.Spans.{is_changed}
use Rattle.xml_tokens.specs.Texts.{is_ampersand}
use Rattle.xml_tokens.proofs.TextLemmas.{parts-none, parts-some, cut-all, cut-utf8}
use Rattle.xml_tokens.proofs.text.cut_at_ampersand.Goals as goal

pub returns-in-Some-clause-later : goal.returns-in-Some-clause-later
returns-in-Some-clause-later c = (parts-some c.args.bytes.now (c.in-Some.first.now, c.in-Some.later.now) (sym c.in-Some.ensures)).1

pub returns-in-Some-clause-utf8 : goal.returns-in-Some-clause-utf8
returns-in-Some-clause-utf8 c = λ utf8. cut-utf8 38 c.args.bytes.now (c.in-Some.first.now, c.in-Some.later.now) (sym c.in-Some.ensures) (omega arith) utf8

pub returns-in-None-clause-later : goal.returns-in-None-clause-later
returns-in-None-clause-later c = (parts-none c.args.bytes.now (sym c.in-None.ensures)).1

pub returns-in-Some-clause-kept : goal.returns-in-Some-clause-kept
returns-in-Some-clause-kept c = λ broken place kept. (λ e. (cut place (kept e)).0, λ e. (cut place (kept e)).1) where
  cut : (place : Context) → list_all (λ b. not (is_changed place b)) c.args.bytes.now ≡ true →
      (list_all (λ b. not (is_changed place b)) c.in-Some.first.now ≡ true) × (list_all (λ b. not (is_changed place b)) c.in-Some.later.now ≡ true)
  cut place all = cut-all is_ampersand (λ b. not (is_changed place b)) c.args.bytes.now (c.in-Some.first.now, c.in-Some.later.now) (sym c.in-Some.ensures) all
