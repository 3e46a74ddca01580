use Rattle.std.proofs.Common.{◌≡◌, ◌++◌, OnOk, sym, subst}
use Rattle.std.specs.Str.{chars}
use Rattle.stxpath_syntax.specs.Printing.{test_text}
use Rattle.stxpath_syntax.proofs.print.put_test.Goals as goal

pub returns-in-AnyNode : goal.returns-in-AnyNode
unfolding chars
returns-in-AnyNode c = subst (λ t. OnOk c.push_str.result (c.push_str.new.self ≡ c.args.text.now ++ test_text t)) (sym c.in-AnyNode.is) c.push_str.ensures.ok

pub returns-in-Chars : goal.returns-in-Chars
unfolding chars
returns-in-Chars c = subst (λ t. OnOk c.push_str-in-Chars.result (c.push_str-in-Chars.new.self ≡ c.args.text.now ++ test_text t)) (sym c.in-Chars.is) c.push_str-in-Chars.ensures.ok

pub returns-in-CData : goal.returns-in-CData
unfolding chars
returns-in-CData c = subst (λ t. OnOk c.push_str-in-CData.result (c.push_str-in-CData.new.self ≡ c.args.text.now ++ test_text t)) (sym c.in-CData.is) c.push_str-in-CData.ensures.ok

pub returns-in-Comment : goal.returns-in-Comment
unfolding chars
returns-in-Comment c = subst (λ t. OnOk c.push_str-in-Comment.result (c.push_str-in-Comment.new.self ≡ c.args.text.now ++ test_text t)) (sym c.in-Comment.is) c.push_str-in-Comment.ensures.ok

pub returns-in-AnyPi : goal.returns-in-AnyPi
unfolding chars
returns-in-AnyPi c = subst (λ t. OnOk c.push_str-in-AnyPi.result (c.push_str-in-AnyPi.new.self ≡ c.args.text.now ++ test_text t)) (sym c.in-AnyPi.is) c.push_str-in-AnyPi.ensures.ok

pub returns-in-AnyAttr : goal.returns-in-AnyAttr
unfolding chars
returns-in-AnyAttr c = subst (λ t. OnOk c.push_str-in-AnyAttr.result (c.push_str-in-AnyAttr.new.self ≡ c.args.text.now ++ test_text t)) (sym c.in-AnyAttr.is) c.push_str-in-AnyAttr.ensures.ok
