use Rattle.std.proofs.Common.{◌≡◌, ◌<◌, ◌∙◌, ap, sym, subst, refl, [], length, get_or, true, encode_utf8_all}
use Rattle.std.proofs.Math.ListN.{set}
use Rattle.std.proofs.lemmas.List.{with_items_is}
use Rattle.node_stack.specs.Few.{few_times, is_named}
use Rattle.node_stack.specs.Times.{more}
use Rattle.node_stack.specs.declared.names.Named.{Named}
use Rattle.node_stack.proofs.Among.{counted_again, counted_other, same_of}
use Rattle.node_stack.proofs.Counting.{on_ok, on_err}
use Rattle.node_stack.proofs.names.Names.count.Goals as goal

pub returns-in-Some-clause-ok : goal.returns-in-Some-clause-ok
returns-in-Some-clause-ok c =
    let uri = encode_utf8_all c.args.name.now.uri in
    let local = encode_utf8_all c.args.name.now.local in
    let at = c.in-Some.at in
    let d : Named = record { uri = []; local = []; again = 0 } in
    let v = c.deref_mut.ensures.value in
    let items = with_items_is c.args.self.now.few c.count_again.new.few (c.count_again.auto.few ∙ ap length v ∙ sym c.args.self.now.few.ok.0) in
    counted_again c.args.self.now _ uri local at d
    (subst (λ l. at < length l) c.deref.ensures.value c.in-Some.ensures.0)
    (subst (λ l. is_named uri local (get_or l at d) ≡ true) c.deref.ensures.value (c.in-Some.ensures.1 d))
    (items ∙ c.count_again.ensures d ∙ ap (λ l. set l at (record (get_or l at d) { again = more (get_or l at d).again })) v)
    refl

pub returns-in-None-2-clause-ok : goal.returns-in-None-2-clause-ok
returns-in-None-2-clause-ok c =
    let uri = encode_utf8_all c.args.name.now.uri in
    let local = encode_utf8_all c.args.name.now.local in
    let absent = sym (ap (λ l. few_times l uri local) c.deref.ensures.value) ∙ c.in-None-2.ensures in
    on_ok c.count_name.result c.count_name.ensures.ok c.count_name.ensures.ok (λ h again. counted_other c.args.self.now _ uri local absent refl h)

pub returns-in-None-2-clause-err : goal.returns-in-None-2-clause-err
returns-in-None-2-clause-err c =
    on_err c.count_name.result c.count_name.ensures.err c.count_name.ensures.err (λ h again. same_of c.args.self.now _ refl h)
