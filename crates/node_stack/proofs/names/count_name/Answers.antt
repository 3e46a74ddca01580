use Rattle.std.proofs.Common.{◌≡◌, ◌∙◌, ap, sym, subst, encode_utf8_all, string_bytes, refl, Some, None}
use Rattle.std.specs.BTreeMap.{get_by_text}
use Rattle.std.specs.Option.{option_copied_mut}
use Rattle.std.proofs.lemmas.Result.{IfOk-at_ok}
use Rattle.node_stack.specs.Names.{CountsName}
use Rattle.node_stack.proofs.Counting.{on_ok, on_err}
use Rattle.node_stack.proofs.Naming.{counts_in, counts_new, same_names}
use Rattle.node_stack.proofs.names.count_name.Goals as goal

pub returns-in-Some-clause-ok : goal.returns-in-Some-clause-ok
returns-in-Some-clause-ok c =
    let held = c.get_mut.follows.holds c.count_local.new.namespace in
    let found : get_by_text c.args.namespaces.now c.as_str.result.now ≡ Some c.in-Some.namespace.now = sym c.get_mut.ensures.value ∙ ap option_copied_mut c.in-Some.is in
    on_ok c.count_local.result c.count_local.ensures.elements c.count_local.ensures.names
    (λ elements names. counts_in _ _ c.as_str.result.now _ _ c.in-Some.namespace.now c.count_local.new.namespace c.as_str.ensures.bytes found
    (held.3 (rw found refl)) held.0 elements names)

pub returns-in-Some-clause-err : goal.returns-in-Some-clause-err
returns-in-Some-clause-err c =
    let held = c.get_mut.follows.holds c.count_local.new.namespace in
    let found : get_by_text c.args.namespaces.now c.as_str.result.now ≡ Some c.in-Some.namespace.now = sym c.get_mut.ensures.value ∙ ap option_copied_mut c.in-Some.is in
    on_err c.count_local.result c.count_local.ensures.same_elements c.count_local.ensures.same_names
    (λ elements names. same_names _ _ c.as_str.result.now c.in-Some.namespace.now c.count_local.new.namespace found
    (held.3 (rw found refl)) held.0 elements names)

pub returns-clause-ok : goal.returns-clause-ok
returns-clause-ok c =
    let none = c.get_mut.follows.holds-at-none in
    let key_is : string_bytes c.in_ok-uri.uri ≡ encode_utf8_all c.args.name.now.uri = IfOk-at_ok (λ s. string_bytes s ≡ c.as_str-2.result.now) c.in_ok-uri.was c.from_str.ensures.ok ∙ c.as_str-2.ensures.bytes in
    let absent : get_by_text c.args.namespaces.now (encode_utf8_all c.args.name.now.uri) ≡ None =
    ap (get_by_text c.args.namespaces.now) (sym c.as_str.ensures.bytes) ∙ sym c.get_mut.ensures.value ∙ ap option_copied_mut c.in_default.is in
    subst (λ m. CountsName m c.insert.new.self (encode_utf8_all c.args.name.now.uri) (encode_utf8_all c.args.name.now.local)) none
    (counts_new c.get_mut.follows.lender-at-none _ c.in_ok-uri.uri _ _ c.new.result c.count_local-2.new.namespace key_is
    (ap (λ m. get_by_text m (encode_utf8_all c.args.name.now.uri)) none ∙ absent)
    c.in_ok-insert.ensures.updates c.in_ok-insert.ensures.entries c.in_ok-insert.ensures.was_ordered
    c.in_ok-count_local.ensures.elements c.new.ensures.empty c.in_ok-count_local.ensures.names)
