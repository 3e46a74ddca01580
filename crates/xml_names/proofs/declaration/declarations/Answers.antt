use Rattle.std.proofs.Common.{◌∙◌, sym, ap, ◌++◌, ◌∷◌, []}
use Rattle.std.specs.Str.{chars}
use Rattle.xml_names.specs.Tag.{declaration}
use Rattle.xml_names.proofs.Lists.{filter_map-more_some, filter_map-more_none}
use Rattle.xml_names.proofs.Tags.{declaration-some, declaration-none}
use Rattle.xml_names.proofs.declaration.declarations.Goals as goal
use Rattle.xml_names.proofs.declaration.declarations.Goals.{in-Some+in_ok-prefix+in_ok-uri+in_ok-push, in_default}

pub loop-attr-preserved : goal.loop-attr-preserved
loop-attr-preserved c =
    let attrs = c.args.attrs.now in
    let i = c.loop-attr.attr-index in
    let a = c.attr-item.result in
    elim c.match-declared_prefix.branch [
      | in-Some+in_ok-prefix+in_ok-uri+in_ok-push w ↦
          let p = declaration-some a (chars c.as_str.result.now) c.as_str.ensures.chars (chars w.in-Some.prefix.now) w.in_ok-prefix.prefix w.in_ok-uri.uri w.in-Some.ensures w.in_ok-prefix.ensures w.in_ok-uri.ensures in
          w.made-is ∙ w.in_ok-push.ensures.ok ∙ ap (λ l. l ++ record { prefix = w.in_ok-prefix.prefix; uri = w.in_ok-uri.uri } ∷ []) c.loop-attr.invariant
          ∙ sym (filter_map-more_some declaration attrs i a c.loop-attr-test.true c.attr-item.is _ p)
      | in_default w ↦
          w.made-is ∙ c.loop-attr.invariant ∙ sym (filter_map-more_none declaration attrs i a c.loop-attr-test.true c.attr-item.is (declaration-none a (chars c.as_str.result.now) c.as_str.ensures.chars w.in_default.ensures))
    ]
