use Rattle.std.proofs.Common.{◌-◌, ◌∷◌, ◌++◌, [], ◌∙◌, ap, arith, chars, drop, length, subst, sym, take}
use Rattle.std.specs.Prelude.{string_bytes}
use Rattle.std.specs.Option.{option_copied}
use Rattle.std.specs.Str.{IsCharBoundary}
use Rattle.xml_events.specs.inside.Texts.{cut_texts}
use Rattle.xml_events.proofs.Cutting.{cut-boundary, cut-known, size-within}
use Rattle.xml_events.proofs.Names.{last-is}
use Rattle.xml_events.proofs.texts.Texts.last.Goals as goal

pub overflow_sub-text : goal.overflow_sub-text
overflow_sub-text c =
    let l = c.self.inside in
    let found = last-is c.deref.result.now c.in-Some.len.now (sym (ap option_copied c.in-Some.is) ∙ c.last.ensures.value) in
    omega (arith, size-within l.lens.items (string_bytes l.text) c.self.invariant found.0 c.in-Some.len.now (sym c.deref.ensures.value ∙ found.1), ap length c.as_str-text.ensures.value)

pub range_from-requires : goal.range_from-requires
range_from-requires c =
    let l = c.self.inside in
    let found = last-is c.deref.result.now c.in-Some.len.now (sym (ap option_copied c.in-Some.is) ∙ c.last.ensures.value) in
    let b = cut-boundary l.lens.items (string_bytes l.text) c.self.invariant found.0 c.in-Some.len.now (sym c.deref.ensures.value ∙ found.1) in
    λ some. subst (λ bs. IsCharBoundary bs (length bs - c.in-Some.len.now)) (sym c.as_str-text.ensures.value) b

pub returns-in-Some-clause-last : goal.returns-in-Some-clause-last
returns-in-Some-clause-last c =
    let l = c.self.inside in
    let bytes = string_bytes l.text in
    let n = c.in-Some.len.now in
    let found = last-is c.deref.result.now n (sym (ap option_copied c.in-Some.is) ∙ c.last.ensures.value) in
    let front = cut_texts found.0 (take (length bytes - n) bytes) in
    let text = c.range_from.ensures.value ∙ ap (λ bs. drop (length bs - n) bs) c.as_str-text.ensures.value in
    (front, sym c.self.view_is ∙ (cut-known l.lens.items bytes c.self.invariant found.0 n (sym c.deref.ensures.value ∙ found.1) ∙ ap (λ t. front ++ chars t ∷ []) (sym text)))
