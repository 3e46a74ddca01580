use Rattle.std.proofs.Common.{◌≡◌, ◌-◌, ◌∷◌, ◌++◌, [], ◌∙◌, ap, arith, chars, drop, length, subst, sym, take}
use Rattle.std.specs.Prelude.{string_bytes}
use Rattle.std.specs.Str.{IsCharBoundary}
use Rattle.xml_events.specs.inside.Texts.{cut_texts, AreTexts}
use Rattle.xml_events.proofs.Cutting.{cut-boundary, cut-known, rest-texts, size-within}
use Rattle.xml_events.proofs.texts.Texts.pop.Goals as goal

pub overflow_sub-rest : goal.overflow_sub-rest
overflow_sub-rest c =
    let l = c.self.inside in
    omega (arith, size-within l.lens.items (string_bytes l.text) c.self.invariant c.pop.new.self.items c.in-Some.len c.in-Some.ensures.items, c.len.ensures)

pub truncate-requires : goal.truncate-requires
truncate-requires c =
    let l = c.self.inside in
    let b = cut-boundary l.lens.items (string_bytes l.text) c.self.invariant c.pop.new.self.items c.in-Some.len c.in-Some.ensures.items in
    let size : c.len.result ≡ length (string_bytes l.text) = omega (arith, c.len.ensures) in
    let at = subst (λ n. IsCharBoundary (string_bytes l.text) (n - c.in-Some.len)) (sym size) b in
    λ within. (at.0, λ some. at.1)

pub invariant_of-self : goal.invariant_of-self
invariant_of-self c =
    let l = c.self.inside in
    let size : c.len.result ≡ length (string_bytes l.text) = omega (arith, c.len.ensures) in
    let e = c.truncate.ensures.bytes ∙ ap (λ n. take (n - c.in-Some.len) (string_bytes l.text)) size in
    subst (AreTexts c.pop.new.self.items) (sym e) (rest-texts l.lens.items (string_bytes l.text) c.self.invariant c.pop.new.self.items c.in-Some.len c.in-Some.ensures.items)

pub returns-in-Some : goal.returns-in-Some
returns-in-Some c =
    let l = c.self.inside in
    let bytes = string_bytes l.text in
    let last = chars (drop (length bytes - c.in-Some.len) bytes) in
    let size : c.len.result ≡ length bytes = omega (arith, c.len.ensures) in
    let e = c.truncate.ensures.bytes ∙ ap (λ n. take (n - c.in-Some.len) bytes) size in (
      last,
      sym c.self.view_is ∙ (cut-known l.lens.items bytes c.self.invariant c.pop.new.self.items c.in-Some.len c.in-Some.ensures.items
          ∙ ap (λ bs. cut_texts c.pop.new.self.items bs ++ last ∷ []) (sym e)),
    )
