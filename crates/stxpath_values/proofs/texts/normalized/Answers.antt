use Rattle.std.proofs.Common.{◌≡◌, [], ◌∷◌, ◌++◌, true, not, sym, ap, ◌∙◌, append_assoc, append-nil, map-id}
use Rattle.std.proofs.lemmas.Iterator.{YieldsList-from_chars}
use Rattle.std.proofs.lemmas.Iterator.Consumers.{YieldsList-end}
use Rattle.stx_base.specs.Character.{is_space}
use Rattle.stxpath_values.specs.Conversion.{is_empty}
use Rattle.stxpath_values.specs.Words.{normalized}
use Rattle.stxpath_values.proofs.WordsLemmas.{cont, normalized-cont, is_empty_is, cont_space}
use Rattle.stxpath_values.proofs.texts.normalized.Goals as goal

pub loop-c-init : goal.loop-c-init
loop-c-init c = λ more. rw c.new-made.ensures (normalized-cont more)

pub loop-c-preserved-then-is_space : goal.loop-c-preserved-then-is_space
loop-c-preserved-then-is_space c =
    let some = not (is_empty c.loop-c.made) in
    let e : is_space c.in-Some.c ≡ true = sym c.is_space.ensures ∙ c.if-is_space.true in
    let due : not c.is_empty-pending.result ≡ some = ap not (is_empty_is c.is_empty-pending.result c.loop-c.made c.is_empty-pending.ensures) in
    λ more.
    ap normalized (append_assoc c.loop-c.yielded (c.in-Some.c ∷ []) more) ∙ c.loop-c.invariant (c.in-Some.c ∷ more)
    ∙ ap (λ l. c.loop-c.made ++ l) (cont_space some c.loop-c.pending c.in-Some.c more e ∙ ap (λ b. cont some b more) (sym due))

pub returns : goal.returns
returns c =
    let end = YieldsList-end (YieldsList-from_chars c.args.text.now c.utf8.text cc) c.loop-c.yielded _ c.loop-c.yielded_by _ _ c.in-None.is c.next.ensures.steps in
    sym (append-nil _) ∙ sym (c.loop-c.invariant []) ∙ ap normalized (append-nil c.loop-c.yielded ∙ sym (map-id c.loop-c.yielded) ∙ end.0)
