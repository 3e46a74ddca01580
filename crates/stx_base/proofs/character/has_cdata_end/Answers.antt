use Rattle.std.proofs.Common.{[], ◌∷◌, length, drop, sym, ap, ◌∙◌, ◌+◌, append_assoc, append-nil, map-id, arith}
use Rattle.std.specs.Str.{chars}
use Rattle.std.proofs.lemmas.Iterator.{YieldsList-from_chars}
use Rattle.std.proofs.lemmas.Iterator.Consumers.{YieldsList-so_far, YieldsList-turn, YieldsList-end}
use Rattle.stx_base.specs.Character.{has_cdata_end}
use Rattle.stx_base.proofs.CdataLemmas.{brackets, anew, alone, one_more, put_together, ended, open_end}
use Rattle.stx_base.proofs.character.has_cdata_end.Goals as goal
use Rattle.stx_base.proofs.character.has_cdata_end.Goals.{else-c-eq62-via-then-c-eq62+else-brackets-eq2, else-c-eq62-via-else-c-eq62}

pub loop-c-preserved-then-c-eq93 : goal.loop-c-preserved-then-c-eq93
loop-c-preserved-then-c-eq93 c = (
  omega (arith, c.min-brackets.ensures),
  λ more.
      ap has_cdata_end (append_assoc c.loop-c.yielded (c.in-Some.c ∷ []) more) ∙ c.loop-c.invariant.1 (c.in-Some.c ∷ more)
      ∙ ap (λ d. has_cdata_end (brackets c.loop-c.brackets (d ∷ more))) c.if-c-eq93.true
      ∙ one_more c.loop-c.brackets c.min-brackets.result more c.loop-c.invariant.0 c.min-brackets.ensures,
)

pub returns-then-brackets-eq2 : goal.returns-then-brackets-eq2
returns-then-brackets-eq2 c =
    let all = YieldsList-from_chars c.args.text.now c.utf8.text cc in
    let so_far = YieldsList-so_far all c.loop-c.yielded _ c.loop-c.yielded_by in
    let turn = YieldsList-turn all c.loop-c.yielded _ c.loop-c.yielded_by _ _ c.in-Some.c c.in-Some.is c.next.ensures.steps in
    let more = drop (length c.loop-c.yielded + 1) (chars c.args.text.now) in
    sym (ap has_cdata_end (put_together (chars c.args.text.now) c.loop-c.yielded c.in-Some.c so_far turn.0 turn.1) ∙ c.loop-c.invariant.1 (c.in-Some.c ∷ more)
    ∙ ended c.loop-c.brackets c.in-Some.c more c.if-brackets-eq2.true c.if-c-eq62.true)

pub loop-c-preserved : goal.loop-c-preserved
loop-c-preserved c = (
  omega arith,
  λ more.
      ap has_cdata_end (append_assoc c.loop-c.yielded (c.in-Some.c ∷ []) more) ∙ c.loop-c.invariant.1 (c.in-Some.c ∷ more)
      ∙ elim c.else-c-eq62.branch [
        | else-c-eq62-via-then-c-eq62+else-brackets-eq2 w ↦ alone c.loop-c.brackets c.in-Some.c more c.loop-c.invariant.0 w.if-brackets-eq2.false w.if-c-eq62.true
        | else-c-eq62-via-else-c-eq62 w ↦ anew c.loop-c.brackets c.in-Some.c more c.loop-c.invariant.0 c.if-c-eq93.false w.if-c-eq62.false
      ],
)

pub returns : goal.returns
returns c =
    let end = YieldsList-end (YieldsList-from_chars c.args.text.now c.utf8.text cc) c.loop-c.yielded _ c.loop-c.yielded_by _ _ c.in-None.is c.next.ensures.steps in
    sym (ap has_cdata_end (sym end.0 ∙ map-id c.loop-c.yielded ∙ sym (append-nil c.loop-c.yielded)) ∙ c.loop-c.invariant.1 [] ∙ open_end c.loop-c.brackets c.loop-c.invariant.0)
