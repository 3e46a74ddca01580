use Rattle.std.proofs.Common.{◌≡◌, ◌++◌, ℕ, Option, Some, Ok, Err, Bor, List, IfSome, sym, ap, ◌∙◌, subst, IsUtf8}
use Rattle.std.proofs.lemmas.Str.{IsUtf8-nil}
use Rattle.std.specs.Option.{option_copied}
use Rattle.xml_tokens.specs.Texts.{after_ampersand, all_of, literal}
use Rattle.xml_tokens.specs.inside.Spans.{parts_of, IsKept, IsPushed}
use Rattle.xml_tokens.specs.declared.text.BadText.TheVariants.{Reference}
use Rattle.xml_tokens.proofs.PartLemmas.{joined, so_far, next-part, first-part, known-part, unknown-part, bad-part, next-smaller}
use Rattle.xml_tokens.proofs.text.resolve.Goals as goal

-- what is known of the bytes that follow, if some do
of-next : (P : List ℕ → Type 0) (next : Option (Bor (List ℕ))) (more : Bor (List ℕ)) → next ≡ Some more → IfSome next (λ l. P l.now) → P more.now
of-next P next more e h = subst (λ n. IfSome n (λ (l : Bor (List ℕ)). P l.now)) e h

pub push_piece-requires-clause-broken : goal.push_piece-requires-clause-broken
push_piece-requires-clause-broken c = (c.cut_at_ampersand.ensures.kept c.args.broken c.args.context c.requires.broken).0

pub push_part-requires-clause-broken : goal.push_part-requires-clause-broken
push_part-requires-clause-broken c =
    (c.cut_at_ampersand-in-Some.ensures.kept c.args.broken c.args.context (of-next (IsKept c.args.broken c.args.context) c.loop-next.next c.in-Some.more c.in-Some.is c.loop-next.invariant.kept)).0

pub loop-next-init : goal.loop-next-init
loop-next-init c =
    let place = c.args.context in
    let first = c.cut_at_ampersand.result.0.now in
    let out : c.push_piece.new.out.items ≡ literal place first = c.in_ok-push_piece.ensures.said ∙ ap (λ l. l ++ literal place first) c.in_ok-out.ensures.items in
    record {
      said = ap (λ l. joined (Ok l) (all_of place (parts_of (option_copied c.cut_at_ampersand.result.1)))) out
          ∙ first-part place c.args.bytes.now first (parts_of (option_copied c.cut_at_ampersand.result.1)) c.cut_at_ampersand.ensures.first c.cut_at_ampersand.ensures.later;
      out = c.in_ok-push_piece.ensures.utf8 (subst IsUtf8 (sym c.in_ok-out.ensures.items) IsUtf8-nil);
      next = (c.cut_at_ampersand.ensures.utf8 c.requires.utf8).1;
      kept = (c.cut_at_ampersand.ensures.kept c.args.broken place c.requires.broken).1;
    }

pub returns-in-Err-Reference-clause-said : goal.returns-in-Err-Reference-clause-said
returns-in-Err-Reference-clause-said c =
    let place = c.args.context in
    let loop = c.loop-next in
    let cut = c.cut_at_ampersand-in-Some in
    let later = parts_of (option_copied cut.result.1) in
    let bad : after_ampersand place cut.result.0.now ≡ Err Reference =
    (subst (IsPushed loop.out.items c.push_part.new.out.items (after_ampersand place cut.result.0.now)) (c.in-Err-Reference.is ∙ ap (λ f. Err f) c.in-Err-Reference.field-0-is) c.in_ok-push_part.ensures.said).0 in
    sym (bad-part loop.is_known loop.out.items (all_of place later)) ∙ (ap (λ x. joined (so_far loop.is_known loop.out.items) (joined x (all_of place later))) (sym bad)
    ∙ next-part place (option_copied loop.next) c.in-Some.more.now cut.result.0.now later (so_far loop.is_known loop.out.items) _ (ap option_copied c.in-Some.is) cut.ensures.first cut.ensures.later loop.invariant.said)

pub loop-next-smaller-in-Ok : goal.loop-next-smaller-in-Ok
loop-next-smaller-in-Ok c = next-smaller c.loop-next.next c.in-Some.more c.cut_at_ampersand-in-Some.result.1 c.in-Some.is c.cut_at_ampersand-in-Some.ensures.shorter

pub loop-next-preserved-in-Ok : goal.loop-next-preserved-in-Ok
loop-next-preserved-in-Ok c =
    let place = c.args.context in
    let loop = c.loop-next in
    let cut = c.cut_at_ampersand-in-Some in
    let later = parts_of (option_copied cut.result.1) in
    let pushed = subst (IsPushed loop.out.items c.push_part.new.out.items (after_ampersand place cut.result.0.now)) c.in-Ok.is c.in_ok-push_part.ensures.said in
    record {
      said = known-part loop.is_known loop.out.items c.push_part.new.out.items pushed.0 (all_of place later) pushed.2
          ∙ (ap (λ x. joined (so_far loop.is_known loop.out.items) (joined x (all_of place later))) (sym pushed.1)
          ∙ next-part place (option_copied loop.next) c.in-Some.more.now cut.result.0.now later (so_far loop.is_known loop.out.items) _ (ap option_copied c.in-Some.is) cut.ensures.first cut.ensures.later loop.invariant.said);
      out = c.in_ok-push_part.ensures.utf8 loop.invariant.out;
      next = (cut.ensures.utf8 (of-next IsUtf8 loop.next c.in-Some.more c.in-Some.is loop.invariant.next)).1;
      kept = (cut.ensures.kept c.args.broken place (of-next (IsKept c.args.broken place) loop.next c.in-Some.more c.in-Some.is loop.invariant.kept)).1;
    }

pub loop-next-smaller : goal.loop-next-smaller
loop-next-smaller c = next-smaller c.loop-next.next c.in-Some.more c.cut_at_ampersand-in-Some.result.1 c.in-Some.is c.cut_at_ampersand-in-Some.ensures.shorter

pub loop-next-preserved : goal.loop-next-preserved
loop-next-preserved c =
    let place = c.args.context in
    let loop = c.loop-next in
    let cut = c.cut_at_ampersand-in-Some in
    let later = parts_of (option_copied cut.result.1) in
    let pushed = subst (IsPushed loop.out.items c.push_part.new.out.items (after_ampersand place cut.result.0.now)) (c.in-Err-Entity.is ∙ ap (λ f. Err f) c.in-Err-Entity.field-0-is) c.in_ok-push_part.ensures.said in
    record {
      said = unknown-part loop.is_known loop.out.items c.push_part.new.out.items (all_of place later)
          ∙ (ap (λ x. joined (so_far loop.is_known loop.out.items) (joined x (all_of place later))) (sym pushed.0)
          ∙ next-part place (option_copied loop.next) c.in-Some.more.now cut.result.0.now later (so_far loop.is_known loop.out.items) _ (ap option_copied c.in-Some.is) cut.ensures.first cut.ensures.later loop.invariant.said);
      out = c.in_ok-push_part.ensures.utf8 loop.invariant.out;
      next = (cut.ensures.utf8 (of-next IsUtf8 loop.next c.in-Some.more c.in-Some.is loop.invariant.next)).1;
      kept = (cut.ensures.kept c.args.broken place (of-next (IsKept c.args.broken place) loop.next c.in-Some.more c.in-Some.is loop.invariant.kept)).1;
    }
