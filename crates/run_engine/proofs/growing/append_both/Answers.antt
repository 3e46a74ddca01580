use Rattle.std.proofs.Common.{◌≡◌, ◌++◌, OnErr, Result, Ok, Err, refl, subst, sym}
use Rattle.stx_base.specs.Course.{Begins}
use Rattle.run_engine.proofs.Asking.{begins-same}
use Rattle.run_engine.proofs.growing.append_both.Goals as goal

always : {A E : Type 0} (P : Type 0) (r : Result A E) → P → OnErr r P
always P (Ok a) h = tt
always P (Err e) h = h

weaker : {A E : Type 0} (P Q : Type 0) (r : Result A E) → (P → Q) → OnErr r P → OnErr r Q
weaker P Q (Ok a) f h = tt
weaker P Q (Err e) f h = f h

pub returns-in-Ok-clause-some_bytes : goal.returns-in-Ok-clause-some_bytes
returns-in-Ok-clause-some_bytes c =
    always (Begins c.append.new.bytes.items (c.args.bytes.now.items ++ c.args.more.now.items)) c.append-in-Ok.result
    (subst (Begins c.append.new.bytes.items) c.in-Ok.ensures.ok (begins-same c.append.new.bytes.items))

pub returns-in-Ok-clause-some_notes : goal.returns-in-Ok-clause-some_notes
returns-in-Ok-clause-some_notes c =
    weaker (c.append-in-Ok.new.bytes.items ≡ c.args.notes.now.items) (Begins c.append-in-Ok.new.bytes.items (c.args.notes.now.items ++ c.args.others.now.items)) c.append-in-Ok.result
    (λ h. subst (λ xs. Begins xs (c.args.notes.now.items ++ c.args.others.now.items)) (sym h) (c.args.others.now.items, refl)) c.append-in-Ok.ensures.err

pub returns-in-Err-clause-notes : goal.returns-in-Err-clause-notes
returns-in-Err-clause-notes c = begins-same c.args.notes.now.items

pub returns-in-Err-clause-some_bytes : goal.returns-in-Err-clause-some_bytes
returns-in-Err-clause-some_bytes c =
    subst (λ xs. Begins xs (c.args.bytes.now.items ++ c.args.more.now.items)) (sym c.in-Err.ensures.err) (c.args.more.now.items, refl)

pub returns-in-Err-clause-some_notes : goal.returns-in-Err-clause-some_notes
returns-in-Err-clause-some_notes c = (c.args.others.now.items, refl)
