-- What a run gives of a document's first bytes stays so.
use Rattle.std.proofs.Common.{◌≡◌, ◌≢◌, ◌⊎◌, ℕ, false, List, [], ◌∷◌, ◌++◌, Option, Some, None, inl, inr, refl, sym, ap, subst, ◌∙◌, append_assoc, append-nil}
use Rattle.stx_base.specs.Course.{Begins}
use Rattle.stx_base.specs.declared.name.Binding.{Binding}
use Rattle.stx_base.specs.declared.part.Part.{Part}
use Rattle.result_writer.specs.Target.{Left, fault, left_by, next, nothing, settles, text, text_from}
use Rattle.result_writer.specs.declared.fault.ResultFault.{ResultFault}
use Rattle.xml_events.specs.Document.{doc, stage_by}
use Rattle.xml_events.specs.Growing.{DocumentsGrow, Grows}
use Rattle.xml_events.specs.Tree.{Why, Need, Bad, Forest, End, Cut, Single, Nested}
use Rattle.run_engine.specs.Run.{head}
use Rattle.template_machine.specs.Passed.{Passed, once_ready, put, stopped, then_put, unless_stopped}
use Rattle.stx_engine.specs.inside.Run.{output}
use Rattle.stx_engine.specs.inside.Growing.{BytesStay, RunStays, TreeIsOver, TreeStays}
use Rattle.stx_engine.specs.inside.Passed.{Run, Unready, end_parts, leaf_parts, passed, run_from, start_parts, unless_refused, with_first}
use Rattle.template_machine.specs.Trail.{scope_within}
use Rattle.sheet_model.specs.declared.pass.Kinds.{Kinds}

-- q is p, or p is stopped for want of more, and its parts are the first of q
abbrev Longer : (p q : Passed) → Type 0
Longer p q = (q ≡ p) ⊎ ((p.stop ≡ Some Need) × Begins p.parts q.parts)

longer-put : (ps : List Part) (p q : Passed) → Longer p q → Longer (put ps p) (put ps q)
longer-put ps p q (inl same) = inl (ap (put ps) same)
longer-put ps p q (inr h) = inr (h.0, (h.1.0, append_assoc ps p.parts h.1.0 ∙ ap (λ l. ps ++ l) h.1.1))

-- p's parts are the first
then-begins : (p q : Passed) → Begins p.parts (then_put p q).parts
then-begins p q = by_stop p.stop where
  by_stop : (s : Option Why) → Begins p.parts (unless_stopped s p q).parts
  by_stop None = (q.parts, refl)
  by_stop (Some why) = ([], append-nil p.parts)

then-stopped : (p q : Passed) → p.stop ≡ Some Need → then_put p q ≡ p
then-stopped p q h = ap (λ s. unless_stopped s p q) h

longer-then : (p r q s : Passed) → Longer p r → Longer q s → Longer (then_put p q) (then_put r s)
longer-then p r q s (inl same) k = subst (λ x. Longer (then_put p q) (then_put x s)) (sym same) (by_stop p.stop) where
  by_stop : (stop : Option Why) → Longer (unless_stopped stop p q) (unless_stopped stop p s)
  by_stop None = longer-put p.parts q s k
  by_stop (Some why) = inl refl
longer-then p r q s (inr h) k =
    let more = then-begins r s in
    subst (λ x. Longer x (then_put r s)) (sym (then-stopped p q h.0)) (inr (h.0, (h.1.0 ++ more.0, sym (append_assoc p.parts h.1.0 more.0) ∙ ap (λ l. l ++ more.0) h.1.1 ∙ more.1)))

longer-nothing : (q : Passed) → Longer (stopped Need) q
longer-nothing q = inr (refl, (q.parts, refl))

-- an element is ready in both, or in the first one it isn't
longer-once : (kids list : Forest) (p q : Passed) → Grows kids list → Longer p q → Longer (once_ready (stage_by kids) kids p) (once_ready (stage_by list) list q)
longer-once (Cut Need) list p q h k = longer-nothing (once_ready (stage_by list) list q)
longer-once (Cut (Bad fault)) list p q h k = inl (ap (λ l. once_ready (stage_by l) l q) h)
longer-once (End m offset) list p q h k = subst (λ l. Longer p (once_ready (stage_by l) l q)) (sym h) k
longer-once (Single m leaf next) list p q h k = subst (λ l. Longer p (once_ready (stage_by l) l q)) (sym h.1) k
longer-once (Nested m e kids next) list p q h k = subst (λ l. Longer p (once_ready (stage_by l) l q)) (sym h.3) k

longer : (p : Kinds) (scope : List Binding) (old new : Forest) → Grows old new → Longer (passed p scope old) (passed p scope new)
longer p scope (End m offset) new h = inl (ap (passed p scope) h)
longer p scope (Cut Need) new h = longer-nothing (passed p scope new)
longer p scope (Cut (Bad fault)) new h = inl (ap (passed p scope) h)
longer p scope (Single m leaf next) new h =
    subst (λ f. Longer (passed p scope (Single m leaf next)) (passed p scope f)) (sym h.1)
    (longer-put (leaf_parts p leaf) (passed p scope next) (passed p scope h.0) (longer p scope next h.0 h.2))
longer p scope (Nested m e kids next) new h =
    let inside = scope_within scope e.decls in
    let start = start_parts p inside e.name e.attrs in
    let end = end_parts p e.name in
    let was = put start (then_put (passed p inside kids) (put end (passed p scope next))) in
    let is = put start (then_put (passed p inside h.0) (put end (passed p scope h.1))) in
    let all = longer-put start (then_put (passed p inside kids) (put end (passed p scope next))) (then_put (passed p inside h.0) (put end (passed p scope h.1)))
    (longer-then (passed p inside kids) (passed p inside h.0) (put end (passed p scope next)) (put end (passed p scope h.1)) (longer p inside kids h.0 h.4)
    (longer-put end (passed p scope next) (passed p scope h.1) (longer p scope next h.1 h.5))) in
    subst (λ n. Longer (once_ready n kids was) (passed p scope new)) (sym h.2)
    (subst (λ f. Longer (once_ready (stage_by kids) kids was) (passed p scope f)) (sym h.3) (longer-once kids h.0 was is h.4 all))

-- Runs

module _ (limit : ℕ) where
  run-begins : (l : Left) (ps rs : List Part) (stop : Option Why) → Begins (run_from limit l ps (Some Need)).parts (run_from limit l (ps ++ rs) stop).parts
  run-begins l [] rs stop = ((run_from limit l rs stop).parts, refl)
  run-begins l (p ∷ ps) rs stop = by_fault (fault limit l p) (run-begins (next l p) ps rs stop) where
    by_fault : (o : Option ResultFault) → Begins (run_from limit (next l p) ps (Some Need)).parts (run_from limit (next l p) (ps ++ rs) stop).parts
        → Begins (unless_refused o (with_first p (run_from limit (next l p) ps (Some Need)))).parts (unless_refused o (with_first p (run_from limit (next l p) (ps ++ rs) stop))).parts
    by_fault None h = (h.0, ap (λ x. p ∷ x) h.1)
    by_fault (Some f) h = ([], refl)

  run-over : (l : Left) (ps rs : List Part) (stop : Option Why) → (run_from limit l ps (Some Need)).ending ≢ Unready Need → run_from limit l (ps ++ rs) stop ≡ run_from limit l ps (Some Need)
  run-over l [] rs stop over = absurd (over refl)
  run-over l (p ∷ ps) rs stop over = by_fault (fault limit l p) over (λ h. run-over (next l p) ps rs stop h) where
    by_fault : (o : Option ResultFault) → (unless_refused o (with_first p (run_from limit (next l p) ps (Some Need)))).ending ≢ Unready Need
        → ((run_from limit (next l p) ps (Some Need)).ending ≢ Unready Need → run_from limit (next l p) (ps ++ rs) stop ≡ run_from limit (next l p) ps (Some Need))
        → unless_refused o (with_first p (run_from limit (next l p) (ps ++ rs) stop)) ≡ unless_refused o (with_first p (run_from limit (next l p) ps (Some Need)))
    by_fault None h k = ap (with_first p) (k h)
    by_fault (Some f) h k = refl

  abbrev run_of_passed : Passed → Run
  run_of_passed p = run_from limit nothing p.parts p.stop

  longer-begins : (p q : Passed) → Longer p q → Begins (run_of_passed p).parts (run_of_passed q).parts
  longer-begins p q (inl same) = subst (λ x. Begins (run_of_passed p).parts (run_of_passed x).parts) (sym same) ([], append-nil (run_of_passed p).parts)
  longer-begins p q (inr h) =
      subst (λ s. Begins (run_from limit nothing p.parts s).parts (run_of_passed q).parts) (sym h.0)
      (subst (λ ps. Begins (run_from limit nothing p.parts (Some Need)).parts (run_from limit nothing ps q.stop).parts) h.1.1 (run-begins nothing p.parts h.1.0 q.stop))

  longer-over : (p q : Passed) → Longer p q → (run_of_passed p).ending ≢ Unready Need → run_of_passed q ≡ run_of_passed p
  longer-over p q (inl same) over = ap run_of_passed same
  longer-over p q (inr h) over =
      let at = ap (λ s. run_from limit nothing p.parts s) h.0 in
      sym (ap (λ ps. run_from limit nothing ps q.stop) h.1.1) ∙ run-over nothing p.parts h.1.0 q.stop (λ e. over (ap (λ r. r.ending) at ∙ e)) ∙ sym at

text-append : (l : Left) (ps qs : List Part) → text_from l (ps ++ qs) ≡ text_from l ps ++ text_from (left_by l ps) qs
text-append l [] qs = refl
text-append l (p ∷ ps) qs = ap (λ t. settles l p ++ t) (text-append (next l p) ps qs) ∙ sym (append_assoc (settles l p) (text_from (next l p) ps) (text_from (left_by (next l p) ps) qs))

output-begins : (ps qs : List Part) → Begins ps qs → Begins (output ps) (output qs)
output-begins ps qs h = (
  text_from (left_by nothing ps) h.0,
  append_assoc head (text ps) (text_from (left_by nothing ps) h.0) ∙ ap (λ t. head ++ t) (sym (text-append nothing ps h.0) ∙ ap text h.1),
)

pub tree-stays : TreeStays
tree-stays limit p old new h =
    let r = longer-begins limit (passed p [] old) (passed p [] new) (longer p [] old new h) in
    output-begins (run_of_passed limit (passed p [] old)).parts (run_of_passed limit (passed p [] new)).parts r

pub tree-is-over : TreeIsOver
tree-is-over limit p old new h over =
    longer-over limit (passed p [] old) (passed p [] new) (longer p [] old new h) over

-- Documents

module _ (grow : DocumentsGrow) where
  pub bytes-stay : BytesStay
  bytes-stay limits p bytes more ended =
      tree-stays limits.elements p (doc limits false bytes false) (doc limits false (bytes ++ more) ended) (grow limits false false bytes more ended)

  pub run-stays : RunStays
  run-stays limits p bytes more ended =
      tree-is-over limits.elements p (doc limits false bytes false) (doc limits false (bytes ++ more) ended) (grow limits false false bytes more ended)
