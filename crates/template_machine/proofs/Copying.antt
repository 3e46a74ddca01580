-- What each pass-through makes of a whole document.
use Rattle.sheet_model.specs.Passing.{kinds}
use Rattle.std.proofs.Common.{◌≡◌, List, [], ◌∷◌, ◌++◌, Option, Some, None, map, refl, sym, ap, ◌∙◌, subst}
use Rattle.std.specs.Option.{option_or}
use Rattle.stx_base.specs.declared.name.Binding.{Binding}
use Rattle.stx_base.specs.declared.part.Part.{Part}
use Rattle.stx_base.specs.declared.part.Part.TheVariants as part
use Rattle.result_writer.specs.Nodes.{parts_of}
use Rattle.result_writer.specs.Target.{Left, fault, next, nothing}
use Rattle.result_writer.specs.declared.fault.ResultFault.{ResultFault}
use Rattle.sheet_model.specs.declared.pass.Kinds.{Kinds}
use Rattle.sheet_model.specs.declared.pass.Pass.TheVariants as pass
use Rattle.xml_events.specs.Tree.{Why, Need, Bad, Stage, Waiting, Ready, Entered, Chars, CData, Comment, Pi, Element, Forest, End, Cut, Single, Nested}
use Rattle.template_machine.specs.Copies.{CopiesAll, CopiesNothing, CopiesTexts, nodes_of, texts_of}
use Rattle.template_machine.specs.Ending.{Done}
use Rattle.template_machine.specs.Fuel.{unready}
use Rattle.template_machine.specs.Job.{Given, Main}
use Rattle.template_machine.specs.Passed.{Passed, Run, ends, once_ready, passed, put, run_from, starts, then_put, unless_refused, unless_stopped, with_first}
use Rattle.template_machine.specs.Passing.{group_at}
use Rattle.template_machine.specs.Putting.{attribute_part}
use Rattle.template_machine.specs.Trail.{scope_within}

-- why a list, or one in it, goes no further, if so
abbrev stop_in : Forest → Option Why
stop_in (End m offset) = None
stop_in (Cut why) = Some why
stop_in (Single m leaf next) = stop_in next
stop_in (Nested stage e kids next) = option_or (stop_in kids) (stop_in next)

none-both : (a b : Option Why) → option_or a b ≡ None → (a ≡ None) × (b ≡ None)
none-both None b h = (refl, h)
none-both (Some why) b h = absurd (cc)

once-is : (stage : Stage) (kids : Forest) (p : Passed) → stop_in kids ≡ None → once_ready stage kids p ≡ p
once-is Waiting (Cut why) p h = absurd (cc)
once-is Waiting (End m offset) p h = refl
once-is Waiting (Single m leaf next) p h = refl
once-is Waiting (Nested stage e kids next) p h = refl
once-is (Ready first) kids p h = refl
once-is (Entered first) kids p h = refl

once-stop : (stage : Stage) (kids : Forest) (p : Passed) (o : Option Why) → p.stop ≡ option_or (stop_in kids) o → (once_ready stage kids p).stop ≡ option_or (stop_in kids) o
once-stop Waiting (Cut why) p o h = refl
once-stop Waiting (End m offset) p o h = h
once-stop Waiting (Single m leaf next) p o h = h
once-stop Waiting (Nested stage e kids next) p o h = h
once-stop (Ready first) kids p o h = h
once-stop (Entered first) kids p o h = h

then-stop : (p q : Passed) → (then_put p q).stop ≡ option_or p.stop q.stop
then-stop p q = of_stop p.stop refl where
  of_stop : (s : Option Why) → p.stop ≡ s → (unless_stopped s p q).stop ≡ option_or s q.stop
  of_stop None e = refl
  of_stop (Some why) e = e

module _ (k : Kinds) where
  passed-stop : (scope : List Binding) (f : Forest) → (passed k scope f).stop ≡ stop_in f
  passed-stop scope (End m offset) = refl
  passed-stop scope (Cut why) = refl
  passed-stop scope (Single m leaf next) = passed-stop scope next
  passed-stop scope (Nested stage e kids next) =
      let within = scope_within scope e.decls in
      let listed = passed k within kids in
      let behind = put (ends k e) (passed k scope next) in
      once-stop stage kids (put (starts k within e) (then_put listed behind)) (stop_in next)
      (then-stop listed behind ∙ ap (λ s. option_or s behind.stop) (passed-stop within kids) ∙ ap (λ s. option_or (stop_in kids) s) (passed-stop scope next))

  -- the parts of an element whose list ends
  nested-is : (scope : List Binding) (stage : Stage) (e : Element) (kids next : Forest) → stop_in kids ≡ None
      → (passed k scope (Nested stage e kids next)).parts
      ≡ starts k (scope_within scope e.decls) e ++ ((passed k (scope_within scope e.decls) kids).parts ++ (ends k e ++ (passed k scope next).parts))
  nested-is scope stage e kids next h =
      let within = scope_within scope e.decls in
      let behind = put (ends k e) (passed k scope next) in
      let listed = passed k within kids in
      ap (λ (q : Passed). q.parts) (once-is stage kids (put (starts k within e) (then_put listed behind)) h)
      ∙ ap (λ s. starts k within e ++ (unless_stopped s listed behind).parts) (passed-stop within kids ∙ h)

module _ (given : Given) where
  ends-done : (why : Why) → unready Main why ≡ Done → ⊥
  ends-done Need h = cc
  ends-done (Bad f) h = cc

  -- a run that is done has put all its parts, and nothing stopped it
  complete : (l : Left) (ps : List Part) (stop : Option Why) → (run_from given l ps stop).ending ≡ Done → (stop ≡ None) × ((run_from given l ps stop).parts ≡ ps)
  complete l [] None h = (refl, refl)
  complete l [] (Some why) h = absurd (ends-done why h)
  complete l (p ∷ ps) stop h = of_fault (fault given.limits.elements l p) h (complete (next l p) ps stop) where
    of_fault : (o : Option ResultFault) → (unless_refused o (group_at given 0) (with_first p (run_from given (next l p) ps stop))).ending ≡ Done → ((run_from given (next l p) ps stop).ending ≡ Done → (stop ≡ None) × ((run_from given (next l p) ps stop).parts ≡ ps)) → (stop ≡ None) × ((unless_refused o (group_at given 0) (with_first p (run_from given (next l p) ps stop))).parts ≡ p ∷ ps)
    of_fault None e c = let d = c e in (d.0, ap (λ l. p ∷ l) d.1)
    of_fault (Some f) e c = absurd (cc)

  none-put : (l : Left) (stop : Option Why) → (run_from given l [] stop).parts ≡ []
  none-put l None = refl
  none-put l (Some why) = refl

all-parts : (scope : List Binding) (f : Forest) → stop_in f ≡ None → (passed (kinds pass.All) scope f).parts ≡ parts_of (nodes_of scope f)
all-parts scope (End m offset) h = refl
all-parts scope (Cut why) h = refl
all-parts scope (Single m (Chars offset text) next) h = ap (λ l. part.Chars text ∷ l) (all-parts scope next h)
all-parts scope (Single m (CData offset text) next) h = ap (λ l. part.CData text ∷ l) (all-parts scope next h)
all-parts scope (Single m (Comment offset text) next) h = ap (λ l. part.Comment text ∷ l) (all-parts scope next h)
all-parts scope (Single m (Pi offset target text) next) h = ap (λ l. part.Pi target text ∷ l) (all-parts scope next h)
all-parts scope (Nested stage e kids next) h =
    let both = none-both (stop_in kids) (stop_in next) h in
    let within = scope_within scope e.decls in
    nested-is (kinds pass.All) scope stage e kids next both.0
    ∙ ap (λ l. part.Start e.name within ∷ (map attribute_part e.attrs ++ (l ++ part.End e.name ∷ (passed (kinds pass.All) scope next).parts))) (all-parts within kids both.0)
    ∙ ap (λ l. part.Start e.name within ∷ (map attribute_part e.attrs ++ (parts_of (nodes_of within kids) ++ part.End e.name ∷ l))) (all-parts scope next both.1)

text-parts : (scope : List Binding) (f : Forest) → stop_in f ≡ None → (passed (kinds pass.Chars) scope f).parts ≡ texts_of f
text-parts scope (End m offset) h = refl
text-parts scope (Cut why) h = refl
text-parts scope (Single m (Chars offset text) next) h = ap (λ l. part.Chars text ∷ l) (text-parts scope next h)
text-parts scope (Single m (CData offset text) next) h = ap (λ l. part.CData text ∷ l) (text-parts scope next h)
text-parts scope (Single m (Comment offset text) next) h = text-parts scope next h
text-parts scope (Single m (Pi offset target text) next) h = text-parts scope next h
text-parts scope (Nested stage e kids next) h =
    let both = none-both (stop_in kids) (stop_in next) h in
    let within = scope_within scope e.decls in
    nested-is (kinds pass.Chars) scope stage e kids next both.0
    ∙ ap (λ l. l ++ (passed (kinds pass.Chars) scope next).parts) (text-parts within kids both.0)
    ∙ ap (λ l. texts_of kids ++ l) (text-parts scope next both.1)

then-nothing : (s : Option Why) (p q : Passed) → p.parts ≡ [] → q.parts ≡ [] → (unless_stopped s p q).parts ≡ []
then-nothing None p q h k = ap (λ l. l ++ q.parts) h ∙ k
then-nothing (Some why) p q h k = h

once-nothing : (stage : Stage) (kids : Forest) (p : Passed) → p.parts ≡ [] → (once_ready stage kids p).parts ≡ []
once-nothing Waiting (Cut why) p h = refl
once-nothing Waiting (End m offset) p h = h
once-nothing Waiting (Single m leaf next) p h = h
once-nothing Waiting (Nested stage e kids next) p h = h
once-nothing (Ready first) kids p h = h
once-nothing (Entered first) kids p h = h

no-parts : (scope : List Binding) (f : Forest) → (passed (kinds pass.None) scope f).parts ≡ []
no-parts scope (End m offset) = refl
no-parts scope (Cut why) = refl
no-parts scope (Single m (Chars offset text) next) = no-parts scope next
no-parts scope (Single m (CData offset text) next) = no-parts scope next
no-parts scope (Single m (Comment offset text) next) = no-parts scope next
no-parts scope (Single m (Pi offset target text) next) = no-parts scope next
no-parts scope (Nested stage e kids next) =
    let within = scope_within scope e.decls in
    let listed = passed (kinds pass.None) within kids in
    let behind = put (ends (kinds pass.None) e) (passed (kinds pass.None) scope next) in
    once-nothing stage kids (put (starts (kinds pass.None) within e) (then_put listed behind)) (then-nothing listed.stop listed behind (no-parts within kids) (no-parts scope next))

pub copies_all : CopiesAll
copies_all given list e h =
    let k = kinds pass.All in
    let p = passed k [] list in
    let r : Kinds → Run = λ k. run_from given nothing (passed k [] list).parts (passed k [] list).stop in
    let d = complete given nothing p.parts p.stop (subst (λ k. (r k).ending ≡ Done) e h) in
    subst (λ k. (r k).parts ≡ parts_of (nodes_of [] list)) (sym e) (d.1 ∙ all-parts [] list (sym (passed-stop k [] list) ∙ d.0))

pub copies_texts : CopiesTexts
copies_texts given list e h =
    let k = kinds pass.Chars in
    let p = passed k [] list in
    let r : Kinds → Run = λ k. run_from given nothing (passed k [] list).parts (passed k [] list).stop in
    let d = complete given nothing p.parts p.stop (subst (λ k. (r k).ending ≡ Done) e h) in
    subst (λ k. (r k).parts ≡ texts_of list) (sym e) (d.1 ∙ text-parts [] list (sym (passed-stop k [] list) ∙ d.0))

pub copies_nothing : CopiesNothing
copies_nothing given list e =
    let k = kinds pass.None in
    let p = passed k [] list in
    let r : Kinds → Run = λ k. run_from given nothing (passed k [] list).parts (passed k [] list).stop in
    subst (λ k. (r k).parts ≡ []) (sym e) (ap (λ ps. (run_from given nothing ps p.stop).parts) (no-parts [] list) ∙ none-put given nothing p.stop)
