-- A sheet without templates puts what its nodes put, as far as the output takes it.
use Rattle.std.proofs.Common.{◌≡◌, ℕ, Bool, true, false, List, [], ◌∷◌, ◌++◌, Option, Some, None, filter, map, refl, sym, ap, ◌∙◌, subst}
use Rattle.stx_base.specs.Course.{Ret, Halt, Say, Ask, and_then, Ends}
use Rattle.stx_base.proofs.Course.{and_then_assoc, unfolded, ends_said, stopped as stopped_so}
use Rattle.stx_base.specs.declared.fault.Place.{Place}
use Rattle.stx_base.specs.declared.node.NodeTest.{NodeTest}
use Rattle.stx_base.specs.declared.part.Part.{Part}
use Rattle.node_stack.specs.Path.{Node, Document}
use Rattle.result_writer.specs.Target.{Left, fault, next, nothing}
use Rattle.result_writer.specs.declared.fault.ResultFault.{ResultFault}
use Rattle.sheet_model.specs.declared.pass.Kinds.{Kinds}
use Rattle.xml_events.specs.Tree as tree
use Rattle.xml_events.specs.Tree.{Why, Mark, Fresh, Told, Begun, Stage, Waiting, Ready, Entered, Leaf, Forest, End, Cut, Single, Nested}
use Rattle.group_scope.specs.Choice.{all_from, category, fitting, is_free}
use Rattle.group_scope.specs.Rank.{best_of}
use Rattle.template_machine.specs.Declaring.{at_start, makes}
use Rattle.template_machine.specs.Ending.{Put, fault_at, result_code}
use Rattle.template_machine.specs.Fuel.{begin, ended, is_begun, is_entered, unready, when_ready}
use Rattle.template_machine.specs.Job.{Asked, Does, Given, Here, Main, Nodes, State, all_of, remains, with_state}
use Rattle.template_machine.specs.Meaning.{asked_first, at_document, code, ending_of, first_here, head, meaning, nodes, siblings, taken}
use Rattle.template_machine.specs.Passed.{Passed, PassesThrough, Run, put, unless_stopped, then_put, once_ready, passed, run_from, unless_refused, with_first, ends, starts, passing_run}
use Rattle.template_machine.specs.Passing.{choice, finish, gone, group_at, kinds_in, leaf_parts, node, pass_leaf, pass_node, passed_on, runs, template_at}
use Rattle.template_machine.specs.Putting.{put_out, put_to, puts, unless_fault}
use Rattle.template_machine.specs.Trail.{Trail, current, document, element_node, first_by, leaf_node, one_more, scope_of, stands, without_place}
use Rattle.template_machine.specs.Values.{pattern_setting}

module _ (given : Given) where
  abbrev limit : ℕ
  limit = given.limits.elements

  abbrev base_at : Place
  base_at = group_at given 0

  abbrev kinds : Kinds
  kinds = kinds_in given 0

  -- parts that come to the output, and then what a run does behind them
  abbrev run_then : Left → List Part → Option Why → (Left → Run) → Run
  run_then l [] None R = R l
  run_then l [] (Some why) R = record { parts = []; ending = unready Main why }
  run_then l (p ∷ ps) stop R = unless_refused (fault limit l p) base_at (with_first p (run_then (next l p) ps stop R))

  then-append : (l : Left) (ps qs : List Part) (stop : Option Why) (R : Left → Run) → run_then l (ps ++ qs) stop R ≡ run_then l ps None (λ t. run_then t qs stop R)
  then-append l [] qs stop R = refl
  then-append l (p ∷ ps) qs stop R = ap (λ r. unless_refused (fault limit l p) base_at (with_first p r)) (then-append (next l p) ps qs stop R)

  -- nothing is done behind parts that are stopped
  then-stopped : (l : Left) (ps : List Part) (why : Why) (R S : Left → Run) → run_then l ps (Some why) R ≡ run_then l ps (Some why) S
  then-stopped l [] why R S = refl
  then-stopped l (p ∷ ps) why R S = ap (λ r. unless_refused (fault limit l p) base_at (with_first p r)) (then-stopped (next l p) ps why R S)

  then-then : (l : Left) (p q : Passed) (R : Left → Run) → run_then l (then_put p q).parts (then_put p q).stop R ≡ run_then l p.parts p.stop (λ t. run_then t q.parts q.stop R)
  then-then l p q R = by_stop p.stop refl where
    by_stop : (s : Option Why) → p.stop ≡ s → run_then l (unless_stopped p.stop p q).parts (unless_stopped p.stop p q).stop R ≡ run_then l p.parts p.stop (λ t. run_then t q.parts q.stop R)
    by_stop None e = rw e (then-append l p.parts q.parts q.stop R)
    by_stop (Some why) e = rw e (then-stopped l p.parts why R (λ t. run_then t q.parts q.stop R))

  -- behind all parts there is the end
  then-end : (l : Left) (ps : List Part) (stop : Option Why) → run_then l ps stop (λ t. record { parts = []; ending = ending_of given t }) ≡ run_from given l ps stop
  then-end l [] None = refl
  then-end l [] (Some why) = refl
  then-end l (p ∷ ps) stop = ap (λ r. unless_refused (fault limit l p) base_at (with_first p r)) (then-end (next l p) ps stop)

  -- x is this run
  abbrev Has : Does → Run → Type 0
  Has x r = Ends (code given) x (map Put r.parts) r.ending

  fault_has : (o : Option ResultFault) (p : Part) (x : Does) (r : Run) (k : Here → Does) → Has (and_then x k) r → Has (and_then (unless_fault o base_at (Say (Put p) x)) k) (unless_refused o base_at (with_first p r))
  fault_has None p x r k h = ends_said (Put p ∷ []) h
  fault_has (Some f) p x r k h = stopped_so (code given) [] (fault_at (result_code f) base_at)

  -- parts go to the output where no buffer is open, and then k goes on
  puts_has : (ps : List Part) (s : State) (go : State → Does) (k : Here → Does) (R : Left → Run) → s.targets ≡ [] → ((t : State) → t.targets ≡ [] → Has (and_then (go t) k) (R t.result)) → Has (and_then (puts given base_at ps s go) k) (run_then s.result ps None R)
  puts_has [] s go k R e h = h s e
  puts_has (p ∷ ps) s go k R e h =
      let r = run_then (next s.result p) ps None R in
      let others = λ (t : State). puts given base_at ps t go in
      subst (λ ts. Has (and_then (put_to given ts base_at p s others) k) (unless_refused (fault limit s.result p) base_at (with_first p r))) (sym e)
      (fault_has (fault limit s.result p) p (others (put_out p s)) r k (puts_has ps (put_out p s) go k R e h))

  begun_has : (b : Bool) (s : State) (go : State → Does) (k : Here → Does) (r : Run) → ((f : ℕ) → Has (and_then (go (record s { fuel = f })) k) r) → Has (and_then (begin given Main b s go) k) r
  begun_has true s go k r h = h s.fuel
  begun_has false s go k r h = h given.limits.fuel

  by_call : (earlier : NodeTest → ℕ) (coming : Forest) (asked : Asked) (s : State) (k : Here → Does) (r : Run) → Has (and_then (nodes given earlier coming asked s) k) r → Has (Ask (Nodes (record { earlier = earlier; coming = coming }) asked s) k) r
  by_call earlier coming asked s k r h = (unfolded (code given) (Nodes (record { earlier = earlier; coming = coming }) asked s) k).from (map Put r.parts) r.ending h

  by_ready : (stage : Stage) (kids : Forest) (p : Passed) (s : State) (k : Here → Does) (R : Left → Run) (go : Does) → Has (and_then go k) (run_then s.result p.parts p.stop R) → Has (and_then (when_ready Main stage kids go) k) (run_then s.result (once_ready stage kids p).parts (once_ready stage kids p).stop R)
  by_ready (Ready first) kids p s k R go h = h
  by_ready (Entered first) kids p s k R go h = h
  by_ready Waiting (Cut why) p s k R go h = stopped_so (code given) [] (unready Main why)
  by_ready Waiting (End m offset) p s k R go h = h
  by_ready Waiting (Single m leaf next) p s k R go h = h
  by_ready Waiting (Nested stage e kids next) p s k R go h = h

  -- an end changes nothing but fuel
  ended_result : (m : Mark) (s : State) → ((ended given Main m s).result ≡ s.result) × ((ended given Main m s).targets ≡ s.targets)
  ended_result Fresh s = (refl, refl)
  ended_result Told s = (refl, refl)
  ended_result Begun s = (refl, refl)

  leaf_passes : (leaf : Leaf) (trail : Trail) (a : Here) → pass_node given base_at 0 Main trail (leaf_node leaf) a ≡ pass_leaf given 0 kinds (leaf_node leaf) a
  leaf_passes (tree.Chars offset text) trail a = refl
  leaf_passes (tree.CData offset text) trail a = refl
  leaf_passes (tree.Comment offset text) trail a = refl
  leaf_passes (tree.Pi offset target text) trail a = refl

  abbrev Goes_on : (Here → Does) → (Left → Run) → Type 0
  Goes_on k R = (b : Here) → b.state.targets ≡ [] → Has (k b) (R b.state.result)

  module _ (none : given.sheet.templates ≡ []) where
    -- without templates there is no choice
    node_passes : (asked : Asked) (trail : Trail) (a : Here) → node given asked trail a ≡ pass_node given asked.at asked.base asked.level.source trail (current trail) a
    node_passes asked trail a =
        let e : choice given asked.base [] trail a.state ≡ None = ap (λ ts. best_of (fitting (pattern_setting given trail a.state) (filter (is_free []) (all_from (category given.sheet asked.base) 0 ts)))) none in
        ap (λ o. elim o [ None ↦ pass_node given asked.at asked.base asked.level.source trail (current trail) a | Some c ↦ runs given asked.at asked.params c (template_at given c) [] asked.level trail a (finish given asked.level.source) ]) e

    -- a head that is passed through, and then its siblings and k
    head_has : (x : Node) (kids : Option Forest) (whole next : Forest) (earlier : NodeTest → ℕ) (within : Trail) (s : State) (k : Here → Does) (r : Run) → Has (and_then (pass_node given base_at 0 Main (stands x earlier within) x (taken x kids next earlier s)) (λ b. Ask (Nodes b.left (passed_on given 0 Main within) b.state) k)) r → Has (and_then (head given x kids whole next earlier (passed_on given 0 Main within) s) k) r
    head_has x kids whole next earlier within s k r h =
        let asked = passed_on given 0 Main within in
        let trail = stands x earlier within in
        let a = taken x kids next earlier s in
        subst (λ y. Has y r) (sym (and_then_assoc (node given asked trail a) (siblings asked) k))
        (subst (λ y. Has (and_then y (λ b. Ask (Nodes b.left asked b.state) k)) r) (sym (node_passes asked trail a)) h)

    does-so : (list : Forest) (earlier : NodeTest → ℕ) (within : Trail) (s : State) (k : Here → Does) (R : Left → Run) → s.targets ≡ [] → Goes_on k R → let p = passed kinds (scope_of within) list in Has (Ask (Nodes (record { earlier = earlier; coming = list }) (passed_on given 0 Main within) s) k) (run_then s.result p.parts p.stop R)
    does-so (End m offset) earlier within s k R e h =
        let d = ended_result m s in
        by_call earlier (End m offset) (passed_on given 0 Main within) s k (R s.result) (let b = remains (record { earlier = earlier; coming = End Begun 0 }) (ended given Main m s) in subst (λ l. Has (k b) (R l)) d.0 (h b (d.1 ∙ e)))
    does-so (Cut why) earlier within s k R e h =
        by_call earlier (Cut why) (passed_on given 0 Main within) s k (record { parts = []; ending = unready Main why }) (stopped_so (code given) [] (unready Main why))
    does-so (Single m leaf next) earlier within s k R e h =
        let asked = passed_on given 0 Main within in
        let x = leaf_node leaf in
        let trail = stands x earlier within in
        let parts = leaf_parts kinds x in
        let q = passed kinds (scope_of within) next in
        let r = run_then s.result (parts ++ q.parts) q.stop R in
        let on = λ (b : Here). Ask (Nodes b.left asked b.state) k in
        by_call earlier (Single m leaf next) asked s k r
        (begun_has (is_begun m) s (λ t. head given x None (Single Begun (without_place leaf) next) next earlier asked t) k r
        (λ f. let t = record s { fuel = f } in let a = taken x None next earlier t in
        head_has x None (Single Begun (without_place leaf) next) next earlier within t k r
        (subst (λ y. Has (and_then y on) r) (sym (leaf_passes leaf trail a))
        (subst (λ y. Has (and_then (pass_leaf given 0 kinds x a) on) y) (sym (then-append s.result parts q.parts q.stop R))
        (puts_has parts t (λ u. Ret (with_state a u)) on (λ l. run_then l q.parts q.stop R) e (λ u d. does-so next (one_more x earlier) within u k R d h))))))
    does-so (Nested stage x kids next) earlier within s k R e h =
        let asked = passed_on given 0 Main within in
        let n = element_node stage x kids in
        let trail = stands n earlier within in
        let inside = passed kinds (scope_of trail) kids in
        let others = passed kinds (scope_of within) next in
        let first = starts kinds (scope_of trail) x in
        let last = ends kinds x in
        let q = put last others in
        let p = put first (then_put inside q) in
        let r = run_then s.result p.parts p.stop R in
        let on = λ (b : Here). Ask (Nodes b.left asked b.state) k in
        by_call earlier (Nested stage x kids next) asked s k _
        (by_ready stage kids p s k R _
        (begun_has (is_entered stage) s (λ t. head given n (Some kids) (Nested (Entered (first_by stage kids)) (record x { offset = 0 }) kids next) next earlier asked t) k r
        (λ f. let t = record s { fuel = f } in let a = taken n (Some kids) next earlier t in
        let behind = λ (u : State) (b : Here). puts given base_at last b.state (λ v. Ret (with_state (gone (with_state a u) b.state) v)) in
        let go = λ (u : State). Ask (Nodes (all_of kids) (passed_on given 0 Main trail) u) (behind u) in
        head_has n (Some kids) (Nested (Entered (first_by stage kids)) (record x { offset = 0 }) kids next) next earlier within t k r
        (subst (λ y. Has (and_then (puts given base_at first t go) on) y) (sym (then-append s.result first (then_put inside q).parts (then_put inside q).stop R))
        (puts_has first t go on (λ l. run_then l (then_put inside q).parts (then_put inside q).stop R) e
        (λ u d. subst (λ y. Has (and_then (go u) on) y) (sym (then-then u.result inside q R))
        (does-so kids (λ t. 0) trail u (λ b. and_then (behind u b) on) (λ l. run_then l q.parts q.stop R) d
        (λ b c. subst (λ y. Has (and_then (behind u b) on) y) (sym (then-append b.state.result last others.parts others.stop R))
        (puts_has last b.state (λ v. Ret (with_state (gone (with_state a u) b.state) v)) on (λ l. run_then l others.parts others.stop R) c
        (λ v g. does-so next (one_more n earlier) within v k R g h))))))))))

    pub passes : given.sheet.variables ≡ [] → (list : Forest) → Has (meaning given list) (passing_run given list)
    passes bare list =
        let st = at_start given in
        let p = passed kinds [] list in
        let over = λ (b : Here). Halt (ending_of given b.state.result) in
        let a = first_here given list st in
        let r = passing_run given list in
        let start = λ (t : State). and_then (node given (asked_first given) (document ∷ []) (first_here given list t)) over in
        subst (λ vs. Has (makes given (λ v. true) [] vs (at_document given) st start) r) (sym bare)
        (subst (λ y. Has (and_then y over) r) (sym (node_passes (asked_first given) (document ∷ []) a))
        (subst (λ y. Has (and_then (pass_node given base_at 0 Main (document ∷ []) Document a) over) y) (then-end nothing p.parts p.stop)
        (does-so list (λ t. 0) (document ∷ []) st (λ b. and_then (Ret (with_state (gone a b.state) b.state)) over) (λ t. record { parts = []; ending = ending_of given t }) refl
        (λ b e. stopped_so (code given) [] (ending_of given b.state.result)))))

pub passes_through : PassesThrough
passes_through given none bare list = passes given none bare list
