-- Each run has one end, and `outcome` is it.
use Rattle.sheet_model.specs.Parts.{place}
use Rattle.std.proofs.Common.{◌≡◌, ℕ, ◌+◌, ◌≤◌, true, List, [], ◌∷◌, Option, Some, None, refl, arith}
use Rattle.stx_base.specs.Course.{Ret, Halt, Ask, and_then, Over, Ends}
use Rattle.stx_base.proofs.Termination.{safe_then, safe_more, has_end, end_at}
use Rattle.stx_base.specs.declared.fault.Place.{Place}
use Rattle.stx_base.specs.declared.node.NodeTest.{NodeTest}
use Rattle.node_stack.specs.Path.{Node}
use Rattle.sheet_model.specs.declared.instr.Instr.{Instr, out-Instr}
use Rattle.stxpath_syntax.specs.declared.expr.Expr.{Expr}
use Rattle.xml_events.specs.Tree.{Forest, End, Cut, Single, Nested, Begun, Entered}
use Rattle.template_machine.specs.Acting.{act, cut_to, loop}
use Rattle.template_machine.specs.Declaring.{at_start}
use Rattle.template_machine.specs.Ending.{Said, Ending}
use Rattle.template_machine.specs.Fuel.{is_begun, is_entered}
use Rattle.template_machine.specs.Job.{Given, State, Source, Main, Opened, Here, Self, Job, Nodes, Body, Loop, Does, Asked, remains, with_state}
use Rattle.template_machine.specs.Meaning.{asked_first, at_document, body, code, ending_of, ends_some, exec, first_here, head, list, meaning, nodes, siblings, taken}
use Rattle.template_machine.specs.Outcome.{AreNew, deep_enough, outcome, end_own, own, size}
use Rattle.template_machine.specs.Passing.{node}
use Rattle.template_machine.specs.Trail.{document, element_node, first_by, leaf_node, stands, without_place}
use Rattle.template_machine.specs.Values.{setting, truth_of}
use Rattle.template_machine.proofs.Running.{act_ok}
use Rattle.template_machine.proofs.Total.{node_ok}
use Rattle.template_machine.proofs.Weighing.{amount, kids_size, weight, Pre, Post, Left, Remaining, Ok, full, begin_ok, ended_fits, either_ok, got_ok, makes_ok, ready_ok, spend_ok}

module _ (given : Given) (new : AreNew given) where
  exec_ok : (w : ℕ) (i : Instr) (self : Self) (a : Here) → a.state.fuel ≤ full given → amount given self.level.source a ≤ w → Ok given w (Left given self.level.source (amount given self.level.source a)) (exec given i self a)
  exec_ok w i self a f l =
      let source = self.level.source in
      spend_ok given w (Left given source (amount given source a)) (place (out-Instr i)) a.state (λ st. act given i self (with_state a st))
      (λ st e. safe_more (weight given) (Pre given) (Post given) w w (Left given source (amount given source (with_state a st))) (Left given source (amount given source a)) (act given i self (with_state a st)) (omega arith)
      (λ b r. (omega (arith, r.0), r.1)) (act_ok given w new i self (with_state a st) (omega arith) (omega arith)))

  body_ok : (w n : ℕ) (is : List Instr) (self : Self) (a : Here) → a.state.fuel ≤ full given → amount given self.level.source a ≤ n → n ≤ w → Ok given w (Left given self.level.source n) (body given is self a)
  body_ok w n [] self a f l m = (l, f)
  body_ok w n (i ∷ is) self a f l m =
      let source = self.level.source in
      safe_then (weight given) (Pre given) (Post given) w (Left given source n) (exec given i self a) (body given is self)
      (safe_more (weight given) (Pre given) (Post given) w w (Left given source (amount given source a)) (λ b. Ok given w (Left given source n) (body given is self b)) (exec given i self a) (omega arith)
      (λ b r. body_ok w n is self b r.1 (omega (arith, r.0)) m) (exec_ok w i self a f (omega arith)))

  list_ok : (is : List Instr) (self : Self) (a : Here) → a.state.fuel ≤ full given → Ok given (amount given self.level.source a) (Left given self.level.source (amount given self.level.source a)) (list given is self a)
  list_ok is self a f =
      let source = self.level.source in
      let n = amount given source a in
      safe_then (weight given) (Pre given) (Post given) n (Left given source n) (body given is self a) (λ b. Ret (cut_to a.locals b)) (body_ok n n is self a f (omega arith) (omega arith))

  loop_ok : (test : Expr) (is : List Instr) (at : Place) (self : Self) (a : Here) → a.state.fuel ≤ full given → Ok given (amount given self.level.source a) (Left given self.level.source (amount given self.level.source a)) (loop given test is at self a)
  loop_ok test is at self a f =
      let source = self.level.source in
      let n = amount given source a in
      let P = Left given source n in
      let turn : State → Does = λ st. Ask (Body is self (with_state a st)) (λ b. Ask (Loop test is at self b) Ret) in
      got_ok given n P at (truth_of test (setting given self a)) _
      (λ holds. either_ok given n P holds _ (Ret a)
      (spend_ok given n P at a.state turn
      (λ st e. (omega arith, omega arith, λ b r. (r.1, omega (arith, r.0), λ c q. (omega (arith, q.0, r.0), q.1)))))
      (omega arith, f))

  -- a head that was begun, and the siblings behind it
  head_ok : (w n : ℕ) (x : Node) (kids : Option Forest) (whole next : Forest) (earlier : NodeTest → ℕ) (asked : Asked) (st : State) → st.fuel ≤ full given → size (full given) asked.level.source whole ≡ kids_size given asked.level.source kids + size (full given) asked.level.source next + 1 → size (full given) asked.level.source whole + st.fuel ≤ n → n ≤ w → Ok given w (Remaining given asked.level.source n) (head given x kids whole next earlier asked st)
  head_ok w n x kids whole next earlier asked st f e l m =
      let source = asked.level.source in
      let P = Remaining given source n in
      let trail = stands x earlier asked.within in
      let a = taken x kids next earlier st in
      either_ok given w P (ends_some given asked.level.conditions trail st)
      (Ret (remains (record { earlier = earlier; coming = whole }) st)) (and_then (node given asked trail a) (siblings asked))
      (l, f)
      (safe_then (weight given) (Pre given) (Post given) w P (node given asked trail a) (siblings asked)
      (safe_more (weight given) (Pre given) (Post given) w w (Left given source (amount given source a)) (λ b. Ok given w P (siblings asked b)) (node given asked trail a) (omega arith)
      (λ b r. (r.1, omega (arith, r.0), λ c q. (omega (arith, q.0, r.0), q.1))) (node_ok given w asked trail a f (omega arith))))

  own_begun : (source : Source) → own (full given) source true ≡ 1
  own_begun Main = refl
  own_begun (Opened d at number) = refl

  end_begun : (source : Source) → end_own (full given) source true ≡ 0
  end_begun Main = refl
  end_begun (Opened d at number) = refl

  nodes_ok : (earlier : NodeTest → ℕ) (coming : Forest) (asked : Asked) (st : State) → st.fuel ≤ full given → let n = size (full given) asked.level.source coming + st.fuel in Ok given n (Remaining given asked.level.source n) (nodes given earlier coming asked st)
  nodes_ok earlier (End m offset) asked st f =
      let e = ended_fits given asked.level.source m st f in
      let z = end_begun asked.level.source in (omega (arith, e.1, z), e.0)
  nodes_ok earlier (Cut why) asked st f = tt
  nodes_ok earlier (Single m leaf next) asked st f =
      let source = asked.level.source in
      let n = size (full given) source (Single m leaf next) + st.fuel in
      let o = own_begun source in
      begin_ok given n (Remaining given source n) source (is_begun m) st (λ t. head given (leaf_node leaf) None (Single Begun (without_place leaf) next) next earlier asked t) f
      (λ t g l. head_ok n n (leaf_node leaf) None (Single Begun (without_place leaf) next) next earlier asked t g (omega arith) (omega arith) (omega arith))
  nodes_ok earlier (Nested stage x kids next) asked st f =
      let source = asked.level.source in
      let n = size (full given) source (Nested stage x kids next) + st.fuel in
      let o = own_begun source in
      ready_ok given n (Remaining given source n) source stage kids _
      (begin_ok given n (Remaining given source n) source (is_entered stage) st (λ t. head given (element_node stage x kids) (Some kids) (Nested (Entered (first_by stage kids)) (record x { offset = 0 }) kids next) next earlier asked t) f
      (λ t g l. head_ok n n (element_node stage x kids) (Some kids) (Nested (Entered (first_by stage kids)) (record x { offset = 0 }) kids next) next earlier asked t g (omega arith) (omega arith) (omega arith)))

  pub code_ok : (q : Job) → Pre given q → Ok given (weight given q) (Post given q) (code given q)
  code_ok (Nodes left asked st) f = nodes_ok left.earlier left.coming asked st f
  code_ok (Body is self a) f = list_ok is self a f
  code_ok (Loop test is at self a) f = loop_ok test is at self a f

  meaning_ok : (tree : Forest) → Ok given (deep_enough given tree) (λ a. ⊥) (meaning given tree)
  meaning_ok tree =
      let w = deep_enough given tree in
      let on : State → Does = λ st. and_then (node given (asked_first given) (document ∷ []) (first_here given tree st)) (λ a. Halt (ending_of given a.state.result)) in
      makes_ok given w (λ a. ⊥) (λ v. true) [] given.sheet.variables (at_document given) (at_start given) on
      (λ st e. safe_then (weight given) (Pre given) (Post given) w (λ a. ⊥) (node given (asked_first given) (document ∷ []) (first_here given tree st)) (λ a. Halt (ending_of given a.state.result))
      (safe_more (weight given) (Pre given) (Post given) w w (Left given Main (amount given Main (first_here given tree st))) (λ b. Unit {0}) (node given (asked_first given) (document ∷ []) (first_here given tree st)) (omega arith)
      (λ b r. tt) (node_ok given w (asked_first given) (document ∷ []) (first_here given tree st) (omega arith) (omega arith))))

  pub has_meaning : (tree : Forest) → (os : List Said) × (e : Ending) × Ends (code given) (meaning given tree) os e
  has_meaning tree = has_end (weight given) (Pre given) (Post given) (code given) code_ok (deep_enough given tree) (meaning given tree) (meaning_ok tree)

  pub outcome_is : (tree : Forest) (os : List Said) (e : Ending) → Ends (code given) (meaning given tree) os e → outcome given tree ≡ Over os e
  outcome_is tree os e h = end_at (weight given) (Pre given) (Post given) (code given) code_ok (deep_enough given tree) (meaning given tree) (meaning_ok tree) os e h
