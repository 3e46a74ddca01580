-- Each run has an end.
use Rattle.std.proofs.Common.{◌≡◌, ℕ, ◌+◌, ◌<◌, ◌≤◌, nat_lt, List, [], ◌∷◌, ◌++◌, Option, Some, None, refl, ap, arith}
use Rattle.stx_base.specs.Course.{Ret, Halt, Ask}
use Rattle.stx_base.proofs.Termination.{safe_then, safe_more}
use Rattle.stx_base.specs.declared.fault.Place.{Place}
use Rattle.stx_base.specs.declared.fault.RunCode.TheVariants as code_is
use Rattle.stx_base.specs.declared.name.Attr.{Attr}
use Rattle.node_stack.specs.Path.{Node, Document, Element, Chars, CData, Comment, Pi, Attribute}
use Rattle.sheet_model.specs.declared.pass.Kinds.{Kinds}
use Rattle.sheet_model.specs.declared.sheet.Template.{Template}
use Rattle.xml_events.specs.Tree.{Forest}
use Rattle.group_scope.specs.declared.rank.Rank.{Rank}
use Rattle.template_machine.specs.Declaring.{ends_scope, makes_scope}
use Rattle.template_machine.specs.Ending.{fault_at}
use Rattle.template_machine.specs.Fuel.{skip}
use Rattle.template_machine.specs.Job.{Given, State, Source, Main, Opened, Here, Self, Nodes, Body, Does, Level, Asked, all_of, with_state, single}
use Rattle.template_machine.specs.Passing.{again, attributes, back, children, choice, finish, gone, enters, instance, kinds_in, leaf_parts, node, parts_before, parts_behind, pass_around, pass_leaf, pass_node, passed_on, returns, run_as, runs, group_at, template_at}
use Rattle.template_machine.specs.Putting.{puts}
use Rattle.template_machine.specs.Trail.{Trail, current, passing_among, stands}
use Rattle.var_store.specs.declared.bound.Bound.{Bound}
use Rattle.template_machine.proofs.Weighing.{amount, kids_size, weight, Pre, Post, Left, Ok, full, puts_ok, makes_scope_ok, binds_ok, either_ok, skip_ok, scope_fuel}

module _ (given : Given) where
  module _ (w : ℕ) (P : Here → Type 0) where
    pub instance_ok : (at : Place) (level : Level) (go : Level → Does) → ((n : ℕ) → Ok given w P (go (record level { instances = n }))) → Ok given w P (instance given at level go)
    instance_ok at level go h =
        either_ok given w P (nat_lt level.instances given.limits.instances) (go (record level { instances = level.instances + 1 })) (Halt (fault_at code_is.Instances at)) (h (level.instances + 1)) tt

    enters_ok : (handed : List Bound) (t : Template) (self : Self) (a : Here) (go : Here → Does) → a.state.fuel ≤ full given → amount given self.level.source a < w → ((b : Here) → Left given self.level.source (amount given self.level.source a) b → Ok given w P (go b)) → (st : State) → st.fuel ≡ a.state.fuel → Ok given w P (enters given handed t self a go st)
    enters_ok handed t self a go f l h st e =
        binds_ok given w P t.params handed self (record a { locals = []; state = st }) (λ b. Ask (Body t.body self b) (returns given t a go))
        (λ ls. (
          omega arith,
          omega arith,
          λ b r.
              let s = scope_fuel given t.new_scope t.group b.state in
              h (back a (ends_scope given t.new_scope t.group b.state) b) (omega arith, omega arith),
        ))

    -- a body that is called leaves no more than there was
    pub runs_ok : (at : Place) (handed : List Bound) (c : Rank) (t : Option Template) (active : List ℕ) (level : Level) (trail : Trail) (a : Here) (go : Here → Does) → a.state.fuel ≤ full given → amount given level.source a < w → ((b : Here) → Left given level.source (amount given level.source a) b → Ok given w P (go b)) → Ok given w P (runs given at handed c t active level trail a go)
    runs_ok at handed c None active level trail a go f l h = h a (omega arith, f)
    runs_ok at handed c (Some t) active level trail a go f l h =
        instance_ok at level (λ more. let self = run_as c t active more trail in makes_scope given t.new_scope t.group self a.state (enters given handed t self a go))
        (λ n.
        let self = run_as c t active (record level { instances = n }) trail in
        makes_scope_ok given w P t.new_scope t.group self a.state (enters given handed t self a go) (enters_ok handed t self a go f l h))

    -- children that are processed are gone
    pub children_ok : (twice : Place) (asked : Asked) (a : Here) (go : Here → Does) → a.state.fuel ≤ full given → amount given asked.level.source a < w → ((b : Here) → Left given asked.level.source (amount given asked.level.source a) b → Ok given w P (go b)) → Ok given w P (children twice asked a go)
    children_ok twice asked a go f l h = of_kids a.kids refl where
      of_kids : (o : Option Forest) → a.kids ≡ o → Ok given w P (elim o [ None ↦ Halt (fault_at code_is.ChildrenTwice twice) | Some kids ↦ Ask (Nodes (all_of kids) asked a.state) (λ b. go (gone a b.state)) ])
      of_kids None e = tt
      of_kids (Some kids) e =
          let k = ap (kids_size given asked.level.source) e in
          (f, omega arith, λ b r. h (gone a b.state) (omega arith, omega arith))

    pub pass_leaf_ok : (source : Source) (base : ℕ) (k : Kinds) (n : Node) (a : Here) → a.state.fuel ≤ full given → ((b : Here) → Left given source (amount given source a) b → P b) → Ok given w P (pass_leaf given base k n a)
    pass_leaf_ok source base k n a f h =
        puts_ok given w P (group_at given base) (leaf_parts k n) a.state (λ st. Ret (with_state a st)) (λ st e. h (with_state a st) (omega arith, omega arith))

  -- at a node without children and siblings nothing is left but fuel
  alone_amount : (source : Source) (st : State) → amount given source (single st) ≡ st.fuel
  alone_amount Main st = omega arith
  alone_amount (Opened d at n) st = omega arith

  pub finish_ok : (w : ℕ) (source : Source) (a : Here) → a.state.fuel ≤ full given → Ok given w (Left given source (amount given source a)) (finish given source a)
  finish_ok w source a f = of_kids a.kids refl where
    of_kids : (o : Option Forest) → a.kids ≡ o → Ok given w (Left given source (amount given source a)) (elim o [ None ↦ Ret a | Some kids ↦ skip given source kids a.state (λ st. Ret (gone a st)) ])
    of_kids None e = (omega arith, f)
    of_kids (Some kids) e =
        let k = ap (kids_size given source) e in
        skip_ok given w (Left given source (amount given source a)) source kids a.state (λ st. Ret (gone a st)) f (λ st g l. (omega arith, g))

  module _ (w : ℕ) where
    pass_around_ok : (twice : Place) (base : ℕ) (k : Kinds) (source : Source) (trail : Trail) (a : Here) → a.state.fuel ≤ full given → amount given source a < w → Ok given w (Left given source (amount given source a)) (pass_around given twice base k source trail a)
    pass_around_ok twice base k source trail a f l =
        let P = Left given source (amount given source a) in
        let behind : Here → Does = λ b. puts given (group_at given base) (parts_behind k (current trail)) b.state (λ st. Ret (with_state b st)) in
        puts_ok given w P (group_at given base) (parts_before k trail (current trail)) a.state (λ st. children twice (passed_on given base source trail) (with_state a st) behind)
        (λ st e. children_ok w P twice (passed_on given base source trail) (with_state a st) behind (omega arith) (omega arith)
        (λ b r. puts_ok given w P (group_at given base) (parts_behind k (current trail)) b.state (λ st. Ret (with_state b st))
        (λ st' e'. (omega (arith, r.0, r.1), omega (arith, r.0, r.1)))))

    pass_node_ok : (twice : Place) (base : ℕ) (source : Source) (trail : Trail) (n : Node) (a : Here) → a.state.fuel ≤ full given → amount given source a < w → Ok given w (Left given source (amount given source a)) (pass_node given twice base source trail n a)
    pass_node_ok twice base source trail Document a f l = pass_around_ok twice base (kinds_in given base) source trail a f l
    pass_node_ok twice base source trail (Element name attrs decls first) a f l = pass_around_ok twice base (kinds_in given base) source trail a f l
    pass_node_ok twice base source trail (Chars text) a f l = pass_leaf_ok w _ source base (kinds_in given base) (Chars text) a f (λ b r. r)
    pass_node_ok twice base source trail (CData text) a f l = pass_leaf_ok w _ source base (kinds_in given base) (CData text) a f (λ b r. r)
    pass_node_ok twice base source trail (Comment text) a f l = pass_leaf_ok w _ source base (kinds_in given base) (Comment text) a f (λ b r. r)
    pass_node_ok twice base source trail (Pi target text) a f l = pass_leaf_ok w _ source base (kinds_in given base) (Pi target text) a f (λ b r. r)
    pass_node_ok twice base source trail (Attribute x) a f l = pass_leaf_ok w _ source base (kinds_in given base) (Attribute x) a f (λ b r. r)

    pub node_ok : (asked : Asked) (trail : Trail) (a : Here) → a.state.fuel ≤ full given → amount given asked.level.source a < w → Ok given w (Left given asked.level.source (amount given asked.level.source a)) (node given asked trail a)
    node_ok asked trail a f l = of_choice (choice given asked.base [] trail a.state) where
      of_choice : (o : Option Rank) → Ok given w (Left given asked.level.source (amount given asked.level.source a)) (elim o [ None ↦ pass_node given asked.at asked.base asked.level.source trail (current trail) a | Some c ↦ runs given asked.at asked.params c (template_at given c) [] asked.level trail a (finish given asked.level.source) ])
      of_choice None = pass_node_ok asked.at asked.base asked.level.source trail (current trail) a f l
      of_choice (Some c) =
          runs_ok w _ asked.at asked.params c (template_at given c) [] asked.level trail a (finish given asked.level.source) f l
          (λ b r. safe_more (weight given) (Pre given) (Post given) w w (Left given asked.level.source (amount given asked.level.source b)) (Left given asked.level.source (amount given asked.level.source a)) (finish given asked.level.source b) (omega arith) (λ d q. (omega (arith, q.0, r.0), q.1)) (finish_ok w asked.level.source b r.1))

    pub again_ok : (at : Place) (base : ℕ) (handed : List Bound) (self : Self) (a : Here) → a.state.fuel ≤ full given → amount given self.level.source a < w → Ok given w (Left given self.level.source (amount given self.level.source a)) (again given at base handed self a)
    again_ok at base handed self a f l = of_choice (choice given base self.active self.trail a.state) where
      of_choice : (o : Option Rank) → Ok given w (Left given self.level.source (amount given self.level.source a)) (elim o [ None ↦ pass_node given at base self.level.source self.trail (current self.trail) a | Some c ↦ runs given at handed c (template_at given c) self.active self.level self.trail a (λ b. Ret b) ])
      of_choice None = pass_node_ok at base self.level.source self.trail (current self.trail) a f l
      of_choice (Some c) = runs_ok w _ at handed c (template_at given c) self.active self.level self.trail a (λ b. Ret b) f l (λ b r. r)

  module _ (w : ℕ) (P : Here → Type 0) where
    pub attributes_ok : (earlier coming : List Attr) (asked : Asked) (st : State) (go : State → Does) → st.fuel ≤ full given → st.fuel < w → ((t : State) → t.fuel ≤ st.fuel → Ok given w P (go t)) → Ok given w P (attributes given earlier coming asked st go)
    attributes_ok earlier [] asked st go f l h = h st (omega arith)
    attributes_ok earlier (x ∷ xs) asked st go f l h =
        let none = alone_amount asked.level.source st in
        let trail = stands (Attribute x) (passing_among earlier) asked.within in
        safe_then (weight given) (Pre given) (Post given) w P (node given asked trail (single st)) (λ b. attributes given (earlier ++ x ∷ []) xs asked b.state go)
        (safe_more (weight given) (Pre given) (Post given) w w (Left given asked.level.source (amount given asked.level.source (single st))) (λ b. Ok given w P (attributes given (earlier ++ x ∷ []) xs asked b.state go)) (node given asked trail (single st)) (omega arith)
        (λ b r. attributes_ok (earlier ++ x ∷ []) xs asked b.state go r.1 (omega (arith, r.0, none)) (λ t m. h t (omega (arith, r.0, none))))
        (node_ok w asked trail (single st) f (omega (arith, none))))
