-- What the machine's states stand for: derivations of what was read.
use Rattle.std.proofs.Common.{◌≡◌, ◌≢◌, ℕ, ◌+◌, ◌≤◌, ◌<◌, Bool, true, false, cond, nat_le, nat_eq, List, [], ◌∷◌, ◌++◌, Some, None, Option, sym, ◌∙◌, refl, ap, arith, subst, lit≤, pos, append_assoc}
use Rattle.std.specs.Option.{option_map, option_and_then}
use Rattle.std.proofs.lemmas.List.{append-nil}
use Rattle.std.proofs.lemmas.Bool.{false≢true}
use Rattle.std.proofs.lemmas.Bool.Decides.{nat_tests}
use Rattle.stx_base.specs.declared.name.Binding.{Binding}
use Rattle.stx_base.specs.declared.expression.Op.TheVariants as op
use Rattle.stx_base.specs.declared.node.NodeTest.{NodeTest}
use Rattle.stx_base.specs.declared.node.NodeTest.TheVariants as test
use Rattle.stxpath_syntax.specs.declared.dialect.Dialect.{Dialect}
use Rattle.stxpath_syntax.specs.declared.expr.Alternative.{Alternative}
use Rattle.stxpath_syntax.specs.declared.expr.Alternative.TheVariants as alternative
use Rattle.stxpath_syntax.specs.declared.expr.Bin.TheVariants as bin
use Rattle.stxpath_syntax.specs.declared.expr.Expr.{Expr}
use Rattle.stxpath_syntax.specs.declared.expr.Link.{Link}
use Rattle.stxpath_syntax.specs.declared.expr.Link.TheVariants as link
use Rattle.stxpath_syntax.specs.declared.expr.PathStep.{PathStep}
use Rattle.stxpath_syntax.specs.declared.meant.Meant.{Meant}
use Rattle.stxpath_syntax.specs.declared.state.Begun.{Begun}
use Rattle.stxpath_syntax.specs.declared.state.Frame.{Frame}
use Rattle.stxpath_syntax.specs.declared.state.Frame.TheVariants.{Negated, Left, Group, Call, Predicate, Alternatives}
use Rattle.stxpath_syntax.specs.declared.state.Mode.{Mode}
use Rattle.stxpath_syntax.specs.declared.state.Mode.TheVariants.{Operand, Variable, Function, Root, Alternative as AlternativeBegins, Step, Named as AfterName, Kind, Target, Walked, Attribute, Above, Higher, Complete}
use Rattle.stxpath_syntax.specs.declared.state.Owner.{Owner}
use Rattle.stxpath_syntax.specs.declared.state.Owner.TheVariants as owner
use Rattle.stxpath_syntax.specs.declared.state.State.{State}
use Rattle.stxpath_syntax.specs.declared.state.Walk.{Walk}
use Rattle.stxpath_syntax.specs.declared.token.Operator.{Operator}
use Rattle.stxpath_syntax.specs.declared.token.Operator.TheVariants as operator
use Rattle.stxpath_syntax.specs.declared.token.Placed.{Placed}
use Rattle.stxpath_syntax.specs.declared.token.Token.{Token}
use Rattle.stxpath_syntax.specs.declared.token.Token.TheVariants as token
use Rattle.stxpath_syntax.specs.declared.token.Written.{Written}
use Rattle.stxpath_syntax.specs.Grammar as g
use Rattle.stxpath_syntax.specs.Grammar.{at, minus, level, left_level, link_tokens, Test, AttrTest, Ending, Parents, Spells, Leading, Listed, Predicates, Steps}
use Rattle.stxpath_syntax.specs.Meaning.{none, flat, neg, operated, and_also, seq, root, untested, some, up, abs, called, type_of}
use Rattle.stxpath_syntax.specs.Meaning as meaning
use Rattle.stxpath_syntax.specs.Machine.{Next, top_binds, gathered, is_pattern, is_beside, sign, separate, close, close_empty, close_predicate, filtered, wait, complete, first, operand, walk_of, all_steps, whole_path, whole_alternative, linked, end_of_path, end_of_alternative, walk_on, begin_step, begin_attribute, at_stack, owned, targeted, after_type, after_target, after_root, begin_alternative, after_name, attribute, above, higher, variable, function, turn, last_operand, last_alternative, alone, with_last, end_of_expression, end_of_pattern, run, step}
use Rattle.stxpath_syntax.specs.Machine.{state_of}
use Rattle.stxpath_syntax.specs.Reading.{GoesOn}
use Rattle.stxpath_syntax.proofs.Completing.{level_bounds}
use Rattle.stxpath_syntax.proofs.Gathering.{gathered_bound, gathered_loose}
use Rattle.stxpath_syntax.proofs.Running.{in_state}

module _ (dialect : Dialect) (scope : List Binding) where
  -- tokens of an expression that binds tighter than any operator
  abbrev pub Tight : List Placed → Meant Expr → Type 0
  Tight ts m = (n : ℕ) → Spells dialect scope n ts m

  -- whether a path may begin with this link: in a pattern with any, else with a slash
  abbrev pub MayBegin : Bool → Link → Type 0
  MayBegin true l = Unit {0}
  MayBegin false l = l ≢ link.Start

  -- the tokens of a path that waits for a step's test
  pub data Opening : Bool → Begun → List Placed → Type 0 where
    at_first : (b : Bool) (l : Link) (p : ℕ) → MayBegin b l → Opening b (first l) (link_tokens l p)
    at_next : (b : Bool) (l m : Link) (p : ℕ) {steps : Meant (List PathStep)} {ts : List Placed} → MayBegin b l → m ≢ link.Start → Steps dialect scope l ts steps
        → Opening b (record { steps = steps; link = m; is_first = false }) (ts ++ link_tokens m p)

  -- the tokens of a path with its last step
  pub data Walking : Bool → Walk → List Placed → Type 0 where
    nodes : {b : Bool} {begun : Begun} {t : Meant NodeTest} {es : Meant (List Expr)} {ts us vs : List Placed}
        → Opening b begun ts → Test dialect scope us t → Predicates dialect scope vs es
        → Walking b (record { steps = begun.steps; link = begun.link; test = t; predicates = es; is_attribute = false }) (ts ++ us ++ vs)
    attributes : {begun : Begun} {t : Meant NodeTest} {es : Meant (List Expr)} {ts us vs : List Placed}
        → Opening true begun ts → AttrTest scope us t → Predicates dialect scope vs es
        → Walking true (record { steps = begun.steps; link = begun.link; test = t; predicates = es; is_attribute = true }) (ts ++ us ++ vs)

  -- alternatives, each with a bar behind it
  pub data Barred : Meant (List Alternative) → List Placed → Type 0 where
    start : Barred none []
    further : (p : ℕ) {all : Meant (List Alternative)} {ts : List Placed} → g.Pattern dialect scope ts all → Barred all (ts ++ at p token.Bar ∷ [])

  mutual
    -- what a stack has read that waits for an operand of this level; at its bottom is an expression or a pattern
    pub data Below : Bool → ℕ → List Frame → List Placed → Type 0 where
      bottom : Below false 1 [] []
      negated : {whole : Bool} (k p : ℕ) {fs : List Frame} {ts : List Placed} → Below whole k fs ts → k ≤ 6
          → Below whole 6 (Negated ∷ fs) (ts ++ at p minus ∷ [])
      left : {whole : Bool} (k p : ℕ) (o : Operator) {x : Meant Expr} {fs : List Frame} {ts us : List Placed}
          → Below whole k fs ts → Spells dialect scope (left_level o) us x → k ≤ level o
          → Below whole (level o + 1) (Left x o p ∷ fs) (ts ++ us ++ at p (token.Operator o) ∷ [])
      group : {whole : Bool} (k q : ℕ) {c : ℕ} {items : Meant (List Expr)} {fs : List Frame} {ts us : List Placed}
          → Below whole k fs ts → Leading dialect scope c us items → Below whole 1 (Group items c ∷ fs) (ts ++ at q token.Open ∷ us)
      call : {whole : Bool} (k p q : ℕ) (name : Written) {c : ℕ} {items : Meant (List Expr)} {fs : List Frame} {ts us : List Placed}
          → Below whole k fs ts → Leading dialect scope c us items
          → Below whole 1 (Call name p items c ∷ fs) (ts ++ at p (token.Name name) ∷ at q token.Open ∷ us)
      predicate : {whole : Bool} (b : Bool) (q : ℕ) {walk : Walk} {fs : List Frame} {ts us : List Placed}
          → Waits whole b fs ts → Walking b walk us → Below whole 1 (Predicate walk ∷ fs) (ts ++ us ++ at q token.OpenPredicate ∷ [])

    -- what a stack has read that waits for a path, of an expression or of a pattern
    pub data Waits : Bool → Bool → List Frame → List Placed → Type 0 where
      expression : {whole : Bool} (n : ℕ) {fs : List Frame} {ts : List Placed} → Below whole n fs ts → Waits whole false fs ts
      pattern : {all : Meant (List Alternative)} {ts : List Placed} → Barred all ts
          → Waits true true (Alternatives all ∷ []) ts

  -- the tokens of a test of attributes but for its name
  pub data Owning : Bool → Owner → List Placed → Type 0 where
    of_here : (p : ℕ) → Owning false owner.Here (at p token.At ∷ [])
    of_above : (s p : ℕ) {n : ℕ} {ts : List Placed} → Parents scope ts n
        → Owning false (owner.Above n) (ts ++ at s token.Slash ∷ at p token.At ∷ [])
    of_path : (l : Link) (s p : ℕ) {steps : Meant (List PathStep)} {ts : List Placed} → l ≢ link.Start → Steps dialect scope l ts steps
        → Owning false (owner.Path steps) (ts ++ at s token.Slash ∷ at p token.At ∷ [])
    of_last : (p : ℕ) {begun : Begun} {ts : List Placed} → Opening true begun ts
        → Owning true (owner.Last begun) (ts ++ at p token.At ∷ [])

  -- what was read behind the stack, by the mode
  pub data Behind : Bool → Mode → List Placed → Type 0 where
    in_operand : Behind false Operand []
    in_variable : (p : ℕ) → Behind false Variable (at p token.Dollar ∷ [])
    in_function : (p : ℕ) (name : Written) → Behind false (Function name p) (at p (token.Name name) ∷ [])
    in_root : (b : Bool) (p : ℕ) → Behind b Root (at p token.Slash ∷ [])
    in_alternative : Behind true AlternativeBegins []
    in_step : {b : Bool} {begun : Begun} {ts : List Placed} → Opening b begun ts → Behind b (Step begun) ts
    in_named : {b : Bool} (p : ℕ) (name : Written) {begun : Begun} {ts : List Placed} → Opening b begun ts
        → Behind b (AfterName (record { begun = begun; name = name; at = p })) (ts ++ at p (token.Name name) ∷ [])
    in_kind : {b : Bool} (p o : ℕ) (name : Written) {begun : Begun} {t : NodeTest} {ts : List Placed} → Opening b begun ts → type_of dialect name ≡ Some t
        → Behind b (Kind begun t) (ts ++ at p (token.Name name) ∷ at o token.Open ∷ [])
    in_target : {b : Bool} (p o q : ℕ) (name : Written) (text : List ℕ) {begun : Begun} {ts : List Placed} → Opening b begun ts → type_of dialect name ≡ Some test.AnyPi
        → Behind b (Target begun text) (ts ++ at p (token.Name name) ∷ at o token.Open ∷ at q (token.Literal text) ∷ [])
    in_walked : {b : Bool} {walk : Walk} {ts : List Placed} → Walking b walk ts → Behind b (Walked walk) ts
    in_attribute : {b : Bool} {whose : Owner} {ts : List Placed} → Owning b whose ts → Behind b (Attribute whose) ts
    in_above : {n : ℕ} {ts : List Placed} → Parents scope ts n → Behind false (Above n) ts
    in_higher : (s : ℕ) {n : ℕ} {ts : List Placed} → Parents scope ts n → Behind false (Higher n) (ts ++ at s token.Slash ∷ [])
    in_complete : {m : Meant Expr} {ts : List Placed} → Tight ts m → Behind false (Complete m) ts

  -- a state stands for the tokens that were read
  pub record Holds (whole : Bool) (frames : List Frame) (mode : Mode) (ts : List Placed) : Type 0 where
    pub in_pattern : Bool
    pub before : List Placed
    pub behind : List Placed
    pub stack : Waits whole in_pattern frames before
    pub mode_is : Behind in_pattern mode behind
    pub are : ts ≡ before ++ behind

  abbrev pub HoldsNext : Bool → List Placed → Next → Type 0
  HoldsNext whole ts None = Unit {0}
  HoldsNext whole ts (Some next) = Holds whole next.0 next.1 ts

  moved : {whole : Bool} {frames : List Frame} {mode : Mode} {ts us : List Placed} → ts ≡ us → Holds whole frames mode ts → Holds whole frames mode us
  moved {whole} {frames} {mode} e h = subst (λ ts. Holds whole frames mode ts) e h

  moved_next : (whole : Bool) (next : Next) {ts us : List Placed} → ts ≡ us → HoldsNext whole ts next → HoldsNext whole us next
  moved_next whole next e h = subst (λ ts. HoldsNext whole ts next) e h

  walking_at : {b : Bool} {walk : Walk} {ts us : List Placed} → ts ≡ us → Walking b walk ts → Walking b walk us
  walking_at {b} {walk} e h = subst (λ ts. Walking b walk ts) e h

  steps_at : {l : Link} {steps : Meant (List PathStep)} {ts us : List Placed} → ts ≡ us → Steps dialect scope l ts steps → Steps dialect scope l us steps
  steps_at {l} {steps} e h = subst (λ ts. Steps dialect scope l ts steps) e h

  alternates_at : {a : Meant Alternative} {ts us : List Placed} → ts ≡ us → g.Alternates dialect scope ts a → g.Alternates dialect scope us a
  alternates_at {a} e h = subst (λ ts. g.Alternates dialect scope ts a) e h

  pattern_at : {all : Meant (List Alternative)} {ts us : List Placed} → ts ≡ us → g.Pattern dialect scope ts all → g.Pattern dialect scope us all
  pattern_at {all} e h = subst (λ ts. g.Pattern dialect scope ts all) e h

  behind_at : {b : Bool} {mode : Mode} {ts us : List Placed} → ts ≡ us → Behind b mode ts → Behind b mode us
  behind_at {b} {mode} e h = subst (λ ts. Behind b mode ts) e h

  below_at : {whole : Bool} {n : ℕ} {fs : List Frame} {ts us : List Placed} → ts ≡ us → Below whole n fs ts → Below whole n fs us
  below_at {whole} {n} {fs} e h = subst (λ ts. Below whole n fs ts) e h

  pub spells_at : {n : ℕ} {m : Meant Expr} {ts us : List Placed} → ts ≡ us → Spells dialect scope n ts m → Spells dialect scope n us m
  spells_at {n} {m} e h = subst (λ ts. Spells dialect scope n ts m) e h

  -- the stack is as it was, and these tokens are the last that were read behind it
  stays_on : (behind us : List Placed) {whole b : Bool} {frames : List Frame} {mode : Mode} {before : List Placed}
      → Waits whole b frames before → Behind b mode (behind ++ us) → Holds whole frames mode ((before ++ behind) ++ us)
  stays_on behind us {b = b} {before = before} w m =
      record { in_pattern = b; before = before; behind = behind ++ us; stack = w; mode_is = m; are = append_assoc before behind us }

  -- a stack behind which an operand begins
  begins_operand : {whole : Bool} {n : ℕ} {frames : List Frame} {ts : List Placed} → Below whole n frames ts → Holds whole frames Operand ts
  begins_operand {n = n} {ts = ts} w =
      record { in_pattern = false; before = ts; behind = []; stack = Waits.expression n w; mode_is = Behind.in_operand; are = sym (append-nil ts) }

  -- a stack behind which an operand has ended
  ends_operand : {whole : Bool} {n : ℕ} {frames : List Frame} {before behind : List Placed} {m : Meant Expr}
      → Below whole n frames before → Tight behind m → Holds whole frames (Complete m) (before ++ behind)
  ends_operand {n = n} {before = before} {behind = behind} w d =
      record { in_pattern = false; before = before; behind = behind; stack = Waits.expression n w; mode_is = Behind.in_complete d; are = refl }

  le_true : (n k : ℕ) → nat_le n k ≡ true → n ≤ k
  le_true n k e = grind (arith, nat_tests)

  le_false : (n k : ℕ) → nat_le n k ≡ false → k < n
  le_false n k e = grind (arith, nat_tests)

  eq_false : (n k : ℕ) → nat_eq n k ≡ false → n ≢ k
  eq_false n k e = grind (arith, nat_tests)

  eq_true : (n k : ℕ) → nat_eq n k ≡ true → n ≡ k
  eq_true n k e = grind (arith, nat_tests)

  -- what is gathered, and what stands below it
  record Gathered (whole : Bool) (k : ℕ) (frames : List Frame) (m : Meant Expr) (ts : List Placed) : Type 0 where
    n : ℕ
    c : ℕ
    before : List Placed
    behind : List Placed
    below : Below whole n frames before
    fits : n ≤ c
    least : k ≤ c
    spells : (j : ℕ) → j ≤ c → Spells dialect scope j behind m
    are : ts ≡ before ++ behind
    loose : top_binds k frames ≡ false

  gathered_at : {whole : Bool} {k : ℕ} {frames : List Frame} {m : Meant Expr} {ts us : List Placed} → ts ≡ us
      → Gathered whole k frames m ts → Gathered whole k frames m us
  gathered_at {whole} {k} {frames} {m} e h = subst (λ ts. Gathered whole k frames m ts) e h

  choose_left : (whole : Bool) (k : ℕ) (fs : List Frame) (x m : Meant Expr) (o : Operator) (p : ℕ) (ts : List Placed) (b : Bool) → nat_le k (level o) ≡ b
      → (k ≤ level o → Gathered whole k (gathered k fs (operated o p x m)).0 (gathered k fs (operated o p x m)).1 ts)
      → (nat_le k (level o) ≡ false → Gathered whole k (Left x o p ∷ fs) m ts)
      → Gathered whole k (gathered k (Left x o p ∷ fs) m).0 (gathered k (Left x o p ∷ fs) m).1 ts
  choose_left whole k fs x m o p ts true e bound loose =
      subst (λ r. Gathered whole k r.0 r.1 ts) (sym (gathered_bound k (Left x o p) fs m e)) (bound (le_true k (level o) e))
  choose_left whole k fs x m o p ts false e bound loose =
      subst (λ r. Gathered whole k r.0 r.1 ts) (sym (gathered_loose k (Left x o p) fs m e)) (loose e)

  gather_sound : {whole : Bool} {n : ℕ} {frames : List Frame} {before : List Placed} → Below whole n frames before
      → (k c : ℕ) (behind : List Placed) (m : Meant Expr) → k ≤ 5 → n ≤ c → k ≤ c → ((j : ℕ) → j ≤ c → Spells dialect scope j behind m)
      → Gathered whole k (gathered k frames m).0 (gathered k frames m).1 (before ++ behind)
  unfolding gathered
  gather_sound Below.bottom k c behind m h f l s =
      record { n = 1; c = c; before = []; behind = behind; below = Below.bottom; fits = f; least = l; spells = s; are = refl; loose = refl }
  gather_sound (Below.negated i p {ts = ts} w g) k c behind m h f l s =
      gathered_at (sym (append_assoc ts (at p minus ∷ []) behind))
      (gather_sound w k 6 (at p minus ∷ behind) (neg m) h g (omega (arith, h)) (λ j q. Spells.negated j p q (s 6 f)))
  gather_sound {whole} (Below.left i p o {x = x} {fs = fs} {ts = ts} {us = us} w d g) k c behind m h f l s =
      choose_left whole k fs x m o p _ (nat_le k (level o)) refl
      (λ q. gathered_at (sym (append_assoc ts us (at p (token.Operator o) ∷ behind)) ∙ sym (append_assoc (ts ++ us) (at p (token.Operator o) ∷ []) behind))
      (gather_sound w k (level o) (us ++ at p (token.Operator o) ∷ behind) (operated o p x m) h g q
      (λ j r. Spells.operation j p o r d (s (level o + 1) f))))
      (λ e. record { n = level o + 1; c = c; before = _; behind = behind; below = Below.left i p o w d g; fits = f; least = l; spells = s; are = refl; loose = e })
  gather_sound (Below.group i q w d) k c behind m h f l s =
      record { n = 1; c = c; before = _; behind = behind; below = Below.group i q w d; fits = f; least = l; spells = s; are = refl; loose = refl }
  gather_sound (Below.call i p q name w d) k c behind m h f l s =
      record { n = 1; c = c; before = _; behind = behind; below = Below.call i p q name w d; fits = f; least = l; spells = s; are = refl; loose = refl }
  gather_sound (Below.predicate b q w d) k c behind m h f l s =
      record { n = 1; c = c; before = _; behind = behind; below = Below.predicate b q w d; fits = f; least = l; spells = s; are = refl; loose = refl }

  left_bound : (o : Operator) → left_level o ≤ level o + 1
  left_bound (operator.Binary bin.Or) = lit≤ tt
  left_bound (operator.Binary bin.And) = lit≤ tt
  left_bound (operator.Binary (bin.Compare cmp)) = lit≤ tt
  left_bound (operator.Binary (bin.Arith op.Add)) = lit≤ tt
  left_bound (operator.Binary (bin.Arith op.Sub)) = lit≤ tt
  left_bound (operator.Binary (bin.Arith op.Mul)) = lit≤ tt
  left_bound (operator.Binary (bin.Arith op.Idiv)) = lit≤ tt
  left_bound (operator.Binary (bin.Arith op.Mod)) = lit≤ tt
  left_bound operator.Div = lit≤ tt

  tighter : (other o : Operator) → nat_le (left_level o) (level other) ≡ false → nat_eq (level other) (level o) ≡ false → level other + 1 ≤ level o
  tighter other o e f =
      let below = le_false (left_level o) (level other) e in
      let apart = eq_false (level other) (level o) f in
      omega (arith, left_bound o)

  -- an operator may stand behind what was gathered for it
  may_follow : {whole : Bool} {n : ℕ} {frames : List Frame} {ts : List Placed} → Below whole n frames ts → (o : Operator)
      → top_binds (left_level o) frames ≡ false → is_beside o frames ≡ false → n ≤ level o
  may_follow Below.bottom o e f = (level_bounds o).2
  may_follow (Below.negated i p w g) o e f = absurd (false≢true (sym e))
  may_follow (Below.left i p other w d g) o e f = tighter other o e f
  may_follow (Below.group i q w d) o e f = (level_bounds o).2
  may_follow (Below.call i p q name w d) o e f = (level_bounds o).2
  may_follow (Below.predicate b q w d) o e f = (level_bounds o).2

  wait_by : (whole : Bool) (k : ℕ) (fs : List Frame) (m : Meant Expr) (o : Operator) (p : ℕ) (ts : List Placed) (b : Bool) → is_beside o fs ≡ b
      → Gathered whole (left_level o) fs m ts → HoldsNext whole (ts ++ at p (token.Operator o) ∷ []) (cond b None (Some (Left m o p ∷ fs, Operand)))
  wait_by whole k fs m o p ts true e r = tt
  wait_by whole k fs m o p ts false e r =
      moved (ap (λ us. us ++ at p (token.Operator o) ∷ []) (sym r.are))
      (begins_operand (Below.left r.n p o r.below (r.spells (left_level o) r.least) (may_follow r.below o r.loose e)))

  wait_sound : (whole : Bool) (fs : List Frame) (m : Meant Expr) (o : Operator) (p : ℕ) (ts : List Placed)
      → Gathered whole (left_level o) fs m ts → HoldsNext whole (ts ++ at p (token.Operator o) ∷ []) (wait o p (fs, m))
  wait_sound whole fs m o p ts r = wait_by whole 0 fs m o p ts (is_beside o fs) refl r

  more_some : (k : ℕ) → k + 1 ≢ 0
  more_some k e = absurd (omega arith)

  leading_none : {k : ℕ} {ts : List Placed} {es : Meant (List Expr)} → Leading dialect scope k ts es → k ≡ 0 → (ts ≡ []) × (es ≡ none)
  leading_none Leading.start e = (refl, refl)
  leading_none (Leading.further p {k = k} d x) e = absurd (more_some k e)

  not_one : (k : ℕ) → nat_eq k 0 ≡ false → k + 1 ≢ 1
  not_one k e f = let some = eq_false k 0 e in absurd (omega arith)

  -- `)` behind an expression in brackets
  group_by : (q p c : ℕ) (b : Bool) (x : Meant Expr) (us behind : List Placed) {whole : Bool} {i : ℕ} {items : Meant (List Expr)} {fs : List Frame} {ts : List Placed}
      → nat_eq c 0 ≡ b → Below whole i fs ts → Leading dialect scope c us items → Spells dialect scope 1 behind x
      → Holds whole fs (Complete (cond b x (seq (and_also items x)))) (ts ++ at q token.Open ∷ ((us ++ behind) ++ at p token.Close ∷ []))
  group_by q p c true x us behind {ts = ts} e w d s =
      let n = leading_none d (eq_true c 0 e) in
      moved (ap (λ us. ts ++ at q token.Open ∷ ((us ++ behind) ++ at p token.Close ∷ [])) (sym n.0)) (ends_operand w (λ j. Spells.single j q p s))
  group_by q p c false x us behind e w d s = ends_operand w (λ j. Spells.several j q p (Listed.last d s) (not_one c e))

  close_sound : {whole : Bool} {n : ℕ} {fs : List Frame} {before : List Placed} → Below whole n fs before
      → (p c : ℕ) (behind : List Placed) (m : Meant Expr) → n ≤ c → ((j : ℕ) → j ≤ c → Spells dialect scope j behind m)
      → HoldsNext whole ((before ++ behind) ++ at p token.Close ∷ []) (close (fs, m))
  close_sound Below.bottom p c behind m f s = tt
  close_sound (Below.negated i q w g) p c behind m f s = tt
  close_sound (Below.left i q o w d g) p c behind m f s = tt
  close_sound (Below.group i q {c = k} {ts = ts} {us = us} w d) p c behind m f s =
      moved (simp append_assoc) (group_by q p k (nat_eq k 0) m us behind refl w d (s 1 f))
  close_sound (Below.call i q r name {ts = ts} {us = us} w d) p c behind m f s =
      moved (simp append_assoc) (ends_operand w (λ j. Spells.call j q r p name (Listed.last d (s 1 f))))
  close_sound (Below.predicate b q w d) p c behind m f s = tt

  separate_sound : {whole : Bool} {n : ℕ} {fs : List Frame} {before : List Placed} → Below whole n fs before
      → (p c : ℕ) (behind : List Placed) (m : Meant Expr) → n ≤ c → ((j : ℕ) → j ≤ c → Spells dialect scope j behind m)
      → HoldsNext whole ((before ++ behind) ++ at p token.Comma ∷ []) (separate (fs, m))
  separate_sound Below.bottom p c behind m f s = tt
  separate_sound (Below.negated i q w g) p c behind m f s = tt
  separate_sound (Below.left i q o w d g) p c behind m f s = tt
  separate_sound (Below.group i q w d) p c behind m f s = moved (simp append_assoc) (begins_operand (Below.group i q w (Leading.further p d (s 1 f))))
  separate_sound (Below.call i q r name w d) p c behind m f s =
      moved (simp append_assoc) (begins_operand (Below.call i q r name w (Leading.further p d (s 1 f))))
  separate_sound (Below.predicate b q w d) p c behind m f s = tt

  -- a path's last step with one more predicate
  filtered_walk : {b : Bool} {walk : Walk} {us : List Placed} → Walking b walk us → (q p : ℕ) (behind : List Placed) (x : Meant Expr) → Spells dialect scope 1 behind x
      → Walking b (filtered walk x) (us ++ at q token.OpenPredicate ∷ (behind ++ at p token.ClosePredicate ∷ []))
  filtered_walk {b = b} (Walking.nodes {begun = begun} {ts = ts} {us = us} {vs = vs} o t d) q p behind x s =
      walking_at (sym (append_assoc (ts ++ us) vs _)) (Walking.nodes o t (Predicates.filtered q p d s))
  filtered_walk (Walking.attributes {begun = begun} {ts = ts} {us = us} {vs = vs} o t d) q p behind x s =
      walking_at (sym (append_assoc (ts ++ us) vs _)) (Walking.attributes o t (Predicates.filtered q p d s))

  filter_sound : {whole : Bool} {n : ℕ} {fs : List Frame} {before : List Placed} → Below whole n fs before
      → (p c : ℕ) (behind : List Placed) (m : Meant Expr) → n ≤ c → ((j : ℕ) → j ≤ c → Spells dialect scope j behind m)
      → HoldsNext whole ((before ++ behind) ++ at p token.ClosePredicate ∷ []) (close_predicate (fs, m))
  filter_sound Below.bottom p c behind m f s = tt
  filter_sound (Below.negated i q w g) p c behind m f s = tt
  filter_sound (Below.left i q o w d g) p c behind m f s = tt
  filter_sound (Below.group i q w d) p c behind m f s = tt
  filter_sound (Below.call i q r name w d) p c behind m f s = tt
  filter_sound (Below.predicate b q {ts = ts} {us = us} w d) p c behind m f s = record {
    in_pattern = b;
    before = ts;
    behind = us ++ at q token.OpenPredicate ∷ (behind ++ at p token.ClosePredicate ∷ []);
    stack = w;
    mode_is = Behind.in_walked (filtered_walk d q p behind m (s 1 f));
    are = simp append_assoc;
  }

  below_bound : {whole : Bool} {n : ℕ} {fs : List Frame} {ts : List Placed} → Below whole n fs ts → n ≤ 6
  below_bound Below.bottom = lit≤ tt
  below_bound (Below.negated i p w g) = lit≤ tt
  below_bound (Below.left i p o w d g) = let b = level_bounds o in omega (arith, b.0, b.1)
  below_bound (Below.group i q w d) = lit≤ tt
  below_bound (Below.call i p q name w d) = lit≤ tt
  below_bound (Below.predicate b q w d) = lit≤ tt

  below_plain : {whole : Bool} {n : ℕ} {fs : List Frame} {ts : List Placed} → Below whole n fs ts → is_pattern fs ≡ false
  below_plain Below.bottom = refl
  below_plain (Below.negated i p w g) = refl
  below_plain (Below.left i p o w d g) = refl
  below_plain (Below.group i q w d) = refl
  below_plain (Below.call i p q name w d) = refl
  below_plain (Below.predicate b q w d) = refl

  complete_sound : {whole : Bool} {n : ℕ} {frames : List Frame} {before : List Placed} → Below whole n frames before
      → (behind : List Placed) (m : Meant Expr) → Tight behind m → (p : ℕ) (t : Token)
      → HoldsNext whole ((before ++ behind) ++ at p t ∷ []) (complete frames m p t)
  unfolding complete
  complete_sound {whole} {n} {frames} w behind m d p (token.Operator o) =
      let b = level_bounds o in
      let r = gather_sound w (left_level o) 7 behind m b.1 (omega (arith, below_bound w)) (omega (arith, b.1)) (λ j h. d j) in
      wait_sound whole (gathered (left_level o) frames m).0 (gathered (left_level o) frames m).1 o p _ r
  complete_sound {whole} {n} {frames} w behind m d p token.Close =
      let r = gather_sound w 0 7 behind m (lit≤ tt) (omega (arith, below_bound w)) (lit≤ tt) (λ j h. d j) in
      moved_next whole _ (ap (λ us. us ++ at p token.Close ∷ []) (sym r.are)) (close_sound r.below p r.c r.behind (gathered 0 frames m).1 r.fits r.spells)
  complete_sound {whole} {n} {frames} w behind m d p token.Comma =
      let r = gather_sound w 0 7 behind m (lit≤ tt) (omega (arith, below_bound w)) (lit≤ tt) (λ j h. d j) in
      moved_next whole _ (ap (λ us. us ++ at p token.Comma ∷ []) (sym r.are)) (separate_sound r.below p r.c r.behind (gathered 0 frames m).1 r.fits r.spells)
  complete_sound {whole} {n} {frames} w behind m d p token.ClosePredicate =
      let r = gather_sound w 0 7 behind m (lit≤ tt) (omega (arith, below_bound w)) (lit≤ tt) (λ j h. d j) in
      moved_next whole _ (ap (λ us. us ++ at p token.ClosePredicate ∷ []) (sym r.are)) (filter_sound r.below p r.c r.behind (gathered 0 frames m).1 r.fits r.spells)
  complete_sound w behind m d p _ = tt

  -- the steps of a path of nodes
  all_read : {b : Bool} {walk : Walk} {us : List Placed} → Walking b walk us → walk.is_attribute ≡ false
      → (l : Link) × MayBegin b l × Steps dialect scope l us (all_steps walk)
  all_read (Walking.nodes (Opening.at_first b l p h) t d) e = (l, h, Steps.one_step (g.Step.tested l p t d))
  all_read (Walking.nodes (Opening.at_next b l m p h ne s) t d) e =
      (l, h, steps_at (simp append_assoc) (Steps.next_step ne s (g.Step.tested m p t d)))
  all_read (Walking.attributes o t d) e = absurd (false≢true (sym e))

  walk_tight : {walk : Walk} {us : List Placed} → Walking false walk us → walk.is_attribute ≡ false → Tight us (whole_path walk)
  walk_tight {walk} {us} w e =
      let r = all_read w e in
      λ n. subst (λ ts. Spells dialect scope n ts (whole_path walk)) (append-nil us) (Spells.absolute n r.1 r.2 Ending.without)

  nodes_only : {walk : Walk} {us : List Placed} → Walking false walk us → walk.is_attribute ≡ false
  nodes_only (Walking.nodes o t d) = refl

  walk_alternates : {walk : Walk} {us : List Placed} → Walking true walk us → g.Alternates dialect scope us (whole_alternative walk)
  walk_alternates (Walking.nodes o t d) = let r = all_read (Walking.nodes o t d) refl in g.Alternates.steps r.0 r.2
  walk_alternates (Walking.attributes (Opening.at_first b l p h) t d) = g.Alternates.attribute l (g.AttrStep.tested l p t d)
  walk_alternates (Walking.attributes (Opening.at_next b l m p h ne s) t d) =
      alternates_at (simp append_assoc) (g.Alternates.attributes l m ne s (g.AttrStep.tested m p t d))

  barred_alternative : {all : Meant (List Alternative)} {ts us : List Placed} {a : Meant Alternative} → Barred all ts → g.Alternates dialect scope us a
      → g.Pattern dialect scope (ts ++ us) (and_also all a)
  barred_alternative Barred.start d = g.Pattern.one d
  barred_alternative {us = us} (Barred.further p {ts = ts} h) d =
      pattern_at (sym (append_assoc ts (at p token.Bar ∷ []) us)) (g.Pattern.further p h d)

  end_of_alternative_sound : {all : Meant (List Alternative)} {before : List Placed} → Barred all before → (behind : List Placed) (a : Meant Alternative)
      → g.Alternates dialect scope behind a → (p : ℕ) (t : Token)
      → HoldsNext true ((before ++ behind) ++ at p t ∷ []) (end_of_alternative (Alternatives all ∷ []) a t)
  end_of_alternative_sound {before = before} h behind a d p token.Bar = record {
    in_pattern = true;
    before = (before ++ behind) ++ at p token.Bar ∷ [];
    behind = [];
    stack = Waits.pattern (Barred.further p (barred_alternative h d));
    mode_is = Behind.in_alternative;
    are = sym (append-nil _);
  }
  end_of_alternative_sound h behind a d p _ = tt

  end_of_path_sound : {whole b : Bool} {frames : List Frame} {before behind : List Placed} {walk : Walk} → Waits whole b frames before → Walking b walk behind
      → (p : ℕ) (t : Token) → HoldsNext whole ((before ++ behind) ++ at p t ∷ []) (end_of_path frames walk p t)
  end_of_path_sound {walk = walk} (Waits.expression n w) h p t = rw (below_plain w) (complete_sound w _ (whole_path walk) (walk_tight h (nodes_only h)) p t)
  end_of_path_sound {walk = walk} (Waits.pattern bars) h p t = end_of_alternative_sound bars _ (whole_alternative walk) (walk_alternates h) p t

  linked_sound : {whole b : Bool} {frames : List Frame} {before behind : List Placed} {walk : Walk} → Waits whole b frames before → Walking b walk behind
      → (m : Link) (p : ℕ) → m ≢ link.Start → HoldsNext whole ((before ++ behind) ++ link_tokens m p) (at_stack frames (linked walk m))
  linked_sound {b = b} w (Walking.nodes o t d) m p ne =
      let r = all_read (Walking.nodes o t d) refl in
      stays_on _ (link_tokens m p) w (Behind.in_step (Opening.at_next b r.0 m p r.1 ne r.2))
  linked_sound w (Walking.attributes o t d) m p ne = tt

  slash_ne : link.Slash ≢ link.Start
  slash_ne e = cc

  deep_ne : link.Deep ≢ link.Start
  deep_ne e = cc

  walk_sound : {whole b : Bool} {frames : List Frame} {before behind : List Placed} {walk : Walk} → Waits whole b frames before → Walking b walk behind
      → (p : ℕ) (t : Token) → HoldsNext whole ((before ++ behind) ++ at p t ∷ []) (walk_on frames walk p t)
  unfolding walk_on
  walk_sound {b = b} w h p token.OpenPredicate = begins_operand (Below.predicate b p w h)
  walk_sound w h p token.Slash = linked_sound w h link.Slash p slash_ne
  walk_sound w h p token.SlashSlash = linked_sound w h link.Deep p deep_ne
  walk_sound w h p t = end_of_path_sound w h p t

  plain_walk : {b : Bool} {begun : Begun} {t : Meant NodeTest} {ts us : List Placed} → Opening b begun ts → Test dialect scope us t
      → Walking b (walk_of begun t false) (ts ++ us)
  plain_walk {b} {begun} {t} o d = subst (λ ts. Walking b (walk_of begun t false) ts) (append-nil _) (Walking.nodes o d Predicates.unfiltered)

  begin_attribute_sound : {whole b : Bool} {frames : List Frame} {before behind : List Placed} {begun : Begun} → Waits whole b frames before → Opening b begun behind
      → (p : ℕ) → HoldsNext whole ((before ++ behind) ++ at p token.At ∷ []) (at_stack frames (begin_attribute frames begun))
  begin_attribute_sound (Waits.pattern bars) o p = stays_on _ (at p token.At ∷ []) (Waits.pattern bars) (Behind.in_attribute (Owning.of_last p o))
  begin_attribute_sound (Waits.expression n w) (Opening.at_first b l q h) p = rw (below_plain w) tt
  begin_attribute_sound (Waits.expression n w) (Opening.at_next b l link.Slash q {ts = ts} h ne s) p =
      rw (below_plain w) (stays_on _ (at p token.At ∷ []) (Waits.expression n w)
      (behind_at (sym (append_assoc ts (at q token.Slash ∷ []) (at p token.At ∷ []))) (Behind.in_attribute (Owning.of_path l q p h s))))
  begin_attribute_sound (Waits.expression n w) (Opening.at_next b l link.Deep q h ne s) p = rw (below_plain w) tt
  begin_attribute_sound (Waits.expression n w) (Opening.at_next b l link.Start q h ne s) p = absurd (ne refl)

  begin_sound : {whole b : Bool} {frames : List Frame} {before behind : List Placed} {begun : Begun} → Waits whole b frames before → Opening b begun behind
      → (p : ℕ) (t : Token) → HoldsNext whole ((before ++ behind) ++ at p t ∷ []) (begin_step scope frames begun p t)
  unfolding begin_step
  begin_sound w o p (token.Name name) = stays_on _ (at p (token.Name name) ∷ []) w (Behind.in_named p name o)
  begin_sound w o p (token.Within prefix) = stays_on _ (at p (token.Within prefix) ∷ []) w (Behind.in_walked (plain_walk o (Test.within p prefix)))
  begin_sound w o p token.Star = stays_on _ (at p token.Star ∷ []) w (Behind.in_walked (plain_walk o (Test.any p)))
  begin_sound w o p token.At = begin_attribute_sound w o p
  begin_sound w o p _ = tt

  type_by : {whole b : Bool} {frames : List Frame} {before ts : List Placed} {begun : Begun} (q : ℕ) (name : Written) (p : ℕ) (found : Option NodeTest)
      → type_of dialect name ≡ found → Waits whole b frames before → Opening b begun ts
      → HoldsNext whole ((before ++ (ts ++ at q (token.Name name) ∷ [])) ++ at p token.Open ∷ []) (at_stack frames (option_map (Kind begun) found))
  type_by q name p None e w o = tt
  type_by {ts = ts} q name p (Some t) e w o =
      stays_on _ (at p token.Open ∷ []) w (behind_at (sym (append_assoc ts (at q (token.Name name) ∷ []) (at p token.Open ∷ []))) (Behind.in_kind q p name o e))

  named_sound : {whole b : Bool} {frames : List Frame} {before ts : List Placed} {begun : Begun} (q : ℕ) (name : Written) → Waits whole b frames before → Opening b begun ts
      → (p : ℕ) (t : Token)
      → HoldsNext whole ((before ++ (ts ++ at q (token.Name name) ∷ [])) ++ at p t ∷ []) (after_name dialect scope frames (record { begun = begun; name = name; at = q }) p t)
  unfolding after_name
  named_sound q name w o p token.Open = type_by q name p (type_of dialect name) refl w o
  named_sound q name w o p t = walk_sound w (plain_walk o (Test.named q name)) p t

  targeted_sound : {whole b : Bool} {frames : List Frame} {before ts : List Placed} {begun : Begun} (q r : ℕ) (name : Written) (t : NodeTest) (p : ℕ) (text : List ℕ)
      → type_of dialect name ≡ Some t → Waits whole b frames before → Opening b begun ts
      → HoldsNext whole ((before ++ (ts ++ at q (token.Name name) ∷ at r token.Open ∷ [])) ++ at p (token.Literal text) ∷ []) (at_stack frames (targeted begun t text))
  targeted_sound {ts = ts} q r name test.AnyPi p text e w o =
      stays_on _ (at p (token.Literal text) ∷ []) w
      (behind_at (sym (append_assoc ts (at q (token.Name name) ∷ at r token.Open ∷ []) (at p (token.Literal text) ∷ []))) (Behind.in_target q r p name text o e))
  targeted_sound q r name _ p text e w o = tt

  kind_sound : {whole b : Bool} {frames : List Frame} {before ts : List Placed} {begun : Begun} (q r : ℕ) (name : Written) (t : NodeTest) → type_of dialect name ≡ Some t
      → Waits whole b frames before → Opening b begun ts → (p : ℕ) (next : Token)
      → HoldsNext whole ((before ++ (ts ++ at q (token.Name name) ∷ at r token.Open ∷ [])) ++ at p next ∷ []) (at_stack frames (after_type begun t next))
  kind_sound {ts = ts} q r name t e w o p token.Close =
      stays_on _ (at p token.Close ∷ []) w
      (behind_at (sym (append_assoc ts (at q (token.Name name) ∷ at r token.Open ∷ []) (at p token.Close ∷ []))) (Behind.in_walked (plain_walk o (Test.type q r p name t e))))
  kind_sound q r name t e w o p (token.Literal text) = targeted_sound q r name t p text e w o
  kind_sound q r name t e w o p _ = tt

  target_sound : {whole b : Bool} {frames : List Frame} {before ts : List Placed} {begun : Begun} (q r u : ℕ) (name : Written) (text : List ℕ) → type_of dialect name ≡ Some test.AnyPi
      → Waits whole b frames before → Opening b begun ts → (p : ℕ) (next : Token)
      → HoldsNext whole ((before ++ (ts ++ at q (token.Name name) ∷ at r token.Open ∷ at u (token.Literal text) ∷ [])) ++ at p next ∷ [])
      (at_stack frames (after_target begun text next))
  target_sound {ts = ts} q r u name text e w o p token.Close =
      stays_on _ (at p token.Close ∷ []) w
      (behind_at (sym (append_assoc ts (at q (token.Name name) ∷ at r token.Open ∷ at u (token.Literal text) ∷ []) (at p token.Close ∷ [])))
      (Behind.in_walked (plain_walk o (Test.target q r u p name text e))))
  target_sound q r u name text e w o p _ = tt

  owned_sound : {whole b : Bool} {frames : List Frame} {before behind : List Placed} {whose : Owner} {tm : Meant NodeTest} (x : Placed)
      → ((a : ℕ) → AttrTest scope (at a token.At ∷ x ∷ []) tm) → Waits whole b frames before → Owning b whose behind
      → Holds whole frames (owned whose tm) ((before ++ behind) ++ x ∷ [])
  owned_sound x h w (Owning.of_here a) = stays_on _ (x ∷ []) w (Behind.in_complete (λ n. Spells.attributes n (h a)))
  owned_sound x h w (Owning.of_above s a {ts = ts} d) =
      stays_on _ (x ∷ []) w
      (behind_at (sym (append_assoc ts (at s token.Slash ∷ at a token.At ∷ []) (x ∷ []))) (Behind.in_complete (λ n. Spells.above n d (Ending.attributes s (h a)))))
  owned_sound x h w (Owning.of_path l s a {ts = ts} ne d) =
      stays_on _ (x ∷ []) w
      (behind_at (sym (append_assoc ts (at s token.Slash ∷ at a token.At ∷ []) (x ∷ [])))
      (Behind.in_complete (λ n. Spells.absolute n ne d (Ending.attributes s (h a)))))
  owned_sound x h w (Owning.of_last a {ts = ts} o) =
      stays_on _ (x ∷ []) w
      (behind_at (append-nil _ ∙ sym (append_assoc ts (at a token.At ∷ []) (x ∷ []))) (Behind.in_walked (Walking.attributes o (h a) Predicates.unfiltered)))

  attribute_sound : {whole b : Bool} {frames : List Frame} {before behind : List Placed} {whose : Owner} → Waits whole b frames before → Owning b whose behind
      → (p : ℕ) (t : Token) → HoldsNext whole ((before ++ behind) ++ at p t ∷ []) (at_stack frames (attribute scope whose p t))
  attribute_sound w o p (token.Name name) = owned_sound (at p (token.Name name)) (λ a. AttrTest.named a p name) w o
  attribute_sound w o p (token.Within prefix) = owned_sound (at p (token.Within prefix)) (λ a. AttrTest.within a p prefix) w o
  attribute_sound w o p token.Star = owned_sound (at p token.Star) (λ a. AttrTest.any a p) w o
  attribute_sound w o p _ = tt

  above_tight : {n : ℕ} {ts : List Placed} → Parents scope ts n → Tight ts (up n untested)
  above_tight d = λ n. spells_at (append-nil _) (Spells.above n d Ending.without)

  above_sound : {whole : Bool} {frames : List Frame} {before behind : List Placed} {n : ℕ} → Waits whole false frames before → Parents scope behind n
      → (p : ℕ) (t : Token) → HoldsNext whole ((before ++ behind) ++ at p t ∷ []) (above frames n p t)
  above_sound w d p token.Slash = stays_on _ (at p token.Slash ∷ []) w (Behind.in_higher p d)
  above_sound (Waits.expression i w) d p t = complete_sound w _ _ (above_tight d) p t

  higher_by : {whole : Bool} {frames : List Frame} {before ts : List Placed} {n : ℕ} (b : Bool) (s p : ℕ) → nat_eq n 0 ≡ b → Waits whole false frames before → Parents scope ts n
      → HoldsNext whole ((before ++ (ts ++ at s token.Slash ∷ [])) ++ at p token.DotDot ∷ []) (at_stack frames (cond b None (Some (Above (n + 1)))))
  higher_by true s p e w d = tt
  higher_by {ts = ts} {n = n} false s p e w d =
      stays_on _ (at p token.DotDot ∷ []) w
      (behind_at (sym (append_assoc ts (at s token.Slash ∷ []) (at p token.DotDot ∷ []))) (Behind.in_above (Parents.further s p d (eq_false n 0 e))))

  higher_sound : {whole : Bool} {frames : List Frame} {before ts : List Placed} {n : ℕ} (s : ℕ) → Waits whole false frames before → Parents scope ts n
      → (p : ℕ) (t : Token) → HoldsNext whole ((before ++ (ts ++ at s token.Slash ∷ [])) ++ at p t ∷ []) (at_stack frames (higher n t))
  higher_sound {n = n} s w d p token.DotDot = higher_by (nat_eq n 0) s p refl w d
  higher_sound {ts = ts} s w d p token.At =
      stays_on _ (at p token.At ∷ []) w
      (behind_at (sym (append_assoc ts (at s token.Slash ∷ []) (at p token.At ∷ []))) (Behind.in_attribute (Owning.of_above s p d)))
  higher_sound s w d p _ = tt

  slash_begins : (b : Bool) → MayBegin b link.Slash
  slash_begins true = tt
  slash_begins false = slash_ne

  deep_begins : (b : Bool) → MayBegin b link.Deep
  deep_begins true = tt
  deep_begins false = deep_ne

  root_at : {whole : Bool} {frames : List Frame} {before : List Placed} {n : ℕ} (q : ℕ) → Below whole n frames before → (p : ℕ)
      → HoldsNext whole ((before ++ at q token.Slash ∷ []) ++ at p token.At ∷ []) (after_root scope frames p token.At)
  unfolding after_root
  root_at q w p = rw (below_plain w) (complete_sound w _ root (λ n. Spells.root n q) p token.At)

  root_sound : {whole b : Bool} {frames : List Frame} {before : List Placed} (q : ℕ) → Waits whole b frames before
      → (p : ℕ) (t : Token) → HoldsNext whole ((before ++ at q token.Slash ∷ []) ++ at p t ∷ []) (after_root scope frames p t)
  unfolding after_root
  root_sound {b = b} q w p (token.Name name) = begin_sound w (Opening.at_first b link.Slash q (slash_begins b)) p (token.Name name)
  root_sound {b = b} q w p (token.Within prefix) = begin_sound w (Opening.at_first b link.Slash q (slash_begins b)) p (token.Within prefix)
  root_sound {b = b} q w p token.Star = begin_sound w (Opening.at_first b link.Slash q (slash_begins b)) p token.Star
  root_sound q (Waits.pattern bars) p token.At = begin_sound (Waits.pattern bars) (Opening.at_first true link.Slash q tt) p token.At
  root_sound q (Waits.expression n w) p token.At = root_at q w p
  root_sound q (Waits.pattern bars) p t = end_of_alternative_sound bars _ (flat alternative.Root) (g.Alternates.root q) p t
  root_sound q (Waits.expression n w) p t = rw (below_plain w) (complete_sound w _ root (λ n. Spells.root n q) p t)

  alternative_sound : {whole : Bool} {frames : List Frame} {before : List Placed} → Waits whole true frames before
      → (p : ℕ) (t : Token) → HoldsNext whole ((before ++ []) ++ at p t ∷ []) (begin_alternative scope frames p t)
  unfolding begin_alternative
  alternative_sound w p token.Slash = stays_on [] (at p token.Slash ∷ []) w (Behind.in_root true p)
  alternative_sound w p token.SlashSlash = stays_on [] (at p token.SlashSlash ∷ []) w (Behind.in_step (Opening.at_first true link.Deep p tt))
  alternative_sound w p t = begin_sound w (Opening.at_first true link.Start 0 tt) p t

  empty_group_by : (b : Bool) (q p c : ℕ) (items : Meant (List Expr)) (us : List Placed) {whole : Bool} {i : ℕ} {fs : List Frame} {ts : List Placed}
      → nat_eq c 0 ≡ b → Below whole i fs ts → Leading dialect scope c us items
      → HoldsNext whole (ts ++ at q token.Open ∷ (us ++ at p token.Close ∷ [])) (at_stack fs (cond b (Some (Complete (seq items))) None))
  empty_group_by false q p c items us e w d = tt
  empty_group_by true q p c items us {whole = whole} {fs = fs} {ts = ts} e w d =
      let n = leading_none d (eq_true c 0 e) in
      subst (λ items. Holds whole fs (Complete (seq items)) (ts ++ at q token.Open ∷ (us ++ at p token.Close ∷ []))) (sym n.1)
      (moved (ap (λ us. ts ++ at q token.Open ∷ (us ++ at p token.Close ∷ [])) (sym n.0)) (ends_operand w (λ j. Spells.several j q p Listed.empty (λ e. cc))))

  empty_call_by : (b : Bool) (name : Written) (r q p c : ℕ) (items : Meant (List Expr)) (us : List Placed) {whole : Bool} {i : ℕ} {fs : List Frame} {ts : List Placed}
      → nat_eq c 0 ≡ b → Below whole i fs ts → Leading dialect scope c us items
      → HoldsNext whole (ts ++ at r (token.Name name) ∷ at q token.Open ∷ (us ++ at p token.Close ∷ []))
      (at_stack fs (cond b (Some (Complete (called name r 0 items))) None))
  empty_call_by false name r q p c items us e w d = tt
  empty_call_by true name r q p c items us {whole = whole} {fs = fs} {ts = ts} e w d =
      let n = leading_none d (eq_true c 0 e) in
      subst (λ items. Holds whole fs (Complete (called name r 0 items)) (ts ++ at r (token.Name name) ∷ at q token.Open ∷ (us ++ at p token.Close ∷ []))) (sym n.1)
      (moved (ap (λ us. ts ++ at r (token.Name name) ∷ at q token.Open ∷ (us ++ at p token.Close ∷ [])) (sym n.0))
      (ends_operand w (λ j. Spells.call j r q p name Listed.empty)))

  close_empty_sound : {whole : Bool} {n : ℕ} {fs : List Frame} {before : List Placed} → Below whole n fs before → (p : ℕ)
      → HoldsNext whole (before ++ at p token.Close ∷ []) (close_empty fs)
  close_empty_sound Below.bottom p = tt
  close_empty_sound (Below.negated i q w g) p = tt
  close_empty_sound (Below.left i q o w d g) p = tt
  close_empty_sound {whole} (Below.group i q {c = c} {items = items} {fs = fs} {ts = ts} {us = us} w d) p =
      moved_next whole _ (simp append_assoc) (empty_group_by (nat_eq c 0) q p c items us refl w d)
  close_empty_sound {whole} (Below.call i q r name {c = c} {items = items} {fs = fs} {ts = ts} {us = us} w d) p =
      moved_next whole _ (simp append_assoc) (empty_call_by (nat_eq c 0) name q r p c items us refl w d)
  close_empty_sound (Below.predicate b q w d) p = tt

  minus_sound : {whole : Bool} {n : ℕ} {frames : List Frame} {before : List Placed} → Below whole n frames before → (p : ℕ) (o : Operator)
      → HoldsNext whole (before ++ at p (token.Operator o) ∷ []) (sign frames o)
  minus_sound {n = n} w p (operator.Binary (bin.Arith op.Sub)) = begins_operand (Below.negated n p w (below_bound w))
  minus_sound w p _ = tt

  operand_sound : {whole : Bool} {n : ℕ} {frames : List Frame} {before : List Placed} → Below whole n frames before → (p : ℕ) (t : Token)
      → HoldsNext whole ((before ++ []) ++ at p t ∷ []) (operand frames p t)
  unfolding operand
  operand_sound {n = n} w p (token.Whole i) = stays_on [] (at p (token.Whole i) ∷ []) (Waits.expression n w) (Behind.in_complete (λ j. Spells.whole j p i))
  operand_sound {n = n} w p (token.Literal text) = stays_on [] (at p (token.Literal text) ∷ []) (Waits.expression n w) (Behind.in_complete (λ j. Spells.literal j p text))
  operand_sound {n = n} w p (token.Name name) = stays_on [] (at p (token.Name name) ∷ []) (Waits.expression n w) (Behind.in_function p name)
  operand_sound {whole} {frames = frames} {before = before} w p (token.Operator o) =
      moved_next whole (sign frames o) (ap (λ ts. ts ++ at p (token.Operator o) ∷ []) (sym (append-nil before))) (minus_sound w p o)
  operand_sound {n = n} w p token.Dollar = stays_on [] (at p token.Dollar ∷ []) (Waits.expression n w) (Behind.in_variable p)
  operand_sound {n = n} {before = before} w p token.Open =
      moved (ap (λ ts. ts ++ at p token.Open ∷ []) (sym (append-nil before))) (begins_operand (Below.group n p w Leading.start))
  operand_sound {whole} {frames = frames} {before = before} w p token.Close =
      moved_next whole (close_empty frames) (ap (λ ts. ts ++ at p token.Close ∷ []) (sym (append-nil before))) (close_empty_sound w p)
  operand_sound {n = n} w p token.Slash = stays_on [] (at p token.Slash ∷ []) (Waits.expression n w) (Behind.in_root false p)
  operand_sound {n = n} w p token.SlashSlash =
      stays_on [] (at p token.SlashSlash ∷ []) (Waits.expression n w) (Behind.in_step (Opening.at_first false link.Deep p deep_ne))
  operand_sound {n = n} w p token.Dot = stays_on [] (at p token.Dot ∷ []) (Waits.expression n w) (Behind.in_above (Parents.here p))
  operand_sound {n = n} w p token.DotDot = stays_on [] (at p token.DotDot ∷ []) (Waits.expression n w) (Behind.in_above (Parents.one p))
  operand_sound {n = n} w p token.At = stays_on [] (at p token.At ∷ []) (Waits.expression n w) (Behind.in_attribute (Owning.of_here p))
  operand_sound w p _ = tt

  variable_sound : {whole : Bool} {frames : List Frame} {before : List Placed} (q : ℕ) → Waits whole false frames before
      → (p : ℕ) (t : Token) → HoldsNext whole ((before ++ at q token.Dollar ∷ []) ++ at p t ∷ []) (at_stack frames (variable scope p t))
  variable_sound q w p (token.Name name) =
      stays_on _ (at p (token.Name name) ∷ []) w (Behind.in_complete (λ n. Spells.variable n q p name))
  variable_sound q w p _ = tt

  function_sound : {whole : Bool} {n : ℕ} {frames : List Frame} {before : List Placed} (q : ℕ) (name : Written) → Below whole n frames before
      → (p : ℕ) (t : Token) → HoldsNext whole ((before ++ at q (token.Name name) ∷ []) ++ at p t ∷ []) (function frames name q t)
  function_sound {n = n} q name w p token.Open = moved (simp append_assoc) (begins_operand (Below.call n q p name w Leading.start))
  function_sound q name w p _ = tt

  turn_sound : {whole b : Bool} {frames : List Frame} {mode : Mode} {before behind : List Placed} → Waits whole b frames before → Behind b mode behind
      → (p : ℕ) (t : Token) → HoldsNext whole ((before ++ behind) ++ at p t ∷ []) (turn dialect scope frames mode p t)
  turn_sound (Waits.expression n w) Behind.in_operand p t = operand_sound w p t
  turn_sound w (Behind.in_variable q) p t = variable_sound q w p t
  turn_sound (Waits.expression n w) (Behind.in_function q name) p t = function_sound q name w p t
  turn_sound w (Behind.in_root b q) p t = root_sound q w p t
  turn_sound w Behind.in_alternative p t = alternative_sound w p t
  turn_sound w (Behind.in_step o) p t = begin_sound w o p t
  turn_sound w (Behind.in_named q name o) p t = named_sound q name w o p t
  turn_sound w (Behind.in_kind q r name {t = kind} o e) p t = kind_sound q r name kind e w o p t
  turn_sound w (Behind.in_target q r u name text o e) p t = target_sound q r u name text e w o p t
  turn_sound w (Behind.in_walked h) p t = walk_sound w h p t
  turn_sound w (Behind.in_attribute o) p t = attribute_sound w o p t
  turn_sound w (Behind.in_above d) p t = above_sound w d p t
  turn_sound w (Behind.in_higher s d) p t = higher_sound s w d p t
  turn_sound (Waits.expression n w) (Behind.in_complete d) p t = complete_sound w _ _ d p t

  pub step_sound : {whole : Bool} {frames : List Frame} {mode : Mode} {ts : List Placed} → Holds whole frames mode ts → (t : Placed)
      → HoldsNext whole (ts ++ t ∷ []) (turn dialect scope frames mode t.at t.token)
  step_sound {whole} h t = moved_next whole _ (ap (λ us. us ++ t ∷ []) (sym h.are)) (turn_sound h.stack h.mode_is t.at t.token)

  run_next : {whole : Bool} {us : List Placed} (ts : List Placed) (next : Next) (s : State) → HoldsNext whole us next
      → ((frames : List Frame) (mode : Mode) → Holds whole frames mode us → run dialect scope ts (in_state frames mode) ≡ Some s → Holds whole s.stack s.mode (us ++ ts))
      → option_and_then (run dialect scope ts) (option_map state_of next) ≡ Some s → Holds whole s.stack s.mode (us ++ ts)
  run_next ts None s h ih e = cc
  run_next ts (Some next) s h ih e = ih next.0 next.1 h e

  pub run_sound : (ts : List Placed) {whole : Bool} {frames : List Frame} {mode : Mode} {us : List Placed} → Holds whole frames mode us
      → (s : State) → run dialect scope ts (in_state frames mode) ≡ Some s → Holds whole s.stack s.mode (us ++ ts)
  unfolding run step
  run_sound [] {whole} {frames} {mode} {us} h s e =
      let same : in_state frames mode ≡ s = cc in
      moved (sym (append-nil us)) (subst (λ s. Holds whole s.stack s.mode us) same h)
  run_sound (t ∷ ts) {whole} {frames} {mode} {us} h s e =
      moved (append_assoc us (t ∷ []) ts)
      (run_next ts (turn dialect scope frames mode t.at t.token) s (step_sound h t) (λ frames mode h e. run_sound ts h s e) e)

  alone_sound : {whole : Bool} {n : ℕ} {fs : List Frame} {before : List Placed} → Below whole n fs before
      → (c : ℕ) (behind : List Placed) (x m : Meant Expr) → n ≤ c → ((j : ℕ) → j ≤ c → Spells dialect scope j behind x)
      → alone scope (fs, x) ≡ Some m → Spells dialect scope 1 (before ++ behind) m
  alone_sound Below.bottom c behind x m f s e = let same : x ≡ m = cc in subst (λ y. Spells dialect scope 1 behind y) same (s 1 f)
  alone_sound (Below.negated i q w g) c behind x m f s e = cc
  alone_sound (Below.left i q o w d g) c behind x m f s e = cc
  alone_sound (Below.group i q w d) c behind x m f s e = cc
  alone_sound (Below.call i q r name w d) c behind x m f s e = cc
  alone_sound (Below.predicate b q w d) c behind x m f s e = cc

  last_sound : {whole : Bool} {n : ℕ} {frames : List Frame} {before : List Placed} → Below whole n frames before
      → (behind : List Placed) (last m : Meant Expr) → Tight behind last → alone scope (gathered 0 frames last) ≡ Some m
      → Spells dialect scope 1 (before ++ behind) m
  last_sound {frames = frames} w behind last m d e =
      let r = gather_sound w 0 7 behind last (lit≤ tt) (omega (arith, below_bound w)) (lit≤ tt) (λ j h. d j) in
      spells_at (sym r.are) (alone_sound r.below r.c r.behind (gathered 0 frames last).1 m r.fits r.spells e)

  -- the stack of a pattern is no expression's
  barred_alone : (all : Meant (List Alternative)) (last m : Meant Expr) {A : Type 0} → alone scope (gathered 0 (Alternatives all ∷ []) last) ≡ Some m → A
  unfolding gathered
  barred_alone all last m e = cc

  expression_ends : {whole b : Bool} {frames : List Frame} {mode : Mode} {before behind : List Placed} → Waits whole b frames before → Behind b mode behind
      → (m : Meant Expr) → option_and_then (λ last. alone scope (gathered 0 frames last)) (last_operand scope mode) ≡ Some m
      → Spells dialect scope 1 (before ++ behind) m
  expression_ends w Behind.in_operand m e = cc
  expression_ends w (Behind.in_variable q) m e = cc
  expression_ends w (Behind.in_function q name) m e = cc
  expression_ends (Waits.expression n w) (Behind.in_root b q) m e = last_sound w _ root m (λ n. Spells.root n q) e
  expression_ends (Waits.pattern {all = all} bars) (Behind.in_root b q) m e = barred_alone all root m e
  expression_ends w Behind.in_alternative m e = cc
  expression_ends w (Behind.in_step o) m e = cc
  expression_ends (Waits.expression n w) (Behind.in_named q name {begun = begun} o) m e =
      last_sound w _ (whole_path (walk_of begun (meaning.element_named scope name q) false)) m (walk_tight (plain_walk o (Test.named q name)) refl) e
  expression_ends (Waits.pattern {all = all} bars) (Behind.in_named q name o) m e = barred_alone all _ m e
  expression_ends w (Behind.in_kind q r name o f) m e = cc
  expression_ends w (Behind.in_target q r u name text o f) m e = cc
  expression_ends (Waits.expression n w) (Behind.in_walked {walk = walk} h) m e = last_sound w _ (whole_path walk) m (walk_tight h (nodes_only h)) e
  expression_ends (Waits.pattern {all = all} bars) (Behind.in_walked h) m e = barred_alone all _ m e
  expression_ends w (Behind.in_attribute o) m e = cc
  expression_ends (Waits.expression n w) (Behind.in_above {n = k} d) m e = last_sound w _ (up k untested) m (above_tight d) e
  expression_ends w (Behind.in_higher s d) m e = cc
  expression_ends (Waits.expression n w) (Behind.in_complete {m = last} d) m e = last_sound w _ last m d e

  pub expression_sound : {whole : Bool} {ts : List Placed} (s : State) → Holds whole s.stack s.mode ts → (m : Meant Expr)
      → end_of_expression scope s ≡ Some m → Spells dialect scope 1 ts m
  unfolding end_of_expression
  expression_sound s h m e = spells_at (sym h.are) (expression_ends h.stack h.mode_is m e)

  below_last : {whole : Bool} {n : ℕ} {fs : List Frame} {ts : List Placed} → Below whole n fs ts → (a : Meant Alternative) → with_last scope fs a ≡ None
  below_last Below.bottom a = refl
  below_last (Below.negated i p w g) a = refl
  below_last (Below.left i p o w d g) a = refl
  below_last (Below.group i q w d) a = refl
  below_last (Below.call i p q name w d) a = refl
  below_last (Below.predicate b q w d) a = refl

  not_last : {whole : Bool} {n : ℕ} {fs : List Frame} {ts : List Placed} → Below whole n fs ts → (a : Meant Alternative) (all : Meant (List Alternative)) {A : Type 0}
      → with_last scope fs a ≡ Some all → A
  not_last {fs = fs} w a all e = let none : with_last scope fs a ≡ None = below_last w a in cc

  last_alternative_sound : {all whole : Meant (List Alternative)} {before behind : List Placed} {a : Meant Alternative} → Barred all before → g.Alternates dialect scope behind a
      → Some (and_also all a) ≡ Some whole → g.Pattern dialect scope (before ++ behind) whole
  last_alternative_sound {all} {whole} {before} {behind} {a} h d e =
      let same : and_also all a ≡ whole = cc in subst (λ v. g.Pattern dialect scope (before ++ behind) v) same (barred_alternative h d)

  pattern_ends : {whole b : Bool} {frames : List Frame} {mode : Mode} {before behind : List Placed} → Waits whole b frames before → Behind b mode behind
      → (all : Meant (List Alternative)) → option_and_then (with_last scope frames) (last_alternative scope mode) ≡ Some all
      → g.Pattern dialect scope (before ++ behind) all
  pattern_ends w Behind.in_operand all e = cc
  pattern_ends w (Behind.in_variable q) all e = cc
  pattern_ends w (Behind.in_function q name) all e = cc
  pattern_ends (Waits.expression n w) (Behind.in_root b q) all e = not_last w _ all e
  pattern_ends (Waits.pattern bars) (Behind.in_root b q) all e = last_alternative_sound bars (g.Alternates.root q) e
  pattern_ends w Behind.in_alternative all e = cc
  pattern_ends w (Behind.in_step o) all e = cc
  pattern_ends (Waits.expression n w) (Behind.in_named q name o) all e = not_last w _ all e
  pattern_ends (Waits.pattern bars) (Behind.in_named q name o) all e = last_alternative_sound bars (walk_alternates (plain_walk o (Test.named q name))) e
  pattern_ends w (Behind.in_kind q r name o f) all e = cc
  pattern_ends w (Behind.in_target q r u name text o f) all e = cc
  pattern_ends (Waits.expression n w) (Behind.in_walked h) all e = not_last w _ all e
  pattern_ends (Waits.pattern bars) (Behind.in_walked h) all e = last_alternative_sound bars (walk_alternates h) e
  pattern_ends w (Behind.in_attribute o) all e = cc
  pattern_ends w (Behind.in_above d) all e = cc
  pattern_ends w (Behind.in_higher s d) all e = cc
  pattern_ends w (Behind.in_complete d) all e = cc

  pub pattern_sound : {whole : Bool} {ts : List Placed} (s : State) → Holds whole s.stack s.mode ts → (all : Meant (List Alternative))
      → end_of_pattern scope s ≡ Some all → g.Pattern dialect scope ts all
  unfolding end_of_pattern
  pattern_sound s h all e = pattern_at (sym h.are) (pattern_ends h.stack h.mode_is all e)

  -- some tokens that begin so are an expression, or a pattern
  abbrev pub Goes : Bool → List Placed → Type 0
  Goes false ts = GoesOn (Spells dialect scope 1) ts
  Goes true ts = GoesOn (g.Pattern dialect scope) ts

  goes_at : (whole : Bool) {ts us : List Placed} → ts ≡ us → Goes whole ts → Goes whole us
  goes_at whole e h = subst (λ ts. Goes whole ts) e h

  goes_front : (whole : Bool) (ts us : List Placed) → Goes whole (ts ++ us) → Goes whole ts
  goes_front false ts us (rest, m, d) = (us ++ rest, m, spells_at (append_assoc ts us rest) d)
  goes_front true ts us (rest, m, d) = (us ++ rest, m, pattern_at (append_assoc ts us rest) d)

  barred_goes : {all : Meant (List Alternative)} {before : List Placed} → Barred all before → (behind : List Placed) (a : Meant Alternative)
      → g.Alternates dialect scope behind a → Goes true (before ++ behind)
  barred_goes {all} {before} h behind a d = ([], and_also all a, pattern_at (sym (append-nil (before ++ behind))) (barred_alternative h d))

  bracketed : (b : Bool) (q p c : ℕ) {us behind : List Placed} {items : Meant (List Expr)} {x : Meant Expr} → nat_eq c 0 ≡ b → Leading dialect scope c us items → Spells dialect scope 1 behind x
      → (n : ℕ) → (m : Meant Expr) × Spells dialect scope n (at q token.Open ∷ ((us ++ behind) ++ at p token.Close ∷ [])) m
  bracketed true q p c {us} {behind} {items} {x} e d s n =
      let none = leading_none d (eq_true c 0 e) in
      (x, spells_at (ap (λ us. at q token.Open ∷ ((us ++ behind) ++ at p token.Close ∷ [])) (sym none.0)) (Spells.single n q p s))
  bracketed false q p c {us} {behind} {items} {x} e d s n = (seq (and_also items x), Spells.several n q p (Listed.last d s) (not_one c e))

  mutual
    -- an operand completes what waits for it
    pub fill : {whole : Bool} {n : ℕ} {fs : List Frame} {ts : List Placed} → Below whole n fs ts → (us : List Placed) (x : Meant Expr) → Spells dialect scope n us x
        → Goes whole (ts ++ us)
    fill Below.bottom us x s = ([], x, spells_at (sym (append-nil us)) s)
    fill {whole} (Below.negated i p {ts = ts} w g) us x s =
        goes_at whole (sym (append_assoc ts (at p minus ∷ []) us)) (fill w (at p minus ∷ us) (neg x) (Spells.negated i p g s))
    fill {whole} (Below.left i p o {x = y} {us = front} w d g) us x s =
        goes_at whole (simp append_assoc) (fill w (front ++ at p (token.Operator o) ∷ us) (operated o p y x) (Spells.operation i p o g d s))
    fill {whole} (Below.group i q {c = c} {us = front} w d) us x s =
        let all = bracketed (nat_eq c 0) q 0 c refl d s i in
        goes_front whole _ (at 0 token.Close ∷ []) (goes_at whole (simp append_assoc) (fill w _ all.0 all.1))
    fill {whole} (Below.call i p q name {c = c} {items = items} {us = front} w d) us x s =
        goes_front whole _ (at 0 token.Close ∷ [])
        (goes_at whole (simp append_assoc) (fill w _ (called name p (c + 1) (and_also items x)) (Spells.call i p q 0 name (Listed.last d s))))
    fill {whole} (Below.predicate b q w d) us x s =
        goes_front whole _ (at 0 token.ClosePredicate ∷ []) (goes_at whole (simp append_assoc) (fill_path w (filtered_walk d q 0 us x s)))

    pub fill_path : {whole b : Bool} {fs : List Frame} {ts us : List Placed} {walk : Walk} → Waits whole b fs ts → Walking b walk us → Goes whole (ts ++ us)
    fill_path {walk = walk} (Waits.expression n w) h = fill w _ (whole_path walk) (walk_tight h (nodes_only h) n)
    fill_path {walk = walk} (Waits.pattern bars) h = barred_goes bars _ (whole_alternative walk) (walk_alternates h)

  any_name : Written
  any_name = record { prefix = []; local = [] }

  owner_goes : {whole b : Bool} {frames : List Frame} {before behind : List Placed} {whose : Owner} → Waits whole b frames before → Owning b whose behind
      → Goes whole ((before ++ behind) ++ at 0 token.Star ∷ [])
  owner_goes {whole} (Waits.expression n w) (Owning.of_here a) =
      goes_at whole (simp append_assoc) (fill w (at a token.At ∷ at 0 token.Star ∷ []) _ (Spells.attributes n (AttrTest.any a 0)))
  owner_goes {whole} (Waits.expression n w) (Owning.of_above s a d) =
      goes_at whole (simp append_assoc) (fill w _ _ (Spells.above n d (Ending.attributes s (AttrTest.any a 0))))
  owner_goes {whole} (Waits.expression n w) (Owning.of_path l s a ne d) =
      goes_at whole (simp append_assoc) (fill w _ _ (Spells.absolute n ne d (Ending.attributes s (AttrTest.any a 0))))
  owner_goes {whole} w (Owning.of_last a o) =
      goes_at whole (simp (append_assoc, append-nil)) (fill_path w (Walking.attributes o (AttrTest.any a 0) Predicates.unfiltered))

  mode_goes : {whole b : Bool} {frames : List Frame} {mode : Mode} {before behind : List Placed} → Waits whole b frames before → Behind b mode behind
      → Goes whole (before ++ behind)
  mode_goes {whole} (Waits.expression n w) Behind.in_operand =
      goes_front whole _ (at 0 (token.Whole (pos 0)) ∷ [])
      (goes_at whole (simp append_assoc) (fill w (at 0 (token.Whole (pos 0)) ∷ []) _ (Spells.whole n 0 (pos 0))))
  mode_goes {whole} (Waits.expression n w) (Behind.in_variable q) =
      goes_front whole _ (at 0 (token.Name any_name) ∷ [])
      (goes_at whole (simp append_assoc) (fill w (at q token.Dollar ∷ at 0 (token.Name any_name) ∷ []) _ (Spells.variable n q 0 any_name)))
  mode_goes {whole} (Waits.expression n w) (Behind.in_function q name) =
      goes_front whole _ (at 0 token.Open ∷ at 0 token.Close ∷ [])
      (goes_at whole (simp append_assoc) (fill w (at q (token.Name name) ∷ at 0 token.Open ∷ at 0 token.Close ∷ []) _ (Spells.call n q 0 0 name Listed.empty)))
  mode_goes (Waits.expression n w) (Behind.in_root b q) = fill w _ root (Spells.root n q)
  mode_goes (Waits.pattern bars) (Behind.in_root b q) = barred_goes bars _ _ (g.Alternates.root q)
  mode_goes {whole} (Waits.pattern bars) Behind.in_alternative =
      goes_front true _ (at 0 token.Slash ∷ []) (goes_at true (simp append_assoc) (barred_goes bars (at 0 token.Slash ∷ []) _ (g.Alternates.root 0)))
  mode_goes {whole} w (Behind.in_step o) =
      goes_front whole _ (at 0 token.Star ∷ []) (goes_at whole (simp append_assoc) (fill_path w (plain_walk o (Test.any 0))))
  mode_goes w (Behind.in_named q name o) = fill_path w (plain_walk o (Test.named q name))
  mode_goes {whole} w (Behind.in_kind q r name {t = t} o f) =
      goes_front whole _ (at 0 token.Close ∷ []) (goes_at whole (simp append_assoc) (fill_path w (plain_walk o (Test.type q r 0 name t f))))
  mode_goes {whole} w (Behind.in_target q r u name text o f) =
      goes_front whole _ (at 0 token.Close ∷ []) (goes_at whole (simp append_assoc) (fill_path w (plain_walk o (Test.target q r u 0 name text f))))
  mode_goes w (Behind.in_walked h) = fill_path w h
  mode_goes {whole} w (Behind.in_attribute o) = goes_front whole _ (at 0 token.Star ∷ []) (owner_goes w o)
  mode_goes (Waits.expression n w) (Behind.in_above d) = fill w _ _ (above_tight d n)
  mode_goes {whole} (Waits.expression n w) (Behind.in_higher s d) =
      goes_front whole _ (at 0 token.At ∷ at 0 token.Star ∷ [])
      (goes_at whole (simp append_assoc) (fill w _ _ (Spells.above n d (Ending.attributes s (AttrTest.any 0 0)))))
  mode_goes (Waits.expression n w) (Behind.in_complete d) = fill w _ _ (d n)

  pub goes_on : {whole : Bool} {frames : List Frame} {mode : Mode} {ts : List Placed} → Holds whole frames mode ts → Goes whole ts
  goes_on {whole} h = goes_at whole (sym h.are) (mode_goes h.stack h.mode_is)

  pub expression_begins : Holds false [] Operand []
  expression_begins = begins_operand Below.bottom

  pub pattern_begins : Holds true (Alternatives none ∷ []) AlternativeBegins []
  pattern_begins = record { in_pattern = true; before = []; behind = []; stack = Waits.pattern Barred.start; mode_is = Behind.in_alternative; are = refl }
