-- The tokens of a derivation lead the machine to what they mean.
use Rattle.std.proofs.Common.{◌≡◌, ◌≢◌, ℕ, zero, suc, ◌+◌, ◌≤◌, ◌<◌, Bool, true, false, cond, nat_le, nat_eq, List, [], ◌∷◌, ◌++◌, Some, None, Option, ◌∙◌, refl, ap, arith, subst, lit≤, lit<}
use Rattle.std.specs.Option.{option_map, option_and_then}
use Rattle.std.proofs.lemmas.Bool.{false≢true}
use Rattle.std.proofs.lemmas.Bool.Decides.{nat_tests}
use Rattle.stx_base.specs.declared.name.Binding.{Binding}
use Rattle.stx_base.specs.declared.node.NodeTest.{NodeTest}
use Rattle.stx_base.specs.declared.node.NodeTest.TheVariants as test
use Rattle.stxpath_syntax.specs.declared.dialect.Dialect.{Dialect}
use Rattle.stxpath_syntax.specs.declared.expr.Alternative.{Alternative}
use Rattle.stxpath_syntax.specs.declared.expr.Expr.{Expr}
use Rattle.stxpath_syntax.specs.declared.expr.Link.{Link}
use Rattle.stxpath_syntax.specs.declared.expr.Link.TheVariants as link
use Rattle.stxpath_syntax.specs.declared.expr.PathStep.{PathStep}
use Rattle.stxpath_syntax.specs.declared.meant.Meant.{Meant}
use Rattle.stxpath_syntax.specs.declared.state.Begun.{Begun}
use Rattle.stxpath_syntax.specs.declared.state.Frame.{Frame}
use Rattle.stxpath_syntax.specs.declared.state.Frame.TheVariants.{Negated, Left, Group, Call, Predicate, Alternatives}
use Rattle.stxpath_syntax.specs.declared.state.Mode.{Mode}
use Rattle.stxpath_syntax.specs.declared.state.Owner.{Owner}
use Rattle.stxpath_syntax.specs.declared.state.Owner.TheVariants as owner
use Rattle.stxpath_syntax.specs.declared.state.Mode.TheVariants.{Attribute, Operand, Root, Alternative as AlternativeBegins, Step, Kind, Named as AfterName, Walked, Above, Higher, Complete}
use Rattle.stxpath_syntax.specs.declared.state.State.{State}
use Rattle.stxpath_syntax.specs.declared.state.Walk.{Walk}
use Rattle.stxpath_syntax.specs.declared.token.Operator.{Operator}
use Rattle.stxpath_syntax.specs.declared.token.Operator.TheVariants as operator
use Rattle.stxpath_syntax.specs.declared.token.Placed.{Placed}
use Rattle.stxpath_syntax.specs.declared.token.Token.{Token}
use Rattle.stxpath_syntax.specs.declared.token.Token.TheVariants as token
use Rattle.stxpath_syntax.specs.declared.expr.Bin.TheVariants as bin
use Rattle.stx_base.specs.declared.expression.Op.TheVariants as op
use Rattle.stxpath_syntax.specs.declared.token.Written.{Written}
use Rattle.stxpath_syntax.specs.Grammar as g
use Rattle.stxpath_syntax.specs.Grammar.{at, minus, level, left_level, link_tokens, Test, AttrTest, Ending, Parents, Spells, Leading, Listed, Predicates, Steps}
use Rattle.stxpath_syntax.specs.Meaning.{none, flat, neg, operated, and_also, seq, root, untested, some, up, abs, called}
use Rattle.stxpath_syntax.specs.Meaning as meaning
use Rattle.stxpath_syntax.specs.Machine.{binds, gathered, is_pattern, is_beside, completed, opened, separated, separate, close, close_predicate, wait, complete, first, operand, walk_of, all_steps, whole_path, walk_on, begins_step, begin_step, at_stack, owned, after_root, begin_alternative, named_walk, after_name, turn, run, whole_alternative, last_alternative, with_last, end_of_pattern, last_operand, alone, end_of_expression}
use Rattle.stxpath_syntax.proofs.Gathering.{gathered_bound, gathered_loose}
use Rattle.stxpath_syntax.proofs.Running.{in_state, Leads, stays, then, begins_with, one}

-- an operand of this level may begin on the stack: nothing there binds so tightly
abbrev pub Fits : ℕ → List Frame → Type 0
Fits n [] = Unit {0}
Fits n (Negated ∷ frames) = 5 < n
Fits n (Left x o p ∷ frames) = level o < n
Fits n (Group items count ∷ frames) = Unit {0}
Fits n (Call name p items count ∷ frames) = Unit {0}
Fits n (Predicate walk ∷ frames) = Unit {0}
Fits n (Alternatives all ∷ frames) = ⊥

pub fits_more : (n k : ℕ) (frames : List Frame) → n ≤ k → Fits n frames → Fits k frames
fits_more n k [] l f = tt
fits_more n k (Negated ∷ frames) l f = omega arith
fits_more n k (Left x o p ∷ frames) l f = omega arith
fits_more n k (Group items count ∷ frames) l f = tt
fits_more n k (Call name p items count ∷ frames) l f = tt
fits_more n k (Predicate walk ∷ frames) l f = tt
fits_more n k (Alternatives all ∷ frames) l f = f

pub no_pattern : (n : ℕ) (frames : List Frame) → Fits n frames → is_pattern frames ≡ false
no_pattern n [] f = refl
no_pattern n (Negated ∷ frames) f = refl
no_pattern n (Left x o p ∷ frames) f = refl
no_pattern n (Group items count ∷ frames) f = refl
no_pattern n (Call name p items count ∷ frames) f = refl
no_pattern n (Predicate walk ∷ frames) f = refl
no_pattern n (Alternatives all ∷ frames) f = absurd f

not_le : (n k : ℕ) → k < n → nat_le n k ≡ false
not_le n k l = grind (arith, nat_tests)

is_le : (n k : ℕ) → n ≤ k → nat_le n k ≡ true
is_le n k l = grind (arith, nat_tests)

not_eq : (n k : ℕ) → k < n → nat_eq k n ≡ false
not_eq n k l = grind (arith, nat_tests)

pub stops : (n k : ℕ) (frames : List Frame) (x : Meant Expr) → Fits n frames → n ≤ k → k ≤ 5 → gathered k frames x ≡ (frames, x)
unfolding gathered
stops n k [] x f l h = refl
stops n k (Negated ∷ frames) x f l h = absurd (omega arith)
stops n k (Left y o p ∷ frames) x f l h = gathered_loose k (Left y o p) frames x (not_le k (level o) (omega arith))
stops n k (Group items count ∷ frames) x f l h = refl
stops n k (Call name p items count ∷ frames) x f l h = refl
stops n k (Predicate walk ∷ frames) x f l h = refl
stops n k (Alternatives all ∷ frames) x f l h = absurd f

pub not_beside : (n : ℕ) (o : Operator) (frames : List Frame) → Fits n frames → n ≤ level o → is_beside o frames ≡ false
not_beside n o [] f l = refl
not_beside n o (Negated ∷ frames) f l = refl
not_beside n o (Left y other p ∷ frames) f l = not_eq (level o) (level other) (omega arith)
not_beside n o (Group items count ∷ frames) f l = refl
not_beside n o (Call name p items count ∷ frames) f l = refl
not_beside n o (Predicate walk ∷ frames) f l = refl
not_beside n o (Alternatives all ∷ frames) f l = absurd f

-- how tightly operators bind
pub level_bounds : (o : Operator) → (level o ≤ left_level o) × (left_level o ≤ 5) × (1 ≤ level o)
level_bounds (operator.Binary bin.Or) = (lit≤ tt, lit≤ tt, lit≤ tt)
level_bounds (operator.Binary bin.And) = (lit≤ tt, lit≤ tt, lit≤ tt)
level_bounds (operator.Binary (bin.Compare cmp)) = (lit≤ tt, lit≤ tt, lit≤ tt)
level_bounds (operator.Binary (bin.Arith op.Add)) = (lit≤ tt, lit≤ tt, lit≤ tt)
level_bounds (operator.Binary (bin.Arith op.Sub)) = (lit≤ tt, lit≤ tt, lit≤ tt)
level_bounds (operator.Binary (bin.Arith op.Mul)) = (lit≤ tt, lit≤ tt, lit≤ tt)
level_bounds (operator.Binary (bin.Arith op.Idiv)) = (lit≤ tt, lit≤ tt, lit≤ tt)
level_bounds (operator.Binary (bin.Arith op.Mod)) = (lit≤ tt, lit≤ tt, lit≤ tt)
level_bounds operator.Div = (lit≤ tt, lit≤ tt, lit≤ tt)

-- a token that can follow an operand
abbrev pub follows : Token → Bool
follows (token.Operator o) = true
follows token.Close = true
follows token.Comma = true
follows token.ClosePredicate = true
follows _ = false

-- a frame of brackets, by the expressions in them and their number
pub record IsBracket (b : Meant (List Expr) → ℕ → Frame) : Type 0 where
  pub is_loose : (k : ℕ) (items : Meant (List Expr)) (count : ℕ) → binds k (b items count) ≡ false
  pub is_fit : (n : ℕ) (items : Meant (List Expr)) (count : ℕ) (frames : List Frame) → Fits n (b items count ∷ frames)
  pub goes_on : (items : Meant (List Expr)) (count : ℕ) (last : Meant Expr) → separated (b items count) last ≡ Some (b (and_also items last) (count + 1))

pub group_is_bracket : IsBracket Group
group_is_bracket = record { is_loose = λ k items count. refl; is_fit = λ n items count frames. tt; goes_on = λ items count last. refl }

pub call_is_bracket : (name : Written) (p : ℕ) → IsBracket (Call name p)
call_is_bracket name p = record { is_loose = λ k items count. refl; is_fit = λ n items count frames. tt; goes_on = λ items count last. refl }

module _ (dialect : Dialect) (scope : List Binding) where
  -- a state in which an operand has ended that was begun on these frames
  pub record Ended (frames : List Frame) (n : ℕ) (m : Meant Expr) (s : State) : Type 0 where
    pub last : Meant Expr
    pub is_last : last_operand scope s.mode ≡ Some last
    pub goes_on : (p : ℕ) (t : Token) → follows t ≡ true → turn dialect scope s.stack s.mode p t ≡ complete s.stack last p t
    pub gathers : (k : ℕ) → k ≤ n → gathered k s.stack last ≡ gathered k frames m

  -- the tokens lead from a mode to the end of an operand
  pub record Completes (ts : List Placed) (frames : List Frame) (mode : Mode) (n : ℕ) (m : Meant Expr) : Type 0 where
    pub end : State
    pub leads : Leads dialect scope ts (in_state frames mode) end
    pub ended : Ended frames n m end

  pub ended_complete : (frames : List Frame) (n : ℕ) (m : Meant Expr) → Ended frames n m (in_state frames (Complete m))
  ended_complete frames n m = record { last = m; is_last = refl; goes_on = λ p t f. refl; gathers = λ k l. refl }

  root_follows : (frames : List Frame) (p : ℕ) (t : Token) → is_pattern frames ≡ false → follows t ≡ true
      → after_root scope frames p t ≡ complete frames root p t
  unfolding after_root
  root_follows frames p (token.Operator o) e f = rw e refl
  root_follows frames p token.Close e f = rw e refl
  root_follows frames p token.Comma e f = rw e refl
  root_follows frames p token.ClosePredicate e f = rw e refl
  root_follows frames p _ e f = absurd (false≢true f)

  pub ended_root : (frames : List Frame) (n : ℕ) → Fits n frames → Ended frames n root (in_state frames Root)
  ended_root frames n f = record {
    last = root;
    is_last = refl;
    goes_on = λ p t h. root_follows frames p t (no_pattern n frames f) h;
    gathers = λ k l. refl;
  }

  above_follows : (frames : List Frame) (n p : ℕ) (t : Token) → follows t ≡ true
      → turn dialect scope frames (Above n) p t ≡ complete frames (up n untested) p t
  above_follows frames n p (token.Operator o) f = refl
  above_follows frames n p token.Close f = refl
  above_follows frames n p token.Comma f = refl
  above_follows frames n p token.ClosePredicate f = refl
  above_follows frames n p _ f = absurd (false≢true f)

  pub ended_above : (frames : List Frame) (n k : ℕ) → Ended frames n (up k untested) (in_state frames (Above k))
  ended_above frames n k = record {
    last = up k untested;
    is_last = refl;
    goes_on = λ p t h. above_follows frames k p t h;
    gathers = λ k l. refl;
  }

  -- a mode in which a step of these may have ended
  pub data IsWalked : Mode → Walk → Type 0 where
    walked : (w : Walk) → IsWalked (Walked w) w
    named : (begun : Begun) (name : Written) (p : ℕ)
        → IsWalked (AfterName (record { begun = begun; name = name; at = p })) (named_walk scope (record { begun = begun; name = name; at = p }))

  walk_follows : (frames : List Frame) (w : Walk) (p : ℕ) (t : Token) → is_pattern frames ≡ false → follows t ≡ true
      → walk_on frames w p t ≡ complete frames (whole_path w) p t
  unfolding walk_on
  walk_follows frames w p (token.Operator o) e f = rw e refl
  walk_follows frames w p token.Close e f = rw e refl
  walk_follows frames w p token.Comma e f = rw e refl
  walk_follows frames w p token.ClosePredicate e f = rw e refl
  walk_follows frames w p _ e f = absurd (false≢true f)

  name_follows : (frames : List Frame) (begun : Begun) (name : Written) (q p : ℕ) (t : Token) → is_pattern frames ≡ false → follows t ≡ true
      → after_name dialect scope frames (record { begun = begun; name = name; at = q }) p t
      ≡ complete frames (whole_path (named_walk scope (record { begun = begun; name = name; at = q }))) p t
  unfolding walk_on after_name
  name_follows frames begun name q p (token.Operator o) e f = rw e refl
  name_follows frames begun name q p token.Close e f = rw e refl
  name_follows frames begun name q p token.Comma e f = rw e refl
  name_follows frames begun name q p token.ClosePredicate e f = rw e refl
  name_follows frames begun name q p _ e f = absurd (false≢true f)

  pub ended_walk : (frames : List Frame) (n : ℕ) {mode : Mode} {w : Walk} → Fits n frames → IsWalked mode w → Ended frames n (whole_path w) (in_state frames mode)
  ended_walk frames n f (walked w) = record {
    last = whole_path w;
    is_last = refl;
    goes_on = λ p t h. walk_follows frames w p t (no_pattern n frames f) h;
    gathers = λ k l. refl;
  }
  ended_walk frames n f (named begun name q) = record {
    last = whole_path (named_walk scope (record { begun = begun; name = name; at = q }));
    is_last = refl;
    goes_on = λ p t h. name_follows frames begun name q p t (no_pattern n frames f) h;
    gathers = λ k l. refl;
  }

  completes_at_once : {ts : List Placed} {frames : List Frame} {mode : Mode} (n : ℕ) {m : Meant Expr}
      → Leads dialect scope ts (in_state frames mode) (in_state frames (Complete m)) → Completes ts frames mode n m
  completes_at_once {ts} {frames} {mode} n {m} l = record { end = in_state frames (Complete m); leads = l; ended = ended_complete frames n m }

  -- what is gathered where an operand has ended in brackets
  at_bracket : {frames : List Frame} {f : Frame} {m : Meant Expr} {s : State} (e : Ended (f ∷ frames) 1 m s) → binds 0 f ≡ false
      → gathered 0 s.stack e.last ≡ (f ∷ frames, m)
  at_bracket {frames} {f} {m} {s} e b = e.gathers 0 (lit≤ tt) ∙ gathered_loose 0 f frames m b

  closes : {frames : List Frame} {f : Frame} {m : Meant Expr} {s : State} (e : Ended (f ∷ frames) 1 m s) → binds 0 f ≡ false → (p : ℕ)
      → turn dialect scope s.stack s.mode p token.Close ≡ close (f ∷ frames, m)
  unfolding complete
  closes e b p = e.goes_on p token.Close refl ∙ ap close (at_bracket e b)

  separates : {frames : List Frame} {f : Frame} {m : Meant Expr} {s : State} (e : Ended (f ∷ frames) 1 m s) → binds 0 f ≡ false → (p : ℕ)
      → turn dialect scope s.stack s.mode p token.Comma ≡ separate (f ∷ frames, m)
  unfolding complete
  separates e b p = e.goes_on p token.Comma refl ∙ ap separate (at_bracket e b)

  filters : {frames : List Frame} {f : Frame} {m : Meant Expr} {s : State} (e : Ended (f ∷ frames) 1 m s) → binds 0 f ≡ false → (p : ℕ)
      → turn dialect scope s.stack s.mode p token.ClosePredicate ≡ close_predicate (f ∷ frames, m)
  unfolding complete
  filters e b p = e.goes_on p token.ClosePredicate refl ∙ ap close_predicate (at_bracket e b)

  -- a mode in which a step of a path may begin
  abbrev pub Begins : List Frame → Begun → Mode → Type 0
  Begins frames begun mode = (p : ℕ) (t : Token) → begins_step false t ≡ true → turn dialect scope frames mode p t ≡ begin_step scope frames begun p t

  -- the tokens lead from a mode to the end of a step
  pub record Walks (ts : List Placed) (frames : List Frame) (mode : Mode) (w : Walk) : Type 0 where
    pub end : Mode
    pub leads : Leads dialect scope ts (in_state frames mode) (in_state frames end)
    pub is_walked : IsWalked end w

  pub complete_test : {ts : List Placed} {t : Meant NodeTest} → Test dialect scope ts t → (frames : List Frame) (begun : Begun) (mode : Mode)
      → Begins frames begun mode → Walks ts frames mode (walk_of begun t false)
  unfolding begin_step after_name
  complete_test (Test.named p name) frames begun mode b = record {
    end = AfterName (record { begun = begun; name = name; at = p });
    leads = one dialect scope (at p (token.Name name)) (b p (token.Name name) refl);
    is_walked = named begun name p;
  }
  complete_test (Test.within p prefix) frames begun mode b = record {
    end = Walked (walk_of begun (meaning.element_within scope prefix p) false);
    leads = one dialect scope (at p (token.Within prefix)) (b p (token.Within prefix) refl);
    is_walked = walked _;
  }
  complete_test (Test.any p) frames begun mode b = record {
    end = Walked (walk_of begun (flat test.AnyElement) false);
    leads = one dialect scope (at p token.Star) (b p token.Star refl);
    is_walked = walked _;
  }
  complete_test (Test.type p o c name t e) frames begun mode b = record {
    end = Walked (walk_of begun (flat t) false);
    leads = begins_with dialect scope (at p (token.Name name)) (b p (token.Name name) refl)
        (begins_with dialect scope (at o token.Open) (ap (λ found. at_stack frames (option_map (Kind begun) found)) e) (one dialect scope (at c token.Close) refl));
    is_walked = walked _;
  }
  complete_test (Test.target p o q c name text e) frames begun mode b = record {
    end = Walked (walk_of begun (flat (test.Pi text)) false);
    leads = begins_with dialect scope (at p (token.Name name)) (b p (token.Name name) refl)
        (begins_with dialect scope (at o token.Open) (ap (λ found. at_stack frames (option_map (Kind begun) found)) e)
        (begins_with dialect scope (at q (token.Literal text)) refl (one dialect scope (at c token.Close) refl)));
    is_walked = walked _;
  }

  pub attr_leads : {ts : List Placed} {t : Meant NodeTest} → AttrTest scope ts t → (frames : List Frame) (mode : Mode) (whose : Owner)
      → ((a : ℕ) → turn dialect scope frames mode a token.At ≡ Some (frames, Attribute whose))
      → Leads dialect scope ts (in_state frames mode) (in_state frames (owned whose t))
  attr_leads (AttrTest.named a p name) frames mode whose h = begins_with dialect scope (at a token.At) (h a) (one dialect scope (at p (token.Name name)) refl)
  attr_leads (AttrTest.within a p prefix) frames mode whose h = begins_with dialect scope (at a token.At) (h a) (one dialect scope (at p (token.Within prefix)) refl)
  attr_leads (AttrTest.any a p) frames mode whose h = begins_with dialect scope (at a token.At) (h a) (one dialect scope (at p token.Star) refl)

  pub not_zero : (n : ℕ) → n ≢ 0 → nat_eq n 0 ≡ false
  not_zero zero ne = absurd (ne refl)
  not_zero (suc n) ne = grind (arith, nat_tests)

  pub parents_lead : {ts : List Placed} {k : ℕ} → Parents scope ts k → (frames : List Frame) → Leads dialect scope ts (in_state frames Operand) (in_state frames (Above k))
  unfolding operand
  parents_lead (Parents.here p) frames = one dialect scope (at p token.Dot) refl
  parents_lead (Parents.one p) frames = one dialect scope (at p token.DotDot) refl
  parents_lead (Parents.further s p {n = n} d ne) frames =
      then dialect scope (parents_lead d frames)
      (begins_with dialect scope (at s token.Slash) refl (one dialect scope (at p token.DotDot) (ap (λ b. at_stack frames (cond b None (Some (Above (n + 1))))) (not_zero n ne))))

  ending_above : {us : List Placed} {t : Meant (Option NodeTest)} → Ending scope us t → (frames : List Frame) (n k : ℕ) → Completes us frames (Above k) n (up k t)
  ending_above Ending.without frames n k = record { end = in_state frames (Above k); leads = stays dialect scope _; ended = ended_above frames n k }
  ending_above (Ending.attributes s d) frames n k =
      completes_at_once n (begins_with dialect scope (at s token.Slash) refl (attr_leads d frames (Higher k) (owner.Above k) (λ a. refl)))

  abbrev begun_of : Meant (List PathStep) → Link → Bool → Begun
  begun_of steps link is_first = record { steps = steps; link = link; is_first = is_first }

  slash_turn : {mode : Mode} {w : Walk} → IsWalked mode w → (frames : List Frame) (p : ℕ) → w.is_attribute ≡ false
      → turn dialect scope frames mode p token.Slash ≡ Some (frames, Step (begun_of (all_steps w) link.Slash false))
  unfolding walk_on after_name
  slash_turn (walked w) frames p e = rw e refl
  slash_turn (named begun name q) frames p e = refl

  deep_turn : {mode : Mode} {w : Walk} → IsWalked mode w → (frames : List Frame) (p : ℕ) → w.is_attribute ≡ false
      → turn dialect scope frames mode p token.SlashSlash ≡ Some (frames, Step (begun_of (all_steps w) link.Deep false))
  unfolding walk_on after_name
  deep_turn (walked w) frames p e = rw e refl
  deep_turn (named begun name q) frames p e = refl

  filter_turn : {mode : Mode} {w : Walk} → IsWalked mode w → (frames : List Frame) (p : ℕ)
      → turn dialect scope frames mode p token.OpenPredicate ≡ Some (Predicate w ∷ frames, Operand)
  unfolding walk_on after_name
  filter_turn (walked w) frames p = refl
  filter_turn (named begun name q) frames p = refl

  attribute_turn : (frames : List Frame) (steps : Meant (List PathStep)) (a : ℕ) → is_pattern frames ≡ false
      → turn dialect scope frames (Step (begun_of steps link.Slash false)) a token.At ≡ Some (frames, Attribute (owner.Path steps))
  unfolding begin_step
  attribute_turn frames steps a e = rw e refl

  ending_walk : {us : List Placed} {t : Meant (Option NodeTest)} → Ending scope us t → (frames : List Frame) (n : ℕ) {mode : Mode} {w : Walk}
      → Fits n frames → IsWalked mode w → w.is_attribute ≡ false → Completes us frames mode n (abs (all_steps w) t)
  ending_walk Ending.without frames n {mode} f i e = record { end = in_state frames mode; leads = stays dialect scope _; ended = ended_walk frames n f i }
  ending_walk (Ending.attributes s d) frames n {mode} {w} f i e =
      completes_at_once n (begins_with dialect scope (at s token.Slash) (slash_turn i frames s e)
      (attr_leads d frames _ (owner.Path (all_steps w)) (λ a. attribute_turn frames (all_steps w) a (no_pattern n frames f))))

  -- a mode behind which a link may stand, and then a step
  abbrev pub Linked : List Frame → Begun → Mode → Type 0
  Linked frames begun mode =
      (p : ℕ) → (m : Mode) × Leads dialect scope (link_tokens begun.link p) (in_state frames mode) (in_state frames m) × Begins frames begun m

  begins_root : (frames : List Frame) (p : ℕ) (t : Token) → begins_step false t ≡ true
      → turn dialect scope frames Root p t ≡ begin_step scope frames (first link.Slash) p t
  unfolding after_root
  begins_root frames p (token.Name name) h = refl
  begins_root frames p (token.Within prefix) h = refl
  begins_root frames p token.Star h = refl
  begins_root frames p _ h = absurd (false≢true h)

  pub linked_operand : (l : Link) (frames : List Frame) → l ≢ link.Start → Linked frames (first l) Operand
  unfolding operand
  linked_operand link.Start frames ne = absurd (ne refl)
  linked_operand link.Slash frames ne = λ p. (Root, one dialect scope (at p token.Slash) refl, begins_root frames)
  linked_operand link.Deep frames ne = λ p. (Step (first link.Deep), one dialect scope (at p token.SlashSlash) refl, λ q t h. refl)

  linked_next : (l : Link) (frames : List Frame) {mode : Mode} {w : Walk} → l ≢ link.Start → IsWalked mode w → w.is_attribute ≡ false
      → Linked frames (begun_of (all_steps w) l false) mode
  linked_next link.Start frames ne i e = absurd (ne refl)
  linked_next link.Slash frames ne i e = λ p. (Step _, one dialect scope (at p token.Slash) (slash_turn i frames p e), λ q t h. refl)
  linked_next link.Deep frames ne i e = λ p. (Step _, one dialect scope (at p token.SlashSlash) (deep_turn i frames p e), λ q t h. refl)

  -- the tokens lead from a mode to the end of these steps
  pub record Stepped (ts : List Placed) (frames : List Frame) (mode : Mode) (steps : Meant (List PathStep)) : Type 0 where
    pub end : Mode
    pub walk : Walk
    pub leads : Leads dialect scope ts (in_state frames mode) (in_state frames end)
    pub is_walked : IsWalked end walk
    pub are : all_steps walk ≡ steps
    pub is_plain : walk.is_attribute ≡ false

  abbrev with_all : Begun → Meant NodeTest → Bool → Meant (List Expr) → Walk
  with_all begun t a es = record { steps = begun.steps; link = begun.link; test = t; predicates = es; is_attribute = a }

  -- an operator behind its left operand
  waits : (n p : ℕ) (o : Operator) (frames : List Frame) (x : Meant Expr) (s : State) (e : Ended frames (left_level o) x s) → Fits n frames → n ≤ level o
      → turn dialect scope s.stack s.mode p (token.Operator o) ≡ Some (Left x o p ∷ frames, Operand)
  unfolding complete
  waits n p o frames x s e f l =
      let bounds = level_bounds o in
      let all : gathered (left_level o) s.stack e.last ≡ (frames, x)
      = e.gathers (left_level o) (omega arith) ∙ stops n (left_level o) frames x f (omega (arith, l, bounds.0)) bounds.1 in
      e.goes_on p (token.Operator o) refl ∙ ap (wait o p) all
      ∙ ap (λ b. cond b None (Some (Left x o p ∷ frames, Operand))) (not_beside n o frames f l)

  mutual
    unfolding operand

    pub complete_spells : {n : ℕ} {ts : List Placed} {m : Meant Expr} → Spells dialect scope n ts m → (frames : List Frame) → Fits n frames
        → Completes ts frames Operand n m
    complete_spells (Spells.whole n p i) frames f = completes_at_once n (one dialect scope (at p (token.Whole i)) refl)
    complete_spells (Spells.literal n p text) frames f = completes_at_once n (one dialect scope (at p (token.Literal text)) refl)
    complete_spells (Spells.variable n d p name) frames f =
        completes_at_once n (begins_with dialect scope (at d token.Dollar) refl (one dialect scope (at p (token.Name name)) refl))
    complete_spells (Spells.call n p o c name d) frames f =
        completes_at_once n (begins_with dialect scope (at p (token.Name name)) refl (begins_with dialect scope (at o token.Open) refl (closes_call d name p c frames)))
    complete_spells (Spells.single n o c d) frames f =
        let inner = complete_spells d (Group none 0 ∷ frames) tt in
        completes_at_once n (begins_with dialect scope (at o token.Open) refl (then dialect scope inner.leads (one dialect scope (at c token.Close) (closes inner.ended refl c))))
    complete_spells (Spells.several n o c d ne) frames f =
        completes_at_once n (begins_with dialect scope (at o token.Open) refl (closes_group d ne c frames))
    complete_spells (Spells.negated n p {x = x} l d) frames f =
        let inner = complete_spells d (Negated ∷ frames) (lit< tt) in
        record {
          end = inner.end;
          leads = begins_with dialect scope (at p minus) refl inner.leads;
          ended = record {
            last = inner.ended.last;
            is_last = inner.ended.is_last;
            goes_on = inner.ended.goes_on;
            gathers = λ k h. inner.ended.gathers k (omega (arith, l, h)) ∙ gathered_bound k Negated frames x refl;
          };
        }
    complete_spells (Spells.operation n p o {x = x} {y = y} l d e) frames f =
        let bounds = level_bounds o in
        let left = complete_spells d frames (fits_more n (left_level o) frames (omega (arith, l, bounds.0)) f) in
        let right = complete_spells e (Left x o p ∷ frames) (omega arith) in
        record {
          end = right.end;
          leads = then dialect scope left.leads (begins_with dialect scope (at p (token.Operator o)) (waits n p o frames x left.end left.ended f l) right.leads);
          ended = record {
            last = right.ended.last;
            is_last = right.ended.is_last;
            goes_on = right.ended.goes_on;
            gathers = λ k h. right.ended.gathers k (omega (arith, l, h)) ∙ gathered_bound k (Left x o p) frames y (is_le k (level o) (omega (arith, l, h)));
          };
        }
    complete_spells (Spells.root n p) frames f = record { end = in_state frames Root; leads = one dialect scope (at p token.Slash) refl; ended = ended_root frames n f }
    complete_spells (Spells.absolute n {l = l} {t = t} ne d e) frames f =
        let walk = complete_steps d frames Operand (linked_operand l frames ne) in
        let end = ending_walk e frames n f walk.is_walked walk.is_plain in
        record {
          end = end.end;
          leads = then dialect scope walk.leads end.leads;
          ended = subst (λ steps. Ended frames n (abs steps t) end.end) walk.are end.ended;
        }
    complete_spells (Spells.above n {k = k} d e) frames f =
        let end = ending_above e frames n k in
        record { end = end.end; leads = then dialect scope (parents_lead d frames) end.leads; ended = end.ended }
    complete_spells (Spells.attributes n d) frames f = completes_at_once n (attr_leads d frames Operand owner.Here (λ a. refl))

    complete_leading : {k : ℕ} {ts : List Placed} {es : Meant (List Expr)} → Leading dialect scope k ts es
        → (b : Meant (List Expr) → ℕ → Frame) → IsBracket b → (frames : List Frame)
        → Leads dialect scope ts (in_state (b none 0 ∷ frames) Operand) (in_state (b es k ∷ frames) Operand)
    complete_leading Leading.start b i frames = stays dialect scope _
    complete_leading (Leading.further p {k = k} {es = es} {x = x} d e) b i frames =
        let before = complete_leading d b i frames in
        let inner = complete_spells e (b es k ∷ frames) (i.is_fit 1 es k frames) in
        then dialect scope (then dialect scope before inner.leads)
        (one dialect scope (at p token.Comma) (separates inner.ended (i.is_loose 0 es k) p ∙ ap (λ frame. option_and_then (opened frames) frame) (i.goes_on es k x)))

    closes_group : {k : ℕ} {ts : List Placed} {es : Meant (List Expr)} → Listed dialect scope k ts es → k ≢ 1 → (c : ℕ) (frames : List Frame)
        → Leads dialect scope (ts ++ at c token.Close ∷ []) (in_state (Group none 0 ∷ frames) Operand) (in_state frames (Complete (seq es)))
    closes_group Listed.empty ne c frames = one dialect scope (at c token.Close) refl
    closes_group (Listed.last {k = k} {es = es} {x = x} d e) ne c frames =
        let before = complete_leading d Group group_is_bracket frames in
        let inner = complete_spells e (Group es k ∷ frames) tt in
        let some : nat_eq k 0 ≡ false = not_zero k (λ q. ne (ap (λ n. n + 1) q)) in
        then dialect scope (then dialect scope before inner.leads)
        (one dialect scope (at c token.Close) (closes inner.ended refl c ∙ ap (λ v. completed frames (cond v x (seq (and_also es x)))) some))

    closes_call : {k : ℕ} {ts : List Placed} {es : Meant (List Expr)} → Listed dialect scope k ts es → (name : Written) (p c : ℕ) (frames : List Frame)
        → Leads dialect scope (ts ++ at c token.Close ∷ []) (in_state (Call name p none 0 ∷ frames) Operand) (in_state frames (Complete (called name p k es)))
    closes_call Listed.empty name p c frames = one dialect scope (at c token.Close) refl
    closes_call (Listed.last {k = k} {es = es} d e) name p c frames =
        let before = complete_leading d (Call name p) (call_is_bracket name p) frames in
        let inner = complete_spells e (Call name p es k ∷ frames) tt in
        then dialect scope (then dialect scope before inner.leads) (one dialect scope (at c token.Close) (closes inner.ended refl c))

    complete_predicates : {us : List Placed} {es : Meant (List Expr)} → Predicates dialect scope us es
        → (frames : List Frame) (begun : Begun) (t : Meant NodeTest) (a : Bool) (mode : Mode) → IsWalked mode (walk_of begun t a)
        → Walks us frames mode (with_all begun t a es)
    complete_predicates Predicates.unfiltered frames begun t a mode i = record { end = mode; leads = stays dialect scope _; is_walked = i }
    complete_predicates (Predicates.filtered o c {es = es} {x = x} d e) frames begun t a mode i =
        let before = complete_predicates d frames begun t a mode i in
        let inner = complete_spells e (Predicate (with_all begun t a es) ∷ frames) tt in
        record {
          end = Walked (with_all begun t a (and_also es x));
          leads = then dialect scope before.leads (begins_with dialect scope (at o token.OpenPredicate) (filter_turn before.is_walked frames o)
              (then dialect scope inner.leads (one dialect scope (at c token.ClosePredicate) (filters inner.ended refl c))));
          is_walked = walked _;
        }

    complete_step : {l : Link} {ts : List Placed} {s : Meant PathStep} → g.Step dialect scope l ts s
        → (frames : List Frame) (steps : Meant (List PathStep)) (is_first : Bool) (mode : Mode) → Linked frames (begun_of steps l is_first) mode
        → Stepped ts frames mode (and_also steps s)
    complete_step (g.Step.tested l p {t = t} {es = es} d e) frames steps is_first mode h =
        let begun = begun_of steps l is_first in
        let linked = h p in
        let tested = complete_test d frames begun linked.0 linked.2 in
        let filtered = complete_predicates e frames begun t false tested.end tested.is_walked in
        record {
          end = filtered.end;
          walk = with_all begun t false es;
          leads = then dialect scope (then dialect scope linked.1 tested.leads) filtered.leads;
          is_walked = filtered.is_walked;
          are = refl;
          is_plain = refl;
        }

    complete_steps : {l : Link} {ts : List Placed} {steps : Meant (List PathStep)} → Steps dialect scope l ts steps
        → (frames : List Frame) (mode : Mode) → Linked frames (first l) mode → Stepped ts frames mode steps
    complete_steps (Steps.one_step d) frames mode h = complete_step d frames none true mode h
    complete_steps (Steps.next_step {m = l} {s = s} ne d e) frames mode h =
        let before = complete_steps d frames mode h in
        let next = complete_step e frames (all_steps before.walk) false before.end (linked_next l frames ne before.is_walked before.is_plain) in
        record {
          end = next.end;
          walk = next.walk;
          leads = then dialect scope before.leads next.leads;
          is_walked = next.is_walked;
          are = next.are ∙ ap (λ steps. and_also steps s) before.are;
          is_plain = next.is_plain;
        }

  pub complete_expression : {ts : List Placed} {m : Meant Expr} → Spells dialect scope 1 ts m
      → (s : State) × Leads dialect scope ts (in_state [] Operand) s × (end_of_expression scope s ≡ Some m)
  unfolding gathered end_of_expression
  complete_expression d =
      let c = complete_spells d [] tt in
      (c.end, c.leads, ap (λ o. option_and_then (λ last. alone scope (gathered 0 c.end.stack last)) o) c.ended.is_last ∙ ap (alone scope) (c.ended.gathers 0 (lit≤ tt)))

  -- the stack of a pattern
  abbrev pub bars : Meant (List Alternative) → List Frame
  bars all = Alternatives all ∷ []

  begins_alternative : (frames : List Frame) (p : ℕ) (t : Token) → begins_step false t ≡ true
      → turn dialect scope frames AlternativeBegins p t ≡ begin_step scope frames (first link.Start) p t
  unfolding begin_alternative
  begins_alternative frames p (token.Name name) h = refl
  begins_alternative frames p (token.Within prefix) h = refl
  begins_alternative frames p token.Star h = refl
  begins_alternative frames p _ h = absurd (false≢true h)

  linked_alternative : (l : Link) (frames : List Frame) → Linked frames (first l) AlternativeBegins
  unfolding begin_alternative
  linked_alternative link.Start frames = λ p. (AlternativeBegins, stays dialect scope _, begins_alternative frames)
  linked_alternative link.Slash frames = λ p. (Root, one dialect scope (at p token.Slash) refl, begins_root frames)
  linked_alternative link.Deep frames = λ p. (Step (first link.Deep), one dialect scope (at p token.SlashSlash) refl, λ q t h. refl)

  -- a mode of a pattern behind which a link may stand, and then `@`
  abbrev AttrLinked : Meant (List Alternative) → Begun → Mode → Type 0
  AttrLinked all begun mode =
      (p : ℕ) → (m : Mode) × Leads dialect scope (link_tokens begun.link p) (in_state (bars all) mode) (in_state (bars all) m)
      × ((a : ℕ) → turn dialect scope (bars all) m a token.At ≡ Some (bars all, Attribute (owner.Last begun)))

  attr_linked_alternative : (l : Link) (all : Meant (List Alternative)) → AttrLinked all (first l) AlternativeBegins
  unfolding begin_alternative begin_step after_root
  attr_linked_alternative link.Start all = λ p. (AlternativeBegins, stays dialect scope _, λ a. refl)
  attr_linked_alternative link.Slash all = λ p. (Root, one dialect scope (at p token.Slash) refl, λ a. refl)
  attr_linked_alternative link.Deep all = λ p. (Step (first link.Deep), one dialect scope (at p token.SlashSlash) refl, λ a. refl)

  attr_linked_next : (l : Link) (all : Meant (List Alternative)) {mode : Mode} {w : Walk} → l ≢ link.Start → IsWalked mode w → w.is_attribute ≡ false
      → AttrLinked all (begun_of (all_steps w) l false) mode
  unfolding begin_step
  attr_linked_next link.Start all ne i e = absurd (ne refl)
  attr_linked_next link.Slash all ne i e = λ p. (Step _, one dialect scope (at p token.Slash) (slash_turn i (bars all) p e), λ a. refl)
  attr_linked_next link.Deep all ne i e = λ p. (Step _, one dialect scope (at p token.SlashSlash) (deep_turn i (bars all) p e), λ a. refl)

  -- the tokens lead from a mode of a pattern to the end of a step that tests attributes
  record AttrStepped (ts : List Placed) (all : Meant (List Alternative)) (mode : Mode) (steps : Meant (List PathStep)) : Type 0 where
    end : Mode
    walk : Walk
    leads : Leads dialect scope ts (in_state (bars all) mode) (in_state (bars all) end)
    is_walked : IsWalked end walk
    are : all_steps walk ≡ steps

  complete_attr_step : {l : Link} {ts : List Placed} {s : Meant PathStep} → g.AttrStep dialect scope l ts s
      → (all : Meant (List Alternative)) (steps : Meant (List PathStep)) (is_first : Bool) (mode : Mode) → AttrLinked all (begun_of steps l is_first) mode
      → AttrStepped ts all mode (and_also steps s)
  complete_attr_step (g.AttrStep.tested l p {t = t} {es = es} d e) all steps is_first mode h =
      let begun = begun_of steps l is_first in
      let linked = h p in
      let tested = attr_leads d (bars all) linked.0 (owner.Last begun) linked.2 in
      let filtered = complete_predicates e (bars all) begun t true (Walked (walk_of begun t true)) (walked _) in
      record {
        end = filtered.end;
        walk = with_all begun t true es;
        leads = then dialect scope (then dialect scope linked.1 tested) filtered.leads;
        is_walked = filtered.is_walked;
        are = refl;
      }

  bar_turn : {mode : Mode} {w : Walk} → IsWalked mode w → (all : Meant (List Alternative)) (p : ℕ)
      → turn dialect scope (bars all) mode p token.Bar ≡ Some (bars (and_also all (whole_alternative w)), AlternativeBegins)
  unfolding walk_on after_name
  bar_turn (walked w) all p = refl
  bar_turn (named begun name q) all p = refl

  last_walk : {mode : Mode} {w : Walk} → IsWalked mode w → last_alternative scope mode ≡ Some (whole_alternative w)
  last_walk (walked w) = refl
  last_walk (named begun name q) = refl

  -- the tokens lead from the beginning of an alternative to its end
  record Alternated (ts : List Placed) (all : Meant (List Alternative)) (a : Meant Alternative) : Type 0 where
    end : Mode
    leads : Leads dialect scope ts (in_state (bars all) AlternativeBegins) (in_state (bars all) end)
    is_last : last_alternative scope end ≡ Some a
    bar : (p : ℕ) → turn dialect scope (bars all) end p token.Bar ≡ Some (bars (and_also all a), AlternativeBegins)

  alternates : {ts : List Placed} {all : Meant (List Alternative)} {steps : Meant (List PathStep)} {end : Mode} {w : Walk}
      → Leads dialect scope ts (in_state (bars all) AlternativeBegins) (in_state (bars all) end) → IsWalked end w → all_steps w ≡ steps
      → Alternated ts all (meaning.steps steps)
  alternates {all = all} {end = end} leads i e = record {
    end = end;
    leads = leads;
    is_last = last_walk i ∙ ap (λ s. Some (meaning.steps s)) e;
    bar = λ p. bar_turn i all p ∙ ap (λ s. Some (bars (and_also all (meaning.steps s)), AlternativeBegins)) e;
  }

  complete_alternative : {ts : List Placed} {a : Meant Alternative} → g.Alternates dialect scope ts a → (all : Meant (List Alternative)) → Alternated ts all a
  unfolding begin_alternative after_root
  complete_alternative (g.Alternates.root p) all =
      record { end = Root; leads = one dialect scope (at p token.Slash) refl; is_last = refl; bar = λ p. refl }
  complete_alternative (g.Alternates.steps l d) all =
      let walk = complete_steps d (bars all) AlternativeBegins (linked_alternative l (bars all)) in
      alternates walk.leads walk.is_walked walk.are
  complete_alternative (g.Alternates.attribute l d) all =
      let walk = complete_attr_step d all none true AlternativeBegins (attr_linked_alternative l all) in
      alternates walk.leads walk.is_walked walk.are
  complete_alternative (g.Alternates.attributes l m {s = s} ne d e) all =
      let walk = complete_steps d (bars all) AlternativeBegins (linked_alternative l (bars all)) in
      let next = complete_attr_step e all (all_steps walk.walk) false walk.end (attr_linked_next m all ne walk.is_walked walk.is_plain) in
      alternates (then dialect scope walk.leads next.leads) next.is_walked (next.are ∙ ap (λ steps. and_also steps s) walk.are)

  -- the tokens lead from the beginning of a pattern to its end
  pub record Patterned (ts : List Placed) (all : Meant (List Alternative)) : Type 0 where
    pub before : Meant (List Alternative)
    pub last : Meant Alternative
    pub end : Mode
    pub leads : Leads dialect scope ts (in_state (bars none) AlternativeBegins) (in_state (bars before) end)
    pub is_last : last_alternative scope end ≡ Some last
    pub bar : (p : ℕ) → turn dialect scope (bars before) end p token.Bar ≡ Some (bars all, AlternativeBegins)
    pub are : and_also before last ≡ all

  pub complete_alternatives : {ts : List Placed} {all : Meant (List Alternative)} → g.Pattern dialect scope ts all → Patterned ts all
  complete_alternatives (g.Pattern.one d) =
      let a = complete_alternative d none in
      record { before = none; last = _; end = a.end; leads = a.leads; is_last = a.is_last; bar = a.bar; are = refl }
  complete_alternatives (g.Pattern.further p {all = all} d e) =
      let before = complete_alternatives d in
      let a = complete_alternative e all in
      record {
        before = all;
        last = _;
        end = a.end;
        leads = then dialect scope before.leads (begins_with dialect scope (at p token.Bar) (before.bar p) a.leads);
        is_last = a.is_last;
        bar = a.bar;
        are = refl;
      }

  pub complete_pattern : {ts : List Placed} {all : Meant (List Alternative)} → g.Pattern dialect scope ts all
      → (s : State) × Leads dialect scope ts (in_state (bars none) AlternativeBegins) s × (end_of_pattern scope s ≡ Some all)
  unfolding end_of_pattern
  complete_pattern d =
      let c = complete_alternatives d in
      (in_state (bars c.before) c.end, c.leads, ap (λ o. option_and_then (with_last scope (bars c.before)) o) c.is_last ∙ ap Some c.are)

  same_end : {A : Type 0} {ts : List Placed} {s u v : State} (f : State → Option A) (a b : A)
      → Leads dialect scope ts s u → Leads dialect scope ts s v → f u ≡ Some a → f v ≡ Some b → a ≡ b
  same_end {ts = ts} {s} {u} {v} f a b l m e h =
      let x : run dialect scope ts s ≡ Some u = l.leads in
      let y : run dialect scope ts s ≡ Some v = m.leads in
      cc

  pub one_expression : (ts : List Placed) (a b : Meant Expr) → Spells dialect scope 1 ts a → Spells dialect scope 1 ts b → a ≡ b
  one_expression ts a b d e =
      let x = complete_expression d in
      let y = complete_expression e in
      same_end (end_of_expression scope) a b x.1 y.1 x.2 y.2

  pub one_pattern : (ts : List Placed) (a b : Meant (List Alternative)) → g.Pattern dialect scope ts a → g.Pattern dialect scope ts b → a ≡ b
  one_pattern ts a b d e =
      let x = complete_pattern d in
      let y = complete_pattern e in
      same_end (end_of_pattern scope) a b x.1 y.1 x.2 y.2
