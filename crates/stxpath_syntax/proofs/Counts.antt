-- A token counts one more at most.
use Rattle.std.proofs.Common.{◌≡◌, ℕ, ◌+◌, ◌≤◌, Bool, true, false, cond, not, ◌&&◌, nat_eq, List, [], ◌∷◌, ◌++◌, ◌<◌, ◌-◌, ◌^◌, length, Option, Some, None, subst, refl, ◌∙◌, ap, arith}
use Rattle.std.proofs.lemmas.List.{length-append}
use Rattle.std.specs.Prelude.{⊤, encode_utf8_all}
use Rattle.std.specs.Option.{option_and_then, option_map, option_map_or}
use Rattle.stx_base.specs.declared.name.Binding.{Binding}
use Rattle.stx_base.specs.declared.node.NodeTest.{NodeTest}
use Rattle.stx_base.specs.declared.node.NodeTest.TheVariants as test
use Rattle.stxpath_syntax.specs.declared.dialect.Dialect.{Dialect}
use Rattle.stxpath_syntax.specs.declared.expr.Alternative.{Alternative}
use Rattle.stxpath_syntax.specs.declared.expr.Alternative.TheVariants as alternative
use Rattle.stxpath_syntax.specs.declared.expr.Expr.{Expr}
use Rattle.stxpath_syntax.specs.declared.expr.Link.{Link}
use Rattle.stxpath_syntax.specs.declared.expr.Link.TheVariants as link
use Rattle.stxpath_syntax.specs.declared.meant.Meant.{Meant}
use Rattle.stxpath_syntax.specs.declared.state.Begun.{Begun}
use Rattle.stxpath_syntax.specs.declared.state.Frame.{Frame}
use Rattle.stxpath_syntax.specs.declared.state.Frame.TheVariants.{Negated, Left, Group, Call, Predicate, Alternatives}
use Rattle.stxpath_syntax.specs.declared.state.Mode.{Mode}
use Rattle.stxpath_syntax.specs.declared.state.Mode.TheVariants.{Operand, Variable, Function, Root, Alternative as AlternativeBegins, Step, Named as AfterName, Kind, Target, Walked, Attribute, Above, Higher, Complete}
use Rattle.stxpath_syntax.specs.declared.state.Named.{Named}
use Rattle.stxpath_syntax.specs.declared.state.Owner.{Owner}
use Rattle.stxpath_syntax.specs.declared.state.Owner.TheVariants as owner
use Rattle.stxpath_syntax.specs.declared.state.State.{State}
use Rattle.stxpath_syntax.specs.declared.state.Walk.{Walk}
use Rattle.stxpath_syntax.specs.declared.token.Operator.{Operator}
use Rattle.stxpath_syntax.specs.declared.token.Placed.{Placed}
use Rattle.stxpath_syntax.specs.declared.token.Token.{Token}
use Rattle.stxpath_syntax.specs.declared.token.Token.TheVariants as token
use Rattle.stxpath_syntax.specs.declared.token.Written.{Written}
use Rattle.stxpath_syntax.specs.Grammar.{left_level}
use Rattle.stxpath_syntax.specs.Counts.{mode_count, CountTo, CountsTo, StateCanCount}
use Rattle.stxpath_syntax.specs.Machine.{Next, at_stack, gathered, binds, reduced, is_pattern, is_beside, is_minus, is_slash, all_steps, close_empty, close, separate, close_predicate, wait, complete, sign, operand, owned, alternated, end_of_alternative, end_of_path, linked, walk_on, begins_step, function, targeted, after_type, after_target, above, higher, begin_attribute, begin_type, state_of, begin_step, attribute_test, attribute, after_root, begin_alternative, variable, named_walk, whole_path, whole_alternative, first, after_name, turn, step, run}
use Rattle.stxpath_syntax.specs.Meaning.{flat, seq, called, root, untested, up, type_of}
use Rattle.stxpath_syntax.specs.Tokens.{classed, is_too_deep}
use Rattle.stxpath_syntax.specs.Words.{operator_named}
use Rattle.stxpath_syntax.proofs.Looping.{Leads}

pub further : (n k : ℕ) (frames : List Frame) → n ≤ k → CountTo n frames → CountTo k frames
further n k [] l c = tt
further n k (frame ∷ frames) l (c, rest) = (omega (arith, l, c), further n k frames l rest)

one_further : (n : ℕ) (frames : List Frame) → CountTo n frames → CountTo (n + 1) frames
one_further n frames c = further n (n + 1) frames (omega arith) c

pub gathered_counts : (n least : ℕ) (frames : List Frame) (last : Meant Expr) → CountTo n frames → CountTo n (gathered least frames last).0
unfolding gathered
gathered_counts n least [] last c = tt
gathered_counts n least (frame ∷ frames) last c = by (binds least frame) (gathered_counts n least frames (reduced frame last) c.1)
  where
    by : (b : Bool) → CountTo n (gathered least frames (reduced frame last)).0 → CountTo n (cond b (gathered least frames (reduced frame last)) (frame ∷ frames, last)).0
    by true rest = rest
    by false rest = c

-- what follows counts no further
abbrev pub NextCounts : ℕ → Next → Type 0
NextCounts n None = ⊤
NextCounts n (Some next) = CountTo n next.0 × (mode_count next.1 ≤ n)

abbrev ModeCounts : ℕ → Option Mode → Type 0
ModeCounts n None = ⊤
ModeCounts n (Some mode) = mode_count mode ≤ n

zero_counts : (n : ℕ) → 0 ≤ n
zero_counts n = omega arith

at_stack_counts : (n : ℕ) (frames : List Frame) (o : Option Mode) → CountTo n frames → ModeCounts n o → NextCounts n (at_stack frames o)
at_stack_counts n frames None c m = tt
at_stack_counts n frames (Some mode) c m = (c, m)

-- behind an operand

wait_counts : (n : ℕ) (o : Operator) (at : ℕ) (both : List Frame × Meant Expr) → CountTo n both.0 → NextCounts n (wait o at both)
wait_counts n o at both c = by (is_beside o both.0)
  where
    by : (b : Bool) → NextCounts n (cond b None (Some (Left both.1 o at ∷ both.0, Operand)))
    by true = tt
    by false = ((zero_counts n, c), zero_counts n)

close_counts : (n : ℕ) (frames : List Frame) (last : Meant Expr) → CountTo n frames → NextCounts n (close (frames, last))
close_counts n [] last c = tt
close_counts n (Group items count ∷ frames) last c = (c.1, zero_counts n)
close_counts n (Call name at items count ∷ frames) last c = (c.1, zero_counts n)
close_counts n (_ ∷ frames) last c = tt

separate_counts : (n : ℕ) (frames : List Frame) (last : Meant Expr) → CountTo n frames → NextCounts (n + 1) (separate (frames, last))
separate_counts n [] last c = tt
separate_counts n (Group items count ∷ frames) last c = ((omega (arith, c.0), one_further n frames c.1), zero_counts (n + 1))
separate_counts n (Call name at items count ∷ frames) last c = ((omega (arith, c.0), one_further n frames c.1), zero_counts (n + 1))
separate_counts n (_ ∷ frames) last c = tt

predicate_counts : (n : ℕ) (frames : List Frame) (last : Meant Expr) → CountTo n frames → NextCounts n (close_predicate (frames, last))
predicate_counts n [] last c = tt
predicate_counts n (Predicate walk ∷ frames) last c = (c.1, zero_counts n)
predicate_counts n (_ ∷ frames) last c = tt

next_further : (n : ℕ) (next : Next) → NextCounts n next → NextCounts (n + 1) next
next_further n None c = tt
next_further n (Some next) c = (one_further n next.0 c.0, omega (arith, c.1))

complete_counts : (n : ℕ) (frames : List Frame) (last : Meant Expr) (at : ℕ) (t : Token) → CountTo n frames → NextCounts (n + 1) (complete frames last at t)
unfolding complete
complete_counts n frames last at (token.Operator o) c =
    let both = gathered (left_level o) frames last in
    next_further n (wait o at both) (wait_counts n o at both (gathered_counts n (left_level o) frames last c))
complete_counts n frames last at token.Close c =
    let both = gathered 0 frames last in
    next_further n (close both) (close_counts n both.0 both.1 (gathered_counts n 0 frames last c))
complete_counts n frames last at token.Comma c =
    let both = gathered 0 frames last in
    separate_counts n both.0 both.1 (gathered_counts n 0 frames last c)
complete_counts n frames last at token.ClosePredicate c =
    let both = gathered 0 frames last in
    next_further n (close_predicate both) (predicate_counts n both.0 both.1 (gathered_counts n 0 frames last c))
complete_counts n frames last at _ c = tt

-- where an operand begins

empty_counts : (n : ℕ) (frames : List Frame) → CountTo n frames → NextCounts n (close_empty frames)
empty_counts n [] c = tt
empty_counts n (Group items count ∷ frames) c = by (nat_eq count 0)
  where
    by : (b : Bool) → NextCounts n (at_stack frames (cond b (Some (Complete (seq items))) None))
    by true = (c.1, zero_counts n)
    by false = tt
empty_counts n (Call name at items count ∷ frames) c = by (nat_eq count 0)
  where
    by : (b : Bool) → NextCounts n (at_stack frames (cond b (Some (Complete (called name at 0 items))) None))
    by true = (c.1, zero_counts n)
    by false = tt
empty_counts n (_ ∷ frames) c = tt

sign_counts : (n : ℕ) (frames : List Frame) (o : Operator) → CountTo n frames → NextCounts n (sign frames o)
sign_counts n frames o c = by (is_minus o)
  where
    by : (b : Bool) → NextCounts n (cond b (Some (Negated ∷ frames, Operand)) None)
    by true = ((zero_counts n, c), zero_counts n)
    by false = tt

operand_counts : (n : ℕ) (frames : List Frame) (at : ℕ) (t : Token) → CountTo n frames → NextCounts (n + 1) (operand frames at t)
unfolding operand
operand_counts n frames at (token.Whole i) c = (one_further n frames c, zero_counts (n + 1))
operand_counts n frames at (token.Literal text) c = (one_further n frames c, zero_counts (n + 1))
operand_counts n frames at (token.Name name) c = (one_further n frames c, zero_counts (n + 1))
operand_counts n frames at (token.Operator o) c = next_further n (sign frames o) (sign_counts n frames o c)
operand_counts n frames at token.Dollar c = (one_further n frames c, zero_counts (n + 1))
operand_counts n frames at token.Open c = ((zero_counts (n + 1), one_further n frames c), zero_counts (n + 1))
operand_counts n frames at token.Close c = next_further n (close_empty frames) (empty_counts n frames c)
operand_counts n frames at token.Slash c = (one_further n frames c, zero_counts (n + 1))
operand_counts n frames at token.SlashSlash c = (one_further n frames c, zero_counts (n + 1))
operand_counts n frames at token.Dot c = (one_further n frames c, zero_counts (n + 1))
operand_counts n frames at token.DotDot c = (one_further n frames c, omega arith)
operand_counts n frames at token.At c = (one_further n frames c, zero_counts (n + 1))
operand_counts n frames at _ c = tt

-- in paths

alternated_counts : (n : ℕ) (frames : List Frame) (last : Meant Alternative) → CountTo n frames → NextCounts n (alternated frames last)
alternated_counts n [] last c = tt
alternated_counts n (Alternatives all ∷ frames) last c = ((zero_counts n, c.1), zero_counts n)
alternated_counts n (_ ∷ frames) last c = tt

alternative_ends : (n : ℕ) (frames : List Frame) (last : Meant Alternative) (t : Token) → CountTo n frames → NextCounts n (end_of_alternative frames last t)
alternative_ends n frames last token.Bar c = alternated_counts n frames last c
alternative_ends n frames last _ c = tt

path_ends : (n : ℕ) (frames : List Frame) (walk : Walk) (at : ℕ) (t : Token) → CountTo n frames → NextCounts (n + 1) (end_of_path frames walk at t)
path_ends n frames walk at t c = by (is_pattern frames)
  where
    by : (b : Bool) → NextCounts (n + 1) (cond b (end_of_alternative frames (whole_alternative walk) t) (complete frames (whole_path walk) at t))
    by true = next_further n (end_of_alternative frames (whole_alternative walk) t) (alternative_ends n frames (whole_alternative walk) t c)
    by false = complete_counts n frames (whole_path walk) at t c

linked_counts : (n : ℕ) (walk : Walk) (l : Link) → ModeCounts n (linked walk l)
linked_counts n walk l = by walk.is_attribute
  where
    by : (b : Bool) → ModeCounts n (cond b None (Some (Step (record { steps = all_steps walk; link = l; is_first = false }))))
    by true = tt
    by false = zero_counts n

walk_counts : (n : ℕ) (frames : List Frame) (walk : Walk) (at : ℕ) (t : Token) → CountTo n frames → NextCounts (n + 1) (walk_on frames walk at t)
unfolding walk_on
walk_counts n frames walk at token.OpenPredicate c = ((zero_counts (n + 1), one_further n frames c), zero_counts (n + 1))
walk_counts n frames walk at token.Slash c = at_stack_counts (n + 1) frames (linked walk link.Slash) (one_further n frames c) (linked_counts (n + 1) walk link.Slash)
walk_counts n frames walk at token.SlashSlash c = at_stack_counts (n + 1) frames (linked walk link.Deep) (one_further n frames c) (linked_counts (n + 1) walk link.Deep)
walk_counts n frames walk at t c = path_ends n frames walk at t c

attribute_begins : (n : ℕ) (frames : List Frame) (begun : Begun) → ModeCounts n (begin_attribute frames begun)
attribute_begins n frames begun = by (is_pattern frames) (not begun.is_first && is_slash begun.link)
  where
    by : (b d : Bool) → ModeCounts n (cond b (Some (Attribute (owner.Last begun))) (cond d (Some (Attribute (owner.Path begun.steps))) None))
    by true d = zero_counts n
    by false true = zero_counts n
    by false false = tt

step_begins : (n : ℕ) (scope : List Binding) (frames : List Frame) (begun : Begun) (at : ℕ) (t : Token) → CountTo n frames → NextCounts n (begin_step scope frames begun at t)
unfolding begin_step
step_begins n scope frames begun at (token.Name name) c = (c, zero_counts n)
step_begins n scope frames begun at (token.Within prefix) c = (c, zero_counts n)
step_begins n scope frames begun at token.Star c = (c, zero_counts n)
step_begins n scope frames begun at token.At c = at_stack_counts n frames (begin_attribute frames begun) c (attribute_begins n frames begun)
step_begins n scope frames begun at _ c = tt

root_counts : (n : ℕ) (scope : List Binding) (frames : List Frame) (at : ℕ) (t : Token) → CountTo n frames → NextCounts (n + 1) (after_root scope frames at t)
unfolding after_root
root_counts n scope frames at t c = by (begins_step (is_pattern frames) t) (is_pattern frames)
  where
    by : (b d : Bool) → NextCounts (n + 1) (cond b (begin_step scope frames (first link.Slash) at t) (cond d (end_of_alternative frames (flat alternative.Root) t) (complete frames root at t)))
    by true d = next_further n (begin_step scope frames (first link.Slash) at t) (step_begins n scope frames (first link.Slash) at t c)
    by false true = next_further n (end_of_alternative frames (flat alternative.Root) t) (alternative_ends n frames (flat alternative.Root) t c)
    by false false = complete_counts n frames root at t c

alternative_begins : (n : ℕ) (scope : List Binding) (frames : List Frame) (at : ℕ) (t : Token) → CountTo n frames → NextCounts n (begin_alternative scope frames at t)
unfolding begin_alternative
alternative_begins n scope frames at token.Slash c = (c, zero_counts n)
alternative_begins n scope frames at token.SlashSlash c = (c, zero_counts n)
alternative_begins n scope frames at t c = step_begins n scope frames (first link.Start) at t c

type_counts : (n : ℕ) (begun : Begun) (o : Option NodeTest) → ModeCounts n (option_map (Kind begun) o)
type_counts n begun None = tt
type_counts n begun (Some t) = zero_counts n

name_counts : (n : ℕ) (dialect : Dialect) (scope : List Binding) (frames : List Frame) (named : Named) (at : ℕ) (t : Token) → CountTo n frames
    → NextCounts (n + 1) (after_name dialect scope frames named at t)
unfolding after_name
name_counts n dialect scope frames named at token.Open c =
    at_stack_counts (n + 1) frames (begin_type dialect named.begun named.name) (one_further n frames c) (type_counts (n + 1) named.begun (type_of dialect named.name))
name_counts n dialect scope frames named at t c = walk_counts n frames (named_walk scope named) at t c

target_counts : (n : ℕ) (begun : Begun) (t : NodeTest) (target : List ℕ) → ModeCounts n (targeted begun t target)
target_counts n begun test.AnyPi target = zero_counts n
target_counts n begun _ target = tt

after_type_counts : (n : ℕ) (begun : Begun) (t : NodeTest) (next : Token) → ModeCounts n (after_type begun t next)
after_type_counts n begun t token.Close = zero_counts n
after_type_counts n begun t (token.Literal target) = target_counts n begun t target
after_type_counts n begun t _ = tt

after_target_counts : (n : ℕ) (begun : Begun) (target : List ℕ) (next : Token) → ModeCounts n (after_target begun target next)
after_target_counts n begun target token.Close = zero_counts n
after_target_counts n begun target _ = tt

owned_counts : (n : ℕ) (whose : Owner) (o : Option (Meant NodeTest)) → ModeCounts n (option_map (owned whose) o)
owned_counts n whose None = tt
owned_counts n owner.Here (Some t) = zero_counts n
owned_counts n (owner.Above k) (Some t) = zero_counts n
owned_counts n (owner.Path steps) (Some t) = zero_counts n
owned_counts n (owner.Last begun) (Some t) = zero_counts n

above_counts : (n k : ℕ) (frames : List Frame) (at : ℕ) (t : Token) → CountTo n frames → k ≤ n → NextCounts (n + 1) (above frames k at t)
above_counts n k frames at token.Slash c l = (one_further n frames c, omega (arith, l))
above_counts n k frames at t c l = complete_counts n frames (up k untested) at t c

higher_counts : (n k : ℕ) (t : Token) → k ≤ n → ModeCounts (n + 1) (higher k t)
higher_counts n k token.DotDot l = by (nat_eq k 0)
  where
    by : (b : Bool) → ModeCounts (n + 1) (cond b None (Some (Above (k + 1))))
    by true = tt
    by false = omega (arith, l)
higher_counts n k token.At l = omega (arith, l)
higher_counts n k _ l = tt

variable_counts : (n : ℕ) (scope : List Binding) (at : ℕ) (t : Token) → ModeCounts n (variable scope at t)
variable_counts n scope at (token.Name name) = zero_counts n
variable_counts n scope at _ = tt

function_counts : (n : ℕ) (frames : List Frame) (name : Written) (at : ℕ) (t : Token) → CountTo n frames → NextCounts n (function frames name at t)
function_counts n frames name at token.Open c = ((zero_counts n, c), zero_counts n)
function_counts n frames name at _ c = tt

turn_counts : (n : ℕ) (dialect : Dialect) (scope : List Binding) (frames : List Frame) (mode : Mode) (at : ℕ) (t : Token)
    → CountTo n frames → mode_count mode ≤ n → NextCounts (n + 1) (turn dialect scope frames mode at t)
turn_counts n dialect scope frames Operand at t c l = operand_counts n frames at t c
turn_counts n dialect scope frames (Complete last) at t c l = complete_counts n frames last at t c
turn_counts n dialect scope frames Variable at t c l = at_stack_counts (n + 1) frames (variable scope at t) (one_further n frames c) (variable_counts (n + 1) scope at t)
turn_counts n dialect scope frames (Function name place) at t c l = next_further n (function frames name place t) (function_counts n frames name place t c)
turn_counts n dialect scope frames Root at t c l = root_counts n scope frames at t c
turn_counts n dialect scope frames AlternativeBegins at t c l = next_further n (begin_alternative scope frames at t) (alternative_begins n scope frames at t c)
turn_counts n dialect scope frames (Step begun) at t c l = next_further n (begin_step scope frames begun at t) (step_begins n scope frames begun at t c)
turn_counts n dialect scope frames (AfterName named) at t c l = name_counts n dialect scope frames named at t c
turn_counts n dialect scope frames (Kind begun test) at t c l = at_stack_counts (n + 1) frames (after_type begun test t) (one_further n frames c) (after_type_counts (n + 1) begun test t)
turn_counts n dialect scope frames (Target begun target) at t c l =
    at_stack_counts (n + 1) frames (after_target begun target t) (one_further n frames c) (after_target_counts (n + 1) begun target t)
turn_counts n dialect scope frames (Walked walk) at t c l = walk_counts n frames walk at t c
turn_counts n dialect scope frames (Attribute whose) at t c l =
    at_stack_counts (n + 1) frames (attribute scope whose at t) (one_further n frames c) (owned_counts (n + 1) whose (attribute_test scope at t))
turn_counts n dialect scope frames (Above k) at t c l = above_counts n k frames at t c l
turn_counts n dialect scope frames (Higher k) at t c l = at_stack_counts (n + 1) frames (higher k t) (one_further n frames c) (higher_counts n k t l)

pub step_counts : (n : ℕ) (dialect : Dialect) (scope : List Binding) (state next : State) (t : Placed)
    → CountsTo n state → step dialect scope state t ≡ Some next → CountsTo (n + 1) next
unfolding step
step_counts n dialect scope state next t c e = by (turn dialect scope state.stack state.mode t.at t.token) (turn_counts n dialect scope state.stack state.mode t.at t.token c.frames c.mode) e
  where
    by : (o : Next) → NextCounts (n + 1) o → option_map state_of o ≡ Some next → CountsTo (n + 1) next
    by None m e = cc
    by (Some both) m e =
        let same : state_of both ≡ next = cc in
        subst (λ state. CountsTo (n + 1) state) same (record { frames = m.0; mode = m.1 })

-- so many tokens count so far at most
run_counts : (n : ℕ) (dialect : Dialect) (scope : List Binding) (front : List Placed) (begun state : State)
    → CountsTo n begun → run dialect scope front begun ≡ Some state → CountsTo (n + length front) state
unfolding run
run_counts n dialect scope [] begun state c e =
    let same : begun ≡ state = cc in
    let all : n ≡ n + 0 = omega arith in
    subst (λ k. CountsTo k state) all (subst (CountsTo n) same c)
run_counts n dialect scope (t ∷ front) begun state c e =
    by (step dialect scope begun t) refl e (λ next is left. run_counts (n + 1) dialect scope front next state (step_counts n dialect scope begun next t c is) left)
  where
    by : (o : Option State) → step dialect scope begun t ≡ o → option_and_then (run dialect scope front) o ≡ Some state
        → ((next : State) → step dialect scope begun t ≡ Some next → run dialect scope front next ≡ Some state → CountsTo (n + 1 + length front) state)
        → CountsTo (n + length (t ∷ front)) state
    by None is e further = cc
    by (Some next) is e further =
        let all : n + 1 + length front ≡ n + length (t ∷ front) = omega arith in
        subst (λ k. CountsTo k state) all (further next is e)

-- behind fewer tokens than numbers of 64 bits each part of the state can count one more
pub run_can_count : (dialect : Dialect) (scope : List Binding) (begun : State) (ts rest left : List Placed) (t : Placed) (state : State)
    → CountsTo 0 begun → length ts < 2 ^ 64 → Leads dialect scope begun ts rest state → rest ≡ t ∷ left → StateCanCount state
run_can_count dialect scope begun ts rest left t state c few (front, e, r) l =
    let k = run_counts 0 dialect scope front begun state c r in
    let all : length ts ≡ length front + length (t ∷ left) = ap length (e ∙ ap (λ rest. front ++ rest) l) ∙ length-append front (t ∷ left) in
    let within : 0 + length front ≤ 2 ^ 64 - 2 = omega (arith, few, all) in
    record { frames = further (0 + length front) (2 ^ 64 - 2) state.stack within k.frames; mode = omega (arith, within, k.mode) }

-- a token is too deep, whatever stands before it, where it is so by itself
pub classed_deep : (opened : ℕ) (e : Bool) (t : Token) → is_too_deep opened (classed e t) ≡ is_too_deep opened t
classed_deep opened false t = refl
classed_deep opened true (token.Name name) = by (nat_eq (length name.prefix) 0)
  where
    by : (b : Bool) → is_too_deep opened (cond b (option_map_or token.Operator (operator_named (encode_utf8_all name.local)) (token.Name name)) (token.Name name)) ≡ false
    by true = worded (operator_named (encode_utf8_all name.local))
      where
        worded : (o : Option Operator) → is_too_deep opened (option_map_or token.Operator o (token.Name name)) ≡ false
        worded None = refl
        worded (Some o) = refl
    by false = refl
classed_deep opened true _ = refl
