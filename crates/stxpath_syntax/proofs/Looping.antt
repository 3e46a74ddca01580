-- One turn of the loops over tokens.
use Rattle.std.proofs.Common.{◌≡◌, ℕ, ◌+◌, ◌<◌, ◌≤◌, false, List, [], ◌∷◌, ◌++◌, Some, None, Option, Ok, Err, length, drop, sym, ◌∙◌, ap, subst, append_assoc, arith}
use Rattle.std.proofs.lemmas.List.{append-nil, length-drop}
use Rattle.stx_base.specs.declared.name.Binding.{Binding}
use Rattle.stxpath_syntax.specs.declared.dialect.Dialect.{Dialect}
use Rattle.stxpath_syntax.specs.declared.fault.ParseFault.{ParseFault}
use Rattle.stxpath_syntax.specs.declared.fault.ParseFault.TheVariants as fault
use Rattle.stxpath_syntax.specs.declared.fault.PathFault.{PathFault}
use Rattle.stxpath_syntax.specs.declared.lex.Found.{Found}
use Rattle.stxpath_syntax.specs.declared.state.State.{State}
use Rattle.stxpath_syntax.specs.declared.token.Before.{Before}
use Rattle.stxpath_syntax.specs.declared.token.Placed.{Placed}
use Rattle.stxpath_syntax.specs.declared.token.Token.{Token}
use Rattle.stxpath_syntax.specs.Lexing.{Finds, Reads, Lexes}
use Rattle.stxpath_syntax.specs.Machine.{run, step}
use Rattle.stxpath_syntax.specs.Running.{Nexts, Runs}
use Rattle.stxpath_syntax.specs.Tokens.{Lexed, Tokens, Stands, before_next, classed, first_token, is_too_deep, space, unreadable}
use Rattle.stxpath_syntax.proofs.Running.{run_more}

-- what the rest of a text is cut into follows what was found
abbrev pub Follows : ℕ → List ℕ → List Placed → Before → List ℕ → Type 0
Follows at text found before rest = (ts : List Placed) (over : Option PathFault) → Lexed before rest ts over → Tokens at text (found ++ ts) over

pub one_more : (at : ℕ) (text : List ℕ) (found new : List Placed) (before after : Before) (rest : List ℕ) (next : Found)
    → Follows at text found before rest → Stands before rest next.placed next.len → after ≡ before_next before next.placed.token (before.at + next.len)
    → new ≡ found ++ next.placed ∷ [] → Follows at text new after (drop next.len rest)
one_more at text found new before after rest next inv s e n = λ ts over h.
    let h' : Lexed (before_next before next.placed.token (before.at + next.len)) (drop next.len rest) ts over = subst (λ b. Lexed b (drop next.len rest) ts over) e h in
    let all = inv (next.placed ∷ ts) over (next.len, s, h') in
    subst (λ ts. Tokens at text ts over) (sym (append_assoc found (next.placed ∷ []) ts) ∙ ap (λ f. f ++ ts) (sym n)) all

pub lex_fault : (at : ℕ) (text : List ℕ) (found : List Placed) (before : Before) (rest : List ℕ) (e : ParseFault)
    → Follows at text found before rest → Reads before rest (Err e) → Lexes at text (Err e)
lex_fault at text found before rest (fault.Path f) inv h = (found ++ [], inv [] (Some f) h)
lex_fault at text found before rest fault.Memory inv h = tt

pub lex_end : (at : ℕ) (text : List ℕ) (found : List Placed) (before : Before) (rest : List ℕ)
    → Follows at text found before rest → Reads before rest (Ok None) → Lexes at text (Ok found)
lex_end at text found before rest inv h = subst (λ ts. Tokens at text ts None) (append-nil found) (inv [] None h)

-- tokens that lead from the beginning to a state, and those that are left
abbrev pub Leads : Dialect → List Binding → State → List Placed → List Placed → State → Type 0
Leads dialect scope begun ts rest state = (front : List Placed) × (ts ≡ front ++ rest) × (run dialect scope front begun ≡ Some state)

pub run_on : (dialect : Dialect) (scope : List Binding) (begun : State) (ts rest left : List Placed) (t : Placed) (state after : State)
    → Leads dialect scope begun ts rest state → rest ≡ t ∷ left → step dialect scope state t ≡ Some after → Leads dialect scope begun ts left after
run_on dialect scope begun ts rest left t state after (front, e, r) l s =
    (front ++ t ∷ [], e ∙ ap (λ rest. front ++ rest) l ∙ sym (append_assoc front (t ∷ []) left), run_more dialect scope front t begun state after r s)

pub run_fault : (dialect : Dialect) (scope : List Binding) (begun : State) (ts rest left : List Placed) (t : Placed) (state : State) (e : ParseFault)
    → Leads dialect scope begun ts rest state → rest ≡ t ∷ left → Nexts dialect scope state t (Err e) → Runs dialect scope begun ts (Err e)
run_fault dialect scope begun ts rest left t state (fault.Path f) (front, e, r) l h =
    (t, record { front = front; rest = left; state = state; are = e ∙ ap (λ rest. front ++ rest) l; leads = r; is_stuck = h.0 }, h.1)
run_fault dialect scope begun ts rest left t state fault.Memory w l h = tt

pub run_end : (dialect : Dialect) (scope : List Binding) (begun : State) (ts rest : List Placed) (state : State) → Leads dialect scope begun ts rest state → rest ≡ [] → Runs dialect scope begun ts (Ok state)
run_end dialect scope begun ts rest state (front, e, r) l =
    let all : ts ≡ front = e ∙ ap (λ rest. front ++ rest) l ∙ append-nil front in
    subst (λ ts. run dialect scope ts begun ≡ Some state) (sym all) r

-- one token that was read
placed_at : Before → Token → ℕ → Placed
placed_at before t n = record { token = t; at = before.at + n }

same_place : (before : Before) (t u : Token) (n k : ℕ) → n ≡ k → t ≡ u → placed_at before t n ≡ placed_at before u k
same_place before t u n k e f = ap (λ n. placed_at before t n) e ∙ ap (λ t. placed_at before t k) f

pub stands : (before : Before) (text : List ℕ) (n len at : ℕ) (raw t : Token) → n ≡ space text → n ≤ length text
    → Finds (drop n text) at (Ok (raw, len)) → is_too_deep before.opened raw ≡ false → t ≡ classed before.is_operand raw
    → Stands before text (record { token = t; at = before.at + n }) (n + len) × (0 < n + len) × (n + len ≤ length text)
unfolding placed_at
stands before text n len at raw t e l f d c = (
  record {
    found = (raw, len);
    is_first = ap (λ n. first_token (drop n text)) (sym e) ∙ f.0;
    is_readable = ap (λ n. unreadable (drop n text)) (sym e) ∙ f.1;
    is_not_too_deep = d;
    is_it = same_place before t (classed before.is_operand raw) n (space text) e c;
    is_long = ap (λ n. n + len) e;
  },
  omega (arith, f.2),
  omega (arith, f.3, length-drop n text),
)
