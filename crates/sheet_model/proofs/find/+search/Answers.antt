use Rattle.std.proofs.Common.{◌≡◌, ℕ, zero, suc, ◌+◌, ◌≤◌, List, [], length, Some, ap, sym, subst, ◌∙◌, arith}
use Rattle.std.proofs.lemmas.List.{take_all}
use Rattle.std.specs.List.{flat_map, slice_get}
use Rattle.sheet_model.specs.Body.{body_nesting, in_order, nesting}
use Rattle.sheet_model.specs.Searching.{Searches}
use Rattle.sheet_model.specs.declared.instr.Instr.{Instr}
use Rattle.sheet_model.specs.declared.instr.When.{When}
use Rattle.sheet_model.proofs.Lists.{greatest-flat, greatest_at, got_before}
use Rattle.sheet_model.proofs.Nests.{body_nesting-append, nesting_is, nests_within}
use Rattle.sheet_model.proofs.Searches.{found_behind_body, found_here, found_in_body, found_on, found_within, goes_on, in_order-append, in_order-flat}
use Rattle.sheet_model.proofs.find.+search.Goals as goal

abbrev branched : List When → List Instr
branched whens = flat_map (λ (w : When). w.body) whens

abbrev body_of : When → List Instr
body_of w = w.body

pub search-search_within-requires : goal.search-search_within-requires
search-search_within-requires t c =
    let within = nests_within c.as_slice-instr-items.result.now c.loop-instr.instr-index c.instr-item.result c.loop-instr-test.true c.instr-item.is in
    let same = ap body_nesting c.as_slice-instr-items.ensures in
    omega arith

pub search-returns-in_default : goal.search-returns-in_default
search-returns-in_default t c =
    subst (λ (l : List Instr). (n : ℕ) → body_nesting l ≤ n → slice_get (in_order n l) c.args.number ≡ Some c.instr-item.result) c.as_slice-instr-items.ensures
    (λ n deep.
    let so = c.loop-instr.invariant n deep in
    found_here n c.as_slice-instr-items.result.now c.loop-instr.instr-index c.instr-item.result c.args.number c.loop-instr-test.true c.instr-item.is deep
    (omega (arith, so, c.in_default.ensures)))

pub search-returns-in-Found : goal.search-returns-in-Found
search-returns-in-Found t c =
    subst (λ (l : List Instr). (n : ℕ) → body_nesting l ≤ n → slice_get (in_order n l) c.args.number ≡ Some c.in-Found.instr.now) c.as_slice-instr-items.ensures
    (λ n deep.
    let so = c.loop-instr.invariant n deep in
    found_within n c.as_slice-instr-items.result.now c.loop-instr.instr-index c.instr-item.result c.args.number c.in-Some.less c.in-Found.instr.now
    c.loop-instr-test.true c.instr-item.is deep (omega (arith, so, c.in-Some.ensures)) c.in-Found.ensures)

pub search-loop-instr-preserved : goal.search-loop-instr-preserved
search-loop-instr-preserved t c = λ n deep.
    let so = c.loop-instr.invariant n deep in
    found_on n c.as_slice-instr-items.result.now c.loop-instr.instr-index c.instr-item.result c.args.number c.in-Some.less c.in-Behind.behind
    c.loop-instr-test.true c.instr-item.is deep (omega (arith, so, c.in-Some.ensures)) c.in-Behind.ensures

pub search_branches-search-requires : goal.search_branches-search-requires
search_branches-search-requires t c =
    let within = greatest_at (λ (w : When). body_nesting w.body) c.as_slice-when-items.result.now c.loop-when.when-index c.when-item.result c.loop-when-test.true c.when-item.is in
    let whole = greatest-flat nesting body_of c.as_slice-when-items.result.now in
    let same = ap (λ l. body_nesting (branched l)) c.as_slice-when-items.ensures in
    omega arith

pub search_branches-returns-in-Found : goal.search_branches-returns-in-Found
search_branches-returns-in-Found t c =
    subst (λ (l : List When). (n : ℕ) → body_nesting (branched l) ≤ n → slice_get (in_order n (branched l)) c.args.number ≡ Some c.in-Found.instr.now) c.as_slice-when-items.ensures
    (λ n deep.
    let within = greatest_at (λ (w : When). body_nesting w.body) c.as_slice-when-items.result.now c.loop-when.when-index c.when-item.result c.loop-when-test.true c.when-item.is in
    let whole = greatest-flat nesting body_of c.as_slice-when-items.result.now in
    subst (λ l. slice_get l c.args.number ≡ Some c.in-Found.instr.now) (sym (in_order-flat n body_of c.as_slice-when-items.result.now))
    (found_in_body n body_of c.as_slice-when-items.result.now c.loop-when.when-index c.when-item.result c.args.number c.loop-when.left c.in-Found.instr.now
    c.loop-when-test.true c.when-item.is (c.loop-when.invariant n deep) (c.in-Found.ensures n (omega arith))))

pub search_branches-loop-when-preserved : goal.search_branches-loop-when-preserved
search_branches-loop-when-preserved t c = λ n deep.
    let within = greatest_at (λ (w : When). body_nesting w.body) c.as_slice-when-items.result.now c.loop-when.when-index c.when-item.result c.loop-when-test.true c.when-item.is in
    let whole = greatest-flat nesting body_of c.as_slice-when-items.result.now in
    found_behind_body n body_of c.as_slice-when-items.result.now c.loop-when.when-index c.when-item.result c.args.number c.loop-when.left c.in-Behind.behind
    c.loop-when-test.true c.when-item.is (c.loop-when.invariant n deep) (c.in-Behind.ensures n (omega arith))

pub search_branches-returns : goal.search_branches-returns
search_branches-returns t c =
    subst (λ (l : List When). (n : ℕ) → body_nesting (branched l) ≤ n → length (in_order n (branched l)) + c.loop-when.left ≡ c.args.number) c.as_slice-when-items.ensures
    (λ n deep.
    ap (λ l. length l + c.loop-when.left) (in_order-flat n body_of c.as_slice-when-items.result.now)
    ∙ ap (λ l. length (flat_map (λ (w : When). in_order n w.body) l) + c.loop-when.left)
    (sym (take_all c.loop-when.when-index c.as_slice-when-items.result.now (omega arith)))
    ∙ c.loop-when.invariant n deep)

pub search_within-search-requires : goal.search_within-search-requires
search_within-search-requires t c =
    let is = nesting_is c.args.instr.now in
    let within = ap body_nesting c.in-Body.ensures in
    omega arith

pub search_within-search-requires-in-Bodies : goal.search_within-search-requires-in-Bodies
search_within-search-requires-in-Bodies t c =
    let is = nesting_is c.args.instr.now in
    let within = ap body_nesting c.in-Bodies.ensures ∙ body_nesting-append c.in-Bodies.body.now c.in-Bodies.other.now in
    omega arith

pub search_within-search-requires-in-Behind : goal.search_within-search-requires-in-Behind
search_within-search-requires-in-Behind t c =
    let is = nesting_is c.args.instr.now in
    let within = ap body_nesting c.in-Bodies.ensures ∙ body_nesting-append c.in-Bodies.body.now c.in-Bodies.other.now in
    omega arith

pub search_within-search_branches-requires : goal.search_within-search_branches-requires
search_within-search_branches-requires t c =
    let is = nesting_is c.args.instr.now in
    let within = ap body_nesting c.in-Branches.ensures ∙ body_nesting-append (branched c.in-Branches.whens.now) c.in-Branches.other.now in
    omega arith

pub search_within-search-requires-in-Behind-search_branches : goal.search_within-search-requires-in-Behind-search_branches
search_within-search-requires-in-Behind-search_branches t c =
    let is = nesting_is c.args.instr.now in
    let within = ap body_nesting c.in-Branches.ensures ∙ body_nesting-append (branched c.in-Branches.whens.now) c.in-Branches.other.now in
    omega arith

pub search_within-returns-in-Nothing : goal.search_within-returns-in-Nothing
search_within-returns-in-Nothing t c = λ n deep.
    ap (λ l. length (in_order n l) + c.args.number) c.in-Nothing.ensures ∙ elim n as (λ n. length (in_order n []) + c.args.number ≡ c.args.number) [ zero ↦ omega arith | suc m ↦ omega arith ]

pub search_within-returns-in-Body : goal.search_within-returns-in-Body
search_within-returns-in-Body t c = λ n deep.
    let is = nesting_is c.args.instr.now in
    let within = ap body_nesting c.in-Body.ensures in
    subst (λ l. Searches (in_order n l) c.args.number c.search.result) (sym c.in-Body.ensures) (c.search.ensures n (omega arith))

pub search_within-returns-in-Found : goal.search_within-returns-in-Found
search_within-returns-in-Found t c = λ n deep.
    let is = nesting_is c.args.instr.now in
    let a = c.in-Bodies.body.now in
    let b = c.in-Bodies.other.now in
    let within = ap body_nesting c.in-Bodies.ensures ∙ body_nesting-append a b in
    subst (λ l. slice_get (in_order n l) c.args.number ≡ Some c.in-Found.instr.now) (sym c.in-Bodies.ensures)
    (subst (λ l. slice_get l c.args.number ≡ Some c.in-Found.instr.now) (sym (in_order-append n a b))
    (got_before (in_order n a) (in_order n b) c.args.number c.in-Found.instr.now (c.in-Found.ensures n (omega arith))))

pub search_within-returns-in-Behind : goal.search_within-returns-in-Behind
search_within-returns-in-Behind t c = λ n deep.
    let is = nesting_is c.args.instr.now in
    let a = c.in-Bodies.body.now in
    let b = c.in-Bodies.other.now in
    let within = ap body_nesting c.in-Bodies.ensures ∙ body_nesting-append a b in
    subst (λ l. Searches (in_order n l) c.args.number c.search-in-Behind.result) (sym c.in-Bodies.ensures)
    (subst (λ l. Searches l c.args.number c.search-in-Behind.result) (sym (in_order-append n a b))
    (goes_on (in_order n a) (in_order n b) c.args.number c.in-Behind.left c.search-in-Behind.result (c.in-Behind.ensures n (omega arith)) (c.search-in-Behind.ensures n (omega arith))))

pub search_within-returns-in-Found-search_branches : goal.search_within-returns-in-Found-search_branches
search_within-returns-in-Found-search_branches t c = λ n deep.
    let is = nesting_is c.args.instr.now in
    let a = branched c.in-Branches.whens.now in
    let b = c.in-Branches.other.now in
    let within = ap body_nesting c.in-Branches.ensures ∙ body_nesting-append a b in
    subst (λ l. slice_get (in_order n l) c.args.number ≡ Some c.in-Found-search_branches.instr.now) (sym c.in-Branches.ensures)
    (subst (λ l. slice_get l c.args.number ≡ Some c.in-Found-search_branches.instr.now) (sym (in_order-append n a b))
    (got_before (in_order n a) (in_order n b) c.args.number c.in-Found-search_branches.instr.now (c.in-Found-search_branches.ensures n (omega arith))))

pub search_within-returns-in-Behind-search_branches : goal.search_within-returns-in-Behind-search_branches
search_within-returns-in-Behind-search_branches t c = λ n deep.
    let is = nesting_is c.args.instr.now in
    let a = branched c.in-Branches.whens.now in
    let b = c.in-Branches.other.now in
    let within = ap body_nesting c.in-Branches.ensures ∙ body_nesting-append a b in
    subst (λ l. Searches (in_order n l) c.args.number c.search-in-Behind-search_branches.result) (sym c.in-Branches.ensures)
    (subst (λ l. Searches l c.args.number c.search-in-Behind-search_branches.result) (sym (in_order-append n a b))
    (goes_on (in_order n a) (in_order n b) c.args.number c.in-Behind-search_branches.left c.search-in-Behind-search_branches.result
    (c.in-Behind-search_branches.ensures n (omega arith)) (c.search-in-Behind-search_branches.ensures n (omega arith))))
