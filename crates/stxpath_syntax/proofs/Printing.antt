-- What is printed of each form, and what prefixes are in it.
use Rattle.std.proofs.Common.{◌≡◌, ℕ, zero, suc, ◌+◌, ◌-◌, ◌≤◌, ◌<◌, Bool, true, false, cond, nat_eq, ℤ, List, [], ◌∷◌, ◌++◌, Option, Result, Ok, Err, OnOk, length, drop, get_or, sym, ◌∙◌, refl, ap, map, append_assoc, arith, codes}
use Rattle.std.specs.Fmt.{signed_decimal}
use Rattle.std.specs.List.{concat, flat_map, repeat}
use Rattle.std.proofs.lemmas.Bool.Decides.{nat_tests}
use Rattle.std.proofs.lemmas.List.{append-nil}
use Rattle.stx_base.specs.declared.expression.Fun.{Fun}
use Rattle.stx_base.specs.declared.name.Binding.{Binding}
use Rattle.stx_base.specs.declared.name.Name.{Name}
use Rattle.stx_base.specs.declared.node.NodeTest.{NodeTest}
use Rattle.stx_base.specs.Functions.{word}
use Rattle.stxpath_syntax.specs.declared.expr.Bin.{Bin}
use Rattle.stxpath_syntax.specs.declared.expr.Expr.{Expr}
use Rattle.stxpath_syntax.specs.declared.expr.Expr.TheFolds.{fold-roll-Expr, fold-roll-PathStep, fold_out-PathStep}
use Rattle.stxpath_syntax.specs.declared.expr.Expr.TheOpen.{Expr-F}
use Rattle.stxpath_syntax.specs.declared.expr.Expr.TheVariants as e
use Rattle.stxpath_syntax.specs.declared.expr.Expr.TheViews.{rolls-Whole, rolls-Literal, rolls-Var, rolls-Call, rolls-Seq, rolls-Neg, rolls-Binary, rolls-Root, rolls-Abs, rolls-Up, rolls-Attr}
use Rattle.stxpath_syntax.specs.declared.expr.Link.{Link}
use Rattle.stxpath_syntax.specs.declared.expr.PathStep.{PathStep, out-PathStep}
use Rattle.stxpath_syntax.specs.Meaning.{step_of}
use Rattle.stxpath_syntax.specs.Printing.{sign_of, link_text, quoted, name_text, test_text, ending_text, parents_text, Printed, closed, loose, in_parentheses, operand, comma_before, listed, predicates, step_layer, layer, printed, step_text, prefix_bound, test_prefixes, ending_prefixes, all_prefixes, prefixes_of_step, prefixes_of_layer, prefixes_in, prefixes_in_step}

pub printed_whole : (i : ℤ) → printed (e.Whole i) ≡ closed (signed_decimal i)
unfolding printed
printed_whole i = ap printed (sym (rolls-Whole i)) ∙ fold-roll-Expr Printed (List ℕ) layer step_layer (Expr-F.Whole i)

pub printed_literal : (text : List ℕ) → printed (e.Literal text) ≡ closed (quoted text)
unfolding printed
printed_literal text = ap printed (sym (rolls-Literal text)) ∙ fold-roll-Expr Printed (List ℕ) layer step_layer (Expr-F.Literal text)

pub printed_var : (name : Name) → printed (e.Var name) ≡ closed (36 ∷ name_text name)
unfolding printed
printed_var name = ap printed (sym (rolls-Var name)) ∙ fold-roll-Expr Printed (List ℕ) layer step_layer (Expr-F.Var name)

pub printed_call : (f : Fun) (es : List Expr) → printed (e.Call f es) ≡ closed (word f ++ in_parentheses (listed (map printed es)))
unfolding printed
printed_call f es = ap printed (sym (rolls-Call f es)) ∙ fold-roll-Expr Printed (List ℕ) layer step_layer (Expr-F.Call f es)

pub printed_seq : (es : List Expr) → printed (e.Seq es) ≡ closed (in_parentheses (listed (map printed es)))
unfolding printed
printed_seq es = ap printed (sym (rolls-Seq es)) ∙ fold-roll-Expr Printed (List ℕ) layer step_layer (Expr-F.Seq es)

pub printed_neg : (x : Expr) → printed (e.Neg x) ≡ loose (45 ∷ operand (printed x))
unfolding printed
printed_neg x = ap printed (sym (rolls-Neg x)) ∙ fold-roll-Expr Printed (List ℕ) layer step_layer (Expr-F.Neg x)

pub printed_binary : (b : Bin) (x y : Expr) → printed (e.Binary b x y) ≡ loose (operand (printed x) ++ 32 ∷ (sign_of b ++ 32 ∷ operand (printed y)))
unfolding printed
printed_binary b x y = ap printed (sym (rolls-Binary b x y)) ∙ fold-roll-Expr Printed (List ℕ) layer step_layer (Expr-F.Binary b x y)

pub printed_root : printed e.Root ≡ loose (codes "/")
unfolding printed
printed_root = ap printed (sym rolls-Root) ∙ fold-roll-Expr Printed (List ℕ) layer step_layer Expr-F.Root

pub printed_abs : (steps : List PathStep) (t : Option NodeTest) → printed (e.Abs steps t) ≡ closed (concat (map step_text steps) ++ ending_text t)
unfolding printed step_text
printed_abs steps t = ap printed (sym (rolls-Abs steps t)) ∙ fold-roll-Expr Printed (List ℕ) layer step_layer (Expr-F.Abs steps t)

pub printed_up : (n : ℕ) (t : Option NodeTest) → printed (e.Up n t) ≡ closed (parents_text n ++ ending_text t)
unfolding printed
printed_up n t = ap printed (sym (rolls-Up n t)) ∙ fold-roll-Expr Printed (List ℕ) layer step_layer (Expr-F.Up n t)

pub printed_attr : (t : NodeTest) → printed (e.Attr t) ≡ closed (test_text t)
unfolding printed
printed_attr t = ap printed (sym (rolls-Attr t)) ∙ fold-roll-Expr Printed (List ℕ) layer step_layer (Expr-F.Attr t)

-- what is printed of each form of an expression
pub ruleset printed_forms = (printed_whole, printed_literal, printed_var, printed_call, printed_seq, printed_neg, printed_binary, printed_root, printed_abs, printed_up, printed_attr)

pub printed_step : (l : Link) (t : NodeTest) (es : List Expr) → step_text (step_of l t es) ≡ link_text l ++ test_text t ++ predicates (map printed es)
unfolding printed step_text
printed_step l t es = fold-roll-PathStep Printed (List ℕ) layer step_layer (record { link = l; test = t; predicates = es })

pub printed_out : (s : PathStep) → step_text s ≡ link_text (out-PathStep s).link ++ test_text (out-PathStep s).test ++ predicates (map printed (out-PathStep s).predicates)
unfolding printed step_text
printed_out s = fold_out-PathStep Printed (List ℕ) layer step_layer s

-- ---- prefixes

pub prefixes_var : (name : Name) → prefixes_in (e.Var name) ≡ prefix_bound name.prefix name.uri
unfolding prefixes_in
prefixes_var name = ap prefixes_in (sym (rolls-Var name)) ∙ fold-roll-Expr (List Binding) (List Binding) prefixes_of_layer prefixes_of_step (Expr-F.Var name)

pub prefixes_call : (f : Fun) (es : List Expr) → prefixes_in (e.Call f es) ≡ all_prefixes (map prefixes_in es)
unfolding prefixes_in
prefixes_call f es = ap prefixes_in (sym (rolls-Call f es)) ∙ fold-roll-Expr (List Binding) (List Binding) prefixes_of_layer prefixes_of_step (Expr-F.Call f es)

pub prefixes_seq : (es : List Expr) → prefixes_in (e.Seq es) ≡ all_prefixes (map prefixes_in es)
unfolding prefixes_in
prefixes_seq es = ap prefixes_in (sym (rolls-Seq es)) ∙ fold-roll-Expr (List Binding) (List Binding) prefixes_of_layer prefixes_of_step (Expr-F.Seq es)

pub prefixes_neg : (x : Expr) → prefixes_in (e.Neg x) ≡ prefixes_in x
unfolding prefixes_in
prefixes_neg x = ap prefixes_in (sym (rolls-Neg x)) ∙ fold-roll-Expr (List Binding) (List Binding) prefixes_of_layer prefixes_of_step (Expr-F.Neg x)

pub prefixes_binary : (b : Bin) (x y : Expr) → prefixes_in (e.Binary b x y) ≡ prefixes_in x ++ prefixes_in y
unfolding prefixes_in
prefixes_binary b x y = ap prefixes_in (sym (rolls-Binary b x y)) ∙ fold-roll-Expr (List Binding) (List Binding) prefixes_of_layer prefixes_of_step (Expr-F.Binary b x y)

pub prefixes_abs : (steps : List PathStep) (t : Option NodeTest) → prefixes_in (e.Abs steps t) ≡ all_prefixes (map prefixes_in_step steps) ++ ending_prefixes t
unfolding prefixes_in prefixes_in_step
prefixes_abs steps t = ap prefixes_in (sym (rolls-Abs steps t)) ∙ fold-roll-Expr (List Binding) (List Binding) prefixes_of_layer prefixes_of_step (Expr-F.Abs steps t)

pub prefixes_up : (n : ℕ) (t : Option NodeTest) → prefixes_in (e.Up n t) ≡ ending_prefixes t
unfolding prefixes_in
prefixes_up n t = ap prefixes_in (sym (rolls-Up n t)) ∙ fold-roll-Expr (List Binding) (List Binding) prefixes_of_layer prefixes_of_step (Expr-F.Up n t)

pub prefixes_attr : (t : NodeTest) → prefixes_in (e.Attr t) ≡ test_prefixes t
unfolding prefixes_in
prefixes_attr t = ap prefixes_in (sym (rolls-Attr t)) ∙ fold-roll-Expr (List Binding) (List Binding) prefixes_of_layer prefixes_of_step (Expr-F.Attr t)

pub prefixes_step : (l : Link) (t : NodeTest) (es : List Expr) → prefixes_in_step (step_of l t es) ≡ test_prefixes t ++ all_prefixes (map prefixes_in es)
unfolding prefixes_in prefixes_in_step
prefixes_step l t es = fold-roll-PathStep (List Binding) (List Binding) prefixes_of_layer prefixes_of_step (record { link = l; test = t; predicates = es })

-- ---- one more item

pub map_snoc : {A B : Type 0} (f : A → B) (xs : List A) (x : A) → map f (xs ++ x ∷ []) ≡ map f xs ++ f x ∷ []
map_snoc f [] x = refl
map_snoc f (y ∷ xs) x = ap (λ ys. f y ∷ ys) (map_snoc f xs x)

pub flat_snoc : {A B : Type 0} (f : A → List B) (xs : List A) (x : A) → flat_map f (xs ++ x ∷ []) ≡ flat_map f xs ++ f x
flat_snoc f [] x = append-nil (f x)
flat_snoc f (y ∷ xs) x = ap (λ ys. f y ++ ys) (flat_snoc f xs x) ∙ sym (append_assoc (f y) (flat_map f xs) (f x))

pub concat_snoc : (xs : List (List ℕ)) (x : List ℕ) → concat (xs ++ x ∷ []) ≡ concat xs ++ x
concat_snoc [] x = append-nil x
concat_snoc (y ∷ xs) x = ap (λ ys. y ++ ys) (concat_snoc xs x) ∙ sym (append_assoc y (concat xs) x)

-- each text with a comma and a space behind it
abbrev pub led : List Printed → List ℕ
led = flat_map (λ p. p.text ++ 44 ∷ 32 ∷ [])

behind_comma : (ps : List Printed) (p : Printed) → flat_map (λ q. 44 ∷ 32 ∷ q.text) (ps ++ p ∷ []) ≡ 44 ∷ 32 ∷ (led ps ++ p.text)
behind_comma [] p = append-nil (44 ∷ 32 ∷ p.text)
behind_comma (q ∷ ps) p =
    ap (λ cs. (44 ∷ 32 ∷ q.text) ++ cs) (behind_comma ps p)
    ∙ ap (λ cs. 44 ∷ 32 ∷ cs) (sym (append_assoc q.text (44 ∷ 32 ∷ []) (led ps ++ p.text)) ∙ sym (append_assoc (q.text ++ 44 ∷ 32 ∷ []) (led ps) p.text))

pub listed_snoc : (ps : List Printed) (p : Printed) → listed (ps ++ p ∷ []) ≡ led ps ++ p.text
listed_snoc [] p = append-nil p.text
listed_snoc (q ∷ ps) p =
    ap (λ cs. q.text ++ cs) (behind_comma ps p)
    ∙ sym (append_assoc q.text (44 ∷ 32 ∷ []) (led ps ++ p.text)) ∙ sym (append_assoc (q.text ++ 44 ∷ 32 ∷ []) (led ps) p.text)

-- ---- what loops put

pub repeat_push : (n : ℕ) (xs : List ℕ) → repeat (n + 1) xs ≡ repeat n xs ++ xs
repeat_push zero xs = append-nil xs
repeat_push (suc n) xs =
    let e : suc n + 1 ≡ suc (n + 1) = omega arith in
    ap (λ k. repeat k xs) e ∙ ap (λ ys. xs ++ ys) (repeat_push n xs) ∙ sym (append_assoc xs (repeat n xs) xs)

abbrev pub with_commas : List Expr → List ℕ
with_commas es = flat_map (λ p. codes ", " ++ p.text) (map printed es)

-- what is still to be listed behind so many
unfoldable pub left : ℕ → List Expr → List ℕ
left i es = cond (nat_eq i 0) (listed (map printed es)) (with_commas (drop i es))

pub left_all : (es : List Expr) → left 0 es ≡ listed (map printed es)
unfolding left
left_all es = refl

commas_more : (es : List Expr) (i : ℕ) (d : Expr) → i < length es → with_commas (drop i es) ≡ (44 ∷ 32 ∷ (printed (get_or es i d)).text) ++ with_commas (drop (i + 1) es)
commas_more [] i d h = absurd (omega (arith, h))
commas_more (y ∷ es) zero d h = refl
commas_more (y ∷ es) (suc i) d h =
    let less : i < length es = omega (arith, h) in
    let next : i + 1 + 1 ≡ suc (i + 1) = omega arith in
    let step : suc (i + 1) ≡ suc i + 1 = omega arith in
    commas_more es i d less ∙ ap (λ k. (44 ∷ 32 ∷ (printed (get_or es i d)).text) ++ with_commas (drop k (y ∷ es))) step

commas_end : (es : List Expr) (i : ℕ) → length es ≤ i → with_commas (drop i es) ≡ []
commas_end [] zero h = refl
commas_end [] (suc i) h = refl
commas_end (y ∷ es) zero h = absurd (omega (arith, h))
commas_end (y ∷ es) (suc i) h = let less : length es ≤ i = omega (arith, h) in commas_end es i less

later : (i : ℕ) → nat_eq (i + 1) 0 ≡ false
later i = grind (arith, nat_tests)

pub left_more : (es : List Expr) (i : ℕ) (d : Expr) → i < length es → left i es ≡ comma_before i ++ (printed (get_or es i d)).text ++ left (i + 1) es
unfolding left
left_more [] i d h = absurd (omega (arith, h))
left_more (y ∷ es) zero d h = refl
left_more (y ∷ es) (suc i) d h =
    let no : nat_eq (suc i) 0 ≡ false = grind (arith, nat_tests) in
    ap (λ b. cond b (listed (map printed (y ∷ es))) (with_commas (drop (suc i) (y ∷ es)))) no ∙ commas_more (y ∷ es) (suc i) d h
    ∙ ap (λ b. cond b [] (44 ∷ 32 ∷ []) ++ (printed (get_or (y ∷ es) (suc i) d)).text ++ with_commas (drop (suc i + 1) (y ∷ es))) (sym no)
    ∙ ap (λ b. comma_before (suc i) ++ (printed (get_or (y ∷ es) (suc i) d)).text ++ cond b (listed (map printed (y ∷ es))) (with_commas (drop (suc i + 1) (y ∷ es)))) (sym (later (suc i)))

pub left_end : (es : List Expr) (i : ℕ) → length es ≤ i → left i es ≡ []
unfolding left
left_end [] zero h = refl
left_end [] (suc i) h = either (nat_eq (suc i) 0)
  where
    either : (b : Bool) → cond {A = List ℕ} b [] [] ≡ []
    either true = refl
    either false = refl
left_end (y ∷ es) zero h = absurd (omega (arith, h))
left_end (y ∷ es) (suc i) h =
    let no : nat_eq (suc i) 0 ≡ false = grind (arith, nat_tests) in
    ap (λ b. cond b (listed (map printed (y ∷ es))) (with_commas (drop (suc i) (y ∷ es)))) no ∙ commas_end (y ∷ es) (suc i) h

-- ---- one text behind another

pub on_ok : {E P Q : Type 0} (r : Result (Unit {0}) E) → (P → Q) → OnOk r P → OnOk r Q
on_ok (Ok u) f p = f p
on_ok (Err e) f p = tt

pub put_two : (a x y m new : List ℕ) → m ≡ a ++ x → new ≡ m ++ y → new ≡ a ++ (x ++ y)
put_two a x y m new e f = f ∙ ap (λ l. l ++ y) e ∙ append_assoc a x y

pub put_parents_on : (a : List ℕ) (n : ℕ) (m new : List ℕ) → (n ≡ 0 → ⊥) → m ≡ a ++ codes ".." → new ≡ m ++ repeat (n - 1) (codes "/..") → new ≡ a ++ parents_text n
put_parents_on a n m new some e f =
    let no : nat_eq n 0 ≡ false = not_zero n some in
    put_two a (codes "..") (repeat (n - 1) (codes "/..")) m new e f ∙ ap (λ b. a ++ cond b (codes ".") (codes ".." ++ repeat (n - 1) (codes "/.."))) (sym no)
  where
    not_zero : (n : ℕ) → (n ≡ 0 → ⊥) → nat_eq n 0 ≡ false
    not_zero n h = grind (arith, nat_tests)
