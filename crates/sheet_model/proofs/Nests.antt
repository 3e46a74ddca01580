-- How deep instructions nest, by what stands within them.
use Rattle.std.proofs.Common.{◌≡◌, ℕ, ◌+◌, ◌<◌, ◌≤◌, List, [], ◌∷◌, ◌++◌, length, get_or, map, max, refl, ap, sym, ◌∙◌}
use Rattle.std.specs.List.{flat_map}
use Rattle.stxpath_syntax.specs.Shape.{greatest}
use Rattle.sheet_model.specs.Body.{body_nesting, branch_nesting, children, inner, layer_nesting, nesting, sheet_nesting}
use Rattle.sheet_model.specs.declared.instr.Instr.{Instr}
use Rattle.sheet_model.specs.declared.instr.Instr.TheFolds.{fold-When, fold-roll-Instr, fold-roll-When}
use Rattle.sheet_model.specs.declared.instr.Instr.TheOpen.{Instr-F}
use Rattle.sheet_model.specs.declared.instr.Instr.TheViews.{out-Instr, roll-Instr, roll-out-Instr}
use Rattle.sheet_model.specs.declared.instr.When.{When}
use Rattle.sheet_model.specs.declared.sheet.Procedure.{Procedure}
use Rattle.sheet_model.specs.declared.sheet.Sheet.{Sheet}
use Rattle.sheet_model.specs.declared.sheet.Template.{Template}
use Rattle.sheet_model.proofs.Lists.{greatest-append, greatest-flat, greatest_at, map-append}

abbrev branch : When → List ℕ
branch = fold-When ℕ (List ℕ) layer_nesting branch_nesting

-- a branch has the nesting of each instruction of its body
branch_is : (w : When) → branch w ≡ map nesting w.body
unfolding nesting
branch_is w = fold-roll-When ℕ (List ℕ) layer_nesting branch_nesting (record { test = w.test; body = w.body })

branches_are : (ws : List When) → flat_map (λ b. b) (map branch ws) ≡ map nesting (flat_map (λ (w : When). w.body) ws)
branches_are [] = refl
branches_are (w ∷ ws) =
    ap (λ l. l ++ flat_map (λ b. b) (map branch ws)) (branch_is w)
    ∙ ap (λ l. map nesting w.body ++ l) (branches_are ws)
    ∙ sym (map-append nesting w.body (flat_map (λ (w : When). w.body) ws))

abbrev NestsBy : Instr-F Instr When → Type 0
NestsBy x = nesting (roll-Instr x) ≡ body_nesting (inner (λ (w : When). w.body) x) + 1

by_layer : (x : Instr-F Instr When) → NestsBy x
unfolding nesting
by_layer (Instr-F.If test body other at) =
    fold-roll-Instr ℕ (List ℕ) layer_nesting branch_nesting (Instr-F.If test body other at)
    ∙ ap (λ l. greatest l + 1) (sym (map-append nesting body other))
by_layer (Instr-F.Choose whens other at) =
    fold-roll-Instr ℕ (List ℕ) layer_nesting branch_nesting (Instr-F.Choose whens other at)
    ∙ ap (λ l. greatest (l ++ map nesting other) + 1) (branches_are whens)
    ∙ ap (λ l. greatest l + 1) (sym (map-append nesting (flat_map (λ (w : When). w.body) whens) other))
by_layer (Instr-F.ValueOf select separator at) = fold-roll-Instr ℕ (List ℕ) layer_nesting branch_nesting (Instr-F.ValueOf select separator at)
by_layer (Instr-F.Chars text at) = fold-roll-Instr ℕ (List ℕ) layer_nesting branch_nesting (Instr-F.Chars text at)
by_layer (Instr-F.Copy attributes body at) = fold-roll-Instr ℕ (List ℕ) layer_nesting branch_nesting (Instr-F.Copy attributes body at)
by_layer (Instr-F.Element name namespace scope body at) = fold-roll-Instr ℕ (List ℕ) layer_nesting branch_nesting (Instr-F.Element name namespace scope body at)
by_layer (Instr-F.StartElement name namespace scope at) = fold-roll-Instr ℕ (List ℕ) layer_nesting branch_nesting (Instr-F.StartElement name namespace scope at)
by_layer (Instr-F.EndElement name namespace scope at) = fold-roll-Instr ℕ (List ℕ) layer_nesting branch_nesting (Instr-F.EndElement name namespace scope at)
by_layer (Instr-F.Attribute name namespace scope content at) = fold-roll-Instr ℕ (List ℕ) layer_nesting branch_nesting (Instr-F.Attribute name namespace scope content at)
by_layer (Instr-F.Comment content at) = fold-roll-Instr ℕ (List ℕ) layer_nesting branch_nesting (Instr-F.Comment content at)
by_layer (Instr-F.Pi name scope content at) = fold-roll-Instr ℕ (List ℕ) layer_nesting branch_nesting (Instr-F.Pi name scope content at)
by_layer (Instr-F.Message content at) = fold-roll-Instr ℕ (List ℕ) layer_nesting branch_nesting (Instr-F.Message content at)
by_layer (Instr-F.ForEachItem name select body at) = fold-roll-Instr ℕ (List ℕ) layer_nesting branch_nesting (Instr-F.ForEachItem name select body at)
by_layer (Instr-F.While test body at) = fold-roll-Instr ℕ (List ℕ) layer_nesting branch_nesting (Instr-F.While test body at)
by_layer (Instr-F.Assign name select at) = fold-roll-Instr ℕ (List ℕ) layer_nesting branch_nesting (Instr-F.Assign name select at)
by_layer (Instr-F.CallProcedure name params at) = fold-roll-Instr ℕ (List ℕ) layer_nesting branch_nesting (Instr-F.CallProcedure name params at)
by_layer (Instr-F.ProcessChildren group params at) = fold-roll-Instr ℕ (List ℕ) layer_nesting branch_nesting (Instr-F.ProcessChildren group params at)
by_layer (Instr-F.ProcessAttributes group params at) = fold-roll-Instr ℕ (List ℕ) layer_nesting branch_nesting (Instr-F.ProcessAttributes group params at)
by_layer (Instr-F.ProcessSelf group params at) = fold-roll-Instr ℕ (List ℕ) layer_nesting branch_nesting (Instr-F.ProcessSelf group params at)
by_layer (Instr-F.ProcessSiblings going until group params at) = fold-roll-Instr ℕ (List ℕ) layer_nesting branch_nesting (Instr-F.ProcessSiblings going until group params at)
by_layer (Instr-F.ProcessBuffer name group params at) = fold-roll-Instr ℕ (List ℕ) layer_nesting branch_nesting (Instr-F.ProcessBuffer name group params at)
by_layer (Instr-F.ProcessDocument href group params at) = fold-roll-Instr ℕ (List ℕ) layer_nesting branch_nesting (Instr-F.ProcessDocument href group params at)
by_layer (Instr-F.ResultBuffer name clear body at) = fold-roll-Instr ℕ (List ℕ) layer_nesting branch_nesting (Instr-F.ResultBuffer name clear body at)
by_layer (Instr-F.Literal name attrs body at) = fold-roll-Instr ℕ (List ℕ) layer_nesting branch_nesting (Instr-F.Literal name attrs body at)
by_layer (Instr-F.LiteralChars text at) = fold-roll-Instr ℕ (List ℕ) layer_nesting branch_nesting (Instr-F.LiteralChars text at)
by_layer (Instr-F.Local name select at) = fold-roll-Instr ℕ (List ℕ) layer_nesting branch_nesting (Instr-F.Local name select at)

-- an instruction nests one deeper than what stands within it
pub nesting_is : (i : Instr) → nesting i ≡ body_nesting (children i) + 1
nesting_is i = ap nesting (sym (roll-out-Instr i)) ∙ by_layer (out-Instr i)

-- no instruction of a body nests deeper than the body
pub nests_within : (body : List Instr) (i : ℕ) (x : Instr) → i < length body → x ≡ get_or body i x → nesting x ≤ body_nesting body
nests_within body i x h at = greatest_at nesting body i x h at

pub body_nesting-append : (a b : List Instr) → body_nesting (a ++ b) ≡ max (body_nesting a) (body_nesting b)
body_nesting-append a b = ap greatest (map-append nesting a b) ∙ greatest-append (map nesting a) (map nesting b)

pub sheet_nesting_is : (s : Sheet) → sheet_nesting s ≡ max (greatest (map (λ (t : Template). body_nesting t.body) s.templates)) (greatest (map (λ (p : Procedure). body_nesting p.body) s.procedures))
sheet_nesting_is s =
    body_nesting-append (flat_map (λ (t : Template). t.body) s.templates) (flat_map (λ (p : Procedure). p.body) s.procedures)
    ∙ ap (λ n. max n (body_nesting (flat_map (λ (p : Procedure). p.body) s.procedures))) (greatest-flat nesting (λ (t : Template). t.body) s.templates)
    ∙ ap (λ n. max (greatest (map (λ (t : Template). body_nesting t.body) s.templates)) n) (greatest-flat nesting (λ (p : Procedure). p.body) s.procedures)
