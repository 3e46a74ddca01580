-- The text of the current node.
use Rattle.std.proofs.Common.{◌≡◌, suc, ◌-◌, List, [], ◌∷◌, Some, None, Ok, length, refl, ap, ◌∙◌, arith}
use Rattle.std.proofs.Math.Dec.{leb-zero}
use Rattle.std.specs.Prelude.{if◌then◌else◌, slice_get}
use Rattle.std.specs.Option.{option_map}
use Rattle.node_stack.specs.Path.{Node, Path, PathNode, current, last_of, node_at, string_value, text_of}
use Rattle.node_stack.specs.Stack.{path}
use Rattle.stxpath_eval.specs.Setting.{Setting}
use Rattle.stxpath_eval.specs.Value.{Value, at_or_attributes}
use Rattle.stxpath_syntax.specs.declared.expr.Expr.{Expr}
use Rattle.stxpath_syntax.specs.declared.expr.Expr.TheVariants as e
use Rattle.stxpath_values.specs.Outcome.{and_then}
use Rattle.template_machine.specs.Saying.{sight}
use Rattle.template_machine.specs.Values.{items_text, space}
use Rattle.template_machine.specs.declared.program.Program.{Program}
use Rattle.template_machine.specs.declared.run.Run.{Run}
use Rattle.template_machine.proofs.Computing.{value_up}
use Rattle.template_machine.proofs.Saying.{whole_text}

last_at : (xs : List PathNode) → slice_get xs (length xs - 1) ≡ last_of xs
last_at [] = refl
last_at (x ∷ []) = refl
last_at (x ∷ y ∷ xs) =
    let less : length (x ∷ y ∷ xs) - 1 ≡ suc (length (y ∷ xs) - 1) = omega arith in
    ap (slice_get (x ∷ y ∷ xs)) less ∙ last_at (y ∷ xs)

here : (p : Path) (n : Node) → current p ≡ Some n → text_of (node_at p (length p.nodes - 1 - 0)) ≡ string_value n
here p n is =
    let none_off : length p.nodes - 1 - 0 ≡ length p.nodes - 1 = omega arith in
    ap (λ k. text_of (node_at p k)) none_off ∙ ap (λ o. text_of (option_map (λ (x : PathNode). x.node) o)) (last_at p.nodes) ∙ ap text_of is

pub current_text : (p : Program) (r : Run) (n : Node) (select : Expr) → current (path r.source.stack) ≡ Some n → select ≡ e.Up 0 None
    → whole_text select None (sight p r) ≡ Ok (string_value n)
current_text p r n select is so =
    let g = sight p r in
    let next : Value → _ = λ v. and_then v (λ items. items_text g space items) in
    ap (λ x. whole_text x None g) so ∙ ap (λ (m : Setting → Value). next (m g)) (value_up 0 None)
    ∙ ap (λ b. next (if b then at_or_attributes g (g.place - 0) None else Ok [])) (leb-zero g.place)
    ∙ ap Ok (here g.path n is)
