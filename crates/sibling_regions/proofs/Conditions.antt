-- The patterns that end siblings can be evaluated.
use Rattle.std.proofs.Common.{◌≡◌, List, [], ◌∷◌, ◌++◌, All, get_or, Option, Some, None, refl, ap, sym, subst, ◌∙◌, arith}
use Rattle.std.proofs.lemmas.List.Elements.{All-map, Contains-get_or}
use Rattle.std.specs.Option.{option_to_list}
use Rattle.instr_code.specs.Bare.{bare, bare_layer}
use Rattle.sheet_model.specs.Body.{instructions}
use Rattle.sheet_model.specs.Parts.{conditions}
use Rattle.sheet_model.specs.Sound.{IsReadableInstruction}
use Rattle.sheet_model.specs.declared.instr.Instr.{Instr}
use Rattle.sheet_model.specs.declared.instr.Instr.TheOpen.{Instr-F}
use Rattle.sheet_model.specs.declared.instr.Instr.TheViews.{out-Instr, out-roll-Instr, rolls-ProcessSiblings}
use Rattle.sheet_model.specs.declared.instr.Instr.TheVariants.{ProcessSiblings}
use Rattle.sheet_model.specs.declared.instr.When.{When}
use Rattle.sheet_model.specs.declared.instr.WithParam.{WithParam}
use Rattle.stx_base.specs.declared.fault.Place.{Place}
use Rattle.stx_base.specs.declared.name.Name.{Name}
use Rattle.sibling_regions.specs.Laws.{CodeCanBeAsked}
use Rattle.stxpath_syntax.proofs.Evaluable.{readable_alternative}
use Rattle.stxpath_syntax.specs.Readable.{IsReadablePattern}
use Rattle.stxpath_syntax.specs.Shape.{PredicatesCanBeEvaluated}
use Rattle.stxpath_syntax.specs.declared.expr.Pattern.{Pattern}

-- the patterns that end the siblings of an instruction can be evaluated
abbrev pub AreEvaluable : Instr → Type 0
AreEvaluable i = All (λ (p : Pattern). All PredicatesCanBeEvaluated p.alternatives) (conditions (out-Instr i))

-- of all of two options, what holds of the first and of the second

pub of_first : {A : Type 0} (P : A → Type 0) (a b : Option A) → All P (option_to_list a ++ option_to_list b) → (x : A) → a ≡ Some x → P x
of_first P a b all x e =
    let first : All P (x ∷ option_to_list b) = subst (λ o. All P (option_to_list o ++ option_to_list b)) e all in first 0 x (omega arith)

pub of_second : {A : Type 0} (P : A → Type 0) (a b : Option A) → All P (option_to_list a ++ option_to_list b) → (x : A) → b ≡ Some x → P x
of_second P None b all x e = (let one : All P (x ∷ []) = subst (λ o. All P (option_to_list o)) e all in one 0 x (omega arith))
of_second P (Some y) b all x e = (let two : All P (y ∷ x ∷ []) = subst (λ o. All P (y ∷ option_to_list o)) e all in two 1 x (omega arith))

-- the conditions of a process-siblings are its two patterns

siblings_have : (going until : Option Pattern) (group : Option Name) (params : List WithParam) (at : Place)
    → conditions (out-Instr (ProcessSiblings going until group params at)) ≡ option_to_list going ++ option_to_list until
siblings_have going until group params at =
    ap (λ i. conditions (out-Instr i)) (sym (rolls-ProcessSiblings going until group params at)) ∙ ap conditions (out-roll-Instr (Instr-F.ProcessSiblings going until group params at))

pub both_evaluable : (i : Instr) (going until : Option Pattern) (group : Option Name) (params : List WithParam) (at : Place)
    → AreEvaluable i → i ≡ ProcessSiblings going until group params at
    → All (λ (p : Pattern). All PredicatesCanBeEvaluated p.alternatives) (option_to_list going ++ option_to_list until)
both_evaluable i going until group params at all is =
    subst (λ ps. All (λ (p : Pattern). All PredicatesCanBeEvaluated p.alternatives) ps) (ap (λ x. conditions (out-Instr x)) is ∙ siblings_have going until group params at) all

-- An instruction keeps its conditions where the lists inside it are emptied.

layer_keeps : (x : Instr-F Instr When) → conditions (bare_layer x) ≡ conditions x
layer_keeps (Instr-F.ProcessSiblings going until group params at) = refl
layer_keeps x = refl

bare_keeps : (i : Instr) → conditions (out-Instr (bare i)) ≡ conditions (out-Instr i)
bare_keeps i = ap conditions (out-roll-Instr (bare_layer (out-Instr i))) ∙ layer_keeps (out-Instr i)

readable_ends : (p : Pattern) → IsReadablePattern p.alternatives → All PredicatesCanBeEvaluated p.alternatives
readable_ends p readable k d h =
    readable_alternative (get_or p.alternatives k d) (p.alternatives, readable, Contains-get_or p.alternatives k d h)

bare_evaluable : (i : Instr) → IsReadableInstruction i → AreEvaluable (bare i)
bare_evaluable i readable =
    subst (λ ps. All (λ (p : Pattern). All PredicatesCanBeEvaluated p.alternatives) ps) (sym (bare_keeps i))
    (λ k d h. readable_ends (get_or (conditions (out-Instr i)) k d) (readable.conditions k d h))

pub code_can_be_asked : CodeCanBeAsked
code_can_be_asked sheet readable =
    All-map AreEvaluable bare (instructions sheet) (λ k d h. bare_evaluable (get_or (instructions sheet) k d) (readable.instructions k d h))
