-- The test for ordinary sheets.
use Rattle.std.proofs.Common.{◌≡◌, zero, suc, true, List, [], ◌∷◌, arith, refl}
use Rattle.std.specs.Prelude.{All}
use Rattle.std.specs.List.{list_all}
use Rattle.std.proofs.lemmas.Bool.{and_from, and_parts, false≢true}
use Rattle.instr_code.specs.declared.code.Code.{Code}
use Rattle.sheet_model.specs.declared.instr.Instr.{Instr}
use Rattle.sheet_model.specs.declared.instr.Instr.TheOpen.{Instr-F}
use Rattle.sheet_model.specs.declared.instr.Instr.TheViews.{out-Instr}
use Rattle.sheet_model.specs.declared.instr.When.{When}
use Rattle.template_machine.specs.Ordinary.{InOrder, IsOrdinary, StaysInOrder}
use Rattle.stx_engine.specs.Laws.{TellsOrdinary}
use Rattle.stx_engine.specs.Plain.{is_ordinary, stays_in_order}

in-order : (x : Instr-F Instr When) → stays_in_order x ≡ true → StaysInOrder x
in-order (Instr-F.ValueOf select separator at) e = tt
in-order (Instr-F.Chars text at) e = tt
in-order (Instr-F.Copy attributes body at) e = tt
in-order (Instr-F.Element name namespace scope body at) e = tt
in-order (Instr-F.StartElement name namespace scope at) e = tt
in-order (Instr-F.EndElement name namespace scope at) e = tt
in-order (Instr-F.Attribute name namespace scope content at) e = tt
in-order (Instr-F.Comment content at) e = tt
in-order (Instr-F.Pi name scope content at) e = tt
in-order (Instr-F.Message content at) e = tt
in-order (Instr-F.If test body other at) e = tt
in-order (Instr-F.Choose whens other at) e = tt
in-order (Instr-F.ForEachItem name select body at) e = tt
in-order (Instr-F.While test body at) e = tt
in-order (Instr-F.Assign name select at) e = tt
in-order (Instr-F.CallProcedure name params at) e = tt
in-order (Instr-F.ProcessChildren group params at) e = tt
in-order (Instr-F.ProcessAttributes group params at) e = tt
in-order (Instr-F.ProcessSelf group params at) e = tt
in-order (Instr-F.ProcessSiblings going until group params at) e = absurd (false≢true e)
in-order (Instr-F.ProcessBuffer name group params at) e = absurd (false≢true e)
in-order (Instr-F.ProcessDocument href group params at) e = absurd (false≢true e)
in-order (Instr-F.ResultBuffer name clear body at) e = absurd (false≢true e)
in-order (Instr-F.Literal name attrs body at) e = tt
in-order (Instr-F.LiteralChars text at) e = tt
in-order (Instr-F.Local name select at) e = tt

stays : (x : Instr-F Instr When) → StaysInOrder x → stays_in_order x ≡ true
stays (Instr-F.ValueOf select separator at) h = refl
stays (Instr-F.Chars text at) h = refl
stays (Instr-F.Copy attributes body at) h = refl
stays (Instr-F.Element name namespace scope body at) h = refl
stays (Instr-F.StartElement name namespace scope at) h = refl
stays (Instr-F.EndElement name namespace scope at) h = refl
stays (Instr-F.Attribute name namespace scope content at) h = refl
stays (Instr-F.Comment content at) h = refl
stays (Instr-F.Pi name scope content at) h = refl
stays (Instr-F.Message content at) h = refl
stays (Instr-F.If test body other at) h = refl
stays (Instr-F.Choose whens other at) h = refl
stays (Instr-F.ForEachItem name select body at) h = refl
stays (Instr-F.While test body at) h = refl
stays (Instr-F.Assign name select at) h = refl
stays (Instr-F.CallProcedure name params at) h = refl
stays (Instr-F.ProcessChildren group params at) h = refl
stays (Instr-F.ProcessAttributes group params at) h = refl
stays (Instr-F.ProcessSelf group params at) h = refl
stays (Instr-F.ProcessSiblings going until group params at) h = absurd h
stays (Instr-F.ProcessBuffer name group params at) h = absurd h
stays (Instr-F.ProcessDocument href group params at) h = absurd h
stays (Instr-F.ResultBuffer name clear body at) h = absurd h
stays (Instr-F.Literal name attrs body at) h = refl
stays (Instr-F.LiteralChars text at) h = refl
stays (Instr-F.Local name select at) h = refl

all-in-order : (is : List Instr) → list_all (λ i. stays_in_order (out-Instr i)) is ≡ true → All InOrder is
all-in-order [] e k d m = absurd (omega (arith, m))
all-in-order (i ∷ is) e zero d m = in-order (out-Instr i) (and_parts (stays_in_order (out-Instr i)) (list_all (λ i. stays_in_order (out-Instr i)) is) e).0
all-in-order (i ∷ is) e (suc k) d m =
    all-in-order is (and_parts (stays_in_order (out-Instr i)) (list_all (λ i. stays_in_order (out-Instr i)) is) e).1 k d (omega (arith, m))

all-stay : (is : List Instr) → All InOrder is → list_all (λ i. stays_in_order (out-Instr i)) is ≡ true
all-stay [] h = refl
all-stay (i ∷ is) h =
    and_from (stays_in_order (out-Instr i)) (list_all (λ i. stays_in_order (out-Instr i)) is) (stays (out-Instr i) (h 0 i (omega arith)))
    (all-stay is (λ k d m. h (suc k) d (omega (arith, m))))

pub tells-ordinary : TellsOrdinary
tells-ordinary code = (all-in-order code.instrs, all-stay code.instrs)

-- one way of it
pub ordinary-so : (code : Code) → is_ordinary code ≡ true → IsOrdinary code
ordinary-so code = all-in-order code.instrs
