-- Instructions that put parts, and those around lists, by their variants.
use Rattle.std.proofs.Common.{◌≡◌, ℕ, Bool, true, false, List, [], ◌∷◌, ◌++◌, map, reverse, Option, Some, None, refl, ap, sym, subst, ◌∙◌, ◌<◌, length, arith}
use Rattle.std.proofs.lemmas.Bool.{false≢true}
use Rattle.std.proofs.lemmas.List.Elements.{All-cons, All-head, All-nil, All-tail}
use Rattle.std.specs.List.{slice_get}
use Rattle.std.specs.Option.{ForSome, option_to_list}
use Rattle.std.specs.Prelude.{All}
use Rattle.instr_code.specs.declared.code.Op.TheVariants as op
use Rattle.sheet_model.specs.Parts.{buffer_named, content_expression, expressions, templates}
use Rattle.sheet_model.specs.declared.instr.Content.{Content}
use Rattle.sheet_model.specs.declared.instr.Content.TheVariants as content
use Rattle.sheet_model.specs.declared.instr.Instr.{Instr}
use Rattle.sheet_model.specs.declared.instr.Instr.TheOpen.{Instr-F}
use Rattle.sheet_model.specs.declared.instr.Instr.TheVariants as instr
use Rattle.sheet_model.specs.declared.instr.Instr.TheViews.{out-Instr, out-roll-Instr, roll-Instr, roll-out-Instr, rolls-Attribute, rolls-Chars, rolls-Comment, rolls-Copy, rolls-Element, rolls-EndElement, rolls-Literal, rolls-LiteralChars, rolls-Message, rolls-Pi, rolls-ResultBuffer, rolls-StartElement, rolls-ValueOf}
use Rattle.sheet_model.specs.declared.instr.LiteralAttr.{LiteralAttr}
use Rattle.sheet_model.specs.declared.instr.When.{When}
use Rattle.stx_base.specs.declared.fault.Place.{Place}
use Rattle.stx_base.specs.declared.name.Binding.{Binding}
use Rattle.stx_base.specs.declared.name.Name.{Name}
use Rattle.stxpath_syntax.specs.Shape.{CanBeEvaluated}
use Rattle.stxpath_syntax.specs.declared.expr.Avt.{Avt}
use Rattle.stxpath_syntax.specs.declared.expr.Expr.{Expr}
use Rattle.stxpath_syntax.specs.declared.expr.Pattern.{Pattern}
use Rattle.template_machine.specs.Contexts.{Around, AroundBuffer, AroundTag, Form, HasForm, IsRound, form}
use Rattle.template_machine.specs.Evaluating.{ContentCanBeEvaluated, TemplateCanBeEvaluated}
use Rattle.template_machine.specs.Standing.{standing_of}
use Rattle.template_machine.specs.Moments.{IsAtOp}
use Rattle.template_machine.specs.Working.{CanBeRun, puts}
use Rattle.template_machine.specs.declared.program.Link.{Link}
use Rattle.template_machine.specs.declared.program.Program.{Program}
use Rattle.template_machine.specs.declared.run.Run.{Run}
use Rattle.template_machine.specs.declared.run.Running.{Running}
use Rattle.template_machine.proofs.Branching.{one_form}
use Rattle.template_machine.proofs.Formed.{form_at, has_instr}
use Rattle.template_machine.proofs.Moving.{goes_at}
use Rattle.template_machine.proofs.Named.{named_buffer}
use Rattle.template_machine.proofs.Operating.{some_context}

-- What each variant is.

pub out_is : (i : Instr) (j : Instr) (x : Instr-F Instr When) → roll-Instr x ≡ j → i ≡ j → out-Instr i ≡ x
out_is i j x rolls is = ap out-Instr (is ∙ sym rolls) ∙ out-roll-Instr x

rolled : (i : Instr) (x : Instr-F Instr When) (j : Instr) → roll-Instr x ≡ j → out-Instr i ≡ x → i ≡ j
rolled i x j is out = sym (roll-out-Instr i) ∙ ap roll-Instr out ∙ is

-- What they evaluate.

exprs : (i : Instr) (x : Instr-F Instr When) → out-Instr i ≡ x → CanBeRun i → All CanBeEvaluated (expressions (λ (w : When). w.test) x)
exprs i x out h = subst (All CanBeEvaluated) (ap (expressions (λ (w : When). w.test)) out) h.expressions

temps : (i : Instr) (x : Instr-F Instr When) → out-Instr i ≡ x → CanBeRun i → All TemplateCanBeEvaluated (templates x)
temps i x out h = subst (All TemplateCanBeEvaluated) (ap templates out) h.templates

option_all : (o : Option Avt) → All TemplateCanBeEvaluated (option_to_list o) → ForSome o TemplateCanBeEvaluated
option_all None h = λ x e. absurd (cc)
option_all (Some y) h = λ x e. let same : y ≡ x = cc in subst TemplateCanBeEvaluated same (All-head TemplateCanBeEvaluated y [] h)

content_can : (c : Content) → All CanBeEvaluated (content_expression c ++ []) → ContentCanBeEvaluated c
content_can (content.Select x) h = All-head CanBeEvaluated x [] h
content_can (content.Chars text) h = tt

name_can : (name : Avt) (namespace : Option Avt) → All TemplateCanBeEvaluated (name ∷ option_to_list namespace)
    → TemplateCanBeEvaluated name × ForSome namespace TemplateCanBeEvaluated
name_can name namespace h =
    (All-head TemplateCanBeEvaluated name (option_to_list namespace) h, option_all namespace (All-tail TemplateCanBeEvaluated name (option_to_list namespace) h))

pub value_runs : (i : Instr) (select : Expr) (separator : Option Avt) (at : Place) → CanBeRun i → i ≡ instr.ValueOf select separator at
    → CanBeEvaluated select × ForSome separator TemplateCanBeEvaluated
value_runs i select separator at h is =
    let out = out_is i _ (Instr-F.ValueOf select separator at) (rolls-ValueOf select separator at) is in
    (All-head CanBeEvaluated select [] (exprs i _ out h), option_all separator (temps i _ out h))

pub start_runs : (i : Instr) (name : Avt) (namespace : Option Avt) (scope : List Binding) (at : Place) → CanBeRun i → i ≡ instr.StartElement name namespace scope at
    → TemplateCanBeEvaluated name × ForSome namespace TemplateCanBeEvaluated
start_runs i name namespace scope at h is =
    name_can name namespace (temps i _ (out_is i _ (Instr-F.StartElement name namespace scope at) (rolls-StartElement name namespace scope at) is) h)

pub end_runs : (i : Instr) (name : Avt) (namespace : Option Avt) (scope : List Binding) (at : Place) → CanBeRun i → i ≡ instr.EndElement name namespace scope at
    → TemplateCanBeEvaluated name × ForSome namespace TemplateCanBeEvaluated
end_runs i name namespace scope at h is =
    name_can name namespace (temps i _ (out_is i _ (Instr-F.EndElement name namespace scope at) (rolls-EndElement name namespace scope at) is) h)

pub element_runs : (i : Instr) (name : Avt) (namespace : Option Avt) (scope : List Binding) (body : List Instr) (at : Place) → CanBeRun i
    → i ≡ instr.Element name namespace scope body at → TemplateCanBeEvaluated name × ForSome namespace TemplateCanBeEvaluated
element_runs i name namespace scope body at h is =
    name_can name namespace (temps i _ (out_is i _ (Instr-F.Element name namespace scope body at) (rolls-Element name namespace scope body at) is) h)

pub attribute_runs : (i : Instr) (name : Avt) (namespace : Option Avt) (scope : List Binding) (c : Content) (at : Place) → CanBeRun i
    → i ≡ instr.Attribute name namespace scope c at → TemplateCanBeEvaluated name × ForSome namespace TemplateCanBeEvaluated × ContentCanBeEvaluated c
attribute_runs i name namespace scope c at h is =
    let out = out_is i _ (Instr-F.Attribute name namespace scope c at) (rolls-Attribute name namespace scope c at) is in
    let n = name_can name namespace (temps i _ out h) in
    (n.0, n.1, content_can c (exprs i _ out h))

pub comment_runs : (i : Instr) (c : Content) (at : Place) → CanBeRun i → i ≡ instr.Comment c at → ContentCanBeEvaluated c
comment_runs i c at h is = content_can c (exprs i _ (out_is i _ (Instr-F.Comment c at) (rolls-Comment c at) is) h)

pub message_runs : (i : Instr) (c : Content) (at : Place) → CanBeRun i → i ≡ instr.Message c at → ContentCanBeEvaluated c
message_runs i c at h is = content_can c (exprs i _ (out_is i _ (Instr-F.Message c at) (rolls-Message c at) is) h)

pub instruction_runs : (i : Instr) (name : Avt) (scope : List Binding) (c : Content) (at : Place) → CanBeRun i → i ≡ instr.Pi name scope c at
    → TemplateCanBeEvaluated name × ContentCanBeEvaluated c
instruction_runs i name scope c at h is =
    let out = out_is i _ (Instr-F.Pi name scope c at) (rolls-Pi name scope c at) is in
    (All-head TemplateCanBeEvaluated name [] (temps i _ out h), content_can c (exprs i _ out h))

values_can : (attrs : List LiteralAttr) → All TemplateCanBeEvaluated (map (λ (a : LiteralAttr). a.value) attrs) → All (λ (a : LiteralAttr). TemplateCanBeEvaluated a.value) attrs
values_can [] h = All-nil (λ (a : LiteralAttr). TemplateCanBeEvaluated a.value)
values_can (a ∷ attrs) h =
    let rest = map (λ (a : LiteralAttr). a.value) attrs in
    All-cons (λ (a : LiteralAttr). TemplateCanBeEvaluated a.value) a attrs (All-head TemplateCanBeEvaluated a.value rest h)
    (values_can attrs (All-tail TemplateCanBeEvaluated a.value rest h))

pub literal_runs : (i : Instr) (name : Name) (attrs : List LiteralAttr) (body : List Instr) (at : Place) → CanBeRun i → i ≡ instr.Literal name attrs body at
    → All (λ (a : LiteralAttr). TemplateCanBeEvaluated a.value) attrs
literal_runs i name attrs body at h is =
    values_can attrs (temps i _ (out_is i _ (Instr-F.Literal name attrs body at) (rolls-Literal name attrs body at) is) h)

-- An instruction that puts parts is one of few.

module _ (A : Type 0) where
  layer_puts : (x : Instr-F Instr When) → puts x ≡ true
      → ((select : Expr) (separator : Option Avt) (at : Place) → x ≡ Instr-F.ValueOf select separator at → A)
      → ((text : List ℕ) (at : Place) → x ≡ Instr-F.Chars text at → A)
      → ((text : List ℕ) (at : Place) → x ≡ Instr-F.LiteralChars text at → A)
      → ((name : Avt) (namespace : Option Avt) (scope : List Binding) (at : Place) → x ≡ Instr-F.StartElement name namespace scope at → A)
      → ((name : Avt) (namespace : Option Avt) (scope : List Binding) (at : Place) → x ≡ Instr-F.EndElement name namespace scope at → A)
      → ((name : Avt) (namespace : Option Avt) (scope : List Binding) (c : Content) (at : Place) → x ≡ Instr-F.Attribute name namespace scope c at → A)
      → ((c : Content) (at : Place) → x ≡ Instr-F.Comment c at → A)
      → ((name : Avt) (scope : List Binding) (c : Content) (at : Place) → x ≡ Instr-F.Pi name scope c at → A)
      → ((c : Content) (at : Place) → x ≡ Instr-F.Message c at → A) → A
  layer_puts (Instr-F.ValueOf select separator at) h f1 f2 f3 f4 f5 f6 f7 f8 f9 = f1 select separator at refl
  layer_puts (Instr-F.Chars text at) h f1 f2 f3 f4 f5 f6 f7 f8 f9 = f2 text at refl
  layer_puts (Instr-F.LiteralChars text at) h f1 f2 f3 f4 f5 f6 f7 f8 f9 = f3 text at refl
  layer_puts (Instr-F.StartElement name namespace scope at) h f1 f2 f3 f4 f5 f6 f7 f8 f9 = f4 name namespace scope at refl
  layer_puts (Instr-F.EndElement name namespace scope at) h f1 f2 f3 f4 f5 f6 f7 f8 f9 = f5 name namespace scope at refl
  layer_puts (Instr-F.Attribute name namespace scope c at) h f1 f2 f3 f4 f5 f6 f7 f8 f9 = f6 name namespace scope c at refl
  layer_puts (Instr-F.Comment c at) h f1 f2 f3 f4 f5 f6 f7 f8 f9 = f7 c at refl
  layer_puts (Instr-F.Pi name scope c at) h f1 f2 f3 f4 f5 f6 f7 f8 f9 = f8 name scope c at refl
  layer_puts (Instr-F.Message c at) h f1 f2 f3 f4 f5 f6 f7 f8 f9 = f9 c at refl
  layer_puts x h f1 f2 f3 f4 f5 f6 f7 f8 f9 = absurd (false≢true h)

  pub puts_is : (i : Instr) → puts (out-Instr i) ≡ true
      → ((select : Expr) (separator : Option Avt) (at : Place) → i ≡ instr.ValueOf select separator at → A)
      → ((text : List ℕ) (at : Place) → i ≡ instr.Chars text at → A)
      → ((text : List ℕ) (at : Place) → i ≡ instr.LiteralChars text at → A)
      → ((name : Avt) (namespace : Option Avt) (scope : List Binding) (at : Place) → i ≡ instr.StartElement name namespace scope at → A)
      → ((name : Avt) (namespace : Option Avt) (scope : List Binding) (at : Place) → i ≡ instr.EndElement name namespace scope at → A)
      → ((name : Avt) (namespace : Option Avt) (scope : List Binding) (c : Content) (at : Place) → i ≡ instr.Attribute name namespace scope c at → A)
      → ((c : Content) (at : Place) → i ≡ instr.Comment c at → A)
      → ((name : Avt) (scope : List Binding) (c : Content) (at : Place) → i ≡ instr.Pi name scope c at → A)
      → ((c : Content) (at : Place) → i ≡ instr.Message c at → A) → A
  puts_is i h f1 f2 f3 f4 f5 f6 f7 f8 f9 =
      layer_puts (out-Instr i) h
      (λ select separator at e. f1 select separator at (rolled i _ _ (rolls-ValueOf select separator at) e))
      (λ text at e. f2 text at (rolled i _ _ (rolls-Chars text at) e))
      (λ text at e. f3 text at (rolled i _ _ (rolls-LiteralChars text at) e))
      (λ name namespace scope at e. f4 name namespace scope at (rolled i _ _ (rolls-StartElement name namespace scope at) e))
      (λ name namespace scope at e. f5 name namespace scope at (rolled i _ _ (rolls-EndElement name namespace scope at) e))
      (λ name namespace scope c at e. f6 name namespace scope c at (rolled i _ _ (rolls-Attribute name namespace scope c at) e))
      (λ c at e. f7 c at (rolled i _ _ (rolls-Comment c at) e))
      (λ name scope c at e. f8 name scope c at (rolled i _ _ (rolls-Pi name scope c at) e))
      (λ c at e. f9 c at (rolled i _ _ (rolls-Message c at) e))

  layer_round : (x : Instr-F Instr When) → IsRound (form x)
      → ((name : Name) (attrs : List LiteralAttr) (body : List Instr) (at : Place) → x ≡ Instr-F.Literal name attrs body at → A)
      → ((attributes : Option Pattern) (body : List Instr) (at : Place) → x ≡ Instr-F.Copy attributes body at → A)
      → ((name : Avt) (namespace : Option Avt) (scope : List Binding) (body : List Instr) (at : Place) → x ≡ Instr-F.Element name namespace scope body at → A)
      → ((name : Name) (clear : Bool) (body : List Instr) (at : Place) → x ≡ Instr-F.ResultBuffer name clear body at → A) → A
  layer_round (Instr-F.Literal name attrs body at) h f1 f2 f3 f4 = f1 name attrs body at refl
  layer_round (Instr-F.Copy attributes body at) h f1 f2 f3 f4 = f2 attributes body at refl
  layer_round (Instr-F.Element name namespace scope body at) h f1 f2 f3 f4 = f3 name namespace scope body at refl
  layer_round (Instr-F.ResultBuffer name clear body at) h f1 f2 f3 f4 = f4 name clear body at refl
  layer_round x h f1 f2 f3 f4 = absurd h

  round_is : (i : Instr) → IsRound (form (out-Instr i))
      → ((name : Name) (attrs : List LiteralAttr) (body : List Instr) (at : Place) → i ≡ instr.Literal name attrs body at → A)
      → ((attributes : Option Pattern) (body : List Instr) (at : Place) → i ≡ instr.Copy attributes body at → A)
      → ((name : Avt) (namespace : Option Avt) (scope : List Binding) (body : List Instr) (at : Place) → i ≡ instr.Element name namespace scope body at → A)
      → ((name : Name) (clear : Bool) (body : List Instr) (at : Place) → i ≡ instr.ResultBuffer name clear body at → A) → A
  round_is i h f1 f2 f3 f4 =
      layer_round (out-Instr i) h
      (λ name attrs body at e. f1 name attrs body at (rolled i _ _ (rolls-Literal name attrs body at) e))
      (λ attributes body at e. f2 attributes body at (rolled i _ _ (rolls-Copy attributes body at) e))
      (λ name namespace scope body at e. f3 name namespace scope body at (rolled i _ _ (rolls-Element name namespace scope body at) e))
      (λ name clear body at e. f4 name clear body at (rolled i _ _ (rolls-ResultBuffer name clear body at) e))

-- the instruction of an operation around a list
pub opened_round : (p : Program) (r : Run) (running : Running) (n to : ℕ) → IsAtOp p r running (op.Open n to) → (f : Form) × (HasForm p.code n f × IsRound f)
opened_round p r running n to at =
    let x = some_context p r running (op.Open n to) at in
    let g = goes_at p at.well.stations 0 false (reverse r.frames.frames) x.0 (standing_of r) running.pc at.pc x.1 in
    let l = at.well.stand.leads running.pc (op.Open n to) x.0 g.0 at.is g.1 in
    (l.0, (l.1.0, l.1.1))

pub closed_round : (p : Program) (r : Run) (running : Running) (n : ℕ) → IsAtOp p r running (op.Close n) → (f : Form) × (HasForm p.code n f × IsRound f)
closed_round p r running n at =
    let x = some_context p r running (op.Close n) at in
    let g = goes_at p at.well.stations 0 false (reverse r.frames.frames) x.0 (standing_of r) running.pc at.pc x.1 in
    let l = at.well.stand.leads running.pc (op.Close n) x.0 g.0 at.is g.1 in
    (l.0, (l.1.0, l.1.1))

pub is_round : (p : Program) (n : ℕ) (i : Instr) (A : Type 0) → (f : Form) × (HasForm p.code n f × IsRound f) → slice_get p.code.instrs n ≡ Some i
    → ((name : Name) (attrs : List LiteralAttr) (body : List Instr) (at : Place) → i ≡ instr.Literal name attrs body at → A)
    → ((attributes : Option Pattern) (body : List Instr) (at : Place) → i ≡ instr.Copy attributes body at → A)
    → ((name : Avt) (namespace : Option Avt) (scope : List Binding) (body : List Instr) (at : Place) → i ≡ instr.Element name namespace scope body at → A)
    → ((name : Name) (clear : Bool) (body : List Instr) (at : Place) → i ≡ instr.ResultBuffer name clear body at → A) → A
is_round p n i A h is f1 f2 f3 f4 =
    let same : h.0 ≡ form (out-Instr i) = one_form _ _ _ h.1.0 (form_at p.code n i (out-Instr i) is refl) in
    round_is A i (subst IsRound same h.1.1) f1 f2 f3 f4

-- their forms

pub literal_form : (p : Program) (n : ℕ) (i : Instr) (name : Name) (attrs : List LiteralAttr) (body : List Instr) (at : Place) → slice_get p.code.instrs n ≡ Some i
    → i ≡ instr.Literal name attrs body at → HasForm p.code n Around
literal_form p n i name attrs body at there is =
    form_at p.code n i (Instr-F.Literal name attrs body at) there (out_is i _ (Instr-F.Literal name attrs body at) (rolls-Literal name attrs body at) is)

pub copy_form : (p : Program) (n : ℕ) (i : Instr) (attributes : Option Pattern) (body : List Instr) (at : Place) → slice_get p.code.instrs n ≡ Some i
    → i ≡ instr.Copy attributes body at → HasForm p.code n Around
copy_form p n i attributes body at there is =
    form_at p.code n i (Instr-F.Copy attributes body at) there (out_is i _ (Instr-F.Copy attributes body at) (rolls-Copy attributes body at) is)

pub element_form : (p : Program) (n : ℕ) (i : Instr) (name : Avt) (namespace : Option Avt) (scope : List Binding) (body : List Instr) (at : Place)
    → slice_get p.code.instrs n ≡ Some i → i ≡ instr.Element name namespace scope body at → HasForm p.code n AroundTag
element_form p n i name namespace scope body at there is =
    form_at p.code n i (Instr-F.Element name namespace scope body at) there
    (out_is i _ (Instr-F.Element name namespace scope body at) (rolls-Element name namespace scope body at) is)

pub buffer_form : (p : Program) (n : ℕ) (i : Instr) (name : Name) (clear : Bool) (body : List Instr) (at : Place) → slice_get p.code.instrs n ≡ Some i
    → i ≡ instr.ResultBuffer name clear body at → HasForm p.code n AroundBuffer
buffer_form p n i name clear body at there is =
    form_at p.code n i (Instr-F.ResultBuffer name clear body at) there (out_is i _ (Instr-F.ResultBuffer name clear body at) (rolls-ResultBuffer name clear body at) is)

-- the buffer that is written is there

layer_buffer : (x : Instr-F Instr When) → form x ≡ AroundBuffer → (name : Name) × (buffer_named x ≡ Some name)
layer_buffer (Instr-F.ResultBuffer name clear body at) is = (name, refl)
layer_buffer x is = absurd (cc)

pub buffer_there : (p : Program) (r : Run) (running : Running) (n to : ℕ) (link : Link) → IsAtOp p r running (op.Open n to) → HasForm p.code n AroundBuffer
    → slice_get p.links n ≡ Some link → link.named < length r.putting.buffers.buffers
buffer_there p r running n to link at has is =
    let s = at.well.steady in
    let i = has_instr p.code n AroundBuffer has in
    let name = layer_buffer (out-Instr i.0) i.1.1 in
    let b = named_buffer p r s running.pc n (op.Open n to) i.0 name.0 at.is refl i.1.0 name.1 in
    let same : b.0 ≡ link = one b.0 link (sym b.1.0 ∙ is) in
    omega (arith, b.1.1, ap (λ (l : Link). l.named) same, s.buffers)
  where
    one : (x y : Link) → Some x ≡ Some y → x ≡ y
    one x y e = cc
