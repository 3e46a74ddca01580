-- What buffers hold at the start: what the sheet declares.
use Rattle.std.proofs.Common.{◌≡◌, ◌≤◌, ℕ, true, List, [], ◌∷◌, length, map, All, refl, ap, sym, subst, ◌∙◌, arith}
use Rattle.std.proofs.lemmas.Bool.{and_from}
use Rattle.std.proofs.lemmas.List.Elements.{All-cons, All-head, All-nil, All-tail}
use Rattle.std.proofs.lemmas.List.Folds.{list_all-append}
use Rattle.stx_base.specs.declared.limits.Limits.{Limits}
use Rattle.stx_base.specs.declared.part.Part.{Part}
use Rattle.stx_base.specs.declared.part.Part.TheVariants as part
use Rattle.result_writer.specs.Target.{Left, holds_cdata_text, next, nothing}
use Rattle.event_buffers.specs.Declaring.{declared_by}
use Rattle.event_buffers.specs.Kept.{added, kept_from, kept_of}
use Rattle.event_buffers.specs.Layer.{Layer, laid}
use Rattle.event_buffers.specs.Sections.{hold_texts, holds_text}
use Rattle.sheet_model.specs.Sound.{IsCDataText, IsContent, IsSound}
use Rattle.sheet_model.specs.declared.sheet.Buffer.{Buffer}
use Rattle.sheet_model.specs.declared.sheet.Sheet.{Sheet}
use Rattle.template_machine.specs.Deep.{AreAllDeep, IsDeep, IsDeepBuffer}
use Rattle.template_machine.specs.Programs.{IsProgramOf, deepest_of}
use Rattle.template_machine.specs.Sections.{HoldSections}
use Rattle.template_machine.specs.declared.program.Program.{Program}
use Rattle.template_machine.proofs.Deepened.{declared_deep, laid_deep}
use Rattle.template_machine.proofs.Holds.{added_holds}

-- How deep elements nest in it.

most : (n : ℕ) (bs : List Buffer) → n ≤ deepest_of n bs
most n [] = omega arith
most n (b ∷ bs) = omega (arith, most n bs)

all_deep : (limit n : ℕ) (bs : List Buffer) → deepest_of n bs ≤ limit → All (λ (b : Buffer). IsContent b.content) bs → All (IsDeepBuffer limit) (map declared_by bs)
all_deep limit n [] h all = All-nil (IsDeepBuffer limit)
all_deep limit n (b ∷ bs) h all =
    let P : Buffer → Type 0 = λ (x : Buffer). IsContent x.content in
    let own = All-head P b bs all in
    let d = declared_deep limit (length b.content) b.content own.0 (omega (arith, h)) in
    All-cons (IsDeepBuffer limit) (declared_by b) (map declared_by bs)
    (record {
      declared = d.0;
      whole = d.1;
      copies = All-cons (IsDeep limit (kept_of b.content)) laid [] (laid_deep limit (kept_of b.content) d.0 d.1) (All-nil (IsDeep limit (kept_of b.content)));
    })
    (all_deep limit n bs (omega (arith, h)) (All-tail P b bs all))

pub begins_deep : (s : Sheet) (limits : Limits) (p : Program) → IsSound s → IsProgramOf s limits p
    → AreAllDeep p.buffer_depth (record { limit = p.limits.buffer; elements = p.limits.elements; buffers = map declared_by p.sheet.buffers })
begins_deep s limits p sound is =
    let same : p.sheet.buffers ≡ s.buffers = ap (λ (x : Sheet). x.buffers) is.sheet_is in
    let few : p.limits.elements ≡ limits.elements = ap (λ (x : Limits). x.elements) is.limits_are in (
      omega (arith, is.depth_is, few, most limits.elements s.buffers),
      subst (λ l. All (IsDeepBuffer p.buffer_depth) (map declared_by l)) (sym same)
          (all_deep p.buffer_depth limits.elements s.buffers (omega (arith, is.depth_is)) sound.buffers),
    )

-- Its CDATA sections.

text_of : (p : Part) → IsCDataText p → holds_cdata_text p ≡ true
text_of (part.CData text) h = h
text_of p h = refl

texts_of : (l : Left) (ps : List Part) → All IsCDataText ps → hold_texts (kept_from l ps) ≡ true
texts_of l [] all = refl
texts_of l (p ∷ ps) all =
    list_all-append holds_text (added l p) (kept_from (next l p) ps)
    ∙ and_from _ _ (added_holds l p (text_of p (All-head IsCDataText p ps all))) (texts_of (next l p) ps (All-tail IsCDataText p ps all))

all_sections : (bs : List Buffer) → All (λ (b : Buffer). IsContent b.content) bs → All HoldSections (map declared_by bs)
all_sections [] all = All-nil HoldSections
all_sections (b ∷ bs) all =
    let P : Buffer → Type 0 = λ (x : Buffer). IsContent x.content in
    let Q : Layer → Type 0 = λ (c : Layer). hold_texts c.kept ≡ true in
    All-cons HoldSections (declared_by b) (map declared_by bs)
    (record { declared = texts_of nothing b.content (All-head P b bs all).1; copies = All-cons Q laid [] refl (All-nil Q) })
    (all_sections bs (All-tail P b bs all))

pub begins_sections : (s : Sheet) (limits : Limits) (p : Program) → IsSound s → IsProgramOf s limits p → All HoldSections (map declared_by p.sheet.buffers)
begins_sections s limits p sound is =
    let same : p.sheet.buffers ≡ s.buffers = ap (λ (x : Sheet). x.buffers) is.sheet_is in
    subst (λ l. All HoldSections (map declared_by l)) (sym same) (all_sections s.buffers sound.buffers)
