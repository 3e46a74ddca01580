-- A sheet of few buffers that begin with little is small.
use Rattle.std.proofs.Common.{◌≡◌, ℕ, ◌+◌, ◌*◌, ◌≤◌, ◌^◌, Bool, true, false, ◌&&◌, List, [], ◌∷◌, length, refl, sym, ap, ◌∙◌, arith}
use Rattle.std.proofs.Math.Nat.{suc-mul}
use Rattle.std.proofs.lemmas.List.{length-map}
use Rattle.std.proofs.lemmas.List.Elements.{All-cons, All-head, All-nil, All-tail}
use Rattle.std.proofs.lemmas.List.Sums.{sum_by-cons}
use Rattle.std.specs.List.{All, list_all, sum_by}
use Rattle.result_writer.specs.Target.{holds_cdata_text}
use Rattle.sheet_model.specs.Sound.{IsCDataText, IsSmall}
use Rattle.sheet_model.specs.declared.sheet.Buffer.{Buffer}
use Rattle.sheet_model.specs.declared.sheet.Group.{Group}
use Rattle.sheet_model.specs.declared.sheet.Procedure.{Procedure}
use Rattle.sheet_model.specs.declared.sheet.Template.{Template}
use Rattle.sheet_model.specs.declared.sheet.Variable.{Variable}
use Rattle.stx_base.specs.declared.part.Part.{Part}
use Rattle.stx_base.specs.declared.part.Part.TheVariants as part
use Rattle.xml_rows.specs.Laid.{AreShort, IsShort, groups}

short_sum : (bs : List Buffer) → AreShort bs → sum_by (λ (b : Buffer). length b.content) bs ≤ length bs * 2 ^ 20
short_sum [] all = omega arith
short_sum (b ∷ bs) all =
    let one = (All-head IsShort b bs all).few in
    let rest = short_sum bs (All-tail IsShort b bs all) in
    let many : length (b ∷ bs) * 2 ^ 20 ≡ length bs * 2 ^ 20 + 2 ^ 20 = suc-mul (length bs) (2 ^ 20) in
    omega (arith, one, rest, many, sum_by-cons (λ (b : Buffer). length b.content) b bs)

pub small : (gs : List Group) (ts : List Template) (ps : List Procedure) (bs : List Buffer) (vs : List Variable) (fs : List (List ℕ)) (strip cdata : Bool)
    → gs ≡ [] → ts ≡ [] → ps ≡ [] → vs ≡ [] → fs ≡ [] → AreShort bs → groups bs ≡ 0 ∷ 0 ∷ 1 ∷ []
    → IsSmall (record { groups = gs; templates = ts; procedures = ps; buffers = bs; variables = vs; strip = strip; cdata = cdata; files = fs })
small (g ∷ gs) ts ps bs vs fs strip cdata g0 t0 p0 v0 f0 short three = absurd cc
small [] (t ∷ ts) ps bs vs fs strip cdata g0 t0 p0 v0 f0 short three = absurd cc
small [] [] (p ∷ ps) bs vs fs strip cdata g0 t0 p0 v0 f0 short three = absurd cc
small [] [] [] bs (v ∷ vs) fs strip cdata g0 t0 p0 v0 f0 short three = absurd cc
small [] [] [] bs [] (f ∷ fs) strip cdata g0 t0 p0 v0 f0 short three = absurd cc
small [] [] [] bs [] [] strip cdata g0 t0 p0 v0 f0 short three =
    let count : length bs ≡ 3 = sym (length-map bs (λ (b : Buffer). b.group)) ∙ ap length three in
    let total = short_sum bs short in
    omega (arith, count, total)

and_split : (a b : Bool) → (a && b) ≡ true → (a ≡ true) × (b ≡ true)
and_split true b h = (refl, h)
and_split false b h = absurd cc

-- a text that was looked at is one of a CDATA section
text_of : (p : Part) → holds_cdata_text p ≡ true → IsCDataText p
text_of (part.Start name scope) h = tt
text_of (part.Attribute name value) h = tt
text_of (part.End name) h = tt
text_of (part.Chars text) h = tt
text_of (part.CData text) h = h
text_of (part.Comment text) h = tt
text_of (part.Pi target text) h = tt

pub texts_of : (ps : List Part) → list_all holds_cdata_text ps ≡ true → All IsCDataText ps
texts_of [] h = All-nil IsCDataText
texts_of (p ∷ ps) h =
    let parts = and_split (holds_cdata_text p) (list_all holds_cdata_text ps) h in
    All-cons IsCDataText p ps (text_of p parts.0) (texts_of ps parts.1)
