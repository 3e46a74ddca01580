use Rattle.std.proofs.Common.{◌≡◌, ◌∙◌, ◌<◌, ◌-◌, ◌∷◌, ◌++◌, zero, suc, [], List, ℕ, ap, sym, subst, length, take, get_or, arith}
use Rattle.stx_host.specs.declared.act.Doc.{Doc}
use Rattle.sheet_loader.specs.Levels.{name_at}
use Rattle.sheet_files.specs.Held.{AreNumbered, names_of}
use Rattle.sheet_files.specs.declared.going.Going.{Going}
use Rattle.sheet_files.proofs.Lasting.{last_by}
use Rattle.sheet_files.proofs.Seeing.{numbered_front}
use Rattle.sheet_files.proofs.reading.Reading.take_innermost.Goals as goal

-- the last of a list that another one is
last_is : (xs ys : List Going) (g : Going) → ys ≡ xs → 0 < length ys → g ≡ get_or ys (length ys - 1) g → xs ≡ take (length ys - 1) ys ++ g ∷ []
last_is xs ys g e some is =
    let n : length ys ≡ suc (length ys - 1) = omega (arith, some) in
    sym e ∙ last_by ys g (length ys - 1) n ∙ ap (λ (h : Going). take (length ys - 1) ys ++ h ∷ []) (sym is)

name_got : (files : List Doc) (n : ℕ) (d : Doc) → n < length files → d ≡ get_or files n d → d.name ≡ name_at (names_of files) n
name_got [] n d lt is = absurd (omega (arith, lt))
name_got (x ∷ files) zero d lt is = ap (λ (y : Doc). y.name) is
name_got (x ∷ files) (suc n) d lt is = name_got files n d (omega (arith, lt)) is

pub index_mut-requires : goal.index_mut-requires
index_mut-requires c =
    let self = c.args.self.now in
    let ys = c.deref.result.now in
    let g = c.in_ok-going.going.now in
    let item = c.in_ok-going.ensures.item in
    let is = last_is self.going.items ys g c.deref.ensures.value item.3.0 item.1 in
    let lt = (numbered_front 0 (take (length ys - 1) ys) g (length self.files.items) (subst (λ (l : List Going). AreNumbered 0 l (length self.files.items)) is c.requires)).1 in
    let len = self.files.ok.0 in
    omega (arith, lt, len)

pub returns-clause-told : goal.returns-clause-told
returns-clause-told c =
    let self = c.args.self.now in
    let ys = c.deref.result.now in
    let g = c.in_ok-going.going.now in
    let item = c.in_ok-going.ensures.item in
    let is = last_is self.going.items ys g c.deref.ensures.value item.3.0 item.1 in
    let lt = (numbered_front 0 (take (length ys - 1) ys) g (length self.files.items) (subst (λ (l : List Going). AreNumbered 0 l (length self.files.items)) is c.requires)).1 in
    (take (length ys - 1) ys, g, is, (c.replace-file.ensures.value ∙ name_got self.files.items g.number c.index_mut.result.now lt c.index_mut.ensures.value, c.len.ensures ∙ g.bytes.ok.0))
