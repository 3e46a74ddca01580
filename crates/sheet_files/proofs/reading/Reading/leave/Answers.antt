use Rattle.std.proofs.Common.{◌≡◌, ◌<◌, ℕ, zero, suc, [], ◌∷◌, ◌++◌, List, length, get_or, slice_set, ap, sym, refl, arith, ◌∙◌, length-set}
use Rattle.stx_host.specs.declared.act.Doc.{Doc}
use Rattle.sheet_loader.specs.Files.{changed}
use Rattle.sheet_files.proofs.Holding.{held_front, last_open}
use Rattle.sheet_files.proofs.Seeing.{numbered_front}
use Rattle.sheet_files.proofs.Stepping.{held_like}
use Rattle.sheet_files.proofs.reading.Reading.leave.Goals as goal

-- bytes that stand with their name
set_changed : (files : List Doc) (n : ℕ) (d : Doc) (bytes : List ℕ) → n < length files → d ≡ get_or files n d → slice_set files n (record d { bytes = bytes }) ≡ changed (λ (x : Doc). record x { bytes = bytes }) n files
set_changed [] n d bytes lt is = absurd (omega (arith, lt))
set_changed (x ∷ files) zero d bytes lt is = ap (λ (y : Doc). record y { bytes = bytes } ∷ files) is
set_changed (x ∷ files) (suc n) d bytes lt is = ap (λ (l : List Doc). x ∷ l) (set_changed files n d bytes (omega (arith, lt)) is)

pub close-requires : goal.close-requires
close-requires g c =
    let self = c.args.self.now in
    let n = length self.files.items in
    last_open (g.H.Host.outside c.args.host.now) self.limits c.pop.new.self.items c.in-Some.going n (held_like (g.H.Host.outside c.args.host.now) self.limits self.limits self.going.items (c.pop.new.self.items ++ c.in-Some.going ∷ []) n n (sym c.in-Some.ensures.items) refl refl c.requires.held)

pub index_mut-requires : goal.index_mut-requires
index_mut-requires g c =
    let self = c.args.self.now in
    let n = length self.files.items in
    let held = held_like (g.H.Host.outside c.args.host.now) self.limits self.limits self.going.items (c.pop.new.self.items ++ c.in-Some.going ∷ []) n n (sym c.in-Some.ensures.items) refl refl c.requires.held in
    let lt = (numbered_front 0 c.pop.new.self.items c.in-Some.going n held.numbered).1 in
    let len = self.files.ok.0 in
    omega (arith, lt, len)

pub returns-clause-leaves : goal.returns-clause-leaves
returns-clause-leaves g c =
    let self = c.args.self.now in
    let n = length self.files.items in
    let held = held_like (g.H.Host.outside c.args.host.now) self.limits self.limits self.going.items (c.pop.new.self.items ++ c.in-Some.going ∷ []) n n (sym c.in-Some.ensures.items) refl refl c.requires.held in
    let lt = (numbered_front 0 c.pop.new.self.items c.in-Some.going n held.numbered).1 in
    record {
      front = c.pop.new.self.items;
      last = c.in-Some.going;
      was = c.in-Some.ensures.items;
      now = refl;
      files = ap (λ b. slice_set self.files.items c.in-Some.going.number (record c.index_mut.result.now { bytes = b })) c.from_vec.ensures ∙ set_changed self.files.items c.in-Some.going.number c.index_mut.result.now c.in-Some.going.bytes.items lt c.index_mut.ensures.value;
      others = (refl, refl, refl);
      closes = c.close.ensures;
    }

pub returns-clause-held : goal.returns-clause-held
returns-clause-held g c =
    let self = c.args.self.now in
    let n = length self.files.items in
    let held = held_like (g.H.Host.outside c.args.host.now) self.limits self.limits self.going.items (c.pop.new.self.items ++ c.in-Some.going ∷ []) n n (sym c.in-Some.ensures.items) refl refl c.requires.held in
    held_like (g.H.Host.outside c.close.new.self) self.limits self.limits c.pop.new.self.items c.pop.new.self.items n _ refl (length-set self.files.items c.in-Some.going.number _) refl
    (held_front (g.H.Host.outside c.args.host.now) (g.H.Host.outside c.close.new.self) self.limits c.pop.new.self.items c.in-Some.going n held c.close.ensures)
