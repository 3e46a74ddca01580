use Rattle.std.proofs.Common.{◌≡◌, ◌∙◌, ◌∷◌, ◌++◌, ℕ, [], IfSome, ap, drop, length, take, refl, subst, sym, arith, inl, inr, length-append, length-take}
use Rattle.stx_host.specs.Outside.{Reads}
use Rattle.stx_host.specs.declared.act.Act.TheVariants.{Read}
use Rattle.stx_host.specs.declared.act.Got.TheVariants.{Bytes}
use Rattle.sheet_files.proofs.Opening.{append_none}
use Rattle.sheet_files.proofs.Within.{if_at}
use Rattle.sheet_files.proofs.going.Going.look.Goals as goal

pub returns-then-self-len : goal.returns-then-self-len
returns-then-self-len g c =
    let self = c.args.self.now in
    let len = self.bytes.ok.0 in
    let test = c.if-self-len.true in
    let is = c.len.ensures in (
      record {
        acts = [];
        piece = [];
        done = inl (refl, refl, refl);
        next = if_at ((g.H.Host.outside c.args.host.now).to_come self.id) (λ bytes e. refl);
        bytes = sym (append_none self.bytes.items);
        others = (refl, refl, refl, refl);
      },
      omega (arith, test, is, len),
    )

pub returns-in_ok-extend_from_slice-in-Bytes : goal.returns-in_ok-extend_from_slice-in-Bytes
returns-in_ok-extend_from_slice-in-Bytes g c =
    let o = g.H.Host.outside c.args.host.now in
    let self = c.args.self.now in
    let n = c.in-Bytes.got in
    let room = c.read.new.room in
    let answer = c.in-Bytes.ensures.answer in
    let fits = answer.fits in
    let some = answer.some in
    let items = c.in_ok-extend_from_slice-in-Bytes.ensures.items in
    let len : length (take n room) ≡ n = omega (arith, length-take n room, fits) in
    let all = ap length items ∙ length-append self.bytes.items (take n room) in
    let within = c.requires.within in
    let test = c.if-self-len.false in
    let is = c.len.ensures in
    let count = self.bytes.ok.0 in (
      record {
        acts = Read self.id (length (take n room)) ∷ [];
        piece = take n room;
        done = inr (refl, omega (arith, test, is, count), omega (arith, len, some), subst (λ (k : ℕ). Reads o self.id (Bytes k) (g.H.Host.outside c.read.new.self)) (sym len) c.in-Bytes.ensures.change, omega (arith, len, fits, c.read.auto.room));
        next = subst (λ (k : ℕ). IfSome (o.to_come self.id) (λ bytes. bytes ≡ take n room ++ drop k bytes)) (sym len) answer.next;
        bytes = items;
        others = (refl, refl, refl, refl);
      },
      omega (arith, all, len, some, within),
    )
