use Rattle.std.proofs.Common.{◌≡◌, ℕ, ap, sym, refl, ◌∙◌, Option}
use Rattle.std.proofs.Math.Path.{subst}
use Rattle.stx_base.specs.declared.name.Name.{Name}
use Rattle.sheet_loader.proofs.TagPlaces.{knows_here}
use Rattle.sheet_loader.specs.Drafts.{before_tag, loading_of}
use Rattle.sheet_loader.specs.Events.{place_at}
use Rattle.sheet_loader.specs.Gathering.{values_in}
use Rattle.sheet_loader.specs.Keys.{Owned, own_of}
use Rattle.sheet_loader.specs.Known.{KnowsAt, known}
use Rattle.sheet_loader.specs.Making.{bare, name, nameless, or_else}
use Rattle.sheet_loader.proofs.draft.Draft.refer.Goals as goal

named : (group : ℕ) (o p : Option Name) (own : Owned) → own ≡ record { group = group; name = bare (or_else nameless o) } → o ≡ p → own ≡ record { group = group; name = bare (or_else nameless p) }
named group o p own e h = e ∙ ap (λ (x : Option Name). let w : Owned = record { group = group; name = bare (or_else nameless x) } in w) h

pub returns-clause-own : goal.returns-clause-own
returns-clause-own c = named c.args.self.now.top.group _ _ _ c.in_ok-own.ensures c.own_name.ensures

pub returns-clause-known : goal.returns-clause-known
returns-clause-known c = λ around files f sound.
    let d = c.args.self.now in
    let p = place_at files f (before_tag d around) in
    let own : own_of c.in_ok-own.own ≡ record { group = d.top.group; name = bare (name (values_in c.args.values.now)) } = named d.top.group _ _ _ c.in_ok-own.ensures c.own_name.ensures in
    c.in_ok-refer_by_tag.ensures p.here p.before (loading_of d).sheet
    (subst (λ (g : ℕ). KnowsAt (known d.register) g c.is_declared-is_declared.result p.here p.before (loading_of d).sheet) (sym (ap (λ (o : Owned). o.group) own)) (knows_here d around sound files f c.is_declared-is_declared.result c.is_declared-is_declared.ensures))
    refl (ap (λ (o : Owned). o.name) own)
