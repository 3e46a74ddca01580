use Rattle.std.proofs.Common.{ℕ, ap, sym}
use Rattle.std.proofs.Math.Path.{subst}
use Rattle.sheet_loader.proofs.Judged.{again_named, again_nameless}
use Rattle.sheet_loader.proofs.TagPlaces.{given_here, knows_here}
use Rattle.sheet_loader.specs.Drafts.{before_tag, loading_of}
use Rattle.sheet_loader.specs.Events.{place_at}
use Rattle.sheet_loader.specs.Gathering.{values_in}
use Rattle.sheet_loader.specs.Keys.{Owned, name_of}
use Rattle.sheet_loader.specs.Known.{KnowsAt, known}
use Rattle.sheet_loader.specs.Meant.{kind_of}
use Rattle.sheet_loader.proofs.draft.Draft.declares_again.Goals as goal

pub returns-in-None : goal.returns-in-None
returns-in-None c = λ around files f sound.
    let d = c.args.self.now in
    let p = place_at files f (before_tag d around) in
    again_nameless p.here p.before (loading_of d).sheet (kind_of c.args.kind) (values_in c.args.values.now) c.in-None.ensures

pub returns-in_ok-own-in-Some : goal.returns-in_ok-own-in-Some
returns-in_ok-own-in-Some c = λ around files f sound.
    let d = c.args.self.now in
    let p = place_at files f (before_tag d around) in
    let own = c.in_ok-own-in-Some.own in
    again_named p.here p.before (loading_of d).sheet (kind_of c.args.kind) (values_in c.args.values.now) c.in-Some.name.now (name_of own.name) c.is_taken.result c.in-Some.ensures
    (ap (λ (o : Owned). o.name) c.in_ok-own-in-Some.ensures)
    (c.is_taken.ensures p.here p.before (loading_of d).sheet
    (subst (λ (g : ℕ). KnowsAt (known d.register) g c.is_declared.result p.here p.before (loading_of d).sheet) (sym (ap (λ (o : Owned). o.group) c.in_ok-own-in-Some.ensures)) (knows_here d around sound files f c.is_declared.result c.is_declared.ensures))
    (given_here d around sound files f))
