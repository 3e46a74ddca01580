use Rattle.std.proofs.Common.{sym}
use Rattle.stxpath_syntax.specs.Readable.{IsReadablePattern}
use Rattle.stxpath_syntax.proofs.Evaluable.{readable_alternative}
use Rattle.sheet_model.specs.Sound.{AreReadableVariables}
use Rattle.sheet_model.specs.declared.sheet.Template.{Template}
use Rattle.group_scope.proofs.Among.{all_among, get_among, to_contains}
use Rattle.group_scope.proofs.asking.Asking.fits.Goals as goal

pub matches-requires : goal.matches-requires
matches-requires g c =
    let t = c.in-Some.template.now in
    let a = c.in-Some-get.alternative.now in
    let templates = c.args.self.now.sheet.now.templates in
    let readable = all_among (λ (u : Template). IsReadablePattern u.pattern.alternatives × AreReadableVariables u.params) templates t c.requires.readable.templates (get_among templates c.args.entry.template t (sym c.in-Some.ensures.value)) in
    let among = get_among t.pattern.alternatives c.args.entry.alternative a (sym c.in-Some-get.ensures.value) in
    readable_alternative a (t.pattern.alternatives, readable.0, to_contains t.pattern.alternatives a among)
