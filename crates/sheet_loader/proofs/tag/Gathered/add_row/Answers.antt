use Rattle.std.proofs.Common.{◌∙◌, ap, subst, sym}
use Rattle.std.proofs.lemmas.Result.{on_ok_weaker}
use Rattle.std.specs.Option.{option_copied}
use Rattle.sheet_loader.specs.Gathering.{Adds}
use Rattle.sheet_loader.specs.Meant.{row_of}
use Rattle.sheet_loader.specs.Tags.{found_by}
use Rattle.sheet_loader.specs.Values.{value_of}
use Rattle.sheet_loader.proofs.tag.Gathered.add_row.Goals as goal

pub returns-in-Some : goal.returns-in-Some
returns-in-Some c =
    on_ok_weaker c.add.result
    (λ adds reads.
    let row = row_of c.args.row.now in
    subst (λ f. Adds row f c.args.self.now c.add.new.self)
    (ap (found_by reads c.args.dialect c.args.scope.now row.form) (sym (ap option_copied c.in-Some.is) ∙ c.text_at.ensures))
    (adds (value_of reads c.args.dialect c.args.scope.now row.form c.in-Some.text.now) (c.value_of.ensures reads)))
    c.add.ensures
