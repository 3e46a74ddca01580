use Rattle.std.proofs.Common.{◌∙◌, ap, sym}
use Rattle.sheet_loader.specs.Keys.{name_of}
use Rattle.sheet_loader.specs.Known.{known_of, sought_of}
use Rattle.sheet_loader.specs.References.{is_found}
use Rattle.sheet_loader.proofs.KnownLemmas.{buffer-seen, procedure-seen, variable-seen}
use Rattle.sheet_loader.proofs.waiting.Wanted.is_found.Goals as goal

pub returns-in-Procedure : goal.returns-in-Procedure
returns-in-Procedure c = λ sheet knows same.
    c.is_seen.ensures
    ∙ procedure-seen (known_of c.args.declared.now) sheet c.args.groups.now c.in-Procedure.own.group (name_of c.in-Procedure.own.name) knows same
    ∙ ap (λ w. is_found sheet (sought_of w)) (sym c.in-Procedure.is)

pub returns-in-Buffer : goal.returns-in-Buffer
returns-in-Buffer c = λ sheet knows same.
    c.is_seen-in-Buffer.ensures
    ∙ buffer-seen (known_of c.args.declared.now) sheet c.args.groups.now c.in-Buffer.own.group (name_of c.in-Buffer.own.name) knows same
    ∙ ap (λ w. is_found sheet (sought_of w)) (sym c.in-Buffer.is)

pub returns-in-Variable : goal.returns-in-Variable
returns-in-Variable c = λ sheet knows same.
    c.is_seen-in-Variable.ensures
    ∙ variable-seen (known_of c.args.declared.now) sheet c.args.groups.now c.in-Variable.own.group (name_of c.in-Variable.own.name) knows same
    ∙ ap (λ w. is_found sheet (sought_of w)) (sym c.in-Variable.is)
