use Rattle.std.proofs.Common.{◌∙◌, sym}
use Rattle.command_words.proofs.Params.{bad_name, no_equals}
use Rattle.command_words.proofs.param.read_param.Goals.{in_default-via-in-Some+else-is_ncname, in_default-via-in_default}
use Rattle.command_words.proofs.param.read_param.Goals as goal

pub returns-in_default : goal.returns-in_default
returns-in_default c = elim c.in_default.branch [
  | in_default-via-in-Some+else-is_ncname w ↦
      bad_name c.args.word.now c.split_once.result c.split_once.ensures.cases w.in-Some.name w.in-Some.value w.in-Some.is
      (sym w.is_ncname.ensures ∙ w.if-is_ncname.false)
  | in_default-via-in_default w ↦ no_equals c.args.word.now c.split_once.result c.split_once.ensures.cases w.in_default.is
]
