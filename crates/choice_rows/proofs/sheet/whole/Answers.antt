use Rattle.std.proofs.Common.{true, false}
use Rattle.choice_rows.proofs.Soundness.{sound}
use Rattle.choice_rows.proofs.sheet.whole.Goals as goal

pub returns : goal.returns
returns c =
    sound (record {
      groups = c.args.groups;
      templates = c.args.templates;
      procedures = c.new.result;
      buffers = c.new-2.result;
      variables = c.new-3.result;
      strip = false;
      cdata = true;
      files = c.in_ok-files.files;
    }) c.requires.bare c.new.ensures c.requires.tree c.requires.unnamed c.new-2.ensures c.new-3.ensures c.in_ok-files.ensures c.requires.few_groups c.requires.few_templates
