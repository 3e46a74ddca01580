use Rattle.run_future.proofs.Regions.{heads_are_held, lists_hide, regions_begin, regions_skip}
use Rattle.run_future.proofs.law.regions.Goals as goal

pub returns : goal.returns
returns c = record { begins = regions_begin; skips = regions_skip c.without_templates.ensures.skipped; heads = heads_are_held; levels = lists_hide }
