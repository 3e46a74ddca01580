use Rattle.command_words.proofs.Params.{step_param}
use Rattle.command_words.proofs.param.each_param.Goals as goal

pub loop-word-preserved : goal.loop-word-preserved
loop-word-preserved c =
    step_param c.args.words.now c.loop-word.word-index _ c.loop-word.params.items c.push.new.self.items c.in_ok-param.param
    c.loop-word-test.true c.loop-word.invariant c.in_ok-param.ensures c.in_ok-push.ensures.items
