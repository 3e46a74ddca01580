use Rattle.std.proofs.Common.{◌≡◌, Some, sym, ◌∙◌, subst}
use Rattle.template_machine.specs.Puts.{EndsWriting}
use Rattle.template_machine.proofs.Shelved.{ends_writing, mapped_ok, popped_is, target_there, both_ok}
use Rattle.template_machine.proofs.putting.Putting.end_writing.Goals as goal

pub close_write-requires-clause-written : goal.close_write-requires-clause-written
close_write-requires-clause-written c =
    (target_there c.args.self.now c.unwrap-buffer.result c.requires.written (popped_is c.args.self.now.targets c.pop.new.self c.pop.result c.unwrap-buffer.result c.pop.ensures c.unwrap-buffer.ensures).1).1

pub returns : goal.returns
returns c = λ id is.
    let a = c.args.self.now in
    let b = record a { buffers = c.close_write.new.self; targets = c.pop.new.self } in
    let pop = popped_is a.targets c.pop.new.self c.pop.result c.unwrap-buffer.result c.pop.ensures c.unwrap-buffer.ensures in
    mapped_ok c.close_write.result c.buffered.result _ _ _ (EndsWriting id a b) c.buffered.ensures (both_ok c.close_write.result _ _ c.close_write.ensures.ok c.close_write.ensures.whole)
    (λ e. subst (λ n. EndsWriting n a b) (one c.unwrap-buffer.result id (sym pop.1 ∙ is)) (ends_writing a b c.unwrap-buffer.result pop.0 e.0 e.1))
  where
    one : {A : Type 0} (x y : A) → Some x ≡ Some y → x ≡ y
    one x y e = cc
