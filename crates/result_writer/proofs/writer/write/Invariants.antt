use Rattle.std.proofs.Common.{◌≡◌, ◌++◌, drop}
use Rattle.result_writer.specs.Target.{first_fault, left_by, nothing, text, text_from}
use Rattle.result_writer.proofs.writer.write.Given as goal

-- what is written so far, and then the parts that are left, is all; so it is with faults, and with what parts leave
abbrev pub invariant-loop-part : goal.invariant-loop-part
invariant-loop-part l =
    let rest = drop l.part-index l.parts in record {
      limit : l.writer.limit ≡ l.limit;
      text : l.out.items ++ text_from l.writer.left rest ≡ text l.parts;
      left : left_by l.writer.left rest ≡ left_by nothing l.parts;
      fault : first_fault l.limit l.writer.left rest ≡ first_fault l.limit nothing l.parts;
    }
