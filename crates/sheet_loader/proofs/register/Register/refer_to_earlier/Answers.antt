use Rattle.std.proofs.Common.{ap, subst, sym}
use Rattle.sheet_loader.specs.Known.{Known, Knows, known}
use Rattle.sheet_loader.proofs.ReferringLemmas.{earlier-next}
use Rattle.sheet_loader.proofs.register.Register.refer_to_earlier.Goals as goal

pub loop-name-preserved : goal.loop-name-preserved
loop-name-preserved c = λ sheet knows same.
    let before = c.loop-name.invariant sheet knows same in
    earlier-next (known c.args.self.now) (known c.loop-name.self) (known c.refer_to_one_earlier.new.self) c.args.at sheet c.args.group c.loop-name.yielded c.in-Some.name
    before (c.in_ok-refer_to_one_earlier.ensures sheet (subst (λ d. Knows d sheet) (sym (ap (λ (k : Known). k.declares) before)) knows) same)
