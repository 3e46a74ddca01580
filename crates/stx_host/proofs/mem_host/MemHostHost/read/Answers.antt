use Rattle.std.proofs.Common.{◌≡◌, ◌==◌, ◌↔◌, false, sym, subst, if◌then◌else◌, arith}
use Rattle.std.proofs.lemmas.Bool.Decides.{nat_tests}
use Rattle.stx_host.specs.declared.act.Call.TheVariants.{ReadMain, ReadDoc}
use Rattle.stx_host.specs.declared.act.Got.TheVariants.{Failed}
use Rattle.stx_host.specs.MemHost.{CallFails, ReadFails}
use Rattle.stx_host.proofs.mem_host.MemHostHost.read.Goals as goal

pub returns-then-id-eq0-clause-fails : goal.returns-then-id-eq0-clause-fails
returns-then-id-eq0-clause-fails c = subst (λ id. (c.read_main.result ≡ Failed) ↔ ReadFails c.args.self.now id) (sym c.if-id-eq0.true) c.read_main.ensures.fails

pub returns-else-id-eq0-clause-fails : goal.returns-else-id-eq0-clause-fails
returns-else-id-eq0-clause-fails c =
    let other : (c.args.id == 0) ≡ false = grind (arith, nat_tests) in
    subst (λ b. (c.read_doc.result ≡ Failed) ↔ CallFails c.args.self.now (if b then ReadMain else ReadDoc)) (sym other) c.read_doc.ensures.fails
