use Rattle.stx_host.proofs.Stretches.{nothing_between, between_joins, between_open, between_read, between_close, between_writes, between_fault}
use Rattle.stx_host.proofs.laws.acts_add_up.Goals as goal

pub returns : goal.returns
returns c = record {
  nothing = nothing_between;
  join = between_joins;
  «open» = between_open;
  read = between_read;
  close = between_close;
  writes = between_writes;
  fault = between_fault;
}
