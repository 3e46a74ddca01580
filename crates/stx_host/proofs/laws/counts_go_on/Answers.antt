use Rattle.stx_host.proofs.Counts.{counts_join, counts_at_open, counts_at_read, counts_at_close, counts_at_write, rose_and_later, later_and_rose}
use Rattle.stx_host.proofs.laws.counts_go_on.Goals as goal

pub returns : goal.returns
returns c = record {
  join = counts_join;
  «open» = counts_at_open;
  read = counts_at_read;
  close = counts_at_close;
  write = counts_at_write;
  rose_and_later = rose_and_later;
  later_and_rose = later_and_rose;
}
