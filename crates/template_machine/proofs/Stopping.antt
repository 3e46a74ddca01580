-- The small sheets that stop do so by computation.
use Rattle.std.proofs.Common.{refl}
use lib.Utf8.{encode}
use denote.Hole.Carrier.{hidden, out, shown}
use Rattle.sheet_model.specs.declared.instr.Instr.TheBlock.{shown-the_row-Instr-0}
use Rattle.sheet_model.specs.declared.instr.Instr.TheViews.{out-Instr}
use Rattle.template_machine.specs.Stopping.{Busy, OpenCopy, Crowded, Parted, LeftOpen, Unmatched, Late, OtherDocument, NoDocument, Short, Categories, Going, Outermost, ByKinds, Gone, Renewed, ReadSpent, Full, TooManySources, EnoughSources, PassedOver, Waits, Broken, BrokenOther}

pub busy : Busy
unfolding encode hidden out shown shown-the_row-Instr-0 out-Instr
busy = refl

pub open_copy : OpenCopy
unfolding encode hidden out shown shown-the_row-Instr-0 out-Instr
open_copy = refl

pub crowded : Crowded
unfolding encode hidden out shown shown-the_row-Instr-0 out-Instr
crowded = refl

pub parted : Parted
unfolding encode hidden out shown shown-the_row-Instr-0 out-Instr
parted = refl

pub left_open : LeftOpen
unfolding encode hidden out shown shown-the_row-Instr-0 out-Instr
left_open = refl

pub unmatched : Unmatched
unfolding encode hidden out shown shown-the_row-Instr-0 out-Instr
unmatched = refl

pub late : Late
unfolding encode hidden out shown shown-the_row-Instr-0 out-Instr
late = refl

pub other_document : OtherDocument
unfolding encode hidden out shown shown-the_row-Instr-0 out-Instr
other_document = refl

pub no_document : NoDocument
unfolding encode hidden out shown shown-the_row-Instr-0 out-Instr
no_document = refl

pub short : Short
unfolding encode hidden out shown shown-the_row-Instr-0 out-Instr
short = refl

pub categories : Categories
unfolding encode hidden out shown shown-the_row-Instr-0 out-Instr
categories = refl

pub going : Going
unfolding encode hidden out shown shown-the_row-Instr-0 out-Instr
going = refl

pub outermost : Outermost
unfolding encode hidden out shown shown-the_row-Instr-0 out-Instr
outermost = refl

pub by_kinds : ByKinds
unfolding encode hidden out shown shown-the_row-Instr-0 out-Instr
by_kinds = refl

pub gone : Gone
unfolding encode hidden out shown shown-the_row-Instr-0 out-Instr
gone = refl

pub renewed : Renewed
unfolding encode hidden out shown shown-the_row-Instr-0 out-Instr
renewed = refl

pub read_spent : ReadSpent
unfolding encode hidden out shown shown-the_row-Instr-0 out-Instr
read_spent = refl

pub full : Full
unfolding encode hidden out shown shown-the_row-Instr-0 out-Instr
full = refl

pub too_many_sources : TooManySources
unfolding encode hidden out shown shown-the_row-Instr-0 out-Instr
too_many_sources = refl

pub enough_sources : EnoughSources
unfolding encode hidden out shown shown-the_row-Instr-0 out-Instr
enough_sources = refl

pub passed_over : PassedOver
unfolding encode hidden out shown shown-the_row-Instr-0 out-Instr
passed_over = (refl, refl)

pub waits : Waits
unfolding encode hidden out shown shown-the_row-Instr-0 out-Instr
waits = refl

pub broken : Broken
unfolding encode hidden out shown shown-the_row-Instr-0 out-Instr
broken = refl

pub broken_other : BrokenOther
unfolding encode hidden out shown shown-the_row-Instr-0 out-Instr
broken_other = refl
