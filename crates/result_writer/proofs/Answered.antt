-- Answers of calls.
use Rattle.std.proofs.Common.{◌≡◌, false, Result, Ok, Err}
use Rattle.std.specs.Prelude.{is_err, OnOk}

-- what holds on success holds where there was no error
pub where_ok : {A E P : Type 0} (r : Result A E) → is_err r ≡ false → OnOk r P → P
where_ok (Ok a) h p = p
where_ok (Err e) h p = absurd cc
