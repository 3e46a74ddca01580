use Rattle.std.proofs.Common.{◌≡◌, List, ℕ, IfOk, string_bytes, sym, take, drop, Result, Ok, Err, String}
use Rattle.std.specs.Str.{chars, encode_utf8_all}
use Rattle.std.proofs.lemmas.Str.{IsUtf8-string_bytes, chars_from_encodes}
use Rattle.std.proofs.lemmas.Iterator.{YieldsList-from_chars, YieldsList-from_take, text_from_collect}
use Rattle.std.proofs.lemmas.Iterator.Adapters.{YieldsList-from_skip}
use Rattle.std.specs.declared.alloc.Global.{Global}
use Rattle.stxpath_values.proofs.places.collect_between.Goals as goal

chars_of_made : {E : Type 0} (cs : List ℕ) (r : Result (String Global) E) → IfOk r (λ w. string_bytes w ≡ encode_utf8_all cs) → IfOk r (λ w. chars (string_bytes w) ≡ cs)
chars_of_made cs (Ok w) e = sym (chars_from_encodes cs (string_bytes w) (IsUtf8-string_bytes w) (sym e))
chars_of_made cs (Err x) e = tt

pub returns : goal.returns
returns c =
    chars_of_made (take c.args.len (drop c.args.skipped (chars c.args.text.now))) _ (text_from_collect _ c.collect.ensures.ran
    (YieldsList-from_take c.args.len (YieldsList-from_skip c.args.skipped (YieldsList-from_chars c.args.text.now c.utf8.text (cc)) (cc)) c.take.ensures.count))
