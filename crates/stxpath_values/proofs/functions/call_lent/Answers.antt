use Rattle.stxpath_values.proofs.functions.call_lent.Goals as goal

pub returns-in-Substring : goal.returns-in-Substring
returns-in-Substring c =
    rw (c.in-Substring.is, ← c.argument-in-Substring.ensures, ← c.argument-in-Substring-2.ensures, ← c.optional.ensures) c.substring.ensures

pub returns-in-Translate : goal.returns-in-Translate
returns-in-Translate c =
    rw (c.in-Translate.is, ← c.argument-in-Translate.ensures, ← c.argument-in-Translate-2.ensures, ← c.argument-in-Translate-3.ensures) c.translate.ensures

pub returns-in-Subsequence : goal.returns-in-Subsequence
returns-in-Subsequence c =
    rw (c.in-Subsequence.is, ← c.first-in-Subsequence.ensures, ← c.argument-in-Subsequence.ensures, ← c.optional-in-Subsequence.ensures) c.subsequence.ensures
