use Rattle.std.proofs.Common.{sym, ap}
use Rattle.std.specs.Str.{chars}
use Rattle.stx_base.specs.Functions.{word}
use Rattle.stxpath_syntax.proofs.functions.word_of.Goals as goal

pub returns-in-Name : goal.returns-in-Name
unfolding chars
returns-in-Name c = record { bytes = ap word (sym c.in-Name.is); chars = ap word (sym c.in-Name.is) }

pub returns-in-LocalName : goal.returns-in-LocalName
unfolding chars
returns-in-LocalName c = record { bytes = ap word (sym c.in-LocalName.is); chars = ap word (sym c.in-LocalName.is) }

pub returns-in-NamespaceUri : goal.returns-in-NamespaceUri
unfolding chars
returns-in-NamespaceUri c = record { bytes = ap word (sym c.in-NamespaceUri.is); chars = ap word (sym c.in-NamespaceUri.is) }

pub returns-in-Position : goal.returns-in-Position
unfolding chars
returns-in-Position c = record { bytes = ap word (sym c.in-Position.is); chars = ap word (sym c.in-Position.is) }

pub returns-in-Level : goal.returns-in-Level
unfolding chars
returns-in-Level c = record { bytes = ap word (sym c.in-Level.is); chars = ap word (sym c.in-Level.is) }

pub returns-in-HasChildNodes : goal.returns-in-HasChildNodes
unfolding chars
returns-in-HasChildNodes c = record { bytes = ap word (sym c.in-HasChildNodes.is); chars = ap word (sym c.in-HasChildNodes.is) }

pub returns-in-Str : goal.returns-in-Str
unfolding chars
returns-in-Str c = record { bytes = ap word (sym c.in-Str.is); chars = ap word (sym c.in-Str.is) }

pub returns-in-Integer : goal.returns-in-Integer
unfolding chars
returns-in-Integer c = record { bytes = ap word (sym c.in-Integer.is); chars = ap word (sym c.in-Integer.is) }

pub returns-in-Boolean : goal.returns-in-Boolean
unfolding chars
returns-in-Boolean c = record { bytes = ap word (sym c.in-Boolean.is); chars = ap word (sym c.in-Boolean.is) }

pub returns-in-Not : goal.returns-in-Not
unfolding chars
returns-in-Not c = record { bytes = ap word (sym c.in-Not.is); chars = ap word (sym c.in-Not.is) }

pub returns-in-True : goal.returns-in-True
unfolding chars
returns-in-True c = record { bytes = ap word (sym c.in-True.is); chars = ap word (sym c.in-True.is) }

pub returns-in-False : goal.returns-in-False
unfolding chars
returns-in-False c = record { bytes = ap word (sym c.in-False.is); chars = ap word (sym c.in-False.is) }

pub returns-in-Concat : goal.returns-in-Concat
unfolding chars
returns-in-Concat c = record { bytes = ap word (sym c.in-Concat.is); chars = ap word (sym c.in-Concat.is) }

pub returns-in-StringJoin : goal.returns-in-StringJoin
unfolding chars
returns-in-StringJoin c = record { bytes = ap word (sym c.in-StringJoin.is); chars = ap word (sym c.in-StringJoin.is) }

pub returns-in-StringLength : goal.returns-in-StringLength
unfolding chars
returns-in-StringLength c = record { bytes = ap word (sym c.in-StringLength.is); chars = ap word (sym c.in-StringLength.is) }

pub returns-in-Substring : goal.returns-in-Substring
unfolding chars
returns-in-Substring c = record { bytes = ap word (sym c.in-Substring.is); chars = ap word (sym c.in-Substring.is) }

pub returns-in-SubstringBefore : goal.returns-in-SubstringBefore
unfolding chars
returns-in-SubstringBefore c = record { bytes = ap word (sym c.in-SubstringBefore.is); chars = ap word (sym c.in-SubstringBefore.is) }

pub returns-in-SubstringAfter : goal.returns-in-SubstringAfter
unfolding chars
returns-in-SubstringAfter c = record { bytes = ap word (sym c.in-SubstringAfter.is); chars = ap word (sym c.in-SubstringAfter.is) }

pub returns-in-Contains : goal.returns-in-Contains
unfolding chars
returns-in-Contains c = record { bytes = ap word (sym c.in-Contains.is); chars = ap word (sym c.in-Contains.is) }

pub returns-in-StartsWith : goal.returns-in-StartsWith
unfolding chars
returns-in-StartsWith c = record { bytes = ap word (sym c.in-StartsWith.is); chars = ap word (sym c.in-StartsWith.is) }

pub returns-in-EndsWith : goal.returns-in-EndsWith
unfolding chars
returns-in-EndsWith c = record { bytes = ap word (sym c.in-EndsWith.is); chars = ap word (sym c.in-EndsWith.is) }

pub returns-in-NormalizeSpace : goal.returns-in-NormalizeSpace
unfolding chars
returns-in-NormalizeSpace c = record { bytes = ap word (sym c.in-NormalizeSpace.is); chars = ap word (sym c.in-NormalizeSpace.is) }

pub returns-in-Translate : goal.returns-in-Translate
unfolding chars
returns-in-Translate c = record { bytes = ap word (sym c.in-Translate.is); chars = ap word (sym c.in-Translate.is) }

pub returns-in-Count : goal.returns-in-Count
unfolding chars
returns-in-Count c = record { bytes = ap word (sym c.in-Count.is); chars = ap word (sym c.in-Count.is) }

pub returns-in-Empty : goal.returns-in-Empty
unfolding chars
returns-in-Empty c = record { bytes = ap word (sym c.in-Empty.is); chars = ap word (sym c.in-Empty.is) }

pub returns-in-Exists : goal.returns-in-Exists
unfolding chars
returns-in-Exists c = record { bytes = ap word (sym c.in-Exists.is); chars = ap word (sym c.in-Exists.is) }

pub returns-in-Sum : goal.returns-in-Sum
unfolding chars
returns-in-Sum c = record { bytes = ap word (sym c.in-Sum.is); chars = ap word (sym c.in-Sum.is) }

pub returns-in-ItemAt : goal.returns-in-ItemAt
unfolding chars
returns-in-ItemAt c = record { bytes = ap word (sym c.in-ItemAt.is); chars = ap word (sym c.in-ItemAt.is) }

pub returns-in-IndexOf : goal.returns-in-IndexOf
unfolding chars
returns-in-IndexOf c = record { bytes = ap word (sym c.in-IndexOf.is); chars = ap word (sym c.in-IndexOf.is) }

pub returns-in-Subsequence : goal.returns-in-Subsequence
unfolding chars
returns-in-Subsequence c = record { bytes = ap word (sym c.in-Subsequence.is); chars = ap word (sym c.in-Subsequence.is) }
