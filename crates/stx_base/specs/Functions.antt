-- The functions of the path language: the name of each, and how many arguments it takes.
use Rattle.std.specs.Prelude.{ℕ, ◌==◌, nat_le, Bool, ◌&&◌, List, [], ◌∷◌, codes}
use Rattle.stx_base.specs.declared.expression.Fun.{Fun}
use Rattle.stx_base.specs.declared.expression.Fun.TheVariants as fun

-- the characters of a function's name
abbrev pub word : Fun → List ℕ
word fun.Name = codes "name"
word fun.LocalName = codes "local-name"
word fun.NamespaceUri = codes "namespace-uri"
word fun.Position = codes "position"
word fun.Level = codes "level"
word fun.HasChildNodes = codes "has-child-nodes"
word fun.Str = codes "string"
word fun.Integer = codes "integer"
word fun.Boolean = codes "boolean"
word fun.Not = codes "not"
word fun.True = codes "true"
word fun.False = codes "false"
word fun.Concat = codes "concat"
word fun.StringJoin = codes "string-join"
word fun.StringLength = codes "string-length"
word fun.Substring = codes "substring"
word fun.SubstringBefore = codes "substring-before"
word fun.SubstringAfter = codes "substring-after"
word fun.Contains = codes "contains"
word fun.StartsWith = codes "starts-with"
word fun.EndsWith = codes "ends-with"
word fun.NormalizeSpace = codes "normalize-space"
word fun.Translate = codes "translate"
word fun.Count = codes "count"
word fun.Empty = codes "empty"
word fun.Exists = codes "exists"
word fun.Sum = codes "sum"
word fun.ItemAt = codes "item-at"
word fun.IndexOf = codes "index-of"
word fun.Subsequence = codes "subsequence"

-- how many arguments a function may have
abbrev pub permits : Fun → ℕ → Bool
permits fun.Name n = nat_le n 1
permits fun.LocalName n = nat_le n 1
permits fun.NamespaceUri n = nat_le n 1
permits fun.Position n = n == 0
permits fun.Level n = n == 0
permits fun.HasChildNodes n = n == 0
permits fun.Str n = nat_le n 1
permits fun.Integer n = n == 1
permits fun.Boolean n = n == 1
permits fun.Not n = n == 1
permits fun.True n = n == 0
permits fun.False n = n == 0
permits fun.Concat n = nat_le 2 n
permits fun.StringJoin n = n == 2
permits fun.StringLength n = nat_le n 1
permits fun.Substring n = nat_le 2 n && nat_le n 3
permits fun.SubstringBefore n = n == 2
permits fun.SubstringAfter n = n == 2
permits fun.Contains n = n == 2
permits fun.StartsWith n = n == 2
permits fun.EndsWith n = n == 2
permits fun.NormalizeSpace n = nat_le n 1
permits fun.Translate n = n == 3
permits fun.Count n = n == 1
permits fun.Empty n = n == 1
permits fun.Exists n = n == 1
permits fun.Sum n = n == 1
permits fun.ItemAt n = n == 2
permits fun.IndexOf n = n == 2
permits fun.Subsequence n = nat_le 2 n && nat_le n 3

-- all functions
abbrev pub every : List Fun
every =
    fun.Name ∷ fun.LocalName ∷ fun.NamespaceUri ∷ fun.Position ∷ fun.Level ∷ fun.HasChildNodes ∷ fun.Str ∷
    fun.Integer ∷ fun.Boolean ∷ fun.Not ∷ fun.True ∷ fun.False ∷ fun.Concat ∷ fun.StringJoin ∷ fun.StringLength ∷
    fun.Substring ∷ fun.SubstringBefore ∷ fun.SubstringAfter ∷ fun.Contains ∷ fun.StartsWith ∷ fun.EndsWith ∷
    fun.NormalizeSpace ∷ fun.Translate ∷ fun.Count ∷ fun.Empty ∷ fun.Exists ∷ fun.Sum ∷ fun.ItemAt ∷ fun.IndexOf ∷
    fun.Subsequence ∷ []
