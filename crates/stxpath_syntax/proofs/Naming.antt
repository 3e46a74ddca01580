-- Each function is found by its name, and by no other.
use Rattle.std.proofs.Common.{◌≡◌, ℕ, Bool, true, false, cond, List, [], ◌∷◌, Some, refl, sym, subst}
use Rattle.std.specs.Prelude.{bytes_eq, encode_utf8_all, find}
use Rattle.std.proofs.lemmas.Slice.Eq.{bytes_eq-Decides}
use Rattle.stx_base.specs.declared.expression.Fun.{Fun}
use Rattle.stx_base.specs.declared.expression.Fun.TheVariants as fun
use Rattle.stx_base.specs.Functions.{word, every}
use Rattle.stxpath_syntax.specs.Functions.{function_named}

pub named_in_utf8 : (f : Fun) → function_named (encode_utf8_all (word f)) ≡ Some f
unfolding function_named lib.Utf8.encode
named_in_utf8 fun.Name = refl
named_in_utf8 fun.LocalName = refl
named_in_utf8 fun.NamespaceUri = refl
named_in_utf8 fun.Position = refl
named_in_utf8 fun.Level = refl
named_in_utf8 fun.HasChildNodes = refl
named_in_utf8 fun.Str = refl
named_in_utf8 fun.Integer = refl
named_in_utf8 fun.Boolean = refl
named_in_utf8 fun.Not = refl
named_in_utf8 fun.True = refl
named_in_utf8 fun.False = refl
named_in_utf8 fun.Concat = refl
named_in_utf8 fun.StringJoin = refl
named_in_utf8 fun.StringLength = refl
named_in_utf8 fun.Substring = refl
named_in_utf8 fun.SubstringBefore = refl
named_in_utf8 fun.SubstringAfter = refl
named_in_utf8 fun.Contains = refl
named_in_utf8 fun.StartsWith = refl
named_in_utf8 fun.EndsWith = refl
named_in_utf8 fun.NormalizeSpace = refl
named_in_utf8 fun.Translate = refl
named_in_utf8 fun.Count = refl
named_in_utf8 fun.Empty = refl
named_in_utf8 fun.Exists = refl
named_in_utf8 fun.Sum = refl
named_in_utf8 fun.ItemAt = refl
named_in_utf8 fun.IndexOf = refl
named_in_utf8 fun.Subsequence = refl

pub named_in_bytes : (f : Fun) → function_named (word f) ≡ Some f
unfolding function_named
named_in_bytes fun.Name = refl
named_in_bytes fun.LocalName = refl
named_in_bytes fun.NamespaceUri = refl
named_in_bytes fun.Position = refl
named_in_bytes fun.Level = refl
named_in_bytes fun.HasChildNodes = refl
named_in_bytes fun.Str = refl
named_in_bytes fun.Integer = refl
named_in_bytes fun.Boolean = refl
named_in_bytes fun.Not = refl
named_in_bytes fun.True = refl
named_in_bytes fun.False = refl
named_in_bytes fun.Concat = refl
named_in_bytes fun.StringJoin = refl
named_in_bytes fun.StringLength = refl
named_in_bytes fun.Substring = refl
named_in_bytes fun.SubstringBefore = refl
named_in_bytes fun.SubstringAfter = refl
named_in_bytes fun.Contains = refl
named_in_bytes fun.StartsWith = refl
named_in_bytes fun.EndsWith = refl
named_in_bytes fun.NormalizeSpace = refl
named_in_bytes fun.Translate = refl
named_in_bytes fun.Count = refl
named_in_bytes fun.Empty = refl
named_in_bytes fun.Exists = refl
named_in_bytes fun.Sum = refl
named_in_bytes fun.ItemAt = refl
named_in_bytes fun.IndexOf = refl
named_in_bytes fun.Subsequence = refl

word_by : (fs : List Fun) (name : List ℕ) (f : Fun) → find (λ f. bytes_eq (word f) name) fs ≡ Some f → name ≡ word f
word_by [] name f e = cc
word_by (g ∷ fs) name f e = by (bytes_eq (word g) name) refl (λ h. word_by fs name f h) e
  where
    by : (b : Bool) → bytes_eq (word g) name ≡ b → (find (λ f. bytes_eq (word f) name) fs ≡ Some f → name ≡ word f)
        → cond b (Some g) (find (λ f. bytes_eq (word f) name) fs) ≡ Some f → name ≡ word f
    by true same more h = let is : g ≡ f = cc in subst (λ f. name ≡ word f) is (sym ((bytes_eq-Decides (word g) name).0 same))
    by false apart more h = more h

pub word_is : (name : List ℕ) (f : Fun) → function_named name ≡ Some f → name ≡ word f
unfolding function_named
word_is name f e = word_by every name f e
