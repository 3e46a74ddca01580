-- Tests that a node passes are asked for.
use Rattle.std.proofs.Common.{◌≡◌, inl, inr, ℕ, Bool, true, false, ◌&&◌, List, Some, encode_utf8_all, string_bytes, refl, ap, sym, ◌∙◌}
use Rattle.std.specs.Cmp.Lexicographic.{bytes_decides}
use Rattle.std.specs.Str.{bytes_eq}
use Rattle.indexmap.specs.IndexSet.{index_of_by}
use Rattle.stx_base.specs.declared.node.NodeTest.{NodeTest}
use Rattle.stx_base.specs.declared.node.NodeTest.TheVariants as test
use Rattle.node_stack.specs.Test as kind
use Rattle.node_stack.specs.Test.{Kind, passes, same, same_name}
use Rattle.group_scope.specs.declared.key.Test.TheVariants as numbered_
use Rattle.group_scope.specs.declared.words.Words.{Words}
use Rattle.group_scope.specs.Words.{asked, number, numbered}
use Rattle.group_scope.proofs.Among.{Among}

both : (a b : Bool) → (a && b) ≡ true → (a ≡ true) × (b ≡ true)
both true true h = (refl, refl)
both true false h = cc
both false b h = cc

alike : (words : Words) (a b : List ℕ) → same a b ≡ true → number words b ≡ number words a
alike words a b h =
    let bytes : encode_utf8_all a ≡ encode_utf8_all b = (bytes_decides (encode_utf8_all a) (encode_utf8_all b)).0 h in
    ap (λ bs. index_of_by (λ word. bytes_eq bs (string_bytes word)) words.texts) (sym bytes)

pub asked_for : (words : Words) (t : NodeTest) (k : Kind) → passes t k ≡ true → Among (asked words k) (Some (numbered words t))
asked_for words test.Document kind.Document h = inl refl
asked_for words test.Document (kind.Element m) h = cc
asked_for words test.Document kind.Chars h = cc
asked_for words test.Document kind.CData h = cc
asked_for words test.Document kind.Comment h = cc
asked_for words test.Document (kind.Pi u) h = cc
asked_for words test.Document (kind.Attribute m) h = cc
asked_for words (test.Name n) kind.Document h = cc
asked_for words (test.Name n) (kind.Element m) h = inl (let p = both (same m.uri n.uri) (same m.local n.local) h in ap (λ x. Some (numbered_.Name x (number words m.local))) (sym (alike words m.uri n.uri p.0)) ∙ ap (λ x. Some (numbered_.Name (number words n.uri) x)) (sym (alike words m.local n.local p.1)))
asked_for words (test.Name n) kind.Chars h = cc
asked_for words (test.Name n) kind.CData h = cc
asked_for words (test.Name n) kind.Comment h = cc
asked_for words (test.Name n) (kind.Pi u) h = cc
asked_for words (test.Name n) (kind.Attribute m) h = cc
asked_for words (test.Prefix b) kind.Document h = cc
asked_for words (test.Prefix b) (kind.Element m) h = inr (inl (ap (λ x. Some (numbered_.Prefix x)) (sym (alike words m.uri b.uri h))))
asked_for words (test.Prefix b) kind.Chars h = cc
asked_for words (test.Prefix b) kind.CData h = cc
asked_for words (test.Prefix b) kind.Comment h = cc
asked_for words (test.Prefix b) (kind.Pi u) h = cc
asked_for words (test.Prefix b) (kind.Attribute m) h = cc
asked_for words test.AnyElement kind.Document h = cc
asked_for words test.AnyElement (kind.Element m) h = inr (inr (inl refl))
asked_for words test.AnyElement kind.Chars h = cc
asked_for words test.AnyElement kind.CData h = cc
asked_for words test.AnyElement kind.Comment h = cc
asked_for words test.AnyElement (kind.Pi u) h = cc
asked_for words test.AnyElement (kind.Attribute m) h = cc
asked_for words test.AnyNode kind.Document h = cc
asked_for words test.AnyNode (kind.Element m) h = inr (inr (inr (inl refl)))
asked_for words test.AnyNode kind.Chars h = inr (inl refl)
asked_for words test.AnyNode kind.CData h = inr (inr (inl refl))
asked_for words test.AnyNode kind.Comment h = inr (inl refl)
asked_for words test.AnyNode (kind.Pi u) h = inr (inr (inl refl))
asked_for words test.AnyNode (kind.Attribute m) h = cc
asked_for words test.Chars kind.Document h = cc
asked_for words test.Chars (kind.Element m) h = cc
asked_for words test.Chars kind.Chars h = inl refl
asked_for words test.Chars kind.CData h = inr (inl refl)
asked_for words test.Chars kind.Comment h = cc
asked_for words test.Chars (kind.Pi u) h = cc
asked_for words test.Chars (kind.Attribute m) h = cc
asked_for words test.CData kind.Document h = cc
asked_for words test.CData (kind.Element m) h = cc
asked_for words test.CData kind.Chars h = cc
asked_for words test.CData kind.CData h = inl refl
asked_for words test.CData kind.Comment h = cc
asked_for words test.CData (kind.Pi u) h = cc
asked_for words test.CData (kind.Attribute m) h = cc
asked_for words test.Comment kind.Document h = cc
asked_for words test.Comment (kind.Element m) h = cc
asked_for words test.Comment kind.Chars h = cc
asked_for words test.Comment kind.CData h = cc
asked_for words test.Comment kind.Comment h = inl refl
asked_for words test.Comment (kind.Pi u) h = cc
asked_for words test.Comment (kind.Attribute m) h = cc
asked_for words test.AnyPi kind.Document h = cc
asked_for words test.AnyPi (kind.Element m) h = cc
asked_for words test.AnyPi kind.Chars h = cc
asked_for words test.AnyPi kind.CData h = cc
asked_for words test.AnyPi kind.Comment h = cc
asked_for words test.AnyPi (kind.Pi u) h = inr (inl refl)
asked_for words test.AnyPi (kind.Attribute m) h = cc
asked_for words (test.Pi t) kind.Document h = cc
asked_for words (test.Pi t) (kind.Element m) h = cc
asked_for words (test.Pi t) kind.Chars h = cc
asked_for words (test.Pi t) kind.CData h = cc
asked_for words (test.Pi t) kind.Comment h = cc
asked_for words (test.Pi t) (kind.Pi u) h = inl (ap (λ x. Some (numbered_.Pi x)) (sym (alike words u t h)))
asked_for words (test.Pi t) (kind.Attribute m) h = cc
asked_for words (test.AttrName n) kind.Document h = cc
asked_for words (test.AttrName n) (kind.Element m) h = cc
asked_for words (test.AttrName n) kind.Chars h = cc
asked_for words (test.AttrName n) kind.CData h = cc
asked_for words (test.AttrName n) kind.Comment h = cc
asked_for words (test.AttrName n) (kind.Pi u) h = cc
asked_for words (test.AttrName n) (kind.Attribute m) h = inl (let p = both (same m.uri n.uri) (same m.local n.local) h in ap (λ x. Some (numbered_.AttrName x (number words m.local))) (sym (alike words m.uri n.uri p.0)) ∙ ap (λ x. Some (numbered_.AttrName (number words n.uri) x)) (sym (alike words m.local n.local p.1)))
asked_for words (test.AttrPrefix b) kind.Document h = cc
asked_for words (test.AttrPrefix b) (kind.Element m) h = cc
asked_for words (test.AttrPrefix b) kind.Chars h = cc
asked_for words (test.AttrPrefix b) kind.CData h = cc
asked_for words (test.AttrPrefix b) kind.Comment h = cc
asked_for words (test.AttrPrefix b) (kind.Pi u) h = cc
asked_for words (test.AttrPrefix b) (kind.Attribute m) h = inr (inl (ap (λ x. Some (numbered_.AttrPrefix x)) (sym (alike words m.uri b.uri h))))
asked_for words test.AnyAttr kind.Document h = cc
asked_for words test.AnyAttr (kind.Element m) h = cc
asked_for words test.AnyAttr kind.Chars h = cc
asked_for words test.AnyAttr kind.CData h = cc
asked_for words test.AnyAttr kind.Comment h = cc
asked_for words test.AnyAttr (kind.Pi u) h = cc
asked_for words test.AnyAttr (kind.Attribute m) h = inr (inr (inl refl))
