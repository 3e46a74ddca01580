-- Tests by the numbers of their texts.
use Rattle.std.specs.Prelude.{◌≡◌, ℕ, Bool, true, ◌&&◌, List, [], ◌∷◌, Option, Some, None, encode_utf8_all, string_bytes}
use Rattle.std.specs.Str.{bytes_eq}
use Rattle.std.specs.List.{list_all}
use Rattle.indexmap.specs.IndexSet.{contains_by, index_of_by}
use Rattle.stx_base.specs.declared.name.Name.{Name}
use Rattle.stx_base.specs.declared.node.NodeTest.{NodeTest}
use Rattle.stx_base.specs.declared.node.NodeTest.TheVariants as test
use Rattle.match_patterns.specs.Fits.{test_of}
use Rattle.node_stack.specs.Test as kind
use Rattle.node_stack.specs.Test.{Kind}
use Rattle.sheet_model.specs.declared.sheet.Template.{Template}
use Rattle.group_scope.specs.declared.key.Test.{Test}
use Rattle.group_scope.specs.declared.key.Test.TheVariants as numbered_
use Rattle.group_scope.specs.declared.words.Words.{Words}

-- the place of a text among those that were taken up
abbrev pub number : Words → List ℕ → Option ℕ
number words text = index_of_by (λ word. bytes_eq (encode_utf8_all text) (string_bytes word)) words.texts

-- the text is among those that were taken up
abbrev pub has_number : Words → List ℕ → Bool
has_number words text = contains_by (λ word. bytes_eq (encode_utf8_all text) (string_bytes word)) words.texts

-- so are the texts that a test names
abbrev pub are_numbered : Words → NodeTest → Bool
are_numbered words (test.Name n) = has_number words n.uri && has_number words n.local
are_numbered words (test.Prefix b) = has_number words b.uri
are_numbered words (test.Pi t) = has_number words t
are_numbered words (test.AttrName n) = has_number words n.uri && has_number words n.local
are_numbered words (test.AttrPrefix b) = has_number words b.uri
are_numbered words _ = true

-- and those that the tests of the last steps of a template's alternatives name
abbrev pub is_numbered_template : Words → Template → Bool
is_numbered_template words t = list_all (λ a. are_numbered words (test_of a)) t.pattern.alternatives

abbrev pub all_are_numbered : Words → List Template → Bool
all_are_numbered words ts = list_all (is_numbered_template words) ts

-- each text that had a number has one
abbrev pub Keeps : Words → Words → Type 0
Keeps old new = (text : List ℕ) → has_number old text ≡ true → has_number new text ≡ true

abbrev pub numbered : Words → NodeTest → Test
numbered words test.Document = numbered_.Document
numbered words (test.Name n) = numbered_.Name (number words n.uri) (number words n.local)
numbered words (test.Prefix b) = numbered_.Prefix (number words b.uri)
numbered words test.AnyElement = numbered_.AnyElement
numbered words test.AnyNode = numbered_.AnyNode
numbered words test.Chars = numbered_.Chars
numbered words test.CData = numbered_.CData
numbered words test.Comment = numbered_.Comment
numbered words test.AnyPi = numbered_.AnyPi
numbered words (test.Pi t) = numbered_.Pi (number words t)
numbered words (test.AttrName n) = numbered_.AttrName (number words n.uri) (number words n.local)
numbered words (test.AttrPrefix b) = numbered_.AttrPrefix (number words b.uri)
numbered words test.AnyAttr = numbered_.AnyAttr

abbrev pub of_element : Words → Name → List (Option Test)
of_element words n =
    Some (numbered_.Name (number words n.uri) (number words n.local))
    ∷ Some (numbered_.Prefix (number words n.uri))
    ∷ Some numbered_.AnyElement
    ∷ Some numbered_.AnyNode
    ∷ []

abbrev pub of_attribute : Words → Name → List (Option Test)
of_attribute words n =
    Some (numbered_.AttrName (number words n.uri) (number words n.local))
    ∷ Some (numbered_.AttrPrefix (number words n.uri))
    ∷ Some numbered_.AnyAttr
    ∷ None
    ∷ []

-- the tests that nodes of a kind can pass
abbrev pub asked : Words → Kind → List (Option Test)
asked words kind.Document = Some numbered_.Document ∷ None ∷ None ∷ None ∷ []
asked words (kind.Element n) = of_element words n
asked words kind.Chars = Some numbered_.Chars ∷ Some numbered_.AnyNode ∷ None ∷ None ∷ []
asked words kind.CData = Some numbered_.CData ∷ Some numbered_.Chars ∷ Some numbered_.AnyNode ∷ None ∷ []
asked words kind.Comment = Some numbered_.Comment ∷ Some numbered_.AnyNode ∷ None ∷ None ∷ []
asked words (kind.Pi t) = Some (numbered_.Pi (number words t)) ∷ Some numbered_.AnyPi ∷ Some numbered_.AnyNode ∷ None ∷ []
asked words (kind.Attribute n) = of_attribute words n
