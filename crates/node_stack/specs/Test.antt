-- What tests ask of a node.
use Rattle.std.specs.Prelude.{ℕ, Bool, true, false, ◌&&◌, List, encode_utf8_all}
use Rattle.std.specs.Str.{bytes_eq}
use Rattle.stx_base.specs.declared.name.Name.{Name}
use Rattle.stx_base.specs.declared.node.NodeTest.{NodeTest}
use Rattle.stx_base.specs.declared.node.NodeTest.TheVariants as test

-- what tests see of a node: its kind, and an element's or an attribute's name, or an instruction's target
pub data Kind : Type 0 where
  Document : Kind
  Element : Name → Kind
  Chars : Kind
  CData : Kind
  Comment : Kind
  Pi : List ℕ → Kind
  Attribute : Name → Kind

-- two texts are spelled alike in UTF-8
abbrev pub same : List ℕ → List ℕ → Bool
same a b = bytes_eq (encode_utf8_all a) (encode_utf8_all b)

-- expanded names agree by URI and local part, whatever the prefixes (Namespaces in XML 1.0, 2.1)
abbrev pub same_name : Name → Name → Bool
same_name m n = same m.uri n.uri && same m.local n.local

-- which nodes pass a test
abbrev pub passes : NodeTest → Kind → Bool
passes test.Document Document = true
passes (test.Name n) (Element m) = same_name m n
passes (test.Prefix b) (Element m) = same m.uri b.uri
passes test.AnyElement (Element m) = true
passes test.AnyNode (Element m) = true
passes test.AnyNode Chars = true
passes test.AnyNode CData = true
passes test.AnyNode Comment = true
passes test.AnyNode (Pi t) = true
passes test.Chars Chars = true
passes test.Chars CData = true
passes test.CData CData = true
passes test.Comment Comment = true
passes test.AnyPi (Pi t) = true
passes (test.Pi u) (Pi t) = same t u
passes (test.AttrName n) (Attribute m) = same_name m n
passes (test.AttrPrefix b) (Attribute m) = same m.uri b.uri
passes test.AnyAttr (Attribute m) = true
passes t x = false
