-- The elements by their names.
use Rattle.std.proofs.Common.{◌≡◌, ℕ, Bool, true, false, List, [], ◌∷◌, map, Some, refl, sym, ap, ◌∙◌, IsUtf8}
use Rattle.std.specs.Prelude.{bytes_eq, find, nat_lt, if◌then◌else◌}
use Rattle.std.specs.List.{list_all}
use Rattle.std.specs.Option.{option_map}
use Rattle.std.specs.Str.{chars}
use Rattle.xml_names.proofs.Texts.{same-word, ascii, same-sym}
use Rattle.sheet_loader.specs.Elements as element
use Rattle.sheet_loader.specs.Elements.{lookup}
use Rattle.sheet_loader.specs.Meant.{kind_of, word_of}
use Rattle.sheet_loader.specs.declared.kind.Kind.{Kind}
use Rattle.sheet_loader.specs.declared.kind.Kind.TheVariants as kind

abbrev pub all : List Kind
all = kind.Transform ∷ kind.Group ∷ kind.Template ∷ kind.Procedure ∷ kind.Include ∷ kind.Param ∷ kind.Variable ∷ kind.Buffer ∷ kind.ValueOf ∷ kind.Chars ∷ kind.Copy ∷ kind.Element ∷ kind.StartElement ∷ kind.EndElement ∷ kind.Attribute ∷ kind.Comment ∷ kind.Instruction ∷ kind.Message ∷ kind.If ∷ kind.Else ∷ kind.Choose ∷ kind.When ∷ kind.Otherwise ∷ kind.ForEachItem ∷ kind.While ∷ kind.Assign ∷ kind.CallProcedure ∷ kind.ProcessChildren ∷ kind.ProcessAttributes ∷ kind.ProcessSelf ∷ kind.ProcessSiblings ∷ kind.ProcessBuffer ∷ kind.ProcessDocument ∷ kind.ResultBuffer ∷ kind.WithParam ∷ []

-- each name is of ASCII
word-ascii : (k : Kind) → list_all (λ b. nat_lt b 128) (word_of k) ≡ true
word-ascii kind.Transform = refl
word-ascii kind.Group = refl
word-ascii kind.Template = refl
word-ascii kind.Procedure = refl
word-ascii kind.Include = refl
word-ascii kind.Param = refl
word-ascii kind.Variable = refl
word-ascii kind.Buffer = refl
word-ascii kind.ValueOf = refl
word-ascii kind.Chars = refl
word-ascii kind.Copy = refl
word-ascii kind.Element = refl
word-ascii kind.StartElement = refl
word-ascii kind.EndElement = refl
word-ascii kind.Attribute = refl
word-ascii kind.Comment = refl
word-ascii kind.Instruction = refl
word-ascii kind.Message = refl
word-ascii kind.If = refl
word-ascii kind.Else = refl
word-ascii kind.Choose = refl
word-ascii kind.When = refl
word-ascii kind.Otherwise = refl
word-ascii kind.ForEachItem = refl
word-ascii kind.While = refl
word-ascii kind.Assign = refl
word-ascii kind.CallProcedure = refl
word-ascii kind.ProcessChildren = refl
word-ascii kind.ProcessAttributes = refl
word-ascii kind.ProcessSelf = refl
word-ascii kind.ProcessSiblings = refl
word-ascii kind.ProcessBuffer = refl
word-ascii kind.ProcessDocument = refl
word-ascii kind.ResultBuffer = refl
word-ascii kind.WithParam = refl

-- a name is compared by its bytes or by its characters alike
word-alike : (bs : List ℕ) → IsUtf8 bs → (k : Kind) → bytes_eq (word_of k) bs ≡ bytes_eq (word_of k) (chars bs)
word-alike bs utf8 k =
    same-sym (word_of k) bs ∙ same-word bs (word_of k) utf8 (ascii (word_of k) (word-ascii k)) ∙ same-sym (chars bs) (word_of k)

first_by_case : (bs : List ℕ) (k : Kind) (ks : List Kind) (b : Bool) → bytes_eq (word_of k) bs ≡ b → bytes_eq (word_of k) (chars bs) ≡ b
    → option_map kind_of (find (λ k. bytes_eq (word_of k) bs) ks) ≡ lookup (map (λ k. (word_of k, kind_of k)) ks) (chars bs)
    → option_map kind_of (find (λ k. bytes_eq (word_of k) bs) (k ∷ ks)) ≡ lookup (map (λ k. (word_of k, kind_of k)) (k ∷ ks)) (chars bs)
first_by_case bs k ks true e f again =
    ap (λ b. option_map kind_of (if b then Some k else find (λ k. bytes_eq (word_of k) bs) ks)) e
    ∙ sym (ap (λ b. if b then Some (kind_of k) else lookup (map (λ k. (word_of k, kind_of k)) ks) (chars bs)) f)
first_by_case bs k ks false e f again =
    ap (λ b. option_map kind_of (if b then Some k else find (λ k. bytes_eq (word_of k) bs) ks)) e
    ∙ again
    ∙ sym (ap (λ b. if b then Some (kind_of k) else lookup (map (λ k. (word_of k, kind_of k)) ks) (chars bs)) f)

-- the first kind of a list that has the name, and the first entry of the names
lookup-find : (bs : List ℕ) → IsUtf8 bs → (ks : List Kind)
    → option_map kind_of (find (λ k. bytes_eq (word_of k) bs) ks) ≡ lookup (map (λ k. (word_of k, kind_of k)) ks) (chars bs)
lookup-find bs utf8 [] = refl
lookup-find bs utf8 (k ∷ ks) =
    first_by_case bs k ks (bytes_eq (word_of k) bs) refl (sym (word-alike bs utf8 k)) (lookup-find bs utf8 ks)

pub named : (bs : List ℕ) → IsUtf8 bs → option_map kind_of (find (λ k. bytes_eq (word_of k) bs) all) ≡ element.kind_named (chars bs)
named bs utf8 = lookup-find bs utf8 all
