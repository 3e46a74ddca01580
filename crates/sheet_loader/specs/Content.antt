-- What a buffer begins with: the nodes of its element, written as they are.
use Rattle.std.specs.Prelude.{◌≡◌, ℕ, List, [], ◌∷◌, ◌++◌, map, Option, if◌then◌else◌}
use Rattle.std.specs.List.{list_all}
use Rattle.stx_base.specs.Character.{is_space}
use Rattle.stx_base.specs.Course.{Gives}
use Rattle.stx_base.specs.declared.name.Attr.{Attr}
use Rattle.stx_base.specs.declared.part.Part.{Part}
use Rattle.stx_base.specs.declared.part.Part.TheVariants as part
use Rattle.xml_events.specs.Tree.{Forest, Chars, CData, Comment, Pi, End, Cut, Single, Nested}
use Rattle.sheet_loader.specs.Elements.{Parts}
use Rattle.sheet_loader.specs.Making.{parts}
use Rattle.sheet_loader.specs.Read.{code_of_job, nodes}
use Rattle.sheet_loader.specs.Reading.{File, Context, Item, Listed, Loading}
use Rattle.sheet_loader.specs.Values.{Reads}

-- a text, unless it is white space alone
abbrev pub text_parts : List ℕ → List Part
text_parts text = if list_all is_space text then [] else part.Chars text ∷ []

-- the nodes of a list as parts, but for comments and processing instructions: each element with its attributes, as they are written
abbrev pub node_parts : Forest → List Part
node_parts (End mark offset) = []
node_parts (Cut why) = []
node_parts (Single mark (Chars offset text) next) = text_parts text ++ node_parts next
node_parts (Single mark (CData offset text) next) = text_parts text ++ node_parts next
node_parts (Single mark (Comment offset text) next) = node_parts next
node_parts (Single mark (Pi offset target text) next) = node_parts next
node_parts (Nested stage e kids next) =
    (part.Start e.name [] ∷ (map (λ (a : Attr). part.Attribute a.name a.value) e.attrs ++ node_parts kids ++ part.End e.name ∷ [])) ++ node_parts next

-- A list of a buffer that gives a result comes to its nodes as parts, behind those before them. It opens no file, declares nothing, and
-- refers to nothing.
abbrev pub WritesNodes : Type 0
WritesNodes =
    (reads : Reads) (files : List (Option File)) (here : Context) (before : List Item) (list : Forest) (l : Loading) (names : List (List ℕ)) (r : Listed)
    → here.inside ≡ Parts
    → Gives (code_of_job reads files) (nodes reads files here before list l) names r
    → (names ≡ []) × (r.loading ≡ l) × (parts r.items ≡ parts before ++ node_parts list)
