-- The items of a list as they are sorted one by one.
use Rattle.std.specs.Prelude.{◌≡◌, List, [], ◌∷◌, ◌++◌, Option, Some, None}
use Rattle.sheet_model.specs.declared.instr.Instr.{Instr}
use Rattle.sheet_model.specs.declared.instr.Instr.TheVariants as instr
use Rattle.sheet_loader.specs.Making as making
use Rattle.sheet_loader.specs.Reading.{Item, Instruction, An_if, An_else, A_local, A_branch, An_otherwise, A_param, A_value, Text}
use Rattle.sheet_loader.specs.declared.content.Content.{Content}
use Rattle.sheet_loader.specs.declared.content.OpenIf.{OpenIf}
use Rattle.sheet_loader.specs.declared.content.Sorter.{Sorter}

-- an if behind which an else may stand
abbrev pub open_item : Option OpenIf → List Item
open_item None = []
open_item (Some i) = An_if i.test i.body i.at ∷ []

-- the same with its else
abbrev pub with_else : Option OpenIf → List Instr → List Instr
with_else None other = []
with_else (Some i) other = instr.If i.test i.body other i.at ∷ []

-- the if before has this else
abbrev pub closed : List Instr → Sorter → Sorter
closed other s = record s { content = record s.content { body = s.content.body ++ with_else s.open_if other }; open_if = None }

-- one thing more, with its like
abbrev pub added : Item → Content → Content
added (Instruction i) c = record c { body = c.body ++ i ∷ [] }
added (A_local name i) c = record c { body = c.body ++ i ∷ [] }
added (A_branch w) c = record c { branches = c.branches ++ w ∷ [] }
added (An_otherwise inner) c = record c { otherwise = c.otherwise ++ inner }
added (A_param v) c = record c { params = c.params ++ v ∷ [] }
added (A_value v) c = record c { values = c.values ++ v ∷ [] }
added (Text text) c = record c { text = c.text ++ text }
added other c = c

-- an if waits for its else
abbrev pub put : Item → Sorter → Sorter
put (An_if test body at) s = record s { open_if = Some (record { test = test; body = body; at = at }) }
put item s = record s { content = added item s.content }

abbrev pub taken : Item → Sorter → Sorter
taken (An_else other) s = closed other s
taken item s = put item (closed [] s)

-- what the items so far come to, where an else may come next
pub record Sorts (items : List Item) (s : Sorter) : Type 0 where
  pub params : s.content.params ≡ making.params items
  pub body : (rest : List Item) → making.body (items ++ rest) ≡ s.content.body ++ making.body (open_item s.open_if ++ rest)
  pub branches : s.content.branches ≡ making.branches items
  pub otherwise : s.content.otherwise ≡ making.otherwise items
  pub values : s.content.values ≡ making.with_params items
  pub text : s.content.text ≡ making.characters items
