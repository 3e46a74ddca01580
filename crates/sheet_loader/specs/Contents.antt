-- What the list of an element came to, each thing with its like.
use Rattle.std.specs.Prelude.{◌≡◌, ℕ, List, Option, Some, None}
use Rattle.stxpath_syntax.specs.declared.expr.Expr.{Expr}
use Rattle.sheet_model.specs.declared.instr.Content as model
use Rattle.sheet_model.specs.declared.instr.Content.TheVariants as content
use Rattle.sheet_loader.specs.Making as making
use Rattle.sheet_loader.specs.Reading.{Item}
use Rattle.sheet_loader.specs.declared.content.Content.{Content}

-- what these items come to
pub record Holds (items : List Item) (c : Content) : Type 0 where
  pub params : c.params ≡ making.params items
  pub body : c.body ≡ making.body items
  pub branches : c.branches ≡ making.branches items
  pub otherwise : c.otherwise ≡ making.otherwise items
  pub values : c.values ≡ making.with_params items
  pub text : c.text ≡ making.characters items

-- content: the attribute, or without it these characters
abbrev pub content_by : Option Expr → (characters : List ℕ) → model.Content
content_by (Some x) characters = content.Select x
content_by None characters = content.Chars characters
