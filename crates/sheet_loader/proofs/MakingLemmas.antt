-- What elements come to, kind by kind.
use Rattle.std.proofs.Common.{◌≡◌, ℕ, List, Option, Some, None, refl, ap, sym, ◌∙◌}
use Rattle.stx_base.specs.declared.fault.Place.{Place}
use Rattle.stx_base.specs.declared.name.Binding.{Binding}
use Rattle.stxpath_syntax.specs.declared.expr.Expr.{Expr}
use Rattle.sheet_model.specs.declared.instr.Content.TheVariants as content
use Rattle.sheet_loader.specs.Contents.{content_by}
use Rattle.sheet_loader.specs.Making.{Values, characters, content_of, item}
use Rattle.sheet_loader.specs.Meant.{kind_of}
use Rattle.sheet_loader.specs.Reading.{Item}
use Rattle.sheet_loader.specs.declared.kind.Kind.{Kind}

-- what an element of one kind comes to is what an element of the same kind comes to
pub by_kind : (k other : Kind) (group : ℕ) (at : Place) (scope : List Binding) (v : Values) (items made : List Item) → k ≡ other
    → made ≡ item (kind_of other) group at scope v items → made ≡ item (kind_of k) group at scope v items
by_kind k other group at scope v items made e h = h ∙ ap (λ kind. item (kind_of kind) group at scope v items) (sym e)

pub content-held : (o : Option Expr) (text : List ℕ) (items : List Item) → text ≡ characters items → content_by o text ≡ content_of o items
content-held (Some x) text items h = refl
content-held None text items h = ap content.Chars h
