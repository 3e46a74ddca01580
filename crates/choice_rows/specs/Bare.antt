-- Groups without names, and templates without bodies.
use Rattle.std.specs.Prelude.{◌≡◌, ℕ, suc, ◌<◌, Bool, true, false, ◌&&◌, nat_le, nat_lt, is_none, List, [], ◌∷◌, Option, Some, None, length}
use Rattle.std.specs.List.{list_all}
use Rattle.sheet_model.specs.declared.sheet.Group.{Group}
use Rattle.sheet_model.specs.declared.sheet.Template.{Template}
use Rattle.stxpath_syntax.specs.Readable.{IsReadablePattern}
use Rattle.stxpath_syntax.specs.declared.expr.Alternative.{Alternative}
use Rattle.stxpath_syntax.specs.declared.expr.Alternative.TheVariants as alternative
use Rattle.stxpath_syntax.specs.declared.expr.PathStep.{PathStep}
use Rattle.stxpath_syntax.specs.declared.expr.Pattern.{Pattern}

-- a step without predicates
abbrev pub is_plain_step : PathStep → Bool
is_plain_step s = nat_le (length s.predicates) 0

-- an alternative of few steps, none of which has predicates
abbrev pub is_few : Alternative → Bool
is_few alternative.Root = true
is_few (alternative.Steps steps) = nat_le (length steps) 16 && list_all is_plain_step steps

-- a pattern of few such alternatives
abbrev pub is_plain : Pattern → Bool
is_plain p = nat_le (length p.alternatives) 16 && list_all is_few p.alternatives

-- a template of one of so many groups, with a plain pattern, and nothing else
pub record IsBare (groups : ℕ) (t : Template) : Type 0 where
  pub group : t.group < groups
  pub readable : IsReadablePattern t.pattern.alternatives
  pub plain : is_plain t.pattern ≡ true
  pub params : t.params ≡ []
  pub body : t.body ≡ []
  pub file : t.at.file ≡ 0

pub record IsUnnamed (g : Group) : Type 0 where
  pub name : g.name ≡ None
  pub file : g.at.file ≡ 0

abbrev pub is_behind : (number : ℕ) → Option ℕ → Bool
is_behind number None = false
is_behind number (Some parent) = nat_lt parent number

-- each stands behind its parent, where the first of them has a number
abbrev pub are_behind : (number : ℕ) → List Group → Bool
are_behind number [] = true
are_behind number (g ∷ groups) = is_behind number g.parent && are_behind (suc number) groups

abbrev pub are_a_tree : List Group → Bool
are_a_tree [] = false
are_a_tree (root ∷ others) = is_none root.parent && are_behind 1 others
